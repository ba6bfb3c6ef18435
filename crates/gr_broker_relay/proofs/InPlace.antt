-- Once the code has put its answers in place, what is known, wanted and asked is the machine's view, and what each call needs of it
-- holds.
use Rattle.std.proofs.Common.{◌≡◌, ℕ, zero, suc, ◌<◌, true, false, ◌||◌, List, [], ◌∷◌, length, set, get_or, refl, sym, ap, ap₂, ◌∙◌}
use Rattle.std.specs.Prelude.{if◌then◌else◌}
use Rattle.std.proofs.lemmas.Bool.{both_ways, or_right}
use Rattle.std.proofs.lemmas.List.{length-set}
use Rattle.gr_know.specs.declared.values.K.TheVariants.{Q, F}
use Rattle.gr_curio.specs.declared.values.Q3.TheVariants.{N}
use Rattle.gr_curio.specs.declared.asks.Moment.TheVariants.{Never}
use Rattle.gr_tick.specs.Runs.{AreRuns}
use Rattle.gr_tick.specs.Stored.{RunsGive, is_told}
use Rattle.gr_know.specs.Values.{Known, known_at, is_Q}
use Rattle.gr_curio.specs.Values.{Wanted, Asked, wanted_at, asked_at, is_A}
use Rattle.gr_curio.specs.Order.{greater_of}
use Rattle.gr_curio.specs.Due.{due_of, noted_of}
use Rattle.gr_model.specs.Net.{Net, is_host, keeps_horizon, not_empty}
use Rattle.gr_model.specs.Broker.{View, Log, max_tick, consolidated, finished, is_F, open_asks, forgotten, kept_view, noted, acknowledged, stored, curiosity}
use Rattle.gr_broker_relay.specs.declared.answering.Answers.{Answers}
use Rattle.gr_broker_relay.specs.Kept.{IsKept}
use Rattle.gr_broker_walks.specs.Told.{said_by}
use Rattle.gr_broker_relay.specs.Answers.{reply_to, AreAnswers}
use Rattle.gr_model_calls.proofs.asks.CallTicks.{noted-at}
use Rattle.gr_broker_relay.proofs.Answered.{reply_silent, stored_is, not_empty_set, finished_is, asked_unknown, asks_is, final_by, dropped_by, kept_host, kept_below, asked_by, answered_by, asked_are, none_noted}

set_again : (ws : List Wanted) (i : ℕ) (x y : Wanted) → set (set ws i x) i y ≡ set ws i y
set_again [] i x y = refl
set_again (w ∷ ws) zero x y = refl
set_again (w ∷ ws) (suc i) x y = ap (λ zs. w ∷ zs) (set_again ws i x y)

-- what is known, wanted and asked once the code has put its answers in place is the machine's view, and is kept as each call
-- needs it
pub record IsApplied (net : Net) (p b now i : ℕ) (piece : Wanted) (v new : View) : Type 0 where
  pub view : (log : Log) → new ≡ (curiosity net p b now (get_or (net.children p b) i 0) i piece v log).view
  pub kept : IsKept net p b new

module _ (net : Net) (p b now i : ℕ) (piece : Wanted) (v : View) (a : Answers) (h : AreAnswers net p b now i piece v a) (fits : IsKept net p b v) (here : i < length v.wants) (k : AreRuns Q v.know) (w : AreRuns N (get_or v.wants i [])) (x : AreRuns N piece)
    (raised ws : List Wanted) (finals : Known)
    (raises : RunsGive N (get_or raised i []) (λ u. greater_of (wanted_at (get_or v.wants i []) u) (wanted_at a.left u))) (others : raised ≡ set v.wants i (get_or raised i []))
    (takes : RunsGive N (get_or ws i []) (λ u. if is_told a.answered u then N else wanted_at (get_or raised i []) u)) (rest : ws ≡ set raised i (get_or ws i []))
    (finishes : RunsGive Q finals (λ u. if is_A (wanted_at a.completed u) then F else known_at v.know u)) where
  abbrev child : ℕ
  child = get_or (net.children p b) i 0

  abbrev reply : Known
  reply = reply_to net p b i piece v

  abbrev kept : Wanted
  kept = stored v.know (acknowledged (get_or v.wants i []) piece) piece

  silent : (u : ℕ) → is_Q (known_at reply u) ≡ is_Q (said_by v.know (get_or v.wants i []) piece u)
  silent u = reply_silent net p child v.know (get_or v.wants i []) piece k w x u

  wants_are : ws ≡ set v.wants i kept
  wants_are =
      rest ∙ ap (λ zs. set zs i (get_or ws i [])) others ∙ set_again v.wants i (get_or raised i []) (get_or ws i [])
      ∙ ap (set v.wants i) (stored_is v.know reply (get_or v.wants i []) piece a.left a.answered (get_or raised i []) (get_or ws i []) w x silent h.left h.answered raises takes)

  finals_are : finals ≡ finished v.know (consolidated (keeps_horizon net p b) v.horizon (set v.wants i kept))
  finals_are = finished_is (keeps_horizon net p b) v.horizon i v.know finals v.wants piece a.left a.completed (λ u. is_Q (known_at reply u)) here k w x fits.final h.left h.completed finishes

  finals_by : finals ≡ finished v.know (consolidated (keeps_horizon net p b) v.horizon ws)
  finals_by = finals_are ∙ ap (λ zs. finished v.know (consolidated (keeps_horizon net p b) v.horizon zs)) (sym wants_are)

  asks_by : a.asked ≡ asked_by net now piece v reply finals (is_host net p b)
  asks_by = asked_are net p b now i piece v a.left a.asked here k w x h.left h.asks_nobody h.asked ∙ ap (λ z. asked_by net now piece v reply z (is_host net p b)) (sym finals_are)

  machine_view : (log : Log) → kept_view net p b (record { know = finals; wants = ws; asks = noted now v.asks a.asked; horizon = v.horizon; joins = v.joins }) ≡ (curiosity net p b now child i piece v log).view
  machine_view log = answered_by net p b now child i piece v log reply finals ws a.asked refl wants_are finals_by asks_by

  some : (keeps_horizon net p b || not_empty ws) ≡ true
  some = or_right (keeps_horizon net p b) (not_empty ws) (ap not_empty wants_are ∙ not_empty_set i v.wants kept here)

  many : length ws ≡ length (net.children p b)
  many = ap length wants_are ∙ length-set v.wants i kept ∙ fits.wants

  -- at the host the moments stay, and nothing is forgotten
  pub applied_host : is_host net p b ≡ true → IsApplied net p b now i piece v (record { know = finals; wants = ws; asks = v.asks; horizon = v.horizon; joins = v.joins })
  applied_host host = record {
    view = λ log. sym (kept_host net p b (record { know = finals; wants = ws; asks = v.asks; horizon = v.horizon; joins = v.joins }) host) ∙ ap (λ z. kept_view net p b (record { know = finals; wants = ws; asks = z; horizon = v.horizon; joins = v.joins })) (sym still) ∙ machine_view log;
    kept = record {
      wants = many;
      final = final_by (keeps_horizon net p b) v.horizon ws v.know finals some k (λ u. ap (λ z. is_F (known_at z u)) finals_by);
      dropped = λ below. absurd (both_ways (is_host net p b) below host);
      asks_nobody = λ _. fits.asks_nobody host;
      none_kept = fits.none_kept;
      joins = fits.joins;
    };
  }
    where
      still : noted now v.asks a.asked ≡ v.asks
      still = ap₂ (noted now) (fits.asks_nobody host) (h.asks_nobody host) ∙ none_noted now ∙ sym (fits.asks_nobody host)

  -- below it the moments are noted, those of what is final now are dropped, and events are forgotten
  pub applied_below : is_host net p b ≡ false → (left_over : Known) (noting after : Asked) → AreRuns Never v.asks → AreRuns Q left_over →
      left_over ≡ forgotten net.cache (if keeps_horizon net p b then v.horizon else max_tick) finals →
      ((u : ℕ) → is_F (known_at left_over u) ≡ is_F (known_at finals u)) →
      RunsGive Never noting (λ u. noted_of now (asked_at v.asks u) (wanted_at a.asked u)) →
      RunsGive Never after (λ u. if is_A (wanted_at a.completed u) then Never else asked_at noting u) →
      IsApplied net p b now i piece v (record { know = left_over; wants = ws; asks = after; horizon = v.horizon; joins = v.joins })
  applied_below below left_over noting after m l forgets stays notes drops = record {
    view = λ log. ap₂ (λ y z. record { know = y; wants = ws; asks = z; horizon = v.horizon; joins = v.joins }) forgets (moments ∙ ap (λ y. open_asks y (noted now v.asks a.asked)) forgets)
        ∙ sym (kept_below net p b (record { know = finals; wants = ws; asks = noted now v.asks a.asked; horizon = v.horizon; joins = v.joins }) below) ∙ machine_view log;
    kept = record {
      wants = many;
      final = final_by (keeps_horizon net p b) v.horizon ws v.know left_over some k (λ u. stays u ∙ ap (λ z. is_F (known_at z u)) finals_by);
      dropped = λ _ t e. ap (λ z. asked_at z t) moments ∙ dropped_by left_over (noted now v.asks a.asked) l (noted-at now v.asks a.asked m asked.canonical).runs t e;
      asks_nobody = λ host. absurd (both_ways (is_host net p b) below host);
      none_kept = fits.none_kept;
      joins = fits.joins;
    };
  }
    where
      asked : RunsGive N a.asked (λ u. due_of (asked_at v.asks u) (wanted_at a.left u) now net.retry)
      asked = h.asked below

      moments : after ≡ open_asks left_over (noted now v.asks a.asked)
      moments = asks_is now v.know finals left_over v.asks noting after a.asked a.completed l m asked.canonical (fits.dropped below) (asked_unknown now net.retry v.know reply (get_or v.wants i []) v.asks piece a.left a.asked silent h.left asked) finishes.values stays notes drops
