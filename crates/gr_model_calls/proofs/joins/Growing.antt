-- What is still to be joined is carried back over each call, whatever net it sees
use Rattle.std.proofs.Common.{◌≡◌, ℕ, suc, zero, ◌+◌, ◌≤◌, ◌<◌, max, Bool, true, false, List, [], ◌∷◌, set, get_or, refl, sym, ap, subst, arith, le_refl}
use Rattle.std.proofs.lemmas.Bool.{leb-true}
use Rattle.gr_event.specs.declared.event.Event.{Event}
use Rattle.gr_event.specs.Joins.{Joins, longer}
use Rattle.gr_frame.specs.declared.Body.{Body}
use Rattle.gr_frame.specs.declared.Body.TheVariants as body
use Rattle.gr_frame.specs.declared.Frame.{Frame}
use Rattle.gr_know.specs.Values.{Known}
use Rattle.gr_model.specs.Net.{Net, is_host}
use Rattle.gr_model.specs.Broker.{View, Log, Outcome, with_event, with_joins, drops, learn, curiosity, expect, asking, marking, wake_host, wake_below, wake, publish, joining, receive, place_of, empty_log}
use Rattle.gr_model.specs.World.{World, view_of, log_of, absorbed, wake_for_by, deliver_frame_by, publish_now_by, join_now_by, restarted}
use Rattle.gr_model_calls.specs.Truth.{Grows}
use Rattle.gr_model_calls.proofs.calls.Held.{grows_not, grows_on}
use Rattle.gr_model_calls.proofs.calls.HostCases.{publish_cases, marking_cases, joining_cases}
use Rattle.gr_model_calls.proofs.calls.Calls.{learn_log}
use Rattle.gr_model_calls.proofs.calls.Cutting.{cutting_settled, cutting_joins}
use Rattle.gr_model_calls.proofs.runs.Closed.{with_logs}
use Rattle.gr_model_calls.proofs.runs.Seeing.{Backs}

-- a log that goes on from another
pub record GoesOn (log new : Log) : Type 0 where
  pub settled : log.settled ≤ new.settled
  pub joined : Grows log.joins new.joins log.settled

pub still_on : (log : Log) → GoesOn log log
still_on log = record { settled = le_refl log.settled; joined = grows_not log.joins log.settled }

pub on_by : (log new later : Log) → later ≡ new → GoesOn log new → GoesOn log later
on_by log new later e g = subst (GoesOn log) (sym e) g

wake_on : (net : Net) (p b now : ℕ) (v : View) (log : Log) → GoesOn log (wake net p b now v log).log
unfolding wake wake_host wake_below asking
wake_on net p b now v log = go (is_host net p b)
  where
    marked : GoesOn log (marking net p b now v log).log
    marked = marking_cases net p b now v log (λ o. GoesOn log o.log)
        (λ e. on_by log _ _ (learn_log net p b _ v _) (record { settled = omega (arith, leb-true (log.settled + net.quiet) now e); joined = grows_not log.joins log.settled }))
        (λ e. still_on log)

    go : (q : Bool) → (let o : Outcome = elim q [ true ↦ wake_host net p b now v log | false ↦ wake_below net p b now v log ] in GoesOn log o.log)
    go true = let o = marking net p b now v log in record {
      settled = subst (λ y. log.settled ≤ y) (sym (cutting_settled net p b o.view o.log)) marked.settled;
      joined = subst (λ y. Grows log.joins y log.settled) (sym (cutting_joins net p b o.view o.log)) marked.joined;
    }
    go false = still_on log

receive_on : (net : Net) (now : ℕ) (f : Frame) (v : View) (log : Log) → GoesOn log (receive net now f v log).log
unfolding receive curiosity expect asking
receive_on net now f v log = go f.body
  where
    learned : (runs : Known) (js : Joins) (q : Bool) → (let o : Outcome = elim q [ true ↦ record { view = v; log = log; lines = []; frames = [] } | false ↦ learn net f.head.publisher f.head.to runs (with_joins v (longer v.joins js)) log ] in GoesOn log o.log)
    learned runs js true = still_on log
    learned runs js false = on_by log log _ (learn_log net f.head.publisher f.head.to runs (with_joins v (longer v.joins js)) log) (still_on log)

    go : (y : Body) → (let o : Outcome = elim y [
      | body.Knowledge runs js ↦ elim (drops v runs js) [ true ↦ record { view = v; log = log; lines = []; frames = [] } | false ↦ learn net f.head.publisher f.head.to runs (with_joins v (longer v.joins js)) log ]
      | body.Curiosity runs ↦ curiosity net f.head.publisher f.head.to now f.head.from (place_of f.head.from (net.children f.head.publisher f.head.to)) runs v log
      | body.Expect tick ↦ expect net f.head.publisher f.head.to now tick v log
    ] in GoesOn log o.log)
    go (body.Knowledge runs js) = learned runs js (drops v runs js)
    go (body.Curiosity runs) = still_on log
    go (body.Expect tick) = still_on log

publish_on : (net : Net) (p b now number : ℕ) (e : Event) (v : View) (log : Log) → GoesOn log (publish net p b now number e v log).log
publish_on net p b now number e v log = publish_cases net p b now number e v log (λ o. GoesOn log o.log) (λ l. still_on log) (λ l. still_on log) (λ x l. still_on log)
    (λ x l. on_by log _ _ (learn_log net p b _ v _) (record { settled = omega arith; joined = grows_not log.joins log.settled }))

joining_on : (net : Net) (p b now s : ℕ) (v : View) (log : Log) → GoesOn log (joining net p b now s v log).log
joining_on net p b now s v log = joining_cases net p b now s v log (λ o. GoesOn log o.log) (λ e. still_on log) (λ e l. still_on log)
    (λ e l. on_by log _ _ (learn_log net p b _ _ _) (record { settled = omega arith; joined = (record { subscriber = s; tick = max (suc log.settled) now } ∷ [], refl, (omega arith, tt)) }))

-- what is still to be joined for each publisher comes past what is settled
abbrev pub AheadOf : Net → (ℕ → Joins) → World → Type 0
AheadOf net last w = (p : ℕ) → p < net.publishers → Grows (log_of w p).joins (last p) (log_of w p).settled

-- the one at a place of a list where one was set is that, or what was there
pub set_or : {X : Type 0} (xs : List X) (i j : ℕ) (y d : X) (P : X → Type 0) → P (get_or xs j d) → (j ≡ i → P y) → P (get_or (set xs i y) j d)
set_or [] i j y d P a b = a
set_or (x ∷ xs) zero zero y d P a b = b refl
set_or (x ∷ xs) zero (suc j) y d P a b = a
set_or (x ∷ xs) (suc i) zero y d P a b = a
set_or (x ∷ xs) (suc i) (suc j) y d P a b = set_or xs i j y d P a (λ e. b (ap suc e))

back_by : (net : Net) (last : ℕ → Joins) (w u : World) → ((q : ℕ) → GoesOn (log_of w q) (log_of u q)) → AheadOf net last u → AheadOf net last w
back_by net last w u g b q i = grows_on (log_of w q).joins (log_of u q).joins (last q) (log_of w q).settled (log_of u q).settled (g q).settled (g q).joined (b q i)

pub absorbed_back : (net : Net) (last : ℕ → Joins) (w : World) (b p : ℕ) (o : Outcome) → GoesOn (log_of w p) o.log → AheadOf net last (absorbed w b p o).world → AheadOf net last w
unfolding absorbed
absorbed_back net last w b p o g = back_by net last w (absorbed w b p o).world (λ q. set_or w.logs p q o.log empty_log (GoesOn (log_of w q)) (still_on (log_of w q)) (λ e. subst (λ z. GoesOn (log_of w z) o.log) (sym e) g))

pub growing : (net : Net) (see : View → Net) (last : ℕ → Joins) → Backs net see (AheadOf net last)
unfolding wake_for_by deliver_frame_by publish_now_by join_now_by restarted
growing net see last = record {
  woken = λ b p w. absorbed_back net last w b p _ (wake_on (see (view_of w b p)) p b w.clock (view_of w b p) (log_of w p));
  delivered = λ f w. absorbed_back net last w f.head.to f.head.publisher _ (receive_on _ w.clock f (view_of w f.head.to f.head.publisher) (log_of w f.head.publisher));
  published = λ p number e w. absorbed_back net last w (net.host p) p _ (publish_on (see (view_of w (net.host p) p)) p (net.host p) w.clock number e (view_of w (net.host p) p) (log_of w p));
  joined = λ s p w. absorbed_back net last w (net.host p) p _ (joining_on _ p (net.host p) w.clock s (view_of w (net.host p) p) (log_of w p));
  at_clock = λ w now most b. b;
  kept = λ w p e b. back_by net last w (with_logs w (set w.logs p (with_event (log_of w p) (max (suc (log_of w p).settled) w.clock) e)))
      (λ q. set_or w.logs p q (with_event (log_of w p) (max (suc (log_of w p).settled) w.clock) e) empty_log (GoesOn (log_of w q)) (still_on (log_of w q)) (λ x. subst (λ z. GoesOn (log_of w z) (with_event (log_of w p) (max (suc (log_of w p).settled) w.clock) e)) (sym x) (record { settled = omega arith; joined = grows_not (log_of w p).joins (log_of w p).settled })));
  again = λ w b h. h;
}
