-- What a child's curiosity leaves is worked out tick by tick: each list that the code makes is the machine's, since both have
-- the same value at every tick.
use Rattle.std.proofs.Common.{◌≡◌, ℕ, zero, suc, ◌<◌, Bool, true, false, not, ◌&&◌, ◌||◌, List, [], ◌∷◌, ◌++◌, length, set, get_or, refl, sym, ap, ap₂, ◌∙◌, subst, arith}
use Rattle.std.specs.Prelude.{nat_le, if◌then◌else◌, Some}
use Rattle.std.proofs.lemmas.Bool.{and_right, or_right, true_from_ne_false, false_from_ne_true}
use Rattle.gr_know.specs.declared.values.K.TheVariants.{Q, F}
use Rattle.gr_curio.specs.declared.values.Q3.{Q3}
use Rattle.gr_curio.specs.declared.values.Q3.TheVariants.{N, C, A}
use Rattle.gr_curio.specs.declared.asks.Moment.TheVariants.{Never}
use Rattle.gr_tick.specs.Runs.{AreRuns, points}
use Rattle.gr_tick.specs.Stored.{RunsGive, is_told}
use Rattle.gr_know.specs.Values.{Known, known_at, is_Q, same_K}
use Rattle.gr_curio.specs.Values.{Wanted, Asked, wanted_at, asked_at, is_C, is_A, is_outstanding, same_moment}
use Rattle.gr_curio.specs.Order.{greater_of}
use Rattle.gr_curio.specs.Due.{due_of, noted_of}
use Rattle.gr_curio.specs.Wants.{all_A_but}
use Rattle.gr_event.specs.Joins.{Joins}
use Rattle.gr_edge.specs.Pass as edge
use Rattle.gr_topo.specs.Topology.{TopologyView}
use Rattle.gr_model.specs.Net.{Net, is_host, keeps_horizon, pass, not_empty}
use Rattle.gr_model.specs.NetOf.{net_of}
use Rattle.gr_model.specs.Broker.{View, Log, seen, all_A, max_tick, is_consolidated_by, consolidated, finished, is_F, open_asks, kept_view, kept_view_below, due, noted, acknowledged, answer, answers, curious, stored, curiosity, know_frames, up_frames}
use Rattle.gr_broker_walks.specs.Told.{left_at, said_by, left_by}
use Rattle.gr_broker_relay.specs.Answers.{reply_to}
use Rattle.gr_broker_relay.specs.Branch.{wantings_below}
use Rattle.gr_tick.proofs.RunLaws.{AreRunsOf, zip_runs-is}
use Rattle.gr_tick.proofs.Canonical.{given_runs, given_zip, value_at-outside}
use Rattle.gr_know.proofs.ValueLaws.{K_decides}
use Rattle.gr_curio.proofs.ValueLaws.{moment_decides}
use Rattle.gr_model_calls.proofs.calls.Pieces.{consolidated-is}
use Rattle.gr_model_calls.proofs.calls.CallTruth.{finished-is}
use Rattle.gr_model_calls.proofs.asks.CallTicks.{due-at, noted-at}
use Rattle.gr_model_calls.proofs.rules.Answering.{acknowledged-is, answers-is, stored-is, curiosity_wanted}
use Rattle.gr_broker_relay.proofs.Shown.{pass_shown}
use Rattle.gr_broker_relay.proofs.LearnedTicks.{told_by_value}
use Rattle.gr_broker_relay.proofs.Learned.{is_F-only}
use Rattle.gr_broker_relay.proofs.AnsweredTicks.{silent_passed, answer_passes, silent_answer, stored_value, stored_A, left_A, left_C, asked_on, swapped, reached_A, finished_value, and_known, due_C, open_value, reaches}

-- What is told

-- curiosity that is asked by a test tells of a tick exactly where the test holds
told_where : (w : Wanted) (t : ℕ) (b : Bool) → AreRuns N w → wanted_at w t ≡ (if b then C else N) → is_told w t ≡ b
told_where w t true a e = true_from_ne_false (is_told w t) (λ n. C_not_N (sym e ∙ (told_by_value N w t a).1 n))
  where
    C_not_N : C ≡ N → ⊥
    C_not_N e = cc
told_where w t false a e = false_from_ne_true (is_told w t) (λ y. (told_by_value N w t a).0 y e)

-- The reply

-- what is said of a piece before the edge, passed by the edge, is the machine's reply
pub reply_is : (t : TopologyView) (v : View) (p c : ℕ) (know said reply : Known) (w piece : Wanted) → AreRuns Q know → AreRuns N w → AreRuns N piece →
    RunsGive Q said (said_by know w piece) →
    RunsGive Q reply (λ u. edge.pass (wantings_below t p c) v.joins u (known_at said u)) →
    reply ≡ answers (seen (net_of t) v) p c know (acknowledged w piece) piece
reply_is t v p c know said reply w piece k a x s r = given_runs Q reply (answers (seen (net_of t) v) p c know (acknowledged w piece) piece) (λ u. edge.pass ws v.joins u (known_at said u)) r i.runs same
  where
    ws : List edge.Wanting
    ws = wantings_below t p c

    i : AreRunsOf Q (λ u. answer (pass (seen (net_of t) v) p c u (known_at know u)) (wanted_at (acknowledged w piece) u) (wanted_at piece u)) (answers (seen (net_of t) v) p c know (acknowledged w piece) piece)
    i = answers-is (seen (net_of t) v) p c know (acknowledged w piece) piece k x

    same : (u : ℕ) → known_at (answers (seen (net_of t) v) p c know (acknowledged w piece) piece) u ≡ edge.pass ws v.joins u (known_at said u)
    same u =
        i.same_at u
        ∙ ap₂ (λ y z. answer y z (wanted_at piece u)) (pass_shown t v p c u (known_at know u)) ((acknowledged-is w piece a x).same_at u)
        ∙ sym (answer_passes ws v.joins u (known_at know u) (wanted_at w u) (wanted_at piece u))
        ∙ ap (edge.pass ws v.joins u) (sym (s.values u))

-- what passes an edge is said of what is wanted behind it
pub passed_by : (said passed : Known) (vs ws : List edge.Wanting) (js : Joins) → vs ≡ ws → RunsGive Q passed (λ u. edge.pass vs js u (known_at said u)) → RunsGive Q passed (λ u. edge.pass ws js u (known_at said u))
passed_by said passed vs ws js e g = record { canonical = g.canonical; in_range = g.in_range; values = λ u. g.values u ∙ ap (λ x. edge.pass x js u (known_at said u)) e }

-- the reply says nothing exactly where nothing is known of an asked tick, and where none was asked
pub reply_silent : (net : Net) (p c : ℕ) (know : Known) (w piece : Wanted) → AreRuns Q know → AreRuns N w → AreRuns N piece → (u : ℕ) →
    is_Q (known_at (answers net p c know (acknowledged w piece) piece) u) ≡ is_Q (said_by know w piece u)
reply_silent net p c know w piece k a x u =
    ap is_Q ((answers-is net p c know (acknowledged w piece) piece k x).same_at u ∙ ap (λ z. answer (pass net p c u (known_at know u)) z (wanted_at piece u)) ((acknowledged-is w piece a x).same_at u))
    ∙ silent_answer (known_at know u) (pass net p c u (known_at know u)) (wanted_at w u) (wanted_at piece u) (silent_passed net p c u (known_at know u))

-- What is stored

-- the child's curiosity raised by what is left, and then without what was answered, is what the machine stores
pub stored_is : (know reply : Known) (w piece left gone raised kept : Wanted) → AreRuns N w → AreRuns N piece →
    ((u : ℕ) → is_Q (known_at reply u) ≡ is_Q (said_by know w piece u)) →
    RunsGive N left (left_by piece reply) →
    RunsGive N gone (λ u. if not (is_Q (known_at reply u)) && is_C (wanted_at w u) then C else N) →
    RunsGive N raised (λ u. greater_of (wanted_at w u) (wanted_at left u)) →
    RunsGive N kept (λ u. if is_told gone u then N else wanted_at raised u) →
    kept ≡ stored know (acknowledged w piece) piece
stored_is know reply w piece left gone raised kept a x silent l g r s =
    let i = stored-is know (acknowledged w piece) piece (acknowledged-is w piece a x).runs x in
    given_runs N kept (stored know (acknowledged w piece) piece) (λ u. if is_told gone u then N else wanted_at raised u) s i.runs
    (λ u. i.same_at u ∙ ap (λ z. curious (known_at know u) z (wanted_at piece u)) ((acknowledged-is w piece a x).same_at u) ∙ sym (same u))
  where
    by_silence : Bool → ℕ → Q3
    by_silence b u = if not b && is_C (wanted_at w u) then N else greater_of (wanted_at w u) (left_at (wanted_at piece u) b)

    same : (u : ℕ) → (if is_told gone u then N else wanted_at raised u) ≡ curious (known_at know u) (if is_A (wanted_at piece u) then A else wanted_at w u) (wanted_at piece u)
    same u =
        ap₂ (λ b z. if b then N else z) (told_where gone u (not (is_Q (known_at reply u)) && is_C (wanted_at w u)) g.canonical (g.values u)) (r.values u ∙ ap (greater_of (wanted_at w u)) (l.values u))
        ∙ ap (λ b. by_silence b u) (silent u)
        ∙ stored_value (known_at know u) (wanted_at w u) (wanted_at piece u)

-- what is stored of a tick
stored_at : (know : Known) (w piece : Wanted) → AreRuns N w → AreRuns N piece → (u : ℕ) → wanted_at (stored know (acknowledged w piece) piece) u ≡ curious (known_at know u) (if is_A (wanted_at piece u) then A else wanted_at w u) (wanted_at piece u)
stored_at know w piece a x u = (stored-is know (acknowledged w piece) piece (acknowledged-is w piece a x).runs x).same_at u ∙ ap (λ z. curious (known_at know u) z (wanted_at piece u)) ((acknowledged-is w piece a x).same_at u)

-- The other children

-- all have where one has and the others have
all_A_set : (i : ℕ) (ws : List Wanted) (x : Wanted) (t : ℕ) → i < length ws → all_A (set ws i x) t ≡ (is_A (wanted_at x t) && all_A_but (Some i) ws t)
all_A_set i [] x t h = absurd (omega (arith, h))
all_A_set zero (w ∷ ws) x t h = refl
all_A_set (suc i) (w ∷ ws) x t h = ap (λ b. is_A (wanted_at w t) && b) (all_A_set i ws x t (omega (arith, h))) ∙ swapped (is_A (wanted_at w t)) (is_A (wanted_at x t)) (all_A_but (Some i) ws t)

all_A_get : (i : ℕ) (ws : List Wanted) (t : ℕ) → i < length ws → all_A ws t ≡ (is_A (wanted_at (get_or ws i []) t) && all_A_but (Some i) ws t)
all_A_get i [] t h = absurd (omega (arith, h))
all_A_get zero (w ∷ ws) t h = refl
all_A_get (suc i) (w ∷ ws) t h = ap (λ b. is_A (wanted_at w t) && b) (all_A_get i ws t (omega (arith, h))) ∙ swapped (is_A (wanted_at w t)) (is_A (wanted_at (get_or ws i []) t)) (all_A_but (Some i) ws t)

-- and with one exchanged there are still some
pub not_empty_set : (i : ℕ) (ws : List Wanted) (x : Wanted) → i < length ws → not_empty (set ws i x) ≡ true
not_empty_set i [] x h = absurd (omega (arith, h))
not_empty_set zero (w ∷ ws) x h = refl
not_empty_set (suc i) (w ∷ ws) x h = refl

-- What is finished

-- each tick that the child's frame completes is made final: all else that is consolidated is final already
pub finished_is : (keeps : Bool) (h i : ℕ) (know after : Known) (ws : List Wanted) (piece left completed : Wanted) (silent : ℕ → Bool) → i < length ws → AreRuns Q know → AreRuns N (get_or ws i []) → AreRuns N piece →
    ((u : ℕ) → is_consolidated_by keeps h ws u ≡ true → known_at know u ≡ F) →
    RunsGive N left (λ u. left_at (wanted_at piece u) (silent u)) →
    RunsGive N completed (λ u. if is_A (wanted_at left u) && nat_le u (if keeps then h else max_tick) && all_A_but (Some i) ws u then A else N) →
    RunsGive Q after (λ u. if is_A (wanted_at completed u) then F else known_at know u) →
    after ≡ finished know (consolidated keeps h (set ws i (stored know (acknowledged (get_or ws i []) piece) piece)))
unfolding finished
finished_is keeps h i know after ws piece left completed silent here k a x final l c f =
    given_zip Q N Q same_K K_decides (λ y z. if is_A z then F else y) know done after refl k d.runs (record { canonical = f.canonical; in_range = f.in_range; values = λ u. f.values u ∙ same u })
  where
    w : Wanted
    w = get_or ws i []

    kept : Wanted
    kept = stored know (acknowledged w piece) piece

    done : Wanted
    done = consolidated keeps h (set ws i kept)

    d : AreRunsOf N (λ u. if is_consolidated_by keeps h (set ws i kept) u then A else N) done
    d = consolidated-is keeps h (set ws i kept) (or_right keeps (not_empty (set ws i kept)) (not_empty_set i ws kept here))

    is_A_if : (b : Bool) → is_A (if b then A else N) ≡ b
    is_A_if true = refl
    is_A_if false = refl

    acks : (u : ℕ) → is_A (wanted_at kept u) ≡ (is_A (wanted_at w u) || is_A (wanted_at left u))
    acks u =
        ap is_A (stored_at know w piece a x u) ∙ stored_A (known_at know u) (wanted_at w u) (wanted_at piece u)
        ∙ ap (λ b. is_A (wanted_at w u) || b) (sym (ap is_A (l.values u) ∙ left_A (wanted_at piece u) (silent u)))

    completes : (u : ℕ) → is_A (wanted_at completed u) ≡ ((is_A (wanted_at left u) && reaches keeps h u) && all_A_but (Some i) ws u)
    completes u = ap is_A (c.values u) ∙ is_A_if _ ∙ ap (λ b. b && all_A_but (Some i) ws u) (reached_A keeps h u (wanted_at left u) (value_at-outside N left u l.canonical l.in_range))

    consolidates : (u : ℕ) → is_A (wanted_at done u) ≡ (reaches keeps h u && ((is_A (wanted_at w u) || is_A (wanted_at left u)) && all_A_but (Some i) ws u))
    consolidates u = ap is_A (d.same_at u) ∙ is_A_if (is_consolidated_by keeps h (set ws i kept) u) ∙ ap (λ b. reaches keeps h u && b) (all_A_set i ws kept u here ∙ ap (λ b. b && all_A_but (Some i) ws u) (acks u))

    same : (u : ℕ) → (if is_A (wanted_at completed u) then F else known_at know u) ≡ (if is_A (wanted_at done u) then F else known_at know u)
    same u =
        ap (λ b. if b then F else known_at know u) (completes u)
        ∙ finished_value (known_at know u) (reaches keeps h u) (is_A (wanted_at left u)) (is_A (wanted_at w u)) (all_A_but (Some i) ws u) (λ e. final u (ap (λ b. reaches keeps h u && b) (all_A_get i ws u here) ∙ e))
        ∙ ap (λ b. if b then F else known_at know u) (sym (consolidates u))

-- What is asked on

-- what the frame does not complete stays as it is known
unfinished : (keeps : Bool) (h i u : ℕ) (know : Known) (ws : List Wanted) (kept : Wanted) → i < length ws → AreRuns Q know → is_A (wanted_at kept u) ≡ false → known_at (finished know (consolidated keeps h (set ws i kept))) u ≡ known_at know u
unfinished keeps h i u know ws kept here k n =
    (finished-is know (consolidated keeps h (set ws i kept)) k d.runs).same_at u
    ∙ ap (λ q. if is_A q then F else known_at know u) (d.same_at u ∙ ap (λ b. if b then A else N) none)
  where
    d : AreRunsOf N (λ u. if is_consolidated_by keeps h (set ws i kept) u then A else N) (consolidated keeps h (set ws i kept))
    d = consolidated-is keeps h (set ws i kept) (or_right keeps (not_empty (set ws i kept)) (not_empty_set i ws kept here))

    none : is_consolidated_by keeps h (set ws i kept) u ≡ false
    none = and_right (reaches keeps h u) (all_A (set ws i kept) u) (all_A_set i ws kept u here ∙ ap (λ b. b && all_A_but (Some i) ws u) n)

-- what is due of what is left is what the machine asks on: a tick that is asked on is unknown, and not made final by this frame
pub asked_is : (keeps : Bool) (h i now retry : ℕ) (know reply : Known) (ws : List Wanted) (asks : Asked) (piece left asked : Wanted) → i < length ws → AreRuns Q know → AreRuns N (get_or ws i []) → AreRuns N piece →
    ((u : ℕ) → is_Q (known_at reply u) ≡ is_Q (said_by know (get_or ws i []) piece u)) →
    RunsGive N left (left_by piece reply) →
    RunsGive N asked (λ u. due_of (asked_at asks u) (wanted_at left u) now retry) →
    asked ≡ due now retry (finished know (consolidated keeps h (set ws i (stored know (acknowledged (get_or ws i []) piece) piece)))) asks (λ u. is_C (wanted_at piece u) && is_Q (known_at reply u)) (points piece ++ points reply)
asked_is keeps h i now retry know reply ws asks piece left asked here k a x silent l r =
    let d = due-at now retry (finished know (consolidated keeps h (set ws i kept))) asks (λ u. is_C (wanted_at piece u) && is_Q (known_at reply u)) (points piece ++ points reply) (curiosity_wanted reply piece x) in
    given_runs N asked (due now retry (finished know (consolidated keeps h (set ws i kept))) asks (λ u. is_C (wanted_at piece u) && is_Q (known_at reply u)) (points piece ++ points reply)) (λ u. due_of (asked_at asks u) (wanted_at left u) now retry) r d.runs
    (λ u. d.same_at u ∙ ap (λ b. if b && not (is_outstanding (asked_at asks u) now retry) then C else N) (same u))
  where
    w : Wanted
    w = get_or ws i []

    kept : Wanted
    kept = stored know (acknowledged w piece) piece

    unknown : (u : ℕ) → (is_C (wanted_at piece u) && is_Q (known_at reply u)) ≡ true → is_Q (known_at (finished know (consolidated keeps h (set ws i kept))) u) ≡ true
    unknown u e =
        let on = asked_on (known_at know u) (wanted_at w u) (wanted_at piece u) (ap (λ b. is_C (wanted_at piece u) && b) (sym (silent u)) ∙ e) in
        ap is_Q (unfinished keeps h i u know ws kept here k (ap is_A (stored_at know w piece a x u) ∙ on.1) ∙ on.0)

    same : (u : ℕ) → (is_C (wanted_at piece u) && is_Q (known_at reply u) && is_Q (known_at (finished know (consolidated keeps h (set ws i kept))) u)) ≡ is_C (wanted_at left u)
    same u =
        and_known (is_C (wanted_at piece u) && is_Q (known_at reply u)) (is_Q (known_at (finished know (consolidated keeps h (set ws i kept))) u)) (unknown u)
        ∙ sym (ap is_C (l.values u) ∙ left_C (wanted_at piece u) (is_Q (known_at reply u)))

-- a tick that is asked on is unknown
pub asked_unknown : (now retry : ℕ) (know reply : Known) (w : Wanted) (asks : Asked) (piece left asked : Wanted) →
    ((u : ℕ) → is_Q (known_at reply u) ≡ is_Q (said_by know w piece u)) →
    RunsGive N left (left_by piece reply) →
    RunsGive N asked (λ u. due_of (asked_at asks u) (wanted_at left u) now retry) →
    (u : ℕ) → is_C (wanted_at asked u) ≡ true → known_at know u ≡ Q
asked_unknown now retry know reply w asks piece left asked silent l r u e =
    let due : is_C (wanted_at left u) ≡ true = due_C (asked_at asks u) (wanted_at left u) now retry (ap is_C (sym (r.values u)) ∙ e) in
    let on : (is_C (wanted_at piece u) && is_Q (known_at reply u)) ≡ true = sym (left_C (wanted_at piece u) (is_Q (known_at reply u))) ∙ (ap is_C (sym (l.values u)) ∙ due) in
    (asked_on (known_at know u) (wanted_at w u) (wanted_at piece u) (ap (λ b. is_C (wanted_at piece u) && b) (sym (silent u)) ∙ on)).0

-- The moments of asks

-- the moments after the asks are noted, without those of ticks that are final only now, are the machine's: of all else that is
-- final there is none, and nothing final is asked
pub asks_is : (now : ℕ) (know finals left_over : Known) (asks noting after : Asked) (asked completed : Wanted) → AreRuns Q left_over → AreRuns Never asks → AreRuns N asked →
    ((u : ℕ) → known_at know u ≡ F → asked_at asks u ≡ Never) →
    ((u : ℕ) → is_C (wanted_at asked u) ≡ true → known_at know u ≡ Q) →
    ((u : ℕ) → known_at finals u ≡ (if is_A (wanted_at completed u) then F else known_at know u)) →
    ((u : ℕ) → is_F (known_at left_over u) ≡ is_F (known_at finals u)) →
    RunsGive Never noting (λ u. noted_of now (asked_at asks u) (wanted_at asked u)) →
    RunsGive Never after (λ u. if is_A (wanted_at completed u) then Never else asked_at noting u) →
    after ≡ open_asks left_over (noted now asks asked)
unfolding open_asks
asks_is now know finals left_over asks noting after asked completed k a s dropped unknown f stays n r =
    let m = noted-at now asks asked a s in
    given_zip Never Q Never same_moment moment_decides (λ moment z. if is_F z then Never else moment) (noted now asks asked) left_over after refl m.runs k
    (record {
      canonical = r.canonical;
      in_range = r.in_range;
      values = λ u.
          r.values u ∙ ap (λ z. if is_A (wanted_at completed u) then Never else z) (n.values u)
          ∙ open_value now (asked_at asks u) (wanted_at asked u) (known_at know u) (is_A (wanted_at completed u)) (dropped u) (unknown u)
          ∙ ap₂ (λ b z. if b then Never else z) (sym (stays u ∙ ap is_F (f u))) (sym (m.same_at u));
    })

-- What stands after it

-- all that is consolidated is final
pub final_by : (keeps : Bool) (h : ℕ) (ws : List Wanted) (know left_over : Known) → (keeps || not_empty ws) ≡ true → AreRuns Q know →
    ((u : ℕ) → is_F (known_at left_over u) ≡ is_F (known_at (finished know (consolidated keeps h ws)) u)) →
    (u : ℕ) → is_consolidated_by keeps h ws u ≡ true → known_at left_over u ≡ F
final_by keeps h ws know left_over some k stays u e =
    let d = consolidated-is keeps h ws some in
    is_F-only (known_at left_over u) (stays u ∙ ap is_F ((finished-is know (consolidated keeps h ws) k d.runs).same_at u
    ∙ ap (λ q. if is_A q then F else known_at know u) (d.same_at u ∙ ap (λ b. if b then A else N) e)))

-- no moment is kept of a final tick
pub dropped_by : (know : Known) (asks : Asked) → AreRuns Q know → AreRuns Never asks → (u : ℕ) → known_at know u ≡ F → asked_at (open_asks know asks) u ≡ Never
unfolding open_asks
dropped_by know asks k a u e = (zip_runs-is Never Q Never same_moment moment_decides (λ moment z. if is_F z then Never else moment) asks know refl a k).same_at u ∙ ap (λ z. if is_F z then Never else asked_at asks u) e

-- what is kept at the host is all
pub kept_host : (net : Net) (p b : ℕ) (v : View) → is_host net p b ≡ true → kept_view net p b v ≡ v
unfolding kept_view
kept_host net p b v host = ap (λ x. elim x [ true ↦ v | false ↦ kept_view_below net p b v ]) host

-- and below it all but what is forgotten
pub kept_below : (net : Net) (p b : ℕ) (v : View) → is_host net p b ≡ false → kept_view net p b v ≡ kept_view_below net p b v
unfolding kept_view
kept_below net p b v host = ap (λ x. elim x [ true ↦ v | false ↦ kept_view_below net p b v ]) host

-- the machine's choice of what is asked on, by whether this is the host
abbrev pub asked_by : Net → ℕ → Wanted → View → Known → Known → Bool → Wanted
asked_by net now piece v reply know true = []
asked_by net now piece v reply know false = due now net.retry know v.asks (λ t. is_C (wanted_at piece t) && is_Q (known_at reply t)) (points piece ++ points reply)

-- the frame leaves what is made of its parts, and then kept
pub answered_by : (net : Net) (p b now c i : ℕ) (piece : Wanted) (v : View) (log : Log) (reply finals : Known) (ws : List Wanted) (asked : Wanted) →
    reply ≡ answers net p c v.know (acknowledged (get_or v.wants i []) piece) piece →
    ws ≡ set v.wants i (stored v.know (acknowledged (get_or v.wants i []) piece) piece) →
    finals ≡ finished v.know (consolidated (keeps_horizon net p b) v.horizon ws) →
    asked ≡ asked_by net now piece v reply finals (is_host net p b) →
    kept_view net p b (record { know = finals; wants = ws; asks = noted now v.asks asked; horizon = v.horizon; joins = v.joins }) ≡ (curiosity net p b now c i piece v log).view
unfolding curiosity
answered_by net p b now c i piece v log reply finals ws asked er ew ef eq = rw (eq, ef, ew, er) refl

-- what is made final, as the machine does it
abbrev pub finals_of : Net → ℕ → ℕ → ℕ → Wanted → View → Known
finals_of net p b i piece v = finished v.know (consolidated (keeps_horizon net p b) v.horizon (set v.wants i (stored v.know (acknowledged (get_or v.wants i []) piece) piece)))

-- what the code asks on is the machine's choice
pub asked_are : (net : Net) (p b now i : ℕ) (piece : Wanted) (v : View) (left asked : Wanted) → i < length v.wants → AreRuns Q v.know → AreRuns N (get_or v.wants i []) → AreRuns N piece →
    RunsGive N left (left_by piece (reply_to net p b i piece v)) →
    (is_host net p b ≡ true → asked ≡ []) →
    (is_host net p b ≡ false → RunsGive N asked (λ u. due_of (asked_at v.asks u) (wanted_at left u) now net.retry)) →
    asked ≡ asked_by net now piece v (reply_to net p b i piece v) (finals_of net p b i piece v) (is_host net p b)
asked_are net p b now i piece v left asked here k a x l host below = by_host (is_host net p b) host below
  where
    c : ℕ
    c = get_or (net.children p b) i 0

    by_host : (z : Bool) → (z ≡ true → asked ≡ []) → (z ≡ false → RunsGive N asked (λ u. due_of (asked_at v.asks u) (wanted_at left u) now net.retry)) →
        asked ≡ asked_by net now piece v (reply_to net p b i piece v) (finals_of net p b i piece v) z
    by_host true h e = h refl
    by_host false h e = asked_is (keeps_horizon net p b) v.horizon i now net.retry v.know (reply_to net p b i piece v) v.wants v.asks piece left asked here k a x (reply_silent net p c v.know (get_or v.wants i []) piece k a x) l (e refl)

-- what is sent is the machine's reply, and what it asks on
pub frames_are : (net : Net) (p b now i : ℕ) (piece : Wanted) (v : View) (log : Log) (reply : Known) (left asked : Wanted) → i < length v.wants → AreRuns Q v.know → AreRuns N (get_or v.wants i []) → AreRuns N piece →
    reply ≡ reply_to net p b i piece v →
    RunsGive N left (left_by piece reply) →
    (is_host net p b ≡ true → asked ≡ []) →
    (is_host net p b ≡ false → RunsGive N asked (λ u. due_of (asked_at v.asks u) (wanted_at left u) now net.retry)) →
    know_frames v.joins b (get_or (net.children p b) i 0) p reply ++ up_frames net p b asked ≡ (curiosity net p b now (get_or (net.children p b) i 0) i piece v log).frames
unfolding curiosity
frames_are net p b now i piece v log reply left asked here k a x e l host below =
    ap₂ (λ r s. know_frames v.joins b (get_or (net.children p b) i 0) p r ++ up_frames net p b s) e
    (asked_are net p b now i piece v left asked here k a x (subst (λ r. RunsGive N left (left_by piece r)) e l) host below)

-- no line is told
pub no_lines : (net : Net) (p b now c i : ℕ) (piece : Wanted) (v : View) (log : Log) → (curiosity net p b now c i piece v log).lines ≡ []
unfolding curiosity
no_lines net p b now c i piece v log = refl

-- at the host nothing is asked, so no moment is noted
pub none_noted : (now : ℕ) → noted now [] [] ≡ []
unfolding noted
none_noted now = refl
