-- After every schedule a sweep settles everything, since each publisher in turn is calm after its second phase, and every subscriber has all that was logged for it
use Rattle.std.proofs.Common.{◌≡◌, inl, inr, ℕ, suc, zero, ◌+◌, ◌≤◌, ◌<◌, max, Bool, true, false, ◌&&◌, List, [], ◌∷◌, refl, sym, ap, ◌∙◌, Some, None, arith}
use Rattle.std.specs.Prelude.{nat_le, nat_lt, filter, if◌then◌else◌}
use Rattle.std.proofs.lemmas.Bool.{cases_lt, le-leb, le-ltb, leb-true, true≢false}
use Rattle.gr_event.specs.declared.event.Event.{Event}
use Rattle.gr_model.specs.declared.report.Report.TheVariants as line
use Rattle.gr_model.specs.Net.{Net, numbers, numbers_from}
use Rattle.gr_model.specs.Broker.{max_tick}
use Rattle.gr_model.specs.World.{World, Transition, log_of, unchanged, followed_by, in_turn, sweep_moment, start, sweep_by}
use Rattle.gr_model_calls.specs.OneNet.{sweep_for, sweep, run_all, history_of}
use Rattle.gr_model_calls.specs.Said.{said_at, TicksRise, due_upto}
use Rattle.gr_model.specs.Headline.{History, reopened_cut, begin, record_of, settling}
use Rattle.gr_model_theorems.specs.Settles.{SweepSettles, AllGot, is_accepted, at_sweep}
use Rattle.gr_model.specs.Tree.{IsNet}
use Rattle.gr_model_calls.specs.Fits.{StepsIn, WorldFits, reached_in}
use Rattle.gr_sched.specs.declared.step.Line.{Line}
use Rattle.gr_model_calls.proofs.calls.Told.{said_at-here, said_at-past}
use Rattle.gr_model_calls.proofs.runs.Schedules.{clocked_fits, sweep_kept}
use Rattle.gr_model_theorems.proofs.records.Records.{core_of}
use Rattle.gr_model_theorems.proofs.records.Recorded.{Sweeps, sweeps_from, marked_now, settled_below, record_core}
use Rattle.gr_model_calls.proofs.runs.Worlds.{reached_here}
use Rattle.gr_model_theorems.proofs.sweep.SweepStates.{Begins, Unknowns}
use Rattle.gr_model_theorems.proofs.sweep.FirstUnknown.{unknowns_always}
use Rattle.gr_model_theorems.proofs.sweep.FirstPhase.{first_phase_asks}
use Rattle.gr_model_theorems.proofs.sweep.SecondPhase.{second_phase_calms}
use Rattle.gr_model_theorems.proofs.sweep.SecondBrings.{begins_on}
use Rattle.gr_model_theorems.proofs.headline.WithoutSweeps.{Whole, start_whole}
use Rattle.gr_model_theorems.proofs.headline.AfterSweeps.{stands_where_sweeps_reach}
use Rattle.gr_model_theorems.proofs.headline.SecondReaches.{moment_begins, sweeps_reach}
use Rattle.gr_model_theorems.proofs.headline.SettlesAll.{CalmTurns, settles_where_calm, keeps_at_subscriber}

calm_turns : (net : Net) (m a k : ℕ) (w : World) → IsNet net → 1 ≤ net.quiet → 1 ≤ net.retry → a + k ≤ net.publishers → ((p : ℕ) → a ≤ p → p < a + k → Begins net p m w) → CalmTurns net m (numbers_from a k) w
calm_turns net m a zero w n z r l h = tt
calm_turns net m a (suc k) w n z r l h =
    let b = h a (omega arith) (omega arith) in (
      second_phase_calms net a m w n b (first_phase_asks net a m w n r z b),
      calm_turns net m (suc a) k (sweep_for net w a).world n z r (omega (arith, l)) (λ p x y. begins_on net p a m w n (λ e. omega (arith, e, x)) (omega (arith, l)) (h p (omega (arith, x)) (omega (arith, y)))),
    )

-- a sweep that is not refused settles everything, from a world that stands with its history
pub settles_at : (net : Net) (w : World) (h : History) (k : ℕ) → IsNet net → 1 ≤ net.quiet → 1 ≤ net.retry → Whole net w h → Unknowns net w → is_accepted net w ≡ true → SweepSettles net w k
settles_at net w h k n z r x unknown ok =
    let s = x.stands in
    settles_where_calm net w k (reopened_cut h) h.lines n z r s.fits s.lines s.ordered (le-ltb max_tick (sweep_moment net w) (leb-true (sweep_moment net w) max_tick ok))
    (calm_turns net (sweep_moment net w) 0 net.publishers (at_sweep net w) n z r (omega arith) (λ p x y. moment_begins net w p s.fits s.asks unknown (omega (arith, y))))

-- a sweep that is not refused leaves the record, settled at its moment
swept_core : (net : Net) (w : World) (k p : ℕ) → IsNet net → 1 ≤ net.quiet → WorldFits net w → p < net.publishers → nat_lt max_tick (sweep_moment net w) ≡ false → core_of (sweep net w k).world p ≡ settling (sweep_moment net w) (core_of w p)
unfolding sweep_by
swept_core net w k p n z f j ok = go (nat_lt max_tick m) ok
  where
    m : ℕ
    m = sweep_moment net w

    u : World
    u = record { clock = m; most = max m w.most; frames = w.frames; views = w.views; logs = w.logs }

    s : Sweeps net u (in_turn (sweep_for net) (numbers net.publishers) u).world 0 net.publishers
    s = sweeps_from net u 0 net.publishers n z (clocked_fits net w m (max m w.most) f) (omega arith)

    go : (q : Bool) → q ≡ false → (let t : Transition = elim q [ true ↦ unchanged w (line.RefusedClock k m ∷ []) | false ↦ followed_by (in_turn (sweep_for net) (numbers net.publishers) u) (λ x. unchanged x (line.Swept m ∷ [])) ] in core_of t.world p) ≡ settling m (core_of w p)
    go true e = absurd (true≢false e)
    go false e = s.inside p (omega arith) (omega (arith, j)) ∙ marked_now net m (core_of w p) (settled_below net w p f j)

-- what is due up to where all is settled is all that is wanted
due_all : (net : Net) (p s m from : ℕ) (events : List (ℕ × Event)) → TicksRise from events → ((t : ℕ) → m < t → said_at events t ≡ None) → due_upto net p s m events ≡ filter (λ x. net.wants p s x.0 x.1) events
due_all net p s m from [] r h = refl
due_all net p s m from (x ∷ xs) r h = go (net.wants p s x.0 x.1) (due_all net p s m x.0 xs r.1 (λ t l. sym (said_at-past x xs t (λ e. omega (arith, e, l, low))) ∙ h t l))
  where
    some_none : (e : Event) → Some e ≡ None → ⊥
    some_none e q = cc

    low : x.0 ≤ m
    low = elim (cases_lt m x.0) [
      | inl l ↦ absurd (some_none x.1 (sym (said_at-here x xs x.0 refl) ∙ h x.0 l))
      | inr l ↦ l
    ]

    go : (q : Bool) → due_upto net p s m xs ≡ filter (λ x. net.wants p s x.0 x.1) xs → (if nat_le x.0 m && q then x ∷ due_upto net p s m xs else due_upto net p s m xs) ≡ (if q then x ∷ filter (λ x. net.wants p s x.0 x.1) xs else filter (λ x. net.wants p s x.0 x.1) xs)
    go true e = rw (le-leb x.0 m low) (ap (λ z. x ∷ z) e)
    go false e = rw (le-leb x.0 m low) e

-- after such a sweep each subscriber has got all that is recorded and that it wants
pub hands_over_at : (net : Net) (w : World) (h : History) (k : ℕ) → IsNet net → 1 ≤ net.quiet → 1 ≤ net.retry → Whole net w h → Unknowns net w → is_accepted net w ≡ true → AllGot net h w k
hands_over_at net w h k n z r x unknown ok s p a j =
    let v = (sweep net w k).world in
    let q = settles_at net w h k n z r x unknown ok in
    let f = x.stands.fits in
    let kept = sweep_kept net w k n f in
    let y = n.subscriber s a in
    let log = kept.fits.logs p j in
    let reached : reached_in net v p s ≡ (log_of v p).settled = reached_here net v p s y ∙ (q.horizons p (net.at s) j y.at_in (keeps_at_subscriber net p s y) ∙ sym (q.settled p j)) in
    let events : (log_of v p).events ≡ (record_of h p).events =
    ap (λ c. c.events) (swept_core net w k p n z f j (le-ltb max_tick (sweep_moment net w) (leb-true (sweep_moment net w) max_tick ok))) ∙ ap (λ c. c.events) (sym (record_core net w h p x.stands.records)) in
    (kept.lines h.lines x.stands.lines).got p s j y
    ∙ (ap (λ z. due_upto net p s z (log_of v p).events) reached ∙ (due_all net p s (log_of v p).settled 0 (log_of v p).events log.rise log.past ∙ ap (filter (λ x. net.wants p s x.0 x.1)) events))

-- Over every schedule

whole_always : (net : Net) (steps : List Line) → IsNet net → 1 ≤ net.quiet → 1 ≤ net.retry → StepsIn net steps → Whole net (run_all net (start net) steps).world (history_of net steps) × Unknowns net (run_all net (start net) steps).world
whole_always net steps n z r i = stands_where_sweeps_reach net (start net) (begin net) steps n (sweeps_reach net n z r) z i (start_whole net n) (unknowns_always net [] n tt)

-- after every schedule an accepted sweep settles everything: each kept horizon, log and cut is at its moment
pub sweep_settles : (net : Net) (steps : List Line) (k : ℕ) → IsNet net → 1 ≤ net.quiet → 1 ≤ net.retry → StepsIn net steps → is_accepted net (run_all net (start net) steps).world ≡ true → SweepSettles net (run_all net (start net) steps).world k
sweep_settles net steps k n z r i ok =
    let x = whole_always net steps n z r i in
    settles_at net (run_all net (start net) steps).world (history_of net steps) k n z r x.0 x.1 ok

-- after every schedule an accepted sweep leaves each subscriber with all that was logged for it
pub sweep_hands_over : (net : Net) (steps : List Line) (k : ℕ) → IsNet net → 1 ≤ net.quiet → 1 ≤ net.retry → StepsIn net steps → is_accepted net (run_all net (start net) steps).world ≡ true → AllGot net (history_of net steps) (run_all net (start net) steps).world k
sweep_hands_over net steps k n z r i ok =
    let x = whole_always net steps n z r i in
    hands_over_at net (run_all net (start net) steps).world (history_of net steps) k n z r x.0 x.1 ok
