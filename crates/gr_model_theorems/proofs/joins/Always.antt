-- What holds of every schedule, joins and all: what holds of the run on the net of its last joins, said of what the record or the logs show
use Rattle.std.proofs.Common.{◌≡◌, inr, ℕ, zero, suc, ◌<◌, ◌≤◌, Bool, true, false, ◌&&◌, List, [], ◌∷◌, ◌++◌, map, filter, replicate, get_or, refl, sym, ap, ◌∙◌, subst}
use Rattle.std.specs.Prelude.{nat_eq, nat_le, if◌then◌else◌, Contains, ◌↔◌}
use Rattle.std.specs.List.{list_any}
use Rattle.gr_event.specs.declared.event.Event.{Event}
use Rattle.gr_event.specs.Joins.{Joins}
use Rattle.gr_order.specs.declared.item.Item.{Item}
use Rattle.gr_sched.specs.declared.step.Step.TheVariants as step
use Rattle.gr_sched.specs.declared.step.Line.{Line}
use Rattle.gr_model.specs.declared.report.Report.{Report}
use Rattle.gr_model.specs.Net.{Net, with_wants, wants_with}
use Rattle.gr_model.specs.Tree.{IsNet, IsSubscriber, IsDistinct}
use Rattle.gr_model.specs.World.{World, Transition, log_of, sent_lines, start, next, next_by, sweep, sweep_moment, run_from, report_of, report_of_by}
use Rattle.gr_model.specs.Headline.{Recorded, nothing_recorded, History, record_of, settling, is_swept, sweep_at, records_after, history, history_after, begin, expected, last_horizon, GetsExactly, Headline, Holds_from_by, recorded_net, is_sent, is_doubt_line, doubt_place, doubts_shown}
use Rattle.gr_model.specs.Orders.{Order, orders_over, ordered_steps}
use Rattle.gr_model.specs.Ordered.{TotallyOrdered, TotallyOrdered_from_by, IsOrdered_by, IsMergedOf, heard_upto, ordered_items}
use Rattle.gr_model_calls.specs.OneNet as one
use Rattle.gr_model_calls.specs.OneNet.{last_net}
use Rattle.gr_model_calls.specs.Truth.{Grows}
use Rattle.gr_model_calls.specs.Fits.{WorldFits, StepIn, StepsIn, history_of}
use Rattle.gr_model_calls.proofs.calls.Held.{grows_not}
use Rattle.gr_model_calls.proofs.runs.Schedules.{start_fits, always_true}
use Rattle.gr_model_calls.proofs.joins.Growing.{AheadOf}
use Rattle.gr_model_calls.proofs.joins.OneRun.{IsNet-with, run_ahead, next_ahead, ahead_before, report_only, run_is}
use Rattle.gr_model_theorems.specs.Order.{CutsInOrder, FramesSent}
use Rattle.gr_model_theorems.specs.ByRules.{ScheduleByRules}
use Rattle.gr_model_theorems.specs.Replies.{Replied, Replied_from, replies}
use Rattle.gr_model_theorems.specs.Settles.{SweepSettles, AllGot, is_accepted}
use Rattle.gr_model_theorems.specs.Standing.{Fits}
use Rattle.gr_model_theorems.specs.Statements.{world_after, joined_net, SweepsAsOne, DoubtsStand}
use Rattle.gr_model_theorems.proofs.records.Recorded.{RecordsFit, record_core, runs, begin_fits, next_records, gets_exactly as gets_on_one}
use Rattle.gr_model_theorems.proofs.records.Doubtlines.{doubts_stand as doubts_on_one}
use Rattle.gr_model_theorems.proofs.cuts.CutOrder.{cuts_in_order as cuts_on_one}
use Rattle.gr_model_theorems.proofs.headline.SoFar.{frames_sent as sent_on_one}
use Rattle.gr_model_theorems.proofs.headline.SecondReaches.{headline_always as headline_on_one}
use Rattle.gr_model_theorems.proofs.headline.ReplyLines.{replied_always as replied_on_one}
use Rattle.gr_model_theorems.proofs.headline.Standing.{fits_always as fits_on_one}
use Rattle.gr_model_theorems.proofs.headline.SettlesAlways.{sweep_settles as settles_on_one, sweep_hands_over as hands_over_on_one}
use Rattle.gr_model_theorems.proofs.sweep.RunsByRules.{schedule_by_rules as rules_on_one, schedule_once as once_on_one}
use Rattle.gr_model_theorems.proofs.order.Always.{ordered_always as ordered_on_one}
use Rattle.gr_model_theorems.proofs.joins.Owing.{RecordedAhead, RecordsUpto, ahead_at, records_upto, after_same, expected_on, holds_on}
use Rattle.gr_model_theorems.proofs.joins.AsOne.{as_one, subscriber_in, start_same}

-- The record's joins are the logs'

recorded_last : (net : Net) (steps : List Line) (p : ℕ) → IsNet net → 1 ≤ net.quiet → StepsIn net steps → (record_of (history_of net steps) p).joined ≡ (log_of (world_after net steps) p).joins
recorded_last net steps p n z i =
    let x = as_one net steps n i in
    let g = joined_net net steps in
    let r = (runs g (start g) (begin g) steps x.tree z (start_fits g x.tree) (begin_fits g) x.steps_in).records in
    ap (λ (h : History). (record_of h p).joined) x.history
    ∙ (ap (λ (c : Recorded). c.joined) (record_core g (one.run_all g (start g) steps).world (one.history_of g steps) p r) ∙ ap (λ (t : Transition). (log_of t.world p).joins) (sym x.run))

-- so what is expected by them is the same
expected_same : (net : Net) (last : ℕ → Joins) (h : History) (s p m : ℕ) → (record_of h p).joined ≡ last p → expected (with_wants net (λ q r t e. wants_with net (last q) q r t e)) h s p m ≡ expected (recorded_net net h) h s p m
expected_same net last h s p m e = ap (λ (js : Joins). filter (λ (x : ℕ × Event). nat_le x.0 m && wants_with net js p s x.0 x.1) (record_of h p).events) (sym e)

pub gets_exactly : (net : Net) (steps : List Line) (s p : ℕ) → IsNet net → 1 ≤ net.quiet → StepsIn net steps → p < net.publishers → IsSubscriber net s → (let h = history_of net steps in GetsExactly (recorded_net net h) h s p)
gets_exactly net steps s p n z i j y =
    let x = as_one net steps n i in
    let g = joined_net net steps in
    let h = history_of net steps in
    let a : GetsExactly g h s p = subst (λ (k : History). GetsExactly g k s p) (sym x.history) (gets_on_one g steps s p x.tree z x.steps_in j (subscriber_in net g.wants s y)) in
    record {
      got = a.got ∙ expected_same net (λ q. (log_of (world_after net steps) q).joins) h s p (last_horizon s p 0 h.lines) (recorded_last net steps p n z i);
      rise = a.rise;
    }

pub cuts_in_order : (net : Net) (steps : List Line) (p : ℕ) → IsNet net → 1 ≤ net.quiet → StepsIn net steps → p < net.publishers → (let h = history_of net steps in CutsInOrder (recorded_net net h) h p)
cuts_in_order net steps p n z i j =
    let x = as_one net steps n i in
    let g = joined_net net steps in
    let h = history_of net steps in
    let a : CutsInOrder g h p = subst (λ (k : History). CutsInOrder g k p) (sym x.history) (cuts_on_one g steps p x.tree z x.steps_in j) in
    record {
      cuts = a.cuts;
      cut_settled = a.cut_settled;
      cut_got = λ t xs ys e s u v c l y w. a.cut_got t xs ys e s u v c l (subscriber_in net g.wants s (record { at_in = y.at_in; here = y.here })) (ap (λ (js : Joins). wants_with net js p s u v) (sym (recorded_last net steps p n z i)) ∙ w);
    }

pub frames_sent : (net : Net) (steps : List Line) → IsNet net → 1 ≤ net.quiet → StepsIn net steps → FramesSent net steps
frames_sent net steps n z i =
    let x = as_one net steps n i in
    let g = joined_net net steps in
    ap (λ (h : History). filter is_sent h.lines) x.history ∙ (sent_on_one g steps x.tree z x.steps_in ∙ ap (λ (t : Transition). sent_lines 1 t.world.frames) (sym x.run))

-- Replies

replied_same : (net : Net) (last : ℕ → Joins) (h : History) (ls : List Line) (rs : List (List Report)) → Replied_from (with_wants net (λ p s t e. wants_with net (last p) p s t e)) h ls rs → Replied_from net h ls rs
unfolding replies
replied_same net last h [] [] r = tt
replied_same net last h (l ∷ ls) (r ∷ rs) a = (
  record { replied = a.0.replied; numbered = a.0.numbered },
  replied_same net last (history_after net h l r) ls rs (subst (λ (g : History). Replied_from (with_wants net (λ p s t e. wants_with net (last p) p s t e)) g ls rs) (after_same net last h l r) a.1),
)
replied_same net last h [] (r ∷ rs) a = absurd a
replied_same net last h (l ∷ ls) [] a = absurd a

begin_same : (net : Net) (last : ℕ → Joins) → begin (with_wants net (λ p s t e. wants_with net (last p) p s t e)) ≡ begin net
unfolding begin
begin_same net last = refl

pub replied_always : (net : Net) (steps : List Line) → IsNet net → 1 ≤ net.quiet → StepsIn net steps → Replied net steps (report_of net steps)
replied_always net steps n z i =
    let x = as_one net steps n i in
    subst (λ (rs : List (List Report)). Replied net steps rs) (sym x.report) (go (one.report_of (joined_net net steps) steps) (replied_on_one (joined_net net steps) steps x.tree z x.steps_in))
  where
    last : ℕ → Joins
    last p = (log_of (world_after net steps) p).joins

    go : (rs : List (List Report)) → Replied (joined_net net steps) steps rs → Replied net steps rs
    go [] a = absurd a
    go (r ∷ rs) a = (a.0, replied_same net last (begin net) steps rs (subst (λ (h : History). Replied_from (joined_net net steps) h steps rs) (begin_same net last) a.1))

-- The headline

nothing_upto : (n : ℕ) → RecordsUpto (replicate n nothing_recorded)
nothing_upto zero p = tt
nothing_upto (suc n) zero = tt
nothing_upto (suc n) (suc p) = nothing_upto n p

pub begin_upto : (net : Net) → RecordsUpto (begin net).records
unfolding begin
begin_upto net = nothing_upto net.publishers

-- the lines of a report but the first, which is empty
lines_of : (net : Net) (steps : List Line) → report_of net steps ≡ [] ∷ run_from net (start net) steps
unfolding report_of_by
lines_of net steps = refl

pub headline_always : (net : Net) (steps : List Line) → IsNet net → 1 ≤ net.quiet → 1 ≤ net.retry → StepsIn net steps → Headline net steps (report_of net steps)
headline_always net steps n z r i =
    let x = as_one net steps n i in
    let g = joined_net net steps in
    let a : one.Headline g steps ([] ∷ run_from net (start net) steps) = subst (λ (rs : List (List Report)). one.Headline g steps rs) (sym x.report ∙ lines_of net steps) (headline_on_one g steps x.tree z r x.steps_in) in
    let b : Holds_from_by (λ _. g) g (begin net) steps (run_from net (start net) steps) = subst (λ (h : History). Holds_from_by (λ _. g) g h steps (run_from net (start net) steps)) (begin_same net last) a.1 in
    subst (λ (rs : List (List Report)). Headline net steps rs) (sym (lines_of net steps)) (refl, holds_on net last (begin net) steps (run_from net (start net) steps) (λ p. recorded_last net steps p n z i) (begin_upto net) b)
  where
    last : ℕ → Joins
    last p = (log_of (world_after net steps) p).joins

-- each event of each record is settled after a step too
pub upto_after : (net : Net) (h : History) (l : Line) (ls : List Report) → RecordsUpto h.records → RecordsUpto (history_after net h l ls).records
unfolding history_after
upto_after net h l ls u = records_upto net h l ls u

-- One order over all publishers

module _ (net : Net) (last : ℕ → Joins) (totals : List ℕ) where
  abbrev g : Net
  g = with_wants net (λ p s t e. wants_with net (last p) p s t e)

  merged_on : (h : History) (s n : ℕ) (items : List Item) → RecordedAhead last h → RecordsUpto h.records → IsMergedOf g h s n items → IsMergedOf (recorded_net net h) h s n items
  merged_on h s n items a u m = record {
    each = λ i. subst (λ (xs : List (ℕ × Event)). Contains items i ↔ ((i.publisher < net.publishers) × Contains xs (i.tick, i.event))) (expected_on net last h s i.publisher n a u) (m.each i);
    rises = m.rises;
  }

  is_ordered_on : (h : History) (told : List Report) → RecordedAhead last h → RecordsUpto h.records → IsOrdered_by (λ _. g) g totals h told → IsOrdered_by (recorded_net net) net totals h told
  is_ordered_on h told a u k = λ s here. merged_on h s (heard_upto net h.lines s) (ordered_items s told) a u (k s here)

  pub ordered_on : (h : History) (told : List Report) (steps : List Line) (rs os : List (List Report)) → ((p : ℕ) → (record_of (history net h steps rs) p).joined ≡ last p) → RecordsUpto h.records → TotallyOrdered_from_by (λ _. g) g totals h told steps rs os → TotallyOrdered_from_by (recorded_net net) net totals h told steps rs os
  ordered_on h told [] [] [] e u k = is_ordered_on h told (ahead_at net last h [] [] e) u k
  ordered_on h told (l ∷ ls) (r ∷ rs) (o ∷ os) e u k = (
    is_ordered_on h told (ahead_at net last h (l ∷ ls) (r ∷ rs) e) u k.0,
    ordered_on (history_after net h l r) (told ++ o) ls rs os e (upto_after net h l r u) (subst (λ (z : History). TotallyOrdered_from_by (λ _. g) g totals z (told ++ o) ls rs os) (after_same net last h l r) k.1),
  )
  ordered_on h told [] [] (o ∷ os) e u k = absurd k
  ordered_on h told [] (r ∷ rs) [] e u k = absurd k
  ordered_on h told [] (r ∷ rs) (o ∷ os) e u k = absurd k
  ordered_on h told (l ∷ ls) [] [] e u k = absurd k
  ordered_on h told (l ∷ ls) [] (o ∷ os) e u k = absurd k
  ordered_on h told (l ∷ ls) (r ∷ rs) [] e u k = absurd k

pub ordered_always : (net : Net) (totals : List ℕ) (steps : List Line) → IsNet net → 1 ≤ net.quiet → StepsIn net steps → IsDistinct totals → ((s : ℕ) → list_any (λ x. nat_eq x s) totals ≡ true → s < net.subscribers)
    → TotallyOrdered net totals steps (report_of net steps) (ordered_steps (orders_over net.publishers totals) (report_of net steps))
ordered_always net totals steps n z i apart there =
    let x = as_one net steps n i in
    let rs : List (List Report) = [] ∷ run_from net (start net) steps in
    subst (λ (ts : List (List Report)). TotallyOrdered net totals steps ts (ordered_steps orders ts)) (sym (lines_of net steps))
    (go (ordered_steps orders rs) (subst (λ (ts : List (List Report)). one.TotallyOrdered (joined_net net steps) totals steps ts (ordered_steps orders ts)) (sym x.report ∙ lines_of net steps) (ordered_on_one (joined_net net steps) totals steps x.tree z x.steps_in apart there)))
  where
    orders : List Order
    orders = orders_over net.publishers totals

    last : ℕ → Joins
    last p = (log_of (world_after net steps) p).joins

    go : (os : List (List Report)) → one.TotallyOrdered (joined_net net steps) totals steps ([] ∷ run_from net (start net) steps) os → TotallyOrdered net totals steps ([] ∷ run_from net (start net) steps) os
    go [] a = absurd a
    go (o ∷ os) a = (
      a.0,
      ordered_on net last totals (begin net) [] steps (run_from net (start net) steps) os (λ p. recorded_last net steps p n z i) (begin_upto net)
          (subst (λ (h : History). TotallyOrdered_from_by (λ _. joined_net net steps) (joined_net net steps) totals h [] steps (run_from net (start net) steps) os) (begin_same net last) a.1),
    )

pub fits_always : (net : Net) (steps : List Line) → IsNet net → 1 ≤ net.quiet → 1 ≤ net.retry → StepsIn net steps → Fits (joined_net net steps) (history_of net steps) (world_after net steps)
fits_always net steps n z r i =
    let x = as_one net steps n i in
    let g = joined_net net steps in
    subst (λ (h : History). Fits g h (world_after net steps)) (sym x.history) (subst (λ (t : Transition). Fits g (one.history_of g steps) t.world) (sym x.run) (fits_on_one g steps x.tree z r x.steps_in))

-- By the rules

pub schedule_by_rules : (net : Net) (steps : List Line) → IsNet net → 1 ≤ net.quiet → StepsIn net steps → ScheduleByRules (joined_net net steps) steps (report_of net steps) (world_after net steps)
schedule_by_rules net steps n z i =
    let x = as_one net steps n i in
    let g = joined_net net steps in
    subst (λ (rs : List (List Report)). ScheduleByRules g steps rs (world_after net steps)) (sym x.report) (subst (λ (t : Transition). ScheduleByRules g steps (one.report_of g steps) t.world) (sym x.run) (rules_on_one g steps x.tree z x.steps_in))

pub schedule_once : (net : Net) (steps : List Line) (rs : List (List Report)) (w : World) → IsNet net → 1 ≤ net.quiet → StepsIn net steps → ScheduleByRules (last_net net w) steps rs w → (rs ≡ report_of net steps) × (w ≡ world_after net steps)
schedule_once net steps rs w n z i a =
    let wants : ℕ → ℕ → ℕ → Event → Bool = λ p s t e. wants_with net (last p) p s t e in
    let g = last_net net w in
    let into : StepsIn g steps = i in
    let y = once_on_one g steps rs w (IsNet-with net wants n) z into a in
    let ends : (p : ℕ) → p < net.publishers → (log_of (one.run_all g (start g) steps).world p).joins ≡ last p = λ p j. ap (λ (u : World). (log_of u p).joins) (sym y.1) in
    let s : start g ≡ start net = start_same net wants in (
      y.0 ∙ sym (report_only net last steps n into (λ p j. subst (λ (u : World). (log_of (one.run_all g u steps).world p).joins ≡ last p) s (ends p j))),
      y.1 ∙ (ap (λ (u : World). (one.run_all g u steps).world) s
          ∙ ap (λ (t : Transition). t.world) (sym (run_is net last steps n into (start net) (subst (λ (u : World). WorldFits g u) s (start_fits g (IsNet-with net wants n))) (inr (λ p j. subst (λ (u : World). (log_of (one.run_all g u steps).world p).joins ≡ last p) s (ends p j)))))),
    )
  where
    last : ℕ → Joins
    last p = (log_of w p).joins

-- A further step

-- what fits on the net of the joins after a step
fits_before : (net : Net) (steps : List Line) (last : ℕ → Joins) → IsNet net → StepsIn net steps → AheadOf net last (world_after net steps) → WorldFits (with_wants net (λ p s t e. wants_with net (last p) p s t e)) (world_after net steps)
fits_before net steps last n i a =
    let wants : ℕ → ℕ → ℕ → Event → Bool = λ p s t e. wants_with net (last p) p s t e in
    let g = with_wants net wants in
    let m = IsNet-with net wants n in
    let into : StepsIn g steps = i in
    let s : start g ≡ start net = start_same net wants in
    subst (λ (t : Transition). WorldFits g t.world) (sym (run_ahead net last steps n into (start net) (subst (λ (u : World). WorldFits g u) s (start_fits g m)) a))
    (subst (λ (u : World). WorldFits g (one.run_all g u steps).world) s (always_true g steps m into))

abbrev step_last : Net → World → Line → ℕ → Joins
step_last net w l = λ p. (log_of (next net w l).world p).joins

-- the record beside what fits then
recorded_at : (net : Net) (steps : List Line) (last : ℕ → Joins) → IsNet net → 1 ≤ net.quiet → StepsIn net steps → AheadOf net last (world_after net steps) → RecordsFit (with_wants net (λ p s t e. wants_with net (last p) p s t e)) (world_after net steps) (history_of net steps)
recorded_at net steps last n z i a =
    let x = as_one net steps n i in
    let g = joined_net net steps in
    let r : RecordsFit g (one.run_all g (start g) steps).world (one.history_of g steps) = (runs g (start g) (begin g) steps x.tree z (start_fits g x.tree) (begin_fits g) x.steps_in).records in
    let s : RecordsFit g (world_after net steps) (history_of net steps) = subst (λ (h : History). RecordsFit g (world_after net steps) h) (sym x.history) (subst (λ (t : Transition). RecordsFit g t.world (one.history_of g steps)) (sym x.run) r) in
    record { clock = s.clock; most = s.most; records = s.records }

step_ends : (net : Net) (w : World) (l : Line) → AheadOf net (step_last net w l) (next net w l).world
step_ends net w l = λ p j. grows_not (log_of (next net w l).world p).joins (log_of (next net w l).world p).settled

pub doubts_stand : (net : Net) (steps : List Line) (l : Line) → IsNet net → StepsIn net steps → StepIn net l.step → DoubtsStand net (world_after net steps) l
doubts_stand net steps l n i j =
    let w = world_after net steps in
    let last : ℕ → Joins = step_last net w l in
    let wants : ℕ → ℕ → ℕ → Event → Bool = λ p s t e. wants_with net (last p) p s t e in
    let g = with_wants net wants in
    let f : WorldFits g w = fits_before net steps last n i (ahead_before net last l w (step_ends net w l)) in
    let k : StepIn g l.step = j in
    ap (λ (t : Transition). map doubt_place (filter is_doubt_line t.lines)) (next_ahead net last l n k w f (step_ends net w l)) ∙ (doubts_on_one g w l (IsNet-with net wants n) f k ∙ shown_same net wants l)
  where
    shown_same : (m : Net) (f : ℕ → ℕ → ℕ → Event → Bool) (k : Line) → doubts_shown (with_wants m f) k ≡ doubts_shown m k
    shown_same m f k = refl

-- Sweeps

-- a sweep joins no one
sweep_joins : (g : Net) (w : World) (h : History) (k p : ℕ) → IsNet g → 1 ≤ g.quiet → WorldFits g w → RecordsFit g w h → (log_of (one.sweep g w k).world p).joins ≡ (log_of w p).joins
unfolding next_by history_after records_after
sweep_joins g w h k p n z f r =
    let l : Line = record { number = k; step = step.Sweep } in
    let after = next_records g w h l n z f r tt in
    sym (ap (λ (c : Recorded). c.joined) (record_core g (one.next g w l).world (history_after g h l (one.next g w l).lines) p after))
    ∙ (go (is_swept g h) ∙ ap (λ (c : Recorded). c.joined) (record_core g w h p r))
  where
    settled_joined : (m : ℕ) (rs : List Recorded) (q : ℕ) → (get_or (map (settling m) rs) q nothing_recorded).joined ≡ (get_or rs q nothing_recorded).joined
    settled_joined m [] q = refl
    settled_joined m (x ∷ xs) zero = refl
    settled_joined m (x ∷ xs) (suc q) = settled_joined m xs q

    go : (c : Bool) → (get_or (if c then map (settling (sweep_at g h)) h.records else h.records) p nothing_recorded).joined ≡ (record_of h p).joined
    go true = settled_joined (sweep_at g h) h.records p
    go false = refl

pub sweep_same : (net : Net) (steps : List Line) (k : ℕ) → IsNet net → 1 ≤ net.quiet → StepsIn net steps → SweepsAsOne net steps k
unfolding next_by
sweep_same net steps k n z i =
    let w = world_after net steps in
    let l : Line = record { number = k; step = step.Sweep } in
    let last : ℕ → Joins = step_last net w l in
    let wants : ℕ → ℕ → ℕ → Event → Bool = λ p s t e. wants_with net (last p) p s t e in
    let g = with_wants net wants in
    let m = IsNet-with net wants n in
    let a = ahead_before net last l w (step_ends net w l) in
    let f : WorldFits g w = fits_before net steps last n i a in
    let e : sweep net w k ≡ one.sweep g w k = next_ahead net last l n tt w f (step_ends net w l) in
    let same : (p : ℕ) → (log_of (sweep net w k).world p).joins ≡ (log_of w p).joins = λ p. ap (λ (t : Transition). (log_of t.world p).joins) e ∙ sweep_joins g w (history_of net steps) k p m z f (recorded_at net steps last n z i a) in
    let x = as_one net steps n i in
    next_ahead net (λ p. (log_of w p).joins) l n tt w (subst (λ (t : Transition). WorldFits (joined_net net steps) t.world) (sym x.run) (always_true (joined_net net steps) steps x.tree x.steps_in))
    (λ p j. subst (λ (js : Joins). Grows (log_of (sweep net w k).world p).joins js (log_of (sweep net w k).world p).settled) (same p) (grows_not (log_of (sweep net w k).world p).joins (log_of (sweep net w k).world p).settled))

pub sweep_settles : (net : Net) (steps : List Line) (k : ℕ) → IsNet net → 1 ≤ net.quiet → 1 ≤ net.retry → StepsIn net steps → is_accepted net (world_after net steps) ≡ true → SweepSettles (joined_net net steps) (world_after net steps) k
unfolding sweep_moment
sweep_settles net steps k n z r i ok =
    let x = as_one net steps n i in
    let g = joined_net net steps in
    subst (λ (t : Transition). SweepSettles g t.world k) (sym x.run) (settles_on_one g steps k x.tree z r x.steps_in (subst (λ (t : Transition). is_accepted net t.world ≡ true) x.run ok))

pub sweep_hands_over : (net : Net) (steps : List Line) (k : ℕ) → IsNet net → 1 ≤ net.quiet → 1 ≤ net.retry → StepsIn net steps → is_accepted net (world_after net steps) ≡ true → AllGot (joined_net net steps) (history_of net steps) (world_after net steps) k
unfolding sweep_moment
sweep_hands_over net steps k n z r i ok =
    let x = as_one net steps n i in
    let g = joined_net net steps in
    subst (λ (h : History). AllGot g h (world_after net steps) k) (sym x.history)
    (subst (λ (t : Transition). AllGot g (one.history_of g steps) t.world k) (sym x.run) (hands_over_on_one g steps k x.tree z r x.steps_in (subst (λ (t : Transition). is_accepted net t.world ≡ true) x.run ok)))
