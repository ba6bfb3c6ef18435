-- What may happen by the rules is exactly what the machine does: each rule is met by its call and by nothing else, and where each of
-- a list of happenings leaves no choice, all of them in turn leave none
use Rattle.std.proofs.Common.{◌≡◌, inl, inr, ℕ, suc, zero, ◌≤◌, ◌<◌, max, Bool, true, false, List, [], ◌∷◌, ◌++◌, map, length, set, get_or, refl, sym, ap, ap₂, ◌∙◌, subst, Option, Some, None, arith, append_assoc}
use Rattle.std.specs.Prelude.{filter, if◌then◌else◌, nat_le}
use Rattle.std.proofs.lemmas.Bool.{cases_Bool, true≢false, leb-true, leb-false, le-ltb, lt-ltb}
use Rattle.gr_event.specs.declared.event.Event.{Event}
use Rattle.gr_know.specs.declared.values.K.TheVariants.{Q}
use Rattle.gr_frame.specs.Bytes.{frame_bytes}
use Rattle.gr_frame.specs.declared.Body.{Body}
use Rattle.gr_frame.specs.declared.Body.TheVariants as body
use Rattle.gr_frame.specs.declared.Frame.{Frame}
use Rattle.gr_sched.specs.declared.step.Stop.{Stop}
use Rattle.gr_sched.specs.declared.step.Step.{Step}
use Rattle.gr_sched.specs.declared.step.Step.TheVariants as step
use Rattle.gr_sched.specs.declared.step.Line.{Line}
use Rattle.gr_model.specs.declared.report.Report.{Report}
use Rattle.gr_model.specs.declared.report.Report.TheVariants as line
use Rattle.gr_tick.proofs.RunLaws.{runs_equal}
use Rattle.gr_model.specs.Net.{Net, is_host, not_empty, numbers}
use Rattle.gr_model.specs.Broker.{joining, with_joins, View, Log, Outcome, empty_log, log_at, log_know, started, max_tick, publish, wake, receive}
use Rattle.gr_model.specs.World.{join_now_by, World, Transition, blank_view, view_of, log_of, with_view, absorbed, unchanged, followed_by, in_turn, sent_lines, frame_at, frames_past, sent_since, is_want, is_know_to, inwards, outwards, numbers_down, opened_lines, restarted, crash, sweep_moment, show, start, start_by, wake_for_by, wake_all_by, deliver_frame_by, publish_now_by, publish_stopped_by, deliver_up_by, wake_up_by, hand_down_by, sweep_for_by, sweep_by, next_by, run_from_by, report_of_by}
use Rattle.gr_model_calls.specs.OneNet.{join_now, wake_for, wake_all, deliver_frame, publish_now, publish_stopped, deliver_up, wake_up, hand_down, sweep_for, sweep, next, run_from, run_all, report_of}
use Rattle.gr_model.specs.Opening.{reopened_log, over_logs}
use Rattle.gr_model.specs.Tree.{IsNet}
use Rattle.gr_model_calls.specs.Fits.{WorldFits, FrameTrue, StepIn, StepsIn, reached_in}
use Rattle.gr_model_calls.specs.Rules.{TakesJoin, HasKnown, Publishes, Wakes, Comes, RulesDetermine}
use Rattle.gr_model_theorems.specs.Settles.{is_accepted, at_sweep}
use Rattle.gr_model_theorems.specs.Obeys.{is_next_of}
use Rattle.gr_model_theorems.specs.ByRules.{IsJoined, Tells, Then, EachInTurn, Starts, StartsAll, BeginsOver, Begins, StartsAgain, Calls, IsPublished, IsWoken, Arrives, SetsClock, Crashes, fate, logs_left, Stops, upward_since, AtOnce, WakesUp, HandsDown, SweepsFor, SweepsAll, Sweeps, shown, Delivers, ShowsBytes, Happens, RunByRules, ScheduleByRules, ReportByRules}
use Rattle.gr_model_calls.proofs.runs.Worlds.{Kept, IsLaterWorld, FrameTrue-later, Each, wake_for_kept, deliver_kept, wake_up_kept, hand_down_kept, sweep_for_kept, in_turn_kept, frames_past_true, filter_frames, depths_in, numbers_below}
use Rattle.gr_model_calls.proofs.runs.Schedules.{log_know-is, get_numbers, length_numbers, clocked_fits, frame_at_true, next_kept, start_fits}
use Rattle.gr_model_calls.proofs.rules.HostRules.{joins_rule, wakes_rule, publishes_rule, comes_rule}
use Rattle.gr_model_calls.proofs.rules.Views.{fits_view}
use Rattle.gr_model_calls.proofs.rules.Determined.{determined}
use Rattle.gr_model_theorems.proofs.sweep.Pending.{sent_up, delivered_up, one_kept, up_true, Each-weaker}
use Rattle.gr_model_theorems.proofs.sweep.Upward.{rank_of, ranks, sent_up_less}
use Rattle.gr_event.specs.Joins.{longer}
use Rattle.gr_model_theorems.proofs.sweep.Obeying.{told_at}

-- What leaves no choice

-- what leaves the same world and tells the same lines is the same
pub told_same : (t u : Transition) → t.world ≡ u.world → t.lines ≡ u.lines → t ≡ u
told_same t u a b = λ i. record { world = a i; lines = b i }

world_same : (w u : World) → w.clock ≡ u.clock → w.most ≡ u.most → w.frames ≡ u.frames → w.views ≡ u.views → w.logs ≡ u.logs → w ≡ u
world_same w u a b c d e = λ i. record { clock = a i; most = b i; frames = c i; views = d i; logs = e i }

view_equal : (v u : View) → v.know ≡ u.know → v.wants ≡ u.wants → v.asks ≡ u.asks → v.horizon ≡ u.horizon → v.joins ≡ u.joins → v ≡ u
view_equal v u a b c d e = λ i. record { know = a i; wants = b i; asks = c i; horizon = d i; joins = e i }

-- this may happen, and nothing else
pub record Exactly (R : World → Transition → Type 0) (w : World) (t : Transition) : Type 0 where
  pub holds : R w t
  pub only : (u : Transition) → R w u → u ≡ t

-- telling lines leaves the world as it is, and nothing else may happen
pub tells_exactly : (ls : List Report) (w : World) → Exactly (Tells ls) w (unchanged w ls)
tells_exactly ls w = record { holds = record { world = refl; lines = refl }; only = λ u r. told_same u (unchanged w ls) r.world r.lines }

-- nothing else may happen
abbrev Only : (World → Transition → Type 0) → World → Transition → Type 0
Only R w t = (u : Transition) → R w u → u ≡ t

then_only : (A B : World → Transition → Type 0) (w : World) (t : Transition) (f : World → Transition) → Only A w t → Only B t.world (f t.world) → Only (Then A B) w (followed_by t f)
then_only A B w t f a b u r =
    let e : r.first ≡ t = a r.first r.happens in
    let g : r.second ≡ f t.world = b r.second (subst (λ (x : Transition). B x.world r.second) e r.follows) in
    told_same u (followed_by t f) (r.world ∙ ap (λ (x : Transition). x.world) g) (r.lines ∙ ap₂ (λ (x y : Transition). x.lines ++ y.lines) e g)

-- where each of two parts may do one thing only, so may one after the other
pub then_exactly : (A B : World → Transition → Type 0) (w : World) (t : Transition) (f : World → Transition) → Exactly A w t → Exactly B t.world (f t.world) → Exactly (Then A B) w (followed_by t f)
then_exactly A B w t f a b = record {
  holds = record { first = t; happens = a.holds; second = f t.world; follows = b.holds; world = refl; lines = refl };
  only = then_only A B w t f a.only b.only;
}

all_stay : {X : Type 0} (net : Net) (ok : World → X → Type 0) (w u : World) → ((w u : World) (x : X) → IsLaterWorld net w u → ok w x → ok u x) → (ys : List X) → Each (ok w) ys → IsLaterWorld net w u → Each (ok u) ys
all_stay net ok w u stays [] b l = tt
all_stay net ok w u stays (y ∷ ys) b l = (stays w u y l b.0, all_stay net ok w u stays ys b.1 l)

-- where nothing else may happen for any of a list, nothing else may for all in turn
turns_only : {X : Type 0} (net : Net) (ok : World → X → Type 0) (R : X → World → Transition → Type 0) (f : World → X → Transition) → ((w u : World) (x : X) → IsLaterWorld net w u → ok w x → ok u x) → ((w : World) (x : X) → WorldFits net w → ok w x → Kept net w (f w x)) →
    ((w : World) (x : X) → WorldFits net w → ok w x → Only (R x) w (f w x)) → (xs : List X) (w : World) → WorldFits net w → Each (ok w) xs → Only (EachInTurn R xs) w (in_turn f xs w)
turns_only net ok R f stays kept one [] w fit a u r = told_same u (unchanged w []) r.world r.lines
turns_only net ok R f stays kept one (x ∷ xs) w fit a u r =
    let k = kept w x fit a.0 in
    then_only (R x) (EachInTurn R xs) w (f w x) (in_turn f xs) (one w x fit a.0) (turns_only net ok R f stays kept one xs (f w x).world k.fits (all_stay net ok w (f w x).world stays xs a.1 k.later)) u r

-- and where exactly this may happen for each, exactly this may for all
pub turns_exactly : {X : Type 0} (net : Net) (ok : World → X → Type 0) (R : X → World → Transition → Type 0) (f : World → X → Transition) → ((w u : World) (x : X) → IsLaterWorld net w u → ok w x → ok u x) → ((w : World) (x : X) → WorldFits net w → ok w x → Kept net w (f w x)) →
    ((w : World) (x : X) → WorldFits net w → ok w x → Exactly (R x) w (f w x)) → (xs : List X) (w : World) → WorldFits net w → Each (ok w) xs → Exactly (EachInTurn R xs) w (in_turn f xs w)
turns_exactly net ok R f stays kept one [] w fit a = tells_exactly [] w
turns_exactly net ok R f stays kept one (x ∷ xs) w fit a =
    let k = kept w x fit a.0 in
    then_exactly (R x) (EachInTurn R xs) w (f w x) (in_turn f xs) (one w x fit a.0) (turns_exactly net ok R f stays kept one xs (f w x).world k.fits (all_stay net ok w (f w x).world stays xs a.1 k.later))

-- Calls

call_exactly : (b p : ℕ) (Rule : View → Log → Outcome → Type 0) (w : World) (o : Outcome) → Rule (view_of w b p) (log_of w p) o → ((u : Outcome) → Rule (view_of w b p) (log_of w p) u → u ≡ o) → Exactly (Calls b p Rule) w (absorbed w b p o)
unfolding absorbed
call_exactly b p Rule w o r same = record {
  holds = record { outcome = o; rule = r; lines = refl; frames = refl; views = refl; logs = refl; clock = refl; most = refl };
  only = λ u x.
      let e : x.outcome ≡ o = same x.outcome x.rule in
      told_same u (absorbed w b p o) (world_same u.world (absorbed w b p o).world x.clock x.most (x.frames ∙ ap (λ (z : Outcome). w.frames ++ z.frames) e) (x.views ∙ ap (λ (z : Outcome). with_view w.views b p z.view) e) (x.logs ∙ ap (λ (z : Outcome). set w.logs p z.log) e))
      (x.lines ∙ ap (λ (z : Outcome). z.lines ++ sent_lines (suc (length w.frames)) z.frames) e);
}

wake_exactly : (net : Net) (w : World) (b p : ℕ) → IsNet net → 1 ≤ net.quiet → WorldFits net w → b < net.brokers → p < net.publishers → Exactly (IsWoken net b p) w (wake_for net w b p)
unfolding wake_for_by
wake_exactly net w b p n quiet f i j =
    let o = wake net p b w.clock (view_of w b p) (log_of w p) in
    let r = wakes_rule net p b w.clock (view_of w b p) (log_of w p) n quiet j i (fits_view net w p b f j i) in
    let d = determined net p b n j i in
    let x = call_exactly b p (Wakes net p b w.clock) w o r (λ u s. d.wakes w.clock (view_of w b p) (log_of w p) u o s r) in
    record { holds = x.holds; only = x.only }

comes_once : (net : Net) (p from to now : ℕ) (y : Body) (v : View) (log : Log) (o u : Outcome) → RulesDetermine net p to → Comes net p from to now y v log o → Comes net p from to now y v log u → o ≡ u
comes_once net p from to now (body.Knowledge runs js) v log o u d a c = d.new_ticks runs (with_joins v (longer v.joins js)) log o u a c
comes_once net p from to now (body.Curiosity runs) v log o u d a c = d.child_asks now from runs v log o u a c
comes_once net p from to now (body.Expect tick) v log o u d a c = d.expects now tick v log o u a c

-- the rules allow of an arriving frame what the machine does, and nothing else
pub arrival_exactly : (net : Net) (w : World) (x : Frame) → IsNet net → WorldFits net w → FrameTrue net w x → Exactly (Arrives net x) w (deliver_frame net w x)
unfolding deliver_frame_by
arrival_exactly net w x n f t =
    let p = x.head.publisher in
    let v = view_of w x.head.to p in
    let log = log_of w p in
    let o = receive net w.clock x v log in
    let r = comes_rule net w.clock x v log (reached_in net w p) n t.publisher_in t.fits t.told (f.views p x.head.to t.publisher_in t.fits.to_in) in
    let z = call_exactly x.head.to p (Comes net p x.head.from x.head.to w.clock x.body) w o r (λ u s. comes_once net p x.head.from x.head.to w.clock x.body v log u o (determined net p x.head.to n t.publisher_in t.fits.to_in) s r) in
    record { holds = z.holds; only = z.only }

publish_exactly : (net : Net) (w : World) (p number : ℕ) (e : Event) → IsNet net → WorldFits net w → p < net.publishers → Exactly (IsPublished net p number e) w (publish_now net w p number e)
unfolding publish_now_by
publish_exactly net w p number e n f j =
    let b = net.host p in
    let i = n.host_in p j in
    let v = view_of w b p in
    let log = log_of w p in
    let o = publish net p b w.clock number e v log in
    let r = publishes_rule net p b w.clock number e v log n j i (fits_view net w p b f j i) in
    let d = determined net p b n j i in
    let x = call_exactly b p (Publishes net p b w.clock number e) w o r (λ u s. d.publishes w.clock number e v log u o s r) in
    record { holds = x.holds; only = x.only }

join_exactly : (net : Net) (w : World) (s p : ℕ) → IsNet net → WorldFits net w → p < net.publishers → Exactly (IsJoined net s p) w (join_now net w s p)
unfolding join_now_by
join_exactly net w s p n f j =
    let b = net.host p in
    let i = n.host_in p j in
    let v = view_of w b p in
    let log = log_of w p in
    let o = joining net p b w.clock s v log in
    let r = joins_rule net p b w.clock s v log n j i (fits_view net w p b f j i) in
    let d = determined net p b n j i in
    let x = call_exactly b p (TakesJoin net p b w.clock s) w o r (λ u q. d.joins w.clock s v log u o q r) in
    record { holds = x.holds; only = x.only }

-- Sweeps

-- a frame that is true, at a rank below this one
abbrev Goes : Net → ℕ → World → Frame → Type 0
Goes net most w x = FrameTrue net w x × (rank_of net x < most)

all_go : (net : Net) (most : ℕ) (w : World) (fs : List Frame) → Each (FrameTrue net w) fs → Each (λ z. rank_of net z < most) fs → Each (Goes net most w) fs
all_go net most w [] a r = tt
all_go net most w (x ∷ xs) a r = ((a.0, r.0), all_go net most w xs a.1 r.1)

-- the frames that a delivery sends upward go at a lower rank
sent_below : (net : Net) (most : ℕ) (w : World) (x : Frame) → IsNet net → WorldFits net w → Goes net (suc most) w x → Each (λ z. rank_of net z < most) (sent_up net w x)
sent_below net most w x n f g = Each-weaker (λ z. rank_of net z < rank_of net x) (λ z. rank_of net z < most) (sent_up net w x) (λ z l. omega (arith, l, g.1)) (sent_up_less net w x (record { depth_up = n.depth_up }) f g.0)

goes_later : (net : Net) (most : ℕ) (u v : World) (x : Frame) → IsLaterWorld net u v → Goes net most u x → Goes net most v x
goes_later net most u v x l g = (FrameTrue-later net u v x l g.0, g.1)

at_once_exactly : (net : Net) (most : ℕ) → IsNet net → (fs : List Frame) (w : World) → WorldFits net w → Each (FrameTrue net w) fs → Each (λ z. rank_of net z < most) fs → Exactly (AtOnce net most fs) w (deliver_up net most fs w)
unfolding deliver_up_by
at_once_exactly net zero n [] w f a r = record { holds = (refl, record { world = refl; lines = refl }); only = λ u x. told_same u (unchanged w []) x.1.world x.1.lines }
at_once_exactly net zero n (x ∷ xs) w f a r = absurd (omega (arith, r.0))
at_once_exactly net (suc most) n fs w f a r =
    turns_exactly net (Goes net (suc most)) (λ x v s. Then (Arrives net x) (λ u q. AtOnce net most (upward_since v u) u q) v s) (delivered_up net most) (goes_later net (suc most)) (λ u x h g. one_kept net most u x n h g.0)
    (λ u x h g.
    let k = at_once_exactly net most n (sent_up net u x) (deliver_frame net u x).world (deliver_kept net u x n h g.0).fits (up_true net u x n h g.0) (sent_below net most u x n h g) in
    let z = then_exactly (Arrives net x) (λ v q. AtOnce net most (upward_since u v) v q) u (deliver_frame net u x) (λ v. deliver_up net most (upward_since u v) v) (arrival_exactly net u x n h g.0) (record { holds = k.holds; only = k.only }) in
    record { holds = z.holds; only = z.only })
    fs w f (all_go net (suc most) w fs a r)

none_delivered : (net : Net) (most : ℕ) (w : World) → deliver_up net most [] w ≡ unchanged w []
unfolding deliver_up_by
none_delivered net zero w = refl
none_delivered net (suc most) w = refl

-- however long the longest chain
at_once_only : (net : Net) (longest most : ℕ) → IsNet net → (fs : List Frame) (w : World) → WorldFits net w → Each (FrameTrue net w) fs → Each (λ z. rank_of net z < most) fs → Only (AtOnce net longest fs) w (deliver_up net most fs w)
unfolding deliver_up_by
at_once_only net zero most n fs w f a r u x = told_same u (unchanged w []) x.1.world x.1.lines ∙ sym (ap (λ z. deliver_up net most z w) x.0 ∙ none_delivered net most w)
at_once_only net (suc longest) zero n [] w f a r u x = told_same u (unchanged w []) x.world x.lines
at_once_only net (suc longest) zero n (y ∷ ys) w f a r u x = absurd (omega (arith, r.0))
at_once_only net (suc longest) (suc most) n fs w f a r u x =
    turns_only net (Goes net (suc most)) (λ y v s. Then (Arrives net y) (λ z q. AtOnce net longest (upward_since v z) z q) v s) (delivered_up net most) (goes_later net (suc most)) (λ v y h g. one_kept net most v y n h g.0)
    (λ v y h g.
    then_only (Arrives net y) (λ z q. AtOnce net longest (upward_since v z) z q) v (deliver_frame net v y) (λ z. deliver_up net most (upward_since v z) z) (arrival_exactly net v y n h g.0).only
    (at_once_only net longest most n (sent_up net v y) (deliver_frame net v y).world (deliver_kept net v y n h g.0).fits (up_true net v y n h g.0) (sent_below net most v y n h g)))
    fs w f (all_go net (suc most) w fs a r) u x

wake_up_exactly : (net : Net) (p : ℕ) (w : World) (b : ℕ) → IsNet net → 1 ≤ net.quiet → WorldFits net w → b < net.brokers → p < net.publishers → Exactly (WakesUp net p b) w (wake_up net p w b)
unfolding wake_up_by
wake_up_exactly net p w b n quiet f i j =
    let y = (wake_for net w b p).world in
    let g = (wake_for_kept net w b p n f i j).fits in
    let fs = filter is_want (sent_since w y) in
    let a = filter_frames net y is_want (sent_since w y) (frames_past_true net y (length w.frames) y.frames g.frames) in
    let x = wake_exactly net w b p n quiet f i j in
    record {
      holds = record { longest = net.brokers; wakes = record { first = wake_for net w b p; happens = x.holds; second = deliver_up net net.brokers fs y; follows = (at_once_exactly net net.brokers n fs y g a (ranks net y fs n a)).holds; world = refl; lines = refl } };
      only = λ u r. then_only (IsWoken net b p) (λ v s. AtOnce net r.longest (upward_since w v) v s) w (wake_for net w b p) (λ v. deliver_up net net.brokers (upward_since w v) v) x.only (at_once_only net r.longest net.brokers n fs y g a (ranks net y fs n a)) u r.wakes;
    }

hand_down_exactly : (net : Net) (p first : ℕ) (w : World) (b : ℕ) → IsNet net → WorldFits net w → Exactly (HandsDown net p first b) w (hand_down net p first w b)
unfolding hand_down_by
hand_down_exactly net p first w b n f =
    let z = turns_exactly net (FrameTrue net) (Arrives net) (deliver_frame net) (FrameTrue-later net) (λ u x g h. deliver_kept net u x n g h) (λ u x g h. arrival_exactly net u x n g h)
    (filter (is_know_to p b) (frames_past first w.frames)) w f (filter_frames net w (is_know_to p b) (frames_past first w.frames) (frames_past_true net w first w.frames f.frames)) in
    record { holds = z.holds; only = z.only }

wakes_up_exactly : (net : Net) (p : ℕ) (w : World) → IsNet net → 1 ≤ net.quiet → WorldFits net w → p < net.publishers → Exactly (EachInTurn (WakesUp net p) (inwards net p)) w (in_turn (wake_up net p) (inwards net p) w)
wakes_up_exactly net p w n quiet f j = turns_exactly net (λ u b. b < net.brokers) (WakesUp net p) (wake_up net p) (λ u v b l i. i) (λ u b g i. wake_up_kept net p u b n g i j) (λ u b g i. wake_up_exactly net p u b n quiet g i j) (inwards net p) w f (depths_in net p (numbers_down net.brokers))

wakes_up_kept : (net : Net) (p : ℕ) (w : World) → IsNet net → WorldFits net w → p < net.publishers → Kept net w (in_turn (wake_up net p) (inwards net p) w)
wakes_up_kept net p w n f j = in_turn_kept net (λ u b. b < net.brokers) (wake_up net p) (λ u v b l i. i) (λ u b g i. wake_up_kept net p u b n g i j) (inwards net p) w f (depths_in net p (numbers_down net.brokers))

sweep_for_exactly : (net : Net) (w : World) (p : ℕ) → IsNet net → 1 ≤ net.quiet → WorldFits net w → p < net.publishers → Exactly (SweepsFor net p) w (sweep_for net w p)
unfolding sweep_for_by
sweep_for_exactly net w p n quiet f j = record {
  holds = record { asked = a; asks = xa.holds; handed = b; hands = xb.holds; settled = c; settles = xc.holds; world = refl; lines = append_assoc a.lines b.lines c.lines };
  only = λ u r.
      let ea : r.asked ≡ a = xa.only r.asked r.asks in
      let eb : r.handed ≡ b = xb.only r.handed (subst (λ (x : Transition). EachInTurn (HandsDown net p (length w.frames)) (outwards net p) x.world r.handed) ea r.hands) in
      let ec : r.settled ≡ c = xc.only r.settled (subst (λ (x : Transition). EachInTurn (WakesUp net p) (inwards net p) x.world r.settled) eb r.settles) in
      told_same u whole (r.world ∙ ap (λ (x : Transition). x.world) ec)
      (r.lines ∙ (ap₂ (λ (x y : Transition). x.lines ++ (y.lines ++ r.settled.lines)) ea eb ∙ (ap (λ (x : Transition). a.lines ++ (b.lines ++ x.lines)) ec ∙ sym (append_assoc a.lines b.lines c.lines))));
}
  where
    a : Transition
    a = in_turn (wake_up net p) (inwards net p) w

    ka : Kept net w a
    ka = wakes_up_kept net p w n f j

    b : Transition
    b = in_turn (hand_down net p (length w.frames)) (outwards net p) a.world

    kb : Kept net a.world b
    kb = in_turn_kept net (λ u d. d < net.brokers) (hand_down net p (length w.frames)) (λ u v d l i. i) (λ u d g i. hand_down_kept net p (length w.frames) u d n g) (outwards net p) a.world ka.fits (depths_in net p (numbers net.brokers))

    c : Transition
    c = in_turn (wake_up net p) (inwards net p) b.world

    whole : Transition
    whole = record { world = c.world; lines = (a.lines ++ b.lines) ++ c.lines }

    xa : Exactly (EachInTurn (WakesUp net p) (inwards net p)) w a
    xa = wakes_up_exactly net p w n quiet f j

    xb : Exactly (EachInTurn (HandsDown net p (length w.frames)) (outwards net p)) a.world b
    xb = turns_exactly net (λ u d. d < net.brokers) (HandsDown net p (length w.frames)) (hand_down net p (length w.frames)) (λ u v d l i. i) (λ u d g i. hand_down_kept net p (length w.frames) u d n g) (λ u d g i. hand_down_exactly net p (length w.frames) u d n g) (outwards net p) a.world ka.fits (depths_in net p (numbers net.brokers))

    xc : Exactly (EachInTurn (WakesUp net p) (inwards net p)) b.world c
    xc = wakes_up_exactly net p b.world n quiet kb.fits j

sweep_exactly : (net : Net) (w : World) (number : ℕ) → IsNet net → 1 ≤ net.quiet → WorldFits net w → Exactly (Sweeps net number) w (sweep net w number)
unfolding sweep_by
sweep_exactly net w number n quiet f = go (is_accepted net w) refl
  where
    m : ℕ
    m = sweep_moment net w

    refused : nat_le m max_tick ≡ false → sweep net w number ≡ unchanged w (line.RefusedClock number m ∷ [])
    refused e = rw (sweep_by, lt-ltb max_tick m (leb-false m max_tick e)) refl

    done : Transition
    done = in_turn (sweep_for net) (numbers net.publishers) (at_sweep net w)

    whole : Transition
    whole = record { world = done.world; lines = done.lines ++ line.Swept m ∷ [] }

    swept : nat_le m max_tick ≡ true → sweep net w number ≡ whole
    swept e = rw (sweep_by, le-ltb max_tick m (leb-true m max_tick e)) refl

    x : Exactly (EachInTurn (SweepsFor net) (numbers net.publishers)) (at_sweep net w) done
    x = turns_exactly net (λ u p. p < net.publishers) (SweepsFor net) (sweep_for net) (λ u v p l j. j) (λ u p g j. sweep_for_kept net u p n g j) (λ u p g j. sweep_for_exactly net u p n quiet g j) (numbers net.publishers) (at_sweep net w) (clocked_fits net w (sweep_moment net w) (max (sweep_moment net w) w.most) f) (numbers_below 0 net.publishers net.publishers (omega arith))

    only_swept : (u : Transition) → SweepsAll net w u → u ≡ whole
    only_swept u r =
        let eb : r.begun ≡ at_sweep net w = world_same r.begun (at_sweep net w) r.begins.clock r.begins.most r.begins.frames r.begins.views r.begins.logs in
        let ed : r.done ≡ done = x.only r.done (subst (λ z. EachInTurn (SweepsFor net) (numbers net.publishers) z r.done) eb r.each) in
        told_same u whole (r.world ∙ ap (λ (z : Transition). z.world) ed) (r.lines ∙ ap (λ (z : Transition). z.lines ++ line.Swept m ∷ []) ed)

    all_of : SweepsAll net w whole
    all_of = record { begun = at_sweep net w; begins = record { clock = refl; most = refl; frames = refl; views = refl; logs = refl }; done = done; each = x.holds; world = refl; lines = refl }

    go : (q : Bool) → is_accepted net w ≡ q → Exactly (Sweeps net number) w (sweep net w number)
    go false e = subst (λ (t : Transition). Exactly (Sweeps net number) w t) (sym (refused e)) (record {
      holds = record { refused = λ z. record { world = refl; lines = refl }; swept = λ z. absurd (true≢false (sym z ∙ e)) };
      only = λ u r. let k = r.refused e in told_same u (unchanged w (line.RefusedClock number m ∷ [])) k.world k.lines;
    })
    go true e = subst (λ (t : Transition). Exactly (Sweeps net number) w t) (sym (swept e)) (record {
      holds = record { refused = λ z. absurd (true≢false (sym e ∙ z)); swept = λ z. all_of };
      only = λ u r. only_swept u (r.swept e);
    })

-- Starts

starts_holds : (net : Net) (p b : ℕ) (log : Log) → Starts net p b log (started net p b log)
unfolding started
starts_holds net p b log = record {
  at_host = λ e. subst (λ q. HasKnown (log_at log) (if q then log_know log else [])) (sym e) (let k = log_know-is log in record { runs = k.runs; each = k.same_at });
  below = λ e. ap (λ q. if q then log_know log else []) e;
  wants = refl;
  asks = refl;
  horizon = refl;
  joins_at_host = λ e. ap (λ q. if q then log.joins else []) e;
  joins_below = λ e. ap (λ q. if q then log.joins else []) e;
}

starts_once : (net : Net) (p b : ℕ) (log : Log) (v u : View) → Starts net p b log v → Starts net p b log u → v ≡ u
starts_once net p b log v u a c =
    view_equal v u (elim (cases_Bool (is_host net p b)) [
      | inl e ↦ let x = a.at_host e in let y = c.at_host e in runs_equal Q 1 1 v.know u.know x.runs y.runs (λ t. x.each t ∙ sym (y.each t))
      | inr e ↦ a.below e ∙ sym (c.below e)
    ]) (a.wants ∙ sym c.wants) (a.asks ∙ sym c.asks) (a.horizon ∙ sym c.horizon) (elim (cases_Bool (is_host net p b)) [
      | inl e ↦ a.joins_at_host e ∙ sym (c.joins_at_host e)
      | inr e ↦ a.joins_below e ∙ sym (c.joins_below e)
    ])

-- lists of one length with the same at each place
lists_same : {X : Type 0} (d : X) (xs ys : List X) → length xs ≡ length ys → ((i : ℕ) → i < length xs → get_or xs i d ≡ get_or ys i d) → xs ≡ ys
lists_same d [] [] l h = refl
lists_same d [] (y ∷ ys) l h = absurd (omega (arith, l))
lists_same d (x ∷ xs) [] l h = absurd (omega (arith, l))
lists_same d (x ∷ xs) (y ∷ ys) l h = ap₂ (λ a b. a ∷ b) (h 0 (omega arith)) (lists_same d xs ys (omega (arith, l)) (λ i k. h (suc i) (omega (arith, k))))

all_once : (net : Net) (b : ℕ) (logs : List Log) (vs us : List View) → StartsAll net b logs vs → StartsAll net b logs us → vs ≡ us
all_once net b logs vs us a c =
    lists_same blank_view vs us (a.long ∙ sym c.long) (λ p i. let j : p < net.publishers = omega (arith, i, a.long) in starts_once net p b (get_or logs p empty_log) (get_or vs p blank_view) (get_or us p blank_view) (a.each p j) (c.each p j))

-- the views of a broker that starts
abbrev fresh_views : Net → ℕ → List Log → List View
fresh_views net b logs = map (λ p. started net p b (get_or logs p empty_log)) (numbers net.publishers)

fresh_starts : (net : Net) (b : ℕ) (logs : List Log) → StartsAll net b logs (fresh_views net b logs)
fresh_starts net b logs = record {
  long = length_numbers (λ p. started net p b (get_or logs p empty_log)) 0 net.publishers;
  each = λ p j. subst (Starts net p b (get_or logs p empty_log)) (sym (get_numbers (λ q. started net q b (get_or logs q empty_log)) 0 net.publishers p blank_view j ∙ ap (λ q. started net q b (get_or logs q empty_log)) (omega arith))) (starts_holds net p b (get_or logs p empty_log));
}

-- a world over other logs
abbrev over : World → List Log → World
over w logs = record { clock = w.clock; most = w.most; frames = w.frames; views = w.views; logs = logs }

again_holds : (net : Net) (b : ℕ) (logs : List Log) (w : World) → StartsAgain net b logs w (restarted net (over w logs) b)
unfolding restarted
again_holds net b logs w = record { fresh = fresh_views net b logs; starts = fresh_starts net b logs; views = refl; logs_are = refl; frames = refl; clock = refl; most = refl }

again_once : (net : Net) (b : ℕ) (logs : List Log) (w u : World) → StartsAgain net b logs w u → u ≡ restarted net (over w logs) b
unfolding restarted
again_once net b logs w u r =
    world_same u (restarted net (over w logs) b) r.clock r.most r.frames (r.views ∙ ap (λ z. set w.views b z) (all_once net b logs r.fresh (fresh_views net b logs) r.starts (fresh_starts net b logs))) r.logs_are

-- Steps

crash_exactly : (net : Net) (w : World) (number b : ℕ) → (let t : Transition = elim (not_empty (net.subscribers_at b)) [ true ↦ unchanged w (line.RefusedHosts number b ∷ []) | false ↦ crash net w b ] in Exactly (Crashes net number b) w t)
unfolding crash opened_lines
crash_exactly net w number b = go (not_empty (net.subscribers_at b)) refl
  where
    go : (q : Bool) → not_empty (net.subscribers_at b) ≡ q → (let t : Transition = elim q [ true ↦ unchanged w (line.RefusedHosts number b ∷ []) | false ↦ crash net w b ] in Exactly (Crashes net number b) w t)
    go true e = record {
      holds = record { refused = λ z. record { world = refl; lines = refl }; again = λ z. absurd (true≢false (sym e ∙ z)); lines = λ z. absurd (true≢false (sym e ∙ z)) };
      only = λ u r. let k = r.refused e in told_same u (unchanged w (line.RefusedHosts number b ∷ [])) k.world k.lines;
    }
    go false e = record {
      holds = record { refused = λ z. absurd (true≢false (sym z ∙ e)); again = λ z. again_holds net b w.logs w; lines = λ z. refl };
      only = λ u r. told_same u (crash net w b) (again_once net b w.logs w u.world (r.again e)) (r.lines e);
    }

stopped_exactly : (net : Net) (w : World) (k p number : ℕ) (stop : Stop) (e : Event) → IsNet net → WorldFits net w → p < net.publishers → Exactly (Stops net k p number stop e) w (publish_stopped net w k p number stop e)
unfolding publish_stopped_by opened_lines
stopped_exactly net w k p number stop e n f j = go (not_empty (net.subscribers_at b)) (is_next_of w p number) refl refl
  where
    b : ℕ
    b = net.host p

    stopped : Transition
    stopped = record {
      world = restarted net (over w (logs_left w p stop e)) b;
      lines = line.Crashed b ∷ (fate w p number stop ∷ opened_lines net (logs_left w p stop e) b);
    }

    go : (x y : Bool) → not_empty (net.subscribers_at b) ≡ x → is_next_of w p number ≡ y → (let t : Transition = elim x [ true ↦ unchanged w (line.RefusedHosts k b ∷ []) | false ↦ elim y [ false ↦ publish_now net w p number e | true ↦ stopped ] ] in Exactly (Stops net k p number stop e) w t)
    go true y a c = record {
      holds = record { refused = λ z. record { world = refl; lines = refl }; goes_on = λ z q. absurd (true≢false (sym a ∙ z)); stops = λ z q. absurd (true≢false (sym a ∙ z)) };
      only = λ u r. let x = r.refused a in told_same u (unchanged w (line.RefusedHosts k b ∷ [])) x.world x.lines;
    }
    go false false a c =
        let x = publish_exactly net w p number e n f j in
        record {
          holds = record { refused = λ z. absurd (true≢false (sym z ∙ a)); goes_on = λ z q. x.holds; stops = λ z q. absurd (true≢false (sym q ∙ c)) };
          only = λ u r. x.only u (r.goes_on a c);
        }
    go false true a c = record {
      holds = record { refused = λ z. absurd (true≢false (sym z ∙ a)); goes_on = λ z q. absurd (true≢false (sym c ∙ q)); stops = λ z q. record { again = again_holds net b (logs_left w p stop e) w; lines = refl } };
      only = λ u r. let x = r.stops a c in told_same u stopped (again_once net b (logs_left w p stop e) w u.world x.again) x.lines;
    }

none_some : (x : Frame) → None ≡ Some x → ⊥
none_some x e = cc

some_frame : (x y : Frame) → Some x ≡ Some y → x ≡ y
some_frame x y e = cc

deliver_exactly : (net : Net) (w : World) (number k : ℕ) → IsNet net → WorldFits net w → (let t : Transition = elim (frame_at w k) [ None ↦ unchanged w (line.RefusedFrame number k (length w.frames) ∷ []) | Some x ↦ deliver_frame net w x ] in Exactly (Delivers net number k) w t)
deliver_exactly net w number k n f = go (frame_at w k) refl
  where
    go : (o : Option Frame) → frame_at w k ≡ o → (let t : Transition = elim o [ None ↦ unchanged w (line.RefusedFrame number k (length w.frames) ∷ []) | Some x ↦ deliver_frame net w x ] in Exactly (Delivers net number k) w t)
    go None e = record {
      holds = record { refused = λ z. record { world = refl; lines = refl }; arrives = λ y z. absurd (none_some y (sym e ∙ z)) };
      only = λ u r. let x = r.refused e in told_same u (unchanged w (line.RefusedFrame number k (length w.frames) ∷ [])) x.world x.lines;
    }
    go (Some y) e =
        let x = arrival_exactly net w y n f (frame_at_true net w k y f e) in
        record {
          holds = record { refused = λ z. absurd (none_some y (sym z ∙ e)); arrives = λ v z. subst (λ g. Arrives net g w (deliver_frame net w y)) (some_frame y v (sym e ∙ z)) x.holds };
          only = λ u r. x.only u (r.arrives y e);
        }

bytes_exactly : (net : Net) (w : World) (number k : ℕ) → (let t : Transition = elim (frame_at w k) [ None ↦ unchanged w (line.RefusedFrame number k (length w.frames) ∷ []) | Some x ↦ unchanged w (line.BytesOf k (frame_bytes x) ∷ []) ] in Exactly (ShowsBytes number k) w t)
bytes_exactly net w number k = go (frame_at w k) refl
  where
    go : (o : Option Frame) → frame_at w k ≡ o → (let t : Transition = elim o [ None ↦ unchanged w (line.RefusedFrame number k (length w.frames) ∷ []) | Some x ↦ unchanged w (line.BytesOf k (frame_bytes x) ∷ []) ] in Exactly (ShowsBytes number k) w t)
    go None e = record {
      holds = record { refused = λ z. record { world = refl; lines = refl }; bytes = λ y z. absurd (none_some y (sym e ∙ z)) };
      only = λ u r. let x = r.refused e in told_same u (unchanged w (line.RefusedFrame number k (length w.frames) ∷ [])) x.world x.lines;
    }
    go (Some y) e = record {
      holds = record { refused = λ z. absurd (none_some y (sym z ∙ e)); bytes = λ v z. record { world = refl; lines = ap (λ g. line.BytesOf k (frame_bytes g) ∷ []) (some_frame y v (sym e ∙ z)) } };
      only = λ u r. let x = r.bytes y e in told_same u (unchanged w (line.BytesOf k (frame_bytes y) ∷ [])) x.world x.lines;
    }

wakes_exactly : (net : Net) (w : World) (b : ℕ) → IsNet net → 1 ≤ net.quiet → WorldFits net w → b < net.brokers → Exactly (EachInTurn (IsWoken net b) (numbers net.publishers)) w (wake_all net w b)
unfolding wake_all_by
wakes_exactly net w b n quiet f i = turns_exactly net (λ u p. p < net.publishers) (IsWoken net b) (λ u p. wake_for net u b p) (λ u v p l j. j) (λ u p g j. wake_for_kept net u b p n g i j) (λ u p g j. wake_exactly net u b p n quiet g i j) (numbers net.publishers) w f (numbers_below 0 net.publishers net.publishers (omega arith))

show_exactly : (net : Net) (w : World) → Exactly (λ v t. Tells (shown net v) v t) w (unchanged w (show net w))
unfolding show
show_exactly net w = let x = tells_exactly (shown net w) w in record { holds = x.holds; only = x.only }

clock_exactly : (w : World) (now : ℕ) → (let u : World = record { clock = now; most = max now w.most; frames = w.frames; views = w.views; logs = w.logs } in Exactly (SetsClock now) w (unchanged u []))
clock_exactly w now =
    let u : World = record { clock = now; most = max now w.most; frames = w.frames; views = w.views; logs = w.logs } in
    record {
      holds = record { moves = record { clock = refl; most = refl; frames = refl; views = refl; logs = refl }; lines = refl };
      only = λ t r. let m = r.moves in told_same t (unchanged u []) (world_same t.world u m.clock m.most m.frames m.views m.logs) r.lines;
    }

step_exactly : (net : Net) (w : World) (number : ℕ) (s : Step) → IsNet net → 1 ≤ net.quiet → WorldFits net w → StepIn net s → Exactly (Happens net number s) w (told_at net w number s)
step_exactly net w number (step.Clock now) n quiet f i = let x = clock_exactly w now in record { holds = x.holds; only = x.only }
step_exactly net w number (step.Publish p k None e) n quiet f i = let x = publish_exactly net w p k e n f i in record { holds = x.holds; only = x.only }
step_exactly net w number (step.Publish p k (Some stop) e) n quiet f i = let x = stopped_exactly net w number p k stop e n f i in record { holds = x.holds; only = x.only }
step_exactly net w number (step.Wake b) n quiet f i = let x = wakes_exactly net w b n quiet f i in record { holds = x.holds; only = x.only }
step_exactly net w number (step.Deliver k) n quiet f i = let x = deliver_exactly net w number k n f in record { holds = x.holds; only = x.only }
step_exactly net w number (step.Crash b) n quiet f i = let x = crash_exactly net w number b in record { holds = x.holds; only = x.only }
step_exactly net w number step.Sweep n quiet f i = let x = sweep_exactly net w number n quiet f in record { holds = x.holds; only = x.only }
step_exactly net w number step.Show n quiet f i = let x = show_exactly net w in record { holds = x.holds; only = x.only }
step_exactly net w number (step.Bytes k) n quiet f i = let x = bytes_exactly net w number k in record { holds = x.holds; only = x.only }
step_exactly net w number (step.Join s p) n quiet f i = let x = join_exactly net w s p n f i.1 in record { holds = x.holds; only = x.only }

next_exactly : (net : Net) (w : World) (l : Line) → IsNet net → 1 ≤ net.quiet → WorldFits net w → StepIn net l.step → Exactly (Happens net l.number l.step) w (next net w l)
unfolding next_by
next_exactly net w l n quiet f i = step_exactly net w l.number l.step n quiet f i

-- Runs

-- what the machine tells and leaves is by the rules
pub run_by_rules : (net : Net) (ls : List Line) (w : World) → IsNet net → 1 ≤ net.quiet → WorldFits net w → StepsIn net ls → RunByRules net w ls (run_from net w ls) (run_all net w ls).world
unfolding run_from_by
run_by_rules net [] w n quiet f i = refl
run_by_rules net (l ∷ ls) w n quiet f i =
    let t = next net w l in
    record { left = t.world; happens = (next_exactly net w l n quiet f i.0).holds; rest = run_by_rules net ls t.world n quiet (next_kept net w l n f i.0).fits i.1 }

-- and nothing else is
pub run_once : (net : Net) (ls : List Line) (w : World) (rs : List (List Report)) (u : World) → IsNet net → 1 ≤ net.quiet → WorldFits net w → StepsIn net ls → RunByRules net w ls rs u → (rs ≡ run_from net w ls) × (u ≡ (run_all net w ls).world)
unfolding run_from_by
run_once net [] w [] u n quiet f i r = (refl, r)
run_once net [] w (x ∷ xs) u n quiet f i r = absurd r
run_once net (l ∷ ls) w [] u n quiet f i r = absurd r
run_once net (l ∷ ls) w (x ∷ xs) u n quiet f i r =
    let t : Transition = record { world = r.left; lines = x } in
    let e : t ≡ next net w l = (next_exactly net w l n quiet f i.0).only t r.happens in
    let k = next_kept net w l n f i.0 in
    let rest = run_once net ls (next net w l).world xs u n quiet k.fits i.1 (subst (λ (a : Transition). RunByRules net a.world ls xs u) e r.rest) in
    (ap₂ (λ (a : Transition) b. a.lines ∷ b) e rest.0, rest.1)

-- before anything happens over logs that were found
pub begins_over : (net : Net) (found : List Log) → BeginsOver net found (over_logs net found)
unfolding over_logs
begins_over net found = record {
  clock = refl;
  most = refl;
  frames = refl;
  logs = refl;
  long = length_numbers (λ b. fresh b) 0 net.brokers;
  views = λ b i. subst (StartsAll net b (map (reopened_log found) (numbers net.publishers))) (sym (get_numbers fresh 0 net.brokers b [] i ∙ ap fresh (omega arith))) (of_broker b);
}
  where
    fresh : ℕ → List View
    fresh b = map (λ p. started net p b (reopened_log found p)) (numbers net.publishers)

    of_broker : (b : ℕ) → StartsAll net b (map (reopened_log found) (numbers net.publishers)) (fresh b)
    of_broker b = record {
      long = length_numbers (λ p. started net p b (reopened_log found p)) 0 net.publishers;
      each = λ p j.
          subst (λ l. Starts net p b l (get_or (fresh b) p blank_view)) (sym (get_numbers (reopened_log found) 0 net.publishers p empty_log j ∙ ap (reopened_log found) (omega arith)))
          (subst (Starts net p b (reopened_log found p)) (sym (get_numbers (λ q. started net q b (reopened_log found q)) 0 net.publishers p blank_view j ∙ ap (λ q. started net q b (reopened_log found q)) (omega arith))) (starts_holds net p b (reopened_log found p)));
    }

begins_holds : (net : Net) → Begins net (start net)
unfolding start_by over_logs
begins_holds net = begins_over net []

-- over given logs the rules allow one beginning only
pub begins_once : (net : Net) (found : List Log) (w u : World) → BeginsOver net found w → BeginsOver net found u → w ≡ u
begins_once net found w u a c =
    let logs : w.logs ≡ u.logs = a.logs ∙ sym c.logs in
    world_same w u (a.clock ∙ sym c.clock) (a.most ∙ sym c.most) (a.frames ∙ sym c.frames)
    (lists_same [] w.views u.views (a.long ∙ sym c.long) (λ b i. let j : b < net.brokers = omega (arith, i, a.long) in all_once net b w.logs (get_or w.views b []) (get_or u.views b []) (a.views b j) (subst (λ z. StartsAll net b z (get_or u.views b [])) (sym logs) (c.views b j)))) logs

-- what the machine tells and leaves of a whole schedule is by the rules
pub schedule_by_rules : (net : Net) (steps : List Line) → IsNet net → 1 ≤ net.quiet → StepsIn net steps → ScheduleByRules net steps (report_of net steps) (run_all net (start net) steps).world
unfolding report_of_by
schedule_by_rules net steps n quiet i = (refl, record { begun = start net; begins = begins_holds net; run = run_by_rules net steps (start net) n quiet (start_fits net n) i })

-- and nothing else is
pub schedule_once : (net : Net) (steps : List Line) (rs : List (List Report)) (u : World) → IsNet net → 1 ≤ net.quiet → StepsIn net steps → ScheduleByRules net steps rs u → (rs ≡ report_of net steps) × (u ≡ (run_all net (start net) steps).world)
unfolding report_of_by
schedule_once net steps [] u n quiet i a = absurd a
schedule_once net steps (r ∷ rs) u n quiet i a =
    let x = a.1 in
    let y = run_once net steps (start net) rs u n quiet (start_fits net n) i (subst (λ w. RunByRules net w steps rs u) (begins_once net [] x.begun (start net) x.begins (begins_holds net)) x.run) in
    (ap₂ (λ z zs. z ∷ zs) a.0 y.0, y.1)

-- so is the report alone
pub report_by_rules : (net : Net) (steps : List Line) → IsNet net → 1 ≤ net.quiet → StepsIn net steps → ReportByRules net steps (report_of net steps)
report_by_rules net steps n quiet i = record { left = (run_all net (start net) steps).world; schedule = schedule_by_rules net steps n quiet i }

-- the rules allow one report of a schedule only, that of the machine
pub report_once : (net : Net) (steps : List Line) (rs : List (List Report)) → IsNet net → 1 ≤ net.quiet → StepsIn net steps → ReportByRules net steps rs → rs ≡ report_of net steps
report_once net steps rs n quiet i a = (schedule_once net steps rs a.left n quiet i a.schedule).0
