-- Over every schedule each call obeys its rule, and each step's lines are those of its calls and its own
use Rattle.std.proofs.Common.{◌≡◌, ℕ, suc, ◌-◌, ◌≤◌, ◌<◌, max, Bool, true, false, ◌||◌, List, [], ◌∷◌, ◌++◌, map, length, set, refl, sym, ap, ap₂, ◌∙◌, subst, Option, Some, None, arith, append-nil}
use Rattle.std.specs.Prelude.{zero, nat_le, if◌then◌else◌, filter, flat_map}
use Rattle.std.proofs.lemmas.List.Elements.{filter-append}
use Rattle.std.proofs.lemmas.Bool.{true≢false, leb-true, leb-false, le-ltb, lt-ltb}
use Rattle.gr_event.specs.declared.event.Event.{Event}
use Rattle.gr_frame.specs.declared.Frame.{Frame}
use Rattle.gr_sched.specs.declared.step.Stop.{Stop}
use Rattle.gr_sched.specs.declared.step.Step.{Step}
use Rattle.gr_sched.specs.declared.step.Step.TheVariants as step
use Rattle.gr_sched.specs.declared.step.Line.{Line}
use Rattle.gr_model.specs.declared.report.Report.{Report}
use Rattle.gr_model.specs.declared.report.Report.TheVariants as line
use Rattle.gr_frame.specs.Bytes.{frame_bytes}
use Rattle.gr_model.specs.Net.{Net, keeps_horizon, not_empty, numbers}
use Rattle.gr_model_calls.specs.Rules.{TakesJoin, Publishes, Wakes, Comes}
use Rattle.gr_model.specs.Broker.{joining, View, Log, Outcome, started, with_event, is_kept, max_tick, publish, wake, receive}
use Rattle.gr_model.specs.World.{join_now_by, absorbed, World, Transition, is_want, inwards, outwards, view_of, log_of, unchanged, in_turn, frame_at, opened_lines, restarted, crash, sweep_moment, kept_events, show, start, deliver_frame_by, next_by, publish_now_by, publish_stopped_by, report_of_by, run_from_by, sweep_by, wake_all_by, wake_for_by}
use Rattle.gr_model_calls.specs.OneNet.{join_now, wake_for, wake_all, deliver_frame, publish_now, publish_stopped, sweep, next, run_from, report_of}
use Rattle.gr_model.specs.Tree.{IsNet}
use Rattle.gr_model_calls.specs.Fits.{WorldFits, StepIn, StepsIn, reached_in}
use Rattle.gr_model.specs.Headline.{says_kept}
use Rattle.gr_model_theorems.specs.Settles.{sent_past, Call, wakes, delivers, made, all_made, WasSent, EachSent, at_sweep, sweep_calls, is_accepted, calls_in_turn, up_calls, wake_calls, down_calls, sweep_calls_for}
use Rattle.gr_model_theorems.specs.Obeys.{joins, Action, publishes, makes, done, all_done, CallObeys, AllObey, is_next_of, calls_of, called_in, is_own, crashed_in, Obeys, StepObeys, StepsObey, CallsObey}
use Rattle.gr_model_calls.proofs.runs.Worlds.{depths_in, Each, wake_for_kept, deliver_kept, numbers_below}
use Rattle.gr_model_calls.proofs.runs.Schedules.{start_fits, next_kept, clocked_fits, frame_at_true}
use Rattle.gr_model_theorems.proofs.sweep.SweepCalls.{made_is, sweep_is_calls, sweep_sent}
use Rattle.gr_model_theorems.proofs.sweep.Rounds.{Each-join}
use Rattle.gr_model_calls.proofs.rules.HostRules.{joins_rule, wakes_rule, publishes_rule, comes_rule}
use Rattle.gr_model_calls.proofs.rules.Views.{fits_view}

-- One call

-- what a call leaves is put in its places
put_in : (net : Net) (w : World) (a : Action) (b p : ℕ) (Rule : View → Log → Outcome → Type 0) (o : Outcome) → Rule (view_of w b p) (log_of w p) o → done net w a ≡ absorbed w b p o → Obeys net w a b p Rule
unfolding absorbed
put_in net w a b p Rule o r e = record {
  outcome = o;
  rule = r;
  lines = ap (λ x. x.lines) e;
  frames = ap (λ x. x.world.frames) e;
  views = ap (λ x. x.world.views) e;
  logs = ap (λ x. x.world.logs) e;
  clock = ap (λ x. x.world.clock) e;
  most = ap (λ x. x.world.most) e;
}

wake_obeys : (net : Net) (w : World) (b p : ℕ) → IsNet net → 1 ≤ net.quiet → WorldFits net w → b < net.brokers → p < net.publishers → CallObeys net w (makes (wakes b p))
unfolding wake_for_by
wake_obeys net w b p n quiet f i j =
    put_in net w (makes (wakes b p)) b p (Wakes net p b w.clock) (wake net p b w.clock (view_of w b p) (log_of w p))
    (wakes_rule net p b w.clock (view_of w b p) (log_of w p) n quiet j i (fits_view net w p b f j i)) refl

delivery_obeys : (net : Net) (w : World) (k : ℕ) (x : Frame) → IsNet net → WorldFits net w → frame_at w k ≡ Some x → CallObeys net w (makes (delivers k))
unfolding deliver_frame_by
delivery_obeys net w k x n f e =
    let t = frame_at_true net w k x f e in
    let p = x.head.publisher in (
      x,
      e,
      put_in net w (makes (delivers k)) x.head.to p (Comes net p x.head.from x.head.to w.clock x.body) (receive net w.clock x (view_of w x.head.to p) (log_of w p))
          (comes_rule net w.clock x (view_of w x.head.to p) (log_of w p) (reached_in net w p) n t.publisher_in t.fits t.told (f.views p x.head.to t.publisher_in t.fits.to_in)) (made_is net w k x e),
    )

publish_obeys : (net : Net) (w : World) (p number : ℕ) (e : Event) → IsNet net → WorldFits net w → p < net.publishers → CallObeys net w (publishes p number e)
unfolding publish_now_by
publish_obeys net w p number e n f j =
    let i = n.host_in p j in
    put_in net w (publishes p number e) (net.host p) p (Publishes net p (net.host p) w.clock number e) (publish net p (net.host p) w.clock number e (view_of w (net.host p) p) (log_of w p))
    (publishes_rule net p (net.host p) w.clock number e (view_of w (net.host p) p) (log_of w p) n j i (fits_view net w p (net.host p) f j i)) refl

join_obeys : (net : Net) (w : World) (s p : ℕ) → IsNet net → WorldFits net w → p < net.publishers → CallObeys net w (joins s p)
unfolding join_now_by
join_obeys net w s p n f j =
    let i = n.host_in p j in
    put_in net w (joins s p) (net.host p) p (TakesJoin net p (net.host p) w.clock s) (joining net p (net.host p) w.clock s (view_of w (net.host p) p) (log_of w p))
    (joins_rule net p (net.host p) w.clock s (view_of w (net.host p) p) (log_of w p) n j i (fits_view net w p (net.host p) f j i)) refl

-- The calls of a sweep

-- a wake is of a broker and a publisher of the topology
abbrev IsIn : Net → Call → Type 0
IsIn net (wakes b p) = (b < net.brokers) × (p < net.publishers)
IsIn net (delivers k) = Unit {0}

made_obeys : (net : Net) (w : World) (c : Call) → IsNet net → 1 ≤ net.quiet → WorldFits net w → IsIn net c → WasSent w c → CallObeys net w (makes c) × WorldFits net (made net w c).world
made_obeys net w (wakes b p) n quiet f i s = (wake_obeys net w b p n quiet f i.0 i.1, (wake_for_kept net w b p n f i.0 i.1).fits)
made_obeys net w (delivers k) n quiet f i s = (
  delivery_obeys net w k s.0 n f s.1,
  subst (λ t. WorldFits net t.world) (sym (made_is net w k s.0 s.1)) (deliver_kept net w s.0 n f (frame_at_true net w k s.0 f s.1)).fits,
)

all_made_obey : (net : Net) (cs : List Call) (w : World) → IsNet net → 1 ≤ net.quiet → WorldFits net w → Each (IsIn net) cs → EachSent net cs w → AllObey net (map makes cs) w
all_made_obey net [] w n quiet f i s = tt
all_made_obey net (c ∷ cs) w n quiet f i s =
    let x = made_obeys net w c n quiet f i.0 s.0 in
    (x.0, all_made_obey net cs (made net w c).world n quiet x.1 i.1 s.1)

all_done_made : (net : Net) (cs : List Call) (w : World) → all_done net (map makes cs) w ≡ all_made net cs w
all_done_made net [] w = refl
all_done_made net (c ∷ cs) w =
    let s = made net w c in
    ap (λ (r : Transition). let t : Transition = record { world = r.world; lines = s.lines ++ r.lines } in t) (all_done_made net cs s.world)

turns_in : {X : Type 0} (net : Net) (ok : X → Type 0) (g : World → X → List Call) → ((w : World) (x : X) → ok x → Each (IsIn net) (g w x)) → (xs : List X) (w : World) → Each ok xs → Each (IsIn net) (calls_in_turn net g xs w)
turns_in net ok g one [] w a = tt
turns_in net ok g one (x ∷ xs) w a = let u = (all_made net (g w x) w).world in Each-join (IsIn net) (g w x) (calls_in_turn net g xs u) (one w x a.0) (turns_in net ok g one xs u a.1)

-- nothing is asked of a number
any_number : (ks : List ℕ) → Each (λ k. Unit {0}) ks
any_number [] = tt
any_number (k ∷ ks) = (tt, any_number ks)

up_in : (net : Net) (fuel : ℕ) (ks : List ℕ) (w : World) → Each (IsIn net) (up_calls net fuel ks w)
unfolding up_calls
up_in net zero ks w = tt
up_in net (suc fuel) ks w = turns_in net (λ k. Unit {0}) (λ u k. let x = (made net u (delivers k)).world in delivers k ∷ up_calls net fuel (sent_past is_want (length u.frames) x) x)
    (λ u k i. let x = (made net u (delivers k)).world in (tt, up_in net fuel (sent_past is_want (length u.frames) x) x)) ks w (any_number ks)

wakes_in : (net : Net) (p : ℕ) (w : World) (b : ℕ) → p < net.publishers → b < net.brokers → Each (IsIn net) (wake_calls net p w b)
unfolding wake_calls
wakes_in net p w b j i = let x = (wake_for net w b p).world in ((i, j), up_in net net.brokers (sent_past is_want (length w.frames) x) x)

deliveries_in : (net : Net) (ks : List ℕ) → Each (IsIn net) (map delivers ks)
deliveries_in net [] = tt
deliveries_in net (k ∷ ks) = (tt, deliveries_in net ks)

downs_in : (net : Net) (p first : ℕ) (w : World) (b : ℕ) → Each (IsIn net) (down_calls net p first w b)
unfolding down_calls
downs_in net p first w b = deliveries_in net _

sweep_for_in : (net : Net) (w : World) (p : ℕ) → p < net.publishers → Each (IsIn net) (sweep_calls_for net w p)
unfolding sweep_calls_for
sweep_for_in net w p j =
    let a = calls_in_turn net (wake_calls net p) (inwards net p) w in
    let x = (all_made net a w).world in
    let b = calls_in_turn net (down_calls net p (length w.frames)) (outwards net p) x in
    let y = (all_made net b x).world in
    let c = calls_in_turn net (wake_calls net p) (inwards net p) y in
    Each-join (IsIn net) (a ++ b) c
    (Each-join (IsIn net) a b (turns_in net (λ d. d < net.brokers) (wake_calls net p) (λ u d i. wakes_in net p u d j i) (inwards net p) w (depths_in net p _))
    (turns_in net (λ d. d < net.brokers) (down_calls net p (length w.frames)) (λ u d i. downs_in net p (length w.frames) u d) (outwards net p) x (depths_in net p _)))
    (turns_in net (λ d. d < net.brokers) (wake_calls net p) (λ u d i. wakes_in net p u d j i) (inwards net p) y (depths_in net p _))

sweep_in : (net : Net) (w : World) → Each (IsIn net) (sweep_calls net w)
unfolding sweep_calls
sweep_in net w = turns_in net (λ p. p < net.publishers) (sweep_calls_for net) (λ u p j. sweep_for_in net u p j) (numbers net.publishers) (at_sweep net w) (numbers_below 0 net.publishers net.publishers (omega arith))

-- The wakes of a step

wakes_obey : (net : Net) (b : ℕ) (ps : List ℕ) (w : World) → IsNet net → 1 ≤ net.quiet → WorldFits net w → b < net.brokers → Each (λ p. p < net.publishers) ps → AllObey net (map (λ p. makes (wakes b p)) ps) w
wakes_obey net b [] w n quiet f i a = tt
wakes_obey net b (p ∷ ps) w n quiet f i a = (wake_obeys net w b p n quiet f i a.0, wakes_obey net b ps (wake_for net w b p).world n quiet (wake_for_kept net w b p n f i a.0).fits i a.1)

wakes_done : (net : Net) (b : ℕ) (ps : List ℕ) (w : World) → in_turn (λ u p. wake_for net u b p) ps w ≡ all_done net (map (λ p. makes (wakes b p)) ps) w
wakes_done net b [] w = refl
wakes_done net b (p ∷ ps) w =
    let s = wake_for net w b p in
    ap (λ (r : Transition). let t : Transition = record { world = r.world; lines = s.lines ++ r.lines } in t) (wakes_done net b ps s.world)

-- Lines of no call

own_map : (g : ℕ → Report) (xs : List ℕ) → ((x : ℕ) → is_own (g x) ≡ true) → filter is_own (map g xs) ≡ map g xs
own_map g [] h = refl
own_map g (x ∷ xs) h = rw (h x) (ap (λ y. g x ∷ y) (own_map g xs h))

own_flat : (g : ℕ → List Report) (xs : List ℕ) → ((x : ℕ) → filter is_own (g x) ≡ g x) → filter is_own (flat_map g xs) ≡ flat_map g xs
own_flat g [] h = refl
own_flat g (x ∷ xs) h = filter-append is_own (g x) (flat_map g xs) ∙ ap₂ (λ y z. y ++ z) (h x) (own_flat g xs h)

own_if : (q : Bool) (r : Report) → is_own r ≡ true → filter is_own (if q then r ∷ [] else []) ≡ (if q then r ∷ [] else [])
own_if true r e = rw e refl
own_if false r e = refl

opened_own : (net : Net) (logs : List Log) (b : ℕ) → filter is_own (opened_lines net logs b) ≡ opened_lines net logs b
unfolding opened_lines
opened_own net logs b = own_flat _ (numbers net.publishers) (λ p. own_if _ _ refl)

show_own : (net : Net) (w : World) → filter is_own (show net w) ≡ show net w
unfolding show
show_own net w =
    let logs = map (λ p. let l = log_of w p in line.LogOf p l.last l.settled l.cut (kept_events l)) (numbers net.publishers) in
    let doubts = flat_map (λ b. flat_map (λ p. if keeps_horizon net p b then line.Doubt b p (view_of w b p).horizon ∷ [] else []) (numbers net.publishers)) (numbers net.brokers) in
    ap (λ y. line.Frames (length w.frames) ∷ y) (filter-append is_own logs doubts ∙ ap₂ (λ y z. y ++ z) (own_map _ (numbers net.publishers) (λ p. refl))
    (own_flat _ (numbers net.brokers) (λ b. own_flat _ (numbers net.publishers) (λ p. own_if (keeps_horizon net p b) _ refl))))

show_crash : (net : Net) (w : World) → crashed_in (show net w) ≡ None
unfolding show
show_crash net w = refl

-- One step

-- what is to be shown of what a step tells, its calls, and the world in which they are made
record Parts (net : Net) (w : World) (t : Transition) (cs : List Action) (u : World) : Type 0 where
  obey : AllObey net cs u
  own : List Report
  lines : t.lines ≡ (all_done net cs u).lines ++ own
  own_only : filter is_own own ≡ own
  frames : t.world.frames ≡ (all_done net cs u).world.frames
  views : crashed_in own ≡ None → t.world.views ≡ (all_done net cs u).world.views
  restarts : (b : ℕ) → crashed_in own ≡ Some b → t.world.views ≡ set w.views b (map (λ p. started net p b (log_of t.world p)) (numbers net.publishers))
  logs : says_kept own ≡ false → t.world.logs ≡ (all_done net cs u).world.logs

none_some : (b : ℕ) → None ≡ Some b → ⊥
none_some b e = cc

some_same : (b c : ℕ) → Some b ≡ Some c → b ≡ c
some_same b c e = cc

-- no call and no crash, and lines of the step's own
no_calls : (net : Net) (w : World) (t : Transition) → filter is_own t.lines ≡ t.lines → t.world.frames ≡ w.frames → t.world.views ≡ w.views → t.world.logs ≡ w.logs → crashed_in t.lines ≡ None → Parts net w t [] w
no_calls net w t o f v g c = record { obey = tt; own = t.lines; lines = refl; own_only = o; frames = f; views = λ z. v; restarts = λ b z. absurd (none_some b (sym c ∙ z)); logs = λ z. g }

-- the calls alone
calls_alone : (net : Net) (t : Transition) (cs : List Action) (w : World) → AllObey net cs w → t ≡ all_done net cs w → Parts net w t cs w
calls_alone net t cs w a e = record {
  obey = a;
  own = [];
  lines = ap (λ x. x.lines) e ∙ sym (append-nil (all_done net cs w).lines);
  own_only = refl;
  frames = ap (λ x. x.world.frames) e;
  views = λ z. ap (λ x. x.world.views) e;
  restarts = λ b z. absurd (none_some b z);
  logs = λ z. ap (λ x. x.world.logs) e;
}

-- one call alone
one_done : (net : Net) (w : World) (c : Action) → done net w c ≡ all_done net (c ∷ []) w
one_done net w c = let s = done net w c in ap (λ ls. let t : Transition = record { world = s.world; lines = ls } in t) (sym (append-nil s.lines))

publish_parts : (net : Net) (w : World) (p number : ℕ) (e : Event) → IsNet net → WorldFits net w → p < net.publishers → Parts net w (publish_now net w p number e) (publishes p number e ∷ []) w
publish_parts net w p number e n f j = calls_alone net (publish_now net w p number e) (publishes p number e ∷ []) w (publish_obeys net w p number e n f j, tt) (one_done net w (publishes p number e))

join_parts : (net : Net) (w : World) (s p : ℕ) → IsNet net → WorldFits net w → p < net.publishers → Parts net w (join_now net w s p) (joins s p ∷ []) w
join_parts net w s p n f j = calls_alone net (join_now net w s p) (joins s p ∷ []) w (join_obeys net w s p n f j, tt) (one_done net w (joins s p))

-- a broker that crashes
crash_parts : (net : Net) (w u : World) (b : ℕ) (ls : List Report) → u.frames ≡ w.frames → u.views ≡ w.views → (says_kept (line.Crashed b ∷ ls) ≡ false → u.logs ≡ w.logs) → filter is_own ls ≡ ls → Parts net w (record { world = restarted net u b; lines = line.Crashed b ∷ ls }) [] w
unfolding restarted
crash_parts net w u b ls f v g o = record {
  obey = tt;
  own = line.Crashed b ∷ ls;
  lines = refl;
  own_only = ap (λ x. line.Crashed b ∷ x) o;
  frames = f;
  views = λ z. absurd (none_some b (sym z));
  restarts = λ c z. subst (λ d. (restarted net u b).views ≡ set w.views d (map (λ p. started net p d (log_of (restarted net u b) p)) (numbers net.publishers))) (some_same b c z)
      (ap (λ x. set x b (map (λ p. started net p b (log_of (restarted net u b) p)) (numbers net.publishers))) v);
  logs = g;
}

stopped_parts : (net : Net) (w : World) (k p number : ℕ) (stop : Stop) (e : Event) → IsNet net → WorldFits net w → p < net.publishers →
    Parts net w (publish_stopped net w k p number stop e) (if not_empty (net.subscribers_at (net.host p)) || is_next_of w p number then [] else publishes p number e ∷ []) w
unfolding publish_stopped_by
stopped_parts net w k p number stop e n f j = go (not_empty (net.subscribers_at (net.host p))) (is_next_of w p number)
  where
    b : ℕ
    b = net.host p

    log : Log
    log = log_of w p

    tick : ℕ
    tick = max (suc log.settled) w.clock

    kept : Bool
    kept = is_kept (log.size - 1) stop.call stop.pick

    logs : List Log
    logs = if kept then set w.logs p (with_event log tick e) else w.logs

    u : World
    u = record { clock = w.clock; most = w.most; frames = w.frames; views = w.views; logs = logs }

    told_of : (q : Bool) → is_own (if q then line.Kept p number tick else line.Lost p number tick) ≡ true
    told_of true = refl
    told_of false = refl

    keeps : (q : Bool) → says_kept (line.Crashed b ∷ ((if q then line.Kept p number tick else line.Lost p number tick) ∷ opened_lines net logs b)) ≡ false → (if q then set w.logs p (with_event log tick e) else w.logs) ≡ w.logs
    keeps true z = absurd (true≢false z)
    keeps false z = refl

    go : (x y : Bool) → Parts net w
        (let t : Transition = elim x [
          | true ↦ unchanged w (line.RefusedHosts k b ∷ [])
          | false ↦ elim y [ false ↦ publish_now net w p number e | true ↦ record { world = restarted net u b; lines = line.Crashed b ∷ ((if kept then line.Kept p number tick else line.Lost p number tick) ∷ opened_lines net logs b) } ]
        ] in t)
        (if x || y then [] else publishes p number e ∷ []) w
    go true y = no_calls net w (unchanged w (line.RefusedHosts k b ∷ [])) refl refl refl refl refl
    go false true = crash_parts net w u b ((if kept then line.Kept p number tick else line.Lost p number tick) ∷ opened_lines net logs b) refl refl (keeps kept) (rw (told_of kept) (ap (λ x. (if kept then line.Kept p number tick else line.Lost p number tick) ∷ x) (opened_own net logs b)))
    go false false = publish_parts net w p number e n f j

deliver_parts : (net : Net) (w : World) (number k : ℕ) → IsNet net → WorldFits net w →
    (let t : Transition = elim (frame_at w k) [ None ↦ unchanged w (line.RefusedFrame number k (length w.frames) ∷ []) | Some x ↦ deliver_frame net w x ] in Parts net w t (elim (frame_at w k) [ None ↦ [] | Some x ↦ makes (delivers k) ∷ [] ]) w)
deliver_parts net w number k n f = go (frame_at w k) refl
  where
    go : (o : Option Frame) → frame_at w k ≡ o → (let t : Transition = elim o [ None ↦ unchanged w (line.RefusedFrame number k (length w.frames) ∷ []) | Some x ↦ deliver_frame net w x ] in Parts net w t (elim o [ None ↦ [] | Some x ↦ makes (delivers k) ∷ [] ]) w)
    go None e = no_calls net w (unchanged w (line.RefusedFrame number k (length w.frames) ∷ [])) refl refl refl refl refl
    go (Some x) e = calls_alone net (deliver_frame net w x) (makes (delivers k) ∷ []) w (delivery_obeys net w k x n f e, tt) (sym (made_is net w k x e) ∙ one_done net w (makes (delivers k)))

sweep_parts : (net : Net) (w : World) (number : ℕ) → IsNet net → 1 ≤ net.quiet → WorldFits net w → Parts net w (sweep net w number) (if is_accepted net w then map makes (sweep_calls net w) else []) (if is_accepted net w then at_sweep net w else w)
unfolding sweep_by
sweep_parts net w number n quiet f = go (is_accepted net w) refl
  where
    m : ℕ
    m = sweep_moment net w

    refused : nat_le m max_tick ≡ false → sweep net w number ≡ unchanged w (line.RefusedClock number m ∷ [])
    refused e = rw (sweep_by, lt-ltb max_tick m (leb-false m max_tick e)) refl

    go : (q : Bool) → is_accepted net w ≡ q → Parts net w (sweep net w number) (if q then map makes (sweep_calls net w) else []) (if q then at_sweep net w else w)
    go false e = subst (λ (t : Transition). Parts net w t [] w) (sym (refused e)) (no_calls net w (unchanged w (line.RefusedClock number m ∷ [])) refl refl refl refl refl)
    go true e =
        let cs = sweep_calls net w in
        let s = sweep_is_calls net w number (le-ltb max_tick m (leb-true m max_tick e)) in
        let d = all_done_made net cs (at_sweep net w) in
        record {
          obey = all_made_obey net cs (at_sweep net w) n quiet (clocked_fits net w (sweep_moment net w) (max (sweep_moment net w) w.most) f) (sweep_in net w) (sweep_sent net w);
          own = line.Swept m ∷ [];
          lines = ap (λ x. x.lines) s ∙ ap (λ x. x.lines ++ line.Swept m ∷ []) (sym d);
          own_only = refl;
          frames = ap (λ x. x.world.frames) s ∙ ap (λ x. x.world.frames) (sym d);
          views = λ z. ap (λ x. x.world.views) s ∙ ap (λ x. x.world.views) (sym d);
          restarts = λ b z. absurd (none_some b z);
          logs = λ z. ap (λ x. x.world.logs) s ∙ ap (λ x. x.world.logs) (sym d);
        }

bytes_parts : (net : Net) (w : World) (number k : ℕ) → (let t : Transition = elim (frame_at w k) [ None ↦ unchanged w (line.RefusedFrame number k (length w.frames) ∷ []) | Some x ↦ unchanged w (line.BytesOf k (frame_bytes x) ∷ []) ] in Parts net w t [] w)
bytes_parts net w number k = go (frame_at w k)
  where
    go : (o : Option Frame) → (let t : Transition = elim o [ None ↦ unchanged w (line.RefusedFrame number k (length w.frames) ∷ []) | Some x ↦ unchanged w (line.BytesOf k (frame_bytes x) ∷ []) ] in Parts net w t [] w)
    go None = no_calls net w (unchanged w (line.RefusedFrame number k (length w.frames) ∷ [])) refl refl refl refl refl
    go (Some x) = no_calls net w (unchanged w (line.BytesOf k (frame_bytes x) ∷ [])) refl refl refl refl refl

crash_step_parts : (net : Net) (w : World) (number b : ℕ) → (let t : Transition = elim (not_empty (net.subscribers_at b)) [ true ↦ unchanged w (line.RefusedHosts number b ∷ []) | false ↦ crash net w b ] in Parts net w t [] w)
unfolding crash
crash_step_parts net w number b = go (not_empty (net.subscribers_at b))
  where
    go : (q : Bool) → (let t : Transition = elim q [ true ↦ unchanged w (line.RefusedHosts number b ∷ []) | false ↦ record { world = restarted net w b; lines = line.Crashed b ∷ opened_lines net w.logs b } ] in Parts net w t [] w)
    go true = no_calls net w (unchanged w (line.RefusedHosts number b ∷ [])) refl refl refl refl refl
    go false = crash_parts net w w b (opened_lines net w.logs b) refl refl (λ z. refl) (opened_own net w.logs b)

-- what a step does, by its kind
abbrev pub told_at : Net → World → ℕ → Step → Transition
told_at net w number s =
    elim s [
      | step.Clock now ↦ unchanged (record { clock = now; most = max now w.most; frames = w.frames; views = w.views; logs = w.logs }) []
      | step.Publish p n stop e ↦ elim stop [ None ↦ publish_now net w p n e | Some x ↦ publish_stopped net w number p n x e ]
      | step.Wake b ↦ wake_all net w b
      | step.Deliver k ↦ elim (frame_at w k) [ None ↦ unchanged w (line.RefusedFrame number k (length w.frames) ∷ []) | Some f ↦ deliver_frame net w f ]
      | step.Crash b ↦ elim (not_empty (net.subscribers_at b)) [ true ↦ unchanged w (line.RefusedHosts number b ∷ []) | false ↦ crash net w b ]
      | step.Sweep ↦ sweep net w number
      | step.Show ↦ unchanged w (show net w)
      | step.Bytes k ↦ elim (frame_at w k) [ None ↦ unchanged w (line.RefusedFrame number k (length w.frames) ∷ []) | Some f ↦ unchanged w (line.BytesOf k (frame_bytes f) ∷ []) ]
      | step.Join s p ↦ join_now net w s p
    ]

abbrev calls_at : Net → World → Step → List Action
calls_at net w s =
    elim s [
      | step.Publish p number stop e ↦ elim stop [ None ↦ publishes p number e ∷ [] | Some s ↦ if not_empty (net.subscribers_at (net.host p)) || is_next_of w p number then [] else publishes p number e ∷ [] ]
      | step.Join s p ↦ joins s p ∷ []
      | step.Wake b ↦ map (λ p. makes (wakes b p)) (numbers net.publishers)
      | step.Deliver k ↦ elim (frame_at w k) [ None ↦ [] | Some f ↦ makes (delivers k) ∷ [] ]
      | step.Sweep ↦ if is_accepted net w then map makes (sweep_calls net w) else []
      | _ ↦ []
    ]

abbrev called_at : Net → World → Step → World
called_at net w s = elim s [ step.Sweep ↦ if is_accepted net w then at_sweep net w else w | _ ↦ w ]

step_parts : (net : Net) (w : World) (number : ℕ) (s : Step) → IsNet net → 1 ≤ net.quiet → WorldFits net w → StepIn net s → Parts net w (told_at net w number s) (calls_at net w s) (called_at net w s)
unfolding wake_all_by
step_parts net w number (step.Clock now) n quiet f i = no_calls net w (unchanged (record { clock = now; most = max now w.most; frames = w.frames; views = w.views; logs = w.logs }) []) refl refl refl refl refl
step_parts net w number (step.Publish p k None e) n quiet f i = publish_parts net w p k e n f i
step_parts net w number (step.Publish p k (Some stop) e) n quiet f i = stopped_parts net w number p k stop e n f i
step_parts net w number (step.Wake b) n quiet f i = calls_alone net (wake_all net w b) (map (λ p. makes (wakes b p)) (numbers net.publishers)) w (wakes_obey net b (numbers net.publishers) w n quiet f i (numbers_below 0 net.publishers net.publishers (omega arith))) (wakes_done net b (numbers net.publishers) w)
step_parts net w number (step.Deliver k) n quiet f i = deliver_parts net w number k n f
step_parts net w number (step.Crash b) n quiet f i = crash_step_parts net w number b
step_parts net w number step.Sweep n quiet f i = sweep_parts net w number n quiet f
step_parts net w number step.Show n quiet f i = no_calls net w (unchanged w (show net w)) (show_own net w) refl refl refl (show_crash net w)
step_parts net w number (step.Bytes k) n quiet f i = bytes_parts net w number k
step_parts net w number (step.Join s p) n quiet f i = join_parts net w s p n f i.1

next_obeys : (net : Net) (w : World) (l : Line) → IsNet net → 1 ≤ net.quiet → WorldFits net w → StepIn net l.step → StepObeys net w l (next net w l).lines
unfolding next_by calls_of called_in
next_obeys net w l n quiet f i = let x = step_parts net w l.number l.step n quiet f i in record { obey = x.obey; own = x.own; lines = x.lines; own_only = x.own_only; frames = x.frames; views = x.views; restarts = x.restarts; logs = x.logs }

-- over every run each call obeys its rule, and the lines of each step are those of its calls and its own
pub steps_obey : (net : Net) (w : World) (ls : List Line) → IsNet net → 1 ≤ net.quiet → WorldFits net w → StepsIn net ls → StepsObey net w ls (run_from net w ls)
unfolding run_from_by
steps_obey net w [] n quiet f i = tt
steps_obey net w (l ∷ ls) n quiet f i = (next_obeys net w l n quiet f i.0, steps_obey net (next net w l).world ls n quiet (next_kept net w l n f i.0).fits i.1)

-- over every schedule the calls of each step obey their rules
pub always_obeys : (net : Net) (steps : List Line) → IsNet net → 1 ≤ net.quiet → StepsIn net steps → CallsObey net steps (report_of net steps)
unfolding report_of_by
always_obeys net steps n quiet i = (refl, steps_obey net (start net) steps n quiet (start_fits net n) i)
