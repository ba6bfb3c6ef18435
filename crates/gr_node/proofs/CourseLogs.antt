-- The lanes of a run behind all its starts, where its course is given: each time that one more came the logs stood, and what was logged
-- lasts; and at every moment they hold what was found, or what the plan has reached
use Rattle.std.proofs.Common.{◌≡◌, inl, inr, ℕ, ◌^◌, ◌<◌, ◌≤◌, Bool, true, false, List, [], ◌∷◌, ◌++◌, length, map, take, Some, refl, sym, ap, ◌∙◌, subst, arith, append_assoc, eq-eqb}
use Rattle.std.specs.Prelude.{IsSome}
use Rattle.std.specs.List.{AllByRecursion}
use Rattle.gr_out.specs.Lane.{Lane}
use Rattle.gr_publog.specs.Lanes.{state_in}
use Rattle.gr_publog.specs.Views.{LogView, Lanes, lanes_at, MayLeavePair, StandsRead}
use Rattle.gr_pubend.specs.Log.{Log, said}
use Rattle.gr_sched.specs.declared.step.Line.{Line}
use Rattle.gr_scenario.specs.Steps.{AreStepsOf}
use Rattle.gr_topo.specs.Topology.{TopologyView, host_of}
use Rattle.gr_model.specs.NetOf.{net_of}
use Rattle.gr_model.specs.World.{World, Transition, in_turn, log_of}
use Rattle.gr_model.specs.Arrivals.{Arrival, is_hosted, requests_of}
use Rattle.gr_model.specs.Orders.{without_ordered}
use Rattle.gr_broker.specs.Lanes.{log_lane}
use Rattle.gr_broker.specs.Seen.{BrokerView, log_in, log_said}
use Rattle.gr_report.proofs.Passing.{PassesLog, PassesRest}
use Rattle.gr_node.specs.Seen.{NodeView, broker_in}
use Rattle.gr_node.specs.Of.{AreHosted, IsSet, AllStand}
use Rattle.gr_node.specs.Lasting.{Onward, log_read, HoldsOnward, HoldsBetween, IsFound, log_after, IsDuring, ActsKeep, StartsKeep, HoldsLog, node_upto, StoodAfter, StoodEachTime}
use Rattle.gr_node.specs.Plan.{Act, starts, settles, shows, act, acts_from, turn_acts, run_acts, plan}
use Rattle.gr_node.specs.Done.{all_done, settled}
use Rattle.gr_node.specs.Starting.{Found}
use Rattle.gr_node.specs.Served.{Course, LastsFrom, LogsLast, IsReachedFrom, IsReached, IsOfRun, RunsAlong}
use Rattle.gr_node.proofs.Moving.{IsNode, IsActOf, Moved, hosted_log, moves_all}
use Rattle.gr_node.proofs.Taken.{node_heard, broker_here, found_in}
use Rattle.gr_node.proofs.Opening.{in_turn_append, settled_nothing}
use Rattle.gr_node.proofs.Lasting.{along_as, along_on}
use Rattle.gr_node.proofs.Onwards.{onward_alike, onward_then, said_read, logs_onward}
use Rattle.gr_node.proofs.Logging.{Grows, IsFine, acts_grow}
use Rattle.gr_node.proofs.Submitting.{any_event, turns_fine}
use Rattle.gr_node.proofs.Acting.{acts_are, all_front, all_back}
use Rattle.gr_node.proofs.Courses.{IsOpened, logs, before, bindings, started, begun, opened, turn_behind, plan_behind, found_here}

module _ (t : TopologyView) (hosted : List ℕ) (are : AreHosted t hosted) (n : NodeView) (o : IsOpened t hosted hosted [] n) (steps : List Line) (steps_are : AreStepsOf t steps) (came : List Arrival) (closed : Bool)
    (lanes mid_lanes lanes' : ℕ → Lane) (stands_read : StandsRead) (passes : PassesLog) (passes_rest : PassesRest) where
  abbrev pub tail : List Act
  tail = run_acts (net_of t) hosted steps came closed ++ shows ∷ []

  abbrev pub start_world : World
  start_world = before t hosted are hosted [] n o

  abbrev pub opened_world : World
  opened_world = (let s : Transition = started t hosted are hosted [] n o in s.world)

  few : length t.subscribers ≤ 2 ^ 16
  few = let sound = o.sound in omega (arith, sound.limits.subscribers)

  pub acts_behind : AllByRecursion (IsActOf t hosted) tail
  acts_behind = acts_are t hosted few steps came closed steps_are

  pub moved_behind : (acts : List Act) → AllByRecursion (IsActOf t hosted) acts → Moved t hosted n opened_world acts
  moved_behind acts all = moves_all t hosted n opened_world acts passes passes_rest (opened t hosted are hosted [] n o).1 o.hosts all

  -- the log of a publisher at a hosted broker stands behind acts, as the machine has it
  pub log_stands : (made : List Act) (n' : NodeView) → AllByRecursion (IsActOf t hosted) made → n' ≡ (all_done t hosted n made).node → IsSet t hosted n' → AllStand lanes' n' → (p : ℕ) → p < length t.publishers → is_hosted (net_of t) hosted p ≡ true
      → HoldsLog t.late (lanes_at lanes' (log_lane p)) (log_of (in_turn (act (net_of t) hosted) (begun t hosted are hosted [] n o made) start_world).world p)
  log_stands made n' acts is set stand p below here =
      let m : Moved t hosted n opened_world made = moved_behind made acts in
      let x = broker_here hosted n' (host_of t p) set.hosts here in
      let node : IsNode t n' (in_turn (act (net_of t) hosted) made opened_world).world =
      subst (λ (k : NodeView). IsNode t k (in_turn (act (net_of t) hosted) made opened_world).world) (sym is) m.node in
      let l = found_in (log_in x.0 p) ((node.shaped (host_of t p) x.0 x.1).hosted p below ∙ eq-eqb (host_of t p) (host_of t p) refl) in
      record {
        view = l.0;
        stands = stand (host_of t p) x.0 x.1 p l.0 l.1 (set.fits.whole (host_of t p) p x.0 l.0 x.1 l.1);
        late = (set.fits.fits (host_of t p) x.0 x.1).late p l.0 l.1;
        says = sym (ap (λ (u : Transition). log_of u.world p) (turn_behind t hosted are hosted [] n o made) ∙ (node.logs p x.0 x.1 below ∙ ap log_said l.1));
      }

  abbrev pub course_of : List Act → List Act → Course
  course_of all_made rest_left = record { logs = logs t hosted are hosted [] n o; came = came; closed = closed; made = all_made; left = rest_left }

  -- each time that another arrival came it stood, and it lasts
  module _ (k : ℕ) (s : StoodAfter t hosted steps (settled n) came closed k lanes') (p : ℕ) (below : p < length t.publishers) (here : is_hosted (net_of t) hosted p ≡ true) where
    abbrev node_k : NodeView
    node_k = node_upto t hosted steps (settled n) came k

    abbrev acts : List Act
    acts = acts_from (net_of t) hosted (requests_of (net_of t) hosted steps) (take k came)

    -- with the bindings and starts before them
    abbrev acts_k : List Act
    acts_k = begun t hosted are hosted [] n o (settles ∷ acts)

    abbrev world_k : World
    world_k = (let u : Transition = in_turn (act (net_of t) hosted) acts opened_world in u.world)

    acts_all : AllByRecursion (IsActOf t hosted) acts
    acts_all = all_front (IsActOf t hosted) acts [] (all_front (IsActOf t hosted) (acts ++ []) (shows ∷ []) (acts_are t hosted few steps (take k came) false steps_are).1)

    moved_k : Moved t hosted (settled n) opened_world acts
    moved_k = moves_all t hosted (settled n) opened_world acts passes passes_rest (node_heard t n opened_world (without_ordered n.orders) (opened t hosted are hosted [] n o).1) o.hosts acts_all

    here_k : (x : BrokerView) × (broker_in node_k (host_of t p) ≡ Some x)
    here_k = broker_here hosted node_k (host_of t p) s.set.hosts here

    log_k : (l : LogView) × (log_in here_k.0 p ≡ Some l)
    log_k = found_in (log_in here_k.0 p) ((moved_k.node.shaped (host_of t p) here_k.0 here_k.1).hosted p below ∙ eq-eqb (host_of t p) (host_of t p) refl)

    abbrev view_k : LogView
    view_k = log_k.0

    abbrev then : Log
    then = log_of (in_turn (act (net_of t) hosted) (begun t hosted are hosted [] n o (settles ∷ acts)) start_world).world p

    world_is : then ≡ log_of world_k p
    world_is = ap (λ (u : Transition). log_of u.world p) (turn_behind t hosted are hosted [] n o (settles ∷ acts)) ∙ ap (λ (u : Transition). log_of u.world p) (settled_nothing (net_of t) hosted acts opened_world)

    stood_k : HoldsLog t.late (lanes_at s.between (log_lane p)) then
    stood_k = record {
      view = view_k;
      stands = s.stand (host_of t p) here_k.0 here_k.1 p view_k log_k.1 (s.set.fits.whole (host_of t p) p here_k.0 view_k here_k.1 log_k.1);
      late = (s.set.fits.fits (host_of t p) here_k.0 here_k.1).late p view_k log_k.1;
      says = sym (world_is ∙ (moved_k.node.logs p here_k.0 here_k.1 below ∙ ap log_said log_k.1));
    }

    first_k : (a b : List ℕ) → MayLeavePair (lanes_at s.between (log_lane p)) a b → HoldsOnward t.late then a b
    unfolding stood_k
    first_k a b may = (
      view_k.state,
      ap (λ (late : List ℕ). state_in late a b) (sym stood_k.late) ∙ stands_read (lanes_at s.between (log_lane p)) view_k a b stood_k.stands may,
      subst (λ (m : Log). Onward m (log_read view_k.state)) stood_k.says (onward_alike (said view_k) (log_read view_k.state) (said_read view_k)),
    )

    later_all : AllByRecursion (IsActOf t hosted) s.later
    later_all =
        all_back (IsActOf t hosted) acts s.later
        (subst (AllByRecursion (IsActOf t hosted)) (sym s.acts) (all_front (IsActOf t hosted) (turn_acts (net_of t) hosted steps came closed) (shows ∷ []) acts_behind.1))

    later_fine : AllByRecursion (IsFine p any_event) s.later
    later_fine = all_back (IsFine p any_event) acts s.later (subst (AllByRecursion (IsFine p any_event)) (sym s.acts) (turns_fine p t hosted steps came closed))

    -- Acts that follow: the node's log is the machine's then, and goes on from that before them
    record Later (made : List Act) : Type 0 where
      is : log_after t hosted node_k made p ≡ log_of (in_turn (act (net_of t) hosted) (acts_k ++ made) start_world).world p
      onward : Onward then (log_after t hosted node_k made p)

    later : (made rest : List Act) → made ++ rest ≡ s.later → Later made
    later made rest parts =
        let all : AllByRecursion (IsActOf t hosted) made = all_front (IsActOf t hosted) made rest (subst (AllByRecursion (IsActOf t hosted)) (sym parts) later_all) in
        let fine : AllByRecursion (IsFine p any_event) made = all_front (IsFine p any_event) made rest (subst (AllByRecursion (IsFine p any_event)) (sym parts) later_fine) in
        let m : Moved t hosted node_k world_k made = moves_all t hosted node_k world_k made passes passes_rest moved_k.node moved_k.hosts all in
        let u : Transition = in_turn (act (net_of t) hosted) made world_k in
        let long = moved_k.node.world_logs in
        let g : Grows p any_event world_k u = acts_grow p any_event (net_of t) hosted made world_k (omega (arith, below, long)) fine in
        let here_log = hosted_log t hosted (all_done t hosted node_k made).node u.world m.node m.hosts p below here in
        record {
          is = here_log ∙ sym behind;
          onward =
              subst (λ (l : Log). Onward l (log_after t hosted node_k made p)) (sym world_is)
              (subst (λ (l : Log). Onward (log_of world_k p) l) (sym here_log)
              (logs_onward p (log_of world_k p) (log_of u.world p) u.lines g.adds.new g.adds.logs));
        }
      where
        behind : log_of (in_turn (act (net_of t) hosted) (acts_k ++ made) start_world).world p ≡ log_of (in_turn (act (net_of t) hosted) made world_k).world p
        behind =
            ap (λ (v : Transition). log_of v.world p) (in_turn_append (act (net_of t) hosted) acts_k made start_world)
            ∙ ap (λ (v : Transition). log_of (in_turn (act (net_of t) hosted) made v.world).world p) (turn_behind t hosted are hosted [] n o (settles ∷ acts))
            ∙ ap (λ (v : Transition). log_of (in_turn (act (net_of t) hosted) made v.world).world p) (settled_nothing (net_of t) hosted acts opened_world)

    since_k : (a b : List ℕ) → IsDuring t hosted node_k s.later p a b → HoldsOnward t.late then a b
    since_k a b h = (
      h.holds.0,
      h.holds.1,
      onward_then then (log_after t hosted node_k h.made p) (log_read h.holds.0) (later h.made (h.next ++ h.left) h.parts).onward h.holds.2,
    )

    -- the acts so far and those that follow are those of the plan
    plan_k : acts_k ++ (s.later ++ shows ∷ []) ≡ plan t hosted steps came closed
    plan_k =
        plan_behind t hosted are hosted [] n o steps came closed (settles ∷ acts) (s.later ++ shows ∷ [])
        (ap (λ (l : List Act). settles ∷ l) (sym (append_assoc acts s.later (shows ∷ [])) ∙ ap (λ (l : List Act). l ++ shows ∷ []) s.acts))

    reached_k : (all_made rest_left : List Act) (a b : List ℕ) → IsDuring t hosted node_k s.later p a b → IsReachedFrom t hosted steps (course_of all_made rest_left) acts_k p a b
    reached_k all_made rest_left a b h =
        let rest : List Act = h.left ++ shows ∷ [] in
        let first : Log = log_of (in_turn (act (net_of t) hosted) (acts_k ++ h.made) start_world).world p in
        record {
          made = h.made;
          next = h.next;
          left = rest;
          parts =
              ap (λ (l : List Act). acts_k ++ l)
              (ap (λ (l : List Act). h.made ++ l) (sym (append_assoc h.next h.left (shows ∷ [])))
              ∙ (sym (append_assoc h.made (h.next ++ h.left) (shows ∷ [])) ∙ ap (λ (l : List Act). l ++ shows ∷ []) h.parts))
              ∙ plan_k;
          one = h.one;
          holds = subst (λ (l : Log). HoldsBetween t.late first l a b) (later (h.made ++ h.next) h.left (append_assoc h.made h.next h.left ∙ h.parts)).is
              (subst (λ (l : Log). HoldsBetween t.late l (log_after t hosted node_k (h.made ++ h.next) p) a b) (later h.made (h.next ++ h.left) h.parts).is h.holds);
        }

    pub lasts_k : (all_made rest_left : List Act) → (mid : Lanes) × LastsFrom t hosted steps (course_of all_made rest_left) k p mid (lanes_at lanes' (log_lane p))
    lasts_k all_made rest_left =
        let mid_k : Lanes = lanes_at s.between (log_lane p) in
        let last_k : Lanes = lanes_at lanes' (log_lane p) in
        let on = s.keep.lanes p in (
          mid_k,
          record {
            lasts = record {
              stood = stood_k;
              first = first_k;
              parts = on.0;
              since = along_as (IsDuring t hosted node_k s.later p) (HoldsOnward t.late then) since_k mid_k last_k on.0 on.1;
            };
            reached = along_as (IsDuring t hosted node_k s.later p) (IsReachedFrom t hosted steps (course_of all_made rest_left) acts_k p) (reached_k all_made rest_left) mid_k last_k on.0 on.1;
          },
        )

  pub logs_last : (all_made rest_left : List Act) → StoodEachTime t hosted steps (settled n) came closed lanes' → LogsLast t hosted steps (course_of all_made rest_left) lanes'
  logs_last all_made rest_left each k lt p below here = lasts_k k (each k lt) p below here all_made rest_left

  -- At every moment

  -- the node's log is the machine's
  log_is : (acts : List Act) → AllByRecursion (IsActOf t hosted) acts → (p : ℕ) → p < length t.publishers → is_hosted (net_of t) hosted p ≡ true
      → log_after t hosted n acts p ≡ log_of (in_turn (act (net_of t) hosted) (begun t hosted are hosted [] n o acts) start_world).world p
  log_is acts all p below here =
      let m : Moved t hosted n opened_world acts = moved_behind acts all in
      hosted_log t hosted (all_done t hosted n acts).node (in_turn (act (net_of t) hosted) acts opened_world).world m.node m.hosts p below here
      ∙ sym (ap (λ (u : Transition). log_of u.world p) (turn_behind t hosted are hosted [] n o acts))

  abbrev run_all : List Act
  run_all = run_acts (net_of t) hosted steps came closed

  -- what the node's acts have reached is what the plan has
  reached : (all_made rest_left : List Act) (p : ℕ) → p < length t.publishers → is_hosted (net_of t) hosted p ≡ true → (a b : List ℕ) → IsDuring t hosted n run_all p a b → IsReached t hosted steps (course_of all_made rest_left) p a b
  reached all_made rest_left p below here a b h =
      let rest : List Act = h.left ++ shows ∷ [] in
      let parts : h.made ++ (h.next ++ rest) ≡ tail =
      ap (λ (l : List Act). h.made ++ l) (sym (append_assoc h.next h.left (shows ∷ []))) ∙ (sym (append_assoc h.made (h.next ++ h.left) (shows ∷ [])) ∙ ap (λ (l : List Act). l ++ shows ∷ []) h.parts) in
      let both : (h.made ++ h.next) ++ rest ≡ tail = append_assoc h.made h.next rest ∙ parts in
      let one : AllByRecursion (IsActOf t hosted) h.made = all_front (IsActOf t hosted) h.made (h.next ++ rest) (subst (AllByRecursion (IsActOf t hosted)) (sym parts) acts_behind) in
      let two : AllByRecursion (IsActOf t hosted) (h.made ++ h.next) = all_front (IsActOf t hosted) (h.made ++ h.next) rest (subst (AllByRecursion (IsActOf t hosted)) (sym both) acts_behind) in
      let first : Log = log_of (in_turn (act (net_of t) hosted) (begun t hosted are hosted [] n o h.made) start_world).world p in
      record {
        made = begun t hosted are hosted [] n o h.made;
        next = h.next;
        left = rest;
        parts = plan_behind t hosted are hosted [] n o steps came closed h.made (h.next ++ rest) parts;
        one = h.one;
        holds = subst (λ (l : Log). HoldsBetween t.late first l a b)
            (log_is (h.made ++ h.next) two p below here ∙ ap (λ (acts : List Act). log_of (in_turn (act (net_of t) hosted) acts start_world).world p) (begun_more h.made h.next))
            (subst (λ (l : Log). HoldsBetween t.late l (log_after t hosted n (h.made ++ h.next) p) a b) (log_is h.made one p below here) h.holds);
      }
    where
      begun_more : (xs ys : List Act) → begun t hosted are hosted [] n o (xs ++ ys) ≡ begun t hosted are hosted [] n o xs ++ ys
      begun_more xs ys =
          ap (λ (l : List Act). bindings t hosted are hosted [] n o ++ l) (sym (append_assoc (map starts hosted) xs ys))
          ∙ sym (append_assoc (bindings t hosted are hosted [] n o) (map starts hosted ++ xs) ys)

  pub runs_along : (all_made rest_left : List Act) → ((b : ℕ) → IsSome (broker_in n b) → Found t n (b ∷ []) lanes) → StartsKeep t.late lanes mid_lanes → ActsKeep t hosted n run_all mid_lanes lanes'
      → RunsAlong t hosted steps (course_of all_made rest_left) lanes lanes'
  runs_along all_made rest_left found opens runs p below here =
      let first : Lanes = lanes_at lanes (log_lane p) in
      let mid : Lanes = lanes_at mid_lanes (log_lane p) in
      let last : Lanes = lanes_at lanes' (log_lane p) in
      let of : List ℕ → List ℕ → Type 0 = IsOfRun t hosted steps (course_of all_made rest_left) p first in
      let x = opens.lanes p in
      let y = runs.lanes p in (
        x.0 ++ y.0,
        along_on of first mid last x.0 y.0 (along_as (IsFound t.late first) of (λ a b f. inl f) first mid x.0 x.1)
            (along_as (IsDuring t hosted n run_all p) of (λ a b h. inr (found_here t hosted are hosted [] n o lanes found p below here, reached all_made rest_left p below here a b h)) mid last y.0 y.1),
      )
