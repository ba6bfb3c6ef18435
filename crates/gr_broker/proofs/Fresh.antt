-- What the start of one publisher leaves, tells and sends, by where the publisher and the subscribers are: a start asks nothing, and
-- where nothing was acknowledged nothing is consolidated.
use Rattle.std.proofs.Common.{◌≡◌, ℕ, ◌*◌, ◌<◌, Bool, true, false, ◌&&◌, ◌||◌, List, [], ◌∷◌, ◌++◌, length, map, replicate, Option, Some, None, refl, sym, ap, ap₂, ◌∙◌, subst, arith}
use Rattle.std.specs.Prelude.{is_some, nat_le, nat_lt, if◌then◌else◌}
use Rattle.std.proofs.lemmas.Bool.{lt-ltb, and_parts, leb-true, false≢true}
use Rattle.std.proofs.lemmas.List.{length-map}
use Rattle.gr_topo.specs.Topology.{TopologyView, children_of, subscribers_of, is_empty, not_empty}
use Rattle.gr_publog.specs.Views.{LogView}
use Rattle.gr_tick.specs.Runs.{AreRuns}
use Rattle.gr_tick.proofs.RunLaws.{runs_equal}
use Rattle.gr_frame.specs.declared.Frame.{Frame}
use Rattle.gr_frame.specs.Bytes.{cut_frames}
use Rattle.gr_pubend.proofs.Knowing.{log_know-is}
use Rattle.gr_model_calls.proofs.calls.CallTruth.{new_ticks-is, forward-is}
use Rattle.gr_curio.specs.Values.{Wanted, Asked, wanted_at, is_A}
use Rattle.gr_know.specs.Values.{Known, known_at, is_Q}
use Rattle.gr_know.specs.declared.values.K.TheVariants.{Q}
use Rattle.gr_event.specs.Joins.{Joins}
use Rattle.gr_pubend.specs.Log.{Log, empty_log, said, log_know}
use Rattle.gr_model.specs.declared.report.Report.TheVariants as line
use Rattle.gr_model.specs.Net.{Net, is_host, keeps_horizon, all_late}
use Rattle.gr_model.specs.NetOf.{net_of}
use Rattle.gr_model.specs.Broker.{View, Outcome, is_consolidated_by, new_ticks, forward, know_frames, forward_frames, learn, seen, started}
use Rattle.gr_model.specs.Opening.{reopened_line}
use Rattle.gr_broker_relay.specs.declared.place.Child.{Child}
use Rattle.gr_broker_relay.specs.Kept.{IsKept}
use Rattle.gr_broker.specs.Seen.{log_said, HasJoins}
use Rattle.gr_broker.specs.Opened.{opened_at}
use Rattle.gr_broker.specs.Starting.{fresh_view, start_lines, IsStarted}
use Rattle.gr_broker.proofs.Joined.{learn_joins}

some_same : (l m : LogView) → Some l ≡ Some m → l ≡ m
some_same l m h = cc

-- no log is not one
pub none_some : (m : LogView) → None ≡ Some m → ⊥
none_some m h = cc

-- At the start nothing is consolidated

none_done : (keeps : Bool) (cs : List ℕ) (t : ℕ) → (keeps ≡ false → is_empty cs ≡ false) → is_consolidated_by keeps 0 (map (λ _. []) cs) t ≡ true → ⊥
none_done true cs t h e =
    let both = and_parts (nat_le 1 t && nat_le t 0) _ e in
    let range = and_parts (nat_le 1 t) (nat_le t 0) both.0 in
    omega (arith, leb-true 1 t range.0, leb-true t 0 range.1)
none_done false [] t h e = false≢true (sym (h refl))
none_done false (c ∷ cs) t h e = false≢true (and_parts (nat_le 1 t && true) false e).1

-- a broker without a horizon has a child
has_child : (subscribers children : List ℕ) → (not_empty subscribers || is_empty children) ≡ false → is_empty children ≡ false
has_child [] children e = e
has_child (s ∷ ss) children e = absurd (false≢true (sym e))

-- what a broker starts with is kept as each call needs it
late_at_start : (net : Net) (log : Log) (here : Bool) → all_late net log.joins ≡ true → all_late net (if here then log.joins else []) ≡ true
late_at_start net log true late = late
late_at_start net log false late = refl

kept_at_start : (net : Net) (p b : ℕ) (log : Log) → all_late net log.joins ≡ true → IsKept net p b (started net p b log)
unfolding started
kept_at_start net p b log late = record {
  wants = length-map (net.children p b) (λ _. []);
  final = λ t e. absurd (none_done (keeps_horizon net p b) (net.children p b) t (has_child (net.subscribers_at b) (net.children p b)) e);
  dropped = λ below t f. refl;
  asks_nobody = λ here. refl;
  none_kept = λ k. refl;
  joins = late_at_start net log (is_host net p b) late;
}

-- One publisher

module _ (net : Net) (p b : ℕ) (log : Log) where
  abbrev opened_if : Bool → Bool → Outcome
  opened_if here some =
      let v : View = started net p b log in
      let o : Outcome = learn (seen net v) p b [] v log in
      elim (here && some) [
        | true ↦ record { view = o.view; log = log; lines = reopened_line log p ++ o.lines; frames = o.frames }
        | false ↦ record { view = v; log = log; lines = if here then reopened_line log p else []; frames = [] }
      ]

  opened_by : (here some : Bool) → is_host net p b ≡ here → not_empty (net.subscribers_at b) ≡ some → opened_at net p b log ≡ opened_if here some
  unfolding opened_at
  opened_by here some h s = ap (λ x. opened_if x (not_empty (net.subscribers_at b))) h ∙ ap (opened_if here) s

  abbrev started_if : Bool → View
  started_if here = record { know = if here then log_know log else []; wants = map (λ _. []) (net.children p b); asks = []; horizon = 0; joins = if here then log.joins else [] }

  started_by : (here : Bool) → is_host net p b ≡ here → started net p b log ≡ started_if here
  unfolding started
  started_by here h = ap started_if h

module _ (t : TopologyView) (p b : ℕ) where
  -- one that is elsewhere tells nothing
  pub lines_elsewhere : (l : Option LogView) → is_host (net_of t) p b ≡ false → start_lines t b l p ≡ []
  lines_elsewhere l e = ap (λ (o : Outcome). o.lines) (opened_by (net_of t) p b (log_said l) false (not_empty (subscribers_of t b)) e refl)

  -- and nothing is kept of it
  pub started_elsewhere : (l : Option LogView) (v : View) → is_host (net_of t) p b ≡ false → l ≡ None → v ≡ fresh_view t p b [] [] → IsStarted t p b v l
  started_elsewhere l v e none fresh =
      let same : v ≡ started (net_of t) p b (log_said l) = fresh ∙ sym (started_by (net_of t) p b (log_said l) false e) in
      record {
        view = same ∙ sym (ap (λ (o : Outcome). o.view) (opened_by (net_of t) p b (log_said l) false (not_empty (subscribers_of t b)) e refl));
        kept = subst (λ (x : View). IsKept (net_of t) p b x) (sym same) (subst (λ (o : Option LogView). IsKept (net_of t) p b (started (net_of t) p b (log_said o))) (sym none) (kept_at_start (net_of t) p b empty_log refl));
        hosted = ap (λ (x : Option LogView). is_some x) none ∙ sym e;
        lane = λ m h. absurd (none_some m (sym none ∙ h));
        whole = λ m h. absurd (none_some m (sym none ∙ h));
        late = λ m h. absurd (none_some m (sym none ∙ h));
        joined = λ m h. absurd (none_some m (sym none ∙ h));
      }

  -- one that is here
  module _ (here : is_host (net_of t) p b ≡ true) (l : LogView) where
    -- what is known is what its log says
    pub fresh_here : (know : Known) (js : Joins) (v : View) → v ≡ fresh_view t p b know js → know ≡ log_know (said l) → js ≡ l.state.joins → v ≡ started (net_of t) p b (said l)
    fresh_here know js v fresh e j = fresh ∙ ap₂ (fresh_view t p b) e j ∙ sym (started_by (net_of t) p b (said l) true here)

    -- and that is kept as each call needs it
    pub fresh_kept : (v : View) → v ≡ started (net_of t) p b (said l) → all_late (net_of t) (said l).joins ≡ true → IsKept (net_of t) p b v
    fresh_kept v e late = subst (λ (x : View). IsKept (net_of t) p b x) (sym e) (kept_at_start (net_of t) p b (said l) late)

    -- and the joins that are held are its own
    pub fresh_joins : HasJoins (started (net_of t) p b (said l)) l
    fresh_joins = ap (λ (x : View). x.joins) (started_by (net_of t) p b (said l) true here)

    started_over : l.lane ≡ 2 * p → l.broken ≡ false → l.state.late ≡ t.late → (v : View) → v ≡ (opened_at (net_of t) p b (said l)).view → IsKept (net_of t) p b v → HasJoins v l → (o : Option LogView) → o ≡ Some l → IsStarted t p b v o
    started_over lane whole late v same kept holds o is = subst (λ (x : Option LogView). IsStarted t p b v x) (sym is) (record {
      view = same;
      kept = kept;
      hosted = sym here;
      lane = λ m h. ap (λ (x : LogView). x.lane) (sym (some_same l m h)) ∙ lane;
      whole = λ m h. ap (λ (x : LogView). x.broken) (sym (some_same l m h)) ∙ whole;
      late = λ m h. ap (λ (x : LogView). x.state.late) (sym (some_same l m h)) ∙ late;
      joined = λ m h. subst (λ (x : LogView). HasJoins v x) (some_same l m h) holds;
    })

    -- where no subscriber is here, it is left with that, and tells its log
    pub started_alone : l.lane ≡ 2 * p → l.broken ≡ false → l.state.late ≡ t.late → (v : View) → not_empty (subscribers_of t b) ≡ false → v ≡ started (net_of t) p b (said l) → all_late (net_of t) (said l).joins ≡ true → (o : Option LogView) → o ≡ Some l → IsStarted t p b v o
    started_alone lane whole late v alone same lates =
        started_over lane whole late v (same ∙ sym (ap (λ (o : Outcome). o.view) (opened_by (net_of t) p b (said l) true false here alone))) (fresh_kept v same lates) (ap (λ (x : View). x.joins) same ∙ fresh_joins)

    -- that is its line
    pub lines_alone : not_empty (subscribers_of t b) ≡ false → (o : Option LogView) → o ≡ Some l → start_lines t b o p ≡ reopened_line (said l) p
    lines_alone alone o is = ap (λ x. start_lines t b x p) is ∙ ap (λ (o : Outcome). o.lines) (opened_by (net_of t) p b (said l) true false here alone)

    -- with a subscriber it learns nothing new, and tells that too
    abbrev learned_nothing : Outcome
    learned_nothing = learn (seen (net_of t) (started (net_of t) p b (said l))) p b [] (started (net_of t) p b (said l)) (said l)

    -- what the code learns is that
    pub learns_nothing : (piece : Known) (v : View) → piece ≡ [] → v ≡ started (net_of t) p b (said l) → learn (seen (net_of t) v) p b piece v (said l) ≡ learned_nothing
    learns_nothing piece v e same = ap (λ (x : Known). learn (seen (net_of t) v) p b x v (said l)) e ∙ ap (λ (x : View). learn (seen (net_of t) x) p b [] x (said l)) same

    -- and that is left
    pub started_with : l.lane ≡ 2 * p → l.broken ≡ false → l.state.late ≡ t.late → (v : View) → not_empty (subscribers_of t b) ≡ true → v ≡ learned_nothing.view → IsKept (net_of t) p b v → (o : Option LogView) → o ≡ Some l → IsStarted t p b v o
    started_with lane whole late v some same kept =
        started_over lane whole late v (same ∙ sym (ap (λ (o : Outcome). o.view) (opened_by (net_of t) p b (said l) true true here some))) kept
        (ap (λ (x : View). x.joins) same ∙ learn_joins (seen (net_of t) (started (net_of t) p b (said l))) p b [] (started (net_of t) p b (said l)) (said l) ∙ fresh_joins)

    -- those are its lines
    pub lines_with : not_empty (subscribers_of t b) ≡ true → (o : Option LogView) → o ≡ Some l → start_lines t b o p ≡ reopened_line (said l) p ++ learned_nothing.lines
    lines_with some o is = ap (λ x. start_lines t b x p) is ∙ ap (λ (o : Outcome). o.lines) (opened_by (net_of t) p b (said l) true true here some)

-- A start sends nothing

both_Q : (c : Bool) → (if c then Q else Q) ≡ Q
both_Q true = refl
both_Q false = refl

nothing_new : (know : Known) → AreRuns Q know → new_ticks know [] ≡ []
nothing_new know r = let n = new_ticks-is know [] r tt in runs_equal Q 1 1 (new_ticks know []) [] n.runs tt (λ t. n.same_at t ∙ both_Q (is_Q (known_at know t)))

nothing_forward : (net : Net) (p c : ℕ) → forward net p c [] [] ≡ []
nothing_forward net p c = let n = forward-is net p c [] [] tt tt in runs_equal Q 1 1 (forward net p c [] []) [] n.runs tt (λ t. n.same_at t ∙ both_Q (is_A (wanted_at [] t)))

no_frames : (js : Joins) (net : Net) (p b : ℕ) (cs : List ℕ) (ds : List ℕ) → forward_frames js net p b [] cs (map (λ _. []) ds) ≡ []
unfolding cut_frames
no_frames js net p b [] ds = refl
no_frames js net p b (c ∷ cs) [] = refl
no_frames js net p b (c ∷ cs) (d ∷ ds) = ap₂ (λ (x : Known) (y : List Frame). know_frames js b c p x ++ y) (nothing_forward net p c) (no_frames js net p b cs ds)

known_runs : (log : Log) (here : Bool) → AreRuns Q (if here then log_know log else [])
known_runs log true = (log_know-is log).runs
known_runs log false = tt

silent_if : (net : Net) (p b : ℕ) (log : Log) (here some : Bool) → (opened_if net p b log here some).frames ≡ []
unfolding learn started
silent_if net p b log true true =
    let v : View = started net p b log in
    ap (λ (new : Known). forward_frames v.joins (seen net v) p b new (net.children p b) (map (λ _. []) (net.children p b))) (nothing_new (if is_host net p b then log_know log else []) (known_runs log (is_host net p b)))
    ∙ no_frames v.joins (seen net v) p b (net.children p b) (net.children p b)
silent_if net p b log true false = refl
silent_if net p b log false some = refl

-- what a publisher's start leaves sends nothing: what learns nothing new forwards nothing
pub opened_silent : (net : Net) (p b : ℕ) (log : Log) → (opened_at net p b log).frames ≡ []
opened_silent net p b log =
    ap (λ (o : Outcome). o.frames) (opened_by net p b log (is_host net p b) (not_empty (net.subscribers_at b)) refl refl)
    ∙ silent_if net p b log (is_host net p b) (not_empty (net.subscribers_at b))

-- Whether a subscriber is here

-- where their list is empty, none is
pub nobody : (here all : List ℕ) → here ≡ all → length here ≡ 0 → not_empty all ≡ false
nobody [] all e none = ap not_empty (sym e)
nobody (s ∷ ss) all e none = absurd (omega (arith, none))

-- else one is
pub somebody : (here all : List ℕ) → here ≡ all → (length here ≡ 0 → ⊥) → not_empty all ≡ true
somebody [] all e some = absurd (some refl)
somebody (s ∷ ss) all e some = ap not_empty (sym e)

-- Nothing was asked yet

quiet : (cs : List ℕ) → ◌≡◌ {A = List Wanted} (replicate (length cs) []) (map (λ _. []) cs)
quiet [] = refl
quiet (c ∷ cs) = ap (λ (ws : List Wanted). [] ∷ ws) (quiet cs)

-- with as many children as the tree has, none of which has asked
pub fresh_is : (t : TopologyView) (p b n : ℕ) (know : Known) (js : Joins) (wants : List Wanted) (asks : Asked) (horizon : ℕ) (cs : List Child) → wants ≡ replicate n [] → n ≡ length cs
    → map (λ (c : Child). c.number) cs ≡ children_of t p b → asks ≡ [] → horizon ≡ 0 → ◌≡◌ {A = View} (record { know = know; wants = wants; asks = asks; horizon = horizon; joins = js }) (fresh_view t p b know js)
fresh_is t p b n know js wants asks horizon cs w many children a h =
    let numbers : List ℕ = map (λ (c : Child). c.number) cs in
    let none : wants ≡ map (λ _. []) (children_of t p b) =
    w ∙ ap (λ k. replicate k []) (many ∙ sym (length-map cs (λ (c : Child). c.number))) ∙ quiet numbers ∙ ap (λ (ks : List ℕ). map (λ _. []) ks) children in
    ap (λ (ws : List Wanted). let v : View = record { know = know; wants = ws; asks = asks; horizon = horizon; joins = js } in v) none
    ∙ ap (λ (x : Asked). let v : View = record { know = know; wants = map (λ _. []) (children_of t p b); asks = x; horizon = horizon; joins = js } in v) a
    ∙ ap (λ (k : ℕ). let v : View = record { know = know; wants = map (λ _. []) (children_of t p b); asks = []; horizon = k; joins = js } in v) h

-- The line of a log

-- an empty log tells nothing
pub tells_nothing : (log : Log) (p settled : ℕ) → log.settled ≡ settled → settled ≡ 0 → reopened_line log p ≡ []
tells_nothing log p settled e none = ap (λ n. if nat_lt 0 n then line.Opened p log.last log.settled log.cut ∷ [] else []) (e ∙ none)

-- one that is not empty tells its three numbers
pub tells_log : (log : Log) (p last settled cut : ℕ) → log.last ≡ last → log.settled ≡ settled → log.cut ≡ cut → 0 < settled → reopened_line log p ≡ line.Opened p last settled cut ∷ []
tells_log log p last settled cut l s c some =
    ap (λ b. if b then line.Opened p log.last log.settled log.cut ∷ [] else []) (lt-ltb 0 log.settled (omega (arith, s, some)))
    ∙ ap (λ n. line.Opened p n log.settled log.cut ∷ []) l
    ∙ ap (λ n. line.Opened p last n log.cut ∷ []) s
    ∙ ap (λ n. line.Opened p last settled n ∷ []) c
