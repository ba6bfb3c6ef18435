-- A run that is traced, from its first binding to its end: its journal is what its acts put there
use Rattle.std.proofs.Common.{◌≡◌, ◌≢◌, ◌⊎◌, inl, inr, ℕ, ◌<◌, ◌≤◌, ◌^◌, Bool, true, false, List, [], ◌∷◌, ◌++◌, length, map, take, flat_map, Option, Some, Ok, Err, OnOk, refl, sym, ap, ap₂, ◌∙◌, subst, arith, append_assoc, append-nil}
use Rattle.std.specs.Prelude.{IsSome, IsErrOf, if◌then◌else◌}
use Rattle.std.specs.List.{AllByRecursion}
use Rattle.std.proofs.lemmas.Bool.{false≢true}
use Rattle.gr_out.specs.declared.fault.RunFault.{RunFault}
use Rattle.gr_out.specs.declared.fault.RunFault.TheVariants as run
use Rattle.gr_out.specs.Bytes.{with_more}
use Rattle.gr_out.specs.Entry.{Entry}
use Rattle.gr_out.specs.Lane.{Lane}
use Rattle.gr_out.specs.Page.{TakesFront}
use Rattle.gr_publog.specs.Views.{lanes_at, StandsRead}
use Rattle.gr_pubend.specs.Log.{fresh_log}
use Rattle.gr_sched.specs.declared.step.Line.{Line}
use Rattle.gr_scenario.specs.Steps.{AreStepsOf}
use Rattle.gr_topo.specs.Topology.{TopologyView, IsTopology}
use Rattle.gr_model.specs.declared.report.Report.{Report}
use Rattle.gr_model.specs.NetOf.{net_of}
use Rattle.gr_model.specs.World.{World, in_turn, log_of}
use Rattle.gr_model.specs.Arrivals.{Arrival, Request, is_hosted, requests_of}
use Rattle.gr_model.specs.Orders.{fed, ordered, orders_of}
use Rattle.gr_model_theorems.specs.Served.{IsOfBytes}
use Rattle.gr_broker.specs.Lanes.{log_lane}
use Rattle.gr_audit_theorems.specs.Behaves.{behaves, begun as begun_machine}
use Rattle.gr_audit_theorems.proofs.Coming.{Unheard}
use Rattle.gr_journal.specs.Groups.{said_text, groups_text, journal_text}
use Rattle.gr_journal.specs.Lines.{process_text}
use Rattle.gr_report.proofs.Passing.{PassesLog, PassesRest}
use Rattle.gr_node.specs.Seen.{NodeView, broker_in, log_here}
use Rattle.gr_node.specs.Of.{AreHosted, OthersStay}
use Rattle.gr_node.specs.Keeps.{IsServing}
use Rattle.gr_node.specs.Lasting.{StartsKeep, HoldsLog}
use Rattle.gr_node.specs.Plan.{Act, settles, shows, ours, act, acts_from, closing, turn_acts, run_acts, plan, all_entries}
use Rattle.gr_node.specs.Done.{Done, done, all_done, settled}
use Rattle.gr_node.specs.Went.{outside, IsExact, fault_entries, uses_disk, FirstIs}
use Rattle.gr_node.specs.Starting.{Started, Found, start_lines}
use Rattle.gr_node.specs.Served.{Course, IsRefused}
use Rattle.gr_node.proofs.Acting.{all_front, all_back}
use Rattle.gr_node.proofs.Opening.{logs_read}
use Rattle.gr_node.proofs.Moving.{IsActOf}
use Rattle.gr_node.proofs.SoFar.{KeptRun, kept_settled}
use Rattle.gr_node.proofs.CourseLogs.{acts_behind, moved_behind, log_stands, logs_last, runs_along}
use Rattle.gr_node.proofs.Courses.{IsOpened, all_opened, all_of, logs, before, bounds, begun, many, were_opened, entries_behind, plan_behind, found_here}
use Rattle.gr_trace.specs.Gathered.{Opens}
use Rattle.gr_trace.specs.Traced.{noted, said_lines, written_by_acts, journal_of, AreNew}
use Rattle.gr_trace.specs.Wrote.{written_at, Wrote, TurnsTraced, OpeningTraced, RunTraced}
use Rattle.gr_trace.proofs.Written.{exact_or}
use Rattle.gr_trace.proofs.Groups.{IsBoth, done_append}
use Rattle.gr_trace.proofs.Replies.{ok_err}
use Rattle.gr_trace.proofs.Turning.{written_then}
use Rattle.gr_trace.proofs.Turns.{more_twice, front_behind, came_waits}
use Rattle.gr_trace.proofs.Group.{IsProcess}
use Rattle.gr_trace.proofs.Expected.{expected_at}
use Rattle.gr_trace.proofs.Begun.{nothing_told, nothing_ready, begun_process}
use Rattle.gr_trace.proofs.Behind.{Answer, bind_none, written_behind, settles_first, shows_last, said_all}
use Rattle.gr_trace.proofs.TracedCourse.{traced_carried, traced_cut}

-- What is shown at the end is no entry and changes no node

shown_done : (t : TopologyView) (hosted : List ℕ) (n : NodeView) → ((all_done t hosted n (shows ∷ [])).node ≡ n) × ((all_done t hosted n (shows ∷ [])).entries ≡ [])
unfolding all_done done
shown_done t hosted n = (refl, refl)

shown_node : (t : TopologyView) (hosted : List ℕ) (n : NodeView) (acts : List Act) → (all_done t hosted n (acts ++ shows ∷ [])).node ≡ (all_done t hosted n acts).node
shown_node t hosted n acts =
    let d : Done = all_done t hosted n acts in
    let both : IsBoth d (all_done t hosted d.node (shows ∷ [])) (all_done t hosted n (acts ++ shows ∷ [])) = done_append t hosted n acts (shows ∷ []) in
    both.node ∙ (shown_done t hosted d.node).0

shown_entries : (t : TopologyView) (hosted : List ℕ) (n : NodeView) (acts : List Act) → (all_done t hosted n (acts ++ shows ∷ [])).entries ≡ (all_done t hosted n acts).entries
shown_entries t hosted n acts =
    let d : Done = all_done t hosted n acts in
    let both : IsBoth d (all_done t hosted d.node (shows ∷ [])) (all_done t hosted n (acts ++ shows ∷ [])) = done_append t hosted n acts (shows ∷ []) in
    both.entries ∙ (ap (λ (es : List Entry). d.entries ++ es) (shown_done t hosted d.node).1 ∙ append-nil d.entries)

-- Nor is what is told in one order an entry

settled_done : (t : TopologyView) (hosted : List ℕ) (n : NodeView) (acts : List Act) → (let d : Done = all_done t hosted (settled n) acts in
    ((all_done t hosted n (settles ∷ acts)).node ≡ d.node) × ((all_done t hosted n (settles ∷ acts)).entries ≡ d.entries))
unfolding all_done done
settled_done t hosted n acts = (refl, refl)

-- Nor is anything put there where nothing comes any more
closes_nothing : (t : TopologyView) (hosted : List ℕ) (n : NodeView) (shut : Bool) → written_at t hosted n [] (closing shut) ≡ []
unfolding written_at done
closes_nothing t hosted n true = refl
closes_nothing t hosted n false = refl

first_more : (left : List Act) → FirstIs uses_disk left → FirstIs uses_disk (left ++ shows ∷ [])
first_more [] h = absurd h
first_more (a ∷ left) h = h

module _ (t : TopologyView) (hosted : List ℕ) (are : AreHosted t hosted) (n : NodeView) (o : IsOpened t hosted hosted [] n) (steps : List Line) (steps_are : AreStepsOf t steps) (came : List Arrival) (shut : Bool)
    (lanes mid_lanes lanes' : ℕ → Lane) (stands_read : StandsRead) (passes : PassesLog) (passes_rest : PassesRest)
    (unheard : Unheard (net_of t)) (few : length t.subscribers ≤ 2 ^ 16) (turns : ℕ) (posts keeps : Type 0) (journal mid journal' : List Entry) (taken opening taken' : Option (List ℕ)) (m n' : NodeView)
    (heard : n.orders ≡ fed (orders_of t) (flat_map (start_lines t n) hosted)) (is_settled : m ≡ settled n) (sent_first : posts → mid ≡ journal ++ bounds t hosted are hosted [] n o)
    (told_first : opening ≡ with_more taken (process_text t hosted ++ (said_lines t (flat_map (start_lines t n) hosted) ++ said_lines t (ordered n.orders))))
    (within : length came ≤ turns) (bytes : AllByRecursion IsOfBytes came)
    (found : keeps → (b : ℕ) → IsSome (broker_in n b) → Found t n (b ∷ []) lanes) (others : keeps → OthersStay t hosted lanes lanes') (opens : keeps → StartsKeep t.late lanes mid_lanes)
    (kept : KeptRun keeps t hosted steps n mid_lanes lanes' came shut) where
  abbrev turn : List Act
  turn = turn_acts (net_of t) hosted steps came shut

  abbrev whole : List Act
  whole = run_acts (net_of t) hosted steps came shut ++ shows ∷ []

  abbrev start_world : World
  start_world = before t hosted are hosted [] n o

  abbrev all_begun : List Act → List Act
  all_begun acts = begun t hosted are hosted [] n o acts

  abbrev course : List Act → List Act → Course
  course made left = record { logs = logs t hosted are hosted [] n o; came = came; closed = shut; made = made; left = left }

  abbrev journal_by : List Act → List ℕ
  journal_by acts = process_text t hosted ++ written_by_acts t hosted start_world (orders_of t) [] (all_begun acts)

  whole_acts : AllByRecursion (IsActOf t hosted) whole
  whole_acts = acts_behind t hosted are n o steps steps_are came shut lanes mid_lanes lanes' stands_read passes passes_rest

  -- what the sink took
  journal_is : (acts : List Act) → AllByRecursion (IsActOf t hosted) (settles ∷ acts)
      → journal_by (settles ∷ acts) ≡ (process_text t hosted ++ (said_lines t (flat_map (start_lines t n) hosted) ++ said_lines t (ordered n.orders))) ++ written_at t hosted m [] acts
  journal_is acts all =
      let first : List ℕ = said_lines t (flat_map (start_lines t n) hosted) in
      let ready : List ℕ = said_lines t (ordered n.orders) in
      let later : List ℕ = written_at t hosted m [] acts in
      ap (λ (xs : List ℕ). process_text t hosted ++ xs)
      (written_behind t hosted are n o passes passes_rest heard (settles ∷ acts) all
      ∙ (ap (λ (xs : List ℕ). first ++ xs) (settles_first t hosted n acts ∙ ap (λ (k : NodeView). ready ++ written_at t hosted k [] acts) (sym is_settled))
      ∙ sym (append_assoc first ready later)))
      ∙ sym (append_assoc (process_text t hosted) (first ++ ready) later)

  taken_is : (acts : List Act) → AllByRecursion (IsActOf t hosted) (settles ∷ acts) → taken' ≡ with_more opening (written_at t hosted m [] acts) → taken' ≡ with_more taken (journal_by (settles ∷ acts))
  taken_is acts all e =
      let first : List ℕ = process_text t hosted ++ (said_lines t (flat_map (start_lines t n) hosted) ++ said_lines t (ordered n.orders)) in
      let later : List ℕ = written_at t hosted m [] acts in
      e ∙ (ap (λ (x : Option (List ℕ)). with_more x later) told_first ∙ (more_twice taken first later ∙ ap (with_more taken) (sym (journal_is acts all))))

  -- what the post noted
  entries_are : (acts : List Act) → AllByRecursion (IsActOf t hosted) (settles ∷ acts)
      → all_entries t hosted start_world (all_begun (settles ∷ acts)) ≡ bounds t hosted are hosted [] n o ++ (all_done t hosted m acts).entries
  entries_are acts all =
      let goes = moved_behind t hosted are n o steps steps_are came shut lanes mid_lanes lanes' stands_read passes passes_rest (settles ∷ acts) all in
      entries_behind t hosted are hosted [] n o (settles ∷ acts)
      ∙ ap (λ (es : List Entry). bounds t hosted are hosted [] n o ++ es)
      (sym goes.entries ∙ ((settled_done t hosted n acts).1 ∙ ap (λ (k : NodeView). (all_done t hosted k acts).entries) (sym is_settled)))

  sent_is : (acts : List Act) → AllByRecursion (IsActOf t hosted) (settles ∷ acts) → (fault : List Entry) → posts → journal' ≡ mid ++ ((all_done t hosted m acts).entries ++ fault)
      → journal' ≡ journal ++ (all_entries t hosted start_world (all_begun (settles ∷ acts)) ++ fault)
  sent_is acts all fault h e =
      let put : List Entry = bounds t hosted are hosted [] n o in
      let es : List Entry = (all_done t hosted m acts).entries in
      e ∙ (ap (λ (xs : List Entry). xs ++ (es ++ fault)) (sent_first h)
      ∙ (append_assoc journal put (es ++ fault)
      ∙ ap (λ (xs : List Entry). journal ++ xs) (sym (append_assoc put es fault) ∙ ap (λ (xs : List Entry). xs ++ fault) (sym (entries_are acts all)))))

  node_is : (acts : List Act) → n' ≡ (all_done t hosted m acts).node → n' ≡ (all_done t hosted n (settles ∷ acts)).node
  node_is acts e = e ∙ (ap (λ (k : NodeView). (all_done t hosted k acts).node) is_settled ∙ sym (settled_done t hosted n acts).0)

  whole_parts : all_begun whole ++ [] ≡ plan t hosted steps came shut
  whole_parts = plan_behind t hosted are hosted [] n o steps came shut whole [] (append-nil whole)

  -- Over new logs it is what an audit expects
  nothing_closes : (k : NodeView) → written_at t hosted k [] (closing shut) ≡ []
  nothing_closes k = closes_nothing t hosted k shut

  turn_expected : IsProcess t hosted m (begun_machine t steps hosted) → written_at t hosted m [] (turn ++ shows ∷ []) ≡ groups_text (behaves t steps) t hosted [] (map noted (ours hosted came))
  turn_expected p =
      let left : List Request = requests_of (net_of t) hosted steps in
      let acts : List Act = acts_from (net_of t) hosted left came in
      let d : Done = all_done t hosted m acts in
      shows_last t hosted m [] turn
      ∙ (written_then t hosted m [] acts (closing shut)
      ∙ (ap (λ (waits : List ℕ). written_at t hosted m [] acts ++ written_at t hosted d.node waits (closing shut)) (came_waits t hosted posts left came m)
      ∙ (ap (λ (xs : List ℕ). written_at t hosted m [] acts ++ xs) (nothing_closes d.node)
      ∙ (append-nil (written_at t hosted m [] acts) ∙ expected_at t hosted passes passes_rest unheard few steps came [] m left p refl))))

  expected_is : AreNew t hosted (course (all_begun whole) []) → taken' ≡ with_more opening (written_at t hosted m [] (turn ++ shows ∷ []))
      → taken' ≡ with_more taken (journal_text (behaves t steps) t hosted (map noted (ours hosted came)))
  expected_is new text =
      let logs_new : (p : ℕ) → p < length t.publishers → is_hosted (net_of t) hosted p ≡ true → log_here t n p ≡ fresh_log true = λ p below here. sym (logs_read t n p below) ∙ new p below here in
      let process : IsProcess t hosted m (begun_machine t steps hosted) =
      subst (λ (k : NodeView). IsProcess t hosted k (begun_machine t steps hosted)) (sym is_settled) (begun_process t hosted are n o logs_new heard steps steps_are few) in
      let groups : List ℕ = groups_text (behaves t steps) t hosted [] (map noted (ours hosted came)) in
      text ∙ (ap (λ (x : Option (List ℕ)). with_more x (written_at t hosted m [] (turn ++ shows ∷ []))) told_first
      ∙ (ap (λ (ls : List Report). with_more (with_more taken (process_text t hosted ++ (said_lines t ls ++ said_lines t (ordered n.orders)))) (written_at t hosted m [] (turn ++ shows ∷ []))) (nothing_told t hosted are n o logs_new)
      ∙ (ap (λ (ls : List Report). with_more (with_more taken (process_text t hosted ++ said_lines t ls)) (written_at t hosted m [] (turn ++ shows ∷ []))) (nothing_ready t hosted are n o logs_new heard)
      ∙ (more_twice taken (process_text t hosted ++ []) (written_at t hosted m [] (turn ++ shows ∷ []))
      ∙ ap₂ (λ (xs ys : List ℕ). with_more taken (xs ++ ys)) (append-nil (process_text t hosted)) (turn_expected process)))))

  -- Where all was made, with what is shown
  pub run_whole : (u : Unit {0}) → (shut ≡ true) ⊎ (length came ≡ turns) → Wrote {T = Unit {0}} t hosted posts turn m n' [] opening taken' mid journal' (Ok u) → IsServing t hosted keeps lanes' n'
      → RunTraced {T = Unit {0}} t hosted steps turns posts keeps journal journal' taken taken' lanes lanes' (Ok u)
  run_whole u ended w serving =
      let all : w.made ≡ turn = sym (append-nil w.made) ∙ (ap (λ (xs : List Act). w.made ++ xs) (sym w.whole) ∙ w.parts) in
      let text : taken' ≡ with_more opening (written_at t hosted m [] (turn ++ shows ∷ [])) =
      w.wrote tt ∙ (ap (λ (xs : List Act). with_more opening (written_at t hosted m [] xs)) all ∙ ap (with_more opening) (sym (shows_last t hosted m [] turn))) in
      let node : n' ≡ (all_done t hosted m (turn ++ shows ∷ [])).node = w.node tt w.whole ∙ (ap (λ (xs : List Act). (all_done t hosted m xs).node) all ∙ sym (shown_node t hosted m turn)) in
      traced_carried (Unit {0}) t hosted steps turns posts keeps journal journal' taken taken' lanes lanes' (Ok u) (logs t hosted are hosted [] n o) (many t hosted are hosted [] n o) (were_opened t hosted are hosted [] n o) came shut within bytes
      (all_begun whole) [] whole_parts tt refl ended (λ e is. absurd (ok_err u e is))
      (λ h. sent_is (turn ++ shows ∷ []) whole_acts [] h (w.sent tt h ∙ (ap (λ (xs : List Act). mid ++ ((all_done t hosted m xs).entries ++ [])) all ∙ ap (λ (es : List Entry). mid ++ (es ++ [])) (sym (shown_entries t hosted m turn)))))
      (taken_is (turn ++ shows ∷ []) whole_acts text) (λ new. expected_is new text)
      (λ h. record {
        found = λ p below here is. found_here t hosted are hosted [] n o lanes (found h) p below here;
        kept = λ known end. log_stands t hosted are n o steps steps_are came shut lanes mid_lanes lanes' stands_read passes passes_rest whole n' whole_acts (node_is (turn ++ shows ∷ []) node) serving.set (serving.stands h);
        since = logs_last t hosted are n o steps steps_are came shut lanes mid_lanes lanes' stands_read passes passes_rest (all_begun whole) [] (kept.1 h);
        along = runs_along t hosted are n o steps steps_are came shut lanes mid_lanes lanes' stands_read passes passes_rest (all_begun whole) [] (found h) (opens h) (kept.0 h);
        damaged = λ p at is. absurd (ok_err u (run.Damaged p at) is);
        others = others h;
      })

  -- Where a call was refused, or the post failed
  module _ (e : RunFault) (undamaged : (p at : ℕ) → ◌≢◌ {A = Answer} (Err e) (Err (run.Damaged p at))) (w : Wrote {T = Unit {0}} t hosted posts turn m n' [] opening taken' mid journal' (Err e)) where
    abbrev left : List Act
    left = w.left ++ shows ∷ []

    parts : (settles ∷ w.made) ++ left ≡ whole
    parts = ap (λ (xs : List Act). settles ∷ xs) (sym (append_assoc w.made w.left (shows ∷ [])) ∙ ap (λ (xs : List Act). xs ++ shows ∷ []) w.parts)

    parts_acts : AllByRecursion (IsActOf t hosted) ((settles ∷ w.made) ++ left)
    parts_acts = subst (AllByRecursion (IsActOf t hosted)) (sym parts) whole_acts

    made_acts : AllByRecursion (IsActOf t hosted) (settles ∷ w.made)
    made_acts = all_front (IsActOf t hosted) (settles ∷ w.made) left parts_acts

    left_acts : AllByRecursion (IsActOf t hosted) left
    left_acts = all_back (IsActOf t hosted) (settles ∷ w.made) left parts_acts

    refused_by : (f : RunFault) → ◌≡◌ {A = Answer} (Err e) (Err f) → IsRefused t f left
    refused_by run.Memory is = tt
    refused_by run.Write is = tt
    refused_by run.Disk is = first_more w.left (w.refused is)
    refused_by (run.Damaged p at) is = absurd (undamaged p at is)
    refused_by run.Post is = inr (ap (λ (xs : List Act). xs ++ shows ∷ []) (w.given_up is))

    abbrev AllStood : Type 0
    AllStood = (p : ℕ) → p < length t.publishers → is_hosted (net_of t) hosted p ≡ true
        → HoldsLog t.late (lanes_at lanes' (log_lane p)) (log_of (in_turn (act (net_of t) hosted) (all_begun (settles ∷ w.made)) start_world).world p)

    not_refused : FirstIs uses_disk left → (left ≡ []) ⊎ (left ≡ shows ∷ []) → ⊥
    not_refused first (inl h) = subst (FirstIs uses_disk) h first
    not_refused first (inr h) = false≢true (subst (FirstIs uses_disk) h first)

    stood_by : keeps → (◌≡◌ {A = Answer} (Err e) (Err run.Post) → IsServing t hosted keeps lanes' n') → (f : RunFault) → ◌≡◌ {A = Answer} (Err e) (Err f) → IsExact {T = Unit {0}} (Err f) → (left ≡ []) ⊎ (left ≡ shows ∷ []) → AllStood
    stood_by h serving run.Memory is exact end = absurd exact
    stood_by h serving run.Write is exact end = absurd exact
    stood_by h serving run.Disk is exact end = absurd (not_refused (first_more w.left (w.refused is)) end)
    stood_by h serving (run.Damaged p at) is exact end = absurd (undamaged p at is)
    stood_by h serving run.Post is exact end =
        let s = serving is in
        log_stands t hosted are n o steps steps_are came shut lanes mid_lanes lanes' stands_read passes passes_rest (settles ∷ w.made) n' made_acts
        (node_is w.made (w.node (subst (λ (r : Answer). IsExact r) (sym is) tt) (w.given_up is))) s.set (s.stands h)

    run_refused : IsExact {T = Unit {0}} (Err e) → (◌≡◌ {A = Answer} (Err e) (Err run.Post) → IsServing t hosted keeps lanes' n') → RunTraced {T = Unit {0}} t hosted steps turns posts keeps journal journal' taken taken' lanes lanes' (Err e)
    run_refused exact serving =
        traced_carried (Unit {0}) t hosted steps turns posts keeps journal journal' taken taken' lanes lanes' (Err e) (logs t hosted are hosted [] n o) (many t hosted are hosted [] n o) (were_opened t hosted are hosted [] n o) came shut within bytes
        (all_begun (settles ∷ w.made)) left (plan_behind t hosted are hosted [] n o steps came shut (settles ∷ w.made) left parts) exact tt tt refused_by
        (λ h. sent_is w.made made_acts (fault_entries {T = Unit {0}} (Err e)) h (w.sent exact h))
        (taken_is w.made made_acts (w.wrote exact) ∙ ap (λ (b : Bool). with_more taken (if b then [] else journal_by (settles ∷ w.made))) (sym (bind_none t hosted left left_acts))) tt
        (λ h. record {
          found = λ p below here is. found_here t hosted are hosted [] n o lanes (found h) p below here;
          kept = λ known end. stood_by h serving e refl exact end;
          since = logs_last t hosted are n o steps steps_are came shut lanes mid_lanes lanes' stands_read passes passes_rest (all_begun (settles ∷ w.made)) left (kept.1 h);
          along = runs_along t hosted are n o steps steps_are came shut lanes mid_lanes lanes' stands_read passes passes_rest (all_begun (settles ∷ w.made)) left (found h) (opens h) (kept.0 h);
          damaged = λ p at is. absurd (undamaged p at is);
          others = others h;
        })

    -- It is not known what was done
    plan_is : all_begun whole ≡ plan t hosted steps came shut
    plan_is = sym (append-nil (all_begun whole)) ∙ whole_parts

    front_is : TakesFront opening taken' (written_at t hosted m [] turn) → TakesFront taken taken' (journal_of t hosted (course [] (plan t hosted steps came shut)) (plan t hosted steps came shut) [])
    front_is f =
        let first : List ℕ = process_text t hosted ++ (said_lines t (flat_map (start_lines t n) hosted) ++ said_lines t (ordered n.orders)) in
        subst (TakesFront taken taken')
        (ap (λ (xs : List ℕ). first ++ xs) (sym (shows_last t hosted m [] turn)) ∙ (sym (journal_is (turn ++ shows ∷ []) whole_acts)
        ∙ ap (λ (acts : List Act). process_text t hosted ++ written_by_acts t hosted start_world (orders_of t) [] acts) plan_is))
        (front_behind taken opening taken' first (written_at t hosted m [] turn) told_first f)

    run_unknown : (IsExact {T = Unit {0}} (Err e) → ⊥) → RunTraced {T = Unit {0}} t hosted steps turns posts keeps journal journal' taken taken' lanes lanes' (Err e)
    run_unknown unknown =
        traced_cut (Unit {0}) t hosted steps turns posts keeps journal journal' taken taken' lanes lanes' (Err e) (logs t hosted are hosted [] n o) (many t hosted are hosted [] n o) (were_opened t hosted are hosted [] n o) came shut within bytes
        (all_begun whole) [] whole_parts unknown (front_is w.front)
        (λ h. let b = w.sent_front unknown h in record {
          part = bounds t hosted are hosted [] n o ++ b.part;
          rest = b.rest;
          whole = entries_are (turn ++ shows ∷ []) whole_acts ∙ (ap (λ (es : List Entry). bounds t hosted are hosted [] n o ++ es) (shown_entries t hosted m turn ∙ b.whole) ∙ sym (append_assoc (bounds t hosted are hosted [] n o) b.part b.rest));
          are = b.are ∙ (ap (λ (xs : List Entry). xs ++ b.part) (sent_first h) ∙ append_assoc journal (bounds t hosted are hosted [] n o) b.part);
        })
        (λ h. logs_last t hosted are n o steps steps_are came shut lanes mid_lanes lanes' stands_read passes passes_rest [] (plan t hosted steps came shut) (kept.1 h))
        (λ h. runs_along t hosted are n o steps steps_are came shut lanes mid_lanes lanes' stands_read passes passes_rest [] (plan t hosted steps came shut) (found h) (opens h) (kept.0 h)) others

    pub run_ended : (◌≡◌ {A = Answer} (Err e) (Err run.Post) → IsServing t hosted keeps lanes' n') → RunTraced {T = Unit {0}} t hosted steps turns posts keeps journal journal' taken taken' lanes lanes' (Err e)
    run_ended serving = elim (exact_or {T = Unit {0}} (Err e)) [
      | inl exact ↦ run_refused exact serving
      | inr unknown ↦ run_unknown unknown
    ]

-- All have started, and it was run

pub opened_by : (t : TopologyView) (hosted : List ℕ) (keeps : Type 0) (m : NodeView) (first : List ℕ) (taken taken' : Option (List ℕ)) (lanes : ℕ → Lane) (u : Unit {0}) (w : OpeningTraced {T = Unit {0}} t hosted keeps m first taken taken' lanes (Ok u))
    → Opens {T = Unit {0}} t hosted keeps m w.lines lanes (Ok u)
opened_by t hosted keeps m first taken taken' lanes u w =
    subst (λ (r : Answer). Opens {T = Unit {0}} t hosted keeps m w.lines lanes r) (sym (w.same tt)) (w.opens (subst (λ (r : Answer). IsExact r) (w.same tt) tt))

module _ (t : TopologyView) (hosted : List ℕ) (are : AreHosted t hosted) (topology : IsTopology t) (steps : List Line) (steps_are : AreStepsOf t steps) (turns : ℕ) (posts keeps : Type 0)
    (journal mid journal' : List Entry) (taken opening taken' : Option (List ℕ)) (lanes mid_lanes lanes' : ℕ → Lane) (m n' : NodeView) (stands_read : StandsRead) (passes : PassesLog) (passes_rest : PassesRest)
    (unheard : Unheard (net_of t)) (lines : List ℕ) (u : Unit {0}) (x : Opens {T = Unit {0}} t hosted keeps m lines lanes (Ok u)) (told : opening ≡ with_more taken (process_text t hosted ++ said_text true lines))
    (others : keeps → OthersStay t hosted lanes lanes') (opens : keeps → StartsKeep t.late lanes mid_lanes) where
  abbrev opened_node : NodeView
  opened_node = x.opened

  abbrev begins : Started {T = Unit {0}} t hosted opened_node (outside (Some []) [] []) (outside (Some x.told) [] []) (Ok u)
  begins = x.started

  abbrev was_opened : IsOpened t hosted hosted [] opened_node
  was_opened = all_opened (Unit {0}) t hosted opened_node (outside (Some []) [] []) (outside (Some x.told) [] []) (Ok u) begins x.offers x.now x.count topology.sound begins.whole

  all_began : take begins.made hosted ≡ hosted
  all_began = all_of hosted begins.made begins.whole

  heard_all : x.opened.orders ≡ fed (orders_of t) (flat_map (start_lines t x.opened) hosted)
  heard_all = begins.heard ∙ ap (λ (bs : List ℕ). fed (orders_of t) (flat_map (start_lines t x.opened) bs)) all_began

  told_all : opening ≡ with_more taken (process_text t hosted ++ (said_lines t (flat_map (start_lines t x.opened) hosted) ++ said_lines t (ordered x.opened.orders)))
  told_all =
      told ∙ ap (λ (xs : List ℕ). with_more taken (process_text t hosted ++ xs))
      (said_all t hosted topology keeps m lines lanes (Ok u) x tt u refl ∙ ap (λ (bs : List ℕ). said_lines t (flat_map (start_lines t x.opened) bs) ++ said_lines t (ordered x.opened.orders)) all_began)

  pub run_traced : (posts → mid ≡ journal ++ bounds t hosted are hosted [] x.opened was_opened) → (r : Answer) → TurnsTraced {T = Unit {0}} t hosted posts keeps steps turns m n' opening taken' mid journal' mid_lanes lanes' r
      → OnOk r (IsServing t hosted keeps lanes' n') → (IsErrOf r run.Post → IsServing t hosted keeps lanes' n') → ((p at : ℕ) → r ≢ Err (run.Damaged p at))
      → RunTraced {T = Unit {0}} t hosted steps turns posts keeps journal journal' taken taken' lanes lanes' r
  run_traced sent (Ok v) w serving at_post undamaged =
      run_whole t hosted are x.opened was_opened steps steps_are w.came w.shut lanes mid_lanes lanes' stands_read passes passes_rest unheard (let sound = topology.sound in omega (arith, sound.limits.subscribers)) turns posts keeps journal mid journal' taken opening taken' m n'
      heard_all x.node sent told_all w.within w.bytes x.found others opens (kept_settled keeps t hosted steps x.opened m mid_lanes lanes' x.node w.came w.shut (w.kept, w.stood)) v w.ended w.wrote serving
  run_traced sent (Err e) w serving at_post undamaged =
      run_ended t hosted are x.opened was_opened steps steps_are w.came w.shut lanes mid_lanes lanes' stands_read passes passes_rest unheard (let sound = topology.sound in omega (arith, sound.limits.subscribers)) turns posts keeps journal mid journal' taken opening taken' m n'
      heard_all x.node sent told_all w.within w.bytes x.found others opens (kept_settled keeps t hosted steps x.opened m mid_lanes lanes' x.node w.came w.shut (w.kept, w.stood)) e undamaged w.wrote at_post
