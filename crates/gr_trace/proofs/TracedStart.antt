-- A run that is traced and ends before its first turn: a binding failed, a start was refused, or there was no memory
use Rattle.std.proofs.Common.{◌≡◌, ◌≢◌, ◌⊎◌, inl, inr, ℕ, Bool, true, false, List, [], ◌∷◌, ◌++◌, map, take, drop, flat_map, Option, Some, Result, Ok, Err, refl, sym, ap, ◌∙◌, subst, arith, append_assoc, append-nil, eq-eqb}
use Rattle.std.specs.Prelude.{IsSome, if◌then◌else◌}
use Rattle.std.specs.List.{list_any}
use Rattle.std.proofs.lemmas.Bool.{false≢true}
use Rattle.std.proofs.lemmas.List.{map-append}
use Rattle.gr_out.specs.declared.fault.RunFault.{RunFault}
use Rattle.gr_out.specs.declared.fault.RunFault.TheVariants as run
use Rattle.gr_out.specs.Bytes.{with_more}
use Rattle.gr_out.specs.Entry.{Entry}
use Rattle.gr_out.specs.Entry as entry
use Rattle.gr_out.specs.Lane.{Lane}
use Rattle.gr_out.specs.Page.{TakesFront}
use Rattle.gr_out.proofs.Fronts.{front-nothing, front-more}
use Rattle.gr_publog.specs.Views.{lanes_at}
use Rattle.gr_sched.specs.declared.step.Line.{Line}
use Rattle.gr_topo.specs.Topology.{TopologyView, IsTopology, host_of}
use Rattle.gr_model.specs.NetOf.{net_of}
use Rattle.gr_model.specs.declared.report.Report.{Report}
use Rattle.gr_model.specs.World.{World, Transition}
use Rattle.gr_model.specs.Orders.{Order, fed, ordered, orders_of}
use Rattle.gr_broker.specs.Lanes.{log_lane}
use Rattle.gr_journal.specs.Groups.{said_text}
use Rattle.gr_journal.specs.Lines.{process_text}
use Rattle.gr_node.specs.Seen.{NodeView, broker_in, none_started}
use Rattle.gr_node.specs.Of.{AreHosted, OthersStay}
use Rattle.gr_node.specs.Lasting.{IsFound, StartsKeep}
use Rattle.gr_node.specs.Plan.{Act, binds, starts, settles, shows, bound_entry, act, heard_by, acts_from, turn_acts, run_acts, nodes, plan, all_entries}
use Rattle.gr_node.specs.Went.{outside, IsExact, IsPostFault, Bound, fault_entries, uses_disk, FirstIs}
use Rattle.gr_node.specs.Starting.{Started, Found, IsFirstDamaged, start_lines}
use Rattle.gr_node.specs.Served.{Course, is_bind, is_start, IsRefused, IsRunOf, Posts, IsOfRun, RunsAlong, KeepsLogs}
use Rattle.gr_node.proofs.Opening.{binds_entries}
use Rattle.gr_node.proofs.Lasting.{along_as, starts_same}
use Rattle.gr_node.proofs.Courses.{IsOpened, none_opened, some_opened, all_opened, all_of, none_bound, logs, before, bounds, started, begun, many, were_opened, entries_behind, plan_behind, started_made, found_here}
use Rattle.gr_node.proofs.CourseEnds.{IsNextOf, next_of}
use Rattle.gr_trace.specs.Gathered.{Opens}
use Rattle.gr_trace.specs.Traced.{said_lines, written_by_acts, journal_of, Traces}
use Rattle.gr_trace.specs.Wrote.{RunTraced}
use Rattle.gr_trace.proofs.Written.{exact_or}
use Rattle.gr_trace.proofs.Turns.{more_none}
use Rattle.gr_trace.proofs.Replies.{same_entries}
use Rattle.gr_trace.proofs.Behind.{starts_bind_none, written_begun, said_so_far, said_all}
use Rattle.gr_trace.proofs.TracedCourse.{traced_carried, traced_cut}

abbrev pub Answer : Type 0
Answer = Result (Unit {0}) RunFault

-- a fault that is none of the post puts no entry
no_failed : (e : RunFault) → ◌≢◌ {A = Answer} (Err e) (Err run.Post) → fault_entries {T = Unit {0}} (Err e) ≡ []
no_failed run.Memory h = refl
no_failed run.Write h = refl
no_failed run.Disk h = refl
no_failed (run.Damaged p at) h = refl
no_failed run.Post h = absurd (h refl)

-- where nothing but starts was made, the lanes hold what was found
found_along : (t : TopologyView) (hosted : List ℕ) (steps : List Line) (c : Course) (lanes lanes' : ℕ → Lane) → StartsKeep t.late lanes lanes' → RunsAlong t hosted steps c lanes lanes'
found_along t hosted steps c lanes lanes' s p below here =
    let k = s.lanes p in (
      k.0,
      along_as (IsFound t.late (lanes_at lanes (log_lane p))) (IsOfRun t hosted steps c p (lanes_at lanes (log_lane p))) (λ a b f. inl f) (lanes_at lanes (log_lane p)) (lanes_at lanes' (log_lane p)) k.0 k.1,
    )

module _ (t : TopologyView) (hosted : List ℕ) (are : AreHosted t hosted) (steps : List Line) (turns : ℕ) (posts keeps : Type 0) (journal journal' : List Entry) (taken taken' : Option (List ℕ)) (lanes lanes' : ℕ → Lane) (e : RunFault)
    (no_post : ◌≢◌ {A = Answer} (Err e) (Err run.Post)) (sent : posts → journal' ≡ journal ++ map (bound_entry t hosted) (nodes t hosted)) (others : keeps → OthersStay t hosted lanes lanes') (kept : keeps → StartsKeep t.late lanes lanes') where
  abbrev pub nothing_came : List Act
  nothing_came = run_acts (net_of t) hosted steps [] false ++ shows ∷ []

  nothing_bound : list_any is_bind nothing_came ≡ false
  unfolding acts_from
  nothing_bound = refl

  module _ (bs rest : List ℕ) (n : NodeView) (o : IsOpened t hosted bs rest n) where
    abbrev pub left : List Act
    left = map starts rest ++ nothing_came

    abbrev made : List Act
    made = begun t hosted are bs rest n o []

    abbrev pub all_acts : List Act
    all_acts = plan t hosted steps [] false

    abbrev pub course : List Act → List Act → Course
    course made left = record { logs = logs t hosted are bs rest n o; came = []; closed = false; made = made; left = left }

    abbrev pub opening_text : List ℕ
    opening_text = process_text t hosted ++ said_lines t (flat_map (start_lines t n) bs)

    parts : made ++ left ≡ all_acts
    parts = plan_behind t hosted are bs rest n o steps [] false [] left refl

    nothing_written : (acts : List Act) → acts ≡ [] → (let s : Transition = started t hosted are bs rest n o in written_by_acts t hosted s.world (fed (orders_of t) (flat_map (start_lines t n) bs)) [] acts ≡ [])
    unfolding written_by_acts
    nothing_written acts is = (let s : Transition = started t hosted are bs rest n o in ap (λ (xs : List Act). written_by_acts t hosted s.world (fed (orders_of t) (flat_map (start_lines t n) bs)) [] xs) is)

    -- the journal of the starts
    journal_is : journal_of t hosted (course made left) made left ≡ opening_text
    journal_is =
        let first : List ℕ = said_lines t (flat_map (start_lines t n) bs) in
        ap (λ (b : Bool). if b then [] else process_text t hosted ++ written_by_acts t hosted (before t hosted are bs rest n o) (orders_of t) [] made) (starts_bind_none rest nothing_came nothing_bound)
        ∙ ap (λ (xs : List ℕ). process_text t hosted ++ xs) (written_begun t hosted are bs rest n o [] ∙ (ap (λ (xs : List ℕ). first ++ xs) (nothing_written [] refl) ∙ append-nil first))

    -- is a front of that of the plan
    abbrev later_text : List ℕ
    later_text = (let s : Transition = started t hosted are bs rest n o in written_by_acts t hosted s.world (fed (orders_of t) (flat_map (start_lines t n) bs)) [] left)

    plan_is : begun t hosted are bs rest n o left ≡ all_acts
    plan_is = sym (append-nil (begun t hosted are bs rest n o left)) ∙ plan_behind t hosted are bs rest n o steps [] false left [] (append-nil left)

    plan_journal : journal_of t hosted (course [] all_acts) all_acts [] ≡ opening_text ++ later_text
    plan_journal =
        let first : List ℕ = said_lines t (flat_map (start_lines t n) bs) in
        ap (λ (xs : List ℕ). process_text t hosted ++ xs) (ap (λ (acts : List Act). written_by_acts t hosted (before t hosted are bs rest n o) (orders_of t) [] acts) (sym plan_is) ∙ written_begun t hosted are bs rest n o left)
        ∙ sym (append_assoc (process_text t hosted) first later_text)

    pub plan_front : TakesFront taken taken' opening_text → TakesFront taken taken' (journal_of t hosted (course [] all_acts) all_acts [])
    plan_front f = subst (TakesFront taken taken') (sym plan_journal) (front-more taken taken' opening_text later_text f)

    entries_made : all_entries t hosted (before t hosted are bs rest n o) made ≡ bounds t hosted are bs rest n o
    unfolding all_entries
    entries_made = entries_behind t hosted are bs rest n o [] ∙ append-nil (bounds t hosted are bs rest n o)

    -- a start is left
    start_first : (b : ℕ) (cs : List ℕ) → map starts (b ∷ cs) ++ nothing_came ≡ [] → ⊥
    start_first b cs h = cc

    start_not_shown : (b : ℕ) (cs : List ℕ) → map starts (b ∷ cs) ++ nothing_came ≡ shows ∷ [] → ⊥
    start_not_shown b cs h = cc

    not_ended : IsNextOf (Unit {0}) t rest e → (left ≡ []) ⊎ (left ≡ shows ∷ []) → ⊥
    not_ended k (inl h) = start_first k.next k.more (subst (λ (cs : List ℕ). map starts cs ++ nothing_came ≡ []) k.are h)
    not_ended k (inr h) = start_not_shown k.next k.more (subst (λ (cs : List ℕ). map starts cs ++ nothing_came ≡ shows ∷ []) k.are h)

    refused_by : IsNextOf (Unit {0}) t rest e → (f : RunFault) → ◌≡◌ {A = Answer} (Err e) (Err f) → IsRefused t f left
    refused_by k run.Memory is = tt
    refused_by k run.Write is = tt
    refused_by k run.Disk is = subst (λ (cs : List ℕ). FirstIs uses_disk (map starts cs ++ nothing_came)) (sym k.are) refl
    refused_by k (run.Damaged p at) is =
        subst (λ (cs : List ℕ). FirstIs (is_start (host_of t p)) (map starts cs ++ nothing_came)) (sym k.are) (eq-eqb (host_of t p) k.next (sym (k.damaged p at is)))
    refused_by k run.Post is = absurd (no_post is)

    -- A start was refused
    pub start_refused : IsExact {T = Unit {0}} (Err e) → IsNextOf (Unit {0}) t rest e → taken' ≡ with_more taken opening_text
        → (keeps → (b : ℕ) → IsSome (broker_in n b) → Found t n (b ∷ []) lanes)
        → (keeps → (p at : ℕ) → ◌≡◌ {A = Answer} (Err e) (Err (run.Damaged p at)) → IsFirstDamaged t hosted p at lanes)
        → RunTraced {T = Unit {0}} t hosted steps turns posts keeps journal journal' taken taken' lanes lanes' (Err e)
    start_refused exact next told found damaged =
        traced_carried (Unit {0}) t hosted steps turns posts keeps journal journal' taken taken' lanes lanes' (Err e) (logs t hosted are bs rest n o) (many t hosted are bs rest n o) (were_opened t hosted are bs rest n o) [] false (omega arith) tt
        made left parts exact tt tt (refused_by next)
        (λ h. sent h ∙ ap (λ (xs : List Entry). journal ++ xs) (sym entries_made ∙ (sym (append-nil (all_entries t hosted (before t hosted are bs rest n o) made)) ∙ ap (λ (xs : List Entry). all_entries t hosted (before t hosted are bs rest n o) made ++ xs) (sym (no_failed e no_post)))))
        (told ∙ ap (with_more taken) (sym journal_is)) tt
        (λ h. record {
          found = λ p below here is. found_here t hosted are bs rest n o lanes (found h) p below (started_made t hosted are bs rest n o (host_of t p) is);
          kept = λ known end. absurd (not_ended next end);
          since = λ k lt. absurd (omega (arith, lt));
          along = found_along t hosted steps (course made left) lanes lanes' (kept h);
          damaged = damaged h;
          others = others h;
        })

    -- or it is not known what was done
    pub start_cut : (IsExact {T = Unit {0}} (Err e) → ⊥) → TakesFront taken taken' (journal_of t hosted (course [] all_acts) all_acts []) → RunTraced {T = Unit {0}} t hosted steps turns posts keeps journal journal' taken taken' lanes lanes' (Err e)
    start_cut unknown front =
        traced_cut (Unit {0}) t hosted steps turns posts keeps journal journal' taken taken' lanes lanes' (Err e) (logs t hosted are bs rest n o) (many t hosted are bs rest n o) (were_opened t hosted are bs rest n o) [] false (omega arith) tt
        made left parts unknown front
        (λ h. record {
          part = bounds t hosted are bs rest n o;
          rest = [];
          whole = entries_made ∙ sym (append-nil (bounds t hosted are bs rest n o));
          are = sent h;
        })
        (λ h k lt. absurd (omega (arith, lt))) (λ h. found_along t hosted steps (course [] all_acts) lanes lanes' (kept h)) others

-- There was no memory for what a run needs
pub traced_memory : (t : TopologyView) (hosted : List ℕ) (steps : List Line) (turns : ℕ) (posts keeps : Type 0) (journal journal' : List Entry) (taken : Option (List ℕ)) (lanes : ℕ → Lane)
    → AreHosted t hosted → IsTopology t → (posts → journal' ≡ journal ++ map (bound_entry t hosted) (nodes t hosted))
    → RunTraced {T = Unit {0}} t hosted steps turns posts keeps journal journal' taken taken lanes lanes (Err run.Memory)
traced_memory t hosted steps turns posts keeps journal journal' taken lanes are topology sent =
    start_cut t hosted are steps turns posts keeps journal journal' taken taken lanes lanes run.Memory (λ e. cc) sent (λ h lane here. refl) (λ h. starts_same t.late lanes lanes (λ k. refl))
    [] hosted (none_started t) (none_opened t hosted (none_started t) topology.sound refl) (λ x. x) (front-nothing taken taken _ refl)

-- What is ready in one order is told behind the starts
module _ (t : TopologyView) (hosted : List ℕ) (are : AreHosted t hosted) (steps : List Line) (n : NodeView) (o : IsOpened t hosted hosted [] n) where
  abbrev pub all_planned : List Act
  all_planned = plan t hosted steps [] false

  abbrev pub none_made : Course
  none_made = record { logs = logs t hosted are hosted [] n o; came = []; closed = false; made = []; left = all_planned }

  abbrev pub start_lines_all : List Report
  start_lines_all = flat_map (start_lines t n) hosted

  abbrev pub heard : List Order
  heard = fed (orders_of t) start_lines_all

  abbrev turns_then : List Act
  turns_then = turn_acts (net_of t) hosted steps [] false ++ shows ∷ []

  settles_by_acts : (w : World) (os : List Order) (acts : List Act)
      → (rest : List ℕ) × (written_by_acts t hosted w os [] (settles ∷ acts) ≡ said_lines t (ordered os) ++ rest)
  unfolding written_by_acts
  settles_by_acts w os acts =
      let u : Transition = act (net_of t) hosted w settles in
      let rest : List ℕ = written_by_acts t hosted u.world (heard_by (net_of t) hosted w os settles) [] acts in
      (rest, ap (λ (xs : List ℕ). xs ++ rest) (append-nil (said_lines t (ordered os))))

  planned_is : begun t hosted are hosted [] n o (settles ∷ turns_then) ≡ all_planned
  planned_is = sym (append-nil (begun t hosted are hosted [] n o (settles ∷ turns_then))) ∙ plan_behind t hosted are hosted [] n o steps [] false (settles ∷ turns_then) [] (append-nil (settles ∷ turns_then))

  pub settled_front : (taken taken' : Option (List ℕ)) (text : List ℕ) → text ≡ process_text t hosted ++ (said_lines t start_lines_all ++ said_lines t (ordered heard)) → TakesFront taken taken' text
      → TakesFront taken taken' (journal_of t hosted none_made all_planned [])
  settled_front taken taken' text is front =
      let s : Transition = started t hosted are hosted [] n o in
      let first : List ℕ = said_lines t start_lines_all in
      let ready : List ℕ = said_lines t (ordered heard) in
      let later = settles_by_acts s.world heard turns_then in
      let whole : written_by_acts t hosted (before t hosted are hosted [] n o) (orders_of t) [] all_planned ≡ (first ++ ready) ++ later.0 =
      ap (λ (acts : List Act). written_by_acts t hosted (before t hosted are hosted [] n o) (orders_of t) [] acts) (sym planned_is)
      ∙ (written_begun t hosted are hosted [] n o (settles ∷ turns_then) ∙ (ap (λ (xs : List ℕ). first ++ xs) later.1 ∙ sym (append_assoc first ready later.0))) in
      subst (TakesFront taken taken') (sym (ap (λ (xs : List ℕ). process_text t hosted ++ xs) whole ∙ sym (append_assoc (process_text t hosted) (first ++ ready) later.0)))
      (front-more taken taken' (process_text t hosted ++ (first ++ ready)) later.0 (subst (TakesFront taken taken') is front))

-- The opening failed

module _ (t : TopologyView) (hosted : List ℕ) (are : AreHosted t hosted) (topology : IsTopology t) (steps : List Line) (turns : ℕ) (posts keeps : Type 0) (journal journal' : List Entry) (taken taken' : Option (List ℕ)) (lanes lanes' : ℕ → Lane) (e : RunFault)
    (no_post : ◌≢◌ {A = Answer} (Err e) (Err run.Post)) (sent : posts → journal' ≡ journal ++ map (bound_entry t hosted) (nodes t hosted)) (others : keeps → OthersStay t hosted lanes lanes') (kept : keeps → StartsKeep t.late lanes lanes')
    (damaged : keeps → (p at : ℕ) → ◌≡◌ {A = Answer} (Err e) (Err (run.Damaged p at)) → IsFirstDamaged t hosted p at lanes) (n' : NodeView) (lines : List ℕ) where
  abbrev pub Traced : Type 0
  Traced = RunTraced {T = Unit {0}} t hosted steps turns posts keeps journal journal' taken taken' lanes lanes' (Err e)

  abbrev pub Begun : Answer → Type 0
  Begun done = Opens {T = Unit {0}} t hosted keeps n' lines lanes done

  abbrev pub opening_said : List ℕ
  opening_said = process_text t hosted ++ said_text true lines

  -- a start was refused
  opened_refused : IsExact {T = Unit {0}} (Err e) → Begun (Err e) → taken' ≡ with_more taken opening_said → Traced
  opened_refused exact x told =
      let n : NodeView = x.opened in
      let s : Started {T = Unit {0}} t hosted n (outside (Some []) [] []) (outside (Some x.told) [] []) (Err e) = x.started in
      start_refused t hosted are steps turns posts keeps journal journal' taken taken' lanes lanes' e no_post sent others kept
      (take s.made hosted) (drop s.made hosted) n (some_opened (Unit {0}) t hosted n (outside (Some []) [] []) (outside (Some x.told) [] []) (Err e) s x.offers x.now x.count topology.sound)
      exact (next_of t hosted n (outside (Some []) [] []) (outside (Some x.told) [] []) e s exact)
      (told ∙ ap (λ (xs : List ℕ). with_more taken (process_text t hosted ++ xs)) (said_so_far t hosted topology keeps n' lines lanes (Err e) x exact e refl))
      x.found damaged

  -- a front of it was written: a start was refused
  opened_cut : (IsExact {T = Unit {0}} (Err e) → ⊥) → (f : RunFault) → IsExact {T = Unit {0}} (Err f) → Begun (Err f) → TakesFront taken taken' opening_said → Traced
  opened_cut unknown f known x front =
      let n : NodeView = x.opened in
      let s : Started {T = Unit {0}} t hosted n (outside (Some []) [] []) (outside (Some x.told) [] []) (Err f) = x.started in
      let o : IsOpened t hosted (take s.made hosted) (drop s.made hosted) n = some_opened (Unit {0}) t hosted n (outside (Some []) [] []) (outside (Some x.told) [] []) (Err f) s x.offers x.now x.count topology.sound in
      start_cut t hosted are steps turns posts keeps journal journal' taken taken' lanes lanes' e no_post sent others kept (take s.made hosted) (drop s.made hosted) n o unknown
      (plan_front t hosted are steps turns posts keeps journal journal' taken taken' lanes lanes' e no_post sent others kept (take s.made hosted) (drop s.made hosted) n o
      (subst (λ (xs : List ℕ). TakesFront taken taken' (process_text t hosted ++ xs)) (said_so_far t hosted topology keeps n' lines lanes (Err f) x known f refl) front))

  -- or all came through
  opened_whole : (IsExact {T = Unit {0}} (Err e) → ⊥) → (u : Unit {0}) → Begun (Ok u) → TakesFront taken taken' opening_said → Traced
  opened_whole unknown u x front =
      let n : NodeView = x.opened in
      let s : Started {T = Unit {0}} t hosted n (outside (Some []) [] []) (outside (Some x.told) [] []) (Ok u) = x.started in
      let o : IsOpened t hosted hosted [] n = all_opened (Unit {0}) t hosted n (outside (Some []) [] []) (outside (Some x.told) [] []) (Ok u) s x.offers x.now x.count topology.sound s.whole in
      let all : take s.made hosted ≡ hosted = all_of hosted s.made s.whole in
      let first : List ℕ → List Report = λ bs. flat_map (start_lines t n) bs in
      let text : said_text true lines ≡ said_lines t (first hosted) ++ said_lines t (ordered (fed (orders_of t) (first hosted))) =
      said_all t hosted topology keeps n' lines lanes (Ok u) x tt u refl
      ∙ (ap (λ (os : List Order). said_lines t (first (take s.made hosted)) ++ said_lines t (ordered os)) s.heard
      ∙ ap (λ (bs : List ℕ). said_lines t (first bs) ++ said_lines t (ordered (fed (orders_of t) (first bs)))) all) in
      start_cut t hosted are steps turns posts keeps journal journal' taken taken' lanes lanes' e no_post sent others kept hosted [] n o unknown
      (settled_front t hosted are steps n o taken taken' opening_said (ap (λ (xs : List ℕ). process_text t hosted ++ xs) text) front)

  -- nothing is known of it
  opened_unknown : (IsExact {T = Unit {0}} (Err e) → ⊥) → taken' ≡ taken → Traced
  opened_unknown unknown same =
      start_cut t hosted are steps turns posts keeps journal journal' taken taken' lanes lanes' e no_post sent others kept
      [] hosted (none_started t) (none_opened t hosted (none_started t) topology.sound refl) unknown (front-nothing taken taken' _ same)

  by_front : (IsExact {T = Unit {0}} (Err e) → ⊥) → (done : Answer) → (IsExact done → Begun done) → (taken' ≡ taken) ⊎ (IsExact done × TakesFront taken taken' opening_said) → Traced
  by_front unknown done opens (inl same) = opened_unknown unknown same
  by_front unknown (Ok u) opens (inr part) = opened_whole unknown u (opens tt) part.1
  by_front unknown (Err f) opens (inr part) = opened_cut unknown f part.0 (opens part.0) part.1

  pub opening_failed : (done : Answer) → (IsExact {T = Unit {0}} (Err e) → ◌≡◌ {A = Answer} (Err e) done) → (IsExact done → Begun done) → (IsExact {T = Unit {0}} (Err e) → taken' ≡ with_more taken opening_said)
      → (taken' ≡ taken) ⊎ (IsExact done × TakesFront taken taken' opening_said) → Traced
  opening_failed done same opens wrote front = elim (exact_or {T = Unit {0}} (Err e)) [
    | inl exact ↦ opened_refused exact (subst Begun (sym (same exact)) (opens (subst (λ (r : Answer). IsExact r) (same exact) exact))) (wrote exact)
    | inr unknown ↦ by_front unknown done opens front
  ]

-- A binding failed, or there was no memory for it

module _ (t : TopologyView) (hosted : List ℕ) (are : AreHosted t hosted) (n : NodeView) (o : IsOpened t hosted [] hosted n) (steps : List Line) (turns : ℕ) (posts keeps : Type 0)
    (journal journal' : List Entry) (taken : Option (List ℕ)) (lanes : ℕ → Lane) (ks : List ℕ) (next : ℕ) (more : List ℕ) (all : ks ++ (next ∷ more) ≡ nodes t hosted) where
  abbrev all_left : List Act
  all_left = map starts hosted ++ (run_acts (net_of t) hosted steps [] false ++ shows ∷ [])

  abbrev bound_so_far : List Act
  bound_so_far = map binds ks

  abbrev unbound : List Act
  unbound = map binds (next ∷ more) ++ all_left

  bound_parts : bound_so_far ++ unbound ≡ plan t hosted steps [] false
  unfolding plan
  bound_parts =
      sym (append_assoc bound_so_far (map binds (next ∷ more)) all_left)
      ∙ ap (λ (xs : List Act). xs ++ all_left) (sym (map-append binds ks (next ∷ more)) ∙ ap (map binds) all)

  their_entries : all_entries t hosted (before t hosted are [] hosted n o) bound_so_far ≡ map (bound_entry t hosted) ks
  their_entries = binds_entries t hosted ks (before t hosted are [] hosted n o)

  post_refused : (e : RunFault) → ◌≡◌ {A = Answer} (Err run.Post) (Err e) → IsRefused t e unbound
  post_refused run.Post is = inl refl
  post_refused run.Memory is = tt
  post_refused run.Write is = tt
  post_refused run.Disk is = cc
  post_refused (run.Damaged p at) is = cc

  not_over : (unbound ≡ []) ⊎ (unbound ≡ shows ∷ []) → ⊥
  not_over (inl h) = cc
  not_over (inr h) = cc

  pub traced_unbound : (e : RunFault) → IsPostFault e → (posts → journal' ≡ journal ++ (map (bound_entry t hosted) ks ++ fault_entries {T = Unit {0}} (Err e)))
      → RunTraced {T = Unit {0}} t hosted steps turns posts keeps journal journal' taken taken lanes lanes (Err e)
  traced_unbound run.Post cause sent =
      traced_carried (Unit {0}) t hosted steps turns posts keeps journal journal' taken taken lanes lanes (Err run.Post) (logs t hosted are [] hosted n o) (many t hosted are [] hosted n o) (were_opened t hosted are [] hosted n o) [] false (omega arith) tt
      bound_so_far unbound bound_parts tt tt tt post_refused
      (λ h. sent h ∙ ap (λ (xs : List Entry). journal ++ (xs ++ entry.failed ∷ [])) (sym their_entries))
      (more_none taken) tt
      (λ h. record {
        found = λ p below here is. absurd (false≢true (sym (none_bound (host_of t p) ks) ∙ is));
        kept = λ known end. absurd (not_over end);
        since = λ k lt. absurd (omega (arith, lt));
        along = λ p below here. ([], refl);
        damaged = λ p at is. cc;
        others = λ lane here. refl;
      })
  traced_unbound run.Memory cause sent =
      traced_cut (Unit {0}) t hosted steps turns posts keeps journal journal' taken taken lanes lanes (Err run.Memory) (logs t hosted are [] hosted n o) (many t hosted are [] hosted n o) (were_opened t hosted are [] hosted n o) [] false (omega arith) tt
      bound_so_far unbound bound_parts (λ exact. exact) (front-nothing taken taken _ refl)
      (λ h. record {
        part = map (bound_entry t hosted) ks;
        rest = [];
        whole = their_entries ∙ sym (append-nil (map (bound_entry t hosted) ks));
        are = sent h ∙ ap (λ (xs : List Entry). journal ++ xs) (append-nil (map (bound_entry t hosted) ks));
      })
      (λ h k lt. absurd (omega (arith, lt))) (λ h p below here. ([], refl)) (λ h lane here. refl)
  traced_unbound run.Write cause sent = absurd cause
  traced_unbound run.Disk cause sent = absurd cause
  traced_unbound (run.Damaged p at) cause sent = absurd cause

-- the first that is left is the one whose binding failed
pub traced_bound : {U : Type 0} (t : TopologyView) (hosted : List ℕ) → AreHosted t hosted → IsTopology t → (steps : List Line) (turns : ℕ) (posts keeps : Type 0)
    (journal journal' : List Entry) (taken : Option (List ℕ)) (lanes : ℕ → Lane) (e : RunFault) → IsPostFault e → Bound {T = U} t hosted posts (nodes t hosted) journal journal' (Err e)
    → RunTraced {T = Unit {0}} t hosted steps turns posts keeps journal journal' taken taken lanes lanes (Err e)
traced_bound {U} t hosted are topology steps turns posts keeps journal journal' taken lanes e cause b =
    let short = b.short in
    traced_unbound t hosted are (none_started t) (none_opened t hosted (none_started t) topology.sound refl) steps turns posts keeps journal journal' taken lanes b.bound short.0 short.1.0 (ap (λ (xs : List ℕ). b.bound ++ xs) (sym short.1.1) ∙ b.parts) e cause
    (λ h. b.put h ∙ ap (λ (xs : List Entry). journal ++ (map (bound_entry t hosted) b.bound ++ xs)) (same_entries U (Unit {0}) e))

-- The course of a run with all that is said of it
pub with_course : (t : TopologyView) (hosted : List ℕ) (steps : List Line) (turns : ℕ) (posts keeps : Type 0) (journal journal' : List Entry) (taken taken' : Option (List ℕ)) (lanes lanes' : ℕ → Lane) (r : Answer)
    → RunTraced {T = Unit {0}} t hosted steps turns posts keeps journal journal' taken taken' lanes lanes' r
    → (c : Course) × (IsRunOf {T = Unit {0}} t hosted steps turns c r × ((posts → Posts {T = Unit {0}} t hosted steps c journal journal' r)
    × (Traces {T = Unit {0}} t hosted steps c taken taken' r × (keeps → KeepsLogs {T = Unit {0}} t hosted steps c lanes lanes' r))))
with_course t hosted steps turns posts keeps journal journal' taken taken' lanes lanes' r s = (s.course, (s.run, (s.posted, (s.traces, s.kept))))
