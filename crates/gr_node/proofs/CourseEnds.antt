-- The course of each way in which a run may end: a binding failed, a start was refused, or it was run. What its parts did at the node
-- is what the machine does, and what they tell are the machine's lines and those of one order
use Rattle.std.proofs.Common.{◌≡◌, ◌≢◌, ◌⊎◌, inl, inr, ℕ, ◌+◌, false, List, [], ◌∷◌, ◌++◌, map, drop, get_or, Option, Result, Ok, Err, flat_map, refl, sym, ap, ◌∙◌, subst, arith, append_assoc, append-nil, eq-eqb}
use Rattle.std.specs.Prelude.{IsSome}
use Rattle.std.specs.List.{AllByRecursion}
use Rattle.std.proofs.lemmas.Bool.{false≢true}
use Rattle.std.proofs.lemmas.List.{map-append, drop_more}
use Rattle.gr_out.specs.declared.fault.RunFault.{RunFault}
use Rattle.gr_out.specs.declared.fault.RunFault.TheVariants as run
use Rattle.gr_out.specs.Bytes.{with_more}
use Rattle.gr_out.specs.Entry.{Entry}
use Rattle.gr_out.specs.Entry as entry
use Rattle.gr_out.specs.Lane.{Lane}
use Rattle.gr_out.specs.Page.{TakesFront}
use Rattle.gr_out.proofs.Fronts.{with_more-twice, with_more-nil, front-nothing, front-later, but-all}
use Rattle.gr_publog.specs.Views.{lanes_at, StandsRead}
use Rattle.gr_sched.specs.declared.step.Line.{Line}
use Rattle.gr_scenario.specs.Steps.{AreStepsOf}
use Rattle.gr_topo.specs.Topology.{TopologyView, IsSound, host_of}
use Rattle.gr_model.specs.NetOf.{net_of}
use Rattle.gr_model.specs.World.{World, Transition}
use Rattle.gr_model.specs.Orders.{fed, orders_of}
use Rattle.gr_broker.specs.Lanes.{log_lane}
use Rattle.gr_report.proofs.Passing.{PassesLog, PassesRest}
use Rattle.gr_node.specs.Seen.{NodeView, broker_in, none_started, text_of}
use Rattle.gr_node.specs.Of.{AreHosted, IsSet, AllStand, OthersStay}
use Rattle.gr_node.specs.Lasting.{IsFound, StartsKeep}
use Rattle.gr_node.specs.Plan.{Act, binds, starts, shows, bound_entry, told_by_acts, run_acts, nodes, plan, all_entries}
use Rattle.gr_node.specs.Done.{all_done}
use Rattle.gr_node.specs.Went.{Outside, outside, IsExact, IsPostFault, Bound, fault_entries, uses_disk, FirstIs}
use Rattle.gr_node.specs.Starting.{Started, Found, IsFirstDamaged, start_lines}
use Rattle.gr_node.specs.Served.{Course, is_start, IsRefused, IsRunOf, Posts, Prints, IsOfRun, RunsAlong, KeepsLogs}
use Rattle.gr_node.specs.Ending.{IsEnd, Ran, RanWith, Serves}
use Rattle.gr_node.proofs.Moving.{IsActOf, Moved}
use Rattle.gr_node.proofs.Opening.{binds_nothing, binds_entries}
use Rattle.gr_node.proofs.ToldOrders.{lines_told, plain_binds}
use Rattle.gr_node.proofs.BoundNodes.{made_all}
use Rattle.gr_node.proofs.Lasting.{along_as, starts_same}
use Rattle.gr_node.proofs.Acting.{all_front}
use Rattle.gr_node.proofs.Ended.{exact_or}
use Rattle.gr_node.proofs.CourseLogs.{acts_behind, moved_behind, log_stands, logs_last, runs_along}
use Rattle.gr_node.proofs.Courses.{but_all_taken, carried, cut, IsOpened, none_opened, none_bound, logs, before, bounds, started, begun, many, were_opened, text_behind, entries_behind, plan_behind, started_made, found_here}

-- What a fault puts does not depend on what was to be answered
same_entries : (T U : Type 0) (e : RunFault) → fault_entries {T = T} (Err e) ≡ fault_entries {T = U} (Err e)
same_entries T U run.Memory = refl
same_entries T U run.Write = refl
same_entries T U run.Disk = refl
same_entries T U (run.Damaged p at) = refl
same_entries T U run.Post = refl

-- A fault that is none of the post puts no entry
no_failed : (T : Type 0) (e : RunFault) → ◌≢◌ {A = Result T RunFault} (Err e) (Err run.Post) → fault_entries {T = T} (Err e) ≡ []
no_failed T run.Memory h = refl
no_failed T run.Write h = refl
no_failed T run.Disk h = refl
no_failed T (run.Damaged p at) h = refl
no_failed T run.Post h = absurd (h refl)

-- The next to start
pub record IsNextOf (T : Type 0) (t : TopologyView) (rest : List ℕ) (e : RunFault) : Type 0 where
  pub next : ℕ
  pub more : List ℕ
  pub are : rest ≡ next ∷ more
  pub damaged : (p at : ℕ) → ◌≡◌ {A = Result T RunFault} (Err e) (Err (run.Damaged p at)) → next ≡ host_of t p

pub next_of : {T : Type 0} (t : TopologyView) (hosted : List ℕ) (n : NodeView) (o u : Outside) (e : RunFault) (s : Started {T = T} t hosted n o u (Err e))
    → IsExact {T = T} (Err e) → IsNextOf T t (drop s.made hosted) e
next_of t hosted n o u e s exact = record {
  next = get_or hosted s.made 0;
  more = drop (s.made + 1) hosted;
  are = drop_more hosted s.made 0 (s.short exact);
  damaged = s.damaged_next;
}

-- where nothing but starts was made, the lanes hold what was found
found_along : (t : TopologyView) (hosted : List ℕ) (steps : List Line) (c : Course) (lanes lanes' : ℕ → Lane) → StartsKeep t.late lanes lanes' → RunsAlong t hosted steps c lanes lanes'
found_along t hosted steps c lanes lanes' s p below here =
    let k = s.lanes p in (
      k.0,
      along_as (IsFound t.late (lanes_at lanes (log_lane p))) (IsOfRun t hosted steps c p (lanes_at lanes (log_lane p))) (λ a b f. inl f) (lanes_at lanes (log_lane p)) (lanes_at lanes' (log_lane p)) k.0 k.1,
    )

-- A start was refused, or no memory was left for it
module _ (T : Type 0) (t : TopologyView) (hosted : List ℕ) (are : AreHosted t hosted) (bs rest : List ℕ) (n : NodeView) (o : IsOpened t hosted bs rest n) (steps : List Line) (turns : ℕ) (posts keeps : Type 0)
    (journal journal' : List Entry) (taken taken' : Option (List ℕ)) (lanes lanes' : ℕ → Lane) (e : RunFault) where
  abbrev nothing_came : List Act
  nothing_came = run_acts (net_of t) hosted steps [] false ++ shows ∷ []

  abbrev left : List Act
  left = map starts rest ++ nothing_came

  abbrev made : List Act
  made = begun t hosted are bs rest n o []

  parts : made ++ left ≡ plan t hosted steps [] false
  parts = plan_behind t hosted are bs rest n o steps [] false [] left refl

  text_made : text_of t (told_by_acts (net_of t) hosted (before t hosted are bs rest n o) (orders_of t) made) ≡ text_of t (flat_map (start_lines t n) bs)
  unfolding told_by_acts
  text_made = text_behind t hosted are bs rest n o [] ∙ append-nil (text_of t (flat_map (start_lines t n) bs))

  entries_made : all_entries t hosted (before t hosted are bs rest n o) made ≡ bounds t hosted are bs rest n o
  unfolding all_entries
  entries_made = entries_behind t hosted are bs rest n o [] ∙ append-nil (bounds t hosted are bs rest n o)

  -- a start is left
  not_ended : IsNextOf T t rest e → (left ≡ []) ⊎ (left ≡ shows ∷ []) → ⊥
  not_ended k (inl h) = start_first k.next k.more (subst (λ cs. map starts cs ++ nothing_came ≡ []) k.are h)
    where
      start_first : (b : ℕ) (cs : List ℕ) → map starts (b ∷ cs) ++ nothing_came ≡ [] → ⊥
      start_first b cs h = cc
  not_ended k (inr h) = start_first k.next k.more (subst (λ cs. map starts cs ++ nothing_came ≡ shows ∷ []) k.are h)
    where
      start_first : (b : ℕ) (cs : List ℕ) → map starts (b ∷ cs) ++ nothing_came ≡ shows ∷ [] → ⊥
      start_first b cs h = cc

  refused_by : IsNextOf T t rest e → ◌≢◌ {A = Result T RunFault} (Err e) (Err run.Post) → (f : RunFault) → ◌≡◌ {A = Result T RunFault} (Err e) (Err f) → IsRefused t f left
  refused_by k no_post run.Memory is = tt
  refused_by k no_post run.Write is = tt
  refused_by k no_post run.Disk is = subst (λ cs. FirstIs uses_disk (map starts cs ++ nothing_came)) (sym k.are) refl
  refused_by k no_post (run.Damaged p at) is =
      subst (λ cs. FirstIs (is_start (host_of t p)) (map starts cs ++ nothing_came)) (sym k.are) (eq-eqb (host_of t p) k.next (sym (k.damaged p at is)))
  refused_by k no_post run.Post is = absurd (no_post is)

  pub serves_failed : ◌≢◌ {A = Result T RunFault} (Err e) (Err run.Post) → (IsExact {T = T} (Err e) → IsNextOf T t rest e)
      → (IsExact {T = T} (Err e) → taken' ≡ with_more taken (text_of t (flat_map (start_lines t n) bs)))
      → TakesFront taken taken' (text_of t (flat_map (start_lines t n) bs))
      → (posts → journal' ≡ journal ++ bounds t hosted are bs rest n o)
      → (keeps → (b : ℕ) → IsSome (broker_in n b) → Found t n (b ∷ []) lanes)
      → (keeps → (p at : ℕ) → ◌≡◌ {A = Result T RunFault} (Err e) (Err (run.Damaged p at)) → IsFirstDamaged t hosted p at lanes)
      → (keeps → OthersStay t hosted lanes lanes') → (keeps → StartsKeep t.late lanes lanes')
      → Serves {T = T} t hosted steps turns posts keeps journal journal' taken taken' lanes lanes' (Err e)
  serves_failed no_post next told front sent found damaged others kept = go (exact_or {T = T} (Err e))
    where
      go : IsExact {T = T} (Err e) ⊎ (IsExact {T = T} (Err e) → ⊥) → Serves {T = T} t hosted steps turns posts keeps journal journal' taken taken' lanes lanes' (Err e)
      go (inl exact) =
          carried T t hosted steps turns posts keeps journal journal' taken taken' lanes lanes' (Err e) (logs t hosted are bs rest n o) (many t hosted are bs rest n o) (were_opened t hosted are bs rest n o) [] false (omega arith) tt
          made left parts exact tt tt (refused_by (next exact) no_post)
          (λ h. sent h ∙ ap (λ xs. journal ++ xs) (sym entries_made ∙ (sym (append-nil (all_entries t hosted (before t hosted are bs rest n o) made)) ∙ ap (λ xs. all_entries t hosted (before t hosted are bs rest n o) made ++ xs) (sym (no_failed T e no_post)))))
          (told exact ∙ ap (with_more taken) (sym text_made))
          (λ h. record {
            found = λ p below here is. found_here t hosted are bs rest n o lanes (found h) p below (started_made t hosted are bs rest n o (host_of t p) is);
            kept = λ known end. absurd (not_ended (next exact) end);
            since = λ k lt. absurd (omega (arith, lt));
            along = found_along t hosted steps _ lanes lanes' (kept h);
            damaged = damaged h;
            others = others h;
          })
      go (inr unknown) =
          cut T t hosted steps turns posts keeps journal journal' taken taken' lanes lanes' (Err e) (logs t hosted are bs rest n o) (many t hosted are bs rest n o) (were_opened t hosted are bs rest n o) [] false (omega arith) tt
          made left parts unknown (subst (TakesFront taken taken') (sym text_made) front)
          (λ h. record {
            part = bounds t hosted are bs rest n o;
            rest = [];
            whole = entries_made ∙ sym (append-nil (bounds t hosted are bs rest n o));
            are = sent h;
          })
          (λ h k lt. absurd (omega (arith, lt))) (λ h. found_along t hosted steps _ lanes lanes' (kept h)) others

-- There was no memory for the node, or for the page
pub serves_memory : (T : Type 0) (t : TopologyView) (hosted : List ℕ) (steps : List Line) (turns : ℕ) (posts keeps : Type 0) (journal journal' : List Entry) (taken : Option (List ℕ)) (lanes : ℕ → Lane)
    → AreHosted t hosted → IsSound t → (posts → journal' ≡ journal ++ map (bound_entry t hosted) (nodes t hosted))
    → Serves {T = T} t hosted steps turns posts keeps journal journal' taken taken lanes lanes (Err run.Memory)
serves_memory T t hosted steps turns posts keeps journal journal' taken lanes are sound sent =
    let none = none_opened t hosted (none_started t) sound refl in
    serves_failed T t hosted are [] hosted (none_started t) none steps turns posts keeps journal journal' taken taken lanes lanes run.Memory
    (λ e. cc) (λ exact. absurd exact) (λ exact. absurd exact) (front-nothing taken taken [] refl) sent
    (λ h b some. absurd (false≢true (sym (none.hosts b) ∙ some))) (λ h p at e. cc) (λ h lane here. refl) (λ h. starts_same t.late lanes lanes (λ k. refl))

-- All have started, and it was run
module _ (T : Type 0) (t : TopologyView) (hosted : List ℕ) (are : AreHosted t hosted) (n : NodeView) (o : IsOpened t hosted hosted [] n) (steps : List Line) (steps_are : AreStepsOf t steps) (turns : ℕ) (posts keeps : Type 0)
    (journal mid journal' : List Entry) (taken opening taken' : Option (List ℕ)) (lanes mid_lanes lanes' : ℕ → Lane) (r : Result T RunFault) (n' : NodeView)
    (stands_read : StandsRead) (passes : PassesLog) (passes_rest : PassesRest) (first_heard : n.orders ≡ fed (orders_of t) (flat_map (start_lines t n) hosted))
    (told_first : opening ≡ with_more taken (text_of t (flat_map (start_lines t n) hosted))) (sent_first : posts → mid ≡ journal ++ bounds t hosted are hosted [] n o)
    (w : RanWith {T = T} t hosted posts keeps steps turns n n' (outside opening [] mid) (outside taken' [] journal') mid_lanes lanes' r) where
  abbrev tail : List Act
  tail = run_acts (net_of t) hosted steps w.came w.closed ++ shows ∷ []

  ran : Ran {T = T} t hosted posts tail n n' (outside opening [] mid) (outside taken' [] journal') r
  ran = w.ran

  abbrev start_world : World
  start_world = before t hosted are hosted [] n o

  abbrev opened_world : World
  opened_world = (let s : Transition = started t hosted are hosted [] n o in s.world)

  abbrev start_text : List ℕ
  start_text = text_of t (flat_map (start_lines t n) hosted)

  tail_acts : AllByRecursion (IsActOf t hosted) tail
  tail_acts = acts_behind t hosted are n o steps steps_are w.came w.closed lanes mid_lanes lanes' stands_read passes passes_rest

  moved : (acts : List Act) → AllByRecursion (IsActOf t hosted) acts → Moved t hosted n opened_world acts
  moved acts all = moved_behind t hosted are n o steps steps_are w.came w.closed lanes mid_lanes lanes' stands_read passes passes_rest acts all

  made_acts : AllByRecursion (IsActOf t hosted) ran.made
  made_acts = all_front (IsActOf t hosted) ran.made ran.left (subst (AllByRecursion (IsActOf t hosted)) (sym ran.parts) tail_acts)

  made_moved : Moved t hosted n opened_world ran.made
  made_moved = moved ran.made made_acts

  tail_moved : Moved t hosted n opened_world tail
  tail_moved = moved tail tail_acts

  -- the text of what was done behind the starts
  text_begun : (acts : List Act) → Moved t hosted n opened_world acts
      → start_text ++ text_of t (all_done t hosted n acts).lines ≡ text_of t (told_by_acts (net_of t) hosted start_world (orders_of t) (begun t hosted are hosted [] n o acts))
  text_begun acts m =
      ap (λ ls. start_text ++ text_of t ls) (m.told ∙ ap (λ os. told_by_acts (net_of t) hosted opened_world os acts) first_heard)
      ∙ sym (text_behind t hosted are hosted [] n o acts)

  entries_begun : (acts : List Act) → Moved t hosted n opened_world acts
      → all_entries t hosted start_world (begun t hosted are hosted [] n o acts) ≡ bounds t hosted are hosted [] n o ++ (all_done t hosted n acts).entries
  entries_begun acts m = entries_behind t hosted are hosted [] n o acts ∙ ap (λ xs. bounds t hosted are hosted [] n o ++ xs) (sym m.entries)

  -- where no act is left, or only what is shown, none was refused but by the post
  ended_by : (q : Result T RunFault) → IsExact q → ((e : RunFault) → q ≡ Err e → IsRefused t e ran.left) → (ran.left ≡ []) ⊎ (ran.left ≡ shows ∷ []) → IsEnd q
  ended_by (Ok x) exact refused end = tt
  ended_by (Err run.Memory) exact refused end = exact
  ended_by (Err run.Write) exact refused end = exact
  ended_by (Err run.Post) exact refused end = tt
  ended_by (Err run.Disk) exact refused (inl h) = subst (FirstIs uses_disk) h (refused run.Disk refl)
  ended_by (Err run.Disk) exact refused (inr h) = absurd (false≢true (subst (FirstIs uses_disk) h (refused run.Disk refl)))
  ended_by (Err (run.Damaged p at)) exact refused (inl h) = subst (FirstIs (is_start (host_of t p))) h (refused (run.Damaged p at) refl)
  ended_by (Err (run.Damaged p at)) exact refused (inr h) = absurd (false≢true (subst (FirstIs (is_start (host_of t p))) h (refused (run.Damaged p at) refl)))

  pub serves_ran : (keeps → (b : ℕ) → IsSome (broker_in n b) → Found t n (b ∷ []) lanes) → (IsEnd r → IsSet t hosted n') → (keeps → IsEnd r → AllStand lanes' n')
      → (keeps → OthersStay t hosted lanes lanes') → (keeps → StartsKeep t.late lanes mid_lanes) → ((p at : ℕ) → r ≢ Err (run.Damaged p at))
      → Serves {T = T} t hosted steps turns posts keeps journal journal' taken taken' lanes lanes' r
  serves_ran found set stands others opens undamaged = go (exact_or r)
    where
      go : IsExact r ⊎ (IsExact r → ⊥) → Serves {T = T} t hosted steps turns posts keeps journal journal' taken taken' lanes lanes' r
      go (inl exact) =
          carried T t hosted steps turns posts keeps journal journal' taken taken' lanes lanes' r (logs t hosted are hosted [] n o) (many t hosted are hosted [] n o) (were_opened t hosted are hosted [] n o) w.came w.closed w.within w.bytes
          (begun t hosted are hosted [] n o ran.made) ran.left (plan_behind t hosted are hosted [] n o steps w.came w.closed ran.made ran.left ran.parts) exact ran.whole w.ended ran.refused
          (λ h. ran.sent exact h ∙ (ap (λ xs. xs ++ ((all_done t hosted n ran.made).entries ++ fault_entries r)) (sent_first h)
          ∙ (append_assoc journal (bounds t hosted are hosted [] n o) ((all_done t hosted n ran.made).entries ++ fault_entries r)
          ∙ ap (λ xs. journal ++ xs) (sym (append_assoc (bounds t hosted are hosted [] n o) (all_done t hosted n ran.made).entries (fault_entries r))
          ∙ ap (λ xs. xs ++ fault_entries r) (sym (entries_begun ran.made made_moved))))))
          (but_all_taken opening taken' (text_of t (all_done t hosted n ran.made).lines) (ran.told exact)
          ∙ (ap (λ x. with_more x (text_of t (all_done t hosted n ran.made).lines)) told_first
          ∙ (with_more-twice taken start_text (text_of t (all_done t hosted n ran.made).lines) ∙ ap (with_more taken) (text_begun ran.made made_moved))))
          (λ h. record {
            found = λ p below here is. found_here t hosted are hosted [] n o lanes (found h) p below here;
            since = logs_last t hosted are n o steps steps_are w.came w.closed lanes mid_lanes lanes' stands_read passes passes_rest (begun t hosted are hosted [] n o ran.made) ran.left (w.stood h);
            along = runs_along t hosted are n o steps steps_are w.came w.closed lanes mid_lanes lanes' stands_read passes passes_rest (begun t hosted are hosted [] n o ran.made) ran.left (found h) (opens h) (w.kept h);
            kept = λ known end. let over = ended_by r known ran.refused end in log_stands t hosted are n o steps steps_are w.came w.closed lanes mid_lanes lanes' stands_read passes passes_rest ran.made n' made_acts (ran.node over) (set over) (stands h over);
            damaged = λ p at is. absurd (undamaged p at is);
            others = others h;
          })
      go (inr unknown) =
          cut T t hosted steps turns posts keeps journal journal' taken taken' lanes lanes' r (logs t hosted are hosted [] n o) (many t hosted are hosted [] n o) (were_opened t hosted are hosted [] n o) w.came w.closed w.within w.bytes
          (begun t hosted are hosted [] n o tail) [] (plan_behind t hosted are hosted [] n o steps w.came w.closed tail [] (append-nil tail)) unknown
          (subst (TakesFront taken taken') (text_begun tail tail_moved)
          (front-later taken opening taken' start_text (text_of t (all_done t hosted n tail).lines) [] (but-all taken opening start_text told_first) (ran.told_front unknown)))
          (λ h. let b = ran.sent_front unknown h in record {
            part = bounds t hosted are hosted [] n o ++ b.part;
            rest = b.rest;
            whole = entries_begun tail tail_moved ∙ (ap (λ xs. bounds t hosted are hosted [] n o ++ xs) b.whole ∙ sym (append_assoc (bounds t hosted are hosted [] n o) b.part b.rest));
            are = b.are ∙ (ap (λ xs. xs ++ b.part) (sent_first h) ∙ append_assoc journal (bounds t hosted are hosted [] n o) b.part);
          })
          (λ h. logs_last t hosted are n o steps steps_are w.came w.closed lanes mid_lanes lanes' stands_read passes passes_rest [] (plan t hosted steps w.came w.closed) (w.stood h)) (λ h. runs_along t hosted are n o steps steps_are w.came w.closed lanes mid_lanes lanes' stands_read passes passes_rest [] (plan t hosted steps w.came w.closed) (found h) (opens h) (w.kept h)) others

-- A binding failed, or there was no memory for it

module _ (T : Type 0) (t : TopologyView) (hosted : List ℕ) (are : AreHosted t hosted) (n : NodeView) (o : IsOpened t hosted [] hosted n) (steps : List Line) (turns : ℕ) (posts keeps : Type 0)
    (journal journal' : List Entry) (taken : Option (List ℕ)) (lanes : ℕ → Lane) (ks : List ℕ) (next : ℕ) (more : List ℕ) (all : ks ++ (next ∷ more) ≡ nodes t hosted) where
  abbrev all_left : List Act
  all_left = map starts hosted ++ (run_acts (net_of t) hosted steps [] false ++ shows ∷ [])

  abbrev bound_so_far : List Act
  bound_so_far = map binds ks

  abbrev unbound : List Act
  unbound = map binds (next ∷ more) ++ all_left

  bound_parts : bound_so_far ++ unbound ≡ plan t hosted steps [] false
  unfolding plan
  bound_parts =
      sym (append_assoc bound_so_far (map binds (next ∷ more)) all_left)
      ∙ ap (λ xs. xs ++ all_left) (sym (map-append binds ks (next ∷ more)) ∙ ap (map binds) all)

  abbrev first_world : World
  first_world = before t hosted are [] hosted n o

  no_lines : text_of t (told_by_acts (net_of t) hosted first_world (orders_of t) bound_so_far) ≡ []
  no_lines =
      ap (text_of t) (lines_told (net_of t) hosted first_world (orders_of t) bound_so_far (plain_binds ks))
      ∙ ap (λ (s : Transition). text_of t s.lines) (binds_nothing (net_of t) hosted ks first_world)

  their_entries : all_entries t hosted first_world bound_so_far ≡ map (bound_entry t hosted) ks
  their_entries = binds_entries t hosted ks first_world

  pub serves_unbound : (e : RunFault) → IsPostFault e → (posts → journal' ≡ journal ++ (map (bound_entry t hosted) ks ++ fault_entries {T = T} (Err e)))
      → Serves {T = T} t hosted steps turns posts keeps journal journal' taken taken lanes lanes (Err e)
  serves_unbound run.Post cause sent =
      carried T t hosted steps turns posts keeps journal journal' taken taken lanes lanes (Err run.Post) (logs t hosted are [] hosted n o) (many t hosted are [] hosted n o) (were_opened t hosted are [] hosted n o) [] false (omega arith) tt
      bound_so_far unbound bound_parts tt tt tt post_refused
      (λ h. sent h ∙ ap (λ xs. journal ++ (xs ++ entry.failed ∷ [])) (sym their_entries))
      (sym (with_more-nil taken) ∙ ap (with_more taken) (sym no_lines))
      (λ h. record {
        found = λ p below here is. absurd (false≢true (sym (none_bound (host_of t p) ks) ∙ is));
        kept = λ known end. absurd (not_ended end);
        since = λ k lt. absurd (omega (arith, lt));
        along = λ p below here. ([], refl);
        damaged = λ p at is. cc;
        others = λ lane here. refl;
      })
    where
      post_refused : (e : RunFault) → ◌≡◌ {A = Result T RunFault} (Err run.Post) (Err e) → IsRefused t e unbound
      post_refused run.Post is = inl refl
      post_refused run.Memory is = tt
      post_refused run.Write is = tt
      post_refused run.Disk is = cc
      post_refused (run.Damaged p at) is = cc

      not_ended : (unbound ≡ []) ⊎ (unbound ≡ shows ∷ []) → ⊥
      not_ended (inl h) = cc
      not_ended (inr h) = cc
  serves_unbound run.Memory cause sent =
      cut T t hosted steps turns posts keeps journal journal' taken taken lanes lanes (Err run.Memory) (logs t hosted are [] hosted n o) (many t hosted are [] hosted n o) (were_opened t hosted are [] hosted n o) [] false (omega arith) tt
      bound_so_far unbound bound_parts (λ exact. exact)
      (record { part = []; rest = text_of t (told_by_acts (net_of t) hosted first_world (orders_of t) bound_so_far); whole = refl; taken = sym (with_more-nil taken) })
      (λ h. record {
        part = map (bound_entry t hosted) ks;
        rest = [];
        whole = their_entries ∙ sym (append-nil (map (bound_entry t hosted) ks));
        are = sent h ∙ ap (λ xs. journal ++ xs) (append-nil (map (bound_entry t hosted) ks));
      })
      (λ h k lt. absurd (omega (arith, lt))) (λ h p below here. ([], refl)) (λ h lane here. refl)
  serves_unbound run.Write cause sent = absurd cause
  serves_unbound run.Disk cause sent = absurd cause
  serves_unbound (run.Damaged p at) cause sent = absurd cause

-- the first that is left is the one whose binding failed
pub serves_bound : {T U : Type 0} (t : TopologyView) (hosted : List ℕ) (are : AreHosted t hosted) (n : NodeView) (o : IsOpened t hosted [] hosted n) (steps : List Line) (turns : ℕ) (posts keeps : Type 0)
    (journal journal' : List Entry) (taken : Option (List ℕ)) (lanes : ℕ → Lane) (e : RunFault) → IsPostFault e → Bound {T = U} t hosted posts (nodes t hosted) journal journal' (Err e)
    → Serves {T = T} t hosted steps turns posts keeps journal journal' taken taken lanes lanes (Err e)
serves_bound {T} {U} t hosted are n o steps turns posts keeps journal journal' taken lanes e cause b =
    let short = b.short in
    serves_unbound T t hosted are n o steps turns posts keeps journal journal' taken lanes b.bound short.0 short.1.0 (ap (λ xs. b.bound ++ xs) (sym short.1.1) ∙ b.parts) e cause
    (λ h. b.put h ∙ ap (λ xs. journal ++ (map (bound_entry t hosted) b.bound ++ xs)) (same_entries U T e))

-- The course of a run with all that is said of it
pub with_course : {T : Type 0} (t : TopologyView) (hosted : List ℕ) (steps : List Line) (turns : ℕ) (posts keeps : Type 0) (journal journal' : List Entry) (taken taken' : Option (List ℕ)) (lanes lanes' : ℕ → Lane) (r : Result T RunFault)
    → Serves {T = T} t hosted steps turns posts keeps journal journal' taken taken' lanes lanes' r
    → (c : Course) × (IsRunOf {T = T} t hosted steps turns c r × ((posts → Posts {T = T} t hosted steps c journal journal' r)
    × (Prints {T = T} t hosted steps c taken taken' r × (keeps → KeepsLogs {T = T} t hosted steps c lanes lanes' r))))
with_course t hosted steps turns posts keeps journal journal' taken taken' lanes lanes' r s = (s.course, (s.run, (s.posted, (s.printed, s.kept))))

-- all are bound
pub bound_all : {T : Type 0} (t : TopologyView) (hosted : List ℕ) (tells : Type 0) (journal journal' : List Entry) (x : T) → Bound {T = T} t hosted tells (nodes t hosted) journal journal' (Ok x)
    → tells → journal' ≡ journal ++ map (bound_entry t hosted) (nodes t hosted)
bound_all t hosted tells journal journal' x b h = made_all t hosted tells (nodes t hosted) journal journal' x b h
