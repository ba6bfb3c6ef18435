-- The course of a run: where it is known what was done, and where it is not. What was made of the plan tells the first of the machine's
-- lines and those of one order, and puts its first entries
use Rattle.std.proofs.Common.{◌≡◌, ◌⊎◌, inl, inr, ℕ, ◌<◌, ◌≤◌, Bool, true, false, ◌||◌, List, [], ◌∷◌, ◌++◌, length, map, take, drop, get_or, Option, Result, Ok, Err, OnOk, flat_map, refl, sym, ap, ap₂, ◌∙◌, subst, arith, append_assoc, append-nil, take-append-drop, take_all, eq-eqb}
use Rattle.std.specs.Prelude.{IsSome, nat_eq}
use Rattle.std.specs.List.{AllByRecursion, list_any}
use Rattle.std.proofs.lemmas.Bool.{cases_eq, ne_eqb, false≢true, or_left}
use Rattle.std.proofs.lemmas.List.{map-append}
use Rattle.std.proofs.lemmas.List.Folds.{list_any-append}
use Rattle.gr_out.specs.declared.fault.RunFault.{RunFault}
use Rattle.gr_out.specs.declared.fault.RunFault.TheVariants as run
use Rattle.gr_out.specs.Bytes.{with_more}
use Rattle.gr_out.specs.Entry.{Entry}
use Rattle.gr_out.specs.Journal.{is_among}
use Rattle.gr_out.specs.Lane.{Lane}
use Rattle.gr_out.specs.Page.{TakesBut, TakesFront}
use Rattle.gr_out.proofs.Fronts.{front-more}
use Rattle.gr_publog.specs.Views.{lanes_at}
use Rattle.gr_sched.specs.declared.step.Line.{Line}
use Rattle.gr_topo.specs.Topology.{TopologyView, IsSound, host_of}
use Rattle.gr_model.specs.declared.report.Report.{Report}
use Rattle.gr_model.specs.Net.{Net}
use Rattle.gr_model.specs.NetOf.{net_of}
use Rattle.gr_model.specs.Broker.{Log, empty_log}
use Rattle.gr_model.specs.World.{World, Transition, followed_by, in_turn}
use Rattle.gr_model.specs.Opening.{over_logs}
use Rattle.gr_model.specs.Arrivals.{Arrival, served}
use Rattle.gr_model.specs.Orders.{Order, fed, orders_of, with_orders}
use Rattle.gr_model_theorems.specs.Forgets.{AllOpened}
use Rattle.gr_model_theorems.specs.Served.{joined, IsOfBytes}
use Rattle.gr_model_calls.proofs.runs.Schedules.{length_numbers}
use Rattle.gr_node.specs.Seen.{NodeView, broker_in, none_started, log_here, text_of}
use Rattle.gr_node.specs.Of.{AreHosted, Hosts, OthersStay}
use Rattle.gr_node.specs.Plan.{Act, binds, starts, shows, ours, bound_entry, act, told_by_acts, run_acts, nodes, plan, all_entries}
use Rattle.gr_node.specs.Went.{Outside, outside, IsExact, fault_entries, Begins}
use Rattle.gr_broker.specs.Lanes.{log_lane}
use Rattle.gr_node.specs.Starting.{Started, HasStarted, Found, OpensAsLog, start_lines}
use Rattle.gr_node.specs.Served.{Course, is_start, IsRefused, LogsLast, RunsAlong, KeepsLogs}
use Rattle.gr_node.specs.Ending.{Serves}
use Rattle.gr_node.proofs.Moving.{IsNode}
use Rattle.gr_node.proofs.Opening.{opened_is, logs_found, logs_opened, logs_read, binds_nothing, binds_entries, starts_entries, in_turn_append, all_entries_append}
use Rattle.gr_node.proofs.ToldOrders.{plan_told, told_front, begun_told}
use Rattle.gr_node.proofs.StartingNodes.{none_begun}
use Rattle.gr_node.proofs.Ended.{text_append, on_err}

-- where it is not known what was done, the answer is a fault, and nothing is said of what it refused
unknown_ok : {T : Type 0} (P : Type 0) (q : Result T RunFault) → (IsExact q → ⊥) → OnOk q P
unknown_ok P (Ok x) h = absurd (h tt)
unknown_ok P (Err e) h = tt

unknown_refused : (T : Type 0) (t : TopologyView) (e : RunFault) (left : List Act) → (IsExact {T = T} (Err e) → ⊥) → IsRefused t e left
unknown_refused T t run.Memory left h = tt
unknown_refused T t run.Write left h = tt
unknown_refused T t run.Disk left h = absurd (h tt)
unknown_refused T t (run.Damaged p at) left h = absurd (h tt)
unknown_refused T t run.Post left h = absurd (h tt)

-- all but nothing was taken
pub but_all_taken : (old new : Option (List ℕ)) (text : List ℕ) → TakesBut old new text [] → new ≡ with_more old text
but_all_taken old new text b = b.taken ∙ ap (with_more old) (sym (append-nil b.part) ∙ sym b.whole)

-- The course of a run over these logs, with what came

module _ (T : Type 0) (t : TopologyView) (hosted : List ℕ) (steps : List Line) (turns : ℕ) (posts keeps : Type 0) (journal journal' : List Entry) (taken taken' : Option (List ℕ)) (lanes lanes' : ℕ → Lane)
    (r : Result T RunFault) (logs : List Log) (count : length logs ≡ length t.publishers) (were : AllOpened t.late logs) (came : List Arrival) (closed : Bool) (within : length came ≤ turns) (bytes : AllByRecursion IsOfBytes came) where
  abbrev first : World
  first = over_logs (net_of t) logs

  abbrev ends : List Act → Transition
  ends acts = in_turn (act (net_of t) hosted) acts first

  -- what acts tell
  abbrev tells : List Act → List Report
  tells acts = told_by_acts (net_of t) hosted first (orders_of t) acts

  abbrev whole_text : List ℕ
  whole_text = text_of t (joined (with_orders (orders_of t) (served (net_of t) hosted logs steps (ours hosted came))))

  abbrev all_acts : List Act
  all_acts = plan t hosted steps came closed

  abbrev course : List Act → List Act → Course
  course made left = record { logs = logs; came = came; closed = closed; made = made; left = left }

  module _ (made left : List Act) (parts : made ++ left ≡ all_acts) where
    -- what was made tells a front of what is served
    text_whole : (rest : List ℕ) × (whole_text ≡ text_of t (tells made) ++ rest)
    text_whole =
        let front = told_front t hosted steps came closed logs (orders_of t) made left parts in
        (text_of t front.0, ap (text_of t) front.1 ∙ text_append t (tells made) front.0)

    front_whole : TakesFront taken taken' (text_of t (tells made)) → TakesFront taken taken' whole_text
    front_whole f =
        let rest = text_whole in
        subst (TakesFront taken taken') (sym rest.1) (front-more taken taken' (text_of t (tells made)) rest.0 f)

    -- and puts a front of the plan's entries
    begins_whole : Begins journal journal' (all_entries t hosted first made) → Begins journal journal' (all_entries t hosted first all_acts)
    begins_whole b =
        let u : Transition = ends made in
        let rest : List Entry = all_entries t hosted u.world left in
        record {
          part = b.part;
          rest = b.rest ++ rest;
          whole = ap (all_entries t hosted first) (sym parts) ∙ (all_entries_append t hosted first made left
              ∙ (ap (λ xs. xs ++ rest) b.whole ∙ append_assoc b.part b.rest rest));
          are = b.are;
        }

    -- all was made
    text_all : left ≡ [] → text_of t (tells made) ≡ whole_text
    text_all none =
        ap (λ acts. text_of t (tells acts)) (sym (append-nil made) ∙ (ap (λ xs. made ++ xs) (sym none) ∙ parts))
        ∙ ap (text_of t) (plan_told t hosted steps came closed logs (orders_of t))

    reported : (q : Result T RunFault) → taken' ≡ with_more taken (text_of t (tells made)) → OnOk q (left ≡ []) → OnOk q (taken' ≡ with_more taken whole_text)
    reported (Ok x) told none = told ∙ ap (with_more taken) (text_all none)
    reported (Err e) told none = tt

    -- It is known what was done
    pub carried : IsExact r → OnOk r (left ≡ []) → OnOk r ((closed ≡ true) ⊎ (length came ≡ turns)) → ((e : RunFault) → r ≡ Err e → IsRefused t e left)
        → (posts → journal' ≡ journal ++ (all_entries t hosted first made ++ fault_entries r)) → taken' ≡ with_more taken (text_of t (tells made))
        → (keeps → KeepsLogs {T = T} t hosted steps (course made left) lanes lanes' r)
        → Serves {T = T} t hosted steps turns posts keeps journal journal' taken taken' lanes lanes' r
    carried exact whole ended refused sent told kept = record {
      course = course made left;
      run = record { acts = parts; count = count; opened = were; within = within; bytes = bytes; whole = whole; ended = ended; refused = refused };
      posted = λ h. record { exact = λ _. sent h; front = λ unknown. absurd (unknown exact) };
      printed = record {
        report = reported r told whole;
        front = on_err r (front_whole (record { part = text_of t (tells made); rest = []; whole = sym (append-nil (text_of t (tells made))); taken = told }));
        refused = on_err r (λ _. told);
      };
      kept = kept;
    }

    -- It is not: these acts tell and put a front, and no more is said
    pub cut : (IsExact r → ⊥) → TakesFront taken taken' (text_of t (tells made)) → (posts → Begins journal journal' (all_entries t hosted first made))
        → (keeps → LogsLast t hosted steps (course [] all_acts) lanes') → (keeps → RunsAlong t hosted steps (course [] all_acts) lanes lanes') → (keeps → OthersStay t hosted lanes lanes')
        → Serves {T = T} t hosted steps turns posts keeps journal journal' taken taken' lanes lanes' r
    cut unknown front begins since along others = record {
      course = course [] all_acts;
      run = record {
        acts = refl;
        count = count;
        opened = were;
        within = within;
        bytes = bytes;
        whole = unknown_ok _ r unknown;
        ended = unknown_ok _ r unknown;
        refused = λ e is. unknown_refused T t e all_acts (λ exact. unknown (subst (λ q. IsExact q) (sym is) exact));
      };
      posted = λ h. record { exact = λ exact. absurd (unknown exact); front = λ _. begins_whole (begins h) };
      printed = record {
        report = unknown_ok _ r unknown;
        front = on_err r (front_whole front);
        refused = on_err r (λ exact. absurd (unknown exact));
      };
      kept = λ h. record {
        found = λ p below here is. absurd (false≢true is);
        kept = λ exact. absurd (unknown exact);
        since = since h;
        along = along h;
        damaged = λ p at is. absurd (unknown (subst (λ q. IsExact q) (sym is) tt));
        others = others h;
      };
    }

-- A node of which so many brokers have started

pub record IsOpened (t : TopologyView) (hosted bs rest : List ℕ) (n : NodeView) : Type 0 where
  pub parts : bs ++ rest ≡ hosted
  pub hosts : Hosts bs n
  pub each : AllByRecursion (HasStarted t n) bs
  pub offers : n.offers ≡ 0
  pub now : n.now ≡ 0
  pub count : length n.brokers ≡ length t.brokers
  pub sound : IsSound t

-- none yet
pub none_opened : (t : TopologyView) (hosted : List ℕ) (n : NodeView) → IsSound t → n ≡ none_started t → IsOpened t hosted [] hosted n
none_opened t hosted n sound e =
    let none = none_begun t n e in
    record { parts = refl; hosts = none.hosts; each = tt; offers = none.offers; now = none.now; count = none.count; sound = sound }

module _ (T : Type 0) (t : TopologyView) (hosted : List ℕ) (n : NodeView) (o u : Outside) (r : Result T RunFault) (s : Started {T = T} t hosted n o u r)
    (offers : n.offers ≡ 0) (now : n.now ≡ 0) (count : length n.brokers ≡ length t.brokers) (sound : IsSound t) where
  -- those that have
  pub some_opened : IsOpened t hosted (take s.made hosted) (drop s.made hosted) n
  some_opened = record { parts = take-append-drop s.made hosted; hosts = s.hosts; each = s.each; offers = offers; now = now; count = count; sound = sound }

  -- and all
  pub all_opened : s.made ≡ length hosted → IsOpened t hosted hosted [] n
  all_opened e =
      let all : take s.made hosted ≡ hosted = take_all s.made hosted (omega (arith, e)) in
      record {
        parts = append-nil hosted;
        hosts = subst (λ bs. Hosts bs n) all s.hosts;
        each = subst (λ bs. AllByRecursion (HasStarted t n) bs) all s.each;
        offers = offers;
        now = now;
        count = count;
        sound = sound;
      }

pub all_of : (xs : List ℕ) (k : ℕ) → k ≡ length xs → take k xs ≡ xs
all_of xs k e = take_all k xs (omega (arith, e))

-- what they told was taken, where it is known
pub told_opening : (T : Type 0) (t : TopologyView) (hosted : List ℕ) (n : NodeView) (taken taken' : Option (List ℕ)) (held : List ℕ) (r : Result T RunFault)
    (s : Started {T = T} t hosted n (outside taken held []) (outside taken' [] []) r) → held ≡ [] → IsExact r
    → taken' ≡ with_more taken (text_of t (flat_map (start_lines t n) (take s.made hosted)))
told_opening T t hosted n taken taken' held r s none exact =
    let text : List ℕ = text_of t (flat_map (start_lines t n) (take s.made hosted)) in
    but_all_taken taken taken' (held ++ text) (s.told exact) ∙ ap (λ h. with_more taken (h ++ text)) none

-- and after a fault a front of it
pub front_opening : (T : Type 0) (t : TopologyView) (hosted : List ℕ) (n : NodeView) (taken taken' : Option (List ℕ)) (held : List ℕ) (e : RunFault)
    (s : Started {T = T} t hosted n (outside taken held []) (outside taken' [] []) (Err e)) → held ≡ []
    → TakesFront taken taken' (text_of t (flat_map (start_lines t n) (take s.made hosted)))
front_opening T t hosted n taken taken' held e s none =
    subst (λ h. TakesFront taken taken' (h ++ text_of t (flat_map (start_lines t n) (take s.made hosted)))) none s.front

-- Who has started

pub none_bound : (b : ℕ) (ks : List ℕ) → list_any (is_start b) (map binds ks) ≡ false
none_bound b [] = refl
none_bound b (k ∷ ks) = none_bound b ks

same_either : (b c : ℕ) → nat_eq b c ≡ nat_eq c b
same_either b c = elim (cases_eq b c) [
  | inl e ↦ eq-eqb b c e ∙ sym (eq-eqb c b (sym e))
  | inr ne ↦ ne_eqb b c ne ∙ sym (ne_eqb c b (λ e. ne (sym e)))
]

is_started : (b : ℕ) (cs : List ℕ) → list_any (is_start b) (map starts cs) ≡ is_among cs b
is_started b [] = refl
is_started b (c ∷ cs) = ap₂ (λ x y. x || y) (same_either b c) (is_started b cs)

-- What the machine does up to there, and then

module _ (t : TopologyView) (hosted : List ℕ) (are : AreHosted t hosted) (bs rest : List ℕ) (n : NodeView) (o : IsOpened t hosted bs rest n) where
  abbrev net : Net
  net = net_of t

  abbrev pub logs : List Log
  logs = logs_found t n

  abbrev pub before : World
  before = over_logs net logs

  abbrev pub bindings : List Act
  bindings = map binds (nodes t hosted)

  abbrev pub bounds : List Entry
  bounds = map (bound_entry t hosted) (nodes t hosted)

  abbrev pub started : Transition
  started = in_turn (act net hosted) (map starts bs) before

  abbrev pub begun : List Act → List Act
  begun more = bindings ++ (map starts bs ++ more)

  pub opened : (started.lines ≡ flat_map (start_lines t n) bs) × IsNode t n started.world
  opened = opened_is t hosted bs rest n o.parts are o.each o.hosts o.offers o.now o.count

  pub many : length logs ≡ length t.publishers
  many = length_numbers (log_here t n) 0 (length t.publishers)

  pub were_opened : AllOpened t.late logs
  were_opened = logs_opened t bs n o.each o.hosts (let sound = o.sound in omega (arith, sound.limits.late))

  pub turn_behind : (more : List Act) → in_turn (act net hosted) (begun more) before ≡ followed_by started (in_turn (act net hosted) more)
  turn_behind more =
      let later : World → Transition = in_turn (act net hosted) (map starts bs ++ more) in
      in_turn_append (act net hosted) bindings (map starts bs ++ more) before
      ∙ (ap (λ (s : Transition). followed_by s later) (binds_nothing net hosted (nodes t hosted) before)
      ∙ in_turn_append (act net hosted) (map starts bs) more before)

  -- what was heard in one order, once these have started
  abbrev pub heard : List Order
  heard = fed (orders_of t) (flat_map (start_lines t n) bs)

  begun_same : (in_turn (act net hosted) (bindings ++ map starts bs) before) ≡ started
  begun_same =
      in_turn_append (act net hosted) bindings (map starts bs) before
      ∙ ap (λ (s : Transition). followed_by s (in_turn (act net hosted) (map starts bs))) (binds_nothing net hosted (nodes t hosted) before)

  pub told_behind : (more : List Act) → told_by_acts net hosted before (orders_of t) (begun more)
      ≡ flat_map (start_lines t n) bs ++ told_by_acts net hosted started.world heard more
  told_behind more =
      ap (told_by_acts net hosted before (orders_of t)) (sym (append_assoc bindings (map starts bs) more))
      ∙ (begun_told net hosted (nodes t hosted) bs before (orders_of t) more
      ∙ (ap (λ (s : Transition). s.lines ++ told_by_acts net hosted s.world (fed (orders_of t) s.lines) more) begun_same
      ∙ ap (λ (ls : List Report). ls ++ told_by_acts net hosted started.world (fed (orders_of t) ls) more) opened.0))

  pub text_behind : (more : List Act) → text_of t (told_by_acts net hosted before (orders_of t) (begun more))
      ≡ text_of t (flat_map (start_lines t n) bs) ++ text_of t (told_by_acts net hosted started.world heard more)
  text_behind more =
      ap (text_of t) (told_behind more) ∙ text_append t (flat_map (start_lines t n) bs) (told_by_acts net hosted started.world heard more)

  pub entries_behind : (more : List Act) → all_entries t hosted before (begun more) ≡ bounds ++ all_entries t hosted started.world more
  entries_behind more =
      let later : List Act = map starts bs ++ more in
      all_entries_append t hosted before bindings later
      ∙ ap₂ (λ (xs ys : List Entry). xs ++ ys) (binds_entries t hosted (nodes t hosted) before)
      (ap (λ (s : Transition). all_entries t hosted s.world later) (binds_nothing net hosted (nodes t hosted) before)
      ∙ (all_entries_append t hosted before (map starts bs) more
      ∙ ap (λ es. es ++ all_entries t hosted started.world more) (starts_entries t hosted bs before)))

  -- the plan, once these have started
  pub plan_behind : (steps : List Line) (came : List Arrival) (closed : Bool) (made left : List Act)
      → made ++ left ≡ map starts rest ++ (run_acts net hosted steps came closed ++ shows ∷ [])
      → begun made ++ left ≡ plan t hosted steps came closed
  unfolding plan
  plan_behind steps came closed made left e =
      let tail : List Act = run_acts net hosted steps came closed ++ shows ∷ [] in
      append_assoc bindings (map starts bs ++ made) left
      ∙ ap (λ acts. bindings ++ acts)
      (append_assoc (map starts bs) made left ∙ (ap (λ acts. map starts bs ++ acts) e
      ∙ (sym (append_assoc (map starts bs) (map starts rest) tail)
      ∙ ap (λ acts. acts ++ tail) (sym (map-append starts bs rest) ∙ ap (map starts) o.parts))))

  -- where a broker's start was made, it is among those that have
  pub started_made : (b : ℕ) → list_any (is_start b) (begun []) ≡ true → is_among bs b ≡ true
  started_made b e =
      sym (is_started b bs)
      ∙ (ap (list_any (is_start b)) (sym (append-nil (map starts bs)))
      ∙ (ap (λ x. x || list_any (is_start b) (map starts bs ++ [])) (sym (none_bound b (nodes t hosted)))
      ∙ (sym (list_any-append (is_start b) bindings (map starts bs ++ [])) ∙ e)))

  -- what was found on the lanes of one that has
  pub found_here : (lanes : ℕ → Lane) → ((b : ℕ) → IsSome (broker_in n b) → Found t n (b ∷ []) lanes) → (p : ℕ) → p < length t.publishers → is_among bs (host_of t p) ≡ true
      → OpensAsLog t.late (log_lane p) (lanes_at lanes (log_lane p)) (get_or logs p empty_log)
  found_here lanes found p below here =
      subst (λ (l : Log). OpensAsLog t.late (log_lane p) (lanes_at lanes (log_lane p)) l) (sym (logs_read t n p below))
      (found (host_of t p) (o.hosts (host_of t p) ∙ here) p below (or_left (nat_eq (host_of t p) (host_of t p)) false (eq-eqb (host_of t p) (host_of t p) refl)))
