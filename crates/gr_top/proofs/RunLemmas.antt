-- What a run of brokers ensures, as the answer that it comes to; and after a run that was carried out each lane held a log, since
-- each broker has started
use Rattle.std.proofs.Common.{◌≡◌, ◌⊎◌, ℕ, suc, ◌*◌, Bool, true, nat_eq, List, [], ◌∷◌, ◌++◌, length, map, Option, Result, Ok, Err, IsOk, refl, sym, ap, ◌∙◌, subst, inl, inr, ⊎_elim}
use Rattle.std.specs.Prelude.{⊤}
use Rattle.std.specs.List.{list_any, AllByRecursion}
use Rattle.std.proofs.lemmas.Bool.{false≢true, or_cases, or_left, or_right, eqb-true, eq-eqb}
use Rattle.std.proofs.lemmas.List.{append-nil}
use Rattle.gr_out.specs.declared.fault.RunFault.{RunFault}
use Rattle.gr_out.specs.declared.fault.RunFault.TheVariants as run
use Rattle.gr_out.specs.Bytes.{with_more}
use Rattle.gr_out.specs.Lane.{Lane, content}
use Rattle.gr_out.specs.Page.{TakesFront}
use Rattle.gr_publog.specs.Lanes.{lanes_text}
use Rattle.gr_sched.specs.declared.step.Line.{Line}
use Rattle.gr_topo.specs.Topology.{TopologyView, host_of, totals_of}
use Rattle.gr_scenario.specs.Steps.{AreStepsOf}
use Rattle.gr_model.specs.Net.{numbers}
use Rattle.gr_model.specs.NetOf.{net_of}
use Rattle.gr_model.specs.Orders.{orders_of}
use Rattle.gr_model_theorems.specs.Served.{IsOfBytes}
use Rattle.gr_model_theorems.specs.Forgets.{AllOpened}
use Rattle.gr_model_theorems.specs.Lanes.{HoldsServedLanes}
use Rattle.gr_model_theorems.specs.OrderedServed.{OrderedServedLanes, OneOrderServedLanes}
use Rattle.gr_model_theorems.specs.Statements.{AreTotals}
use Rattle.gr_node.specs.Obeyed.{AloneObeysRules}
use Rattle.gr_node.specs.Plan.{Act, binds, starts, shows, ours, nodes, plan, run_acts}
use Rattle.gr_node.specs.Served.{Course, is_start, planned, IsRunOf, Posts, KeepsLogs, IsHonestJournal}
use Rattle.gr_top.specs.declared.voice.Voice.{Voice}
use Rattle.gr_top.specs.Serving.{CanRun, Writes, Around, around, served_lines, IsInOrder, RunsTo, StopsBy, EndsBy, AllRead, damaged_line}
use Rattle.gr_top.specs.Top.{IsCut}
use Rattle.gr_top.proofs.OrderLemmas.{are_totals, are_behind}

-- what the run itself says of its course
abbrev pub HasRun : Voice → TopologyView → List Line → List ℕ → ℕ → Type 0 → Type 0 → Around → Around → Result ⊤ RunFault → Type 0
HasRun voice t lines hosted turns post_tells disk_tells before after answer =
    (c : Course) × (IsRunOf t hosted lines turns c answer
    × ((post_tells → Posts t hosted lines c before.journal after.journal answer)
    × (Writes voice t lines hosted c before.taken after.taken answer
    × (disk_tells → KeepsLogs t hosted lines c before.lanes after.lanes answer))))

-- that an honest journal of all brokers meets the headline
abbrev pub MeetsServed : TopologyView → Type 0
MeetsServed t = (steps : List Line) (c : Course) → AreStepsOf t steps → AllOpened t.late c.logs
    → AllByRecursion IsOfBytes c.came → IsHonestJournal [] (planned t (numbers (length t.brokers)) steps c)
    → HoldsServedLanes (net_of t) c.logs steps (ours (numbers (length t.brokers)) c.came)

-- that what it reports is by the rules, and nothing else is
abbrev pub FollowsRules : TopologyView → Type 0
FollowsRules t = (steps : List Line) (c : Course) → AreStepsOf t steps → AllOpened t.late c.logs
    → AllByRecursion IsOfBytes c.came → IsHonestJournal [] (planned t (numbers (length t.brokers)) steps c)
    → AloneObeysRules (net_of t) c.logs steps (ours (numbers (length t.brokers)) c.came) (served_lines t steps (numbers (length t.brokers)) c)

-- and that its lists over all publishers are what they are to be
abbrev pub OrdersServed : TopologyView → Type 0
OrdersServed t = (steps : List Line) (c : Course) (totals : List ℕ) → AreStepsOf t steps → AllOpened t.late c.logs
    → AllByRecursion IsOfBytes c.came → IsHonestJournal [] (planned t (numbers (length t.brokers)) steps c)
    → AreTotals (net_of t) totals
    → OrderedServedLanes (net_of t) totals c.logs steps (ours (numbers (length t.brokers)) c.came)
    × OneOrderServedLanes (net_of t) totals c.logs steps (ours (numbers (length t.brokers)) c.came)

in_order : (t : TopologyView) (lines : List Line) (hosted : List ℕ) (c : Course) → OrderedServedLanes (net_of t) (totals_of t) c.logs lines (ours hosted c.came)
    × OneOrderServedLanes (net_of t) (totals_of t) c.logs lines (ours hosted c.came) → IsInOrder t lines hosted c
in_order t lines hosted c x = record {
  behind = are_behind (orders_of t) (served_lines t lines hosted c);
  ordered = x.0;
  one_order = x.1;
}

-- so the run came to its answer
pub runs_to : (voice : Voice) (t : TopologyView) (lines : List Line) (hosted : List ℕ) (turns : ℕ) (post_tells disk_tells : Type 0) (before after : Around) (answer : Result ⊤ RunFault)
    → CanRun voice t lines hosted → MeetsServed t → FollowsRules t → OrdersServed t → HasRun voice t lines hosted turns post_tells disk_tells before after answer
    → RunsTo voice t lines hosted turns post_tells disk_tells before after answer
runs_to voice t lines hosted turns post_tells disk_tells before after answer can meets obeys orders r = record {
  course = r.0;
  is_run = r.1.0;
  posts = r.1.1.0;
  prints = r.1.1.1.0;
  keeps = r.1.1.1.1;
  headline = λ all honest.
      subst (λ h. HoldsServedLanes (net_of t) r.0.logs lines (ours h r.0.came)) (sym all)
      (meets lines r.0 can.steps r.1.0.opened r.1.0.bytes (subst (λ h. IsHonestJournal [] (planned t h lines r.0)) all honest));
  by_rules = λ all honest.
      subst (λ h. AloneObeysRules (net_of t) r.0.logs lines (ours h r.0.came) (served_lines t lines h r.0)) (sym all)
      (obeys lines r.0 can.steps r.1.0.opened r.1.0.bytes (subst (λ h. IsHonestJournal [] (planned t h lines r.0)) all honest));
  ordered = λ all honest.
      subst (λ h. IsInOrder t lines h r.0) (sym all)
      (in_order t lines (numbers (length t.brokers)) r.0
      (orders lines r.0 (totals_of t) can.steps r.1.0.opened r.1.0.bytes (subst (λ h. IsHonestJournal [] (planned t h lines r.0)) all honest) (are_totals t)));
}

-- a run that a fault ended, and what its status says
pub stops_by : (voice : Voice) (t : TopologyView) (lines : List Line) (hosted : List ℕ) (turns : ℕ) (post_tells disk_tells : Type 0) (before after : Around) (fault : RunFault) (status : ℕ)
    (taken : Option (List ℕ)) → CanRun voice t lines hosted → MeetsServed t → FollowsRules t → OrdersServed t
    → HasRun voice t lines hosted turns post_tells disk_tells before after (Err fault) → EndsBy t fault status after.taken taken
    → StopsBy voice t lines hosted turns post_tells disk_tells before (around taken after.journal after.lanes) status
stops_by voice t lines hosted turns post_tells disk_tells before after fault status taken can meets obeys orders r ends = record {
  fault = fault;
  taken = after.taken;
  run = runs_to voice t lines hosted turns post_tells disk_tells before after (Err fault) can meets obeys orders r;
  ends = ends;
}

-- the line of a log that is none was printed, or a front of it
pub ends_damaged : (t : TopologyView) (fault : RunFault) (p at status : ℕ) (old new : Option (List ℕ)) → fault ≡ run.Damaged p at → (status ≡ 6) ⊎ IsCut status
    → (status ≡ 6 → new ≡ with_more old (damaged_line t p at)) → (IsCut status → TakesFront old new (damaged_line t p at))
    → EndsBy t fault status old new
ends_damaged t fault p at status old new is (inl e) printed front = rw is (inl (e, printed e))
ends_damaged t fault p at status old new is (inr cut) printed front = rw is (inr (cut, front cut))

-- nothing more was printed after any other
pub ends_at_once : (t : TopologyView) (fault known : RunFault) (status : ℕ) (taken : Option (List ℕ)) → fault ≡ known → EndsBy t known status taken taken
    → EndsBy t fault status taken taken
ends_at_once t fault known status taken is ends = rw is ends

-- Each hosted broker has started

-- what passes in one part passes in the whole
any_append : (test : Act → Bool) (xs ys : List Act) → (list_any test xs ≡ true) ⊎ (list_any test ys ≡ true) → list_any test (xs ++ ys) ≡ true
any_append test [] ys (inl e) = absurd (false≢true e)
any_append test [] ys (inr e) = e
any_append test (x ∷ xs) ys (inl e) =
    ⊎_elim
    (λ here. or_left (test x) (list_any test (xs ++ ys)) here)
    (λ later. or_right (test x) (list_any test (xs ++ ys)) (any_append test xs ys (inl later)))
    (or_cases (test x) (list_any test xs) e)
any_append test (x ∷ xs) ys (inr e) = or_right (test x) (list_any test (xs ++ ys)) (any_append test xs ys (inr e))

-- of a broker that is hosted there is a start
starts_of : (h : ℕ) (hosted : List ℕ) → list_any (λ b. nat_eq b h) hosted ≡ true → list_any (is_start h) (map starts hosted) ≡ true
starts_of h [] e = absurd (false≢true e)
starts_of h (b ∷ bs) e =
    ⊎_elim
    (λ here. or_left (nat_eq h b) (list_any (is_start h) (map starts bs)) (eq-eqb h b (sym (eqb-true b h here))))
    (λ later. or_right (nat_eq h b) (list_any (is_start h) (map starts bs)) (starts_of h bs later))
    (or_cases (nat_eq b h) (list_any (λ c. nat_eq c h) bs) e)

-- and so there is in the plan
plan_starts : (t : TopologyView) (lines : List Line) (hosted : List ℕ) (c : Course) (h : ℕ) → list_any (λ b. nat_eq b h) hosted ≡ true
    → list_any (is_start h) (plan t hosted lines c.came c.closed) ≡ true
unfolding plan
plan_starts t lines hosted c h e =
    let rest = run_acts (net_of t) hosted lines c.came c.closed ++ shows ∷ [] in
    any_append (is_start h) (map binds (nodes t hosted)) (map starts hosted ++ rest)
    (inr (any_append (is_start h) (map starts hosted) rest (inl (starts_of h hosted e))))

-- what is read was read
ok_by : {A E : Type 0} (r : Result A E) (a : A) → r ≡ Ok a → IsOk r
ok_by (Ok x) a e = refl
ok_by (Err x) a e = let bad : Err x ≡ Ok a = e in cc

-- so the lanes of each of their publishers held a log
pub all_read : (t : TopologyView) (lines : List Line) (hosted : List ℕ) (turns : ℕ) (c : Course) (before after : ℕ → Lane)
    → IsRunOf {T = ⊤} t hosted lines turns c (Ok tt) → KeepsLogs {T = ⊤} t hosted lines c before after (Ok tt) → AllRead t hosted before
all_read t lines hosted turns c before after is_run keeps = λ p lt here.
    let made : c.made ≡ plan t hosted lines c.came c.closed =
    sym (append-nil c.made) ∙ (ap (λ l. c.made ++ l) (sym is_run.whole) ∙ is_run.acts) in
    let started : list_any (is_start (host_of t p)) c.made ≡ true =
    ap (list_any (is_start (host_of t p))) made ∙ plan_starts t lines hosted c (host_of t p) here in
    let opens = (keeps.found p lt here started).1 in
    ok_by (lanes_text t.late (content (before (2 * p))) (content (before (suc (2 * p))))) opens.0 opens.1
