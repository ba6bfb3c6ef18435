-- A node whose brokers have opened empty lanes is a process before anything came
use Rattle.std.proofs.Common.{◌≡◌, ℕ, suc, ◌<◌, ◌≤◌, ◌^◌, true, List, [], length, Result, Ok, Err, flat_map, refl, sym, ap, ap₂, ◌∙◌, subst, eq-eqb}
use Rattle.std.specs.Prelude.{nat_eq, IsSome, IsOk}
use Rattle.std.proofs.lemmas.Bool.{or_left, false≢true}
use Rattle.gr_out.specs.declared.fault.RunFault.{RunFault}
use Rattle.gr_out.specs.Lane.{Lane, content, lane_at}
use Rattle.gr_sched.specs.declared.step.Line.{Line}
use Rattle.gr_publog.specs.Views.{LogView, lanes_at}
use Rattle.gr_publog.specs.Opens.{OpensAs, view_of as view_found}
use Rattle.gr_publog.specs.Lanes.{Found, found_none, lanes_text}
use Rattle.gr_pubend.specs.Log.{fresh_log, said}
use Rattle.gr_topo.specs.Topology.{TopologyView, IsSound, host_of}
use Rattle.gr_scenario.specs.Steps.{AreStepsOf}
use Rattle.gr_model.specs.NetOf.{net_of}
use Rattle.gr_model.specs.Arrivals.{is_hosted}
use Rattle.gr_model.specs.Orders.{fed, orders_of}
use Rattle.gr_broker.specs.Lanes.{log_lane}
use Rattle.gr_report.proofs.Readable.{found_same, nothing_found}
use Rattle.gr_node.specs.Seen.{NodeView, broker_in, log_here}
use Rattle.gr_node.specs.Of.{AreHosted}
use Rattle.gr_node.specs.Went.{IsExact}
use Rattle.gr_node.specs.Starting.{start_lines}
use Rattle.gr_node.proofs.Courses.{IsOpened, all_opened, all_of}
use Rattle.gr_audit_theorems.specs.Behaves.{begun}
use Rattle.gr_trace.specs.Gathered.{Opens}
use Rattle.gr_trace.proofs.Group.{IsProcess}
use Rattle.gr_trace.proofs.Begun.{begun_process}
use Rattle.gr_audit_run.specs.Process.{IsFresh}

-- brokers that have opened empty lanes
pub opened_fresh : (t : TopologyView) (hosted : List ℕ) (n : NodeView) (told : List ℕ) (lanes : ℕ → Lane) (r : Result (Unit {0}) RunFault)
    → IsOk r → (IsExact r → Opens {T = Unit {0}} t hosted (Unit {0}) n told lanes r) → ((k : ℕ) → lanes k ≡ lane_at [] k) → IsFresh t hosted n
opened_fresh t hosted n told lanes (Ok u) ok opens none = record { told = told; lanes = lanes; none = none; opens = opens tt }
opened_fresh t hosted n told lanes (Err e) ok opens none = absurd (false≢true ok)

-- what is said of the log that empty lanes hold is the machine's first log
said_first : (late : List ℕ) (lane : ℕ) (a b : List ℕ) (l : LogView) → a ≡ [] → b ≡ [] → OpensAs late lane a b (Ok l) → said l ≡ fresh_log true
said_first late lane a b l none too o =
    let found : lanes_text late [] [] ≡ Ok o.0 = ap₂ (lanes_text late) (sym none) (sym too) ∙ o.1 in
    let same : o.0 ≡ found_none late = found_same late [] [] o.0 (found_none late) found (nothing_found late) in
    ap said o.2
    ∙ (ap (λ (f : Found). said (view_found lane a b f)) same
    ∙ ap₂ (λ (x y : List ℕ). said (view_found lane x y (found_none late))) none too)

module _ (t : TopologyView) (hosted : List ℕ) (steps : List Line) (n : NodeView) (are : AreHosted t hosted) (lines : AreStepsOf t steps) (sound : IsSound t) (few : length t.subscribers ≤ 2 ^ 16)
    (fresh : IsFresh t hosted n) where
  -- the node once they have opened
  abbrev o : NodeView
  o = fresh.opens.opened

  is_opened : IsOpened t hosted hosted [] o
  is_opened = all_opened (Unit {0}) t hosted o _ _ _ fresh.opens.started fresh.opens.offers fresh.opens.now fresh.opens.count sound fresh.opens.started.whole

  -- their logs are new
  new_at : (p : ℕ) → p < length t.publishers → is_hosted (net_of t) hosted p ≡ true → log_here t o p ≡ fresh_log true
  new_at p j here =
      let some : IsSome (broker_in o (host_of t p)) = is_opened.hosts (host_of t p) ∙ here in
      let found = fresh.opens.found tt (host_of t p) some p j (or_left (nat_eq (host_of t p) (host_of t p)) _ (eq-eqb (host_of t p) (host_of t p) refl)) in
      let ls = lanes_at fresh.lanes (log_lane p) in
      sym found.2 ∙ said_first t.late (log_lane p) (content ls.first) (content ls.second) found.0 (ap content (fresh.none (log_lane p))) (ap content (fresh.none (suc (log_lane p)))) found.1

  heard : o.orders ≡ fed (orders_of t) (flat_map (start_lines t o) hosted)
  heard =
      fresh.opens.started.heard
      ∙ ap (λ bs. fed (orders_of t) (flat_map (start_lines t o) bs)) (all_of hosted fresh.opens.started.made fresh.opens.started.whole)

  pub fresh_process : IsProcess t hosted n (begun t steps hosted)
  fresh_process =
      subst (λ (m : NodeView). IsProcess t hosted m (begun t steps hosted)) (sym fresh.opens.node)
      (begun_process t hosted are o is_opened new_at heard steps lines few)
