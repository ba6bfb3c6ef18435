-- Brokers that have started over new logs are a process before anything came: they tell nothing, and nothing is ready in one order
use Rattle.std.proofs.Common.{◌≡◌, ℕ, ◌+◌, ◌<◌, ◌≤◌, ◌^◌, Bool, true, false, List, [], ◌∷◌, ◌++◌, length, map, get_or, Option, Some, None, refl, sym, ap, ap₂, ◌∙◌, arith}
use Rattle.std.specs.Prelude.{is_some, nat_eq, if◌then◌else◌, flat_map}
use Rattle.std.specs.List.{AllByRecursion}
use Rattle.std.proofs.lemmas.Bool.{eqb-true}
use Rattle.gr_sched.specs.declared.step.Line.{Line}
use Rattle.gr_publog.specs.Views.{LogView}
use Rattle.gr_pubend.specs.Log.{Log, fresh_log}
use Rattle.gr_topo.specs.Topology.{TopologyView, host_of, totals_of}
use Rattle.gr_scenario.specs.Steps.{AreStepsOf}
use Rattle.gr_model.specs.declared.report.Report.{Report}
use Rattle.gr_model.specs.Net.{numbers}
use Rattle.gr_model.specs.NetOf.{net_of}
use Rattle.gr_model.specs.Broker.{View, empty_log, started}
use Rattle.gr_model.specs.World.{World, Transition, blank_view, view_of, log_of, start_by}
use Rattle.gr_model.specs.Arrivals.{is_hosted}
use Rattle.gr_model.specs.Orders.{Order, fed, rested, ordered, without_ordered, fresh_order, orders_of}
use Rattle.gr_model_calls.proofs.runs.Schedules.{get_numbers, length_numbers}
use Rattle.gr_model_theorems.proofs.order.Unheard.{fed_nothing}
use Rattle.gr_model_theorems.proofs.server.Lanes.{started_same}
use Rattle.gr_broker.specs.Seen.{BrokerView, view_in, log_in, log_said, machine_log}
use Rattle.gr_broker.specs.Opened.{opened_at}
use Rattle.gr_report.proofs.Along.{flat_map_none}
use Rattle.gr_node.specs.Seen.{NodeView, broker_in, log_at, log_here}
use Rattle.gr_node.specs.Of.{AreHosted}
use Rattle.gr_node.specs.Done.{settled}
use Rattle.gr_node.specs.Starting.{HasStarted, lines_of_start, start_lines}
use Rattle.gr_node.proofs.Acting.{requests_are}
use Rattle.gr_node.proofs.Taken.{IsNode, node_heard}
use Rattle.gr_node.proofs.Opening.{all_at}
use Rattle.gr_node.proofs.Courses.{IsOpened, started as begun_over, opened}
use Rattle.gr_audit_theorems.specs.Behaves.{begun}
use Rattle.gr_trace.proofs.Group.{IsProcess}
use Rattle.gr_trace.proofs.Fresh.{fresh_view, fresh_lines, fresh_same}

some_same : {X : Type 0} (x y : X) → Some x ≡ Some y → x ≡ y
some_same x y h = cc

-- The lists over all publishers at the start have nothing that is ready

rested_fresh : (n : ℕ) (ss : List ℕ) → map rested (map (fresh_order n) ss) ≡ map (fresh_order n) ss
rested_fresh n [] = refl
rested_fresh n (s ∷ ss) = ap (λ (os : List Order). fresh_order n s ∷ os) (rested_fresh n ss)

rest_at_start : (n : ℕ) (ss : List ℕ) → without_ordered (if nat_eq n 0 then [] else map (fresh_order n) ss) ≡ (if nat_eq n 0 then [] else map (fresh_order n) ss)
rest_at_start n ss = go (nat_eq n 0)
  where
    go : (c : Bool) → without_ordered (if c then [] else map (fresh_order n) ss) ≡ (if c then [] else map (fresh_order n) ss)
    go true = refl
    go false = rested_fresh n ss

-- and nothing is
ready_fresh : (n : ℕ) (ss : List ℕ) → ordered (map (fresh_order n) ss) ≡ []
ready_fresh n [] = refl
ready_fresh n (s ∷ ss) = ready_fresh n ss

ready_at_start : (n : ℕ) (ss : List ℕ) → ordered (if nat_eq n 0 then [] else map (fresh_order n) ss) ≡ []
ready_at_start n ss = go (nat_eq n 0)
  where
    go : (c : Bool) → ordered (if c then [] else map (fresh_order n) ss) ≡ []
    go true = refl
    go false = ready_fresh n ss

module _ (t : TopologyView) (hosted : List ℕ) (are : AreHosted t hosted) (o : NodeView) (is_opened : IsOpened t hosted hosted [] o)
    (new : (p : ℕ) → p < length t.publishers → is_hosted (net_of t) hosted p ≡ true → log_here t o p ≡ fresh_log true) where
  abbrev world : World
  world = start_by true (net_of t)

  abbrev over : World
  over = let u : Transition = begun_over t hosted are hosted [] o is_opened in u.world

  over_found : IsNode t o over
  over_found = (opened t hosted are hosted [] o is_opened).1

  -- Their logs

  found_fresh : (p : ℕ) (x : BrokerView) → p < length t.publishers → broker_in o (host_of t p) ≡ Some x → machine_log x p ≡ fresh_log true
  found_fresh p x j e =
      ap (λ (b : Option BrokerView). log_at b p) (sym e)
      ∙ new p j (sym (is_opened.hosts (host_of t p)) ∙ ap (λ (b : Option BrokerView). is_some b) e)

  log_fresh : (b p : ℕ) (x : BrokerView) → broker_in o b ≡ Some x → p < length t.publishers → (forgets : Bool) × (machine_log x p ≡ fresh_log forgets)
  log_fresh b p x e j = go (log_in x p) refl
    where
      go : (s : Option LogView) → log_in x p ≡ s → (forgets : Bool) × (machine_log x p ≡ fresh_log forgets)
      go None h = (false, ap log_said h)
      go (Some l) h =
          let here : host_of t p ≡ b = eqb-true (host_of t p) b (sym ((over_found.shaped b x e).hosted p j) ∙ ap (λ (y : Option LogView). is_some y) h) in
          (true, found_fresh p x j (ap (λ (c : ℕ). broker_in o c) here ∙ e))

  -- Their views

  started_at : (b : ℕ) (x : BrokerView) → broker_in o b ≡ Some x → HasStarted t o b
  started_at b x e = all_at (HasStarted t o) hosted b is_opened.each (sym (is_opened.hosts b) ∙ ap (λ (s : Option BrokerView). is_some s) e)

  abbrev view_at : ℕ → ℕ → View
  view_at b p = started (net_of t) p b (fresh_log true)

  abbrev row_at : ℕ → List View
  row_at b = map (view_at b) (numbers (length t.publishers))

  view_is : (b p : ℕ) → b < length t.brokers → p < length t.publishers → view_of world b p ≡ view_at b p
  unfolding start_by
  view_is b p i j =
      ap (λ (vs : List View). get_or vs p blank_view) (get_numbers row_at 0 (length t.brokers) b [] i)
      ∙ (get_numbers (view_at (0 + b)) 0 (length t.publishers) p blank_view j ∙ ap₂ view_at (omega arith) (omega arith))

  view_now : (b p : ℕ) (x : BrokerView) → broker_in o b ≡ Some x → p < length t.publishers → view_of world b p ≡ view_in x p
  view_now b p x e j =
      let s = started_at b x e in
      let same : s.broker ≡ x = some_same s.broker x (sym s.here ∙ e) in
      let log = log_fresh b p x e j in
      view_is b p (omega (arith, s.fits.number, s.number)) j
      ∙ sym (ap (λ (z : BrokerView). view_in z p) (sym same) ∙ (s.views p j
      ∙ (ap (λ (z : BrokerView). (opened_at (net_of t) p b (machine_log z p)).view) same
      ∙ (ap (λ (l : Log). (opened_at (net_of t) p b l).view) log.1
      ∙ (fresh_view (net_of t) p b log.0 ∙ fresh_same (net_of t) p b log.0 true)))))

  log_now : (p : ℕ) (x : BrokerView) → broker_in o (host_of t p) ≡ Some x → p < length t.publishers → log_of world p ≡ machine_log x p
  unfolding start_by
  log_now p x e j = get_numbers (λ (q : ℕ). fresh_log true) 0 (length t.publishers) p empty_log j ∙ sym (found_fresh p x j e)

  node_now : IsNode t o world
  unfolding start_by
  node_now = record {
    clock = sym is_opened.now;
    offers = sym is_opened.offers;
    views = view_now;
    logs = log_now;
    shaped = over_found.shaped;
    count = is_opened.count;
    world_views = length_numbers row_at 0 (length t.brokers);
    each_views = λ b i. ap length (get_numbers row_at 0 (length t.brokers) b [] i) ∙ length_numbers (view_at (0 + b)) 0 (length t.publishers);
    world_logs = length_numbers (λ (q : ℕ). fresh_log true) 0 (length t.publishers);
  }

  -- They tell nothing

  broker_tells : (b : ℕ) → HasStarted t o b → start_lines t o b ≡ []
  broker_tells b s =
      ap (λ (x : Option BrokerView). lines_of_start t b x) s.here
      ∙ flat_map_none (λ p. (opened_at (net_of t) p b (machine_log s.broker p)).lines) 0 (length t.publishers) (λ p from upto.
      let log = log_fresh b p s.broker s.here (omega (arith, upto)) in
      ap (λ (l : Log). (opened_at (net_of t) p b l).lines) log.1 ∙ fresh_lines (net_of t) p b log.0)

  brokers_tell : (bs : List ℕ) → AllByRecursion (HasStarted t o) bs → flat_map (start_lines t o) bs ≡ []
  brokers_tell [] h = refl
  brokers_tell (b ∷ bs) h = ap₂ (λ (xs ys : List Report). xs ++ ys) (broker_tells b h.0) (brokers_tell bs h.1)

  pub nothing_told : flat_map (start_lines t o) hosted ≡ []
  nothing_told = brokers_tell hosted is_opened.each

  -- and nothing is ready then
  module _ (heard : o.orders ≡ fed (orders_of t) (flat_map (start_lines t o) hosted)) where
    heard_nothing : o.orders ≡ orders_of t
    heard_nothing = heard ∙ (ap (λ (ls : List Report). fed (orders_of t) ls) nothing_told ∙ fed_nothing (orders_of t))

    pub nothing_ready : ordered o.orders ≡ []
    nothing_ready = ap ordered heard_nothing ∙ ready_at_start (length t.publishers) (totals_of t)

    pub begun_process : (steps : List Line) → AreStepsOf t steps → length t.subscribers ≤ 2 ^ 16 → IsProcess t hosted (settled o) (begun t steps hosted)
    begun_process steps lines few = record {
      world = world;
      differ = (started_same (net_of t) []).worlds;
      node = node_heard t o world (without_ordered o.orders) node_now;
      hosts = is_opened.hosts;
      orders = ap without_ordered heard_nothing ∙ rest_at_start (length t.publishers) (totals_of t);
      left = requests_are t hosted few steps lines;
    }
