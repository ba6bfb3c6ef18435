-- The journal of a run by what its node did: what the machine's acts put there is what the node's acts do
use Rattle.std.proofs.Common.{◌≡◌, ℕ, List, [], ◌∷◌, ◌++◌, map, refl, sym, ap, ap₂, ◌∙◌, append_assoc}
use Rattle.std.specs.List.{AllByRecursion}
use Rattle.gr_out.specs.Entry.{Entry}
use Rattle.gr_topo.specs.Topology.{TopologyView}
use Rattle.gr_model.specs.declared.report.Report.{Report}
use Rattle.gr_model.specs.NetOf.{net_of}
use Rattle.gr_model.specs.World.{World, Transition, in_turn}
use Rattle.gr_model.specs.Orders.{Order, fed}
use Rattle.gr_model_theorems.proofs.order.Unheard.{fed_nothing, fed_append}
use Rattle.gr_report.proofs.Passing.{PassesLog, PassesRest}
use Rattle.gr_node.specs.Seen.{NodeView}
use Rattle.gr_node.specs.Of.{Hosts}
use Rattle.gr_node.specs.Plan.{Act, binds, starts, act, entries, told_by}
use Rattle.gr_node.specs.Done.{Done, done}
use Rattle.gr_node.proofs.Taken.{IsNode}
use Rattle.gr_node.proofs.Moving.{IsActOf, Goes, moved_by}
use Rattle.gr_trace.specs.Traced.{said_lines, written, waits_after, written_by_acts}
use Rattle.gr_trace.specs.Wrote.{written_at}
use Rattle.gr_trace.proofs.Groups.{said_append}

pub written_moves : (t : TopologyView) (hosted : List ℕ) (n : NodeView) (w : World) (waiting : List ℕ) (acts : List Act) → PassesLog → PassesRest → IsNode t n w → Hosts hosted n
    → AllByRecursion (IsActOf t hosted) acts → written_at t hosted n waiting acts ≡ written_by_acts t hosted w n.orders waiting acts
unfolding written_at written_by_acts
written_moves t hosted n w waiting [] passes rest i h k = refl
written_moves t hosted n w waiting (a ∷ acts) passes rest i h k =
    let d : Done = done t hosted n a in
    let u : Transition = act (net_of t) hosted w a in
    let one : Goes t hosted n w a = moved_by t hosted n w a passes rest i h k.0 in
    let told : List Report = told_by (net_of t) hosted w n.orders a in
    let later : List ℕ = waits_after t a (entries t hosted w a) waiting in
    ap₂ (λ (ls : List Report) (es : List Entry). written t hosted a ls waiting ++ written_at t hosted d.node (waits_after t a es waiting) acts) one.told one.puts
    ∙ ap (λ (xs : List ℕ). written t hosted a told waiting ++ xs)
    (written_moves t hosted d.node u.world later acts passes rest one.node one.hosts k.1
    ∙ ap (λ (os : List Order). written_by_acts t hosted u.world os later acts) one.heard)

-- Before the first arrival

-- a binding puts nothing there
pub binds_written : (t : TopologyView) (hosted ks : List ℕ) (w : World) (os : List Order) (more : List Act)
    → written_by_acts t hosted w os [] (map binds ks ++ more) ≡ written_by_acts t hosted w os [] more
unfolding written_by_acts act entries
binds_written t hosted [] w os more = refl
binds_written t hosted (k ∷ ks) w os more =
    ap (λ (xs : List Order). written_by_acts t hosted w xs [] (map binds ks ++ more)) (fed_nothing os) ∙ binds_written t hosted ks w os more

-- the starts put there what they tell
pub starts_written : (t : TopologyView) (hosted bs : List ℕ) (w : World) (os : List Order) (more : List Act)
    → (let s : Transition = in_turn (act (net_of t) hosted) (map starts bs) w in
    written_by_acts t hosted w os [] (map starts bs ++ more) ≡ said_lines t s.lines ++ written_by_acts t hosted s.world (fed os s.lines) [] more)
unfolding written_by_acts entries
starts_written t hosted [] w os more = sym (ap (λ (xs : List Order). written_by_acts t hosted w xs [] more) (fed_nothing os))
starts_written t hosted (b ∷ bs) w os more =
    let u : Transition = act (net_of t) hosted w (starts b) in
    let s : Transition = in_turn (act (net_of t) hosted) (map starts bs) u.world in
    ap (λ (xs : List ℕ). said_lines t u.lines ++ xs) (starts_written t hosted bs u.world (fed os u.lines) more)
    ∙ (sym (append_assoc (said_lines t u.lines) (said_lines t s.lines) (written_by_acts t hosted s.world (fed (fed os u.lines) s.lines) [] more))
    ∙ ap₂ (λ (xs : List ℕ) (ys : List Order). xs ++ written_by_acts t hosted s.world ys [] more) (sym (said_append t u.lines s.lines)) (sym (fed_append os u.lines s.lines)))
