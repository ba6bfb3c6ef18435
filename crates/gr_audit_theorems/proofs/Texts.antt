-- What a process alone says, in its journal and to the joint order
use Rattle.std.proofs.Common.{◌≡◌, ℕ, List, [], ◌∷◌, ◌++◌, map, refl, sym, ap, ap₂, ◌∙◌}
use Rattle.gr_sched.specs.declared.step.Line.{Line}
use Rattle.gr_topo.specs.Topology.{TopologyView}
use Rattle.gr_model.specs.NetOf.{net_of}
use Rattle.gr_model.specs.World.{World, Transition, sent_since}
use Rattle.gr_model.specs.Arrivals.{Request, left_after, comes}
use Rattle.gr_model.specs.Orders.{with_orders}
use Rattle.gr_journal.specs.declared.arrival.Arrival.{Arrival as Noted}
use Rattle.gr_journal.specs.declared.arrival.Came.{Came}
use Rattle.gr_journal.specs.Groups.{group_text, groups_text}
use Rattle.gr_audit.specs.Audited.{needed, keys_of, links_from}
use Rattle.gr_audit.specs.Joint.{Link}
use Rattle.gr_audit_theorems.specs.Behaves.{arrival_of, noted_offer, Standing, begun, comes_to, standing_next, standing_after, group_at, behaves}
use Rattle.gr_audit_theorems.specs.OneRun.{groups_said}
use Rattle.gr_audit_theorems.proofs.Running.{alone_lines, alone_sent}

pub after_one : (t : TopologyView) (hosted : List ℕ) (s : Standing) (before : List Noted) (a : Noted) → standing_after t hosted s (before ++ a ∷ []) ≡ standing_next t hosted (standing_after t hosted s before) (arrival_of a)
after_one t hosted s [] a = refl
after_one t hosted s (x ∷ before) a = after_one t hosted (standing_next t hosted s (arrival_of x)) before a

-- its groups are the lines and frames of each arrival, behind each the lines of its lists over all publishers
pub text_alone : (t : TopologyView) (steps : List Line) (hosted : List ℕ) (before came : List Noted) (s : Standing) → s ≡ standing_after t hosted (begun t steps hosted) before
    → groups_text (behaves t steps) t hosted before came ≡ groups_said t came (with_orders s.orders (alone_lines (net_of t) hosted s.world s.left (map arrival_of came))) (alone_sent (net_of t) hosted s.world s.left (map arrival_of came))
unfolding alone_lines alone_sent with_orders group_at standing_next
text_alone t steps hosted before [] s is = refl
text_alone t steps hosted before (a ∷ came) s is =
    ap₂ (λ (x y : List ℕ). x ++ y) (ap (λ (z : Standing). group_text t a (group_at t hosted z (arrival_of a))) (sym is))
    (text_alone t steps hosted (before ++ a ∷ []) came (standing_next t hosted s (arrival_of a)) (ap (λ (z : Standing). standing_next t hosted z (arrival_of a)) is ∙ sym (after_one t hosted (begun t steps hosted) before a)))

-- the groups of a process alone to the joint order
unfoldable pub alone_links : TopologyView → List ℕ → World → List Request → List Came → List Link
alone_links t hosted w left [] = []
alone_links t hosted w left (c ∷ came) = let u : Transition = comes (net_of t) hosted w left (arrival_of c.arrival) in
    record { line = c.line; needs = needed c.arrival; gives = keys_of (map noted_offer (sent_since w u.world)) }
    ∷ alone_links t hosted u.world (left_after left (arrival_of c.arrival)) came

pub links_alone : (t : TopologyView) (steps : List Line) (hosted : List ℕ) (before : List Noted) (came : List Came) (s : Standing) → s ≡ standing_after t hosted (begun t steps hosted) before
    → links_from (behaves t steps) hosted before came ≡ alone_links t hosted s.world s.left came
unfolding alone_links group_at standing_next
links_alone t steps hosted before [] s is = refl
links_alone t steps hosted before (c ∷ came) s is =
    ap₂ (λ (x : Link) (y : List Link). x ∷ y)
    (ap (λ (z : Standing). record { line = c.line; needs = needed c.arrival; gives = keys_of (let u : Transition = comes_to t hosted z (arrival_of c.arrival) in map noted_offer (sent_since z.world u.world)) }) (sym is))
    (links_alone t steps hosted (before ++ c.arrival ∷ []) came (standing_next t hosted s (arrival_of c.arrival)) (ap (λ (z : Standing). standing_next t hosted z (arrival_of c.arrival)) is ∙ sym (after_one t hosted (begun t steps hosted) before c.arrival)))
