-- A seat has a position for each publisher, and each is that of its publisher's tree
use Rattle.std.proofs.Common.{◌≡◌, ℕ, zero, suc, ◌<◌, false, List, [], ◌∷◌, length, map, get_or, None, sym, ap, ◌∙◌, subst, arith}
use Rattle.std.specs.List.{AllByRecursion}
use Rattle.std.proofs.lemmas.List.{length-map, get_or-map}
use Rattle.gr_edge.specs.Pass.{Wanting}
use Rattle.gr_topo.specs.Topology.{TopologyView}
use Rattle.gr_model.specs.Net.{numbers}
use Rattle.gr_broker_relay.specs.declared.place.Position.{Position}
use Rattle.gr_broker_relay.specs.Branch.{Branch, branch_of}
use Rattle.gr_broker_relay.specs.Held.{seen_branch, HasEdges}
use Rattle.gr_model_calls.proofs.runs.Schedules.{get_numbers, length_numbers}

-- where a broker stands nowhere
blank_branch : Branch
blank_branch = record { host = false; up = None; keeps = false; children = []; edges = [] }

-- there are as many positions as publishers
pub positions_many : (t : TopologyView) (b n : ℕ) (edges : List (List Wanting)) (places : List Position) → map (seen_branch edges) places ≡ map (branch_of t b) (numbers n) → length places ≡ n
positions_many t b n edges places e = sym (length-map places (seen_branch edges)) ∙ ap length e ∙ length_numbers (branch_of t b) 0 n

-- the position at a publisher's place is that of its tree
pub position_branch : (t : TopologyView) (b n p : ℕ) (edges : List (List Wanting)) (places : List Position) (d : Position) → map (seen_branch edges) places ≡ map (branch_of t b) (numbers n) → p < n →
    seen_branch edges (get_or places p d) ≡ branch_of t b p
position_branch t b n p edges places d e lt =
    sym (get_or-map (seen_branch edges) places p d blank_branch (subst (λ m. p < m) (sym (positions_many t b n edges places e)) lt))
    ∙ ap (λ bs. get_or bs p blank_branch) e
    ∙ get_numbers (branch_of t b) 0 n p blank_branch lt
    ∙ ap (branch_of t b) (omega arith)

-- and has its edges
pub position_edges : (p : ℕ) (edges : List (List Wanting)) (places : List Position) (d : Position) → AllByRecursion (HasEdges edges) places → p < length places → HasEdges edges (get_or places p d)
position_edges zero edges [] d h lt = absurd (omega (arith, lt))
position_edges (suc p) edges [] d h lt = absurd (omega (arith, lt))
position_edges zero edges (x ∷ xs) d h lt = h.0
position_edges (suc p) edges (x ∷ xs) d h lt = position_edges p edges xs d h.1 (omega (arith, lt))
