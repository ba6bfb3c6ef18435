-- The two nodes of a client are bound one after the other
use Rattle.std.proofs.Common.{◌≡◌, ℕ, ◌<◌, ◌≤◌, true, false, List, [], ◌∷◌, ◌++◌, take, Option, Some, Result, Ok, Err, OnOk, OnErr, refl, ap, ◌∙◌, arith, append_assoc}
use Rattle.std.specs.Prelude.{unwrap_or}
use Rattle.gr_note.specs.Nodes.{client_node}
use Rattle.gr_out.specs.Entry.{Entry}
use Rattle.gr_out.specs.Entry as entry
use Rattle.gr_out.specs.declared.fault.RunFault.{RunFault}
use Rattle.gr_topo.specs.Topology.{TopologyView, client_of, host_of, address_of}
use Rattle.gr_client.specs.Moves.{fault_entries}
use Rattle.gr_client.specs.Run.{nodes, bound_entries}

abbrev own : TopologyView → ℕ → Entry
own t p = entry.bound (client_node p) (unwrap_or (client_of t p) []) true

-- the client's own, at its address
own_is : (t : TopologyView) (p node : ℕ) (address : List ℕ) → node ≡ client_node p → Some address ≡ client_of t p → entry.bound node address true ≡ own t p
own_is t p node address e h =
    ap (λ (n : ℕ). entry.bound n address true) e ∙ ap (λ (o : Option (List ℕ)). entry.bound (client_node p) (unwrap_or o []) true) h

-- and the host's, at its own
host_is : (t : TopologyView) (p host : ℕ) (address : List ℕ) → host ≡ host_of t p → Some address ≡ address_of t host
    → entry.bound host address false ≡ entry.bound (host_of t p) (unwrap_or (address_of t (host_of t p)) []) false
host_is t p host address e h =
    ap (λ (o : Option (List ℕ)). entry.bound host (unwrap_or o []) false) h ∙ ap (λ (b : ℕ). entry.bound b (unwrap_or (address_of t b) []) false) e

-- the first is bound, and more is put then
bound_first : (t : TopologyView) (p node : ℕ) (address : List ℕ) (before middle after more : List Entry) → node ≡ client_node p → Some address ≡ client_of t p
    → middle ≡ before ++ entry.bound node address true ∷ [] → after ≡ middle ++ more → after ≡ before ++ (take 1 (nodes t p) ++ more)
bound_first t p node address before middle after more e h first next =
    next
    ∙ ap (λ (xs : List Entry). xs ++ more) (first ∙ ap (λ (x : Entry). before ++ x ∷ []) (own_is t p node address e h))
    ∙ append_assoc before (own t p ∷ []) more

-- both are bound
bound_both : (t : TopologyView) (p node host : ℕ) (address home : List ℕ) (before middle after : List Entry) → node ≡ client_node p → Some address ≡ client_of t p → host ≡ host_of t p → Some home ≡ address_of t host
    → middle ≡ before ++ entry.bound node address true ∷ [] → after ≡ middle ++ entry.bound host home false ∷ [] → after ≡ before ++ (take 2 (nodes t p) ++ [])
bound_both t p node host address home before middle after e h e' h' first next =
    bound_first t p node address before middle after (entry.bound host home false ∷ []) e h first next
    ∙ ap (λ (x : Entry). before ++ (own t p ∷ x ∷ [])) (host_is t p host home e' h')

-- None was bound
pub bound_none : (t : TopologyView) (p : ℕ) (tells : Type 0) (before after : List Entry) (f : RunFault) → (tells → after ≡ before ++ fault_entries {T = Unit {0}} (Err f))
    → (k : ℕ) × ((k ≤ 2) × (OnOk {T = Unit {0}} {E = RunFault} (Err f) (k ≡ 2) × (OnErr {T = Unit {0}} {E = RunFault} (Err f) (k < 2) × (tells → after ≡ before ++ (take k (nodes t p) ++ fault_entries {T = Unit {0}} (Err f))))))
bound_none t p tells before after f failed = (0, (omega arith, (tt, (omega arith, failed))))

-- Both were bound, or the first alone
pub bound_so : (t : TopologyView) (p : ℕ) (tells : Type 0) (node host : ℕ) (address home : List ℕ) (before middle after : List Entry) (r : Result (Unit {0}) RunFault) → node ≡ client_node p → Some address ≡ client_of t p → host ≡ host_of t p → Some home ≡ address_of t host
    → (tells → middle ≡ before ++ entry.bound node address true ∷ []) → (tells → after ≡ middle ++ bound_entries host home false r)
    → (k : ℕ) × ((k ≤ 2) × (OnOk r (k ≡ 2) × (OnErr r (k < 2) × (tells → after ≡ before ++ (take k (nodes t p) ++ fault_entries r)))))
bound_so t p tells node host address home before middle after (Ok x) e h e' h' first next =
    (2, (omega arith, (refl, (tt, λ told. bound_both t p node host address home before middle after e h e' h' (first told) (next told)))))
bound_so t p tells node host address home before middle after (Err f) e h e' h' first next =
    (1, (omega arith, (tt, (omega arith, λ told. bound_first t p node address before middle after (fault_entries {T = Unit {0}} (Err f)) e h (first told) (next told)))))

-- so many as are both
pub bound_two : (t : TopologyView) (p : ℕ) (before after : List Entry) (k : ℕ) → k ≡ 2 → after ≡ before ++ (take k (nodes t p) ++ []) → after ≡ before ++ (take 2 (nodes t p) ++ [])
bound_two t p before after k e h = h ∙ ap (λ (n : ℕ). before ++ (take n (nodes t p) ++ [])) e
