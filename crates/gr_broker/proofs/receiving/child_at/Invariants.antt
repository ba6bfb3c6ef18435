use Rattle.std.proofs.Common.{◌≡◌, ◌+◌, nat_eq, map, drop}
use Rattle.std.specs.List.{list_any}
use Rattle.gr_model.specs.Broker.{place_of}
use Rattle.gr_broker.proofs.receiving.child_at.Given as goal

-- what is left decides, and none of the children so far is the one
abbrev pub invariant-children : goal.invariant-children
invariant-children l = record {
  place : l.i + place_of l.number (map (λ c. c.number) (drop l.i l.position.children.items)) ≡ place_of l.number (map (λ c. c.number) l.position.children.items);
  left : list_any (λ x. nat_eq x l.number) (map (λ c. c.number) (drop l.i l.position.children.items)) ≡ list_any (λ x. nat_eq x l.number) (map (λ c. c.number) l.position.children.items);
}
