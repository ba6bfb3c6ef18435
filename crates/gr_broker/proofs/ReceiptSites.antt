-- Curiosity from a child of a site is answered as that of the child in its place
use Rattle.std.proofs.Common.{◌≡◌, ℕ, true, List, map, get_or, ap, ◌∙◌, subst}
use Rattle.std.specs.Prelude.{nat_eq}
use Rattle.std.specs.List.{list_any}
use Rattle.gr_curio.specs.Values.{Wanted}
use Rattle.gr_frame.specs.declared.Body.TheVariants as body
use Rattle.gr_frame.specs.declared.Frame.{Frame}
use Rattle.gr_topo.specs.Topology.{children_of}
use Rattle.gr_model.specs.NetOf.{net_of}
use Rattle.gr_model.specs.Broker.{View, empty_log, place_of, curiosity, seen}
use Rattle.gr_broker_relay.specs.declared.place.Position.{Position}
use Rattle.gr_broker_relay.specs.declared.site.Site.{Site}
use Rattle.gr_broker_relay.specs.Held.{IsSite}
use Rattle.gr_broker.specs.Receipt.{taken, receipt_of_fit}
use Rattle.gr_broker.proofs.Receipts.{answers_curiosity, place_reads}

-- the numbers of a position's children
abbrev pub child_numbers : Position → List ℕ
child_numbers place = map (λ c. c.number) place.children.items

pub taken_from : (s : Site) (now i : ℕ) (v : View) (f : Frame) (runs : Wanted) → IsSite s → f.head.publisher ≡ s.publisher → f.head.to ≡ s.broker → f.body ≡ body.Curiosity runs →
    (i ≡ place_of f.head.from (child_numbers s.position.now)) × (list_any (λ x. nat_eq x f.head.from) (child_numbers s.position.now) ≡ true) →
    receipt_of_fit (net_of s.topo.now) now v f ≡ taken (curiosity (seen (net_of s.topo.now) v) s.publisher s.broker now (get_or (children_of s.topo.now s.publisher s.broker) i 0) i runs v empty_log)
taken_from s now i v f runs site ep eb e at =
    answers_curiosity (net_of s.topo.now) now s.publisher s.broker (get_or children i 0) i v f runs ep eb e place (ap (λ (n : ℕ). get_or children n 0) place ∙ place_reads f.head.from children there)
  where
    children : List ℕ
    children = children_of s.topo.now s.publisher s.broker

    same : child_numbers s.position.now ≡ children
    same = ap (λ x. x.children) site.branch

    place : i ≡ place_of f.head.from children
    place = subst (λ cs. i ≡ place_of f.head.from cs) same at.0

    there : list_any (λ x. nat_eq x f.head.from) children ≡ true
    there = subst (λ cs. list_any (λ x. nat_eq x f.head.from) cs ≡ true) same at.1
