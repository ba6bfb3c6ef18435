-- Links that a test finds to join two of so many nodes
use Rattle.std.proofs.Common.{◌≡◌, ℕ, ◌<◌, true, false, ◌||◌, ◌&&◌, List, [], ◌∷◌, ⊎_elim, arith}
use Rattle.std.specs.Prelude.{nat_lt}
use Rattle.std.specs.List.{list_all}
use Rattle.std.proofs.lemmas.Bool.{false≢true, or_cases, and_parts, ltb-true}
use Rattle.gr_tree.specs.declared.link.Link.{Link}
use Rattle.gr_tree.specs.Walks.{joins, is_linked, IsWithin}
use Rattle.gr_tree.proofs.Links.{ends}

pub all_within : (n : ℕ) (links : List Link) → list_all (λ l. nat_lt l.one n && nat_lt l.other n) links ≡ true → IsWithin n links
all_within n [] h = λ a b e. absurd (false≢true e)
all_within n (l ∷ links) h = λ a b e.
    let parts = and_parts (nat_lt l.one n && nat_lt l.other n) (list_all (λ l. nat_lt l.one n && nat_lt l.other n) links) h in
    let both = and_parts (nat_lt l.one n) (nat_lt l.other n) parts.0 in
    let one : l.one < n = ltb-true l.one n both.0 in
    let other : l.other < n = ltb-true l.other n both.1 in
    ⊎_elim
    (λ k. ⊎_elim
    (λ s. (omega (arith, one, s.0), omega (arith, other, s.1)))
    (λ s. (omega (arith, other, s.1), omega (arith, one, s.0)))
    (ends a b l k))
    (λ k. all_within n links parts.1 a b k)
    (or_cases (joins a b l) (is_linked links a b) e)
