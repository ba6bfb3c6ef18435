-- The children of a broker are those whose next broker to the host it is
use Rattle.std.proofs.Common.{◌≡◌, ℕ, ◌<◌, true, false, not, length, Option, Some, None, sym, ap, ◌∙◌, ⊎_elim, arith, eq-eqb}
use Rattle.std.proofs.lemmas.Bool.{true≢false, false≢true, and_parts, and_from, cases_Bool, eqb-true, not-true, false_from_ne_true, not_from_false}
use Rattle.gr_tree.specs.Walks.{is_linked}
use Rattle.gr_tree.proofs.Links.{linked_swap}
use Rattle.gr_topo.specs.Topology.{TopologyView, size, up_at, is_this, is_child_at, IsTopology}

some_same : (a b : ℕ) → Some a ≡ Some b → a ≡ b
some_same a b e = cc

none_some : (a : ℕ) → None ≡ Some a → ⊥
none_some a e = cc

this_is : (o : Option ℕ) (c : ℕ) → is_this o c ≡ true → o ≡ Some c
this_is None c h = absurd (false≢true h)
this_is (Some u) c h = ap Some (eqb-true u c h)

is_this_one : (o : Option ℕ) (c : ℕ) → o ≡ Some c → is_this o c ≡ true
is_this_one None c h = absurd (none_some c h)
is_this_one (Some u) c h = eq-eqb u c (some_same u c h)

-- the next broker of a child is the broker
pub child_up : (t : TopologyView) (p b c : ℕ) → IsTopology t → p < length t.publishers → is_child_at t p b c ≡ true → up_at t p c ≡ Some b
child_up t p b c is lt h =
    let parts = and_parts (is_linked t.links b c) (not (is_this (up_at t p b) c)) h in
    ⊎_elim
    (λ e. absurd (true≢false (sym (is_this_one (up_at t p b) c e) ∙ not-true (is_this (up_at t p b) c) parts.1)))
    (λ e. e)
    ((is.rooted p lt).link_up b c parts.0)

-- and one whose next broker it is, is a child
pub up_child : (t : TopologyView) (p b c : ℕ) → IsTopology t → p < length t.publishers → c < size t → up_at t p c ≡ Some b → is_child_at t p b c ≡ true
up_child t p b c is lt within e =
    let up = (is.rooted p lt).up_in c b within e in
    let not_above : is_this (up_at t p b) c ≡ false = false_from_ne_true _ (λ h.
    let back = (is.rooted p lt).up_in b c up.0 (this_is (up_at t p b) c h) in absurd (omega (arith, up.2, back.2))) in
    and_from (is_linked t.links b c) (not (is_this (up_at t p b) c)) (linked_swap t.links c b up.1) (not_from_false (is_this (up_at t p b) c) not_above)

-- so the test by the next broker is the test by links
pub child_test : (t : TopologyView) (p b c : ℕ) → IsTopology t → p < length t.publishers → c < size t → is_this (up_at t p c) b ≡ is_child_at t p b c
child_test t p b c is lt within =
    ⊎_elim
    (λ e. e ∙ sym (up_child t p b c is lt within (this_is (up_at t p c) b e)))
    (λ e. e ∙ sym (false_from_ne_true (is_child_at t p b c) (λ h. true≢false (sym (is_this_one (up_at t p c) b (child_up t p b c is lt h)) ∙ e))))
    (cases_Bool (is_this (up_at t p c) b))
