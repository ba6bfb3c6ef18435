-- What makes one filter wider than another: each of its parts follows from a part of the other
use Rattle.std.proofs.Common.{◌≡◌, Bool, true, ℤ, ◌≤ℤ◌, ◌<ℤ◌, List, ℕ, Some, None, refl, sym, ap, ◌∙◌, arith}
use Rattle.std.specs.Ordering.{int_cmp, MatchOrdering}
use Rattle.std.specs.declared.cmp.Ordering.{Ordering}
use Rattle.std.specs.declared.cmp.Ordering.TheVariants as ordering
use Rattle.std.proofs.lemmas.Bool.{true≢false}
use Rattle.std.proofs.lemmas.Int.{ints}
use Rattle.std.proofs.lemmas.Cmp.{int_ranked}
use Rattle.gr_event.specs.declared.event.Event.{Event}
use Rattle.gr_event.specs.declared.value.Value.TheVariants as value
use Rattle.gr_filter.specs.declared.kleene.Kleene.{Kleene}
use Rattle.gr_filter.specs.declared.kleene.Kleene.TheVariants.{False, Unknown, True}
use Rattle.gr_filter.specs.declared.node.Operand.{Operand}
use Rattle.gr_filter.specs.declared.node.Operand.TheVariants as operand
use Rattle.gr_filter.specs.declared.node.Sign.{Sign}
use Rattle.gr_filter.specs.declared.node.Sign.TheVariants.{Less, AtMost, Greater, AtLeast}
use Rattle.gr_filter.specs.Kleene.{known, least}
use Rattle.gr_filter.specs.Tree.{Tree, compare, both}
use Rattle.gr_filter.specs.Truth.{holds, is_true, compare_both, operand_value, truth}
use Rattle.gr_cover.specs.Covering.{covered}
use Rattle.gr_edge.specs.Following.{Follows, integer_of}

least_left : (a b : Kleene) → is_true (least a b) ≡ true → is_true a ≡ true
least_left False b h = h
least_left Unknown False h = h
least_left Unknown Unknown h = h
least_left Unknown True h = h
least_left True b h = refl

least_right : (a b : Kleene) → is_true (least a b) ≡ true → is_true b ≡ true
least_right False b h = absurd (true≢false (sym h))
least_right Unknown False h = h
least_right Unknown Unknown h = h
least_right Unknown True h = refl
least_right True b h = h

least_both : (a b : Kleene) → is_true a ≡ true → is_true b ≡ true → is_true (least a b) ≡ true
least_both False b h k = h
least_both Unknown b h k = absurd (true≢false (sym h))
least_both True b h k = k

-- an AND that is wide: both of its parts are
pub both_wide : (a b narrow : Tree) → covered a narrow → covered b narrow → covered (both a b) narrow
both_wide a b narrow h k e r m = least_both (truth a e) (truth b e) (h e r m) (k e r m)

-- an AND that is narrow: one of its parts is
pub left_narrow : (wide a b : Tree) → covered wide a → covered wide (both a b)
left_narrow wide a b h e r m = h e r (least_left (truth a e) (truth b e) m)

pub right_narrow : (wide a b : Tree) → covered wide b → covered wide (both a b)
right_narrow wide a b h e r m = h e r (least_right (truth a e) (truth b e) m)

-- two comparisons of one name
pub compared : (x y bound low : Operand) (sign other : Sign) → ((e : Event) → operand_value x e ≡ operand_value y e) → Follows sign bound other low
    → covered (compare x sign bound) (compare y other low)
compared x y bound low sign other same follows e r m =
    ap (λ v. is_true (compare_both sign v (operand_value bound e))) (same e)
    ∙ follows (operand_value y e) e m

-- the same text
pub same_texts : (sign other : Sign) (t u : List ℕ) → sign ≡ other → t ≡ u → Follows sign (operand.Text t) other (operand.Text u)
same_texts sign other t u s same v e h =
    ap (λ x. is_true (compare_both x v (Some (value.Text t)))) s
    ∙ ap (λ x. is_true (compare_both other v (Some (value.Text x)))) same ∙ h

-- Integers

-- an integer stands to k as the sign says
abbrev stands : Sign → ℤ → ℤ → Bool
stands sign z k = is_true (known (holds sign (int_cmp z k)))

-- where it does of integers, it does of all values
pub of_integers : (sign other : Sign) (k n : ℤ) → ((z : ℤ) → stands other z n ≡ true → stands sign z k ≡ true) → Follows sign (operand.Int k) other (operand.Int n)
of_integers sign other k n h None e m = absurd (true≢false (sym m))
of_integers sign other k n h (Some (value.Int z)) e m = h z m
of_integers sign other k n h (Some (value.Text t)) e m = absurd (true≢false (sym m))
of_integers sign other k n h (Some (value.Bool b)) e m = absurd (true≢false (sym m))

abbrev Ranked : ℤ → ℤ → Ordering → Type 0
Ranked z k o = MatchOrdering o (z <ℤ k) (z ≡ k) (k <ℤ z)

ranked : (z k : ℤ) → Ranked z k (int_cmp z k)
ranked z k = int_ranked z k (int_cmp z k) refl

-- the second is not before the first
abbrev Ups : Ordering → Ordering → Type 0
Ups ordering.Less p = Unit {0}
Ups ordering.Equal ordering.Less = ⊥
Ups ordering.Equal p = Unit {0}
Ups ordering.Greater ordering.Greater = Unit {0}
Ups ordering.Greater p = ⊥

ups_by : (z k n : ℤ) (o p : Ordering) → Ranked z n o → Ranked z k p → k ≤ℤ n → Ups o p
ups_by z k n ordering.Less p a b h = tt
ups_by z k n ordering.Equal ordering.Less a b h = absurd (omega (arith, ints, a, b, h))
ups_by z k n ordering.Equal ordering.Equal a b h = tt
ups_by z k n ordering.Equal ordering.Greater a b h = tt
ups_by z k n ordering.Greater ordering.Less a b h = absurd (omega (arith, ints, a, b, h))
ups_by z k n ordering.Greater ordering.Equal a b h = absurd (omega (arith, ints, a, b, h))
ups_by z k n ordering.Greater ordering.Greater a b h = tt

ups : (z k n : ℤ) → k ≤ℤ n → Ups (int_cmp z n) (int_cmp z k)
ups z k n h = ups_by z k n (int_cmp z n) (int_cmp z k) (ranked z n) (ranked z k) h

abbrev holds_of : Sign → Ordering → Type 0
holds_of sign o = is_true (known (holds sign o)) ≡ true

greater_up : (o p : Ordering) → Ups o p → holds_of Greater o → holds_of Greater p
greater_up ordering.Less p u h = absurd (true≢false (sym h))
greater_up ordering.Equal p u h = absurd (true≢false (sym h))
greater_up ordering.Greater ordering.Less u h = absurd u
greater_up ordering.Greater ordering.Equal u h = absurd u
greater_up ordering.Greater ordering.Greater u h = refl

at_least_up : (o p : Ordering) → Ups o p → holds_of AtLeast o → holds_of AtLeast p
at_least_up ordering.Less p u h = absurd (true≢false (sym h))
at_least_up ordering.Equal ordering.Less u h = absurd u
at_least_up ordering.Equal ordering.Equal u h = refl
at_least_up ordering.Equal ordering.Greater u h = refl
at_least_up ordering.Greater ordering.Less u h = absurd u
at_least_up ordering.Greater ordering.Equal u h = absurd u
at_least_up ordering.Greater ordering.Greater u h = refl

less_down : (o p : Ordering) → Ups p o → holds_of Less o → holds_of Less p
less_down ordering.Less ordering.Less u h = refl
less_down ordering.Less ordering.Equal u h = absurd u
less_down ordering.Less ordering.Greater u h = absurd u
less_down ordering.Equal p u h = absurd (true≢false (sym h))
less_down ordering.Greater p u h = absurd (true≢false (sym h))

at_most_down : (o p : Ordering) → Ups p o → holds_of AtMost o → holds_of AtMost p
at_most_down ordering.Less ordering.Less u h = refl
at_most_down ordering.Less ordering.Equal u h = absurd u
at_most_down ordering.Less ordering.Greater u h = absurd u
at_most_down ordering.Equal ordering.Less u h = refl
at_most_down ordering.Equal ordering.Equal u h = refl
at_most_down ordering.Equal ordering.Greater u h = absurd u
at_most_down ordering.Greater p u h = absurd (true≢false (sym h))

pub follows_greater : (k n : ℤ) → k ≤ℤ n → Follows Greater (operand.Int k) Greater (operand.Int n)
follows_greater k n h = of_integers Greater Greater k n (λ z m. greater_up (int_cmp z n) (int_cmp z k) (ups z k n h) m)

pub follows_at_least : (k n : ℤ) → k ≤ℤ n → Follows AtLeast (operand.Int k) AtLeast (operand.Int n)
follows_at_least k n h = of_integers AtLeast AtLeast k n (λ z m. at_least_up (int_cmp z n) (int_cmp z k) (ups z k n h) m)

pub follows_less : (k n : ℤ) → n ≤ℤ k → Follows Less (operand.Int k) Less (operand.Int n)
follows_less k n h = of_integers Less Less k n (λ z m. less_down (int_cmp z n) (int_cmp z k) (ups z n k h) m)

pub follows_at_most : (k n : ℤ) → n ≤ℤ k → Follows AtMost (operand.Int k) AtMost (operand.Int n)
follows_at_most k n h = of_integers AtMost AtMost k n (λ z m. at_most_down (int_cmp z n) (int_cmp z k) (ups z n k h) m)

pub follows_same : (sign : Sign) (k n : ℤ) → k ≡ n → Follows sign (operand.Int k) sign (operand.Int n)
follows_same sign k n same v e h = ap (λ x. is_true (compare_both sign v (Some (value.Int x)))) same ∙ h

-- of operands that were read as integers
integer_is : (x : Operand) (k : ℤ) → integer_of x ≡ Some k → x ≡ operand.Int k
integer_is (operand.Name n) k h = absurd (cc)
integer_is (operand.Int z) k h = let same : z ≡ k = cc in ap (λ y. operand.Int y) same
integer_is (operand.Text t) k h = absurd (cc)
integer_is (operand.Bool b) k h = absurd (cc)

pub of_integers_read : (sign other : Sign) (wide narrow : Operand) (k n : ℤ) → integer_of wide ≡ Some k → integer_of narrow ≡ Some n → Follows sign (operand.Int k) other (operand.Int n) → Follows sign wide other narrow
of_integers_read sign other wide narrow k n a b h v e m =
    ap (λ z. is_true (compare_both sign v (operand_value z e))) (integer_is wide k a)
    ∙ h v e (ap (λ z. is_true (compare_both other v (operand_value z e))) (sym (integer_is narrow n b)) ∙ m)
