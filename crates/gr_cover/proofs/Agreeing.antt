-- A plain filter has the same truth for two events whose values its literals do not tell apart
use Rattle.std.proofs.Common.{◌≡◌, ℕ, true, false, List, [], ◌∷◌, ◌++◌, Option, refl, ap, ap₂}
use Rattle.std.specs.List.{AllByRecursion}
use Rattle.std.proofs.lemmas.Bool.{false≢true, and_parts}
use Rattle.gr_event.specs.declared.value.Value.{Value}
use Rattle.gr_event.specs.declared.event.Event.{Event}
use Rattle.gr_event.specs.Get.{value_of}
use Rattle.gr_filter.specs.declared.node.Operand.{Operand}
use Rattle.gr_filter.specs.declared.node.Operand.TheVariants.{Name as OName, Int as OInt, Text as OText, Bool as OBool}
use Rattle.gr_filter.specs.declared.node.Sign.{Sign}
use Rattle.gr_filter.specs.declared.node.Sign.TheVariants.{Equal, Less, AtMost, Greater, AtLeast}
use Rattle.gr_filter.specs.Kleene.{known, opposite, opposite_if, least, greatest}
use Rattle.gr_filter.specs.Tree.{Tree, alone, compare, between, one_of, like, is_null, negation, both, either}
use Rattle.gr_filter.specs.Truth.{operand_value, compare_both, truth_alone, truth_one_of, truth, absent as is_absent}
use Rattle.gr_filter.specs.Written.{IsWritten, IsLiteral}
use Rattle.gr_cover.specs.declared.mention.Mention.{Mention}
use Rattle.gr_cover.specs.Mentions.{literals_met, compared, mentions, apart, is_plain}

-- the literal does not tell the two values of a name apart, of which each may be absent
pub record Agrees (l v w : Option Value) : Type 0 where
  pub alone : truth_alone v ≡ truth_alone w
  pub absent : is_absent v ≡ is_absent w
  pub left : (s : Sign) → compare_both s v l ≡ compare_both s w l
  pub right : (s : Sign) → compare_both s l v ≡ compare_both s l w

-- no literal tells the values of its name in the two events apart
abbrev pub Alike : Event → Event → List Mention → Type 0
Alike e c ms = AllByRecursion (λ m. Agrees m.literal (value_of m.name e) (value_of m.name c)) ms

-- what holds of all of two lists holds of each
pub all_parts : {X : Type 0} (P : X → Type 0) (xs ys : List X) → AllByRecursion P (xs ++ ys) → AllByRecursion P xs × AllByRecursion P ys
all_parts P [] ys h = (tt, h)
all_parts P (x ∷ xs) ys h = let k = all_parts P xs ys h.1 in ((h.0, k.0), k.1)

same_compare : (x y : Operand) (s : Sign) (e c : Event) → apart x y ≡ true → Alike e c (compared x y) → compare_both s (operand_value x e) (operand_value y e) ≡ compare_both s (operand_value x c) (operand_value y c)
same_compare (OName n) (OName m) s e c p h = absurd (false≢true p)
same_compare (OName n) (OInt z) s e c p h = h.0.left s
same_compare (OName n) (OText t) s e c p h = h.0.left s
same_compare (OName n) (OBool b) s e c p h = h.0.left s
same_compare (OInt z) (OName n) s e c p h = h.0.right s
same_compare (OText t) (OName n) s e c p h = h.0.right s
same_compare (OBool b) (OName n) s e c p h = h.0.right s
same_compare (OInt z) (OInt y) s e c p h = refl
same_compare (OInt z) (OText y) s e c p h = refl
same_compare (OInt z) (OBool y) s e c p h = refl
same_compare (OText z) (OInt y) s e c p h = refl
same_compare (OText z) (OText y) s e c p h = refl
same_compare (OText z) (OBool y) s e c p h = refl
same_compare (OBool z) (OInt y) s e c p h = refl
same_compare (OBool z) (OText y) s e c p h = refl
same_compare (OBool z) (OBool y) s e c p h = refl

same_one_of : (n : List ℕ) (ls : List Operand) (e c : Event) → AllByRecursion IsLiteral ls → Alike e c (literals_met n ls)
    → truth_one_of (value_of n e) e ls ≡ truth_one_of (value_of n c) c ls
same_one_of n [] e c w h = refl
same_one_of n (OName m ∷ ls) e c w h = absurd w.0
same_one_of n (OInt z ∷ ls) e c w h = ap₂ greatest (h.0.left Equal) (same_one_of n ls e c w.1 h.1)
same_one_of n (OText t ∷ ls) e c w h = ap₂ greatest (h.0.left Equal) (same_one_of n ls e c w.1 h.1)
same_one_of n (OBool b ∷ ls) e c w h = ap₂ greatest (h.0.left Equal) (same_one_of n ls e c w.1 h.1)

-- where no literal of a plain filter tells two events apart, it has the same truth for both
pub same_truth : (t : Tree) (e c : Event) → IsWritten t → is_plain t ≡ true → Alike e c (mentions t) → truth t e ≡ truth t c
same_truth (alone (OName n)) e c w p h = h.0.alone
same_truth (alone (OInt z)) e c w p h = refl
same_truth (alone (OText t)) e c w p h = refl
same_truth (alone (OBool b)) e c w p h = refl
same_truth (compare x s y) e c w p h = same_compare x y s e c p h
same_truth (between false x low high) e c w p h =
    let q = and_parts (apart x low) (apart x high) p in
    let k = all_parts _ (compared x low) (compared x high) h in
    ap₂ least (same_compare x low AtLeast e c q.0 k.0) (same_compare x high AtMost e c q.1 k.1)
same_truth (between true x low high) e c w p h =
    let q = and_parts (apart x low) (apart x high) p in
    let k = all_parts _ (compared x low) (compared x high) h in
    ap₂ greatest (same_compare x low Less e c q.0 k.0) (same_compare x high Greater e c q.1 k.1)
same_truth (one_of negated n []) e c w p h = refl
same_truth (one_of negated n (l ∷ ls)) e c w p h = ap (opposite_if negated) (same_one_of n (l ∷ ls) e c w.1 h)
same_truth (like negated n pattern) e c w p h = absurd (false≢true p)
same_truth (is_null negated n) e c w p h = ap (λ b. opposite_if negated (known b)) h.0.absent
same_truth (negation a) e c w p h = ap opposite (same_truth a e c w p h)
same_truth (both a b) e c w p h =
    let q = and_parts (is_plain a) (is_plain b) p in
    let k = all_parts _ (mentions a) (mentions b) h in
    ap₂ least (same_truth a e c w.0 q.0 k.0) (same_truth b e c w.1 q.1 k.1)
same_truth (either a b) e c w p h =
    let q = and_parts (is_plain a) (is_plain b) p in
    let k = all_parts _ (mentions a) (mentions b) h in
    ap₂ greatest (same_truth a e c w.0 q.0 k.0) (same_truth b e c w.1 q.1 k.1)
