-- How many candidates there are: a product in 64 bits, and at least five for each name
use Rattle.std.proofs.Common.{◌≡◌, ℕ, suc, ◌+◌, ◌*◌, ◌-◌, ◌^◌, ◌<◌, ◌≤◌, min, ℤ, Bool, true, false, List, [], ◌∷◌, length, refl, sym, ap, ◌∙◌, ◌⊎◌, inl, inr, arith, cond}
use Rattle.std.specs.List.{AllByRecursion}
use Rattle.std.proofs.Math.Nat.{mul-le-mul_left, mul_comm, pow-le-pow_right, pow-succ'}
use Rattle.std.proofs.lemmas.Bool.{cases_lt}
use Rattle.gr_event.specs.declared.value.Value.{Value}
use Rattle.gr_event.specs.declared.value.Value.TheVariants.{Int, Text, Bool as Truth}
use Rattle.gr_cover.specs.declared.attribute.Attribute.{Attribute}
use Rattle.gr_cover.specs.Candidates.{choices, events_count, parts}
use Rattle.gr_cover.proofs.Rising.{Stands}

-- a product that stops at a bound may go on from where the other factors stopped
stopped : (m p c : ℕ) → 1 ≤ c → min (min p m * c) m ≡ min (c * p) m
stopped m p c h = go (cases_lt m p)
  where
    go : (m < p) ⊎ (p ≤ m) → min (min p m * c) m ≡ min (c * p) m
    go (inl l) =
        let e : min p m ≡ m = omega arith in
        let a : m * 1 ≤ m * c = mul-le-mul_left m h in
        let b : p * 1 ≤ p * c = mul-le-mul_left p h in
        rw e (let f : c * p ≡ p * c = mul_comm c p in omega (arith, a, b, f))
    go (inr l) =
        let e : min p m ≡ p = omega arith in
        rw e (ap (λ x. min x m) (mul_comm p c))

-- there is a choice for each name, and without a spare text there are too many
some_choice : (a : Attribute) → 1 ≤ choices a
some_choice a = go a.has_spare
  where
    go : (b : Bool) → 1 ≤ cond b (1 + length a.values) (2 ^ 64 - 1)
    go true = omega arith
    go false = omega arith

spare_choices : (a : Attribute) → choices a ≤ 4096 → a.has_spare ≡ true
spare_choices a h = go a.has_spare refl h
  where
    go : (b : Bool) → a.has_spare ≡ b → cond b (1 + length a.values) (2 ^ 64 - 1) ≤ 4096 → a.has_spare ≡ true
    go true e k = e
    go false e k = absurd (omega (arith, k))

pub five_choices : (a : Attribute) → (a.has_spare ≡ true → 4 ≤ length a.values) → 5 ≤ choices a
five_choices a h = go a.has_spare refl
  where
    go : (b : Bool) → a.has_spare ≡ b → 5 ≤ cond b (1 + length a.values) (2 ^ 64 - 1)
    go true e = omega (arith, h e)
    go false e = omega arith

-- the choices of a name times the parts of the others
pub parts_with : (all : List Attribute) (a : Attribute) (rest : List Attribute) (p c r : ℕ) → all ≡ a ∷ rest → p ≡ parts rest → c ≡ choices a → r ≡ min (p * c) (2 ^ 64 - 1) → r ≡ parts all
parts_with all a rest p c r q e f g =
    g ∙ ap (λ x. min (x * c) (2 ^ 64 - 1)) e ∙ ap (λ x. min (parts rest * x) (2 ^ 64 - 1)) f
    ∙ stopped (2 ^ 64 - 1) (events_count rest) (choices a) (some_choice a) ∙ ap parts (sym q)

-- five choices for each name at least
five_each : (names : List Attribute) → AllByRecursion (λ a. 5 ≤ choices a) names → 5 ^ length names ≤ events_count names
five_each [] h = omega arith
five_each (a ∷ rest) h =
    let k = five_each rest h.1 in
    let m : 5 * 5 ^ length rest ≤ 5 * events_count rest = mul-le-mul_left 5 k in
    let n : events_count rest * 5 ≤ events_count rest * choices a = mul-le-mul_left (events_count rest) h.0 in
    let c : choices a * events_count rest ≡ events_count rest * choices a = mul_comm (choices a) (events_count rest) in
    let e : 5 ^ suc (length rest) ≡ 5 * 5 ^ length rest = pow-succ' 5 (length rest) in
    omega (arith, m, n, c, e)

-- with no more than 4,096 parts there are at most five names
pub at_most_five : (names : List Attribute) → AllByRecursion (λ a. 5 ≤ choices a) names → parts names ≤ 4096 → length names ≤ 5
at_most_five names h few = go (cases_lt 5 (length names))
  where
    go : (5 < length names) ⊎ (length names ≤ 5) → length names ≤ 5
    go (inl l) =
        let six : 6 ≤ length names = omega arith in
        let a : 5 ^ 6 ≤ 5 ^ length names = pow-le-pow_right {n = 5} (omega arith) six in
        absurd (omega (arith, a, five_each names h, few))
    go (inr l) = l

-- and each name has a spare text
some_event : (names : List Attribute) → 1 ≤ events_count names
some_event [] = omega arith
some_event (a ∷ rest) =
    let m : events_count rest * 1 ≤ events_count rest * choices a = mul-le-mul_left (events_count rest) (some_choice a) in
    let c : choices a * events_count rest ≡ events_count rest * choices a = mul_comm (choices a) (events_count rest) in
    let k = some_event rest in
    omega (arith, m, c, k)

few_spared : (names : List Attribute) → events_count names ≤ 4096 → AllByRecursion (λ (a : Attribute). a.has_spare ≡ true) names
few_spared [] h = tt
few_spared (a ∷ rest) h =
    let m : choices a * 1 ≤ choices a * events_count rest = mul-le-mul_left (choices a) (some_event rest) in
    let n : events_count rest * 1 ≤ events_count rest * choices a = mul-le-mul_left (events_count rest) (some_choice a) in
    let c : choices a * events_count rest ≡ events_count rest * choices a = mul_comm (choices a) (events_count rest) in
    (spare_choices a (omega (arith, m, h)), few_spared rest (omega (arith, n, c, h)))

pub all_have_spare : (names : List Attribute) → parts names ≤ 4096 → AllByRecursion (λ (a : Attribute). a.has_spare ≡ true) names
all_have_spare names few = few_spared names (omega (arith, few))

-- Four kinds of values

-- how many values of each kind there are at least
record Kinds (vs : List Value) : Type 0 where
  falses : ℕ
  trues : ℕ
  integers : ℕ
  texts : ℕ
  all : falses + trues + integers + texts ≤ length vs
  false_is : Stands (Truth false) vs → 1 ≤ falses
  true_is : Stands (Truth true) vs → 1 ≤ trues
  integer_is : (z : ℤ) → Stands (Int z) vs → 1 ≤ integers
  text_is : (t : List ℕ) → Stands (Text t) vs → 1 ≤ texts

kinds : (vs : List Value) → Kinds vs
kinds [] = record { falses = 0; trues = 0; integers = 0; texts = 0; all = omega arith; false_is = λ s. absurd s; true_is = λ s. absurd s; integer_is = λ z s. absurd s; text_is = λ t s. absurd s }
kinds (Truth false ∷ vs) = let k = kinds vs in record {
  falses = 1 + k.falses;
  trues = k.trues;
  integers = k.integers;
  texts = k.texts;
  all = omega (arith, k.all);
  false_is = λ s. omega arith;
  true_is = λ s. elim s [ inl e ↦ absurd (cc) | inr t ↦ k.true_is t ];
  integer_is = λ z s. elim s [ inl e ↦ absurd (cc) | inr t ↦ k.integer_is z t ];
  text_is = λ u s. elim s [ inl e ↦ absurd (cc) | inr t ↦ k.text_is u t ];
}
kinds (Truth true ∷ vs) = let k = kinds vs in record {
  falses = k.falses;
  trues = 1 + k.trues;
  integers = k.integers;
  texts = k.texts;
  all = omega (arith, k.all);
  false_is = λ s. elim s [ inl e ↦ absurd (cc) | inr t ↦ k.false_is t ];
  true_is = λ s. omega arith;
  integer_is = λ z s. elim s [ inl e ↦ absurd (cc) | inr t ↦ k.integer_is z t ];
  text_is = λ u s. elim s [ inl e ↦ absurd (cc) | inr t ↦ k.text_is u t ];
}
kinds (Int x ∷ vs) = let k = kinds vs in record {
  falses = k.falses;
  trues = k.trues;
  integers = 1 + k.integers;
  texts = k.texts;
  all = omega (arith, k.all);
  false_is = λ s. elim s [ inl e ↦ absurd (cc) | inr t ↦ k.false_is t ];
  true_is = λ s. elim s [ inl e ↦ absurd (cc) | inr t ↦ k.true_is t ];
  integer_is = λ z s. omega arith;
  text_is = λ u s. elim s [ inl e ↦ absurd (cc) | inr t ↦ k.text_is u t ];
}
kinds (Text x ∷ vs) = let k = kinds vs in record {
  falses = k.falses;
  trues = k.trues;
  integers = k.integers;
  texts = 1 + k.texts;
  all = omega (arith, k.all);
  false_is = λ s. elim s [ inl e ↦ absurd (cc) | inr t ↦ k.false_is t ];
  true_is = λ s. elim s [ inl e ↦ absurd (cc) | inr t ↦ k.true_is t ];
  integer_is = λ z s. elim s [ inl e ↦ absurd (cc) | inr t ↦ k.integer_is z t ];
  text_is = λ u s. omega arith;
}

-- both truth values, an integer and a text are four values
pub four : (vs : List Value) (z : ℤ) (t : List ℕ) → Stands (Truth false) vs → Stands (Truth true) vs → Stands (Int z) vs → Stands (Text t) vs → 4 ≤ length vs
four vs z t a b c d = let k = kinds vs in omega (arith, k.all, k.false_is a, k.true_is b, k.integer_is z c, k.text_is t d)
