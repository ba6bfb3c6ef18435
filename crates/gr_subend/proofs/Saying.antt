-- Lists of events by tick: what they say at a tick, and that rising lists are determined by it
use Rattle.std.proofs.Common.{◌≡◌, ◌≢◌, ◌⊎◌, inl, inr, ⊎_elim, ℕ, suc, zero, ◌+◌, ◌≤◌, ◌<◌, List, [], ◌∷◌, ◌++◌, map, refl, sym, ap₂, ◌∙◌, Some, None, arith, le_antisymm}
use Rattle.std.proofs.lemmas.Bool.{cases_lt, cases_eq, eq-eqb, ne_eqb}
use Rattle.gr_event.specs.declared.event.Event.{Event}
use Rattle.gr_subend.specs.Horizon.{numbers_from}
use Rattle.gr_subend.specs.Said.{said_at, TicksRise}

abbrev pub Items : Type 0
Items = List (ℕ × Event)

pub said_at-here : (x : ℕ × Event) (xs : Items) (t : ℕ) → x.0 ≡ t → said_at (x ∷ xs) t ≡ Some x.1
said_at-here x xs t e = rw (eq-eqb x.0 t e) refl

pub said_at-past : (x : ℕ × Event) (xs : Items) (t : ℕ) → x.0 ≢ t → said_at (x ∷ xs) t ≡ said_at xs t
said_at-past x xs t e = rw (ne_eqb x.0 t e) refl

pub said_at-below : (from : ℕ) (xs : Items) (t : ℕ) → TicksRise from xs → t ≤ from → said_at xs t ≡ None
said_at-below from [] t r h = refl
said_at-below from (x ∷ xs) t r h = said_at-past x xs t (λ e. omega (arith, r.0, e)) ∙ said_at-below x.0 xs t r.1 (omega (arith, r.0))

pub TicksRise-lower : (a b : ℕ) (xs : Items) → a ≤ b → TicksRise b xs → TicksRise a xs
TicksRise-lower a b [] h r = tt
TicksRise-lower a b (x ∷ xs) h r = (omega (arith, r.0), r.1)

pub some_none : (e : Event) → Some e ≡ None → ⊥
some_none e h = cc

some_some : (a b : Event) → Some a ≡ Some b → a ≡ b
some_some a b h = cc

-- the first item of one list is not before the first of the other
first_not_before : (x y : ℕ × Event) (xs ys : Items) → TicksRise y.0 ys → ((t : ℕ) → said_at (x ∷ xs) t ≡ said_at (y ∷ ys) t) → y.0 ≤ x.0
first_not_before x y xs ys r e =
    elim (cases_lt x.0 y.0) [
      | inl h ↦ absurd (some_none x.1 (sym (said_at-here x xs x.0 refl) ∙ (e x.0 ∙ (said_at-past y ys x.0 (λ g. omega (arith, g)) ∙ said_at-below y.0 ys x.0 r (omega arith)))))
      | inr h ↦ h
    ]

-- rising lists that say the same at every tick are equal
pub said_equal : (a b : ℕ) (xs ys : Items) → TicksRise a xs → TicksRise b ys → ((t : ℕ) → said_at xs t ≡ said_at ys t) → xs ≡ ys
said_equal a b [] [] r q e = refl
said_equal a b [] (y ∷ ys) r q e = absurd (some_none y.1 (sym (said_at-here y ys y.0 refl) ∙ sym (e y.0)))
said_equal a b (x ∷ xs) [] r q e = absurd (some_none x.1 (sym (said_at-here x xs x.0 refl) ∙ e x.0))
said_equal a b (x ∷ xs) (y ∷ ys) r q e =
    let t : x.0 ≡ y.0 = le_antisymm (first_not_before y x ys xs r.1 (λ u. sym (e u))) (first_not_before x y xs ys q.1 e) in
    let v : x.1 ≡ y.1 = some_some x.1 y.1 (sym (said_at-here x xs x.0 refl) ∙ (e x.0 ∙ said_at-here y ys x.0 (sym t))) in
    let rest : xs ≡ ys = said_equal x.0 y.0 xs ys r.1 q.1 (λ u. elim (cases_lt x.0 u) [
      | inl h ↦ sym (said_at-past x xs u (λ g. omega (arith, g))) ∙ (e u ∙ said_at-past y ys u (λ g. omega (arith, g)))
      | inr h ↦ said_at-below x.0 xs u r.1 h ∙ sym (said_at-below y.0 ys u q.1 (omega arith))
    ]) in
    let p : x ≡ y = λ i. (t i, v i) in
    ap₂ (λ z zs. z ∷ zs) p rest

-- all ticks are at most a number
abbrev pub TicksUpto : ℕ → Items → Type 0
TicksUpto m [] = Unit {0}
TicksUpto m (x ∷ xs) = (x.0 ≤ m) × TicksUpto m xs

pub rises_append : (from m : ℕ) (xs ys : Items) → from ≤ m → TicksRise from xs → TicksUpto m xs → TicksRise m ys → TicksRise from (xs ++ ys)
rises_append from m [] ys h r u q = TicksRise-lower from m ys h q
rises_append from m (x ∷ xs) ys h r u q = (r.0, rises_append x.0 m xs ys u.0 r.1 u.1 q)

abbrev pub dated : Event → List ℕ → Items
dated e ts = map (λ t. (t, e)) ts

pub dated_rises : (e : Event) (from a n : ℕ) → from < a → TicksRise from (dated e (numbers_from a n))
dated_rises e from a zero h = tt
dated_rises e from a (suc n) h = (h, dated_rises e a (suc a) n (omega arith))

pub dated_upto : (e : Event) (m a n : ℕ) → a + n ≤ suc m → TicksUpto m (dated e (numbers_from a n))
dated_upto e m a zero h = tt
dated_upto e m a (suc n) h = (omega arith, dated_upto e m (suc a) n (omega arith))

pub dated_in : (e : Event) (a n t : ℕ) → a ≤ t → t < a + n → said_at (dated e (numbers_from a n)) t ≡ Some e
dated_in e a zero t h k = absurd (omega arith)
dated_in e a (suc n) t h k =
    elim (cases_eq a t) [
      | inl g ↦ said_at-here (a, e) (dated e (numbers_from (suc a) n)) t g
      | inr g ↦ said_at-past (a, e) (dated e (numbers_from (suc a) n)) t g ∙ dated_in e (suc a) n t (omega (arith, g)) (omega arith)
    ]

pub dated_out : (e : Event) (a n t : ℕ) → (t < a) ⊎ (a + n ≤ t) → said_at (dated e (numbers_from a n)) t ≡ None
dated_out e a zero t h = refl
dated_out e a (suc n) t h = said_at-past (a, e) (dated e (numbers_from (suc a) n)) t (λ g. omega (arith, g, h)) ∙ dated_out e (suc a) n t (⊎_elim (λ k. inl (omega arith)) (λ k. inr (omega arith)) h)

pub said_append : (xs ys : Items) (t : ℕ) → said_at xs t ≡ None → said_at (xs ++ ys) t ≡ said_at ys t
said_append [] ys t h = refl
said_append (x ∷ xs) ys t h =
    elim (cases_eq x.0 t) [
      | inl g ↦ absurd (some_none x.1 (sym (said_at-here x xs t g) ∙ h))
      | inr g ↦ said_at-past x (xs ++ ys) t g ∙ said_append xs ys t (sym (said_at-past x xs t g) ∙ h)
    ]

pub said_append_front : (xs ys : Items) (t : ℕ) (e : Event) → said_at xs t ≡ Some e → said_at (xs ++ ys) t ≡ Some e
said_append_front [] ys t e h = absurd (some_none e (sym h))
said_append_front (x ∷ xs) ys t e h =
    elim (cases_eq x.0 t) [
      | inl g ↦ said_at-here x (xs ++ ys) t g ∙ (sym (said_at-here x xs t g) ∙ h)
      | inr g ↦ said_at-past x (xs ++ ys) t g ∙ said_append_front xs ys t e (sym (said_at-past x xs t g) ∙ h)
    ]

-- what says nothing up to a tick rises from above it
pub rises_above : (lo from : ℕ) (xs : Items) → TicksRise from xs → ((t : ℕ) → t ≤ lo → said_at xs t ≡ None) → TicksRise lo xs
rises_above lo from [] r h = tt
rises_above lo from (x ∷ xs) r h =
    elim (cases_lt lo x.0) [
      | inl l ↦ (l, r.1)
      | inr l ↦ absurd (some_none x.1 (sym (said_at-here x xs x.0 refl) ∙ h x.0 l))
    ]
