-- The laws of lists of runs
use Rattle.std.proofs.Common.{◌≡◌, ◌≢◌, inl, inr, ℕ, suc, zero, ◌+◌, ◌-◌, ◌≤◌, ◌<◌, Bool, true, false, ◌&&◌, leb, List, [], ◌∷◌, ◌++◌, refl, sym, ap, ◌∙◌, subst, arith, le-leb, le_refl, add-zero, add-suc, ⊎_elim, max, ap₂, le_antisymm}
use Rattle.std.proofs.lemmas.Bool.{false≢true, lt-leb, ltb-true, ltb-false, eqb-true, eqb-false, and_right, and_parts, and_cases, cases_lt, cases_Bool}
use Rattle.std.specs.Prelude.{nat_eq, nat_lt}
use Rattle.gr_tick.specs.declared.run.Run.{Run}
use Rattle.gr_tick.specs.Runs.{value_at, StartsApart, AreRunsFrom, AreRuns, put_on, put, add_point, sorted, tabulate_from, tabulate_sorted, tabulate, points, IsNone, IsPast, IsSteady, Decides_same, zip_runs, map_runs, first_bottom_from}

pub value_at-in : {V : Type 0} (bottom : V) (r : Run V) (rs : List (Run V)) (t : ℕ) → r.first ≤ t → t ≤ r.last → value_at bottom (r ∷ rs) t ≡ r.value
value_at-in bottom r rs t h k = rw (le-leb r.first t h, le-leb t r.last k) refl

pub value_at-below : {V : Type 0} (bottom : V) (r : Run V) (rs : List (Run V)) (t : ℕ) → t < r.first → value_at bottom (r ∷ rs) t ≡ value_at bottom rs t
value_at-below bottom r rs t h = rw (lt-leb r.first t h) refl

pub value_at-above : {V : Type 0} (bottom : V) (r : Run V) (rs : List (Run V)) (t : ℕ) → r.last < t → value_at bottom (r ∷ rs) t ≡ value_at bottom rs t
value_at-above bottom r rs t h = rw (lt-leb t r.last h, and_right (leb r.first t) false refl) refl

-- below its first run a list of runs is least
pub value_at-start : {V : Type 0} (bottom : V) (from : ℕ) (rs : List (Run V)) (t : ℕ) → AreRunsFrom bottom from rs → t < from → value_at bottom rs t ≡ bottom
value_at-start bottom from [] t a h = refl
value_at-start bottom from (r ∷ rs) t a h =
    let p : t < r.first = omega (arith, a.0) in
    let q : t < suc r.last = omega (arith, a.0, a.1) in
    value_at-below bottom r rs t p ∙ value_at-start bottom (suc r.last) rs t a.4 q

abbrev run_of : {V : Type 0} → ℕ → ℕ → V → Run V
run_of first last v = record { first = first; last = last; value = v }

-- the test on which `put_on` joins
abbrev joins : {V : Type 0} → (V → V → Bool) → ℕ → V → Run V → Bool
joins same last v r = nat_eq r.first (suc last) && same r.value v

joins_at : {V : Type 0} (same : V → V → Bool) → Decides_same same → (last : ℕ) (v : V) (r : Run V) → joins same last v r ≡ true → (r.first ≡ suc last) × (r.value ≡ v)
joins_at same d last v r e =
    let p = and_parts (nat_eq r.first (suc last)) (same r.value v) e in
    (eqb-true r.first (suc last) p.0, (d r.value v).0 p.1)

joins_not : {V : Type 0} (same : V → V → Bool) → Decides_same same → (last : ℕ) (v : V) (r : Run V) → joins same last v r ≡ false → r.first ≡ suc last → r.value ≢ v
joins_not same d last v r e f =
    ⊎_elim (λ p. absurd (eqb-false r.first (suc last) p f)) (λ p. (d r.value v).1 p) (and_cases (nat_eq r.first (suc last)) (same r.value v) e)

put_on-in : {V : Type 0} (bottom : V) (same : V → V → Bool) → Decides_same same → (first last : ℕ) (v : V) (rs : List (Run V)) (t : ℕ) → AreRunsFrom bottom (suc last) rs → first ≤ t → t ≤ last → value_at bottom (put_on same first last v rs) t ≡ v
put_on-in bottom same d first last v [] t a h k = value_at-in bottom (run_of first last v) [] t h k
put_on-in bottom same d first last v (r ∷ rs) t a h k =
    elim (cases_Bool (joins same last v r)) [
      | inl e ↦ rw e (value_at-in bottom (run_of first r.last v) rs t h (omega (arith, a.0, a.1)))
      | inr e ↦ rw e (value_at-in bottom (run_of first last v) (r ∷ rs) t h k)
    ]

put_on-above : {V : Type 0} (bottom : V) (same : V → V → Bool) → Decides_same same → (first last : ℕ) (v : V) (rs : List (Run V)) (t : ℕ) → AreRunsFrom bottom (suc last) rs → first ≤ last → last < t → value_at bottom (put_on same first last v rs) t ≡ value_at bottom rs t
put_on-above bottom same d first last v [] t a n h = value_at-above bottom (run_of first last v) [] t h
put_on-above bottom same d first last v (r ∷ rs) t a n h =
    elim (cases_Bool (joins same last v r)) [
      | inl e ↦
          let j = joins_at same d last v r e in
          rw e (elim (cases_lt r.last t) [
            | inl b ↦ value_at-above bottom (run_of first r.last v) rs t b ∙ sym (value_at-above bottom r rs t b)
            | inr b ↦ value_at-in bottom (run_of first r.last v) rs t (omega arith) b ∙ (sym j.1 ∙ sym (value_at-in bottom r rs t (omega (arith, j.0)) b))
          ])
      | inr e ↦ rw e (value_at-above bottom (run_of first last v) (r ∷ rs) t h)
    ]

put_on-below : {V : Type 0} (bottom : V) (same : V → V → Bool) → Decides_same same → (first last : ℕ) (v : V) (rs : List (Run V)) (t : ℕ) → AreRunsFrom bottom (suc last) rs → first ≤ last → t < first → value_at bottom (put_on same first last v rs) t ≡ bottom
put_on-below bottom same d first last v [] t a n h = value_at-below bottom (run_of first last v) [] t h
put_on-below bottom same d first last v (r ∷ rs) t a n h =
    elim (cases_Bool (joins same last v r)) [
      | inl e ↦ rw e (value_at-below bottom (run_of first r.last v) rs t h ∙ value_at-start bottom (suc r.last) rs t a.4 (omega (arith, a.0, a.1)))
      | inr e ↦ rw e (value_at-below bottom (run_of first last v) (r ∷ rs) t h ∙ value_at-start bottom (suc last) (r ∷ rs) t a (omega arith))
    ]

put_on-runs : {V : Type 0} (bottom : V) (same : V → V → Bool) → Decides_same same → (first last : ℕ) (v : V) (rs : List (Run V)) → AreRunsFrom bottom (suc last) rs → first ≤ last → v ≢ bottom → AreRunsFrom bottom first (put_on same first last v rs)
put_on-runs bottom same d first last v [] a n w = (le_refl first, n, w, tt, tt)
put_on-runs bottom same d first last v (r ∷ rs) a n w =
    elim (cases_Bool (joins same last v r)) [
      | inl e ↦
          let j = joins_at same d last v r e in
          rw e (le_refl first, omega (arith, a.0, a.1), w, starts_as r rs v a.3 j.1, a.4)
      | inr e ↦ rw e (le_refl first, n, w, joins_not same d last v r e, a)
    ]
  where
    starts_as : {V : Type 0} (r : Run V) (rs : List (Run V)) (v : V) → StartsApart r rs → r.value ≡ v → StartsApart (run_of first r.last v) rs
    starts_as r [] v s e = tt
    starts_as r (q ∷ qs) v s e = λ f g. s f (g ∙ sym e)

-- what `put` leaves: the value on its range, and the rest elsewhere
pub put-in : {V : Type 0} (bottom : V) (same : V → V → Bool) → Decides_same same → (first last : ℕ) (v : V) (rs : List (Run V)) (t : ℕ) → AreRunsFrom bottom (suc last) rs → first ≤ t → t ≤ last → value_at bottom (put bottom same first last v rs) t ≡ v
put-in bottom same d first last v rs t a h k =
    elim (cases_Bool (same v bottom)) [
      | inl e ↦ rw e (value_at-start bottom (suc last) rs t a (omega arith) ∙ sym ((d v bottom).0 e))
      | inr e ↦ rw e (put_on-in bottom same d first last v rs t a h k)
    ]

pub put-above : {V : Type 0} (bottom : V) (same : V → V → Bool) → Decides_same same → (first last : ℕ) (v : V) (rs : List (Run V)) (t : ℕ) → AreRunsFrom bottom (suc last) rs → first ≤ last → last < t → value_at bottom (put bottom same first last v rs) t ≡ value_at bottom rs t
put-above bottom same d first last v rs t a n h =
    elim (cases_Bool (same v bottom)) [
      | inl e ↦ rw e refl
      | inr e ↦ rw e (put_on-above bottom same d first last v rs t a n h)
    ]

pub put-below : {V : Type 0} (bottom : V) (same : V → V → Bool) → Decides_same same → (first last : ℕ) (v : V) (rs : List (Run V)) (t : ℕ) → AreRunsFrom bottom (suc last) rs → first ≤ last → t < first → value_at bottom (put bottom same first last v rs) t ≡ bottom
put-below bottom same d first last v rs t a n h =
    elim (cases_Bool (same v bottom)) [
      | inl e ↦ rw e (value_at-start bottom (suc last) rs t a (omega arith))
      | inr e ↦ rw e (put_on-below bottom same d first last v rs t a n h)
    ]

-- fewer demands on where the runs begin
pub AreRunsFrom-lower : {V : Type 0} (bottom : V) (a b : ℕ) (rs : List (Run V)) → a ≤ b → AreRunsFrom bottom b rs → AreRunsFrom bottom a rs
AreRunsFrom-lower bottom a b [] h r = tt
AreRunsFrom-lower bottom a b (q ∷ qs) h r = (omega (arith, r.0), r.1, r.2, r.3, r.4)

pub put-runs : {V : Type 0} (bottom : V) (same : V → V → Bool) → Decides_same same → (first last : ℕ) (v : V) (rs : List (Run V)) → AreRunsFrom bottom (suc last) rs → first ≤ last → AreRunsFrom bottom first (put bottom same first last v rs)
put-runs bottom same d first last v rs a n =
    elim (cases_Bool (same v bottom)) [
      | inl e ↦ rw e (AreRunsFrom-lower bottom first (suc last) rs (omega arith) a)
      | inr e ↦ rw e (put_on-runs bottom same d first last v rs a n ((d v bottom).1 e))
    ]

-- a list rises strictly from above a number on
abbrev pub Rises : ℕ → List ℕ → Type 0
Rises p [] = Unit {0}
Rises p (q ∷ qs) = (p < q) × Rises q qs

pub IsNone-below : (p t : ℕ) (qs : List ℕ) → Rises p qs → t ≤ p → IsNone t qs
IsNone-below p t [] r h = tt
IsNone-below p t (q ∷ qs) r h = (λ e. omega (arith, r.0, e), IsNone-below q t qs r.1 (omega (arith, r.0)))

-- a function that takes no step between two ticks has one value there
steady_between : {V : Type 0} (g : ℕ → V) (p : ℕ) (d : ℕ) → ((t : ℕ) → p ≤ t → t < p + d → g (suc t) ≡ g t) → g (p + d) ≡ g p
steady_between g p zero h = rw add-zero refl
steady_between g p (suc d) h = rw add-suc (h (p + d) (omega arith) (omega arith) ∙ steady_between g p d (λ t a b. h t a (omega arith)))

steady_to : {V : Type 0} (g : ℕ → V) (p t : ℕ) → p ≤ t → ((u : ℕ) → p ≤ u → u < t → g (suc u) ≡ g u) → g t ≡ g p
steady_to g p t l h =
    let e : p + (t - p) ≡ t = omega arith in
    subst (λ x. g x ≡ g p) e (steady_between g p (t - p) (λ u a b. h u a (omega arith)))

-- what a tabulated function has between its points
record Tabulates {V : Type 0} (bottom : V) (g : ℕ → V) (p : ℕ) (rs : List (Run V)) : Type 0 where
  runs : AreRunsFrom bottom p rs
  same_at : (t : ℕ) → p ≤ t → value_at bottom rs t ≡ g t

tabulate_from-is : {V : Type 0} (bottom : V) (same : V → V → Bool) → Decides_same same → (g : ℕ → V) (p : ℕ) (qs : List ℕ) → Rises p qs → ((t : ℕ) → p ≤ t → IsNone (suc t) qs → g (suc t) ≡ g t) → ((t : ℕ) → p ≤ t → IsPast t qs → g t ≡ bottom) → Tabulates bottom g p (tabulate_from bottom same g p qs)
tabulate_from-is bottom same d g p [] r step past = record { runs = tt; same_at = λ t h. sym (past t h tt) }
tabulate_from-is bottom same d g p (q ∷ qs) r step past =
    let rest = tabulate_from-is bottom same d g q qs r.1 (λ t h n. step t (omega (arith, r.0)) (λ e. omega (arith, e), n)) (λ t h n. past t (omega (arith, r.0)) (h, n)) in
    let s : suc (q - 1) ≡ q = omega (arith, r.0) in
    let a : AreRunsFrom bottom (suc (q - 1)) (tabulate_from bottom same g q qs) = subst (λ x. AreRunsFrom bottom x (tabulate_from bottom same g q qs)) (sym s) rest.runs in
    record {
      runs = put-runs bottom same d p (q - 1) (g p) (tabulate_from bottom same g q qs) a (omega (arith, r.0));
      same_at = λ t h. elim (cases_lt t q) [
        | inl b ↦ put-in bottom same d p (q - 1) (g p) (tabulate_from bottom same g q qs) t a h (omega arith) ∙ sym (steady_to g p t h (λ u v w. step u v (λ e. omega (arith, e), IsNone-below q (suc u) qs r.1 (omega arith))))
        | inr b ↦ put-above bottom same d p (q - 1) (g p) (tabulate_from bottom same g q qs) t a (omega (arith, r.0)) (omega (arith, r.0)) ∙ rest.same_at t b
      ];
    }

-- a list that rises strictly
abbrev pub IsRising : List ℕ → Type 0
IsRising [] = Unit {0}
IsRising (p ∷ ps) = Rises p ps

add_point-rises : (b p : ℕ) (qs : List ℕ) → b < p → Rises b qs → Rises b (add_point p qs)
add_point-rises b p [] h r = (h, tt)
add_point-rises b p (q ∷ qs) h r =
    elim (cases_Bool (nat_lt p q)) [
      | inl e ↦ rw e (h, (ltb-true p q e, r.1))
      | inr e ↦ rw e (elim (cases_Bool (nat_eq p q)) [
        | inl f ↦ rw f r
        | inr f ↦ rw f (r.0, add_point-rises q p qs (let n : p ≡ q → ⊥ = eqb-false p q f in omega (arith, ltb-false p q e, n)) r.1)
      ])
    ]

add_point-rising : (p : ℕ) (qs : List ℕ) → IsRising qs → IsRising (add_point p qs)
add_point-rising p [] r = tt
add_point-rising p (q ∷ qs) r =
    elim (cases_Bool (nat_lt p q)) [
      | inl e ↦ rw e (ltb-true p q e, r)
      | inr e ↦ rw e (elim (cases_Bool (nat_eq p q)) [
        | inl f ↦ rw f r
        | inr f ↦ rw f (add_point-rises q p qs (let n : p ≡ q → ⊥ = eqb-false p q f in omega (arith, ltb-false p q e, n)) r)
      ])
    ]

pub sorted-rising : (ps : List ℕ) → IsRising (sorted ps)
sorted-rising [] = tt
sorted-rising (p ∷ ps) = add_point-rising p (sorted ps) (sorted-rising ps)

add_point-none : (t p : ℕ) (qs : List ℕ) → IsNone t (add_point p qs) → (t ≢ p) × IsNone t qs
add_point-none t p [] = λ n. n
add_point-none t p (q ∷ qs) =
    elim (cases_Bool (nat_lt p q)) [
      | inl e ↦ rw e (λ n. n)
      | inr e ↦ rw e (elim (cases_Bool (nat_eq p q)) [
        | inl f ↦ rw f (λ n. (λ g. n.0 (g ∙ eqb-true p q f), n))
        | inr f ↦ rw f (λ n. let k = add_point-none t p qs n.1 in (k.0, (n.0, k.1)))
      ])
    ]

add_point-past : (t p : ℕ) (qs : List ℕ) → IsPast t (add_point p qs) → (p ≤ t) × IsPast t qs
add_point-past t p [] = λ n. n
add_point-past t p (q ∷ qs) =
    elim (cases_Bool (nat_lt p q)) [
      | inl e ↦ rw e (λ n. n)
      | inr e ↦ rw e (elim (cases_Bool (nat_eq p q)) [
        | inl f ↦ rw f (λ n. (omega (arith, n.0, eqb-true p q f), n))
        | inr f ↦ rw f (λ n. let k = add_point-past t p qs n.1 in (k.0, (n.0, k.1)))
      ])
    ]

pub sorted-none : (t : ℕ) (ps : List ℕ) → IsNone t (sorted ps) → IsNone t ps
sorted-none t [] n = tt
sorted-none t (p ∷ ps) n = let k = add_point-none t p (sorted ps) n in (k.0, sorted-none t ps k.1)

pub sorted-past : (t : ℕ) (ps : List ℕ) → IsPast t (sorted ps) → IsPast t ps
sorted-past t [] n = tt
sorted-past t (p ∷ ps) n = let k = add_point-past t p (sorted ps) n in (k.0, sorted-past t ps k.1)

pub IsNone-append : (t : ℕ) (ps qs : List ℕ) → IsNone t (ps ++ qs) → IsNone t ps × IsNone t qs
IsNone-append t [] qs n = (tt, n)
IsNone-append t (p ∷ ps) qs n = let k = IsNone-append t ps qs n.1 in ((n.0, k.0), k.1)

pub IsPast-append : (t : ℕ) (ps qs : List ℕ) → IsPast t (ps ++ qs) → IsPast t ps × IsPast t qs
IsPast-append t [] qs n = (tt, n)
IsPast-append t (p ∷ ps) qs n = let k = IsPast-append t ps qs n.1 in ((n.0, k.0), k.1)

-- canonical runs with the values of a function
pub record AreRunsOf {V : Type 0} (bottom : V) (g : ℕ → V) (rs : List (Run V)) : Type 0 where
  pub runs : AreRuns bottom rs
  pub same_at : (t : ℕ) → value_at bottom rs t ≡ g t

from_one : {V : Type 0} (bottom : V) (p : ℕ) (rs : List (Run V)) → AreRunsFrom bottom p rs → (p ≡ 0 → value_at bottom rs 0 ≡ bottom) → AreRunsFrom bottom 1 rs
from_one bottom p [] a z = tt
from_one bottom p (r ∷ rs) a z =
    elim (cases_lt 0 r.first) [
      | inl h ↦ (h, a.1, a.2, a.3, a.4)
      | inr h ↦ absurd (a.2 (sym (value_at-in bottom r rs 0 h (omega arith)) ∙ z (omega (arith, a.0))))
    ]

tabulate_sorted-is : {V : Type 0} (bottom : V) (same : V → V → Bool) → Decides_same same → (g : ℕ → V) (ps : List ℕ) → IsRising ps → IsSteady bottom g ps → AreRunsOf bottom g (tabulate_sorted bottom same g ps)
tabulate_sorted-is bottom same d g [] r s = record { runs = tt; same_at = λ t. sym (s.past t tt) }
tabulate_sorted-is bottom same d g (p ∷ ps) r s =
    let k = tabulate_from-is bottom same d g p ps r (λ t h n. s.step t (λ e. omega (arith, e), n)) (λ t h n. s.past t (h, n)) in
    record {
      runs = from_one bottom p (tabulate_from bottom same g p ps) k.runs (λ e. k.same_at 0 (omega arith) ∙ s.start);
      same_at = λ t. elim (cases_lt t p) [
        | inl b ↦ value_at-start bottom p (tabulate_from bottom same g p ps) t k.runs b ∙ sym (steady_to g 0 t (omega arith) (λ u v w. s.step u (λ e. omega (arith, e), IsNone-below p (suc u) ps r (omega arith))) ∙ s.start)
        | inr b ↦ k.same_at t b
      ];
    }

pub tabulate-is : {V : Type 0} (bottom : V) (same : V → V → Bool) → Decides_same same → (g : ℕ → V) (ps : List ℕ) → IsSteady bottom g ps → AreRunsOf bottom g (tabulate bottom same g ps)
tabulate-is bottom same d g ps s =
    tabulate_sorted-is bottom same d g (sorted ps) (sorted-rising ps) (record {
      start = s.start;
      step = λ t n. s.step t (sorted-none (suc t) ps n);
      past = λ t n. s.past t (sorted-past t ps n);
    })

pub value_at-step : {V : Type 0} (bottom : V) (rs : List (Run V)) (t : ℕ) → IsNone (suc t) (points rs) → value_at bottom rs (suc t) ≡ value_at bottom rs t
value_at-step bottom [] t n = refl
value_at-step bottom (r ∷ rs) t n =
    let i = value_at-step bottom rs t n.1.1 in
    let a : suc t ≡ r.first → ⊥ = n.0 in
    let b : suc t ≡ suc r.last → ⊥ = n.1.0 in
    elim (cases_lt (suc t) r.first) [
      | inl h ↦ value_at-below bottom r rs (suc t) h ∙ (i ∙ sym (value_at-below bottom r rs t (omega arith)))
      | inr h ↦ elim (cases_lt r.last (suc t)) [
        | inl k ↦ value_at-above bottom r rs (suc t) k ∙ (i ∙ sym (value_at-above bottom r rs t (omega arith)))
        | inr k ↦ value_at-in bottom r rs (suc t) h k ∙ sym (value_at-in bottom r rs t (omega arith) (omega arith))
      ]
    ]

pub value_at-past : {V : Type 0} (bottom : V) (rs : List (Run V)) (t : ℕ) → IsPast t (points rs) → value_at bottom rs t ≡ bottom
value_at-past bottom [] t n = refl
value_at-past bottom (r ∷ rs) t n = value_at-above bottom r rs t (omega (arith, n.1.0)) ∙ value_at-past bottom rs t n.1.1

pub value_at-steady : {V : Type 0} (bottom : V) (rs : List (Run V)) → AreRuns bottom rs → IsSteady bottom (value_at bottom rs) (points rs)
value_at-steady bottom rs a = record {
  start = value_at-start bottom 1 rs 0 a (omega arith);
  step = λ t n. value_at-step bottom rs t n;
  past = λ t n. value_at-past bottom rs t n;
}

-- two steady functions joined tick by tick
pub IsSteady-zip : {A B V : Type 0} (a : A) (b : B) (bottom : V) (f : A → B → V) (g : ℕ → A) (h : ℕ → B) (ps qs : List ℕ) → f a b ≡ bottom → IsSteady a g ps → IsSteady b h qs → IsSteady bottom (λ t. f (g t) (h t)) (ps ++ qs)
IsSteady-zip a b bottom f g h ps qs z s u = record {
  start = ap₂ f s.start u.start ∙ z;
  step = λ t n. let k = IsNone-append (suc t) ps qs n in ap₂ f (s.step t k.0) (u.step t k.1);
  past = λ t n. let k = IsPast-append t ps qs n in ap₂ f (s.past t k.0) (u.past t k.1) ∙ z;
}

-- tick by tick, and canonical
pub zip_runs-is : {A B V : Type 0} (a : A) (b : B) (bottom : V) (same : V → V → Bool) → Decides_same same → (f : A → B → V) (xs : List (Run A)) (ys : List (Run B)) → f a b ≡ bottom → AreRuns a xs → AreRuns b ys → AreRunsOf bottom (λ t. f (value_at a xs t) (value_at b ys t)) (zip_runs a b bottom same f xs ys)
zip_runs-is a b bottom same d f xs ys z p q =
    tabulate-is bottom same d (λ t. f (value_at a xs t) (value_at b ys t)) (points xs ++ points ys) (IsSteady-zip a b bottom f (value_at a xs) (value_at b ys) (points xs) (points ys) z (value_at-steady a xs p) (value_at-steady b ys q))

pub map_runs-is : {A V : Type 0} (a : A) (bottom : V) (same : V → V → Bool) → Decides_same same → (f : A → V) (xs : List (Run A)) → f a ≡ bottom → AreRuns a xs → AreRunsOf bottom (λ t. f (value_at a xs t)) (map_runs a bottom same f xs)
map_runs-is a bottom same d f xs z p =
    let s = value_at-steady a xs p in
    tabulate-is bottom same d (λ t. f (value_at a xs t)) (points xs) (record {
      start = ap f s.start ∙ z;
      step = λ t n. ap f (s.step t n);
      past = λ t n. ap f (s.past t n) ∙ z;
    })

-- the least tick from t on that is in no run
pub record IsFirstBottom {V : Type 0} (bottom : V) (rs : List (Run V)) (t u : ℕ) : Type 0 where
  pub reached : t ≤ u
  pub known : (x : ℕ) → t ≤ x → x < u → value_at bottom rs x ≢ bottom
  pub stops : value_at bottom rs u ≡ bottom

pub first_bottom_from-is : {V : Type 0} (bottom : V) (from : ℕ) (rs : List (Run V)) (t : ℕ) → AreRunsFrom bottom from rs → IsFirstBottom bottom rs t (first_bottom_from rs t)
first_bottom_from-is bottom from [] t a = record { reached = le_refl t; known = λ x h k. absurd (omega arith); stops = refl }
first_bottom_from-is bottom from (r ∷ rs) t a =
    elim (cases_Bool (nat_lt t r.first)) [
      | inl e ↦ rw e (record {
        reached = le_refl t;
        known = λ x h k. absurd (omega arith);
        stops = value_at-below bottom r rs t (ltb-true t r.first e) ∙ value_at-start bottom (suc r.last) rs t a.4 (omega (arith, ltb-true t r.first e, a.1));
      })
      | inr e ↦
          let i = first_bottom_from-is bottom (suc r.last) rs (max t (suc r.last)) a.4 in
          let f : r.first ≤ t = ltb-false t r.first e in
          rw e (record {
            reached = omega (arith, i.reached);
            known = λ x h k. elim (cases_lt r.last x) [
              | inl b ↦ rw (value_at-above bottom r rs x b) (i.known x (omega arith) k)
              | inr b ↦ rw (value_at-in bottom r rs x (omega arith) b) a.2
            ];
            stops = value_at-above bottom r rs (first_bottom_from rs (max t (suc r.last))) (omega (arith, i.reached)) ∙ i.stops;
          })
    ]

-- the tick after a run has another value than the run
value_at-next : {V : Type 0} (bottom : V) (r : Run V) (rs : List (Run V)) → r.value ≢ bottom → StartsApart r rs → AreRunsFrom bottom (suc r.last) rs → value_at bottom rs (suc r.last) ≢ r.value
value_at-next bottom r [] n s a = λ e. n (sym e)
value_at-next bottom r (q ∷ qs) n s a =
    elim (cases_lt (suc r.last) q.first) [
      | inl h ↦ λ e. n (sym e ∙ value_at-start bottom q.first (q ∷ qs) (suc r.last) (le_refl q.first, a.1, a.2, a.3, a.4) h)
      | inr h ↦ λ e. s (omega (arith, a.0)) (sym (value_at-in bottom q qs (suc r.last) h (omega (arith, a.0, a.1))) ∙ e)
    ]

run_path : {V : Type 0} (x y : Run V) → x.first ≡ y.first → x.last ≡ y.last → x.value ≡ y.value → x ≡ y
run_path x y p q r = λ i. record { first = p i; last = q i; value = r i }

-- if they agree at each tick, the first one does not begin or end before the second
first_not_before : {V : Type 0} (bottom : V) (x y : Run V) (xs ys : List (Run V)) (p q : ℕ) → AreRunsFrom bottom p (x ∷ xs) → AreRunsFrom bottom q (y ∷ ys) → ((t : ℕ) → value_at bottom (x ∷ xs) t ≡ value_at bottom (y ∷ ys) t) → y.first ≤ x.first
first_not_before bottom x y xs ys p q a b e =
    elim (cases_lt x.first y.first) [
      | inl h ↦ absurd (a.2 (sym (value_at-in bottom x xs x.first (le_refl x.first) a.1) ∙ (e x.first ∙ value_at-start bottom y.first (y ∷ ys) x.first (le_refl y.first, b.1, b.2, b.3, b.4) h)))
      | inr h ↦ h
    ]

last_not_before : {V : Type 0} (bottom : V) (x y : Run V) (xs ys : List (Run V)) (p q : ℕ) → AreRunsFrom bottom p (x ∷ xs) → AreRunsFrom bottom q (y ∷ ys) → ((t : ℕ) → value_at bottom (x ∷ xs) t ≡ value_at bottom (y ∷ ys) t) → x.first ≡ y.first → x.value ≡ y.value → y.last ≤ x.last
last_not_before bottom x y xs ys p q a b e f v =
    elim (cases_lt x.last y.last) [
      | inl h ↦ absurd (value_at-next bottom x xs a.2 a.3 a.4 (sym (value_at-above bottom x xs (suc x.last) (omega arith)) ∙ (e (suc x.last) ∙ (value_at-in bottom y ys (suc x.last) (omega (arith, a.1)) h ∙ sym v))))
      | inr h ↦ h
    ]

-- canonical lists that agree at every tick are equal
pub runs_equal : {V : Type 0} (bottom : V) (p q : ℕ) (xs ys : List (Run V)) → AreRunsFrom bottom p xs → AreRunsFrom bottom q ys → ((t : ℕ) → value_at bottom xs t ≡ value_at bottom ys t) → xs ≡ ys
runs_equal bottom p q [] [] a b e = refl
runs_equal bottom p q [] (y ∷ ys) a b e = absurd (b.2 (sym (value_at-in bottom y ys y.first (le_refl y.first) b.1) ∙ sym (e y.first)))
runs_equal bottom p q (x ∷ xs) [] a b e = absurd (a.2 (sym (value_at-in bottom x xs x.first (le_refl x.first) a.1) ∙ e x.first))
runs_equal bottom p q (x ∷ xs) (y ∷ ys) a b e =
    let f : x.first ≡ y.first = le_antisymm (first_not_before bottom y x ys xs q p b a (λ t. sym (e t))) (first_not_before bottom x y xs ys p q a b e) in
    let v : x.value ≡ y.value = sym (value_at-in bottom x xs x.first (le_refl x.first) a.1) ∙ (e x.first ∙ value_at-in bottom y ys x.first (omega arith) (omega (arith, b.1))) in
    let l : x.last ≡ y.last = le_antisymm (last_not_before bottom y x ys xs q p b a (λ t. sym (e t)) (sym f) (sym v)) (last_not_before bottom x y xs ys p q a b e f v) in
    let rest : xs ≡ ys = runs_equal bottom (suc x.last) (suc y.last) xs ys a.4 b.4 (λ t. elim (cases_lt x.last t) [
      | inl h ↦ sym (value_at-above bottom x xs t h) ∙ (e t ∙ value_at-above bottom y ys t (omega arith))
      | inr h ↦ value_at-start bottom (suc x.last) xs t a.4 (omega arith) ∙ sym (value_at-start bottom (suc y.last) ys t b.4 (omega arith))
    ]) in
    ap₂ (λ z zs. z ∷ zs) (run_path x y f l v) rest

-- the test is true at equals alone, and at all equals
pub record Tells {V : Type 0} (same : V → V → Bool) : Type 0 where
  pub equal : (a b : V) → same a b ≡ true → a ≡ b
  pub itself : (a : V) → same a a ≡ true

pub Tells-decides : {V : Type 0} (same : V → V → Bool) → Tells same → Decides_same same
Tells-decides same h a b = (h.equal a b, λ f e. false≢true (sym f ∙ (ap (λ x. same a x) (sym e) ∙ h.itself a)))
