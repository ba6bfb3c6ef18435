-- The first tick with an event: the runs before it have none, so nothing is to be lowered there.
use Rattle.std.proofs.Common.{◌≡◌, ℕ, zero, suc, Bool, ◌+◌, ◌<◌, inl, inr, min, true, false, ◌&&◌, [], ◌∷◌, ◌++◌, length, take, drop, get_or, nat_le, refl, sym, ap, ◌∙◌, subst, true≢false, arith}
use Rattle.std.specs.Prelude.{if◌then◌else◌}
use Rattle.std.proofs.lemmas.Bool.{cases_lt}
use Rattle.gr_tick.specs.declared.run.Run.{Run}
use Rattle.gr_tick.specs.Runs.{is_in, AreRunsFrom}
use Rattle.gr_tick.specs.Stored.{within, EndBefore, RunsGive}
use Rattle.gr_tick.proofs.RunLaws.{value_at-in, value_at-above, value_at-start}
use Rattle.gr_know.specs.declared.values.K.{K}
use Rattle.gr_know.specs.declared.values.K.TheVariants.{Q, S, D, F}
use Rattle.gr_know.specs.Values.{Known, known_at, is_D, join_K}
use Rattle.gr_know.specs.Forget.{lower_data, NoDataBelow}
use Rattle.gr_know.proofs.ForgetLemmas.{lower_past}

-- no run has an event
abbrev pub Dataless : Known → Type 0
Dataless [] = Unit {0}
Dataless (r ∷ rs) = (is_D r.value ≡ false) × Dataless rs

-- what holds of both values holds of the choice
pub none_of : (b : Bool) (x y : K) → is_D x ≡ false → is_D y ≡ false → is_D (if b then x else y) ≡ false
none_of true x y p q = p
none_of false x y p q = q

-- runs that end before the tick
pub front_dataless : (from p i : ℕ) (rs : Known) → AreRunsFrom Q p rs → EndBefore (take i rs) from → NoDataBelow from rs → Dataless (take i rs)
front_dataless from p zero rs a b n = tt
front_dataless from p (suc i) [] a b n = tt
front_dataless from p (suc i) (r ∷ rs) a b n =
    let begun : r.first < from = omega (arith, a.1, b.0) in (
      sym (ap is_D (value_at-in Q r rs r.first (omega arith) a.1)) ∙ n r.first begun,
      front_dataless from (suc r.last) i rs a.4 b.1 (λ t lt. elim (cases_lt r.last t) [
        | inl h ↦ sym (ap is_D (value_at-above Q r rs t h)) ∙ n t lt
        | inr h ↦ ap is_D (value_at-start Q (suc r.last) rs t a.4 (omega (arith, h)))
      ]),
    )

-- one run more
dataless_next : (i : ℕ) (rs : Known) (r : Run K) → i < length rs → r ≡ get_or rs i r → is_D r.value ≡ false → Dataless (take i rs) → Dataless (take (suc i) rs)
dataless_next i [] r lt e n d = absurd (omega (arith, lt))
dataless_next zero (x ∷ xs) r lt e n d = (sym (ap (λ z. is_D z.value) e) ∙ n, tt)
dataless_next (suc i) (x ∷ xs) r lt e n d = (d.0, dataless_next i xs r (omega (arith, lt)) e n d.1)

pub dataless_more : (i : ℕ) (rs : Known) (r : Run K) → i < length rs → r ≡ get_or rs i r → is_D r.value ≡ false → Dataless (take i rs) → Dataless (take (i + 1) rs)
dataless_more i rs r lt e n d =
    let next : suc i ≡ i + 1 = omega arith in
    subst (λ m. Dataless (take m rs)) next (dataless_next i rs r lt e n d)

-- the first run with an event
pub dataless_before : (p i : ℕ) (rs : Known) (r : Run K) → AreRunsFrom Q p rs → i < length rs → r ≡ get_or rs i r → Dataless (take i rs) → NoDataBelow r.first rs
dataless_before p i [] r a lt e d = λ t h. refl
dataless_before p zero (x ∷ xs) r a lt e d = λ t h.
    let begun : t < x.first = omega (arith, h, ap (λ z. z.first) e) in
    ap is_D (value_at-start Q x.first (x ∷ xs) t (omega arith, a.1, a.2, a.3, a.4) begun)
dataless_before p (suc i) (x ∷ xs) r a lt e d = λ t h.
    none_of (is_in t x) x.value (known_at xs t) d.0 (dataless_before (suc x.last) i xs r a.4 (omega (arith, lt)) e d.1 t h)

-- no run at all
pub dataless_all : (n : ℕ) (rs : Known) → Dataless rs → NoDataBelow n rs
dataless_all n [] d = λ t h. refl
dataless_all n (x ∷ xs) d = λ t h. none_of (is_in t x) x.value (known_at xs t) d.0 (dataless_all n xs d.1 t h)

-- nothing is lowered in them
pub dataless_front : (n upto i : ℕ) (rs : Known) → Dataless (take i rs) → take i rs ++ lower_data n upto (drop i rs) ≡ lower_data n upto rs
dataless_front n upto zero rs d = refl
dataless_front n upto (suc i) [] d = refl
dataless_front n upto (suc i) (x ∷ xs) d =
    ap (λ zs. x ∷ zs) (dataless_front n upto i xs d.1) ∙ sym (lower_past n upto x xs (ap (λ b. b && nat_le x.first upto) d.0))

-- What edits keep

join_none : (a b : K) → is_D a ≡ false → is_D b ≡ false → is_D (join_K a b) ≡ false
join_none Q b p q = q
join_none F b p q = refl
join_none S Q p q = refl
join_none S S p q = refl
join_none S F p q = refl
join_none S (D e) p q = refl
join_none (D e) b p q = absurd (true≢false p)

-- a piece is joined
pub below_joined : (n m : ℕ) (old new piece : Known) → RunsGive Q new (λ t. join_K (known_at old t) (known_at piece t)) → NoDataBelow n old → NoDataBelow m piece → NoDataBelow (min n m) new
below_joined n m old new piece g a b = λ t h.
    ap is_D (g.values t) ∙ join_none (known_at old t) (known_at piece t) (a t (omega (arith, h))) (b t (omega (arith, h)))

-- a range is final
pub below_finished : (n first last : ℕ) (old new : Known) → RunsGive Q new (λ t. if within first last t then F else known_at old t) → NoDataBelow n old → NoDataBelow n new
below_finished n first last old new g a = λ t h. ap is_D (g.values t) ∙ none_of (within first last t) F (known_at old t) refl (a t h)
