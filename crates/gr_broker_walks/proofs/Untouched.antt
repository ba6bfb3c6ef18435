-- Where a child wants no tick that a piece tells, it is sent the piece as it is, and nothing that it asked is answered.
use Rattle.std.proofs.Common.{◌≡◌, ℕ, zero, suc, ◌+◌, ◌<◌, ◌≤◌, ◌⊎◌, inl, inr, Bool, true, false, not, ◌&&◌, List, [], ◌∷◌, length, get_or, refl, sym, ap, ◌∙◌, arith}
use Rattle.std.specs.Prelude.{if◌then◌else◌}
use Rattle.std.proofs.lemmas.Bool.{cases_lt}
use Rattle.gr_tick.specs.declared.run.Run.{Run}
use Rattle.gr_tick.specs.Runs.{value_at, AreRunsFrom, AreRuns}
use Rattle.gr_tick.specs.Stored.{EndBefore, RunsGive}
use Rattle.gr_tick.proofs.RunLaws.{value_at-start}
use Rattle.gr_tick.proofs.RunsLemmas.{value_at_past}
use Rattle.gr_know.specs.declared.values.K.{K}
use Rattle.gr_know.specs.declared.values.K.TheVariants.{Q}
use Rattle.gr_know.specs.Values.{Known, known_at, is_Q}
use Rattle.gr_curio.specs.declared.values.Q3.{Q3}
use Rattle.gr_curio.specs.declared.values.Q3.TheVariants.{N, C, A}
use Rattle.gr_curio.specs.Values.{Wanted, wanted_at, is_A, is_C}

-- What is told lies from the first run to the last

module _ {V : Type 0} (least : V) where
  -- with no run nothing is told
  pub told_nowhere : (xs : List (Run V)) (t : ℕ) → length xs ≡ 0 → value_at least xs t ≡ least
  told_nowhere [] t e = refl
  told_nowhere (x ∷ xs) t e = absurd (omega (arith, e))

  -- nothing is told before the first run
  pub told_from : (xs : List (Run V)) (r : Run V) (t : ℕ) → AreRuns least xs → r ≡ get_or xs 0 r → t < r.first → value_at least xs t ≡ least
  told_from [] r t a e lt = refl
  told_from (x ∷ xs) r t a e lt =
      value_at-start least x.first (x ∷ xs) t (omega arith, a.1, a.2, a.3, a.4) (omega (arith, lt, ap (λ (z : Run V). z.first) e))

  -- all runs end by the end of the last
  told_upto : (n from : ℕ) (xs : List (Run V)) (s : Run V) → AreRunsFrom least from xs → length xs ≡ n + 1 → s ≡ get_or xs n s → EndBefore xs (s.last + 1)
  told_upto n from [] s a l e = tt
  told_upto zero from (x ∷ []) s a l e = (omega (arith, ap (λ (z : Run V). z.last) e), tt)
  told_upto zero from (x ∷ y ∷ ys) s a l e = absurd (omega (arith, l))
  told_upto (suc m) from (x ∷ []) s a l e = absurd (omega (arith, l))
  told_upto (suc m) from (x ∷ y ∷ ys) s a l e =
      let rest : EndBefore (y ∷ ys) (s.last + 1) = told_upto m (suc x.last) (y ∷ ys) s a.4 (omega (arith, l)) e in
      (omega (arith, a.4.0, a.4.1, rest.0), rest)

  -- so what holds from there to there holds at each tick that is told
  pub told_between : (xs : List (Run V)) (r s : Run V) (n t : ℕ) (P : Type 0) → AreRuns least xs → length xs ≡ n + 1 → r ≡ get_or xs 0 r → s ≡ get_or xs n s → (r.first ≤ t → t ≤ s.last → P) → (value_at least xs t ≡ least) ⊎ P
  told_between xs r s n t P a l er es holds =
      elim (cases_lt t r.first) [
        | inl before ↦ inl (told_from xs r t a er before)
        | inr begun ↦ upto begun (cases_lt s.last t)
      ]
    where
      upto : r.first ≤ t → (s.last < t) ⊎ (t ≤ s.last) → (value_at least xs t ≡ least) ⊎ P
      upto begun (inl past) = inl (value_at_past least xs (s.last + 1) t (told_upto n 1 xs s a l es) (omega (arith, past)))
      upto begun (inr inside) = inr (holds begun inside)

-- A piece that tells only ticks that are not wanted

-- all of it is sent
whole_value : (k : K) (q : Q3) → (k ≡ Q) ⊎ (q ≡ N) → k ≡ (if is_A q then Q else k)
whole_value k N h = refl
whole_value k C h = refl
whole_value k A (inl e) = e
whole_value k A (inr e) = cc

pub sent_whole : (w : Wanted) (passed : Known) (g : ℕ → K) → RunsGive Q passed g → ((t : ℕ) → (known_at passed t ≡ Q) ⊎ (wanted_at w t ≡ N)) → RunsGive Q passed (λ t. if is_A (wanted_at w t) then Q else known_at passed t)
sent_whole w passed g given untouched = record {
  canonical = given.canonical;
  in_range = given.in_range;
  values = λ t. whole_value (known_at passed t) (wanted_at w t) (untouched t);
}

-- and nothing is answered
none_asked : (b : Bool) → N ≡ (if b && false then C else N)
none_asked true = refl
none_asked false = refl

none_value : (k : K) (q : Q3) → (k ≡ Q) ⊎ (q ≡ N) → N ≡ (if not (is_Q k) && is_C q then C else N)
none_value k q (inl e) = ap (λ (x : K). if not (is_Q x) && is_C q then C else N) (sym e)
none_value k q (inr e) = none_asked (not (is_Q k)) ∙ ap (λ (x : Q3). if not (is_Q k) && is_C x then C else N) (sym e)

pub answers_none : (w : Wanted) (passed : Known) (none : Wanted) → none ≡ [] → ((t : ℕ) → (known_at passed t ≡ Q) ⊎ (wanted_at w t ≡ N)) → RunsGive N none (λ t. if not (is_Q (known_at passed t)) && is_C (wanted_at w t) then C else N)
answers_none w passed none e untouched = record {
  canonical = rw e tt;
  in_range = rw e tt;
  values = λ t. ap (λ (x : Wanted). wanted_at x t) e ∙ none_value (known_at passed t) (wanted_at w t) (untouched t);
}
