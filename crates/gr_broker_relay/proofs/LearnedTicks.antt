-- What learning leaves of one tick: its value before, what came of it, and whether it is consolidated then.
use Rattle.std.proofs.Common.{◌≡◌, ◌≢◌, ℕ, suc, ◌≤◌, ◌<◌, inl, inr, Bool, true, false, not, ◌&&◌, ◌||◌, cond, List, [], ◌∷◌, refl, sym, ap, ◌∙◌, arith}
use Rattle.std.specs.Prelude.{nat_le, nat_lt, if◌then◌else◌}
use Rattle.std.proofs.lemmas.Bool.{false≢true, true≢false, cases_lt}
use Rattle.std.proofs.lemmas.Bool.Decides.{nat_tests}
use Rattle.gr_tick.specs.declared.run.Run.{Run}
use Rattle.gr_tick.specs.Runs.{is_in, value_at, AreRunsFrom, AreRuns}
use Rattle.gr_tick.specs.Stored.{is_told, EndBefore}
use Rattle.gr_tick.proofs.RunLaws.{value_at-in, value_at-above}
use Rattle.gr_know.specs.declared.values.K.{K}
use Rattle.gr_know.specs.declared.values.K.TheVariants.{F}
use Rattle.gr_know.specs.Values.{is_Q, join_K}
use Rattle.gr_curio.specs.declared.values.Q3.{Q3}
use Rattle.gr_curio.specs.declared.values.Q3.TheVariants.{N, C, A}
use Rattle.gr_curio.specs.Values.{is_C}
use Rattle.gr_curio.specs.Wants.{answered_of}

-- Runs and values

module _ {V : Type 0} where
  -- what a list tells of a tick is not least, and what it does not tell is
  abbrev ToldAt : V → List (Run V) → ℕ → Type 0
  ToldAt least rs t = (is_told rs t ≡ true → value_at least rs t ≢ least) × (is_told rs t ≡ false → value_at least rs t ≡ least)

  told_more : (least : V) (r : Run V) (rs : List (Run V)) (t : ℕ) (b : Bool) → r.value ≢ least → ToldAt least rs t
      → ((b || is_told rs t) ≡ true → cond b r.value (value_at least rs t) ≢ least) × ((b || is_told rs t) ≡ false → cond b r.value (value_at least rs t) ≡ least)
  told_more least r rs t true k h = (λ e. k, λ e. absurd (true≢false e))
  told_more least r rs t false k h = h

  told_from : (least : V) (from : ℕ) (rs : List (Run V)) (t : ℕ) → AreRunsFrom least from rs → ToldAt least rs t
  told_from least from [] t a = (λ e. absurd (false≢true e), λ e. refl)
  told_from least from (r ∷ rs) t a = told_more least r rs t (is_in t r) a.2 (told_from least (suc r.last) rs t a.4)

  -- so the value of canonical runs says whether a tick is told
  pub told_by_value : (least : V) (rs : List (Run V)) (t : ℕ) → AreRuns least rs → ToldAt least rs t
  told_by_value least rs t a = told_from least 1 rs t a

  ends_from : (least : V) (from n : ℕ) (rs : List (Run V)) → AreRunsFrom least from rs → ((t : ℕ) → n ≤ t → value_at least rs t ≡ least) → EndBefore rs n
  ends_from least from n [] a h = tt
  ends_from least from n (r ∷ rs) a h =
      let end : r.last < n = elim (cases_lt r.last n) [
        | inl y ↦ y
        | inr y ↦ absurd (a.2 (sym (value_at-in least r rs r.last a.1 (omega arith)) ∙ h r.last y))
      ] in
      (end, ends_from least (suc r.last) n rs a.4 (λ t y. let past : r.last < t = omega (arith, end, y) in sym (value_at-above least r rs t past) ∙ h t y))

  -- canonical runs with no value from a tick on end before it
  pub EndBefore-values : (least : V) (n : ℕ) (rs : List (Run V)) → AreRuns least rs → ((t : ℕ) → n ≤ t → value_at least rs t ≡ least) → EndBefore rs n
  EndBefore-values least n rs a h = ends_from least 1 n rs a h

-- Values

-- curiosity that was answered is that of the ticks which the answers tell
pub quench_value : (b : Bool) (s : K) (a v : Q3) → (b ≡ true → v ≢ N) → (b ≡ false → v ≡ N) → v ≡ (if not (is_Q s) && is_C a then C else N) → (if b then N else a) ≡ answered_of (not (is_Q s)) a
quench_value b s a v y n e = by_cases b (not (is_Q s)) a y n e
  where
    by_cases : (b x : Bool) (a : Q3) → (b ≡ true → v ≢ N) → (b ≡ false → v ≡ N) → v ≡ (if x && is_C a then C else N) → (if b then N else a) ≡ answered_of x a
    by_cases true false a y n e = absurd (y refl e)
    by_cases true true N y n e = refl
    by_cases true true C y n e = refl
    by_cases true true A y n e = absurd (y refl e)
    by_cases false false a y n e = refl
    by_cases false true N y n e = refl
    by_cases false true C y n e = let clash : N ≡ C = sym (n refl) ∙ e in cc
    by_cases false true A y n e = refl

-- a horizon that moves on consolidates what it passes
pub consolidates_more : (h reached t : ℕ) (a : Bool) → h ≤ reached → (nat_le 1 t && nat_le t reached && a) ≡ ((nat_le 1 t && nat_le t h && a) || (nat_lt h t && nat_le t reached && a))
consolidates_more h reached t true le = grind (arith, nat_tests)
consolidates_more h reached t false le = grind (arith, nat_tests)

-- and where none is kept it passes nothing
pub consolidates_same : (h reached t : ℕ) (a c : Bool) → reached ≡ h → c ≡ (c || (nat_lt h t && nat_le t reached && a))
consolidates_same h reached t true true e = refl
consolidates_same h reached t false true e = refl
consolidates_same h reached t true false e = grind (arith, nat_tests)
consolidates_same h reached t false false e = grind (arith, nat_tests)

-- what was consolidated before is final already
pub finish_value : (k x : K) (before more : Bool) → (before ≡ true → k ≡ F) → (if more then F else join_K k x) ≡ (if before || more then F else join_K k x)
finish_value k x before true h = by_test before
  where
    by_test : (b : Bool) → F ≡ (if b || true then F else join_K k x)
    by_test true = refl
    by_test false = refl
finish_value k x true false h = ap (λ z. join_K z x) (h refl)
finish_value k x false false h = refl
