-- The tick of a clash is the least one, and there is none where nothing clashes
use Rattle.std.proofs.Common.{◌≡◌, ◌≢◌, ℕ, Bool, true, false, [], ◌∷◌, refl, sym, ◌∙◌, subst, Some, None, arith, le_refl}
use Rattle.std.specs.Prelude.{if◌then◌else◌}
use Rattle.gr_tick.specs.Runs.{AreRuns}
use Rattle.gr_tick.proofs.RunLaws.{AreRunsOf, value_at-in, value_at-below, value_at-start, zip_runs-is}
use Rattle.gr_know.specs.declared.values.K.TheVariants.{Q}
use Rattle.gr_know.specs.Values.{Known, known_at, clash_K}
use Rattle.gr_know.specs.Clash.{IsLeastClash}
use Rattle.gr_curio.specs.declared.values.Q3.TheVariants.{N, A}
use Rattle.gr_curio.specs.Values.{Wanted, same_Q3}
use Rattle.gr_curio.proofs.ValueLaws.{Q3_decides}
use Rattle.gr_model.specs.Arrivals.{clash_runs, first_of}

as_clash : (c : Bool) → (if c then A else N) ≢ N → c ≡ true
as_clash true n = refl
as_clash false n = absurd (n refl)

as_none : (c : Bool) → (if c then A else N) ≡ N → c ≡ false
as_none true e = absurd (A_not_N e)
  where
    A_not_N : A ≡ N → ⊥
    A_not_N e = cc
as_none false e = refl

clashes_are : (know piece : Known) → AreRuns Q know → AreRuns Q piece → AreRunsOf N (λ t. if clash_K (known_at know t) (known_at piece t) then A else N) (clash_runs know piece)
clashes_are know piece h i = zip_runs-is Q Q N same_Q3 Q3_decides (λ k x. if clash_K k x then A else N) know piece refl h i

-- the tick of a clash is the least at which what is known and what comes clash, with what each says there
pub clash_is_least : (know piece : Known) (t : ℕ) → AreRuns Q know → AreRuns Q piece → first_of (clash_runs know piece) ≡ Some t → IsLeastClash (known_at know) (known_at piece) t (known_at know t) (known_at piece t)
clash_is_least know piece t h i e = go (clash_runs know piece) (clashes_are know piece h i) e
  where
    some_same : (x y : ℕ) → Some x ≡ Some y → x ≡ y
    some_same x y e = cc

    none_some : None ≡ Some t → ⊥
    none_some e = cc

    go : (rs : Wanted) → AreRunsOf N (λ u. if clash_K (known_at know u) (known_at piece u) then A else N) rs → first_of rs ≡ Some t → IsLeastClash (known_at know) (known_at piece) t (known_at know t) (known_at piece t)
    go [] z e = absurd (none_some e)
    go (r ∷ rs) z e =
        let at : r.first ≡ t = some_same r.first t e in
        let a = z.runs in
        record {
          from_one = omega (arith, a.0, at);
          kept_is = refl;
          came_is = refl;
          clash = subst (λ u. clash_K (known_at know u) (known_at piece u) ≡ true) at (as_clash (clash_K (known_at know r.first) (known_at piece r.first)) (λ n. a.2 (sym (value_at-in N r rs r.first (le_refl r.first) a.1) ∙ (z.same_at r.first ∙ n))));
          least = λ u x y. as_none (clash_K (known_at know u) (known_at piece u)) (sym (z.same_at u) ∙ (value_at-below N r rs u (omega (arith, y, at)) ∙ value_at-start N _ rs u a.4 (omega (arith, y, at, a.1))));
        }

-- where no clash is found, what is known and what comes clash at no tick
pub none_clashes : (know piece : Known) → AreRuns Q know → AreRuns Q piece → first_of (clash_runs know piece) ≡ None → (t : ℕ) → clash_K (known_at know t) (known_at piece t) ≡ false
none_clashes know piece h i e t = go (clash_runs know piece) (clashes_are know piece h i) e
  where
    some_none : (x : ℕ) → Some x ≡ None → ⊥
    some_none x e = cc

    go : (rs : Wanted) → AreRunsOf N (λ u. if clash_K (known_at know u) (known_at piece u) then A else N) rs → first_of rs ≡ None → clash_K (known_at know t) (known_at piece t) ≡ false
    go [] z e = as_none (clash_K (known_at know t) (known_at piece t)) (sym (z.same_at t))
    go (r ∷ rs) z e = absurd (some_none r.first e)
