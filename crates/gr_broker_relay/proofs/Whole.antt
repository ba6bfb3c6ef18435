-- A piece whose ticks are all made final is not joined first.
use Rattle.std.proofs.Common.{◌≡◌, ◌⊎◌, inl, inr, ℕ, suc, ◌+◌, ◌-◌, ◌^◌, ◌<◌, ◌≤◌, Bool, true, false, [], ◌∷◌, length, Some, refl, sym, ap, ◌∙◌, subst, arith}
use Rattle.std.specs.Prelude.{if◌then◌else◌, slice_get}
use Rattle.std.proofs.lemmas.Bool.{cases_lt, true≢false}
use Rattle.gr_tick.specs.declared.run.Run.{Run}
use Rattle.gr_tick.specs.Runs.{AreRuns}
use Rattle.gr_tick.specs.Stored.{EndBefore, RunsGive}
use Rattle.gr_tick.proofs.RunLaws.{value_at-below, value_at-start, value_at-in}
use Rattle.gr_tick.proofs.RunsLemmas.{value_at_past}
use Rattle.gr_know.specs.declared.values.K.{K}
use Rattle.gr_know.specs.declared.values.K.TheVariants.{Q, S, D, F}
use Rattle.gr_know.specs.Values.{Known, known_at, join_K}
use Rattle.gr_curio.specs.declared.values.Q3.{Q3}
use Rattle.gr_curio.specs.declared.values.Q3.TheVariants.{N}
use Rattle.gr_curio.specs.Values.{Wanted, wanted_at, is_A}
use Rattle.gr_subend.proofs.Handing.{lies}

-- nothing is joined where nothing is known of a tick
join_nothing : (k v : K) → v ≡ Q → join_K k v ≡ k
join_nothing Q v e = e
join_nothing S v e = ap (λ y. join_K S y) e
join_nothing (D x) v e = ap (λ y. join_K (D x) y) e
join_nothing F v e = refl

-- what is left of what is known, with the piece or without it
pub taken_whole : (know piece left : Known) (done : Wanted) → ((t : ℕ) → is_A (wanted_at done t) ≡ false → known_at piece t ≡ Q) → RunsGive Q left (λ t. if is_A (wanted_at done t) then F else known_at know t)
    → RunsGive Q left (λ t. if is_A (wanted_at done t) then F else join_K (known_at know t) (known_at piece t))
taken_whole know piece left done whole g = record { canonical = g.canonical; in_range = g.in_range; values = λ t. g.values t ∙ same (is_A (wanted_at done t)) t (whole t) }
  where
    same : (b : Bool) (t : ℕ) → (b ≡ false → known_at piece t ≡ Q) → (if b then F else known_at know t) ≡ (if b then F else join_K (known_at know t) (known_at piece t))
    same true t w = refl
    same false t w = sym (join_nothing (known_at know t) (known_at piece t) (w refl))

pub taken_joined : (know piece joined left : Known) (done : Wanted) → RunsGive Q joined (λ t. join_K (known_at know t) (known_at piece t)) → RunsGive Q left (λ t. if is_A (wanted_at done t) then F else known_at joined t)
    → RunsGive Q left (λ t. if is_A (wanted_at done t) then F else join_K (known_at know t) (known_at piece t))
taken_joined know piece joined left done j g = record { canonical = g.canonical; in_range = g.in_range; values = λ t. g.values t ∙ ap (λ x. if is_A (wanted_at done t) then F else x) (j.values t) }

-- a piece whose runs lie in one run of acknowledged ticks has nothing at any other tick
pub whole_in : (piece : Known) (done : Wanted) (run : Run Q3) (first last : Run K) → AreRuns Q piece → EndBefore piece (2 ^ 62 + 1) → 0 < length piece → length done ≡ 1 → 1 ≤ run.first → slice_get done 0 ≡ Some run → is_A run.value ≡ true → slice_get piece 0 ≡ Some first
    → slice_get piece (length piece - 1) ≡ Some last → run.first ≤ first.first → last.last ≤ run.last → (t : ℕ) → is_A (wanted_at done t) ≡ false → known_at piece t ≡ Q
whole_in piece done run first last a b some one from_one read acked f l p q t off = by_place (cases_lt t run.first) (cases_lt run.last t)
  where
    here : (ws : Wanted) → length ws ≡ 1 → slice_get ws 0 ≡ Some run → run.first ≤ t → t ≤ run.last → is_A (wanted_at ws t) ≡ true
    here [] n e x y = absurd (omega (arith, n))
    here (r ∷ []) n e x y =
        let same : r ≡ run = cc in
        subst (λ z. is_A (wanted_at (z ∷ []) t) ≡ true) (sym same) (ap is_A (value_at-in N run [] t x y) ∙ acked)
    here (r ∷ (s ∷ ss)) n e x y = absurd (omega (arith, n))

    early : t < run.first → known_at piece t ≡ Q
    early lt = go piece refl a
      where
        go : (rs : Known) → piece ≡ rs → AreRuns Q rs → known_at rs t ≡ Q
        go [] e c = refl
        go (r ∷ rs) e c =
            let u : t < r.first = (lies t run.last piece first last a b some f l (omega (arith, lt, p)) q).begins r rs e in
            value_at-below Q r rs t u ∙ value_at-start Q (suc r.last) rs t c.4 (omega (arith, u, c.1))

    by_place : (t < run.first) ⊎ (run.first ≤ t) → (run.last < t) ⊎ (t ≤ run.last) → known_at piece t ≡ Q
    by_place (inl x) _ = early x
    by_place (inr x) (inl y) = value_at_past Q piece (run.last + 1) t (lies 0 run.last piece first last a b some f l (omega (arith, from_one, p)) q).ends (omega (arith, y))
    by_place (inr x) (inr y) = absurd (true≢false (sym (here done one read x y) ∙ off))
