-- Before the piece nothing came, and from its first run on nothing is known
use Rattle.std.proofs.Common.{◌≡◌, ℕ, ◌+◌, ◌<◌, inl, inr, Bool, true, false, [], ◌∷◌, get_or, slice_get, Some, refl, sym, ap, arith, ltb-true}
use Rattle.std.specs.Prelude.{if◌then◌else◌}
use Rattle.std.proofs.lemmas.Bool.{cases_lt}
use Rattle.gr_tick.specs.declared.run.Run.{Run}
use Rattle.gr_tick.specs.Runs.{AreRuns}
use Rattle.gr_tick.specs.Stored.{EndBefore}
use Rattle.gr_tick.proofs.RunsLemmas.{value_at_past}
use Rattle.gr_know.specs.declared.values.K.{K}
use Rattle.gr_know.specs.declared.values.K.TheVariants.{Q}
use Rattle.gr_know.specs.Values.{Known, known_at, is_Q, new_K}
use Rattle.gr_broker_walks.proofs.Untouched.{told_from}
use Rattle.gr_broker_relay.proofs.learning.is_past.Goals as goal

first_is : (xs : Known) (r : Run K) → slice_get xs 0 ≡ Some r → r ≡ get_or xs 0 r
first_is [] r e = absurd (cc)
first_is (x ∷ xs) r e = cc

of_none : (b : Bool) (x : K) → x ≡ Q → x ≡ (if b then x else Q)
of_none true x e = refl
of_none false x e = e

all_new : (know piece : Known) (top : ℕ) (r : Run K) → EndBefore know (top + 1) → AreRuns Q piece → r ≡ get_or piece 0 r → top < r.first → (t : ℕ) → known_at piece t ≡ new_K (known_at know t) (known_at piece t)
all_new know piece top r past a e below t =
    elim (cases_lt t r.first) [
      | inl lt ↦ of_none (is_Q (known_at know t)) (known_at piece t) (told_from Q piece r t a e lt)
      | inr ge ↦ ap (λ k. new_K k (known_at piece t)) (sym (value_at_past Q know (top + 1) t past (omega (arith, below, ge))))
    ]

pub returns : goal.returns
returns c = λ h.
    all_new c.args.know.now.runs c.args.piece.now c.top.result c.run.result.now c.top.ensures.past c.len.ensures.canonical
    (first_is c.args.piece.now c.run.result.now c.run.ensures.run) (ltb-true c.top.result c.run.result.now.first h)
