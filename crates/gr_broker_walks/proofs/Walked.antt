-- A walk over the ticks puts nothing where its function has the least value, which it has where nothing is told.
use Rattle.std.proofs.Common.{◌≡◌, ℕ, ◌⊎◌, inl, inr, Bool, true, false, nat_le, cond, List, refl, sym, ◌∙◌}
use Rattle.std.proofs.lemmas.Bool.{cases_Bool, and_parts, leb-true, cond-true, cond-false}
use Rattle.gr_tick.specs.declared.run.Run.{Run}
use Rattle.gr_tick.specs.Runs.{value_at}
use Rattle.gr_tick.specs.Stored.{within, EndBefore}
use Rattle.gr_tick.proofs.RunsLemmas.{value_at_past}
use Rattle.gr_know.specs.declared.values.K.TheVariants.{Q}
use Rattle.gr_curio.specs.declared.values.Q3.{Q3}
use Rattle.gr_curio.specs.declared.values.Q3.TheVariants.{N, C, A}
use Rattle.gr_curio.specs.Values.{is_C}

-- the least value changes nothing past the last run
pub put_nothing : {V : Type 0} (least v : V) (rs : List (Run V)) (first last t : ℕ) → EndBefore rs first → v ≡ least → value_at least rs t ≡ cond (within first last t) v (value_at least rs t)
put_nothing least v rs first last t past e = by_cases (cases_Bool (within first last t))
  where
    by_cases : (within first last t ≡ true) ⊎ (within first last t ≡ false) → value_at least rs t ≡ cond (within first last t) v (value_at least rs t)
    by_cases (inl y) = value_at_past least rs first t past (leb-true first t (and_parts (nat_le first t) (nat_le t last) y).0) ∙ sym e ∙ sym (cond-true (within first last t) v (value_at least rs t) y)
    by_cases (inr n) = sym (cond-false (within first last t) v (value_at least rs t) n)

-- the only value that asks
pub asked_is : (q : Q3) → is_C q ≡ true → q ≡ C
asked_is N y = cc
asked_is C y = refl
asked_is A y = cc

-- nothing is sent where nothing is told
pub sent_none : (b : Bool) → Q ≡ cond b Q Q
sent_none true = refl
sent_none false = refl
