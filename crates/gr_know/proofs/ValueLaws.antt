-- The test on two knowledge values is true at equals alone, and at all equals; so is that on two events.
use Rattle.std.proofs.Common.{◌≡◌, ◌⊎◌, inl, inr, Bool, true, false, IsTrue, refl, sym, ap, ◌∙◌}
use Rattle.std.specs.Prelude.{◌↔◌}
use Rattle.std.proofs.lemmas.Bool.{both_ways, cases_Bool, false≢true}
use Rattle.gr_event.specs.Event.{same_event}
use Rattle.gr_event.specs.declared.event.Event.{Event}
use Rattle.gr_event.proofs.SameEvent.{event_equal, event_itself}
use Rattle.gr_tick.specs.Runs.{Decides_same}
use Rattle.gr_tick.proofs.RunLaws.{Tells, Tells-decides}
use Rattle.gr_know.specs.declared.values.K.{K}
use Rattle.gr_know.specs.declared.values.K.TheVariants.{Q, S, D, F}
use Rattle.gr_know.specs.Values.{same_K}

pub same_K_tells : Tells same_K
same_K_tells = record { equal = equal; itself = itself }
  where
    equal : (a b : K) → same_K a b ≡ true → a ≡ b
    equal Q Q h = refl
    equal S S h = refl
    equal F F h = refl
    equal (D a) (D b) h = ap (λ x. D x) (event_equal a b h)
    equal Q S h = absurd (false≢true h)
    equal Q (D b) h = absurd (false≢true h)
    equal Q F h = absurd (false≢true h)
    equal S Q h = absurd (false≢true h)
    equal S (D b) h = absurd (false≢true h)
    equal S F h = absurd (false≢true h)
    equal (D a) Q h = absurd (false≢true h)
    equal (D a) S h = absurd (false≢true h)
    equal (D a) F h = absurd (false≢true h)
    equal F Q h = absurd (false≢true h)
    equal F S h = absurd (false≢true h)
    equal F (D b) h = absurd (false≢true h)

    itself : (a : K) → same_K a a ≡ true
    itself Q = refl
    itself S = refl
    itself F = refl
    itself (D a) = event_itself a

pub K_decides : Decides_same same_K
K_decides = Tells-decides same_K same_K_tells

-- what a comparison of two events answers
pub same_event-iff : (r : Bool) (e f : Event) → IsTrue r ↔ (e ≡ f) → r ≡ same_event e f
same_event-iff r e f h = elim (cases_Bool r) [ inl t ↦ yes t | inr n ↦ no n (cases_Bool (same_event e f)) ]
  where
    yes : r ≡ true → r ≡ same_event e f
    yes t = t ∙ sym (ap (same_event e) (sym (h.0 t)) ∙ event_itself e)

    no : r ≡ false → (same_event e f ≡ true) ⊎ (same_event e f ≡ false) → r ≡ same_event e f
    no n (inl t) = absurd (both_ways r n (h.1 (event_equal e f t)))
    no n (inr u) = n ∙ sym u
