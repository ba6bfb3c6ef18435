-- The knowledge values are a lattice: by cases of the values, and two events by whether they are the same
use Rattle.std.specs.Prelude.{◌≡◌, true, refl}
use Rattle.gr_tick.specs.Laws.{LatticeLaws}
use Rattle.gr_event.specs.Event.{same_event}
use Rattle.gr_event.proofs.SameEvent.{event_equal, event_itself}
use Rattle.gr_know.specs.Values.{join_K}
use Rattle.gr_know.specs.Order.{is_at_most}
use Rattle.gr_know.specs.declared.values.K.{K}
use Rattle.gr_know.specs.declared.values.K.TheVariants.{Q, S, D, F}
use Rattle.std.proofs.Common.{inl, inr, sym, ap, ◌∙◌, subst}
use Rattle.std.proofs.lemmas.Bool.{cases_Bool, cond-true, cond-false, false≢true}

reflexive : (x : K) → is_at_most x x ≡ true
reflexive Q = refl
reflexive S = refl
reflexive (D e) = event_itself e
reflexive F = refl

antisymmetric : (x y : K) → is_at_most x y ≡ true → is_at_most y x ≡ true → x ≡ y
antisymmetric Q Q h k = refl
antisymmetric S S h k = refl
antisymmetric (D e) (D f) h k = ap D (event_equal e f h)
antisymmetric F F h k = refl
antisymmetric Q S h k = absurd (false≢true k)
antisymmetric Q (D f) h k = absurd (false≢true k)
antisymmetric Q F h k = absurd (false≢true k)
antisymmetric S Q h k = absurd (false≢true h)
antisymmetric S (D f) h k = absurd (false≢true h)
antisymmetric S F h k = absurd (false≢true k)
antisymmetric (D e) Q h k = absurd (false≢true h)
antisymmetric (D e) S h k = absurd (false≢true h)
antisymmetric (D e) F h k = absurd (false≢true k)
antisymmetric F Q h k = absurd (false≢true h)
antisymmetric F S h k = absurd (false≢true h)
antisymmetric F (D f) h k = absurd (false≢true h)

transitive : (x y z : K) → is_at_most x y ≡ true → is_at_most y z ≡ true → is_at_most x z ≡ true
transitive Q y z h k = refl
transitive S S z h k = k
transitive S F F h k = refl
transitive (D e) (D f) z h k = subst (λ d. is_at_most (D d) z ≡ true) (sym (event_equal e f h)) k
transitive (D e) F F h k = refl
transitive F F z h k = k
transitive S Q z h k = absurd (false≢true h)
transitive S (D f) z h k = absurd (false≢true h)
transitive S F Q h k = absurd (false≢true k)
transitive S F S h k = absurd (false≢true k)
transitive S F (D g) h k = absurd (false≢true k)
transitive (D e) Q z h k = absurd (false≢true h)
transitive (D e) S z h k = absurd (false≢true h)
transitive (D e) F Q h k = absurd (false≢true k)
transitive (D e) F S h k = absurd (false≢true k)
transitive (D e) F (D g) h k = absurd (false≢true k)
transitive F Q z h k = absurd (false≢true h)
transitive F S z h k = absurd (false≢true h)
transitive F (D f) z h k = absurd (false≢true h)

above_left : (x y : K) → is_at_most x (join_K x y) ≡ true
above_left Q y = refl
above_left S Q = refl
above_left S S = refl
above_left S (D f) = refl
above_left S F = refl
above_left (D e) Q = event_itself e
above_left (D e) S = refl
above_left (D e) (D f) =
    elim (cases_Bool (same_event e f)) [
      | inl h ↦ ap (is_at_most (D e)) (cond-true (same_event e f) (D e) F h) ∙ event_itself e
      | inr h ↦ ap (is_at_most (D e)) (cond-false (same_event e f) (D e) F h)
    ]
above_left (D e) F = refl
above_left F y = refl

above_right : (x y : K) → is_at_most y (join_K x y) ≡ true
above_right Q y = reflexive y
above_right S Q = refl
above_right S S = refl
above_right S (D f) = refl
above_right S F = refl
above_right (D e) Q = refl
above_right (D e) S = refl
above_right (D e) (D f) =
    elim (cases_Bool (same_event e f)) [
      | inl h ↦
          ap (is_at_most (D f)) (cond-true (same_event e f) (D e) F h) ∙ ap (same_event f)
          (event_equal e f h) ∙ event_itself f
      | inr h ↦ ap (is_at_most (D f)) (cond-false (same_event e f) (D e) F h)
    ]
above_right (D e) F = refl
above_right F Q = refl
above_right F S = refl
above_right F (D f) = refl
above_right F F = refl

least_above : (x y z : K) → is_at_most x z ≡ true → is_at_most y z ≡ true → is_at_most (join_K x y) z ≡ true
least_above Q y z h k = k
least_above S Q z h k = h
least_above S S z h k = h
least_above S (D f) F h k = refl
least_above S F z h k = k
least_above (D e) Q z h k = h
least_above (D e) S F h k = refl
least_above (D e) (D f) (D g) h k =
    ap (λ x. is_at_most x (D g)) (cond-true (same_event e f) (D e) F (ap (same_event e) (event_equal f g k) ∙ h)) ∙ h
least_above (D e) (D f) F h k =
    elim (cases_Bool (same_event e f)) [
      | inl p ↦ ap (λ x. is_at_most x F) (cond-true (same_event e f) (D e) F p)
      | inr p ↦ ap (λ x. is_at_most x F) (cond-false (same_event e f) (D e) F p)
    ]
least_above (D e) F z h k = k
least_above F y z h k = h
least_above S (D f) Q h k = absurd (false≢true h)
least_above S (D f) S h k = absurd (false≢true k)
least_above S (D f) (D g) h k = absurd (false≢true h)
least_above (D e) S Q h k = absurd (false≢true h)
least_above (D e) S S h k = absurd (false≢true h)
least_above (D e) S (D g) h k = absurd (false≢true k)
least_above (D e) (D f) Q h k = absurd (false≢true h)
least_above (D e) (D f) S h k = absurd (false≢true h)

pub knowledge_laws : LatticeLaws Q join_K is_at_most
knowledge_laws = record {
  reflexive = reflexive;
  antisymmetric = antisymmetric;
  transitive = transitive;
  lowest = λ x. refl;
  above_left = above_left;
  above_right = above_right;
  least_above = least_above;
}
