-- The first event that passes a test, of those that go on from some pairs, name by name
use Rattle.std.proofs.Common.{◌≡◌, ℕ, ◌+◌, ◌-◌, ◌<◌, ◌≤◌, Bool, true, false, List, [], ◌∷◌, ◌++◌, length, take, drop, get_or, Option, Some, None, refl, sym, ap, ap₂, ◌∙◌, subst, arith}
use Rattle.std.specs.Prelude.{find}
use Rattle.std.specs.List.{flat_map, AllByRecursion}
use Rattle.std.specs.Option.{option_or, is_some}
use Rattle.std.proofs.lemmas.List.{drop_more, drop_all, take_rest}
use Rattle.std.proofs.lemmas.List.Folds.{find-append}
use Rattle.std.proofs.lemmas.Bool.{false≢true}
use Rattle.gr_event.specs.declared.event.Event.{Event}
use Rattle.gr_event.specs.declared.value.Value.{Value}
use Rattle.gr_event.specs.Limits.{IsEvent}
use Rattle.gr_cover.specs.declared.attribute.Attribute.{Attribute}
use Rattle.gr_cover.specs.Candidates.{events_from}
use Rattle.gr_cover.proofs.Agreeing.{all_parts}

-- the events with one of the values for a name
abbrev pub events_with : Event → List ℕ → List Attribute → List Value → List Event
events_with ps n rest vs = flat_map (λ v. events_from (ps ++ (n, v) ∷ []) rest) vs

-- what holds while the values of a name are tried: those that are left decide, and make events
pub record IsLeft (test : Event → Bool) (ps : Event) (n : List ℕ) (rest : List Attribute) (vs : List Value) (all : List Event) : Type 0 where
  pub decides : find test (events_with ps n rest vs) ≡ find test all
  pub events : AllByRecursion IsEvent (events_with ps n rest vs)

-- a list as its first element and the others
pub split : {X : Type 0} (xs : List X) (x : X) → 1 ≤ length xs → x ≡ get_or xs 0 x → xs ≡ x ∷ take (length xs - 1) (drop 1 xs)
split [] x l e = absurd (omega arith)
split (y ∷ ys) x l e = ap₂ (λ z zs. z ∷ zs) (sym e) (sym (take_rest (y ∷ ys) 1))

-- the events without the name are events
pub without : (ps : Event) (all : List Attribute) (a : Attribute) (rest : List Attribute) → all ≡ a ∷ rest → AllByRecursion IsEvent (events_from ps all) → AllByRecursion IsEvent (events_from ps rest)
without ps all a rest q h = (all_parts IsEvent (events_from ps rest) (events_with ps a.name rest a.values) (subst (λ z. AllByRecursion IsEvent (events_from ps z)) q h)).0

some_from : {X : Type 0} (o : Option X) → is_some o ≡ true → (x : X) × (o ≡ Some x)
some_from None h = absurd (false≢true h)
some_from (Some x) h = (x, refl)

none_from : {X : Type 0} (o : Option X) → is_some o ≡ false → None ≡ o
none_from None h = refl
none_from (Some x) h = absurd (false≢true (sym h))

or_some : {X : Type 0} (o p : Option X) → is_some o ≡ true → option_or o p ≡ o
or_some None p h = absurd (false≢true h)
or_some (Some x) p h = refl

-- one is found without the name
pub found_without : (test : Event → Bool) (ps : Event) (all : List Attribute) (a : Attribute) (rest : List Attribute) (o : Option Event) → all ≡ a ∷ rest → is_some o ≡ true → o ≡ find test (events_from ps rest)
    → o ≡ find test (events_from ps all)
found_without test ps all a rest o q s h =
    sym (or_some o (find test (events_with ps a.name rest a.values)) s)
    ∙ ap (λ p. option_or p (find test (events_with ps a.name rest a.values))) h
    ∙ sym (find-append test (events_from ps rest) (events_with ps a.name rest a.values))
    ∙ ap (λ z. find test (events_from ps z)) (sym q)

-- none is found without it
pub none_without : (test : Event → Bool) (ps : Event) (all : List Attribute) (a : Attribute) (rest : List Attribute) (vs : List Value) (o : Option Event) → all ≡ a ∷ rest → vs ≡ a.values → is_some o ≡ false
    → o ≡ find test (events_from ps rest) → AllByRecursion IsEvent (events_from ps all) → IsLeft test ps a.name rest vs (events_from ps all)
none_without test ps all a rest vs o q r s h each = subst (λ z. IsLeft test ps a.name rest vs (events_from ps z)) (sym q) (subst (λ ws. IsLeft test ps a.name rest ws (events_from ps (a ∷ rest))) (sym r) (record {
  decides = ap (λ p. option_or p (find test (events_with ps a.name rest a.values))) (none_from o s ∙ h) ∙ sym (find-append test (events_from ps rest) (events_with ps a.name rest a.values));
  events = (all_parts IsEvent (events_from ps rest) (events_with ps a.name rest a.values) (subst (λ z. AllByRecursion IsEvent (events_from ps z)) q each)).1;
}))

next : (vs : List Value) (i : ℕ) (v : Value) → i < length vs → v ≡ get_or vs i v → drop i vs ≡ v ∷ drop (i + 1) vs
next vs i v l e = drop_more vs i v l ∙ ap (λ w. w ∷ drop (i + 1) vs) (sym e)

at_next : (test : Event → Bool) (ps : Event) (n : List ℕ) (rest : List Attribute) (vs : List Value) (all : List Event) (i : ℕ) (v : Value) → i < length vs → v ≡ get_or vs i v → IsLeft test ps n rest (drop i vs) all
    → IsLeft test ps n rest (v ∷ drop (i + 1) vs) all
at_next test ps n rest vs all i v l e h = subst (λ ws. IsLeft test ps n rest ws all) (next vs i v l e) h

-- the events with the next value are events
pub events_next : (test : Event → Bool) (ps : Event) (n : List ℕ) (rest : List Attribute) (vs : List Value) (all : List Event) (i : ℕ) (v : Value) (qs : Event) → i < length vs → v ≡ get_or vs i v → qs ≡ ps ++ (n, v) ∷ []
    → IsLeft test ps n rest (drop i vs) all → AllByRecursion IsEvent (events_from qs rest)
events_next test ps n rest vs all i v qs l e q h =
    let k = at_next test ps n rest vs all i v l e h in
    rw q ((all_parts IsEvent (events_from (ps ++ (n, v) ∷ []) rest) (events_with ps n rest (drop (i + 1) vs)) k.events).0)

-- one is found with the next value
pub found_next : (test : Event → Bool) (ps : Event) (n : List ℕ) (rest : List Attribute) (vs : List Value) (all : List Event) (i : ℕ) (v : Value) (qs : Event) (o : Option Event) → i < length vs → v ≡ get_or vs i v → qs ≡ ps ++ (n, v) ∷ []
    → is_some o ≡ true → o ≡ find test (events_from qs rest) → IsLeft test ps n rest (drop i vs) all → o ≡ find test all
found_next test ps n rest vs all i v qs o l r q s f h =
    let k = at_next test ps n rest vs all i v l r h in
    let here : o ≡ find test (events_from (ps ++ (n, v) ∷ []) rest) = f ∙ ap (λ z. find test (events_from z rest)) q in
    sym (or_some o (find test (events_with ps n rest (drop (i + 1) vs))) s)
    ∙ ap (λ p. option_or p (find test (events_with ps n rest (drop (i + 1) vs)))) here
    ∙ sym (find-append test (events_from (ps ++ (n, v) ∷ []) rest) (events_with ps n rest (drop (i + 1) vs)))
    ∙ k.decides

-- none is found with the next value
pub none_next : (test : Event → Bool) (ps : Event) (n : List ℕ) (rest : List Attribute) (vs : List Value) (all : List Event) (i : ℕ) (v : Value) (qs : Event) (o : Option Event) → i < length vs → v ≡ get_or vs i v → qs ≡ ps ++ (n, v) ∷ []
    → is_some o ≡ false → o ≡ find test (events_from qs rest) → IsLeft test ps n rest (drop i vs) all → IsLeft test ps n rest (drop (i + 1) vs) all
none_next test ps n rest vs all i v qs o l r q s f h =
    let k = at_next test ps n rest vs all i v l r h in
    let here : None ≡ find test (events_from (ps ++ (n, v) ∷ []) rest) = none_from o s ∙ f ∙ ap (λ z. find test (events_from z rest)) q in
    record {
      decides = ap (λ p. option_or p (find test (events_with ps n rest (drop (i + 1) vs)))) here
          ∙ sym (find-append test (events_from (ps ++ (n, v) ∷ []) rest) (events_with ps n rest (drop (i + 1) vs)))
          ∙ k.decides;
      events = (all_parts IsEvent (events_from (ps ++ (n, v) ∷ []) rest) (events_with ps n rest (drop (i + 1) vs)) k.events).1;
    }

-- where no value is left none is found
pub none_left : (test : Event → Bool) (ps : Event) (n : List ℕ) (rest : List Attribute) (vs : List Value) (all : List Event) (i : ℕ) → length vs ≤ i → IsLeft test ps n rest (drop i vs) all → None ≡ find test all
none_left test ps n rest vs all i l h = ap (λ ws. find test (events_with ps n rest ws)) (sym (drop_all i vs l)) ∙ h.decides
