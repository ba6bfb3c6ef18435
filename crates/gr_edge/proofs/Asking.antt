-- What is asked stays sound and whole, whichever way one more goes in
use Rattle.std.proofs.Common.{◌≡◌, ◌≤◌, ◌⊎◌, inl, inr, ℕ, zero, suc, Bool, true, false, ◌&&◌, ◌||◌, List, [], ◌∷◌, ◌++◌, length, Option, Some, None, refl, sym, ap, ap₂, ◌∙◌, arith, length-append}
use Rattle.std.specs.List.{list_any, slice_get}
use Rattle.std.proofs.lemmas.Bool.{and_parts, and_from, or_cases, or_left, or_right, true≢false}
use Rattle.std.proofs.lemmas.List.Folds.{list_any-append}
use Rattle.gr_event.specs.declared.event.Event.{Event}
use Rattle.gr_event.specs.Joins.{Joins}
use Rattle.gr_event.specs.Limits.{IsEvent}
use Rattle.gr_filter.specs.Tree.{Tree}
use Rattle.gr_filter.specs.Truth.{matches}
use Rattle.gr_match.specs.Matches.{any}
use Rattle.gr_edge.specs.Pass.{Wanting, wants, is_in_time, wanted}
use Rattle.gr_edge.specs.Asked.{is_missing, is_open, IsAsked}

-- what one subscriber wants
abbrev pub wants_at : Wanting → Joins → ℕ → Event → Bool
wants_at w js t e = wants w.filter e && is_in_time w.late js t

-- ---- one subscriber more

more : (all : List Wanting) (w : Wanting) (js : Joins) (t : ℕ) (e : Event) → wanted (all ++ w ∷ []) js t e ≡ (wanted all js t e || (wants_at w js t e || false))
more all w js t e = list_any-append (λ x. wants_at x js t e) all (w ∷ [])

wanted_then : (all : List Wanting) (w : Wanting) (js : Joins) (t : ℕ) (e : Event) → wanted (all ++ w ∷ []) js t e ≡ true → (wanted all js t e ≡ true) ⊎ (wants_at w js t e ≡ true)
wanted_then all w js t e h = elim (or_cases (wanted all js t e) (wants_at w js t e || false) (sym (more all w js t e) ∙ h)) [
  | inl x ↦ inl x
  | inr x ↦ elim (or_cases (wants_at w js t e) false x) [ inl y ↦ inr y | inr y ↦ absurd (true≢false (sym y)) ]
]

was_wanted : (all : List Wanting) (w : Wanting) (js : Joins) (t : ℕ) (e : Event) → wanted all js t e ≡ true → wanted (all ++ w ∷ []) js t e ≡ true
was_wanted all w js t e h = more all w js t e ∙ or_left (wanted all js t e) (wants_at w js t e || false) h

is_wanted : (all : List Wanting) (w : Wanting) (js : Joins) (t : ℕ) (e : Event) → wants_at w js t e ≡ true → wanted (all ++ w ∷ []) js t e ≡ true
is_wanted all w js t e h = more all w js t e ∙ or_right (wanted all js t e) (wants_at w js t e || false) (or_left (wants_at w js t e) false h)

longer : (all : List Wanting) (w : Wanting) (n : ℕ) → n ≤ length all → n ≤ length (all ++ w ∷ [])
longer all w n h = omega (arith, length-append all (w ∷ []), h)

opens : (all : List Wanting) (w : Wanting) → list_any is_open (all ++ w ∷ []) ≡ (list_any is_open all || (is_open w || false))
opens all w = list_any-append is_open all (w ∷ [])

-- an edge is as open as before where the subscriber does not want everything
still : (all : List Wanting) (o : Bool) (w : Wanting) → is_open w ≡ false → o ≡ list_any is_open all → o ≡ list_any is_open (all ++ w ∷ [])
still all o w n h = go (list_any is_open all) (opens all w ∙ ap (λ b. list_any is_open all || (b || false)) n) h
  where
    go : (b : Bool) → list_any is_open (all ++ w ∷ []) ≡ (b || false) → o ≡ b → o ≡ list_any is_open (all ++ w ∷ [])
    go true x y = y ∙ sym x
    go false x y = y ∙ sym x

-- ---- ways in

-- nobody
pub asks_nothing : IsAsked [] false [] []
asks_nothing = record { open_is = refl; few = omega arith; sound = λ js t e h. h; whole = λ js t e r h. h }

-- a subscriber that wants everything
pub asks_none : (all : List Wanting) (o : Bool) (asked : List Tree) (lates : List Wanting) → IsAsked all o asked lates → IsAsked (all ++ record { filter = None; late = None } ∷ []) true asked lates
asks_none all o asked lates is = record {
  open_is = sym (opens all everything ∙ or_right (list_any is_open all) true refl);
  few = longer all everything (length asked) is.few;
  sound = λ js t e h. was_wanted all everything js t e (is.sound js t e h);
  whole = λ js t e r h. refl;
}
  where
    everything : Wanting
    everything = record { filter = None; late = None }

-- a filter that is not asked: the edge is open, or what it matches is asked already
pub left_out : (all : List Wanting) (o : Bool) (asked : List Tree) (lates : List Wanting) (w : Wanting) → IsAsked all o asked lates → is_open w ≡ false
    → ((e : Event) → IsEvent e → wants w.filter e ≡ true → (o || any asked e) ≡ true) → IsAsked (all ++ w ∷ []) o asked lates
left_out all o asked lates w is n has = record {
  open_is = still all o w n is.open_is;
  few = longer all w (length asked) is.few;
  sound = λ js t e h. was_wanted all w js t e (is.sound js t e h);
  whole = λ js t e r h. elim (wanted_then all w js t e h) [
    | inl x ↦ is.whole js t e r x
    | inr x ↦ or_left (o || any asked e) (wanted lates js t e) (has e r (and_parts (wants w.filter e) (is_in_time w.late js t) x).0)
  ];
}

-- the filter of a subscriber in time that is asked
pub asks_more : (all : List Wanting) (o : Bool) (asked : List Tree) (lates : List Wanting) (f : Tree) → IsAsked all o asked lates → IsAsked (all ++ record { filter = Some f; late = None } ∷ []) o (asked ++ f ∷ []) lates
asks_more all o asked lates f is = record {
  open_is = still all o w refl is.open_is;
  few = omega (arith, is.few, length-append asked (f ∷ []), length-append all (w ∷ []));
  sound = λ js t e h. elim (or_cases (any (asked ++ f ∷ []) e) (wanted lates js t e) h) [
    | inl x ↦ elim (or_cases (any asked e) (matches f e || false) (sym (asked_more e) ∙ x)) [
      | inl y ↦ was_wanted all w js t e (is.sound js t e (or_left (any asked e) (wanted lates js t e) y))
      | inr y ↦ elim (or_cases (matches f e) false y) [
        | inl z ↦ is_wanted all w js t e (and_from (matches f e) true z refl)
        | inr z ↦ absurd (true≢false (sym z))
      ]
    ]
    | inr x ↦ was_wanted all w js t e (is.sound js t e (or_right (any asked e) (wanted lates js t e) x))
  ];
  whole = λ js t e r h. elim (wanted_then all w js t e h) [
    | inl x ↦ elim (or_cases (o || any asked e) (wanted lates js t e) (is.whole js t e r x)) [
      | inl y ↦ or_left (o || any (asked ++ f ∷ []) e) (wanted lates js t e) (elim (or_cases o (any asked e) y) [
        | inl z ↦ or_left o (any (asked ++ f ∷ []) e) z
        | inr z ↦ or_right o (any (asked ++ f ∷ []) e) (asked_more e ∙ or_left (any asked e) (matches f e || false) z)
      ])
      | inr y ↦ or_right (o || any (asked ++ f ∷ []) e) (wanted lates js t e) y
    ]
    | inr x ↦ or_left (o || any (asked ++ f ∷ []) e) (wanted lates js t e) (or_right o (any (asked ++ f ∷ []) e)
        (asked_more e ∙ or_right (any asked e) (matches f e || false) (or_left (matches f e) false (and_parts (matches f e) true x).0)))
  ];
}
  where
    w : Wanting
    w = record { filter = Some f; late = None }

    asked_more : (e : Event) → any (asked ++ f ∷ []) e ≡ (any asked e || (matches f e || false))
    asked_more e = list_any-append (λ g. matches g e) asked (f ∷ [])

-- a late subscriber that is asked
pub asks_late : (all : List Wanting) (o : Bool) (asked : List Tree) (lates : List Wanting) (w : Wanting) → IsAsked all o asked lates → is_open w ≡ false → IsAsked (all ++ w ∷ []) o asked (lates ++ w ∷ [])
asks_late all o asked lates w is n = record {
  open_is = still all o w n is.open_is;
  few = longer all w (length asked) is.few;
  sound = λ js t e h. elim (or_cases (any asked e) (wanted (lates ++ w ∷ []) js t e) h) [
    | inl x ↦ was_wanted all w js t e (is.sound js t e (or_left (any asked e) (wanted lates js t e) x))
    | inr x ↦ elim (wanted_then lates w js t e x) [
      | inl y ↦ was_wanted all w js t e (is.sound js t e (or_right (any asked e) (wanted lates js t e) y))
      | inr y ↦ is_wanted all w js t e y
    ]
  ];
  whole = λ js t e r h. elim (wanted_then all w js t e h) [
    | inl x ↦ elim (or_cases (o || any asked e) (wanted lates js t e) (is.whole js t e r x)) [
      | inl y ↦ or_left (o || any asked e) (wanted (lates ++ w ∷ []) js t e) y
      | inr y ↦ or_right (o || any asked e) (wanted (lates ++ w ∷ []) js t e) (was_wanted lates w js t e y)
    ]
    | inr x ↦ or_right (o || any asked e) (wanted (lates ++ w ∷ []) js t e) (is_wanted lates w js t e x)
  ];
}

-- ---- what is asked tells what is wanted

-- what the filter at a place matches is asked
pub asked_at : (asked : List Tree) (i : ℕ) (g : Tree) (e : Event) → slice_get asked i ≡ Some g → matches g e ≡ true → any asked e ≡ true
asked_at [] i g e h m = absurd (cc)
asked_at (f ∷ fs) zero g e h m = let same : f ≡ g = cc in or_left (matches f e) (any fs e) (ap (λ x. matches x e) same ∙ m)
asked_at (f ∷ fs) (suc i) g e h m = or_right (matches f e) (any fs e) (asked_at fs i g e h m)

open_one : (f : Option Tree) (l : Option ℕ) (js : Joins) (t : ℕ) (e : Event) → (is_missing l && is_missing f) ≡ true → (wants f e && is_in_time l js t) ≡ true
open_one None None js t e h = refl
open_one (Some f) None js t e h = absurd (true≢false (sym h))
open_one f (Some s) js t e h = absurd (true≢false (sym h))

open_wants : (all : List Wanting) (js : Joins) (t : ℕ) (e : Event) → list_any is_open all ≡ true → wanted all js t e ≡ true
open_wants [] js t e h = absurd (true≢false (sym h))
open_wants (w ∷ ws) js t e h = elim (or_cases (is_open w) (list_any is_open ws) h) [
  | inl x ↦ or_left (wants_at w js t e) (wanted ws js t e) (open_one w.filter w.late js t e x)
  | inr x ↦ or_right (wants_at w js t e) (wanted ws js t e) (open_wants ws js t e x)
]

-- an event is wanted at each tick where the edge is open
pub wanted_open : (all : List Wanting) (o : Bool) (asked : List Tree) (lates : List Wanting) (js : Joins) (t : ℕ) (e : Event) → IsAsked all o asked lates → o ≡ true → wanted all js t e ≡ true
wanted_open all o asked lates js t e is h = open_wants all js t e (sym is.open_is ∙ h)

-- and where a filter of a subscriber in time matches it
pub wanted_asked : (all : List Wanting) (o : Bool) (asked : List Tree) (lates : List Wanting) (js : Joins) (t : ℕ) (e : Event) → IsAsked all o asked lates → any asked e ≡ true → wanted all js t e ≡ true
wanted_asked all o asked lates js t e is h = is.sound js t e (or_left (any asked e) (wanted lates js t e) h)

-- else late subscribers alone want it
pub wanted_late : (all : List Wanting) (o : Bool) (asked : List Tree) (lates : List Wanting) (js : Joins) (t : ℕ) (e : Event) → IsAsked all o asked lates → o ≡ false → any asked e ≡ false → IsEvent e → wanted all js t e ≡ wanted lates js t e
wanted_late all o asked lates js t e is no_one none event = go (wanted all js t e) (wanted lates js t e) refl refl
  where
    go : (a l : Bool) → a ≡ wanted all js t e → l ≡ wanted lates js t e → a ≡ l
    go true true x y = refl
    go false false x y = refl
    go true false x y = sym (is.whole js t e event (sym x)) ∙ ap₂ (λ u v. (u || v) || wanted lates js t e) no_one none ∙ sym y
    go false true x y = x ∙ is.sound js t e (or_right (any asked e) (wanted lates js t e) (sym y))
