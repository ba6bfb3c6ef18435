-- What stands in the bytes, frame by frame, and what one more frame adds
use Rattle.std.proofs.Common.{◌≡◌, ◌≤◌, ◌<◌, ◌+◌, ◌-◌, ℕ, zero, suc, List, [], ◌∷◌, ◌++◌, length}
use Rattle.std.proofs.Common.{take, drop, get_or, Some, None, ap, ap₂, refl, sym, subst, ◌∙◌, arith, append_assoc}
use Rattle.std.specs.Prelude.{slice_get, slice_range}
use Rattle.std.proofs.lemmas.List.{length-take, take-append-le, drop-append-le, length-drop, take_all, drop_all}
use Rattle.gr_store.specs.Parts.{parts, RiseTo}

-- as many frames as ends
pub as_many : (from : ℕ) (es bytes : List ℕ) → length (parts from es bytes) ≡ length es
as_many from [] bytes = refl
as_many from (e ∷ es) bytes = ap suc (as_many e es bytes)

-- the first begins at or before the last end
begins : (last from : ℕ) (es : List ℕ) → RiseTo last from es → from ≤ last
begins last from [] r = omega (arith, r)
begins last from (e ∷ es) r = omega (arith, r.0, begins last e es r.1)

-- the frame at a place goes from the end before it to its own
part_at : (from i b d : ℕ) (es bytes : List ℕ) → i < length es
    → slice_get (parts from es bytes) i ≡ Some (slice_range bytes (get_or (from ∷ es) i b) (get_or es i d))
part_at from i b d [] bytes l = absurd (omega (arith, l))
part_at from zero b d (e ∷ es) bytes l = refl
part_at from (suc i) b d (e ∷ es) bytes l = part_at e i b d es bytes (omega (arith, l))

-- and it lies within the bytes
lies_within : (last from i b d : ℕ) (es : List ℕ) → RiseTo last from es → i < length es
    → (get_or (from ∷ es) i b ≤ get_or es i d) × (get_or es i d ≤ last)
lies_within last from i b d [] r l = absurd (omega (arith, l))
lies_within last from zero b d (e ∷ es) r l = (r.0, begins last e es r.1)
lies_within last from (suc i) b d (e ∷ es) r l = lies_within last e i b d es r.1 (omega (arith, l))

-- a place of a frame is that of an end
pub has_end : (es bytes : List ℕ) (fs : List (List ℕ)) (i : ℕ) → parts 0 es bytes ≡ fs → i < length fs → i < length es
has_end es bytes fs i view l = omega (arith, l, ap length view, as_many 0 es bytes)

-- the frame at a place, by where it begins and where it ends
pub frame_at : (es begins bytes : List ℕ) (fs : List (List ℕ)) (i from end : ℕ) → parts 0 es bytes ≡ fs → i < length fs
    → begins ≡ es → from ≡ get_or (0 ∷ begins) i 0 → end ≡ get_or es i end → slice_get fs i ≡ Some (slice_range bytes from end)
frame_at es begins bytes fs i from end view l same b e =
    ap (λ gs. slice_get gs i) (sym view) ∙ part_at 0 i 0 end es bytes (has_end es bytes fs i view l)
    ∙ ap₂ (λ x y. Some (slice_range bytes x y)) (sym (b ∙ ap (λ xs. get_or (0 ∷ xs) i 0) same)) (sym e)

pub frame_within : (es begins bytes : List ℕ) (fs : List (List ℕ)) (i from end : ℕ) → parts 0 es bytes ≡ fs → i < length fs
    → begins ≡ es → from ≡ get_or (0 ∷ begins) i 0 → end ≡ get_or es i end → RiseTo (length bytes) 0 es
    → (from ≤ end) × (end ≤ length bytes)
frame_within es begins bytes fs i from end view l same b e r =
    let there = lies_within (length bytes) 0 i 0 end es r (has_end es bytes fs i view l) in
    (omega (arith, b ∙ ap (λ xs. get_or (0 ∷ xs) i 0) same, e, there.0), omega (arith, e, there.1))

-- One more frame

-- it ends at the new last end
rises_on : (last from end : ℕ) (es : List ℕ) → RiseTo last from es → last ≤ end → RiseTo end from (es ++ end ∷ [])
rises_on last from end [] r l = (omega (arith, r, l), refl)
rises_on last from end (e ∷ es) r l = (r.0, rises_on last e end es r.1 l)

pub ends_rise : (es es' bytes bytes' : List ℕ) (end : ℕ) → RiseTo (length bytes) 0 es → es' ≡ es ++ end ∷ [] → end ≡ length bytes'
    → length bytes ≤ length bytes' → RiseTo (length bytes') 0 es'
ends_rise es es' bytes bytes' end rise s is l =
    subst (RiseTo (length bytes') 0) (sym s) (subst (λ n. RiseTo n 0 (es ++ end ∷ [])) is (rises_on (length bytes) 0 end es rise (omega (arith, l, is))))

-- what lies within the bytes stays when more follow
same_part : (from end : ℕ) (bytes more : List ℕ) → from ≤ end → end ≤ length bytes → slice_range (bytes ++ more) from end ≡ slice_range bytes from end
same_part from end bytes more l w =
    ap (take (end - from)) (drop-append-le from bytes more (omega (arith, l, w)))
    ∙ take-append-le (end - from) (drop from bytes) more (omega (arith, length-drop from bytes, l, w))

-- what follows the bytes is the part behind them
last_part : (from end : ℕ) (bytes more : List ℕ) → from ≡ length bytes → end ≡ length bytes + length more → slice_range (bytes ++ more) from end ≡ more
last_part from end bytes more b e =
    ap (take (end - from)) (drop-append-le from bytes more (omega (arith, b)) ∙ ap (λ l. l ++ more) (drop_all from bytes (omega (arith, b))))
    ∙ take_all (end - from) more (omega (arith, b, e))

pub one_more : (from end : ℕ) (es bytes more : List ℕ) → RiseTo (length bytes) from es → end ≡ length bytes + length more
    → parts from (es ++ end ∷ []) (bytes ++ more) ≡ parts from es bytes ++ more ∷ []
one_more from end [] bytes more r e = ap (λ l. l ∷ []) (last_part from end bytes more r e)
one_more from end (x ∷ es) bytes more r e =
    ap₂ (λ l ls. l ∷ ls) (same_part from x bytes more r.0 (begins (length bytes) x es r.1)) (one_more x end es bytes more r.1 e)

-- the frame at a place is the first of those from there on
first_at : (fs : List (List ℕ)) (i : ℕ) (f : List ℕ) → slice_get fs i ≡ Some f → drop i fs ≡ f ∷ drop (suc i) fs
first_at [] i f e = absurd (none e)
  where
    none : {x : List ℕ} → None ≡ Some x → ⊥
    none h = cc
first_at (g ∷ fs) zero f e = ap (λ (x : List ℕ). x ∷ fs) (is e)
  where
    is : {x y : List ℕ} → Some x ≡ Some y → x ≡ y
    is h = cc
first_at (g ∷ fs) (suc i) f e = first_at fs i f e

-- one more is put: what stands there, with all that are left, stays the same
pub puts_more : (fs all : List (List ℕ)) (i i' end : ℕ) (f es es' bytes bytes' : List ℕ) → i' ≡ suc i → slice_get fs i ≡ Some f
    → RiseTo (length bytes) 0 es → bytes' ≡ bytes ++ f → es' ≡ es ++ end ∷ [] → end ≡ length bytes + length f
    → parts 0 es bytes ++ drop i fs ≡ all → parts 0 es' bytes' ++ drop i' fs ≡ all
puts_more fs all i i' end f es es' bytes bytes' next at rise b s e so_far =
    ap₂ (λ p n. p ++ drop n fs) (ap₂ (λ q l. parts 0 q l) s b ∙ one_more 0 end es bytes f rise e) next
    ∙ append_assoc (parts 0 es bytes) (f ∷ []) (drop (suc i) fs)
    ∙ ap (λ l. parts 0 es bytes ++ l) (sym (first_at fs i f at)) ∙ so_far

-- what was there stays in front
pub stays : (old now more next : List ℕ) → next ≡ now ++ more → take (length old) now ≡ old → take (length old) next ≡ old
stays old now more next e h =
    let long : length old ≤ length now = omega (arith, length-take (length old) now, ap length h) in
    ap (take (length old)) e ∙ take-append-le (length old) now more long ∙ h
