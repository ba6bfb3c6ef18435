-- Edits of a list of runs around a place.
use Rattle.std.proofs.Common.{◌≡◌, ◌≢◌, ℕ, ◌+◌, ◌-◌, ◌<◌, ◌≤◌, Bool, cond, List, [], ◌∷◌, ◌++◌, length, take, drop, get_or, slice_set, suc, sym, ap, ◌∙◌, add-one, append_assoc, length-append, arith}
use Rattle.std.proofs.lemmas.List.{take_more, take_at, drop_at, length-take-le, drop_more, get_or_default, take-append-drop, length-drop}
use lib.Seq.{set_split}
use Rattle.std.proofs.lemmas.Bool.Decides.{nat_tests}
use Rattle.std.specs.List.{remove}
use Rattle.gr_tick.specs.declared.run.Run.{Run}
use Rattle.gr_tick.specs.Runs.{value_at}
use Rattle.gr_tick.specs.Stored.{within, IsRun, FollowedBy, AreTickRuns, EndBefore, needs_room, room}
use Rattle.gr_tick.proofs.RunsLemmas.{value_at-append, room-cons, AreTickRuns-front, AreTickRuns-back, AreTickRuns-join, AreTickRuns-other_last}

-- what is left round a place where one element was removed
pub take-remove : {X : Type 0} (xs : List X) (i : ℕ) → i < length xs → take i (remove xs i) ≡ take i xs
take-remove xs i lt = take_at (take i xs) (drop (suc i) xs) i (length-take-le i xs (omega arith))

pub drop-remove : {X : Type 0} (xs : List X) (i : ℕ) → i < length xs → drop i (remove xs i) ≡ drop (i + 1) xs
drop-remove xs i lt = rw (add-one i) (drop_at (take i xs) (drop (suc i) xs) i (length-take-le i xs (omega arith)))

-- two reads of one place
pub same_read : {X : Type 0} (xs : List X) (i : ℕ) (x y : X) → i < length xs → x ≡ get_or xs i x → y ≡ get_or xs i y → x ≡ y
same_read xs i x y lt e f = e ∙ get_or_default xs i x y lt ∙ sym f

-- the front with the element that was read last
pub take_read : {X : Type 0} (xs : List X) (i : ℕ) (q : X) → 0 < i → i ≤ length xs → q ≡ get_or xs (i - 1) q → take i xs ≡ take (i - 1) xs ++ q ∷ []
take_read xs i q pos le e =
    let n : (i - 1) + 1 ≡ i = omega arith in
    let m : take ((i - 1) + 1) xs ≡ take (i - 1) xs ++ get_or xs (i - 1) q ∷ [] = take_more xs (i - 1) q (omega arith) in
    ap (λ k. take k xs) (sym n) ∙ m ∙ ap (λ y. take (i - 1) xs ++ y ∷ []) (sym e)

-- the rest with the element that was read first
pub drop_read : {X : Type 0} (xs : List X) (i : ℕ) (q : X) → i < length xs → q ≡ get_or xs i q → drop i xs ≡ q ∷ drop (i + 1) xs
drop_read xs i q lt e = drop_more xs i q lt ∙ ap (λ y. y ∷ drop (i + 1) xs) (sym e)

pub split_read : {X : Type 0} (xs : List X) (i : ℕ) (q : X) → i < length xs → q ≡ get_or xs i q → xs ≡ take i xs ++ q ∷ drop (i + 1) xs
split_read xs i q lt e = sym (take-append-drop i xs) ∙ ap (λ ys. take i xs ++ ys) (drop_read xs i q lt e)

-- what stands where an element was removed and a list was put in its place
pub put_in_place : {X : Type 0} (xs rest new p : List X) (i : ℕ) → i < length xs → rest ≡ remove xs i → new ≡ take i rest ++ (p ++ drop i rest) → new ≡ take i xs ++ (p ++ drop (i + 1) xs)
put_in_place xs rest new p i lt e f =
    f ∙ ap (λ zs. take i zs ++ (p ++ drop i zs)) e ∙ ap (λ ys. ys ++ (p ++ drop i (remove xs i))) (take-remove xs i lt)
    ∙ ap (λ ys. take i xs ++ (p ++ ys)) (drop-remove xs i lt)

-- what comes after a list that was put in
pub drop-put : {X : Type 0} (s p : List X) (i : ℕ) → i ≤ length s → drop (i + length p) (take i s ++ (p ++ drop i s)) ≡ drop i s
drop-put s p i le =
    ap (drop (i + length p)) (sym (append_assoc (take i s) p (drop i s)))
    ∙ drop_at (take i s ++ p) (drop i s) (i + length p) (omega (arith, length-append (take i s) p, length-take-le i s le))

pub length-put : {X : Type 0} (s p : List X) (i : ℕ) → i ≤ length s → length (take i s ++ (p ++ drop i s)) ≡ length s + length p
length-put s p i le =
    omega (arith, length-append (take i s) (p ++ drop i s), length-append p (drop i s), length-take-le i s le, length-drop i s)

pub drop-put_two : {X : Type 0} (s p q a b : List X) (i place : ℕ) → i ≤ length s → place ≡ i + length p → a ≡ take i s ++ (p ++ drop i s) → b ≡ take place a ++ (q ++ drop place a) → place ≤ length a → drop place b ≡ q ++ drop i s
drop-put_two s p q a b i place le e ea eb pl =
    ap (drop place) eb ∙ drop_at (take place a) (q ++ drop place a) place (length-take-le place a pl)
    ∙ ap (λ zs. q ++ zs) (ap (drop place) ea ∙ ap (λ k. drop k (take i s ++ (p ++ drop i s))) e ∙ drop-put s p i le)

-- what comes after an element, where those before it up to a place were removed
drop_next : {X : Type 0} (xs : List X) (i n : ℕ) (d : X) → i < n → n ≤ length xs → drop (suc i) (take i xs ++ drop (n - 1) xs) ≡ drop n xs
drop_next xs i n d lo le =
    let one : (n - 1) + 1 ≡ n = omega arith in
    let y = get_or xs (n - 1) d in
    ap (λ ys. drop (suc i) (take i xs ++ ys)) (drop_more xs (n - 1) d (omega arith))
    ∙ ap (drop (suc i)) (sym (append_assoc (take i xs) (y ∷ []) (drop ((n - 1) + 1) xs)))
    ∙ drop_at (take i xs ++ y ∷ []) (drop ((n - 1) + 1) xs) (suc i) (omega (arith, length-append (take i xs) (y ∷ []), length-take-le i xs (omega arith)))
    ∙ ap (λ k. drop k xs) one

-- one of these is removed, and the last one is replaced
pub remove_next : {X : Type 0} (xs ys zs : List X) (i n : ℕ) (d : X) → i < n → n ≤ length xs → ys ≡ take i xs ++ drop (n - 1) xs → zs ≡ remove ys i → zs ≡ take i xs ++ drop n xs
remove_next xs ys zs i n d lo le e f =
    f ∙ ap (λ s. remove s i) e
    ∙ ap (λ s. s ++ drop (suc i) (take i xs ++ drop (n - 1) xs)) (take_at (take i xs) (drop (n - 1) xs) i (length-take-le i xs (omega arith)))
    ∙ ap (λ s. take i xs ++ s) (drop_next xs i n d lo le)

pub replace_next : {X : Type 0} (xs ys zs : List X) (i n : ℕ) (x : X) → i < n → n ≤ length xs → ys ≡ take i xs ++ drop (n - 1) xs → zs ≡ slice_set ys i x → zs ≡ take i xs ++ x ∷ drop n xs
replace_next xs ys zs i n x lo le e f =
    let within : i < length (take i xs ++ drop (n - 1) xs) = omega (arith, length-append (take i xs) (drop (n - 1) xs), length-take-le i xs (omega arith), length-drop (n - 1) xs) in
    f ∙ ap (λ s. slice_set s i x) e
    ∙ set_split (take i xs ++ drop (n - 1) xs) i x within
    ∙ ap (λ s. s ++ x ∷ drop (suc i) (take i xs ++ drop (n - 1) xs)) (take_at (take i xs) (drop (n - 1) xs) i (length-take-le i xs (omega arith)))
    ∙ ap (λ s. take i xs ++ x ∷ s) (drop_next xs i n x lo le)

one_or_none : (b : Bool) → cond b 1 0 ≤ 1
one_or_none b = grind (arith, nat_tests)

module _ {V : Type 0} where
  EndBefore-back : (ys zs : List (Run V)) (t : ℕ) → EndBefore (ys ++ zs) t → EndBefore zs t
  EndBefore-back [] zs t g = g
  EndBefore-back (y ∷ ys) zs t g = EndBefore-back ys zs t g.1

  -- the run that is read before a place
  pub run_before : (least : V) (xs : List (Run V)) (i : ℕ) (q : Run V) → 0 < i → i ≤ length xs → q ≡ get_or xs (i - 1) q → AreTickRuns least (take i xs) → IsRun least q
  run_before least xs i q pos le e h =
      let k : AreTickRuns least (take (i - 1) xs ++ q ∷ []) = rw (← take_read xs i q pos le e) h in
      (AreTickRuns-back least (take (i - 1) xs) (q ∷ []) k).0

  -- a run that does not touch the one before
  pub left_kept : (least : V) (xs : List (Run V)) (i : ℕ) (q r : Run V) → 0 < i → i ≤ length xs → q ≡ get_or xs (i - 1) q → AreTickRuns least (take i xs) → EndBefore (take i xs) r.first → IsRun least r → (q.last + 1 ≡ r.first → q.value ≢ r.value) → AreTickRuns least (take i xs ++ r ∷ [])
  left_kept least xs i q r pos le e h b is n =
      let s : take i xs ≡ take (i - 1) xs ++ q ∷ [] = take_read xs i q pos le e in
      let k : AreTickRuns least (take (i - 1) xs ++ q ∷ []) = rw (← s) h in
      let f : EndBefore (take (i - 1) xs ++ q ∷ []) r.first = rw (← s) b in
      let j : AreTickRuns least (take (i - 1) xs ++ q ∷ r ∷ []) =
      AreTickRuns-join least (take (i - 1) xs) q (r ∷ []) k
      ((AreTickRuns-back least (take (i - 1) xs) (q ∷ []) k).0, record { later = (EndBefore-back (take (i - 1) xs) (q ∷ []) r.first f).0; apart = n }, (is, tt, tt)) in
      rw (s, append_assoc (take (i - 1) xs) (q ∷ []) (r ∷ [])) j

  -- a run with the one before it
  abbrev pub with_before : Run V → Run V → Run V
  with_before q r = record { first = q.first; last = r.last; value = r.value }

  -- two runs that touch have the ticks of one run
  merged : (a b c e t : ℕ) (x y d : V) → a ≤ b → b + 1 ≡ c → c ≤ e → x ≡ y → cond (within a e t) y d ≡ cond (within a b t) x (cond (within c e t) y d)
  merged a b c e t x y d ab bc ce xy = grind (arith, nat_tests)

  pub left_absorbed : (least : V) (xs : List (Run V)) (i : ℕ) (q r : Run V) → 0 < i → i ≤ length xs → q ≡ get_or xs (i - 1) q → AreTickRuns least (take i xs) → IsRun least r → q.last + 1 ≡ r.first → q.value ≡ r.value → AreTickRuns least (take (i - 1) xs ++ with_before q r ∷ [])
  left_absorbed least xs i q r pos le e h is touch same =
      let s : take i xs ≡ take (i - 1) xs ++ q ∷ [] = take_read xs i q pos le e in
      let k : AreTickRuns least (take (i - 1) xs ++ q ∷ []) = rw (← s) h in
      let iq : IsRun least q = (AreTickRuns-back least (take (i - 1) xs) (q ∷ []) k).0 in
      AreTickRuns-other_last least (take (i - 1) xs) q (with_before q r) k
      (record { from_one = iq.from_one; ordered = omega (arith, iq.ordered, is.ordered, touch); upto = is.upto; known = is.known })
      (omega arith) (λ _. same)

  pub left_absorbed_values : (least : V) (xs : List (Run V)) (i : ℕ) (q r : Run V) → 0 < i → i ≤ length xs → q ≡ get_or xs (i - 1) q → AreTickRuns least (take i xs) → IsRun least r → q.last + 1 ≡ r.first → q.value ≡ r.value → (d : V) (t : ℕ) → value_at d (take (i - 1) xs ++ with_before q r ∷ []) t ≡ value_at d (take i xs ++ r ∷ []) t
  left_absorbed_values least xs i q r pos le e h is touch same d t =
      let iq : IsRun least q = run_before least xs i q pos le e h in
      let s : take i xs ≡ take (i - 1) xs ++ q ∷ [] = take_read xs i q pos le e in
      value_at-append d (take (i - 1) xs) (with_before q r ∷ []) t
      ∙ ap (λ v. value_at v (take (i - 1) xs) t) (merged q.first q.last r.first r.last t q.value r.value d iq.ordered touch is.ordered same)
      ∙ sym (value_at-append d (take (i - 1) xs) (q ∷ r ∷ []) t)
      ∙ ap (λ ys. value_at d ys t) (sym (append_assoc (take (i - 1) xs) (q ∷ []) (r ∷ [])) ∙ ap (λ ys. ys ++ r ∷ []) (sym s))

  -- two runs that touch have the ticks of one run, whichever of the equal values it has
  merged_after : (a b c e t : ℕ) (x y d : V) → a ≤ b → b + 1 ≡ c → c ≤ e → y ≡ x → cond (within a e t) x d ≡ cond (within a b t) x (cond (within c e t) y d)
  merged_after a b c e t x y d ab bc ce yx = grind (arith, nat_tests)

  followed_alike : (q s : Run V) (ys : List (Run V)) → q.last ≡ s.last → q.value ≡ s.value → FollowedBy q ys → FollowedBy s ys
  followed_alike q s [] el ev f = tt
  followed_alike q s (y ∷ ys) el ev f = record { later = omega (arith, f.later, el); apart = λ e z. f.apart (omega (arith, e, el)) (ev ∙ z) }

  -- a run with the one after it
  pub right_absorbed : (least : V) (xs : List (Run V)) (i : ℕ) (q r s : Run V) → i < length xs → q ≡ get_or xs i q → AreTickRuns least (drop i xs) → IsRun least r → r.last + 1 ≡ q.first → q.value ≡ r.value → s.first ≡ r.first → s.last ≡ q.last → s.value ≡ r.value → AreTickRuns least (s ∷ drop (i + 1) xs)
  right_absorbed least xs i q r s lt e h is touch same ef el ev =
      let k : AreTickRuns least (q ∷ drop (i + 1) xs) = rw (drop_read xs i q lt e) at h in (
        record {
          from_one = omega (arith, is.from_one, ef);
          ordered = omega (arith, is.ordered, k.0.ordered, touch, ef, el);
          upto = omega (arith, k.0.upto, el);
          known = λ z. is.known (sym ev ∙ z);
        },
        followed_alike q s (drop (i + 1) xs) (sym el) (same ∙ sym ev) k.1,
        k.2,
      )

  pub right_absorbed_values : (least : V) (xs : List (Run V)) (i : ℕ) (q r : Run V) → i < length xs → q ≡ get_or xs i q → AreTickRuns least (drop i xs) → IsRun least r → r.last + 1 ≡ q.first → q.value ≡ r.value → (d : V) (t : ℕ) → value_at d (record { first = r.first; last = q.last; value = r.value } ∷ drop (i + 1) xs) t ≡ value_at d (r ∷ drop i xs) t
  right_absorbed_values least xs i q r lt e h is touch same d t =
      let k : AreTickRuns least (q ∷ drop (i + 1) xs) = rw (drop_read xs i q lt e) at h in
      merged_after r.first r.last q.first q.last t r.value q.value (value_at d (drop (i + 1) xs) t) is.ordered touch k.0.ordered same
      ∙ ap (λ ys. value_at d (r ∷ ys) t) (sym (drop_read xs i q lt e))

  -- a run in place of the one that is read needs no more room than one more run
  pub room_in_place : (at last : ℕ) (xs : List (Run V)) (i : ℕ) (q s : Run V) → i < length xs → q ≡ get_or xs i q → room at last (s ∷ drop (i + 1) xs) ≤ room at last (drop i xs) + 1
  room_in_place at last xs i q s lt e =
      omega (
        arith,
        room-cons at last s (drop (i + 1) xs),
        one_or_none (needs_room at last s),
        room-cons at last q (drop (i + 1) xs),
        ap (room at last) (drop_read xs i q lt e),
      )

  pub AreTickRuns-take : (least : V) (xs : List (Run V)) (i : ℕ) → AreTickRuns least xs → AreTickRuns least (take i xs)
  AreTickRuns-take least xs i h = AreTickRuns-front least (take i xs) (drop i xs) (rw (take-append-drop i xs) h)

  pub AreTickRuns-drop : (least : V) (xs : List (Run V)) (i : ℕ) → AreTickRuns least xs → AreTickRuns least (drop i xs)
  AreTickRuns-drop least xs i h = AreTickRuns-back least (take i xs) (drop i xs) (rw (take-append-drop i xs) h)
