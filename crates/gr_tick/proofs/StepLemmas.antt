-- A run put into a gap, and a range taken out of a run.
use Rattle.std.proofs.Common.{◌≡◌, ◌≢◌, ℕ, zero, suc, ◌+◌, ◌-◌, ◌<◌, ◌≤◌, ◌⊎◌, inl, inr, Bool, true, false, cond, leb, min, max, ◌^◌, List, [], ◌∷◌, ◌++◌, length, take, drop, get_or, refl, sym, ap, ◌∙◌, subst, zero-add, append_assoc, arith}
use Rattle.std.proofs.lemmas.List.{append-nil, take-append-drop, drop_all, take_more, take_at, drop_at, length-take-le}
use Rattle.std.proofs.lemmas.Bool.{cond_both, leb-true, leb-false, le-leb, lt-leb, cond-true, cond-false, and_parts, and_from, and_right, cases_lt, cases_Bool}
use Rattle.std.proofs.lemmas.Bool.Decides.{nat_tests}
use Rattle.gr_tick.specs.declared.run.Run.{Run}
use Rattle.gr_tick.specs.Runs.{is_in, value_at}
use Rattle.gr_tick.specs.Stored.{within, IsRun, AreTickRuns, EndBefore, BeginAfter, needs_room, room, growth, part, between, runs_in, touches, needed}
use Rattle.gr_tick.specs.Laws.{LatticeLaws}
use Rattle.std.specs.List.{remove}
use Rattle.std.proofs.lemmas.List.Sums.{sum_by-append, sum_by-cons}
use Rattle.gr_tick.proofs.LawLemmas.{join_least, join_known, join-least}
use Rattle.gr_tick.proofs.EditLemmas.{take-remove, drop-remove, drop_read, split_read}
use Rattle.gr_tick.proofs.RunsLemmas.{value_at-append, value_at_past, value_at_ahead, AreTickRuns-front, AreTickRuns-back, AreTickRuns-join, AreTickRuns-upto, AreTickRuns-other_last, EndBefore-front, EndBefore-later, BeginAfter-earlier, EndBefore-append, BeginAfter-back, AreTickRuns-gap, room-append, room-cons, room_past, room_moved}

le_trans : {a b c : ℕ} → a ≤ b → b ≤ c → a ≤ c
le_trans h k = omega arith

lt_le : {a b : ℕ} → a < b → a ≤ b
lt_le h = omega arith

within_less : (a b f l t : ℕ) → a ≤ f → l ≤ b → within a b t ≡ false → within f l t ≡ false
within_less a b f l t fa lb e = grind (arith, nat_tests)

module _ {V : Type 0} where
  pub cond_same : (b : Bool) (x y z w : V) → (b ≡ true → x ≡ y) → (b ≡ false → z ≡ w) → cond b x z ≡ cond b y w
  cond_same true x y z w h k = h refl
  cond_same false x y z w h k = k refl

  -- equal values put in one place
  pub put_is : (b : Bool) (x y z : V) → x ≡ y → cond b x z ≡ cond b y z
  put_is b x y z e = ap (λ w. cond b w z) e

  pub alone_at_end : (least : V) (xs : List (Run V)) (r : Run V) → AreTickRuns least (xs ++ r ∷ []) → IsRun least r
  alone_at_end least xs r h = (AreTickRuns-back least xs (r ∷ []) h).0

  pub put_runs : (least : V) (xs ys : List (Run V)) (b c : Run V) → AreTickRuns least (xs ++ b ∷ []) → AreTickRuns least (c ∷ ys) → c.first ≡ b.first → c.value ≡ b.value → AreTickRuns least (xs ++ c ∷ ys)
  put_runs least xs ys b c h k f v =
      AreTickRuns-join least xs c ys (AreTickRuns-other_last least xs b c h k.0 (omega arith) (λ _. sym v)) k

  -- a run that lies whole in a range has none of the other ticks
  pub passed_over : (least : V) (xs : List (Run V)) (from i a b t : ℕ) (r : Run V) → i < length xs → r ≡ get_or xs i r → a ≤ r.first → r.last ≤ b → within a b t ≡ false → value_at least (take from xs ++ drop (i + 1) xs) t ≡ value_at least (take from xs ++ drop i xs) t
  passed_over least xs from i a b t r lt e ar rb out =
      value_at-append least (take from xs) (drop (i + 1) xs) t
      ∙ ap (λ v. value_at v (take from xs) t) (sym (ap (λ zs. value_at least zs t) (drop_read xs i r lt e) ∙ cond-false (is_in t r) r.value (value_at least (drop (i + 1) xs) t) (within_less a b r.first r.last t ar rb out)))
      ∙ sym (value_at-append least (take from xs) (drop i xs) t)

  -- a run between the earlier and the later ones
  pub insert_values : (d : V) (xs : List (Run V)) (r : Run V) (ys : List (Run V)) (t : ℕ) → EndBefore xs r.first → value_at d (xs ++ r ∷ ys) t ≡ cond (is_in t r) r.value (value_at d (xs ++ ys) t)
  insert_values d xs r ys t h = value_at-append d xs (r ∷ ys) t ∙ by_cases (is_in t r) refl
    where
      by_cases : (b : Bool) → is_in t r ≡ b → value_at (cond b r.value (value_at d ys t)) xs t ≡ cond b r.value (value_at d (xs ++ ys) t)
      by_cases true e = value_at_past r.value xs r.first t h (leb-true _ _ (and_parts _ _ e).0)
      by_cases false e = sym (value_at-append d xs ys t)

  pub put_values : (d : V) (xs xs' ys ys' : List (Run V)) (r b c : Run V) → ((d : V) (t : ℕ) → value_at d (xs' ++ b ∷ []) t ≡ value_at d (xs ++ r ∷ []) t) → ((d : V) (t : ℕ) → value_at d (c ∷ ys') t ≡ value_at d (b ∷ ys) t) → EndBefore xs r.first → (t : ℕ) → value_at d (xs' ++ c ∷ ys') t ≡ cond (is_in t r) r.value (value_at d (xs ++ ys) t)
  put_values d xs xs' ys ys' r b c before after h t =
      value_at-append d xs' (c ∷ ys') t
      ∙ ap (λ v. value_at v xs' t) (after d t)
      ∙ sym (value_at-append d xs' (b ∷ ys) t)
      ∙ ap (λ zs. value_at d zs t) (sym (append_assoc xs' (b ∷ []) ys))
      ∙ value_at-append d (xs' ++ b ∷ []) ys t
      ∙ before (value_at d ys t) t
      ∙ sym (value_at-append d (xs ++ r ∷ []) ys t)
      ∙ ap (λ zs. value_at d zs t) (append_assoc xs (r ∷ []) ys)
      ∙ insert_values d xs r ys t h

  pub put_room : (least : V) (at last : ℕ) (xs : List (Run V)) (b : Run V) (zs : List (Run V)) → AreTickRuns least (xs ++ b ∷ []) → b.first ≤ at → room at last (xs ++ zs) ≡ room at last zs
  put_room least at last xs b zs h le =
      room-append at last xs zs ∙ ap (λ n. n + room at last zs) (room_past at last xs (EndBefore-later xs b.first at (EndBefore-front least xs b h) le)) ∙ zero-add _

  -- the parts of a run round a range
  part_value : (first last : ℕ) (v d : V) (t : ℕ) → value_at d (part first last v) t ≡ cond (within first last t) v d
  part_value first last v d t = by_cases (leb first last) refl
    where
      by_cases : (b : Bool) → leb first last ≡ b → value_at d (cond b (record { first = first; last = last; value = v } ∷ []) []) t ≡ cond (within first last t) v d
      by_cases true e = refl
      by_cases false e =
          let no : within first last t ≡ false = outside (leb-false _ _ e) in
          sym (cond-false _ v d no)
        where
          outside : last < first → within first last t ≡ false
          outside lt = grind (arith, nat_tests)

  pub rest_before_runs : (least : V) (xs : List (Run V)) (r : Run V) (ys : List (Run V)) (a : ℕ) → AreTickRuns least (xs ++ r ∷ ys) → r.first ≤ a → a ≤ r.last → AreTickRuns least (xs ++ part r.first (a - 1) r.value)
  rest_before_runs least xs r ys a h fa al =
      let up : AreTickRuns least (xs ++ r ∷ []) = AreTickRuns-upto least xs r ys h in
      let is : IsRun least r = (AreTickRuns-back least xs (r ∷ []) up).0 in
      by_cases (leb r.first (a - 1)) refl up is
    where
      by_cases : (b : Bool) → leb r.first (a - 1) ≡ b → AreTickRuns least (xs ++ r ∷ []) → IsRun least r → AreTickRuns least (xs ++ cond b (record { first = r.first; last = a - 1; value = r.value } ∷ []) [])
      by_cases true e up is =
          let le : r.first ≤ a - 1 = leb-true _ _ e in
          AreTickRuns-other_last least xs r (record { first = r.first; last = a - 1; value = r.value }) up
          (record { from_one = is.from_one; ordered = le; upto = omega (arith, is.upto); known = is.known }) (omega arith) (λ _. refl)
      by_cases false e up is = rw (append-nil xs) (AreTickRuns-front least xs (r ∷ []) up)

  pub rest_before_past : (least : V) (xs : List (Run V)) (r : Run V) (ys : List (Run V)) (a : ℕ) → AreTickRuns least (xs ++ r ∷ ys) → r.first ≤ a → EndBefore (xs ++ part r.first (a - 1) r.value) a
  rest_before_past least xs r ys a h fa =
      let up : AreTickRuns least (xs ++ r ∷ []) = AreTickRuns-upto least xs r ys h in
      let is : IsRun least r = (AreTickRuns-back least xs (r ∷ []) up).0 in
      EndBefore-append xs _ a (EndBefore-later xs r.first a (EndBefore-front least xs r up) fa) (by_cases (leb r.first (a - 1)) refl is)
    where
      by_cases : (b : Bool) → leb r.first (a - 1) ≡ b → IsRun least r → EndBefore (cond b (record { first = r.first; last = a - 1; value = r.value } ∷ []) []) a
      by_cases true e is = (omega (arith, is.from_one), tt)
      by_cases false e is = tt

  pub rest_after_runs : (least : V) (r : Run V) (ys : List (Run V)) (b : ℕ) → AreTickRuns least (r ∷ ys) → r.first ≤ b → b ≤ r.last → AreTickRuns least (part (b + 1) r.last r.value ++ ys)
  rest_after_runs least r ys b h fb bl = by_cases (leb (b + 1) r.last) refl ys h
    where
      by_cases : (c : Bool) → leb (b + 1) r.last ≡ c → (ys : List (Run V)) → AreTickRuns least (r ∷ ys) → AreTickRuns least (cond c (record { first = b + 1; last = r.last; value = r.value } ∷ []) [] ++ ys)
      by_cases true e [] h = (record { from_one = omega arith; ordered = leb-true _ _ e; upto = h.0.upto; known = h.0.known }, tt, tt)
      by_cases true e (y ∷ ys) h = (record { from_one = omega arith; ordered = leb-true _ _ e; upto = h.0.upto; known = h.0.known }, record { later = h.1.later; apart = h.1.apart }, h.2)
      by_cases false e ys h = h.2

  pub rest_after_ahead : (least : V) (r : Run V) (ys : List (Run V)) (b : ℕ) → AreTickRuns least (r ∷ ys) → b ≤ r.last → BeginAfter (part (b + 1) r.last r.value ++ ys) b
  rest_after_ahead least r ys b h bl = by_cases (leb (b + 1) r.last) refl
    where
      later : BeginAfter ys b
      later = BeginAfter-earlier ys r.last b (BeginAfter-back least r ys h) bl

      by_cases : (c : Bool) → leb (b + 1) r.last ≡ c → BeginAfter (cond c (record { first = b + 1; last = r.last; value = r.value } ∷ []) [] ++ ys) b
      by_cases true e = (omega arith, later)
      by_cases false e = later

  -- outside the range the parts of a run have its ticks
  parts_outside : (f l a b t : ℕ) (v x : V) → 1 ≤ f → f ≤ a → a ≤ b → b ≤ l → within a b t ≡ false → cond (within f (a - 1) t) v (cond (within (b + 1) l t) v x) ≡ cond (within f l t) v x
  parts_outside f l a b t v x pos fa ab bl e = grind (arith, nat_tests)

  parts_inside : (f l a b t : ℕ) (v x : V) → 1 ≤ f → f ≤ a → within a b t ≡ true → cond (within f (a - 1) t) v (cond (within (b + 1) l t) v x) ≡ x
  parts_inside f l a b t v x pos fa e = grind (arith, nat_tests)

  pub rest_values : (least : V) (xs : List (Run V)) (r : Run V) (ys : List (Run V)) (a b t : ℕ) → AreTickRuns least (xs ++ r ∷ ys) → r.first ≤ a → a ≤ b → b ≤ r.last → value_at least ((xs ++ part r.first (a - 1) r.value) ++ (part (b + 1) r.last r.value ++ ys)) t ≡ cond (within a b t) least (value_at least (xs ++ r ∷ ys) t)
  rest_values least xs r ys a b t h fa ab bl =
      let x = value_at least ys t in
      value_at-append least (xs ++ part r.first (a - 1) r.value) (part (b + 1) r.last r.value ++ ys) t
      ∙ value_at-append _ xs (part r.first (a - 1) r.value) t
      ∙ ap (λ v. value_at v xs t) (part_value r.first (a - 1) r.value _ t
      ∙ ap (λ v. cond (within r.first (a - 1) t) r.value v) (value_at-append least (part (b + 1) r.last r.value) ys t ∙ part_value (b + 1) r.last r.value x t))
      ∙ by_cases (within a b t) refl
    where
      up : AreTickRuns least (xs ++ r ∷ [])
      up = AreTickRuns-upto least xs r ys h

      is : IsRun least r
      is = (AreTickRuns-back least xs (r ∷ []) up).0

      by_cases : (c : Bool) → within a b t ≡ c → value_at (cond (within r.first (a - 1) t) r.value (cond (within (b + 1) r.last t) r.value (value_at least ys t))) xs t ≡ cond c least (value_at least (xs ++ r ∷ ys) t)
      by_cases true e =
          let le : a ≤ t = leb-true _ _ (and_parts _ _ e).0 in
          let ge : t ≤ b = leb-true _ _ (and_parts _ _ e).1 in
          let tl : t ≤ r.last = omega (arith, ge) in
          let ft : r.first ≤ t = omega (arith, le) in
          ap (λ v. value_at v xs t) (parts_inside r.first r.last a b t r.value (value_at least ys t) is.from_one fa e
          ∙ value_at_ahead least ys r.last t (BeginAfter-back least r ys (AreTickRuns-back least xs (r ∷ ys) h)) tl)
          ∙ value_at_past least xs r.first t (EndBefore-front least xs r up) ft
      by_cases false e =
          ap (λ v. value_at v xs t) (parts_outside r.first r.last a b t r.value (value_at least ys t) is.from_one fa ab bl e)
          ∙ sym (value_at-append least xs (r ∷ ys) t)

  -- the value on a run
  pub run_value : (least : V) (xs : List (Run V)) (r : Run V) (ys : List (Run V)) (t : ℕ) → AreTickRuns least (xs ++ r ∷ ys) → r.first ≤ t → t ≤ r.last → value_at least (xs ++ r ∷ ys) t ≡ r.value
  run_value least xs r ys t h ft tl =
      value_at-append least xs (r ∷ ys) t
      ∙ ap (λ v. value_at v xs t) (cond-true (is_in t r) r.value _ (and_from _ _ (le-leb _ _ ft) (le-leb _ _ tl)))
      ∙ value_at_past r.value xs r.first t (EndBefore-front least xs r (AreTickRuns-upto least xs r ys h)) ft

  -- the value in a gap
  pub gap_value : (least : V) (xs ys : List (Run V)) (a b t : ℕ) → EndBefore xs a → BeginAfter ys b → a ≤ t → t ≤ b → value_at least (xs ++ ys) t ≡ least
  gap_value least xs ys a b t h k at tb =
      value_at-append least xs ys t ∙ ap (λ v. value_at v xs t) (value_at_ahead least ys b t k tb) ∙ value_at_past least xs a t h at

  -- a value put where the least one was is joined to it
  pub gap_values : (least : V) (join_of : V → V → V) (is_at_most : V → V → Bool) (v : V) (xs new : List (Run V)) (i a b : ℕ) → LatticeLaws least join_of is_at_most → EndBefore (take i xs) a → BeginAfter (drop i xs) b → ((t : ℕ) → value_at least new t ≡ cond (within a b t) v (value_at least xs t)) → (t : ℕ) → value_at least new t ≡ cond (within a b t) (join_of (value_at least xs t) v) (value_at least xs t)
  gap_values least join_of is_at_most v xs new i a b laws h k p t =
      p t ∙ cond_same (within a b t) _ _ _ _ inside (λ _. refl)
    where
      inside : within a b t ≡ true → v ≡ join_of (value_at least xs t) v
      inside e =
          let at : value_at least xs t ≡ least =
          ap (λ ys. value_at least ys t) (sym (take-append-drop i xs))
          ∙ gap_value least (take i xs) (drop i xs) a b t h k (leb-true a t (and_parts (leb a t) (leb t b) e).0) (leb-true t b (and_parts (leb a t) (leb t b) e).1) in
          sym (join_least least join_of is_at_most laws v) ∙ ap (λ x. join_of x v) (sym at)

  -- a value joined to that of a run
  pub run_values : (least : V) (join_of : V → V → V) (v : V) (old carved new xs : List (Run V)) (r : Run V) (ys : List (Run V)) (a b : ℕ) → AreTickRuns least old → old ≡ xs ++ r ∷ ys → carved ≡ (xs ++ part r.first (a - 1) r.value) ++ (part (b + 1) r.last r.value ++ ys) → r.first ≤ a → a ≤ b → b ≤ r.last → ((t : ℕ) → value_at least new t ≡ cond (within a b t) (join_of r.value v) (value_at least carved t)) → (t : ℕ) → value_at least new t ≡ cond (within a b t) (join_of (value_at least old t) v) (value_at least old t)
  run_values least join_of v old carved new xs r ys a b h eo ec fa ab bl p t =
      p t ∙ cond_same (within a b t) _ _ _ _ inside outside
    where
      runs : AreTickRuns least (xs ++ r ∷ ys)
      runs = rw eo at h

      inside : within a b t ≡ true → join_of r.value v ≡ join_of (value_at least old t) v
      inside e =
          let le : a ≤ t = leb-true a t (and_parts (leb a t) (leb t b) e).0 in
          let ge : t ≤ b = leb-true t b (and_parts (leb a t) (leb t b) e).1 in
          ap (λ x. join_of x v) (sym (ap (λ zs. value_at least zs t) eo ∙ run_value least xs r ys t runs (le_trans fa le) (le_trans ge bl)))

      outside : within a b t ≡ false → value_at least carved t ≡ value_at least old t
      outside e =
          ap (λ zs. value_at least zs t) ec ∙ rest_values least xs r ys a b t runs fa ab bl
          ∙ cond-false (within a b t) _ _ e ∙ ap (λ zs. value_at least zs t) (sym eo)

  length-part : (first last : ℕ) (v : V) → length (part first last v) ≡ cond (leb first last) 1 0
  length-part first last v = by_cases (leb first last)
    where
      by_cases : (b : Bool) → length {A = Run V} (cond b (record { first = first; last = last; value = v } ∷ []) []) ≡ cond b 1 0
      by_cases true = refl
      by_cases false = refl

  pub growth_in : (a l : ℕ) (xs : List (Run V)) → a ≤ l → growth a l xs ≡ 1 + room a l xs
  growth_in a l xs le = cond-true (leb a l) _ _ (le-leb a l le)

  growth_out : (a l : ℕ) (xs : List (Run V)) → l < a → growth a l xs ≡ 0
  growth_out a l xs lt = cond-false (leb a l) _ _ (lt-leb a l lt)

  pub growth_most : (a l : ℕ) (xs : List (Run V)) → growth a l xs ≤ 1 + room a l xs
  growth_most a l xs = cond_both (leb a l) _ _ (λ n. n ≤ 1 + room a l xs) (λ _. omega arith) (λ _. omega arith)

  front_needs : (a l : ℕ) (r : Run V) → 1 ≤ r.first → r.first ≤ a → a ≤ l → a ≤ r.last → cond (leb r.first (a - 1)) 1 0 ≤ cond (needs_room a l r) 1 0
  front_needs a l r pos fa al bl = grind (arith, nat_tests)

  pub growth_run : (least : V) (xs : List (Run V)) (r : Run V) (ys new : List (Run V)) (a b l n m k : ℕ) → AreTickRuns least (xs ++ r ∷ ys) → r.first ≤ a → a ≤ b → b ≤ r.last → a ≤ l → (b ≡ l) ⊎ (b ≡ r.last) → m + 1 ≡ n + length (part r.first (a - 1) r.value) + length (part (b + 1) r.last r.value) → k ≤ m + 1 → room (b + 1) l new + k ≤ room (b + 1) l (part (b + 1) r.last r.value ++ ys) + m + 1 → growth (b + 1) l new + k ≤ growth a l (xs ++ r ∷ ys) + n
  growth_run least xs r ys new a b l n m k h fa ab bl al which em ek er = by_cases which
    where
      up : AreTickRuns least (xs ++ r ∷ [])
      up = AreTickRuns-upto least xs r ys h

      is : IsRun least r
      is = (AreTickRuns-back least xs (r ∷ []) up).0

      begin_after : BeginAfter ys a
      begin_after = BeginAfter-earlier ys r.last a (BeginAfter-back least r ys (AreTickRuns-back least xs (r ∷ ys) h)) (le_trans ab bl)

      front : length (part r.first (a - 1) r.value) ≤ cond (needs_room a l r) 1 0
      front = omega (arith, length-part r.first (a - 1) r.value, front_needs a l r is.from_one fa al (le_trans ab bl))

      old : room a l (xs ++ r ∷ ys) ≡ cond (needs_room a l r) 1 0 + room a l ys
      old = omega (arith, room-append a l xs (r ∷ ys), room_past a l xs (EndBefore-later xs r.first a (EndBefore-front least xs r up) fa), room-cons a l r ys)

      all : growth a l (xs ++ r ∷ ys) ≡ 1 + room a l (xs ++ r ∷ ys)
      all = growth_in a l (xs ++ r ∷ ys) al

      by_cases : (b ≡ l) ⊎ (b ≡ r.last) → growth (b + 1) l new + k ≤ growth a l (xs ++ r ∷ ys) + n
      by_cases (inl e) =
          let back : length (part (b + 1) r.last r.value) ≤ 1 = omega (arith, length-part (b + 1) r.last r.value, cond_both (leb (b + 1) r.last) 1 0 (λ z. z ≤ 1) (λ _. omega arith) (λ _. omega arith)) in
          let out : growth (b + 1) l new ≡ 0 = growth_out (b + 1) l new (omega arith) in
          omega (arith, front, old, all)
      by_cases (inr e) =
          let none : leb (b + 1) r.last ≡ false = lt-leb (b + 1) r.last (omega arith) in
          let back : length (part (b + 1) r.last r.value) ≡ 0 = length-part (b + 1) r.last r.value ∙ ap (λ z. cond z 1 0) none in
          let rest : room (b + 1) l (part (b + 1) r.last r.value ++ ys) ≡ room (b + 1) l ys = ap (λ z. room (b + 1) l (cond z (record { first = b + 1; last = r.last; value = r.value } ∷ []) [] ++ ys)) none in
          let most : growth (b + 1) l new ≤ 1 + room (b + 1) l new = growth_most (b + 1) l new in
          let moved : room (b + 1) l ys ≤ room a l ys = room_moved a (b + 1) l ys begin_after (omega arith) in
          omega (arith, front, old, all)

  -- old is cut at a run that is read there; in carved the run has lost a range
  pub record Carved (least : V) (old carved : List (Run V)) (i place a b : ℕ) (r : Run V) : Type 0 where
    pub split : old ≡ take i old ++ r ∷ drop (i + 1) old
    pub runs : AreTickRuns least (take i old ++ r ∷ drop (i + 1) old)
    pub begins : r.first ≤ a
    pub ordered : a ≤ b
    pub ends : b ≤ r.last
    pub front : take place carved ≡ take i old ++ part r.first (a - 1) r.value
    pub back : drop place carved ≡ part (b + 1) r.last r.value ++ drop (i + 1) old

  pub carved_is : (least : V) (old removed carved : List (Run V)) (i place a b : ℕ) (r : Run V) → i < length old → r ≡ get_or old i r → AreTickRuns least old → (get_or old i r).first ≤ a → a ≤ b → b ≤ (get_or old i r).last → removed ≡ remove old i → take place carved ≡ take i removed ++ part r.first (a - 1) r.value → drop place carved ≡ part (b + 1) r.last r.value ++ drop i removed → Carved least old carved i place a b r
  carved_is least old removed carved i place a b r lt e h fa ab bl er ef eb =
      let s : old ≡ take i old ++ r ∷ drop (i + 1) old = split_read old i r lt e in
      record {
        split = s;
        runs = rw s at h;
        begins = omega (arith, ap (λ q. q.first) e);
        ordered = ab;
        ends = omega (arith, ap (λ q. q.last) e);
        front = ef ∙ ap (λ zs. take i zs ++ part r.first (a - 1) r.value) er ∙ ap (λ zs. zs ++ part r.first (a - 1) r.value) (take-remove old i lt);
        back = eb ∙ ap (λ zs. part (b + 1) r.last r.value ++ drop i zs) er ∙ ap (λ zs. part (b + 1) r.last r.value ++ zs) (drop-remove old i lt);
      }

  pub no_part : (first last : ℕ) (v : V) → last < first → part first last v ≡ []
  no_part first last v lt = cond-false (leb first last) _ _ (lt-leb first last lt)

  pub one_part : (first last : ℕ) (v : V) → first ≤ last → part first last v ≡ record { first = first; last = last; value = v } ∷ []
  one_part first last v le = cond-true (leb first last) _ _ (le-leb first last le)

  -- nothing is left of a run that the range is all of
  pub carved_whole : (least : V) (old : List (Run V)) (i a b : ℕ) (r : Run V) → i < length old → r ≡ get_or old i r → AreTickRuns least old → r.first ≡ a → r.last ≡ b → Carved least old (take i old ++ drop (i + 1) old) i i a b r
  carved_whole least old i a b r lt e h ea eb =
      let s : old ≡ take i old ++ r ∷ drop (i + 1) old = split_read old i r lt e in
      let k : AreTickRuns least (take i old ++ r ∷ drop (i + 1) old) = rw s at h in
      let is : IsRun least r = (AreTickRuns-back least (take i old) (r ∷ drop (i + 1) old) k).0 in
      let count : length (take i old) ≡ i = length-take-le i old (omega arith) in
      record {
        split = s;
        runs = k;
        begins = omega (arith, ea);
        ordered = omega (arith, is.ordered, ea, eb);
        ends = omega (arith, eb);
        front = take_at (take i old) (drop (i + 1) old) i count ∙ sym (append-nil (take i old))
            ∙ ap (λ p. take i old ++ p) (sym (no_part r.first (a - 1) r.value (omega (arith, is.from_one, ea))));
        back = drop_at (take i old) (drop (i + 1) old) i count
            ∙ ap (λ p. p ++ drop (i + 1) old) (sym (no_part (b + 1) r.last r.value (omega (arith, eb))));
      }

  pub read_alone : (least : V) (old : List (Run V)) (i : ℕ) (r : Run V) → i < length old → r ≡ get_or old i r → AreTickRuns least old → IsRun least r
  read_alone least old i r lt e h =
      let s : old ≡ take i old ++ r ∷ drop (i + 1) old = split_read old i r lt e in
      let k : AreTickRuns least (take i old ++ r ∷ drop (i + 1) old) = rw s at h in
      (AreTickRuns-back least (take i old) (r ∷ drop (i + 1) old) k).0

  module _ (least : V) (old carved : List (Run V)) (i place a b : ℕ) (r : Run V) (k : Carved least old carved i place a b r) where
    pub carved_before : AreTickRuns least (take place carved)
    carved_before = rw k.front (rest_before_runs least (take i old) r (drop (i + 1) old) a k.runs k.begins (le_trans k.ordered k.ends))

    pub carved_past : EndBefore (take place carved) a
    carved_past = rw k.front (rest_before_past least (take i old) r (drop (i + 1) old) a k.runs k.begins)

    pub carved_after : AreTickRuns least (drop place carved)
    carved_after = rw k.back (rest_after_runs least r (drop (i + 1) old) b (AreTickRuns-back least (take i old) (r ∷ drop (i + 1) old) k.runs) (le_trans k.begins k.ordered) k.ends)

    pub carved_ahead : BeginAfter (drop place carved) b
    carved_ahead = rw k.back (rest_after_ahead least r (drop (i + 1) old) b (AreTickRuns-back least (take i old) (r ∷ drop (i + 1) old) k.runs) k.ends)

    carved_all : carved ≡ (take i old ++ part r.first (a - 1) r.value) ++ (part (b + 1) r.last r.value ++ drop (i + 1) old)
    carved_all = sym (take-append-drop place carved) ∙ ap (λ zs. zs ++ drop place carved) k.front ∙ ap (λ zs. (take i old ++ part r.first (a - 1) r.value) ++ zs) k.back

    -- without the range the values there are the least one
    pub carved_values : (t : ℕ) → value_at least carved t ≡ cond (within a b t) least (value_at least old t)
    carved_values t =
        ap (λ zs. value_at least zs t) carved_all
        ∙ rest_values least (take i old) r (drop (i + 1) old) a b t k.runs k.begins k.ordered k.ends
        ∙ ap (λ zs. cond (within a b t) least (value_at least zs t)) (sym k.split)

    pub joined_values : (join_of : V → V → V) (v x : V) (new : List (Run V)) → x ≡ join_of r.value v → ((t : ℕ) → value_at least new t ≡ cond (within a b t) x (value_at least carved t)) → (t : ℕ) → value_at least new t ≡ cond (within a b t) (join_of (value_at least old t) v) (value_at least old t)
    joined_values join_of v x new e p t =
        run_values least join_of v old carved new (take i old) r (drop (i + 1) old) a b (rw (k.split) k.runs) k.split carved_all k.begins k.ordered k.ends
        (λ n. p n ∙ ap (λ y. cond (within a b n) y (value_at least carved n)) e) t

    pub joined_growth : (new : List (Run V)) (l n m z : ℕ) → a ≤ l → (b ≡ l) ⊎ (b ≡ r.last) → m + 1 ≡ n + length (part r.first (a - 1) r.value) + length (part (b + 1) r.last r.value) → z ≤ m + 1 → room (b + 1) l new + z ≤ room (b + 1) l (drop place carved) + m + 1 → growth (b + 1) l new + z ≤ growth a l old + n
    joined_growth new l n m z al which em ez er =
        let e : room (b + 1) l (drop place carved) ≡ room (b + 1) l (part (b + 1) r.last r.value ++ drop (i + 1) old) = ap (room (b + 1) l) k.back in
        let g : growth (b + 1) l new + z ≤ growth a l (take i old ++ r ∷ drop (i + 1) old) + n =
        growth_run least (take i old) r (drop (i + 1) old) new a b l n m z k.runs k.begins k.ordered k.ends al which em ez (omega (arith, e)) in
        omega (arith, ap (growth a l) k.split)

  -- the runs before the one that is read and those behind it
  pub run_past : (least : V) (old : List (Run V)) (i a : ℕ) (r : Run V) → i < length old → r ≡ get_or old i r → AreTickRuns least old → r.first ≡ a → EndBefore (take i old) a
  run_past least old i a r lt e h ea =
      let k : AreTickRuns least (take i old ++ r ∷ drop (i + 1) old) = rw (split_read old i r lt e) at h in
      EndBefore-later (take i old) r.first a (EndBefore-front least (take i old) r (AreTickRuns-upto least (take i old) r (drop (i + 1) old) k)) (omega (arith, ea))

  pub run_ahead : (least : V) (old : List (Run V)) (i b : ℕ) (r : Run V) → i < length old → r ≡ get_or old i r → AreTickRuns least old → r.last ≡ b → BeginAfter (drop (i + 1) old) b
  run_ahead least old i b r lt e h eb =
      let k : AreTickRuns least (take i old ++ r ∷ drop (i + 1) old) = rw (split_read old i r lt e) at h in
      BeginAfter-earlier (drop (i + 1) old) r.last b (BeginAfter-back least r (drop (i + 1) old) (AreTickRuns-back least (take i old) (r ∷ drop (i + 1) old) k)) (omega (arith, eb))

  -- a join on all of a run needs no room but for the runs behind it
  pub whole_growth : (least : V) (old new : List (Run V)) (i a b l n z : ℕ) (r : Run V) → i < length old → r ≡ get_or old i r → AreTickRuns least old → r.first ≡ a → r.last ≡ b → a ≤ l → (b ≡ l) ⊎ (b ≡ r.last) → 0 < n → z ≤ n → room (b + 1) l new + z ≤ room (b + 1) l (drop (i + 1) old) + n → growth (b + 1) l new + z ≤ growth a l old + n
  whole_growth least old new i a b l n z r lt e h ea eb al which some zn er =
      let carved : List (Run V) = take i old ++ drop (i + 1) old in
      let is : IsRun least r = read_alone least old i r lt e h in
      let behind : drop i carved ≡ drop (i + 1) old = drop_at (take i old) (drop (i + 1) old) i (length-take-le i old (omega arith)) in
      joined_growth least old carved i i a b r (carved_whole least old i a b r lt e h ea eb) new l n (n - 1) z al which
      (omega (arith, ap length (no_part r.first (a - 1) r.value (omega (arith, is.from_one, ea))), ap length (no_part (b + 1) r.last r.value (omega (arith, eb)))))
      (omega arith) (omega (arith, ap (room (b + 1) l) behind))

  pub join_alone : (least : V) (join_of : V → V → V) (is_at_most : V → V → Bool) (r : Run V) (a b : ℕ) (v w x : V) → LatticeLaws least join_of is_at_most → IsRun least r → r.first ≤ a → a ≤ b → b ≤ r.last → x ≡ join_of r.value w → w ≡ v → IsRun least (record { first = a; last = b; value = x })
  join_alone least join_of is_at_most r a b v w x laws is fa ab bl e f =
      record { from_one = omega (arith, is.from_one); ordered = ab; upto = omega (arith, is.upto); known = λ z. join_known least join_of is_at_most laws r.value w is.known (sym e ∙ z) }

  pub length-part-le : (first last : ℕ) (v : V) → length (part first last v) ≤ 1
  length-part-le first last v = omega (arith, length-part first last v, cond_both (leb first last) 1 0 (λ z. z ≤ 1) (λ _. omega arith) (λ _. omega arith))

  -- a tick before the run that is read at a place is before all from there on
  pub ahead_at : (least : V) (old : List (Run V)) (i a : ℕ) (r : Run V) → i < length old → r ≡ get_or old i r → AreTickRuns least old → a < r.first → BeginAfter (drop i old) a
  ahead_at least old i a r lt e h lo =
      let sp : old ≡ take i old ++ r ∷ drop (i + 1) old = split_read old i r lt e in
      let k : AreTickRuns least (take i old ++ r ∷ drop (i + 1) old) = rw sp at h in
      let m : AreTickRuns least (r ∷ drop (i + 1) old) = AreTickRuns-back least (take i old) (r ∷ drop (i + 1) old) k in
      let is : IsRun least r = m.0 in
      let later : BeginAfter (r ∷ drop (i + 1) old) a = (lo, BeginAfter-earlier (drop (i + 1) old) r.last a (BeginAfter-back least r (drop (i + 1) old) m) (omega (arith, is.ordered))) in
      subst (λ zs. BeginAfter zs a) (sym (drop_read old i r lt e)) later

  -- a join from within a run needs room for what the run has before
  pub front_room : (least : V) (old : List (Run V)) (i a l : ℕ) (r : Run V) → i < length old → r ≡ get_or old i r → AreTickRuns least old → r.first ≤ a → a ≤ l → a ≤ r.last → length (part r.first (a - 1) r.value) + 1 ≤ growth a l old
  front_room least old i a l r lt e h fa al ar =
      let is : IsRun least r = read_alone least old i r lt e h in
      omega (
        arith,
        length-part r.first (a - 1) r.value,
        front_needs a l r is.from_one fa al ar,
        growth_in a l old al,
        ap (room a l) (split_read old i r lt e),
        room-append a l (take i old) (r ∷ drop (i + 1) old),
        room-cons a l r (drop (i + 1) old),
      )

  -- a join on a gap up to the end, and up to a run that begins in the range
  pub growth_end : (a b l : ℕ) (old new : List (Run V)) (n z : ℕ) → a ≤ l → l ≤ b → z ≤ n + 1 → growth (b + 1) l new + z ≤ growth a l old + n
  growth_end a b l old new n z al lb ez = omega (arith, growth_in a l old al, growth_out (b + 1) l new (omega arith))

  start_needs : (a l : ℕ) (s : Run V) → a < s.first → s.first ≤ l → s.first ≤ s.last → 1 ≤ cond (needs_room a l s) 1 0
  start_needs a l s lt le o = grind (arith, nat_tests)

  start_needs_not : (a l : ℕ) (s : Run V) → s.first ≡ a → cond (needs_room a l s) 1 0 ≤ 0
  start_needs_not a l s e = grind (arith, nat_tests)

  pub growth_gap : (least : V) (old new : List (Run V)) (i a l n z : ℕ) (s : Run V) → i < length old → s ≡ get_or old i s → AreTickRuns least old → a < s.first → s.first ≤ l → room s.first l new + z ≤ room s.first l (drop i old) + n + 1 → growth s.first l new + z ≤ growth a l old + n
  growth_gap least old new i a l n z s lt e h lo sl er =
      let is : IsRun least s = read_alone least old i s lt e h in
      let sp : old ≡ take i old ++ s ∷ drop (i + 1) old = split_read old i s lt e in
      let k : AreTickRuns least (take i old ++ s ∷ drop (i + 1) old) = rw sp at h in
      let later : BeginAfter (drop (i + 1) old) a = BeginAfter-earlier (drop (i + 1) old) s.last a (BeginAfter-back least s (drop (i + 1) old) (AreTickRuns-back least (take i old) (s ∷ drop (i + 1) old) k)) (omega (arith, is.ordered)) in
      omega (
        arith,
        start_needs a l s lo sl is.ordered,
        start_needs_not s.first l s refl,
        growth_in a l old (le_trans (lt_le lo) sl),
        growth_most s.first l new,
        ap (room a l) sp,
        room-append a l (take i old) (s ∷ drop (i + 1) old),
        room-cons a l s (drop (i + 1) old),
        ap (room s.first l) (drop_read old i s lt e),
        room-cons s.first l s (drop (i + 1) old),
        room_moved a s.first l (drop (i + 1) old) later (lt_le lo),
      )

  pub growth_gap_at : (least : V) (old new : List (Run V)) (i a l n z p : ℕ) (s : Run V) → i < length old → s ≡ get_or old i s → AreTickRuns least old → a < s.first → s.first ≤ l → p ≡ s.first → room p l new + z ≤ room p l (drop i old) + n + 1 → growth p l new + z ≤ growth a l old + n
  growth_gap_at least old new i a l n z p s lt e h lo sl ep er =
      let q : room s.first l new + z ≤ room s.first l (drop i old) + n + 1 = subst (λ k. room k l new + z ≤ room k l (drop i old) + n + 1) ep er in
      subst (λ k. growth k l new + z ≤ growth a l old + n) (sym ep) (growth_gap least old new i a l n z s lt e h lo sl q)

  -- one step more of a join
  pub join_more : (f a e t : ℕ) (x y z : V) (join_of : V → V → V) (v : V) → f ≤ a → a ≤ e → y ≡ cond (between f a t) (join_of x v) x → z ≡ cond (within a e t) (join_of y v) y → z ≡ cond (between f (e + 1) t) (join_of x v) x
  join_more f a e t x y z join_of v fa ae ey ez = grind (arith, nat_tests)

  pub join_all : (f l a t : ℕ) (x y : V) → a ≡ l + 1 → cond (between f a t) y x ≡ cond (within f l t) y x
  join_all f l a t x y e = grind (arith, nat_tests)

  pub join_none : (f t : ℕ) (x y : V) → x ≡ cond (between f f t) y x
  join_none f t x y = grind (arith, nat_tests)

  pub ahead_none : (old : List (Run V)) (i a : ℕ) → length old ≤ i → BeginAfter (drop i old) a
  ahead_none old i a le = subst (λ zs. BeginAfter zs a) (sym (drop_all i old le)) tt

  -- a gap has the least value already
  pub gap_lowered : (least : V) (xs : List (Run V)) (i a b t : ℕ) → EndBefore (take i xs) a → BeginAfter (drop i xs) b → value_at least xs t ≡ cond (within a b t) least (value_at least xs t)
  gap_lowered least xs i a b t h k = by_cases (within a b t) refl
    where
      by_cases : (c : Bool) → within a b t ≡ c → value_at least xs t ≡ cond c least (value_at least xs t)
      by_cases true e =
          ap (λ ys. value_at least ys t) (sym (take-append-drop i xs))
          ∙ gap_value least (take i xs) (drop i xs) a b t h k (leb-true a t (and_parts (leb a t) (leb t b) e).0) (leb-true t b (and_parts (leb a t) (leb t b) e).1)
      by_cases false e = refl

  pub carved_runs : (least : V) (old carved : List (Run V)) (i place a b : ℕ) (r : Run V) → Carved least old carved i place a b r → AreTickRuns least carved
  carved_runs least old carved i place a b r k =
      rw (← take-append-drop place carved)
      (AreTickRuns-gap least (take place carved) (drop place carved) a b (carved_before least old carved i place a b r k) (carved_after least old carved i place a b r k) (carved_past least old carved i place a b r k) (carved_ahead least old carved i place a b r k) k.ordered)

  -- runs end before a tick where the values from there on are the least one
  pub EndBefore-from_values : (least : V) (xs : List (Run V)) (a : ℕ) → AreTickRuns least xs → ((t : ℕ) → a ≤ t → value_at least xs t ≡ least) → EndBefore xs a
  EndBefore-from_values least [] a h p = tt
  EndBefore-from_values least (x ∷ xs) a h p = (before (cases_lt x.last a), EndBefore-from_values least xs a h.2 (λ t le. rest t le (cases_lt x.last a)))
    where
      before : (x.last < a) ⊎ (a ≤ x.last) → x.last < a
      before (inl lt) = lt
      before (inr le) =
          absurd (h.0.known (sym (cond-true (is_in x.last x) x.value (value_at least xs x.last) (and_from _ _ (le-leb _ _ h.0.ordered) (le-leb _ _ (omega arith)))) ∙ p x.last le))

      rest : (t : ℕ) → a ≤ t → (x.last < a) ⊎ (a ≤ x.last) → value_at least xs t ≡ least
      rest t le (inl lt) = sym (cond-false (is_in t x) x.value (value_at least xs t) (and_right _ _ (lt-leb t x.last (omega arith)))) ∙ p t le
      rest t le (inr ge) =
          absurd (h.0.known (sym (cond-true (is_in x.last x) x.value (value_at least xs x.last) (and_from _ _ (le-leb _ _ h.0.ordered) (le-leb _ _ (omega arith)))) ∙ p x.last ge))

  -- a run put past the others is the last
  pub pushed_past : (least : V) (old new : List (Run V)) (r : Run V) (t : ℕ) → AreTickRuns least new → EndBefore old r.first → r.first ≤ r.last → ((n : ℕ) → value_at least new n ≡ cond (is_in n r) r.value (value_at least old n)) → r.last < t → EndBefore new t
  pushed_past least old new r t h past o p lt =
      EndBefore-from_values least new t h (λ n le. p n ∙ cond-false (is_in n r) r.value (value_at least old n) (and_right _ _ (lt-leb n r.last (omega (arith, le, lt)))) ∙ value_at_past least old r.first n past (omega (arith, le, lt, o)))

  pub take_at_read : (xs : List (Run V)) (i : ℕ) (s : Run V) → i < length xs → s ≡ get_or xs i s → take (i + 1) xs ≡ take i xs ++ s ∷ []
  take_at_read xs i s lt e = take_more xs i s lt ∙ ap (λ r. take i xs ++ r ∷ []) (sym e)

  pub bottom_past : (least : V) (xs : List (Run V)) (i n m : ℕ) (s : Run V) → i < length xs → s ≡ get_or xs i s → AreTickRuns least xs → value_at least (take i xs) n ≡ least → m ≡ cond (is_in n s) (s.last + 1) n → value_at least (take (i + 1) xs) m ≡ least
  bottom_past least xs i n m s lt e h p em =
      ap (λ zs. value_at least zs m) (take_at_read xs i s lt e) ∙ ap (value_at least (take i xs ++ s ∷ [])) em ∙ by_cases (is_in n s) refl
    where
      runs : AreTickRuns least (take i xs ++ s ∷ [])
      runs = AreTickRuns-front least (take i xs ++ s ∷ []) (drop (i + 1) xs) (subst (λ zs. AreTickRuns least zs) (split_read xs i s lt e ∙ sym (append_assoc (take i xs) (s ∷ []) (drop (i + 1) xs))) h)

      is : IsRun least s
      is = alone_at_end least (take i xs) s runs

      by_cases : (b : Bool) → is_in n s ≡ b → value_at least (take i xs ++ s ∷ []) (cond b (s.last + 1) n) ≡ least
      by_cases true c =
          value_at_past least (take i xs ++ s ∷ []) (s.last + 1) (s.last + 1)
          (EndBefore-append (take i xs) (s ∷ []) (s.last + 1) (EndBefore-later (take i xs) s.first (s.last + 1) (EndBefore-front least (take i xs) s runs) (omega (arith, is.ordered))) (omega arith, tt))
          (omega arith)
      by_cases false c =
          value_at-append least (take i xs) (s ∷ []) n ∙ ap (λ v. value_at v (take i xs) n) (cond-false (is_in n s) s.value least c) ∙ p

  pub bottom_least : (least : V) (xs : List (Run V)) (i a n m : ℕ) (s : Run V) → i < length xs → s ≡ get_or xs i s → AreTickRuns least xs → ((t : ℕ) → a ≤ t → t < n → value_at least xs t ≢ least) → m ≡ cond (is_in n s) (s.last + 1) n → (t : ℕ) → a ≤ t → t < m → value_at least xs t ≢ least
  bottom_least least xs i a n m s lt e h p em t at tm = by_cases (is_in n s) refl (subst (λ k. t < k) em tm)
    where
      split : xs ≡ take i xs ++ s ∷ drop (i + 1) xs
      split = split_read xs i s lt e

      runs : AreTickRuns least (take i xs ++ s ∷ drop (i + 1) xs)
      runs = rw split at h

      by_cases : (b : Bool) → is_in n s ≡ b → t < cond b (s.last + 1) n → value_at least xs t ≢ least
      by_cases false c lo = p t at lo
      by_cases true c lo = by_place (cases_lt t n)
        where
          by_place : (t < n) ⊎ (n ≤ t) → value_at least xs t ≢ least
          by_place (inl l) = p t at l
          by_place (inr ge) = λ z.
              (read_alone least xs i s lt e h).known
              (sym (ap (λ zs. value_at least zs t) split ∙ run_value least (take i xs) s (drop (i + 1) xs) t runs (le_trans (leb-true s.first n (and_parts (leb s.first n) (leb n s.last) c).0) ge) (omega (arith, lo))) ∙ z)

  pub bottom_inside : (least : V) (s : Run V) (a n m : ℕ) → IsRun least s → a ≤ n → n ≤ 2 ^ 62 + 1 → m ≡ cond (is_in n s) (s.last + 1) n → (a ≤ m) × (m ≤ 2 ^ 62 + 1)
  bottom_inside least s a n m is an nm em = by_cases (is_in n s) refl em
    where
      by_cases : (b : Bool) → is_in n s ≡ b → m ≡ cond b (s.last + 1) n → (a ≤ m) × (m ≤ 2 ^ 62 + 1)
      by_cases true c e =
          let ns : n ≤ s.last = leb-true n s.last (and_parts (leb s.first n) (leb n s.last) c).1 in
          (omega (arith, e, ns, an), omega (arith, e, is.upto))
      by_cases false c e = (omega (arith, e, an), omega (arith, e, nm))

  -- a run of a piece
  pub piece_run : (least : V) (s : Run V) (a b : ℕ) (v : V) → IsRun least s → a ≤ b → 1 ≤ a → b ≤ s.last → v ≡ s.value → IsRun least (record { first = a; last = b; value = v })
  piece_run least s a b v is ab pos bs e = record { from_one = pos; ordered = ab; upto = omega (arith, is.upto, bs); known = λ z. is.known (sym e ∙ z) }

  cut : (f l sf sl t : ℕ) (v x d : V) → cond (within (max f sf) (min l sl) t) v (cond (within f l t) x d) ≡ cond (within f l t) (cond (within sf sl t) v x) d
  cut f l sf sl t v x d = grind (arith, nat_tests)

  cut_none : (f l sf sl t : ℕ) (v x d : V) → min l sl < max f sf → cond (within f l t) x d ≡ cond (within f l t) (cond (within sf sl t) v x) d
  cut_none f l sf sl t v x d lt = grind (arith, nat_tests)

  pub read_values : (least : V) (xs : List (Run V)) (i t : ℕ) (s : Run V) → i < length xs → s ≡ get_or xs i s → AreTickRuns least xs → value_at least (take (i + 1) xs) t ≡ cond (is_in t s) s.value (value_at least (take i xs) t)
  read_values least xs i t s lt e h =
      let runs : AreTickRuns least (take i xs ++ s ∷ []) = AreTickRuns-front least (take i xs ++ s ∷ []) (drop (i + 1) xs) (subst (λ zs. AreTickRuns least zs) (split_read xs i s lt e ∙ sym (append_assoc (take i xs) (s ∷ []) (drop (i + 1) xs))) h) in
      ap (λ zs. value_at least zs t) (take_at_read xs i s lt e)
      ∙ insert_values least (take i xs) s [] t (EndBefore-front least (take i xs) s runs)
      ∙ ap (λ zs. cond (is_in t s) s.value (value_at least zs t)) (append-nil (take i xs))

  pub piece_more : (least : V) (xs : List (Run V)) (i f l t : ℕ) (s : Run V) (p q v : V) → i < length xs → s ≡ get_or xs i s → AreTickRuns least xs → v ≡ s.value → p ≡ cond (within f l t) (value_at least (take i xs) t) least → q ≡ cond (within (max f s.first) (min l s.last) t) v p → q ≡ cond (within f l t) (value_at least (take (i + 1) xs) t) least
  piece_more least xs i f l t s p q v lt e h ev ep eq =
      eq ∙ ap (λ w. cond (within (max f s.first) (min l s.last) t) w p) ev
      ∙ ap (λ w. cond (within (max f s.first) (min l s.last) t) s.value w) ep
      ∙ cut f l s.first s.last t s.value (value_at least (take i xs) t) least
      ∙ ap (λ w. cond (within f l t) w least) (sym (read_values least xs i t s lt e h))

  pub piece_same : (least : V) (xs : List (Run V)) (i f l t : ℕ) (s : Run V) (p : V) → i < length xs → s ≡ get_or xs i s → AreTickRuns least xs → min l s.last < max f s.first → p ≡ cond (within f l t) (value_at least (take i xs) t) least → p ≡ cond (within f l t) (value_at least (take (i + 1) xs) t) least
  piece_same least xs i f l t s p lt e h none ep =
      ep ∙ cut_none f l s.first s.last t s.value (value_at least (take i xs) t) least none
      ∙ ap (λ w. cond (within f l t) w least) (sym (read_values least xs i t s lt e h))

  -- what ends before a tick that the next run has begun by
  pub next_begins : {W : Type 0} (least : V) (xs : List (Run V)) (ps : List (Run W)) (i : ℕ) (s : Run V) → i < length xs → s ≡ get_or xs i s → AreTickRuns least xs → ((t : ℕ) → s.last < t → EndBefore ps t) → (n : Run V) (ns : List (Run V)) → drop (i + 1) xs ≡ n ∷ ns → EndBefore ps n.first
  next_begins least xs ps i s lt e h p n ns en =
      let k : AreTickRuns least (take i xs ++ s ∷ drop (i + 1) xs) = rw (split_read xs i s lt e) at h in
      let m : AreTickRuns least (s ∷ drop (i + 1) xs) = AreTickRuns-back least (take i xs) (s ∷ drop (i + 1) xs) k in
      let b : BeginAfter (drop (i + 1) xs) s.last = BeginAfter-back least s (drop (i + 1) xs) m in
      let c : BeginAfter (n ∷ ns) s.last = subst (λ zs. BeginAfter zs s.last) en b in
      p n.first c.0

  pub none_within : (a b t : ℕ) (x y : V) → b < a → x ≡ cond (within a b t) y x
  none_within a b t x y lt = grind (arith, nat_tests)

  pub gap_steady : (least : V) (xs : List (Run V)) (i a b t : ℕ) → EndBefore (take i xs) a → BeginAfter (drop i xs) b → a ≤ t → t ≤ b → value_at least xs t ≡ value_at least xs a
  gap_steady least xs i a b t h k lo hi =
      let whole : take i xs ++ drop i xs ≡ xs = take-append-drop i xs in
      ap (λ ys. value_at least ys t) (sym whole)
      ∙ gap_value least (take i xs) (drop i xs) a b t h k lo hi
      ∙ sym (gap_value least (take i xs) (drop i xs) a b a h k (omega arith) (le_trans lo hi))
      ∙ ap (λ ys. value_at least ys a) whole

  pub run_steady : (least : V) (xs : List (Run V)) (i a t : ℕ) (r : Run V) → i < length xs → r ≡ get_or xs i r → AreTickRuns least xs → r.first ≤ a → a ≤ t → t ≤ r.last → value_at least xs t ≡ value_at least xs a
  run_steady least xs i a t r lt e h fa lo hi =
      let sp : xs ≡ take i xs ++ r ∷ drop (i + 1) xs = split_read xs i r lt e in
      let k : AreTickRuns least (take i xs ++ r ∷ drop (i + 1) xs) = rw sp at h in
      ap (λ ys. value_at least ys t) sp
      ∙ run_value least (take i xs) r (drop (i + 1) xs) t k (le_trans fa lo) hi
      ∙ sym (run_value least (take i xs) r (drop (i + 1) xs) a k fa (le_trans lo hi))
      ∙ ap (λ ys. value_at least ys a) (sym sp)

  -- how many runs a later range has
  pub runs_in-append : (f l : ℕ) (xs ys : List (Run V)) → runs_in f l (xs ++ ys) ≡ runs_in f l xs + runs_in f l ys
  runs_in-append f l xs ys = sum_by-append (λ r. cond (touches f l r) 1 0) xs ys

  pub runs_in-cons : (f l : ℕ) (y : Run V) (ys : List (Run V)) → runs_in f l (y ∷ ys) ≡ cond (touches f l y) 1 0 + runs_in f l ys
  runs_in-cons f l y ys = sum_by-cons (λ r. cond (touches f l r) 1 0) y ys

  pub runs_in-drop : (f l : ℕ) (xs : List (Run V)) (i : ℕ) → runs_in f l (drop i xs) ≤ runs_in f l xs
  runs_in-drop f l xs i = omega (arith, runs_in-append f l (take i xs) (drop i xs), ap (runs_in f l) (take-append-drop i xs))

  touches_past : (f l : ℕ) (r : Run V) → r.last < f → cond (touches f l r) 1 0 ≤ 0
  touches_past f l r lt = grind (arith, nat_tests)

  touches_part : (f l : ℕ) (r s : Run V) → s.last ≤ r.last → r.first ≤ s.first → cond (touches f l s) 1 0 ≤ cond (touches f l r) 1 0
  touches_part f l r s b a = grind (arith, nat_tests)

  touches_later : (f l : ℕ) (r s : Run V) → s.last ≤ r.last → r.first ≤ f → f ≤ l → cond (touches f l s) 1 0 ≤ cond (touches f l r) 1 0
  touches_later f l r s b a le = grind (arith, nat_tests)

  pub runs_in_past : (f l : ℕ) (xs : List (Run V)) → EndBefore xs f → runs_in f l xs ≤ 0
  runs_in_past f l [] h = omega arith
  runs_in_past f l (x ∷ xs) h = omega (arith, runs_in-cons f l x xs, touches_past f l x h.0, runs_in_past f l xs h.1)

  pub later_kept : (f l : ℕ) (xs : List (Run V)) (r : Run V) → r.last < f → runs_in f l (r ∷ xs) ≤ runs_in f l xs
  later_kept f l xs r lt = omega (arith, runs_in-cons f l r xs, touches_past f l r lt)

  pub later_absorbed : (f l : ℕ) (old : List (Run V)) (i : ℕ) (r s : Run V) → i < length old → s ≡ get_or old i s → s.first ≤ f → f ≤ l → r.last ≡ s.last → runs_in f l (r ∷ drop (i + 1) old) ≤ runs_in f l (drop i old)
  later_absorbed f l old i r s lt e sf fl rs =
      omega (arith, runs_in-cons f l r (drop (i + 1) old), runs_in-cons f l s (drop (i + 1) old), ap (runs_in f l) (drop_read old i s lt e), touches_later f l s r (omega arith) sf fl)

  pub put_later : (least : V) (f l : ℕ) (xs : List (Run V)) (b : Run V) (zs : List (Run V)) → AreTickRuns least (xs ++ b ∷ []) → b.first ≤ f → runs_in f l (xs ++ zs) ≤ runs_in f l zs
  put_later least f l xs b zs h le =
      omega (arith, runs_in-append f l xs zs, runs_in_past f l xs (EndBefore-later xs b.first f (EndBefore-front least xs b h) le))

  runs_in-part : (f l a b : ℕ) (v : V) (r : Run V) → r.first ≤ a → b ≤ r.last → runs_in f l (part a b v) ≤ cond (touches f l r) 1 0
  runs_in-part f l a b v r ra br = by_cases (leb a b)
    where
      none : runs_in {V = V} f l [] ≤ 0
      none = omega arith

      by_cases : (c : Bool) → runs_in f l (cond c (record { first = a; last = b; value = v } ∷ []) []) ≤ cond (touches f l r) 1 0
      by_cases true = omega (arith, none, runs_in-cons f l (record { first = a; last = b; value = v }) [], touches_part f l r (record { first = a; last = b; value = v }) br ra)
      by_cases false = omega arith

  pub carved_later : (least : V) (old carved : List (Run V)) (i place a b : ℕ) (r : Run V) → Carved least old carved i place a b r → (f l : ℕ) → runs_in f l (drop place carved) ≤ runs_in f l old
  carved_later least old carved i place a b r k f l =
      omega (
        arith,
        ap (runs_in f l) k.back,
        runs_in-append f l (part (b + 1) r.last r.value) (drop (i + 1) old),
        runs_in-part f l (b + 1) r.last r.value r (le_trans k.begins (le_trans k.ordered (le_suc b))) (omega arith),
        ap (runs_in f l) k.split,
        runs_in-append f l (take i old) (r ∷ drop (i + 1) old),
        runs_in-cons f l r (drop (i + 1) old),
      )
    where
      le_suc : (n : ℕ) → n ≤ n + 1
      le_suc n = omega arith

  pub needed-drop : (rs os : List (Run V)) (i : ℕ) (o : Run V) → i < length os → o ≡ get_or os i o → needed rs (drop i os) ≡ (runs_in o.first o.last rs + 1) + needed rs (drop (i + 1) os)
  needed-drop rs os i o lt e = ap (needed rs) (drop_read os i o lt e)

  needed-append : (rs os ps : List (Run V)) → needed rs (os ++ ps) ≡ needed rs os + needed rs ps
  needed-append rs [] ps = sym (zero-add _)
  needed-append rs (o ∷ os) ps = omega (arith, needed-append rs os ps)

  pub needed_more : (rs os : List (Run V)) (i : ℕ) (o : Run V) → i < length os → o ≡ get_or os i o → needed rs (take (i + 1) os) ≡ needed rs (take i os) + (runs_in o.first o.last rs + 1)
  needed_more rs os i o lt e =
      let one : needed rs (o ∷ []) ≡ (runs_in o.first o.last rs + 1) + 0 = refl in
      omega (arith, ap (needed rs) (take_at_read os i o lt e), needed-append rs (take i os) (o ∷ []), one)

  pub needed_upto : (rs os : List (Run V)) (k : ℕ) → needed rs (take k os) ≤ needed rs os
  needed_upto rs os zero = omega arith
  needed_upto rs [] (suc k) = omega arith
  needed_upto rs (o ∷ os) (suc k) = omega (arith, needed_upto rs os k)

  -- a join at earlier ticks leaves enough room
  pub needed_later : (least : V) (old new os : List (Run V)) (b : ℕ) → AreTickRuns least os → BeginAfter os b → ((f l : ℕ) → b < f → f ≤ l → runs_in f l new ≤ runs_in f l old) → needed new os ≤ needed old os
  needed_later least old new [] b h k p = omega arith
  needed_later least old new (o ∷ os) b h k p =
      omega (arith, p o.first o.last k.0 h.0.ordered, needed_later least old new os b h.2 k.1 p)

  pub needed_step : (least : V) (old new os : List (Run V)) (i n m : ℕ) (o : Run V) → i < length os → o ≡ get_or os i o → AreTickRuns least os → ((f l : ℕ) → o.last < f → f ≤ l → runs_in f l new ≤ runs_in f l old) → needed old (drop i os) ≤ n → n ≤ m + (runs_in o.first o.last old + 1) → needed new (drop (i + 1) os) ≤ m
  needed_step least old new os i n m o lt e h p en em =
      let k : AreTickRuns least (take i os ++ o ∷ drop (i + 1) os) = rw (split_read os i o lt e) at h in
      let c : AreTickRuns least (o ∷ drop (i + 1) os) = AreTickRuns-back least (take i os) (o ∷ drop (i + 1) os) k in
      omega (arith, needed_later least old new (drop (i + 1) os) o.last c.2 (BeginAfter-back least o (drop (i + 1) os) c) p, needed-drop old os i o lt e)

  -- one run more is joined
  pub each_more : (least : V) (join_of : V → V → V) (is_at_most : V → V → Bool) (os : List (Run V)) (i t : ℕ) (o : Run V) (x y z : V) → LatticeLaws least join_of is_at_most → i < length os → o ≡ get_or os i o → AreTickRuns least os → y ≡ join_of x (value_at least (take i os) t) → z ≡ cond (within o.first o.last t) (join_of y o.value) y → z ≡ join_of x (value_at least (take (i + 1) os) t)
  each_more least join_of is_at_most os i t o x y z laws lt e h ey ez =
      ez ∙ by_cases (cases_Bool (is_in t o)) ∙ ap (join_of x) (sym (read_values least os i t o lt e h))
    where
      k : AreTickRuns least (take i os ++ o ∷ drop (i + 1) os)
      k = rw (split_read os i o lt e) at h

      by_cases : (is_in t o ≡ true) ⊎ (is_in t o ≡ false) → cond (within o.first o.last t) (join_of y o.value) y ≡ join_of x (cond (is_in t o) o.value (value_at least (take i os) t))
      by_cases (inl c) =
          let from : o.first ≤ t = leb-true o.first t (and_parts (leb o.first t) (leb t o.last) c).0 in
          let none : value_at least (take i os) t ≡ least = value_at_past least (take i os) o.first t (EndBefore-front least (take i os) o (AreTickRuns-upto least (take i os) o (drop (i + 1) os) k)) from in
          cond-true (is_in t o) (join_of y o.value) y c
          ∙ ap (λ w. join_of w o.value) (ey ∙ ap (join_of x) none ∙ join-least least join_of is_at_most laws x)
          ∙ ap (join_of x) (sym (cond-true (is_in t o) o.value (value_at least (take i os) t) c))
      by_cases (inr n) =
          cond-false (is_in t o) (join_of y o.value) y n ∙ ey
          ∙ ap (join_of x) (sym (cond-false (is_in t o) o.value (value_at least (take i os) t) n))
