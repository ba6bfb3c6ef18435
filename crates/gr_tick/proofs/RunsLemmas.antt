-- Lists of runs: values at ticks, and what follows what.
use Rattle.std.proofs.Common.{◌≡◌, ◌≢◌, ℕ, ◌+◌, ◌<◌, ◌≤◌, Bool, true, false, ◌&&◌, cond, eqb, leb, List, [], ◌∷◌, ◌++◌, length, take, drop, get_or, zero, suc, refl, sym, ap, ◌∙◌, subst, zero-add, arith, rules}
use Rattle.std.proofs.lemmas.List.{take_more, take_all}
use Rattle.std.proofs.lemmas.List.Sums.{sum_by-append, sum_by-cons, sum_by-le-sum_by}
use Rattle.std.proofs.lemmas.Bool.{cond_both, le-leb, lt-leb, cond-false, and_from, and_left, and_right}
use Rattle.std.proofs.lemmas.Bool.Decides.{nat_tests}
use Rattle.gr_tick.specs.declared.run.Run.{Run}
use Rattle.gr_tick.specs.Runs.{is_in, value_at}
use Rattle.gr_tick.specs.Stored.{room, touches, runs_in, IsRun, Follows, AreTickRuns, EndBefore, BeginAfter, needs_room, growth}

module _ {V : Type 0} where
  -- what the later runs give is what the earlier ones fall back to
  pub value_at-append : (d : V) (xs ys : List (Run V)) (t : ℕ) → value_at d (xs ++ ys) t ≡ value_at (value_at d ys t) xs t
  value_at-append d [] ys t = refl
  value_at-append d (x ∷ xs) ys t = ap (λ v. cond (is_in t x) x.value v) (value_at-append d xs ys t)

  pub covers_yes : (r : Run V) (t : ℕ) → r.first ≤ t → t ≤ r.last → is_in t r ≡ true
  covers_yes r t a b = and_from _ _ (le-leb _ _ a) (le-leb _ _ b)

  pub covers_below : (r : Run V) (t : ℕ) → t < r.first → is_in t r ≡ false
  covers_below r t a = and_left _ _ (lt-leb _ _ a)

  pub covers_above : (r : Run V) (t : ℕ) → r.last < t → is_in t r ≡ false
  covers_above r t a = and_right _ _ (lt-leb _ _ a)

  pub value_at_past : (d : V) (xs : List (Run V)) (a t : ℕ) → EndBefore xs a → a ≤ t → value_at d xs t ≡ d
  value_at_past d [] a t h le = refl
  value_at_past d (x ∷ xs) a t h le =
      let lt : x.last < t = omega (arith, h.0) in
      cond-false (is_in t x) _ _ (covers_above x t lt) ∙ value_at_past d xs a t h.1 le

  pub value_at_ahead : (d : V) (xs : List (Run V)) (a t : ℕ) → BeginAfter xs a → t ≤ a → value_at d xs t ≡ d
  value_at_ahead d [] a t h le = refl
  value_at_ahead d (x ∷ xs) a t h le =
      let lt : t < x.first = omega (arith, h.0) in
      cond-false (is_in t x) _ _ (covers_below x t lt) ∙ value_at_ahead d xs a t h.1 le

  -- a list of runs, cut in two
  pub AreTickRuns-front : (least : V) (xs ys : List (Run V)) → AreTickRuns least (xs ++ ys) → AreTickRuns least xs
  AreTickRuns-front least [] ys h = tt
  AreTickRuns-front least (x ∷ []) ys h = (h.0, tt, tt)
  AreTickRuns-front least (x ∷ y ∷ xs) ys h = (h.0, h.1, AreTickRuns-front least (y ∷ xs) ys h.2)

  pub AreTickRuns-back : (least : V) (xs ys : List (Run V)) → AreTickRuns least (xs ++ ys) → AreTickRuns least ys
  AreTickRuns-back least [] ys h = h
  AreTickRuns-back least (x ∷ xs) ys h = AreTickRuns-back least xs ys h.2

  -- two lists of runs that share a run
  pub AreTickRuns-join : (least : V) (xs : List (Run V)) (r : Run V) (ys : List (Run V)) → AreTickRuns least (xs ++ r ∷ []) → AreTickRuns least (r ∷ ys) → AreTickRuns least (xs ++ r ∷ ys)
  AreTickRuns-join least [] r ys h k = k
  AreTickRuns-join least (x ∷ []) r ys h k = (h.0, h.1, k)
  AreTickRuns-join least (x ∷ y ∷ xs) r ys h k = (h.0, h.1, AreTickRuns-join least (y ∷ xs) r ys h.2 k)

  pub AreTickRuns-upto : (least : V) (xs : List (Run V)) (r : Run V) (ys : List (Run V)) → AreTickRuns least (xs ++ r ∷ ys) → AreTickRuns least (xs ++ r ∷ [])
  AreTickRuns-upto least [] r ys h = (h.0, tt, tt)
  AreTickRuns-upto least (x ∷ []) r ys h = (h.0, h.1, (h.2.0, tt, tt))
  AreTickRuns-upto least (x ∷ y ∷ xs) r ys h = (h.0, h.1, AreTickRuns-upto least (y ∷ xs) r ys h.2)

  -- another last run, which begins no earlier, and has the old value where it begins at once
  pub AreTickRuns-other_last : (least : V) (xs : List (Run V)) (r s : Run V) → AreTickRuns least (xs ++ r ∷ []) → IsRun least s → r.first ≤ s.first → (r.first ≡ s.first → r.value ≡ s.value) → AreTickRuns least (xs ++ s ∷ [])
  AreTickRuns-other_last least [] r s h is le same = (is, tt, tt)
  AreTickRuns-other_last least (x ∷ []) r s h is le same =
      let f : Follows x s = record {
        later = omega (arith, h.1.later, le);
        apart = λ e v.
            let lt : x.last < r.first = h.1.later in
            let at : r.first ≡ s.first = omega arith in
            h.1.apart (omega arith) (v ∙ sym (same at));
      } in (h.0, f, (is, tt, tt))
  AreTickRuns-other_last least (x ∷ y ∷ xs) r s h is le same = (h.0, h.1, AreTickRuns-other_last least (y ∷ xs) r s h.2 is le same)

  -- runs before a tick, and a run from there on that does not touch them
  pub AreTickRuns-push_past : (least : V) (xs : List (Run V)) (r : Run V) → AreTickRuns least xs → IsRun least r → EndBefore xs r.first → ((p : Run V) (ps : List (Run V)) → xs ≡ ps ++ p ∷ [] → p.last + 1 ≡ r.first → p.value ≢ r.value) → AreTickRuns least (xs ++ r ∷ [])
  AreTickRuns-push_past least [] r h is e n = (is, tt, tt)
  AreTickRuns-push_past least (x ∷ []) r h is e n = (h.0, record { later = e.0; apart = n x [] refl }, (is, tt, tt))
  AreTickRuns-push_past least (x ∷ y ∷ xs) r h is e n = (h.0, h.1, AreTickRuns-push_past least (y ∷ xs) r h.2 is e.1 (λ p ps q. n p (x ∷ ps) (ap (λ (zs : List (Run V)). x ∷ zs) q)))

  -- all runs before one that follows
  pub EndBefore-front : (least : V) (xs : List (Run V)) (r : Run V) → AreTickRuns least (xs ++ r ∷ []) → EndBefore xs r.first
  EndBefore-front least [] r h = tt
  EndBefore-front least (x ∷ []) r h = (h.1.later, tt)
  EndBefore-front least (x ∷ y ∷ xs) r h =
      let e : EndBefore (y ∷ xs) r.first = EndBefore-front least (y ∷ xs) r h.2 in
      (omega (arith, h.1.later, h.2.0.ordered, e.0), e)

  pub EndBefore-later : (xs : List (Run V)) (a b : ℕ) → EndBefore xs a → a ≤ b → EndBefore xs b
  EndBefore-later [] a b h le = tt
  EndBefore-later (x ∷ xs) a b h le = (omega (arith, h.0), EndBefore-later xs a b h.1 le)

  pub BeginAfter-earlier : (xs : List (Run V)) (a b : ℕ) → BeginAfter xs a → b ≤ a → BeginAfter xs b
  BeginAfter-earlier [] a b h le = tt
  BeginAfter-earlier (x ∷ xs) a b h le = (omega (arith, h.0), BeginAfter-earlier xs a b h.1 le)

  pub EndBefore-take : (xs : List (Run V)) (n t : ℕ) → EndBefore xs t → EndBefore (take n xs) t
  EndBefore-take xs zero t h = tt
  EndBefore-take [] (suc n) t h = tt
  EndBefore-take (x ∷ xs) (suc n) t h = (h.0, EndBefore-take xs n t h.1)

  pub EndBefore-append : (xs ys : List (Run V)) (a : ℕ) → EndBefore xs a → EndBefore ys a → EndBefore (xs ++ ys) a
  EndBefore-append [] ys a h k = k
  EndBefore-append (x ∷ xs) ys a h k = (h.0, EndBefore-append xs ys a h.1 k)

  -- all runs after the first
  pub BeginAfter-back : (least : V) (r : Run V) (ys : List (Run V)) → AreTickRuns least (r ∷ ys) → BeginAfter ys r.last
  BeginAfter-back least r [] h = tt
  BeginAfter-back least r (y ∷ ys) h =
      (h.1.later, BeginAfter-earlier ys y.last r.last (BeginAfter-back least y ys h.2) (omega (arith, h.1.later, h.2.0.ordered)))

  -- two lists of runs with a gap between them
  pub AreTickRuns-gap : (least : V) (xs ys : List (Run V)) (a b : ℕ) → AreTickRuns least xs → AreTickRuns least ys → EndBefore xs a → BeginAfter ys b → a ≤ b → AreTickRuns least (xs ++ ys)
  AreTickRuns-gap least [] ys a b h k e f le = k
  AreTickRuns-gap least (x ∷ []) [] a b h k e f le = (h.0, tt, tt)
  AreTickRuns-gap least (x ∷ []) (y ∷ ys) a b h k e f le =
      (h.0, record { later = omega (arith, e.0, f.0); apart = λ q v. absurd (omega (arith, e.0, f.0)) }, k)
  AreTickRuns-gap least (x ∷ z ∷ xs) ys a b h k e f le = (h.0, h.1, AreTickRuns-gap least (z ∷ xs) ys a b h.2 k e.1 f le)

  -- how much room a join may need
  needs_room_past : (at last : ℕ) (r : Run V) → r.last < at → needs_room at last r ≡ false
  needs_room_past at last r lt = and_left _ _ (and_right _ _ (lt-leb _ _ lt))

  needs_room_moved : (c at last : ℕ) (r : Run V) → c < r.first → c ≤ at → cond (needs_room at last r) 1 0 ≤ cond (needs_room c last r) 1 0
  needs_room_moved c at last r lt le = grind (arith, nat_tests)

  needs_room_touches : (at last : ℕ) (r : Run V) → cond (needs_room at last r) 1 0 ≤ cond (touches at last r) 1 0
  needs_room_touches at last r = grind (arith, nat_tests)

  pub room-append : (at last : ℕ) (xs ys : List (Run V)) → room at last (xs ++ ys) ≡ room at last xs + room at last ys
  room-append at last xs ys = sum_by-append (λ r. cond (needs_room at last r) 1 0) xs ys

  pub room-cons : (at last : ℕ) (y : Run V) (ys : List (Run V)) → room at last (y ∷ ys) ≡ cond (needs_room at last y) 1 0 + room at last ys
  room-cons at last y ys = sum_by-cons (λ r. cond (needs_room at last r) 1 0) y ys

  pub room_past : (at last : ℕ) (xs : List (Run V)) → EndBefore xs at → room at last xs ≡ 0
  room_past at last [] h = refl
  room_past at last (x ∷ xs) h =
      room-cons at last x xs ∙ ap (λ b. cond b 1 0 + room at last xs) (needs_room_past at last x h.0) ∙ zero-add _ ∙ room_past at last xs h.1

  pub room_moved : (c at last : ℕ) (ys : List (Run V)) → BeginAfter ys c → c ≤ at → room at last ys ≤ room c last ys
  room_moved c at last [] h le = omega arith
  room_moved c at last (y ∷ ys) h le =
      omega (arith, room-cons at last y ys, room-cons c last y ys, needs_room_moved c at last y h.0 le, room_moved c at last ys h.1 le)

  room_touches : (at last : ℕ) (ys : List (Run V)) → room at last ys ≤ runs_in at last ys
  room_touches at last ys = sum_by-le-sum_by (λ r. cond (needs_room at last r) 1 0) (λ r. cond (touches at last r) 1 0) ys (needs_room_touches at last)

  -- a join needs room for one run more than there are in its range
  pub growth-le : (at last : ℕ) (ys : List (Run V)) → growth at last ys ≤ runs_in at last ys + 1
  growth-le at last ys =
      let b : room at last ys ≤ runs_in at last ys = room_touches at last ys in
      cond_both (leb at last) _ _ (λ n. n ≤ runs_in at last ys + 1) (λ _. omega arith) (λ _. omega arith)

  -- one run more before a tick
  pub EndBefore-more : (xs : List (Run V)) (i : ℕ) (d : Run V) (t : ℕ) → i < length xs → EndBefore (take i xs) t → (get_or xs i d).last < t → EndBefore (take (i + 1) xs) t
  EndBefore-more xs i d t l h k = rw (take_more xs i d l) (EndBefore-append (take i xs) (get_or xs i d ∷ []) t h (k, tt))

pub ruleset seek_steps = (EndBefore-more, take_all)
