-- How far a value stays the same, and where the first tick with the least value is.
use Rattle.std.proofs.Common.{◌≡◌, ◌≢◌, ℕ, ◌+◌, ◌-◌, ◌<◌, ◌≤◌, ◌⊎◌, inl, inr, true, max, List, [], ◌∷◌, ◌++◌, length, take, drop, get_or, refl, sym, ap, ◌∙◌, arith}
use Rattle.std.proofs.lemmas.List.{take-append-drop, take_all}
use Rattle.std.proofs.lemmas.Bool.{le-leb, cond-true, cond-false, and_from, cases_lt}
use Rattle.gr_tick.specs.declared.run.Run.{Run}
use Rattle.gr_tick.specs.declared.steady.Steady.{Steady}
use Rattle.gr_tick.specs.Runs.{is_in, value_at, first_bottom_from, top_of}
use Rattle.gr_tick.specs.Stored.{within, IsRun, AreTickRuns, EndBefore, BeginAfter, StaysUntil}
use Rattle.gr_tick.proofs.RunLaws.{IsFirstBottom, first_bottom_from-is}
use Rattle.gr_tick.proofs.Canonical.{AreRuns-in_range}
use Rattle.gr_tick.proofs.EditLemmas.{split_read, take_read}
use Rattle.gr_tick.proofs.RunsLemmas.{value_at-append, value_at_past, value_at_ahead, covers_yes, covers_above, AreTickRuns-back, AreTickRuns-upto, BeginAfter-back, BeginAfter-earlier, EndBefore-front}
use Rattle.gr_tick.proofs.StepLemmas.{gap_value, run_value, ahead_at, gap_steady, run_steady, read_alone}
use Rattle.gr_tick.proofs.SeekLemmas.{gap_at, run_at}

module _ {V : Type 0} where
  -- the tick after a run has another value
  next_differs : (least : V) (r : Run V) (rs : List (Run V)) → AreTickRuns least (r ∷ rs) → value_at least rs (r.last + 1) ≢ r.value
  next_differs least r [] h = λ e. h.0.known (sym e)
  next_differs least r (s ∷ ss) h = by_place (cases_lt (r.last + 1) s.first)
    where
      by_place : ((r.last + 1) < s.first) ⊎ (s.first ≤ (r.last + 1)) → value_at least (s ∷ ss) (r.last + 1) ≢ r.value
      by_place (inl lt) = λ e.
          let ahead : BeginAfter (s ∷ ss) (r.last + 1) = (lt, BeginAfter-earlier ss s.last (r.last + 1) (BeginAfter-back least s ss h.2) (omega (arith, h.2.0.ordered))) in
          h.0.known (sym e ∙ value_at_ahead least (s ∷ ss) (r.last + 1) (r.last + 1) ahead (omega arith))
      by_place (inr ge) = λ e.
          let touch : r.last + 1 ≡ s.first = omega (arith, h.1.later) in
          h.1.apart touch (sym e ∙ cond-true (is_in (r.last + 1) s) s.value (value_at least ss (r.last + 1)) (covers_yes s (r.last + 1) ge (omega (arith, touch, h.2.0.ordered))))

  -- the value of a run ends with it
  pub run_changes : (least : V) (xs : List (Run V)) (i a : ℕ) (r : Run V) → i < length xs → r ≡ get_or xs i r → AreTickRuns least xs → r.first ≤ a → a ≤ r.last → value_at least xs (r.last + 1) ≢ value_at least xs a
  run_changes least xs i a r lt e h fa al = λ z.
      next_differs least r (drop (i + 1) xs) (AreTickRuns-back least (take i xs) (r ∷ drop (i + 1) xs) k)
      (sym after ∙ z ∙ (ap (λ ys. value_at least ys a) sp ∙ run_value least (take i xs) r (drop (i + 1) xs) a k fa al))
    where
      sp : xs ≡ take i xs ++ r ∷ drop (i + 1) xs
      sp = split_read xs i r lt e

      k : AreTickRuns least (take i xs ++ r ∷ drop (i + 1) xs)
      k = rw sp at h

      rest : value_at least (r ∷ drop (i + 1) xs) (r.last + 1) ≡ value_at least (drop (i + 1) xs) (r.last + 1)
      rest = cond-false (is_in (r.last + 1) r) r.value (value_at least (drop (i + 1) xs) (r.last + 1)) (covers_above r (r.last + 1) (omega arith))

      after : value_at least xs (r.last + 1) ≡ value_at least (drop (i + 1) xs) (r.last + 1)
      after =
          ap (λ ys. value_at least ys (r.last + 1)) sp ∙ value_at-append least (take i xs) (r ∷ drop (i + 1) xs) (r.last + 1)
          ∙ value_at_past (value_at least (r ∷ drop (i + 1) xs) (r.last + 1)) (take i xs) r.first (r.last + 1) (EndBefore-front least (take i xs) r (AreTickRuns-upto least (take i xs) r (drop (i + 1) xs) k)) (omega (arith, fa, al))
          ∙ rest

  -- a gap ends where the next run begins
  pub gap_changes : (least : V) (xs : List (Run V)) (i a u : ℕ) (r : Run V) → i < length xs → r ≡ get_or xs i r → AreTickRuns least xs → EndBefore (take i xs) a → a < r.first → u ≡ r.first → value_at least xs u ≢ value_at least xs a
  gap_changes least xs i a u r lt e h before ar eu = λ z.
      (read_alone least xs i r lt e h).known (sym here ∙ z ∙ there)
    where
      sp : xs ≡ take i xs ++ r ∷ drop (i + 1) xs
      sp = split_read xs i r lt e

      k : AreTickRuns least (take i xs ++ r ∷ drop (i + 1) xs)
      k = rw sp at h

      here : value_at least xs u ≡ r.value
      here =
          ap (value_at least xs) eu ∙ ap (λ ys. value_at least ys r.first) sp
          ∙ run_value least (take i xs) r (drop (i + 1) xs) r.first k (omega arith) ((read_alone least xs i r lt e h).ordered)

      there : value_at least xs a ≡ least
      there =
          ap (λ ys. value_at least ys a) (sym (take-append-drop i xs))
          ∙ gap_value least (take i xs) (drop i xs) a a a before (ahead_at least xs i a r lt e h ar) (omega arith) (omega arith)

  -- what is looked up at a run is the value at the tick, up to where it ends
  pub run_says : (least : V) (xs : List (Run V)) (i a : ℕ) (r : Run V) (s : Steady V) → i < length xs → r ≡ get_or xs i r → AreTickRuns least xs → EndBefore (take i xs) a → a ≤ r.last →
      (a < r.first → (s.value ≡ least) × (s.last ≡ r.first - 1)) → (r.first ≤ a → (s.value ≡ r.value) × (s.last ≡ r.last)) → StaysUntil least xs a s
  run_says least xs i a r s lt e h front reach ahead begun = by_place (cases_lt a r.first)
    where
      is : IsRun least r
      is = read_alone least xs i r lt e h

      by_place : (a < r.first) ⊎ (r.first ≤ a) → StaysUntil least xs a s
      by_place (inl lo) =
          let end : s.last ≡ r.first - 1 = (ahead lo).1 in
          record {
            value = (ahead lo).0 ∙ gap_at least xs i a front (ahead_at least xs i a r lt e h lo);
            forward = omega (arith, end, lo);
            inside = omega (arith, end, is.ordered, is.upto);
            steady = λ t from upto.
                gap_steady least xs i a t t front (ahead_at least xs i t r lt e h (omega (arith, end, upto, lo))) from (omega arith);
            greatest = λ below. gap_changes least xs i a (s.last + 1) r lt e h front lo (omega (arith, end, lo));
          }
      by_place (inr ge) =
          let end : s.last ≡ r.last = (begun ge).1 in
          record {
            value = (begun ge).0 ∙ run_at least xs i a r lt e h ge reach;
            forward = omega (arith, end, reach);
            inside = omega (arith, end, is.upto);
            steady = λ t from upto. run_steady least xs i a t r lt e h ge from (omega (arith, end, upto));
            greatest = λ below. rw end (run_changes least xs i a r lt e h ge reach);
          }

  -- there is one least tick with the least value
  pub first_bottom_from-only : (least : V) (rs : List (Run V)) (t u : ℕ) → AreTickRuns least rs → t ≤ u → value_at least rs u ≡ least → ((x : ℕ) → t ≤ x → x < u → value_at least rs x ≢ least) → u ≡ first_bottom_from rs t
  first_bottom_from-only least rs t u h tu stops known = by_place (cases_lt u (first_bottom_from rs t)) (cases_lt (first_bottom_from rs t) u)
    where
      k : IsFirstBottom least rs t (first_bottom_from rs t)
      k = first_bottom_from-is least 1 rs t (AreRuns-in_range least rs h)

      by_place : (u < first_bottom_from rs t) ⊎ (first_bottom_from rs t ≤ u) → (first_bottom_from rs t < u) ⊎ (u ≤ first_bottom_from rs t) → u ≡ first_bottom_from rs t
      by_place (inl lt) _ = absurd (k.known u tu lt stops)
      by_place (inr ge) (inl gt) = absurd (known (first_bottom_from rs t) k.reached gt k.stops)
      by_place (inr ge) (inr le) = omega arith

  -- where a range has the least value, what does not end before it begins after it
  pub lowered_ahead : (least : V) (xs : List (Run V)) (i a b : ℕ) → AreTickRuns least xs → a ≤ b → ((r : Run V) (rs : List (Run V)) → drop i xs ≡ r ∷ rs → a ≤ r.last) → ((t : ℕ) → within a b t ≡ true → value_at least xs t ≡ least) → BeginAfter (drop i xs) b
  lowered_ahead least xs i a b h ab here low = by_rest (drop i xs) refl
    where
      by_rest : (ys : List (Run V)) → drop i xs ≡ ys → BeginAfter ys b
      by_rest [] e = tt
      by_rest (r ∷ rs) e = by_place (cases_lt b r.first)
        where
          sp : xs ≡ take i xs ++ r ∷ rs
          sp = sym (take-append-drop i xs) ∙ ap (λ ys. take i xs ++ ys) e

          k : AreTickRuns least (take i xs ++ r ∷ rs)
          k = rw sp at h

          c : AreTickRuns least (r ∷ rs)
          c = AreTickRuns-back least (take i xs) (r ∷ rs) k

          by_place : (b < r.first) ⊎ (r.first ≤ b) → BeginAfter (r ∷ rs) b
          by_place (inl lt) = (lt, BeginAfter-earlier rs r.last b (BeginAfter-back least r rs c) (omega (arith, c.0.ordered)))
          by_place (inr ge) =
              let u : ℕ = max a r.first in
              let reach : a ≤ r.last = here r rs e in
              let lo : a ≤ max a r.first = omega arith in
              let hi : max a r.first ≤ b = omega arith in
              let begun : r.first ≤ max a r.first = omega arith in
              let ends : max a r.first ≤ r.last = omega (arith, reach, c.0.ordered) in
              absurd (c.0.known (sym (ap (λ ys. value_at least ys (max a r.first)) sp ∙ run_value least (take i xs) r rs (max a r.first) k begun ends) ∙ low (max a r.first) (and_from _ _ (le-leb _ _ lo) (le-leb _ _ hi))))

  top_of-append : (xs : List (Run V)) (r : Run V) → top_of (xs ++ r ∷ []) ≡ r.last
  top_of-append [] r = refl
  top_of-append (x ∷ []) r = refl
  top_of-append (x ∷ y ∷ xs) r = top_of-append (y ∷ xs) r

  -- the last run that is read has the greatest tick
  pub top_of-last : (xs : List (Run V)) (i : ℕ) (r : Run V) → i + 1 ≡ length xs → r ≡ get_or xs i r → r.last ≡ top_of xs
  top_of-last xs i r n e =
      let back : (i + 1) - 1 ≡ i = omega arith in
      let read : r ≡ get_or xs ((i + 1) - 1) r = e ∙ ap (λ k. get_or xs k r) (sym back) in
      sym (top_of-append (take ((i + 1) - 1) xs) r)
      ∙ ap top_of (sym (take_read xs (i + 1) r (omega arith) (omega arith) read) ∙ take_all (i + 1) xs (omega arith))
