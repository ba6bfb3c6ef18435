-- Where a tick is found in a list of runs, and how many runs a range has.
use Rattle.std.proofs.Common.{◌≡◌, ℕ, zero, suc, ◌+◌, ◌-◌, ◌<◌, ◌≤◌, ◌⊎◌, inl, inr, Bool, true, false, cond, leb, List, [], ◌∷◌, ◌++◌, length, take, drop, get_or, slice_set, add-one, refl, sym, ap, ◌∙◌, subst, append_assoc, arith}
use Rattle.std.proofs.lemmas.List.{take-append-drop, drop_all, drop-drop, length-take-le, length-drop}
use lib.Seq.{set_split}
use Rattle.std.specs.List.{remove}
use Rattle.std.specs.List.Sorted.{IsNonDecreasingBy}
use Rattle.std.proofs.Math.Seq.{take-add}
use Rattle.std.proofs.lemmas.Bool.{cases_lt, leb-true, and_parts}
use Rattle.std.proofs.lemmas.Bool.Decides.{nat_tests}
use Rattle.gr_tick.specs.declared.run.Run.{Run}
use Rattle.gr_tick.specs.Runs.{value_at}
use Rattle.gr_tick.specs.Stored.{within, AreTickRuns, EndBefore, BeginBy, BeginAfter, touches, runs_in, part}
use Rattle.gr_tick.proofs.EditLemmas.{drop_read, split_read, put_in_place, AreTickRuns-take, AreTickRuns-drop}
use Rattle.gr_tick.proofs.RunsLemmas.{value_at-append, value_at_past, value_at_ahead, AreTickRuns-front, AreTickRuns-back, AreTickRuns-upto, AreTickRuns-gap, EndBefore-front, EndBefore-later, EndBefore-append, BeginAfter-back, BeginAfter-earlier}
use Rattle.gr_tick.proofs.StepLemmas.{ahead_at, alone_at_end, take_at_read, gap_value, run_value, runs_in-append, runs_in-cons, rest_after_runs, rest_after_ahead, no_part, one_part}

module _ {V : Type 0} where
  -- the last ticks of runs rise
  first_lowest : (least : V) (x : Run V) (xs : List (Run V)) (j : ℕ) (d : Run V) → AreTickRuns least (x ∷ xs) → j < length xs → x.last ≤ (get_or xs j d).last
  first_lowest least x [] j d h lt = absurd (omega (arith, lt))
  first_lowest least x (y ∷ ys) zero d h lt = omega (arith, h.1.later, h.2.0.ordered)
  first_lowest least x (y ∷ ys) (suc j) d h lt = omega (arith, h.1.later, h.2.0.ordered, first_lowest least y ys j d h.2 (omega (arith, lt)))

  pub ends_rise : (least : V) (xs : List (Run V)) → AreTickRuns least xs → IsNonDecreasingBy (λ r. r.last) xs
  ends_rise least [] h i j d le lt = absurd (omega (arith, lt))
  ends_rise least (x ∷ xs) h zero zero d le lt = omega arith
  ends_rise least (x ∷ xs) h zero (suc j) d le lt = first_lowest least x xs j d h (omega (arith, lt))
  ends_rise least (x ∷ xs) h (suc i) zero d le lt = absurd (omega (arith, le))
  ends_rise least (x ∷ xs) h (suc i) (suc j) d le lt = ends_rise least xs h.2 i j d (omega (arith, le)) (omega (arith, lt))

  -- where each run up to a place ends before a tick
  pub ended_upto : (xs : List (Run V)) (i t : ℕ) → i ≤ length xs → ((k : ℕ) (d : Run V) → 0 ≤ k → k < i → (get_or xs k d).last < t) → EndBefore (take i xs) t
  ended_upto [] zero t le all = tt
  ended_upto (x ∷ xs) zero t le all = tt
  ended_upto [] (suc i) t le all = absurd (omega (arith, le))
  ended_upto (x ∷ xs) (suc i) t le all =
      (all 0 x (omega arith) (omega arith), ended_upto xs i t (omega (arith, le)) (λ k d from lt. all (suc k) d (omega arith) (omega (arith, lt))))

  -- where a run ends before a tick, so do those before it
  pub seek_low : (least : V) (xs : List (Run V)) (i t : ℕ) (r : Run V) → i < length xs → r ≡ get_or xs i r → AreTickRuns least xs → r.last < t → EndBefore (take (i + 1) xs) t
  seek_low least xs i t r lt e h rt =
      let runs : AreTickRuns least (take i xs ++ r ∷ []) = AreTickRuns-front least (take i xs ++ r ∷ []) (drop (i + 1) xs) (subst (λ zs. AreTickRuns least zs) (split_read xs i r lt e ∙ sym (append_assoc (take i xs) (r ∷ []) (drop (i + 1) xs))) h) in
      let ordered : r.first ≤ r.last = (alone_at_end least (take i xs) r runs).ordered in
      subst (λ zs. EndBefore zs t) (sym (take_at_read xs i r lt e))
      (EndBefore-append (take i xs) (r ∷ []) t (EndBefore-later (take i xs) r.first t (EndBefore-front least (take i xs) r runs) (omega arith)) (rt, tt))

  -- the run that is read at a place is the first of the rest
  pub seek_here : (xs : List (Run V)) (i t : ℕ) (q : Run V) → i < length xs → q ≡ get_or xs i q → t ≤ q.last → (r : Run V) (rs : List (Run V)) → drop i xs ≡ r ∷ rs → t ≤ r.last
  seek_here xs i t q lt e le r rs d =
      let both : q ∷ drop (i + 1) xs ≡ r ∷ rs = sym (drop_read xs i q lt e) ∙ d in
      let same : q ≡ r = cc in
      subst (λ z. t ≤ z.last) same le

  -- past the end there is none
  pub seek_end : (xs : List (Run V)) (n t : ℕ) → length xs ≤ n → (r : Run V) (rs : List (Run V)) → drop n xs ≡ r ∷ rs → t ≤ r.last
  seek_end xs n t le r rs d =
      let none : [] ≡ r ∷ rs = sym (drop_all n xs le) ∙ d in
      cc

  -- runs that end before a tick begin by it
  pub BeginBy-ended : (least : V) (xs : List (Run V)) (t : ℕ) → AreTickRuns least xs → EndBefore xs t → BeginBy xs t
  BeginBy-ended least [] t h b = tt
  BeginBy-ended least (x ∷ xs) t h b = (omega (arith, h.0.ordered, b.0), BeginBy-ended least xs t h.2 b.1)

  BeginBy-append : (xs ys : List (Run V)) (t : ℕ) → BeginBy xs t → BeginBy ys t → BeginBy (xs ++ ys) t
  BeginBy-append [] ys t g h = h
  BeginBy-append (x ∷ xs) ys t g h = (g.0, BeginBy-append xs ys t g.1 h)

  BeginBy-back : (xs ys : List (Run V)) (t : ℕ) → BeginBy (xs ++ ys) t → BeginBy ys t
  BeginBy-back [] ys t h = h
  BeginBy-back (x ∷ xs) ys t h = BeginBy-back xs ys t h.1

  -- the runs up to one that holds the tick begin by it, and those after it begin after it
  pub begun_with : (least : V) (xs : List (Run V)) (i t : ℕ) (r : Run V) → i < length xs → r ≡ get_or xs i r → AreTickRuns least xs → EndBefore (take i xs) t → r.first ≤ t → BeginBy (take (i + 1) xs) t
  begun_with least xs i t r lt e h before le =
      subst (λ zs. BeginBy zs t) (sym (take_at_read xs i r lt e))
      (BeginBy-append (take i xs) (r ∷ []) t (BeginBy-ended least (take i xs) t (AreTickRuns-take least xs i h) before) (le, tt))

  pub ahead_with : (least : V) (xs : List (Run V)) (i t : ℕ) (r : Run V) → i < length xs → r ≡ get_or xs i r → AreTickRuns least xs → t ≤ r.last → BeginAfter (drop (i + 1) xs) t
  ahead_with least xs i t r lt e h le =
      let k : AreTickRuns least (r ∷ drop (i + 1) xs) = subst (λ zs. AreTickRuns least zs) (drop_read xs i r lt e) (AreTickRuns-drop least xs i h) in
      BeginAfter-earlier (drop (i + 1) xs) r.last t (BeginAfter-back least r (drop (i + 1) xs) k) le

  BeginAfter-drop : (xs : List (Run V)) (n t : ℕ) → BeginAfter xs t → BeginAfter (drop n xs) t
  BeginAfter-drop xs n t h = back (take n xs) (drop n xs) (subst (λ zs. BeginAfter zs t) (sym (take-append-drop n xs)) h)
    where
      back : (ys zs : List (Run V)) → BeginAfter (ys ++ zs) t → BeginAfter zs t
      back [] zs k = k
      back (y ∷ ys) zs k = back ys zs k.1

  -- from a later place on they begin after it too
  ahead_later : (xs : List (Run V)) (i j t : ℕ) → j ≤ i → BeginAfter (drop j xs) t → BeginAfter (drop i xs) t
  ahead_later xs i j t le h =
      let n : j + (i - j) ≡ i = omega arith in
      subst (λ zs. BeginAfter zs t) (drop-drop (i - j) j xs ∙ ap (λ k. drop k xs) n) (BeginAfter-drop (drop j xs) (i - j) t h)

  touches_none : (f l : ℕ) (r : Run V) → r.last < f → cond (touches f l r) 1 0 ≤ 0
  touches_none f l r lt = grind (arith, nat_tests)

  touches_not_yet : (f l : ℕ) (r : Run V) → l < r.first → cond (touches f l r) 1 0 ≤ 0
  touches_not_yet f l r lt = grind (arith, nat_tests)

  touches_all : (f l : ℕ) (r : Run V) → r.first ≤ l → f ≤ r.last → 1 ≤ cond (touches f l r) 1 0
  touches_all f l r a b = grind (arith, nat_tests)

  pub touches_one : (f l : ℕ) (r : Run V) → cond (touches f l r) 1 0 ≤ 1
  touches_one f l r = grind (arith, nat_tests)

  pub none_ended : (f l : ℕ) (xs : List (Run V)) → EndBefore xs f → runs_in f l xs ≤ 0
  none_ended f l [] h = omega arith
  none_ended f l (x ∷ xs) h = omega (arith, runs_in-cons f l x xs, touches_none f l x h.0, none_ended f l xs h.1)

  pub none_begun : (f l : ℕ) (xs : List (Run V)) → BeginAfter xs l → runs_in f l xs ≤ 0
  none_begun f l [] h = omega arith
  none_begun f l (x ∷ xs) h = omega (arith, runs_in-cons f l x xs, touches_not_yet f l x h.0, none_begun f l xs h.1)

  -- the first of the runs ends at a tick or later
  EndsFrom : List (Run V) → ℕ → Type 0
  EndsFrom xs f = (r : Run V) (rs : List (Run V)) → xs ≡ r ∷ rs → f ≤ r.last

  all_in : (least : V) (f l : ℕ) (xs : List (Run V)) → AreTickRuns least xs → EndsFrom xs f → BeginBy xs l → runs_in f l xs ≡ length xs
  unfolding EndsFrom
  all_in least f l [] h e b = refl
  all_in least f l (x ∷ xs) h e b =
      let reach : f ≤ x.last = e x xs refl in
      let rest : runs_in f l xs ≡ length xs = all_in least f l xs h.2 (λ r rs d. after xs h d reach) b.1 in
      omega (arith, runs_in-cons f l x xs, touches_one f l x, touches_all f l x b.0 reach, rest)
    where
      after : (ys : List (Run V)) → AreTickRuns least (x ∷ ys) → {r : Run V} {rs : List (Run V)} → ys ≡ r ∷ rs → f ≤ x.last → f ≤ r.last
      after ys k {r} {rs} d le =
          let n : AreTickRuns least (x ∷ r ∷ rs) = subst (λ zs. AreTickRuns least (x ∷ zs)) d k in
          omega (arith, n.1.later, n.2.0.ordered)

  -- the runs of a range are those between two places
  pub counted : (least : V) (xs : List (Run V)) (i j f l : ℕ) → AreTickRuns least xs → i ≤ length xs → j ≤ length xs → EndBefore (take i xs) f → ((r : Run V) (rs : List (Run V)) → drop i xs ≡ r ∷ rs → f ≤ r.last) → BeginBy (take j xs) l → BeginAfter (drop j xs) l → j - i ≡ runs_in f l xs
  unfolding EndsFrom
  counted least xs i j f l h il jl before here by ahead = by_order (cases_lt j i)
    where
      two : runs_in f l xs ≡ runs_in f l (take i xs) + runs_in f l (drop i xs)
      two = ap (runs_in f l) (sym (take-append-drop i xs)) ∙ runs_in-append f l (take i xs) (drop i xs)

      by_order : (j < i) ⊎ (i ≤ j) → j - i ≡ runs_in f l xs
      by_order (inl lt) =
          let late : BeginAfter (drop i xs) l = ahead_later xs i j l (omega arith) ahead in
          omega (arith, two, none_ended f l (take i xs) before, none_begun f l (drop i xs) late)
      by_order (inr le) =
          let n : i + (j - i) ≡ j = omega arith in
          let rest : drop (j - i) (drop i xs) ≡ drop j xs = drop-drop (j - i) i xs ∙ ap (λ k. drop k xs) n in
          let whole : runs_in f l (drop i xs) ≡ runs_in f l (take (j - i) (drop i xs)) + runs_in f l (drop j xs) =
          ap (runs_in f l) (sym (take-append-drop (j - i) (drop i xs))) ∙ runs_in-append f l (take (j - i) (drop i xs)) (drop (j - i) (drop i xs)) ∙ ap (λ zs. runs_in f l (take (j - i) (drop i xs)) + runs_in f l zs) rest in
          let parts : take j xs ≡ take i xs ++ take (j - i) (drop i xs) = ap (λ k. take k xs) (sym n) ∙ take-add i (j - i) xs in
          let begun : BeginBy (take (j - i) (drop i xs)) l = BeginBy-back (take i xs) (take (j - i) (drop i xs)) l (subst (λ zs. BeginBy zs l) parts by) in
          let size : length (take (j - i) (drop i xs)) ≡ j - i = length-take-le (j - i) (drop i xs) (omega (arith, length-drop i xs)) in
          let all : runs_in f l (take (j - i) (drop i xs)) ≡ length (take (j - i) (drop i xs)) =
          all_in least f l (take (j - i) (drop i xs)) (AreTickRuns-take least (drop i xs) (j - i) (AreTickRuns-drop least xs i h))
          (λ r rs d. here r (rs ++ drop (j - i) (drop i xs)) (sym (take-append-drop (j - i) (drop i xs)) ∙ ap (λ zs. zs ++ drop (j - i) (drop i xs)) d)) begun in
          omega (arith, two, whole, size, all, none_ended f l (take i xs) before, none_begun f l (drop j xs) ahead)

  -- the value in a gap, and on a run that is read
  pub gap_at : (least : V) (xs : List (Run V)) (i t : ℕ) → EndBefore (take i xs) t → BeginAfter (drop i xs) t → least ≡ value_at least xs t
  gap_at least xs i t h k =
      sym (gap_value least (take i xs) (drop i xs) t t t h k (omega arith) (omega arith)) ∙ ap (λ ys. value_at least ys t) (take-append-drop i xs)

  pub run_at : (least : V) (xs : List (Run V)) (i t : ℕ) (r : Run V) → i < length xs → r ≡ get_or xs i r → AreTickRuns least xs → r.first ≤ t → t ≤ r.last → r.value ≡ value_at least xs t
  run_at least xs i t r lt e h a b =
      let sp : xs ≡ take i xs ++ r ∷ drop (i + 1) xs = split_read xs i r lt e in
      sym (ap (λ ys. value_at least ys t) sp ∙ run_value least (take i xs) r (drop (i + 1) xs) t (rw sp at h) a b)

  -- a run without its first ticks
  pub front_lowered : (least : V) (xs : List (Run V)) (i b : ℕ) (r : Run V) → i < length xs → r ≡ get_or xs i r → AreTickRuns least xs → r.first ≤ b → b ≤ r.last → AreTickRuns least (take i xs ++ (part (b + 1) r.last r.value ++ drop (i + 1) xs))
  front_lowered least xs i b r lt e h fb bl =
      let k : AreTickRuns least (take i xs ++ r ∷ drop (i + 1) xs) = rw (split_read xs i r lt e) at h in
      let c : AreTickRuns least (r ∷ drop (i + 1) xs) = AreTickRuns-back least (take i xs) (r ∷ drop (i + 1) xs) k in
      AreTickRuns-gap least (take i xs) (part (b + 1) r.last r.value ++ drop (i + 1) xs) r.first b
      (AreTickRuns-take least xs i h) (rest_after_runs least r (drop (i + 1) xs) b c fb bl)
      (EndBefore-front least (take i xs) r (AreTickRuns-upto least (take i xs) r (drop (i + 1) xs) k))
      (rest_after_ahead least r (drop (i + 1) xs) b c bl) fb

  -- what is left of the run is none where its last tick is taken out, and else it stands in its place
  pub all_lowered : (xs new : List (Run V)) (i b : ℕ) (r : Run V) → i < length xs → r.last ≡ b → new ≡ remove xs i → new ≡ take i xs ++ (part (b + 1) r.last r.value ++ drop (i + 1) xs)
  all_lowered xs new i b r lt el e =
      put_in_place xs new new [] i lt e (sym (take-append-drop i new))
      ∙ ap (λ p. take i xs ++ (p ++ drop (i + 1) xs)) (sym (no_part (b + 1) r.last r.value (omega (arith, el))))

  pub rest_kept : (xs new : List (Run V)) (i b : ℕ) (r : Run V) (v : V) → i < length xs → v ≡ r.value → b < r.last → new ≡ slice_set xs i (record { first = b + 1; last = r.last; value = v }) → new ≡ take i xs ++ (part (b + 1) r.last r.value ++ drop (i + 1) xs)
  rest_kept xs new i b r v lt ev bl e =
      let le : b + 1 ≤ r.last = omega arith in
      e ∙ set_split xs i (record { first = b + 1; last = r.last; value = v }) lt
      ∙ ap (λ n. take i xs ++ record { first = b + 1; last = r.last; value = v } ∷ drop n xs) (sym (add-one i))
      ∙ ap (λ w. take i xs ++ record { first = b + 1; last = r.last; value = w } ∷ drop (i + 1) xs) ev
      ∙ ap (λ p. take i xs ++ (p ++ drop (i + 1) xs)) (sym (one_part (b + 1) r.last r.value le))

  -- where a run begins after a tick, the runs before it give the tick's value
  pub bottom_early : (least : V) (xs : List (Run V)) (i n : ℕ) (r : Run V) → i < length xs → r ≡ get_or xs i r → AreTickRuns least xs → value_at least (take i xs) n ≡ least → n < r.first → value_at least xs n ≡ least
  bottom_early least xs i n r lt e h past nr =
      ap (λ ys. value_at least ys n) (sym (take-append-drop i xs)) ∙ value_at-append least (take i xs) (drop i xs) n
      ∙ ap (λ v. value_at v (take i xs) n) (value_at_ahead least (drop i xs) n n (ahead_at least xs i n r lt e h nr) (omega arith)) ∙ past

  -- what ended before a range has nothing of it
  pub piece_none : (least : V) (xs : List (Run V)) (f l t : ℕ) → EndBefore xs f → least ≡ cond (within f l t) (value_at least xs t) least
  piece_none least xs f l t h = by_cases (within f l t) refl
    where
      by_cases : (b : Bool) → within f l t ≡ b → least ≡ cond b (value_at least xs t) least
      by_cases true y = sym (value_at_past least xs f t h (leb-true f t (and_parts (leb f t) (leb t l) y).0))
      by_cases false n = refl

  -- and what begins after it neither
  pub piece_whole : (least : V) (xs : List (Run V)) (i j f l t : ℕ) → j ≤ i → BeginAfter (drop j xs) l → cond (within f l t) (value_at least (take i xs) t) least ≡ cond (within f l t) (value_at least xs t) least
  piece_whole least xs i j f l t le h = by_cases (within f l t) refl
    where
      by_cases : (b : Bool) → within f l t ≡ b → cond b (value_at least (take i xs) t) least ≡ cond b (value_at least xs t) least
      by_cases true y =
          ap (λ v. value_at v (take i xs) t) (sym (value_at_ahead least (drop i xs) l t (ahead_later xs i j l le h) (leb-true t l (and_parts (leb f t) (leb t l) y).1)))
          ∙ sym (value_at-append least (take i xs) (drop i xs) t) ∙ ap (λ ys. value_at least ys t) (take-append-drop i xs)
      by_cases false n = refl
