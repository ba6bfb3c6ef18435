-- Counting ticks with an event: by ranges, by runs and by pieces. All rest on one count, tick by tick, which depends on the values alone.
use Rattle.std.proofs.Common.{◌≡◌, ◌≢◌, ℕ, zero, suc, ◌+◌, ◌-◌, ◌^◌, ◌<◌, ◌≤◌, ◌⊎◌, inl, inr, Bool, true, false, ◌||◌, min, max, [], ◌∷◌, ◌++◌, length, take, drop, get_or, refl, sym, ap, ◌∙◌, subst, arith}
use Rattle.std.specs.Prelude.{nat_le, if◌then◌else◌}
use Rattle.std.proofs.lemmas.Bool.{cases_Bool, cases_lt, le-leb, and_from, cond-true, cond-false}
use Rattle.gr_tick.specs.declared.run.Run.{Run}
use Rattle.gr_tick.specs.Runs.{is_in, AreRuns, AreRunsFrom}
use Rattle.gr_tick.specs.Stored.{within, AreTickRuns, EndBefore, RunsGive, is_told}
use Rattle.gr_tick.proofs.RunLaws.{value_at-in, value_at-below, value_at-above, value_at-start}
use Rattle.gr_tick.proofs.Canonical.{AreRuns-in_range, EndBefore-in_range}
use Rattle.gr_tick.proofs.EditLemmas.{split_read, AreTickRuns-take}
use Rattle.gr_tick.proofs.RunsLemmas.{value_at_past, covers_yes, covers_below, covers_above, AreTickRuns-upto, EndBefore-front}
use Rattle.gr_tick.proofs.StepLemmas.{read_values, take_at_read}
use Rattle.gr_know.specs.declared.values.K.{K}
use Rattle.gr_know.specs.declared.values.K.TheVariants.{Q, S, D, F}
use Rattle.gr_know.specs.Values.{Known, known_at, is_D, join_K}
use Rattle.gr_know.specs.Forget.{data_of, data_count}
use Rattle.gr_know.specs.Events.{events_from, events_at, events_shared}

-- one tick more in front
events_step : (at : ℕ → K) (f n : ℕ) → events_from at f (suc n) ≡ (if is_D (at f) then 1 else 0) + events_from at (suc f) n
unfolding events_from
events_step at f n = refl

events_none : (at : ℕ → K) (f : ℕ) → events_from at f 0 ≡ 0
unfolding events_from
events_none at f = refl

-- two ranges, one after the other
pub events_add : (at : ℕ → K) (m f n : ℕ) → events_from at f (m + n) ≡ events_from at f m + events_from at (f + m) n
events_add at zero f n =
    let e : 0 + n ≡ n = omega arith in
    let g : f + 0 ≡ f = omega arith in
    omega (arith, ap (events_from at f) e, ap (λ x. events_from at x n) g, events_none at f)
events_add at (suc m) f n =
    let e : suc m + n ≡ suc (m + n) = omega arith in
    let g : suc f + m ≡ f + suc m = omega arith in
    omega (arith, ap (events_from at f) e, events_step at f (m + n), events_add at m (suc f) n, events_step at f m, ap (λ x. events_from at x n) g)

-- the same values, the same count
pub events_same : (at bt : ℕ → K) (n f : ℕ) → ((t : ℕ) → f ≤ t → t < f + n → at t ≡ bt t) → events_from at f n ≡ events_from bt f n
events_same at bt zero f h = events_none at f ∙ sym (events_none bt f)
events_same at bt (suc n) f h =
    let here : at f ≡ bt f = h f (omega arith) (omega arith) in
    events_step at f n ∙ ap (λ k. (if is_D k then 1 else 0) + events_from at (suc f) n) here
    ∙ ap (λ x. (if is_D (bt f) then 1 else 0) + x) (events_same at bt n (suc f) (λ t lo hi. h t (omega (arith, lo)) (omega (arith, hi)))) ∙ sym (events_step bt f n)

-- one value on a range
pub events_steady : (at : ℕ → K) (k : K) (n f : ℕ) → ((t : ℕ) → f ≤ t → t < f + n → at t ≡ k) → events_from at f n ≡ (if is_D k then n else 0)
events_steady at k zero f h = events_none at f ∙ none (is_D k)
  where
    none : (b : Bool) → zero ≡ (if b then zero else zero)
    none true = refl
    none false = refl
events_steady at k (suc n) f h =
    events_step at f n ∙ ap (λ x. (if is_D x then 1 else 0) + events_from at (suc f) n) (h f (omega arith) (omega arith))
    ∙ ap (λ x. (if is_D k then 1 else 0) + x) (events_steady at k n (suc f) (λ t lo hi. h t (omega (arith, lo)) (omega (arith, hi))))
    ∙ more (is_D k)
  where
    more : (b : Bool) → (if b then 1 else 0) + (if b then n else 0) ≡ (if b then suc n else zero)
    more true = omega arith
    more false = omega arith

-- no event where nothing is known
pub events_unknown : (at : ℕ → K) (n f : ℕ) → ((t : ℕ) → f ≤ t → t < f + n → at t ≡ Q) → events_from at f n ≡ 0
events_unknown at n f h = events_steady at Q n f h

-- what canonical runs count is what their ticks count
pub runs_count : (rs : Known) (f e : ℕ) → AreRunsFrom Q f rs → EndBefore rs e → f ≤ e → data_count rs ≡ events_from (known_at rs) f (e - f)
runs_count [] f e a b le = sym (events_unknown (known_at []) (e - f) f (λ t lo hi. refl))
runs_count (r ∷ rs) f e a b le =
    let end : r.last < e = b.0 in
    let split : e - f ≡ (r.first - f) + ((suc r.last - r.first) + (e - suc r.last)) = omega (arith, a.0, a.1, end) in
    let first : f + (r.first - f) ≡ r.first = omega (arith, a.0) in
    let next : r.first + (suc r.last - r.first) ≡ suc r.last = omega (arith, a.1) in
    let ih : data_count rs ≡ events_from (known_at rs) (suc r.last) (e - suc r.last) = runs_count rs (suc r.last) e a.4 b.1 end in
    let low : events_from at f (r.first - f) ≡ 0 = events_unknown at (r.first - f) f (λ t lo hi. below t (omega (arith, hi, a.0))) in
    let mid : events_from at r.first (suc r.last - r.first) ≡ data_of r = events_steady at r.value (suc r.last - r.first) r.first (λ t lo hi. value_at-in Q r rs t lo (omega (arith, hi, a.1))) in
    let high : events_from at (suc r.last) (e - suc r.last) ≡ events_from (known_at rs) (suc r.last) (e - suc r.last) = events_same at (known_at rs) (e - suc r.last) (suc r.last) (λ t lo hi. value_at-above Q r rs t lo) in
    let two : events_from at f ((r.first - f) + ((suc r.last - r.first) + (e - suc r.last))) ≡ events_from at f (r.first - f) + events_from at (f + (r.first - f)) ((suc r.last - r.first) + (e - suc r.last)) = events_add at (r.first - f) f ((suc r.last - r.first) + (e - suc r.last)) in
    let three : events_from at r.first ((suc r.last - r.first) + (e - suc r.last)) ≡ events_from at r.first (suc r.last - r.first) + events_from at (r.first + (suc r.last - r.first)) (e - suc r.last) = events_add at (suc r.last - r.first) r.first (e - suc r.last) in
    omega (arith, ap (events_from at f) split, two, ap (λ x. events_from at x ((suc r.last - r.first) + (e - suc r.last))) first, three, ap (λ x. events_from at x (e - suc r.last)) next, ih, low, mid, high)
  where
    at : ℕ → K
    at = known_at (r ∷ rs)

    below : (t : ℕ) → t < r.first → known_at (r ∷ rs) t ≡ Q
    below t lt = value_at-below Q r rs t lt ∙ value_at-start Q (suc r.last) rs t a.4 (omega (arith, lt, a.1))

-- a count of a canonical list is that of its values on all ticks
pub count_is : (rs : Known) → AreRuns Q rs → EndBefore rs (2 ^ 62 + 1) → data_count rs ≡ events_from (known_at rs) 1 (2 ^ 62)
count_is rs a b =
    let all : 2 ^ 62 + 1 - 1 ≡ 2 ^ 62 = omega arith in
    runs_count rs 1 (2 ^ 62 + 1) a b (omega arith) ∙ ap (events_from (known_at rs) 1) all

-- where values change at the ticks of a piece alone, so does the count
pub events_changed : (at bt : ℕ → K) (ps : Known) (f e : ℕ) → AreRunsFrom Q f ps → EndBefore ps e → f ≤ e → ((t : ℕ) → f ≤ t → known_at ps t ≡ Q → at t ≡ bt t) → events_from at f (e - f) + events_at bt ps ≡ events_from bt f (e - f) + events_at at ps
events_changed at bt [] f e a b le same = omega (arith, events_same at bt (e - f) f (λ t lo hi. same t lo refl))
events_changed at bt (r ∷ rs) f e a b le same =
    let end : r.last < e = b.0 in
    let split : e - f ≡ (r.first - f) + ((suc r.last - r.first) + (e - suc r.last)) = omega (arith, a.0, a.1, end) in
    let ih : events_from at (suc r.last) (e - suc r.last) + events_at bt rs ≡ events_from bt (suc r.last) (e - suc r.last) + events_at at rs =
    events_changed at bt rs (suc r.last) e a.4 b.1 end (λ t lo q. same t (omega (arith, lo, a.0, a.1)) (value_at-above Q r rs t lo ∙ q)) in
    let low : events_from at f (r.first - f) ≡ events_from bt f (r.first - f) = events_same at bt (r.first - f) f (λ t lo hi. same t lo (below t (omega (arith, hi, a.0)))) in
    omega (arith, parts at split, parts bt split, ih, low)
  where
    below : (t : ℕ) → t < r.first → known_at (r ∷ rs) t ≡ Q
    below t lt = value_at-below Q r rs t lt ∙ value_at-start Q (suc r.last) rs t a.4 (omega (arith, lt, a.1))

    parts : (ct : ℕ → K) → e - f ≡ (r.first - f) + ((suc r.last - r.first) + (e - suc r.last)) → events_from ct f (e - f) ≡ events_from ct f (r.first - f) + (events_from ct r.first (suc r.last - r.first) + events_from ct (suc r.last) (e - suc r.last))
    parts ct split =
        let first : f + (r.first - f) ≡ r.first = omega (arith, a.0) in
        let next : r.first + (suc r.last - r.first) ≡ suc r.last = omega (arith, a.1) in
        omega (
          arith,
          ap (events_from ct f) split,
          events_add ct (r.first - f) f ((suc r.last - r.first) + (e - suc r.last)),
          ap (λ x. events_from ct x ((suc r.last - r.first) + (e - suc r.last))) first,
          events_add ct (suc r.last - r.first) r.first (e - suc r.last),
          ap (λ x. events_from ct x (e - suc r.last)) next,
        )

-- the count of a part is no more than that of the whole
pub events_part : (at : ℕ → K) (f n g m : ℕ) → f ≤ g → g + m ≤ f + n → events_from at g m ≤ events_from at f n
events_part at f n g m lo hi =
    let split : n ≡ (g - f) + (m + (f + n - (g + m))) = omega (arith, lo, hi) in
    let first : f + (g - f) ≡ g = omega (arith, lo) in
    omega (arith, ap (events_from at f) split, events_add at (g - f) f (m + (f + n - (g + m))), ap (λ x. events_from at x (m + (f + n - (g + m)))) first, events_add at m g (f + n - (g + m)))

-- and no more than there are ticks
pub events_le : (at : ℕ → K) (n f : ℕ) → events_from at f n ≤ n
events_le at zero f = omega (arith, events_none at f)
events_le at (suc n) f = omega (arith, events_step at f n, events_le at n (suc f), one (is_D (at f)))
  where
    one : (b : Bool) → (if b then 1 else 0) ≤ 1
    one true = omega arith
    one false = omega arith

-- and those of a piece no more than all
pub events_at_le : (at : ℕ → K) (ps : Known) (f e : ℕ) → AreRunsFrom Q f ps → EndBefore ps e → f ≤ e → events_at at ps ≤ events_from at f (e - f)
events_at_le at [] f e a b le = omega arith
events_at_le at (r ∷ rs) f e a b le =
    let end : r.last < e = b.0 in
    let split : e - f ≡ (suc r.last - f) + (e - suc r.last) = omega (arith, a.0, a.1, end) in
    let next : f + (suc r.last - f) ≡ suc r.last = omega (arith, a.0, a.1) in
    omega (
      arith,
      ap (events_from at f) split,
      events_add at (suc r.last - f) f (e - suc r.last),
      ap (λ x. events_from at x (e - suc r.last)) next,
      events_part at f (suc r.last - f) r.first (suc r.last - r.first) a.0 (omega (arith, a.0, a.1)),
      events_at_le at rs (suc r.last) e a.4 b.1 end,
    )

-- one run more in front of a place
pub events_more : (xs : Known) (i : ℕ) (r : Run K) (f last : ℕ) → i < length xs → r ≡ get_or xs i r → AreTickRuns Q xs → f ≤ last → events_from (known_at (take (i + 1) xs)) f (suc last - f) ≡ events_from (known_at (take i xs)) f (suc last - f) + events_shared r f last
events_more xs i r f last lt e h fl = by_size (cases_lt (min last r.last) (max f r.first))
  where
    at : ℕ → K
    at = known_at (take (i + 1) xs)

    bt : ℕ → K
    bt = known_at (take i xs)

    low : ℕ
    low = max f r.first

    high : ℕ
    high = min last r.last

    runs : AreTickRuns Q (take i xs ++ r ∷ drop (i + 1) xs)
    runs = subst (λ (zs : Known). AreTickRuns Q zs) (split_read xs i r lt e) h

    before : EndBefore (take i xs) r.first
    before = EndBefore-front Q (take i xs) r (AreTickRuns-upto Q (take i xs) r (drop (i + 1) xs) runs)

    outside : (t : ℕ) → (t < r.first) ⊎ (r.last < t) → at t ≡ bt t
    outside t (inl p) = read_values Q xs i t r lt e h ∙ cond-false (is_in t r) r.value (bt t) (covers_below r t p)
    outside t (inr p) = read_values Q xs i t r lt e h ∙ cond-false (is_in t r) r.value (bt t) (covers_above r t p)

    inside : (t : ℕ) → r.first ≤ t → t ≤ r.last → at t ≡ r.value
    inside t p q = read_values Q xs i t r lt e h ∙ cond-true (is_in t r) r.value (bt t) (covers_yes r t p q)

    unknown : (t : ℕ) → r.first ≤ t → bt t ≡ Q
    unknown t p = value_at_past Q (take i xs) r.first t before p

    none : (b : Bool) (n : ℕ) → n ≡ 0 → 0 ≡ (if b then n else 0)
    none true n z = sym z
    none false n z = refl

    by_size : (min last r.last < max f r.first) ⊎ (max f r.first ≤ min last r.last) → events_from at f (suc last - f) ≡ events_from bt f (suc last - f) + events_shared r f last
    by_size (inl no_tick) =
        let same : events_from at f (suc last - f) ≡ events_from bt f (suc last - f) = events_same at bt (suc last - f) f (λ t lo hi. outside t (apart t lo (omega (arith, hi, fl)))) in
        omega (arith, same, none (is_D r.value) (suc high - low) (omega (arith, no_tick)))
      where
        apart : (t : ℕ) → f ≤ t → t ≤ last → (t < r.first) ⊎ (r.last < t)
        apart t lo hi = elim (cases_lt t r.first) [
          | inl p ↦ inl p
          | inr p ↦ inr (omega (arith, no_tick, lo, hi, p))
        ]
    by_size (inr some) =
        let n : suc last - f ≡ (low - f) + ((suc high - low) + (last - high)) = omega (arith, some, fl) in
        let a : f + (low - f) ≡ low = omega (arith, some) in
        let b : low + (suc high - low) ≡ suc high = omega (arith, some) in
        let front : events_from at f (low - f) ≡ events_from bt f (low - f) = events_same at bt (low - f) f (λ t lo hi. outside t (inl (omega (arith, lo, hi)))) in
        let middle : events_from at low (suc high - low) ≡ events_shared r f last = events_steady at r.value (suc high - low) low (λ t lo hi. inside t (omega (arith, lo)) (omega (arith, hi, some))) in
        let nothing : events_from bt low (suc high - low) ≡ 0 = events_unknown bt (suc high - low) low (λ t lo hi. unknown t (omega (arith, lo))) in
        let back : events_from at (suc high) (last - high) ≡ events_from bt (suc high) (last - high) = events_same at bt (last - high) (suc high) (λ t lo hi. outside t (inr (omega (arith, lo, hi)))) in
        omega (arith, parts at n, parts bt n, front, middle, nothing, back)
      where
        parts : (ct : ℕ → K) → suc last - f ≡ (low - f) + ((suc high - low) + (last - high)) → events_from ct f (suc last - f) ≡ events_from ct f (low - f) + (events_from ct low (suc high - low) + events_from ct (suc high) (last - high))
        parts ct n =
            let a : f + (low - f) ≡ low = omega (arith, some) in
            let b : low + (suc high - low) ≡ suc high = omega (arith, some) in
            omega (
              arith,
              ap (events_from ct f) n,
              events_add ct (low - f) f ((suc high - low) + (last - high)),
              ap (λ x. events_from ct x ((suc high - low) + (last - high))) a,
              events_add ct (suc high - low) low (last - high),
              ap (λ x. events_from ct x (last - high)) b,
            )

events_at-append : (at : ℕ → K) (xs ys : Known) → events_at at (xs ++ ys) ≡ events_at at xs + events_at at ys
events_at-append at [] ys = omega arith
events_at-append at (x ∷ xs) ys = omega (arith, events_at-append at xs ys)

-- one run more of a piece
pub events_at-more : (at : ℕ → K) (ps : Known) (i : ℕ) (r : Run K) → i < length ps → r ≡ get_or ps i r → events_at at (take (i + 1) ps) ≡ events_at at (take i ps) + events_from at r.first (suc r.last - r.first)
events_at-more at ps i r lt e =
    let one : events_at at (r ∷ []) ≡ events_from at r.first (suc r.last - r.first) + 0 = refl in
    omega (arith, ap (events_at at) (take_at_read ps i r lt e), events_at-append at (take i ps) (r ∷ []), one)

-- those of the first runs of a piece are no more than there are ticks
pub events_at-fits : (at : ℕ → K) (ps : Known) (i : ℕ) → AreTickRuns Q ps → events_at at (take i ps) ≤ 2 ^ 62
events_at-fits at ps i h =
    let k : AreTickRuns Q (take i ps) = AreTickRuns-take Q ps i h in
    let all : 2 ^ 62 + 1 - 1 ≡ 2 ^ 62 = omega arith in
    omega (arith, events_at_le at (take i ps) 1 (2 ^ 62 + 1) (AreRuns-in_range Q (take i ps) k) (EndBefore-in_range Q (take i ps) k) (omega arith), events_le at (2 ^ 62 + 1 - 1) 1, all)

-- Edits

join_unknown : (k : K) → join_K k Q ≡ k
join_unknown Q = refl
join_unknown S = refl
join_unknown (D e) = refl
join_unknown F = refl

-- two canonical lists whose values differ at the ticks of a piece alone
pub count_changed : (old new ps : Known) → AreRuns Q old → EndBefore old (2 ^ 62 + 1) → AreRuns Q new → EndBefore new (2 ^ 62 + 1) → AreRuns Q ps → EndBefore ps (2 ^ 62 + 1) → ((t : ℕ) → known_at ps t ≡ Q → known_at old t ≡ known_at new t) → data_count old + events_at (known_at new) ps ≡ data_count new + events_at (known_at old) ps
count_changed old new ps a b c d p q same =
    omega (
      arith,
      runs_count old 1 (2 ^ 62 + 1) a b (omega arith),
      runs_count new 1 (2 ^ 62 + 1) c d (omega arith),
      events_changed (known_at old) (known_at new) ps 1 (2 ^ 62 + 1) p q (omega arith) (λ t lo e. same t e),
    )

-- a piece has no more events than all
pub count_part : (old ps : Known) → AreRuns Q old → EndBefore old (2 ^ 62 + 1) → AreRuns Q ps → EndBefore ps (2 ^ 62 + 1) → events_at (known_at old) ps ≤ data_count old
count_part old ps a b p q =
    omega (arith, runs_count old 1 (2 ^ 62 + 1) a b (omega arith), events_at_le (known_at old) ps 1 (2 ^ 62 + 1) p q (omega arith))

pub count_fits : (old : Known) → AreRuns Q old → EndBefore old (2 ^ 62 + 1) → data_count old ≤ 2 ^ 62
count_fits old a b = omega (arith, count_is old a b, events_le (known_at old) (2 ^ 62) 1)

-- a join
pub count_joined : (old new ps : Known) → AreRuns Q old → EndBefore old (2 ^ 62 + 1) → AreRuns Q ps → EndBefore ps (2 ^ 62 + 1) → RunsGive Q new (λ t. join_K (known_at old t) (known_at ps t)) → data_count old + events_at (known_at new) ps ≡ data_count new + events_at (known_at old) ps
count_joined old new ps a b p q g =
    count_changed old new ps a b g.canonical g.in_range p q (λ t e. sym (g.values t ∙ ap (join_K (known_at old t)) e ∙ join_unknown (known_at old t)))

-- a piece taken out
told_head : (r : Run K) (rs : Known) (t : ℕ) → r.value ≢ Q → (known_at rs t ≡ Q → is_told rs t ≡ false) → known_at (r ∷ rs) t ≡ Q → (is_in t r || is_told rs t) ≡ false
told_head r rs t some rest e = by_cases (cases_Bool (is_in t r))
  where
    by_cases : (is_in t r ≡ true) ⊎ (is_in t r ≡ false) → (is_in t r || is_told rs t) ≡ false
    by_cases (inl y) = absurd (some (sym (cond-true (is_in t r) r.value (known_at rs t) y) ∙ e))
    by_cases (inr n) = ap (λ b. b || is_told rs t) n ∙ rest (sym (cond-false (is_in t r) r.value (known_at rs t) n) ∙ e)

told_none : (ps : Known) (f t : ℕ) → AreRunsFrom Q f ps → known_at ps t ≡ Q → is_told ps t ≡ false
told_none [] f t a e = refl
told_none (r ∷ rs) f t a e = told_head r rs t a.2 (told_none rs (suc r.last) t a.4) e

lowered_none : (at : ℕ → K) (ps : Known) (f : ℕ) → AreRunsFrom Q f ps → ((t : ℕ) → is_told ps t ≡ true → at t ≡ Q) → events_at at ps ≡ 0
lowered_none at [] f a h = refl
lowered_none at (r ∷ rs) f a h =
    let here : events_from at r.first (suc r.last - r.first) ≡ 0 = events_unknown at (suc r.last - r.first) r.first (λ t lo hi. h t (ap (λ b. b || is_told rs t) (covers_yes r t lo (omega (arith, hi, a.1))))) in
    omega (arith, here, lowered_none at rs (suc r.last) a.4 (λ t e. h t (ap (λ b. is_in t r || b) e ∙ or_true (is_in t r))))
  where
    or_true : (b : Bool) → (b || true) ≡ true
    or_true true = refl
    or_true false = refl

pub count_lowered : (old new ps : Known) → AreRuns Q old → EndBefore old (2 ^ 62 + 1) → AreRuns Q ps → EndBefore ps (2 ^ 62 + 1) → RunsGive Q new (λ t. if is_told ps t then Q else known_at old t) → data_count old ≡ data_count new + events_at (known_at old) ps
count_lowered old new ps a b p q g =
    omega (
      arith,
      count_changed old new ps a b g.canonical g.in_range p q (λ t e. sym (g.values t ∙ cond-false (is_told ps t) Q (known_at old t) (told_none ps 1 t p e))),
      lowered_none (known_at new) ps 1 p (λ t e. g.values t ∙ cond-true (is_told ps t) Q (known_at old t) e),
    )

-- a range made final
pub count_finished : (old new : Known) (first last : ℕ) → 1 ≤ first → first ≤ last → last ≤ 2 ^ 62 → AreRuns Q old → EndBefore old (2 ^ 62 + 1) → RunsGive Q new (λ t. if within first last t then F else known_at old t) → data_count old ≡ data_count new + events_from (known_at old) first (suc last - first)
count_finished old new first last one le upto a b g =
    let p : AreRuns Q (run ∷ []) = (one, le, F_known, tt, tt) in
    let q : EndBefore (run ∷ []) (2 ^ 62 + 1) = (omega (arith, upto), tt) in
    omega (arith, count_changed old new (run ∷ []) a b g.canonical g.in_range p q other, final)
  where
    run : Run K
    run = record { first = first; last = last; value = F }

    F_known : F ≢ Q
    F_known = λ e. cc

    other : (t : ℕ) → known_at (run ∷ []) t ≡ Q → known_at old t ≡ known_at new t
    other t e = by_cases (cases_Bool (within first last t))
      where
        by_cases : (within first last t ≡ true) ⊎ (within first last t ≡ false) → known_at old t ≡ known_at new t
        by_cases (inl y) = absurd (F_known (sym (cond-true (within first last t) F Q y) ∙ e))
        by_cases (inr n) = sym (g.values t ∙ cond-false (within first last t) F (known_at old t) n)

    final : events_from (known_at new) first (suc last - first) ≡ 0
    final = events_steady (known_at new) F (suc last - first) first (λ t lo hi. g.values t ∙ cond-true (within first last t) F (known_at old t) (and_from (nat_le first t) (nat_le t last) (le-leb first t lo) (le-leb t last (omega (arith, hi, le)))))

-- A piece past all that is known

unknown_none : (at : ℕ → K) (ps : Known) (f : ℕ) → AreRunsFrom Q f ps → ((t : ℕ) → f ≤ t → at t ≡ Q) → events_at at ps ≡ 0
unknown_none at [] f a h = refl
unknown_none at (r ∷ rs) f a h =
    let here : events_from at r.first (suc r.last - r.first) ≡ 0 = events_unknown at (suc r.last - r.first) r.first (λ t lo hi. h t (omega (arith, lo, a.0))) in
    omega (arith, here, unknown_none at rs (suc r.last) a.4 (λ t lo. h t (omega (arith, lo, a.0, a.1))))

-- what a piece says of its own ticks is what its runs count
own_count : (at : ℕ → K) (ps : Known) (f : ℕ) → AreRunsFrom Q f ps → ((t : ℕ) → f ≤ t → at t ≡ known_at ps t) → events_at at ps ≡ data_count ps
own_count at [] f a h = refl
own_count at (r ∷ rs) f a h =
    let here : events_from at r.first (suc r.last - r.first) ≡ data_of r = events_steady at r.value (suc r.last - r.first) r.first (λ t lo hi. h t (omega (arith, lo, a.0)) ∙ value_at-in Q r rs t lo (omega (arith, hi, a.1))) in
    omega (arith, here, own_count at rs (suc r.last) a.4 (λ t lo. h t (omega (arith, lo, a.0, a.1)) ∙ value_at-above Q r rs t lo))

join_known : (k j : K) → k ≡ Q → join_K k j ≡ j
join_known k j e = ap (λ x. join_K x j) e

pub count_past : (old new ps : Known) (f : ℕ) → AreRuns Q old → EndBefore old (2 ^ 62 + 1) → AreRuns Q ps → EndBefore ps (2 ^ 62 + 1) → RunsGive Q new (λ t. join_K (known_at old t) (known_at ps t)) → AreRunsFrom Q f ps → ((t : ℕ) → f ≤ t → known_at old t ≡ Q) → data_count old + data_count ps ≡ data_count new
count_past old new ps f a b p q g from h =
    omega (
      arith,
      count_joined old new ps a b p q g,
      unknown_none (known_at old) ps f from h,
      own_count (known_at new) ps f from (λ t lo. g.values t ∙ join_known (known_at old t) (known_at ps t) (h t lo)),
    )

data_count-append : (xs ys : Known) → data_count (xs ++ ys) ≡ data_count xs + data_count ys
data_count-append [] ys = omega arith
data_count-append (x ∷ xs) ys = omega (arith, data_count-append xs ys)

-- one run more is counted by itself
pub own_more : (ps : Known) (i : ℕ) (r : Run K) → i < length ps → r ≡ get_or ps i r → data_count (take (i + 1) ps) ≡ data_count (take i ps) + events_shared r r.first r.last
own_more ps i r lt e =
    let one : data_count (r ∷ []) ≡ data_of r + 0 = refl in
    let n : suc (min r.last r.last) - max r.first r.first ≡ suc r.last - r.first = omega arith in
    let own : events_shared r r.first r.last ≡ data_of r = ap (λ k. if is_D r.value then k else 0) n in
    omega (arith, ap data_count (take_at_read ps i r lt e), data_count-append (take i ps) (r ∷ []), one, own)

pub own_fits : (ps : Known) (i : ℕ) → AreTickRuns Q ps → data_count (take i ps) ≤ 2 ^ 62
own_fits ps i h =
    let k : AreTickRuns Q (take i ps) = AreTickRuns-take Q ps i h in
    count_fits (take i ps) (AreRuns-in_range Q (take i ps) k) (EndBefore-in_range Q (take i ps) k)
