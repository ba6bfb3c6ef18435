-- Forgetting run by run: what is done with the runs so far, and left to do with the rest, gives what the definition says.
use Rattle.std.proofs.Common.{◌≡◌, ℕ, zero, suc, Bool, ◌+◌, ◌-◌, ◌<◌, ◌≤◌, ◌⊎◌, inl, inr, min, true, false, ◌&&◌, [], ◌∷◌, ◌++◌, length, take, drop, get_or, nat_le, nat_lt, refl, sym, ap, ◌∙◌, subst, append_assoc, length-append, arith}
use Rattle.std.proofs.lemmas.List.{append-nil, length-drop, take-append-drop, take_at, drop_at, take_more, take_all, drop_all, length-take-le}
use Rattle.std.proofs.lemmas.Bool.{leb-true, and_parts, lt-ltb, le-ltb, le-leb, lt-leb, cond-true, cond-false, cases_Bool}
use Rattle.gr_tick.specs.declared.run.Run.{Run}
use Rattle.gr_tick.specs.Runs.{AreRunsFrom, AreRuns}
use Rattle.gr_tick.specs.Stored.{part}
use Rattle.gr_tick.proofs.EditLemmas.{drop_read}
use Rattle.gr_know.specs.declared.values.K.{K}
use Rattle.gr_know.specs.declared.values.K.TheVariants.{Q}
use Rattle.gr_know.specs.Values.{Known, is_D}
use Rattle.gr_know.specs.Forget.{data_of, data_count, without_front, lower_data}

data_count-append : (xs ys : Known) → data_count (xs ++ ys) ≡ data_count xs + data_count ys
data_count-append [] ys = omega arith
data_count-append (x ∷ xs) ys = omega (arith, data_count-append xs ys)

pub lower_past : (n upto : ℕ) (r : Run K) (rs : Known) → (is_D r.value && nat_le r.first upto) ≡ false → lower_data n upto (r ∷ rs) ≡ r ∷ lower_data n upto rs
unfolding lower_data
lower_past n upto r rs e = rw (e, lower_data) refl

lower_on : (n upto k : ℕ) (r : Run K) (rs : Known) → (is_D r.value && nat_le r.first upto) ≡ true → k ≡ min n (suc (min r.last upto) - r.first) → lower_data n upto (r ∷ rs) ≡ without_front k r (lower_data (n - k) upto rs)
unfolding lower_data
lower_on n upto k r rs e ek = opened ∙ ap (λ m. without_front m r (lower_data (n - m) upto rs)) (sym ek)
  where
    opened : lower_data n upto (r ∷ rs) ≡ without_front (min n (suc (min r.last upto) - r.first)) r (lower_data (n - min n (suc (min r.last upto) - r.first)) upto rs)
    opened = rw (e, lower_data) refl

lower_all : (n upto k : ℕ) (r : Run K) (rs : Known) → (is_D r.value && nat_le r.first upto) ≡ true → k ≡ min n (suc (min r.last upto) - r.first) → r.last < r.first + k → lower_data n upto (r ∷ rs) ≡ lower_data (n - k) upto rs
lower_all n upto k r rs e ek lt =
    lower_on n upto k r rs e ek ∙ cond-true (nat_lt r.last (r.first + k)) (lower_data (n - k) upto rs) _ (lt-ltb r.last (r.first + k) lt)

lower_part : (n upto k : ℕ) (r : Run K) (rs : Known) → (is_D r.value && nat_le r.first upto) ≡ true → k ≡ min n (suc (min r.last upto) - r.first) → r.first + k ≤ r.last → lower_data n upto (r ∷ rs) ≡ record { first = r.first + k; last = r.last; value = r.value } ∷ lower_data (n - k) upto rs
lower_part n upto k r rs e ek le =
    lower_on n upto k r rs e ek ∙ cond-false (nat_lt r.last (r.first + k)) (lower_data (n - k) upto rs) _ (le-ltb r.last (r.first + k) le)

-- nothing is left to lower
lower_none : (upto n : ℕ) (rs : Known) → AreRunsFrom Q n rs → lower_data 0 upto rs ≡ rs
unfolding lower_data
lower_none upto n [] a = refl
lower_none upto n (r ∷ rs) a = by_cases (cases_Bool (is_D r.value && nat_le r.first upto)) (lower_none upto (suc r.last) rs a.4)
  where
    none : 0 ≡ min 0 (suc (min r.last upto) - r.first)
    none = omega arith

    same_first : r.first + 0 ≡ r.first
    same_first = omega arith

    by_cases : ((is_D r.value && nat_le r.first upto) ≡ true) ⊎ ((is_D r.value && nat_le r.first upto) ≡ false) → lower_data 0 upto rs ≡ rs → lower_data 0 upto (r ∷ rs) ≡ r ∷ rs
    by_cases (inl y) ih =
        lower_part 0 upto 0 r rs y none (omega (arith, a.1)) ∙ ap (λ m. record { first = m; last = r.last; value = r.value } ∷ lower_data 0 upto rs) same_first ∙ ap (λ zs. r ∷ zs) ih
    by_cases (inr n) ih = lower_past 0 upto r rs n ∙ ap (λ zs. r ∷ zs) ih

none_after : (upto n : ℕ) (xs ys : Known) → AreRunsFrom Q n (xs ++ ys) → lower_data 0 upto ys ≡ ys
none_after upto n [] ys a = lower_none upto n ys a
none_after upto n (x ∷ xs) ys a = none_after upto (suc x.last) xs ys a.4

-- all is lowered that is to be
pub nothing_left : (upto i n : ℕ) (rs : Known) → AreRuns Q rs → n ≡ 0 → take i rs ++ lower_data n upto (drop i rs) ≡ rs
nothing_left upto i n rs a e =
    ap (λ m. take i rs ++ lower_data m upto (drop i rs)) e
    ∙ ap (λ zs. take i rs ++ zs) (none_after upto 1 (take i rs) (drop i rs) (subst (λ zs. AreRunsFrom Q 1 zs) (sym (take-append-drop i rs)) a))
    ∙ take-append-drop i rs

-- all runs are gone through
pub none_remain : (upto i n : ℕ) (rs : Known) → length rs ≤ i → take i rs ++ lower_data n upto (drop i rs) ≡ rs
unfolding lower_data
none_remain upto i n rs le =
    ap (λ zs. take i rs ++ lower_data n upto zs) (drop_all i rs le) ∙ ap (λ zs. take i rs ++ zs) nothing ∙ append-nil (take i rs) ∙ take_all i rs le
  where
    nothing : lower_data n upto [] ≡ []
    nothing = refl

-- runs that begin past the tick stay
lower_ahead : (n upto from : ℕ) (rs : Known) → AreRunsFrom Q from rs → upto < from → lower_data n upto rs ≡ rs
unfolding lower_data
lower_ahead n upto from [] a lt = refl
lower_ahead n upto from (r ∷ rs) a lt =
    let past : upto < r.first = omega (arith, a.0, lt) in
    let later : upto < suc r.last = omega (arith, a.1, past) in
    lower_past n upto r rs (and_false (is_D r.value) (nat_le r.first upto) (lt-leb r.first upto past)) ∙ ap (λ zs. r ∷ zs) (lower_ahead n upto (suc r.last) rs a.4 later)
  where
    and_false : (b c : Bool) → c ≡ false → (b && c) ≡ false
    and_false true c e = e
    and_false false c e = refl

ahead_from : (n upto i from : ℕ) (rs : Known) (r : Run K) → AreRunsFrom Q from rs → i < length rs → r ≡ get_or rs i r → upto < r.first → take i rs ++ lower_data n upto (drop i rs) ≡ rs
ahead_from n upto i from [] r a lt e past = absurd (omega (arith, lt))
ahead_from n upto zero from (x ∷ xs) r a lt e past =
    let begun : upto < x.first = omega (arith, past, ap (λ z. z.first) e) in
    lower_ahead n upto x.first (x ∷ xs) (omega arith, a.1, a.2, a.3, a.4) begun
ahead_from n upto (suc i) from (x ∷ xs) r a lt e past =
    let inside : i < length xs = omega (arith, lt) in
    ap (λ zs. x ∷ zs) (ahead_from n upto i (suc x.last) xs r a.4 inside e past)

-- all runs are gone through that begin by the tick
pub none_ahead : (upto i n : ℕ) (rs : Known) (r : Run K) → AreRuns Q rs → i < length rs → r ≡ get_or rs i r → upto < r.first → take i rs ++ lower_data n upto (drop i rs) ≡ rs
none_ahead upto i n rs r a lt e past = ahead_from n upto i 1 rs r a lt e past

-- a run that stays
pub kept_run : (old : Known) (i n upto : ℕ) (r : Run K) → i < length old → r ≡ get_or old i r → (is_D r.value && nat_le r.first upto) ≡ false → take (i + 1) old ++ lower_data n upto (drop (i + 1) old) ≡ take i old ++ lower_data n upto (drop i old)
kept_run old i n upto r lt e t =
    ap (λ zs. zs ++ lower_data n upto (drop (i + 1) old)) (take_more old i r lt ∙ ap (λ z. take i old ++ z ∷ []) (sym e))
    ∙ append_assoc (take i old) (r ∷ []) (lower_data n upto (drop (i + 1) old))
    ∙ ap (λ zs. take i old ++ zs) (sym (lower_past n upto r (drop (i + 1) old) t) ∙ ap (lower_data n upto) (sym (drop_read old i r lt e)))

-- a run that goes
pub gone_run : (old new : Known) (i n upto k : ℕ) (r : Run K) → i < length old → r ≡ get_or old i r → (is_D r.value && nat_le r.first upto) ≡ true → k ≡ min n (suc (min r.last upto) - r.first) → r.last < r.first + k → new ≡ take i old ++ drop (i + 1) old → take i new ++ lower_data (n - k) upto (drop i new) ≡ take i old ++ lower_data n upto (drop i old)
gone_run old new i n upto k r lt e t ek all en =
    let front : take i new ≡ take i old = ap (take i) en ∙ take_at (take i old) (drop (i + 1) old) i (length-take-le i old (omega arith)) in
    let rest : drop i new ≡ drop (i + 1) old = ap (drop i) en ∙ drop_at (take i old) (drop (i + 1) old) i (length-take-le i old (omega arith)) in
    ap (λ zs. zs ++ lower_data (n - k) upto (drop i new)) front
    ∙ ap (λ zs. take i old ++ lower_data (n - k) upto zs) rest
    ∙ ap (λ zs. take i old ++ zs) (sym (lower_all n upto k r (drop (i + 1) old) t ek all) ∙ ap (lower_data n upto) (sym (drop_read old i r lt e)))

-- a run whose last ticks stay
pub cut_run : (old new : Known) (i n upto k : ℕ) (r s : Run K) → i < length old → r ≡ get_or old i r → (is_D r.value && nat_le r.first upto) ≡ true → k ≡ min n (suc (min r.last upto) - r.first) → r.first + k ≤ r.last → s ≡ record { first = r.first + k; last = r.last; value = r.value } → new ≡ take i old ++ s ∷ drop (i + 1) old → take (i + 1) new ++ lower_data (n - k) upto (drop (i + 1) new) ≡ take i old ++ lower_data n upto (drop i old)
cut_run old new i n upto k r s lt e t ek some es en =
    let size : length (take i old ++ s ∷ []) ≡ i + 1 = omega (arith, length-append (take i old) (s ∷ []), length-take-le i old (omega arith)) in
    let split : new ≡ (take i old ++ s ∷ []) ++ drop (i + 1) old = en ∙ sym (append_assoc (take i old) (s ∷ []) (drop (i + 1) old)) in
    let front : take (i + 1) new ≡ take i old ++ s ∷ [] = ap (take (i + 1)) split ∙ take_at (take i old ++ s ∷ []) (drop (i + 1) old) (i + 1) size in
    let rest : drop (i + 1) new ≡ drop (i + 1) old = ap (drop (i + 1)) split ∙ drop_at (take i old ++ s ∷ []) (drop (i + 1) old) (i + 1) size in
    ap (λ zs. zs ++ lower_data (n - k) upto (drop (i + 1) new)) front
    ∙ ap (λ zs. (take i old ++ s ∷ []) ++ lower_data (n - k) upto zs) rest
    ∙ append_assoc (take i old) (s ∷ []) (lower_data (n - k) upto (drop (i + 1) old))
    ∙ ap (λ z. take i old ++ z ∷ lower_data (n - k) upto (drop (i + 1) old)) es
    ∙ ap (λ zs. take i old ++ zs) (sym (lower_part n upto k r (drop (i + 1) old) t ek some) ∙ ap (lower_data n upto) (sym (drop_read old i r lt e)))

pub gone_length : (old new : Known) (i : ℕ) → i < length old → new ≡ take i old ++ drop (i + 1) old → length new + 1 ≡ length old
gone_length old new i lt e =
    omega (arith, ap length e, length-append (take i old) (drop (i + 1) old), length-take-le i old (omega arith), length-drop (i + 1) old)

pub cut_length : (old new : Known) (i : ℕ) (s : Run K) → i < length old → new ≡ take i old ++ s ∷ drop (i + 1) old → length new ≡ length old
cut_length old new i s lt e =
    let one : length (s ∷ drop (i + 1) old) ≡ suc (length (drop (i + 1) old)) = refl in
    omega (arith, ap length e, length-append (take i old) (s ∷ drop (i + 1) old), one, length-take-le i old (omega arith), length-drop (i + 1) old)

-- how many ticks of a run are lowered
pub record IsFront (r : Run K) (left upto k : ℕ) : Type 0 where
  pub some : 1 ≤ k
  pub inside : r.first + (k - 1) ≤ r.last
  pub many : k ≡ min left (suc (min r.last upto) - r.first)

pub front_is : (r : Run K) (left upto m k : ℕ) → r.first ≤ r.last → (is_D r.value && nat_le r.first upto) ≡ true → 0 < left → m ≡ min r.last upto → k ≡ min left (m - r.first + 1) → IsFront r left upto k
front_is r left upto m k o t some em ek =
    let begun : r.first ≤ upto = leb-true r.first upto (and_parts (is_D r.value) (nat_le r.first upto) t).1 in
    record { some = omega arith; inside = omega arith; many = omega arith }

-- what the lowering of a run's first ticks leaves
pub front_gone : (old new : Known) (i end : ℕ) (r : Run K) → new ≡ take i old ++ (part (end + 1) r.last r.value ++ drop (i + 1) old) → end ≡ r.last → new ≡ take i old ++ drop (i + 1) old
front_gone old new i end r e h =
    let past : r.last < end + 1 = omega (arith, h) in
    e ∙ ap (λ zs. take i old ++ (zs ++ drop (i + 1) old)) (cond-false (nat_le (end + 1) r.last) _ [] (lt-leb (end + 1) r.last past))

pub front_cut : (old new : Known) (i end : ℕ) (r : Run K) → new ≡ take i old ++ (part (end + 1) r.last r.value ++ drop (i + 1) old) → end < r.last → new ≡ take i old ++ record { first = end + 1; last = r.last; value = r.value } ∷ drop (i + 1) old
front_cut old new i end r e h =
    let inside : end + 1 ≤ r.last = omega (arith, h) in
    e ∙ ap (λ zs. take i old ++ (zs ++ drop (i + 1) old)) (cond-true (nat_le (end + 1) r.last) _ [] (le-leb (end + 1) r.last inside))

-- How many are left

data_of-is : (r : Run K) → is_D r.value ≡ true → data_of r ≡ suc r.last - r.first
data_of-is r d = rw d refl

data_count-split : (old : Known) (i : ℕ) (r : Run K) → i < length old → r ≡ get_or old i r → data_count old ≡ data_count (take i old) + (data_of r + data_count (drop (i + 1) old))
data_count-split old i r lt e =
    ap data_count (sym (take-append-drop i old) ∙ ap (λ zs. take i old ++ zs) (drop_read old i r lt e)) ∙ data_count-append (take i old) (r ∷ drop (i + 1) old)

-- a run with an event that goes
pub gone_count : (old new : Known) (i k : ℕ) (r : Run K) → i < length old → r ≡ get_or old i r → is_D r.value ≡ true → 1 ≤ k → r.first + (k - 1) ≡ r.last → new ≡ take i old ++ drop (i + 1) old → data_count new + k ≡ data_count old
gone_count old new i k r lt e d some all en =
    omega (arith, data_count-split old i r lt e, data_of-is r d, some, all, ap data_count en, data_count-append (take i old) (drop (i + 1) old))

-- a run with an event whose last ticks stay
pub cut_count : (old new : Known) (i k : ℕ) (r s : Run K) → i < length old → r ≡ get_or old i r → is_D r.value ≡ true → 1 ≤ k → r.first + (k - 1) < r.last → s ≡ record { first = r.first + (k - 1) + 1; last = r.last; value = r.value } → new ≡ take i old ++ s ∷ drop (i + 1) old → data_count new + k ≡ data_count old
cut_count old new i k r s lt e d some part es en =
    let left : data_of s ≡ suc r.last - (r.first + (k - 1) + 1) = ap data_of es ∙ data_of-is (record { first = r.first + (k - 1) + 1; last = r.last; value = r.value }) d in
    omega (arith, data_count-split old i r lt e, data_of-is r d, left, some, part, ap data_count en, data_count-append (take i old) (s ∷ drop (i + 1) old))
