-- How often a number stands among the frames that pass a test is
-- counted in parts, since frames are numbered on as they are sent
use Rattle.std.proofs.Common.{◌≡◌, ℕ, suc, zero, ◌+◌, ◌-◌, ◌≤◌, ◌<◌, Bool, true, false, List, [], ◌∷◌, ◌++◌, map, length, refl, sym, ap, ap₂, ◌∙◌, subst, Some, None, arith}
use Rattle.std.specs.Prelude.{nat_eq, if◌then◌else◌, slice_get}
use Rattle.std.proofs.lemmas.Bool.{eq-eqb, ne_eqb}
use Rattle.gr_frame.specs.declared.Frame.{Frame}
use Rattle.gr_model.specs.World.{World, frame_at, frames_past}
use Rattle.gr_model_theorems.specs.Settles.{Call, wakes, delivers, numbers_of, sent_past, delivered, times}
use Rattle.gr_model_calls.proofs.runs.Worlds.{Each}
use Rattle.gr_model_calls.proofs.rules.Serves.{frames_past_all}
use Rattle.gr_model_theorems.proofs.sweep.SweepCalls.{Grows}

pub times-append : (k : ℕ) (xs ys : List ℕ) → times k (xs ++ ys) ≡ times k xs + times k ys
times-append k [] ys = omega arith
times-append k (x ∷ xs) ys = omega (arith, times-append k xs ys)

delivered-append : (xs ys : List Call) → delivered (xs ++ ys) ≡ delivered xs ++ delivered ys
delivered-append [] ys = refl
delivered-append (wakes b p ∷ xs) ys = delivered-append xs ys
delivered-append (delivers k ∷ xs) ys = ap (λ z. k ∷ z) (delivered-append xs ys)

-- how often calls deliver a number
abbrev pub count : ℕ → List Call → ℕ
count k cs = times k (delivered cs)

-- two lists of calls deliver a number as often as the one and the other together
pub count-append : (k : ℕ) (xs ys : List Call) → count k (xs ++ ys) ≡ count k xs + count k ys
count-append k xs ys = ap (times k) (delivered-append xs ys) ∙ times-append k (delivered xs) (delivered ys)

-- calls that deliver numbers deliver each as often as it stands among them
pub count_deliveries : (k : ℕ) (ks : List ℕ) → count k (map delivers ks) ≡ times k ks
count_deliveries k [] = refl
count_deliveries k (x ∷ ks) = ap (λ z. (if nat_eq x k then 1 else 0) + z) (count_deliveries k ks)

-- More frames

numbers_on : (test : Frame → Bool) (n : ℕ) (xs ys : List Frame) → numbers_of test n (xs ++ ys) ≡ numbers_of test n xs ++ numbers_of test (n + length xs) ys
numbers_on test n [] ys = let e : n ≡ n + 0 = omega arith in ap (λ z. numbers_of test z ys) e
numbers_on test n (x ∷ xs) ys = go (test x) (let e : suc n + length xs ≡ n + suc (length xs) = omega arith in numbers_on test (suc n) xs ys ∙ ap (λ z. numbers_of test (suc n) xs ++ numbers_of test z ys) e)
  where
    go : (q : Bool) → numbers_of test (suc n) (xs ++ ys) ≡ numbers_of test (suc n) xs ++ numbers_of test (n + suc (length xs)) ys → (if q then n ∷ [] else []) ++ numbers_of test (suc n) (xs ++ ys) ≡ ((if q then n ∷ [] else []) ++ numbers_of test (suc n) xs) ++ numbers_of test (n + suc (length xs)) ys
    go true rest = ap (λ z. n ∷ z) rest
    go false rest = rest

past_on : (n : ℕ) (xs ys : List Frame) → n ≤ length xs → frames_past n (xs ++ ys) ≡ frames_past n xs ++ ys
past_on zero xs ys l = refl
past_on (suc n) [] ys l = absurd (omega (arith, l))
past_on (suc n) (x ∷ xs) ys l = past_on n xs ys (omega (arith, l))

past_long : (n : ℕ) (xs : List Frame) → n ≤ length xs → n + length (frames_past n xs) ≡ length xs
past_long zero xs l = omega arith
past_long (suc n) [] l = absurd (omega (arith, l))
past_long (suc n) (x ∷ xs) l = omega (arith, past_long n xs (omega (arith, l)))

-- what is new counts on
pub sent_more : (k : ℕ) (test : Frame → Bool) (first : ℕ) (w u : World) (more : List Frame) → first ≤ length w.frames → u.frames ≡ w.frames ++ more → times k (sent_past test first u) ≡ times k (sent_past test first w) + times k (numbers_of test (suc (length w.frames)) more)
sent_more k test first w u more l e =
    ap (λ z. times k (numbers_of test (suc first) z)) (ap (frames_past first) e ∙ past_on first w.frames more l)
    ∙ (ap (times k) (numbers_on test (suc first) (frames_past first w.frames) more)
    ∙ (times-append k (numbers_of test (suc first) (frames_past first w.frames)) (numbers_of test (suc first + length (frames_past first w.frames)) more)
    ∙ ap (λ z. times k (numbers_of test (suc first) (frames_past first w.frames)) + times k (numbers_of test z more)) (omega (arith, past_long first w.frames l))))

pub sent_new : (test : Frame → Bool) (w u : World) (more : List Frame) → u.frames ≡ w.frames ++ more → sent_past test (length w.frames) u ≡ numbers_of test (suc (length w.frames)) more
sent_new test w u more e = ap (numbers_of test (suc (length w.frames))) (ap (frames_past (length w.frames)) e ∙ frames_past_all w.frames more)

-- what was sent past a point was sent up to an earlier world, or since
pub sent_split : (k : ℕ) (test : Frame → Bool) (first : ℕ) (w u : World) → first ≤ length w.frames → Grows w u → times k (sent_past test first u) ≡ times k (sent_past test first w) + times k (sent_past test (length w.frames) u)
sent_split k test first w u l g = sent_more k test first w u g.more l g.frames ∙ ap (λ z. times k (sent_past test first w) + times k z) (sym (sent_new test w u g.more g.frames))

past_none : (xs : List Frame) → frames_past (length xs) xs ≡ []
past_none [] = refl
past_none (x ∷ xs) = past_none xs

-- past all frames of a world none is sent
pub sent_none : (test : Frame → Bool) (w : World) → sent_past test (length w.frames) w ≡ []
sent_none test w = ap (numbers_of test (suc (length w.frames))) (past_none w.frames)

-- Tests

-- how often something happens that happens once or not: 1 where it does
abbrev pub one : Bool → ℕ
one q = if q then 1 else 0

head_parts : (k n : ℕ) (x y z : Bool) → one x ≡ one y + one z → times k (if x then n ∷ [] else []) ≡ times k (if y then n ∷ [] else []) + times k (if z then n ∷ [] else [])
head_parts k n true true true e = absurd (omega (arith, e))
head_parts k n true true false e = omega arith
head_parts k n true false true e = omega arith
head_parts k n true false false e = absurd (omega (arith, e))
head_parts k n false true z e = absurd (omega (arith, e))
head_parts k n false false true e = absurd (omega (arith, e))
head_parts k n false false false e = omega arith

-- a test that is one of two, and never both, counts as both
pub times_parts : (k n : ℕ) (P : Frame → Type 0) (a b c : Frame → Bool) (fs : List Frame) → ((f : Frame) → P f → one (a f) ≡ one (b f) + one (c f)) → Each P fs → times k (numbers_of a n fs) ≡ times k (numbers_of b n fs) + times k (numbers_of c n fs)
times_parts k n P a b c [] h e = omega arith
times_parts k n P a b c (f ∷ fs) h e =
    let x = times-append k (if a f then n ∷ [] else []) (numbers_of a (suc n) fs) in
    let y = times-append k (if b f then n ∷ [] else []) (numbers_of b (suc n) fs) in
    let z = times-append k (if c f then n ∷ [] else []) (numbers_of c (suc n) fs) in
    omega (arith, x, y, z, head_parts k n (a f) (b f) (c f) (h f e.0), times_parts k (suc n) P a b c fs h e.1)

-- where no frame passes a test, no number is one of those that pass it
pub times_none : (k n : ℕ) (test : Frame → Bool) (fs : List Frame) → Each (λ f. test f ≡ false) fs → times k (numbers_of test n fs) ≡ 0
times_none k n test [] a = refl
times_none k n test (f ∷ fs) a = ap (λ q. times k ((if q then n ∷ [] else []) ++ numbers_of test (suc n) fs)) a.0 ∙ times_none k (suc n) test fs a.1

times_below : (k n : ℕ) (test : Frame → Bool) (fs : List Frame) → k < n → times k (numbers_of test n fs) ≡ 0
times_below k n test [] l = refl
times_below k n test (f ∷ fs) l = go (test f) (times_below k (suc n) test fs (omega (arith, l)))
  where
    go : (q : Bool) → times k (numbers_of test (suc n) fs) ≡ 0 → times k ((if q then n ∷ [] else []) ++ numbers_of test (suc n) fs) ≡ 0
    go true rest = ap₂ (λ q z. (if q then 1 else 0) + z) (ne_eqb n k (λ e. omega (arith, e, l))) rest
    go false rest = rest

listed_once : (n i : ℕ) (test : Frame → Bool) (fs : List Frame) (f : Frame) → slice_get fs i ≡ Some f → test f ≡ true → times (n + i) (numbers_of test n fs) ≡ 1
listed_once n i test [] f e t = absurd (none_some f e)
  where
    none_some : (f : Frame) → None ≡ Some f → ⊥
    none_some f e = cc
listed_once n zero test (x ∷ fs) f e t =
    ap (λ q. times (n + 0) ((if q then n ∷ [] else []) ++ numbers_of test (suc n) fs)) (ap test (some_some x f e) ∙ t)
    ∙ ap₂ (λ q z. (if q then 1 else 0) + z) (eq-eqb n (n + 0) (omega arith)) (times_below (n + 0) (suc n) test fs (omega arith))
  where
    some_some : (x f : Frame) → Some x ≡ Some f → x ≡ f
    some_some x f e = cc
listed_once n (suc i) test (x ∷ fs) f e t = go (test x) (subst (λ z. times z (numbers_of test (suc n) fs) ≡ 1) (omega arith) (listed_once (suc n) i test fs f e t))
  where
    go : (q : Bool) → times (n + suc i) (numbers_of test (suc n) fs) ≡ 1 → times (n + suc i) ((if q then n ∷ [] else []) ++ numbers_of test (suc n) fs) ≡ 1
    go true rest = ap₂ (λ q z. (if q then 1 else 0) + z) (ne_eqb n (n + suc i) (λ e. omega (arith, e))) rest
    go false rest = rest

listed_never : (n i : ℕ) (test : Frame → Bool) (fs : List Frame) (f : Frame) → slice_get fs i ≡ Some f → test f ≡ false → times (n + i) (numbers_of test n fs) ≡ 0
listed_never n i test [] f e t = refl
listed_never n zero test (x ∷ fs) f e t =
    ap (λ q. times (n + 0) ((if q then n ∷ [] else []) ++ numbers_of test (suc n) fs)) (ap test (some_some x f e) ∙ t) ∙ times_below (n + 0) (suc n) test fs (omega arith)
  where
    some_some : (x f : Frame) → Some x ≡ Some f → x ≡ f
    some_some x f e = cc
listed_never n (suc i) test (x ∷ fs) f e t = go (test x) (subst (λ z. times z (numbers_of test (suc n) fs) ≡ 0) (omega arith) (listed_never (suc n) i test fs f e t))
  where
    go : (q : Bool) → times (n + suc i) (numbers_of test (suc n) fs) ≡ 0 → times (n + suc i) ((if q then n ∷ [] else []) ++ numbers_of test (suc n) fs) ≡ 0
    go true rest = ap₂ (λ q z. (if q then 1 else 0) + z) (ne_eqb n (n + suc i) (λ e. omega (arith, e))) rest
    go false rest = rest

past_get : (a i : ℕ) (fs : List Frame) → slice_get (frames_past a fs) i ≡ slice_get fs (a + i)
past_get zero i fs = let e : i ≡ 0 + i = omega arith in ap (slice_get fs) e
past_get (suc a) i [] = refl
past_get (suc a) i (f ∷ fs) = let e : suc (a + i) ≡ suc a + i = omega arith in past_get a i fs ∙ ap (slice_get (f ∷ fs)) e

-- the number of a frame past the first so many stands once among those that pass its test
pub sent_once : (first n : ℕ) (test : Frame → Bool) (w : World) (f : Frame) → first < n → frame_at w n ≡ Some f → test f ≡ true → times n (sent_past test first w) ≡ 1
sent_once first zero test w f l e t = absurd (omega (arith, l))
sent_once first (suc n) test w f l e t =
    let i : ℕ = n - first in
    let at : first + i ≡ n = omega (arith, l) in
    let number : suc first + i ≡ suc n = omega (arith, l) in
    subst (λ z. times z (numbers_of test (suc first) (frames_past first w.frames)) ≡ 1) number (listed_once (suc first) i test (frames_past first w.frames) f (past_get first i w.frames ∙ (ap (slice_get w.frames) at ∙ e)) t)

-- a frame that does not pass the test has no number there, nor has one of the first so many
pub sent_never : (first n : ℕ) (test : Frame → Bool) (w : World) (f : Frame) → first < n → frame_at w n ≡ Some f → test f ≡ false → times n (sent_past test first w) ≡ 0
sent_never first zero test w f l e t = absurd (omega (arith, l))
sent_never first (suc n) test w f l e t =
    let i : ℕ = n - first in
    let at : first + i ≡ n = omega (arith, l) in
    let number : suc first + i ≡ suc n = omega (arith, l) in
    subst (λ z. times z (numbers_of test (suc first) (frames_past first w.frames)) ≡ 0) number (listed_never (suc first) i test (frames_past first w.frames) f (past_get first i w.frames ∙ (ap (slice_get w.frames) at ∙ e)) t)

-- no number up to a point is among those sent past it
pub sent_not_before : (first n : ℕ) (test : Frame → Bool) (w : World) → n ≤ first → times n (sent_past test first w) ≡ 0
sent_not_before first n test w l = times_below n (suc first) test (frames_past first w.frames) (omega (arith, l))
