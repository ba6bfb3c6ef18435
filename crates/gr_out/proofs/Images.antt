-- The image that a crash picks is one of those that it may leave.
use Rattle.std.proofs.Common.{◌≡◌, ⊎_elim, ℕ, zero, suc, ◌+◌, ◌*◌, ◌-◌, ◌%◌, ◌<◌, ◌≤◌, Bool, true, false, nat_eq, if◌then◌else◌, List, [], ◌∷◌, ◌++◌, length, take, drop, replicate, get_or, set, refl, ap, sym, ◌∙◌, subst, arith, append_assoc, length-take, length-append, min}
use Rattle.std.proofs.lemmas.Bool.{cases_lt}
use Rattle.std.proofs.lemmas.List.{take-append-drop, drop_at, take_at, take_min, drop_all, length-replicate, get_or_default, get_or-set_same}
use Rattle.gr_out.specs.declared.disk.Stop.{Stop}
use Rattle.gr_out.specs.declared.disk.Stop.TheVariants.{Unset, After, Stopped}
use Rattle.gr_out.specs.Lane.{Lane, lane_at, blank, Call, Write, Cut, Sync, FailedWrite, FailedCut, content, garbled, over, read_after, synced_after, fresh_after, picked_after, crash_image, crashed, Torn, Shortened, LeftAfter, MayLeave}
use Rattle.gr_out.proofs.Lanes.{length-over}

-- What a write leaves

over_before : {A : Type 0} (at : ℕ) (new old : List A) → take (min at (length old)) (over at new old) ≡ take at old
over_before at new old = take_at (take at old) (new ++ drop (at + length new) old) (min at (length old)) (omega (arith, length-take at old))

over_after : {A : Type 0} (at : ℕ) (new old : List A) → drop (at + length new) (over at new old) ≡ drop (at + length new) old
over_after at new old =
    ⊎_elim
    (λ beyond. drop_all (at + length new) (over at new old) (omega (arith, beyond, length-over at new old)) ∙ sym (drop_all (at + length new) old (omega (arith, beyond))))
    (λ within.
    let len : length (take at old ++ new) ≡ at + length new = omega (arith, within, length-take at old, length-append (take at old) new) in
    ap (λ l. drop (at + length new) l) (sym (append_assoc (take at old) new (drop (at + length new) old))) ∙ drop_at (take at old ++ new) (drop (at + length new) old) (at + length new) len)
    (cases_lt (length old) at)

torn_over : (at : ℕ) (bytes old : List ℕ) → Torn at (length bytes) old (over at bytes old)
torn_over at bytes old = record {
  before = over_before at bytes old;
  after = over_after at bytes old;
  no_shorter = omega (arith, length-over at bytes old);
  no_longer = omega (arith, length-over at bytes old);
}

torn_same : (at n : ℕ) (old : List ℕ) → Torn at n old old
torn_same at n old = record { before = take_min at old; after = refl; no_shorter = omega arith; no_longer = omega arith }

-- What a cut leaves

shortened_cut : (n : ℕ) (old : List ℕ) → Shortened n old (take n old)
shortened_cut n old =
    let len : length (take n old) ≡ min n (length old) = omega (arith, length-take n old) in
    record { no_shorter = omega (arith, len); front = ap (λ (k : ℕ). take k old) len ∙ take_min n old }

shortened_same : (n : ℕ) (old : List ℕ) → Shortened n old old
shortened_same n old = record { no_shorter = omega arith; front = take_same old }
  where
    take_same : (xs : List ℕ) → take (length xs) xs ≡ xs
    take_same [] = refl
    take_same (x ∷ xs) = ap (λ (l : List ℕ). x ∷ l) (take_same xs)

-- What is garbled

length-garbled : (pick i : ℕ) (fs : List Bool) (bs : List ℕ) → length fs ≡ length bs → length (garbled pick i fs bs) ≡ length bs
length-garbled pick i [] bs h = refl
length-garbled pick i (f ∷ fs) [] h = refl
length-garbled pick i (f ∷ fs) (b ∷ bs) h = omega (arith, length-garbled pick (i + 1) fs bs (omega (arith, h)))

take-garbled : (pick i k : ℕ) (fs : List Bool) (bs : List ℕ) → take k (garbled pick i fs bs) ≡ garbled pick i (take k fs) (take k bs)
take-garbled pick i zero fs bs = refl
take-garbled pick i (suc k) [] bs = refl
take-garbled pick i (suc k) (f ∷ fs) [] = refl
take-garbled pick i (suc k) (f ∷ fs) (b ∷ bs) = ap (λ (l : List ℕ). (if f then (i * pick) % 256 else b) ∷ l) (take-garbled pick (i + 1) k fs bs)

drop-garbled : (pick i j k : ℕ) (fs : List Bool) (bs : List ℕ) → j ≡ i + k → drop k (garbled pick i fs bs) ≡ garbled pick j (drop k fs) (drop k bs)
drop-garbled pick i j zero fs bs h = ap (λ (n : ℕ). garbled pick n fs bs) (omega (arith, h))
drop-garbled pick i j (suc k) [] bs h = refl
drop-garbled pick i j (suc k) (f ∷ fs) [] h = drop_none j (drop k fs)
  where
    drop_none : (n : ℕ) (gs : List Bool) → ◌≡◌ {A = List ℕ} [] (garbled pick n gs [])
    drop_none n [] = refl
    drop_none n (g ∷ gs) = refl
drop-garbled pick i j (suc k) (f ∷ fs) (b ∷ bs) h = drop-garbled pick (i + 1) j k fs bs (omega (arith, h))

-- bytes of which none is fresh stay
pub none_garbled : (pick i n : ℕ) (bs : List ℕ) → garbled pick i (replicate n false) bs ≡ bs
none_garbled pick i zero bs = refl
none_garbled pick i (suc n) [] = refl
none_garbled pick i (suc n) (b ∷ bs) = ap (λ (l : List ℕ). b ∷ l) (none_garbled pick (i + 1) n bs)

-- bytes of which none is fresh up to a place: those stay, and the others are garbled
pub garbled_behind : (pick n : ℕ) (fs : List Bool) (bs : List ℕ) → take n fs ≡ replicate n false
    → take n bs ++ garbled pick n (drop n fs) (drop n bs) ≡ garbled pick 0 fs bs
garbled_behind pick n fs bs h =
    ap (λ (l : List ℕ). l ++ garbled pick n (drop n fs) (drop n bs)) (sym (take-garbled pick 0 n fs bs ∙ ap (λ (l : List Bool). garbled pick 0 l (take n bs)) h ∙ none_garbled pick 0 n (take n bs)))
    ∙ ap (λ (l : List ℕ). take n (garbled pick 0 fs bs) ++ l) (sym (drop-garbled pick 0 n n fs bs (omega arith)))
    ∙ take-append-drop n (garbled pick 0 fs bs)

pub garbled_front : (pick n : ℕ) (fs : List Bool) (bs : List ℕ) → take n fs ≡ replicate n false → take n (garbled pick 0 fs bs) ≡ take n bs
garbled_front pick n fs bs h = take-garbled pick 0 n fs bs ∙ ap (λ (l : List Bool). garbled pick 0 l (take n bs)) h ∙ none_garbled pick 0 n (take n bs)

-- with every mark seen, the bytes are the garbled ones
pub garbled_done : (pick i : ℕ) (fs : List Bool) (bs all : List ℕ) → length fs ≤ i → take i bs ++ garbled pick i (drop i fs) (drop i bs) ≡ all → bs ≡ all
garbled_done pick i fs bs all h e =
    sym (take-append-drop i bs) ∙ ap (λ (l : List Bool). take i bs ++ garbled pick i l (drop i bs)) (sym (drop_all i fs h)) ∙ e

-- of bytes one of which is fresh, that one is garbled
pub one_garbled : (pick i : ℕ) (pre rest : List ℕ) (x : ℕ) → garbled pick i (replicate (length pre) false ++ true ∷ replicate (length rest) false) (pre ++ x ∷ rest) ≡ pre ++ ((i + length pre) * pick) % 256 ∷ rest
one_garbled pick i [] rest x =
    ap (λ (n : ℕ). (n * pick) % 256 ∷ garbled pick (i + 1) (replicate (length rest) false) rest) (omega arith) ∙ ap (λ (l : List ℕ). ((i + 0) * pick) % 256 ∷ l) (none_garbled pick (i + 1) (length rest) rest)
one_garbled pick i (p ∷ pre) rest x =
    ap (λ (l : List ℕ). p ∷ l) (one_garbled pick (i + 1) pre rest x ∙ ap (λ (n : ℕ). pre ++ (n * pick) % 256 ∷ rest) (omega arith))

marked : (start : List ℕ) (calls : List Call) → length (fresh_after start calls) ≡ length (read_after start calls)
marked start [] = length-replicate (length start) false
marked start (Write at bytes ∷ calls) =
    omega (arith, marked start calls, length-over at bytes (read_after start calls), length-over at (replicate (length bytes) true) (fresh_after start calls), length-replicate (length bytes) true)
marked start (Cut n ∷ calls) = omega (arith, marked start calls, length-take n (read_after start calls), length-take n (fresh_after start calls))
marked start (Sync ∷ calls) = length-replicate (length (read_after start calls)) false
marked start (FailedWrite at n ∷ calls) = marked start calls
marked start (FailedCut n ∷ calls) = marked start calls

-- a write garbled is one of its images
torn_garbled : (pick at : ℕ) (bytes old : List ℕ) (fs : List Bool) → length fs ≡ length old
    → Torn at (length bytes) (garbled pick 0 fs old) (garbled pick 0 (over at (replicate (length bytes) true) fs) (over at bytes old))
torn_garbled pick at bytes old fs h =
    let fresh = over at (replicate (length bytes) true) fs in
    let new = over at bytes old in
    let n : length (replicate (length bytes) true) ≡ length bytes = length-replicate (length bytes) true in
    let was : length (garbled pick 0 fs old) ≡ length old = length-garbled pick 0 fs old h in
    let long_new : length new ≡ min at (length old) + (length bytes + (length old - (at + length bytes))) = length-over at bytes old in
    let same : length fresh ≡ length new = omega (arith, h, n, long_new, length-over at (replicate (length bytes) true) fs) in
    let now : length (garbled pick 0 fresh new) ≡ length new = length-garbled pick 0 fresh new same in
    let front_fs : take (min at (length old)) fresh ≡ take at fs = ap (λ (k : ℕ). take (min at k) fresh) (sym h) ∙ over_before at (replicate (length bytes) true) fs in
    let back_fs : drop (at + length bytes) fresh ≡ drop (at + length bytes) fs =
    ap (λ (k : ℕ). drop (at + k) fresh) (sym n) ∙ over_after at (replicate (length bytes) true) fs ∙ ap (λ (k : ℕ). drop (at + k) fs) n in
    record {
      before = ap (λ (k : ℕ). take (min at k) (garbled pick 0 fresh new)) was ∙ take-garbled pick 0 (min at (length old)) fresh new
          ∙ ap (λ (l : List Bool). garbled pick 0 l (take (min at (length old)) new)) front_fs ∙ ap (λ (l : List ℕ). garbled pick 0 (take at fs) l) (over_before at bytes old)
          ∙ sym (take-garbled pick 0 at fs old);
      after = drop-garbled pick 0 (at + length bytes) (at + length bytes) fresh new (omega arith)
          ∙ ap (λ (l : List Bool). garbled pick (at + length bytes) l (drop (at + length bytes) new)) back_fs
          ∙ ap (λ (l : List ℕ). garbled pick (at + length bytes) (drop (at + length bytes) fs) l) (over_after at bytes old)
          ∙ sym (drop-garbled pick 0 (at + length bytes) (at + length bytes) fs old (omega arith));
      no_shorter = omega (arith, was, now, long_new);
      no_longer = omega (arith, was, now, long_new);
    }

shortened_garbled : (pick n : ℕ) (old : List ℕ) (fs : List Bool) → Shortened n (garbled pick 0 fs old) (garbled pick 0 (take n fs) (take n old))
shortened_garbled pick n old fs = subst_image (take-garbled pick 0 n fs old)
  where
    subst_image : take n (garbled pick 0 fs old) ≡ garbled pick 0 (take n fs) (take n old) → Shortened n (garbled pick 0 fs old) (garbled pick 0 (take n fs) (take n old))
    subst_image e = subst (λ (l : List ℕ). Shortened n (garbled pick 0 fs old) l) e (shortened_cut n (garbled pick 0 fs old))

-- Each picked image may be left

-- what a lane reads is one of its images
pub read_left : (start : List ℕ) (calls : List Call) → LeftAfter start calls (read_after start calls)
read_left start [] = refl
read_left start (Write at bytes ∷ calls) = (read_after start calls, read_left start calls, torn_over at bytes (read_after start calls))
read_left start (Cut n ∷ calls) = (read_after start calls, read_left start calls, shortened_cut n (read_after start calls))
read_left start (Sync ∷ calls) = refl
read_left start (FailedWrite at n ∷ calls) = (read_after start calls, read_left start calls, torn_same at n (read_after start calls))
read_left start (FailedCut n ∷ calls) = (read_after start calls, read_left start calls, shortened_same n (read_after start calls))

synced_left : (start : List ℕ) (calls : List Call) → LeftAfter start calls (synced_after start calls)
synced_left start [] = refl
synced_left start (Write at bytes ∷ calls) = (synced_after start calls, synced_left start calls, torn_same at (length bytes) (synced_after start calls))
synced_left start (Cut n ∷ calls) = (synced_after start calls, synced_left start calls, shortened_same n (synced_after start calls))
synced_left start (Sync ∷ calls) = refl
synced_left start (FailedWrite at n ∷ calls) = (synced_after start calls, synced_left start calls, torn_same at n (synced_after start calls))
synced_left start (FailedCut n ∷ calls) = (synced_after start calls, synced_left start calls, shortened_same n (synced_after start calls))

garbled_left : (pick : ℕ) (start : List ℕ) (calls : List Call) → LeftAfter start calls (garbled pick 0 (fresh_after start calls) (read_after start calls))
garbled_left pick start [] = none_garbled pick 0 (length start) start
garbled_left pick start (Write at bytes ∷ calls) =
    (garbled pick 0 (fresh_after start calls) (read_after start calls), garbled_left pick start calls, torn_garbled pick at bytes (read_after start calls) (fresh_after start calls) (marked start calls))
garbled_left pick start (Cut n ∷ calls) =
    (garbled pick 0 (fresh_after start calls) (read_after start calls), garbled_left pick start calls, shortened_garbled pick n (read_after start calls) (fresh_after start calls))
garbled_left pick start (Sync ∷ calls) = none_garbled pick 0 (length (read_after start calls)) (read_after start calls)
garbled_left pick start (FailedWrite at n ∷ calls) =
    (garbled pick 0 (fresh_after start calls) (read_after start calls), garbled_left pick start calls, torn_same at n (garbled pick 0 (fresh_after start calls) (read_after start calls)))
garbled_left pick start (FailedCut n ∷ calls) =
    (garbled pick 0 (fresh_after start calls) (read_after start calls), garbled_left pick start calls, shortened_same n (garbled pick 0 (fresh_after start calls) (read_after start calls)))

of_three : (P : List ℕ → Type 0) (zeroth first : Bool) (a b c : List ℕ) → P a → P b → P c → P (if zeroth then a else (if first then b else c))
of_three P true first a b c pa pb pc = pa
of_three P false true a b c pa pb pc = pb
of_three P false false a b c pa pb pc = pc

pub picked_left : (pick : ℕ) (start : List ℕ) (calls : List Call) → LeftAfter start calls (picked_after pick start calls)
picked_left pick start calls =
    of_three (λ (l : List ℕ). LeftAfter start calls l) (nat_eq pick 0) (nat_eq pick 1) (synced_after start calls) (read_after start calls) (garbled pick 0 (fresh_after start calls) (read_after start calls))
    (synced_left start calls) (read_left start calls) (garbled_left pick start calls)

by_stop : (l : Lane) (stop : Stop) → LeftAfter l.start l.calls (elim stop [ Stopped pick ↦ picked_after pick l.start l.calls | _ ↦ content l ])
by_stop l Unset = read_left l.start l.calls
by_stop l (After n pick) = read_left l.start l.calls
by_stop l (Stopped pick) = picked_left pick l.start l.calls

pub image_left : (l : Lane) → MayLeave l (crash_image l)
image_left l = by_stop l l.stop

-- the same for a lane that a crash left
pub crash_leaves : (l l' : Lane) → l' ≡ crashed l → MayLeave l (content l')
crash_leaves l l' is = subst (λ (x : List ℕ). MayLeave l x) (sym (ap content is)) (image_left l)

-- the same for the lane at a place

pub crash_at : (lanes lanes' : List Lane) (n m : ℕ) (l l' : Lane) → lanes' ≡ lanes → m ≡ n → m < length lanes' → l ≡ get_or lanes' m l → l' ≡ crashed l
    → MayLeave (lane_at lanes n) (content (lane_at (set lanes' m l') n))
crash_at lanes lanes' n m l l' same place within was is =
    let old : l ≡ lane_at lanes n = was ∙ get_or_default lanes' m l blank within ∙ ap (λ (ls : List Lane). get_or ls m blank) same ∙ ap (λ (k : ℕ). get_or lanes k blank) place in
    let new : lane_at (set lanes' m l') n ≡ l' = ap (λ (k : ℕ). get_or (set lanes' m l') k blank) (sym place) ∙ get_or-set_same lanes' m l' blank within in
    crash_leaves (lane_at lanes n) (lane_at (set lanes' m l') n) (new ∙ is ∙ ap crashed old)
