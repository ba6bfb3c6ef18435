-- What a lane in memory keeps of one more call.
use lib.Seq.{take-append-add, drop-append-add}
use Rattle.std.proofs.Common.{◌≡◌, ℕ, zero, suc, ◌+◌, ◌*◌, ◌-◌, ◌%◌, ◌<◌, ◌≤◌, Bool, true, false, if◌then◌else◌, List, [], ◌∷◌, ◌++◌, length, take, drop, get_or, set, refl, ap, sym, ◌∙◌, subst, arith, append_assoc, append-nil, length-drop, length-take, length-append, replicate, min}
use Rattle.std.proofs.lemmas.List.{take-append-le, take-take, take-replicate, take_at, drop_at, drop_all, drop-drop, drop-replicate, take-append-drop, drop_more, drop-set-lt, take_more_set, length-replicate, replicate-append-replicate, get_or-append_right}
use Rattle.gr_out.specs.Lane.{Lane, lane_at, blank, Call, Write, Cut, FailedWrite, FailedCut, garbled, over, read_after, synced_after, fresh_after}
use Rattle.std.proofs.lemmas.Nat.{mul-mod_second}
use Rattle.gr_out.specs.Kept.{IsKept, HasRoom, synced_of, fresh_of}
use Rattle.gr_out.specs.Past.{Past}

-- one more byte garbled
pub one_more_garbled : (pick i : ℕ) (fs : List Bool) (bs new all : List ℕ) (x : ℕ) → i < length bs → i < length fs
    → new ≡ set bs i x → x ≡ (if get_or fs i false then (i * pick) % 256 else get_or bs i 0)
    → take i bs ++ garbled pick i (drop i fs) (drop i bs) ≡ all
    → take (i + 1) new ++ garbled pick (i + 1) (drop (i + 1) fs) (drop (i + 1) new) ≡ all
one_more_garbled pick i fs bs new all x in_bytes in_marks is byte so_far =
    let next : garbled pick i (drop i fs) (drop i bs) ≡ x ∷ garbled pick (i + 1) (drop (i + 1) fs) (drop (i + 1) bs) =
    rw (drop_more fs i false in_marks, drop_more bs i 0 in_bytes, byte) refl in
    let back : drop (i + 1) (set bs i x) ≡ drop (i + 1) bs = drop-set-lt (i + 1) bs i x (omega arith) in
    ap (λ (l : List ℕ). take (i + 1) l ++ garbled pick (i + 1) (drop (i + 1) fs) (drop (i + 1) l)) is
    ∙ ap (λ (l : List ℕ). l ++ garbled pick (i + 1) (drop (i + 1) fs) (drop (i + 1) (set bs i x))) (take_more_set bs i x in_bytes)
    ∙ ap (λ (l : List ℕ). (take i bs ++ x ∷ []) ++ garbled pick (i + 1) (drop (i + 1) fs) l) back
    ∙ append_assoc (take i bs) (x ∷ []) (garbled pick (i + 1) (drop (i + 1) fs) (drop (i + 1) bs))
    ∙ ap (λ (l : List ℕ). take i bs ++ l) (sym next) ∙ so_far

-- the same where the marks of the first bytes are left out, none of which is set
pub one_more_behind : (pick n i : ℕ) (fs : List Bool) (bs new all : List ℕ) (x : ℕ) → n ≤ i → i < length bs → n + length fs ≡ length bs
    → new ≡ set bs i x → x ≡ (if get_or fs (i - n) false then (i * pick) % 256 else get_or bs i 0)
    → take i bs ++ garbled pick i (drop i (replicate n false ++ fs)) (drop i bs) ≡ all
    → take (i + 1) new ++ garbled pick (i + 1) (drop (i + 1) (replicate n false ++ fs)) (drop (i + 1) new) ≡ all
one_more_behind pick n i fs bs new all x behind in_bytes marked is byte so_far =
    let long = length-replicate n false in
    let here : get_or (replicate n false ++ fs) i false ≡ get_or fs (i - n) false = get_or-append_right (replicate n false) fs n i false long behind in
    one_more_garbled pick i (replicate n false ++ fs) bs new all x in_bytes (omega (arith, length-append (replicate n false) fs, long, marked, in_bytes)) is
    (byte ∙ ap (λ (b : Bool). if b then (i * pick) % 256 else get_or bs i 0) (sym here)) so_far

-- up to where the marks begin none is set
pub none_before : (n : ℕ) (fs : List Bool) → take n (replicate n false ++ fs) ≡ replicate n false
none_before n fs = take_at (replicate n false) fs n (length-replicate n false)

pub same_product : (pick at : ℕ) → (pick * (at % 256)) % 256 ≡ (at * pick) % 256
same_product pick at = mul-mod_second pick at 256 ∙ ap (λ (n : ℕ). n % 256) (omega arith)

-- Of two lists one behind the other, what is done to the second

over_behind : {A : Type 0} (n at : ℕ) (xs ys new : List A) → length xs ≡ n → n ≤ at → xs ++ over (at - n) new ys ≡ over at new (xs ++ ys)
over_behind n at xs ys new long h = sym (
    ap (λ (p : ℕ). over p new (xs ++ ys)) (let e : at ≡ length xs + (at - n) = omega (arith, long, h) in e)
    ∙ ap (λ l. l ++ (new ++ drop (length xs + (at - n) + length new) (xs ++ ys))) (take-append-add xs ys (at - n))
    ∙ ap (λ (p : ℕ). (xs ++ take (at - n) ys) ++ (new ++ drop p (xs ++ ys))) (let e : length xs + (at - n) + length new ≡ length xs + ((at - n) + length new) = omega arith in e)
    ∙ ap (λ l. (xs ++ take (at - n) ys) ++ (new ++ l)) (drop-append-add xs ys ((at - n) + length new))
    ∙ append_assoc xs (take (at - n) ys) (new ++ drop ((at - n) + length new) ys)
    )

take_behind : {A : Type 0} (n k : ℕ) (xs ys : List A) → length xs ≡ n → n ≤ k → xs ++ take (k - n) ys ≡ take k (xs ++ ys)
take_behind n k xs ys long h =
    sym (ap (λ (p : ℕ). take p (xs ++ ys)) (let e : k ≡ length xs + (k - n) = omega (arith, long, h) in e) ∙ take-append-add xs ys (k - n))

-- marks that begin earlier are the same, where none is set of those that are new
pub marked_before : (k n : ℕ) (fs gs : List Bool) → k ≤ n → gs ≡ replicate (n - k) false ++ fs → replicate k false ++ gs ≡ replicate n false ++ fs
marked_before k n fs gs h is =
    ap (λ (l : List Bool). replicate k false ++ l) is ∙ sym (append_assoc (replicate k false) (replicate (n - k) false) fs)
    ∙ ap (λ (l : List Bool). l ++ fs) (replicate-append-replicate k (n - k) false ∙ ap (λ (m : ℕ). replicate m false) (omega (arith, h)))

-- What is kept of some bytes alone, and what it says of all of them

pub length-over : {A : Type 0} (at : ℕ) (new old : List A) → length (over at new old) ≡ min at (length old) + (length new + (length old - (at + length new)))
length-over at new old = omega (arith, length-append (take at old) (new ++ drop (at + length new) old), length-append new (drop (at + length new) old), length-take at old, length-drop (at + length new) old)

-- up to a place before a write, a list is as before it
front_over : {A : Type 0} (k at : ℕ) (new old : List A) → k ≤ at → k ≤ length old → take k (over at new old) ≡ take k old
front_over k at new old h l =
    take-append-le k (take at old) (new ++ drop (at + length new) old) (omega (arith, h, l, length-take at old)) ∙ take-take k at old h

-- and so it is behind what was written
behind_over : {A : Type 0} (at : ℕ) (new old : List A) → at ≤ length old → drop (at + length new) (over at new old) ≡ drop (at + length new) old
behind_over at new old within =
    let long : length (take at old ++ new) ≡ at + length new = omega (arith, within, length-take at old, length-append (take at old) new) in
    ap (λ l. drop (at + length new) l) (sym (append_assoc (take at old) new (drop (at + length new) old))) ∙ drop_at (take at old ++ new) (drop (at + length new) old) (at + length new) long

pub none_apart : (n : ℕ) (b s : List ℕ) (f : List Bool) → s ≡ [] → f ≡ [] → synced_of b s f n ≡ b
none_apart n b s f none unmarked =
    ap (λ (l : List ℕ). take n b ++ (l ++ drop (n + length f) b)) none
    ∙ ap (λ (l : List Bool). take n b ++ drop (n + length l) b) unmarked
    ∙ ap (λ (k : ℕ). take n b ++ drop k b) (let e : n + 0 ≡ n = omega arith in e) ∙ take-append-drop n b

pub none_fresh : (n : ℕ) (b : List ℕ) (f : List Bool) → f ≡ [] → n ≤ length b → fresh_of b f n ≡ replicate (length b) false
none_fresh n b f unmarked within =
    ap (λ (l : List Bool). replicate n false ++ (l ++ replicate (length b - (n + length l)) false)) unmarked
    ∙ replicate-append-replicate n (length b - (n + 0)) false
    ∙ ap (λ (k : ℕ). replicate k false) (let e : n + (length b - (n + 0)) ≡ length b = omega (arith, within) in e)

-- where all up to the end is kept

synced_to_end : (n : ℕ) (b s : List ℕ) (f : List Bool) → n + length f ≡ length b → synced_of b s f n ≡ take n b ++ s
synced_to_end n b s f all =
    ap (λ (l : List ℕ). take n b ++ (s ++ l)) (drop_all (n + length f) b (omega (arith, all))) ∙ ap (λ (l : List ℕ). take n b ++ l) (append-nil s)

fresh_to_end : (n : ℕ) (b : List ℕ) (f : List Bool) → n + length f ≡ length b → fresh_of b f n ≡ replicate n false ++ f
fresh_to_end n b f all =
    ap (λ (k : ℕ). replicate n false ++ (f ++ replicate k false)) (let e : length b - (n + length f) ≡ 0 = omega (arith, all) in e)
    ∙ ap (λ (l : List Bool). replicate n false ++ l) (append-nil f)

-- What is kept of a write where nothing was changed before it

pub synced_of_first : (n at : ℕ) (old new s s' : List ℕ) (f f' : List Bool) → s ≡ [] → f ≡ [] → at ≤ length old → s' ≡ s ++ take (length new) (drop at old)
    → length f' ≡ length new → synced_of (over at new old) s' f' at ≡ synced_of old s f n
synced_of_first n at old new s s' f f' none unmarked within is long =
    let all = over at new old in
    let kept : s' ≡ take (length new) (drop at old) = is ∙ ap (λ (l : List ℕ). l ++ take (length new) (drop at old)) none in
    let rest : take (length new) (drop at old) ++ drop (at + length new) old ≡ drop at old =
    ap (λ (l : List ℕ). take (length new) (drop at old) ++ l) (sym (drop-drop (length new) at old)) ∙ take-append-drop (length new) (drop at old) in
    ap (λ (l : List ℕ). take at all ++ (l ++ drop (at + length f') all)) kept
    ∙ ap (λ (k : ℕ). take at all ++ (take (length new) (drop at old) ++ drop (at + k) all)) long
    ∙ ap (λ (l : List ℕ). take at all ++ (take (length new) (drop at old) ++ l)) (behind_over at new old within)
    ∙ ap (λ (l : List ℕ). l ++ (take (length new) (drop at old) ++ drop (at + length new) old)) (front_over at at new old (omega arith) within)
    ∙ ap (λ (l : List ℕ). take at old ++ l) rest ∙ take-append-drop at old ∙ sym (none_apart n old s f none unmarked)

pub fresh_of_first : (n at : ℕ) (old new : List ℕ) (f f' : List Bool) → f ≡ [] → n ≤ length old → at ≤ length old → f' ≡ replicate (length new) true
    → fresh_of (over at new old) f' at ≡ over at (replicate (length new) true) (fresh_of old f n)
fresh_of_first n at old new f f' unmarked behind within is =
    let marks = replicate (length new) true in
    let long : length marks ≡ length new = length-replicate (length new) true in
    let rest : length (over at new old) - (at + length marks) ≡ length old - (at + length marks) = omega (arith, length-over at new old, long, within) in
    ap (λ (l : List Bool). replicate at false ++ (l ++ replicate (length (over at new old) - (at + length l)) false)) is
    ∙ ap (λ (k : ℕ). replicate at false ++ (marks ++ replicate k false)) rest
    ∙ sym (
    ap (over at marks) (none_fresh n old f unmarked behind)
    ∙ ap (λ (l : List Bool). l ++ (marks ++ drop (at + length marks) (replicate (length old) false))) (take-replicate at (length old) false within)
    ∙ ap (λ (l : List Bool). replicate at false ++ (marks ++ l)) (drop-replicate (at + length marks) (length old) false)
    )

-- What is kept of a write where all up to the end is

pub synced_of_next : (n at : ℕ) (b s : List ℕ) (f f' : List Bool) (old new : List ℕ) → n ≤ at → at ≤ length old → n + length f ≡ length old
    → f' ≡ over (at - n) (replicate (length new) true) f → take n old ++ s ≡ b → synced_of (over at new old) s f' n ≡ b
synced_of_next n at b s f f' old new behind within all is so_far =
    let marks = replicate (length new) true in
    synced_to_end n (over at new old) s f' (omega (arith, ap length is, length-over at new old, length-over (at - n) marks f, length-replicate (length new) true, all, behind, within))
    ∙ ap (λ (l : List ℕ). l ++ s) (front_over n at new old behind (omega (arith, all))) ∙ so_far

pub fresh_of_next : (n at : ℕ) (g f f' : List Bool) (old new : List ℕ) → n ≤ at → at ≤ length old → n + length f ≡ length old
    → f' ≡ over (at - n) (replicate (length new) true) f → replicate n false ++ f ≡ g → fresh_of (over at new old) f' n ≡ over at (replicate (length new) true) g
fresh_of_next n at g f f' old new behind within all is so_far =
    let marks = replicate (length new) true in
    fresh_to_end n (over at new old) f' (omega (arith, ap length is, length-over at new old, length-over (at - n) marks f, length-replicate (length new) true, all, behind, within))
    ∙ ap (λ (l : List Bool). replicate n false ++ l) is ∙ over_behind n at (replicate n false) f marks (length-replicate n false) behind ∙ ap (over at marks) so_far

-- What is kept after one more call

pub kept_write : (st b b' l s s' bytes : List ℕ) (f f' : List Bool) (n n' : ℕ) (cs : List Call) (at : ℕ) → IsKept st b s f n cs → l ≡ b → b' ≡ over at bytes b
    → synced_of (over at bytes l) s' f' n' ≡ synced_of l s f n
    → fresh_of (over at bytes l) f' n' ≡ over at (replicate (length bytes) true) (fresh_of l f n)
    → n' + length f' ≤ length b' → IsKept st b' s' f' n' (Write at bytes ∷ cs)
kept_write st b b' l s s' bytes f f' n n' cs at h is e synced fresh within =
    let now : b' ≡ over at bytes l = e ∙ ap (over at bytes) (sym is) in
    record {
      bytes_are = e ∙ ap (over at bytes) h.bytes_are;
      synced_are = ap (λ (z : List ℕ). synced_of z s' f' n') now ∙ synced ∙ ap (λ (z : List ℕ). synced_of z s f n) is ∙ h.synced_are;
      fresh_are = ap (λ (z : List ℕ). fresh_of z f' n') now ∙ fresh
          ∙ ap (λ (z : List ℕ). over at (replicate (length bytes) true) (fresh_of z f n)) is ∙ ap (over at (replicate (length bytes) true)) h.fresh_are;
      within = within;
    }

pub kept_cut : (st b b' l s s' : List ℕ) (f f' f'' : List Bool) (n n' : ℕ) (cs : List Call) (k : ℕ) → IsKept st b s f n cs → l ≡ b → b' ≡ take k b
    → take n' l ++ s' ≡ synced_of l s f n → replicate n' false ++ f' ≡ fresh_of l f n → n' + length f' ≡ length l → n' ≤ k → f'' ≡ take (k - n') f'
    → IsKept st b' s' f'' n' (Cut k ∷ cs)
kept_cut st b b' l s s' f f' f'' n n' cs k h is e synced fresh all behind m =
    let whole : n' + length f'' ≡ length b' = omega (arith, ap length e, ap length m, ap length is, length-take k b, length-take (k - n') f', all, behind) in
    record {
      bytes_are = e ∙ ap (take k) h.bytes_are;
      synced_are = synced_to_end n' b' s' f'' whole ∙ ap (λ (z : List ℕ). take n' z ++ s') e ∙ ap (λ (z : List ℕ). z ++ s') (take-take n' k b behind)
          ∙ ap (λ (z : List ℕ). take n' z ++ s') (sym is) ∙ synced ∙ ap (λ (z : List ℕ). synced_of z s f n) is ∙ h.synced_are;
      fresh_are = fresh_to_end n' b' f'' whole ∙ ap (λ (z : List Bool). replicate n' false ++ z) m
          ∙ take_behind n' k (replicate n' false) f' (length-replicate n' false) behind ∙ ap (take k) (fresh ∙ ap (λ (z : List ℕ). fresh_of z f n) is ∙ h.fresh_are);
      within = omega (arith, whole);
    }

-- the same of another history
pub kept_as : (p q : Past) (b s : List ℕ) (f : List Bool) (n : ℕ) → p ≡ q → IsKept q.start b s f n q.calls → IsKept p.start b s f n p.calls
kept_as p q b s f n e h = subst (λ (r : Past). IsKept r.start b s f n r.calls) (sym e) h

-- a lane all of which is synced
pub all_synced : (st b s : List ℕ) (f : List Bool) (n : ℕ) (cs : List Call) → b ≡ read_after st cs → s ≡ [] → f ≡ [] → n ≤ length b
    → synced_after st cs ≡ read_after st cs → fresh_after st cs ≡ replicate (length (read_after st cs)) false → IsKept st b s f n cs
all_synced st b s f n cs is none unmarked within synced fresh = record {
  bytes_are = is;
  synced_are = none_apart n b s f none unmarked ∙ is ∙ sym synced;
  fresh_are = none_fresh n b f unmarked within ∙ ap (λ (l : List ℕ). replicate (length l) false) is ∙ sym fresh;
  within = omega (arith, ap length unmarked, within);
}

pub kept_failed_write : (st b s : List ℕ) (f : List Bool) (n : ℕ) (cs : List Call) (at k : ℕ) → IsKept st b s f n cs → IsKept st b s f n (FailedWrite at k ∷ cs)
kept_failed_write st b s f n cs at k h = record { bytes_are = h.bytes_are; synced_are = h.synced_are; fresh_are = h.fresh_are; within = h.within }

pub kept_failed_cut : (st b s : List ℕ) (f : List Bool) (n : ℕ) (cs : List Call) (k : ℕ) → IsKept st b s f n cs → IsKept st b s f n (FailedCut k ∷ cs)
kept_failed_cut st b s f n cs k h = record { bytes_are = h.bytes_are; synced_are = h.synced_are; fresh_are = h.fresh_are; within = h.within }

-- The room after a call of which the lists may have grown, but none past the extent

pub room_kept : (x r n n' : ℕ) (b b' s s' : List ℕ) (f f' : List Bool) (c1 c1' c2 c2' c3 c3' : ℕ) → HasRoom x r n b s f c1 c2 c3 → length b' ≤ x
    → n' + length s' + (length b' - (n' + length f')) ≤ x → c1 ≤ c1' → c2 ≤ c2' → c3 ≤ c3' → HasRoom x r n' b' s' f' c1' c2' c3'
room_kept x r n n' b b' s s' f f' c1 c1' c2 c2' c3 c3' h bx sx g1 g2 g3 = record {
  bytes_in = bx;
  synced_in = sx;
  room_in = h.room_in;
  bytes_fit = omega (arith, h.bytes_fit, g1);
  synced_fit = omega (arith, h.synced_fit, g2);
  fresh_fit = omega (arith, h.fresh_fit, g3);
}

pub length-synced_of : (n : ℕ) (b s : List ℕ) (f : List Bool) → n ≤ length b → length (synced_of b s f n) ≡ n + length s + (length b - (n + length f))
length-synced_of n b s f within =
    omega (arith, within, length-append (take n b) (s ++ drop (n + length f) b), length-append s (drop (n + length f) b), length-take n b, length-drop (n + length f) b)

-- what was synced is as long after a write
pub written_in : (x n n' : ℕ) (b b' l s s' : List ℕ) (f f' : List Bool) → l ≡ b → synced_of b' s' f' n' ≡ synced_of l s f n → n + length f ≤ length b → n' + length f' ≤ length b'
    → n + length s + (length b - (n + length f)) ≤ x → n' + length s' + (length b' - (n' + length f')) ≤ x
written_in x n n' b b' l s s' f f' is e within within' h =
    omega (arith, ap length is, ap length e, length-synced_of n l s f (omega (arith, ap length is, within)), length-synced_of n' b' s' f' (omega (arith, within')), h)

-- and where all up to the end is kept
pub to_end_in : (x n n' : ℕ) (b l s s' : List ℕ) (f f' : List Bool) → l ≡ b → take n' l ++ s' ≡ synced_of l s f n → n' + length f' ≡ length l → n + length f ≤ length b
    → n + length s + (length b - (n + length f)) ≤ x → n' + length s' ≤ x
to_end_in x n n' b l s s' f f' is synced all within h =
    omega (arith, ap length is, ap length synced, length-append (take n' l) s', length-take n' l, all, length-synced_of n l s f (omega (arith, ap length is, within)), h)

-- and after a cut
pub cut_in : (x n n' k : ℕ) (b b' l s s' : List ℕ) (f f' f'' : List Bool) → l ≡ b → b' ≡ take k b → take n' l ++ s' ≡ synced_of l s f n → n' + length f' ≡ length l → n' ≤ k
    → f'' ≡ take (k - n') f' → n + length f ≤ length b → n + length s + (length b - (n + length f)) ≤ x → n' + length s' + (length b' - (n' + length f'')) ≤ x
cut_in x n n' k b b' l s s' f f' f'' is e synced all behind m within h =
    let whole : n' + length f'' ≡ length b' = omega (arith, ap length e, ap length m, ap length is, length-take k b, length-take (k - n') f', all, behind) in
    omega (arith, whole, ap length is, ap length synced, length-append (take n' l) s', length-take n' l, all, length-synced_of n l s f (omega (arith, ap length is, within)), h)

-- Lanes by number

pub in_lanes : (lanes : List Lane) (n : ℕ) → 0 < (lane_at lanes n).left → n < length lanes
in_lanes [] n h = absurd (omega (arith, h))
in_lanes (l ∷ lanes) zero h = omega arith
in_lanes (l ∷ lanes) (suc n) h = let m : n < length lanes = in_lanes lanes n h in omega (arith, m)

pub reserved_in_lanes : (lanes : List Lane) (n : ℕ) → (lane_at lanes n).reserved ≡ true → n < length lanes
reserved_in_lanes [] n h = absurd (cc h)
reserved_in_lanes (l ∷ lanes) zero h = omega arith
reserved_in_lanes (l ∷ lanes) (suc n) h = let m : n < length lanes = reserved_in_lanes lanes n h in omega (arith, m)

-- one more blank lane behind changes none
pub one_more_blank : (lanes : List Lane) (n : ℕ) → lane_at (lanes ++ blank ∷ []) n ≡ lane_at lanes n
one_more_blank [] zero = refl
one_more_blank [] (suc n) = refl
one_more_blank (l ∷ lanes) zero = refl
one_more_blank (l ∷ lanes) (suc n) = one_more_blank lanes n
