-- Bytes that move to and from a file in pieces: a piece behind a piece is one piece, since each begins where the last one ends.
use Rattle.std.proofs.Common.{◌≡◌, ℕ, ◌+◌, ◌-◌, ◌≤◌, List, [], ◌++◌, length, take, drop, refl, ap, sym, ◌∙◌, arith, rules, length-take, length-append, length-drop}
use Rattle.std.specs.Prelude.{Result, Ok, Err, OnErr}
use Rattle.std.proofs.Math.Seq.{take-add, take-append-add}
use Rattle.std.proofs.lemmas.List.{take-append-drop, take-take, take_rest, drop-drop, places, same_lists}
use Rattle.std.proofs.lemmas.Slice.{take-put_mid}
use borrow.Rule.Slice.PartMut.{put_mid}
use Rattle.gr_out.specs.Lane.{over}
use Rattle.gr_sock.specs.Folder.{FileView, with_bytes, HasFront}

-- no bytes over a list leave it
pub over_nothing : (at : ℕ) (old : List ℕ) → over at [] old ≡ old
over_nothing at old = ap (λ (k : ℕ). take at old ++ drop k old) (omega arith) ∙ take-append-drop at old

-- a piece over a list, and the next piece behind it
pub over_more : (at k n : ℕ) (bytes old : List ℕ) → at ≤ length old → k + n ≤ length bytes
    → over (at + k) (take n (drop k bytes)) (over at (take k bytes) old) ≡ over at (take (k + n) bytes) old
over_more at k n bytes old h l = same_lists _ _ (search (rules, places)) (λ i d j. grind (arith, places))

-- how long a list is after others were put over it from within it
length-over : (at : ℕ) (new old : List ℕ) → at ≤ length old → at + length new ≤ length (over at new old)
length-over at new old h =
    omega (arith, length-append (take at old) (new ++ drop (at + length new) old), length-append new (drop (at + length new) old), length-take at old)

-- a piece that was written behind others: what the file holds
pub write_more : (at k n : ℕ) (bytes : List ℕ) (old mid new : FileView) → at ≤ length old.bytes → k ≤ length bytes → n ≤ length (take (length bytes - k) (drop k bytes))
    → mid.bytes ≡ over at (take k bytes) old.bytes
    → (at + k ≤ length mid.bytes → new ≡ with_bytes (over (at + k) (take n (take (length bytes - k) (drop k bytes))) mid.bytes) mid)
    → new.bytes ≡ over at (take (k + n) bytes) old.bytes
write_more at k n bytes old mid new h l m is more =
    let few : n ≤ length (drop k bytes) = rw (take_rest bytes k) at m in
    let all : k + n ≤ length bytes = omega (arith, few, length-drop k bytes) in
    let there : at + k ≤ length mid.bytes = omega (arith, ap length is, length-over at (take k bytes) old.bytes h, length-take k bytes) in
    let e : new ≡ with_bytes (over (at + k) (take n (take (length bytes - k) (drop k bytes))) mid.bytes) mid = more there in
    ap (λ (f : FileView). f.bytes) e
    ∙ ap (λ (xs : List ℕ). over (at + k) (take n xs) mid.bytes) (take_rest bytes k)
    ∙ ap (over (at + k) (take n (drop k bytes))) is ∙ over_more at k n bytes old.bytes h all

-- a piece that was read behind others: what the front holds
pub read_more : (at k n : ℕ) (into piece bytes : List ℕ) → k ≤ length into → length piece ≡ length into - k → n ≤ length piece
    → take k into ≡ take k (drop at bytes) → take n piece ≡ take n (drop (at + k) bytes)
    → take (k + n) (put_mid k (length into - k) into piece) ≡ take (k + n) (drop at bytes)
read_more at k n into piece bytes h l m front next =
    let all : List ℕ = put_mid k (length into - k) into piece in
    let short : k + n ≤ k + length piece = omega arith in
    let long : length (take k into) ≡ k = omega (arith, length-take k into) in
    sym (take-take (k + n) (k + length piece) all short)
    ∙ ap (take (k + n)) (take-put_mid k (length into - k) into piece (k + length piece) refl h)
    ∙ ap (λ (j : ℕ). take (j + n) (take k into ++ piece)) (sym long)
    ∙ take-append-add (take k into) piece n
    ∙ ap (λ (xs : List ℕ). xs ++ take n piece) front
    ∙ ap (λ (xs : List ℕ). take k (drop at bytes) ++ xs) (next ∙ ap (take n) (sym (drop-drop k at bytes)))
    ∙ sym (take-add k n (drop at bytes))

-- of no bytes at all a front stands there
pub no_front : (at : ℕ) (bytes old new : List ℕ) → new ≡ old → HasFront at bytes old new
no_front at bytes old new e = record { count = 0; within = omega arith; are = e ∙ sym (over_nothing at old) }

-- what holds anyway holds of an error
pub on_err : {T E : Type 0} (r : Result T E) (P : Type 0) → P → OnErr r P
on_err (Ok x) P p = tt
on_err (Err e) P p = p
