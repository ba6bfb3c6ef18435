-- Bytes that are told piece by piece
use Rattle.std.proofs.Common.{◌≡◌, ℕ, ◌+◌, ◌-◌, ◌≤◌, List, ◌++◌, length, take, drop, Some, sym, ap, ◌∙◌, append_assoc, append-nil}
use Rattle.std.proofs.lemmas.List.{take-append-drop, take_rest, drop-drop, drop_all}
use Rattle.gr_out.specs.Bytes.{with_more}

some_same : (x y : List ℕ) → Some x ≡ Some y → x ≡ y
some_same x y h = cc

-- some of what was left is told
pub told_on : (bytes before now all : List ℕ) (at n : ℕ) → Some now ≡ with_more (Some before) (take n (take (length bytes - at) (drop at bytes)))
    → before ++ drop at bytes ≡ all → now ++ drop (at + n) bytes ≡ all
told_on bytes before now all at n told so =
    let more : now ≡ before ++ take n (drop at bytes) =
    some_same now (before ++ take n (drop at bytes)) (told ∙ ap (λ xs. Some (before ++ take n xs)) (take_rest bytes at)) in
    ap (λ xs. xs ++ drop (at + n) bytes) more
    ∙ (append_assoc before (take n (drop at bytes)) (drop (at + n) bytes)
    ∙ (ap (λ xs. before ++ xs) (ap (λ xs. take n (drop at bytes) ++ xs) (sym (drop-drop n at bytes)) ∙ take-append-drop n (drop at bytes)) ∙ so))

-- nothing is told
pub told_again : (before now all left : List ℕ) → Some now ≡ Some before → before ++ left ≡ all → now ++ left ≡ all
told_again before now all left same so = ap (λ xs. xs ++ left) (some_same now before same) ∙ so

-- nothing is left
pub told_whole : (bytes now all : List ℕ) (at : ℕ) → length bytes ≤ at → now ++ drop at bytes ≡ all → now ≡ all
told_whole bytes now all at past so = sym (append-nil now) ∙ (ap (λ xs. now ++ xs) (sym (drop_all at bytes past)) ∙ so)
