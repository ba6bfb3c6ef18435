-- Bytes that move in pieces.
use Rattle.std.proofs.Common.{◌≡◌, ℕ, ◌+◌, ◌-◌, List, ◌++◌, length, take, drop, Option, None, Some, refl, ap, sym, ◌∙◌, subst, append_assoc}
use Rattle.std.proofs.Math.Seq.{take-add, take-append_seam}
use Rattle.std.proofs.lemmas.List.{take-append-drop, take_rest, drop-drop}
use Rattle.gr_out.specs.Bytes.{before_rest, with_more}

-- a piece and the piece after it are one piece
more_again : (taken : Option (List ℕ)) (at n : ℕ) (bytes : List ℕ) → with_more (with_more taken (take at bytes)) (take n (drop at bytes)) ≡ with_more taken (take (at + n) bytes)
more_again None at n bytes = refl
more_again (Some xs) at n bytes = ap Some (append_assoc xs (take at bytes) (take n (drop at bytes)) ∙ ap (λ ys. xs ++ ys) (sym (take-add at n bytes)))

-- the same, of a sink's states before, between and after
pub one_more_piece : (new mid old : Option (List ℕ)) (at n : ℕ) (bytes : List ℕ) → new ≡ with_more mid (take n (take (length bytes - at) (drop at bytes))) → mid ≡ with_more old (take at bytes) → new ≡ with_more old (take (at + n) bytes)
one_more_piece new mid old at n bytes e f = e ∙ ap (λ xs. with_more mid (take n xs)) (take_rest bytes at) ∙ ap (λ o. with_more o (take n (drop at bytes))) f ∙ more_again old at n bytes

-- what was copied to the front of a piece, and what is left after it
pub copied_front : (xs into new : List ℕ) (at n : ℕ) → new ≡ take n (drop at xs) → length new ≡ n → drop at xs ≡ take n (new ++ drop n into) ++ drop (at + n) xs
copied_front xs into new at n e h =
    let front : take n (new ++ drop n into) ≡ new = subst (λ k. take k (new ++ drop k into) ≡ new) h (take-append_seam new (drop (length new) into)) in
    sym (ap (λ ys. ys ++ drop (at + n) xs) (front ∙ e) ∙ ap (λ ys. take n (drop at xs) ++ ys) (sym (drop-drop n at xs)) ∙ take-append-drop n (drop at xs))

-- what was read in one piece and another is what was read in both
pub rest_again : (first second : List ℕ) (rest : Option (List ℕ)) → before_rest first (before_rest second rest) ≡ before_rest (first ++ second) rest
rest_again first second None = refl
rest_again first second (Some xs) = ap Some (sym (append_assoc first second xs))
