-- A number is put by one copy of as many bytes as fit always, and what stands behind its digits is cut off
use Rattle.std.proofs.Common.{◌≡◌, ℕ, ◌+◌, ◌-◌, ◌<◌, List, ◌∷◌, ◌++◌, length, take, drop, ap, ◌∙◌, arith}
use Rattle.std.proofs.Math.ListN.{set}
use Rattle.std.proofs.Math.Seq.{take-append-add, take-append_seam, take-take}
use Rattle.std.proofs.lemmas.List.{drop-set}

-- the byte before stands in the room of the number, and the digits behind it
room_with : (room digits rest : List ℕ) (k before : ℕ) → k < length room → drop (k + 1) room ≡ digits ++ rest
    → drop k (set room k before) ≡ (before ∷ digits) ++ rest
room_with room digits rest k before h e = drop-set room k before h ∙ ap (λ xs. before ∷ xs) e

-- the text with a byte and a number behind it
pub put_number : (xs room digits rest : List ℕ) (k before : ℕ) → (k + 1) + length digits ≡ 24 → k < length room
    → drop (k + 1) room ≡ digits ++ rest
    → take (length xs + (24 - k)) (xs ++ take ((k + 24) - k) (drop k (set room k before))) ≡ xs ++ before ∷ digits
put_number xs room digits rest k before n h e =
    let count : 24 - k ≡ length (before ∷ digits) = omega arith in
    take-append-add xs _ (24 - k)
    ∙ ap (λ ys. xs ++ ys) (take-take (24 - k) ((k + 24) - k) _ (omega arith)
    ∙ ap (λ ys. take (24 - k) ys) (room_with room digits rest k before h e)
    ∙ ap (λ i. take i ((before ∷ digits) ++ rest)) count
    ∙ take-append_seam (before ∷ digits) rest)
