-- A lane that is closed and filled, write by write
use Rattle.std.proofs.Common.{◌≡◌, ◌⊎◌, inl, inr, ℕ, ◌+◌, List, ◌∷◌, ◌++◌, length, drop, sym, ap, ◌∙◌, subst}
use Rattle.std.specs.Prelude.{Result, Ok, Err, OnOk}
use Rattle.std.proofs.lemmas.List.{drop-drop}
use Rattle.gr_out.specs.Lane.{over, Torn}
use Rattle.gr_publog.specs.Rewrite.{IsShut, IsStamped, filled, ThreeOutcomes}

drop_six : (n : ℕ) (x : List ℕ) → drop (6 + n) x ≡ drop n (drop 6 x)
drop_six n x = sym (drop-drop n 6 x)

-- what holds of an answer that is Ok
pub on_ok : {T E P Q : Type 0} (r : Result T E) → (P → Q) → OnOk r P → OnOk r Q
on_ok (Ok x) f p = f p
on_ok (Err e) f p = p

pub filled_same : (body x y : List ℕ) → drop 6 x ≡ drop 6 y → filled body x ≡ filled body y
filled_same body x y e = ap (λ (r : List ℕ). 71 ∷ (76 ∷ (79 ∷ (71 ∷ (2 ∷ (1 ∷ (body ++ r))))))) (drop_six (length body) x ∙ (ap (drop (length body)) e ∙ sym (drop_six (length body) y)))

-- an image of the last write, of the write before, and of the closing
pub of_gate : (o : ThreeOutcomes) (body old stamped staged image : List ℕ) → IsStamped stamped → drop 6 stamped ≡ drop 6 old → staged ≡ over 6 body stamped → filled body stamped ≡ filled body old
    → Torn 5 1 staged image → IsShut image ⊎ (image ≡ filled body old)
of_gate o body old stamped staged image s d e f torn =
    elim (o.opening body stamped image s (subst (λ (x : List ℕ). Torn 5 1 x image) e torn)) [ inl h ↦ inl h | inr h ↦ inr (h ∙ f) ]
