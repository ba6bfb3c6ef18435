-- A row of words grows by one word: by the next element of a list in a loop, or by a last call.
use Rattle.std.proofs.Common.{◌≡◌, ℕ, ◌+◌, List, [], ◌∷◌, ◌++◌, map, take, Some, ap, sym, ◌∙◌, slice_get}
use Rattle.std.proofs.lemmas.List.{take_more, append_assoc, append-nil, map-append}
use Rattle.std.proofs.lemmas.Grind.{flat_map-append}
use Rattle.gr_model.specs.Text.{behind_blanks}
use Rattle.std.proofs.lemmas.Result.{on_ok_weaker}
use Rattle.std.specs.Prelude.{Result, OnOk}
use Rattle.std.proofs.lemmas.Option.{slice_get_within, get_or_from_slice_get}

-- one element more
take_one_more : {X : Type 0} (xs : List X) (i : ℕ) (x : X) → slice_get xs i ≡ Some x → take (i + 1) xs ≡ take i xs ++ x ∷ []
take_one_more xs i x at = take_more xs i x (slice_get_within xs i x at) ∙ ap (λ y. take i xs ++ y ∷ []) (get_or_from_slice_get xs i x x at)

-- a word behind words in a row
one_word_more : (words : List (List ℕ)) (w : List ℕ) → behind_blanks words ++ 32 ∷ w ≡ behind_blanks (words ++ w ∷ [])
one_word_more words w =
    ap (λ row. behind_blanks words ++ row) (sym (append-nil (32 ∷ w))) ∙ sym (flat_map-append (λ word. 32 ∷ word) words (w ∷ []))

-- the word of the next element is put behind those of the elements before
pub words_more : {X : Type 0} (f : X → List ℕ) (new mid old : List ℕ) (xs : List X) (i : ℕ) (x : X) (w : List ℕ) → new ≡ mid ++ 32 ∷ w → mid ≡ old ++ behind_blanks (map f (take i xs)) → slice_get xs i ≡ Some x → f x ≡ w → new ≡ old ++ behind_blanks (map f (take (i + 1) xs))
words_more f new mid old xs i x w pushed before at same =
    let words : map f (take i xs) ++ w ∷ [] ≡ map f (take (i + 1) xs) =
    ap (λ v. map f (take i xs) ++ v ∷ []) (sym same) ∙ sym (map-append f (take i xs) (x ∷ [])) ∙ ap (λ ys. map f ys) (sym (take_one_more xs i x at)) in
    pushed ∙ ap (λ row. row ++ 32 ∷ w) before ∙ append_assoc old (behind_blanks (map f (take i xs))) (32 ∷ w) ∙ ap (λ row. old ++ row) (one_word_more (map f (take i xs)) w) ∙ ap (λ ws. old ++ behind_blanks ws) words

-- one word more, by a last call whose result is handed on
pub last_word : {T E : Type 0} (r : Result T E) (new mid old : List ℕ) (words : List (List ℕ)) (w : List ℕ) → OnOk r (new ≡ mid ++ 32 ∷ w) → mid ≡ old ++ behind_blanks words → OnOk r (new ≡ old ++ behind_blanks (words ++ w ∷ []))
last_word r new mid old words w pushed before =
    on_ok_weaker r (λ e. e ∙ ap (λ row. row ++ 32 ∷ w) before ∙ append_assoc old (behind_blanks words) (32 ∷ w) ∙ ap (λ row. old ++ row) (one_word_more words w)) pushed
