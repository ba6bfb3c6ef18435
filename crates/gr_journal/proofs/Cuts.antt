-- Where a text is cut into pieces and into words, and the walk of `split` from piece to piece
use Rattle.std.proofs.Common.{◌≡◌, ℕ, ◌+◌, ◌-◌, ◌<◌, ◌≤◌, List, [], ◌∷◌, ◌++◌, length, take, drop, map, arith, refl, ap, sym, ◌∙◌, suc, Bool, true, false, cond, append_assoc}
use Rattle.std.specs.Prelude.{not, Option}
use Rattle.std.specs.List.{position_or_len, position}
use Rattle.std.specs.Option.{unwrap_or}
use Rattle.std.proofs.Math.Seq.{take-add}
use Rattle.std.proofs.lemmas.List.{take_rest, drop-drop}
use Rattle.gr_sched.specs.Text.{pieces_of, longer, joined, line_of}
use Rattle.gr_sched.proofs.Pieces.{place_is as any_place_is, place_within as any_place_within, joined_pieces}
use Rattle.gr_journal.specs.Parts.{is_bar, before_bar, behind_bar, lines_of}
use Rattle.gr_journal.specs.Words.{is_space, words_of}

pub place_is : (p : ℕ → Bool) (xs : List ℕ) (r : Option ℕ) → r ≡ position p xs → unwrap_or r (length xs) ≡ position_or_len p xs
place_is p xs r e = any_place_is p xs r e

-- ---- the walk of `split`

at_rest : (bytes rest : List ℕ) (start end : ℕ) → rest ≡ take (length bytes - start) (drop start bytes) → pieces_of rest ≡ take end rest ∷ pieces_of (drop end rest) → pieces_of (drop start bytes) ≡ take end rest ∷ pieces_of (drop (start + end) bytes)
at_rest bytes rest start end e parts =
    let k : rest ≡ drop start bytes = e ∙ take_rest bytes start in
    ap (λ xs. pieces_of xs) (sym k) ∙ parts ∙ ap (λ xs. take end rest ∷ pieces_of xs) (ap (λ xs. drop end xs) k ∙ drop-drop end start bytes)

-- a piece that is no bar belongs to the scenario
pub front_grows : (bytes rest : List ℕ) (start end : ℕ) → rest ≡ take (length bytes - start) (drop start bytes) → pieces_of rest ≡ take end rest ∷ pieces_of (drop end rest) → is_bar (take end rest) ≡ false →
    before_bar (pieces_of bytes) ≡ take start bytes ++ before_bar (pieces_of (drop start bytes)) →
    before_bar (pieces_of bytes) ≡ take (start + end) bytes ++ before_bar (pieces_of (drop (start + end) bytes))
front_grows bytes rest start end e parts other here =
    let k : rest ≡ drop start bytes = e ∙ take_rest bytes start in
    let next : before_bar (pieces_of (drop start bytes)) ≡ take end rest ++ before_bar (pieces_of (drop (start + end) bytes)) = ap (λ ps. before_bar ps) (at_rest bytes rest start end e parts) ∙ ap (λ b. cond b [] (take end rest ++ before_bar (pieces_of (drop (start + end) bytes)))) other in
    here ∙ ap (λ xs. take start bytes ++ xs) next ∙ sym (append_assoc (take start bytes) (take end rest) _) ∙ ap (λ xs. xs ++ before_bar (pieces_of (drop (start + end) bytes))) (ap (λ xs. take start bytes ++ take end xs) k ∙ sym (take-add start end bytes))

-- and nothing of it to the journals
pub back_stays : (bytes rest : List ℕ) (start end : ℕ) → rest ≡ take (length bytes - start) (drop start bytes) → pieces_of rest ≡ take end rest ∷ pieces_of (drop end rest) → is_bar (take end rest) ≡ false →
    behind_bar (pieces_of bytes) ≡ behind_bar (pieces_of (drop start bytes)) →
    behind_bar (pieces_of bytes) ≡ behind_bar (pieces_of (drop (start + end) bytes))
back_stays bytes rest start end e parts other here =
    here ∙ ap (λ ps. behind_bar ps) (at_rest bytes rest start end e parts) ∙ ap (λ b. cond b (joined (pieces_of (drop (start + end) bytes))) (behind_bar (pieces_of (drop (start + end) bytes)))) other

-- behind a bar stand the journals
pub back_found : (bytes rest : List ℕ) (start end : ℕ) → rest ≡ take (length bytes - start) (drop start bytes) → pieces_of rest ≡ take end rest ∷ pieces_of (drop end rest) → is_bar (take end rest) ≡ true →
    behind_bar (pieces_of bytes) ≡ behind_bar (pieces_of (drop start bytes)) →
    take (length rest - end) (drop end rest) ≡ behind_bar (pieces_of bytes)
back_found bytes rest start end e parts one here =
    let k : rest ≡ drop start bytes = e ∙ take_rest bytes start in
    let there : behind_bar (pieces_of bytes) ≡ joined (pieces_of (drop (start + end) bytes)) = here ∙ ap (λ ps. behind_bar ps) (at_rest bytes rest start end e parts) ∙ ap (λ b. cond b (joined (pieces_of (drop (start + end) bytes))) (behind_bar (pieces_of (drop (start + end) bytes)))) one in
    take_rest rest end ∙ ap (λ xs. drop end xs) k ∙ drop-drop end start bytes ∙ sym (there ∙ joined_pieces (drop (start + end) bytes))

-- ---- the first line

pub line_first : (text line rest : List ℕ) (end : ℕ) → pieces_of text ≡ take end text ∷ pieces_of (drop end text) → line ≡ line_of (take end text) → rest ≡ take (length text - end) (drop end text)
    → lines_of text ≡ line ∷ lines_of rest
line_first text line rest end cut is e =
    ap (map line_of) cut ∙ (ap (λ z. z ∷ lines_of (drop end text)) (sym is) ∙ ap (λ z. line ∷ lines_of z) (sym (e ∙ take_rest text end)))

-- ---- words

-- a text with a space is cut there
word_at : (text : List ℕ) → position_or_len is_space text < length text → words_of text ≡ take (position_or_len is_space text) text ∷ words_of (drop (suc (position_or_len is_space text)) text)
word_at [] h = absurd (omega arith)
word_at (b ∷ bs) h = step (is_space b) (position_or_len is_space bs) (word_at bs) h
  where
    step : (v : Bool) (place : ℕ) → (place < length bs → words_of bs ≡ take place bs ∷ words_of (drop (suc place) bs)) → cond (not v) (1 + place) 0 < length (b ∷ bs)
        → cond v ([] ∷ words_of bs) (longer b (words_of bs)) ≡ take (cond (not v) (1 + place) 0) (b ∷ bs) ∷ words_of (drop (cond (not v) (1 + place) 0) bs)
    step true place rest h = refl
    step false place rest h =
        let k : 1 + place ≡ suc place = omega arith in
        let here : place < length bs = omega (arith, h) in
        rw k (ap (λ ws. longer b ws) (rest here))

-- a text without a space is one word
word_whole : (text : List ℕ) → position_or_len is_space text ≡ length text → words_of text ≡ text ∷ []
word_whole [] e = refl
word_whole (b ∷ bs) e = step (is_space b) (position_or_len is_space bs) (word_whole bs) e
  where
    step : (v : Bool) (place : ℕ) → (place ≡ length bs → words_of bs ≡ bs ∷ []) → cond (not v) (1 + place) 0 ≡ length (b ∷ bs)
        → cond v ([] ∷ words_of bs) (longer b (words_of bs)) ≡ (b ∷ bs) ∷ []
    step true place rest e = absurd (omega (arith, e))
    step false place rest e = ap (λ ws. longer b ws) (rest (omega (arith, e)))

pub word_cut : (text word rest : List ℕ) (n : ℕ) → n ≡ position_or_len is_space text → n < length text → word ≡ take n text → rest ≡ take (length text - (n + 1)) (drop (n + 1) text)
    → words_of text ≡ word ∷ words_of rest
word_cut text word rest n e h is behind =
    let s : suc n ≡ n + 1 = omega arith in
    let here : position_or_len is_space text < length text = omega (arith, e, h) in
    word_at text here
    ∙ (ap (λ k. take k text ∷ words_of (drop (suc k) text)) (sym e)
    ∙ (ap (λ z. z ∷ words_of (drop (suc n) text)) (sym is)
    ∙ ap (λ z. word ∷ words_of z) (ap (λ k. drop k text) s ∙ sym (behind ∙ take_rest text (n + 1)))))

pub word_only : (text : List ℕ) (n : ℕ) → n ≡ position_or_len is_space text → length text ≤ n → words_of text ≡ text ∷ []
word_only text n e h = word_whole text (omega (arith, e, h, any_place_within is_space text))
