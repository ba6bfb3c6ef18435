-- Where a text is cut into pieces: behind its first LF, or nowhere
use Rattle.std.proofs.Common.{◌≡◌, ℕ, ◌+◌, ◌-◌, ◌<◌, ◌≤◌, List, [], ◌∷◌, ◌++◌, length, take, drop, arith, refl, ap, sym, ◌∙◌, suc, Bool, true, false, cond, append_assoc}
use Rattle.std.specs.Prelude.{◌==◌, not, Option, Some, None, nat_lt}
use Rattle.std.specs.List.{position_or_len, position}
use Rattle.std.specs.Option.{unwrap_or}
use Rattle.std.proofs.lemmas.List.Sums.{prefix_len-le-length}
use Rattle.std.proofs.Math.Seq.{take-length, drop-length, take-add}
use Rattle.std.proofs.lemmas.List.{take_rest, drop-drop}
use Rattle.std.proofs.lemmas.Bool.Decides.{nat_tests}
use Rattle.gr_sched.specs.Text.{pieces_of, longer, joined, before_separator, after_separator, is_separator}

-- the first place that passes, or the length where there is none
pub place_is : (p : ℕ → Bool) (xs : List ℕ) (r : Option ℕ) → r ≡ position p xs → unwrap_or r (length xs) ≡ position_or_len p xs
place_is p xs r e = rw e (test (nat_lt (position_or_len p xs) (length xs)) refl)
  where
    test : (b : Bool) → b ≡ nat_lt (position_or_len p xs) (length xs) → unwrap_or (cond b (Some (position_or_len p xs)) None) (length xs) ≡ position_or_len p xs
    test true k = refl
    test false k = least (position_or_len p xs) (length xs) k (prefix_len-le-length (λ x. not (p x)) xs)
      where
        least : (n m : ℕ) → false ≡ nat_lt n m → n ≤ m → m ≡ n
        least n m k h = grind (arith, nat_tests)

pub place_within : (p : ℕ → Bool) (xs : List ℕ) → position_or_len p xs ≤ length xs
place_within p xs = prefix_len-le-length (λ x. not (p x)) xs

-- a text with an LF is cut behind the first
pub cut : (text : List ℕ) → position_or_len (λ b. b == 10) text < length text → pieces_of text ≡ take (suc (position_or_len (λ b. b == 10) text)) text ∷ pieces_of (drop (suc (position_or_len (λ b. b == 10) text)) text)
cut [] h = absurd (omega arith)
cut (b ∷ bs) h = step (b == 10) (position_or_len (λ b. b == 10) bs) (cut bs) h
  where
    step : (v : Bool) (place : ℕ) → (place < length bs → pieces_of bs ≡ take (suc place) bs ∷ pieces_of (drop (suc place) bs)) → cond (not v) (1 + place) 0 < length (b ∷ bs) → cond v ((b ∷ []) ∷ pieces_of bs) (longer b (pieces_of bs)) ≡ (b ∷ take (cond (not v) (1 + place) 0) bs) ∷ pieces_of (drop (cond (not v) (1 + place) 0) bs)
    step true place rest h = refl
    step false place rest h =
        let k : 1 + place ≡ suc place = omega arith in
        let here : place < length bs = omega (arith, h) in
        rw k (ap (λ ps. longer b ps) (rest here))

-- a text without LF is one piece
pub whole : (b : ℕ) (bs : List ℕ) → position_or_len (λ b. b == 10) (b ∷ bs) ≡ length (b ∷ bs) → pieces_of (b ∷ bs) ≡ (b ∷ bs) ∷ []
whole b [] e = step (b == 10) e
  where
    step : (v : Bool) → cond (not v) (1 + 0) 0 ≡ 1 → cond v ((b ∷ []) ∷ []) ((b ∷ []) ∷ []) ≡ (b ∷ []) ∷ []
    step true e = refl
    step false e = refl
whole b (c ∷ cs) e = step (b == 10) (position_or_len (λ b. b == 10) (c ∷ cs)) (whole c cs) e
  where
    step : (v : Bool) (place : ℕ) → (place ≡ length (c ∷ cs) → pieces_of (c ∷ cs) ≡ (c ∷ cs) ∷ []) → cond (not v) (1 + place) 0 ≡ length (b ∷ c ∷ cs) → cond v ((b ∷ []) ∷ pieces_of (c ∷ cs)) (longer b (pieces_of (c ∷ cs))) ≡ (b ∷ c ∷ cs) ∷ []
    step true place rest e = absurd (omega (arith, e))
    step false place rest e = ap (λ ps. longer b ps) (rest (omega (arith, e)))

pub piece_cut : (text : List ℕ) (n m : ℕ) → n ≡ position_or_len (λ b. b == 10) text → n < length text → m ≡ n + 1 → pieces_of text ≡ take m text ∷ pieces_of (drop m text)
piece_cut text n m e h k =
    let s : m ≡ suc n = omega (arith, k) in
    rw (s, e) (cut text (rw e at h))

pub piece_whole : (text : List ℕ) (n : ℕ) → 0 < length text → n ≡ position_or_len (λ b. b == 10) text → length text ≤ n → pieces_of text ≡ take n text ∷ pieces_of (drop n text)
piece_whole [] n some e h = absurd (omega arith)
piece_whole (b ∷ bs) n some e h =
    let k : n ≡ length (b ∷ bs) = omega (arith, e, place_within (λ b. b == 10) (b ∷ bs)) in
    rw (k, take-length, drop-length) (whole b bs (sym e ∙ k))

-- the pieces are the text
pub joined_pieces : (text : List ℕ) → joined (pieces_of text) ≡ text
joined_pieces [] = refl
joined_pieces (b ∷ bs) = step (b == 10) (pieces_of bs) (joined_pieces bs)
  where
    step : (v : Bool) (pieces : List (List ℕ)) → joined pieces ≡ bs → joined (cond v ((b ∷ []) ∷ pieces) (longer b pieces)) ≡ b ∷ bs
    step true pieces e = ap (λ xs. b ∷ xs) e
    step false [] e = ap (λ xs. b ∷ xs) e
    step false (piece ∷ pieces) e = ap (λ xs. b ∷ xs) e

-- ---- the walk of `split` from piece to piece

at_rest : (bytes rest : List ℕ) (start end : ℕ) → rest ≡ take (length bytes - start) (drop start bytes) → pieces_of rest ≡ take end rest ∷ pieces_of (drop end rest) → pieces_of (drop start bytes) ≡ take end rest ∷ pieces_of (drop (start + end) bytes)
at_rest bytes rest start end e parts =
    let k : rest ≡ drop start bytes = e ∙ take_rest bytes start in
    ap (λ xs. pieces_of xs) (sym k) ∙ parts ∙ ap (λ xs. take end rest ∷ pieces_of xs) (ap (λ xs. drop end xs) k ∙ drop-drop end start bytes)

-- a piece that is no separator belongs to the front
pub front_grows : (bytes rest : List ℕ) (start end : ℕ) → rest ≡ take (length bytes - start) (drop start bytes) → pieces_of rest ≡ take end rest ∷ pieces_of (drop end rest) → is_separator (take end rest) ≡ false →
    before_separator (pieces_of bytes) ≡ take start bytes ++ before_separator (pieces_of (drop start bytes)) →
    before_separator (pieces_of bytes) ≡ take (start + end) bytes ++ before_separator (pieces_of (drop (start + end) bytes))
front_grows bytes rest start end e parts other here =
    let k : rest ≡ drop start bytes = e ∙ take_rest bytes start in
    let next : before_separator (pieces_of (drop start bytes)) ≡ take end rest ++ before_separator (pieces_of (drop (start + end) bytes)) = ap (λ ps. before_separator ps) (at_rest bytes rest start end e parts) ∙ ap (λ b. cond b [] (take end rest ++ before_separator (pieces_of (drop (start + end) bytes)))) other in
    here ∙ ap (λ xs. take start bytes ++ xs) next ∙ sym (append_assoc (take start bytes) (take end rest) _) ∙ ap (λ xs. xs ++ before_separator (pieces_of (drop (start + end) bytes))) (ap (λ xs. take start bytes ++ take end xs) k ∙ sym (take-add start end bytes))

-- and nothing of it to the back
pub back_stays : (bytes rest : List ℕ) (start end : ℕ) → rest ≡ take (length bytes - start) (drop start bytes) → pieces_of rest ≡ take end rest ∷ pieces_of (drop end rest) → is_separator (take end rest) ≡ false →
    after_separator (pieces_of bytes) ≡ after_separator (pieces_of (drop start bytes)) →
    after_separator (pieces_of bytes) ≡ after_separator (pieces_of (drop (start + end) bytes))
back_stays bytes rest start end e parts other here =
    here ∙ ap (λ ps. after_separator ps) (at_rest bytes rest start end e parts) ∙ ap (λ b. cond b (joined (pieces_of (drop (start + end) bytes))) (after_separator (pieces_of (drop (start + end) bytes)))) other

-- behind a separator stands the back
pub back_found : (bytes rest : List ℕ) (start end : ℕ) → rest ≡ take (length bytes - start) (drop start bytes) → pieces_of rest ≡ take end rest ∷ pieces_of (drop end rest) → is_separator (take end rest) ≡ true →
    after_separator (pieces_of bytes) ≡ after_separator (pieces_of (drop start bytes)) →
    take (length rest - end) (drop end rest) ≡ after_separator (pieces_of bytes)
back_found bytes rest start end e parts one here =
    let k : rest ≡ drop start bytes = e ∙ take_rest bytes start in
    let there : after_separator (pieces_of bytes) ≡ joined (pieces_of (drop (start + end) bytes)) = here ∙ ap (λ ps. after_separator ps) (at_rest bytes rest start end e parts) ∙ ap (λ b. cond b (joined (pieces_of (drop (start + end) bytes))) (after_separator (pieces_of (drop (start + end) bytes)))) one in
    take_rest rest end ∙ ap (λ xs. drop end xs) k ∙ drop-drop end start bytes ∙ sym (there ∙ joined_pieces (drop (start + end) bytes))
