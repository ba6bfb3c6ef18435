-- The end of a text without its spaces and tabs
use Rattle.std.proofs.Common.{◌≡◌, ℕ, ◌+◌, ◌-◌, ◌<◌, ◌≤◌, List, [], ◌∷◌, length, take, drop, reverse, get_or, arith, refl, ap, sym, ◌∙◌, suc, Bool, true, false, cond}
use Rattle.std.specs.Prelude.{not}
use Rattle.std.specs.List.{position_or_len}
use Rattle.std.proofs.lemmas.List.{take_more, reverse-append, reverse-reverse}
use Rattle.gr_sched.specs.Text.{is_gap, without_gaps}
use Rattle.gr_sched.specs.Words.{trimmed_end}

-- the last byte of a text comes first from its end
last_first : (text : List ℕ) (n : ℕ) → n < length text → reverse (take (n + 1) text) ≡ get_or text n 0 ∷ reverse (take n text)
last_first text n h = ap reverse (take_more text n 0 h) ∙ reverse-append (take n text) (get_or text n 0 ∷ [])

-- a space or a tab at the end is left off
pub gap_off : (text : List ℕ) (n : ℕ) → n < length text → is_gap (get_or text n 0) ≡ true → trimmed_end (take (n + 1) text) ≡ trimmed_end (take n text)
gap_off text n h e = ap (λ xs. reverse (without_gaps xs)) (last_first text n h) ∙ ap reverse (step (is_gap (get_or text n 0)) e)
  where
    step : (v : Bool) → v ≡ true → drop (cond (not (not v)) (1 + position_or_len (λ b. not (is_gap b)) (reverse (take n text))) 0) (get_or text n 0 ∷ reverse (take n text)) ≡ without_gaps (reverse (take n text))
    step true e = let k : 1 + position_or_len (λ b. not (is_gap b)) (reverse (take n text)) ≡ suc (position_or_len (λ b. not (is_gap b)) (reverse (take n text))) = omega arith in rw k refl
    step false e = absurd (cc)

-- any other byte stays
pub word_stays : (text : List ℕ) (n : ℕ) → n < length text → is_gap (get_or text n 0) ≡ false → trimmed_end (take (n + 1) text) ≡ take (n + 1) text
word_stays text n h e = ap (λ xs. reverse (without_gaps xs)) (last_first text n h) ∙ ap reverse (step (is_gap (get_or text n 0)) e) ∙ ap reverse (sym (last_first text n h)) ∙ reverse-reverse (take (n + 1) text)
  where
    step : (v : Bool) → v ≡ false → drop (cond (not (not v)) (1 + position_or_len (λ b. not (is_gap b)) (reverse (take n text))) 0) (get_or text n 0 ∷ reverse (take n text)) ≡ get_or text n 0 ∷ reverse (take n text)
    step true e = absurd (cc)
    step false e = refl

pub end_falls : (text : List ℕ) (n : ℕ) → 0 < n → n ≤ length text → is_gap (get_or text (n - 1) 0) ≡ true → trimmed_end (take n text) ≡ trimmed_end (take (n - 1) text)
end_falls text n some within e =
    let k : n ≡ n - 1 + 1 = omega arith in
    ap (λ m. trimmed_end (take m text)) k ∙ gap_off text (n - 1) (omega arith) e

pub end_stays : (text : List ℕ) (n : ℕ) → 0 < n → n ≤ length text → is_gap (get_or text (n - 1) 0) ≡ false → trimmed_end (take n text) ≡ take n text
end_stays text n some within e =
    let k : n ≡ n - 1 + 1 = omega arith in
    ap (λ m. trimmed_end (take m text)) k ∙ word_stays text (n - 1) (omega arith) e ∙ ap (λ m. take m text) (sym k)
