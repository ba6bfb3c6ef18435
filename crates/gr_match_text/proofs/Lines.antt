-- The lines of events, cut at one of them; and how many lines a text has
use Rattle.std.proofs.Common.{◌≡◌, ℕ, ◌+◌, ◌<◌, ◌≤◌, Bool, true, false, cond, List, [], ◌∷◌, ◌++◌, take, drop, get_or, length, sym, ap, ◌∙◌, arith}
use Rattle.std.specs.Prelude.{◌==◌}
use Rattle.std.proofs.lemmas.List.{append-nil, take_more, take-append-drop}
use Rattle.std.proofs.lemmas.Grind.{flat_map-append}
use Rattle.gr_event.specs.declared.event.Event.{Event}
use Rattle.gr_sched.specs.Text.{pieces_of, longer}
use Rattle.gr_match_text.specs.Matching.{NamedFilter, matched_line, matched_text}

-- one line more
pub text_more : (filters : List NamedFilter) (events : List Event) (i : ℕ) (e : Event) → i < length events → e ≡ get_or events i e → matched_text filters (take (i + 1) events) ≡ matched_text filters (take i events) ++ matched_line filters e
text_more filters events i e h is =
    ap (matched_text filters) (take_more events i e h)
    ∙ flat_map-append (matched_line filters) (take i events) (get_or events i e ∷ [])
    ∙ ap (λ x. matched_text filters (take i events) ++ (matched_line filters x ++ [])) (sym is)
    ∙ ap (λ xs. matched_text filters (take i events) ++ xs) (append-nil (matched_line filters e))

-- the lines before one, it, and those after it
pub text_cut : (filters : List NamedFilter) (events : List Event) (i : ℕ) (e : Event) → i < length events → e ≡ get_or events i e → matched_text filters events ≡ (matched_text filters (take i events) ++ matched_line filters e) ++ matched_text filters (drop (i + 1) events)
text_cut filters events i e h is =
    ap (matched_text filters) (sym (take-append-drop (i + 1) events))
    ∙ flat_map-append (matched_line filters) (take (i + 1) events) (drop (i + 1) events)
    ∙ ap (λ xs. xs ++ matched_text filters (drop (i + 1) events)) (text_more filters events i e h is)

-- a text has no more lines than bytes
pub few_pieces : (text : List ℕ) → length (pieces_of text) ≤ length text
few_pieces [] = omega arith
few_pieces (b ∷ bs) = step (b == 10) (pieces_of bs) (few_pieces bs)
  where
    step : (v : Bool) (pieces : List (List ℕ)) → length pieces ≤ length bs → length (cond v ((b ∷ []) ∷ pieces) (longer b pieces)) ≤ length (b ∷ bs)
    step true pieces h = omega (arith, h)
    step false [] h = omega arith
    step false (piece ∷ pieces) h = omega (arith, h)
