-- The lines of filters, cut at one of them
use Rattle.std.proofs.Common.{◌≡◌, inl, inr, ℕ, zero, suc, ◌+◌, ◌≤◌, List, [], ◌∷◌, ◌++◌, Some, get_or, sym, ap, ap₂, ◌∙◌, arith, append-nil, append_assoc}
use Rattle.std.specs.Prelude.{if◌then◌else◌, codes}
use Rattle.std.specs.List.{slice_get}
use Rattle.std.proofs.lemmas.Bool.{cases_eq, eq-eqb, ne_eqb}
use Rattle.gr_filter.specs.Tree.{Tree}
use Rattle.gr_match_text.specs.Matching.{NamedFilter, filter_names, filter_trees}
use Rattle.gr_cover_text.specs.Covers.{cover_line, line_of_both, pair_line, text_below}

-- what is left of a text behind that of the first numbers
pub record Left (text : ℕ → List ℕ) (n m : ℕ) : Type 0 where
  pub rest : List ℕ
  pub whole : text_below text m ≡ text_below text n ++ rest

none_left : (text : ℕ → List ℕ) (n m : ℕ) → n ≡ m → Left text n m
none_left text n m same = record { rest = []; whole = ap (text_below text) (sym same) ∙ sym (append-nil (text_below text n)) }

pub left_of : (text : ℕ → List ℕ) (n m : ℕ) → n ≤ m → Left text n m
left_of text n zero h = none_left text n zero (omega (arith, h))
left_of text n (suc m) h = elim (cases_eq n (suc m)) [
  | inl same ↦ none_left text n (suc m) same
  | inr other ↦ let k = left_of text n m (omega (arith, h, other)) in record {
    rest = k.rest ++ text m;
    whole = ap (λ xs. xs ++ text m) k.whole ∙ append_assoc (text_below text n) k.rest (text m);
  }
]

-- the text of one number more
pub text_more : (text : ℕ → List ℕ) (n : ℕ) → text_below text (n + 1) ≡ text_below text n ++ text n
text_more text n = let next : n + 1 ≡ suc n = omega arith in ap (text_below text) next

-- what is held, the lines so far, the next ones and the rest
pub joined_left : (text : ℕ → List ℕ) (held : List ℕ) (n m : ℕ) (k : Left text (suc n) m) → ((held ++ text_below text n) ++ text n) ++ k.rest ≡ held ++ text_below text m
joined_left text held n m k =
    ap (λ xs. xs ++ k.rest) (append_assoc held (text_below text n) (text n))
    ∙ append_assoc held (text_below text n ++ text n) k.rest
    ∙ ap (λ xs. held ++ xs) (sym k.whole)

-- the filter at a place, by its name and its tree
named : (fs : List NamedFilter) (i : ℕ) (t : Tree) → slice_get (filter_trees fs) i ≡ Some t → slice_get fs i ≡ Some (get_or (filter_names fs) i [], t)
named [] i t h = absurd (cc)
named (f ∷ fs) zero t h = let same : f.1 ≡ t = cc in ap (λ x. Some (f.0, x)) same
named (f ∷ fs) (suc i) t h = named fs i t h

-- the line of the filters at one place
pub no_line : (fs : List NamedFilter) (i j : ℕ) (held : List ℕ) → i ≡ j → held ≡ held ++ pair_line fs i j
unfolding pair_line
no_line fs i j held same =
    sym (ap (λ c. held ++ (if c then [] else line_of_both (slice_get fs i) (slice_get fs j))) (eq-eqb i j same) ∙ append-nil held)

-- and at two
pub line_is : (fs : List NamedFilter) (i j : ℕ) (t u : Tree) → (i ≡ j → ⊥) → slice_get (filter_trees fs) i ≡ Some t → slice_get (filter_trees fs) j ≡ Some u
    → pair_line fs i j ≡ cover_line (get_or (filter_names fs) i [], t) (get_or (filter_names fs) j [], u)
unfolding pair_line
line_is fs i j t u other at_i at_j =
    ap (λ c. if c then [] else line_of_both (slice_get fs i) (slice_get fs j)) (ne_eqb i j other)
    ∙ ap₂ line_of_both (named fs i t at_i) (named fs j u at_j)

-- the parts of a line, put one by one
pub line_put : (held a b v end : List ℕ) → ((((((held ++ a) ++ codes " covers ") ++ b) ++ codes " ") ++ v) ++ end) ≡ held ++ (a ++ (codes " covers " ++ (b ++ (codes " " ++ (v ++ end)))))
line_put held a b v end =
    append_assoc ((((held ++ a) ++ codes " covers ") ++ b) ++ codes " ") v end
    ∙ append_assoc (((held ++ a) ++ codes " covers ") ++ b) (codes " ") (v ++ end)
    ∙ append_assoc ((held ++ a) ++ codes " covers ") b (codes " " ++ (v ++ end))
    ∙ append_assoc (held ++ a) (codes " covers ") (b ++ (codes " " ++ (v ++ end)))
    ∙ append_assoc held a (codes " covers " ++ (b ++ (codes " " ++ (v ++ end))))

-- a line is held where its parts were put one behind the other
pub line_held : (held h1 h2 h3 h4 h5 h6 a b v : List ℕ) → h1 ≡ held ++ a → h2 ≡ h1 ++ codes " covers " → h3 ≡ h2 ++ b → h4 ≡ h3 ++ codes " " → h5 ≡ h4 ++ v → h6 ≡ h5 ++ codes "\n"
    → h6 ≡ held ++ (a ++ (codes " covers " ++ (b ++ (codes " " ++ (v ++ codes "\n")))))
line_held held h1 h2 h3 h4 h5 h6 a b v e1 e2 e3 e4 e5 e6 =
    e6 ∙ ap (λ x. x ++ codes "\n") (e5 ∙ ap (λ x. x ++ v) (e4 ∙ ap (λ x. x ++ codes " ") (e3 ∙ ap (λ x. x ++ b) (e2 ∙ ap (λ x. x ++ codes " covers ") e1))))
    ∙ line_put held a b v (codes "\n")
