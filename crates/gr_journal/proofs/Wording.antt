-- A text has a word at least, and what a process takes of few bytes are all of them
use Rattle.std.proofs.Common.{◌≡◌, ℕ, zero, suc, ◌≤◌, Bool, true, false, cond, List, [], ◌∷◌, length, take, Option, Some, None, option_map, refl, sym, ap, ◌∙◌, subst, arith}
use Rattle.gr_sched.specs.Text.{longer}
use Rattle.gr_topo.specs.Topology.{TopologyView}
use Rattle.gr_journal.specs.declared.form.Form.TheVariants.{Process, Follows}
use Rattle.gr_journal.specs.Words.{is_space, words_of, more_words, only_word}
use Rattle.gr_journal.specs.Lines.{brokers_named, process_form, say_form}

record HasWord (words : List (List ℕ)) : Type 0 where
  word : List ℕ
  more : List (List ℕ)
  is : words ≡ word ∷ more

longer_has : (b : ℕ) (words : List (List ℕ)) → HasWord (longer b words)
longer_has b [] = record { word = b ∷ []; more = []; is = refl }
longer_has b (word ∷ words) = record { word = b ∷ word; more = words; is = refl }

has_by : (v : Bool) (b : ℕ) (words : List (List ℕ)) → HasWord (cond v ([] ∷ words) (longer b words))
has_by true b words = record { word = []; more = words; is = refl }
has_by false b words = longer_has b words

has_word : (text : List ℕ) → HasWord (words_of text)
has_word [] = record { word = []; more = []; is = refl }
has_word (b ∷ bs) = has_by (is_space b) b (words_of bs)

pub process_words : (t : TopologyView) (text : List ℕ) → process_form t (words_of text) ≡ option_map (λ brokers. Process brokers) (brokers_named t [] (words_of text))
process_words t text =
    let h = has_word text in
    subst (λ z. process_form t z ≡ option_map (λ brokers. Process brokers) (brokers_named t [] z)) (sym h.is) refl

pub say_words : (text : List ℕ) → say_form (words_of text) ≡ Some Follows
say_words text = let h = has_word text in ap say_form h.is

pub all_taken : (n : ℕ) (xs : List ℕ) → length xs ≤ n → xs ≡ take n xs
all_taken zero [] h = refl
all_taken zero (x ∷ xs) h = absurd (omega (arith, h))
all_taken (suc n) [] h = refl
all_taken (suc n) (x ∷ xs) h = ap (λ z. x ∷ z) (all_taken n xs (omega (arith, h)))

-- a text with more behind a space is not one word
not_only : (words : List (List ℕ)) (word rest : List ℕ) → words ≡ word ∷ words_of rest → None ≡ only_word words
not_only words word rest e = let h = has_word rest in sym (ap only_word (e ∙ ap (λ z. word ∷ z) h.is))

pub more_than_one : {T : Type 0} (see : T → List ℕ) (text : Option T) (t : T) (word : List ℕ) (behind : Option T) (rest : T) → text ≡ Some t → words_of (see t) ≡ word ∷ more_words (option_map see behind) → behind ≡ Some rest
    → None ≡ only_word (more_words (option_map see text))
more_than_one see text t word behind rest e w b =
    not_only (more_words (option_map see text)) word (see rest) (ap (λ o. more_words (option_map see o)) e ∙ (w ∙ ap (λ o. word ∷ more_words (option_map see o)) b))
