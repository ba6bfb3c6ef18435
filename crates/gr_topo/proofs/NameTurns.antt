-- A turn of the loops over names: each is one, and none stands twice
use Rattle.std.proofs.Common.{◌≡◌, ℕ, ◌+◌, ◌<◌, ◌≤◌, Bool, true, false, not, List, [], ◌∷◌, ◌++◌, length, drop, get_or, Vec, Global, Ok, Err, sym, ap, ◌∙◌, nat_eq}
use Rattle.std.specs.List.{list_any}
use Rattle.std.specs.Str.{bytes_eq}
use Rattle.std.specs.Cmp.Lexicographic.{pointwise}
use Rattle.std.proofs.lemmas.Bool.{not-true}
use Rattle.indexmap.specs.IndexSet.{insert_key}
use Rattle.gr_topo.specs.declared.fault.TopoFault.TheVariants.{BadName, Twice}
use Rattle.gr_topo.specs.Gives.{walk, ◌>>=◌}
use Rattle.gr_topo.specs.Checks.{passes, is_name, good_name, good_names, seen_once, apart}
use Rattle.gr_topo.proofs.Walked.{list_more, list_refused, list_end}
use Rattle.gr_topo.proofs.Numbering.{texts, any_of_texts, texts-insert_key}

-- ---- each text is a name

pub bad_name : (names : List (List ℕ)) (i : ℕ) (name seen again copy : List ℕ) (r : Bool) → walk good_name tt (drop i names) ≡ good_names names → i < length names → name ≡ get_or names i name
    → seen ≡ name → r ≡ is_name seen → r ≡ false → again ≡ name → copy ≡ again → good_names names ≡ Err (BadName copy)
bad_name names i name seen again copy r inv lt is same said unlike also made =
    sym inv ∙ list_refused good_name tt (BadName name) names i name lt is (ap (λ b. passes b (BadName name)) (ap is_name (sym same) ∙ sym said ∙ unlike)) ∙ ap (λ n. Err (BadName n)) (sym also ∙ sym made)

pub next_name : (names : List (List ℕ)) (i : ℕ) (name seen : List ℕ) (r : Bool) → walk good_name tt (drop i names) ≡ good_names names → i < length names → name ≡ get_or names i name
    → seen ≡ name → r ≡ is_name seen → r ≡ true → walk good_name tt (drop (i + 1) names) ≡ good_names names
next_name names i name seen r inv lt is same said alike =
    sym (list_more good_name tt tt names i name lt is (ap (λ b. passes b (BadName name)) (ap is_name (sym same) ∙ sym said ∙ alike))) ∙ inv

-- ---- no name twice

abbrev Key : Type 0
Key = Vec ℕ Global

abbrev pub same_key : Key → Key → Bool
same_key x y = pointwise nat_eq x.items y.items

seen_before : (ks : List Key) (k : Key) (name : List ℕ) (r : Bool) → k.items ≡ name → r ≡ not (list_any (same_key k) ks) → r ≡ not (list_any (bytes_eq name) (texts ks))
seen_before ks k name r is said = said ∙ ap not (any_of_texts k.items ks ∙ ap (λ n. list_any (bytes_eq n) (texts ks)) is)

pub twice : (names : List (List ℕ)) (ks : List Key) (i : ℕ) (name seen again copy : List ℕ) (k : Key) (r : Bool) → walk seen_once (texts ks) (drop i names) ≡ walk seen_once [] names → i < length names → name ≡ get_or names i name
    → seen ≡ name → k.items ≡ seen → r ≡ not (list_any (same_key k) ks) → r ≡ false → again ≡ name → copy ≡ again → apart names ≡ Err (Twice copy)
twice names ks i name seen again copy k r inv lt is same held said unlike also made =
    let first = list_refused seen_once (texts ks) (Twice name) names i name lt is
    (ap (λ b. passes b (Twice name) >>= λ _. Ok (texts ks ++ name ∷ [])) (sym (seen_before ks k name r (held ∙ same) said) ∙ unlike)) in
    ap (λ x. x >>= λ _. Ok tt) (sym inv ∙ first) ∙ ap (λ n. Err (Twice n)) (sym also ∙ sym made)

pub one_name_more : (names : List (List ℕ)) (ks more : List Key) (i : ℕ) (name seen : List ℕ) (k : Key) (r : Bool) → walk seen_once (texts ks) (drop i names) ≡ walk seen_once [] names → i < length names → name ≡ get_or names i name
    → seen ≡ name → k.items ≡ seen → r ≡ not (list_any (same_key k) ks) → r ≡ true → more ≡ insert_key same_key ks k → walk seen_once (texts more) (drop (i + 1) names) ≡ walk seen_once [] names
one_name_more names ks more i name seen k r inv lt is same held said alike made =
    let new : list_any (same_key k) ks ≡ false = not-true _ (sym said ∙ alike) in
    let grown : texts more ≡ texts ks ++ name ∷ [] = ap texts made ∙ texts-insert_key ks k new ∙ ap (λ n. texts ks ++ n ∷ []) (held ∙ same) in
    let step = list_more seen_once (texts ks) (texts ks ++ name ∷ []) names i name lt is
    (ap (λ b. passes b (Twice name) >>= λ _. Ok (texts ks ++ name ∷ [])) (sym (seen_before ks k name r (held ∙ same) said) ∙ alike)) in
    ap (λ s. walk seen_once s (drop (i + 1) names)) grown ∙ sym step ∙ inv

pub all_apart : (names : List (List ℕ)) (ks : List Key) (i : ℕ) → walk seen_once (texts ks) (drop i names) ≡ walk seen_once [] names → length names ≤ i → apart names ≡ Ok tt
all_apart names ks i inv h = ap (λ x. x >>= λ _. Ok tt) (sym inv ∙ list_end seen_once (texts ks) names i h)
