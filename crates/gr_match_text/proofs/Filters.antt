-- A list of filters is a set of names beside a list of trees, of the same length: each call on both is one on the pairs
use Rattle.std.proofs.Common.{◌≡◌, ℕ, suc, Bool, true, false, List, [], ◌∷◌, ◌++◌, length, map, get_or, Vec, Global, Option, refl, sym, ap, ◌∙◌, arith, nat_eq, cond, append_assoc}
use Rattle.std.specs.Prelude.{bytes_eq, option_map}
use Rattle.std.specs.List.{zip, list_any, filter, slice_get}
use Rattle.std.specs.Option.{unwrap_or}
use Rattle.std.specs.Cmp.Lexicographic.{pointwise}
use Rattle.std.proofs.lemmas.List.{length-map, length_push}
use Rattle.std.proofs.lemmas.Option.{slice_get-map, unwrap_or-slice_get}
use Rattle.std.proofs.lemmas.Slice.Zip.{firsts-zip, seconds-zip}
use Rattle.indexmap.specs.IndexSet.{insert_key}
use Rattle.gr_event.specs.declared.event.Event.{Event}
use Rattle.gr_filter.specs.Tree.{Tree}
use Rattle.gr_filter.specs.Truth as truth
use Rattle.gr_match.specs.Matches.{matches, matches_from}
use Rattle.gr_topo.proofs.Numbering.{any_of_texts, texts-insert_key}
use Rattle.gr_topo.proofs.NameTurns.{same_key}
use Rattle.gr_match_text.specs.Keys.{key_texts}
use Rattle.gr_match_text.specs.Matching.{NamedFilter, filter_names, filter_trees, names_at, matching_names, names_text}

abbrev Key : Type 0
Key = Vec ℕ Global

names_are : (names : List (List ℕ)) (ts : List Tree) → length names ≡ length ts → filter_names (zip names ts) ≡ names
names_are names ts h = firsts-zip names ts (sym h)

pub trees_are : (names : List (List ℕ)) (ts : List Tree) → length names ≡ length ts → filter_trees (zip names ts) ≡ ts
trees_are names ts h = seconds-zip names ts (sym h)

-- ---- how many there are, and whether a name stands among them

pub how_many : (ks : List Key) (ts : List Tree) (all : List NamedFilter) (n : ℕ) → length (key_texts ks) ≡ length ts → zip (key_texts ks) ts ≡ all → n ≡ length ks → n ≡ length all
how_many ks ts all n h view e =
    e ∙ sym (length-map ks (λ k. k.items)) ∙ ap length (sym (names_are (key_texts ks) ts h)) ∙ length-map (zip (key_texts ks) ts) (λ f. f.0) ∙ ap length view

pub is_there : (ks : List Key) (ts : List Tree) (all : List NamedFilter) (name : List ℕ) → length (key_texts ks) ≡ length ts → zip (key_texts ks) ts ≡ all
    → list_any (λ k. pointwise nat_eq name k.items) ks ≡ list_any (bytes_eq name) (filter_names all)
is_there ks ts all name h view =
    any_of_texts name ks ∙ ap (list_any (bytes_eq name)) (sym (names_are (key_texts ks) ts h)) ∙ ap (λ fs. list_any (bytes_eq name) (filter_names fs)) view

-- ---- the name at a place

pub name_at : (ks : List Key) (ts : List Tree) (all : List NamedFilter) (i place : ℕ) (found : Option Key) → length (key_texts ks) ≡ length ts → zip (key_texts ks) ts ≡ all → found ≡ slice_get ks i → i ≡ place
    → unwrap_or (option_map (λ k. k.items) found) [] ≡ get_or (filter_names all) place []
name_at ks ts all i place found h view e is =
    ap (λ o. unwrap_or (option_map (λ k. k.items) o) []) e
    ∙ ap (λ o. unwrap_or o []) (sym (slice_get-map (λ k. k.items) ks i))
    ∙ unwrap_or-slice_get (key_texts ks) i []
    ∙ ap (λ names. get_or names i []) (sym (names_are (key_texts ks) ts h))
    ∙ ap (λ fs. get_or (filter_names fs) i []) view
    ∙ ap (λ p. get_or (filter_names all) p []) is

-- ---- one filter more

-- a name that is new stands at the end of the set
pub key_more : (ks reserved more : List Key) (k : Key) (ts : List Tree) (all : List NamedFilter) (name : List ℕ) → length (key_texts ks) ≡ length ts → zip (key_texts ks) ts ≡ all
    → list_any (bytes_eq name) (filter_names all) ≡ false → k.items ≡ name → reserved ≡ ks → more ≡ insert_key same_key reserved k → key_texts more ≡ key_texts ks ++ name ∷ []
key_more ks reserved more k ts all name h view new same kept made =
    let absent : list_any (λ x. pointwise nat_eq k.items x.items) ks ≡ false = ap (λ n. list_any (λ x. pointwise nat_eq n x.items) ks) same ∙ is_there ks ts all name h view ∙ new in
    ap key_texts (made ∙ ap (λ l. insert_key same_key l k) kept) ∙ texts-insert_key ks k absent ∙ ap (λ n. key_texts ks ++ n ∷ []) same

zip_more : {A B : Type 0} (xs : List A) (ys : List B) (x : A) (y : B) → length xs ≡ length ys → zip (xs ++ x ∷ []) (ys ++ y ∷ []) ≡ zip xs ys ++ (x, y) ∷ []
zip_more [] [] x y h = refl
zip_more [] (b ∷ ys) x y h = absurd (omega (arith, h))
zip_more (a ∷ xs) [] x y h = absurd (omega (arith, h))
zip_more (a ∷ xs) (b ∷ ys) x y h = ap (λ l. (a, b) ∷ l) (zip_more xs ys x y (omega (arith, h)))

-- both lists are one longer
pub lengths_more : (names more : List (List ℕ)) (ts grown : List Tree) (name : List ℕ) (t : Tree) → length names ≡ length ts → more ≡ names ++ name ∷ [] → grown ≡ ts ++ t ∷ [] → length more ≡ length grown
lengths_more names more ts grown name t h e f = omega (arith, h, ap length e, ap length f, length_push names name, length_push ts t)

pub filter_more : (names more : List (List ℕ)) (ts grown : List Tree) (all : List NamedFilter) (name : List ℕ) (t : Tree) → length names ≡ length ts → zip names ts ≡ all → more ≡ names ++ name ∷ [] → grown ≡ ts ++ t ∷ []
    → zip more grown ≡ all ++ (name, t) ∷ []
filter_more names more ts grown all name t h view e f =
    ap (λ ns. zip ns grown) e ∙ ap (λ l. zip (names ++ name ∷ []) l) f ∙ zip_more names ts name t h ∙ ap (λ l. l ++ (name, t) ∷ []) view

-- ---- the names of the filters that match

stands_there : (front rest : List (List ℕ)) (name : List ℕ) → get_or (front ++ name ∷ rest) (length front) [] ≡ name
stands_there [] rest name = refl
stands_there (x ∷ front) rest name = stands_there front rest name

-- one filter more in front, where those behind it are right
found_step : (front : List (List ℕ)) (f : NamedFilter) (fs : List NamedFilter) (b : Bool) (found : List NamedFilter) (places : List ℕ) → map (λ p. get_or (front ++ f.0 ∷ filter_names fs) p []) places ≡ filter_names found
    → map (λ p. get_or (front ++ f.0 ∷ filter_names fs) p []) (cond b (length front ∷ places) places) ≡ filter_names (cond b (f ∷ found) found)
found_step front f fs true found places h = ap (λ n. n ∷ map (λ p. get_or (front ++ f.0 ∷ filter_names fs) p []) places) (stands_there front (filter_names fs) f.0) ∙ ap (λ l. f.0 ∷ l) h
found_step front f fs false found places h = h

found_from : (front : List (List ℕ)) (filters : List NamedFilter) (e : Event) → map (λ p. get_or (front ++ filter_names filters) p []) (matches_from (length front) (filter_trees filters) e) ≡ matching_names filters e
found_from front [] e = refl
found_from front (f ∷ fs) e =
    let next : suc (length front) ≡ length (front ++ f.0 ∷ []) = omega (arith, length_push front f.0) in
    found_step front f fs (truth.matches f.1 e) (filter (λ g. truth.matches g.1 e) fs) (matches_from (suc (length front)) (filter_trees fs) e)
    (ap (λ ns. map (λ p. get_or ns p []) (matches_from (suc (length front)) (filter_trees fs) e)) (sym (append_assoc front (f.0 ∷ []) (filter_names fs)))
    ∙ ap (λ n. map (λ p. get_or ((front ++ f.0 ∷ []) ++ filter_names fs) p []) (matches_from n (filter_trees fs) e)) next
    ∙ found_from (front ++ f.0 ∷ []) fs e)

pub names_found : (filters : List NamedFilter) (e : Event) (places slice : List ℕ) → slice ≡ places → places ≡ matches (filter_trees filters) e
    → names_text (names_at filters slice) ≡ names_text (matching_names filters e)
names_found filters e places slice same is = ap (λ ps. names_text (names_at filters ps)) (same ∙ is) ∙ ap names_text (found_from [] filters e)

-- ---- the filter at a place

-- there are as many trees as filters
pub trees_count : (names : List (List ℕ)) (ts : List Tree) (all : List NamedFilter) → length names ≡ length ts → zip names ts ≡ all → length ts ≡ length all
trees_count names ts all h view = ap length (sym (trees_are names ts h)) ∙ length-map (zip names ts) (λ f. f.1) ∙ ap length view
