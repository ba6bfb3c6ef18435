-- What the search's steps leave: where it begins, where it goes on, and what it answers
use Rattle.std.proofs.Common.{◌≡◌, ℕ, zero, suc, ◌+◌, ◌<◌, Bool, true, false, cond, List, [], ◌∷◌, length, get_or, set, replicate, take, drop, ◌++◌, map, Option, Some, None, Result, Ok, Err, Vec, Global, IfOk, IfSome, IfNone, OnSome, MatchOption, refl, sym, ap, ◌∙◌, subst, arith}
use Rattle.std.specs.List.{position, remove}
use Rattle.std.proofs.lemmas.List.{take_at, length-set}
use Rattle.std.proofs.lemmas.List.Quantifiers.{position-Some}
use Rattle.std.proofs.lemmas.List.Folds.{list_any_at}
use Rattle.gr_tree.specs.declared.link.Link.{Link}
use Rattle.gr_tree.specs.declared.link.Place.{Place}
use Rattle.gr_tree.specs.Walks.{joins, IsWithin, IsRooted, HasOnlyPaths, is_tree, places_of}
use Rattle.gr_tree.specs.Search.{is_placed, crosses, place_below, attached, IsShallow}
use Rattle.gr_tree.proofs.Links.{joins_one}
use Rattle.gr_tree.proofs.Growing.{top, nowhere, Grown, grown_start, crossed}
use Rattle.gr_tree.proofs.Whole.{Whole, no_tree, whole_from, rooted, places_are}
use Rattle.gr_tree.proofs.AnyRoot.{none_found, any_root}
use Rattle.gr_tree.proofs.Paths.{only_paths}

pub begins : (n : ℕ) (links : List Link) (root : ℕ) (row : List (Option Place)) (left : List Link) → row ≡ replicate n nowhere → left ≡ links → root < n → length links + 1 ≡ n
    → Grown n links root (set row root (Some top)) left
begins n links root row left is same in_n size =
    subst (λ r. Grown n links root (set r root (Some top)) left) (sym is) (subst (λ l. Grown n links root (set (replicate n nowhere) root (Some top)) l) (sym same) (grown_start n links root in_n size))

-- ---- a link that was found

pub found : (row seen : List (Option Place)) (left looked : List Link) (k : ℕ) (l : Link) → seen ≡ row → looked ≡ left → Some k ≡ position (crosses seen) looked → l ≡ get_or left k l → (k < length left) × (crosses row l ≡ true)
found row seen left looked k l is same h at =
    let p = position-Some (crosses seen) looked k l (sym h) in
    (subst (λ z. k < length z) same p.0, subst (λ z. crosses row z ≡ true) (sym at) (subst (λ z. crosses row (get_or z k l) ≡ true) same (subst (λ z. crosses z (get_or looked k l) ≡ true) is p.1)))

pub ends_in : (n : ℕ) (links : List Link) (root : ℕ) (row : List (Option Place)) (left : List Link) (k : ℕ) (l : Link) → IsWithin n links → Grown n links root row left → k < length left → l ≡ get_or left k l → (l.one < length row) × (l.other < length row)
ends_in n links root row left k l within g lt at =
    let joined : joins l.one l.other (get_or left k l) ≡ true = subst (λ z. joins l.one l.other z ≡ true) at (joins_one l.one l.other l refl refl) in
    let w = within l.one l.other (g.inside l.one l.other (list_any_at (joins l.one l.other) left k l lt joined)) in
    (omega (arith, w.0, g.size), omega (arith, w.1, g.size))

pub shallow : (n : ℕ) (links : List Link) (root : ℕ) (row : List (Option Place)) (left : List Link) → n < 65536 → length links + 1 ≡ n → Grown n links root row left → IsShallow row
shallow n links root row left small size g = λ b p e. omega (arith, g.deep b p e)

length-attached : (row : List (Option Place)) (l : Link) → length (attached row l) ≡ length row
length-attached row l = go (is_placed row l.one)
  where
    go : (b : Bool) → length (cond b (set row l.other (place_below row l.one)) (set row l.one (place_below row l.other))) ≡ length row
    go true = length-set row l.other _
    go false = length-set row l.one _

-- what a slice of a vector leaves in it
put_back : (xs new : List (Option Place)) (n : ℕ) → length new ≡ length xs → n ≡ length xs → take n (new ++ drop (length new) xs) ≡ new
put_back xs new n same is = take_at new (drop (length new) xs) n (same ∙ sym is)

pub goes_on : (n : ℕ) (links : List Link) (root : ℕ) (row seen new : List (Option Place)) (left after : List Link) (k count : ℕ) (l : Link)
    → IsWithin n links → Grown n links root row left → (k < length left) × (crosses row l ≡ true) → l ≡ get_or left k l
    → seen ≡ row → new ≡ attached seen l → count ≡ length row → after ≡ remove left k → Grown n links root (take count (new ++ drop (length new) row)) after
goes_on n links root row seen new left after k count l within g f at is made counted removed =
    let made_row : new ≡ attached row l = made ∙ ap (λ r. attached r l) is in
    let size : length new ≡ length row = ap length made_row ∙ length-attached row l in
    subst (λ ls. Grown n links root (take count (new ++ drop (length new) row)) ls) (sym removed)
    (subst (λ r. Grown n links root r (remove left k)) (sym (put_back row new count size counted ∙ made_row)) (crossed n links root row left k l within g f.0 at f.1))

-- ---- the answer

each_placed : (row : List (Option Place)) (ps : List Place) → map Some ps ≡ row → (b : ℕ) → b < length row → (p : Place) × (get_or row b None ≡ Some p)
each_placed row ps is b lt = subst (λ r. b < length r → (p : Place) × (get_or r b None ≡ Some p)) is (at ps b) lt
  where
    at : (xs : List Place) (b : ℕ) → b < length (map Some xs) → (p : Place) × (get_or (map Some xs) b None ≡ Some p)
    at [] b h = absurd (omega arith)
    at (x ∷ xs) zero h = (x, refl)
    at (x ∷ xs) (suc b) h = at xs b (omega arith)

-- what is known of the answer
pub record Answer (n : ℕ) (links : List Link) (root : ℕ) (o : Option (List Place)) : Type 0 where
  pub none : IfNone o (is_tree n links ≡ false)
  pub tree : OnSome o (is_tree n links ≡ true)
  pub places : IfSome o (λ ps. ps ≡ places_of n links root)
  pub rooted : OnSome o (IsRooted n links root)
  pub paths : OnSome o (HasOnlyPaths n links root)

pub answered : (n : ℕ) (links : List Link) (root : ℕ) (row seen last : List (Option Place)) (left looked : List Link) → IsWithin n links → Grown n links root row left → root < n → length links + 1 ≡ n
    → seen ≡ row → looked ≡ left → position (crosses seen) looked ≡ None → last ≡ row → (o : Option (List Place))
    → MatchOption o ((b : ℕ) × (b < length last) × (is_placed last b ≡ false)) (λ ps. map Some ps ≡ last) → Answer n links root o
answered n links root row seen last left looked within g root_in size is same stop ended None h = record {
  none = no_tree n links root row left g root_in at_end h.0 (omega (arith, h.1, ap length ended, g.size)) (subst (λ r. is_placed r h.0 ≡ false) ended h.2);
  tree = tt;
  places = tt;
  rooted = tt;
  paths = tt;
}
  where
    at_end : (k : ℕ) (d : Link) → k < length left → crosses row (get_or left k d) ≡ false
    at_end k d lt = none_found (crosses row) left (subst (λ r. position (crosses r) left ≡ None) is (subst (λ l. position (crosses seen) l ≡ None) same stop)) k d lt
answered n links root row seen last left looked within g root_in size is same stop ended (Some ps) h = record {
  none = tt;
  tree = any_root n links root row within whole size;
  places = places_are n links root row ps whole (h ∙ ended);
  rooted = rooted n links root row whole;
  paths = only_paths n links root within (rooted n links root row whole);
}
  where
    whole : Whole n links root row
    whole = whole_from n links root row left g root_in size (λ b lt. each_placed row ps (h ∙ ended) b (omega (arith, g.size)))

abbrev Places : Type 0
Places = Vec Place Global

abbrev items_of : Option Places → Option (List Place)
items_of None = None
items_of (Some ps) = Some ps.items

as_lists : (last : List (Option Place)) (o : Option Places) → MatchOption o ((b : ℕ) × (b < length last) × (is_placed last b ≡ false)) (λ ps. map Some ps.items ≡ last)
    → MatchOption (items_of o) ((b : ℕ) × (b < length last) × (is_placed last b ≡ false)) (λ ps. map Some ps ≡ last)
as_lists last None h = h
as_lists last (Some ps) h = h

-- what the last loop answered, with all that is known of it
pub settled_by : {E : Type 0} (n : ℕ) (links : List Link) (root : ℕ) (last : List (Option Place))
    → ((o : Option (List Place)) → MatchOption o ((b : ℕ) × (b < length last) × (is_placed last b ≡ false)) (λ ps. map Some ps ≡ last) → Answer n links root o)
    → (r : Result (Option Places) E) → IfOk r (λ o. MatchOption o ((b : ℕ) × (b < length last) × (is_placed last b ≡ false)) (λ ps. map Some ps.items ≡ last)) → IfOk r (λ o. Answer n links root (items_of o))
settled_by n links root last f (Ok o) h = f (items_of o) (as_lists last o h)
settled_by n links root last f (Err e) h = tt

pub none_clause : {E : Type 0} (n : ℕ) (links : List Link) (root : ℕ) (r : Result (Option Places) E) → IfOk r (λ o. Answer n links root (items_of o)) → IfOk r (λ o. IfNone o (is_tree n links ≡ false))
none_clause n links root (Ok None) h = h.none
none_clause n links root (Ok (Some ps)) h = tt
none_clause n links root (Err e) h = tt

pub tree_clause : {E : Type 0} (n : ℕ) (links : List Link) (root : ℕ) (r : Result (Option Places) E) → IfOk r (λ o. Answer n links root (items_of o)) → IfOk r (λ o. OnSome o (is_tree n links ≡ true))
tree_clause n links root (Ok None) h = tt
tree_clause n links root (Ok (Some ps)) h = h.tree
tree_clause n links root (Err e) h = tt

pub places_clause : {E : Type 0} (n : ℕ) (links : List Link) (root : ℕ) (r : Result (Option Places) E) → IfOk r (λ o. Answer n links root (items_of o)) → IfOk r (λ o. IfSome o (λ ps. ps.items ≡ places_of n links root))
places_clause n links root (Ok None) h = tt
places_clause n links root (Ok (Some ps)) h = h.places
places_clause n links root (Err e) h = tt

pub rooted_clause : {E : Type 0} (n : ℕ) (links : List Link) (root : ℕ) (r : Result (Option Places) E) → IfOk r (λ o. Answer n links root (items_of o)) → IfOk r (λ o. OnSome o (IsRooted n links root))
rooted_clause n links root (Ok None) h = tt
rooted_clause n links root (Ok (Some ps)) h = h.rooted
rooted_clause n links root (Err e) h = tt

pub paths_clause : {E : Type 0} (n : ℕ) (links : List Link) (root : ℕ) (r : Result (Option Places) E) → IfOk r (λ o. Answer n links root (items_of o)) → IfOk r (λ o. OnSome o (HasOnlyPaths n links root))
paths_clause n links root (Ok None) h = tt
paths_clause n links root (Ok (Some ps)) h = h.paths
paths_clause n links root (Err e) h = tt
