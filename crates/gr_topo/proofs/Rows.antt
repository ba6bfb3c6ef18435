-- The rows of places, one for each host
use Rattle.std.proofs.Common.{◌≡◌, ℕ, zero, suc, ◌+◌, ◌<◌, ◌≤◌, List, [], ◌∷◌, ◌++◌, length, get_or, take, drop, map, Vec, Global, vec_len, sym, ap, ◌∙◌, subst, inl, inr, arith}
use Rattle.std.proofs.lemmas.List.{take_more, map-append, take_all, length-map}
use Rattle.std.proofs.lemmas.Bool.{cases_eq}
use Rattle.gr_tree.specs.declared.link.Link.{Link}
use Rattle.gr_tree.specs.declared.link.Place.{Place}
use Rattle.gr_tree.specs.Walks.{places_of, place_of, numbers}
use Rattle.gr_tree.proofs.Numbers.{at_number, length-numbers_from}

abbrev Row : Type 0
Row = Vec Place Global

abbrev pub rows_items : List Row → List (List Place)
rows_items rows = map (λ r. r.items) rows

-- one row more
pub row_more : (n : ℕ) (links : List Link) (rows : List Row) (row : Row) (hosts : List ℕ) (i host : ℕ) → rows_items rows ≡ map (places_of n links) (take i hosts) → i < length hosts → host ≡ get_or hosts i 0
    → row.items ≡ places_of n links host → rows_items (rows ++ row ∷ []) ≡ map (places_of n links) (take (i + 1) hosts)
row_more n links rows row hosts i host so_far lt is made =
    map-append (λ (r : Row). r.items) rows (row ∷ []) ∙ ap (λ l. l ++ row.items ∷ []) so_far ∙ ap (λ x. map (places_of n links) (take i hosts) ++ x ∷ []) (made ∙ ap (places_of n links) is)
    ∙ sym (ap (map (places_of n links)) (take_more hosts i 0 lt) ∙ map-append (places_of n links) (take i hosts) (get_or hosts i 0 ∷ []))

pub rows_done : (n : ℕ) (links : List Link) (rows : List Row) (hosts : List ℕ) (i : ℕ) → rows_items rows ≡ map (places_of n links) (take i hosts) → length hosts ≤ i → rows_items rows ≡ map (places_of n links) hosts
rows_done n links rows hosts i so_far h = so_far ∙ ap (map (places_of n links)) (take_all i hosts h)

-- what holds of each host so far, and of one more
pub host_more : (P : ℕ → Type 0) (hosts : List ℕ) (i host : ℕ) → host ≡ get_or hosts i 0 → ((p : ℕ) → p < i → P (get_or hosts p 0)) → P host → (p : ℕ) → p < i + 1 → P (get_or hosts p 0)
host_more P hosts i host is so_far here p h =
    elim (cases_eq p i) [
      | inl e ↦ subst (λ k. P (get_or hosts k 0)) (sym e) (subst P is here)
      | inr e ↦ so_far p (omega arith)
    ]

-- ---- a place in its row

row_at : (n : ℕ) (links : List Link) (rows : List Row) (hosts : List ℕ) (p : ℕ) (d : Row) → rows_items rows ≡ map (places_of n links) hosts → p < length hosts → (get_or rows p d).items ≡ places_of n links (get_or hosts p 0)
row_at n links [] [] p d is h = absurd (omega arith)
row_at n links [] (x ∷ hosts) p d is h = absurd (omega (arith, ap length is))
row_at n links (r ∷ rows) [] p d is h = absurd (omega arith)
row_at n links (r ∷ rows) (x ∷ hosts) zero d is h = ap (λ l. get_or l 0 r.items) is
row_at n links (r ∷ rows) (x ∷ hosts) (suc p) d is h = row_at n links rows hosts p d (ap (drop 1) is) (omega arith)

pub count_rows : (n : ℕ) (links : List Link) (rows : List Row) (hosts : List ℕ) → rows_items rows ≡ map (places_of n links) hosts → length rows ≡ length hosts
count_rows n links rows hosts is = sym (length-map rows (λ (r : Row). r.items)) ∙ ap length is ∙ length-map hosts (places_of n links)

pub row_is : (n : ℕ) (links : List Link) (rows : List Row) (hosts : List ℕ) (p : ℕ) (row : Row) → rows_items rows ≡ map (places_of n links) hosts → p < length hosts → row ≡ get_or rows p row → row.items ≡ places_of n links (get_or hosts p 0)
row_is n links rows hosts p row is h read = ap (λ (r : Row). r.items) read ∙ row_at n links rows hosts p row is h

pub row_length : (n : ℕ) (links : List Link) (host : ℕ) → length (places_of n links host) ≡ n
row_length n links host = length-map (numbers n) (place_of n links host) ∙ length-numbers_from 0 n

pub place_at : (n : ℕ) (links : List Link) (host b : ℕ) (items : List Place) (p : Place) → items ≡ places_of n links host → b < n → p ≡ get_or items b p → p ≡ place_of n links host b
place_at n links host b items p is h read = read ∙ ap (λ l. get_or l b p) is ∙ at_number (place_of n links host) 0 n b p h ∙ (let e : 0 + b ≡ b = omega arith in ap (place_of n links host) e)

pub row_fits : (n : ℕ) (links : List Link) (rows : List Row) (hosts : List ℕ) (p b : ℕ) (row : Row) → rows_items rows ≡ map (places_of n links) hosts → p < length hosts → row ≡ get_or rows p row → b < n → b < vec_len row
row_fits n links rows hosts p b row is h read lt =
    let e : length row.items ≡ n = ap length (row_is n links rows hosts p row is h read) ∙ row_length n links (get_or hosts p 0) in
    omega (arith, e, row.ok.0)

pub place_is : (n : ℕ) (links : List Link) (rows : List Row) (hosts : List ℕ) (p b : ℕ) (row : Row) (place : Place) → rows_items rows ≡ map (places_of n links) hosts → p < length hosts → row ≡ get_or rows p row → b < n
    → place ≡ get_or row.items b place → place ≡ place_of n links (get_or hosts p 0) b
place_is n links rows hosts p b row place is h read lt at = place_at n links (get_or hosts p 0) b row.items place (row_is n links rows hosts p row is h read) lt at
