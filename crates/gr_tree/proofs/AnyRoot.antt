-- A search that places every node, from whatever root, shows a tree: a search from the first node would place every node too
use Rattle.std.proofs.Common.{◌≡◌, ℕ, zero, suc, ◌+◌, ◌<◌, Bool, true, false, ltb, List, length, get_or, set, replicate, Option, Some, None, refl, sym, ap, ◌∙◌, inl, inr, arith}
use Rattle.std.specs.Option.{is_some}
use Rattle.std.specs.List.{position, position_or_len, remove}
use Rattle.std.proofs.lemmas.List.{get_or_default}
use Rattle.std.proofs.lemmas.List.Edits.{length-remove}
use Rattle.std.proofs.lemmas.List.Sums.{fails_before_first}
use Rattle.std.proofs.lemmas.List.Quantifiers.{position-Some}
use Rattle.std.proofs.lemmas.Bool.{cases_lt, cond-true, lt-ltb}
use Rattle.gr_tree.specs.declared.link.Link.{Link}
use Rattle.gr_tree.specs.declared.link.Place.{Place}
use Rattle.gr_tree.specs.Walks.{IsWithin, is_tree}
use Rattle.gr_tree.specs.Search.{is_placed, crosses, attached}
use Rattle.gr_tree.proofs.Growing.{top, nowhere, Grown, grown_start, crossed, placed_is}
use Rattle.gr_tree.proofs.Whole.{IsClosed, closed, reach_forward, reach_back, reached_at, Whole, whole_from, a_tree}

pub none_found : (p : Link → Bool) (xs : List Link) → position p xs ≡ None → (k : ℕ) (d : Link) → k < length xs → p (get_or xs k d) ≡ false
none_found p xs e k d lt =
    elim (cases_lt (position_or_len p xs) (length xs)) [
      | inl h ↦ absurd (some_none (position_or_len p xs) (sym (cond-true (ltb (position_or_len p xs) (length xs)) (Some (position_or_len p xs)) None (lt-ltb _ _ h)) ∙ e))
      | inr h ↦ fails_before_first p xs k d (omega arith)
    ]
  where
    some_none : (i : ℕ) → Some i ≡ None → ⊥
    some_none i e = cc

-- where a search ends: no link that is left has exactly one end in the row
pub record Ended (n : ℕ) (links : List Link) (root : ℕ) : Type 0 where
  pub row : List (Option Place)
  pub left : List Link
  pub grown : Grown n links root row left
  pub none : (k : ℕ) (d : Link) → k < length left → crosses row (get_or left k d) ≡ false

some_link : Link
some_link = record { one = 0; other = 0 }

-- a row grows by the link that was found
grows : (n : ℕ) (links : List Link) (root : ℕ) (row : List (Option Place)) (left : List Link) (k : ℕ) → IsWithin n links → Grown n links root row left → position (crosses row) left ≡ Some k
    → Grown n links root (attached row (get_or left k some_link)) (remove left k)
grows n links root row left k within g e =
    let p = position-Some (crosses row) left k some_link e in
    crossed n links root row left k (get_or left k some_link) within g p.0 (get_or_default left k some_link (get_or left k some_link) p.0) p.1

-- and a link less is left
fewer : (row : List (Option Place)) (left : List Link) (k m : ℕ) → length left ≡ suc m → position (crosses row) left ≡ Some k → length (remove left k) ≡ m
fewer row left k m size e =
    let p = position-Some (crosses row) left k some_link e in
    omega (arith, length-remove left k p.0, size)

ends_with : (n : ℕ) (links : List Link) (root : ℕ) → IsWithin n links → (m : ℕ) (row : List (Option Place)) (left : List Link) → length left ≡ m → Grown n links root row left → Ended n links root
ends_with n links root within zero row left size g = record { row = row; left = left; grown = g; none = λ k d lt. absurd (omega (arith, size)) }
ends_with n links root within (suc m) row left size g =
    elim (position (crosses row) left) as (λ found. position (crosses row) left ≡ found → Ended n links root) [
      | None ↦ λ e. record { row = row; left = left; grown = g; none = none_found (crosses row) left e }
      | Some k ↦ λ e. ends_with n links root within m (attached row (get_or left k some_link)) (remove left k) (fewer row left k m size e) (grows n links root row left k within g e)
    ] refl

-- what one search placed, a search from the first node places too
placed_too : (n : ℕ) (links : List Link) (root : ℕ) (row : List (Option Place)) → Whole n links root row → (other : List (Option Place)) → IsClosed links other → is_placed other 0 ≡ true → (b : ℕ) → b < n → is_placed other b ≡ true
placed_too n links root row w other shut first b lt =
    let start = w.all 0 (omega arith) in
    let here = w.all b lt in
    let at_root = reach_back n links other shut start.0.depth root 0 first (reached_at n links root row w 0 start.0 start.1) in
    reach_forward n links other shut here.0.depth root b at_root (reached_at n links root row w b here.0 here.1)

pub any_root : (n : ℕ) (links : List Link) (root : ℕ) (row : List (Option Place)) → IsWithin n links → Whole n links root row → length links + 1 ≡ n → is_tree n links ≡ true
any_root n links root row within w size =
    let start = grown_start n links 0 (omega (arith, w.root_in)) size in
    let e = ends_with n links 0 within (length links) (set (replicate n nowhere) 0 (Some top)) links refl start in
    let shut = closed n links 0 e.row e.left e.grown e.none in
    let all = placed_too n links root row w e.row shut (ap is_some e.grown.at_root) in
    a_tree n links 0 e.row (whole_from n links 0 e.row e.left e.grown (omega (arith, w.root_in)) size (λ b lt. placed_is (get_or e.row b None) (all b lt))) size refl
