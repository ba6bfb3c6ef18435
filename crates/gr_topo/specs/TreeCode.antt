-- A code for the trees of filters, by which proofs tell trees apart
use Rattle.std.specs.Prelude.{◌≡◌, ℕ, List}
use Rattle.std.specs.Coded.{Coded, coded_ℕ, coded_bool, coded_list}
use Rattle.std.proofs.Common.{ap}
use base.Stored.{Gv, gnil, gnum, gcons}
use Rattle.gr_filter.specs.declared.node.Operand.{Operand}
use Rattle.gr_filter.specs.declared.node.Sign.{Sign}
use Rattle.gr_filter.specs.Tree.{Tree, alone, compare, between, one_of, like, is_null, negation, both, either}

module _ (O : Coded Operand) (S : Coded Sign) where
  abbrev pub texts : Coded (List ℕ)
  texts = coded_list coded_ℕ

  abbrev pub operands : Coded (List Operand)
  operands = coded_list O

  abbrev pub code_of : Tree → Gv
  code_of (alone x) = gcons (gnum 0) (O.code x)
  code_of (compare x sign y) = gcons (gnum 1) (gcons (O.code x) (gcons (S.code sign) (O.code y)))
  code_of (between negated x low high) =
      gcons (gnum 2) (gcons (coded_bool.code negated) (gcons (O.code x) (gcons (O.code low) (O.code high))))
  code_of (one_of negated name literals) =
      gcons (gnum 3) (gcons (coded_bool.code negated) (gcons (texts.code name) (operands.code literals)))
  code_of (like negated name pattern) =
      gcons (gnum 4) (gcons (coded_bool.code negated) (gcons (texts.code name) (texts.code pattern)))
  code_of (is_null negated name) = gcons (gnum 5) (gcons (coded_bool.code negated) (texts.code name))
  code_of (negation a) = gcons (gnum 6) (code_of a)
  code_of (both a b) = gcons (gnum 7) (gcons (code_of a) (code_of b))
  code_of (either a b) = gcons (gnum 8) (gcons (code_of a) (code_of b))

  abbrev pub head : Gv → Gv
  head gnil = gnil
  head (gnum n) = gnil
  head (gcons a b) = a

  abbrev pub tail : Gv → Gv
  tail gnil = gnil
  tail (gnum n) = gnil
  tail (gcons a b) = b

  abbrev pub number : Gv → ℕ
  number gnil = 0
  number (gnum n) = n
  number (gcons a b) = 0

  pub one_tree : (x y : Tree) → code_of x ≡ code_of y → x ≡ y
  one_tree (alone x) (alone x') h = ap alone (O.inj x x' (ap tail h))
  one_tree (compare x s y) (compare x' s' y') h =
      let a : x ≡ x' = O.inj x x' (ap (λ g. head (tail g)) h) in
      let b : s ≡ s' = S.inj s s' (ap (λ g. head (tail (tail g))) h) in
      let c : y ≡ y' = O.inj y y' (ap (λ g. tail (tail (tail g))) h) in cc
  one_tree (between n x l u) (between n' x' l' u') h =
      let a : n ≡ n' = coded_bool.inj n n' (ap (λ g. head (tail g)) h) in
      let b : x ≡ x' = O.inj x x' (ap (λ g. head (tail (tail g))) h) in
      let c : l ≡ l' = O.inj l l' (ap (λ g. head (tail (tail (tail g)))) h) in
      let d : u ≡ u' = O.inj u u' (ap (λ g. tail (tail (tail (tail g)))) h) in cc
  one_tree (one_of n t ls) (one_of n' t' ls') h =
      let a : n ≡ n' = coded_bool.inj n n' (ap (λ g. head (tail g)) h) in
      let b : t ≡ t' = texts.inj t t' (ap (λ g. head (tail (tail g))) h) in
      let c : ls ≡ ls' = operands.inj ls ls' (ap (λ g. tail (tail (tail g))) h) in cc
  one_tree (like n t p) (like n' t' p') h =
      let a : n ≡ n' = coded_bool.inj n n' (ap (λ g. head (tail g)) h) in
      let b : t ≡ t' = texts.inj t t' (ap (λ g. head (tail (tail g))) h) in
      let c : p ≡ p' = texts.inj p p' (ap (λ g. tail (tail (tail g))) h) in cc
  one_tree (is_null n t) (is_null n' t') h =
      let a : n ≡ n' = coded_bool.inj n n' (ap (λ g. head (tail g)) h) in
      let b : t ≡ t' = texts.inj t t' (ap (λ g. tail (tail g)) h) in cc
  one_tree (negation a) (negation b) h = ap negation (one_tree a b (ap tail h))
  one_tree (both a b) (both a' b') h =
      let p : a ≡ a' = one_tree a a' (ap (λ g. head (tail g)) h) in
      let q : b ≡ b' = one_tree b b' (ap (λ g. tail (tail g)) h) in cc
  one_tree (either a b) (either a' b') h =
      let p : a ≡ a' = one_tree a a' (ap (λ g. head (tail g)) h) in
      let q : b ≡ b' = one_tree b b' (ap (λ g. tail (tail g)) h) in cc
  one_tree (alone x) _ h = let tag = ap (λ g. number (head g)) h in cc
  one_tree (compare x s y) _ h = let tag = ap (λ g. number (head g)) h in cc
  one_tree (between n x l u) _ h = let tag = ap (λ g. number (head g)) h in cc
  one_tree (one_of n t ls) _ h = let tag = ap (λ g. number (head g)) h in cc
  one_tree (like n t p) _ h = let tag = ap (λ g. number (head g)) h in cc
  one_tree (is_null n t) _ h = let tag = ap (λ g. number (head g)) h in cc
  one_tree (negation a) _ h = let tag = ap (λ g. number (head g)) h in cc
  one_tree (both a b) _ h = let tag = ap (λ g. number (head g)) h in cc
  one_tree (either a b) _ h = let tag = ap (λ g. number (head g)) h in cc

  -- trees are told apart by the kind of their root and by its parts
  abbrev pub tree_code : Coded Tree
  tree_code = record { code = code_of; inj = one_tree }
