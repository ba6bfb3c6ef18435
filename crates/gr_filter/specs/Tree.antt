-- The tree of a filter, without where its parts lie in memory
use Rattle.std.specs.Prelude.{ℕ, List, Bool}
use Rattle.gr_filter.specs.declared.node.Operand.{Operand}
use Rattle.gr_filter.specs.declared.node.Sign.{Sign}
use Rattle.gr_filter.specs.declared.node.Node.{Node, Alone, Compare, Between, OneOf, Like, IsNull, Not', And', Or'}

pub data Tree : Type 0 where
  alone : Operand → Tree
  compare : Operand → Sign → Operand → Tree
  between : Bool → Operand → Operand → Operand → Tree
  one_of : Bool → List ℕ → List Operand → Tree
  like : Bool → List ℕ → List ℕ → Tree
  is_null : Bool → List ℕ → Tree
  negation : Tree → Tree
  both : Tree → Tree → Tree
  either : Tree → Tree → Tree

-- the tree of a node
abbrev pub tree_of : Node → Tree
tree_of (Alone x) = alone x
tree_of (Compare x sign y) = compare x sign y
tree_of (Between negated x low high) = between negated x low high
tree_of (OneOf negated name literals) = one_of negated name literals
tree_of (Like negated name pattern) = like negated name pattern
tree_of (IsNull negated name) = is_null negated name
tree_of (Not' p a) = negation (tree_of a)
tree_of (And' p a q b) = both (tree_of a) (tree_of b)
tree_of (Or' p a q b) = either (tree_of a) (tree_of b)
