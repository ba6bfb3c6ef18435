-- How trees are told apart, as the values of a type with a model have to be
use Rattle.std.specs.Prelude.{◌≡◌, List, refl}
use Rattle.std.specs.Coded.{Coded, code_by, coded_list}
use Rattle.std.proofs.Common.{ap, ap₂, Box, Global}
use denote.RawPtr.{null_ptr}
use Rattle.gr_filter.specs.contracts.node.Node.{the_row}
use Rattle.gr_filter.specs.Tree.{Tree, tree_of, alone, compare, between, one_of, like, is_null, negation, both, either}
use Rattle.gr_filter.specs.declared.node.Node.{Node, Alone, Compare, Between, OneOf, Like, IsNull, Not', And', Or'}

-- a pointer, which a tree does not have
abbrev no_pointer : Box (Unit {0}) Global
no_pointer = record { ptr = null_ptr; alloc = record { memory = record { seal = tt } }; value = tt }

abbrev pub to_node : Tree → Node
to_node (alone x) = Alone x
to_node (compare x sign y) = Compare x sign y
to_node (between negated x low high) = Between negated x low high
to_node (one_of negated name literals) = OneOf negated name literals
to_node (like negated name pattern) = Like negated name pattern
to_node (is_null negated name) = IsNull negated name
to_node (negation a) = Not' no_pointer (to_node a)
to_node (both a b) = And' no_pointer (to_node a) no_pointer (to_node b)
to_node (either a b) = Or' no_pointer (to_node a) no_pointer (to_node b)

pub to_node-tree_of : (t : Tree) → tree_of (to_node t) ≡ t
to_node-tree_of (alone x) = refl
to_node-tree_of (compare x sign y) = refl
to_node-tree_of (between negated x low high) = refl
to_node-tree_of (one_of negated name literals) = refl
to_node-tree_of (like negated name pattern) = refl
to_node-tree_of (is_null negated name) = refl
to_node-tree_of (negation a) = ap negation (to_node-tree_of a)
to_node-tree_of (both a b) = ap₂ both (to_node-tree_of a) (to_node-tree_of b)
to_node-tree_of (either a b) = ap₂ either (to_node-tree_of a) (to_node-tree_of b)

abbrev pub tree_code : Coded Tree
tree_code = code_by Node the_row.coded to_node tree_of to_node-tree_of

abbrev pub trees_code : Coded (List Tree)
trees_code = coded_list tree_code
