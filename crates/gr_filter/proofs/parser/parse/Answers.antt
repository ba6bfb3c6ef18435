-- What the grammar reads can be written down
use Rattle.gr_filter.specs.Tree.{tree_of}
use Rattle.gr_filter.proofs.OnlyWritten.{only_written}
use Rattle.gr_filter.proofs.parser.parse.Goals as goal

pub invariant_of-result : goal.invariant_of-result
invariant_of-result c = only_written c.args.text.now (tree_of c.in_ok-root.root) c.in_ok-root.behind c.in_ok-root.ensures.gives
