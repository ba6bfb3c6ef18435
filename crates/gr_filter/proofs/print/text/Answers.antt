-- The printed text reads as the filter
use Rattle.std.proofs.Common.{◌≡◌, rules}
use Rattle.gr_filter.specs.Print.{tree_text}
use Rattle.gr_filter.specs.Tree.{tree_of}
use Rattle.gr_filter.proofs.ReadsBack.{printed_reads}
use Rattle.gr_filter.proofs.print.text.Goals as goal

pub returns-clause-reads_back : goal.returns-clause-reads_back
returns-clause-reads_back c =
    let printed : c.put_node.new.out ≡ tree_text (tree_of c.args.filter.now) = search rules in
    printed_reads (tree_of c.args.filter.now) c.put_node.new.out c.root.ensures.written printed
