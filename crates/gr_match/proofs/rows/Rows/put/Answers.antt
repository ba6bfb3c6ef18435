use Rattle.gr_match.specs.Needed.{pair_of}
use Rattle.gr_match.specs.Index.{row_at}
use Rattle.gr_match.proofs.Marking.{after_put}
use Rattle.gr_match.proofs.rows.Rows.put.Goals as goal

pub invariant_of-self : goal.invariant_of-self
invariant_of-self c =
    after_put c.self.inside.marks c.add.new.self (pair_of c.args.pair) c.args.place (row_at c.self.inside.rows.items) (row_at c.put_in_row.new.rows.items) c.put_in_row.result c.add.ensures.set c.add.ensures.kept c.self.invariant c.put_in_row.ensures.ok c.put_in_row.ensures.err
