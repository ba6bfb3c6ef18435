use Rattle.std.proofs.Common.{rules}
use Rattle.gr_match.specs.Index.{trees, matches_at}
use Rattle.gr_match.proofs.Asking.{no_rows}
use Rattle.gr_match.proofs.tree.any_asked.Goals as goal

pub returns-then-is_empty-clause-some : goal.returns-then-is_empty-clause-some
returns-then-is_empty-clause-some c = no_rows (matches_at (trees c.args.filters.now) c.args.event.now) c.args.rows.now c.args.event.now (search rules)
