use Rattle.gr_filter.proofs.Exact.{exact}
use Rattle.gr_filter.proofs.laws.reads_what_derives.Goals as goal

pub returns : goal.returns
returns c = exact
