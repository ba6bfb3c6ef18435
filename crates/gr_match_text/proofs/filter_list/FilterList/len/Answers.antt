use Rattle.gr_match_text.proofs.Filters.{how_many}
use Rattle.gr_match_text.proofs.filter_list.FilterList.len.Goals as goal

pub returns : goal.returns
returns c = how_many c.self.inside.names.keys c.self.inside.tree c.args.self.now c.len.result c.self.invariant c.self.view_is c.len.ensures.len
