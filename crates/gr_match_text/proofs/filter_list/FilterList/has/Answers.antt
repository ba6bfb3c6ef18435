use Rattle.std.proofs.Common.{◌∙◌}
use Rattle.gr_match_text.proofs.Filters.{is_there}
use Rattle.gr_match_text.proofs.filter_list.FilterList.has.Goals as goal

pub returns : goal.returns
returns c = c.contains.ensures ∙ is_there c.self.inside.names.keys c.self.inside.tree c.args.self.now c.args.name.now c.self.invariant c.self.view_is
