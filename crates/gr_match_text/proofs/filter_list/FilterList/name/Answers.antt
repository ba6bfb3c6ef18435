use Rattle.std.proofs.Common.{refl, ◌∙◌}
use Rattle.std.specs.Prelude.{Some, None}
use Rattle.gr_match_text.proofs.Filters.{name_at}
use Rattle.gr_match_text.proofs.filter_list.FilterList.name.Goals as goal

pub returns-in-Some : goal.returns-in-Some
returns-in-Some c =
    c.as_slice.ensures.value ∙ name_at c.self.inside.names.keys c.self.inside.tree c.args.self.now c.args.place c.args.place (Some c.in-Some.name.now) c.self.invariant c.self.view_is c.in-Some.ensures.key refl

pub returns-in-None : goal.returns-in-None
returns-in-None c = name_at c.self.inside.names.keys c.self.inside.tree c.args.self.now c.args.place c.args.place None c.self.invariant c.self.view_is c.in-None.ensures.key refl
