use Rattle.std.proofs.Common.{◌≡◌, ◌<◌, length, arith, ap, sym, refl, ◌∙◌}
use Rattle.std.specs.List.{slice_get}
use Rattle.std.proofs.lemmas.List.{length-map}
use Rattle.gr_match_text.specs.Keys.{key_texts}
use Rattle.gr_match_text.specs.Matching.{filter_trees}
use Rattle.gr_match_text.proofs.Filters.{trees_are, trees_count}
use Rattle.gr_match_text.proofs.filter_list.FilterList.filter.Goals as goal

pub filter-requires : goal.filter-requires
filter-requires c =
    let t = c.self.inside in
    omega (arith, c.requires, trees_count (key_texts t.names.keys) t.tree c.args.self.now c.self.invariant c.self.view_is)

pub returns : goal.returns
returns c =
    let t = c.self.inside in
    ap (λ fs. slice_get (filter_trees fs) c.args.place) (sym c.self.view_is)
    ∙ ap (λ ts. slice_get ts c.args.place) (trees_are (key_texts t.names.keys) t.tree c.self.invariant)
    ∙ c.filter.ensures
