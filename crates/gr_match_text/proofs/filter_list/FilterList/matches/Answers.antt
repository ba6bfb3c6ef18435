use Rattle.std.proofs.Common.{ap, sym, ◌∙◌}
use Rattle.std.proofs.lemmas.Result.{IfOk-weaker}
use Rattle.gr_match.specs.Matches.{matches}
use Rattle.gr_match_text.specs.Keys.{key_texts}
use Rattle.gr_match_text.specs.Matching.{filter_trees}
use Rattle.gr_match_text.proofs.Filters.{trees_are}
use Rattle.gr_match_text.proofs.filter_list.FilterList.matches.Goals as goal

pub returns : goal.returns
returns c =
    let t = c.self.inside in
    let e = c.args.event.now in
    IfOk-weaker c.matches.result _ _
    (λ places h. h ∙ ap (λ ts. matches ts e) (sym (trees_are (key_texts t.names.keys) t.tree c.self.invariant)) ∙ ap (λ fs. matches (filter_trees fs) e) c.self.view_is)
    c.matches.ensures
