use Rattle.std.proofs.Common.{ap, ◌∙◌, rules}
use Rattle.gr_match.specs.Matches.{any}
use Rattle.gr_match.specs.Index.{trees, row_at}
use Rattle.gr_match.proofs.Answer.{any_at_rest, any_in_buckets}
use Rattle.gr_match.proofs.tree.MatchTree.any.Goals as goal

pub returns-then-any_at-clause-answer : goal.returns-then-any_at-clause-answer
returns-then-any_at-clause-answer c =
    let t = c.self.inside in
    any_at_rest (trees t.filters.items) t.rest c.args.event.now c.any_at.result (search rules) c.if-any_at.true
    ∙ ap (λ fs. any fs c.args.event.now) c.self.view_is

pub returns-else-any_at-clause-answer : goal.returns-else-any_at-clause-answer
returns-else-any_at-clause-answer c =
    let t = c.self.inside in
    any_in_buckets (trees t.filters.items) t.rest (row_at t.rows) c.args.event.now c.any_at.result c.any_asked.result c.self.invariant c.any_asked.ensures.event (search rules) c.if-any_at.false (search rules)
    ∙ ap (λ fs. any fs c.args.event.now) c.self.view_is
