use Rattle.std.proofs.Common.{◌≡◌, ◌++◌, ap, ◌∙◌, rules}
use Rattle.std.specs.List.{filter}
use Rattle.std.proofs.lemmas.Result.{IfOk-weaker}
use Rattle.gr_match.specs.Matches.{matches}
use Rattle.gr_match.specs.Index.{trees, row_at, matches_at, asked}
use Rattle.gr_match.proofs.Answer.{sorted_is}
use Rattle.gr_match.proofs.tree.MatchTree.matches.Goals as goal

pub returns : goal.returns
returns c =
    let t = c.self.inside in
    let e = c.args.event.now in
    let ns = c.sort_unstable.new.self.items in
    let asks : c.in_ok-places.places.items ≡ t.rest ++ asked (row_at t.rows) e = search rules in
    let told : filter (matches_at (trees t.filters.items) e) ns ≡ matches (trees t.filters.items) e = sorted_is (trees t.filters.items) t.rest (row_at t.rows) e c.in_ok-places.places.items ns c.self.invariant c.in_ok-places.ensures.event asks c.sort_unstable.ensures.permutation c.sort_unstable.ensures.sorted in
    IfOk-weaker c.matching.result _ _
    (λ found h. h ∙ ap (λ fs. filter (matches_at (trees fs) e) c.deref-2.result.now) c.deref.ensures.value ∙ ap (filter (matches_at (trees t.filters.items) e)) c.deref-2.ensures.value ∙ told ∙ ap (λ fs. matches fs e) c.self.view_is)
    c.matching.ensures
