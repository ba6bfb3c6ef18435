use Rattle.std.proofs.Common.{◌≡◌, ◌<◌, ◌++◌, ◌∷◌, [], length, ap, arith, rules}
use Rattle.std.proofs.lemmas.List.{length-map}
use Rattle.gr_filter.specs.Tree.{tree_of}
use Rattle.gr_match.specs.Index.{trees, row_at}
use Rattle.gr_match.proofs.Adding.{added}
use Rattle.gr_match.proofs.tree.MatchTree.add.Goals as goal

pub invariant_of-self-2 : goal.invariant_of-self-2
invariant_of-self-2 c =
    let t = c.self.inside in
    let few : length (trees t.filters.items) < 65536 = omega (arith, ap length c.self.view_is, c.requires) in
    let mapped = length-map t.filters.items (λ f. tree_of f) in
    let place : c.len-place.result ≡ length (trees t.filters.items) = omega (arith, mapped, c.len-place.ensures, c.reserve.ensures.len) in
    let more : c.push.new.self.items ≡ t.filters.items ++ c.in_ok-copy.copy ∷ [] = search rules in
    added t.filters.items c.push.new.self.items c.in_ok-copy.copy (tree_of c.args.filter.now) c.len-place.result t.rest c.enter.new.rest (row_at t.rows) (row_at c.enter.new.rows) c.self.invariant few place more c.in_ok-copy.ensures c.in_ok-enter.ensures.rest c.in_ok-enter.ensures.rows
