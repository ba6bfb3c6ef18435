use Rattle.std.proofs.Common.{◌≡◌, ◌+◌, ◌∷◌, length, take, drop, sym, ◌∙◌, subst, arith}
use Rattle.gr_tick.specs.Stored.{AreTickRuns, needed}
use Rattle.gr_tick.proofs.EditLemmas.{drop_read}
use Rattle.gr_tick.proofs.RoomLemmas.{needed_past}
use Rattle.gr_tick.proofs.StepLemmas.{needed_more, needed_upto}
use Rattle.gr_tick.proofs.edits.room_for.Goals as goal

-- where all runs end before the others, each of these needs room for itself
pub returns-then-is_past : goal.returns-then-is_past
returns-then-is_past g c =
    let runs = c.args.runs.now.items in
    let others = c.args.others.now.items in
    let oldest = c.get-oldest.result.now in
    let all : others ≡ oldest ∷ drop 1 others = drop_read others 0 oldest (omega arith) c.get-oldest.ensures in
    let each = subst (λ os. AreTickRuns g.V.Lattice.least os → needed runs os ≡ length os) (sym all) (λ k. needed_past g.V.Lattice.least runs oldest (drop 1 others) k (c.is_past.ensures c.if-is_past.true)) c.requires.others in
    c.len-count.ensures ∙ sym each

pub loop-i-preserved : goal.loop-i-preserved
loop-i-preserved g c =
    let more = needed_more c.args.runs.now.items c.args.others.now.items c.loop-i.i c.get-other.result.now (omega arith) c.get-other.ensures in
    let so_far : c.loop-i.room ≡ needed c.args.runs.now.items (take c.loop-i.i c.args.others.now.items) = c.loop-i.invariant in
    omega (arith, more, so_far, c.count_in.ensures, c.in-Some.ensures, c.in-Some-checked_add.ensures)

pub returns-in_default : goal.returns-in_default
returns-in_default g c =
    let more = needed_more c.args.runs.now.items c.args.others.now.items c.loop-i.i c.get-other.result.now (omega arith) c.get-other.ensures in
    omega (arith, more, needed_upto c.args.runs.now.items c.args.others.now.items (c.loop-i.i + 1), c.count_in.ensures, c.in_default.ensures)

pub returns-in_default-checked_add : goal.returns-in_default-checked_add
returns-in_default-checked_add g c =
    let more = needed_more c.args.runs.now.items c.args.others.now.items c.loop-i.i c.get-other.result.now (omega arith) c.get-other.ensures in
    let so_far : c.loop-i.room ≡ needed c.args.runs.now.items (take c.loop-i.i c.args.others.now.items) = c.loop-i.invariant in
    omega (arith, more, so_far, needed_upto c.args.runs.now.items c.args.others.now.items (c.loop-i.i + 1), c.count_in.ensures, c.in-Some.ensures, c.in_default-checked_add.ensures)
