use Rattle.std.proofs.Common.{◌≡◌, ◌+◌, ◌≤◌, ◌∷◌, length, drop, get_or, ap, sym, ◌∙◌, subst, arith}
use Rattle.gr_tick.specs.Stored.{AreTickRuns, EndBefore, needed}
use Rattle.gr_tick.proofs.EditLemmas.{drop_read}
use Rattle.gr_tick.proofs.RoomLemmas.{needed_past}
use Rattle.gr_tick.proofs.RunsLemmas.{growth-le}
use Rattle.gr_tick.proofs.StepLemmas.{read_alone, needed-drop, needed_step, each_more}
use Rattle.gr_tick.proofs.edits.join_each.Goals as goal

-- All others come behind the runs

pub join_past-requires-clause-room : goal.join_past-requires-clause-room
join_past-requires-clause-room g c =
    let runs = c.args.runs.now.items in
    let others = c.args.others.now.items in
    let oldest = c.get-oldest.result.now in
    let all : others ≡ oldest ∷ drop 1 others = drop_read others 0 oldest (omega arith) c.get-oldest.ensures in
    let each = subst (λ os. AreTickRuns g.V.Lattice.least os → needed runs os ≡ length os) (sym all) (λ k. needed_past g.V.Lattice.least runs oldest (drop 1 others) k (c.is_past.ensures c.if-is_past.true)) c.requires.others in
    omega (arith, each, c.requires.room)

pub join_past-requires-clause-past : goal.join_past-requires-clause-past
join_past-requires-clause-past g c = λ o os e.
    let first : c.get-oldest.result.now ≡ o = c.get-oldest.ensures ∙ ap (λ xs. get_or xs 0 c.get-oldest.result.now) e in
    subst (λ r. EndBefore c.args.runs.now.items r.first) first (c.is_past.ensures c.if-is_past.true)

pub returns-then-is_past-clause-spare : goal.returns-then-is_past-clause-spare
returns-then-is_past-clause-spare g c =
    let runs = c.args.runs.now.items in
    let others = c.args.others.now.items in
    let oldest = c.get-oldest.result.now in
    let all : others ≡ oldest ∷ drop 1 others = drop_read others 0 oldest (omega arith) c.get-oldest.ensures in
    let each = subst (λ os. AreTickRuns g.V.Lattice.least os → needed runs os ≡ length os) (sym all) (λ k. needed_past g.V.Lattice.least runs oldest (drop 1 others) k (c.is_past.ensures c.if-is_past.true)) c.requires.others in
    omega (arith, each, c.join_past.ensures.spare)

-- They do not

pub join_over-requires-clause-room : goal.join_over-requires-clause-room
join_over-requires-clause-room g c =
    omega (
      arith,
      growth-le c.get-other.result.now.first c.get-other.result.now.last c.loop-i.runs.items,
      needed-drop c.loop-i.runs.items c.args.others.now.items c.loop-i.i c.get-other.result.now (omega arith) c.get-other.ensures,
    )

pub join_over-requires-clause-from_one : goal.join_over-requires-clause-from_one
join_over-requires-clause-from_one g c = (read_alone g.V.Lattice.least c.args.others.now.items c.loop-i.i c.get-other.result.now (omega arith) c.get-other.ensures c.requires.others).from_one

pub join_over-requires-clause-ordered : goal.join_over-requires-clause-ordered
join_over-requires-clause-ordered g c = (read_alone g.V.Lattice.least c.args.others.now.items c.loop-i.i c.get-other.result.now (omega arith) c.get-other.ensures c.requires.others).ordered

pub join_over-requires-clause-upto : goal.join_over-requires-clause-upto
join_over-requires-clause-upto g c = (read_alone g.V.Lattice.least c.args.others.now.items c.loop-i.i c.get-other.result.now (omega arith) c.get-other.ensures c.requires.others).upto

pub join_over-requires-clause-known : goal.join_over-requires-clause-known
join_over-requires-clause-known g c = (read_alone g.V.Lattice.least c.args.others.now.items c.loop-i.i c.get-other.result.now (omega arith) c.get-other.ensures c.requires.others).known

pub loop-i-preserved : goal.loop-i-preserved
loop-i-preserved g c =
    let first = needed-drop c.loop-i.runs.items c.args.others.now.items c.loop-i.i c.get-other.result.now (omega arith) c.get-other.ensures in
    let rest : needed c.join_over.new.runs.items (drop (c.loop-i.i + 1) c.args.others.now.items) ≤ needed c.loop-i.runs.items (drop (c.loop-i.i + 1) c.args.others.now.items) =
    needed_step g.V.Lattice.least c.loop-i.runs.items c.join_over.new.runs.items c.args.others.now.items c.loop-i.i (needed c.loop-i.runs.items (drop c.loop-i.i c.args.others.now.items)) (needed c.loop-i.runs.items (drop (c.loop-i.i + 1) c.args.others.now.items)) c.get-other.result.now (omega arith) c.get-other.ensures c.requires.others c.join_over.ensures.later (omega arith) (omega (arith, first)) in
    record {
      runs = c.join_over.ensures.runs;
      values = λ t. each_more g.V.Lattice.least g.V.Lattice.join_of g.V.Lattice.is_at_most c.args.others.now.items c.loop-i.i t c.get-other.result.now _ _ _ g.met.V.Lattice.laws (omega arith) c.get-other.ensures c.requires.others (c.loop-i.invariant.values t) (c.join_over.ensures.values t);
      room = omega (arith, first, rest, growth-le c.get-other.result.now.first c.get-other.result.now.last c.loop-i.runs.items);
      spare = omega (arith, c.loop-i.invariant.spare, first, rest, growth-le c.get-other.result.now.first c.get-other.result.now.last c.loop-i.runs.items);
    }
