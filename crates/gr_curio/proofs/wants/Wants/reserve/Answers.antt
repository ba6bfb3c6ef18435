use Rattle.std.proofs.Common.{arith}
use Rattle.gr_curio.proofs.ChildrenLemmas.{is_put, put_same}
use Rattle.gr_curio.proofs.wants.Wants.reserve.Goals as goal

pub returns-clause-runs : goal.returns-clause-runs
returns-clause-runs c =
    let put = is_put c.self.inside.children.items c.args.self.now c.args.child c.index_mut-stream.result.now c.reserve.new.self c.self.view_is c.requires c.index_mut-stream.ensures.value in
    put_same _ _ _ _ _ put c.reserve.ensures.runs

pub returns-clause-spare : goal.returns-clause-spare
returns-clause-spare c =
    let put = is_put c.self.inside.children.items c.args.self.now c.args.child c.index_mut-stream.result.now c.reserve.new.self c.self.view_is c.requires c.index_mut-stream.ensures.value in
    omega (arith, c.in_ok-reserve.ensures.spare, put.spare)

pub returns-clause-others : goal.returns-clause-others
returns-clause-others c =
    let put = is_put c.self.inside.children.items c.args.self.now c.args.child c.index_mut-stream.result.now c.reserve.new.self c.self.view_is c.requires c.index_mut-stream.ensures.value in
    put.other_spares

pub returns-clause-never_less : goal.returns-clause-never_less
returns-clause-never_less c =
    let put = is_put c.self.inside.children.items c.args.self.now c.args.child c.index_mut-stream.result.now c.reserve.new.self c.self.view_is c.requires c.index_mut-stream.ensures.value in
    omega (arith, c.reserve.ensures.never_less, put.room, put.spare)
