use Rattle.std.proofs.Common.{ap, arith}
use Rattle.gr_tick.specs.Stored.{needed}
use Rattle.gr_curio.specs.Order.{greater_of}
use Rattle.gr_curio.specs.Values.{wanted_at}
use Rattle.gr_curio.proofs.ChildrenLemmas.{is_put, give_child}
use Rattle.gr_curio.proofs.wants.Wants.raise_ready.Goals as goal

pub returns-clause-raised : goal.returns-clause-raised
returns-clause-raised c =
    let put = is_put c.self.inside.children.items c.args.self.now c.args.child c.index_mut-stream.result.now c.join_ready.new.self c.self.view_is c.requires.child c.index_mut-stream.ensures.value in
    give_child c.join_ready.new.self.runs _ _ _ c.join_ready.ensures.joined put.runs (λ t. ap (λ z. greater_of (wanted_at z t) (wanted_at c.args.piece.now t)) put.read)

pub returns-clause-others : goal.returns-clause-others
returns-clause-others c =
    let put = is_put c.self.inside.children.items c.args.self.now c.args.child c.index_mut-stream.result.now c.join_ready.new.self c.self.view_is c.requires.child c.index_mut-stream.ensures.value in
    put.others

pub returns-clause-spare : goal.returns-clause-spare
returns-clause-spare c =
    let put = is_put c.self.inside.children.items c.args.self.now c.args.child c.index_mut-stream.result.now c.join_ready.new.self c.self.view_is c.requires.child c.index_mut-stream.ensures.value in
    omega (arith, c.join_ready.ensures.spare, put.room, put.spare, ap (λ z. needed z c.args.piece.now) put.read)

pub returns-clause-other_spares : goal.returns-clause-other_spares
returns-clause-other_spares c =
    let put = is_put c.self.inside.children.items c.args.self.now c.args.child c.index_mut-stream.result.now c.join_ready.new.self c.self.view_is c.requires.child c.index_mut-stream.ensures.value in
    put.other_spares
