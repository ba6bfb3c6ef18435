use Rattle.std.proofs.Common.{cond, ap, arith}
use Rattle.gr_tick.specs.Stored.{is_told}
use Rattle.gr_curio.specs.Values.{wanted_at}
use Rattle.gr_curio.specs.declared.values.Q3.TheVariants.{N}
use Rattle.gr_curio.proofs.ChildrenLemmas.{is_put, give_child}
use Rattle.gr_curio.proofs.wants.Wants.take_out.Goals as goal

pub returns-clause-taken : goal.returns-clause-taken
returns-clause-taken c =
    let put = is_put c.self.inside.children.items c.args.self.now c.args.child c.index_mut-stream.result.now c.lower_piece.new.self c.self.view_is c.requires.child c.index_mut-stream.ensures.value in
    give_child c.lower_piece.new.self.runs _ _ _ c.lower_piece.ensures.lowered put.runs (λ t. ap (λ z. cond (is_told c.args.piece.now t) N (wanted_at z t)) put.read)

pub returns-clause-others : goal.returns-clause-others
returns-clause-others c =
    let put = is_put c.self.inside.children.items c.args.self.now c.args.child c.index_mut-stream.result.now c.lower_piece.new.self c.self.view_is c.requires.child c.index_mut-stream.ensures.value in
    put.others

pub returns-clause-spare : goal.returns-clause-spare
returns-clause-spare c =
    let put = is_put c.self.inside.children.items c.args.self.now c.args.child c.index_mut-stream.result.now c.lower_piece.new.self c.self.view_is c.requires.child c.index_mut-stream.ensures.value in
    omega (arith, c.lower_piece.ensures.spare, put.room, put.spare)

pub returns-clause-other_spares : goal.returns-clause-other_spares
returns-clause-other_spares c =
    let put = is_put c.self.inside.children.items c.args.self.now c.args.child c.index_mut-stream.result.now c.lower_piece.new.self c.self.view_is c.requires.child c.index_mut-stream.ensures.value in
    put.other_spares
