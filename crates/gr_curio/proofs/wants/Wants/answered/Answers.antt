use Rattle.std.proofs.Common.{ap, ◌∙◌}
use Rattle.gr_tick.specs.Stored.{within}
use Rattle.gr_curio.specs.Values.{wanted_at}
use Rattle.gr_curio.specs.Wants.{answered_of}
use Rattle.gr_curio.proofs.MarkLemmas.{answered_is}
use Rattle.gr_curio.proofs.ChildrenLemmas.{is_put, give_child}
use Rattle.gr_curio.proofs.wants.Wants.answered.Goals as goal

pub returns-clause-answered : goal.returns-clause-answered
returns-clause-answered c =
    let put = is_put c.self.inside.children.items c.args.self.now c.args.child c.index_mut-stream.result.now c.mark_asked.new.stream c.self.view_is c.requires.child c.index_mut-stream.ensures.value in
    give_child c.mark_asked.new.stream.runs _ _ _ c.in_ok-mark_asked.ensures.marked put.runs
    (λ t. answered_is (within c.args.first c.args.last t) _ _ (c.in_ok-piece.ensures.values t) ∙ ap (λ z. answered_of (within c.args.first c.args.last t) (wanted_at z t)) put.read)

pub returns-clause-others : goal.returns-clause-others
returns-clause-others c =
    let put = is_put c.self.inside.children.items c.args.self.now c.args.child c.index_mut-stream.result.now c.mark_asked.new.stream c.self.view_is c.requires.child c.index_mut-stream.ensures.value in
    put.others
