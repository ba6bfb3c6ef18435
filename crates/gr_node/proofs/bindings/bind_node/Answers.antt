use Rattle.std.proofs.Common.{refl}
use Rattle.gr_node.proofs.BoundNodes.{one_made, one_failed, failed_moves}
use Rattle.gr_node.proofs.bindings.bind_node.Goals as goal

pub returns-in-Ok-clause-bound : goal.returns-in-Ok-clause-bound
returns-in-Ok-clause-bound g c =
    one_made c.args.site.now.topo.now c.args.site.now.hosted.now g.P.Post.tells c.args.node c.args.address.now c.is_among.result _ _ _ c.requires c.is_among.ensures c.in-Ok.ensures.journal

pub returns-in-Err-clause-bound : goal.returns-in-Err-clause-bound
returns-in-Err-clause-bound g c =
    one_failed c.args.site.now.topo.now c.args.site.now.hosted.now g.P.Post.tells c.args.node c.args.address.now c.is_among.result _ _ c.in-Err.fault c.post_fault.result (record { failed = c.post_fault.ensures.failed; memory = c.post_fault.ensures.memory }) c.in-Err.ensures.journal

pub returns-in-Err-clause-moves : goal.returns-in-Err-clause-moves
returns-in-Err-clause-moves g c = failed_moves _ _ _ c.in-Err.fault c.post_fault.result (record { failed = c.post_fault.ensures.failed; memory = c.post_fault.ensures.memory }) refl c.in-Err.ensures.cause
