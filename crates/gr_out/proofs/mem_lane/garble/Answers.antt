-- Up to the first marked byte nothing changes
use Rattle.std.proofs.Common.{◌++◌, false, replicate, length-append, refl, arith}
use Rattle.std.proofs.lemmas.List.{length-replicate}
use Rattle.gr_out.proofs.Images.{garbled_behind, garbled_done}
use Rattle.gr_out.proofs.Lanes.{none_before, one_more_behind}
use Rattle.gr_out.proofs.mem_lane.garble.Goals as goal

pub loop-i-init : goal.loop-i-init
loop-i-init c = garbled_behind c.args.pick c.args.first (replicate c.args.first false ++ c.args.fresh.now) c.args.bytes.now (none_before c.args.first c.args.fresh.now)

pub loop-i-preserved : goal.loop-i-preserved
loop-i-preserved c =
    one_more_behind c.args.pick c.args.first c.loop-i.i c.args.fresh.now c.loop-i.bytes _ _ c.garbled_byte.result
    (omega (arith, c.loop-i.auto.i)) (omega (arith, c.loop-i-test.true, c.loop-i.auto.bytes)) (omega (arith, c.requires.marked, c.loop-i.auto.bytes))
    refl c.garbled_byte.ensures c.loop-i.invariant

pub returns : goal.returns
returns c =
    garbled_done c.args.pick c.loop-i.i (replicate c.args.first false ++ c.args.fresh.now) c.loop-i.bytes _
    (omega (arith, c.loop-i-test.false, c.requires.marked, length-append (replicate c.args.first false) c.args.fresh.now, length-replicate c.args.first false)) c.loop-i.invariant
