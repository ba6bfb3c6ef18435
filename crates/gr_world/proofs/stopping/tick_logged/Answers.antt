use Rattle.std.proofs.Common.{sym, arith}
use Rattle.gr_pubend.specs.Log.{said}
use Rattle.gr_world.proofs.BrokenAppend.{no_tick_out_of_turn, no_tick_left, tick_is}
use Rattle.gr_world.proofs.stopping.tick_logged.Goals.{then-number-last-via-then-number-last, then-number-last-via-else-number-last+then-number-last-gt1, then-settled-ge-MAX_TICK-via-then-settled-ge-MAX_TICK, then-settled-ge-MAX_TICK-via-else-settled-ge-MAX_TICK+then-now-gt-MAX_TICK}
use Rattle.gr_world.proofs.stopping.tick_logged.Goals as goal

pub returns-then-number-last : goal.returns-then-number-last
returns-then-number-last c =
    sym (no_tick_out_of_turn (said c.args.log.now) c.args.number c.args.now (λ e.
    elim c.then-number-last.branch [
      | then-number-last-via-then-number-last w ↦ absurd (omega arith)
      | then-number-last-via-else-number-last+then-number-last-gt1 w ↦ absurd (omega arith)
    ]))

pub returns-then-settled-ge-MAX_TICK : goal.returns-then-settled-ge-MAX_TICK
returns-then-settled-ge-MAX_TICK c =
    sym (no_tick_left (said c.args.log.now) c.args.number c.args.now
    (elim c.then-settled-ge-MAX_TICK.branch [
      | then-settled-ge-MAX_TICK-via-then-settled-ge-MAX_TICK w ↦ omega arith
      | then-settled-ge-MAX_TICK-via-else-settled-ge-MAX_TICK+then-now-gt-MAX_TICK w ↦ omega arith
    ]))

pub returns : goal.returns
returns c = sym (tick_is (said c.args.log.now) c.args.number c.args.now c.max.result (omega arith) (omega arith) (omega arith))
