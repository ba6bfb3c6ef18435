-- One join more, or none further
use Rattle.std.proofs.Common.{◌-◌, arith}
use Rattle.std.proofs.lemmas.Result.{err_from_is_err_and}
use Rattle.gr_event.specs.declared.join.Join.{Join}
use Rattle.gr_publog.proofs.Entering.{may_stand_first, held_more, begins_upto}
use Rattle.gr_publog.proofs.Walking.{joins_on, entrant_fault, beginning_fault, joins_end}
use Rattle.gr_publog.proofs.read.joins_in.Goals as goal

pub with-requires : goal.with-requires
with-requires c =
    let j : Join = record { subscriber = c.in_ok-subscriber.subscriber; tick = c.in_ok-tick.tick } in
    may_stand_first c.args.late.now c.joins.joins j c.args.cut c.joins.invariant.held c.in_ok-subscriber.ensures.new c.in_ok-tick.ensures.begins c.requires.cut

pub joins-preserved : goal.joins-preserved
joins-preserved c =
    let j : Join = record { subscriber = c.in_ok-subscriber.subscriber; tick = c.in_ok-tick.tick } in
    let may = may_stand_first c.args.late.now c.joins.joins j c.args.cut c.joins.invariant.held c.in_ok-subscriber.ensures.new c.in_ok-tick.ensures.begins c.requires.cut in
    record {
      few = omega (arith, c.joins.invariant.few);
      within = omega (arith, c.joins.invariant.within, c.in_ok-subscriber.ensures.within, c.in_ok-tick.ensures.within);
      held = rw c.in_ok-joins.ensures (held_more c.args.late.now c.joins.joins j c.args.cut c.args.cut c.joins.invariant.held c.in_ok-subscriber.ensures.new may c.in_ok-subscriber.ensures.small (omega arith) (begins_upto c.joins.joins c.args.cut j.tick c.in_ok-tick.ensures.begins));
      reading = joins_on c.joins.more (c.joins.more - 1) c.args.total c.args.late.now c.args.cut c.joins.joins _ j.subscriber j.tick c.joins.left.now _ _ _ (omega (arith, c.joins-test.true)) c.in_ok-subscriber.ensures.gives c.in_ok-tick.ensures.gives c.in_ok-joins.ensures c.joins.invariant.reading;
    }

pub returns-in_err-subscriber-clause-gives : goal.returns-in_err-subscriber-clause-gives
returns-in_err-subscriber-clause-gives c =
    let p = err_from_is_err_and c.from_residual.result c.from_residual.ensures.1 in
    rw (p.1, p.2) (entrant_fault c.joins.more (c.joins.more - 1) c.args.total c.args.late.now c.args.cut c.joins.joins c.joins.left.now _ c.in_err-subscriber.field-0.0 (omega (arith, c.joins-test.true)) c.joins.invariant.reading c.in_err-subscriber.ensures.gives)

pub returns-in_err-tick-clause-gives : goal.returns-in_err-tick-clause-gives
returns-in_err-tick-clause-gives c =
    let p = err_from_is_err_and c.from_residual-in_err-tick.result c.from_residual-in_err-tick.ensures.1 in
    rw (p.1, p.2) (beginning_fault c.joins.more (c.joins.more - 1) c.args.total c.args.late.now c.args.cut c.joins.joins c.in_ok-subscriber.subscriber c.joins.left.now c.in_ok-subscriber.behind_subscriber.now _ c.in_err-tick.field-0.0
    (omega (arith, c.joins-test.true)) c.joins.invariant.reading c.in_ok-subscriber.ensures.gives c.in_err-tick.ensures.gives)

pub returns-clause-gives : goal.returns-clause-gives
returns-clause-gives c = joins_end c.joins.more c.args.total c.args.late.now c.args.cut c.joins.joins c.joins.left.now _ (omega (arith, c.joins-test.false)) c.joins.invariant.reading
