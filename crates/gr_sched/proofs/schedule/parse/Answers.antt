-- What is read is in range by the grammar alone.
use Rattle.std.proofs.Common.{Ok, Err, length, arith}
use Rattle.gr_sched.specs.declared.step.TheConstants.{MAX_STEPS}
use Rattle.gr_sched.specs.Text.{counted_lines}
use Rattle.gr_sched.specs.Grammar.{lines_of}
use Rattle.gr_sched.proofs.InRange.{few_counted, read_range, read_all, read_cause, many_counted, within_limit, not_many}
use Rattle.gr_sched.proofs.schedule.parse.Goals as goal

pub returns-in-Ok-clause-range : goal.returns-in-Ok-clause-range
returns-in-Ok-clause-range g c = read_range (g.N.Names.naming c.args.names.now) (counted_lines c.args.steps.now) (Ok c.in-Ok.found) (c.in-Ok.ensures.gives c.in-Ok.ensures.few) c.in-Ok.ensures.limits

pub returns-in-Ok-clause-all : goal.returns-in-Ok-clause-all
returns-in-Ok-clause-all g c = read_all (g.N.Names.naming c.args.names.now) (counted_lines c.args.steps.now) (Ok c.in-Ok.found) (c.in-Ok.ensures.gives c.in-Ok.ensures.few)

pub returns-in-Ok-clause-few : goal.returns-in-Ok-clause-few
returns-in-Ok-clause-few g c = omega (arith, returns-in-Ok-clause-all g c, c.in-Ok.ensures.few)

pub returns-in-Some-clause-cause : goal.returns-in-Some-clause-cause
returns-in-Some-clause-cause g c = many_counted (counted_lines c.args.steps.now) MAX_STEPS _ c.in-Some.ensures.number

pub returns-in-Some-clause-not_many : goal.returns-in-Some-clause-not_many
returns-in-Some-clause-not_many g c few n same = omega (arith, few, returns-in-Some-clause-cause g c)

pub returns-in-None-clause-steps : goal.returns-in-None-clause-steps
returns-in-None-clause-steps g c =
    let few = few_counted (counted_lines c.args.steps.now) MAX_STEPS c.in-None.ensures.number in
    rw (within_limit (counted_lines c.args.steps.now) MAX_STEPS (lines_of (g.N.Names.naming c.args.names.now) (counted_lines c.args.steps.now)) few) (c.in-Err.ensures.gives few)

pub returns-in-None-clause-cause : goal.returns-in-None-clause-cause
returns-in-None-clause-cause g c =
    read_cause (g.N.Names.naming c.args.names.now) (counted_lines c.args.steps.now) (length (counted_lines c.args.steps.now)) (Err c.in-Err.fault)
    (c.in-Err.ensures.gives (few_counted (counted_lines c.args.steps.now) MAX_STEPS c.in-None.ensures.number))

pub returns-in-None-clause-not_many : goal.returns-in-None-clause-not_many
returns-in-None-clause-not_many g c = not_many (length (counted_lines c.args.steps.now)) (Err c.in-Err.fault) (returns-in-None-clause-cause g c)
