use Rattle.gr_replay.proofs.StepCalls.{shown}
use Rattle.gr_replay.proofs.stepping.call.Goals as goal

pub returns-in-Ok-clause-makes : goal.returns-in-Ok-clause-makes
returns-in-Ok-clause-makes g c = shown c.args.step.now c.args.world.now c.in-Ok.lines c.in-Show.is c.in-Ok.ensures.shows
