use Rattle.gr_world.proofs.Stepping.{clock_makes, clock_lanes}
use Rattle.gr_world.proofs.Fitted.{clock_goes_on}
use Rattle.gr_world.proofs.world.World.clock.Goals as goal

pub returns-clause-makes : goal.returns-clause-makes
returns-clause-makes c = clock_makes _ c.args.self.now c.args.now c.max-self-inside.result c.self.view_is c.max-self-inside.ensures

pub returns-clause-lanes : goal.returns-clause-lanes
returns-clause-lanes c = clock_lanes _ c.args.self.now c.args.now c.max-self-inside.result c.self.view_is

pub returns-clause-goes_on : goal.returns-clause-goes_on
returns-clause-goes_on c = λ lanes.
    clock_goes_on _ c.args.self.now c.args.now c.max-self-inside.result lanes c.self.view_is c.requires.fits c.requires.now c.max-self-inside.ensures
