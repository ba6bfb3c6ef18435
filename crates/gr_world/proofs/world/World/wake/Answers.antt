use Rattle.gr_sched.specs.declared.step.Step.TheVariants as step
use Rattle.std.proofs.Common.{ℕ, List, length, Result, sym, ap, ◌∙◌}
use Rattle.std.specs.Prelude.{is_some}
use Rattle.gr_model.specs.declared.report.Report.{Report}
use Rattle.gr_model.specs.Net.{numbers}
use Rattle.gr_model.specs.World.{World, wake_for, wake_all}
use Rattle.gr_world.specs.declared.fault.WorldFault.{WorldFault}
use Rattle.gr_world.specs.Seen.{WorldView, net_in, world_of}
use Rattle.gr_world.specs.Disk.{BarsWake}
use Rattle.gr_world.specs.Ended.{WakeEnds, EndsAt}
use Rattle.gr_world.proofs.Barring.{wake_reopens, none_there}
use Rattle.gr_world.proofs.Ending.{noted_end}
use Rattle.gr_world.proofs.Leaving.{makes_of, fits_noted, lanes_noted}
use Rattle.gr_world.proofs.Stepping.{next_wake}
use Rattle.gr_world.proofs.Fitted.{goes_on_noted}
use Rattle.gr_world.proofs.ByCalls.{lanes_none}
use Rattle.gr_world.proofs.world.World.wake.Goals as goal

pub returns-clause-makes : goal.returns-clause-makes
returns-clause-makes g c =
    let w = c.args.self.now in
    let one = c.wake_each-answer in
    makes_of (step.Wake c.args.b) w one.new.self c.noted.new.self (wake_all (net_in w) (world_of w) c.args.b)
    one.result c.noted.result c.noted.ensures.answer c.noted.ensures.view one.ensures.does one.ensures.ran.carried
    (λ n. next_wake (net_in w) (world_of w) n c.args.b)

pub returns-clause-lanes : goal.returns-clause-lanes
returns-clause-lanes g c =
    let one = c.wake_each-answer in
    lanes_noted (g.D.Disk.lane_of one.new.disk) one.new.self c.noted.new.self one.result c.noted.ensures.view one.ensures.lanes

pub returns-clause-fits : goal.returns-clause-fits
returns-clause-fits g c =
    let one = c.wake_each-answer in
    fits_noted one.new.self c.noted.new.self one.result c.noted.ensures.view one.ensures.ran.fits

pub returns-clause-reopen : goal.returns-clause-reopen
returns-clause-reopen g c = λ unspent.
    let one = c.wake_each-answer in
    wake_reopens c.args.self.now (BarsWake c.args.self.now c.args.b) one.result c.noted.result c.noted.ensures.answer (none_there c.args.self.now.down (sym (ap (λ (w : WorldView). is_some w.down) c.self.view_is) ∙ sym c.is_some.ensures ∙ c.if-is_some.false)) one.ensures.reopen

pub returns-clause-ends : goal.returns-clause-ends
returns-clause-ends g c = λ up e.
    let a = c.args.self.now in
    let one = c.wake_each-answer in
    noted_end (λ (r : Result (List Report) WorldFault) (v : WorldView). EndsAt (λ (u : World) (p : ℕ). wake_for (net_in a) u c.args.b p) (λ p. WakeEnds c.args.b p r) (numbers (length a.topo.publishers)) a v)
    one.new.self c.noted.new.self one.result c.noted.result c.noted.ensures.answer c.noted.ensures.view one.ensures.ends e

pub returns-clause-goes_on : goal.returns-clause-goes_on
returns-clause-goes_on g c =
    let one = c.wake_each-answer in
    goes_on_noted (step.Wake c.args.b) (g.D.Disk.lane_of c.args.disk.now) (g.D.Disk.lane_of one.new.disk) c.args.self.now one.new.self c.noted.new.self one.result c.noted.result c.noted.ensures.answer c.noted.ensures.view
    c.requires.broker (λ h. returns-clause-makes g c) one.ensures.ran.keeps.topo (λ h. one.ensures.ran.keeps.spent ∙ h) one.ensures.ran.fits (λ m d h. one.ensures.ran.sound.sound h d) (λ m. one.ensures.lanes)

-- a call that does not come to the disk

pub returns-then-self-clause-calls : goal.returns-then-self-clause-calls
returns-then-self-clause-calls g c = lanes_none c.args.self.now.topo (g.D.Disk.lane_of c.args.disk.now)

pub returns-then-is_some-clause-calls : goal.returns-then-is_some-clause-calls
returns-then-is_some-clause-calls g c = lanes_none c.args.self.now.topo (g.D.Disk.lane_of c.args.disk.now)
