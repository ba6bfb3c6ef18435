use Rattle.std.proofs.Common.{None, ◌∙◌}
use Rattle.gr_sched.specs.declared.step.Step.TheVariants as step
use Rattle.gr_model.specs.World.{publish_now}
use Rattle.gr_world.specs.Seen.{net_in, world_of}
use Rattle.gr_world.proofs.Leaving.{makes_of, fits_noted, lanes_noted, noted_failed, noted_closed}
use Rattle.gr_world.proofs.Stepping.{next_publish}
use Rattle.gr_world.proofs.Fitted.{goes_on_noted}
use Rattle.gr_world.proofs.ByCalls.{lanes_none}
use Rattle.gr_world.proofs.world.World.publish.Goals as goal

pub returns-clause-makes : goal.returns-clause-makes
returns-clause-makes g c =
    let w = c.args.self.now in
    let e = c.args.event.now in
    let one = c.publish_at_host-answer in
    makes_of (step.Publish c.args.p c.args.number None e) w one.new.self c.noted.new.self (publish_now (net_in w) (world_of w) c.args.p c.args.number e)
    one.result c.noted.result c.noted.ensures.answer c.noted.ensures.view one.ensures.does one.ensures.ran.carried
    (λ n. next_publish (net_in w) (world_of w) n c.args.p c.args.number e)

pub returns-clause-lanes : goal.returns-clause-lanes
returns-clause-lanes g c =
    let one = c.publish_at_host-answer in
    lanes_noted (g.D.Disk.lane_of one.new.disk) one.new.self c.noted.new.self one.result c.noted.ensures.view one.ensures.lanes

pub returns-clause-fits : goal.returns-clause-fits
returns-clause-fits g c =
    let one = c.publish_at_host-answer in
    fits_noted one.new.self c.noted.new.self one.result c.noted.ensures.view one.ensures.ran.fits

pub returns-clause-left : goal.returns-clause-left
returns-clause-left g c =
    let one = c.publish_at_host-answer in
    record {
      unchanged = λ h.
          let at = noted_closed one.new.self c.noted.new.self one.result c.noted.result c.noted.ensures.answer c.noted.ensures.view h in
          let same = one.ensures.left.unchanged at.0 in (at.1 ∙ same.0, same.1);
      failed = λ h.
          let at = noted_failed one.new.self c.noted.new.self one.result c.noted.result c.noted.ensures.answer c.noted.ensures.view h in
          at.1 ∙ one.ensures.left.failed at.0;
    }

pub returns-clause-goes_on : goal.returns-clause-goes_on
returns-clause-goes_on g c =
    let one = c.publish_at_host-answer in
    goes_on_noted (step.Publish c.args.p c.args.number None c.args.event.now) (g.D.Disk.lane_of c.args.disk.now) (g.D.Disk.lane_of one.new.disk) c.args.self.now one.new.self c.noted.new.self one.result c.noted.result c.noted.ensures.answer c.noted.ensures.view
    c.requires.publisher (λ h. returns-clause-makes g c) one.ensures.ran.keeps.topo (λ h. one.ensures.ran.keeps.spent ∙ h) one.ensures.ran.fits (λ m d h. one.ensures.ran.sound.sound h d) (λ m. one.ensures.lanes)

-- a call that does not come to the disk

pub returns-then-self-clause-calls : goal.returns-then-self-clause-calls
returns-then-self-clause-calls g c = lanes_none c.args.self.now.topo (g.D.Disk.lane_of c.args.disk.now)

pub returns-then-is_some-clause-calls : goal.returns-then-is_some-clause-calls
returns-then-is_some-clause-calls g c = lanes_none c.args.self.now.topo (g.D.Disk.lane_of c.args.disk.now)
