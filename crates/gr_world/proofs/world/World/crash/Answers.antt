use Rattle.std.proofs.Common.{◌≡◌, inr, true, false, Err, sym, ◌∙◌, subst}
use Rattle.gr_sched.specs.declared.step.Step.TheVariants as step
use Rattle.gr_topo.specs.Topology.{subscribers_of, not_empty}
use Rattle.gr_world.specs.declared.fault.WorldFault.TheVariants as fault
use Rattle.gr_world.specs.Seen.{WorldView}
use Rattle.gr_world.specs.Of.{LanesFit}
use Rattle.gr_world.specs.Opened.{Crashes}
use Rattle.gr_world.specs.Steps.{Makes}
use Rattle.gr_world.proofs.Crashing.{makes_refusal, makes_crash, noted_lanes, noted_sound, noted_lines}
use Rattle.gr_world.proofs.Fitted.{goes_on_noted, goes_on_same, not_memory}
use Rattle.gr_world.proofs.world.World.crash.Goals as goal

pub returns-then-hosts_subscriber-clause-makes : goal.returns-then-hosts_subscriber-clause-makes
returns-then-hosts_subscriber-clause-makes g c = λ sound.
    makes_refusal c.args.self.now c.args.b
    (subst (λ (w : WorldView). not_empty (subscribers_of w.topo c.args.b) ≡ true) c.self.view_is (sym c.hosts_subscriber.ensures ∙ c.if-hosts_subscriber.true))

pub returns-clause-makes : goal.returns-clause-makes
returns-clause-makes g c = λ sound.
    let old = c.args.self.now in
    let one = c.crash_at-answer.ensures in
    let none = subst (λ (w : WorldView). not_empty (subscribers_of w.topo c.args.b) ≡ false) c.self.view_is (sym c.hosts_subscriber.ensures ∙ c.if-hosts_subscriber.false) in
    subst (λ r. Makes (step.Crash c.args.b) old c.noted.new.self r) (sym c.noted.ensures.answer)
    (subst (λ (w : WorldView). Makes (step.Crash c.args.b) old w c.crash_at-answer.result) (sym c.noted.ensures.view)
    (makes_crash old c.crash_at-answer.new.self c.args.b c.crash_at-answer.result none one.carried (one.does sound)))

pub returns-clause-lanes : goal.returns-clause-lanes
returns-clause-lanes g c =
    let lanes = g.D.Disk.lane_of c.crash_at-answer.new.disk in
    subst (λ (w : WorldView). LanesFit lanes w) (sym c.noted.ensures.view) (noted_lanes lanes c.crash_at-answer.new.self c.crash_at-answer.result c.crash_at-answer.ensures.lanes)

pub returns-clause-sound : goal.returns-clause-sound
returns-clause-sound g c =
    let one = c.crash_at-answer in
    noted_sound c.args.self.now one.new.self c.noted.new.self one.result c.noted.result c.noted.ensures.answer c.noted.ensures.view one.ensures.sound one.ensures.never_reopen

pub returns-then-hosts_subscriber-clause-goes_on : goal.returns-then-hosts_subscriber-clause-goes_on
returns-then-hosts_subscriber-clause-goes_on g c = λ number lines steps told at f.
    goes_on_same (step.Crash c.args.b) (g.D.Disk.lane_of c.args.disk.now) c.args.self.now (Err (fault.HostsSubscriber c.args.b)) c.requires.broker (returns-then-hosts_subscriber-clause-makes g c f.sound) number lines steps told at f

pub returns-clause-goes_on : goal.returns-clause-goes_on
returns-clause-goes_on g c =
    let one = c.crash_at-answer in
    goes_on_noted (step.Crash c.args.b) (g.D.Disk.lane_of c.args.disk.now) (g.D.Disk.lane_of one.new.disk) c.args.self.now one.new.self c.noted.new.self one.result c.noted.result c.noted.ensures.answer c.noted.ensures.view
    c.requires.broker (returns-clause-makes g c) one.ensures.stays.topo (λ h. one.ensures.unspent) one.ensures.fits (λ m d h. one.ensures.sound h d) (λ m. one.ensures.lanes (not_memory one.result m))

pub returns-clause-crashes : goal.returns-clause-crashes
returns-clause-crashes g c =
    let one = c.crash_at-answer in
    noted_lines (Crashes c.args.b (g.D.Disk.lane_of c.args.disk.now) c.args.self.now) one.new.self c.noted.new.self one.result c.noted.result c.noted.ensures.answer c.noted.ensures.view one.ensures.crashes

pub returns-clause-touches : goal.returns-clause-touches
returns-clause-touches g c = inr c.crash_at-answer.ensures.touches
