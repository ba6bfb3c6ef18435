use Rattle.std.proofs.Common.{◌≡◌, List, length, Result, Err, sym, ap, ◌∙◌, subst, arith}
use Rattle.std.specs.Prelude.{is_some}
use Rattle.gr_model.specs.declared.report.Report.{Report}
use Rattle.gr_model.specs.Net.{numbers}
use Rattle.gr_model.specs.World.{sweep_for, sweep_moment}
use Rattle.gr_model_calls.proofs.runs.Schedules.{length_numbers}
use Rattle.gr_broker.specs.Seen.{log_said}
use Rattle.gr_world.specs.declared.fault.WorldFault.{WorldFault}
use Rattle.gr_world.specs.declared.fault.WorldFault.TheVariants as fault
use Rattle.gr_world.specs.Seen.{WorldView, log_at, net_in, world_of}
use Rattle.gr_world.specs.Sweeps.{at_moment}
use Rattle.gr_world.specs.Moments.{CallsLanes}
use Rattle.gr_world.specs.Ended.{EndsAt, SweepEnds}
use Rattle.gr_world.proofs.Barring.{sweep_reopens, none_there}
use Rattle.gr_world.proofs.Ending.{noted_end}
use Rattle.gr_world.proofs.Swept.{noted_fits, noted_lanes, noted_sound, moved_lanes, past_makes, swept_makes}
use Rattle.gr_sched.specs.declared.step.Step.TheVariants as step
use Rattle.gr_world.specs.Of.{IsSound}
use Rattle.gr_world.proofs.Fitted.{goes_on_noted, goes_on_same, settles_within}
use Rattle.gr_world.proofs.ByCalls.{lanes_none}
use Rattle.gr_world.proofs.world.World.sweep.Goals as goal

pub returns-then-moment-gt-MAX_TICK-clause-makes :
    goal.returns-then-moment-gt-MAX_TICK-clause-makes
returns-then-moment-gt-MAX_TICK-clause-makes g c =
    past_makes c.args.self.now c.sweep_moment-moment.result c.sweep_moment-moment.ensures (omega (arith, c.if-moment-gt-MAX_TICK.true))

pub sweep_all-answer-requires-clause-lanes : goal.sweep_all-answer-requires-clause-lanes
sweep_all-answer-requires-clause-lanes g c =
    moved_lanes (g.D.Disk.lane_of c.args.disk.now) c.args.self.now c.move_clock.new.self c.sweep_moment-moment.result c.move_clock.ensures c.requires.lanes

pub returns-clause-makes : goal.returns-clause-makes
returns-clause-makes g c =
    swept_makes c.args.self.now c.sweep_moment-moment.result c.sweep_moment-moment.ensures (omega (arith, c.if-moment-gt-MAX_TICK.false))
    c.move_clock.new.self c.sweep_all-answer.new.self c.noted.new.self c.sweep_all-answer.result c.noted.result c.move_clock.ensures c.noted.ensures.answer c.noted.ensures.view c.sweep_all-answer.ensures.ran.carried c.sweep_all-answer.ensures.does

pub returns-clause-sound : goal.returns-clause-sound
returns-clause-sound g c =
    noted_sound c.args.self.now c.move_clock.new.self c.sweep_all-answer.new.self c.noted.new.self c.sweep_moment-moment.result c.sweep_all-answer.result c.noted.result c.move_clock.ensures c.noted.ensures.answer c.noted.ensures.view c.sweep_all-answer.ensures.ran

pub returns-clause-lanes : goal.returns-clause-lanes
returns-clause-lanes g c =
    noted_lanes (g.D.Disk.lane_of c.sweep_all-answer.new.disk) c.sweep_all-answer.new.self c.noted.new.self c.sweep_all-answer.result c.noted.ensures.view c.sweep_all-answer.ensures.lanes

pub returns-clause-fits : goal.returns-clause-fits
returns-clause-fits g c = noted_fits c.sweep_all-answer.new.self c.noted.new.self c.sweep_all-answer.result c.noted.ensures.view c.sweep_all-answer.ensures.ran.fits

pub returns-clause-reopen : goal.returns-clause-reopen
returns-clause-reopen g c = λ unspent none.
    let a = c.args.self.now in
    sweep_reopens a c.move_clock.new.self c.sweep_moment-moment.result c.sweep_all-answer.result c.noted.result c.sweep_moment-moment.ensures (length_numbers (λ p. log_said (log_at a p)) 0 (length a.topo.publishers))
    c.move_clock.ensures c.noted.ensures.answer c.sweep_all-answer.ensures.ran.carried c.sweep_all-answer.ensures.ran.reopen c.sweep_all-answer.ensures.bars (none_there c.args.self.now.down (sym (ap (λ (w : WorldView). is_some w.down) c.self.view_is) ∙ sym c.is_some.ensures ∙ c.if-is_some.false))

pub returns-clause-ends : goal.returns-clause-ends
returns-clause-ends g c = λ up e.
    let a = c.args.self.now in
    let m = c.sweep_moment-moment in
    let moved : c.move_clock.new.self ≡ at_moment a (sweep_moment (net_in a) (world_of a)) = c.move_clock.ensures ∙ ap (at_moment a) m.ensures in
    noted_end (λ (r : Result (List Report) WorldFault) (v : WorldView). EndsAt (sweep_for (net_in a)) (SweepEnds (net_in a) r) (numbers (length a.topo.publishers)) (at_moment a (sweep_moment (net_in a) (world_of a))) v)
    c.sweep_all-answer.new.self c.noted.new.self c.sweep_all-answer.result c.noted.result c.noted.ensures.answer c.noted.ensures.view
    (λ h. subst (λ (u : WorldView). EndsAt (sweep_for (net_in u)) (SweepEnds (net_in u) c.sweep_all-answer.result) (numbers (length u.topo.publishers)) u c.sweep_all-answer.new.self) moved (c.sweep_all-answer.ensures.ends h)) e

pub returns-then-moment-gt-MAX_TICK-clause-goes_on : goal.returns-then-moment-gt-MAX_TICK-clause-goes_on
returns-then-moment-gt-MAX_TICK-clause-goes_on g c =
    goes_on_same step.Sweep (g.D.Disk.lane_of c.args.disk.now) c.args.self.now (Err (fault.ClockRange c.sweep_moment-moment.result)) tt (returns-then-moment-gt-MAX_TICK-clause-makes g c)

pub returns-clause-goes_on : goal.returns-clause-goes_on
returns-clause-goes_on g c =
    let a = c.args.self.now in
    let one = c.sweep_all-answer in
    let moved = c.move_clock.ensures in
    goes_on_noted step.Sweep (g.D.Disk.lane_of c.args.disk.now) (g.D.Disk.lane_of one.new.disk) a one.new.self c.noted.new.self one.result c.noted.result c.noted.ensures.answer c.noted.ensures.view
    tt (λ h. returns-clause-makes g c) (one.ensures.ran.keeps.topo ∙ ap (λ (w : WorldView). w.topo) moved) (λ h. one.ensures.ran.keeps.spent ∙ (ap (λ (w : WorldView). w.spent) moved ∙ h)) one.ensures.ran.fits
    (λ m d h. one.ensures.ran.sound.sound (subst IsSound (sym moved) (record { logs = h.logs; up = h.up })) d) (λ m. one.ensures.lanes)

pub returns-clause-settles : goal.returns-clause-settles
returns-clause-settles g c =
    settles_within c.args.self.now c.noted.new.self (g.D.Disk.lane_of c.args.disk.now) c.noted.result c.sweep_moment-moment.result c.sweep_moment-moment.ensures (omega (arith, c.if-moment-gt-MAX_TICK.false)) (returns-clause-makes g c)

pub returns-clause-calls : goal.returns-clause-calls
returns-clause-calls g c =
    subst (λ (w : WorldView). CallsLanes w.topo (g.D.Disk.lane_of c.args.disk.now) (g.D.Disk.lane_of c.sweep_all-answer.new.disk)) c.move_clock.ensures c.sweep_all-answer.ensures.calls

-- a call that does not come to the disk

pub returns-then-self-clause-calls : goal.returns-then-self-clause-calls
returns-then-self-clause-calls g c = lanes_none c.args.self.now.topo (g.D.Disk.lane_of c.args.disk.now)

pub returns-then-moment-gt-MAX_TICK-clause-calls : goal.returns-then-moment-gt-MAX_TICK-clause-calls
returns-then-moment-gt-MAX_TICK-clause-calls g c = lanes_none c.args.self.now.topo (g.D.Disk.lane_of c.args.disk.now)

pub returns-then-is_some-clause-calls : goal.returns-then-is_some-clause-calls
returns-then-is_some-clause-calls g c = lanes_none c.args.self.now.topo (g.D.Disk.lane_of c.args.disk.now)
