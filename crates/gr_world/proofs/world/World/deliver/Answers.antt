use Rattle.std.proofs.Common.{◌≡◌, ◌∙◌, ap, length, [], Some, Err, get_or}
use Rattle.gr_sched.specs.declared.step.Step.TheVariants as step
use Rattle.gr_model.specs.World.{deliver_frame, frame_at}
use Rattle.gr_world.specs.declared.fault.WorldFault.TheVariants as fault
use Rattle.gr_world.specs.Seen.{WorldView, net_in, world_of, frame_said}
use Rattle.gr_world.proofs.Leaving.{makes_of, fits_noted, refuses_none, lanes_kept, lanes_noted}
use Rattle.gr_world.proofs.Stepping.{next_deliver, frame_found, no_frame_makes, frame_not_refused}
use Rattle.gr_world.proofs.Fitted.{goes_on_noted, goes_on_same}
use Rattle.gr_world.proofs.world.World.deliver.Goals as goal

pub returns-in_default-clause-makes : goal.returns-in_default-clause-makes
returns-in_default-clause-makes c =
    no_frame_makes c.args.self.now c.args.frame c.len.result c.in_default.ensures.none
    (c.len.ensures ∙ ap (λ (v : WorldView). length v.frames) c.self.view_is)

pub returns-then-is_some-clause-refused : goal.returns-then-is_some-clause-refused
returns-then-is_some-clause-refused c =
    let w = c.args.self.now in
    let at = c.in-Some.ensures.some in
    refuses_none (step.Deliver c.args.frame) w w (Err fault.Reopen) (frame_not_refused w c.args.frame c.in-Some.i at.0 at.1) tt

pub returns-clause-makes : goal.returns-clause-makes
returns-clause-makes c =
    let w = c.args.self.now in
    let at = c.in-Some.ensures.some in
    let f = frame_said (get_or w.frames c.in-Some.i []) in
    let one = c.deliver_at-answer in
    let found : frame_at (world_of w) c.args.frame ≡ Some f = rw at.0 (frame_found w c.in-Some.i at.1) in
    makes_of (step.Deliver c.args.frame) w one.new.self c.noted.new.self (deliver_frame (net_in w) (world_of w) f)
    one.result c.noted.result c.noted.ensures.answer c.noted.ensures.view (one.ensures.does f (frame_found w c.in-Some.i at.1)) one.ensures.ran.carried
    (λ n. next_deliver (net_in w) (world_of w) n c.args.frame f found)

pub returns-clause-refused : goal.returns-clause-refused
returns-clause-refused c =
    let w = c.args.self.now in
    let at = c.in-Some.ensures.some in
    let one = c.deliver_at-answer in
    refuses_none (step.Deliver c.args.frame) w c.noted.new.self c.noted.result (frame_not_refused w c.args.frame c.in-Some.i at.0 at.1)
    (rw c.noted.ensures.answer one.ensures.ran.carried)

pub returns-clause-lanes : goal.returns-clause-lanes
returns-clause-lanes c = λ lanes f.
    let one = c.deliver_at-answer in
    lanes_noted lanes one.new.self c.noted.new.self one.result c.noted.ensures.view (lanes_kept one.ensures.ran.keeps one.ensures.logs f)

pub returns-clause-fits : goal.returns-clause-fits
returns-clause-fits c =
    let one = c.deliver_at-answer in
    fits_noted one.new.self c.noted.new.self one.result c.noted.ensures.view one.ensures.ran.fits

pub returns-in_default-clause-goes_on : goal.returns-in_default-clause-goes_on
returns-in_default-clause-goes_on c = λ lanes.
    goes_on_same (step.Deliver c.args.frame) lanes c.args.self.now (Err (fault.NoFrame c.len.result)) tt (returns-in_default-clause-makes c)

pub returns-clause-goes_on : goal.returns-clause-goes_on
returns-clause-goes_on c = λ lanes number lines steps told at f.
    let one = c.deliver_at-answer in
    goes_on_noted (step.Deliver c.args.frame) lanes lanes c.args.self.now one.new.self c.noted.new.self one.result c.noted.result c.noted.ensures.answer c.noted.ensures.view
    tt (λ h. returns-clause-makes c) one.ensures.ran.keeps.topo (λ h. one.ensures.ran.keeps.spent ∙ h) one.ensures.ran.fits (λ m d h. one.ensures.ran.sound.sound h d)
    (λ m. lanes_kept one.ensures.ran.keeps one.ensures.logs f.lanes_fit) number lines steps told at f
