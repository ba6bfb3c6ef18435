use Rattle.std.proofs.Common.{◌∙◌, ap, length, Ok, Err}
use Rattle.gr_world.specs.declared.fault.WorldFault.TheVariants as fault
use Rattle.gr_world.specs.Seen.{WorldView}
use Rattle.gr_world.proofs.Stepping.{no_bytes_makes, bytes_makes, never_refused}
use Rattle.gr_sched.specs.declared.step.Step.TheVariants as step
use Rattle.gr_world.proofs.Fitted.{goes_on_same}
use Rattle.gr_world.proofs.world.World.bytes.Goals as goal

pub returns-in_default-clause-makes : goal.returns-in_default-clause-makes
returns-in_default-clause-makes c =
    no_bytes_makes c.args.self.now c.args.frame c.len.result c.in_default.ensures.none
    (c.len.ensures ∙ ap (λ (v : WorldView). length v.frames) c.self.view_is)

pub returns-in-Ok-clause-makes : goal.returns-in-Ok-clause-makes
returns-in-Ok-clause-makes c =
    let at = c.in-Some.ensures.some in
    bytes_makes c.args.self.now c.args.frame c.in-Some.i c.in-Ok.lines c.requires.fits at.0 at.1 c.in-Ok.ensures

pub returns-in-Ok-clause-refused : goal.returns-in-Ok-clause-refused
returns-in-Ok-clause-refused c = λ e k.
    let at = c.in-Some.ensures.some in
    absurd (never_refused c.args.self.now c.args.frame c.in-Some.i at.0 at.1 e k)

pub returns-in-Err-clause-refused : goal.returns-in-Err-clause-refused
returns-in-Err-clause-refused c = λ e k.
    let at = c.in-Some.ensures.some in
    absurd (never_refused c.args.self.now c.args.frame c.in-Some.i at.0 at.1 e k)

pub returns-in_default-clause-goes_on : goal.returns-in_default-clause-goes_on
returns-in_default-clause-goes_on c = λ lanes. goes_on_same (step.Bytes c.args.frame) lanes c.args.self.now (Err (fault.NoFrame c.len.result)) tt (returns-in_default-clause-makes c)

pub returns-in-Ok-clause-goes_on : goal.returns-in-Ok-clause-goes_on
returns-in-Ok-clause-goes_on c = λ lanes. goes_on_same (step.Bytes c.args.frame) lanes c.args.self.now (Ok c.in-Ok.lines) tt (returns-in-Ok-clause-makes c)
