use Rattle.std.proofs.Common.{◌∙◌, ap, length, Ok}
use Rattle.gr_world.specs.Seen.{WorldView}
use Rattle.gr_sched.specs.declared.step.Step.TheVariants as step
use Rattle.gr_world.proofs.Shown.{shown}
use Rattle.gr_world.proofs.Fitted.{goes_on_same, show_makes}
use Rattle.gr_world.proofs.world.World.show.Goals as goal

pub returns-clause-shows : goal.returns-clause-shows
returns-clause-shows c =
    shown c.args.self.now c.len.result c.new-lines.result c.push.new.self c.tell_logs.new.into c.tell_all_horizons.new.into
    (c.len.ensures ∙ ap (λ (v : WorldView). length v.frames) c.self.view_is) c.new-lines.ensures c.in_ok-push.ensures.ok c.in_ok-tell_logs.ensures c.in_ok-tell_all_horizons.ensures

pub returns-clause-goes_on : goal.returns-clause-goes_on
returns-clause-goes_on c = λ lanes.
    goes_on_same step.Show lanes c.args.self.now (Ok c.tell_all_horizons.new.into) tt (show_makes c.args.self.now c.tell_all_horizons.new.into (returns-clause-shows c))
