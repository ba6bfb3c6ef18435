use Rattle.std.proofs.Common.{sym, ◌∙◌}
use Rattle.gr_top.proofs.FewSteps.{few_asked}
use Rattle.gr_top.proofs.publishing.publishing_in.Goals as goal

pub publishing_over-requires : goal.publishing_over-requires
publishing_over-requires c =
    few_asked c.args.bytes.now c.in-Ok-Scenario.topology c.in-Ok-Scenario.steps (sym c.in-Ok-Scenario.ensures.asked ∙ c.in-Ok-Scenario.field-0-is)
