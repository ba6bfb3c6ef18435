use Rattle.std.proofs.Common.{refl, sym, ◌∙◌}
use Rattle.gr_scenario.specs.Scenario.{asked_by}
use Rattle.gr_top.proofs.CutLemmas.{cut_nothing, cut_front, cut_bytes, cut_steps, cut_refused, taken_whole}
use Rattle.gr_top.proofs.replaying.replay_bytes.Goals as goal

pub returns-in-Ok-TooManyBytes-clause-cut : goal.returns-in-Ok-TooManyBytes-clause-cut
returns-in-Ok-TooManyBytes-clause-cut g c = λ cut.
    cut_bytes _ _ (asked_by c.args.bytes.now) (sym c.in-Ok-TooManyBytes.ensures.asked ∙ c.in-Ok-TooManyBytes.field-0-is)

pub returns-in-Ok-TooManySteps-clause-cut : goal.returns-in-Ok-TooManySteps-clause-cut
returns-in-Ok-TooManySteps-clause-cut g c = λ cut.
    cut_steps _ _ (asked_by c.args.bytes.now) (sym c.in-Ok-TooManySteps.ensures.asked ∙ c.in-Ok-TooManySteps.field-0-is)

pub returns-in-Ok-Refused-clause-cut : goal.returns-in-Ok-Refused-clause-cut
returns-in-Ok-Refused-clause-cut g c = λ cut.
    cut_refused _ _ (asked_by c.args.bytes.now) _ (sym c.in-Ok-Refused.ensures.asked ∙ c.in-Ok-Refused.field-0-is)

pub returns-in-Ok-Scenario-clause-cut : goal.returns-in-Ok-Scenario-clause-cut
returns-in-Ok-Scenario-clause-cut g c = λ cut.
    cut_front _ _ (asked_by c.args.bytes.now) c.in-Ok-Scenario.topology c.in-Ok-Scenario.steps (sym c.in-Ok-Scenario.ensures.asked ∙ c.in-Ok-Scenario.field-0-is)
    c.carry_out-status.ensures.meets (c.carry_out-status.ensures.front cut)

pub returns-in-Ok-Scenario-clause-replayed : goal.returns-in-Ok-Scenario-clause-replayed
returns-in-Ok-Scenario-clause-replayed g c = λ whole.
    taken_whole _ _ (asked_by c.args.bytes.now) c.in-Ok-Scenario.topology c.in-Ok-Scenario.steps (sym c.in-Ok-Scenario.ensures.asked ∙ c.in-Ok-Scenario.field-0-is)
    c.carry_out-status.ensures.meets (c.carry_out-status.ensures.printed whole)

pub returns-in-Err-clause-cut : goal.returns-in-Err-clause-cut
returns-in-Err-clause-cut g c = λ cut. cut_nothing _ _ (asked_by c.args.bytes.now) refl
