use Rattle.std.proofs.Common.{◌≡◌, ap, sym, ◌∙◌, subst}
use Rattle.std.specs.Prelude.{IfOk}
use Rattle.gr_scenario.specs.Scenario.{asked_by}
use Rattle.gr_soak.specs.Report.{summary_text, soak_report}
use Rattle.gr_soak.proofs.ScenarioRead.{summary_over}
use Rattle.gr_soak.proofs.running.soak_lines.Goals as goal

pub returns : goal.returns
unfolding soak_report
returns c =
    let n = c.args.n in
    let asked = sym c.in-Scenario.is ∙ c.in_ok-topology.ensures.asked ∙ ap asked_by (c.as_slice.ensures ∙ c.in_ok-text.ensures.text) ∙ c.soaks_are_scenarios.ensures n c.requires.1 in
    subst (λ text. IfOk c.summary_text.result (λ lines. lines ≡ text)) (ap (summary_text n) c.in_ok-summary-in-Scenario.ensures ∙ ap (summary_over n) asked) c.summary_text.ensures
