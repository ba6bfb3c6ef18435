use Rattle.std.proofs.Common.{sym, ap, ◌∙◌}
use Rattle.gr_node.proofs.Offering.{ends_in, ends_said, no_other}
use Rattle.gr_node.proofs.telling.ends.Goals as goal

pub returns-in-SentKnow : goal.returns-in-SentKnow
returns-in-SentKnow c = λ n f e. ap ends_in (sym c.in-SentKnow.is ∙ e) ∙ ends_said n f

pub returns-in-SentWant : goal.returns-in-SentWant
returns-in-SentWant c = λ n f e. ap ends_in (sym c.in-SentWant.is ∙ e) ∙ ends_said n f

pub returns-in-SentExpect : goal.returns-in-SentExpect
returns-in-SentExpect c = λ n f e. ap ends_in (sym c.in-SentExpect.is ∙ e) ∙ ends_said n f

pub returns-in_default : goal.returns-in_default
returns-in_default c = λ n f e. absurd (no_other c.args.line.now n f e c.in_default.not-SentKnow c.in_default.not-SentWant c.in_default.not-SentExpect)
