-- Where nothing is logged the lane is as it was
use Rattle.std.proofs.Common.{refl, sym, ap, ◌∙◌}
use Rattle.gr_publog.proofs.Passing.{appends_unmade, appends_none}
use Rattle.gr_pubend.specs.Answers.{mark_of}
use Rattle.gr_pubend.proofs.pubend.Pubend.quiet.Goals as goal

pub returns-in-Err-clause-lanes : goal.returns-in-Err-clause-lanes
returns-in-Err-clause-lanes g c = λ t. appends_unmade c.stands_read.ensures c.args.self.now.log _ _ (c.requires.stands t) refl _

pub returns-in-NotYet-clause-lanes : goal.returns-in-NotYet-clause-lanes
returns-in-NotYet-clause-lanes g c = λ t. appends_none c.stands_read.ensures c.args.self.now.log _ _ (c.requires.stands t) refl _ _ (ap mark_of (sym c.in-Ok.ensures.answer ∙ c.in-NotYet.is))
