-- Where nothing is logged the lane is as it was
use Rattle.std.proofs.Common.{refl, sym, ap, ◌∙◌}
use Rattle.gr_publog.proofs.Passing.{appends_unmade, appends_none}
use Rattle.gr_pubend.specs.declared.answers.Published.{Published}
use Rattle.gr_pubend.specs.Answers.{event_of}
use Rattle.gr_pubend.proofs.pubend.Pubend.publish.Goals as goal

pub returns-in-Err-clause-lanes : goal.returns-in-Err-clause-lanes
returns-in-Err-clause-lanes g c = λ t. appends_unmade c.stands_read.ensures c.args.self.now.log _ _ (c.requires.stands t) refl _

pub returns-in-Already-clause-lanes : goal.returns-in-Already-clause-lanes
returns-in-Already-clause-lanes g c = λ t.
    let none = ap (λ (p : Published). event_of p c.args.number c.args.event.now) (sym c.in-Ok.ensures.answer ∙ c.in-Already.is) in
    appends_none c.stands_read.ensures c.args.self.now.log _ _ (c.requires.stands t) refl _ _ none

pub returns-in-Gap-clause-lanes : goal.returns-in-Gap-clause-lanes
returns-in-Gap-clause-lanes g c = λ t.
    let none = ap (λ (p : Published). event_of p c.args.number c.args.event.now) (sym c.in-Ok.ensures.answer ∙ c.in-Gap.is) in
    appends_none c.stands_read.ensures c.args.self.now.log _ _ (c.requires.stands t) refl _ _ none

pub returns-in-Exhausted-clause-lanes : goal.returns-in-Exhausted-clause-lanes
returns-in-Exhausted-clause-lanes g c = λ t.
    let none = ap (λ (p : Published). event_of p c.args.number c.args.event.now) (sym c.in-Ok.ensures.answer ∙ c.in-Exhausted.is) in
    appends_none c.stands_read.ensures c.args.self.now.log _ _ (c.requires.stands t) refl _ _ none
