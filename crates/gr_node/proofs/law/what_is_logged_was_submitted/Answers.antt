use Rattle.gr_model.specs.NetOf.{net_of}
use Rattle.gr_node.proofs.Submitting.{numbers_rise, are_submitted, stay_first, images_first, next_answered}
use Rattle.gr_node.proofs.Spending.{spent_where_exhausted}
use Rattle.gr_node.proofs.law.what_is_logged_was_submitted.Goals as goal

pub returns-clause-numbers : goal.returns-clause-numbers
returns-clause-numbers c = λ hosted steps run done p first below. numbers_rise c.args.topo.now hosted steps run done first p below

pub returns-clause-submitted : goal.returns-clause-submitted
returns-clause-submitted c = λ hosted steps run done p es first of. are_submitted c.args.topo.now hosted steps run done first p es of

pub returns-clause-prefix : goal.returns-clause-prefix
returns-clause-prefix c = λ hosted steps run done p es first of is. stay_first c.args.topo.now hosted steps run done first p es of is

pub returns-clause-images : goal.returns-clause-images
returns-clause-images c = λ hosted steps run done p es a b of is reached. images_first c.args.topo.now hosted steps run done p es a b of is reached

pub returns-clause-answered : goal.returns-clause-answered
returns-clause-answered c = λ hosted steps run done p n first below small e. next_answered c.args.topo.now hosted steps run done first p n below small e

pub returns-clause-spent : goal.returns-clause-spent
returns-clause-spent c = λ w x below. spent_where_exhausted x (net_of c.args.topo.now) w below
