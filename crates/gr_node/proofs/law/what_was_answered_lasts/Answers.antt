use Rattle.gr_node.proofs.AnswersLast.{upto_are_first, answer_lasts}
use Rattle.gr_node.proofs.law.what_was_answered_lasts.Goals as goal

pub returns-clause-lasts : goal.returns-clause-lasts
returns-clause-lasts c = λ hosted steps run k p n mid after below small offered l. answer_lasts c.args.topo.now hosted steps run k p n mid after below small offered l

pub returns-clause-first : goal.returns-clause-first
returns-clause-first c = λ hosted steps run k. upto_are_first c.args.topo.now hosted steps run k
