use Rattle.gr_model_theorems.proofs.alone.ServedViews.{read_may_come, served_views}
use Rattle.gr_model_theorems.proofs.alone.Alone.{obeys_alone, started_view}
use Rattle.gr_model_theorems.proofs.theorems.a_broker_alone.Goals as goal

pub returns-clause-calls : goal.returns-clause-calls
returns-clause-calls c = λ net p b now v log n quiet i j h. obeys_alone net p b now v log n quiet i j h

pub returns-clause-starts : goal.returns-clause-starts
returns-clause-starts c = λ net p b log. started_view net p b log

pub returns-clause-reads : goal.returns-clause-reads
returns-clause-reads c = λ net b bytes f are e fits. read_may_come net b bytes f are e fits

pub returns-clause-serves : goal.returns-clause-serves
returns-clause-serves c = λ net hosted logs steps arrivals n quiet are p b i j. served_views net n quiet hosted logs steps arrivals p b are i j
