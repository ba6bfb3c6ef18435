use Rattle.clap.specs.Words.{fault_of}
use Rattle.gr_top.specs.declared.words.Task.TheVariants.{Replay, Audit, Match, Cover}
use Rattle.gr_top.specs.Words.{texts_of, replay_app, audit_app, match_app, cover_app}
use Rattle.gr_top.proofs.WordLemmas.{kept_in_range}
use Rattle.gr_top.proofs.words.task_of.Goals as goal

pub returns-then-eq-clause-range : goal.returns-then-eq-clause-range
returns-then-eq-clause-range c =
    kept_in_range (fault_of replay_app (texts_of c.args.words.now)) Replay c.bare_task.result tt c.bare_task.ensures

pub returns-then-eq-5-clause-range : goal.returns-then-eq-5-clause-range
returns-then-eq-5-clause-range c =
    kept_in_range (fault_of audit_app (texts_of c.args.words.now)) Audit c.bare_task-then-eq-5.result tt c.bare_task-then-eq-5.ensures

pub returns-then-eq-6-clause-range : goal.returns-then-eq-6-clause-range
returns-then-eq-6-clause-range c =
    kept_in_range (fault_of match_app (texts_of c.args.words.now)) Match c.bare_task-then-eq-6.result tt c.bare_task-then-eq-6.ensures

pub returns-then-eq-7-clause-range : goal.returns-then-eq-7-clause-range
returns-then-eq-7-clause-range c =
    kept_in_range (fault_of cover_app (texts_of c.args.words.now)) Cover c.bare_task-then-eq-7.result tt c.bare_task-then-eq-7.ensures
