-- Behind the cut all up to it is made final: then what is known is what the log says
use Rattle.std.proofs.Common.{refl, ap, ◌∙◌}
use Rattle.gr_pubend.specs.Log.{said, log_at}
use Rattle.gr_pubend.specs.Cuts.{cut_view}
use Rattle.gr_pubend.specs.End.{cut_end}
use Rattle.gr_pubend.proofs.Knowing.{stays_of}
use Rattle.gr_pubend.proofs.News.{says_cut, finished_says, end_holds, end_is}
use Rattle.gr_pubend.proofs.Cuts.{cuts_unmade}
use Rattle.gr_pubend.proofs.Standing.{leaves_ok}
use Rattle.gr_pubend.proofs.pubend.Pubend.cut_to.Goals as goal

pub returns-in-Err-clause-lanes : goal.returns-in-Err-clause-lanes
returns-in-Err-clause-lanes g c = λ t. cuts_unmade c.stands_read.ensures c.args.self.now.log _ _ (c.requires.stands t) refl _ _

pub invariant_of-self-in-Ok-cut_log : goal.invariant_of-self-in-Ok-cut_log
invariant_of-self-in-Ok-cut_log g c =
    let old = c.self.inside in
    let past = rw (← c.self.view_is) at c.requires.past in
    let upto = rw (← c.self.view_is) at c.requires.upto in
    let target = cut_view c.args.reclaim c.args.tick old.log in
    let known = says_cut old.log old.know.runs c.self.invariant (stays_of old.log c.is_broken.ensures.state) c.args.reclaim c.args.tick past upto in
    let says = finished_says old.know.runs c.reserve.new.self.runs c.finish_ready.new.self.runs c.args.tick (log_at (said target)) c.in-Ok.ensures.runs c.finish_ready.ensures.finished known in
    end_holds c.cut_log.new.log target c.finish_ready.new.self.runs says c.in-Ok-cut_log.ensures.log.ok

pub returns-in-Ok-cut_log-clause-end : goal.returns-in-Ok-cut_log-clause-end
returns-in-Ok-cut_log-clause-end g c =
    let old = c.self.inside in
    let past = rw (← c.self.view_is) at c.requires.past in
    let upto = rw (← c.self.view_is) at c.requires.upto in
    let target = cut_view c.args.reclaim c.args.tick old.log in
    let known = says_cut old.log old.know.runs c.self.invariant (stays_of old.log c.is_broken.ensures.state) c.args.reclaim c.args.tick past upto in
    let says = finished_says old.know.runs c.reserve.new.self.runs c.finish_ready.new.self.runs c.args.tick (log_at (said target)) c.in-Ok.ensures.runs c.finish_ready.ensures.finished known in
    leaves_ok _ _ _ _ _ (end_is c.cut_log.new.log target c.finish_ready.new.self.runs says c.in-Ok-cut_log.ensures.log.ok ∙ ap (cut_end c.args.reclaim c.args.tick) c.self.view_is)
