use Rattle.std.proofs.Common.{arith}
use Rattle.gr_pubend.specs.Log.{said}
use Rattle.gr_pubend.proofs.Knowing.{known_by}
use Rattle.gr_pubend.proofs.Opening.{opened, are_read, cut_seen, whole_known}
use Rattle.gr_pubend.proofs.News.{joined_with}
use Rattle.gr_pubend.proofs.learning.known_by.Goals as goal

pub make_final-requires : goal.make_final-requires
make_final-requires c =
    let w = opened c.args.log.now c.is_broken.ensures.state in
    omega (arith, c.cut-cut.ensures, w.cut_upto)

pub learn_events-requires-clause-rise : goal.learn_events-requires-clause-rise
learn_events-requires-clause-rise c =
    (are_read c.args.log.now c.cut-cut.result c.settled-settled.result c.events-events.result.now c.is_broken.ensures.state c.cut-cut.ensures c.settled-settled.ensures c.events-events.ensures).rise

pub learn_events-requires-clause-upto : goal.learn_events-requires-clause-upto
learn_events-requires-clause-upto c =
    (are_read c.args.log.now c.cut-cut.result c.settled-settled.result c.events-events.result.now c.is_broken.ensures.state c.cut-cut.ensures c.settled-settled.ensures c.events-events.ensures).last_upto

pub learn_events-requires-clause-known : goal.learn_events-requires-clause-known
learn_events-requires-clause-known c = cut_seen c.cut-cut.result c.new-know.result.runs c.make_final.new.know.runs c.new-know.ensures.runs c.in_ok-make_final.ensures

pub overflow_add-last : goal.overflow_add-last
overflow_add-last c =
    let r = are_read c.args.log.now c.cut-cut.result c.settled-settled.result c.events-events.result.now c.is_broken.ensures.state c.cut-cut.ensures c.settled-settled.ensures c.events-events.ensures in
    omega (arith, c.in_ok-last.ensures.last, r.last_upto)

pub fresh_silence-requires-clause-upto : goal.fresh_silence-requires-clause-upto
fresh_silence-requires-clause-upto c =
    (are_read c.args.log.now c.cut-cut.result c.settled-settled.result c.events-events.result.now c.is_broken.ensures.state c.cut-cut.ensures c.settled-settled.ensures c.events-events.ensures).settled_upto

pub returns : goal.returns
returns c =
    let each =
    whole_known c.args.log.now c.cut-cut.result c.in_ok-last.last c.settled-settled.result c.events-events.result.now c.learn_events.new.know.runs c.join.new.self.runs
    (opened c.args.log.now c.is_broken.ensures.state) c.cut-cut.ensures c.settled-settled.ensures c.events-events.ensures c.in_ok-last.ensures.last c.in_ok-last.ensures.known (joined_with c.in_ok-silence.silence _ c.learn_events.new.know.runs c.make_room.new.know.runs c.join.new.self.runs c.make_room.ensures.runs c.in_ok-silence.ensures c.join.ensures.joined) in
    record { known = known_by (said c.args.log.now) c.join.new.self.runs each; each = each }
