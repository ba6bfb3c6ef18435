-- Behind the record the piece is joined: then what is known is what the log says
use Rattle.std.proofs.Common.{refl, ap, ◌∙◌}
use Rattle.gr_publog.specs.Views.{appended}
use Rattle.gr_publog.proofs.Passing.{appends_unmade}
use Rattle.gr_pubend.specs.Log.{said, log_at}
use Rattle.gr_pubend.specs.End.{grown}
use Rattle.gr_pubend.proofs.Knowing.{stays_of}
use Rattle.gr_pubend.proofs.News.{news_follow, says_news, joined_says, end_holds, end_is}
use Rattle.gr_pubend.proofs.Standing.{leaves_ok}
use Rattle.gr_pubend.proofs.pubend.Pubend.log_and_join.Goals as goal

pub returns-in-Err-clause-lanes : goal.returns-in-Err-clause-lanes
returns-in-Err-clause-lanes g c = λ t. appends_unmade c.stands_read.ensures c.args.self.now.log _ _ (c.requires.stands t) refl _

pub append-requires-clause-follows : goal.append-requires-clause-follows
append-requires-clause-follows g c =
    let news = rw (← c.self.view_is) at c.requires.news in
    news_follow c.self.inside.log.state c.args.entry.now c.args.fresh.now news

pub invariant_of-self-in-Ok-append : goal.invariant_of-self-in-Ok-append
invariant_of-self-in-Ok-append g c =
    let old = c.self.inside in
    let r = c.args.entry.now in
    let fresh = c.args.fresh.now in
    let news = rw (← c.self.view_is) at c.requires.news in
    let known = says_news old.log old.know.runs c.self.invariant (stays_of old.log c.is_broken.ensures.state) r fresh news in
    let says = joined_says old.know.runs c.make_room.new.know.runs fresh c.join.new.self.runs (log_at (said (appended r old.log))) c.in-Ok.ensures.runs c.join.ensures.joined known in
    end_holds c.append.new.self (appended r old.log) c.join.new.self.runs says c.in-Ok-append.ensures.log.ok

pub returns-in-Ok-append-clause-end : goal.returns-in-Ok-append-clause-end
returns-in-Ok-append-clause-end g c =
    let old = c.self.inside in
    let r = c.args.entry.now in
    let fresh = c.args.fresh.now in
    let news = rw (← c.self.view_is) at c.requires.news in
    let known = says_news old.log old.know.runs c.self.invariant (stays_of old.log c.is_broken.ensures.state) r fresh news in
    let says = joined_says old.know.runs c.make_room.new.know.runs fresh c.join.new.self.runs (log_at (said (appended r old.log))) c.in-Ok.ensures.runs c.join.ensures.joined known in
    leaves_ok _ _ _ _ tt (end_is c.append.new.self (appended r old.log) c.join.new.self.runs says c.in-Ok-append.ensures.log.ok ∙ ap (grown r) c.self.view_is)
