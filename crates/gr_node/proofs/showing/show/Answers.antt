use Rattle.std.proofs.Common.{sym, subst}
use Rattle.gr_report.specs.Named.{AllNamed}
use Rattle.gr_node.specs.Seen.{seen}
use Rattle.gr_node.proofs.ShownLines.{all_shown, shown_named}
use Rattle.gr_node.proofs.showing.show.Goals as goal

pub returns-clause-shows : goal.returns-clause-shows
returns-clause-shows c =
    all_shown c.args.site.now.topo.now c.args.site.now.hosted.now (seen c.args.node.now) c.new-lines.result c.push.new.self c.tell_logs.new.into c.tell_brokers.new.into
    c.new-lines.ensures c.in_ok-push.ensures.ok c.in_ok-tell_logs.ensures c.in_ok-tell_brokers.ensures

pub returns-clause-named : goal.returns-clause-named
returns-clause-named c =
    let t = c.args.site.now.topo.now in
    let hosted = c.args.site.now.hosted.now in
    let n = seen c.args.node.now in
    let all = all_shown t hosted n c.new-lines.result c.push.new.self c.tell_logs.new.into c.tell_brokers.new.into
    c.new-lines.ensures c.in_ok-push.ensures.ok c.in_ok-tell_logs.ensures c.in_ok-tell_brokers.ensures in
    subst (AllNamed t) (sym all) (shown_named t hosted n c.requires.hosted)
