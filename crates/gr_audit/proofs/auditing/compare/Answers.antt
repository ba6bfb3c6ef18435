use Rattle.std.proofs.Common.{Ok, ap, ap₂, ◌∙◌}
use Rattle.gr_journal.specs.Lines.{rising}
use Rattle.gr_audit.proofs.Differing.{fresh, start, whole_line, cut_line, come_is}
use Rattle.gr_audit.proofs.auditing.compare.Goals as goal

pub run-requires-clause-rising : goal.run-requires-clause-rising
run-requires-clause-rising g c =
    (c.args.journal.now.brokers, c.as_slice-4.ensures ∙ (c.in_ok-brokers.ensures ∙ ap (rising c.args.topo.now) c.as_slice.ensures))

pub run-requires-clause-come : goal.run-requires-clause-come
run-requires-clause-come g c =
    come_is c.as_slice-4.result.now (rising c.args.topo.now c.args.journal.now.brokers) c.new-given.result c.args.journal.now.came c.args.links.now
    (c.as_slice-4.ensures ∙ (c.in_ok-brokers.ensures ∙ ap (rising c.args.topo.now) c.as_slice.ensures)) (c.new-given.ensures ∙ ap₂ start c.as_slice-2.ensures c.replace.ensures.value) c.requires.come

pub returns-in-Whole-clause-line : goal.returns-in-Whole-clause-line
returns-in-Whole-clause-line g c =
    whole_line (g.M.Machine.behaves c.args.machine.now c.args.topo.now) c.args.topo.now c.args.journal.now c.as_slice-4.result.now c.new-given.result c.run.new.given c.new-told.result c.run.new.told c.args.links.now c.wrong_line.result
    (c.as_slice-4.ensures ∙ (c.in_ok-brokers.ensures ∙ ap (rising c.args.topo.now) c.as_slice.ensures)) (c.new-given.ensures ∙ ap₂ start c.as_slice-2.ensures c.replace.ensures.value) (c.new-told.ensures ∙ ap fresh c.as_slice-3.ensures)
    (c.in_ok-run.ensures.whole (ap Ok c.in-Whole.is)) c.wrong_line.ensures.other c.wrong_line.ensures.line

pub returns-clause-line : goal.returns-clause-line
returns-clause-line g c =
    cut_line (g.M.Machine.behaves c.args.machine.now c.args.topo.now) c.args.topo.now c.args.journal.now c.as_slice-4.result.now c.new-given.result c.new-told.result c.run.new.told c.args.links.now c.wrong_line-in-Cut.result
    (c.as_slice-4.ensures ∙ (c.in_ok-brokers.ensures ∙ ap (rising c.args.topo.now) c.as_slice.ensures)) (c.new-given.ensures ∙ ap₂ start c.as_slice-2.ensures c.replace.ensures.value) (c.new-told.ensures ∙ ap fresh c.as_slice-3.ensures)
    (c.in_ok-run.ensures.cut (ap Ok c.in-Cut.is)) c.wrong_line-in-Cut.ensures.other c.wrong_line-in-Cut.ensures.line
