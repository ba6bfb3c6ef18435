use Rattle.std.proofs.Common.{Ok, ap, sym, ◌∙◌, arith}
use Rattle.gr_audit.proofs.Journals.{differs_here, same_here, one_more}
use Rattle.gr_audit.proofs.Sound.{come_here}
use Rattle.gr_audit.proofs.auditing.compare_all.Goals as goal

pub compare-requires-clause-come : goal.compare-requires-clause-come
compare-requires-clause-come g c =
    come_here c.args.topo.now c.args.journals.now c.journals.journal-index c.journal-item.result c.requires.come (omega (arith, c.journals-test.true)) c.journal-item.is

pub returns-in-Some-clause-line : goal.returns-in-Some-clause-line
returns-in-Some-clause-line g c =
    differs_here (g.M.Machine.behaves c.args.machine.now c.args.topo.now) c.args.topo.now c.args.journals.now c.journals.journal-index c.journal-item.result c.in-Some.line c.journals.invariant.line (omega (arith, c.journals-test.true)) c.journal-item.is
    (sym c.in-Some.is ∙ c.in_ok-line.ensures.line)

pub journals-preserved : goal.journals-preserved
journals-preserved g c =
    let b = g.M.Machine.behaves c.args.machine.now c.args.topo.now in
    record {
      line = same_here b c.args.topo.now c.args.journals.now c.journals.journal-index c.journal-item.result c.journals.invariant.line (omega (arith, c.journals-test.true)) c.journal-item.is (sym c.in_default.is ∙ c.in_ok-line.ensures.line);
      noted = one_more b c.args.topo.now c.args.journals.now c.journals.journal-index c.journal-item.result c.args.links.now c.journals.links c.compare.new.links c.end_journal.new.self c.requires.none (omega (arith, c.journals-test.true)) c.journal-item.is
          c.journals.invariant.noted (c.in_ok-line.ensures.noted (ap Ok c.in_default.is)) c.in_ok-end_journal.ensures;
    }
