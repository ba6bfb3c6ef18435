use Rattle.gr_report_text.proofs.Rows.{line_behind}
use Rattle.gr_report_text.proofs.print.put_words.Goals as goal

pub returns : goal.returns
returns c = line_behind c.args.topo.now c.args.report.now _ _ _ c.in_ok-push_line.ensures c.in_ok-push.ensures.ok
