use Rattle.std.proofs.Common.{◌+◌, Some, ap, sym, ◌∙◌, arith}
use Rattle.gr_audit.specs.Compared.{ComparedView, ends_in, wrong_in}
use Rattle.gr_audit.proofs.Comparing.{at_end_line, if_ok_is}
use Rattle.gr_audit.proofs.comparison.Comparison.wrong_line.Goals as goal

pub returns-then-self-clause-line : goal.returns-then-self-clause-line
returns-then-self-clause-line c =
    if_ok_is c.line_here-then-self.result _ _ c.line_here-then-self.ensures
    (ap (λ (v : ComparedView). Some (c.args.first + ends_in v.same)) (sym c.self.view_is)
    ∙ (at_end_line c.args.first c.self.inside.at c.self.inside.text.now c.self.inside.wrong (omega arith) ∙ ap (wrong_in c.args.first) c.self.view_is))
