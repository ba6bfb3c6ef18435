use Rattle.std.proofs.Common.{drop, length-drop, ◌∙◌, arith}
use Rattle.std.proofs.lemmas.List.{take_rest}
use Rattle.gr_audit.specs.Compared.{told_of}
use Rattle.gr_audit_run.proofs.Pieces.{told_on, told_again, told_whole}
use Rattle.gr_audit_run.proofs.telling.tell.Goals as goal

pub bytes-preserved : goal.bytes-preserved
bytes-preserved c =
    let bytes = c.args.bytes.now in
    let fits = rw (take_rest bytes c.bytes.at, length-drop) at c.in-Ok.ensures.count in
    record {
      within = omega (arith, fits);
      told = told_on bytes (told_of c.bytes.told) _ _ c.bytes.at c.in-Ok.taken c.in-Ok.ensures.bytes c.bytes.invariant.told;
      text = c.in-Ok.ensures.text ∙ c.bytes.invariant.text;
    }

pub returns-in-Err-clause-cut : goal.returns-in-Err-clause-cut
returns-in-Err-clause-cut c = λ e. (drop c.bytes.at c.args.bytes.now, told_again (told_of c.bytes.told) _ _ _ c.in-Err.ensures.err c.bytes.invariant.told)

pub returns-clause-whole : goal.returns-clause-whole
returns-clause-whole c = λ e. told_whole c.args.bytes.now (told_of c.bytes.told) _ c.bytes.at (omega arith) c.bytes.invariant.told
