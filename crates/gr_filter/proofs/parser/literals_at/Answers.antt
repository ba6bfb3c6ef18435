-- What was read so far and what is left are the literals of the whole
use Rattle.std.proofs.Common.{◌-◌, ◌+◌, arith, length, ap, sym}
use Rattle.std.proofs.lemmas.Result.{err_from_is_err_and}
use Rattle.gr_filter.specs.Grammar.{is_comma}
use Rattle.gr_filter.proofs.Parsing.{literals_go, literals_fail, literals_closed, literals_open, literals_closed_end, literals_open_end}
use Rattle.gr_filter.proofs.parser.literals_at.Goals as goal

pub returns-in_err-literal-in-Comma-clause-gives : goal.returns-in_err-literal-in-Comma-clause-gives
returns-in_err-literal-in-Comma-clause-gives c =
    let p = err_from_is_err_and c.from_residual-in_err-literal-in-Comma.result c.from_residual-in_err-literal-in-Comma.ensures.1 in
    rw (p.1, p.2) (literals_fail c.args.bytes.now (length c.args.bytes.now - c.literals.counter) (length c.args.bytes.now - (c.literals.counter + 1)) c.literals.found c.literals.behind c.in_err-literal-in-Comma.field-0.0 c.next_token-next.result _ (omega arith) (sym c.next_token-next.ensures.is) (ap is_comma c.in-Comma.is) c.in_err-literal-in-Comma.ensures.gives c.literals.invariant.read)

pub returns-in_err-end-in_default-clause-gives : goal.returns-in_err-end-in_default-clause-gives
returns-in_err-end-in_default-clause-gives c =
    let p = err_from_is_err_and c.from_residual-in_err-end-in_default.result c.from_residual-in_err-end-in_default.ensures.1 in
    rw (p.1, p.2) (literals_open c.args.bytes.now (length c.args.bytes.now - c.literals.counter) c.literals.found c.literals.behind c.in_err-end-in_default.field-0.0 c.next_token-next.result _ (sym c.next_token-next.ensures.is) c.in_default.not-Comma (sym c.in_err-end-in_default.ensures.gives) c.literals.invariant.read)

pub returns-in_default-clause-gives : goal.returns-in_default-clause-gives
returns-in_default-clause-gives c =
    literals_closed c.args.bytes.now (length c.args.bytes.now - c.literals.counter) c.literals.found c.literals.behind c.in_ok-end-in_default.end c.next_token-next.result _ (sym c.next_token-next.ensures.is) c.in_default.not-Comma (sym c.in_ok-end-in_default.ensures.gives) c.literals.invariant.read

pub literals-preserved : goal.literals-preserved
literals-preserved c = record {
  inside = c.in_ok-literal-in-Comma.ensures.within;
  read = rw c.in_ok-push-in-Comma.ensures.ok (literals_go c.args.bytes.now (length c.args.bytes.now - c.literals.counter) (length c.args.bytes.now - (c.literals.counter + 1)) c.literals.found c.literals.behind (c.in_ok-literal-in-Comma.literal, c.in_ok-literal-in-Comma.end) c.next_token-next.result _ (omega arith) (sym c.next_token-next.ensures.is) (ap is_comma c.in-Comma.is) c.in_ok-literal-in-Comma.ensures.gives c.literals.invariant.read);
}

pub returns-in_err-end-clause-gives : goal.returns-in_err-end-clause-gives
returns-in_err-end-clause-gives c =
    let p = err_from_is_err_and c.from_residual-in_err-end.result c.from_residual-in_err-end.ensures.1 in
    rw (p.1, p.2) (literals_open_end c.args.bytes.now (length c.args.bytes.now - c.literals.counter) c.literals.found c.literals.behind c.in_err-end.field-0.0 _ (omega arith) (sym c.in_err-end.ensures.gives) c.literals.invariant.read)

pub returns-clause-gives : goal.returns-clause-gives
returns-clause-gives c = literals_closed_end c.args.bytes.now (length c.args.bytes.now - c.literals.counter) c.literals.found c.literals.behind c.in_ok-end.end _ (omega arith) (sym c.in_ok-end.ensures.gives) c.literals.invariant.read
