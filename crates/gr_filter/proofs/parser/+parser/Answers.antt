-- What was read so far and what is left are the parts of the whole
use Rattle.std.proofs.Common.{◌≡◌, ◌-◌, ◌+◌, arith, length, ap, sym}
use Rattle.std.proofs.lemmas.Result.{err_from_is_err_and}
use Rattle.gr_filter.specs.Tree.{tree_of}
use Rattle.gr_filter.specs.Grammar.{is_and, is_or, not_at}
use Rattle.gr_filter.proofs.Parsing.{and_begins, and_goes, and_fails, and_stops, and_ends, or_begins, or_goes, or_fails, or_stops, or_ends, open_fails, close_fails, not_plain}
use Rattle.gr_filter.proofs.parser.+parser.Goals as goal

pub and_at-returns-in_err-right-in-And-clause-gives : goal.and_at-returns-in_err-right-in-And-clause-gives
and_at-returns-in_err-right-in-And-clause-gives t c =
    let p = err_from_is_err_and c.from_residual-in_err-right-in-And.result c.from_residual-in_err-right-in-And.ensures.1 in
    rw (p.1, p.2) (and_fails c.args.bytes.now (not_at c.args.bytes.now c.args.levels) (length c.args.bytes.now - c.ands.counter) (length c.args.bytes.now - (c.ands.counter + 1)) (tree_of c.ands.found) c.ands.behind c.in_err-right-in-And.field-0.0 c.next_token-next.result _ (omega arith) (sym c.next_token-next.ensures.is) (ap is_and c.in-And.is) c.in_err-right-in-And.ensures.gives c.ands.invariant.read)

pub and_at-returns-in_default-clause-gives : goal.and_at-returns-in_default-clause-gives
and_at-returns-in_default-clause-gives t c =
    and_stops c.args.bytes.now (not_at c.args.bytes.now c.args.levels) (length c.args.bytes.now - c.ands.counter) (tree_of c.ands.found) c.ands.behind c.next_token-next.result _ (sym c.next_token-next.ensures.is) c.in_default.not-And c.ands.invariant.read

pub and_at-returns-clause-gives : goal.and_at-returns-clause-gives
and_at-returns-clause-gives t c =
    and_ends c.args.bytes.now (not_at c.args.bytes.now c.args.levels) (length c.args.bytes.now - c.ands.counter) (tree_of c.ands.found) c.ands.behind _ (omega arith) c.ands.invariant.read

pub and_at-ands-init : goal.and_at-ands-init
and_at-ands-init t c =
    let all : length c.args.bytes.now - 0 ≡ length c.args.bytes.now = omega arith in
    record {
      inside = c.in_ok-found.ensures.within;
      read = rw all (and_begins c.args.bytes.now (not_at c.args.bytes.now c.args.levels) c.args.at (tree_of c.in_ok-found.found, c.in_ok-found.behind) c.in_ok-found.ensures.gives);
    }

pub and_at-ands-preserved : goal.and_at-ands-preserved
and_at-ands-preserved t c = record {
  inside = c.in_ok-right-in-And.ensures.within;
  read = rw c.in_ok-joined-in-And.ensures (and_goes c.args.bytes.now (not_at c.args.bytes.now c.args.levels) (length c.args.bytes.now - c.ands.counter) (length c.args.bytes.now - (c.ands.counter + 1)) (tree_of c.ands.found) c.ands.behind (tree_of c.in_ok-right-in-And.right, c.in_ok-right-in-And.end) c.next_token-next.result _ (omega arith) (sym c.next_token-next.ensures.is) (ap is_and c.in-And.is) c.in_ok-right-in-And.ensures.gives c.ands.invariant.read);
}

pub or_at-returns-in_err-right-in-Or-clause-gives : goal.or_at-returns-in_err-right-in-Or-clause-gives
or_at-returns-in_err-right-in-Or-clause-gives t c =
    let p = err_from_is_err_and c.from_residual-in_err-right-in-Or.result c.from_residual-in_err-right-in-Or.ensures.1 in
    rw (p.1, p.2) (or_fails c.args.bytes.now (not_at c.args.bytes.now c.args.levels) (length c.args.bytes.now - c.ors.counter) (length c.args.bytes.now - (c.ors.counter + 1)) (tree_of c.ors.found) c.ors.behind c.in_err-right-in-Or.field-0.0 c.next_token-next.result _ (omega arith) (sym c.next_token-next.ensures.is) (ap is_or c.in-Or.is) c.in_err-right-in-Or.ensures.gives c.ors.invariant.read)

pub or_at-returns-in_default-clause-gives : goal.or_at-returns-in_default-clause-gives
or_at-returns-in_default-clause-gives t c =
    or_stops c.args.bytes.now (not_at c.args.bytes.now c.args.levels) (length c.args.bytes.now - c.ors.counter) (tree_of c.ors.found) c.ors.behind c.next_token-next.result _ (sym c.next_token-next.ensures.is) c.in_default.not-Or c.ors.invariant.read

pub or_at-returns-clause-gives : goal.or_at-returns-clause-gives
or_at-returns-clause-gives t c =
    or_ends c.args.bytes.now (not_at c.args.bytes.now c.args.levels) (length c.args.bytes.now - c.ors.counter) (tree_of c.ors.found) c.ors.behind _ (omega arith) c.ors.invariant.read

pub or_at-ors-init : goal.or_at-ors-init
or_at-ors-init t c =
    let all : length c.args.bytes.now - 0 ≡ length c.args.bytes.now = omega arith in
    record {
      inside = c.in_ok-found.ensures.within;
      read = rw all (or_begins c.args.bytes.now (not_at c.args.bytes.now c.args.levels) c.args.at (tree_of c.in_ok-found.found, c.in_ok-found.behind) c.in_ok-found.ensures.gives);
    }

pub or_at-ors-preserved : goal.or_at-ors-preserved
or_at-ors-preserved t c = record {
  inside = c.in_ok-right-in-Or.ensures.within;
  read = rw c.in_ok-joined-in-Or.ensures (or_goes c.args.bytes.now (not_at c.args.bytes.now c.args.levels) (length c.args.bytes.now - c.ors.counter) (length c.args.bytes.now - (c.ors.counter + 1)) (tree_of c.ors.found) c.ors.behind (tree_of c.in_ok-right-in-Or.right, c.in_ok-right-in-Or.end) c.next_token-next.result _ (omega arith) (sym c.next_token-next.ensures.is) (ap is_or c.in-Or.is) c.in_ok-right-in-Or.ensures.gives c.ors.invariant.read);
}

pub not_at-returns-in_err-node-in-Open-clause-gives : goal.not_at-returns-in_err-node-in-Open-clause-gives
not_at-returns-in_err-node-in-Open-clause-gives t c =
    let p = err_from_is_err_and c.from_residual-in_err-node-in-Open.result c.from_residual-in_err-node-in-Open.ensures.1 in
    rw (p.1, p.2) (open_fails c.args.bytes.now c.args.levels (c.args.levels - 1) c.args.at c.next_token-next.result c.in_err-node-in-Open.field-0.0 (omega arith) (sym c.next_token-next.ensures.is) c.in-Open.is c.in_err-node-in-Open.ensures.gives)

pub not_at-returns-in_err-behind-in-Open-clause-gives : goal.not_at-returns-in_err-behind-in-Open-clause-gives
not_at-returns-in_err-behind-in-Open-clause-gives t c =
    let p = err_from_is_err_and c.from_residual-in_err-behind-in-Open.result c.from_residual-in_err-behind-in-Open.ensures.1 in
    rw (p.1, p.2) (close_fails c.args.bytes.now c.args.levels (c.args.levels - 1) c.args.at c.next_token-next.result (tree_of c.in_ok-node-in-Open.node, c.in_ok-node-in-Open.behind) c.in_err-behind-in-Open.field-0.0 (omega arith) (sym c.next_token-next.ensures.is) c.in-Open.is c.in_ok-node-in-Open.ensures.gives (sym c.in_err-behind-in-Open.ensures.gives))

pub not_at-returns-in_default : goal.not_at-returns-in_default
not_at-returns-in_default t c = record {
  gives = rw (not_plain c.args.bytes.now c.args.levels c.args.at c.next_token-next.result (sym c.next_token-next.ensures.is) c.in_default.not-Not c.in_default.not-Open) c.test_at.ensures.gives;
  within = c.test_at.ensures.within;
}
