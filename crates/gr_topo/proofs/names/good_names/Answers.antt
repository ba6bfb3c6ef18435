use Rattle.std.proofs.Common.{◌∙◌, sym}
use Rattle.gr_topo.specs.Checks.{good_name}
use Rattle.gr_topo.proofs.Walked.{list_end}
use Rattle.gr_topo.proofs.NameTurns.{bad_name, next_name}
use Rattle.gr_topo.proofs.names.good_names.Goals as goal

pub returns-then-not-is_name : goal.returns-then-not-is_name
returns-then-not-is_name c =
    bad_name c.args.names.now c.loop-name.name-index c.name-item.result c.as_slice.result.now c.as_slice-then-not-is_name.result.now c.in_ok-from_slice.field-0 c.is_name.result
    c.loop-name.invariant c.loop-name-test.true c.name-item.is c.as_slice.ensures c.is_name.ensures c.if-not-is_name.true c.as_slice-then-not-is_name.ensures c.in_ok-from_slice.ensures

pub loop-name-preserved : goal.loop-name-preserved
loop-name-preserved c =
    next_name c.args.names.now c.loop-name.name-index c.name-item.result c.as_slice.result.now c.is_name.result
    c.loop-name.invariant c.loop-name-test.true c.name-item.is c.as_slice.ensures c.is_name.ensures c.if-not-is_name.false

pub returns : goal.returns
returns c = sym c.loop-name.invariant ∙ list_end good_name tt c.args.names.now c.loop-name.name-index c.loop-name-test.false
