use Rattle.std.proofs.Common.{◌∙◌, sym}
use Rattle.gr_topo.specs.Gives.{one_more}
use Rattle.gr_topo.specs.Draft.{address_lists}
use Rattle.gr_topo.specs.Checks.{address_in}
use Rattle.gr_topo.proofs.Faults.{fails_as}
use Rattle.gr_topo.proofs.Walked.{list_more, list_refused, list_end, one_ok, one_err}
use Rattle.gr_topo.proofs.check.addresses_of.Goals as goal

pub returns-in-Err : goal.returns-in-Err
returns-in-Err c = fails_as c.in-Err.fault (address_in (address_lists c.args.addresses.now) c.name-item.result) _
    (λ x e. sym c.loop-name.invariant ∙ list_refused (one_more (address_in (address_lists c.args.addresses.now))) c.loop-name.found.items x c.args.names.now c.loop-name.name-index c.name-item.result c.loop-name-test.true c.name-item.is
    (one_err (address_in (address_lists c.args.addresses.now)) c.loop-name.found.items c.name-item.result x e))
    c.in-Err.ensures

pub loop-name-preserved : goal.loop-name-preserved
loop-name-preserved c =
    let step = list_more (one_more (address_in (address_lists c.args.addresses.now))) c.loop-name.found.items _ c.args.names.now c.loop-name.name-index c.name-item.result c.loop-name-test.true c.name-item.is
    (one_ok (address_in (address_lists c.args.addresses.now)) c.loop-name.found.items c.name-item.result c.in-Ok.address c.in-Ok.ensures) in
    rw c.in_ok-push-in-Ok.ensures.items (sym step ∙ c.loop-name.invariant)

pub returns : goal.returns
returns c = sym c.loop-name.invariant ∙ list_end (one_more (address_in (address_lists c.args.addresses.now))) c.loop-name.found.items c.args.names.now c.loop-name.name-index c.loop-name-test.false
