use Rattle.std.proofs.Common.{◌∙◌, subst}
use Rattle.std.specs.Prelude.{OnOk, if◌then◌else◌, [], ◌∷◌}
use Rattle.gr_curio.specs.Wants.{runs_of, wants_of}
use Rattle.gr_model.specs.Broker.{covers, expect_frame}
use Rattle.gr_broker_relay.specs.Told.{AddsFrames}
use Rattle.gr_broker_relay.proofs.Sited.{child_number}
use Rattle.gr_broker_relay.proofs.Asked.{covers_is}
use Rattle.gr_broker_relay.proofs.AskedCalls.{tells_none, tells_one}
use Rattle.gr_broker_relay.proofs.asking.expect_one.Goals as goal

pub returns-then-covers : goal.returns-then-covers
returns-then-covers c =
    let s = c.args.site.now in
    let w = wants_of (runs_of c.args.wants.now) c.args.i in
    tells_none s.publisher s.broker c.args.tick _ w c.args.into.now (covers_is w c.args.tick c.covers.result c.covers.ensures ∙ c.if-covers.true)

pub returns : goal.returns
returns c =
    let s = c.args.site.now in
    let w = wants_of (runs_of c.args.wants.now) c.args.i in
    let number = child_number s.topo.now s.broker s.publisher c.args.i s.edges.now s.position.now c.index.result.now c.requires.site.branch c.requires.child c.index.ensures in
    subst (λ n. OnOk c.push.result (AddsFrames (if covers w c.args.tick then [] else expect_frame s.broker n s.publisher c.args.tick ∷ []) c.args.into.now c.push.new.self)) number
    (tells_one c.push.result s.publisher s.broker c.args.tick c.index.result.now.number w c.args.into.now c.push.new.self (covers_is w c.args.tick c.covers.result c.covers.ensures ∙ c.if-covers.false) c.push.ensures.cut c.push.ensures.spelled)
