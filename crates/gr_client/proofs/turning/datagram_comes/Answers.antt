use Rattle.std.proofs.Common.{◌≡◌, refl, ap, ◌∙◌, arith}
use Rattle.gr_note.specs.Decode.{note_decoded}
use Rattle.gr_out.proofs.Fronts.{front-nothing}
use Rattle.gr_topo.specs.Topology.{host_of}
use Rattle.gr_client.specs.Client.{ClientView}
use Rattle.gr_client.specs.Run.{heard_of, told_by, told_line}
use Rattle.gr_client.proofs.Heard.{heard_publisher, told_is, taken_as, front_as, sent_told}
use Rattle.gr_client.proofs.Ways.{on_ok, on_err, front_whole, memory_put, memory_stays}
use Rattle.gr_client.proofs.turning.datagram_comes.Goals as goal

pub returns-in_err-hear-clause-front : goal.returns-in_err-hear-clause-front
returns-in_err-hear-clause-front g c =
    let before = c.args.client.now in
    on_err c.from_residual.result (front-nothing (g.K.Sink.taken c.args.sink.now) (g.K.Sink.taken c.args.sink.now) (told_line c.args.topo.now c.args.p (told_by before (heard_of before (note_decoded c.args.bytes.now)))) refl)

pub offer_told-requires : goal.offer_told-requires
offer_told-requires g c =
    let same : c.hear.new.client.publisher ≡ c.args.client.now.publisher = ap (λ (x : ClientView). x.publisher) c.in_ok-hear.ensures.heard ∙ heard_publisher c.args.client.now (note_decoded c.args.bytes.now) in
    omega (arith, same, c.requires.at.node)

pub returns-in_err-tell-clause-front : goal.returns-in_err-tell-clause-front
returns-in_err-tell-clause-front g c =
    let before = c.args.client.now in
    let after = heard_of before (note_decoded c.args.bytes.now) in
    let told : c.told_from-told.result ≡ told_by before after = told_is before c.hear.new.client (note_decoded c.args.bytes.now) c.next_of-before.result c.next_of.result c.told_from-told.result
    c.in_ok-hear.ensures.heard c.next_of-before.ensures c.next_of.ensures c.told_from-told.ensures in
    on_err c.from_residual-in_err-tell.result (front_as c.args.topo.now c.args.p (g.K.Sink.taken c.args.sink.now) (g.K.Sink.taken c.tell.new.sink) c.told_from-told.result (told_by before after) told c.in_err-tell.ensures.front)

pub returns-clause-heard : goal.returns-clause-heard
returns-clause-heard g c = on_ok c.offer_told.result c.in_ok-hear.ensures.heard

pub returns-clause-taken : goal.returns-clause-taken
returns-clause-taken g c =
    let before = c.args.client.now in
    let after = heard_of before (note_decoded c.args.bytes.now) in
    let told : c.told_from-told.result ≡ told_by before after = told_is before c.hear.new.client (note_decoded c.args.bytes.now) c.next_of-before.result c.next_of.result c.told_from-told.result
    c.in_ok-hear.ensures.heard c.next_of-before.ensures c.next_of.ensures c.told_from-told.ensures in
    on_ok c.offer_told.result (taken_as c.args.topo.now c.args.p (g.K.Sink.taken c.args.sink.now) (g.K.Sink.taken c.tell.new.sink) c.told_from-told.result (told_by before after) told c.in_ok-tell.ensures.taken)

pub returns-clause-front : goal.returns-clause-front
returns-clause-front g c =
    let before = c.args.client.now in
    let after = heard_of before (note_decoded c.args.bytes.now) in
    let told : c.told_from-told.result ≡ told_by before after = told_is before c.hear.new.client (note_decoded c.args.bytes.now) c.next_of-before.result c.next_of.result c.told_from-told.result
    c.in_ok-hear.ensures.heard c.next_of-before.ensures c.next_of.ensures c.told_from-told.ensures in
    on_err c.offer_told.result (front_whole (g.K.Sink.taken c.args.sink.now) (g.K.Sink.taken c.tell.new.sink) (told_line c.args.topo.now c.args.p (told_by before after))
    (taken_as c.args.topo.now c.args.p (g.K.Sink.taken c.args.sink.now) (g.K.Sink.taken c.tell.new.sink) c.told_from-told.result (told_by before after) told c.in_ok-tell.ensures.taken))

pub returns-clause-sent : goal.returns-clause-sent
returns-clause-sent g c = λ tells.
    let before = c.args.client.now in
    let after = heard_of before (note_decoded c.args.bytes.now) in
    let told : c.told_from-told.result ≡ told_by before after = told_is before c.hear.new.client (note_decoded c.args.bytes.now) c.next_of-before.result c.next_of.result c.told_from-told.result
    c.in_ok-hear.ensures.heard c.next_of-before.ensures c.next_of.ensures c.told_from-told.ensures in
    sent_told (host_of c.args.topo.now c.args.p) c.host.result before after c.hear.new.client c.told_from-told.result (g.P.Post.journal c.args.post.now) (g.P.Post.journal c.offer_told.new.post) c.offer_told.result
    c.host.ensures.host c.in_ok-hear.ensures.heard told (c.offer_told.ensures.sent tells)

pub returns-clause-cause : goal.returns-clause-cause
returns-clause-cause g c = memory_put c.offer_told.result c.offer_told.ensures.keeps.cause

pub returns-clause-sink : goal.returns-clause-sink
returns-clause-sink g c =
    memory_stays (g.K.Sink.faults c.args.sink.now) (g.K.Sink.faults c.tell.new.sink) c.offer_told.result (c.in_ok-tell.ensures.sink.same (λ e. cc)) c.offer_told.ensures.keeps.cause
