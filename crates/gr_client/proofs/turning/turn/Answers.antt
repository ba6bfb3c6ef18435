use Rattle.std.proofs.Common.{take, ◌++◌, Ok, Err, refl, ap, ◌∙◌}
use Rattle.gr_out.specs.Journal.{next_entries}
use Rattle.gr_out.specs.declared.post.Arrival.{Arrival as PostArrival}
use Rattle.gr_out.specs.declared.post.PostFault.{PostFault}
use Rattle.gr_out.proofs.Fronts.{front-nothing}
use Rattle.gr_client.specs.Came.{datagram, quiet}
use Rattle.gr_client.specs.Run.{offer_entries}
use Rattle.gr_client.proofs.Ways.{memory_put}
use Rattle.gr_client.proofs.OneTurn.{turned_on, turned_cut, turned_shut, turned_failed, turned_refused, quiet_told}
use Rattle.gr_client.proofs.turning.turn.Goals as goal

pub returns-in-Ok-datagram_comes-clause-turned : goal.returns-in-Ok-datagram_comes-clause-turned
returns-in-Ok-datagram_comes-clause-turned g c =
    turned_on c.args.topo.now c.args.p g.P.Post.tells (datagram c.in-Datagram.at (take c.in-Datagram.len c.next.new.into) c.in-Datagram.moment) c.args.client.now c.datagram_comes.new.client
    (g.K.Sink.taken c.args.sink.now) (g.K.Sink.taken c.datagram_comes.new.sink) (g.P.Post.journal c.args.post.now) (g.P.Post.journal c.next.new.self) (g.P.Post.journal c.datagram_comes.new.post)
    (λ tells. c.in-Ok.ensures.journal tells ∙ ap (λ (a : PostArrival). g.P.Post.journal c.args.post.now ++ next_entries c.next.new.into (Ok a)) c.in-Datagram.is)
    c.in-Ok-datagram_comes.ensures.heard c.in-Ok-datagram_comes.ensures.taken c.in-Ok-datagram_comes.ensures.sent

pub returns-in-Err-datagram_comes-clause-turned : goal.returns-in-Err-datagram_comes-clause-turned
returns-in-Err-datagram_comes-clause-turned g c =
    turned_cut c.args.topo.now c.args.p g.P.Post.tells (datagram c.in-Datagram.at (take c.in-Datagram.len c.next.new.into) c.in-Datagram.moment) c.args.client.now c.datagram_comes.new.client
    (g.K.Sink.taken c.args.sink.now) (g.K.Sink.taken c.datagram_comes.new.sink) (g.P.Post.journal c.args.post.now) (g.P.Post.journal c.next.new.self) (g.P.Post.journal c.datagram_comes.new.post) c.in-Err-datagram_comes.fault c.in-Err-datagram_comes.ensures.cause
    (λ tells. c.in-Ok.ensures.journal tells ∙ ap (λ (a : PostArrival). g.P.Post.journal c.args.post.now ++ next_entries c.next.new.into (Ok a)) c.in-Datagram.is)
    c.in-Err-datagram_comes.ensures.front c.in-Err-datagram_comes.ensures.unsent

pub returns-in-Ok-offer-clause-turned : goal.returns-in-Ok-offer-clause-turned
returns-in-Ok-offer-clause-turned g c =
    turned_on c.args.topo.now c.args.p g.P.Post.tells (quiet c.in-Quiet.moment) c.args.client.now c.args.client.now
    (g.K.Sink.taken c.args.sink.now) (g.K.Sink.taken c.args.sink.now) (g.P.Post.journal c.args.post.now) (g.P.Post.journal c.next.new.self) (g.P.Post.journal c.offer.new.post)
    (λ tells. c.in-Ok.ensures.journal tells ∙ ap (λ (a : PostArrival). g.P.Post.journal c.args.post.now ++ next_entries c.next.new.into (Ok a)) c.in-Quiet.is)
    refl (quiet_told c.args.topo.now c.args.p c.args.client.now c.in-Quiet.moment (g.K.Sink.taken c.args.sink.now))
    (λ tells. c.in-Ok-offer.ensures.sent tells ∙ ap (λ host. g.P.Post.journal c.next.new.self ++ offer_entries host c.args.client.now) c.host.ensures.host)

pub returns-in-Err-offer-clause-turned : goal.returns-in-Err-offer-clause-turned
returns-in-Err-offer-clause-turned g c =
    turned_cut c.args.topo.now c.args.p g.P.Post.tells (quiet c.in-Quiet.moment) c.args.client.now c.args.client.now
    (g.K.Sink.taken c.args.sink.now) (g.K.Sink.taken c.args.sink.now) (g.P.Post.journal c.args.post.now) (g.P.Post.journal c.next.new.self) (g.P.Post.journal c.offer.new.post) c.in-Err-offer.fault (memory_put {T = Unit {0}} (Err c.in-Err-offer.fault) c.in-Err-offer.ensures.keeps.cause)
    (λ tells. c.in-Ok.ensures.journal tells ∙ ap (λ (a : PostArrival). g.P.Post.journal c.args.post.now ++ next_entries c.next.new.into (Ok a)) c.in-Quiet.is)
    (front-nothing (g.K.Sink.taken c.args.sink.now) (g.K.Sink.taken c.args.sink.now) _ refl) c.in-Err-offer.ensures.keeps.unsent

pub returns-in-Closed-clause-turned : goal.returns-in-Closed-clause-turned
returns-in-Closed-clause-turned g c =
    turned_shut c.args.topo.now c.args.p g.P.Post.tells c.args.client.now (g.K.Sink.taken c.args.sink.now) (g.P.Post.journal c.args.post.now) (g.P.Post.journal c.next.new.self)
    (λ tells. c.in-Ok.ensures.journal tells ∙ ap (λ (a : PostArrival). g.P.Post.journal c.args.post.now ++ next_entries c.next.new.into (Ok a)) c.in-Closed.is)

pub returns-in-Failed-clause-turned : goal.returns-in-Failed-clause-turned
returns-in-Failed-clause-turned g c =
    turned_failed c.args.topo.now c.args.p g.P.Post.tells c.args.client.now (g.K.Sink.taken c.args.sink.now) (g.P.Post.journal c.args.post.now) (g.P.Post.journal c.next.new.self)
    (λ tells. c.in-Err.ensures.journal tells ∙ ap (λ (f : PostFault). g.P.Post.journal c.args.post.now ++ next_entries c.next.new.into (Err f)) c.in-Failed.is)

pub returns-in-Memory-clause-turned : goal.returns-in-Memory-clause-turned
returns-in-Memory-clause-turned g c =
    turned_refused c.args.topo.now c.args.p g.P.Post.tells c.args.client.now (g.K.Sink.taken c.args.sink.now) (g.P.Post.journal c.args.post.now) (g.P.Post.journal c.next.new.self)
    (λ tells. c.in-Err.ensures.journal tells ∙ ap (λ (f : PostFault). g.P.Post.journal c.args.post.now ++ next_entries c.next.new.into (Err f)) c.in-Memory.is)
