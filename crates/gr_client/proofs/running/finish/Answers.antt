use Rattle.std.proofs.lemmas.Result.{err_from_is_err_and}
use Rattle.gr_client.proofs.Ways.{put_client, put_moves, sink_later}
use Rattle.gr_client.proofs.LastLine.{finished, finished_cut, finished_none}
use Rattle.gr_client.proofs.running.finish.Goals as goal

pub returns-in_err-piece-clause-finished : goal.returns-in_err-piece-clause-finished
returns-in_err-piece-clause-finished g c =
    let fault = err_from_is_err_and c.from_residual.result c.from_residual.ensures.1 in
    rw (fault.1, fault.2) (finished_none c.args.topo.now c.args.p g.P.Post.tells c.args.turns c.args.client.now (g.K.Sink.taken c.args.sink.now) (g.P.Post.journal c.args.post.now))

pub returns-clause-finished : goal.returns-clause-finished
returns-clause-finished g c =
    finished c.args.topo.now c.args.p g.P.Post.tells c.args.turns c.args.client.now c.go_on.new.client (g.K.Sink.taken c.args.sink.now) (g.K.Sink.taken c.go_on.new.sink) (g.K.Sink.taken c.tell_last.new.sink)
    (g.P.Post.journal c.args.post.now) (g.P.Post.journal c.go_on.new.post) c.in_ok-go_on.field-0 c.tell_last.result c.in_ok-go_on.ensures.went c.tell_last.ensures.taken c.tell_last.ensures.front c.tell_last.ensures.cause

pub returns-clause-cause : goal.returns-clause-cause
returns-clause-cause g c = put_client c.tell_last.result c.tell_last.ensures.cause

pub returns-clause-sink : goal.returns-clause-sink
returns-clause-sink g c =
    sink_later (g.K.Sink.faults c.args.sink.now) (g.K.Sink.faults c.go_on.new.sink) (g.K.Sink.faults c.tell_last.new.sink) c.tell_last.result (c.in_ok-go_on.ensures.sink.same (λ e. cc)) c.tell_last.ensures.sink

pub returns-clause-moves : goal.returns-clause-moves
returns-clause-moves g c =
    put_moves (g.P.Post.faults c.args.post.now) (g.P.Post.faults c.go_on.new.post) c.tell_last.result (c.in_ok-go_on.ensures.moves.same (λ e. cc)) c.tell_last.ensures.cause

pub returns-in_err-go_on-clause-finished : goal.returns-in_err-go_on-clause-finished
returns-in_err-go_on-clause-finished g c =
    let fault = err_from_is_err_and c.from_residual-in_err-go_on.result c.from_residual-in_err-go_on.ensures.1 in
    rw (fault.1, fault.2) (finished_cut c.args.topo.now c.args.p g.P.Post.tells c.args.turns c.args.client.now c.go_on.new.client (g.K.Sink.taken c.args.sink.now) (g.K.Sink.taken c.go_on.new.sink)
    (g.P.Post.journal c.args.post.now) (g.P.Post.journal c.go_on.new.post) c.in_err-go_on.field-0.0 c.in_err-go_on.ensures.went)
