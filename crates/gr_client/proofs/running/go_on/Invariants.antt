-- so many arrivals were taken, and no fault was counted
use Rattle.std.proofs.Common.{◌≡◌, length}
use Rattle.gr_client.proofs.SoFar.{SoFar}
use Rattle.gr_client.proofs.running.go_on.Given as goal

abbrev pub invariant-turns : goal.invariant-turns
invariant-turns g l = record {
  goes : SoFar l.topo l.p g.P.Post.tells l.counter l.fn.client l.client (g.K.Sink.taken l.fn.sink) (g.K.Sink.taken l.sink) (g.P.Post.journal l.fn.post) (g.P.Post.journal l.post);
  sink : g.K.Sink.faults l.sink ≡ g.K.Sink.faults l.fn.sink;
  post : g.P.Post.faults l.post ≡ g.P.Post.faults l.fn.post;
  piece : length l.piece ≡ 65535;
}
