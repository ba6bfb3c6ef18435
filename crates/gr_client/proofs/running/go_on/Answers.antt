use Rattle.std.proofs.Common.{◌≡◌, refl, ◌∙◌, arith}
use Rattle.gr_client.proofs.SoFar.{none_came, publisher_so_far, more_came, went_all, went_ended, went_shut, went_cut}
use Rattle.gr_client.proofs.running.go_on.Goals as goal

pub turns-init : goal.turns-init
turns-init g c = record { goes = none_came c.args.topo.now c.args.p g.P.Post.tells c.args.client.now _ _; sink = refl; post = refl; piece = c.requires.piece }

pub turn-requires-clause-at : goal.turn-requires-clause-at
turn-requires-clause-at g c =
    let same : c.turns.client.publisher ≡ c.args.client.now.publisher = publisher_so_far _ _ _ _ _ _ _ _ _ _ c.turns.invariant.goes in
    record { publisher = c.requires.at.publisher; node = omega (arith, same, c.requires.at.node) }

pub turns-preserved : goal.turns-preserved
turns-preserved g c =
    let i = c.turns.invariant in
    record {
      goes = more_came c.args.topo.now c.args.p g.P.Post.tells c.turns.counter c.args.client.now c.turns.client c.turn.new.client _ _ _ _ _ _ c.in-Ok.goes_on c.if-not-goes_on.false (c.is_running.ensures.running c.if-not-is_running.false) i.goes c.in-Ok.ensures.turned;
      sink = c.in-Ok.ensures.sink.same (λ e. cc) ∙ i.sink;
      post = c.in-Ok.ensures.moves.same (λ e. cc) ∙ i.post;
      piece = c.turn.ensures.piece;
    }

pub returns-then-not-is_running-clause-went : goal.returns-then-not-is_running-clause-went
returns-then-not-is_running-clause-went g c =
    went_ended c.args.topo.now c.args.p g.P.Post.tells c.turns.counter c.args.turns c.args.client.now c.turns.client _ _ _ _ tt c.turns-test.true (c.is_running.ensures.ended c.if-not-is_running.true) c.turns.invariant.goes

pub returns-then-not-goes_on-clause-went : goal.returns-then-not-goes_on-clause-went
returns-then-not-goes_on-clause-went g c =
    went_shut c.args.topo.now c.args.p g.P.Post.tells c.turns.counter c.args.turns c.args.client.now c.turns.client c.turn.new.client _ _ _ _ _ _ tt c.in-Ok.goes_on c.if-not-goes_on.true c.turns-test.true (c.is_running.ensures.running c.if-not-is_running.false)
    c.turns.invariant.goes c.in-Ok.ensures.turned

pub returns-in-Err-clause-went : goal.returns-in-Err-clause-went
returns-in-Err-clause-went g c =
    went_cut c.args.topo.now c.args.p g.P.Post.tells c.turns.counter c.args.turns c.args.client.now c.turns.client c.turn.new.client _ _ _ _ _ _ c.in-Err.fault c.turns-test.true (c.is_running.ensures.running c.if-not-is_running.false)
    c.turns.invariant.goes c.in-Err.ensures.turned

pub returns-clause-went : goal.returns-clause-went
returns-clause-went g c = went_all c.args.topo.now c.args.p g.P.Post.tells c.turns.counter c.args.turns c.args.client.now c.turns.client _ _ _ _ tt (omega arith) c.turns.invariant.goes
