use Rattle.std.proofs.Common.{◌≡◌, ap, ◌∙◌, arith}
use Rattle.gr_know.specs.Values.{known_at, join_K}
use Rattle.gr_subend.specs.Horizon.{data_ticks}
use Rattle.gr_subend.proofs.Handing.{moves_with}
use Rattle.gr_subend.proofs.subend.Subend.coming.Goals as goal

pub returns : goal.returns
returns c = λ joined g.
    let i : c.self.inside.horizon ≡ c.args.self.now = c.self.view_is in
    let k = c.horizon_with-horizon in
    c.in_ok-deliveries.ensures joined g
    ∙ ap (λ n. data_ticks c.args.self.now n joined)
    (moves_with c.args.self.now k.result joined (λ t. join_K (known_at c.args.know.now.runs t) (known_at c.args.piece.now t)) g (omega (arith, i, k.ensures.forward)) (λ t lo hi. k.ensures.known t (omega (arith, i, lo)) hi) k.ensures.greatest)
