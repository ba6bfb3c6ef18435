use Rattle.std.proofs.Common.{◌≡◌, ◌+◌, refl, sym, ◌∙◌, arith}
use Rattle.gr_tick.proofs.RunsLemmas.{EndBefore-later}
use Rattle.gr_know.specs.Values.{known_at, join_K}
use Rattle.gr_subend.proofs.Handing.{none_upto, some_upto, passed_whole}
use Rattle.gr_subend.proofs.subend.Subend.coming_upto.Goals as goal

pub returns-then-horizon-self : goal.returns-then-horizon-self
returns-then-horizon-self c = λ joined g.
    none_upto c.args.self.now c.args.horizon joined (λ t. join_K (known_at c.args.know.now.runs t) (known_at c.args.piece.now t)) c.new.result c.new.ensures g (sym c.self.view_is ∙ sym c.if-horizon-self.true)

pub returns-then-lies_within : goal.returns-then-lies_within
returns-then-lies_within c = λ joined g.
    let i : c.self.inside.horizon ≡ c.args.self.now = c.self.view_is in
    some_upto c.self.inside.horizon c.args.self.now c.args.horizon joined c.args.piece.now (λ t. join_K (known_at c.args.know.now.runs t) (known_at c.args.piece.now t)) c.in_ok-deliveries.deliveries i c.requires.inside g
    (passed_whole c.self.inside.horizon c.args.horizon c.args.know.now.runs c.args.piece.now c.len.ensures.canonical c.len.ensures.in_range (EndBefore-later c.args.know.now.runs (c.top.result + 1) (c.self.inside.horizon + 1) c.top.ensures.past (omega (arith, c.if-top-self.true))) (c.if-lies_within.ensures refl)) c.in_ok-deliveries.ensures

pub returns : goal.returns
returns c = λ joined g.
    some_upto c.self.inside.horizon c.args.self.now c.args.horizon joined c.in_ok-passed.passed (λ t. join_K (known_at c.args.know.now.runs t) (known_at c.args.piece.now t)) c.in_ok-deliveries-2.deliveries c.self.view_is c.requires.inside g c.in_ok-passed.ensures c.in_ok-deliveries-2.ensures
