use Rattle.std.proofs.Common.{sym, ap, arith, eq-eqb}
use Rattle.std.proofs.lemmas.Bool.{ne_eqb}
use Rattle.gr_world.specs.Stopped.{kept_line}
use Rattle.gr_world.proofs.stopping.line_of_stop.Goals as goal

pub returns-then-last-number : goal.returns-then-last-number
returns-then-last-number c = sym (ap (λ b. kept_line b c.args.p c.args.number c.args.tick) (eq-eqb c.args.log.now.state.last c.args.number (omega arith)))

pub returns-else-last-number : goal.returns-else-last-number
returns-else-last-number c =
    sym (ap (λ b. kept_line b c.args.p c.args.number c.args.tick) (ne_eqb c.args.log.now.state.last c.args.number (λ e. c.if-last-number.false (omega arith))))
