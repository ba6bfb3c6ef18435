use Rattle.std.proofs.Common.{◌≡◌, ◌<◌, ◌-◌, true, length, Some, sym, ◌∙◌, subst, arith}
use Rattle.std.specs.Prelude.{slice_get}
use Rattle.std.proofs.lemmas.Bool.{leb-true}
use Rattle.gr_curio.specs.Values.{is_A}
use Rattle.gr_broker_relay.proofs.Whole.{whole_in}
use Rattle.gr_broker_relay.proofs.learning.is_whole.Goals as goal

pub returns-then-run-first : goal.returns-then-run-first
returns-then-run-first c = λ ends t off.
    let piece = c.args.piece.now in
    let some : 0 < length piece = omega (arith, c.if-count-eq0.false, c.len-count.ensures.len) in
    let one : length c.args.done.now ≡ 1 = omega (arith, c.if-len-ne1.false, c.len.ensures.len) in
    let acked : is_A c.run-run.result.now.value ≡ true = sym c.is_acknowledged.ensures ∙ c.if-not-is_acknowledged.false in
    let last : slice_get piece (length piece - 1) ≡ Some c.run-last.result.now = subst (λ n. slice_get piece (n - 1) ≡ Some c.run-last.result.now) c.len-count.ensures.len c.run-last.ensures.run in
    whole_in piece c.args.done.now c.run-run.result.now c.run-first.result.now c.run-last.result.now c.len-count.ensures.canonical c.len-count.ensures.in_range some one c.run-run.ensures.alone.from_one c.run-run.ensures.run acked c.run-first.ensures.run last c.if-run-first.true (leb-true _ _ ends) t off
