-- Marks that begin earlier are the same
use Rattle.std.proofs.Common.{◌≡◌, ℕ, ◌+◌, ◌-◌, ◌++◌, Bool, false, List, length, replicate, ap, ◌∙◌, arith}
use Rattle.gr_out.proofs.Lanes.{marked_before}
use Rattle.gr_out.proofs.mem_lane.keep_from.Goals as goal

pub returns-clause-fresh : goal.returns-clause-fresh
returns-clause-fresh c =
    let rest : length c.args.bytes.now - c.args.first - length c.args.fresh.now.items ≡ length c.args.bytes.now - (c.args.first + length c.args.fresh.now.items) = omega arith in
    marked_before c.args.place c.args.first c.unmark_to.new.fresh.items c.put_unmarked.new.fresh.items (omega (arith, c.if-first-place.false)) c.put_unmarked.ensures.items
    ∙ ap (λ (l : List Bool). replicate c.args.first false ++ l) (c.unmark_to.ensures.items ∙ ap (λ (k : ℕ). c.args.fresh.now.items ++ replicate k false) rest)
