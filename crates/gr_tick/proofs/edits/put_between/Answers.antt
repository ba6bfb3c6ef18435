use Rattle.std.proofs.Common.{◌≡◌, ◌+◌, ◌-◌, ◌∷◌, ◌++◌, take, drop, arith, ap, ◌∙◌}
use Rattle.gr_tick.proofs.EditLemmas.{remove_next, replace_next}
use Rattle.gr_tick.proofs.edits.put_between.Goals as goal

pub loop-next-preserved : goal.loop-next-preserved
loop-next-preserved g c =
    let xs = c.args.runs.now.items in
    let one : c.loop-next.next ≡ c.loop-next.next + 1 - 1 = omega arith in
    record {
      forward = omega (arith, c.loop-next.invariant.forward);
      within = omega arith;
      items = remove_next xs c.loop-next.runs.items c.remove.new.self.items c.args.from c.loop-next.next c.args.run c.loop-next.invariant.forward (omega (arith, c.loop-next.invariant.within)) c.loop-next.invariant.items c.remove.ensures.items
          ∙ ap (λ n. take c.args.from xs ++ drop n xs) one;
      spare = omega (arith, c.loop-next.invariant.spare, c.remove.ensures.spare);
    }

pub returns-clause-items : goal.returns-clause-items
returns-clause-items g c =
    let xs = c.args.runs.now.items in
    let all : c.loop-next.next ≡ c.args.upto = omega (arith, c.loop-next.invariant.within) in
    replace_next xs c.loop-next.runs.items c.replace.new.self.items c.args.from c.loop-next.next c.args.run c.loop-next.invariant.forward (omega (arith, c.loop-next.invariant.within)) c.loop-next.invariant.items c.replace.ensures.items
    ∙ ap (λ n. take c.args.from xs ++ c.args.run ∷ drop n xs) all
