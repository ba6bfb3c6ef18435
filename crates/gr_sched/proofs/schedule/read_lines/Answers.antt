-- Behind the plain lines one line more is read
use Rattle.std.proofs.Common.{◌≡◌, ◌+◌, ◌∙◌, ap, arith, length, subst, sym}
use Rattle.std.specs.List.{AllByRecursion}
use Rattle.std.proofs.lemmas.List.{length_push}
use Rattle.gr_sched.specs.Ranges.{IsInLimits}
use Rattle.gr_sched.proofs.PlainLines.{all_push, next_same, next_all}
use Rattle.gr_sched.proofs.schedule.read_lines.Goals as goal

pub lines-preserved : goal.lines-preserved
lines-preserved g c =
    let pushed = c.in_ok-push-in-Ok-step_of.ensures.pushed in
    let adds = c.in-Ok.ensures.adds in
    let long : length c.push.new.self ≡ length c.push_lines.new.found + 1 = ap length pushed ∙ length_push c.push_lines.new.found _ in
    record {
      few = omega (arith, long, c.in-Ok.ensures.few c.lines.invariant.few, c.if-len-eq-MAX_STEPS.false);
      all = next_all (g.N.Names.naming c.args.names.now) _ c.lines.before c.in-Ok.count c.in-Some.counted.number c.lines.rest.now c.in-Ok.behind.now c.in-Some.counted.rest.now c.in-Some.counted.line.now c.lines.found c.push_lines.new.found c.push.new.self c.in-Ok-step_of.step adds c.in-Some.ensures.found pushed c.lines.invariant.all;
      limits = subst (λ ls. AllByRecursion (λ line. IsInLimits line.step) ls) (sym pushed) (all_push (λ line. IsInLimits line.step) c.push_lines.new.found _ (adds.limits c.lines.invariant.limits) c.in-Ok-step_of.ensures.limits);
      most = omega (arith, c.in-Some.ensures.shorter.1, adds.shorter, c.lines.invariant.most);
      same = next_same (g.N.Names.naming c.args.names.now) _ c.lines.before c.in-Ok.count c.in-Some.counted.number c.lines.rest.now c.in-Ok.behind.now c.in-Some.counted.rest.now c.in-Some.counted.line.now c.lines.found c.push_lines.new.found c.push.new.self c.in-Ok-step_of.step adds c.in-Some.ensures.found c.in-Ok-step_of.ensures.gives pushed c.lines.invariant.same;
    }
