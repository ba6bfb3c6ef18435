use Rattle.std.proofs.Common.{sym, ◌∙◌, arith}
use Rattle.std.proofs.lemmas.Option.{get_or_from_slice_get}
use Rattle.gr_know.proofs.ForgetLemmas.{nothing_left, none_ahead, none_remain}
use Rattle.gr_know.proofs.DataBelow.{front_dataless, dataless_front}
use Rattle.gr_know.proofs.forgetting.forget_data.Goals as goal
use Rattle.gr_know.proofs.forgetting.forget_data.Goals.{then-loop-left-test+then-i-len+else-run-upto, then-loop-left-test+else-i-len, else-loop-left-test}

pub loop-left-init : goal.loop-left-init
loop-left-init c =
    let xs = c.args.stream.now.runs in
    record {
      within = c.seek-i.ensures.within;
      fewer = omega arith;
      counted = omega arith;
      done = dataless_front c.args.count c.args.upto c.seek-i.result xs (front_dataless c.args.from 1 c.seek-i.result xs c.len.ensures.canonical c.seek-i.ensures.front c.requires.none);
    }

pub returns-clause-lowered : goal.returns-clause-lowered
returns-clause-lowered c =
    let xs = c.loop-left.stream.runs in
    elim c.loop-left-test.branch [
      | then-loop-left-test+then-i-len+else-run-upto w ↦
          let r = w.run.result.now in
          sym (none_ahead c.args.upto c.loop-left.i c.loop-left.left xs r c.len-2.ensures.canonical (omega arith) (sym (get_or_from_slice_get xs c.loop-left.i r r w.run.ensures.run)) (omega (arith, w.if-run-upto.false)))
          ∙ c.loop-left.invariant.done
      | then-loop-left-test+else-i-len w ↦ sym (none_remain c.args.upto c.loop-left.i c.loop-left.left xs (omega arith)) ∙ c.loop-left.invariant.done
      | else-loop-left-test w ↦ sym (nothing_left c.args.upto c.loop-left.i c.loop-left.left xs c.len-2.ensures.canonical (omega arith)) ∙ c.loop-left.invariant.done
    ]
