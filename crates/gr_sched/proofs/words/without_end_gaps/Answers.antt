-- A space or a tab at the end is left off.
use Rattle.std.proofs.Common.{◌∙◌, sym, arith}
use Rattle.gr_sched.proofs.Ends.{end_falls}
use Rattle.gr_sched.proofs.words.without_end_gaps.Goals as goal

pub gaps-preserved : goal.gaps-preserved
gaps-preserved c = record {
  within = omega arith;
  same = c.gaps.invariant.same ∙ end_falls c.args.text.now c.gaps.end (omega arith) (omega arith) (sym c.is_gap.ensures ∙ c.if-not-is_gap.false);
}
