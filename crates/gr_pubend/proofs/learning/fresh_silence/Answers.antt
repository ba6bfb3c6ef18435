use Rattle.std.proofs.Common.{◌∙◌}
use Rattle.gr_pubend.proofs.News.{silent_is, not_silent}
use Rattle.gr_pubend.proofs.learning.fresh_silence.Goals as goal
use Rattle.gr_pubend.proofs.learning.fresh_silence.Goals.{then-first-last+in_ok-push, else-first-last}

pub returns : goal.returns
returns c =
    elim c.if-first-last.branch [
      | then-first-last+in_ok-push w ↦
          w.piece-is ∙ silent_is c.args.first c.args.last c.new-piece.result w.push.new.self c.requires.from_one w.if-first-last.true c.new-piece.ensures w.in_ok-push.ensures.ok
      | else-first-last w ↦ w.piece-is ∙ (c.new-piece.ensures ∙ not_silent c.args.first c.args.last w.if-first-last.false)
    ]
