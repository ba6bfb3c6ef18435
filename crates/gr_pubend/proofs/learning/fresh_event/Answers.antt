use Rattle.std.proofs.Common.{◌<◌, ◌-◌, sym, subst, arith}
use Rattle.gr_know.specs.Values.{Known}
use Rattle.gr_tick.specs.Stored.{EndBefore}
use Rattle.gr_pubend.proofs.News.{silence_ends, silent_then_is}
use Rattle.gr_pubend.proofs.learning.fresh_event.Goals as goal

pub push-requires-clause-past : goal.push-requires-clause-past
push-requires-clause-past c =
    let before : c.args.tick - 1 < c.args.tick = omega arith in
    subst (λ (p : Known). EndBefore p c.args.tick) (sym c.in_ok-piece.ensures) (silence_ends c.args.first (c.args.tick - 1) c.args.tick before)

pub returns : goal.returns
returns c =
    silent_then_is c.args.first c.args.tick c.args.event.now c.share.result c.in_ok-piece.piece c.push.new.self c.requires.from_one c.requires.ordered c.share.ensures c.in_ok-piece.ensures c.in_ok-push.ensures.ok
