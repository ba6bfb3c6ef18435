use Rattle.gr_node.proofs.Notes.{spent_reply, next_reply}
use Rattle.gr_node.proofs.noting.reply_to.Goals as goal

pub returns-then-number-next-clause-reply : goal.returns-then-number-next-clause-reply
returns-then-number-next-clause-reply c = λ e. spent_reply c.args.p c.args.number c.args.last e c.if-number-next.true

pub returns-clause-reply : goal.returns-clause-reply
returns-clause-reply c = λ e. next_reply c.args.p c.args.number c.args.last e c.if-number-next.false
