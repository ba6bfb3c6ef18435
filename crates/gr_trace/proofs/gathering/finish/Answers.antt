use Rattle.std.proofs.Common.{inr, refl}
use Rattle.gr_trace.proofs.InMemory.{ends_exact}
use Rattle.gr_trace.proofs.gathering.finish.Goals as goal

pub returns-then-not-is_known : goal.returns-then-not-is_known
returns-then-not-is_known c = inr refl

pub returns-in-Ok : goal.returns-in-Ok
returns-in-Ok c = ends_exact c.args.done c.args.lines.now.held c.args.page.now.held c.flush.new.sink.held c.flush.new.self.held (c.is_known.ensures.yes c.if-not-is_known.false) c.in-Ok.ensures.taken c.in-Ok.ensures.emptied

pub returns-in-Err : goal.returns-in-Err
returns-in-Err c = inr refl
