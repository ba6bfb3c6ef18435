use Rattle.std.proofs.Common.{ap, subst}
use Rattle.clap.specs.Words.{App, HasKind, fault_of, is_simple_and_free}
use Rattle.gr_top.specs.Words.{texts_of}
use Rattle.gr_top.proofs.WordLemmas.{given_up}
use Rattle.gr_top.proofs.words.bare_task.Goals as goal

pub returns : goal.returns
returns c =
    let words = texts_of c.args.words.now in
    let has = subst (λ (a : App). HasKind (fault_of a words) c.in-Err.error) c.new.ensures.app (c.in-Err.ensures.kinds (ap is_simple_and_free c.new.ensures.app)) in
    given_up _ c.in-Err.error c.args.task c.refused.result has c.refused.ensures.usage c.refused.ensures.kind
