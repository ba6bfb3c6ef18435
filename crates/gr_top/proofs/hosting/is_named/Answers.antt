use Rattle.std.proofs.Common.{sym, ◌∙◌}
use Rattle.gr_top.specs.Hosting.{names_broker}
use Rattle.gr_top.proofs.HostingLemmas.{any_here, any_later}
use Rattle.gr_top.proofs.hosting.is_named.Goals as goal

pub returns-then-names_broker : goal.returns-then-names_broker
returns-then-names_broker c =
    sym (any_here (names_broker c.args.topo.now c.args.b) c.args.words.now c.words.word-index _ c.words-test.true (sym c.names_broker.ensures ∙ c.if-names_broker.true)) ∙ c.words.invariant

pub words-preserved : goal.words-preserved
words-preserved c =
    sym (any_later (names_broker c.args.topo.now c.args.b) c.args.words.now c.words.word-index _ c.words-test.true (sym c.names_broker.ensures ∙ c.if-names_broker.false)) ∙ c.words.invariant
