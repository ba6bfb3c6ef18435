use Rattle.std.proofs.Common.{◌≡◌, drop}
use Rattle.gr_journal.specs.Hosting.{unhosted_from, unhosted}
use Rattle.gr_journal.proofs.hosting.unhosted.Given as goal

abbrev pub invariant-journals : goal.invariant-journals
invariant-journals l = unhosted_from l.fn.topo l.named (drop l.journal-index l.journals) ≡ unhosted l.fn.topo l.fn.journals
