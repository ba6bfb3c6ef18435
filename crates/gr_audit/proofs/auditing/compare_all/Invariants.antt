use Rattle.std.proofs.Common.{◌≡◌, drop, take, map}
use Rattle.gr_audit.specs.Audited.{differing, links_of}
use Rattle.gr_audit.specs.Noted.{with_journals}
use Rattle.gr_audit.proofs.auditing.compare_all.Given as goal

abbrev pub invariant-journals : goal.invariant-journals
invariant-journals g l = let b = g.M.Machine.behaves l.fn.machine l.fn.topo in record {
  line : differing b l.fn.topo (drop l.journal-index l.journals) ≡ differing b l.fn.topo l.fn.journals;
  noted : l.links ≡ with_journals l.fn.links (map (links_of b l.fn.topo) (take l.journal-index l.journals));
}
