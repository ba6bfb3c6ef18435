use Rattle.std.proofs.Common.{◌≡◌, drop, is_some}
use Rattle.std.specs.List.{list_any}
use Rattle.gr_audit.specs.Audited.{has_clients}
use Rattle.gr_audit.proofs.auditing.has_clients.Given as goal

abbrev pub invariant-loop-p : goal.invariant-loop-p
invariant-loop-p l = list_any is_some (drop l.p l.fn.topo.clients) ≡ has_clients l.fn.topo
