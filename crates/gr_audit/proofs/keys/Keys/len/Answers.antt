use Rattle.std.proofs.Common.{subst}
use Rattle.std.specs.List.{IsDistinct}
use Rattle.gr_audit.specs.Joint.{same_key}
use Rattle.gr_audit.proofs.Numbers.{distinct_seen}
use Rattle.gr_audit.proofs.keys.Keys.len.Goals as goal

pub returns-clause-apart : goal.returns-clause-apart
returns-clause-apart c = subst (λ z. IsDistinct same_key z) c.self.view_is (distinct_seen c.self.inside.keys.keys c.len.ensures.unique)
