-- The late ones are kept as they came
use Rattle.gr_publog.proofs.footing.Footing.new.Goals as goal

pub invariant_of-result : goal.invariant_of-result
invariant_of-result c = rw (c.in_ok-items.ensures.ok) c.requires
