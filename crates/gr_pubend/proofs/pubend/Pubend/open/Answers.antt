use Rattle.gr_pubend.proofs.pubend.Pubend.open.Goals as goal

pub invariant_of-result : goal.invariant_of-result
invariant_of-result g c = c.in-Ok-known_by.ensures.known
