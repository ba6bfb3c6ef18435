use Rattle.gr_event.proofs.walk.+nth.Given as goal

abbrev pub decreases-nth : goal.decreases-nth
decreases-nth l = l.i
