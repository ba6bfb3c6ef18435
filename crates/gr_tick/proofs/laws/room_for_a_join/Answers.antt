use Rattle.gr_tick.proofs.RoomLemmas.{needed_at_most}
use Rattle.gr_tick.proofs.laws.room_for_a_join.Goals as goal

pub returns : goal.returns
returns g c = λ kept came h k. needed_at_most g.V.Lattice.least kept came h k
