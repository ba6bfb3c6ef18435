use Rattle.std.proofs.Common.{◌≡◌, ℕ, ◌+◌, take, drop}
use Rattle.gr_tick.specs.Stored.{EndBefore}
use Rattle.gr_know.specs.Values.{known_at, join_K}
use Rattle.gr_pubend.specs.Log.{log_at}
use Rattle.gr_pubend.specs.Opening.{last_tick, EntriesRise, seen}
use Rattle.gr_pubend.proofs.Opening.{IsSeen}
use Rattle.gr_pubend.proofs.learning.learn_events.Given as goal

-- what is known with what is gathered is what the log with the entries so far says, and those that are left rise from there
abbrev pub invariant-entries : goal.invariant-entries
invariant-entries l = record {
  stays : IsSeen l.cut l.last (take l.i l.events);
  says : (t : ℕ) → join_K (known_at l.know.runs t) (known_at l.piece t) ≡ log_at (seen l.cut (take l.i l.events)) t;
  ends : EndBefore l.piece (l.last + 1);
  rise : EntriesRise l.last (drop l.i l.events);
  whole : last_tick l.last (drop l.i l.events) ≡ last_tick l.cut l.events;
}
