use Rattle.std.proofs.Common.{◌≡◌, ◌++◌, drop}
use Rattle.gr_client.specs.Run.{events_of}
use Rattle.gr_client.proofs.events.events_of.Given as goal

-- the events so far, and those of the lines that are left
abbrev pub invariant-lines : goal.invariant-lines
invariant-lines l = l.events ++ events_of l.p (drop l.line-index l.steps) ≡ events_of l.p l.steps
