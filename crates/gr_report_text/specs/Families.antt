-- Families of lines, each printed by a function of its own
use Rattle.gr_model.specs.declared.report.Report.{Report}
use Rattle.gr_model.specs.declared.report.Report.TheVariants as line

-- a line that says what became of a publish
abbrev pub IsOfPublish : Report → Type 0
IsOfPublish (line.Logged publisher number tick) = Unit {0}
IsOfPublish (line.Already publisher number) = Unit {0}
IsOfPublish (line.Gap publisher number next) = Unit {0}
IsOfPublish (line.Exhausted publisher number) = Unit {0}
IsOfPublish (line.Kept publisher number tick) = Unit {0}
IsOfPublish (line.Lost publisher number tick) = Unit {0}
IsOfPublish _ = ⊥

-- of what became of a join
abbrev pub IsOfJoin : Report → Type 0
IsOfJoin (line.Joined subscriber publisher tick) = Unit {0}
IsOfJoin (line.AlreadyJoined subscriber publisher) = Unit {0}
IsOfJoin (line.ExhaustedJoin subscriber publisher) = Unit {0}
IsOfJoin _ = ⊥

-- of what became of a log
abbrev pub IsOfLog : Report → Type 0
IsOfLog (line.Opened publisher last settled cut) = Unit {0}
IsOfLog (line.Mark publisher tick) = Unit {0}
IsOfLog (line.Cut publisher tick) = Unit {0}
IsOfLog (line.Reclaimed publisher generation) = Unit {0}
IsOfLog (line.Damaged publisher at) = Unit {0}
IsOfLog _ = ⊥

-- of what a subscriber is told, or of a horizon that is shown
abbrev pub IsOfHorizon : Report → Type 0
IsOfHorizon (line.Got subscriber publisher tick event) = Unit {0}
IsOfHorizon (line.Horizon subscriber publisher tick) = Unit {0}
IsOfHorizon (line.Ordered subscriber publisher tick event) = Unit {0}
IsOfHorizon (line.Doubt broker publisher tick) = Unit {0}
IsOfHorizon _ = ⊥

-- of a frame that was sent
abbrev pub IsOfFrame : Report → Type 0
IsOfFrame (line.SentKnow number from to publisher runs js) = Unit {0}
IsOfFrame (line.SentWant number from to publisher runs) = Unit {0}
IsOfFrame (line.SentExpect number from to publisher tick) = Unit {0}
IsOfFrame _ = ⊥

-- of a datagram that was dropped
abbrev pub IsOfDrop : Report → Type 0
IsOfDrop (line.DroppedNotFrame broker fault at) = Unit {0}
IsOfDrop (line.DroppedStray broker from to publisher) = Unit {0}
IsOfDrop (line.DroppedSplit broker at kept came) = Unit {0}
IsOfDrop (line.DroppedClash broker tick kept came) = Unit {0}
IsOfDrop (line.DroppedBadNote broker fault at) = Unit {0}
IsOfDrop (line.DroppedStrayNote broker publisher) = Unit {0}
IsOfDrop _ = ⊥

-- of a step that was refused
abbrev pub IsOfRefusal : Report → Type 0
IsOfRefusal (line.RefusedHosts step broker) = Unit {0}
IsOfRefusal (line.RefusedFrame step frame sent) = Unit {0}
IsOfRefusal (line.RefusedClock step moment) = Unit {0}
IsOfRefusal _ = ⊥

-- of what is shown: how many frames were sent, a log, or the bytes of a frame
abbrev pub IsOfShow : Report → Type 0
IsOfShow (line.Frames count) = Unit {0}
IsOfShow (line.LogOf publisher last settled cut kept) = Unit {0}
IsOfShow (line.BytesOf frame bytes) = Unit {0}
IsOfShow _ = ⊥
