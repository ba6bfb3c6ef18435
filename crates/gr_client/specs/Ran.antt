-- What a run of a client did, from its first binding to its last line, and what it left outside
use Rattle.std.specs.Prelude.{◌≡◌, ◌⊎◌, ℕ, ◌<◌, ◌≤◌, Bool, true, false, List, [], ◌∷◌, ◌++◌, length, Option, Result}
use Rattle.std.specs.Prelude.{OnOk, OnErr, IsErrOf}
use Rattle.gr_out.specs.declared.fault.RunFault.{RunFault}
use Rattle.gr_out.specs.declared.fault.RunFault.TheVariants as run
use Rattle.gr_out.specs.Bytes.{with_more}
use Rattle.gr_client.specs.Came.{Arrival}
use Rattle.gr_out.specs.Entry.{Entry}
use Rattle.gr_client.specs.Moves.{IsExact, fault_entries, Begins}
use Rattle.gr_out.specs.Page.{TakesFront}
use Rattle.gr_sched.specs.declared.step.Line.{Line}
use Rattle.gr_topo.specs.Topology.{TopologyView, host_of}
use Rattle.gr_client.specs.declared.client.Progress.{Progress}
use Rattle.gr_client.specs.declared.client.Progress.TheVariants.{Running}
use Rattle.gr_client.specs.Client.{ClientView}
use Rattle.gr_client.specs.Run.{events_of, begun, after_one, after_all, turns_text, turns_entries, closing}
use Rattle.gr_client.specs.Run.{begun_entries, last_line}

-- The course of a run
pub record Course : Type 0 where
  pub bound : ℕ  -- how many of the two nodes were bound
  pub came : List Arrival  -- what the post gave, in order
  pub closed : Bool  -- whether it then said that nothing comes any more

abbrev pub IsRunning : Progress → Type 0
IsRunning (Running next) = Unit {0}
IsRunning _ = ⊥

abbrev pub HasEnded : Progress → Type 0
HasEnded (Running next) = ⊥
HasEnded _ = Unit {0}

-- the client runs before each arrival
abbrev pub RunsThrough : ClientView → List Arrival → Type 0
RunsThrough c [] = Unit {0}
RunsThrough c (a ∷ came) = IsRunning c.progress × RunsThrough (after_one c a) came

-- the client at the end
abbrev pub end_of : ℕ → List Line → Course → ClientView
end_of p steps c = after_all (begun p steps) c.came

-- what the whole run puts into the journal, and what it prints
abbrev pub run_entries : TopologyView → ℕ → List Line → Course → List Entry
run_entries t p steps c =
    begun_entries t p steps c.bound ++ (turns_entries (host_of t p) (begun p steps) c.came ++ closing c.closed)

abbrev pub turns_told : TopologyView → ℕ → List Line → Course → List ℕ
turns_told t p steps c = turns_text t p (begun p steps) c.came

abbrev pub run_text : TopologyView → ℕ → List Line → Course → List ℕ
run_text t p steps c =
    turns_told t p steps c ++ last_line t p (length (events_of p steps)) (end_of p steps c).progress

-- Arrivals were taken while the client ran, until it had ended, or nothing came any more, or there were as many as may
-- be
pub record IsRunOf {T : Type 0} (t : TopologyView) (p : ℕ) (steps : List Line) (turns : ℕ) (c : Course)
    (result : Result T RunFault) : Type 0 where
  pub bound : c.bound ≤ 2
  pub unbound : c.bound < 2 → (c.came ≡ []) × (c.closed ≡ false)
  pub whole : OnOk result (c.bound ≡ 2)
  pub within : length c.came ≤ turns
  pub runs : RunsThrough (begun p steps) c.came
  pub open_until : c.closed ≡ true → IsRunning (end_of p steps c).progress
  pub ended : OnOk result ((c.closed ≡ true) ⊎ ((length c.came ≡ turns) ⊎ HasEnded (end_of p steps c).progress))

-- Of a post that tells its journal: all of it was put there, and then the failure that ended it; after want of memory,
-- or where the sink failed, a front of it
pub record Posts {T : Type 0} (t : TopologyView) (p : ℕ) (steps : List Line) (c : Course) (before after : List Entry)
    (result : Result T RunFault) : Type 0 where
  pub exact : IsExact result → after ≡ before ++ (run_entries t p steps c ++ fault_entries result)
  pub front : (IsExact result → ⊥) → Begins before after (run_entries t p steps c)

-- The sink took all lines; those of the turns, where the post failed; after any fault a front of them
pub record Prints {T : Type 0} (t : TopologyView) (p : ℕ) (steps : List Line) (c : Course)
    (before after : Option (List ℕ)) (result : Result T RunFault) : Type 0 where
  pub report : OnOk result (after ≡ with_more before (run_text t p steps c))
  pub failed : IsErrOf result run.Post → after ≡ with_more before (turns_told t p steps c)
  pub front : OnErr result (TakesFront before after (run_text t p steps c))

-- why a run of a client ends early
abbrev pub IsClientFault : RunFault → Type 0
IsClientFault run.Memory = Unit {0}
IsClientFault run.Write = Unit {0}
IsClientFault run.Post = Unit {0}
IsClientFault _ = ⊥

-- why a line could not be put, and why a node could not be bound
abbrev pub IsPutFault : RunFault → Type 0
IsPutFault run.Memory = Unit {0}
IsPutFault run.Write = Unit {0}
IsPutFault _ = ⊥

abbrev pub IsPostFault : RunFault → Type 0
IsPostFault run.Memory = Unit {0}
IsPostFault run.Post = Unit {0}
IsPostFault _ = ⊥
