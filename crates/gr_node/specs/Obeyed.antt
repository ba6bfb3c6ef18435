-- A run of all brokers by the rules of their calls: what it tells, with no word of how anything is computed
use Rattle.std.specs.Prelude.{◌≡◌, List, [], ◌∷◌, ◌++◌}
use Rattle.gr_sched.specs.declared.step.Line.{Line}
use Rattle.gr_model.specs.declared.report.Report.{Report}
use Rattle.gr_model.specs.Net.{Net, numbers}
use Rattle.gr_model.specs.Broker.{Log}
use Rattle.gr_model.specs.World.{World}
use Rattle.gr_model.specs.Arrivals.{Arrival, Request, requests_of, left_after}
use Rattle.gr_model_calls.specs.OneNet.{last_net}
use Rattle.gr_model_theorems.specs.ByRules.{Opens, RunByRules, shown}
use Rattle.gr_model_theorems.specs.Forgets.{kept_logs}
use Rattle.gr_model_theorems.specs.Served.{joined, steps_of_arrival, dropped_line}

-- Something arrives, in this state and after the lines told so far. Its steps of a schedule happen by the rules; it
-- tells their lines, and then that of a datagram that is dropped
pub record ComesByRules (net : Net) (w : World) (told : List Report) (left : List Request) (a : Arrival)
    (ls : List Report) (Rest : World → Type 0) : Type 0 where
  pub parts : List (List Report)
  pub after : World
  pub happens : RunByRules net w (steps_of_arrival net told left a) parts after
  pub lines : ls ≡ joined parts ++ dropped_line net a
  pub rest : Rest after

-- So does each, in the state that those before it leave. At the end all is shown, and state u is left
abbrev pub ComeByRules : Net → World → List Report → List Request → List Arrival → List (List Report) → World → Type 0
ComeByRules net w told left [] rs u = (rs ≡ shown net w ∷ []) × (u ≡ w)
ComeByRules net w told left (a ∷ arrivals) [] u = ⊥
ComeByRules net w told left (a ∷ arrivals) (r ∷ rs) u =
    ComesByRules net w told left a r (λ v. ComeByRules net v (told ++ r) (left_after left a) arrivals rs u)

-- A whole run: the start over the logs that were found tells its lines by the rules, and then it goes on so
pub record BeginsByRules (net : Net) (logs : List Log) (ls : List Report) (Rest : World → Type 0) : Type 0 where
  pub opened : World
  pub opens : Opens net logs (record { world = opened; lines = ls })
  pub rest : Rest opened

abbrev pub ServedByRules : Net → List Log → List Line → List Arrival → List (List Report) → World → Type 0
ServedByRules net logs steps arrivals [] u = ⊥
ServedByRules net logs steps arrivals (r ∷ rs) u =
    BeginsByRules net logs r (λ w. ComeByRules net w r (requests_of net (numbers net.brokers) steps) arrivals rs u)

-- A whole report of it is by the rules, whatever state is left: of the net in which a late subscriber wants what is
-- past its join, by the joins that the logs of that state have, and over logs that keep the events that they let go
pub record ObeysRules (net : Net) (logs : List Log) (steps : List Line) (arrivals : List Arrival)
    (rs : List (List Report)) : Type 0 where
  pub left : World
  pub run : ServedByRules (last_net net left) (kept_logs logs) steps arrivals rs left

-- It is by the rules, and no other report of these steps and arrivals over these logs is, whatever state and whatever
-- joins that other leaves
pub record AloneObeysRules (net : Net) (logs : List Log) (steps : List Line) (arrivals : List Arrival)
    (rs : List (List Report)) : Type 0 where
  pub obeys : ObeysRules net logs steps arrivals rs
  pub alone : (other : List (List Report)) → ObeysRules net logs steps arrivals other → other ≡ rs
