-- How the parts of a run end: what was done and told, and what stands outside once the page is written
use Rattle.std.specs.Prelude.{◌≡◌, ◌⊎◌, ℕ, ◌≤◌, Bool, true, List, [], ◌∷◌, ◌++◌, length, Option, Result, Ok, Err, OnOk}
use Rattle.std.specs.List.{AllByRecursion}
use Rattle.gr_out.specs.declared.fault.RunFault.{RunFault}
use Rattle.gr_out.specs.declared.fault.RunFault.TheVariants as run
use Rattle.gr_out.specs.Bytes.{with_more}
use Rattle.gr_out.specs.Entry.{Entry}
use Rattle.gr_out.specs.Lane.{Lane}
use Rattle.gr_out.specs.Page.{TakesBut, TakesFront}
use Rattle.gr_sched.specs.declared.step.Line.{Line}
use Rattle.gr_topo.specs.Topology.{TopologyView}
use Rattle.gr_model.specs.NetOf.{net_of}
use Rattle.gr_model.specs.Arrivals.{Arrival}
use Rattle.gr_model_theorems.specs.Served.{IsOfBytes}
use Rattle.gr_node.specs.Seen.{NodeView, text_of}
use Rattle.gr_node.specs.Lasting.{ActsKeep, StoodEachTime}
use Rattle.gr_node.specs.Plan.{Act, shows, run_acts}
use Rattle.gr_node.specs.Done.{all_done, settled}
use Rattle.gr_node.specs.Went.{Outside, IsExact, fault_entries, Begins}
use Rattle.gr_node.specs.Served.{Course, IsRefused, IsRunOf, Posts, Prints, KeepsLogs}

-- The page is written at the end of a part, where its answer is none of these

abbrev pub IsUnwritten : {T : Type 0} → Result T RunFault → Type 0
IsUnwritten (Err run.Memory) = Unit {0}
IsUnwritten (Err run.Write) = Unit {0}
IsUnwritten (Err run.Post) = Unit {0}
IsUnwritten _ = ⊥

-- then the answer is that of the part, and the sink took what the page held; or the sink failed, and took a front of it
pub record Wrote {T : Type 0} (taken taken' : Option (List ℕ)) (held held' : List ℕ) (done result : Result T RunFault)
    : Type 0 where
  pub left : IsUnwritten done → (result ≡ done) × ((taken' ≡ taken) × (held' ≡ held))
  pub written : (IsUnwritten done → ⊥) → ((result ≡ done) × ((taken' ≡ with_more taken held) × (held' ≡ [])))
      ⊎ ((result ≡ Err run.Write) × TakesFront taken taken' held)

-- An answer after which the brokers stand as the last call left them
abbrev pub IsEnd : {T : Type 0} → Result T RunFault → Type 0
IsEnd (Ok x) = Unit {0}
IsEnd (Err run.Post) = Unit {0}
IsEnd _ = ⊥

-- What follows the starts, up to what is shown: acts were made, all or all up to one that was refused. After want of
-- memory, or a failure of the sink, only fronts are told
pub record Ran {T : Type 0} (t : TopologyView) (hosted : List ℕ) (tells : Type 0) (acts : List Act) (n n' : NodeView)
    (before after : Outside) (result : Result T RunFault) : Type 0 where
  pub made : List Act
  pub left : List Act
  pub parts : made ++ left ≡ acts
  pub whole : OnOk result (left ≡ [])
  pub node : IsEnd result → n' ≡ (all_done t hosted n made).node
  pub told : IsExact result
      → TakesBut before.taken after.taken (before.held ++ text_of t (all_done t hosted n made).lines) after.held
  pub sent : IsExact result → tells
      → after.journal ≡ before.journal ++ ((all_done t hosted n made).entries ++ fault_entries result)
  pub refused : (e : RunFault) → result ≡ Err e → IsRefused t e left
  pub told_front : (IsExact result → ⊥)
      → TakesFront before.taken after.taken (before.held ++ text_of t (all_done t hosted n acts).lines)
  pub sent_front : (IsExact result → ⊥) → tells → Begins before.journal after.journal (all_done t hosted n acts).entries

-- so it went with what came, which are no more arrivals than were asked for, once it was told what was ready in one
-- order
pub record RanWith {T : Type 0} (t : TopologyView) (hosted : List ℕ) (tells keeps : Type 0) (steps : List Line)
    (turns : ℕ) (n n' : NodeView) (before after : Outside) (lanes lanes' : ℕ → Lane)
    (result : Result T RunFault) : Type 0 where
  pub came : List Arrival
  pub closed : Bool
  pub within : length came ≤ turns
  pub bytes : AllByRecursion IsOfBytes came
  pub ended : OnOk result ((closed ≡ true) ⊎ (length came ≡ turns))
  pub ran : Ran {T = T} t hosted tells
      (run_acts (net_of t) hosted steps came closed ++ shows ∷ []) n n' before after result
  pub kept : keeps → ActsKeep t hosted n (run_acts (net_of t) hosted steps came closed) lanes lanes'
  pub stood : keeps → StoodEachTime t hosted steps (settled n) came closed lanes'

-- What a whole run does, and what it leaves at the post, at the sink and on the disk
pub record Serves {T : Type 0} (t : TopologyView) (hosted : List ℕ) (steps : List Line) (turns : ℕ)
    (posts keeps : Type 0) (journal journal' : List Entry) (taken taken' : Option (List ℕ))
    (lanes lanes' : ℕ → Lane) (result : Result T RunFault) : Type 0 where
  pub course : Course
  pub run : IsRunOf {T = T} t hosted steps turns course result
  pub posted : posts → Posts {T = T} t hosted steps course journal journal' result
  pub printed : Prints {T = T} t hosted steps course taken taken' result
  pub kept : keeps → KeepsLogs {T = T} t hosted steps course lanes lanes' result
