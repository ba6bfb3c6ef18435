-- What `publish` is asked, and what a run of a client comes to
use Rattle.std.specs.Prelude.{◌≡◌, ℕ, ◌≤◌, List, length, Option, Result, Err, IfSome, ⊤}
use Rattle.gr_out.specs.declared.fault.RunFault.{RunFault}
use Rattle.gr_out.specs.declared.fault.RunFault.TheVariants as run
use Rattle.gr_out.specs.Entry.{Entry}
use Rattle.gr_sched.specs.declared.step.TheConstants.{MAX_STEPS}
use Rattle.gr_sched.specs.declared.step.Line.{Line}
use Rattle.gr_topo.specs.Topology.{TopologyView}
use Rattle.gr_scenario.specs.declared.asked.Asked.{Asked}
use Rattle.gr_scenario.specs.declared.asked.Asked.TheVariants as asked
use Rattle.gr_scenario.specs.Scenario.{asked_by}
use Rattle.gr_client.specs.Ran.{Course, IsRunOf, Posts, Prints}
use Rattle.gr_top.specs.declared.publishing.Publishing.{Publishing}
use Rattle.gr_top.specs.declared.publishing.Publishing.TheVariants.{TooManyBytes, TooManySteps, Refused, Run}
use Rattle.gr_top.specs.declared.submitter.Submitter.{Submitter}
use Rattle.gr_top.specs.declared.submitter.Submitter.TheVariants as submitter
use Rattle.gr_top.specs.declared.words.Task.{Task}
use Rattle.gr_top.specs.declared.words.Task.TheVariants.{Publish}
use Rattle.gr_top.specs.Submitter.{submitter_of, HasClient}

-- What is asked

-- over a topology that was read with its steps
abbrev pub publishing_over : TopologyView → List Line → Submitter → Publishing
publishing_over t lines (submitter.Refused line) = Refused line
publishing_over t lines (submitter.Client p) = Run t lines p

-- by the bytes of a source and the word that names a publisher
abbrev pub publishing_of : List ℕ → Asked → Publishing
publishing_of word asked.TooManyBytes = TooManyBytes
publishing_of word asked.TooManySteps = TooManySteps
publishing_of word (asked.Refused line) = Refused line
publishing_of word (asked.Scenario t lines) = publishing_over t lines (submitter_of t word)

-- where there is to be a run, what holds of it: of the topology, its steps and the publisher whose client submits
abbrev pub OnPublish : Publishing → (TopologyView → List Line → ℕ → Type 0) → Type 0
OnPublish TooManyBytes P = Unit {0}
OnPublish TooManySteps P = Unit {0}
OnPublish (Refused line) P = Unit {0}
OnPublish (Run t lines p) P = P t lines p

-- the same of a task, with these bytes left in the source, where a client is to submit
abbrev pub IfPublish : Task → Option (List ℕ) → (ℕ → TopologyView → List Line → ℕ → Type 0) → Type 0
IfPublish (Publish word turns) left P = IfSome left (λ bytes. OnPublish (publishing_of word (asked_by bytes)) (P turns))
IfPublish _ left P = Unit {0}

-- there are no more steps than may be, and the publisher has a client that can submit
pub record CanPublish (t : TopologyView) (lines : List Line) (p : ℕ) : Type 0 where
  pub few : length lines ≤ MAX_STEPS
  pub able : HasClient t p

-- What stands outside

-- what the sink took, and the journal of the post
pub record Outside : Type 0 where
  pub taken : Option (List ℕ)
  pub journal : List Entry

abbrev pub outside : Option (List ℕ) → List Entry → Outside
outside taken journal = record { taken = taken; journal = journal }

-- A run of a client came to an answer. What was done of it is told by its course: the post has the journal of that, and
-- the sink took its lines
pub record PublishesTo (t : TopologyView) (lines : List Line) (p turns : ℕ) (post_tells : Type 0)
    (before after : Outside) (answer : Result ⊤ RunFault) : Type 0 where
  pub course : Course
  pub is_run : IsRunOf t p lines turns course answer
  pub posts : post_tells → Posts t p lines course before.journal after.journal answer
  pub prints : Prints t p lines course before.taken after.taken answer

-- the status after a fault; nothing more is printed then, and a client has no disk
abbrev pub StatusOf : RunFault → ℕ → Type 0
StatusOf run.Write status = status ≡ 4
StatusOf run.Memory status = status ≡ 7
StatusOf run.Post status = status ≡ 8
StatusOf _ status = ⊥

-- A run of a client was ended by a fault
pub record StopsPublishing (t : TopologyView) (lines : List Line) (p turns : ℕ) (post_tells : Type 0)
    (before after : Outside) (status : ℕ) : Type 0 where
  pub fault : RunFault
  pub run : PublishesTo t lines p turns post_tells before after (Err fault)
  pub ends : StatusOf fault status

-- want of memory came before the run: nothing was done
pub record NotPublished (before after : Outside) (status : ℕ) : Type 0 where
  pub memory : status ≡ 7
  pub same : after ≡ before
