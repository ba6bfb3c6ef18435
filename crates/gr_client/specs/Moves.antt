-- How a run over the outside leaves its counts and its journal
use Rattle.std.specs.Prelude.{◌≡◌, ◌≢◌, ℕ, ◌≤◌, List, [], ◌∷◌, ◌++◌, Result, Err, IsErrOf}
use Rattle.std.specs.Prelude.{OnErr, IsOkUnless}
use Rattle.gr_out.specs.declared.fault.RunFault.{RunFault}
use Rattle.gr_out.specs.declared.fault.RunFault.TheVariants as run
use Rattle.gr_out.specs.Entry.{Entry}
use Rattle.gr_out.specs.Entry as entry
use Rattle.gr_out.specs.Faults.{Rose}

-- An answer after which it is known what was done: all of it, or all up to a call that was refused
abbrev pub IsExact : {T : Type 0} → Result T RunFault → Type 0
IsExact (Err run.Memory) = ⊥
IsExact (Err run.Write) = ⊥
IsExact _ = Unit {0}

-- what a post notes of the call that failed
abbrev pub fault_entries : {T : Type 0} → Result T RunFault → List Entry
fault_entries (Err run.Post) = entry.failed ∷ []
fault_entries _ = []

-- some of these entries were put behind those before, the first of them
pub record Begins (before after sent : List Entry) : Type 0 where
  pub part : List Entry
  pub rest : List Entry
  pub whole : sent ≡ part ++ rest
  pub are : after ≡ before ++ part

-- the sink's count: it has risen where the answer is that the sink failed, and stays where it is anything else
pub record SinkMoves {T : Type 0} (faults faults' : ℕ) (result : Result T RunFault) : Type 0 where
  pub rose : IsErrOf result run.Write → Rose faults faults'
  pub same : result ≢ Err run.Write → faults' ≡ faults

-- the post's: it has risen where the answer is that the post failed, and stays where it is anything else
pub record PostMoves {T : Type 0} (faults faults' : ℕ) (result : Result T RunFault) : Type 0 where
  pub never_falls : faults ≤ faults'
  pub same : result ≢ Err run.Post → faults' ≡ faults
  pub rose : IsErrOf result run.Post → Rose faults faults'

-- What a call that offers a note keeps: it ends early for want of memory alone, and has offered nothing then; an offer
-- that fails is a loss, and none that the post counts
pub record OfferKeeps {T : Type 0} (tells : Type 0) (journal journal' : List Entry) (faults faults' : ℕ)
    (result : Result T RunFault) : Type 0 where
  pub unsent : tells → OnErr result (journal' ≡ journal)
  pub cause : IsOkUnless result run.Memory
  pub same : faults' ≡ faults
