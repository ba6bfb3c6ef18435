-- What a call that puts lines leaves of the sink
use Rattle.std.specs.Prelude.{◌≡◌, ◌≢◌, ℕ, Result, Err, IfErr, IsErrOf}
use Rattle.gr_out.specs.declared.fault.RunFault.{RunFault}
use Rattle.gr_out.specs.declared.fault.RunFault.TheVariants as run
use Rattle.gr_out.specs.Faults.{Rose}
use Rattle.gr_match_text.specs.Matching.{IsPutFault}

-- The count of its faults rises where the answer is that it failed, and nowhere else; the only other fault is want of
-- memory.
pub record PutKeeps {T : Type 0} (faults faults' : ℕ) (result : Result T RunFault) : Type 0 where
  pub cause : IfErr result IsPutFault
  pub rose : IsErrOf result run.Write → Rose faults faults'
  pub same : result ≢ Err run.Write → faults' ≡ faults
