-- What calls keep of a lane, one after another
use Rattle.std.proofs.Common.{◌≡◌, ℕ, Bool, List, ap, ◌∙◌}
use Rattle.gr_out.specs.Lane.{Lane, Write, Sync, after_call}
use Rattle.gr_publog.specs.Uses.{KeepsCalls}
use Rattle.gr_publog.proofs.Onward.{goes_on_write, goes_on_sync, goes_on_then}
use Rattle.gr_publog.proofs.Stopping.{still_unset}

-- one call, whatever became of it
module _ (fails : Bool) (l l' : Lane) where
  pub keeps_write : (at : ℕ) (bytes : List ℕ) → l' ≡ after_call (Write at bytes) fails l → KeepsCalls l l'
  keeps_write at bytes e = record {
    goes_on = goes_on_write fails l l' at bytes e;
    reserved = ap (λ (x : Lane). x.reserved) e;
    unset = still_unset l l' (Write at bytes) fails e;
  }

  pub keeps_sync : l' ≡ after_call Sync fails l → KeepsCalls l l'
  keeps_sync e = record {
    goes_on = goes_on_sync fails l l' e;
    reserved = ap (λ (x : Lane). x.reserved) e;
    unset = still_unset l l' Sync fails e;
  }

-- one after another
pub keeps_then : (a b c : Lane) → KeepsCalls a b → KeepsCalls b c → KeepsCalls a c
keeps_then a b c x y = record {
  goes_on = goes_on_then a b c x.goes_on y.goes_on;
  reserved = y.reserved ∙ x.reserved;
  unset = λ h. y.unset (x.unset h);
}
