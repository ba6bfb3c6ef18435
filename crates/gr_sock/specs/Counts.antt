-- How an adapter counts its failures, each by one, up to the last value that a count has, and what it keeps of them.
use Rattle.std.specs.Prelude.{◌≡◌, ◌≢◌, ℕ, false, Option, Result, Err, IsErr, IsErrOf, OnOk, IsSomeAnd}
use Rattle.gr_out.specs.Stops.{StopCounts}
use Rattle.gr_out.specs.Streams.{counted}
use Rattle.gr_out.specs.declared.post.PostFault.{PostFault}
use Rattle.gr_out.specs.declared.post.PostFault.TheVariants.{Failed}
use Rattle.gr_sock.specs.declared.address.Address.{Address}
use Rattle.gr_sock.specs.declared.trouble.LaneError.{LaneError}
use Rattle.gr_sock.specs.declared.trouble.PostError.{PostError}

-- A call that fails raises the count by one. Any other leaves it.
pub record RaisesOnErr {T E : Type 0} (before now : ℕ) (result : Result T E) : Type 0 where
  pub failed : IsErr result → now ≡ counted before
  pub same : OnOk result (now ≡ before)

-- A call of a post that answers `Failed` raises the count by one. Any other leaves it.
pub record RaisesOnFailed {T : Type 0} (before now : ℕ) (result : Result T PostFault) : Type 0 where
  pub failed : IsErrOf result Failed → now ≡ counted before
  pub same : result ≢ Err Failed → now ≡ before

-- A call on a lane that fails keeps what the system said, of that lane. Any other leaves what is kept.
pub record KeepsSaid {T E : Type 0} (lane : ℕ) (before now : Option LaneError) (result : Result T E) : Type 0 where
  pub failed : IsErr result → IsSomeAnd now (λ s. s.lane ≡ lane)
  pub same : OnOk result (now ≡ before)

-- A call of a disk of files raises the count of failures exactly where it fails, and then keeps what the system said.
pub record CountsFault {T E : Type 0} (lane faults faults' : ℕ) (before now : Option LaneError)
    (result : Result T E) : Type 0 where
  pub raises : RaisesOnErr faults faults' result
  pub cause : StopCounts false faults faults' 0 0 result
  pub said : KeepsSaid lane before now result

-- A call of a post that answers `Failed` keeps what the system said, of this address. Any other leaves what is kept.
pub record KeepsFailed {T : Type 0} (address : Option Address) (before now : Option PostError)
    (result : Result T PostFault) : Type 0 where
  pub failed : IsErrOf result Failed → IsSomeAnd now (λ s. s.address ≡ address)
  pub same : result ≢ Err Failed → now ≡ before
