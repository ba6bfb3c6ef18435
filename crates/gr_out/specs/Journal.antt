-- The journal of a post: its entries in order, the earliest first, and what each call puts behind them
use Rattle.std.specs.Prelude.{◌≡◌, ◌≢◌, ◌≤◌, ◌==◌, ℕ, Bool, true, List, [], ◌∷◌, take, Result, Ok, Err, IsErrOf, ⊤}
use Rattle.std.specs.List.{list_any, flat_map}
use Rattle.gr_out.specs.declared.post.Arrival.{Arrival}
use Rattle.gr_out.specs.declared.post.Arrival.TheVariants as arrival
use Rattle.gr_out.specs.declared.post.PostFault.{PostFault}
use Rattle.gr_out.specs.declared.post.PostFault.TheVariants as fault
use Rattle.gr_out.specs.Entry.{Entry, bound, offered, datagram, quiet, failed, closed}
use Rattle.gr_out.specs.Faults.{Rose}

-- What a call puts into the journal. One that answers want of memory puts nothing

abbrev pub bind_entries : {T : Type 0} → ℕ → List ℕ → Bool → Result T PostFault → List Entry
bind_entries broker address here (Ok _) = bound broker address here ∷ []
bind_entries broker address here (Err fault.Failed) = failed ∷ []
bind_entries broker address here (Err fault.Memory) = []

-- an offer that failed stands there like any other
abbrev pub offer_entries : {T : Type 0} → ℕ → ℕ → List ℕ → Result T PostFault → List Entry
offer_entries from to bytes (Ok _) = offered from to bytes ∷ []
offer_entries from to bytes (Err fault.Failed) = offered from to bytes ∷ []
offer_entries from to bytes (Err fault.Memory) = []

-- the bytes of a datagram are those that were written to the front of the piece
abbrev pub next_entries : List ℕ → Result Arrival PostFault → List Entry
next_entries piece (Ok (arrival.Datagram at len moment)) = datagram at (take len piece) moment ∷ []
next_entries piece (Ok (arrival.Quiet moment)) = quiet moment ∷ []
next_entries piece (Ok arrival.Closed) = closed ∷ []
next_entries piece (Err fault.Failed) = failed ∷ []
next_entries piece (Err fault.Memory) = []

-- What a journal tells

-- the brokers that were bound as hosted
abbrev pub hosted_in : Entry → List ℕ
hosted_in (bound broker address true) = broker ∷ []
hosted_in _ = []

abbrev pub hosted : List Entry → List ℕ
hosted journal = flat_map hosted_in journal

-- the offers, each as the broker that it goes to and its bytes
abbrev pub offer_in : Entry → List (ℕ × List ℕ)
offer_in (offered from to bytes) = (to, bytes) ∷ []
offer_in _ = []

abbrev pub offers : List Entry → List (ℕ × List ℕ)
offers journal = flat_map offer_in journal

-- a broker is among these
abbrev pub is_among : List ℕ → ℕ → Bool
is_among brokers b = list_any (λ a. a == b) brokers

-- an arrival is no longer than a piece of this size
abbrev pub Fits : ℕ → Arrival → Type 0
Fits size (arrival.Datagram at len moment) = len ≤ size
Fits size (arrival.Quiet moment) = ⊤
Fits size arrival.Closed = ⊤

-- it came at one of these brokers
abbrev pub CameAt : List ℕ → Arrival → Type 0
CameAt brokers (arrival.Datagram at len moment) = is_among brokers at ≡ true
CameAt brokers (arrival.Quiet moment) = ⊤
CameAt brokers arrival.Closed = ⊤

-- A call that answers `Failed` counted a fault. Any other leaves the count as it was.
pub record CountsFailed {T : Type 0} (before now : ℕ) (result : Result T PostFault) : Type 0 where
  pub never_falls : before ≤ now
  pub failed : IsErrOf result fault.Failed → Rose before now
  pub same : result ≢ Err fault.Failed → now ≡ before
