-- What a lane in memory keeps, the room that it has, and what becomes of each call of a disk in memory
use Rattle.std.specs.Prelude.{◌≡◌, ◌≢◌, ℕ, ◌+◌, ◌-◌, ◌≤◌, nat_eq, Bool, true, false, if◌then◌else◌, List, [], length, take, drop}
use Rattle.std.specs.Prelude.{◌++◌, replicate, Result, is_err, IsErr}
use Rattle.gr_out.specs.declared.disk.Fate.{Fate}
use Rattle.gr_out.specs.declared.disk.Fate.TheVariants.{Done, Failed, Broken, Lost}
use Rattle.gr_out.specs.declared.disk.Stop.{Stop}
use Rattle.gr_out.specs.declared.disk.Stop.TheVariants.{Stopped}
use Rattle.gr_out.specs.Lane.{Lane, Call, read_after, synced_after, fresh_after, garbled, has_stopped, is_due, fate_of, lane_at}
use Rattle.gr_out.specs.Stops.{StopCounts, StaysFaultless}
use Rattle.gr_out.specs.Streams.{counted, is_listed}

-- what was synced: the bytes, with others in place of as many as there are marks, from a first place on
abbrev pub synced_of : List ℕ → List ℕ → List Bool → ℕ → List ℕ
synced_of bytes synced fresh first = take first bytes ++ (synced ++ drop (first + length fresh) bytes)

-- which of the bytes are fresh: those that are marked, from a first place on
abbrev pub fresh_of : List ℕ → List Bool → ℕ → List Bool
fresh_of bytes fresh first =
    replicate first false ++ (fresh ++ replicate (length bytes - (first + length fresh)) false)

-- What is kept of a lane is what its calls make of it.
pub record IsKept (start bytes synced : List ℕ) (fresh : List Bool) (first : ℕ) (calls : List Call) : Type 0 where
  pub bytes_are : bytes ≡ read_after start calls
  pub synced_are : synced_of bytes synced fresh first ≡ synced_after start calls
  pub fresh_are : fresh_of bytes fresh first ≡ fresh_after start calls
  pub within : first + length fresh ≤ length bytes

-- There is room for the bytes, and for what was synced, up to an extent.
pub record HasRoom (extent room first : ℕ) (bytes synced : List ℕ) (fresh : List Bool)
    (bytes_cap synced_cap fresh_cap : ℕ) : Type 0 where
  pub bytes_in : length bytes ≤ extent
  pub synced_in : first + length synced + (length bytes - (first + length fresh)) ≤ extent
  pub room_in : room ≤ extent
  pub bytes_fit : extent ≤ bytes_cap
  pub synced_fit : extent ≤ synced_cap
  pub fresh_fit : extent ≤ fresh_cap

-- what a crash leaves of these bytes, given what was synced and which bytes are fresh
abbrev pub left_by : Stop → List ℕ → List Bool → List ℕ → List ℕ
left_by stop synced fresh bytes =
    elim stop [
      | Stopped pick ↦ if nat_eq pick 0 then synced else (if nat_eq pick 1 then bytes else garbled pick 0 fresh bytes)
      | _ ↦ bytes
    ]

-- a lane with these calls, and one call less to come
abbrev pub with_calls : List Call → Lane → Lane
with_calls calls l = record {
  start = l.start;
  calls = calls;
  room = l.room;
  left = l.left - 1;
  reserved = l.reserved;
  stop = l.stop;
}

-- the call does not come through
abbrev pub is_failure : Fate → Bool
is_failure Done = false
is_failure Failed = true
is_failure Broken = true
is_failure Lost = true

-- the stop is why it does not
abbrev pub is_broken : Fate → Bool
is_broken Done = false
is_broken Failed = false
is_broken Broken = true
is_broken Lost = true

-- what becomes of a call that changes nothing, given whether it fails by itself
abbrev pub fate_of_read : Bool → Stop → Fate
fate_of_read fails stop = if has_stopped stop then Lost else (if fails then Failed else Done)

-- the count of failures after a call, and that of the calls that a stop broke
abbrev pub faults_after : Fate → ℕ → ℕ
faults_after Failed n = counted n
faults_after _ n = n

abbrev pub stops_after : Fate → ℕ → ℕ
stops_after Broken n = counted n
stops_after Lost n = counted n
stops_after _ n = n

-- A disk in memory.
pub record DiskView : Type 0 where
  pub lanes : List Lane
  -- the numbers of the calls that fail, counted from 1 over sizes, reads, writes, cuts and syncs of all lanes
  pub fails : List ℕ
  -- how many calls there were
  pub calls : ℕ
  -- how many failed, and how many more a stop broke
  pub faults : ℕ
  pub stops : ℕ

-- the next call is in the list of those that fail
abbrev pub is_next_listed : DiskView → Bool
is_next_listed d = is_listed d.fails d.calls

-- what becomes of the next size or read of a lane, and of the next write, cut or sync of it
abbrev pub look_fate : DiskView → ℕ → Fate
look_fate d n = fate_of_read (is_next_listed d) (lane_at d.lanes n).stop

abbrev pub change_fate : DiskView → ℕ → Fate
change_fate d n = fate_of (is_next_listed d) (lane_at d.lanes n).stop

-- A call that fails exactly where it is listed or an ordered stop breaks it. It is counted, whatever it answers.
pub record FailsAsListed {T E : Type 0} (fate : Fate) (old new : DiskView) (result : Result T E) : Type 0 where
  pub fails : is_err result ≡ is_failure fate
  pub list : new.fails ≡ old.fails
  pub calls : new.calls ≡ counted old.calls
  pub faults : new.faults ≡ faults_after fate old.faults
  pub stops : new.stops ≡ stops_after fate old.stops

-- A size or a read of a lane leaves all lanes as they were, and fails where it is listed or a stop has broken a call.
pub record LooksAt {T E : Type 0} (lane : ℕ) (old new : DiskView) (result : Result T E) : Type 0 where
  pub same : (n : ℕ) → lane_at new.lanes n ≡ lane_at old.lanes n
  pub listed : FailsAsListed (look_fate old lane) old new result
  pub cause : StopCounts (has_stopped (lane_at old.lanes lane).stop) old.faults new.faults old.stops new.stops result
  pub faultless : StaysFaultless (old.fails ≡ []) (new.fails ≡ []) old.faults new.faults
  pub by_stop : old.fails ≡ [] → IsErr result → has_stopped (lane_at old.lanes lane).stop ≡ true

-- A write, cut or sync of a lane leaves the other lanes as they were, and fails where it is listed or a stop is due.
pub record ChangesLane {T E : Type 0} (lane : ℕ) (old new : DiskView) (result : Result T E) : Type 0 where
  pub others : (n : ℕ) → n ≢ lane → lane_at new.lanes n ≡ lane_at old.lanes n
  pub listed : FailsAsListed (change_fate old lane) old new result
  pub cause : StopCounts (is_due (lane_at old.lanes lane).stop) old.faults new.faults old.stops new.stops result
  pub faultless : StaysFaultless (old.fails ≡ []) (new.fails ≡ []) old.faults new.faults
  pub by_stop : old.fails ≡ [] → IsErr result → is_due (lane_at old.lanes lane).stop ≡ true

-- A call that cannot fail, and is not counted.
pub record IsUncounted (old new : DiskView) : Type 0 where
  pub list : new.fails ≡ old.fails
  pub calls : new.calls ≡ old.calls
  pub faults : new.faults ≡ old.faults
  pub stops : new.stops ≡ old.stops
