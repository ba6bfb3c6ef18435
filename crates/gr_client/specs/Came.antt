-- What comes from outside, as a post tells it
use Rattle.std.specs.Prelude.{ℕ, List}
use Rattle.gr_out.specs.Entry.{Entry}
use Rattle.gr_out.specs.Entry as entry

-- the bytes of a datagram to a node, or a quiet moment; each at a moment
pub data Arrival : Type 0 where
  datagram : ℕ → List ℕ → ℕ → Arrival
  quiet : ℕ → Arrival

-- what stands of it in the journal
abbrev pub entry_of : Arrival → Entry
entry_of (datagram b bytes moment) = entry.datagram b bytes moment
entry_of (quiet moment) = entry.quiet moment
