-- A source and a sink in memory: which of their calls fail, what the others answer, and what each leaves.
use Rattle.std.specs.Prelude.{ℕ, ◌+◌, ◌-◌, min, ◌&&◌, ◌||◌, Bool, true, false, List, [], ◌++◌, length, take, drop, ◌==◌}
use Rattle.std.specs.Prelude.{if◌then◌else◌}
use Rattle.std.specs.List.{list_any}
use Rattle.gr_out.specs.Faults.{last_count}

-- a count one higher; at its last value it stays
abbrev pub counted : ℕ → ℕ
counted n = min (n + 1) last_count

-- A source in memory.
pub record SourceView : Type 0 where
  -- the bytes left
  pub left : List ℕ
  -- the numbers of the calls that fail, counted from 1
  pub fails : List ℕ
  -- how many calls there were
  pub calls : ℕ
  -- how many of them failed
  pub faults : ℕ

-- A sink in memory.
pub record SinkView : Type 0 where
  -- the bytes taken
  pub taken : List ℕ
  -- how many bytes it takes in all
  pub room : ℕ
  -- the numbers of the calls that fail, counted from 1
  pub fails : List ℕ
  -- how many calls there were
  pub calls : ℕ
  -- how many of them failed
  pub faults : ℕ

-- a source of these bytes, of which no call was made
abbrev pub source_of : List ℕ → List ℕ → SourceView
source_of bytes fails = record { left = bytes; fails = fails; calls = 0; faults = 0 }

-- an empty sink with this room, of which no call was made
abbrev pub sink_of : ℕ → List ℕ → SinkView
sink_of room fails = record { taken = []; room = room; fails = fails; calls = 0; faults = 0 }

-- the next call is in the list of those that fail
abbrev pub is_listed : List ℕ → ℕ → Bool
is_listed fails calls = list_any (λ n. n == counted calls) fails

-- the next read fails
abbrev pub read_fails : SourceView → Bool
read_fails s = is_listed s.fails s.calls

-- how many bytes the next read into a piece of this size gives, where it does not fail
abbrev pub read_count : SourceView → ℕ → ℕ
read_count s size = min size (length s.left)

-- a source after a read into a piece of this size
abbrev pub after_read : SourceView → ℕ → SourceView
after_read s size = record {
  left = if read_fails s then s.left else drop (read_count s size) s.left;
  fails = s.fails;
  calls = counted s.calls;
  faults = if read_fails s then counted s.faults else s.faults;
}

-- how many of so many bytes the next write takes, where it does not fail
abbrev pub write_count : SinkView → ℕ → ℕ
write_count s size = min size (s.room - length s.taken)

-- the next write of so many bytes fails: it is in the list, or there are some and none of them fits in the room
abbrev pub write_fails : SinkView → ℕ → Bool
write_fails s size = is_listed s.fails s.calls || ((write_count s size == 0) && (if size == 0 then false else true))

-- a sink after a write of these bytes
abbrev pub after_write : SinkView → List ℕ → SinkView
after_write s bytes = record {
  taken = if write_fails s (length bytes) then s.taken else s.taken ++ take (write_count s (length bytes)) bytes;
  room = s.room;
  fails = s.fails;
  calls = counted s.calls;
  faults = if write_fails s (length bytes) then counted s.faults else s.faults;
}
