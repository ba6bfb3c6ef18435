-- A log whose events are read one after another, from its cut on
use Rattle.std.specs.Prelude.{ℕ, true, List, [], ◌∷◌}
use Rattle.gr_publog.specs.declared.record.Entry.{Entry}
pub use Rattle.gr_publog.specs.State.{EntriesRise}
use Rattle.gr_pubend.specs.Log.{Log, pairs}

-- the tick of the last entry, or a tick before the first one
abbrev pub last_tick : ℕ → List Entry → ℕ
last_tick from [] = from
last_tick from (e ∷ es) = last_tick e.tick es

-- the log with this cut and these entries behind it
abbrev pub seen : ℕ → List Entry → Log
seen cut es = record {
  last = 0;
  settled = last_tick cut es;
  cut = cut;
  events = pairs es;
  joins = [];
  generation = 1;
  size = 33;
  forgets = true;
}
