-- What a learned piece changes, worked out before anything is changed, and the room for it
use Rattle.std.specs.Prelude.{◌≡◌, ℕ, ◌+◌, ◌*◌, ◌<◌, ◌≤◌, Bool, true, not, ◌&&◌, nat_le, nat_lt, if◌then◌else◌}
use Rattle.std.specs.Prelude.{List, [], length, get_or, slice_index_or}
use Rattle.gr_tick.specs.declared.TheConstants.{MAX_TICK}
use Rattle.gr_tick.specs.Stored.{RunsGive, needed, is_told}
use Rattle.gr_tick.specs.Runs.{AreRuns, zip_runs}
use Rattle.gr_know.specs.Values.{Known, known_at, same_K, is_Q, join_K}
use Rattle.gr_know.specs.declared.values.K.TheVariants.{Q}
use Rattle.gr_curio.specs.Values.{Wanted, wanted_at, is_C}
use Rattle.gr_curio.specs.Wants.{all_A, wants_of, spare_of}
use Rattle.gr_curio.specs.declared.values.Q3.TheVariants.{N, C, A}
use Rattle.gr_model.specs.Net.{Net, keeps_horizon}
use Rattle.gr_model.specs.Broker.{View, horizon_after, new_ticks, forward}
use Rattle.gr_broker_relay.specs.declared.held.Held.{Held}
use Rattle.gr_broker_relay.specs.declared.learning.Changes.{Changes}

-- what is known once a piece is joined, and where the horizon is then
abbrev pub learned : Known → Known → Known
learned know piece = zip_runs Q Q Q same_K join_K know piece

abbrev pub reached : Net → ℕ → ℕ → View → Known → ℕ
reached net p b v piece = horizon_after (keeps_horizon net p b) v.horizon (learned v.know piece)

-- what a child is sent of the new ticks
abbrev pub sent_to : Net → ℕ → ℕ → View → Known → ℕ → Known
sent_to net p b v piece i =
    forward net p (get_or (net.children p b) i 0) (wants_of v.wants i) (new_ticks v.know piece)

-- What learning a piece changes besides what is known
pub record AreChanges (net : Net) (p b : ℕ) (v : View) (piece : Known) (c : Changes) : Type 0 where
  -- where the horizon moves to
  pub moves : c.to ≡ reached net p b v piece
  pub onward : v.horizon ≤ c.to
  pub inside : c.to ≤ MAX_TICK
  -- for each child what it asked and is now sent; nothing for those past the list
  pub each : (i : ℕ) → i < length v.wants → RunsGive N (slice_index_or c.quenched.items i [])
      (λ t. if not (is_Q (known_at (sent_to net p b v piece i) t)) && is_C (wanted_at (wants_of v.wants i) t)
      then C else N)
  -- the ticks that are consolidated only now
  pub completed : RunsGive N c.completed
      (λ t. if nat_lt v.horizon t && nat_le t (reached net p b v piece) && all_A v.wants t then A else N)

-- There is room to put the changes in place; `below` says that the broker is not the host, and so has asks
pub record HasRoom (below : Bool) (h : Held) (piece : Known) (c : Changes) : Type 0 where
  pub know : needed h.know.runs piece + 2 * length c.completed ≤ h.know.spare
  pub wants : (i : ℕ) → i < length h.wants → length (slice_index_or c.quenched.items i []) ≤ spare_of h.wants i
  pub asks : below ≡ true → length piece + length c.completed ≤ h.asks.spare

-- From each child's curiosity a piece was taken out
pub record AreTaken (before pieces after : List Wanted) : Type 0 where
  pub many : length after ≡ length before
  -- what was there is canonical
  pub canonical : (i : ℕ) → i < length before → AreRuns N (wants_of before i)
  pub each : (i : ℕ) → i < length before → RunsGive N (wants_of after i)
      (λ t. if is_told (slice_index_or pieces i []) t then N else wanted_at (wants_of before i) t)
