-- What a child's curiosity changes, worked out before anything is changed, and the room for it
use Rattle.std.specs.Prelude.{◌≡◌, ℕ, ◌+◌, ◌*◌, ◌≤◌, Bool, true, false, not, ◌&&◌, nat_le, if◌then◌else◌}
use Rattle.std.specs.Prelude.{[], length, get_or, Some}
use Rattle.gr_tick.specs.Stored.{RunsGive, needed}
use Rattle.gr_know.specs.Values.{Known, known_at, is_Q}
use Rattle.gr_curio.specs.declared.values.Q3.TheVariants.{N, C, A}
use Rattle.gr_curio.specs.Values.{Wanted, wanted_at, asked_at, is_C, is_A}
use Rattle.gr_curio.specs.Due.{due_of}
use Rattle.gr_curio.specs.Wants.{runs_of, wants_of, spare_of, all_A_but}
use Rattle.gr_broker_walks.specs.Told.{left_by}
use Rattle.gr_model.specs.Net.{Net, is_host, keeps_horizon}
use Rattle.gr_model.specs.Broker.{View, max_tick, acknowledged, answers}
use Rattle.gr_broker_relay.specs.declared.held.Held.{Held}
use Rattle.gr_broker_relay.specs.declared.answering.Answers.{Answers}

-- the last tick that may be consolidated: the horizon, where one is kept
abbrev pub last_completed : Net → ℕ → ℕ → ℕ → ℕ
last_completed net p b h = if keeps_horizon net p b then h else max_tick

-- the machine's reply to the child at a place
abbrev pub reply_to : Net → ℕ → ℕ → ℕ → Wanted → View → Known
reply_to net p b i piece v =
    answers net p (get_or (net.children p b) i 0) v.know (acknowledged (wants_of v.wants i) piece) piece

-- What the curiosity of the child at place `i` changes, tick by tick
pub record AreAnswers (net : Net) (p b now i : ℕ) (piece : Wanted) (v : View) (a : Answers) : Type 0 where
  -- what the child acknowledges, and what it asks and is not told
  pub left : RunsGive N a.left (left_by piece (reply_to net p b i piece v))
  -- what it asked before and is told now
  pub answered : RunsGive N a.answered (λ t.
      if not (is_Q (known_at (reply_to net p b i piece v) t)) && is_C (wanted_at (wants_of v.wants i) t) then C else N)
  -- the ticks that are consolidated only now
  pub completed : RunsGive N a.completed (λ t.
      if is_A (wanted_at a.left t) && nat_le t (last_completed net p b v.horizon) && all_A_but (Some i) v.wants t
      then A else N)
  -- what is asked upstream; the host asks nobody
  pub asks_nobody : is_host net p b ≡ true → a.asked ≡ []
  pub asked : is_host net p b ≡ false →
      RunsGive N a.asked (λ t. due_of (asked_at v.asks t) (wanted_at a.left t) now net.retry)

-- There is room to put them in place; `below` says that the broker is not the host, and so has asks
pub record HasAnswerRoom (below : Bool) (i : ℕ) (h : Held) (a : Answers) : Type 0 where
  pub know : 2 * length a.completed ≤ h.know.spare
  pub wants : needed (wants_of (runs_of h.wants) i) a.left + length a.answered ≤ spare_of h.wants i
  pub asks : below ≡ true → length a.asked * 2 + length a.completed ≤ h.asks.spare
