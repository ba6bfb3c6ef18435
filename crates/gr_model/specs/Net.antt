-- A topology as the machine sees it: brokers, publishers and subscribers are numbers from 0
use Rattle.std.specs.Prelude.{ℕ, Bool, true, false, ◌&&◌, ◌||◌, nat_eq, List, [], ◌∷◌, Option}
use Rattle.std.specs.List.{list_any, list_all}
use Rattle.gr_event.specs.declared.event.Event.{Event}
use Rattle.gr_event.specs.Joins.{Joins, joined_below}
use Rattle.gr_know.specs.declared.values.K.{K}
use Rattle.gr_know.specs.declared.values.K.TheVariants.{Q, S, D, F}
pub use Rattle.gr_subend.specs.Horizon.{numbers_from}
pub use Rattle.gr_topo.specs.Topology.{is_empty, not_empty}

pub record Net : Type 0 where
  pub brokers : ℕ  -- how many
  pub publishers : ℕ
  pub subscribers : ℕ
  pub host : ℕ → ℕ  -- the broker of a publisher
  pub client : ℕ → Bool  -- the publisher is in a process of its own
  pub at : ℕ → ℕ  -- the broker of a subscriber
  pub up : ℕ → ℕ → Option ℕ  -- for a publisher, the next broker from a broker towards the host; the host has none
  pub children : ℕ → ℕ → List ℕ  -- for a publisher, the next brokers away from the host, in rising order
  pub subscribers_at : ℕ → List ℕ  -- the subscribers at a broker, in rising order
  pub below : ℕ → ℕ → List ℕ  -- for a publisher, the subscribers at a broker and beyond it
  pub late : List ℕ  -- the late subscribers, in order
  pub depth : ℕ → ℕ → ℕ  -- for a publisher, how many edges a broker is from the host
  pub wants : ℕ → ℕ → ℕ → Event → Bool  -- for a publisher, a subscriber is to have an event of a tick
  pub gap : ℕ  -- the age at which a tick is asked where something later is known, in milliseconds
  pub idle : ℕ  -- the age at which any tick is asked
  pub retry : ℕ  -- how long an ask is outstanding
  pub quiet : ℕ  -- how long a log is silent before it is marked
  pub cache : ℕ  -- how many event ticks a broker below the host keeps for a publisher
  pub reclaim : ℕ  -- a cut writes a log anew whose text has this many bytes or more

-- 0, 1, .. below a number
abbrev pub numbers : ℕ → List ℕ
numbers n = numbers_from 0 n

-- a broker keeps a horizon for a publisher where it has subscribers or is a leaf
abbrev pub keeps_horizon : Net → ℕ → ℕ → Bool
keeps_horizon net p b = not_empty (net.subscribers_at b) || is_empty (net.children p b)

-- the publisher is at the broker
abbrev pub is_host : Net → ℕ → ℕ → Bool
is_host net p b = nat_eq (net.host p) b

-- a net whose subscribers want something else
abbrev pub with_wants : Net → (ℕ → ℕ → ℕ → Event → Bool) → Net
with_wants net f = record net { wants = f }

-- the subscriber is late
abbrev pub is_late : Net → ℕ → Bool
is_late net s = list_any (λ x. nat_eq x s) net.late

-- each join is of a late subscriber
abbrev pub all_late : Net → Joins → Bool
all_late net js = list_all (λ j. is_late net j.subscriber) js

-- who wants an event of a tick where these are the joins
abbrev pub wants_with : Net → Joins → ℕ → ℕ → ℕ → Event → Bool
wants_with net js p s t e = elim (is_late net s) [
  | true ↦ net.wants p s t e && joined_below js s t
  | false ↦ net.wants p s t e
]

-- some subscriber at the broker or beyond it wants the event of the tick
abbrev pub wanted_below : Net → ℕ → ℕ → ℕ → Event → Bool
wanted_below net p b t e = list_any (λ s. net.wants p s t e) (net.below p b)

-- what the edge to a child lets pass at a tick: an event that nobody there wants becomes silence
abbrev pub pass : Net → ℕ → ℕ → ℕ → K → K
pass net p c t Q = Q
pass net p c t S = S
pass net p c t F = F
pass net p c t (D e) = elim (wanted_below net p c t e) [ true ↦ D e | false ↦ S ]
