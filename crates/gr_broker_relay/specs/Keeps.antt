-- What the calls on a publisher's part leave of it, whatever they say and send
use Rattle.std.specs.Prelude.{◌≡◌, ℕ, ◌<◌, length, Result, OnErr}
use Rattle.gr_topo.specs.Topology.{children_of}
use Rattle.gr_model.specs.NetOf.{net_of}
use Rattle.gr_broker_relay.specs.declared.held.Held.{Held}
use Rattle.gr_broker_relay.specs.declared.site.Site.{Site}
use Rattle.gr_broker_relay.specs.Kept.{IsKept}
use Rattle.gr_broker_relay.specs.Held.{held_view}

-- the place of a child of the broker, in the publisher's tree
abbrev pub IsChild : Site → ℕ → Type 0
IsChild s i = i < length (children_of s.topo.now s.publisher s.broker)

-- What a call that cannot fail leaves: the part is kept as the next call needs it, and the log stays in its place
pub record LeavesKept (s : Site) (before after : Held) : Type 0 where
  pub kept : IsKept (net_of s.topo.now) s.publisher s.broker (held_view after)
  pub elsewhere : after.log ≡ before.log

-- What any other call leaves: the same, and after a fault all is as it was
pub record KeepsPart {T E : Type 0} (s : Site) (before after : Held) (result : Result T E) : Type 0 where
  pub kept : IsKept (net_of s.topo.now) s.publisher s.broker (held_view after)
  pub elsewhere : after.log ≡ before.log
  pub err : OnErr result (held_view after ≡ held_view before)
