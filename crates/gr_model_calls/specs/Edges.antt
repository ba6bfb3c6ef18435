-- Which frames go over an edge of the tree
use Rattle.std.specs.Prelude.{◌≡◌, ℕ, ◌<◌, true, nat_eq, Some}
use Rattle.std.specs.List.{list_any}
use Rattle.gr_frame.specs.declared.Body.{Body}
use Rattle.gr_frame.specs.declared.Body.TheVariants as body
use Rattle.gr_frame.specs.declared.Frame.{Frame}
use Rattle.gr_model.specs.Net.{Net}
use Rattle.gr_model.specs.Arrivals.{joins_fit}

-- curiosity comes from a child; knowledge, and the tick to expect, from the next broker towards the host
abbrev pub GoesBetween : Net → ℕ → ℕ → ℕ → Body → Type 0
GoesBetween net p from to (body.Curiosity runs) = list_any (λ x. nat_eq x from) (net.children p to) ≡ true
GoesBetween net p from to _ = net.up p to ≡ Some from

-- a frame is of a publisher of the topology and goes over an edge between two of its brokers
pub record GoesOverEdge (net : Net) (f : Frame) : Type 0 where
  pub publisher : f.head.publisher < net.publishers
  pub from : f.head.from < net.brokers
  pub to : f.head.to < net.brokers
  pub between : GoesBetween net f.head.publisher f.head.from f.head.to f.body
  pub joins : joins_fit net f ≡ true  -- each is of a late subscriber
