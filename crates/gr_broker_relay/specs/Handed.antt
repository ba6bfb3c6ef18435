-- What the subscribers at a broker are told where its horizon moves
use Rattle.std.specs.Prelude.{ℕ, Bool, ◌&&◌, List, [], ◌∷◌, ◌++◌, map, filter, flat_map}
use Rattle.gr_event.specs.declared.event.Event.{Event}
use Rattle.gr_event.specs.Joins.{Joins, joined_below}
use Rattle.gr_know.specs.Values.{Known}
use Rattle.gr_topo.specs.Topology.{TopologyView, wants}
use Rattle.gr_model.specs.declared.report.Report.{Report}
use Rattle.gr_model.specs.declared.report.Report.TheVariants as line
use Rattle.gr_model.specs.Net.{Net, wants_with}
use Rattle.gr_model.specs.NetOf.{net_of}
use Rattle.gr_model.specs.Broker.{data_ticks, delivery_lines, got_line}

-- the events that a subscriber gets of those that a horizon passes, by a test of them
abbrev pub got_lines : (ℕ × Event → Bool) → ℕ → List (ℕ × Event) → ℕ → List Report
got_lines wanted p passed s = map (got_line s p) (filter wanted passed)

-- a subscriber in time gets those that its filter passes
abbrev pub got_in_time : TopologyView → ℕ → List (ℕ × Event) → ℕ → List Report
got_in_time t p passed s = got_lines (λ x. wants t s x.1) p passed s

-- a late one gets those of them that are past its join
abbrev pub got_late : TopologyView → Joins → ℕ → List (ℕ × Event) → ℕ → List Report
got_late t js p passed s = got_lines (λ x. wants t s x.1 && joined_below js s x.0) p passed s

-- each gets those that it wants, where these are the joins
abbrev pub got_by : TopologyView → Joins → ℕ → List (ℕ × Event) → ℕ → List Report
got_by t js p passed s = got_lines (λ x. wants_with (net_of t) js p s x.0 x.1) p passed s

-- one subscriber, where the horizon moves to a tick: the events that it wants, and the horizon
abbrev pub told_to : Net → ℕ → ℕ → List (ℕ × Event) → ℕ → List Report
told_to net p to passed s = got_lines (λ x. net.wants p s x.0 x.1) p passed s ++ line.Horizon s p to ∷ []

-- all at a broker, where the horizon moves from one tick to another, of what is known then
abbrev pub lines_to : Net → ℕ → ℕ → ℕ → ℕ → Known → List Report
lines_to net p b from to know = flat_map (delivery_lines net p from to (data_ticks from to know)) (net.subscribers_at b)
