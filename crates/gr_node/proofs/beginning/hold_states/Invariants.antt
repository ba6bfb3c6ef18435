use Rattle.std.proofs.Common.{◌≡◌, ℕ, ◌<◌, Some}
use Rattle.gr_publog.specs.State.{IsState}
use Rattle.gr_publog.specs.Views.{LogView}
use Rattle.gr_broker.specs.Seen.{log_in}
use Rattle.gr_node.proofs.beginning.hold_states.Given as goal

-- so do those of the publishers so far
abbrev pub invariant-publishers : goal.invariant-publishers
invariant-publishers l = record {
  states : (p : ℕ) (x : LogView) → p < l.p → log_in l.broker p ≡ Some x → IsState x.state;
}
