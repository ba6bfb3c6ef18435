use Rattle.std.proofs.Common.{◌≡◌, ◌-◌, ◌≤◌, length, drop, filter, nat_lt}
use Rattle.gr_publog.specs.State.{EntriesRise}
use Rattle.gr_publog.proofs.fill.first_past.Given as goal

abbrev pub invariant-cut : goal.invariant-cut
invariant-cut l = record {
  within : l.i ≤ length l.entries.items;
  rise : EntriesRise 0 (drop l.i l.entries.items);
  rest : filter (λ e. nat_lt l.tick e.tick) (drop l.i l.entries.items) ≡ filter (λ e. nat_lt l.tick e.tick) l.entries.items;
}

abbrev pub decreases-cut : goal.decreases-cut
decreases-cut l = length l.entries.items - l.i
