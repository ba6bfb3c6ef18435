-- The subscribers that may join are those that the log was opened with
use Rattle.std.proofs.Common.{◌≡◌, ℕ, true, List, nat_eq, sym, subst}
use Rattle.std.specs.List.{list_any}
use Rattle.gr_tests_wire.proofs.joining.open.Goals as goal

pub join_end-requires-clause-late : goal.join_end-requires-clause-late
join_end-requires-clause-late c = subst (λ (some : List ℕ). list_any (λ x. nat_eq x c.args.subscriber) some ≡ true) (sym c.in-Ok.ensures.late) c.requires.late
