use Rattle.std.proofs.Common.{length, drop, ◌≡◌, ◌-◌}
use Rattle.std.specs.Prelude.{nat_eq}
use Rattle.std.specs.List.{list_any}
use Rattle.gr_publog.proofs.footing.is_among.Given as goal

-- what is left decides
abbrev pub invariant-some : goal.invariant-some
invariant-some l = list_any (λ x. nat_eq x l.subscriber) (drop l.at l.some) ≡ list_any (λ x. nat_eq x l.subscriber) l.some

abbrev pub decreases-some : goal.decreases-some
decreases-some l = length l.some - l.at
