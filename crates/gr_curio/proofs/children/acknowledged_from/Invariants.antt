use Rattle.std.proofs.Common.{◌≡◌, ℕ, ◌+◌, ◌<◌, ◌≤◌, true, take}
use Rattle.std.specs.List.{list_all}
use Rattle.gr_curio.specs.Values.{wanted_at, is_A}
use Rattle.gr_curio.specs.Wants.{HasChange}
use Rattle.gr_curio.proofs.children.acknowledged_from.Given as goal

-- the children so far have all acknowledged the ticks up to the end, after which one changes
abbrev pub invariant-loop-child : goal.invariant-loop-child
invariant-loop-child l = record {
  forward : l.tick ≤ l.end;
  inside : l.end ≤ l.limit;
  greatest : l.end < l.limit → HasChange l.tick (l.end + 1) (take l.child-index l.children);
  steady : (t : ℕ) → l.tick ≤ t → t ≤ l.end → list_all (λ child. is_A (wanted_at child.runs t)) (take l.child-index l.children) ≡ true;
}
