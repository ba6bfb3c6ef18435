use Rattle.std.proofs.Common.{◌≡◌, ℕ, ◌^◌, ◌≤◌, false, take}
use Rattle.std.specs.List.{list_any}
use Rattle.gr_tick.specs.Stored.{within}
use Rattle.gr_curio.specs.Values.{wanted_at, is_C}
use Rattle.gr_curio.proofs.children.last_of_all.Given as goal

-- none of the children so far asks past the last tick
abbrev pub invariant-loop-child : goal.invariant-loop-child
invariant-loop-child l = record {
  inside : l.last ≤ 2 ^ 62;
  outside : (t : ℕ) → within 1 l.last t ≡ false → list_any (λ child. is_C (wanted_at child.runs t)) (take l.child-index l.children) ≡ false;
}
