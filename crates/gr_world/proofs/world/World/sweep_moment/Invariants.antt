use Rattle.std.proofs.Common.{◌≡◌, ◌^◌, ◌≤◌, max}
use Rattle.gr_world.proofs.Moments.{settled_left, settled_most}
use Rattle.gr_world.proofs.world.World.sweep_moment.Given as goal

-- the greatest so far, and of the publishers that are left, is the greatest of all
abbrev pub invariant-publishers : goal.invariant-publishers
invariant-publishers l = record {
  upto : l.greatest ≤ 2 ^ 62;
  left : max l.greatest (settled_left l.self l.p) ≡ max l.self.most (settled_most l.self);
}
