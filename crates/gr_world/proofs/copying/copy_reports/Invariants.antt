use Rattle.std.proofs.Common.{◌≡◌, take}
use Rattle.gr_world.proofs.copying.copy_reports.Given as goal

-- the lines so far
abbrev pub invariant-loop-line : goal.invariant-loop-line
invariant-loop-line l = l.copy ≡ take l.line-index l.lines
