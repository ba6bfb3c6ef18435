-- What stands in blocks fits.
use Rattle.std.proofs.Common.{ap, length, ◌≡◌, arith}
use Rattle.gr_gap.specs.Blocks.{values_of}
use Rattle.gr_gap.proofs.Rows.{in_row, fits}
use Rattle.gr_gap.proofs.blocks.Blocks.room.Goals as goal

pub returns-clause-within : goal.returns-clause-within
returns-clause-within g c =
    let s = c.self.inside in
    let seen : length (values_of s.blocks.items) ≡ length c.args.self.now.items = ap (λ v. length v.items) c.self.view_is in
    omega (arith, seen, fits 0 s.starts.items s.blocks.items c.self.invariant.0, in_row 0 s.starts.items s.blocks.items c.self.invariant.0, s.blocks.ok.0, c.len.ensures)
