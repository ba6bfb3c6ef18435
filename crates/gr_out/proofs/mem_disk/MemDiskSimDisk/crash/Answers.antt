-- The picked image is one of those that the lane may leave
use Rattle.std.proofs.Common.{ap, arith}
use Rattle.gr_out.specs.Kept.{DiskView}
use Rattle.gr_out.proofs.Images.{crash_at}
use Rattle.gr_out.proofs.mem_disk.MemDiskSimDisk.crash.Goals as goal

pub returns-then-place-len-clause-image : goal.returns-then-place-len-clause-image
returns-then-place-len-clause-image c =
    crash_at c.args.self.now.lanes c.self.inside.lanes.items c.args.lane c.from-place.result c.index_mut.result.now c.crash.new.self (ap (λ (d : DiskView). d.lanes) c.self.view_is) c.from-place.ensures (omega (arith, c.if-place-len.true, c.len.ensures)) c.index_mut.ensures.value c.crash.ensures
