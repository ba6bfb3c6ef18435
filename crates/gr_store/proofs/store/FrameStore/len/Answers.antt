-- As many frames as ends
use Rattle.std.proofs.Common.{length, ap, arith}
use Rattle.gr_store.proofs.Storing.{as_many}
use Rattle.gr_store.proofs.store.FrameStore.len.Goals as goal

pub returns : goal.returns
returns c = omega (arith, c.len.ensures, as_many 0 c.self.inside.ends.items c.self.inside.bytes.items, ap length c.self.view_is)
