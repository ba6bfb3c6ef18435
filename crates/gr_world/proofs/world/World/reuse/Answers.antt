use Rattle.gr_world.specs.contracts.world.World.{the_view}
use Rattle.gr_world.proofs.Called.{put_back}
use Rattle.gr_world.proofs.world.World.reuse.Goals as goal

pub returns : goal.returns
returns c =
    put_back (the_view c.self.inside) c.args.self.now _ c.index_mut.result.now c.reuse.new.self c.spare-frames.new.self c.self.view_is c.index_mut.ensures.value c.reuse.ensures c.spare-frames.ensures
