use Rattle.std.proofs.Common.{◌∙◌, sym}
use Rattle.gr_topo.proofs.Routes.{next_in, passes_on, passes_not}
use Rattle.gr_topo.proofs.topology.Topology.passes.Goals as goal

pub up-preserved : goal.up-preserved
up-preserved c =
    let up = sym c.place.ensures.up ∙ c.in-Some.is in
    record {
      within = (next_in c.args.self.now c.args.p c.up.here c.in-Some.up c.place.ensures.topology c.requires.publisher c.up.invariant.within up).0;
      same = passes_on c.args.self.now c.args.p c.args.b c.up.here c.in-Some.up c.place.ensures.topology c.requires.publisher c.up.invariant.within c.if-here-b.false up ∙ c.up.invariant.same;
    }

pub up-smaller : goal.up-smaller
up-smaller c = (next_in c.args.self.now c.args.p c.up.here c.in-Some.up c.place.ensures.topology c.requires.publisher c.up.invariant.within (sym c.place.ensures.up ∙ c.in-Some.is)).1

pub returns-in-None : goal.returns-in-None
returns-in-None c = sym (sym c.up.invariant.same ∙ passes_not c.args.self.now c.args.p c.args.b c.up.here c.if-here-b.false (sym c.place.ensures.up ∙ c.in-None.is))
