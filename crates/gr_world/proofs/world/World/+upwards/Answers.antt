use Rattle.std.proofs.Common.{◌-◌, ◌+◌, ◌<◌, length, Ok, Err, sym, ◌∙◌, arith}
use Rattle.gr_model.specs.World.{is_want, deliver_up}
use Rattle.gr_world.specs.Seen.{net_in, world_of}
use Rattle.gr_world.specs.Sweeps.{wants_past, with_wants}
use Rattle.gr_world.proofs.Composed.{ran_none}
use Rattle.gr_world.proofs.Joining.{ran_joined, does_same, delivers_none, delivers_joined}
use Rattle.gr_world.proofs.Onward.{frame_of, frame_kept, passing, passing_past, passing_takes, leads_all, leads_joined, leads_passed, does_nothing, up_in_turn, up_without}
use Rattle.gr_world.proofs.world.World.+upwards.Goals as goal

pub deliver_up-returns-then-fuel-eq0-clause-does :
    goal.deliver_up-returns-then-fuel-eq0-clause-does
deliver_up-returns-then-fuel-eq0-clause-does t c =
    let a = c.args.self.now in
    let fs = wants_past c.args.first (world_of a) in
    does_nothing (deliver_up (net_in a) c.args.fuel fs (world_of a)) a c.no_lines-lines.result (up_without (net_in a) c.args.fuel fs (world_of a) c.if-fuel-eq0.true) c.no_lines-lines.ensures

pub deliver_up-frames-init : goal.deliver_up-frames-init
deliver_up-frames-init t c =
    let a = c.args.self.now in
    let fs = wants_past c.args.first (world_of a) in
    record {
      some = omega (arith, c.if-fuel-eq0.false);
      ran = ran_none c.no_lines-lines.result c.requires.fits;
      delivers = delivers_none a c.no_lines-lines.result;
      leads = leads_all (with_wants (net_in a) (c.args.fuel - 1)) (passing is_want a c.args.first) fs a c.no_lines-lines.result (deliver_up (net_in a) c.args.fuel fs (world_of a))
          c.no_lines-lines.ensures (passing_past is_want a c.args.first) (up_in_turn (net_in a) c.args.fuel fs (world_of a) c.if-fuel-eq0.false);
    }

pub deliver_up-frames-preserved-then-not-goes_up : goal.deliver_up-frames-preserved-then-not-goes_up
deliver_up-frames-preserved-then-not-goes_up t c =
    let a = c.args.self.now in
    let b = c.frames.self in
    let i = c.frames.i in
    let here : i < length a.frames = omega (arith, c.frames-test.true, c.sent-i-end.ensures) in
    let sofar = c.frames.invariant in
    let up = c.goes_up.ensures (frame_of a i) (frame_kept a b i sofar.ran.keeps here) in
    record {
      some = sofar.some;
      ran = sofar.ran;
      delivers = sofar.delivers;
      leads = leads_passed (with_wants (net_in a) (c.args.fuel - 1)) is_want a i b c.frames.lines (deliver_up (net_in a) c.args.fuel (wants_past c.args.first (world_of a)) (world_of a)) here (sym up ∙ c.if-not-goes_up.true) sofar.leads;
    }

pub deliver_up-returns-in-Err-clause-ran : goal.deliver_up-returns-in-Err-clause-ran
deliver_up-returns-in-Err-clause-ran t c =
    ran_joined c.args.self.now c.frames.self c.deliver_with-told.new.self c.frames.lines c.deliver_with-told.result (Err c.in-Err.fault) c.in-Err.ensures c.frames.invariant.ran c.deliver_with-told.ensures.ran

pub deliver_up-frames-preserved : goal.deliver_up-frames-preserved
deliver_up-frames-preserved t c =
    let a = c.args.self.now in
    let b = c.frames.self in
    let new = c.deliver_with-told.new.self in
    let i = c.frames.i in
    let here : i < length a.frames = omega (arith, c.frames-test.true, c.sent-i-end.ensures) in
    let sofar = c.frames.invariant in
    let told = c.deliver_with-told.result in
    let f = frame_of a i in
    let there = frame_kept a b i sofar.ran.keeps here in
    let up = c.goes_up.ensures f there in
    record {
      some = sofar.some;
      ran = ran_joined a b new c.frames.lines told (Ok c.in-Ok.all) c.in-Ok.ensures sofar.ran c.deliver_with-told.ensures.ran;
      delivers = delivers_joined a b new c.frames.lines told (Ok c.in-Ok.all) sofar.ran.keeps.topo c.in-Ok.ensures sofar.delivers c.deliver_with-told.ensures.delivers;
      leads = leads_joined (with_wants (net_in a) (c.args.fuel - 1)) f (passing is_want a (i + 1)) (passing is_want a i) b new c.frames.lines c.in-Ok.all told (deliver_up (net_in a) c.args.fuel (wants_past c.args.first (world_of a)) (world_of a))
          (passing_takes is_want a i here (sym up ∙ c.if-not-goes_up.false)) c.in-Ok.ensures sofar.leads
          (does_same (λ n. with_wants n (c.args.fuel - 1) (world_of b) f) a b new told sofar.ran.keeps.topo (c.deliver_with-told.ensures.does f there));
    }

pub deliver_with-returns-clause-ran : goal.deliver_with-returns-clause-ran
deliver_with-returns-clause-ran t c =
    ran_joined c.args.self.now c.deliver_at.new.self c.deliver_up-told.new.self c.in-Ok.lines c.deliver_up-told.result c.joined.result c.joined.ensures c.in-Ok.ensures.ran c.deliver_up-told.ensures.ran
