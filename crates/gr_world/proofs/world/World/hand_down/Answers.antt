use Rattle.std.proofs.Common.{◌+◌, ◌<◌, length, Ok, Err, sym, ◌∙◌, arith}
use Rattle.gr_model.specs.World.{is_know_to, deliver_frame, hand_down}
use Rattle.gr_world.specs.Seen.{net_in, world_of}
use Rattle.gr_world.proofs.Composed.{ran_none}
use Rattle.gr_world.proofs.Joining.{ran_joined, does_same, delivers_none, delivers_joined, delivered}
use Rattle.gr_world.proofs.Onward.{frame_of, frame_kept, passing, passing_past, passing_takes, leads_all, leads_joined, leads_passed, down_in_turn, known_past}
use Rattle.gr_world.proofs.world.World.hand_down.Goals as goal

pub frames-init : goal.frames-init
frames-init c =
    let a = c.args.self.now in
    record {
      ran = ran_none c.no_lines-lines.result c.requires.fits;
      delivers = delivers_none a c.no_lines-lines.result;
      leads = leads_all (deliver_frame (net_in a)) (passing (is_know_to c.args.p c.args.b) a c.args.first) (known_past c.args.p c.args.b c.args.first (world_of a)) a c.no_lines-lines.result (hand_down (net_in a) c.args.p c.args.first (world_of a) c.args.b)
          c.no_lines-lines.ensures (passing_past (is_know_to c.args.p c.args.b) a c.args.first) (down_in_turn (net_in a) c.args.p c.args.first (world_of a) c.args.b);
    }

pub frames-preserved-then-not-brings_down : goal.frames-preserved-then-not-brings_down
frames-preserved-then-not-brings_down c =
    let a = c.args.self.now in
    let b = c.frames.self in
    let i = c.frames.i in
    let here : i < length a.frames = omega (arith, c.frames-test.true, c.sent-i-end.ensures) in
    let sofar = c.frames.invariant in
    let down = c.brings_down.ensures (frame_of a i) (frame_kept a b i sofar.ran.keeps here) in
    record {
      ran = sofar.ran;
      delivers = sofar.delivers;
      leads = leads_passed (deliver_frame (net_in a)) (is_know_to c.args.p c.args.b) a i b c.frames.lines (hand_down (net_in a) c.args.p c.args.first (world_of a) c.args.b) here (sym down ∙ c.if-not-brings_down.true) sofar.leads;
    }

pub returns-in-Err-clause-ran : goal.returns-in-Err-clause-ran
returns-in-Err-clause-ran c =
    ran_joined c.args.self.now c.frames.self c.deliver_at-told.new.self c.frames.lines c.deliver_at-told.result (Err c.in-Err.fault) c.in-Err.ensures c.frames.invariant.ran c.deliver_at-told.ensures.ran

pub frames-preserved : goal.frames-preserved
frames-preserved c =
    let a = c.args.self.now in
    let b = c.frames.self in
    let new = c.deliver_at-told.new.self in
    let i = c.frames.i in
    let here : i < length a.frames = omega (arith, c.frames-test.true, c.sent-i-end.ensures) in
    let sofar = c.frames.invariant in
    let told = c.deliver_at-told.result in
    let f = frame_of a i in
    let there = frame_kept a b i sofar.ran.keeps here in
    let down = c.brings_down.ensures f there in
    record {
      ran = ran_joined a b new c.frames.lines told (Ok c.in-Ok.all) c.in-Ok.ensures sofar.ran c.deliver_at-told.ensures.ran;
      delivers = delivers_joined a b new c.frames.lines told (Ok c.in-Ok.all) sofar.ran.keeps.topo c.in-Ok.ensures sofar.delivers
          (delivered b new told c.deliver_at-told.ensures.memory c.deliver_at-told.ensures.logs);
      leads = leads_joined (deliver_frame (net_in a)) f (passing (is_know_to c.args.p c.args.b) a (i + 1)) (passing (is_know_to c.args.p c.args.b) a i) b new c.frames.lines c.in-Ok.all told (hand_down (net_in a) c.args.p c.args.first (world_of a) c.args.b)
          (passing_takes (is_know_to c.args.p c.args.b) a i here (sym down ∙ c.if-not-brings_down.false)) c.in-Ok.ensures sofar.leads
          (does_same (λ n. deliver_frame n (world_of b) f) a b new told sofar.ran.keeps.topo (c.deliver_at-told.ensures.does f there));
    }
