use Rattle.std.proofs.Common.{◌≡◌, ◌+◌, ◌<◌, length, max, arith, sym, ap, ◌∙◌}
use Rattle.gr_world.specs.Seen.{WorldView}
use Rattle.gr_world.proofs.Moments.{settled_left, greatest_more, moment_is}
use Rattle.gr_world.proofs.world.World.sweep_moment.Goals as goal

pub publishers-preserved : goal.publishers-preserved
publishers-preserved c =
    let w = c.args.self.now in
    let i = c.publishers.p in
    let n = c.publishers.greatest in
    let topo = ap (λ (v : WorldView). length v.topo.publishers) c.self.view_is in
    let j : i < length w.topo.publishers = omega (arith, topo, c.publishers-test.true, c.publishers-p-end.ensures.count) in
    let more = greatest_more w i n c.settled.result j c.settled.ensures.tick in
    let now : c.max-greatest.result ≡ max n c.settled.result = c.max-greatest.ensures in
    record {
      upto = omega (arith, now, c.publishers.invariant.upto, c.settled.ensures.upto);
      left = ap (λ k. max k (settled_left w (i + 1))) now ∙ sym more ∙ c.publishers.invariant.left;
    }

pub returns : goal.returns
returns c =
    let w = c.args.self.now in
    let topo = ap (λ (v : WorldView). length v.topo.publishers) c.self.view_is in
    let set = c.settings-settings.ensures.value ∙ ap (λ (v : WorldView). v.topo.settings) c.self.view_is in
    ap (λ s. c.publishers.greatest + s.gap + s.idle + s.retry + s.quiet + 1) set
    ∙ moment_is w c.publishers.p c.publishers.greatest (omega (arith, topo, c.publishers-test.false, c.publishers-p-end.ensures.count)) c.publishers.invariant.left
