use Rattle.std.proofs.Common.{◌≡◌, ◌∙◌, ap, length, Some}
use Rattle.gr_world.specs.Seen.{log_at}
use Rattle.gr_world.proofs.Shown.{log_line, log_hosted}
use Rattle.gr_world.proofs.world.World.log_line.Goals as goal

pub returns : goal.returns
returns c =
    let w = c.args.self.now in
    let l = c.log-log.result.now in
    let found : log_at w c.args.p ≡ Some l =
    log_hosted _ w c.index.result.now c.args.p c.host-host.result (Some l) c.self.view_is c.requires.fits c.host-host.ensures.host c.host-host.ensures.broker c.index.ensures c.log-log.ensures in
    log_line w c.args.p c.last.result c.settled.result c.cut.result c.len.result l c.requires.publisher found c.is_broken.ensures.state
    c.last.ensures c.settled.ensures c.cut.ensures (c.len.ensures ∙ ap length c.events.ensures)
