use Rattle.std.proofs.Common.{ap, ◌∙◌}
use Rattle.gr_out.specs.Journal.{is_among}
use Rattle.gr_node.proofs.schedule.is_hosted.Goals as goal

pub returns : goal.returns
returns c = c.is_among.ensures ∙ ap (is_among c.args.site.now.hosted.now) c.host.ensures.host
