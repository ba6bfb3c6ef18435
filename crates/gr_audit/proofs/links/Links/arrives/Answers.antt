use Rattle.std.proofs.Common.{None, ap, ◌∙◌}
use Rattle.std.proofs.lemmas.Result.{on_ok_weaker}
use Rattle.gr_audit.specs.Noted.{with_arrival}
use Rattle.gr_audit.proofs.Noting.{arrived}
use Rattle.gr_audit.proofs.links.Links.arrives.Goals as goal

pub returns : goal.returns
returns c =
    on_ok_weaker c.arrives.result
    (λ e. arrived c.self.inside.keys c.self.inside.before.items c.self.inside.now c.arrives.new.self c.args.line e ∙ ap (with_arrival c.args.line None) c.self.view_is)
    c.arrives.ensures.ok
