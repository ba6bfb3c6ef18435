use Rattle.std.proofs.Common.{Some, length, ap, sym, subst, ◌∙◌}
use Rattle.std.proofs.lemmas.Result.{on_ok_weaker}
use Rattle.gr_audit.specs.Noted.{with_arrival}
use Rattle.gr_audit.proofs.Noting.{AreBelow, known_below, known_arrival_below, arrived_known, by_result}
use Rattle.gr_audit.proofs.links.Links.arrives_offered.Goals as goal

pub invariant_of-self : goal.invariant_of-self
invariant_of-self c = subst (λ z. AreBelow (length z) c.self.inside.before.items c.self.inside.now) (sym c.in_err-key.ensures.err) c.self.invariant

pub invariant_of-self-2 : goal.invariant_of-self-2
invariant_of-self-2 c =
    let keys = c.self.inside.keys in
    let more = c.number.new.self in
    let before = c.self.inside.before.items in
    let now = c.self.inside.now in
    by_result c.arrives.result c.arrives.ensures.ok c.arrives.ensures.err
    (λ e. known_arrival_below keys more before now c.arrives.new.self (c.args.to, c.args.bytes.now) c.args.line c.in_ok-key.key c.self.invariant c.in_ok-key.ensures.keys c.in_ok-key.ensures.number e)
    (λ e. subst (λ z. AreBelow (length more) before z) (sym e) (known_below keys more before now (c.args.to, c.args.bytes.now) c.self.invariant c.in_ok-key.ensures.keys))

pub returns : goal.returns
returns c =
    on_ok_weaker c.arrives.result
    (λ e. arrived_known c.self.inside.keys c.number.new.self c.self.inside.before.items c.self.inside.now c.arrives.new.self (c.args.to, c.args.bytes.now) c.args.line c.in_ok-key.key
    c.self.invariant c.in_ok-key.ensures.keys c.in_ok-key.ensures.number e ∙ ap (with_arrival c.args.line (Some (c.args.to, c.args.bytes.now))) c.self.view_is)
    c.arrives.ensures.ok
