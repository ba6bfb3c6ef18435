use Rattle.std.proofs.Common.{length, ap, sym, subst, ◌∙◌}
use Rattle.std.proofs.lemmas.Result.{on_ok_weaker}
use Rattle.gr_audit.specs.Noted.{with_offer}
use Rattle.gr_audit.proofs.Noting.{AreBelow, known_below, known_offer_below, offered_known, by_result}
use Rattle.gr_audit.proofs.links.Links.offers.Goals as goal

pub invariant_of-self : goal.invariant_of-self
invariant_of-self c = subst (λ z. AreBelow (length z) c.self.inside.before.items c.self.inside.now) (sym c.in_err-key.ensures.err) c.self.invariant

pub invariant_of-self-2 : goal.invariant_of-self-2
invariant_of-self-2 c =
    let keys = c.self.inside.keys in
    let more = c.number.new.self in
    let before = c.self.inside.before.items in
    let now = c.self.inside.now in
    by_result c.offers.result c.offers.ensures.ok c.offers.ensures.err
    (λ e. known_offer_below keys more before now c.offers.new.self (c.args.to, c.args.bytes.now) c.in_ok-key.key c.self.invariant c.in_ok-key.ensures.keys c.in_ok-key.ensures.number e)
    (λ e. subst (λ z. AreBelow (length more) before z) (sym e) (known_below keys more before now (c.args.to, c.args.bytes.now) c.self.invariant c.in_ok-key.ensures.keys))

pub returns : goal.returns
returns c =
    on_ok_weaker c.offers.result
    (λ e. offered_known c.self.inside.keys c.number.new.self c.self.inside.before.items c.self.inside.now c.offers.new.self (c.args.to, c.args.bytes.now) c.in_ok-key.key
    c.self.invariant c.in_ok-key.ensures.keys c.in_ok-key.ensures.number e ∙ ap (with_offer (c.args.to, c.args.bytes.now)) c.self.view_is)
    c.offers.ensures.ok
