use Rattle.gr_tests_texts.proofs.Heard.{heard_ready}
use Rattle.gr_tests_texts.proofs.orders.Heard.ready.Goals as goal

pub invariant_of-self-2 : goal.invariant_of-self-2
invariant_of-self-2 c =
    heard_ready c.self.inside.merge c.ready.new.self c.self.inside.horizons.items c.self.inside.latest.items c.self.invariant c.in_ok-items.ensures.ok
