use Rattle.std.proofs.Common.{◌≡◌, ◌++◌, refl, ap, ◌∙◌, arith}
use Rattle.std.specs.List.{flat_map}
use Rattle.gr_model.specs.Net.{numbers}
use Rattle.gr_soak.specs.Text.{subscriber_text}
use Rattle.gr_soak.proofs.Pieces.{both, one_more}
use Rattle.gr_soak.proofs.text.put_topology.Goals as goal

pub subscribers-preserved : goal.subscribers-preserved
subscribers-preserved c = one_more subscriber_text c.subscribers.i c.append.new.self c.subscribers.text c.put_subscriber.new.text (subscriber_text c.subscribers.i) c.subscribers.invariant c.in_ok-put_subscriber.ensures refl

pub returns : goal.returns
returns c =
    let all : c.subscribers.i ≡ 12 = omega arith in
    both c.args.text.now c.append.new.self c.subscribers.text _ (flat_map subscriber_text (numbers 12)) c.in_ok-append.ensures.ok
    (c.subscribers.invariant ∙ ap (λ n. c.append.new.self ++ flat_map subscriber_text (numbers n)) all)
