use Rattle.std.proofs.Common.{ap, ◌∙◌}
use Rattle.gr_out.proofs.Fronts.{on_success}
use Rattle.gr_soak.specs.Text.{stirred, after}
use Rattle.gr_soak.proofs.Pieces.{turn_whole}
use Rattle.gr_soak.proofs.text.put_turn.Goals as goal

pub returns-clause-text : goal.returns-clause-text
returns-clause-text c =
    on_success c.append-3.result
    (turn_whole c.args.n c.args.i c.args.x.now c.args.text.now c.put_clock.new.text c.put_publish.new.text c.put_delivers.new.text c.append.new.self c.append-2.new.self c.append-3.new.self
    c.wakes.result.now c.first_crash.result.now c.second_crash.result.now
    c.draw-price.new.x c.draw-qty.new.x c.draw-w.new.x c.draw-price.result c.draw-qty.result c.draw-w.result
    c.in_ok-put_clock.ensures c.draw-price.ensures.state c.draw-price.ensures.value c.draw-qty.ensures.state c.draw-qty.ensures.value c.draw-w.ensures.state c.draw-w.ensures.value
    c.in_ok-put_publish.ensures c.in_ok-put_delivers.ensures.text
    c.wakes.ensures c.in_ok-append.ensures.ok c.first_crash.ensures c.in_ok-append-2.ensures.ok c.second_crash.ensures)
    c.append-3.ensures.ok

pub returns-clause-state : goal.returns-clause-state
unfolding after
returns-clause-state c =
    on_success c.append-3.result
    (λ _. c.in_ok-put_delivers.ensures.state ∙ ap (λ x. after x 8) (c.draw-w.ensures.state ∙ ap stirred (c.draw-qty.ensures.state ∙ ap stirred c.draw-price.ensures.state)))
    c.append-3.ensures.ok
