use Rattle.std.proofs.Common.{◌≡◌, ◌+◌, ◌*◌, refl, ap, sym, ◌∙◌, arith}
use Rattle.std.proofs.lemmas.List.{append-nil}
use Rattle.gr_soak.specs.Text.{after, turn_text}
use Rattle.gr_soak.proofs.Pieces.{one_more, after_both}
use Rattle.gr_soak.proofs.text.put_turns.Goals as goal

pub turns-init : goal.turns-init
unfolding after
turns-init c = record { text = sym (append-nil c.args.text.now); state = refl }

pub turns-preserved : goal.turns-preserved
turns-preserved c =
    let k = c.turns.k in
    let i = c.turns.invariant in
    record {
      text = one_more (λ j. turn_text c.args.n (j + 1) (after c.args.n (11 * j))) k c.args.text.now c.turns.text c.put_turn.new.text (turn_text c.args.n (k + 1) c.turns.x) i.text c.in_ok-put_turn.ensures.text (ap (turn_text c.args.n (k + 1)) i.state);
      state = c.in_ok-put_turn.ensures.state ∙ ap (λ x. after x 11) i.state ∙ after_both c.args.n (11 * k) 11 ∙ ap (after c.args.n) (let e : 11 * k + 11 ≡ 11 * (k + 1) = omega arith in e);
    }
