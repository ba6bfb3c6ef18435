use Rattle.std.proofs.Common.{◌+◌, ◌*◌, refl, ap, sym, ◌∙◌}
use Rattle.std.proofs.lemmas.List.{append-nil}
use Rattle.gr_soak.specs.Text.{stirred, after, drawn, deliver_text}
use Rattle.gr_soak.proofs.Pieces.{one_more, drawn_next, after_next}
use Rattle.gr_soak.proofs.text.put_delivers.Goals as goal

pub delivers-init : goal.delivers-init
unfolding after
delivers-init c = record { text = sym (append-nil c.args.text.now); state = refl }

pub delivers-preserved : goal.delivers-preserved
delivers-preserved c =
    let k = c.delivers.counter in
    let i = c.delivers.invariant in
    record {
      text = one_more (λ d. deliver_text (1 + drawn c.args.x.now (d + 1) (6 * c.args.i))) k c.args.text.now c.delivers.text c.put_deliver.new.text (deliver_text (1 + c.draw-frame.result)) i.text c.in_ok-put_deliver.ensures
          (ap (λ y. deliver_text (1 + y)) (drawn_next c.args.x.now k (6 * c.args.i) c.delivers.x c.draw-frame.result i.state c.draw-frame.ensures.value));
      state = c.draw-frame.ensures.state ∙ ap stirred i.state ∙ after_next c.args.x.now k;
    }
