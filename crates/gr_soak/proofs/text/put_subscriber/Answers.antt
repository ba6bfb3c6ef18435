use Rattle.gr_out.proofs.Fronts.{on_success}
use Rattle.gr_soak.specs.Text.{name_text, leaf_text, sym_text, price_text, subscriber_text}
use Rattle.gr_soak.proofs.Pieces.{both}
use Rattle.gr_soak.proofs.text.put_subscriber.Goals as goal

pub returns : goal.returns
unfolding subscriber_text
returns c =
    let i = c.args.i in
    let t6 = c.put_price.new.text in
    on_success c.put_price.result
    (λ e. both c.args.text.now c.append.new.self t6 _ _ c.in_ok-append.ensures.ok
    (both c.append.new.self c.put_name.new.text t6 (name_text i) _ c.in_ok-put_name.ensures
    (both c.put_name.new.text c.put_leaf.new.text t6 (leaf_text i) _ c.in_ok-put_leaf.ensures
    (both c.put_leaf.new.text c.append-2.new.self t6 _ _ c.in_ok-append-2.ensures.ok
    (both c.append-2.new.self c.put_sym.new.text t6 (sym_text i) (price_text i) c.in_ok-put_sym.ensures e)))))
    c.put_price.ensures
