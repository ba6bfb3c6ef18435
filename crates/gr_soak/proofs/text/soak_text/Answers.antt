use Rattle.std.proofs.Common.{◌++◌, [], ap, ◌∙◌}
use Rattle.gr_soak.specs.Text.{topology_text, turns_text, soak_text}
use Rattle.gr_soak.proofs.Pieces.{both}
use Rattle.gr_soak.proofs.text.soak_text.Goals as goal

pub returns : goal.returns
unfolding soak_text
returns c =
    let t1 = c.put_topology.new.text in
    let t2 = c.append.new.self in
    let t3 = c.put_turns.new.text in
    let t4 = c.append-2.new.self in
    record {
      text = both [] t1 t4 topology_text _ (c.in_ok-put_topology.ensures ∙ ap (λ t. t ++ topology_text) c.new-text.ensures)
          (both t1 t2 t4 _ _ c.in_ok-append.ensures.ok
          (both t2 t3 t4 (turns_text c.args.n) _ c.in_ok-put_turns.ensures c.in_ok-append-2.ensures.ok));
    }
