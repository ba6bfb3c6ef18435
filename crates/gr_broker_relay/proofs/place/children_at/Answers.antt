use Rattle.std.proofs.Common.{◌≡◌, ◌<◌, ◌++◌, ◌∷◌, [], length, map, get_or, refl, ap, ◌∙◌}
use Rattle.gr_broker_relay.specs.Branch.{wanting_of}
use Rattle.gr_broker_relay.specs.declared.place.Child.{Child}
use Rattle.gr_broker_relay.proofs.Placing.{child_in, known_below, few_below, numbers_more_of, behind_more, bounds_stay, all_push, keeps_on}
use Rattle.gr_broker_relay.proofs.place.children_at.Goals as goal

pub below-requires-clause-broker : goal.below-requires-clause-broker
below-requires-clause-broker c = child_in c.args.topo.now c.args.p c.args.b c.as_slice-number-items.result.now c.children.number-index (c.as_slice-number-items.ensures ∙ c.in_ok-numbers.ensures) c.children-test.true

pub edge_for-requires-clause-known : goal.edge_for-requires-clause-known
edge_for-requires-clause-known c = known_below c.args.topo.now c.args.p (get_or c.as_slice-number-items.result.now c.children.number-index 0) c.in_ok-behind.behind c.in_ok-behind.ensures

pub edge_for-requires-clause-few : goal.edge_for-requires-clause-few
edge_for-requires-clause-few c = few_below c.args.topo.now c.args.p (get_or c.as_slice-number-items.result.now c.children.number-index 0) c.in_ok-behind.behind c.in_ok-behind.ensures

pub children-preserved : goal.children-preserved
children-preserved c =
    let t = c.args.topo.now in
    let before = c.children.table.edges.items in
    let after = c.edge_for.new.self.edges.items in
    let keeps = c.in_ok-edge.ensures.keeps in
    let numbers = c.as_slice-number-items.result.now in
    let i = c.children.number-index in
    let cs = c.children.children.items in
    let child : Child = record { number = get_or numbers i 0; edge = c.in_ok-edge.edge } in
    let more : c.push.new.self.items ≡ cs ++ child ∷ [] = c.in_ok-push.ensures.items in
    record {
      edges = c.in_ok-edge.ensures.edges;
      keeps = keeps_on c.args.table.now.edges.items before after c.children.invariant.keeps keeps;
      numbers = ap (map (λ (x : Child). x.number)) more ∙ numbers_more_of t c.args.p c.args.b i before after keeps cs child numbers c.children-test.true c.children.invariant.numbers refl;
      behind = ap (map (λ (x : Child). get_or after x.edge [])) more
          ∙ behind_more t c.args.p c.args.b i before after keeps cs child numbers c.children-test.true c.children.invariant.each c.children.invariant.behind
          (c.in_ok-edge.ensures.edge ∙ ap (map (wanting_of t)) c.in_ok-behind.ensures);
      each = rw more (all_push (λ (x : Child). x.edge < length after) cs child (bounds_stay before after keeps cs c.children.invariant.each) c.in_ok-edge.ensures.place);
    }
