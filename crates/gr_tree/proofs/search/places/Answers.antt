use Rattle.std.proofs.Common.{sym, arith}
use Rattle.gr_tree.proofs.Whole.{other_count}
use Rattle.gr_tree.proofs.Steps.{begins, found, ends_in, shallow, goes_on, answered, settled_by, none_clause, tree_clause, places_clause, rooted_clause, paths_clause}
use Rattle.gr_tree.proofs.search.places.Goals as goal

pub returns-then-links-nodes-clause-none : goal.returns-then-links-nodes-clause-none
returns-then-links-nodes-clause-none c = other_count c.args.nodes c.args.links.now (λ e. omega (arith, e))

pub grow-init : goal.grow-init
grow-init c = begins c.args.nodes c.args.links.now c.args.root c.in_ok-row.row.items c.in_ok-left.left.items c.in_ok-row.ensures c.in_ok-left.ensures.items c.requires.root (omega arith)

pub attach-requires-clause-one : goal.attach-requires-clause-one
attach-requires-clause-one c =
    let f = found c.grow.row.items c.deref.result.now c.grow.left.items c.deref-in-grow.result.now c.in-Some.at c.remove-link.result c.deref.ensures.value c.deref-in-grow.ensures.value c.in-Some.ensures c.remove-link.ensures.value in
    let h = ends_in c.args.nodes c.args.links.now c.args.root c.grow.row.items c.grow.left.items c.in-Some.at c.remove-link.result c.requires.links c.grow.invariant f.0 c.remove-link.ensures.value in
    rw c.deref_mut.ensures.value h.0

pub attach-requires-clause-other : goal.attach-requires-clause-other
attach-requires-clause-other c =
    let f = found c.grow.row.items c.deref.result.now c.grow.left.items c.deref-in-grow.result.now c.in-Some.at c.remove-link.result c.deref.ensures.value c.deref-in-grow.ensures.value c.in-Some.ensures c.remove-link.ensures.value in
    let h = ends_in c.args.nodes c.args.links.now c.args.root c.grow.row.items c.grow.left.items c.in-Some.at c.remove-link.result c.requires.links c.grow.invariant f.0 c.remove-link.ensures.value in
    rw c.deref_mut.ensures.value h.1

pub attach-requires-clause-shallow : goal.attach-requires-clause-shallow
attach-requires-clause-shallow c = rw c.deref_mut.ensures.value (shallow c.args.nodes c.args.links.now c.args.root c.grow.row.items c.grow.left.items (omega arith) (omega arith) c.grow.invariant)

pub grow-preserved : goal.grow-preserved
grow-preserved c =
    let f = found c.grow.row.items c.deref.result.now c.grow.left.items c.deref-in-grow.result.now c.in-Some.at c.remove-link.result c.deref.ensures.value c.deref-in-grow.ensures.value c.in-Some.ensures c.remove-link.ensures.value in
    goes_on c.args.nodes c.args.links.now c.args.root c.grow.row.items c.deref_mut.result.now c.attach.new.row c.grow.left.items c.remove-link.new.self.items c.in-Some.at c.grow.row.len c.remove-link.result
    c.requires.links c.grow.invariant f c.remove-link.ensures.value c.deref_mut.ensures.value c.attach.ensures c.grow.row.ok.0 c.remove-link.ensures.items

pub returns-clause-none : goal.returns-clause-none
returns-clause-none c = none_clause c.args.nodes c.args.links.now c.args.root c.all_placed.result
    (settled_by c.args.nodes c.args.links.now c.args.root c.deref-2.result.now
    (answered c.args.nodes c.args.links.now c.args.root c.grow.row.items c.deref.result.now c.deref-2.result.now c.grow.left.items c.deref-in-grow.result.now
    c.requires.links c.grow.invariant c.requires.root (omega arith) c.deref.ensures.value c.deref-in-grow.ensures.value (sym c.in_default.ensures) c.deref-2.ensures.value)
    c.all_placed.result c.all_placed.ensures)

pub returns-clause-tree : goal.returns-clause-tree
returns-clause-tree c = tree_clause c.args.nodes c.args.links.now c.args.root c.all_placed.result
    (settled_by c.args.nodes c.args.links.now c.args.root c.deref-2.result.now
    (answered c.args.nodes c.args.links.now c.args.root c.grow.row.items c.deref.result.now c.deref-2.result.now c.grow.left.items c.deref-in-grow.result.now
    c.requires.links c.grow.invariant c.requires.root (omega arith) c.deref.ensures.value c.deref-in-grow.ensures.value (sym c.in_default.ensures) c.deref-2.ensures.value)
    c.all_placed.result c.all_placed.ensures)

pub returns-clause-places : goal.returns-clause-places
returns-clause-places c = places_clause c.args.nodes c.args.links.now c.args.root c.all_placed.result
    (settled_by c.args.nodes c.args.links.now c.args.root c.deref-2.result.now
    (answered c.args.nodes c.args.links.now c.args.root c.grow.row.items c.deref.result.now c.deref-2.result.now c.grow.left.items c.deref-in-grow.result.now
    c.requires.links c.grow.invariant c.requires.root (omega arith) c.deref.ensures.value c.deref-in-grow.ensures.value (sym c.in_default.ensures) c.deref-2.ensures.value)
    c.all_placed.result c.all_placed.ensures)

pub returns-clause-rooted : goal.returns-clause-rooted
returns-clause-rooted c = rooted_clause c.args.nodes c.args.links.now c.args.root c.all_placed.result
    (settled_by c.args.nodes c.args.links.now c.args.root c.deref-2.result.now
    (answered c.args.nodes c.args.links.now c.args.root c.grow.row.items c.deref.result.now c.deref-2.result.now c.grow.left.items c.deref-in-grow.result.now
    c.requires.links c.grow.invariant c.requires.root (omega arith) c.deref.ensures.value c.deref-in-grow.ensures.value (sym c.in_default.ensures) c.deref-2.ensures.value)
    c.all_placed.result c.all_placed.ensures)

pub returns-clause-paths : goal.returns-clause-paths
returns-clause-paths c = paths_clause c.args.nodes c.args.links.now c.args.root c.all_placed.result
    (settled_by c.args.nodes c.args.links.now c.args.root c.deref-2.result.now
    (answered c.args.nodes c.args.links.now c.args.root c.grow.row.items c.deref.result.now c.deref-2.result.now c.grow.left.items c.deref-in-grow.result.now
    c.requires.links c.grow.invariant c.requires.root (omega arith) c.deref.ensures.value c.deref-in-grow.ensures.value (sym c.in_default.ensures) c.deref-2.ensures.value)
    c.all_placed.result c.all_placed.ensures)
