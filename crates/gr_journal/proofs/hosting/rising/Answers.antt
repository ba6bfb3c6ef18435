use Rattle.std.proofs.Common.{◌≡◌, ◌++◌, ◌∷◌, [], ◌∙◌, sym, length, arith}
use Rattle.gr_topo.proofs.TreeLists.{starts, takes_it, leaves_it, collected}
use Rattle.gr_journal.specs.Lines.{is_among, rising}
use Rattle.gr_journal.proofs.hosting.rising.Goals as goal
use Rattle.gr_journal.proofs.hosting.rising.Goals.{then-is_among+in_ok-push, else-is_among}

pub brokers-init : goal.brokers-init
brokers-init c = starts (is_among c.args.brokers.now) c.new-found.result (length c.args.topo.now.brokers) c.new-found.ensures

pub brokers-preserved : goal.brokers-preserved
brokers-preserved c =
    elim c.if-is_among.branch [
      | then-is_among+in_ok-push w ↦
          let e : c.if-is_among.found ≡ c.brokers.found ++ c.brokers.b ∷ [] = w.found-is ∙ w.in_ok-push.ensures.ok in
          takes_it (is_among c.args.brokers.now) c.brokers.found c.if-is_among.found (rising c.args.topo.now c.args.brokers.now) c.brokers.b (length c.args.topo.now.brokers) c.brokers.invariant (omega arith)
          (sym c.is_among.ensures ∙ w.if-is_among.true) e
      | else-is_among w ↦
          let e : c.if-is_among.found ≡ c.brokers.found = w.found-is in
          leaves_it (is_among c.args.brokers.now) c.brokers.found c.if-is_among.found (rising c.args.topo.now c.args.brokers.now) c.brokers.b (length c.args.topo.now.brokers) c.brokers.invariant (omega arith)
          (sym c.is_among.ensures ∙ w.if-is_among.false) e
    ]

pub returns : goal.returns
returns c = collected (is_among c.args.brokers.now) c.brokers.found (rising c.args.topo.now c.args.brokers.now) c.brokers.b (length c.args.topo.now.brokers) c.brokers.invariant (omega arith)
