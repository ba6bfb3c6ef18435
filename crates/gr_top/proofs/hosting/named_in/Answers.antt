use Rattle.std.proofs.Common.{◌≡◌, ◌++◌, ◌∷◌, [], ◌∙◌, sym, length, arith}
use Rattle.gr_topo.proofs.TreeLists.{takes_it, leaves_it}
use Rattle.gr_top.specs.Words.{texts_of}
use Rattle.gr_top.specs.Hosting.{is_named, named_brokers}
use Rattle.gr_top.proofs.hosting.named_in.Goals as goal
use Rattle.gr_top.proofs.hosting.named_in.Goals.{then-is_named+in_ok-push, else-is_named}

pub brokers-preserved : goal.brokers-preserved
brokers-preserved c =
    let words = texts_of c.args.words.now in
    let test = is_named c.args.topo.now words in
    let all = named_brokers c.args.topo.now words in
    elim c.if-is_named.branch [
      | then-is_named+in_ok-push w ↦
          let e : c.if-is_named.brokers ≡ c.brokers.brokers ++ c.brokers.b ∷ [] = w.brokers-is ∙ w.in_ok-push.ensures.ok in
          takes_it test c.brokers.brokers c.if-is_named.brokers all c.brokers.b (length c.args.topo.now.brokers) c.brokers.invariant (omega arith) (sym c.is_named.ensures ∙ w.if-is_named.true) e
      | else-is_named w ↦
          let e : c.if-is_named.brokers ≡ c.brokers.brokers = w.brokers-is in
          leaves_it test c.brokers.brokers c.if-is_named.brokers all c.brokers.b (length c.args.topo.now.brokers) c.brokers.invariant (omega arith) (sym c.is_named.ensures ∙ w.if-is_named.false) e
    ]
