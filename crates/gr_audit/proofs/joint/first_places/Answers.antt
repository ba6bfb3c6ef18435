use Rattle.std.proofs.Common.{◌+◌, length, ap, ◌∙◌}
use Rattle.std.proofs.lemmas.List.{length_push}
use Rattle.gr_audit.proofs.Turns.{first_more}
use Rattle.gr_audit.proofs.joint.first_places.Goals as goal

pub journals-preserved : goal.journals-preserved
journals-preserved c =
    let ps = c.journals.places.items in
    let p = c.next_arrival.result in
    record {
      count = ap length c.in_ok-push.ensures.items ∙ (length_push ps p ∙ ap (λ n. n + 1) c.journals.invariant.count);
      rests = first_more c.args.journals.now ps c.push.new.self.items c.journals.journal-index p c.journal-item.result c.as_slice.result.now
          c.journals.invariant.rests c.journals.invariant.count c.journals-test.true c.journal-item.is c.as_slice.ensures c.next_arrival.ensures.rest c.in_ok-push.ensures.items;
    }
