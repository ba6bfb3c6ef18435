use Rattle.std.proofs.lemmas.Result.{on_ok_weaker}
use Rattle.gr_event.proofs.Members.{put_whole}
use Rattle.gr_event.proofs.print.put_object.Goals as goal

pub returns-in-Ok-clause-ok : goal.returns-in-Ok-clause-ok
returns-in-Ok-clause-ok c =
    on_ok_weaker c.put_members.result (λ more. λ ps h. put_whole ps _ _ _ c.in-Ok.ensures.ok (more ps h)) c.put_members.ensures.ok
