-- The head, and the joins behind it
use Rattle.std.proofs.Common.{length, refl}
use Rattle.gr_publog.proofs.Putting.{base_put, on_ok}
use Rattle.gr_publog.proofs.fill.put_base.Goals as goal

pub returns : goal.returns
returns c =
    on_ok c.put_base_joins.result
    (λ e. base_put c.args.bytes.now.items c.put_base_head.new.bytes.items c.put_base_joins.new.bytes.items c.args.generation c.args.last c.args.cut (length c.args.joins.now) c.args.joins.now c.in_ok-put_base_head.ensures refl e)
    c.put_base_joins.ensures
