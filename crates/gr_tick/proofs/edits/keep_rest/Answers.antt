use Rattle.std.proofs.Common.{arith}
use Rattle.gr_tick.proofs.EditLemmas.{drop-put_two}
use Rattle.gr_tick.proofs.edits.keep_rest.Goals as goal

pub returns-clause-after : goal.returns-clause-after
returns-clause-after g c =
    drop-put_two c.args.runs.now.items _ _ c.insert_part-place.new.runs.items _ c.args.i c.insert_part-place.result (omega arith) c.insert_part-place.ensures.place c.insert_part-place.ensures.items c.insert_part.ensures.items (omega (arith, c.insert_part-place.ensures.within))
