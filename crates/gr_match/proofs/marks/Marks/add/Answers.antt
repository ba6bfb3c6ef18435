use Rattle.std.proofs.Common.{nat_eq, refl}
use Rattle.std.specs.Int.{bit_at}
use Rattle.std.proofs.lemmas.Bool.{and_from, and_parts}
use Rattle.gr_match.specs.Marked.{mark_of, value_mark}
use Rattle.gr_match.proofs.Marking.{bit_set, bit_kept}
use Rattle.gr_match.proofs.marks.Marks.add.Goals as goal

pub returns-clause-set : goal.returns-clause-set
returns-clause-set c =
    and_from _ _
    (bit_set c.args.self.now.names _ c.mark_of.result _ refl c.mark_of.ensures.within c.mark_of.ensures.mark)
    (bit_set c.args.self.now.values _ c.value_mark.result _ refl c.value_mark.ensures.within c.value_mark.ensures.mark)

pub returns-clause-kept : goal.returns-clause-kept
returns-clause-kept c p h =
    let both = and_parts (nat_eq (bit_at c.args.self.now.names (mark_of p.0)) 1) (nat_eq (bit_at c.args.self.now.values (value_mark p.1)) 1) h in
    and_from _ _ (bit_kept c.args.self.now.names _ (mark_of p.0) both.0) (bit_kept c.args.self.now.values _ (value_mark p.1) both.1)
