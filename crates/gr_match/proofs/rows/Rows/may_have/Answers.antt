use Rattle.std.proofs.Common.{ap, ◌∙◌, sym, rules}
use Rattle.gr_match.specs.Needed.{pair_of}
use Rattle.gr_match.specs.Index.{row_at, row_of, places_of}
use Rattle.gr_match.proofs.Marking.{unmarked}
use Rattle.gr_match.proofs.rows.Rows.may_have.Goals as goal

pub returns : goal.returns
returns c e =
    let p = pair_of c.args.pair in
    ap (λ rows. places_of (row_at rows) p) (sym c.self.view_is)
    ∙ sym (unmarked c.self.inside.marks p (row_at c.self.inside.rows.items (row_of p)) (c.self.invariant (row_of p)) (search rules))
