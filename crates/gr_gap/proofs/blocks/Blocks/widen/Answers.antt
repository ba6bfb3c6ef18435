-- An empty block behind all changes no value.
use Rattle.std.proofs.Common.{ap, length, ◌≡◌, ◌∙◌, ◌+◌, ◌++◌, [], ◌∷◌, arith, subst, sym}
use Rattle.std.proofs.lemmas.List.{length_push}
use Rattle.gr_gap.specs.Blocks.{values_of, IsRow}
use Rattle.gr_gap.proofs.Rows.{in_row}
use Rattle.gr_gap.proofs.RowEdits.{behind_row, behind_values}
use Rattle.gr_gap.proofs.blocks.Blocks.widen.Goals as goal

pub overflow_sub-len : goal.overflow_sub-len
overflow_sub-len g c =
    let s = c.self.inside in
    omega (arith, in_row 0 s.starts.items s.blocks.items c.self.invariant.0, c.len-used.ensures, c.len.ensures, s.blocks.ok.0, s.starts.ok.0)

pub invariant_of-self-2 : goal.invariant_of-self-2
invariant_of-self-2 g c =
    let s = c.self.inside in let e = c.in_ok-block.block in let made = c.in_ok-block.ensures in
    let new = c.push_back_reserved.new.self.items in let bs = s.blocks.items in
    let more : new ≡ bs ++ e ∷ [] = c.push_back_reserved.ensures.items ∙ ap (λ l. l ++ e ∷ []) c.reserve-2.ensures.items in
    let seen : length bs ≡ c.args.self.now.blocks = ap (λ v. v.blocks) c.self.view_is in
    let long : length new ≡ length bs + 1 = ap length more ∙ length_push bs e in
    let row = behind_row 0 s.starts.items bs e c.self.invariant.0 (ap length made.items) made.capacity in
    let values : values_of new ≡ values_of bs = ap values_of more ∙ behind_values bs e made.items in
    let many = in_row 0 s.starts.items bs c.self.invariant.0 in (
      subst (λ l. IsRow 512 0 l new) (sym c.reserve.ensures.items) (subst (λ l. IsRow 512 0 s.starts.items l) (sym more) row),
      c.self.invariant.1 ∙ sym (ap length values),
      omega (arith, long, many, c.in_ok-reserve.ensures.ok, c.reserve.ensures.len, c.len.ensures, c.len-used.ensures, s.blocks.ok.0, s.starts.ok.0),
      omega (arith, long, seen, c.requires),
    )

pub returns-clause-items : goal.returns-clause-items
returns-clause-items g c =
    let s = c.self.inside in let e = c.in_ok-block.block in
    ap values_of (c.push_back_reserved.ensures.items ∙ ap (λ l. l ++ e ∷ []) c.reserve-2.ensures.items)
    ∙ behind_values s.blocks.items e c.in_ok-block.ensures.items ∙ ap (λ v. v.items) c.self.view_is
