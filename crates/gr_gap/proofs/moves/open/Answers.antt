-- The last block is a free one, and an empty block changes no value, wherever it stands.
use Rattle.std.proofs.Common.{subst, ◌≡◌, ◌+◌, ◌≤◌, ◌∷◌, ◌++◌, [], length, sym, ap, ◌∙◌, arith}
use Rattle.std.specs.List.{insert}
use Rattle.std.proofs.lemmas.List.{length_push, nil_from_length}
use Rattle.std.proofs.lemmas.List.Edits.{length-insert}
use Rattle.gr_gap.specs.Blocks.{values_of, held, before, IsRow}
use Rattle.gr_gap.proofs.Rows.{before_front, held_front}
use Rattle.gr_gap.proofs.RowEdits.{last_free, behind_values, opened_row, opened_values, held_opened, held_below}
use Rattle.gr_gap.proofs.moves.open.Goals as goal

pub returns-clause-row : goal.returns-clause-row
returns-clause-row g c =
    let bs = c.args.blocks.now.items in let ss = c.args.starts.now.items in let k = c.args.block in let s = c.args.start in
    let rest = c.pop_back.new.self.items in let e = c.in-Some.free in let new = c.put.new.list.items in
    let cut : bs ≡ rest ++ e ∷ [] = c.in-Some.ensures.items in
    let long : length bs ≡ length rest + 1 = ap length cut ∙ length_push rest e in
    let left = last_free 0 ss rest e (subst (λ l. IsRow 512 0 ss l) cut c.requires.row) (omega (arith, long, c.requires.free)) in
    let le : k ≤ length rest = omega (arith, long, c.requires.free, c.requires.within) in
    let at : s ≡ 0 + before k rest =
    omega (arith, c.requires.start, ap (λ l. before k l) cut, before_front k rest e le) in
    let nil : e.items ≡ [] = nil_from_length e.items left.1 in
    let row : IsRow 512 0 (insert ss k s) (insert rest k e) = opened_row k 0 s ss rest e left.0 c.requires.within at left.1 left.2 in
    record {
      row = subst (λ l. IsRow 512 0 l new) (sym c.put_start.ensures.items)
          (subst (λ l. IsRow 512 0 (insert ss k s) l) (sym c.put.ensures.items) row);
      values = ap values_of c.put.ensures.items ∙ opened_values k rest e nil le ∙ sym (behind_values rest e nil) ∙ ap values_of (sym cut);
      count = ap length c.put.ensures.items ∙ length-insert rest k e le ∙ sym long;
    }

pub returns-clause-empty : goal.returns-clause-empty
returns-clause-empty g c =
    let bs = c.args.blocks.now.items in let ss = c.args.starts.now.items in let k = c.args.block in
    let rest = c.pop_back.new.self.items in let e = c.in-Some.free in
    let cut : bs ≡ rest ++ e ∷ [] = c.in-Some.ensures.items in
    let long : length bs ≡ length rest + 1 = ap length cut ∙ length_push rest e in
    let left = last_free 0 ss rest e (subst (λ l. IsRow 512 0 ss l) cut c.requires.row) (omega (arith, long, c.requires.free)) in
    ap (λ l. held k l) c.put.ensures.items
    ∙ held_opened k rest e (omega (arith, long, c.requires.free, c.requires.within)) ∙ left.1

pub returns-clause-others : goal.returns-clause-others
returns-clause-others g c = λ j lt.
    let bs = c.args.blocks.now.items in let k = c.args.block in
    let rest = c.pop_back.new.self.items in let e = c.in-Some.free in
    let cut : bs ≡ rest ++ e ∷ [] = c.in-Some.ensures.items in
    let long : length bs ≡ length rest + 1 = ap length cut ∙ length_push rest e in
    let le : k ≤ length rest = omega (arith, long, c.requires.free, c.requires.within) in
    ap (λ l. held j l) c.put.ensures.items ∙ held_below j k rest e le lt
    ∙ sym (held_front j rest e (omega (arith, le, lt))) ∙ ap (λ l. held j l) (sym cut)
