-- An empty block changes no value, wherever it stands.
use Rattle.std.proofs.Common.{subst, ◌≡◌, ◌<◌, ◌∷◌, ◌++◌, [], length, get_or, remove, sym, ap, ◌∙◌, arith}
use Rattle.std.proofs.lemmas.List.{length_push, nil_from_length}
use Rattle.std.proofs.lemmas.List.Edits.{length-remove}
use Rattle.gr_gap.specs.Blocks.{values_of, IsRow}
use Rattle.gr_gap.proofs.Rows.{held_at, in_row, block_is}
use Rattle.gr_gap.proofs.RowEdits.{behind_row, behind_values, closed_row, closed_values}
use Rattle.gr_gap.proofs.moves.close.Goals as goal

pub unreachable-requires : goal.unreachable-requires
unreachable-requires g c =
    let q = c.args.blocks.now in
    let near : c.args.block < q.len =
    omega (arith, in_row 0 c.args.starts.now.items q.items c.requires.row, c.requires.within, q.ok.0) in
    cc (c.in_default.ensures.variant.1 near)

pub returns-clause-row : goal.returns-clause-row
returns-clause-row g c =
    let bs = c.args.blocks.now.items in let ss = c.args.starts.now.items in let k = c.args.block in let e = c.in-Some.free in
    let new = c.push_back_reserved.new.self.items in
    let inside : k < length bs = omega (arith, in_row 0 ss bs c.requires.row, c.requires.within) in
    let none : length e.items ≡ 0 = omega (arith, held_at k bs e inside c.in-Some.ensures.value, c.requires.empty) in
    let cap : e.cap ≡ (get_or bs k e).cap = ap (λ q. q.cap) c.in-Some.ensures.value in
    let wide = block_is k 0 ss bs e c.requires.row inside in
    let all : new ≡ remove bs k ++ e ∷ [] = c.push_back_reserved.ensures.items ∙ ap (λ l. l ++ e ∷ []) c.in-Some.ensures.items in
    let row : IsRow 512 0 (remove ss k) (remove bs k ++ e ∷ []) =
    behind_row 0 (remove ss k) (remove bs k) e (closed_row k 0 ss bs c.requires.row c.requires.within c.requires.empty) none
    (omega (arith, wide.1, cap)) in
    let nil : e.items ≡ [] = nil_from_length e.items none in
    record {
      row = subst (λ l. IsRow 512 0 l new) (sym c.remove-2.ensures.items) (subst (λ l. IsRow 512 0 (remove ss k) l) (sym all) row);
      values = ap values_of all ∙ behind_values (remove bs k) e nil
          ∙ closed_values k bs e inside (ap (λ q. q.items) (sym c.in-Some.ensures.value) ∙ nil);
      count = ap length all ∙ length_push (remove bs k) e ∙ length-remove bs k inside;
    }
