-- The last block is a free one. The full one stands before all, and 512 values more stand before each of the others.
use Rattle.std.proofs.Common.{subst, ◌≡◌, ◌+◌, ◌≤◌, ◌∷◌, ◌++◌, [], length, refl, sym, ap, ◌∙◌, arith}
use Rattle.std.proofs.lemmas.List.{length_push, nil_from_length}
use Rattle.gr_gap.specs.Blocks.{values_of, IsRow, changed_from}
use Rattle.gr_gap.proofs.Rows.{start_low, fits}
use Rattle.gr_gap.proofs.RowEdits.{last_free, behind_values, raised_row}
use Rattle.gr_gap.proofs.moves.put_first.Goals as goal

pub raise-requires : goal.raise-requires
raise-requires g c = λ k.
    let bs = c.args.blocks.now.items in let ss = c.args.starts.now.items in
    omega (arith, start_low k 0 ss bs c.requires.row, fits 0 ss bs c.requires.row, c.requires.free, c.requires.fits)

pub returns-clause-row : goal.returns-clause-row
returns-clause-row g c =
    let bs = c.args.blocks.now.items in let ss = c.args.starts.now.items in
    let rest = c.pop_back.new.self.items in let e = c.in-Some.free in let f = c.args.head.now in
    let new = c.push_front_reserved.new.self.items in
    let cut : bs ≡ rest ++ e ∷ [] = c.in-Some.ensures.items in
    let long : length bs ≡ length rest + 1 = ap length cut ∙ length_push rest e in
    let left = last_free 0 ss rest e (subst (λ l. IsRow 512 0 ss l) cut c.requires.row) (omega (arith, long, c.requires.free)) in
    let first : new ≡ f ∷ rest = c.push_front_reserved.ensures.items ∙ ap (λ b. b ∷ rest) c.replace.ensures.value in
    let starts : c.put_start.new.starts.items ≡ 0 ∷ changed_from (λ s. s + 512) 0 ss =
    c.put_start.ensures.items ∙ ap (λ l. 0 ∷ l) c.raise.ensures.items in
    let same : 0 + 512 ≡ 0 + length f.items = omega (arith, c.requires.full.0) in
    let behind : IsRow 512 (0 + length f.items) (changed_from (λ s. s + 512) 0 ss) rest =
    subst (λ m. IsRow 512 m (changed_from (λ s. s + 512) 0 ss) rest) same (raised_row 0 512 ss rest left.0) in
    let row : IsRow 512 0 (0 ∷ changed_from (λ s. s + 512) 0 ss) (f ∷ rest) =
    (refl, (omega (arith, c.requires.full.0), (c.requires.full.1, behind))) in
    subst (λ l. IsRow 512 0 l new) (sym starts)
    (subst (λ l. IsRow 512 0 (0 ∷ changed_from (λ s. s + 512) 0 ss) l) (sym first) row)

pub returns-clause-values : goal.returns-clause-values
returns-clause-values g c =
    let bs = c.args.blocks.now.items in let ss = c.args.starts.now.items in
    let rest = c.pop_back.new.self.items in let e = c.in-Some.free in let f = c.args.head.now in
    let cut : bs ≡ rest ++ e ∷ [] = c.in-Some.ensures.items in
    let long : length bs ≡ length rest + 1 = ap length cut ∙ length_push rest e in
    let left = last_free 0 ss rest e (subst (λ l. IsRow 512 0 ss l) cut c.requires.row) (omega (arith, long, c.requires.free)) in
    let nil : e.items ≡ [] = nil_from_length e.items left.1 in
    ap values_of (c.push_front_reserved.ensures.items ∙ ap (λ b. b ∷ rest) c.replace.ensures.value)
    ∙ ap (λ l. f.items ++ l) (sym (behind_values rest e nil) ∙ ap values_of (sym cut))

pub returns-clause-empty : goal.returns-clause-empty
returns-clause-empty g c =
    let bs = c.args.blocks.now.items in let ss = c.args.starts.now.items in
    let rest = c.pop_back.new.self.items in let e = c.in-Some.free in
    let cut : bs ≡ rest ++ e ∷ [] = c.in-Some.ensures.items in
    let long : length bs ≡ length rest + 1 = ap length cut ∙ length_push rest e in
    let left = last_free 0 ss rest e (subst (λ l. IsRow 512 0 ss l) cut c.requires.row) (omega (arith, long, c.requires.free)) in (
      ap (λ b. b.items) c.replace.ensures.after ∙ nil_from_length e.items left.1,
      subst (λ b. 512 ≤ b.cap) (sym c.replace.ensures.after) left.2,
    )
