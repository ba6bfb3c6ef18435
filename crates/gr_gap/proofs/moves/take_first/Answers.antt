-- Without the first block, so many values less stand before each of the others.
use Rattle.std.proofs.Common.{subst, ◌≡◌, ◌-◌, ◌<◌, ◌≤◌, ◌++◌, [], length, get_or, remove, sym, ap, ◌∙◌, arith}
use Rattle.gr_gap.specs.Blocks.{values_of, IsRow, changed_from}
use Rattle.gr_gap.proofs.Rows.{some_start, start_is, without_first}
use Rattle.gr_gap.proofs.RowEdits.{behind_row, behind_values, lowered_row}
use Rattle.gr_gap.proofs.moves.take_first.Goals as goal

pub remove-requires : goal.remove-requires
remove-requires g c =
    let starts = c.args.starts.now in
    omega (arith, some_start starts.items c.args.blocks.now.items c.requires.row c.requires.some, starts.ok.0)

pub lower-requires : goal.lower-requires
lower-requires g c = λ k le lt.
    let bs = c.args.blocks.now.items in let ss = c.args.starts.now.items in
    let rest = c.pop_front.new.self.items in let a = c.in-Some.first in
    let some = some_start ss bs c.requires.row c.requires.some in
    let left = without_first ss a rest (subst (λ l. IsRow 512 0 ss l) c.in-Some.ensures.items c.requires.row) some in
    let same : c.remove.new.self.items ≡ remove ss 0 = c.remove.ensures.items in
    let short : k < length (remove ss 0) = omega (arith, lt, ap length same) in
    let at = start_is k (length a.items) (remove ss 0) rest left.0 short in
    let seen : get_or c.remove.new.self.items k 0 ≡ get_or (remove ss 0) k 0 = ap (λ l. get_or l k 0) same in
    omega (arith, at, seen, c.len-count.ensures, a.ok.0)

pub returns-clause-row : goal.returns-clause-row
returns-clause-row g c =
    let bs = c.args.blocks.now.items in let ss = c.args.starts.now.items in
    let rest = c.pop_front.new.self.items in let a = c.in-Some.first in let e = c.replace.result in
    let n = c.len-count.result in let new = c.push_back_reserved.new.self.items in
    let some = some_start ss bs c.requires.row c.requires.some in
    let left = without_first ss a rest (subst (λ l. IsRow 512 0 ss l) c.in-Some.ensures.items c.requires.row) some in
    let low : IsRow 512 0 (changed_from (λ s. s - n) 0 (remove ss 0)) rest =
    lowered_row 0 (length a.items) n (remove ss 0) rest (omega (arith, c.len-count.ensures, a.ok.0)) left.0 in
    let nil : e.items ≡ [] = ap (λ q. q.items) c.replace.ensures.value ∙ c.requires.empty.0 in
    let wide : 512 ≤ e.cap = omega (arith, ap (λ q. q.cap) c.replace.ensures.value, c.requires.empty.1) in
    let row = behind_row 0 (changed_from (λ s. s - n) 0 (remove ss 0)) rest e low (ap length nil) wide in
    let starts : c.lower.new.starts.items ≡ changed_from (λ s. s - n) 0 (remove ss 0) =
    c.lower.ensures.items ∙ ap (λ l. changed_from (λ s. s - n) 0 l) c.remove.ensures.items in
    subst (λ l. IsRow 512 0 l new) (sym starts)
    (subst (λ l. IsRow 512 0 (changed_from (λ s. s - n) 0 (remove ss 0)) l) (sym c.push_back_reserved.ensures.items) row)

pub returns-clause-values : goal.returns-clause-values
returns-clause-values g c =
    let rest = c.pop_front.new.self.items in let a = c.in-Some.first in let e = c.replace.result in
    let nil : e.items ≡ [] = ap (λ q. q.items) c.replace.ensures.value ∙ c.requires.empty.0 in
    ap (λ q. q.items ++ values_of c.push_back_reserved.new.self.items) c.replace.ensures.after
    ∙ ap (λ l. a.items ++ l) (ap values_of c.push_back_reserved.ensures.items ∙ behind_values rest e nil)
    ∙ ap values_of (sym c.in-Some.ensures.items)
