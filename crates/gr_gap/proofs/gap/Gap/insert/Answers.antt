-- Behind the first block an edit of all values is one of those behind it.
use Rattle.std.proofs.Common.{◌≡◌, ◌≤◌, ◌++◌, length, insert, sym, ap, ◌∙◌, arith}
use Rattle.std.proofs.lemmas.List.Edits.{insert-append_right}
use Rattle.gr_gap.proofs.gap.Gap.insert.Goals as goal
use Rattle.gr_gap.proofs.gap.Gap.insert.Goals.{then-len-i-via-then-len-i, then-len-i-via-else-len-i+then-i-eq-BLOCK}

pub returns-then-len-i-clause-items : goal.returns-then-len-i-clause-items
returns-then-len-i-clause-items g c =
    let s = c.self.inside in let i = c.args.i in let n = c.len-then-len-i.result in
    let long : length s.head.items ≡ n = omega (arith, c.len-then-len-i.ensures, s.head.ok.0) in
    let behind : n ≤ i = elim c.then-len-i.branch [
      | then-len-i-via-then-len-i w ↦ omega (arith, long, c.len.ensures, s.head.ok.0)
      | then-len-i-via-else-len-i+then-i-eq-BLOCK w ↦ omega (arith, long, c.self.invariant.0)
    ] in
    ap (λ l. s.head.items ++ l) c.insert.ensures.items
    ∙ sym (insert-append_right s.head.items s.rest.items n i c.args.value long behind)
    ∙ ap (λ v. insert v.items i c.args.value) c.self.view_is

pub returns-clause-items : goal.returns-clause-items
returns-clause-items g c =
    let head = c.relieve.new.head in let rest = c.relieve.new.self in let i = c.args.i in let n = c.len-4.result in
    let long : length head.items ≡ n = omega (arith, c.len-4.ensures, head.ok.0) in
    ap (λ l. head.items ++ l) c.insert-2.ensures.items
    ∙ sym (insert-append_right head.items rest.items n i c.args.value long (omega (arith, long, c.len-3.ensures, c.if-i-len.false, head.ok.0)))
    ∙ ap (λ l. insert l i c.args.value) (c.relieve.ensures.items ∙ ap (λ v. v.items) c.self.view_is)
