-- Behind the first block an edit of all values is one of those behind it.
use Rattle.std.proofs.Common.{◌≡◌, ◌++◌, length, remove, sym, ap, ◌∙◌, arith}
use Rattle.std.proofs.lemmas.List.Edits.{remove-append_right}
use Rattle.gr_gap.proofs.gap.Gap.remove.Goals as goal

pub returns-then-len-i-clause-items : goal.returns-then-len-i-clause-items
returns-then-len-i-clause-items g c =
    let s = c.self.inside in let i = c.args.i in let n = c.len-then-len-i.result in
    let long : length s.head.items ≡ n = omega (arith, c.len-then-len-i.ensures, s.head.ok.0) in
    ap (λ l. s.head.items ++ l) c.remove.ensures.items
    ∙ sym (remove-append_right s.head.items s.rest.items n i long (omega (arith, long, c.len.ensures, c.if-len-i.true, s.head.ok.0)))
    ∙ ap (λ v. remove v.items i) c.self.view_is
