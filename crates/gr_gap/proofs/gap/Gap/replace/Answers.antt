-- An edit in the first block, or behind it.
use Rattle.std.proofs.Common.{◌≡◌, ◌<◌, ◌++◌, length, set, sym, ap, ◌∙◌, arith}
use Rattle.std.proofs.lemmas.List.{set-append_left, set-append_right}
use Rattle.gr_gap.proofs.gap.Gap.replace.Goals as goal

pub returns-then-i-len-clause-items : goal.returns-then-i-len-clause-items
returns-then-i-len-clause-items g c =
    let s = c.self.inside in let i = c.args.i in let x = c.args.value in
    let within : i < length s.head.items = omega (arith, c.len.ensures, c.if-i-len.true, s.head.ok.0) in
    ap (λ y. set s.head.items i y ++ s.rest.items) c.replace.ensures.after ∙ sym (set-append_left s.head.items s.rest.items i x within)
    ∙ ap (λ v. set v.items i x) c.self.view_is

pub returns-else-i-len-clause-items : goal.returns-else-i-len-clause-items
returns-else-i-len-clause-items g c =
    let s = c.self.inside in let i = c.args.i in let n = c.len-else-i-len.result in
    let long : length s.head.items ≡ n = omega (arith, c.len-else-i-len.ensures, s.head.ok.0) in
    ap (λ l. s.head.items ++ l) c.replace-else-i-len.ensures.items
    ∙ sym (set-append_right s.head.items s.rest.items n i c.args.value long (omega (arith, long, c.len.ensures, c.if-i-len.false, s.head.ok.0)))
    ∙ ap (λ v. set v.items i c.args.value) c.self.view_is
