use Rattle.std.proofs.Common.{rules, ◌≡◌, ◌++◌, decimal, length, take, drop, slice_set as set, ◌+◌, ◌-◌, ◌<◌, ◌≤◌, ap₂, ap, ◌∙◌, arith}
use Rattle.std.proofs.lemmas.Fmt.{length-decimal-le}
use Rattle.gr_event.proofs.Digits.{put_number}
use Rattle.gr_event.proofs.text.Text.put_number.Goals as goal

pub write_digits-start-requires : goal.write_digits-start-requires
write_digits-start-requires c =
    let short : length (decimal c.args.number) ≤ 20 = search (rules, length-decimal-le 20) in omega arith

pub overflow_sub-start : goal.overflow_sub-start
overflow_sub-start c =
    let short : length (decimal c.args.number) ≤ 20 = search (rules, length-decimal-le 20) in
    let is = c.write_digits-start.ensures.start in
    omega arith

pub returns-clause-ok : goal.returns-clause-ok
returns-clause-ok c =
    let w = c.write_digits-start in
    let digits = decimal c.args.number in
    let short : length digits ≤ 20 = search (rules, length-decimal-le 20) in
    let is = w.ensures.start in
    let back : w.result - 1 + 1 ≡ w.result = omega arith in
    let all : w.result - 1 + 1 + length digits ≡ 24 = omega arith in
    let within : w.result - 1 < length w.new.buf = omega (arith, w.auto.buf) in
    let behind = ap (λ i. drop i w.new.buf) back ∙ w.ensures.written in
    let before = w.result - 1 in
    let copied = take (before + 24 - before) (drop before (set w.new.buf before c.args.before)) in
    c.truncate.ensures.items
    ∙ ap₂ (λ i xs. take (i + (24 - before)) xs) c.len-len.ensures
    (c.in_ok-extend_from_slice.ensures.items ∙ ap (λ xs. xs ++ copied) c.self.view_is)
    ∙ put_number c.args.self.now w.new.buf digits _ before c.args.before all within behind
