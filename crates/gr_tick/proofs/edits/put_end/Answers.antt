-- The run stands behind all others, or the last one goes on to its end
use Rattle.std.proofs.Common.{◌-◌, ◌∷◌, [], length, take, get_or, arith, ap, ◌∙◌}
use Rattle.gr_tick.proofs.EditLemmas.{with_before}
use Rattle.gr_tick.proofs.RunsLemmas.{EndBefore-later, EndBefore-append, EndBefore-take}
use Rattle.gr_tick.proofs.LastLemmas.{at_end, set_end, last_values, last_kept, last_longer, longer_values, last_is}
use Rattle.gr_tick.proofs.edits.put_end.Goals as goal

pub overflow_add-before : goal.overflow_add-before
overflow_add-before g c =
    let xs = c.args.runs.now.items in
    omega (arith, (last_is g.V.Lattice.least xs c.get-before.result.now (omega (arith, c.len-end.ensures, c.if-end-eq0.false)) (c.get-before.ensures ∙ ap (λ n. get_or xs (n - 1) c.get-before.result.now) c.len-end.ensures) c.requires.runs).upto)

pub returns-then-before-run-clause-runs : goal.returns-then-before-run-clause-runs
returns-then-before-run-clause-runs g c =
    let xs = c.args.runs.now.items in
    let q = c.get-before.result.now in
    rw (c.insert-then-before-run.ensures.items, at_end xs c.len-end.result c.args.run c.len-end.ensures)
    (last_kept g.V.Lattice.least xs q c.args.run (omega (arith, c.len-end.ensures, c.if-end-eq0.false)) (c.get-before.ensures ∙ ap (λ n. get_or xs (n - 1) q) c.len-end.ensures) c.requires.runs c.requires.past c.requires.alone (λ e. absurd (c.if-before-run.true e)))

pub returns-then-before-run-clause-values : goal.returns-then-before-run-clause-values
returns-then-before-run-clause-values g c = λ t.
    rw (c.insert-then-before-run.ensures.items, at_end c.args.runs.now.items c.len-end.result c.args.run c.len-end.ensures)
    (last_values g.V.Lattice.least c.args.runs.now.items c.args.run c.requires.past t)

pub returns-then-not-same-clause-runs : goal.returns-then-not-same-clause-runs
returns-then-not-same-clause-runs g c =
    let xs = c.args.runs.now.items in
    let q = c.get-before.result.now in
    rw (c.insert-then-not-same.ensures.items, at_end xs c.len-end.result c.args.run c.len-end.ensures)
    (last_kept g.V.Lattice.least xs q c.args.run (omega (arith, c.len-end.ensures, c.if-end-eq0.false)) (c.get-before.ensures ∙ ap (λ n. get_or xs (n - 1) q) c.len-end.ensures) c.requires.runs c.requires.past c.requires.alone (λ _ v. grind arith))

pub returns-then-not-same-clause-values : goal.returns-then-not-same-clause-values
returns-then-not-same-clause-values g c = λ t.
    rw (c.insert-then-not-same.ensures.items, at_end c.args.runs.now.items c.len-end.result c.args.run c.len-end.ensures)
    (last_values g.V.Lattice.least c.args.runs.now.items c.args.run c.requires.past t)

pub returns-clause-runs : goal.returns-clause-runs
returns-clause-runs g c =
    let xs = c.args.runs.now.items in
    let q = c.get-before.result.now in
    rw (c.replace.ensures.items, set_end xs c.len-end.result (with_before q c.args.run) c.len-end.ensures (omega (arith, c.if-end-eq0.false)))
    (last_longer g.V.Lattice.least xs q c.args.run (omega (arith, c.len-end.ensures, c.if-end-eq0.false)) (c.get-before.ensures ∙ ap (λ n. get_or xs (n - 1) q) c.len-end.ensures) c.requires.runs c.requires.alone c.if-before-run.false (grind arith))

pub returns-clause-values : goal.returns-clause-values
returns-clause-values g c = λ t.
    let xs = c.args.runs.now.items in
    let q = c.get-before.result.now in
    rw (c.replace.ensures.items, set_end xs c.len-end.result (with_before q c.args.run) c.len-end.ensures (omega (arith, c.if-end-eq0.false)))
    (longer_values g.V.Lattice.least xs q c.args.run (omega (arith, c.len-end.ensures, c.if-end-eq0.false)) (c.get-before.ensures ∙ ap (λ n. get_or xs (n - 1) q) c.len-end.ensures) c.requires.runs c.requires.alone c.if-before-run.false (grind arith) t
    ∙ last_values g.V.Lattice.least xs c.args.run c.requires.past t)

-- what ends before a tick past the run

pub returns-then-end-eq0-clause-past : goal.returns-then-end-eq0-clause-past
returns-then-end-eq0-clause-past g c = λ t after.
    let ordered = c.requires.alone.ordered in
    rw (c.insert.ensures.items, at_end c.args.runs.now.items c.len-end.result c.args.run c.len-end.ensures)
    (EndBefore-append c.args.runs.now.items (c.args.run ∷ []) t (EndBefore-later c.args.runs.now.items c.args.run.first t c.requires.past (omega (arith, ordered, after))) (after, tt))

pub returns-then-before-run-clause-past : goal.returns-then-before-run-clause-past
returns-then-before-run-clause-past g c = λ t after.
    let ordered = c.requires.alone.ordered in
    rw (c.insert-then-before-run.ensures.items, at_end c.args.runs.now.items c.len-end.result c.args.run c.len-end.ensures)
    (EndBefore-append c.args.runs.now.items (c.args.run ∷ []) t (EndBefore-later c.args.runs.now.items c.args.run.first t c.requires.past (omega (arith, ordered, after))) (after, tt))

pub returns-then-not-same-clause-past : goal.returns-then-not-same-clause-past
returns-then-not-same-clause-past g c = λ t after.
    let ordered = c.requires.alone.ordered in
    rw (c.insert-then-not-same.ensures.items, at_end c.args.runs.now.items c.len-end.result c.args.run c.len-end.ensures)
    (EndBefore-append c.args.runs.now.items (c.args.run ∷ []) t (EndBefore-later c.args.runs.now.items c.args.run.first t c.requires.past (omega (arith, ordered, after))) (after, tt))

pub returns-clause-past : goal.returns-clause-past
returns-clause-past g c = λ t after.
    let xs = c.args.runs.now.items in
    let q = c.get-before.result.now in
    let ordered = c.requires.alone.ordered in
    rw (c.replace.ensures.items, set_end xs c.len-end.result (with_before q c.args.run) c.len-end.ensures (omega (arith, c.if-end-eq0.false)))
    (EndBefore-append (take (length xs - 1) xs) (with_before q c.args.run ∷ []) t (EndBefore-take xs (length xs - 1) t (EndBefore-later xs c.args.run.first t c.requires.past (omega (arith, ordered, after)))) (after, tt))
