use Rattle.std.proofs.Common.{◌≡◌, ◌+◌, ◌-◌, ◌++◌, inl, inr, length, take, drop, get_or, arith, ap, sym, ◌∙◌}
use Rattle.std.proofs.lemmas.List.{get_or_default}
use Rattle.gr_tick.specs.Stored.{part}
use Rattle.gr_tick.proofs.StepLemmas.{carved_is, read_alone, carved_before, carved_past, carved_after, carved_ahead, joined_values, joined_growth, join_alone, length-part-le, carved_later, carved_whole, run_past, run_ahead, whole_growth, runs_in-drop}
use Rattle.gr_tick.proofs.EditLemmas.{AreTickRuns-take, AreTickRuns-drop}
use Rattle.gr_tick.proofs.edits.join_run.Goals as goal

-- The part is all of the run

pub put_over-requires-clause-before : goal.put_over-requires-clause-before
put_over-requires-clause-before g c = AreTickRuns-take _ _ c.args.i c.requires.runs

pub put_over-requires-clause-after : goal.put_over-requires-clause-after
put_over-requires-clause-after g c = AreTickRuns-drop _ _ (c.args.i + 1) c.requires.runs

pub put_over-requires-clause-past : goal.put_over-requires-clause-past
put_over-requires-clause-past g c =
    run_past _ _ c.args.i _ c.get-whole.result.now (omega arith) c.get-whole.ensures c.requires.runs c.if-whole-first.true

pub put_over-requires-clause-ahead : goal.put_over-requires-clause-ahead
put_over-requires-clause-ahead g c =
    run_ahead _ _ c.args.i _ c.get-whole.result.now (omega arith) c.get-whole.ensures c.requires.runs c.if-whole-last.true

pub put_over-requires-clause-alone : goal.put_over-requires-clause-alone
put_over-requires-clause-alone g c =
    let r = c.get-whole.result.now in
    join_alone _ g.V.Lattice.join_of g.V.Lattice.is_at_most r _ _ c.args.value.now c.share-then-whole-last.result _ g.met.V.Lattice.laws (read_alone _ _ c.args.i _ (omega arith) c.get-whole.ensures c.requires.runs) (omega (arith, c.if-whole-first.true)) c.requires.ordered (omega (arith, c.if-whole-last.true)) (c.join-joined.ensures ∙ ap (λ w. g.V.Lattice.join_of w c.share-then-whole-last.result) c.share.ensures) c.share-then-whole-last.ensures

pub returns-then-whole-last-clause-values : goal.returns-then-whole-last-clause-values
returns-then-whole-last-clause-values g c =
    let xs = c.args.runs.now.items in
    let r = c.get-whole.result.now in
    let k = carved_whole g.V.Lattice.least xs c.args.i c.args.first c.args.last r (omega arith) c.get-whole.ensures c.requires.runs c.if-whole-first.true c.if-whole-last.true in
    joined_values g.V.Lattice.least xs (take c.args.i xs ++ drop (c.args.i + 1) xs) c.args.i c.args.i c.args.first c.args.last r k g.V.Lattice.join_of c.args.value.now c.join-joined.result c.put_over.new.runs.items
    (c.join-joined.ensures ∙ ap (λ w. g.V.Lattice.join_of w c.share-then-whole-last.result) c.share.ensures ∙ ap (g.V.Lattice.join_of r.value) c.share-then-whole-last.ensures)
    c.put_over.ensures.values

pub returns-then-whole-last-clause-growth : goal.returns-then-whole-last-clause-growth
returns-then-whole-last-clause-growth g c = λ d end le which.
    let r = c.get-whole.result.now in
    let same : get_or c.args.runs.now.items c.args.i d ≡ r = get_or_default c.args.runs.now.items c.args.i d r (omega arith) ∙ sym c.get-whole.ensures in
    whole_growth g.V.Lattice.least c.args.runs.now.items c.put_over.new.runs.items c.args.i c.args.first c.args.last end c.put_over.new.runs.spare c.args.runs.now.spare r (omega arith) c.get-whole.ensures c.requires.runs c.if-whole-first.true c.if-whole-last.true le
    (elim which [ inl e ↦ inl e | inr e ↦ inr (e ∙ ap (λ r. r.last) same) ])
    (omega (arith, c.requires.room r, c.put_over.ensures.spare)) (omega (arith, c.put_over.ensures.spare)) (omega (arith, c.put_over.ensures.room end))

pub returns-then-whole-last-clause-later : goal.returns-then-whole-last-clause-later
returns-then-whole-last-clause-later g c = λ f l lt le.
    omega (arith, c.put_over.ensures.later f l lt le, runs_in-drop f l c.args.runs.now.items (c.args.i + 1))

-- It is a part alone

pub keep_rest-place-requires-clause-alone : goal.keep_rest-place-requires-clause-alone
keep_rest-place-requires-clause-alone g c = read_alone _ _ c.args.i _ (omega arith) c.remove-run.ensures.value c.requires.runs

pub put_run-requires-clause-room : goal.put_run-requires-clause-room
put_run-requires-clause-room g c =
    omega (
      arith,
      c.requires.room c.remove-run.result,
      length-part-le (c.args.last + 1) c.remove-run.result.last c.remove-run.result.value,
      ap (λ r. length (part r.first (c.args.first - 1) r.value)) c.remove-run.ensures.value,
    )

pub put_run-requires-clause-before : goal.put_run-requires-clause-before
put_run-requires-clause-before g c =
    let k = carved_is g.V.Lattice.least c.args.runs.now.items c.remove-run.new.self.items c.keep_rest-place.new.runs.items c.args.i c.keep_rest-place.result c.args.first c.args.last c.remove-run.result (omega arith) c.remove-run.ensures.value c.requires.runs (c.requires.holds _).0 c.requires.ordered (c.requires.holds _).1 c.remove-run.ensures.items c.keep_rest-place.ensures.before c.keep_rest-place.ensures.after in
    carved_before g.V.Lattice.least c.args.runs.now.items c.keep_rest-place.new.runs.items c.args.i c.keep_rest-place.result c.args.first c.args.last c.remove-run.result k

pub put_run-requires-clause-after : goal.put_run-requires-clause-after
put_run-requires-clause-after g c =
    let k = carved_is g.V.Lattice.least c.args.runs.now.items c.remove-run.new.self.items c.keep_rest-place.new.runs.items c.args.i c.keep_rest-place.result c.args.first c.args.last c.remove-run.result (omega arith) c.remove-run.ensures.value c.requires.runs (c.requires.holds _).0 c.requires.ordered (c.requires.holds _).1 c.remove-run.ensures.items c.keep_rest-place.ensures.before c.keep_rest-place.ensures.after in
    carved_after g.V.Lattice.least c.args.runs.now.items c.keep_rest-place.new.runs.items c.args.i c.keep_rest-place.result c.args.first c.args.last c.remove-run.result k

pub put_run-requires-clause-past : goal.put_run-requires-clause-past
put_run-requires-clause-past g c =
    let k = carved_is g.V.Lattice.least c.args.runs.now.items c.remove-run.new.self.items c.keep_rest-place.new.runs.items c.args.i c.keep_rest-place.result c.args.first c.args.last c.remove-run.result (omega arith) c.remove-run.ensures.value c.requires.runs (c.requires.holds _).0 c.requires.ordered (c.requires.holds _).1 c.remove-run.ensures.items c.keep_rest-place.ensures.before c.keep_rest-place.ensures.after in
    carved_past g.V.Lattice.least c.args.runs.now.items c.keep_rest-place.new.runs.items c.args.i c.keep_rest-place.result c.args.first c.args.last c.remove-run.result k

pub put_run-requires-clause-ahead : goal.put_run-requires-clause-ahead
put_run-requires-clause-ahead g c =
    let k = carved_is g.V.Lattice.least c.args.runs.now.items c.remove-run.new.self.items c.keep_rest-place.new.runs.items c.args.i c.keep_rest-place.result c.args.first c.args.last c.remove-run.result (omega arith) c.remove-run.ensures.value c.requires.runs (c.requires.holds _).0 c.requires.ordered (c.requires.holds _).1 c.remove-run.ensures.items c.keep_rest-place.ensures.before c.keep_rest-place.ensures.after in
    carved_ahead g.V.Lattice.least c.args.runs.now.items c.keep_rest-place.new.runs.items c.args.i c.keep_rest-place.result c.args.first c.args.last c.remove-run.result k

pub put_run-requires-clause-alone : goal.put_run-requires-clause-alone
put_run-requires-clause-alone g c =
    let k = carved_is g.V.Lattice.least c.args.runs.now.items c.remove-run.new.self.items c.keep_rest-place.new.runs.items c.args.i c.keep_rest-place.result c.args.first c.args.last c.remove-run.result (omega arith) c.remove-run.ensures.value c.requires.runs (c.requires.holds _).0 c.requires.ordered (c.requires.holds _).1 c.remove-run.ensures.items c.keep_rest-place.ensures.before c.keep_rest-place.ensures.after in
    join_alone _ g.V.Lattice.join_of g.V.Lattice.is_at_most c.remove-run.result _ _ c.args.value.now c.share-2.result _ g.met.V.Lattice.laws (read_alone _ _ c.args.i _ (omega arith) c.remove-run.ensures.value c.requires.runs) k.begins k.ordered k.ends c.join-joined-2.ensures c.share-2.ensures

pub returns-clause-values : goal.returns-clause-values
returns-clause-values g c =
    let k = carved_is g.V.Lattice.least c.args.runs.now.items c.remove-run.new.self.items c.keep_rest-place.new.runs.items c.args.i c.keep_rest-place.result c.args.first c.args.last c.remove-run.result (omega arith) c.remove-run.ensures.value c.requires.runs (c.requires.holds _).0 c.requires.ordered (c.requires.holds _).1 c.remove-run.ensures.items c.keep_rest-place.ensures.before c.keep_rest-place.ensures.after in
    joined_values g.V.Lattice.least c.args.runs.now.items c.keep_rest-place.new.runs.items c.args.i c.keep_rest-place.result c.args.first c.args.last c.remove-run.result k g.V.Lattice.join_of c.args.value.now c.join-joined-2.result c.put_run.new.runs.items (c.join-joined-2.ensures ∙ ap (λ w. g.V.Lattice.join_of c.remove-run.result.value w) c.share-2.ensures) c.put_run.ensures.values

pub returns-clause-growth : goal.returns-clause-growth
returns-clause-growth g c = λ d end le which.
    let k = carved_is g.V.Lattice.least c.args.runs.now.items c.remove-run.new.self.items c.keep_rest-place.new.runs.items c.args.i c.keep_rest-place.result c.args.first c.args.last c.remove-run.result (omega arith) c.remove-run.ensures.value c.requires.runs (c.requires.holds _).0 c.requires.ordered (c.requires.holds _).1 c.remove-run.ensures.items c.keep_rest-place.ensures.before c.keep_rest-place.ensures.after in
    let same : get_or c.args.runs.now.items c.args.i d ≡ c.remove-run.result = get_or_default c.args.runs.now.items c.args.i d c.remove-run.result (omega arith) ∙ sym c.remove-run.ensures.value in
    joined_growth g.V.Lattice.least c.args.runs.now.items c.keep_rest-place.new.runs.items c.args.i c.keep_rest-place.result c.args.first c.args.last c.remove-run.result k c.put_run.new.runs.items end c.put_run.new.runs.spare (c.args.runs.now.spare + c.put_run.new.runs.spare - c.keep_rest-place.new.runs.spare) c.args.runs.now.spare le (elim which [ inl e ↦ inl e | inr e ↦ inr (e ∙ ap (λ r. r.last) same) ]) (omega (arith, c.requires.room c.remove-run.result)) (omega (arith, c.requires.room c.remove-run.result)) (omega (arith, c.requires.room c.remove-run.result, c.put_run.ensures.room end))

pub returns-clause-later : goal.returns-clause-later
returns-clause-later g c = λ f l lt le.
    let k = carved_is g.V.Lattice.least c.args.runs.now.items c.remove-run.new.self.items c.keep_rest-place.new.runs.items c.args.i c.keep_rest-place.result c.args.first c.args.last c.remove-run.result (omega arith) c.remove-run.ensures.value c.requires.runs (c.requires.holds _).0 c.requires.ordered (c.requires.holds _).1 c.remove-run.ensures.items c.keep_rest-place.ensures.before c.keep_rest-place.ensures.after in
    omega (arith, c.put_run.ensures.later f l lt le, carved_later g.V.Lattice.least c.args.runs.now.items c.keep_rest-place.new.runs.items c.args.i c.keep_rest-place.result c.args.first c.args.last c.remove-run.result k f l)
