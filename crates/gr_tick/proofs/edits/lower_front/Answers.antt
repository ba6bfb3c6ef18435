use Rattle.std.proofs.Common.{◌≡◌, ◌+◌, ◌≤◌, ◌++◌, take, drop, get_or, sym, ap, ◌∙◌, subst, arith}
use Rattle.std.proofs.lemmas.List.{get_or_default}
use Rattle.gr_tick.specs.Stored.{AreTickRuns, part}
use Rattle.gr_tick.proofs.StepLemmas.{read_alone}
use Rattle.gr_tick.proofs.SeekLemmas.{front_lowered, all_lowered, rest_kept}
use Rattle.gr_tick.proofs.edits.lower_front.Goals as goal

pub overflow_add-rest : goal.overflow_add-rest
overflow_add-rest g c =
    let xs = c.args.runs.now.items in
    let r = c.get-run.result.now in
    let end : c.args.last ≤ (get_or xs c.args.i r).last = (c.requires.holds r).1 in
    omega (arith, end, ap (λ r. r.last) c.get-run.ensures, (read_alone g.V.Lattice.least xs c.args.i r (omega arith) c.get-run.ensures c.requires.runs).upto)

pub returns-then-run-last-clause-items : goal.returns-then-run-last-clause-items
returns-then-run-last-clause-items g c = λ d.
    let xs = c.args.runs.now.items in
    let r = c.get-run.result.now in
    let same : r ≡ get_or xs c.args.i d = c.get-run.ensures ∙ sym (get_or_default xs c.args.i d r (omega arith)) in
    all_lowered xs c.remove.new.self.items c.args.i c.args.last r (omega arith) c.if-run-last.true c.remove.ensures.items
    ∙ ap (λ q. take c.args.i xs ++ (part (c.args.last + 1) q.last q.value ++ drop (c.args.i + 1) xs)) same

pub returns-then-run-last-clause-runs : goal.returns-then-run-last-clause-runs
returns-then-run-last-clause-runs g c =
    let xs = c.args.runs.now.items in
    let r = c.get-run.result.now in
    let begin : r.first ≤ c.args.last = omega (arith, (c.requires.holds r).0, ap (λ r. r.first) c.get-run.ensures) in
    let end : c.args.last ≤ r.last = omega (arith, (c.requires.holds r).1, ap (λ r. r.last) c.get-run.ensures) in
    subst (λ zs. AreTickRuns g.V.Lattice.least zs)
    (sym (all_lowered xs c.remove.new.self.items c.args.i c.args.last r (omega arith) c.if-run-last.true c.remove.ensures.items))
    (front_lowered g.V.Lattice.least xs c.args.i c.args.last r (omega arith) c.get-run.ensures c.requires.runs begin end)

pub returns-clause-items : goal.returns-clause-items
returns-clause-items g c = λ d.
    let xs = c.args.runs.now.items in
    let r = c.get-run.result.now in
    let same : r ≡ get_or xs c.args.i d = c.get-run.ensures ∙ sym (get_or_default xs c.args.i d r (omega arith)) in
    let end : c.args.last ≤ r.last = omega (arith, (c.requires.holds r).1, ap (λ r. r.last) c.get-run.ensures) in
    rest_kept xs c.replace.new.self.items c.args.i c.args.last r c.share.result (omega arith) c.share.ensures (omega (arith, end, c.if-run-last.false)) c.replace.ensures.items
    ∙ ap (λ q. take c.args.i xs ++ (part (c.args.last + 1) q.last q.value ++ drop (c.args.i + 1) xs)) same

pub returns-clause-runs : goal.returns-clause-runs
returns-clause-runs g c =
    let xs = c.args.runs.now.items in
    let r = c.get-run.result.now in
    let begin : r.first ≤ c.args.last = omega (arith, (c.requires.holds r).0, ap (λ r. r.first) c.get-run.ensures) in
    let end : c.args.last ≤ r.last = omega (arith, (c.requires.holds r).1, ap (λ r. r.last) c.get-run.ensures) in
    subst (λ zs. AreTickRuns g.V.Lattice.least zs)
    (sym (rest_kept xs c.replace.new.self.items c.args.i c.args.last r c.share.result (omega arith) c.share.ensures (omega (arith, end, c.if-run-last.false)) c.replace.ensures.items))
    (front_lowered g.V.Lattice.least xs c.args.i c.args.last r (omega arith) c.get-run.ensures c.requires.runs begin end)
