use Rattle.std.proofs.Common.{◌≡◌, ◌-◌, sym, ap, ◌∙◌, subst, arith}
use Rattle.gr_tick.specs.Kept.{Kept}
use Rattle.gr_tick.specs.Runs.{AreRuns}
use Rattle.gr_know.specs.Values.{Known}
use Rattle.gr_know.specs.Forget.{data_count, lower_data, forgotten, Forgets, NoDataBelow}
use Rattle.gr_know.specs.declared.values.K.{K}
use Rattle.gr_know.specs.declared.values.K.TheVariants.{Q}
use Rattle.gr_know.proofs.Lowering.{below_lowered, none_forgotten, forgotten-is}
use Rattle.gr_know.proofs.knowledge.Know.forget.Goals as goal

pub invariant_of-self : goal.invariant_of-self
invariant_of-self c =
    let runs = c.self.inside.stream.runs in
    let n = c.first_data-self-inside.result in
    let lowered : c.forget_data-left.new.stream.runs ≡ lower_data c.saturating_sub-too_many.result c.args.upto runs = c.forget_data-left.ensures.lowered in (
      omega (arith, c.self.invariant.0, c.forget_data-left.ensures.fewer, c.forget_data-left.ensures.counted),
      subst (λ (kept : Known). NoDataBelow n kept) (sym lowered) (below_lowered n c.saturating_sub-too_many.result c.args.upto runs c.len.ensures.canonical c.first_data-self-inside.ensures.none),
    )

pub returns-then-too_many-eq0-clause-forgotten : goal.returns-then-too_many-eq0-clause-forgotten
returns-then-too_many-eq0-clause-forgotten c =
    let runs : AreRuns Q c.args.self.now.runs = subst (λ (k : Kept K). AreRuns Q k.runs) c.self.view_is c.len.ensures.canonical in
    let many : c.saturating_sub-too_many.result ≡ data_count c.self.inside.stream.runs - c.args.limit = c.saturating_sub-too_many.ensures ∙ ap (λ n. c.self.inside.events - n) c.from.ensures ∙ ap (λ n. n - c.args.limit) c.self.invariant.0 in
    let none : data_count c.args.self.now.runs - c.args.limit ≡ 0 = omega (arith, many, c.if-too_many-eq0.true, ap (λ (k : Kept K). data_count k.runs - c.args.limit) c.self.view_is) in
    none_forgotten c.args.limit c.args.upto c.args.self.now.runs runs none

pub returns-then-too_many-eq0-clause-forgets : goal.returns-then-too_many-eq0-clause-forgets
returns-then-too_many-eq0-clause-forgets c =
    let runs : AreRuns Q c.args.self.now.runs = subst (λ (k : Kept K). AreRuns Q k.runs) c.self.view_is c.len.ensures.canonical in
    let many : c.saturating_sub-too_many.result ≡ data_count c.self.inside.stream.runs - c.args.limit = c.saturating_sub-too_many.ensures ∙ ap (λ n. c.self.inside.events - n) c.from.ensures ∙ ap (λ n. n - c.args.limit) c.self.invariant.0 in
    let none : data_count c.args.self.now.runs - c.args.limit ≡ 0 = omega (arith, many, c.if-too_many-eq0.true, ap (λ (k : Kept K). data_count k.runs - c.args.limit) c.self.view_is) in
    subst (λ (kept : Known). Forgets c.args.limit c.args.upto c.args.self.now.runs kept) (sym (none_forgotten c.args.limit c.args.upto c.args.self.now.runs runs none)) (forgotten-is c.args.limit c.args.upto c.args.self.now.runs runs)

pub returns-clause-forgotten : goal.returns-clause-forgotten
unfolding forgotten
returns-clause-forgotten c =
    c.forget_data-left.ensures.lowered
    ∙ ap (λ n. lower_data n c.args.upto c.self.inside.stream.runs) (c.saturating_sub-too_many.ensures ∙ ap (λ n. c.self.inside.events - n) c.from.ensures ∙ ap (λ n. n - c.args.limit) c.self.invariant.0)
    ∙ ap (λ (k : Kept K). forgotten c.args.limit c.args.upto k.runs) c.self.view_is

pub returns-clause-forgets : goal.returns-clause-forgets
unfolding forgotten
returns-clause-forgets c =
    subst (λ (kept : Known). Forgets c.args.limit c.args.upto c.args.self.now.runs kept)
    (sym (c.forget_data-left.ensures.lowered
    ∙ ap (λ n. lower_data n c.args.upto c.self.inside.stream.runs) (c.saturating_sub-too_many.ensures ∙ ap (λ n. c.self.inside.events - n) c.from.ensures ∙ ap (λ n. n - c.args.limit) c.self.invariant.0)
    ∙ ap (λ (k : Kept K). forgotten c.args.limit c.args.upto k.runs) c.self.view_is))
    (forgotten-is c.args.limit c.args.upto c.args.self.now.runs (subst (λ (k : Kept K). AreRuns Q k.runs) c.self.view_is c.len.ensures.canonical))
