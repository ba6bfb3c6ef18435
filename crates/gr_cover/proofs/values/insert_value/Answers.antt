-- It is put below the first that is above it, unless it stands there
use Rattle.std.proofs.Common.{◌∷◌, [], ◌++◌, ap, sym, ◌∙◌, arith}
use Rattle.std.specs.Prelude.{insert}
use Rattle.gr_cover.specs.Candidates.{value_cmp, inserted}
use Rattle.gr_cover.proofs.Inserting.{less_here, equal_here, end_here}
use Rattle.gr_cover.proofs.values.insert_value.Goals as goal

pub returns-in-Less : goal.returns-in-Less
returns-in-Less c =
    c.in_ok-insert-in-Less.ensures.items ∙ ap (λ z. insert c.loop-i.values.items c.loop-i.i z) c.loop-i.invariant.kept
    ∙ less_here value_cmp c.args.value c.index.result.now c.loop-i.values.items c.loop-i.i (omega arith) c.index.ensures (ap (λ v. value_cmp v c.index.result.now) (sym c.loop-i.invariant.kept) ∙ sym c.order.ensures ∙ c.in-Less.is) c.loop-i.invariant.left
    ∙ ap (λ zs. inserted value_cmp c.args.value zs) c.loop-i.invariant.same

pub returns-in-Equal : goal.returns-in-Equal
returns-in-Equal c =
    equal_here value_cmp c.args.value c.index.result.now c.loop-i.values.items c.loop-i.i (omega arith) c.index.ensures (ap (λ v. value_cmp v c.index.result.now) (sym c.loop-i.invariant.kept) ∙ sym c.order.ensures ∙ c.in-Equal.is) c.loop-i.invariant.left
    ∙ ap (λ zs. inserted value_cmp c.args.value zs) c.loop-i.invariant.same

pub returns : goal.returns
returns c =
    c.in_ok-push.ensures.items ∙ ap (λ z. c.loop-i.values.items ++ z ∷ []) c.loop-i.invariant.kept
    ∙ end_here value_cmp c.args.value c.loop-i.values.items c.loop-i.i (omega arith) c.loop-i.invariant.left
    ∙ ap (λ zs. inserted value_cmp c.args.value zs) c.loop-i.invariant.same
