-- It is put below the first that is above it, unless it stands there
use Rattle.std.proofs.Common.{◌∷◌, [], ◌++◌, ap, ap₂, sym, ◌∙◌, arith}
use Rattle.std.specs.Prelude.{insert}
use Rattle.std.specs.Ordering.{nat_cmp}
use Rattle.std.specs.Cmp.Lexicographic.{slice_cmp}
use Rattle.gr_cover.specs.Candidates.{inserted}
use Rattle.gr_cover.proofs.Inserting.{less_here, equal_here, end_here}
use Rattle.gr_cover.proofs.attribute.insert_name.Goals as goal

pub returns-in-Less : goal.returns-in-Less
returns-in-Less c =
    c.in_ok-insert-in-Less.ensures.items ∙ ap (λ z. insert c.loop-i.names.items c.loop-i.i z) c.loop-i.invariant.kept
    ∙ less_here (slice_cmp nat_cmp) c.args.name.now c.index.result.now c.loop-i.names.items c.loop-i.i (omega arith) c.index.ensures (ap₂ (slice_cmp nat_cmp) (sym (c.as_slice-in-loop-i.ensures ∙ c.loop-i.invariant.kept)) (sym c.as_slice-in-loop-i-2.ensures) ∙ sym c.cmp.ensures ∙ c.in-Less.is) c.loop-i.invariant.left
    ∙ ap (λ zs. inserted (slice_cmp nat_cmp) c.args.name.now zs) c.loop-i.invariant.same

pub returns-in-Equal : goal.returns-in-Equal
returns-in-Equal c =
    equal_here (slice_cmp nat_cmp) c.args.name.now c.index.result.now c.loop-i.names.items c.loop-i.i (omega arith) c.index.ensures (ap₂ (slice_cmp nat_cmp) (sym (c.as_slice-in-loop-i.ensures ∙ c.loop-i.invariant.kept)) (sym c.as_slice-in-loop-i-2.ensures) ∙ sym c.cmp.ensures ∙ c.in-Equal.is) c.loop-i.invariant.left
    ∙ ap (λ zs. inserted (slice_cmp nat_cmp) c.args.name.now zs) c.loop-i.invariant.same

pub returns : goal.returns
returns c =
    c.in_ok-push.ensures.items ∙ ap (λ z. c.loop-i.names.items ++ z ∷ []) c.loop-i.invariant.kept
    ∙ end_here (slice_cmp nat_cmp) c.args.name.now c.loop-i.names.items c.loop-i.i (omega arith) c.loop-i.invariant.left
    ∙ ap (λ zs. inserted (slice_cmp nat_cmp) c.args.name.now zs) c.loop-i.invariant.same
