-- What is left of the search for a spare text gives what the whole search gives
use Rattle.std.proofs.Common.{◌+◌, ◌-◌, ◌++◌, ◌∷◌, [], ap, sym, ◌∙◌, arith}
use Rattle.gr_cover.specs.Candidates.{spare_from, spare}
use Rattle.gr_cover.proofs.Telling.{spare_here, spare_more, spare_end}
use Rattle.gr_cover.proofs.attribute.spare.Goals as goal

pub letters-init : goal.letters-init
letters-init c = ap (λ t. spare_from 1024 t c.args.values.now) (c.in_ok-push.ensures.ok ∙ ap (λ t. t ++ 120 ∷ []) c.new-text.ensures)

pub returns-then-not-has_text : goal.returns-then-not-has_text
unfolding spare
returns-then-not-has_text c =
    spare_here (1024 - c.letters.counter) c.letters.text c.args.values.now c.as_slice.result.now (omega arith) c.as_slice.ensures (sym c.has_text.ensures ∙ c.if-not-has_text.true) ∙ c.letters.invariant

pub letters-preserved : goal.letters-preserved
letters-preserved c =
    ap (λ t. spare_from (1024 - (c.letters.counter + 1)) t c.args.values.now) c.in_ok-push-2.ensures.ok
    ∙ spare_more (1024 - c.letters.counter) (1024 - (c.letters.counter + 1)) c.letters.text c.args.values.now c.as_slice.result.now (omega arith) c.as_slice.ensures (sym c.has_text.ensures ∙ c.if-not-has_text.false) ∙ c.letters.invariant

pub returns : goal.returns
unfolding spare
returns c = spare_end (1024 - c.letters.counter) c.letters.text c.args.values.now (omega arith) ∙ c.letters.invariant
