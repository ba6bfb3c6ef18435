use Rattle.std.proofs.Common.{◌∙◌, Err, sym, ap, arith}
use Rattle.toml.specs.View.{view}
use Rattle.gr_topo.specs.declared.fault.TopoFault.TheVariants.{BadType}
use Rattle.gr_topo.specs.Shape.{text_in}
use Rattle.gr_topo.proofs.Faults.{fails_as}
use Rattle.gr_topo.proofs.Walked.{not_two, one_fails, other_fails, both_read}
use Rattle.gr_topo.proofs.shape.two_texts.Goals as goal

pub returns-then-values-ne2 : goal.returns-then-values-ne2
returns-then-values-ne2 c = not_two c.args.key.now c.args.values.now (λ e. omega (arith, e)) ∙ ap (λ k. Err (BadType k)) (sym (c.in_ok-from_slice.ensures ∙ c.as_bytes.ensures.value))

pub returns-in-Err : goal.returns-in-Err
returns-in-Err c = fails_as c.in-Err.fault (text_in c.args.key.now (view c.index-values-0.result)) _ (λ x e. one_fails c.args.key.now c.args.values.now c.index-values-0.result x (omega arith) c.index-values-0.is e) c.in-Err.ensures

pub returns-in-Err-text_in : goal.returns-in-Err-text_in
returns-in-Err-text_in c =
    fails_as c.in-Err-text_in.fault (text_in c.args.key.now (view c.index-values-1.result)) _
    (λ x e. other_fails c.args.key.now c.args.values.now c.index-values-0.result c.index-values-1.result c.in-Ok.one x (omega arith) c.index-values-0.is c.index-values-1.is c.in-Ok.ensures e) c.in-Err-text_in.ensures

pub returns-in-Ok-text_in : goal.returns-in-Ok-text_in
returns-in-Ok-text_in c = both_read c.args.key.now c.args.values.now c.index-values-0.result c.index-values-1.result c.in-Ok.one c.in-Ok-text_in.other (omega arith) c.index-values-0.is c.index-values-1.is c.in-Ok.ensures c.in-Ok-text_in.ensures
