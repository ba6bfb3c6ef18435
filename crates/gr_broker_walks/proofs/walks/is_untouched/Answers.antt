use Rattle.std.proofs.Common.{◌≡◌, ◌-◌, inl, sym, arith}
use Rattle.std.proofs.lemmas.Option.{get_or_from_slice_get}
use Rattle.gr_know.specs.declared.values.K.TheVariants.{Q}
use Rattle.gr_curio.specs.declared.values.Q3.TheVariants.{N}
use Rattle.gr_curio.specs.Values.{wanted_at}
use Rattle.gr_curio.specs.Wants.{runs_of, wants_of}
use Rattle.gr_broker_walks.proofs.Untouched.{told_nowhere, told_between}
use Rattle.gr_broker_walks.proofs.walks.is_untouched.Goals as goal

pub returns-then-many-eq0 : goal.returns-then-many-eq0
returns-then-many-eq0 c = λ yes t. inl (told_nowhere Q c.args.passed.now t (omega arith))

pub returns : goal.returns
returns c = λ yes t.
    let xs = c.args.passed.now in
    let r = c.run-first.result.now in
    let s = c.run-last.result.now in
    told_between Q xs r s (c.len-many.result - 1) t (wanted_at (wants_of (runs_of c.args.wants.now) c.args.child) t ≡ N)
    c.len-many.ensures.canonical (omega arith) (sym (get_or_from_slice_get xs 0 r r c.run-first.ensures.run)) (sym (get_or_from_slice_get xs (c.len-many.result - 1) s s c.run-last.ensures.run))
    (c.is_unwanted.ensures yes t)
