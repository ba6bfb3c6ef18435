-- Where no call was made, and where they were
use Rattle.std.proofs.Common.{ℕ, List, length, drop, refl, ap, ◌∙◌, arith}
use Rattle.gr_publog.specs.declared.record.Record.TheVariants.{Cut}
use Rattle.gr_publog.specs.State.{held_by, stands_after}
use Rattle.gr_publog.proofs.Filled.{size_is}
use Rattle.gr_publog.proofs.Extending.{refills_refused, refills_failed, refills_ok}
use Rattle.gr_publog.proofs.fill.refill.Goals as goal

pub returns-in-Err-clause-refills : goal.returns-in-Err-clause-refills
returns-in-Err-clause-refills g c = λ t. refills_refused _ _ (c.requires.only t) refl _ _

pub returns-in-Err-reserve-clause-refills : goal.returns-in-Err-reserve-clause-refills
returns-in-Err-reserve-clause-refills g c = λ t. refills_refused _ _ (c.requires.only t) (c.in-Err-reserve.ensures.err t) _ _

pub returns-clause-refills : goal.returns-clause-refills
returns-clause-refills g c = λ t.
    refills_failed c.deref.result.now _ _ (g.D.Disk.lane_of c.reserve.new.self c.args.lane) _ _ (record {
      sole = c.requires.only t;
      room = c.in-Ok-reserve.ensures.room t;
      text_is = c.deref.ensures.value ∙ c.in-Ok.ensures;
      keeps = c.rewrite.ensures.keeps t;
      any_moment = c.rewrite.ensures.any_moment t;
      left = c.rewrite.ensures.left t;
    }) c.args.aside

pub returns-in-Ok-rewrite-clause-refills : goal.returns-in-Ok-rewrite-clause-refills
returns-in-Ok-rewrite-clause-refills g c = λ t.
    let e = c.in-Ok-rewrite.ensures in
    refills_ok c.deref.result.now _ _ (g.D.Disk.lane_of c.reserve.new.self c.args.lane) _ _ (record {
      sole = c.requires.only t;
      room = c.in-Ok-reserve.ensures.room t;
      text_is = c.deref.ensures.value ∙ c.in-Ok.ensures;
      keeps = c.rewrite.ensures.keeps t;
      any_moment = c.rewrite.ensures.any_moment t;
      left = c.rewrite.ensures.left t;
    }) _ c.args.aside (e.written t) (e.only t) (e.calls t)

pub returns-in-Ok-rewrite-clause-size : goal.returns-in-Ok-rewrite-clause-size
returns-in-Ok-rewrite-clause-size g c = omega (arith, c.len.ensures, ap (λ (l : List ℕ). length l) c.in-Ok.ensures, size_is (held_by (stands_after c.args.footing.now (Cut c.args.cut)) (drop c.args.from c.args.entries.now.items)) c.args.generation)
