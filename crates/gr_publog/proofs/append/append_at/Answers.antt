-- Where no call was made, and where the four were
use Rattle.std.proofs.Common.{ℕ, List, [], ◌∷◌, length, refl, ap, ◌∙◌, arith, length-append}
use Rattle.gr_publog.specs.Text.{record_bytes}
use Rattle.gr_publog.proofs.Reading.{length-record}
use Rattle.gr_publog.proofs.Extending.{extends_refused, extends_failed, extends_ok}
use Rattle.gr_publog.proofs.append.append_at.Goals as goal

pub returns-in-Err-clause-extends : goal.returns-in-Err-clause-extends
returns-in-Err-clause-extends g c = λ t. extends_refused _ _ (c.requires.only t) refl _ _

pub returns-then-gate-gt-LAST_GATE-clause-extends : goal.returns-then-gate-gt-LAST_GATE-clause-extends
returns-then-gate-gt-LAST_GATE-clause-extends g c = λ t. extends_refused _ _ (c.requires.only t) refl _ _

pub returns-in-Err-reserve-clause-extends : goal.returns-in-Err-reserve-clause-extends
returns-in-Err-reserve-clause-extends g c = λ t. extends_refused _ _ (c.requires.only t) (c.in-Err-reserve.ensures.err t) _ _

pub returns-clause-extends : goal.returns-clause-extends
returns-clause-extends g c = λ t.
    extends_failed c.args.gate c.as_slice.result.now _ _ (g.D.Disk.lane_of c.reserve.new.self c.args.lane) _ _ (record {
      room = c.in-Ok-reserve.ensures.room t;
      text_is = c.as_slice.ensures ∙ c.in-Ok.ensures.text;
      keeps = c.append_behind.ensures.keeps t;
      any_moment = c.append_behind.ensures.any_moment t;
      picked = c.append_behind.ensures.picked t;
      left = c.append_behind.ensures.left t;
    })

pub returns-in-Ok-append_behind-clause-extends : goal.returns-in-Ok-append_behind-clause-extends
returns-in-Ok-append_behind-clause-extends g c = λ t.
    let e = c.in-Ok-append_behind.ensures in
    extends_ok c.args.gate c.as_slice.result.now _ _ (g.D.Disk.lane_of c.reserve.new.self c.args.lane) _ _ (record {
      room = c.in-Ok-reserve.ensures.room t;
      text_is = c.as_slice.ensures ∙ c.in-Ok.ensures.text;
      keeps = c.append_behind.ensures.keeps t;
      any_moment = c.append_behind.ensures.any_moment t;
      picked = c.append_behind.ensures.picked t;
      left = c.append_behind.ensures.left t;
    }) _ (e.written t) (e.only t) (e.calls t) (e.breaks t)

pub returns-in-Ok-append_behind-clause-size : goal.returns-in-Ok-append_behind-clause-size
returns-in-Ok-append_behind-clause-size g c =
    let r = c.args.entry.now in
    omega (arith, c.len.ensures, ap (λ (l : List ℕ). length l) c.in-Ok.ensures.text, length-append (record_bytes r) (0 ∷ []), length-record r)
