use Rattle.std.proofs.Common.{arith, sym, ap, ◌∙◌}
use Rattle.std.proofs.lemmas.Bool.{le-leb}
use Rattle.gr_edge.specs.Pass.{wanted}
use Rattle.gr_edge.specs.Lates.{wantings_of}
use Rattle.gr_edge.proofs.Asking.{wanted_open, wanted_asked, wanted_late}
use Rattle.gr_edge.proofs.edge.Edge.wanted_from.Goals.{then-self-via-then-self, then-self-via-else-self+then-any}
use Rattle.gr_edge.proofs.edge.Edge.wanted_from.Goals as goal

pub returns-then-self : goal.returns-then-self
returns-then-self c =
    let s = c.self.inside in
    let js = c.args.joins.now in
    let e = c.args.event.now in
    λ t h. sym (ap (λ ws. wanted ws js t e) c.self.view_is) ∙ elim c.then-self.branch [
      | then-self-via-then-self w ↦ wanted_open s.listed.wantings s.is_open s.asked (wantings_of s.lates.items) js t e c.self.invariant w.if-self.true
      | then-self-via-else-self+then-any w ↦ wanted_asked s.listed.wantings s.is_open s.asked (wantings_of s.lates.items) js t e c.self.invariant (sym w.any.ensures.answer ∙ w.if-any.true)
    ] ∙ sym (le-leb 0 t (omega arith))

pub returns : goal.returns
returns c =
    let s = c.self.inside in
    let js = c.args.joins.now in
    let e = c.args.event.now in
    λ t h. sym (ap (λ ws. wanted ws js t e) c.self.view_is)
    ∙ wanted_late s.listed.wantings s.is_open s.asked (wantings_of s.lates.items) js t e c.self.invariant c.if-self.false (sym c.any.ensures.answer ∙ c.if-any.false) (c.any.ensures.event c.if-any.false)
    ∙ sym (ap (λ ls. wanted (wantings_of ls) js t e) c.as_slice.ensures.value) ∙ c.first_wanted.ensures t h
