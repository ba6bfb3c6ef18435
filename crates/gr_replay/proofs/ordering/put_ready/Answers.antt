use Rattle.std.proofs.Common.{◌++◌, sym, ◌∙◌, subst, ap, OnOk, OnErr}
use Rattle.gr_out.specs.Page.{TakesBut, TakesFront}
use Rattle.gr_model.specs.Text.{labels_of, report_text}
use Rattle.gr_model.proofs.Ordering.{ordered_named}
use Rattle.gr_report.specs.Named.{AllNamed}
use Rattle.gr_replay.proofs.ordering.put_ready.Goals as goal

pub put_all-requires : goal.put_all-requires
put_all-requires g c =
    subst (AllNamed c.args.topology.now) (sym (c.as_slice.ensures ∙ c.in-Ok.ensures.given)) (ordered_named c.args.topology.now c.args.orders.now c.requires)

pub returns-clause-ok : goal.returns-clause-ok
returns-clause-ok g c =
    subst (λ xs. OnOk c.put_all.result (TakesBut (g.K.Sink.taken c.args.sink.now) (g.K.Sink.taken c.put_all.new.sink) (c.args.page.now.held ++ xs) c.put_all.new.page.held))
    (ap (report_text (labels_of c.args.topology.now)) (c.as_slice.ensures ∙ c.in-Ok.ensures.given)) c.put_all.ensures.ok

pub returns-clause-front : goal.returns-clause-front
returns-clause-front g c =
    subst (λ xs. OnErr c.put_all.result (TakesFront (g.K.Sink.taken c.args.sink.now) (g.K.Sink.taken c.put_all.new.sink) (c.args.page.now.held ++ xs)))
    (ap (report_text (labels_of c.args.topology.now)) (c.as_slice.ensures ∙ c.in-Ok.ensures.given)) c.put_all.ensures.front
