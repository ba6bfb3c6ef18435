use Rattle.std.proofs.Common.{◌++◌, length, sym, ap, ◌∙◌}
use Rattle.std.proofs.lemmas.Bool.{false≢true}
use Rattle.std.proofs.lemmas.Bool.Decides.{Decides-eqb}
use Rattle.std.proofs.lemmas.List.{append_assoc}
use Rattle.gr_pubend.specs.Log.{said}
use Rattle.gr_model.specs.Broker.{Outcome}
use Rattle.gr_model.specs.Opening.{reopened_line}
use Rattle.gr_broker_relay.specs.Held.{held_view}
use Rattle.gr_broker.proofs.Fresh.{nobody, somebody, fresh_here, fresh_kept, started_alone, lines_alone, learns_nothing, started_with, lines_with}
use Rattle.gr_broker.proofs.Joined.{log_late}
use Rattle.gr_broker.proofs.starting.held_over.Goals as goal

pub returns-then-is_empty-clause-started : goal.returns-then-is_empty-clause-started
returns-then-is_empty-clause-started c =
    let s = c.args.site.now in
    let held = held_view c.in_ok-held.held in
    let alone = nobody s.here.now _ c.requires.site.here ((Decides-eqb (length s.here.now) 0).0 (sym c.is_empty.ensures ∙ c.if-is_empty.true)) in
    let fresh = fresh_here s.topo.now s.publisher s.broker c.requires.here c.args.log c.in_ok-know.know.runs c.share-joins.result held c.in_ok-held.ensures.view c.in_ok-know.ensures.known (c.share-joins.ensures ∙ c.joins.ensures) in
    let lates = log_late s.topo.now c.args.log.state c.requires.late c.is_broken.ensures.state in
    started_alone s.topo.now s.publisher s.broker c.requires.here c.args.log c.requires.lane c.requires.whole c.requires.late held alone fresh lates c.in_ok-held.held.log c.in_ok-held.ensures.log

pub returns-then-is_empty-clause-lines : goal.returns-then-is_empty-clause-lines
returns-then-is_empty-clause-lines c =
    let s = c.args.site.now in
    let alone = nobody s.here.now _ c.requires.site.here ((Decides-eqb (length s.here.now) 0).0 (sym c.is_empty.ensures ∙ c.if-is_empty.true)) in
    c.in_ok-tell_opened.ensures
    ∙ ap (λ xs. c.args.into.now ++ xs) (sym (lines_alone s.topo.now s.publisher s.broker c.requires.here c.args.log alone c.in_ok-held.held.log c.in_ok-held.ensures.log))

pub learn-requires-clause-kept : goal.learn-requires-clause-kept
learn-requires-clause-kept c =
    let s = c.args.site.now in
    let held = held_view c.in_ok-held.held in
    let fresh = fresh_here s.topo.now s.publisher s.broker c.requires.here c.args.log c.in_ok-know.know.runs c.share-joins.result held c.in_ok-held.ensures.view c.in_ok-know.ensures.known (c.share-joins.ensures ∙ c.joins.ensures) in
    fresh_kept s.topo.now s.publisher s.broker c.requires.here c.args.log held fresh (log_late s.topo.now c.args.log.state c.requires.late c.is_broken.ensures.state)

pub returns-clause-started : goal.returns-clause-started
returns-clause-started c =
    let s = c.args.site.now in
    let held = held_view c.in_ok-held.held in
    let some = somebody s.here.now _ c.requires.site.here (λ e. false≢true (sym c.if-is_empty.false ∙ c.is_empty.ensures ∙ (Decides-eqb (length s.here.now) 0).1 e)) in
    let fresh = fresh_here s.topo.now s.publisher s.broker c.requires.here c.args.log c.in_ok-know.know.runs c.share-joins.result held c.in_ok-held.ensures.view c.in_ok-know.ensures.known (c.share-joins.ensures ∙ c.joins.ensures) in
    let same = learns_nothing s.topo.now s.publisher s.broker c.requires.here c.args.log c.new.result held c.new.ensures fresh in
    started_with s.topo.now s.publisher s.broker c.requires.here c.args.log c.requires.lane c.requires.whole c.requires.late (held_view c.learn-2.new.held) some
    (c.in_ok-learn.ensures.view (said c.args.log) ∙ ap (λ (o : Outcome). o.view) same) c.in_ok-learn.ensures.part.kept c.learn-2.new.held.log (c.in_ok-learn.ensures.part.elsewhere ∙ c.in_ok-held.ensures.log)

pub returns-clause-lines : goal.returns-clause-lines
returns-clause-lines c =
    let s = c.args.site.now in
    let held = held_view c.in_ok-held.held in
    let some = somebody s.here.now _ c.requires.site.here (λ e. false≢true (sym c.if-is_empty.false ∙ c.is_empty.ensures ∙ (Decides-eqb (length s.here.now) 0).1 e)) in
    let fresh = fresh_here s.topo.now s.publisher s.broker c.requires.here c.args.log c.in_ok-know.know.runs c.share-joins.result held c.in_ok-held.ensures.view c.in_ok-know.ensures.known (c.share-joins.ensures ∙ c.joins.ensures) in
    let same = learns_nothing s.topo.now s.publisher s.broker c.requires.here c.args.log c.new.result held c.new.ensures fresh in
    let told = c.in_ok-learn.ensures.told (said c.args.log) in
    let line = reopened_line (said c.args.log) s.publisher in
    let into = c.args.into.now in
    c.in_ok-append.ensures.ok
    ∙ ap (λ xs. xs ++ c.learn-2.new.into.reports) c.in_ok-tell_opened.ensures
    ∙ append_assoc into line c.learn-2.new.into.reports
    ∙ ap (λ xs. into ++ (line ++ xs)) (told.lines ∙ ap (λ (o : Outcome). o.lines) same)
    ∙ ap (λ xs. into ++ xs) (sym (lines_with s.topo.now s.publisher s.broker c.requires.here c.args.log some c.learn-2.new.held.log (c.in_ok-learn.ensures.part.elsewhere ∙ c.in_ok-held.ensures.log)))
