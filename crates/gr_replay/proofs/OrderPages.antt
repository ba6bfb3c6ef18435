-- What a page holds and a sink takes of a step's lines, and of what is ready behind them
use Rattle.std.proofs.Common.{◌≡◌, ℕ, List, [], ◌++◌, Option, Result, OnOk, OnErr, refl, sym, ap, ◌∙◌, subst, append_assoc}
use Rattle.gr_out.specs.Page.{TakesBut, TakesFront}
use Rattle.gr_out.proofs.Fronts.{front-nothing, front-more, front-held, front-later, but-later, on_fault, on_success}
use Rattle.gr_topo.specs.Topology.{TopologyView}
use Rattle.gr_model.specs.declared.report.Report.{Report}
use Rattle.gr_model.specs.Orders.{Order, ordered}
use Rattle.gr_model.specs.Text.{Labels, labels_of, report_text}
use Rattle.gr_replay.specs.Going.{with_ready}
use Rattle.gr_replay.proofs.OrderTexts.{text_append}

-- behind what is held stand lines and lines behind them
both : (labels : Labels) (held : List ℕ) (lines more : List Report) → (held ++ report_text labels lines) ++ report_text labels more ≡ held ++ report_text labels (lines ++ more)
both labels held lines more = append_assoc held (report_text labels lines) (report_text labels more) ∙ ap (λ xs. held ++ xs) (sym (text_append labels lines more))

-- a front of the lines of a step is one of all that is put of it
pub front_first : (old new : Option (List ℕ)) (labels : Labels) (held : List ℕ) (lines more : List Report) → TakesFront old new (held ++ report_text labels lines) → TakesFront old new (held ++ report_text labels (lines ++ more))
front_first old new labels held lines more f =
    subst (TakesFront old new) (both labels held lines more) (front-more old new (held ++ report_text labels lines) (report_text labels more) f)

-- so are these lines with nothing behind them
pub put_unready : (old new : Option (List ℕ)) (labels : Labels) (held : List ℕ) (lines more : List Report) (page : List ℕ) → TakesBut old new (held ++ report_text labels lines) page → TakesFront old new (held ++ report_text labels (lines ++ more))
put_unready old new labels held lines more page b =
    front_first old new labels held lines more (front-held old new new (held ++ report_text labels lines) page b (front-nothing new new page refl))

-- the lines of a step were put, and then what was ready
pub put_both : {T E : Type 0} (old middle new : Option (List ℕ)) (labels : Labels) (held : List ℕ) (lines : List Report) (now os : List Order) (page left : List ℕ) (r : Result T E) → TakesBut old middle (held ++ report_text labels lines) page → now ≡ os
    → OnOk r (TakesBut middle new (page ++ report_text labels (ordered now)) left) → OnOk r (TakesBut old new (held ++ report_text labels (lines ++ ordered os)) left)
put_both old middle new labels held lines now os page left r b e =
    on_success r
    (λ k. subst (λ xs. TakesBut old new xs left) (both labels held lines (ordered now) ∙ ap (λ x. held ++ report_text labels (lines ++ ordered x)) e) (but-later old middle new (held ++ report_text labels lines) (report_text labels (ordered now)) page left b k))

-- and a front of what was ready is one of all
pub front_both : {T E : Type 0} (old middle new : Option (List ℕ)) (labels : Labels) (held : List ℕ) (lines : List Report) (now os : List Order) (page : List ℕ) (r : Result T E) → TakesBut old middle (held ++ report_text labels lines) page → now ≡ os
    → OnErr r (TakesFront middle new (page ++ report_text labels (ordered now))) → OnErr r (TakesFront old new (held ++ report_text labels (lines ++ ordered os)))
front_both old middle new labels held lines now os page r b e =
    on_fault r
    (λ k. subst (TakesFront old new) (both labels held lines (ordered now) ∙ ap (λ x. held ++ report_text labels (lines ++ ordered x)) e) (front-later old middle new (held ++ report_text labels lines) (report_text labels (ordered now)) page b k))

-- what is put of an opening into a page that holds nothing
pub opening_text : (held : List ℕ) (t topo : TopologyView) (os : List Order) (slice lines told : List Report) → held ≡ [] → t ≡ topo → slice ≡ lines → lines ≡ told
    → held ++ report_text (labels_of t) (with_ready os slice) ≡ report_text (labels_of topo) (with_ready os told)
opening_text held t topo os slice lines told h e s l =
    ap (λ xs. xs ++ report_text (labels_of t) (with_ready os slice)) h
    ∙ ap (λ x. report_text (labels_of x) (with_ready os slice)) e
    ∙ ap (λ xs. report_text (labels_of topo) (with_ready os xs)) (s ∙ l)
