-- The journal of a run behind its starts: what the machine's acts put there is what the starts tell, and then what the node's acts do
use Rattle.std.proofs.Common.{◌≡◌, ℕ, true, false, List, [], ◌∷◌, ◌++◌, map, take, flat_map, Some, Result, Ok, Err, OnOk, OnErr, refl, sym, ap, ◌∙◌, subst, append-nil}
use Rattle.std.specs.List.{AllByRecursion, list_any}
use Rattle.gr_out.specs.declared.fault.RunFault.{RunFault}
use Rattle.gr_out.specs.Lane.{Lane}
use Rattle.gr_topo.specs.Topology.{TopologyView, IsTopology}
use Rattle.gr_model.specs.declared.report.Report.{Report}
use Rattle.gr_model.specs.World.{Transition}
use Rattle.gr_model.specs.Orders.{Order, fed, ordered, orders_of}
use Rattle.gr_journal.specs.Groups.{said_text}
use Rattle.gr_report.proofs.Passing.{PassesLog, PassesRest}
use Rattle.gr_node.specs.Seen.{NodeView, text_of}
use Rattle.gr_node.specs.Of.{AreHosted}
use Rattle.gr_node.specs.Plan.{Act, binds, starts, arrives, calls, answers, drops, settles, closes, shows, nodes}
use Rattle.gr_node.specs.Done.{Done, done, all_done, settled}
use Rattle.gr_node.specs.Went.{outside, IsExact}
use Rattle.gr_node.specs.Served.{is_bind}
use Rattle.gr_node.specs.Starting.{Started, start_lines}
use Rattle.gr_node.proofs.Moving.{IsActOf}
use Rattle.gr_node.proofs.Courses.{IsOpened, before, started, begun, opened, told_opening}
use Rattle.gr_trace.specs.Gathered.{Opens}
use Rattle.gr_trace.specs.Traced.{said_lines, written_by_acts}
use Rattle.gr_trace.specs.Wrote.{written_at}
use Rattle.gr_trace.proofs.InMemory.{some_same}
use Rattle.gr_trace.proofs.Said.{report_said}
use Rattle.gr_trace.proofs.Groups.{said_append}
use Rattle.gr_trace.proofs.Turning.{waiting_at, written_then}
use Rattle.gr_trace.proofs.Journal.{written_moves, binds_written, starts_written}
use Rattle.gr_trace.proofs.Imagined.{text_append}

-- Bindings

-- an act once the hosted brokers have started binds no node
pub bind_none : (t : TopologyView) (hosted : List ℕ) (acts : List Act) → AllByRecursion (IsActOf t hosted) acts → list_any is_bind acts ≡ false
bind_none t hosted [] h = refl
bind_none t hosted (binds b ∷ acts) h = absurd h.0
bind_none t hosted (starts b ∷ acts) h = absurd h.0
bind_none t hosted (arrives a ∷ acts) h = bind_none t hosted acts h.1
bind_none t hosted (calls c ∷ acts) h = bind_none t hosted acts h.1
bind_none t hosted (answers x ∷ acts) h = bind_none t hosted acts h.1
bind_none t hosted (drops l ∷ acts) h = bind_none t hosted acts h.1
bind_none t hosted (settles ∷ acts) h = bind_none t hosted acts h.1
bind_none t hosted (closes ∷ acts) h = bind_none t hosted acts h.1
bind_none t hosted (shows ∷ acts) h = bind_none t hosted acts h.1

-- nor does a start
pub starts_bind_none : (bs : List ℕ) (acts : List Act) → list_any is_bind acts ≡ false → list_any is_bind (map starts bs ++ acts) ≡ false
starts_bind_none [] acts h = h
starts_bind_none (b ∷ bs) acts h = starts_bind_none bs acts h

-- The starts

module _ (t : TopologyView) (hosted : List ℕ) (are : AreHosted t hosted) (bs rest : List ℕ) (n : NodeView) (o : IsOpened t hosted bs rest n) where
  abbrev pub first_said : List ℕ
  first_said = said_lines t (flat_map (start_lines t n) bs)

  pub written_begun : (more : List Act) → (let s : Transition = started t hosted are bs rest n o in
      written_by_acts t hosted (before t hosted are bs rest n o) (orders_of t) [] (begun t hosted are bs rest n o more)
      ≡ first_said ++ written_by_acts t hosted s.world (fed (orders_of t) (flat_map (start_lines t n) bs)) [] more)
  written_begun more =
      let s : Transition = started t hosted are bs rest n o in
      binds_written t hosted (nodes t hosted) (before t hosted are bs rest n o) (orders_of t) (map starts bs ++ more)
      ∙ (starts_written t hosted bs (before t hosted are bs rest n o) (orders_of t) more
      ∙ ap (λ (ls : List Report). said_lines t ls ++ written_by_acts t hosted s.world (fed (orders_of t) ls) [] more) (opened t hosted are bs rest n o).0)

-- and then the node's acts
pub written_behind : (t : TopologyView) (hosted : List ℕ) (are : AreHosted t hosted) (n : NodeView) (o : IsOpened t hosted hosted [] n) → PassesLog → PassesRest → n.orders ≡ fed (orders_of t) (flat_map (start_lines t n) hosted)
    → (acts : List Act) → AllByRecursion (IsActOf t hosted) acts
    → written_by_acts t hosted (before t hosted are hosted [] n o) (orders_of t) [] (begun t hosted are hosted [] n o acts) ≡ said_lines t (flat_map (start_lines t n) hosted) ++ written_at t hosted n [] acts
written_behind t hosted are n o passes passes_rest heard acts all =
    let s : Transition = started t hosted are hosted [] n o in
    let first : List ℕ = said_lines t (flat_map (start_lines t n) hosted) in
    written_begun t hosted are hosted [] n o acts
    ∙ (ap (λ (os : List Order). first ++ written_by_acts t hosted s.world os [] acts) (sym heard)
    ∙ ap (λ (xs : List ℕ). first ++ xs) (sym (written_moves t hosted n s.world [] acts passes passes_rest (opened t hosted are hosted [] n o).1 o.hosts all)))

-- The first of them tells what is ready in one order
pub settles_first : (t : TopologyView) (hosted : List ℕ) (n : NodeView) (acts : List Act) → written_at t hosted n [] (settles ∷ acts) ≡ said_lines t (ordered n.orders) ++ written_at t hosted (settled n) [] acts
unfolding written_at done
settles_first t hosted n acts = ap (λ (xs : List ℕ). xs ++ written_at t hosted (settled n) [] acts) (append-nil (said_lines t (ordered n.orders)))

-- and what is shown at the end has no place there

shows_nothing : (t : TopologyView) (hosted : List ℕ) (n : NodeView) (waiting : List ℕ) → written_at t hosted n waiting (shows ∷ []) ≡ []
unfolding written_at
shows_nothing t hosted n waiting = refl

pub shows_last : (t : TopologyView) (hosted : List ℕ) (n : NodeView) (waiting : List ℕ) (acts : List Act) → written_at t hosted n waiting (acts ++ shows ∷ []) ≡ written_at t hosted n waiting acts
shows_last t hosted n waiting acts =
    let d : Done = all_done t hosted n acts in
    written_then t hosted n waiting acts (shows ∷ [])
    ∙ (ap (λ (xs : List ℕ). written_at t hosted n waiting acts ++ xs) (shows_nothing t hosted d.node (waiting_at t hosted n waiting acts)) ∙ append-nil (written_at t hosted n waiting acts))

-- What was told of the starts

abbrev pub Answer : Type 0
Answer = Result (Unit {0}) RunFault

-- where they were refused
refused_lines : (done : Answer) (lines told : List ℕ) (e : RunFault) → done ≡ Err e → OnErr done (lines ≡ told) → lines ≡ told
refused_lines done lines told e is h = subst (λ (r : Answer). OnErr r (lines ≡ told)) is h

-- where all came through
ended_lines : (done : Answer) (P : Type 0) (u : Unit {0}) → done ≡ Ok u → OnOk done P → P
ended_lines done P u is h = subst (λ (r : Answer). OnOk r P) is h

module _ (t : TopologyView) (hosted : List ℕ) (topology : IsTopology t) (keeps : Type 0) (n' : NodeView) (lines : List ℕ) (lanes : ℕ → Lane) (done : Answer) (x : Opens {T = Unit {0}} t hosted keeps n' lines lanes done) (exact : IsExact done) where
  abbrev pub has_begun : Started {T = Unit {0}} t hosted x.opened (outside (Some []) [] []) (outside (Some x.told) [] []) done
  has_begun = x.started

  abbrev pub so_far : List Report
  so_far = flat_map (start_lines t x.opened) (take has_begun.made hosted)

  told_is : x.told ≡ text_of t so_far
  told_is = some_same x.told (text_of t so_far) (told_opening (Unit {0}) t hosted x.opened (Some []) (Some x.told) [] done has_begun refl exact)

  -- a start was refused
  pub said_so_far : (e : RunFault) → done ≡ Err e → said_text true lines ≡ said_lines t so_far
  said_so_far e is = ap (said_text true) (refused_lines done lines x.told e is x.cut ∙ told_is) ∙ report_said t so_far topology

  -- none was: what is ready in one order is told behind
  pub said_all : (u : Unit {0}) → done ≡ Ok u → said_text true lines ≡ said_lines t so_far ++ said_lines t (ordered x.opened.orders)
  said_all u is =
      let ready : List Report = ordered x.opened.orders in
      ap (said_text true) (ended_lines done (lines ≡ x.told ++ text_of t ready) u is x.whole
      ∙ (ap (λ (xs : List ℕ). xs ++ text_of t ready) told_is ∙ sym (text_append t so_far ready)))
      ∙ (report_said t (so_far ++ ready) topology ∙ said_append t so_far ready)

  -- either way what the starts tell comes first
  pub said_first : (more : List ℕ) × (said_text true lines ≡ said_lines t so_far ++ more)
  said_first = go done refl
    where
      go : (r : Answer) → done ≡ r → (more : List ℕ) × (said_text true lines ≡ said_lines t so_far ++ more)
      go (Ok u) is = (said_lines t (ordered x.opened.orders), said_all u is)
      go (Err e) is = ([], said_so_far e is ∙ sym (append-nil (said_lines t so_far)))
