-- What acts of an arrival put into the journal: all that they tell, and behind it the lines of all their offers
use Rattle.std.proofs.Common.{◌≡◌, ℕ, Bool, true, false, List, [], ◌∷◌, ◌++◌, map, Option, Some, None, Result, Ok, Err, refl, sym, ap, ap₂, ◌∙◌, append_assoc, append-nil}
use Rattle.std.specs.Prelude.{if◌then◌else◌}
use Rattle.std.specs.List.{AllByRecursion}
use Rattle.std.proofs.lemmas.Grind.{flat_map-append}
use Rattle.gr_frame.specs.Decode.{frame_decoded}
use Rattle.gr_note.specs.declared.note.Note.{Note}
use Rattle.gr_note.specs.declared.fault.NoteFault.{NoteFault}
use Rattle.gr_note.specs.Bytes.{begins_note}
use Rattle.gr_note.specs.Decode.{note_decoded}
use Rattle.gr_out.specs.Entry.{Entry}
use Rattle.gr_out.specs.Journal.{is_among}
use Rattle.gr_topo.specs.Topology.{TopologyView}
use Rattle.gr_model.specs.declared.report.Report.{Report}
use Rattle.gr_model.specs.Net.{Net}
use Rattle.gr_model.specs.Arrivals.{Arrival, datagram, quiet, Publish, Request, publisher_of, submitted_in}
use Rattle.gr_model.specs.Orders.{ordered}
use Rattle.gr_model.specs.Text.{labels_of, whole_line}
use Rattle.gr_journal.specs.Groups.{say_text}
use Rattle.gr_node.specs.Seen.{NodeView}
use Rattle.gr_node.specs.Plan.{Call, gets, Act, binds, starts, arrives, calls, answers, drops, settles, closes, shows, quiet_calls, submit_acts, note_acts, datagram_acts, acts_of}
use Rattle.gr_node.specs.Done.{Done, done, all_done}
use Rattle.gr_trace.specs.Traced.{said_lines, out_of, outs_of, written, waits_after}
use Rattle.gr_trace.specs.Wrote.{written_at}

-- Acts whose lines are told at once, and whose offers wait
abbrev pub IsTelling : Act → Type 0
IsTelling (arrives a) = ⊥
IsTelling settles = ⊥
IsTelling shows = ⊥
IsTelling _ = Unit {0}

puts_said : (t : TopologyView) (hosted : List ℕ) (a : Act) (told : List Report) (waiting : List ℕ) → IsTelling a → written t hosted a told waiting ≡ said_lines t told
puts_said t hosted (binds b) told waiting h = refl
puts_said t hosted (starts b) told waiting h = refl
puts_said t hosted (arrives a) told waiting h = absurd h
puts_said t hosted (calls c) told waiting h = refl
puts_said t hosted (answers x) told waiting h = refl
puts_said t hosted (drops l) told waiting h = refl
puts_said t hosted settles told waiting h = absurd h
puts_said t hosted closes told waiting h = refl
puts_said t hosted shows told waiting h = absurd h

waits_more : (t : TopologyView) (a : Act) (sent : List Entry) (waiting : List ℕ) → IsTelling a → waits_after t a sent waiting ≡ waiting ++ outs_of t sent
waits_more t (binds b) sent waiting h = refl
waits_more t (starts b) sent waiting h = refl
waits_more t (arrives a) sent waiting h = absurd h
waits_more t (calls c) sent waiting h = refl
waits_more t (answers x) sent waiting h = refl
waits_more t (drops l) sent waiting h = refl
waits_more t settles sent waiting h = absurd h
waits_more t closes sent waiting h = refl
waits_more t shows sent waiting h = absurd h

pub said_append : (t : TopologyView) (xs ys : List Report) → said_lines t (xs ++ ys) ≡ said_lines t xs ++ said_lines t ys
said_append t xs ys = flat_map-append (λ l. say_text (whole_line (labels_of t) l)) xs ys

pub outs_append : (t : TopologyView) (xs ys : List Entry) → outs_of t (xs ++ ys) ≡ outs_of t xs ++ outs_of t ys
outs_append t xs ys = flat_map-append (out_of t) xs ys

-- Which are such

calls_tell : (cs : List Call) → AllByRecursion IsTelling (map calls cs)
calls_tell [] = tt
calls_tell (c ∷ cs) = (tt, calls_tell cs)

note_tells : (net : Net) (b : ℕ) (r : Result Note NoteFault) → AllByRecursion IsTelling (note_acts net b r)
note_tells net b (Err fault) = (tt, tt)
note_tells net b (Ok n) = go (submitted_in net b n)
  where
    go : (o : Option Publish) → AllByRecursion IsTelling (submit_acts b (publisher_of n) o)
    go None = (tt, tt)
    go (Some x) = (tt, (tt, tt))

datagram_tells : (net : Net) (b : ℕ) (bytes : List ℕ) → AllByRecursion IsTelling (datagram_acts net b bytes)
datagram_tells net b bytes = go (begins_note bytes)
  where
    go : (c : Bool) → AllByRecursion IsTelling (elim c [ true ↦ note_acts net b (note_decoded bytes) | false ↦ calls (gets b (frame_decoded bytes)) ∷ [] ])
    go true = note_tells net b (note_decoded bytes)
    go false = (tt, tt)

pub acts_tell : (net : Net) (hosted : List ℕ) (left : List Request) (a : Arrival) → AllByRecursion IsTelling (acts_of net hosted left a)
acts_tell net hosted left (datagram b bytes moment) = go (is_among hosted b)
  where
    go : (c : Bool) → AllByRecursion IsTelling (if c then datagram_acts net b bytes else [])
    go true = datagram_tells net b bytes
    go false = tt
acts_tell net hosted left (quiet moment) = calls_tell (quiet_calls net hosted left)

-- What they put there

pub told_at : (t : TopologyView) (hosted : List ℕ) (n : NodeView) (waiting : List ℕ) (acts more : List Act) → AllByRecursion IsTelling acts
    → written_at t hosted n waiting (acts ++ more)
    ≡ said_lines t (all_done t hosted n acts).lines ++ written_at t hosted (all_done t hosted n acts).node (waiting ++ outs_of t (all_done t hosted n acts).entries) more
unfolding written_at all_done
told_at t hosted n waiting [] more h = ap (λ (xs : List ℕ). written_at t hosted n xs more) (sym (append-nil waiting))
told_at t hosted n waiting (a ∷ acts) more h =
    let d : Done = done t hosted n a in
    let e : Done = all_done t hosted d.node acts in
    let rest : List ℕ → List ℕ = λ xs. written_at t hosted e.node xs more in
    ap₂ (λ (xs ys : List ℕ). xs ++ written_at t hosted d.node ys (acts ++ more)) (puts_said t hosted a d.lines waiting h.0) (waits_more t a d.entries waiting h.0)
    ∙ (ap (λ (xs : List ℕ). said_lines t d.lines ++ xs) (told_at t hosted d.node (waiting ++ outs_of t d.entries) acts more h.1)
    ∙ (sym (append_assoc (said_lines t d.lines) (said_lines t e.lines) (rest ((waiting ++ outs_of t d.entries) ++ outs_of t e.entries)))
    ∙ ap₂ (λ (xs ys : List ℕ). xs ++ rest ys) (sym (said_append t d.lines e.lines))
    (append_assoc waiting (outs_of t d.entries) (outs_of t e.entries) ∙ ap (λ (xs : List ℕ). waiting ++ xs) (sym (outs_append t d.entries e.entries)))))

-- acts, and then others
pub record IsBoth (d e both : Done) : Type 0 where
  pub lines : both.lines ≡ d.lines ++ e.lines
  pub entries : both.entries ≡ d.entries ++ e.entries
  pub node : both.node ≡ e.node

pub done_append : (t : TopologyView) (hosted : List ℕ) (n : NodeView) (xs ys : List Act)
    → (let d : Done = all_done t hosted n xs in IsBoth d (all_done t hosted d.node ys) (all_done t hosted n (xs ++ ys)))
unfolding all_done
done_append t hosted n [] ys = record { lines = refl; entries = refl; node = refl }
done_append t hosted n (a ∷ xs) ys =
    let d : Done = done t hosted n a in
    let more = done_append t hosted d.node xs ys in
    let e : Done = all_done t hosted d.node xs in
    let f : Done = all_done t hosted e.node ys in
    record {
      lines = ap (λ (ls : List Report). d.lines ++ ls) more.lines ∙ sym (append_assoc d.lines e.lines f.lines);
      entries = ap (λ (es : List Entry). d.entries ++ es) more.entries ∙ sym (append_assoc d.entries e.entries f.entries);
      node = more.node;
    }

-- where all was made, the offers stand behind all that is told
pub led_at : (t : TopologyView) (hosted : List ℕ) (n : NodeView) (acts : List Act) → AllByRecursion IsTelling acts
    → (let d : Done = all_done t hosted n (acts ++ settles ∷ []) in written_at t hosted n [] (acts ++ settles ∷ []) ≡ said_lines t d.lines ++ outs_of t d.entries)
unfolding written_at all_done done
led_at t hosted n acts h =
    let d : Done = all_done t hosted n acts in
    let ready : List Report = ordered d.node.orders in
    let outs : List ℕ = outs_of t d.entries in
    let both = done_append t hosted n acts (settles ∷ []) in
    told_at t hosted n [] acts (settles ∷ []) h
    ∙ (ap (λ (xs : List ℕ). said_lines t d.lines ++ xs) (append-nil (said_lines t ready ++ outs))
    ∙ (sym (append_assoc (said_lines t d.lines) (said_lines t ready) outs)
    ∙ ap₂ (λ (xs ys : List ℕ). xs ++ ys)
    (sym (said_append t d.lines ready) ∙ ap (said_lines t) (ap (λ (xs : List Report). d.lines ++ xs) (sym (append-nil ready)) ∙ sym both.lines))
    (ap (outs_of t) (sym (append-nil d.entries) ∙ sym both.entries))))
