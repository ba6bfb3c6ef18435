-- What was read so far, with what the rest reads as, is what all reads as
use Rattle.std.proofs.Common.{◌≡◌, ◌≢◌, ◌<◌, ◌-◌, ℕ, List, [], ◌∷◌, length, take, drop, get_or, refl, ap, sym, subst, ◌∙◌, arith, rules, length-drop}
use Rattle.std.proofs.lemmas.List.{nil_from_length, take_rest}
use Rattle.gr_publog.specs.declared.record.Entry.{Entry}
use Rattle.gr_publog.specs.State.{Footing, held_by, live_after, EntriesRise}
use Rattle.gr_publog.proofs.Kept.{entries_rise}
use Rattle.gr_publog.proofs.Told.{record_told}
use Rattle.gr_publog.proofs.Walking.{starts, reads_on, reads_end, reads_out, reads_fault, ends_at, first_is}
use Rattle.gr_publog.proofs.read.records_in.Goals as goal

pub gates-init : goal.gates-init
gates-init c = record {
  within = c.requires.within;
  late = refl;
  reading = rw c.new-entries.ensures.items (starts c.args.total (held_by c.args.begun []) c.args.bytes.now c.requires.within c.requires.state);
}

pub returns-then-is_empty-clause-gives : goal.returns-then-is_empty-clause-gives
returns-then-is_empty-clause-gives c =
    let none : length c.gates.rest.now ≡ 0 = search rules in
    reads_out _ _ c.gates.rest.now _ c.gates.invariant.reading (nil_from_length c.gates.rest.now none)

pub returns-then-rest-ne1-clause-gives : goal.returns-then-rest-ne1-clause-gives
returns-then-rest-ne1-clause-gives c =
    let rest = c.gates.rest.now in
    let some : 0 < length rest = search rules in
    let shut : get_or rest 0 0 ≢ 1 = search rules in
    ends_at _ _ _ rest _ (reads_end _ _ (get_or rest 0 0) rest (drop 1 rest) _ c.gates.invariant.reading (first_is rest (get_or rest 0 0) some refl) shut) (search rules)

pub joins_with-requires : goal.joins_with-requires
joins_with-requires c =
    let told = record_told _ _ _ _ c.are_bytes.ensures c.in-Ok.ensures.gives in told.may

pub note-requires-clause-follows : goal.note-requires-clause-follows
note-requires-clause-follows c =
    let told = record_told _ _ _ _ c.are_bytes.ensures c.in-Ok.ensures.gives in told.may

pub note_record-requires-clause-rise : goal.note_record-requires-clause-rise
note_record-requires-clause-rise c = subst (EntriesRise 0) (sym c.in_ok-reserve-in-Ok.ensures.items) (entries_rise _ c.gates.invariant.reading.state)

pub gates-preserved : goal.gates-preserved
gates-preserved c =
    let rest = c.gates.rest.now in
    let some : 0 < length rest = search rules in
    let opened : get_or rest 0 0 ≡ 1 = search rules in
    let behind = take (length rest - 1) (drop 1 rest) in
    let is : rest ≡ 1 ∷ behind = first_is rest 1 some opened ∙ ap (λ (l : List ℕ). 1 ∷ l) (sym (take_rest rest 1)) in
    record {
      within = omega (arith, c.in-Ok.ensures.within, c.gates.invariant.within, length-drop 1 rest);
      late = ap (λ (f : Footing). f.late) c.note.ensures ∙ c.gates.invariant.late;
      reading = reads_on _ _ _ c.gates.entries.items _ c.in-Ok.entry rest behind c.in-Ok.left.now _ c.gates.invariant.reading is c.are_bytes.ensures c.in-Ok.ensures.gives c.in-Ok.ensures.within c.note.ensures
          (c.note_record.ensures ∙ ap (λ (l : List Entry). live_after l c.in-Ok.entry) c.in_ok-reserve-in-Ok.ensures.items);
    }

pub returns-in-Err-clause-gives : goal.returns-in-Err-clause-gives
returns-in-Err-clause-gives c =
    let rest = c.gates.rest.now in
    let some : 0 < length rest = search rules in
    let opened : get_or rest 0 0 ≡ 1 = search rules in
    let behind = take (length rest - 1) (drop 1 rest) in
    let is : rest ≡ 1 ∷ behind = first_is rest 1 some opened ∙ ap (λ (l : List ℕ). 1 ∷ l) (sym (take_rest rest 1)) in
    reads_fault _ _ rest behind _ c.in-Err.fault c.gates.invariant.reading is c.in-Err.ensures.gives

pub returns-then-rest-ne1-clause-state : goal.returns-then-rest-ne1-clause-state
returns-then-rest-ne1-clause-state c = c.gates.invariant.reading.state
