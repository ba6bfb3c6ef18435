-- The record stands behind a closed gate before the gate is opened
use Rattle.std.proofs.Common.{◌≡◌, ℕ, ◌+◌, ◌-◌, Bool, List, Some, refl, ap, ap₂, sym, ◌∙◌, subst, arith}
use Rattle.gr_publog.specs.declared.record.Entry.{Entry}
use Rattle.gr_publog.specs.State.{LogState, held_by, live_after, after_record, IsState, EntriesRise}
use Rattle.gr_publog.specs.Text.{record_size}
use Rattle.gr_publog.specs.Views.{LogView}
use Rattle.gr_publog.proofs.Kept.{kept, entries_rise}
use Rattle.gr_publog.proofs.Calling.{appends_refused}
use Rattle.gr_publog.proofs.Numbered.{appends_at, gate_within, stands_present, extends_ok_as, extends_err_as, leaves_fault, leaves_ok}
use Rattle.gr_publog.proofs.Leaving.{changed, change_failed}
use Rattle.gr_publog.proofs.log.Log.append.Goals as goal

pub returns-in-Err-clause-lanes : goal.returns-in-Err-clause-lanes
returns-in-Err-clause-lanes g c = λ t. appends_refused c.args.self.now (Some c.args.entry.now) _ _ refl c.shut_is.ensures c.two_are.ensures c.lower_is.ensures (c.requires.stands t)

pub returns-in-Err-joins_with-clause-lanes : goal.returns-in-Err-joins_with-clause-lanes
returns-in-Err-joins_with-clause-lanes g c = λ t. appends_refused c.args.self.now (Some c.args.entry.now) _ _ refl c.shut_is.ensures c.two_are.ensures c.lower_is.ensures (c.requires.stands t)

pub append_at-requires-clause-within : goal.append_at-requires-clause-within
append_at-requires-clause-within g c = λ t.
    let s = rw (← c.self.view_is) at c.requires.stands in
    gate_within _ (g.D.Disk.lane_of c.args.disk.now) c.number_of-lane.result (c.self.inside.size - 1) c.number_of-lane.ensures (omega (arith, c.self.invariant.4)) (s t c.if-self.false)

pub append_at-requires-clause-only : goal.append_at-requires-clause-only
append_at-requires-clause-only g c = λ t.
    let s = rw (← c.self.view_is) at c.requires.stands in
    stands_present _ (g.D.Disk.lane_of c.args.disk.now) c.number_of-lane.result c.number_of-lane.ensures (s t c.if-self.false)

pub returns-in-Err-append_at-clause-lanes : goal.returns-in-Err-append_at-clause-lanes
returns-in-Err-append_at-clause-lanes g c = rw (← c.self.view_is) (λ t.
    let s = rw (← c.self.view_is) at c.requires.stands in
    let f = rw (← c.self.view_is) at c.requires.follows in
    appends_at _ c.args.entry.now (g.D.Disk.lane_of c.args.disk.now) (g.D.Disk.lane_of c.append_at.new.disk) c.number_of-lane.result (c.self.inside.size - 1) _ c.number_of-lane.ensures (c.append_at.ensures.uses.others t)
    c.shut_is.ensures c.two_are.ensures c.lower_is.ensures (s t c.if-self.false) (omega (arith, c.self.invariant.4)) f c.is_sound.ensures (extends_err_as _ _ _ _ _ (c.in-Err-append_at.ensures.extends t)))

pub returns-in-Err-append_at-clause-log : goal.returns-in-Err-append_at-clause-log
returns-in-Err-append_at-clause-log g c = rw (← c.self.view_is)
    (leaves_fault ℕ c.in-Err-append_at.fault _ _ _ c.in-Err-append_at.ensures.gave_up c.if-self.false
    (ap₂ (λ (es : List Entry) (b : Bool). let v : LogView = record { lane = c.self.inside.lane; state = held_by c.self.inside.footing es; broken = b; second = c.self.inside.second; generation = c.self.inside.generation; size = c.self.inside.size; aside = c.self.inside.aside } in v)
    (c.reserve.ensures.items ∙ c.events.view_is) c.is_disk-self-inside.ensures))

pub returns-clause-lanes : goal.returns-clause-lanes
returns-clause-lanes g c = rw (← c.self.view_is) (λ t.
    let s = rw (← c.self.view_is) at c.requires.stands in
    let f = rw (← c.self.view_is) at c.requires.follows in
    appends_at _ c.args.entry.now (g.D.Disk.lane_of c.args.disk.now) (g.D.Disk.lane_of c.append_at.new.disk) c.number_of-lane.result (c.self.inside.size - 1) _ c.number_of-lane.ensures (c.append_at.ensures.uses.others t)
    c.shut_is.ensures c.two_are.ensures c.lower_is.ensures (s t c.if-self.false) (omega (arith, c.self.invariant.4)) f c.is_sound.ensures (extends_ok_as _ _ _ _ _ _ (c.in-Ok-append_at.ensures.extends t)))

pub returns-clause-log : goal.returns-clause-log
returns-clause-log g c = rw (← c.self.view_is)
    (let r = c.args.entry.now in
    let items : c.note_record.new.entries.items ≡ live_after c.self.inside.events r = c.note_record.ensures ∙ ap (λ (l : List Entry). live_after l r) (c.reserve.ensures.items ∙ c.events.view_is) in
    let state : held_by c.note.new.self c.note_record.new.entries.items ≡ after_record (held_by c.self.inside.footing c.self.inside.events) r = ap₂ held_by c.note.ensures items in
    let size : c.in-Ok-append_at.size ≡ c.self.inside.size + 1 + record_size r = omega (arith, c.in-Ok-append_at.ensures.size, c.self.invariant.4) in
    leaves_ok _ _ _ _ _
    (ap₂ (λ (s : LogState) (n : ℕ). let v : LogView = record { lane = c.self.inside.lane; state = s; broken = c.self.inside.broken; second = c.self.inside.second; generation = c.self.inside.generation; size = n; aside = c.self.inside.aside } in v) state size))

pub returns-in-Err-append_at-clause-disk : goal.returns-in-Err-append_at-clause-disk
returns-in-Err-append_at-clause-disk g c = rw (← c.self.view_is)
    (change_failed {T = ℕ} c.number_of-lane.result c.self.inside.second c.in-Err-append_at.fault c.number_of-lane.ensures c.in-Err-append_at.ensures.gave_up c.in-Err-append_at.ensures.uses)

pub returns-clause-disk : goal.returns-clause-disk
returns-clause-disk g c = rw (← c.self.view_is)
    (changed {T = ℕ} c.number_of-lane.result c.self.inside.second c.in-Ok-append_at.size tt c.number_of-lane.ensures c.in-Ok-append_at.ensures.uses)

pub note_record-requires-clause-rise : goal.note_record-requires-clause-rise
note_record-requires-clause-rise g c = subst (EntriesRise 0) (sym (c.reserve.ensures.items ∙ c.events.view_is)) (entries_rise _ c.self.invariant.0)

pub invariant_of-self-2 : goal.invariant_of-self-2
invariant_of-self-2 g c =
    let f = rw (← c.self.view_is) at c.requires.follows in
    let r = c.args.entry.now in
    let items : c.note_record.new.entries.items ≡ live_after c.self.inside.events r = c.note_record.ensures ∙ ap (λ (l : List Entry). live_after l r) (c.reserve.ensures.items ∙ c.events.view_is) in
    let state : held_by c.note.new.self c.note_record.new.entries.items ≡ after_record (held_by c.self.inside.footing c.self.inside.events) r = ap₂ held_by c.note.ensures items in (
      subst IsState (sym state) (kept (held_by c.self.inside.footing c.self.inside.events) r c.self.invariant.0 f c.is_sound.ensures),
      c.self.invariant.1,
      c.self.invariant.2,
      c.self.invariant.3,
      omega (arith, c.in-Ok-append_at.ensures.size, c.self.invariant.4),
    )
