-- The other lane is filled before it is opened, and the present one is not called
use Rattle.std.proofs.Common.{◌≡◌, ℕ, suc, ◌+◌, not, List, drop, Ok, Err, nat_lt, ap, ap₂, sym, ◌∙◌, subst, arith}
use Rattle.std.specs.Prelude.{filter}
use Rattle.gr_out.specs.Lane.{Lane}
use Rattle.gr_publog.specs.declared.record.Entry.{Entry}
use Rattle.gr_publog.specs.declared.record.Record.TheVariants.{Cut}
use Rattle.gr_publog.specs.declared.steps.Aside.TheVariants.{Opened}
use Rattle.gr_publog.specs.State.{LogState, Footing, held_by, stands_after, after_record, IsState, EntriesRise}
use Rattle.gr_publog.specs.Filled.{body_of, filled_size}
use Rattle.gr_publog.specs.Steps.{Refills}
use Rattle.gr_publog.specs.Views.{LogView}
use Rattle.gr_publog.proofs.Kept.{kept, entries_rise}
use Rattle.gr_publog.proofs.Numbered.{reclaims_at, stands_other, other_stands_as, leaves_ok, may_cut_is, refills_ok_as}
use Rattle.gr_publog.proofs.Leaving.{changed, change_failed}
use Rattle.gr_publog.proofs.log.Log.reclaim.Goals as goal

pub first_past-from-requires : goal.first_past-from-requires
first_past-from-requires g c = subst (EntriesRise 0) (sym c.events.view_is) (entries_rise _ c.self.invariant.0)

pub drop_upto-requires : goal.drop_upto-requires
drop_upto-requires g c = subst (EntriesRise 0) (sym c.events.view_is) (entries_rise _ c.self.invariant.0)

pub refill-requires-clause-state : goal.refill-requires-clause-state
refill-requires-clause-state g c =
    let past = rw (← c.self.view_is) at c.requires.past in
    let upto = rw (← c.self.view_is) at c.requires.upto in
    let held : LogState = held_by c.self.inside.footing c.self.inside.events in
    let cut : Footing = stands_after c.self.inside.footing (Cut c.args.tick) in
    let left : drop c.first_past-from.result c.events.inside.entries.items ≡ filter (λ (e : Entry). nat_lt c.args.tick e.tick) c.self.inside.events =
    c.first_past-from.ensures.rest ∙ ap (λ (l : List Entry). filter (λ (e : Entry). nat_lt c.args.tick e.tick) l) c.events.view_is in
    subst (λ (es : List Entry). IsState (held_by cut es)) (sym left) (kept held (Cut c.args.tick) c.self.invariant.0 (may_cut_is held c.args.tick past upto) tt)

pub refill-requires-clause-aside : goal.refill-requires-clause-aside
refill-requires-clause-aside g c = λ t.
    let s = rw (← c.self.view_is) at c.requires.stands in
    other_stands_as _ (g.D.Disk.lane_of c.args.disk.now) c.number_of-lane.result c.number_of-lane.ensures (s t c.if-self.false)

pub refill-requires-clause-only : goal.refill-requires-clause-only
refill-requires-clause-only g c = λ t.
    let s = rw (← c.self.view_is) at c.requires.stands in
    stands_other _ (g.D.Disk.lane_of c.args.disk.now) c.number_of-lane.result c.number_of-lane.ensures (s t c.if-self.false)

pub returns-in-Err-clause-lanes : goal.returns-in-Err-clause-lanes
returns-in-Err-clause-lanes g c = rw (← c.self.view_is) (λ t.
    let s = rw (← c.self.view_is) at c.requires.stands in
    let past = rw (← c.self.view_is) at c.requires.past in
    let upto = rw (← c.self.view_is) at c.requires.upto in
    let next = rw (← c.self.view_is) at c.requires.next in
    let held : LogState = held_by c.self.inside.footing c.self.inside.events in
    let f : ℕ → Lane = g.D.Disk.lane_of c.args.disk.now in
    let f' : ℕ → Lane = g.D.Disk.lane_of c.refill.new.disk in
    let cut : Footing = stands_after c.self.inside.footing (Cut c.args.tick) in
    let left : drop c.first_past-from.result c.events.inside.entries.items ≡ filter (λ (e : Entry). nat_lt c.args.tick e.tick) c.self.inside.events =
    c.first_past-from.ensures.rest ∙ ap (λ (l : List Entry). filter (λ (e : Entry). nat_lt c.args.tick e.tick) l) c.events.view_is in
    let next_is : c.self.inside.generation + 1 ≡ suc c.self.inside.generation = omega arith in
    let body : body_of (held_by cut (drop c.first_past-from.result c.events.inside.entries.items)) (c.self.inside.generation + 1) ≡ body_of (after_record held (Cut c.args.tick)) (suc c.self.inside.generation) =
    ap₂ (λ (es : List Entry) (k : ℕ). body_of (held_by cut es) k) left next_is in
    let state = kept held (Cut c.args.tick) c.self.invariant.0 (may_cut_is held c.args.tick past upto) tt in
    reclaims_at _ c.args.tick f f' c.number_of-lane.result _ c.number_of-lane.ensures (c.refill.ensures.uses.others t) c.shut_is.ensures c.two_are.ensures c.lower_is.ensures (c.reclaims.ensures c.self.inside.footing.late) (s t c.if-self.false) c.self.invariant.2 (omega (arith, next)) state
    (subst (λ (b : List ℕ). Refills {T = ℕ} c.self.inside.aside b (f c.number_of-lane.result) (f' c.number_of-lane.result) (Err c.in-Err.fault)) body (c.in-Err.ensures.refills t)))

pub returns-clause-lanes : goal.returns-clause-lanes
returns-clause-lanes g c = rw (← c.self.view_is) (λ t.
    let s = rw (← c.self.view_is) at c.requires.stands in
    let past = rw (← c.self.view_is) at c.requires.past in
    let upto = rw (← c.self.view_is) at c.requires.upto in
    let next = rw (← c.self.view_is) at c.requires.next in
    let held : LogState = held_by c.self.inside.footing c.self.inside.events in
    let f : ℕ → Lane = g.D.Disk.lane_of c.args.disk.now in
    let f' : ℕ → Lane = g.D.Disk.lane_of c.refill.new.disk in
    let cut : Footing = stands_after c.self.inside.footing (Cut c.args.tick) in
    let left : drop c.first_past-from.result c.events.inside.entries.items ≡ filter (λ (e : Entry). nat_lt c.args.tick e.tick) c.self.inside.events =
    c.first_past-from.ensures.rest ∙ ap (λ (l : List Entry). filter (λ (e : Entry). nat_lt c.args.tick e.tick) l) c.events.view_is in
    let next_is : c.self.inside.generation + 1 ≡ suc c.self.inside.generation = omega arith in
    let body : body_of (held_by cut (drop c.first_past-from.result c.events.inside.entries.items)) (c.self.inside.generation + 1) ≡ body_of (after_record held (Cut c.args.tick)) (suc c.self.inside.generation) =
    ap₂ (λ (es : List Entry) (k : ℕ). body_of (held_by cut es) k) left next_is in
    let state = kept held (Cut c.args.tick) c.self.invariant.0 (may_cut_is held c.args.tick past upto) tt in
    reclaims_at _ c.args.tick f f' c.number_of-lane.result _ c.number_of-lane.ensures (c.refill.ensures.uses.others t) c.shut_is.ensures c.two_are.ensures c.lower_is.ensures (c.reclaims.ensures c.self.inside.footing.late) (s t c.if-self.false) c.self.invariant.2 (omega (arith, next)) state
    (subst (λ (b : List ℕ). Refills {T = ℕ} c.self.inside.aside b (f c.number_of-lane.result) (f' c.number_of-lane.result) (Ok (c.self.inside.generation + 1))) body (refills_ok_as _ _ _ _ c.in-Ok.size (c.self.inside.generation + 1) (c.in-Ok.ensures.refills t))))

pub returns-clause-log : goal.returns-clause-log
returns-clause-log g c = rw (← c.self.view_is)
    (let cut : Footing = stands_after c.self.inside.footing (Cut c.args.tick) in
    let held : LogState = held_by c.self.inside.footing c.self.inside.events in
    let items : c.drop_upto.new.entries.items ≡ filter (λ (e : Entry). nat_lt c.args.tick e.tick) c.self.inside.events =
    c.drop_upto.ensures ∙ ap (λ (l : List Entry). filter (λ (e : Entry). nat_lt c.args.tick e.tick) l) c.events.view_is in
    let left : drop c.first_past-from.result c.events.inside.entries.items ≡ filter (λ (e : Entry). nat_lt c.args.tick e.tick) c.self.inside.events =
    c.first_past-from.ensures.rest ∙ ap (λ (l : List Entry). filter (λ (e : Entry). nat_lt c.args.tick e.tick) l) c.events.view_is in
    let state : held_by c.cut_at.new.self c.drop_upto.new.entries.items ≡ after_record held (Cut c.args.tick) = ap₂ held_by c.cut_at.ensures items in
    let size : c.in-Ok.size ≡ filled_size (after_record held (Cut c.args.tick)) = c.in-Ok.ensures.size ∙ ap (λ (es : List Entry). filled_size (held_by cut es)) left in
    let next_is : c.self.inside.generation + 1 ≡ suc c.self.inside.generation = omega arith in
    leaves_ok _ _ _ _ _
    (ap₂ (λ (s : LogState) (n : ℕ). let v : LogView = record { lane = c.self.inside.lane; state = s; broken = c.self.inside.broken; second = not c.self.inside.second; generation = c.self.inside.generation + 1; size = n; aside = Opened } in v) state size
    ∙ ap (λ (k : ℕ). let v : LogView = record { lane = c.self.inside.lane; state = after_record held (Cut c.args.tick); broken = c.self.inside.broken; second = not c.self.inside.second; generation = k; size = filled_size (after_record held (Cut c.args.tick)); aside = Opened } in v) next_is))

pub returns-in-Err-clause-disk : goal.returns-in-Err-clause-disk
returns-in-Err-clause-disk g c = rw (← c.self.view_is)
    (change_failed {T = ℕ} c.number_of-lane.result (not c.self.inside.second) c.in-Err.fault c.number_of-lane.ensures c.in-Err.ensures.gave_up c.in-Err.ensures.uses)

pub returns-clause-disk : goal.returns-clause-disk
returns-clause-disk g c = rw (← c.self.view_is)
    (changed {T = ℕ} c.number_of-lane.result (not c.self.inside.second) c.in-Ok.size (c.self.inside.generation + 1) c.number_of-lane.ensures c.in-Ok.ensures.uses)

pub invariant_of-self-2 : goal.invariant_of-self-2
invariant_of-self-2 g c =
    let past = rw (← c.self.view_is) at c.requires.past in
    let upto = rw (← c.self.view_is) at c.requires.upto in
    let next = rw (← c.self.view_is) at c.requires.next in
    let held : LogState = held_by c.self.inside.footing c.self.inside.events in
    let cut : Footing = stands_after c.self.inside.footing (Cut c.args.tick) in
    let items : c.drop_upto.new.entries.items ≡ filter (λ (e : Entry). nat_lt c.args.tick e.tick) c.self.inside.events =
    c.drop_upto.ensures ∙ ap (λ (l : List Entry). filter (λ (e : Entry). nat_lt c.args.tick e.tick) l) c.events.view_is in
    let state : held_by c.cut_at.new.self c.drop_upto.new.entries.items ≡ after_record held (Cut c.args.tick) = ap₂ held_by c.cut_at.ensures items in (
      subst IsState (sym state) (kept held (Cut c.args.tick) c.self.invariant.0 (may_cut_is held c.args.tick past upto) tt),
      c.self.invariant.1,
      omega arith,
      omega (arith, next),
      omega (arith, c.in-Ok.ensures.size),
    )
