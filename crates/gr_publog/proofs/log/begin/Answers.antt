-- The first lane is filled with the empty state
use Rattle.std.proofs.Common.{true, refl, ◌≡◌, ℕ, List, drop, false, Ok, Err, ap₂, ◌∙◌, subst}
use Rattle.gr_out.specs.Lane.{Lane, content}
use Rattle.gr_publog.specs.declared.record.Entry.{Entry}
use Rattle.gr_publog.specs.declared.record.Record.TheVariants.{Cut}
use Rattle.gr_publog.specs.State.{Footing, empty_state, held_by, stands_after}
use Rattle.gr_publog.specs.Filled.{body_of, filled_size}
use Rattle.gr_publog.specs.Steps.{Refills}
use Rattle.gr_publog.specs.Views.{LogView, lanes_at}
use Rattle.gr_publog.specs.declared.record.LogFault.TheVariants as fault
use Rattle.gr_publog.proofs.Settling.{settles_fault}
use Rattle.gr_publog.proofs.Kept.{begins}
use Rattle.gr_publog.proofs.Starting.{begin_err, begin_ok, aside_stands}
use Rattle.gr_publog.proofs.log.begin.Goals as goal

pub returns-in-Err-refill-clause-settles : goal.returns-in-Err-refill-clause-settles
returns-in-Err-refill-clause-settles g c = λ t.
    let f : ℕ → Lane = g.D.Disk.lane_of c.args.disk.now in
    let f' : ℕ → Lane = g.D.Disk.lane_of c.refill.new.disk in
    let late : List ℕ = c.args.late.now in
    let body : body_of (held_by (stands_after c.in-Ok.footing (Cut 0)) (drop 0 c.new-entries.result.items)) 1 ≡ body_of (empty_state late) 1 =
    ap₂ (λ (n : Footing) (es : List Entry). body_of (held_by (stands_after n (Cut 0)) es) 1) c.in-Ok.ensures c.new-entries.ensures.items in
    begin_err late c.requires.late c.shut_is.ensures c.two_are.ensures (c.reclaims.ensures late) c.args.lane f f' c.args.heads (c.requires.heads t) c.requires.first c.requires.second (c.requires.only t) (c.refill.ensures.uses.others t) c.in-Err-refill.fault c.aside_by-aside.result c.aside_by-aside.ensures c.in-Err-refill.ensures.gave_up
    (subst (λ (b : List ℕ). Refills {T = ℕ} c.aside_by-aside.result b (f c.args.lane) (f' c.args.lane) (Err c.in-Err-refill.fault)) body (c.in-Err-refill.ensures.refills t))

pub returns-in-Ok-refill-clause-settles : goal.returns-in-Ok-refill-clause-settles
returns-in-Ok-refill-clause-settles g c = λ t.
    let f : ℕ → Lane = g.D.Disk.lane_of c.args.disk.now in
    let f' : ℕ → Lane = g.D.Disk.lane_of c.refill.new.disk in
    let late : List ℕ = c.args.late.now in
    let body : body_of (held_by (stands_after c.in-Ok.footing (Cut 0)) (drop 0 c.new-entries.result.items)) 1 ≡ body_of (empty_state late) 1 =
    ap₂ (λ (n : Footing) (es : List Entry). body_of (held_by (stands_after n (Cut 0)) es) 1) c.in-Ok.ensures c.new-entries.ensures.items in
    let size : c.in-Ok-refill.size ≡ filled_size (empty_state late) = c.in-Ok-refill.ensures.size ∙ ap₂ (λ (n : Footing) (es : List Entry). filled_size (held_by (stands_after n (Cut 0)) es)) c.in-Ok.ensures c.new-entries.ensures.items in
    begin_ok late c.requires.late c.shut_is.ensures c.two_are.ensures (c.reclaims.ensures late) c.args.lane f f' c.args.heads (c.requires.heads t) c.requires.first c.requires.second (c.requires.only t) (c.refill.ensures.uses.others t) c.in-Ok-refill.size c.aside_by-aside.result c.aside_by-beside.result _ c.aside_by-aside.ensures c.aside_by-beside.ensures size
    (ap₂ (λ (n : Footing) (es : List Entry). let v : LogView = record { lane = c.args.lane; state = held_by n es; broken = false; second = false; generation = 1; size = c.in-Ok-refill.size; aside = c.aside_by-beside.result } in v) c.in-Ok.ensures c.new-entries.ensures.items)
    (subst (λ (b : List ℕ). Refills {T = ℕ} c.aside_by-aside.result b (f c.args.lane) (f' c.args.lane) (Ok c.in-Ok-refill.size)) body (c.in-Ok-refill.ensures.refills t))

pub refill-requires-clause-state : goal.refill-requires-clause-state
refill-requires-clause-state g c = rw (c.in-Ok.ensures, c.new-entries.ensures.items) (begins c.args.late.now c.requires.late)

pub refill-requires-clause-aside : goal.refill-requires-clause-aside
refill-requires-clause-aside g c = λ t.
    let f : ℕ → Lane = g.D.Disk.lane_of c.args.disk.now in
    aside_stands (λ n. content (f n)) (λ n. content (f n)) c.args.lane c.args.lane refl refl true c.args.heads.first_size c.args.heads.first c.aside_by-aside.result c.aside_by-aside.ensures (c.requires.heads t).first_size (c.requires.heads t).first

pub returns-in-Err-clause-settles : goal.returns-in-Err-clause-settles
returns-in-Err-clause-settles g c = λ t.
    let f : ℕ → Lane = g.D.Disk.lane_of c.args.disk.now in
    let sole = c.requires.only t in
    settles_fault c.args.late.now c.args.lane (lanes_at f c.args.lane) (lanes_at f c.args.lane) sole.0 sole.1 refl fault.Memory tt
