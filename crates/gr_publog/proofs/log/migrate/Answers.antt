-- What the first lane holds is written into the second one
use Rattle.std.proofs.Common.{◌≡◌, ℕ, suc, ◌+◌, false, List, drop, Ok, Err, refl, ap, ap₂, ◌∙◌, subst, arith}
use Rattle.gr_out.specs.Lane.{Lane, content}
use Rattle.gr_publog.specs.declared.record.Entry.{Entry}
use Rattle.gr_publog.specs.declared.head.Standing.TheVariants.{Old}
use Rattle.gr_publog.specs.declared.head.Present.TheVariants.{First}
use Rattle.gr_publog.specs.declared.record.State.{State}
use Rattle.gr_publog.specs.declared.record.Record.TheVariants.{Cut}
use Rattle.gr_publog.specs.State.{LogState, held_by, stands_after}
use Rattle.gr_publog.specs.Filled.{body_of, filled_size}
use Rattle.gr_publog.specs.Steps.{Refills}
use Rattle.gr_publog.proofs.Starting.{old_present, settles_text, migrate_err, migrate_ok, aside_stands}
use Rattle.gr_publog.proofs.log.migrate.Goals as goal

pub returns-in-Err-clause-settles : goal.returns-in-Err-clause-settles
returns-in-Err-clause-settles g c = λ t.
    let f : ℕ → Lane = g.D.Disk.lane_of c.args.disk.now in
    settles_text c.args.late.now c.args.lane f (g.D.Disk.lane_of c.held_in.new.disk) (First Old) Old false c.in-Err.fault (c.in-Err.ensures.uses.lanes t) (c.requires.only t)
    (old_present c.two_are.ensures c.args.heads (content (f c.args.lane)) (content (f (suc c.args.lane))) (c.requires.heads t) c.requires.first c.requires.second) (c.in-Err.ensures.gives t)

pub returns-in-Err-refill-clause-settles : goal.returns-in-Err-refill-clause-settles
returns-in-Err-refill-clause-settles g c = λ t.
    let f : ℕ → Lane = g.D.Disk.lane_of c.args.disk.now in
    let f1 : ℕ → Lane = g.D.Disk.lane_of c.held_in.new.disk in
    let f' : ℕ → Lane = g.D.Disk.lane_of c.refill.new.disk in
    let k : ℕ = c.args.lane + 1 in
    let next_is : k ≡ suc c.args.lane = omega arith in
    let s : LogState = held_by c.in-Ok.held.footing c.in-Ok.held.events in
    let cut = c.state.result.now.cut in
    let body : body_of (held_by (stands_after c.in-Ok.held.footing (Cut cut)) (drop 0 c.parts.result.now.items)) 1 ≡ body_of s 1 =
    ap₂ (λ (n : ℕ) (es : List Entry). body_of (held_by (stands_after c.in-Ok.held.footing (Cut n)) es) 1) (ap (λ (n : State). n.cut) c.state.ensures) c.parts.ensures in
    migrate_err c.args.late.now c.requires.late c.shut_is.ensures c.two_are.ensures (c.reclaims.ensures c.args.late.now) c.args.lane k next_is f f' c.args.heads (c.requires.heads t) c.requires.first c.requires.second (c.requires.only t) (λ n ne. c.refill.ensures.uses.others t n ne ∙ c.in-Ok.ensures.uses.lanes t n)
    s c.in-Ok.held.gate (c.in-Ok.ensures.bytes t) (c.in-Ok.ensures.gives t) c.in-Err-refill.fault c.aside_by-aside.result c.aside_by-aside.ensures c.in-Err-refill.ensures.gave_up
    (subst (λ (l : Lane). Refills {T = ℕ} c.aside_by-aside.result (body_of s 1) l (f' k) (Err c.in-Err-refill.fault)) (c.in-Ok.ensures.uses.lanes t k)
    (subst (λ (b : List ℕ). Refills {T = ℕ} c.aside_by-aside.result b (f1 k) (f' k) (Err c.in-Err-refill.fault)) body (c.in-Err-refill.ensures.refills t)))

pub returns-in-Ok-refill-clause-settles : goal.returns-in-Ok-refill-clause-settles
returns-in-Ok-refill-clause-settles g c = λ t.
    let f : ℕ → Lane = g.D.Disk.lane_of c.args.disk.now in
    let f1 : ℕ → Lane = g.D.Disk.lane_of c.held_in.new.disk in
    let f' : ℕ → Lane = g.D.Disk.lane_of c.refill.new.disk in
    let k : ℕ = c.args.lane + 1 in
    let next_is : k ≡ suc c.args.lane = omega arith in
    let s : LogState = held_by c.in-Ok.held.footing c.in-Ok.held.events in
    let cut = c.state.result.now.cut in
    let body : body_of (held_by (stands_after c.in-Ok.held.footing (Cut cut)) (drop 0 c.parts.result.now.items)) 1 ≡ body_of s 1 =
    ap₂ (λ (n : ℕ) (es : List Entry). body_of (held_by (stands_after c.in-Ok.held.footing (Cut n)) es) 1) (ap (λ (n : State). n.cut) c.state.ensures) c.parts.ensures in
    let size : c.in-Ok-refill.size ≡ filled_size s = c.in-Ok-refill.ensures.size ∙ ap₂ (λ (n : ℕ) (es : List Entry). filled_size (held_by (stands_after c.in-Ok.held.footing (Cut n)) es)) (ap (λ (n : State). n.cut) c.state.ensures) c.parts.ensures in
    migrate_ok c.args.late.now c.requires.late c.shut_is.ensures c.two_are.ensures (c.reclaims.ensures c.args.late.now) c.args.lane k next_is f f' c.args.heads (c.requires.heads t) c.requires.first c.requires.second (c.requires.only t) (λ n ne. c.refill.ensures.uses.others t n ne ∙ c.in-Ok.ensures.uses.lanes t n)
    s c.in-Ok.held.gate (c.in-Ok.ensures.bytes t) (c.in-Ok.ensures.gives t) c.in-Ok-refill.size c.aside_by-aside.result _ c.aside_by-aside.ensures size refl
    (subst (λ (l : Lane). Refills {T = ℕ} c.aside_by-aside.result (body_of s 1) l (f' k) (Ok c.in-Ok-refill.size)) (c.in-Ok.ensures.uses.lanes t k)
    (subst (λ (b : List ℕ). Refills {T = ℕ} c.aside_by-aside.result b (f1 k) (f' k) (Ok c.in-Ok-refill.size)) body (c.in-Ok-refill.ensures.refills t)))

pub refill-requires-clause-aside : goal.refill-requires-clause-aside
refill-requires-clause-aside g c = λ t.
    let f : ℕ → Lane = g.D.Disk.lane_of c.args.disk.now in
    let k : ℕ = c.args.lane + 1 in
    let next_is : suc c.args.lane ≡ k = omega arith in
    aside_stands (λ n. content (f n)) (λ n. content (g.D.Disk.lane_of c.held_in.new.disk n)) (suc c.args.lane) k next_is (ap content (c.in-Ok.ensures.uses.lanes t k)) false c.args.heads.second_size c.args.heads.second c.aside_by-aside.result c.aside_by-aside.ensures (c.requires.heads t).second_size (c.requires.heads t).second

pub refill-requires-clause-state : goal.refill-requires-clause-state
refill-requires-clause-state g c = rw (c.state.ensures, c.parts.ensures) c.in-Ok.ensures.held.state
