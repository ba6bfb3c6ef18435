-- The heads tell which lane is present
use Rattle.std.proofs.Common.{ℕ, suc, true, false, Ok, ap, sym, ◌∙◌, subst}
use Rattle.gr_out.specs.Lane.{Lane, content}
use Rattle.gr_publog.specs.declared.head.Present.{Present}
use Rattle.gr_publog.specs.declared.head.Present.TheVariants.{First, Second}
use Rattle.gr_publog.specs.declared.head.Standing.{Standing}
use Rattle.gr_publog.specs.declared.steps.Aside.{Aside}
use Rattle.gr_publog.specs.Views.{IsAside}
use Rattle.gr_publog.proofs.Choosing.{first_new, second_new, second_not_old}
use Rattle.gr_publog.proofs.Settling.{chosen_neither}
use Rattle.gr_publog.proofs.Starting.{settles_heads, fails_present, settles_from, heads_from, sole_from}
use Rattle.gr_publog.proofs.log.open_synced.Goals as goal

pub returns-in-Err-clause-settles : goal.returns-in-Err-clause-settles
returns-in-Err-clause-settles g c = λ t.
    settles_heads c.args.late.now c.args.lane (g.D.Disk.lane_of c.args.disk.now) (g.D.Disk.lane_of c.heads_of.new.disk) c.in-Err.fault (c.in-Err.ensures.lanes t) (c.requires.only t) (c.in-Err.ensures.gives t)

pub returns-in-Err-chosen-clause-settles : goal.returns-in-Err-chosen-clause-settles
returns-in-Err-chosen-clause-settles g c = λ t.
    let f : ℕ → Lane = g.D.Disk.lane_of c.args.disk.now in
    settles_heads c.args.late.now c.args.lane f (g.D.Disk.lane_of c.heads_of.new.disk) c.in-Err-chosen.fault (c.in-Ok.ensures.lanes t) (c.requires.only t)
    (fails_present c.two_are.ensures c.in-Ok.heads (content (f c.args.lane)) (content (f (suc c.args.lane))) c.in-Err-chosen.fault (c.in-Ok.ensures.gives t) c.in-Err-chosen.ensures)

pub begin-requires-clause-heads : goal.begin-requires-clause-heads
begin-requires-clause-heads g c = λ t. heads_from c.args.lane (g.D.Disk.lane_of c.args.disk.now) (g.D.Disk.lane_of c.heads_of.new.disk) c.in-Ok.heads (c.in-Ok.ensures.lanes t) (c.in-Ok.ensures.gives t)

pub begin-requires-clause-first : goal.begin-requires-clause-first
begin-requires-clause-first g c = (chosen_neither c.in-Ok.heads.first c.in-Ok.heads.second (c.in-Ok-chosen.ensures ∙ ap (λ (p : Present). Ok p) c.in-Neither.is)).0

pub begin-requires-clause-second : goal.begin-requires-clause-second
begin-requires-clause-second g c = (chosen_neither c.in-Ok.heads.first c.in-Ok.heads.second (c.in-Ok-chosen.ensures ∙ ap (λ (p : Present). Ok p) c.in-Neither.is)).1

pub begin-requires-clause-only : goal.begin-requires-clause-only
begin-requires-clause-only g c = λ t. sole_from c.args.lane (g.D.Disk.lane_of c.args.disk.now) (g.D.Disk.lane_of c.heads_of.new.disk) (c.in-Ok.ensures.lanes t) (c.requires.only t)

pub returns-in-Neither-clause-settles : goal.returns-in-Neither-clause-settles
returns-in-Neither-clause-settles g c = λ t.
    settles_from c.args.late.now c.args.lane (g.D.Disk.lane_of c.args.disk.now) (g.D.Disk.lane_of c.heads_of.new.disk) (g.D.Disk.lane_of c.begin.new.disk) c.begin.result (c.in-Ok.ensures.lanes t) (c.begin.ensures.settles t)

pub found-requires-clause-aside : goal.found-requires-clause-aside
found-requires-clause-aside g c = λ t.
    let f : ℕ → Lane = g.D.Disk.lane_of c.args.disk.now in
    let f1 : ℕ → Lane = g.D.Disk.lane_of c.heads_of.new.disk in
    let s = first_new c.two_are.ensures c.in-Ok.heads c.in-New.generation (content (f1 c.args.lane)) (content (f1 (suc c.args.lane))) (heads_from c.args.lane f f1 c.in-Ok.heads (c.in-Ok.ensures.lanes t) (c.in-Ok.ensures.gives t))
    (c.in-Ok-chosen.ensures ∙ ap (λ (p : Present). Ok p) (c.in-First.is ∙ ap (λ (x : Standing). First x) c.in-New.is)) in
    c.aside_by-aside.ensures ∙ s.aside

pub found-requires-clause-beside : goal.found-requires-clause-beside
found-requires-clause-beside g c = λ t.
    let f : ℕ → Lane = g.D.Disk.lane_of c.args.disk.now in
    let f1 : ℕ → Lane = g.D.Disk.lane_of c.heads_of.new.disk in
    let s = first_new c.two_are.ensures c.in-Ok.heads c.in-New.generation (content (f1 c.args.lane)) (content (f1 (suc c.args.lane))) (heads_from c.args.lane f f1 c.in-Ok.heads (c.in-Ok.ensures.lanes t) (c.in-Ok.ensures.gives t))
    (c.in-Ok-chosen.ensures ∙ ap (λ (p : Present). Ok p) (c.in-First.is ∙ ap (λ (x : Standing). First x) c.in-New.is)) in
    subst (λ (a : Aside). IsAside a false c.in-New.generation (content (f1 (suc c.args.lane)))) (sym c.aside_by-aside.ensures) s.beside_it

pub found-requires-in-New-other-clause-aside : goal.found-requires-in-New-other-clause-aside
found-requires-in-New-other-clause-aside g c = λ t.
    let f : ℕ → Lane = g.D.Disk.lane_of c.args.disk.now in
    let f1 : ℕ → Lane = g.D.Disk.lane_of c.heads_of.new.disk in
    let s = second_new c.two_are.ensures c.in-Ok.heads c.in-New-other.generation (content (f1 c.args.lane)) (content (f1 (suc c.args.lane))) (heads_from c.args.lane f f1 c.in-Ok.heads (c.in-Ok.ensures.lanes t) (c.in-Ok.ensures.gives t))
    (c.in-Ok-chosen.ensures ∙ ap (λ (p : Present). Ok p) (c.in-Second.is ∙ ap (λ (x : Standing). Second x) c.in-New-other.is)) in
    c.aside_by-beside.ensures ∙ s.aside

pub found-requires-in-New-other-clause-beside : goal.found-requires-in-New-other-clause-beside
found-requires-in-New-other-clause-beside g c = λ t.
    let f : ℕ → Lane = g.D.Disk.lane_of c.args.disk.now in
    let f1 : ℕ → Lane = g.D.Disk.lane_of c.heads_of.new.disk in
    let s = second_new c.two_are.ensures c.in-Ok.heads c.in-New-other.generation (content (f1 c.args.lane)) (content (f1 (suc c.args.lane))) (heads_from c.args.lane f f1 c.in-Ok.heads (c.in-Ok.ensures.lanes t) (c.in-Ok.ensures.gives t))
    (c.in-Ok-chosen.ensures ∙ ap (λ (p : Present). Ok p) (c.in-Second.is ∙ ap (λ (x : Standing). Second x) c.in-New-other.is)) in
    subst (λ (a : Aside). IsAside a true c.in-New-other.generation (content (f1 c.args.lane))) (sym c.aside_by-beside.ensures) s.beside_it

pub returns-in-Old-other-clause-settles : goal.returns-in-Old-other-clause-settles
returns-in-Old-other-clause-settles g c = λ t.
    let f : ℕ → Lane = g.D.Disk.lane_of c.args.disk.now in
    absurd (second_not_old c.in-Ok.heads (content (f c.args.lane)) (content (f (suc c.args.lane))) (c.in-Ok.ensures.gives t) (c.in-Ok-chosen.ensures ∙ ap (λ (p : Present). Ok p) (c.in-Second.is ∙ ap (λ (x : Standing). Second x) c.in-Old-other.is)))
