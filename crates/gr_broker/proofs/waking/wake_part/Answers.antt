-- Where the publisher is elsewhere there is no log, and the disk is not called
use Rattle.std.proofs.Common.{◌≡◌, false, None, Ok, Err, sym, ap, ap₂, ◌∙◌}
use Rattle.gr_publog.specs.declared.record.LogFault.TheVariants as fault
use Rattle.gr_model.specs.Net.{is_host}
use Rattle.gr_model.specs.NetOf.{net_of}
use Rattle.gr_broker.specs.Parts.{part_of, part_with}
use Rattle.gr_broker.proofs.Woken.{no_log, no_some, below_told, below_ok, below_err, below_log, below_reopen}
use Rattle.gr_broker.proofs.waking.wake_part.Goals as goal

pub returns-in-Ok-clause-told : goal.returns-in-Ok-clause-told
returns-in-Ok-clause-told g c =
    let s = c.args.site.now in
    let below : is_host (net_of s.topo.now) s.publisher s.broker ≡ false = sym (ap (λ x. x.host) c.requires.site.branch) ∙ c.if-site.false in
    below_told s.topo.now s.publisher s.broker c.args.now (part_of c.args.part.now) below c.in-Ok.told c.in-Ok.ensures.told

pub returns-in-Ok-clause-leaves : goal.returns-in-Ok-clause-leaves
returns-in-Ok-clause-leaves g c =
    let s = c.args.site.now in
    let below : is_host (net_of s.topo.now) s.publisher s.broker ≡ false = sym (ap (λ x. x.host) c.requires.site.branch) ∙ c.if-site.false in
    let none : c.args.part.now.log ≡ None = no_log c.args.part.now.log (c.requires.hosted ∙ below) in
    below_ok s.topo.now s.publisher s.broker c.args.now (part_of c.args.part.now) below (part_of c.wake_below.new.held) c.in-Ok.told none c.wake_below.ensures.part.elsewhere c.in-Ok.ensures.view

pub returns-in-Ok-clause-log : goal.returns-in-Ok-clause-log
returns-in-Ok-clause-log g c =
    let s = c.args.site.now in
    let below : is_host (net_of s.topo.now) s.publisher s.broker ≡ false = sym (ap (λ x. x.host) c.requires.site.branch) ∙ c.if-site.false in
    below_log s.topo.now s.publisher s.broker c.args.now (part_of c.args.part.now) below c.wake_below.new.held.log c.wake_below.ensures.part.elsewhere

pub returns-in-Ok-clause-lane : goal.returns-in-Ok-clause-lane
returns-in-Ok-clause-lane g c = λ tells l e.
    let s = c.args.site.now in
    let below : is_host (net_of s.topo.now) s.publisher s.broker ≡ false = sym (ap (λ x. x.host) c.requires.site.branch) ∙ c.if-site.false in
    let none : c.args.part.now.log ≡ None = no_log c.args.part.now.log (c.requires.hosted ∙ below) in
    absurd (no_some none e)

pub returns-in-Ok-clause-joined : goal.returns-in-Ok-clause-joined
returns-in-Ok-clause-joined g c = λ l e.
    let s = c.args.site.now in
    let below : is_host (net_of s.topo.now) s.publisher s.broker ≡ false = sym (ap (λ x. x.host) c.requires.site.branch) ∙ c.if-site.false in
    let none : c.args.part.now.log ≡ None = no_log c.args.part.now.log (c.requires.hosted ∙ below) in
    absurd (no_some none (sym c.wake_below.ensures.part.elsewhere ∙ e))

pub returns-in-Ok-clause-reopen : goal.returns-in-Ok-clause-reopen
returns-in-Ok-clause-reopen g c =
    let s = c.args.site.now in
    let below : is_host (net_of s.topo.now) s.publisher s.broker ≡ false = sym (ap (λ x. x.host) c.requires.site.branch) ∙ c.if-site.false in
    let none : c.args.part.now.log ≡ None = no_log c.args.part.now.log (c.requires.hosted ∙ below) in
    below_reopen s.topo.now s.publisher s.broker c.args.now (part_of c.args.part.now) below (Ok c.in-Ok.told) none (λ h. cc h)

pub returns-in-Err-clause-leaves : goal.returns-in-Err-clause-leaves
returns-in-Err-clause-leaves g c =
    let s = c.args.site.now in
    let below : is_host (net_of s.topo.now) s.publisher s.broker ≡ false = sym (ap (λ x. x.host) c.requires.site.branch) ∙ c.if-site.false in
    below_err s.topo.now s.publisher s.broker c.args.now (part_of c.args.part.now) below (part_of c.wake_below.new.held) (ap₂ part_with c.in-Err.ensures.part.err c.wake_below.ensures.part.elsewhere)

pub returns-in-Err-clause-lane : goal.returns-in-Err-clause-lane
returns-in-Err-clause-lane g c = λ tells l e.
    let s = c.args.site.now in
    let below : is_host (net_of s.topo.now) s.publisher s.broker ≡ false = sym (ap (λ x. x.host) c.requires.site.branch) ∙ c.if-site.false in
    let none : c.args.part.now.log ≡ None = no_log c.args.part.now.log (c.requires.hosted ∙ below) in
    absurd (no_some none e)

pub returns-in-Err-clause-joined : goal.returns-in-Err-clause-joined
returns-in-Err-clause-joined g c = λ l e.
    let s = c.args.site.now in
    let below : is_host (net_of s.topo.now) s.publisher s.broker ≡ false = sym (ap (λ x. x.host) c.requires.site.branch) ∙ c.if-site.false in
    let none : c.args.part.now.log ≡ None = no_log c.args.part.now.log (c.requires.hosted ∙ below) in
    absurd (no_some none (sym c.wake_below.ensures.part.elsewhere ∙ e))

pub returns-in-Err-clause-reopen : goal.returns-in-Err-clause-reopen
returns-in-Err-clause-reopen g c =
    let s = c.args.site.now in
    let below : is_host (net_of s.topo.now) s.publisher s.broker ≡ false = sym (ap (λ x. x.host) c.requires.site.branch) ∙ c.if-site.false in
    let none : c.args.part.now.log ≡ None = no_log c.args.part.now.log (c.requires.hosted ∙ below) in
    below_reopen s.topo.now s.publisher s.broker c.args.now (part_of c.args.part.now) below (Err fault.Memory) none (λ h. cc h)
