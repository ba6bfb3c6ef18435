use Rattle.std.proofs.Common.{◌≡◌, ℕ, ◌*◌, refl, subst, get_or, Option, Some, None, Result, Ok, Err, sym, ap, ◌∙◌}
use Rattle.gr_out.specs.Lane.{Lane}
use Rattle.gr_publog.specs.declared.record.Record.{Record}
use Rattle.gr_publog.specs.declared.record.LogFault.{LogFault}
use Rattle.gr_publog.specs.declared.record.LogFault.TheVariants as fault
use Rattle.gr_publog.specs.Views.{LogView, lanes_at}
use Rattle.gr_publog.specs.Calls.{Appends}
use Rattle.gr_publog.proofs.Passing.{appends_ok_as, appends_err_as}
use Rattle.gr_broker_relay.specs.declared.outcome.Outcome.{Outcome as Told}
use Rattle.gr_broker.specs.Seen.{BrokerView, log_in}
use Rattle.gr_broker.specs.Hosted.{AppendsAt, publish_logs_at}
use Rattle.gr_broker.specs.Keeps.{UsesLane}
use Rattle.gr_broker.specs.Told.{log_fault}
use Rattle.gr_broker.specs.Starting.{fault_of}
use Rattle.gr_broker.proofs.Using.{uses_ok_as, uses_err_as}
use Rattle.gr_broker.proofs.broker.Broker.publish.Goals as goal

pub publish_in-requires-clause-stands : goal.publish_in-requires-clause-stands
publish_in-requires-clause-stands g c t q l e = c.requires.stands t q l (ap (λ (b : BrokerView). get_or b.logs q None) (sym c.self.view_is) ∙ e)

-- what becomes of the lanes hangs on the fault alone
at_lane : {T U : Type 0} (b : BrokerView) (p : ℕ) (logged : Option Record) (before after : ℕ → Lane) (r : Result T LogFault) (r' : Result U LogFault) → ((l : LogView) → Appends l logged (lanes_at before (2 * p)) (lanes_at after (2 * p)) r → Appends l logged (lanes_at before (2 * p)) (lanes_at after (2 * p)) r') → AppendsAt b p logged before after r → AppendsAt b p logged before after r'
at_lane b p logged before after r r' h is =
    elim (log_in b p) as (λ (o : Option LogView). (elim o as (λ (_ : Option LogView). Type 0) [ Some l ↦ Appends l logged (lanes_at before (2 * p)) (lanes_at after (2 * p)) r | None ↦ Unit {0} ]) → (elim o as (λ (_ : Option LogView). Type 0) [ Some l ↦ Appends l logged (lanes_at before (2 * p)) (lanes_at after (2 * p)) r' | None ↦ Unit {0} ])) [ Some l ↦ h l | None ↦ λ u. u ] is

-- a log's fault is told in the words of a broker, and these say it again
said_again : (p : ℕ) (f : LogFault) → log_fault (fault_of p f) ≡ f
said_again p fault.Memory = refl
said_again p fault.Disk = refl
said_again p fault.Reopen = refl
said_again p (fault.Damaged at) = refl

pub returns-in-Err-clause-uses : goal.returns-in-Err-clause-uses
returns-in-Err-clause-uses g c =
    let same : log_fault c.fault_at.result ≡ c.in-Err.fault = ap log_fault c.fault_at.ensures ∙ said_again c.args.p c.in-Err.fault in
    subst (λ (f : LogFault). UsesLane {T = Told} g.D.Disk.tells g.D.Disk.faultless g.D.Disk.lane_of g.D.Disk.faults g.D.Disk.stops (2 * c.args.p) c.args.disk.now c.publish_in.new.disk (Err f)) (sym same)
    (uses_err_as c.in-Err.fault c.in-Err.ensures.uses)

pub returns-clause-uses : goal.returns-clause-uses
returns-clause-uses g c = uses_ok_as c.in-Ok.field-0 c.publish_in.new.into c.in-Ok.ensures.uses

pub returns-in-Err-clause-lane : goal.returns-in-Err-clause-lane
returns-in-Err-clause-lane g c = λ t.
    let before = g.D.Disk.lane_of c.args.disk.now in
    let after = g.D.Disk.lane_of c.publish_in.new.disk in
    let logged = publish_logs_at c.args.self.now c.args.p c.args.now c.args.number c.args.event.now in
    let same : log_fault c.fault_at.result ≡ c.in-Err.fault = ap log_fault c.fault_at.ensures ∙ said_again c.args.p c.in-Err.fault in
    let is : AppendsAt {T = Unit {0}} c.args.self.now c.args.p logged before after (Err c.in-Err.fault) =
    subst (λ (b : BrokerView). AppendsAt {T = Unit {0}} b c.args.p (publish_logs_at b c.args.p c.args.now c.args.number c.args.event.now) before after (Err c.in-Err.fault)) c.self.view_is (c.in-Err.ensures.lane t) in
    subst (λ (f : LogFault). AppendsAt {T = Told} c.args.self.now c.args.p logged before after (Err f)) (sym same)
    (at_lane c.args.self.now c.args.p logged before after (Err c.in-Err.fault) (Err c.in-Err.fault) (λ l. appends_err_as l (lanes_at before (2 * c.args.p)) (lanes_at after (2 * c.args.p)) logged c.in-Err.fault) is)

pub returns-clause-lane : goal.returns-clause-lane
returns-clause-lane g c = λ t.
    let before = g.D.Disk.lane_of c.args.disk.now in
    let after = g.D.Disk.lane_of c.publish_in.new.disk in
    let logged = publish_logs_at c.args.self.now c.args.p c.args.now c.args.number c.args.event.now in
    let is : AppendsAt {T = Unit {0}} c.args.self.now c.args.p logged before after (Ok c.in-Ok.field-0) =
    subst (λ (b : BrokerView). AppendsAt {T = Unit {0}} b c.args.p (publish_logs_at b c.args.p c.args.now c.args.number c.args.event.now) before after (Ok c.in-Ok.field-0)) c.self.view_is (c.in-Ok.ensures.lane t) in
    at_lane c.args.self.now c.args.p logged before after (Ok c.in-Ok.field-0) (Ok c.publish_in.new.into) (λ l. appends_ok_as l (lanes_at before (2 * c.args.p)) (lanes_at after (2 * c.args.p)) logged c.in-Ok.field-0 c.publish_in.new.into) is
