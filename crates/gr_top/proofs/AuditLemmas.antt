-- What is said of journals is right: after a yes they are one honest run, and where something was not offered, no order of them
-- is honest
use Rattle.std.proofs.Common.{◌≡◌, ℕ, ◌≤◌, Bool, true, false, nat_lt, List, length, Option, Some, None, Result, Ok, Err, refl, sym, ap, ◌∙◌}
use Rattle.std.specs.Prelude.{if◌then◌else◌}
use Rattle.std.proofs.lemmas.Bool.{ltb-false}
use Rattle.gr_sched.specs.declared.step.TheConstants.{MAX_INPUT_BYTES}
use Rattle.gr_sched.specs.declared.step.Line.{Line}
use Rattle.gr_topo.specs.Topology.{TopologyView}
use Rattle.gr_scenario.specs.declared.asked.Asked.{Asked}
use Rattle.gr_scenario.specs.declared.asked.Asked.TheVariants.{TooManyBytes, Scenario}
use Rattle.gr_scenario.specs.Scenario.{asked_by as scenario_by}
use Rattle.gr_journal.specs.declared.fault.AuditFault.{AuditFault}
use Rattle.gr_journal.specs.declared.fault.AuditFault.TheVariants.{Clients}
use Rattle.gr_journal.specs.declared.journal.Journal.{Journal}
use Rattle.gr_journal.specs.Gives.{◌>>=◌}
use Rattle.gr_journal.specs.Hosting.{unhosted}
use Rattle.gr_journal.specs.Lines.{journals_of}
use Rattle.gr_journal.specs.Parts.{scenario_part, journal_part}
use Rattle.gr_audit.specs.declared.verdict.Verdict.{Verdict}
use Rattle.gr_audit.specs.declared.verdict.Verdict.TheVariants.{Yes, No}
use Rattle.gr_audit.specs.declared.verdict.Why.TheVariants.{NotHosted, Differs, Unoffered}
use Rattle.gr_audit.specs.Asked.{asked_by}
use Rattle.gr_audit.specs.Audited.{differing, order_verdict, text_verdict, verdict_of, has_clients, audited}
use Rattle.gr_audit.specs.Joint.{stays, StaysIsExact}
use Rattle.gr_audit_theorems.specs.Behaves.{behaves}
use Rattle.gr_audit_theorems.specs.OneRun.{links_in_all, IsOneRun}
use Rattle.gr_top.specs.Auditing.{said_of, HasNoOrder, IsRight}

-- bytes that ask for a scenario are no more than a source may have
pub few_bytes : (bytes : List ℕ) (t : TopologyView) (lines : List Line) → asked_by bytes ≡ Scenario t lines → length bytes ≤ MAX_INPUT_BYTES
few_bytes bytes t lines e = go (nat_lt MAX_INPUT_BYTES (length bytes)) refl e
  where
    go : (large : Bool) → nat_lt MAX_INPUT_BYTES (length bytes) ≡ large
        → ◌≡◌ {A = Asked} (if large then TooManyBytes else scenario_by (scenario_part bytes)) (Scenario t lines) → length bytes ≤ MAX_INPUT_BYTES
    go true large q = absurd (cc)
    go false large q = ltb-false MAX_INPUT_BYTES (length bytes) large

-- what is said is the verdict on the journals that were read
ok_is : (v w : Verdict) → ◌≡◌ {A = Result Verdict AuditFault} (Ok v) (Ok w) → v ≡ w
ok_is v w e = ap (λ r. elim r [ Ok z ↦ z | Err f ↦ v ]) e

on_journals : (t : TopologyView) (lines : List Line) (bytes : List ℕ) (verdict : Verdict) (js : List Journal) → journals_of t bytes ≡ Ok js
    → audited (behaves t lines) t bytes ≡ Ok verdict → verdict_of (behaves t lines) t js ≡ verdict
on_journals t lines bytes verdict js read e = go (has_clients t) e
  where
    go : (b : Bool) → ◌≡◌ {A = Result Verdict AuditFault} (if b then Err Clients else journals_of t bytes >>= λ ks. Ok (verdict_of (behaves t lines) t ks)) (Ok verdict)
        → verdict_of (behaves t lines) t js ≡ verdict
    go true q = absurd (cc)
    go false q =
        ok_is (verdict_of (behaves t lines) t js) verdict
        (sym (ap (λ (r : Result (List Journal) AuditFault). r >>= λ ks. Ok (verdict_of (behaves t lines) t ks)) read) ∙ q)

-- where it speaks of what was not offered, that arrival stays
line_stays : (t : TopologyView) (lines : List Line) (js : List Journal) (line : ℕ) → verdict_of (behaves t lines) t js ≡ No line Unoffered
    → stays (links_in_all t lines js) ≡ Some line
line_stays t lines js line e = hosting (unhosted t js) e
  where
    order : (o : Option ℕ) → (elim o [ None ↦ Yes | Some n ↦ No n Unoffered ]) ≡ No line Unoffered → o ≡ Some line
    order None q = absurd (cc)
    order (Some n) q = ap (λ v. elim v [ Yes ↦ None | No m why ↦ Some m ]) q

    text : (o : Option ℕ) → (elim o [ None ↦ order_verdict (links_in_all t lines js) | Some n ↦ No n Differs ]) ≡ No line Unoffered
        → stays (links_in_all t lines js) ≡ Some line
    text None q = order (stays (links_in_all t lines js)) q
    text (Some n) q = absurd (cc)

    hosting : (o : Option ℕ) → (elim o [ None ↦ text_verdict (behaves t lines) t js | Some n ↦ No n NotHosted ]) ≡ No line Unoffered
        → stays (links_in_all t lines js) ≡ Some line
    hosting None q = text (differing (behaves t lines) t js) q
    hosting (Some n) q = absurd (cc)

-- so no order lets all groups go
no_order : StaysIsExact → (t : TopologyView) (lines : List Line) (bytes : List ℕ) (line : ℕ) → audited (behaves t lines) t bytes ≡ Ok (No line Unoffered)
    → HasNoOrder t lines bytes
no_order exact t lines bytes line said = λ js read order.
    let none : stays (links_in_all t lines js) ≡ None = (exact (links_in_all t lines js)).1 order in
    let some = line_stays t lines js line (on_journals t lines bytes (No line Unoffered) js read said) in
    let bad : Some line ≡ None = sym some ∙ none in cc

-- and what is said is right
pub is_right : (t : TopologyView) (lines : List Line) (bytes : List ℕ) (verdict : Verdict)
    → (audited (behaves t lines) t (journal_part bytes) ≡ Ok Yes → IsOneRun t lines (journal_part bytes)) → StaysIsExact → said_of t lines bytes ≡ Ok verdict
    → IsRight t lines bytes verdict
is_right t lines bytes verdict one_run exact said = record {
  honest = λ is. one_run (said ∙ ap (λ v. Ok v) is);
  unoffered = λ line is. no_order exact t lines (journal_part bytes) line (said ∙ ap (λ v. Ok v) is);
}
