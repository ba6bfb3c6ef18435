-- What `audit` answers to the bytes of a scenario and of journals
use Rattle.std.specs.Prelude.{◌≡◌, ℕ, List, [], ◌∷◌, ◌++◌, Option, Result, Ok, codes}
use Rattle.std.specs.Fmt.{decimal}
use Rattle.gr_out.specs.Bytes.{with_more}
use Rattle.gr_sched.specs.declared.step.Line.{Line}
use Rattle.gr_topo.specs.Topology.{TopologyView}
use Rattle.gr_scenario.specs.declared.asked.Asked.TheVariants.{Scenario}
use Rattle.gr_journal.specs.declared.fault.AuditFault.{AuditFault}
use Rattle.gr_journal.specs.declared.fault.AuditFault.TheVariants.{Memory, BadLine, Clients}
use Rattle.gr_journal.specs.declared.journal.Journal.{Journal}
use Rattle.gr_journal.specs.Lines.{journals_of}
use Rattle.gr_journal.specs.Parts.{journal_part}
use Rattle.gr_audit.specs.declared.verdict.Verdict.{Verdict}
use Rattle.gr_audit.specs.declared.verdict.Verdict.TheVariants.{Yes, No}
use Rattle.gr_audit.specs.declared.verdict.Why.{Why}
use Rattle.gr_audit.specs.declared.verdict.Why.TheVariants.{NotHosted, Differs, Unoffered}
use Rattle.gr_audit.specs.Asked.{asked_by}
use Rattle.gr_audit.specs.Audited.{audited}
use Rattle.gr_audit.specs.Joint.{begun, HasOrder}
use Rattle.gr_audit_theorems.specs.Behaves.{behaves}
use Rattle.gr_audit_theorems.specs.OneRun.{links_in_all, IsOneRun}
use Rattle.gr_top.specs.Hosting.{clients_line}

-- The lines

abbrev pub why_word : Why → List ℕ
why_word NotHosted = codes "not-hosted"
why_word Differs = codes "differs"
why_word Unoffered = codes "unoffered"

-- `yes`, or `no L WORD`
abbrev pub verdict_line : Verdict → List ℕ
verdict_line Yes = codes "yes"
verdict_line (No line why) = codes "no" ++ 32 ∷ decimal line ++ 32 ∷ why_word why

-- `audit 1 bad-line L`, or `audit 2 clients`. Want of memory has no line
abbrev pub bad_line : ℕ → List ℕ
bad_line line = codes "audit 1 bad-line" ++ 32 ∷ decimal line

abbrev pub fault_line : AuditFault → List ℕ
fault_line Memory = []
fault_line (BadLine line) = bad_line line
fault_line Clients = clients_line

-- What is said, and what it is worth

-- what is said of the journals that stand behind a scenario, by its topology and its steps
abbrev pub said_of : TopologyView → List Line → List ℕ → Result Verdict AuditFault
said_of t lines bytes = audited (behaves t lines) t (journal_part bytes)

-- in no order of all groups that keeps each journal's own was each frame offered to its broker before it came there
abbrev pub HasNoOrder : TopologyView → List Line → List ℕ → Type 0
HasNoOrder t lines journals =
    (js : List Journal) → journals_of t journals ≡ Ok js → HasOrder (begun (links_in_all t lines js)) → ⊥

-- A verdict on the journals behind a scenario is right
pub record IsRight (t : TopologyView) (lines : List Line) (bytes : List ℕ) (verdict : Verdict) : Type 0 where
  -- after `yes` they are one honest run: in the joint order the joint journal is honest, and its lines meet the
  -- headline, each process numbering its own frames
  pub honest : verdict ≡ Yes → IsOneRun t lines (journal_part bytes)
  -- after `no L unoffered` no order of them is honest
  pub unoffered : (line : ℕ) → verdict ≡ No line Unoffered → HasNoOrder t lines (journal_part bytes)

-- A verdict was asked for, and taken whole
pub record WasAudited (old new : Option (List ℕ)) (bytes : List ℕ) : Type 0 where
  pub topology : TopologyView
  pub lines : List Line
  pub asked : asked_by bytes ≡ Scenario topology lines
  pub verdict : Verdict
  -- it is exactly what is to be said of these journals: `no` with the first of its three reasons that there is, and
  -- with the line that shows it, or `yes`
  pub said : said_of topology lines bytes ≡ Ok verdict
  pub right : IsRight topology lines bytes verdict
  pub taken : new ≡ with_more old (verdict_line verdict ++ 10 ∷ [])
