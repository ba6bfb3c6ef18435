-- What is answered
use Rattle.std.specs.Prelude.{ℕ, List, [], ◌∷◌, ◌++◌, Option, Some, None, option_and_then, Result, Ok, Err, codes}
use Rattle.std.specs.Option.{option_map}
use Rattle.gr_audit.specs.declared.verdict.Verdict.{Verdict}
use Rattle.gr_audit.specs.Asked.{asked_by as journals_by}
use Rattle.gr_cover_text.specs.Covers.{covered_text}
use Rattle.gr_cover_text.specs.declared.asked.Asked.{Asked as AskedOfCoverText}
use Rattle.gr_cover_text.specs.declared.asked.Asked.TheVariants as cover_text
use Rattle.gr_cover_text.specs.Reading.{asked_by as cover_text_by}
use Rattle.gr_journal.specs.declared.fault.AuditFault.{AuditFault}
use Rattle.gr_match_text.specs.declared.asked.Asked.{Asked as AskedOfMatchText}
use Rattle.gr_match_text.specs.declared.asked.Asked.TheVariants as match_text
use Rattle.gr_match_text.specs.Matching.{matched_text}
use Rattle.gr_match_text.specs.Reading.{asked_by as match_text_by}
use Rattle.gr_replay.specs.Replayed.{replayed_text}
use Rattle.gr_scenario.specs.declared.asked.Asked.{Asked as AskedOfScenario}
use Rattle.gr_scenario.specs.declared.asked.Asked.TheVariants as scenario
use Rattle.gr_scenario.specs.Scenario.{asked_by as scenario_by}
use Rattle.gr_soak.specs.Report.{soak_report}
use Rattle.gr_top.specs.declared.input.Input.{Input}
use Rattle.gr_top.specs.declared.input.Input.TheVariants.{Scenario, MatchText, CoverText, Journals}
use Rattle.gr_top.specs.declared.publishing.Publishing.{Publishing}
use Rattle.gr_top.specs.declared.publishing.Publishing.TheVariants as publishing
use Rattle.gr_top.specs.declared.serving.Serving.{Serving}
use Rattle.gr_top.specs.declared.serving.Serving.TheVariants as serving
use Rattle.gr_top.specs.declared.words.Task.{Task}
use Rattle.gr_top.specs.declared.words.Task.TheVariants.{Usage, Replay, Serve, Publish, Audit, Match, Cover, Soak}
use Rattle.gr_top.specs.Auditing.{verdict_line, fault_line, said_of}
use Rattle.gr_top.specs.Publishing.{publishing_of}
use Rattle.gr_top.specs.Serving.{serving_of}

-- a status, and all that is printed with it
pub record Answer : Type 0 where
  pub status : ℕ
  pub text : List ℕ

-- To what bytes ask

-- more bytes, or more counted lines, than a source may have
abbrev pub too_many_bytes : Answer
too_many_bytes = record { status = 9; text = codes "too-large bytes" ++ 10 ∷ [] }

abbrev pub too_many_lines : Answer
too_many_lines = record { status = 9; text = codes "too-large steps" ++ 10 ∷ [] }

-- what is refused, with the line that says why
abbrev pub refusal : List ℕ → Answer
refusal line = record { status = 2; text = line ++ 10 ∷ [] }

abbrev pub replay_answer : AskedOfScenario → Answer
replay_answer scenario.TooManyBytes = too_many_bytes
replay_answer scenario.TooManySteps = too_many_lines
replay_answer (scenario.Refused line) = refusal line
replay_answer (scenario.Scenario t lines) = record { status = 0; text = replayed_text t lines }

abbrev pub match_answer : AskedOfMatchText → Answer
match_answer match_text.TooManyBytes = too_many_bytes
match_answer match_text.TooManyLines = too_many_lines
match_answer (match_text.Refused line) = refusal line
match_answer (match_text.Matching filters events) = record { status = 0; text = matched_text filters events }

abbrev pub cover_answer : AskedOfCoverText → Answer
cover_answer cover_text.TooManyBytes = too_many_bytes
cover_answer cover_text.TooManyLines = too_many_lines
cover_answer (cover_text.Refused line) = refusal line
cover_answer (cover_text.Covering filters) = record { status = 0; text = covered_text filters }

-- to a verdict, or to what is refused
abbrev pub said_answer : Result Verdict AuditFault → Answer
said_answer (Ok verdict) = record { status = 0; text = verdict_line verdict ++ 10 ∷ [] }
said_answer (Err fault) = refusal (fault_line fault)

-- to a scenario with these bytes of journals behind it
abbrev pub audit_answer : List ℕ → AskedOfScenario → Answer
audit_answer bytes scenario.TooManyBytes = too_many_bytes
audit_answer bytes scenario.TooManySteps = too_many_lines
audit_answer bytes (scenario.Refused line) = refusal line
audit_answer bytes (scenario.Scenario t lines) = said_answer (said_of t lines bytes)

-- to what brokers that serve are asked: where there is to be a run, there is no answer before it
abbrev pub answer_in : Serving → Option Answer
answer_in serving.TooManyBytes = Some too_many_bytes
answer_in serving.TooManySteps = Some too_many_lines
answer_in (serving.Refused line) = Some (refusal line)
answer_in (serving.Run t lines hosted) = None

-- and to what `publish` is
abbrev pub publish_answer : Publishing → Option Answer
publish_answer publishing.TooManyBytes = Some too_many_bytes
publish_answer publishing.TooManySteps = Some too_many_lines
publish_answer (publishing.Refused line) = Some (refusal line)
publish_answer (publishing.Run t lines p) = None

-- to bytes, by what they are read as
abbrev pub answer_of : Input → List ℕ → Answer
answer_of Scenario bytes = replay_answer (scenario_by bytes)
answer_of MatchText bytes = match_answer (match_text_by bytes)
answer_of CoverText bytes = cover_answer (cover_text_by bytes)
answer_of Journals bytes = audit_answer bytes (journals_by bytes)

-- To words

-- that are no command's
abbrev pub usage_answer : Answer
usage_answer = record {
  status = 1;
  text = codes "usage: gryphon replay | serve TURNS BROKER... | trace TURNS BROKER... | publish P TURNS | "
      ++ (codes "audit | match | cover | soak N" ++ 10 ∷ []);
}

-- to a task, with these bytes left in the source. Where they are not told, nothing is said of a task that reads them;
-- and of brokers that serve, or of a client that submits, no answer says what comes
abbrev pub answer_to : Task → Option (List ℕ) → Option Answer
answer_to Usage left = Some usage_answer
answer_to Replay left = option_map (answer_of Scenario) left
answer_to (Serve voice turns words) left =
    option_and_then (λ bytes. answer_in (serving_of voice words (scenario_by bytes))) left
answer_to (Publish word turns) left =
    option_and_then (λ bytes. publish_answer (publishing_of word (scenario_by bytes))) left
answer_to Audit left = option_map (answer_of Journals) left
answer_to Match left = option_map (answer_of MatchText) left
answer_to Cover left = option_map (answer_of CoverText) left
answer_to (Soak count) left = Some (record { status = 0; text = soak_report count })
