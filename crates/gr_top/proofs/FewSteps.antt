-- A scenario that was read has no more steps than a schedule may have, since one with more is refused before
use Rattle.std.proofs.Common.{◌≡◌, ℕ, ◌≤◌, Bool, true, false, nat_lt, if◌then◌else◌, List, length, Option, Some, None, option_map, Result, Ok, Err, refl, sym, ap}
use Rattle.std.specs.List.{slice_get}
use Rattle.gr_sched.specs.declared.fault.StepFault.{StepFault}
use Rattle.gr_sched.specs.declared.fault.StepFault.TheVariants.{TooMany}
use Rattle.gr_sched.specs.declared.step.TheConstants.{MAX_INPUT_BYTES, MAX_STEPS}
use Rattle.gr_sched.specs.declared.step.Line.{Line}
use Rattle.gr_sched.specs.Naming.{Naming}
use Rattle.gr_sched.specs.Text.{pieces_of, before_separator, after_separator, counted_lines}
use Rattle.gr_sched.specs.Grammar.{lines_of, limited, steps_of}
use Rattle.gr_sched.proofs.InRange.{read_few}
use Rattle.gr_topo.specs.declared.fault.TopoFault.{TopoFault}
use Rattle.gr_topo.specs.Read.{topology_text}
use Rattle.gr_topo.specs.Topology.{TopologyView, naming_of}
use Rattle.gr_scenario.specs.declared.asked.Asked.{Asked}
use Rattle.gr_scenario.specs.declared.asked.Asked.TheVariants.{TooManyBytes, TooManySteps, Refused, Scenario}
use Rattle.gr_scenario.specs.Refusals.{topology_line, step_line}
use Rattle.gr_scenario.specs.Scenario.{asked_of_steps, asked_of_parts, asked_by}

-- lines that were read within the limit are no more than it
few_lines : (names : Naming) (counted : List (ℕ × List ℕ)) (lines : List Line)
    → limited (slice_get counted MAX_STEPS) (lines_of names counted) ≡ Ok lines → length lines ≤ MAX_STEPS
few_lines names counted lines e = go (slice_get counted MAX_STEPS) refl e
  where
    go : (o : Option (ℕ × List ℕ)) → slice_get counted MAX_STEPS ≡ o → limited o (lines_of names counted) ≡ Ok lines → length lines ≤ MAX_STEPS
    go None is read = read_few names counted MAX_STEPS (Ok lines) read (sym (ap (option_map (λ c. c.0)) is))
    go (Some c) is read = let bad : Err (TooMany c.0) ≡ Ok lines = read in cc

few_steps : (t u : TopologyView) (read : Result (List Line) StepFault) (lines : List Line) → asked_of_steps t read ≡ Scenario u lines → read ≡ Ok lines
few_steps t u (Ok ls) lines e = let is : Scenario t ls ≡ Scenario u lines = e in cc
few_steps t u (Err why) lines e = let bad : Refused (step_line why) ≡ Scenario u lines = e in cc

few_parts : (r : Result TopologyView TopoFault) (back : List ℕ) (u : TopologyView) (lines : List Line) → asked_of_parts r back ≡ Scenario u lines → length lines ≤ MAX_STEPS
few_parts (Ok t) back u lines e =
    few_lines (naming_of t) (counted_lines back) lines (few_steps t u (steps_of (naming_of t) back) lines e)
few_parts (Err why) back u lines e = let bad : Refused (topology_line why) ≡ Scenario u lines = e in cc

-- what is not refused by its size is read
passed : (large : Bool) (refused rest : Asked) (u : TopologyView) (lines : List Line) → (if large then refused else rest) ≡ Scenario u lines
    → (refused ≡ Scenario u lines → ⊥) → rest ≡ Scenario u lines
passed true refused rest u lines e other = absurd (other e)
passed false refused rest u lines e other = e

-- a scenario that was read has no more steps than may be
pub few_asked : (bytes : List ℕ) (u : TopologyView) (lines : List Line) → asked_by bytes ≡ Scenario u lines → length lines ≤ MAX_STEPS
few_asked bytes u lines e =
    let parts = asked_of_parts (topology_text (before_separator (pieces_of bytes))) (after_separator (pieces_of bytes)) in
    let many = nat_lt MAX_STEPS (length (counted_lines (after_separator (pieces_of bytes)))) in
    few_parts (topology_text (before_separator (pieces_of bytes))) (after_separator (pieces_of bytes)) u lines
    (passed many TooManySteps parts u lines
    (passed (nat_lt MAX_INPUT_BYTES (length bytes)) TooManyBytes (if many then TooManySteps else parts) u lines e (λ bad. cc)) (λ bad. cc))
