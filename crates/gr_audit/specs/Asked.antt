-- What the bytes of a scenario and of journals ask
use Rattle.std.specs.Prelude.{ℕ, nat_lt, if◌then◌else◌, List, length}
use Rattle.gr_sched.specs.declared.step.TheConstants.{MAX_INPUT_BYTES}
use Rattle.gr_scenario.specs.declared.asked.Asked.{Asked}
use Rattle.gr_scenario.specs.declared.asked.Asked.TheVariants.{TooManyBytes}
use Rattle.gr_scenario.specs.Scenario.{asked_by as scenario_by}
use Rattle.gr_journal.specs.Parts.{scenario_part}

-- there are too many bytes; else what the scenario asks that stands before the journals
abbrev pub asked_by : List ℕ → Asked
asked_by bytes = if nat_lt MAX_INPUT_BYTES (length bytes) then TooManyBytes else scenario_by (scenario_part bytes)
