-- What an endpoint is seen as, before and after its calls
use Rattle.std.specs.Prelude.{ℕ, Option, Some, None, Result, Ok, Err}
use Rattle.gr_know.specs.Values.{Known}
use Rattle.gr_publog.specs.declared.record.Record.{Record}
use Rattle.gr_publog.specs.declared.record.LogFault.{LogFault}
use Rattle.gr_publog.specs.Views.{LogView, appended, failed, number_of}
use Rattle.gr_pubend.specs.Log.{said, log_know}
use Rattle.gr_pubend.specs.Cuts.{cut_view}

-- the log, and what is known by it
pub record EndView : Type 0 where
  pub log : LogView
  pub know : Known

-- the endpoint of a log
abbrev pub end_of : LogView → EndView
end_of l = record { log = l; know = log_know (said l) }

-- with one more record, and with a cut at a tick
abbrev pub grown : Record → EndView → EndView
grown r p = end_of (appended r p.log)

abbrev pub cut_end : ℕ → ℕ → EndView → EndView
cut_end reclaim tick p = end_of (cut_view reclaim tick p.log)

-- with the record that a call logs, if it logs one
abbrev pub after_call : Option Record → EndView → EndView
after_call None p = p
after_call (Some r) p = grown r p

-- after the disk failed
abbrev pub broken_end : EndView → EndView
broken_end p = record { log = failed p.log; know = p.know }

-- the number of a log's present lane
abbrev pub present_lane : LogView → ℕ
present_lane l = number_of l.lane l.second

-- the log of an endpoint that was opened
abbrev pub log_result : Result EndView LogFault → Result LogView LogFault
log_result (Ok p) = Ok p.log
log_result (Err e) = Err e
