use Rattle.gr_report.proofs.Named.{next_named}
use Rattle.gr_replay.proofs.law.every_line_is_named.Goals as goal

pub returns : goal.returns
returns c = next_named
