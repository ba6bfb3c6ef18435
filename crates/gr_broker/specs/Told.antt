-- A broker's answer in the words of a log
use Rattle.std.specs.Prelude.{Result, Ok, Err}
use Rattle.gr_publog.specs.declared.record.LogFault.{LogFault}
use Rattle.gr_publog.specs.declared.record.LogFault.TheVariants as fault
use Rattle.gr_broker.specs.declared.outcome.BrokerFault.{BrokerFault}
use Rattle.gr_broker.specs.declared.outcome.BrokerFault.TheVariants as refused

abbrev pub log_fault : BrokerFault → LogFault
log_fault refused.Memory = fault.Memory
log_fault refused.Disk = fault.Disk
log_fault refused.Reopen = fault.Reopen
log_fault (refused.Damaged p at) = fault.Damaged at

abbrev pub log_answer : {T : Type 0} → Result T BrokerFault → Result T LogFault
log_answer (Ok x) = Ok x
log_answer (Err e) = Err (log_fault e)
