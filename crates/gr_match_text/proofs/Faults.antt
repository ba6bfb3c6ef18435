-- A fault of a filter or of an event that is not want of memory is the fault of its reading
use Rattle.std.proofs.Common.{◌≡◌, Result, Err, refl}
use Rattle.gr_event.specs.declared.event.EventFault.{EventFault}
use Rattle.gr_event.specs.declared.event.EventFault.TheVariants as event
use Rattle.gr_event.specs.Gives.{Fails as EventFails}
use Rattle.gr_filter.specs.declared.fault.FilterFault.{FilterFault}
use Rattle.gr_filter.specs.declared.fault.FilterFault.TheVariants as filter
use Rattle.gr_filter.specs.Gives.{Fails as FilterFails}
use Rattle.gr_sched.proofs.Faults.{other_fault}

pub event_fault : {X : Type 0} (e : EventFault) (read : Result X EventFault) → EventFails e read → (e ≡ event.Memory → ⊥) → read ≡ Err e
event_fault e read h other = other_fault e read h other

pub filter_fault : {X : Type 0} (e : FilterFault) (read : Result X FilterFault) → FilterFails e read → (e ≡ filter.Memory → ⊥) → read ≡ Err e
filter_fault filter.Memory read h other = absurd (other refl)
filter_fault (filter.BadToken at) read h other = h
filter_fault (filter.Expected at) read h other = h
filter_fault (filter.TooDeep at) read h other = h
filter_fault filter.TooLong read h other = h
filter_fault (filter.NumberRange at) read h other = h
