-- Faults that pass through
use Rattle.std.proofs.Common.{◌≡◌, refl}
use Rattle.std.specs.Prelude.{Result, Err}
use Rattle.gr_event.specs.declared.event.EventFault.{EventFault}
use Rattle.gr_event.specs.declared.event.EventFault.TheVariants as fault
use Rattle.gr_event.specs.Gives.{Fails}

-- a fault that is not memory is the fault of reading
pub other_fault : {X : Type 0} (e : EventFault) (read : Result X EventFault) → Fails e read → (e ≡ fault.Memory → ⊥) → read ≡ Err e
other_fault fault.Memory read h k = absurd (k refl)
other_fault fault.NotObject read h k = h
other_fault fault.BadName read h k = h
other_fault fault.BadValue read h k = h
other_fault fault.TooMany read h k = h
other_fault fault.TooLong read h k = h
other_fault (fault.Short at) read h k = h
other_fault (fault.BadKind at) read h k = h
other_fault (fault.NotSorted at) read h k = h
other_fault (fault.Trailing at) read h k = h
other_fault fault.NotJson read h k = h
other_fault (fault.BadText at) read h k = h
other_fault (fault.BadLength at) read h k = h
