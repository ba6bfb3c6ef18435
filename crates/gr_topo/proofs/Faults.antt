-- A fault of one reading is a fault of another that fails as it does
use Rattle.std.proofs.Common.{◌≡◌, ℕ, List, Result, Err, refl, ap}
use Rattle.gr_filter.specs.declared.fault.FilterFault.{FilterFault}
use Rattle.gr_filter.specs.declared.fault.FilterFault.TheVariants as filter
use Rattle.gr_filter.specs.Gives.{Fails as FilterFails}
use Rattle.gr_filter.specs.Tree.{Tree}
use Rattle.gr_topo.specs.Checks.{filter_or_fault}
use Rattle.gr_topo.specs.declared.fault.TopoFault.{TopoFault}
use Rattle.gr_topo.specs.declared.fault.TopoFault.TheVariants as fault
use Rattle.gr_topo.specs.Gives.{Fails}

pub fails_as : {A B : Type 0} (e : TopoFault) (r : Result A TopoFault) (t : Result B TopoFault) → ((x : TopoFault) → r ≡ Err x → t ≡ Err x) → Fails e r → Fails e t
fails_as fault.Memory r t same h = tt
fails_as fault.NotToml r t same h = same _ h
fails_as (fault.BadKey k) r t same h = same _ h
fails_as (fault.BadType k) r t same h = same _ h
fails_as (fault.Twice k) r t same h = same _ h
fails_as (fault.Unknown k) r t same h = same _ h
fails_as fault.NotTree r t same h = same _ h
fails_as (fault.BadFilter k f) r t same h = same _ h
fails_as (fault.TooMany k) r t same h = same _ h
fails_as (fault.BadAddress k) r t same h = same _ h
fails_as (fault.Missing k) r t same h = same _ h
fails_as (fault.BadName k) r t same h = same _ h
fails_as (fault.BadRange k) r t same h = same _ h

-- a fault that is known is a failure with it
pub fails_with : {X : Type 0} (f : TopoFault) (all : Result X TopoFault) → all ≡ Err f → Fails f all
fails_with fault.Memory all h = tt
fails_with f all h = h

-- the fault of a filter, that is not want of memory, stands beside the subscriber's name
pub filter_fault : (f : FilterFault) (name : List ℕ) (read : Result Tree FilterFault) → (f ≡ filter.Memory → ⊥) → FilterFails f read → filter_or_fault name read ≡ Err (fault.BadFilter name f)
filter_fault filter.Memory name read other h = absurd (other refl)
filter_fault (filter.BadToken k) name read other h = ap (filter_or_fault name) h
filter_fault (filter.Expected k) name read other h = ap (filter_or_fault name) h
filter_fault (filter.TooDeep k) name read other h = ap (filter_or_fault name) h
filter_fault filter.TooLong name read other h = ap (filter_or_fault name) h
filter_fault (filter.NumberRange k) name read other h = ap (filter_or_fault name) h
