-- A start's answer in the words of the world: which faults there are, and that a faultless disk stays one.
use Rattle.std.proofs.Common.{◌≡◌, ◌≢◌, ◌⊎◌, inl, inr, ℕ, Option, Some, Result, Err, refl, ap, ◌∙◌, subst}
use Rattle.gr_out.specs.Stops.{StaysFaultless}
use Rattle.gr_broker.specs.declared.outcome.BrokerFault.{BrokerFault}
use Rattle.gr_broker.specs.declared.outcome.BrokerFault.TheVariants as broken
use Rattle.gr_world.specs.declared.fault.WorldFault.{WorldFault}
use Rattle.gr_world.specs.declared.fault.WorldFault.TheVariants as fault
use Rattle.gr_world.specs.Ran.{fault_in}

-- the fault of an answer is the same whatever was to be answered
pub err_is : {T E : Type 0} (f e : E) → ◌≡◌ {A = Result T E} (Err f) (Err e) → f ≡ e
err_is f e h = cc

-- in another answer too
pub same_fault : {T U E : Type 0} (f e : E) → ◌≡◌ {A = Result T E} (Err f) (Err e) → ◌≡◌ {A = Result U E} (Err f) (Err e)
same_fault f e h = ap (λ x. Err x) (err_is f e h)

-- a start that finds a log in each lane fails for memory or for the disk
pub start_faults : (f : BrokerFault) (e : WorldFault) → f ≢ broken.Reopen → ((p at : ℕ) → f ≢ broken.Damaged p at) → e ≡ fault_in f → (e ≡ fault.Memory) ⊎ (e ≡ fault.Disk)
start_faults broken.Memory e first found is = inl is
start_faults broken.Disk e first found is = inr is
start_faults broken.Reopen e first found is = absurd (first refl)
start_faults (broken.Damaged p at) e first found is = absurd (found p at refl)

-- so where it is not memory the broker is down
pub start_failed : (f : BrokerFault) (e : WorldFault) (b : ℕ) (down : Option ℕ) → f ≢ broken.Reopen → ((p at : ℕ) → f ≢ broken.Damaged p at) → e ≡ fault_in f → e ≢ fault.Memory
    → (f ≡ broken.Disk → down ≡ Some b) → down ≡ Some b
start_failed broken.Memory e b down first found is some failed = absurd (some is)
start_failed broken.Disk e b down first found is some failed = failed refl
start_failed broken.Reopen e b down first found is some failed = absurd (first refl)
start_failed (broken.Damaged p at) e b down first found is some failed = absurd (found p at refl)

abbrev IsElse : WorldFault → Type 0
IsElse (fault.Damaged p at) = ⊥
IsElse _ = Unit {0}

not_damaged : (e : WorldFault) (p at : ℕ) → IsElse e → e ≡ fault.Damaged p at → ⊥
not_damaged e p at other is = subst (λ (x : WorldFault). IsElse x) is other

-- a fault at a place in a lane is one of the broker
pub damaged_in : (f : BrokerFault) (p at : ℕ) → fault_in f ≡ fault.Damaged p at → f ≡ broken.Damaged p at
damaged_in broken.Memory p at e = absurd (not_damaged fault.Memory p at tt e)
damaged_in broken.Disk p at e = absurd (not_damaged fault.Disk p at tt e)
damaged_in broken.Reopen p at e = absurd (not_damaged fault.Reopen p at tt e)
damaged_in (broken.Damaged q from) p at e = cc

-- a disk that stays faultless, twice
pub faultless_on : (a b c : Type 0) (f g h : ℕ) → StaysFaultless a b f g → StaysFaultless b c g h → StaysFaultless a c f h
faultless_on a b c f g h x y = record { stays = λ z. y.stays (x.stays z); same_faults = λ z. y.same_faults (x.stays z) ∙ x.same_faults z }
