-- The steps that are read with the names of a topology are steps of it, since the number of a name is less than how many there are, and a name that may join is a late subscriber's
use Rattle.std.proofs.Common.{◌≡◌, ◌<◌, ℕ, suc, Bool, true, false, if◌then◌else◌, List, [], ◌∷◌, length, Option, None, Some, arith, refl, subst}
use Rattle.std.specs.Prelude.{bytes_eq, IfSome}
use Rattle.std.specs.List.{All}
use Rattle.std.proofs.lemmas.List.Quantifiers.{position-Some}
use Rattle.gr_sched.specs.declared.step.Step.{Step}
use Rattle.gr_sched.specs.declared.step.Step.TheVariants as step
use Rattle.gr_sched.specs.declared.step.Line.{Line}
use Rattle.gr_sched.specs.Ranges.{IsStep, IsNamed}
use Rattle.gr_topo.specs.Topology.{TopologyView, number_of, naming_of, late_of, if_late, joiner_of}
use Rattle.gr_scenario.specs.Steps.{IsStepOf, AreStepsOf}

-- the number of a name is less than how many names there are
named_below : (names : List (List ℕ)) (n : ℕ) → IsNamed (number_of names) n → n < length names
named_below names n h = let one = (position-Some (λ known. bytes_eq known h.0) names n [] h.1).0 in omega (arith, one)

-- a subscriber that may join has this number, and is late
joiner_is : (t : TopologyView) (o : Option ℕ) (s : ℕ) → if_late t o ≡ Some s → (o ≡ Some s) × (late_of t s ≡ true)
joiner_is t None s e = let k : None ≡ Some s = e in cc
joiner_is t (Some n) s e = go (late_of t n) refl e
  where
    go : (q : Bool) → late_of t n ≡ q → (if q then Some n else None) ≡ Some s → (Some n ≡ Some s) × (late_of t s ≡ true)
    go true late is = (is, subst (λ o. IfSome o (λ m. late_of t m ≡ true)) is late)
    go false late is = let k : None ≡ Some s = is in cc

named_joiner : (t : TopologyView) (s : ℕ) → IsNamed (joiner_of t) s → (s < length t.subscribers) × (late_of t s ≡ true)
named_joiner t s h =
    let is = joiner_is t (number_of t.subscribers h.0) s h.1 in (named_below t.subscribers s (h.0, is.0), is.1)

read_step : (t : TopologyView) (s : Step) → IsStep (naming_of t) s → IsStepOf t s
read_step t (step.Clock now) h = h
read_step t (step.Publish p n stop e) h = (named_below t.publishers p h.0, h.1, h.2, h.3, h.4)
read_step t (step.Wake b) h = named_below t.brokers b h
read_step t (step.Deliver frame) h = h
read_step t (step.Crash b) h = named_below t.brokers b h
read_step t step.Sweep h = tt
read_step t step.Show h = tt
read_step t (step.Bytes frame) h = h
read_step t (step.Join s p) h = let one = named_joiner t s h.0 in (one.0, one.1, named_below t.publishers p h.1)

-- the steps that are read are steps of the topology
pub read_steps : (t : TopologyView) (lines : List Line) → All (λ l. IsStep (naming_of t) l.step) lines → AreStepsOf t lines
read_steps t [] h = tt
read_steps t (l ∷ ls) h = (read_step t l.step (h 0 l (omega arith)), read_steps t ls (λ k d lt. h (suc k) d (omega arith)))
