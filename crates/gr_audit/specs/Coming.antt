-- What comes to a process of some brokers
use Rattle.std.specs.Prelude.{◌≡◌, ◌≤◌, ℕ, true, List, length}
use Rattle.std.specs.List.{AllByRecursion}
use Rattle.gr_topo.specs.Topology.{TopologyView}
use Rattle.gr_sched.specs.declared.step.TheConstants.{MAX_NUMBER}
use Rattle.gr_journal.specs.declared.arrival.TheConstants.{MAX_DATAGRAM}
use Rattle.gr_journal.specs.declared.arrival.Arrival.{Arrival}
use Rattle.gr_journal.specs.declared.arrival.Arrival.TheVariants.{Quiet, Datagram}
use Rattle.gr_journal.specs.declared.arrival.Came.{Came}
use Rattle.gr_journal.specs.declared.journal.Journal.{Journal}
use Rattle.gr_journal.specs.Lines.{is_among, rising}

-- a moment that there is; a datagram to one of the brokers, of as many bytes as a process takes
abbrev pub ComesTo : List ℕ → Arrival → Type 0
ComesTo brokers (Quiet moment) = moment ≤ MAX_NUMBER
ComesTo brokers (Datagram b moment bytes) =
    (is_among brokers b ≡ true) × ((moment ≤ MAX_NUMBER) × (length bytes ≤ MAX_DATAGRAM))

abbrev pub AllComeTo : List ℕ → List Came → Type 0
AllComeTo brokers came = AllByRecursion (λ (c : Came). ComesTo brokers c.arrival) came

-- to each journal's brokers, in rising order
abbrev pub AllCome : TopologyView → List Journal → Type 0
AllCome t js = AllByRecursion (λ (j : Journal). AllComeTo (rising t j.brokers) j.came) js
