-- The lines that an opening tells are named: each is of a log, or of what a host's subscribers get
use Rattle.std.proofs.Common.{◌<◌, ℕ, Bool, true, false, ◌&&◌, List, [], ◌∷◌, ◌++◌}
use Rattle.std.specs.Prelude.{nat_lt, if◌then◌else◌, flat_map}
use Rattle.gr_model.specs.declared.report.Report.{Report}
use Rattle.gr_model.specs.declared.report.Report.TheVariants as line
use Rattle.gr_model.specs.Net.{Net, is_host, not_empty, wants_with}
use Rattle.gr_model.specs.NetOf.{IsOrderly}
use Rattle.gr_model.specs.Broker.{Log, View, Outcome, learn, seen, started}
use Rattle.gr_model.specs.Opening.{reopened_line}
use Rattle.gr_model_calls.proofs.asks.AskMoments.{Each-on}
use Rattle.gr_model_calls.proofs.runs.Worlds.{Each}
use Rattle.gr_broker.specs.Opened.{opened_at}
use Rattle.gr_report.proofs.Names.{Names, names_with, orderly_with, learn_named}

-- the line of a log that is opened
pub log_named : (net : Net) (N : Report → Type 0) (log : Log) (p : ℕ) → Names net N → p < net.publishers → Each N (reopened_line log p)
log_named net N log p k j = go (nat_lt 0 log.settled)
  where
    go : (c : Bool) → Each N (if c then line.Opened p log.last log.settled log.cut ∷ [] else [])
    go true = (k.opened p log.last log.settled log.cut j, tt)
    go false = tt

-- the lines of a broker's start over it
pub start_named : (net : Net) (N : Report → Type 0) (p b : ℕ) (log : Log) → Names net N → IsOrderly net → p < net.publishers → Each N (opened_at net p b log).lines
unfolding opened_at
start_named net N p b log k o j = go (is_host net p b && not_empty (net.subscribers_at b)) (is_host net p b)
  where
    v : View
    v = started net p b log

    told : Outcome
    told = learn (seen net v) p b [] v log

    go : (c d : Bool) → Each N (let x : Outcome = elim c [
      | true ↦ record { view = told.view; log = log; lines = reopened_line log p ++ told.lines; frames = told.frames }
      | false ↦ record { view = v; log = log; lines = if d then reopened_line log p else []; frames = [] }
    ] in x.lines)
    go true d = Each-on N (reopened_line log p) told.lines (log_named net N log p k j) (learn_named (seen net v) N p b [] v log (names_with net (wants_with net v.joins) N k) (orderly_with net (wants_with net v.joins) o) j)
    go false true = log_named net N log p k j
    go false false = tt

-- a list that is told for each of some numbers
pub each_flat : (N : Report → Type 0) (ok : ℕ → Type 0) (f : ℕ → List Report) → ((n : ℕ) → ok n → Each N (f n)) → (ns : List ℕ) → Each ok ns → Each N (flat_map f ns)
each_flat N ok f one [] a = tt
each_flat N ok f one (n ∷ ns) a = Each-on N (f n) (flat_map f ns) (one n a.0) (each_flat N ok f one ns a.1)
