-- A start's answer in the words of a run: its faults, how the disk's counts move, and that its lines are named.
use Rattle.std.proofs.Common.{◌≡◌, ◌≢◌, ℕ, ◌<◌, List, length, Some, Result, Ok, Err, IsErrOf, refl, sym, ap, ◌∙◌, subst, arith}
use Rattle.gr_out.specs.declared.fault.RunFault.{RunFault}
use Rattle.gr_out.specs.declared.fault.RunFault.TheVariants as run
use Rattle.gr_out.specs.Faults.{Rose}
use Rattle.gr_publog.specs.Crash.{EitherRose, NotFailed}
use Rattle.gr_publog.specs.Calls.{Tally}
use Rattle.gr_topo.specs.Topology.{TopologyView}
use Rattle.gr_model.specs.declared.report.Report.{Report}
use Rattle.gr_model.specs.Net.{numbers}
use Rattle.gr_model.specs.NetOf.{net_of, IsOrderly}
use Rattle.gr_model.specs.Text.{IsNamed}
use Rattle.gr_model_calls.proofs.runs.Worlds.{Each, numbers_below}
use Rattle.gr_broker.specs.declared.outcome.BrokerFault.{BrokerFault}
use Rattle.gr_broker.specs.declared.outcome.BrokerFault.TheVariants as refused
use Rattle.gr_broker.specs.Seen.{BrokerView, machine_log}
use Rattle.gr_broker.specs.Told.{log_fault}
use Rattle.gr_broker.specs.Opened.{opened_at}
use Rattle.gr_report.specs.Named.{AllNamed, IsPutFault}
use Rattle.gr_report.proofs.Named.{names_of, all_of}
use Rattle.gr_report.proofs.OpenedNamed.{start_named, each_flat}
use Rattle.gr_node.specs.Went.{DiskMoves, SinkMoves}
use Rattle.gr_node.specs.Starting.{lines_of_start}
use Rattle.gr_node.specs.Begun.{IsStartFault, start_fault}

-- the fault of an answer is the same whatever was to be answered
pub err_is : {T E : Type 0} (f e : E) → ◌≡◌ {A = Result T E} (Err f) (Err e) → f ≡ e
err_is f e h = cc

-- in another answer too
pub same_fault : {T U E : Type 0} (f e : E) → ◌≡◌ {A = Result T E} (Err f) (Err e) → ◌≡◌ {A = Result U E} (Err f) (Err e)
same_fault f e h = ap (λ x. Err x) (err_is f e h)

abbrev IsElse : RunFault → Type 0
IsElse (run.Damaged p at) = ⊥
IsElse _ = Unit {0}

not_damaged : (e : RunFault) (p at : ℕ) → IsElse e → e ≡ run.Damaged p at → ⊥
not_damaged e p at other is = subst (λ (x : RunFault). IsElse x) is other

-- a fault at a place in a lane is one of the broker
pub damaged_in : (f : BrokerFault) (p at : ℕ) → start_fault f ≡ run.Damaged p at → f ≡ refused.Damaged p at
damaged_in refused.Memory p at e = absurd (not_damaged run.Memory p at tt e)
damaged_in refused.Disk p at e = absurd (not_damaged run.Disk p at tt e)
damaged_in refused.Reopen p at e = absurd (not_damaged run.Disk p at tt e)
damaged_in (refused.Damaged q from) p at e = cc

-- no start fails for the sink or the post
pub is_start_fault : (f : BrokerFault) → IsStartFault (start_fault f)
is_start_fault refused.Memory = tt
is_start_fault refused.Disk = tt
is_start_fault refused.Reopen = tt
is_start_fault (refused.Damaged p at) = tt

abbrev IsDisk : RunFault → Type 0
IsDisk run.Disk = Unit {0}
IsDisk _ = ⊥

is_disk : (e : RunFault) → e ≡ run.Disk → IsDisk e
is_disk e is = subst (λ (x : RunFault). IsDisk x) (sym is) tt

-- the disk's counts after a start that failed
pub moves_failed : {T U : Type 0} (f : BrokerFault) (faults stops faults' stops' : ℕ) → f ≢ refused.Reopen → Tally {T = T} faults stops faults' stops' (Err (log_fault f)) → DiskMoves {T = U} faults stops faults' stops' (Err (start_fault f))
moves_failed {T} {U} f faults stops faults' stops' never a = record {
  faults_never_fall = a.faults_never_fall;
  stops_never_fall = a.stops_never_fall;
  same = λ n w m. a.same (not_failed f n);
  rose = λ e. a.rose (ap (λ x. Err (log_fault x)) (disk_in f never (err_is (start_fault f) run.Disk e)));
}
  where
    not_failed : (f : BrokerFault) → ◌≢◌ {A = Result U RunFault} (Err (start_fault f)) (Err run.Disk) → NotFailed {T = T} (Err (log_fault f))
    not_failed refused.Memory n = tt
    not_failed refused.Disk n = absurd (n refl)
    not_failed refused.Reopen n = absurd (n refl)
    not_failed (refused.Damaged p at) n = tt

    disk_in : (f : BrokerFault) → f ≢ refused.Reopen → start_fault f ≡ run.Disk → f ≡ refused.Disk
    disk_in refused.Memory n e = absurd (is_disk run.Memory e)
    disk_in refused.Disk n e = refl
    disk_in refused.Reopen n e = absurd (n refl)
    disk_in (refused.Damaged p at) n e = absurd (is_disk (run.Damaged p at) e)

-- and after one that did not
pub moves_well : {T U : Type 0} (x : T) (y : U) (faults stops faults' stops' : ℕ) → Tally {T = T} faults stops faults' stops' (Ok x) → DiskMoves {T = U} faults stops faults' stops' (Ok y)
moves_well x y faults stops faults' stops' a = record {
  faults_never_fall = a.faults_never_fall;
  stops_never_fall = a.stops_never_fall;
  same = λ n w m. a.same tt;
  rose = λ e. cc;
}

-- what a start tells is named
pub lines_named : (t : TopologyView) (b : ℕ) (x : BrokerView) (lines : List Report) → IsOrderly (net_of t) → lines ≡ lines_of_start t b (Some x) → AllNamed t lines
lines_named t b x lines orderly e = all_of (IsNamed t) lines (subst (Each (IsNamed t)) (sym e)
    (each_flat (IsNamed t) (λ p. p < publishers) told (λ p j. start_named (net_of t) (IsNamed t) p b (machine_log x p) (names_of t) orderly j) (numbers publishers) (numbers_below 0 publishers publishers (omega arith))))
  where
    publishers : ℕ
    publishers = length t.publishers

    told : ℕ → List Report
    told p = (opened_at (net_of t) p b (machine_log x p)).lines

-- How the counts stand at an end of all starts

-- neither has moved while nothing failed
pub none_moved : {T : Type 0} (x : T) (faults stops faults' stops' : ℕ) → faults' ≡ faults → stops' ≡ stops → DiskMoves {T = T} faults stops faults' stops' (Ok x)
none_moved x faults stops faults' stops' same same' = record {
  faults_never_fall = omega (arith, same);
  stops_never_fall = omega (arith, same');
  same = λ n w m. (same, same');
  rose = λ e. cc;
}

-- nor where a line could not be put
pub still_moved : {T : Type 0} (e : RunFault) (faults stops faults' stops' : ℕ) → IsPutFault e → faults' ≡ faults → stops' ≡ stops → DiskMoves {T = T} faults stops faults' stops' (Err e)
still_moved {T} e faults stops faults' stops' put same same' = record {
  faults_never_fall = omega (arith, same);
  stops_never_fall = omega (arith, same');
  same = λ n w m. (same, same');
  rose = λ is. absurd (subst (λ (x : RunFault). IsPutFault x) (err_is e run.Disk is) put);
}

-- where a start has failed they have moved as it says
pub moved_from : {T U : Type 0} (e : RunFault) (faults stops faults' stops' faults'' stops'' : ℕ) → faults' ≡ faults → stops' ≡ stops → DiskMoves {T = T} faults' stops' faults'' stops'' (Err e) → DiskMoves {T = U} faults stops faults'' stops'' (Err e)
moved_from e faults stops faults' stops' faults'' stops'' same same' m = record {
  faults_never_fall = let up = m.faults_never_fall in omega (arith, same, up);
  stops_never_fall = let up = m.stops_never_fall in omega (arith, same', up);
  same = λ n w k. still (m.same (λ is. n (same_fault e run.Disk is)) (λ is. w (same_fault e run.Write is)) (λ is. k (same_fault e run.Memory is)));
  rose = λ is. subst (λ (x : ℕ). EitherRose x faults'' stops stops'') same (subst (λ (x : ℕ). EitherRose faults' faults'' x stops'') same' (m.rose (same_fault e run.Disk is)));
}
  where
    still : (faults'' ≡ faults') × (stops'' ≡ stops') → (faults'' ≡ faults) × (stops'' ≡ stops)
    still k = (k.0 ∙ same, k.1 ∙ same')

-- the sink's count too
pub sink_kept : {T : Type 0} (x : T) (faults faults' : ℕ) → faults' ≡ faults → SinkMoves {T = T} faults faults' (Ok x)
sink_kept x faults faults' same = record { rose = λ e. cc; same = λ n. same }

pub sink_unasked : {T : Type 0} (e : RunFault) (faults faults' : ℕ) → IsStartFault e → faults' ≡ faults → SinkMoves {T = T} faults faults' (Err e)
sink_unasked e faults faults' start same = record { rose = λ is. absurd (subst (λ (x : RunFault). IsStartFault x) (err_is e run.Write is) start); same = λ n. same }

pub sink_asked : {T : Type 0} (e : RunFault) (faults faults' faults'' : ℕ) → faults' ≡ faults → (IsErrOf {T = T} (Err e) run.Write → Rose faults' faults'') → (◌≢◌ {A = Result T RunFault} (Err e) (Err run.Write) → faults'' ≡ faults') → SinkMoves {T = T} faults faults'' (Err e)
sink_asked {T} e faults faults' faults'' same rose still = record {
  rose = λ w. subst (λ (x : ℕ). Rose x faults'') same (rose w);
  same = λ n. still n ∙ same;
}
