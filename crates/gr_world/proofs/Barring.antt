-- Where a wake or a sweep is refused at a log that the disk has failed: a wake for a publisher looks at that publisher alone, and a sweep comes to the host of each, whose log was silent for long by then
use Rattle.std.proofs.Common.{◌≡◌, ◌≢◌, ◌⊎◌, inl, inr, ℕ, zero, suc, ◌+◌, ◌<◌, ◌≤◌, Bool, true, false, List, [], ◌∷◌, length, map, get_or, Option, Some, None, Result, Ok, Err, refl, sym, ap, ◌∙◌, subst, arith}
use Rattle.std.specs.Prelude.{◌↔◌, nat_eq, IsSome, is_some, IsErr, IsErrOf}
use Rattle.std.specs.List.{list_any}
use Rattle.std.proofs.lemmas.Bool.{cases_eq, or_cases, eqb-true, le-leb, false≢true}
use Rattle.std.proofs.lemmas.List.{length-map}
use Rattle.gr_publog.specs.Views.{LogView}
use Rattle.gr_pubend.specs.Answers.{quieted, mark_of}
use Rattle.gr_topo.specs.Topology.{TopologyView, host_of}
use Rattle.gr_model.specs.declared.report.Report.{Report}
use Rattle.gr_model.specs.NetOf.{net_of}
use Rattle.gr_model.specs.Tree.{IsNet}
use Rattle.gr_model.specs.Broker.{View, Log, Outcome as MachineOutcome, seen, marking, empty_log}
use Rattle.gr_model.specs.World.{World, log_of, inwards, sweep_moment, greatest_settled}
use Rattle.gr_model_theorems.proofs.sweep.Rounds.{stands_inwards}
use Rattle.gr_model_theorems.proofs.records.Recorded.{get_map}
use Rattle.gr_broker_relay.specs.Cuts.{tick_cut}
use Rattle.gr_broker.specs.Seen.{BrokerView, view_in, log_in, log_said, is_broken}
use Rattle.gr_world.specs.declared.fault.WorldFault.{WorldFault}
use Rattle.gr_world.specs.declared.fault.WorldFault.TheVariants as fault
use Rattle.gr_world.specs.Seen.{WorldView, broker_in, log_at, net_in, world_of}
use Rattle.gr_world.specs.Of.{IsWorld}
use Rattle.gr_world.specs.Steps.{IsCarried, NotMemory}
use Rattle.gr_world.specs.Disk.{NotDisk, IsWakeBarred, BarsWake, HasBroken, ReopensWhere}
use Rattle.gr_world.specs.Ran.{Keeps, Ran, TouchesOne}
use Rattle.gr_world.specs.Sweeps.{Joins, IsDue, HasHost, at_moment}
use Rattle.gr_world.proofs.Absorbing.{log_is}

-- The answer

-- an answer that refuses nothing, and is neither a list of lines nor another fault
only_reopen : (e : WorldFault) → IsCarried (Err e) → NotMemory (Err e) → NotDisk {T = List Report} (Err e) → e ≡ fault.Reopen
only_reopen fault.Memory c m d = absurd m
only_reopen fault.Disk c m d = absurd d
only_reopen fault.Reopen c m d = refl
only_reopen (fault.Damaged p at) c m d = absurd c
only_reopen (fault.HostsSubscriber b) c m d = absurd c
only_reopen (fault.NoFrame sent) c m d = absurd c
only_reopen (fault.ClockRange at) c m d = absurd c

-- a fault that refuses nothing is `Reopen` where it is barred
pub reopens_fault : (barred : Type 0) (e : WorldFault) → IsCarried (Err e) → (e ≡ fault.Reopen → barred) → ReopensWhere barred (Err e)
reopens_fault barred e c there m d = (λ h. there (error_of h), λ h. ap (λ (x : WorldFault). let r : Result (List Report) WorldFault = Err x in r) (only_reopen e c m d))
  where
    error_of : {x y : WorldFault} → ◌≡◌ {A = Result (List Report) WorldFault} (Err x) (Err y) → x ≡ y
    error_of h = cc

-- lines are told where it is not
pub reopens_never : (barred : Type 0) (ls : List Report) → (barred → ⊥) → ReopensWhere barred (Ok ls)
reopens_never barred ls never m d = (λ h. absurd (cc h), λ h. absurd (never h))

-- and of want of memory nothing is said
pub reopens_memory : (barred : Type 0) → ReopensWhere barred (Err fault.Memory)
reopens_memory barred m d = absurd m

-- One publisher after another

-- what a wake for a publisher looks at is as it was
pub record AsBefore (b q : ℕ) (old new : WorldView) : Type 0 where
  pub view : view_in (broker_in new b) q ≡ view_in (broker_in old b) q
  pub log : log_in (broker_in new b) q ≡ log_in (broker_in old b) q

pub as_before : (b q : ℕ) (w : WorldView) → AsBefore b q w w
as_before b q w = record { view = refl; log = refl }

-- so it is after a call for another publisher
pub as_before_next : (b p q : ℕ) (a old new : WorldView) → q ≢ p → TouchesOne b p old new → AsBefore b q a old → AsBefore b q a new
as_before_next b p q a old new n t x = record { view = t.views q n ∙ x.view; log = t.logs q n ∙ x.log }

-- a wake that would append to a broken log, by what it looks at
abbrev Bars : TopologyView → ℕ → ℕ → ℕ → View → Option LogView → Type 0
Bars t n now p v l =
    (is_broken l ≡ true)
    × (IsSome (mark_of (quieted (log_said l) now t.settings.quiet)) ⊎ IsSome (let o : MachineOutcome = marking (seen (net_of t) v) p n now v (log_said l) in tick_cut (net_of t) p n o.view o.log))

bars_moved : (p : ℕ) (t t' : TopologyView) (n n' now now' : ℕ) (v v' : View) (l l' : Option LogView) → t ≡ t' → n ≡ n' → now ≡ now' → v ≡ v' → l ≡ l' → Bars t n now p v l → Bars t' n' now' p v' l'
bars_moved p t t' n n' now now' v v' l l' e1 e2 e3 e4 e5 h =
    subst (λ z. Bars t' n' now' p v' z) e5 (subst (λ z. Bars t' n' now' p z l) e4 (subst (λ z. Bars t' n' z p v l) e3 (subst (λ z. Bars t' z now p v l) e2 (subst (λ z. Bars z n now p v l) e1 h))))

module _ (b q : ℕ) (a c : WorldView) (i : IsWorld a) (j : IsWorld c) (k : Keeps a c) (lt : b < length a.topo.brokers) (same : AsBefore b q a c) where
  numbers_same : (let x : BrokerView = broker_in c b in x.number) ≡ (let x : BrokerView = broker_in a b in x.number)
  numbers_same = j.numbered b (subst (λ (t : TopologyView). b < length t.brokers) (sym k.topo) lt) ∙ sym (i.numbered b lt)

  -- it is barred now where it was
  pub barred_on : IsWakeBarred a b q → IsWakeBarred c b q
  barred_on h =
      bars_moved q a.topo c.topo (let x : BrokerView = broker_in a b in x.number) (let x : BrokerView = broker_in c b in x.number) a.clock c.clock (view_in (broker_in a b) q) (view_in (broker_in c b) q) (log_in (broker_in a b) q) (log_in (broker_in c b) q)
      (sym k.topo) (sym numbers_same) (sym k.clock) (sym same.view) (sym same.log) h

  -- and was where it is
  pub barred_back : IsWakeBarred c b q → IsWakeBarred a b q
  barred_back h =
      bars_moved q c.topo a.topo (let x : BrokerView = broker_in c b in x.number) (let x : BrokerView = broker_in a b in x.number) c.clock a.clock (view_in (broker_in c b) q) (view_in (broker_in a b) q) (log_in (broker_in c b) q) (log_in (broker_in a b) q)
      k.topo numbers_same k.clock same.view same.log h

-- None of the publishers before is barred

pub none_next : (b p : ℕ) (a old : WorldView) (ls : List Report) → IsWorld a → IsWorld old → Keeps a old → b < length a.topo.brokers → AsBefore b p a old
    → (let r : Result (List Report) WorldFault = Ok ls in IsErrOf r fault.Reopen ↔ IsWakeBarred old b p)
    → ((q : ℕ) → q < p → IsWakeBarred a b q → ⊥) → (q : ℕ) → q < p + 1 → IsWakeBarred a b q → ⊥
none_next b p a old ls i j k lt same reopens none q below h = go (cases_eq q p)
  where
    told : ◌≡◌ {A = Result (List Report) WorldFault} (Ok ls) (Err fault.Reopen) → ⊥
    told e = cc

    go : (q ≡ p) ⊎ (q ≢ p) → ⊥
    go (inl e) = told (reopens.1 (barred_on b p a old i j k lt same (subst (IsWakeBarred a b) e h)))
    go (inr n) = none q (omega (arith, n, below)) h

pub none_barred : (b n i : ℕ) (w : WorldView) → n ≡ length w.topo.publishers → n ≤ i → ((q : ℕ) → q < i → IsWakeBarred w b q → ⊥) → BarsWake w b → ⊥
none_barred b n i w e le none h = none h.publisher (omega (arith, h.below, e, le)) h.barred

-- the fault at one is where that one is barred
pub fault_barred : (b p : ℕ) (a old : WorldView) (e : WorldFault) → IsWorld a → IsWorld old → Keeps a old → b < length a.topo.brokers → p < length a.topo.publishers → AsBefore b p a old
    → (let r : Result (List Report) WorldFault = Err e in IsErrOf r fault.Reopen ↔ IsWakeBarred old b p) → IsCarried (Err e) → ReopensWhere (BarsWake a b) (Err e)
fault_barred b p a old e i j k lt below same reopens c =
    reopens_fault (BarsWake a b) e c (λ h. record {
      publisher = p;
      below = below;
      barred = barred_back b p a old i j k lt same (reopens.0 (ap (λ (x : WorldFault). let r : Result (List Report) WorldFault = Err x in r) h));
    })

-- A log that was silent for long

marked : (log : Log) (now quiet : ℕ) → log.settled + quiet ≤ now → IsSome (mark_of (quieted log now quiet))
unfolding quieted
marked log now quiet h = rw (mark_of, le-leb (log.settled + quiet) now h) refl

-- a wake of its host is to mark it
pub due_barred : (w : WorldView) (p : ℕ) → p < length w.topo.publishers → IsDue w p → IsWakeBarred w (host_of w.topo p) p
due_barred w p lt d = (
  d.broken,
  inl (marked (log_said (log_at w p)) w.clock w.topo.settings.quiet (subst (λ (l : Log). l.settled + w.topo.settings.quiet ≤ w.clock) (log_is w p lt) d.silent)),
)

-- it stays so while others are called
pub due_kept : (a c : WorldView) (p : ℕ) (r : Result (List Report) WorldFault) → p < length a.topo.publishers → Ran a c r → IsDue a p → IsDue c p
due_kept a c p r lt x d =
    let same : log_at c p ≡ log_at a p = x.closed p lt d.broken in
    let here : p < length c.topo.publishers = subst (λ (t : TopologyView). p < length t.publishers) (sym x.keeps.topo) lt in
    let log : log_of (world_of c) p ≡ log_of (world_of a) p = log_is c p here ∙ (ap log_said same ∙ sym (log_is a p lt)) in
    record {
      broken = ap is_broken same ∙ d.broken;
      silent = subst (λ (l : Log). l.settled + c.topo.settings.quiet ≤ c.clock) (sym log)
          (subst (λ (t : TopologyView). (log_of (world_of a) p).settled + t.settings.quiet ≤ c.clock) (sym x.keeps.topo)
          (subst (λ n. (log_of (world_of a) p).settled + a.topo.settings.quiet ≤ n) (sym x.keeps.clock) d.silent));
    }

-- One broker after another

abbrev stands : List ℕ → ℕ → Bool
stands bs h = list_any (λ x. nat_eq x h) bs

-- the host is still to come, since its wake would have been refused
pub host_left : (a old : WorldView) (p b : ℕ) (left rest : List ℕ) (ls all : List Report) (told : Result (List Report) WorldFault) → p < length a.topo.publishers → left ≡ b ∷ rest → Joins ls told (Ok all) → Ran a old (Ok ls)
    → (IsWakeBarred old b p → IsErrOf told fault.Reopen) → IsDue a p → HasHost a p left → HasHost a p rest
host_left a old p b left rest ls all told lt e j x bars d has = go (or_cases (nat_eq b (host_of a.topo p)) (stands rest (host_of a.topo p)) (ap (λ zs. stands zs (host_of a.topo p)) (sym e) ∙ has)) told j bars
  where
    due : IsDue old p
    due = due_kept a old p (Ok ls) lt x d

    here : b ≡ host_of a.topo p → IsWakeBarred old b p
    here at =
        subst (λ c. IsWakeBarred old c p) (ap (λ (t : TopologyView). host_of t p) x.keeps.topo ∙ sym at)
        (due_barred old p (subst (λ (t : TopologyView). p < length t.publishers) (sym x.keeps.topo) lt) due)

    go : (nat_eq b (host_of a.topo p) ≡ true) ⊎ (stands rest (host_of a.topo p) ≡ true) → (r : Result (List Report) WorldFault) → Joins ls r (Ok all) → (IsWakeBarred old b p → IsErrOf r fault.Reopen) → HasHost a p rest
    go (inr y) r k bar = y
    go (inl y) (Ok more) k bar = absurd (cc (bar (here (eqb-true b (host_of a.topo p) y))))
    go (inl y) (Err f) k bar = absurd k

-- with none left it has come, so lines are not told
pub host_passed : (w : WorldView) (p : ℕ) (ls : List Report) (left : List ℕ) → left ≡ [] → HasHost w p left → (let r : Result (List Report) WorldFault = Ok ls in IsErr r)
host_passed w p ls left e has = absurd (false≢true (sym (ap (λ zs. stands zs (host_of w.topo p)) e) ∙ has))

-- a sweep comes to it
pub host_inwards : (w : WorldView) (p : ℕ) (bs : List ℕ) → IsNet (net_in w) → p < length w.topo.publishers → bs ≡ inwards (net_in w) p → HasHost w p bs
host_inwards w p bs n lt e =
    let h = n.host_in p lt in
    ap (λ zs. stands zs (host_of w.topo p)) e ∙ stands_inwards (net_in w) p (host_of w.topo p) h (n.depth_in p (host_of w.topo p) lt h)

-- At a sweep's moment each log was silent for long

greatest_above : (ns : List ℕ) (i : ℕ) → i < length ns → get_or ns i 0 ≤ greatest_settled ns
greatest_above [] i h = absurd (omega arith)
greatest_above (n ∷ ns) zero h = omega arith
greatest_above (n ∷ ns) (suc i) h = omega (arith, greatest_above ns i (omega arith))

pub due_at : (w : WorldView) (m p : ℕ) → m ≡ sweep_moment (net_in w) (world_of w) → p < length w.topo.publishers → length (let u : World = world_of w in u.logs) ≡ length w.topo.publishers → is_broken (log_at w p) ≡ true → IsDue (at_moment w m) p
unfolding sweep_moment
due_at w m p moment lt many broken =
    let logs : List Log = (let u : World = world_of w in u.logs) in
    let e : get_or (map (λ (l : Log). l.settled) logs) p 0 ≡ (log_of (world_of w) p).settled = get_map (λ (l : Log). l.settled) logs p empty_log in
    let b = greatest_above (map (λ (l : Log). l.settled) logs) p (omega (arith, length-map logs (λ (l : Log). l.settled), many, lt)) in
    record { broken = broken; silent = omega (arith, moment, e, b) }

-- One publisher's sweep after another

-- none of those before is due, since its sweep would have failed
pub due_next : (a old : WorldView) (p : ℕ) (ls all : List Report) (told : Result (List Report) WorldFault) → Joins ls told (Ok all) → Ran a old (Ok ls) → (IsDue old p → IsErr told)
    → ((q : ℕ) → q < p → q < length a.topo.publishers → IsDue a q → ⊥) → (q : ℕ) → q < p + 1 → q < length a.topo.publishers → IsDue a q → ⊥
due_next a old p ls all (Err g) j x bars none q below lt d = absurd j
due_next a old p ls all (Ok more) j x bars none q below lt d = go (cases_eq q p)
  where
    go : (q ≡ p) ⊎ (q ≢ p) → ⊥
    go (inl e) = false≢true (bars (due_kept a old p (Ok ls) (subst (λ k. k < length a.topo.publishers) e lt) x (subst (IsDue a) e d)))
    go (inr n) = none q (omega (arith, n, below)) lt d

-- The calls of a world

none_some : (o : Option ℕ) → o ≡ None → IsSome o → ⊥
none_some None e h = false≢true h
none_some (Some x) e h = cc

-- nothing is there
pub none_there : (o : Option ℕ) → is_some o ≡ false → o ≡ None
none_there None h = refl
none_there (Some b) h = absurd (false≢true (sym h))

-- where no broker is down, a wake is refused where it is barred
pub wake_reopens : (old : WorldView) (barred : Type 0) (r result : Result (List Report) WorldFault) → result ≡ r → old.down ≡ None → ReopensWhere barred r → ReopensWhere (IsSome old.down ⊎ barred) result
wake_reopens old barred r result same up h = subst (ReopensWhere (IsSome old.down ⊎ barred)) (sym same) (λ m d. (λ e. inr ((h m d).0 e), λ x. elim x [ inl some ↦ absurd (none_some old.down up some) | inr b ↦ (h m d).1 b ]))

-- and a sweep where a log is broken
pub sweep_reopens : (old mid : WorldView) (m : ℕ) (r result : Result (List Report) WorldFault) → m ≡ sweep_moment (net_in old) (world_of old) → length (let u : World = world_of old in u.logs) ≡ length old.topo.publishers
    → mid ≡ at_moment old m → result ≡ r → IsCarried r → (r ≡ Err fault.Reopen → HasBroken mid) → ((p : ℕ) → p < length mid.topo.publishers → IsDue mid p → IsErr r) → old.down ≡ None → ReopensWhere (IsSome old.down ⊎ HasBroken old) result
sweep_reopens old mid m r result moment many clock same c there bars up = wake_reopens old (HasBroken old) r result same up (go r c here due)
  where
    here : r ≡ Err fault.Reopen → HasBroken old
    here e = let z = subst HasBroken clock (there e) in record { publisher = z.publisher; below = z.below; broken = z.broken }

    due : HasBroken old → IsErr r
    due z =
        let moved : (p : ℕ) → p < length old.topo.publishers → IsDue (at_moment old m) p → IsErr r = subst (λ (v : WorldView). (p : ℕ) → p < length v.topo.publishers → IsDue v p → IsErr r) clock bars in
        moved z.publisher z.below (due_at old m z.publisher moment z.below many z.broken)

    go : (x : Result (List Report) WorldFault) → IsCarried x → (x ≡ Err fault.Reopen → HasBroken old) → (HasBroken old → IsErr x) → ReopensWhere (HasBroken old) x
    go (Ok ls) k f g = reopens_never (HasBroken old) ls (λ z. false≢true (g z))
    go (Err e) k f g = reopens_fault (HasBroken old) e k (λ h. f (ap (λ (y : WorldFault). let q : Result (List Report) WorldFault = Err y in q) h))
