-- What comes is written behind its line: what a call of a turn leaves, by what was answered before and what is answered now
use Rattle.std.proofs.Common.{◌≡◌, ◌≢◌, ◌⊎◌, inl, inr, ℕ, min, Bool, true, false, List, [], ◌∷◌, ◌++◌, Option, Result, Ok, Err, OnOk, IfErr, refl, sym, ap, ◌∙◌, subst, append-nil}
use Rattle.std.specs.Prelude.{if◌then◌else◌}
use Rattle.gr_out.specs.declared.fault.RunFault.{RunFault}
use Rattle.gr_out.specs.declared.fault.RunFault.TheVariants as run
use Rattle.gr_out.specs.Entry.{Entry}
use Rattle.gr_out.specs.Lane.{Lane}
use Rattle.gr_out.proofs.Fronts.{front-nothing}
use Rattle.gr_topo.specs.Topology.{TopologyView, IsTopology}
use Rattle.gr_model.specs.NetOf.{net_of}
use Rattle.gr_model.specs.Broker.{max_tick}
use Rattle.gr_model.specs.Arrivals.{Arrival, datagram, Request}
use Rattle.gr_journal.specs.Lines.{arrival_text}
use Rattle.gr_node.specs.Seen.{NodeView}
use Rattle.gr_node.specs.Keeps.{IsServing}
use Rattle.gr_node.specs.Plan.{Act, settles, is_ours, datagram_acts, acts_of, led_to}
use Rattle.gr_node.specs.Done.{all_done, at_arrival}
use Rattle.gr_node.specs.Went.{IsExact, IsCallFault, IsTurnFault, DiskMoves}
use Rattle.gr_trace.specs.declared.gathering.Gathered.{Gathered}
use Rattle.gr_trace.specs.Gathered.{IsEmpty, IsBetween, Gathers}
use Rattle.gr_trace.specs.Traced.{noted}
use Rattle.gr_trace.specs.Wrote.{line_of, written_at, Wrote, Writes}
use Rattle.gr_trace.proofs.Groups.{acts_tell}
use Rattle.gr_trace.proofs.Written.{led, exact_or, wrote_of}
use Rattle.gr_trace.proofs.Replies.{ok_err}
use Rattle.gr_trace.proofs.Turns.{more_none}

abbrev Answer : Type 0
Answer = Result (Unit {0}) RunFault

-- What was answered before, where it is known what was done

pub ok_from : (done result : Answer) (P : Type 0) → (IsExact result → result ≡ done) → OnOk done P → OnOk result P
ok_from done (Ok x) P same h = subst (λ (r : Answer). OnOk r P) (sym (same tt)) h
ok_from done (Err e) P same h = tt

pub err_from : (done result : Answer) (e : RunFault) → IsExact {T = Unit {0}} (Err e) → (IsExact result → result ≡ done) → result ≡ Err e → done ≡ Err e
err_from done result e exact same is = sym (same (subst (λ (r : Answer). IsExact r) (sym is) exact)) ∙ is

else_exact : (r : Answer) → r ≢ Err run.Write → r ≢ Err run.Memory → IsExact r
else_exact (Ok x) w m = tt
else_exact (Err run.Memory) w m = absurd (m refl)
else_exact (Err run.Write) w m = absurd (w refl)
else_exact (Err run.Disk) w m = tt
else_exact (Err run.Post) w m = tt
else_exact (Err (run.Damaged p at)) w m = tt

pub moves_from : (f s f' s' : ℕ) (done result : Answer) → (IsExact result → result ≡ done) → DiskMoves f s f' s' done → DiskMoves f s f' s' result
moves_from f s f' s' done result same m = elim (exact_or result) [
  | inl exact ↦ subst (λ (r : Answer). DiskMoves f s f' s' r) (sym (same exact)) m
  | inr unknown ↦ record {
    faults_never_fall = m.faults_never_fall;
    stops_never_fall = m.stops_never_fall;
    same = λ d w k. absurd (unknown (else_exact result w k));
    rose = λ is. absurd (unknown (subst (λ (r : Answer). IsExact r) (sym is) tt));
  }
]

-- all is as between two arrivals, where the call came through
pub between_of : (t : TopologyView) (hosted : List ℕ) (tells : Type 0) (lanes : ℕ → Lane) (n : NodeView) (g : Gathered) (held : List ℕ) (result : Answer)
    → OnOk result (IsServing t hosted tells lanes n) → OnOk result (IsEmpty g) → OnOk result (held ≡ []) → OnOk result (IsBetween t hosted tells lanes n g held)
between_of t hosted tells lanes n g held (Ok x) serving empty written = record { serving = serving; empty = empty; written = written }
between_of t hosted tells lanes n g held (Err e) serving empty written = tt

turn_fault : (e : RunFault) → IsCallFault e → IsTurnFault e
turn_fault run.Memory h = tt
turn_fault run.Disk h = tt
turn_fault run.Write h = absurd h
turn_fault run.Post h = absurd h
turn_fault (run.Damaged p at) h = absurd h

pub cause_from : (done result : Answer) → IfErr done IsCallFault → IfErr result (λ e. (done ≡ Err e) ⊎ ((e ≡ run.Memory) ⊎ (e ≡ run.Write))) → IfErr result IsTurnFault
cause_from done (Ok x) cause h = tt
cause_from done (Err e) cause (inl is) = turn_fault e (subst (λ (r : Answer). IfErr r IsCallFault) is cause)
cause_from done (Err e) cause (inr (inl is)) = subst IsTurnFault (sym is) tt
cause_from done (Err e) cause (inr (inr is)) = subst IsTurnFault (sym is) tt

-- What an arrival leads to, where it is one of ours

pub led_ours : (t : TopologyView) (hosted : List ℕ) (left : List Request) (a : Arrival) → is_ours hosted a ≡ true → led (acts_of (net_of t) hosted left a) ≡ led_to (net_of t) hosted left a
led_ours t hosted left a ours = ap (λ (q : Bool). acts_of (net_of t) hosted left a ++ (if q then settles ∷ [] else [])) (sym ours)

pub line_ours : (t : TopologyView) (hosted : List ℕ) (a : Arrival) → is_ours hosted a ≡ true → line_of t hosted a ≡ arrival_text t (noted a)
line_ours t hosted a ours = ap (λ (q : Bool). if q then arrival_text t (noted a) else []) ours

-- its group was written
pub wrote_came : (t : TopologyView) (hosted : List ℕ) → IsTopology t → (tells : Type 0) (left : List Request) (a : Arrival) → is_ours hosted a ≡ true → (n n' : NodeView) (g : Gathered) (first : List ℕ) (before after : Option (List ℕ)) (journal journal' : List Entry) (done result : Answer)
    → first ≡ arrival_text t (noted a) → Writes t tells g first done before after journal journal' result → IfErr done IsCallFault
    → (IsExact done → Gathers t hosted (led_to (net_of t) hosted left a) n n' g.lines.held g.offers done)
    → Wrote t hosted tells (led_to (net_of t) hosted left a) n n' (line_of t hosted a) before after journal journal' result
wrote_came t hosted topology tells left a ours n n' g first before after journal journal' done result line w cause gathers =
    let acts : List Act = acts_of (net_of t) hosted left a in
    subst (λ (xs : List ℕ). Wrote t hosted tells (led_to (net_of t) hosted left a) n n' xs before after journal journal' result) (line ∙ sym (line_ours t hosted a ours))
    (subst (λ (all : List Act). Wrote t hosted tells all n n' first before after journal journal' result) (led_ours t hosted left a ours)
    (wrote_of t hosted topology tells acts (acts_tell (net_of t) hosted left a) n n' g first before after journal journal' done result w cause
    (λ exact. subst (λ (all : List Act). Gathers t hosted all n n' g.lines.held g.offers done) (sym (led_ours t hosted left a ours)) (gathers exact))))

-- there was no memory for its line
pub wrote_unput : (t : TopologyView) (hosted : List ℕ) (tells : Type 0) (acts : List Act) (n n' : NodeView) (first : List ℕ) (before : Option (List ℕ)) (journal : List Entry)
    → Wrote {T = Unit {0}} t hosted tells acts n n' first before before journal journal (Err run.Memory)
wrote_unput t hosted tells acts n n' first before journal = record {
  made = [];
  left = acts;
  parts = refl;
  whole = tt;
  node = λ x. absurd x;
  wrote = λ x. absurd x;
  sent = λ x. absurd x;
  refused = λ h. cc;
  given_up = λ h. cc;
  front = front-nothing before before (first ++ written_at t hosted n [] acts) refl;
  sent_front = λ unknown h. record { part = []; rest = (all_done t hosted n acts).entries; whole = refl; are = sym (append-nil journal) };
}

-- A datagram for a broker elsewhere is passed over

nothing_wrote : (t : TopologyView) (hosted : List ℕ) (tells : Type 0) (n : NodeView) (before : Option (List ℕ)) (journal : List Entry) (x : Unit {0}) → Wrote {T = Unit {0}} t hosted tells [] n n [] before before journal journal (Ok x)
unfolding written_at all_done
nothing_wrote t hosted tells n before journal x = record {
  made = [];
  left = [];
  parts = refl;
  whole = refl;
  node = λ exact none. refl;
  wrote = λ exact. more_none before;
  sent = λ exact h. sym (append-nil journal);
  refused = λ h. absurd (ok_err x run.Disk h);
  given_up = λ h. absurd (ok_err x run.Post h);
  front = tt;
  sent_front = λ unknown h. absurd (unknown tt);
}

pub wrote_elsewhere : (t : TopologyView) (hosted : List ℕ) (tells : Type 0) (left : List Request) (b : ℕ) (bytes : List ℕ) (moment : ℕ) → is_ours hosted (datagram b bytes moment) ≡ false → (n : NodeView) (before : Option (List ℕ)) (journal : List Entry) (x : Unit {0})
    → Wrote {T = Unit {0}} t hosted tells (led_to (net_of t) hosted left (datagram b bytes moment)) (at_arrival hosted n (datagram b bytes moment)) n (line_of t hosted (datagram b bytes moment)) before before journal journal (Ok x)
wrote_elsewhere t hosted tells left b bytes moment elsewhere n before journal x =
    subst (λ (q : Bool). Wrote {T = Unit {0}} t hosted tells ((if q then datagram_acts (net_of t) b bytes else []) ++ (if q then settles ∷ [] else []))
    (if q then record { brokers = n.brokers; offers = n.offers; now = min moment max_tick; orders = n.orders } else n) n (if q then arrival_text t (noted (datagram b bytes moment)) else []) before before journal journal (Ok x))
    (sym elsewhere) (nothing_wrote t hosted tells n before journal x)
