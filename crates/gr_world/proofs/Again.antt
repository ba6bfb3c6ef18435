-- A broker's lanes crash, and it starts again over them: only its publishers' lanes are touched, each is opened as the crash left it, and
-- the new broker stands in the place of the old.
use Rattle.std.proofs.Common.{◌≡◌, ◌≢◌, inl, inr, ℕ, suc, ◌+◌, ◌<◌, true, List, length, get_or, set, Some, Ok, Err, refl, sym, ap, ◌∙◌, subst, arith}
use Rattle.std.proofs.lemmas.Bool.{cases_lt, cases_eq}
use Rattle.std.proofs.lemmas.List.{get_or-set_same}
use Rattle.gr_out.specs.Lane.{Lane, content}
use Rattle.gr_publog.specs.Lanes.{lanes_text}
use Rattle.gr_publog.specs.Views.{Lanes, lanes_at, AwayFrom}
use Rattle.gr_publog.specs.Opens.{Opens}
use Rattle.gr_topo.specs.Topology.{TopologyView, host_of}
use Rattle.gr_model.specs.Net.{is_host}
use Rattle.gr_model.specs.NetOf.{net_of}
use Rattle.gr_broker_relay.specs.declared.outcome.Outcome.{Outcome as BrokerOutcome}
use Rattle.gr_broker.specs.Lanes.{log_lane, AreUnset}
use Rattle.gr_broker.specs.Seen.{BrokerView, log_in}
use Rattle.gr_broker.specs.Opened.{StartsOver, OpensLanes, LosesNothing, IsDamagedAt}
use Rattle.gr_world.specs.Seen.{no_broker}
use Rattle.gr_world.specs.Lanes.{crashed_lanes}
use Rattle.gr_world.specs.Starting.{CrashesLanes, IsExchanged, OpensAgain, TouchesLanes, LeavesNoLog}
use Rattle.gr_report.proofs.Hosts.{host_is, is_host_at, log_hosted, own_lanes}
use Rattle.gr_world.proofs.Lanes.{lanes_same}
use Rattle.gr_world.proofs.Brokers.{has_started}

-- The crash

module _ (t : TopologyView) (b n : ℕ) (before mid after : ℕ → Lane) where
  -- the lanes of one publisher more
  pub crashes_next : CrashesLanes t b n before mid → (host_of t n ≡ b → lanes_at after (log_lane n) ≡ crashed_lanes (lanes_at mid (log_lane n))) → (host_of t n ≢ b → (k : ℕ) → after k ≡ mid k)
      → ((k : ℕ) → AwayFrom (log_lane n) k → after k ≡ mid k) → CrashesLanes t b (n + 1) before after
  crashes_next s one below others = record {
    here = λ p j at. elim (cases_lt p n) [
      | inl k ↦
          let away = own_lanes p n (λ e. omega (arith, k, e)) in
          lanes_same mid after (log_lane p) (others (log_lane p) away.0) (others (suc (log_lane p)) away.1) ∙ s.here p k at
      | inr k ↦
          let e : p ≡ n = omega (arith, k, j) in
          subst (λ (q : ℕ). lanes_at after (log_lane q) ≡ crashed_lanes (lanes_at before (log_lane q))) (sym e) (one (ap (host_of t) (sym e) ∙ at) ∙ ap crashed_lanes next_lanes)
    ];
    others = λ k h. elim (cases_eq (host_of t n) b) [
      | inl at ↦ others k (h n (omega arith) at) ∙ rest k h
      | inr not ↦ below not k ∙ rest k h
    ];
  }
    where
      next_lanes : lanes_at mid (log_lane n) ≡ lanes_at before (log_lane n)
      next_lanes =
          lanes_same before mid (log_lane n)
          (s.others (log_lane n) (λ q j at. (own_lanes n q (λ e. omega (arith, j, e))).0))
          (s.others (suc (log_lane n)) (λ q j at. (own_lanes n q (λ e. omega (arith, j, e))).1))

      rest : (k : ℕ) → ((p : ℕ) → p < n + 1 → host_of t p ≡ b → AwayFrom (log_lane p) k) → mid k ≡ before k
      rest k h = s.others k (λ p j. h p (omega (arith, j)))

-- before the first
pub none_crashed : (t : TopologyView) (b : ℕ) (before : ℕ → Lane) → CrashesLanes t b 0 before before
none_crashed t b before = record { here = λ p j. absurd (omega (arith, j)); others = λ n h. refl }

-- The start

module _ (t : TopologyView) (b : ℕ) (before mid after : ℕ → Lane) (c : CrashesLanes t b (length t.publishers) before mid) where
  -- only its own lanes are touched
  pub touches_lanes : ((k : ℕ) → ((p : ℕ) → p < length t.publishers → is_host (net_of t) p b ≡ true → AwayFrom (log_lane p) k) → after k ≡ mid k)
      → ((p : ℕ) → p < length t.publishers → is_host (net_of t) p b ≡ true → LosesNothing t.late (lanes_at mid (log_lane p)) (lanes_at after (log_lane p))) → TouchesLanes t b before after
  touches_lanes others any = record {
    others = λ k h. others k (λ p j here. h p j (host_is t p b here)) ∙ c.others k h;
    any_moment = λ p j at. subst (λ (ls : Lanes). LosesNothing t.late ls (lanes_at after (log_lane p))) (c.here p j at) (any p j (is_host_at t p b at));
  }

  -- no stop is left on them
  pub unset_crashed : (p : ℕ) → p < length t.publishers → is_host (net_of t) p b ≡ true → AreUnset (lanes_at mid (log_lane p))
  unset_crashed p j here = subst AreUnset (sym (c.here p j (host_is t p b here))) (record { first = refl; second = refl })

  -- each is opened as the crash left it
  pub opens_again : (old new : List BrokerView) (v : BrokerView) (told : BrokerOutcome) → new ≡ set old b v → b < length old → StartsOver t b v told → OpensLanes t v mid after → OpensAgain t b new before after
  opens_again old new v told place j s opens p l e =
      let same : get_or new b no_broker ≡ v = ap (λ bs. get_or bs b no_broker) place ∙ get_or-set_same old b v no_broker j in
      let e' : log_in v p ≡ Some l = subst (λ (x : BrokerView). log_in x p ≡ Some l) same e in
      let at = log_hosted t b v s.fits s.number p l e' in
      subst (λ (ls : Lanes). Opens t.late (log_lane p) ls (lanes_at after (log_lane p)) (Ok l)) (c.here p at.0 at.1) (opens.opened p l e')

  -- lanes that hold no log are those that the crash left without
  pub damaged_again : (p at : ℕ) → IsDamagedAt t b p at mid → LeavesNoLog t b p at (lanes_at before (log_lane p))
  damaged_again p at d =
      let there = host_is t p b d.hosted in
      record {
        publisher = d.publisher;
        hosted = there;
        fault = subst (λ (ls : Lanes). lanes_text t.late (content ls.first) (content ls.second) ≡ Err at) (c.here p d.publisher there) d.fault;
      }

-- the new broker stands in the place of the old
pub exchanged : (t : TopologyView) (b : ℕ) (old new : List BrokerView) (v : BrokerView) (told : BrokerOutcome) → new ≡ set old b v → StartsOver t b v told → IsExchanged t b old new told.reports
exchanged t b old new v told place s = record { broker = v; place = place; started = has_started t b v told s; lines = s.lines }
