-- The lanes of brokers that start one after another: each broker finds what its lanes held at first, since the publishers of no other
-- broker have a lane with it; and what stands of those before is left alone.
use Rattle.std.proofs.Common.{◌≡◌, ◌≢◌, ◌⊎◌, inl, inr, ℕ, suc, ◌<◌, true, false, nat_eq, List, [], ◌∷◌, ◌++◌, length, take, Option, Some, Ok, Result, is_some, IsSome, refl, sym, ap, ◌∙◌, subst, arith}
use Rattle.std.specs.Prelude.{IsOk, is_ok}
use Rattle.std.proofs.lemmas.Bool.{false≢true, or_cases, eqb-true}
use Rattle.gr_out.specs.Lane.{Lane, content}
use Rattle.gr_out.specs.Journal.{is_among}
use Rattle.gr_publog.specs.Lanes.{Found as LaneFound, lanes_text}
use Rattle.gr_publog.specs.Views.{LogView, Lanes, lanes_at, AwayFrom, IsReady}
use Rattle.gr_pubend.specs.Log.{said}
use Rattle.gr_topo.specs.Topology.{TopologyView, host_of}
use Rattle.gr_model.specs.Net.{is_host}
use Rattle.gr_model.specs.NetOf.{net_of}
use Rattle.gr_model.specs.Orders.{Order}
use Rattle.gr_broker.specs.Lanes.{log_lane}
use Rattle.gr_broker.specs.Seen.{BrokerView, log_in, log_said, machine_log}
use Rattle.gr_broker.specs.Of.{LogsStand}
use Rattle.gr_broker.specs.Opened.{OpensLanes, IsDamagedAt, found_at}
use Rattle.gr_node.specs.Seen.{NodeView, broker_in, log_at}
use Rattle.gr_node.specs.Of.{AllStand, OthersStay}
use Rattle.gr_node.specs.Starting.{Found, OpensAsLog, IsFirstDamaged}
use Rattle.gr_node.specs.Begun.{HasBegun}
use Rattle.gr_report.proofs.Hosts.{host_is, is_host_at, log_hosted, hosted_log}
use Rattle.gr_node.proofs.Pairs.{lanes_same, away}
use Rattle.gr_node.proofs.StartingOrder.{among_front, among_last, among_taken, IsNext}
use Rattle.gr_node.proofs.StartingNodes.{HaveBegun, with_broker, which_is, begun_broker}

-- the lanes of publishers at other brokers stay
abbrev pub OnlyAt : TopologyView → ℕ → (ℕ → Lane) → (ℕ → Lane) → Type 0
OnlyAt t b before after = (n : ℕ) → ((p : ℕ) → p < length t.publishers → is_host (net_of t) p b ≡ true → AwayFrom (log_lane p) n) → after n ≡ before n

-- What these brokers have found is what the lanes held at first; they stand as they were left; and none was touched but theirs
pub record HaveFound (t : TopologyView) (bs : List ℕ) (n : NodeView) (before after : ℕ → Lane) : Type 0 where
  pub found : (b : ℕ) (x : BrokerView) → broker_in n b ≡ Some x
      → (p : ℕ) (l : LogView) → log_in x p ≡ Some l → OpensAsLog t.late (log_lane p) (lanes_at before (log_lane p)) (said l)
  pub stands : AllStand after n
  pub others : OthersStay t bs before after

-- before the first
pub none_found : (t : TopologyView) (n : NodeView) (before after : ℕ → Lane) → HaveBegun t [] n → ((k : ℕ) → after k ≡ before k) → HaveFound t [] n before after
none_found t n before after s same = record {
  found = λ b x e. absurd (nobody b x e);
  stands = λ b x e. absurd (nobody b x e);
  others = λ k h. same k;
}
  where
    nobody : (b : ℕ) (x : BrokerView) → broker_in n b ≡ Some x → ⊥
    nobody b x e = false≢true (sym (s.hosts b) ∙ ap (λ (o : Option BrokerView). is_some o) e)

module _ (t : TopologyView) (bs : List ℕ) (n : NodeView) (b : ℕ) (before mid after : ℕ → Lane)
    (s : HaveBegun t bs n) (new : is_among bs b ≡ false) (sofar : HaveFound t bs n before mid) (others : OnlyAt t b mid after) where
  -- the lanes of a broker that is still to start are as they were at first
  pub lanes_first : (p : ℕ) → host_of t p ≡ b → lanes_at mid (log_lane p) ≡ lanes_at before (log_lane p)
  lanes_first p there =
      let apart : (q : ℕ) → is_among bs (host_of t q) ≡ true → p ≢ q = λ q m e. false≢true (sym new ∙ (ap (is_among bs) (sym there ∙ ap (host_of t) e) ∙ m)) in
      lanes_same before mid (log_lane p) (sofar.others (log_lane p) (λ q j m. (away q p (apart q m)).0)) (sofar.others (suc (log_lane p)) (λ q j m. (away q p (apart q m)).1))

  -- a start touches none but its own
  pub touched_more : OthersStay t (bs ++ b ∷ []) before after
  touched_more k h =
      others k (λ p j here. h p j (ap (is_among (bs ++ b ∷ [])) (host_is t p b here) ∙ among_last bs b))
      ∙ sofar.others k (λ p j m. h p j (among_front bs (b ∷ []) (host_of t p) m))

  -- so those of another broker stand as they did
  stand_still : (a : ℕ) (y : BrokerView) → a ≢ b → HasBegun t a y → LogsStand mid y → LogsStand after y
  stand_still a y apart one stand p l e =
      let at = log_hosted t a y one.fits one.number p l e in
      let other : (q : ℕ) → is_host (net_of t) q b ≡ true → p ≢ q = λ q here e. apart (sym at.1 ∙ (ap (host_of t) e ∙ host_is t q b here)) in
      let same : lanes_at after (log_lane p) ≡ lanes_at mid (log_lane p) =
      lanes_same mid after (log_lane p) (others (log_lane p) (λ q j here. (away q p (other q here)).0)) (others (suc (log_lane p)) (λ q j here. (away q p (other q here)).1)) in
      subst (λ (ls : Lanes). IsReady l ls) (sym same) (stand p l e)

  apart_from_new : (a : ℕ) (y : BrokerView) → broker_in n a ≡ Some y → a ≢ b
  apart_from_new a y e same = false≢true (sym new ∙ ap (is_among bs) (sym same) ∙ sym (s.hosts a) ∙ ap (λ (o : Option BrokerView). is_some o) e)

  -- a broker that did not start has left all that stood
  pub found_failed : HaveFound t (bs ++ b ∷ []) n before after
  found_failed = record {
    found = sofar.found;
    stands = λ a y e. stand_still a y (apart_from_new a y e) (s.each a y e) (sofar.stands a y e);
    others = touched_more;
  }

  -- one that did has found what its lanes held at first
  pub found_more : (x : BrokerView) (os : List Order) → b < length t.brokers → HasBegun t b x → OpensLanes t x mid after → LogsStand after x → HaveFound t (bs ++ b ∷ []) (with_broker n b x os) before after
  found_more x os j one opens stand = record {
    found = which_is t n b x os s.count j
        (λ a y. (p : ℕ) (l : LogView) → log_in y p ≡ Some l → OpensAsLog t.late (log_lane p) (lanes_at before (log_lane p)) (said l))
        (λ p l e. let at = log_hosted t b x one.fits one.number p l e in
        subst (λ (ls : Lanes). OpensAsLog t.late (log_lane p) ls (said l)) (lanes_first p at.1) (l, (opens.opened p l e).gives, refl))
        (λ a y apart e. sofar.found a y e);
    stands = which_is t n b x os s.count j (λ a y. LogsStand after y) stand (λ a y apart e. stand_still a y apart (s.each a y e) (sofar.stands a y e));
    others = touched_more;
  }

-- What has been found, by publishers

module _ (t : TopologyView) (bs cs : List ℕ) (n : NodeView) (before after : ℕ → Lane) (s : HaveBegun t bs n) (f : HaveFound t cs n before after) where
  -- the lanes of a publisher held its log
  found_at_host : (p b : ℕ) (x : BrokerView) → p < length t.publishers → host_of t p ≡ b → broker_in n b ≡ Some x → OpensAsLog t.late (log_lane p) (lanes_at before (log_lane p)) (machine_log x p)
  found_at_host p b x j there e =
      let one = s.each b x e in
      let l = hosted_log t b x one.fits one.number p j there in
      subst (λ (o : Option LogView). OpensAsLog t.late (log_lane p) (lanes_at before (log_lane p)) (log_said o)) (sym l.1) (f.found b x e p l.0 l.1)

  pub all_found : (b : ℕ) → IsSome (broker_in n b) → Found t n (b ∷ []) before
  all_found b here p j m =
      let there : host_of t p ≡ b = sym (eqb-true b (host_of t p) (one_of m)) in
      let x = begun_broker t bs n s b (sym (s.hosts b) ∙ here) in
      subst (λ (o : Option BrokerView). OpensAsLog t.late (log_lane p) (lanes_at before (log_lane p)) (log_at o p)) (sym (ap (broker_in n) there ∙ x.1))
      (found_at_host p b x.0 j there x.1)
    where
      one_of : is_among (b ∷ []) (host_of t p) ≡ true → nat_eq b (host_of t p) ≡ true
      one_of m = elim (or_cases (nat_eq b (host_of t p)) false m) [ inl e ↦ e | inr e ↦ absurd (false≢true e) ]

  -- and so they read
  reads : (p : ℕ) → p < length t.publishers → is_among bs (host_of t p) ≡ true → IsOk (found_at t before p)
  reads p j m =
      let x = begun_broker t bs n s (host_of t p) m in
      let k = found_at_host p (host_of t p) x.0 j refl x.1 in
      is_ok_of (found_at t before p) k.1.0 k.1.1
    where
      is_ok_of : (r : Result LaneFound ℕ) (x : LaneFound) → r ≡ Ok x → IsOk r
      is_ok_of r x e = ap (λ (o : Result LaneFound ℕ). is_ok o) e

-- The first lane that holds no log, of the next broker, is the first of all

pub first_damaged : (t : TopologyView) (hosted : List ℕ) (i b : ℕ) (n : NodeView) (before mid after : ℕ → Lane)
    → HaveBegun t (take i hosted) n → IsNext hosted i b → HaveFound t (take i hosted) n before mid → OnlyAt t b mid after
    → (p at : ℕ) → IsDamagedAt t b p at mid → IsFirstDamaged t hosted p at before
first_damaged t hosted i b n before mid after s next f others p at d = record {
  publisher = d.publisher;
  here = ap (is_among hosted) there ∙ next.here;
  fault = sym (first p there) ∙ d.fault;
  before = λ q j h order. go q j h order;
}
  where
    there : host_of t p ≡ b
    there = host_is t p b d.hosted

    first : (q : ℕ) → host_of t q ≡ b → found_at t mid q ≡ found_at t before q
    first q at = ap (λ (ls : Lanes). lanes_text t.late (content ls.first) (content ls.second)) (lanes_first t (take i hosted) n b before mid after s next.new f others q at)

    go : (q : ℕ) → q < length t.publishers → is_among hosted (host_of t q) ≡ true → (host_of t q < host_of t p) ⊎ ((host_of t q ≡ host_of t p) × (q < p)) → IsOk (found_at t before q)
    go q j h (inl less) = reads t (take i hosted) (take i hosted) n before mid s f q j (next.before (host_of t q) h (omega (arith, less, there)))
    go q j h (inr same) = subst (λ (r : Result LaneFound ℕ). IsOk r) (first q (same.0 ∙ there)) (d.before q same.1 (is_host_at t q b (same.0 ∙ there)))

-- the lanes that were touched are those of hosted brokers
pub touched_hosted : (t : TopologyView) (hosted : List ℕ) (k : ℕ) (before after : ℕ → Lane) → OthersStay t (take k hosted) before after → OthersStay t hosted before after
touched_hosted t hosted k before after h n apart = h n (λ p j m. apart p j (among_taken k hosted (host_of t p) m))
