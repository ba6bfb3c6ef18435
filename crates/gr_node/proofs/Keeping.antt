-- What stays of a node when one of its brokers is called: who is hosted, and what holds between two calls
use Rattle.std.proofs.Common.{◌≡◌, ℕ, zero, suc, List, [], ◌∷◌, get_or, set, Option, Some, None, is_some, Result, Ok, Err, OnOk, refl, sym, ap, ◌∙◌, subst}
use Rattle.gr_out.specs.declared.fault.RunFault.{RunFault}
use Rattle.gr_out.specs.Lane.{Lane}
use Rattle.gr_topo.specs.Topology.{TopologyView}
use Rattle.gr_model.specs.Orders.{Order, AreOrdersOf, fed, without_ordered}
use Rattle.gr_model.proofs.Ordering.{fed_keeps, rested_keeps}
use Rattle.gr_broker_relay.specs.declared.outcome.Outcome.{Outcome}
use Rattle.gr_broker.specs.Seen.{BrokerView}
use Rattle.gr_node.specs.Seen.{NodeView, broker_in}
use Rattle.gr_node.specs.Keeps.{IsServing}
use Rattle.gr_node.specs.Of.{NodeFits, Hosts, IsSet, AllStand}
use Rattle.gr_node.specs.Plan.{Call, gets, publishes, joins, wakes}
use Rattle.gr_node.specs.Done.{Done, settled, broker_of, call_done, done_by, done_at}
use Rattle.gr_node.specs.Went.{Makes}

-- what holds anyhow holds after Ok
pub if_ok : {T E X : Type 0} (r : Result T E) → X → OnOk r X
if_ok (Ok x) h = h
if_ok (Err e) h = tt

-- a broker that is exchanged is still there, and so is each other
exchanged : (xs : List (Option BrokerView)) (b k : ℕ) (x y : BrokerView) → get_or xs b None ≡ Some x → is_some (get_or (set xs b (Some y)) k None) ≡ is_some (get_or xs k None)
exchanged [] b k x y e = refl
exchanged (z ∷ xs) zero zero x y e = sym (ap (λ (o : Option BrokerView). is_some o) e)
exchanged (z ∷ xs) zero (suc k) x y e = refl
exchanged (z ∷ xs) (suc b) zero x y e = refl
exchanged (z ∷ xs) (suc b) (suc k) x y e = exchanged xs b k x y e

-- so a call leaves the hosted brokers where they are
at_keeps : (t : TopologyView) (n : NodeView) (b : ℕ) (x : BrokerView) (c : Call) (k : ℕ) → broker_in n b ≡ Some x → is_some (broker_in (done_at t n b x c).node k) ≡ is_some (broker_in n k)
unfolding done_at
at_keeps t n b x (gets d r) k e = exchanged n.brokers b k x _ e
at_keeps t n b x (publishes y) k e = exchanged n.brokers b k x _ e
at_keeps t n b x (joins s p) k e = exchanged n.brokers b k x _ e
at_keeps t n b x (wakes d p) k e = exchanged n.brokers b k x _ e

by_keeps : (t : TopologyView) (n : NodeView) (b : ℕ) (o : Option BrokerView) (c : Call) (k : ℕ) → broker_in n b ≡ o → is_some (broker_in (done_by t n b o c).node k) ≡ is_some (broker_in n k)
by_keeps t n b None c k e = refl
by_keeps t n b (Some x) c k e = at_keeps t n b x c k e

call_keeps : (t : TopologyView) (n : NodeView) (c : Call) (k : ℕ) → is_some (broker_in (call_done t n c).node k) ≡ is_some (broker_in n k)
unfolding call_done
call_keeps t n c k = by_keeps t n (broker_of t c) (broker_in n (broker_of t c)) c k refl

-- the same brokers are hosted after a call that was made
pub hosts_on : (t : TopologyView) (hosted : List ℕ) (n n₁ : NodeView) (c : Call) (told : Outcome) → Makes t n c n₁ told → Hosts hosted n → Hosts hosted n₁
hosts_on t hosted n n₁ c told m h = λ b. sym (ap (λ (d : Done). is_some (broker_in d.node b)) m.done) ∙ call_keeps t n c b ∙ h b

-- how many frames were offered, and what was heard in one order, is no matter of what fits
pub fits_counted : (t : TopologyView) (n : NodeView) (offers : ℕ) (os : List Order) → NodeFits t n → NodeFits t (record { brokers = n.brokers; offers = offers; now = n.now; orders = os })
fits_counted t n offers os f = record { count = f.count; now = f.now; fits = f.fits; numbered = f.numbered; whole = f.whole }

-- so the node is set after a call, whatever was offered since, once its lines are heard
pub set_on : {T : Type 0} (t : TopologyView) (hosted : List ℕ) (n n₁ : NodeView) (c : Call) (told : Outcome) (offers : ℕ) (os : List Order) (r : Result T RunFault)
    → Makes t n c n₁ told → NodeFits t n₁ → OnOk r (os ≡ fed n₁.orders told.reports) → IsSet t hosted n
    → OnOk r (IsSet t hosted (record { brokers = n₁.brokers; offers = offers; now = n₁.now; orders = os }))
set_on t hosted n n₁ c told offers os (Ok x) m f heard s = record {
  fits = fits_counted t n₁ offers os f;
  hosts = hosts_on t hosted n n₁ c told m s.hosts;
  orders = subst (AreOrdersOf t) (sym heard) (fed_keeps t n₁.orders told.reports (subst (AreOrdersOf t) (sym m.orders) s.orders));
}
set_on t hosted n n₁ c told offers os (Err e) m f heard s = tt

-- and once what is ready in one order was taken out
pub set_settled : (t : TopologyView) (hosted : List ℕ) (n : NodeView) → IsSet t hosted n → IsSet t hosted (settled n)
set_settled t hosted n s = record { fits = fits_counted t n n.offers (without_ordered n.orders) s.fits; hosts = s.hosts; orders = rested_keeps t n.orders s.orders }

-- so it serves on, over the lanes that a call left
pub serving_of : {T : Type 0} (t : TopologyView) (hosted : List ℕ) (tells : Type 0) (lanes : ℕ → Lane) (n : NodeView) (r : Result T RunFault) → OnOk r (IsSet t hosted n) → (tells → OnOk r (AllStand lanes n)) → OnOk r (IsServing t hosted tells lanes n)
serving_of t hosted tells lanes n (Ok x) s stand = record { set = s; stands = stand }
serving_of t hosted tells lanes n (Err e) s stand = tt

pub serving_then : {T : Type 0} (t : TopologyView) (hosted : List ℕ) (tells : Type 0) (lanes : ℕ → Lane) (n n' : NodeView) (r : Result T RunFault) → OnOk r (n' ≡ settled n) → IsServing t hosted tells lanes n → OnOk r (IsServing t hosted tells lanes n')
serving_then t hosted tells lanes n n' (Ok x) e s = subst (IsServing t hosted tells lanes) (sym e) (record { set = set_settled t hosted n s.set; stands = s.stands })
serving_then t hosted tells lanes n n' (Err x) e s = tt
