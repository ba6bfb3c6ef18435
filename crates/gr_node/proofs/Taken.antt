-- A broker's call is taken up: what it keeps of one publisher, and that publisher's log, are exchanged at the node as in the machine's
-- world, and all else stays
use Rattle.std.proofs.Common.{◌≡◌, ◌≢◌, ◌⊎◌, inl, inr, ℕ, suc, ◌+◌, ◌<◌, true, List, [], ◌++◌, length, get_or, set, Option, Some, None, refl, sym, ap, ◌∙◌, subst, arith, length-append, length-set}
use Rattle.std.specs.Prelude.{is_some}
use Rattle.std.proofs.lemmas.Bool.{cases_eq, cases_lt, true≢false}
use Rattle.std.proofs.lemmas.List.{get_or-set_same, get_or-set_other, get_or_past}
use Rattle.gr_out.specs.Entry.{Entry}
use Rattle.gr_out.specs.Journal.{is_among}
use Rattle.gr_publog.specs.declared.record.Record.{Record}
use Rattle.gr_publog.specs.Views.{LogView}
use Rattle.gr_topo.specs.Topology.{TopologyView, host_of}
use Rattle.gr_model.specs.Net.{is_host}
use Rattle.gr_model.specs.NetOf.{net_of}
use Rattle.gr_model.specs.Broker.{View, Log, Outcome as MachineOutcome, empty_log}
use Rattle.gr_model.specs.World.{World, Transition, blank_view, view_of, log_of, with_view as with_view_at, sent_lines, absorbed, sent_since}
use Rattle.gr_model.specs.Orders.{Order}
use Rattle.gr_model_calls.proofs.rules.Serves.{frames_past_all}
use Rattle.gr_model_theorems.proofs.server.CutEvents.{on_log}
use Rattle.gr_broker.specs.Seen.{BrokerView, view_in, log_in, log_said, machine_log, with_view, with_log, with_logged, with_cut_if}
use Rattle.gr_report.proofs.Passing.{none_some}
use Rattle.gr_node.specs.Seen.{NodeView, broker_in}
use Rattle.gr_node.specs.Of.{Hosts}
use Rattle.gr_node.specs.Plan.{offers_of}
use Rattle.gr_node.specs.Done.{Done, taken_up}
use Rattle.gr_node.proofs.Ordered.{IsOrdered}

-- The node and the machine

-- what the calls keep of a broker: its number, one view and one log for each publisher, a log of those that are at it, and that it is in
-- order
pub record IsShaped (t : TopologyView) (b : ℕ) (x : BrokerView) : Type 0 where
  pub number : x.number ≡ b
  pub views : length x.views ≡ length t.publishers
  pub logs : length x.logs ≡ length t.publishers
  pub hosted : (p : ℕ) → p < length t.publishers → is_some (log_in x p) ≡ is_host (net_of t) p b
  pub ordered : (p : ℕ) (l : LogView) → log_in x p ≡ Some l → IsOrdered l.state

-- The world is the node's: of the hosted brokers it has the same views, of the publishers at them the same logs
pub record IsNode (t : TopologyView) (n : NodeView) (w : World) : Type 0 where
  pub clock : w.clock ≡ n.now
  pub offers : length w.frames ≡ n.offers
  pub views : (b p : ℕ) (x : BrokerView) → broker_in n b ≡ Some x → p < length t.publishers
      → view_of w b p ≡ view_in x p
  pub logs : (p : ℕ) (x : BrokerView) → broker_in n (host_of t p) ≡ Some x → p < length t.publishers
      → log_of w p ≡ machine_log x p
  pub shaped : (b : ℕ) (x : BrokerView) → broker_in n b ≡ Some x → IsShaped t b x
  pub count : length n.brokers ≡ length t.brokers
  pub world_views : length w.views ≡ length t.brokers
  pub each_views : (b : ℕ) → b < length t.brokers → length (get_or w.views b []) ≡ length t.publishers
  pub world_logs : length w.logs ≡ length t.publishers

-- what was heard in one order is no part of it
pub node_heard : (t : TopologyView) (n : NodeView) (w : World) (os : List Order) → IsNode t n w
    → IsNode t (record { brokers = n.brokers; offers = n.offers; now = n.now; orders = os }) w
node_heard t n w os i = record {
  clock = i.clock;
  offers = i.offers;
  views = i.views;
  logs = i.logs;
  shaped = i.shaped;
  count = i.count;
  world_views = i.world_views;
  each_views = i.each_views;
  world_logs = i.world_logs;
}

-- what the node does is what the machine does: the same lines, these entries, and the world that is left is the node's
pub record Does (t : TopologyView) (hosted : List ℕ) (d : Done) (u : Transition) (es : List Entry) : Type 0 where
  pub lines : d.lines ≡ u.lines
  pub entries : d.entries ≡ es
  pub node : IsNode t d.node u.world
  pub hosts : Hosts hosted d.node

-- the offers of what was sent since a world
abbrev pub offers_since : World → Transition → List Entry
offers_since w u = offers_of (sent_since w u.world)

-- one value in two places
pub some_is : {X : Type 0} {x y : X} → Some x ≡ Some y → x ≡ y
some_is {X} {x} e = ap (λ (o : Option X). elim o [ Some z ↦ z | None ↦ x ]) e

-- what is there
pub found_in : {X : Type 0} (o : Option X) → is_some o ≡ true → (x : X) × (o ≡ Some x)
found_in (Some x) e = (x, refl)
found_in None e = absurd (true≢false (sym e))

-- a hosted broker is here
pub broker_here : (hosted : List ℕ) (n : NodeView) (b : ℕ) → Hosts hosted n → is_among hosted b ≡ true
    → (x : BrokerView) × (broker_in n b ≡ Some x)
broker_here hosted n b h e = found_in (broker_in n b) (h b ∙ e)

-- and has a place
pub broker_within : (n : NodeView) (b : ℕ) (x : BrokerView) → broker_in n b ≡ Some x → b < length n.brokers
broker_within n b x e = elim (cases_lt b (length n.brokers)) [
  | inl h ↦ h
  | inr h ↦ absurd (none_some (sym (get_or_past n.brokers b None h) ∙ e))
]

-- A broker's part of one publisher is exchanged

-- what is kept of the publisher then, and what stays
pub record Exchanges (p : ℕ) (x y : BrokerView) (v : View) : Type 0 where
  pub number : y.number ≡ x.number
  pub views : y.views ≡ set x.views p v
  pub count : length y.logs ≡ length x.logs
  pub others : (q : ℕ) → q ≢ p → log_in y q ≡ log_in x q
  pub same : is_some (log_in y p) ≡ is_some (log_in x p)
  pub ordered : (l : LogView) → log_in y p ≡ Some l → IsOrdered l.state

-- the log is exchanged for one where there is one
pub exchanges_log : (p : ℕ) (x : BrokerView) (l : Option LogView) (v : View) → p < length x.logs → is_some l ≡ is_some (log_in x p)
    → ((k : LogView) → l ≡ Some k → IsOrdered k.state) → Exchanges p x (with_view (with_log x p l) p v) v
exchanges_log p x l v lt same ordered = record {
  number = refl;
  views = refl;
  count = length-set x.logs p l;
  others = λ q ne. get_or-set_other x.logs p q l None ne;
  same = ap (λ (o : Option LogView). is_some o) (get_or-set_same x.logs p l None lt) ∙ same;
  ordered = λ k h. ordered k (sym (get_or-set_same x.logs p l None lt) ∙ h);
}

-- a broker of which the view alone is exchanged
pub exchanges_view : (p : ℕ) (x : BrokerView) (v : View) → ((l : LogView) → log_in x p ≡ Some l → IsOrdered l.state) → Exchanges p x (with_view x p v) v
exchanges_view p x v ordered = record { number = refl; views = refl; count = refl; others = λ q ne. refl; same = refl; ordered = ordered }

-- with a further record a log is there where it was
pub logged_some : (o : Option LogView) (r : Option Record) → is_some (with_logged o r) ≡ is_some o
logged_some None r = refl
logged_some (Some l) None = refl
logged_some (Some l) (Some r) = refl

-- and once it is cut, or not
pub cut_some : (o : Option LogView) (cut : Option ℕ) (reclaim : ℕ) → is_some (with_cut_if o cut reclaim) ≡ is_some o
cut_some None cut reclaim = refl
cut_some (Some l) cut reclaim = refl

-- the pure calls keep the shape
pub shaped_on : (t : TopologyView) (b p : ℕ) (x y : BrokerView) (v : View) → IsShaped t b x → Exchanges p x y v → IsShaped t b y
shaped_on t b p x y v s e = record {
  number = e.number ∙ s.number;
  views = ap length e.views ∙ (length-set x.views p v ∙ s.views);
  logs = e.count ∙ s.logs;
  hosted = λ q j. go q j (cases_eq q p);
  ordered = λ q l h. in_order q l h (cases_eq q p);
}
  where
    in_order : (q : ℕ) (l : LogView) → log_in y q ≡ Some l → (q ≡ p) ⊎ (q ≢ p) → IsOrdered l.state
    in_order q l h (inl same) = e.ordered l (ap (λ k. log_in y k) (sym same) ∙ h)
    in_order q l h (inr ne) = s.ordered q l (sym (e.others q ne) ∙ h)

    go : (q : ℕ) → q < length t.publishers → (q ≡ p) ⊎ (q ≢ p) → is_some (log_in y q) ≡ is_host (net_of t) q b
    go q j (inl h) = ap (λ k. is_some (log_in y k)) h ∙ (e.same ∙ (ap (λ k. is_some (log_in x k)) (sym h) ∙ s.hosted q j))
    go q j (inr h) = ap (λ (o : Option LogView). is_some o) (e.others q h) ∙ s.hosted q j

-- one place exchanged in two lists that agree at a place
set_same : {X : Type 0} (xs ys : List X) (p q : ℕ) (v d : X) → p < length xs → p < length ys → get_or xs q d ≡ get_or ys q d
    → get_or (set xs p v) q d ≡ get_or (set ys p v) q d
set_same {X} xs ys p q v d lt lt' same = go (cases_eq q p)
  where
    go : (q ≡ p) ⊎ (q ≢ p) → get_or (set xs p v) q d ≡ get_or (set ys p v) q d
    go (inl e) =
        subst (λ (k : ℕ). get_or (set xs p v) k d ≡ get_or (set ys p v) k d) (sym e)
        (get_or-set_same xs p v d lt ∙ sym (get_or-set_same ys p v d lt'))
    go (inr e) = get_or-set_other xs p q v d e ∙ (same ∙ sym (get_or-set_other ys p q v d e))

-- A broker's call is taken up on both sides: the machine's outcome is the broker's, perhaps over another log

module _ (t : TopologyView) (hosted : List ℕ) (n : NodeView) (w : World) (b p : ℕ) (x y : BrokerView) (o : MachineOutcome) (l : Log)
    (i : IsNode t n w) (here : broker_in n b ≡ Some x) (below : p < length t.publishers) (made : Exchanges p x y o.view)
    (at_host : host_of t p ≡ b → machine_log y p ≡ l) (away : host_of t p ≢ b → l ≡ log_of w p) where
  within : b < length n.brokers
  within = broker_within n b x here

  row : b < length w.views
  row = omega (arith, within, i.count, i.world_views)

  place : p < length w.logs
  place = omega (arith, below, i.world_logs)

  shape : IsShaped t b x
  shape = i.shaped b x here

  abbrev brokers_then : List (Option BrokerView)
  brokers_then = set n.brokers b (Some y)

  abbrev views_then : List (List View)
  views_then = with_view_at w.views b p o.view

  abbrev logs_then : List Log
  logs_then = set w.logs p l

  -- what holds of the broker, and of all others, holds of each
  each_broker : (P : ℕ → Option BrokerView → Type 0) → P b (Some y) → ((c : ℕ) → c ≢ b → P c (broker_in n c))
      → (c : ℕ) → P c (get_or brokers_then c None)
  each_broker P this rest c = go (cases_eq c b)
    where
      go : (c ≡ b) ⊎ (c ≢ b) → P c (get_or brokers_then c None)
      go (inl e) =
          subst (λ (k : ℕ). P k (get_or brokers_then k None)) (sym e)
          (subst (P b) (sym (get_or-set_same n.brokers b (Some y) None within)) this)
      go (inr e) = subst (P c) (sym (get_or-set_other n.brokers b c (Some y) None e)) (rest c e)

  -- the views
  view_here : (q : ℕ) → q < length t.publishers → get_or (get_or views_then b []) q blank_view ≡ view_in y q
  view_here q j =
      ap (λ (vs : List View). get_or vs q blank_view) (get_or-set_same w.views b (set (get_or w.views b []) p o.view) [] row)
      ∙ (set_same (get_or w.views b []) x.views p q o.view blank_view
      (omega (arith, below, within, i.count, i.each_views b (omega (arith, within, i.count)))) (omega (arith, below, shape.views)) (i.views b q x here j)
      ∙ ap (λ (vs : List View). get_or vs q blank_view) (sym made.views))

  view_there : (c q : ℕ) → c ≢ b → get_or (get_or views_then c []) q blank_view ≡ view_of w c q
  view_there c q ne =
      ap (λ (vs : List View). get_or vs q blank_view) (get_or-set_other w.views b c (set (get_or w.views b []) p o.view) [] ne)

  views_now : (c q : ℕ) (z : BrokerView) → get_or brokers_then c None ≡ Some z → q < length t.publishers
      → get_or (get_or views_then c []) q blank_view ≡ view_in z q
  views_now c q z e j =
      each_broker (λ k s. s ≡ Some z → get_or (get_or views_then k []) q blank_view ≡ view_in z q)
      (λ h. view_here q j ∙ ap (λ (m : BrokerView). view_in m q) (some_is h)) (λ k ne h. view_there k q ne ∙ i.views k q z h j) c e

  -- the logs
  log_there : (q : ℕ) → q ≢ p → get_or logs_then q empty_log ≡ log_of w q
  log_there q ne = get_or-set_other w.logs p q l empty_log ne

  log_here : (q : ℕ) → q ≡ p → get_or logs_then q empty_log ≡ l
  log_here q e = ap (λ (k : ℕ). get_or logs_then k empty_log) e ∙ get_or-set_same w.logs p l empty_log place

  -- of a publisher at the broker
  log_hosted : (q : ℕ) → q < length t.publishers → host_of t q ≡ b → get_or logs_then q empty_log ≡ machine_log y q
  log_hosted q j at = go (cases_eq q p)
    where
      go : (q ≡ p) ⊎ (q ≢ p) → get_or logs_then q empty_log ≡ machine_log y q
      go (inl e) = log_here q e ∙ (sym (at_host (ap (host_of t) (sym e) ∙ at)) ∙ ap (λ (k : ℕ). machine_log y k) (sym e))
      go (inr e) =
          log_there q e ∙ (i.logs q x (ap (λ (k : ℕ). broker_in n k) at ∙ here) j ∙ ap log_said (sym (made.others q e)))

  -- and of one elsewhere
  log_elsewhere : (q : ℕ) → host_of t q ≢ b → get_or logs_then q empty_log ≡ log_of w q
  log_elsewhere q ne = go (cases_eq q p)
    where
      go : (q ≡ p) ⊎ (q ≢ p) → get_or logs_then q empty_log ≡ log_of w q
      go (inl e) =
          log_here q e ∙ (away (λ at. ne (ap (host_of t) e ∙ at)) ∙ ap (λ (k : ℕ). log_of w k) (sym e))
      go (inr e) = log_there q e

  logs_now : (q : ℕ) (z : BrokerView) → get_or brokers_then (host_of t q) None ≡ Some z → q < length t.publishers
      → get_or logs_then q empty_log ≡ machine_log z q
  logs_now q z e j =
      each_broker (λ k s. host_of t q ≡ k → s ≡ Some z → get_or logs_then q empty_log ≡ machine_log z q)
      (λ at h. log_hosted q j at ∙ ap (λ (m : BrokerView). machine_log m q) (some_is h))
      (λ k ne at h. log_elsewhere q (λ f. ne (sym at ∙ f)) ∙ i.logs q z (ap (λ (c : ℕ). broker_in n c) at ∙ h) j)
      (host_of t q) refl e

  -- how long the lists are
  rows_long : (c : ℕ) → c < length t.brokers → length (get_or views_then c []) ≡ length t.publishers
  rows_long c j = go (cases_eq c b)
    where
      go : (c ≡ b) ⊎ (c ≢ b) → length (get_or views_then c []) ≡ length t.publishers
      go (inl e) =
          ap (λ (k : ℕ). length (get_or views_then k [])) e
          ∙ (ap length (get_or-set_same w.views b (set (get_or w.views b []) p o.view) [] row)
          ∙ (length-set (get_or w.views b []) p o.view ∙ i.each_views b (omega (arith, within, i.count))))
      go (inr e) =
          ap length (get_or-set_other w.views b c (set (get_or w.views b []) p o.view) [] e) ∙ i.each_views c j

  -- the world with the machine's outcome is the node with the broker's
  taken_over : Hosts hosted n
      → Does t hosted (taken_up n b y o.lines o.frames) (absorbed w b p (on_log o l)) (offers_since w (absorbed w b p (on_log o l)))
  unfolding absorbed
  taken_over h = record {
    lines = ap (λ (k : ℕ). o.lines ++ sent_lines (suc k) o.frames) (sym i.offers);
    entries = ap offers_of (sym (frames_past_all w.frames o.frames));
    node = record {
      clock = i.clock;
      offers = length-append w.frames o.frames ∙ ap (λ k. k + length o.frames) i.offers;
      views = views_now;
      logs = logs_now;
      shaped = each_broker (λ c s. (z : BrokerView) → s ≡ Some z → IsShaped t c z)
          (λ z e. subst (λ (m : BrokerView). IsShaped t b m) (some_is e) (shaped_on t b p x y o.view shape made))
          (λ c ne z e. i.shaped c z e);
      count = length-set n.brokers b (Some y) ∙ i.count;
      world_views = length-set w.views b (set (get_or w.views b []) p o.view) ∙ i.world_views;
      each_views = rows_long;
      world_logs = length-set w.logs p l ∙ i.world_logs;
    };
    hosts = each_broker (λ c s. is_some s ≡ is_among hosted c) (sym (ap (λ (s : Option BrokerView). is_some s) here) ∙ h b) (λ c ne. h c);
  }

-- so it is for an outcome of the machine that is the broker's but for the log
pub taken_is : (t : TopologyView) (hosted : List ℕ) (n : NodeView) (w : World) (b p : ℕ) (x y : BrokerView) (o m : MachineOutcome)
    → IsNode t n w → Hosts hosted n → broker_in n b ≡ Some x → p < length t.publishers → Exchanges p x y o.view → on_log o m.log ≡ m
    → (host_of t p ≡ b → machine_log y p ≡ m.log) → (host_of t p ≢ b → m.log ≡ log_of w p)
    → Does t hosted (taken_up n b y o.lines o.frames) (absorbed w b p m) (offers_since w (absorbed w b p m))
taken_is t hosted n w b p x y o m i h here below made same at_host away =
    subst (λ (k : MachineOutcome). Does t hosted (taken_up n b y o.lines o.frames) (absorbed w b p k) (offers_since w (absorbed w b p k))) same
    (taken_over t hosted n w b p x y o m.log i here below made at_host away h)
