-- Brokers start one after another: one more is put in its place, and those before stay as they are.
use Rattle.std.proofs.Common.{◌≡◌, ◌≢◌, inl, inr, ℕ, ◌<◌, ◌≤◌, Bool, true, false, ◌||◌, nat_eq, List, [], ◌∷◌, ◌++◌, length, take, set, Option, Some, None, is_some, IsSome, refl, sym, ap, ◌∙◌, subst, arith, length-set, take_all}
use Rattle.std.specs.List.{AllByRecursion}
use Rattle.std.proofs.lemmas.Bool.{cases_eq, cases_lt, or_right, eq-eqb, ne_eqb}
use Rattle.std.proofs.lemmas.List.{get_or-set_same, get_or-set_other, get_or-replicate, get_or_past, length-replicate}
use Rattle.gr_out.specs.Journal.{is_among}
use Rattle.gr_topo.specs.Topology.{TopologyView}
use Rattle.gr_model.specs.Orders.{Order, AreOrdersOf}
use Rattle.gr_broker.specs.Seen.{BrokerView}
use Rattle.gr_node.specs.Seen.{NodeView, broker_in, none_started}
use Rattle.gr_node.specs.Of.{Hosts, NodeFits, IsSet}
use Rattle.gr_node.specs.Starting.{HasStarted}
use Rattle.gr_node.specs.Begun.{HasBegun}
use Rattle.gr_report.proofs.Hosts.{some_of}
use Rattle.gr_node.proofs.StartingOrder.{among_more, among_taken, each_among}

-- a node with a broker in its place, and what was heard in one order then
abbrev pub with_broker : NodeView → ℕ → BrokerView → List Order → NodeView
with_broker n b x os = record { brokers = set n.brokers b (Some x); offers = n.offers; now = n.now; orders = os }

-- These brokers have started, and no others; nothing else has happened
pub record HaveBegun (t : TopologyView) (bs : List ℕ) (n : NodeView) : Type 0 where
  pub count : length n.brokers ≡ length t.brokers
  pub offers : n.offers ≡ 0
  pub now : n.now ≡ 0
  pub hosts : Hosts bs n
  pub each : (b : ℕ) (x : BrokerView) → broker_in n b ≡ Some x → HasBegun t b x

some_same : {X : Type 0} (x y : X) → ◌≡◌ {A = Option X} (Some x) (Some y) → x ≡ y
some_same x y e = cc

none_some : {X : Type 0} (x : X) → ◌≡◌ {A = Option X} None (Some x) → ⊥
none_some x e = cc

-- before the first
pub none_begun : (t : TopologyView) (n : NodeView) → n ≡ none_started t → HaveBegun t [] n
none_begun t n e = subst (λ (m : NodeView). HaveBegun t [] m) (sym e) (record {
  count = many;
  offers = refl;
  now = refl;
  hosts = λ b. ap (λ (o : Option BrokerView). is_some o) (nobody b);
  each = λ b x is. absurd (none_some x (sym (nobody b) ∙ is));
})
  where
    many : length (none_started t).brokers ≡ length t.brokers
    many = length-replicate (length t.brokers) None

    nobody : (b : ℕ) → broker_in (none_started t) b ≡ None
    nobody b = elim (cases_lt b (length t.brokers)) [
      | inl j ↦ get_or-replicate (length t.brokers) b None None j
      | inr j ↦ get_or_past (none_started t).brokers b None (let long = many in omega (arith, j, long))
    ]

module _ (t : TopologyView) (n : NodeView) (b : ℕ) (x : BrokerView) (os : List Order) (count : length n.brokers ≡ length t.brokers) (j : b < length t.brokers) where
  -- it is there
  pub in_place : broker_in (with_broker n b x os) b ≡ Some x
  in_place = get_or-set_same n.brokers b (Some x) None (omega (arith, count, j))

  -- and the others are as before
  pub as_before : (a : ℕ) → a ≢ b → broker_in (with_broker n b x os) a ≡ broker_in n a
  as_before a apart = get_or-set_other n.brokers b a (Some x) None apart

  -- so what is there is it, or was there before
  pub which_is : (P : ℕ → BrokerView → Type 0) → P b x → ((a : ℕ) (y : BrokerView) → a ≢ b → broker_in n a ≡ Some y → P a y) → (a : ℕ) (y : BrokerView) → broker_in (with_broker n b x os) a ≡ Some y → P a y
  which_is P one others a y e = elim (cases_eq a b) [
    | inl same ↦
        let is : x ≡ y = some_same x y (sym in_place ∙ ap (broker_in (with_broker n b x os)) (sym same) ∙ e) in
        subst (λ (c : ℕ). P c y) (sym same) (subst (λ (z : BrokerView). P b z) is one)
    | inr apart ↦ others a y apart (sym (as_before a apart) ∙ e)
  ]

-- one broker more
pub begun_more : (t : TopologyView) (bs : List ℕ) (n : NodeView) (b : ℕ) (x : BrokerView) (os : List Order) → HaveBegun t bs n → b < length t.brokers → HasBegun t b x → HaveBegun t (bs ++ b ∷ []) (with_broker n b x os)
begun_more t bs n b x os s j one = record {
  count = length-set n.brokers b (Some x) ∙ s.count;
  offers = s.offers;
  now = s.now;
  hosts = λ a. elim (cases_eq a b) [
    | inl same ↦ ap (λ (o : Option BrokerView). is_some o) (ap (broker_in (with_broker n b x os)) same ∙ in_place t n b x os s.count j) ∙ sym (among_more bs b a ∙ or_right (is_among bs a) (nat_eq b a) (eq-eqb b a (sym same)))
    | inr apart ↦ ap (λ (o : Option BrokerView). is_some o) (as_before t n b x os s.count j a apart) ∙ s.hosts a ∙ sym (among_more bs b a ∙ ap (λ c. is_among bs a || c) (ne_eqb b a (λ e. apart (sym e))) ∙ or_false (is_among bs a))
  ];
  each = which_is t n b x os s.count j (HasBegun t) one (λ a y apart e. s.each a y e);
}
  where
    or_false : (c : Bool) → (c || false) ≡ c
    or_false true = refl
    or_false false = refl

-- What a node is once these have started

module _ (t : TopologyView) (bs : List ℕ) (n : NodeView) (s : HaveBegun t bs n) where
  -- a broker that is among them is there
  pub begun_broker : (b : ℕ) → is_among bs b ≡ true → (x : BrokerView) × (broker_in n b ≡ Some x)
  begun_broker b m = some_of (broker_in n b) (s.hosts b ∙ m)

  pub has_started : (b : ℕ) → is_among bs b ≡ true → HasStarted t n b
  has_started b m =
      let here = begun_broker b m in
      let one = s.each b here.0 here.1 in
      record { broker = here.0; here = here.1; number = one.number; fits = one.fits; views = one.views; whole = one.whole; states = one.states }

  pub all_started : AllByRecursion (HasStarted t n) bs
  all_started = each_among (HasStarted t n) bs has_started

  -- it fits
  pub begun_fits : NodeFits t n
  begun_fits = record {
    count = s.count;
    now = let none = s.now in omega (arith, none);
    fits = λ b x e. (s.each b x e).fits;
    numbered = λ b x e. (s.each b x e).number;
    whole = λ b p x l e is. (s.each b x e).whole p l is;
  }

-- where all have started it stands ready
pub begun_set : (t : TopologyView) (hosted : List ℕ) (n : NodeView) (k : ℕ) → HaveBegun t (take k hosted) n → length hosted ≤ k → AreOrdersOf t n.orders → IsSet t hosted n
begun_set t hosted n k s all orders =
    let whole : take k hosted ≡ hosted = take_all k hosted all in
    record { fits = begun_fits t (take k hosted) n s; hosts = λ b. s.hosts b ∙ ap (λ bs. is_among bs b) whole; orders = orders }

-- who has started is one of the hosted
pub begun_hosted : (t : TopologyView) (hosted : List ℕ) (n : NodeView) (k : ℕ) → HaveBegun t (take k hosted) n → (b : ℕ) → IsSome (broker_in n b) → is_among hosted b ≡ true
begun_hosted t hosted n k s b here = among_taken k hosted b (sym (s.hosts b) ∙ here)
