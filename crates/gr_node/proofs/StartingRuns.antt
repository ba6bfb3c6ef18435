-- The starts of the hosted brokers, one more and at their end: all have started, or the next has not, or its lines could not be put.
use Rattle.std.proofs.Common.{◌≡◌, ℕ, ◌+◌, ◌<◌, true, List, [], ◌∷◌, ◌++◌, length, take, get_or, Option, Some, Ok, Err, flat_map, sym, ap, ◌∙◌, subst, arith}
use Rattle.gr_out.specs.declared.fault.RunFault.{RunFault}
use Rattle.gr_out.specs.declared.fault.RunFault.TheVariants as run
use Rattle.gr_out.specs.Journal.{is_among}
use Rattle.gr_out.specs.Lane.{Lane}
use Rattle.gr_out.specs.Page.{TakesBut, TakesFront}
use Rattle.gr_topo.specs.Topology.{TopologyView, host_of}
use Rattle.gr_model.specs.NetOf.{net_of}
use Rattle.gr_model.specs.Arrivals.{is_hosted}
use Rattle.gr_model.specs.declared.report.Report.{Report}
use Rattle.gr_model.specs.Orders.{Order, AreOrdersOf, fed, orders_of}
use Rattle.gr_model.proofs.Ordering.{fed_keeps, orders_are}
use Rattle.gr_broker.specs.Seen.{BrokerView}
use Rattle.gr_broker.specs.Of.{LogsStand}
use Rattle.gr_broker.specs.Opened.{OpensLanes, IsDamagedAt}
use Rattle.gr_report.specs.Named.{IsPutFault}
use Rattle.gr_node.specs.Seen.{NodeView, text_of}
use Rattle.gr_node.specs.Of.{AreHosted}
use Rattle.gr_node.specs.Went.{outside, IsExact}
use Rattle.gr_node.specs.Starting.{Started, IsFirstDamaged, lines_of_start, start_lines}
use Rattle.gr_node.specs.Begun.{HasBegun}
use Rattle.gr_node.proofs.StartingOrder.{IsNext, is_next, each_at}
use Rattle.gr_node.proofs.StartingNodes.{HaveBegun, with_broker, begun_more, all_started}
use Rattle.gr_node.proofs.StartingLanes.{HaveFound, OnlyAt, found_failed, found_more, first_damaged}
use Rattle.gr_node.proofs.StartingTold.{told_by, heard_more, front_of, put_more, put_front}
use Rattle.gr_node.proofs.StartingFaults.{err_is}

-- all have started
pub started_all : {T : Type 0} (t : TopologyView) (hosted : List ℕ) (k : ℕ) (n : NodeView) (old new : Option (List ℕ)) (before held : List ℕ) (x : T)
    → HaveBegun t (take k hosted) n → n.orders ≡ fed (orders_of t) (flat_map (start_lines t n) (take k hosted)) → k ≡ length hosted → TakesBut old new (before ++ told_by t n (take k hosted)) held → Started t hosted n (outside old before []) (outside new held []) (Ok x)
started_all t hosted k n old new before held x s heard all p = record {
  made = k;
  within = omega (arith, all);
  whole = all;
  short = tt;
  hosts = s.hosts;
  each = all_started t (take k hosted) n s;
  heard = heard;
  damaged_next = λ q at e. cc;
  told = λ _. p;
  front = tt;
}

-- what was heard are lists of the topology
pub lists_kept : (t : TopologyView) (os : List Order) (lines : List Report) → os ≡ fed (orders_of t) lines → AreOrdersOf t os
lists_kept t os lines e = subst (AreOrdersOf t) (sym e) (fed_keeps t (orders_of t) lines (orders_are t))

-- The first i have started, and there are more

module _ (t : TopologyView) (hosted : List ℕ) (i : ℕ) (n : NodeView) (are : AreHosted t hosted) (j : i < length hosted) (s : HaveBegun t (take i hosted) n) where
  -- the next of them
  abbrev pub b : ℕ
  b = get_or hosted i 0

  next : IsNext hosted i b
  next = is_next hosted i are.rising j

  known : b < length t.brokers
  known = each_at (λ a. a < length t.brokers) hosted i are.brokers j

  -- it is a hosted one
  pub next_hosted : (p : ℕ) → host_of t p ≡ b → is_hosted (net_of t) hosted p ≡ true
  next_hosted p there = ap (is_among hosted) there ∙ next.here

  begun_behind : (x : BrokerView) (os : List Order) → HasBegun t b x → HaveBegun t (take i hosted ++ b ∷ []) (with_broker n b x os)
  begun_behind x os one = begun_more t (take i hosted) n b x os s known one

  -- it starts
  pub begun_next : (x : BrokerView) (os : List Order) → HasBegun t b x → HaveBegun t (take (i + 1) hosted) (with_broker n b x os)
  begun_next x os one = subst (λ (bs : List ℕ). HaveBegun t bs (with_broker n b x os)) (sym next.more) (begun_behind x os one)

  -- what it tells is heard
  pub heard_next : (x : BrokerView) (os : List Order) (lines : List Report) → lines ≡ lines_of_start t b (Some x)
      → n.orders ≡ fed (orders_of t) (flat_map (start_lines t n) (take i hosted)) → os ≡ fed n.orders lines
      → os ≡ fed (orders_of t) (flat_map (start_lines t (with_broker n b x os)) (take (i + 1) hosted))
  heard_next x os lines e sofar more =
      subst (λ (bs : List ℕ). os ≡ fed (orders_of t) (flat_map (start_lines t (with_broker n b x os)) bs)) (sym next.more)
      (heard_more t n b x os s.count known (take i hosted) lines next.new e sofar more)

  module _ (before mid after : ℕ → Lane) (f : HaveFound t (take i hosted) n before mid) (others : OnlyAt t b mid after) where
    -- it has found what its lanes held at first
    pub found_next : (x : BrokerView) (os : List Order) → HasBegun t b x → OpensLanes t x mid after → LogsStand after x → HaveFound t (take (i + 1) hosted) (with_broker n b x os) before after
    found_next x os one opens stand =
        subst (λ (bs : List ℕ). HaveFound t bs (with_broker n b x os) before after) (sym next.more)
        (found_more t (take i hosted) n b before mid after s next.new f others x os known one opens stand)

    -- where it has not started, all stand that did
    pub left_next : HaveFound t (take (i + 1) hosted) n before after
    left_next =
        subst (λ (bs : List ℕ). HaveFound t bs n before after) (sym next.more)
        (found_failed t (take i hosted) n b before mid after s next.new f others)

    -- and a lane that holds no log is the first
    pub damaged_next : (p at : ℕ) → IsDamagedAt t b p at mid → IsFirstDamaged t hosted p at before
    damaged_next p at d = first_damaged t hosted i b n before mid after s next f others p at d

  -- What is put

  module _ (old mid : Option (List ℕ)) (before held : List ℕ) (p : TakesBut old mid (before ++ told_by t n (take i hosted)) held) where
    -- it has not started
    pub started_failed : {T : Type 0} (f : RunFault) → ((q at : ℕ) → f ≡ run.Damaged q at → host_of t q ≡ b) → Started {T = T} t hosted n (outside old before []) (outside mid held []) (Err f)
    started_failed {T} f damaged = record {
      made = i;
      within = omega (arith, j);
      whole = tt;
      short = λ exact. j;
      hosts = s.hosts;
      each = all_started t (take i hosted) n s;
      heard = tt;
      damaged_next = λ q at e. sym (damaged q at (err_is f (run.Damaged q at) e));
      told = λ _. p;
      front = front_of old mid (before ++ told_by t n (take i hosted)) held p;
    }

    module _ (new : Option (List ℕ)) (x : BrokerView) (os : List Order) (one : HasBegun t b x) (lines : List Report) (e : lines ≡ lines_of_start t b (Some x)) where
      -- its lines were put
      pub put_next : (left : List ℕ) → TakesBut mid new (held ++ text_of t lines) left → TakesBut old new (before ++ told_by t (with_broker n b x os) (take (i + 1) hosted)) left
      put_next left q = put_more t n hosted i b x os lines s.count known next e old mid new before held p left q

      -- or a front of them
      pub started_cut : {T : Type 0} (left : List ℕ) (f : RunFault) → IsPutFault f → TakesFront mid new (held ++ text_of t lines) → Started {T = T} t hosted (with_broker n b x os) (outside old before []) (outside new left []) (Err f)
      started_cut {T} left f put q = record {
        made = i + 1;
        within = omega (arith, j);
        whole = tt;
        short = λ exact. absurd (never_exact f put exact);
        hosts = (begun_next x os one).hosts;
        each = all_started t (take (i + 1) hosted) (with_broker n b x os) (begun_next x os one);
        heard = tt;
        damaged_next = λ r at is. absurd (subst (λ (y : RunFault). IsPutFault y) (err_is f (run.Damaged r at) is) put);
        told = λ exact. absurd (never_exact f put exact);
        front = put_front t n hosted i b x os lines s.count known next e old mid new before held p q;
      }
        where
          never_exact : (f : RunFault) → IsPutFault f → IsExact {T = T} (Err f) → ⊥
          never_exact run.Memory put exact = exact
          never_exact run.Write put exact = exact
          never_exact run.Disk put exact = put
          never_exact (run.Damaged r at) put exact = put
          never_exact run.Post put exact = put
