-- One turn of a run: what came is an act, then come those that it leads to, and with the last of them the page is written
use Rattle.std.proofs.Common.{◌≡◌, ℕ, Bool, true, false, min, List, [], ◌∷◌, ◌++◌, map, drop, Option, Result, Ok, Err, IsOkUnless, OnOk, OnErr, if◌then◌else◌, refl, sym, ap, ◌∙◌, subst, arith, append-nil}
use Rattle.gr_out.specs.declared.fault.RunFault.{RunFault}
use Rattle.gr_out.specs.declared.fault.RunFault.TheVariants as run
use Rattle.gr_out.specs.Bytes.{with_more}
use Rattle.gr_out.specs.Entry.{Entry}
use Rattle.gr_out.specs.Entry as entry
use Rattle.gr_out.specs.Journal.{is_among}
use Rattle.gr_out.specs.Lane.{Lane}
use Rattle.gr_out.specs.Page.{TakesFront}
use Rattle.gr_out.proofs.Fronts.{front-nothing}
use Rattle.gr_topo.specs.Topology.{TopologyView}
use Rattle.gr_sched.specs.declared.step.Line.{Line}
use Rattle.gr_model.specs.NetOf.{net_of}
use Rattle.gr_model.specs.Broker.{max_tick}
use Rattle.gr_model.specs.Arrivals.{Arrival, datagram, quiet, Request, requests_of, left_after}
use Rattle.gr_model_theorems.specs.Served.{IsOfBytes}
use Rattle.gr_node.specs.Seen.{NodeView}
use Rattle.gr_node.specs.Plan.{Act, arrives, calls, settles, closes, datagram_acts, led_to, quiet_calls, acts_from, closing, entry_of}
use Rattle.gr_node.specs.Done.{done, all_done, at_arrival}
use Rattle.gr_node.specs.Lasting.{ActsKeep}
use Rattle.gr_node.specs.Went.{Outside, outside, Went}
use Rattle.gr_node.specs.Turns.{left_behind, Turned}
use Rattle.gr_node.proofs.Lasting.{acts_none, acts_same, acts_front, acts_then}
use Rattle.gr_node.proofs.Wending.{MadeAll, made_flushed, made_arrives, made_closes, all_made, went_ok, went_on, went_as, went_front, went_failed, went_unwritten, begins_nothing}

-- The page is written behind acts that were all made
pub went_flushed : (t : TopologyView) (hosted : List ℕ) (tells : Type 0) (acts : List Act) (n n' : NodeView) (o : Outside) (taken taken' : Option (List ℕ)) (held held' : List ℕ) (journal : List Entry) (r : Result (Unit {0}) RunFault)
    → MadeAll t hosted tells acts n n' o (outside taken held journal) → OnOk r (taken' ≡ with_more taken held) → OnOk r (held' ≡ []) → OnErr r (TakesFront taken taken' held) → IsOkUnless r run.Write
    → Went {T = Unit {0}} t hosted tells acts n n' o (outside taken' held' journal) r
went_flushed t hosted tells acts n n' o taken taken' held held' journal (Ok x) m all empty front only =
    subst (λ xs. Went {T = Unit {0}} t hosted tells acts n n' o (outside taken' xs journal) (Ok x)) (sym empty)
    (went_ok t hosted tells acts n n' o (outside taken' [] journal) x (made_flushed t hosted tells acts n n' o taken taken' held journal m all))
went_flushed t hosted tells acts n n' o taken taken' held held' journal (Err e) m all empty front only =
    subst (λ f. Went {T = Unit {0}} t hosted tells acts n n' o (outside taken' held' journal) (Err f)) (sym only)
    (went_unwritten t hosted tells acts n n' o taken taken' held held' journal m front)

-- A datagram

-- that is for a broker elsewhere is passed over
pub went_elsewhere : {T : Type 0} (t : TopologyView) (hosted : List ℕ) (tells : Type 0) (b : ℕ) (bytes : List ℕ) (moment : ℕ) (left : List Request) (n n' : NodeView) (o o' : Outside) (r : Result T RunFault) → is_among hosted b ≡ false
    → Went {T = T} t hosted tells [] n n' o o' r
    → Went {T = T} t hosted tells (led_to (net_of t) hosted left (datagram b bytes moment)) (at_arrival hosted n (datagram b bytes moment)) n' o o' r
went_elsewhere {T} t hosted tells b bytes moment left n n' o o' r e w =
    subst (λ (here : Bool). Went {T = T} t hosted tells ((if here then datagram_acts (net_of t) b bytes else []) ++ (if here then settles ∷ [] else []))
    (if here then record { brokers = n.brokers; offers = n.offers; now = min moment max_tick; orders = n.orders } else n) n' o o' r)
    (sym e) w

-- one that is for a hosted broker is taken there, at its moment, and then it is told what is ready in one order
pub went_here : {T : Type 0} (t : TopologyView) (hosted : List ℕ) (tells : Type 0) (b : ℕ) (bytes : List ℕ) (moment now : ℕ) (left : List Request) (n n' : NodeView) (o o' : Outside) (r : Result T RunFault) → is_among hosted b ≡ true
    → now ≡ min moment max_tick → Went {T = T} t hosted tells (datagram_acts (net_of t) b bytes ++ settles ∷ []) (record { brokers = n.brokers; offers = n.offers; now = now; orders = n.orders }) n' o o' r
    → Went {T = T} t hosted tells (led_to (net_of t) hosted left (datagram b bytes moment)) (at_arrival hosted n (datagram b bytes moment)) n' o o' r
went_here {T} t hosted tells b bytes moment now left n n' o o' r e clock w =
    subst (λ (here : Bool). Went {T = T} t hosted tells ((if here then datagram_acts (net_of t) b bytes else []) ++ (if here then settles ∷ [] else []))
    (if here then record { brokers = n.brokers; offers = n.offers; now = min moment max_tick; orders = n.orders } else n) n' o o' r)
    (sym e)
    (subst (λ k. Went {T = T} t hosted tells (datagram_acts (net_of t) b bytes ++ settles ∷ []) (record { brokers = n.brokers; offers = n.offers; now = k; orders = n.orders }) n' o o' r) clock w)

-- and what that does to the lanes
pub kept_here : (t : TopologyView) (hosted : List ℕ) (b : ℕ) (bytes : List ℕ) (moment now : ℕ) (left : List Request) (n : NodeView) (lanes lanes' : ℕ → Lane) → is_among hosted b ≡ true → now ≡ min moment max_tick
    → ActsKeep t hosted (record { brokers = n.brokers; offers = n.offers; now = now; orders = n.orders }) (datagram_acts (net_of t) b bytes) lanes lanes'
    → ActsKeep t hosted (at_arrival hosted n (datagram b bytes moment)) (led_to (net_of t) hosted left (datagram b bytes moment)) lanes lanes'
kept_here t hosted b bytes moment now left n lanes lanes' e clock k =
    subst (λ (here : Bool). ActsKeep t hosted (if here then record { brokers = n.brokers; offers = n.offers; now = min moment max_tick; orders = n.orders } else n)
    ((if here then datagram_acts (net_of t) b bytes else []) ++ (if here then settles ∷ [] else [])) lanes lanes')
    (sym e)
    (acts_front t hosted (record { brokers = n.brokers; offers = n.offers; now = min moment max_tick; orders = n.orders }) (datagram_acts (net_of t) b bytes) (settles ∷ []) lanes lanes'
    (subst (λ j. ActsKeep t hosted (record { brokers = n.brokers; offers = n.offers; now = j; orders = n.orders }) (datagram_acts (net_of t) b bytes) lanes lanes') clock k))

pub kept_quiet : (t : TopologyView) (hosted : List ℕ) (left : List Request) (moment now : ℕ) (n : NodeView) (lanes lanes' : ℕ → Lane) → now ≡ min moment max_tick
    → ActsKeep t hosted (record { brokers = n.brokers; offers = n.offers; now = now; orders = n.orders }) (map calls (quiet_calls (net_of t) hosted left)) lanes lanes'
    → ActsKeep t hosted (at_arrival hosted n (quiet moment)) (map calls (quiet_calls (net_of t) hosted left) ++ settles ∷ []) lanes lanes'
kept_quiet t hosted left moment now n lanes lanes' clock k =
    acts_front t hosted (record { brokers = n.brokers; offers = n.offers; now = min moment max_tick; orders = n.orders }) (map calls (quiet_calls (net_of t) hosted left)) (settles ∷ []) lanes lanes'
    (subst (λ j. ActsKeep t hosted (record { brokers = n.brokers; offers = n.offers; now = j; orders = n.orders }) (map calls (quiet_calls (net_of t) hosted left)) lanes lanes') clock k)

-- A quiet moment: the clock moves, and then come its acts, and what is ready in one order
pub went_quiet : {T : Type 0} (t : TopologyView) (hosted : List ℕ) (tells : Type 0) (left : List Request) (moment now : ℕ) (n n' : NodeView) (o o' : Outside) (r : Result T RunFault) → now ≡ min moment max_tick
    → Went {T = T} t hosted tells (map calls (quiet_calls (net_of t) hosted left) ++ settles ∷ []) (record { brokers = n.brokers; offers = n.offers; now = now; orders = n.orders }) n' o o' r
    → Went {T = T} t hosted tells (map calls (quiet_calls (net_of t) hosted left) ++ settles ∷ []) (at_arrival hosted n (quiet moment)) n' o o' r
went_quiet {T} t hosted tells left moment now n n' o o' r e w =
    subst (λ k. Went {T = T} t hosted tells (map calls (quiet_calls (net_of t) hosted left) ++ settles ∷ []) (record { brokers = n.brokers; offers = n.offers; now = k; orders = n.orders }) n' o o' r) e w

-- A turn

-- the acts of an arrival alone
acts_of_one : (t : TopologyView) (hosted : List ℕ) (left : List Request) (a : Arrival) → (arrives a ∷ []) ++ led_to (net_of t) hosted left a ≡ acts_from (net_of t) hosted left (a ∷ []) ++ closing false
unfolding acts_from
acts_of_one t hosted left a =
    let acts : List Act = arrives a ∷ led_to (net_of t) hosted left a in
    sym (append-nil (acts ++ []) ∙ append-nil acts)

-- an arrival and then its acts, as far as code went
came_on : {T : Type 0} (t : TopologyView) (hosted : List ℕ) (tells : Type 0) (left : List Request) (a : Arrival) (n n' : NodeView) (taken : Option (List ℕ)) (held : List ℕ) (before came : List Entry) (o' : Outside) (r : Result T RunFault)
    → (tells → came ≡ before ++ entry_of a ∷ [])
    → Went {T = T} t hosted tells (led_to (net_of t) hosted left a) (at_arrival hosted n a) n' (outside taken held came) o' r
    → Went {T = T} t hosted tells (acts_from (net_of t) hosted left (a ∷ []) ++ closing false) n n' (outside taken held before) o' r
came_on {T} t hosted tells left a n n' taken held before came o' r put w =
    subst (λ acts. Went {T = T} t hosted tells acts n n' (outside taken held before) o' r) (acts_of_one t hosted left a)
    (went_on t hosted tells (arrives a ∷ []) (led_to (net_of t) hosted left a) n (at_arrival hosted n a) n' (outside taken held before) (outside taken held came) o' r
    (made_arrives t hosted tells a n (at_arrival hosted n a) (outside taken held before) (outside taken held came) refl refl refl put) w)

-- what the acts of an arrival do to the lanes
came_keep : (t : TopologyView) (hosted : List ℕ) (left : List Request) (a : Arrival) (n : NodeView) (lanes lanes' : ℕ → Lane)
    → ActsKeep t hosted (at_arrival hosted n a) (led_to (net_of t) hosted left a) lanes lanes' → ActsKeep t hosted n (acts_from (net_of t) hosted left (a ∷ []) ++ closing false) lanes lanes'
unfolding all_done done
came_keep t hosted left a n lanes lanes' k =
    subst (λ acts. ActsKeep t hosted n acts lanes lanes') (acts_of_one t hosted left a)
    (acts_then t hosted n (at_arrival hosted n a) (arrives a ∷ []) (led_to (net_of t) hosted left a) lanes lanes lanes' (acts_same t hosted n (arrives a ∷ []) lanes) refl k)

-- what is left after one arrival
left_one : (left : List Request) (a : Arrival) → left_behind left (a ∷ []) ≡ left_after left a
unfolding left_behind
left_one left a = refl

-- A turn that took what came
pub turned_on : (t : TopologyView) (hosted : List ℕ) (tells keeps : Type 0) (lanes lanes' : ℕ → Lane) (steps : List Line) (next next' : ℕ) (a : Arrival) (n n' : NodeView) (taken : Option (List ℕ)) (held : List ℕ) (before came : List Entry) (o' : Outside) (x : Unit {0})
    → IsOfBytes a → (tells → came ≡ before ++ entry_of a ∷ [])
    → Went {T = Unit {0}} t hosted tells (led_to (net_of t) hosted (requests_of (net_of t) hosted (drop next steps)) a) (at_arrival hosted n a) n' (outside taken held came) o' (Ok x)
    → requests_of (net_of t) hosted (drop next' steps) ≡ left_after (requests_of (net_of t) hosted (drop next steps)) a
    → (keeps → ActsKeep t hosted (at_arrival hosted n a) (led_to (net_of t) hosted (requests_of (net_of t) hosted (drop next steps)) a) lanes lanes')
    → Turned t hosted tells keeps steps next next' n n' (outside taken held before) o' lanes lanes' (Ok true)
turned_on t hosted tells keeps lanes lanes' steps next next' a n n' taken held before came o' x bytes put w left kept =
    let all : List Act = acts_from (net_of t) hosted (requests_of (net_of t) hosted (drop next steps)) (a ∷ []) ++ closing false in
    record {
      came = a ∷ [];
      shut = false;
      ends = (refl, refl);
      bytes = (bytes, tt);
      went = went_ok t hosted tells all n n' (outside taken held before) o' true
          (all_made t hosted tells all n n' (outside taken held before) o' x
          (came_on t hosted tells (requests_of (net_of t) hosted (drop next steps)) a n n' taken held before came o' (Ok x) put w));
      kept = λ h. came_keep t hosted (requests_of (net_of t) hosted (drop next steps)) a n lanes lanes' (kept h);
      left = left ∙ sym (left_one (requests_of (net_of t) hosted (drop next steps)) a);
    }

-- one that ended within what came
pub turned_cut : (t : TopologyView) (hosted : List ℕ) (tells keeps : Type 0) (lanes lanes' : ℕ → Lane) (steps : List Line) (next next' : ℕ) (a : Arrival) (n n' : NodeView) (taken : Option (List ℕ)) (held : List ℕ) (before came : List Entry) (o' : Outside) (e : RunFault)
    → IsOfBytes a → (tells → came ≡ before ++ entry_of a ∷ [])
    → Went {T = Unit {0}} t hosted tells (led_to (net_of t) hosted (requests_of (net_of t) hosted (drop next steps)) a) (at_arrival hosted n a) n' (outside taken held came) o' (Err e)
    → (keeps → ActsKeep t hosted (at_arrival hosted n a) (led_to (net_of t) hosted (requests_of (net_of t) hosted (drop next steps)) a) lanes lanes')
    → Turned t hosted tells keeps steps next next' n n' (outside taken held before) o' lanes lanes' (Err e)
turned_cut t hosted tells keeps lanes lanes' steps next next' a n n' taken held before came o' e bytes put w kept =
    let all : List Act = acts_from (net_of t) hosted (requests_of (net_of t) hosted (drop next steps)) (a ∷ []) ++ closing false in
    record {
      came = a ∷ [];
      shut = false;
      ends = (omega arith, refl);
      bytes = (bytes, tt);
      went = went_as {T = Unit {0}} {U = Bool} t hosted tells all n n' (outside taken held before) o' e
          (came_on t hosted tells (requests_of (net_of t) hosted (drop next steps)) a n n' taken held before came o' (Err e) put w);
      kept = λ h. came_keep t hosted (requests_of (net_of t) hosted (drop next steps)) a n lanes lanes' (kept h);
      left = tt;
    }

-- no acts, and then that nothing comes any more
acts_shut : (t : TopologyView) (hosted : List ℕ) (left : List Request) (shut : Bool) → acts_from (net_of t) hosted left [] ++ closing shut ≡ closing shut
unfolding acts_from
acts_shut t hosted left shut = refl

-- nothing comes any more
pub turned_shut : (t : TopologyView) (hosted : List ℕ) (tells keeps : Type 0) (lanes lanes' : ℕ → Lane) (steps : List Line) (next next' : ℕ) (n n' : NodeView) (taken : Option (List ℕ)) (held : List ℕ) (before after : List Entry) → n' ≡ n
    → (tells → after ≡ before ++ entry.closed ∷ []) → next' ≡ next → ((k : ℕ) → lanes' k ≡ lanes k) → Turned t hosted tells keeps steps next next' n n' (outside taken held before) (outside taken held after) lanes lanes' (Ok false)
unfolding left_behind
turned_shut t hosted tells keeps lanes lanes' steps next next' n n' taken held before after e put same still =
    let left : List Request = requests_of (net_of t) hosted (drop next steps) in
    record {
      came = [];
      shut = true;
      ends = (refl, refl);
      bytes = tt;
      went = subst (λ acts. Went {T = Bool} t hosted tells acts n n' (outside taken held before) (outside taken held after) (Ok false)) (sym (acts_shut t hosted left true))
          (went_ok t hosted tells (closes ∷ []) n n' (outside taken held before) (outside taken held after) false
          (made_closes t hosted tells n n' (outside taken held before) (outside taken held after) e refl refl put));
      kept = λ h. acts_none t hosted n (acts_from (net_of t) hosted left [] ++ closing true) lanes lanes' still;
      left = ap (λ k. requests_of (net_of t) hosted (drop k steps)) same;
    }

-- the post failed
pub turned_failed : (t : TopologyView) (hosted : List ℕ) (tells keeps : Type 0) (lanes lanes' : ℕ → Lane) (steps : List Line) (next next' : ℕ) (n n' : NodeView) (taken : Option (List ℕ)) (held : List ℕ) (before after : List Entry) → n' ≡ n
    → (tells → after ≡ before ++ entry.failed ∷ []) → ((k : ℕ) → lanes' k ≡ lanes k) → Turned t hosted tells keeps steps next next' n n' (outside taken held before) (outside taken held after) lanes lanes' (Err run.Post)
turned_failed t hosted tells keeps lanes lanes' steps next next' n n' taken held before after e put still =
    let left : List Request = requests_of (net_of t) hosted (drop next steps) in
    record {
      came = [];
      shut = false;
      ends = (omega arith, refl);
      bytes = tt;
      went = subst (λ acts. Went {T = Bool} t hosted tells acts n n' (outside taken held before) (outside taken held after) (Err run.Post)) (sym (acts_shut t hosted left false))
          (went_failed t hosted tells n n' (outside taken held before) (outside taken held after) e refl refl put);
      kept = λ h. acts_none t hosted n (acts_from (net_of t) hosted left [] ++ closing false) lanes lanes' still;
      left = tt;
    }

-- or had no memory
pub turned_refused : (t : TopologyView) (hosted : List ℕ) (tells keeps : Type 0) (lanes lanes' : ℕ → Lane) (steps : List Line) (next next' : ℕ) (n n' : NodeView) (taken : Option (List ℕ)) (held : List ℕ) (before after : List Entry)
    → (tells → after ≡ before ++ []) → ((k : ℕ) → lanes' k ≡ lanes k) → Turned t hosted tells keeps steps next next' n n' (outside taken held before) (outside taken held after) lanes lanes' (Err run.Memory)
turned_refused t hosted tells keeps lanes lanes' steps next next' n n' taken held before after put still =
    let left : List Request = requests_of (net_of t) hosted (drop next steps) in
    record {
      came = [];
      shut = false;
      ends = (omega arith, refl);
      bytes = tt;
      went = went_front t hosted tells (acts_from (net_of t) hosted left [] ++ closing false) n n' (outside taken held before) (outside taken held after) run.Memory tt
          (front-nothing taken taken _ refl) (λ h. begins_nothing before after _ (put h ∙ append-nil before));
      kept = λ h. acts_none t hosted n (acts_from (net_of t) hosted left [] ++ closing false) lanes lanes' still;
      left = tt;
    }
