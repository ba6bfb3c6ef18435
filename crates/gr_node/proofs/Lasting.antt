-- What the lanes of a publisher had lasts: through a call on its log, through acts one after another, and through a start
use Rattle.std.proofs.Common.{◌≡◌, ◌≢◌, ◌⊎◌, inl, inr, ℕ, suc, ◌<◌, ◌≤◌, Bool, true, false, List, [], ◌∷◌, ◌++◌, length, take, Option, Some, None, Ok, refl, sym, ap, ◌∙◌, subst, arith, le_refl, append_assoc, append-nil, length-append}
use Rattle.std.proofs.lemmas.Bool.{cases_eq, cases_lt, false≢true}
use Rattle.std.proofs.lemmas.List.{take-append-le, take_at}
use Rattle.gr_out.specs.Lane.{Lane, Call as DiskCall, content, moment, LeftAfter, LeftFrom}
use Rattle.gr_out.proofs.Images.{picked_left}
use Rattle.gr_publog.specs.declared.record.Record.{Record}
use Rattle.gr_publog.specs.State.{LogState}
use Rattle.gr_publog.specs.Lanes.{state_in}
use Rattle.gr_publog.specs.Views.{LogView, Lanes, lanes_at, AwayFrom, MayLeavePair, LeftPair, ReadsAs}
use Rattle.gr_publog.specs.Calls.{state_if, appended_if}
use Rattle.gr_pubend.specs.Log.{said}
use Rattle.gr_pubend.specs.Cuts.{cut_if, cut_state}
use Rattle.gr_sched.specs.declared.step.Line.{Line}
use Rattle.gr_topo.specs.Topology.{TopologyView}
use Rattle.gr_model.specs.Net.{is_host}
use Rattle.gr_model.specs.NetOf.{net_of}
use Rattle.gr_model.specs.Broker.{Log}
use Rattle.gr_model.specs.Arrivals.{Arrival}
use Rattle.gr_broker.specs.Lanes.{log_lane, GoesOnBoth}
use Rattle.gr_broker.specs.Opened.{LosesNothing}
use Rattle.gr_node.specs.Seen.{NodeView, log_here}
use Rattle.gr_node.specs.Of.{IsSet, AllStand}
use Rattle.gr_node.specs.Plan.{Call, Act, calls, closing, turn_acts}
use Rattle.gr_node.specs.Done.{Done, call_done, all_done}
use Rattle.gr_node.specs.Lasting.{Onward, IsAlike, SettlesOn, log_read, HoldsBetween, IsFound, Along, CallKeeps, log_after, IsDuring, ActsKeep, StartsKeep, acts_came, StoodAfter, StoodEachTime}
use Rattle.gr_node.proofs.Pairs.{lanes_same, away, others_same}
use Rattle.gr_node.proofs.Onwards.{onward_alike, settles_onward, onward_then, said_read, appended_alike, cut_alike}
use Rattle.gr_node.proofs.Wending.{done_append, call_is}

-- Images

-- what a crash may leave now, it may have left at some moment since any
still_left : (start : List ℕ) (made : List DiskCall) (n : ℕ) (image : List ℕ) → LeftAfter start made image → LeftFrom start made n image
still_left start [] n image left = left
still_left start (c ∷ made) n image left = inl left

pub left_pair : (x y : Lanes) (a b : List ℕ) → MayLeavePair y a b → LeftPair x y a b
left_pair x y a b m = (
  still_left y.first.start y.first.calls (moment x.first) a m.0,
  still_left y.second.start y.second.calls (moment x.second) b m.1,
)

-- they may leave what a read gives
now_left : (ls : Lanes) → MayLeavePair ls (content ls.first) (content ls.second)
now_left ls = (picked_left 1 ls.first.start ls.first.calls, picked_left 1 ls.second.start ls.second.calls)

-- Parts of a way

pub along_as : (P Q : List ℕ → List ℕ → Type 0) → ((a b : List ℕ) → P a b → Q a b) → (x y : Lanes) (ms : List Lanes) → Along P x ms y → Along Q x ms y
along_as P Q f x y [] h = h
along_as P Q f x y (m ∷ ms) h = (h.0, (λ a b left. f a b (h.1 a b left)), along_as P Q f m y ms h.2)

pub along_on : (P : List ℕ → List ℕ → Type 0) (x y z : Lanes) (ms ns : List Lanes) → Along P x ms y → Along P y ns z → Along P x (ms ++ ns) z
along_on P x y z [] ns h k = subst (λ (l : Lanes). Along P l ns z) h k
along_on P x y z (m ∷ ms) ns h k = (h.0, h.1, along_on P m y z ms ns h.2 k)

-- what a crash may leave at the end
pub along_end : (P : List ℕ → List ℕ → Type 0) (x y : Lanes) (ms : List Lanes) → Along P x ms y → (a b : List ℕ) → MayLeavePair y a b → (y ≡ x) ⊎ P a b
along_end P x y [] h a b m = inl h
along_end P x y (k ∷ ms) h a b m = elim (along_end P k y ms h.2 a b m) [
  | inl e ↦ inr (h.1 a b (left_pair x k a b (subst (λ (l : Lanes). MayLeavePair l a b) e m)))
  | inr p ↦ inr p
]

-- What a call logs

-- what holds the log before, with the first record, or cut, holds what lies between the first and the last
module _ (late : List ℕ) (l : LogView) (theirs : l.state.late ≡ late) where
  reads : (s : LogState) (a b : List ℕ) → s.late ≡ late → ReadsAs s a b → state_in late a b ≡ Ok s
  reads s a b is r = ap (λ (k : List ℕ). state_in k a b) (sym is) ∙ r

  late_if : (r : Option Record) → (state_if r l.state).late ≡ late
  late_if None = theirs
  late_if (Some r) = theirs

  late_cut : (s : LogState) (cut : Option ℕ) → s.late ≡ late → (cut_state cut s).late ≡ late
  late_cut s None is = is
  late_cut s (Some tick) is = is

  -- what the view says is what its state reads as
  nothing_more : SettlesOn (said l) (log_read l.state)
  nothing_more = record { last = refl; settled = le_refl l.state.settled; cut = refl; events = refl; joins = refl }

  -- one record, or none
  pub one_between : (r : Option Record) → Onward (log_read l.state) (log_read (state_if r l.state)) → (a b : List ℕ) → ReadsAs l.state a b ⊎ ReadsAs (state_if r l.state) a b
      → HoldsBetween late (said l) (said (appended_if r l)) a b
  one_between r up a b h = elim h [
    | inl e ↦ (l.state, reads l.state a b theirs e, first, onward_then (log_read l.state) (log_read (state_if r l.state)) (said (appended_if r l)) up last, inl nothing_more)
    | inr e ↦ (state_if r l.state, reads (state_if r l.state) a b (late_if r) e, onward_then (said l) (log_read l.state) (log_read (state_if r l.state)) first up, last, inr (appended_alike r l))
  ]
    where
      first : Onward (said l) (log_read l.state)
      first = onward_alike (said l) (log_read l.state) (said_read l)

      last : Onward (log_read (state_if r l.state)) (said (appended_if r l))
      last = onward_alike (log_read (state_if r l.state)) (said (appended_if r l)) (appended_alike r l)

  state_is : (r : Option Record) → (appended_if r l).state ≡ state_if r l.state
  state_is None = refl
  state_is (Some r) = refl

  -- a mark, or none, and a cut, or none
  pub two_between : (r : Option Record) (cut : Option ℕ) (reclaim : ℕ) → SettlesOn (log_read l.state) (log_read (state_if r l.state)) → Onward (log_read (state_if r l.state)) (log_read (cut_state cut (state_if r l.state)))
      → (a b : List ℕ) → ReadsAs l.state a b ⊎ (ReadsAs (state_if r l.state) a b ⊎ ReadsAs (cut_state cut (state_if r l.state)) a b)
      → HoldsBetween late (said l) (said (cut_if cut reclaim (appended_if r l))) a b
  two_between r cut reclaim marks two a b h = elim h [
    | inl e ↦ (l.state, reads l.state a b theirs e, first, onward_then s m (said end) one (onward_then m k (said end) two last), inl nothing_more)
    | inr (inl e) ↦ (state_if r l.state, reads (state_if r l.state) a b (late_if r) e, onward_then (said l) s m first one, onward_then m k (said end) two last, inl (record { last = marks.last; settled = marks.settled; cut = marks.cut; events = marks.events; joins = marks.joins }))
    | inr (inr e) ↦ (
      cut_state cut (state_if r l.state),
      reads (cut_state cut (state_if r l.state)) a b (late_cut (state_if r l.state) cut (late_if r)) e,
      onward_then (said l) m k (onward_then (said l) s m first one) two,
      last,
      inr alike,
    )
  ]
    where
      s : Log
      s = log_read l.state

      m : Log
      m = log_read (state_if r l.state)

      k : Log
      k = log_read (cut_state cut (state_if r l.state))

      end : LogView
      end = cut_if cut reclaim (appended_if r l)

      first : Onward (said l) s
      first = onward_alike (said l) s (said_read l)

      one : Onward s m
      one = settles_onward s m marks

      alike : IsAlike k (said end)
      alike = subst (λ (x : LogState). IsAlike (log_read (cut_state cut x)) (said end)) (state_is r) (cut_alike cut reclaim (appended_if r l))

      last : Onward k (said end)
      last = onward_alike k (said end) alike

-- none was called, or those of one publisher
module _ (t : TopologyView) (n : NodeView) (c : Call) (lanes lanes' : ℕ → Lane) where
  pub none_called : ((k : ℕ) → lanes' k ≡ lanes k) → CallKeeps t n c lanes lanes'
  none_called same = record { lanes = λ p. ([], lanes_same lanes lanes' (log_lane p) (same (log_lane p)) (same (suc (log_lane p)))) }

  pub one_called : (p : ℕ) → GoesOnBoth (lanes_at lanes (log_lane p)) (lanes_at lanes' (log_lane p)) → ((k : ℕ) → AwayFrom (log_lane p) k → lanes' k ≡ lanes k)
      → ((a b : List ℕ) → LeftPair (lanes_at lanes (log_lane p)) (lanes_at lanes' (log_lane p)) a b → HoldsBetween t.late (log_here t n p) (log_here t (call_done t n c).node p) a b)
      → CallKeeps t n c lanes lanes'
  one_called p on others holds = record { lanes = λ q. go q (cases_eq q p) }
    where
      go : (q : ℕ) → (q ≡ p) ⊎ (q ≢ p) → (parts : List Lanes) × Along (HoldsBetween t.late (log_here t n q) (log_here t (call_done t n c).node q)) (lanes_at lanes (log_lane q)) parts (lanes_at lanes' (log_lane q))
      go q (inl e) = subst (λ (k : ℕ). (parts : List Lanes) × Along (HoldsBetween t.late (log_here t n k) (log_here t (call_done t n c).node k)) (lanes_at lanes (log_lane k)) parts (lanes_at lanes' (log_lane k))) (sym e)
          (lanes_at lanes' (log_lane p) ∷ [], (on, holds, refl))
      go q (inr ne) = ([], others_same lanes lanes' p q ne others)

-- Acts

pub node_behind : (t : TopologyView) (hosted : List ℕ) (n : NodeView) (acts more : List Act)
    → (all_done t hosted n (acts ++ more)).node ≡ (let d : Done = all_done t hosted n acts in (all_done t hosted d.node more).node)
node_behind t hosted n acts more = ap (λ (d : Done). d.node) (done_append t hosted n acts more)

module _ (t : TopologyView) (hosted : List ℕ) where
  -- no lane is called
  pub acts_none : (n : NodeView) (acts : List Act) (lanes lanes' : ℕ → Lane) → ((k : ℕ) → lanes' k ≡ lanes k) → ActsKeep t hosted n acts lanes lanes'
  acts_none n acts lanes lanes' same = record { lanes = λ p. ([], lanes_same lanes lanes' (log_lane p) (same (log_lane p)) (same (suc (log_lane p)))) }

  pub acts_same : (n : NodeView) (acts : List Act) (lanes : ℕ → Lane) → ActsKeep t hosted n acts lanes lanes
  acts_same n acts lanes = acts_none n acts lanes lanes (λ k. refl)

  -- a call alone
  pub acts_call : (n : NodeView) (c : Call) (lanes lanes' : ℕ → Lane) → CallKeeps t n c lanes lanes' → ActsKeep t hosted n (calls c ∷ []) lanes lanes'
  unfolding all_done
  acts_call n c lanes lanes' k = record { lanes = λ p. ((k.lanes p).0, along_as (between p) (IsDuring t hosted n (calls c ∷ []) p) (during p) (lanes_at lanes (log_lane p)) (lanes_at lanes' (log_lane p)) (k.lanes p).0 (k.lanes p).1) }
    where
      between : ℕ → List ℕ → List ℕ → Type 0
      between p = HoldsBetween t.late (log_here t n p) (log_here t (call_done t n c).node p)

      during : (p : ℕ) (a b : List ℕ) → between p a b → IsDuring t hosted n (calls c ∷ []) p a b
      during p a b h = record {
        made = [];
        next = calls c ∷ [];
        left = [];
        parts = refl;
        one = omega arith;
        holds = subst (λ (d : Done). HoldsBetween t.late (log_here t n p) (log_here t d.node p) a b) (sym (call_is t hosted n c)) h;
      }

  -- the first of more
  pub acts_front : (n : NodeView) (xs ys : List Act) (lanes lanes' : ℕ → Lane) → ActsKeep t hosted n xs lanes lanes' → ActsKeep t hosted n (xs ++ ys) lanes lanes'
  acts_front n xs ys lanes lanes' k = record { lanes = λ p. ((k.lanes p).0, along_as (IsDuring t hosted n xs p) (IsDuring t hosted n (xs ++ ys) p) (during p) (lanes_at lanes (log_lane p)) (lanes_at lanes' (log_lane p)) (k.lanes p).0 (k.lanes p).1) }
    where
      during : (p : ℕ) (a b : List ℕ) → IsDuring t hosted n xs p a b → IsDuring t hosted n (xs ++ ys) p a b
      during p a b h = record {
        made = h.made;
        next = h.next;
        left = h.left ++ ys;
        parts = ap (λ (l : List Act). h.made ++ l) (sym (append_assoc h.next h.left ys)) ∙ (sym (append_assoc h.made (h.next ++ h.left) ys) ∙ ap (λ (l : List Act). l ++ ys) h.parts);
        one = h.one;
        holds = h.holds;
      }

  -- and then the others, from the node that they left
  acts_behind : (n m : NodeView) (xs ys : List Act) (lanes lanes' : ℕ → Lane) → m ≡ (all_done t hosted n xs).node → ActsKeep t hosted m ys lanes lanes' → ActsKeep t hosted n (xs ++ ys) lanes lanes'
  acts_behind n m xs ys lanes lanes' is k = record { lanes = λ p. ((k.lanes p).0, along_as (IsDuring t hosted m ys p) (IsDuring t hosted n (xs ++ ys) p) (during p) (lanes_at lanes (log_lane p)) (lanes_at lanes' (log_lane p)) (k.lanes p).0 (k.lanes p).1) }
    where
      log_is : (acts : List Act) (p : ℕ) → log_after t hosted m acts p ≡ log_after t hosted n (xs ++ acts) p
      log_is acts p = ap (λ (k : NodeView). log_after t hosted k acts p) is ∙ sym (ap (λ (k : NodeView). log_here t k p) (node_behind t hosted n xs acts))

      during : (p : ℕ) (a b : List ℕ) → IsDuring t hosted m ys p a b → IsDuring t hosted n (xs ++ ys) p a b
      during p a b h = record {
        made = xs ++ h.made;
        next = h.next;
        left = h.left;
        parts = append_assoc xs h.made (h.next ++ h.left) ∙ ap (λ (l : List Act). xs ++ l) h.parts;
        one = h.one;
        holds = subst (λ (l : Log). HoldsBetween t.late (log_after t hosted n (xs ++ h.made) p) l a b) (log_is (h.made ++ h.next) p ∙ ap (λ (l : List Act). log_after t hosted n l p) (sym (append_assoc xs h.made h.next)))
            (subst (λ (l : Log). HoldsBetween t.late l (log_after t hosted m (h.made ++ h.next) p) a b) (log_is h.made p) h.holds);
      }

  pub acts_then : (n m : NodeView) (xs ys : List Act) (a b c : ℕ → Lane) → ActsKeep t hosted n xs a b → m ≡ (all_done t hosted n xs).node → ActsKeep t hosted m ys b c → ActsKeep t hosted n (xs ++ ys) a c
  acts_then n m xs ys a b c one is two =
      let x = acts_front n xs ys a b one in
      let y = acts_behind n m xs ys b c is two in
      record {
        lanes = λ p. (
          (x.lanes p).0 ++ (y.lanes p).0,
          along_on (IsDuring t hosted n (xs ++ ys) p) (lanes_at a (log_lane p)) (lanes_at b (log_lane p)) (lanes_at c (log_lane p)) (x.lanes p).0 (y.lanes p).0 (x.lanes p).1 (y.lanes p).1,
        );
      }

-- Starts

module _ (late : List ℕ) where
  pub starts_same : (lanes lanes' : ℕ → Lane) → ((k : ℕ) → lanes' k ≡ lanes k) → StartsKeep late lanes lanes'
  starts_same lanes lanes' same = record { lanes = λ p. ([], lanes_same lanes lanes' (log_lane p) (same (log_lane p)) (same (suc (log_lane p)))) }

  -- what holds as at a later time holds as at an earlier one
  found_before : (x y : Lanes) (ms : List Lanes) → Along (IsFound late x) x ms y → (a b : List ℕ) → IsFound late y a b → IsFound late x a b
  found_before x y ms h a b f = elim (along_end (IsFound late x) x y ms h f.0 f.1 f.2) [
    | inl e ↦ (f.0, f.1, subst (λ (l : Lanes). MayLeavePair l f.0 f.1) e f.2, f.3)
    | inr g ↦ (g.0, g.1, g.2, f.3 ∙ g.3)
  ]

  pub starts_on : (a b c : ℕ → Lane) → StartsKeep late a b → StartsKeep late b c → StartsKeep late a c
  starts_on a b c one two = record {
    lanes = λ p.
        let x : Lanes = lanes_at a (log_lane p) in
        let y : Lanes = lanes_at b (log_lane p) in
        let z : Lanes = lanes_at c (log_lane p) in
        let k = one.lanes p in
        let l = two.lanes p in
        (k.0 ++ l.0, along_on (IsFound late x) x y z k.0 l.0 k.1 (along_as (IsFound late y) (IsFound late x) (found_before x y k.0 k.1) y z l.0 l.1));
  }

  -- an opening
  opened_along : (x y : Lanes) → LosesNothing late x y → (parts : List Lanes) × Along (IsFound late x) x parts y
  opened_along x y l = (
    l.synced ∷ (y ∷ []),
    (l.on_synced, (λ a b left. (a, b, l.before_sync a b left, refl)), (l.on, (λ a b left. then_found a b (l.any_moment a b left)), refl)),
  )
    where
      then_found : (a b : List ℕ) → MayLeavePair x a b ⊎ (state_in late a b ≡ state_in late (content x.first) (content x.second)) → IsFound late x a b
      then_found a b (inl m) = (a, b, m, refl)
      then_found a b (inr e) = (content x.first, content x.second, now_left x, e)

  -- a broker's start: those of the publishers at it were opened
  pub starts_one : (t : TopologyView) (b : ℕ) (lanes lanes' : ℕ → Lane) → ((p : ℕ) → p < length t.publishers → is_host (net_of t) p b ≡ true → LosesNothing late (lanes_at lanes (log_lane p)) (lanes_at lanes' (log_lane p)))
      → ((n : ℕ) → ((p : ℕ) → p < length t.publishers → is_host (net_of t) p b ≡ true → AwayFrom (log_lane p) n) → lanes' n ≡ lanes n) → StartsKeep late lanes lanes'
  starts_one t b lanes lanes' loses others = record { lanes = λ p. go p (cases_lt p (length t.publishers)) (is_host (net_of t) p b) refl }
    where
      Kept : ℕ → Type 0
      Kept p = (parts : List Lanes) × Along (IsFound late (lanes_at lanes (log_lane p))) (lanes_at lanes (log_lane p)) parts (lanes_at lanes' (log_lane p))

      -- of none that is here
      elsewhere : (p : ℕ) → ((q : ℕ) → q < length t.publishers → is_host (net_of t) q b ≡ true → p ≢ q) → Kept p
      elsewhere p apart = (
        [],
        lanes_same lanes lanes' (log_lane p) (others (log_lane p) (λ q below here. (away q p (apart q below here)).0)) (others (suc (log_lane p)) (λ q below here. (away q p (apart q below here)).1)),
      )

      go : (p : ℕ) → (p < length t.publishers) ⊎ (length t.publishers ≤ p) → (h : Bool) → is_host (net_of t) p b ≡ h → Kept p
      go p (inl below) true here = opened_along (lanes_at lanes (log_lane p)) (lanes_at lanes' (log_lane p)) (loses p below here)
      go p (inl below) false not = elsewhere p (λ q less here e. false≢true (sym not ∙ (ap (λ (k : ℕ). is_host (net_of t) k b) e ∙ here)))
      go p (inr past) h e = elsewhere p (λ q below here same. omega (arith, past, below, same))

-- A run, turn by turn

pub stood_none : (t : TopologyView) (hosted : List ℕ) (steps : List Line) (n : NodeView) (closed : Bool) (lanes : ℕ → Lane) → StoodEachTime t hosted steps n [] closed lanes
stood_none t hosted steps n closed lanes k lt = absurd (omega (arith, lt))

-- the node stood before a turn, and each time before that
module _ (t : TopologyView) (hosted : List ℕ) (steps : List Line) (n m : NodeView) (came more : List Arrival) (closed : Bool) (turn : List Act) (lanes lanes' : ℕ → Lane)
    (is : m ≡ (all_done t hosted n (acts_came t hosted steps came)).node) (acts : acts_came t hosted steps came ++ turn ≡ turn_acts (net_of t) hosted steps (came ++ more) closed)
    (keep : ActsKeep t hosted m turn lanes lanes') where
  before : acts_came t hosted steps came ++ closing false ≡ acts_came t hosted steps came
  before = append-nil (acts_came t hosted steps came)

  pub kept_on : (first : ℕ → Lane) → ActsKeep t hosted n (turn_acts (net_of t) hosted steps came false) first lanes → ActsKeep t hosted n (turn_acts (net_of t) hosted steps (came ++ more) closed) first lanes'
  kept_on first k =
      subst (λ (l : List Act). ActsKeep t hosted n l first lanes') acts
      (acts_then t hosted n m (acts_came t hosted steps came) turn first lanes lanes' (subst (λ (l : List Act). ActsKeep t hosted n l first lanes) before k) is keep)

  pub stood_on : length more ≤ 1 → StoodEachTime t hosted steps n came false lanes → IsSet t hosted m → AllStand lanes m → StoodEachTime t hosted steps n (came ++ more) closed lanes'
  stood_on one each set stand k lt = go (cases_lt k (length came))
    where
      node : List Arrival → NodeView
      node xs = let d : Done = all_done t hosted n (acts_came t hosted steps xs) in d.node

      go : (k < length came) ⊎ (length came ≤ k) → StoodAfter t hosted steps n (came ++ more) closed k lanes'
      go (inl h) =
          let a = each k h in
          let upto : List Act = acts_came t hosted steps (take k came) in
          let front : take k came ≡ take k (came ++ more) = sym (take-append-le k came more (omega (arith, h))) in
          let same : node (take k came) ≡ node (take k (came ++ more)) = ap node front in
          let all : upto ++ a.later ≡ acts_came t hosted steps came = a.acts ∙ before in
          let there : m ≡ (all_done t hosted (node (take k came)) a.later).node = is ∙ (ap (λ (l : List Act). (all_done t hosted n l).node) (sym all) ∙ node_behind t hosted n upto a.later) in
          record {
            between = a.between;
            set = subst (λ x. IsSet t hosted x) same a.set;
            stand = subst (λ x. AllStand a.between x) same a.stand;
            later = a.later ++ turn;
            acts = ap (λ (xs : List Arrival). acts_came t hosted steps xs ++ (a.later ++ turn)) (sym front) ∙ (sym (append_assoc upto a.later turn) ∙ (ap (λ (l : List Act). l ++ turn) all ∙ acts));
            keep = subst (λ x. ActsKeep t hosted x (a.later ++ turn) a.between lanes') same (acts_then t hosted (node (take k came)) m a.later turn a.between lanes lanes' a.keep there keep);
          }
      go (inr h) =
          let all : length came ≡ k = omega (arith, h, lt, one, length-append came more) in
          let front : came ≡ take k (came ++ more) = sym (take_at came more k all) in
          let same : m ≡ node (take k (came ++ more)) = is ∙ ap node front in
          record {
            between = lanes;
            set = subst (λ x. IsSet t hosted x) same set;
            stand = subst (λ x. AllStand lanes x) same stand;
            later = turn;
            acts = ap (λ (xs : List Arrival). acts_came t hosted steps xs ++ turn) (sym front) ∙ acts;
            keep = subst (λ x. ActsKeep t hosted x turn lanes lanes') same keep;
          }
