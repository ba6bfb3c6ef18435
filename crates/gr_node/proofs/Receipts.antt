-- A datagram comes to a broker of a node: one that is taken came over the right edge, so what it leads to is named and goes over
-- edges; one that is dropped leaves the broker as it was, and is told in one line
use Rattle.std.proofs.Common.{◌≡◌, ◌≢◌, ℕ, ◌<◌, ◌≤◌, Bool, true, false, ◌&&◌, List, [], ◌∷◌, length, get_or, Option, Some, None, Result, Ok, Err, OnOk, refl, sym, ap, ◌∙◌, subst, arith}
use Rattle.std.specs.Prelude.{IfOk, nat_eq, nat_lt}
use Rattle.std.specs.List.{AllByRecursion, list_any}
use Rattle.std.proofs.lemmas.Bool.{and_parts, eqb-true, ltb-true}
use Rattle.std.specs.declared.alloc.AllocError.{AllocError}
use Rattle.gr_event.specs.declared.join.Join.{Join}
use Rattle.gr_event.specs.declared.join.Split.{Split}
use Rattle.gr_event.specs.Joins.{first_split, longer}
use Rattle.gr_frame.specs.declared.Body.{Body}
use Rattle.gr_frame.specs.declared.Body.TheVariants as body
use Rattle.gr_frame.specs.declared.Frame.{Frame}
use Rattle.gr_frame.specs.declared.Head.{Head}
use Rattle.gr_frame.specs.declared.fault.FrameFault.{FrameFault}
use Rattle.gr_frame.specs.declared.fault.FrameKind.{FrameKind}
use Rattle.gr_frame.specs.declared.fault.FrameKind.TheVariants as kind
use Rattle.gr_frame.specs.Cut.{AreFrames}
use Rattle.gr_frame.specs.Fault.{fault_number}
use Rattle.gr_know.specs.declared.values.K.{K}
use Rattle.gr_know.specs.Values.{known_at}
use Rattle.gr_out.specs.declared.fault.RunFault.{RunFault}
use Rattle.gr_out.specs.declared.fault.RunFault.TheVariants as run
use Rattle.gr_out.specs.Lane.{Lane}
use Rattle.gr_publog.specs.Views.{LogView}
use Rattle.gr_topo.specs.Topology.{TopologyView}
use Rattle.gr_model.specs.declared.report.Report.{Report}
use Rattle.gr_model.specs.Net.{Net, all_late}
use Rattle.gr_model.specs.NetOf.{net_of, IsOrderly}
use Rattle.gr_model.specs.Tree.{IsNet}
use Rattle.gr_model.specs.Text.{IsNamed}
use Rattle.gr_model.specs.Arrivals.{fits_broker, joins_in, joins_fit, least_clash}
use Rattle.gr_model.specs.Broker.{View, empty_log, receive, seen, taking, with_joins}
use Rattle.gr_model_calls.specs.Edges.{GoesOverEdge}
use Rattle.gr_model_calls.specs.Fits.{BodyFits}
use Rattle.gr_model_calls.proofs.calls.Held.{longer_late}
use Rattle.gr_model_calls.proofs.topology.Strays.{receive_on}
use Rattle.gr_broker_relay.specs.declared.outcome.Outcome.{Outcome}
use Rattle.gr_broker.specs.declared.outcome.Received.{Received}
use Rattle.gr_broker.specs.declared.outcome.Received.TheVariants as answer
use Rattle.gr_broker.specs.declared.outcome.Dropped.TheVariants as dropped
use Rattle.gr_broker.specs.Seen.{BrokerView, view_in, log_in, is_broken}
use Rattle.gr_broker.specs.Of.{IsBrokerOf}
use Rattle.gr_broker.specs.Receipt.{Receipt, no_frame, stray, split, clash, taken, came_at, receipt, receipt_of_fit, after_receipt, Answers}
use Rattle.gr_report.specs.Named.{AllNamed}
use Rattle.gr_report.proofs.Names.{receive_named, names_with, orderly_with}
use Rattle.gr_report.proofs.Named.{names_of, all_of}
use Rattle.gr_report.proofs.Passing.{seen_edges}
use Rattle.gr_node.specs.Seen.{NodeView}
use Rattle.gr_node.specs.Of.{NodeFits, AllStand}
use Rattle.gr_node.specs.Plan.{gets}
use Rattle.gr_node.specs.Done.{receipt_lines, receipt_frames, done_by, done_at, taken_up, call_done}
use Rattle.gr_node.specs.Went.{Makes}
use Rattle.gr_node.specs.Calling.{line_of_drop, IsToldOf, FollowsReceipt}
use Rattle.gr_node.proofs.Exchanged.{Place, with_brokers, place_broker, place_number, place_whole, fits_on, stands_over, makes_on}

-- The receipts

-- what holds of a datagram that is no frame, of one that does not fit, of one whose joins split, of one that clashes, and of one that
-- fits and is taken holds of each
receipt_cases : (net : Net) (now : ℕ) (x : BrokerView) (P : Receipt → Type 0) → ((e : FrameFault) → P (no_frame e)) → ((h : Head) → P (stray h)) → ((s : Split) → P (split s)) → ((t : ℕ) (k c : K) → P (clash t k c))
    → ((f : Frame) → fits_broker net x.number f ≡ true → P (taken (receive (seen net (taking (view_in x f.head.publisher) f)) now f (view_in x f.head.publisher) empty_log))) → (r : Result Frame FrameFault) → P (receipt net now x r)
unfolding receipt receipt_of_fit
receipt_cases net now x P no_frames strays splits clashed takes (Err e) = no_frames e
receipt_cases net now x P no_frames strays splits clashed takes (Ok f) = by_fit (fits_broker net x.number f) refl
  where
    v : View
    v = view_in x f.head.publisher

    found : Option Split → Option ℕ → Receipt
    found s c = elim s [
      | Some y ↦ split y
      | None ↦ elim c [ Some t ↦ clash t (known_at v.know t) (came_at f t) | None ↦ taken (receive (seen net (taking v f)) now f v empty_log) ]
    ]

    said : Bool → Receipt
    said q = elim q [ false ↦ stray f.head | true ↦ found (first_split 0 v.joins (joins_in f)) (least_clash v.know f) ]

    by_kept : (s : Option Split) (c : Option ℕ) → fits_broker net x.number f ≡ true → P (found s c)
    by_kept (Some y) c e = splits y
    by_kept None (Some t) e = clashed t (known_at v.know t) (came_at f t)
    by_kept None None e = takes f e

    by_fit : (q : Bool) → fits_broker net x.number f ≡ q → P (said q)
    by_fit false e = strays f.head
    by_fit true e = by_kept (first_split 0 v.joins (joins_in f)) (least_clash v.know f) e

-- A frame that fits

pub record IsFitting (net : Net) (b : ℕ) (f : Frame) : Type 0 where
  pub to : f.head.to ≡ b
  pub publisher : f.head.publisher < net.publishers
  pub body : BodyFits net f.head.publisher f.head.from f.head.to f.body
  pub joins : all_late net (joins_in f) ≡ true

fitting : (net : Net) (b : ℕ) (f : Frame) → fits_broker net b f ≡ true → IsFitting net b f
fitting net b f e = record {
  to = to;
  publisher = ltb-true f.head.publisher net.publishers (and_parts (nat_eq f.head.to b) (nat_lt f.head.publisher net.publishers) parts.0).1;
  body = go f.body parts.1;
  joins = fits.1;
}
  where
    over : Body → Bool
    over y = elim y [
      | body.Curiosity runs ↦ list_any (λ x. nat_eq x f.head.from) (net.children f.head.publisher b)
      | _ ↦ elim (net.up f.head.publisher b) [ Some u ↦ nat_eq u f.head.from | None ↦ false ]
    ]

    fits : (((nat_eq f.head.to b && nat_lt f.head.publisher net.publishers) && over f.body) ≡ true) × (joins_fit net f ≡ true)
    fits = and_parts ((nat_eq f.head.to b && nat_lt f.head.publisher net.publishers) && over f.body) (joins_fit net f) e

    parts : ((nat_eq f.head.to b && nat_lt f.head.publisher net.publishers) ≡ true) × (over f.body ≡ true)
    parts = and_parts (nat_eq f.head.to b && nat_lt f.head.publisher net.publishers) (over f.body) fits.0

    to : f.head.to ≡ b
    to = eqb-true f.head.to b (and_parts (nat_eq f.head.to b) (nat_lt f.head.publisher net.publishers) parts.0).0

    go : (y : Body) → over y ≡ true → BodyFits net f.head.publisher f.head.from f.head.to y
    go (body.Curiosity runs) h = subst (λ c. list_any (λ x. nat_eq x f.head.from) (net.children f.head.publisher c) ≡ true) (sym to) h
    go (body.Knowledge runs js) h = tt
    go (body.Expect tick) h = tt

-- the number of a fault that is none of memory
fault_named : (k : FrameKind) → k ≢ kind.Memory → (1 ≤ fault_number k) × (fault_number k ≤ 10)
fault_named kind.Memory n = absurd (n refl)
fault_named kind.Short n = (omega arith, omega arith)
fault_named kind.BadMagic n = (omega arith, omega arith)
fault_named kind.BadVersion n = (omega arith, omega arith)
fault_named kind.BadKind n = (omega arith, omega arith)
fault_named kind.BadRange n = (omega arith, omega arith)
fault_named kind.BadOrder n = (omega arith, omega arith)
fault_named kind.BadEvent n = (omega arith, omega arith)
fault_named kind.Trailing n = (omega arith, omega arith)
fault_named kind.TooLong n = (omega arith, omega arith)
fault_named kind.BadJoins n = (omega arith, omega arith)

-- what is held then has the joins of late subscribers alone
taking_late : (net : Net) (v : View) (f : Frame) → all_late net v.joins ≡ true → all_late net (joins_in f) ≡ true → all_late net (taking v f).joins ≡ true
taking_late net v f held came = go f.body came
  where
    go : (y : Body) → all_late net (elim y [ body.Knowledge runs js ↦ js | _ ↦ [] ]) ≡ true
        → all_late net (let u : View = elim y [ body.Knowledge runs js ↦ with_joins v (longer v.joins js) | _ ↦ v ] in u.joins) ≡ true
    go (body.Knowledge runs js) h = longer_late net v.joins js held h
    go (body.Curiosity runs) h = held
    go (body.Expect tick) h = held

module _ (t : TopologyView) (now b : ℕ) (x : BrokerView) (is : IsBrokerOf t x) (lt : b < length t.brokers) (number : x.number ≡ b) (tree : IsNet (net_of t)) (orderly : IsOrderly (net_of t)) where
  -- the net at which a frame is taken
  abbrev shown_by : Frame → Net
  shown_by f = seen (net_of t) (taking (view_in x f.head.publisher) f)

  -- at which it comes from where it should
  fits_shown : (f : Frame) → IsFitting (net_of t) x.number f → BodyFits (shown_by f) f.head.publisher f.head.from f.head.to f.body
  fits_shown f fit = go f.body fit.body
    where
      go : (y : Body) → BodyFits (net_of t) f.head.publisher f.head.from f.head.to y → BodyFits (shown_by f) f.head.publisher f.head.from f.head.to y
      go (body.Knowledge runs js) h = h
      go (body.Curiosity runs) h = h
      go (body.Expect tick) h = h

  -- what is sent goes over edges
  receipt_over : (r : Result Frame FrameFault) → AllByRecursion (GoesOverEdge (net_of t)) (receipt_frames (receipt (net_of t) now x r))
  receipt_over r = receipt_cases (net_of t) now x (λ a. AllByRecursion (GoesOverEdge (net_of t)) (receipt_frames a)) (λ e. tt) (λ h. tt) (λ s. tt) (λ k v c. tt) takes r
    where
      takes : (f : Frame) → fits_broker (net_of t) x.number f ≡ true → AllByRecursion (GoesOverEdge (net_of t)) (receive (shown_by f) now f (view_in x f.head.publisher) empty_log).frames
      takes f e =
          let fit : IsFitting (net_of t) x.number f = fitting (net_of t) x.number f e in
          let v : View = view_in x f.head.publisher in
          let late : all_late (net_of t) (taking v f).joins ≡ true = taking_late (net_of t) v f (is.kept f.head.publisher fit.publisher).joins fit.joins in
          all_of (GoesOverEdge (net_of t)) _ (receive_on (shown_by f) now (GoesOverEdge (net_of t)) f v empty_log
          (seen_edges (net_of t) (taking v f) f.head.publisher f.head.to tree fit.publisher (subst (λ c. c < length t.brokers) (sym (fit.to ∙ number)) lt) late) (fits_shown f fit))

  -- what is told is named
  receipt_named : (a : Received) (r : Result Frame FrameFault) → Answers a (receipt (net_of t) now x r) → AllNamed t (receipt_lines b (receipt (net_of t) now x r))
  receipt_named a r = receipt_cases (net_of t) now x (λ u. Answers a u → AllNamed t (receipt_lines b u)) no_frames (λ h s. (lt, tt)) (λ y s. (lt, tt)) (λ k v c s. (lt, tt)) takes r
    where
      no_frames : (e : FrameFault) → Answers a (no_frame e) → AllNamed t (receipt_lines b (no_frame e))
      no_frames e s = go a s
        where
          go : (a : Received) → Answers a (no_frame e) → AllNamed t (receipt_lines b (no_frame e))
          go (answer.Taken told) s = absurd s
          go (answer.Dropped (dropped.NotFrame f)) s =
              let k = fault_named e.kind (subst (λ (z : FrameFault). z.kind ≢ kind.Memory) s.0 s.1) in ((lt, k.0, k.1), tt)
          go (answer.Dropped (dropped.Stray h)) s = absurd s
          go (answer.Dropped (dropped.Split at kept came)) s = absurd s
          go (answer.Dropped (dropped.Clash c)) s = absurd s

      takes : (f : Frame) → fits_broker (net_of t) x.number f ≡ true → Answers a (taken (receive (shown_by f) now f (view_in x f.head.publisher) empty_log))
          → AllNamed t (receive (shown_by f) now f (view_in x f.head.publisher) empty_log).lines
      takes f e s =
          all_of (IsNamed t) _ (receive_named (shown_by f) (IsNamed t) now f (view_in x f.head.publisher) empty_log
          (names_with (net_of t) _ (IsNamed t) (names_of t)) (orderly_with (net_of t) _ orderly) (fitting (net_of t) x.number f e).publisher)

-- What is told of a datagram, in lines and frames

pub record TellsReceipt (b : ℕ) (u : Receipt) (told : Outcome) : Type 0 where
  pub lines : told.reports ≡ receipt_lines b u
  pub spelled : AreFrames told.frames.frames (receipt_frames u)

told_of : (b : ℕ) (a : Received) (u : Receipt) (told : Outcome) → Answers a u → IsToldOf b a told → TellsReceipt b u told
told_of b (answer.Taken o) (taken m) told s h = record {
  lines = ap (λ (z : Outcome). z.reports) h ∙ s.lines;
  spelled = subst (λ (z : Outcome). AreFrames z.frames.frames m.frames) (sym h) s.spelled;
}
told_of b (answer.Dropped (dropped.NotFrame f)) (no_frame e) told s h = record {
  lines = h.0 ∙ ap (λ (z : FrameFault). line_of_drop b (dropped.NotFrame z) ∷ []) s.0;
  spelled = subst (λ fs. AreFrames fs []) (sym h.1) tt;
}
told_of b (answer.Dropped (dropped.Stray g)) (stray e) told s h = record {
  lines = h.0 ∙ ap (λ (z : Head). line_of_drop b (dropped.Stray z) ∷ []) s;
  spelled = subst (λ fs. AreFrames fs []) (sym h.1) tt;
}
told_of b (answer.Dropped (dropped.Split at kept came)) (split y) told s h = record {
  lines = h.0 ∙ (ap (λ z. made z kept came) s.0 ∙ (ap (λ z. made y.at z came) s.1 ∙ ap (λ z. made y.at y.kept z) s.2));
  spelled = subst (λ fs. AreFrames fs []) (sym h.1) tt;
}
  where
    made : ℕ → Join → Join → List Report
    made at kept came = line_of_drop b (dropped.Split at kept came) ∷ []
told_of b (answer.Dropped (dropped.Clash c)) (clash k v w) told s h = record {
  lines = h.0 ∙ (ap (λ z. made z c.kept c.came) s.0 ∙ (ap (λ z. made k z c.came) s.1 ∙ ap (λ z. made k v z) s.2));
  spelled = subst (λ fs. AreFrames fs []) (sym h.1) tt;
}
  where
    made : ℕ → K → K → List Report
    made k v w = receipt_lines b (clash k v w)
told_of b (answer.Taken o) (no_frame e) told s h = absurd s
told_of b (answer.Taken o) (stray e) told s h = absurd s
told_of b (answer.Taken o) (split y) told s h = absurd s
told_of b (answer.Taken o) (clash k v w) told s h = absurd s
told_of b (answer.Dropped (dropped.NotFrame f)) (stray e) told s h = absurd s
told_of b (answer.Dropped (dropped.NotFrame f)) (split y) told s h = absurd s
told_of b (answer.Dropped (dropped.NotFrame f)) (clash k v w) told s h = absurd s
told_of b (answer.Dropped (dropped.NotFrame f)) (taken m) told s h = absurd s
told_of b (answer.Dropped (dropped.Stray g)) (no_frame e) told s h = absurd s
told_of b (answer.Dropped (dropped.Stray g)) (split y) told s h = absurd s
told_of b (answer.Dropped (dropped.Stray g)) (clash k v w) told s h = absurd s
told_of b (answer.Dropped (dropped.Stray g)) (taken m) told s h = absurd s
told_of b (answer.Dropped (dropped.Split at kept came)) (no_frame e) told s h = absurd s
told_of b (answer.Dropped (dropped.Split at kept came)) (stray e) told s h = absurd s
told_of b (answer.Dropped (dropped.Split at kept came)) (clash k v w) told s h = absurd s
told_of b (answer.Dropped (dropped.Split at kept came)) (taken m) told s h = absurd s
told_of b (answer.Dropped (dropped.Clash c)) (no_frame e) told s h = absurd s
told_of b (answer.Dropped (dropped.Clash c)) (stray e) told s h = absurd s
told_of b (answer.Dropped (dropped.Clash c)) (split y) told s h = absurd s
told_of b (answer.Dropped (dropped.Clash c)) (taken m) told s h = absurd s

-- What a receipt leaves: the number and the logs of the broker stay

receipt_number : (r : Result Frame FrameFault) (u : Receipt) (x : BrokerView) → (after_receipt r u x).number ≡ x.number
receipt_number (Err e) u x = refl
receipt_number (Ok f) (no_frame e) x = refl
receipt_number (Ok f) (stray h) x = refl
receipt_number (Ok f) (split s) x = refl
receipt_number (Ok f) (clash t k c) x = refl
receipt_number (Ok f) (taken o) x = refl

receipt_logs : (r : Result Frame FrameFault) (u : Receipt) (x : BrokerView) → (after_receipt r u x).logs ≡ x.logs
receipt_logs (Err e) u x = refl
receipt_logs (Ok f) (no_frame e) x = refl
receipt_logs (Ok f) (stray h) x = refl
receipt_logs (Ok f) (split s) x = refl
receipt_logs (Ok f) (clash t k c) x = refl
receipt_logs (Ok f) (taken o) x = refl

-- no fault comes but want of memory
pub only_memory : (b : ℕ) (reply : Result Received AllocError) (result : Result Outcome RunFault) → FollowsReceipt b reply result → (e : RunFault) → result ≡ Err e → e ≡ run.Memory
only_memory b (Ok a) (Ok told) f e h = cc
only_memory b (Ok a) (Err x) f e h = sym (err_is h) ∙ f
  where
    err_is : {x e : RunFault} → ◌≡◌ {A = Result Outcome RunFault} (Err x) (Err e) → x ≡ e
    err_is {x} h = ap (λ (r : Result Outcome RunFault). elim r [ Ok told ↦ x | Err z ↦ z ]) h
only_memory b (Err x) result f e h = cc

-- What a datagram gives
pub record Receives (t : TopologyView) (now : ℕ) (x : BrokerView) (r : Result Frame FrameFault) (after : BrokerView) (reply : Result Received AllocError) : Type 0 where
  pub says : IfOk reply (λ a. Answers a (receipt (net_of t) now x r))
  pub after_is : OnOk reply (after ≡ after_receipt r (receipt (net_of t) now x r) x)
  pub fits : IsBrokerOf t after

module _ (t : TopologyView) (n : NodeView) (b : ℕ) (r : Result Frame FrameFault) (x after : BrokerView) (bs : List (Option BrokerView)) (s : Place t n b x after bs)
    (reply : Result Received AllocError) (result : Result Outcome RunFault) (f : FollowsReceipt b reply result) (k : Receives t n.now x r after reply) where
  abbrev answered : Receipt
  answered = receipt (net_of t) n.now x r

  lt : b < length t.brokers
  lt = subst (λ c. c < length t.brokers) (place_number t n b x after bs s) (place_broker t n b x after bs s).number

  -- what is said of each answer that is told is said of the result
  on_reply : (P : Outcome → Type 0) → ((a : Received) (told : Outcome) → reply ≡ Ok a → IsToldOf b a told → P told) → IfOk result P
  on_reply P each = go reply result f refl
    where
      go : (y : Result Received AllocError) (z : Result Outcome RunFault) → FollowsReceipt b y z → reply ≡ y → IfOk z P
      go (Ok a) (Ok told) h e = each a told e h
      go (Ok a) (Err v) h e = tt
      go (Err v) z h e = subst (λ (w : Result Outcome RunFault). IfOk w P) (sym h) tt

  on_any : (X : Type 0) → ((a : Received) → reply ≡ Ok a → X) → OnOk result X
  on_any X each = go result (on_reply (λ told. X) (λ a told e h. each a e))
    where
      go : (z : Result Outcome RunFault) → IfOk z (λ told. X) → OnOk z X
      go (Ok told) h = h
      go (Err e) h = tt

  left : (a : Received) → reply ≡ Ok a → after ≡ after_receipt r answered x
  left a e = subst (λ (y : Result Received AllocError). OnOk y (after ≡ after_receipt r answered x)) e k.after_is

  -- the node's act
  done : after ≡ after_receipt r answered x → call_done t n (gets b r) ≡ taken_up n b after (receipt_lines b answered) (receipt_frames answered)
  unfolding call_done done_at
  done h =
      ap (λ (o : Option BrokerView). done_by t n b o (gets b r)) s.here ∙ ap (λ (y : BrokerView). taken_up n b y (receipt_lines b answered) (receipt_frames answered)) (sym h)

  pub makes_receive : IsNet (net_of t) → IsOrderly (net_of t) → IfOk result (Makes t n (gets b r) (with_brokers n bs))
  makes_receive tree orderly =
      on_reply (Makes t n (gets b r) (with_brokers n bs)) (λ a told e h.
      let says : Answers a answered = subst (λ (y : Result Received AllocError). IfOk y (λ a. Answers a answered)) e k.says in
      let tells : TellsReceipt b answered told = told_of b a answered told says h in
      makes_on t n b x after bs s (gets b r) (receipt_lines b answered) (receipt_frames answered) told (done (left a e)) tells.lines tells.spelled
      (receipt_over t n.now b x (place_broker t n b x after bs s) lt (place_number t n b x after bs s) tree orderly r) (receipt_named t n.now b x (place_broker t n b x after bs s) lt (place_number t n b x after bs s) tree orderly a r says))

  pub fits_receive : OnOk result (NodeFits t (with_brokers n bs))
  fits_receive =
      on_any (NodeFits t (with_brokers n bs)) (λ a e.
      fits_on t n b x after bs s k.fits (ap (λ (y : BrokerView). y.number) (left a e) ∙ receipt_number r answered x)
      (λ p. ap is_broken (same_log a e p) ∙ place_whole t n b x after bs s p))
    where
      same_log : (a : Received) → reply ≡ Ok a → (p : ℕ) → log_in after p ≡ log_in x p
      same_log a e p = ap (λ (ls : List (Option LogView)). get_or ls p None) (ap (λ (y : BrokerView). y.logs) (left a e) ∙ receipt_logs r answered x)

  pub stands_receive : (lanes : ℕ → Lane) → AllStand lanes n → OnOk result (AllStand lanes (with_brokers n bs))
  stands_receive lanes all =
      on_any (AllStand lanes (with_brokers n bs)) (λ a e.
      stands_over t n b x after bs s lanes lanes all
      (λ p l h. all b x s.here p l (sym (ap (λ (ls : List (Option LogView)). get_or ls p None) (ap (λ (y : BrokerView). y.logs) (left a e) ∙ receipt_logs r answered x)) ∙ h))
      (λ c q y l d here h. refl))
