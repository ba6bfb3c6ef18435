-- A broker's call at a node: what the broker tells and leaves is the node's act, each line is named, and each frame goes over an edge
use Rattle.std.proofs.Common.{◌≡◌, ◌≢◌, ◌⊎◌, inl, inr, ℕ, ◌<◌, List, [], ◌∷◌, length, true, Option, Some, None, Result, Ok, Err, OnOk, refl, sym, ap, ◌∙◌, subst}
use Rattle.std.specs.Prelude.{IfOk, is_some}
use Rattle.std.specs.List.{AllByRecursion}
use Rattle.std.proofs.lemmas.Bool.{and_from, cases_eq, false≢true}
use Rattle.gr_event.specs.declared.event.Event.{Event}
use Rattle.gr_event.specs.Joins.{Joins}
use Rattle.gr_out.specs.declared.fault.RunFault.{RunFault}
use Rattle.gr_out.specs.declared.fault.RunFault.TheVariants as run
use Rattle.gr_out.specs.Lane.{Lane}
use Rattle.gr_publog.specs.declared.record.Record.{Record}
use Rattle.gr_publog.specs.Views.{LogView, AwayFrom}
use Rattle.gr_publog.specs.Calls.{Leaves}
use Rattle.gr_topo.specs.Topology.{TopologyView, host_of, late_of}
use Rattle.gr_model.specs.Tree.{IsNet}
use Rattle.gr_model.specs.NetOf.{net_of, IsOrderly}
use Rattle.gr_model.specs.Net.{Net, all_late}
use Rattle.gr_model.specs.Broker.{View, Log, Outcome as MachineOutcome, seen, view_joined}
use Rattle.gr_model.specs.Text.{IsNamed}
use Rattle.gr_model_calls.specs.Edges.{GoesOverEdge}
use Rattle.gr_model_calls.proofs.calls.Held.{all_late_on}
use Rattle.gr_model_calls.proofs.runs.Worlds.{Each}
use Rattle.gr_model_calls.proofs.topology.Strays.{publish_on, joining_on, wake_on}
use Rattle.gr_broker_relay.specs.declared.outcome.Outcome.{Outcome}
use Rattle.gr_broker_relay.specs.Told.{Tells}
use Rattle.gr_broker.specs.declared.outcome.BrokerFault.{BrokerFault}
use Rattle.gr_broker.specs.declared.outcome.BrokerFault.TheVariants as refused
use Rattle.gr_broker.specs.Lanes.{log_lane}
use Rattle.gr_broker.specs.Seen.{BrokerView, view_in, log_in, log_said, machine_log, with_logged, with_cut_if, logged_at, broken_at}
use Rattle.gr_broker.specs.Of.{IsBrokerOf, LogsStand}
use Rattle.gr_broker.specs.Told.{log_answer}
use Rattle.gr_broker.specs.Hosted.{publish_at, publish_logs_at, after_publish, join_at, join_logs_at, after_join, wake_at, mark_logs_at, cut_at, after_mark, after_wake, WakeLeaves}
use Rattle.gr_report.specs.Named.{AllNamed}
use Rattle.gr_report.proofs.Names.{publish_named, joining_named, wake_named, names_with, orderly_with}
use Rattle.gr_report.proofs.Named.{names_of, all_of}
use Rattle.gr_report.proofs.Passing.{seen_edges}
use Rattle.gr_node.specs.Seen.{NodeView}
use Rattle.gr_node.specs.Of.{NodeFits, AllStand, OthersStay}
use Rattle.gr_node.specs.Plan.{Call, publishes, joins, wakes}
use Rattle.gr_node.specs.Done.{done_by, done_at, taken_up, call_done}
use Rattle.gr_node.specs.Went.{Makes}
use Rattle.gr_node.specs.Calling.{Follows}
use Rattle.gr_node.proofs.Exchanged.{Place, IsWhole, with_brokers, whole_logged, whole_cut, whole_with, place_broker, place_whole, place_log, no_log, fits_on, stands_on, others_on, makes_on}

-- The answer

-- what is said of an answer is said of what follows it
pub follows : (P : Result Outcome RunFault → Type 0) (answer : Result Outcome BrokerFault) (result : Result Outcome RunFault) → Follows answer result
    → ((told : Outcome) → answer ≡ Ok told → P (Ok told)) → (answer ≡ Err refused.Memory → P (Err run.Memory)) → (answer ≡ Err refused.Disk → P (Err run.Disk)) → P result
follows P (Ok told) result f a m d = subst P (sym f) (a told refl)
follows P (Err refused.Memory) result f a m d = subst P (sym f) (m refl)
follows P (Err refused.Disk) result f a m d = subst P (sym f) (d refl)
follows P (Err refused.Reopen) result f a m d = absurd f
follows P (Err (refused.Damaged p at)) result f a m d = absurd f

-- a fact of an answer that is known
if_ok : (P : Outcome → Type 0) (answer : Result Outcome BrokerFault) (told : Outcome) → answer ≡ Ok told → IfOk answer P → P told
if_ok P answer told e h = subst (λ (r : Result Outcome BrokerFault). IfOk r P) e h

on_ok : (X : Type 0) (answer : Result Outcome BrokerFault) (told : Outcome) → answer ≡ Ok told → OnOk (log_answer answer) X → X
on_ok X answer told e h = subst (λ (r : Result Outcome BrokerFault). OnOk (log_answer r) X) e h

-- What a call of the broker at which a publisher is gives, by its outcome and the record that it logs
pub record HostGives (x : BrokerView) (p : ℕ) (o : MachineOutcome) (r : Option Record) (t : TopologyView) (after : BrokerView) (answer : Result Outcome BrokerFault) : Type 0 where
  pub told : IfOk answer (Tells o)
  pub leaves : Leaves x (logged_at x p r o.view) (broken_at x p) after (log_answer answer)
  pub fits : IsBrokerOf t after

-- what the broker holds of the publisher has the joins of late subscribers alone
holds_late : (t : TopologyView) (x : BrokerView) (p : ℕ) → IsBrokerOf t x → p < length t.publishers → all_late (net_of t) (view_in x p).joins ≡ true
holds_late t x p is below = (is.kept p below).joins

module _ (t : TopologyView) (n : NodeView) (p : ℕ) (x after : BrokerView) (bs : List (Option BrokerView)) (s : Place t n (host_of t p) x after bs) (below : p < length t.publishers)
    (answer : Result Outcome BrokerFault) (result : Result Outcome RunFault) (f : Follows answer result) (o : MachineOutcome) (r : Option Record) (k : HostGives x p o r t after answer) where
  left : (told : Outcome) → answer ≡ Ok told → after ≡ logged_at x p r o.view
  left told h = on_ok (after ≡ logged_at x p r o.view) answer told h k.leaves.ok

  makes_at_host : (c : Call) → (after ≡ logged_at x p r o.view → call_done t n c ≡ taken_up n (host_of t p) after o.lines o.frames)
      → Each (GoesOverEdge (net_of t)) o.frames → Each (IsNamed t) o.lines → IfOk result (Makes t n c (with_brokers n bs))
  makes_at_host c done over named =
      follows (λ (r : Result Outcome RunFault). IfOk r (Makes t n c (with_brokers n bs))) answer result f
      (λ told h. let tells : Tells o told = if_ok (Tells o) answer told h k.told in
      makes_on t n (host_of t p) x after bs s c o.lines o.frames told (done (left told h)) tells.lines tells.spelled (all_of (GoesOverEdge (net_of t)) o.frames over) (all_of (IsNamed t) o.lines named))
      (λ h. tt) (λ h. tt)

  pub fits_at_host : OnOk result (NodeFits t (with_brokers n bs))
  fits_at_host =
      follows (λ (r : Result Outcome RunFault). OnOk r (NodeFits t (with_brokers n bs))) answer result f
      (λ told h. fits_on t n (host_of t p) x after bs s k.fits (ap (λ (y : BrokerView). y.number) (left told h)) (subst IsWhole (sym (left told h)) whole)) (λ h. tt) (λ h. tt)
    where
      x_whole : IsWhole x
      x_whole = place_whole t n (host_of t p) x after bs s

      whole : IsWhole (logged_at x p r o.view)
      whole = whole_with x p (with_logged (log_in x p) r) o.view (place_log t n (host_of t p) x after bs s p below) (whole_logged (log_in x p) r ∙ x_whole p) x_whole

  module _ (lanes lanes' : ℕ → Lane) (others : (m : ℕ) → AwayFrom (log_lane p) m → lanes' m ≡ lanes m) where
    moves : (m : ℕ) → (host_of t p ≡ host_of t p → AwayFrom (log_lane p) m) → lanes' m ≡ lanes m
    moves m clear = others m (clear refl)

    pub stands_at_host : AllStand lanes n → LogsStand lanes' after → OnOk result (AllStand lanes' (with_brokers n bs))
    stands_at_host all a =
        follows (λ (r : Result Outcome RunFault). OnOk r (AllStand lanes' (with_brokers n bs))) answer result f
        (λ told h. stands_on t n (host_of t p) x after bs s p below lanes lanes' moves all a) (λ h. tt) (λ h. tt)

-- What a publish gives
abbrev pub Publishes : (t : TopologyView) (x : BrokerView) (p now number : ℕ) (e : Event) (after : BrokerView) (answer : Result Outcome BrokerFault) → Type 0
Publishes t x p now number e after answer = HostGives x p (publish_at t x p now number e) (publish_logs_at x p now number e) t after answer

module _ (t : TopologyView) (n : NodeView) (p number : ℕ) (e : Event) (x after : BrokerView) (bs : List (Option BrokerView)) (s : Place t n (host_of t p) x after bs) (below : p < length t.publishers)
    (answer : Result Outcome BrokerFault) (result : Result Outcome RunFault) (f : Follows answer result) (k : HostGives x p (publish_at t x p n.now number e) (publish_logs_at x p n.now number e) t after answer) where
  abbrev outcome : MachineOutcome
  outcome = publish_at t x p n.now number e

  -- the node's act
  done : after ≡ after_publish t x p n.now number e → call_done t n (publishes (p, (number, e))) ≡ taken_up n (host_of t p) after outcome.lines outcome.frames
  unfolding call_done done_at
  done h =
      ap (λ (o : Option BrokerView). done_by t n (host_of t p) o (publishes (p, (number, e)))) s.here
      ∙ ap (λ (y : BrokerView). taken_up n (host_of t p) y outcome.lines outcome.frames) (sym h)

  pub makes_publish : IsNet (net_of t) → IsOrderly (net_of t) → IfOk result (Makes t n (publishes (p, (number, e))) (with_brokers n bs))
  makes_publish tree orderly =
      let net : Net = net_of t in
      let is : IsBrokerOf t x = place_broker t n (host_of t p) x after bs s in
      let v : View = view_in x p in
      makes_at_host t n p x after bs s below answer result f outcome (publish_logs_at x p n.now number e) k (publishes (p, (number, e))) done
      (publish_on (seen net v) p x.number n.now number (GoesOverEdge net) e v (machine_log x p) (seen_edges net v p x.number tree below is.number (holds_late t x p is below)))
      (publish_named (seen net v) (IsNamed t) p x.number n.now number e v (machine_log x p) (names_with net _ (IsNamed t) (names_of t)) (orderly_with net _ orderly) below)

-- the log of the publisher has the joins that the broker holds
joins_held : (t : TopologyView) (x : BrokerView) (p : ℕ) → IsBrokerOf t x → is_some (log_in x p) ≡ true → (view_in x p).joins ≡ (machine_log x p).joins
joins_held t x p is some = go (log_in x p) refl some
  where
    go : (l : Option LogView) → log_in x p ≡ l → is_some l ≡ true → (view_in x p).joins ≡ (log_said l).joins
    go None e none = absurd (false≢true none)
    go (Some l) e some = is.joined p l e

module _ (t : TopologyView) (n : NodeView) (p q : ℕ) (x after : BrokerView) (bs : List (Option BrokerView)) (s : Place t n (host_of t p) x after bs) (below : p < length t.publishers)
    (answer : Result Outcome BrokerFault) (result : Result Outcome RunFault) (f : Follows answer result) (k : HostGives x p (join_at t x p q n.now) (join_logs_at x p q n.now) t after answer) where
  abbrev outcome_joined : MachineOutcome
  outcome_joined = join_at t x p q n.now

  -- the node's act
  done_joined : after ≡ after_join t x p q n.now → call_done t n (joins q p) ≡ taken_up n (host_of t p) after outcome_joined.lines outcome_joined.frames
  unfolding call_done done_at
  done_joined h =
      ap (λ (o : Option BrokerView). done_by t n (host_of t p) o (joins q p)) s.here
      ∙ ap (λ (y : BrokerView). taken_up n (host_of t p) y outcome_joined.lines outcome_joined.frames) (sym h)

  pub makes_join : IsNet (net_of t) → IsOrderly (net_of t) → q < length t.subscribers → late_of t q ≡ true → is_some (log_in x p) ≡ true → IfOk result (Makes t n (joins q p) (with_brokers n bs))
  makes_join tree orderly there late some =
      let net : Net = net_of t in
      let is : IsBrokerOf t x = place_broker t n (host_of t p) x after bs s in
      let log : Log = machine_log x p in
      let v : View = view_joined log q n.now (view_in x p) in
      let held : all_late net log.joins ≡ true = subst (λ (js : Joins). all_late net js ≡ true) (joins_held t x p is some) (holds_late t x p is below) in
      let all : all_late net v.joins ≡ true = all_late_on net log.joins _ held (and_from (late_of t q) true late refl) in
      makes_at_host t n p x after bs s below answer result f outcome_joined (join_logs_at x p q n.now) k (joins q p) done_joined
      (joining_on (seen net v) p x.number n.now q (GoesOverEdge net) (view_in x p) log (seen_edges net v p x.number tree below is.number all))
      (joining_named (seen net v) (IsNamed t) p x.number n.now q (view_in x p) log (names_with net _ (IsNamed t) (names_of t)) (orderly_with net _ orderly) there below)

-- What a wake gives
pub record Wakes (t : TopologyView) (x : BrokerView) (p now : ℕ) (after : BrokerView) (answer : Result Outcome BrokerFault) : Type 0 where
  pub told : IfOk answer (Tells (wake_at t x p now))
  pub leaves : WakeLeaves x (after_mark t x p now) (after_wake t x p now) (broken_at x p) (broken_at (after_mark t x p now) p) after (log_answer answer)
  pub fits : IsBrokerOf t after

module _ (t : TopologyView) (n : NodeView) (b p : ℕ) (x after : BrokerView) (bs : List (Option BrokerView)) (s : Place t n b x after bs) (below : p < length t.publishers)
    (answer : Result Outcome BrokerFault) (result : Result Outcome RunFault) (f : Follows answer result) (k : Wakes t x p n.now after answer) where
  abbrev woken : MachineOutcome
  woken = wake_at t x p n.now

  left_woken : (told : Outcome) → answer ≡ Ok told → after ≡ after_wake t x p n.now
  left_woken told h = on_ok (after ≡ after_wake t x p n.now) answer told h k.leaves.ok

  -- the node's act
  done_woken : after ≡ after_wake t x p n.now → call_done t n (wakes b p) ≡ taken_up n b after woken.lines woken.frames
  unfolding call_done done_at
  done_woken h =
      ap (λ (o : Option BrokerView). done_by t n b o (wakes b p)) s.here ∙ ap (λ (y : BrokerView). taken_up n b y woken.lines woken.frames) (sym h)

  pub makes_wake : IsNet (net_of t) → IsOrderly (net_of t) → IfOk result (Makes t n (wakes b p) (with_brokers n bs))
  makes_wake tree orderly =
      follows (λ (r : Result Outcome RunFault). IfOk r (Makes t n (wakes b p) (with_brokers n bs))) answer result f
      (λ told h. let tells : Tells woken told = if_ok (Tells woken) answer told h k.told in
      makes_on t n b x after bs s (wakes b p) woken.lines woken.frames told (done_woken (left_woken told h)) tells.lines tells.spelled over named)
      (λ h. tt) (λ h. tt)
    where
      net : Net
      net = net_of t

      v : View
      v = view_in x p

      is : IsBrokerOf t x
      is = place_broker t n b x after bs s

      over : AllByRecursion (GoesOverEdge net) woken.frames
      over = all_of (GoesOverEdge net) woken.frames
          (wake_on (seen net v) p x.number n.now (GoesOverEdge net) v (machine_log x p) (seen_edges net v p x.number tree below is.number (holds_late t x p is below)))

      named : AllNamed t woken.lines
      named = all_of (IsNamed t) woken.lines (wake_named (seen net v) (IsNamed t) p x.number n.now v (machine_log x p) (names_with net _ (IsNamed t) (names_of t)) (orderly_with net _ orderly) below)

  pub fits_wake : OnOk result (NodeFits t (with_brokers n bs))
  fits_wake =
      follows (λ (r : Result Outcome RunFault). OnOk r (NodeFits t (with_brokers n bs))) answer result f
      (λ told h. fits_on t n b x after bs s k.fits (ap (λ (y : BrokerView). y.number) (left_woken told h)) (subst IsWhole (sym (left_woken told h)) whole)) (λ h. tt) (λ h. tt)
    where
      x_whole : IsWhole x
      x_whole = place_whole t n b x after bs s

      marked : Option LogView
      marked = with_logged (log_in x p) (mark_logs_at t x p n.now)

      whole : IsWhole (after_wake t x p n.now)
      whole = whole_with x p (with_cut_if marked (cut_at t x p n.now) t.settings.reclaim) woken.view (place_log t n b x after bs s p below)
          (whole_cut marked (cut_at t x p n.now) t.settings.reclaim ∙ (whole_logged (log_in x p) (mark_logs_at t x p n.now) ∙ x_whole p)) x_whole

  module _ (lanes lanes' : ℕ → Lane) (elsewhere : log_in x p ≡ None → (m : ℕ) → lanes' m ≡ lanes m) (others : (m : ℕ) → AwayFrom (log_lane p) m → lanes' m ≡ lanes m) where
    moves_woken : (m : ℕ) → (host_of t p ≡ b → AwayFrom (log_lane p) m) → lanes' m ≡ lanes m
    moves_woken m clear = go (cases_eq (host_of t p) b)
      where
        go : (host_of t p ≡ b) ⊎ (host_of t p ≢ b) → lanes' m ≡ lanes m
        go (inl at) = others m (clear at)
        go (inr d) = elsewhere (no_log t n b x after bs s p below d) m

    pub stands_wake : AllStand lanes n → LogsStand lanes' after → OnOk result (AllStand lanes' (with_brokers n bs))
    stands_wake all a =
        follows (λ (r : Result Outcome RunFault). OnOk r (AllStand lanes' (with_brokers n bs))) answer result f
        (λ told h. stands_on t n b x after bs s p below lanes lanes' moves_woken all a) (λ h. tt) (λ h. tt)

    pub others_wake : OthersStay t (b ∷ []) lanes lanes'
    others_wake = others_on t n b x after bs s p below lanes lanes' moves_woken
