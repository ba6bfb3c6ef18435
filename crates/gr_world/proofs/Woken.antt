-- A wake within a step: at the publisher's host it is the machine's over the log there; elsewhere the broker has no log, and the
-- machine's wake looks at none
use Rattle.std.proofs.Common.{◌≡◌, ◌≢◌, ◌⊎◌, inl, inr, ℕ, suc, ◌<◌, true, false, List, length, set, Option, Some, None, Result, Ok, Err, OnOk, refl, sym, ap, ◌∙◌, subst, OnErr, ap₂}
use Rattle.std.specs.Prelude.{◌↔◌, IsSome, is_some, IfOk, IsErrOf}
use Rattle.std.proofs.lemmas.Bool.{cases_eq, eq-eqb, ne_eqb, true≢false}
use Rattle.std.proofs.lemmas.List.{length-set, get_or-set_other}
use Rattle.gr_publog.specs.declared.record.Record.{Record}
use Rattle.gr_publog.specs.declared.record.LogFault.TheVariants as log_fault
use Rattle.gr_publog.specs.Views.{LogView, lanes_at, AwayFrom, StandsRead}
use Rattle.gr_out.specs.Lane.{Lane}
use Rattle.gr_topo.specs.Topology.{TopologyView, host_of}
use Rattle.gr_model.specs.declared.report.Report.{Report}
use Rattle.gr_model.specs.Tree.{IsNet}
use Rattle.gr_model.specs.Net.{all_late}
use Rattle.gr_model.specs.Broker.{View, Log, Outcome as MachineOutcome, seen, wake}
use Rattle.gr_model.specs.World.{World, blank_view, view_of, log_of, wake_for, wake_for_by}
use Rattle.gr_model_calls.specs.Edges.{GoesOverEdge}
use Rattle.gr_model_calls.proofs.topology.Strays.{wake_on}
use Rattle.gr_model_theorems.proofs.server.CutEvents.{on_log}
use Rattle.gr_broker_relay.specs.declared.outcome.Outcome.{Outcome}
use Rattle.gr_broker_relay.specs.Told.{Tells}
use Rattle.gr_broker.specs.declared.outcome.BrokerFault.{BrokerFault}
use Rattle.gr_broker.specs.declared.outcome.BrokerFault.TheVariants as refused
use Rattle.gr_broker.specs.Lanes.{log_lane, GoesOnBoth}
use Rattle.gr_broker.specs.Seen.{BrokerView, view_in, log_in, log_said, machine_log, with_logged, with_cut_if, is_broken, broken_at}
use Rattle.gr_broker.specs.Of.{IsBrokerOf, LogsStand}
use Rattle.gr_broker.specs.Told.{log_answer}
use Rattle.gr_broker.specs.Hosted.{wake_at, mark_at, mark_logs_at, cut_at, after_mark, after_wake, WakeLeaves, Wakes as WakesBoth, WakesAt}
use Rattle.gr_report.proofs.Named.{all_of}
use Rattle.gr_report.proofs.Passing.{wake_passes, tells_on, seen_edges}
use Rattle.gr_world.specs.declared.fault.WorldFault.{WorldFault}
use Rattle.gr_world.specs.declared.fault.WorldFault.TheVariants as fault
use Rattle.gr_world.specs.Seen.{WorldView, broker_in, log_at, world_of, net_in}
use Rattle.gr_world.specs.Of.{IsWorld, LanesFit}
use Rattle.gr_world.specs.Steps.{Does}
use Rattle.gr_world.specs.Disk.{IsWakeBarred}
use Rattle.gr_world.specs.Ended.{WakeEnds, marked_broken_in}
use Rattle.gr_world.specs.Ran.{IsOpen, Ran, TouchesOne}
use Rattle.gr_world.specs.Moments.{IsCall, CallsLanes}
use Rattle.gr_world.specs.Taking.{Follows, TakesUp, put_in}
use Rattle.gr_world.proofs.Absorbing.{Touches, view_is, log_is, log_here, log_elsewhere, broker_here, broker_there}
use Rattle.gr_world.proofs.Answers.{on_ok, ok_answer, ok_follows, spelled_follow, reopen_follows, not_disk, carried_follows, wake_leaves_on, touched, touched_broken, touched_twice, untouched, whole_logged, whole_cut, whole_with, closes, cut_none, logged_none, log_same, failed_same, reopen_told, disk_follows}
use Rattle.gr_world.proofs.Lanes.{LaneMoves, wakes_moves, lanes_same, lanes_fit}
use Rattle.gr_world.proofs.ByCalls.{no_call, ready_here, wakes_call, lanes_of_one}
use Rattle.gr_world.proofs.Called.{Called, called_does, Site, site_read, site_fits, site_publisher, site_ran, put_back}

-- What the broker's call gives
pub record Wakes (t : TopologyView) (x : BrokerView) (p now : ℕ) (after : BrokerView) (answer : Result Outcome BrokerFault) : Type 0 where
  pub told : IfOk answer (Tells (wake_at t x p now))
  pub leaves : WakeLeaves x (after_mark t x p now) (after_wake t x p now) (broken_at x p) (broken_at (after_mark t x p now) p) after (log_answer answer)
  pub log : OnOk answer (let m : MachineOutcome = wake_at t x p now in machine_log after p ≡ m.log)
  pub fits : IsBrokerOf t after
  pub reopen : IsErrOf answer refused.Reopen ↔ ((is_broken (log_in x p) ≡ true) × (IsSome (mark_logs_at t x p now) ⊎ IsSome (cut_at t x p now)))

-- and does to the lanes
pub record WakesOn (t : TopologyView) (x : BrokerView) (p now : ℕ) (after : BrokerView) (lanes lanes' : ℕ → Lane) (answer : Result Outcome BrokerFault) : Type 0 where
  pub lane : WakesAt x p (mark_logs_at t x p now) (cut_at t x p now) t.settings.reclaim lanes lanes' (log_answer answer)
  pub below : log_in x p ≡ None → (n : ℕ) → lanes' n ≡ lanes n
  pub broken : is_broken (log_in x p) ≡ true → (n : ℕ) → lanes' n ≡ lanes n
  pub others : (n : ℕ) → AwayFrom (log_lane p) n → lanes' n ≡ lanes n
  pub stands : LogsStand lanes' after

-- the machine's outcome of a wake
abbrev pub wake_in : WorldView → ℕ → ℕ → MachineOutcome
wake_in w b p = let m : World = world_of w in let v : View = view_of m b p in wake (seen (net_in w) v) p b w.clock v (log_of m p)

module _ (w : WorldView) (b p : ℕ) (i : IsWorld w) (lt : b < length w.topo.brokers) (below : p < length w.topo.publishers) where
  abbrev broker : BrokerView
  broker = broker_in w b

  abbrev machine : World
  machine = world_of w

  within : b < length w.brokers
  within = subst (λ n. b < n) (sym i.count) lt

  -- elsewhere there is no log
  pub no_log : host_of w.topo p ≢ b → log_in broker p ≡ None
  no_log n = go (log_in broker p) (((i.brokers b lt).hosted p below) ∙ ne_eqb (host_of w.topo p) broker.number (λ e. n (e ∙ i.numbered b lt)))
    where
      go : (o : Option LogView) → is_some o ≡ false → o ≡ None
      go None e = refl
      go (Some l) e = absurd (true≢false e)

  abbrev woken : ℕ → View → Log → MachineOutcome
  woken n v l = wake (seen (net_in w) v) p n w.clock v l

  -- the broker's wake at the number and with the view that the machine has
  numbered_wake : (l : Log) → woken broker.number (view_in broker p) l ≡ woken b (view_of machine b p) l
  numbered_wake l =
      ap (λ n. woken n (view_in broker p) l) (i.numbered b lt)
      ∙ ap (λ (v : View). woken b v l) (sym (view_is w b p within))

  -- at the host it is the machine's
  pub wake_hosted : host_of w.topo p ≡ b → wake_at w.topo broker p w.clock ≡ wake_in w b p
  wake_hosted e =
      numbered_wake (machine_log broker p)
      ∙ ap (λ (l : Log). woken b (view_of machine b p) l) (sym (log_is w p below ∙ ap (λ c. log_said (log_in (broker_in w c) p)) e))

  -- elsewhere it is the machine's but for the log, which that passes on
  pub wake_elsewhere : host_of w.topo p ≢ b → on_log (wake_at w.topo broker p w.clock) (log_of machine p) ≡ wake_in w b p
  wake_elsewhere n =
      ap (λ (o : MachineOutcome). on_log o (log_of machine p)) (numbered_wake (machine_log broker p) ∙ ap (λ (l : Option LogView). woken b (view_of machine b p) (log_said l)) (no_log n))
      ∙ sym (wake_passes (seen (net_in w) (view_of machine b p)) p b w.clock (view_of machine b p) (log_of machine p) (ne_eqb (host_of w.topo p) b n))

  -- so it is the machine's with the machine's log
  pub wake_same : on_log (wake_at w.topo broker p w.clock) (wake_in w b p).log ≡ wake_in w b p
  wake_same = go (cases_eq (host_of w.topo p) b)
    where
      go : (host_of w.topo p ≡ b) ⊎ (host_of w.topo p ≢ b) → on_log (wake_at w.topo broker p w.clock) (wake_in w b p).log ≡ wake_in w b p
      go (inl e) = ap (λ (o : MachineOutcome). on_log o (wake_in w b p).log) (wake_hosted e)
      go (inr n) = ap (on_log (wake_at w.topo broker p w.clock)) (sym (ap (λ (o : MachineOutcome). o.log) (wake_elsewhere n))) ∙ wake_elsewhere n

  -- the log of the publisher after it
  log_after : (after : BrokerView) (frames : List (List ℕ)) (answer : Result Outcome BrokerFault)
      → OnOk answer (let m : MachineOutcome = wake_at w.topo broker p w.clock in machine_log after p ≡ m.log)
      → OnOk (log_answer answer) (log_said (log_at (put_in w b after frames) p) ≡ (wake_in w b p).log)
  log_after after frames answer h = go (cases_eq (host_of w.topo p) b)
    where
      always : {X : Type 0} (r : Result Outcome BrokerFault) → X → OnOk (log_answer r) X
      always (Ok told) x = x
      always (Err e) x = tt

      go : (host_of w.topo p ≡ b) ⊎ (host_of w.topo p ≢ b) → OnOk (log_answer answer) (log_said (log_at (put_in w b after frames) p) ≡ (wake_in w b p).log)
      go (inl e) = ok_answer answer (λ k. ap log_said (log_here w b p after frames within p e) ∙ (k ∙ ap (λ (o : MachineOutcome). o.log) (wake_hosted e))) h
      go (inr n) = always answer (ap log_said (log_elsewhere w b p after frames within p n) ∙ (sym (log_is w p below) ∙ ap (λ (o : MachineOutcome). o.log) (wake_elsewhere n)))

  -- a wake that is answered and taken up has done what a call does
  pub wake_called : (after : BrokerView) (frames : List (List ℕ)) (answer : Result Outcome BrokerFault) (result : Result (List Report) WorldFault) → IsNet (net_in w)
      → Wakes w.topo broker p w.clock after answer → Follows answer result → ((o : MachineOutcome) → IfOk answer (Tells o) → TakesUp o w.frames frames result)
      → Called w b p (wake_in w b p) after frames result
  wake_called after frames answer result n k f takes = record {
    takes = takes (wake_in w b p) told_in;
    view = ok_follows _ answer result f (on_ok (log_answer answer) (λ h. ap (λ (x : BrokerView). x.views) h ∙ ap (λ (o : MachineOutcome). set broker.views p o.view) wake_same) k.leaves.ok);
    log = ok_follows _ answer result f (log_after after frames answer k.log);
    spelled = ok_follows _ answer result f (spelled_follow (wake_in w b p) answer told_in);
    over = all_of (GoesOverEdge (net_in w)) _
        (wake_on (seen (net_in w) (view_of machine b p)) p b w.clock (GoesOverEdge (net_in w)) (view_of machine b p) _ (seen_edges (net_in w) (view_of machine b p) p b n below lt late));
    touches = on (Touches p broker) (untouched p broker) (touched p broker log_marked view_marked) (touched p broker log_woken view_woken)
        (λ h. (touched_broken p broker, touched_twice p broker marked (broken_at marked p) (touched p broker log_marked view_marked) (touched_broken p marked)));
    fits = k.fits;
    carried = carried_follows answer result f k.leaves.never_damaged;
    whole = λ not whole. on (λ (x : BrokerView). is_broken (log_in x p) ≡ false) whole
        (whole_with p broker log_marked view_marked short (whole_logged (log_in broker p) (mark_logs_at w.topo broker p w.clock)) whole)
        (whole_with p broker log_woken view_woken short
        (whole_cut (with_logged (log_in broker p) (mark_logs_at w.topo broker p w.clock)) (cut_at w.topo broker p w.clock) w.topo.settings.reclaim
        ∙ whole_logged (log_in broker p) (mark_logs_at w.topo broker p w.clock)) whole)
        (λ h. absurd (not_disk answer result f not h));
    closed = λ broken. stays broken (mark_logs_at w.topo broker p w.clock) refl (cut_at w.topo broker p w.clock) refl;
    reopen = λ h. (k.reopen.0 (reopen_follows answer result f h)).0;
  }
    where
      marked : BrokerView
      marked = after_mark w.topo broker p w.clock

      log_marked : Option LogView
      log_marked = with_logged (log_in broker p) (mark_logs_at w.topo broker p w.clock)

      log_woken : Option LogView
      log_woken = with_cut_if log_marked (cut_at w.topo broker p w.clock) w.topo.settings.reclaim

      view_marked : View
      view_marked = let o : MachineOutcome = mark_at w.topo broker p w.clock in o.view

      view_woken : View
      view_woken = let o : MachineOutcome = wake_at w.topo broker p w.clock in o.view

      -- what is held is of late subscribers
      late : all_late (net_in w) (view_of machine b p).joins ≡ true
      late = subst (λ (v : View). all_late (net_in w) v.joins ≡ true) (sym (view_is w b p within)) ((i.brokers b lt).kept p below).joins

      told_in : IfOk answer (Tells (wake_in w b p))
      told_in = subst (λ (o : MachineOutcome). IfOk answer (Tells o)) wake_same (tells_on (wake_at w.topo broker p w.clock) (wake_in w b p).log answer k.told)

      short : p < length broker.logs
      short = subst (λ k. p < k) (sym (i.brokers b lt).logs) below

      on : (P : BrokerView → Type 0) → P broker → P marked → P (after_wake w.topo broker p w.clock) → (IsErrOf (log_answer answer) log_fault.Disk → P (broken_at broker p) × P (broken_at marked p)) → P after
      on P a m b c = wake_leaves_on P broker marked (after_wake w.topo broker p w.clock) (broken_at broker p) (broken_at marked p) after (log_answer answer) k.leaves a m b c

      -- a log that the disk has failed stays
      stays : is_broken (log_in broker p) ≡ true → (mark : Option Record) → mark_logs_at w.topo broker p w.clock ≡ mark → (cut : Option ℕ) → cut_at w.topo broker p w.clock ≡ cut → log_in after p ≡ log_in broker p
      stays broken (Some r) is cut at = ap (λ (x : BrokerView). log_in x p) (k.leaves.closed (closes answer (k.reopen.1 (broken, inl (ap is_some is)))))
      stays broken None is (Some r) at = ap (λ (x : BrokerView). log_in x p) (k.leaves.closed (closes answer (k.reopen.1 (broken, inr (ap is_some at)))))
      stays broken None is None at =
          let m : log_marked ≡ log_in broker p = ap (λ (r : Option Record). with_logged (log_in broker p) r) is ∙ logged_none (log_in broker p) in
          let u : log_woken ≡ log_in broker p = ap (λ (r : Option ℕ). with_cut_if log_marked r w.topo.settings.reclaim) at ∙ (cut_none log_marked w.topo.settings.reclaim ∙ m) in
          let here : log_in marked p ≡ log_in broker p = log_same p broker log_marked view_marked short m in
          on (λ (x : BrokerView). log_in x p ≡ log_in broker p) refl here (log_same p broker log_woken view_woken short u)
          (λ h. (failed_same p broker short broken, failed_same p marked (subst (λ n. p < n) (sym (length-set broker.logs p log_marked)) short) (ap is_broken here ∙ broken) ∙ here))

  -- so it does what the machine's wake does
  pub wake_does : (after : BrokerView) (frames : List (List ℕ)) (result : Result (List Report) WorldFault) → Called w b p (wake_in w b p) after frames result
      → Does (wake_for (net_in w) (world_of w) b p) (put_in w b after frames) result
  unfolding wake_for_by
  wake_does after frames result c = called_does w b p (wake_in w b p) after frames result i lt below c

  -- what is known of other publishers stays
  pub wake_views : (after : BrokerView) (answer : Result Outcome BrokerFault) → Wakes w.topo broker p w.clock after answer → (q : ℕ) → q ≢ p → view_in after q ≡ view_in broker q
  wake_views after answer k q n =
      wake_leaves_on (λ (x : BrokerView). view_in x q ≡ view_in broker q) broker (after_mark w.topo broker p w.clock) (after_wake w.topo broker p w.clock) (broken_at broker p) (broken_at (after_mark w.topo broker p w.clock) p) after (log_answer answer) k.leaves
      refl marked (get_or-set_other broker.views p q _ blank_view n) (λ h. (refl, marked))
    where
      marked : view_in (after_mark w.topo broker p w.clock) q ≡ view_in broker q
      marked = get_or-set_other broker.views p q _ blank_view n

  -- The lanes

  abbrev Logs : Option LogView → (ℕ → Lane) → (ℕ → Lane) → Result Outcome BrokerFault → Type 0
  Logs o lanes lanes' answer = elim o [
    | Some l ↦ WakesBoth l (mark_logs_at w.topo broker p w.clock) (cut_at w.topo broker p w.clock) w.topo.settings.reclaim (lanes_at lanes (log_lane p)) (lanes_at lanes' (log_lane p)) (log_answer answer)
    | None ↦ Unit {0}
  ]

  -- the lanes of the log are left with what it held, or with that and the mark, or with the cut besides
  moves : (o : Option LogView) → log_in broker p ≡ o → (lanes lanes' : ℕ → Lane) (answer : Result Outcome BrokerFault) → Logs o lanes lanes' answer → is_some o ≡ true → (is_broken o ≡ true → lanes_at lanes' (log_lane p) ≡ lanes_at lanes (log_lane p)) → LaneMoves w.topo.late (lanes_at lanes (log_lane p)) (lanes_at lanes' (log_lane p))
  moves (Some l) is lanes lanes' answer a s quiet =
      wakes_moves w.topo.late l (mark_logs_at w.topo broker p w.clock) (cut_at w.topo broker p w.clock) w.topo.settings.reclaim (lanes_at lanes (log_lane p)) (lanes_at lanes' (log_lane p)) (log_answer answer) ((i.brokers b lt).late p l is) a quiet
  moves None is lanes lanes' answer a s quiet = absurd (true≢false (sym s))

  hosted : host_of w.topo p ≡ b → is_some (log_in broker p) ≡ true
  hosted at = (i.brokers b lt).hosted p below ∙ eq-eqb (host_of w.topo p) broker.number (at ∙ sym (i.numbered b lt))

  pub wake_lanes : (after : BrokerView) (frames : List (List ℕ)) (lanes lanes' : ℕ → Lane) (answer : Result Outcome BrokerFault) (result : Result (List Report) WorldFault) → IsOpen w → LanesFit lanes w
      → WakesOn w.topo broker p w.clock after lanes lanes' answer → Called w b p (wake_in w b p) after frames result → LanesFit lanes' (put_in w b after frames)
  wake_lanes after frames lanes lanes' answer result is_open fit on c =
      lanes_fit w b p after frames lanes lanes' i lt below c.touches is_open fit on.others
      (λ at. moves (log_in broker p) refl lanes lanes' answer on.lane (hosted at) (λ h. both_same (on.broken h))) (λ n. both_same (on.below (no_log n))) on.stands
    where
      both_same : ((n : ℕ) → lanes' n ≡ lanes n) → lanes_at lanes' (log_lane p) ≡ lanes_at lanes (log_lane p)
      both_same e = lanes_same lanes lanes' (log_lane p) (e (log_lane p)) (e (suc (log_lane p)))

  -- within the call they hold at every moment what they held, or that with the mark, or with the cut besides
  pub wake_calls : StandsRead → (after : BrokerView) (lanes lanes' : ℕ → Lane) (answer : Result Outcome BrokerFault) → IsOpen w → LanesFit lanes w → WakesOn w.topo broker p w.clock after lanes lanes' answer
      → GoesOnBoth (lanes_at lanes (log_lane p)) (lanes_at lanes' (log_lane p)) → CallsLanes w.topo lanes lanes'
  wake_calls read after lanes lanes' answer is_open fit on goes = lanes_of_one w.topo lanes lanes' p below on.others (go (log_in broker p) refl on.lane)
    where
      both_same : ((n : ℕ) → lanes' n ≡ lanes n) → lanes_at lanes' (log_lane p) ≡ lanes_at lanes (log_lane p)
      both_same e = lanes_same lanes lanes' (log_lane p) (e (log_lane p)) (e (suc (log_lane p)))

      here : (l : LogView) → log_in broker p ≡ Some l → host_of w.topo p ≡ b
      here l is = elim (cases_eq (host_of w.topo p) b) [ inl e ↦ e | inr n ↦ absurd (cc (no_log n, is)) ]

      go : (o : Option LogView) → log_in broker p ≡ o → Logs o lanes lanes' answer → IsCall w.topo.late (lanes_at lanes (log_lane p)) (lanes_at lanes' (log_lane p))
      go (Some l) is a =
          wakes_call read w.topo.late l (lanes_at lanes (log_lane p)) (lanes_at lanes' (log_lane p)) ((i.brokers b lt).late p l is) (ready_here w b p lanes l is_open fit below (here l is) is) goes
          (λ h. both_same (on.broken (ap is_broken is ∙ h))) (mark_logs_at w.topo broker p w.clock) (cut_at w.topo broker p w.clock) w.topo.settings.reclaim (log_answer answer) a
      go None is a = no_call w.topo.late (lanes_at lanes (log_lane p)) (lanes_at lanes' (log_lane p)) (both_same (on.below is))

-- The call in code, where the world is seen by its parts

module _ (v w : WorldView) (b p : ℕ) (x after : BrokerView) (frames : List (List ℕ)) (answer : Result Outcome BrokerFault) (result : Result (List Report) WorldFault) (s : Site v w b p x) (n : IsNet (net_in v)) (k : Wakes v.topo x p v.clock after answer) (f : Follows answer result) (takes : (o : MachineOutcome) → IfOk answer (Tells o) → TakesUp o v.frames frames result) where
  called : Called v b p (wake_in v b p) after frames result
  called =
      wake_called v b p (site_fits v w b p x s) s.broker (site_publisher v w b p x s) after frames answer result n
      (subst (λ (z : BrokerView). Wakes v.topo z p v.clock after answer) (site_read v w b p x s) k) f takes

  pub does_wake : Does (wake_for (net_in w) (world_of w) b p) (put_in v b after frames) result
  does_wake =
      subst (λ (u : WorldView). Does (wake_for (net_in u) (world_of u) b p) (put_in v b after frames) result) s.same
      (wake_does v b p (site_fits v w b p x s) s.broker (site_publisher v w b p x s) after frames result called)

  pub ran_wake : Ran w (put_in v b after frames) result
  ran_wake = site_ran v w b p x s (wake_in v b p) after frames result called

  pub lanes_wake : (lanes lanes' : ℕ → Lane) → LanesFit lanes w → WakesOn v.topo x p v.clock after lanes lanes' answer → LanesFit lanes' (put_in v b after frames)
  lanes_wake lanes lanes' fit on =
      wake_lanes v b p (site_fits v w b p x s) s.broker (site_publisher v w b p x s) after frames lanes lanes' answer result
      (subst IsOpen (sym s.same) s.is_open) (subst (LanesFit lanes) (sym s.same) fit) (subst (λ (z : BrokerView). WakesOn v.topo z p v.clock after lanes lanes' answer) (site_read v w b p x s) on) called

  pub calls_wake : StandsRead → (lanes lanes' : ℕ → Lane) → LanesFit lanes w → WakesOn v.topo x p v.clock after lanes lanes' answer → GoesOnBoth (lanes_at lanes (log_lane p)) (lanes_at lanes' (log_lane p)) → CallsLanes w.topo lanes lanes'
  calls_wake read lanes lanes' fit on goes =
      subst (λ (u : WorldView). CallsLanes u.topo lanes lanes') s.same
      (wake_calls v b p (site_fits v w b p x s) s.broker (site_publisher v w b p x s) read after lanes lanes' answer
      (subst IsOpen (sym s.same) s.is_open) (subst (LanesFit lanes) (sym s.same) fit) (subst (λ (z : BrokerView). WakesOn v.topo z p v.clock after lanes lanes' answer) (site_read v w b p x s) on) goes)

  -- It is answered `Reopen` exactly where it would append to a broken log, and then nothing has changed

  abbrev Barred : BrokerView → Type 0
  Barred y = (is_broken (log_in y p) ≡ true) × (IsSome (mark_logs_at v.topo y p v.clock) ⊎ IsSome (cut_at v.topo y p v.clock))

  pub reopens_wake : IsErrOf result fault.Reopen ↔ IsWakeBarred w b p
  reopens_wake = (
    λ h. subst (λ (u : WorldView). IsWakeBarred u b p) s.same (subst Barred (site_read v w b p x s) (k.reopen.0 (reopen_follows answer result f h))),
    λ h. reopen_told answer result f (k.reopen.1 (subst Barred (sym (site_read v w b p x s)) (subst (λ (u : WorldView). IsWakeBarred u b p) (sym s.same) h))),
  )

  frames_kept : (z : WorldFault) → result ≡ Err z → frames ≡ v.frames
  frames_kept z h = kept result h (takes (wake_at v.topo x p v.clock) k.told).kept
    where
      kept : (r : Result (List Report) WorldFault) → r ≡ Err z → OnErr r (frames ≡ v.frames) → frames ≡ v.frames
      kept (Ok ls) h o = absurd (cc h)
      kept (Err y) h o = o

  -- where it is refused nothing has changed, and where the disk fails it the log is broken
  pub ends_wake : WakeEnds b p result w (put_in v b after frames)
  ends_wake = record {
    closed = λ h. put_back v w b x after frames s.same s.read (k.leaves.closed (closes answer (reopen_follows answer result f h))) (frames_kept fault.Reopen h);
    barred = reopens_wake.0;
    failed = λ h. elim (k.leaves.failed (disk_follows answer result f h)) [
      | inl e ↦ inl (left (λ y. broken_at y p) (frames_kept fault.Disk h) e)
      | inr e ↦ inr (left (λ y. broken_at (after_mark v.topo y p v.clock) p) (frames_kept fault.Disk h) e ∙ moved)
    ];
  }
    where
      left : (g : BrokerView → BrokerView) → frames ≡ v.frames → after ≡ g x → put_in v b after frames ≡ put_in w b (g (broker_in w b)) w.frames
      left g fs e =
          ap₂ (λ (y : BrokerView) zs. put_in v b y zs) (e ∙ ap g (site_read v w b p x s)) fs
          ∙ ap (λ (u : WorldView). put_in u b (g (broker_in u b)) u.frames) s.same

      moved : put_in w b (broken_at (after_mark v.topo (broker_in w b) p v.clock) p) w.frames ≡ marked_broken_in w b p
      moved = ap (λ (u : WorldView). put_in w b (broken_at (after_mark u.topo (broker_in w b) p u.clock) p) w.frames) s.same

  -- all other brokers and publishers are left as they were
  pub apart_wake : TouchesOne b p w (put_in v b after frames)
  apart_wake = record {
    brokers = λ c n. broker_there v b p after frames within_list c n ∙ ap (λ (u : WorldView). broker_in u c) s.same;
    views = λ q n.
        ap (λ (y : BrokerView). view_in y q) (broker_here v b p after frames within_list)
        ∙ (wake_views v b p (site_fits v w b p x s) s.broker (site_publisher v w b p x s) after answer here q n
        ∙ ap (λ (u : WorldView). view_in (broker_in u b) q) s.same);
    logs = λ q n.
        ap (λ (y : BrokerView). log_in y q) (broker_here v b p after frames within_list)
        ∙ (called.touches.others q n ∙ ap (λ (u : WorldView). log_in (broker_in u b) q) s.same);
  }
    where
      here : Wakes v.topo (broker_in v b) p v.clock after answer
      here = subst (λ (z : BrokerView). Wakes v.topo z p v.clock after answer) (site_read v w b p x s) k

      within_list : b < length v.brokers
      within_list = subst (λ m. b < m) (sym (let i = site_fits v w b p x s in i.count)) s.broker
