-- A call of a host that logs a record or none, within a step: what it leaves is the world's, and the machine's outcome of it is
-- absorbed
use Rattle.std.proofs.Common.{◌≡◌, ℕ, suc, ◌<◌, true, false, List, length, set, Option, Some, None, Result, Ok, Err, OnOk, OnErr, refl, sym, ap, ap₂, ◌∙◌, subst}
use Rattle.std.specs.Prelude.{◌↔◌, IsSome, is_some, IfOk, IsErrOf}
use Rattle.std.specs.List.{AllByRecursion}
use Rattle.std.proofs.lemmas.Bool.{eq-eqb, false≢true}
use Rattle.std.proofs.lemmas.List.{set-get_or}
use Rattle.gr_out.specs.Lane.{Lane}
use Rattle.gr_publog.specs.declared.record.Record.{Record}
use Rattle.gr_publog.specs.declared.record.LogFault.TheVariants as log_fault
use Rattle.gr_publog.specs.Views.{LogView, lanes_at, AwayFrom, StandsRead}
use Rattle.gr_publog.specs.Calls.{Appends, Leaves}
use Rattle.gr_topo.specs.Topology.{TopologyView, host_of}
use Rattle.gr_model.specs.declared.report.Report.{Report}
use Rattle.gr_model.specs.Broker.{View, Outcome as MachineOutcome}
use Rattle.gr_model.specs.World.{absorbed}
use Rattle.gr_model_calls.specs.Edges.{GoesOverEdge}
use Rattle.gr_broker_relay.specs.declared.outcome.Outcome.{Outcome}
use Rattle.gr_broker_relay.specs.Told.{Tells}
use Rattle.gr_broker.specs.declared.outcome.BrokerFault.{BrokerFault}
use Rattle.gr_broker.specs.declared.outcome.BrokerFault.TheVariants as refused
use Rattle.gr_broker.specs.Lanes.{log_lane, GoesOnBoth}
use Rattle.gr_broker.specs.Seen.{BrokerView, log_in, log_said, machine_log, with_logged, is_broken, logged_at, broken_at}
use Rattle.gr_broker.specs.Of.{IsBrokerOf, LogsStand}
use Rattle.gr_broker.specs.Told.{log_answer}
use Rattle.gr_broker.specs.Hosted.{AppendsAt}
use Rattle.gr_world.specs.declared.fault.WorldFault.{WorldFault}
use Rattle.gr_world.specs.declared.fault.WorldFault.TheVariants as fault
use Rattle.gr_world.specs.Seen.{WorldView, broker_in, log_at, world_of, net_in}
use Rattle.gr_world.specs.Of.{IsWorld, LanesFit}
use Rattle.gr_world.specs.Steps.{Does}
use Rattle.gr_world.specs.Ran.{IsOpen, Ran}
use Rattle.gr_world.specs.Stopped.{broken_in}
use Rattle.gr_world.specs.Moments.{IsCall, CallsLanes}
use Rattle.gr_world.specs.Taking.{Follows, TakesUp, put_in}
use Rattle.gr_world.proofs.Absorbing.{Touches, log_here}
use Rattle.gr_world.proofs.Answers.{on_ok, ok_answer, ok_follows, spelled_follow, disk_follows, reopen_follows, reopen_told, not_disk, carried_follows, leaves_on, touched, touched_broken, untouched, whole_logged, whole_with, closes, logged_none, log_same, failed_same}
use Rattle.gr_world.proofs.Lanes.{LaneMoves, appends_moves, lanes_same, lanes_fit}
use Rattle.gr_world.proofs.ByCalls.{ready_here, appends_call, lanes_of_one}
use Rattle.gr_world.proofs.Called.{Called, called_does, Site, site_read, site_fits, site_publisher, site_ran}

-- A call of a broker: its machine's outcome, and the record that it logs or none
pub record Call : Type 0 where
  pub does : BrokerView → MachineOutcome
  pub logs : BrokerView → Option Record

-- what the broker's call gives
pub record Logs (t : TopologyView) (c : Call) (x : BrokerView) (p : ℕ) (after : BrokerView) (answer : Result Outcome BrokerFault) : Type 0 where
  pub told : IfOk answer (Tells (c.does x))
  pub leaves : let o : MachineOutcome = c.does x in Leaves x (logged_at x p (c.logs x) o.view) (broken_at x p) after (log_answer answer)
  pub log : OnOk answer (let o : MachineOutcome = c.does x in machine_log after p ≡ o.log)
  pub fits : IsBrokerOf t after
  pub reopen : IsErrOf answer refused.Reopen ↔ ((is_broken (log_in x p) ≡ true) × IsSome (c.logs x))

-- and does to the lanes
pub record LogsOn (logs : BrokerView → Option Record) (x : BrokerView) (p : ℕ) (after : BrokerView) (lanes lanes' : ℕ → Lane) (answer : Result Outcome BrokerFault) : Type 0 where
  pub lane : AppendsAt x p (logs x) lanes lanes' (log_answer answer)
  pub idle : IsErrOf answer refused.Reopen → (n : ℕ) → lanes' n ≡ lanes n
  pub untouched : logs x ≡ None → (n : ℕ) → lanes' n ≡ lanes n
  pub others : (n : ℕ) → AwayFrom (log_lane p) n → lanes' n ≡ lanes n
  pub stands : LogsStand lanes' after

-- the lanes of a log that the disk has failed stay
pub still_lanes : (t : TopologyView) (call : Call) (x after : BrokerView) (p : ℕ) (lanes lanes' : ℕ → Lane) (answer : Result Outcome BrokerFault) → Logs t call x p after answer → LogsOn call.logs x p after lanes lanes' answer
    → is_broken (log_in x p) ≡ true → lanes_at lanes' (log_lane p) ≡ lanes_at lanes (log_lane p)
still_lanes t call x after p lanes lanes' answer k on broken = go (call.logs x) refl
  where
    go : (r : Option Record) → call.logs x ≡ r → lanes_at lanes' (log_lane p) ≡ lanes_at lanes (log_lane p)
    go None h = lanes_same lanes lanes' (log_lane p) (on.untouched h (log_lane p)) (on.untouched h (suc (log_lane p)))
    go (Some r) h = let idle = on.idle (k.reopen.1 (broken, ap is_some h)) in lanes_same lanes lanes' (log_lane p) (idle (log_lane p)) (idle (suc (log_lane p)))

module _ (w : WorldView) (b p : ℕ) (call : Call) (one : MachineOutcome) (i : IsWorld w) (lt : b < length w.topo.brokers) (below : p < length w.topo.publishers) (at : host_of w.topo p ≡ b) where
  abbrev broker : BrokerView
  broker = broker_in w b

  within : b < length w.brokers
  within = subst (λ n. b < n) (sym i.count) lt

  hosted : is_some (log_in broker p) ≡ true
  hosted = (i.brokers b lt).hosted p below ∙ eq-eqb (host_of w.topo p) broker.number (at ∙ sym (i.numbered b lt))

  -- one that is answered and taken up has done what a call does, where it is the machine's
  pub logs_called : (after : BrokerView) (frames : List (List ℕ)) (answer : Result Outcome BrokerFault) (result : Result (List Report) WorldFault) → call.does broker ≡ one → AllByRecursion (GoesOverEdge (net_in w)) one.frames
      → Logs w.topo call broker p after answer → Follows answer result → ((o : MachineOutcome) → IfOk answer (Tells o) → TakesUp o w.frames frames result)
      → Called w b p one after frames result
  logs_called after frames answer result same over k f takes = record {
    takes = takes one told_in;
    view = ok_follows _ answer result f (on_ok (log_answer answer) (λ h. ap (λ (x : BrokerView). x.views) h ∙ ap (λ (o : MachineOutcome). set broker.views p o.view) same) k.leaves.ok);
    log = ok_follows _ answer result f (ok_answer answer (λ h. ap log_said (log_here w b p after frames within p at) ∙ (h ∙ ap (λ (o : MachineOutcome). o.log) same)) k.log);
    spelled = ok_follows _ answer result f (spelled_follow one answer told_in);
    over = over;
    touches = on (Touches p broker) (untouched p broker) (touched p broker log view) (λ h. touched_broken p broker);
    fits = k.fits;
    carried = carried_follows answer result f k.leaves.never_damaged;
    whole = λ not whole. on (λ (x : BrokerView). is_broken (log_in x p) ≡ false) whole
        (whole_with p broker log view short (whole_logged (log_in broker p) (call.logs broker)) whole) (λ h. absurd (not_disk answer result f not h));
    closed = λ broken. stays broken (call.logs broker) refl;
    reopen = λ h. (k.reopen.0 (reopen_follows answer result f h)).0;
  }
    where
      told_in : IfOk answer (Tells one)
      told_in = subst (λ (o : MachineOutcome). IfOk answer (Tells o)) same k.told

      log : Option LogView
      log = with_logged (log_in broker p) (call.logs broker)

      view : View
      view = let o : MachineOutcome = call.does broker in o.view

      short : p < length broker.logs
      short = subst (λ m. p < m) (sym (i.brokers b lt).logs) below

      on : (P : BrokerView → Type 0) → P broker → P (logged_at broker p (call.logs broker) view) → (IsErrOf (log_answer answer) log_fault.Disk → P (broken_at broker p)) → P after
      on P a m c = leaves_on P broker (logged_at broker p (call.logs broker) view) (broken_at broker p) after (log_answer answer) k.leaves a m c

      -- a log that the disk has failed stays
      stays : is_broken (log_in broker p) ≡ true → (r : Option Record) → call.logs broker ≡ r → log_in after p ≡ log_in broker p
      stays broken (Some r) is = ap (λ (x : BrokerView). log_in x p) (k.leaves.closed (closes answer (k.reopen.1 (broken, ap is_some is))))
      stays broken None is =
          on (λ (x : BrokerView). log_in x p ≡ log_in broker p) refl
          (log_same p broker log view short (ap (λ (r : Option Record). with_logged (log_in broker p) r) is ∙ logged_none (log_in broker p))) (λ h. failed_same p broker short broken)

  -- The lanes

  -- they are left with what the log held, or with that and the further record
  abbrev Appended : Option LogView → (ℕ → Lane) → (ℕ → Lane) → Result Outcome BrokerFault → Type 0
  Appended o lanes lanes' answer = elim o [ Some l ↦ Appends l (call.logs broker) (lanes_at lanes (log_lane p)) (lanes_at lanes' (log_lane p)) (log_answer answer) | None ↦ Unit {0} ]

  pub moves : (after : BrokerView) (lanes lanes' : ℕ → Lane) (answer : Result Outcome BrokerFault) → Logs w.topo call broker p after answer → LogsOn call.logs broker p after lanes lanes' answer
      → LaneMoves w.topo.late (lanes_at lanes (log_lane p)) (lanes_at lanes' (log_lane p))
  moves after lanes lanes' answer k on = go (log_in broker p) refl on.lane hosted (still_lanes w.topo call broker after p lanes lanes' answer k on)
    where
      go : (o : Option LogView) → log_in broker p ≡ o → Appended o lanes lanes' answer → is_some o ≡ true → (is_broken o ≡ true → lanes_at lanes' (log_lane p) ≡ lanes_at lanes (log_lane p)) → LaneMoves w.topo.late (lanes_at lanes (log_lane p)) (lanes_at lanes' (log_lane p))
      go (Some l) is a s quiet =
          appends_moves w.topo.late l (call.logs broker) (lanes_at lanes (log_lane p)) (lanes_at lanes' (log_lane p)) (log_answer answer) ((i.brokers b lt).late p l is) a quiet
      go None is a s quiet = absurd (false≢true s)

  logs_lanes : (after : BrokerView) (frames : List (List ℕ)) (lanes lanes' : ℕ → Lane) (answer : Result Outcome BrokerFault) (result : Result (List Report) WorldFault) → IsOpen w → LanesFit lanes w
      → Logs w.topo call broker p after answer → LogsOn call.logs broker p after lanes lanes' answer → Called w b p one after frames result
      → LanesFit lanes' (put_in w b after frames)
  logs_lanes after frames lanes lanes' answer result is_open fit k on c =
      lanes_fit w b p after frames lanes lanes' i lt below c.touches is_open fit on.others (λ h. moves after lanes lanes' answer k on) (λ n. absurd (n at)) on.stands

  -- within the call they hold at every moment what they held, or that with the record
  pub logs_calls : StandsRead → (after : BrokerView) (lanes lanes' : ℕ → Lane) (answer : Result Outcome BrokerFault) → IsOpen w → LanesFit lanes w → Logs w.topo call broker p after answer → LogsOn call.logs broker p after lanes lanes' answer
      → GoesOnBoth (lanes_at lanes (log_lane p)) (lanes_at lanes' (log_lane p)) → CallsLanes w.topo lanes lanes'
  logs_calls read after lanes lanes' answer is_open fit k on goes = lanes_of_one w.topo lanes lanes' p below on.others (go (log_in broker p) refl on.lane hosted (still_lanes w.topo call broker after p lanes lanes' answer k on))
    where
      go : (o : Option LogView) → log_in broker p ≡ o → Appended o lanes lanes' answer → is_some o ≡ true → (is_broken o ≡ true → lanes_at lanes' (log_lane p) ≡ lanes_at lanes (log_lane p))
          → IsCall w.topo.late (lanes_at lanes (log_lane p)) (lanes_at lanes' (log_lane p))
      go (Some l) is a s quiet =
          appends_call read w.topo.late l (lanes_at lanes (log_lane p)) (lanes_at lanes' (log_lane p)) ((i.brokers b lt).late p l is) (ready_here w b p lanes l is_open fit below at is) goes quiet (call.logs broker) (log_answer answer) a
      go None is a s quiet = absurd (false≢true s)

-- The call in code, where the world is seen by its parts and the host is read from the topology

module _ (v w : WorldView) (b p : ℕ) (call : Call) (one : MachineOutcome) (x after : BrokerView) (frames : List (List ℕ)) (answer : Result Outcome BrokerFault) (result : Result (List Report) WorldFault) (s : Site v w b p x) (host : host_of v.topo p ≡ b) (k : Logs v.topo call x p after answer) (f : Follows answer result) (takes : (o : MachineOutcome) → IfOk answer (Tells o) → TakesUp o v.frames frames result) where
  pub here : Logs v.topo call (broker_in v b) p after answer
  here = subst (λ (z : BrokerView). Logs v.topo call z p after answer) (site_read v w b p x s) k

  module _ (same : call.does (broker_in v b) ≡ one) (over : AllByRecursion (GoesOverEdge (net_in v)) one.frames) where
    pub site_called : Called v b p one after frames result
    site_called = logs_called v b p call one (site_fits v w b p x s) s.broker (site_publisher v w b p x s) host after frames answer result same over here f takes

    pub does_logged : Does (absorbed (world_of v) b p one) (put_in v b after frames) result
    does_logged = called_does v b p one after frames result (site_fits v w b p x s) s.broker (site_publisher v w b p x s) site_called

    pub ran_logged : Ran w (put_in v b after frames) result
    ran_logged = site_ran v w b p x s one after frames result site_called

    pub lanes_logged : (lanes lanes' : ℕ → Lane) → LanesFit lanes w → LogsOn call.logs x p after lanes lanes' answer → LanesFit lanes' (put_in v b after frames)
    lanes_logged lanes lanes' fit on =
        logs_lanes v b p call one (site_fits v w b p x s) s.broker (site_publisher v w b p x s) host after frames lanes lanes' answer result
        (subst IsOpen (sym s.same) s.is_open) (subst (LanesFit lanes) (sym s.same) fit) here (subst (λ (z : BrokerView). LogsOn call.logs z p after lanes lanes' answer) (site_read v w b p x s) on) site_called

    pub calls_logged : StandsRead → (lanes lanes' : ℕ → Lane) → LanesFit lanes w → LogsOn call.logs x p after lanes lanes' answer → GoesOnBoth (lanes_at lanes (log_lane p)) (lanes_at lanes' (log_lane p)) → CallsLanes w.topo lanes lanes'
    calls_logged read lanes lanes' fit on goes =
        subst (λ (u : WorldView). CallsLanes u.topo lanes lanes') s.same
        (logs_calls v b p call one (site_fits v w b p x s) s.broker (site_publisher v w b p x s) host read after lanes lanes' answer
        (subst IsOpen (sym s.same) s.is_open) (subst (LanesFit lanes) (sym s.same) fit) here (subst (λ (z : BrokerView). LogsOn call.logs z p after lanes lanes' answer) (site_read v w b p x s) on) goes)

  -- It is answered `Reopen` exactly where it would append to a broken log, and then nothing has changed

  read_host : x ≡ broker_in v (host_of v.topo p)
  read_host = site_read v w b p x s ∙ ap (broker_in v) (sym host)

  abbrev Barred : BrokerView → Type 0
  Barred y = (is_broken (log_in y p) ≡ true) × IsSome (call.logs y)

  pub reopens_logged : IsErrOf result fault.Reopen ↔ ((is_broken (log_at v p) ≡ true) × IsSome (call.logs (broker_in v (host_of v.topo p))))
  reopens_logged = (
    λ h. subst Barred read_host (k.reopen.0 (reopen_follows answer result f h)),
    λ h. reopen_told answer result f (k.reopen.1 (subst Barred (sym read_host) h)),
  )

  frames_kept : (z : WorldFault) → result ≡ Err z → frames ≡ v.frames
  frames_kept z h = kept result h (takes (call.does x) k.told).kept
    where
      kept : (r : Result (List Report) WorldFault) → r ≡ Err z → OnErr r (frames ≡ v.frames) → frames ≡ v.frames
      kept (Ok ls) h o = absurd (cc h)
      kept (Err y) h o = o

  pub unchanged_logged : IsErrOf result fault.Reopen → put_in v b after frames ≡ w
  unchanged_logged h =
      let same : after ≡ x = k.leaves.closed (ap (λ (a : Result Outcome BrokerFault). log_answer a) (reopen_follows answer result f h)) in
      ap₂ (λ (y : BrokerView) (fs : List (List ℕ)). put_in v b y fs) same (frames_kept fault.Reopen h)
      ∙ ap with_list (ap (set v.brokers b) s.read ∙ set-get_or v.brokers b x) ∙ s.same
    where
      with_list : List BrokerView → WorldView
      with_list bs = record { topo = v.topo; brokers = bs; frames = v.frames; clock = v.clock; most = v.most; told = v.told; down = v.down; spent = v.spent }

  -- where the disk fails it, that log is broken and all else stands
  pub failed_logged : IsErrOf result fault.Disk → put_in v b after frames ≡ broken_in w (host_of w.topo p) p
  failed_logged h =
      let broken : after ≡ broken_at x p = k.leaves.failed (disk_follows answer result f h) in
      ap₂ (λ (y : BrokerView) (fs : List (List ℕ)). put_in v b y fs) broken (frames_kept fault.Disk h)
      ∙ ap (λ (y : BrokerView). put_in v b (broken_at y p) v.frames) (site_read v w b p x s)
      ∙ ap (λ c. broken_in v c p) (sym host)
      ∙ ap (λ (u : WorldView). broken_in u (host_of u.topo p) p) s.same
