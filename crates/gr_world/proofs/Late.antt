-- A join within a step is the machine's at the publisher's host
use Rattle.std.proofs.Common.{◌≡◌, ℕ, suc, ◌<◌, max, true, List, [], ◌∷◌, length, Option, Some, None, Result, refl, sym, ap, ◌∙◌, subst}
use Rattle.std.specs.Prelude.{◌↔◌, is_some, IfOk, IsErrOf}
use Rattle.std.specs.List.{AllByRecursion}
use Rattle.std.proofs.lemmas.Bool.{and_from, eq-eqb, false≢true}
use Rattle.gr_out.specs.Lane.{Lane}
use Rattle.gr_publog.specs.Views.{LogView, lanes_at, StandsRead}
use Rattle.gr_topo.specs.Topology.{TopologyView, host_of, late_of}
use Rattle.gr_model.specs.declared.report.Report.{Report}
use Rattle.gr_model.specs.Net.{all_late}
use Rattle.gr_model.specs.Tree.{IsNet}
use Rattle.gr_model.specs.Broker.{View, Log, Outcome as MachineOutcome, seen, view_joined, joining}
use Rattle.gr_model.specs.World.{World, view_of, log_of, absorbed, join_now, join_now_by}
use Rattle.gr_model_calls.specs.Edges.{GoesOverEdge}
use Rattle.gr_model_calls.proofs.calls.Held.{all_late_on}
use Rattle.gr_model_calls.proofs.topology.Strays.{joining_on}
use Rattle.gr_broker_relay.specs.declared.outcome.Outcome.{Outcome}
use Rattle.gr_broker_relay.specs.Told.{Tells}
use Rattle.gr_broker.specs.declared.outcome.BrokerFault.{BrokerFault}
use Rattle.gr_broker.specs.Lanes.{log_lane, GoesOnBoth}
use Rattle.gr_broker.specs.Seen.{BrokerView, view_in, log_in, log_said, machine_log}
use Rattle.gr_broker.specs.Hosted.{join_at, join_logs_at}
use Rattle.gr_world.specs.declared.fault.WorldFault.{WorldFault}
use Rattle.gr_world.specs.declared.fault.WorldFault.TheVariants as fault
use Rattle.gr_world.specs.Seen.{WorldView, broker_in, world_of, net_in}
use Rattle.gr_world.specs.Of.{IsWorld, LanesFit}
use Rattle.gr_world.specs.Steps.{Does}
use Rattle.gr_world.specs.Disk.{IsBarredJoin}
use Rattle.gr_world.specs.Ran.{Ran}
use Rattle.gr_world.specs.Moments.{CallsLanes}
use Rattle.gr_world.specs.Stopped.{broken_in}
use Rattle.gr_world.specs.Taking.{Follows, TakesUp, put_in}
use Rattle.gr_report.proofs.Named.{all_of}
use Rattle.gr_report.proofs.Passing.{seen_edges}
use Rattle.gr_world.proofs.Absorbing.{view_is, log_is}
use Rattle.gr_world.proofs.Called.{Site, site_fits, site_publisher}
use Rattle.gr_world.proofs.Logged.{Call, Logs, LogsOn, does_logged, ran_logged, lanes_logged, calls_logged, reopens_logged, unchanged_logged, failed_logged}

-- The call

abbrev pub joins_at : TopologyView → ℕ → ℕ → ℕ → Call
joins_at t p s now = record { does = λ x. join_at t x p s now; logs = λ x. join_logs_at x p s now }

-- what the broker's call gives, and does to the lanes
abbrev pub JoinsAt : TopologyView → BrokerView → ℕ → ℕ → ℕ → BrokerView → Result Outcome BrokerFault → Type 0
JoinsAt t x p s now after answer = Logs t (joins_at t p s now) x p after answer

abbrev pub JoinsOn : BrokerView → ℕ → ℕ → ℕ → BrokerView → (ℕ → Lane) → (ℕ → Lane) → Result Outcome BrokerFault → Type 0
JoinsOn x p s now after lanes lanes' answer = LogsOn (λ y. join_logs_at y p s now) x p after lanes lanes' answer

-- the machine's outcome of a join at a broker
abbrev pub join_in : WorldView → ℕ → ℕ → ℕ → MachineOutcome
join_in w b p s =
    let m : World = world_of w in
    let v : View = view_of m b p in
    let log : Log = log_of m p in
    joining (seen (net_in w) (view_joined log s w.clock v)) p b w.clock s v log

-- the machine's join is that at the host
join_is : (w : WorldView) (p s : ℕ) → join_now (net_in w) (world_of w) s p ≡ absorbed (world_of w) (host_of w.topo p) p (join_in w (host_of w.topo p) p s)
unfolding join_now_by
join_is w p s = refl

module _ (w : WorldView) (b p s : ℕ) (i : IsWorld w) (lt : b < length w.topo.brokers) (below : p < length w.topo.publishers) (at : host_of w.topo p ≡ b) where
  abbrev broker : BrokerView
  broker = broker_in w b

  within : b < length w.brokers
  within = subst (λ n. b < n) (sym i.count) lt

  abbrev join_by : ℕ → View → Log → MachineOutcome
  join_by n v log = joining (seen (net_in w) (view_joined log s w.clock v)) p n w.clock s v log

  log_here : machine_log broker p ≡ log_of (world_of w) p
  log_here = sym (log_is w p below ∙ ap (λ c. log_said (log_in (broker_in w c) p)) at)

  -- it is the broker's own
  join_same : join_at w.topo broker p s w.clock ≡ join_in w b p s
  join_same =
      ap (λ n. join_by n (view_in broker p) (machine_log broker p)) (i.numbered b lt)
      ∙ (ap (λ (l : Log). join_by b (view_in broker p) l) log_here
      ∙ ap (λ (v : View). join_by b v (log_of (world_of w) p)) (sym (view_is w b p within)))

  hosted : is_some (log_in broker p) ≡ true
  hosted = (i.brokers b lt).hosted p below ∙ eq-eqb (host_of w.topo p) broker.number (at ∙ sym (i.numbered b lt))

  -- the joins of its log are of late subscribers, since the host holds them
  log_late : all_late (net_in w) (let l : Log = log_of (world_of w) p in l.joins) ≡ true
  log_late = subst (λ (l : Log). all_late (net_in w) l.joins ≡ true) log_here (go (log_in broker p) refl hosted)
    where
      go : (o : Option LogView) → log_in broker p ≡ o → is_some o ≡ true → all_late (net_in w) (let l : Log = log_said (log_in broker p) in l.joins) ≡ true
      go (Some l) e h =
          ap (λ (x : Option LogView). let log : Log = log_said x in all_late (net_in w) log.joins) e
          ∙ (ap (all_late (net_in w)) (sym ((i.brokers b lt).joined p l e)) ∙ ((i.brokers b lt).kept p below).joins)
      go None e h = absurd (false≢true h)

  -- so what it sends goes over edges, with one late subscriber more
  join_over : IsNet (net_in w) → late_of w.topo s ≡ true → AllByRecursion (GoesOverEdge (net_in w)) (join_in w b p s).frames
  join_over n late =
      let v : View = view_of (world_of w) b p in
      let log : Log = log_of (world_of w) p in
      let one : all_late (net_in w) (record { subscriber = s; tick = max (suc log.settled) w.clock } ∷ []) ≡ true = and_from (late_of w.topo s) true late refl in
      all_of (GoesOverEdge (net_in w)) _ (joining_on (seen (net_in w) (view_joined log s w.clock v)) p b w.clock s (GoesOverEdge (net_in w)) v log
      (seen_edges (net_in w) (view_joined log s w.clock v) p b n below lt (all_late_on (net_in w) log.joins (record { subscriber = s; tick = max (suc log.settled) w.clock } ∷ []) log_late one)))

-- The call in code, where the world is seen by its parts and the host is read from the topology

module _ (v w : WorldView) (b p s : ℕ) (x after : BrokerView) (frames : List (List ℕ)) (answer : Result Outcome BrokerFault) (result : Result (List Report) WorldFault) (site : Site v w b p x) (host : host_of v.topo p ≡ b) (n : IsNet (net_in v)) (late : late_of w.topo s ≡ true) (k : JoinsAt v.topo x p s v.clock after answer) (f : Follows answer result) (takes : (o : MachineOutcome) → IfOk answer (Tells o) → TakesUp o v.frames frames result) where
  abbrev call : Call
  call = joins_at v.topo p s v.clock

  abbrev one : MachineOutcome
  one = join_in v b p s

  same : join_at v.topo (broker_in v b) p s v.clock ≡ one
  same = join_same v b p s (site_fits v w b p x site) site.broker (site_publisher v w b p x site) host

  over : AllByRecursion (GoesOverEdge (net_in v)) one.frames
  over =
      join_over v b p s (site_fits v w b p x site) site.broker (site_publisher v w b p x site) host n
      (subst (λ (u : WorldView). late_of u.topo s ≡ true) (sym site.same) late)

  pub does_join : Does (join_now (net_in w) (world_of w) s p) (put_in v b after frames) result
  does_join =
      subst (λ (u : WorldView). Does (join_now (net_in u) (world_of u) s p) (put_in v b after frames) result) site.same
      (subst (λ t. Does t (put_in v b after frames) result) (sym (join_is v p s))
      (subst (λ h. Does (absorbed (world_of v) h p (join_in v h p s)) (put_in v b after frames) result) (sym host)
      (does_logged v w b p call one x after frames answer result site host k f takes same over)))

  pub ran_join : Ran w (put_in v b after frames) result
  ran_join = ran_logged v w b p call one x after frames answer result site host k f takes same over

  pub lanes_join : (lanes lanes' : ℕ → Lane) → LanesFit lanes w → JoinsOn x p s v.clock after lanes lanes' answer → LanesFit lanes' (put_in v b after frames)
  lanes_join lanes lanes' fit on = lanes_logged v w b p call one x after frames answer result site host k f takes same over lanes lanes' fit on

  pub calls_join : StandsRead → (lanes lanes' : ℕ → Lane) → LanesFit lanes w → JoinsOn x p s v.clock after lanes lanes' answer → GoesOnBoth (lanes_at lanes (log_lane p)) (lanes_at lanes' (log_lane p)) → CallsLanes w.topo lanes lanes'
  calls_join read lanes lanes' fit on goes = calls_logged v w b p call one x after frames answer result site host k f takes same over read lanes lanes' fit on goes

  -- It is answered `Reopen` exactly where it would append to a broken log, and then nothing has changed
  pub reopens_join : IsErrOf result fault.Reopen ↔ IsBarredJoin w p s
  reopens_join =
      subst (λ (u : WorldView). IsErrOf result fault.Reopen ↔ IsBarredJoin u p s) site.same
      (reopens_logged v w b p call one x after frames answer result site host k f takes)

  pub unchanged_join : IsErrOf result fault.Reopen → put_in v b after frames ≡ w
  unchanged_join h = unchanged_logged v w b p call one x after frames answer result site host k f takes h

  -- where the disk fails it, that log is broken and all else stands
  pub failed_join : IsErrOf result fault.Disk → put_in v b after frames ≡ broken_in w (host_of w.topo p) p
  failed_join h = failed_logged v w b p call one x after frames answer result site host k f takes h
