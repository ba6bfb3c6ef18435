-- A publish within a step is the machine's at the publisher's host
use Rattle.std.proofs.Common.{◌≡◌, ℕ, ◌<◌, true, List, length, Result, refl, sym, ap, ◌∙◌, subst}
use Rattle.std.specs.Prelude.{◌↔◌, IfOk, IsErrOf}
use Rattle.std.specs.List.{AllByRecursion}
use Rattle.gr_event.specs.declared.event.Event.{Event}
use Rattle.gr_out.specs.Lane.{Lane}
use Rattle.gr_publog.specs.Views.{lanes_at, StandsRead}
use Rattle.gr_topo.specs.Topology.{TopologyView, host_of}
use Rattle.gr_model.specs.declared.report.Report.{Report}
use Rattle.gr_model.specs.Net.{all_late}
use Rattle.gr_model.specs.Tree.{IsNet}
use Rattle.gr_model.specs.Broker.{View, Log, Outcome as MachineOutcome, seen, publish}
use Rattle.gr_model.specs.World.{World, view_of, log_of, absorbed, publish_now, publish_now_by}
use Rattle.gr_model_calls.specs.Edges.{GoesOverEdge}
use Rattle.gr_model_calls.proofs.topology.Strays.{publish_on}
use Rattle.gr_broker_relay.specs.declared.outcome.Outcome.{Outcome}
use Rattle.gr_broker_relay.specs.Told.{Tells}
use Rattle.gr_broker.specs.Lanes.{log_lane, GoesOnBoth}
use Rattle.gr_broker.specs.declared.outcome.BrokerFault.{BrokerFault}
use Rattle.gr_broker.specs.Seen.{BrokerView, view_in, log_in, log_said, machine_log}
use Rattle.gr_broker.specs.Hosted.{publish_at, publish_logs_at}
use Rattle.gr_world.specs.declared.fault.WorldFault.{WorldFault}
use Rattle.gr_world.specs.declared.fault.WorldFault.TheVariants as fault
use Rattle.gr_world.specs.Seen.{WorldView, broker_in, world_of, net_in}
use Rattle.gr_world.specs.Of.{IsWorld, LanesFit}
use Rattle.gr_world.specs.Steps.{Does}
use Rattle.gr_world.specs.Disk.{IsBarred}
use Rattle.gr_world.specs.Ran.{Ran}
use Rattle.gr_world.specs.Moments.{CallsLanes}
use Rattle.gr_world.specs.Stopped.{broken_in}
use Rattle.gr_world.specs.Taking.{Follows, TakesUp, put_in}
use Rattle.gr_report.proofs.Named.{all_of}
use Rattle.gr_report.proofs.Passing.{seen_edges}
use Rattle.gr_world.proofs.Absorbing.{view_is, log_is}
use Rattle.gr_world.proofs.Lanes.{LaneMoves}
use Rattle.gr_world.proofs.Called.{Called, Site, site_fits, site_publisher}
use Rattle.gr_world.proofs.Logged.{Call, Logs, LogsOn, logs_called, does_logged, ran_logged, lanes_logged, calls_logged, reopens_logged, unchanged_logged, failed_logged}
use Rattle.gr_world.proofs.Logged as logged

-- The call

abbrev pub publishing : TopologyView → ℕ → ℕ → ℕ → Event → Call
publishing t p now number e = record { does = λ x. publish_at t x p now number e; logs = λ x. publish_logs_at x p now number e }

-- what the broker's call gives, and does to the lanes
abbrev pub Publishes : TopologyView → BrokerView → ℕ → ℕ → ℕ → Event → BrokerView → Result Outcome BrokerFault → Type 0
Publishes t x p now number e after answer = Logs t (publishing t p now number e) x p after answer

abbrev pub PublishesOn : BrokerView → ℕ → ℕ → ℕ → Event → BrokerView → (ℕ → Lane) → (ℕ → Lane) → Result Outcome BrokerFault → Type 0
PublishesOn x p now number e after lanes lanes' answer = LogsOn (λ y. publish_logs_at y p now number e) x p after lanes lanes' answer

-- the machine's outcome of a publish at a broker
abbrev pub publish_in : WorldView → ℕ → ℕ → ℕ → Event → MachineOutcome
publish_in w b p number e =
    let m : World = world_of w in
    let v : View = view_of m b p in
    publish (seen (net_in w) v) p b w.clock number e v (log_of m p)

-- the machine's publish is that at the host
publish_is : (w : WorldView) (p number : ℕ) (e : Event) → publish_now (net_in w) (world_of w) p number e ≡ absorbed (world_of w) (host_of w.topo p) p (publish_in w (host_of w.topo p) p number e)
unfolding publish_now_by
publish_is w p number e = refl

module _ (w : WorldView) (b p number : ℕ) (e : Event) (i : IsWorld w) (lt : b < length w.topo.brokers) (below : p < length w.topo.publishers) (at : host_of w.topo p ≡ b) where
  abbrev broker : BrokerView
  broker = broker_in w b

  within : b < length w.brokers
  within = subst (λ n. b < n) (sym i.count) lt

  -- it is the broker's own
  pub publish_same : publish_at w.topo broker p w.clock number e ≡ publish_in w b p number e
  publish_same =
      let kept : View = view_in broker p in
      ap (λ n. publish (seen (net_in w) kept) p n w.clock number e kept (machine_log broker p)) (i.numbered b lt)
      ∙ (ap (λ (l : Log). publish (seen (net_in w) kept) p b w.clock number e kept l) (sym (log_is w p below ∙ ap (λ c. log_said (log_in (broker_in w c) p)) at))
      ∙ ap (λ (v : View). publish (seen (net_in w) v) p b w.clock number e v (log_of (world_of w) p)) (sym (view_is w b p within)))

  -- what it sends goes over edges
  pub publish_over : IsNet (net_in w) → AllByRecursion (GoesOverEdge (net_in w)) (publish_in w b p number e).frames
  publish_over n =
      let v : View = view_of (world_of w) b p in
      all_of (GoesOverEdge (net_in w)) _ (publish_on (seen (net_in w) v) p b w.clock number (GoesOverEdge (net_in w)) e v _ (seen_edges (net_in w) v p b n below lt late))
    where
      late : all_late (net_in w) (view_of (world_of w) b p).joins ≡ true
      late = subst (λ (v : View). all_late (net_in w) v.joins ≡ true) (sym (view_is w b p within)) ((i.brokers b lt).kept p below).joins

  -- a publish that is answered and taken up has done what a call does
  pub publish_called : (after : BrokerView) (frames : List (List ℕ)) (answer : Result Outcome BrokerFault) (result : Result (List Report) WorldFault) → IsNet (net_in w)
      → Publishes w.topo broker p w.clock number e after answer → Follows answer result → ((o : MachineOutcome) → IfOk answer (Tells o) → TakesUp o w.frames frames result)
      → Called w b p (publish_in w b p number e) after frames result
  publish_called after frames answer result n k f takes =
      logs_called w b p (publishing w.topo p w.clock number e) (publish_in w b p number e) i lt below at after frames answer result publish_same (publish_over n) k f takes

  pub moves : (after : BrokerView) (lanes lanes' : ℕ → Lane) (answer : Result Outcome BrokerFault) → Publishes w.topo broker p w.clock number e after answer → PublishesOn broker p w.clock number e after lanes lanes' answer
      → LaneMoves w.topo.late (lanes_at lanes (log_lane p)) (lanes_at lanes' (log_lane p))
  moves after lanes lanes' answer k on = logged.moves w b p (publishing w.topo p w.clock number e) (publish_in w b p number e) i lt below at after lanes lanes' answer k on

-- The call in code, where the world is seen by its parts and the host is read from the topology

module _ (v w : WorldView) (b p number : ℕ) (e : Event) (x after : BrokerView) (frames : List (List ℕ)) (answer : Result Outcome BrokerFault) (result : Result (List Report) WorldFault) (s : Site v w b p x) (host : host_of v.topo p ≡ b) (n : IsNet (net_in v)) (k : Publishes v.topo x p v.clock number e after answer) (f : Follows answer result) (takes : (o : MachineOutcome) → IfOk answer (Tells o) → TakesUp o v.frames frames result) where
  abbrev call : Call
  call = publishing v.topo p v.clock number e

  abbrev one : MachineOutcome
  one = publish_in v b p number e

  same : publish_at v.topo (broker_in v b) p v.clock number e ≡ one
  same = publish_same v b p number e (site_fits v w b p x s) s.broker (site_publisher v w b p x s) host

  over : AllByRecursion (GoesOverEdge (net_in v)) one.frames
  over = publish_over v b p number e (site_fits v w b p x s) s.broker (site_publisher v w b p x s) host n

  pub does_publish : Does (publish_now (net_in w) (world_of w) p number e) (put_in v b after frames) result
  does_publish =
      subst (λ (u : WorldView). Does (publish_now (net_in u) (world_of u) p number e) (put_in v b after frames) result) s.same
      (subst (λ t. Does t (put_in v b after frames) result) (sym (publish_is v p number e))
      (subst (λ h. Does (absorbed (world_of v) h p (publish_in v h p number e)) (put_in v b after frames) result) (sym host)
      (does_logged v w b p call one x after frames answer result s host k f takes same over)))

  pub ran_publish : Ran w (put_in v b after frames) result
  ran_publish = ran_logged v w b p call one x after frames answer result s host k f takes same over

  pub lanes_publish : (lanes lanes' : ℕ → Lane) → LanesFit lanes w → PublishesOn x p v.clock number e after lanes lanes' answer → LanesFit lanes' (put_in v b after frames)
  lanes_publish lanes lanes' fit on = lanes_logged v w b p call one x after frames answer result s host k f takes same over lanes lanes' fit on

  pub calls_publish : StandsRead → (lanes lanes' : ℕ → Lane) → LanesFit lanes w → PublishesOn x p v.clock number e after lanes lanes' answer → GoesOnBoth (lanes_at lanes (log_lane p)) (lanes_at lanes' (log_lane p)) → CallsLanes w.topo lanes lanes'
  calls_publish read lanes lanes' fit on goes = calls_logged v w b p call one x after frames answer result s host k f takes same over read lanes lanes' fit on goes

  -- It is answered `Reopen` exactly where it would append to a broken log, and then nothing has changed
  pub reopens_publish : IsErrOf result fault.Reopen ↔ IsBarred w p number e
  reopens_publish =
      subst (λ (u : WorldView). IsErrOf result fault.Reopen ↔ IsBarred u p number e) s.same
      (reopens_logged v w b p call one x after frames answer result s host k f takes)

  pub unchanged_publish : IsErrOf result fault.Reopen → put_in v b after frames ≡ w
  unchanged_publish h = unchanged_logged v w b p call one x after frames answer result s host k f takes h

  -- where the disk fails it, that log is broken and all else stands
  pub failed_publish : IsErrOf result fault.Disk → put_in v b after frames ≡ broken_in w (host_of w.topo p) p
  failed_publish h = failed_logged v w b p call one x after frames answer result s host k f takes h
