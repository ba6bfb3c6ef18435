-- A broker's call within a step, in the words of a world: what is left is a world still, and the machine's
use Rattle.std.proofs.Common.{◌≡◌, ◌⊎◌, inl, inr, ℕ, ◌<◌, ◌≤◌, true, false, List, length, map, get_or, set, Some, None, Result, Ok, Err, OnOk, sym, ap, ap₂, ◌∙◌, subst}
use Rattle.std.specs.List.{AllByRecursion}
use Rattle.std.proofs.lemmas.Bool.{cases_lt, true≢false}
use Rattle.std.proofs.lemmas.List.{get_or_past, get_or_default, set-get_or}
use Rattle.gr_frame.specs.Bytes.{frame_bytes}
use Rattle.gr_frame.specs.Cut.{AreFrames}
use Rattle.gr_out.specs.Lane.{Lane}
use Rattle.gr_publog.specs.Views.{LogView, lanes_at}
use Rattle.gr_model.specs.declared.report.Report.{Report}
use Rattle.gr_model.specs.Tree.{IsNet}
use Rattle.gr_model.specs.Broker.{Outcome as MachineOutcome}
use Rattle.gr_model.specs.World.{absorbed}
use Rattle.gr_model_calls.specs.Edges.{GoesOverEdge}
use Rattle.gr_broker.specs.Lanes.{log_lane, either_stopped}
use Rattle.gr_broker.specs.Seen.{BrokerView, log_in, log_said, is_broken}
use Rattle.gr_broker.specs.Of.{IsBrokerOf, LogsStand}
use Rattle.gr_world.specs.declared.fault.WorldFault.{WorldFault}
use Rattle.gr_world.specs.declared.fault.WorldFault.TheVariants as fault
use Rattle.gr_world.specs.Seen.{WorldView, no_broker, broker_in, log_at, world_of, net_in}
use Rattle.gr_world.specs.Of.{IsWorld, LanesFit}
use Rattle.gr_world.specs.Steps.{Does, IsCarried}
use Rattle.gr_world.specs.Disk.{NotDisk}
use Rattle.gr_world.specs.Ran.{IsOpen, Ran}
use Rattle.gr_world.specs.Taking.{TakesUp, put_in}
use Rattle.gr_world.proofs.Absorbing.{Touches, does_absorb}
use Rattle.gr_world.proofs.Lanes.{never_stopped}
use Rattle.gr_world.proofs.Fitting.{sends_of, world_fits, keeps, stays_sound, sound_here, at_host, broken_here, logs_closed, logs_whole}

-- What a call has done, in the words of a world: the broker for which it was made, the machine's outcome, and the answer
pub record Called (w : WorldView) (b p : ℕ) (o : MachineOutcome) (after : BrokerView) (frames : List (List ℕ)) (result : Result (List Report) WorldFault) : Type 0 where
  pub takes : TakesUp o w.frames frames result
  pub view : OnOk result (after.views ≡ set (broker_in w b).views p o.view)
  pub log : OnOk result (log_said (log_at (put_in w b after frames) p) ≡ o.log)
  pub spelled : OnOk result (AreFrames (map frame_bytes o.frames) o.frames)
  pub over : AllByRecursion (GoesOverEdge (net_in w)) o.frames
  pub touches : Touches p (broker_in w b) after
  pub fits : IsBrokerOf w.topo after
  pub carried : IsCarried result
  pub whole : NotDisk result → is_broken (log_in (broker_in w b) p) ≡ false → is_broken (log_in after p) ≡ false
  pub closed : is_broken (log_in (broker_in w b) p) ≡ true → log_in after p ≡ log_in (broker_in w b) p
  pub reopen : result ≡ Err fault.Reopen → is_broken (log_in (broker_in w b) p) ≡ true

module _ (w : WorldView) (b p : ℕ) (o : MachineOutcome) (after : BrokerView) (frames : List (List ℕ)) (result : Result (List Report) WorldFault) (i : IsWorld w) (lt : b < length w.topo.brokers) (below : p < length w.topo.publishers) where
  within : b < length w.brokers
  within = subst (λ n. b < n) (sym i.count) lt

  -- it does what the machine does where the outcome is absorbed
  pub called_does : Called w b p o after frames result → Does (absorbed (world_of w) b p o) (put_in w b after frames) result
  called_does c = does_absorb w b p after frames within o result c.takes c.view (on_any _ _ result c.log) c.touches c.spelled
    where
      on_any : (X Y : Type 0) (r : Result (List Report) WorldFault) → OnOk r X → OnOk r (Y → X)
      on_any X Y (Ok ls) x = λ y. x
      on_any X Y (Err e) x = tt

  -- and leaves a world
  pub called_ran : Called w b p o after frames result → Ran w (put_in w b after frames) result
  called_ran c =
      let s = sends_of w.topo o w.frames frames result c.takes c.spelled c.over in
      record {
        fits = world_fits w b p after frames i lt c.fits c.touches s;
        keeps = keeps w b p after frames i lt s;
        carried = c.carried;
        sound = record {
          sound = λ sound n. stays_sound w b p after frames i lt below c.touches (c.whole n) sound;
          opened = λ sound e. true≢false (sym (c.reopen e) ∙ sound_here w b p i sound lt below);
        };
        closed = λ q j. logs_closed w b p after frames i lt c.touches c.closed q;
        whole = λ n q j. logs_whole w b p after frames i lt c.touches (c.whole n) q;
        reopen = λ e. broken_here w b p i lt below (c.reopen e);
      }

-- Before a call

-- the broker that is read from the list is the one of its number
pub broker_read : (w : WorldView) (b : ℕ) (x : BrokerView) → IsWorld w → b < length w.topo.brokers → x ≡ get_or w.brokers b x → x ≡ broker_in w b
broker_read w b x i lt e = e ∙ get_or_default w.brokers b x no_broker (subst (λ n. b < n) (sym i.count) lt)

-- a log that a broker has is that of a publisher of the topology
pub log_below : (w : WorldView) (b q : ℕ) (l : LogView) → IsWorld w → b < length w.topo.brokers → log_in (broker_in w b) q ≡ Some l → q < length w.topo.publishers
log_below w b q l i lt e = go (cases_lt q (length (broker_in w b).logs))
  where
    none_some : None ≡ Some l → ⊥
    none_some h = cc

    go : (q < length (broker_in w b).logs) ⊎ (length (broker_in w b).logs ≤ q) → q < length w.topo.publishers
    go (inl below) = subst (λ n. q < n) (i.brokers b lt).logs below
    go (inr past) = absurd (none_some (sym (get_or_past (broker_in w b).logs q None past) ∙ e))

-- the lanes under the logs of an open world stand as a broker's call needs them
pub logs_stand : (w : WorldView) (b : ℕ) (lanes : ℕ → Lane) → IsWorld w → IsOpen w → LanesFit lanes w → b < length w.topo.brokers → LogsStand lanes (broker_in w b)
logs_stand w b lanes i is_open f lt q l e =
    let below = log_below w b q l i lt e in
    (f.logs is_open.unspent q l below (λ d. none_some (sym is_open.up ∙ d)) (at_host w b q l i lt below e)).ready
  where
    none_some : {x : ℕ} → None ≡ Some x → ⊥
    none_some h = cc

-- the same of the broker that is read, where the world is seen by its parts
pub read_fits : (v w : WorldView) (b : ℕ) (x : BrokerView) → v ≡ w → IsWorld w → b < length v.topo.brokers → x ≡ get_or v.brokers b x → IsBrokerOf v.topo x
read_fits v w b x same i lt e = let j = subst IsWorld (sym same) i in subst (IsBrokerOf v.topo) (sym (broker_read v b x j lt e)) (j.brokers b lt)

pub read_stands : (v w : WorldView) (b : ℕ) (x : BrokerView) (lanes : ℕ → Lane) → v ≡ w → IsWorld w → IsOpen w → LanesFit lanes w → b < length v.topo.brokers → x ≡ get_or v.brokers b x → LogsStand lanes x
read_stands v w b x lanes same i is_open f lt e =
    let j = subst IsWorld (sym same) i in
    subst (LogsStand lanes) (sym (broker_read v b x j lt e)) (logs_stand v b lanes j (subst IsOpen (sym same) is_open) (subst (LanesFit lanes) (sym same) f) lt)

-- a broker that is seen as before leaves the world as it was
pub put_back : (v w : WorldView) (b : ℕ) (x y : BrokerView) (frames : List (List ℕ)) → v ≡ w → x ≡ get_or v.brokers b x → y ≡ x → frames ≡ v.frames → put_in v b y frames ≡ w
put_back v w b x y frames same read e f =
    ap₂ with_lists (ap (λ (z : BrokerView). set v.brokers b z) (e ∙ read) ∙ set-get_or v.brokers b x) f ∙ same
  where
    with_lists : List BrokerView → List (List ℕ) → WorldView
    with_lists bs fs = record { topo = v.topo; brokers = bs; frames = fs; clock = v.clock; most = v.most; told = v.told; down = v.down; spent = v.spent }

-- A call in code: the world is seen by its parts, and the broker at a number is read
pub record Site (v w : WorldView) (b p : ℕ) (x : BrokerView) : Type 0 where
  pub same : v ≡ w
  pub fits : IsWorld w
  pub is_open : IsOpen w
  pub publisher : p < length w.topo.publishers
  pub broker : b < length v.topo.brokers
  pub read : x ≡ get_or v.brokers b x

module _ (v w : WorldView) (b p : ℕ) (x : BrokerView) (s : Site v w b p x) where
  pub site_fits : IsWorld v
  site_fits = subst IsWorld (sym s.same) s.fits

  pub site_publisher : p < length v.topo.publishers
  site_publisher = subst (λ (u : WorldView). p < length u.topo.publishers) (sym s.same) s.publisher

  pub site_read : x ≡ broker_in v b
  site_read = broker_read v b x site_fits s.broker s.read

  -- what the call leaves
  pub site_ran : (o : MachineOutcome) (after : BrokerView) (frames : List (List ℕ)) (result : Result (List Report) WorldFault) → Called v b p o after frames result → Ran w (put_in v b after frames) result
  site_ran o after frames result c =
      subst (λ (u : WorldView). Ran u (put_in v b after frames) result) s.same (called_ran v b p o after frames result site_fits s.broker site_publisher c)

  -- where the lanes fit what it leaves, no stop has broken a call on those of the publisher
  pub site_unstopped : (after : BrokerView) (frames : List (List ℕ)) (result : Result (List Report) WorldFault) (lanes : ℕ → Lane) → IsNet (net_in v) → Ran w (put_in v b after frames) result → LanesFit lanes (put_in v b after frames)
      → either_stopped (lanes_at lanes (log_lane p)) ≡ true → ⊥
  site_unstopped after frames result lanes n ran fit =
      let o : IsOpen v = subst IsOpen (sym s.same) s.is_open in
      never_stopped (put_in v b after frames) lanes p ran.fits (record { up = o.up; unspent = o.unspent }) fit site_publisher (n.host_in p site_publisher)
