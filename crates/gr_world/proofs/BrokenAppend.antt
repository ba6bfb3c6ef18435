-- The number and the tick of the record of a publish are read off its log; and a stop that breaks its append leaves the log, or the
-- log with its record.
use Rattle.std.proofs.Common.{◌≡◌, ◌≢◌, inl, inr, ℕ, suc, ◌+◌, ◌-◌, ◌<◌, ◌≤◌, max, Bool, true, false, ◌&&◌, List, Option, Some, None, Result, Ok, Err, refl, sym, ap, ◌∙◌, subst, arith, eq-eqb}
use Rattle.std.specs.Prelude.{◌↔◌, ◌||◌, nat_eq, nat_le, nat_lt, if◌then◌else◌, IsErr, IsErrOf, IsSome, is_some, IfOk}
use Rattle.std.proofs.lemmas.Bool.{ne_eqb, le-leb, lt-leb, le-ltb, cases_eq, cases_Bool, false≢true}
use Rattle.gr_event.specs.declared.event.Event.{Event}
use Rattle.gr_out.specs.declared.disk.Stop.{Stop as LaneStop}
use Rattle.gr_out.specs.declared.disk.Stop.TheVariants.{Unset, After}
use Rattle.gr_out.specs.Lane.{Lane, has_stopped, with_stop, stop_at, crash_image, MayLeave}
use Rattle.gr_out.proofs.Images.{image_left}
use Rattle.gr_publog.specs.declared.record.Record.{Record}
use Rattle.gr_publog.specs.declared.record.Record.TheVariants as entry
use Rattle.gr_publog.specs.Lanes.{lanes_text}
use Rattle.gr_publog.specs.Crash.{Broke, is_kept}
use Rattle.gr_publog.specs.Views.{LogView, Lanes, lanes_at, appended, present, other, AwayFrom, found_of, FoundAs, StandsRead, IsReady}
use Rattle.gr_publog.specs.Calls.{Appends, FoundInTurn}
use Rattle.gr_publog.proofs.Passing.{SameCalls, stands_with}
use Rattle.gr_pubend.specs.Log.{Log}
use Rattle.gr_pubend.specs.Answers.{published, event_of}
use Rattle.gr_topo.specs.Topology.{host_of}
use Rattle.gr_model.specs.declared.report.Report.{Report}
use Rattle.gr_model.specs.Tree.{IsNet}
use Rattle.gr_model.specs.Broker.{Outcome as MachineOutcome, max_tick}
use Rattle.gr_broker_relay.specs.declared.outcome.Outcome.{Outcome}
use Rattle.gr_broker_relay.specs.Told.{Tells}
use Rattle.gr_broker.specs.declared.outcome.BrokerFault.{BrokerFault}
use Rattle.gr_broker.specs.declared.outcome.BrokerFault.TheVariants as refused
use Rattle.gr_broker.specs.Lanes.{log_lane, GoesOnBoth, either_stopped, AreUnset}
use Rattle.gr_broker.specs.Seen.{BrokerView, log_in, log_said, is_broken}
use Rattle.gr_broker.specs.Of.{LogsStand}
use Rattle.gr_broker.specs.Told.{log_answer}
use Rattle.gr_broker.specs.Hosted.{publish_logs_at, AppendsAt}
use Rattle.gr_world.specs.declared.fault.WorldFault.{WorldFault}
use Rattle.gr_world.specs.declared.fault.WorldFault.TheVariants as fault
use Rattle.gr_world.specs.Lanes.{AreReserved, with_stops}
use Rattle.gr_world.specs.Seen.{WorldView, broker_in, log_at, net_in}
use Rattle.gr_world.specs.Of.{LaneFits, IsReadable, LanesFit}
use Rattle.gr_world.specs.Disk.{IsBarred}
use Rattle.gr_world.specs.Ran.{IsOpen, Ran}
use Rattle.gr_world.specs.Moments.{IsCall, CallsLanes}
use Rattle.gr_world.specs.Taking.{Follows, TakesUp, put_in}
use Rattle.gr_world.specs.Stopped.{tick_in, is_broken_by, stopped_log, IsStoppedAt}
use Rattle.gr_world.proofs.Lanes.{LaneMoves, of_both, other_lanes, lanes_fit}
use Rattle.gr_world.proofs.Called.{Called, Site, site_read, site_fits, site_publisher}
use Rattle.gr_world.proofs.ByCalls.{SameBoth, same_stops, call_with, appends_call, lanes_of_one}
use Rattle.gr_world.proofs.Logged.{still_lanes}
use Rattle.gr_world.proofs.Published.{publishing, Publishes, PublishesOn, publish_in, publish_called, ran_publish, reopens_publish, moves}
use Rattle.gr_world.proofs.StoppedOver.{next_at}

-- The tick

module _ (log : Log) (number now : ℕ) where
  -- another number than the next one is not logged
  pub no_tick_out_of_turn : number ≢ suc log.last → tick_in log number now ≡ None
  no_tick_out_of_turn ne = rw (ne_eqb number (suc log.last) ne) refl

  -- nor is one past the last tick
  pub no_tick_left : max_tick < max (suc log.settled) now → tick_in log number now ≡ None
  no_tick_left past =
      let late = lt-leb (max (suc log.settled) now) max_tick past in
      go (nat_eq number (suc log.last)) (nat_le (max (suc log.settled) now) max_tick) late
    where
      go : (a b : Bool) → b ≡ false → (if a && b then Some (max (suc log.settled) now) else None) ≡ None
      go true b e = rw e refl
      go false b e = refl

  -- all else is, at its tick
  pub tick_is : (tick : ℕ) → number ≡ suc log.last → tick ≡ max now (log.settled + 1) → tick ≤ max_tick → tick_in log number now ≡ Some tick
  tick_is tick next is upto =
      let m : max (suc log.settled) now ≡ tick = omega (arith, is) in
      let a = eq-eqb number (suc log.last) next in
      let b = le-leb (max (suc log.settled) now) max_tick (omega (arith, m, upto)) in
      (rw (a, b) refl) ∙ ap (λ (t : ℕ). Some t) m

-- so it is the record that the publish logs
pub logs_tick : (log : Log) (number now tick : ℕ) (e : Event) → tick_in log number now ≡ Some tick → event_of (published log number e now) number e ≡ Some (entry.Event tick number e)
unfolding published
logs_tick log number now tick e some =
    let x = next_at log number now tick some in
    let at : ℕ = max (suc log.settled) now in
    let a : nat_le number log.last ≡ false = lt-leb number log.last (omega (arith, x.number_is)) in
    let b : nat_lt (suc log.last) number ≡ false = le-ltb (suc log.last) number (omega (arith, x.number_is)) in
    let c : nat_lt max_tick at ≡ false = le-ltb max_tick at (omega (arith, x.tick_is, x.upto)) in
    (rw (published, a, b, c) refl) ∙ ap (λ (t : ℕ). Some (entry.Event t number e)) x.tick_is

-- a stop that broke a publish
pub broken_by : {T : Type 0} (answer : Result T BrokerFault) (stopped : Bool) → is_broken_by answer stopped ≡ true
    → (answer ≡ Err refused.Disk) × (stopped ≡ true)
broken_by (Err refused.Disk) stopped h = (refl, h)
broken_by (Err refused.Memory) stopped h = absurd (cc h)
broken_by (Err (refused.Damaged p at)) stopped h = absurd (cc h)
broken_by (Err refused.Reopen) stopped h = absurd (cc h)
broken_by (Ok x) stopped h = absurd (cc h)

-- what was taken up was no fault
pub took_none : (answer : Result Outcome BrokerFault) (result : Result (List Report) WorldFault) (lines : List Report) → Follows answer result → result ≡ Ok lines → IsErr (log_answer answer) → ⊥
took_none (Ok told) result lines f is h = false≢true h
took_none (Err x) result lines f is h = cc (f, is)

-- A stop is ordered, or ended

-- lanes with another stop made no call in between
same_calls : (stop : LaneStop) (lane : Lane) → SameCalls lane (with_stop stop lane)
same_calls stop lane = record { start = refl; calls = refl }

ready_with : (l : LogView) (stop : LaneStop) (ls : Lanes) → IsReady l ls → IsReady l (with_stops stop ls)
ready_with l stop ls ready whole = stands_with l ls (with_stops stop ls) (same_calls stop ls.first) (same_calls stop ls.second) (ready whole)

-- the lanes stand as before
pub stand_with : (x : BrokerView) (p : ℕ) (stop : LaneStop) (lanes lanes' : ℕ → Lane) → lanes_at lanes' (log_lane p) ≡ with_stops stop (lanes_at lanes (log_lane p)) → ((n : ℕ) → AwayFrom (log_lane p) n → lanes' n ≡ lanes n)
    → LogsStand lanes x → LogsStand lanes' x
stand_with x p stop lanes lanes' at others stands q l e = elim (cases_eq q p) [
  | inl s ↦ subst (λ k. IsReady l (lanes_at lanes' (log_lane k))) (sym s) (subst (IsReady l) (sym at) (ready_with l stop (lanes_at lanes (log_lane p)) (subst (λ k. IsReady l (lanes_at lanes (log_lane k))) s (stands q l e))))
  | inr n ↦ subst (IsReady l) (sym (other_lanes lanes lanes' p q others n)) (stands q l e)
]

readable_with : (late : List ℕ) (stop : LaneStop) (ls : Lanes) → IsReadable late ls → IsReadable late (with_stops stop ls)
readable_with late stop ls r a b left = r a b left

reserved_with : (stop : LaneStop) (ls : Lanes) → AreReserved ls → AreReserved (with_stops stop ls)
reserved_with stop ls r = record { first = r.first; second = r.second }

-- a call between a stop that is ordered and its end is one without
ended_moves : (late : List ℕ) (before mid left ended : Lanes) (stop : LaneStop) → mid ≡ with_stops stop before → LaneMoves late mid left → ended ≡ with_stops Unset left → LaneMoves late before ended
ended_moves late before mid left ended stop ordered m is = record {
  reserved = λ r. subst AreReserved (sym is) (reserved_with Unset left (m.reserved (subst AreReserved (sym ordered) (reserved_with stop before r))));
  unset = λ u. subst AreUnset (sym is) (record { first = refl; second = refl });
  readable = λ r. subst (IsReadable late) (sym is) (readable_with late Unset left (m.readable (subst (IsReadable late) (sym ordered) (readable_with late stop before r))));
}

-- Of lanes on which a stop was ordered and one of which is called, the stop has broken a call on that one
called_stopped : (l : LogView) (before after : Lanes) (call pick : ℕ) → before.first.stop ≡ After call pick → before.second.stop ≡ After call pick → other l after ≡ other l before → either_stopped after ≡ true
    → Broke (present l before) (present l after) call pick
called_stopped l before after call pick one two aside stopped = go l.second aside
  where
    none_or : (x y : Bool) → (x || y) ≡ true → x ≡ false → y ≡ true
    none_or true y h e = absurd (false≢true (sym e))
    none_or false y h e = h

    or_none : (x y : Bool) → (x || y) ≡ true → y ≡ false → x ≡ true
    or_none true y h e = refl
    or_none false y h e = absurd (false≢true (sym e ∙ h))

    not_yet : (lane lane' : Lane) → lane' ≡ lane → lane.stop ≡ After call pick → has_stopped lane'.stop ≡ false
    not_yet lane lane' same ordered = ap (λ (x : Lane). has_stopped x.stop) same ∙ ap has_stopped ordered

    go : (b : Bool) → (if b then after.first else after.second) ≡ (if b then before.first else before.second) → Broke (if b then before.second else before.first) (if b then after.second else after.first) call pick
    go false same = record { ordered = one; stopped = or_none (has_stopped after.first.stop) (has_stopped after.second.stop) stopped (not_yet before.second after.second same two) }
    go true same = record { ordered = two; stopped = none_or (has_stopped after.first.stop) (has_stopped after.second.stop) stopped (not_yet before.first after.first same one) }

-- The publish while a stop is ordered, in the words of a world

module _ (v w : WorldView) (b p number : ℕ) (e : Event) (x after : BrokerView) (answer : Result Outcome BrokerFault) (s : Site v w b p x) (host : host_of v.topo p ≡ b) (n : IsNet (net_in v)) (k : Publishes v.topo x p v.clock number e after answer) where
  -- where it fails the disk, all is as before but for the log
  pub stopped_ran : answer ≡ Err refused.Disk → Ran w (put_in v b after v.frames) (Err fault.Disk)
  stopped_ran is =
      ran_publish v w b p number e x after v.frames answer (Err fault.Disk) s host n k (subst (λ (a : Result Outcome BrokerFault). Follows a (Err fault.Disk)) (sym is) refl)
      (λ o t. record { lines = tt; frames = tt; kept = refl })

  -- and it was not answered that the log is to be opened again, so it was not barred
  pub stopped_reopens : answer ≡ Err refused.Disk → (let r : Result (List Report) WorldFault = Err fault.Disk in IsErrOf r fault.Reopen ↔ IsBarred w p number e)
  stopped_reopens is =
      reopens_publish v w b p number e x after v.frames answer (Err fault.Disk) s host n k (subst (λ (a : Result Outcome BrokerFault). Follows a (Err fault.Disk)) (sym is) refl)
      (λ o t. record { lines = tt; frames = tt; kept = refl })

  there : log_at w p ≡ log_in x p
  there = ap (λ (u : WorldView). log_at u p) (sym s.same) ∙ (ap (λ c. log_in (broker_in v c) p) host ∙ ap (λ (y : BrokerView). log_in y p) (sym (site_read v w b p x s)))

  -- the subscribers that may join in it are those of the topology
  late_is : (l : LogView) → log_at w p ≡ Some l → l.state.late ≡ w.topo.late
  late_is l h =
      let fits = (let i = site_fits v w b p x s in i.brokers b s.broker) in
      fits.late p l (ap (λ (y : BrokerView). log_in y p) (sym (site_read v w b p x s)) ∙ (sym there ∙ h)) ∙ ap (λ (u : WorldView). u.topo.late) s.same

  -- its record
  logs_is : (tick : ℕ) → tick_in (log_said (log_at w p)) number w.clock ≡ Some tick → publish_logs_at x p v.clock number e ≡ Some (entry.Event tick number e)
  logs_is tick some =
      logs_tick (log_said (log_in x p)) number v.clock tick e
      (ap (λ (o : Option LogView). tick_in (log_said o) number v.clock) (sym there) ∙ (ap (λ (u : WorldView). tick_in (log_said (log_at w p)) number u.clock) s.same ∙ some))

  abbrev Logs : Option LogView → (ℕ → Lane) → (ℕ → Lane) → Type 0
  Logs o lanes lanes' = elim o [ Some l ↦ Appends l (publish_logs_at x p v.clock number e) (lanes_at lanes (log_lane p)) (lanes_at lanes' (log_lane p)) (log_answer answer) | None ↦ Unit {0} ]

  appends_there : (lanes lanes' : ℕ → Lane) (l : LogView) → log_at w p ≡ Some l → AppendsAt x p (publish_logs_at x p v.clock number e) lanes lanes' (log_answer answer)
      → Appends l (publish_logs_at x p v.clock number e) (lanes_at lanes (log_lane p)) (lanes_at lanes' (log_lane p)) (log_answer answer)
  appends_there lanes lanes' l h a = subst (λ (o : Option LogView). Logs o lanes lanes') (sym there ∙ h) a

  some_stop : (call pick : ℕ) → 1 ≤ call → stop_at call pick ≡ After call pick
  some_stop call pick first = rw (ne_eqb call 0 (λ z. absurd (omega arith))) refl

  ordered_first : (call pick : ℕ) (before mid : Lanes) → 1 ≤ call → mid ≡ with_stops (stop_at call pick) before → mid.first.stop ≡ After call pick
  ordered_first call pick before mid first ordered = ap (λ (y : Lanes). y.first.stop) ordered ∙ some_stop call pick first

  ordered_second : (call pick : ℕ) (before mid : Lanes) → 1 ≤ call → mid ≡ with_stops (stop_at call pick) before → mid.second.stop ≡ After call pick
  ordered_second call pick before mid first ordered = ap (λ (y : Lanes). y.second.stop) ordered ∙ some_stop call pick first

  -- a log that the disk had failed before is not called
  whole : (l : LogView) (tick : ℕ) → log_at w p ≡ Some l → answer ≡ Err refused.Disk → tick_in (log_said (log_at w p)) number w.clock ≡ Some tick → l.broken ≡ false
  whole l tick h failed some = elim (cases_Bool l.broken) [
    | inl broken ↦ absurd (two_faults (sym failed ∙ k.reopen.1 (ap is_broken (sym there ∙ h) ∙ broken, ap is_some (logs_is tick some))))
    | inr e ↦ e
  ]
    where
      two_faults : ◌≡◌ {A = Result Outcome BrokerFault} (Err refused.Disk) (Err refused.Reopen) → ⊥
      two_faults e = cc

  moved : (mid left : ℕ → Lane) → PublishesOn x p v.clock number e after mid left answer → LaneMoves v.topo.late (lanes_at mid (log_lane p)) (lanes_at left (log_lane p))
  moved mid left on =
      let i = site_fits v w b p x s in
      let below = site_publisher v w b p x s in
      let read = site_read v w b p x s in
      moves v b p number e i s.broker below host after mid left answer (subst (λ (z : BrokerView). Publishes v.topo z p v.clock number e after answer) read k)
      (subst (λ (z : BrokerView). PublishesOn z p v.clock number e after mid left answer) read on)

  -- the stop lets no event through
  pub not_through : (before mid left : ℕ → Lane) (call pick : ℕ) (l : LogView) → log_at w p ≡ Some l → lanes_at mid (log_lane p) ≡ with_stops (stop_at call pick) (lanes_at before (log_lane p)) → 1 ≤ call → call ≤ 4
      → IsSome (tick_in (log_said (log_at w p)) number w.clock) → PublishesOn x p v.clock number e after mid left answer → IsErr (log_answer answer)
  not_through before mid left call pick l h ordered first last next on = go (tick_in (log_said (log_at w p)) number w.clock) refl next
    where
      old : Lanes
      old = lanes_at before (log_lane p)

      set : Lanes
      set = lanes_at mid (log_lane p)

      go : (o : Option ℕ) → tick_in (log_said (log_at w p)) number w.clock ≡ o → IsSome o → IsErr (log_answer answer)
      go None some is = absurd (false≢true is)
      go (Some tick) some is =
          let a = appends_there mid left l h on.lane in
          let stops = of_both (λ (y : Lane). y.stop ≡ After call pick) l set (ordered_first call pick old set first ordered) (ordered_second call pick old set first ordered) in
          a.breaks (ap is_some (logs_is tick some)) call pick stops.0 last

  -- where it broke the append, the call and the pick tell what it left
  pub stopped_at : (before mid left : ℕ → Lane) (call pick tick : ℕ) → lanes_at mid (log_lane p) ≡ with_stops (stop_at call pick) (lanes_at before (log_lane p)) → 1 ≤ call → IsReadable w.topo.late (lanes_at before (log_lane p))
      → answer ≡ Err refused.Disk → either_stopped (lanes_at left (log_lane p)) ≡ true → tick_in (log_said (log_at w p)) number w.clock ≡ Some tick → PublishesOn x p v.clock number e after mid left answer
      → IsStoppedAt w p tick number e call pick (lanes_at left (log_lane p))
  stopped_at before mid left call pick tick ordered first readable failed stopped some on = record {
    images = λ l h.
        let a = subst (λ (r : Option Record). Appends l r set now (log_answer answer)) (logs_is tick some) (appends_there mid left l h on.lane) in
        let broke = called_stopped l set now call pick (ordered_first call pick old set first ordered) (ordered_second call pick old set first ordered) a.aside stopped in
        let beside : MayLeave (other l set) (crash_image (other l now)) = subst (λ (y : Lane). MayLeave y (crash_image (other l now))) a.aside (image_left (other l now)) in
        let kept : LogView = stopped_log l tick number e call pick in
        let same : kept.state.late ≡ w.topo.late = left_late l tick call pick ∙ late_is l h in
        subst (λ (late : List ℕ). lanes_text late (crash_image now.first) (crash_image now.second) ≡ Ok (found_of kept)) same
        (in_order l.second kept now.first now.second (a.kept (whole l tick h failed some) call pick broke (crash_image (other l now)) beside));
    readable = let m = subst (λ (u : WorldView). LaneMoves u.topo.late set now) s.same (moved mid left on) in
        m.readable (subst (IsReadable w.topo.late) (sym ordered) (readable_with w.topo.late (stop_at call pick) old readable));
  }
    where
      old : Lanes
      old = lanes_at before (log_lane p)

      set : Lanes
      set = lanes_at mid (log_lane p)

      now : Lanes
      now = lanes_at left (log_lane p)

      left_late : (l : LogView) (tick call pick : ℕ) → (let m : LogView = stopped_log l tick number e call pick in m.state.late ≡ l.state.late)
      left_late l tick call pick = go (is_kept (l.size - 1) call pick)
        where
          go : (b : Bool) → (let m : LogView = if b then appended (entry.Event tick number e) l else l in m.state.late ≡ l.state.late)
          go true = refl
          go false = refl

      in_order : (second : Bool) (m : LogView) (y z : Lane) → FoundInTurn second m (crash_image (if second then z else y)) (crash_image (if second then y else z)) → FoundAs m (crash_image y) (crash_image z)
      in_order true m y z h = h
      in_order false m y z h = h

  -- the lanes keep their room
  pub reserved_left : (before mid left : ℕ → Lane) (stop : LaneStop) → lanes_at mid (log_lane p) ≡ with_stops stop (lanes_at before (log_lane p)) → AreReserved (lanes_at before (log_lane p)) → PublishesOn x p v.clock number e after mid left answer
      → AreReserved (lanes_at left (log_lane p))
  reserved_left before mid left stop ordered r on = let m = moved mid left on in m.reserved (subst AreReserved (sym ordered) (reserved_with stop (lanes_at before (log_lane p)) r))

  -- within the call the lanes hold at every moment what they held, or that with the record, also where the stop is ended behind it
  pub stopped_calls : StandsRead → (before mid left ended : ℕ → Lane) (stop : LaneStop) (l : LogView) → log_at w p ≡ Some l → LaneFits l (lanes_at before (log_lane p)) → lanes_at mid (log_lane p) ≡ with_stops stop (lanes_at before (log_lane p))
      → PublishesOn x p v.clock number e after mid left answer → GoesOnBoth (lanes_at mid (log_lane p)) (lanes_at left (log_lane p)) → SameBoth (lanes_at left (log_lane p)) (lanes_at ended (log_lane p))
      → ((m : ℕ) → AwayFrom (log_lane p) m → ended m ≡ before m) → CallsLanes w.topo before ended
  stopped_calls read before mid left ended stop l h fit ordered on goes same others = lanes_of_one w.topo before ended p s.publisher others one
    where
      old : Lanes
      old = lanes_at before (log_lane p)

      set : Lanes
      set = lanes_at mid (log_lane p)

      now : Lanes
      now = lanes_at left (log_lane p)

      quiet : l.broken ≡ true → now ≡ set
      quiet broken = still_lanes v.topo (publishing v.topo p v.clock number e) x after p mid left answer k on (ap is_broken (sym there ∙ h) ∙ broken)

      call : IsCall w.topo.late set now
      call =
          appends_call read w.topo.late l set now (late_is l h) (subst (IsReady l) (sym ordered) (ready_with l stop old fit.ready)) goes quiet (publish_logs_at x p v.clock number e) (log_answer answer) (appends_there mid left l h on.lane)

      one : IsCall w.topo.late old (lanes_at ended (log_lane p))
      one = call_with w.topo.late old set now (lanes_at ended (log_lane p)) (subst (SameBoth old) (sym ordered) (same_stops stop old)) same call

  -- where the stop is ended the lanes fit what is left
  pub ended_fit : (frames : List (List ℕ)) (result : Result (List Report) WorldFault) (before mid left ended : ℕ → Lane) (stop : LaneStop) → Follows answer result → ((o : MachineOutcome) → IfOk answer (Tells o) → TakesUp o v.frames frames result)
      → LanesFit before w → lanes_at mid (log_lane p) ≡ with_stops stop (lanes_at before (log_lane p)) → lanes_at ended (log_lane p) ≡ with_stops Unset (lanes_at left (log_lane p)) → ((m : ℕ) → AwayFrom (log_lane p) m → ended m ≡ left m) → ((m : ℕ) → AwayFrom (log_lane p) m → ended m ≡ before m)
      → PublishesOn x p v.clock number e after mid left answer → LanesFit ended (put_in v b after frames)
  ended_fit frames result before mid left ended stop f takes fit ordered is others all on =
      let i = site_fits v w b p x s in
      let below = site_publisher v w b p x s in
      let read = site_read v w b p x s in
      let c : Called v b p (publish_in v b p number e) after frames result =
      publish_called v b p number e i s.broker below host after frames answer result n (subst (λ (z : BrokerView). Publishes v.topo z p v.clock number e after answer) read k) f takes in
      lanes_fit v b p after frames before ended i s.broker below c.touches (subst IsOpen (sym s.same) s.is_open) (subst (LanesFit before) (sym s.same) fit) all
      (λ h. ended_moves v.topo.late (lanes_at before (log_lane p)) (lanes_at mid (log_lane p)) (lanes_at left (log_lane p)) (lanes_at ended (log_lane p)) stop ordered (moved mid left on) is) (λ away. absurd (away host))
      (stand_with after p Unset left ended is others on.stands)
