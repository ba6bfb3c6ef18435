-- A publish that stops leaves the logs that there were, with its event where it is kept, and lanes that fit them.
use Rattle.std.proofs.Common.{◌≡◌, ◌≢◌, inl, inr, ℕ, ◌+◌, ◌-◌, ◌<◌, Bool, true, false, List, [], ◌∷◌, length, map, Option, Some, None, Result, Ok, Err, OnOk, refl, sym, ap, ap₂, ◌∙◌, subst, arith, eq-eqb}
use Rattle.std.specs.Prelude.{◌&&◌, ◌==◌, nat_eq, nat_le, nat_lt, if◌then◌else◌, IsSome, IfOk}
use Rattle.std.proofs.lemmas.List.{append-nil, get_or-set_same}
use Rattle.std.proofs.Math.Seq.{map-set_same}
use Rattle.std.proofs.lemmas.Bool.{cases_eq, false≢true, and_from, lt-ltb, le-leb}
use Rattle.gr_event.specs.declared.event.Event.{Event}
use Rattle.gr_sched.specs.declared.step.Stop.{Stop}
use Rattle.gr_sched.specs.declared.step.Step.TheVariants as step
use Rattle.gr_out.specs.Lane.{Lane, crash_image}
use Rattle.gr_publog.specs.declared.record.Record.TheVariants as entry
use Rattle.gr_publog.specs.State.{may_follow}
use Rattle.gr_publog.specs.Lanes.{Found, lanes_text}
use Rattle.gr_publog.specs.Views.{LogView, Lanes, lanes_at, appended, AwayFrom, found_of, StandsFound}
use Rattle.gr_publog.specs.Opens.{OpensAs, view_of}
use Rattle.gr_pubend.specs.Log.{said}
use Rattle.gr_pubend.proofs.Found.{said_more}
use Rattle.gr_topo.specs.Topology.{TopologyView, host_of, subscribers_of, not_empty}
use Rattle.gr_model.specs.declared.report.Report.{Report}
use Rattle.gr_model.specs.declared.report.Report.TheVariants as line
use Rattle.gr_model.specs.Net.{Net, numbers}
use Rattle.gr_model.specs.Broker.{View, Log, empty_log, max_tick, with_event, is_kept}
use Rattle.gr_model.specs.World.{World, Transition, log_of, publish_now, publish_stopped, next_by, unchanged}
use Rattle.gr_model_calls.proofs.runs.Schedules.{get_numbers, length_numbers}
use Rattle.gr_broker.specs.Lanes.{log_lane}
use Rattle.gr_broker.specs.Seen.{BrokerView, log_in, log_said, with_failed, broken_at}
use Rattle.gr_broker.specs.Of.{IsBrokerOf}
use Rattle.gr_world.specs.declared.fault.WorldFault.{WorldFault}
use Rattle.gr_world.specs.declared.fault.WorldFault.TheVariants as fault
use Rattle.gr_world.specs.Seen.{WorldView, no_broker, broker_in, log_at, frame_said, net_in, world_of}
use Rattle.gr_world.specs.Of.{IsWorld, LaneFits, IsReadable, LanesFit, IsSound}
use Rattle.gr_world.specs.Opened.{IsRead, IsLeft, IsSoundBut, Restarts, restart_over}
use Rattle.gr_world.specs.Disk.{NotDisk}
use Rattle.gr_world.specs.Ran.{IsOpen, noted_in}
use Rattle.gr_world.specs.Steps.{Does, IsCarried, NotMemory, Makes}
use Rattle.gr_world.specs.Stopped.{tick_in, kept_line, stopped_over, broken_in, stopped_log, IsStoppedAt, StopsOver, StopRan, StopRestarts}
use Rattle.gr_world.proofs.StoppedOver.{same_all, set_one, logs_left, next_at, is_refused, not_stopped, stopped_is}
use Rattle.gr_world.proofs.Lanes.{other_lanes}
use Rattle.gr_world.proofs.Crashing.{said_found, left_found}
use Rattle.gr_report.proofs.Readable.{found_same}
use Rattle.gr_world.proofs.Absorbing.{log_here, log_stays, log_elsewhere}
use Rattle.gr_world.proofs.Answers.{touched_broken}

-- The logs of a world

-- a publisher's log is there, at its host
pub has_log : (w : WorldView) (p : ℕ) → IsWorld w → p < length w.topo.publishers → host_of w.topo p < length w.topo.brokers → IsSome (log_at w p)
has_log w p fits j i =
    let b = host_of w.topo p in
    let is : IsBrokerOf w.topo (broker_in w b) = fits.brokers b i in
    is.hosted p j ∙ eq-eqb b (let x : BrokerView = broker_in w b in x.number) (sym (fits.numbered b i))

-- the machine's log is the one that it stands for
pub log_there : (w : WorldView) (p : ℕ) → p < length w.topo.publishers → log_of (world_of w) p ≡ log_said (log_at w p)
log_there w p j = get_numbers (λ q. log_said (log_at w q)) 0 (length w.topo.publishers) p empty_log j ∙ ap (λ q. log_said (log_at w q)) (omega arith)

as_many_logs : (w : WorldView) → length (let u : World = world_of w in u.logs) ≡ length w.topo.publishers
as_many_logs w = length_numbers (λ q. log_said (log_at w q)) 0 (length w.topo.publishers)

some_of : (o : Option LogView) → IsSome o → (l : LogView) × (o ≡ Some l)
some_of None h = absurd (false≢true h)
some_of (Some l) h = (l, refl)

-- The host's start

-- its lines are those of the machine's start, by the last number of its log
pub told_over : (net : Net) (w : World) (b p number tick : ℕ) (new : WorldView) (opened : List Report) (result : Result (List Report) WorldFault)
    → p < length new.topo.publishers → Does (let u : World = world_of new in restart_over net w b u.logs) new (Ok opened)
    → IfOk result (λ ls. ls ≡ line.Crashed b ∷ (kept_line (let l : Log = log_said (log_at new p) in nat_eq l.last number) p number tick ∷ opened))
    → Does (let u : World = world_of new in stopped_over net w b p number tick u.logs) new result
told_over net w b p number tick new opened (Err e) j d told = record { world = tt; lines = tt }
told_over net w b p number tick new opened (Ok ls) j d told = record {
  world = d.world;
  lines = told ∙ ap₂ (λ (l : Log) (rest : List Report). line.Crashed b ∷ (kept_line (nat_eq l.last number) p number tick ∷ rest)) (sym (log_there new p j)) d.lines;
}

-- what it leaves, whether its lines were told or memory was wanting
pub ran_restarted : (b : ℕ) (old new : WorldView) (opened : List Report) (result : Result (List Report) WorldFault)
    → Restarts b old new (Ok opened) → IsWorld new → ((e : WorldFault) → result ≡ Err e → e ≡ fault.Memory) → StopRestarts b old new result
ran_restarted b old new opened result r fits faults = record {
  fits = fits;
  stays = record { topo = r.topo; told = r.told; more = []; frames = r.frames ∙ sym (append-nil old.frames) };
  spent = r.spent;
  carried = carried result faults;
  sound = on_ok result;
  failed = λ e. cc (faults fault.Disk e);
  never_reopen = λ e. cc (faults fault.Reopen e);
}
  where
    carried : (x : Result (List Report) WorldFault) → ((e : WorldFault) → x ≡ Err e → e ≡ fault.Memory) → IsCarried x
    carried (Ok ls) f = tt
    carried (Err e) f = subst (λ (y : WorldFault). IsCarried (Err y)) (sym (f e refl)) tt

    on_ok : (x : Result (List Report) WorldFault) → OnOk x (IsSoundBut b old → IsSound new)
    on_ok (Ok ls) = r.sound
    on_ok (Err e) = tt

-- The world with a broken log

module _ (w : WorldView) (b p : ℕ) (fits : IsWorld w) (broker : b < length w.topo.brokers) (host : b ≡ host_of w.topo p) (j : p < length w.topo.publishers) where
  within : b < length w.brokers
  within = subst (λ n. b < n) (sym fits.count) broker

  said_failed : (o : Option LogView) → log_said (with_failed o) ≡ log_said o
  said_failed None = refl
  said_failed (Some l) = refl

  -- it says the same as before
  said_still : (q : ℕ) → log_said (log_at (broken_in w b p) q) ≡ log_said (log_at w q)
  said_still q = elim (cases_eq q p) [
    | inr n ↦ ap log_said (log_stays w b p (broken_at (broker_in w b) p) w.frames within (touched_broken p (broker_in w b)) q n)
    | inl s ↦
        let short : p < length (let x : BrokerView = broker_in w b in x.logs) = subst (λ m. p < m) (sym (fits.brokers b broker).logs) j in
        ap (λ k. log_said (log_at (broken_in w b p) k)) s
        ∙ (ap log_said (log_here w b p (broken_at (broker_in w b) p) w.frames within p (sym host)
        ∙ get_or-set_same (let x : BrokerView = broker_in w b in x.logs) p (with_failed (log_in (broker_in w b) p)) None short)
        ∙ (said_failed (log_in (broker_in w b) p)
        ∙ (ap (λ c. log_said (log_in (broker_in w c) p)) host ∙ ap (λ k. log_said (log_at w k)) (sym s))))
  ]

  -- so it is the same world of the machine
  pub broken_same : world_of (broken_in w b p) ≡ world_of w
  broken_same =
      ap (λ (vs : List (List View)). made vs (map (λ q. log_said (log_at (broken_in w b p) q)) (numbers (length w.topo.publishers))))
      (map-set_same (λ (x : BrokerView). x.views) w.brokers b (broken_at (broker_in w b) p) no_broker refl)
      ∙ ap (λ (ls : List Log). made (map (λ (x : BrokerView). x.views) w.brokers) ls)
      (same_all (λ q. log_said (log_at (broken_in w b p) q)) (λ q. log_said (log_at w q)) (length w.topo.publishers) (λ q i. said_still q))
    where
      made : List (List View) → List Log → World
      made vs ls = record { clock = w.clock; most = w.most; frames = map frame_said w.frames; views = vs; logs = ls }

  pub broken_elsewhere : (q : ℕ) → host_of w.topo q ≢ b → log_at (broken_in w b p) q ≡ log_at w q
  broken_elsewhere q away = log_elsewhere w b p (broken_at (broker_in w b) p) w.frames within q away

  sound_but : IsSound w → IsSoundBut b (broken_in w b p)
  sound_but s = record { logs = λ q l i away e. s.logs q l i (sym (broken_elsewhere q away) ∙ e); up = inl s.up }

  -- where the host has started over it, the world is as sound as before
  pub ran_started : (new : WorldView) (result : Result (List Report) WorldFault) → StopRestarts b (broken_in w b p) new result → StopRan w new result
  ran_started new result r = record {
    fits = r.fits;
    stays = record { topo = r.stays.topo; told = r.stays.told; more = r.stays.more; frames = r.stays.frames };
    spent = r.spent;
    sound = λ m. record { sound = λ s d. go result r.sound r.carried r.never_reopen m d (sound_but s); opened = λ s e. r.never_reopen e };
  }
    where
      go : (x : Result (List Report) WorldFault) → OnOk x (IsSoundBut b (broken_in w b p) → IsSound new) → IsCarried x → x ≢ Err fault.Reopen → NotMemory x → NotDisk x → IsSoundBut b (broken_in w b p) → IsSound new
      go (Ok ls) sound c o m d but = sound but
      go (Err fault.Memory) sound c o m d but = absurd m
      go (Err fault.Disk) sound c o m d but = absurd d
      go (Err fault.Reopen) sound c o m d but = absurd (o refl)
      go (Err (fault.Damaged q at)) sound c o m d but = absurd c
      go (Err (fault.HostsSubscriber q)) sound c o m d but = absurd c
      go (Err (fault.NoFrame sent)) sound c o m d but = absurd c
      go (Err (fault.ClockRange at)) sound c o m d but = absurd c

-- A publisher's lanes while its publish is to stop

-- its log is there, and they fit it
pub record IsHere (w : WorldView) (lanes : ℕ → Lane) (p : ℕ) : Type 0 where
  pub log : LogView
  pub there : log_at w p ≡ Some log
  pub lane : LaneFits log (lanes_at lanes (log_lane p))

pub is_here : (w : WorldView) (lanes : ℕ → Lane) (p : ℕ) → IsWorld w → IsOpen w → LanesFit lanes w → p < length w.topo.publishers
    → host_of w.topo p < length w.topo.brokers → IsHere w lanes p
is_here w lanes p fits o f j i =
    let l = some_of (log_at w p) (has_log w p fits j i) in
    record { log = l.0; there = l.1; lane = f.logs o.unspent p l.0 j (λ e. cc (o.up, e)) l.1 }

-- Only its lanes were touched
module _ (w : WorldView) (lanes lanes' : ℕ → Lane) (b p : ℕ) (o : IsOpen w) (f : LanesFit lanes w) (host : b ≡ host_of w.topo p) (readable : IsReadable w.topo.late (lanes_at lanes' (log_lane p)))
    (others : (n : ℕ) → AwayFrom (log_lane p) n → lanes' n ≡ lanes n) where
  pub readable_after : (q : ℕ) → q < length w.topo.publishers → IsReadable w.topo.late (lanes_at lanes' (log_lane q))
  readable_after q j = elim (cases_eq q p) [
    | inl e ↦ subst (λ k. IsReadable w.topo.late (lanes_at lanes' (log_lane k))) (sym e) readable
    | inr ne ↦ subst (IsReadable w.topo.late) (sym (other_lanes lanes lanes' p q others ne)) (f.readable o.unspent q j)
  ]

  pub fits_after : (q : ℕ) (l : LogView) → q < length w.topo.publishers → host_of w.topo q ≢ b → log_at w q ≡ Some l → LaneFits l (lanes_at lanes' (log_lane q))
  fits_after q l j away e =
      subst (LaneFits l) (sym (other_lanes lanes lanes' p q others (λ k. away (ap (host_of w.topo) k ∙ sym host)))) (f.logs o.unspent q l j (λ d. cc (o.up, d)) e)

-- The logs that are left

-- an event at the tick of its log may follow
next_may : (l : LogView) (tick number now : ℕ) (e : Event) → tick_in (said l) number now ≡ Some tick → may_follow l.state (entry.Event tick number e) ≡ true
next_may l tick number now e some =
    let x = next_at (said l) number now tick some in
    and_from (nat_lt l.state.settled tick && nat_le tick max_tick) (number == l.state.last + 1)
    (and_from (nat_lt l.state.settled tick) (nat_le tick max_tick) (lt-ltb l.state.settled tick x.later) (le-leb tick max_tick x.upto))
    (eq-eqb number (l.state.last + 1) (omega (arith, x.number_is)))

-- of one that is opened over what a stop leaves is said what the machine says: with the event where it is kept
kept_as : (l : LogView) (tick number now call pick : ℕ) (e : Event) → tick_in (said l) number now ≡ Some tick →
    (let log : Log = said l in said (stopped_log l tick number e call pick) ≡ (if is_kept (log.size - 1) call pick then with_event log tick e else log))
kept_as l tick number now call pick e some = go (is_kept (l.size - 1) call pick)
  where
    may : may_follow l.state (entry.Event tick number e) ≡ true
    may = next_may l tick number now e some

    go : (b : Bool) → said (if b then appended (entry.Event tick number e) l else l) ≡ (if b then with_event (said l) tick e else said l)
    go true = said_more l (entry.Event tick number e) may
    go false = refl

module _ (law : StandsFound) (old new : WorldView) (lanes lanes' : ℕ → Lane) (b p tick number call pick : ℕ) (e : Event) (h : IsHere old lanes p) (fits : IsWorld old) (o : IsOpen old) (f : LanesFit lanes old) (sound : IsSound old)
    (host : b ≡ host_of old.topo p) (broker : b < length old.topo.brokers) (j : p < length old.topo.publishers)
    (now : ℕ) (next : tick_in (log_said (log_at old p)) number now ≡ Some tick)
    (stopped : (let l : LogView = h.log in let ls : Lanes = lanes_at lanes' (log_lane p) in
    lanes_text old.topo.late (crash_image ls.first) (crash_image ls.second) ≡ Ok (found_of (stopped_log l tick number e call pick))))
    (others : (n : ℕ) → AwayFrom (log_lane p) n → lanes' n ≡ lanes n)
    (found : (q : ℕ) → q < length old.topo.publishers → host_of old.topo q ≡ b → IsLeft old.topo.late (log_at new q) (lanes_at lanes' (log_lane q)))
    (elsewhere : (q : ℕ) → q < length old.topo.publishers → host_of old.topo q ≢ b → log_at new q ≡ log_at old q)
    (topo : new.topo ≡ old.topo) where
  abbrev here : World
  here = world_of old

  other_log : (q : ℕ) → q < length old.topo.publishers → q ≢ p → log_said (log_at new q) ≡ log_said (log_at old q)
  other_log q i ne = elim (cases_eq (host_of old.topo q) b) [
    | inr away ↦ ap log_said (elsewhere q i away)
    | inl at ↦
        let x = is_here old lanes q fits o f i (subst (λ k. k < length old.topo.brokers) (sym at) broker) in
        let ls = lanes_at lanes (log_lane q) in
        let at_host : host_of old.topo q < length old.topo.brokers = subst (λ k. k < length old.topo.brokers) (sym at) broker in
        let late : (let l : LogView = x.log in l.state.late) ≡ old.topo.late = (fits.brokers (host_of old.topo q) at_host).late q x.log x.there in
        let left : IsLeft old.topo.late (log_at new q) ls = subst (λ (y : Lanes). IsLeft old.topo.late (log_at new q) y) (other_lanes lanes lanes' p q others ne) (found q i at) in
        said_found old.topo.late (log_at new q) x.log (crash_image ls.first) (crash_image ls.second) left
        (left_found law old.topo.late ls x.log (x.lane.ready (sound.logs q x.log i x.there)) late)
        ∙ sym (ap log_said x.there)
  ]

  own_log : log_said (log_at new p) ≡ (let log : Log = log_of here p in if is_kept (log.size - 1) call pick then with_event log tick e else log)
  own_log =
      let l : LogView = h.log in
      let ls = lanes_at lanes' (log_lane p) in
      let is : said l ≡ log_of here p = sym (log_there old p j ∙ ap log_said h.there) in
      said_found old.topo.late (log_at new p) (stopped_log l tick number e call pick) (crash_image ls.first) (crash_image ls.second) (found p j (sym host)) stopped
      ∙ kept_as l tick number now call pick e (ap (λ (o : Option LogView). tick_in (log_said o) number now) (sym h.there) ∙ next)
      ∙ ap (λ (log : Log). if is_kept (log.size - 1) call pick then with_event log tick e else log) is

  -- they are those that there were, with the event where it is kept
  pub logs_after : (let u : World = world_of new in let log : Log = log_of here p in u.logs ≡ logs_left here p tick e (is_kept (log.size - 1) call pick))
  logs_after =
      ap (λ n. map (λ q. log_said (log_at new q)) (numbers n)) (ap (λ (t : TopologyView). length t.publishers) topo)
      ∙ go (let log : Log = log_of here p in is_kept (log.size - 1) call pick) own_log
    where
      go : (kept : Bool) → log_said (log_at new p) ≡ (let log : Log = log_of here p in if kept then with_event log tick e else log)
          → map (λ q. log_said (log_at new q)) (numbers (length old.topo.publishers)) ≡ logs_left here p tick e kept
      go true own = set_one (λ q. log_said (log_at new q)) (λ q. log_said (log_at old q)) (length old.topo.publishers) p (with_event (log_of here p) tick e) j own other_log
      go false own = same_all (λ q. log_said (log_at new q)) (λ q. log_said (log_at old q)) (length old.topo.publishers)
          (λ q i. elim (cases_eq q p) [
            | inl s ↦ ap (λ k. log_said (log_at new k)) s ∙ own ∙ log_there old p j ∙ ap (λ k. log_said (log_at old k)) (sym s)
            | inr ne ↦ other_log q i ne
          ])

-- The machine's publish that stops

-- where the host has started over the logs that are left
pub stopped_does : (net : Net) (w : World) (n b p number tick : ℕ) (stop : Stop) (e : Event) (new : WorldView) (result : Result (List Report) WorldFault) → b ≡ net.host p → p < length w.logs
    → not_empty (net.subscribers_at b) ≡ false → tick_in (log_of w p) number w.clock ≡ Some tick
    → Does (let u : World = world_of new in stopped_over net w b p number tick u.logs) new result
    → OnOk result (let u : World = world_of new in let log : Log = log_of w p in u.logs ≡ logs_left w p tick e (is_kept (log.size - 1) stop.call stop.pick))
    → Does (publish_stopped net w n p number stop e) new result
stopped_does net w n b p number tick stop e new (Err f) host j alone next d left = record { world = tt; lines = tt }
stopped_does net w n b p number tick stop e new (Ok ls) host j alone next d left =
    subst (λ (t : Transition). Does t new (Ok ls))
    (ap (λ (logs : List Log). stopped_over net w b p number tick logs) left
    ∙ ap (λ k. stopped_over net w k p number tick (logs_left w p tick e (let log : Log = log_of w p in is_kept (log.size - 1) stop.call stop.pick))) host
    ∙ sym (stopped_is net w n p number stop e tick j (subst (λ k. not_empty (net.subscribers_at k) ≡ false) host alone) next))
    d

-- where nothing was to be logged
pub idle_does : (net : Net) (w : World) (n b p number : ℕ) (stop : Stop) (e : Event) (new : WorldView) (result : Result (List Report) WorldFault) → b ≡ net.host p
    → not_empty (net.subscribers_at b) ≡ false → tick_in (log_of w p) number w.clock ≡ None → Does (publish_now net w p number e) new result
    → Does (publish_stopped net w n p number stop e) new result
idle_does net w n b p number stop e new result host alone none d =
    subst (λ (t : Transition). Does t new result) (sym (not_stopped net w n p number stop e (subst (λ k. not_empty (net.subscribers_at k) ≡ false) host alone) none)) d

-- what was worked out of its log
pub none_at : (w : WorldView) (p number clock : ℕ) (l : LogView) (worked : Option ℕ) → p < length w.topo.publishers → log_at w p ≡ Some l → clock ≡ w.clock
    → worked ≡ tick_in (said l) number clock → worked ≡ None → tick_in (log_of (world_of w) p) number w.clock ≡ None
none_at w p number clock l worked j there same is none =
    ap (λ (log : Log). tick_in log number w.clock) (log_there w p j ∙ ap log_said there) ∙ ap (λ k. tick_in (said l) number k) (sym same) ∙ sym is ∙ none

pub some_at : (w : WorldView) (p number clock tick : ℕ) (l : LogView) (worked : Option ℕ) → log_at w p ≡ Some l → clock ≡ w.clock
    → worked ≡ tick_in (said l) number clock → worked ≡ Some tick → tick_in (log_said (log_at w p)) number w.clock ≡ Some tick
some_at w p number clock tick l worked there same is some =
    ap (λ (o : Option LogView). tick_in (log_said o) number w.clock) there ∙ ap (λ k. tick_in (said l) number k) (sym same) ∙ sym is ∙ some

-- a fact after a call that came through
pub both_ok : (result : Result (List Report) WorldFault) {P Q R : Type 0} → (P → Q → R) → OnOk result P → OnOk result Q → OnOk result R
both_ok (Ok ls) f p q = f p q
both_ok (Err e) f p q = tt

-- the host has started over what the append left
pub stopped_true : StandsFound → (old new : WorldView) (lanes lanes' : ℕ → Lane) (n b p number tick : ℕ) (stop : Stop) (e : Event) (result : Result (List Report) WorldFault)
    → IsStoppedAt old p tick number e stop.call stop.pick (lanes_at lanes' (log_lane p)) → IsWorld old → IsOpen old → LanesFit lanes old → IsSound old
    → (host : b ≡ host_of old.topo p) (broker : b < length old.topo.brokers) (j : p < length old.topo.publishers) → not_empty (subscribers_of old.topo b) ≡ false → tick_in (log_said (log_at old p)) number old.clock ≡ Some tick
    → ((m : ℕ) → AwayFrom (log_lane p) m → lanes' m ≡ lanes m) → new.topo ≡ old.topo
    → Does (let u : World = world_of new in stopped_over (net_in old) (world_of (broken_in old b p)) b p number tick u.logs) new result
    → OnOk result ((q : ℕ) → q < length old.topo.publishers → host_of old.topo q ≡ b → IsLeft old.topo.late (log_at new q) (lanes_at lanes' (log_lane q)))
    → OnOk result ((q : ℕ) → q < length old.topo.publishers → host_of old.topo q ≢ b → log_at new q ≡ log_at (broken_in old b p) q)
    → Does (publish_stopped (net_in old) (world_of old) n p number stop e) new result
stopped_true law old new lanes lanes' n b p number tick stop e result left fits o f sound host broker j alone next others topo d found elsewhere =
    let h : IsHere old lanes p = is_here old lanes p fits o f j (subst (λ k. k < length old.topo.brokers) host broker) in
    stopped_does (net_in old) (world_of old) n b p number tick stop e new result host
    (subst (λ k. p < k) (sym (as_many_logs old)) j) alone (ap (λ (log : Log). tick_in log number old.clock) (log_there old p j) ∙ next)
    (subst (λ (m : World). Does (let u : World = world_of new in stopped_over (net_in old) m b p number tick u.logs) new result) (broken_same old b p fits broker host j) d)
    (both_ok result (λ x y. logs_after law old new lanes lanes' b p tick number stop.call stop.pick e h fits o f sound host broker j old.clock next (left.images h.log h.there) others x
    (λ q i away. y q i away ∙ broken_elsewhere old b p fits broker host j q away) topo) found elsewhere)

-- the same of the world that the publish left
pub stopped_mid : StandsFound → (old mid new : WorldView) (lanes lanes' : ℕ → Lane) (n b p number tick : ℕ) (stop : Stop) (e : Event) (result : Result (List Report) WorldFault)
    → IsStoppedAt old p tick number e stop.call stop.pick (lanes_at lanes' (log_lane p)) → IsWorld old → IsOpen old → LanesFit lanes old → IsSound old
    → b ≡ host_of old.topo p → b < length old.topo.brokers → p < length old.topo.publishers → not_empty (subscribers_of old.topo b) ≡ false → tick_in (log_said (log_at old p)) number old.clock ≡ Some tick
    → ((m : ℕ) → AwayFrom (log_lane p) m → lanes' m ≡ lanes m) → mid ≡ broken_in old b p → StopRestarts b mid new result
    → Does (let u : World = world_of new in stopped_over (net_in mid) (world_of mid) b p number tick u.logs) new result
    → OnOk result ((q : ℕ) → q < length mid.topo.publishers → host_of mid.topo q ≡ b → IsLeft mid.topo.late (log_at new q) (lanes_at lanes' (log_lane q)))
    → OnOk result ((q : ℕ) → q < length mid.topo.publishers → host_of mid.topo q ≢ b → log_at new q ≡ log_at mid q)
    → Does (publish_stopped (net_in old) (world_of old) n p number stop e) new result
stopped_mid law old mid new lanes lanes' n b p number tick stop e result left fits o f sound host broker j alone next others is =
    subst (λ (m : WorldView). StopRestarts b m new result → Does (let u : World = world_of new in stopped_over (net_in m) (world_of m) b p number tick u.logs) new result
    → OnOk result ((q : ℕ) → q < length m.topo.publishers → host_of m.topo q ≡ b → IsLeft m.topo.late (log_at new q) (lanes_at lanes' (log_lane q)))
    → OnOk result ((q : ℕ) → q < length m.topo.publishers → host_of m.topo q ≢ b → log_at new q ≡ log_at m q)
    → Does (publish_stopped (net_in old) (world_of old) n p number stop e) new result) (sym is)
    (λ r d x y. stopped_true law old new lanes lanes' n b p number tick stop e result left fits o f sound host broker j alone next others r.stays.topo d x y)

-- the lanes of the other brokers fit it still
pub fits_mid : (old mid : WorldView) (lanes lanes' : ℕ → Lane) (b p : ℕ) → IsWorld old → IsOpen old → LanesFit lanes old → b ≡ host_of old.topo p → b < length old.topo.brokers → p < length old.topo.publishers
    → IsReadable old.topo.late (lanes_at lanes' (log_lane p)) → ((m : ℕ) → AwayFrom (log_lane p) m → lanes' m ≡ lanes m) → mid ≡ broken_in old b p
    → (q : ℕ) (l : LogView) → q < length mid.topo.publishers → host_of mid.topo q ≢ b → log_at mid q ≡ Some l → LaneFits l (lanes_at lanes' (log_lane q))
fits_mid old mid lanes lanes' b p fits o f host broker j readable others is =
    subst (λ (m : WorldView). (q : ℕ) (l : LogView) → q < length m.topo.publishers → host_of m.topo q ≢ b → log_at m q ≡ Some l → LaneFits l (lanes_at lanes' (log_lane q))) (sym is)
    (λ q l i away h. fits_after old lanes lanes' b p o f host readable others q l i away (sym (broken_elsewhere old b p fits broker host j q away) ∙ h))

-- and all of them read as logs
pub readable_mid : (old mid : WorldView) (lanes lanes' : ℕ → Lane) (b p : ℕ) → IsOpen old → LanesFit lanes old → b ≡ host_of old.topo p → IsReadable old.topo.late (lanes_at lanes' (log_lane p)) → ((m : ℕ) → AwayFrom (log_lane p) m → lanes' m ≡ lanes m)
    → mid ≡ broken_in old b p → (q : ℕ) → q < length mid.topo.publishers → IsReadable mid.topo.late (lanes_at lanes' (log_lane q))
readable_mid old mid lanes lanes' b p o f host readable others is =
    subst (λ (m : WorldView). (q : ℕ) → q < length m.topo.publishers → IsReadable m.topo.late (lanes_at lanes' (log_lane q))) (sym is) (λ q i. readable_after old lanes lanes' b p o f host readable others q i)

-- Want of memory is noted

pub noted_fits : (w : WorldView) (result : Result (List Report) WorldFault) → IsWorld w → IsWorld (noted_in w result)
noted_fits w (Ok ls) f = f
noted_fits w (Err fault.Memory) f = record { count = f.count; brokers = f.brokers; numbered = f.numbered; spelled = f.spelled; over = f.over; clock = f.clock; most = f.most; down = f.down }
noted_fits w (Err fault.Disk) f = f
noted_fits w (Err fault.Reopen) f = f
noted_fits w (Err (fault.Damaged p at)) f = f
noted_fits w (Err (fault.HostsSubscriber b)) f = f
noted_fits w (Err (fault.NoFrame sent)) f = f
noted_fits w (Err (fault.ClockRange at)) f = f

-- no lane is used any more then
pub noted_lanes : (w : WorldView) (lanes : ℕ → Lane) (result : Result (List Report) WorldFault) → (result ≢ Err fault.Memory → LanesFit lanes w) → LanesFit lanes (noted_in w result)
noted_lanes w lanes (Ok ls) f = f (λ e. cc e)
noted_lanes w lanes (Err fault.Memory) f = record { logs = λ un. absurd (false≢true (sym un)); readable = λ un. absurd (false≢true (sym un)) }
noted_lanes w lanes (Err fault.Disk) f = f (λ e. cc e)
noted_lanes w lanes (Err fault.Reopen) f = f (λ e. cc e)
noted_lanes w lanes (Err (fault.Damaged p at)) f = f (λ e. cc e)
noted_lanes w lanes (Err (fault.HostsSubscriber b)) f = f (λ e. cc e)
noted_lanes w lanes (Err (fault.NoFrame sent)) f = f (λ e. cc e)
noted_lanes w lanes (Err (fault.ClockRange at)) f = f (λ e. cc e)

-- The step

-- a stopped publish is refused where a subscriber is at the host, and nothing changes
pub refused_makes : (w : WorldView) (b p number : ℕ) (stop : Stop) (e : Event) → b ≡ host_of w.topo p → not_empty (subscribers_of w.topo b) ≡ true
    → Makes (step.Publish p number (Some stop) e) w w (Err (fault.HostsSubscriber b))
unfolding next_by
refused_makes w b p number stop e host some n lines told =
    let same : line.RefusedHosts n b ∷ [] ≡ lines = cc told in
    is_refused (net_in w) (world_of w) n p number stop e (subst (λ k. not_empty (subscribers_of w.topo k) ≡ true) host some)
    ∙ ap (λ (ls : List Report). unchanged (world_of w) ls) (ap (λ k. line.RefusedHosts n k ∷ []) (sym host) ∙ same)

-- a call that is the machine's stopped publish is its step
pub stopped_makes : (old new : WorldView) (p number : ℕ) (stop : Stop) (e : Event) (result : Result (List Report) WorldFault)
    → ((n : ℕ) → Does (publish_stopped (net_in old) (world_of old) n p number stop e) new result) → IsCarried result
    → Makes (step.Publish p number (Some stop) e) old (noted_in new result) result
unfolding next_by
stopped_makes old new p number stop e (Ok ls) does carried n lines told =
    let d : Does (publish_stopped (net_in old) (world_of old) n p number stop e) new (Ok ls) = does n in
    let same : ls ≡ lines = cc told in
    ap₂ (λ (u : World) (l : List Report). let t : Transition = record { world = u; lines = l } in t) (sym d.world) (sym d.lines ∙ same)
stopped_makes old new p number stop e (Err fault.Memory) does carried n lines told = absurd (cc told)
stopped_makes old new p number stop e (Err fault.Disk) does carried n lines told = absurd (cc told)
stopped_makes old new p number stop e (Err fault.Reopen) does carried n lines told = absurd (cc told)
stopped_makes old new p number stop e (Err (fault.Damaged q at)) does carried n lines told = absurd (cc told)
stopped_makes old new p number stop e (Err (fault.HostsSubscriber b)) does carried n lines told = absurd carried
stopped_makes old new p number stop e (Err (fault.NoFrame sent)) does carried n lines told = absurd carried
stopped_makes old new p number stop e (Err (fault.ClockRange at)) does carried n lines told = absurd carried

-- Over the logs that are left, whether the disk had failed one or not

read_log : (late : List ℕ) (m l : LogView) (o : Option LogView) (x y : List ℕ) → o ≡ Some m → IsRead late o x y → lanes_text late x y ≡ Ok (found_of l) → found_of m ≡ found_of l
read_log late m l o x y e r t =
    let read : OpensAs late m.lane x y (Ok m) = subst (λ (z : Option LogView). IsRead late z x y) e r in
    ap found_of read.2 ∙ ap (λ (f : Found). found_of (view_of m.lane x y f)) (found_same late x y read.0 (found_of l) read.1 t)

stops_over : (old new : WorldView) (lanes lanes' : ℕ → Lane) (b p number tick call pick : ℕ) (e : Event) (ls : List Report) → IsStoppedAt old p tick number e call pick (lanes_at lanes' (log_lane p)) → IsWorld old
    → b ≡ host_of old.topo p → b < length old.topo.brokers → p < length old.topo.publishers → ((m : ℕ) → AwayFrom (log_lane p) m → lanes' m ≡ lanes m)
    → Does (let u : World = world_of new in stopped_over (net_in old) (world_of (broken_in old b p)) b p number tick u.logs) new (Ok ls)
    → ((q : ℕ) → q < length old.topo.publishers → host_of old.topo q ≡ b → IsLeft old.topo.late (log_at new q) (lanes_at lanes' (log_lane q)))
    → ((q : ℕ) → q < length old.topo.publishers → host_of old.topo q ≢ b → log_at new q ≡ log_at (broken_in old b p) q)
    → StopsOver p tick number e call pick lanes old new ls
stops_over old new lanes lanes' b p number tick call pick e ls left fits host broker j others d found elsewhere = record {
  own = λ l m there now.
      let ls = lanes_at lanes' (log_lane p) in
      read_log old.topo.late m (stopped_log l tick number e call pick) (log_at new p) (crash_image ls.first) (crash_image ls.second) now (found p j (sym host)) (left.images l there);
  found = λ q i ne at. subst (λ (ls : Lanes). IsLeft old.topo.late (log_at new q) ls) (other_lanes lanes lanes' p q others ne) (found q i (at ∙ sym host));
  elsewhere = λ q i away. let n : host_of old.topo q ≢ b = λ h. away (h ∙ host) in elsewhere q i n ∙ broken_elsewhere old b p fits broker host j q n;
  over = ap (λ k. let u : World = world_of new in stopped_over (net_in old) (world_of old) k p number tick u.logs) (sym host)
      ∙ (ap (λ (m : World). let u : World = world_of new in stopped_over (net_in old) m b p number tick u.logs) (sym (broken_same old b p fits broker host j))
      ∙ ap₂ (λ (w : World) (rs : List Report). let t : Transition = record { world = w; lines = rs } in t) (sym d.world) (sym d.lines));
}

pub stops_mid : (old mid new : WorldView) (lanes lanes' : ℕ → Lane) (b p number tick call pick : ℕ) (e : Event) (result : Result (List Report) WorldFault) → IsStoppedAt old p tick number e call pick (lanes_at lanes' (log_lane p)) → IsWorld old
    → b ≡ host_of old.topo p → b < length old.topo.brokers → p < length old.topo.publishers → ((m : ℕ) → AwayFrom (log_lane p) m → lanes' m ≡ lanes m) → mid ≡ broken_in old b p
    → Does (let u : World = world_of new in stopped_over (net_in mid) (world_of mid) b p number tick u.logs) new result
    → OnOk result ((q : ℕ) → q < length mid.topo.publishers → host_of mid.topo q ≡ b → IsLeft mid.topo.late (log_at new q) (lanes_at lanes' (log_lane q)))
    → OnOk result ((q : ℕ) → q < length mid.topo.publishers → host_of mid.topo q ≢ b → log_at new q ≡ log_at mid q)
    → IfOk result (StopsOver p tick number e call pick lanes old new)
stops_mid old mid new lanes lanes' b p number tick call pick e (Err x) left fits host broker j others is = λ d y z. tt
stops_mid old mid new lanes lanes' b p number tick call pick e (Ok ls) left fits host broker j others is =
    subst (λ (m : WorldView). Does (let u : World = world_of new in stopped_over (net_in m) (world_of m) b p number tick u.logs) new (Ok ls)
    → ((q : ℕ) → q < length m.topo.publishers → host_of m.topo q ≡ b → IsLeft m.topo.late (log_at new q) (lanes_at lanes' (log_lane q)))
    → ((q : ℕ) → q < length m.topo.publishers → host_of m.topo q ≢ b → log_at new q ≡ log_at m q)
    → StopsOver p tick number e call pick lanes old new ls) (sym is)
    (λ d x y. stops_over old new lanes lanes' b p number tick call pick e ls left fits host broker j others d x y)

-- one tick at the most is worked out
pub one_tick : (o : Option ℕ) (a b : ℕ) → o ≡ Some a → o ≡ Some b → a ≡ b
one_tick o a b e f = cc

pub no_tick : (o : Option ℕ) (a : ℕ) → o ≡ None → o ≡ Some a → ⊥
no_tick o a e f = cc

-- also where it is noted that memory was refused
pub noted_does : (t : Transition) (mid new : WorldView) (r result : Result (List Report) WorldFault) → result ≡ r → new ≡ noted_in mid r → Does t mid r → Does t new result
noted_does t mid new (Ok ls) result same e d = subst (λ (q : Result (List Report) WorldFault). Does t new q) (sym same) (subst (λ (v : WorldView). Does t v (Ok ls)) (sym e) d)
noted_does t mid new (Err x) result same e d = subst (λ (q : Result (List Report) WorldFault). Does t new q) (sym same) (record { world = tt; lines = tt })
