-- A world whose brokers have all started: it is one of the topology, its logs are those that the lanes hold, and over empty lanes it
-- is the machine's world before the first step.
use Rattle.std.proofs.Common.{◌≡◌, ℕ, suc, ◌<◌, Bool, true, false, List, [], length, map, Option, Some, None, Result, Ok, Err, OnOk, refl, sym, ap, ap₂, ◌∙◌, subst, arith}
use Rattle.std.proofs.lemmas.List.{length-map, get_or-map, ext_get_or}
use Rattle.gr_out.specs.Lane.{Lane, content}
use Rattle.gr_publog.specs.declared.record.LogFault.{LogFault}
use Rattle.gr_publog.specs.Lanes.{Found, found_none, lanes_text}
use Rattle.gr_publog.specs.Views.{LogView, Lanes, lanes_at, StandsRead}
use Rattle.gr_publog.specs.Opens.{OpensAs, view_of, Settles, Opens}
use Rattle.gr_pubend.specs.Log.{Log, fresh_log, said}
use Rattle.gr_topo.specs.Topology.{TopologyView, IsTopology, host_of}
use Rattle.gr_model.specs.declared.report.Report.{Report}
use Rattle.gr_model.specs.Net.{numbers}
use Rattle.gr_model.specs.NetOf.{net_of}
use Rattle.gr_model.specs.Broker.{View, started}
use Rattle.gr_model.specs.World.{World, blank_view, start_by}
use Rattle.gr_model_calls.proofs.runs.Schedules.{get_numbers, length_numbers}
use Rattle.gr_broker.specs.Lanes.{log_lane, AreUnset}
use Rattle.gr_broker.specs.Seen.{BrokerView, log_in, view_in, log_said, machine_log}
use Rattle.gr_broker.specs.Opened.{opened_at}
use Rattle.gr_world.specs.Lanes.{AreReserved}
use Rattle.gr_world.specs.Seen.{WorldView, no_broker, broker_in, log_at, world_of}
use Rattle.gr_world.specs.Of.{IsWorld, LanesFit}
use Rattle.gr_world.specs.Opened.{NoStops, AreEmpty, IsRead, IsFound, IsOpened}
use Rattle.gr_world.specs.Starting.{start_lines, HasStarted, HaveStarted, HaveOpened}
use Rattle.gr_report.proofs.Hosts.{hosted_log}
use Rattle.gr_report.proofs.Along.{flat_map_none, map_same}
use Rattle.gr_report.proofs.Readable.{found_same, nothing_found, stands_readable}
use Rattle.gr_world.proofs.Fresh.{fresh_view, fresh_lines, fresh_same}

-- Over lanes that read nothing

-- what is said of the log that they hold is the machine's first log
said_first : (late : List ℕ) (lane : ℕ) (a b : List ℕ) (l : LogView) → a ≡ [] → b ≡ [] → OpensAs late lane a b (Ok l) → said l ≡ fresh_log true
said_first late lane a b l none too o =
    let found : lanes_text late [] [] ≡ Ok o.0 = ap₂ (lanes_text late) (sym none) (sym too) ∙ o.1 in
    let same : o.0 ≡ found_none late = found_same late [] [] o.0 (found_none late) found (nothing_found late) in
    ap said o.2
    ∙ (ap (λ (f : Found). said (view_of lane a b f)) same
    ∙ ap₂ (λ (x y : List ℕ). said (view_of lane x y (found_none late))) none too)

-- What an opening leaves

-- a log is what its lanes held
pub is_read : (late : List ℕ) (o : Option LogView) (l : LogView) (lane : ℕ) (a b : List ℕ) → o ≡ Some l → l.lane ≡ lane → OpensAs late lane a b (Ok l) → IsRead late o a b
is_read late o l lane a b e same opens =
    subst (λ (x : Option LogView). IsRead late x a b) (sym e) (subst (λ (n : ℕ). OpensAs late n a b (Ok l)) (sym same) opens)

-- where it was answered the syncs came through
opens_by : {P : Type 0} (late : List ℕ) (lane : ℕ) (before after : Lanes) (l : LogView) (o : Opens late lane before after (Ok l))
    → ((u : Unit {0}) → o.answer ≡ Ok u → Settles late lane o.synced after (Ok l) → P) → P
opens_by {P} late lane before after l o f = go o.answer refl
  where
    no_fault : (e : LogFault) → ◌≡◌ {A = Result LogView LogFault} (Ok l) (Err e) → ⊥
    no_fault e h = cc

    go : (x : Result (Unit {0}) LogFault) → o.answer ≡ x → P
    go (Ok u) e = f u e (subst (λ (y : Result (Unit {0}) LogFault). OnOk y (Settles late lane o.synced after (Ok l))) e o.settles)
    go (Err h) e = absurd (no_fault h (o.stops h e).1)

-- room was made in both lanes
pub opens_reserved : (late : List ℕ) (lane : ℕ) (before after : Lanes) (l : LogView) → Opens late lane before after (Ok l) → AreReserved after
opens_reserved late lane before after l o =
    opens_by late lane before after l o (λ u e s.
    let room = subst (λ (y : Result (Unit {0}) LogFault). OnOk y ((o.synced.first.reserved ≡ true) × (o.synced.second.reserved ≡ true))) e o.syncs.reserved in
    record { first = s.reserved_first room.0; second = s.reserved_second room.1 })

-- and no stop was ordered
pub opens_unset : (late : List ℕ) (lane : ℕ) (before after : Lanes) (l : LogView) → Opens late lane before after (Ok l) → AreUnset before → AreUnset after
opens_unset late lane before after l o u =
    opens_by late lane before after l o (λ x e s. record { first = s.unset_first (o.syncs.unset_first u.first); second = s.unset_second (o.syncs.unset_second u.second) })

-- a world at its first moment
abbrev pub world_at : TopologyView → List BrokerView → List Report → List (List ℕ) → WorldView
world_at t brokers told frames = record { topo = t; brokers = brokers; frames = frames; clock = 0; most = 0; told = told; down = None; spent = false }

module _ (t : TopologyView) (brokers : List BrokerView) (told : List Report) (sound : IsTopology t) (s : HaveStarted t (length t.brokers) brokers told) where
  abbrev opened_world : WorldView
  opened_world = world_at t brokers told []

  broker_at : (p : ℕ) → p < length t.publishers → HasStarted t (host_of t p) (broker_in opened_world (host_of t p))
  broker_at p j = s.each (host_of t p) (sound.sound.host_in p j)

  whole_at : (p : ℕ) (l : LogView) → p < length t.publishers → log_at opened_world p ≡ Some l → l.broken ≡ false
  whole_at p l j e = (broker_at p j).whole p l e

  -- it is a world of the topology
  pub opened_fits : IsWorld opened_world
  opened_fits = record {
    count = s.count;
    brokers = λ b j. (s.each b j).fits;
    numbered = λ b j. (s.each b j).number;
    spelled = tt;
    over = tt;
    clock = omega arith;
    most = omega arith;
    down = λ b e. absurd (not_down b e);
  }
    where
      not_down : (b : ℕ) → None ≡ Some b → ⊥
      not_down b e = cc

  -- in which each broker has started over the logs that it has
  pub is_opened : IsOpened t opened_world
  is_opened = record {
    topo = refl;
    clock = refl;
    most = refl;
    frames = refl;
    unspent = refl;
    sound = record { logs = whole_at; up = refl };
    views = λ b p i j. (s.each b i).views p j;
    told = s.lines;
  }

  -- each publisher has a log, at its host
  has_log : (p : ℕ) → p < length t.publishers → (l : LogView) × (log_at opened_world p ≡ Some l)
  has_log p j = let h = broker_at p j in hosted_log t (host_of t p) (broker_in opened_world (host_of t p)) h.fits h.number p j refl

  module _ (before after : ℕ → Lane) (o : HaveOpened t (length t.brokers) brokers before after) where
    lane_opened : (p : ℕ) (l : LogView) → p < length t.publishers → log_at opened_world p ≡ Some l → Opens t.late (log_lane p) (lanes_at before (log_lane p)) (lanes_at after (log_lane p)) (Ok l)
    lane_opened p l j e = o.opened (host_of t p) p l (sound.sound.host_in p j) e

    -- the logs are those that the lanes hold
    pub opened_found : (p : ℕ) → p < length t.publishers → IsFound t.late (log_at opened_world p) (lanes_at before (log_lane p))
    opened_found p j =
        let l = has_log p j in
        let ls = lanes_at before (log_lane p) in
        is_read t.late (log_at opened_world p) l.0 (log_lane p) (content ls.first) (content ls.second) l.1 ((broker_at p j).fits.lanes p l.0 l.1) (lane_opened p l.0 j l.1).gives

    -- and the lanes fit them
    pub opened_lanes : StandsRead → NoStops before → LanesFit after opened_world
    opened_lanes read none = record {
      logs = λ unspent p l j up e.
          let old = lanes_at before (log_lane p) in
          let new = lanes_at after (log_lane p) in
          let x = lane_opened p l j e in
          record { ready = λ whole. x.stands; reserved = opens_reserved t.late (log_lane p) old new l x; unset = opens_unset t.late (log_lane p) old new l x (record { first = none (log_lane p); second = none (suc (log_lane p)) }) };
      readable = λ unspent p j. let l = has_log p j in stands_readable read (lanes_at after (log_lane p)) l.0 t.late (lane_opened p l.0 j l.1).stands ((broker_at p j).fits.late p l.0 l.1);
    }

    -- Over empty lanes

    module _ (empty : AreEmpty t before) where
      said_empty : (p : ℕ) (l : LogView) (j : p < length t.publishers) → OpensAs t.late (log_lane p) (content (before (log_lane p))) (content (before (suc (log_lane p)))) (Ok l) → said l ≡ fresh_log true
      said_empty p l j o = said_first t.late (log_lane p) (content (before (log_lane p))) (content (before (suc (log_lane p)))) l (empty p j).0 (empty p j).1 o

      -- the machine's log is an empty one, and at the host one that forgets
      log_empty : (b p : ℕ) → b < length t.brokers → p < length t.publishers → (forgets : Bool) × (machine_log (broker_in opened_world b) p ≡ fresh_log forgets)
      log_empty b p i j = go (log_in (broker_in opened_world b) p) refl
        where
          go : (x : Option LogView) → log_in (broker_in opened_world b) p ≡ x → (forgets : Bool) × (log_said (log_in (broker_in opened_world b) p) ≡ fresh_log forgets)
          go None e = (false, ap log_said e)
          go (Some l) e = (true, ap log_said e ∙ said_empty p l j (o.opened b p l i e).gives)

      abbrev fresh_views : ℕ → List View
      fresh_views b = map (λ p. started (net_of t) p b (fresh_log true)) (numbers (length t.publishers))

      view_fresh : (b p : ℕ) → b < length t.brokers → p < length t.publishers → view_in (broker_in opened_world b) p ≡ started (net_of t) p b (fresh_log true)
      view_fresh b p i j =
          let log = log_empty b p i j in
          (s.each b i).views p j
          ∙ ap (λ (log : Log). (opened_at (net_of t) p b log).view) log.1
          ∙ (fresh_view (net_of t) p b log.0 ∙ fresh_same (net_of t) p b log.0 true)

      views_fresh : (b : ℕ) → b < length t.brokers → (broker_in opened_world b).views ≡ fresh_views b
      views_fresh b i =
          let g : ℕ → View = λ p. started (net_of t) p b (fresh_log true) in
          let many = (s.each b i).fits.views in
          ext_get_or blank_view (broker_in opened_world b).views (fresh_views b)
          (many ∙ sym (length_numbers g 0 (length t.publishers)))
          (λ p j. let k : p < length t.publishers = omega (arith, many, j) in
          view_fresh b p i k ∙ sym (get_numbers g 0 (length t.publishers) p blank_view k ∙ ap g (omega arith)))

      all_views : map (λ (v : BrokerView). v.views) brokers ≡ map fresh_views (numbers (length t.brokers))
      all_views =
          ext_get_or [] (map (λ (v : BrokerView). v.views) brokers) (map fresh_views (numbers (length t.brokers)))
          (length-map brokers (λ (v : BrokerView). v.views) ∙ s.count ∙ sym (length_numbers fresh_views 0 (length t.brokers)))
          (λ b j. let i : b < length t.brokers = omega (arith, s.count, length-map brokers (λ (v : BrokerView). v.views), j) in
          get_or-map (λ (v : BrokerView). v.views) brokers b no_broker [] (omega (arith, s.count, i))
          ∙ views_fresh b i ∙ sym (get_numbers fresh_views 0 (length t.brokers) b [] i ∙ ap fresh_views (omega arith)))

      log_fresh : (p : ℕ) → p < length t.publishers → log_said (log_at opened_world p) ≡ fresh_log true
      log_fresh p j = let l = has_log p j in ap log_said l.1 ∙ said_empty p l.0 j (lane_opened p l.0 j l.1).gives

      all_logs : map (λ p. log_said (log_at opened_world p)) (numbers (length t.publishers)) ≡ map (λ p. fresh_log true) (numbers (length t.publishers))
      all_logs = map_same (λ p. log_said (log_at opened_world p)) (λ p. fresh_log true) 0 (length t.publishers) (λ p from upto. log_fresh p (omega (arith, upto)))

      -- the machine's world before the first step
      pub fresh_world : world_of opened_world ≡ start_by true (net_of t)
      unfolding start_by
      fresh_world = ap₂ made all_views all_logs
        where
          made : List (List View) → List Log → World
          made vs ls = record { clock = 0; most = 0; frames = []; views = vs; logs = ls }

      nothing_at : (b : ℕ) → b < length t.brokers → start_lines t b (broker_in opened_world b) ≡ []
      nothing_at b i = flat_map_none (λ p. (opened_at (net_of t) p b (machine_log (broker_in opened_world b) p)).lines) 0 (length t.publishers) (λ p from upto.
          let j : p < length t.publishers = omega (arith, upto) in
          let log = log_empty b p i j in
          ap (λ (log : Log). (opened_at (net_of t) p b log).lines) log.1 ∙ fresh_lines (net_of t) p b log.0)

      -- and nothing is told
      pub fresh_told : told ≡ []
      fresh_told = s.lines ∙ flat_map_none (λ b. start_lines t b (broker_in opened_world b)) 0 (length t.brokers) (λ b from upto. nothing_at b (omega (arith, upto)))
