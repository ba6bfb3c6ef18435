-- One broker is exchanged for one that has started over what the crash left in its lanes: the world is then the machine's restart over
-- the logs that were found, all other brokers, logs and lanes are as they were, and each lane reads as a log.
use Rattle.std.proofs.Common.{◌≡◌, ◌≢◌, ◌⊎◌, inl, inr, ℕ, suc, ◌<◌, Bool, true, false, ◌&&◌, List, [], ◌∷◌, length, get_or, set, map, Option, Some, None, Result, Ok, refl, sym, ap, ◌∙◌, subst, arith}
use Rattle.std.specs.Prelude.{if◌then◌else◌, nat_lt, IsOk, is_ok}
use Rattle.std.proofs.lemmas.Bool.{cases_eq, false≢true}
use Rattle.std.proofs.lemmas.List.{length-set, get_or-set_same, get_or-set_other, map-set, ext_get_or}
use Rattle.gr_out.specs.Lane.{Lane, content, crash_image}
use Rattle.gr_out.proofs.Images.{image_left}
use Rattle.gr_publog.specs.Text.{◌>>=◌}
use Rattle.gr_publog.specs.Lanes.{Found, state_in, HoldsWhatIsFound}
use Rattle.gr_publog.specs.Views.{LogView, Lanes, lanes_at, MayLeavePair}
use Rattle.gr_publog.specs.Opens.{Opens}
use Rattle.gr_pubend.specs.Log.{Log, empty_log}
use Rattle.gr_topo.specs.Topology.{TopologyView, host_of, subscribers_of, not_empty}
use Rattle.gr_model.specs.declared.report.Report.{Report}
use Rattle.gr_model.specs.declared.report.Report.TheVariants as line
use Rattle.gr_model.specs.Net.{numbers, is_host}
use Rattle.gr_model.specs.NetOf.{net_of}
use Rattle.gr_model.specs.Broker.{View, started}
use Rattle.gr_model.specs.World.{World, blank_view, restarted, opened_lines}
use Rattle.gr_model.specs.Opening.{reopened_line}
use Rattle.gr_model_calls.proofs.runs.Schedules.{get_numbers, length_numbers}
use Rattle.gr_broker.specs.Lanes.{log_lane}
use Rattle.gr_broker.specs.Seen.{BrokerView, log_in, view_in, log_said, machine_log}
use Rattle.gr_broker.specs.Of.{IsBrokerOf}
use Rattle.gr_broker.specs.Opened.{LosesNothing, opened_at}
use Rattle.gr_world.specs.Seen.{WorldView, no_broker, broker_in, log_at, world_of, net_in, frame_said}
use Rattle.gr_world.specs.Of.{IsWorld, LaneFits, IsReadable, LanesFit, IsSound}
use Rattle.gr_world.specs.Opened.{IsLeft, IsSoundBut, with_logs}
use Rattle.gr_world.specs.Lanes.{crashed_lanes}
use Rattle.gr_world.specs.Starting.{HasStarted, IsExchanged, OpensAgain, TouchesLanes, LeavesNoLog}
use Rattle.gr_report.proofs.Hosts.{hosted_log, host_is, lanes_apart}
use Rattle.gr_report.proofs.Along.{flat_map_same}
use Rattle.gr_world.proofs.Fresh.{view_alone, lines_alone, started_below}
use Rattle.gr_world.proofs.Opened.{is_read, opens_reserved, opens_unset}
use Rattle.gr_world.proofs.Lanes.{left_pair_now, lanes_same}

-- What a crash may leave

-- lanes that have lost nothing leave now what reads as before, or what they might have left before
lost_none : (late : List ℕ) (before after : Lanes) → LosesNothing late before after → (a b : List ℕ) → MayLeavePair after a b
    → MayLeavePair before a b ⊎ (state_in late a b ≡ state_in late (content before.first) (content before.second))
lost_none late before after n a b left = n.any_moment a b (left_pair_now n.synced after a b left)

-- two lanes that have crashed and lost nothing hold a log
pub still_readable : (late : List ℕ) (before after : Lanes) → IsReadable late before → LosesNothing late (crashed_lanes before) after → IsReadable late after
still_readable late before after reads loses a b left = go (lost_none late (crashed_lanes before) after loses a b left)
  where
    picked : IsOk (state_in late (crash_image before.first) (crash_image before.second))
    picked = reads (crash_image before.first) (crash_image before.second) (image_left before.first, image_left before.second)

    go : MayLeavePair (crashed_lanes before) a b ⊎ (state_in late a b ≡ state_in late (crash_image before.first) (crash_image before.second)) → IsOk (state_in late a b)
    go (inl same) = subst (λ (x : List ℕ). IsOk (state_in late x b)) (sym same.0) (subst (λ (y : List ℕ). IsOk (state_in late (crash_image before.first) y)) (sym same.1) picked)
    go (inr same) = subst (λ r. IsOk r) (sym same) picked

-- so no crash leaves lanes without a log
pub no_log_left : HoldsWhatIsFound → (t : TopologyView) (b p at : ℕ) (ls : Lanes) → LeavesNoLog t b p at ls → IsReadable t.late ls → ⊥
no_log_left holds t b p at ls none reads =
    let x = crash_image ls.first in
    let y = crash_image ls.second in
    absurd (false≢true (subst (λ r. is_ok r ≡ true)
    (holds t.late x y ∙ ap (λ (r : Result Found ℕ). r >>= λ f. Ok f.state) none.fault)
    (reads x y (image_left ls.first, image_left ls.second))))

-- The world with other brokers, and another word on which is down
abbrev pub with_brokers : WorldView → List BrokerView → Option ℕ → WorldView
with_brokers w brokers down = record {
  topo = w.topo;
  brokers = brokers;
  frames = w.frames;
  clock = w.clock;
  most = w.most;
  told = w.told;
  down = down;
  spent = w.spent;
}

-- The lanes of a broker that was to start

module _ (t : TopologyView) (b : ℕ) (before after : ℕ → Lane) (touches : TouchesLanes t b before after) where
  -- those of publishers elsewhere stay
  pub lane_stays : (p : ℕ) → host_of t p ≢ b → lanes_at after (log_lane p) ≡ lanes_at before (log_lane p)
  lane_stays p n =
      lanes_same before after (log_lane p)
      (touches.others (log_lane p) (λ q i at. (lanes_apart t p q (host_of t p) b refl at n).0))
      (touches.others (suc (log_lane p)) (λ q i at. (lanes_apart t p q (host_of t p) b refl at n).1))

  -- and all hold logs still
  pub all_readable : ((p : ℕ) → p < length t.publishers → IsReadable t.late (lanes_at before (log_lane p))) → (p : ℕ) → p < length t.publishers → IsReadable t.late (lanes_at after (log_lane p))
  all_readable readable p i = elim (cases_eq (host_of t p) b) [
    | inl at ↦ still_readable t.late (lanes_at before (log_lane p)) (lanes_at after (log_lane p)) (readable p i) (touches.any_moment p i at)
    | inr n ↦ subst (λ (ls : Lanes). IsReadable t.late ls) (sym (lane_stays p n)) (readable p i)
  ]

-- where it has not started it is down, and the lanes of the others fit
down_lanes : (w : WorldView) (b : ℕ) (before after : ℕ → Lane) → TouchesLanes w.topo b before after → ((p : ℕ) → p < length w.topo.publishers → IsReadable w.topo.late (lanes_at before (log_lane p)))
    → ((p : ℕ) (l : LogView) → p < length w.topo.publishers → host_of w.topo p ≢ b → log_at w p ≡ Some l → LaneFits l (lanes_at before (log_lane p)))
    → LanesFit after (with_brokers w w.brokers (Some b))
down_lanes w b before after touches readable others = record {
  logs = λ unspent p l i up e.
      let n : host_of w.topo p ≢ b = λ at. up (ap (λ (c : ℕ). Some c) (sym at)) in
      subst (λ (ls : Lanes). LaneFits l ls) (sym (lane_stays w.topo b before after touches p n)) (others p l i n e);
  readable = λ unspent p i. all_readable w.topo b before after touches readable p i;
}

-- the same of a world by what it is
pub failed_lanes : (w : WorldView) (b : ℕ) (brokers : List BrokerView) (down : Option ℕ) (before after : ℕ → Lane) → brokers ≡ w.brokers → down ≡ Some b → TouchesLanes w.topo b before after
    → ((p : ℕ) → p < length w.topo.publishers → IsReadable w.topo.late (lanes_at before (log_lane p)))
    → ((p : ℕ) (l : LogView) → p < length w.topo.publishers → host_of w.topo p ≢ b → log_at w p ≡ Some l → LaneFits l (lanes_at before (log_lane p)))
    → LanesFit after (with_brokers w brokers down)
failed_lanes w b brokers down before after same is touches readable others =
    subst (λ (bs : List BrokerView). LanesFit after (with_brokers w bs down)) (sym same)
    (subst (λ (d : Option ℕ). LanesFit after (with_brokers w w.brokers d)) (sym is) (down_lanes w b before after touches readable others))

module _ (w : WorldView) (b : ℕ) (brokers : List BrokerView) (told : List Report) (fits : IsWorld w) (j : b < length w.topo.brokers)
    (x : IsExchanged w.topo b w.brokers brokers told) where
  abbrev again : WorldView
  again = with_brokers w brokers None

  abbrev the_broker : BrokerView
  the_broker = x.broker

  -- the broker is the one that has started, and all others are as they were
  broker_here : broker_in again b ≡ the_broker
  broker_here = ap (λ bs. get_or bs b no_broker) x.place ∙ get_or-set_same w.brokers b the_broker no_broker (omega (arith, fits.count, j))

  broker_there : (c : ℕ) → c ≢ b → broker_in again c ≡ broker_in w c
  broker_there c n = ap (λ bs. get_or bs c no_broker) x.place ∙ get_or-set_other w.brokers b c the_broker no_broker n

  log_here : (p : ℕ) → host_of w.topo p ≡ b → log_at again p ≡ log_in the_broker p
  log_here p at = ap (λ (v : BrokerView). log_in v p) (ap (broker_in again) at ∙ broker_here)

  -- so the logs of other brokers are as they were
  pub log_there : (p : ℕ) → host_of w.topo p ≢ b → log_at again p ≡ log_at w p
  log_there p n = ap (λ (v : BrokerView). log_in v p) (broker_there (host_of w.topo p) n)

  -- The world then

  started_here : HasStarted w.topo b (broker_in again b)
  started_here = subst (λ (v : BrokerView). HasStarted w.topo b v) (sym broker_here) x.started

  -- it is one of the topology still
  pub again_fits : IsWorld again
  again_fits = record {
    count = ap length x.place ∙ length-set w.brokers b the_broker ∙ fits.count;
    brokers = λ c i. elim (cases_eq c b) [
      | inl e ↦ subst (λ (d : ℕ). IsBrokerOf w.topo (broker_in again d)) (sym e) started_here.fits
      | inr n ↦ subst (λ (v : BrokerView). IsBrokerOf w.topo v) (sym (broker_there c n)) (fits.brokers c i)
    ];
    numbered = λ c i. elim (cases_eq c b) [
      | inl e ↦ ap (λ (d : ℕ). (let v : BrokerView = broker_in again d in v.number)) e ∙ started_here.number ∙ sym e
      | inr n ↦ ap (λ (v : BrokerView). v.number) (broker_there c n) ∙ fits.numbered c i
    ];
    spelled = fits.spelled;
    over = fits.over;
    clock = fits.clock;
    most = fits.most;
    down = λ c e. absurd (not_down c e);
  }
    where
      not_down : (c : ℕ) → None ≡ Some c → ⊥
      not_down c e = cc

  -- The broker's logs are new, so where no other was broken none is
  pub again_sound : IsSoundBut b w → IsSound again
  again_sound s = record {
    logs = λ p l i e. elim (cases_eq (host_of w.topo p) b) [
      | inl at ↦ x.started.whole p l (sym (log_here p at) ∙ e)
      | inr n ↦ s.logs p l i n (sym (log_there p n) ∙ e)
    ];
    up = refl;
  }

  -- It is the machine's restart

  module _ (alone : not_empty (subscribers_of w.topo b) ≡ false) where
    abbrev n : ℕ
    n = length w.topo.publishers

    abbrev found : List Log
    found = map (λ p. log_said (log_at again p)) (numbers n)

    found_at : (p : ℕ) → p < n → get_or found p empty_log ≡ log_said (log_at again p)
    found_at p i = get_numbers (λ p. log_said (log_at again p)) 0 n p empty_log i ∙ ap (λ p. log_said (log_at again p)) (omega arith)

    found_here : (p : ℕ) → p < n → is_host (net_of w.topo) p b ≡ true → get_or found p empty_log ≡ machine_log the_broker p
    found_here p i here = found_at p i ∙ ap log_said (log_here p (host_is w.topo p b here))

    view_again : (p : ℕ) → p < n → view_in the_broker p ≡ started (net_of w.topo) p b (get_or found p empty_log)
    view_again p i = x.started.views p i ∙ view_alone (net_of w.topo) p b (machine_log the_broker p) alone ∙ go (is_host (net_of w.topo) p b) refl
      where
        go : (here : Bool) → is_host (net_of w.topo) p b ≡ here → started (net_of w.topo) p b (machine_log the_broker p) ≡ started (net_of w.topo) p b (get_or found p empty_log)
        go true here = ap (started (net_of w.topo) p b) (sym (found_here p i here))
        go false below = started_below (net_of w.topo) p b (machine_log the_broker p) (get_or found p empty_log) below

    abbrev views_again : List View
    views_again = map (λ p. started (net_of w.topo) p b (get_or found p empty_log)) (numbers n)

    views_are : the_broker.views ≡ views_again
    views_are =
        let g : ℕ → View = λ p. started (net_of w.topo) p b (get_or found p empty_log) in
        let many = x.started.fits.views in
        ext_get_or blank_view the_broker.views views_again (many ∙ sym (length_numbers g 0 n))
        (λ p k. let i : p < n = omega (arith, many, k) in view_again p i ∙ sym (get_numbers g 0 n p blank_view i ∙ ap g (omega arith)))

    all_views : map (λ (v : BrokerView). v.views) brokers ≡ set (map (λ (v : BrokerView). v.views) w.brokers) b views_again
    all_views =
        ap (map (λ (v : BrokerView). v.views)) x.place
        ∙ map-set (λ (v : BrokerView). v.views) w.brokers b the_broker
        ∙ ap (set (map (λ (v : BrokerView). v.views) w.brokers) b) views_are

    -- the world is that of the machine
    pub again_world : world_of again ≡ restarted (net_in w) (with_logs (world_of w) found) b
    unfolding restarted
    again_world = ap made all_views
      where
        made : List (List View) → World
        made vs = record { clock = w.clock; most = w.most; frames = map frame_said w.frames; views = vs; logs = found }

    abbrev line_of : ℕ → Log → Bool → List Report
    line_of p log here = if here && nat_lt 0 log.settled then line.Opened p log.last log.settled log.cut ∷ [] else []

    lines_at : (p : ℕ) → p < n → (opened_at (net_of w.topo) p b (machine_log the_broker p)).lines ≡ line_of p (get_or found p empty_log) (is_host (net_of w.topo) p b)
    lines_at p i = lines_alone (net_of w.topo) p b (machine_log the_broker p) alone ∙ go (is_host (net_of w.topo) p b) refl
      where
        go : (here : Bool) → is_host (net_of w.topo) p b ≡ here → (if here then reopened_line (machine_log the_broker p) p else []) ≡ line_of p (get_or found p empty_log) here
        go true here = ap (λ (log : Log). line_of p log true) (sym (found_here p i here))
        go false below = refl

    -- and so are the lines
    pub again_lines : told ≡ opened_lines (net_in w) found b
    unfolding opened_lines
    again_lines = x.lines ∙ flat_map_same (λ p. (opened_at (net_of w.topo) p b (machine_log the_broker p)).lines)
        (λ p. line_of p (get_or found p empty_log) (is_host (net_of w.topo) p b)) 0 n (λ p from upto. lines_at p (omega (arith, upto)))

  -- Its lanes

  module _ (before after : ℕ → Lane) (opens : OpensAgain w.topo b brokers before after) where
    lane_opened : (p : ℕ) (l : LogView) → host_of w.topo p ≡ b → log_at again p ≡ Some l → Opens w.topo.late (log_lane p) (crashed_lanes (lanes_at before (log_lane p))) (lanes_at after (log_lane p)) (Ok l)
    lane_opened p l at e = opens p l (sym (ap (λ (c : ℕ). log_in (broker_in again c) p) at) ∙ e)

    -- the logs are those that the crash left
    pub again_found : (p : ℕ) → p < length w.topo.publishers → host_of w.topo p ≡ b → IsLeft w.topo.late (log_at again p) (lanes_at before (log_lane p))
    again_found p i at =
        let l = hosted_log w.topo b the_broker x.started.fits x.started.number p i at in
        let e = log_here p at ∙ l.1 in
        let ls = lanes_at before (log_lane p) in
        is_read w.topo.late (log_at again p) l.0 (log_lane p) (crash_image ls.first) (crash_image ls.second) e (x.started.fits.lanes p l.0 l.1) (lane_opened p l.0 at e).gives

    -- and the lanes fit them
    pub again_lanes : TouchesLanes w.topo b before after → ((p : ℕ) → p < length w.topo.publishers → IsReadable w.topo.late (lanes_at before (log_lane p)))
        → ((p : ℕ) (l : LogView) → p < length w.topo.publishers → host_of w.topo p ≢ b → log_at w p ≡ Some l → LaneFits l (lanes_at before (log_lane p)))
        → LanesFit after again
    again_lanes touches readable others = record {
      logs = λ unspent p l i up e. elim (cases_eq (host_of w.topo p) b) [
        | inl at ↦
            let old = crashed_lanes (lanes_at before (log_lane p)) in
            let new = lanes_at after (log_lane p) in
            let o = lane_opened p l at e in
            record { ready = λ whole. o.stands; reserved = opens_reserved w.topo.late (log_lane p) old new l o; unset = opens_unset w.topo.late (log_lane p) old new l o (record { first = refl; second = refl }) }
        | inr n ↦ subst (λ (ls : Lanes). LaneFits l ls) (sym (lane_stays w.topo b before after touches p n)) (others p l i n (sym (log_there p n) ∙ e))
      ];
      readable = λ unspent p i. all_readable w.topo b before after touches readable p i;
    }
