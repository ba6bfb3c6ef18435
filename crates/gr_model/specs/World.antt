-- All brokers, the frames sent, and the report of a schedule
use Rattle.std.specs.Prelude.{ℕ, zero, suc, ◌+◌, ◌-◌, max, Bool, true, false, ◌&&◌, nat_eq, nat_le, nat_lt}
use Rattle.std.specs.Prelude.{List, [], ◌∷◌, ◌++◌, length, map, filter, get_or, set, Option, Some, None, slice_get}
use Rattle.std.specs.Prelude.{flat_map, if◌then◌else◌}
use Rattle.gr_event.specs.declared.event.Event.{Event}
use Rattle.gr_frame.specs.declared.Body.TheVariants as body
use Rattle.gr_frame.specs.declared.Frame.{Frame}
use Rattle.gr_frame.specs.Bytes.{frame_bytes}
use Rattle.gr_sched.specs.declared.step.Stop.{Stop}
use Rattle.gr_sched.specs.declared.step.Step.TheVariants as step
use Rattle.gr_sched.specs.declared.step.Line.{Line}
use Rattle.gr_model.specs.declared.report.Report.{Report}
use Rattle.gr_model.specs.declared.report.Report.TheVariants as line
use Rattle.gr_model.specs.Net.{Net, keeps_horizon, not_empty, numbers}
use Rattle.gr_model.specs.Broker.{max_tick, View, Log, Outcome, empty_log, with_event, publish, wake, receive, started}
use Rattle.gr_model.specs.Broker.{taking, joining, view_joined, seen, fresh_log, is_kept}

pub record World : Type 0 where
  pub clock : ℕ
  pub most : ℕ  -- the greatest of all moments that the clock had
  pub frames : List Frame  -- all that were sent; a frame's number is its place from 1
  pub views : List (List View)  -- broker by broker, publisher by publisher
  pub logs : List Log  -- publisher by publisher

-- a world and the lines told on the way to it
pub record Transition : Type 0 where
  pub world : World
  pub lines : List Report

-- a view in which nothing is known or asked
abbrev pub blank_view : View
blank_view = record { know = []; wants = []; asks = []; horizon = 0; joins = [] }

-- what a broker keeps for a publisher; the log of a publisher
abbrev pub view_of : World → ℕ → ℕ → View
view_of w b p = get_or (get_or w.views b []) p blank_view

abbrev pub log_of : World → ℕ → Log
log_of w p = get_or w.logs p empty_log

-- the views with one changed
abbrev pub with_view : List (List View) → ℕ → ℕ → View → List (List View)
with_view views b p v = set views b (set (get_or views b []) p v)

-- the line of a frame with its number
unfoldable pub sent_line : ℕ → Frame → Report
sent_line n f =
    elim f.body [
      | body.Knowledge runs js ↦ line.SentKnow n f.head.from f.head.to f.head.publisher runs js
      | body.Curiosity runs ↦ line.SentWant n f.head.from f.head.to f.head.publisher runs
      | body.Expect tick ↦ line.SentExpect n f.head.from f.head.to f.head.publisher tick
    ]

-- the lines of frames with numbers from n on
abbrev pub sent_lines : ℕ → List Frame → List Report
sent_lines n [] = []
sent_lines n (f ∷ fs) = sent_line n f ∷ sent_lines (suc n) fs

-- a broker's call for a publisher is taken up
unfoldable pub absorbed : World → ℕ → ℕ → Outcome → Transition
absorbed w b p o = record {
  world = record {
    clock = w.clock;
    most = w.most;
    frames = w.frames ++ o.frames;
    views = with_view w.views b p o.view;
    logs = set w.logs p o.log;
  };
  lines = o.lines ++ sent_lines (suc (length w.frames)) o.frames;
}

-- the world stays, and some lines are told
abbrev pub unchanged : World → List Report → Transition
unchanged w ls = record { world = w; lines = ls }

-- one after another
abbrev pub followed_by : Transition → (World → Transition) → Transition
followed_by s f = let r = f s.world in record { world = r.world; lines = s.lines ++ r.lines }

-- for each of a list, one after another
abbrev pub in_turn : {X : Type 0} → (World → X → Transition) → List X → World → Transition
in_turn f [] w = unchanged w []
in_turn f (x ∷ xs) w = followed_by (f w x) (in_turn f xs)

-- one broker is woken for one publisher; for all
unfoldable pub wake_for_by : (View → Net) → Net → World → ℕ → ℕ → Transition
wake_for_by see net w b p = absorbed w b p (wake (see (view_of w b p)) p b w.clock (view_of w b p) (log_of w p))

abbrev pub wake_for : Net → World → ℕ → ℕ → Transition
wake_for net = wake_for_by (seen net) net

unfoldable pub wake_all_by : (View → Net) → Net → World → ℕ → Transition
wake_all_by see net w b = in_turn (λ u p. wake_for_by see net u b p) (numbers net.publishers) w

abbrev pub wake_all : Net → World → ℕ → Transition
wake_all net = wake_all_by (seen net) net

-- a frame reaches its receiver
unfoldable pub deliver_frame_by : (View → Net) → Net → World → Frame → Transition
deliver_frame_by see net w f =
    absorbed w f.head.to f.head.publisher (receive (see (taking (view_of w f.head.to f.head.publisher) f)) w.clock f
    (view_of w f.head.to f.head.publisher) (log_of w f.head.publisher))

abbrev pub deliver_frame : Net → World → Frame → Transition
deliver_frame net = deliver_frame_by (seen net) net

-- the frame of this number, from 1
abbrev pub frame_at : World → ℕ → Option Frame
frame_at w zero = None
frame_at w (suc k) = slice_get w.frames k

-- a publish at the host
unfoldable pub publish_now_by : (View → Net) → Net → World → ℕ → ℕ → Event → Transition
publish_now_by see net w p number e =
    absorbed w (net.host p) p (publish (see (view_of w (net.host p) p)) p (net.host p) w.clock number e
    (view_of w (net.host p) p) (log_of w p))

abbrev pub publish_now : Net → World → ℕ → ℕ → Event → Transition
publish_now net = publish_now_by (seen net) net

-- a join at the host
unfoldable pub join_now_by : (View → Net) → Net → World → ℕ → ℕ → Transition
join_now_by see net w s p =
    absorbed w (net.host p) p (joining (see (view_joined (log_of w p) s w.clock (view_of w (net.host p) p))) p
    (net.host p) w.clock s (view_of w (net.host p) p) (log_of w p))

abbrev pub join_now : Net → World → ℕ → ℕ → Transition
join_now net = join_now_by (seen net) net

-- the opened lines of a broker's publishers
unfoldable pub opened_lines : Net → List Log → ℕ → List Report
opened_lines net logs b =
    flat_map (λ p. let log = get_or logs p empty_log in if nat_eq (net.host p) b && nat_lt 0 log.settled
    then line.Opened p log.last log.settled log.cut ∷ [] else []) (numbers net.publishers)

-- the broker starts again
unfoldable pub restarted : Net → World → ℕ → World
restarted net w b = record {
  clock = w.clock;
  most = w.most;
  frames = w.frames;
  logs = w.logs;
  views = set w.views b (map (λ p. started net p b (get_or w.logs p empty_log)) (numbers net.publishers));
}

-- a broker stops and starts again
unfoldable pub crash : Net → World → ℕ → Transition
crash net w b = record { world = restarted net w b; lines = line.Crashed b ∷ opened_lines net w.logs b }

-- a publish stops within: the host crashes with the event kept or lost, unless a subscriber is there
unfoldable pub publish_stopped_by : (View → Net) → Net → World → ℕ → ℕ → ℕ → Stop → Event → Transition
publish_stopped_by see net w number_of_line p number stop e =
    let b = net.host p in
    let log = log_of w p in
    let tick = max (suc log.settled) w.clock in
    elim (not_empty (net.subscribers_at b)) [
      | true ↦ unchanged w (line.RefusedHosts number_of_line b ∷ [])
      | false ↦ elim (nat_eq number (suc log.last) && nat_le tick max_tick) [
        | false ↦ publish_now_by see net w p number e
        | true ↦
            let kept = is_kept (log.size - 1) stop.call stop.pick in
            let logs = if kept then set w.logs p (with_event log tick e) else w.logs in
            let u : World = record {
              clock = w.clock;
              most = w.most;
              frames = w.frames;
              views = w.views;
              logs = logs;
            } in
            record {
              world = restarted net u b;
              lines = line.Crashed b ∷ ((if kept then line.Kept p number tick
                  else line.Lost p number tick) ∷ opened_lines net logs b);
            }
      ]
    ]

abbrev pub publish_stopped : Net → World → ℕ → ℕ → ℕ → Stop → Event → Transition
publish_stopped net = publish_stopped_by (seen net) net

-- The sweep

-- the greatest of the numbers, or 0
abbrev pub greatest_settled : List ℕ → ℕ
greatest_settled [] = 0
greatest_settled (n ∷ ns) = max n (greatest_settled ns)

-- a moment at which every ask is due again and every log is silent for long
unfoldable pub sweep_moment : Net → World → ℕ
sweep_moment net w = max w.most (greatest_settled (map (λ l.
    l.settled) w.logs)) + net.gap + net.idle + net.retry + net.quiet + 1

-- the brokers at one depth
abbrev pub at_depth : Net → ℕ → ℕ → List ℕ
at_depth net p d = filter (λ b. nat_eq (net.depth p b) d) (numbers net.brokers)

-- all brokers by rising depth; by falling depth
abbrev pub outwards : Net → ℕ → List ℕ
outwards net p = flat_map (at_depth net p) (numbers net.brokers)

-- n - 1, n - 2, .. 0
abbrev pub numbers_down : ℕ → List ℕ
numbers_down zero = []
numbers_down (suc n) = n ∷ numbers_down n

abbrev pub inwards : Net → ℕ → List ℕ
inwards net p = flat_map (at_depth net p) (numbers_down net.brokers)

-- the frame goes upwards
abbrev pub is_want : Frame → Bool
is_want f = elim f.body [ body.Curiosity runs ↦ true | _ ↦ false ]

-- the frame brings knowledge of p to b
abbrev pub is_know_to : ℕ → ℕ → Frame → Bool
is_know_to p b f = elim f.body [
  | body.Knowledge runs js ↦ nat_eq f.head.publisher p && nat_eq f.head.to b
  | _ ↦ false
]

-- the frames of a world past the first so many
abbrev pub frames_past : ℕ → List Frame → List Frame
frames_past zero fs = fs
frames_past (suc n) [] = []
frames_past (suc n) (f ∷ fs) = frames_past n fs

-- the frames that were sent between two worlds
abbrev pub sent_since : World → World → List Frame
sent_since old new = frames_past (length old.frames) new.frames

-- the upward frames are delivered at once, with those that this sends, at most so deep
unfoldable pub deliver_up_by : (View → Net) → Net → ℕ → List Frame → World → Transition
deliver_up_by see net zero fs w = unchanged w []
deliver_up_by see net (suc fuel) fs w = in_turn (λ u f. followed_by (deliver_frame_by see net u f) (λ x.
    deliver_up_by see net fuel (filter is_want (sent_since u x)) x)) fs w

abbrev pub deliver_up : Net → ℕ → List Frame → World → Transition
deliver_up net = deliver_up_by (seen net) net

-- a broker is woken, and the upward frames that this sends are delivered at once
unfoldable pub wake_up_by : (View → Net) → Net → ℕ → World → ℕ → Transition
wake_up_by see net p w b = followed_by (wake_for_by see net w b p) (λ u.
    deliver_up_by see net net.brokers (filter is_want (sent_since w u)) u)

abbrev pub wake_up : Net → ℕ → World → ℕ → Transition
wake_up net = wake_up_by (seen net) net

-- the knowledge sent to a broker in this sweep is delivered
unfoldable pub hand_down_by : (View → Net) → Net → ℕ → ℕ → World → ℕ → Transition
hand_down_by see net p first w b =
    in_turn (deliver_frame_by see net) (filter (is_know_to p b) (frames_past first w.frames)) w

abbrev pub hand_down : Net → ℕ → ℕ → World → ℕ → Transition
hand_down net = hand_down_by (seen net) net

-- the three phases for a publisher
unfoldable pub sweep_for_by : (View → Net) → Net → World → ℕ → Transition
sweep_for_by see net w p =
    let first = length w.frames in
    followed_by (followed_by (in_turn (wake_up_by see net p) (inwards net p) w)
    (in_turn (hand_down_by see net p first) (outwards net p))) (in_turn (wake_up_by see net p) (inwards net p))

abbrev pub sweep_for : Net → World → ℕ → Transition
sweep_for net = sweep_for_by (seen net) net

-- a sweep moves the clock far ahead and settles each publisher, unless the clock would pass the last tick
unfoldable pub sweep_by : (View → Net) → Net → World → ℕ → Transition
sweep_by see net w number_of_line =
    let m = sweep_moment net w in
    elim (nat_lt max_tick m) [
      | true ↦ unchanged w (line.RefusedClock number_of_line m ∷ [])
      | false ↦
          let u : World = record {
            clock = m;
            most = max m w.most;
            frames = w.frames;
            views = w.views;
            logs = w.logs;
          } in
          followed_by (in_turn (sweep_for_by see net) (numbers net.publishers) u) (λ x. unchanged x (line.Swept m ∷ []))
    ]

abbrev pub sweep : Net → World → ℕ → Transition
sweep net = sweep_by (seen net) net

-- What is shown

-- how many events are past the cut
abbrev pub kept_events : Log → ℕ
kept_events log = length (filter (λ x. nat_lt log.cut x.0) log.events)

-- how many frames were sent, each log, and each kept horizon
unfoldable pub show : Net → World → List Report
show net w =
    line.Frames (length w.frames) ∷
    (map (λ p. let l = log_of w p in line.LogOf p l.last l.settled l.cut (kept_events l)) (numbers net.publishers)
    ++ flat_map (λ b. flat_map (λ p. if keeps_horizon net p b then line.Doubt b p (view_of w b p).horizon ∷ []
    else []) (numbers net.publishers)) (numbers net.brokers))

-- One step, and all

-- what a step leaves and tells
unfoldable pub next_by : (View → Net) → Net → World → Line → Transition
next_by see net w l =
    elim l.step [
      | step.Clock now ↦ unchanged (record {
        clock = now;
        most = max now w.most;
        frames = w.frames;
        views = w.views;
        logs = w.logs;
      }) []
      | step.Publish p number stop e ↦ elim stop [
        | None ↦ publish_now_by see net w p number e
        | Some s ↦ publish_stopped_by see net w l.number p number s e
      ]
      | step.Wake b ↦ wake_all_by see net w b
      | step.Deliver k ↦
          elim (frame_at w k) [
            | None ↦ unchanged w (line.RefusedFrame l.number k (length w.frames) ∷ [])
            | Some f ↦ deliver_frame_by see net w f
          ]
      | step.Crash b ↦ elim (not_empty (net.subscribers_at b)) [
        | true ↦ unchanged w (line.RefusedHosts l.number b ∷ [])
        | false ↦ crash net w b
      ]
      | step.Sweep ↦ sweep_by see net w l.number
      | step.Join s p ↦ join_now_by see net w s p
      | step.Show ↦ unchanged w (show net w)
      | step.Bytes k ↦
          elim (frame_at w k) [
            | None ↦ unchanged w (line.RefusedFrame l.number k (length w.frames) ∷ [])
            | Some f ↦ unchanged w (line.BytesOf k (frame_bytes f) ∷ [])
          ]
    ]

abbrev pub next : Net → World → Line → Transition
next net = next_by (seen net) net

-- the world before the first step, with logs that forget or not
unfoldable pub start_by : Bool → Net → World
start_by forgets net = record {
  clock = 0;
  most = 0;
  frames = [];
  views = map (λ b. map (λ p. started net p b (fresh_log forgets)) (numbers net.publishers)) (numbers net.brokers);
  logs = map (λ p. fresh_log forgets) (numbers net.publishers);
}

-- with logs that keep all events
abbrev pub start : Net → World
start = start_by false

-- the lines of each step
unfoldable pub run_from_by : (View → Net) → Net → World → List Line → List (List Report)
run_from_by see net w [] = []
run_from_by see net w (l ∷ ls) = let s = next_by see net w l in s.lines ∷ run_from_by see net s.world ls

abbrev pub run_from : Net → World → List Line → List (List Report)
run_from net = run_from_by (seen net) net

-- the lines of each step, the first for the start
unfoldable pub report_of_by : (View → Net) → Net → List Line → List (List Report)
report_of_by see net steps = [] ∷ run_from_by see net (start net) steps

abbrev pub report_of : Net → List Line → List (List Report)
report_of net = report_of_by (seen net) net

-- a whole schedule: the world after it, and all that is told
abbrev pub run_all_by : (View → Net) → Net → World → List Line → Transition
run_all_by see net w [] = unchanged w []
run_all_by see net w (l ∷ ls) = followed_by (next_by see net w l) (λ u. run_all_by see net u ls)

abbrev pub run_all : Net → World → List Line → Transition
run_all net = run_all_by (seen net) net
