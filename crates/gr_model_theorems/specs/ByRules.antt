-- A run of a schedule by the rules of the calls, with no word of how anything is computed: each definition relates a
-- state to what is left and told from it. Of every schedule these relations allow exactly one report (`runs_by_rules`).
use Rattle.std.specs.Prelude.{◌≡◌, ℕ, zero, suc, ◌<◌, max, Bool, true, false, ◌&&◌, nat_lt, if◌then◌else◌, List, []}
use Rattle.std.specs.Prelude.{◌∷◌, ◌++◌, ◌-◌, length, map, filter, get_or, set, Some, None, flat_map}
use Rattle.gr_event.specs.declared.event.Event.{Event}
use Rattle.gr_frame.specs.declared.Frame.{Frame}
use Rattle.gr_frame.specs.Bytes.{frame_bytes}
use Rattle.gr_sched.specs.declared.step.Stop.{Stop}
use Rattle.gr_sched.specs.declared.step.Step.{Step}
use Rattle.gr_sched.specs.declared.step.Step.TheVariants as step
use Rattle.gr_sched.specs.declared.step.Line.{Line}
use Rattle.gr_model.specs.declared.report.Report.{Report}
use Rattle.gr_model.specs.declared.report.Report.TheVariants as line
use Rattle.gr_model.specs.Net.{Net, is_host, keeps_horizon, not_empty, numbers}
use Rattle.gr_model.specs.Broker.{View, Log, Outcome, empty_log, with_event, log_at, is_kept}
use Rattle.gr_model.specs.World.{World, Transition, blank_view, view_of, log_of, with_view, sent_lines, frame_at}
use Rattle.gr_model.specs.World.{frames_past, sent_since, is_want, is_know_to, inwards, outwards, sweep_moment}
use Rattle.gr_model.specs.World.{kept_events}
use Rattle.gr_model.specs.Opening.{reopened_log, reopened_line, publishers_at}
use Rattle.gr_model_calls.specs.Rules.{TakesJoin, HasKnown, NewTicks, Publishes, Wakes, Comes}
use Rattle.gr_model_theorems.specs.Settles.{is_accepted}
use Rattle.gr_model_theorems.specs.Obeys.{is_next_of}

-- A state is the clock and its greatest moment so far, the frames that were sent, the views and the logs (`World`).
-- With the lines told on the way to it, it is a `Told`.

-- One after another

-- nothing changes, and these lines are told
pub record Tells (ls : List Report) (w : World) (t : Transition) : Type 0 where
  pub world : t.world ≡ w
  pub lines : t.lines ≡ ls

-- first one thing happens, and then another in the state that this leaves
pub record Then (First Second : World → Transition → Type 0) (w : World) (t : Transition) : Type 0 where
  pub first : Transition
  pub happens : First w first
  pub second : Transition
  pub follows : Second first.world second
  -- the state is that of the second; the lines are those of both, in their order
  pub world : t.world ≡ second.world
  pub lines : t.lines ≡ first.lines ++ second.lines

-- something happens for each of a list, in its order
abbrev pub EachInTurn : {X : Type 0} → (X → World → Transition → Type 0) → List X → World → Transition → Type 0
EachInTurn Happens [] w t = Tells [] w t
EachInTurn Happens (x ∷ xs) w t = Then (Happens x) (EachInTurn Happens xs) w t

-- Starts

-- what a broker keeps for a publisher when it starts
pub record Starts (net : Net) (p b : ℕ) (log : Log) (v : View) : Type 0 where
  -- the host knows what the log says of each tick, and any other broker nothing
  pub at_host : is_host net p b ≡ true → HasKnown (log_at log) v.know
  pub below : is_host net p b ≡ false → v.know ≡ []
  -- no child has asked or acknowledged, nothing was asked, and the horizon is 0
  pub wants : v.wants ≡ map (λ _. []) (net.children p b)
  pub asks : v.asks ≡ []
  pub horizon : v.horizon ≡ 0
  -- the host holds the joins of the log, and any other broker none
  pub joins_at_host : is_host net p b ≡ true → v.joins ≡ log.joins
  pub joins_below : is_host net p b ≡ false → v.joins ≡ []

-- what it keeps when it starts over these logs: one view for each publisher, in order
pub record StartsAll (net : Net) (b : ℕ) (logs : List Log) (views : List View) : Type 0 where
  pub long : length views ≡ net.publishers
  pub each : (p : ℕ) → p < net.publishers → Starts net p b (get_or logs p empty_log) (get_or views p blank_view)

-- before anything happens, where these logs were found
pub record BeginsOver (net : Net) (found : List Log) (w : World) : Type 0 where
  -- the clock stands at 0, and no frame was sent
  pub clock : w.clock ≡ 0
  pub most : w.most ≡ 0
  pub frames : w.frames ≡ []
  -- each publisher has the log that was found, and each broker is as it starts
  pub logs : w.logs ≡ map (reopened_log found) (numbers net.publishers)
  pub long : length w.views ≡ net.brokers
  pub views : (b : ℕ) → b < net.brokers → StartsAll net b w.logs (get_or w.views b [])

-- where none was found, each log is empty
abbrev pub Begins : Net → World → Type 0
Begins net w = BeginsOver net [] w

-- broker b starts again over these logs
pub record StartsAgain (net : Net) (b : ℕ) (logs : List Log) (w u : World) : Type 0 where
  -- its views are those of a start, and no other view changes
  pub fresh : List View
  pub starts : StartsAll net b logs fresh
  pub views : u.views ≡ set w.views b fresh
  -- the logs are these; what was sent, the clock and its greatest moment stay
  pub logs_are : u.logs ≡ logs
  pub frames : u.frames ≡ w.frames
  pub clock : u.clock ≡ w.clock
  pub most : u.most ≡ w.most

-- some subscriber is at the broker
abbrev pub has_subscriber : Net → ℕ → Bool
has_subscriber net b = not_empty (net.subscribers_at b)

-- the line of a log that a broker opens when it starts: of each of its publishers whose log is not empty
abbrev pub opened_line : Net → ℕ → List Log → ℕ → List Report
opened_line net b logs p =
    let log = get_or logs p empty_log in
    if is_host net p b && nat_lt 0 log.settled then line.Opened p log.last log.settled log.cut ∷ [] else []

-- of all its publishers, in order
abbrev pub opened : Net → ℕ → List Log → List Report
opened net b logs = flat_map (opened_line net b logs) (numbers net.publishers)

-- Calls

-- A call of broker b for publisher p has an outcome by its rule, of the view that b has of p and of the log of p
pub record Calls (b p : ℕ) (Rule : View → Log → Outcome → Type 0) (w : World) (t : Transition) : Type 0 where
  pub outcome : Outcome
  pub rule : Rule (view_of w b p) (log_of w p) outcome
  -- its lines are told, and then a line for each of its frames, numbered on from all that were sent before
  pub lines : t.lines ≡ outcome.lines ++ sent_lines (suc (length w.frames)) outcome.frames
  pub frames : t.world.frames ≡ w.frames ++ outcome.frames
  -- the view and the log are put in their places, and all else stays
  pub views : t.world.views ≡ with_view w.views b p outcome.view
  pub logs : t.world.logs ≡ set w.logs p outcome.log
  pub clock : t.world.clock ≡ w.clock
  pub most : t.world.most ≡ w.most

-- an event is published at its host
abbrev pub IsPublished : Net → ℕ → ℕ → Event → World → Transition → Type 0
IsPublished net p number e w t = Calls (net.host p) p (Publishes net p (net.host p) w.clock number e) w t

-- a subscriber joins at the host
abbrev pub IsJoined : Net → ℕ → ℕ → World → Transition → Type 0
IsJoined net s p w t = Calls (net.host p) p (TakesJoin net p (net.host p) w.clock s) w t

-- broker b is woken for publisher p
abbrev pub IsWoken : Net → ℕ → ℕ → World → Transition → Type 0
IsWoken net b p w t = Calls b p (Wakes net p b w.clock) w t

-- a frame reaches its receiver
abbrev pub Arrives : Net → Frame → World → Transition → Type 0
Arrives net f w t =
    let head = f.head in
    Calls head.to head.publisher (Comes net head.publisher head.from head.to w.clock f.body) w t

-- A start over logs that were found

-- a host with a subscriber has its horizon moved to where its log is settled, as if a piece came that says nothing new
pub record HostReaches (net : Net) (p : ℕ) (w : World) (t : Transition) : Type 0 where
  pub here : has_subscriber net (net.host p) ≡ true → Calls (net.host p) p (NewTicks net p (net.host p) []) w t
  pub none : has_subscriber net (net.host p) ≡ false → Tells [] w t

-- a log that is not empty is told, and then the host has its horizon moved
abbrev pub OpensLog : Net → ℕ → World → Transition → Type 0
OpensLog net p w t = Then (Tells (reopened_line (log_of w p) p)) (HostReaches net p) w t

-- so it is for each broker in order, and in each for its publishers in order
pub record Opens (net : Net) (found : List Log) (t : Transition) : Type 0 where
  pub begun : World
  pub begins : BeginsOver net found begun
  pub opens : EachInTurn (OpensLog net) (publishers_at net (numbers net.brokers)) begun t

-- The clock

-- the clock moves, and all else stays
pub record ClockMoves (now : ℕ) (w u : World) : Type 0 where
  pub clock : u.clock ≡ now
  -- it may move back; the greatest moment that it had is remembered
  pub most : u.most ≡ max now w.most
  pub frames : u.frames ≡ w.frames
  pub views : u.views ≡ w.views
  pub logs : u.logs ≡ w.logs

-- a clock step tells nothing
pub record SetsClock (now : ℕ) (w : World) (t : Transition) : Type 0 where
  pub moves : ClockMoves now w t.world
  pub lines : t.lines ≡ []

-- Crashes

-- a broker is to crash
pub record Crashes (net : Net) (number b : ℕ) (w : World) (t : Transition) : Type 0 where
  -- one with a subscriber does not
  pub refused : has_subscriber net b ≡ true → Tells (line.RefusedHosts number b ∷ []) w t
  -- any other starts again over the logs as they are, and tells which it opened
  pub again : has_subscriber net b ≡ false → StartsAgain net b w.logs w t.world
  pub lines : has_subscriber net b ≡ false → t.lines ≡ line.Crashed b ∷ opened net b w.logs

-- the tick that the next event of a publisher gets
abbrev pub next_tick : World → ℕ → ℕ
next_tick w p = max (suc (log_of w p).settled) w.clock

-- the event of a stopped publish is kept: so say where its log's text ends, the disk's call that it stops at, and what
-- the disk picks
abbrev pub keeps : World → ℕ → Stop → Bool
keeps w p stop = is_kept ((log_of w p).size - 1) stop.call stop.pick

-- the line that says so or not
abbrev pub fate : World → ℕ → ℕ → Stop → Report
fate w p n stop = if keeps w p stop then line.Kept p n (next_tick w p) else line.Lost p n (next_tick w p)

-- the logs that are then left
abbrev pub logs_left : World → ℕ → Stop → Event → List Log
logs_left w p stop e = if keeps w p stop then set w.logs p (with_event (log_of w p) (next_tick w p) e) else w.logs

-- a publish stops within
pub record StopsWithin (net : Net) (p n : ℕ) (stop : Stop) (e : Event) (w : World) (t : Transition) : Type 0 where
  -- the host starts again over the logs that are left
  pub again : StartsAgain net (net.host p) (logs_left w p stop e) w t.world
  -- it is told that it crashed, whether the event was kept, and which logs it opened
  pub lines : t.lines ≡ line.Crashed (net.host p) ∷ (fate w p n stop ∷ opened net (net.host p) (logs_left w p stop e))

-- a publish is to stop within
pub record Stops (net : Net) (number p n : ℕ) (stop : Stop) (e : Event) (w : World) (t : Transition) : Type 0 where
  -- at a host with a subscriber it is refused
  pub refused : has_subscriber net (net.host p) ≡ true → Tells (line.RefusedHosts number (net.host p) ∷ []) w t
  -- where its event is not the next one, or the ticks are used up, nothing is logged and nothing stops it
  pub goes_on : has_subscriber net (net.host p) ≡ false → is_next_of w p n ≡ false → IsPublished net p n e w t
  pub stops : has_subscriber net (net.host p) ≡ false → is_next_of w p n ≡ true → StopsWithin net p n stop e w t

-- Sweeps

-- the upward frames that were sent between two states
abbrev pub upward_since : World → World → List Frame
upward_since w u = filter is_want (sent_since w u)

-- The frames are delivered one after another, each followed at once by the upward frames that its delivery sends, and
-- these by theirs, until none is sent: in a chain of at most so many.
abbrev pub AtOnce : Net → ℕ → List Frame → World → Transition → Type 0
AtOnce net zero fs w t = (fs ≡ []) × Tells [] w t
AtOnce net (suc longest) fs w t =
    EachInTurn (λ f v r. Then (Arrives net f) (λ u s. AtOnce net longest (upward_since v u) u s) v r) fs w t

-- broker b is woken, and the upward frames that this sends are delivered at once
pub record WakesUp (net : Net) (p b : ℕ) (w : World) (t : Transition) : Type 0 where
  -- however long the longest chain is
  pub longest : ℕ
  pub wakes : Then (IsWoken net b p) (λ u r. AtOnce net longest (upward_since w u) u r) w t

-- b is delivered the knowledge of p that was sent to it past the first so many frames
abbrev pub HandsDown : Net → ℕ → ℕ → ℕ → World → Transition → Type 0
HandsDown net p first b w t = EachInTurn (Arrives net) (filter (is_know_to p b) (frames_past first w.frames)) w t

-- the sweep of one publisher
pub record SweepsFor (net : Net) (p : ℕ) (w : World) (t : Transition) : Type 0 where
  -- every broker is woken, from the deepest up to the host
  pub asked : Transition
  pub asks : EachInTurn (WakesUp net p) (inwards net p) w asked
  -- from the host outwards, each is delivered the knowledge that was sent to it since this sweep began
  pub handed : Transition
  pub hands : EachInTurn (HandsDown net p (length w.frames)) (outwards net p) asked.world handed
  -- every broker is woken again
  pub settled : Transition
  pub settles : EachInTurn (WakesUp net p) (inwards net p) handed.world settled
  pub world : t.world ≡ settled.world
  pub lines : t.lines ≡ asked.lines ++ (handed.lines ++ settled.lines)

-- a sweep
pub record SweepsAll (net : Net) (w : World) (t : Transition) : Type 0 where
  -- the clock moves to its moment
  pub begun : World
  pub begins : ClockMoves (sweep_moment net w) w begun
  -- each publisher is swept
  pub done : Transition
  pub each : EachInTurn (SweepsFor net) (numbers net.publishers) begun done
  -- and its end is told
  pub world : t.world ≡ done.world
  pub lines : t.lines ≡ done.lines ++ line.Swept (sweep_moment net w) ∷ []

-- a sweep is refused where its moment is past the last tick
pub record Sweeps (net : Net) (number : ℕ) (w : World) (t : Transition) : Type 0 where
  pub refused : is_accepted net w ≡ false → Tells (line.RefusedClock number (sweep_moment net w) ∷ []) w t
  pub swept : is_accepted net w ≡ true → SweepsAll net w t

-- What is shown

-- the line of a publisher's log; that of a kept horizon
abbrev pub log_line : World → ℕ → Report
log_line w p = let log = log_of w p in line.LogOf p log.last log.settled log.cut (kept_events log)

abbrev pub doubt_line : Net → World → ℕ → ℕ → List Report
doubt_line net w b p = if keeps_horizon net p b then line.Doubt b p (view_of w b p).horizon ∷ [] else []

-- all kept horizons, by broker and publisher
abbrev pub doubt_lines : Net → World → List Report
doubt_lines net w = flat_map (λ b. flat_map (doubt_line net w b) (numbers net.publishers)) (numbers net.brokers)

-- how many frames were sent; then each log, by publisher; then each kept horizon
abbrev pub shown : Net → World → List Report
shown net w = line.Frames (length w.frames) ∷ (map (log_line w) (numbers net.publishers) ++ doubt_lines net w)

-- Frames by their numbers

-- the frame of a number is delivered, if there is one
pub record Delivers (net : Net) (number k : ℕ) (w : World) (t : Transition) : Type 0 where
  pub refused : frame_at w k ≡ None → Tells (line.RefusedFrame number k (length w.frames) ∷ []) w t
  pub arrives : (f : Frame) → frame_at w k ≡ Some f → Arrives net f w t

-- the bytes of the frame of a number are shown, if there is one
pub record ShowsBytes (number k : ℕ) (w : World) (t : Transition) : Type 0 where
  pub refused : frame_at w k ≡ None → Tells (line.RefusedFrame number k (length w.frames) ∷ []) w t
  pub bytes : (f : Frame) → frame_at w k ≡ Some f → Tells (line.BytesOf k (frame_bytes f) ∷ []) w t

-- Steps

-- what happens at a step of the line of this number
abbrev pub Happens : Net → ℕ → Step → World → Transition → Type 0
Happens net number (step.Clock now) w t = SetsClock now w t
Happens net number (step.Publish p n None e) w t = IsPublished net p n e w t
Happens net number (step.Publish p n (Some stop) e) w t = Stops net number p n stop e w t
Happens net number (step.Wake b) w t = EachInTurn (IsWoken net b) (numbers net.publishers) w t
Happens net number (step.Deliver k) w t = Delivers net number k w t
Happens net number (step.Crash b) w t = Crashes net number b w t
Happens net number step.Sweep w t = Sweeps net number w t
Happens net number step.Show w t = Tells (shown net w) w t
Happens net number (step.Bytes k) w t = ShowsBytes number k w t
Happens net number (step.Join s p) w t = IsJoined net s p w t

-- a step tells its lines, and the rest goes on in the state that it leaves
pub record Steps (net : Net) (l : Line) (ls : List Report) (Rest : World → Type 0) (w : World) : Type 0 where
  pub left : World
  pub happens : Happens net l.number l.step w (record { world = left; lines = ls })
  pub rest : Rest left

-- from state w on, the steps tell these lines, each its own, and leave state u
abbrev pub RunByRules : Net → World → List Line → List (List Report) → World → Type 0
RunByRules net w [] [] u = u ≡ w
RunByRules net w (l ∷ ls) (r ∷ rs) u = Steps net l r (λ v. RunByRules net v ls rs u) w
RunByRules net w [] (r ∷ rs) u = ⊥
RunByRules net w (l ∷ ls) [] u = ⊥

-- from a state on that is as before the first step
pub record RunsFromStart (net : Net) (steps : List Line) (rs : List (List Report)) (u : World) : Type 0 where
  pub begun : World
  pub begins : Begins net begun
  pub run : RunByRules net begun steps rs u

-- a whole schedule: nothing is told at the start, then each step tells its lines, and in the end state u is left
abbrev pub ScheduleByRules : Net → List Line → List (List Report) → World → Type 0
ScheduleByRules net steps [] u = ⊥
ScheduleByRules net steps (r ∷ rs) u = (r ≡ []) × RunsFromStart net steps rs u

-- a whole report, whatever is left
pub record ReportByRules (net : Net) (steps : List Line) (rs : List (List Report)) : Type 0 where
  pub left : World
  pub schedule : ScheduleByRules net steps rs left

-- a whole schedule over logs that were found: the start over them tells its lines, and then each step its own
pub record RunsOver (net : Net) (found : List Log) (steps : List Line) (told : List Report) (rs : List (List Report))
    (u : World) : Type 0 where
  pub opened : World
  pub opens : Opens net found (record { world = opened; lines = told })
  pub run : RunByRules net opened steps rs u
