-- What the report of a schedule says, apart from any machine: the record, the gots, the horizons, the cuts
use Rattle.std.specs.Prelude.{◌≡◌, ℕ, suc, ◌+◌, ◌-◌, ◌≤◌, ◌<◌, max, Bool, true, false, not, ◌&&◌, ◌||◌, nat_eq, nat_le}
use Rattle.std.specs.Prelude.{nat_lt, if◌then◌else◌, List, [], ◌∷◌, ◌++◌, length, map, filter, get_or, set, replicate}
use Rattle.std.specs.Prelude.{Option, Some, None, flat_map, Contains, IsTrue}
use Rattle.std.specs.List.{list_any}
use Rattle.gr_event.specs.declared.event.Event.{Event}
use Rattle.gr_event.specs.Event.{event_size}
use Rattle.gr_sched.specs.declared.step.Stop.{Stop}
use Rattle.gr_sched.specs.declared.step.Step.TheVariants as step
use Rattle.gr_sched.specs.declared.step.Line.{Line}
use Rattle.gr_model.specs.declared.report.Report.{Report}
use Rattle.gr_model.specs.declared.report.Report.TheVariants as line
use Rattle.gr_tick.specs.Runs.{is_in}
use Rattle.gr_know.specs.Values.{Known}
use Rattle.gr_event.specs.Joins.{Joins, has_joined}
use Rattle.gr_model.specs.Net.{Net, with_wants, wants_with, keeps_horizon, is_host, not_empty, numbers}
use Rattle.gr_model.specs.Broker.{max_tick, is_kept, past, reclaims, size_filled}

-- what was recorded of one publisher: the last number, the tick up to which all is settled, the events by tick, and the
-- joins
pub record Recorded : Type 0 where
  pub last : ℕ
  pub settled : ℕ
  pub events : List (ℕ × Event)
  pub joined : Joins

abbrev pub nothing_recorded : Recorded
nothing_recorded = record { last = 0; settled = 0; events = []; joined = [] }

-- of the lane that holds a log: its generation, and how many bytes its text has
pub record Stored : Type 0 where
  pub generation : ℕ
  pub size : ℕ

-- where nothing was logged yet
abbrev pub first_stored : Stored
first_stored = record { generation = 1; size = 33 }

-- what the steps and lines so far say
pub record History : Type 0 where
  pub clock : ℕ
  pub most : ℕ
  pub records : List Recorded
  -- publisher by publisher: the cut that was found when its log was opened; 0 where no log is older than the schedule
  pub reopened_cuts : List ℕ
  pub lines : List Report
  -- broker by broker, publisher by publisher: the pieces heard since the last crash
  pub heard : List (List (List Known))
  pub unlogged : List Bool  -- publisher by publisher: nothing was logged, joined or marked since its host started
  pub stored : List Stored  -- publisher by publisher: of its log

-- the record of a publisher
abbrev pub record_of : History → ℕ → Recorded
record_of h p = get_or h.records p nothing_recorded

-- the cut that was found when the log of a publisher was opened
abbrev pub reopened_cut : History → ℕ → ℕ
reopened_cut h p = get_or h.reopened_cuts p 0

-- The record

-- the tick that the next publish is given
abbrev pub tick_of : ℕ → Recorded → ℕ
tick_of clock r = max (suc r.settled) clock

-- the publish is of the next number and its tick does not pass the last one
abbrev pub is_next : ℕ → Recorded → ℕ → Bool
is_next clock r number = nat_eq number (suc r.last) && nat_le (tick_of clock r) max_tick

-- the record with a further event
abbrev pub recording : ℕ → Recorded → Event → Recorded
recording clock r e = record {
  last = suc r.last;
  settled = tick_of clock r;
  events = r.events ++ (tick_of clock r, e) ∷ [];
  joined = r.joined;
}

-- the record settled up to a tick
abbrev pub settling : ℕ → Recorded → Recorded
settling tick r = record { last = r.last; settled = tick; events = r.events; joined = r.joined }

-- s may join: it has not, and its tick does not pass the last one
abbrev pub may_enter : ℕ → Recorded → ℕ → Bool
may_enter clock r s = not (has_joined r.joined s) && nat_le (tick_of clock r) max_tick

-- the record with a further join
abbrev pub with_joined : ℕ → Recorded → ℕ → Recorded
with_joined clock r s = record {
  last = r.last;
  settled = tick_of clock r;
  events = r.events;
  joined = r.joined ++ record { subscriber = s; tick = tick_of clock r } ∷ [];
}

-- a stopped publish was kept
abbrev pub is_kept_line : Report → Bool
is_kept_line (line.Kept p n t) = true
is_kept_line _ = false

-- some line says that the stopped publish was kept
abbrev pub says_kept : List Report → Bool
says_kept ls = list_any is_kept_line ls

-- the greatest of the numbers, or 0
abbrev pub greatest : List ℕ → ℕ
greatest [] = 0
greatest (n ∷ ns) = max n (greatest ns)

-- the moment of a sweep
abbrev pub sweep_at : Net → History → ℕ
sweep_at net h = max h.most (greatest (map (λ r. r.settled) h.records)) + net.gap + net.idle + net.retry + net.quiet + 1

-- a sweep is not refused
abbrev pub is_swept : Net → History → Bool
is_swept net h = nat_le (sweep_at net h) max_tick

-- no subscriber is there
abbrev pub may_crash : Net → ℕ → Bool
may_crash net b = not (not_empty (net.subscribers_at b))

-- marked where the log was silent for long
abbrev pub marked : Net → ℕ → Recorded → Recorded
marked net clock r = if nat_le (r.settled + net.quiet) clock then settling clock r else r

-- the records of the publishers from p on, each changed
abbrev pub each_record : (ℕ → Recorded → Recorded) → ℕ → List Recorded → List Recorded
each_record f p [] = []
each_record f p (r ∷ rs) = f p r ∷ each_record f (suc p) rs

-- the records after a step and its lines
unfoldable pub records_after : Net → History → Line → List Report → List Recorded
records_after net h l ls =
    elim l.step [
      | step.Publish p number stop e ↦
          let r = record_of h p in
          if is_next h.clock r number && elim stop [ None ↦ true | Some s ↦ says_kept ls ]
          then set h.records p (recording h.clock r e) else h.records
      | step.Wake b ↦ each_record (λ p r. if is_host net p b then marked net h.clock r else r) 0 h.records
      | step.Sweep ↦ if is_swept net h then map (settling (sweep_at net h)) h.records else h.records
      | step.Join s p ↦
          let r = record_of h p in
          if may_enter h.clock r s then set h.records p (with_joined h.clock r s) else h.records
      | _ ↦ h.records
    ]

-- the clock after a step; the greatest moment so far
unfoldable pub clock_after : Net → History → Line → ℕ
clock_after net h l =
    elim l.step [
      | step.Clock now ↦ now
      | step.Sweep ↦ if is_swept net h then sweep_at net h else h.clock
      | _ ↦ h.clock
    ]

unfoldable pub most_after : Net → History → Line → ℕ
most_after net h l =
    elim l.step [
      | step.Clock now ↦ max now h.most
      | step.Sweep ↦ if is_swept net h then max (sweep_at net h) h.most else h.most
      | _ ↦ h.most
    ]

-- What is stored

-- what is stored of the log of a publisher
abbrev pub stored_of : History → ℕ → Stored
stored_of h p = get_or h.stored p first_stored

-- the bytes that a record and its gate take in the lane: of an event, of a mark or a cut, and of a join
abbrev pub event_room : Event → ℕ
event_room e = 22 + event_size e

abbrev pub mark_room : ℕ
mark_room = 10

abbrev pub join_room : ℕ
join_room = 12

-- with so many bytes more
abbrev pub grown : ℕ → Stored → Stored
grown n s = record { generation = s.generation; size = s.size + n }

-- after a cut at a tick: a record more, or, where the text has `reclaim` bytes or more, a new lane with what is past it
abbrev pub cut_stored : ℕ → ℕ → ℕ → Recorded → Stored → Stored
cut_stored reclaim t settled r s = if reclaims reclaim s.size s.generation
    then record { generation = suc s.generation; size = size_filled t settled (past t r.events) r.joined }
    else grown mark_room s

-- Of a publisher: the tick up to which its log is settled, and what is stored of it
abbrev pub Standing : Type 0
Standing = ℕ × Stored

-- before the lines of a step
abbrev pub standing_of : History → ℕ → Standing
standing_of h p = ((record_of h p).settled, stored_of h p)

-- after one line more of a wake or a sweep
abbrev pub stored_by : Net → ℕ → Recorded → Standing → Report → Standing
stored_by net p r x (line.Mark q t) = if nat_eq q p then (t, grown mark_room x.1) else x
stored_by net p r x (line.Cut q t) = if nat_eq q p then (x.0, cut_stored net.reclaim t x.0 r x.1) else x
stored_by net p r x _ = x

-- after such lines
abbrev pub stored_past : Net → ℕ → Recorded → Standing → List Report → Standing
stored_past net p r x [] = x
stored_past net p r x (l ∷ ls) = stored_past net p r (stored_by net p r x l) ls

-- what is stored of the publishers from p on after such lines
abbrev pub stored_told : Net → History → ℕ → List Stored → List Report → List Stored
stored_told net h p [] ls = []
stored_told net h p (s ∷ ss) ls =
    (stored_past net p (record_of h p) ((record_of h p).settled, s) ls).1 ∷ stored_told net h (suc p) ss ls

-- what is stored after a step and its lines: each event and join that is recorded, and each mark and cut of a wake or a
-- sweep
unfoldable pub stored_after : Net → History → Line → List Report → List Stored
stored_after net h l ls =
    elim l.step [
      | step.Publish p number stop e ↦
          let recorded = is_next h.clock (record_of h p) number && elim stop [ None ↦ true | Some s ↦ says_kept ls ] in
          if recorded then set h.stored p (grown (event_room e) (stored_of h p)) else h.stored
      | step.Wake b ↦ stored_told net h 0 h.stored ls
      | step.Sweep ↦ stored_told net h 0 h.stored ls
      | step.Join s p ↦
          if may_enter h.clock (record_of h p) s then set h.stored p (grown join_room (stored_of h p)) else h.stored
      | _ ↦ h.stored
    ]

-- the line says that a log was written anew
abbrev pub is_reclaimed_line : Report → Bool
is_reclaimed_line (line.Reclaimed p generation) = true
is_reclaimed_line _ = false

-- what is told directly behind a line: where a cut writes its log anew, the generation after it
abbrev pub reclaimed_behind : Net → (ℕ → Standing) → Report → List Report
reclaimed_behind net at (line.Cut p t) = if reclaims net.reclaim (at p).1.size (at p).1.generation
    then line.Reclaimed p (suc (at p).1.generation) ∷ [] else []
reclaimed_behind net at _ = []

-- the lines, and behind each what is told there, where the logs stand so before them
abbrev pub with_reclaimed_from : Net → (ℕ → Recorded) → (ℕ → Standing) → List Report → List Report
with_reclaimed_from net records at [] = []
with_reclaimed_from net records at (l ∷ ls) = l ∷ (reclaimed_behind net at l
    ++ with_reclaimed_from net records (λ p. stored_by net p (records p) (at p) l) ls)

abbrev pub with_reclaimed : Net → History → List Report → List Report
with_reclaimed net h ls = with_reclaimed_from net (record_of h) (standing_of h) ls

-- What was heard

-- the Knowledge of a sent line: to, publisher, runs
abbrev pub know_of_line : Report → Option (ℕ × ℕ × Known)
know_of_line (line.SentKnow n from to p runs js) = Some (to, p, runs)
know_of_line _ = None

-- the number of a sent line's frame; 0 for other lines
abbrev pub sent_number : Report → ℕ
sent_number (line.SentKnow n from to p runs js) = n
sent_number (line.SentWant n from to p runs) = n
sent_number (line.SentExpect n from to p tick) = n
sent_number _ = 0

-- the line is of a frame that was sent, whatever its number
abbrev pub is_sent : Report → Bool
is_sent (line.SentKnow n from to p runs js) = true
is_sent (line.SentWant n from to p runs) = true
is_sent (line.SentExpect n from to p tick) = true
is_sent _ = false

-- how many frames were sent
abbrev pub sent_count : List Report → ℕ
sent_count ls = length (filter is_sent ls)

-- the line of frame k
abbrev pub line_of_frame : ℕ → List Report → Option Report
line_of_frame k [] = None
line_of_frame k (l ∷ ls) = if nat_lt 0 k && nat_eq (sent_number l) k then Some l else line_of_frame k ls

-- one more piece heard
abbrev pub hearing : List (List (List Known)) → Option (ℕ × ℕ × Known) → List (List (List Known))
hearing heard None = heard
hearing heard (Some x) = set heard x.0 (set (get_or heard x.0 []) x.1 (get_or (get_or heard x.0 []) x.1 [] ++ x.2 ∷ []))

-- what all sent lines carry heard
abbrev pub hearing_all : List (List (List Known)) → List Report → List (List (List Known))
hearing_all heard [] = heard
hearing_all heard (l ∷ ls) = hearing_all (hearing heard (know_of_line l)) ls

-- a broker that starts again has heard nothing
abbrev pub heard_nothing : Net → List (List (List Known)) → ℕ → List (List (List Known))
heard_nothing net heard b = set heard b (replicate net.publishers [])

-- the step crashes this broker
abbrev pub crashed_by : Net → History → Line → Option ℕ
crashed_by net h l =
    elim l.step [
      | step.Crash b ↦ if may_crash net b then Some b else None
      | step.Publish p number stop e ↦ elim stop [
        | None ↦ None
        | Some s ↦ if may_crash net (net.host p)
            && is_next h.clock (record_of h p) number then Some (net.host p) else None
      ]
      | _ ↦ None
    ]

-- what was heard after a step: a delivered frame, or all that a sweep sent
unfoldable pub heard_after : Net → History → Line → List Report → List (List (List Known))
heard_after net h l ls =
    elim l.step [
      | step.Deliver k ↦ elim (line_of_frame k h.lines) [ None ↦ h.heard | Some s ↦ hearing h.heard (know_of_line s) ]
      | step.Sweep ↦ if is_swept net h then hearing_all h.heard ls else h.heard
      | _ ↦ elim (crashed_by net h l) [ None ↦ h.heard | Some b ↦ heard_nothing net h.heard b ]
    ]

-- the line says that something was logged, joined or marked for the publisher
abbrev pub is_record_of : ℕ → Report → Bool
is_record_of p (line.Logged q n t) = nat_eq q p
is_record_of p (line.Mark q t) = nat_eq q p
is_record_of p (line.Joined s q t) = nat_eq q p
is_record_of p _ = false

-- the flags of the publishers from p on, each changed
abbrev pub each_flag : (ℕ → Bool → Bool) → ℕ → List Bool → List Bool
each_flag f p [] = []
each_flag f p (b ∷ bs) = f p b ∷ each_flag f (suc p) bs

-- which hosts have logged, joined and marked nothing since their start
unfoldable pub unlogged_after : Net → History → Line → List Report → List Bool
unlogged_after net h l ls =
    elim (crashed_by net h l) [
      | Some b ↦ each_flag (λ p x. is_host net p b || x) 0 h.unlogged
      | None ↦ each_flag (λ p x. x && not (list_any (is_record_of p) ls)) 0 h.unlogged
    ]

-- the history after one more step and its lines
unfoldable pub history_after : Net → History → Line → List Report → History
history_after net h l ls = record {
  clock = clock_after net h l;
  most = most_after net h l;
  records = records_after net h l ls;
  reopened_cuts = h.reopened_cuts;
  lines = h.lines ++ ls;
  heard = heard_after net h l ls;
  unlogged = unlogged_after net h l ls;
  stored = stored_after net h l ls;
}

-- before the first step
unfoldable pub begin : Net → History
begin net = record {
  clock = 0;
  most = 0;
  records = replicate net.publishers nothing_recorded;
  reopened_cuts = replicate net.publishers 0;
  lines = [];
  heard = replicate net.brokers (replicate net.publishers []);
  unlogged = replicate net.publishers true;
  stored = replicate net.publishers first_stored;
}

-- a tick was heard in some piece
abbrev pub is_heard : List Known → ℕ → Bool
is_heard pieces t = list_any (λ runs. list_any (is_in t) runs) pieces

-- n is a broker's doubt horizon: below the host all up to n was heard since the last crash and n + 1 was not; at the
-- host it is where the log is settled
pub record IsDoubt (net : Net) (h : History) (b p n : ℕ) : Type 0 where
  pub at_host : IsTrue (is_host net p b) → n
      ≡ (if get_or h.unlogged p true && may_crash net b then 0 else (record_of h p).settled)
  pub below : is_host net p b ≡ false → (t : ℕ) → 1 ≤ t → t ≤ n
      → IsTrue (is_heard (get_or (get_or h.heard b []) p []) t)
  pub ends : is_host net p b ≡ false → is_heard (get_or (get_or h.heard b []) p []) (suc n) ≡ false

-- What was told

-- the tick of the last cut line of p, or c
abbrev pub last_cut : ℕ → ℕ → List Report → ℕ
last_cut p c [] = c
last_cut p c (line.Cut q t ∷ ls) = last_cut p (if nat_eq q p then t else c) ls
last_cut p c (_ ∷ ls) = last_cut p c ls

-- the tick of the last horizon line of s and p, or n
abbrev pub last_horizon : ℕ → ℕ → ℕ → List Report → ℕ
last_horizon s p n [] = n
last_horizon s p n (line.Horizon r q t ∷ ls) = last_horizon s p (if nat_eq r s && nat_eq q p then t else n) ls
last_horizon s p n (_ ∷ ls) = last_horizon s p n ls

-- the horizon lines of s and p rise strictly, from above n on
abbrev pub HorizonsRise : ℕ → ℕ → ℕ → List Report → Type 0
HorizonsRise s p n [] = Unit {0}
HorizonsRise s p n (line.Horizon r q t ∷ ls) = (IsTrue (nat_eq r s && nat_eq q p) → n < t)
    × HorizonsRise s p (if nat_eq r s && nat_eq q p then t else n) ls
HorizonsRise s p n (_ ∷ ls) = HorizonsRise s p n ls

-- what s got from p
abbrev pub delivered_events : ℕ → ℕ → List Report → List (ℕ × Event)
delivered_events s p [] = []
delivered_events s p (line.Got r q t e ∷ ls) = (if nat_eq r s && nat_eq q p then (t, e) ∷ [] else [])
    ++ delivered_events s p ls
delivered_events s p (_ ∷ ls) = delivered_events s p ls

-- what s is to have got from p up to tick n
abbrev pub expected : Net → History → ℕ → ℕ → ℕ → List (ℕ × Event)
expected net h s p n = filter (λ x. nat_le x.0 n && net.wants p s x.0 x.1) (record_of h p).events

-- The recorded lines

-- a line of the record or of what is shown of it
abbrev pub is_record_line : Report → Bool
is_record_line (line.Opened p last settled cut) = true
is_record_line (line.Logged p n t) = true
is_record_line (line.Already p n) = true
is_record_line (line.Gap p n next) = true
is_record_line (line.Exhausted p n) = true
is_record_line (line.Kept p n t) = true
is_record_line (line.Lost p n t) = true
is_record_line (line.Mark p t) = true
is_record_line (line.Joined s p t) = true
is_record_line (line.AlreadyJoined s p) = true
is_record_line (line.ExhaustedJoin s p) = true
is_record_line (line.Crashed b) = true
is_record_line (line.Swept m) = true
is_record_line (line.Frames n) = true
is_record_line (line.LogOf p last settled cut kept) = true
is_record_line _ = false

-- the opened lines of a broker that starts
abbrev pub opened_of : Net → List ℕ → List Recorded → List Report → ℕ → List Report
opened_of net found records lines b =
    flat_map (λ p. let r = get_or records p nothing_recorded in if is_host net p b && nat_lt 0 r.settled
    then line.Opened p r.last r.settled (last_cut p (get_or found p 0) lines) ∷ [] else []) (numbers net.publishers)

-- the line that a publish gets
abbrev pub publish_line : ℕ → ℕ → ℕ → Recorded → Report
publish_line p clock number r =
    if nat_le number r.last then line.Already p number
    else (if nat_lt (suc r.last) number then line.Gap p number (suc r.last)
    else (if nat_lt max_tick (tick_of clock r) then line.Exhausted p number
    else line.Logged p number (tick_of clock r)))

-- the line that a join gets
abbrev pub join_line : ℕ → ℕ → ℕ → Recorded → Report
join_line s p clock r = if has_joined r.joined s then line.AlreadyJoined s p
    else (if nat_lt max_tick (tick_of clock r) then line.ExhaustedJoin s p else line.Joined s p (tick_of clock r))

-- how many events are past a tick
abbrev pub count_past : ℕ → List (ℕ × Event) → ℕ
count_past c events = length (filter (λ x. nat_lt c x.0) events)

-- the lines of the record that a step is to tell
unfoldable pub record_lines : Net → History → Line → List Report → List Report
record_lines net h l ls =
    elim l.step [
      | step.Publish p number stop e ↦
          let r = record_of h p in
          elim stop [
            | None ↦ publish_line p h.clock number r ∷ []
            | Some s ↦
                elim (may_crash net (net.host p)) [
                  | false ↦ []
                  | true ↦
                      elim (is_next h.clock r number) [
                        | false ↦ publish_line p h.clock number r ∷ []
                        | true ↦
                            line.Crashed (net.host p) ∷
                            ((if says_kept ls then line.Kept p number (tick_of h.clock r)
                            else line.Lost p number (tick_of h.clock r)) ∷
                            opened_of net h.reopened_cuts (records_after net h l ls) h.lines (net.host p))
                      ]
                ]
          ]
      | step.Wake b ↦ flat_map (λ p. if is_host net p b && nat_le ((record_of h p).settled + net.quiet) h.clock
          then line.Mark p h.clock ∷ [] else []) (numbers net.publishers)
      | step.Sweep ↦ if is_swept net h then map (λ p. line.Mark p (sweep_at net h)) (numbers net.publishers)
          ++ line.Swept (sweep_at net h) ∷ [] else []
      | step.Join s p ↦ join_line s p h.clock (record_of h p) ∷ []
      | step.Crash b ↦ if may_crash net b then line.Crashed b ∷ opened_of net h.reopened_cuts h.records h.lines b
          else []
      | step.Show ↦
          line.Frames (sent_count h.lines) ∷
          map (λ p. let r = record_of h p in let c = last_cut p (reopened_cut h p) h.lines in
          line.LogOf p r.last r.settled c (count_past c r.events)) (numbers net.publishers)
      | _ ↦ []
    ]

-- the line is of a broker's horizon
abbrev pub is_doubt_line : Report → Bool
is_doubt_line (line.Doubt b p t) = true
is_doubt_line _ = false

-- the brokers and publishers of the doubt lines of a show
abbrev pub doubts_shown : Net → Line → List (ℕ × ℕ)
doubts_shown net l =
    elim l.step [
      | step.Show ↦ flat_map (λ b. flat_map (λ p. if keeps_horizon net p b then (b, p) ∷ []
          else []) (numbers net.publishers)) (numbers net.brokers)
      | _ ↦ []
    ]

-- the broker and publisher of a doubt line
abbrev pub doubt_place : Report → ℕ × ℕ
doubt_place (line.Doubt b p t) = (b, p)
doubt_place _ = (0, 0)

-- of one step: the recorded lines, whether a stopped publish is kept, which logs are written anew, the places of the
-- doubt lines, and their horizons
pub record StepReports (net : Net) (h : History) (l : Line) (ls : List Report) : Type 0 where
  pub records : filter is_record_line ls ≡ record_lines net h l ls
  -- a stopped publish that would be logged is kept exactly where its call and its pick leave the gate open
  pub kept : (p number : ℕ) (s : Stop) (e : Event) → l.step ≡ step.Publish p number (Some s) e →
      IsTrue (may_crash net (net.host p)) → IsTrue (is_next h.clock (record_of h p) number) →
      says_kept ls ≡ is_kept ((stored_of h p).size - 1) s.call s.pick
  -- each cut that writes its log anew is reported so directly behind its line, and nothing else is
  pub reclaims : ls ≡ with_reclaimed net h (filter (λ x. not (is_reclaimed_line x)) ls)
  pub doubts_stand : map doubt_place (filter is_doubt_line ls) ≡ doubts_shown net l
  pub doubts_true : (b p t : ℕ) → Contains ls (line.Doubt b p t) → IsDoubt net h b p t

-- delivered exactly, and doubt horizons, after each step
pub record Delivered (net : Net) (h : History) : Type 0 where
  pub got : (s p : ℕ) → s < net.subscribers → p < net.publishers → delivered_events s p h.lines
      ≡ expected net h s p (last_horizon s p 0 h.lines)
  pub doubt : (s p : ℕ) → s < net.subscribers → p < net.publishers
      → IsDoubt net h (net.at s) p (last_horizon s p 0 h.lines)

-- horizons rise, and discarded only after delivery, of all lines of the history h
pub record InOrder (net : Net) (h : History) : Type 0 where
  pub horizons : (s p n : ℕ) (xs ys : List Report) → h.lines ≡ xs ++ line.Horizon s p n ∷ ys → last_horizon s p 0 xs < n
  pub cuts : (p t : ℕ) (xs ys : List Report) → h.lines ≡ xs ++ line.Cut p t ∷ ys → last_cut p (reopened_cut h p) xs < t
  pub cut_settled : (p t : ℕ) → Contains h.lines (line.Cut p t) → t ≤ (record_of h p).settled
  pub cut_got : (p t : ℕ) (xs ys : List Report) → h.lines ≡ xs ++ line.Cut p t ∷ ys →
      (s u : ℕ) (e : Event) → Contains (record_of h p).events (u, e) → u ≤ t → s < net.subscribers
      → IsTrue (net.wants p s u e) → Contains xs (line.Got s p u e)

-- the net as the record of a history shows it
abbrev pub recorded_net : Net → History → Net
recorded_net net h = with_wants net (λ p s t e. wants_with net (record_of h p).joined p s t e)

-- what the headline says, step by step; whom an event concerns is asked of a net that the history shows
abbrev pub Holds_from_by : (History → Net) → Net → History → List Line → List (List Report) → Type 0
Holds_from_by at net h [] [] = Delivered (at h) h × InOrder (at h) h
Holds_from_by at net h (l ∷ ls) (r ∷ rs) = Delivered (at h) h × InOrder (at h) h × StepReports net h l r
    × Holds_from_by at net (history_after net h l r) ls rs
Holds_from_by at net h [] (r ∷ rs) = ⊥
Holds_from_by at net h (l ∷ ls) [] = ⊥

abbrev pub Holds_from : Net → History → List Line → List (List Report) → Type 0
Holds_from net = Holds_from_by (recorded_net net) net

-- the headline: every step of a report says what the record, the frames heard and the topology demand
abbrev pub Headline : Net → List Line → List (List Report) → Type 0
Headline net steps [] = ⊥
Headline net steps (r ∷ rs) = (r ≡ []) × Holds_from net (begin net) steps rs

-- the history after steps and the lines of each
abbrev pub history : Net → History → List Line → List (List Report) → History
history net h [] rs = h
history net h (l ∷ ls) [] = h
history net h (l ∷ ls) (r ∷ rs) = history net (history_after net h l r) ls rs

-- delivered exactly, and horizons rise, for one subscriber and publisher
pub record GetsExactly (net : Net) (h : History) (s p : ℕ) : Type 0 where
  pub got : delivered_events s p h.lines ≡ expected net h s p (last_horizon s p 0 h.lines)
  pub rise : HorizonsRise s p 0 h.lines
