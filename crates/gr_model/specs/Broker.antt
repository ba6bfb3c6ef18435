-- One broker's calls for one publisher
use Rattle.std.specs.Prelude.{ℕ, suc, ◌+◌, ◌-◌, min, max, Bool, true, false, not, ◌&&◌, ◌||◌, nat_eq, nat_le, nat_lt}
use Rattle.std.specs.Prelude.{if◌then◌else◌, List, [], ◌∷◌, ◌++◌, map, filter, get_or, set, Some, None, flat_map}
use Rattle.std.specs.Prelude.{Option}
use Rattle.std.specs.List.{list_all}
use Rattle.gr_event.specs.declared.event.Event.{Event}
use Rattle.gr_event.specs.Joins.{Joins}
use Rattle.gr_know.specs.declared.values.K.{K}
use Rattle.gr_know.specs.declared.values.K.TheVariants.{Q, D, F}
use Rattle.gr_curio.specs.declared.values.Q3.{Q3}
use Rattle.gr_curio.specs.declared.values.Q3.TheVariants.{N, C, A}
use Rattle.gr_frame.specs.declared.Body.TheVariants as body
use Rattle.gr_frame.specs.declared.Head.{Head}
use Rattle.gr_frame.specs.declared.Frame.{Frame}
use Rattle.gr_frame.specs.Bytes.{head_size, known_run_size, wanted_run_size, cut_frames}
use Rattle.gr_event.specs.Joins.{longer, splits}
use Rattle.gr_pubend.specs.declared.answers.Joined.{Joined}
use Rattle.gr_pubend.specs.declared.answers.Joined.TheVariants as joins
use Rattle.gr_curio.specs.declared.asks.Moment.TheVariants.{Never}
use Rattle.gr_model.specs.declared.report.Report.{Report}
use Rattle.gr_model.specs.declared.report.Report.TheVariants as line
use Rattle.gr_tick.specs.Runs.{points, zip_runs, first_bottom_from, top_of}
use Rattle.gr_know.specs.Values.{Known, known_at, knowns, same_K, is_Q, join_K, new_K, clash_K}
pub use Rattle.gr_publog.specs.Crash.{is_kept}
pub use Rattle.gr_publog.specs.State.{max_tick}
pub use Rattle.gr_pubend.specs.Log.{Log, empty_log, fresh_log, with_event, with_mark, with_cut, with_join, past}
pub use Rattle.gr_pubend.specs.Log.{reclaims, filled_log, cut_log_at}
pub use Rattle.gr_pubend.specs.Log.{event_at, log_at, event_points}
unfoldable pub use Rattle.gr_pubend.specs.Log.{log_know, silence, size_filled}
use Rattle.gr_pubend.specs.declared.answers.Published.{Published}
use Rattle.gr_pubend.specs.declared.answers.Published.TheVariants as publishes
use Rattle.gr_pubend.specs.declared.answers.Quieted.{Quieted}
use Rattle.gr_pubend.specs.declared.answers.Quieted.TheVariants as quiets
unfoldable pub use Rattle.gr_pubend.specs.Answers.{published, quieted, joined_at}
pub use Rattle.gr_subend.specs.Horizon.{data_of_run}
unfoldable pub use Rattle.gr_subend.specs.Horizon.{horizon_after, data_ticks}
pub use Rattle.gr_know.specs.Forget.{data_count, without_front}
unfoldable pub use Rattle.gr_know.specs.Forget.{lower_data, forgotten}
pub use Rattle.gr_curio.specs.Wants.{all_A, any_C, is_reached, is_consolidated}
use Rattle.gr_curio.specs.Wants.{answered_of}
use Rattle.gr_curio.specs.Due.{due_of, noted_of}
use Rattle.gr_curio.specs.Values.{Wanted, Asked, wanted_at, asked_at, wanteds, same_Q3, same_moment, is_C, is_A}
use Rattle.gr_model.specs.Net.{Net, keeps_horizon, is_host, pass, not_empty, numbers_from, with_wants, wants_with}

-- what a broker keeps for one publisher
pub record View : Type 0 where
  pub know : Known
  pub wants : List Wanted  -- one for each child, in order
  pub asks : Asked
  pub horizon : ℕ
  pub joins : Joins  -- of late subscribers, as far as they are held

-- what a call leaves, tells and sends
pub record Outcome : Type 0 where
  pub view : View
  pub log : Log
  pub lines : List Report
  pub frames : List Frame

-- Frames

-- who sends to whom, of which publisher
abbrev pub head : ℕ → ℕ → ℕ → Head
head from to p = record { from = from; to = to; publisher = p }

-- what is known, with these joins, wanted or to be expected as frames; nothing makes no frame
abbrev pub know_frames : Joins → ℕ → ℕ → ℕ → Known → List Frame
know_frames js from to p runs = map (λ part. record {
  head = head from to p;
  body = body.Knowledge part js;
}) (cut_frames (head_size js) known_run_size runs)

abbrev pub want_frames : ℕ → ℕ → ℕ → Wanted → List Frame
want_frames from to p runs = map (λ part. record {
  head = head from to p;
  body = body.Curiosity part;
}) (cut_frames (head_size []) wanted_run_size runs)

abbrev pub expect_frame : ℕ → ℕ → ℕ → ℕ → Frame
expect_frame from to p tick = record { head = head from to p; body = body.Expect tick }

-- Consolidation

-- where some child's curiosity may change
abbrev pub all_points : List Wanted → List ℕ
all_points ws = flat_map points ws

-- the horizon, where one is kept
abbrev pub horizon_if : Bool → ℕ → Option ℕ
horizon_if true h = Some h
horizon_if false h = None

-- the tick is consolidated
abbrev pub is_consolidated_by : Bool → ℕ → List Wanted → ℕ → Bool
is_consolidated_by keeps h ws t = is_consolidated (horizon_if keeps h) ws t

-- A on the consolidated ticks
unfoldable pub consolidated : Bool → ℕ → List Wanted → Wanted
consolidated keeps h ws = wanteds (λ t. if is_consolidated_by keeps h ws t then A else N) (1 ∷ (suc h ∷ all_points ws))

-- F on the consolidated ticks
unfoldable pub finished : Known → Wanted → Known
finished know done = zip_runs Q N Q same_K (λ k c. if is_A c then F else k) know done

-- Forgetting

-- the tick is final
abbrev pub is_F : K → Bool
is_F F = true
is_F _ = false

-- the moments of asks, but none at a final tick, which is never asked again
unfoldable pub open_asks : Known → Asked → Asked
open_asks know asks = zip_runs Never Q Never same_moment (λ moment k. if is_F k then Never else moment) asks know

-- below the host events are forgotten by the rule of forgetting, and moments of asks where the tick is final
abbrev pub kept_view_below : Net → ℕ → ℕ → View → View
kept_view_below net p b v =
    let know = forgotten net.cache (if keeps_horizon net p b then v.horizon else max_tick) v.know in
    record { know = know; wants = v.wants; asks = open_asks know v.asks; horizon = v.horizon; joins = v.joins }

-- what is kept after a call; the host keeps all
unfoldable pub kept_view : Net → ℕ → ℕ → View → View
kept_view net p b v = elim (is_host net p b) [ true ↦ v | false ↦ kept_view_below net p b v ]

-- The horizon

-- what a subscriber gets at a tick
abbrev pub got_line : ℕ → ℕ → ℕ × Event → Report
got_line s p x = line.Got s p x.0 x.1

-- what one subscriber here gets where the horizon moves
unfoldable pub delivery_lines : Net → ℕ → ℕ → ℕ → List (ℕ × Event) → ℕ → List Report
delivery_lines net p h h' items s = if nat_eq h h' then []
    else map (got_line s p) (filter (λ x. net.wants p s x.0 x.1) items) ++ line.Horizon s p h' ∷ []

-- Forwarding

-- the new ticks: those that nothing was known of
unfoldable pub new_ticks : Known → Known → Known
new_ticks know piece = zip_runs Q Q Q same_K new_K know piece

-- the ticks of an event past the first one
abbrev pub event_ticks : K → ℕ → ℕ → List ℕ
event_ticks (D e) first last = numbers_from (suc first) (last - first)
event_ticks _ first last = []

-- where what an edge passes may change: where the runs do, and at each tick of an event
abbrev pub pass_points : Known → List ℕ
pass_points [] = []
pass_points (r ∷ rs) = r.first ∷ (suc r.last ∷ (event_ticks r.value r.first r.last ++ pass_points rs))

-- what the edge to a child passes of what is known
unfoldable pub passed : Net → ℕ → ℕ → Known → Known
passed net p c know = knowns (λ t. pass net p c t (known_at know t)) (pass_points know)

-- what a child is sent of them
unfoldable pub forward : Net → ℕ → ℕ → Wanted → Known → Known
forward net p c w new = zip_runs Q N Q same_K (λ v a. if is_A a then Q else v) (passed net p c new) w

-- what the child's curiosity is then
unfoldable pub still_wanted : Wanted → Known → Wanted
still_wanted w sent = zip_runs N Q N same_Q3 (λ a v. answered_of (not (is_Q v)) a) w sent

-- the new ticks as frames to each child, with these joins
abbrev pub forward_frames : Joins → Net → ℕ → ℕ → Known → List ℕ → List Wanted → List Frame
forward_frames js net p b new [] ws = []
forward_frames js net p b new (c ∷ cs) [] = []
forward_frames js net p b new (c ∷ cs) (w ∷ ws) = know_frames js b c p (forward net p c w new)
    ++ forward_frames js net p b new cs ws

-- each child's curiosity after that
abbrev pub forward_wants : Net → ℕ → Known → List ℕ → List Wanted → List Wanted
forward_wants net p new [] ws = []
forward_wants net p new (c ∷ cs) [] = []
forward_wants net p new (c ∷ cs) (w ∷ ws) = still_wanted w (forward net p c w new) ∷ forward_wants net p new cs ws

-- New ticks come to a broker
unfoldable pub learn : Net → ℕ → ℕ → Known → View → Log → Outcome
learn net p b piece v log =
    let keeps = keeps_horizon net p b in
    let new = new_ticks v.know piece in
    let know = zip_runs Q Q Q same_K join_K v.know piece in
    let h = horizon_after keeps v.horizon know in
    let items = data_ticks v.horizon h know in
    let ws = forward_wants net p new (net.children p b) v.wants in
    record {
      view = kept_view net p b (record {
        know = finished know (consolidated keeps h ws);
        wants = ws;
        asks = v.asks;
        horizon = h;
        joins = v.joins;
      });
      log = log;
      lines = flat_map (delivery_lines net p v.horizon h items) (net.subscribers_at b);
      frames = forward_frames v.joins net p b new (net.children p b) v.wants;
    }

-- Asking

-- the ticks of a wanted set that are asked
unfoldable pub due : ℕ → ℕ → Known → Asked → (ℕ → Bool) → List ℕ → Wanted
due now retry know asks wanted ps = wanteds (λ t. due_of (asked_at asks t) (if wanted t && is_Q (known_at know t) then C
    else N) now retry) (ps ++ points know ++ points asks)

-- the asked ticks get the moment of their ask
unfoldable pub noted : ℕ → Asked → Wanted → Asked
noted now asks asked = zip_runs Never N Never same_moment (noted_of now) asks asked

-- what goes upstream: the consolidated ticks as acknowledged, and what is asked
unfoldable pub upward : Wanted → Wanted → Wanted
upward done asked = zip_runs N N N same_Q3 (λ c a. if is_A c then A else a) done asked

-- to the next broker towards the host
abbrev pub up_frames : Net → ℕ → ℕ → Wanted → List Frame
up_frames net p b runs = elim (net.up p b) [ Some u ↦ want_frames b u p runs | None ↦ [] ]

-- Curiosity comes from the child of this place in the order of children

-- an acknowledgement stays
unfoldable pub acknowledged : Wanted → Wanted → Wanted
acknowledged w piece = zip_runs N N N same_Q3 (λ a x. if is_A x then A else a) w piece

-- what one asked tick is answered: final where it was acknowledged, else what passes the edge
abbrev pub answer : K → Q3 → Q3 → K
answer k a C = if is_A a then F else k
answer k a _ = Q

-- the answers to a child whose curiosity is w, of what passes the edge to it
abbrev pub answers_of : Known → Wanted → Wanted → Known
answers_of known w piece = knowns (λ t. answer (known_at known t) (wanted_at w t) (wanted_at piece t)) (points known
    ++ points w ++ points piece)

-- the answers to c, whose curiosity is w
unfoldable pub answers : Net → ℕ → ℕ → Known → Wanted → Wanted → Known
answers net p c know w piece = answers_of (passed net p c know) w piece

-- what is kept of a child's ask: it stays asked where nothing is known yet, and is done where it was answered
abbrev pub curious : K → Q3 → Q3 → Q3
curious k a C = if is_A a then A else (if is_Q k then C else N)
curious k a _ = a

-- the child's curiosity after its asks
unfoldable pub stored : Known → Wanted → Wanted → Wanted
stored know w piece = wanteds (λ t. curious (known_at know t) (wanted_at w t) (wanted_at piece t)) (points know
    ++ points w ++ points piece)

-- asked and acknowledged ticks come from a child: they are answered from what is known, stored, and asked upstream
-- where unknown
unfoldable pub curiosity : Net → ℕ → ℕ → ℕ → ℕ → ℕ → Wanted → View → Log → Outcome
curiosity net p b now c i piece v log =
    let keeps = keeps_horizon net p b in
    let w = acknowledged (get_or v.wants i []) piece in
    let reply = answers net p c v.know w piece in
    let ws = set v.wants i (stored v.know w piece) in
    let know = finished v.know (consolidated keeps v.horizon ws) in
    let asked : Wanted = elim (is_host net p b) [
      | true ↦ []
      | false ↦ due now net.retry know v.asks (λ t. is_C (wanted_at piece t) && is_Q (known_at reply t)) (points piece
          ++ points reply)
    ] in
    record {
      view = kept_view net p b (record {
        know = know;
        wants = ws;
        asks = noted now v.asks asked;
        horizon = v.horizon;
        joins = v.joins;
      });
      log = log;
      lines = [];
      frames = know_frames v.joins b c p reply ++ up_frames net p b asked;
    }

-- A broker that is not the host asks for a wanted set, and tells what is consolidated
unfoldable pub asking : Net → ℕ → ℕ → ℕ → (ℕ → Bool) → List ℕ → View → Log → Outcome
asking net p b now wanted ps v log =
    let done = consolidated (keeps_horizon net p b) v.horizon v.wants in
    let asked = due now net.retry v.know v.asks wanted ps in
    record {
      view = kept_view net p b (record {
        know = v.know;
        wants = v.wants;
        asks = noted now v.asks asked;
        horizon = v.horizon;
        joins = v.joins;
      });
      log = log;
      lines = [];
      frames = up_frames net p b (upward done asked);
    }

-- a woken broker wants what a child asked, what is unknown and idle, and what is unknown for a gap's time below
-- something known
abbrev pub wanted_at_wake : Net → Bool → ℕ → View → ℕ → Bool
wanted_at_wake net keeps now v t =
    any_C v.wants t || (keeps && nat_lt v.horizon t && (nat_le (t + net.idle) now
    || (nat_le (t + net.gap) now && nat_lt t (top_of v.know))))

-- a broker below the host is woken
unfoldable pub wake_below : Net → ℕ → ℕ → ℕ → View → Log → Outcome
wake_below net p b now v log =
    asking net p b now (wanted_at_wake net (keeps_horizon net p b) now v)
    (all_points v.wants
    ++ (suc v.horizon ∷ (suc (now - net.idle) ∷ (suc (now - net.gap) ∷ (top_of v.know ∷ []))))) v log

-- A child has an A at each tick of 1 to upto
abbrev pub covers : Wanted → ℕ → Bool
covers w upto = list_all (λ t. is_A (wanted_at w t)) (filter (λ t. nat_le 1 t && nat_le t upto) (1 ∷ points w))

-- the tick to each child that has not acknowledged all up to it
abbrev pub expect_frames : ℕ → ℕ → ℕ → List ℕ → List Wanted → List Frame
expect_frames p b tick [] ws = []
expect_frames p b tick (c ∷ cs) [] = []
expect_frames p b tick (c ∷ cs) (w ∷ ws) = (if covers w tick then [] else expect_frame b c p tick ∷ [])
    ++ expect_frames p b tick cs ws

-- Expect comes from upstream
unfoldable pub expect : Net → ℕ → ℕ → ℕ → ℕ → View → Log → Outcome
expect net p b now tick v log =
    let o = asking net p b now (λ t. any_C v.wants t
    || (keeps_horizon net p b && nat_lt v.horizon t && nat_le t tick)) (all_points v.wants
    ++ (suc v.horizon ∷ (suc tick ∷ []))) v log in
    record {
      view = o.view;
      log = o.log;
      lines = o.lines;
      frames = o.frames ++ expect_frames p b tick (net.children p b) v.wants;
    }

-- The publisher

-- nothing happened
abbrev pub unmoved : View → Log → Outcome
unmoved v log = record { view = v; log = log; lines = []; frames = [] }

-- only a line is told
abbrev pub says : View → Log → Report → Outcome
says v log l = record { view = v; log = log; lines = l ∷ []; frames = [] }

-- a publish, by its answer: a line alone, or the event is logged and learned with the silence before it
abbrev pub publish_by : Net → ℕ → ℕ → ℕ → Event → View → Log → Published → Outcome
publish_by net p b number e v log (publishes.Logged tick fresh) =
    let o = learn net p b fresh v (with_event log tick e) in
    record { view = o.view; log = o.log; lines = line.Logged p number tick ∷ o.lines; frames = o.frames }
publish_by net p b number e v log publishes.Already = says v log (line.Already p number)
publish_by net p b number e v log (publishes.Gap next) = says v log (line.Gap p number next)
publish_by net p b number e v log publishes.Exhausted = says v log (line.Exhausted p number)

-- a publish: said already, out of turn, past the last tick, or logged
unfoldable pub publish : Net → ℕ → ℕ → ℕ → ℕ → Event → View → Log → Outcome
publish net p b now number e v log = publish_by net p b number e v log (published log number e now)

-- the greatest tick up to which all is consolidated
unfoldable pub done_upto : Wanted → ℕ → ℕ
done_upto done upto = min upto (first_bottom_from done 1 - 1)

-- where more is consolidated than was cut, the log is cut, and written anew where its text is long
unfoldable pub cutting : Net → ℕ → ℕ → View → Log → Log
cutting net p b v log =
    let a = done_upto (consolidated (keeps_horizon net p b) v.horizon v.wants) log.settled in
    if nat_lt log.cut a then cut_log_at net.reclaim log a else log

-- the lines of a log before and after a cut: where it was cut, and directly behind that where it was written anew
abbrev pub cutting_lines : ℕ → Log → Log → List Report
cutting_lines p log cut = if nat_lt log.cut cut.cut then line.Cut p cut.cut ∷
    (if nat_lt log.generation cut.generation then line.Reclaimed p cut.generation ∷ [] else []) else []

-- a time of silence, by its answer: the log is marked and the silence learned, or it was not silent for long
abbrev pub marking_by : Net → ℕ → ℕ → View → Log → Quieted → Outcome
marking_by net p b v log (quiets.Marked tick fresh) = learn net p b fresh v (with_mark log tick)
marking_by net p b v log quiets.NotYet = unmoved v log

-- a log that was silent for long is marked
unfoldable pub marking : Net → ℕ → ℕ → ℕ → View → Log → Outcome
marking net p b now v log = marking_by net p b v log (quieted log now net.quiet)

-- the host is woken: it marks, cuts, and tells its children what to expect
unfoldable pub wake_host : Net → ℕ → ℕ → ℕ → View → Log → Outcome
wake_host net p b now v log =
    let o = marking net p b now v log in
    let cut = cutting net p b o.view o.log in
    record {
      view = o.view;
      log = cut;
      lines = (if nat_lt log.settled o.log.settled then line.Mark p now ∷ [] else [])
          ++ cutting_lines p o.log cut
          ++ o.lines;
      frames = o.frames ++ (if nat_lt 0 cut.settled then expect_frames p b cut.settled (net.children p b) o.view.wants
          else []);
    }

-- a broker is woken
unfoldable pub wake : Net → ℕ → ℕ → ℕ → View → Log → Outcome
wake net p b now v log = elim (is_host net p b) [
  | true ↦ wake_host net p b now v log
  | false ↦ wake_below net p b now v log
]

-- Start, and start again

-- what a broker knows when it starts: at the host, what the log says, with its joins
unfoldable pub started : Net → ℕ → ℕ → Log → View
started net p b log = record {
  know = if is_host net p b then log_know log else [];
  wants = map (λ _. []) (net.children p b);
  asks = [];
  horizon = 0;
  joins = if is_host net p b then log.joins else [];
}

-- A frame comes

-- some tick clashes
unfoldable pub clashes : Known → Known → Bool
clashes know piece = not_empty (zip_runs Q Q N same_Q3 (λ k x. if clash_K k x then A else N) know piece)

-- a view with other joins
abbrev pub with_joins : View → Joins → View
with_joins v js = record v { joins = js }

-- the net that a view shows
abbrev pub seen : Net → View → Net
seen net v = with_wants net (wants_with net v.joins)

-- a view that has taken up the joins of a frame, where there are more of them
abbrev pub taking : View → Frame → View
taking v f = elim f.body [ body.Knowledge runs js ↦ with_joins v (longer v.joins js) | _ ↦ v ]

-- a frame of knowledge is dropped where its joins split from those that are held, or it clashes
unfoldable pub drops : View → Known → Joins → Bool
drops v runs js = splits v.joins js || clashes v.know runs

-- a join, by its answer: a line alone, or it is logged and held, and the silence up to it learned
abbrev pub joining_by : Net → ℕ → ℕ → ℕ → View → Log → Joined → Outcome
joining_by net p b s v log (joins.Logged tick fresh) =
    let next = with_join log tick s in
    let o = learn net p b fresh (with_joins v next.joins) next in
    record { view = o.view; log = o.log; lines = line.Joined s p tick ∷ o.lines; frames = o.frames }
joining_by net p b s v log joins.Already = says v log (line.AlreadyJoined s p)
joining_by net p b s v log joins.Exhausted = says v log (line.ExhaustedJoin s p)

-- a join at the host
unfoldable pub joining : Net → ℕ → ℕ → ℕ → ℕ → View → Log → Outcome
joining net p b now s v log = joining_by net p b s v log (joined_at log s now)

-- what the host holds once a join is logged
abbrev pub view_joined : Log → ℕ → ℕ → View → View
view_joined log s now v =
    with_joins v (log.joins ++ record { subscriber = s; tick = max (suc log.settled) now } ∷ [])

-- the place of a number in a list
abbrev pub place_of : ℕ → List ℕ → ℕ
place_of c [] = 0
place_of c (x ∷ xs) = if nat_eq x c then 0 else suc (place_of c xs)

-- a frame comes. Knowledge that splits or clashes is dropped; else its joins are taken up
unfoldable pub receive : Net → ℕ → Frame → View → Log → Outcome
receive net now f v log =
    elim f.body [
      | body.Knowledge runs js ↦
          elim (drops v runs js) [
            | true ↦ record { view = v; log = log; lines = []; frames = [] }
            | false ↦ learn net f.head.publisher f.head.to runs (with_joins v (longer v.joins js)) log
          ]
      | body.Curiosity runs ↦
          curiosity net f.head.publisher f.head.to now f.head.from
          (place_of f.head.from (net.children f.head.publisher f.head.to)) runs v log
      | body.Expect tick ↦ expect net f.head.publisher f.head.to now tick v log
    ]
