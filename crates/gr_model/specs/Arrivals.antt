-- A server: what comes to its brokers from outside, and what they do
use Rattle.std.specs.Prelude.{ℕ, ◌&&◌, ◌++◌, min, max, not, Bool, true, false, nat_eq, nat_lt, if◌then◌else◌, List, []}
use Rattle.std.specs.Prelude.{◌∷◌, length, Option, Some, None, Result, Ok, Err, flat_map}
use Rattle.std.specs.List.{list_any}
use Rattle.gr_event.specs.declared.event.Event.{Event}
use Rattle.gr_event.specs.Joins.{Joins, first_split}
use Rattle.gr_event.specs.declared.join.Split.{Split}
use Rattle.gr_frame.specs.declared.Body.TheVariants as body
use Rattle.gr_frame.specs.declared.Frame.{Frame}
pub use Rattle.gr_frame.specs.Fault.{fault_number}
use Rattle.gr_frame.specs.declared.fault.FrameFault.{FrameFault}
use Rattle.gr_frame.specs.Decode.{frame_decoded}
use Rattle.gr_note.specs.declared.note.Note.{Note}
use Rattle.gr_note.specs.declared.note.Note.TheVariants.{Submit, Next, Spent}
use Rattle.gr_note.specs.declared.fault.NoteFault.{NoteFault}
use Rattle.gr_note.specs.Fault as note
use Rattle.gr_note.specs.Bytes.{begins_note}
use Rattle.gr_note.specs.Decode.{note_decoded}
use Rattle.gr_know.specs.declared.values.K.TheVariants.{Q}
use Rattle.gr_curio.specs.declared.values.Q3.TheVariants.{N, A}
use Rattle.gr_curio.specs.Values.{Wanted, same_Q3}
use Rattle.gr_tick.specs.Runs.{zip_runs}
use Rattle.gr_know.specs.Values.{Known, known_at, clash_K}
use Rattle.gr_sched.specs.declared.step.Line.{Line}
use Rattle.gr_sched.specs.declared.step.Step.TheVariants as step
use Rattle.gr_model.specs.declared.report.Report.{Report}
use Rattle.gr_model.specs.declared.report.Report.TheVariants as line
use Rattle.gr_model.specs.Net.{Net, all_late, keeps_horizon, numbers}
use Rattle.gr_model.specs.Broker.{View, Log, max_tick, seen}
use Rattle.gr_model.specs.World.{World, Transition, view_of, log_of, unchanged, followed_by, in_turn}
use Rattle.gr_model.specs.World.{kept_events, deliver_frame_by, publish_now_by, wake_all_by, join_now_by}
use Rattle.gr_model.specs.Opening.{opening, opening_by}

-- What comes

-- the bytes of a datagram to a broker, or a quiet moment; each at a moment
pub data Arrival : Type 0 where
  datagram : ℕ → List ℕ → ℕ → Arrival
  quiet : ℕ → Arrival

-- a publish that a note submits: the publisher, the number, the event
abbrev pub Publish : Type 0
Publish = ℕ × (ℕ × Event)

-- what a schedule asks for: a publish by its publisher, number and event, or a join by its subscriber and publisher
pub data Request : Type 0 where
  asks_publish : ℕ → ℕ → Event → Request
  asks_join : ℕ → ℕ → Request

-- the publisher is at one of the hosted brokers
abbrev pub is_hosted : Net → List ℕ → ℕ → Bool
is_hosted net hosted p = list_any (λ b. nat_eq b (net.host p)) hosted

-- a schedule publishes for the publisher: it is at one of the hosted brokers, and has no client
abbrev pub is_scheduled : Net → List ℕ → ℕ → Bool
is_scheduled net hosted p = is_hosted net hosted p && not (net.client p)

-- The publishes of a schedule whose publisher is at one of the hosted brokers and has no client, and the joins whose
-- publisher is at one of them, in order. A stop is left aside, and so are all other steps
abbrev pub requests_in : Net → List ℕ → Line → List Request
requests_in net hosted l = elim l.step [
  | step.Publish p number stop e ↦ if is_scheduled net hosted p then asks_publish p number e ∷ [] else []
  | step.Join s p ↦ if is_hosted net hosted p then asks_join s p ∷ [] else []
  | _ ↦ []
]

abbrev pub requests_of : Net → List ℕ → List Line → List Request
requests_of net hosted steps = flat_map (requests_in net hosted) steps

-- a quiet moment takes the first request that is left
abbrev pub left_after : List Request → Arrival → List Request
left_after left (datagram b bytes moment) = left
left_after [] (quiet moment) = []
left_after (x ∷ left) (quiet moment) = left

-- A datagram

-- a moment past the last tick is taken as the last tick
abbrev pub at_moment : World → ℕ → World
at_moment w moment = let now : ℕ = min moment max_tick in
    record { clock = now; most = max now w.most; frames = w.frames; views = w.views; logs = w.logs }

-- the joins that a frame brings; each is of a late subscriber
abbrev pub joins_in : Frame → Joins
joins_in f = elim f.body [ body.Knowledge runs js ↦ js | _ ↦ [] ]

abbrev pub joins_fit : Net → Frame → Bool
joins_fit net f = all_late net (joins_in f)

-- The frame fits the broker: it is addressed to it, of a publisher that there is, curiosity comes from a child and all
-- else from the next broker towards the host, and each join is of a late subscriber
abbrev pub fits_broker : Net → ℕ → Frame → Bool
fits_broker net b f =
    ((nat_eq f.head.to b && nat_lt f.head.publisher net.publishers)
    && elim f.body [
      | body.Curiosity runs ↦ list_any (λ x. nat_eq x f.head.from) (net.children f.head.publisher b)
      | _ ↦ elim (net.up f.head.publisher b) [ Some u ↦ nat_eq u f.head.from | None ↦ false ]
    ])
    && joins_fit net f

-- the ticks at which a piece clashes with what is known, as runs; the least of them
abbrev pub clash_runs : Known → Known → Wanted
clash_runs know piece = zip_runs Q Q N same_Q3 (λ k x. if clash_K k x then A else N) know piece

abbrev pub first_of : Wanted → Option ℕ
first_of [] = None
first_of (r ∷ rs) = Some r.first

-- the least tick at which knowledge clashes, if there is one
abbrev pub least_clash : Known → Frame → Option ℕ
least_clash know f = elim f.body [ body.Knowledge runs js ↦ first_of (clash_runs know runs) | _ ↦ None ]

-- the line of a clash at a tick
abbrev pub clash_line : ℕ → Known → Frame → ℕ → Report
clash_line b know f t = line.DroppedClash b t (known_at know t) (elim f.body [
  | body.Knowledge runs js ↦ known_at runs t
  | _ ↦ Q
])

-- the line of a split
abbrev pub split_line : ℕ → Split → Report
split_line b x = line.DroppedSplit b x.at x.kept x.came

-- a frame that fits is received, unless its joins split from those that are held, or it clashes
unfoldable pub takes_by : (View → Net) → Net → World → ℕ → Frame → Transition
takes_by see net w b f =
    elim (first_split 0 (view_of w b f.head.publisher).joins (joins_in f)) [
      | Some x ↦ unchanged w (split_line b x ∷ [])
      | None ↦
          elim (least_clash (view_of w b f.head.publisher).know f) [
            | Some t ↦ unchanged w (clash_line b (view_of w b f.head.publisher).know f t ∷ [])
            | None ↦ deliver_frame_by see net w f
          ]
    ]

abbrev pub takes : Net → World → ℕ → Frame → Transition
takes net = takes_by (seen net) net

-- A datagram is decoded, then it must fit, then its joins must not split from those that are held, then it must not
-- clash; one that fails changes nothing
unfoldable pub receives_by : (View → Net) → Net → World → ℕ → Result Frame FrameFault → Transition
receives_by see net w b (Err fault) = unchanged w (line.DroppedNotFrame b (fault_number fault.kind) fault.at ∷ [])
receives_by see net w b (Ok f) =
    elim (fits_broker net b f) [
      | false ↦ unchanged w (line.DroppedStray b f.head.from f.head.to f.head.publisher ∷ [])
      | true ↦ takes_by see net w b f
    ]

abbrev pub receives : Net → World → ℕ → Result Frame FrameFault → Transition
receives net = receives_by (seen net) net

-- A note

-- the publisher of which a note speaks
abbrev pub publisher_of : Note → ℕ
publisher_of (Submit publisher number event) = publisher
publisher_of (Next publisher next) = publisher
publisher_of (Spent publisher) = publisher

-- the publisher has a client, and is at the broker
abbrev pub takes_notes : Net → ℕ → ℕ → Bool
takes_notes net b p = nat_lt p net.publishers && (net.client p && nat_eq (net.host p) b)

-- the publish that a note submits at a broker, if it does
abbrev pub submitted_in : Net → ℕ → Note → Option Publish
submitted_in net b (Submit publisher number event) =
    if takes_notes net b publisher then Some (publisher, (number, event)) else None
submitted_in net b (Next publisher next) = None
submitted_in net b (Spent publisher) = None

-- what is submitted is published, and any other note is dropped
abbrev pub submits_by : (View → Net) → Net → World → ℕ → Note → Transition
submits_by see net w b n =
    elim (submitted_in net b n) [
      | Some x ↦ publish_now_by see net w x.0 x.1.0 x.1.1
      | None ↦ unchanged w (line.DroppedStrayNote b (publisher_of n) ∷ [])
    ]

-- bytes that begin as a note are decoded; such as spell none are dropped
unfoldable pub notes_by : (View → Net) → Net → World → ℕ → Result Note NoteFault → Transition
notes_by see net w b (Err fault) = unchanged w (line.DroppedBadNote b (note.fault_number fault.kind) fault.at ∷ [])
notes_by see net w b (Ok n) = submits_by see net w b n

abbrev pub notes : Net → World → ℕ → Result Note NoteFault → Transition
notes net = notes_by (seen net) net

-- a datagram is a note by its first bytes, and else is to be a frame
abbrev pub reads_by : (View → Net) → Net → World → ℕ → List ℕ → Transition
reads_by see net w b bytes =
    elim (begins_note bytes) [
      | true ↦ notes_by see net w b (note_decoded bytes)
      | false ↦ receives_by see net w b (frame_decoded bytes)
    ]

abbrev pub reads : Net → World → ℕ → List ℕ → Transition
reads net = reads_by (seen net) net

-- A quiet moment: the first request that is left, and then each hosted broker is woken for each publisher

abbrev pub answered_first_by : (View → Net) → Net → World → List Request → Transition
answered_first_by see net w [] = unchanged w []
answered_first_by see net w (asks_publish p number e ∷ left) = publish_now_by see net w p number e
answered_first_by see net w (asks_join s p ∷ left) = join_now_by see net w s p

abbrev pub answered_first : Net → World → List Request → Transition
answered_first net = answered_first_by (seen net) net

unfoldable pub quieted_by : (View → Net) → Net → List ℕ → World → List Request → Transition
quieted_by see net hosted w left =
    followed_by (answered_first_by see net w left) (in_turn (wake_all_by see net) hosted)

abbrev pub quieted : Net → List ℕ → World → List Request → Transition
quieted net = quieted_by (seen net) net

-- The run

unfoldable pub comes_by : (View → Net) → Net → List ℕ → World → List Request → Arrival → Transition
comes_by see net hosted w left (datagram b bytes moment) = reads_by see net (at_moment w moment) b bytes
comes_by see net hosted w left (quiet moment) = quieted_by see net hosted (at_moment w moment) left

abbrev pub comes : Net → List ℕ → World → List Request → Arrival → Transition
comes net = comes_by (seen net) net

-- what is shown at the end, of the hosted brokers and publishers
unfoldable pub show_hosted : Net → List ℕ → World → List Report
show_hosted net hosted w =
    line.Frames (length w.frames) ∷
    (flat_map (λ p. let l = log_of w p in if is_hosted net hosted p
    then line.LogOf p l.last l.settled l.cut (kept_events l) ∷ [] else []) (numbers net.publishers)
    ++ flat_map (λ b. flat_map (λ p. if keeps_horizon net p b then line.Doubt b p (view_of w b p).horizon ∷ []
    else []) (numbers net.publishers)) hosted)

-- the lines of each arrival, and then what is shown
unfoldable pub served_from_by : (View → Net) → Net → List ℕ → World → List Request → List Arrival → List (List Report)
served_from_by see net hosted w left [] = show_hosted net hosted w ∷ []
served_from_by see net hosted w left (a ∷ arrivals) = let t = comes_by see net hosted w left a in
    t.lines ∷ served_from_by see net hosted t.world (left_after left a) arrivals

abbrev pub served_from : Net → List ℕ → World → List Request → List Arrival → List (List Report)
served_from net = served_from_by (seen net) net

-- the world after arrivals: its frames are what was offered to the network, in order, and its logs what the lanes hold
unfoldable pub arrived_by : (View → Net) → Net → List ℕ → World → List Request → List Arrival → World
arrived_by see net hosted w left [] = w
arrived_by see net hosted w left (a ∷ arrivals) = let t = comes_by see net hosted w left a in
    arrived_by see net hosted t.world (left_after left a) arrivals

abbrev pub arrived : Net → List ℕ → World → List Request → List Arrival → World
arrived net = arrived_by (seen net) net

-- A run over a journal: the opening, then each arrival in turn, then what is shown. The hosted brokers are given in
-- rising order; of a publisher that is not hosted no log is looked at; and the journal ends with the list
unfoldable pub served_by : (View → Net) → Net → List ℕ → List Log → List Line → List Arrival → List (List Report)
served_by see net hosted logs steps arrivals = let o = opening_by see net hosted logs in
    o.lines ∷ served_from_by see net hosted o.world (requests_of net hosted steps) arrivals

abbrev pub served : Net → List ℕ → List Log → List Line → List Arrival → List (List Report)
served net = served_by (seen net) net
