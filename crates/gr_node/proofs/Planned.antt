-- The acts of a plan, one after another, are what the machine serves of what came at the hosted brokers: an arrival's acts are
-- what the machine does when it comes, and nothing where it came at another broker
use Rattle.std.proofs.Common.{◌≡◌, ℕ, ◌⊎◌, Bool, true, false, inl, inr, List, [], ◌∷◌, ◌++◌, map, Option, Some, None, Result, Ok, Err, refl, sym, ap, ◌∙◌, append-nil, append_assoc}
use Rattle.std.specs.Prelude.{if◌then◌else◌, filter, flat_map}
use Rattle.std.proofs.lemmas.Bool.{cases_Bool, true≢false}
use Rattle.std.proofs.lemmas.List.{map-append}
use Rattle.gr_frame.specs.Decode.{frame_decoded}
use Rattle.gr_note.specs.declared.note.Note.{Note}
use Rattle.gr_note.specs.declared.fault.NoteFault.{NoteFault}
use Rattle.gr_note.specs.Fault as note
use Rattle.gr_note.specs.Bytes.{begins_note}
use Rattle.gr_note.specs.Decode.{note_decoded}
use Rattle.gr_out.specs.Journal.{is_among}
use Rattle.gr_sched.specs.declared.step.Line.{Line}
use Rattle.gr_topo.specs.Topology.{TopologyView}
use Rattle.gr_model.specs.declared.report.Report.{Report}
use Rattle.gr_model.specs.declared.report.Report.TheVariants as line
use Rattle.gr_model.specs.Net.{Net, is_host, numbers}
use Rattle.gr_model.specs.NetOf.{net_of}
use Rattle.gr_model.specs.Broker.{Log}
use Rattle.gr_model.specs.World.{World, Transition, unchanged, followed_by, in_turn, publish_now, join_now, wake_for, wake_all, wake_all_by}
use Rattle.gr_model.specs.Opening.{over_logs, opened_for, publishers_at, opening, opening_by}
use Rattle.gr_model.specs.Arrivals.{Arrival, datagram, quiet, Publish, Request, asks_publish, asks_join, requests_of, left_after, at_moment, is_hosted, publisher_of, submitted_in, receives, notes, notes_by, reads, answered_first, quieted, quieted_by, comes, comes_by, show_hosted, served_from, served_from_by, arrived, arrived_by, served, served_by}
use Rattle.gr_model_theorems.specs.Served.{joined}
use Rattle.gr_node.specs.Plan.{Act, binds, starts, arrives, calls, settles, shows, gets, wakes, is_ours, ours, request_calls, wake_calls, quiet_calls, submit_acts, note_acts, datagram_acts, acts_of, settling, arrival_acts, acts_from, closing, turn_acts, run_acts, nodes, plan, act}
use Rattle.gr_node.proofs.Opening.{in_turn_append, binds_nothing, settled_nothing}

-- One after another

-- and then nothing
pub followed_none : (s : Transition) → followed_by s (λ u. unchanged u []) ≡ s
followed_none s = ap (λ (z : List Report). record { world = s.world; lines = z }) (append-nil s.lines)

-- what follows does the same from there
pub followed_same : (s : Transition) (f g : World → Transition) → f s.world ≡ g s.world
    → followed_by s f ≡ followed_by s g
followed_same s f g e = ap (λ (r : Transition). record { world = r.world; lines = s.lines ++ r.lines }) e

-- whether a publisher is at a hosted broker
pub same_among : (net : Net) (hosted : List ℕ) (p : ℕ) → is_hosted net hosted p ≡ is_among hosted (net.host p)
same_among net hosted p = refl

-- Bindings and starts

-- brokers that start in turn open the logs of their publishers in turn
pub started_as : (net : Net) (hosted bs : List ℕ) (w : World)
    → in_turn (act net hosted) (map starts bs) w ≡ in_turn (opened_for net) (publishers_at net bs) w
unfolding act
started_as net hosted [] w = refl
started_as net hosted (b ∷ bs) w =
    let own : List ℕ = filter (λ p. is_host net p b) (numbers net.publishers) in
    let later : World → Transition = in_turn (act net hosted) (map starts bs) in
    let here : Transition = in_turn (opened_for net) own w in
    ap (λ (ps : List ℕ). followed_by (in_turn (opened_for net) ps w) later) (append-nil own)
    ∙ (followed_same here later (in_turn (opened_for net) (publishers_at net bs)) (started_as net hosted bs here.world)
    ∙ sym (in_turn_append (opened_for net) own (publishers_at net bs) w))

-- so all bindings and then the starts of the hosted brokers are the machine's opening
pub begun_as : (net : Net) (hosted bs : List ℕ) (logs : List Log)
    → in_turn (act net hosted) (map binds bs ++ map starts hosted) (over_logs net logs) ≡ opening net hosted logs
unfolding opening_by
begun_as net hosted bs logs =
    let w : World = over_logs net logs in
    let later : World → Transition = in_turn (act net hosted) (map starts hosted) in
    in_turn_append (act net hosted) (map binds bs) (map starts hosted) w
    ∙ (ap (λ (s : Transition). followed_by s later) (binds_nothing net hosted bs w) ∙ started_as net hosted hosted w)

-- An arrival

-- a broker's wakes
woken_for : (net : Net) (hosted : List ℕ) (b : ℕ) (ps : List ℕ) (w : World)
    → in_turn (act net hosted) (map calls (map (wakes b) ps)) w ≡ in_turn (λ u p. wake_for net u b p) ps w
unfolding act
woken_for net hosted b [] w = refl
woken_for net hosted b (p ∷ ps) w =
    followed_same (wake_for net w b p) (in_turn (act net hosted) (map calls (map (wakes b) ps)))
    (in_turn (λ u q. wake_for net u b q) ps) (woken_for net hosted b ps (wake_for net w b p).world)

-- the wakes of all
all_woken : (net : Net) (hosted bs : List ℕ) (w : World)
    → in_turn (act net hosted) (map calls (flat_map (wake_calls net.publishers) bs)) w ≡ in_turn (wake_all net) bs w
unfolding wake_all_by
all_woken net hosted [] w = refl
all_woken net hosted (b ∷ bs) w =
    let own = wake_calls net.publishers b in
    let left = flat_map (wake_calls net.publishers) bs in
    let later : World → Transition = in_turn (act net hosted) (map calls left) in
    ap (λ (acts : List Act). in_turn (act net hosted) acts w) (map-append calls own left)
    ∙ (in_turn_append (act net hosted) (map calls own) (map calls left) w
    ∙ (ap (λ (s : Transition). followed_by s later) (woken_for net hosted b (numbers net.publishers) w)
    ∙ followed_same (wake_all net w b) later (in_turn (wake_all net) bs) (all_woken net hosted bs (wake_all net w b).world)))

-- the request that a quiet moment takes
answered_as : (net : Net) (hosted : List ℕ) (left : List Request) (w : World)
    → in_turn (act net hosted) (map calls (request_calls left)) w ≡ answered_first net w left
unfolding act
answered_as net hosted [] w = refl
answered_as net hosted (asks_publish p number e ∷ left) w = followed_none (publish_now net w p number e)
answered_as net hosted (asks_join s p ∷ left) w = followed_none (join_now net w s p)

-- the calls of a quiet moment
quieted_as : (net : Net) (hosted : List ℕ) (left : List Request) (w : World)
    → in_turn (act net hosted) (map calls (quiet_calls net hosted left)) w ≡ quieted net hosted w left
unfolding quieted_by
quieted_as net hosted left w =
    let woken = flat_map (wake_calls net.publishers) hosted in
    let later : World → Transition = in_turn (act net hosted) (map calls woken) in
    let first : Transition = answered_first net w left in
    ap (λ (acts : List Act). in_turn (act net hosted) acts w) (map-append calls (request_calls left) woken)
    ∙ (in_turn_append (act net hosted) (map calls (request_calls left)) (map calls woken) w
    ∙ (ap (λ (s : Transition). followed_by s later) (answered_as net hosted left w)
    ∙ followed_same first later (in_turn (wake_all net) hosted) (all_woken net hosted hosted first.world)))

-- what a note submits
submitted_as : (net : Net) (hosted : List ℕ) (b p : ℕ) (o : Option Publish) (u : World) → in_turn (act net hosted) (submit_acts b p o) u
    ≡ elim o [ Some x ↦ publish_now net u x.0 x.1.0 x.1.1 | None ↦ unchanged u (line.DroppedStrayNote b p ∷ []) ]
unfolding act
submitted_as net hosted b p None u = followed_none (unchanged u (line.DroppedStrayNote b p ∷ []))
submitted_as net hosted b p (Some x) u = followed_none (publish_now net u x.0 x.1.0 x.1.1)

-- a note
noted_as : (net : Net) (hosted : List ℕ) (b : ℕ) (r : Result Note NoteFault) (u : World) → in_turn (act net hosted) (note_acts net b r) u ≡ notes net u b r
unfolding act notes_by
noted_as net hosted b (Err fault) u = followed_none (unchanged u (line.DroppedBadNote b (note.fault_number fault.kind) fault.at ∷ []))
noted_as net hosted b (Ok n) u = submitted_as net hosted b (publisher_of n) (submitted_in net b n) u

-- a datagram at a hosted broker
read_as : (net : Net) (hosted : List ℕ) (b : ℕ) (bytes : List ℕ) (u : World) → in_turn (act net hosted) (datagram_acts net b bytes) u ≡ reads net u b bytes
unfolding act
read_as net hosted b bytes u = go (begins_note bytes)
  where
    go : (c : Bool) → in_turn (act net hosted) (elim c [ true ↦ note_acts net b (note_decoded bytes) | false ↦ calls (gets b (frame_decoded bytes)) ∷ [] ]) u
        ≡ elim c [ true ↦ notes net u b (note_decoded bytes) | false ↦ receives net u b (frame_decoded bytes) ]
    go true = noted_as net hosted b (note_decoded bytes) u
    go false = followed_none (receives net u b (frame_decoded bytes))

-- where it came at a hosted broker, or at a quiet moment, its acts are what the machine does
pub calls_are : (net : Net) (hosted : List ℕ) (left : List Request) (a : Arrival) (w : World)
    → is_ours hosted a ≡ true → in_turn (act net hosted) (arrives a ∷ acts_of net hosted left a) w ≡ comes net hosted w left a
unfolding act comes_by
calls_are net hosted left (datagram b bytes moment) w e =
    ap (λ (c : Bool). followed_by (unchanged (if c then at_moment w moment else w) [])
    (in_turn (act net hosted) (if c then datagram_acts net b bytes else []))) e
    ∙ read_as net hosted b bytes (at_moment w moment)
calls_are net hosted left (quiet moment) w e = quieted_as net hosted left (at_moment w moment)

-- and where it came at another they do nothing
pub no_calls : (net : Net) (hosted : List ℕ) (left : List Request) (a : Arrival) (w : World)
    → is_ours hosted a ≡ false → in_turn (act net hosted) (arrives a ∷ acts_of net hosted left a) w ≡ unchanged w []
unfolding act
no_calls net hosted left (datagram b bytes moment) w e =
    ap (λ (c : Bool). followed_by (unchanged (if c then at_moment w moment else w) [])
    (in_turn (act net hosted) (if c then datagram_acts net b bytes else []))) e
no_calls net hosted left (quiet moment) w e = absurd (true≢false e)

-- what is told of one order then is none of the machine's
settling_nothing : (net : Net) (hosted : List ℕ) (a : Arrival) (w : World) → in_turn (act net hosted) (settling hosted a) w ≡ unchanged w []
settling_nothing net hosted a w = go (is_ours hosted a)
  where
    go : (c : Bool) → in_turn (act net hosted) (if c then settles ∷ [] else []) w ≡ unchanged w []
    go true = settled_nothing net hosted [] w
    go false = refl

pub led_is : (net : Net) (hosted : List ℕ) (left : List Request) (a : Arrival) (w : World)
    → in_turn (act net hosted) (arrival_acts net hosted left a) w ≡ in_turn (act net hosted) (arrives a ∷ acts_of net hosted left a) w
led_is net hosted left a w =
    let first : Transition = in_turn (act net hosted) (arrives a ∷ acts_of net hosted left a) w in
    let later : World → Transition = in_turn (act net hosted) (settling hosted a) in
    in_turn_append (act net hosted) (arrives a ∷ acts_of net hosted left a) (settling hosted a) w
    ∙ (followed_same first later (λ u. unchanged u []) (settling_nothing net hosted a first.world) ∙ followed_none first)

pub arrival_is : (net : Net) (hosted : List ℕ) (left : List Request) (a : Arrival) (w : World)
    → is_ours hosted a ≡ true → in_turn (act net hosted) (arrival_acts net hosted left a) w ≡ comes net hosted w left a
arrival_is net hosted left a w e = led_is net hosted left a w ∙ calls_are net hosted left a w e

pub passed_over : (net : Net) (hosted : List ℕ) (left : List Request) (a : Arrival) (w : World)
    → is_ours hosted a ≡ false → in_turn (act net hosted) (arrival_acts net hosted left a) w ≡ unchanged w []
passed_over net hosted left a w e = led_is net hosted left a w ∙ no_calls net hosted left a w e

-- such an arrival takes no request
pub none_taken : (hosted : List ℕ) (left : List Request) (a : Arrival) → is_ours hosted a ≡ false → left_after left a ≡ left
none_taken hosted left (datagram b bytes moment) e = refl
none_taken hosted left (quiet moment) e = absurd (true≢false e)

-- What is ours of all that came

pub ours_more : (hosted : List ℕ) (a : Arrival) (came : List Arrival) → is_ours hosted a ≡ true
    → ours hosted (a ∷ came) ≡ a ∷ ours hosted came
ours_more hosted a came e = ap (λ (c : Bool). if c then a ∷ ours hosted came else ours hosted came) e

pub ours_same : (hosted : List ℕ) (a : Arrival) (came : List Arrival) → is_ours hosted a ≡ false
    → ours hosted (a ∷ came) ≡ ours hosted came
ours_same hosted a came e = ap (λ (c : Bool). if c then a ∷ ours hosted came else ours hosted came) e

-- what the machine does at arrivals, one after another
abbrev pub all_come : Net → List ℕ → List Request → List Arrival → World → Transition
all_come net hosted left [] w = unchanged w []
all_come net hosted left (a ∷ came) w = followed_by (comes net hosted w left a) (all_come net hosted (left_after left a) came)

-- the world that they leave
pub arrived_is : (net : Net) (hosted : List ℕ) (left : List Request) (came : List Arrival) (w : World)
    → (all_come net hosted left came w).world ≡ arrived net hosted w left came
unfolding arrived_by
arrived_is net hosted left [] w = refl
arrived_is net hosted left (a ∷ came) w = arrived_is net hosted (left_after left a) came (comes net hosted w left a).world

-- the lines that they tell, and then what is shown
pub served_is : (net : Net) (hosted : List ℕ) (left : List Request) (came : List Arrival) (w : World)
    → joined (served_from net hosted w left came)
    ≡ (followed_by (all_come net hosted left came w) (λ v. unchanged v (show_hosted net hosted v))).lines
unfolding served_from_by
served_is net hosted left [] w = append-nil (show_hosted net hosted w)
served_is net hosted left (a ∷ came) w =
    let t : Transition = comes net hosted w left a in
    let s : Transition = all_come net hosted (left_after left a) came t.world in
    ap (λ (ls : List Report). t.lines ++ ls) (served_is net hosted (left_after left a) came t.world)
    ∙ sym (append_assoc t.lines s.lines (show_hosted net hosted s.world))

-- an arrival and those after it, whose acts are what the machine does
come_more : (net : Net) (hosted : List ℕ) (left : List Request) (a : Arrival) (came : List Arrival) (later : World → Transition) (w : World)
    → ((u : World) → later u ≡ all_come net hosted (left_after left a) (ours hosted came) u)
    → followed_by (in_turn (act net hosted) (arrival_acts net hosted left a) w) later ≡ all_come net hosted left (ours hosted (a ∷ came)) w
come_more net hosted left a came later w more = go (cases_Bool (is_ours hosted a))
  where
    go : (is_ours hosted a ≡ true) ⊎ (is_ours hosted a ≡ false)
        → followed_by (in_turn (act net hosted) (arrival_acts net hosted left a) w) later ≡ all_come net hosted left (ours hosted (a ∷ came)) w
    go (inl e) =
        let t : Transition = comes net hosted w left a in
        ap (λ (s : Transition). followed_by s later) (arrival_is net hosted left a w e)
        ∙ (followed_same t later (all_come net hosted (left_after left a) (ours hosted came)) (more t.world)
        ∙ sym (ap (λ (xs : List Arrival). all_come net hosted left xs w) (ours_more hosted a came e)))
    go (inr e) =
        ap (λ (s : Transition). followed_by s later) (passed_over net hosted left a w e)
        ∙ (more w
        ∙ (ap (λ (ps : List Request). all_come net hosted ps (ours hosted came) w) (none_taken hosted left a e)
        ∙ sym (ap (λ (xs : List Arrival). all_come net hosted left xs w) (ours_same hosted a came e))))

-- the acts of all that came are what the machine does at those that are ours
pub acts_are_arrived : (net : Net) (hosted : List ℕ) (left : List Request) (came : List Arrival) (w : World)
    → in_turn (act net hosted) (acts_from net hosted left came) w ≡ all_come net hosted left (ours hosted came) w
unfolding acts_from
acts_are_arrived net hosted left [] w = refl
acts_are_arrived net hosted left (a ∷ came) w =
    let later : List Act = acts_from net hosted (left_after left a) came in
    in_turn_append (act net hosted) (arrival_acts net hosted left a) later w
    ∙ come_more net hosted left a came (in_turn (act net hosted) later) w (λ u. acts_are_arrived net hosted (left_after left a) came u)

-- The plan

-- that nothing comes any more does nothing to the machine
closed_nothing : (net : Net) (hosted : List ℕ) (closed : Bool) (w : World)
    → in_turn (act net hosted) (closing closed) w ≡ unchanged w []
unfolding act
closed_nothing net hosted true w = refl
closed_nothing net hosted false w = refl

-- all that came, and the end
came_as : (net : Net) (hosted : List ℕ) (steps : List Line) (came : List Arrival) (closed : Bool) (w : World)
    → in_turn (act net hosted) (run_acts net hosted steps came closed) w
    ≡ all_come net hosted (requests_of net hosted steps) (ours hosted came) w
came_as net hosted steps came closed w =
    let left = requests_of net hosted steps in
    let s : Transition = all_come net hosted left (ours hosted came) w in
    let ending : World → Transition = in_turn (act net hosted) (closing closed) in
    settled_nothing net hosted (turn_acts net hosted steps came closed) w
    ∙ (in_turn_append (act net hosted) (acts_from net hosted left came) (closing closed) w
    ∙ (ap (λ (t : Transition). followed_by t ending) (acts_are_arrived net hosted left came w)
    ∙ (followed_same s ending (λ v. unchanged v []) (closed_nothing net hosted closed s.world) ∙ followed_none s)))

-- what is shown at last
shown_at_last : (net : Net) (hosted : List ℕ) (w : World)
    → in_turn (act net hosted) (shows ∷ []) w ≡ unchanged w (show_hosted net hosted w)
unfolding act
shown_at_last net hosted w = followed_none (unchanged w (show_hosted net hosted w))

-- what the machine serves: the opening, what came at the hosted brokers, and what is shown
abbrev pub serves : Net → List ℕ → List Log → List Line → List Arrival → Transition
serves net hosted logs steps came =
    followed_by (opening net hosted logs) (λ u. followed_by (all_come net hosted (requests_of net hosted steps) came u)
    (λ v. unchanged v (show_hosted net hosted v)))

-- the acts of a plan do just this
pub plan_is_served : (t : TopologyView) (hosted : List ℕ) (steps : List Line) (came : List Arrival) (closed : Bool) (logs : List Log)
    → in_turn (act (net_of t) hosted) (plan t hosted steps came closed) (over_logs (net_of t) logs)
    ≡ serves (net_of t) hosted logs steps (ours hosted came)
unfolding plan
plan_is_served t hosted steps came closed logs =
    ap (λ (acts : List Act). in_turn done acts w) (sym (append_assoc (map binds bs) (map starts hosted) (middle ++ shows ∷ [])))
    ∙ (in_turn_append done (map binds bs ++ map starts hosted) (middle ++ shows ∷ []) w
    ∙ (ap (λ (s : Transition). followed_by s (in_turn done (middle ++ shows ∷ []))) (begun_as net hosted bs logs)
    ∙ followed_same (opening net hosted logs) (in_turn done (middle ++ shows ∷ [])) served_on
    (at_world (let o : Transition = opening net hosted logs in o.world))))
  where
    net : Net
    net = net_of t

    w : World
    w = over_logs net logs

    bs : List ℕ
    bs = nodes t hosted

    done : World → Act → Transition
    done = act net hosted

    middle : List Act
    middle = run_acts net hosted steps came closed

    came_on : World → Transition
    came_on = all_come net hosted (requests_of net hosted steps) (ours hosted came)

    served_on : World → Transition
    served_on u = followed_by (came_on u) (λ v. unchanged v (show_hosted net hosted v))

    at_world : (u : World) → in_turn done (middle ++ shows ∷ []) u ≡ served_on u
    at_world u =
        in_turn_append done middle (shows ∷ []) u
        ∙ (ap (λ (s : Transition). followed_by s (in_turn done (shows ∷ []))) (came_as net hosted steps came closed u)
        ∙ followed_same (came_on u) (in_turn done (shows ∷ [])) (λ v. unchanged v (show_hosted net hosted v))
        (let s : Transition = came_on u in shown_at_last net hosted s.world))

-- its lines are those that are served
pub served_lines : (net : Net) (hosted : List ℕ) (logs : List Log) (steps : List Line) (came : List Arrival)
    → (serves net hosted logs steps came).lines ≡ joined (served net hosted logs steps came)
unfolding served_by
served_lines net hosted logs steps came =
    let o : Transition = opening net hosted logs in
    ap (λ (ls : List Report). o.lines ++ ls) (sym (served_is net hosted (requests_of net hosted steps) came o.world))

-- The acts of a plan tell what is served of what came at the hosted brokers
pub plan_lines : (t : TopologyView) (hosted : List ℕ) (steps : List Line) (came : List Arrival) (closed : Bool) (logs : List Log)
    → (in_turn (act (net_of t) hosted) (plan t hosted steps came closed) (over_logs (net_of t) logs)).lines
    ≡ joined (served (net_of t) hosted logs steps (ours hosted came))
plan_lines t hosted steps came closed logs =
    ap (λ (s : Transition). s.lines) (plan_is_served t hosted steps came closed logs)
    ∙ served_lines (net_of t) hosted logs steps (ours hosted came)

-- They leave the world after it
pub plan_world : (t : TopologyView) (hosted : List ℕ) (steps : List Line) (came : List Arrival) (closed : Bool) (logs : List Log)
    → (in_turn (act (net_of t) hosted) (plan t hosted steps came closed) (over_logs (net_of t) logs)).world
    ≡ arrived (net_of t) hosted (opening (net_of t) hosted logs).world (requests_of (net_of t) hosted steps) (ours hosted came)
plan_world t hosted steps came closed logs =
    let net = net_of t in
    let o : Transition = opening net hosted logs in
    ap (λ (s : Transition). s.world) (plan_is_served t hosted steps came closed logs)
    ∙ arrived_is net hosted (requests_of net hosted steps) (ours hosted came) o.world
