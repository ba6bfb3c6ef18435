-- An arrival at a node: what its brokers tell and offer then is the group of the machine, and the node is the process behind it
use Rattle.std.proofs.Common.{◌≡◌, ℕ, ◌≤◌, ◌^◌, Bool, true, false, List, [], ◌∷◌, ◌++◌, map, length, drop, Option, Result, Ok, Err, flat_map, refl, sym, ap, ap₂, ◌∙◌, subst}
use Rattle.std.specs.Prelude.{if◌then◌else◌}
use Rattle.std.specs.List.{AllByRecursion}
use Rattle.gr_frame.specs.declared.Frame.{Frame}
use Rattle.gr_frame.specs.Decode.{frame_decoded}
use Rattle.gr_note.specs.declared.note.Note.{Note}
use Rattle.gr_note.specs.declared.fault.NoteFault.{NoteFault}
use Rattle.gr_note.specs.Fault as note
use Rattle.gr_note.specs.Bytes.{begins_note}
use Rattle.gr_note.specs.Decode.{note_decoded}
use Rattle.gr_out.specs.Entry.{Entry}
use Rattle.gr_out.specs.Journal.{is_among}
use Rattle.gr_topo.specs.Topology.{TopologyView}
use Rattle.gr_model.specs.declared.report.Report.{Report}
use Rattle.gr_model.specs.declared.report.Report.TheVariants as line
use Rattle.gr_model.specs.NetOf.{net_of}
use Rattle.gr_model.specs.Broker.{seen}
use Rattle.gr_model.specs.World.{World, Transition, in_turn, frames_past, sent_since}
use Rattle.gr_model.specs.Arrivals.{Arrival, datagram, quiet, Publish, Request, at_moment, publisher_of, comes}
use Rattle.gr_model.specs.Orders.{Order, fed, ordered, without_ordered}
use Rattle.gr_model.specs.Text.{labels_of, whole_line}
use Rattle.gr_model_theorems.specs.Forgets.{DifferInCut, TellTheSame}
use Rattle.gr_model_theorems.proofs.server.Lanes.{tells_same, same_comes}
use Rattle.gr_journal.specs.Groups.{Group, say_text, offer_text}
use Rattle.gr_report.proofs.Passing.{PassesLog, PassesRest}
use Rattle.gr_node.specs.Seen.{NodeView}
use Rattle.gr_node.specs.Of.{Hosts}
use Rattle.gr_node.specs.Plan.{Act, call_of, calls, settles, gets, is_ours, moment_of, quiet_calls, submit_acts, note_acts, datagram_acts, acts_of, settling, led_to, arrival_acts, offers_of, act, entries, all_entries}
use Rattle.gr_node.specs.Done.{Done, at_arrival, done, all_done}
use Rattle.gr_node.proofs.Acting.{left_are, arrival_are, settling_is, all_append}
use Rattle.gr_node.proofs.Moving.{IsNode, IsCallOf, IsActOf, Goes, moved_by, Moved, moves_all}
use Rattle.gr_node.proofs.Opening.{all_entries_append, in_turn_append}
use Rattle.gr_node.proofs.Planned.{calls_are, arrival_is}
use Rattle.gr_node.proofs.ToldOrders.{heard_by_acts, Settled, settles_ours}
use Rattle.gr_audit_theorems.specs.Behaves.{noted_offer, Standing, comes_to, standing_next, group_at}
use Rattle.gr_audit_theorems.proofs.Coming.{Unheard, submits_none}
use Rattle.gr_trace.specs.Traced.{said_lines, outs_of}
use Rattle.gr_trace.proofs.Sends.{Sends, sends_none, sends_on, sends_since, calls_send, drop_sends}

-- Acts, and what is heard in one order

pub moves_heard : (t : TopologyView) (hosted : List ℕ) (n : NodeView) (w : World) (acts : List Act) → PassesLog → PassesRest → IsNode t n w → Hosts hosted n
    → AllByRecursion (IsActOf t hosted) acts → (all_done t hosted n acts).node.orders ≡ heard_by_acts (net_of t) hosted w n.orders acts
unfolding all_done heard_by_acts
moves_heard t hosted n w [] passes rest i h k = refl
moves_heard t hosted n w (a ∷ acts) passes rest i h k =
    let d : Done = done t hosted n a in
    let u : Transition = act (net_of t) hosted w a in
    let one : Goes t hosted n w a = moved_by t hosted n w a passes rest i h k.0 in
    moves_heard t hosted d.node u.world acts passes rest one.node one.hosts k.1
    ∙ ap (λ (os : List Order). heard_by_acts (net_of t) hosted u.world os acts) one.heard

-- What is sent

datagram_sends : (t : TopologyView) (hosted : List ℕ) (w : World) (b : ℕ) (bytes : List ℕ) → Unheard (net_of t)
    → Sends w (in_turn (act (net_of t) hosted) (datagram_acts (net_of t) b bytes) w).world (all_entries t hosted w (datagram_acts (net_of t) b bytes))
datagram_sends t hosted w b bytes unheard = go (begins_note bytes)
  where
    sends_by : List Act → Type 0
    sends_by acts = Sends w (in_turn (act (net_of t) hosted) acts w).world (all_entries t hosted w acts)

    noted : (r : Result Note NoteFault) → sends_by (note_acts (net_of t) b r)
    noted (Err fault) = drop_sends t hosted w (line.DroppedBadNote b (note.fault_number fault.kind) fault.at)
    noted (Ok n) =
        subst (λ (o : Option Publish). sends_by (submit_acts b (publisher_of n) o)) (sym (submits_none (net_of t) b n unheard))
        (drop_sends t hosted w (line.DroppedStrayNote b (publisher_of n)))

    go : (c : Bool) → sends_by (elim c [ true ↦ note_acts (net_of t) b (note_decoded bytes) | false ↦ calls (gets b (frame_decoded bytes)) ∷ [] ])
    go true = noted (note_decoded bytes)
    go false = calls_send t hosted w (gets b (frame_decoded bytes) ∷ [])

acts_send : (t : TopologyView) (hosted : List ℕ) (w : World) (left : List Request) (a : Arrival) → Unheard (net_of t)
    → Sends w (in_turn (act (net_of t) hosted) (acts_of (net_of t) hosted left a) w).world (all_entries t hosted w (acts_of (net_of t) hosted left a))
unfolding all_entries
acts_send t hosted w left (datagram b bytes moment) unheard = go (is_among hosted b)
  where
    sends_by : List Act → Type 0
    sends_by acts = Sends w (in_turn (act (net_of t) hosted) acts w).world (all_entries t hosted w acts)

    go : (c : Bool) → sends_by (if c then datagram_acts (net_of t) b bytes else [])
    go true = datagram_sends t hosted w b bytes unheard
    go false = sends_none w w refl
acts_send t hosted w left (quiet moment) unheard = calls_send t hosted w (quiet_calls (net_of t) hosted left)

settling_sends : (t : TopologyView) (hosted : List ℕ) (w : World) (a : Arrival)
    → Sends w (in_turn (act (net_of t) hosted) (settling hosted a) w).world (all_entries t hosted w (settling hosted a))
unfolding act entries all_entries
settling_sends t hosted w a = go (is_ours hosted a)
  where
    go : (c : Bool) → Sends w (in_turn (act (net_of t) hosted) (if c then settles ∷ [] else []) w).world (all_entries t hosted w (if c then settles ∷ [] else []))
    go true = sends_none w w refl
    go false = sends_none w w refl

-- Texts

-- lines, each behind its word
said_as : (t : TopologyView) (ls : List Report) → said_lines t ls ≡ flat_map say_text (map (whole_line (labels_of t)) ls)
said_as t [] = refl
said_as t (l ∷ ls) = ap (λ xs. say_text (whole_line (labels_of t) l) ++ xs) (said_as t ls)

-- offers of frames
outs_as : (t : TopologyView) (fs : List Frame) → outs_of t (offers_of fs) ≡ flat_map (offer_text t) (map noted_offer fs)
outs_as t [] = refl
outs_as t (f ∷ fs) = ap (λ xs. offer_text t (noted_offer f) ++ xs) (outs_as t fs)

-- the text of a group behind its arrival
abbrev pub told_text : TopologyView → Group → List ℕ
told_text t g = flat_map say_text g.says ++ flat_map (offer_text t) g.offers

-- A node that is a process of the machine: its world differs from the process's in nothing but events that were cut, since
-- its logs forget these
pub record IsProcess (t : TopologyView) (hosted : List ℕ) (n : NodeView) (s : Standing) : Type 0 where
  pub world : World
  pub differ : DifferInCut s.world world
  pub node : IsNode t n world
  pub hosts : Hosts hosted n
  pub orders : n.orders ≡ s.orders
  pub left : AllByRecursion (λ x. IsCallOf t hosted (call_of x)) s.left

-- what is done at an arrival
abbrev pub come_done : TopologyView → List ℕ → NodeView → List Request → Arrival → Done
come_done t hosted n left a = all_done t hosted (at_arrival hosted n a) (led_to (net_of t) hosted left a)

module _ (t : TopologyView) (hosted : List ℕ) (n : NodeView) (s : Standing) (a : Arrival) (passes : PassesLog) (passes_rest : PassesRest) (unheard : Unheard (net_of t)) (few : length t.subscribers ≤ 2 ^ 16)
    (p : IsProcess t hosted n s) (ours : is_ours hosted a ≡ true) where
  abbrev all_acts : List Act
  all_acts = arrival_acts (net_of t) hosted s.left a

  abbrev came : Done
  came = come_done t hosted n s.left a

  -- what it leads to in the node's world, and in the process's
  abbrev led : Transition
  led = comes (net_of t) hosted p.world s.left a

  abbrev led_there : Transition
  led_there = comes_to t hosted s a

  same : TellTheSame led_there led
  same = tells_same (λ (w : World). comes (net_of t) hosted w s.left a) s.world p.world (same_comes (seen (net_of t)) (net_of t) hosted s.left a) p.differ

  are_acts : AllByRecursion (IsActOf t hosted) all_acts
  are_acts = (
    tt,
    all_append (IsActOf t hosted) (acts_of (net_of t) hosted s.left a) (settling hosted a) (arrival_are t hosted few s.left a p.left) (settling_is t hosted few a),
  )

  moved : Moved t hosted n p.world all_acts
  moved = moves_all t hosted n p.world all_acts passes passes_rest p.node p.hosts are_acts

  abbrev after_heard : Settled (net_of t) hosted p.world n.orders all_acts (led.lines ++ ordered (fed n.orders led.lines)) (without_ordered (fed n.orders led.lines))
  after_heard = settles_ours (net_of t) hosted s.left a p.world n.orders ours led (calls_are (net_of t) hosted s.left a p.world ours)

  lines_as : (all_done t hosted n all_acts).lines ≡ led_there.lines ++ ordered (fed s.orders led_there.lines)
  lines_as =
      moved.told
      ∙ (after_heard.told
      ∙ ap₂ (λ (os : List Order) (ls : List Report). ls ++ ordered (fed os ls)) p.orders same.lines)

  heard_as : (all_done t hosted n all_acts).node.orders ≡ without_ordered (fed s.orders led_there.lines)
  heard_as =
      moves_heard t hosted n p.world all_acts passes passes_rest p.node p.hosts are_acts
      ∙ (after_heard.heard
      ∙ ap₂ (λ (os : List Order) (ls : List Report). without_ordered (fed os ls)) p.orders same.lines)

  pub came_lines : came.lines ≡ led_there.lines ++ ordered (fed s.orders led_there.lines)
  unfolding all_done done
  came_lines = lines_as

  came_node : came.node ≡ (all_done t hosted n all_acts).node
  unfolding all_done done
  came_node = refl

  -- the world behind its acts
  led_world : (let first : Transition = in_turn (act (net_of t) hosted) (acts_of (net_of t) hosted s.left a) (at_moment p.world (moment_of a)) in
      (in_turn (act (net_of t) hosted) (settling hosted a) first.world).world) ≡ led.world
  unfolding act
  led_world =
      ap (λ (u : Transition). u.world) (sym (in_turn_append (act (net_of t) hosted) (acts_of (net_of t) hosted s.left a) (settling hosted a) (at_moment p.world (moment_of a))))
      ∙ (ap (λ (c : Bool). (in_turn (act (net_of t) hosted) (led_to (net_of t) hosted s.left a) (if c then at_moment p.world (moment_of a) else p.world)).world) (sym ours)
      ∙ ap (λ (u : Transition). u.world) (arrival_is (net_of t) hosted s.left a p.world ours))

  -- the frames are those that were sent since
  came_sends : Sends (at_moment p.world (moment_of a)) led.world came.entries
  unfolding all_done done act entries all_entries
  came_sends =
      let here : World = at_moment p.world (moment_of a) in
      let first : Transition = in_turn (act (net_of t) hosted) (acts_of (net_of t) hosted s.left a) here in
      let both : List Entry = all_entries t hosted here (led_to (net_of t) hosted s.left a) in
      let is_both : came.entries ≡ both =
      ap (drop 1) moved.entries ∙ ap (λ (c : Bool). all_entries t hosted (if c then here else p.world) (led_to (net_of t) hosted s.left a)) ours in
      subst (λ (es : List Entry). Sends here led.world es)
      (sym (is_both ∙ all_entries_append t hosted here (acts_of (net_of t) hosted s.left a) (settling hosted a)))
      (subst (λ (u : World). Sends here u (all_entries t hosted here (acts_of (net_of t) hosted s.left a) ++ all_entries t hosted first.world (settling hosted a))) led_world
      (sends_on here first.world (in_turn (act (net_of t) hosted) (settling hosted a) first.world).world _ _ (acts_send t hosted here s.left a unheard) (settling_sends t hosted first.world a)))

  sent_same : sent_since p.world led.world ≡ sent_since s.world led_there.world
  sent_same = ap₂ (λ (fs gs : List Frame). frames_past (length fs) gs) p.differ.frames same.worlds.frames

  pub came_entries : came.entries ≡ offers_of (sent_since s.world led_there.world)
  came_entries = sends_since (at_moment p.world (moment_of a)) led.world came.entries came_sends ∙ ap offers_of sent_same

  -- its text is that of the group
  pub came_text : said_lines t came.lines ++ outs_of t came.entries ≡ told_text t (group_at t hosted s a)
  unfolding group_at
  came_text =
      ap₂ (λ (x y : List ℕ). x ++ y) (ap (said_lines t) came_lines ∙ said_as t (led_there.lines ++ ordered (fed s.orders led_there.lines)))
      (ap (outs_of t) came_entries ∙ outs_as t (sent_since s.world led_there.world))

  -- and the node is the process behind it
  pub came_process : IsProcess t hosted came.node (standing_next t hosted s a)
  unfolding standing_next
  came_process = record {
    world = led.world;
    differ = same.worlds;
    node = subst (λ (u : Transition). IsNode t came.node u.world) (arrival_is (net_of t) hosted s.left a p.world ours)
        (subst (λ (m : NodeView). IsNode t m (in_turn (act (net_of t) hosted) all_acts p.world).world) (sym came_node) moved.node);
    hosts = subst (Hosts hosted) (sym came_node) moved.hosts;
    orders = ap (λ (m : NodeView). m.orders) came_node ∙ heard_as;
    left = left_are t hosted few s.left a p.left;
  }
