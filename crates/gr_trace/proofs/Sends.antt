-- What is sent on the way from one world to another stands behind the frames that were sent before; so the offers of an
-- arrival are those of all frames that it led to
use Rattle.std.proofs.Common.{◌≡◌, ℕ, Bool, true, false, List, [], ◌∷◌, ◌++◌, map, Option, Some, None, Result, Ok, Err, refl, sym, ap, ap₂, ◌∙◌, append_assoc, append-nil}
use Rattle.std.proofs.lemmas.List.{map-append}
use Rattle.gr_event.specs.declared.join.Split.{Split}
use Rattle.gr_event.specs.Joins.{first_split}
use Rattle.gr_frame.specs.declared.Frame.{Frame}
use Rattle.gr_frame.specs.declared.fault.FrameFault.{FrameFault}
use Rattle.gr_out.specs.Entry.{Entry}
use Rattle.gr_topo.specs.Topology.{TopologyView}
use Rattle.gr_model.specs.declared.report.Report.{Report}
use Rattle.gr_model.specs.declared.report.Report.TheVariants as line
use Rattle.gr_model.specs.Net.{Net}
use Rattle.gr_model.specs.NetOf.{net_of}
use Rattle.gr_model.specs.Broker.{Outcome, joining, publish, wake, receive, seen, taking, view_joined}
use Rattle.gr_model.specs.World.{World, Transition, view_of, log_of, absorbed, unchanged, in_turn, sent_since, wake_for_by, publish_now_by, join_now_by, deliver_frame, deliver_frame_by}
use Rattle.gr_model.specs.Arrivals.{fault_number, fits_broker, joins_in, least_clash, clash_line, split_line, takes, takes_by, receives, receives_by}
use Rattle.gr_node.specs.Plan.{Call, gets, publishes, joins, wakes, calls, drops, offers_of, called, act, entries, all_entries}
use Rattle.gr_audit_theorems.proofs.Running.{sent_is}

-- on the way to a world these frames were sent
pub record Grows (w u : World) : Type 0 where
  pub more : List Frame
  pub frames : u.frames ≡ w.frames ++ more

grows_none : (w : World) (ls : List Report) → Grows w (unchanged w ls).world
grows_none w ls = record { more = []; frames = sym (append-nil w.frames) }

absorbed_grows : (w : World) (b p : ℕ) (o : Outcome) → Grows w (absorbed w b p o).world
unfolding absorbed
absorbed_grows w b p o = record { more = o.frames; frames = refl }

delivered_grows : (net : Net) (w : World) (f : Frame) → Grows w (deliver_frame net w f).world
unfolding deliver_frame_by
delivered_grows net w f =
    absorbed_grows w f.head.to f.head.publisher (receive (seen net (taking (view_of w f.head.to f.head.publisher) f)) w.clock f (view_of w f.head.to f.head.publisher) (log_of w f.head.publisher))

taken_grows : (net : Net) (w : World) (b : ℕ) (f : Frame) → Grows w (takes net w b f).world
unfolding takes_by
taken_grows net w b f = go (first_split 0 (view_of w b f.head.publisher).joins (joins_in f)) (least_clash (view_of w b f.head.publisher).know f)
  where
    go : (s : Option Split) (o : Option ℕ) → Grows w (let t : Transition = elim s [
      | Some x ↦ unchanged w (split_line b x ∷ [])
      | None ↦ elim o [ Some t ↦ unchanged w (clash_line b (view_of w b f.head.publisher).know f t ∷ []) | None ↦ deliver_frame net w f ]
    ] in t.world)
    go (Some x) o = grows_none w (split_line b x ∷ [])
    go None None = delivered_grows net w f
    go None (Some t) = grows_none w (clash_line b (view_of w b f.head.publisher).know f t ∷ [])

received_grows : (net : Net) (w : World) (b : ℕ) (r : Result Frame FrameFault) → Grows w (receives net w b r).world
unfolding receives_by
received_grows net w b (Err fault) = grows_none w (line.DroppedNotFrame b (fault_number fault.kind) fault.at ∷ [])
received_grows net w b (Ok f) = go (fits_broker net b f)
  where
    stray : List Report
    stray = line.DroppedStray b f.head.from f.head.to f.head.publisher ∷ []

    go : (q : Bool) → Grows w (let t : Transition = elim q [ false ↦ unchanged w stray | true ↦ takes net w b f ] in t.world)
    go true = taken_grows net w b f
    go false = grows_none w stray

called_grows : (net : Net) (w : World) (c : Call) → Grows w (called net w c).world
unfolding publish_now_by join_now_by wake_for_by
called_grows net w (gets b r) = received_grows net w b r
called_grows net w (publishes x) =
    let p : ℕ = x.0 in
    absorbed_grows w (net.host p) p (publish (seen net (view_of w (net.host p) p)) p (net.host p) w.clock x.1.0 x.1.1 (view_of w (net.host p) p) (log_of w p))
called_grows net w (joins s p) =
    let b : ℕ = net.host p in
    absorbed_grows w b p (joining (seen net (view_joined (log_of w p) s w.clock (view_of w b p))) p b w.clock s (view_of w b p) (log_of w p))
called_grows net w (wakes b p) = absorbed_grows w b p (wake (seen net (view_of w b p)) p b w.clock (view_of w b p) (log_of w p))

-- Entries of acts

-- these entries are the offers of all that was sent
pub record Sends (w u : World) (es : List Entry) : Type 0 where
  pub more : List Frame
  pub frames : u.frames ≡ w.frames ++ more
  pub entries : es ≡ offers_of more

pub sends_none : (w u : World) → u.frames ≡ w.frames → Sends w u []
sends_none w u e = record { more = []; frames = e ∙ sym (append-nil w.frames); entries = refl }

pub sends_on : (w u v : World) (es fs : List Entry) → Sends w u es → Sends u v fs → Sends w v (es ++ fs)
sends_on w u v es fs a b = record {
  more = a.more ++ b.more;
  frames = b.frames ∙ (ap (λ z. z ++ b.more) a.frames ∙ append_assoc w.frames a.more b.more);
  entries = ap₂ (λ (x y : List Entry). x ++ y) a.entries b.entries ∙ sym (map-append _ a.more b.more);
}

-- they are what was sent since
pub sends_since : (w u : World) (es : List Entry) → Sends w u es → es ≡ offers_of (sent_since w u)
sends_since w u es s = s.entries ∙ ap offers_of (sym (sent_is w u s.more s.frames))

call_sends : (t : TopologyView) (hosted : List ℕ) (w : World) (c : Call) → Sends w (act (net_of t) hosted w (calls c)).world (entries t hosted w (calls c))
unfolding act entries
call_sends t hosted w c =
    let u : Transition = called (net_of t) w c in
    let g = called_grows (net_of t) w c in
    record { more = g.more; frames = g.frames; entries = ap offers_of (sent_is w u.world g.more g.frames) }

-- of calls
pub calls_send : (t : TopologyView) (hosted : List ℕ) (w : World) (cs : List Call) → Sends w (in_turn (act (net_of t) hosted) (map calls cs) w).world (all_entries t hosted w (map calls cs))
unfolding all_entries
calls_send t hosted w [] = sends_none w w refl
calls_send t hosted w (c ∷ cs) =
    let u : Transition = act (net_of t) hosted w (calls c) in
    sends_on w u.world (in_turn (act (net_of t) hosted) (map calls cs) u.world).world _ _ (call_sends t hosted w c) (calls_send t hosted u.world cs)

-- and of a note that is dropped
pub drop_sends : (t : TopologyView) (hosted : List ℕ) (w : World) (l : Report) → Sends w (in_turn (act (net_of t) hosted) (drops l ∷ []) w).world (all_entries t hosted w (drops l ∷ []))
unfolding act entries all_entries
drop_sends t hosted w l = sends_none w w refl
