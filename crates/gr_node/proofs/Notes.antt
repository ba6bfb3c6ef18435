-- Notes at a hosted broker: what one submits, with which line it is dropped, and the number of the last event in a log
use Rattle.std.proofs.Common.{◌≡◌, ◌≢◌, ℕ, suc, ◌+◌, ◌-◌, ◌≤◌, ◌<◌, ◌&&◌, Bool, true, false, List, [], ◌∷◌, ◌++◌, length, get_or, Option, Some, None, Result, Ok, OnOk, refl, sym, ap, ◌∙◌, subst, arith}
use Rattle.std.specs.Prelude.{nat_eq, nat_lt, IsSome, is_some, if◌then◌else◌}
use Rattle.std.proofs.lemmas.Bool.{and_parts, cond-true, cond-false, eq-eqb, ne_eqb, eqb-true, ltb-true, lt-ltb, le-ltb}
use Rattle.std.proofs.lemmas.List.{get_or_read}
use Rattle.gr_event.specs.declared.event.Event.{Event}
use Rattle.gr_frame.specs.Decode.{frame_decoded}
use Rattle.gr_note.specs.declared.note.Note.{Note}
use Rattle.gr_note.specs.declared.note.Note.TheVariants.{Submit, Next, Spent}
use Rattle.gr_note.specs.declared.fault.NoteKind.{NoteKind}
use Rattle.gr_note.specs.declared.fault.NoteKind.TheVariants as kind
use Rattle.gr_note.specs.declared.fault.NoteFault.{NoteFault}
use Rattle.gr_note.specs.Fault as note
use Rattle.gr_note.specs.Bytes.{begins_note, note_bytes}
use Rattle.gr_note.specs.Decode.{note_decoded}
use Rattle.gr_note.specs.Nodes.{client_node}
use Rattle.gr_out.specs.declared.fault.RunFault.{RunFault}
use Rattle.gr_out.specs.Entry.{Entry}
use Rattle.gr_out.specs.Entry as out
use Rattle.gr_publog.specs.declared.record.Entry.{Entry as LogEntry}
use Rattle.gr_publog.specs.State.{LogState, IsState, EventsRise, EventsUpto, max_tick}
use Rattle.gr_pubend.specs.Log.{Log}
use Rattle.gr_topo.specs.Topology.{TopologyView, host_of, client_of}
use Rattle.gr_model.specs.declared.report.Report.TheVariants as line
use Rattle.gr_model.specs.Net.{Net}
use Rattle.gr_model.specs.NetOf.{net_of}
use Rattle.gr_model.specs.Text.{IsNamed}
use Rattle.gr_model.specs.Arrivals.{Publish, takes_notes, submitted_in}
use Rattle.gr_broker.specs.Seen.{BrokerView, machine_log}
use Rattle.gr_node.specs.Seen.{NodeView, broker_in, log_at, log_here}
use Rattle.gr_node.specs.Of.{NodeFits}
use Rattle.gr_node.specs.Plan.{gets, publishes, calls, answers, drops, submit_acts, note_acts, datagram_acts, reply_to, reply_entry}
use Rattle.gr_node.proofs.Taken.{some_is, found_in, broker_within}

-- What a note submits

-- a publisher whose notes are taken is at the broker
pub taken_by : (net : Net) (b p : ℕ) → takes_notes net b p ≡ true → (p < net.publishers) × (net.host p ≡ b)
taken_by net b p e =
    let both = and_parts (nat_lt p net.publishers) (net.client p && nat_eq (net.host p) b) e in
    let here = and_parts (net.client p) (nat_eq (net.host p) b) both.1 in
    (ltb-true p net.publishers both.0, eqb-true (net.host p) b here.1)

-- so what is submitted is of such a publisher
pub submits : (net : Net) (b : ℕ) (n : Note) (x : Publish) → submitted_in net b n ≡ Some x → (x.0 < net.publishers) × (net.host x.0 ≡ b)
submits net b (Submit p k e) x h = go (takes_notes net b p) refl h
  where
    go : (c : Bool) → takes_notes net b p ≡ c → (if c then Some (p, (k, e)) else None) ≡ Some x → (x.0 < net.publishers) × (net.host x.0 ≡ b)
    go true t h = subst (λ (y : Publish). (y.0 < net.publishers) × (net.host y.0 ≡ b)) (some_is h) (taken_by net b p t)
    go false t h = absurd (cc)
submits net b (Next p k) x h = absurd (cc)
submits net b (Spent p) x h = absurd (cc)

-- Its acts

-- it is published and answered
pub taken_in : (net : Net) (b p k : ℕ) (e : Event) (n : Note) → n ≡ Submit p k e → takes_notes net b p ≡ true → note_acts net b (Ok n) ≡ calls (publishes (p, (k, e))) ∷ (answers (p, (k, e)) ∷ [])
taken_in net b p k e n is t =
    ap (λ (m : Note). note_acts net b (Ok m)) is
    ∙ ap (λ (c : Bool). submit_acts b p (if c then Some (p, (k, e)) else None)) t

-- or it is dropped
pub not_taken : (net : Net) (b p k : ℕ) (e : Event) (n : Note) → n ≡ Submit p k e → takes_notes net b p ≡ false → note_acts net b (Ok n) ≡ drops (line.DroppedStrayNote b p) ∷ []
not_taken net b p k e n is t =
    ap (λ (m : Note). note_acts net b (Ok m)) is
    ∙ ap (λ (c : Bool). submit_acts b p (if c then Some (p, (k, e)) else None)) t

pub next_dropped : (net : Net) (b p k : ℕ) (n : Note) → n ≡ Next p k → note_acts net b (Ok n) ≡ drops (line.DroppedStrayNote b p) ∷ []
next_dropped net b p k n is = ap (λ (m : Note). note_acts net b (Ok m)) is

pub spent_dropped : (net : Net) (b p : ℕ) (n : Note) → n ≡ Spent p → note_acts net b (Ok n) ≡ drops (line.DroppedStrayNote b p) ∷ []
spent_dropped net b p n is = ap (λ (m : Note). note_acts net b (Ok m)) is

-- A datagram is a note, or else a frame

pub read_as_note : (net : Net) (b : ℕ) (bytes : List ℕ) → begins_note bytes ≡ true → datagram_acts net b bytes ≡ note_acts net b (note_decoded bytes)
read_as_note net b bytes e = ap (λ c. elim c [ true ↦ note_acts net b (note_decoded bytes) | false ↦ calls (gets b (frame_decoded bytes)) ∷ [] ]) e

pub read_as_frame : (net : Net) (b : ℕ) (bytes : List ℕ) → begins_note bytes ≡ false → datagram_acts net b bytes ≡ calls (gets b (frame_decoded bytes)) ∷ []
read_as_frame net b bytes e = ap (λ c. elim c [ true ↦ note_acts net b (note_decoded bytes) | false ↦ calls (gets b (frame_decoded bytes)) ∷ [] ]) e

-- Its line

-- a fault that is no want of memory has a word
numbered : (k : NoteKind) → k ≢ kind.Memory → (1 ≤ note.fault_number k) × (note.fault_number k ≤ 7)
numbered kind.Memory h = absurd (h refl)
numbered kind.Short h = (omega arith, omega arith)
numbered kind.BadMagic h = (omega arith, omega arith)
numbered kind.BadVersion h = (omega arith, omega arith)
numbered kind.BadKind h = (omega arith, omega arith)
numbered kind.BadRange h = (omega arith, omega arith)
numbered kind.BadEvent h = (omega arith, omega arith)
numbered kind.Trailing h = (omega arith, omega arith)

pub bad_named : (t : TopologyView) (b : ℕ) (f : NoteFault) → b < length t.brokers → f.kind ≢ kind.Memory → IsNamed t (line.DroppedBadNote b (note.fault_number f.kind) f.at)
bad_named t b f h known = let word = numbered f.kind known in (h, word.0, word.1)

-- a broker that is here is one of the topology
pub here_below : (t : TopologyView) (n : NodeView) (b : ℕ) → NodeFits t n → IsSome (broker_in n b) → b < length t.brokers
here_below t n b f here =
    let x = found_in (broker_in n b) here in
    let place = broker_within n b x.0 x.1 in
    omega (arith, place, f.count)

-- it is the broker of this number
pub here_at : (n : NodeView) (b c : ℕ) → b ≡ c → IsSome (broker_in n c) → IsSome (broker_in n b)
here_at n b c e here = ap (λ k. is_some (broker_in n k)) e ∙ here

-- The last event

-- there are no more events than ticks from a cut up to what is settled
rise_long : (tick n top : ℕ) (es : List LogEntry) → tick ≤ top → EventsRise tick n es → EventsUpto top es → tick + length es ≤ top
rise_long tick n top [] l r u = omega (arith, l)
rise_long tick n top (e ∷ es) l r u = omega (arith, r.0, rise_long e.tick e.number top es u.0 r.1.1 u.1)

-- so the last number is at most the last tick
pub last_upto : (s : LogState) → IsState s → s.last ≤ max_tick
last_upto s i = omega (arith, i.low, i.settled, rise_long s.cut (s.last - length s.events) s.settled s.events i.cut i.rise i.upto)

-- Where a place was read

pub broker_read : (t : TopologyView) (n : NodeView) (b : ℕ) (o : Option BrokerView) → NodeFits t n → b < length t.brokers → o ≡ get_or n.brokers b o → broker_in n b ≡ o
broker_read t n b o f h read = sym (get_or_read n.brokers b o (omega (arith, h, f.count)) read None)

-- the log is that of the broker there
pub last_here : (t : TopologyView) (n : NodeView) (p : ℕ) (x : BrokerView) → broker_in n (host_of t p) ≡ Some x
    → (let m : Log = machine_log x p in m.last) ≡ (let l : Log = log_here t n p in l.last)
last_here t n p x e = sym (ap (λ (s : Option BrokerView). let l : Log = log_at s p in l.last) e)

-- and where there is none nothing was logged
pub last_nowhere : (t : TopologyView) (n : NodeView) (p : ℕ) → broker_in n (host_of t p) ≡ None → 0 ≡ (let l : Log = log_here t n p in l.last)
last_nowhere t n p e = sym (ap (λ (s : Option BrokerView). let l : Log = log_at s p in l.last) e)

-- Whose notes are taken

-- none of a publisher that there is not
pub not_there : (net : Net) (b p : ℕ) → net.publishers ≤ p → false ≡ takes_notes net b p
not_there net b p h = sym (ap (λ c. c && (net.client p && nat_eq (net.host p) b)) (le-ltb p net.publishers h))

-- none of one without a client
pub no_client_there : (t : TopologyView) (b p : ℕ) → p < length t.publishers → None ≡ client_of t p → false ≡ takes_notes (net_of t) b p
no_client_there t b p h e =
    sym (ap (λ c. c && (is_some (client_of t p) && nat_eq (host_of t p) b)) (lt-ltb p (length t.publishers) h)
    ∙ ap (λ (o : Option (List ℕ)). is_some o && nat_eq (host_of t p) b) (sym e))

-- and those of one that has a client at its broker
pub client_there : (t : TopologyView) (b p host : ℕ) (address : List ℕ) → p < length t.publishers → Some address ≡ client_of t p → host ≡ host_of t p → nat_eq host b ≡ takes_notes (net_of t) b p
client_there t b p host address h e at =
    ap (λ k. nat_eq k b) at
    ∙ sym (ap (λ c. c && (is_some (client_of t p) && nat_eq (host_of t p) b)) (lt-ltb p (length t.publishers) h)
    ∙ ap (λ (o : Option (List ℕ)). is_some o && nat_eq (host_of t p) b) (sym e))

-- What is answered

pub spent_reply : (p number last : ℕ) (e : Event) → number ≡ last + 1 → Spent p ≡ reply_to last (p, (number, e))
spent_reply p number last e h = sym (cond-true (nat_eq number (suc last)) (Spent p) (Next p (suc last)) (eq-eqb number (suc last) (omega (arith, h))))

pub next_reply : (p number last : ℕ) (e : Event) → number ≢ last + 1 → Next p (last + 1) ≡ reply_to last (p, (number, e))
next_reply p number last e h =
    let more : last + 1 ≡ suc last = omega arith in
    ap (λ k. Next p k) more
    ∙ sym (cond-false (nat_eq number (suc last)) (Spent p) (Next p (suc last)) (ne_eqb number (suc last) (λ same. h (omega (arith, same)))))

-- the entry of an answer, part by part
pub reply_is : (t : TopologyView) (last : ℕ) (x : Publish) (host node : ℕ) (bytes : List ℕ) (reply : Note) → host ≡ host_of t x.0 → node ≡ client_node x.0 → bytes ≡ note_bytes reply → reply ≡ reply_to last x
    → out.offered host node bytes ≡ reply_entry t last x
reply_is t last x host node bytes reply h n b r =
    ap (λ k. out.offered k node bytes) h
    ∙ (ap (λ k. out.offered (host_of t x.0) k bytes) n
    ∙ ap (λ (z : List ℕ). out.offered (host_of t x.0) (client_node x.0) z) (b ∙ ap (λ (m : Note). note_bytes m) r))

-- what was put as one entry was put as another that it is
pub sent_as : {T : Type 0} (before after : List Entry) (r : Result T RunFault) {a b : Entry} → a ≡ b → OnOk r (after ≡ before ++ a ∷ []) → OnOk r (after ≡ before ++ b ∷ [])
sent_as before after r e h = subst (λ (z : Entry). OnOk r (after ≡ before ++ z ∷ [])) e h
