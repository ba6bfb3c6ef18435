-- An arrival at a process: what is gathered is what is done then, and its text is that of the group
use Rattle.std.proofs.Common.{◌≡◌, ℕ, ◌+◌, ◌<◌, true, List, [], ◌++◌, length, get_or, drop, Result, Ok, Err, OnOk, sym, ap, ap₂, ◌∙◌, append_assoc, append-nil}
use Rattle.std.specs.Prelude.{IsOk}
use Rattle.std.proofs.lemmas.Bool.{false≢true}
use Rattle.std.proofs.lemmas.List.{at_drop_more}
use Rattle.gr_out.specs.declared.fault.RunFault.{RunFault}
use Rattle.gr_sched.specs.declared.step.Line.{Line}
use Rattle.gr_topo.specs.Topology.{TopologyView, IsTopology}
use Rattle.gr_model.specs.NetOf.{net_of}
use Rattle.gr_model.specs.Arrivals.{left_after}
use Rattle.gr_journal.specs.declared.arrival.Arrival.{Arrival as Noted}
use Rattle.gr_journal.specs.Groups.{said_text}
use Rattle.gr_journal.specs.Lines.{arrival_text}
use Rattle.gr_node.specs.Seen.{NodeView, seen, text_of}
use Rattle.gr_node.specs.Plan.{Act, led_to}
use Rattle.gr_node.specs.Done.{Done, at_arrival, all_done}
use Rattle.gr_node.specs.Went.{IsExact}
use Rattle.gr_trace.specs.declared.offers.Offer.{Offer}
use Rattle.gr_trace.specs.Offered.{entries_of}
use Rattle.gr_trace.specs.Gathered.{Gathers}
use Rattle.gr_trace.specs.Traced.{said_lines, outs_of}
use Rattle.gr_trace.proofs.Said.{report_said}
use Rattle.gr_audit.specs.Taken.{GivenView, with_offered}
use Rattle.gr_audit_theorems.specs.Behaves.{arrival_of}
use Rattle.gr_audit_run.specs.declared.brokers.Process.{Process}
use Rattle.gr_audit_run.specs.Process.{left_of, done_at, Came, Took, with_offers}

-- What is said of a call that came through

pub exact_ok : {T : Type 0} (r : Result T RunFault) → IsOk r → IsExact r
exact_ok (Ok u) ok = tt
exact_ok (Err e) ok = absurd (false≢true ok)

pub on_ok : {T : Type 0} (r : Result T RunFault) (P : Type 0) → IsOk r → OnOk r P → P
on_ok (Ok u) P ok h = h
on_ok (Err e) P ok h = absurd (false≢true ok)

-- Offers are noted, one after another

pub offers_on : (os : List Offer) (i : ℕ) (o : Offer) (g next all : GivenView) → i < length os → o ≡ get_or os i o
    → with_offers (entries_of (drop i os)) g ≡ all → next ≡ with_offered (o.to, o.bytes) g → with_offers (entries_of (drop (i + 1) os)) next ≡ all
offers_on os i o g next all lt is so noted =
    ap (λ (v : GivenView). with_offers (entries_of (drop (i + 1) os)) v) noted
    ∙ (ap (λ (x : Offer). with_offers (entries_of (drop (i + 1) os)) (with_offered (x.to, x.bytes) g)) is
    ∙ (sym (at_drop_more (λ (xs : List Offer). with_offers (entries_of xs) g) os i o lt) ∙ so))

-- An arrival

-- where all acts were made, these were
made_all : {T : Type 0} (t : TopologyView) (hosted : List ℕ) (acts : List Act) (n n' : NodeView) (lines : List ℕ) (offers : List Offer) (r : Result T RunFault)
    → (g : Gathers t hosted acts n n' lines offers r) → IsOk r → (g.left ≡ []) × (g.made ≡ acts)
made_all t hosted acts n n' lines offers (Ok u) g ok = (g.whole, sym (append-nil g.made) ∙ (ap (λ (xs : List Act). g.made ++ xs) (sym g.whole) ∙ g.parts))
made_all t hosted acts n n' lines offers (Err e) g ok = absurd (false≢true ok)

pub came_of : {T : Type 0} (t : TopologyView) (hosted : List ℕ) (steps : List Line) (a : Noted) (p p' : Process) (r : Result T RunFault)
    → (IsExact r → Gathers t hosted (led_to (net_of t) hosted (left_of t hosted steps p) (arrival_of a)) (at_arrival hosted (seen p.node) (arrival_of a)) (seen p'.node) p'.gathered.lines.held p'.gathered.offers r)
    → IsOk r → p'.text ≡ p.text ++ arrival_text t a → left_of t hosted steps p' ≡ left_after (left_of t hosted steps p) (arrival_of a) → Came t hosted steps a p p'
came_of {T} t hosted steps a p p' r went ok text left =
    let g : Gathers {T = T} t hosted (led_to (net_of t) hosted (left_of t hosted steps p) (arrival_of a)) (at_arrival hosted (seen p.node) (arrival_of a)) (seen p'.node) p'.gathered.lines.held p'.gathered.offers r = went (exact_ok r ok) in
    let acts : List Act = led_to (net_of t) hosted (left_of t hosted steps p) (arrival_of a) in
    let here : NodeView = at_arrival hosted (seen p.node) (arrival_of a) in
    let all = made_all t hosted acts here (seen p'.node) p'.gathered.lines.held p'.gathered.offers r g ok in
    let done = ap (λ (xs : List Act). all_done t hosted here xs) all.1 in
    record {
      text = text;
      lines = g.told ∙ ap (λ (d : Done). text_of t d.lines) done;
      offers = g.sent ∙ ap (λ (d : Done). d.entries) done;
      node = g.node all.0 ∙ ap (λ (d : Done). d.node) done;
      left = left;
    }

pub took_of : (t : TopologyView) (hosted : List ℕ) (steps : List Line) (a : Noted) (p p' q : Process) → IsTopology t → Came t hosted steps a p p'
    → q.text ≡ p'.text ++ (said_text true p'.gathered.lines.held ++ outs_of t (entries_of p'.gathered.offers))
    → seen q.node ≡ seen p'.node → left_of t hosted steps q ≡ left_of t hosted steps p' → Took t hosted steps a p q
took_of t hosted steps a p p' q topology came put node left =
    let d : Done = done_at t hosted steps p a in
    record {
      text = put
          ∙ (ap₂ (λ (xs ys : List ℕ). xs ++ ys) came.text
          (ap₂ (λ (xs ys : List ℕ). xs ++ ys) (ap (said_text true) came.lines ∙ report_said t d.lines topology) (ap (outs_of t) came.offers))
          ∙ append_assoc p.text (arrival_text t a) (said_lines t d.lines ++ outs_of t d.entries));
      node = node ∙ came.node;
      left = left ∙ came.left;
    }
