-- An arrival with all that it leads to, and then more: no line waits behind it
use Rattle.std.proofs.Common.{◌≡◌, ℕ, Bool, true, false, List, [], ◌∷◌, ◌++◌, Option, Result, OnErr, refl, sym, ap, ◌∙◌, subst, append_assoc}
use Rattle.std.specs.Prelude.{if◌then◌else◌}
use Rattle.std.proofs.lemmas.Bool.{true≢false}
use Rattle.gr_out.specs.declared.fault.RunFault.{RunFault}
use Rattle.gr_out.specs.Bytes.{with_more}
use Rattle.gr_out.specs.Entry.{Entry}
use Rattle.gr_out.specs.Page.{TakesFront}
use Rattle.gr_topo.specs.Topology.{TopologyView}
use Rattle.gr_model.specs.NetOf.{net_of}
use Rattle.gr_model.specs.Arrivals.{Arrival, datagram, quiet, Request}
use Rattle.gr_node.specs.Seen.{NodeView}
use Rattle.gr_node.specs.Plan.{Act, arrives, settles, is_ours, datagram_acts, acts_of, settling, led_to, arrival_acts, entry_of}
use Rattle.gr_node.specs.Done.{Done, at_arrival, done, all_done}
use Rattle.gr_node.specs.Went.{fault_entries}
use Rattle.gr_trace.specs.Traced.{written, waits_after}
use Rattle.gr_trace.specs.Wrote.{line_of, written_at, Wrote}

-- the lines that wait behind acts
unfoldable pub waiting_at : TopologyView → List ℕ → NodeView → List ℕ → List Act → List ℕ
waiting_at t hosted n waiting [] = waiting
waiting_at t hosted n waiting (a ∷ acts) =
    let d : Done = done t hosted n a in waiting_at t hosted d.node (waits_after t a d.entries waiting) acts

-- acts, and then others
pub written_then : (t : TopologyView) (hosted : List ℕ) (n : NodeView) (waiting : List ℕ) (xs ys : List Act)
    → (let d : Done = all_done t hosted n xs in
    written_at t hosted n waiting (xs ++ ys) ≡ written_at t hosted n waiting xs ++ written_at t hosted d.node (waiting_at t hosted n waiting xs) ys)
unfolding written_at waiting_at all_done
written_then t hosted n waiting [] ys = refl
written_then t hosted n waiting (a ∷ xs) ys =
    let d : Done = done t hosted n a in
    let e : Done = all_done t hosted d.node xs in
    let later : List ℕ = waits_after t a d.entries waiting in
    ap (λ (zs : List ℕ). written t hosted a d.lines waiting ++ zs) (written_then t hosted d.node later xs ys)
    ∙ sym (append_assoc (written t hosted a d.lines waiting) (written_at t hosted d.node later xs) (written_at t hosted e.node (waiting_at t hosted d.node later xs) ys))

pub waiting_then : (t : TopologyView) (hosted : List ℕ) (n : NodeView) (waiting : List ℕ) (xs ys : List Act)
    → (let d : Done = all_done t hosted n xs in waiting_at t hosted n waiting (xs ++ ys) ≡ waiting_at t hosted d.node (waiting_at t hosted n waiting xs) ys)
unfolding waiting_at all_done
waiting_then t hosted n waiting [] ys = refl
waiting_then t hosted n waiting (a ∷ xs) ys =
    let d : Done = done t hosted n a in waiting_then t hosted d.node (waits_after t a d.entries waiting) xs ys

-- An arrival

-- it has its line, and no offer
pub arrives_at : (t : TopologyView) (hosted : List ℕ) (n : NodeView) (a : Arrival) (acts : List Act)
    → written_at t hosted n [] (arrives a ∷ acts) ≡ line_of t hosted a ++ written_at t hosted (at_arrival hosted n a) [] acts
unfolding written_at done
arrives_at t hosted n (datagram b bytes moment) acts = refl
arrives_at t hosted n (quiet moment) acts = refl

arrives_waits : (t : TopologyView) (hosted : List ℕ) (n : NodeView) (a : Arrival) (acts : List Act)
    → waiting_at t hosted n [] (arrives a ∷ acts) ≡ waiting_at t hosted (at_arrival hosted n a) [] acts
unfolding waiting_at done
arrives_waits t hosted n (datagram b bytes moment) acts = refl
arrives_waits t hosted n (quiet moment) acts = refl

settles_waits : (t : TopologyView) (hosted : List ℕ) (n : NodeView) (waiting : List ℕ) → waiting_at t hosted n waiting (settles ∷ []) ≡ []
unfolding waiting_at
settles_waits t hosted n waiting = refl

none_waits : (t : TopologyView) (hosted : List ℕ) (n : NodeView) → (let f : Done = all_done t hosted n [] in waiting_at t hosted f.node (waiting_at t hosted n [] []) []) ≡ []
unfolding waiting_at
none_waits t hosted n = refl

-- behind it no line waits
pub arrival_waits : (t : TopologyView) (hosted : List ℕ) (n : NodeView) (left : List Request) (a : Arrival) → waiting_at t hosted n [] (arrival_acts (net_of t) hosted left a) ≡ []
arrival_waits t hosted n left a = arrives_waits t hosted n a (led_to (net_of t) hosted left a) ∙ (waiting_then t hosted here [] (acts_of (net_of t) hosted left a) (settling hosted a) ∙ go a (is_ours hosted a) refl)
  where
    here : NodeView
    here = at_arrival hosted n a

    no_acts : (b : Arrival) → is_ours hosted b ≡ false → acts_of (net_of t) hosted left b ≡ []
    no_acts (datagram c bytes moment) e = ap (λ (q : Bool). if q then datagram_acts (net_of t) c bytes else []) e
    no_acts (quiet moment) e = absurd (true≢false e)

    go : (b : Arrival) (q : Bool) → is_ours hosted b ≡ q
        → (let d : Done = all_done t hosted here (acts_of (net_of t) hosted left b) in
        waiting_at t hosted d.node (waiting_at t hosted here [] (acts_of (net_of t) hosted left b)) (if is_ours hosted b then settles ∷ [] else []) ≡ [])
    go b true e =
        let d : Done = all_done t hosted here (acts_of (net_of t) hosted left b) in
        let waits : List ℕ = waiting_at t hosted here [] (acts_of (net_of t) hosted left b) in
        ap (λ (q : Bool). waiting_at t hosted d.node waits (if q then settles ∷ [] else [])) e ∙ settles_waits t hosted d.node waits
    go b false e =
        let d : Done = all_done t hosted here (acts_of (net_of t) hosted left b) in
        ap (λ (q : Bool). waiting_at t hosted d.node (waiting_at t hosted here [] (acts_of (net_of t) hosted left b)) (if q then settles ∷ [] else [])) e
        ∙ (ap (λ (acts : List Act). (let f : Done = all_done t hosted here acts in waiting_at t hosted f.node (waiting_at t hosted here [] acts) [])) (no_acts b e) ∙ none_waits t hosted here)

-- what it leads to, with itself before
pub wrote_arrival : (t : TopologyView) (hosted : List ℕ) (tells : Type 0) (left : List Request) (a : Arrival) (n n' : NodeView) (before after : Option (List ℕ)) (journal noted journal' : List Entry) (r : Result (Unit {0}) RunFault)
    → (tells → noted ≡ journal ++ entry_of a ∷ [])
    → Wrote t hosted tells (led_to (net_of t) hosted left a) (at_arrival hosted n a) n' (line_of t hosted a) before after noted journal' r
    → Wrote t hosted tells (arrival_acts (net_of t) hosted left a) n n' [] before after journal journal' r
unfolding all_done done
wrote_arrival t hosted tells left a n n' before after journal noted journal' r came w =
    let here : NodeView = at_arrival hosted n a in
    let d : Done = all_done t hosted here w.made in
    let all : Done = all_done t hosted here (led_to (net_of t) hosted left a) in
    record {
      made = arrives a ∷ w.made;
      left = w.left;
      parts = ap (λ (xs : List Act). arrives a ∷ xs) w.parts;
      whole = w.whole;
      node = w.node;
      wrote = λ e. subst (λ (xs : List ℕ). after ≡ with_more before xs) (sym (arrives_at t hosted n a w.made)) (w.wrote e);
      sent = λ e p. w.sent e p ∙ (ap (λ (es : List Entry). es ++ (d.entries ++ fault_entries r)) (came p) ∙ append_assoc journal (entry_of a ∷ []) (d.entries ++ fault_entries r));
      refused = w.refused;
      given_up = w.given_up;
      front = subst (λ (xs : List ℕ). OnErr r (TakesFront before after xs)) (sym (arrives_at t hosted n a (led_to (net_of t) hosted left a))) w.front;
      sent_front = λ unknown p. let b = w.sent_front unknown p in record {
        part = entry_of a ∷ b.part;
        rest = b.rest;
        whole = ap (λ (es : List Entry). entry_of a ∷ es) b.whole;
        are = b.are ∙ (ap (λ (es : List Entry). es ++ b.part) (came p) ∙ append_assoc journal (entry_of a ∷ []) b.part);
      };
    }
