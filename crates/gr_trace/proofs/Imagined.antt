-- What is traced is what a server does whose report a sink takes that is not there: so what is known of servers holds of it
use Rattle.std.proofs.Common.{◌≡◌, ℕ, List, [], ◌∷◌, ◌++◌, Option, Some, Result, Ok, Err, OnErr, Bool, refl, sym, ap, ◌∙◌, append_assoc, append-nil}
use Rattle.gr_out.specs.declared.fault.RunFault.{RunFault}
use Rattle.gr_out.specs.Entry.{Entry}
use Rattle.gr_out.specs.Lane.{Lane}
use Rattle.gr_out.specs.Page.{TakesFront}
use Rattle.gr_sched.specs.declared.step.Line.{Line}
use Rattle.gr_topo.specs.Topology.{TopologyView}
use Rattle.gr_model.specs.declared.report.Report.{Report}
use Rattle.gr_model.specs.Text.{labels_of, whole_line}
use Rattle.gr_node.specs.Seen.{NodeView, text_of}
use Rattle.gr_node.specs.Plan.{Act}
use Rattle.gr_node.specs.Done.{Done, all_done}
use Rattle.gr_node.specs.Turns.{Turned}
use Rattle.gr_node.specs.Went.{outside, Went}
use Rattle.gr_trace.specs.Wrote.{Wrote, TurnTraced}
use Rattle.gr_trace.proofs.Groups.{done_append}

pub text_append : (t : TopologyView) (xs ys : List Report) → text_of t (xs ++ ys) ≡ text_of t xs ++ text_of t ys
text_append t [] ys = refl
text_append t (l ∷ xs) ys =
    ap (λ (zs : List ℕ). whole_line (labels_of t) l ++ zs) (text_append t xs ys)
    ∙ sym (append_assoc (whole_line (labels_of t) l) (text_of t xs) (text_of t ys))

-- what acts tell
abbrev pub report_of : TopologyView → List ℕ → NodeView → List Act → List ℕ
report_of t hosted n acts = let d : Done = all_done t hosted n acts in text_of t d.lines

pub went_of : {T : Type 0} (t : TopologyView) (hosted : List ℕ) (tells : Type 0) (acts : List Act) (n n' : NodeView) (first : List ℕ) (before after : Option (List ℕ)) (journal journal' : List Entry) (r : Result T RunFault) (xs : List ℕ)
    → (w : Wrote t hosted tells acts n n' first before after journal journal' r)
    → Went t hosted tells acts n n' (outside (Some xs) [] journal) (outside (Some (xs ++ report_of t hosted n w.made)) [] journal') r
went_of {T} t hosted tells acts n n' first before after journal journal' r xs w = record {
  made = w.made;
  left = w.left;
  parts = w.parts;
  whole = w.whole;
  node = w.node;
  told = λ e. record { part = report_of t hosted n w.made; whole = sym (append-nil (report_of t hosted n w.made)); taken = refl };
  sent = w.sent;
  refused = w.refused;
  given_up = w.given_up;
  told_front = go r;
  sent_front = w.sent_front;
}
  where
    d : Done
    d = all_done t hosted n w.made

    front : TakesFront (Some xs) (Some (xs ++ report_of t hosted n w.made)) (report_of t hosted n acts)
    front = record {
      part = report_of t hosted n w.made;
      rest = report_of t hosted d.node w.left;
      whole = ap (report_of t hosted n) (sym w.parts)
          ∙ (ap (text_of t) (done_append t hosted n w.made w.left).lines ∙ text_append t d.lines (all_done t hosted d.node w.left).lines);
      taken = refl;
    }

    go : (q : Result T RunFault) → OnErr q (TakesFront (Some xs) (Some (xs ++ report_of t hosted n w.made)) (report_of t hosted n acts))
    go (Ok x) = tt
    go (Err e) = front

pub turned_of : (t : TopologyView) (hosted : List ℕ) (tells keeps : Type 0) (steps : List Line) (next next' : ℕ) (n n' : NodeView) (before after : Option (List ℕ)) (journal journal' : List Entry) (lanes lanes' : ℕ → Lane) (r : Result Bool RunFault) (xs : List ℕ)
    → (w : TurnTraced t hosted tells keeps steps next next' n n' before after journal journal' lanes lanes' r)
    → Turned t hosted tells keeps steps next next' n n' (outside (Some xs) [] journal) (outside (Some (xs ++ report_of t hosted n w.wrote.made)) [] journal') lanes lanes' r
turned_of t hosted tells keeps steps next next' n n' before after journal journal' lanes lanes' r xs w = record {
  came = w.came;
  shut = w.shut;
  ends = w.ends;
  bytes = w.bytes;
  went = went_of t hosted tells _ n n' [] before after journal journal' r xs w.wrote;
  kept = w.kept;
  left = w.left;
}
