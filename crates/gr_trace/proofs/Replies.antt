-- What was written, with another answer of the same kind
use Rattle.std.proofs.Common.{◌≡◌, ◌++◌, ℕ, List, Option, Result, Ok, Err, refl, ap, ◌∙◌}
use Rattle.gr_out.specs.declared.fault.RunFault.{RunFault}
use Rattle.gr_out.specs.declared.fault.RunFault.TheVariants as run
use Rattle.gr_out.specs.Entry.{Entry}
use Rattle.gr_topo.specs.Topology.{TopologyView}
use Rattle.gr_node.specs.Seen.{NodeView}
use Rattle.gr_node.specs.Plan.{Act}
use Rattle.gr_node.specs.Done.{all_done}
use Rattle.gr_node.specs.Went.{IsExact, fault_entries}
use Rattle.gr_trace.specs.Wrote.{Wrote}

pub ok_err : {T : Type 0} (x : T) (e : RunFault) → ◌≡◌ {A = Result T RunFault} (Ok x) (Err e) → ⊥
ok_err x e h = cc

exact_as : (T U : Type 0) (e : RunFault) → IsExact {T = U} (Err e) → IsExact {T = T} (Err e)
exact_as T U run.Memory x = x
exact_as T U run.Disk x = tt
exact_as T U run.Write x = x
exact_as T U run.Post x = tt
exact_as T U (run.Damaged p at) x = tt

pub same_entries : (T U : Type 0) (e : RunFault) → fault_entries {T = T} (Err e) ≡ fault_entries {T = U} (Err e)
same_entries T U run.Memory = refl
same_entries T U run.Disk = refl
same_entries T U run.Write = refl
same_entries T U run.Post = refl
same_entries T U (run.Damaged p at) = refl

fault_as : {T U : Type 0} (e f : RunFault) → ◌≡◌ {A = Result U RunFault} (Err e) (Err f) → ◌≡◌ {A = Result T RunFault} (Err e) (Err f)
fault_as e f h = let same : e ≡ f = cc in ap (λ (x : RunFault). Err x) same

pub ok_as : {T U : Type 0} (t : TopologyView) (hosted : List ℕ) (tells : Type 0) (acts : List Act) (n n' : NodeView) (first : List ℕ) (before after : Option (List ℕ)) (journal journal' : List Entry) (x : T) (y : U)
    → Wrote {T = T} t hosted tells acts n n' first before after journal journal' (Ok x) → Wrote {T = U} t hosted tells acts n n' first before after journal journal' (Ok y)
ok_as t hosted tells acts n n' first before after journal journal' x y w = record {
  made = w.made;
  left = w.left;
  parts = w.parts;
  whole = w.whole;
  node = λ e. w.node tt;
  wrote = λ e. w.wrote tt;
  sent = λ e. w.sent tt;
  refused = λ h. absurd (ok_err y run.Disk h);
  given_up = λ h. absurd (ok_err y run.Post h);
  front = tt;
  sent_front = λ unknown h. absurd (unknown tt);
}

pub err_as : {T U : Type 0} (t : TopologyView) (hosted : List ℕ) (tells : Type 0) (acts : List Act) (n n' : NodeView) (first : List ℕ) (before after : Option (List ℕ)) (journal journal' : List Entry) (e : RunFault)
    → Wrote {T = T} t hosted tells acts n n' first before after journal journal' (Err e) → Wrote {T = U} t hosted tells acts n n' first before after journal journal' (Err e)
err_as {T} {U} t hosted tells acts n n' first before after journal journal' e w = record {
  made = w.made;
  left = w.left;
  parts = w.parts;
  whole = tt;
  node = λ x. w.node (exact_as T U e x);
  wrote = λ x. w.wrote (exact_as T U e x);
  sent = λ x h. w.sent (exact_as T U e x) h ∙ ap (λ (es : List Entry). journal ++ ((all_done t hosted n w.made).entries ++ es)) (same_entries T U e);
  refused = λ h. w.refused (fault_as {T = T} {U = U} e run.Disk h);
  given_up = λ h. w.given_up (fault_as {T = T} {U = U} e run.Post h);
  front = w.front;
  sent_front = λ unknown. w.sent_front (λ x. unknown (exact_as U T e x));
}
