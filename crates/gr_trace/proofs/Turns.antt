-- A run that is traced, turn by turn: all that came so far was taken and written, and the next turn takes what comes then
use Rattle.std.proofs.Common.{◌≡◌, ℕ, List, [], ◌∷◌, ◌++◌, length, drop, Option, Some, None, Result, Ok, Err, OnErr, refl, sym, ap, ap₂, ◌∙◌, subst, append_assoc, append-nil}
use Rattle.std.specs.List.{AllByRecursion}
use Rattle.gr_out.specs.declared.fault.RunFault.{RunFault}
use Rattle.gr_out.specs.Bytes.{with_more}
use Rattle.gr_out.specs.Entry.{Entry}
use Rattle.gr_out.specs.Page.{TakesFront}
use Rattle.gr_sched.specs.declared.step.Line.{Line}
use Rattle.gr_topo.specs.Topology.{TopologyView}
use Rattle.gr_model.specs.NetOf.{net_of}
use Rattle.gr_model.specs.Arrivals.{Arrival, Request, requests_of, left_after}
use Rattle.gr_model_theorems.specs.Served.{IsOfBytes}
use Rattle.gr_node.specs.Seen.{NodeView}
use Rattle.gr_node.specs.Plan.{Act, acts_from, arrival_acts}
use Rattle.gr_node.specs.Done.{Done, all_done}
use Rattle.gr_node.specs.Turns.{left_behind}
use Rattle.gr_node.specs.Went.{fault_entries}
use Rattle.gr_trace.specs.Wrote.{written_at, Wrote}
use Rattle.gr_trace.proofs.Groups.{IsBoth, done_append}
use Rattle.gr_trace.proofs.Turning.{waiting_at, written_then, waiting_then, arrival_waits}

-- What a sink takes in two parts

pub more_twice : (o : Option (List ℕ)) (a b : List ℕ) → with_more (with_more o a) b ≡ with_more o (a ++ b)
more_twice None a b = refl
more_twice (Some xs) a b = ap (λ (ys : List ℕ). Some ys) (append_assoc xs a b)

pub more_none : (o : Option (List ℕ)) → o ≡ with_more o []
more_none None = refl
more_none (Some xs) = ap (λ (ys : List ℕ). Some ys) (sym (append-nil xs))

pub front_behind : (o middle new : Option (List ℕ)) (a b : List ℕ) → middle ≡ with_more o a → TakesFront middle new b → TakesFront o new (a ++ b)
front_behind o middle new a b e f = record {
  part = a ++ f.part;
  rest = f.rest;
  whole = ap (λ (xs : List ℕ). a ++ xs) f.whole ∙ sym (append_assoc a f.part f.rest);
  taken = f.taken ∙ (ap (λ (x : Option (List ℕ)). with_more x f.part) e ∙ more_twice o a f.part);
}

-- Acts that were all made and written, and no line waits behind them
pub record WroteAll (t : TopologyView) (hosted : List ℕ) (tells : Type 0) (acts : List Act) (n n' : NodeView) (before after : Option (List ℕ)) (journal journal' : List Entry) : Type 0 where
  pub node : n' ≡ (all_done t hosted n acts).node
  pub wrote : after ≡ with_more before (written_at t hosted n [] acts)
  pub sent : tells → journal' ≡ journal ++ (all_done t hosted n acts).entries
  pub waits : waiting_at t hosted n [] acts ≡ []

module _ (t : TopologyView) (hosted : List ℕ) (tells : Type 0) where
  pub wrote_none : (n : NodeView) (before : Option (List ℕ)) (journal : List Entry) → WroteAll t hosted tells [] n n before before journal journal
  unfolding written_at waiting_at all_done
  wrote_none n before journal = record { node = refl; wrote = more_none before; sent = λ h. sym (append-nil journal); waits = refl }

  -- acts, and then others
  pub wrote_on : {T : Type 0} (xs ys : List Act) (n m n' : NodeView) (before middle after : Option (List ℕ)) (journal between journal' : List Entry) (r : Result T RunFault)
      → WroteAll t hosted tells xs n m before middle journal between → Wrote t hosted tells ys m n' [] middle after between journal' r → Wrote t hosted tells (xs ++ ys) n n' [] before after journal journal' r
  wrote_on {T} xs ys n m n' before middle after journal between journal' r a w =
      let d : Done = all_done t hosted n xs in
      let text : List Act → List ℕ = λ acts. written_at t hosted d.node [] acts in
      let behind : (acts : List Act) → written_at t hosted n [] (xs ++ acts) ≡ written_at t hosted n [] xs ++ text acts =
      λ acts. written_then t hosted n [] xs acts ∙ ap (λ (zs : List ℕ). written_at t hosted n [] xs ++ written_at t hosted d.node zs acts) a.waits in
      let both : (acts : List Act) → IsBoth d (all_done t hosted d.node acts) (all_done t hosted n (xs ++ acts)) = λ acts. done_append t hosted n xs acts in
      let here : (acts : List Act) → all_done t hosted m acts ≡ all_done t hosted d.node acts = λ acts. ap (λ (x : NodeView). all_done t hosted x acts) a.node in
      let same : (acts : List Act) → written_at t hosted m [] acts ≡ text acts = λ acts. ap (λ (x : NodeView). written_at t hosted x [] acts) a.node in
      record {
        made = xs ++ w.made;
        left = w.left;
        parts = append_assoc xs w.made w.left ∙ ap (λ (zs : List Act). xs ++ zs) w.parts;
        whole = w.whole;
        node = λ e empty. w.node e empty ∙ (ap (λ (x : Done). x.node) (here w.made) ∙ sym (both w.made).node);
        wrote = λ e. w.wrote e ∙ (ap₂ (λ (x : Option (List ℕ)) (zs : List ℕ). with_more x zs) a.wrote (same w.made)
            ∙ (more_twice before (written_at t hosted n [] xs) (text w.made) ∙ ap (λ (zs : List ℕ). with_more before zs) (sym (behind w.made))));
        sent = λ e h.
            let f : Done = all_done t hosted d.node w.made in
            w.sent e h
            ∙ (ap₂ (λ (es : List Entry) (x : Done). es ++ (x.entries ++ fault_entries r)) (a.sent h) (here w.made)
            ∙ (append_assoc journal d.entries (f.entries ++ fault_entries r)
            ∙ ap (λ (es : List Entry). journal ++ es) (sym (append_assoc d.entries f.entries (fault_entries r)) ∙ ap (λ (es : List Entry). es ++ fault_entries r) (sym (both w.made).entries))));
        refused = w.refused;
        given_up = w.given_up;
        front = go r w.front;
        sent_front = λ unknown h.
            let b = w.sent_front unknown h in
            record {
              part = d.entries ++ b.part;
              rest = b.rest;
              whole = (both ys).entries ∙ (ap (λ (x : Done). d.entries ++ x.entries) (sym (here ys)) ∙ (ap (λ (es : List Entry). d.entries ++ es) b.whole ∙ sym (append_assoc d.entries b.part b.rest)));
              are = b.are ∙ (ap (λ (es : List Entry). es ++ b.part) (a.sent h) ∙ append_assoc journal d.entries b.part);
            };
      }
    where
      d : Done
      d = all_done t hosted n xs

      go : (q : Result T RunFault) → OnErr q (TakesFront middle after (written_at t hosted m [] ys)) → OnErr q (TakesFront before after (written_at t hosted n [] (xs ++ ys)))
      go (Ok x) f = tt
      go (Err e) f =
          subst (λ (zs : List ℕ). TakesFront before after zs)
          (ap (λ (x : NodeView). written_at t hosted n [] xs ++ written_at t hosted x [] ys) a.node
          ∙ sym (written_then t hosted n [] xs ys ∙ ap (λ (zs : List ℕ). written_at t hosted n [] xs ++ written_at t hosted d.node zs ys) a.waits))
          (front_behind before middle after (written_at t hosted n [] xs) (written_at t hosted m [] ys) a.wrote f)

  -- where a call came through, all was made
  pub all_wrote : {T : Type 0} (acts : List Act) (n n' : NodeView) (before after : Option (List ℕ)) (journal journal' : List Entry) (x : T)
      → Wrote {T = T} t hosted tells acts n n' [] before after journal journal' (Ok x) → waiting_at t hosted n [] acts ≡ [] → WroteAll t hosted tells acts n n' before after journal journal'
  all_wrote acts n n' before after journal journal' x w waits =
      let all : w.made ≡ acts = sym (append-nil w.made) ∙ (ap (λ (zs : List Act). w.made ++ zs) (sym w.whole) ∙ w.parts) in
      record {
        node = w.node tt w.whole ∙ ap (λ (zs : List Act). (all_done t hosted n zs).node) all;
        wrote = w.wrote tt ∙ ap (λ (zs : List Act). with_more before (written_at t hosted n [] zs)) all;
        sent = λ h. w.sent tt h ∙ (ap (λ (es : List Entry). journal ++ es) (append-nil (all_done t hosted n w.made).entries) ∙ ap (λ (zs : List Act). journal ++ (all_done t hosted n zs).entries) all);
        waits = waits;
      }

  -- behind all that came no line waits
  pub came_waits : (left : List Request) (came : List Arrival) (n : NodeView) → waiting_at t hosted n [] (acts_from (net_of t) hosted left came) ≡ []
  unfolding acts_from waiting_at
  came_waits left [] n = refl
  came_waits left (a ∷ came) n =
      let acts : List Act = arrival_acts (net_of t) hosted left a in
      let m : NodeView = (all_done t hosted n acts).node in
      waiting_then t hosted n [] acts (acts_from (net_of t) hosted (left_after left a) came)
      ∙ (ap (λ (zs : List ℕ). waiting_at t hosted m zs (acts_from (net_of t) hosted (left_after left a) came)) (arrival_waits t hosted n left a)
      ∙ came_waits (left_after left a) came m)

-- So many arrivals have come, and all of their groups were written
pub record TracedSoFar (t : TopologyView) (hosted : List ℕ) (tells : Type 0) (steps : List Line) (next count : ℕ) (n n' : NodeView) (before after : Option (List ℕ)) (journal journal' : List Entry) (P : List Arrival → Type 0) : Type 0 where
  pub came : List Arrival
  pub length_is : length came ≡ count
  pub bytes : AllByRecursion IsOfBytes came
  pub left : requests_of (net_of t) hosted (drop next steps) ≡ left_behind (requests_of (net_of t) hosted steps) came
  pub goes : WroteAll t hosted tells (acts_from (net_of t) hosted (requests_of (net_of t) hosted steps) came) n n' before after journal journal'
  pub stood : P came

pub none_traced : (t : TopologyView) (hosted : List ℕ) (tells : Type 0) (steps : List Line) (next : ℕ) (n : NodeView) (before : Option (List ℕ)) (journal : List Entry) (P : List Arrival → Type 0)
    → requests_of (net_of t) hosted (drop next steps) ≡ requests_of (net_of t) hosted steps → P [] → TracedSoFar t hosted tells steps next 0 n n before before journal journal P
unfolding left_behind acts_from
none_traced t hosted tells steps next n before journal P e h = record { came = []; length_is = refl; bytes = tt; left = e; goes = wrote_none t hosted tells n before journal; stood = h }
