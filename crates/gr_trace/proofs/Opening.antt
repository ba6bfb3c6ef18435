-- The line of the process and what the starts tell are written
use Rattle.std.proofs.Common.{◌≡◌, ◌⊎◌, inl, inr, ℕ, Bool, true, false, List, [], ◌∷◌, ◌++◌, Option, Result, Ok, Err, is_ok, OnErr, refl, sym, ap, ◌∙◌, subst, append-nil}
use Rattle.std.specs.Prelude.{if◌then◌else◌}
use Rattle.gr_out.specs.declared.fault.RunFault.{RunFault}
use Rattle.gr_out.specs.declared.fault.RunFault.TheVariants as run
use Rattle.gr_out.specs.Bytes.{with_more}
use Rattle.gr_out.specs.Entry.{Entry}
use Rattle.gr_out.specs.Lane.{Lane}
use Rattle.gr_out.specs.Page.{TakesFront}
use Rattle.gr_topo.specs.Topology.{TopologyView}
use Rattle.gr_journal.specs.Groups.{said_text}
use Rattle.gr_node.specs.Seen.{NodeView}
use Rattle.gr_node.specs.Went.{IsExact, Begins}
use Rattle.gr_trace.specs.declared.gathering.Gathered.{Gathered}
use Rattle.gr_trace.specs.declared.offers.Offer.{Offer}
use Rattle.gr_trace.specs.Offered.{entries_of}
use Rattle.gr_trace.specs.Gathered.{Opens}
use Rattle.gr_trace.specs.Traced.{outs_of}
use Rattle.gr_trace.specs.Wrote.{gathered_text, Writes, OpeningTraced}

abbrev Answer : Type 0
Answer = Result (Unit {0}) RunFault

-- there was no memory for the line of the process
pub opening_unput : (t : TopologyView) (hosted : List ℕ) (keeps : Type 0) (n' : NodeView) (first : List ℕ) (before : Option (List ℕ)) (lanes : ℕ → Lane) (e : RunFault) → e ≡ run.Memory
    → OpeningTraced {T = Unit {0}} t hosted keeps n' first before before lanes (Err e)
opening_unput t hosted keeps n' first before lanes e is = subst (λ (f : RunFault). OpeningTraced {T = Unit {0}} t hosted keeps n' first before before lanes (Err f)) (sym is) (record {
  done = Err run.Memory;
  lines = [];
  same = λ x. absurd x;
  opens = λ x. absurd x;
  wrote = λ x. absurd x;
  front = inl refl;
})

either_none : (b : Bool) → ◌≡◌ {A = List ℕ} (if b then [] else []) []
either_none true = refl
either_none false = refl

module _ (t : TopologyView) (hosted : List ℕ) (keeps tells : Type 0) (n' : NodeView) (g : Gathered) (none : g.offers ≡ []) (first held : List ℕ) (put : held ≡ first) (before after : Option (List ℕ)) (journal journal' : List Entry) (lanes : ℕ → Lane)
    (done result : Answer) (w : Writes t tells g held done before after journal journal' result) where
  -- no offers are among what was gathered
  text_is : held ++ gathered_text t g (is_ok done) ≡ first ++ said_text true g.lines.held
  text_is =
      ap (λ (xs : List ℕ). xs ++ gathered_text t g (is_ok done)) put
      ∙ ap (λ (xs : List ℕ). first ++ xs)
      (ap (λ (os : List Offer). said_text true g.lines.held ++ (if is_ok done then outs_of t (entries_of os) else [])) none
      ∙ (ap (λ (xs : List ℕ). said_text true g.lines.held ++ xs) (either_none (is_ok done)) ∙ append-nil (said_text true g.lines.held)))

  front_is : (r : Answer) → OnErr r ((after ≡ before) ⊎ (IsExact done × TakesFront before after (held ++ gathered_text t g (is_ok done)))) → OnErr r ((after ≡ before) ⊎ (IsExact done × TakesFront before after (first ++ said_text true g.lines.held)))
  front_is (Ok x) h = tt
  front_is (Err e) (inl same) = inl same
  front_is (Err e) (inr part) = inr (part.0, subst (TakesFront before after) text_is part.1)

  pub opening_of : (IsExact done → Opens {T = Unit {0}} t hosted keeps n' g.lines.held lanes done) → OpeningTraced {T = Unit {0}} t hosted keeps n' first before after lanes result
  opening_of opens = record {
    done = done;
    lines = g.lines.held;
    same = w.same;
    opens = opens;
    wrote = λ exact. w.wrote exact ∙ ap (with_more before) text_is;
    front = front_is result w.front;
  }

  -- and none is made
  no_part : (part rest : List Entry) → [] ≡ part ++ rest → part ≡ []
  no_part [] rest h = refl
  no_part (x ∷ part) rest h = cc

  pub nothing_sent : tells → journal' ≡ journal
  nothing_sent h = elim (w.sent_front h) [
    | inl same ↦ same
    | inr some ↦
        let b : Begins journal journal' (entries_of g.offers) = some.1 in
        b.are ∙ (ap (λ (es : List Entry). journal ++ es) (no_part b.part b.rest (ap entries_of (sym none) ∙ b.whole)) ∙ append-nil journal)
  ]
