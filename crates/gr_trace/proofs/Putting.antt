-- What was gathered is put behind what a page holds, written, and its offers are made
use Rattle.std.proofs.Common.{◌≡◌, ◌⊎◌, inl, inr, ℕ, Bool, true, false, List, [], ◌++◌, Option, Result, Ok, Err, OnOk, OnErr, IfErr, is_ok, refl, sym, ap, ap₂, ◌∙◌, subst, append_assoc, append-nil}
use Rattle.gr_out.specs.declared.fault.RunFault.{RunFault}
use Rattle.gr_out.specs.declared.fault.RunFault.TheVariants as run
use Rattle.gr_out.specs.Bytes.{with_more}
use Rattle.gr_out.specs.Entry.{Entry}
use Rattle.gr_out.specs.Page.{TakesFront}
use Rattle.gr_topo.specs.Topology.{TopologyView}
use Rattle.gr_journal.specs.Groups.{said_text}
use Rattle.gr_node.specs.Went.{IsExact, Begins, SinkMoves}
use Rattle.gr_trace.specs.declared.gathering.Gathered.{Gathered}
use Rattle.gr_trace.specs.declared.offers.Offer.{Offer}
use Rattle.gr_trace.specs.Offered.{entries_of}
use Rattle.gr_trace.specs.Traced.{outs_of}
use Rattle.gr_trace.specs.Wrote.{gathered_text, Writes}

-- What is put

-- what was told
pub told_put : (t : TopologyView) (g : Gathered) (whole : Bool) (old new lines : List ℕ) → whole ≡ false → lines ≡ g.lines.held → new ≡ old ++ said_text true lines → new ≡ old ++ gathered_text t g whole
told_put t g whole old new lines e same put =
    put ∙ ap (λ (xs : List ℕ). old ++ xs) (ap (said_text true) same ∙ (sym (append-nil (said_text true g.lines.held)) ∙ ap (gathered_text t g) (sym e)))

-- and what was offered
pub all_put : (t : TopologyView) (g : Gathered) (whole : Bool) (old mid new lines : List ℕ) (offers : List Offer) → whole ≡ true → lines ≡ g.lines.held → offers ≡ g.offers
    → mid ≡ old ++ said_text true lines → new ≡ mid ++ outs_of t (entries_of offers) → new ≡ old ++ gathered_text t g whole
all_put t g whole old mid new lines offers e same these put more =
    more
    ∙ (ap (λ (xs : List ℕ). xs ++ outs_of t (entries_of offers)) put
    ∙ (append_assoc old (said_text true lines) (outs_of t (entries_of offers))
    ∙ ap (λ (xs : List ℕ). old ++ xs) (ap₂ (λ (xs : List ℕ) (os : List Offer). said_text true xs ++ outs_of t (entries_of os)) same these ∙ ap (gathered_text t g) (sym e))))

-- Answers

pub if_ok : {T P : Type 0} (r : Result T RunFault) → P → OnOk r P
if_ok (Ok x) h = h
if_ok (Err e) h = tt

on_err : {T P : Type 0} (r : Result T RunFault) → P → OnErr r P
on_err (Ok x) h = tt
on_err (Err e) h = h

pub own_fault : {T : Type 0} (r : Result T RunFault) → IfErr r (λ e. (r ≡ Err e) ⊎ ((e ≡ run.Memory) ⊎ (e ≡ run.Write)))
own_fault (Ok x) = tt
own_fault (Err e) = inl refl

-- the sink has not failed
pub sink_still : {T : Type 0} (faults faults' : ℕ) (r : Result T RunFault) → IsExact r → faults' ≡ faults → SinkMoves faults faults' r
sink_still {T} faults faults' r exact same = record {
  rose = λ is. absurd (subst (λ (q : Result T RunFault). IsExact q) is exact);
  same = λ other. same;
}

-- How it ends

module _ (t : TopologyView) (tells : Type 0) (g : Gathered) (held : List ℕ) (done : Result (Unit {0}) RunFault) (before : Option (List ℕ)) (journal : List Entry) where
  abbrev all_text : List ℕ
  all_text = held ++ gathered_text t g (is_ok done)

  -- nothing was written
  pub writes_nothing : (e : RunFault) → e ≡ run.Memory → Writes {T = Unit {0}} t tells g held done before before journal journal (Err e)
  writes_nothing e is = subst (λ (f : RunFault). Writes {T = Unit {0}} t tells g held done before before journal journal (Err f)) (sym is) (record {
    same = λ x. absurd x;
    wrote = λ x. absurd x;
    sent = λ x. absurd x;
    front = inl refl;
    sent_front = λ h. inl refl;
  })

  module _ (exact : IsExact done) (whole : Bool) (text : List ℕ) (is_whole : whole ≡ is_ok done) (put : text ≡ held ++ gathered_text t g whole) where
    text_is : text ≡ all_text
    text_is = put ∙ ap (λ (b : Bool). held ++ gathered_text t g b) is_whole

    taken_all : (after : Option (List ℕ)) → after ≡ with_more before text → TakesFront before after all_text
    taken_all after e = record { part = all_text; rest = []; whole = sym (append-nil all_text); taken = e ∙ ap (with_more before) text_is }

    -- a front was
    pub writes_cut : (after : Option (List ℕ)) (e : RunFault) → e ≡ run.Write → TakesFront before after text → Writes {T = Unit {0}} t tells g held done before after journal journal (Err e)
    writes_cut after e is front = subst (λ (f : RunFault). Writes {T = Unit {0}} t tells g held done before after journal journal (Err f)) (sym is) (record {
      same = λ x. absurd x;
      wrote = λ x. absurd x;
      sent = λ x. absurd x;
      front = inr (exact, subst (TakesFront before after) text_is front);
      sent_front = λ h. inl refl;
    })

    -- all was, and the first of the offers were made
    pub writes_unsent : (after : Option (List ℕ)) (journal' : List Entry) (offers : List Offer) (e : RunFault) → e ≡ run.Memory → after ≡ with_more before text → offers ≡ g.offers → (tells → Begins journal journal' (entries_of offers))
        → Writes {T = Unit {0}} t tells g held done before after journal journal' (Err e)
    writes_unsent after journal' offers e is taken these begins = subst (λ (f : RunFault). Writes {T = Unit {0}} t tells g held done before after journal journal' (Err f)) (sym is) (record {
      same = λ x. absurd x;
      wrote = λ x. absurd x;
      sent = λ x. absurd x;
      front = inr (exact, taken_all after taken);
      sent_front = λ h. inr (exact, subst (λ (os : List Offer). Begins journal journal' (entries_of os)) these (begins h));
    })

    -- and all of them were
    pub writes_all : (after : Option (List ℕ)) (journal' : List Entry) (offers : List Offer) → after ≡ with_more before text → offers ≡ g.offers → (tells → journal' ≡ journal ++ entries_of offers)
        → Writes {T = Unit {0}} t tells g held done before after journal journal' done
    writes_all after journal' offers taken these sent = record {
      same = λ x. refl;
      wrote = λ x. taken ∙ ap (with_more before) text_is;
      sent = λ x h. sent h ∙ ap (λ (os : List Offer). journal ++ entries_of os) these;
      front = on_err done (inr (exact, taken_all after taken));
      sent_front = λ h. inr (
        exact,
        record {
          part = entries_of g.offers;
          rest = [];
          whole = sym (append-nil (entries_of g.offers));
          are = sent h ∙ ap (λ (os : List Offer). journal ++ entries_of os) these;
        },
      );
    }
