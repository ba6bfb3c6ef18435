-- What was gathered at an arrival is written: then it is written what its acts put into the journal
use Rattle.std.proofs.Common.{◌≡◌, ◌⊎◌, inl, inr, ℕ, true, false, List, [], ◌∷◌, ◌++◌, Option, Some, None, Result, Ok, Err, is_ok, OnOk, OnErr, IfErr, refl, sym, ap, ap₂, ◌∙◌, subst, append_assoc, append-nil}
use Rattle.std.specs.List.{AllByRecursion}
use Rattle.gr_out.specs.declared.fault.RunFault.{RunFault}
use Rattle.gr_out.specs.declared.fault.RunFault.TheVariants as run
use Rattle.gr_out.specs.Bytes.{with_more}
use Rattle.gr_out.specs.Entry.{Entry}
use Rattle.gr_out.specs.Page.{TakesFront}
use Rattle.gr_out.proofs.Fronts.{front-more}
use Rattle.gr_topo.specs.Topology.{TopologyView, IsTopology}
use Rattle.gr_node.specs.Seen.{NodeView}
use Rattle.gr_node.specs.Plan.{Act, settles}
use Rattle.gr_node.specs.Done.{Done, all_done}
use Rattle.gr_node.specs.Went.{IsExact, IsCallFault, uses_disk, FirstIs, Begins, fault_entries}
use Rattle.gr_journal.specs.Groups.{said_text}
use Rattle.gr_trace.specs.declared.gathering.Gathered.{Gathered}
use Rattle.gr_trace.specs.Offered.{entries_of}
use Rattle.gr_trace.specs.Gathered.{Gathers}
use Rattle.gr_trace.specs.Traced.{said_lines, outs_of}
use Rattle.gr_trace.specs.Wrote.{gathered_text, written_at, Wrote, Writes}
use Rattle.gr_trace.proofs.Said.{report_said}
use Rattle.gr_trace.proofs.Groups.{IsTelling, told_at, led_at, done_append}

-- acts that are told at once, and then what is ready
abbrev pub led : List Act → List Act
led acts = acts ++ settles ∷ []

-- what was made of them up to a call that the disk refused are acts that are told at once
cut_tells : (acts made left : List Act) → AllByRecursion IsTelling acts → made ++ left ≡ led acts → FirstIs uses_disk left → AllByRecursion IsTelling made
cut_tells acts [] left h e f = tt
cut_tells [] (m ∷ made) left h e f = absurd (go made e)
  where
    none : (x : Act) (xs : List Act) → ◌≡◌ {A = List Act} [] (x ∷ xs) → ⊥
    none x xs e = cc

    tail : (x y : Act) (xs ys : List Act) → x ∷ xs ≡ y ∷ ys → xs ≡ ys
    tail x y xs ys e = cc

    go : (made : List Act) → m ∷ (made ++ left) ≡ settles ∷ [] → ⊥
    go [] e = subst (FirstIs uses_disk) (tail m settles left [] e) f
    go (x ∷ xs) e = none x (xs ++ left) (sym (tail m settles (x ∷ (xs ++ left)) [] e))
cut_tells (a ∷ acts) (m ∷ made) left h e f = (subst IsTelling (sym (head m a (made ++ left) (led acts) e)) h.0, cut_tells acts made left h.1 (tail m a (made ++ left) (led acts) e) f)
  where
    head : (x y : Act) (xs ys : List Act) → x ∷ xs ≡ y ∷ ys → x ≡ y
    head x y xs ys e = cc

    tail : (x y : Act) (xs ys : List Act) → x ∷ xs ≡ y ∷ ys → xs ≡ ys
    tail x y xs ys e = cc

pub exact_or : {T : Type 0} (r : Result T RunFault) → IsExact r ⊎ (IsExact r → ⊥)
exact_or (Ok x) = inl tt
exact_or (Err run.Memory) = inr (λ e. e)
exact_or (Err run.Disk) = inl tt
exact_or (Err run.Write) = inr (λ e. e)
exact_or (Err run.Post) = inl tt
exact_or (Err (run.Damaged p at)) = inl tt

pub ok_exact : {T : Type 0} (r : Result T RunFault) (P : Type 0) → (IsExact r → ⊥) → OnOk r P
ok_exact (Ok x) P unknown = absurd (unknown tt)
ok_exact (Err e) P unknown = tt

no_entries : {T : Type 0} (r : Result T RunFault) → IfErr r IsCallFault → fault_entries r ≡ []
no_entries (Ok x) c = refl
no_entries (Err run.Memory) c = refl
no_entries (Err run.Disk) c = refl
no_entries (Err run.Write) c = refl
no_entries (Err run.Post) c = absurd c
no_entries (Err (run.Damaged p at)) c = absurd c

module _ (t : TopologyView) (hosted : List ℕ) (topology : IsTopology t) (tells : Type 0) (acts : List Act) (telling : AllByRecursion IsTelling acts) (n n' : NodeView) (g : Gathered) (first : List ℕ)
    (before after : Option (List ℕ)) (journal journal' : List Entry) where
  abbrev Answer : Type 0
  Answer = Result (Unit {0}) RunFault

  -- what acts do, and what they put into the journal
  abbrev after_acts : List Act → Done
  after_acts made = all_done t hosted n made

  abbrev put_by : List Act → List ℕ
  put_by made = written_at t hosted n [] made

  -- how the text that was gathered stands in that of all acts
  record IsPut (made : List Act) (text : List ℕ) : Type 0 where
    is : text ≡ put_by made
    rest : List ℕ
    whole : put_by (led acts) ≡ text ++ rest
    later : List Entry
    entries : (after_acts (led acts)).entries ≡ (after_acts made).entries ++ later

  nothing_at : (m : NodeView) (waiting : List ℕ) → written_at t hosted m waiting [] ≡ []
  unfolding written_at
  nothing_at m waiting = refl

  cut_is : (made : List Act) → AllByRecursion IsTelling made → said_lines t (after_acts made).lines ≡ put_by made
  cut_is made h =
      let d : Done = after_acts made in
      sym (ap put_by (sym (append-nil made)) ∙ (told_at t hosted n [] made [] h
      ∙ (ap (λ (xs : List ℕ). said_lines t d.lines ++ xs) (nothing_at d.node ([] ++ outs_of t d.entries)) ∙ append-nil (said_lines t d.lines))))

  gathered_is : (done : Answer) (w : Gathers t hosted (led acts) n n' g.lines.held g.offers done) → IfErr done IsCallFault → IsExact done → IsPut w.made (gathered_text t g (is_ok done))
  gathered_is (Ok x) w c e =
      let all : w.made ≡ led acts = sym (append-nil w.made) ∙ (ap (λ (xs : List Act). w.made ++ xs) (sym w.whole) ∙ w.parts) in
      let d : Done = after_acts w.made in
      let same : gathered_text t g true ≡ put_by w.made =
      ap₂ (λ (xs ys : List ℕ). xs ++ ys) (ap (said_text true) w.told ∙ report_said t d.lines topology) (ap (outs_of t) w.sent)
      ∙ (ap (λ (xs : List Act). let b : Done = after_acts xs in said_lines t b.lines ++ outs_of t b.entries) all
      ∙ (sym (led_at t hosted n acts telling) ∙ ap put_by (sym all))) in
      record {
        is = same;
        rest = [];
        whole = sym (append-nil (gathered_text t g true) ∙ (same ∙ ap put_by all));
        later = [];
        entries = sym (append-nil d.entries ∙ ap (λ (xs : List Act). (after_acts xs).entries) all);
      }
  gathered_is (Err run.Disk) w c e =
      let made_tell = cut_tells acts w.made w.left telling w.parts (w.refused refl) in
      let d : Done = after_acts w.made in
      let rest : List ℕ = written_at t hosted d.node ([] ++ outs_of t d.entries) w.left in
      let both = done_append t hosted n w.made w.left in
      let here : gathered_text t g false ≡ said_lines t d.lines = append-nil (said_text true g.lines.held) ∙ (ap (said_text true) w.told ∙ report_said t d.lines topology) in
      record {
        is = here ∙ cut_is w.made made_tell;
        rest = rest;
        whole = ap put_by (sym w.parts) ∙ (told_at t hosted n [] w.made w.left made_tell ∙ ap (λ (xs : List ℕ). xs ++ rest) (sym here));
        later = (all_done t hosted d.node w.left).entries;
        entries = ap (λ (xs : List Act). (after_acts xs).entries) (sym w.parts) ∙ both.entries;
      }
  gathered_is (Err run.Memory) w c e = absurd e
  gathered_is (Err run.Write) w c e = absurd e
  gathered_is (Err run.Post) w c e = absurd c
  gathered_is (Err (run.Damaged p at)) w c e = absurd c

  -- where it was not known what was done, nothing was written
  wrote_nothing : (done result : Answer) → Writes t tells g first done before after journal journal' result → (IsExact done → ⊥) → Wrote t hosted tells (led acts) n n' first before after journal journal' result
  wrote_nothing done result w unknown =
      let not : IsExact result → ⊥ = λ e. unknown (subst (λ (r : Answer). IsExact r) (w.same e) e) in
      record {
        made = [];
        left = led acts;
        parts = refl;
        whole = ok_exact result _ not;
        node = λ e. absurd (not e);
        wrote = λ e. absurd (not e);
        sent = λ e. absurd (not e);
        refused = λ h. absurd (not (subst (λ (r : Answer). IsExact r) (sym h) tt));
        given_up = λ h. absurd (not (subst (λ (r : Answer). IsExact r) (sym h) tt));
        front = front_on result w.front;
        sent_front = λ k p. elim (w.sent_front p) [
          | inl s ↦ begins_none s
          | inr s ↦ absurd (unknown s.0)
        ];
      }
    where
      taken_none : (o : Option (List ℕ)) → o ≡ with_more o []
      taken_none None = refl
      taken_none (Some xs) = ap (λ (ys : List ℕ). Some ys) (sym (append-nil xs))

      front_of : (after ≡ before) ⊎ (IsExact done × TakesFront before after (first ++ gathered_text t g (is_ok done))) → TakesFront before after (first ++ put_by (led acts))
      front_of (inl s) = record { part = []; rest = first ++ put_by (led acts); whole = refl; taken = s ∙ taken_none before }
      front_of (inr s) = absurd (unknown s.0)

      front_on : (r : Answer) → OnErr r ((after ≡ before) ⊎ (IsExact done × TakesFront before after (first ++ gathered_text t g (is_ok done)))) → OnErr r (TakesFront before after (first ++ put_by (led acts)))
      front_on (Ok x) f = tt
      front_on (Err e) f = front_of f

      begins_none : journal' ≡ journal → Begins journal journal' (after_acts (led acts)).entries
      begins_none s = record { part = []; rest = (after_acts (led acts)).entries; whole = refl; are = s ∙ sym (append-nil journal) }

  -- where it was known, what was made is written
  wrote_made : (done result : Answer) → Writes t tells g first done before after journal journal' result → IfErr done IsCallFault → IsExact done → Gathers t hosted (led acts) n n' g.lines.held g.offers done
      → Wrote t hosted tells (led acts) n n' first before after journal journal' result
  wrote_made done result w c x gathers =
      let put = gathered_is done gathers c x in
      record {
        made = gathers.made;
        left = gathers.left;
        parts = gathers.parts;
        whole = whole_on result w.same;
        node = λ e. gathers.node;
        wrote = λ e. w.wrote e ∙ ap (λ (xs : List ℕ). with_more before (first ++ xs)) put.is;
        sent = λ e p. w.sent e p ∙ ap (λ (es : List Entry). journal ++ es)
            (gathers.sent ∙ (sym (append-nil (after_acts gathers.made).entries) ∙ ap (λ (es : List Entry). (after_acts gathers.made).entries ++ es)
            (sym (ap (λ (r : Answer). fault_entries r) (w.same e) ∙ no_entries done c))));
        refused = λ h. gathers.refused (sym (w.same (subst (λ (r : Answer). IsExact r) (sym h) tt)) ∙ h);
        given_up = λ h. absurd (post_not (sym (w.same (subst (λ (r : Answer). IsExact r) (sym h) tt)) ∙ h));
        front = front_on result w.front;
        sent_front = λ k p. begins_of (w.sent_front p);
      }
    where
      put : IsPut gathers.made (gathered_text t g (is_ok done))
      put = gathered_is done gathers c x

      whole_on : (r : Answer) → (IsExact r → r ≡ done) → OnOk r (gathers.left ≡ [])
      whole_on (Ok u) same = subst (λ (r : Answer). OnOk r (gathers.left ≡ [])) (sym (same tt)) gathers.whole
      whole_on (Err e) same = tt

      post_not : done ≡ Err run.Post → ⊥
      post_not h = subst (λ (r : Answer). IfErr r IsCallFault) h c

      taken_none : (o : Option (List ℕ)) → o ≡ with_more o []
      taken_none None = refl
      taken_none (Some xs) = ap (λ (ys : List ℕ). Some ys) (sym (append-nil xs))

      front_of : (after ≡ before) ⊎ (IsExact done × TakesFront before after (first ++ gathered_text t g (is_ok done))) → TakesFront before after (first ++ put_by (led acts))
      front_of (inl s) = record { part = []; rest = first ++ put_by (led acts); whole = refl; taken = s ∙ taken_none before }
      front_of (inr s) = subst (λ (xs : List ℕ). TakesFront before after xs) (append_assoc first (gathered_text t g (is_ok done)) put.rest ∙ ap (λ (xs : List ℕ). first ++ xs) (sym put.whole))
          (front-more before after (first ++ gathered_text t g (is_ok done)) put.rest s.1)

      front_on : (r : Answer) → OnErr r ((after ≡ before) ⊎ (IsExact done × TakesFront before after (first ++ gathered_text t g (is_ok done)))) → OnErr r (TakesFront before after (first ++ put_by (led acts)))
      front_on (Ok u) f = tt
      front_on (Err e) f = front_of f

      begins_of : (journal' ≡ journal) ⊎ (IsExact done × Begins journal journal' (entries_of g.offers)) → Begins journal journal' (after_acts (led acts)).entries
      begins_of (inl s) = record { part = []; rest = (after_acts (led acts)).entries; whole = refl; are = s ∙ sym (append-nil journal) }
      begins_of (inr s) = let b = s.1 in record {
        part = b.part;
        rest = b.rest ++ put.later;
        whole = put.entries ∙ (ap (λ (es : List Entry). es ++ put.later) (sym gathers.sent ∙ b.whole) ∙ append_assoc b.part b.rest put.later);
        are = b.are;
      }

  pub wrote_of : (done result : Answer) → Writes t tells g first done before after journal journal' result → IfErr done IsCallFault → (IsExact done → Gathers t hosted (led acts) n n' g.lines.held g.offers done)
      → Wrote t hosted tells (led acts) n n' first before after journal journal' result
  wrote_of done result w c gathers = elim (exact_or done) [
    | inl x ↦ wrote_made done result w c x (gathers x)
    | inr unknown ↦ wrote_nothing done result w unknown
  ]
