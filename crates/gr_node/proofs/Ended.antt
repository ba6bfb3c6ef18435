-- A part of a run ends. Where the page is written, the sink has taken all that was told; where that fails, or it is not written, a front
-- of it. What is shown is one act more
use Rattle.std.proofs.Common.{◌≡◌, ◌≢◌, ◌⊎◌, inl, inr, ℕ, List, [], ◌∷◌, ◌++◌, take, Option, Result, Ok, Err, OnOk, OnErr, IfErr, IsErrOf, flat_map, refl, sym, ap, ◌∙◌, subst, append_assoc, append-nil}
use Rattle.std.proofs.lemmas.Grind.{flat_map-append}
use Rattle.gr_out.specs.declared.fault.RunFault.{RunFault}
use Rattle.gr_out.specs.declared.fault.RunFault.TheVariants as run
use Rattle.gr_out.specs.Bytes.{with_more}
use Rattle.gr_out.specs.Entry.{Entry}
use Rattle.gr_out.specs.Lane.{Lane}
use Rattle.gr_out.specs.Page.{TakesBut, TakesFront}
use Rattle.gr_out.proofs.Fronts.{but-all, but-later, front-more, front-later, front-held, taken-whole}
use Rattle.gr_sched.specs.declared.step.Line.{Line}
use Rattle.gr_topo.specs.Topology.{TopologyView}
use Rattle.gr_model.specs.declared.report.Report.{Report}
use Rattle.gr_model.specs.NetOf.{net_of}
use Rattle.gr_model.specs.Text.{labels_of, whole_line}
use Rattle.gr_report.specs.Named.{IsPutFault}
use Rattle.gr_node.specs.Seen.{NodeView, text_of}
use Rattle.gr_node.specs.Plan.{Act, shows, run_acts}
use Rattle.gr_node.specs.Done.{Done, done, all_done, shown}
use Rattle.gr_node.specs.Went.{Outside, outside, IsExact, fault_entries, uses_disk, FirstIs, Begins, Went}
use Rattle.gr_node.specs.Starting.{Started, start_lines}
use Rattle.gr_node.specs.Served.{IsRefused}
use Rattle.gr_node.proofs.Wending.{done_append}
use Rattle.gr_node.specs.Ending.{IsUnwritten, Wrote, IsEnd, Ran, RanWith}

-- Answers

-- whether it is known what was done
pub exact_or : {T : Type 0} (r : Result T RunFault) → IsExact r ⊎ (IsExact r → ⊥)
exact_or (Ok x) = inl tt
exact_or (Err run.Memory) = inr (λ e. e)
exact_or (Err run.Write) = inr (λ e. e)
exact_or (Err run.Disk) = inl tt
exact_or (Err (run.Damaged p at)) = inl tt
exact_or (Err run.Post) = inl tt

-- whether the page stays unwritten
unwritten_or : {T : Type 0} (r : Result T RunFault) → IsUnwritten r ⊎ (IsUnwritten r → ⊥)
unwritten_or (Ok x) = inr (λ u. u)
unwritten_or (Err run.Memory) = inl tt
unwritten_or (Err run.Write) = inl tt
unwritten_or (Err run.Disk) = inr (λ u. u)
unwritten_or (Err (run.Damaged p at)) = inr (λ u. u)
unwritten_or (Err run.Post) = inl tt

-- where it is written it is known what was done
written_exact : {T : Type 0} (r : Result T RunFault) → (IsUnwritten r → ⊥) → IsExact r
written_exact (Ok x) h = tt
written_exact (Err run.Memory) h = h tt
written_exact (Err run.Write) h = h tt
written_exact (Err run.Disk) h = tt
written_exact (Err (run.Damaged p at)) h = tt
written_exact (Err run.Post) h = tt

-- where it is not, and that is known all the same, the post failed
unwritten_post : {T : Type 0} (r : Result T RunFault) → IsUnwritten r → IsExact r → IsErrOf r run.Post
unwritten_post (Ok x) u e = absurd u
unwritten_post (Err run.Memory) u e = absurd e
unwritten_post (Err run.Write) u e = absurd e
unwritten_post (Err run.Disk) u e = absurd u
unwritten_post (Err (run.Damaged p at)) u e = absurd u
unwritten_post (Err run.Post) u e = refl

-- a fault after which the brokers stand is one of the post
pub end_is_post : (T : Type 0) (e : RunFault) → IsEnd {T = T} (Err e) → ◌≡◌ {A = Result T RunFault} (Err e) (Err run.Post)
end_is_post T run.Memory h = absurd h
end_is_post T run.Write h = absurd h
end_is_post T run.Disk h = absurd h
end_is_post T (run.Damaged p at) h = absurd h
end_is_post T run.Post h = refl

-- a failure of the sink is no such end
write_no_end : {T : Type 0} (r : Result T RunFault) → r ≡ Err run.Write → IsEnd r → ⊥
write_no_end r e h = subst (λ x. IsEnd x) e h

-- what holds anyway holds after a fault
pub on_err : {T P : Type 0} (r : Result T RunFault) → P → OnErr r P
on_err (Ok x) h = tt
on_err (Err e) h = h

-- The page at the end of a part

module _ (T : Type 0) (taken taken' : Option (List ℕ)) (held held' : List ℕ) (before result : Result T RunFault) (w : Wrote taken taken' held held' before result) where
  -- the answer is that of the part, or that the sink failed
  pub same_answer : result ≢ Err run.Write → result ≡ before
  same_answer other = elim (unwritten_or before) [
    | inl u ↦ (w.left u).0
    | inr written ↦ elim (w.written written) [ inl same ↦ same.0 | inr failed ↦ absurd (other failed.0) ]
  ]

  -- a fault that is none of the sink is the part's
  pub same_err : (e : RunFault) → e ≢ run.Write → result ≡ Err e → before ≡ Err e
  same_err e other is = sym (same_answer (λ h. other (err_of e run.Write (sym is ∙ h)))) ∙ is
    where
      err_of : (e f : RunFault) → ◌≡◌ {A = Result T RunFault} (Err e) (Err f) → e ≡ f
      err_of e f h = cc

  -- an end is one of the part
  pub end_before : IsEnd result → IsEnd before
  end_before h = subst (λ r. IsEnd r) (same_answer (λ e. write_no_end result e h)) h

-- The starts

-- the page is written
pub started_wrote : {T : Type 0} (t : TopologyView) (hosted : List ℕ) (n : NodeView) (o : Outside) (taken taken' : Option (List ℕ)) (held held' : List ℕ) (before result : Result T RunFault)
    → before ≢ Err run.Post → Started t hosted n o (outside taken held []) before → Wrote taken taken' held held' before result
    → Started t hosted n o (outside taken' [] []) result
started_wrote {T} t hosted n o taken taken' held held' before result no_post s w = elim (unwritten_or before) [
  | inl u ↦ subst (λ r. Started {T = T} t hosted n o (outside taken' [] []) r) (sym (w.left u).0) (record {
    made = s.made;
    within = s.within;
    whole = s.whole;
    short = s.short;
    hosts = s.hosts;
    each = s.each;
    heard = s.heard;
    damaged_next = s.damaged_next;
    told = λ exact. absurd (no_post (unwritten_post before u exact));
    front = same_front before (w.left u).1.0 s.front;
  })
  | inr written ↦ elim (w.written written) [
    | inl same ↦
        let all : taken' ≡ with_more o.taken text = taken-whole o.taken taken taken' text held (s.told (written_exact before written)) same.1.0 in
        subst (λ r. Started {T = T} t hosted n o (outside taken' [] []) r) (sym same.0) (record {
          made = s.made;
          within = s.within;
          whole = s.whole;
          short = s.short;
          hosts = s.hosts;
          each = s.each;
          heard = s.heard;
          damaged_next = s.damaged_next;
          told = λ exact. but-all o.taken taken' text all;
          front = on_err before (front_all all);
        })
    | inr failed ↦ subst (λ r. Started {T = T} t hosted n o (outside taken' [] []) r) (sym failed.0) (record {
      made = s.made;
      within = s.within;
      whole = tt;
      short = λ exact. absurd exact;
      hosts = s.hosts;
      each = s.each;
      heard = tt;
      damaged_next = λ p at e. cc;
      told = λ exact. absurd exact;
      front = front-held o.taken taken taken' text held (s.told (written_exact before written)) failed.1;
    })
  ]
]
  where
    text : List ℕ
    text = o.held ++ text_of t (flat_map (start_lines t n) (take s.made hosted))

    front_all : taken' ≡ with_more o.taken text → TakesFront o.taken taken' text
    front_all e = record { part = text; rest = []; whole = sym (append-nil text); taken = e }

    same_front : (r : Result T RunFault) → taken' ≡ taken → OnErr r (TakesFront o.taken taken text) → OnErr r (TakesFront o.taken taken' text)
    same_front (Ok x) e f = tt
    same_front (Err x) e f = record { part = f.part; rest = f.rest; whole = f.whole; taken = e ∙ f.taken }

-- all of these entries were put
all_begun : (before after sent : List Entry) → after ≡ before ++ sent → Begins before after sent
all_begun before after sent e = record { part = sent; rest = []; whole = sym (append-nil sent); are = e }

-- Acts, and then others

-- the text of lines, and of others
pub text_append : (t : TopologyView) (xs ys : List Report) → text_of t (xs ++ ys) ≡ text_of t xs ++ text_of t ys
text_append t xs ys = flat_map-append (whole_line (labels_of t)) xs ys

module _ (t : TopologyView) (hosted : List ℕ) (n : NodeView) (acts more : List Act) where
  abbrev first : Done
  first = all_done t hosted n acts

  abbrev rest : Done
  rest = all_done t hosted first.node more

  -- the text of more acts stands behind
  text_behind : (held : List ℕ) → (held ++ text_of t first.lines) ++ text_of t rest.lines ≡ held ++ text_of t (all_done t hosted n (acts ++ more)).lines
  text_behind held =
      append_assoc held (text_of t first.lines) (text_of t rest.lines)
      ∙ ap (λ xs. held ++ xs) (sym (ap (λ (d : Done). text_of t d.lines) (done_append t hosted n acts more) ∙ text_append t first.lines rest.lines))

  entries_behind : (all_done t hosted n (acts ++ more)).entries ≡ first.entries ++ rest.entries
  entries_behind = ap (λ (d : Done). d.entries) (done_append t hosted n acts more)

  node_behind : (all_done t hosted n (acts ++ more)).node ≡ rest.node
  node_behind = ap (λ (d : Done). d.node) (done_append t hosted n acts more)

  -- a front is one of more
  front_behind : (old new : Option (List ℕ)) (held : List ℕ) → TakesFront old new (held ++ text_of t first.lines) → TakesFront old new (held ++ text_of t (all_done t hosted n (acts ++ more)).lines)
  front_behind old new held f =
      subst (TakesFront old new) (text_behind held) (front-more old new (held ++ text_of t first.lines) (text_of t rest.lines) f)

  begins_behind : (old new : List Entry) → Begins old new first.entries → Begins old new (all_done t hosted n (acts ++ more)).entries
  begins_behind old new b = record {
    part = b.part;
    rest = b.rest ++ rest.entries;
    whole = entries_behind ∙ (ap (λ xs. xs ++ rest.entries) b.whole ∙ append_assoc b.part b.rest rest.entries);
    are = b.are;
  }

-- The page is written at the end of a run
pub ran_wrote : {T : Type 0} (t : TopologyView) (hosted : List ℕ) (tells keeps : Type 0) (lanes lanes' : ℕ → Lane) (steps : List Line) (turns : ℕ) (n n' : NodeView) (o : Outside)
    (taken taken' : Option (List ℕ)) (held held' : List ℕ) (journal : List Entry) (before result : Result T RunFault)
    → (IsErrOf before run.Post → held ≡ []) → RanWith t hosted tells keeps steps turns n n' o (outside taken held journal) lanes lanes' before → Wrote taken taken' held held' before result
    → RanWith t hosted tells keeps steps turns n n' o (outside taken' [] journal) lanes lanes' result
ran_wrote {T} t hosted tells keeps lanes lanes' steps turns n n' o taken taken' held held' journal before result at_post w wrote = elim (unwritten_or before) [
  | inl u ↦ subst (λ r. RanWith {T = T} t hosted tells keeps steps turns n n' o (outside taken' [] journal) lanes lanes' r) (sym (wrote.left u).0) (record {
    came = w.came;
    closed = w.closed;
    within = w.within;
    bytes = w.bytes;
    kept = w.kept;
    stood = w.stood;
    ended = w.ended;
    ran = record {
      made = m.made;
      left = m.left;
      parts = m.parts;
      whole = m.whole;
      node = m.node;
      told = λ exact. none_held (at_post (unwritten_post before u exact)) (wrote.left u).1.0 (m.told exact);
      sent = m.sent;
      refused = m.refused;
      told_front = λ unknown. same_front (wrote.left u).1.0 (m.told_front unknown);
      sent_front = m.sent_front;
    };
  })
  | inr written ↦ elim (wrote.written written) [
    | inl same ↦ subst (λ r. RanWith {T = T} t hosted tells keeps steps turns n n' o (outside taken' [] journal) lanes lanes' r) (sym same.0) (record {
      came = w.came;
      closed = w.closed;
      within = w.within;
      bytes = w.bytes;
      kept = w.kept;
      stood = w.stood;
      ended = w.ended;
      ran = record {
        made = m.made;
        left = m.left;
        parts = m.parts;
        whole = m.whole;
        node = m.node;
        told = λ exact. but-all o.taken taken' text (taken-whole o.taken taken taken' text held (m.told exact) same.1.0);
        sent = m.sent;
        refused = m.refused;
        told_front = λ unknown. absurd (unknown (written_exact before written));
        sent_front = m.sent_front;
      };
    })
    | inr failed ↦ subst (λ r. RanWith {T = T} t hosted tells keeps steps turns n n' o (outside taken' [] journal) lanes lanes' r) (sym failed.0) (record {
      came = w.came;
      closed = w.closed;
      within = w.within;
      bytes = w.bytes;
      kept = w.kept;
      stood = w.stood;
      ended = tt;
      ran = record {
        made = m.made;
        left = m.left;
        parts = m.parts;
        whole = tt;
        node = λ end. absurd end;
        told = λ exact. absurd exact;
        sent = λ exact. absurd exact;
        refused = write_refused;
        told_front = λ unknown. subst (λ acts. TakesFront o.taken taken' (o.held ++ text_of t (all_done t hosted n acts).lines)) m.parts
            (front_behind t hosted n m.made m.left o.taken taken' o.held (front-held o.taken taken taken' text held (m.told (written_exact before written)) failed.1));
        sent_front = λ unknown h. subst (λ acts. Begins o.journal journal (all_done t hosted n acts).entries) m.parts
            (begins_behind t hosted n m.made m.left o.journal journal (begun before (written_exact before written) written (m.sent (written_exact before written) h)));
      };
    })
  ]
]
  where
    m : Ran {T = T} t hosted tells (run_acts (net_of t) hosted steps w.came w.closed ++ shows ∷ []) n n' o (outside taken held journal) before
    m = w.ran

    text : List ℕ
    text = o.held ++ text_of t (all_done t hosted n m.made).lines

    none_held : {text : List ℕ} → held ≡ [] → taken' ≡ taken → TakesBut o.taken taken text held → TakesBut o.taken taken' text []
    none_held none e b = record { part = b.part; whole = b.whole ∙ ap (λ xs. b.part ++ xs) none; taken = e ∙ b.taken }

    same_front : {text : List ℕ} → taken' ≡ taken → TakesFront o.taken taken text → TakesFront o.taken taken' text
    same_front e f = record { part = f.part; rest = f.rest; whole = f.whole; taken = e ∙ f.taken }

    write_refused : (e : RunFault) → ◌≡◌ {A = Result T RunFault} (Err run.Write) (Err e) → IsRefused t e m.left
    write_refused run.Write is = tt
    write_refused run.Memory is = tt
    write_refused run.Disk is = cc
    write_refused (run.Damaged p at) is = cc
    write_refused run.Post is = cc

    -- where the page is written the post has not failed
    begun : (r : Result T RunFault) → IsExact r → (IsUnwritten r → ⊥) → journal ≡ o.journal ++ ((all_done t hosted n m.made).entries ++ fault_entries r) → Begins o.journal journal (all_done t hosted n m.made).entries
    begun (Ok x) exact h e = all_begun o.journal journal (all_done t hosted n m.made).entries (e ∙ ap (λ xs. o.journal ++ xs) (append-nil (all_done t hosted n m.made).entries))
    begun (Err run.Disk) exact h e = all_begun o.journal journal (all_done t hosted n m.made).entries (e ∙ ap (λ xs. o.journal ++ xs) (append-nil (all_done t hosted n m.made).entries))
    begun (Err (run.Damaged p at)) exact h e = all_begun o.journal journal (all_done t hosted n m.made).entries (e ∙ ap (λ xs. o.journal ++ xs) (append-nil (all_done t hosted n m.made).entries))
    begun (Err run.Memory) exact h e = absurd exact
    begun (Err run.Write) exact h e = absurd exact
    begun (Err run.Post) exact h e = absurd (h tt)

-- What is shown after a run

-- a fault of putting lines leaves open what was done
pub put_unknown : (T : Type 0) (e : RunFault) → IsPutFault e → IsExact {T = T} (Err e) → ⊥
put_unknown T run.Memory h exact = exact
put_unknown T run.Write h exact = exact
put_unknown T run.Disk h exact = h
put_unknown T (run.Damaged p at) h exact = h
put_unknown T run.Post h exact = h

put_no_end : (T : Type 0) (e : RunFault) → IsPutFault e → IsEnd {T = T} (Err e) → ⊥
put_no_end T run.Memory h end = end
put_no_end T run.Write h end = end
put_no_end T run.Disk h end = end
put_no_end T (run.Damaged p at) h end = end
put_no_end T run.Post h end = h

put_refused : (t : TopologyView) (e : RunFault) (left : List Act) → IsPutFault e → IsRefused t e left
put_refused t run.Memory left h = tt
put_refused t run.Write left h = tt
put_refused t run.Disk left h = absurd h
put_refused t (run.Damaged p at) left h = absurd h
put_refused t run.Post left h = absurd h

fault_is : (T : Type 0) (e f : RunFault) → ◌≡◌ {A = Result T RunFault} (Err e) (Err f) → e ≡ f
fault_is T e f h = cc

module _ (T : Type 0) (t : TopologyView) (hosted : List ℕ) (tells : Type 0) (acts : List Act) (n m : NodeView) (o u : Outside) (x : T) (w : Went {T = T} t hosted tells acts n m o u (Ok x))
    (taken' : Option (List ℕ)) (held' : List ℕ) where
  abbrev all : List Act
  all = w.made ++ shows ∷ []

  abbrev ran : Done
  ran = all_done t hosted n w.made

  made_all : w.made ≡ acts
  made_all = sym (append-nil w.made) ∙ (ap (λ xs. w.made ++ xs) (sym w.whole) ∙ w.parts)

  node_is : m ≡ ran.node
  node_is = w.node tt w.whole

  node_after : (all_done t hosted n all).node ≡ ran.node
  unfolding all_done done
  node_after = node_behind t hosted n w.made (shows ∷ [])

  entries_after : (all_done t hosted n all).entries ≡ ran.entries
  unfolding all_done done
  entries_after = entries_behind t hosted n w.made (shows ∷ []) ∙ append-nil ran.entries

  shown_lines : shown t hosted m ≡ (all_done t hosted ran.node (shows ∷ [])).lines
  unfolding all_done done
  shown_lines = ap (shown t hosted) node_is ∙ sym (append-nil (shown t hosted ran.node))

  text_after : (o.held ++ text_of t ran.lines) ++ text_of t (shown t hosted m) ≡ o.held ++ text_of t (all_done t hosted n all).lines
  text_after = ap (λ ls. (o.held ++ text_of t ran.lines) ++ text_of t ls) shown_lines ∙ text_behind t hosted n w.made (shows ∷ []) o.held

  -- it is put
  shown_put : (y : T) → TakesBut u.taken taken' (u.held ++ text_of t (shown t hosted m)) held'
      → Ran {T = T} t hosted tells (acts ++ shows ∷ []) n m o (outside taken' held' u.journal) (Ok y)
  shown_put y b = record {
    made = all;
    left = [];
    parts = append-nil all ∙ ap (λ xs. xs ++ shows ∷ []) made_all;
    whole = refl;
    node = λ end. node_is ∙ sym node_after;
    told = λ exact. subst (λ text. TakesBut o.taken taken' text held') text_after
        (but-later o.taken u.taken taken' (o.held ++ text_of t ran.lines) (text_of t (shown t hosted m)) u.held held' (w.told tt) b);
    sent = λ exact h. w.sent tt h ∙ ap (λ xs. o.journal ++ (xs ++ [])) (sym entries_after);
    refused = λ e is. cc;
    told_front = λ unknown. absurd (unknown tt);
    sent_front = λ unknown. absurd (unknown tt);
  }

  begun_all : tells → Begins o.journal u.journal (all_done t hosted n all).entries
  begun_all h = record {
    part = ran.entries;
    rest = [];
    whole = entries_after ∙ sym (append-nil ran.entries);
    are = w.sent tt h ∙ ap (λ xs. o.journal ++ xs) (append-nil ran.entries);
  }

  -- or a front of it
  shown_cut : (e : RunFault) → IsPutFault e → TakesFront u.taken taken' (u.held ++ text_of t (shown t hosted m))
      → Ran {T = T} t hosted tells (acts ++ shows ∷ []) n m o (outside taken' held' u.journal) (Err e)
  shown_cut e put f = record {
    made = [];
    left = acts ++ shows ∷ [];
    parts = refl;
    whole = tt;
    node = λ end. absurd (put_no_end T e put end);
    told = λ exact. absurd (put_unknown T e put exact);
    sent = λ exact. absurd (put_unknown T e put exact);
    refused = λ g is. subst (λ k. IsRefused t k (acts ++ shows ∷ [])) (fault_is T e g is) (put_refused t e (acts ++ shows ∷ []) put);
    told_front = λ unknown. subst (λ xs. TakesFront o.taken taken' (o.held ++ text_of t (all_done t hosted n (xs ++ shows ∷ [])).lines)) made_all
        (subst (TakesFront o.taken taken') text_after
        (front-later o.taken u.taken taken' (o.held ++ text_of t ran.lines) (text_of t (shown t hosted m)) u.held (w.told tt) f));
    sent_front = λ unknown h. subst (λ xs. Begins o.journal u.journal (all_done t hosted n (xs ++ shows ∷ [])).entries) made_all (begun_all h);
  }

  pub ran_shown : (r : Result T RunFault) → OnOk r (TakesBut u.taken taken' (u.held ++ text_of t (shown t hosted m)) held')
      → OnErr r (TakesFront u.taken taken' (u.held ++ text_of t (shown t hosted m))) → IfErr r IsPutFault
      → Ran {T = T} t hosted tells (acts ++ shows ∷ []) n m o (outside taken' held' u.journal) r
  ran_shown (Ok y) b f put = shown_put y b
  ran_shown (Err e) b f put = shown_cut e put f

-- The run itself ended early
pub ran_failed : {T : Type 0} (t : TopologyView) (hosted : List ℕ) (tells : Type 0) (acts : List Act) (n m : NodeView) (o u : Outside) (e : RunFault)
    → ((p at : ℕ) → ◌≡◌ {A = Result T RunFault} (Err e) (Err (run.Damaged p at)) → ⊥) → Went {T = T} t hosted tells acts n m o u (Err e)
    → Ran {T = T} t hosted tells (acts ++ shows ∷ []) n m o u (Err e)
ran_failed {T} t hosted tells acts n m o u e undamaged w = record {
  made = w.made;
  left = w.left ++ shows ∷ [];
  parts = sym (append_assoc w.made w.left (shows ∷ [])) ∙ ap (λ xs. xs ++ shows ∷ []) w.parts;
  whole = tt;
  node = λ end. let is = end_is_post T e end in w.node (post_exact (fault_is T e run.Post is)) (w.given_up is);
  told = w.told;
  sent = w.sent;
  refused = λ f is. subst (λ k. IsRefused t k (w.left ++ shows ∷ [])) (fault_is T e f is) (refused_by e undamaged w.refused w.given_up);
  told_front = λ unknown. front_behind t hosted n acts (shows ∷ []) o.taken u.taken o.held w.told_front;
  sent_front = λ unknown h. begins_behind t hosted n acts (shows ∷ []) o.journal u.journal (w.sent_front unknown h);
}
  where
    post_exact : e ≡ run.Post → IsExact {T = T} (Err e)
    post_exact is = subst (λ k. IsExact {T = T} (Err k)) (sym is) tt

    first_more : (left : List Act) → FirstIs uses_disk left → FirstIs uses_disk (left ++ shows ∷ [])
    first_more [] h = absurd h
    first_more (a ∷ left) h = h

    refused_by : (f : RunFault) → ((p at : ℕ) → ◌≡◌ {A = Result T RunFault} (Err f) (Err (run.Damaged p at)) → ⊥)
        → (◌≡◌ {A = Result T RunFault} (Err f) (Err run.Disk) → FirstIs uses_disk w.left)
        → (◌≡◌ {A = Result T RunFault} (Err f) (Err run.Post) → w.left ≡ []) → IsRefused t f (w.left ++ shows ∷ [])
    refused_by run.Memory never disk post = tt
    refused_by run.Write never disk post = tt
    refused_by run.Disk never disk post = first_more w.left (disk refl)
    refused_by (run.Damaged p at) never disk post = absurd (never p at refl)
    refused_by run.Post never disk post = inr (ap (λ xs. xs ++ shows ∷ []) (post refl))

-- what holds after the run holds after what is shown
pub still_ended : {T P : Type 0} (r : Result T RunFault) → P → OnOk r P
still_ended (Ok x) h = h
still_ended (Err e) h = tt
