-- Acts that were made one after another are made as one list. What stands outside then is that of the first with what the
-- others put behind it, since the page holds back what the sink has not taken and a journal only grows
use Rattle.std.proofs.Common.{◌≡◌, ◌≢◌, ℕ, Bool, true, suc, ◌+◌, List, [], ◌∷◌, ◌++◌, length, Option, Result, Ok, Err, IfErr, OnOk, OnErr, IsOkUnless, refl, sym, ap, ap₂, ◌∙◌, subst, append_assoc, append-nil}
use Rattle.gr_frame.specs.declared.Frame.{Frame}
use Rattle.gr_frame.specs.Cut.{AreFrames}
use Rattle.gr_out.specs.declared.fault.RunFault.{RunFault}
use Rattle.gr_out.specs.declared.fault.RunFault.TheVariants as run
use Rattle.gr_out.specs.Bytes.{with_more}
use Rattle.gr_out.specs.Entry.{Entry}
use Rattle.gr_out.specs.Entry as entry
use Rattle.gr_out.specs.Page.{TakesBut, TakesFront}
use Rattle.gr_out.proofs.Fronts.{but-nothing, but-later, but-all, front-nothing, front-more, front-later, front-held, taken-whole, on_fault}
use Rattle.gr_model.specs.Broker.{Log}
use Rattle.gr_topo.specs.Topology.{TopologyView}
use Rattle.gr_model.specs.declared.report.Report.{Report}
use Rattle.gr_model.specs.Text.{labels_of, whole_line}
use Rattle.gr_model.specs.World.{sent_lines}
use Rattle.gr_model.specs.Arrivals.{Arrival, Publish}
use Rattle.gr_model.specs.Orders.{Order, fed, ordered}
use Rattle.gr_broker_relay.specs.declared.outcome.Outcome.{Outcome}
use Rattle.gr_report.specs.Named.{IsPutFault}
use Rattle.gr_node.specs.Seen.{NodeView, log_here, text_of}
use Rattle.gr_node.specs.Plan.{Call, Act, arrives, calls, answers, drops, settles, closes, entry_of, offers_of, reply_entry}
use Rattle.gr_node.specs.Done.{Done, and_then, done, all_done, call_done, at_arrival, settled}
use Rattle.gr_node.specs.Went.{Outside, outside, IsCallFault, IsTurnFault, fault_entries, uses_disk, FirstIs, Begins, Went, Makes}
use Rattle.std.proofs.lemmas.Grind.{flat_map-append}

-- Acts, and then others

-- one done, and then two, are two, and then one
and_then-twice : (d e f : Done) → and_then d (and_then e f) ≡ and_then (and_then d e) f
and_then-twice d e f =
    let make : List Report → List Entry → Done = λ lines entries. record { node = f.node; lines = lines; entries = entries } in
    ap₂ make (sym (append_assoc d.lines e.lines f.lines)) (sym (append_assoc d.entries e.entries f.entries))

-- what acts do, and then others, is what all do
pub done_append : (t : TopologyView) (hosted : List ℕ) (n : NodeView) (acts more : List Act) → all_done t hosted n (acts ++ more) ≡ and_then (all_done t hosted n acts) (all_done t hosted (all_done t hosted n acts).node more)
unfolding all_done
done_append t hosted n [] more = refl
done_append t hosted n (a ∷ acts) more =
    let d : Done = done t hosted n a in
    let e : Done = all_done t hosted d.node acts in
    ap (and_then d) (done_append t hosted d.node acts more) ∙ and_then-twice d e (all_done t hosted e.node more)

-- one act alone
pub done_one : (t : TopologyView) (hosted : List ℕ) (n : NodeView) (a : Act) → all_done t hosted n (a ∷ []) ≡ done t hosted n a
unfolding all_done
done_one t hosted n a =
    let d : Done = done t hosted n a in
    let make : List Report → List Entry → Done = λ lines entries. record { node = d.node; lines = lines; entries = entries } in
    ap₂ make (append-nil d.lines) (append-nil d.entries)

-- the node after more acts
node_behind : (t : TopologyView) (hosted : List ℕ) (n m : NodeView) (acts more : List Act) → m ≡ (all_done t hosted n acts).node → (all_done t hosted m more).node ≡ (all_done t hosted n (acts ++ more)).node
node_behind t hosted n m acts more e =
    ap (λ x. (all_done t hosted x more).node) e ∙ sym (ap (λ (d : Done). d.node) (done_append t hosted n acts more))

-- the lines of more acts stand behind
lines_behind : (t : TopologyView) (hosted : List ℕ) (n m : NodeView) (acts more : List Act) → m ≡ (all_done t hosted n acts).node → (all_done t hosted n (acts ++ more)).lines ≡ (all_done t hosted n acts).lines ++ (all_done t hosted m more).lines
lines_behind t hosted n m acts more e =
    ap (λ (d : Done). d.lines) (done_append t hosted n acts more) ∙ ap (λ x. (all_done t hosted n acts).lines ++ (all_done t hosted x more).lines) (sym e)

-- so does their text
text_behind : (t : TopologyView) (hosted : List ℕ) (n m : NodeView) (held : List ℕ) (acts more : List Act) → m ≡ (all_done t hosted n acts).node
    → (held ++ text_of t (all_done t hosted n acts).lines) ++ text_of t (all_done t hosted m more).lines ≡ held ++ text_of t (all_done t hosted n (acts ++ more)).lines
text_behind t hosted n m held acts more e =
    append_assoc held (text_of t (all_done t hosted n acts).lines) (text_of t (all_done t hosted m more).lines)
    ∙ ap (λ xs. held ++ xs) (sym (ap (text_of t) (lines_behind t hosted n m acts more e) ∙ flat_map-append (whole_line (labels_of t)) (all_done t hosted n acts).lines (all_done t hosted m more).lines))

-- and their entries
entries_behind : (t : TopologyView) (hosted : List ℕ) (n m : NodeView) (acts more : List Act) → m ≡ (all_done t hosted n acts).node → (all_done t hosted n (acts ++ more)).entries ≡ (all_done t hosted n acts).entries ++ (all_done t hosted m more).entries
entries_behind t hosted n m acts more e =
    ap (λ (d : Done). d.entries) (done_append t hosted n acts more) ∙ ap (λ x. (all_done t hosted n acts).entries ++ (all_done t hosted x more).entries) (sym e)

-- What is begun

-- more entries follow those that were put
begins_later : (old middle new first more : List Entry) → middle ≡ old ++ first → Begins middle new more → Begins old new (first ++ more)
begins_later old middle new first more e b = record {
  part = first ++ b.part;
  rest = b.rest;
  whole = ap (λ xs. first ++ xs) b.whole ∙ sym (append_assoc first b.part b.rest);
  are = b.are ∙ ap (λ xs. xs ++ b.part) e ∙ append_assoc old first b.part;
}

-- and may be told of without being put
begins_more : (old new first more : List Entry) → Begins old new first → Begins old new (first ++ more)
begins_more old new first more b = record {
  part = b.part;
  rest = b.rest ++ more;
  whole = ap (λ xs. xs ++ more) b.whole ∙ append_assoc b.part b.rest more;
  are = b.are;
}

-- nothing was put
pub begins_nothing : (old new sent : List Entry) → new ≡ old → Begins old new sent
begins_nothing old new sent e = record { part = []; rest = sent; whole = refl; are = e ∙ sym (append-nil old) }

-- all was put
begins_all : (old new sent : List Entry) → new ≡ old ++ sent → Begins old new sent
begins_all old new sent e = record { part = sent; rest = []; whole = sym (append-nil sent); are = e }

-- All acts were made
pub record MadeAll (t : TopologyView) (hosted : List ℕ) (tells : Type 0) (acts : List Act) (n n' : NodeView) (before after : Outside) : Type 0 where
  pub node : n' ≡ (all_done t hosted n acts).node
  pub told : TakesBut before.taken after.taken (before.held ++ text_of t (all_done t hosted n acts).lines) after.held
  pub sent : tells → after.journal ≡ before.journal ++ (all_done t hosted n acts).entries

-- then the answer is Ok
pub went_ok : {T : Type 0} (t : TopologyView) (hosted : List ℕ) (tells : Type 0) (acts : List Act) (n n' : NodeView) (o o' : Outside) (x : T)
    → MadeAll t hosted tells acts n n' o o' → Went {T = T} t hosted tells acts n n' o o' (Ok x)
went_ok {T} t hosted tells acts n n' o o' x m = record {
  made = acts;
  left = [];
  parts = append-nil acts;
  whole = refl;
  node = λ exact all. m.node;
  told = λ exact. m.told;
  sent = λ exact h. m.sent h ∙ ap (λ xs. o.journal ++ xs) (sym (append-nil (all_done t hosted n acts).entries));
  refused = λ e. cc;
  given_up = λ e. refl;
  told_front = tt;
  sent_front = λ no_way. absurd (no_way tt);
}

-- and where it is Ok all were made
pub all_made : {T : Type 0} (t : TopologyView) (hosted : List ℕ) (tells : Type 0) (acts : List Act) (n n' : NodeView) (o o' : Outside) (x : T)
    → Went {T = T} t hosted tells acts n n' o o' (Ok x) → MadeAll t hosted tells acts n n' o o'
all_made {T} t hosted tells acts n n' o o' x w = record {
  node = w.node tt w.whole ∙ ap (λ xs. (all_done t hosted n xs).node) made;
  told = subst (λ xs. TakesBut o.taken o'.taken (o.held ++ text_of t (all_done t hosted n xs).lines) o'.held) made (w.told tt);
  sent = λ h. w.sent tt h ∙ ap (λ xs. o.journal ++ xs) (append-nil (all_done t hosted n w.made).entries ∙ ap (λ xs. (all_done t hosted n xs).entries) made);
}
  where
    made : w.made ≡ acts
    made = sym (append-nil w.made) ∙ ap (λ xs. w.made ++ xs) (sym w.whole) ∙ w.parts

-- no acts
pub made_none : (t : TopologyView) (hosted : List ℕ) (tells : Type 0) (n n' : NodeView) (o o' : Outside) → n' ≡ n → o'.taken ≡ o.taken → o'.held ≡ o.held → o'.journal ≡ o.journal → MadeAll t hosted tells [] n n' o o'
unfolding all_done
made_none t hosted tells n n' o o' e taken held journal = record {
  node = e;
  told = subst (λ xs. TakesBut o.taken o'.taken (o.held ++ []) xs) (append-nil o.held ∙ sym held) (but-nothing o.taken o'.taken (o.held ++ []) taken);
  sent = λ h. journal ∙ sym (append-nil o.journal);
}

-- all of some, and then of others
pub made_on : (t : TopologyView) (hosted : List ℕ) (tells : Type 0) (acts more : List Act) (n m n' : NodeView) (o u o' : Outside)
    → MadeAll t hosted tells acts n m o u → MadeAll t hosted tells more m n' u o' → MadeAll t hosted tells (acts ++ more) n n' o o'
made_on t hosted tells acts more n m n' o u o' a b = record {
  node = b.node ∙ node_behind t hosted n m acts more a.node;
  told = subst (λ xs. TakesBut o.taken o'.taken xs o'.held) (text_behind t hosted n m o.held acts more a.node)
      (but-later o.taken u.taken o'.taken (o.held ++ text_of t (all_done t hosted n acts).lines) (text_of t (all_done t hosted m more).lines) u.held o'.held a.told b.told);
  sent = λ h. b.sent h ∙ ap (λ xs. xs ++ (all_done t hosted m more).entries) (a.sent h)
      ∙ append_assoc o.journal (all_done t hosted n acts).entries (all_done t hosted m more).entries
      ∙ ap (λ xs. o.journal ++ xs) (sym (entries_behind t hosted n m acts more a.node));
}

-- All of the first acts, and then as far as code went with more
pub went_on : {T : Type 0} (t : TopologyView) (hosted : List ℕ) (tells : Type 0) (acts more : List Act) (n m n' : NodeView) (o u o' : Outside) (r : Result T RunFault)
    → MadeAll t hosted tells acts n m o u → Went {T = T} t hosted tells more m n' u o' r → Went {T = T} t hosted tells (acts ++ more) n n' o o' r
went_on {T} t hosted tells acts more n m n' o u o' r a w = record {
  made = acts ++ w.made;
  left = w.left;
  parts = append_assoc acts w.made w.left ∙ ap (λ xs. acts ++ xs) w.parts;
  whole = w.whole;
  node = λ exact all. w.node exact all ∙ node_behind t hosted n m acts w.made a.node;
  told = λ exact. subst (λ xs. TakesBut o.taken o'.taken xs o'.held) (text_behind t hosted n m o.held acts w.made a.node)
      (but-later o.taken u.taken o'.taken (o.held ++ text_of t (all_done t hosted n acts).lines) (text_of t (all_done t hosted m w.made).lines) u.held o'.held a.told (w.told exact));
  sent = λ exact h. w.sent exact h ∙ ap (λ xs. xs ++ ((all_done t hosted m w.made).entries ++ fault_entries r)) (a.sent h)
      ∙ append_assoc o.journal (all_done t hosted n acts).entries ((all_done t hosted m w.made).entries ++ fault_entries r)
      ∙ ap (λ xs. o.journal ++ xs) (sym (append_assoc (all_done t hosted n acts).entries (all_done t hosted m w.made).entries (fault_entries r))
      ∙ ap (λ xs. xs ++ fault_entries r) (sym (entries_behind t hosted n m acts w.made a.node)));
  refused = w.refused;
  given_up = w.given_up;
  told_front = on_fault r (λ f. subst (TakesFront o.taken o'.taken) (text_behind t hosted n m o.held acts more a.node)
      (front-later o.taken u.taken o'.taken (o.held ++ text_of t (all_done t hosted n acts).lines) (text_of t (all_done t hosted m more).lines) u.held a.told f)) w.told_front;
  sent_front = λ unknown h. subst (Begins o.journal o'.journal) (sym (entries_behind t hosted n m acts more a.node))
      (begins_later o.journal u.journal o'.journal (all_done t hosted n acts).entries (all_done t hosted m more).entries (a.sent h) (w.sent_front unknown h));
}

-- the first of a list that has one has one behind it
first_more : (test : Act → Bool) (acts more : List Act) → FirstIs test acts → FirstIs test (acts ++ more)
first_more test [] more h = absurd h
first_more test (a ∷ acts) more h = h

-- nothing and something is not nothing
none_first : (acts more : List Act) → acts ++ more ≡ [] → acts ≡ []
none_first [] more e = refl
none_first (a ∷ acts) more e = cc

-- A call that ended early stands for a longer list of acts, where the post did not fail
pub went_cut : {T : Type 0} (t : TopologyView) (hosted : List ℕ) (tells : Type 0) (acts more : List Act) (n n' : NodeView) (o o' : Outside) (e : RunFault)
    → e ≢ run.Post → Went {T = T} t hosted tells acts n n' o o' (Err e) → Went {T = T} t hosted tells (acts ++ more) n n' o o' (Err e)
went_cut {T} t hosted tells acts more n n' o o' e other w = record {
  made = w.made;
  left = w.left ++ more;
  parts = sym (append_assoc w.made w.left more) ∙ ap (λ xs. xs ++ more) w.parts;
  whole = tt;
  node = λ exact all. w.node exact (none_first w.left more all);
  told = w.told;
  sent = w.sent;
  refused = λ is. first_more uses_disk w.left more (w.refused is);
  given_up = λ is. absurd (other (same_err is));
  told_front = subst (TakesFront o.taken o'.taken) (text_behind t hosted n (all_done t hosted n acts).node o.held acts more refl)
      (front-more o.taken o'.taken (o.held ++ text_of t (all_done t hosted n acts).lines) (text_of t (all_done t hosted (all_done t hosted n acts).node more).lines) w.told_front);
  sent_front = λ unknown h. subst (Begins o.journal o'.journal) (sym (entries_behind t hosted n (all_done t hosted n acts).node acts more refl))
      (begins_more o.journal o'.journal (all_done t hosted n acts).entries (all_done t hosted (all_done t hosted n acts).node more).entries (w.sent_front unknown h));
}
  where
    same_err : ◌≡◌ {A = Result T RunFault} (Err e) (Err run.Post) → e ≡ run.Post
    same_err h = cc

-- a fault of a turn is none of the post
pub turn_not_post : (e : RunFault) → IsTurnFault e → e ≢ run.Post
turn_not_post e h is = subst IsTurnFault is h

-- What is said of a fault does not depend on what was to be answered
pub went_as : {T U : Type 0} (t : TopologyView) (hosted : List ℕ) (tells : Type 0) (acts : List Act) (n n' : NodeView) (o o' : Outside) (e : RunFault)
    → Went {T = T} t hosted tells acts n n' o o' (Err e) → Went {T = U} t hosted tells acts n n' o o' (Err e)
went_as t hosted tells acts n n' o o' run.Memory w = record { made = w.made; left = w.left; parts = w.parts; whole = tt; node = w.node; told = w.told; sent = w.sent; refused = λ is. cc; given_up = λ is. cc; told_front = w.told_front; sent_front = w.sent_front }
went_as t hosted tells acts n n' o o' run.Write w = record { made = w.made; left = w.left; parts = w.parts; whole = tt; node = w.node; told = w.told; sent = w.sent; refused = λ is. cc; given_up = λ is. cc; told_front = w.told_front; sent_front = w.sent_front }
went_as t hosted tells acts n n' o o' run.Disk w = record { made = w.made; left = w.left; parts = w.parts; whole = tt; node = w.node; told = w.told; sent = w.sent; refused = λ is. w.refused refl; given_up = λ is. cc; told_front = w.told_front; sent_front = w.sent_front }
went_as t hosted tells acts n n' o o' (run.Damaged p at) w = record { made = w.made; left = w.left; parts = w.parts; whole = tt; node = w.node; told = w.told; sent = w.sent; refused = λ is. cc; given_up = λ is. cc; told_front = w.told_front; sent_front = w.sent_front }
went_as t hosted tells acts n n' o o' run.Post w = record { made = w.made; left = w.left; parts = w.parts; whole = tt; node = w.node; told = w.told; sent = w.sent; refused = λ is. cc; given_up = λ is. w.given_up refl; told_front = w.told_front; sent_front = w.sent_front }

-- A call that ended early

-- for want of memory, or since the sink failed: a front of what the acts tell was taken, and a front of what they put there
pub went_front : {T : Type 0} (t : TopologyView) (hosted : List ℕ) (tells : Type 0) (acts : List Act) (n n' : NodeView) (o o' : Outside) (e : RunFault) → IsPutFault e
    → TakesFront o.taken o'.taken (o.held ++ text_of t (all_done t hosted n acts).lines) → (tells → Begins o.journal o'.journal (all_done t hosted n acts).entries)
    → Went {T = T} t hosted tells acts n n' o o' (Err e)
went_front t hosted tells acts n n' o o' run.Memory why front begins = record {
  made = [];
  left = acts;
  parts = refl;
  whole = tt;
  node = λ exact. absurd exact;
  told = λ exact. absurd exact;
  sent = λ exact. absurd exact;
  refused = λ is. cc;
  given_up = λ is. cc;
  told_front = front;
  sent_front = λ unknown. begins;
}
went_front t hosted tells acts n n' o o' run.Write why front begins = record {
  made = [];
  left = acts;
  parts = refl;
  whole = tt;
  node = λ exact. absurd exact;
  told = λ exact. absurd exact;
  sent = λ exact. absurd exact;
  refused = λ is. cc;
  given_up = λ is. cc;
  told_front = front;
  sent_front = λ unknown. begins;
}
went_front t hosted tells acts n n' o o' run.Disk why front begins = absurd why
went_front t hosted tells acts n n' o o' (run.Damaged p at) why front begins = absurd why
went_front t hosted tells acts n n' o o' run.Post why front begins = absurd why

-- for want of memory, with nothing done
pub went_memory : {T : Type 0} (t : TopologyView) (hosted : List ℕ) (tells : Type 0) (acts : List Act) (n : NodeView) (o : Outside) (e : RunFault) → e ≡ run.Memory → Went {T = T} t hosted tells acts n n o o (Err e)
went_memory {T} t hosted tells acts n o e is =
    subst (λ (f : RunFault). Went {T = T} t hosted tells acts n n o o (Err f)) (sym is)
    (went_front t hosted tells acts n n o o run.Memory tt (front-nothing o.taken o.taken _ refl) (λ h. begins_nothing o.journal o.journal _ refl))

-- The first act was refused: its broker, or the disk, had no memory, or the disk failed. Nothing outside has changed
pub went_refused : {T : Type 0} (t : TopologyView) (hosted : List ℕ) (tells : Type 0) (a : Act) (acts : List Act) (n n' : NodeView) (o : Outside) (e : RunFault) → IsCallFault e → (e ≡ run.Disk → uses_disk a ≡ true)
    → Went {T = T} t hosted tells (a ∷ acts) n n' o o (Err e)
unfolding all_done
went_refused t hosted tells a acts n n' o run.Memory why uses =
    went_front t hosted tells (a ∷ acts) n n' o o run.Memory tt (front-nothing o.taken o.taken (o.held ++ text_of t (all_done t hosted n (a ∷ acts)).lines) refl) (λ h. begins_nothing o.journal o.journal (all_done t hosted n (a ∷ acts)).entries refl)
went_refused t hosted tells a acts n n' o run.Disk why uses = record {
  made = [];
  left = a ∷ acts;
  parts = refl;
  whole = tt;
  node = λ exact all. cc;
  told = λ exact. subst (TakesBut o.taken o.taken (o.held ++ [])) (append-nil o.held) (but-nothing o.taken o.taken (o.held ++ []) refl);
  sent = λ exact h. sym (append-nil o.journal);
  refused = λ is. uses refl;
  given_up = λ is. cc;
  told_front = front-nothing o.taken o.taken (o.held ++ text_of t (all_done t hosted n (a ∷ acts)).lines) refl;
  sent_front = λ unknown. absurd (unknown tt);
}
went_refused t hosted tells a acts n n' o run.Write why uses = absurd why
went_refused t hosted tells a acts n n' o (run.Damaged p at) why uses = absurd why
went_refused t hosted tells a acts n n' o run.Post why uses = absurd why

-- The post failed: all acts were made, and the failure stands behind what they put there
pub went_failed : {T : Type 0} (t : TopologyView) (hosted : List ℕ) (tells : Type 0) (n n' : NodeView) (o o' : Outside) → n' ≡ n → o'.taken ≡ o.taken → o'.held ≡ o.held
    → (tells → o'.journal ≡ o.journal ++ entry.failed ∷ []) → Went {T = T} t hosted tells [] n n' o o' (Err run.Post)
unfolding all_done
went_failed t hosted tells n n' o o' e taken held journal = record {
  made = [];
  left = [];
  parts = refl;
  whole = tt;
  node = λ exact all. e;
  told = λ exact. subst (λ xs. TakesBut o.taken o'.taken (o.held ++ []) xs) (append-nil o.held ∙ sym held) (but-nothing o.taken o'.taken (o.held ++ []) taken);
  sent = λ exact. journal;
  refused = λ is. cc;
  given_up = λ is. refl;
  told_front = front-nothing o.taken o'.taken (o.held ++ []) taken;
  sent_front = λ unknown. absurd (unknown tt);
}

-- An act

-- something arrives: its entry stands behind those before, and where it is ours the clock moves
pub made_arrives : (t : TopologyView) (hosted : List ℕ) (tells : Type 0) (a : Arrival) (n n' : NodeView) (o o' : Outside) → n' ≡ at_arrival hosted n a → o'.taken ≡ o.taken → o'.held ≡ o.held
    → (tells → o'.journal ≡ o.journal ++ entry_of a ∷ []) → MadeAll t hosted tells (arrives a ∷ []) n n' o o'
unfolding all_done done
made_arrives t hosted tells a n n' o o' e taken held journal = record {
  node = e;
  told = subst (λ xs. TakesBut o.taken o'.taken (o.held ++ []) xs) (append-nil o.held ∙ sym held) (but-nothing o.taken o'.taken (o.held ++ []) taken);
  sent = journal;
}

-- nothing comes any more
pub made_closes : (t : TopologyView) (hosted : List ℕ) (tells : Type 0) (n n' : NodeView) (o o' : Outside) → n' ≡ n → o'.taken ≡ o.taken → o'.held ≡ o.held
    → (tells → o'.journal ≡ o.journal ++ entry.closed ∷ []) → MadeAll t hosted tells (closes ∷ []) n n' o o'
unfolding all_done done
made_closes t hosted tells n n' o o' e taken held journal = record {
  node = e;
  told = subst (λ xs. TakesBut o.taken o'.taken (o.held ++ []) xs) (append-nil o.held ∙ sym held) (but-nothing o.taken o'.taken (o.held ++ []) taken);
  sent = journal;
}

-- what was submitted is answered
pub went_answers : {T : Type 0} (t : TopologyView) (hosted : List ℕ) (tells : Type 0) (x : Publish) (n : NodeView) (taken : Option (List ℕ)) (held : List ℕ) (before after : List Entry) (r : Result T RunFault)
    → (tells → OnOk r (after ≡ before ++ reply_entry t (let l : Log = log_here t n x.0 in l.last) x ∷ [])) → (tells → OnErr r (after ≡ before)) → IsOkUnless r run.Memory
    → Went {T = T} t hosted tells (answers x ∷ []) n n (outside taken held before) (outside taken held after) r
unfolding all_done done
went_answers t hosted tells x n taken held before after (Ok y) sent unsent cause = went_ok t hosted tells (answers x ∷ []) n n (outside taken held before) (outside taken held after) y (record {
  node = refl;
  told = subst (λ xs. TakesBut taken taken (held ++ []) xs) (append-nil held) (but-nothing taken taken (held ++ []) refl);
  sent = sent;
})
went_answers {T} t hosted tells x n taken held before after (Err e) sent unsent cause =
    subst (λ (f : RunFault). Went {T = T} t hosted tells (answers x ∷ []) n n (outside taken held before) (outside taken held after) (Err f)) (sym cause)
    (went_front t hosted tells (answers x ∷ []) n n (outside taken held before) (outside taken held after) run.Memory tt
    (front-nothing taken taken (held ++ []) refl) (λ h. begins_nothing before after _ (unsent h)))

-- an answer ends early for want of memory alone
pub answer_fault : {T : Type 0} (r : Result T RunFault) → IsOkUnless r run.Memory → IfErr r IsTurnFault
answer_fault (Ok x) h = tt
answer_fault (Err e) h = subst IsTurnFault (sym h) tt

-- and a line that could not be put is one of a turn
pub put_fault : {T : Type 0} (r : Result T RunFault) → IfErr r IsPutFault → IfErr r IsTurnFault
put_fault (Ok x) h = tt
put_fault (Err run.Memory) h = tt
put_fault (Err run.Write) h = tt
put_fault (Err run.Disk) h = absurd h
put_fault (Err run.Post) h = absurd h
put_fault (Err (run.Damaged p at)) h = absurd h

-- a note is dropped with its line
pub went_dropped : {T : Type 0} (t : TopologyView) (hosted : List ℕ) (tells : Type 0) (l : Report) (n : NodeView) (taken taken' : Option (List ℕ)) (held held' : List ℕ) (journal : List Entry) (r : Result T RunFault)
    → OnOk r (TakesBut taken taken' (held ++ whole_line (labels_of t) l) held') → OnErr r (TakesFront taken taken' (held ++ whole_line (labels_of t) l)) → IfErr r IsPutFault
    → Went {T = T} t hosted tells (drops l ∷ []) n n (outside taken held journal) (outside taken' held' journal) r
unfolding all_done done
went_dropped t hosted tells l n taken taken' held held' journal (Ok x) told front cause = went_ok t hosted tells (drops l ∷ []) n n (outside taken held journal) (outside taken' held' journal) x (record {
  node = refl;
  told = subst (λ xs. TakesBut taken taken' (held ++ xs) held') (sym (append-nil (whole_line (labels_of t) l))) told;
  sent = λ h. sym (append-nil journal);
})
went_dropped t hosted tells l n taken taken' held held' journal (Err e) told front cause =
    went_front t hosted tells (drops l ∷ []) n n (outside taken held journal) (outside taken' held' journal) e cause
    (subst (λ xs. TakesFront taken taken' (held ++ xs)) (sym (append-nil (whole_line (labels_of t) l))) front) (λ h. begins_nothing journal journal _ refl)

-- so many frames as there are bytes of frames
frames_count : (bytes : List (List ℕ)) (frames : List Frame) → AreFrames bytes frames → length bytes ≡ length frames
frames_count [] [] a = refl
frames_count (b ∷ bytes) (f ∷ frames) a = ap suc (frames_count bytes frames a.1)
frames_count [] (f ∷ frames) a = absurd a
frames_count (b ∷ bytes) [] a = absurd a

-- what telling an outcome leaves outside
pub record Telling {T : Type 0} (t : TopologyView) (tells : Type 0) (told : Outcome) (offers offers' : ℕ) (orders orders' : List Order) (o o' : Outside) (r : Result T RunFault) : Type 0 where
  pub told_all : (fs : List Frame) → AreFrames told.frames.frames fs → OnOk r (TakesBut o.taken o'.taken (o.held ++ text_of t (told.reports ++ sent_lines (suc offers) fs)) o'.held)
  pub front : (fs : List Frame) → AreFrames told.frames.frames fs → OnErr r (TakesFront o.taken o'.taken (o.held ++ text_of t (told.reports ++ sent_lines (suc offers) fs)))
  pub sent : tells → (fs : List Frame) → AreFrames told.frames.frames fs → OnOk r (o'.journal ≡ o.journal ++ offers_of fs)
  pub sent_front : tells → (fs : List Frame) → AreFrames told.frames.frames fs → OnErr r (Begins o.journal o'.journal (offers_of fs))
  pub count : OnOk r (offers' ≡ offers + length told.frames.frames)
  pub heard : OnOk r (orders' ≡ fed orders told.reports)
  pub cause : IfErr r IsPutFault

-- the act of a call, by what it does
pub call_is : (t : TopologyView) (hosted : List ℕ) (n : NodeView) (c : Call) → all_done t hosted n (calls c ∷ []) ≡ call_done t n c
unfolding done
call_is t hosted n c = done_one t hosted n (calls c)

-- A call was made, and its outcome told: the act of the call
pub went_call : {T : Type 0} (t : TopologyView) (hosted : List ℕ) (tells : Type 0) (c : Call) (n n₁ : NodeView) (told : Outcome) (offers' : ℕ) (orders' : List Order) (o o' : Outside) (r : Result T RunFault)
    → Makes t n c n₁ told → Telling {T = T} t tells told n₁.offers offers' n₁.orders orders' o o' r
    → Went {T = T} t hosted tells (calls c ∷ []) n (record { brokers = n₁.brokers; offers = offers'; now = n₁.now; orders = orders' }) o o' r
went_call {T} t hosted tells c n n₁ told offers' orders' o o' (Ok x) m g = went_ok t hosted tells (calls c ∷ []) n _ o o' x (record {
  node = ap₂ (λ offers now. node_with offers now orders') (g.count ∙ ap₂ (λ k j. k + j) m.offers (frames_count told.frames.frames m.frames m.spelled)) m.now
      ∙ ap (node_with (n.offers + length m.frames) n.now) (g.heard ∙ ap (λ os. fed os told.reports) m.orders) ∙ sym (ap (λ (d : Done). d.node) is);
  told = subst (λ lines. TakesBut o.taken o'.taken (o.held ++ text_of t lines) o'.held) (first_lines ∙ sym (ap (λ (d : Done). d.lines) is)) (g.told_all m.frames m.spelled);
  sent = λ h. g.sent h m.frames m.spelled ∙ ap (λ xs. o.journal ++ xs) (sym (ap (λ (d : Done). d.entries) is));
})
  where
    node_with : ℕ → ℕ → List Order → NodeView
    node_with offers now os = record { brokers = n₁.brokers; offers = offers; now = now; orders = os }

    is : all_done t hosted n (calls c ∷ []) ≡ record { node = record { brokers = n₁.brokers; offers = n.offers + length m.frames; now = n.now; orders = fed n.orders told.reports }; lines = told.reports ++ sent_lines (suc n.offers) m.frames; entries = offers_of m.frames }
    is = call_is t hosted n c ∙ m.done

    first_lines : told.reports ++ sent_lines (suc n₁.offers) m.frames ≡ told.reports ++ sent_lines (suc n.offers) m.frames
    first_lines = ap (λ k. told.reports ++ sent_lines (suc k) m.frames) m.offers
went_call {T} t hosted tells c n n₁ told offers' orders' o o' (Err e) m g = went_front t hosted tells (calls c ∷ []) n _ o o' e g.cause
    (subst (λ lines. TakesFront o.taken o'.taken (o.held ++ text_of t lines)) (first_lines ∙ sym (ap (λ (d : Done). d.lines) is)) (g.front m.frames m.spelled))
    (λ h. subst (Begins o.journal o'.journal) (sym (ap (λ (d : Done). d.entries) is)) (g.sent_front h m.frames m.spelled))
  where
    is : all_done t hosted n (calls c ∷ []) ≡ record { node = record { brokers = n₁.brokers; offers = n.offers + length m.frames; now = n.now; orders = fed n.orders told.reports }; lines = told.reports ++ sent_lines (suc n.offers) m.frames; entries = offers_of m.frames }
    is = call_is t hosted n c ∙ m.done

    first_lines : told.reports ++ sent_lines (suc n₁.offers) m.frames ≡ told.reports ++ sent_lines (suc n.offers) m.frames
    first_lines = ap (λ k. told.reports ++ sent_lines (suc k) m.frames) m.offers

-- The page is written

-- all that was told is taken then
pub made_flushed : (t : TopologyView) (hosted : List ℕ) (tells : Type 0) (acts : List Act) (n n' : NodeView) (o : Outside) (taken taken' : Option (List ℕ)) (held : List ℕ) (journal : List Entry)
    → MadeAll t hosted tells acts n n' o (outside taken held journal) → taken' ≡ with_more taken held → MadeAll t hosted tells acts n n' o (outside taken' [] journal)
made_flushed t hosted tells acts n n' o taken taken' held journal m e = record {
  node = m.node;
  told = but-all o.taken taken' (o.held ++ text_of t (all_done t hosted n acts).lines) (taken-whole o.taken taken taken' (o.held ++ text_of t (all_done t hosted n acts).lines) held m.told e);
  sent = m.sent;
}

-- or a front of it
pub went_unwritten : {T : Type 0} (t : TopologyView) (hosted : List ℕ) (tells : Type 0) (acts : List Act) (n n' : NodeView) (o : Outside) (taken taken' : Option (List ℕ)) (held held' : List ℕ) (journal : List Entry)
    → MadeAll t hosted tells acts n n' o (outside taken held journal) → TakesFront taken taken' held → Went {T = T} t hosted tells acts n n' o (outside taken' held' journal) (Err run.Write)
went_unwritten t hosted tells acts n n' o taken taken' held held' journal m f =
    went_front t hosted tells acts n n' o (outside taken' held' journal) run.Write tt
    (front-held o.taken taken taken' (o.held ++ text_of t (all_done t hosted n acts).lines) held m.told f)
    (λ h. begins_all o.journal journal (all_done t hosted n acts).entries (m.sent h))

-- What is ready in one order is told behind acts that were all made, and the page is written

settles_alone : (t : TopologyView) (hosted : List ℕ) (n : NodeView) → all_done t hosted n (settles ∷ []) ≡ record { node = settled n; lines = ordered n.orders; entries = [] }
unfolding done
settles_alone t hosted n = done_one t hosted n settles

-- all of it is taken
pub made_settles : (t : TopologyView) (hosted : List ℕ) (tells : Type 0) (n n' : NodeView) (taken taken' : Option (List ℕ)) (held held' : List ℕ) (journal : List Entry)
    → n' ≡ settled n → taken' ≡ with_more taken (held ++ text_of t (ordered n.orders)) → held' ≡ []
    → MadeAll t hosted tells (settles ∷ []) n n' (outside taken held journal) (outside taken' held' journal)
made_settles t hosted tells n n' taken taken' held held' journal e all empty = record {
  node = e ∙ sym (ap (λ (d : Done). d.node) is);
  told = subst (λ xs. TakesBut taken taken' (held ++ text_of t xs) held') (sym (ap (λ (d : Done). d.lines) is))
      (subst (λ xs. TakesBut taken taken' (held ++ text_of t (ordered n.orders)) xs) (sym empty) (but-all taken taken' (held ++ text_of t (ordered n.orders)) all));
  sent = λ h. sym (append-nil journal) ∙ ap (λ xs. journal ++ xs) (sym (ap (λ (d : Done). d.entries) is));
}
  where
    is : all_done t hosted n (settles ∷ []) ≡ record { node = settled n; lines = ordered n.orders; entries = [] }
    is = settles_alone t hosted n

-- or a front of it
pub went_settles : {T : Type 0} (t : TopologyView) (hosted : List ℕ) (tells : Type 0) (n n' : NodeView) (taken taken' : Option (List ℕ)) (held held' : List ℕ) (journal : List Entry) (e : RunFault)
    → IsPutFault e → TakesFront taken taken' (held ++ text_of t (ordered n.orders)) → Went {T = T} t hosted tells (settles ∷ []) n n' (outside taken held journal) (outside taken' held' journal) (Err e)
went_settles t hosted tells n n' taken taken' held held' journal e why front =
    went_front t hosted tells (settles ∷ []) n n' (outside taken held journal) (outside taken' held' journal) e why
    (subst (λ xs. TakesFront taken taken' (held ++ text_of t xs)) (sym (ap (λ (d : Done). d.lines) (settles_alone t hosted n))) front)
    (λ h. begins_nothing journal journal _ refl)

pub went_settled : {T : Type 0} (t : TopologyView) (hosted : List ℕ) (tells : Type 0) (acts : List Act) (n m n' : NodeView) (o : Outside) (taken taken' : Option (List ℕ)) (held held' : List ℕ) (journal : List Entry) (r : Result T RunFault)
    → MadeAll t hosted tells acts n m o (outside taken held journal) → OnOk r (n' ≡ settled m) → OnOk r (taken' ≡ with_more taken (held ++ text_of t (ordered m.orders))) → OnOk r (held' ≡ [])
    → OnErr r (TakesFront taken taken' (held ++ text_of t (ordered m.orders))) → IfErr r IsPutFault
    → Went {T = T} t hosted tells (acts ++ settles ∷ []) n n' o (outside taken' held' journal) r
went_settled {T} t hosted tells acts n m n' o taken taken' held held' journal (Ok x) a e all empty front why =
    went_ok t hosted tells (acts ++ settles ∷ []) n n' o (outside taken' held' journal) x
    (made_on t hosted tells acts (settles ∷ []) n m n' o (outside taken held journal) (outside taken' held' journal) a
    (made_settles t hosted tells m n' taken taken' held held' journal e all empty))
went_settled {T} t hosted tells acts n m n' o taken taken' held held' journal (Err f) a e all empty front why =
    went_on t hosted tells acts (settles ∷ []) n m n' o (outside taken held journal) (outside taken' held' journal) (Err f) a
    (went_settles t hosted tells m n' taken taken' held held' journal f why front)
