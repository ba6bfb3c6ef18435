-- How the lines of a call lead from what is stored of a log before it to what is stored of it afterwards, and that they tell exactly where it was written anew
use Rattle.std.proofs.Common.{◌≡◌, ◌≢◌, inl, inr, ℕ, suc, ◌+◌, ◌≤◌, ◌<◌, Bool, true, false, not, List, [], ◌∷◌, ◌++◌, length, set, get_or, refl, sym, ap, ap₂, ◌∙◌, subst, arith, append_assoc}
use Rattle.std.specs.Prelude.{nat_lt, if◌then◌else◌, filter}
use Rattle.std.proofs.lemmas.Bool.{cases_eq, eq-eqb, ne_eqb, lt-ltb, le-ltb, leb-true}
use Rattle.std.proofs.lemmas.List.{get_or-set_other, get_or-set_same}
use Rattle.std.proofs.lemmas.List.Elements.{filter-append}
use Rattle.gr_event.specs.declared.event.Event.{Event}
use Rattle.gr_event.specs.Joins.{Joins}
use Rattle.gr_frame.specs.declared.Body.{Body}
use Rattle.gr_frame.specs.declared.Body.TheVariants as body
use Rattle.gr_frame.specs.declared.Frame.{Frame}
use Rattle.gr_model.specs.declared.report.Report.{Report}
use Rattle.gr_model.specs.declared.report.Report.TheVariants as line
use Rattle.gr_sched.specs.declared.step.Line.{Line}
use Rattle.gr_sched.specs.declared.step.Step.{Step}
use Rattle.gr_sched.specs.declared.step.Step.TheVariants as step
use Rattle.gr_model.specs.Net.{Net, with_wants, is_host}
use Rattle.gr_model.specs.Broker.{View, Log, Outcome, empty_log, marking, cutting, cutting_lines, wake, wake_host, wake_below, asking, receive, silence, with_mark, with_cut, past, reclaims, filled_log, size_filled}
use Rattle.gr_model.specs.World.{World, Transition, view_of, log_of, absorbed, unchanged, followed_by, sent_line, sent_lines, wake_for_by, deliver_frame_by}
use Rattle.gr_model_calls.specs.OneNet.{wake_for, deliver_frame}
use Rattle.gr_model.specs.Headline.{Recorded, Stored, Standing, History, record_of, stored_by, stored_past, stored_told, stored_after, is_reclaimed_line, reclaimed_behind, with_reclaimed_from}
use Rattle.gr_model.specs.Opening.{stored_now}
use Rattle.gr_model_calls.specs.Fits.{WorldFits, FrameTrue}
use Rattle.gr_model_calls.proofs.calls.Calls.{learn_log, marking_forgets}
use Rattle.gr_model_calls.proofs.calls.Cutting.{cut_at, cutting_cases}
use Rattle.gr_model_calls.proofs.calls.HostCases.{marking_cases}
use Rattle.gr_model_calls.proofs.runs.Chains.{Chains}
use Rattle.gr_model_theorems.proofs.records.Records.{receive_log}
use Rattle.gr_model_theorems.proofs.records.RecordLines.{Skips, receive_none, marking_none}

-- of a log: the tick up to which it is settled, and what is stored
abbrev pub standing_now : Log → Standing
standing_now log = (log.settled, stored_now log)

-- Lines

-- a line of a mark or a cut, or that a log was written anew
abbrev pub touches : Report → Bool
touches (line.Mark q t) = true
touches (line.Cut q t) = true
touches (line.Reclaimed q generation) = true
touches _ = false

pub touches_skip : Skips touches
touches_skip = record { got = λ s p t e. refl; horizon = λ s p t. refl }

-- the lines without those that say that a log was written anew
abbrev pub plain : List Report → List Report
plain ls = filter (λ x. not (is_reclaimed_line x)) ls

has_none : (l : Report) (ls : List Report) → l ∷ ls ≡ [] → ⊥
has_none l ls e = cc

-- lines without such a line leave what is stored
pub untouched_past : (net : Net) (q : ℕ) (r : Recorded) (x : Standing) (ls : List Report) → filter touches ls ≡ [] → stored_past net q r x ls ≡ x
untouched_past net q r x [] e = refl
untouched_past net q r x (line.Mark p t ∷ ls) e = absurd (has_none (line.Mark p t) (filter touches ls) e)
untouched_past net q r x (line.Cut p t ∷ ls) e = absurd (has_none (line.Cut p t) (filter touches ls) e)
untouched_past net q r x (line.Reclaimed p g ∷ ls) e = absurd (has_none (line.Reclaimed p g) (filter touches ls) e)
untouched_past net q r x (l ∷ ls) e = untouched_past net q r x ls e

untouched_plain : (ls : List Report) → filter touches ls ≡ [] → plain ls ≡ ls
untouched_plain [] e = refl
untouched_plain (line.Mark p t ∷ ls) e = absurd (has_none (line.Mark p t) (filter touches ls) e)
untouched_plain (line.Cut p t ∷ ls) e = absurd (has_none (line.Cut p t) (filter touches ls) e)
untouched_plain (line.Reclaimed p g ∷ ls) e = absurd (has_none (line.Reclaimed p g) (filter touches ls) e)
untouched_plain (l ∷ ls) e = ap (λ (z : List Report). l ∷ z) (untouched_plain ls e)

untouched_behind : (net : Net) (records : ℕ → Recorded) (at : ℕ → Standing) (ls : List Report) → filter touches ls ≡ [] → with_reclaimed_from net records at ls ≡ ls
untouched_behind net records at [] e = refl
untouched_behind net records at (line.Mark p t ∷ ls) e = absurd (has_none (line.Mark p t) (filter touches ls) e)
untouched_behind net records at (line.Cut p t ∷ ls) e = absurd (has_none (line.Cut p t) (filter touches ls) e)
untouched_behind net records at (line.Reclaimed p g ∷ ls) e = absurd (has_none (line.Reclaimed p g) (filter touches ls) e)
untouched_behind net records at (l ∷ ls) e = ap (λ (z : List Report). l ∷ z) (untouched_behind net records at ls e)

-- and nothing is told behind one of them, wherever the logs stand
pub untouched_told : (net : Net) (records : ℕ → Recorded) (at : ℕ → Standing) (ls : List Report) → filter touches ls ≡ [] → with_reclaimed_from net records at (plain ls) ≡ ls
untouched_told net records at ls e = ap (with_reclaimed_from net records at) (untouched_plain ls e) ∙ untouched_behind net records at ls e

-- two lists of lines, the second from what is stored after the first
past_append : (net : Net) (q : ℕ) (r : Recorded) (x : Standing) (xs ys : List Report) → stored_past net q r x (xs ++ ys) ≡ stored_past net q r (stored_past net q r x xs) ys
past_append net q r x [] ys = refl
past_append net q r x (l ∷ xs) ys = past_append net q r (stored_by net q r x l) xs ys

-- the lines that say that a log was written anew change nothing
plain_past : (net : Net) (q : ℕ) (r : Recorded) (x : Standing) (ls : List Report) → stored_past net q r x (plain ls) ≡ stored_past net q r x ls
plain_past net q r x [] = refl
plain_past net q r x (line.Reclaimed p g ∷ ls) = plain_past net q r x ls
plain_past net q r x (l ∷ ls) = plain_past net q r (stored_by net q r x l) ls

behind_append : (net : Net) (records : ℕ → Recorded) (at : ℕ → Standing) (xs ys : List Report) → with_reclaimed_from net records at (xs ++ ys) ≡ with_reclaimed_from net records at xs ++ with_reclaimed_from net records (λ q. stored_past net q (records q) (at q) xs) ys
behind_append net records at [] ys = refl
behind_append net records at (l ∷ xs) ys =
    let next : ℕ → Standing = λ q. stored_by net q (records q) (at q) l in
    ap (λ (z : List Report). l ∷ z)
    (ap (λ (z : List Report). reclaimed_behind net at l ++ z) (behind_append net records next xs ys)
    ∙ sym (append_assoc (reclaimed_behind net at l) (with_reclaimed_from net records next xs) (with_reclaimed_from net records (λ q. stored_past net q (records q) (next q) xs) ys)))

-- One log

-- Lines lead from a log of p to a log with the same events and joins: what is stored of it is what the lines make of it, they leave what is stored of all others, and say where it was written anew.
pub record Leads (net : Net) (p : ℕ) (log : Log) (ls : List Report) (new : Log) : Type 0 where
  pub events : new.events ≡ log.events
  pub joins : new.joins ≡ log.joins
  pub here : (r : Recorded) → r.events ≡ log.events → r.joined ≡ log.joins → stored_past net p r (standing_now log) ls ≡ standing_now new
  pub others : (q : ℕ) → q ≢ p → (r : Recorded) (x : Standing) → stored_past net q r x ls ≡ x
  pub told : (records : ℕ → Recorded) (at : ℕ → Standing) → (records p).events ≡ log.events → (records p).joined ≡ log.joins → at p ≡ standing_now log → with_reclaimed_from net records at (plain ls) ≡ ls

untouched_leads : (net : Net) (p : ℕ) (log new : Log) (ls : List Report) → filter touches ls ≡ [] → new ≡ log → Leads net p log ls new
untouched_leads net p log new ls h e = record {
  events = ap (λ (l : Log). l.events) e;
  joins = ap (λ (l : Log). l.joins) e;
  here = λ r x y. untouched_past net p r (standing_now log) ls h ∙ ap standing_now (sym e);
  others = λ q n r x. untouched_past net q r x ls h;
  told = λ records at x y z. untouched_told net records at ls h;
}

leads_after : (net : Net) (p : ℕ) (log mid new : Log) (xs ys : List Report) → Leads net p log xs mid → Leads net p mid ys new → Leads net p log (xs ++ ys) new
leads_after net p log mid new xs ys a b = record {
  events = b.events ∙ a.events;
  joins = b.joins ∙ a.joins;
  here = λ r x y. past_append net p r (standing_now log) xs ys ∙ (ap (λ (z : Standing). stored_past net p r z ys) (a.here r x y) ∙ b.here r (x ∙ sym a.events) (y ∙ sym a.joins));
  others = λ q n r x. past_append net q r x xs ys ∙ (ap (λ (z : Standing). stored_past net q r z ys) (a.others q n r x) ∙ b.others q n r x);
  told = λ records at x y z.
      let later : ℕ → Standing = λ q. stored_past net q (records q) (at q) (plain xs) in
      let now : later p ≡ standing_now mid = plain_past net p (records p) (at p) xs ∙ (ap (λ (s : Standing). stored_past net p (records p) s xs) z ∙ a.here (records p) x y) in
      ap (with_reclaimed_from net records at) (filter-append (λ l. not (is_reclaimed_line l)) xs ys)
      ∙ (behind_append net records at (plain xs) (plain ys)
      ∙ ap₂ (λ (c d : List Report). c ++ d) (a.told records at x y z) (b.told records later (x ∙ sym a.events) (y ∙ sym a.joins) now));
}

-- a mark
mark_leads : (net : Net) (p now : ℕ) (log : Log) → Leads net p log (line.Mark p now ∷ []) (with_mark log now)
mark_leads net p now log = record {
  events = refl;
  joins = refl;
  here = λ r x y. rw (eq-eqb p p refl) refl;
  others = λ q n r x. rw (ne_eqb p q (λ e. n (sym e))) refl;
  told = λ records at x y z. refl;
}

marking_leads : (net : Net) (p b now : ℕ) (v : View) (log : Log) → 1 ≤ net.quiet → (let o : Outcome = marking net p b now v log in Leads net p log (if nat_lt log.settled o.log.settled then line.Mark p now ∷ [] else []) o.log)
marking_leads net p b now v log z =
    marking_cases net p b now v log (λ o. Leads net p log (if nat_lt log.settled o.log.settled then line.Mark p now ∷ [] else []) o.log)
    (λ e.
    subst (λ (l : Log). Leads net p log (if nat_lt log.settled l.settled then line.Mark p now ∷ [] else []) l) (sym (learn_log net p b (silence (suc log.settled) now []) v (with_mark log now)))
    (subst (λ c. Leads net p log (if c then line.Mark p now ∷ [] else []) (with_mark log now)) (sym (lt-ltb log.settled now (omega (arith, z, leb-true (log.settled + net.quiet) now e)))) (mark_leads net p now log)))
    (λ e. subst (λ c. Leads net p log (if c then line.Mark p now ∷ [] else []) log) (sym (le-ltb log.settled log.settled (omega arith))) (untouched_leads net p log log [] refl refl))

-- a cut by a record
cut_leads : (net : Net) (p a : ℕ) (log : Log) → log.forgets ≡ false → reclaims net.reclaim log.size log.generation ≡ false → Leads net p log (line.Cut p a ∷ []) (with_cut log a)
cut_leads net p a log keeps e = record {
  events = rw keeps refl;
  joins = refl;
  here = λ r x y. rw (eq-eqb p p refl, e) refl;
  others = λ q n r x. rw (ne_eqb p q (λ h. n (sym h))) refl;
  told = λ records at x y z.
      let told : Standing → List Report = λ s. line.Cut p a ∷ ((if reclaims net.reclaim s.1.size s.1.generation then line.Reclaimed p (suc s.1.generation) ∷ [] else []) ++ []) in
      ap told z ∙ ap (λ c. line.Cut p a ∷ ((if c then line.Reclaimed p (suc log.generation) ∷ [] else []) ++ [])) e;
}

-- a cut that writes the log anew
anew_leads : (net : Net) (p a : ℕ) (log : Log) → log.forgets ≡ false → reclaims net.reclaim log.size log.generation ≡ true → Leads net p log (line.Cut p a ∷ (line.Reclaimed p (suc log.generation) ∷ [])) (filled_log (with_cut log a))
anew_leads net p a log keeps e = record {
  events = events;
  joins = refl;
  here = λ r x y.
      let filled : List (ℕ × Event) → Joins → Standing = λ es js. (log.settled, record { generation = suc log.generation; size = size_filled a log.settled (past a es) js }) in
      rw (eq-eqb p p refl, e) (ap₂ filled (x ∙ sym events) y);
  others = λ q n r x. rw (ne_eqb p q (λ h. n (sym h))) refl;
  told = λ records at x y z.
      let told : Standing → List Report = λ s. line.Cut p a ∷ ((if reclaims net.reclaim s.1.size s.1.generation then line.Reclaimed p (suc s.1.generation) ∷ [] else []) ++ []) in
      ap told z ∙ ap (λ c. line.Cut p a ∷ ((if c then line.Reclaimed p (suc log.generation) ∷ [] else []) ++ [])) e;
}
  where
    events : (if log.forgets then past a log.events else log.events) ≡ log.events
    events = ap (λ c. if c then past a log.events else log.events) keeps

cutting_leads : (net : Net) (p b : ℕ) (v : View) (log : Log) → log.forgets ≡ false → (let new : Log = cutting net p b v log in Leads net p log (cutting_lines p log new) new)
cutting_leads net p b v log keeps =
    let still : List Report = line.Cut p log.cut ∷ (if nat_lt log.generation log.generation then line.Reclaimed p log.generation ∷ [] else []) in
    cutting_cases net p b v log (λ l. Leads net p log (cutting_lines p log l) l)
    (subst (λ d. Leads net p log (if d then still else []) log) (sym (le-ltb log.cut log.cut (omega arith))) (untouched_leads net p log log [] refl refl))
    (λ x. anew (lt-ltb log.cut a x) (reclaims net.reclaim log.size log.generation) refl)
  where
    a : ℕ
    a = cut_at net p b v log

    lines : Bool → Bool → List Report
    lines d e = if d then line.Cut p a ∷ (if e then line.Reclaimed p (suc log.generation) ∷ [] else []) else []

    again : Bool → List Report
    again e = line.Cut p a ∷ (if e then line.Reclaimed p log.generation ∷ [] else [])

    anew : nat_lt log.cut a ≡ true → (q : Bool) → reclaims net.reclaim log.size log.generation ≡ q → (let l : Log = if q then filled_log (with_cut log a) else with_cut log a in Leads net p log (cutting_lines p log l) l)
    anew x true e =
        subst (λ d. Leads net p log (lines d (nat_lt log.generation (suc log.generation))) (filled_log (with_cut log a))) (sym x)
        (subst (λ c. Leads net p log (lines true c) (filled_log (with_cut log a))) (sym (lt-ltb log.generation (suc log.generation) (omega arith))) (anew_leads net p a log keeps e))
    anew x false e =
        subst (λ d. Leads net p log (if d then again (nat_lt log.generation log.generation) else []) (with_cut log a)) (sym x)
        (subst (λ c. Leads net p log (again c) (with_cut log a)) (sym (le-ltb log.generation log.generation (omega arith))) (cut_leads net p a log keeps e))

-- a wake
wake_leads : (net : Net) (p b now : ℕ) (v : View) (log : Log) → 1 ≤ net.quiet → log.forgets ≡ false → (let o : Outcome = wake net p b now v log in Leads net p log o.lines o.log)
unfolding wake wake_host wake_below asking
wake_leads net p b now v log z keeps = go (is_host net p b)
  where
    o : Outcome
    o = marking net p b now v log

    new : Log
    new = cutting net p b o.view o.log

    mark : List Report
    mark = if nat_lt log.settled o.log.settled then line.Mark p now ∷ [] else []

    front : Leads net p log (mark ++ cutting_lines p o.log new) new
    front = leads_after net p log o.log new mark (cutting_lines p o.log new) (marking_leads net p b now v log z) (cutting_leads net p b o.view o.log (marking_forgets net p b now v log ∙ keeps))

    go : (q : Bool) → (let u : Outcome = elim q [ true ↦ wake_host net p b now v log | false ↦ wake_below net p b now v log ] in Leads net p log u.lines u.log)
    go true = leads_after net p log new new (mark ++ cutting_lines p o.log new) o.lines front (untouched_leads net p new new o.lines (marking_none touches net p b now v log touches_skip) refl)
    go false = untouched_leads net p log log [] refl refl

-- A call taken up

-- The lines of a transition lead from each log to what it is afterwards
pub record Tells (net : Net) (w : World) (t : Transition) : Type 0 where
  pub events : (q : ℕ) → (log_of t.world q).events ≡ (log_of w q).events
  pub joins : (q : ℕ) → (log_of t.world q).joins ≡ (log_of w q).joins
  pub stands : (q : ℕ) (r : Recorded) → r.events ≡ (log_of w q).events → r.joined ≡ (log_of w q).joins → stored_past net q r (standing_now (log_of w q)) t.lines ≡ standing_now (log_of t.world q)
  pub told : (records : ℕ → Recorded) (at : ℕ → Standing) → ((q : ℕ) → (records q).events ≡ (log_of w q).events) → ((q : ℕ) → (records q).joined ≡ (log_of w q).joins) → ((q : ℕ) → at q ≡ standing_now (log_of w q)) → with_reclaimed_from net records at (plain t.lines) ≡ t.lines

-- where no log is touched, and no line says so
pub untouched_tells : (net : Net) (w : World) (t : Transition) → ((q : ℕ) → log_of t.world q ≡ log_of w q) → filter touches t.lines ≡ [] → Tells net w t
untouched_tells net w t e h = record {
  events = λ q. ap (λ (l : Log). l.events) (e q);
  joins = λ q. ap (λ (l : Log). l.joins) (e q);
  stands = λ q r x y. untouched_past net q r (standing_now (log_of w q)) t.lines h ∙ ap standing_now (sym (e q));
  told = λ records at x y z. untouched_told net records at t.lines h;
}

pub tells_after : (net : Net) (w : World) (t : Transition) (f : World → Transition) → Tells net w t → Tells net t.world (f t.world) → Tells net w (followed_by t f)
tells_after net w t f a b = record {
  events = λ q. b.events q ∙ a.events q;
  joins = λ q. b.joins q ∙ a.joins q;
  stands = λ q r x y.
      past_append net q r (standing_now (log_of w q)) t.lines (f t.world).lines
      ∙ (ap (λ (s : Standing). stored_past net q r s (f t.world).lines) (a.stands q r x y) ∙ b.stands q r (x ∙ sym (a.events q)) (y ∙ sym (a.joins q)));
  told = λ records at x y z.
      let later : ℕ → Standing = λ q. stored_past net q (records q) (at q) (plain t.lines) in
      let now : (q : ℕ) → later q ≡ standing_now (log_of t.world q) = λ q.
      plain_past net q (records q) (at q) t.lines ∙ (ap (λ (s : Standing). stored_past net q (records q) s t.lines) (z q) ∙ a.stands q (records q) (x q) (y q)) in
      ap (with_reclaimed_from net records at) (filter-append (λ l. not (is_reclaimed_line l)) t.lines (f t.world).lines)
      ∙ (behind_append net records at (plain t.lines) (plain (f t.world).lines)
      ∙ ap₂ (λ (c d : List Report). c ++ d) (a.told records at x y z) (b.told records later (λ q. x q ∙ sym (a.events q)) (λ q. y q ∙ sym (a.joins q)) now));
}

-- sent lines touch no log
pub sent_untouched : (n : ℕ) (fs : List Frame) → filter touches (sent_lines n fs) ≡ []
unfolding sent_line
sent_untouched n [] = refl
sent_untouched n (f ∷ fs) = one f.body ∙ sent_untouched (suc n) fs
  where
    one : (y : Body) → filter touches ((elim y [ body.Knowledge runs js ↦ line.SentKnow n f.head.from f.head.to f.head.publisher runs js | body.Curiosity runs ↦ line.SentWant n f.head.from f.head.to f.head.publisher runs | body.Expect tick ↦ line.SentExpect n f.head.from f.head.to f.head.publisher tick ]) ∷ sent_lines (suc n) fs) ≡ filter touches (sent_lines (suc n) fs)
    one (body.Knowledge runs js) = refl
    one (body.Curiosity runs) = refl
    one (body.Expect tick) = refl

absorbed_tells : (net : Net) (w : World) (b p : ℕ) (o : Outcome) → WorldFits net w → p < net.publishers → Leads net p (log_of w p) o.lines o.log → Tells net w (absorbed w b p o)
unfolding absorbed
absorbed_tells net w b p o f j a = record {
  events = λ q. elim (cases_eq q p) [ inl e ↦ subst (λ z. (log_in z).events ≡ (log_of w z).events) (sym e) (ap (λ (l : Log). l.events) here ∙ k.events) | inr n ↦ ap (λ (l : Log). l.events) (other q n) ];
  joins = λ q. elim (cases_eq q p) [ inl e ↦ subst (λ z. (log_in z).joins ≡ (log_of w z).joins) (sym e) (ap (λ (l : Log). l.joins) here ∙ k.joins) | inr n ↦ ap (λ (l : Log). l.joins) (other q n) ];
  stands = λ q. elim (cases_eq q p) [ inl e ↦ subst Stand (sym e) (λ r x y. k.here r x y ∙ ap standing_now (sym here)) | inr n ↦ λ r x y. k.others q n r (standing_now (log_of w q)) ∙ ap standing_now (sym (other q n)) ];
  told = λ records at x y z. k.told records at (x p) (y p) (z p);
}
  where
    sent : List Report
    sent = sent_lines (suc (length w.frames)) o.frames

    k : Leads net p (log_of w p) (o.lines ++ sent) o.log
    k = leads_after net p (log_of w p) o.log o.log o.lines sent a (untouched_leads net p o.log o.log sent (sent_untouched (suc (length w.frames)) o.frames) refl)

    log_in : ℕ → Log
    log_in q = get_or (set w.logs p o.log) q empty_log

    here : log_in p ≡ o.log
    here = get_or-set_same w.logs p o.log empty_log (omega (arith, f.logs_long))

    other : (q : ℕ) → q ≢ p → log_in q ≡ log_of w q
    other q n = get_or-set_other w.logs p q o.log empty_log n

    Stand : ℕ → Type 0
    Stand q = (r : Recorded) → r.events ≡ (log_of w q).events → r.joined ≡ (log_of w q).joins → stored_past net q r (standing_now (log_of w q)) (o.lines ++ sent) ≡ standing_now (log_in q)

wake_tells : (net : Net) (w : World) (b p : ℕ) → 1 ≤ net.quiet → WorldFits net w → p < net.publishers → Tells net w (wake_for net w b p)
unfolding wake_for_by
wake_tells net w b p z f j = absorbed_tells net w b p (wake net p b w.clock (view_of w b p) (log_of w p)) f j (wake_leads net p b w.clock (view_of w b p) (log_of w p) z (f.logs p j).keeps)

deliver_tells : (net : Net) (w : World) (x : Frame) → WorldFits net w → FrameTrue net w x → Tells net w (deliver_frame net w x)
unfolding deliver_frame_by
deliver_tells net w x f t =
    let p = x.head.publisher in
    let v : View = view_of w x.head.to p in
    let o : Outcome = receive net w.clock x v (log_of w p) in
    absorbed_tells net w x.head.to p o f t.publisher_in (untouched_leads net p (log_of w p) o.log o.lines (receive_none touches net w.clock x v (log_of w p) touches_skip) (receive_log net w.clock x v (log_of w p)))

-- so do the lines of each chain of calls
pub tells_chain : (net : Net) → 1 ≤ net.quiet → Chains net (Tells net)
tells_chain net z = record {
  nil = λ w f. untouched_tells net w (unchanged w []) (λ q. refl) refl;
  seq = λ w t f g k a x b. tells_after net w t f a b;
  wake = λ w b p f i j. wake_tells net w b p z f j;
  deliver = λ w x f t. deliver_tells net w x f t;
}

-- Whom an event concerns makes no difference

-- who wants which event
abbrev Wants : Type 0
Wants = ℕ → ℕ → ℕ → Event → Bool

past_seen : (net : Net) (f : Wants) (q : ℕ) (r : Recorded) (x : Standing) (ls : List Report) → stored_past (with_wants net f) q r x ls ≡ stored_past net q r x ls
past_seen net f q r x [] = refl
past_seen net f q r x (line.Mark p t ∷ ls) = past_seen net f q r (stored_by net q r x (line.Mark p t)) ls
past_seen net f q r x (line.Cut p t ∷ ls) = past_seen net f q r (stored_by net q r x (line.Cut p t)) ls
past_seen net f q r x (l ∷ ls) = past_seen net f q r x ls

told_seen : (net : Net) (f : Wants) (h : History) (p : ℕ) (ss : List Stored) (ls : List Report) → stored_told (with_wants net f) h p ss ls ≡ stored_told net h p ss ls
told_seen net f h p [] ls = refl
told_seen net f h p (s ∷ ss) ls =
    ap₂ (λ (x : Standing) (ys : List Stored). x.1 ∷ ys) (past_seen net f p (record_of h p) ((record_of h p).settled, s) ls) (told_seen net f h (suc p) ss ls)

-- nor in what is stored after a step
pub stored_seen : (net : Net) (f : Wants) (h : History) (l : Line) (ls : List Report) → stored_after (with_wants net f) h l ls ≡ stored_after net h l ls
unfolding stored_after
stored_seen net f h l ls = go l.step
  where
    after : Net → Step → List Stored
    after n s = stored_after n h (record { number = l.number; step = s }) ls

    go : (s : Step) → after (with_wants net f) s ≡ after net s
    go (step.Publish p number stop e) = refl
    go (step.Wake b) = told_seen net f h 0 h.stored ls
    go step.Sweep = told_seen net f h 0 h.stored ls
    go (step.Join s p) = refl
    go (step.Clock now) = refl
    go (step.Deliver k) = refl
    go (step.Crash b) = refl
    go step.Show = refl
    go (step.Bytes k) = refl

-- nor in what is told behind a line
pub behind_seen : (net : Net) (f : Wants) (records : ℕ → Recorded) (at : ℕ → Standing) (ls : List Report) → with_reclaimed_from (with_wants net f) records at ls ≡ with_reclaimed_from net records at ls
behind_seen net f records at [] = refl
behind_seen net f records at (line.Mark p t ∷ ls) = ap (λ (z : List Report). line.Mark p t ∷ z) (behind_seen net f records (λ q. stored_by net q (records q) (at q) (line.Mark p t)) ls)
behind_seen net f records at (line.Cut p t ∷ ls) =
    ap (λ (z : List Report). line.Cut p t ∷ (reclaimed_behind net at (line.Cut p t) ++ z)) (behind_seen net f records (λ q. stored_by net q (records q) (at q) (line.Cut p t)) ls)
behind_seen net f records at (l ∷ ls) = ap (λ (z : List Report). l ∷ z) (behind_seen net f records at ls)
