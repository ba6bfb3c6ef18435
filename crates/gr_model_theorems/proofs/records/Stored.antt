-- What the history says is stored is what the logs say, after every step: each event and join that is recorded takes its room, and each mark and cut what its line says. And a log that is written anew is told so directly behind its cut.
use Rattle.std.proofs.Common.{◌≡◌, inl, inr, ℕ, suc, zero, ◌+◌, ◌-◌, ◌≤◌, ◌<◌, max, Bool, true, false, not, ◌&&◌, List, [], ◌∷◌, ◌++◌, map, length, set, get_or, refl, sym, ap, ap₂, ◌∙◌, subst, Option, Some, None, arith}
use Rattle.std.specs.Prelude.{nat_eq, nat_le, nat_lt, if◌then◌else◌, flat_map, filter}
use Rattle.std.proofs.lemmas.Bool.{cases_eq, cases_lt, eq-eqb, ne_eqb, le-leb, lt-leb, and_right}
use Rattle.std.proofs.lemmas.List.{get_or-set_other, get_or-set_same, get_or_past, length-set, get_or-replicate, length-replicate}
use Rattle.std.proofs.lemmas.List.Elements.{filter-append}
use Rattle.gr_event.specs.declared.event.Event.{Event}
use Rattle.gr_event.specs.Event.{event_size}
use Rattle.gr_event.specs.Joins.{has_joined}
use Rattle.gr_frame.specs.declared.Frame.{Frame}
use Rattle.gr_frame.specs.Bytes.{frame_bytes}
use Rattle.gr_sched.specs.declared.step.Stop.{Stop}
use Rattle.gr_sched.specs.declared.step.Step.{Step}
use Rattle.gr_sched.specs.declared.step.Step.TheVariants as step
use Rattle.gr_sched.specs.declared.step.Line.{Line}
use Rattle.gr_model.specs.declared.report.Report.{Report}
use Rattle.gr_model.specs.declared.report.Report.TheVariants as line
use Rattle.gr_model.specs.Net.{Net, keeps_horizon, not_empty, numbers, numbers_from}
use Rattle.gr_model.specs.Broker.{joining, with_join, View, Log, Outcome, empty_log, publish, receive, with_event, is_kept, max_tick}
use Rattle.gr_model.specs.World.{join_now_by, World, Transition, view_of, log_of, absorbed, unchanged, followed_by, in_turn, frame_at, sent_lines, crash, restarted, opened_lines, kept_events, show, sweep_moment, start, next_by, publish_now_by, publish_stopped_by, deliver_frame_by, sweep_by}
use Rattle.gr_model_calls.specs.OneNet.{join_now, wake_all, deliver_frame, publish_now, publish_stopped, sweep, sweep_for, next}
use Rattle.gr_model.specs.Headline.{may_enter, join_room, History, Recorded, Stored, Standing, record_of, stored_of, standing_of, first_stored, grown, stored_past, stored_told, stored_after, with_reclaimed, is_next, event_room, says_kept, may_crash, begin}
use Rattle.gr_model.specs.Headline as headline
use Rattle.gr_model.specs.Opening.{reopened_log, stored_now, begin_over}
use Rattle.gr_model.specs.Tree.{IsNet}
use Rattle.gr_model_calls.specs.Fits.{WorldFits, FrameTrue, StepIn}
use Rattle.gr_model_calls.proofs.calls.Calls.{learn_log}
use Rattle.gr_model_calls.proofs.calls.HostCases.{joining_cases, publish_cases}
use Rattle.gr_model_calls.proofs.runs.Chains.{wake_all_chain, sweeps_chain}
use Rattle.gr_model_calls.proofs.runs.Schedules.{clocked_fits, frame_at_true, get_numbers, start_log}
use Rattle.gr_model_theorems.proofs.records.Records.{core, core_of, receive_log}
use Rattle.gr_model_theorems.proofs.records.Recorded.{RecordsFit, record_core, opened_no_kept}
use Rattle.gr_model_theorems.proofs.records.RecordLines.{receive_none, publish_some, join_some}
use Rattle.gr_model_theorems.proofs.records.Standings.{standing_now, touches, touches_skip, plain, untouched_told, untouched_tells, sent_untouched, Tells, tells_after, tells_chain}

-- what is stored of each publisher is what its log says
pub record StoredFit (net : Net) (w : World) (ss : List Stored) : Type 0 where
  pub long : length ss ≡ net.publishers
  pub each : (q : ℕ) → q < net.publishers → get_or ss q first_stored ≡ stored_now (log_of w q)

-- and so of a number that is no publisher's
stored_any : (net : Net) (w : World) (ss : List Stored) (q : ℕ) → WorldFits net w → StoredFit net w ss → get_or ss q first_stored ≡ stored_now (log_of w q)
stored_any net w ss q f k =
    elim (cases_lt q net.publishers) [
      | inl l ↦ k.each q l
      | inr l ↦ get_or_past ss q first_stored (omega (arith, l, k.long)) ∙ ap stored_now (sym (get_or_past w.logs q empty_log (omega (arith, l, f.logs_long))))
    ]

-- what the history says of a log is what the log says
standing_is : (net : Net) (w : World) (h : History) (q : ℕ) → WorldFits net w → RecordsFit net w h → StoredFit net w h.stored → standing_of h q ≡ standing_now (log_of w q)
standing_is net w h q f r k =
    let pair : ℕ → Stored → Standing = λ n s. (n, s) in
    ap₂ pair (ap (λ (x : Recorded). x.settled) (record_core net w h q r)) (stored_any net w h.stored q f k)

-- Lists of what is stored

told_long : (net : Net) (h : History) (p : ℕ) (ss : List Stored) (ls : List Report) → length (stored_told net h p ss ls) ≡ length ss
told_long net h p [] ls = refl
told_long net h p (s ∷ ss) ls = ap suc (told_long net h (suc p) ss ls)

told_each : (net : Net) (h : History) (p : ℕ) (ss : List Stored) (ls : List Report) (i : ℕ) → i < length ss → get_or (stored_told net h p ss ls) i first_stored ≡ (stored_past net (p + i) (record_of h (p + i)) ((record_of h (p + i)).settled, get_or ss i first_stored) ls).1
told_each net h p [] ls i l = absurd (omega arith)
told_each net h p (s ∷ ss) ls zero l = ap (λ q. (stored_past net q (record_of h q) ((record_of h q).settled, s) ls).1) (omega arith)
told_each net h p (s ∷ ss) ls (suc i) l = told_each net h (suc p) ss ls i (omega arith) ∙ ap (λ q. (stored_past net q (record_of h q) ((record_of h q).settled, get_or ss i first_stored) ls).1) (omega arith)

-- by the lines of calls
stored_move : (net : Net) (w : World) (h : History) (t : Transition) → WorldFits net w → RecordsFit net w h → StoredFit net w h.stored → Tells net w t → StoredFit net t.world (stored_told net h 0 h.stored t.lines)
stored_move net w h t f r k m = record {
  long = told_long net h 0 h.stored t.lines ∙ k.long;
  each = λ q j.
      let c : record_of h q ≡ core_of w q = record_core net w h q r in
      told_each net h 0 h.stored t.lines q (omega (arith, k.long, j))
      ∙ (ap (λ i. (stored_past net i (record_of h i) ((record_of h i).settled, stored_of h q) t.lines).1) (let e : 0 + q ≡ q = omega arith in e)
      ∙ ap (λ (x : Standing). x.1) (ap (λ (x : Standing). stored_past net q (record_of h q) x t.lines) (standing_is net w h q f r k)
      ∙ m.stands q (record_of h q) (ap (λ (x : Recorded). x.events) c) (ap (λ (x : Recorded). x.joined) c)));
}

-- by the room of a record, where one is logged
stored_log : (net : Net) (w u : World) (ss : List Stored) (p room : ℕ) (c : Bool) → p < net.publishers → StoredFit net w ss → ((q : ℕ) → stored_now (log_of u q) ≡ (if nat_eq q p && c then grown room (stored_now (log_of w q)) else stored_now (log_of w q))) → StoredFit net u (if c then set ss p (grown room (get_or ss p first_stored)) else ss)
stored_log net w u ss p room true j k m = record {
  long = length-set ss p (grown room (get_or ss p first_stored)) ∙ k.long;
  each = λ q i. elim (cases_eq q p) [
    | inl x ↦
        subst (λ r. get_or (set ss p (grown room (get_or ss p first_stored))) r first_stored ≡ stored_now (log_of u r)) (sym x)
        (get_or-set_same ss p (grown room (get_or ss p first_stored)) first_stored (omega (arith, k.long, j)) ∙ (ap (grown room) (k.each p j) ∙ sym (m p ∙ rw (eq-eqb p p refl) refl)))
    | inr x ↦ get_or-set_other ss p q (grown room (get_or ss p first_stored)) first_stored x ∙ (k.each q i ∙ sym (m q ∙ rw (ne_eqb q p x) refl))
  ];
}
stored_log net w u ss p room false j k m = record {
  long = k.long;
  each = λ q i. k.each q i ∙ sym (m q ∙ rw (and_right (nat_eq q p) false refl) refl);
}

-- where no log is touched
same_stored : (net : Net) (w u : World) (ss : List Stored) → StoredFit net w ss → ((q : ℕ) → log_of u q ≡ log_of w q) → StoredFit net u ss
same_stored net w u ss k e = record { long = k.long; each = λ q j. k.each q j ∙ ap stored_now (sym (e q)) }

-- Records

-- a publish logs exactly where its number is next and a tick is left
publish_log : (net : Net) (p b now number : ℕ) (e : Event) (v : View) (log : Log) → (publish net p b now number e v log).log ≡ (if is_next now (core log) number then with_event log (max (suc log.settled) now) e else log)
publish_log net p b now number e v log =
    publish_cases net p b now number e v log (λ o. o.log ≡ (if is_next now (core log) number then with_event log tick e else log))
    (λ l. rw (ne_eqb number (suc log.last) (λ h. omega (arith, h, l))) refl)
    (λ l. rw (ne_eqb number (suc log.last) (λ h. omega (arith, h, l))) refl)
    (λ x l. rw (lt-leb tick max_tick l, and_right (nat_eq number (suc log.last)) false refl) refl)
    (λ x l. rw (eq-eqb number (suc log.last) x, le-leb tick max_tick l) (learn_log net p b _ v (with_event log tick e)))
  where
    tick : ℕ
    tick = max (suc log.settled) now

absorbed_log : (net : Net) (w : World) (b p q : ℕ) (o : Outcome) → WorldFits net w → p < net.publishers → log_of (absorbed w b p o).world q ≡ (if nat_eq q p then o.log else log_of w q)
unfolding absorbed
absorbed_log net w b p q o f j =
    elim (cases_eq q p) [
      | inl e ↦ rw (eq-eqb q p e) (subst (λ z. get_or (set w.logs p o.log) z empty_log ≡ o.log) (sym e) (get_or-set_same w.logs p o.log empty_log (omega (arith, f.logs_long))))
      | inr e ↦ rw (ne_eqb q p e) (get_or-set_other w.logs p q o.log empty_log e)
    ]

-- what is stored of the log with a further event
event_grows : (log : Log) (tick : ℕ) (e : Event) → stored_now (with_event log tick e) ≡ grown (event_room e) (stored_now log)
event_grows log tick e =
    let sized : ℕ → Stored = λ n. record { generation = log.generation; size = n } in
    let more : log.size + 22 + event_size e ≡ log.size + event_room e = omega arith in
    ap sized more

publish_moves : (net : Net) (w : World) (p number : ℕ) (e : Event) (q : ℕ) → WorldFits net w → p < net.publishers → stored_now (log_of (publish_now net w p number e).world q) ≡ (if nat_eq q p && is_next w.clock (core_of w p) number then grown (event_room e) (stored_now (log_of w q)) else stored_now (log_of w q))
unfolding publish_now_by
publish_moves net w p number e q f j =
    let o : Outcome = publish net p (net.host p) w.clock number e (view_of w (net.host p) p) (log_of w p) in
    ap stored_now (absorbed_log net w (net.host p) p q o f j) ∙ elim (cases_eq q p) [
      | inl x ↦ rw (eq-eqb q p x) (subst (λ r. stored_now o.log ≡ (if is_next w.clock (core_of w p) number then grown (event_room e) (stored_now (log_of w r)) else stored_now (log_of w r))) (sym x) (ap stored_now (publish_log net p (net.host p) w.clock number e (view_of w (net.host p) p) (log_of w p)) ∙ go (is_next w.clock (core_of w p) number)))
      | inr x ↦ rw (ne_eqb q p x) refl
    ]
  where
    go : (c : Bool) → stored_now (if c then with_event (log_of w p) (max (suc (log_of w p).settled) w.clock) e else log_of w p) ≡ (if c then grown (event_room e) (stored_now (log_of w p)) else stored_now (log_of w p))
    go true = event_grows (log_of w p) (max (suc (log_of w p).settled) w.clock) e
    go false = refl

-- a join is logged exactly where its subscriber may join
join_log : (net : Net) (p b now s : ℕ) (v : View) (log : Log) → (joining net p b now s v log).log ≡ (if may_enter now (core log) s then with_join log (max (suc log.settled) now) s else log)
join_log net p b now s v log =
    joining_cases net p b now s v log (λ o. o.log ≡ (if may_enter now (core log) s then with_join log tick s else log))
    (λ e. rw e refl)
    (λ e l. rw (e, lt-leb tick max_tick l) refl)
    (λ e l. rw (e, le-leb tick max_tick l) (learn_log net p b _ _ (with_join log tick s)))
  where
    tick : ℕ
    tick = max (suc log.settled) now

join_moves : (net : Net) (w : World) (s p q : ℕ) → WorldFits net w → p < net.publishers → stored_now (log_of (join_now net w s p).world q) ≡ (if nat_eq q p && may_enter w.clock (core_of w p) s then grown join_room (stored_now (log_of w q)) else stored_now (log_of w q))
unfolding join_now_by
join_moves net w s p q f j =
    let o : Outcome = joining net p (net.host p) w.clock s (view_of w (net.host p) p) (log_of w p) in
    ap stored_now (absorbed_log net w (net.host p) p q o f j) ∙ elim (cases_eq q p) [
      | inl x ↦ rw (eq-eqb q p x) (subst (λ r. stored_now o.log ≡ (if may_enter w.clock (core_of w p) s then grown join_room (stored_now (log_of w r)) else stored_now (log_of w r))) (sym x) (ap stored_now (join_log net p (net.host p) w.clock s (view_of w (net.host p) p) (log_of w p)) ∙ go (may_enter w.clock (core_of w p) s)))
      | inr x ↦ rw (ne_eqb q p x) refl
    ]
  where
    go : (c : Bool) → stored_now (if c then with_join (log_of w p) (max (suc (log_of w p).settled) w.clock) s else log_of w p) ≡ (if c then grown join_room (stored_now (log_of w p)) else stored_now (log_of w p))
    go true = refl
    go false = refl

deliver_moves : (net : Net) (w : World) (x : Frame) (q : ℕ) → WorldFits net w → FrameTrue net w x → log_of (deliver_frame net w x).world q ≡ log_of w q
unfolding deliver_frame_by
deliver_moves net w x q f t =
    let p = x.head.publisher in
    let v : View = view_of w x.head.to p in
    absorbed_log net w x.head.to p q (receive net w.clock x v (log_of w p)) f t.publisher_in ∙ elim (cases_eq q p) [
      | inl e ↦ rw (eq-eqb q p e) (receive_log net w.clock x v (log_of w p) ∙ ap (log_of w) (sym e))
      | inr e ↦ rw (ne_eqb q p e) refl
    ]

restarted_log : (net : Net) (w : World) (b q : ℕ) → log_of (restarted net w b) q ≡ log_of w q
unfolding restarted
restarted_log net w b q = refl

-- A stopped publish

-- what a stopped publish does to what is stored, and where it says that it was kept
record Stopped (net : Net) (w : World) (t : Transition) (p number : ℕ) (stop : Stop) (e : Event) (free : Bool) : Type 0 where
  stored : (q : ℕ) → stored_now (log_of t.world q) ≡ (if nat_eq q p && (is_next w.clock (core_of w p) number && says_kept t.lines) then grown (event_room e) (stored_now (log_of w q)) else stored_now (log_of w q))
  kept : free ≡ true → is_next w.clock (core_of w p) number ≡ true → says_kept t.lines ≡ is_kept ((log_of w p).size - 1) stop.call stop.pick

stopped_is : (net : Net) (w : World) (k p number : ℕ) (stop : Stop) (e : Event) → WorldFits net w → p < net.publishers → Stopped net w (publish_stopped net w k p number stop e) p number stop e (may_crash net (net.host p))
unfolding publish_stopped_by
stopped_is net w k p number stop e f j = host_at (not_empty (net.subscribers_at (net.host p)))
  where
    log : Log
    log = log_of w p

    tick : ℕ
    tick = max (suc log.settled) w.clock

    kept : Bool
    kept = is_kept (log.size - 1) stop.call stop.pick

    told : Bool → Transition
    told q =
        let logs : List Log = if q then set w.logs p (with_event log tick e) else w.logs in
        record {
          world = restarted net (record { clock = w.clock; most = w.most; frames = w.frames; views = w.views; logs = logs }) (net.host p);
          lines = line.Crashed (net.host p) ∷ ((if q then line.Kept p number tick else line.Lost p number tick) ∷ opened_lines net logs (net.host p));
        }

    none : (x : Bool) (q : ℕ) → x ≡ false → stored_now (log_of w q) ≡ (if nat_eq q p && x then grown (event_room e) (stored_now (log_of w q)) else stored_now (log_of w q))
    none x q h = rw (h, and_right (nat_eq q p) false refl) refl

    told_is : (c : Bool) → kept ≡ c → is_next w.clock (core_of w p) number ≡ true → Stopped net w (told c) p number stop e true
    told_is true a x = record {
      stored = λ q. ap stored_now (restarted_log net _ (net.host p) q) ∙ elim (cases_eq q p) [
        | inl y ↦ rw (eq-eqb q p y, x) (subst (λ r. stored_now (get_or (set w.logs p (with_event log tick e)) r empty_log) ≡ grown (event_room e) (stored_now (log_of w r))) (sym y) (ap stored_now (get_or-set_same w.logs p (with_event log tick e) empty_log (omega (arith, f.logs_long))) ∙ event_grows log tick e))
        | inr y ↦ rw (ne_eqb q p y) (ap stored_now (get_or-set_other w.logs p q (with_event log tick e) empty_log y))
      ];
      kept = λ y n. sym a;
    }
    told_is false a x = record {
      stored = λ q. ap stored_now (restarted_log net _ (net.host p) q) ∙ none (is_next w.clock (core_of w p) number && says_kept (opened_lines net w.logs (net.host p))) q (rw (opened_no_kept net w.logs (net.host p)) (and_right (is_next w.clock (core_of w p) number) false refl));
      kept = λ y n. opened_no_kept net w.logs (net.host p) ∙ sym a;
    }

    number_at : (c : Bool) → is_next w.clock (core_of w p) number ≡ c → Stopped net w (elim c [ false ↦ publish_now net w p number e | true ↦ told kept ]) p number stop e true
    number_at true x = told_is kept refl x
    number_at false x = record {
      stored = λ q. publish_moves net w p number e q f j ∙ ap (λ c. if nat_eq q p && c then grown (event_room e) (stored_now (log_of w q)) else stored_now (log_of w q)) (x ∙ sym (ap (λ c. c && says_kept (publish_now net w p number e).lines) x));
      kept = λ y n. absurd_of (sym x ∙ n);
    }
      where
        absurd_of : {A : Type 0} → false ≡ true → A
        absurd_of h = cc

    host_at : (c : Bool) → Stopped net w (elim c [ true ↦ unchanged w (line.RefusedHosts k (net.host p) ∷ []) | false ↦ elim (nat_eq number (suc log.last) && nat_le tick max_tick) [ false ↦ publish_now net w p number e | true ↦ told kept ] ]) p number stop e (not c)
    host_at true = record {
      stored = λ q. none (is_next w.clock (core_of w p) number && false) q (and_right (is_next w.clock (core_of w p) number) false refl);
      kept = λ y n. cc;
    }
    host_at false = number_at (nat_eq number (suc log.last) && nat_le tick max_tick) refl

-- Every step

-- what the history says of the next publish is what the log says
next_same : (net : Net) (w : World) (h : History) (p number : ℕ) → RecordsFit net w h → is_next h.clock (record_of h p) number ≡ is_next w.clock (core_of w p) number
next_same net w h p number r = ap₂ (λ c x. is_next c x number) r.clock (record_core net w h p r)

crash_logs : (net : Net) (w : World) (b k : ℕ) (c : Bool) → (let t : Transition = elim c [ true ↦ unchanged w (line.RefusedHosts k b ∷ []) | false ↦ crash net w b ] in (q : ℕ) → log_of t.world q ≡ log_of w q)
unfolding crash
crash_logs net w b k true = λ q. refl
crash_logs net w b k false = λ q. restarted_log net w b q

-- the lines of a sweep lead from each log to what it is afterwards
sweep_tells : (net : Net) (w : World) (k : ℕ) → IsNet net → 1 ≤ net.quiet → WorldFits net w → Tells net w (sweep net w k)
unfolding sweep_by
sweep_tells net w k n z f = go (nat_lt max_tick m)
  where
    m : ℕ
    m = sweep_moment net w

    u : World
    u = record { clock = m; most = max m w.most; frames = w.frames; views = w.views; logs = w.logs }

    go : (c : Bool) → (let t : Transition = elim c [ true ↦ unchanged w (line.RefusedClock k m ∷ []) | false ↦ followed_by (in_turn (sweep_for net) (numbers net.publishers) u) (λ x. unchanged x (line.Swept m ∷ [])) ] in Tells net w t)
    go true = untouched_tells net w (unchanged w (line.RefusedClock k m ∷ [])) (λ q. refl) refl
    go false =
        let s : Transition = in_turn (sweep_for net) (numbers net.publishers) u in
        let a : Tells net u s = (sweeps_chain net (Tells net) u (tells_chain net z) n (clocked_fits net w m (max m w.most) f)).holds in
        let b : Tells net u (followed_by s (λ x. unchanged x (line.Swept m ∷ []))) = tells_after net u s (λ x. unchanged x (line.Swept m ∷ [])) a (untouched_tells net s.world (unchanged s.world (line.Swept m ∷ [])) (λ q. refl) refl) in
        record { events = b.events; joins = b.joins; stands = b.stands; told = b.told }

wake_all_tells : (net : Net) (w : World) (b : ℕ) → IsNet net → 1 ≤ net.quiet → WorldFits net w → b < net.brokers → Tells net w (wake_all net w b)
wake_all_tells net w b n z f i = (wake_all_chain net (Tells net) w b (tells_chain net z) n f i).holds

stored_next : (net : Net) (w : World) (h : History) (k : ℕ) (s : Step) → IsNet net → 1 ≤ net.quiet → WorldFits net w → RecordsFit net w h → StepIn net s → StoredFit net w h.stored → (let l : Line = record { number = k; step = s } in StoredFit net (next net w l).world (stored_after net h l (next net w l).lines))
unfolding next_by stored_after
stored_next net w h k (step.Clock now) n z f r i g = record { long = g.long; each = g.each }
stored_next net w h k (step.Publish p number None e) n z f r i g =
    stored_log net w (publish_now net w p number e).world h.stored p (event_room e) (is_next h.clock (record_of h p) number && true) i g
    (λ q. publish_moves net w p number e q f i ∙ ap (λ c. if nat_eq q p && c then grown (event_room e) (stored_now (log_of w q)) else stored_now (log_of w q)) (sym (and_true (is_next h.clock (record_of h p) number) ∙ next_same net w h p number r)))
  where
    and_true : (x : Bool) → (x && true) ≡ x
    and_true true = refl
    and_true false = refl
stored_next net w h k (step.Publish p number (Some stop) e) n z f r i g =
    let t = publish_stopped net w k p number stop e in
    stored_log net w t.world h.stored p (event_room e) (is_next h.clock (record_of h p) number && says_kept t.lines) i g
    (λ q. (stopped_is net w k p number stop e f i).stored q ∙ ap (λ c. if nat_eq q p && (c && says_kept t.lines) then grown (event_room e) (stored_now (log_of w q)) else stored_now (log_of w q)) (sym (next_same net w h p number r)))
stored_next net w h k (step.Wake b) n z f r i g = stored_move net w h (wake_all net w b) f r g (wake_all_tells net w b n z f i)
stored_next net w h k (step.Deliver j) n z f r i g = go (frame_at w j) (λ x e. frame_true x e)
  where
    frame_true : (x : Frame) → frame_at w j ≡ Some x → FrameTrue net w x
    frame_true x e = frame_at_true net w j x f e

    go : (o : Option Frame) → ((x : Frame) → o ≡ Some x → FrameTrue net w x) → (let t : Transition = elim o [ None ↦ unchanged w (line.RefusedFrame k j (length w.frames) ∷ []) | Some x ↦ deliver_frame net w x ] in StoredFit net t.world h.stored)
    go None t = g
    go (Some x) t = same_stored net w (deliver_frame net w x).world h.stored g (λ q. deliver_moves net w x q f (t x refl))
stored_next net w h k (step.Crash b) n z f r i g =
    same_stored net w (next net w (record { number = k; step = step.Crash b })).world h.stored g (crash_logs net w b k (not_empty (net.subscribers_at b)))
stored_next net w h k step.Sweep n z f r i g = stored_move net w h (sweep net w k) f r g (sweep_tells net w k n z f)
stored_next net w h k step.Show n z f r i g = g
stored_next net w h k (step.Bytes j) n z f r i g = go (frame_at w j)
  where
    go : (o : Option Frame) → (let t : Transition = elim o [ None ↦ unchanged w (line.RefusedFrame k j (length w.frames) ∷ []) | Some x ↦ unchanged w (line.BytesOf j (frame_bytes x) ∷ []) ] in StoredFit net t.world h.stored)
    go None = g
    go (Some x) = g
stored_next net w h k (step.Join s p) n z f r i g =
    stored_log net w (join_now net w s p).world h.stored p join_room (may_enter h.clock (record_of h p) s) i.1 g
    (λ q. join_moves net w s p q f i.1 ∙ ap (λ c. if nat_eq q p && c then grown join_room (stored_now (log_of w q)) else stored_now (log_of w q)) (sym (ap₂ (λ m x. may_enter m x s) r.clock (record_core net w h p r))))

-- after each step what the history says is stored is what the logs say
pub next_stored : (net : Net) (w : World) (h : History) (l : Line) → IsNet net → 1 ≤ net.quiet → WorldFits net w → RecordsFit net w h → StepIn net l.step → StoredFit net w h.stored → StoredFit net (next net w l).world (headline.history_after net h l (next net w l).lines).stored
unfolding headline.history_after
next_stored net w h l n z f r i g = stored_next net w h l.number l.step n z f r i g

-- a stopped publish that would be logged is kept exactly where its stop leaves the gate open
pub kept_where_stored : (net : Net) (w : World) (h : History) (l : Line) (p number : ℕ) (stop : Stop) (e : Event) → WorldFits net w → RecordsFit net w h → StoredFit net w h.stored → StepIn net l.step → l.step ≡ step.Publish p number (Some stop) e → may_crash net (net.host p) ≡ true → is_next h.clock (record_of h p) number ≡ true →
    says_kept (next net w l).lines ≡ is_kept ((stored_of h p).size - 1) stop.call stop.pick
unfolding next_by
kept_where_stored net w h l p number stop e f r g i at free due = go l.step at i
  where
    go : (s : Step) → s ≡ step.Publish p number (Some stop) e → StepIn net s → says_kept (next net w (record { number = l.number; step = s })).lines ≡ is_kept ((stored_of h p).size - 1) stop.call stop.pick
    go s x y =
        let j : p < net.publishers = subst (StepIn net) x y in
        subst (λ (q : Step). says_kept (next net w (record { number = l.number; step = q })).lines ≡ is_kept ((stored_of h p).size - 1) stop.call stop.pick) (sym x)
        ((stopped_is net w l.number p number stop e f j).kept free (sym (next_same net w h p number r) ∙ due) ∙ ap (λ (m : Stored). is_kept (m.size - 1) stop.call stop.pick) (sym (g.each p j)))

-- Steps without marks and cuts

absorbed_untouched : (w : World) (b p : ℕ) (o : Outcome) → filter touches o.lines ≡ [] → filter touches (absorbed w b p o).lines ≡ []
unfolding absorbed
absorbed_untouched w b p o e = filter-append touches o.lines (sent_lines (suc (length w.frames)) o.frames) ∙ ap₂ (λ (x y : List Report). x ++ y) e (sent_untouched (suc (length w.frames)) o.frames)

publish_untouched : (net : Net) (w : World) (p number : ℕ) (e : Event) → filter touches (publish_now net w p number e).lines ≡ []
unfolding publish_now_by
publish_untouched net w p number e =
    let v = view_of w (net.host p) p in
    let r = core_of w p in
    absorbed_untouched w (net.host p) p (publish net p (net.host p) w.clock number e v (log_of w p))
    (publish_some touches net p (net.host p) w.clock number e v (log_of w p) touches_skip ∙ one (nat_le number r.last) (nat_lt (suc r.last) number) (nat_lt max_tick (max (suc r.settled) w.clock)))
  where
    one : (x y z : Bool) → (let r = core_of w p in filter touches ((if x then line.Already p number else (if y then line.Gap p number (suc r.last) else (if z then line.Exhausted p number else line.Logged p number (max (suc r.settled) w.clock)))) ∷ []) ≡ [])
    one true y z = refl
    one false true z = refl
    one false false true = refl
    one false false false = refl

join_untouched : (net : Net) (w : World) (s p : ℕ) → filter touches (join_now net w s p).lines ≡ []
unfolding join_now_by
join_untouched net w s p =
    let v = view_of w (net.host p) p in
    let r = core_of w p in
    absorbed_untouched w (net.host p) p (joining net p (net.host p) w.clock s v (log_of w p))
    (join_some touches net p (net.host p) w.clock s v (log_of w p) touches_skip ∙ one (has_joined r.joined s) (nat_lt max_tick (max (suc r.settled) w.clock)))
  where
    one : (x y : Bool) → (let r = core_of w p in filter touches ((if x then line.AlreadyJoined s p else (if y then line.ExhaustedJoin s p else line.Joined s p (max (suc r.settled) w.clock))) ∷ []) ≡ [])
    one true y = refl
    one false true = refl
    one false false = refl

deliver_untouched : (net : Net) (w : World) (x : Frame) → filter touches (deliver_frame net w x).lines ≡ []
unfolding deliver_frame_by
deliver_untouched net w x =
    let p = x.head.publisher in
    let v = view_of w x.head.to p in
    absorbed_untouched w x.head.to p (receive net w.clock x v (log_of w p)) (receive_none touches net w.clock x v (log_of w p) touches_skip)

opened_untouched : (net : Net) (logs : List Log) (b : ℕ) → filter touches (opened_lines net logs b) ≡ []
unfolding opened_lines
opened_untouched net logs b = go (numbers net.publishers)
  where
    one : (p : ℕ) (c : Bool) → filter touches (let log = get_or logs p empty_log in if c then line.Opened p log.last log.settled log.cut ∷ [] else []) ≡ []
    one p true = refl
    one p false = refl

    here : ℕ → List Report
    here p = let log = get_or logs p empty_log in if nat_eq (net.host p) b && nat_lt 0 log.settled then line.Opened p log.last log.settled log.cut ∷ [] else []

    go : (ps : List ℕ) → filter touches (flat_map here ps) ≡ []
    go [] = refl
    go (p ∷ ps) = filter-append touches (here p) (flat_map here ps) ∙ ap₂ (λ (x y : List Report). x ++ y) (one p (nat_eq (net.host p) b && nat_lt 0 (get_or logs p empty_log).settled)) (go ps)

crash_untouched : (net : Net) (w : World) (b : ℕ) → filter touches (crash net w b).lines ≡ []
unfolding crash
crash_untouched net w b = opened_untouched net w.logs b

stopped_untouched : (net : Net) (w : World) (k p number : ℕ) (stop : Stop) (e : Event) → filter touches (publish_stopped net w k p number stop e).lines ≡ []
unfolding publish_stopped_by
stopped_untouched net w k p number stop e = go (not_empty (net.subscribers_at (net.host p))) (nat_eq number (suc log.last) && nat_le tick max_tick) (is_kept (log.size - 1) stop.call stop.pick)
  where
    log : Log
    log = log_of w p

    tick : ℕ
    tick = max (suc log.settled) w.clock

    told_by : Bool → Transition
    told_by q =
        let logs : List Log = if q then set w.logs p (with_event log tick e) else w.logs in
        record {
          world = restarted net (record { clock = w.clock; most = w.most; frames = w.frames; views = w.views; logs = logs }) (net.host p);
          lines = line.Crashed (net.host p) ∷ ((if q then line.Kept p number tick else line.Lost p number tick) ∷ opened_lines net logs (net.host p));
        }

    go : (x y z : Bool) → filter touches (let t : Transition = elim x [ true ↦ unchanged w (line.RefusedHosts k (net.host p) ∷ []) | false ↦ elim y [ false ↦ publish_now net w p number e | true ↦ told_by z ] ] in t.lines) ≡ []
    go true y z = refl
    go false false z = publish_untouched net w p number e
    go false true true = opened_untouched net (set w.logs p (with_event log tick e)) (net.host p)
    go false true false = opened_untouched net w.logs (net.host p)

show_untouched : (net : Net) (w : World) → filter touches (show net w) ≡ []
unfolding show
show_untouched net w = logs (numbers net.publishers)
  where
    log_line : ℕ → Report
    log_line p = let l = log_of w p in line.LogOf p l.last l.settled l.cut (kept_events l)

    here : ℕ → ℕ → List Report
    here b p = if keeps_horizon net p b then line.Doubt b p (view_of w b p).horizon ∷ [] else []

    there : ℕ → List Report
    there b = flat_map (here b) (numbers net.publishers)

    one : (b p : ℕ) (q : Bool) → filter touches (if q then line.Doubt b p (view_of w b p).horizon ∷ [] else []) ≡ []
    one b p true = refl
    one b p false = refl

    row : (b : ℕ) (ps : List ℕ) → filter touches (flat_map (here b) ps) ≡ []
    row b [] = refl
    row b (p ∷ ps) = filter-append touches (here b p) (flat_map (here b) ps) ∙ ap₂ (λ (x y : List Report). x ++ y) (one b p (keeps_horizon net p b)) (row b ps)

    doubts : (bs : List ℕ) → filter touches (flat_map there bs) ≡ []
    doubts [] = refl
    doubts (b ∷ bs) = filter-append touches (there b) (flat_map there bs) ∙ ap₂ (λ (x y : List Report). x ++ y) (row b (numbers net.publishers)) (doubts bs)

    logs : (ps : List ℕ) → filter touches (map log_line ps ++ flat_map there (numbers net.brokers)) ≡ []
    logs [] = doubts (numbers net.brokers)
    logs (p ∷ ps) = logs ps

-- What is told behind the lines

-- of lines that lead from the logs that the history says to what they are afterwards
tells_with : (net : Net) (w : World) (h : History) (t : Transition) → WorldFits net w → RecordsFit net w h → StoredFit net w h.stored → Tells net w t → t.lines ≡ with_reclaimed net h (plain t.lines)
tells_with net w h t f r g k =
    sym (k.told (record_of h) (standing_of h) (λ q. ap (λ (x : Recorded). x.events) (record_core net w h q r)) (λ q. ap (λ (x : Recorded). x.joined) (record_core net w h q r)) (λ q. standing_is net w h q f r g))

-- of lines without marks and cuts
untouched_with : (net : Net) (h : History) (ls : List Report) → filter touches ls ≡ [] → ls ≡ with_reclaimed net h (plain ls)
untouched_with net h ls e = sym (untouched_told net (record_of h) (standing_of h) ls e)

reclaims_next : (net : Net) (w : World) (h : History) (k : ℕ) (s : Step) → IsNet net → 1 ≤ net.quiet → WorldFits net w → RecordsFit net w h → StepIn net s → StoredFit net w h.stored → (let ls = (next net w (record { number = k; step = s })).lines in ls ≡ with_reclaimed net h (plain ls))
unfolding next_by
reclaims_next net w h k (step.Clock now) n z f r i g = refl
reclaims_next net w h k (step.Publish p number None e) n z f r i g = untouched_with net h (publish_now net w p number e).lines (publish_untouched net w p number e)
reclaims_next net w h k (step.Publish p number (Some stop) e) n z f r i g = untouched_with net h (publish_stopped net w k p number stop e).lines (stopped_untouched net w k p number stop e)
reclaims_next net w h k (step.Wake b) n z f r i g = tells_with net w h (wake_all net w b) f r g (wake_all_tells net w b n z f i)
reclaims_next net w h k (step.Deliver j) n z f r i g = go (frame_at w j)
  where
    go : (o : Option Frame) → (let t : Transition = elim o [ None ↦ unchanged w (line.RefusedFrame k j (length w.frames) ∷ []) | Some x ↦ deliver_frame net w x ] in t.lines ≡ with_reclaimed net h (plain t.lines))
    go None = refl
    go (Some x) = untouched_with net h (deliver_frame net w x).lines (deliver_untouched net w x)
reclaims_next net w h k (step.Crash b) n z f r i g = go (not_empty (net.subscribers_at b))
  where
    go : (q : Bool) → (let t : Transition = elim q [ true ↦ unchanged w (line.RefusedHosts k b ∷ []) | false ↦ crash net w b ] in t.lines ≡ with_reclaimed net h (plain t.lines))
    go true = refl
    go false = untouched_with net h (crash net w b).lines (crash_untouched net w b)
reclaims_next net w h k step.Sweep n z f r i g = tells_with net w h (sweep net w k) f r g (sweep_tells net w k n z f)
reclaims_next net w h k step.Show n z f r i g = untouched_with net h (show net w) (show_untouched net w)
reclaims_next net w h k (step.Bytes j) n z f r i g = go (frame_at w j)
  where
    go : (o : Option Frame) → (let t : Transition = elim o [ None ↦ unchanged w (line.RefusedFrame k j (length w.frames) ∷ []) | Some x ↦ unchanged w (line.BytesOf j (frame_bytes x) ∷ []) ] in t.lines ≡ with_reclaimed net h (plain t.lines))
    go None = refl
    go (Some x) = refl
reclaims_next net w h k (step.Join s p) n z f r i g = untouched_with net h (join_now net w s p).lines (join_untouched net w s p)

-- a log that is written anew is told so directly behind its cut, and nothing else is
pub next_reclaims : (net : Net) (w : World) (h : History) (l : Line) → IsNet net → 1 ≤ net.quiet → WorldFits net w → RecordsFit net w h → StepIn net l.step → StoredFit net w h.stored → (next net w l).lines ≡ with_reclaimed net h (plain (next net w l).lines)
next_reclaims net w h l n z f r i g = reclaims_next net w h l.number l.step n z f r i g

-- The start

-- at the start what the history says is stored is what the logs say
pub start_stored : (net : Net) → StoredFit net (start net) (begin net).stored
unfolding begin
start_stored net = record {
  long = length-replicate net.publishers first_stored;
  each = λ q j. get_or-replicate net.publishers q first_stored first_stored j ∙ ap stored_now (sym (start_log net q j));
}

-- over old logs it begins with what is stored of those
pub over_stored : (net : Net) (w : World) (logs : List Log) (told : List Report) → ((q : ℕ) → q < net.publishers → log_of w q ≡ reopened_log logs q) → StoredFit net w (begin_over net logs told).stored
unfolding begin_over
over_stored net w logs told e = record {
  long = long_map (numbers net.publishers) ∙ long_numbers 0 net.publishers;
  each = λ q j. get_numbers (λ p. stored_now (reopened_log logs p)) 0 net.publishers q first_stored j ∙ (ap (λ p. stored_now (reopened_log logs p)) (let z : 0 + q ≡ q = omega arith in z) ∙ ap stored_now (sym (e q j)));
}
  where
    long_map : (ps : List ℕ) → length (map (λ p. stored_now (reopened_log logs p)) ps) ≡ length ps
    long_map [] = refl
    long_map (p ∷ ps) = ap suc (long_map ps)

    long_numbers : (a n : ℕ) → length (numbers_from a n) ≡ n
    long_numbers a zero = refl
    long_numbers a (suc n) = ap suc (long_numbers (suc a) n)
