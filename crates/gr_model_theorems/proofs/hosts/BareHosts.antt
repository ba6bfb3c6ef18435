-- A host that keeps a horizon has it where its log is settled, or at 0 while nothing was logged or marked since it started: over every schedule without a sweep
use Rattle.std.proofs.Common.{◌≡◌, ◌≢◌, ◌⊎◌, inl, inr, ℕ, suc, zero, ◌+◌, ◌-◌, ◌≤◌, ◌<◌, max, Bool, true, false, not, ◌&&◌, ◌||◌, List, [], ◌∷◌, ◌++◌, map, length, set, get_or, refl, sym, ap, ap₂, ◌∙◌, subst, Option, Some, None, arith}
use Rattle.std.specs.Prelude.{nat_eq, nat_le, nat_lt, if◌then◌else◌, flat_map}
use Rattle.std.specs.List.{list_any}
use Rattle.std.proofs.lemmas.Bool.{cases_Bool, cases_eq, eq-eqb, ne_eqb, false≢true, true≢false, both_ways, lt-leb, le-ltb}
use Rattle.std.proofs.lemmas.List.{get_or-set_other, get_or-set_same}
use Rattle.gr_event.specs.Joins.{has_joined, longer}
use Rattle.gr_event.specs.declared.event.Event.{Event}
use Rattle.gr_frame.specs.declared.Body.{Body}
use Rattle.gr_frame.specs.declared.Body.TheVariants as body
use Rattle.gr_frame.specs.declared.Frame.{Frame}
use Rattle.gr_frame.specs.Bytes.{frame_bytes}
use Rattle.gr_sched.specs.declared.step.Stop.{Stop}
use Rattle.gr_sched.specs.declared.step.Step.{Step}
use Rattle.gr_sched.specs.declared.step.Step.TheVariants as step
use Rattle.gr_model.specs.declared.report.Report.{Report}
use Rattle.gr_model.specs.declared.report.Report.TheVariants as line
use Rattle.gr_model.specs.Net.{is_late, Net, is_host, keeps_horizon, numbers, numbers_from, not_empty}
use Rattle.gr_model.specs.Broker.{joining, with_joins, drops, View, Log, Outcome, empty_log, learn, publish, wake, wake_host, wake_below, curiosity, receive, expect, place_of, with_event, is_kept, max_tick, started}
use Rattle.gr_model.specs.World.{join_now_by, World, Transition, blank_view, view_of, log_of, absorbed, unchanged, followed_by, in_turn, frame_at, restarted, crash, show, opened_lines, kept_events, deliver_frame_by, next_by, publish_now_by, publish_stopped_by, wake_all_by, wake_for_by}
use Rattle.gr_model_calls.specs.OneNet.{join_now, wake_for, deliver_frame, publish_now, publish_stopped, next}
use Rattle.gr_model.specs.Headline.{join_line, Recorded, History, is_record_line, is_record_of, publish_line, unlogged_after, each_flag, may_crash, is_next}
use Rattle.gr_model.specs.Tree.{IsNet}
use Rattle.gr_model_calls.specs.Fits.{WorldFits, FrameTrue, HostKnows, StepIn, reached_in}
use Rattle.gr_model_theorems.specs.Order.{is_sweep}
use Rattle.gr_model_calls.proofs.calls.HostCases.{joining_cases, publish_cases, marking_cases}
use Rattle.gr_model_calls.proofs.calls.Calls.{trimmed_horizon}
use Rattle.gr_model_theorems.proofs.records.Records.{core, core_of, receive_log, wake_core}
use Rattle.gr_model_theorems.proofs.records.Recorded.{RecordsFit, record_core}
use Rattle.gr_model_theorems.proofs.records.RecordLines.{join_now_recs, recs, wake_for_recs, deliver_recs, publish_now_recs}
use Rattle.gr_model_theorems.proofs.hosts.HostHorizon.{joining_meets, wake_meets, publish_meets}
use Rattle.gr_model_calls.proofs.asks.AskMoments.{ExpectFits, ExpectBody}
use Rattle.gr_model_calls.proofs.runs.Closed.{with_logs, frame_at_ready}
use Rattle.gr_model_calls.proofs.runs.Worlds.{held_by_host, Each, absorbed_changed, wake_for_kept}
use Rattle.gr_model_calls.proofs.runs.Schedules.{frame_at_true, get_numbers}

-- some line says that something was logged or marked for p
abbrev pub told_of : ℕ → List Report → Bool
told_of p ls = list_any (is_record_of p) ls

not_record : (p : ℕ) (l : Report) → is_record_line l ≡ false → is_record_of p l ≡ false
not_record p (line.Logged q n t) e = absurd (true≢false e)
not_record p (line.Mark q t) e = absurd (true≢false e)
not_record p (line.Joined s q t) e = absurd (true≢false e)
not_record p _ e = refl

-- whether something was logged or marked is said by the recorded lines alone
pub told_recs : (p : ℕ) (ls : List Report) → told_of p ls ≡ told_of p (recs ls)
told_recs p [] = refl
told_recs p (l ∷ ls) =
    elim (cases_Bool (is_record_line l)) [
      | inl e ↦ rw e (ap (λ b. is_record_of p l || b) (told_recs p ls))
      | inr e ↦ rw e (rw (not_record p l e) (told_recs p ls))
    ]

-- something was logged or marked in two lists of lines where it was in one of them
pub told_append : (p : ℕ) (xs ys : List Report) → told_of p (xs ++ ys) ≡ (told_of p xs || told_of p ys)
told_append p [] ys = refl
told_append p (x ∷ xs) ys = go (is_record_of p x) (told_append p xs ys)
  where
    go : (b : Bool) → told_of p (xs ++ ys) ≡ (told_of p xs || told_of p ys) → (b || told_of p (xs ++ ys)) ≡ ((b || told_of p xs) || told_of p ys)
    go true e = refl
    go false e = e

-- the horizon of a publisher's host, and where its log is settled
abbrev pub host_horizon : Net → ℕ → World → ℕ
host_horizon net p w = (view_of w (net.host p) p).horizon

-- where a publisher's log is settled
abbrev pub host_settled : ℕ → World → ℕ
host_settled p w = (log_of w p).settled

-- where something was logged or marked the horizon is where the log is settled; else both stay
pub record RecordsFirst (net : Net) (p : ℕ) (w : World) (t : Transition) : Type 0 where
  pub told : told_of p t.lines ≡ true → host_horizon net p t.world ≡ host_settled p t.world
  pub still : told_of p t.lines ≡ false → (host_horizon net p t.world ≡ host_horizon net p w) × (host_settled p t.world ≡ host_settled p w)

-- where nothing is logged or marked, the host's horizon and what is settled stay
pub tells_still : (net : Net) (p : ℕ) (w : World) (t : Transition) → told_of p t.lines ≡ false → host_horizon net p t.world ≡ host_horizon net p w → host_settled p t.world ≡ host_settled p w → RecordsFirst net p w t
tells_still net p w t e h s = record { told = λ x. absurd (false≢true (sym e ∙ x)); still = λ x. (h, s) }

tells_seq : (net : Net) (p : ℕ) (w : World) (t : Transition) (f : World → Transition) → RecordsFirst net p w t → RecordsFirst net p t.world (f t.world) → RecordsFirst net p w (followed_by t f)
tells_seq net p w t f a b = go (told_of p t.lines) (told_of p (f t.world).lines) refl refl
  where
    go : (x y : Bool) → told_of p t.lines ≡ x → told_of p (f t.world).lines ≡ y → RecordsFirst net p w (followed_by t f)
    go x true e g = record { told = λ z. b.told g; still = λ z. absurd (no_or x (sym (ap₂ (λ c d. c || d) e g) ∙ (sym (told_append p t.lines (f t.world).lines) ∙ z))) }
      where
        no_or : (c : Bool) → (c || true) ≡ false → ⊥
        no_or true h = true≢false h
        no_or false h = true≢false h
    go true false e g = record {
      told = λ z. (b.still g).0 ∙ (a.told e ∙ sym (b.still g).1);
      still = λ z. absurd (true≢false (sym (ap₂ (λ c d. c || d) e g) ∙ (sym (told_append p t.lines (f t.world).lines) ∙ z)));
    }
    go false false e g = tells_still net p w (followed_by t f) (told_append p t.lines (f t.world).lines ∙ ap₂ (λ c d. c || d) e g) ((b.still g).0 ∙ (a.still e).0) ((b.still g).1 ∙ (a.still e).1)

-- Calls

-- a call for another publisher, or at another broker with the log as it was
other_tells : (net : Net) (p : ℕ) (w : World) (b q : ℕ) (o : Outcome) (ls : List Report) → WorldFits net w → b < net.brokers → q < net.publishers → told_of p ls ≡ false → (absorbed w b q o).lines ≡ ls → (q ≢ p) ⊎ ((net.host p ≢ b) × (o.log.settled ≡ (log_of w q).settled)) → RecordsFirst net p w (absorbed w b q o)
other_tells net p w b q o ls f i j e g n =
    let c = absorbed_changed net w b q o f i j in
    elim n [
      | inl x ↦ tells_still net p w (absorbed w b q o) (ap (told_of p) g ∙ e) (ap (λ v. v.horizon) (c.other_publisher (net.host p) p (λ h. x (sym h)))) (ap (λ l. l.settled) (c.other_log p (λ h. x (sym h))))
      | inr x ↦ tells_still net p w (absorbed w b q o) (ap (told_of p) g ∙ e) (ap (λ v. v.horizon) (c.other_broker (net.host p) p x.0)) (elim (cases_eq q p) [
        | inl h ↦ subst (λ z. host_settled z (absorbed w b q o).world ≡ host_settled z w) h (ap (λ l. l.settled) c.log ∙ x.1)
        | inr h ↦ ap (λ l. l.settled) (c.other_log p (λ k. h (sym k)))
      ])
    ]

wake_view : (net : Net) (p b now : ℕ) (v : View) (log : Log) → is_host net p b ≡ true → nat_le (log.settled + net.quiet) now ≡ false → (wake net p b now v log).view ≡ v
unfolding wake wake_host
wake_view net p b now v log host e = go (is_host net p b) host
  where
    go : (q : Bool) → q ≡ true → (let u : Outcome = elim q [ true ↦ wake_host net p b now v log | false ↦ wake_below net p b now v log ] in u.view) ≡ v
    go false x = absurd (false≢true x)
    go true x = marking_cases net p b now v log (λ o. o.view ≡ v) (λ q. absurd (both_ways (nat_le (log.settled + net.quiet) now) e q)) (λ q. refl)

mark_told : (p q clock : ℕ) (c : Bool) → told_of p (if c then line.Mark q clock ∷ [] else []) ≡ (c && nat_eq q p)
mark_told p q clock true = or_false (nat_eq q p)
  where
    or_false : (b : Bool) → (b || false) ≡ b
    or_false true = refl
    or_false false = refl
mark_told p q clock false = refl

wake_lines_told : (net : Net) (p : ℕ) (w : World) (b q : ℕ) → 1 ≤ net.quiet → told_of p (wake_for net w b q).lines ≡ ((is_host net q b && nat_le (host_settled q w + net.quiet) w.clock) && nat_eq q p)
wake_lines_told net p w b q z = told_recs p (wake_for net w b q).lines ∙ (ap (told_of p) (wake_for_recs net w b q z) ∙ mark_told p q w.clock (is_host net q b && nat_le (host_settled q w + net.quiet) w.clock))

and_false : (b : Bool) → (b && false) ≡ false
and_false true = refl
and_false false = refl

keeps_here : (net : Net) (p b : ℕ) → net.host p ≡ b → keeps_horizon net p (net.host p) ≡ true → keeps_horizon net p b ≡ true
keeps_here net p b g k = subst (λ z. keeps_horizon net p z ≡ true) g k

wake_bare : (net : Net) (p : ℕ) (w : World) (b q : ℕ) → IsNet net → 1 ≤ net.quiet → WorldFits net w → b < net.brokers → q < net.publishers → keeps_horizon net p (net.host p) ≡ true → RecordsFirst net p w (wake_for net w b q)
unfolding wake_for_by
wake_bare net p w b q n z f i j keeps =
    elim (cases_eq q p) [
      | inr e ↦ other_tells net p w b q (wake net q b w.clock (view_of w b q) (log_of w q)) (wake_for net w b q).lines f i j (wake_lines_told net p w b q z ∙ (ap (λ c. (is_host net q b && nat_le (host_settled q w + net.quiet) w.clock) && c) (ne_eqb q p e) ∙ and_false (is_host net q b && nat_le (host_settled q w + net.quiet) w.clock))) refl (inl e)
      | inl e ↦ subst (λ a. a < net.publishers → RecordsFirst net p w (wake_for net w b a)) (sym e) here j
    ]
  where
    settled_now : p < net.publishers → (wake net p b w.clock (view_of w b p) (log_of w p)).log.settled ≡ (let r : Recorded = if is_host net p b then (if nat_le (host_settled p w + net.quiet) w.clock then record { last = (log_of w p).last; settled = w.clock; events = (log_of w p).events; joined = (log_of w p).joins } else core_of w p) else core_of w p in r.settled)
    settled_now k = ap (λ r. r.settled) (wake_core net p b w.clock (view_of w b p) (log_of w p) (f.logs p k).keeps)

    here : p < net.publishers → RecordsFirst net p w (wake_for net w b p)
    here k =
        let o = wake net p b w.clock (view_of w b p) (log_of w p) in
        let c = absorbed_changed net w b p o f i k in
        let u = (absorbed w b p o).world in
        let t = wake_lines_told net p w b p z in
        elim (cases_eq (net.host p) b) [
          | inr g ↦
              let no : is_host net p b ≡ false = ne_eqb (net.host p) b g in
              other_tells net p w b p o (wake_for net w b p).lines f i k (t ∙ ap (λ x. (x && nat_le (host_settled p w + net.quiet) w.clock) && nat_eq p p) no) refl (inr (g, settled_now k ∙ rw no refl))
          | inl g ↦
              let yes : is_host net p b ≡ true = eq-eqb (net.host p) b g in
              elim (cases_Bool (nat_le (host_settled p w + net.quiet) w.clock)) [
                | inl y ↦
                    let m : o.view.horizon ≡ o.log.settled = wake_meets net p b w.clock (view_of w b p) (log_of w p) (reached_in net w p) n k i yes (keeps_here net p b g keeps) (f.logs p k) (f.views p b k i) (held_by_host net w b p f k yes) (subst (λ a. HostKnows (view_of w a p) (log_of w p).settled) g (f.known p k)) (λ x. absurd (both_ways (nat_le (host_settled p w + net.quiet) w.clock) x y)) in
                    record {
                      told = λ x. ap (λ a. (view_of u a p).horizon) g ∙ (ap (λ v. v.horizon) c.view ∙ (m ∙ ap (λ l. l.settled) (sym c.log)));
                      still = λ x. absurd (true≢false (sym (t ∙ ap₂ (λ a d. a && d) (ap₂ (λ a d. a && d) yes y) (eq-eqb p p refl)) ∙ x));
                    }
                | inr y ↦ tells_still net p w (absorbed w b p o) (t ∙ ap (λ a. a && nat_eq p p) (ap₂ (λ a d. a && d) yes y))
                    (ap (λ a. (view_of u a p).horizon) g ∙ (ap (λ v. v.horizon) (c.view ∙ wake_view net p b w.clock (view_of w b p) (log_of w p) yes y) ∙ ap (λ a. (view_of w a p).horizon) (sym g)))
                    (ap (λ l. l.settled) c.log ∙ (settled_now k ∙ rw (yes, y) refl))
              ]
        ]

wakes_bare : (net : Net) (p : ℕ) (w : World) (a m b : ℕ) → IsNet net → 1 ≤ net.quiet → WorldFits net w → b < net.brokers → a + m ≤ net.publishers → keeps_horizon net p (net.host p) ≡ true → RecordsFirst net p w (in_turn (λ u q. wake_for net u b q) (numbers_from a m) w)
wakes_bare net p w a zero b n z f i h keeps = tells_still net p w (unchanged w []) refl refl refl
wakes_bare net p w a (suc m) b n z f i h keeps =
    let j : a < net.publishers = omega arith in
    tells_seq net p w (wake_for net w b a) (in_turn (λ u q. wake_for net u b q) (numbers_from (suc a) m)) (wake_bare net p w b a n z f i j keeps)
    (wakes_bare net p (wake_for net w b a).world (suc a) m b n z (wake_for_kept net w b a n f i j).fits i (omega arith) keeps)

receive_horizon : (net : Net) (now : ℕ) (x : Frame) (v : View) (log : Log) → ExpectFits net x → is_host net x.head.publisher x.head.to ≡ true → (receive net now x v log).view.horizon ≡ v.horizon
unfolding receive curiosity
receive_horizon net now x v log fits host = go x.body fits
  where
    go : (y : Body) → ExpectBody net x.head.publisher x.head.to y → (let o : Outcome = elim y [
      | body.Knowledge runs js ↦ elim (drops v runs js) [ true ↦ record { view = v; log = log; lines = []; frames = [] } | false ↦ learn net x.head.publisher x.head.to runs (with_joins v (longer v.joins js)) log ]
      | body.Curiosity runs ↦ curiosity net x.head.publisher x.head.to now x.head.from (place_of x.head.from (net.children x.head.publisher x.head.to)) runs v log
      | body.Expect tick ↦ expect net x.head.publisher x.head.to now tick v log
    ] in o.view.horizon) ≡ v.horizon
    go (body.Knowledge runs js) h = absurd (true≢false (sym host ∙ h))
    go (body.Curiosity runs) h = trimmed_horizon net x.head.publisher x.head.to _
    go (body.Expect tick) h = absurd (true≢false (sym host ∙ h))

deliver_bare : (net : Net) (p : ℕ) (w : World) (x : Frame) → WorldFits net w → FrameTrue net w x → ExpectFits net x → RecordsFirst net p w (deliver_frame net w x)
unfolding deliver_frame_by
deliver_bare net p w x f tr fits =
    let b = x.head.to in
    let q = x.head.publisher in
    let o = receive net w.clock x (view_of w b q) (log_of w q) in
    let c = absorbed_changed net w b q o f tr.fits.to_in tr.publisher_in in
    let u = (absorbed w b q o).world in
    let same : o.log.settled ≡ (log_of w q).settled = ap (λ l. l.settled) (receive_log net w.clock x (view_of w b q) (log_of w q)) in
    let t : told_of p (deliver_frame net w x).lines ≡ false = told_recs p (deliver_frame net w x).lines ∙ ap (told_of p) (deliver_recs net w x) in
    elim (cases_eq q p) [
      | inr e ↦ other_tells net p w b q o (deliver_frame net w x).lines f tr.fits.to_in tr.publisher_in t refl (inl e)
      | inl e ↦ elim (cases_eq (net.host p) b) [
        | inr g ↦ other_tells net p w b q o (deliver_frame net w x).lines f tr.fits.to_in tr.publisher_in t refl (inr (g, same))
        | inl g ↦ tells_still net p w (absorbed w b q o) t
            (ap₂ (λ a d. (view_of u a d).horizon) g (sym e) ∙ (ap (λ v. v.horizon) c.view ∙ (receive_horizon net w.clock x (view_of w b q) (log_of w q) fits (eq-eqb (net.host q) b (ap net.host e ∙ g)) ∙ ap₂ (λ a d. (view_of w a d).horizon) (sym g) e)))
            (ap (λ a. host_settled a u) (sym e) ∙ (ap (λ l. l.settled) c.log ∙ (same ∙ ap (λ a. host_settled a w) e)))
      ]
    ]

publish_still : (net : Net) (p b now number : ℕ) (e : Event) (v : View) (log : Log) → is_record_of p (publish_line p now number (core log)) ≡ false → ((publish net p b now number e v log).view ≡ v) × ((publish net p b now number e v log).log ≡ log)
publish_still net p b now number e v log h =
    publish_cases net p b now number e v log (λ o. (o.view ≡ v) × (o.log ≡ log)) (λ l. (refl, refl)) (λ l. (refl, refl)) (λ x l. (refl, refl)) (λ x l. absurd (true≢false (sym (recorded x l) ∙ h)))
  where
    recorded : number ≡ suc log.last → max (suc log.settled) now ≤ max_tick → is_record_of p (publish_line p now number (core log)) ≡ true
    recorded x l = rw (lt-leb number log.last (omega (arith, x)), le-ltb (suc log.last) number (omega (arith, x)), le-ltb max_tick (max (suc log.settled) now) l) (eq-eqb p p refl)

publish_other : (p q now number : ℕ) (r : Recorded) → q ≢ p → is_record_of p (publish_line q now number r) ≡ false
publish_other p q now number r n = go (nat_le number r.last) (nat_lt (suc r.last) number) (nat_lt max_tick (max (suc r.settled) now))
  where
    go : (x y z : Bool) → is_record_of p (if x then line.Already q number else (if y then line.Gap q number (suc r.last) else (if z then line.Exhausted q number else line.Logged q number (max (suc r.settled) now)))) ≡ false
    go true y z = refl
    go false true z = refl
    go false false true = refl
    go false false false = ne_eqb q p n

or_false : (b : Bool) → (b || false) ≡ b
or_false true = refl
or_false false = refl

publish_bare : (net : Net) (p : ℕ) (w : World) (q number : ℕ) (v : Event) → IsNet net → WorldFits net w → q < net.publishers → keeps_horizon net p (net.host p) ≡ true → RecordsFirst net p w (publish_now net w q number v)
unfolding publish_now_by
publish_bare net p w q number v n f j keeps =
    elim (cases_eq q p) [
      | inr e ↦ other_tells net p w (net.host q) q (publish net q (net.host q) w.clock number v (view_of w (net.host q) q) (log_of w q)) (publish_now net w q number v).lines f (n.host_in q j) j (told q ∙ publish_other p q w.clock number (core_of w q) e) refl (inl e)
      | inl e ↦ subst (λ a. a < net.publishers → RecordsFirst net p w (publish_now net w a number v)) (sym e) here j
    ]
  where
    told : (a : ℕ) → told_of p (publish_now net w a number v).lines ≡ is_record_of p (publish_line a w.clock number (core_of w a))
    told a = told_recs p (publish_now net w a number v).lines ∙ (ap (told_of p) (publish_now_recs net w a number v) ∙ or_false (is_record_of p (publish_line a w.clock number (core_of w a))))

    here : p < net.publishers → RecordsFirst net p w (publish_now net w p number v)
    here k =
        let b = net.host p in
        let o = publish net p b w.clock number v (view_of w b p) (log_of w p) in
        let c = absorbed_changed net w b p o f (n.host_in p k) k in
        elim (cases_Bool (is_record_of p (publish_line p w.clock number (core_of w p)))) [
          | inl y ↦
              let m : o.view.horizon ≡ o.log.settled = publish_meets net p b w.clock number v (view_of w b p) (log_of w p) (reached_in net w p) n k (n.host_in p k) (eq-eqb b b refl) keeps (f.logs p k) (f.views p b k (n.host_in p k)) (f.hosts p k) (f.known p k) (λ x. absurd (both_ways (is_record_of p (publish_line p w.clock number (core_of w p))) x y)) in
              record {
                told = λ x. ap (λ a. a.horizon) c.view ∙ (m ∙ ap (λ l. l.settled) (sym c.log));
                still = λ x. absurd (true≢false (sym (told p ∙ y) ∙ x));
              }
          | inr y ↦
              let s = publish_still net p b w.clock number v (view_of w b p) (log_of w p) y in
              tells_still net p w (absorbed w b p o) (told p ∙ y) (ap (λ a. a.horizon) (c.view ∙ s.0)) (ap (λ l. l.settled) (c.log ∙ s.1))
        ]

joining_still : (net : Net) (p b now s : ℕ) (v : View) (log : Log) → is_record_of p (join_line s p now (core log)) ≡ false → ((joining net p b now s v log).view ≡ v) × ((joining net p b now s v log).log ≡ log)
joining_still net p b now s v log h =
    joining_cases net p b now s v log (λ o. (o.view ≡ v) × (o.log ≡ log)) (λ e. (refl, refl)) (λ e l. (refl, refl)) (λ e l. absurd (true≢false (sym (recorded e l) ∙ h)))
  where
    recorded : has_joined log.joins s ≡ false → max (suc log.settled) now ≤ max_tick → is_record_of p (join_line s p now (core log)) ≡ true
    recorded e l = rw (e, le-ltb max_tick (max (suc log.settled) now) l) (eq-eqb p p refl)

join_other : (s p q now : ℕ) (r : Recorded) → q ≢ p → is_record_of p (join_line s q now r) ≡ false
join_other s p q now r n = go (has_joined r.joined s) (nat_lt max_tick (max (suc r.settled) now))
  where
    go : (x y : Bool) → is_record_of p (if x then line.AlreadyJoined s q else (if y then line.ExhaustedJoin s q else line.Joined s q (max (suc r.settled) now))) ≡ false
    go true y = refl
    go false true = refl
    go false false = ne_eqb q p n

join_bare : (net : Net) (p : ℕ) (w : World) (s q : ℕ) → IsNet net → WorldFits net w → is_late net s ≡ true → q < net.publishers → keeps_horizon net p (net.host p) ≡ true → RecordsFirst net p w (join_now net w s q)
unfolding join_now_by
join_bare net p w s q n f late j keeps =
    elim (cases_eq q p) [
      | inr e ↦ other_tells net p w (net.host q) q (joining net q (net.host q) w.clock s (view_of w (net.host q) q) (log_of w q)) (join_now net w s q).lines f (n.host_in q j) j (told q ∙ join_other s p q w.clock (core_of w q) e) refl (inl e)
      | inl e ↦ subst (λ a. a < net.publishers → RecordsFirst net p w (join_now net w s a)) (sym e) here j
    ]
  where
    told : (a : ℕ) → told_of p (join_now net w s a).lines ≡ is_record_of p (join_line s a w.clock (core_of w a))
    told a = told_recs p (join_now net w s a).lines ∙ (ap (told_of p) (join_now_recs net w s a) ∙ or_false (is_record_of p (join_line s a w.clock (core_of w a))))

    here : p < net.publishers → RecordsFirst net p w (join_now net w s p)
    here k =
        let b = net.host p in
        let o = joining net p b w.clock s (view_of w b p) (log_of w p) in
        let c = absorbed_changed net w b p o f (n.host_in p k) k in
        elim (cases_Bool (is_record_of p (join_line s p w.clock (core_of w p)))) [
          | inl y ↦
              let m : o.view.horizon ≡ o.log.settled = joining_meets net p b w.clock s (view_of w b p) (log_of w p) (reached_in net w p) n late k (n.host_in p k) (eq-eqb b b refl) keeps (f.logs p k) (f.views p b k (n.host_in p k)) (f.known p k) (λ x. absurd (both_ways (is_record_of p (join_line s p w.clock (core_of w p))) x y)) in
              record {
                told = λ x. ap (λ a. a.horizon) c.view ∙ (m ∙ ap (λ l. l.settled) (sym c.log));
                still = λ x. absurd (true≢false (sym (told p ∙ y) ∙ x));
              }
          | inr y ↦
              let t = joining_still net p b w.clock s (view_of w b p) (log_of w p) y in
              tells_still net p w (absorbed w b p o) (told p ∙ y) (ap (λ a. a.horizon) (c.view ∙ t.0)) (ap (λ l. l.settled) (c.log ∙ t.1))
        ]

-- Starting again

-- a broker that starts has its horizon at 0
pub started_horizon : (net : Net) (p b : ℕ) (log : Log) → (started net p b log).horizon ≡ 0
unfolding started
started_horizon net p b log = refl

restarted_here : (net : Net) (w : World) (logs : List Log) (b p : ℕ) → WorldFits net w → b < net.brokers → p < net.publishers → net.host p ≡ b → host_horizon net p (restarted net (with_logs w logs) b) ≡ 0
unfolding restarted
restarted_here net w logs b p f i j g =
    let k : ℕ → View = λ q. started net q b (get_or logs q empty_log) in
    let u = restarted net (with_logs w logs) b in
    let here : view_of u b p ≡ started net (0 + p) b (get_or logs (0 + p) empty_log) = ap (λ row. get_or row p blank_view) (get_or-set_same w.views b (map k (numbers net.publishers)) [] (omega (arith, f.views_long))) ∙ get_numbers k 0 net.publishers p blank_view j in
    ap (λ a. (view_of u a p).horizon) g ∙ (ap (λ v. v.horizon) here ∙ started_horizon net (0 + p) b (get_or logs (0 + p) empty_log))

restarted_there : (net : Net) (w : World) (logs : List Log) (b p : ℕ) → net.host p ≢ b → host_horizon net p (restarted net (with_logs w logs) b) ≡ host_horizon net p w
unfolding restarted
restarted_there net w logs b p e = ap (λ (row : List View). (get_or row p blank_view).horizon) (get_or-set_other w.views b (net.host p) (map (λ q. started net q b (get_or logs q empty_log)) (numbers net.publishers)) [] e)

restarted_settled : (net : Net) (w : World) (logs : List Log) (b p : ℕ) → host_settled p (restarted net (with_logs w logs) b) ≡ (let l = get_or logs p empty_log in l.settled)
unfolding restarted
restarted_settled net w logs b p = refl

opened_untold : (net : Net) (p : ℕ) (logs : List Log) (b : ℕ) → told_of p (opened_lines net logs b) ≡ false
unfolding opened_lines
opened_untold net p logs b = go (numbers net.publishers)
  where
    here : ℕ → List Report
    here q = let log = get_or logs q empty_log in if nat_eq (net.host q) b && nat_lt 0 log.settled then line.Opened q log.last log.settled log.cut ∷ [] else []

    one : (q : ℕ) (c : Bool) → told_of p (let log = get_or logs q empty_log in if c then line.Opened q log.last log.settled log.cut ∷ [] else []) ≡ false
    one q true = refl
    one q false = refl

    go : (qs : List ℕ) → told_of p (flat_map here qs) ≡ false
    go [] = refl
    go (q ∷ qs) = told_append p (here q) (flat_map here qs) ∙ ap₂ (λ a b. a || b) (one q (nat_eq (net.host q) b && nat_lt 0 (get_or logs q empty_log).settled)) (go qs)

show_untold : (net : Net) (p : ℕ) (w : World) → told_of p (show net w) ≡ false
unfolding show
show_untold net p w = logs (numbers net.publishers)
  where
    log_line : ℕ → Report
    log_line q = let l = log_of w q in line.LogOf q l.last l.settled l.cut (kept_events l)

    here : ℕ → ℕ → List Report
    here b q = if keeps_horizon net q b then line.Doubt b q (view_of w b q).horizon ∷ [] else []

    there : ℕ → List Report
    there b = flat_map (here b) (numbers net.publishers)

    one : (b q : ℕ) (c : Bool) → told_of p (if c then line.Doubt b q (view_of w b q).horizon ∷ [] else []) ≡ false
    one b q true = refl
    one b q false = refl

    row : (b : ℕ) (qs : List ℕ) → told_of p (flat_map (here b) qs) ≡ false
    row b [] = refl
    row b (q ∷ qs) = told_append p (here b q) (flat_map (here b) qs) ∙ ap₂ (λ a b. a || b) (one b q (keeps_horizon net q b)) (row b qs)

    doubts : (bs : List ℕ) → told_of p (flat_map there bs) ≡ false
    doubts [] = refl
    doubts (b ∷ bs) = told_append p (there b) (flat_map there bs) ∙ ap₂ (λ a b. a || b) (row b (numbers net.publishers)) (doubts bs)

    logs : (qs : List ℕ) → told_of p (map log_line qs ++ flat_map there (numbers net.brokers)) ≡ false
    logs [] = doubts (numbers net.brokers)
    logs (q ∷ qs) = logs qs

-- The flags

-- the horizon of a host that has the flag
abbrev pub bare_horizon : Net → List Bool → World → ℕ → ℕ
bare_horizon net bare w p = if get_or bare p true && may_crash net (net.host p) then 0 else (log_of w p).settled

-- one flag for each publisher: its host, where it keeps a horizon,
-- has it at 0 under the flag, and else where the log is settled
pub record Unlogged (net : Net) (w : World) (bare : List Bool) : Type 0 where
  pub long : length bare ≡ net.publishers
  pub fits : (p : ℕ) → p < net.publishers → keeps_horizon net p (net.host p) ≡ true → host_horizon net p w ≡ bare_horizon net bare w p

each_bare-long : (f : ℕ → Bool → Bool) (a : ℕ) (bs : List Bool) → length (each_flag f a bs) ≡ length bs
each_bare-long f a [] = refl
each_bare-long f a (b ∷ bs) = ap suc (each_bare-long f (suc a) bs)

each_bare-get : (f : ℕ → Bool → Bool) (a : ℕ) (bs : List Bool) (i : ℕ) → i < length bs → get_or (each_flag f a bs) i true ≡ f (a + i) (get_or bs i true)
each_bare-get f a [] i h = absurd (omega arith)
each_bare-get f a (b ∷ bs) zero h = ap (λ k. f k b) (omega arith)
each_bare-get f a (b ∷ bs) (suc i) h = each_bare-get f (suc a) bs i (omega arith) ∙ ap (λ k. f k (get_or bs i true)) (omega arith)

-- a step without a crash
pub tells_bare : (net : Net) (w : World) (t : Transition) (bare : List Bool) → Unlogged net w bare → ((p : ℕ) → p < net.publishers → keeps_horizon net p (net.host p) ≡ true → RecordsFirst net p w t) → Unlogged net t.world (each_flag (λ p x. x && not (list_any (is_record_of p) t.lines)) 0 bare)
tells_bare net w t bare b a = record {
  long = each_bare-long f 0 bare ∙ b.long;
  fits = λ p j keeps.
      let g : get_or (each_flag f 0 bare) p true ≡ (get_or bare p true && not (told_of p t.lines)) = each_bare-get f 0 bare p (omega (arith, j, b.long)) ∙ ap (λ k. get_or bare p true && not (told_of k t.lines)) (omega arith) in
      elim (cases_Bool (told_of p t.lines)) [
        | inl e ↦ (a p j keeps).told e ∙ sym (ap (λ x. if x && may_crash net (net.host p) then 0 else host_settled p t.world) (g ∙ (ap (λ y. get_or bare p true && not y) e ∙ and_false (get_or bare p true))))
        | inr e ↦ ((a p j keeps).still e).0 ∙ (b.fits p j keeps ∙ (ap (λ s. if get_or bare p true && may_crash net (net.host p) then 0 else s) (sym ((a p j keeps).still e).1)
            ∙ sym (ap (λ x. if x && may_crash net (net.host p) then 0 else host_settled p t.world) (g ∙ (ap (λ y. get_or bare p true && not y) e ∙ and_true (get_or bare p true))))))
      ];
}
  where
    f : ℕ → Bool → Bool
    f p x = x && not (list_any (is_record_of p) t.lines)

    and_true : (x : Bool) → (x && true) ≡ x
    and_true true = refl
    and_true false = refl

-- a crash of b, with other logs for its publishers alone
restarted_bare : (net : Net) (w : World) (logs : List Log) (b : ℕ) (bare : List Bool) → WorldFits net w → b < net.brokers → may_crash net b ≡ true → ((p : ℕ) → p < net.publishers → net.host p ≢ b → get_or logs p empty_log ≡ log_of w p) → Unlogged net w bare → Unlogged net (restarted net (with_logs w logs) b) (each_flag (λ p x. is_host net p b || x) 0 bare)
restarted_bare net w logs b bare f i may same h = record {
  long = each_bare-long (λ p x. is_host net p b || x) 0 bare ∙ h.long;
  fits = λ p j keeps.
      let u = restarted net (with_logs w logs) b in
      let g : get_or (each_flag (λ p x. is_host net p b || x) 0 bare) p true ≡ (is_host net p b || get_or bare p true) = each_bare-get (λ p x. is_host net p b || x) 0 bare p (omega (arith, j, h.long)) ∙ ap (λ k. is_host net k b || get_or bare p true) (omega arith) in
      elim (cases_eq (net.host p) b) [
        | inl e ↦ restarted_here net w logs b p f i j e ∙ sym (ap₂ (λ x y. if x && y then 0 else host_settled p u) (g ∙ ap (λ c. c || get_or bare p true) (eq-eqb (net.host p) b e)) (ap (may_crash net) e ∙ may))
        | inr e ↦ restarted_there net w logs b p e ∙ (h.fits p j keeps ∙ (ap (λ s. if get_or bare p true && may_crash net (net.host p) then 0 else s) (sym (restarted_settled net w logs b p ∙ ap (λ l. l.settled) (same p j e)))
            ∙ sym (ap (λ x. if x && may_crash net (net.host p) then 0 else host_settled p u) (g ∙ ap (λ c. c || get_or bare p true) (ne_eqb (net.host p) b e)))))
      ];
}

crash_bare : (net : Net) (w : World) (b : ℕ) (bare : List Bool) → WorldFits net w → b < net.brokers → may_crash net b ≡ true → Unlogged net w bare → Unlogged net (crash net w b).world (each_flag (λ p x. is_host net p b || x) 0 bare)
unfolding crash
crash_bare net w b bare f i may h = let r = restarted_bare net w w.logs b bare f i may (λ p j e. refl) h in record { long = r.long; fits = r.fits }

-- the flags after a step that may crash a broker
abbrev flags : Net → Option ℕ → List Bool → List Report → List Bool
flags net o bare ls = elim o [ Some b ↦ each_flag (λ p x. is_host net p b || x) 0 bare | None ↦ each_flag (λ p x. x && not (list_any (is_record_of p) ls)) 0 bare ]

stopped_bare : (net : Net) (w : World) (k q number : ℕ) (stop : Stop) (e : Event) (bare : List Bool) → IsNet net → WorldFits net w → q < net.publishers → Unlogged net w bare →
    (let t = publish_stopped net w k q number stop e in Unlogged net t.world (flags net (if may_crash net (net.host q) && is_next w.clock (core_of w q) number then Some (net.host q) else None) bare t.lines))
unfolding publish_stopped_by
stopped_bare net w k q number stop e bare n f j h = go (not_empty (net.subscribers_at (net.host q))) (nat_eq number (suc log.last) && nat_le tick max_tick) refl
  where
    log : Log
    log = log_of w q

    tick : ℕ
    tick = max (suc log.settled) w.clock

    logs : List Log
    logs = if is_kept (log.size - 1) stop.call stop.pick then set w.logs q (with_event log tick e) else w.logs

    stopped : Transition
    stopped = record {
      world = restarted net (with_logs w logs) (net.host q);
      lines = line.Crashed (net.host q) ∷ ((if is_kept (log.size - 1) stop.call stop.pick then line.Kept q number tick else line.Lost q number tick) ∷ opened_lines net logs (net.host q));
    }

    same : (c : Bool) (p : ℕ) → p < net.publishers → net.host p ≢ net.host q → get_or (if c then set w.logs q (with_event log tick e) else w.logs) p empty_log ≡ log_of w p
    same true p i x = get_or-set_other w.logs q p (with_event log tick e) empty_log (λ y. x (ap net.host y))
    same false p i x = refl

    go : (x y : Bool) → not_empty (net.subscribers_at (net.host q)) ≡ x → (let t : Transition = elim x [ true ↦ unchanged w (line.RefusedHosts k (net.host q) ∷ []) | false ↦ elim y [ false ↦ publish_now net w q number e | true ↦ stopped ] ] in Unlogged net t.world (flags net (if not x && y then Some (net.host q) else None) bare t.lines))
    go true y z = tells_bare net w (unchanged w (line.RefusedHosts k (net.host q) ∷ [])) bare h (λ p i keeps. tells_still net p w (unchanged w (line.RefusedHosts k (net.host q) ∷ [])) refl refl refl)
    go false false z = tells_bare net w (publish_now net w q number e) bare h (λ p i keeps. publish_bare net p w q number e n f j keeps)
    go false true z = restarted_bare net w logs (net.host q) bare f (n.host_in q j) (ap not z) (same (is_kept (log.size - 1) stop.call stop.pick)) h

-- after each step but a sweep the flags say where the horizons of the hosts are
pub bare_by : (net : Net) (w : World) (h : History) (k : ℕ) (s : Step) → IsNet net → 1 ≤ net.quiet → WorldFits net w → RecordsFit net w h → Each (ExpectFits net) w.frames → StepIn net s → is_sweep s ≡ false → Unlogged net w h.unlogged → Unlogged net (next net w (record { number = k; step = s })).world (unlogged_after net h (record { number = k; step = s }) (next net w (record { number = k; step = s })).lines)
unfolding next_by unlogged_after wake_all_by
bare_by net w h k (step.Clock now) n z f r x i y a =
    let t = next net w (record { number = k; step = step.Clock now }) in
    tells_bare net w t h.unlogged a (λ p j keeps. tells_still net p w t refl refl refl)
bare_by net w h k (step.Publish q number None v) n z f r x i y a = tells_bare net w (publish_now net w q number v) h.unlogged a (λ p j keeps. publish_bare net p w q number v n f i keeps)
bare_by net w h k (step.Publish q number (Some stop) v) n z f r x i y a =
    let t = publish_stopped net w k q number stop v in
    subst (λ c. Unlogged net t.world (flags net (if may_crash net (net.host q) && c then Some (net.host q) else None) h.unlogged t.lines)) (sym (ap₂ (λ m x. is_next m x number) r.clock (record_core net w h q r))) (stopped_bare net w k q number stop v h.unlogged n f i a)
bare_by net w h k (step.Wake b) n z f r x i y a =
    tells_bare net w (in_turn (λ u q. wake_for net u b q) (numbers_from 0 net.publishers) w) h.unlogged a (λ p j keeps. wakes_bare net p w 0 net.publishers b n z f i (omega arith) keeps)
bare_by net w h k (step.Deliver j) n z f r x i y a = go (frame_at w j) refl
  where
    go : (o : Option Frame) → frame_at w j ≡ o → (let t : Transition = elim o [ None ↦ unchanged w (line.RefusedFrame k j (length w.frames) ∷ []) | Some x ↦ deliver_frame net w x ] in Unlogged net t.world (each_flag (λ p x. x && not (list_any (is_record_of p) t.lines)) 0 h.unlogged))
    go None e = tells_bare net w (unchanged w (line.RefusedFrame k j (length w.frames) ∷ [])) h.unlogged a (λ p m keeps. tells_still net p w (unchanged w (line.RefusedFrame k j (length w.frames) ∷ [])) refl refl refl)
    go (Some m) e = tells_bare net w (deliver_frame net w m) h.unlogged a (λ p q keeps. deliver_bare net p w m f (frame_at_true net w j m f e) (frame_at_ready (ExpectFits net) w j m x e))
bare_by net w h k (step.Crash b) n z f r x i y a = go (not_empty (net.subscribers_at b)) refl
  where
    go : (q : Bool) → not_empty (net.subscribers_at b) ≡ q → (let t : Transition = elim q [ true ↦ unchanged w (line.RefusedHosts k b ∷ []) | false ↦ crash net w b ] in Unlogged net t.world (flags net (if not q then Some b else None) h.unlogged t.lines))
    go true e = tells_bare net w (unchanged w (line.RefusedHosts k b ∷ [])) h.unlogged a (λ p m keeps. tells_still net p w (unchanged w (line.RefusedHosts k b ∷ [])) refl refl refl)
    go false e = crash_bare net w b h.unlogged f i (ap not e) a
bare_by net w h k step.Sweep n z f r x i y a = absurd (true≢false y)
bare_by net w h k step.Show n z f r x i y a = tells_bare net w (unchanged w (show net w)) h.unlogged a (λ p j keeps. tells_still net p w (unchanged w (show net w)) (show_untold net p w) refl refl)
bare_by net w h k (step.Bytes j) n z f r x i y a = go (frame_at w j)
  where
    go : (o : Option Frame) → (let t : Transition = elim o [ None ↦ unchanged w (line.RefusedFrame k j (length w.frames) ∷ []) | Some x ↦ unchanged w (line.BytesOf j (frame_bytes x) ∷ []) ] in Unlogged net t.world (each_flag (λ p x. x && not (list_any (is_record_of p) t.lines)) 0 h.unlogged))
    go None = tells_bare net w (unchanged w (line.RefusedFrame k j (length w.frames) ∷ [])) h.unlogged a (λ p m keeps. tells_still net p w (unchanged w (line.RefusedFrame k j (length w.frames) ∷ [])) refl refl refl)
    go (Some x) = tells_bare net w (unchanged w (line.BytesOf j (frame_bytes x) ∷ [])) h.unlogged a (λ p m keeps. tells_still net p w (unchanged w (line.BytesOf j (frame_bytes x) ∷ [])) refl refl refl)
bare_by net w h k (step.Join s q) n z f r x i y a = tells_bare net w (join_now net w s q) h.unlogged a (λ p j keeps. join_bare net p w s q n f i.0 i.1 keeps)
