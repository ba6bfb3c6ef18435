-- The logs are the record of the steps, over every schedule
use Rattle.std.proofs.Common.{◌≡◌, ◌≢◌, ◌⊎◌, inl, inr, ⊎_elim, ℕ, suc, zero, ◌+◌, ◌≤◌, ◌<◌, max, Bool, true, false, ◌&&◌, List, [], ◌∷◌, ◌-◌, ◌++◌, map, length, set, get_or, replicate, refl, sym, ap, ap₂, ◌∙◌, subst, Option, Some, None, arith, append-nil, append_assoc}
use Rattle.std.specs.Prelude.{nat_eq, nat_le, nat_lt, if◌then◌else◌, flat_map}
use Rattle.std.proofs.lemmas.Bool.{cases_eq, eq-eqb, ne_eqb, le-leb, lt-leb, ltb-true, ltb-false, and_right}
use Rattle.std.proofs.lemmas.List.{get_or-set_other, get_or-set_same, length-set, ext_get_or, set-get_or}
use Rattle.gr_event.specs.declared.event.Event.{Event}
use Rattle.gr_frame.specs.declared.Frame.{Frame}
use Rattle.gr_frame.specs.Bytes.{frame_bytes}
use Rattle.gr_sched.specs.declared.step.Stop.{Stop}
use Rattle.gr_sched.specs.declared.step.Step.{Step}
use Rattle.gr_sched.specs.declared.step.Step.TheVariants as step
use Rattle.gr_sched.specs.declared.step.Line.{Line}
use Rattle.gr_model.specs.declared.report.Report.{Report}
use Rattle.gr_model.specs.declared.report.Report.TheVariants as line
use Rattle.gr_model.specs.Net.{Net, is_host, not_empty, numbers, numbers_from}
use Rattle.gr_model.specs.Broker.{joining, Log, empty_log, publish, with_event, is_kept, max_tick}
use Rattle.gr_model.specs.World as world
use Rattle.gr_model.specs.World.{join_now_by, World, Transition, view_of, log_of, absorbed, unchanged, in_turn, frame_at, crash, restarted, sweep_moment, start, start_by, opened_lines, next_by, publish_now_by, publish_stopped_by, run_from_by, sweep_by, wake_all_by}
use Rattle.gr_model_calls.specs.OneNet.{join_now, wake_for, wake_all, deliver_frame, publish_now, publish_stopped, sweep, sweep_for, next, run_all, run_from, history_of}
use Rattle.gr_model.specs.Headline.{may_enter, with_joined, Recorded, History, nothing_recorded, record_of, recording, settling, marked, is_next, greatest, sweep_at, is_swept, each_record, records_after, clock_after, most_after, history_after, history, begin, expected, delivered_events, last_horizon, HorizonsRise, GetsExactly, says_kept}
use Rattle.gr_model_calls.proofs.calls.Telling.{steady_rises}
use Rattle.gr_model_calls.specs.Said.{due_upto}
use Rattle.gr_model.specs.Tree.{IsNet, IsSubscriber}
use Rattle.gr_model_calls.specs.Fits.{WorldFits, StepIn, StepsIn, FrameTrue}
use Rattle.gr_model_calls.proofs.runs.Worlds.{wake_for_kept}
use Rattle.gr_model_calls.proofs.runs.Schedules.{next_kept, start_fits, lines_always, frame_at_true, clocked_fits}
use Rattle.gr_model_theorems.proofs.records.Records.{joining_core, core, core_of, absorbed_cores, publish_core, wake_for_core, wake_for_clock, wake_for_most, deliver_core, deliver_clock, deliver_most, sweep_for_marks, sweep_for_marked}

-- the history's records are the cores of the logs
pub record RecordsFit (net : Net) (w : World) (h : History) : Type 0 where
  pub clock : h.clock ≡ w.clock
  pub most : h.most ≡ w.most
  pub records : h.records ≡ map core w.logs

length_map : {A B : Type 0} (f : A → B) (xs : List A) → length (map f xs) ≡ length xs
length_map f [] = refl
length_map f (x ∷ xs) = ap suc (length_map f xs)

-- the one at a place of what a function makes of a list is what it makes of the one there
pub get_map : {A B : Type 0} (f : A → B) (xs : List A) (i : ℕ) (d : A) → get_or (map f xs) i (f d) ≡ f (get_or xs i d)
get_map f [] i d = refl
get_map f (x ∷ xs) zero d = refl
get_map f (x ∷ xs) (suc i) d = get_map f xs i d

-- the history's record of a publisher is that of its log
pub record_core : (net : Net) (w : World) (h : History) (p : ℕ) → RecordsFit net w h → record_of h p ≡ core_of w p
record_core net w h p r = ap (λ z. get_or z p nothing_recorded) r.records ∙ get_map core w.logs p empty_log

-- two worlds whose logs agree on their cores have the same records
same_records : (net : Net) (w u : World) → WorldFits net w → WorldFits net u → ((q : ℕ) → q < net.publishers → core_of u q ≡ core_of w q) → map core u.logs ≡ map core w.logs
same_records net w u f g e =
    ext_get_or nothing_recorded (map core u.logs) (map core w.logs) (length_map core u.logs ∙ (g.logs_long ∙ sym (length_map core w.logs ∙ f.logs_long)))
    (λ i x. get_map core u.logs i empty_log ∙ (e i (omega (arith, x, length_map core u.logs, g.logs_long)) ∙ sym (get_map core w.logs i empty_log)))

-- the record of one publisher set
set_records : (net : Net) (w u : World) (p : ℕ) (r : Recorded) → WorldFits net w → WorldFits net u → p < net.publishers → core_of u p ≡ r → ((q : ℕ) → q ≢ p → core_of u q ≡ core_of w q) → map core u.logs ≡ set (map core w.logs) p r
set_records net w u p r f g j here other =
    ext_get_or nothing_recorded (map core u.logs) (set (map core w.logs) p r) (length_map core u.logs ∙ (g.logs_long ∙ sym (length-set (map core w.logs) p r ∙ (length_map core w.logs ∙ f.logs_long))))
    (λ i x. get_map core u.logs i empty_log ∙ elim (cases_eq i p) [
      | inl e ↦ subst (λ z. core_of u z ≡ get_or (set (map core w.logs) p r) z nothing_recorded) (sym e) (here ∙ sym (get_or-set_same (map core w.logs) p r nothing_recorded (omega (arith, length_map core w.logs, f.logs_long))))
      | inr e ↦ other i e ∙ (sym (get_map core w.logs i empty_log) ∙ sym (get_or-set_other (map core w.logs) p i r nothing_recorded e))
    ])

-- Publishing

if_set : (c : Bool) (rs : List Recorded) (p : ℕ) (r old : Recorded) → get_or rs p nothing_recorded ≡ old → set rs p (if c then r else old) ≡ (if c then set rs p r else rs)
if_set true rs p r old e = refl
if_set false rs p r old e = ap (set rs p) (sym e) ∙ set-get_or rs p nothing_recorded

publish_cores : (net : Net) (w : World) (p number : ℕ) (e : Event) (q : ℕ) → WorldFits net w → p < net.publishers → core_of (publish_now net w p number e).world q ≡ (if nat_eq q p then (if is_next w.clock (core_of w p) number then recording w.clock (core_of w p) e else core_of w p) else core_of w q)
unfolding publish_now_by
publish_cores net w p number e q f j =
    absorbed_cores net w (net.host p) p q (publish net p (net.host p) w.clock number e (view_of w (net.host p) p) (log_of w p)) f j
    ∙ ap (λ z. if nat_eq q p then z else core_of w q) (publish_core net p (net.host p) w.clock number e (view_of w (net.host p) p) (log_of w p))

publish_records : (net : Net) (w u : World) (h : History) (p number : ℕ) (e : Event) → WorldFits net w → WorldFits net u → RecordsFit net w h → p < net.publishers →
    ((q : ℕ) → core_of u q ≡ (if nat_eq q p then (if is_next w.clock (core_of w p) number then recording w.clock (core_of w p) e else core_of w p) else core_of w q)) →
    map core u.logs ≡ (if is_next h.clock (record_of h p) number then set h.records p (recording h.clock (record_of h p) e) else h.records)
publish_records net w u h p number e f g r j c =
    let k = record_core net w h p r in
    set_records net w u p (if is_next w.clock (core_of w p) number then recording w.clock (core_of w p) e else core_of w p) f g j (c p ∙ rw (eq-eqb p p refl) refl) (λ q n. c q ∙ rw (ne_eqb q p n) refl)
    ∙ (if_set (is_next w.clock (core_of w p) number) (map core w.logs) p (recording w.clock (core_of w p) e) (core_of w p) (get_map core w.logs p empty_log)
    ∙ sym (same_terms h.clock w.clock (record_of h p) (core_of w p) h.records (map core w.logs) r.clock k r.records))
  where
    same_terms : (a b : ℕ) (x y : Recorded) (rs ss : List Recorded) → a ≡ b → x ≡ y → rs ≡ ss → (if is_next a x number then set rs p (recording a x e) else rs) ≡ (if is_next b y number then set ss p (recording b y e) else ss)
    same_terms a b x y rs ss s t z = λ i. if is_next (s i) (t i) number then set (z i) p (recording (s i) (t i) e) else z i

-- Joining

join_cores : (net : Net) (w : World) (s p q : ℕ) → WorldFits net w → p < net.publishers → core_of (join_now net w s p).world q ≡ (if nat_eq q p then (if may_enter w.clock (core_of w p) s then with_joined w.clock (core_of w p) s else core_of w p) else core_of w q)
unfolding join_now_by
join_cores net w s p q f j =
    absorbed_cores net w (net.host p) p q (joining net p (net.host p) w.clock s (view_of w (net.host p) p) (log_of w p)) f j
    ∙ ap (λ z. if nat_eq q p then z else core_of w q) (joining_core net p (net.host p) w.clock s (view_of w (net.host p) p) (log_of w p))

join_clock : (net : Net) (w : World) (s p : ℕ) → (join_now net w s p).world.clock ≡ w.clock
unfolding join_now_by absorbed
join_clock net w s p = refl

join_most : (net : Net) (w : World) (s p : ℕ) → (join_now net w s p).world.most ≡ w.most
unfolding join_now_by absorbed
join_most net w s p = refl

join_records : (net : Net) (w u : World) (h : History) (s p : ℕ) → WorldFits net w → WorldFits net u → RecordsFit net w h → p < net.publishers →
    ((q : ℕ) → core_of u q ≡ (if nat_eq q p then (if may_enter w.clock (core_of w p) s then with_joined w.clock (core_of w p) s else core_of w p) else core_of w q)) →
    map core u.logs ≡ (if may_enter h.clock (record_of h p) s then set h.records p (with_joined h.clock (record_of h p) s) else h.records)
join_records net w u h s p f g r j c =
    let k = record_core net w h p r in
    set_records net w u p (if may_enter w.clock (core_of w p) s then with_joined w.clock (core_of w p) s else core_of w p) f g j (c p ∙ rw (eq-eqb p p refl) refl) (λ q n. c q ∙ rw (ne_eqb q p n) refl)
    ∙ (if_set (may_enter w.clock (core_of w p) s) (map core w.logs) p (with_joined w.clock (core_of w p) s) (core_of w p) (get_map core w.logs p empty_log)
    ∙ sym (same_terms h.clock w.clock (record_of h p) (core_of w p) h.records (map core w.logs) r.clock k r.records))
  where
    same_terms : (a b : ℕ) (x y : Recorded) (rs ss : List Recorded) → a ≡ b → x ≡ y → rs ≡ ss → (if may_enter a x s then set rs p (with_joined a x s) else rs) ≡ (if may_enter b y s then set ss p (with_joined b y s) else ss)
    same_terms a b x y rs ss d t z = λ i. if may_enter (d i) (t i) s then set (z i) p (with_joined (d i) (t i) s) else z i

-- Waking

each_record-get : (f : ℕ → Recorded → Recorded) (a : ℕ) (rs : List Recorded) (i : ℕ) → i < length rs → get_or (each_record f a rs) i nothing_recorded ≡ f (a + i) (get_or rs i nothing_recorded)
each_record-get f a [] i h = absurd (omega arith)
each_record-get f a (r ∷ rs) zero h = ap (λ k. f k r) (omega arith)
each_record-get f a (r ∷ rs) (suc i) h = each_record-get f (suc a) rs i (omega arith) ∙ ap (λ k. f k (get_or rs i nothing_recorded)) (omega arith)

each_record-length : (f : ℕ → Recorded → Recorded) (a : ℕ) (rs : List Recorded) → length (each_record f a rs) ≡ length rs
each_record-length f a [] = refl
each_record-length f a (r ∷ rs) = ap suc (each_record-length f (suc a) rs)

abbrev woken : Net → ℕ → ℕ → ℕ → Recorded → Recorded
woken net clock b p r = if is_host net p b then marked net clock r else r

-- waking a broker for the publishers from a on
record MarksByWake (net : Net) (w u : World) (a n b : ℕ) : Type 0 where
  clock : u.clock ≡ w.clock
  most : u.most ≡ w.most
  inside : (q : ℕ) → a ≤ q → q < a + n → core_of u q ≡ woken net w.clock b q (core_of w q)
  outside : (q : ℕ) → (q < a) ⊎ (a + n ≤ q) → core_of u q ≡ core_of w q

wakes_from : (net : Net) (w : World) (a n b : ℕ) → IsNet net → WorldFits net w → b < net.brokers → a + n ≤ net.publishers → MarksByWake net w (in_turn (λ u p. wake_for net u b p) (numbers_from a n) w).world a n b
wakes_from net w a zero b k f i h = record { clock = refl; most = refl; inside = λ q x y. absurd (omega arith); outside = λ q x. refl }
wakes_from net w a (suc n) b k f i h =
    let j : a < net.publishers = omega arith in
    let g = wake_for_kept net w b a k f i j in
    let u = (wake_for net w b a).world in
    let r = wakes_from net u (suc a) n b k g.fits i (omega arith) in
    let c : u.clock ≡ w.clock = wake_for_clock net w b a in
    record {
      clock = r.clock ∙ c;
      most = r.most ∙ wake_for_most net w b a;
      inside = λ q x y. elim (cases_eq q a) [
        | inl e ↦ r.outside q (inl (omega (arith, e))) ∙ (wake_for_core net w b a q f j ∙ rw (eq-eqb q a e) (subst (λ z. woken net w.clock b a (core_of w a) ≡ woken net w.clock b z (core_of w z)) (sym e) refl))
        | inr e ↦ r.inside q (omega (arith, e)) (omega arith) ∙ ap₂ (λ m z. woken net m b q z) c (wake_for_core net w b a q f j ∙ rw (ne_eqb q a e) refl)
      ];
      outside = λ q x. r.outside q (⊎_elim (λ y. inl (omega arith)) (λ y. inr (omega arith)) x) ∙ (wake_for_core net w b a q f j ∙ rw (ne_eqb q a (λ e. ⊎_elim (λ y. omega (arith, e)) (λ y. omega (arith, e)) x)) refl);
    }

wake_records : (net : Net) (w u : World) (h : History) (b : ℕ) → WorldFits net w → WorldFits net u → RecordsFit net w h → MarksByWake net w u 0 net.publishers b → map core u.logs ≡ each_record (λ p r. if is_host net p b then marked net h.clock r else r) 0 h.records
wake_records net w u h b f g r k =
    let rs = each_record (λ p r. woken net h.clock b p r) 0 h.records in
    let long : length h.records ≡ net.publishers = ap length r.records ∙ (length_map core w.logs ∙ f.logs_long) in
    ext_get_or nothing_recorded (map core u.logs) rs (length_map core u.logs ∙ (g.logs_long ∙ sym (each_record-length (λ p r. woken net h.clock b p r) 0 h.records ∙ long)))
    (λ i x.
    let y : i < net.publishers = omega (arith, x, length_map core u.logs, g.logs_long) in
    get_map core u.logs i empty_log ∙ (k.inside i (omega arith) (omega arith)
    ∙ sym (each_record-get (λ p r. woken net h.clock b p r) 0 h.records i (omega (arith, long)) ∙ (ap₂ (λ m z. woken net m b (0 + i) z) r.clock (record_core net w h i r) ∙ ap (λ m. woken net w.clock b m (core_of w i)) (omega arith)))))

-- Sweeping

map_again : {A B C : Type 0} (f : A → B) (g : B → C) (xs : List A) → map g (map f xs) ≡ map (λ x. g (f x)) xs
map_again f g [] = refl
map_again f g (x ∷ xs) = ap (λ z. g (f x) ∷ z) (map_again f g xs)

-- the history takes a sweep's moment as the machine does
pub sweep_same : (net : Net) (w : World) (h : History) → RecordsFit net w h → sweep_at net h ≡ sweep_moment net w
unfolding sweep_moment
sweep_same net w h r = ap₂ (λ m s. max m s + net.gap + net.idle + net.retry + net.quiet + 1) r.most (ap (λ z. greatest (map (λ x. x.settled) z)) r.records ∙ (ap greatest (map_again core (λ x. x.settled) w.logs) ∙ greatest_same (map (λ l. l.settled) w.logs)))
  where
    greatest_same : (ns : List ℕ) → greatest ns ≡ world.greatest_settled ns
    greatest_same [] = refl
    greatest_same (n ∷ ns) = ap (max n) (greatest_same ns)

-- each settled is below the moment of a sweep by more than quiet
below_greatest : (ns : List ℕ) (i : ℕ) → i < length ns → get_or ns i 0 ≤ world.greatest_settled ns
below_greatest [] i h = absurd (omega arith)
below_greatest (n ∷ ns) zero h = omega arith
below_greatest (n ∷ ns) (suc i) h = omega (arith, below_greatest ns i (omega arith))

-- each log is settled a whole quiet time before a sweep's moment
pub settled_below : (net : Net) (w : World) (q : ℕ) → WorldFits net w → q < net.publishers → (log_of w q).settled + net.quiet ≤ sweep_moment net w
unfolding sweep_moment
settled_below net w q f j =
    let e : get_or (map (λ l. l.settled) w.logs) q 0 ≡ (log_of w q).settled = get_map (λ l. l.settled) w.logs q empty_log in
    let b = below_greatest (map (λ l. l.settled) w.logs) q (omega (arith, length_map (λ l. l.settled) w.logs, f.logs_long)) in
    omega (arith, e, b)

-- and by idle and quiet and one more
pub settled_far : (net : Net) (w : World) (q : ℕ) → WorldFits net w → q < net.publishers → (log_of w q).settled + net.idle + net.quiet + 1 ≤ sweep_moment net w
unfolding sweep_moment
settled_far net w q f j =
    let e : get_or (map (λ l. l.settled) w.logs) q 0 ≡ (log_of w q).settled = get_map (λ l. l.settled) w.logs q empty_log in
    let b = below_greatest (map (λ l. l.settled) w.logs) q (omega (arith, length_map (λ l. l.settled) w.logs, f.logs_long)) in
    omega (arith, e, b)

-- so is the greatest moment of the clock
pub most_before : (net : Net) (w : World) → w.most < sweep_moment net w
unfolding sweep_moment
most_before net w = omega arith

-- a record that was quiet for long enough is marked
pub marked_now : (net : Net) (m : ℕ) (r : Recorded) → r.settled + net.quiet ≤ m → marked net m r ≡ settling m r
marked_now net m r h = rw (le-leb (r.settled + net.quiet) m h) refl

-- a sweep over the publishers from a on
pub record Sweeps (net : Net) (w u : World) (a n : ℕ) : Type 0 where
  pub fits : WorldFits net u
  pub clock : u.clock ≡ w.clock
  pub most : u.most ≡ w.most
  pub inside : (q : ℕ) → a ≤ q → q < a + n → core_of u q ≡ marked net w.clock (core_of w q)
  pub outside : (q : ℕ) → (q < a) ⊎ (a + n ≤ q) → core_of u q ≡ core_of w q

-- a sweep over some publishers settles the logs of these, at its clock, and leaves the others'
pub sweeps_from : (net : Net) (w : World) (a n : ℕ) → IsNet net → 1 ≤ net.quiet → WorldFits net w → a + n ≤ net.publishers → Sweeps net w (in_turn (sweep_for net) (numbers_from a n) w).world a n
sweeps_from net w a zero k z f h = record { fits = f; clock = refl; most = refl; inside = λ q x y. absurd (omega arith); outside = λ q x. refl }
sweeps_from net w a (suc n) k z f h =
    let j : a < net.publishers = omega arith in
    let g = sweep_for_marks net w a k z f j in
    let m = sweep_for_marked net w a k z f j in
    let u = (sweep_for net w a).world in
    let r = sweeps_from net u (suc a) n k z g.kept.fits (omega arith) in
    record {
      fits = r.fits;
      clock = r.clock ∙ g.clock;
      most = r.most ∙ g.most;
      inside = λ q x y. elim (cases_eq q a) [
        | inl e ↦ r.outside q (inl (omega (arith, e))) ∙ subst (λ c. core_of u c ≡ marked net w.clock (core_of w c)) (sym e) m
        | inr e ↦ r.inside q (omega (arith, e)) (omega arith) ∙ ap₂ (λ c d. marked net c d) g.clock (g.others q e)
      ];
      outside = λ q x. r.outside q (⊎_elim (λ y. inl (omega arith)) (λ y. inr (omega arith)) x) ∙ g.others q (λ e. ⊎_elim (λ y. omega (arith, e)) (λ y. omega (arith, e)) x);
    }

sweep_records : (net : Net) (w u : World) (h : History) (m : ℕ) → WorldFits net w → WorldFits net u → RecordsFit net w h → ((q : ℕ) → q < net.publishers → core_of u q ≡ settling m (core_of w q)) → map core u.logs ≡ map (settling m) h.records
sweep_records net w u h m f g r c =
    ext_get_or nothing_recorded (map core u.logs) (map (settling m) h.records) (length_map core u.logs ∙ (g.logs_long ∙ sym (length_map (settling m) h.records ∙ (ap length r.records ∙ (length_map core w.logs ∙ f.logs_long)))))
    (λ i x.
    let y : i < net.publishers = omega (arith, x, length_map core u.logs, g.logs_long) in
    get_map core u.logs i empty_log ∙ (c i y ∙ (ap (settling m) (sym (record_core net w h i r)) ∙ sym (get_inside (settling m) h.records i (omega (arith, y, ap length r.records, length_map core w.logs, f.logs_long))))))
  where
    get_inside : (g : Recorded → Recorded) (rs : List Recorded) (i : ℕ) → i < length rs → get_or (map g rs) i nothing_recorded ≡ g (get_or rs i nothing_recorded)
    get_inside g [] i k = absurd (omega arith)
    get_inside g (r ∷ rs) zero k = refl
    get_inside g (r ∷ rs) (suc i) k = get_inside g rs i (omega arith)

-- A stopped publish

-- what the opening tells says of no publish that it was kept
pub opened_no_kept : (net : Net) (logs : List Log) (b : ℕ) → says_kept (opened_lines net logs b) ≡ false
unfolding opened_lines
opened_no_kept net logs b = go (numbers net.publishers)
  where
    one : (p : ℕ) (c : Bool) (rest : List Report) → says_kept ((let log = get_or logs p empty_log in if c then line.Opened p log.last log.settled log.cut ∷ [] else []) ++ rest) ≡ says_kept rest
    one p true rest = refl
    one p false rest = refl

    go : (ps : List ℕ) → says_kept (flat_map (λ p. let log = get_or logs p empty_log in if nat_eq (net.host p) b && nat_lt 0 log.settled then line.Opened p log.last log.settled log.cut ∷ [] else []) ps) ≡ false
    go [] = refl
    go (p ∷ ps) = one p (nat_eq (net.host p) b && nat_lt 0 (get_or logs p empty_log).settled) _ ∙ go ps

restarted_log : (net : Net) (w : World) (b q : ℕ) → log_of (restarted net w b) q ≡ log_of w q
unfolding restarted
restarted_log net w b q = refl

clock_at : (net : Net) (w : World) (b : ℕ) → (restarted net w b).clock ≡ w.clock
unfolding restarted
clock_at net w b = refl

most_at : (net : Net) (w : World) (b : ℕ) → (restarted net w b).most ≡ w.most
unfolding restarted
most_at net w b = refl

record RecordsByPublish (net : Net) (w : World) (t : Transition) (p number : ℕ) (e : Event) : Type 0 where
  clock : t.world.clock ≡ w.clock
  most : t.world.most ≡ w.most
  cores : (q : ℕ) → core_of t.world q ≡ (if nat_eq q p then (if is_next w.clock (core_of w p) number && says_kept t.lines then recording w.clock (core_of w p) e else core_of w p) else core_of w q)

publish_clock : (net : Net) (w : World) (p number : ℕ) (e : Event) → (publish_now net w p number e).world.clock ≡ w.clock
unfolding publish_now_by absorbed
publish_clock net w p number e = refl

publish_most : (net : Net) (w : World) (p number : ℕ) (e : Event) → (publish_now net w p number e).world.most ≡ w.most
unfolding publish_now_by absorbed
publish_most net w p number e = refl

same_core : (w : World) (q p : ℕ) (c : Recorded) → c ≡ core_of w p → core_of w q ≡ (if nat_eq q p then c else core_of w q)
same_core w q p c e =
    elim (cases_eq q p) [
      | inl x ↦ rw (eq-eqb q p x) (ap (core_of w) x ∙ sym e)
      | inr x ↦ rw (ne_eqb q p x) refl
    ]

stopped_is : (net : Net) (w : World) (k p number : ℕ) (stop : Stop) (e : Event) → WorldFits net w → p < net.publishers → RecordsByPublish net w (publish_stopped net w k p number stop e) p number e
unfolding publish_stopped_by
stopped_is net w k p number stop e f j = host_at (not_empty (net.subscribers_at (net.host p)))
  where
    log : Log
    log = log_of w p

    tick : ℕ
    tick = max (suc log.settled) w.clock

    kept : Bool
    kept = is_kept (log.size - 1) stop.call stop.pick

    told : Bool → Transition
    told q =
        let logs : List Log = if q then set w.logs p (with_event log tick e) else w.logs in
        record {
          world = restarted net (record { clock = w.clock; most = w.most; frames = w.frames; views = w.views; logs = logs }) (net.host p);
          lines = line.Crashed (net.host p) ∷ ((if q then line.Kept p number tick else line.Lost p number tick) ∷ opened_lines net logs (net.host p));
        }

    told_is : (q : Bool) → is_next w.clock (core_of w p) number ≡ true → RecordsByPublish net w (told q) p number e
    told_is true x = record {
      clock = clock_at net _ (net.host p);
      most = most_at net _ (net.host p);
      cores = λ q. ap core (restarted_log net _ (net.host p) q) ∙ (elim (cases_eq q p) [
        | inl y ↦ rw (eq-eqb q p y, x) (subst (λ z. core (get_or (set w.logs p (with_event log tick e)) z empty_log) ≡ recording w.clock (core_of w p) e) (sym y) (ap core (get_or-set_same w.logs p (with_event log tick e) empty_log (omega (arith, f.logs_long)))))
        | inr y ↦ rw (ne_eqb q p y) (ap core (get_or-set_other w.logs p q (with_event log tick e) empty_log y))
      ]);
    }
    told_is false x = record {
      clock = clock_at net _ (net.host p);
      most = most_at net _ (net.host p);
      cores = λ q. ap core (restarted_log net _ (net.host p) q) ∙ same_core w q p (if is_next w.clock (core_of w p) number && says_kept (opened_lines net w.logs (net.host p)) then recording w.clock (core_of w p) e else core_of w p) (rw (opened_no_kept net w.logs (net.host p), and_right (is_next w.clock (core_of w p) number) false refl) refl);
    }

    number_at : (q : Bool) → is_next w.clock (core_of w p) number ≡ q → RecordsByPublish net w (elim q [ false ↦ publish_now net w p number e | true ↦ told kept ]) p number e
    number_at true x = told_is kept x
    number_at false x = record {
      clock = publish_clock net w p number e;
      most = publish_most net w p number e;
      cores = λ q. publish_cores net w p number e q f j ∙ ap (λ z. if nat_eq q p then z else core_of w q) (rw (x) refl);
    }

    host_at : (q : Bool) → RecordsByPublish net w (elim q [ true ↦ unchanged w (line.RefusedHosts k (net.host p) ∷ []) | false ↦ elim (nat_eq number (suc log.last) && nat_le tick max_tick) [ false ↦ publish_now net w p number e | true ↦ told kept ] ]) p number e
    host_at true = record { clock = refl; most = refl; cores = λ q. same_core w q p (if is_next w.clock (core_of w p) number && false then recording w.clock (core_of w p) e else core_of w p) (rw (and_right (is_next w.clock (core_of w p) number) false refl) refl) }
    host_at false = number_at (nat_eq number (suc log.last) && nat_le tick max_tick) refl

-- Every step

publish_by_record : (net : Net) (w u : World) (h : History) (p number : ℕ) (e : Event) (rest : Bool) → WorldFits net w → WorldFits net u → RecordsFit net w h → p < net.publishers →
    ((q : ℕ) → core_of u q ≡ (if nat_eq q p then (if is_next w.clock (core_of w p) number && rest then recording w.clock (core_of w p) e else core_of w p) else core_of w q)) →
    map core u.logs ≡ (if is_next h.clock (record_of h p) number && rest then set h.records p (recording h.clock (record_of h p) e) else h.records)
publish_by_record net w u h p number e rest f g r j c =
    let k = record_core net w h p r in
    set_records net w u p (if is_next w.clock (core_of w p) number && rest then recording w.clock (core_of w p) e else core_of w p) f g j (c p ∙ rw (eq-eqb p p refl) refl) (λ q n. c q ∙ rw (ne_eqb q p n) refl)
    ∙ (if_set (is_next w.clock (core_of w p) number && rest) (map core w.logs) p (recording w.clock (core_of w p) e) (core_of w p) (get_map core w.logs p empty_log)
    ∙ sym (same_terms h.clock w.clock (record_of h p) (core_of w p) h.records (map core w.logs) r.clock k r.records))
  where
    same_terms : (a b : ℕ) (x y : Recorded) (rs ss : List Recorded) → a ≡ b → x ≡ y → rs ≡ ss → (if is_next a x number && rest then set rs p (recording a x e) else rs) ≡ (if is_next b y number && rest then set ss p (recording b y e) else ss)
    same_terms a b x y rs ss s t z = λ i. if is_next (s i) (t i) number && rest then set (z i) p (recording (s i) (t i) e) else z i

and_true : (x : Bool) → (x && true) ≡ x
and_true true = refl
and_true false = refl

wakes_of : (net : Net) (w : World) (b : ℕ) → IsNet net → WorldFits net w → b < net.brokers → MarksByWake net w (wake_all net w b).world 0 net.publishers b
unfolding wake_all_by
wakes_of net w b n f i = wakes_from net w 0 net.publishers b n f i (omega arith)

-- what a step does to clock and records
record Steps (net : Net) (w : World) (h : History) (l : Line) (t : Transition) : Type 0 where
  clock : clock_after net h l ≡ t.world.clock
  most : most_after net h l ≡ t.world.most
  records : records_after net h l t.lines ≡ map core t.world.logs

-- a step that leaves the clock and the logs' cores
still_step : (net : Net) (w : World) (h : History) (t : Transition) → WorldFits net w → WorldFits net t.world → RecordsFit net w h → t.world.clock ≡ w.clock → t.world.most ≡ w.most → ((q : ℕ) → q < net.publishers → core_of t.world q ≡ core_of w q) → (h.clock ≡ t.world.clock) × (h.most ≡ t.world.most) × (h.records ≡ map core t.world.logs)
still_step net w h t f g r c m e = (r.clock ∙ sym c, r.most ∙ sym m, r.records ∙ sym (same_records net w t.world f g e))

deliver_still : (net : Net) (w : World) (o : Option Frame) (k n : ℕ) → WorldFits net w → ((x : Frame) → o ≡ Some x → FrameTrue net w x) → (let t : Transition = elim o [ None ↦ unchanged w (line.RefusedFrame n k (length w.frames) ∷ []) | Some x ↦ deliver_frame net w x ] in (t.world.clock ≡ w.clock) × (t.world.most ≡ w.most) × ((q : ℕ) → q < net.publishers → core_of t.world q ≡ core_of w q))
deliver_still net w None k n f t = (refl, refl, λ q j. refl)
deliver_still net w (Some x) k n f t = (deliver_clock net w x, deliver_most net w x, λ q j. deliver_core net w x q f (t x refl).publisher_in)

bytes_still : (net : Net) (w : World) (o : Option Frame) (k n : ℕ) → (let t : Transition = elim o [ None ↦ unchanged w (line.RefusedFrame n k (length w.frames) ∷ []) | Some x ↦ unchanged w (line.BytesOf k (frame_bytes x) ∷ []) ] in (t.world.clock ≡ w.clock) × (t.world.most ≡ w.most) × ((q : ℕ) → q < net.publishers → core_of t.world q ≡ core_of w q))
bytes_still net w None k n = (refl, refl, λ q j. refl)
bytes_still net w (Some x) k n = (refl, refl, λ q j. refl)

crash_still : (net : Net) (w : World) (b n : ℕ) (q : Bool) → (let t : Transition = elim q [ true ↦ unchanged w (line.RefusedHosts n b ∷ []) | false ↦ crash net w b ] in (t.world.clock ≡ w.clock) × (t.world.most ≡ w.most) × ((q : ℕ) → q < net.publishers → core_of t.world q ≡ core_of w q))
unfolding crash
crash_still net w b n true = (refl, refl, λ q j. refl)
crash_still net w b n false = (clock_at net w b, most_at net w b, λ q j. ap core (restarted_log net w b q))

sweep_step : (net : Net) (w : World) (h : History) (k : ℕ) → IsNet net → 1 ≤ net.quiet → WorldFits net w → RecordsFit net w h →
    ((if is_swept net h then sweep_at net h else h.clock) ≡ (sweep net w k).world.clock) × ((if is_swept net h then max (sweep_at net h) h.most else h.most) ≡ (sweep net w k).world.most) × ((if is_swept net h then map (settling (sweep_at net h)) h.records else h.records) ≡ map core (sweep net w k).world.logs)
unfolding sweep_by
sweep_step net w h k n z f r = go (nat_lt max_tick m) refl
  where
    m : ℕ
    m = sweep_moment net w

    u : World
    u = record { clock = m; most = max m w.most; frames = w.frames; views = w.views; logs = w.logs }

    s : Sweeps net u (in_turn (sweep_for net) (numbers net.publishers) u).world 0 net.publishers
    s = sweeps_from net u 0 net.publishers n z (clocked_fits net w m (max m w.most) f) (omega arith)

    same : sweep_at net h ≡ m
    same = sweep_same net w h r

    go : (q : Bool) → nat_lt max_tick m ≡ q → (let t : Transition = elim q [ true ↦ unchanged w (line.RefusedClock k m ∷ []) | false ↦ world.followed_by (in_turn (sweep_for net) (numbers net.publishers) u) (λ x. unchanged x (line.Swept m ∷ [])) ] in
        ((if is_swept net h then sweep_at net h else h.clock) ≡ t.world.clock) × ((if is_swept net h then max (sweep_at net h) h.most else h.most) ≡ t.world.most) × ((if is_swept net h then map (settling (sweep_at net h)) h.records else h.records) ≡ map core t.world.logs))
    go true x =
        let no : is_swept net h ≡ false = ap (λ c. nat_le c max_tick) same ∙ lt-leb m max_tick (ltb-true max_tick m x) in
        (rw no r.clock, rw no r.most, rw no r.records)
    go false x =
        let yes : is_swept net h ≡ true = ap (λ c. nat_le c max_tick) same ∙ le-leb m max_tick (ltb-false max_tick m x) in (
          rw yes (same ∙ sym s.clock),
          rw yes (ap₂ max same r.most ∙ sym s.most),
          rw yes (ap (λ c. map (settling c) h.records) same ∙ sym (sweep_records net w (in_turn (sweep_for net) (numbers net.publishers) u).world h m f s.fits r
              (λ q j. s.inside q (omega arith) (omega arith) ∙ marked_now net m (core_of w q) (settled_below net w q f j)))),
        )

abbrev with_line : ℕ → Step → Line
with_line k s = record { number = k; step = s }

steps_of : (net : Net) (w : World) (h : History) (l : Line) (t : Transition) → records_after net h l t.lines ≡ h.records → clock_after net h l ≡ h.clock → most_after net h l ≡ h.most → (h.clock ≡ t.world.clock) × (h.most ≡ t.world.most) × (h.records ≡ map core t.world.logs) → Steps net w h l t
steps_of net w h l t a b c d = record { clock = b ∙ d.0; most = c ∙ d.1; records = a ∙ d.2 }

next_recorded : (net : Net) (w : World) (h : History) (k : ℕ) (s : Step) → IsNet net → 1 ≤ net.quiet → WorldFits net w → RecordsFit net w h → StepIn net s → WorldFits net (next net w (with_line k s)).world → Steps net w h (with_line k s) (next net w (with_line k s))
unfolding next_by clock_after most_after records_after
next_recorded net w h k (step.Clock now) n z f r i g = record { clock = refl; most = ap (max now) r.most; records = r.records }
next_recorded net w h k (step.Publish p number None e) n z f r i g = record {
  clock = r.clock ∙ sym (publish_clock net w p number e);
  most = r.most ∙ sym (publish_most net w p number e);
  records = sym (publish_by_record net w (publish_now net w p number e).world h p number e true f g r i (λ q. publish_cores net w p number e q f i ∙ ap (λ c. if nat_eq q p then (if c then recording w.clock (core_of w p) e else core_of w p) else core_of w q) (sym (and_true (is_next w.clock (core_of w p) number)))));
}
next_recorded net w h k (step.Publish p number (Some stop) e) n z f r i g =
    let x = stopped_is net w k p number stop e f i in
    record {
      clock = r.clock ∙ sym x.clock;
      most = r.most ∙ sym x.most;
      records = sym (publish_by_record net w (publish_stopped net w k p number stop e).world h p number e (says_kept (publish_stopped net w k p number stop e).lines) f g r i x.cores);
    }
next_recorded net w h k (step.Wake b) n z f r i g =
    let x = wakes_of net w b n f i in
    record { clock = r.clock ∙ sym x.clock; most = r.most ∙ sym x.most; records = sym (wake_records net w (wake_all net w b).world h b f g r x) }
next_recorded net w h k (step.Deliver j) n z f r i g =
    let x = deliver_still net w (frame_at w j) j k f (λ y e. frame_at_true net w j y f e) in
    steps_of net w h (with_line k (step.Deliver j)) (next net w (with_line k (step.Deliver j))) refl refl refl (still_step net w h (next net w (with_line k (step.Deliver j))) f g r x.0 x.1 x.2)
next_recorded net w h k (step.Crash b) n z f r i g =
    let x = crash_still net w b k (not_empty (net.subscribers_at b)) in
    steps_of net w h (with_line k (step.Crash b)) (next net w (with_line k (step.Crash b))) refl refl refl (still_step net w h (next net w (with_line k (step.Crash b))) f g r x.0 x.1 x.2)
next_recorded net w h k step.Sweep n z f r i g =
    let x = sweep_step net w h k n z f r in
    record { clock = x.0; most = x.1; records = x.2 }
next_recorded net w h k (step.Join s p) n z f r i g = record {
  clock = r.clock ∙ sym (join_clock net w s p);
  most = r.most ∙ sym (join_most net w s p);
  records = sym (join_records net w (join_now net w s p).world h s p f g r i.1 (λ q. join_cores net w s p q f i.1));
}
next_recorded net w h k step.Show n z f r i g = record { clock = r.clock; most = r.most; records = r.records }
next_recorded net w h k (step.Bytes j) n z f r i g =
    let x = bytes_still net w (frame_at w j) j k in
    steps_of net w h (with_line k (step.Bytes j)) (next net w (with_line k (step.Bytes j))) refl refl refl (still_step net w h (next net w (with_line k (step.Bytes j))) f g r x.0 x.1 x.2)

-- after each step the records of the history are those of the logs
pub next_records : (net : Net) (w : World) (h : History) (l : Line) → IsNet net → 1 ≤ net.quiet → WorldFits net w → RecordsFit net w h → StepIn net l.step → RecordsFit net (next net w l).world (history_after net h l (next net w l).lines)
unfolding history_after
next_records net w h l n z f r i =
    let x = next_recorded net w h l.number l.step n z f r i (next_kept net w l n f i).fits in
    record { clock = x.clock; most = x.most; records = x.records }

-- Every schedule

replicate_same : (a n : ℕ) → map core (map (λ p. empty_log) (numbers_from a n)) ≡ replicate n nothing_recorded
replicate_same a zero = refl
replicate_same a (suc n) = ap (λ z. nothing_recorded ∷ z) (replicate_same (suc a) n)

-- at the start the records of the history are those of the logs
pub begin_fits : (net : Net) → RecordsFit net (start net) (begin net)
unfolding begin start_by
begin_fits net = record { clock = refl; most = refl; records = sym (replicate_same 0 net.publishers) }

-- the history along a run: its records are those of the logs, and its lines those told
pub record Runs (net : Net) (w : World) (h : History) (ls : List Line) : Type 0 where
  pub records : RecordsFit net (run_all net w ls).world (history net h ls (run_from net w ls))
  pub lines : (history net h ls (run_from net w ls)).lines ≡ h.lines ++ (run_all net w ls).lines

-- a step adds its lines to those of the history
pub after_lines : (net : Net) (h : History) (l : Line) (ls : List Report) → (history_after net h l ls).lines ≡ h.lines ++ ls
unfolding history_after
after_lines net h l ls = refl

-- along every run the records of the history are those of the logs, and its lines those of the steps
pub runs : (net : Net) (w : World) (h : History) (ls : List Line) → IsNet net → 1 ≤ net.quiet → WorldFits net w → RecordsFit net w h → StepsIn net ls → Runs net w h ls
unfolding run_from_by
runs net w h [] n z f r i = record { records = r; lines = sym (append-nil h.lines) }
runs net w h (l ∷ ls) n z f r i =
    let k = next_kept net w l n f i.0 in
    let x = runs net (next net w l).world (history_after net h l (next net w l).lines) ls n z k.fits (next_records net w h l n z f r i.0) i.1 in
    record {
      records = x.records;
      lines = x.lines ∙ (ap (λ y. y ++ (run_all net (next net w l).world ls).lines) (after_lines net h l (next net w l).lines) ∙ append_assoc h.lines (next net w l).lines (run_all net (next net w l).world ls).lines);
    }

-- a history begins without lines
pub begin_lines : (net : Net) → (begin net).lines ≡ []
unfolding begin
begin_lines net = refl

-- over every schedule, by the record of the steps: what each subscriber got is exactly what is expected up to its last horizon
pub gets_exactly : (net : Net) (ls : List Line) (s p : ℕ) → IsNet net → 1 ≤ net.quiet → StepsIn net ls → p < net.publishers → IsSubscriber net s → GetsExactly net (history_of net ls) s p
gets_exactly net ls s p n z i j y =
    let x = runs net (start net) (begin net) ls n z (start_fits net n) (begin_fits net) i in
    let l = lines_always net ls n i in
    let e : (history_of net ls).lines ≡ (run_all net (start net) ls).lines = x.lines ∙ ap (λ k. k ++ (run_all net (start net) ls).lines) (begin_lines net) in
    let c : record_of (history_of net ls) p ≡ core_of (run_all net (start net) ls).world p = record_core net (run_all net (start net) ls).world (history_of net ls) p x.records in
    record {
      got = subst (λ k. delivered_events s p k ≡ expected net (history_of net ls) s p (last_horizon s p 0 k)) (sym e)
          (l.got p s j y ∙ ap₂ (λ m r. due_upto net p s m r.events) (sym (l.horizon p s j y)) (sym c));
      rise = subst (λ k. HorizonsRise s p 0 k) (sym e) (steady_rises s p 0 0 (run_all net (start net) ls).lines (l.steady p s j y));
    }
