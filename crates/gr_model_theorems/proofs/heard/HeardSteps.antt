-- What a history has heard is what the brokers below the host have heard, after each step but a sweep
use Rattle.std.proofs.Common.{◌≡◌, ◌≢◌, ◌⊎◌, inl, inr, ℕ, suc, zero, ◌+◌, ◌-◌, ◌≤◌, ◌<◌, max, Bool, true, false, not, ◌&&◌, ◌||◌, List, [], ◌∷◌, ◌++◌, length, set, get_or, replicate, refl, sym, ap, ap₂, ◌∙◌, subst, Option, Some, None, arith}
use Rattle.std.specs.Prelude.{nat_eq, nat_le, nat_lt, if◌then◌else◌, filter, slice_get}
use Rattle.std.specs.List.{list_any}
use Rattle.std.proofs.lemmas.Bool.{cases_Bool, cases_eq, eq-eqb, ne_eqb, lt-ltb, true≢false}
use Rattle.std.proofs.lemmas.List.{get_or-set_other, get_or-set_same, length-set, get_or-replicate, length-replicate}
use Rattle.gr_event.specs.declared.event.Event.{Event}
use Rattle.gr_frame.specs.declared.Body.{Body}
use Rattle.gr_frame.specs.declared.Body.TheVariants as body
use Rattle.gr_frame.specs.declared.Frame.{Frame}
use Rattle.gr_frame.specs.declared.Head.{Head}
use Rattle.gr_frame.specs.Bytes.{frame_bytes}
use Rattle.gr_sched.specs.declared.step.Stop.{Stop}
use Rattle.gr_sched.specs.declared.step.Step.{Step}
use Rattle.gr_sched.specs.declared.step.Step.TheVariants as step
use Rattle.gr_know.specs.declared.values.K.TheVariants.{Q}
use Rattle.gr_tick.specs.Runs.{AreRuns, AreRunsFrom, is_in}
use Rattle.gr_know.specs.Values.{Known, known_at, is_Q}
use Rattle.gr_model.specs.declared.report.Report.{Report}
use Rattle.gr_model.specs.declared.report.Report.TheVariants as line
use Rattle.gr_model.specs.Net.{Net, numbers, not_empty}
use Rattle.gr_model.specs.Broker.{Log, with_event, is_kept, max_tick}
use Rattle.gr_model.specs.World.{World, Transition, log_of, unchanged, frame_at, restarted, crash, sent_line, sent_lines, opened_lines, next_by, publish_stopped_by, wake_all_by}
use Rattle.gr_model_calls.specs.OneNet.{wake_for, wake_all, deliver_frame, publish_now, publish_stopped, next}
use Rattle.gr_model.specs.Headline.{History, is_sent, sent_number, line_of_frame, know_of_line, hearing, heard_nothing, is_heard, heard_after, may_crash, is_next}
use Rattle.gr_model.specs.Tree.{IsNet}
use Rattle.gr_model_calls.specs.Fits.{WorldFits, BodyTrue, StepIn, facts_of}
use Rattle.gr_model_theorems.specs.Order.{is_sweep}
use Rattle.gr_model_theorems.proofs.records.Records.{core_of}
use Rattle.gr_model_theorems.proofs.records.Recorded.{RecordsFit, record_core}
use Rattle.gr_model_theorems.proofs.heard.Heard.{hears, is_Q_at}
use Rattle.gr_model_theorems.proofs.heard.HeardCalls.{join_now_heard, HeardsFit, SameBut, hears_body, wake_for_heard, deliver_heard, publish_now_heard, restarted_heard}
use Rattle.gr_model_calls.proofs.runs.Closed.{in_turn_goes, with_logs}
use Rattle.gr_model_calls.proofs.runs.Worlds.{wake_for_kept, numbers_below}
use Rattle.gr_model_calls.proofs.runs.Schedules.{frame_at_true}

-- the pieces heard, broker by broker and publisher by publisher
abbrev pub Pieces : Type 0
Pieces = List (List (List Known))

-- a broker has heard a tick of a publisher
abbrev pub heard_in : Pieces → ℕ → ℕ → ℕ → Bool
heard_in heard b p t = is_heard (get_or (get_or heard b []) p []) t

-- one list for each broker and publisher
pub record HeardLong (net : Net) (heard : Pieces) : Type 0 where
  pub long : length heard ≡ net.brokers
  pub rows : (b : ℕ) → b < net.brokers → length (get_or heard b []) ≡ net.publishers

-- One piece more

in_runs : (runs : Known) (from t : ℕ) → AreRunsFrom Q from runs → list_any (is_in t) runs ≡ not (is_Q (known_at runs t))
in_runs [] from t a = refl
in_runs (r ∷ rs) from t a =
    elim (cases_Bool (is_in t r)) [
      | inl e ↦ rw e (sym (is_Q_at r.value a.2))
      | inr e ↦ rw e (in_runs rs (suc r.last) t a.4)
    ]

any_on : {X : Type 0} (test : X → Bool) (xs : List X) (x : X) → list_any test (xs ++ x ∷ []) ≡ (list_any test xs || test x)
any_on test [] x = or_false (test x)
  where
    or_false : (b : Bool) → (b || false) ≡ b
    or_false true = refl
    or_false false = refl
any_on test (y ∷ ys) x = go (test y) (any_on test ys x)
  where
    go : (b : Bool) → list_any test (ys ++ x ∷ []) ≡ (list_any test ys || test x) → (b || list_any test (ys ++ x ∷ [])) ≡ ((b || list_any test ys) || test x)
    go true e = refl
    go false e = e

heard_more : (pieces : List Known) (runs : Known) (t : ℕ) → AreRuns Q runs → is_heard (pieces ++ runs ∷ []) t ≡ hears (is_heard pieces) runs t
heard_more pieces runs t a = any_on (λ rs. list_any (is_in t) rs) pieces runs ∙ ap (λ b. is_heard pieces t || b) (in_runs runs 1 t a)

hearing_here : (net : Net) (heard : Pieces) (b p : ℕ) (runs : Known) → HeardLong net heard → b < net.brokers → p < net.publishers → get_or (get_or (hearing heard (Some (b, p, runs))) b []) p [] ≡ get_or (get_or heard b []) p [] ++ runs ∷ []
hearing_here net heard b p runs l i j =
    let row = get_or heard b [] in
    let more = get_or row p [] ++ runs ∷ [] in
    ap (λ r. get_or r p []) (get_or-set_same heard b (set row p more) [] (omega (arith, i, l.long))) ∙ get_or-set_same row p more [] (omega (arith, j, l.rows b i))

hearing_other : (net : Net) (heard : Pieces) (b p c q : ℕ) (runs : Known) → HeardLong net heard → b < net.brokers → (c ≢ b) ⊎ (q ≢ p) → get_or (get_or (hearing heard (Some (b, p, runs))) c []) q [] ≡ get_or (get_or heard c []) q []
hearing_other net heard b p c q runs l i n =
    let row = get_or heard b [] in
    let more = get_or row p [] ++ runs ∷ [] in
    elim (cases_eq c b) [
      | inr e ↦ ap (λ r. get_or r q []) (get_or-set_other heard b c (set row p more) [] e)
      | inl e ↦ subst (λ z. get_or (get_or (hearing heard (Some (b, p, runs))) z []) q [] ≡ get_or (get_or heard z []) q []) (sym e)
          (ap (λ r. get_or r q []) (get_or-set_same heard b (set row p more) [] (omega (arith, i, l.long))) ∙ elim n [
            | inl x ↦ absurd (x e)
            | inr x ↦ get_or-set_other row p q more [] x
          ])
    ]

hearing_long : (net : Net) (heard : Pieces) (b p : ℕ) (runs : Known) → HeardLong net heard → b < net.brokers → HeardLong net (hearing heard (Some (b, p, runs)))
hearing_long net heard b p runs l i =
    let row = get_or heard b [] in
    let more = get_or row p [] ++ runs ∷ [] in
    record {
      long = length-set heard b (set row p more) ∙ l.long;
      rows = λ c j. elim (cases_eq c b) [
        | inr e ↦ ap length (get_or-set_other heard b c (set row p more) [] e) ∙ l.rows c j
        | inl e ↦ subst (λ z. length (get_or (hearing heard (Some (b, p, runs))) z []) ≡ net.publishers) (sym e) (ap length (get_or-set_same heard b (set row p more) [] (omega (arith, i, l.long))) ∙ (length-set row p more ∙ l.rows b i))
      ];
    }

-- A broker that starts again

deaf_here : (net : Net) (heard : Pieces) (b p : ℕ) → HeardLong net heard → b < net.brokers → p < net.publishers → get_or (get_or (heard_nothing net heard b) b []) p [] ≡ []
deaf_here net heard b p l i j = ap (λ r. get_or r p []) (get_or-set_same heard b (replicate net.publishers []) [] (omega (arith, i, l.long))) ∙ get_or-replicate net.publishers p [] [] j

deaf_long : (net : Net) (heard : Pieces) (b : ℕ) → HeardLong net heard → b < net.brokers → HeardLong net (heard_nothing net heard b)
deaf_long net heard b l i = record {
  long = length-set heard b (replicate net.publishers []) ∙ l.long;
  rows = λ c j. elim (cases_eq c b) [
    | inr e ↦ ap length (get_or-set_other heard b c (replicate net.publishers []) [] e) ∙ l.rows c j
    | inl e ↦ subst (λ z. length (get_or (heard_nothing net heard b) z []) ≡ net.publishers) (sym e) (ap length (get_or-set_same heard b (replicate net.publishers []) [] (omega (arith, i, l.long))) ∙ length-replicate net.publishers [])
  ];
}

-- The line of a frame

line_none : (ls : List Report) → line_of_frame 0 ls ≡ None
line_none [] = refl
line_none (l ∷ ls) = line_none ls

-- a line of no frame has no number
unsent_number : (l : Report) → is_sent l ≡ false → sent_number l ≡ 0
unsent_number (line.SentKnow n from to p runs js) e = absurd (true≢false e)
unsent_number (line.SentWant n from to p runs) e = absurd (true≢false e)
unsent_number (line.SentExpect n from to p tick) e = absurd (true≢false e)
unsent_number _ e = refl

-- lines that send nothing do not matter
line_sent : (k : ℕ) (ls : List Report) → line_of_frame (suc k) ls ≡ line_of_frame (suc k) (filter is_sent ls)
line_sent k [] = refl
line_sent k (l ∷ ls) =
    elim (cases_Bool (is_sent l)) [
      | inl e ↦ rw e (ap (λ (z : Option Report). if nat_lt 0 (suc k) && nat_eq (sent_number l) (suc k) then Some l else z) (line_sent k ls))
      | inr e ↦ rw e (ap (λ q. if nat_lt 0 (suc k) && q then Some l else line_of_frame (suc k) ls) (ne_eqb (sent_number l) (suc k) (λ h. omega (arith, h, unsent_number l e)))
          ∙ (ap (λ q. if q then Some l else line_of_frame (suc k) ls) (and_false (nat_lt 0 (suc k))) ∙ line_sent k ls))
    ]
  where
    and_false : (b : Bool) → (b && false) ≡ false
    and_false true = refl
    and_false false = refl

-- the line of a sent frame says its number
pub sent_line_number : (n : ℕ) (x : Frame) → sent_number (sent_line n x) ≡ n
unfolding sent_line
sent_line_number n x = go x.body
  where
    go : (y : Body) → sent_number (elim y [ body.Knowledge runs js ↦ line.SentKnow n x.head.from x.head.to x.head.publisher runs js | body.Curiosity runs ↦ line.SentWant n x.head.from x.head.to x.head.publisher runs | body.Expect tick ↦ line.SentExpect n x.head.from x.head.to x.head.publisher tick ]) ≡ n
    go (body.Knowledge runs js) = refl
    go (body.Curiosity runs) = refl
    go (body.Expect tick) = refl

-- the line of a frame, where there is one
abbrev pub line_at : ℕ → Option Frame → Option Report
line_at k o = elim o [ None ↦ None | Some x ↦ Some (sent_line k x) ]

line_in : (n i : ℕ) (fs : List Frame) → 1 ≤ n → line_of_frame (n + i) (sent_lines n fs) ≡ line_at (n + i) (slice_get fs i)
line_in n i [] h = refl
line_in n zero (x ∷ fs) h =
    let e : (nat_lt 0 (n + 0) && nat_eq (sent_number (sent_line n x)) (n + 0)) ≡ true = ap₂ (λ a b. a && b) (lt-ltb 0 (n + 0) (omega (arith, h))) (ap (λ m. nat_eq m (n + 0)) (sent_line_number n x) ∙ eq-eqb n (n + 0) (omega arith)) in
    ap (λ q. if q then Some (sent_line n x) else line_of_frame (n + 0) (sent_lines (suc n) fs)) e ∙ ap (λ m. Some (sent_line m x)) (omega arith)
line_in n (suc i) (x ∷ fs) h =
    let e : (nat_lt 0 (n + suc i) && nat_eq (sent_number (sent_line n x)) (n + suc i)) ≡ false = ap₂ (λ a b. a && b) (lt-ltb 0 (n + suc i) (omega (arith, h))) (ap (λ m. nat_eq m (n + suc i)) (sent_line_number n x) ∙ ne_eqb n (n + suc i) (λ g. omega (arith, g))) in
    let m : suc n + i ≡ n + suc i = omega arith in
    ap (λ q. if q then Some (sent_line n x) else line_of_frame (n + suc i) (sent_lines (suc n) fs)) e
    ∙ subst (λ k. line_of_frame k (sent_lines (suc n) fs) ≡ line_at k (slice_get fs i)) m (line_in (suc n) i fs (omega arith))

-- the sent line of a number is that of the frame with the number
pub line_is : (w : World) (k : ℕ) (ls : List Report) → filter is_sent ls ≡ sent_lines 1 w.frames → line_of_frame k ls ≡ line_at k (frame_at w k)
line_is w zero ls e = line_none ls
line_is w (suc k) ls e = line_sent k ls ∙ (ap (line_of_frame (suc k)) e ∙ subst (λ m. line_of_frame m (sent_lines 1 w.frames) ≡ line_at m (slice_get w.frames k)) (omega arith) (line_in 1 k w.frames (omega arith)))

-- A delivery

-- the knowledge of a frame, with its receiver and publisher
abbrev pub know_of_body : Head → Body → Option (ℕ × ℕ × Known)
know_of_body h (body.Knowledge runs js) = Some (h.to, h.publisher, runs)
know_of_body h _ = None

-- the line of a sent frame says its knowledge
pub know_of_sent : (k : ℕ) (x : Frame) → know_of_line (sent_line k x) ≡ know_of_body x.head x.body
unfolding sent_line
know_of_sent k x = go x.body
  where
    go : (y : Body) → know_of_line (elim y [ body.Knowledge runs js ↦ line.SentKnow k x.head.from x.head.to x.head.publisher runs js | body.Curiosity runs ↦ line.SentWant k x.head.from x.head.to x.head.publisher runs | body.Expect tick ↦ line.SentExpect k x.head.from x.head.to x.head.publisher tick ]) ≡ know_of_body x.head y
    go (body.Knowledge runs js) = refl
    go (body.Curiosity runs) = refl
    go (body.Expect tick) = refl

-- what a delivered frame adds
pub record AddsHeard (net : Net) (heard more : Pieces) (h : Head) (y : Body) : Type 0 where
  pub long : HeardLong net more
  pub here : (t : ℕ) → heard_in more h.to h.publisher t ≡ hears_body (heard_in heard h.to h.publisher) y t
  pub same : SameBut (heard_in heard) (heard_in more) h.to h.publisher

-- a delivered frame adds its known ticks to what its receiver has heard of its publisher, and nothing else
pub body_adds : (net : Net) (w : World) (heard : Pieces) (h : Head) (y : Body) → HeardLong net heard → h.to < net.brokers → h.publisher < net.publishers → BodyTrue net (facts_of net w h.publisher) h.publisher h.from h.to y → AddsHeard net heard (hearing heard (know_of_body h y)) h y
body_adds net w heard h (body.Knowledge runs js) l i j tr = record {
  long = hearing_long net heard h.to h.publisher runs l i;
  here = λ t. ap (λ pieces. is_heard pieces t) (hearing_here net heard h.to h.publisher runs l i j) ∙ heard_more (get_or (get_or heard h.to []) h.publisher []) runs t tr.0.runs;
  same = λ c q t n. ap (λ pieces. is_heard pieces t) (hearing_other net heard h.to h.publisher c q runs l i n);
}
body_adds net w heard h (body.Curiosity runs) l i j tr = record { long = l; here = λ t. refl; same = λ c q t n. refl }
body_adds net w heard h (body.Expect tick) l i j tr = record { long = l; here = λ t. refl; same = λ c q t n. refl }

-- Every step but a sweep

-- the brokers below the host, and what a list of pieces says that they have heard
pub record Hears (net : Net) (w : World) (heard : Pieces) : Type 0 where
  pub long : HeardLong net heard
  pub fits : HeardsFit net w (heard_in heard)

wake_all_hears : (net : Net) (w : World) (b : ℕ) (H : ℕ → ℕ → ℕ → Bool) → IsNet net → WorldFits net w → b < net.brokers → HeardsFit net w H → HeardsFit net (wake_all net w b).world H
unfolding wake_all_by
wake_all_hears net w b H n f i h =
    (in_turn_goes net (λ u. HeardsFit net u H) (λ u p. p < net.publishers) (λ u p. wake_for net u b p) (λ x y p l k. k) (λ u p g k j. record { kept = wake_for_kept net u b p n g i j; holds = wake_for_heard net u b p H g i j k }) (numbers net.publishers) w f h (numbers_below 0 net.publishers net.publishers (omega arith))).holds

deliver_hears : (net : Net) (w : World) (k j : ℕ) (o : Option Frame) (heard : Pieces) → IsNet net → WorldFits net w → frame_at w k ≡ o → Hears net w heard →
    Hears net (let t : Transition = elim o [ None ↦ unchanged w (line.RefusedFrame j k (length w.frames) ∷ []) | Some x ↦ deliver_frame net w x ] in t.world) (elim (line_at k o) [ None ↦ heard | Some s ↦ hearing heard (know_of_line s) ])
deliver_hears net w k j None heard n f e h = record { long = h.long; fits = h.fits }
deliver_hears net w k j (Some x) heard n f e h =
    let tr = frame_at_true net w k x f e in
    let a : AddsHeard net heard (hearing heard (know_of_line (sent_line k x))) x.head x.body = subst (λ o. AddsHeard net heard (hearing heard o) x.head x.body) (sym (know_of_sent k x)) (body_adds net w heard x.head x.body h.long tr.fits.to_in tr.publisher_in tr.told) in
    record {
      long = a.long;
      fits = deliver_heard net w x (heard_in heard) (heard_in (hearing heard (know_of_line (sent_line k x)))) n f tr a.here a.same h.fits;
    }

restarted_hears : (net : Net) (w : World) (logs : List Log) (b : ℕ) (heard : Pieces) → WorldFits net w → b < net.brokers → Hears net w heard → Hears net (restarted net (with_logs w logs) b) (heard_nothing net heard b)
restarted_hears net w logs b heard f i h = record {
  long = deaf_long net heard b h.long i;
  fits = restarted_heard net w logs b (heard_in heard) (heard_in (heard_nothing net heard b)) f i (λ p t j. ap (λ pieces. is_heard pieces t) (deaf_here net heard b p h.long i j)) (λ c p t e. ap (λ r. is_heard (get_or r p []) t) (get_or-set_other heard b c (replicate net.publishers []) [] e)) h.fits;
}

crash_hears : (net : Net) (w : World) (b : ℕ) (heard : Pieces) → WorldFits net w → b < net.brokers → Hears net w heard → Hears net (crash net w b).world (heard_nothing net heard b)
unfolding crash
crash_hears net w b heard f i h = let r = restarted_hears net w w.logs b heard f i h in record { long = r.long; fits = r.fits }

stopped_hears : (net : Net) (w : World) (k p number : ℕ) (stop : Stop) (e : Event) (heard : Pieces) → IsNet net → WorldFits net w → p < net.publishers → Hears net w heard →
    Hears net (publish_stopped net w k p number stop e).world (elim (if may_crash net (net.host p) && is_next w.clock (core_of w p) number then Some (net.host p) else None) [ None ↦ heard | Some b ↦ heard_nothing net heard b ])
unfolding publish_stopped_by
stopped_hears net w k p number stop e heard n f j h = go (not_empty (net.subscribers_at (net.host p))) (nat_eq number (suc log.last) && nat_le tick max_tick)
  where
    log : Log
    log = log_of w p

    tick : ℕ
    tick = max (suc log.settled) w.clock

    logs : List Log
    logs = if is_kept (log.size - 1) stop.call stop.pick then set w.logs p (with_event log tick e) else w.logs

    stopped : Transition
    stopped = record {
      world = restarted net (with_logs w logs) (net.host p);
      lines = line.Crashed (net.host p) ∷ ((if is_kept (log.size - 1) stop.call stop.pick then line.Kept p number tick else line.Lost p number tick) ∷ opened_lines net logs (net.host p));
    }

    go : (x y : Bool) → Hears net (let t : Transition = elim x [ true ↦ unchanged w (line.RefusedHosts k (net.host p) ∷ []) | false ↦ elim y [ false ↦ publish_now net w p number e | true ↦ stopped ] ] in t.world) (elim (if not x && y then Some (net.host p) else None) [ None ↦ heard | Some b ↦ heard_nothing net heard b ])
    go true y = record { long = h.long; fits = h.fits }
    go false false = record { long = h.long; fits = publish_now_heard net w p number e (heard_in heard) n f j h.fits }
    go false true = restarted_hears net w logs (net.host p) heard f (n.host_in p j) h

-- after each step but a sweep the history has heard what the brokers below the host have heard
pub hears_by : (net : Net) (w : World) (h : History) (k : ℕ) (s : Step) (ls : List Report) → IsNet net → WorldFits net w → RecordsFit net w h → filter is_sent h.lines ≡ sent_lines 1 w.frames → StepIn net s → is_sweep s ≡ false → Hears net w h.heard → Hears net (next net w (record { number = k; step = s })).world (heard_after net h (record { number = k; step = s }) ls)
unfolding next_by heard_after
hears_by net w h k (step.Clock now) ls n f r e i z a = record { long = a.long; fits = a.fits }
hears_by net w h k (step.Publish p number None v) ls n f r e i z a = record { long = a.long; fits = publish_now_heard net w p number v (heard_in h.heard) n f i a.fits }
hears_by net w h k (step.Publish p number (Some stop) v) ls n f r e i z a =
    subst (λ q. Hears net (publish_stopped net w k p number stop v).world (elim (if may_crash net (net.host p) && q then Some (net.host p) else None) [ None ↦ h.heard | Some b ↦ heard_nothing net h.heard b ]))
    (sym (ap₂ (λ m x. is_next m x number) r.clock (record_core net w h p r))) (stopped_hears net w k p number stop v h.heard n f i a)
hears_by net w h k (step.Wake b) ls n f r e i z a = record { long = a.long; fits = wake_all_hears net w b (heard_in h.heard) n f i a.fits }
hears_by net w h k (step.Deliver j) ls n f r e i z a =
    subst (λ o. Hears net (next net w (record { number = k; step = step.Deliver j })).world (elim o [ None ↦ h.heard | Some s ↦ hearing h.heard (know_of_line s) ])) (sym (line_is w j h.lines e))
    (deliver_hears net w j k (frame_at w j) h.heard n f refl a)
hears_by net w h k (step.Crash b) ls n f r e i z a = go (not_empty (net.subscribers_at b))
  where
    go : (q : Bool) → Hears net (let t : Transition = elim q [ true ↦ unchanged w (line.RefusedHosts k b ∷ []) | false ↦ crash net w b ] in t.world) (elim (if not q then Some b else None) [ None ↦ h.heard | Some b ↦ heard_nothing net h.heard b ])
    go true = record { long = a.long; fits = a.fits }
    go false = crash_hears net w b h.heard f i a
hears_by net w h k step.Sweep ls n f r e i z a = absurd (true≢false z)
hears_by net w h k step.Show ls n f r e i z a = record { long = a.long; fits = a.fits }
hears_by net w h k (step.Bytes j) ls n f r e i z a = go (frame_at w j)
  where
    go : (o : Option Frame) → Hears net (let t : Transition = elim o [ None ↦ unchanged w (line.RefusedFrame k j (length w.frames) ∷ []) | Some x ↦ unchanged w (line.BytesOf j (frame_bytes x) ∷ []) ] in t.world) h.heard
    go None = record { long = a.long; fits = a.fits }
    go (Some x) = record { long = a.long; fits = a.fits }
hears_by net w h k (step.Join s p) ls n f r e i z a = record { long = a.long; fits = join_now_heard net w s p (heard_in h.heard) n f i.1 a.fits }
