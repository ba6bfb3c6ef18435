-- A host with subscribers has its horizon where its log is settled
use Rattle.std.proofs.Common.{◌≡◌, inl, inr, ℕ, suc, ◌+◌, ◌-◌, ◌≤◌, ◌<◌, max, Bool, true, false, [], ◌∷◌, refl, sym, ap, ◌∙◌, subst, arith, le_refl, le_antisymm}
use Rattle.std.specs.Prelude.{nat_le}
use Rattle.gr_model.specs.Headline.{join_line, is_record_of, publish_line}
use Rattle.std.proofs.lemmas.Bool.{cases_lt, cases_eq, eq-eqb, ne_eqb, or_left, leb-true, false≢true, le-leb, lt-leb, lt-ltb, le-ltb}
use Rattle.gr_event.specs.declared.event.Event.{Event}
use Rattle.gr_know.specs.declared.values.K.TheVariants.{Q}
use Rattle.gr_frame.specs.declared.Frame.{Frame}
use Rattle.gr_tick.specs.Runs.{zip_runs, first_bottom_from}
use Rattle.gr_know.specs.Values.{Known, known_at, join_K, same_K}
use Rattle.gr_model.specs.Net.{is_late, Net, is_host, keeps_horizon, not_empty, is_empty}
use Rattle.gr_model.specs.Broker.{joining, with_join, with_joins, View, Log, Outcome, learn, publish, marking, wake, wake_host, wake_below, receive, silence, with_event, with_mark, max_tick}
use Rattle.gr_model.specs.World.{join_now_by, World, view_of, log_of, absorbed, deliver_frame_by, publish_now_by, wake_for_by}
use Rattle.gr_model_calls.specs.OneNet.{join_now, wake_for, deliver_frame, publish_now}
use Rattle.gr_model_calls.specs.Truth.{Grows, HasEvent, KnowsTruth}
use Rattle.gr_model_calls.specs.Fits.{facts, reached_in, LogFits, ViewTrue, HostKnows, FrameTrue, WorldFits}
use Rattle.gr_model.specs.Tree.{IsNet}
use Rattle.gr_model_calls.proofs.calls.HostCases.{joining_cases, publish_cases, marking_cases, news_of}
use Rattle.gr_tick.proofs.RunLaws.{first_bottom_from-is}
use Rattle.gr_model_calls.proofs.calls.CallTruth.{ViewTrue-joins, joined-is, learned_horizon, ViewTrue-later}
use Rattle.gr_model_calls.proofs.calls.Cutting.{cutting_settled}
use Rattle.gr_model_calls.proofs.calls.Calls.{joining_call, CallTrue, learn_horizon, marking_call, wake_call, publish_call, receive_call, later_facts, silence_true, nothing_true, said_more, published_piece}
use Rattle.gr_model_theorems.proofs.heard.Heard.{learn_above, horizon_keeps}
use Rattle.gr_model_theorems.proofs.records.Records.{core, receive_log}
use Rattle.gr_model_calls.proofs.calls.Held.{own, grows_not}
use Rattle.gr_model_calls.proofs.runs.Worlds.{held_by_host, absorbed_changed}

-- a call leaves the horizon within what is settled
pub call_within : (net : Net) (p b : ℕ) (v : View) (log : Log) (reached : ℕ → ℕ) (o : Outcome) → CallTrue net p b v log reached o → o.view.horizon ≤ o.log.settled
call_within net p b v log reached o c = (c.told (λ s. max (reached s) o.view.horizon) (record { on = λ s. omega arith; here = λ s m. omega arith })).view.horizon.settled

-- where all up to a tick is known after learning, the horizon has come so far
pub learn_reaches : (net : Net) (p b settled : ℕ) (piece : Known) (v : View) (log new : Log) (reached : ℕ → ℕ) → IsNet net → p < net.publishers → b < net.brokers → keeps_horizon net p b ≡ true → ViewTrue net (facts log reached) p b v → KnowsTruth net (facts log reached) p b piece → HostKnows (learn net p b piece v new).view settled → settled ≤ (learn net p b piece v new).view.horizon
learn_reaches net p b settled piece v log new reached n i j keeps h k known =
    let know = zip_runs Q Q Q same_K join_K v.know piece in
    let x = joined-is v.know piece h.know.runs k.runs in
    let e : (learn net p b piece v new).view.horizon ≡ learned_horizon net p b piece v = learn_horizon net p b piece v new in
    let g : learned_horizon net p b piece v ≡ first_bottom_from know (suc v.horizon) - 1 = horizon_keeps (keeps_horizon net p b) v.horizon know keeps in
    let y = first_bottom_from-is Q 1 know (suc v.horizon) x.runs in
    let u : suc (learned_horizon net p b piece v) ≡ first_bottom_from know (suc v.horizon) = omega (arith, g, y.reached) in
    elim (cases_lt (learned_horizon net p b piece v) settled) [
      | inr l ↦ omega (arith, e, l)
      | inl l ↦ absurd (known (suc (learned_horizon net p b piece v)) (omega arith) (omega (arith, l))
          (learn_above net (facts log reached) p b piece v new (suc (learned_horizon net p b piece v)) (n.place p b i j) keeps h k (omega arith)
          ∙ (sym (x.same_at (suc (learned_horizon net p b piece v))) ∙ subst (λ z. known_at know z ≡ Q) (sym u) y.stops)))
    ]

-- Calls

abbrev Meets : View → Log → Type 0
Meets v log = v.horizon ≡ log.settled

-- a call that leaves what is settled
settled_meets : (net : Net) (p b : ℕ) (v : View) (log : Log) (reached : ℕ → ℕ) (o : Outcome) → CallTrue net p b v log reached o → o.log.settled ≡ log.settled → Meets v log → Meets o.view o.log
settled_meets net p b v log reached o c s m = let w = call_within net p b v log reached o c in le_antisymm w (omega (arith, c.horizon, m, s))

marking_meets : (net : Net) (p b now : ℕ) (v : View) (log : Log) (reached : ℕ → ℕ) → IsNet net → p < net.publishers → b < net.brokers → is_host net p b ≡ true → keeps_horizon net p b ≡ true → LogFits log → ViewTrue net (facts log reached) p b v → v.joins ≡ log.joins → HostKnows v log.settled → (nat_le (log.settled + net.quiet) now ≡ false → Meets v log) → Meets (marking net p b now v log).view (marking net p b now v log).log
marking_meets net p b now v log reached n i j host keeps fit h js known m =
    marking_cases net p b now v log (λ o. CallTrue net p b v log reached o → Meets o.view o.log) marked (λ e c. m e) (marking_call net p b now v log reached n i j host fit h js)
  where
    new : Log
    new = with_mark log now

    piece : Known
    piece = silence (suc log.settled) now []

    o : Outcome
    o = learn net p b piece v new

    marked : nat_le (log.settled + net.quiet) now ≡ true → CallTrue net p b v log reached o → Meets o.view o.log
    marked e c =
        let l : log.settled ≤ now = omega (arith, leb-true (log.settled + net.quiet) now e) in
        le_antisymm (call_within net p b v log reached _ c)
        (learn_reaches net p b o.log.settled piece v new new reached n i j keeps
        (ViewTrue-later net (facts log reached) (facts new reached) p b v (later_facts log new reached reached l (λ t x. refl) (λ s. le_refl (reached s)) (grows_not log.joins log.settled)) h)
        (silence_true net (facts new reached) p b (suc log.settled) now [] (omega arith) (le_refl now) (λ t x y. fit.past t x) (nothing_true net (facts new reached) p b) tt tt)
        (c.known host known))

-- a wake that marks brings the host's horizon to where its log is settled, and each other wake leaves it there
pub wake_meets : (net : Net) (p b now : ℕ) (v : View) (log : Log) (reached : ℕ → ℕ) → IsNet net → p < net.publishers → b < net.brokers → is_host net p b ≡ true → keeps_horizon net p b ≡ true → LogFits log → ViewTrue net (facts log reached) p b v → v.joins ≡ log.joins → HostKnows v log.settled → (nat_le (log.settled + net.quiet) now ≡ false → Meets v log) → Meets (wake net p b now v log).view (wake net p b now v log).log
unfolding wake wake_host
wake_meets net p b now v log reached n i j host keeps fit h js known m = go (is_host net p b) host
  where
    o : Outcome
    o = marking net p b now v log

    go : (q : Bool) → q ≡ true → (let u : Outcome = elim q [ true ↦ wake_host net p b now v log | false ↦ wake_below net p b now v log ] in Meets u.view u.log)
    go false e = absurd (false≢true e)
    go true e = marking_meets net p b now v log reached n i j host keeps fit h js known m ∙ sym (cutting_settled net p b o.view o.log)

-- a publish that is recorded brings the host's horizon to where its log is settled, and each other leaves it there
pub publish_meets : (net : Net) (p b now number : ℕ) (e : Event) (v : View) (log : Log) (reached : ℕ → ℕ) → IsNet net → p < net.publishers → b < net.brokers → is_host net p b ≡ true → keeps_horizon net p b ≡ true → LogFits log → ViewTrue net (facts log reached) p b v → v.joins ≡ log.joins → HostKnows v log.settled → (is_record_of p (publish_line p now number (core log)) ≡ false → Meets v log) → Meets (publish net p b now number e v log).view (publish net p b now number e v log).log
publish_meets net p b now number e v log reached n i j host keeps fit h js known m =
    publish_cases net p b now number e v log (λ o. CallTrue net p b v log reached o → Meets o.view o.log)
    (λ l c. m (rw (le-leb number log.last l) refl))
    (λ l c. m (rw (lt-leb number log.last (omega (arith, l)), lt-ltb (suc log.last) number l) refl))
    (λ x l c. m (rw (lt-leb number log.last (omega (arith, x)), le-ltb (suc log.last) number (omega (arith, x)), lt-ltb max_tick tick l) refl))
    (λ x l c.
    le_antisymm (call_within net p b v log reached _ c)
    (learn_reaches net p b o.log.settled (news_of log tick e) v new new reached n i j keeps
    (ViewTrue-later net (facts log reached) (facts new reached) p b v (later_facts log new reached reached (omega arith) (λ t x. said_more log.events tick t e (λ q. omega (arith, q))) (λ s. le_refl (reached s)) (grows_not log.joins log.settled)) h)
    (published_piece net p b tick e log reached host fit (omega arith))
    (c.known host known)))
    (publish_call net p b now number e v log reached n i j host fit h js)
  where
    tick : ℕ
    tick = max (suc log.settled) now

    new : Log
    new = with_event log tick e

    o : Outcome
    o = learn net p b (news_of log tick e) v new

-- a join that is recorded brings the host's horizon to where its log is settled, and each other leaves it there
pub joining_meets : (net : Net) (p b now s : ℕ) (v : View) (log : Log) (reached : ℕ → ℕ) → IsNet net → is_late net s ≡ true → p < net.publishers → b < net.brokers → is_host net p b ≡ true → keeps_horizon net p b ≡ true → LogFits log → ViewTrue net (facts log reached) p b v → HostKnows v log.settled → (is_record_of p (join_line s p now (core log)) ≡ false → Meets v log) → Meets (joining net p b now s v log).view (joining net p b now s v log).log
joining_meets net p b now s v log reached n late i j host keeps fit h known m =
    joining_cases net p b now s v log (λ o. CallTrue net p b v log reached o → Meets o.view o.log)
    (λ e c. m (rw e refl))
    (λ e l c. m (rw (e, lt-ltb max_tick tick l) refl))
    (λ e l c.
    le_antisymm (call_within net p b v log reached _ c)
    (learn_reaches net p b o.log.settled piece u new new reached n i j keeps
    (ViewTrue-joins net (facts new reached) p b v new.joins (ViewTrue-later net (facts log reached) (facts new reached) p b v (later_facts log new reached reached (omega arith) (λ t x. refl) (λ s. le_refl (reached s)) grows) h) (own new.joins (HasEvent v.know)))
    (silence_true net (facts new reached) p b (suc log.settled) tick [] (omega arith) (le_refl tick) (λ t x y. fit.past t x) (nothing_true net (facts new reached) p b) tt tt)
    (c.known host known)))
    (joining_call net p b now s v log reached n late i j host fit h)
  where
    tick : ℕ
    tick = max (suc log.settled) now

    new : Log
    new = with_join log tick s

    grows : Grows log.joins new.joins log.settled
    grows = (record { subscriber = s; tick = tick } ∷ [], refl, (omega arith, tt))

    piece : Known
    piece = silence (suc log.settled) tick []

    u : View
    u = with_joins v new.joins

    o : Outcome
    o = learn net p b piece u new

-- Worlds

-- every host with subscribers has its horizon where its log is settled
abbrev pub HostsMeet : Net → World → Type 0
HostsMeet net w = (q : ℕ) → q < net.publishers → not_empty (net.subscribers_at (net.host q)) ≡ true → (view_of w (net.host q) q).horizon ≡ (log_of w q).settled

keeps_at : (net : Net) (p b : ℕ) → not_empty (net.subscribers_at b) ≡ true → keeps_horizon net p b ≡ true
keeps_at net p b e = or_left (not_empty (net.subscribers_at b)) (is_empty (net.children p b)) e

absorbed_meets : (net : Net) (w : World) (b p : ℕ) (o : Outcome) → WorldFits net w → b < net.brokers → p < net.publishers → CallTrue net p b (view_of w b p) (log_of w p) (reached_in net w p) o → (is_host net p b ≡ true → keeps_horizon net p b ≡ true → HostKnows (view_of w b p) (log_of w p).settled → Meets (view_of w b p) (log_of w p) → Meets o.view o.log) → HostsMeet net w → HostsMeet net (absorbed w b p o).world
absorbed_meets net w b p o f i j t call m q x y =
    let c = absorbed_changed net w b p o f i j in
    let u = (absorbed w b p o).world in
    elim (cases_eq q p) [
      | inr e ↦ ap (λ v. v.horizon) (c.other_publisher (net.host q) q e) ∙ (m q x y ∙ ap (λ l. l.settled) (sym (c.other_log q e)))
      | inl e ↦ subst (λ z. not_empty (net.subscribers_at (net.host z)) ≡ true → (view_of u (net.host z) z).horizon ≡ (log_of u z).settled) (sym e) (λ y. elim (cases_eq (net.host p) b) [
        | inr g ↦ ap (λ v. v.horizon) (c.other_broker (net.host p) p g) ∙ (m p j y ∙ ap (λ l. l.settled) (sym (c.log ∙ t.same_log (ne_eqb (net.host p) b g))))
        | inl g ↦ ap (λ z. (view_of u z p).horizon) g ∙ (ap (λ v. v.horizon) c.view ∙ (call (eq-eqb (net.host p) b g) (keeps_at net p b (subst (λ z. not_empty (net.subscribers_at z) ≡ true) g y)) (subst (λ z. HostKnows (view_of w z p) (log_of w p).settled) g (f.known p j)) (subst (λ z. (view_of w z p).horizon ≡ (log_of w p).settled) g (m p j y)) ∙ ap (λ l. l.settled) (sym c.log)))
      ]) y
    ]

-- a wake keeps each host with subscribers at where its log is settled
pub wake_for_meets : (net : Net) (w : World) (b p : ℕ) → IsNet net → WorldFits net w → b < net.brokers → p < net.publishers → HostsMeet net w → HostsMeet net (wake_for net w b p).world
unfolding wake_for_by
wake_for_meets net w b p n f i j m = absorbed_meets net w b p (wake net p b w.clock (view_of w b p) (log_of w p)) f i j
    (wake_call net p b w.clock (view_of w b p) (log_of w p) (reached_in net w p) n j i (f.logs p j) (f.views p b j i) (held_by_host net w b p f j))
    (λ host keeps known x. wake_meets net p b w.clock (view_of w b p) (log_of w p) (reached_in net w p) n j i host keeps (f.logs p j) (f.views p b j i) (held_by_host net w b p f j host) known (λ e. x)) m

-- a delivery keeps each host with subscribers at where its log is settled
pub deliver_meets : (net : Net) (w : World) (x : Frame) → IsNet net → WorldFits net w → FrameTrue net w x → HostsMeet net w → HostsMeet net (deliver_frame net w x).world
unfolding deliver_frame_by
deliver_meets net w x n f t m =
    let p = x.head.publisher in
    let c = receive_call net w.clock x (view_of w x.head.to p) (log_of w p) (reached_in net w p) n t.publisher_in t.fits t.told (f.logs p t.publisher_in) (f.views p x.head.to t.publisher_in t.fits.to_in) in
    absorbed_meets net w x.head.to p (receive net w.clock x (view_of w x.head.to p) (log_of w p)) f t.fits.to_in t.publisher_in c
    (λ host keeps known y. settled_meets net p x.head.to (view_of w x.head.to p) (log_of w p) (reached_in net w p) (receive net w.clock x (view_of w x.head.to p) (log_of w p)) c (ap (λ l. l.settled) (receive_log net w.clock x (view_of w x.head.to p) (log_of w p))) y) m

-- a publish keeps each host with subscribers at where its log is settled
pub publish_now_meets : (net : Net) (w : World) (p number : ℕ) (e : Event) → IsNet net → WorldFits net w → p < net.publishers → HostsMeet net w → HostsMeet net (publish_now net w p number e).world
unfolding publish_now_by
publish_now_meets net w p number e n f j m =
    let b = net.host p in
    let i = n.host_in p j in
    absorbed_meets net w b p (publish net p b w.clock number e (view_of w b p) (log_of w p)) f i j
    (publish_call net p b w.clock number e (view_of w b p) (log_of w p) (reached_in net w p) n j i (eq-eqb b b refl) (f.logs p j) (f.views p b j i) (f.hosts p j))
    (λ host keeps known x. publish_meets net p b w.clock number e (view_of w b p) (log_of w p) (reached_in net w p) n j i host keeps (f.logs p j) (f.views p b j i) (f.hosts p j) known (λ z. x)) m

-- a join keeps each host with subscribers at where its log is settled
pub join_now_meets : (net : Net) (w : World) (s p : ℕ) → IsNet net → WorldFits net w → is_late net s ≡ true → p < net.publishers → HostsMeet net w → HostsMeet net (join_now net w s p).world
unfolding join_now_by
join_now_meets net w s p n f late j m =
    let b = net.host p in
    let i = n.host_in p j in
    absorbed_meets net w b p (joining net p b w.clock s (view_of w b p) (log_of w p)) f i j
    (joining_call net p b w.clock s (view_of w b p) (log_of w p) (reached_in net w p) n late j i (eq-eqb b b refl) (f.logs p j) (f.views p b j i))
    (λ host keeps known x. joining_meets net p b w.clock s (view_of w b p) (log_of w p) (reached_in net w p) n late j i host keeps (f.logs p j) (f.views p b j i) known (λ z. x)) m
