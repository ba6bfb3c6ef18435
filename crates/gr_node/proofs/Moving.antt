-- What a node does act by act is what the machine does: the broker that is called answers and leaves what the machine's call tells and
-- leaves, so both tell, number and send the same
use Rattle.std.proofs.Common.{◌≡◌, ◌≢◌, ◌⊎◌, inl, inr, ℕ, suc, ◌+◌, ◌^◌, ◌<◌, Bool, true, false, ◌&&◌, ◌||◌, List, [], ◌∷◌, ◌++◌, length, min, set, Option, Some, None, Result, Ok, Err, refl, sym, ap, ap₂, ◌∙◌, subst, arith, append-nil, flat_map}
use Rattle.std.specs.Prelude.{is_some, nat_eq, nat_lt, if◌then◌else◌}
use Rattle.std.specs.List.{AllByRecursion}
use Rattle.std.proofs.lemmas.Bool.{cases_eq, eq-eqb, ne_eqb, eqb-true, ltb-true, and_parts, or_right, true≢false}
use Rattle.std.proofs.lemmas.List.{get_or-set_same, set-get_or}
use Rattle.gr_event.specs.declared.event.Event.{Event}
use Rattle.gr_event.specs.declared.join.Split.{Split}
use Rattle.gr_event.specs.Joins.{first_split}
use Rattle.gr_frame.specs.declared.Frame.{Frame}
use Rattle.gr_frame.specs.declared.fault.FrameFault.{FrameFault}
use Rattle.gr_out.specs.Entry.{Entry}
use Rattle.gr_out.specs.Journal.{is_among}
use Rattle.gr_know.specs.Values.{known_at}
use Rattle.gr_publog.specs.declared.record.Record.{Record}
use Rattle.gr_publog.specs.Views.{LogView}
use Rattle.gr_publog.specs.Calls.{appended_if}
use Rattle.gr_pubend.specs.Log.{said}
use Rattle.gr_pubend.specs.Answers.{published, quieted, joined_at, event_of, mark_of, quiet_logs, join_of}
use Rattle.gr_pubend.specs.Cuts.{cut_if}
use Rattle.gr_topo.specs.Topology.{TopologyView, host_of}
use Rattle.gr_model.specs.declared.report.Report.{Report}
use Rattle.gr_model.specs.declared.report.Report.TheVariants as line
use Rattle.gr_model.specs.Net.{Net, is_host, keeps_horizon, numbers}
use Rattle.gr_model.specs.NetOf.{net_of}
use Rattle.gr_model.specs.Broker.{View, Log, Outcome as MachineOutcome, empty_log, max_tick, publish, marking, wake, wake_host, wake_below, receive, seen, taking}
use Rattle.gr_model.specs.World.{World, Transition, view_of, log_of, absorbed, unchanged, in_turn, frames_past, wake_for, wake_for_by, publish_now, publish_now_by, join_now, join_now_by, deliver_frame, deliver_frame_by}
use Rattle.gr_model.specs.Arrivals.{Arrival, at_moment, fault_number, fits_broker, joins_in, joins_fit, least_clash, clash_line, split_line, takes, takes_by, receives, receives_by, is_hosted, show_hosted}
use Rattle.gr_model.specs.Orders.{Order, fed, without_ordered}
use Rattle.gr_model_calls.proofs.rules.Serves.{frames_past_all}
use Rattle.gr_model_theorems.proofs.server.CutEvents.{on_log}
use Rattle.gr_broker_relay.specs.Cuts.{tick_cut}
use Rattle.gr_broker.specs.Seen.{BrokerView, view_in, log_in, log_said, machine_log, with_view, with_logged, with_cut_if, logged_at}
use Rattle.gr_broker.specs.Hosted.{publish_at, publish_logs_at, join_with, join_at, join_logs_at, wake_at, mark_logs_at, cut_at, after_wake}
use Rattle.gr_broker.specs.Receipt.{Receipt, stray, split, clash, taken, came_at, receipt, receipt_of_fit, after_receipt}
use Rattle.gr_broker.proofs.Hosted.{marking_log_is, cutting_log_is}
use Rattle.gr_broker.proofs.Parts.{said_after, said_joined}
use Rattle.gr_report.proofs.Along.{flat_map_same}
use Rattle.gr_report.proofs.Passing.{PassesLog, PassesRest, wake_passes, receive_passes}
use Rattle.gr_node.specs.Seen.{NodeView, broker_in, log_at, log_here}
use Rattle.gr_node.specs.Of.{Hosts}
use Rattle.gr_node.specs.Plan.{Call, gets, publishes, joins, wakes, Act, binds, starts, arrives, calls, answers, drops, settles, closes, shows, is_ours, moment_of, offers_of, reply_entry, called, act, entries, all_entries, told_by, heard_by, told_by_acts}
use Rattle.gr_node.specs.Done.{Done, broker_of, taken_up, receipt_lines, receipt_frames, done_by, done_at, call_done, log_shown, log_shown_in, logs_shown, doubt_shown, doubts_by, doubts_shown, shown, done, all_done}
pub use Rattle.gr_node.proofs.Taken.{IsShaped, IsNode}
use Rattle.gr_model_theorems.proofs.order.Unheard.{IsUnheard, fed_nothing, fed_unheard, fed_sent, shown_unheard}
use Rattle.gr_node.proofs.Taken.{node_heard, Does, offers_since, broker_here, exchanges_log, exchanges_view, logged_some, cut_some, taken_is}
use Rattle.gr_node.proofs.Ordered.{IsOrdered, ordered_publish, ordered_mark, ordered_join, ordered_logged, ordered_cut_if}

-- Acts that a node may do

-- a call of a hosted broker
abbrev pub IsCallOf : TopologyView → List ℕ → Call → Type 0
IsCallOf t hosted (gets b r) = is_among hosted b ≡ true
IsCallOf t hosted (publishes x) = (x.0 < length t.publishers) × (is_among hosted (host_of t x.0) ≡ true)
IsCallOf t hosted (joins s p) = (p < length t.publishers) × ((is_among hosted (host_of t p) ≡ true) × (s < 2 ^ 16))
IsCallOf t hosted (wakes b p) = (is_among hosted b ≡ true) × (p < length t.publishers)

-- an act once the hosted brokers have started
abbrev pub IsActOf : TopologyView → List ℕ → Act → Type 0
IsActOf t hosted (calls c) = IsCallOf t hosted c
IsActOf t hosted (answers x) = IsCallOf t hosted (publishes x)
IsActOf t hosted (drops l) = IsUnheard l
IsActOf t hosted (arrives a) = Unit {0}
IsActOf t hosted settles = Unit {0}
IsActOf t hosted closes = Unit {0}
IsActOf t hosted shows = Unit {0}
IsActOf t hosted (binds b) = ⊥
IsActOf t hosted (starts b) = ⊥

-- The log after a wake at the host

with_cut_is : (l : LogView) (r : Option Record) (cut : Option ℕ) (reclaim : ℕ) → log_said (with_cut_if (with_logged (Some l) r) cut reclaim) ≡ said (cut_if cut reclaim (appended_if r l))
with_cut_is l None cut reclaim = refl
with_cut_is l (Some r) cut reclaim = refl

woken_log : (net : Net) (p b now : ℕ) (v : View) (l : LogView) → IsOrdered l.state
    → (let m : MachineOutcome = marking net p b now v (said l) in
    log_said (with_cut_if (with_logged (Some l) (quiet_logs (said l) now net.quiet)) (tick_cut net p b m.view m.log) net.reclaim))
    ≡ (wake_host net p b now v (said l)).log
unfolding wake_host
woken_log net p b now v l ordered =
    let m : MachineOutcome = marking net p b now v (said l) in
    let mark : Option Record = quiet_logs (said l) now net.quiet in
    let after : IsOrdered (appended_if mark l).state = ordered_mark l ordered now net.quiet in
    with_cut_is l mark (tick_cut net p b m.view m.log) net.reclaim
    ∙ cutting_log_is net p b m.view (appended_if mark l) m.log after.rise after.apart (marking_log_is net p b now v l)

wake_at_host : (net : Net) (p b now : ℕ) (v : View) (l : Log) → is_host net p b ≡ true → wake net p b now v l ≡ wake_host net p b now v l
unfolding wake
wake_at_host net p b now v l e =
    ap (λ (q : Bool). let o : MachineOutcome = elim q [ true ↦ wake_host net p b now v l | false ↦ wake_below net p b now v l ] in o) e

-- what the log of a publisher here is then
said_woken : (t : TopologyView) (x : BrokerView) (p now : ℕ) → is_host (net_of t) p x.number ≡ true → is_some (log_in x p) ≡ true → ((l : LogView) → log_in x p ≡ Some l → IsOrdered l.state)
    → log_said (with_cut_if (with_logged (log_in x p) (mark_logs_at t x p now)) (cut_at t x p now) t.settings.reclaim)
    ≡ (let o : MachineOutcome = wake_at t x p now in o.log)
said_woken t x p now host some ordered = go (log_in x p) some ordered
  where
    go : (s : Option LogView) → is_some s ≡ true → ((l : LogView) → s ≡ Some l → IsOrdered l.state)
        → (let m : MachineOutcome = marking (seen (net_of t) (view_in x p)) p x.number now (view_in x p) (log_said s) in
        log_said (with_cut_if (with_logged s (mark_of (quieted (log_said s) now t.settings.quiet))) (tick_cut (net_of t) p x.number m.view m.log) t.settings.reclaim))
        ≡ (let o : MachineOutcome = wake (seen (net_of t) (view_in x p)) p x.number now (view_in x p) (log_said s) in o.log)
    go None e h = absurd (true≢false (sym e))
    go (Some l) e h =
        woken_log (seen (net_of t) (view_in x p)) p x.number now (view_in x p) l (h l refl)
        ∙ sym (ap (λ (o : MachineOutcome). o.log) (wake_at_host (seen (net_of t) (view_in x p)) p x.number now (view_in x p) (said l) host))

-- The calls

-- the machine's call is the outcome taken up
publish_is : (net : Net) (w : World) (p number : ℕ) (e : Event) → publish_now net w p number e
    ≡ absorbed w (net.host p) p (publish (seen net (view_of w (net.host p) p)) p (net.host p) w.clock number e (view_of w (net.host p) p) (log_of w p))
unfolding publish_now_by
publish_is net w p number e = refl

join_is : (net : Net) (w : World) (s p : ℕ) → join_now net w s p
    ≡ absorbed w (net.host p) p (join_with net p (net.host p) w.clock s (view_of w (net.host p) p) (log_of w p))
unfolding join_now_by
join_is net w s p = refl

wake_is : (net : Net) (w : World) (b p : ℕ) → wake_for net w b p ≡ absorbed w b p (wake (seen net (view_of w b p)) p b w.clock (view_of w b p) (log_of w p))
unfolding wake_for_by
wake_is net w b p = refl

deliver_is : (net : Net) (w : World) (f : Frame) → deliver_frame net w f
    ≡ absorbed w f.head.to f.head.publisher
    (receive (seen net (taking (view_of w f.head.to f.head.publisher) f)) w.clock f (view_of w f.head.to f.head.publisher) (log_of w f.head.publisher))
unfolding deliver_frame_by
deliver_is net w f = refl

-- functions that agree on what stands in a list give one list
flat_map_each : {X : Type 0} (f g : ℕ → List X) (bs : List ℕ) → ((b : ℕ) → is_among bs b ≡ true → f b ≡ g b) → flat_map f bs ≡ flat_map g bs
flat_map_each f g [] same = refl
flat_map_each f g (b ∷ bs) same =
    ap₂ (λ xs ys. xs ++ ys) (same b (ap (λ q. q || is_among bs b) (eq-eqb b b refl))) (flat_map_each f g bs (λ c e. same c (or_right (nat_eq b c) (is_among bs c) e)))

module _ (t : TopologyView) (hosted : List ℕ) (n : NodeView) (w : World) (i : IsNode t n w) (h : Hosts hosted n) where
  abbrev net : Net
  net = net_of t

  -- a call is made of the broker that is here
  call_at : (b : ℕ) (x : BrokerView) (c : Call) → broker_in n b ≡ Some x → done_by t n b (broker_in n b) c ≡ done_at t n b x c
  call_at b x c e = ap (λ (s : Option BrokerView). done_by t n b s c) e

  -- A publish and a join

  -- a call of the broker at which the publisher is, by the record that it logs
  module _ (p : ℕ) (x : BrokerView) (here : broker_in n (host_of t p) ≡ Some x) (below : p < length t.publishers)
      (call : ℕ → ℕ → View → Log → MachineOutcome) (r : Option Record) where
    abbrev there : ℕ
    there = host_of t p

    abbrev call_there : MachineOutcome
    call_there = call there w.clock (view_of w there p) (log_of w p)

    abbrev call_made : MachineOutcome
    call_made = call x.number n.now (view_in x p) (machine_log x p)

    shape_there : IsShaped t there x
    shape_there = i.shaped there x here

    call_same : call_made ≡ call_there
    call_same =
        ap (λ (k : ℕ). call k n.now (view_in x p) (machine_log x p)) shape_there.number
        ∙ (ap (λ (k : ℕ). call there k (view_in x p) (machine_log x p)) (sym i.clock)
        ∙ (ap (λ (v : View). call there w.clock v (machine_log x p)) (sym (i.views there p x here below))
        ∙ ap (λ (l : Log). call there w.clock (view_of w there p) l) (sym (i.logs p x here below))))

    log_there : is_some (log_in x p) ≡ true
    log_there = shape_there.hosted p below ∙ eq-eqb (host_of t p) there refl

    long_there : p < length x.logs
    long_there = omega (arith, below, shape_there.logs)

    host_does : log_said (with_logged (log_in x p) r) ≡ call_made.log → ((l : LogView) → log_in x p ≡ Some l → IsOrdered (appended_if r l).state)
        → Does t hosted (taken_up n there (logged_at x p r call_made.view) call_made.lines call_made.frames) (absorbed w there p call_there) (offers_since w (absorbed w there p call_there))
    host_does logs ordered =
        taken_is t hosted n w there p x (logged_at x p r call_made.view) call_made call_there i h here below
        (exchanges_log p x (with_logged (log_in x p) r) call_made.view long_there (logged_some (log_in x p) r) (ordered_logged (log_in x p) r ordered))
        (ap (λ (k : MachineOutcome). on_log k call_there.log) call_same)
        (λ at. ap log_said (get_or-set_same x.logs p (with_logged (log_in x p) r) None long_there) ∙ (logs ∙ ap (λ (o : MachineOutcome). o.log) call_same))
        (λ ne. absurd (ne refl))

  publish_does : (p number : ℕ) (e : Event) (x : BrokerView) → broker_in n (host_of t p) ≡ Some x → p < length t.publishers
      → Does t hosted (done_at t n (host_of t p) x (publishes (p, (number, e)))) (publish_now net w p number e) (offers_since w (publish_now net w p number e))
  unfolding done_at
  publish_does p number e x here below =
      let o : MachineOutcome = publish_at t x p n.now number e in
      let logs : Option Record = publish_logs_at x p n.now number e in
      let call : ℕ → ℕ → View → Log → MachineOutcome = λ b now v l. publish (seen net v) p b now number e v l in
      subst (λ (u : Transition). Does t hosted (taken_up n (host_of t p) (logged_at x p logs o.view) o.lines o.frames) u (offers_since w u)) (sym (publish_is net w p number e))
      (host_does p x here below call logs
      (said_after (seen net (view_in x p)) p x.number n.now number e (view_in x p) (log_in x p) (log_there p x here below call logs))
      (λ l h. subst (λ (s : Option LogView). IsOrdered (appended_if (event_of (published (log_said s) number e n.now) number e) l).state) (sym h)
      (ordered_publish l ((i.shaped (host_of t p) x here).ordered p l h) number e n.now)))

  join_does : (s p : ℕ) (x : BrokerView) → broker_in n (host_of t p) ≡ Some x → p < length t.publishers → s < 2 ^ 16
      → Does t hosted (done_at t n (host_of t p) x (joins s p)) (join_now net w s p) (offers_since w (join_now net w s p))
  unfolding done_at
  join_does s p x here below small =
      let o : MachineOutcome = join_at t x p s n.now in
      let logs : Option Record = join_logs_at x p s n.now in
      let call : ℕ → ℕ → View → Log → MachineOutcome = λ b now v l. join_with net p b now s v l in
      subst (λ (u : Transition). Does t hosted (taken_up n (host_of t p) (logged_at x p logs o.view) o.lines o.frames) u (offers_since w u)) (sym (join_is net w s p))
      (host_does p x here below call logs
      (said_joined net p x.number n.now s (view_in x p) (log_in x p) (log_there p x here below call logs))
      (λ l h. subst (λ (k : Option LogView). IsOrdered (appended_if (join_of (joined_at (log_said k) s n.now) s) l).state) (sym h)
      (ordered_join l ((i.shaped (host_of t p) x here).ordered p l h) s n.now small)))

  -- A wake

  module _ (b p : ℕ) (x : BrokerView) (here : broker_in n b ≡ Some x) (below : p < length t.publishers) where
    abbrev wakes_here : MachineOutcome
    wakes_here = wake (seen net (view_of w b p)) p b w.clock (view_of w b p) (log_of w p)

    shape_here : IsShaped t b x
    shape_here = i.shaped b x here

    wake_numbered : (l : Log) → wake (seen net (view_in x p)) p x.number n.now (view_in x p) l ≡ wake (seen net (view_of w b p)) p b w.clock (view_of w b p) l
    wake_numbered l =
        ap (λ (k : ℕ). wake (seen net (view_in x p)) p k n.now (view_in x p) l) shape_here.number
        ∙ (ap (λ (k : ℕ). wake (seen net (view_in x p)) p b k (view_in x p) l) (sym i.clock)
        ∙ ap (λ (v : View). wake (seen net v) p b w.clock v l) (sym (i.views b p x here below)))

    long_here : p < length x.logs
    long_here = omega (arith, below, shape_here.logs)

    -- at the host it is the machine's
    wake_hosted : host_of t p ≡ b → wake_at t x p n.now ≡ wakes_here
    wake_hosted at =
        wake_numbered (machine_log x p)
        ∙ ap (λ (l : Log). wake (seen net (view_of w b p)) p b w.clock (view_of w b p) l) (sym (i.logs p x (ap (λ (k : ℕ). broker_in n k) at ∙ here) below))

    no_log : host_of t p ≢ b → log_in x p ≡ None
    no_log ne = go (log_in x p) (shape_here.hosted p below ∙ ne_eqb (host_of t p) b ne)
      where
        go : (s : Option LogView) → is_some s ≡ false → s ≡ None
        go None e = refl
        go (Some l) e = absurd (true≢false e)

    -- elsewhere it is the machine's but for the log, which that passes on
    wake_elsewhere : host_of t p ≢ b → on_log (wake_at t x p n.now) (log_of w p) ≡ wakes_here
    wake_elsewhere ne =
        ap (λ (o : MachineOutcome). on_log o (log_of w p)) (wake_numbered (machine_log x p) ∙ ap (λ (s : Option LogView). wake (seen net (view_of w b p)) p b w.clock (view_of w b p) (log_said s)) (no_log ne))
        ∙ sym (wake_passes (seen net (view_of w b p)) p b w.clock (view_of w b p) (log_of w p) (ne_eqb (host_of t p) b ne))

    wake_passed : host_of t p ≢ b → wakes_here.log ≡ log_of w p
    wake_passed ne = sym (ap (λ (o : MachineOutcome). o.log) (wake_elsewhere ne))

    wake_same : on_log (wake_at t x p n.now) wakes_here.log ≡ wakes_here
    wake_same = go (cases_eq (host_of t p) b)
      where
        go : (host_of t p ≡ b) ⊎ (host_of t p ≢ b) → on_log (wake_at t x p n.now) wakes_here.log ≡ wakes_here
        go (inl at) = ap (λ (o : MachineOutcome). on_log o wakes_here.log) (wake_hosted at)
        go (inr ne) = ap (on_log (wake_at t x p n.now)) (wake_passed ne) ∙ wake_elsewhere ne

    abbrev log_woken : Option LogView
    log_woken = with_cut_if (with_logged (log_in x p) (mark_logs_at t x p n.now)) (cut_at t x p n.now) t.settings.reclaim

    woken_some : is_some log_woken ≡ is_some (log_in x p)
    woken_some =
        cut_some (with_logged (log_in x p) (mark_logs_at t x p n.now)) (cut_at t x p n.now) t.settings.reclaim
        ∙ logged_some (log_in x p) (mark_logs_at t x p n.now)

    woken_ordered : (k : LogView) → log_woken ≡ Some k → IsOrdered k.state
    woken_ordered =
        ordered_cut_if (with_logged (log_in x p) (mark_logs_at t x p n.now)) (cut_at t x p n.now) t.settings.reclaim
        (ordered_logged (log_in x p) (mark_logs_at t x p n.now) (λ l h. subst (λ (s : Option LogView). IsOrdered (appended_if (mark_of (quieted (log_said s) n.now t.settings.quiet)) l).state) (sym h)
        (ordered_mark l (shape_here.ordered p l h) n.now t.settings.quiet)))

    -- the log is that of the outcome
    wake_logged : host_of t p ≡ b → machine_log (after_wake t x p n.now) p ≡ wakes_here.log
    wake_logged at =
        ap log_said (get_or-set_same x.logs p log_woken None long_here)
        ∙ (said_woken t x p n.now (eq-eqb (host_of t p) x.number (at ∙ sym shape_here.number)) (shape_here.hosted p below ∙ eq-eqb (host_of t p) b at) (shape_here.ordered p)
        ∙ ap (λ (o : MachineOutcome). o.log) (wake_hosted at))

    wake_does : Does t hosted (done_at t n b x (wakes b p)) (wake_for net w b p) (offers_since w (wake_for net w b p))
    unfolding done_at
    wake_does =
        let o : MachineOutcome = wake_at t x p n.now in
        let y : BrokerView = after_wake t x p n.now in
        subst (λ (u : Transition). Does t hosted (taken_up n b y o.lines o.frames) u (offers_since w u)) (sym (wake_is net w b p))
        (taken_is t hosted n w b p x y o wakes_here i h here below (exchanges_log p x log_woken o.view long_here woken_some woken_ordered) wake_same wake_logged wake_passed)

  -- A datagram

  -- a line alone is told, and the broker stays
  dropped_is : (b : ℕ) (x : BrokerView) (l : Report) → broker_in n b ≡ Some x
      → Does t hosted (taken_up n b x (l ∷ []) []) (unchanged w (l ∷ [])) (offers_since w (unchanged w (l ∷ [])))
  dropped_is b x l here = record {
    lines = refl;
    entries = ap offers_of (sym (ap (frames_past (length w.frames)) (sym (append-nil w.frames)) ∙ frames_past_all w.frames []));
    node = subst (λ (m : NodeView). IsNode t m w) (sym same) (node_heard t n w (fed n.orders (l ∷ [])) i);
    hosts = subst (λ (m : NodeView). Hosts hosted m) (sym same) h;
  }
    where
      made : List (Option BrokerView) → ℕ → NodeView
      made bs k = record { brokers = bs; offers = k; now = n.now; orders = fed n.orders (l ∷ []) }

      same : made (set n.brokers b (Some x)) (n.offers + 0) ≡ made n.brokers n.offers
      same = ap₂ made (ap (set n.brokers b) (sym here) ∙ set-get_or n.brokers b None) (omega arith)

  module _ (passes : PassesLog) (rest : PassesRest) (b : ℕ) (x : BrokerView) (here : broker_in n b ≡ Some x) where
    shape_at : IsShaped t b x
    shape_at = i.shaped b x here

    -- by what the receipt is
    abbrev done_with : Result Frame FrameFault → Receipt → Done
    done_with r a = taken_up n b (after_receipt r a x) (receipt_lines b a) (receipt_frames a)

    module _ (f : Frame) (below : f.head.publisher < length t.publishers) (to : f.head.to ≡ b) where
      abbrev p : ℕ
      p = f.head.publisher

      abbrev takes_here : MachineOutcome
      takes_here = receive (seen net (taking (view_of w b p) f)) w.clock f (view_of w b p) (log_of w p)

      abbrev answers_here : MachineOutcome
      answers_here = receive (seen net (taking (view_in x p) f)) n.now f (view_in x p) empty_log

      -- the machine's outcome is the broker's but for the log
      receive_same : on_log answers_here (log_of w p) ≡ takes_here
      receive_same =
          receive_passes passes rest (seen net (taking (view_in x p) f)) n.now f (view_in x p) (log_of w p)
          ∙ (ap (λ (k : ℕ). receive (seen net (taking (view_in x p) f)) k f (view_in x p) (log_of w p)) (sym i.clock)
          ∙ ap (λ (v : View). receive (seen net (taking v f)) w.clock f v (log_of w p)) (sym (i.views b p x here below)))

      receive_passed : takes_here.log ≡ log_of w p
      receive_passed = passes (seen net (taking (view_of w b p) f)) w.clock f (view_of w b p) (log_of w p)

      -- the machine's delivery is to this broker
      deliver_here : deliver_frame net w f ≡ absorbed w b p takes_here
      deliver_here =
          deliver_is net w f
          ∙ ap (λ (k : ℕ). absorbed w k p (receive (seen net (taking (view_of w k p) f)) w.clock f (view_of w k p) (log_of w p))) to

      taken_does : Does t hosted (done_with (Ok f) (taken answers_here)) (deliver_frame net w f) (offers_since w (deliver_frame net w f))
      taken_does =
          subst (λ (u : Transition). Does t hosted (done_with (Ok f) (taken answers_here)) u (offers_since w u)) (sym deliver_here)
          (taken_is t hosted n w b p x (with_view x p answers_here.view) answers_here takes_here i h here below
          (exchanges_view p x answers_here.view (shape_at.ordered p)) (ap (on_log answers_here) receive_passed ∙ receive_same)
          (λ at. sym (i.logs p x (ap (λ (k : ℕ). broker_in n k) at ∙ here) below) ∙ sym receive_passed) (λ ne. receive_passed))

      -- by what is kept
      abbrev machine_takes : View → Option Split → Option ℕ → Transition
      machine_takes v s c = elim s [
        | Some y ↦ unchanged w (split_line b y ∷ [])
        | None ↦ elim c [ Some u ↦ unchanged w (clash_line b v.know f u ∷ []) | None ↦ deliver_frame net w f ]
      ]

      abbrev broker_takes : View → Option Split → Option ℕ → Receipt
      broker_takes v s c = elim s [
        | Some y ↦ split y
        | None ↦ elim c [ Some u ↦ clash u (known_at v.know u) (came_at f u) | None ↦ taken answers_here ]
      ]

      by_kept : (v : View) (s : Option Split) (c : Option ℕ) → Does t hosted (done_with (Ok f) (broker_takes v s c)) (machine_takes v s c) (offers_since w (machine_takes v s c))
      by_kept v (Some y) c = dropped_is b x (split_line b y) here
      by_kept v None None = taken_does
      by_kept v None (Some u) = dropped_is b x (clash_line b v.know f u) here

      abbrev split_here : Option Split
      split_here = first_split 0 (view_in x p).joins (joins_in f)

      takes_is : takes net w b f ≡ machine_takes (view_in x p) split_here (least_clash (view_in x p).know f)
      unfolding takes_by
      takes_is = ap (λ (v : View). machine_takes v (first_split 0 v.joins (joins_in f)) (least_clash v.know f)) (i.views b p x here below)

      fit_is : receipt_of_fit net n.now (view_in x p) f ≡ broker_takes (view_in x p) split_here (least_clash (view_in x p).know f)
      unfolding receipt_of_fit
      fit_is = refl

      fit_does : Does t hosted (done_with (Ok f) (receipt_of_fit net n.now (view_in x p) f)) (takes net w b f) (offers_since w (takes net w b f))
      fit_does =
          subst (λ (u : Transition). Does t hosted (done_with (Ok f) (receipt_of_fit net n.now (view_in x p) f)) u (offers_since w u)) (sym takes_is)
          (subst (λ (a : Receipt). let u : Transition = machine_takes (view_in x p) split_here (least_clash (view_in x p).know f) in Does t hosted (done_with (Ok f) a) u (offers_since w u)) (sym fit_is)
          (by_kept (view_in x p) split_here (least_clash (view_in x p).know f)))

    -- by whether the frame fits
    module _ (f : Frame) where
      abbrev machine_fits : Bool → Transition
      machine_fits q = elim q [
        | false ↦ unchanged w (line.DroppedStray b f.head.from f.head.to f.head.publisher ∷ [])
        | true ↦ takes net w b f
      ]

      abbrev broker_fits : Bool → Receipt
      broker_fits q = elim q [ false ↦ stray f.head | true ↦ receipt_of_fit net n.now (view_in x f.head.publisher) f ]

      by_fit : (q : Bool) → fits_broker net b f ≡ q → Does t hosted (done_with (Ok f) (broker_fits q)) (machine_fits q) (offers_since w (machine_fits q))
      by_fit false e = dropped_is b x (line.DroppedStray b f.head.from f.head.to f.head.publisher) here
      by_fit true e =
          let fits = and_parts _ (joins_fit net f) e in
          let both = and_parts (nat_eq f.head.to b && nat_lt f.head.publisher net.publishers) _ fits.0 in
          let parts = and_parts (nat_eq f.head.to b) (nat_lt f.head.publisher net.publishers) both.0 in
          fit_does f (ltb-true f.head.publisher net.publishers parts.1) (eqb-true f.head.to b parts.0)

      receipt_is : receipt net n.now x (Ok f) ≡ broker_fits (fits_broker net b f)
      unfolding receipt
      receipt_is = ap (λ (k : ℕ). broker_fits (fits_broker net k f)) shape_at.number

      receives_is : receives net w b (Ok f) ≡ machine_fits (fits_broker net b f)
      unfolding receives_by
      receives_is = refl

      frame_does : Does t hosted (done_with (Ok f) (receipt net n.now x (Ok f))) (receives net w b (Ok f)) (offers_since w (receives net w b (Ok f)))
      frame_does =
          subst (λ (a : Receipt). Does t hosted (done_with (Ok f) a) (receives net w b (Ok f)) (offers_since w (receives net w b (Ok f)))) (sym receipt_is)
          (subst (λ (u : Transition). Does t hosted (done_with (Ok f) (broker_fits (fits_broker net b f))) u (offers_since w u)) (sym receives_is)
          (by_fit (fits_broker net b f) refl))

    fault_does : (e : FrameFault) → Does t hosted (done_with (Err e) (receipt net n.now x (Err e))) (receives net w b (Err e)) (offers_since w (receives net w b (Err e)))
    unfolding receipt receives_by
    fault_does e = dropped_is b x (line.DroppedNotFrame b (fault_number e.kind) e.at) here

    gets_does : (r : Result Frame FrameFault) → Does t hosted (done_at t n b x (gets b r)) (receives net w b r) (offers_since w (receives net w b r))
    unfolding done_at
    gets_does (Err e) = fault_does e
    gets_does (Ok f) = frame_does f

  -- a call of a hosted broker is the machine's
  pub call_does : PassesLog → PassesRest → (c : Call) → IsCallOf t hosted c → Does t hosted (call_done t n c) (called net w c) (offers_since w (called net w c))
  unfolding call_done
  call_does passes rest (gets b r) k =
      let x = broker_here hosted n b h k in
      subst (λ (d : Done). Does t hosted d (receives net w b r) (offers_since w (receives net w b r))) (sym (call_at b x.0 (gets b r) x.1))
      (gets_does passes rest b x.0 x.1 r)
  call_does passes rest (publishes y) k =
      let x = broker_here hosted n (host_of t y.0) h k.1 in
      subst (λ (d : Done). Does t hosted d (publish_now net w y.0 y.1.0 y.1.1) (offers_since w (publish_now net w y.0 y.1.0 y.1.1))) (sym (call_at (host_of t y.0) x.0 (publishes y) x.1))
      (publish_does y.0 y.1.0 y.1.1 x.0 x.1 k.0)
  call_does passes rest (joins s p) k =
      let x = broker_here hosted n (host_of t p) h k.1.0 in
      subst (λ (d : Done). Does t hosted d (join_now net w s p) (offers_since w (join_now net w s p))) (sym (call_at (host_of t p) x.0 (joins s p) x.1))
      (join_does s p x.0 x.1 k.0 k.1.1)
  call_does passes rest (wakes b p) k =
      let x = broker_here hosted n b h k.0 in
      subst (λ (d : Done). Does t hosted d (wake_for net w b p) (offers_since w (wake_for net w b p))) (sym (call_at b x.0 (wakes b p) x.1))
      (wake_does b p x.0 x.1 k.1)

  -- What is shown

  pub hosted_log : (p : ℕ) → p < length t.publishers → is_hosted net hosted p ≡ true → log_here t n p ≡ log_of w p
  hosted_log p j e =
      let x = broker_here hosted n (host_of t p) h e in
      ap (λ (s : Option BrokerView). log_at s p) x.1 ∙ sym (i.logs p x.0 x.1 j)

  abbrev log_lines : ℕ → Log → Bool → List Report
  log_lines p l q = if q then log_shown p l ∷ [] else []

  log_line_is : (p : ℕ) → p < length t.publishers → log_shown_in t hosted n p ≡ log_lines p (log_of w p) (is_hosted net hosted p)
  log_line_is p j = go (is_hosted net hosted p) refl
    where
      go : (q : Bool) → is_hosted net hosted p ≡ q → log_lines p (log_here t n p) q ≡ log_lines p (log_of w p) q
      go true e = ap (λ (l : Log). log_shown p l ∷ []) (hosted_log p j e)
      go false e = refl

  abbrev doubts_at : ℕ → List Report
  doubts_at b = flat_map (λ p. if keeps_horizon net p b then line.Doubt b p (view_of w b p).horizon ∷ [] else []) (numbers (length t.publishers))

  doubts_is : (b : ℕ) → is_among hosted b ≡ true → doubts_shown t n b ≡ doubts_at b
  doubts_is b e =
      let x = broker_here hosted n b h e in
      ap (λ (s : Option BrokerView). doubts_by t b s) x.1
      ∙ flat_map_same (doubt_shown t b x.0) (λ p. if keeps_horizon net p b then line.Doubt b p (view_of w b p).horizon ∷ [] else []) 0 (length t.publishers)
      (λ p from upto. ap (λ (v : View). if keeps_horizon net p b then line.Doubt b p v.horizon ∷ [] else []) (sym (i.views b p x.0 x.1 (omega (arith, upto)))))

  -- what the node shows is what the machine shows
  pub shown_is : shown t hosted n ≡ show_hosted net hosted w
  unfolding shown show_hosted
  shown_is =
      ap (λ (k : ℕ). line.Frames k ∷ (logs_shown t hosted n ++ flat_map (doubts_shown t n) hosted)) (sym i.offers)
      ∙ (ap (λ (ls : List Report). line.Frames (length w.frames) ∷ (ls ++ flat_map (doubts_shown t n) hosted))
      (flat_map_same (log_shown_in t hosted n) (λ p. log_lines p (log_of w p) (is_hosted net hosted p)) 0 (length t.publishers) (λ p from upto. log_line_is p (omega (arith, upto))))
      ∙ ap (λ (ls : List Report). line.Frames (length w.frames) ∷ (flat_map (λ p. log_lines p (log_of w p) (is_hosted net hosted p)) (numbers (length t.publishers)) ++ ls))
      (flat_map_each (doubts_shown t n) doubts_at hosted doubts_is))

-- What is heard in one order

-- of a call all its lines are heard, since those of its frames say nothing of it
at_orders : (t : TopologyView) (n : NodeView) (b : ℕ) (x : BrokerView) (c : Call) → (done_at t n b x c).node.orders ≡ fed n.orders (done_at t n b x c).lines
unfolding done_at
at_orders t n b x (gets k r) =
    let a : Receipt = receipt (net_of t) n.now x r in sym (fed_sent n.orders (receipt_lines b a) (suc n.offers) (receipt_frames a))
at_orders t n b x (publishes y) =
    let o : MachineOutcome = publish_at t x y.0 n.now y.1.0 y.1.1 in sym (fed_sent n.orders o.lines (suc n.offers) o.frames)
at_orders t n b x (joins s p) =
    let o : MachineOutcome = join_at t x p s n.now in sym (fed_sent n.orders o.lines (suc n.offers) o.frames)
at_orders t n b x (wakes k p) =
    let o : MachineOutcome = wake_at t x p n.now in sym (fed_sent n.orders o.lines (suc n.offers) o.frames)

by_orders : (t : TopologyView) (n : NodeView) (b : ℕ) (s : Option BrokerView) (c : Call) → (done_by t n b s c).node.orders ≡ fed n.orders (done_by t n b s c).lines
by_orders t n b None c = sym (fed_nothing n.orders)
by_orders t n b (Some x) c = at_orders t n b x c

call_orders : (t : TopologyView) (n : NodeView) (c : Call) → (call_done t n c).node.orders ≡ fed n.orders (call_done t n c).lines
unfolding call_done
call_orders t n c = by_orders t n (broker_of t c) (broker_in n (broker_of t c)) c

-- The acts

-- an arrival moves both clocks
abbrev moved_clock : NodeView → Arrival → Bool → NodeView
moved_clock n a q =
    if q then record { brokers = n.brokers; offers = n.offers; now = min (moment_of a) max_tick; orders = n.orders } else n

arrival_node : (t : TopologyView) (n : NodeView) (w : World) (a : Arrival) (q : Bool) → IsNode t n w
    → IsNode t (moved_clock n a q) (if q then at_moment w (moment_of a) else w)
arrival_node t n w a false i = i
arrival_node t n w a true i = record {
  clock = refl;
  offers = i.offers;
  views = i.views;
  logs = i.logs;
  shaped = i.shaped;
  count = i.count;
  world_views = i.world_views;
  each_views = i.each_views;
  world_logs = i.world_logs;
}

arrival_hosts : (hosted : List ℕ) (n : NodeView) (a : Arrival) (q : Bool) → Hosts hosted n → Hosts hosted (moved_clock n a q)
arrival_hosts hosted n a false h = h
arrival_hosts hosted n a true h = h

arrival_orders : (n : NodeView) (a : Arrival) (q : Bool) → (let m : NodeView = moved_clock n a q in m.orders) ≡ n.orders
arrival_orders n a false = refl
arrival_orders n a true = refl

-- What an act does at a node is what it does to the machine, and tells what it tells with the lines of one order
pub record Goes (t : TopologyView) (hosted : List ℕ) (n : NodeView) (w : World) (a : Act) : Type 0 where
  pub told : (done t hosted n a).lines ≡ told_by (net_of t) hosted w n.orders a
  pub heard : (done t hosted n a).node.orders ≡ heard_by (net_of t) hosted w n.orders a
  pub puts : (done t hosted n a).entries ≡ entries t hosted w a
  pub node : IsNode t (done t hosted n a).node (act (net_of t) hosted w a).world
  pub hosts : Hosts hosted (done t hosted n a).node

-- one act
pub moved_by : (t : TopologyView) (hosted : List ℕ) (n : NodeView) (w : World) (a : Act) → PassesLog → PassesRest → IsNode t n w → Hosts hosted n → IsActOf t hosted a
    → Goes t hosted n w a
unfolding done act entries
moved_by t hosted n w (calls c) passes rest i h k =
    let one = call_does t hosted n w i h passes rest c k in
    record {
      told = one.lines;
      heard = call_orders t n c ∙ ap (fed n.orders) one.lines;
      puts = one.entries;
      node = one.node;
      hosts = one.hosts;
    }
moved_by t hosted n w (arrives a) passes rest i h k = record {
  told = refl;
  heard = arrival_orders n a (is_ours hosted a) ∙ sym (fed_nothing n.orders);
  puts = refl;
  node = arrival_node t n w a (is_ours hosted a) i;
  hosts = arrival_hosts hosted n a (is_ours hosted a) h;
}
moved_by t hosted n w (answers x) passes rest i h k = record {
  told = refl;
  heard = sym (fed_nothing n.orders);
  puts = ap (λ (l : Log). reply_entry t l.last x ∷ []) (hosted_log t hosted n w i h x.0 k.0 k.1);
  node = i;
  hosts = h;
}
moved_by t hosted n w (drops l) passes rest i h k = record { told = refl; heard = sym (fed_unheard n.orders (l ∷ []) (k, tt)); puts = refl; node = i; hosts = h }
moved_by t hosted n w settles passes rest i h k = record { told = refl; heard = refl; puts = refl; node = node_heard t n w (without_ordered n.orders) i; hosts = h }
moved_by t hosted n w closes passes rest i h k = record { told = refl; heard = sym (fed_nothing n.orders); puts = refl; node = i; hosts = h }
moved_by t hosted n w shows passes rest i h k = record {
  told = shown_is t hosted n w i h;
  heard = sym (fed_unheard n.orders (show_hosted (net_of t) hosted w) (shown_unheard (net_of t) hosted w));
  puts = refl;
  node = i;
  hosts = h;
}
moved_by t hosted n w (binds b) passes rest i h k = absurd k
moved_by t hosted n w (starts b) passes rest i h k = absurd k

-- Acts, one after another
pub record Moved (t : TopologyView) (hosted : List ℕ) (n : NodeView) (w : World) (acts : List Act) : Type 0 where
  pub told : (all_done t hosted n acts).lines ≡ told_by_acts (net_of t) hosted w n.orders acts
  pub entries : (all_done t hosted n acts).entries ≡ all_entries t hosted w acts
  pub node : IsNode t (all_done t hosted n acts).node (in_turn (act (net_of t) hosted) acts w).world
  pub hosts : Hosts hosted (all_done t hosted n acts).node

pub moves_all : (t : TopologyView) (hosted : List ℕ) (n : NodeView) (w : World) (acts : List Act) → PassesLog → PassesRest → IsNode t n w → Hosts hosted n
    → AllByRecursion (IsActOf t hosted) acts → Moved t hosted n w acts
unfolding all_done all_entries told_by_acts
moves_all t hosted n w [] passes rest i h k = record { told = refl; entries = refl; node = i; hosts = h }
moves_all t hosted n w (a ∷ acts) passes rest i h k =
    let d : Done = done t hosted n a in
    let u : Transition = act (net_of t) hosted w a in
    let one = moved_by t hosted n w a passes rest i h k.0 in
    let more = moves_all t hosted d.node u.world acts passes rest one.node one.hosts k.1 in
    record {
      told = ap₂ (λ (xs ys : List Report). xs ++ ys) one.told (more.told ∙ ap (λ (os : List Order). told_by_acts (net_of t) hosted u.world os acts) one.heard);
      entries = ap₂ (λ (xs ys : List Entry). xs ++ ys) one.puts more.entries;
      node = more.node;
      hosts = more.hosts;
    }
