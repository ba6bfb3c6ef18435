-- What a call of a broker does to the lanes of publishers: its host's are called alone, and at every moment they hold what lies between
-- the log before the call and that after it
use Rattle.std.proofs.Common.{◌≡◌, ℕ, ◌<◌, ◌≤◌, Bool, true, false, List, length, get_or, set, Option, Some, None, Result, refl, sym, ap, ◌∙◌, subst, arith, if◌then◌else◌}
use Rattle.std.specs.Prelude.{is_some, nat_lt}
use Rattle.std.proofs.lemmas.Bool.{eqb-true, ltb-true, false≢true}
use Rattle.std.proofs.lemmas.List.{get_or-set_same}
use Rattle.gr_event.specs.declared.event.Event.{Event}
use Rattle.gr_frame.specs.declared.Frame.{Frame}
use Rattle.gr_out.specs.Lane.{Lane}
use Rattle.gr_publog.specs.declared.record.Record.{Record}
use Rattle.gr_publog.specs.declared.record.LogFault.{LogFault}
use Rattle.gr_publog.specs.State.{LogState}
use Rattle.gr_publog.specs.Views.{LogView, lanes_at, AwayFrom, LeftPair}
use Rattle.gr_publog.specs.Calls.{Appends, state_if, appended_if}
use Rattle.gr_pubend.specs.Log.{Log, said}
use Rattle.gr_pubend.specs.Answers.{published, quieted, joined_at, event_of, mark_of, join_of}
use Rattle.gr_pubend.specs.Cuts.{cut_if}
use Rattle.gr_topo.specs.Topology.{TopologyView, host_of}
use Rattle.gr_model.specs.declared.report.Report.{Report}
use Rattle.gr_model.specs.Net.{Net, keeps_horizon}
use Rattle.gr_model.specs.NetOf.{net_of}
use Rattle.gr_model.specs.Broker.{View, Outcome as MachineOutcome, consolidated, done_upto, marking, seen}
use Rattle.gr_broker_relay.specs.Cuts.{tick_cut}
use Rattle.gr_broker.specs.Lanes.{log_lane, GoesOnBoth}
use Rattle.gr_broker.specs.Seen.{BrokerView, view_in, log_in, log_said, machine_log, with_view, with_log, with_logged, with_cut_if}
use Rattle.gr_broker.specs.Of.{IsBrokerOf}
use Rattle.gr_broker.specs.Hosted.{publish_at, publish_logs_at, after_publish, join_at, join_logs_at, after_join, wake_at, mark_logs_at, cut_at, after_wake, AppendsAt, Wakes, WakesAt}
use Rattle.gr_broker.proofs.Hosted.{marking_log_is}
use Rattle.gr_node.specs.Seen.{NodeView, broker_in, log_at, log_here}
use Rattle.gr_node.specs.Of.{NodeFits}
use Rattle.gr_node.specs.Plan.{Call, publishes, joins, wakes}
use Rattle.gr_node.specs.Done.{Done, taken_up, done_by, done_at, call_done}
use Rattle.gr_node.specs.Lasting.{Onward, SettlesOn, log_read, HoldsBetween, CallKeeps}
use Rattle.gr_node.proofs.Exchanged.{some_within}
use Rattle.gr_node.proofs.Lasting.{one_between, two_between, none_called, one_called}
use Rattle.gr_node.proofs.Onwards.{publish_onward, mark_settles, join_onward, cut_onward}

-- The log after a call

-- a broker is exchanged
taken_log : (t : TopologyView) (n : NodeView) (b p : ℕ) (x y : BrokerView) (lines : List Report) (frames : List Frame) → broker_in n b ≡ Some x → host_of t p ≡ b
    → log_here t (taken_up n b y lines frames).node p ≡ machine_log y p
taken_log t n b p x y lines frames here at =
    ap (λ (k : ℕ). log_at (get_or (set n.brokers b (Some y)) k None) p) at
    ∙ ap (λ (o : Option BrokerView). log_at o p) (get_or-set_same n.brokers b (Some y) None (some_within n.brokers b (ap is_some here)))

-- and in it a log
with_log_said : (x : BrokerView) (p : ℕ) (l : Option LogView) (v : View) → p < length x.logs → machine_log (with_view (with_log x p l) p v) p ≡ log_said l
with_log_said x p l v lt = ap log_said (get_or-set_same x.logs p l None lt)

logged_said : (l : LogView) (r : Option Record) → log_said (with_logged (Some l) r) ≡ said (appended_if r l)
logged_said l None = refl
logged_said l (Some r) = refl

cut_said : (l : LogView) (r : Option Record) (cut : Option ℕ) (reclaim : ℕ) → log_said (with_cut_if (with_logged (Some l) r) cut reclaim) ≡ said (cut_if cut reclaim (appended_if r l))
cut_said l None cut reclaim = refl
cut_said l (Some r) cut reclaim = refl

-- a log is cut past its last cut
tick_later : (net : Net) (p b : ℕ) (v : View) (log : Log) (tick : ℕ) → tick_cut net p b v log ≡ Some tick → log.cut < tick
tick_later net p b v log tick h = go (nat_lt log.cut upto) refl h
  where
    upto : ℕ
    upto = done_upto (consolidated (keeps_horizon net p b) v.horizon v.wants) log.settled

    go : (q : Bool) → nat_lt log.cut upto ≡ q → (if q then Some upto else None) ≡ Some tick → log.cut < tick
    go true e is = let same : upto ≡ tick = cc in omega (arith, ltb-true log.cut upto e, same)
    go false e is = absurd (cc is)

-- The broker of a place

module _ (t : TopologyView) (n : NodeView) (fits : NodeFits t n) (b p : ℕ) (x : BrokerView) (here : broker_in n b ≡ Some x) (below : p < length t.publishers) where
  is : IsBrokerOf t x
  is = fits.fits b x here

  theirs : (l : LogView) → log_in x p ≡ Some l → l.state.late ≡ t.late
  theirs l e = is.late p l e

  whole : (l : LogView) → log_in x p ≡ Some l → l.broken ≡ false
  whole l e = fits.whole b p x l here e

  long : p < length x.logs
  long = subst (λ k. p < k) (sym is.logs) below

  -- a log here is that of a publisher of this host
  hosted_here : (l : LogView) → log_in x p ≡ Some l → host_of t p ≡ b
  hosted_here l e = eqb-true (host_of t p) x.number (sym (is.hosted p below) ∙ ap is_some e) ∙ fits.numbered b x here

  log_before : (l : LogView) → log_in x p ≡ Some l → log_here t n p ≡ said l
  log_before l e = ap (λ (k : ℕ). log_at (broker_in n k) p) (hosted_here l e) ∙ (ap (λ (o : Option BrokerView). log_at o p) here ∙ ap log_said e)

  -- the log then, where it is exchanged for this one
  log_then : (c : Call) (y : BrokerView) (o : MachineOutcome) (l : LogView) (after : Option LogView) (v : View) → log_in x p ≡ Some l → y ≡ with_view (with_log x p after) p v
      → call_done t n c ≡ taken_up n b y o.lines o.frames → log_here t (call_done t n c).node p ≡ log_said after
  log_then c y o l after v e made done =
      ap (λ (d : Done). log_here t d.node p) done
      ∙ (taken_log t n b p x y o.lines o.frames here (hosted_here l e) ∙ (ap (λ (z : BrokerView). machine_log z p) made ∙ with_log_said x p after v long))

  module _ {T : Type 0} (lanes lanes' : ℕ → Lane) (answer : Result T LogFault) (on : GoesOnBoth (lanes_at lanes (log_lane p)) (lanes_at lanes' (log_lane p)))
      (others : (m : ℕ) → AwayFrom (log_lane p) m → lanes' m ≡ lanes m) where
    -- what a call between two logs holds, by what it holds between their views
    called_between : (c : Call) (l : LogView) (end : Log) → log_in x p ≡ Some l → log_here t (call_done t n c).node p ≡ end
        → ((a d : List ℕ) → LeftPair (lanes_at lanes (log_lane p)) (lanes_at lanes' (log_lane p)) a d → HoldsBetween t.late (said l) end a d) → CallKeeps t n c lanes lanes'
    called_between c l end e after holds =
        one_called t n c lanes lanes' p on others
        (λ a d left. subst (λ (m : Log). HoldsBetween t.late m (log_here t (call_done t n c).node p) a d) (sym (log_before l e))
        (subst (λ (m : Log). HoldsBetween t.late (said l) m a d) (sym after) (holds a d left)))

    -- a record, or none
    abbrev AppendsTo : Option LogView → Option Record → Type 0
    AppendsTo o r = elim o [ Some l ↦ Appends l r (lanes_at lanes (log_lane p)) (lanes_at lanes' (log_lane p)) answer | None ↦ Unit {0} ]

    logged_keeps : (c : Call) (r : Option Record) → is_some (log_in x p) ≡ true → ((l : LogView) → log_in x p ≡ Some l → Onward (log_read l.state) (log_read (state_if r l.state)))
        → ((l : LogView) → log_in x p ≡ Some l → log_here t (call_done t n c).node p ≡ said (appended_if r l)) → AppendsAt x p r lanes lanes' answer → CallKeeps t n c lanes lanes'
    logged_keeps c r some up after appends = go (log_in x p) refl some appends
      where
        go : (o : Option LogView) → log_in x p ≡ o → is_some o ≡ true → AppendsTo o r → CallKeeps t n c lanes lanes'
        go None e none a = absurd (false≢true none)
        go (Some l) e k a = called_between c l (said (appended_if r l)) e (after l e) (λ u v left. one_between t.late l (theirs l e) r (up l e) u v (a.any_moment (whole l e) u v left))

    -- a publish
    pub publish_keeps : (number : ℕ) (e : Event) → host_of t p ≡ b → is_some (log_in x p) ≡ true → AppendsAt x p (publish_logs_at x p n.now number e) lanes lanes' answer
        → CallKeeps t n (publishes (p, (number, e))) lanes lanes'
    unfolding call_done done_at
    publish_keeps number e at some appends =
        logged_keeps (publishes (p, (number, e))) (publish_logs_at x p n.now number e) some
        (λ l h. subst (λ (o : Option LogView). Onward (log_read l.state) (log_read (state_if (event_of (published (log_said o) number e n.now) number e) l.state))) (sym h) (publish_onward l number e n.now))
        (λ l h. log_then (publishes (p, (number, e))) (after_publish t x p n.now number e) (publish_at t x p n.now number e) l (with_logged (log_in x p) (publish_logs_at x p n.now number e)) (publish_at t x p n.now number e).view h refl
        (ap (λ (k : ℕ). done_by t n k (broker_in n k) (publishes (p, (number, e)))) at ∙ ap (λ (o : Option BrokerView). done_by t n b o (publishes (p, (number, e)))) here)
        ∙ (ap (λ (o : Option LogView). log_said (with_logged o (publish_logs_at x p n.now number e))) h ∙ logged_said l (publish_logs_at x p n.now number e)))
        appends

    -- a join
    pub join_keeps : (s : ℕ) → host_of t p ≡ b → is_some (log_in x p) ≡ true → AppendsAt x p (join_logs_at x p s n.now) lanes lanes' answer → CallKeeps t n (joins s p) lanes lanes'
    unfolding call_done done_at
    join_keeps s at some appends =
        logged_keeps (joins s p) (join_logs_at x p s n.now) some
        (λ l h. subst (λ (o : Option LogView). Onward (log_read l.state) (log_read (state_if (join_of (joined_at (log_said o) s n.now) s) l.state))) (sym h) (join_onward l s n.now))
        (λ l h. log_then (joins s p) (after_join t x p s n.now) (join_at t x p s n.now) l (with_logged (log_in x p) (join_logs_at x p s n.now)) (join_at t x p s n.now).view h refl
        (ap (λ (k : ℕ). done_by t n k (broker_in n k) (joins s p)) at ∙ ap (λ (o : Option BrokerView). done_by t n b o (joins s p)) here)
        ∙ (ap (λ (o : Option LogView). log_said (with_logged o (join_logs_at x p s n.now))) h ∙ logged_said l (join_logs_at x p s n.now)))
        appends

    -- a wake
    abbrev mark : Option Record
    mark = mark_logs_at t x p n.now

    abbrev cut : Option ℕ
    cut = cut_at t x p n.now

    abbrev reclaim : ℕ
    reclaim = t.settings.reclaim

    abbrev shown : Net
    shown = seen (net_of t) (view_in x p)

    state_is : (r : Option Record) (l : LogView) → (appended_if r l).state ≡ state_if r l.state
    state_is None l = refl
    state_is (Some r) l = refl

    -- past the last cut
    cut_later : (l : LogView) → log_in x p ≡ Some l → (tick : ℕ) → cut ≡ Some tick → (state_if mark l.state).cut ≤ tick
    cut_later l e tick =
        subst (λ (o : Option LogView). (let m : MachineOutcome = marking shown p x.number n.now (view_in x p) (log_said o) in tick_cut (net_of t) p x.number m.view m.log) ≡ Some tick
        → (state_if (mark_of (quieted (log_said o) n.now t.settings.quiet)) l.state).cut ≤ tick) (sym e)
        (λ h.
        let m : MachineOutcome = marking shown p x.number n.now (view_in x p) (said l) in
        let r : Option Record = mark_of (quieted (said l) n.now t.settings.quiet) in
        let after : m.log.cut < tick = tick_later (net_of t) p x.number m.view m.log tick h in
        let log : said (appended_if r l) ≡ m.log = marking_log_is shown p x.number n.now (view_in x p) l in
        let same : (appended_if r l).state.cut ≡ m.log.cut = ap (λ (z : Log). z.cut) log in
        let state : (appended_if r l).state.cut ≡ (state_if r l.state).cut = ap (λ (s : LogState). s.cut) (state_is r l) in
        omega (arith, after, same, state))

    abbrev WakesTo : Option LogView → Type 0
    WakesTo o = elim o [ Some l ↦ Wakes l mark cut reclaim (lanes_at lanes (log_lane p)) (lanes_at lanes' (log_lane p)) answer | None ↦ Unit {0} ]

    pub wake_keeps : (log_in x p ≡ None → (m : ℕ) → lanes' m ≡ lanes m) → WakesAt x p mark cut reclaim lanes lanes' answer → CallKeeps t n (wakes b p) lanes lanes'
    unfolding call_done done_at
    wake_keeps elsewhere wakes_lanes = go (log_in x p) refl wakes_lanes
      where
        done : call_done t n (wakes b p) ≡ taken_up n b (after_wake t x p n.now) (wake_at t x p n.now).lines (wake_at t x p n.now).frames
        done = ap (λ (o : Option BrokerView). done_by t n b o (wakes b p)) here

        go : (o : Option LogView) → log_in x p ≡ o → WakesTo o → CallKeeps t n (wakes b p) lanes lanes'
        go None e a = none_called t n (wakes b p) lanes lanes' (elsewhere e)
        go (Some l) e a =
            called_between (wakes b p) l (said (cut_if cut reclaim (appended_if mark l))) e
            (log_then (wakes b p) (after_wake t x p n.now) (wake_at t x p n.now) l (with_cut_if (with_logged (log_in x p) mark) cut reclaim) (wake_at t x p n.now).view e refl done
            ∙ (ap (λ (o : Option LogView). log_said (with_cut_if (with_logged o mark) cut reclaim)) e ∙ cut_said l mark cut reclaim))
            (λ u v left. two_between t.late l (theirs l e) mark cut reclaim
            (subst (λ (o : Option LogView). SettlesOn (log_read l.state) (log_read (state_if (mark_of (quieted (log_said o) n.now t.settings.quiet)) l.state))) (sym e) (mark_settles l n.now t.settings.quiet))
            (cut_onward (state_if mark l.state) cut (cut_later l e)) u v (a.any_moment (whole l e) u v left))
