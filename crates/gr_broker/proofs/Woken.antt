-- One publisher's part is woken, and put back into the broker
use Rattle.std.proofs.Common.{◌≡◌, ◌≢◌, ◌⊎◌, inl, inr, ⊎_elim, ℕ, ◌*◌, ◌<◌, ◌≤◌, Bool, true, false, List, length, map, get_or, set, Option, Some, None, Result, Ok, Err, refl, sym, ap, ap₂, ◌∙◌, subst, arith}
use Rattle.std.specs.Prelude.{◌↔◌, is_some, IsSome, IfOk, IsErrOf, OnOk}
use Rattle.std.proofs.lemmas.Bool.{cases_eq, false≢true}
use Rattle.std.proofs.lemmas.List.{set-get_or, set-set, get_or-set_same, get_or-set_other, get_or-map, length-set, length-map}
use Rattle.gr_out.specs.Lane.{Lane}
use Rattle.gr_publog.specs.declared.record.Record.{Record}
use Rattle.gr_publog.specs.declared.record.LogFault.{LogFault}
use Rattle.gr_publog.specs.declared.record.LogFault.TheVariants as fault
use Rattle.gr_publog.specs.State.{LogState, IsState}
use Rattle.gr_publog.specs.Views.{LogView, lanes_at, failed, AwayFrom, IsReady}
use Rattle.gr_publog.specs.Calls.{appended_if}
use Rattle.gr_pubend.specs.Log.{Log, said}
use Rattle.gr_pubend.specs.Answers.{quiet_logs}
use Rattle.gr_pubend.specs.Cuts.{cut_if}
use Rattle.gr_pubend.proofs.Cuts.{cut_holds, cut_stays}
use Rattle.gr_topo.specs.Topology.{TopologyView}
use Rattle.gr_model.specs.Net.{Net, is_host}
use Rattle.gr_model.specs.NetOf.{net_of}
use Rattle.gr_model.specs.Broker.{View, Outcome, marking, wake, wake_host, wake_below, asking, seen}
use Rattle.gr_model.specs.World.{blank_view}
use Rattle.gr_broker_relay.specs.declared.outcome.Outcome.{Outcome as Answer}
use Rattle.gr_broker_relay.specs.declared.held.Held.{Held}
use Rattle.gr_broker_relay.specs.declared.site.Seat.{Seat}
use Rattle.gr_broker_relay.specs.Held.{held_view}
use Rattle.gr_broker_relay.specs.Kept.{IsKept}
use Rattle.gr_broker_relay.specs.Told.{Tells}
use Rattle.gr_broker.specs.declared.outcome.BrokerFault.{BrokerFault}
use Rattle.gr_broker.specs.declared.outcome.BrokerFault.TheVariants as refused
use Rattle.gr_broker_relay.specs.Cuts.{tick_cut}
use Rattle.gr_broker.specs.Seen.{broker_at, BrokerView, view_in, log_in, log_said, with_logged, with_cut_if, with_failed, broken_at, is_broken, HasJoins}
use Rattle.gr_broker.specs.Of.{IsBrokerOf, LogsStand}
use Rattle.gr_broker.specs.Told.{log_answer}
use Rattle.gr_broker.specs.Hosted.{Wakes, WakesAt, WakeLeaves, after_mark, after_wake}
use Rattle.gr_broker.specs.Host.{HostView, host_with}
use Rattle.gr_broker.specs.Parts.{PartView, part_with, part_of, part_in, with_part, part_wake, part_mark_logs, part_cut, part_marked, part_woken, part_failed}
use Rattle.gr_broker.proofs.Reading.{on_ok, each_set, part_is, seen_set}
use Rattle.gr_broker.proofs.Wakes.{noted_lane, noted_late, second_log}
use Rattle.gr_broker.proofs.Hosted.{marking_log_is}
use Rattle.gr_broker.proofs.Opening.{lanes_there}
use Rattle.gr_broker.proofs.Joined.{Beside, marking_joins}

-- Which of the two wakes it is

-- where the publisher is here it is the host's
pub wake_here_is : (net : Net) (p b now : ℕ) (v : View) (log : Log) → is_host net p b ≡ true → wake net p b now v log ≡ wake_host net p b now v log
unfolding wake
wake_here_is net p b now v log e = ap (λ (q : Bool). elim q [ true ↦ wake_host net p b now v log | false ↦ wake_below net p b now v log ]) e

-- where it is elsewhere it is that of a broker below
pub wake_below_is : (net : Net) (p b now : ℕ) (v : View) (log : Log) → is_host net p b ≡ false → wake net p b now v log ≡ wake_below net p b now v log
unfolding wake
wake_below_is net p b now v log e = ap (λ (q : Bool). elim q [ true ↦ wake_host net p b now v log | false ↦ wake_below net p b now v log ]) e

-- What stands after a wake, seen otherwise
pub leaves_by : {V W T : Type 0} (f : V → W) {b m w x y a : V} {b' m' w' x' y' a' : W} (r : Result T LogFault) → f b ≡ b' → f m ≡ m' → f w ≡ w' → f x ≡ x' → f y ≡ y' → f a ≡ a' →
    WakeLeaves b m w x y a r → WakeLeaves b' m' w' x' y' a' r
leaves_by f {b} {m} {w} {x} {y} {a} r eb em ew ex ey ea k = record {
  ok = on_ok r (λ (e : a ≡ w). sym ea ∙ ap f e ∙ ew) k.ok;
  memory = λ h. ⊎_elim (λ (e : a ≡ b). inl (sym ea ∙ ap f e ∙ eb)) (λ (e : a ≡ m). inr (sym ea ∙ ap f e ∙ em)) (k.memory h);
  failed = λ h. ⊎_elim (λ (e : a ≡ x). inl (sym ea ∙ ap f e ∙ ex)) (λ (e : a ≡ y). inr (sym ea ∙ ap f e ∙ ey)) (k.failed h);
  closed = λ h. sym ea ∙ ap f (k.closed h) ∙ eb;
  never_damaged = k.never_damaged;
}

-- A log that is here, with a record or none, and then cut or not

logged_is : (l : LogView) (r : Option Record) → with_logged (Some l) r ≡ Some (appended_if r l)
logged_is l None = refl
logged_is l (Some r) = refl

cut_is : (l : LogView) (r : Option Record) (cut : Option ℕ) (reclaim : ℕ) → with_cut_if (with_logged (Some l) r) cut reclaim ≡ Some (cut_if cut reclaim (appended_if r l))
cut_is l r cut reclaim = ap (λ o. with_cut_if o cut reclaim) (logged_is l r)

-- it is on its lanes as before, and the same may join, and have
cut_lane : (cut : Option ℕ) (reclaim : ℕ) (l : LogView) → (cut_if cut reclaim l).lane ≡ l.lane
cut_lane None reclaim l = refl
cut_lane (Some tick) reclaim l = (cut_stays reclaim tick l).0

cut_late : (cut : Option ℕ) (reclaim : ℕ) (l : LogView) → (cut_if cut reclaim l).state.late ≡ l.state.late
cut_late None reclaim l = refl
cut_late (Some tick) reclaim l = ap (λ (s : LogState). s.late) (cut_holds reclaim tick l)

cut_joins : (cut : Option ℕ) (reclaim : ℕ) (l : LogView) → (cut_if cut reclaim l).state.joins ≡ l.state.joins
cut_joins None reclaim l = refl
cut_joins (Some tick) reclaim l = ap (λ (s : LogState). s.joins) (cut_holds reclaim tick l)

-- two names of one log
pub some_is : {l m : LogView} → ◌≡◌ {A = Option LogView} (Some l) (Some m) → l ≡ m
some_is e = cc e

-- A publisher that is here

module _ (t : TopologyView) (p b now : ℕ) (v v' : View) (l l' : LogView) where
  abbrev marks : Outcome
  marks = marking (seen (net_of t) v) p b now v (said l)

  abbrev to_mark : Option Record
  to_mark = quiet_logs (said l) now t.settings.quiet

  abbrev to_cut : Option ℕ
  to_cut = tick_cut (net_of t) p b marks.view marks.log

  abbrev marked : LogView
  marked = appended_if to_mark l

  abbrev woken : LogView
  woken = cut_if to_cut t.settings.reclaim marked

  abbrev LeftHere : {T : Type 0} → Result T LogFault → Type 0
  LeftHere r = WakeLeaves (host_with v l) (host_with marks.view marked) (host_with marks.view woken)
      (host_with v (failed l)) (host_with marks.view (failed marked)) (host_with v' l') r

  woken_view : is_host (net_of t) p b ≡ true → marks.view ≡ (part_wake t p b now (part_with v (Some l))).view
  unfolding wake_host
  woken_view host = sym (ap (λ (o : Outcome). o.view) (wake_here_is (seen (net_of t) v) p b now v (said l) host))

  -- what is kept then
  pub here_leaves : {T : Type 0} (x : PartView) (r : Result T LogFault) → x ≡ part_with v (Some l) → is_host (net_of t) p b ≡ true → LeftHere r →
      WakeLeaves x (part_marked t p b now x) (part_woken t p b now x) (part_failed x) (part_failed (part_marked t p b now x)) (part_with v' (Some l')) r
  here_leaves x r e host k =
      subst (λ (y : PartView). WakeLeaves y (part_marked t p b now y) (part_woken t p b now y) (part_failed y) (part_failed (part_marked t p b now y)) (part_with v' (Some l')) r) (sym e)
      (leaves_by (λ (h : HostView). part_with h.view (Some h.log)) r refl (ap (part_with marks.view) (sym (logged_is l to_mark)))
      (ap₂ part_with (woken_view host) (sym (cut_is l to_mark to_cut t.settings.reclaim))) refl
      (ap (λ o. part_with marks.view (with_failed o)) (sym (logged_is l to_mark))) refl k)

  -- its log is that of the machine
  pub here_log : {T : Type 0} (x : PartView) (r : Result T LogFault) → x ≡ part_with v (Some l) → is_host (net_of t) p b ≡ true → 1 ≤ t.settings.quiet → IsState l.state → LeftHere r →
      OnOk r (let o : Outcome = part_wake t p b now x in said l' ≡ o.log)
  here_log x r e host quiet i k =
      on_ok r (λ (h : host_with v' l' ≡ host_with marks.view woken).
      ap (λ (y : HostView). said y.log) h
      ∙ second_log (seen (net_of t) v) p b now v marks.view l marked refl refl quiet i.held.joins.rise i.apart
      ∙ sym (ap (λ (o : Outcome). o.log) (wake_here_is (seen (net_of t) v) p b now v (said l) host))
      ∙ ap (λ (y : PartView). let o : Outcome = part_wake t p b now y in o.log) (sym e))
      k.ok

  -- what is so before the call, after its mark, and after it, is so then
  here_still : {T : Type 0} (P : HostView → Type 0) (r : Result T LogFault) → LeftHere r → P (host_with v l) → P (host_with marks.view marked) → P (host_with marks.view woken)
      → P (host_with v (failed l)) → P (host_with marks.view (failed marked)) → P (host_with v' l')
  here_still P (Ok told) k a m w x y = subst P (sym k.ok) w
  here_still P (Err fault.Memory) k a m w x y = ⊎_elim (λ e. subst P (sym e) a) (λ e. subst P (sym e) m) (k.memory refl)
  here_still P (Err fault.Disk) k a m w x y = ⊎_elim (λ e. subst P (sym e) x) (λ e. subst P (sym e) y) (k.failed refl)
  here_still P (Err fault.Reopen) k a m w x y = subst P (sym (k.closed refl)) a
  here_still P (Err (fault.Damaged at)) k a m w x y = absurd (k.never_damaged at refl)

  -- the log stays on its lanes
  pub here_lane : {T : Type 0} (r : Result T LogFault) → LeftHere r → l'.lane ≡ l.lane
  here_lane r k =
      let m : marked.lane ≡ l.lane = noted_lane to_mark l in
      here_still (λ (h : HostView). h.log.lane ≡ l.lane) r k refl m (cut_lane to_cut t.settings.reclaim marked ∙ m) refl m

  -- and the subscribers that may join stay those
  pub here_late : {T : Type 0} (r : Result T LogFault) → LeftHere r → l'.state.late ≡ l.state.late
  here_late r k =
      let m : marked.state.late ≡ l.state.late = noted_late to_mark l in
      here_still (λ (h : HostView). h.log.state.late ≡ l.state.late) r k refl m (cut_late to_cut t.settings.reclaim marked ∙ m) refl m

  -- and the joins that are held are still its own
  pub here_joined : {T : Type 0} (r : Result T LogFault) → LeftHere r → HasJoins v l → HasJoins v' l'
  here_joined r k h = here_still (λ (y : HostView). HasJoins y.view y.log) r k h at_mark at_cut h at_mark
    where
      net : Net
      net = seen (net_of t) v

      -- as after the mark, and as after the cut
      at_mark : HasJoins marks.view marked
      at_mark = marking_joins net p b now v (said l) h ∙ ap (λ (x : Log). x.joins) (sym (marking_log_is net p b now v l))

      at_cut : HasJoins marks.view woken
      at_cut = at_mark ∙ sym (cut_joins to_cut t.settings.reclaim marked)

  -- what is told
  pub here_told : (x : PartView) (r : Result Answer LogFault) → x ≡ part_with v (Some l) → is_host (net_of t) p b ≡ true →
      IfOk r (λ told. Tells (wake_host (seen (net_of t) v) p b now v (said l)) told) → IfOk r (λ told. Tells (part_wake t p b now x) told)
  here_told x r e host k =
      subst (λ (y : PartView). IfOk r (λ told. Tells (part_wake t p b now y) told)) (sym e)
      (subst (λ (o : Outcome). IfOk r (λ told. Tells o told)) (sym (wake_here_is (seen (net_of t) v) p b now v (said l) host)) k)

  -- its lanes
  pub here_wakes : {T : Type 0} (x : PartView) (r : Result T LogFault) (before after : ℕ → Lane) (m : LogView) (n : ℕ) → x ≡ part_with v (Some l) → x.log ≡ Some m → l.lane ≡ n →
      Wakes l to_mark to_cut t.settings.reclaim (lanes_at before l.lane) (lanes_at after l.lane) r → Wakes m (part_mark_logs t now x) (part_cut t p b now x) t.settings.reclaim (lanes_at before n) (lanes_at after n) r
  here_wakes x r before after m n e is lane k =
      subst (λ (z : LogView). Wakes z (part_mark_logs t now x) (part_cut t p b now x) t.settings.reclaim (lanes_at before n) (lanes_at after n) r) (some_is (sym (ap (λ (y : PartView). y.log) e) ∙ is))
      (subst (λ (y : PartView). Wakes l (part_mark_logs t now y) (part_cut t p b now y) t.settings.reclaim (lanes_at before n) (lanes_at after n) r) (sym e)
      (subst (λ (j : ℕ). Wakes l to_mark to_cut t.settings.reclaim (lanes_at before j) (lanes_at after j) r) lane k))

  -- when a broken log is written to
  pub here_reopen : {T : Type 0} (x : PartView) (r : Result T LogFault) → x ≡ part_with v (Some l) → (IsErrOf r fault.Reopen ↔ ((l.broken ≡ true) × (IsSome to_mark ⊎ IsSome to_cut))) →
      IsErrOf r fault.Reopen ↔ ((is_broken x.log ≡ true) × (IsSome (part_mark_logs t now x) ⊎ IsSome (part_cut t p b now x)))
  here_reopen x r e k =
      subst (λ (y : PartView). IsErrOf r fault.Reopen ↔ ((is_broken y.log ≡ true) × (IsSome (part_mark_logs t now y) ⊎ IsSome (part_cut t p b now y)))) (sym e) k

-- A publisher that is elsewhere

-- there is no log
pub no_log : (o : Option LogView) → is_some o ≡ false → o ≡ None
no_log None e = refl
no_log (Some l) e = absurd (false≢true (sym e))

-- so none stands there
pub no_some : {o : Option LogView} {l : LogView} → o ≡ None → o ≡ Some l → ⊥
no_some {o} {l} none some = let e : ◌≡◌ {A = Option LogView} None (Some l) = sym none ∙ some in cc e

module _ (t : TopologyView) (p b now : ℕ) (x : PartView) (host : is_host (net_of t) p b ≡ false) where
  -- what is told
  pub below_told : (told : Answer) → ((log : Log) → Tells (wake_below (seen (net_of t) x.view) p b now x.view log) told) → Tells (part_wake t p b now x) told
  below_told told k = subst (λ (o : Outcome). Tells o told) (sym (wake_below_is (seen (net_of t) x.view) p b now x.view (log_said x.log) host)) (k (log_said x.log))

  -- what is kept then
  pub below_ok : {T : Type 0} (x' : PartView) (told : T) → x.log ≡ None → x'.log ≡ x.log →
      ((log : Log) → let o : Outcome = wake_below (seen (net_of t) x.view) p b now x.view log in x'.view ≡ o.view) →
      WakeLeaves x (part_marked t p b now x) (part_woken t p b now x) (part_failed x) (part_failed (part_marked t p b now x)) x' (Ok told)
  below_ok x' told none same view = record {
    ok = ap₂ part_with (view (log_said x.log) ∙ sym (ap (λ (o : Outcome). o.view) (wake_below_is (seen (net_of t) x.view) p b now x.view (log_said x.log) host)))
        (same ∙ none ∙ sym (ap (λ o. with_cut_if (with_logged o (part_mark_logs t now x)) (part_cut t p b now x) t.settings.reclaim) none));
    memory = λ h. absurd (cc h);
    failed = λ h. absurd (cc h);
    closed = λ h. absurd (cc h);
    never_damaged = λ at h. cc h;
  }

  -- at want of memory all is as before
  pub below_err : {T : Type 0} (x' : PartView) → x' ≡ x →
      WakeLeaves {T = T} x (part_marked t p b now x) (part_woken t p b now x) (part_failed x) (part_failed (part_marked t p b now x)) x' (Err fault.Memory)
  below_err x' e = record {
    ok = tt;
    memory = λ h. inl e;
    failed = λ h. absurd (cc h);
    closed = λ h. absurd (cc h);
    never_damaged = λ at h. cc h;
  }

  -- no log is looked at
  pub below_log : (o : Option LogView) → o ≡ x.log → log_said o ≡ (part_wake t p b now x).log
  unfolding wake_below asking
  below_log o e = ap log_said e ∙ sym (ap (λ (q : Outcome). q.log) (wake_below_is (seen (net_of t) x.view) p b now x.view (log_said x.log) host))

  -- and none is appended to
  pub below_reopen : {T : Type 0} (r : Result T LogFault) {A : Type 0} → x.log ≡ None → (IsErrOf r fault.Reopen → ⊥) → IsErrOf r fault.Reopen ↔ ((is_broken x.log ≡ true) × A)
  below_reopen r none never = (λ h. absurd (never h), λ h. absurd (false≢true (sym (ap is_broken none) ∙ h.0)))

-- The broker, with one part put in place

abbrev made : BrokerView → List View → List (Option LogView) → BrokerView
made b vs ls = record { number = b.number; here = b.here; branches = b.branches; views = vs; logs = ls }

module _ (b : BrokerView) (p : ℕ) (within : p < length b.logs) where
  -- the part that it has
  put_same : with_part b p (part_in b p) ≡ b
  put_same = ap₂ (made b) (set-get_or b.views p blank_view) (set-get_or b.logs p None)

  put_failed : with_part b p (part_failed (part_in b p)) ≡ broken_at b p
  put_failed = ap (λ (vs : List View). made b vs (set b.logs p (with_failed (log_in b p)))) (set-get_or b.views p blank_view)

  -- the log of a part that was put in place
  pub log_put : (x : PartView) → log_in (with_part b p x) p ≡ x.log
  log_put x = get_or-set_same b.logs p x.log None within

  put_broken : (x : PartView) → with_part b p (part_failed x) ≡ broken_at (with_part b p x) p
  put_broken x = ap (made b (set b.views p x.view)) (ap (λ o. set b.logs p (with_failed o)) (sym (log_put x)) ∙ sym (set-set b.logs p x.log (with_failed (log_in (with_part b p x) p))))

  -- what stands after a wake
  pub broker_leaves : (t : TopologyView) (now : ℕ) (b' : BrokerView) (x : PartView) {T : Type 0} (r : Result T LogFault) → with_part b p x ≡ b' →
      (let y : PartView = part_in b p in let marked : PartView = part_marked t p b.number now y in
      WakeLeaves y marked (part_woken t p b.number now y) (part_failed y) (part_failed marked) x r) →
      WakeLeaves b (after_mark t b p now) (after_wake t b p now) (broken_at b p) (broken_at (after_mark t b p now) p) b' r
  broker_leaves t now b' x r e k = leaves_by (with_part b p) r put_same refl refl put_failed (put_broken (part_marked t p b.number now (part_in b p))) e k

  -- it is still a broker of its topology
  pub broker_fits : (t : TopologyView) (x : PartView) → IsBrokerOf t b → p < length t.publishers → IsKept (net_of t) p b.number x.view → is_some x.log ≡ is_some (log_in b p) →
      ((l : LogView) → x.log ≡ Some l → l.lane ≡ 2 * p) → ((l : LogView) → x.log ≡ Some l → l.state.late ≡ t.late) → Beside x.view x.log → IsBrokerOf t (with_part b p x)
  broker_fits t x f lt kept hosted lanes late joined = record {
    number = f.number;
    here = f.here;
    branches = f.branches;
    views = length-set b.views p x.view ∙ f.views;
    logs = length-set b.logs p x.log ∙ f.logs;
    kept = each_set (λ q v. IsKept (net_of t) q b.number v) b.views p x.view blank_view (length t.publishers) (omega (arith, lt, f.views)) f.kept kept;
    hosted = each_set (λ q (o : Option LogView). is_some o ≡ is_host (net_of t) q b.number) b.logs p x.log None (length t.publishers) within f.hosted (hosted ∙ f.hosted p lt);
    lanes = λ q l e. at q l e (cases_eq q p);
    late = λ q l e. of_topology q l e (cases_eq q p);
    joined = λ q l e. beside q l e (cases_eq q p);
  }
    where
      seen_at : view_in (with_part b p x) p ≡ x.view
      seen_at = get_or-set_same b.views p x.view blank_view (omega (arith, lt, f.views))

      beside : (q : ℕ) (l : LogView) → log_in (with_part b p x) q ≡ Some l → (q ≡ p) ⊎ (q ≢ p) → HasJoins (view_in (with_part b p x) q) l
      beside q l e (inl same) =
          subst (λ (n : ℕ). HasJoins (view_in (with_part b p x) n) l) (sym same)
          (subst (λ (v : View). HasJoins v l) (sym seen_at) (joined l (sym (log_put x) ∙ ap (log_in (with_part b p x)) (sym same) ∙ e)))
      beside q l e (inr other) =
          subst (λ (v : View). HasJoins v l) (sym (get_or-set_other b.views p q x.view blank_view other)) (f.joined q l (sym (get_or-set_other b.logs p q x.log None other) ∙ e))

      at : (q : ℕ) (l : LogView) → log_in (with_part b p x) q ≡ Some l → (q ≡ p) ⊎ (q ≢ p) → l.lane ≡ 2 * q
      at q l e (inl same) = lanes l (sym (log_put x) ∙ ap (log_in (with_part b p x)) (sym same) ∙ e) ∙ ap (λ (n : ℕ). 2 * n) (sym same)
      at q l e (inr other) = f.lanes q l (sym (get_or-set_other b.logs p q x.log None other) ∙ e)

      of_topology : (q : ℕ) (l : LogView) → log_in (with_part b p x) q ≡ Some l → (q ≡ p) ⊎ (q ≢ p) → l.state.late ≡ t.late
      of_topology q l e (inl same) = late l (sym (log_put x) ∙ ap (log_in (with_part b p x)) (sym same) ∙ e)
      of_topology q l e (inr other) = f.late q l (sym (get_or-set_other b.logs p q x.log None other) ∙ e)

  -- and each log stands
  pub broker_stands : (before after : ℕ → Lane) (x : PartView) → LogsStand before b → ((l : LogView) → x.log ≡ Some l → IsReady l (lanes_at after (2 * p))) → ((n : ℕ) → AwayFrom (2 * p) n → after n ≡ before n) → LogsStand after (with_part b p x)
  broker_stands before after x old new others q l e = at (cases_eq q p)
    where
      at : (q ≡ p) ⊎ (q ≢ p) → IsReady l (lanes_at after (2 * q))
      at (inl same) = subst (λ (n : ℕ). IsReady l (lanes_at after (2 * n))) (sym same) (new l (sym (log_put x) ∙ ap (log_in (with_part b p x)) (sym same) ∙ e))
      at (inr other) = subst (IsReady l) (sym (lanes_there before after p q others (λ h. other (sym h)))) (old q l (sym (get_or-set_other b.logs p q x.log None other) ∙ e))

-- An answer of the log as one of the broker

-- what holds of what came, of the log's answer, holds of it of the broker's
pub ok_of : (r : Result Answer BrokerFault) (P : Answer → Type 0) → IfOk (log_answer r) P → IfOk r P
ok_of (Ok told) P k = k
ok_of (Err e) P k = k

-- what holds where the log's call came through holds where the broker's did
pub on_ok_of : (r : Result Answer BrokerFault) (P : Type 0) → OnOk (log_answer r) P → OnOk r P
on_ok_of (Ok told) P k = k
on_ok_of (Err e) P k = k

-- both refuse a broken log at once
pub reopen_of : (r : Result Answer BrokerFault) → IsErrOf r refused.Reopen ↔ IsErrOf (log_answer r) fault.Reopen
reopen_of (Ok told) = (λ h. absurd (cc h), λ h. absurd (cc h))
reopen_of (Err refused.Memory) = (λ h. absurd (cc h), λ h. absurd (cc h))
reopen_of (Err refused.Disk) = (λ h. absurd (cc h), λ h. absurd (cc h))
reopen_of (Err refused.Reopen) = (λ h. refl, λ h. refl)
reopen_of (Err (refused.Damaged p at)) = (λ h. absurd (cc h), λ h. absurd (cc h))

-- What is said of one part of one site is said of a broker's part, and of its answer
pub moved : (P : TopologyView → ℕ → ℕ → PartView → Result Answer LogFault → Type 0) {t t' : TopologyView} {p p' b b' : ℕ} {x x' : PartView} {r r' : Result Answer LogFault} →
    t' ≡ t → p' ≡ p → b' ≡ b → x' ≡ x → r' ≡ r → P t' p' b' x' r' → P t p b x r
moved P {t} {t'} {p} {p'} {b} {b'} {x} {x'} {r} {r'} et ep eb ex er k =
    subst (P t p b x) er (subst (λ (y : PartView). P t p b y r') ex (subst (λ (n : ℕ). P t p n x' r') eb
    (subst (λ (n : ℕ). P t n b' x' r') ep (subst (λ (s : TopologyView). P s p' b' x' r') et k))))

-- A broker by its seat

module _ (s : Seat) (held : List Held) (p : ℕ) where
  -- what is kept at a publisher's place is the broker's part of it
  pub seen_part : (h : Held) → p < length (map held_view held) → h ≡ get_or held p h → part_of h ≡ part_in (broker_at s held) p
  seen_part h within e =
      let lt : p < length held = omega (arith, within, length-map held held_view) in
      ap₂ part_with (part_is s.number s.here.now s.edges.now s.positions.now held p h lt e) (ap (λ (y : Held). y.log) e ∙ sym (get_or-map (λ (y : Held). y.log) held p h None lt))

  -- what is put at its place is that part exchanged
  pub seen_put : (h : Held) → with_part (broker_at s held) p (part_of h) ≡ broker_at s (set held p h)
  seen_put h = ap₂ (made (broker_at s held)) (sym (seen_set held_view held p h)) (sym (seen_set (λ (y : Held). y.log) held p h))

  -- and so is its log
  pub log_seen : (h : Held) → p < length (broker_at s held).logs → h.log ≡ log_in (broker_at s (set held p h)) p
  log_seen h within = sym (log_put (broker_at s held) p within (part_of h)) ∙ ap (λ (b : BrokerView). log_in b p) (seen_put h)

-- the lanes of a publisher that is here
pub wakes_at : (b : BrokerView) (p : ℕ) (mark : Option Record) (cut : Option ℕ) (reclaim : ℕ) (before after : ℕ → Lane) (r : Result Answer LogFault) →
    ((l : LogView) → log_in b p ≡ Some l → Wakes l mark cut reclaim (lanes_at before (2 * p)) (lanes_at after (2 * p)) r) → WakesAt b p mark cut reclaim before after r
wakes_at b p mark cut reclaim before after r k = go (log_in b p) k
  where
    go : (o : Option LogView) → ((l : LogView) → o ≡ Some l → Wakes l mark cut reclaim (lanes_at before (2 * p)) (lanes_at after (2 * p)) r) →
        elim o as (λ _. Type 0) [ Some l ↦ Wakes l mark cut reclaim (lanes_at before (2 * p)) (lanes_at after (2 * p)) r | None ↦ Unit {0} ]
    go None h = tt
    go (Some l) h = h l refl
