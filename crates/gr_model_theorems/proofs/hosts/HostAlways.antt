-- Over every schedule each host knows as final all that was cut, and nothing but what was cut or is consolidated: each part of a step keeps it
use Rattle.std.proofs.Common.{◌≡◌, ◌≢◌, inl, inr, ℕ, suc, ◌-◌, ◌≤◌, ◌<◌, max, Bool, true, false, ◌&&◌, List, [], ◌∷◌, length, map, set, get_or, refl, sym, ap, ◌∙◌, subst, Option, Some, None, arith}
use Rattle.std.specs.Prelude.{nat_eq, nat_le, nat_lt, if◌then◌else◌}
use Rattle.std.proofs.lemmas.Bool.{cases_eq, cases_Bool, eq-eqb, eqb-true, true≢false}
use Rattle.std.proofs.lemmas.List.{get_or-set_other, get_or-set_same}
use Rattle.gr_event.specs.declared.event.Event.{Event}
use Rattle.gr_event.specs.Joins.{Joins}
use Rattle.gr_know.specs.declared.values.K.{K}
use Rattle.gr_know.specs.declared.values.K.TheVariants.{Q, S, D, F}
use Rattle.gr_know.specs.Values.{Known, known_at}
use Rattle.gr_curio.specs.Values.{Wanted}
use Rattle.gr_frame.specs.declared.Body.{Body}
use Rattle.gr_frame.specs.declared.Body.TheVariants as body
use Rattle.gr_frame.specs.declared.Frame.{Frame}
use Rattle.gr_frame.specs.Bytes.{frame_bytes}
use Rattle.gr_sched.specs.declared.step.Stop.{Stop}
use Rattle.gr_sched.specs.declared.step.Step.{Step}
use Rattle.gr_sched.specs.declared.step.Step.TheVariants as step
use Rattle.gr_sched.specs.declared.step.Line.{Line}
use Rattle.gr_model.specs.declared.report.Report.TheVariants as line
use Rattle.gr_model.specs.Net.{Net, is_host, is_late, not_empty, numbers}
use Rattle.gr_model.specs.Broker.{View, Log, Outcome, empty_log, with_event, joining, publish, wake, receive, started, is_kept, max_tick}
use Rattle.gr_model.specs.World.{World, Transition, blank_view, view_of, log_of, absorbed, unchanged, followed_by, in_turn, sweep_moment, frame_at, restarted, crash, start, show, opened_lines}
use Rattle.gr_model.specs.World.{join_now_by, wake_for_by, deliver_frame_by, publish_now_by, next_by, publish_stopped_by, sweep_by}
use Rattle.gr_model.specs.Tree.{IsNet}
use Rattle.gr_model_calls.specs.OneNet.{join_now, wake_for, wake_all, deliver_frame, publish_now, publish_stopped, sweep_for, sweep, next, run_all}
use Rattle.gr_model_calls.specs.Edges.{GoesBetween, GoesOverEdge}
use Rattle.gr_model_calls.specs.Rules.{Comes, HasAllWants}
use Rattle.gr_model_calls.specs.Truth.{Facts, IsTrueAt, AllWantTruth}
use Rattle.gr_model_calls.specs.Fits.{WorldFits, FrameTrue, facts_of, reached_in, StepIn, StepsIn}
use Rattle.gr_model_calls.proofs.rules.HostRules.{joins_rule, wakes_rule, publishes_rule, comes_rule}
use Rattle.gr_model_calls.proofs.rules.Views.{fits_view}
use Rattle.gr_model_calls.proofs.runs.Worlds.{Changed, absorbed_changed, numbers_below}
use Rattle.gr_model_calls.proofs.runs.Schedules.{get_numbers, start_is, start_log, next_kept, clocked_fits, frame_at_true}
use Rattle.gr_model_calls.proofs.runs.Closed.{clocked, with_logs, IsCallClosed, in_turn_goes, frame_at_ready, sweep_for_goes, wake_all_goes}
use Rattle.gr_model_calls.proofs.topology.Strays.{AllOver, over_closed, start_over}
use Rattle.gr_model_theorems.proofs.hosts.FinalTicks.{AllFinal, final_closed, start_final}
use Rattle.gr_model_theorems.proofs.hosts.HostFinals.{Finals, NonePast, host_finals, publish_finals, join_finals, comes_finals, started_finals}

-- of every host
abbrev pub HostsFinal : Net → World → Type 0
HostsFinal net w = (p : ℕ) → p < net.publishers → Finals net p (net.host p) (log_of w p).cut (view_of w (net.host p) p)

-- what is kept over steps, with what it rests on
pub record FinalsHold (net : Net) (w : World) : Type 0 where
  pub final : AllFinal net w
  pub over : AllOver net w
  pub hosts : HostsFinal net w

-- A view

-- nothing is known past what is settled
pub none_past : (net : Net) (f : Facts) (p b t : ℕ) (k : K) → f.settled < t → IsTrueAt net f p b t k → k ≡ Q
none_past net f p b t Q l h = refl
none_past net f p b t S l h = absurd (omega (arith, l, h.settled))
none_past net f p b t (D e) l h = absurd (omega (arith, l, h.settled))
none_past net f p b t F l h = absurd (omega (arith, l, h.settled))

past_of : (net : Net) (w : World) (b p : ℕ) → WorldFits net w → b < net.brokers → p < net.publishers → NonePast (view_of w b p) (log_of w p).settled
past_of net w b p f i j t l = none_past net (facts_of net w p) p b t (known_at (view_of w b p).know t) l ((f.views p b j i).know.each t)

-- one curiosity is stored for each child
wants_long : (net : Net) (f : Facts) (p : ℕ) (cs : List ℕ) (ws : List Wanted) → AllWantTruth net f p cs ws → length ws ≡ length cs
wants_long net f p [] [] a = refl
wants_long net f p [] (w ∷ ws) a = absurd a
wants_long net f p (c ∷ cs) [] a = absurd a
wants_long net f p (c ∷ cs) (w ∷ ws) a = ap suc (wants_long net f p cs ws a.1)

all_wants : (net : Net) (w : World) (b p : ℕ) → WorldFits net w → b < net.brokers → p < net.publishers → HasAllWants net p b (view_of w b p)
all_wants net w b p f i j = wants_long net (facts_of net w p) p (net.children p b) (view_of w b p).wants (f.views p b j i).wants

not_host : (net : Net) (b p : ℕ) → b ≢ net.host p → is_host net p b ≡ false
not_host net b p n = elim (cases_Bool (nat_eq (net.host p) b)) [
  | inl e ↦ absurd (n (sym (eqb-true (net.host p) b e)))
  | inr e ↦ e
]

-- Calls

-- a call taken up: at the host it leaves what it left, and at any other broker it keeps the log
absorbed_hosts : (net : Net) (w : World) (b p : ℕ) (o : Outcome) → WorldFits net w → b < net.brokers → p < net.publishers
    → (b ≡ net.host p → Finals net p b (log_of w p).cut (view_of w b p) → Finals net p b o.log.cut o.view) → (b ≢ net.host p → o.log ≡ log_of w p)
    → HostsFinal net w → HostsFinal net (absorbed w b p o).world
absorbed_hosts net w b p o f i j here there a q x =
    let u : World = (absorbed w b p o).world in
    let t : Changed net w u b p o = absorbed_changed net w b p o f i j in
    let own : Finals net p (net.host p) (log_of u p).cut (view_of u (net.host p) p) =
    elim (cases_eq b (net.host p)) [
      | inl g ↦ subst (λ h. Finals net p h (log_of u p).cut (view_of u h p)) g
          (subst (λ (l : Log). Finals net p b l.cut (view_of u b p)) (sym t.log) (subst (Finals net p b o.log.cut) (sym t.view)
          (here g (subst (λ h. Finals net p h (log_of w p).cut (view_of w h p)) (sym g) (a p j)))))
      | inr n ↦ subst (λ (l : Log). Finals net p (net.host p) l.cut (view_of u (net.host p) p)) (sym (t.log ∙ there n))
          (subst (Finals net p (net.host p) (log_of w p).cut) (sym (t.other_broker (net.host p) p (λ e. n (sym e)))) (a p j))
    ] in
    elim (cases_eq q p) [
      | inl e ↦ subst (λ z. Finals net z (net.host z) (log_of u z).cut (view_of u (net.host z) z)) (sym e) own
      | inr e ↦ subst (λ (l : Log). Finals net q (net.host q) l.cut (view_of u (net.host q) q)) (sym (t.other_log q e))
          (subst (Finals net q (net.host q) (log_of w q).cut) (sym (t.other_publisher (net.host q) q e)) (a q x))
    ]

wake_hosts : (net : Net) → IsNet net → 1 ≤ net.quiet → (w : World) (b p : ℕ) → WorldFits net w → b < net.brokers → p < net.publishers → FinalsHold net w → HostsFinal net (wake_for net w b p).world
unfolding wake_for_by
wake_hosts net n z w b p f i j a =
    let v = view_of w b p in
    let l = log_of w p in
    let o = wake net p b w.clock v l in
    let rule = wakes_rule net p b w.clock v l n z j i (fits_view net w p b f j i) in
    absorbed_hosts net w b p o f i j
    (λ g k. host_finals net p b w.clock v l o (n.children_once p b j i) (all_wants net w b p f i j) (past_of net w b p f i j) (rule.host (eq-eqb (net.host p) b (sym g))) (a.final p b j i) k)
    (λ g. (rule.below (not_host net b p g)).log_same) a.hosts

-- a frame that comes leaves the log as it is
comes_log : (net : Net) (p from to now : ℕ) (y : Body) (v : View) (log : Log) (o : Outcome) → Comes net p from to now y v log o → o.log ≡ log
comes_log net p from to now (body.Knowledge runs js) v log o c = c.log_same
comes_log net p from to now (body.Curiosity runs) v log o c = c.log_same
comes_log net p from to now (body.Expect tick) v log o c = c.asks.log_same

-- knowledge that comes to a host says nothing
abbrev pub BringsNothing : Net → Frame → Type 0
BringsNothing net x = (runs : Known) (js : Joins) → x.body ≡ body.Knowledge runs js → x.head.to ≡ net.host x.head.publisher → (t : ℕ) → known_at runs t ≡ Q

pub deliver_hosts : (net : Net) → IsNet net → (w : World) (x : Frame) → WorldFits net w → FrameTrue net w x → BringsNothing net x → HostsFinal net w → HostsFinal net (deliver_frame net w x).world
unfolding deliver_frame_by
deliver_hosts net n w x f t none a =
    let p = x.head.publisher in
    let b = x.head.to in
    let v = view_of w b p in
    let l = log_of w p in
    let o = receive net w.clock x v l in
    let i = t.fits.to_in in
    let j = t.publisher_in in
    let rule = comes_rule net w.clock x v l (reached_in net w p) n j t.fits t.told (f.views p b j i) in
    absorbed_hosts net w b p o f i j
    (λ g k. comes_finals net p x.head.from b w.clock x.body v l o (n.children_once p b j i) (all_wants net w b p f i j) (λ runs js e. none runs js e g) rule k)
    (λ g. comes_log net p x.head.from b w.clock x.body v l o rule) a

publish_hosts : (net : Net) → IsNet net → (w : World) (p number : ℕ) (e : Event) → WorldFits net w → p < net.publishers → HostsFinal net w → HostsFinal net (publish_now net w p number e).world
unfolding publish_now_by
publish_hosts net n w p number e f j a =
    let b = net.host p in
    let i = n.host_in p j in
    let v = view_of w b p in
    let l = log_of w p in
    let o = publish net p b w.clock number e v l in
    absorbed_hosts net w b p o f i j
    (λ g k. publish_finals net p b w.clock number e v l o (n.children_once p b j i) (all_wants net w b p f i j) (past_of net w b p f i j)
    (publishes_rule net p b w.clock number e v l n j i (fits_view net w p b f j i)) k)
    (λ g. absurd (g refl)) a

join_hosts : (net : Net) → IsNet net → (w : World) (s p : ℕ) → WorldFits net w → p < net.publishers → HostsFinal net w → HostsFinal net (join_now net w s p).world
unfolding join_now_by
join_hosts net n w s p f j a =
    let b = net.host p in
    let i = n.host_in p j in
    let v = view_of w b p in
    let l = log_of w p in
    let o = joining net p b w.clock s v l in
    absorbed_hosts net w b p o f i j
    (λ g k. join_finals net p b w.clock s v l o (n.children_once p b j i) (all_wants net w b p f i j) (past_of net w b p f i j)
    (joins_rule net p b w.clock s v l n j i (fits_view net w p b f j i)) k)
    (λ g. absurd (g refl)) a

-- Starts

-- logs with the cuts that were, none of them past what is settled
record AreAsCut (net : Net) (w : World) (logs : List Log) : Type 0 where
  same : (q : ℕ) → q < net.publishers → (get_or logs q empty_log).cut ≡ (log_of w q).cut
  within : (q : ℕ) → q < net.publishers → (get_or logs q empty_log).cut ≤ (get_or logs q empty_log).settled

restarted_hosts : (net : Net) (w : World) (logs : List Log) (b : ℕ) → WorldFits net w → b < net.brokers → AreAsCut net w logs → HostsFinal net w → HostsFinal net (restarted net (with_logs w logs) b)
unfolding restarted
restarted_hosts net w logs b f i are a q x =
    let g : ℕ → View = λ p. started net p b (get_or logs p empty_log) in
    let u = restarted net (with_logs w logs) b in
    let log : Log = get_or logs q empty_log in
    elim (cases_eq (net.host q) b) [
      | inl e ↦ subst (λ h. Finals net q h log.cut (view_of u h q)) (sym e)
          (subst (Finals net q b log.cut) (sym (ap (λ row. get_or row q blank_view) (get_or-set_same w.views b (map g (numbers net.publishers)) [] (omega (arith, f.views_long))) ∙ (get_numbers g 0 net.publishers q blank_view x ∙ ap g (omega arith))))
          (started_finals net q b log (eq-eqb (net.host q) b e) (are.within q x)))
      | inr e ↦ subst (λ k. Finals net q (net.host q) k (view_of u (net.host q) q)) (sym (are.same q x))
          (subst (Finals net q (net.host q) (log_of w q).cut) (sym (ap (λ row. get_or row q blank_view) (get_or-set_other w.views b (net.host q) (map g (numbers net.publishers)) [] e))) (a q x))
    ]

-- hosts that have just started
pub hosts_started : (net : Net) (w : World) (logs : ℕ → Log) → IsNet net → ((p b : ℕ) → p < net.publishers → b < net.brokers → view_of w b p ≡ started net p b (logs p)) → ((p : ℕ) → p < net.publishers → log_of w p ≡ logs p)
    → ((p : ℕ) → p < net.publishers → (logs p).cut ≤ (logs p).settled) → HostsFinal net w
hosts_started net w logs n views are within p j =
    subst (λ (l : Log). Finals net p (net.host p) l.cut (view_of w (net.host p) p)) (sym (are p j))
    (subst (Finals net p (net.host p) (logs p).cut) (sym (views p (net.host p) j (n.host_in p j))) (started_finals net p (net.host p) (logs p) (eq-eqb (net.host p) (net.host p) refl) (within p j)))

-- Steps

-- a host is no child of any broker, so no knowledge goes to it over an edge
edge_brings : (net : Net) (x : Frame) → IsNet net → GoesOverEdge net x → BringsNothing net x
edge_brings net x n r runs js e g t =
    let p = x.head.publisher in
    let up = subst (GoesBetween net p x.head.from x.head.to) e r.between in
    let child = (n.up_in p x.head.to x.head.from r.publisher r.to up).1 in
    absurd (true≢false (sym (eq-eqb (net.host p) x.head.to (sym g)) ∙ (n.place p x.head.from r.publisher r.from).child_not_host x.head.to child))

module _ (net : Net) (n : IsNet net) (z : 1 ≤ net.quiet) where
  -- each wake and delivery keeps it
  finals_calls : IsCallClosed net (GoesOverEdge net) (FinalsHold net)
  finals_calls = record {
    sent = λ w a. a.over;
    woken = λ w b p f i j a. record {
      final = (final_closed net n z).calls.woken w b p f i j a.final;
      over = (over_closed net n).calls.woken w b p f i j a.over;
      hosts = wake_hosts net n z w b p f i j a;
    };
    delivered = λ w x f t r a. record {
      final = (final_closed net n z).calls.delivered w x f t tt a.final;
      over = (over_closed net n).calls.delivered w x f t r a.over;
      hosts = deliver_hosts net n w x f t (edge_brings net x n r) a.hosts;
    };
  }

  published_finals : (w : World) (p number : ℕ) (e : Event) → WorldFits net w → p < net.publishers → FinalsHold net w → FinalsHold net (publish_now net w p number e).world
  published_finals w p number e f j a = record {
    final = (final_closed net n z).published w p number e f j a.final;
    over = (over_closed net n).published w p number e f j a.over;
    hosts = publish_hosts net n w p number e f j a.hosts;
  }

  joined_finals : (w : World) (s p : ℕ) → WorldFits net w → is_late net s ≡ true → p < net.publishers → FinalsHold net w → FinalsHold net (join_now net w s p).world
  joined_finals w s p f late j a = record {
    final = (final_closed net n z).joined w s p f late j a.final;
    over = (over_closed net n).joined w s p f late j a.over;
    hosts = join_hosts net n w s p f j a.hosts;
  }

  clocked_finals : (w : World) (now : ℕ) → WorldFits net w → FinalsHold net w → FinalsHold net (clocked w now (max now w.most))
  clocked_finals w now f a = record {
    final = (final_closed net n z).at_clock w now f a.final;
    over = (over_closed net n).at_clock w now f a.over;
    hosts = a.hosts;
  }

  restarts_finals : (w : World) (logs : List Log) (b : ℕ) → WorldFits net w → b < net.brokers → AreAsCut net w logs → FinalsHold net w → FinalsHold net (restarted net (with_logs w logs) b)
  restarts_finals w logs b f i are a = record {
    final = (final_closed net n z).restarts w logs b f i a.final;
    over = (over_closed net n).restarts w logs b f i a.over;
    hosts = restarted_hosts net w logs b f i are a.hosts;
  }

  logs_as_cut : (w : World) → WorldFits net w → AreAsCut net w w.logs
  logs_as_cut w f = record { same = λ q x. refl; within = λ q x. (f.logs q x).cut }

  -- with one event more
  more_as_cut : (w : World) (p tick : ℕ) (e : Event) → WorldFits net w → p < net.publishers → (log_of w p).settled < tick → AreAsCut net w (set w.logs p (with_event (log_of w p) tick e))
  more_as_cut w p tick e f j above = record {
    same = λ q x. elim (cases_eq q p) [
      | inl y ↦ subst (λ k. (get_or more k empty_log).cut ≡ (log_of w k).cut) (sym y) (ap (λ (l : Log). l.cut) here)
      | inr y ↦ ap (λ (l : Log). l.cut) (get_or-set_other w.logs p q log empty_log y)
    ];
    within = λ q x. elim (cases_eq q p) [
      | inl y ↦ let cut = (f.logs p j).cut in
          subst (λ k. (get_or more k empty_log).cut ≤ (get_or more k empty_log).settled) (sym y)
          (subst (λ (l : Log). l.cut ≤ l.settled) (sym here) (omega (arith, cut, above)))
      | inr y ↦ subst (λ (l : Log). l.cut ≤ l.settled) (sym (get_or-set_other w.logs p q log empty_log y)) (f.logs q x).cut
    ];
  }
    where
      log : Log
      log = with_event (log_of w p) tick e

      more : List Log
      more = set w.logs p log

      here : get_or more p empty_log ≡ log
      here = get_or-set_same w.logs p log empty_log (omega (arith, j, f.logs_long))

  sweep_finals : (w : World) (k : ℕ) → WorldFits net w → FinalsHold net w → FinalsHold net (sweep net w k).world
  unfolding sweep_by
  sweep_finals w k f h = go (nat_lt max_tick m)
    where
      m : ℕ
      m = sweep_moment net w

      u : World
      u = clocked w m (max m w.most)

      go : (q : Bool) → FinalsHold net (let t : Transition = elim q [ true ↦ unchanged w (line.RefusedClock k m ∷ []) | false ↦ followed_by (in_turn (sweep_for net) (numbers net.publishers) u) (λ x. unchanged x (line.Swept m ∷ [])) ] in t.world)
      go true = h
      go false =
          (in_turn_goes net (FinalsHold net) (λ x p. p < net.publishers) (sweep_for net) (λ x y p l h. h) (λ x p g k h. sweep_for_goes net (GoesOverEdge net) (FinalsHold net) x p n finals_calls g k h) (numbers net.publishers) u
          (clocked_fits net w m (max m w.most) f) (clocked_finals w m f h) (numbers_below 0 net.publishers net.publishers (omega arith))).holds

  stopped_finals : (w : World) (k p number : ℕ) (stop : Stop) (e : Event) → WorldFits net w → FinalsHold net w → p < net.publishers → FinalsHold net (publish_stopped net w k p number stop e).world
  unfolding publish_stopped_by
  stopped_finals w k p number stop e f h j = host_at (not_empty (net.subscribers_at (net.host p)))
    where
      log : Log
      log = log_of w p

      tick : ℕ
      tick = max (suc log.settled) w.clock

      kept : Bool
      kept = is_kept (log.size - 1) stop.call stop.pick

      logs : List Log
      logs = if kept then set w.logs p (with_event log tick e) else w.logs

      are : (q : Bool) → AreAsCut net w (if q then set w.logs p (with_event log tick e) else w.logs)
      are true = more_as_cut w p tick e f j (omega arith)
      are false = logs_as_cut w f

      stopped : Transition
      stopped = record {
        world = restarted net (with_logs w logs) (net.host p);
        lines = line.Crashed (net.host p) ∷ ((if kept then line.Kept p number tick else line.Lost p number tick) ∷ opened_lines net logs (net.host p));
      }

      number_at : (q : Bool) → FinalsHold net (let t : Transition = elim q [ false ↦ publish_now net w p number e | true ↦ stopped ] in t.world)
      number_at false = published_finals w p number e f j h
      number_at true = restarts_finals w logs (net.host p) f (n.host_in p j) (are kept) h

      host_at : (q : Bool) → FinalsHold net (let t : Transition = elim q [ true ↦ unchanged w (line.RefusedHosts k (net.host p) ∷ []) | false ↦ elim (nat_eq number (suc log.last) && nat_le tick max_tick) [ false ↦ publish_now net w p number e | true ↦ stopped ] ] in t.world)
      host_at true = h
      host_at false = number_at (nat_eq number (suc log.last) && nat_le tick max_tick)

  next_finals : (w : World) (l : Line) → WorldFits net w → FinalsHold net w → StepIn net l.step → FinalsHold net (next net w l).world
  unfolding next_by crash
  next_finals w l f h i = go l.step i
    where
      delivered : (k : ℕ) (o : Option Frame) → frame_at w k ≡ o → FinalsHold net (let t : Transition = elim o [ None ↦ unchanged w (line.RefusedFrame l.number k (length w.frames) ∷ []) | Some x ↦ deliver_frame net w x ] in t.world)
      delivered k None e = h
      delivered k (Some x) e = finals_calls.delivered w x f (frame_at_true net w k x f e) (frame_at_ready (GoesOverEdge net) w k x h.over e) h

      bytes_at : (k : ℕ) (o : Option Frame) → FinalsHold net (let t : Transition = elim o [ None ↦ unchanged w (line.RefusedFrame l.number k (length w.frames) ∷ []) | Some x ↦ unchanged w (line.BytesOf k (frame_bytes x) ∷ []) ] in t.world)
      bytes_at k None = h
      bytes_at k (Some x) = h

      crashed : (b : ℕ) (q : Bool) → b < net.brokers → FinalsHold net (let t : Transition = elim q [ true ↦ unchanged w (line.RefusedHosts l.number b ∷ []) | false ↦ crash net w b ] in t.world)
      crashed b true x = h
      crashed b false x = restarts_finals w w.logs b f x (logs_as_cut w f) h

      published : (p number : ℕ) (stop : Option Stop) (e : Event) → p < net.publishers → FinalsHold net (let t : Transition = elim stop [ None ↦ publish_now net w p number e | Some s ↦ publish_stopped net w l.number p number s e ] in t.world)
      published p number None e x = published_finals w p number e f x h
      published p number (Some s) e x = stopped_finals w l.number p number s e f h x

      go : (s : Step) → StepIn net s → FinalsHold net (let t : Transition = elim s [
        | step.Clock now ↦ unchanged (record { clock = now; most = max now w.most; frames = w.frames; views = w.views; logs = w.logs }) []
        | step.Publish p number stop e ↦ elim stop [ None ↦ publish_now net w p number e | Some s ↦ publish_stopped net w l.number p number s e ]
        | step.Wake b ↦ wake_all net w b
        | step.Deliver k ↦ elim (frame_at w k) [ None ↦ unchanged w (line.RefusedFrame l.number k (length w.frames) ∷ []) | Some f ↦ deliver_frame net w f ]
        | step.Crash b ↦ elim (not_empty (net.subscribers_at b)) [ true ↦ unchanged w (line.RefusedHosts l.number b ∷ []) | false ↦ crash net w b ]
        | step.Sweep ↦ sweep net w l.number
        | step.Join s p ↦ join_now net w s p
        | step.Show ↦ unchanged w (show net w)
        | step.Bytes k ↦ elim (frame_at w k) [ None ↦ unchanged w (line.RefusedFrame l.number k (length w.frames) ∷ []) | Some f ↦ unchanged w (line.BytesOf k (frame_bytes f) ∷ []) ]
      ] in t.world)
      go (step.Clock now) x = clocked_finals w now f h
      go (step.Publish p number stop e) x = published p number stop e x
      go (step.Wake b) x = (wake_all_goes net (GoesOverEdge net) (FinalsHold net) w b n finals_calls f h x).holds
      go (step.Deliver k) x = delivered k (frame_at w k) refl
      go (step.Crash b) x = crashed b (not_empty (net.subscribers_at b)) x
      go step.Sweep x = sweep_finals w l.number f h
      go (step.Join s p) x = joined_finals w s p f x.0 x.1 h
      go step.Show x = h
      go (step.Bytes k) x = bytes_at k (frame_at w k)

  -- and so does every run of steps
  pub run_finals : (w : World) (ls : List Line) → WorldFits net w → FinalsHold net w → StepsIn net ls → FinalsHold net (run_all net w ls).world
  run_finals w [] f h i = h
  run_finals w (l ∷ ls) f h i = run_finals (next net w l).world ls (next_kept net w l n f i.0).fits (next_finals w l f h i.0) i.1

-- at the start
pub start_finals : (net : Net) → IsNet net → FinalsHold net (start net)
start_finals net n = record {
  final = start_final net;
  over = start_over net;
  hosts = hosts_started net (start net) (λ p. empty_log) n (λ p b j i. start_is net b p i j) (λ p j. start_log net p j) (λ p j. omega arith);
}
