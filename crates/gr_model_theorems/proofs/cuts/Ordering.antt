-- Cut lines are in order over every schedule
use Rattle.std.proofs.Common.{◌≡◌, ◌≢◌, inl, inr, ℕ, suc, ◌<◌, max, Bool, true, false, ◌&&◌, List, [], ◌∷◌, ◌-◌, ◌++◌, map, length, set, refl, sym, ap, ◌∙◌, subst, Option, Some, None, arith, le_refl, append_assoc}
use Rattle.std.specs.Prelude.{nat_eq, nat_le, nat_lt, if◌then◌else◌, flat_map, get_or}
use Rattle.std.proofs.lemmas.Bool.{cases_eq, both_ways}
use Rattle.std.proofs.lemmas.List.{get_or-set_other, get_or-set_same}
use Rattle.gr_event.specs.declared.event.Event.{Event}
use Rattle.gr_frame.specs.declared.Frame.{Frame}
use Rattle.gr_sched.specs.declared.step.Stop.{Stop}
use Rattle.gr_sched.specs.declared.step.Step.{Step}
use Rattle.gr_sched.specs.declared.step.Step.TheVariants as step
use Rattle.gr_sched.specs.declared.step.Line.{Line}
use Rattle.gr_model.specs.declared.report.Report.{Report}
use Rattle.gr_model.specs.declared.report.Report.TheVariants as line
use Rattle.gr_model.specs.Net.{is_late, Net, not_empty, numbers, keeps_horizon}
use Rattle.gr_model.specs.Broker.{joining, Log, empty_log, with_event, is_kept, max_tick, wake, receive, publish}
use Rattle.gr_model.specs.World.{join_now_by, World, Transition, blank_view, view_of, log_of, unchanged, followed_by, in_turn, frame_at, restarted, crash, sweep_moment, show, opened_lines, kept_events, deliver_frame_by, next_by, publish_now_by, publish_stopped_by, sweep_by, wake_for_by}
use Rattle.gr_model_calls.specs.OneNet.{join_now, wake_for, wake_all, deliver_frame, publish_now, publish_stopped, sweep_for, sweep, next, run_all}
use Rattle.gr_frame.specs.Bytes.{frame_bytes}
use Rattle.gr_model_calls.specs.Truth.{IsLater}
use Rattle.gr_model_calls.specs.Fits.{facts_of, reached_in, WorldFits, LinesFit, FrameTrue, StepIn, StepsIn}
use Rattle.gr_model.specs.Tree.{IsNet}
use Rattle.gr_model_calls.proofs.runs.Worlds.{join_kept, Kept, Later-refl, wake_for_kept, deliver_kept, publish_kept}
use Rattle.gr_model_calls.proofs.runs.Schedules.{next_kept, crash_kept, publish_stopped_kept, frame_at_true, clocked_fits}
use Rattle.gr_model_theorems.proofs.hosts.HostHorizon.{join_now_meets, HostsMeet, wake_for_meets, deliver_meets, publish_now_meets}
use Rattle.gr_model_theorems.proofs.cuts.Cutlines.{joining_cuts, CutFree, CutFree-append, CutsHave-map, wake_cuts, receive_cuts, publish_cuts}
use Rattle.gr_model_theorems.proofs.cuts.Orders.{CutFits, CutFits-later, Ordered, ordered_free, absorbed_ordered}
use Rattle.gr_model_calls.proofs.calls.Held.{grows_not}
use Rattle.gr_model_calls.proofs.runs.Chains.{Chains, wake_all_chain, sweeps_chain}

-- what a step does to the order
abbrev pub Orders : Net → World → Transition → Type 0
Orders net w t = (found : ℕ → ℕ) (ls : List Report) → LinesFit net w ls → Ordered net found w ls → Ordered net found t.world (ls ++ t.lines)

still_orders : (net : Net) (w : World) (more : List Report) → ((q : ℕ) → CutFree q more) → Orders net w (unchanged w more)
still_orders net w more free found ls l o = ordered_free net found w w ls more (λ q j. Later-refl (facts_of net w q)) o.meets (λ q j. free q) (λ q j. refl) o

orders_after : (net : Net) (w : World) (t : Transition) (f : World → Transition) → Kept net w t → Orders net w t → Orders net t.world (f t.world) → Orders net w (followed_by t f)
orders_after net w t f k a b found ls l o = subst (λ z. Ordered net found (f t.world).world z) (append_assoc ls t.lines (f t.world).lines) (b found (ls ++ t.lines) (k.lines ls l) (a found ls l o))

wake_for_orders : (net : Net) (w : World) (b p : ℕ) → IsNet net → WorldFits net w → b < net.brokers → p < net.publishers → Kept net w (wake_for net w b p) → ((m : HostsMeet net w) → HostsMeet net (wake_for net w b p).world) → Orders net w (wake_for net w b p)
unfolding wake_for_by
wake_for_orders net w b p n f i j k m found ls l o = absorbed_ordered net found w b p (wake net p b w.clock (view_of w b p) (log_of w p)) ls n f i j (wake_cuts net p b w.clock (view_of w b p) (log_of w p) (f.logs p j).keeps) k (m o.meets) l o

deliver_orders : (net : Net) (w : World) (x : Frame) → IsNet net → WorldFits net w → FrameTrue net w x → Kept net w (deliver_frame net w x) → ((m : HostsMeet net w) → HostsMeet net (deliver_frame net w x).world) → Orders net w (deliver_frame net w x)
unfolding deliver_frame_by
deliver_orders net w x n f t k m found ls l o = absorbed_ordered net found w x.head.to x.head.publisher (receive net w.clock x (view_of w x.head.to x.head.publisher) (log_of w x.head.publisher)) ls n f t.fits.to_in t.publisher_in (receive_cuts net w.clock x (view_of w x.head.to x.head.publisher) (log_of w x.head.publisher)) k (m o.meets) l o

publish_orders : (net : Net) (w : World) (p number : ℕ) (e : Event) → IsNet net → WorldFits net w → p < net.publishers → Kept net w (publish_now net w p number e) → ((m : HostsMeet net w) → HostsMeet net (publish_now net w p number e).world) → Orders net w (publish_now net w p number e)
unfolding publish_now_by
publish_orders net w p number e n f j k m found ls l o = absorbed_ordered net found w (net.host p) p (publish net p (net.host p) w.clock number e (view_of w (net.host p) p) (log_of w p)) ls n f (n.host_in p j) j (publish_cuts net p (net.host p) w.clock number e (view_of w (net.host p) p) (log_of w p)) k (m o.meets) l o

publishing_orders : (net : Net) (w : World) (p number : ℕ) (e : Event) → IsNet net → WorldFits net w → p < net.publishers → Orders net w (publish_now net w p number e)
publishing_orders net w p number e n f j = publish_orders net w p number e n f j (publish_kept net w p number e n f j) (publish_now_meets net w p number e n f j)

join_orders : (net : Net) (w : World) (s p : ℕ) → IsNet net → WorldFits net w → p < net.publishers → Kept net w (join_now net w s p) → (HostsMeet net w → HostsMeet net (join_now net w s p).world) → Orders net w (join_now net w s p)
unfolding join_now_by
join_orders net w s p n f j k m found ls l o = absorbed_ordered net found w (net.host p) p (joining net p (net.host p) w.clock s (view_of w (net.host p) p) (log_of w p)) ls n f (n.host_in p j) j (joining_cuts net p (net.host p) w.clock s (view_of w (net.host p) p) (log_of w p)) k (m o.meets) l o

joining_orders : (net : Net) (w : World) (s p : ℕ) → IsNet net → WorldFits net w → is_late net s ≡ true → p < net.publishers → Orders net w (join_now net w s p)
joining_orders net w s p n f late j = join_orders net w s p n f j (join_kept net w s p n f late j) (join_now_meets net w s p n f late j)

delivering_orders : (net : Net) (w : World) (x : Frame) → IsNet net → WorldFits net w → FrameTrue net w x → Orders net w (deliver_frame net w x)
delivering_orders net w x n f t = deliver_orders net w x n f t (deliver_kept net w x n f t) (deliver_meets net w x n f t)

orders_chain : (net : Net) → IsNet net → Chains net (Orders net)
orders_chain net n = record {
  nil = λ w f. still_orders net w [] (λ q. tt);
  seq = λ w t f g k a x b. orders_after net w t f k a b;
  wake = λ w b p f i j. wake_for_orders net w b p n f i j (wake_for_kept net w b p n f i j) (wake_for_meets net w b p n f i j);
  deliver = λ w x f t. delivering_orders net w x n f t;
}

-- A broker starts again

restarted_other : (net : Net) (w : World) (b c q : ℕ) → c ≢ b → view_of (restarted net w b) c q ≡ view_of w c q
unfolding restarted
restarted_other net w b c q n = ap (λ row. get_or row q blank_view) (get_or-set_other w.views b c _ [] n)

restarted_log : (net : Net) (w : World) (b q : ℕ) → log_of (restarted net w b) q ≡ log_of w q
unfolding restarted
restarted_log net w b q = refl

restart_meets : (net : Net) (w u : World) (b : ℕ) → not_empty (net.subscribers_at b) ≡ false → ((q : ℕ) → net.host q ≢ b → view_of u (net.host q) q ≡ view_of w (net.host q) q) → ((q : ℕ) → net.host q ≢ b → log_of u q ≡ log_of w q) → HostsMeet net w → HostsMeet net u
restart_meets net w u b no_one views logs m q x y =
    elim (cases_eq (net.host q) b) [
      | inl e ↦ absurd (both_ways (not_empty (net.subscribers_at b)) no_one (subst (λ z. not_empty (net.subscribers_at z) ≡ true) e y))
      | inr e ↦ ap (λ v. v.horizon) (views q e) ∙ (m q x y ∙ ap (λ l. l.settled) (sym (logs q e)))
    ]

opened_free : (net : Net) (logs : List Log) (b q : ℕ) → CutFree q (opened_lines net logs b)
unfolding opened_lines
opened_free net logs b q = go (numbers net.publishers)
  where
    one : (p : ℕ) (c : Bool) → CutFree q (let log = get_or logs p empty_log in if c then line.Opened p log.last log.settled log.cut ∷ [] else [])
    one p true = tt
    one p false = tt

    here : ℕ → List Report
    here p = let log = get_or logs p empty_log in if nat_eq (net.host p) b && nat_lt 0 log.settled then line.Opened p log.last log.settled log.cut ∷ [] else []

    go : (ps : List ℕ) → CutFree q (flat_map here ps)
    go [] = tt
    go (p ∷ ps) = CutFree-append q (here p) (flat_map here ps) (one p (nat_eq (net.host p) b && nat_lt 0 (get_or logs p empty_log).settled)) (go ps)

crash_orders : (net : Net) (w : World) (b : ℕ) → not_empty (net.subscribers_at b) ≡ false → Kept net w (crash net w b) → Orders net w (crash net w b)
unfolding crash
crash_orders net w b no_one k found ls l o = ordered_free net found w (restarted net w b) ls (line.Crashed b ∷ opened_lines net w.logs b) k.later (restart_meets net w (restarted net w b) b no_one (λ q e. restarted_other net w b (net.host q) q e) (λ q e. restarted_log net w b q) o.meets) (λ q j. opened_free net w.logs b q) (λ q j. ap (λ z. z.cut) (restarted_log net w b q)) o

stopped_orders : (net : Net) (w : World) (k p number : ℕ) (stop : Stop) (e : Event) → IsNet net → WorldFits net w → p < net.publishers → Kept net w (publish_stopped net w k p number stop e) → Orders net w (publish_stopped net w k p number stop e)
unfolding publish_stopped_by
stopped_orders net w k p number stop e n f j = host_at (not_empty (net.subscribers_at (net.host p))) refl
  where
    log : Log
    log = log_of w p

    tick : ℕ
    tick = max (suc log.settled) w.clock

    kept : Bool
    kept = is_kept (log.size - 1) stop.call stop.pick

    told : Bool → Transition
    told q =
        let logs : List Log = if q then set w.logs p (with_event log tick e) else w.logs in
        record {
          world = restarted net (record { clock = w.clock; most = w.most; frames = w.frames; views = w.views; logs = logs }) (net.host p);
          lines = line.Crashed (net.host p) ∷ ((if q then line.Kept p number tick else line.Lost p number tick) ∷ opened_lines net logs (net.host p));
        }

    told_at : (q : Bool) → not_empty (net.subscribers_at (net.host p)) ≡ false → Kept net w (told q) → Orders net w (told q)
    told_at true no_one y found ls l o =
        let u : World = record { clock = w.clock; most = w.most; frames = w.frames; views = w.views; logs = set w.logs p (with_event log tick e) } in
        ordered_free net found w (told true).world ls (told true).lines y.later
        (restart_meets net w (told true).world (net.host p) no_one (λ q z. restarted_other net u (net.host p) (net.host q) q z) (λ q z. restarted_log net u (net.host p) q ∙ get_or-set_other w.logs p q (with_event log tick e) empty_log (λ h. z (ap net.host h))) o.meets)
        (λ q z. opened_free net (set w.logs p (with_event log tick e)) (net.host p) q)
        (λ q z. ap (λ m. m.cut) (restarted_log net u (net.host p) q) ∙ elim (cases_eq q p) [
          | inl h ↦ subst (λ a. (get_or (set w.logs p (with_event log tick e)) a empty_log).cut ≡ (log_of w a).cut) (sym h) (ap (λ m. m.cut) (get_or-set_same w.logs p (with_event log tick e) empty_log (omega (arith, f.logs_long))))
          | inr h ↦ ap (λ m. m.cut) (get_or-set_other w.logs p q (with_event log tick e) empty_log h)
        ]) o
    told_at false no_one y found ls l o =
        let u : World = record { clock = w.clock; most = w.most; frames = w.frames; views = w.views; logs = w.logs } in
        ordered_free net found w (told false).world ls (told false).lines y.later
        (restart_meets net w (told false).world (net.host p) no_one (λ q z. restarted_other net u (net.host p) (net.host q) q z) (λ q z. restarted_log net u (net.host p) q) o.meets)
        (λ q z. opened_free net w.logs (net.host p) q) (λ q z. ap (λ m. m.cut) (restarted_log net u (net.host p) q)) o

    number_at : (q : Bool) → not_empty (net.subscribers_at (net.host p)) ≡ false → (let t : Transition = elim q [ false ↦ publish_now net w p number e | true ↦ told kept ] in Kept net w t → Orders net w t)
    number_at false no_one y = publishing_orders net w p number e n f j
    number_at true no_one y = told_at kept no_one y

    host_at : (q : Bool) → not_empty (net.subscribers_at (net.host p)) ≡ q → (let t : Transition = elim q [ true ↦ unchanged w (line.RefusedHosts k (net.host p) ∷ []) | false ↦ elim (nat_eq number (suc log.last) && nat_le tick max_tick) [ false ↦ publish_now net w p number e | true ↦ told kept ] ] in Kept net w t → Orders net w t)
    host_at true h y = still_orders net w (line.RefusedHosts k (net.host p) ∷ []) (λ q. tt)
    host_at false h y = number_at (nat_eq number (suc log.last) && nat_le tick max_tick) h y

-- A world with another clock

abbrev clocked : World → ℕ → ℕ → World
clocked w clock most = record { clock = clock; most = most; frames = w.frames; views = w.views; logs = w.logs }

clocked_later : (net : Net) (w : World) (clock most q : ℕ) → IsLater (facts_of net w q) (facts_of net (clocked w clock most) q)
clocked_later net w clock most q = record { settled = le_refl (log_of w q).settled; said = λ t y. refl; reached = λ s. le_refl (reached_in net w q s); joined = grows_not (log_of w q).joins (log_of w q).settled }

clocked_orders : (net : Net) (w : World) (clock most : ℕ) (t : Transition) → Orders net (clocked w clock most) t → Orders net w t
clocked_orders net w clock most t k found ls l o =
    k found ls (record { got = l.got; horizon = l.horizon; steady = l.steady; nothing = l.nothing })
    (record { meets = o.meets; last = o.last; each = λ q j. CutsHave-map (CutFits net found w q) (CutFits net found (clocked w clock most) q) q [] ls (λ t xs c. CutFits-later net found w (clocked w clock most) q t xs (clocked_later net w clock most q) c) (o.each q j) })

-- a sweep keeps the cut lines in order
pub sweep_orders : (net : Net) (w : World) (k : ℕ) → IsNet net → WorldFits net w → Orders net w (sweep net w k)
unfolding sweep_by
sweep_orders net w k n f = go (nat_lt max_tick m)
  where
    m : ℕ
    m = sweep_moment net w

    u : World
    u = record { clock = m; most = max m w.most; frames = w.frames; views = w.views; logs = w.logs }

    go : (q : Bool) → Orders net w (elim q [ true ↦ unchanged w (line.RefusedClock k m ∷ []) | false ↦ followed_by (in_turn (sweep_for net) (numbers net.publishers) u) (λ x. unchanged x (line.Swept m ∷ [])) ])
    go true = still_orders net w (line.RefusedClock k m ∷ []) (λ q. tt)
    go false =
        let b = sweeps_chain net (Orders net) u (orders_chain net n) n (clocked_fits net w m (max m w.most) f) in
        clocked_orders net w m (max m w.most) (followed_by (in_turn (sweep_for net) (numbers net.publishers) u) (λ x. unchanged x (line.Swept m ∷ [])))
        (orders_after net u (in_turn (sweep_for net) (numbers net.publishers) u) (λ x. unchanged x (line.Swept m ∷ [])) b.kept b.holds (still_orders net (in_turn (sweep_for net) (numbers net.publishers) u).world (line.Swept m ∷ []) (λ q. tt)))

show_free : (net : Net) (w : World) (q : ℕ) → CutFree q (show net w)
unfolding show
show_free net w q = CutFree-append q (map log_line (numbers net.publishers)) (flat_map there (numbers net.brokers)) (logs (numbers net.publishers)) (brokers (numbers net.brokers))
  where
    log_line : ℕ → Report
    log_line p = let l = log_of w p in line.LogOf p l.last l.settled l.cut (kept_events l)

    logs : (ps : List ℕ) → CutFree q (map log_line ps)
    logs [] = tt
    logs (p ∷ ps) = logs ps

    one : (b p : ℕ) (c : Bool) → CutFree q (if c then line.Doubt b p (view_of w b p).horizon ∷ [] else [])
    one b p true = tt
    one b p false = tt

    here : ℕ → ℕ → List Report
    here b p = if keeps_horizon net p b then line.Doubt b p (view_of w b p).horizon ∷ [] else []

    there : ℕ → List Report
    there b = flat_map (here b) (numbers net.publishers)

    row : (b : ℕ) (ps : List ℕ) → CutFree q (flat_map (here b) ps)
    row b [] = tt
    row b (p ∷ ps) = CutFree-append q (here b p) (flat_map (here b) ps) (one b p (keeps_horizon net p b)) (row b ps)

    brokers : (bs : List ℕ) → CutFree q (flat_map there bs)
    brokers [] = tt
    brokers (b ∷ bs) = CutFree-append q (there b) (flat_map there bs) (row b (numbers net.publishers)) (brokers bs)

-- each step keeps the cut lines in order
pub next_orders : (net : Net) (w : World) (l : Line) → IsNet net → WorldFits net w → StepIn net l.step → Orders net w (next net w l)
unfolding next_by
next_orders net w l n f i = go l.step i
  where
    delivered : (k : ℕ) (o : Option Frame) → frame_at w k ≡ o → Orders net w (elim o [ None ↦ unchanged w (line.RefusedFrame l.number k (length w.frames) ∷ []) | Some x ↦ deliver_frame net w x ])
    delivered k None e = still_orders net w (line.RefusedFrame l.number k (length w.frames) ∷ []) (λ q. tt)
    delivered k (Some x) e = delivering_orders net w x n f (frame_at_true net w k x f e)

    bytes_at : (k : ℕ) (o : Option Frame) → Orders net w (elim o [ None ↦ unchanged w (line.RefusedFrame l.number k (length w.frames) ∷ []) | Some x ↦ unchanged w (line.BytesOf k (frame_bytes x) ∷ []) ])
    bytes_at k None = still_orders net w (line.RefusedFrame l.number k (length w.frames) ∷ []) (λ q. tt)
    bytes_at k (Some x) = still_orders net w (line.BytesOf k (frame_bytes x) ∷ []) (λ q. tt)

    crashed : (b : ℕ) (q : Bool) → b < net.brokers → not_empty (net.subscribers_at b) ≡ q → Orders net w (elim q [ true ↦ unchanged w (line.RefusedHosts l.number b ∷ []) | false ↦ crash net w b ])
    crashed b true h e = still_orders net w (line.RefusedHosts l.number b ∷ []) (λ q. tt)
    crashed b false h e = crash_orders net w b e (crash_kept net w b n f h e)

    published : (p number : ℕ) (stop : Option Stop) (e : Event) → p < net.publishers → Orders net w (elim stop [ None ↦ publish_now net w p number e | Some s ↦ publish_stopped net w l.number p number s e ])
    published p number None e h = publishing_orders net w p number e n f h
    published p number (Some s) e h = stopped_orders net w l.number p number s e n f h (publish_stopped_kept net w l.number p number s e n f h)

    go : (s : Step) → StepIn net s → Orders net w (elim s [
      | step.Clock now ↦ unchanged (record { clock = now; most = max now w.most; frames = w.frames; views = w.views; logs = w.logs }) []
      | step.Publish p number stop e ↦ elim stop [ None ↦ publish_now net w p number e | Some s ↦ publish_stopped net w l.number p number s e ]
      | step.Wake b ↦ wake_all net w b
      | step.Deliver k ↦ elim (frame_at w k) [ None ↦ unchanged w (line.RefusedFrame l.number k (length w.frames) ∷ []) | Some f ↦ deliver_frame net w f ]
      | step.Crash b ↦ elim (not_empty (net.subscribers_at b)) [ true ↦ unchanged w (line.RefusedHosts l.number b ∷ []) | false ↦ crash net w b ]
      | step.Sweep ↦ sweep net w l.number
      | step.Show ↦ unchanged w (show net w)
      | step.Bytes k ↦ elim (frame_at w k) [ None ↦ unchanged w (line.RefusedFrame l.number k (length w.frames) ∷ []) | Some f ↦ unchanged w (line.BytesOf k (frame_bytes f) ∷ []) ]
      | step.Join s p ↦ join_now net w s p
    ])
    go (step.Clock now) h = clocked_orders net w now (max now w.most) (unchanged (clocked w now (max now w.most)) []) (still_orders net (clocked w now (max now w.most)) [] (λ q. tt))
    go (step.Publish p number stop e) h = published p number stop e h
    go (step.Wake b) h = (wake_all_chain net (Orders net) w b (orders_chain net n) n f h).holds
    go (step.Deliver k) h = delivered k (frame_at w k) refl
    go (step.Crash b) h = crashed b (not_empty (net.subscribers_at b)) h refl
    go step.Sweep h = sweep_orders net w l.number n f
    go step.Show h = still_orders net w (show net w) (show_free net w)
    go (step.Bytes k) h = bytes_at k (frame_at w k)
    go (step.Join s p) h = joining_orders net w s p n f h.0 h.1

-- a run of steps keeps the cut lines in order
pub run_orders : (net : Net) (w : World) (ls : List Line) → IsNet net → WorldFits net w → StepsIn net ls → Orders net w (run_all net w ls)
run_orders net w [] n f i = still_orders net w [] (λ q. tt)
run_orders net w (l ∷ ls) n f i =
    let k = next_kept net w l n f i.0 in
    orders_after net w (next net w l) (λ u. run_all net u ls) k (next_orders net w l n f i.0) (run_orders net (next net w l).world ls n k.fits i.1)
