-- A consolidated tick is final at its broker: each call that moves a horizon or stores an acknowledgement makes it so, and no call takes an F back
use Rattle.std.proofs.Common.{◌≡◌, ◌≢◌, inl, inr, ℕ, suc, ◌+◌, ◌≤◌, ◌<◌, max, Bool, true, false, ◌&&◌, ◌||◌, List, [], ◌∷◌, map, get_or, refl, sym, ap, ap₂, ◌∙◌, subst, arith}
use Rattle.std.specs.Prelude.{nat_le, if◌then◌else◌}
use Rattle.std.proofs.lemmas.Bool.{cases_eq, cases_lt, cases_Bool, false≢true, lt-leb}
use Rattle.std.proofs.lemmas.List.{get_or-set_other, get_or-set_same}
use Rattle.gr_event.specs.declared.event.Event.{Event}
use Rattle.gr_frame.specs.declared.Body.{Body}
use Rattle.gr_frame.specs.declared.Body.TheVariants as body
use Rattle.gr_frame.specs.declared.Frame.{Frame}
use Rattle.gr_know.specs.declared.values.K.{K}
use Rattle.gr_know.specs.declared.values.K.TheVariants.{Q, F}
use Rattle.gr_know.specs.Values.{Known, known_at, is_D}
use Rattle.gr_model.specs.Net.{Net, is_host, is_empty, keeps_horizon, not_empty, numbers}
use Rattle.gr_model.specs.Broker.{joining, View, Log, Outcome, empty_log, is_consolidated_by, all_A, publish, wake, receive, started, max_tick}
use Rattle.gr_model.specs.World.{join_now_by, World, blank_view, view_of, log_of, absorbed, restarted, start, wake_for_by, deliver_frame_by, publish_now_by}
use Rattle.gr_model_calls.specs.OneNet.{join_now, wake_for, deliver_frame, publish_now}
use Rattle.gr_model.specs.Tree.{IsNet}
use Rattle.gr_model_calls.specs.Rules.{TakesJoin, Forgets, Knows, Asks, HostWakes, Wakes, Publishes, Comes}
use Rattle.gr_model_calls.specs.Fits.{WorldFits, FrameTrue, reached_in}
use Rattle.gr_model_calls.proofs.rules.HostRules.{joins_rule, wakes_rule, publishes_rule, comes_rule}
use Rattle.gr_model_calls.proofs.rules.Views.{fits_view}
use Rattle.gr_model_calls.proofs.runs.Worlds.{Each, Changed, absorbed_changed}
use Rattle.gr_model_calls.proofs.runs.Schedules.{get_numbers, start_is}
use Rattle.gr_event.specs.Joins.{has_joined}
use Rattle.gr_model_calls.proofs.runs.Closed.{with_logs, IsClosed}

-- the consolidated ticks of a view are final
abbrev pub FinalTicks : Net → ℕ → ℕ → View → Type 0
FinalTicks net p b v = (t : ℕ) → is_consolidated_by (keeps_horizon net p b) v.horizon v.wants t ≡ true → known_at v.know t ≡ F

-- of every broker and publisher
abbrev pub AllFinal : Net → World → Type 0
AllFinal net w = (p b : ℕ) → p < net.publishers → b < net.brokers → FinalTicks net p b (view_of w b p)

-- Calls

-- what is final is not forgotten
pub forgets_final : (net : Net) (p b h t : ℕ) (full kept : Known) → Forgets net p b h full kept → known_at full t ≡ F → known_at kept t ≡ F
forgets_final net p b h t full kept f e = f.kept_is.each t ∙ go (known_at full t) e
  where
    go : (k : K) → k ≡ F → (if is_D k && nat_le t f.last then Q else k) ≡ F
    go k x = subst (λ j. (if is_D j && nat_le t f.last then Q else j) ≡ F) (sym x) refl

pub knows_final : (net : Net) (p b : ℕ) (at : ℕ → K) (u : View) → Knows net p b at u → FinalTicks net p b u
knows_final net p b at u k t c = forgets_final net p b u.horizon t k.full u.know k.forgets (k.full_is.each t ∙ ap (λ q. if q then F else at t) c)

asks_final : (net : Net) (p b now : ℕ) (wanted : ℕ → Bool) (more : List Frame) (v : View) (log : Log) (o : Outcome) → Asks net p b now wanted more v log o → FinalTicks net p b v → FinalTicks net p b o.view
asks_final net p b now wanted more v log o a h t c =
    forgets_final net p b v.horizon t v.know o.view.know a.know (h t (ap₂ (λ k ws. is_consolidated_by (keeps_horizon net p b) k ws t) (sym a.horizon) (sym a.wants) ∙ c))

host_final : (net : Net) (p b now : ℕ) (v : View) (log : Log) (o : Outcome) → HostWakes net p b now v log o → FinalTicks net p b v → FinalTicks net p b o.view
host_final net p b now v log o w h =
    subst (FinalTicks net p b) (sym w.view_same) (elim (cases_lt now (log.settled + net.quiet)) [
      | inl l ↦ subst (λ (u : Outcome). FinalTicks net p b u.view) (sym (w.stays l)) h
      | inr l ↦ knows_final net p b _ w.marked.view (w.marks l).know
    ])

wake_final : (net : Net) (p b now : ℕ) (v : View) (log : Log) (o : Outcome) → Wakes net p b now v log o → FinalTicks net p b v → FinalTicks net p b o.view
wake_final net p b now v log o w h =
    elim (cases_Bool (is_host net p b)) [
      | inl e ↦ host_final net p b now v log o (w.host e) h
      | inr e ↦ asks_final net p b now _ _ v log o (w.below e) h
    ]

publish_final : (net : Net) (p b now number : ℕ) (e : Event) (v : View) (log : Log) (o : Outcome) → Publishes net p b now number e v log o → FinalTicks net p b v → FinalTicks net p b o.view
publish_final net p b now number e v log o r h =
    elim (cases_lt log.last number) [
      | inr l ↦ subst (λ (u : Outcome). FinalTicks net p b u.view) (sym (r.already l)) h
      | inl l ↦ elim (cases_eq number (suc log.last)) [
        | inr n ↦ subst (λ (u : Outcome). FinalTicks net p b u.view) (sym (r.gap (omega (arith, above number (suc log.last) l n)))) h
        | inl e ↦ elim (cases_lt max_tick (max (suc log.settled) now)) [
          | inl m ↦ subst (λ (u : Outcome). FinalTicks net p b u.view) (sym (r.exhausted e m)) h
          | inr m ↦ subst (λ (u : Outcome). FinalTicks net p b u.view) (sym (r.logged e m)) (knows_final net p b _ r.learned.view (r.learns e m).know)
        ]
      ]
    ]
  where
    above : (a b : ℕ) → b ≤ a → a ≢ b → b < a
    above a b l n = elim (cases_lt b a) [
      | inl x ↦ x
      | inr x ↦ absurd (n (omega (arith, l, x)))
    ]

join_final : (net : Net) (p b now s : ℕ) (v : View) (log : Log) (o : Outcome) → TakesJoin net p b now s v log o → FinalTicks net p b v → FinalTicks net p b o.view
join_final net p b now s v log o r h =
    elim (cases_Bool (has_joined log.joins s)) [
      | inl e ↦ subst (λ (u : Outcome). FinalTicks net p b u.view) (sym (r.already e)) h
      | inr e ↦ elim (cases_lt max_tick (max (suc log.settled) now)) [
        | inl m ↦ subst (λ (u : Outcome). FinalTicks net p b u.view) (sym (r.exhausted e m)) h
        | inr m ↦ subst (λ (u : Outcome). FinalTicks net p b u.view) (sym (r.logged e m)) (knows_final net p b _ r.learned.view (r.learns e m).know)
      ]
    ]

comes_final : (net : Net) (p from to now : ℕ) (y : Body) (v : View) (log : Log) (o : Outcome) → Comes net p from to now y v log o → FinalTicks net p to v → FinalTicks net p to o.view
comes_final net p from to now (body.Knowledge runs js) v log o c h = knows_final net p to _ o.view c.know
comes_final net p from to now (body.Curiosity runs) v log o c h = knows_final net p to _ o.view c.know
comes_final net p from to now (body.Expect tick) v log o c h = asks_final net p to now _ _ v log o c.asks h

-- where nothing was acknowledged and the horizon is at 0, nothing is consolidated
started_final : (net : Net) (p b : ℕ) (log : Log) → FinalTicks net p b (started net p b log)
unfolding started
started_final net p b log t c = absurd (false≢true (sym (none (not_empty (net.subscribers_at b)) (net.children p b)) ∙ c))
  where
    none : (here : Bool) (cs : List ℕ) → is_consolidated_by (here || is_empty cs) 0 (map (λ _. []) cs) t ≡ false
    none true cs = zero_not t (all_A (map (λ _. []) cs) t)
      where
        zero_not : (t : ℕ) (q : Bool) → (nat_le 1 t && (false || nat_le t 0) && q) ≡ false
        zero_not t q = elim (cases_lt 0 t) [
          | inl l ↦ rw (lt-leb t 0 l) (left (nat_le 1 t) q)
          | inr l ↦ rw (lt-leb 1 t (omega (arith, l))) refl
        ]
          where
            left : (a q : Bool) → (a && false && q) ≡ false
            left true q = refl
            left false q = refl
    none false [] = zero_here t
      where
        zero_here : (t : ℕ) → (nat_le 1 t && nat_le t 0 && true) ≡ false
        zero_here t = elim (cases_lt 0 t) [
          | inl l ↦ rw (lt-leb t 0 l) (left (nat_le 1 t))
          | inr l ↦ rw (lt-leb 1 t (omega (arith, l))) refl
        ]
          where
            left : (a : Bool) → (a && false && true) ≡ false
            left true = refl
            left false = refl
    none false (x ∷ xs) = right (nat_le 1 t)
      where
        right : (a : Bool) → (a && true && false) ≡ false
        right true = refl
        right false = refl

-- Worlds

-- a call taken up
absorbed_final : (net : Net) (w : World) (b p : ℕ) (o : Outcome) → WorldFits net w → b < net.brokers → p < net.publishers → (FinalTicks net p b (view_of w b p) → FinalTicks net p b o.view) → AllFinal net w → AllFinal net (absorbed w b p o).world
absorbed_final net w b p o f i j k a q c x y =
    let u = (absorbed w b p o).world in
    let t : Changed net w u b p o = absorbed_changed net w b p o f i j in
    elim (cases_eq q p) [
      | inl e ↦ elim (cases_eq c b) [
        | inl g ↦ subst (λ z. FinalTicks net z c (view_of u c z)) (sym e) (subst (λ z. FinalTicks net p z (view_of u z p)) (sym g) (subst (FinalTicks net p b) (sym t.view) (k (a p b j i))))
        | inr g ↦ subst (FinalTicks net q c) (sym (t.other_broker c q g)) (a q c x y)
      ]
      | inr e ↦ subst (FinalTicks net q c) (sym (t.other_publisher c q e)) (a q c x y)
    ]

wake_for_final : (net : Net) → IsNet net → 1 ≤ net.quiet → (w : World) (b p : ℕ) → WorldFits net w → b < net.brokers → p < net.publishers → AllFinal net w → AllFinal net (wake_for net w b p).world
unfolding wake_for_by
wake_for_final net n z w b p f i j a =
    let o = wake net p b w.clock (view_of w b p) (log_of w p) in
    absorbed_final net w b p o f i j (wake_final net p b w.clock (view_of w b p) (log_of w p) o (wakes_rule net p b w.clock (view_of w b p) (log_of w p) n z j i (fits_view net w p b f j i))) a

deliver_final : (net : Net) → IsNet net → (w : World) (x : Frame) → WorldFits net w → FrameTrue net w x → AllFinal net w → AllFinal net (deliver_frame net w x).world
unfolding deliver_frame_by
deliver_final net n w x f t a =
    let p = x.head.publisher in
    let b = x.head.to in
    let o = receive net w.clock x (view_of w b p) (log_of w p) in
    absorbed_final net w b p o f t.fits.to_in t.publisher_in
    (comes_final net p x.head.from b w.clock x.body (view_of w b p) (log_of w p) o (comes_rule net w.clock x (view_of w b p) (log_of w p) (reached_in net w p) n t.publisher_in t.fits t.told (f.views p b t.publisher_in t.fits.to_in))) a

publish_now_final : (net : Net) → IsNet net → (w : World) (p number : ℕ) (e : Event) → WorldFits net w → p < net.publishers → AllFinal net w → AllFinal net (publish_now net w p number e).world
unfolding publish_now_by
publish_now_final net n w p number e f j a =
    let b = net.host p in
    let i = n.host_in p j in
    let o = publish net p b w.clock number e (view_of w b p) (log_of w p) in
    absorbed_final net w b p o f i j (publish_final net p b w.clock number e (view_of w b p) (log_of w p) o (publishes_rule net p b w.clock number e (view_of w b p) (log_of w p) n j i (fits_view net w p b f j i))) a

join_now_final : (net : Net) → IsNet net → (w : World) (s p : ℕ) → WorldFits net w → p < net.publishers → AllFinal net w → AllFinal net (join_now net w s p).world
unfolding join_now_by
join_now_final net n w s p f j a =
    let b = net.host p in
    let i = n.host_in p j in
    let o = joining net p b w.clock s (view_of w b p) (log_of w p) in
    absorbed_final net w b p o f i j (join_final net p b w.clock s (view_of w b p) (log_of w p) o (joins_rule net p b w.clock s (view_of w b p) (log_of w p) n j i (fits_view net w p b f j i))) a

restarted_final : (net : Net) (w : World) (logs : List Log) (b : ℕ) → WorldFits net w → b < net.brokers → AllFinal net w → AllFinal net (restarted net (with_logs w logs) b)
unfolding restarted
restarted_final net w logs b f i a q c x y =
    let g : ℕ → View = λ p. started net p b (get_or logs p empty_log) in
    let u = restarted net (with_logs w logs) b in
    elim (cases_eq c b) [
      | inl e ↦ subst (λ z. FinalTicks net q z (view_of u z q)) (sym e)
          (subst (FinalTicks net q b) (sym (ap (λ row. get_or row q blank_view) (get_or-set_same w.views b (map g (numbers net.publishers)) [] (omega (arith, f.views_long))) ∙ (get_numbers g 0 net.publishers q blank_view x ∙ ap g (omega arith)))) (started_final net q b (get_or logs q empty_log)))
      | inr e ↦ subst (FinalTicks net q c) (sym (ap (λ row. get_or row q blank_view) (get_or-set_other w.views b c (map g (numbers net.publishers)) [] e))) (a q c x y)
    ]

-- each part of a step keeps it
pub final_closed : (net : Net) → IsNet net → 1 ≤ net.quiet → IsClosed net (λ x. Unit {0}) (AllFinal net)
final_closed net n z = record {
  calls = record {
    sent = λ w a. each_frame w.frames;
    woken = λ w b p f i j a. wake_for_final net n z w b p f i j a;
    delivered = λ w x f t r a. deliver_final net n w x f t a;
  };
  published = λ w p number e f j a. publish_now_final net n w p number e f j a;
  joined = λ w s p f late j a. join_now_final net n w s p f j a;
  at_clock = λ w now f a. a;
  restarts = λ w logs b f i a. restarted_final net w logs b f i a;
}
  where
    each_frame : (fs : List Frame) → Each (λ x. Unit {0}) fs
    each_frame [] = tt
    each_frame (f ∷ fs) = (tt, each_frame fs)

-- brokers that have just started
pub all_started : (net : Net) (w : World) (logs : ℕ → Log) → ((p b : ℕ) → p < net.publishers → b < net.brokers → view_of w b p ≡ started net p b (logs p)) → AllFinal net w
all_started net w logs e p b j i = subst (FinalTicks net p b) (sym (e p b j i)) (started_final net p b (logs p))

-- at the start each consolidated tick is final, as there is none
pub start_final : (net : Net) → AllFinal net (start net)
start_final net = all_started net (start net) (λ p. empty_log) (λ p b j i. start_is net b p i j)
