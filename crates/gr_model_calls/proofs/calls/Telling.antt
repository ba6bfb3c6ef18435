-- Each call delivers to the subscribers at its broker exactly what is due between the
-- horizon before and after, since it delivers the data ticks that the horizon passes
use Rattle.std.proofs.Common.{◌≡◌, ◌⊎◌, inl, inr, ℕ, suc, ◌+◌, ◌≤◌, ◌<◌, max, Bool, true, false, ◌&&◌, ◌||◌, List, [], ◌∷◌, ◌++◌, map, refl, sym, ap, ap₂, ◌∙◌, subst, Option, Some, None, arith, le_refl, append-nil, append_assoc}
use Rattle.std.specs.Prelude.{nat_eq, nat_le, nat_lt, if◌then◌else◌, flat_map, filter}
use Rattle.std.specs.List.{list_any}
use Rattle.std.proofs.lemmas.Bool.{cases_Bool, cases_lt, cases_eq, false≢true, eq-eqb, ne_eqb, both_ways, leb-true, ltb-true, le-ltb, lt-leb, and_right, or_parts}
use Rattle.gr_event.specs.declared.event.Event.{Event}
use Rattle.gr_know.specs.declared.values.K.TheVariants.{Q}
use Rattle.gr_frame.specs.declared.Frame.{Frame}
use Rattle.gr_frame.specs.declared.Body.TheVariants as body
use Rattle.gr_frame.specs.declared.Body.{Body}
use Rattle.gr_model.specs.declared.report.Report.{Report}
use Rattle.gr_model.specs.declared.report.Report.TheVariants as line
use Rattle.gr_tick.specs.Runs.{zip_runs}
use Rattle.gr_know.specs.Values.{Known, join_K, same_K}
use Rattle.gr_curio.specs.Values.{Wanted}
use Rattle.gr_model.specs.Net.{Net, keeps_horizon, is_host}
use Rattle.gr_event.specs.Joins.{Joins, longer}
use Rattle.gr_model_calls.proofs.calls.Held.{own, both, fewer, grows_not}
use Rattle.gr_model.specs.Broker.{with_joins, with_join, drops, joining, View, Log, Outcome, data_ticks, got_line, delivery_lines, learn, wake_below, asking, expect, curiosity, receive, place_of, marking, cutting, cutting_lines, wake_host, wake, publish, silence, with_event, with_mark}
use Rattle.gr_model.specs.World.{sent_line, sent_lines}
use Rattle.gr_model.specs.Headline.{delivered_events, last_horizon, HorizonsRise}
use Rattle.gr_model_calls.specs.Truth.{Holds, HasEvent, Grows, KnowsTruth}
use Rattle.gr_model_calls.specs.Said.{said_at, TicksRise, due_upto, due_between}
use Rattle.gr_model_calls.specs.Steady.{Steady}
use Rattle.gr_model_calls.specs.Fits.{facts, LogFits, ViewTrue, BodyTrue}
use Rattle.gr_model.specs.Tree.{IsNet, IsDistinct}
use Rattle.gr_model_calls.proofs.calls.HostCases.{publish_cases, marking_cases, joining_cases, news_of}
use Rattle.gr_model_calls.proofs.calls.Calls.{learn_horizon, learn_log, trimmed_horizon, silence_true, later_facts, with_event_fits, with_mark_fits, said_more, nothing_true, marking_forgets, published_piece}
use Rattle.gr_model_calls.proofs.calls.Cutting.{cutting_same}
use Rattle.gr_model_calls.proofs.calls.Told.{told_is_due, Items, said_equal, filter-rises, said_at-filter, kept_by, TicksUpto, TicksRise-lower}
use Rattle.gr_model_calls.proofs.calls.CallTruth.{joined_true, horizon_after-is, learned_horizon, ViewTrue-later, ViewTrue-joins}

-- Lines one after another

-- what a subscriber got in two lists of lines is what it got in the first and then in the second
pub gots-append : (s p : ℕ) (xs ys : List Report) → delivered_events s p (xs ++ ys) ≡ delivered_events s p xs ++ delivered_events s p ys
gots-append s p [] ys = refl
gots-append s p (line.Got r q t e ∷ xs) ys =
    ap (λ zs. (if nat_eq r s && nat_eq q p then (t, e) ∷ [] else []) ++ zs) (gots-append s p xs ys)
    ∙ sym (append_assoc (if nat_eq r s && nat_eq q p then (t, e) ∷ [] else []) (delivered_events s p xs) (delivered_events s p ys))
gots-append s p (_ ∷ xs) ys = gots-append s p xs ys

-- the last horizon of two lists of lines is that of the second, from that of the first on
pub last_horizon-append : (s p n : ℕ) (xs ys : List Report) → last_horizon s p n (xs ++ ys) ≡ last_horizon s p (last_horizon s p n xs) ys
last_horizon-append s p n [] ys = refl
last_horizon-append s p n (line.Horizon r q t ∷ xs) ys = last_horizon-append s p (if nat_eq r s && nat_eq q p then t else n) xs ys
last_horizon-append s p n (_ ∷ xs) ys = last_horizon-append s p n xs ys

-- steady lines, and steady ones from where they end, are steady together
pub Steady-append : (s p n r : ℕ) (xs ys : List Report) → Steady s p n r xs → Steady s p (last_horizon s p n xs) (last_horizon s p n xs) ys → Steady s p n r (xs ++ ys)
Steady-append s p n r [] ys a b = subst (λ z. Steady s p n z ys) (sym a) b
Steady-append s p n r (line.Got q k t e ∷ xs) ys a b = (a.0, Steady-append s p n (if nat_eq q s && nat_eq k p then t else r) xs ys a.1 b)
Steady-append s p n r (line.Horizon q k t ∷ xs) ys a b = (a.0, Steady-append s p (if nat_eq q s && nat_eq k p then t else n) (if nat_eq q s && nat_eq k p then t else r) xs ys a.1 b)
Steady-append s p n r (_ ∷ xs) ys a b = Steady-append s p n r xs ys a b

-- the horizons of steady lines rise
pub steady_rises : (s p n r : ℕ) (ls : List Report) → Steady s p n r ls → HorizonsRise s p n ls
steady_rises s p n r [] a = tt
steady_rises s p n r (line.Got q k t e ∷ ls) a = steady_rises s p n (if nat_eq q s && nat_eq k p then t else r) ls a.1
steady_rises s p n r (line.Horizon q k t ∷ ls) a = (λ x. (a.0 x).0, steady_rises s p (if nat_eq q s && nat_eq k p then t else n) (if nat_eq q s && nat_eq k p then t else r) ls a.1)
steady_rises s p n r (_ ∷ ls) a = steady_rises s p n r ls a

-- lines that tell s nothing of p
pub record Neutral (s p : ℕ) (ls : List Report) : Type 0 where
  pub got : delivered_events s p ls ≡ []
  pub horizon : (n : ℕ) → last_horizon s p n ls ≡ n
  pub steady : (n : ℕ) → Steady s p n n ls

-- two lists of lines that tell a subscriber nothing of a publisher tell it nothing together
pub Neutral-append : (s p : ℕ) (xs ys : List Report) → Neutral s p xs → Neutral s p ys → Neutral s p (xs ++ ys)
Neutral-append s p xs ys a b = record {
  got = gots-append s p xs ys ∙ ap₂ (λ u v. u ++ v) a.got b.got;
  horizon = λ n. last_horizon-append s p n xs ys ∙ (b.horizon (last_horizon s p n xs) ∙ a.horizon n);
  steady = λ n. Steady-append s p n n xs ys (a.steady n) (b.steady (last_horizon s p n xs));
}

-- no lines tell nothing
pub Neutral-nil : (s p : ℕ) → Neutral s p []
Neutral-nil s p = record { got = refl; horizon = λ n. refl; steady = λ n. refl }

-- sent lines tell no subscriber anything
pub sent_lines_neutral : (s p n : ℕ) (fs : List Frame) → Neutral s p (sent_lines n fs)
unfolding sent_line
sent_lines_neutral s p n [] = Neutral-nil s p
sent_lines_neutral s p n (f ∷ fs) = Neutral-append s p (sent_line n f ∷ []) (sent_lines (suc n) fs) (one f.body) (sent_lines_neutral s p (suc n) fs)
  where
    one : (y : Body) → Neutral s p ((elim y [ body.Knowledge runs js ↦ line.SentKnow n f.head.from f.head.to f.head.publisher runs js | body.Curiosity runs ↦ line.SentWant n f.head.from f.head.to f.head.publisher runs | body.Expect tick ↦ line.SentExpect n f.head.from f.head.to f.head.publisher tick ]) ∷ [])
    one (body.Knowledge runs js) = record { got = refl; horizon = λ n. refl; steady = λ n. refl }
    one (body.Curiosity runs) = record { got = refl; horizon = λ n. refl; steady = λ n. refl }
    one (body.Expect tick) = record { got = refl; horizon = λ n. refl; steady = λ n. refl }

-- what a call at b for p, that moves the horizon from h to h', tells
pub record DeliversUpto (net : Net) (p b h h' : ℕ) (events : Items) (ls : List Report) : Type 0 where
  pub got : (s : ℕ) → list_any (λ x. nat_eq x s) (net.subscribers_at b) ≡ true → delivered_events s p ls ≡ due_between net p s h h' events
  pub horizon : (s : ℕ) → list_any (λ x. nat_eq x s) (net.subscribers_at b) ≡ true → last_horizon s p h ls ≡ h'
  pub steady : (s : ℕ) → list_any (λ x. nat_eq x s) (net.subscribers_at b) ≡ true → Steady s p h h ls
  pub elsewhere : (s q : ℕ) → (q ≡ p → list_any (λ x. nat_eq x s) (net.subscribers_at b) ≡ false) → Neutral s q ls

due_nothing : (net : Net) (p s h : ℕ) (events : Items) → due_between net p s h h events ≡ []
due_nothing net p s h [] = refl
due_nothing net p s h (x ∷ xs) = rw (none x.0) (due_nothing net p s h xs)
  where
    none : (t : ℕ) → (nat_lt h t && nat_le t h) ≡ false
    none t =
        elim (cases_lt h t) [
          | inl k ↦ rw (lt-leb t h k) (and_right (nat_lt h t) false refl)
          | inr k ↦ rw (le-ltb h t k) refl
        ]

-- Got lines of one subscriber

got_same : (s p : ℕ) (xs : Items) → delivered_events s p (map (got_line s p) xs) ≡ xs
got_same s p [] = refl
got_same s p (x ∷ xs) = rw (eq-eqb s s refl, eq-eqb p p refl) (ap (λ zs. x ∷ zs) (got_same s p xs))

got_neutral : (s p r q : ℕ) (xs : Items) → (nat_eq r s && nat_eq q p) ≡ false → Neutral s p (map (got_line r q) xs)
got_neutral s p r q xs e = record { got = go xs; horizon = λ n. flat xs n; steady = λ n. up xs n }
  where
    go : (ys : Items) → delivered_events s p (map (got_line r q) ys) ≡ []
    go [] = refl
    go (y ∷ ys) = rw e (go ys)

    flat : (ys : Items) (n : ℕ) → last_horizon s p n (map (got_line r q) ys) ≡ n
    flat [] n = refl
    flat (y ∷ ys) n = flat ys n

    up : (ys : Items) (n : ℕ) → Steady s p n n (map (got_line r q) ys)
    up [] n = refl
    up (y ∷ ys) n = (λ x. absurd (both_ways (nat_eq r s && nat_eq q p) e x), subst (λ c. Steady s p n (if c then y.0 else n) (map (got_line r q) ys)) (sym e) (up ys n))

got_flat : (s p r q n : ℕ) (xs : Items) → last_horizon s p n (map (got_line r q) xs) ≡ n
got_flat s p r q n [] = refl
got_flat s p r q n (x ∷ xs) = got_flat s p r q n xs

-- what one subscriber is told
told_got : (net : Net) (p h h' s : ℕ) (items : Items) (due : Items) → filter (λ x. net.wants p s x.0 x.1) items ≡ due → (h ≡ h' → due ≡ []) → delivered_events s p (delivery_lines net p h h' items s) ≡ due
unfolding delivery_lines
told_got net p h h' s items due e z =
    elim (cases_eq h h') [
      | inl k ↦ rw (eq-eqb h h' k) (sym (z k))
      | inr k ↦ rw (ne_eqb h h' k) (gots-append s p (map (got_line s p) (filter (λ x. net.wants p s x.0 x.1) items)) (line.Horizon s p h' ∷ []) ∙ (append-nil (delivered_events s p (map (got_line s p) (filter (λ x. net.wants p s x.0 x.1) items))) ∙ (got_same s p (filter (λ x. net.wants p s x.0 x.1) items) ∙ e)))
    ]

told_horizon : (net : Net) (p h h' s : ℕ) (items : Items) → last_horizon s p h (delivery_lines net p h h' items s) ≡ h'
unfolding delivery_lines
told_horizon net p h h' s items =
    elim (cases_eq h h') [
      | inl k ↦ rw (eq-eqb h h' k) k
      | inr k ↦ rw (ne_eqb h h' k) (last_horizon-append s p h (map (got_line s p) (filter (λ x. net.wants p s x.0 x.1) items)) (line.Horizon s p h' ∷ []) ∙ rw (eq-eqb s s refl, eq-eqb p p refl) refl)
    ]

own_test : (s p : ℕ) → (nat_eq s s && nat_eq p p) ≡ true
own_test s p = ap₂ (λ a b. a && b) (eq-eqb s s refl) (eq-eqb p p refl)

-- events that rise past what was got or heard, and then a horizon that is past them all
gots_then_horizon : (s p n r h : ℕ) (xs : Items) → n < h → r ≤ h → TicksRise r xs → TicksUpto h xs → Steady s p n r (map (got_line s p) xs ++ line.Horizon s p h ∷ [])
gots_then_horizon s p n r h [] l k a b = (λ x. (l, k), rw (eq-eqb s s refl, eq-eqb p p refl) refl)
gots_then_horizon s p n r h (x ∷ xs) l k a b =
    (λ y. a.0, subst (λ c. Steady s p n (if c then x.0 else r) (map (got_line s p) xs ++ line.Horizon s p h ∷ [])) (sym (own_test s p)) (gots_then_horizon s p n x.0 h xs l b.0 a.1 b.1))

-- events that are due between two horizons rise from the first and do not pass the second
due_rises : (net : Net) (p s lo hi from : ℕ) (events : Items) → TicksRise from events → TicksRise (max from lo) (due_between net p s lo hi events) × TicksUpto hi (due_between net p s lo hi events)
due_rises net p s lo hi from [] r = (tt, tt)
due_rises net p s lo hi from (x ∷ xs) r = go (nat_lt lo x.0) (nat_le x.0 hi) (net.wants p s x.0 x.1) refl refl (due_rises net p s lo hi x.0 xs r.1)
  where
    rest : Items
    rest = due_between net p s lo hi xs

    lower : TicksRise (max x.0 lo) rest × TicksUpto hi rest → TicksRise (max from lo) rest × TicksUpto hi rest
    lower a = (let k = r.0 in TicksRise-lower (max from lo) (max x.0 lo) rest (omega (arith, k)) a.0, a.1)

    go : (u v c : Bool) → nat_lt lo x.0 ≡ u → nat_le x.0 hi ≡ v → TicksRise (max x.0 lo) rest × TicksUpto hi rest → TicksRise (max from lo) (if (u && v) && c then x ∷ rest else rest) × TicksUpto hi (if (u && v) && c then x ∷ rest else rest)
    go true true true y z a =
        let past = ltb-true lo x.0 y in let upto = leb-true x.0 hi z in let k = r.0 in
        let same : max x.0 lo ≡ x.0 = omega (arith, past) in
        ((omega (arith, past, k), subst (λ m. TicksRise m rest) same a.0), (upto, a.1))
    go true true false y z a = lower a
    go true false c y z a = lower a
    go false v c y z a = lower a

told_steady : (net : Net) (p h h' s : ℕ) (items due : Items) → h ≤ h' → filter (λ x. net.wants p s x.0 x.1) items ≡ due → TicksRise h due → TicksUpto h' due → Steady s p h h (delivery_lines net p h h' items s)
unfolding delivery_lines
told_steady net p h h' s items due l e a b =
    elim (cases_eq h h') [
      | inl k ↦ rw (eq-eqb h h' k) refl
      | inr k ↦ rw (ne_eqb h h' k) (subst (λ zs. Steady s p h h (map (got_line s p) zs ++ line.Horizon s p h' ∷ [])) (sym e) (gots_then_horizon s p h h h' due (omega (arith, k, l)) l a b))
    ]

told_neutral : (net : Net) (p h h' r s q : ℕ) (items : Items) → (nat_eq r s && nat_eq p q) ≡ false → Neutral s q (delivery_lines net p h h' items r)
unfolding delivery_lines
told_neutral net p h h' r s q items e =
    elim (cases_Bool (nat_eq h h')) [
      | inl k ↦ rw k (Neutral-nil s q)
      | inr k ↦ rw k (Neutral-append s q (map (got_line r p) (filter (λ x. net.wants p r x.0 x.1) items)) (line.Horizon r p h' ∷ []) (got_neutral s q r p (filter (λ x. net.wants p r x.0 x.1) items) e) (record { got = refl; horizon = λ n. rw e refl; steady = λ n. (λ x. absurd (both_ways (nat_eq r s && nat_eq p q) e x), refl) }))
    ]

-- what all subscribers of a broker are told
all_neutral : (net : Net) (p h h' s q : ℕ) (items : Items) (xs : List ℕ) → (q ≡ p → list_any (λ x. nat_eq x s) xs ≡ false) → Neutral s q (flat_map (delivery_lines net p h h' items) xs)
all_neutral net p h h' s q items [] n = Neutral-nil s q
all_neutral net p h h' s q items (x ∷ xs) n =
    Neutral-append s q (delivery_lines net p h h' items x) (flat_map (delivery_lines net p h h' items) xs)
    (told_neutral net p h h' x s q items (elim (cases_eq p q) [
      | inl e ↦ ap (λ b. b && nat_eq p q) (or_parts (nat_eq x s) (list_any (λ y. nat_eq y s) xs) (n (sym e))).0
      | inr e ↦ and_right (nat_eq x s) (nat_eq p q) (ne_eqb p q e)
    ]))
    (all_neutral net p h h' s q items xs (λ e. (or_parts (nat_eq x s) (list_any (λ y. nat_eq y s) xs) (n e)).1))

all_got : (net : Net) (p h h' s : ℕ) (items due : Items) (xs : List ℕ) → IsDistinct xs → list_any (λ x. nat_eq x s) xs ≡ true → h ≤ h' → filter (λ x. net.wants p s x.0 x.1) items ≡ due → (h ≡ h' → due ≡ []) → TicksRise h due → TicksUpto h' due →
    (delivered_events s p (flat_map (delivery_lines net p h h' items) xs) ≡ due) × (last_horizon s p h (flat_map (delivery_lines net p h h' items) xs) ≡ h') × Steady s p h h (flat_map (delivery_lines net p h h' items) xs)
all_got net p h h' s items due [] d m l e z a b = absurd (false≢true m)
all_got net p h h' s items due (x ∷ xs) d m l e z a b =
    elim (cases_eq x s) [
      | inl k ↦
          let rest = all_neutral net p h h' s p items xs (λ _. subst (λ y. list_any (λ a. nat_eq a y) xs ≡ false) k d.0) in (
            gots-append s p (delivery_lines net p h h' items x) (flat_map (delivery_lines net p h h' items) xs) ∙ (ap₂ (λ u v. u ++ v) (subst (λ y. delivered_events s p (delivery_lines net p h h' items y) ≡ due) (sym k) (told_got net p h h' s items due e z)) rest.got ∙ append-nil due),
            last_horizon-append s p h (delivery_lines net p h h' items x) (flat_map (delivery_lines net p h h' items) xs) ∙ (rest.horizon (last_horizon s p h (delivery_lines net p h h' items x)) ∙ subst (λ y. last_horizon s p h (delivery_lines net p h h' items y) ≡ h') (sym k) (told_horizon net p h h' s items)),
            Steady-append s p h h (delivery_lines net p h h' items x) (flat_map (delivery_lines net p h h' items) xs) (subst (λ y. Steady s p h h (delivery_lines net p h h' items y)) (sym k) (told_steady net p h h' s items due l e a b)) (rest.steady (last_horizon s p h (delivery_lines net p h h' items x))),
          )
      | inr k ↦
          let first = told_neutral net p h h' x s p items (ap (λ b. b && nat_eq p p) (ne_eqb x s k)) in
          let rest = all_got net p h h' s items due xs d.1 (subst (λ b. (b || list_any (λ a. nat_eq a s) xs) ≡ true) (ne_eqb x s k) m) l e z a b in (
            gots-append s p (delivery_lines net p h h' items x) (flat_map (delivery_lines net p h h' items) xs) ∙ (ap (λ u. u ++ delivered_events s p (flat_map (delivery_lines net p h h' items) xs)) first.got ∙ rest.0),
            last_horizon-append s p h (delivery_lines net p h h' items x) (flat_map (delivery_lines net p h h' items) xs) ∙ (ap (λ n. last_horizon s p n (flat_map (delivery_lines net p h h' items) xs)) (first.horizon h) ∙ rest.1),
            Steady-append s p h h (delivery_lines net p h h' items x) (flat_map (delivery_lines net p h h' items) xs) (first.steady h) (subst (λ n. Steady s p n n (flat_map (delivery_lines net p h h' items) xs)) (sym (first.horizon h)) rest.2),
          )
    ]

-- learning tells exactly what is due
pub learn_tells : (net : Net) (p b : ℕ) (piece : Known) (v : View) (log : Log) (reached : ℕ → ℕ) → IsNet net → p < net.publishers → b < net.brokers → LogFits log → ViewTrue net (facts log reached) p b v → KnowsTruth net (facts log reached) p b piece → ((s : ℕ) → list_any (λ x. nat_eq x s) (net.subscribers_at b) ≡ true → reached s ≡ v.horizon) → DeliversUpto net p b v.horizon (learned_horizon net p b piece v) log.events (learn net p b piece v log).lines
unfolding learn
learn_tells net p b piece v log reached n i j fit h k exact =
    let f = facts log reached in
    let know = zip_runs Q Q Q same_K join_K v.know piece in
    let t = joined_true net f p b v.know piece h.know k in
    let h' = learned_horizon net p b piece v in
    let moves = horizon_after-is net f p b (keeps_horizon net p b) v.horizon know t h.horizon.settled in
    let items = data_ticks v.horizon h' know in
    let here = λ (s : ℕ) (m : list_any (λ x. nat_eq x s) (net.subscribers_at b) ≡ true).
    all_got net p v.horizon h' s items (due_between net p s v.horizon h' log.events) (net.subscribers_at b) (n.distinct b j) m moves.on
    (told_is_due net f p b s v.horizon h' know log.events t moves.known (n.here_below p b s i j m) (exact s m) fit.rise (λ u. refl))
    (λ e. subst (λ z. due_between net p s v.horizon z log.events ≡ []) e (due_nothing net p s v.horizon log.events))
    (let zero : max 0 v.horizon ≡ v.horizon = omega arith in subst (λ m. TicksRise m (due_between net p s v.horizon h' log.events)) zero (due_rises net p s v.horizon h' 0 log.events fit.rise).0) (due_rises net p s v.horizon h' 0 log.events fit.rise).1 in
    record {
      got = λ s m. (here s m).0;
      horizon = λ s m. (here s m).1;
      steady = λ s m. (here s m).2;
      elsewhere = λ s q a. all_neutral net p v.horizon h' s q items (net.subscribers_at b) a;
    }

-- What each call tells

-- a call delivers to the subscribers at its broker exactly what is due between its two horizons
abbrev pub CallTells : Net → ℕ → ℕ → View → Outcome → Type 0
CallTells net p b v o = DeliversUpto net p b v.horizon o.view.horizon o.log.events o.lines

-- lines that tell nobody anything
abbrev pub Silent : List Report → Type 0
Silent ls = (s q : ℕ) → Neutral s q ls

Tells-silent : (net : Net) (p b h h' : ℕ) (events : Items) (ls : List Report) → h ≡ h' → Silent ls → DeliversUpto net p b h h' events ls
Tells-silent net p b h h' events ls e n = subst (λ z. DeliversUpto net p b h z events ls) e (record {
  got = λ s m. (n s p).got ∙ sym (due_nothing net p s h events);
  horizon = λ s m. (n s p).horizon h;
  steady = λ s m. (n s p).steady h;
  elsewhere = λ s q a. n s q;
})

-- silent lines before
Tells-before : (net : Net) (p b h h' : ℕ) (events : Items) (pre ls : List Report) → Silent pre → DeliversUpto net p b h h' events ls → DeliversUpto net p b h h' events (pre ++ ls)
Tells-before net p b h h' events pre ls n t = record {
  got = λ s m. gots-append s p pre ls ∙ (ap (λ z. z ++ delivered_events s p ls) (n s p).got ∙ t.got s m);
  horizon = λ s m. last_horizon-append s p h pre ls ∙ (ap (λ z. last_horizon s p z ls) ((n s p).horizon h) ∙ t.horizon s m);
  steady = λ s m. Steady-append s p h h pre ls ((n s p).steady h) (subst (λ z. Steady s p z z ls) (sym ((n s p).horizon h)) (t.steady s m));
  elsewhere = λ s q a. Neutral-append s q pre ls (n s q) (t.elsewhere s q a);
}

nil_silent : Silent []
nil_silent s q = Neutral-nil s q

abbrev Exact : Net → ℕ → View → (ℕ → ℕ) → Type 0
Exact net b v reached = (s : ℕ) → list_any (λ x. nat_eq x s) (net.subscribers_at b) ≡ true → reached s ≡ v.horizon

learn_call_tells : (net : Net) (p b : ℕ) (piece : Known) (v : View) (log : Log) (reached : ℕ → ℕ) → IsNet net → p < net.publishers → b < net.brokers → LogFits log → ViewTrue net (facts log reached) p b v → KnowsTruth net (facts log reached) p b piece → Exact net b v reached → CallTells net p b v (learn net p b piece v log)
learn_call_tells net p b piece v log reached n i j fit h k exact =
    subst (λ z. DeliversUpto net p b v.horizon z (learn net p b piece v log).log.events (learn net p b piece v log).lines) (sym (learn_horizon net p b piece v log))
    (subst (λ l. DeliversUpto net p b v.horizon (learned_horizon net p b piece v) l.events (learn net p b piece v log).lines) (sym (learn_log net p b piece v log)) (learn_tells net p b piece v log reached n i j fit h k exact))

wake_below_tells : (net : Net) (p b now : ℕ) (v : View) (log : Log) → CallTells net p b v (wake_below net p b now v log)
unfolding wake_below asking
wake_below_tells net p b now v log = Tells-silent net p b v.horizon _ log.events [] (sym (trimmed_horizon net p b _)) nil_silent

expect_tells : (net : Net) (p b now tick : ℕ) (v : View) (log : Log) → CallTells net p b v (expect net p b now tick v log)
unfolding expect asking
expect_tells net p b now tick v log = Tells-silent net p b v.horizon _ log.events [] (sym (trimmed_horizon net p b _)) nil_silent

curiosity_tells : (net : Net) (p b now c i : ℕ) (piece : Wanted) (v : View) (log : Log) → CallTells net p b v (curiosity net p b now c i piece v log)
unfolding curiosity
curiosity_tells net p b now c i piece v log = Tells-silent net p b v.horizon _ log.events [] (sym (trimmed_horizon net p b _)) nil_silent

still_tells : (net : Net) (p b : ℕ) (v : View) (log : Log) (ls : List Report) → Silent ls → CallTells net p b v (record { view = v; log = log; lines = ls; frames = [] })
still_tells net p b v log ls n = Tells-silent net p b v.horizon v.horizon log.events ls refl n

-- receiving a frame delivers exactly what is due between the horizon before and after
pub receive_tells : (net : Net) (now : ℕ) (f : Frame) (v : View) (log : Log) (reached : ℕ → ℕ) → IsNet net → f.head.publisher < net.publishers → f.head.to < net.brokers → BodyTrue net (facts log reached) f.head.publisher f.head.from f.head.to f.body → LogFits log → ViewTrue net (facts log reached) f.head.publisher f.head.to v → Exact net f.head.to v reached → CallTells net f.head.publisher f.head.to v (receive net now f v log)
unfolding receive
receive_tells net now f v log reached n i j delivery_lines fit h exact = go f.body delivery_lines
  where
    learned : (runs : Known) (js : Joins) → KnowsTruth net (facts log reached) f.head.publisher f.head.to runs × Holds log.joins js (HasEvent runs) → (q : Bool) → (let o : Outcome = elim q [ true ↦ record { view = v; log = log; lines = []; frames = [] } | false ↦ learn net f.head.publisher f.head.to runs (with_joins v (longer v.joins js)) log ] in CallTells net f.head.publisher f.head.to v o)
    learned runs js k true = still_tells net f.head.publisher f.head.to v log [] nil_silent
    learned runs js k false = learn_call_tells net f.head.publisher f.head.to runs (with_joins v (longer v.joins js)) log reached n i j fit
        (ViewTrue-joins net (facts log reached) f.head.publisher f.head.to v (longer v.joins js) h (fewer log.joins (longer v.joins js) (λ t. HasEvent v.know t ⊎ HasEvent runs t) (HasEvent v.know) (λ t x. inl x) (both log.joins v.joins js (HasEvent v.know) (HasEvent runs) h.held k.1))) k.0 exact

    go : (y : Body) → BodyTrue net (facts log reached) f.head.publisher f.head.from f.head.to y → (let o : Outcome = elim y [
      | body.Knowledge runs js ↦ elim (drops v runs js) [ true ↦ record { view = v; log = log; lines = []; frames = [] } | false ↦ learn net f.head.publisher f.head.to runs (with_joins v (longer v.joins js)) log ]
      | body.Curiosity runs ↦ curiosity net f.head.publisher f.head.to now f.head.from (place_of f.head.from (net.children f.head.publisher f.head.to)) runs v log
      | body.Expect tick ↦ expect net f.head.publisher f.head.to now tick v log
    ] in CallTells net f.head.publisher f.head.to v o)
    go (body.Knowledge runs js) t = learned runs js t (drops v runs js)
    go (body.Curiosity runs) t = curiosity_tells net f.head.publisher f.head.to now f.head.from (place_of f.head.from (net.children f.head.publisher f.head.to)) runs v log
    go (body.Expect tick) t = expect_tells net f.head.publisher f.head.to now tick v log

marking_tells : (net : Net) (p b now : ℕ) (v : View) (log : Log) (reached : ℕ → ℕ) → IsNet net → p < net.publishers → b < net.brokers → is_host net p b ≡ true → LogFits log → ViewTrue net (facts log reached) p b v → Exact net b v reached → CallTells net p b v (marking net p b now v log)
marking_tells net p b now v log reached n i j host fit h exact =
    marking_cases net p b now v log (CallTells net p b v)
    (λ e.
    let l : log.settled ≤ now = omega (arith, leb-true (log.settled + net.quiet) now e) in
    learn_call_tells net p b (silence (suc log.settled) now []) v (with_mark log now) reached n i j (with_mark_fits log now fit l)
    (ViewTrue-later net (facts log reached) (facts (with_mark log now) reached) p b v (later_facts log (with_mark log now) reached reached l (λ t x. refl) (λ s. le_refl (reached s)) (grows_not log.joins log.settled)) h)
    (silence_true net (facts (with_mark log now) reached) p b (suc log.settled) now [] (omega arith) (le_refl now) (λ t x y. fit.past t x) (nothing_true net (facts (with_mark log now) reached) p b) tt tt) exact)
    (λ e. still_tells net p b v log [] nil_silent)

if_silent : (q : Bool) (l : Report) → Silent (l ∷ []) → Silent (if q then l ∷ [] else [])
if_silent true l n = n
if_silent false l n = nil_silent

cutting_silent : (p : ℕ) (log new : Log) → Silent (cutting_lines p log new)
cutting_silent p log new = go (nat_lt log.cut new.cut) (nat_lt log.generation new.generation)
  where
    go : (q r : Bool) → Silent (if q then line.Cut p new.cut ∷ (if r then line.Reclaimed p new.generation ∷ [] else []) else [])
    go true true = λ x q. record { got = refl; horizon = λ n. refl; steady = λ n. refl }
    go true false = λ x q. record { got = refl; horizon = λ n. refl; steady = λ n. refl }
    go false r = nil_silent

wake_host_tells : (net : Net) (p b now : ℕ) (v : View) (log : Log) (reached : ℕ → ℕ) → IsNet net → p < net.publishers → b < net.brokers → is_host net p b ≡ true → LogFits log → ViewTrue net (facts log reached) p b v → Exact net b v reached → CallTells net p b v (wake_host net p b now v log)
unfolding wake_host
wake_host_tells net p b now v log reached n i j host fit h exact =
    let o = marking net p b now v log in
    let s = cutting_same net p b o.view o.log (marking_forgets net p b now v log ∙ fit.keeps) in
    let mark : List Report = if nat_lt log.settled o.log.settled then line.Mark p now ∷ [] else [] in
    let cut : List Report = cutting_lines p o.log (cutting net p b o.view o.log) in
    subst (λ z. DeliversUpto net p b v.horizon o.view.horizon z (wake_host net p b now v log).lines) (sym s.events)
    (Tells-before net p b v.horizon o.view.horizon o.log.events (mark ++ cut) o.lines
    (λ x q. Neutral-append x q mark cut (if_silent (nat_lt log.settled o.log.settled) (line.Mark p now) (λ x q. record { got = refl; horizon = λ n. refl; steady = λ n. refl }) x q) (cutting_silent p o.log (cutting net p b o.view o.log) x q))
    (marking_tells net p b now v log reached n i j host fit h exact))

-- a wake delivers exactly what is due between the horizon before and after
pub wake_tells : (net : Net) (p b now : ℕ) (v : View) (log : Log) (reached : ℕ → ℕ) → IsNet net → p < net.publishers → b < net.brokers → LogFits log → ViewTrue net (facts log reached) p b v → Exact net b v reached → CallTells net p b v (wake net p b now v log)
unfolding wake
wake_tells net p b now v log reached n i j fit h exact = go (is_host net p b) refl
  where
    go : (q : Bool) → is_host net p b ≡ q → (let o : Outcome = elim q [ true ↦ wake_host net p b now v log | false ↦ wake_below net p b now v log ] in CallTells net p b v o)
    go true e = wake_host_tells net p b now v log reached n i j e fit h exact
    go false e = wake_below_tells net p b now v log

-- a publish delivers exactly what is due between the horizon before and after
pub publish_tells : (net : Net) (p b now number : ℕ) (e : Event) (v : View) (log : Log) (reached : ℕ → ℕ) → IsNet net → p < net.publishers → b < net.brokers → is_host net p b ≡ true → LogFits log → ViewTrue net (facts log reached) p b v → Exact net b v reached → CallTells net p b v (publish net p b now number e v log)
publish_tells net p b now number e v log reached n i j host fit h exact =
    publish_cases net p b now number e v log (CallTells net p b v)
    (λ l. still_tells net p b v log _ (λ s q. record { got = refl; horizon = λ n. refl; steady = λ n. refl }))
    (λ l. still_tells net p b v log _ (λ s q. record { got = refl; horizon = λ n. refl; steady = λ n. refl }))
    (λ x l. still_tells net p b v log _ (λ s q. record { got = refl; horizon = λ n. refl; steady = λ n. refl }))
    (λ x l.
    Tells-before net p b v.horizon o.view.horizon o.log.events (line.Logged p number tick ∷ []) o.lines (λ s q. record { got = refl; horizon = λ n. refl; steady = λ n. refl })
    (learn_call_tells net p b (news_of log tick e) v new reached n i j (with_event_fits log tick e fit (omega arith))
    (ViewTrue-later net (facts log reached) (facts new reached) p b v (later_facts log new reached reached (omega arith) (λ t x. said_more log.events tick t e (λ q. omega (arith, q))) (λ s. le_refl (reached s)) (grows_not log.joins log.settled)) h)
    (published_piece net p b tick e log reached host fit (omega arith)) exact))
  where
    tick : ℕ
    tick = max (suc log.settled) now

    new : Log
    new = with_event log tick e

    o : Outcome
    o = learn net p b (news_of log tick e) v new

-- a join delivers exactly what is due between the horizon before and after
pub joining_tells : (net : Net) (p b now s : ℕ) (v : View) (log : Log) (reached : ℕ → ℕ) → IsNet net → p < net.publishers → b < net.brokers → LogFits log → ViewTrue net (facts log reached) p b v → Exact net b v reached → CallTells net p b v (joining net p b now s v log)
joining_tells net p b now s v log reached n i j fit h exact =
    joining_cases net p b now s v log (CallTells net p b v)
    (λ e. still_tells net p b v log _ (λ x q. record { got = refl; horizon = λ n. refl; steady = λ n. refl }))
    (λ e l. still_tells net p b v log _ (λ x q. record { got = refl; horizon = λ n. refl; steady = λ n. refl }))
    (λ e l.
    let grows : Grows log.joins new.joins log.settled = (record { subscriber = s; tick = tick } ∷ [], refl, (omega arith, tt)) in
    Tells-before net p b v.horizon o.view.horizon o.log.events (line.Joined s p tick ∷ []) o.lines (λ x q. record { got = refl; horizon = λ n. refl; steady = λ n. refl })
    (learn_call_tells net p b (silence (suc log.settled) tick []) (with_joins v new.joins) new reached n i j (record { rise = fit.rise; past = λ t x. fit.past t (omega arith); cut = omega (arith, fit.cut); keeps = fit.keeps })
    (ViewTrue-joins net (facts new reached) p b v new.joins (ViewTrue-later net (facts log reached) (facts new reached) p b v (later_facts log new reached reached (omega arith) (λ t x. refl) (λ s. le_refl (reached s)) grows) h) (own new.joins (HasEvent v.know)))
    (silence_true net (facts new reached) p b (suc log.settled) tick [] (omega arith) (le_refl tick) (λ t x y. fit.past t x) (nothing_true net (facts new reached) p b) tt tt) exact))
  where
    tick : ℕ
    tick = max (suc log.settled) now

    new : Log
    new = with_join log tick s

    o : Outcome
    o = learn net p b (silence (suc log.settled) tick []) (with_joins v new.joins) new

-- what is due up to a settled tick does not change
pub due_upto_same : (net : Net) (p s h : ℕ) (xs ys : Items) → TicksRise 0 xs → TicksRise 0 ys → ((t : ℕ) → t ≤ h → said_at xs t ≡ said_at ys t) → due_upto net p s h xs ≡ due_upto net p s h ys
due_upto_same net p s h xs ys a b e =
    let test = λ (x : ℕ × Event). nat_le x.0 h && net.wants p s x.0 x.1 in
    said_equal 0 0 (filter test xs) (filter test ys) (filter-rises test 0 xs a) (filter-rises test 0 ys b)
    (λ t. said_at-filter test 0 xs t a ∙ (at t (cases_lt h t) ∙ sym (said_at-filter test 0 ys t b)))
  where
    late : (t : ℕ) (o : Option Event) → h < t → kept_by (λ x. nat_le x.0 h && net.wants p s x.0 x.1) t o ≡ None
    late t None k = refl
    late t (Some v) k = rw (lt-leb t h k) refl

    at : (t : ℕ) → (h < t) ⊎ (t ≤ h) → kept_by (λ x. nat_le x.0 h && net.wants p s x.0 x.1) t (said_at xs t) ≡ kept_by (λ x. nat_le x.0 h && net.wants p s x.0 x.1) t (said_at ys t)
    at t (inl k) = late t (said_at xs t) k ∙ sym (late t (said_at ys t) k)
    at t (inr k) = ap (kept_by (λ x. nat_le x.0 h && net.wants p s x.0 x.1) t) (e t k)
