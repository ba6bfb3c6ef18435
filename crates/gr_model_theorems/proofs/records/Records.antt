-- The logs of the world are the record of the steps
use Rattle.std.proofs.Common.{◌≡◌, ◌≢◌, ◌⊎◌, inl, inr, ⊎_elim, ℕ, suc, zero, ◌+◌, ◌≤◌, ◌<◌, max, Bool, true, false, List, [], ◌∷◌, ◌++◌, length, set, get_or, refl, sym, ap, ◌∙◌, subst, arith}
use Rattle.std.specs.Prelude.{nat_eq, nat_le, if◌then◌else◌, flat_map, filter}
use Rattle.std.specs.List.{list_any}
use Rattle.std.proofs.lemmas.Bool.{or_left, or_right, or_cases, cases_Bool, cases_eq, false≢true, eqb-true, eq-eqb, ne_eqb, both_ways, le-leb, lt-leb, and_right}
use Rattle.std.proofs.lemmas.List.{get_or-set_other, get_or-set_same}
use Rattle.gr_event.specs.declared.event.Event.{Event}
use Rattle.gr_frame.specs.declared.Body.{Body}
use Rattle.gr_frame.specs.declared.Body.TheVariants as body
use Rattle.gr_frame.specs.declared.Frame.{Frame}
use Rattle.gr_know.specs.Values.{Known}
use Rattle.gr_event.specs.Joins.{Joins, longer}
use Rattle.gr_model.specs.Net.{Net, is_host, numbers, numbers_from}
use Rattle.gr_model.specs.Broker.{with_joins, with_join, drops, joining, View, Log, Outcome, empty_log, publish, wake, wake_host, wake_below, asking, marking, cutting, receive, learn, curiosity, expect, place_of, with_event, with_mark, silence, max_tick}
use Rattle.gr_model.specs.World.{World, Transition, view_of, log_of, absorbed, unchanged, followed_by, in_turn, frames_past, sent_since, is_want, is_know_to, at_depth, outwards, inwards, numbers_down, deliver_frame_by, deliver_up_by, hand_down_by, sweep_for_by, wake_for_by, wake_up_by}
use Rattle.gr_model_calls.specs.OneNet.{wake_for, deliver_frame, deliver_up, wake_up, hand_down, sweep_for}
use Rattle.gr_model.specs.Headline.{may_enter, with_joined, Recorded, recording, settling, marked, is_next}
use Rattle.gr_model.specs.Tree.{IsNet}
use Rattle.gr_model_calls.specs.Fits.{WorldFits, FrameTrue}
use Rattle.gr_model_calls.proofs.calls.HostCases.{publish_cases, marking_cases, joining_cases}
use Rattle.gr_model_calls.proofs.calls.Calls.{learn_log, marking_forgets}
use Rattle.gr_model_calls.proofs.calls.Cutting.{cut_cases, cut_at, cutting_cases, cutting_forgets}
use Rattle.gr_model_calls.proofs.runs.Worlds.{Kept, Kept-refl, Kept-after, wake_for_kept, deliver_kept, Each, IsLaterWorld, FrameTrue-later, frames_past_true, filter_frames, depths_in}

-- what a log has of the record
abbrev pub core : Log → Recorded
core l = record { last = l.last; settled = l.settled; events = l.events; joined = l.joins }

-- A call's log

-- receiving a frame leaves the log
pub receive_log : (net : Net) (now : ℕ) (f : Frame) (v : View) (log : Log) → (receive net now f v log).log ≡ log
unfolding receive expect curiosity asking
receive_log net now f v log = go f.body
  where
    learned : (runs : Known) (js : Joins) (q : Bool) → (let o : Outcome = elim q [ true ↦ record { view = v; log = log; lines = []; frames = [] } | false ↦ learn net f.head.publisher f.head.to runs (with_joins v (longer v.joins js)) log ] in o.log) ≡ log
    learned runs js true = refl
    learned runs js false = learn_log net f.head.publisher f.head.to runs (with_joins v (longer v.joins js)) log

    go : (y : Body) → (let o : Outcome = elim y [
      | body.Knowledge runs js ↦ elim (drops v runs js) [ true ↦ record { view = v; log = log; lines = []; frames = [] } | false ↦ learn net f.head.publisher f.head.to runs (with_joins v (longer v.joins js)) log ]
      | body.Curiosity runs ↦ curiosity net f.head.publisher f.head.to now f.head.from (place_of f.head.from (net.children f.head.publisher f.head.to)) runs v log
      | body.Expect tick ↦ expect net f.head.publisher f.head.to now tick v log
    ] in o.log) ≡ log
    go (body.Knowledge runs js) = learned runs js (drops v runs js)
    go (body.Curiosity runs) = refl
    go (body.Expect tick) = refl

-- a cut leaves of a log that does not forget all that the record has
cutting_core : (net : Net) (p b : ℕ) (v : View) (log : Log) → log.forgets ≡ false → core (cutting net p b v log) ≡ core log
cutting_core net p b v log keeps =
    cutting_cases net p b v log (λ l. core l ≡ core log) refl
    (λ x. cut_cases net.reclaim log (cut_at net p b v log) (λ l. core l ≡ core log) (rw keeps refl) (rw keeps refl))

-- a mark leaves of a log what the record says of the mark
pub marking_core : (net : Net) (p b now : ℕ) (v : View) (log : Log) → core (marking net p b now v log).log ≡ marked net now (core log)
marking_core net p b now v log =
    marking_cases net p b now v log (λ o. core o.log ≡ marked net now (core log))
    (λ e. ap core (learn_log net p b (silence (suc log.settled) now []) v (with_mark log now)) ∙ ap (λ q. if q then settling now (core log) else core log) (sym e))
    (λ e. ap (λ q. if q then settling now (core log) else core log) (sym e))

-- a wake leaves of a log what the record says: a mark at the host, and else nothing new
pub wake_core : (net : Net) (p b now : ℕ) (v : View) (log : Log) → log.forgets ≡ false → core (wake net p b now v log).log ≡ (if is_host net p b then marked net now (core log) else core log)
unfolding wake wake_host wake_below asking
wake_core net p b now v log keeps = go (is_host net p b)
  where
    go : (q : Bool) → core (let u : Outcome = elim q [ true ↦ wake_host net p b now v log | false ↦ wake_below net p b now v log ] in u.log) ≡ (if q then marked net now (core log) else core log)
    go true = cutting_core net p b (marking net p b now v log).view (marking net p b now v log).log (marking_forgets net p b now v log ∙ keeps) ∙ marking_core net p b now v log
    go false = refl

-- a wake changes nothing in whether a log forgets
pub wake_forgets : (net : Net) (p b now : ℕ) (v : View) (log : Log) → (wake net p b now v log).log.forgets ≡ log.forgets
unfolding wake wake_host wake_below asking
wake_forgets net p b now v log = go (is_host net p b)
  where
    go : (q : Bool) → (let u : Outcome = elim q [ true ↦ wake_host net p b now v log | false ↦ wake_below net p b now v log ] in u.log.forgets) ≡ log.forgets
    go true = cutting_forgets net p b (marking net p b now v log).view (marking net p b now v log).log ∙ marking_forgets net p b now v log
    go false = refl

-- a publish leaves of a log what the record says: the event, where its number is the next one
pub publish_core : (net : Net) (p b now number : ℕ) (e : Event) (v : View) (log : Log) → core (publish net p b now number e v log).log ≡ (if is_next now (core log) number then recording now (core log) e else core log)
publish_core net p b now number e v log =
    publish_cases net p b now number e v log (λ o. core o.log ≡ (if is_next now (core log) number then recording now (core log) e else core log))
    (λ l. rw (ne_eqb number (suc log.last) (λ h. omega (arith, h, l))) refl)
    (λ l. rw (ne_eqb number (suc log.last) (λ h. omega (arith, h, l))) refl)
    (λ x l. rw (lt-leb tick max_tick l, and_right (nat_eq number (suc log.last)) false refl) refl)
    (λ x l. rw (eq-eqb number (suc log.last) x, le-leb tick max_tick l) (ap core (learn_log net p b _ v (with_event log tick e))))
  where
    tick : ℕ
    tick = max (suc log.settled) now

-- a join leaves of a log what the record says: the join, where the subscriber may enter
pub joining_core : (net : Net) (p b now s : ℕ) (v : View) (log : Log) → core (joining net p b now s v log).log ≡ (if may_enter now (core log) s then with_joined now (core log) s else core log)
joining_core net p b now s v log =
    joining_cases net p b now s v log (λ o. core o.log ≡ (if may_enter now (core log) s then with_joined now (core log) s else core log))
    (λ e. rw e refl)
    (λ e l. rw (e, lt-leb tick max_tick l) refl)
    (λ e l. rw (e, le-leb tick max_tick l) (ap core (learn_log net p b _ _ (with_join log tick s))))
  where
    tick : ℕ
    tick = max (suc log.settled) now

-- The cores of all logs

-- what a publisher's log has of the record
abbrev pub core_of : World → ℕ → Recorded
core_of w q = core (log_of w q)

-- putting an outcome in place changes the record of the call's publisher, and no other
pub absorbed_cores : (net : Net) (w : World) (b p q : ℕ) (o : Outcome) → WorldFits net w → p < net.publishers → core_of (absorbed w b p o).world q ≡ (if nat_eq q p then core o.log else core_of w q)
unfolding absorbed
absorbed_cores net w b p q o f j =
    elim (cases_eq q p) [
      | inl e ↦ rw (eq-eqb q p e) (ap core (subst (λ z. get_or (set w.logs p o.log) z empty_log ≡ o.log) (sym e) (get_or-set_same w.logs p o.log empty_log (omega (arith, f.logs_long)))))
      | inr e ↦ rw (ne_eqb q p e) (ap core (get_or-set_other w.logs p q o.log empty_log e))
    ]

absorbed_clock : (w : World) (b p : ℕ) (o : Outcome) → (absorbed w b p o).world.clock ≡ w.clock
unfolding absorbed
absorbed_clock w b p o = refl

-- what a chain of calls for p at one clock does to the logs: nothing, or one mark of p's
pub record Marks (net : Net) (p : ℕ) (w : World) (t : Transition) : Type 0 where
  pub kept : Kept net w t
  pub clock : t.world.clock ≡ w.clock
  pub most : t.world.most ≡ w.most
  pub others : (q : ℕ) → q ≢ p → core_of t.world q ≡ core_of w q
  pub here : (core_of t.world p ≡ core_of w p) ⊎ (core_of t.world p ≡ marked net w.clock (core_of w p))

marked_again : (net : Net) (now : ℕ) (r : Recorded) → 1 ≤ net.quiet → marked net now (marked net now r) ≡ marked net now r
marked_again net now r h =
    elim (cases_Bool (nat_le (r.settled + net.quiet) now)) [
      | inl e ↦ rw e (rw (lt-leb (now + net.quiet) now (omega arith)) refl)
      | inr e ↦ rw e (rw e refl)
    ]

Marks-after : (net : Net) (p : ℕ) (w : World) (t : Transition) (f : World → Transition) → 1 ≤ net.quiet → Marks net p w t → Marks net p t.world (f t.world) → Marks net p w (followed_by t f)
Marks-after net p w t f h a k = record {
  kept = Kept-after net w t f a.kept k.kept;
  clock = k.clock ∙ a.clock;
  most = k.most ∙ a.most;
  others = λ q n. k.others q n ∙ a.others q n;
  here = ⊎_elim
      (λ x. ⊎_elim (λ y. inl (x ∙ y)) (λ y. inr (x ∙ y)) a.here)
      (λ x. let z : core_of (f t.world).world p ≡ marked net w.clock (core_of t.world p) = x ∙ ap (λ c. marked net c (core_of t.world p)) a.clock in
      inr (⊎_elim (λ y. z ∙ ap (marked net w.clock) y) (λ y. z ∙ (ap (marked net w.clock) y ∙ marked_again net w.clock (core_of w p) h)) a.here))
      k.here;
}

Marks-refl : (net : Net) (p : ℕ) (w : World) → WorldFits net w → Marks net p w (unchanged w [])
Marks-refl net p w f = record { kept = Kept-refl net w f; clock = refl; most = refl; others = λ q n. refl; here = inl refl }

-- a wake changes at most the record of its publisher, by a mark at the host
pub wake_for_core : (net : Net) (w : World) (b p q : ℕ) → WorldFits net w → p < net.publishers → core_of (wake_for net w b p).world q ≡ (if nat_eq q p then (if is_host net p b then marked net w.clock (core_of w p) else core_of w p) else core_of w q)
unfolding wake_for_by
wake_for_core net w b p q f j = absorbed_cores net w b p q (wake net p b w.clock (view_of w b p) (log_of w p)) f j ∙ ap (λ z. if nat_eq q p then z else core_of w q) (wake_core net p b w.clock (view_of w b p) (log_of w p) (f.logs p j).keeps)

-- a wake leaves the clock
pub wake_for_clock : (net : Net) (w : World) (b p : ℕ) → (wake_for net w b p).world.clock ≡ w.clock
unfolding wake_for_by
wake_for_clock net w b p = absorbed_clock w b p (wake net p b w.clock (view_of w b p) (log_of w p))

absorbed_most : (w : World) (b p : ℕ) (o : Outcome) → (absorbed w b p o).world.most ≡ w.most
unfolding absorbed
absorbed_most w b p o = refl

-- a wake leaves the greatest moment
pub wake_for_most : (net : Net) (w : World) (b p : ℕ) → (wake_for net w b p).world.most ≡ w.most
unfolding wake_for_by
wake_for_most net w b p = absorbed_most w b p (wake net p b w.clock (view_of w b p) (log_of w p))

-- a delivery leaves the greatest moment
pub deliver_most : (net : Net) (w : World) (x : Frame) → (deliver_frame net w x).world.most ≡ w.most
unfolding deliver_frame_by
deliver_most net w x = absorbed_most w x.head.to x.head.publisher (receive net w.clock x (view_of w x.head.to x.head.publisher) (log_of w x.head.publisher))

wake_for_marks : (net : Net) (w : World) (b p : ℕ) → IsNet net → WorldFits net w → b < net.brokers → p < net.publishers → Marks net p w (wake_for net w b p)
wake_for_marks net w b p n f i j = record {
  kept = wake_for_kept net w b p n f i j;
  clock = wake_for_clock net w b p;
  most = wake_for_most net w b p;
  others = λ q x. wake_for_core net w b p q f j ∙ rw (ne_eqb q p x) refl;
  here = elim (cases_Bool (is_host net p b)) [
    | inl e ↦ inr (wake_for_core net w b p p f j ∙ rw (eq-eqb p p refl, e) refl)
    | inr e ↦ inl (wake_for_core net w b p p f j ∙ rw (eq-eqb p p refl, e) refl)
  ];
}

-- a delivery leaves every record
pub deliver_core : (net : Net) (w : World) (x : Frame) (q : ℕ) → WorldFits net w → x.head.publisher < net.publishers → core_of (deliver_frame net w x).world q ≡ core_of w q
unfolding deliver_frame_by
deliver_core net w x q f j =
    absorbed_cores net w x.head.to x.head.publisher q (receive net w.clock x (view_of w x.head.to x.head.publisher) (log_of w x.head.publisher)) f j
    ∙ elim (cases_eq q x.head.publisher) [
      | inl e ↦ rw (eq-eqb q x.head.publisher e) (ap core (receive_log net w.clock x (view_of w x.head.to x.head.publisher) (log_of w x.head.publisher)) ∙ ap (core_of w) (sym e))
      | inr e ↦ rw (ne_eqb q x.head.publisher e) refl
    ]

-- a delivery leaves the clock
pub deliver_clock : (net : Net) (w : World) (x : Frame) → (deliver_frame net w x).world.clock ≡ w.clock
unfolding deliver_frame_by
deliver_clock net w x = absorbed_clock w x.head.to x.head.publisher (receive net w.clock x (view_of w x.head.to x.head.publisher) (log_of w x.head.publisher))

deliver_marks : (net : Net) (p : ℕ) (w : World) (x : Frame) → IsNet net → WorldFits net w → FrameTrue net w x → Marks net p w (deliver_frame net w x)
deliver_marks net p w x n f t = record {
  kept = deliver_kept net w x n f t;
  clock = deliver_clock net w x;
  most = deliver_most net w x;
  others = λ q a. deliver_core net w x q f t.publisher_in;
  here = inl (deliver_core net w x p f t.publisher_in);
}

pub in_turn_marks : {X : Type 0} (net : Net) (p : ℕ) (ok : World → X → Type 0) (f : World → X → Transition) → 1 ≤ net.quiet → ((w u : World) (x : X) → IsLaterWorld net w u → ok w x → ok u x) → ((w : World) (x : X) → WorldFits net w → ok w x → Marks net p w (f w x)) →
    (xs : List X) (w : World) → WorldFits net w → Each (ok w) xs → Marks net p w (in_turn f xs w)
in_turn_marks {X} net p ok f h stays one [] w fit a = Marks-refl net p w fit
in_turn_marks {X} net p ok f h stays one (x ∷ xs) w fit a =
    let k = one w x fit a.0 in
    Marks-after net p w (f w x) (in_turn f xs) h k (in_turn_marks net p ok f h stays one xs (f w x).world k.kept.fits (all_stay xs a.1 k.kept.later))
  where
    all_stay : (ys : List X) → Each (ok w) ys → IsLaterWorld net w (f w x).world → Each (ok (f w x).world) ys
    all_stay [] b l = tt
    all_stay (y ∷ ys) b l = (stays w (f w x).world y l b.0, all_stay ys b.1 l)

deliver_up_marks : (net : Net) (p fuel : ℕ) (fs : List Frame) (w : World) → IsNet net → 1 ≤ net.quiet → WorldFits net w → Each (FrameTrue net w) fs → Marks net p w (deliver_up net fuel fs w)
unfolding deliver_up_by
deliver_up_marks net p zero fs w n h f a = Marks-refl net p w f
deliver_up_marks net p (suc fuel) fs w n h f a =
    in_turn_marks net p (FrameTrue net) (λ u x. followed_by (deliver_frame net u x) (λ y. deliver_up net fuel (filter is_want (sent_since u y)) y)) h (FrameTrue-later net)
    (λ u x g t. let k = deliver_marks net p u x n g t in let y = (deliver_frame net u x).world in
    Marks-after net p u (deliver_frame net u x) (λ y. deliver_up net fuel (filter is_want (sent_since u y)) y) h k (deliver_up_marks net p fuel (filter is_want (sent_since u y)) y n h k.kept.fits (filter_frames net y is_want (sent_since u y) (frames_past_true net y (length u.frames) y.frames k.kept.fits.frames))))
    fs w f a

wake_up_marks : (net : Net) (p : ℕ) (w : World) (b : ℕ) → IsNet net → 1 ≤ net.quiet → WorldFits net w → b < net.brokers → p < net.publishers → Marks net p w (wake_up net p w b)
unfolding wake_up_by
wake_up_marks net p w b n h f i j =
    let k = wake_for_marks net w b p n f i j in
    let y = (wake_for net w b p).world in
    Marks-after net p w (wake_for net w b p) (λ u. deliver_up net net.brokers (filter is_want (sent_since w u)) u) h k (deliver_up_marks net p net.brokers (filter is_want (sent_since w y)) y n h k.kept.fits (filter_frames net y is_want (sent_since w y) (frames_past_true net y (length w.frames) y.frames k.kept.fits.frames)))

hand_down_marks : (net : Net) (p first : ℕ) (w : World) (b : ℕ) → IsNet net → 1 ≤ net.quiet → WorldFits net w → Marks net p w (hand_down net p first w b)
unfolding hand_down_by
hand_down_marks net p first w b n h f = in_turn_marks net p (FrameTrue net) (deliver_frame net) h (FrameTrue-later net) (λ u x g t. deliver_marks net p u x n g t) (filter (is_know_to p b) (frames_past first w.frames)) w f (filter_frames net w (is_know_to p b) (frames_past first w.frames) (frames_past_true net w first w.frames f.frames))

-- the sweep of a publisher does to the logs nothing, or one mark of this publisher's
pub sweep_for_marks : (net : Net) (w : World) (p : ℕ) → IsNet net → 1 ≤ net.quiet → WorldFits net w → p < net.publishers → Marks net p w (sweep_for net w p)
unfolding sweep_for_by
sweep_for_marks net w p n h f j =
    let up = λ (u : World) (g : WorldFits net u). in_turn_marks net p (λ x b. b < net.brokers) (wake_up net p) h (λ x y b l k. k) (λ x b g k. wake_up_marks net p x b n h g k j) (inwards net p) u g (depths_in net p (numbers_down net.brokers)) in
    let a = up w f in
    let w1 = (in_turn (wake_up net p) (inwards net p) w).world in
    let b = in_turn_marks net p (λ x c. c < net.brokers) (hand_down net p (length w.frames)) h (λ x y c l k. k) (λ x c g k. hand_down_marks net p (length w.frames) x c n h g) (outwards net p) w1 a.kept.fits (depths_in net p (numbers net.brokers)) in
    let w2 = (in_turn (hand_down net p (length w.frames)) (outwards net p) w1).world in
    let c = up w2 b.kept.fits in
    Marks-after net p w (followed_by (in_turn (wake_up net p) (inwards net p) w) (in_turn (hand_down net p (length w.frames)) (outwards net p))) (in_turn (wake_up net p) (inwards net p)) h (Marks-after net p w (in_turn (wake_up net p) (inwards net p) w) (in_turn (hand_down net p (length w.frames)) (outwards net p)) h a b) c

-- The host is marked in a sweep

-- a member of a list of numbers
abbrev pub HasLine : ℕ → List ℕ → Type 0
HasLine s xs = list_any (λ x. nat_eq x s) xs ≡ true

has_append_left : (s : ℕ) (xs ys : List ℕ) → HasLine s xs → HasLine s (xs ++ ys)
has_append_left s [] ys h = absurd (false≢true h)
has_append_left s (x ∷ xs) ys h =
    ⊎_elim (λ e. or_left (nat_eq x s) (list_any (λ z. nat_eq z s) (xs ++ ys)) e) (λ e. or_right (nat_eq x s) (list_any (λ z. nat_eq z s) (xs ++ ys)) (has_append_left s xs ys e)) (or_cases (nat_eq x s) (list_any (λ z. nat_eq z s) xs) h)

has_append_right : (s : ℕ) (xs ys : List ℕ) → HasLine s ys → HasLine s (xs ++ ys)
has_append_right s [] ys h = h
has_append_right s (x ∷ xs) ys h = or_right (nat_eq x s) (list_any (λ z. nat_eq z s) (xs ++ ys)) (has_append_right s xs ys h)

-- a number of a range stands in the list of the range
pub has_number : (a n s : ℕ) → a ≤ s → s < a + n → HasLine s (numbers_from a n)
has_number a zero s h k = absurd (omega arith)
has_number a (suc n) s h k =
    elim (cases_eq a s) [
      | inl e ↦ or_left (nat_eq a s) (list_any (λ z. nat_eq z s) (numbers_from (suc a) n)) (eq-eqb a s e)
      | inr e ↦ or_right (nat_eq a s) (list_any (λ z. nat_eq z s) (numbers_from (suc a) n)) (has_number (suc a) n s (omega (arith, e)) (omega arith))
    ]

has_down : (n s : ℕ) → s < n → HasLine s (numbers_down n)
has_down zero s h = absurd (omega arith)
has_down (suc n) s h =
    elim (cases_eq n s) [
      | inl e ↦ or_left (nat_eq n s) (list_any (λ z. nat_eq z s) (numbers_down n)) (eq-eqb n s e)
      | inr e ↦ or_right (nat_eq n s) (list_any (λ z. nat_eq z s) (numbers_down n)) (has_down n s (omega (arith, e)))
    ]

-- a member that passes a test is a member of what the test keeps
pub has_filter : (test : ℕ → Bool) (s : ℕ) (xs : List ℕ) → test s ≡ true → HasLine s xs → HasLine s (filter test xs)
has_filter test s [] t h = absurd (false≢true h)
has_filter test s (x ∷ xs) t h =
    elim (cases_Bool (test x)) [
      | inl e ↦ rw e (⊎_elim (λ k. or_left (nat_eq x s) (list_any (λ z. nat_eq z s) (filter test xs)) k) (λ k. or_right (nat_eq x s) (list_any (λ z. nat_eq z s) (filter test xs)) (has_filter test s xs t k)) (or_cases (nat_eq x s) (list_any (λ z. nat_eq z s) xs) h))
      | inr e ↦ rw e (⊎_elim (λ k. absurd (both_ways (test x) e (ap test (eqb-true x s k) ∙ t))) (λ k. has_filter test s xs t k) (or_cases (nat_eq x s) (list_any (λ z. nat_eq z s) xs) h))
    ]

-- a member of what is made of a member is a member of all that is made
pub has_flat : (f : ℕ → List ℕ) (d s : ℕ) (ds : List ℕ) → HasLine d ds → HasLine s (f d) → HasLine s (flat_map f ds)
has_flat f d s [] h k = absurd (false≢true h)
has_flat f d s (x ∷ xs) h k =
    ⊎_elim (λ e. has_append_left s (f x) (flat_map f xs) (subst (λ z. HasLine s (f z)) (sym (eqb-true x d e)) k)) (λ e. has_append_right s (f x) (flat_map f xs) (has_flat f d s xs e k)) (or_cases (nat_eq x d) (list_any (λ z. nat_eq z d) xs) h)

-- each broker has its place in the inward order
pub has_inwards : (net : Net) (p b : ℕ) → IsNet net → p < net.publishers → b < net.brokers → HasLine b (inwards net p)
has_inwards net p b n j i = has_flat (at_depth net p) (net.depth p b) b (numbers_down net.brokers) (has_down net.brokers (net.depth p b) (n.depth_in p b j i)) (has_filter (λ c. nat_eq (net.depth p c) (net.depth p b)) b (numbers net.brokers) (eq-eqb (net.depth p b) (net.depth p b) refl) (has_number 0 net.brokers b (omega arith) (omega arith)))

-- the log of p is marked
abbrev pub IsMarked : Net → ℕ → World → Transition → Type 0
IsMarked net p w t = core_of t.world p ≡ marked net w.clock (core_of w p)

marked_first : (net : Net) (p : ℕ) (w : World) (t : Transition) (f : World → Transition) → 1 ≤ net.quiet → Marks net p w t → IsMarked net p w t → Marks net p t.world (f t.world) → IsMarked net p w (followed_by t f)
marked_first net p w t f h a m k =
    ⊎_elim (λ y. y ∙ m) (λ y. y ∙ (ap (λ c. marked net c (core_of t.world p)) a.clock ∙ (ap (marked net w.clock) m ∙ marked_again net w.clock (core_of w p) h))) k.here

marked_then : (net : Net) (p : ℕ) (w : World) (t : Transition) (f : World → Transition) → 1 ≤ net.quiet → Marks net p w t → IsMarked net p t.world (f t.world) → IsMarked net p w (followed_by t f)
marked_then net p w t f h a m =
    let z : core_of (f t.world).world p ≡ marked net w.clock (core_of t.world p) = m ∙ ap (λ c. marked net c (core_of t.world p)) a.clock in
    ⊎_elim (λ y. z ∙ ap (marked net w.clock) y) (λ y. z ∙ (ap (marked net w.clock) y ∙ marked_again net w.clock (core_of w p) h)) a.here

wake_up_marked : (net : Net) (p : ℕ) (w : World) → IsNet net → 1 ≤ net.quiet → WorldFits net w → p < net.publishers → IsMarked net p w (wake_up net p w (net.host p))
unfolding wake_up_by
wake_up_marked net p w n h f j =
    let b = net.host p in
    let i = n.host_in p j in
    let k = wake_for_marks net w b p n f i j in
    let y = (wake_for net w b p).world in
    marked_first net p w (wake_for net w b p) (λ u. deliver_up net net.brokers (filter is_want (sent_since w u)) u) h k
    (wake_for_core net w b p p f j ∙ rw (eq-eqb p p refl, eq-eqb b b refl) refl)
    (deliver_up_marks net p net.brokers (filter is_want (sent_since w y)) y n h k.kept.fits (filter_frames net y is_want (sent_since w y) (frames_past_true net y (length w.frames) y.frames k.kept.fits.frames)))

in_turn_marked : (net : Net) (p : ℕ) (bs : List ℕ) (w : World) → IsNet net → 1 ≤ net.quiet → WorldFits net w → p < net.publishers → Each (λ b. b < net.brokers) bs → HasLine (net.host p) bs → IsMarked net p w (in_turn (wake_up net p) bs w)
in_turn_marked net p [] w n h f j a m = absurd (false≢true m)
in_turn_marked net p (b ∷ bs) w n h f j a m =
    let k = wake_up_marks net p w b n h f a.0 j in
    let rest = in_turn_marks net p (λ x c. c < net.brokers) (wake_up net p) h (λ x y c l z. z) (λ x c g z. wake_up_marks net p x c n h g z j) bs (wake_up net p w b).world k.kept.fits a.1 in
    ⊎_elim
    (λ e. marked_first net p w (wake_up net p w b) (in_turn (wake_up net p) bs) h k (subst (λ z. IsMarked net p w (wake_up net p w z)) (sym (eqb-true b (net.host p) e)) (wake_up_marked net p w n h f j)) rest)
    (λ e. marked_then net p w (wake_up net p w b) (in_turn (wake_up net p) bs) h k (in_turn_marked net p bs (wake_up net p w b).world n h k.kept.fits j a.1 e))
    (or_cases (nat_eq b (net.host p)) (list_any (λ z. nat_eq z (net.host p)) bs) m)

-- a sweep marks the log of its publisher
pub sweep_for_marked : (net : Net) (w : World) (p : ℕ) → IsNet net → 1 ≤ net.quiet → WorldFits net w → p < net.publishers → IsMarked net p w (sweep_for net w p)
unfolding sweep_for_by
sweep_for_marked net w p n h f j =
    let up = λ (u : World) (g : WorldFits net u). in_turn_marks net p (λ x b. b < net.brokers) (wake_up net p) h (λ x y b l k. k) (λ x b g k. wake_up_marks net p x b n h g k j) (inwards net p) u g (depths_in net p (numbers_down net.brokers)) in
    let a = up w f in
    let w1 = (in_turn (wake_up net p) (inwards net p) w).world in
    let b = in_turn_marks net p (λ x c. c < net.brokers) (hand_down net p (length w.frames)) h (λ x y c l k. k) (λ x c g k. hand_down_marks net p (length w.frames) x c n h g) (outwards net p) w1 a.kept.fits (depths_in net p (numbers net.brokers)) in
    let w2 = (in_turn (hand_down net p (length w.frames)) (outwards net p) w1).world in
    let c = up w2 b.kept.fits in
    let m = in_turn_marked net p (inwards net p) w n h f j (depths_in net p (numbers_down net.brokers)) (has_inwards net p (net.host p) n j (n.host_in p j)) in
    let first = followed_by (in_turn (wake_up net p) (inwards net p) w) (in_turn (hand_down net p (length w.frames)) (outwards net p)) in
    marked_first net p w first (in_turn (wake_up net p) (inwards net p)) h (Marks-after net p w (in_turn (wake_up net p) (inwards net p) w) (in_turn (hand_down net p (length w.frames)) (outwards net p)) h a b) (marked_first net p w (in_turn (wake_up net p) (inwards net p) w) (in_turn (hand_down net p (length w.frames)) (outwards net p)) h a m b) c
