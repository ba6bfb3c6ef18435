-- A call depends on what the subscribers want at the ticks where an event is known, and on nothing else of that
use Rattle.std.proofs.Common.{◌≡◌, ◌≢◌, ◌⊎◌, inl, inr, ⊎_elim, ℕ, suc, ◌+◌, ◌-◌, max, Bool, true, false, ◌&&◌, List, [], ◌∷◌, ◌++◌, map, set, get_or, refl, sym, ap, ap₂, ◌∙◌, Some, arith}
use Rattle.std.specs.Prelude.{nat_eq, nat_lt, nat_le, if◌then◌else◌, filter, flat_map}
use Rattle.std.specs.List.{list_any}
use Rattle.std.proofs.Math.Path.{fun_ext}
use Rattle.std.proofs.lemmas.Bool.{cases_lt, true≢false}
use Rattle.gr_event.specs.declared.event.Event.{Event}
use Rattle.gr_event.specs.Event.{same_event}
use Rattle.gr_know.specs.declared.values.K.{K}
use Rattle.gr_know.specs.declared.values.K.TheVariants.{Q, S, D, F}
use Rattle.gr_curio.specs.declared.values.Q3.TheVariants.{N}
use Rattle.gr_frame.specs.declared.Frame.{Frame}
use Rattle.gr_tick.specs.Runs.{AreRuns, zip_runs, points}
use Rattle.gr_know.specs.Values.{Known, known_at, knowns, same_K, is_Q, join_K}
use Rattle.gr_curio.specs.Values.{Wanted, wanted_at, is_A, is_C}
use Rattle.gr_tick.proofs.RunLaws.{AreRunsOf}
use Rattle.gr_subend.proofs.Saying.{said_at-here, said_at-past, said_at-below, some_none}
use Rattle.gr_model.specs.declared.report.Report.{Report}
use Rattle.gr_model.specs.declared.report.Report.TheVariants as line
use Rattle.gr_model_calls.specs.Said.{said_at, TicksRise}
use Rattle.gr_model.specs.Net.{Net, with_wants, is_host, keeps_horizon, pass}
use Rattle.gr_event.specs.Joins.{Joins, longer, has_joined}
use Rattle.gr_pubend.specs.declared.answers.Joined.TheVariants as joins
use Rattle.gr_model.specs.Broker.{with_joins, with_join, joining, joining_by, joined_at, View, Log, Outcome, head, know_frames, up_frames, got_line, delivery_lines, data_ticks, horizon_after, new_ticks, pass_points, passed, forward, still_wanted, forward_frames, forward_wants, learn, consolidated, finished, kept_view, due, noted, acknowledged, answers_of, answers, stored, curiosity, max_tick, silence, with_mark, with_event, expect_frames, asking, expect, wake_below, published, quieted, publish_by, marking_by, publish, cutting, cutting_lines, marking, wake_host, wake}
use Rattle.gr_pubend.specs.declared.answers.Published.{Published}
use Rattle.gr_pubend.specs.declared.answers.Published.TheVariants.{Logged, Already, Gap, Exhausted}
use Rattle.gr_pubend.specs.declared.answers.Quieted.{Quieted}
use Rattle.gr_pubend.specs.declared.answers.Quieted.TheVariants.{NotYet, Marked}
use Rattle.gr_model_calls.proofs.calls.HostCases.{news_of}
use Rattle.gr_frame.specs.declared.Head.{Head}
use Rattle.gr_model_calls.proofs.calls.CallTruth.{new_ticks-is, joined-is}
use Rattle.gr_subend.specs.Said.{event_of}
use Rattle.gr_model_calls.proofs.calls.Told.{data_ticks_rise, data_ticks_in, data_ticks_out}

-- a piece of knowledge that is sent, before it is cut into frames
pub record Sent : Type 0 where
  pub head : Head
  pub runs : Known

-- what new ticks send to the children
abbrev pub sent_down : Net → ℕ → ℕ → Known → List ℕ → List Wanted → List Sent
sent_down net p b new [] ws = []
sent_down net p b new (c ∷ cs) [] = []
sent_down net p b new (c ∷ cs) (w ∷ ws) = record { head = head b c p; runs = forward net p c w new } ∷ sent_down net p b new cs ws

-- what a child's asks are answered
abbrev pub reply_of : Net → ℕ → ℕ → ℕ → Wanted → View → Known
reply_of net p c i piece v = answers net p c v.know (acknowledged (get_or v.wants i []) piece) piece

-- what is asked upstream of them
abbrev pub asked_of : Net → ℕ → ℕ → ℕ → ℕ → Wanted → Known → View → Wanted
asked_of net p b now i piece reply v =
    let w = acknowledged (get_or v.wants i []) piece in
    let know = finished v.know (consolidated (keeps_horizon net p b) v.horizon (set v.wants i (stored v.know w piece))) in
    elim (is_host net p b) [
      | true ↦ []
      | false ↦ due now net.retry know v.asks (λ t. is_C (wanted_at piece t) && is_Q (known_at reply t)) (points piece ++ points reply)
    ]

-- what each subscriber wants of each event
abbrev pub Wants : Type 0
Wants = ℕ → ℕ → ℕ → Event → Bool

-- the subscribers want the same of each event that is known
abbrev pub Agree : ℕ → Wants → Wants → Known → Type 0
Agree p f g know = (t : ℕ) (e : Event) → known_at know t ≡ D e → (s : ℕ) → f p s t e ≡ g p s t e

-- Edges

chosen : Event → Bool → K
chosen e true = D e
chosen e false = S

pass_chosen : (net : Net) (f : Wants) (p c t : ℕ) (e : Event) → pass (with_wants net f) p c t (D e) ≡ chosen e (list_any (λ s. f p s t e) (net.below p c))
unfolding chosen
pass_chosen net f p c t e = go (list_any (λ s. f p s t e) (net.below p c))
  where
    go : (b : Bool) → (elim b as (λ x. K) [ true ↦ D e | false ↦ S ]) ≡ chosen e b
    go true = refl
    go false = refl

-- an edge passes the same under two wants that agree on the event at the tick
pub pass_agree : (net : Net) (f g : Wants) (p c t : ℕ) (k : K) → ((e : Event) → k ≡ D e → (s : ℕ) → f p s t e ≡ g p s t e) → pass (with_wants net f) p c t k ≡ pass (with_wants net g) p c t k
pass_agree net f g p c t Q h = refl
pass_agree net f g p c t S h = refl
pass_agree net f g p c t F h = refl
pass_agree net f g p c t (D e) h =
    pass_chosen net f p c t e
    ∙ (ap (λ (q : ℕ → Bool). chosen e (list_any q (net.below p c))) (fun_ext (λ s. h e refl s))
    ∙ sym (pass_chosen net g p c t e))

passed_agree : (net : Net) (f g : Wants) (p c : ℕ) (know : Known) → Agree p f g know → passed (with_wants net f) p c know ≡ passed (with_wants net g) p c know
unfolding passed
passed_agree net f g p c know h = ap (λ (q : ℕ → K). knowns q (pass_points know)) (fun_ext (λ t. pass_agree net f g p c t (known_at know t) (λ e x s. h t e x s)))

forward_agree : (net : Net) (f g : Wants) (p c : ℕ) (w : Wanted) (new : Known) → Agree p f g new → forward (with_wants net f) p c w new ≡ forward (with_wants net g) p c w new
unfolding forward
forward_agree net f g p c w new h = ap (λ k. zip_runs Q N Q same_K (λ v a. if is_A a then Q else v) k w) (passed_agree net f g p c new h)

frames_agree : (net : Net) (f g : Wants) (js : Joins) (p b : ℕ) (new : Known) (cs : List ℕ) (ws : List Wanted) → Agree p f g new → forward_frames js (with_wants net f) p b new cs ws ≡ forward_frames js (with_wants net g) p b new cs ws
frames_agree net f g js p b new [] ws h = refl
frames_agree net f g js p b new (c ∷ cs) [] h = refl
frames_agree net f g js p b new (c ∷ cs) (w ∷ ws) h = ap₂ (λ (k : Known) (x : List Frame). know_frames js b c p k ++ x) (forward_agree net f g p c w new h) (frames_agree net f g js p b new cs ws h)

wants_agree : (net : Net) (f g : Wants) (p : ℕ) (new : Known) (cs : List ℕ) (ws : List Wanted) → Agree p f g new → forward_wants (with_wants net f) p new cs ws ≡ forward_wants (with_wants net g) p new cs ws
wants_agree net f g p new [] ws h = refl
wants_agree net f g p new (c ∷ cs) [] h = refl
wants_agree net f g p new (c ∷ cs) (w ∷ ws) h = ap₂ (λ (k : Known) (x : List Wanted). still_wanted w k ∷ x) (forward_agree net f g p c w new h) (wants_agree net f g p new cs ws h)

pub sent_agree : (net : Net) (f g : Wants) (p b : ℕ) (new : Known) (cs : List ℕ) (ws : List Wanted) → Agree p f g new → sent_down (with_wants net f) p b new cs ws ≡ sent_down (with_wants net g) p b new cs ws
sent_agree net f g p b new [] ws h = refl
sent_agree net f g p b new (c ∷ cs) [] h = refl
sent_agree net f g p b new (c ∷ cs) (w ∷ ws) h =
    let more : Known → List Sent → List Sent = λ k x. record { head = record { from = b; to = c; publisher = p }; runs = k } ∷ x in
    ap₂ more (forward_agree net f g p c w new h) (sent_agree net f g p b new cs ws h)

-- Values with an event

-- a new tick that is an event is one of the piece
pub new_event : (k x : K) (e : Event) → (if is_Q k then x else Q) ≡ D e → x ≡ D e
new_event Q x e h = h
new_event S x e h = cc
new_event (D a) x e h = cc
new_event F x e h = cc

-- an event in a join was known on one side
pub join_event : (k x : K) (e : Event) → join_K k x ≡ D e → (k ≡ D e) ⊎ (x ≡ D e)
join_event Q x e h = inr h
join_event F x e h = cc
join_event S Q e h = cc
join_event S S e h = cc
join_event S (D a) e h = cc
join_event S F e h = cc
join_event (D a) Q e h = inl h
join_event (D a) S e h = cc
join_event (D a) F e h = cc
join_event (D a) (D b) e h = go (same_event a b) h
  where
    go : (q : Bool) → (if q then D a else F) ≡ D e → (D a ≡ D e) ⊎ (D b ≡ D e)
    go true x = inl x
    go false x = cc

new_agree : (p : ℕ) (f g : Wants) (know piece : Known) → AreRuns Q know → AreRuns Q piece → Agree p f g piece → Agree p f g (new_ticks know piece)
new_agree p f g know piece a b h = λ t e x s. h t e (new_event (known_at know t) (known_at piece t) e (sym ((new_ticks-is know piece a b).same_at t) ∙ x)) s

-- What subscribers are told

-- two tests that agree on each event of a list keep the same of it
pub filter_agree : (f g : ℕ → Event → Bool) (from : ℕ) (xs : List (ℕ × Event)) → TicksRise from xs → ((t : ℕ) (e : Event) → said_at xs t ≡ Some e → f t e ≡ g t e) → filter (λ x. f x.0 x.1) xs ≡ filter (λ x. g x.0 x.1) xs
filter_agree f g from [] r h = refl
filter_agree f g from (x ∷ xs) r h =
    ap₂ (λ (q : Bool) (ys : List (ℕ × Event)). if q then x ∷ ys else ys) (h x.0 x.1 (said_at-here x xs x.0 refl))
    (filter_agree f g x.0 xs r.1 (λ t e s. h t e (said_at-past x xs t (apart t e s) ∙ s)))
  where
    apart : (t : ℕ) (e : Event) → said_at xs t ≡ Some e → x.0 ≢ t
    apart t e s = λ z. some_none e (sym s ∙ said_at-below x.0 xs t r.1 (omega (arith, z)))

data_event : (k : K) (e : Event) → event_of k ≡ Some e → k ≡ D e
data_event Q e h = cc
data_event S e h = cc
data_event F e h = cc
data_event (D a) e h = cc

items_event : (lo hi : ℕ) (know : Known) (t : ℕ) (e : Event) → AreRuns Q know → said_at (data_ticks lo hi know) t ≡ Some e → known_at know t ≡ D e
items_event lo hi know t e r h =
    elim (cases_lt lo t) [
      | inr k ↦ absurd (some_none e (sym h ∙ data_ticks_out lo hi t know r (inl k)))
      | inl k ↦ elim (cases_lt hi t) [
        | inl n ↦ absurd (some_none e (sym h ∙ data_ticks_out lo hi t know r (inr n)))
        | inr n ↦ data_event (known_at know t) e (sym (data_ticks_in lo hi t know r k n) ∙ h)
      ]
    ]

told_agree : (net : Net) (f g : Wants) (p lo hi s : ℕ) (know : Known) → AreRuns Q know → Agree p f g know → delivery_lines (with_wants net f) p lo hi (data_ticks lo hi know) s ≡ delivery_lines (with_wants net g) p lo hi (data_ticks lo hi know) s
unfolding delivery_lines
told_agree net f g p lo hi s know r h =
    ap (λ (xs : List (ℕ × Event)). if nat_eq lo hi then [] else map (got_line s p) xs ++ line.Horizon s p hi ∷ [])
    (filter_agree (λ t e. f p s t e) (λ t e. g p s t e) 0 (data_ticks lo hi know) (data_ticks_rise lo hi know r) (λ t e x. h t e (items_event lo hi know t e r x) s))

-- The calls

pub learn_agree : (net : Net) (f g : Wants) (p b : ℕ) (piece : Known) (v : View) (log : Log) → AreRuns Q v.know → AreRuns Q piece → Agree p f g v.know → Agree p f g piece → learn (with_wants net f) p b piece v log ≡ learn (with_wants net g) p b piece v log
unfolding learn kept_view
learn_agree net f g p b piece v log r i h k =
    ap (λ ws. build ws (lines f) (frames f)) (wants_agree net f g p new (net.children p b) v.wants n)
    ∙ (ap (λ ls. build (forward_wants (with_wants net g) p new (net.children p b) v.wants) ls (frames f)) (ap (λ (q : ℕ → List Report). flat_map q (net.subscribers_at b)) (fun_ext (λ s. told_agree net f g p v.horizon to s know j.runs both)))
    ∙ ap (build (forward_wants (with_wants net g) p new (net.children p b) v.wants) (lines g)) (frames_agree net f g v.joins p b new (net.children p b) v.wants n))
  where
    keeps : Bool
    keeps = keeps_horizon net p b

    new : Known
    new = new_ticks v.know piece

    know : Known
    know = zip_runs Q Q Q same_K join_K v.know piece

    j : AreRunsOf Q (λ t. join_K (known_at v.know t) (known_at piece t)) know
    j = joined-is v.know piece r i

    to : ℕ
    to = horizon_after keeps v.horizon know

    n : Agree p f g new
    n = new_agree p f g v.know piece r i k

    both : Agree p f g know
    both t e x s = ⊎_elim (λ y. h t e y s) (λ y. k t e y s) (join_event (known_at v.know t) (known_at piece t) e (sym (j.same_at t) ∙ x))

    lines : Wants → List Report
    lines q = flat_map (delivery_lines (with_wants net q) p v.horizon to (data_ticks v.horizon to know)) (net.subscribers_at b)

    frames : Wants → List Frame
    frames q = forward_frames v.joins (with_wants net q) p b new (net.children p b) v.wants

    build : List Wanted → List Report → List Frame → Outcome
    build ws ls fs = record {
      view = kept_view (with_wants net g) p b (record { know = finished know (consolidated keeps to ws); wants = ws; asks = v.asks; horizon = to; joins = v.joins });
      log = log;
      lines = ls;
      frames = fs;
    }

pub reply_agree : (net : Net) (f g : Wants) (p c i : ℕ) (piece : Wanted) (v : View) → Agree p f g v.know → reply_of (with_wants net f) p c i piece v ≡ reply_of (with_wants net g) p c i piece v
unfolding answers
reply_agree net f g p c i piece v h = ap (λ k. answers_of k (acknowledged (get_or v.wants i []) piece) piece) (passed_agree net f g p c v.know h)

pub curiosity_agree : (net : Net) (f g : Wants) (p b now c i : ℕ) (piece : Wanted) (v : View) (log : Log) → Agree p f g v.know → curiosity (with_wants net f) p b now c i piece v log ≡ curiosity (with_wants net g) p b now c i piece v log
unfolding curiosity kept_view
curiosity_agree net f g p b now c i piece v log h = ap build (reply_agree net f g p c i piece v h)
  where
    w : Wanted
    w = acknowledged (get_or v.wants i []) piece

    ws : List Wanted
    ws = set v.wants i (stored v.know w piece)

    know : Known
    know = finished v.know (consolidated (keeps_horizon net p b) v.horizon ws)

    build : Known → Outcome
    build reply =
        let asked = asked_of (with_wants net g) p b now i piece reply v in
        record {
          view = kept_view (with_wants net g) p b (record { know = know; wants = ws; asks = noted now v.asks asked; horizon = v.horizon; joins = v.joins });
          log = log;
          lines = [];
          frames = know_frames v.joins b c p reply ++ up_frames (with_wants net g) p b asked;
        }

-- Calls that ask do not look at what is wanted
pub expect_agree : (net : Net) (f g : Wants) (p b now tick : ℕ) (v : View) (log : Log) → expect (with_wants net f) p b now tick v log ≡ expect (with_wants net g) p b now tick v log
unfolding expect asking kept_view
expect_agree net f g p b now tick v log = refl

below_agree : (net : Net) (f g : Wants) (p b now : ℕ) (v : View) (log : Log) → wake_below (with_wants net f) p b now v log ≡ wake_below (with_wants net g) p b now v log
unfolding wake_below asking kept_view
below_agree net f g p b now v log = refl

-- The host

pub silent_agree : (p first last : ℕ) (f g : Wants) → Agree p f g (silence first last [])
unfolding silence
silent_agree p first last f g t e x s = absurd (go (nat_le first last) x)
  where
    one : (q : Bool) → (if q then S else Q) ≡ D e → ⊥
    one true z = cc
    one false z = cc

    go : (q : Bool) → known_at (if q then record { first = first; last = last; value = S } ∷ [] else []) t ≡ D e → ⊥
    go true z = one (nat_le first t && nat_le t last) z
    go false z = cc

marking_agree : (net : Net) (f g : Wants) (p b now : ℕ) (v : View) (log : Log) → AreRuns Q v.know → AreRuns Q (silence (suc log.settled) now []) → Agree p f g v.know → marking (with_wants net f) p b now v log ≡ marking (with_wants net g) p b now v log
unfolding marking quieted
marking_agree net f g p b now v log r i h = at (nat_le (log.settled + net.quiet) now)
  where
    answer : Bool → Quieted
    answer q = elim q [ true ↦ Marked now (silence (suc log.settled) now []) | false ↦ NotYet ]

    at : (q : Bool) → marking_by (with_wants net f) p b v log (answer q) ≡ marking_by (with_wants net g) p b v log (answer q)
    at true = learn_agree net f g p b (silence (suc log.settled) now []) v (with_mark log now) r i h (silent_agree p (suc log.settled) now f g)
    at false = refl

pub wake_agree : (net : Net) (f g : Wants) (p b now : ℕ) (v : View) (log : Log) → AreRuns Q v.know → AreRuns Q (silence (suc log.settled) now []) → Agree p f g v.know → wake (with_wants net f) p b now v log ≡ wake (with_wants net g) p b now v log
unfolding wake wake_host cutting
wake_agree net f g p b now v log r i h = go (is_host net p b)
  where
    woken : Outcome → Outcome
    woken o =
        let cut = cutting (with_wants net g) p b o.view o.log in
        record {
          view = o.view;
          log = cut;
          lines = (if nat_lt log.settled o.log.settled then line.Mark p now ∷ [] else [])
              ++ cutting_lines p o.log cut
              ++ o.lines;
          frames = o.frames ++ (if nat_lt 0 cut.settled then expect_frames p b cut.settled (net.children p b) o.view.wants else []);
        }

    go : (q : Bool) → (elim q as (λ x. Outcome) [ true ↦ wake_host (with_wants net f) p b now v log | false ↦ wake_below (with_wants net f) p b now v log ]) ≡ (elim q as (λ x. Outcome) [ true ↦ wake_host (with_wants net g) p b now v log | false ↦ wake_below (with_wants net g) p b now v log ])
    go true = ap woken (marking_agree net f g p b now v log r i h)
    go false = below_agree net f g p b now v log

pub publish_agree : (net : Net) (f g : Wants) (p b now number : ℕ) (e : Event) (v : View) (log : Log) → AreRuns Q v.know → Agree p f g v.know →
    (let tick = max (suc log.settled) now in let piece = silence (suc log.settled) (tick - 1) (record { first = tick; last = tick; value = D e } ∷ []) in AreRuns Q piece →
    (nat_le number log.last ≡ false → nat_lt (suc log.last) number ≡ false → nat_lt max_tick tick ≡ false → Agree p f g piece) → publish (with_wants net f) p b now number e v log ≡ publish (with_wants net g) p b now number e v log)
unfolding publish published
publish_agree net f g p b now number e v log r h i k = at (nat_le number log.last) (nat_lt (suc log.last) number) (nat_lt max_tick tick) refl refl refl
  where
    tick : ℕ
    tick = max (suc log.settled) now

    answer : Bool → Bool → Bool → Published
    answer x y z = elim x [ true ↦ Already | false ↦ elim y [ true ↦ Gap (suc log.last) | false ↦ elim z [ true ↦ Exhausted | false ↦ Logged tick (news_of log tick e) ] ] ]

    said : Outcome → Outcome
    said o = record { view = o.view; log = o.log; lines = line.Logged p number tick ∷ o.lines; frames = o.frames }

    at : (x y z : Bool) → nat_le number log.last ≡ x → nat_lt (suc log.last) number ≡ y → nat_lt max_tick tick ≡ z → publish_by (with_wants net f) p b number e v log (answer x y z) ≡ publish_by (with_wants net g) p b number e v log (answer x y z)
    at true y z a c d = refl
    at false true z a c d = refl
    at false false true a c d = refl
    at false false false a c d = ap said (learn_agree net f g p b (news_of log tick e) v (with_event log tick e) r i h (k a c d))

-- what a publish logs, where it does
pub publish_logs : (net : Net) (p b now number : ℕ) (e : Event) (v : View) (log : Log) → (let tick = max (suc log.settled) now in
    nat_le number log.last ≡ false → nat_lt (suc log.last) number ≡ false → nat_lt max_tick tick ≡ false → (publish net p b now number e v log).log ≡ with_event log tick e)
unfolding publish published learn
publish_logs net p b now number e v log a c d = at (nat_le number log.last) (nat_lt (suc log.last) number) (nat_lt max_tick tick) a c d
  where
    tick : ℕ
    tick = max (suc log.settled) now

    at : (x y z : Bool) → x ≡ false → y ≡ false → z ≡ false →
        (let o : Outcome = publish_by net p b number e v log (elim x [ true ↦ Already | false ↦ elim y [ true ↦ Gap (suc log.last) | false ↦ elim z [ true ↦ Exhausted | false ↦ Logged tick (news_of log tick e) ] ] ]) in o.log ≡ with_event log tick e)
    at true y z a c d = absurd (true≢false a)
    at false true z a c d = absurd (true≢false c)
    at false false true a c d = absurd (true≢false d)
    at false false false a c d = refl

-- a join
pub joining_agree : (net : Net) (f g : Wants) (p b now s : ℕ) (v : View) (log : Log) → AreRuns Q v.know → (let tick = max (suc log.settled) now in AreRuns Q (silence (suc log.settled) tick []) →
    (has_joined log.joins s ≡ false → nat_lt max_tick tick ≡ false → Agree p f g v.know) → joining (with_wants net f) p b now s v log ≡ joining (with_wants net g) p b now s v log)
unfolding joining joined_at
joining_agree net f g p b now s v log r i h = at (has_joined log.joins s) (nat_lt max_tick tick) refl refl
  where
    tick : ℕ
    tick = max (suc log.settled) now

    said : Outcome → Outcome
    said o = record { view = o.view; log = o.log; lines = line.Joined s p tick ∷ o.lines; frames = o.frames }

    at : (x y : Bool) → has_joined log.joins s ≡ x → nat_lt max_tick tick ≡ y →
        joining_by (with_wants net f) p b s v log (elim x [ true ↦ joins.Already | false ↦ elim y [ true ↦ joins.Exhausted | false ↦ joins.Logged tick (silence (suc log.settled) tick []) ] ])
        ≡ joining_by (with_wants net g) p b s v log (elim x [ true ↦ joins.Already | false ↦ elim y [ true ↦ joins.Exhausted | false ↦ joins.Logged tick (silence (suc log.settled) tick []) ] ])
    at true y a c = refl
    at false true a c = refl
    at false false a c = ap said (learn_agree net f g p b (silence (suc log.settled) tick []) (with_joins v (with_join log tick s).joins) (with_join log tick s) r i (h a c) (silent_agree p (suc log.settled) tick f g))

-- what a join logs, where it does
pub joining_logs : (net : Net) (p b now s : ℕ) (v : View) (log : Log) → (let tick = max (suc log.settled) now in has_joined log.joins s ≡ false → nat_lt max_tick tick ≡ false → (joining net p b now s v log).log ≡ with_join log tick s)
unfolding joining joined_at learn
joining_logs net p b now s v log a c = at (has_joined log.joins s) (nat_lt max_tick tick) a c
  where
    tick : ℕ
    tick = max (suc log.settled) now

    at : (x y : Bool) → x ≡ false → y ≡ false → (let o : Outcome = joining_by net p b s v log (elim x [ true ↦ joins.Already | false ↦ elim y [ true ↦ joins.Exhausted | false ↦ joins.Logged tick (silence (suc log.settled) tick []) ] ]) in o.log ≡ with_join log tick s)
    at true y a c = absurd (true≢false a)
    at false true a c = absurd (true≢false c)
    at false false a c = refl

-- a frame
pub knowledge_agree : (net : Net) (f g : Wants) (p b : ℕ) (runs : Known) (js : Joins) (v : View) (log : Log) → AreRuns Q v.know → AreRuns Q runs → Agree p f g v.know → Agree p f g runs → (q : Bool) →
    (elim q as (λ x. Outcome) [ true ↦ record { view = v; log = log; lines = []; frames = [] } | false ↦ learn (with_wants net f) p b runs (with_joins v (longer v.joins js)) log ])
    ≡ (elim q as (λ x. Outcome) [ true ↦ record { view = v; log = log; lines = []; frames = [] } | false ↦ learn (with_wants net g) p b runs (with_joins v (longer v.joins js)) log ])
knowledge_agree net f g p b runs js v log r i h k true = refl
knowledge_agree net f g p b runs js v log r i h k false = learn_agree net f g p b runs (with_joins v (longer v.joins js)) log r i h k
