-- Events that were cut change nothing: a log is passed through, or read for its numbers and for the events past its cut. So two runs over logs that differ in events up to the cut tell the same lines and leave the same worlds but for those events
use Rattle.std.proofs.Common.{◌≡◌, ℕ, suc, zero, ◌+◌, ◌-◌, ◌≤◌, ◌<◌, max, Bool, true, false, ◌&&◌, List, [], ◌∷◌, ◌++◌, map, length, set, get_or, refl, sym, ap, ap₂, ◌∙◌, subst, Option, Some, None, arith}
use Rattle.std.specs.Prelude.{nat_eq, nat_le, nat_lt, if◌then◌else◌, flat_map, filter}
use Rattle.std.proofs.lemmas.Bool.{ne_eqb, ltb-true, ltb-false, leb-false}
use Rattle.std.proofs.lemmas.List.Elements.{filter-append}
use Rattle.gr_event.specs.Joins.{has_joined, Joins, longer}
use Rattle.gr_event.specs.declared.event.Event.{Event}
use Rattle.gr_frame.specs.declared.Body.{Body}
use Rattle.gr_frame.specs.declared.Body.TheVariants as body
use Rattle.gr_frame.specs.declared.Frame.{Frame}
use Rattle.gr_frame.specs.Bytes.{frame_bytes}
use Rattle.gr_know.specs.declared.values.K.{K}
use Rattle.gr_know.specs.declared.values.K.TheVariants.{Q, D, F}
use Rattle.gr_know.specs.Values.{Known}
use Rattle.gr_sched.specs.declared.step.Stop.{Stop}
use Rattle.gr_sched.specs.declared.step.Step.{Step}
use Rattle.gr_sched.specs.declared.step.Step.TheVariants as step
use Rattle.gr_sched.specs.declared.step.Line.{Line}
use Rattle.gr_model.specs.declared.report.Report.{Report}
use Rattle.gr_model.specs.declared.report.Report.TheVariants as line
use Rattle.gr_pubend.specs.declared.answers.Joined.TheVariants as joins
use Rattle.gr_model.specs.Net.{Net, is_host, keeps_horizon, not_empty, numbers}
use Rattle.gr_model.specs.Broker.{taking, view_joined, joining, joining_by, joined_at, with_join, with_joins, drops, View, Log, Outcome, empty_log, event_at, log_at, log_know, with_event, with_mark, with_cut, past, cut_log_at, filled_log, reclaims, size_filled, cutting_lines, silence, learn, receive, curiosity, expect, asking, place_of, published, quieted, publish, publish_by, marking, marking_by, cutting, wake, wake_host, wake_below, expect_frames, started, done_upto, consolidated, is_kept, max_tick}
use Rattle.gr_model.specs.World.{join_now_by, World, Transition, view_of, log_of, absorbed, unchanged, followed_by, in_turn, frame_at, opened_lines, restarted, crash, greatest_settled, sweep_moment, is_want, is_know_to, inwards, outwards, frames_past, sent_since, kept_events, show, wake_for_by, wake_all_by, deliver_frame_by, publish_now_by, publish_stopped_by, deliver_up_by, wake_up_by, hand_down_by, sweep_for_by, sweep_by, next_by, run_from_by}
use Rattle.gr_pubend.specs.declared.answers.Published.TheVariants.{Logged, Already, Gap, Exhausted}
use Rattle.gr_pubend.specs.declared.answers.Quieted.TheVariants.{NotYet, Marked}
use Rattle.gr_model_calls.proofs.calls.HostCases.{news_of}
use Rattle.gr_model_calls.proofs.runs.Closed.{with_logs}
use Rattle.gr_model_theorems.specs.Forgets.{with_events, SameLog, SameLogs}
use Rattle.gr_model_calls.proofs.runs.Schedules.{log_know-is}
use Rattle.gr_tick.proofs.RunLaws.{runs_equal}

-- Logs

pub same_log : (l : Log) → SameLog l l
same_log l = record { events = l.events; forgets = l.forgets; is = refl; past_same = refl }

-- so it is of the logs of one publisher
pub same_get : (ls ms : List Log) (p : ℕ) → SameLogs ls ms → SameLog (get_or ls p empty_log) (get_or ms p empty_log)
same_get [] [] p s = same_log empty_log
same_get (l ∷ ls) (m ∷ ms) zero s = s.0
same_get (l ∷ ls) (m ∷ ms) (suc p) s = same_get ls ms p s.1
same_get [] (m ∷ ms) p s = absurd s
same_get (l ∷ ls) [] p s = absurd s

same_set : (ls ms : List Log) (p : ℕ) (l m : Log) → SameLogs ls ms → SameLog l m → SameLogs (set ls p l) (set ms p m)
same_set [] [] p l m s h = s
same_set (x ∷ ls) (y ∷ ms) zero l m s h = (h, s.1)
same_set (x ∷ ls) (y ∷ ms) (suc p) l m s h = (s.0, same_set ls ms p l m s.1 h)
same_set [] (y ∷ ms) p l m s h = absurd s
same_set (x ∷ ls) [] p l m s h = absurd s

past_twice : (cut t : ℕ) (zs : List (ℕ × Event)) → cut ≤ t → past t (past cut zs) ≡ past t zs
past_twice cut t [] l = refl
past_twice cut t (z ∷ zs) l = go (nat_lt cut z.0) (nat_lt t z.0) refl refl (past_twice cut t zs l)
  where
    go : (a b : Bool) → nat_lt cut z.0 ≡ a → nat_lt t z.0 ≡ b → past t (past cut zs) ≡ past t zs → past t (if a then z ∷ past cut zs else past cut zs) ≡ (if b then z ∷ past t zs else past t zs)
    go true b x y e = ap₂ (λ (c : Bool) (r : List (ℕ × Event)). if c then z ∷ r else r) y e
    go false true x y e = absurd (omega (arith, l, ltb-true t z.0 y, ltb-false cut z.0 x))
    go false false x y e = e

-- what agrees past a cut agrees past a later one
past_later : (cut t : ℕ) (xs ys : List (ℕ × Event)) → cut ≤ t → past cut xs ≡ past cut ys → past t xs ≡ past t ys
past_later cut t xs ys l e = sym (past_twice cut t xs l) ∙ (ap (past t) e ∙ past_twice cut t ys l)

-- What a log says

event_past : (cut t : ℕ) (xs : List (ℕ × Event)) → cut < t → event_at (past cut xs) t ≡ event_at xs t
event_past cut t [] l = refl
event_past cut t (x ∷ xs) l = go (nat_lt cut x.0) refl (event_past cut t xs l)
  where
    go : (a : Bool) → nat_lt cut x.0 ≡ a → event_at (past cut xs) t ≡ event_at xs t → event_at (if a then x ∷ past cut xs else past cut xs) t ≡ (if nat_eq x.0 t then D x.1 else event_at xs t)
    go true y e = ap (λ (k : K). if nat_eq x.0 t then D x.1 else k) e
    go false y e = e ∙ sym (ap (λ (c : Bool). if c then D x.1 else event_at xs t) (ne_eqb x.0 t (λ h. omega (arith, l, h, ltb-false cut x.0 y))))

-- up to the cut all is final, and past it the events are the same
same_at : (l m : Log) (t : ℕ) → SameLog l m → log_at m t ≡ log_at l t
same_at l m t s = subst (λ (x : Log). log_at x t ≡ log_at l t) (sym s.is) (go (nat_le t l.cut) refl)
  where
    go : (a : Bool) → nat_le t l.cut ≡ a → (if nat_le 1 t && nat_le t l.settled then (if nat_le t l.cut then F else event_at s.events t) else Q) ≡ (if nat_le 1 t && nat_le t l.settled then (if nat_le t l.cut then F else event_at l.events t) else Q)
    go true x = rw x refl
    go false x = ap (λ (k : K). if nat_le 1 t && nat_le t l.settled then (if nat_le t l.cut then F else k) else Q)
        (sym (event_past l.cut t s.events (leb-false t l.cut x)) ∙ (ap (λ (r : List (ℕ × Event)). event_at r t) s.past_same ∙ event_past l.cut t l.events (leb-false t l.cut x)))

same_know : (l m : Log) → SameLog l m → log_know m ≡ log_know l
same_know l m s =
    let a = log_know-is m in
    let b = log_know-is l in
    runs_equal Q 1 1 (log_know m) (log_know l) a.runs b.runs (λ t. a.same_at t ∙ (same_at l m t s ∙ sym (b.same_at t)))

-- a broker starts the same over both
pub same_started : (net : Net) (p b : ℕ) (l m : Log) → SameLog l m → started net p b m ≡ started net p b l
unfolding started
same_started net p b l m s = ap₂ (λ (k : Known) (js : Joins). let v : View = record { know = if is_host net p b then k else []; wants = map (λ _. []) (net.children p b); asks = []; horizon = 0; joins = if is_host net p b then js else [] } in v) (same_know l m s) (ap (λ (x : Log). x.joins) s.is)

-- both with a further event
same_longer : (l m : Log) (tick : ℕ) (e : Event) → SameLog l m → SameLog (with_event l tick e) (with_event m tick e)
same_longer l m tick e s = subst (λ (x : Log). SameLog (with_event l tick e) (with_event x tick e)) (sym s.is) (record {
  events = s.events ++ (tick, e) ∷ [];
  forgets = s.forgets;
  is = refl;
  past_same = filter-append (λ x. nat_lt l.cut x.0) s.events ((tick, e) ∷ []) ∙ (ap (λ (r : List (ℕ × Event)). r ++ past l.cut ((tick, e) ∷ [])) s.past_same ∙ sym (filter-append (λ x. nat_lt l.cut x.0) l.events ((tick, e) ∷ [])));
})

-- Calls

-- the second outcome is the first with another log
abbrev pub on_log : Outcome → Log → Outcome
on_log o log = record { view = o.view; log = log; lines = o.lines; frames = o.frames }

-- of two outcomes
pub record SameOut (o q : Outcome) : Type 0 where
  pub log : Log
  pub is : q ≡ on_log o log
  pub same : SameLog o.log log

-- what is learned does not look at the log
pub same_learn : (net : Net) (p b : ℕ) (piece : Known) (v : View) (l m : Log) → SameLog l m → SameOut (learn net p b piece v l) (learn net p b piece v m)
unfolding learn
same_learn net p b piece v l m s = record { log = m; is = refl; same = s }

pub same_receive : (net : Net) (now : ℕ) (x : Frame) (v : View) (l m : Log) → SameLog l m → SameOut (receive net now x v l) (receive net now x v m)
unfolding receive expect curiosity asking
same_receive net now x v l m s = go x.body
  where
    told : Body → Log → Outcome
    told y log = elim y [
      | body.Knowledge runs js ↦ elim (drops v runs js) [ true ↦ record { view = v; log = log; lines = []; frames = [] } | false ↦ learn net x.head.publisher x.head.to runs (with_joins v (longer v.joins js)) log ]
      | body.Curiosity runs ↦ curiosity net x.head.publisher x.head.to now x.head.from (place_of x.head.from (net.children x.head.publisher x.head.to)) runs v log
      | body.Expect tick ↦ expect net x.head.publisher x.head.to now tick v log
    ]

    learned : (runs : Known) (js : Joins) (c : Bool) → (let f : Log → Outcome = λ log. elim c [ true ↦ record { view = v; log = log; lines = []; frames = [] } | false ↦ learn net x.head.publisher x.head.to runs (with_joins v (longer v.joins js)) log ] in SameOut (f l) (f m))
    learned runs js true = record { log = m; is = refl; same = s }
    learned runs js false = same_learn net x.head.publisher x.head.to runs (with_joins v (longer v.joins js)) l m s

    go : (y : Body) → SameOut (told y l) (told y m)
    go (body.Knowledge runs js) = learned runs js (drops v runs js)
    go (body.Curiosity runs) = record { log = m; is = refl; same = s }
    go (body.Expect tick) = record { log = m; is = refl; same = s }

same_marking : (net : Net) (p b now : ℕ) (v : View) (l : Log) (events : List (ℕ × Event)) (f : Bool) → past l.cut events ≡ past l.cut l.events → SameOut (marking net p b now v l) (marking net p b now v (with_events l events f))
unfolding marking quieted
same_marking net p b now v l events f e = go (nat_le (l.settled + net.quiet) now)
  where
    told : Log → Bool → Outcome
    told log c = marking_by net p b v log (elim c [ true ↦ Marked now (silence (suc l.settled) now []) | false ↦ NotYet ])

    go : (c : Bool) → SameOut (told l c) (told (with_events l events f) c)
    go true = same_learn net p b (silence (suc l.settled) now []) v (with_mark l now) (with_mark (with_events l events f) now) (record { events = events; forgets = f; is = refl; past_same = e })
    go false = record { log = with_events l events f; is = refl; same = record { events = events; forgets = f; is = refl; past_same = e } }

-- what is past the cut of a log after it
kept_past : (t : ℕ) (f : Bool) (xs : List (ℕ × Event)) → past t (if f then past t xs else xs) ≡ past t xs
kept_past t true xs = past_twice t t xs (omega arith)
kept_past t false xs = refl

-- a later cut of both, by a record or by writing them anew
pub same_cut : (reclaim t : ℕ) (l m : Log) → l.cut ≤ t → SameLog l m → SameLog (cut_log_at reclaim l t) (cut_log_at reclaim m t)
same_cut reclaim t l m le s = subst (λ (x : Log). SameLog (cut_log_at reclaim l t) (cut_log_at reclaim x t)) (sym s.is) (go (reclaims reclaim l.size l.generation))
  where
    n : Log
    n = with_events l s.events s.forgets

    events : List (ℕ × Event)
    events = if s.forgets then past t s.events else s.events

    agree : past t events ≡ past t (if l.forgets then past t l.events else l.events)
    agree = kept_past t s.forgets s.events ∙ (past_later l.cut t s.events l.events le s.past_same ∙ sym (kept_past t l.forgets l.events))

    go : (b : Bool) → SameLog (if b then filled_log (with_cut l t) else with_cut l t) (if b then filled_log (with_cut n t) else with_cut n t)
    go true = record {
      events = events;
      forgets = s.forgets;
      is = ap (λ (k : ℕ). let x : Log = record { last = l.last; settled = l.settled; cut = t; events = events; joins = l.joins; generation = suc l.generation; size = k; forgets = s.forgets } in x)
          (ap (λ (xs : List (ℕ × Event)). size_filled t l.settled xs l.joins) agree);
      past_same = agree;
    }
    go false = record { events = events; forgets = s.forgets; is = refl; past_same = agree }

same_cutting : (net : Net) (p b : ℕ) (v : View) (l : Log) (events : List (ℕ × Event)) (f : Bool) → past l.cut events ≡ past l.cut l.events → SameLog (cutting net p b v l) (cutting net p b v (with_events l events f))
unfolding cutting
same_cutting net p b v l events f e = go (nat_lt l.cut a) refl
  where
    a : ℕ
    a = done_upto (consolidated (keeps_horizon net p b) v.horizon v.wants) l.settled

    n : Log
    n = with_events l events f

    still : SameLog l n
    still = record { events = events; forgets = f; is = refl; past_same = e }

    go : (c : Bool) → nat_lt l.cut a ≡ c → SameLog (if c then cut_log_at net.reclaim l a else l) (if c then cut_log_at net.reclaim n a else n)
    go true x = same_cut net.reclaim a l n (omega (arith, ltb-true l.cut a x)) still
    go false x = still

-- what a woken host leaves and tells, by its marking and its new log
abbrev hosted : Net → ℕ → ℕ → ℕ → Log → Outcome → Log → Outcome
hosted net p b now l o new = record {
  view = o.view;
  log = new;
  lines = (if nat_lt l.settled o.log.settled then line.Mark p now ∷ [] else [])
      ++ cutting_lines p o.log new
      ++ o.lines;
  frames = o.frames ++ (if nat_lt 0 new.settled then expect_frames p b new.settled (net.children p b) o.view.wants else []);
}

pub same_wake : (net : Net) (p b now : ℕ) (v : View) (l m : Log) → SameLog l m → SameOut (wake net p b now v l) (wake net p b now v m)
unfolding wake wake_host wake_below asking
same_wake net p b now v l m s = subst (λ (x : Log). SameOut (wake net p b now v l) (wake net p b now v x)) (sym s.is) (go (is_host net p b))
  where
    n : Log
    n = with_events l s.events s.forgets

    told : Log → Bool → Outcome
    told log c = elim c [ true ↦ wake_host net p b now v log | false ↦ wake_below net p b now v log ]

    k : SameOut (marking net p b now v l) (marking net p b now v n)
    k = same_marking net p b now v l s.events s.forgets s.past_same

    o : Outcome
    o = marking net p b now v l

    cut : SameLog (cutting net p b o.view o.log) (cutting net p b o.view (with_events o.log k.same.events k.same.forgets))
    cut = same_cutting net p b o.view o.log k.same.events k.same.forgets k.same.past_same

    c : Log
    c = cutting net p b o.view o.log

    on_marking : marking net p b now v n ≡ on_log o (with_events o.log k.same.events k.same.forgets)
    on_marking = k.is ∙ ap (on_log o) k.same.is

    host_is : wake_host net p b now v n ≡ on_log (hosted net p b now l o c) (with_events c cut.events cut.forgets)
    host_is =
        ap (λ (q : Outcome). hosted net p b now l q (cutting net p b q.view q.log)) on_marking
        ∙ ap (λ (x : Log). hosted net p b now l (on_log o (with_events o.log k.same.events k.same.forgets)) x) cut.is

    go : (q : Bool) → SameOut (told l q) (told n q)
    go true = record { log = with_events c cut.events cut.forgets; is = host_is; same = record { events = cut.events; forgets = cut.forgets; is = refl; past_same = cut.past_same } }
    go false = record { log = n; is = refl; same = record { events = s.events; forgets = s.forgets; is = refl; past_same = s.past_same } }

pub same_publish : (net : Net) (p b now number : ℕ) (e : Event) (v : View) (l m : Log) → SameLog l m → SameOut (publish net p b now number e v l) (publish net p b now number e v m)
unfolding publish published
same_publish net p b now number e v l m s = subst (λ (x : Log). SameOut (publish net p b now number e v l) (publish net p b now number e v x)) (sym s.is) (go (nat_le number l.last) (nat_lt (suc l.last) number) (nat_lt max_tick tick))
  where
    tick : ℕ
    tick = max (suc l.settled) now

    n : Log
    n = with_events l s.events s.forgets

    told : Log → Bool → Bool → Bool → Outcome
    told log x y z =
        publish_by net p b number e v log
        (elim x [ true ↦ Already | false ↦ elim y [ true ↦ Gap (suc l.last) | false ↦ elim z [ true ↦ Exhausted | false ↦ Logged tick (news_of l tick e) ] ] ])

    still : SameLog l n
    still = record { events = s.events; forgets = s.forgets; is = refl; past_same = s.past_same }

    learned : SameOut (learn net p b (news_of l tick e) v (with_event l tick e)) (learn net p b (news_of l tick e) v (with_event n tick e))
    learned = same_learn net p b (news_of l tick e) v (with_event l tick e) (with_event n tick e) (same_longer l n tick e still)

    go : (x y z : Bool) → SameOut (told l x y z) (told n x y z)
    go true y z = record { log = n; is = refl; same = still }
    go false true z = record { log = n; is = refl; same = still }
    go false false true = record { log = n; is = refl; same = still }
    go false false false = record { log = learned.log; is = ap (λ (o : Outcome). let q : Outcome = record { view = o.view; log = o.log; lines = line.Logged p number tick ∷ o.lines; frames = o.frames } in q) learned.is; same = learned.same }

pub same_joining : (net : Net) (p b now q : ℕ) (v : View) (l m : Log) → SameLog l m → SameOut (joining net p b now q v l) (joining net p b now q v m)
unfolding joining joined_at
same_joining net p b now q v l m s = subst (λ (x : Log). SameOut (joining net p b now q v l) (joining net p b now q v x)) (sym s.is) (go (has_joined l.joins q) (nat_lt max_tick tick))
  where
    tick : ℕ
    tick = max (suc l.settled) now

    n : Log
    n = with_events l s.events s.forgets

    piece : Known
    piece = silence (suc l.settled) tick []

    told : Log → Bool → Bool → Outcome
    told log x y = joining_by net p b q v log (elim x [ true ↦ joins.Already | false ↦ elim y [ true ↦ joins.Exhausted | false ↦ joins.Logged tick piece ] ])

    still : SameLog l n
    still = record { events = s.events; forgets = s.forgets; is = refl; past_same = s.past_same }

    u : View
    u = with_joins v (with_join l tick q).joins

    learned : SameOut (learn net p b piece u (with_join l tick q)) (learn net p b piece u (with_join n tick q))
    learned = same_learn net p b piece u (with_join l tick q) (with_join n tick q) (record { events = s.events; forgets = s.forgets; is = refl; past_same = s.past_same })

    go : (x y : Bool) → SameOut (told l x y) (told n x y)
    go true y = record { log = n; is = refl; same = still }
    go false true = record { log = n; is = refl; same = still }
    go false false = record { log = learned.log; is = ap (λ (o : Outcome). let z : Outcome = record { view = o.view; log = o.log; lines = line.Joined q p tick ∷ o.lines; frames = o.frames } in z) learned.is; same = learned.same }

-- Worlds

-- the second is the first with other logs, and has told the same lines
pub record SameTold (t u : Transition) : Type 0 where
  pub logs : List Log
  pub is : u ≡ record { world = with_logs t.world logs; lines = t.lines }
  pub same : SameLogs t.world.logs logs

-- what a part of a run does over other logs is what it does, but for the logs
abbrev pub Follows : (World → Transition) → Type 0
Follows f = (w : World) (ls : List Log) → SameLogs w.logs ls → SameTold (f w) (f (with_logs w ls))

-- both outcomes are taken up
pub same_absorbed : (w : World) (ls : List Log) (b p : ℕ) (o q : Outcome) → SameLogs w.logs ls → SameOut o q → SameTold (absorbed w b p o) (absorbed (with_logs w ls) b p q)
unfolding absorbed
same_absorbed w ls b p o q s h = record {
  logs = set ls p h.log;
  is = ap (absorbed (with_logs w ls) b p) h.is;
  same = same_set w.logs ls p o.log h.log s h.same;
}

-- both stay, and tell the same
pub same_unchanged : (w : World) (ls : List Log) (told : List Report) → SameLogs w.logs ls → SameTold (unchanged w told) (unchanged (with_logs w ls) told)
same_unchanged w ls told s = record { logs = ls; is = refl; same = s }

-- one part after another
pub same_after : (t u : Transition) (f g : World → Transition) → SameTold t u → ((ls : List Log) → SameLogs t.world.logs ls → SameTold (f t.world) (g (with_logs t.world ls))) → SameTold (followed_by t f) (followed_by u g)
same_after t u f g s h =
    let k = h s.logs s.same in
    subst (λ (x : Transition). SameTold (followed_by t f) (followed_by x g)) (sym s.is)
    (record { logs = k.logs; is = ap (λ (r : Transition). let x : Transition = record { world = r.world; lines = t.lines ++ r.lines } in x) k.is; same = k.same })

-- each in turn
pub same_in_turn : {X : Type 0} (f : World → X → Transition) → ((x : X) → Follows (λ u. f u x)) → (xs : List X) → Follows (in_turn f xs)
same_in_turn f one [] w ls s = same_unchanged w ls [] s
same_in_turn f one (x ∷ xs) w ls s = same_after (f w x) (f (with_logs w ls) x) (in_turn f xs) (in_turn f xs) (one x w ls s) (λ ms k. same_in_turn f one xs (f w x).world ms k)

-- a wake, a delivery, a publish, and a wake for all publishers
same_wake_for : (see : View → Net) (net : Net) (b p : ℕ) → Follows (λ w. wake_for_by see net w b p)
unfolding wake_for_by
same_wake_for see net b p w ls s =
    same_absorbed w ls b p (wake (see (view_of w b p)) p b w.clock (view_of w b p) (log_of w p)) (wake (see (view_of w b p)) p b w.clock (view_of w b p) (get_or ls p empty_log)) s
    (same_wake (see (view_of w b p)) p b w.clock (view_of w b p) (log_of w p) (get_or ls p empty_log) (same_get w.logs ls p s))

-- a delivery does the same over both
pub same_deliver : (see : View → Net) (net : Net) (x : Frame) → Follows (λ w. deliver_frame_by see net w x)
unfolding deliver_frame_by
same_deliver see net x w ls s =
    let p = x.head.publisher in
    same_absorbed w ls x.head.to p (receive (see (taking (view_of w x.head.to p) x)) w.clock x (view_of w x.head.to p) (log_of w p)) (receive (see (taking (view_of w x.head.to p) x)) w.clock x (view_of w x.head.to p) (get_or ls p empty_log)) s
    (same_receive (see (taking (view_of w x.head.to p) x)) w.clock x (view_of w x.head.to p) (log_of w p) (get_or ls p empty_log) (same_get w.logs ls p s))

-- a publish does the same over both
pub same_publish_now : (see : View → Net) (net : Net) (p number : ℕ) (e : Event) → Follows (λ w. publish_now_by see net w p number e)
unfolding publish_now_by
same_publish_now see net p number e w ls s =
    let b = net.host p in
    same_absorbed w ls b p (publish (see (view_of w b p)) p b w.clock number e (view_of w b p) (log_of w p)) (publish (see (view_of w b p)) p b w.clock number e (view_of w b p) (get_or ls p empty_log)) s
    (same_publish (see (view_of w b p)) p b w.clock number e (view_of w b p) (log_of w p) (get_or ls p empty_log) (same_get w.logs ls p s))

-- so does a join
pub same_join_now : (see : View → Net) (net : Net) (q p : ℕ) → Follows (λ w. join_now_by see net w q p)
unfolding join_now_by
same_join_now see net q p w ls s =
    let b = net.host p in
    let v : View = view_of w b p in
    let at : Log → Net = λ l. see (view_joined l q w.clock v) in
    let h = same_get w.logs ls p s in
    same_absorbed w ls b p (joining (at (log_of w p)) p b w.clock q v (log_of w p)) (joining (at (get_or ls p empty_log)) p b w.clock q v (get_or ls p empty_log)) s
    (subst (λ (g : Net). SameOut (joining (at (log_of w p)) p b w.clock q v (log_of w p)) (joining g p b w.clock q v (get_or ls p empty_log))) (sym (ap at h.is))
    (same_joining (at (log_of w p)) p b w.clock q v (log_of w p) (get_or ls p empty_log) h))

-- waking a broker for all publishers does the same over both
pub same_wake_all : (see : View → Net) (net : Net) (b : ℕ) → Follows (λ w. wake_all_by see net w b)
unfolding wake_all_by
same_wake_all see net b w ls s = same_in_turn (λ u p. wake_for_by see net u b p) (λ p. same_wake_for see net b p) (numbers net.publishers) w ls s

same_deliver_up : (see : View → Net) (net : Net) (fuel : ℕ) (fs : List Frame) → Follows (deliver_up_by see net fuel fs)
unfolding deliver_up_by
same_deliver_up see net zero fs w ls s = same_unchanged w ls [] s
same_deliver_up see net (suc fuel) fs w ls s =
    same_in_turn (λ u x. followed_by (deliver_frame_by see net u x) (λ y. deliver_up_by see net fuel (filter is_want (sent_since u y)) y))
    (λ x u ms k. let onward : World → Transition = λ y. deliver_up_by see net fuel (filter is_want (sent_since u y)) y in
    same_after (deliver_frame_by see net u x) (deliver_frame_by see net (with_logs u ms) x) onward onward (same_deliver see net x u ms k)
    (λ rs r. same_deliver_up see net fuel (filter is_want (sent_since u (deliver_frame_by see net u x).world)) (deliver_frame_by see net u x).world rs r))
    fs w ls s

same_wake_up : (see : View → Net) (net : Net) (p b : ℕ) → Follows (λ w. wake_up_by see net p w b)
unfolding wake_up_by
same_wake_up see net p b w ls s =
    let onward : World → Transition = λ u. deliver_up_by see net net.brokers (filter is_want (sent_since w u)) u in
    same_after (wake_for_by see net w b p) (wake_for_by see net (with_logs w ls) b p) onward onward (same_wake_for see net b p w ls s)
    (λ rs r. same_deliver_up see net net.brokers (filter is_want (sent_since w (wake_for_by see net w b p).world)) (wake_for_by see net w b p).world rs r)

same_hand_down : (see : View → Net) (net : Net) (p first b : ℕ) → Follows (λ w. hand_down_by see net p first w b)
unfolding hand_down_by
same_hand_down see net p first b w ls s = same_in_turn (deliver_frame_by see net) (λ x. same_deliver see net x) (filter (is_know_to p b) (frames_past first w.frames)) w ls s

same_sweep_for : (see : View → Net) (net : Net) (p : ℕ) → Follows (λ w. sweep_for_by see net w p)
unfolding sweep_for_by
same_sweep_for see net p w ls s =
    let wakes : World → Transition = in_turn (wake_up_by see net p) (inwards net p) in
    let downs : World → Transition = in_turn (hand_down_by see net p (length w.frames)) (outwards net p) in
    let wakes_on : Follows wakes = same_in_turn (wake_up_by see net p) (λ b. same_wake_up see net p b) (inwards net p) in
    let downs_on : Follows downs = same_in_turn (hand_down_by see net p (length w.frames)) (λ b. same_hand_down see net p (length w.frames) b) (outwards net p) in
    same_after (followed_by (wakes w) downs) (followed_by (wakes (with_logs w ls)) downs) wakes wakes
    (same_after (wakes w) (wakes (with_logs w ls)) downs downs (wakes_on w ls s) (λ rs r. downs_on (wakes w).world rs r))
    (λ rs r. wakes_on (followed_by (wakes w) downs).world rs r)

-- the moment of a sweep
pub same_moment : (net : Net) (w : World) (ls : List Log) → SameLogs w.logs ls → sweep_moment net (with_logs w ls) ≡ sweep_moment net w
unfolding sweep_moment
same_moment net w ls s = ap (λ (ns : List ℕ). max w.most (greatest_settled ns) + net.gap + net.idle + net.retry + net.quiet + 1) (settled_same w.logs ls s)
  where
    settled_same : (ls ms : List Log) → SameLogs ls ms → map (λ l. l.settled) ms ≡ map (λ l. l.settled) ls
    settled_same [] [] s = refl
    settled_same (l ∷ ls) (m ∷ ms) s = ap₂ (λ (x : ℕ) (xs : List ℕ). x ∷ xs) (ap (λ (x : Log). x.settled) s.0.is) (settled_same ls ms s.1)
    settled_same [] (m ∷ ms) s = absurd s
    settled_same (l ∷ ls) [] s = absurd s

pub same_sweep : (see : View → Net) (net : Net) (k : ℕ) → Follows (λ w. sweep_by see net w k)
unfolding sweep_by
same_sweep see net k w ls s =
    subst (λ (m : ℕ). SameTold (told w (sweep_moment net w)) (told (with_logs w ls) m)) (sym (same_moment net w ls s)) (go (nat_lt max_tick (sweep_moment net w)))
  where
    moved : World → ℕ → World
    moved u m = record { clock = m; most = max m u.most; frames = u.frames; views = u.views; logs = u.logs }

    by_test : World → ℕ → Bool → Transition
    by_test u m q = elim q [ true ↦ unchanged u (line.RefusedClock k m ∷ []) | false ↦ followed_by (in_turn (sweep_for_by see net) (numbers net.publishers) (moved u m)) (λ x. unchanged x (line.Swept m ∷ [])) ]

    told : World → ℕ → Transition
    told u m = by_test u m (nat_lt max_tick m)

    go : (q : Bool) → SameTold (by_test w (sweep_moment net w) q) (by_test (with_logs w ls) (sweep_moment net w) q)
    go true = same_unchanged w ls (line.RefusedClock k (sweep_moment net w) ∷ []) s
    go false =
        let m = sweep_moment net w in
        let swept : World → Transition = in_turn (sweep_for_by see net) (numbers net.publishers) in
        let last : World → Transition = λ x. unchanged x (line.Swept m ∷ []) in
        same_after (swept (moved w m)) (swept (with_logs (moved w m) ls)) last last (same_in_turn (sweep_for_by see net) (λ p. same_sweep_for see net p) (numbers net.publishers) (moved w m) ls s) (λ rs r. same_unchanged (swept (moved w m)).world rs (line.Swept m ∷ []) r)

-- Starting again, and what is shown

same_opened : (net : Net) (ls ms : List Log) (b : ℕ) → SameLogs ls ms → opened_lines net ms b ≡ opened_lines net ls b
unfolding opened_lines
same_opened net ls ms b s = go (numbers net.publishers)
  where
    line_of : ℕ → Log → List Report
    line_of p log = if nat_eq (net.host p) b && nat_lt 0 log.settled then line.Opened p log.last log.settled log.cut ∷ [] else []

    one : (p : ℕ) (l m : Log) → SameLog l m → line_of p m ≡ line_of p l
    one p l m h = ap (line_of p) h.is

    go : (ps : List ℕ) → flat_map (λ p. line_of p (get_or ms p empty_log)) ps ≡ flat_map (λ p. line_of p (get_or ls p empty_log)) ps
    go [] = refl
    go (p ∷ ps) = ap₂ (λ (x y : List Report). x ++ y) (one p (get_or ls p empty_log) (get_or ms p empty_log) (same_get ls ms p s)) (go ps)

same_restarted : (net : Net) (w : World) (ls : List Log) (b : ℕ) → SameLogs w.logs ls → restarted net (with_logs w ls) b ≡ with_logs (restarted net w b) ls
unfolding restarted
same_restarted net w ls b s = ap (λ (row : List View). let u : World = record { clock = w.clock; most = w.most; frames = w.frames; views = set w.views b row; logs = ls } in u) (go (numbers net.publishers))
  where
    go : (ps : List ℕ) → map (λ p. started net p b (get_or ls p empty_log)) ps ≡ map (λ p. started net p b (get_or w.logs p empty_log)) ps
    go [] = refl
    go (p ∷ ps) = ap₂ (λ (x : View) (xs : List View). x ∷ xs) (same_started net p b (get_or w.logs p empty_log) (get_or ls p empty_log) (same_get w.logs ls p s)) (go ps)

restarted_logs : (net : Net) (w : World) (b : ℕ) (ls : List Log) → SameLogs w.logs ls → SameLogs (restarted net w b).logs ls
unfolding restarted
restarted_logs net w b ls s = s

-- a broker starts again, after some lines
same_restart : (net : Net) (w : World) (ls : List Log) (b : ℕ) (told : List Report) → SameLogs w.logs ls → SameTold (record { world = restarted net w b; lines = told ++ opened_lines net w.logs b }) (record { world = restarted net (with_logs w ls) b; lines = told ++ opened_lines net ls b })
same_restart net w ls b told s = record {
  logs = ls;
  is = ap₂ (λ (u : World) (more : List Report). let t : Transition = record { world = u; lines = told ++ more } in t) (same_restarted net w ls b s) (same_opened net w.logs ls b s);
  same = restarted_logs net w b ls s;
}

same_crash : (net : Net) (b : ℕ) → Follows (λ w. crash net w b)
unfolding crash
same_crash net b w ls s = same_restart net w ls b (line.Crashed b ∷ []) s

-- the line that shows a log
same_shown : (p : ℕ) (l m : Log) → SameLog l m → line.LogOf p m.last m.settled m.cut (kept_events m) ≡ line.LogOf p l.last l.settled l.cut (kept_events l)
same_shown p l m s = ap (λ (x : Log). line.LogOf p x.last x.settled x.cut (kept_events x)) s.is ∙ ap (λ (n : ℕ). line.LogOf p l.last l.settled l.cut n) (ap length s.past_same)

same_show : (net : Net) (w : World) (ls : List Log) → SameLogs w.logs ls → show net (with_logs w ls) ≡ show net w
unfolding show
same_show net w ls s = ap (λ (shown : List Report). line.Frames (length w.frames) ∷ (shown ++ doubts)) (go (numbers net.publishers))
  where
    doubts : List Report
    doubts = flat_map (λ b. flat_map (λ p. if keeps_horizon net p b then line.Doubt b p (view_of w b p).horizon ∷ [] else []) (numbers net.publishers)) (numbers net.brokers)

    go : (ps : List ℕ) → map (λ p. let l = get_or ls p empty_log in line.LogOf p l.last l.settled l.cut (kept_events l)) ps ≡ map (λ p. let l = get_or w.logs p empty_log in line.LogOf p l.last l.settled l.cut (kept_events l)) ps
    go [] = refl
    go (p ∷ ps) = ap₂ (λ (x : Report) (xs : List Report). x ∷ xs) (same_shown p (get_or w.logs p empty_log) (get_or ls p empty_log) (same_get w.logs ls p s)) (go ps)

-- Steps

same_stopped : (see : View → Net) (net : Net) (k p number : ℕ) (stop : Stop) (e : Event) → Follows (λ w. publish_stopped_by see net w k p number stop e)
unfolding publish_stopped_by
same_stopped see net k p number stop e w ls s = by_log (get_or ls p empty_log) refl (same_get w.logs ls p s)
  where
    b : ℕ
    b = net.host p

    log : Log
    log = log_of w p

    tick : ℕ
    tick = max (suc log.settled) w.clock

    logs_of : List Log → Log → Bool → List Log
    logs_of old new kept = if kept then set old p (with_event new tick e) else old

    stopped : World → Log → Bool → Transition
    stopped u new kept = record {
      world = restarted net (with_logs u (logs_of u.logs new kept)) b;
      lines = line.Crashed b ∷ ((if kept then line.Kept p number tick else line.Lost p number tick) ∷ opened_lines net (logs_of u.logs new kept) b);
    }

    told : World → Log → Bool → Bool → Bool → Transition
    told u new here next kept = elim here [ true ↦ unchanged u (line.RefusedHosts k b ∷ []) | false ↦ elim next [ false ↦ publish_now_by see net u p number e | true ↦ stopped u new kept ] ]

    go : (m : Log) → SameLog log m → (here next kept : Bool) → SameTold (told w log here next kept) (told (with_logs w ls) m here next kept)
    go m h true next kept = same_unchanged w ls (line.RefusedHosts k b ∷ []) s
    go m h false false kept = same_publish_now see net p number e w ls s
    go m h false true true =
        same_restart net (with_logs w (set w.logs p (with_event log tick e))) (set ls p (with_event m tick e)) b (line.Crashed b ∷ (line.Kept p number tick ∷ [])) (same_set w.logs ls p (with_event log tick e) (with_event m tick e) s (same_longer log m tick e h))
    go m h false true false = same_restart net w ls b (line.Crashed b ∷ (line.Lost p number tick ∷ [])) s

    all : Log → World → Transition
    all m u = let at = max (suc m.settled) u.clock in elim (not_empty (net.subscribers_at b)) [
      | true ↦ unchanged u (line.RefusedHosts k b ∷ [])
      | false ↦ elim (nat_eq number (suc m.last) && nat_le at max_tick) [
        | false ↦ publish_now_by see net u p number e
        | true ↦
            let kept = is_kept (m.size - 1) stop.call stop.pick in
            let logs = if kept then set u.logs p (with_event m at e) else u.logs in
            record {
              world = restarted net (with_logs u logs) b;
              lines = line.Crashed b ∷ ((if kept then line.Kept p number at else line.Lost p number at) ∷ opened_lines net logs b);
            }
      ]
    ]

    by_log : (m : Log) → get_or ls p empty_log ≡ m → SameLog log m → SameTold (all log w) (all (get_or ls p empty_log) (with_logs w ls))
    by_log m x h =
        subst (λ (y : Log). SameTold (all log w) (all y (with_logs w ls))) (sym (x ∙ h.is))
        (go (with_events log h.events h.forgets) (record { events = h.events; forgets = h.forgets; is = refl; past_same = h.past_same }) (not_empty (net.subscribers_at b)) (nat_eq number (suc log.last) && nat_le tick max_tick) (is_kept (log.size - 1) stop.call stop.pick))

-- a step
pub same_next : (see : View → Net) (net : Net) (l : Line) → Follows (λ w. next_by see net w l)
unfolding next_by
same_next see net l w ls s = go l.step
  where
    told : Step → World → Transition
    told z u = elim z [
      | step.Clock now ↦ unchanged (record { clock = now; most = max now u.most; frames = u.frames; views = u.views; logs = u.logs }) []
      | step.Publish p number stop e ↦ elim stop [ None ↦ publish_now_by see net u p number e | Some x ↦ publish_stopped_by see net u l.number p number x e ]
      | step.Wake b ↦ wake_all_by see net u b
      | step.Deliver k ↦ elim (frame_at u k) [ None ↦ unchanged u (line.RefusedFrame l.number k (length u.frames) ∷ []) | Some f ↦ deliver_frame_by see net u f ]
      | step.Crash b ↦ elim (not_empty (net.subscribers_at b)) [ true ↦ unchanged u (line.RefusedHosts l.number b ∷ []) | false ↦ crash net u b ]
      | step.Sweep ↦ sweep_by see net u l.number
      | step.Show ↦ unchanged u (show net u)
      | step.Bytes k ↦ elim (frame_at u k) [ None ↦ unchanged u (line.RefusedFrame l.number k (length u.frames) ∷ []) | Some f ↦ unchanged u (line.BytesOf k (frame_bytes f) ∷ []) ]
      | step.Join q p ↦ join_now_by see net u q p
    ]

    delivered : (k : ℕ) (o : Option Frame) → (let f : World → Transition = λ u. elim o [ None ↦ unchanged u (line.RefusedFrame l.number k (length u.frames) ∷ []) | Some x ↦ deliver_frame_by see net u x ] in SameTold (f w) (f (with_logs w ls)))
    delivered k None = same_unchanged w ls (line.RefusedFrame l.number k (length w.frames) ∷ []) s
    delivered k (Some x) = same_deliver see net x w ls s

    bytes_shown : (k : ℕ) (o : Option Frame) → (let f : World → Transition = λ u. elim o [ None ↦ unchanged u (line.RefusedFrame l.number k (length u.frames) ∷ []) | Some x ↦ unchanged u (line.BytesOf k (frame_bytes x) ∷ []) ] in SameTold (f w) (f (with_logs w ls)))
    bytes_shown k None = same_unchanged w ls (line.RefusedFrame l.number k (length w.frames) ∷ []) s
    bytes_shown k (Some x) = same_unchanged w ls (line.BytesOf k (frame_bytes x) ∷ []) s

    crashed : (b : ℕ) (q : Bool) → (let f : World → Transition = λ u. elim q [ true ↦ unchanged u (line.RefusedHosts l.number b ∷ []) | false ↦ crash net u b ] in SameTold (f w) (f (with_logs w ls)))
    crashed b true = same_unchanged w ls (line.RefusedHosts l.number b ∷ []) s
    crashed b false = same_crash net b w ls s

    go : (z : Step) → SameTold (told z w) (told z (with_logs w ls))
    go (step.Clock now) = record { logs = ls; is = refl; same = s }
    go (step.Publish p number None e) = same_publish_now see net p number e w ls s
    go (step.Publish p number (Some stop) e) = same_stopped see net l.number p number stop e w ls s
    go (step.Wake b) = same_wake_all see net b w ls s
    go (step.Deliver k) = delivered k (frame_at w k)
    go (step.Crash b) = crashed b (not_empty (net.subscribers_at b))
    go step.Sweep = same_sweep see net l.number w ls s
    go step.Show = record { logs = ls; is = ap (unchanged (with_logs w ls)) (same_show net w ls s); same = s }
    go (step.Bytes k) = bytes_shown k (frame_at w k)
    go (step.Join q p) = same_join_now see net q p w ls s

-- so the lines of all steps are the same
pub same_run : (see : View → Net) (net : Net) (w : World) (ls : List Log) (steps : List Line) → SameLogs w.logs ls → run_from_by see net (with_logs w ls) steps ≡ run_from_by see net w steps
unfolding run_from_by
same_run see net w ls [] s = refl
same_run see net w ls (l ∷ rest) s =
    let k = same_next see net l w ls s in
    ap (λ (t : Transition). t.lines ∷ run_from_by see net t.world rest) k.is ∙ ap (λ (rs : List (List Report)). (next_by see net w l).lines ∷ rs) (same_run see net (next_by see net w l).world k.logs rest k.same)
