-- What the machine's acts log for a publisher: each event takes the number behind the last and has its line, and no other line says so
use Rattle.std.proofs.Common.{◌≡◌, ◌≢◌, ◌⊎◌, inl, inr, ℕ, suc, ◌+◌, ◌≤◌, ◌<◌, max, Bool, true, false, List, [], ◌∷◌, ◌++◌, map, length, get_or, set, Option, Some, None, Result, Ok, Err, refl, sym, ap, ap₂, ◌∙◌, subst, arith, append-nil, append_assoc, length-append, length-set, le_refl, le_of_eq}
use Rattle.std.specs.Prelude.{nat_eq, nat_lt, nat_le, if◌then◌else◌, filter, flat_map}
use Rattle.std.specs.List.{AllByRecursion}
use Rattle.std.proofs.lemmas.Bool.{cases_eq, eq-eqb, ne_eqb, lt-leb, le-ltb, leb-true}
use Rattle.std.proofs.lemmas.List.{get_or-set_same, get_or-set_other}
use Rattle.std.proofs.lemmas.List.Elements.{filter-append}
use Rattle.gr_event.specs.declared.event.Event.{Event}
use Rattle.gr_event.specs.declared.join.Split.{Split}
use Rattle.gr_event.specs.Joins.{Joins, first_split}
use Rattle.gr_frame.specs.declared.Body.{Body}
use Rattle.gr_frame.specs.declared.Body.TheVariants as body
use Rattle.gr_frame.specs.declared.Frame.{Frame}
use Rattle.gr_frame.specs.declared.fault.FrameFault.{FrameFault}
use Rattle.gr_know.specs.Values.{Known}
use Rattle.gr_pubend.specs.Log.{past}
use Rattle.gr_pubend.proofs.Found.{past_twice}
use Rattle.gr_pubend.specs.declared.answers.Joined.TheVariants as joined
use Rattle.gr_pubend.specs.declared.answers.Published.TheVariants as published
use Rattle.gr_model.specs.declared.report.Report.{Report}
use Rattle.gr_model.specs.declared.report.Report.TheVariants as line
use Rattle.gr_model.specs.Net.{Net, is_host, keeps_horizon, not_empty, numbers}
use Rattle.gr_model.specs.Broker.{View, Log, Outcome, empty_log, max_tick, with_event, with_mark, with_join, with_joins, silence, got_line, delivery_lines, learn, publish, publish_by, marking, cutting, cutting_lines, wake, wake_host, wake_below, asking, receive, joining, joining_by, seen, taking, view_joined}
use Rattle.gr_model.specs.World.{World, Transition, view_of, log_of, absorbed, unchanged, followed_by, in_turn, sent_lines, sent_line, kept_events, publish_now_by, join_now_by, wake_for_by, deliver_frame, deliver_frame_by}
use Rattle.gr_model.specs.Headline.{Recorded, publish_line}
use Rattle.gr_model.specs.Opening.{reopened_line, opened_for, opened_for_by, publishers_at}
use Rattle.gr_model.specs.Arrivals.{at_moment, fault_number, fits_broker, joins_in, least_clash, clash_line, split_line, takes, takes_by, receives, receives_by, is_hosted, show_hosted}
use Rattle.gr_model_calls.proofs.calls.HostCases.{publish_cases, marking_cases, joining_cases, news_of}
use Rattle.gr_model_calls.proofs.calls.Cutting.{cut_cases, cut_at, cutting_cases}
use Rattle.gr_model_calls.proofs.calls.Calls.{learn_log}
use Rattle.gr_model_theorems.proofs.records.Records.{core, receive_log}
use Rattle.gr_model_theorems.proofs.records.RecordLines.{Skips, receive_none, publish_some, marking_none}
use Rattle.gr_node.specs.Plan.{gets, publishes, joins, wakes, Act, binds, starts, arrives, calls, answers, drops, settles, closes, shows, is_ours, moment_of, act}
use Rattle.gr_node.specs.Submitted.{RiseWithin, is_logged, logged_as, Logs}
use Rattle.gr_node.proofs.Onwards.{past_later, past_on}

-- What was logged

-- each of these events is so, with its number from n on
abbrev pub EachLogged : (ℕ → Event → Type 0) → ℕ → List (ℕ × Event) → Type 0
EachLogged P n [] = Unit {0}
EachLogged P n (x ∷ xs) = P n x.1 × EachLogged P (suc n) xs

each_append : (P : ℕ → Event → Type 0) (n : ℕ) (xs ys : List (ℕ × Event)) → EachLogged P n xs → EachLogged P (n + length xs) ys → EachLogged P n (xs ++ ys)
each_append P n [] ys a b = let e : n + 0 ≡ n = omega arith in subst (λ k. EachLogged P k ys) e b
each_append P n (x ∷ xs) ys a b =
    let e : n + suc (length xs) ≡ suc n + length xs = omega arith in
    (a.0, each_append P (suc n) xs ys a.1 (subst (λ k. EachLogged P k ys) e b))

logged_append : (p n : ℕ) (xs ys : List (ℕ × Event)) → logged_as p n xs ++ logged_as p (n + length xs) ys ≡ logged_as p n (xs ++ ys)
logged_append p n [] ys = let e : n + 0 ≡ n = omega arith in ap (λ k. logged_as p k ys) e
logged_append p n (x ∷ xs) ys =
    let e : n + suc (length xs) ≡ suc n + length xs = omega arith in
    ap (λ (ls : List Report). line.Logged p n x.0 ∷ ls) (ap (λ k. logged_as p (suc n) xs ++ logged_as p k ys) e ∙ logged_append p (suc n) xs ys)

-- a log got events that are so
pub record Adds (p : ℕ) (P : ℕ → Event → Type 0) (before after : Log) (told : List Report) : Type 0 where
  pub new : List (ℕ × Event)
  pub logs : Logs p before after told new
  pub each : EachLogged P (suc before.last) new

-- a log that got no event
record IsStill (log after : Log) : Type 0 where
  last : after.last ≡ log.last
  settled : log.settled ≤ after.settled
  cut : log.cut ≤ after.cut
  events : past after.cut after.events ≡ past after.cut log.events
  joined : (more : Joins) × (after.joins ≡ log.joins ++ more)

still_same : (log after : Log) → after ≡ log → IsStill log after
still_same log after e = record {
  last = ap (λ (l : Log). l.last) e;
  settled = le_of_eq (sym (ap (λ (l : Log). l.settled) e));
  cut = le_of_eq (sym (ap (λ (l : Log). l.cut) e));
  events = ap (past after.cut) (ap (λ (l : Log). l.events) e);
  joined = ([], ap (λ (l : Log). l.joins) e ∙ sym (append-nil log.joins));
}

still_then : (a b c : Log) → IsStill a b → IsStill b c → IsStill a c
still_then a b c x y = record {
  last = y.last ∙ x.last;
  settled = omega (arith, x.settled, y.settled);
  cut = omega (arith, x.cut, y.cut);
  events = y.events ∙ past_later b.cut c.cut b.events a.events y.cut x.events;
  joined = (x.joined.0 ++ y.joined.0, y.joined.1 ∙ (ap (λ (js : Joins). js ++ y.joined.0) x.joined.1 ∙ append_assoc a.joins x.joined.0 y.joined.0));
}

-- ticks rise on
pub rise_on : (a b c : ℕ) (xs ys : List (ℕ × Event)) → RiseWithin a b xs → RiseWithin b c ys → RiseWithin a c (xs ++ ys)
rise_on a b c [] [] x y = omega (arith, x, y)
rise_on a b c [] (z ∷ ys) x y = (omega (arith, x, y.0), y.1)
rise_on a b c (z ∷ xs) ys x y = (x.0, rise_on z.0 b c xs ys x.1 y)

module _ (p : ℕ) (P : ℕ → Event → Type 0) where
  -- or none
  adds_none : (before after : Log) (told : List Report) → IsStill before after → filter (is_logged p) told ≡ [] → Adds p P before after told
  adds_none before after told still none = record {
    new = [];
    logs = record {
      ticks = still.settled;
      cut = still.cut;
      joined = still.joined;
      events = still.events ∙ ap (past after.cut) (sym (append-nil before.events));
      last = let e = still.last in omega (arith, e);
      lines = none;
    };
    each = tt;
  }

  adds_same : (log : Log) (told : List Report) → filter (is_logged p) told ≡ [] → Adds p P log log told
  adds_same log told none = adds_none log log told (still_same log log refl) none

  -- some, and then more
  pub adds_on : (a b c : Log) (ls ms : List Report) → Adds p P a b ls → Adds p P b c ms → Adds p P a c (ls ++ ms)
  adds_on a b c ls ms x y =
      let next : suc b.last ≡ suc a.last + length x.new = omega (arith, x.logs.last) in
      record {
        new = x.new ++ y.new;
        logs = record {
          ticks = rise_on a.settled b.settled c.settled x.new y.new x.logs.ticks y.logs.ticks;
          cut = omega (arith, x.logs.cut, y.logs.cut);
          joined = (x.logs.joined.0 ++ y.logs.joined.0, y.logs.joined.1 ∙ (ap (λ (js : Joins). js ++ y.logs.joined.0) x.logs.joined.1 ∙ append_assoc a.joins x.logs.joined.0 y.logs.joined.0));
          events = past_on b.cut c.cut a.events b.events c.events x.new y.new y.logs.cut x.logs.events y.logs.events;
          last = omega (arith, x.logs.last, y.logs.last, length-append x.new y.new);
          lines = filter-append (is_logged p) ls ms
              ∙ (ap₂ (λ (xs ys : List Report). xs ++ ys) x.logs.lines (y.logs.lines ∙ ap (λ k. logged_as p k y.new) next)
              ∙ logged_append p (suc a.last) x.new y.new);
        };
        each = each_append P (suc a.last) x.new y.new x.each (subst (λ k. EachLogged P k y.new) next y.each);
      }

-- the same of a world, which has as many logs as before
pub record Grows (p : ℕ) (P : ℕ → Event → Type 0) (w : World) (t : Transition) : Type 0 where
  pub adds : Adds p P (log_of w p) (log_of t.world p) t.lines
  pub long : length t.world.logs ≡ length w.logs

-- Lines that do not say so

delivered_unlogged : (p : ℕ) (net : Net) (q h h' s : ℕ) (items : List (ℕ × Event)) → filter (is_logged p) (delivery_lines net q h h' items s) ≡ []
unfolding delivery_lines
delivered_unlogged p net q h h' s items = go (nat_eq h h')
  where
    got : (xs : List (ℕ × Event)) → filter (is_logged p) (map (got_line s q) xs ++ line.Horizon s q h' ∷ []) ≡ []
    got [] = refl
    got (x ∷ xs) = got xs

    go : (c : Bool) → filter (is_logged p) (if c then [] else map (got_line s q) (filter (λ x. net.wants q s x.0 x.1) items) ++ line.Horizon s q h' ∷ []) ≡ []
    go true = refl
    go false = got (filter (λ x. net.wants q s x.0 x.1) items)

-- where none of the lines that are made of an element says so, none of all does
each_unlogged : (p : ℕ) (f : ℕ → List Report) → ((x : ℕ) → filter (is_logged p) (f x) ≡ []) → (xs : List ℕ) → filter (is_logged p) (flat_map f xs) ≡ []
each_unlogged p f none [] = refl
each_unlogged p f none (x ∷ xs) = filter-append (is_logged p) (f x) (flat_map f xs) ∙ ap₂ (λ (a b : List Report). a ++ b) (none x) (each_unlogged p f none xs)

learned_unlogged : (p : ℕ) (net : Net) (q b : ℕ) (piece : Known) (v : View) (log : Log) → filter (is_logged p) (learn net q b piece v log).lines ≡ []
unfolding learn
learned_unlogged p net q b piece v log = go _ _
  where
    go : (h : ℕ) (items : List (ℕ × Event)) → filter (is_logged p) (flat_map (delivery_lines net q v.horizon h items) (net.subscribers_at b)) ≡ []
    go h items = each_unlogged p (delivery_lines net q v.horizon h items) (λ s. delivered_unlogged p net q v.horizon h s items) (net.subscribers_at b)

logged_skip : (p : ℕ) → Skips (is_logged p)
logged_skip p = record { got = λ s q t e. refl; horizon = λ s q t. refl }

woken_unlogged : (p : ℕ) (net : Net) (q b now : ℕ) (v : View) (log : Log) → filter (is_logged p) (wake net q b now v log).lines ≡ []
unfolding wake wake_host wake_below asking
woken_unlogged p net q b now v log = go (is_host net q b)
  where
    o : Outcome
    o = marking net q b now v log

    cut : Log
    cut = cutting net q b o.view o.log

    marked : List Report
    marked = if nat_lt log.settled o.log.settled then line.Mark q now ∷ [] else []

    mark_unlogged : (c : Bool) → filter (is_logged p) (if c then line.Mark q now ∷ [] else []) ≡ []
    mark_unlogged true = refl
    mark_unlogged false = refl

    cut_unlogged : (c d : Bool) → filter (is_logged p) (if c then line.Cut q cut.cut ∷ (if d then line.Reclaimed q cut.generation ∷ [] else []) else []) ≡ []
    cut_unlogged true true = refl
    cut_unlogged true false = refl
    cut_unlogged false d = refl

    go : (c : Bool) → filter (is_logged p) (let u : Outcome = elim c [ true ↦ wake_host net q b now v log | false ↦ wake_below net q b now v log ] in u.lines) ≡ []
    go true =
        filter-append (is_logged p) (marked ++ cutting_lines q o.log cut) o.lines
        ∙ ap₂ (λ (x y : List Report). x ++ y)
        (filter-append (is_logged p) marked (cutting_lines q o.log cut)
        ∙ ap₂ (λ (x y : List Report). x ++ y) (mark_unlogged (nat_lt log.settled o.log.settled)) (cut_unlogged (nat_lt o.log.cut cut.cut) (nat_lt o.log.generation cut.generation)))
        (marking_none (is_logged p) net q b now v log (logged_skip p))
    go false = refl

sent_unlogged : (p n : ℕ) (fs : List Frame) → filter (is_logged p) (sent_lines n fs) ≡ []
unfolding sent_line
sent_unlogged p n [] = refl
sent_unlogged p n (f ∷ fs) = filter-append (is_logged p) (sent_line n f ∷ []) (sent_lines (suc n) fs) ∙ ap₂ (λ (x y : List Report). x ++ y) (one f.body) (sent_unlogged p (suc n) fs)
  where
    one : (y : Body) → filter (is_logged p) ((elim y [ body.Knowledge runs js ↦ line.SentKnow n f.head.from f.head.to f.head.publisher runs js | body.Curiosity runs ↦ line.SentWant n f.head.from f.head.to f.head.publisher runs | body.Expect tick ↦ line.SentExpect n f.head.from f.head.to f.head.publisher tick ]) ∷ []) ≡ []
    one (body.Knowledge runs js) = refl
    one (body.Curiosity runs) = refl
    one (body.Expect tick) = refl

-- a publish of another publisher
published_unlogged : (p : ℕ) (net : Net) (q b now number : ℕ) (e : Event) (v : View) (log : Log) → nat_eq q p ≡ false → filter (is_logged p) (publish net q b now number e v log).lines ≡ []
published_unlogged p net q b now number e v log other =
    publish_some (is_logged p) net q b now number e v log (logged_skip p) ∙ go (nat_le number r.last) (nat_lt (suc r.last) number) (nat_lt max_tick tick)
  where
    r : Recorded
    r = core log

    tick : ℕ
    tick = max (suc r.settled) now

    go : (x y z : Bool) → filter (is_logged p) ((if x then line.Already q number else (if y then line.Gap q number (suc r.last) else (if z then line.Exhausted q number else line.Logged q number tick))) ∷ []) ≡ []
    go true y z = refl
    go false true z = refl
    go false false true = refl
    go false false false = ap (λ (c : Bool). if c then line.Logged q number tick ∷ [] else []) other

-- The calls

-- what a broker's call adds to the log of its publisher, and that it tells nothing of another
record Called (p : ℕ) (P : ℕ → Event → Type 0) (q : ℕ) (log : Log) (o : Outcome) : Type 0 where
  here : q ≡ p → Adds p P log o.log o.lines
  other : q ≢ p → filter (is_logged p) o.lines ≡ []

module _ (p : ℕ) (P : ℕ → Event → Type 0) where
  -- a call that leaves numbers and events
  quiet_call : (q : ℕ) (log : Log) (o : Outcome) → IsStill log o.log → filter (is_logged p) o.lines ≡ [] → Called p P q log o
  quiet_call q log o still none = record { here = λ e. adds_none p P log o.log o.lines still none; other = λ ne. none }

  -- a publish logs its event where it has the next number
  publish_adds : (net : Net) (b now number : ℕ) (e : Event) (v : View) (log : Log) → P number e → Adds p P log (publish net p b now number e v log).log (publish net p b now number e v log).lines
  publish_adds net b now number e v log is =
      publish_cases net p b now number e v log (λ o. filter (is_logged p) o.lines ≡ filter (is_logged p) (publish_line p now number (core log) ∷ []) → Adds p P log o.log o.lines)
      (λ l told. adds_same p P log _ refl)
      (λ l told. adds_same p P log _ refl)
      (λ x l told. adds_same p P log _ refl)
      (λ x l told.
      let o : Outcome = publish_by net p b number e v log (published.Logged tick (news_of log tick e)) in
      let kept : o.log ≡ with_event log tick e = learn_log net p b (news_of log tick e) v (with_event log tick e) in
      record {
        new = (tick, e) ∷ [];
        logs = record {
          ticks = let e : o.log.settled ≡ tick = ap (λ (m : Log). m.settled) kept in (omega arith, omega (arith, e));
          cut = le_of_eq (sym (ap (λ (m : Log). m.cut) kept));
          joined = ([], ap (λ (m : Log). m.joins) kept ∙ sym (append-nil log.joins));
          events = ap (past o.log.cut) (ap (λ (m : Log). m.events) kept);
          last = ap (λ (m : Log). m.last) kept ∙ omega arith;
          lines = told ∙ line_is x l;
        };
        each = (subst (λ k. P k e) x is, tt);
      })
      (publish_some (is_logged p) net p b now number e v log (logged_skip p))
    where
      tick : ℕ
      tick = max (suc log.settled) now

      line_is : number ≡ suc log.last → tick ≤ max_tick → filter (is_logged p) (publish_line p now number (core log) ∷ []) ≡ line.Logged p (suc log.last) tick ∷ []
      line_is x l = rw (lt-leb number log.last (omega (arith, x)), le-ltb (suc log.last) number (omega (arith, x)), le-ltb max_tick tick l, eq-eqb p p refl) (ap (λ k. line.Logged p k tick ∷ []) x)

  publish_called : (net : Net) (q b now number : ℕ) (e : Event) (v : View) (log : Log) → (q ≡ p → P number e) → Called p P q log (publish net q b now number e v log)
  publish_called net q b now number e v log is = record {
    here = λ h. subst (λ k. Adds p P log (publish net k b now number e v log).log (publish net k b now number e v log).lines) (sym h) (publish_adds net b now number e v log (is h));
    other = λ ne. published_unlogged p net q b now number e v log (ne_eqb q p ne);
  }

  -- a join logs no event
  joining_called : (net : Net) (q b now s : ℕ) (v : View) (log : Log) → Called p P q log (joining net q b now s v log)
  unfolding learn
  joining_called net q b now s v log =
      joining_cases net q b now s v log (λ o. Called p P q log o)
      (λ has. record { here = λ e. adds_same p P log _ refl; other = λ ne. refl })
      (λ has past. record { here = λ e. adds_same p P log _ refl; other = λ ne. refl })
      (λ has upto.
      quiet_call q log (joining_by net q b s v log (joined.Logged tick (silence (suc log.settled) tick [])))
      (record { last = refl; settled = omega arith; cut = le_refl log.cut; events = refl; joined = (record { subscriber = s; tick = tick } ∷ [], refl) })
      (learned_unlogged p net q b (silence (suc log.settled) tick []) (with_joins v next.joins) next))
    where
      tick : ℕ
      tick = max (suc log.settled) now

      next : Log
      next = with_join log tick s

  -- a mark, and a cut, get no event
  marked_still : (net : Net) (q b now : ℕ) (v : View) (log : Log) → IsStill log (marking net q b now v log).log
  marked_still net q b now v log =
      marking_cases net q b now v log (λ o. IsStill log o.log)
      (λ e. let kept = learn_log net q b (silence (suc log.settled) now []) v (with_mark log now) in
      let upto : log.settled ≤ now = omega (arith, leb-true (log.settled + net.quiet) now e) in
      subst (λ (m : Log). IsStill log m) (sym kept) (record { last = refl; settled = upto; cut = le_refl log.cut; events = refl; joined = ([], sym (append-nil log.joins)) }))
      (λ e. still_same log log refl)

  cut_still : (net : Net) (q b : ℕ) (v : View) (log : Log) → IsStill log (cutting net q b v log)
  cut_still net q b v log =
      cutting_cases net q b v log (IsStill log) (still_same log log refl)
      (λ later. cut_cases net.reclaim log (cut_at net q b v log) (IsStill log)
      (record { last = refl; settled = le_refl log.settled; cut = omega (arith, later); events = dropped (cut_at net q b v log) log.forgets; joined = ([], sym (append-nil log.joins)) })
      (record { last = refl; settled = le_refl log.settled; cut = omega (arith, later); events = dropped (cut_at net q b v log) log.forgets; joined = ([], sym (append-nil log.joins)) }))
    where
      dropped : (t : ℕ) (forgets : Bool) → past t (if forgets then past t log.events else log.events) ≡ past t log.events
      dropped t true = past_twice t t log.events (le_refl t)
      dropped t false = refl

  woken_still : (net : Net) (q b now : ℕ) (v : View) (log : Log) → IsStill log (wake net q b now v log).log
  unfolding wake wake_host wake_below asking
  woken_still net q b now v log = go (is_host net q b)
    where
      o : Outcome
      o = marking net q b now v log

      go : (c : Bool) → IsStill log (let u : Outcome = elim c [ true ↦ wake_host net q b now v log | false ↦ wake_below net q b now v log ] in u.log)
      go true = still_then log o.log (cutting net q b o.view o.log) (marked_still net q b now v log) (cut_still net q b o.view o.log)
      go false = still_same log log refl

  wake_called : (net : Net) (q b now : ℕ) (v : View) (log : Log) → Called p P q log (wake net q b now v log)
  wake_called net q b now v log = quiet_call q log (wake net q b now v log) (woken_still net q b now v log) (woken_unlogged p net q b now v log)

  receive_called : (net : Net) (now : ℕ) (f : Frame) (v : View) (log : Log) → Called p P f.head.publisher log (receive net now f v log)
  receive_called net now f v log =
      let e : (receive net now f v log).log ≡ log = receive_log net now f v log in
      quiet_call f.head.publisher log (receive net now f v log) (still_same log (receive net now f v log).log e)
      (receive_none (is_logged p) net now f v log (logged_skip p))

  learn_called : (net : Net) (q b : ℕ) (piece : Known) (v : View) (log : Log) → Called p P q log (learn net q b piece v log)
  learn_called net q b piece v log =
      let e : (learn net q b piece v log).log ≡ log = learn_log net q b piece v log in
      quiet_call q log (learn net q b piece v log) (still_same log (learn net q b piece v log).log e) (learned_unlogged p net q b piece v log)

  -- Worlds

  -- where the logs stay
  grows_none : (w : World) (t : Transition) → t.world.logs ≡ w.logs → filter (is_logged p) t.lines ≡ [] → Grows p P w t
  grows_none w t e none = record {
    adds = adds_none p P (log_of w p) (log_of t.world p) t.lines
        (still_same (log_of w p) (log_of t.world p) (ap (λ (ls : List Log). get_or ls p empty_log) e)) none;
    long = ap length e;
  }

  -- one after another
  pub grows_on : (w : World) (t : Transition) (f : World → Transition) → Grows p P w t → Grows p P t.world (f t.world) → Grows p P w (followed_by t f)
  grows_on w t f a b =
      let u : Transition = f t.world in
      record {
        adds = adds_on p P (log_of w p) (log_of t.world p) (log_of u.world p) t.lines u.lines a.adds b.adds;
        long = b.long ∙ a.long;
      }

  pub grows_each : {X : Type 0} (ok : X → Type 0) (f : World → X → Transition) → ((u : World) (x : X) → p < length u.logs → ok x → Grows p P u (f u x))
      → (xs : List X) (w : World) → p < length w.logs → AllByRecursion ok xs → Grows p P w (in_turn f xs w)
  grows_each {X} ok f one [] w below a = grows_none w (unchanged w []) refl refl
  grows_each {X} ok f one (x ∷ xs) w below a =
      let t : Transition = f w x in
      let first = one w x below a.0 in
      grows_on w t (in_turn f xs) first (grows_each {X = X} ok f one xs t.world (omega (arith, below, first.long)) a.1)

  -- a call that is taken up
  absorbed_grows : (w : World) (b q : ℕ) (o : Outcome) → p < length w.logs → Called p P q (log_of w q) o → Grows p P w (absorbed w b q o)
  unfolding absorbed
  absorbed_grows w b q o below c = record { adds = go (cases_eq q p); long = length-set w.logs q o.log }
    where
      sent : List Report
      sent = sent_lines (suc (length w.frames)) o.frames

      unsent : filter (is_logged p) sent ≡ []
      unsent = sent_unlogged p (suc (length w.frames)) o.frames

      go : (q ≡ p) ⊎ (q ≢ p) → Adds p P (log_of w p) (get_or (set w.logs q o.log) p empty_log) (o.lines ++ sent)
      go (inl e) =
          subst (λ k. Adds p P (log_of w p) (get_or (set w.logs k o.log) p empty_log) (o.lines ++ sent)) (sym e)
          (subst (λ (l : Log). Adds p P (log_of w p) l (o.lines ++ sent)) (sym (get_or-set_same w.logs p o.log empty_log below))
          (adds_on p P (log_of w p) o.log o.log o.lines sent (subst (λ k. Adds p P (log_of w k) o.log o.lines) e (c.here e)) (adds_same p P o.log sent unsent)))
      go (inr ne) =
          let stays : get_or (set w.logs q o.log) p empty_log ≡ log_of w p = get_or-set_other w.logs q p o.log empty_log (λ h. ne (sym h)) in
          adds_none p P (log_of w p) (get_or (set w.logs q o.log) p empty_log) (o.lines ++ sent) (still_same (log_of w p) (get_or (set w.logs q o.log) p empty_log) stays)
          (filter-append (is_logged p) o.lines sent ∙ ap₂ (λ (x y : List Report). x ++ y) (c.other ne) unsent)

  -- a datagram's frame
  delivered_grows : (net : Net) (w : World) (f : Frame) → p < length w.logs → Grows p P w (deliver_frame net w f)
  unfolding deliver_frame_by
  delivered_grows net w f below =
      let shown : Net = seen net (taking (view_of w f.head.to f.head.publisher) f) in
      absorbed_grows w f.head.to f.head.publisher (receive shown w.clock f (view_of w f.head.to f.head.publisher) (log_of w f.head.publisher)) below
      (receive_called shown w.clock f (view_of w f.head.to f.head.publisher) (log_of w f.head.publisher))

  taken_grows : (net : Net) (w : World) (b : ℕ) (f : Frame) → p < length w.logs → Grows p P w (takes net w b f)
  unfolding takes_by
  taken_grows net w b f below = go (first_split 0 (view_of w b f.head.publisher).joins (joins_in f)) (least_clash (view_of w b f.head.publisher).know f)
    where
      go : (s : Option Split) (o : Option ℕ) → Grows p P w (elim s [
        | Some x ↦ unchanged w (split_line b x ∷ [])
        | None ↦ elim o [ Some t ↦ unchanged w (clash_line b (view_of w b f.head.publisher).know f t ∷ []) | None ↦ deliver_frame net w f ]
      ])
      go (Some x) o = grows_none w (unchanged w (split_line b x ∷ [])) refl refl
      go None None = delivered_grows net w f below
      go None (Some t) = grows_none w (unchanged w (clash_line b (view_of w b f.head.publisher).know f t ∷ [])) refl refl

  received_grows : (net : Net) (w : World) (b : ℕ) (r : Result Frame FrameFault) → p < length w.logs → Grows p P w (receives net w b r)
  unfolding receives_by
  received_grows net w b (Err fault) below = grows_none w (unchanged w (line.DroppedNotFrame b (fault_number fault.kind) fault.at ∷ [])) refl refl
  received_grows net w b (Ok f) below = go (fits_broker net b f)
    where
      stray : List Report
      stray = line.DroppedStray b f.head.from f.head.to f.head.publisher ∷ []

      go : (q : Bool) → Grows p P w (elim q [ false ↦ unchanged w stray | true ↦ takes net w b f ])
      go true = taken_grows net w b f below
      go false = grows_none w (unchanged w stray) refl refl

  -- a publisher's log is opened
  opened_grows : (net : Net) (w : World) (q : ℕ) → p < length w.logs → Grows p P w (opened_for net w q)
  unfolding opened_for_by
  opened_grows net w q below =
      grows_on w (unchanged w (reopened_line (log_of w q) q)) (λ u. learned u (not_empty (net.subscribers_at (net.host q))))
      (grows_none w (unchanged w (reopened_line (log_of w q) q)) refl (one (log_of w q)))
      (go (not_empty (net.subscribers_at (net.host q))))
    where
      learned : World → Bool → Transition
      learned u c = elim c [
        | true ↦ absorbed u (net.host q) q (learn (seen net (view_of u (net.host q) q)) q (net.host q) [] (view_of u (net.host q) q) (log_of u q))
        | false ↦ unchanged u []
      ]

      one : (l : Log) → filter (is_logged p) (reopened_line l q) ≡ []
      one l = at (nat_lt 0 l.settled)
        where
          at : (c : Bool) → filter (is_logged p) (if c then line.Opened q l.last l.settled l.cut ∷ [] else []) ≡ []
          at true = refl
          at false = refl

      go : (c : Bool) → Grows p P w (learned w c)
      go true =
          let shown : Net = seen net (view_of w (net.host q) q) in
          absorbed_grows w (net.host q) q (learn shown q (net.host q) [] (view_of w (net.host q) q) (log_of w q)) below
          (learn_called shown q (net.host q) [] (view_of w (net.host q) q) (log_of w q))
      go false = grows_none w (unchanged w []) refl refl

-- What is shown

shown_unlogged : (p : ℕ) (net : Net) (hosted : List ℕ) (w : World) → filter (is_logged p) (show_hosted net hosted w) ≡ []
unfolding show_hosted
shown_unlogged p net hosted w =
    filter-append (is_logged p) (flat_map logs (numbers net.publishers)) (flat_map doubts hosted)
    ∙ ap₂ (λ (x y : List Report). x ++ y) (each_unlogged p logs log_at (numbers net.publishers))
    (each_unlogged p doubts (λ b. each_unlogged p (doubt b) (doubt_at b) (numbers net.publishers)) hosted)
  where
    logs : ℕ → List Report
    logs q = let l = log_of w q in if is_hosted net hosted q then line.LogOf q l.last l.settled l.cut (kept_events l) ∷ [] else []

    doubt : ℕ → ℕ → List Report
    doubt b q = if keeps_horizon net q b then line.Doubt b q (view_of w b q).horizon ∷ [] else []

    doubts : ℕ → List Report
    doubts b = flat_map (doubt b) (numbers net.publishers)

    log_at : (q : ℕ) → filter (is_logged p) (logs q) ≡ []
    log_at q = go (is_hosted net hosted q)
      where
        go : (c : Bool) → filter (is_logged p) (let l = log_of w q in if c then line.LogOf q l.last l.settled l.cut (kept_events l) ∷ [] else []) ≡ []
        go true = refl
        go false = refl

    doubt_at : (b q : ℕ) → filter (is_logged p) (doubt b q) ≡ []
    doubt_at b q = go (keeps_horizon net q b)
      where
        go : (c : Bool) → filter (is_logged p) (if c then line.Doubt b q (view_of w b q).horizon ∷ [] else []) ≡ []
        go true = refl
        go false = refl

-- Acts

-- what an act publishes for the publisher is so, and no line that it tells by itself says that something was logged
abbrev pub IsFine : ℕ → (ℕ → Event → Type 0) → Act → Type 0
IsFine p P (calls (publishes x)) = x.0 ≡ p → P x.1.0 x.1.1
IsFine p P (drops l) = is_logged p l ≡ false
IsFine p P _ = Unit {0}

pub act_grows : (p : ℕ) (P : ℕ → Event → Type 0) (net : Net) (hosted : List ℕ) (w : World) (a : Act) → p < length w.logs → IsFine p P a → Grows p P w (act net hosted w a)
unfolding act publish_now_by join_now_by wake_for_by
act_grows p P net hosted w (binds b) below h = grows_none p P w (unchanged w []) refl refl
act_grows p P net hosted w (starts b) below h = grows_each p P {X = ℕ} (λ q. Unit {0}) (opened_for net) (λ u q k t. opened_grows p P net u q k) (publishers_at net (b ∷ [])) w below (all_unit (publishers_at net (b ∷ [])))
  where
    all_unit : (xs : List ℕ) → AllByRecursion (λ q. Unit {0}) xs
    all_unit [] = tt
    all_unit (x ∷ xs) = (tt, all_unit xs)
act_grows p P net hosted w (arrives a) below h = go (is_ours hosted a)
  where
    go : (c : Bool) → Grows p P w (unchanged (if c then at_moment w (moment_of a) else w) [])
    go true = grows_none p P w (unchanged (at_moment w (moment_of a)) []) refl refl
    go false = grows_none p P w (unchanged w []) refl refl
act_grows p P net hosted w (calls (gets b r)) below h = received_grows p P net w b r below
act_grows p P net hosted w (calls (publishes x)) below h =
    let b : ℕ = net.host x.0 in
    let shown : Net = seen net (view_of w b x.0) in
    absorbed_grows p P w b x.0 (publish shown x.0 b w.clock x.1.0 x.1.1 (view_of w b x.0) (log_of w x.0)) below
    (publish_called p P shown x.0 b w.clock x.1.0 x.1.1 (view_of w b x.0) (log_of w x.0) h)
act_grows p P net hosted w (calls (joins s q)) below h =
    let b : ℕ = net.host q in
    let shown : Net = seen net (view_joined (log_of w q) s w.clock (view_of w b q)) in
    absorbed_grows p P w b q (joining shown q b w.clock s (view_of w b q) (log_of w q)) below
    (joining_called p P shown q b w.clock s (view_of w b q) (log_of w q))
act_grows p P net hosted w (calls (wakes b q)) below h =
    let shown : Net = seen net (view_of w b q) in
    absorbed_grows p P w b q (wake shown q b w.clock (view_of w b q) (log_of w q)) below (wake_called p P shown q b w.clock (view_of w b q) (log_of w q))
act_grows p P net hosted w (answers x) below h = grows_none p P w (unchanged w []) refl refl
act_grows p P net hosted w (drops l) below h = grows_none p P w (unchanged w (l ∷ [])) refl (ap (λ (c : Bool). if c then l ∷ [] else []) h)
act_grows p P net hosted w settles below h = grows_none p P w (unchanged w []) refl refl
act_grows p P net hosted w closes below h = grows_none p P w (unchanged w []) refl refl
act_grows p P net hosted w shows below h = grows_none p P w (unchanged w (show_hosted net hosted w)) refl (shown_unlogged p net hosted w)

-- acts one after another
pub acts_grow : (p : ℕ) (P : ℕ → Event → Type 0) (net : Net) (hosted : List ℕ) (acts : List Act) (w : World) → p < length w.logs → AllByRecursion (IsFine p P) acts → Grows p P w (in_turn (act net hosted) acts w)
acts_grow p P net hosted acts w below h = grows_each p P {X = Act} (IsFine p P) (act net hosted) (λ u a k f. act_grows p P net hosted u a k f) acts w below h
