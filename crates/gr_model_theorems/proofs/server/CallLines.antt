-- The lines of an arrival's calls: none of them drops a datagram, refuses a step or shows bytes
use Rattle.std.proofs.lemmas.List.Elements.{filter-append}
use Rattle.std.proofs.lemmas.Bool.{cond-false}
use Rattle.std.proofs.Common.{◌≡◌, ℕ, suc, max, Bool, true, false, List, [], ◌∷◌, ◌++◌, length, refl, ap₂, ◌∙◌}
use Rattle.std.specs.Prelude.{nat_le, nat_lt, if◌then◌else◌, filter}
use Rattle.gr_event.specs.declared.event.Event.{Event}
use Rattle.gr_event.specs.Joins.{Joins}
use Rattle.gr_frame.specs.declared.Body.{Body}
use Rattle.gr_frame.specs.declared.Body.TheVariants as body
use Rattle.gr_frame.specs.declared.Frame.{Frame}
use Rattle.gr_know.specs.Values.{Known}
use Rattle.gr_curio.specs.Values.{Wanted}
use Rattle.gr_model.specs.declared.report.Report.{Report}
use Rattle.gr_model.specs.declared.report.Report.TheVariants as line
use Rattle.gr_model.specs.Net.{Net, is_host, numbers}
use Rattle.gr_model.specs.Broker.{View, Log, Outcome, max_tick, marking, cutting, wake, wake_host, wake_below, asking, publish, receive, joining}
use Rattle.gr_model.specs.World.{World, Transition, view_of, log_of, absorbed, in_turn, sent_line, sent_lines, deliver_frame_by, publish_now_by, wake_all_by, wake_for_by, join_now_by}
use Rattle.gr_event.specs.Joins.{has_joined}
use Rattle.gr_model_calls.specs.OneNet.{wake_for, wake_all, deliver_frame, answered_first, quieted}
use Rattle.gr_model.specs.Headline.{Recorded, publish_line, join_line}
use Rattle.gr_model_theorems.specs.Replies.{is_reply}
use Rattle.gr_model.specs.Arrivals.{asks_publish, asks_join, quieted_by, Request}
use Rattle.gr_model_theorems.specs.Served.{is_dropped}
use Rattle.gr_model_theorems.proofs.records.Records.{core}
use Rattle.gr_model_theorems.proofs.records.RecordLines.{Skips, host_lines, receive_none, publish_some, marking_none, join_some}

-- a test that passes no line of a call
pub record IsForeign (f : Report → Bool) : Type 0 where
  pub got : (s p t : ℕ) (e : Event) → f (line.Got s p t e) ≡ false
  pub horizon : (s p t : ℕ) → f (line.Horizon s p t) ≡ false
  pub know : (n from to p : ℕ) (runs : Known) (js : Joins) → f (line.SentKnow n from to p runs js) ≡ false
  pub want : (n from to p : ℕ) (runs : Wanted) → f (line.SentWant n from to p runs) ≡ false
  pub expect : (n from to p t : ℕ) → f (line.SentExpect n from to p t) ≡ false
  pub mark : (p t : ℕ) → f (line.Mark p t) ≡ false
  pub cut : (p t : ℕ) → f (line.Cut p t) ≡ false
  pub reclaimed : (p g : ℕ) → f (line.Reclaimed p g) ≡ false
  pub logged : (p n t : ℕ) → f (line.Logged p n t) ≡ false
  pub already : (p n : ℕ) → f (line.Already p n) ≡ false
  pub gap : (p n next : ℕ) → f (line.Gap p n next) ≡ false
  pub exhausted : (p n : ℕ) → f (line.Exhausted p n) ≡ false
  pub joined : (s p t : ℕ) → f (line.Joined s p t) ≡ false
  pub already_joined : (s p : ℕ) → f (line.AlreadyJoined s p) ≡ false
  pub exhausted_join : (s p : ℕ) → f (line.ExhaustedJoin s p) ≡ false

-- no call writes a line of a dropped datagram
pub drops_foreign : IsForeign is_dropped
drops_foreign = record { got = λ s p t e. refl; horizon = λ s p t. refl; know = λ n a b p r js. refl; want = λ n a b p r. refl; expect = λ n a b p t. refl; mark = λ p t. refl; cut = λ p t. refl; reclaimed = λ p g. refl; logged = λ p n t. refl; already = λ p n. refl; gap = λ p n m. refl; exhausted = λ p n. refl; joined = λ s p t. refl; already_joined = λ s p. refl; exhausted_join = λ s p. refl }

-- no call writes a line of a refused step or of bytes
pub replies_foreign : IsForeign is_reply
replies_foreign = record { got = λ s p t e. refl; horizon = λ s p t. refl; know = λ n a b p r js. refl; want = λ n a b p r. refl; expect = λ n a b p t. refl; mark = λ p t. refl; cut = λ p t. refl; reclaimed = λ p g. refl; logged = λ p n t. refl; already = λ p n. refl; gap = λ p n m. refl; exhausted = λ p n. refl; joined = λ s p t. refl; already_joined = λ s p. refl; exhausted_join = λ s p. refl }

module _ (f : Report → Bool) (k : IsForeign f) where
  skips : Skips f
  skips = record { got = k.got; horizon = k.horizon }

  none_of_both : (xs ys : List Report) → filter f xs ≡ [] → filter f ys ≡ [] → filter f (xs ++ ys) ≡ []
  none_of_both xs ys a b = filter-append f xs ys ∙ ap₂ (λ (x y : List Report). x ++ y) a b

  one : (l : Report) → f l ≡ false → filter f (l ∷ []) ≡ []
  one l e = cond-false (f l) (l ∷ []) [] e

  sent_none : (n : ℕ) (fs : List Frame) → filter f (sent_lines n fs) ≡ []
  unfolding sent_line
  sent_none n [] = refl
  sent_none n (x ∷ fs) = none_of_both (sent_line n x ∷ []) (sent_lines (suc n) fs) (go x.body) (sent_none (suc n) fs)
    where
      go : (y : Body) → filter f ((elim y [ body.Knowledge runs js ↦ line.SentKnow n x.head.from x.head.to x.head.publisher runs js | body.Curiosity runs ↦ line.SentWant n x.head.from x.head.to x.head.publisher runs | body.Expect tick ↦ line.SentExpect n x.head.from x.head.to x.head.publisher tick ]) ∷ []) ≡ []
      go (body.Knowledge runs js) = one (line.SentKnow n x.head.from x.head.to x.head.publisher runs js) (k.know n x.head.from x.head.to x.head.publisher runs js)
      go (body.Curiosity runs) = one (line.SentWant n x.head.from x.head.to x.head.publisher runs) (k.want n x.head.from x.head.to x.head.publisher runs)
      go (body.Expect tick) = one (line.SentExpect n x.head.from x.head.to x.head.publisher tick) (k.expect n x.head.from x.head.to x.head.publisher tick)

  absorbed_none : (w : World) (b p : ℕ) (o : Outcome) → filter f o.lines ≡ [] → filter f (absorbed w b p o).lines ≡ []
  unfolding absorbed
  absorbed_none w b p o e = none_of_both o.lines (sent_lines (suc (length w.frames)) o.frames) e (sent_none (suc (length w.frames)) o.frames)

  mark_none : (p now : ℕ) (c : Bool) → filter f (if c then line.Mark p now ∷ [] else []) ≡ []
  mark_none p now true = one (line.Mark p now) (k.mark p now)
  mark_none p now false = refl

  cut_none : (p cut g : ℕ) (d e : Bool) → filter f (if d then line.Cut p cut ∷ (if e then line.Reclaimed p g ∷ [] else []) else []) ≡ []
  cut_none p cut g true true = none_of_both (line.Cut p cut ∷ []) (line.Reclaimed p g ∷ []) (one (line.Cut p cut) (k.cut p cut)) (one (line.Reclaimed p g) (k.reclaimed p g))
  cut_none p cut g true false = one (line.Cut p cut) (k.cut p cut)
  cut_none p cut g false e = refl

  front_none : (p now cut g : ℕ) (c d e : Bool) → filter f (host_lines p now cut g c d e) ≡ []
  front_none p now cut g c d e = none_of_both (if c then line.Mark p now ∷ [] else []) (if d then line.Cut p cut ∷ (if e then line.Reclaimed p g ∷ [] else []) else []) (mark_none p now c) (cut_none p cut g d e)

  wake_none : (net : Net) (p b now : ℕ) (v : View) (log : Log) → filter f (wake net p b now v log).lines ≡ []
  unfolding wake wake_host wake_below asking
  wake_none net p b now v log = go (is_host net p b)
    where
      o : Outcome
      o = marking net p b now v log

      new : Log
      new = cutting net p b o.view o.log

      go : (q : Bool) → filter f (let u : Outcome = elim q [ true ↦ wake_host net p b now v log | false ↦ wake_below net p b now v log ] in u.lines) ≡ []
      go true =
          let c = nat_lt log.settled o.log.settled in
          let d = nat_lt o.log.cut new.cut in
          let e = nat_lt o.log.generation new.generation in
          none_of_both (host_lines p now new.cut new.generation c d e) o.lines (front_none p now new.cut new.generation c d e) (marking_none f net p b now v log skips)
      go false = refl

  publish_line_none : (p now number : ℕ) (r : Recorded) → filter f (publish_line p now number r ∷ []) ≡ []
  publish_line_none p now number r = go (nat_le number r.last) (nat_lt (suc r.last) number) (nat_lt max_tick (max (suc r.settled) now))
    where
      go : (x y z : Bool) → filter f ((if x then line.Already p number else (if y then line.Gap p number (suc r.last) else (if z then line.Exhausted p number else line.Logged p number (max (suc r.settled) now)))) ∷ []) ≡ []
      go true y z = one (line.Already p number) (k.already p number)
      go false true z = one (line.Gap p number (suc r.last)) (k.gap p number (suc r.last))
      go false false true = one (line.Exhausted p number) (k.exhausted p number)
      go false false false = one (line.Logged p number (max (suc r.settled) now)) (k.logged p number (max (suc r.settled) now))

  join_line_none : (s p now : ℕ) (r : Recorded) → filter f (join_line s p now r ∷ []) ≡ []
  join_line_none s p now r = go (has_joined r.joined s) (nat_lt max_tick (max (suc r.settled) now))
    where
      go : (x y : Bool) → filter f ((if x then line.AlreadyJoined s p else (if y then line.ExhaustedJoin s p else line.Joined s p (max (suc r.settled) now))) ∷ []) ≡ []
      go true y = one (line.AlreadyJoined s p) (k.already_joined s p)
      go false true = one (line.ExhaustedJoin s p) (k.exhausted_join s p)
      go false false = one (line.Joined s p (max (suc r.settled) now)) (k.joined s p (max (suc r.settled) now))

  wakes_none : (net : Net) (w : World) (b : ℕ) (ps : List ℕ) → filter f (in_turn (λ u p. wake_for net u b p) ps w).lines ≡ []
  unfolding wake_for_by
  wakes_none net w b [] = refl
  wakes_none net w b (p ∷ ps) = none_of_both (wake_for net w b p).lines (in_turn (λ u p. wake_for net u b p) ps (wake_for net w b p).world).lines (absorbed_none w b p (wake net p b w.clock (view_of w b p) (log_of w p)) (wake_none net p b w.clock (view_of w b p) (log_of w p))) (wakes_none net (wake_for net w b p).world b ps)

  all_wakes_none : (net : Net) (w : World) (bs : List ℕ) → filter f (in_turn (wake_all net) bs w).lines ≡ []
  unfolding wake_all_by
  all_wakes_none net w [] = refl
  all_wakes_none net w (b ∷ bs) = none_of_both (wake_all net w b).lines (in_turn (wake_all net) bs (wake_all net w b).world).lines (wakes_none net w b (numbers net.publishers)) (all_wakes_none net (wake_all net w b).world bs)

  -- a publish or a join writes none of the lines that no call writes
  pub published_none : (net : Net) (w : World) (left : List Request) → filter f (answered_first net w left).lines ≡ []
  unfolding publish_now_by join_now_by
  published_none net w [] = refl
  published_none net w (asks_publish p number e ∷ left) =
      let b = net.host p in
      absorbed_none w b p (publish net p b w.clock number e (view_of w b p) (log_of w p))
      (publish_some f net p b w.clock number e (view_of w b p) (log_of w p) skips ∙ publish_line_none p w.clock number (core (log_of w p)))
  published_none net w (asks_join s p ∷ left) =
      let b = net.host p in
      absorbed_none w b p (joining net p b w.clock s (view_of w b p) (log_of w p))
      (join_some f net p b w.clock s (view_of w b p) (log_of w p) skips ∙ join_line_none s p w.clock (core (log_of w p)))

  -- waking hosts that were quiet writes none of the lines that no call writes
  pub quieted_none : (net : Net) (hosted : List ℕ) (w : World) (left : List Request) → filter f (quieted net hosted w left).lines ≡ []
  unfolding quieted_by
  quieted_none net hosted w left = let s : Transition = answered_first net w left in none_of_both s.lines (in_turn (wake_all net) hosted s.world).lines (published_none net w left) (all_wakes_none net s.world hosted)

  -- a delivery writes none of the lines that no call writes
  pub deliver_none : (net : Net) (w : World) (x : Frame) → filter f (deliver_frame net w x).lines ≡ []
  unfolding deliver_frame_by
  deliver_none net w x = absorbed_none w x.head.to x.head.publisher (receive net w.clock x (view_of w x.head.to x.head.publisher) (log_of w x.head.publisher)) (receive_none f net w.clock x (view_of w x.head.to x.head.publisher) (log_of w x.head.publisher) skips)
