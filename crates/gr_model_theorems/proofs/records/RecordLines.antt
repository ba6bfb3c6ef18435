-- The recorded lines of each step are those that the record and the step demand
use Rattle.std.proofs.Common.{◌≡◌, ◌≢◌, ◌⊎◌, inl, inr, ⊎_elim, ℕ, suc, zero, ◌+◌, ◌≤◌, ◌<◌, max, Bool, true, false, ◌&&◌, List, [], ◌∷◌, ◌++◌, map, length, refl, sym, ap, ap₂, ◌∙◌, subst, arith, append-nil, append_assoc}
use Rattle.std.specs.Prelude.{nat_eq, nat_le, nat_lt, if◌then◌else◌, flat_map, filter, cond}
use Rattle.std.proofs.lemmas.Bool.{cases_Bool, cases_eq, eq-eqb, ne_eqb, lt-ltb, le-ltb, leb-true, le-leb, and_parts, lt-leb}
use Rattle.std.proofs.lemmas.List.Elements.{filter-append}
use Rattle.gr_event.specs.Joins.{has_joined, Joins, longer}
use Rattle.gr_event.specs.declared.event.Event.{Event}
use Rattle.gr_frame.specs.declared.Body.{Body}
use Rattle.gr_frame.specs.declared.Body.TheVariants as body
use Rattle.gr_frame.specs.declared.Frame.{Frame}
use Rattle.gr_know.specs.Values.{Known}
use Rattle.gr_model.specs.declared.report.Report.{Report}
use Rattle.gr_model.specs.declared.report.Report.TheVariants as line
use Rattle.gr_model.specs.Net.{Net, is_host, numbers_from}
use Rattle.gr_model.specs.Broker.{joining, with_joins, drops, View, Log, Outcome, delivery_lines, got_line, learn, publish, marking, cutting, wake, wake_host, wake_below, asking, curiosity, expect, receive, place_of, max_tick}
use Rattle.gr_model.specs.World.{join_now_by, World, Transition, view_of, log_of, absorbed, unchanged, followed_by, in_turn, sent_line, sent_lines, deliver_frame_by, publish_now_by, wake_for_by}
use Rattle.gr_model_calls.specs.OneNet.{join_now, wake_for, deliver_frame, publish_now, sweep_for}
use Rattle.gr_model.specs.Headline.{join_line, Recorded, is_record_line, is_sent, publish_line, marked, settling}
use Rattle.gr_model.specs.Tree.{IsNet}
use Rattle.gr_model_calls.specs.Fits.{WorldFits, FrameTrue}
use Rattle.gr_model_calls.proofs.calls.HostCases.{joining_cases, publish_cases, marking_cases}
use Rattle.gr_model_theorems.proofs.records.Records.{core, core_of, marking_core, wake_for_core, wake_for_clock, deliver_core, deliver_clock, sweep_for_marks, sweep_for_marked}
use Rattle.gr_model_calls.proofs.runs.Worlds.{wake_for_kept}
use Rattle.gr_model_calls.proofs.runs.Chains.{Chains, sweep_for_chain}

-- the recorded lines among some
abbrev pub recs : List Report → List Report
recs ls = filter is_record_line ls

-- a test that passes none of the lines that subscribers are told
pub record Skips (f : Report → Bool) : Type 0 where
  pub got : (s p t : ℕ) (e : Event) → f (line.Got s p t e) ≡ false
  pub horizon : (s p t : ℕ) → f (line.Horizon s p t) ≡ false

pub records_skip : Skips is_record_line
records_skip = record { got = λ s p t e. refl; horizon = λ s p t. refl }

pub sents_skip : Skips is_sent
sents_skip = record { got = λ s p t e. refl; horizon = λ s p t. refl }

-- What a call tells

got_none : (f : Report → Bool) (s p : ℕ) (xs : List (ℕ × Event)) → Skips f → filter f (map (got_line s p) xs) ≡ []
got_none f s p [] k = refl
got_none f s p (x ∷ xs) k = rw (k.got s p x.0 x.1) (got_none f s p xs k)

told_none : (f : Report → Bool) (net : Net) (p h h' s : ℕ) (items : List (ℕ × Event)) → Skips f → filter f (delivery_lines net p h h' items s) ≡ []
unfolding delivery_lines
told_none f net p h h' s items k = go (nat_eq h h')
  where
    wanted : List (ℕ × Event)
    wanted = filter (λ x. net.wants p s x.0 x.1) items

    go : (c : Bool) → filter f (if c then [] else map (got_line s p) (filter (λ x. net.wants p s x.0 x.1) items) ++ line.Horizon s p h' ∷ []) ≡ []
    go true = refl
    go false = filter-append f (map (got_line s p) wanted) (line.Horizon s p h' ∷ []) ∙ ap₂ (λ x y. x ++ y) (got_none f s p wanted k) (rw (k.horizon s p h') refl)

learn_none : (f : Report → Bool) (net : Net) (p b : ℕ) (piece : Known) (v : View) (log : Log) → Skips f → filter f (learn net p b piece v log).lines ≡ []
unfolding learn
learn_none f net p b piece v log k = go _ _ (net.subscribers_at b)
  where
    go : (h : ℕ) (items : List (ℕ × Event)) (xs : List ℕ) → filter f (flat_map (delivery_lines net p v.horizon h items) xs) ≡ []
    go h items [] = refl
    go h items (x ∷ xs) = filter-append f (delivery_lines net p v.horizon h items x) (flat_map (delivery_lines net p v.horizon h items) xs) ∙ ap₂ (λ a c. a ++ c) (told_none f net p v.horizon h x items k) (go h items xs)

-- receiving a frame writes no line but delivery lines
pub receive_none : (f : Report → Bool) (net : Net) (now : ℕ) (x : Frame) (v : View) (log : Log) → Skips f → filter f (receive net now x v log).lines ≡ []
unfolding receive expect curiosity asking
receive_none f net now x v log k = go x.body
  where
    learned : (runs : Known) (js : Joins) (c : Bool) → filter f (let o : Outcome = elim c [ true ↦ record { view = v; log = log; lines = []; frames = [] } | false ↦ learn net x.head.publisher x.head.to runs (with_joins v (longer v.joins js)) log ] in o.lines) ≡ []
    learned runs js true = refl
    learned runs js false = learn_none f net x.head.publisher x.head.to runs (with_joins v (longer v.joins js)) log k

    go : (y : Body) → filter f (let o : Outcome = elim y [
      | body.Knowledge runs js ↦ elim (drops v runs js) [ true ↦ record { view = v; log = log; lines = []; frames = [] } | false ↦ learn net x.head.publisher x.head.to runs (with_joins v (longer v.joins js)) log ]
      | body.Curiosity runs ↦ curiosity net x.head.publisher x.head.to now x.head.from (place_of x.head.from (net.children x.head.publisher x.head.to)) runs v log
      | body.Expect tick ↦ expect net x.head.publisher x.head.to now tick v log
    ] in o.lines) ≡ []
    go (body.Knowledge runs js) = learned runs js (drops v runs js)
    go (body.Curiosity runs) = refl
    go (body.Expect tick) = refl

-- a line, and others that the test does not pass
one_of : (f : Report → Bool) (x : Report) (xs : List Report) → filter f xs ≡ [] → filter f (x ∷ xs) ≡ filter f (x ∷ [])
one_of f x xs e = ap (λ (z : List Report). cond (f x) (x ∷ z) z) e

-- of a publish the test passes at most its own line
pub publish_some : (f : Report → Bool) (net : Net) (p b now number : ℕ) (e : Event) (v : View) (log : Log) → Skips f → filter f (publish net p b now number e v log).lines ≡ filter f (publish_line p now number (core log) ∷ [])
publish_some f net p b now number e v log k =
    publish_cases net p b now number e v log (λ o. filter f o.lines ≡ filter f (publish_line p now number (core log) ∷ []))
    (λ l. rw (le-leb number log.last l) refl)
    (λ l. rw (lt-leb number log.last (omega (arith, l)), lt-ltb (suc log.last) number l) refl)
    (λ x l. rw (lt-leb number log.last (omega (arith, x)), le-ltb (suc log.last) number (omega (arith, x)), lt-ltb max_tick tick l) refl)
    (λ x l. rw (lt-leb number log.last (omega (arith, x)), le-ltb (suc log.last) number (omega (arith, x)), le-ltb max_tick tick l) (one_of f (line.Logged p number tick) _ (learn_none f net p b _ v _ k)))
  where
    tick : ℕ
    tick = max (suc log.settled) now

publish_line_recorded : (p now number : ℕ) (r : Recorded) → recs (publish_line p now number r ∷ []) ≡ publish_line p now number r ∷ []
publish_line_recorded p now number r = go (nat_le number r.last) (nat_lt (suc r.last) number) (nat_lt max_tick (max (suc r.settled) now))
  where
    go : (x y z : Bool) → recs ((if x then line.Already p number else (if y then line.Gap p number (suc r.last) else (if z then line.Exhausted p number else line.Logged p number (max (suc r.settled) now)))) ∷ []) ≡ (if x then line.Already p number else (if y then line.Gap p number (suc r.last) else (if z then line.Exhausted p number else line.Logged p number (max (suc r.settled) now)))) ∷ []
    go true y z = refl
    go false true z = refl
    go false false true = refl
    go false false false = refl

publish_line_unsent : (p now number : ℕ) (r : Recorded) → filter is_sent (publish_line p now number r ∷ []) ≡ []
publish_line_unsent p now number r = go (nat_le number r.last) (nat_lt (suc r.last) number) (nat_lt max_tick (max (suc r.settled) now))
  where
    go : (x y z : Bool) → filter is_sent ((if x then line.Already p number else (if y then line.Gap p number (suc r.last) else (if z then line.Exhausted p number else line.Logged p number (max (suc r.settled) now)))) ∷ []) ≡ []
    go true y z = refl
    go false true z = refl
    go false false true = refl
    go false false false = refl

-- of a join the test passes at most its own line
pub join_some : (f : Report → Bool) (net : Net) (p b now s : ℕ) (v : View) (log : Log) → Skips f → filter f (joining net p b now s v log).lines ≡ filter f (join_line s p now (core log) ∷ [])
join_some f net p b now s v log k =
    joining_cases net p b now s v log (λ o. filter f o.lines ≡ filter f (join_line s p now (core log) ∷ []))
    (λ e. rw e refl)
    (λ e l. rw (e, lt-ltb max_tick tick l) refl)
    (λ e l. rw (e, le-ltb max_tick tick l) (one_of f (line.Joined s p tick) _ (learn_none f net p b _ _ _ k)))
  where
    tick : ℕ
    tick = max (suc log.settled) now

join_line_recorded : (s p now : ℕ) (r : Recorded) → recs (join_line s p now r ∷ []) ≡ join_line s p now r ∷ []
join_line_recorded s p now r = go (has_joined r.joined s) (nat_lt max_tick (max (suc r.settled) now))
  where
    go : (x y : Bool) → recs ((if x then line.AlreadyJoined s p else (if y then line.ExhaustedJoin s p else line.Joined s p (max (suc r.settled) now))) ∷ []) ≡ (if x then line.AlreadyJoined s p else (if y then line.ExhaustedJoin s p else line.Joined s p (max (suc r.settled) now))) ∷ []
    go true y = refl
    go false true = refl
    go false false = refl

join_line_unsent : (s p now : ℕ) (r : Recorded) → filter is_sent (join_line s p now r ∷ []) ≡ []
join_line_unsent s p now r = go (has_joined r.joined s) (nat_lt max_tick (max (suc r.settled) now))
  where
    go : (x y : Bool) → filter is_sent ((if x then line.AlreadyJoined s p else (if y then line.ExhaustedJoin s p else line.Joined s p (max (suc r.settled) now))) ∷ []) ≡ []
    go true y = refl
    go false true = refl
    go false false = refl

-- marking writes no line but delivery lines
pub marking_none : (f : Report → Bool) (net : Net) (p b now : ℕ) (v : View) (log : Log) → Skips f → filter f (marking net p b now v log).lines ≡ []
marking_none f net p b now v log k = marking_cases net p b now v log (λ o. filter f o.lines ≡ []) (λ e. learn_none f net p b _ v _ k) (λ e. refl)

-- the lines of a woken host before those that subscribers are told: its mark, its cut, and that its log was written anew
abbrev pub host_lines : ℕ → ℕ → ℕ → ℕ → Bool → Bool → Bool → List Report
host_lines p now cut generation c d e = (if c then line.Mark p now ∷ [] else [])
    ++ (if d then line.Cut p cut ∷ (if e then line.Reclaimed p generation ∷ [] else []) else [])

-- a wake marks where the log was silent for long
abbrev pub mark_line : Net → ℕ → ℕ → ℕ → Recorded → List Report
mark_line net b clock p r = if is_host net p b && nat_le (r.settled + net.quiet) clock then line.Mark p clock ∷ [] else []

wake_recs : (net : Net) (p b now : ℕ) (v : View) (log : Log) → 1 ≤ net.quiet → recs (wake net p b now v log).lines ≡ mark_line net b now p (core log)
unfolding wake wake_host wake_below asking
wake_recs net p b now v log z = go (is_host net p b)
  where
    o : Outcome
    o = marking net p b now v log

    new : Log
    new = cutting net p b o.view o.log

    two : (c d e : Bool) → recs (host_lines p now new.cut new.generation c d e) ≡ (if c then line.Mark p now ∷ [] else [])
    two true true true = refl
    two true true false = refl
    two true false e = refl
    two false true true = refl
    two false true false = refl
    two false false e = refl

    rises : (c : Bool) → nat_le (log.settled + net.quiet) now ≡ c → nat_lt log.settled (let r : Recorded = if c then settling now (core log) else core log in r.settled) ≡ c
    rises true e = lt-ltb log.settled now (omega (arith, leb-true (log.settled + net.quiet) now e))
    rises false e = le-ltb log.settled log.settled (omega arith)

    is_marked : nat_lt log.settled o.log.settled ≡ nat_le (log.settled + net.quiet) now
    is_marked = ap (λ r. nat_lt log.settled r.settled) (marking_core net p b now v log) ∙ rises (nat_le (log.settled + net.quiet) now) refl

    go : (q : Bool) → recs (let u : Outcome = elim q [ true ↦ wake_host net p b now v log | false ↦ wake_below net p b now v log ] in u.lines) ≡ (if q && nat_le (log.settled + net.quiet) now then line.Mark p now ∷ [] else [])
    go true =
        let c = nat_lt log.settled o.log.settled in
        let d = nat_lt o.log.cut new.cut in
        let e = nat_lt o.log.generation new.generation in
        filter-append is_record_line (host_lines p now new.cut new.generation c d e) o.lines
        ∙ (ap₂ (λ x y. x ++ y) (two c d e) (marking_none is_record_line net p b now v log records_skip)
        ∙ (append-nil (if c then line.Mark p now ∷ [] else []) ∙ ap (λ q. if q then line.Mark p now ∷ [] else []) is_marked))
    go false = refl

wake_unsent : (net : Net) (p b now : ℕ) (v : View) (log : Log) → filter is_sent (wake net p b now v log).lines ≡ []
unfolding wake wake_host wake_below asking
wake_unsent net p b now v log = go (is_host net p b)
  where
    o : Outcome
    o = marking net p b now v log

    new : Log
    new = cutting net p b o.view o.log

    two : (c d e : Bool) → filter is_sent (host_lines p now new.cut new.generation c d e) ≡ []
    two true true true = refl
    two true true false = refl
    two true false e = refl
    two false true true = refl
    two false true false = refl
    two false false e = refl

    go : (q : Bool) → filter is_sent (let u : Outcome = elim q [ true ↦ wake_host net p b now v log | false ↦ wake_below net p b now v log ] in u.lines) ≡ []
    go true =
        let c = nat_lt log.settled o.log.settled in
        let d = nat_lt o.log.cut new.cut in
        let e = nat_lt o.log.generation new.generation in
        filter-append is_sent (host_lines p now new.cut new.generation c d e) o.lines ∙ ap₂ (λ x y. x ++ y) (two c d e) (marking_none is_sent net p b now v log sents_skip)
    go false = refl

-- A call taken up

sent_recs : (n : ℕ) (fs : List Frame) → recs (sent_lines n fs) ≡ []
unfolding sent_line
sent_recs n [] = refl
sent_recs n (f ∷ fs) = filter-append is_record_line (sent_line n f ∷ []) (sent_lines (suc n) fs) ∙ ap₂ (λ x y. x ++ y) (one f.body) (sent_recs (suc n) fs)
  where
    one : (y : Body) → recs ((elim y [ body.Knowledge runs js ↦ line.SentKnow n f.head.from f.head.to f.head.publisher runs js | body.Curiosity runs ↦ line.SentWant n f.head.from f.head.to f.head.publisher runs | body.Expect tick ↦ line.SentExpect n f.head.from f.head.to f.head.publisher tick ]) ∷ []) ≡ []
    one (body.Knowledge runs js) = refl
    one (body.Curiosity runs) = refl
    one (body.Expect tick) = refl

-- the lines of frames are sent lines
sent_itself : (n : ℕ) (fs : List Frame) → filter is_sent (sent_lines (suc n) fs) ≡ sent_lines (suc n) fs
unfolding sent_line
sent_itself n [] = refl
sent_itself n (f ∷ fs) = filter-append is_sent (sent_line (suc n) f ∷ []) (sent_lines (suc (suc n)) fs) ∙ ap₂ (λ (x y : List Report). x ++ y) (one f.body) (sent_itself (suc n) fs)
  where
    one : (y : Body) → (let x : Report = elim y [ body.Knowledge runs js ↦ line.SentKnow (suc n) f.head.from f.head.to f.head.publisher runs js | body.Curiosity runs ↦ line.SentWant (suc n) f.head.from f.head.to f.head.publisher runs | body.Expect tick ↦ line.SentExpect (suc n) f.head.from f.head.to f.head.publisher tick ] in filter is_sent (x ∷ []) ≡ x ∷ [])
    one (body.Knowledge runs js) = refl
    one (body.Curiosity runs) = refl
    one (body.Expect tick) = refl

-- the lines of two lists of sent frames, the second numbered on from the first
pub sent_lines-append : (n : ℕ) (xs ys : List Frame) → sent_lines n (xs ++ ys) ≡ sent_lines n xs ++ sent_lines (n + length xs) ys
sent_lines-append n [] ys = ap (λ m. sent_lines m ys) (omega arith)
sent_lines-append n (x ∷ xs) ys = ap (λ (z : List Report). sent_line n x ∷ z) (sent_lines-append (suc n) xs ys ∙ ap (λ m. sent_lines (suc n) xs ++ sent_lines m ys) (omega arith))

absorbed_recs : (w : World) (b p : ℕ) (o : Outcome) → recs (absorbed w b p o).lines ≡ recs o.lines
unfolding absorbed
absorbed_recs w b p o = filter-append is_record_line o.lines (sent_lines (suc (length w.frames)) o.frames) ∙ (ap (λ z. recs o.lines ++ z) (sent_recs (suc (length w.frames)) o.frames) ∙ append-nil (recs o.lines))

-- the sent lines are those of the frames that were sent
pub record Sends (w : World) (t : Transition) : Type 0 where
  pub more : List Frame
  pub frames : t.world.frames ≡ w.frames ++ more
  pub told : filter is_sent t.lines ≡ sent_lines (suc (length w.frames)) more

-- where no frame is sent and no line says so, the sent lines are those of the sent frames
pub sends_none : (w : World) (t : Transition) → t.world.frames ≡ w.frames → filter is_sent t.lines ≡ [] → Sends w t
sends_none w t e h = record { more = []; frames = e ∙ sym (append-nil w.frames); told = h }

-- one after another, the sent lines are those of the sent frames
pub sends_seq : (w : World) (t : Transition) (f : World → Transition) → Sends w t → Sends t.world (f t.world) → Sends w (followed_by t f)
sends_seq w t f a b = record {
  more = a.more ++ b.more;
  frames = b.frames ∙ (ap (λ (z : List Frame). z ++ b.more) a.frames ∙ append_assoc w.frames a.more b.more);
  told = filter-append is_sent t.lines (f t.world).lines
      ∙ (ap₂ (λ (x y : List Report). x ++ y) a.told (b.told ∙ ap (λ m. sent_lines m b.more) long) ∙ sym (sent_lines-append (suc (length w.frames)) a.more b.more));
}
  where
    length_append : (xs ys : List Frame) → length (xs ++ ys) ≡ length xs + length ys
    length_append [] ys = omega arith
    length_append (x ∷ xs) ys = let e = length_append xs ys in omega (arith, e)

    long : suc (length t.world.frames) ≡ suc (length w.frames) + length a.more
    long = let l = ap length a.frames in let k = length_append w.frames a.more in omega (arith, l, k)

absorbed_sends : (w : World) (b p : ℕ) (o : Outcome) → filter is_sent o.lines ≡ [] → Sends w (absorbed w b p o)
unfolding absorbed
absorbed_sends w b p o e = record {
  more = o.frames;
  frames = refl;
  told = filter-append is_sent o.lines (sent_lines (suc (length w.frames)) o.frames) ∙ ap₂ (λ (x y : List Report). x ++ y) e (sent_itself (length w.frames) o.frames);
}

-- a wake's recorded lines are its mark, where its host was silent for long enough, and else none
pub wake_for_recs : (net : Net) (w : World) (b p : ℕ) → 1 ≤ net.quiet → recs (wake_for net w b p).lines ≡ mark_line net b w.clock p (core_of w p)
unfolding wake_for_by
wake_for_recs net w b p z = absorbed_recs w b p (wake net p b w.clock (view_of w b p) (log_of w p)) ∙ wake_recs net p b w.clock (view_of w b p) (log_of w p) z

wake_for_sends : (net : Net) (w : World) (b p : ℕ) → Sends w (wake_for net w b p)
unfolding wake_for_by
wake_for_sends net w b p = absorbed_sends w b p (wake net p b w.clock (view_of w b p) (log_of w p)) (wake_unsent net p b w.clock (view_of w b p) (log_of w p))

-- a delivery has no recorded line
pub deliver_recs : (net : Net) (w : World) (x : Frame) → recs (deliver_frame net w x).lines ≡ []
unfolding deliver_frame_by
deliver_recs net w x =
    let o = receive net w.clock x (view_of w x.head.to x.head.publisher) (log_of w x.head.publisher) in
    absorbed_recs w x.head.to x.head.publisher o ∙ receive_none is_record_line net w.clock x (view_of w x.head.to x.head.publisher) (log_of w x.head.publisher) records_skip

-- the sent lines of a delivery are those of the frames that it sends
pub deliver_sends : (net : Net) (w : World) (x : Frame) → Sends w (deliver_frame net w x)
unfolding deliver_frame_by
deliver_sends net w x =
    let o = receive net w.clock x (view_of w x.head.to x.head.publisher) (log_of w x.head.publisher) in
    absorbed_sends w x.head.to x.head.publisher o (receive_none is_sent net w.clock x (view_of w x.head.to x.head.publisher) (log_of w x.head.publisher) sents_skip)

-- a publish's one recorded line says what became of it
pub publish_now_recs : (net : Net) (w : World) (p number : ℕ) (e : Event) → recs (publish_now net w p number e).lines ≡ publish_line p w.clock number (core_of w p) ∷ []
unfolding publish_now_by
publish_now_recs net w p number e =
    let v = view_of w (net.host p) p in
    absorbed_recs w (net.host p) p (publish net p (net.host p) w.clock number e v (log_of w p))
    ∙ (publish_some is_record_line net p (net.host p) w.clock number e v (log_of w p) records_skip ∙ publish_line_recorded p w.clock number (core_of w p))

-- the sent lines of a publish are those of the frames that it sends
pub publish_now_sends : (net : Net) (w : World) (p number : ℕ) (e : Event) → Sends w (publish_now net w p number e)
unfolding publish_now_by
publish_now_sends net w p number e =
    let v = view_of w (net.host p) p in
    absorbed_sends w (net.host p) p (publish net p (net.host p) w.clock number e v (log_of w p))
    (publish_some is_sent net p (net.host p) w.clock number e v (log_of w p) sents_skip ∙ publish_line_unsent p w.clock number (core_of w p))

-- a join's one recorded line says what became of it
pub join_now_recs : (net : Net) (w : World) (s p : ℕ) → recs (join_now net w s p).lines ≡ join_line s p w.clock (core_of w p) ∷ []
unfolding join_now_by
join_now_recs net w s p =
    let v = view_of w (net.host p) p in
    absorbed_recs w (net.host p) p (joining net p (net.host p) w.clock s v (log_of w p))
    ∙ (join_some is_record_line net p (net.host p) w.clock s v (log_of w p) records_skip ∙ join_line_recorded s p w.clock (core_of w p))

-- the sent lines of a join are those of the frames that it sends
pub join_now_sends : (net : Net) (w : World) (s p : ℕ) → Sends w (join_now net w s p)
unfolding join_now_by
join_now_sends net w s p =
    let v = view_of w (net.host p) p in
    absorbed_sends w (net.host p) p (joining net p (net.host p) w.clock s v (log_of w p))
    (join_some is_sent net p (net.host p) w.clock s v (log_of w p) sents_skip ∙ join_line_unsent s p w.clock (core_of w p))

-- chains of calls keep that the sent lines are those of the frames that are sent
pub sends_chain : (net : Net) → Chains net Sends
sends_chain net = record {
  nil = λ w f. sends_none w (unchanged w []) refl refl;
  seq = λ w t f g k a x b. sends_seq w t f a b;
  wake = λ w b p f i j. wake_for_sends net w b p;
  deliver = λ w x f t. deliver_sends net w x;
}

-- Waking for all publishers

-- the recorded lines of a wake for the publishers from a on, where g says which
pub wakes_recs : (net : Net) (w : World) (a n b : ℕ) (g : ℕ → List Report) → IsNet net → 1 ≤ net.quiet → WorldFits net w → b < net.brokers → a + n ≤ net.publishers →
    ((q : ℕ) → a ≤ q → q < a + n → mark_line net b w.clock q (core_of w q) ≡ g q) → recs (in_turn (λ u p. wake_for net u b p) (numbers_from a n) w).lines ≡ flat_map g (numbers_from a n)
wakes_recs net w a zero b g k z f i h e = refl
wakes_recs net w a (suc n) b g k z f i h e =
    let j : a < net.publishers = omega arith in
    let u = (wake_for net w b a).world in
    filter-append is_record_line (wake_for net w b a).lines (in_turn (λ u p. wake_for net u b p) (numbers_from (suc a) n) u).lines
    ∙ ap₂ (λ x y. x ++ y) (wake_for_recs net w b a z ∙ e a (omega arith) (omega arith))
    (wakes_recs net u (suc a) n b g k z (wake_for_kept net w b a k f i j).fits i (omega arith)
    (λ q x y.
    let c : core_of u q ≡ core_of w q = wake_for_core net w b a q f j ∙ rw (ne_eqb q a (λ s. omega (arith, s, x))) refl in
    ap₂ (λ c r. mark_line net b c q r) (wake_for_clock net w b a) c ∙ e q (omega arith) (omega arith)))

-- Sweeping

-- up to where a log is settled
abbrev settled_of : World → ℕ → ℕ
settled_of w q = (log_of w q).settled

-- the line of a mark, where a log went on from s to e
abbrev marks : ℕ → ℕ → ℕ → ℕ → List Report
marks s e p clock = if nat_lt s e then line.Mark p clock ∷ [] else []

marks_none : (s e p clock : ℕ) → e ≤ s → marks s e p clock ≡ []
marks_none s e p clock h = rw (le-ltb s e h) refl

marks_one : (s e p clock : ℕ) → s < e → marks s e p clock ≡ line.Mark p clock ∷ []
marks_one s e p clock h = rw (lt-ltb s e h) refl

-- within a sweep a log is settled at most once, at the clock; and where no other log is, the recorded lines are the one mark of publisher p
record Swept (net : Net) (p : ℕ) (w : World) (t : Transition) : Type 0 where
  clock : t.world.clock ≡ w.clock
  moves : (q : ℕ) → q < net.publishers → (settled_of t.world q ≡ settled_of w q) ⊎ ((settled_of t.world q ≡ w.clock) × (settled_of w q < w.clock))
  lines : ((q : ℕ) → q < net.publishers → q ≢ p → settled_of t.world q ≡ settled_of w q) → recs t.lines ≡ marks (settled_of w p) (settled_of t.world p) p w.clock

swept_nil : (net : Net) (p : ℕ) (w : World) → Swept net p w (unchanged w [])
swept_nil net p w = record { clock = refl; moves = λ q j. inl refl; lines = λ h. sym (marks_none (settled_of w p) (settled_of w p) p w.clock (omega arith)) }

swept_seq : (net : Net) (p : ℕ) (w : World) (t : Transition) (f : World → Transition) → p < net.publishers → Swept net p w t → Swept net p t.world (f t.world) → Swept net p w (followed_by t f)
swept_seq net p w t f j a b = record {
  clock = b.clock ∙ a.clock;
  moves = λ q i. ⊎_elim
      (λ e. ⊎_elim (λ x. inl (e ∙ x)) (λ x. inr (e ∙ x.0, x.1)) (a.moves q i))
      (λ y. ⊎_elim (λ x. inr (y.0 ∙ a.clock, omega (arith, y.1, x, a.clock))) (λ x. absurd (omega (arith, x.0, y.1, a.clock))) (a.moves q i))
      (b.moves q i);
  lines = λ h.
      let ra = a.lines (λ q i n. still q i (h q i n)) in
      let rb = b.lines (λ q i n. h q i n ∙ sym (still q i (h q i n))) in
      filter-append is_record_line t.lines (f t.world).lines ∙ (ap₂ (λ x y. x ++ y) ra (rb ∙ ap (λ c. marks (settled_of t.world p) (settled_of (f t.world).world p) p c) a.clock)
      ∙ ⊎_elim
      (λ x. ap (λ (z : List Report). z ++ marks (settled_of t.world p) (settled_of (f t.world).world p) p w.clock) (marks_none (settled_of w p) (settled_of t.world p) p w.clock (omega (arith, x)))
      ∙ ap (λ s. marks s (settled_of (f t.world).world p) p w.clock) x)
      (λ x.
      let e : settled_of (f t.world).world p ≡ settled_of t.world p = ⊎_elim (λ z. z) (λ y. absurd (omega (arith, x.0, y.1, a.clock))) (b.moves p j) in
      ap₂ (λ (y z : List Report). y ++ z) (marks_one (settled_of w p) (settled_of t.world p) p w.clock (omega (arith, x.0, x.1))) (marks_none (settled_of t.world p) (settled_of (f t.world).world p) p w.clock (omega (arith, e)))
      ∙ sym (marks_one (settled_of w p) (settled_of (f t.world).world p) p w.clock (omega (arith, e, x.0, x.1))))
      (a.moves p j));
}
  where
    still : (q : ℕ) → q < net.publishers → settled_of (f t.world).world q ≡ settled_of w q → settled_of t.world q ≡ settled_of w q
    still q i h = ⊎_elim (λ x. x) (λ x. ⊎_elim (λ e. absurd (omega (arith, x.0, x.1, e, h))) (λ y. absurd (omega (arith, x.0, y.1, a.clock))) (b.moves q i)) (a.moves q i)

wake_settled : (net : Net) (w : World) (b q : ℕ) → WorldFits net w → q < net.publishers → settled_of (wake_for net w b q).world q ≡ (if is_host net q b && nat_le (settled_of w q + net.quiet) w.clock then w.clock else settled_of w q)
wake_settled net w b q f j =
    let e : core_of (wake_for net w b q).world q ≡ (if is_host net q b then marked net w.clock (core_of w q) else core_of w q) = wake_for_core net w b q q f j ∙ rw (eq-eqb q q refl) refl in
    ap (λ r. r.settled) e ∙ go (is_host net q b) (nat_le (settled_of w q + net.quiet) w.clock)
  where
    go : (x y : Bool) → (let r : Recorded = if x then (if y then settling w.clock (core_of w q) else core_of w q) else core_of w q in r.settled) ≡ (if x && y then w.clock else settled_of w q)
    go true true = refl
    go true false = refl
    go false y = refl

-- a wake for q tells a mark exactly where the log goes on
wake_tells : (net : Net) (w : World) (b q : ℕ) → 1 ≤ net.quiet → WorldFits net w → q < net.publishers →
    ((settled_of (wake_for net w b q).world q ≡ settled_of w q) ⊎ ((settled_of (wake_for net w b q).world q ≡ w.clock) × (settled_of w q < w.clock))) × (mark_line net b w.clock q (core_of w q) ≡ marks (settled_of w q) (settled_of (wake_for net w b q).world q) q w.clock)
wake_tells net w b q z f j =
    let s = wake_settled net w b q f j in
    elim (cases_Bool (is_host net q b && nat_le (settled_of w q + net.quiet) w.clock)) [
      | inl e ↦
          let at : settled_of (wake_for net w b q).world q ≡ w.clock = s ∙ ap (λ c. if c then w.clock else settled_of w q) e in
          let l : settled_of w q < w.clock = omega (arith, z, leb-true (settled_of w q + net.quiet) w.clock (and_parts (is_host net q b) (nat_le (settled_of w q + net.quiet) w.clock) e).1) in (
            inr (at, l),
            ap (λ c. if c then line.Mark q w.clock ∷ [] else []) e ∙ sym (marks_one (settled_of w q) (settled_of (wake_for net w b q).world q) q w.clock (omega (arith, at, l))),
          )
      | inr e ↦
          let at : settled_of (wake_for net w b q).world q ≡ settled_of w q = s ∙ ap (λ c. if c then w.clock else settled_of w q) e in (
            inl at,
            ap (λ c. if c then line.Mark q w.clock ∷ [] else []) e ∙ sym (marks_none (settled_of w q) (settled_of (wake_for net w b q).world q) q w.clock (omega (arith, at))),
          )
    ]

wake_swept : (net : Net) (p : ℕ) (w : World) (b q : ℕ) → 1 ≤ net.quiet → WorldFits net w → q < net.publishers → p < net.publishers → Swept net p w (wake_for net w b q)
wake_swept net p w b q z f j i = record {
  clock = wake_for_clock net w b q;
  moves = λ r k. elim (cases_eq r q) [
    | inl e ↦ subst (λ a. (settled_of (wake_for net w b q).world a ≡ settled_of w a) ⊎ ((settled_of (wake_for net w b q).world a ≡ w.clock) × (settled_of w a < w.clock))) (sym e) here.0
    | inr e ↦ inl (other r e)
  ];
  lines = λ h. wake_for_recs net w b q z ∙ elim (cases_eq p q) [
    | inl e ↦ here.1 ∙ ap (λ a. marks (settled_of w a) (settled_of (wake_for net w b q).world a) a w.clock) (sym e)
    | inr e ↦ here.1 ∙ (marks_none (settled_of w q) (settled_of (wake_for net w b q).world q) q w.clock (let s = h q j (λ g. e (sym g)) in omega (arith, s)) ∙ sym (marks_none (settled_of w p) (settled_of (wake_for net w b q).world p) p w.clock (let s = other p e in omega (arith, s))))
  ];
}
  where
    here : ((settled_of (wake_for net w b q).world q ≡ settled_of w q) ⊎ ((settled_of (wake_for net w b q).world q ≡ w.clock) × (settled_of w q < w.clock))) × (mark_line net b w.clock q (core_of w q) ≡ marks (settled_of w q) (settled_of (wake_for net w b q).world q) q w.clock)
    here = wake_tells net w b q z f j

    other : (r : ℕ) → r ≢ q → settled_of (wake_for net w b q).world r ≡ settled_of w r
    other r e =
        let c : core_of (wake_for net w b q).world r ≡ core_of w r = wake_for_core net w b q r f j ∙ rw (ne_eqb r q e) refl in
        ap (λ x. x.settled) c

deliver_swept : (net : Net) (p : ℕ) (w : World) (x : Frame) → WorldFits net w → FrameTrue net w x → Swept net p w (deliver_frame net w x)
deliver_swept net p w x f t = record {
  clock = deliver_clock net w x;
  moves = λ q j. inl (ap (λ r. r.settled) (deliver_core net w x q f t.publisher_in));
  lines = λ h. deliver_recs net w x ∙ sym (marks_none (settled_of w p) (settled_of (deliver_frame net w x).world p) p w.clock (let s = ap (λ r. r.settled) (deliver_core net w x p f t.publisher_in) in omega (arith, s)));
}

swept_chain : (net : Net) (p : ℕ) → 1 ≤ net.quiet → p < net.publishers → Chains net (Swept net p)
swept_chain net p z i = record {
  nil = λ w f. swept_nil net p w;
  seq = λ w t f g k a x b. swept_seq net p w t f i a b;
  wake = λ w b q f j k. wake_swept net p w b q z f k i;
  deliver = λ w x f t. deliver_swept net p w x f t;
}

-- the one recorded line of a sweep for p is its mark
sweep_for_recs : (net : Net) (w : World) (p : ℕ) → IsNet net → 1 ≤ net.quiet → WorldFits net w → p < net.publishers → settled_of w p + net.quiet ≤ w.clock → recs (sweep_for net w p).lines ≡ line.Mark p w.clock ∷ []
sweep_for_recs net w p n z f j l =
    let k = (sweep_for_chain net (Swept net p) w p (swept_chain net p z j) n f j).holds in
    let m = sweep_for_marks net w p n z f j in
    let e : settled_of (sweep_for net w p).world p ≡ w.clock = ap (λ r. r.settled) (sweep_for_marked net w p n z f j) ∙ rw (le-leb (settled_of w p + net.quiet) w.clock l) refl in
    k.lines (λ q i ne. ap (λ r. r.settled) (m.others q ne)) ∙ marks_one (settled_of w p) (settled_of (sweep_for net w p).world p) p w.clock (omega (arith, e, l, z))

-- a sweep's recorded lines are one mark of each publisher, at its clock, in their order
pub sweeps_recs : (net : Net) (w : World) (a n : ℕ) → IsNet net → 1 ≤ net.quiet → WorldFits net w → a + n ≤ net.publishers → ((q : ℕ) → a ≤ q → q < a + n → (log_of w q).settled + net.quiet ≤ w.clock) → recs (in_turn (sweep_for net) (numbers_from a n) w).lines ≡ map (λ p. line.Mark p w.clock) (numbers_from a n)
sweeps_recs net w a zero k z f h l = refl
sweeps_recs net w a (suc n) k z f h l =
    let j : a < net.publishers = omega arith in
    let m = sweep_for_marks net w a k z f j in
    let u = (sweep_for net w a).world in
    filter-append is_record_line (sweep_for net w a).lines (in_turn (sweep_for net) (numbers_from (suc a) n) u).lines
    ∙ ap₂ (λ (x y : List Report). x ++ y) (sweep_for_recs net w a k z f j (l a (omega arith) (omega arith)))
    (sweeps_recs net u (suc a) n k z m.kept.fits (omega arith)
    (λ q x y. let e : settled_of u q ≡ settled_of w q = ap (λ r. r.settled) (m.others q (λ s. omega (arith, s, x))) in omega (arith, e, m.clock, l q (omega arith) (omega arith)))
    ∙ ap (λ c. map (λ p. line.Mark p c) (numbers_from (suc a) n)) m.clock)
