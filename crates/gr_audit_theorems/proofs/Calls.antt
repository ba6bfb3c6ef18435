-- The calls of a broker: none looks at the log of a publisher at another broker, and their own lines are none of frames
use Rattle.std.proofs.Common.{◌≡◌, ℕ, suc, max, Bool, true, false, [], ◌∷◌, ◌++◌, refl, sym, ap, ap₂, ◌∙◌}
use Rattle.std.specs.Prelude.{nat_le, nat_lt, if◌then◌else◌, filter}
use Rattle.std.proofs.lemmas.Bool.{true≢false, eq-eqb}
use Rattle.std.proofs.lemmas.List.Elements.{filter-append}
use Rattle.gr_event.specs.Joins.{Joins, longer, has_joined}
use Rattle.gr_event.specs.declared.event.Event.{Event}
use Rattle.gr_know.specs.Values.{Known}
use Rattle.gr_frame.specs.declared.Body.{Body}
use Rattle.gr_frame.specs.declared.Body.TheVariants as body
use Rattle.gr_frame.specs.declared.Frame.{Frame}
use Rattle.gr_model.specs.declared.report.Report.TheVariants as line
use Rattle.gr_model.specs.Net.{Net, is_host}
use Rattle.gr_model.specs.Broker.{View, Log, Outcome, max_tick, seen, taking, with_joins, drops, view_joined, place_of}
use Rattle.gr_model.specs.Broker.{learn, curiosity, expect, asking, receive, marking, cutting, wake, wake_host, wake_below, publish, joining}
use Rattle.gr_model.specs.Headline.{is_sent, publish_line, join_line, Recorded}
use Rattle.gr_model_theorems.proofs.records.Records.{core}
use Rattle.gr_model_theorems.proofs.records.RecordLines.{sents_skip, marking_none, receive_none, publish_some, join_some, host_lines}
use Rattle.gr_audit_theorems.proofs.Beside.{IsCall}

-- A wake

pub wake_apart : (net : Net) (p b now : ℕ) (v : View) (log : Log) → is_host net p b ≡ false → wake net p b now v log ≡ wake_below net p b now v log
unfolding wake
wake_apart net p b now v log h = go (is_host net p b) h
  where
    go : (q : Bool) → q ≡ false → (let o : Outcome = elim q [ true ↦ wake_host net p b now v log | false ↦ wake_below net p b now v log ] in o) ≡ wake_below net p b now v log
    go true e = absurd (true≢false e)
    go false e = refl

below_view : (net : Net) (p b now : ℕ) (v : View) (log other : Log) → (wake_below net p b now v log).view ≡ (wake_below net p b now v other).view
unfolding wake_below asking
below_view net p b now v log other = refl

below_lines : (net : Net) (p b now : ℕ) (v : View) (log other : Log) → (wake_below net p b now v log).lines ≡ (wake_below net p b now v other).lines
unfolding wake_below asking
below_lines net p b now v log other = refl

below_frames : (net : Net) (p b now : ℕ) (v : View) (log other : Log) → (wake_below net p b now v log).frames ≡ (wake_below net p b now v other).frames
unfolding wake_below asking
below_frames net p b now v log other = refl

below_log : (net : Net) (p b now : ℕ) (v : View) (log : Log) → (wake_below net p b now v log).log ≡ log
unfolding wake_below asking
below_log net p b now v log = refl

wake_unsent : (net : Net) (p b now : ℕ) (v : View) (log : Log) → filter is_sent (wake net p b now v log).lines ≡ []
unfolding wake wake_host wake_below asking
wake_unsent net p b now v log = go (is_host net p b)
  where
    o : Outcome
    o = marking net p b now v log

    new : Log
    new = cutting net p b o.view o.log

    two : (c d e : Bool) → filter is_sent (host_lines p now new.cut new.generation c d e) ≡ []
    two true true true = refl
    two true true false = refl
    two true false e = refl
    two false true true = refl
    two false true false = refl
    two false false e = refl

    go : (q : Bool) → filter is_sent (let u : Outcome = elim q [ true ↦ wake_host net p b now v log | false ↦ wake_below net p b now v log ] in u.lines) ≡ []
    go true =
        let c = nat_lt log.settled o.log.settled in
        let d = nat_lt o.log.cut new.cut in
        let e = nat_lt o.log.generation new.generation in
        filter-append is_sent (host_lines p now new.cut new.generation c d e) o.lines ∙ ap₂ (λ x y. x ++ y) (two c d e) (marking_none is_sent net p b now v log sents_skip)
    go false = refl

pub wake_is_call : (net : Net) (p b now : ℕ) → IsCall net p b (λ v log. wake (seen net v) p b now v log)
wake_is_call net p b now = record {
  view = λ v log other h. ap (λ (o : Outcome). o.view) (wake_apart (seen net v) p b now v log h) ∙ (below_view (seen net v) p b now v log other ∙ sym (ap (λ (o : Outcome). o.view) (wake_apart (seen net v) p b now v other h)));
  lines = λ v log other h. ap (λ (o : Outcome). o.lines) (wake_apart (seen net v) p b now v log h) ∙ (below_lines (seen net v) p b now v log other ∙ sym (ap (λ (o : Outcome). o.lines) (wake_apart (seen net v) p b now v other h)));
  frames = λ v log other h. ap (λ (o : Outcome). o.frames) (wake_apart (seen net v) p b now v log h) ∙ (below_frames (seen net v) p b now v log other ∙ sym (ap (λ (o : Outcome). o.frames) (wake_apart (seen net v) p b now v other h)));
  log = λ v log h. ap (λ (o : Outcome). o.log) (wake_apart (seen net v) p b now v log h) ∙ below_log (seen net v) p b now v log;
  unsent = λ v log. wake_unsent (seen net v) p b now v log;
}

-- A frame that comes

-- but for the log, which stays, an outcome is the same over another log
abbrev Passes : (Log → Outcome) → Log → Log → Type 0
Passes f log other = ((f log).view ≡ (f other).view) × (((f log).lines ≡ (f other).lines) × (((f log).frames ≡ (f other).frames) × ((f log).log ≡ log)))

receive_passes : (net : Net) (now : ℕ) (x : Frame) (v : View) (log other : Log) → Passes (λ l. receive net now x v l) log other
unfolding receive expect curiosity asking learn
receive_passes net now x v log other = go x.body
  where
    learned : (runs : Known) (js : Joins) (c : Bool) → Passes (λ l. elim c [ true ↦ record { view = v; log = l; lines = []; frames = [] } | false ↦ learn net x.head.publisher x.head.to runs (with_joins v (longer v.joins js)) l ]) log other
    learned runs js true = (refl, (refl, (refl, refl)))
    learned runs js false = (refl, (refl, (refl, refl)))

    go : (y : Body) → Passes (λ l. elim y [
      | body.Knowledge runs js ↦ elim (drops v runs js) [ true ↦ record { view = v; log = l; lines = []; frames = [] } | false ↦ learn net x.head.publisher x.head.to runs (with_joins v (longer v.joins js)) l ]
      | body.Curiosity runs ↦ curiosity net x.head.publisher x.head.to now x.head.from (place_of x.head.from (net.children x.head.publisher x.head.to)) runs v l
      | body.Expect tick ↦ expect net x.head.publisher x.head.to now tick v l
    ]) log other
    go (body.Knowledge runs js) = learned runs js (drops v runs js)
    go (body.Curiosity runs) = (refl, (refl, (refl, refl)))
    go (body.Expect tick) = (refl, (refl, (refl, refl)))

pub receive_is_call : (net : Net) (now : ℕ) (x : Frame) → IsCall net x.head.publisher x.head.to (λ v log. receive (seen net (taking v x)) now x v log)
receive_is_call net now x = record {
  view = λ v log other h. (receive_passes (seen net (taking v x)) now x v log other).0;
  lines = λ v log other h. (receive_passes (seen net (taking v x)) now x v log other).1.0;
  frames = λ v log other h. (receive_passes (seen net (taking v x)) now x v log other).1.1.0;
  log = λ v log h. (receive_passes (seen net (taking v x)) now x v log log).1.1.1;
  unsent = λ v log. receive_none is_sent (seen net (taking v x)) now x v log sents_skip;
}

-- Calls at the host

at_host : (net : Net) (p : ℕ) → is_host net p (net.host p) ≡ false → ⊥
at_host net p h = true≢false (sym (eq-eqb (net.host p) (net.host p) refl) ∙ h)

host_is_call : (net : Net) (p : ℕ) (f : View → Log → Outcome) → ((v : View) (log : Log) → filter is_sent (f v log).lines ≡ []) → IsCall net p (net.host p) f
host_is_call net p f unsent = record {
  view = λ v log other h. absurd (at_host net p h);
  lines = λ v log other h. absurd (at_host net p h);
  frames = λ v log other h. absurd (at_host net p h);
  log = λ v log h. absurd (at_host net p h);
  unsent = unsent;
}

publish_line_unsent : (p now number : ℕ) (r : Recorded) → filter is_sent (publish_line p now number r ∷ []) ≡ []
publish_line_unsent p now number r = go (nat_le number r.last) (nat_lt (suc r.last) number) (nat_lt max_tick (max (suc r.settled) now))
  where
    go : (x y z : Bool) → filter is_sent ((if x then line.Already p number else (if y then line.Gap p number (suc r.last) else (if z then line.Exhausted p number else line.Logged p number (max (suc r.settled) now)))) ∷ []) ≡ []
    go true y z = refl
    go false true z = refl
    go false false true = refl
    go false false false = refl

pub publish_is_call : (net : Net) (p now number : ℕ) (e : Event) → IsCall net p (net.host p) (λ v log. publish (seen net v) p (net.host p) now number e v log)
publish_is_call net p now number e = host_is_call net p (λ v log. publish (seen net v) p (net.host p) now number e v log)
    (λ v log. publish_some is_sent (seen net v) p (net.host p) now number e v log sents_skip ∙ publish_line_unsent p now number (core log))

join_line_unsent : (s p now : ℕ) (r : Recorded) → filter is_sent (join_line s p now r ∷ []) ≡ []
join_line_unsent s p now r = go (has_joined r.joined s) (nat_lt max_tick (max (suc r.settled) now))
  where
    go : (x y : Bool) → filter is_sent ((if x then line.AlreadyJoined s p else (if y then line.ExhaustedJoin s p else line.Joined s p (max (suc r.settled) now))) ∷ []) ≡ []
    go true y = refl
    go false true = refl
    go false false = refl

pub join_is_call : (net : Net) (p now s : ℕ) → IsCall net p (net.host p) (λ v log. joining (seen net (view_joined log s now v)) p (net.host p) now s v log)
join_is_call net p now s = host_is_call net p (λ v log. joining (seen net (view_joined log s now v)) p (net.host p) now s v log)
    (λ v log. join_some is_sent (seen net (view_joined log s now v)) p (net.host p) now s v log sents_skip ∙ join_line_unsent s p now (core log))
