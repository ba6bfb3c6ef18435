-- What passes a broker: a wake where the publisher is not and a frame that comes leave the log, what is sent goes over
-- edges, and what went over an edge fits its receiver
use Rattle.std.proofs.Common.{◌≡◌, ◌<◌, ℕ, Bool, true, false, ◌&&◌, List, [], ◌∷◌, Option, Some, None, Result, Ok, Err, refl, sym, ap, ap₂, ◌∙◌, subst}
use Rattle.std.specs.Prelude.{◌↔◌, nat_eq, IsSome, is_some, IfOk}
use Rattle.std.specs.List.{list_any}
use Rattle.std.proofs.lemmas.Bool.{eq-eqb, lt-ltb, true≢false, or_left, or_right}
use Rattle.gr_event.specs.declared.event.Event.{Event}
use Rattle.gr_event.specs.declared.join.Split.{Split}
use Rattle.gr_event.specs.Joins.{Joins, first_split, longer, splits}
use Rattle.gr_know.specs.Values.{Known}
use Rattle.gr_frame.specs.declared.Body.{Body}
use Rattle.gr_frame.specs.declared.Body.TheVariants as body
use Rattle.gr_frame.specs.declared.Frame.{Frame}
use Rattle.gr_model.specs.declared.report.Report.{Report}
use Rattle.gr_model.specs.Net.{Net, is_host, all_late, with_wants, wants_with}
use Rattle.gr_model.specs.Tree.{IsNet}
use Rattle.gr_model.specs.Arrivals.{fits_broker, clash_runs, first_of, joins_in, least_clash}
use Rattle.gr_model.specs.Broker.{View, Log, Outcome as MachineOutcome, empty_log, wake, wake_host, wake_below, asking, clashes, drops, receive, learn, curiosity, expect, place_of, seen, unmoved, with_joins}
use Rattle.gr_model_calls.specs.Edges.{GoesBetween, GoesOverEdge}
use Rattle.gr_model_calls.specs.Fits.{BodyFits}
pub use Rattle.gr_model_calls.proofs.topology.Strays.{SentOn, over_edges}
use Rattle.gr_model_theorems.proofs.server.CutEvents.{on_log}
use Rattle.gr_broker_relay.specs.declared.outcome.Outcome.{Outcome}
use Rattle.gr_broker_relay.specs.Told.{Tells}
use Rattle.gr_broker.specs.declared.outcome.BrokerFault.{BrokerFault}
use Rattle.gr_broker.specs.Seen.{BrokerView}
use Rattle.gr_broker.specs.Receipt.{Receipt, no_frame, stray, split, clash, taken, after_receipt}

-- A wake

-- a broker at which the publisher is not looks at no log, and passes it on
pub wake_passes : (net : Net) (p b now : ℕ) (v : View) (l : Log) → is_host net p b ≡ false → wake net p b now v l ≡ on_log (wake net p b now v empty_log) l
unfolding wake wake_below asking
wake_passes net p b now v l e = go (is_host net p b) e
  where
    go : (q : Bool) → q ≡ false →
        (let o : MachineOutcome = elim q [ true ↦ wake_host net p b now v l | false ↦ wake_below net p b now v l ] in o)
        ≡ on_log (elim q [ true ↦ wake_host net p b now v empty_log | false ↦ wake_below net p b now v empty_log ]) l
    go false h = refl
    go true h = absurd (true≢false h)

-- what is told is the same over another log
pub tells_on : (o : MachineOutcome) (l : Log) (answer : Result Outcome BrokerFault) → IfOk answer (Tells o) → IfOk answer (Tells (on_log o l))
tells_on o l (Ok told) t = record { lines = t.lines; frames = t.frames; spelled = t.spelled }
tells_on o l (Err e) t = tt

-- What is sent

-- what holds of each frame that a broker sends does not depend on what subscribers want
pub sent_with : (net : Net) (wants : ℕ → ℕ → ℕ → Event → Bool) (p b : ℕ) (js : Joins) (R : Frame → Type 0) → SentOn net p b js R → SentOn (with_wants net wants) p b js R
sent_with net wants p b js R s = record { know = s.know; want = s.want; expect = s.expect }

-- each frame that a broker sends by what its view shows goes over an edge, where all joins that it holds are of late
-- subscribers
pub seen_edges : (net : Net) (v : View) (p b : ℕ) → IsNet net → p < net.publishers → b < net.brokers → all_late net v.joins ≡ true → SentOn (seen net v) p b v.joins (GoesOverEdge net)
seen_edges net v p b n j i late = sent_with net (wants_with net v.joins) p b v.joins (GoesOverEdge net) (over_edges net p b v.joins n j i late)

-- A frame that goes over an edge

-- it fits its receiver
pub over_fits_broker : (net : Net) (f : Frame) (b : ℕ) → f.head.to ≡ b → GoesOverEdge net f → fits_broker net b f ≡ true
over_fits_broker net f b e g =
    ap₂ (λ x y. x && y) (ap₂ (λ x y. x && y) (ap₂ (λ x y. x && y) (eq-eqb f.head.to b e) (lt-ltb f.head.publisher net.publishers g.publisher)) (go f.body g.between)) g.joins
  where
    over : (o : Option ℕ) → o ≡ Some f.head.from → (elim o [ Some u ↦ nat_eq u f.head.from | None ↦ false ]) ≡ true
    over o h = ap (λ (z : Option ℕ). elim z [ Some u ↦ nat_eq u f.head.from | None ↦ false ]) h ∙ eq-eqb f.head.from f.head.from refl

    go : (y : Body) → GoesBetween net f.head.publisher f.head.from f.head.to y → (elim y [
      | body.Curiosity runs ↦ list_any (λ x. nat_eq x f.head.from) (net.children f.head.publisher b)
      | _ ↦ elim (net.up f.head.publisher b) [ Some u ↦ nat_eq u f.head.from | None ↦ false ]
    ]) ≡ true
    go (body.Curiosity runs) h = subst (λ z. list_any (λ x. nat_eq x f.head.from) (net.children f.head.publisher z) ≡ true) e h
    go (body.Knowledge runs js) h = over (net.up f.head.publisher b) (subst (λ z. net.up f.head.publisher z ≡ Some f.head.from) e h)
    go (body.Expect tick) h = over (net.up f.head.publisher b) (subst (λ z. net.up f.head.publisher z ≡ Some f.head.from) e h)

-- and its body comes from where it should
pub body_fits : (net : Net) (p from to : ℕ) (y : Body) → GoesBetween net p from to y → BodyFits net p from to y
body_fits net p from to (body.Curiosity runs) h = h
body_fits net p from to (body.Knowledge runs js) h = tt
body_fits net p from to (body.Expect tick) h = tt

-- whatever subscribers want
pub body_fits_with : (net : Net) (wants : ℕ → ℕ → ℕ → Event → Bool) (p from to : ℕ) (y : Body) → GoesBetween net p from to y → BodyFits (with_wants net wants) p from to y
body_fits_with net wants p from to (body.Curiosity runs) h = h
body_fits_with net wants p from to (body.Knowledge runs js) h = tt
body_fits_with net wants p from to (body.Expect tick) h = tt

-- there is no value in none
pub none_some : {X : Type 0} {x : X} → None ≡ Some x → ⊥
none_some e = cc

-- What the two laws of receipts say

abbrev pub PassesLog : Type 0
PassesLog = (net : Net) (now : ℕ) (f : Frame) (v : View) (log : Log) → let o : MachineOutcome = receive net now f v log in o.log ≡ log

abbrev pub PassesRest : Type 0
PassesRest = (net : Net) (now : ℕ) (f : Frame) (v : View) (log : Log) →
    let o : MachineOutcome = receive net now f v log in let e : MachineOutcome = receive net now f v empty_log in
    (o.view ≡ e.view) × (o.lines ≡ e.lines) × (o.frames ≡ e.frames)

abbrev pub HasLeast : Type 0
HasLeast = (know piece : Known) → (clashes know piece ≡ true) ↔ IsSome (first_of (clash_runs know piece))

-- over another log all but the log is the same
pub receive_passes : PassesLog → PassesRest → (net : Net) (now : ℕ) (f : Frame) (v : View) (l : Log) → on_log (receive net now f v empty_log) l ≡ receive net now f v l
receive_passes passes rest net now f v l =
    let o : MachineOutcome = receive net now f v l in
    let m : MachineOutcome = receive net now f v empty_log in
    let r = rest net now f v l in
    ap (λ (x : View). made x l m.lines m.frames) (sym r.0)
    ∙ (ap (λ (x : Log). made o.view x m.lines m.frames) (sym (passes net now f v l))
    ∙ (ap (λ (x : List Report). made o.view o.log x m.frames) (sym r.1) ∙ ap (λ (x : List Frame). made o.view o.log o.lines x) (sym r.2)))
  where
    made : View → Log → List Report → List Frame → MachineOutcome
    made v l ls fs = record { view = v; log = l; lines = ls; frames = fs }

-- what a frame does where it is dropped if it is of knowledge
dropped : (net : Net) (now : ℕ) (f : Frame) (v : View) (l : Log) (runs : Known) (js : Joins) → f.body ≡ body.Knowledge runs js → drops v runs js ≡ true → receive net now f v l ≡ unmoved v l
unfolding receive
dropped net now f v l runs js e d =
    ap (λ (y : Body). does y) e ∙ ap (λ (q : Bool). elim q as (λ _. MachineOutcome) [ true ↦ unmoved v l | false ↦ learn net f.head.publisher f.head.to runs (with_joins v (longer v.joins js)) l ]) d
  where
    does : Body → MachineOutcome
    does y = elim y [
      | body.Knowledge runs js ↦ elim (drops v runs js) [ true ↦ unmoved v l | false ↦ learn net f.head.publisher f.head.to runs (with_joins v (longer v.joins js)) l ]
      | body.Curiosity runs ↦ curiosity net f.head.publisher f.head.to now f.head.from (place_of f.head.from (net.children f.head.publisher f.head.to)) runs v l
      | body.Expect tick ↦ expect net f.head.publisher f.head.to now tick v l
    ]

-- where the joins split nothing happens
pub split_drops : (net : Net) (now : ℕ) (f : Frame) (v : View) (l : Log) (x : Split) → first_split 0 v.joins (joins_in f) ≡ Some x → receive net now f v l ≡ unmoved v l
unfolding drops
split_drops net now f v l x e = go f.body refl e
  where
    none_splits : (js : Joins) → first_split 0 js [] ≡ None
    none_splits [] = refl
    none_splits (j ∷ js) = refl

    go : (y : Body) → f.body ≡ y → first_split 0 v.joins (elim y [ body.Knowledge runs js ↦ js | _ ↦ [] ]) ≡ Some x → receive net now f v l ≡ unmoved v l
    go (body.Knowledge runs js) b h = dropped net now f v l runs js b (or_left (splits v.joins js) (clashes v.know runs) (ap (λ (o : Option Split). is_some o) h))
    go (body.Curiosity runs) b h = absurd (none_some (sym (none_splits v.joins) ∙ h))
    go (body.Expect tick) b h = absurd (none_some (sym (none_splits v.joins) ∙ h))

-- where there is a least clash nothing happens
pub clash_drops : HasLeast → (net : Net) (now : ℕ) (f : Frame) (v : View) (l : Log) (t : ℕ) → least_clash v.know f ≡ Some t → receive net now f v l ≡ unmoved v l
unfolding drops
clash_drops law net now f v l t e = go f.body refl e
  where
    go : (y : Body) → f.body ≡ y → (let o : Option ℕ = elim y [ body.Knowledge runs js ↦ first_of (clash_runs v.know runs) | _ ↦ None ] in o) ≡ Some t → receive net now f v l ≡ unmoved v l
    go (body.Knowledge runs js) b h = dropped net now f v l runs js b (or_right (splits v.joins js) (clashes v.know runs) ((law v.know runs).1 (subst IsSome (sym h) refl)))
    go (body.Curiosity runs) b h = absurd (none_some h)
    go (body.Expect tick) b h = absurd (none_some h)

-- What a receipt leaves

-- the logs, the number and all else but one view stay
pub receipt_logs : (f : Frame) (r : Receipt) (b : BrokerView) → (after_receipt (Ok f) r b).logs ≡ b.logs
receipt_logs f (no_frame e) b = refl
receipt_logs f (stray h) b = refl
receipt_logs f (split x) b = refl
receipt_logs f (clash t k c) b = refl
receipt_logs f (taken o) b = refl

pub receipt_number : (f : Frame) (r : Receipt) (b : BrokerView) → (after_receipt (Ok f) r b).number ≡ b.number
receipt_number f (no_frame e) b = refl
receipt_number f (stray h) b = refl
receipt_number f (split x) b = refl
receipt_number f (clash t k c) b = refl
receipt_number f (taken o) b = refl
