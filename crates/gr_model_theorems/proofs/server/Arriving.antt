-- An arrival does what its steps of a schedule do
use Rattle.std.proofs.Common.{◌≡◌, inl, inr, ℕ, suc, ◌+◌, min, max, Bool, true, false, ◌&&◌, List, [], ◌∷◌, ◌++◌, map, length, refl, sym, ap, ap₂, ◌∙◌, subst, Option, Some, None, arith, append-nil, append_assoc}
use Rattle.std.specs.Prelude.{is_some, nat_eq, bytes_eq, if◌then◌else◌, filter, slice_get, Result, Ok, Err}
use Rattle.std.specs.List.{list_any}
use Rattle.std.proofs.lemmas.Bool.{cases_Bool, cond-true, cond-false, and_parts, eq-eqb, eqb-true, lt-ltb, true≢false}
use Rattle.std.proofs.lemmas.Slice.Eq.{bytes_eq-Decides}
use Rattle.gr_frame.specs.declared.Body.{Body}
use Rattle.gr_frame.specs.declared.Body.TheVariants as body
use Rattle.gr_frame.specs.declared.Frame.{Frame}
use Rattle.gr_frame.specs.declared.fault.FrameFault.{FrameFault}
use Rattle.gr_frame.specs.Bytes.{frame_bytes}
use Rattle.gr_frame.specs.Decode.{frame_decoded}
use Rattle.gr_note.specs.declared.note.Note.{Note}
use Rattle.gr_note.specs.declared.fault.NoteFault.{NoteFault}
use Rattle.gr_note.specs.Fault as note
use Rattle.gr_note.specs.Bytes.{begins_note}
use Rattle.gr_note.specs.Decode.{note_decoded}
use Rattle.gr_know.specs.Values.{Known}
use Rattle.gr_curio.specs.Values.{Wanted}
use Rattle.gr_sched.specs.declared.step.Line.{Line}
use Rattle.gr_sched.specs.declared.step.Step.TheVariants as step
use Rattle.gr_model.specs.declared.report.Report.{Report}
use Rattle.gr_model.specs.declared.report.Report.TheVariants as line
use Rattle.gr_model.specs.Net.{Net, not_empty}
use Rattle.gr_model.specs.Broker.{max_tick, clashes}
use Rattle.gr_model.specs.World.{World, Transition, view_of, unchanged, followed_by, in_turn, frame_at, sent_line, sent_lines, next_by}
use Rattle.gr_model_calls.specs.OneNet.{deliver_frame, publish_now, wake_all, next, run_all, receives, notes, reads, answered_first, comes, join_now}
use Rattle.gr_model_calls.specs.Edges.{GoesBetween, GoesOverEdge}
use Rattle.gr_model.specs.Headline.{is_sent, sent_number}
use Rattle.gr_model_theorems.specs.Replies.{frame_of_line}
use Rattle.gr_model.specs.Arrivals.{asks_publish, asks_join, joins_in, split_line, Arrival, datagram, quiet, Publish, at_moment, fits_broker, clash_runs, first_of, least_clash, clash_line, publisher_of, submitted_in, comes_by, quieted_by, receives_by, takes_by, notes_by, Request}
use Rattle.gr_model_theorems.specs.Served.{tells_bytes, number_of_bytes, as_line, request_step, delivery_step, is_frame, submitted_step, note_step, steps_at, dropped_as, unsubmitted_as, note_dropped_as, dropped_line}
use Rattle.gr_model.specs.Tree.{IsNet}
use Rattle.gr_model_calls.specs.Fits.{WorldFits}
use Rattle.gr_model_calls.proofs.runs.Clash.{no_frame_splits, no_frame_clashes}
use Rattle.gr_model_theorems.proofs.heard.HeardSteps.{sent_line_number}
use Rattle.gr_model_theorems.proofs.headline.ReplyLines.{frame_told}
use Rattle.gr_event.specs.Joins.{Joins, first_split}
use Rattle.gr_event.specs.declared.join.Split.{Split}
use Rattle.gr_model_theorems.proofs.server.CallLines.{IsForeign, published_none, quieted_none, deliver_none}

-- Lines of frames by their bytes

-- only the lines of frames count
pub number_sent : (b : ℕ) (bytes : List ℕ) (ls : List Report) → number_of_bytes b bytes ls ≡ number_of_bytes b bytes (filter is_sent ls)
number_sent b bytes [] = refl
number_sent b bytes (l ∷ ls) =
    let rest = filter is_sent ls in
    let told : Bool = elim (frame_of_line l) [ Some f ↦ nat_eq f.head.to b && bytes_eq (frame_bytes f) bytes | None ↦ false ] in
    elim (cases_Bool (is_sent l)) [
      | inl e ↦ ap (λ (o : Option ℕ). if tells_bytes b bytes l then Some (sent_number l) else o) (number_sent b bytes ls) ∙ sym (ap (number_of_bytes b bytes) (cond-true (is_sent l) (l ∷ rest) rest e))
      | inr e ↦ ap (λ c. if c && told then Some (sent_number l) else number_of_bytes b bytes ls) e ∙ (number_sent b bytes ls ∙ sym (ap (number_of_bytes b bytes) (cond-false (is_sent l) (l ∷ rest) rest e)))
    ]

-- the frame that a number is of
pub record Found (fs : List Frame) (n k b : ℕ) (bytes : List ℕ) : Type 0 where
  pub place : ℕ
  pub number : k ≡ n + place
  pub frame : Frame
  pub there : slice_get fs place ≡ Some frame
  pub to : frame.head.to ≡ b
  pub same : frame_bytes frame ≡ bytes

some_same : (x y : ℕ) → Some x ≡ Some y → x ≡ y
some_same x y e = cc

told_bytes : (n b : ℕ) (bytes : List ℕ) (f : Frame) → tells_bytes b bytes (sent_line n f) ≡ true → (f.head.to ≡ b) × (frame_bytes f ≡ bytes)
told_bytes n b bytes f e =
    let x : (elim (frame_of_line (sent_line n f)) [ Some f ↦ nat_eq f.head.to b && bytes_eq (frame_bytes f) bytes | None ↦ false ]) ≡ true = (and_parts (is_sent (sent_line n f)) _ e).1 in
    let y : (nat_eq f.head.to b && bytes_eq (frame_bytes f) bytes) ≡ true = sym (ap (λ (o : Option Frame). elim o [ Some f ↦ nat_eq f.head.to b && bytes_eq (frame_bytes f) bytes | None ↦ false ]) (frame_told n f)) ∙ x in
    let z = and_parts (nat_eq f.head.to b) (bytes_eq (frame_bytes f) bytes) y in
    (eqb-true f.head.to b z.0, (bytes_eq-Decides (frame_bytes f) bytes).0 z.1)

number_found : (fs : List Frame) (n k b : ℕ) (bytes : List ℕ) → number_of_bytes b bytes (sent_lines n fs) ≡ Some k → Found fs n k b bytes
number_found [] n k b bytes e = absurd (none_some k e)
  where
    none_some : (k : ℕ) → None ≡ Some k → ⊥
    none_some k e = cc
number_found (f ∷ fs) n k b bytes e =
    elim (cases_Bool (tells_bytes b bytes (sent_line n f))) [
      | inl t ↦
          let x = told_bytes n b bytes f t in
          record { place = 0; number = some_same k n (sym e ∙ (ap (λ c. if c then Some (sent_number (sent_line n f)) else number_of_bytes b bytes (sent_lines (suc n) fs)) t ∙ ap Some (sent_line_number n f))) ∙ omega arith; frame = f; there = refl; to = x.0; same = x.1 }
      | inr t ↦
          let x = number_found fs (suc n) k b bytes (sym (ap (λ c. if c then Some (sent_number (sent_line n f)) else number_of_bytes b bytes (sent_lines (suc n) fs)) t) ∙ e) in
          record { place = suc x.place; number = omega (arith, x.number); frame = x.frame; there = x.there; to = x.to; same = x.same }
    ]

-- a frame that was sent to a broker, of these bytes and with this number
pub record Sent (w : World) (k b : ℕ) (bytes : List ℕ) : Type 0 where
  pub frame : Frame
  pub there : frame_at w k ≡ Some frame
  pub to : frame.head.to ≡ b
  pub same : frame_bytes frame ≡ bytes

-- bytes for a broker that have a number among the lines are those of a frame sent to it with that number
pub number_is : (w : World) (k b : ℕ) (bytes : List ℕ) (ls : List Report) → filter is_sent ls ≡ sent_lines 1 w.frames → number_of_bytes b bytes ls ≡ Some k → Sent w k b bytes
number_is w k b bytes ls e h =
    let x = number_found w.frames 1 k b bytes (sym (number_sent b bytes ls ∙ ap (number_of_bytes b bytes) e) ∙ h) in
    let place : k ≡ suc x.place = omega (arith, x.number) in
    record { frame = x.frame; there = subst (λ m. frame_at w m ≡ Some x.frame) (sym place) x.there; to = x.to; same = x.same }

-- A frame that was sent is received

abbrev moved : World → ℕ → World
moved w now = record { clock = now; most = max now w.most; frames = w.frames; views = w.views; logs = w.logs }

over_fits_broker : (net : Net) (f : Frame) (b : ℕ) → f.head.to ≡ b → GoesOverEdge net f → fits_broker net b f ≡ true
over_fits_broker net f b e g =
    ap₂ (λ x y. x && y) (ap₂ (λ x y. x && y) (ap₂ (λ x y. x && y) (eq-eqb f.head.to b e) (lt-ltb f.head.publisher net.publishers g.publisher)) (go f.body g.between)) g.joins
  where
    over : (o : Option ℕ) → o ≡ Some f.head.from → (elim o [ Some u ↦ nat_eq u f.head.from | None ↦ false ]) ≡ true
    over o h = ap (λ (z : Option ℕ). elim z [ Some u ↦ nat_eq u f.head.from | None ↦ false ]) h ∙ eq-eqb f.head.from f.head.from refl

    go : (y : Body) → GoesBetween net f.head.publisher f.head.from f.head.to y → (elim y [
      | body.Curiosity runs ↦ list_any (λ x. nat_eq x f.head.from) (net.children f.head.publisher b)
      | _ ↦ elim (net.up f.head.publisher b) [ Some u ↦ nat_eq u f.head.from | None ↦ false ]
    ]) ≡ true
    go (body.Curiosity runs) h = subst (λ z. list_any (λ x. nat_eq x f.head.from) (net.children f.head.publisher z) ≡ true) e h
    go (body.Knowledge runs js) h = over (net.up f.head.publisher b) (subst (λ z. net.up f.head.publisher z ≡ Some f.head.from) e h)
    go (body.Expect tick) h = over (net.up f.head.publisher b) (subst (λ z. net.up f.head.publisher z ≡ Some f.head.from) e h)

empty_first : (xs : Wanted) → not_empty xs ≡ false → first_of xs ≡ None
empty_first [] e = refl
empty_first (x ∷ xs) e = absurd (true≢false e)

plain : (know runs : Known) → clashes know runs ≡ false → not_empty (clash_runs know runs) ≡ false
unfolding clashes
plain know runs h = h

no_clash_here : (net : Net) (w : World) (k : ℕ) (f : Frame) → IsNet net → WorldFits net w → frame_at w k ≡ Some f → least_clash (view_of w f.head.to f.head.publisher).know f ≡ None
no_clash_here net w k f n fit at = go f.body refl
  where
    know : Known
    know = (view_of w f.head.to f.head.publisher).know

    go : (y : Body) → f.body ≡ y → (let o : Option ℕ = elim y [ body.Knowledge runs js ↦ first_of (clash_runs know runs) | _ ↦ None ] in o) ≡ None
    go (body.Knowledge runs js) e = empty_first (clash_runs know runs) (plain know runs (no_frame_clashes net w k f runs n fit at e))
    go (body.Curiosity runs) e = refl
    go (body.Expect tick) e = refl

no_split_here : (net : Net) (w : World) (k : ℕ) (f : Frame) → IsNet net → WorldFits net w → frame_at w k ≡ Some f → first_split 0 (view_of w f.head.to f.head.publisher).joins (joins_in f) ≡ None
no_split_here net w k f n fit at = go f.body refl
  where
    held : Joins
    held = (view_of w f.head.to f.head.publisher).joins

    none : (o : Option Split) → is_some o ≡ false → o ≡ None
    none None e = refl
    none (Some x) e = absurd (true≢false e)

    with_none : (js : Joins) → first_split 0 js [] ≡ None
    with_none [] = refl
    with_none (j ∷ js) = refl

    go : (y : Body) → f.body ≡ y → (let js : Joins = elim y [ body.Knowledge runs js ↦ js | _ ↦ [] ] in first_split 0 held js) ≡ None
    go (body.Knowledge runs js) e = none (first_split 0 held js) (no_frame_splits net w k f runs js n fit at e)
    go (body.Curiosity runs) e = with_none held
    go (body.Expect tick) e = with_none held

pub received : (net : Net) (w : World) (k b : ℕ) (f : Frame) → IsNet net → WorldFits net w → frame_at w k ≡ Some f → f.head.to ≡ b → GoesOverEdge net f → receives net w b (Ok f) ≡ deliver_frame net w f
unfolding receives_by takes_by
received net w k b f n fit at e g =
    let none : least_clash (view_of w b f.head.publisher).know f ≡ None = subst (λ z. least_clash (view_of w z f.head.publisher).know f ≡ None) e (no_clash_here net w k f n fit at) in
    let whole : first_split 0 (view_of w b f.head.publisher).joins (joins_in f) ≡ None = subst (λ z. first_split 0 (view_of w z f.head.publisher).joins (joins_in f) ≡ None) e (no_split_here net w k f n fit at) in
    let know : Known = (view_of w b f.head.publisher).know in
    let taken : Option Split → Transition = λ s. elim s [ Some x ↦ unchanged w (split_line b x ∷ []) | None ↦ elim (least_clash know f) [ Some t ↦ unchanged w (clash_line b know f t ∷ []) | None ↦ deliver_frame net w f ] ] in
    ap (λ c. elim c [ false ↦ unchanged w (line.DroppedStray b f.head.from f.head.to f.head.publisher ∷ []) | true ↦ taken (first_split 0 (view_of w b f.head.publisher).joins (joins_in f)) ]) (over_fits_broker net f b e g)
    ∙ ap taken whole
    ∙ ap (λ (o : Option ℕ). elim o [ Some t ↦ unchanged w (clash_line b know f t ∷ []) | None ↦ deliver_frame net w f ]) none

-- Steps

-- the same world and lines
pub run_append : (net : Net) (w : World) (xs ys : List Line) → run_all net w (xs ++ ys) ≡ followed_by (run_all net w xs) (λ u. run_all net u ys)
run_append net w [] ys = refl
run_append net w (l ∷ xs) ys =
    let s = next net w l in
    let t = run_all net s.world xs in
    ap (λ (r : Transition). record { world = r.world; lines = s.lines ++ r.lines }) (run_append net s.world xs ys)
    ∙ ap (λ (z : List Report). record { world = (run_all net t.world ys).world; lines = z }) (sym (append_assoc s.lines t.lines (run_all net t.world ys).lines))

woken : (net : Net) (w : World) (b : ℕ) → next net w (as_line (step.Wake b)) ≡ wake_all net w b
unfolding next_by
woken net w b = refl

wakes_run : (net : Net) (bs : List ℕ) (w : World) → run_all net w (map (λ b. as_line (step.Wake b)) bs) ≡ in_turn (wake_all net) bs w
wakes_run net [] w = refl
wakes_run net (b ∷ bs) w =
    ap (λ (s : Transition). followed_by s (λ u. run_all net u (map (λ c. as_line (step.Wake c)) bs))) (woken net w b)
    ∙ ap (λ (r : Transition). record { world = r.world; lines = (wake_all net w b).lines ++ r.lines }) (wakes_run net bs (wake_all net w b).world)

one_step : (s : Transition) → followed_by s (λ u. unchanged u []) ≡ s
one_step s = ap (λ (z : List Report). record { world = s.world; lines = z }) (append-nil s.lines)

published_run : (net : Net) (w : World) (left : List Request) → run_all net w (request_step left) ≡ answered_first net w left
unfolding next_by
published_run net w [] = refl
published_run net w (asks_publish p number e ∷ left) = one_step (publish_now net w p number e)
published_run net w (asks_join s p ∷ left) = one_step (join_now net w s p)

clock_step : (net : Net) (w : World) (now : ℕ) → next net w (as_line (step.Clock now)) ≡ unchanged (moved w now) []
unfolding next_by
clock_step net w now = refl

clock_first : (net : Net) (w : World) (now : ℕ) (ls : List Line) → run_all net w (as_line (step.Clock now) ∷ ls) ≡ run_all net (moved w now) ls
clock_first net w now ls = ap (λ (s : Transition). followed_by s (λ u. run_all net u ls)) (clock_step net w now)

delivered_step : (net : Net) (w : World) (k : ℕ) (f : Frame) → frame_at w k ≡ Some f → next net w (as_line (step.Deliver k)) ≡ deliver_frame net w f
unfolding next_by
delivered_step net w k f e = ap (λ (o : Option Frame). elim o [ None ↦ unchanged w (line.RefusedFrame 0 k (length w.frames) ∷ []) | Some f ↦ deliver_frame net w f ]) e

-- Notes and frames

as_note : (net : Net) (u : World) (b : ℕ) (bytes : List ℕ) → begins_note bytes ≡ true → reads net u b bytes ≡ notes net u b (note_decoded bytes)
as_note net u b bytes e = ap (λ c. elim c [ true ↦ notes net u b (note_decoded bytes) | false ↦ receives net u b (frame_decoded bytes) ]) e

as_frame : (net : Net) (u : World) (b : ℕ) (bytes : List ℕ) → begins_note bytes ≡ false → reads net u b bytes ≡ receives net u b (frame_decoded bytes)
as_frame net u b bytes e = ap (λ c. elim c [ true ↦ notes net u b (note_decoded bytes) | false ↦ receives net u b (frame_decoded bytes) ]) e

-- the steps and the dropped line of either
abbrev step_by : Net → List Report → ℕ → List ℕ → Bool → List Line
step_by net lines b bytes c =
    elim c [
      | true ↦ note_step net b (note_decoded bytes)
      | false ↦ if is_frame (frame_decoded bytes) then delivery_step (number_of_bytes b bytes lines) else []
    ]

abbrev dropped_by : Net → ℕ → List ℕ → Bool → List Report
dropped_by net b bytes c = elim c [ true ↦ note_dropped_as net b (note_decoded bytes) | false ↦ dropped_as b (frame_decoded bytes) ]

-- An arrival and its steps

-- it leaves the world of its steps and tells their lines, but for the line of a datagram that is dropped
pub record Does (net : Net) (hosted : List ℕ) (w : World) (left : List Request) (a : Arrival) (steps : List Line) : Type 0 where
  pub world : (comes net hosted w left a).world ≡ (run_all net w steps).world
  pub lines : (comes net hosted w left a).lines ≡ (run_all net w steps).lines ++ dropped_line net a
  pub called : (f : Report → Bool) → IsForeign f → filter f (run_all net w steps).lines ≡ []

does : (net : Net) (hosted : List ℕ) (w : World) (left : List Request) (a : Arrival) (steps : List Line) → dropped_line net a ≡ [] → comes net hosted w left a ≡ run_all net w steps → ((f : Report → Bool) → IsForeign f → filter f (comes net hosted w left a).lines ≡ []) → Does net hosted w left a steps
does net hosted w left a steps none e called = record {
  world = ap (λ (t : Transition). t.world) e;
  lines = ap (λ (t : Transition). t.lines) e ∙ (sym (append-nil (run_all net w steps).lines) ∙ ap (λ (z : List Report). (run_all net w steps).lines ++ z) (sym none));
  called = λ f k. ap (λ (t : Transition). filter f t.lines) (sym e) ∙ called f k;
}

-- a moment without a datagram does what its steps do
pub quiet_does : (net : Net) (hosted : List ℕ) (w : World) (left : List Request) (moment : ℕ) (lines : List Report) → Does net hosted w left (quiet moment) (steps_at net hosted lines left (quiet moment))
unfolding comes_by quieted_by
quiet_does net hosted w left moment lines =
    let u = at_moment w moment in
    let now : ℕ = min moment max_tick in
    let wakes = map (λ b. as_line (step.Wake b)) hosted in
    does net hosted w left (quiet moment) (steps_at net hosted lines left (quiet moment)) refl (sym (
    clock_first net w now (request_step left ++ wakes) ∙ (run_append net u (request_step left) wakes
    ∙ (ap (λ (s : Transition). followed_by s (λ v. run_all net v wakes)) (published_run net u left)
    ∙ (let s : Transition = answered_first net u left in ap (λ (r : Transition). record { world = r.world; lines = s.lines ++ r.lines }) (wakes_run net hosted s.world)))))) (λ f k. quieted_none f k net hosted u left)

-- one that is dropped with these lines changes nothing but the clock
dropped_does : (net : Net) (hosted : List ℕ) (w : World) (left : List Request) (a : Arrival) (now : ℕ) (steps : List Line) (told : List Report) → steps ≡ as_line (step.Clock now) ∷ [] → dropped_line net a ≡ told → comes net hosted w left a ≡ unchanged (moved w now) told → Does net hosted w left a steps
dropped_does net hosted w left a now steps told is drop e =
    let r : run_all net w (as_line (step.Clock now) ∷ []) ≡ unchanged (moved w now) [] = clock_first net w now [] in
    subst (λ (z : List Line). Does net hosted w left a z) (sym is) (record {
      world = ap (λ (t : Transition). t.world) e ∙ sym (ap (λ (t : Transition). t.world) r);
      lines = ap (λ (t : Transition). t.lines) e ∙ sym (ap₂ (λ (x y : List Report). x ++ y) (ap (λ (t : Transition). t.lines) r) drop);
      called = λ f k. ap (λ (t : Transition). filter f t.lines) r;
    })

-- a datagram with a frame that was sent does what the steps of its delivery do
pub frame_does : (net : Net) (hosted : List ℕ) (w : World) (left : List Request) (b moment k : ℕ) (bytes : List ℕ) (f : Frame) (lines : List Report) → IsNet net → WorldFits net (at_moment w moment) → begins_note bytes ≡ false → frame_decoded bytes ≡ Ok f → frame_at w k ≡ Some f → f.head.to ≡ b → GoesOverEdge net f → number_of_bytes b bytes lines ≡ Some k →
    Does net hosted w left (datagram b bytes moment) (steps_at net hosted lines left (datagram b bytes moment))
unfolding comes_by
frame_does net hosted w left b moment k bytes f lines n fit begun d at to over number =
    let u = at_moment w moment in
    let now : ℕ = min moment max_tick in
    let steps : List Line = as_line (step.Clock now) ∷ (as_line (step.Deliver k) ∷ []) in
    let is : steps_at net hosted lines left (datagram b bytes moment) ≡ steps =
    ap (λ (z : List Line). as_line (step.Clock now) ∷ z) (ap (step_by net lines b bytes) begun ∙ ap₂ (λ (r : Result Frame FrameFault) (o : Option ℕ). if is_frame r then delivery_step o else []) d number) in
    let came : comes net hosted w left (datagram b bytes moment) ≡ deliver_frame net u f =
    as_frame net u b bytes begun ∙ (ap (receives net u b) d ∙ received net u k b f n fit at to over) in
    subst (λ (z : List Line). Does net hosted w left (datagram b bytes moment) z) (sym is) (does net hosted w left (datagram b bytes moment) steps (ap (dropped_by net b bytes) begun ∙ ap (dropped_as b) d)
    (came ∙ sym (clock_first net w now (as_line (step.Deliver k) ∷ []) ∙ (ap (λ (s : Transition). followed_by s (λ v. unchanged v [])) (delivered_step net u k f at) ∙ one_step (deliver_frame net u f))))
    (λ g foreign. ap (λ (t : Transition). filter g t.lines) came ∙ deliver_none g foreign net u f))

-- a datagram that is neither a note nor a frame does what its steps do: it changes nothing
pub fault_does : (net : Net) (hosted : List ℕ) (w : World) (left : List Request) (b moment : ℕ) (bytes : List ℕ) (fault : FrameFault) (lines : List Report) → begins_note bytes ≡ false → frame_decoded bytes ≡ Err fault → Does net hosted w left (datagram b bytes moment) (steps_at net hosted lines left (datagram b bytes moment))
unfolding comes_by receives_by
fault_does net hosted w left b moment bytes fault lines begun d =
    let now : ℕ = min moment max_tick in
    let clock : List Line → List Line = λ z. as_line (step.Clock now) ∷ z in
    dropped_does net hosted w left (datagram b bytes moment) now (steps_at net hosted lines left (datagram b bytes moment)) (dropped_as b (Err fault))
    (ap clock (ap (step_by net lines b bytes) begun ∙ ap (λ (r : Result Frame FrameFault). if is_frame r then delivery_step (number_of_bytes b bytes lines) else []) d))
    (ap (dropped_by net b bytes) begun ∙ ap (dropped_as b) d)
    (as_frame net (at_moment w moment) b bytes begun ∙ ap (receives net (at_moment w moment) b) d)

-- a note does what its steps do: it publishes what it submits, or changes nothing
pub note_does : (net : Net) (hosted : List ℕ) (w : World) (left : List Request) (b moment : ℕ) (bytes : List ℕ) (lines : List Report) → begins_note bytes ≡ true → Does net hosted w left (datagram b bytes moment) (steps_at net hosted lines left (datagram b bytes moment))
unfolding comes_by notes_by
note_does net hosted w left b moment bytes lines begun = go (note_decoded bytes) refl
  where
    u : World
    u = at_moment w moment

    now : ℕ
    now = min moment max_tick

    a : Arrival
    a = datagram b bytes moment

    clock : List Line → List Line
    clock z = as_line (step.Clock now) ∷ z

    steps : (r : Result Note NoteFault) → note_decoded bytes ≡ r → steps_at net hosted lines left a ≡ clock (note_step net b r)
    steps r d = ap clock (ap (step_by net lines b bytes) begun ∙ ap (note_step net b) d)

    dropped : (r : Result Note NoteFault) → note_decoded bytes ≡ r → dropped_line net a ≡ note_dropped_as net b r
    dropped r d = ap (dropped_by net b bytes) begun ∙ ap (note_dropped_as net b) d

    came : (r : Result Note NoteFault) → note_decoded bytes ≡ r → comes net hosted w left a ≡ notes net u b r
    came r d = as_note net u b bytes begun ∙ ap (notes net u b) d

    submit : (n : Note) (o : Option Publish) → submitted_in net b n ≡ o → note_decoded bytes ≡ Ok n → Does net hosted w left a (steps_at net hosted lines left a)
    submit n None e d =
        dropped_does net hosted w left a now (steps_at net hosted lines left a) (line.DroppedStrayNote b (publisher_of n) ∷ [])
        (steps (Ok n) d ∙ ap (λ (o : Option Publish). clock (submitted_step o)) e)
        (dropped (Ok n) d ∙ ap (unsubmitted_as b (publisher_of n)) e)
        (came (Ok n) d ∙ ap (λ (o : Option Publish). elim o [ Some x ↦ publish_now net u x.0 x.1.0 x.1.1 | None ↦ unchanged u (line.DroppedStrayNote b (publisher_of n) ∷ []) ]) e)
    submit n (Some x) e d =
        let all : List Line = clock (request_step (asks_publish x.0 x.1.0 x.1.1 ∷ [])) in
        let is : steps_at net hosted lines left a ≡ all = steps (Ok n) d ∙ ap (λ (o : Option Publish). clock (submitted_step o)) e in
        let same : comes net hosted w left a ≡ answered_first net u (asks_publish x.0 x.1.0 x.1.1 ∷ []) =
        came (Ok n) d ∙ ap (λ (o : Option Publish). elim o [ Some x ↦ publish_now net u x.0 x.1.0 x.1.1 | None ↦ unchanged u (line.DroppedStrayNote b (publisher_of n) ∷ []) ]) e in
        subst (λ (z : List Line). Does net hosted w left a z) (sym is) (does net hosted w left a all
        (dropped (Ok n) d ∙ ap (unsubmitted_as b (publisher_of n)) e)
        (same ∙ sym (clock_first net w now (request_step (asks_publish x.0 x.1.0 x.1.1 ∷ [])) ∙ published_run net u (asks_publish x.0 x.1.0 x.1.1 ∷ [])))
        (λ f k. ap (λ (t : Transition). filter f t.lines) same ∙ published_none f k net u (asks_publish x.0 x.1.0 x.1.1 ∷ [])))

    go : (r : Result Note NoteFault) → note_decoded bytes ≡ r → Does net hosted w left a (steps_at net hosted lines left a)
    go (Ok n) d = submit n (submitted_in net b n) refl d
    go (Err fault) d =
        dropped_does net hosted w left a now (steps_at net hosted lines left a) (line.DroppedBadNote b (note.fault_number fault.kind) fault.at ∷ [])
        (steps (Err fault) d) (dropped (Err fault) d) (came (Err fault) d)
