-- What comes to a server, with joins: each arrival of an honest journal does the same as on the net of the last joins
use Rattle.std.proofs.Common.{◌≡◌, inl, ⊎_elim, ℕ, ◌<◌, ◌≤◌, Bool, true, false, ◌&&◌, List, [], ◌∷◌, ◌++◌, filter, refl, sym, ap, ◌∙◌, subst, Option, Some, None, Result, Ok, Err}
use Rattle.std.specs.Prelude.{nat_eq, nat_lt, if◌then◌else◌}
use Rattle.std.specs.List.{AllByRecursion}
use Rattle.std.proofs.lemmas.Bool.{and_parts, ltb-true}
use Rattle.gr_event.specs.declared.event.Event.{Event}
use Rattle.gr_event.specs.Joins.{Joins, first_split}
use Rattle.gr_event.specs.declared.join.Split.{Split}
use Rattle.gr_frame.specs.declared.Frame.{Frame}
use Rattle.gr_frame.specs.declared.fault.FrameFault.{FrameFault}
use Rattle.gr_frame.specs.Bytes.{frame_bytes}
use Rattle.gr_frame.specs.Decode.{frame_decoded}
use Rattle.gr_note.specs.declared.note.Note.{Note}
use Rattle.gr_note.specs.declared.note.Note.TheVariants.{Submit, Next, Spent}
use Rattle.gr_note.specs.declared.fault.NoteFault.{NoteFault}
use Rattle.gr_note.specs.Fault as note
use Rattle.gr_note.specs.Bytes.{begins_note}
use Rattle.gr_note.specs.Decode.{note_decoded}
use Rattle.gr_sched.specs.declared.step.Line.{Line}
use Rattle.gr_model.specs.declared.report.Report.{Report}
use Rattle.gr_model.specs.declared.report.Report.TheVariants as line
use Rattle.gr_model.specs.Net.{Net, with_wants, wants_with, numbers}
use Rattle.gr_model.specs.Tree.{IsNet}
use Rattle.gr_model.specs.Broker.{View, seen}
use Rattle.gr_model.specs.World.{World, Transition, view_of, unchanged, in_turn, wake_all_by, publish_now_by, deliver_frame_by}
use Rattle.gr_model.specs.Arrivals.{asks_publish, asks_join, Arrival, datagram, quiet, Publish, at_moment, joins_in, split_line, clash_line, least_clash, fits_broker, fault_number, takes_notes, left_after, takes_by, receives_by, notes_by, answered_first_by, quieted_by, comes_by, show_hosted, served_from_by, arrived_by, Request}
use Rattle.gr_model.specs.Headline.{History, history, is_sent}
use Rattle.gr_model_calls.specs.OneNet as one
use Rattle.gr_model_calls.specs.Fits.{WorldFits, FrameTrue, StepIn}
use Rattle.gr_model_calls.proofs.runs.Worlds.{Each, wake_all_kept, publish_kept, join_kept}
use Rattle.gr_model_calls.proofs.runs.Closed.{frame_at_ready}
use Rattle.gr_model_calls.proofs.runs.Schedules.{clocked_fits, frame_at_true}
use Rattle.gr_model_calls.proofs.runs.Seeing.{Back, Runs, Runs-same, Runs-after, in_turn_back, in_turn_runs, wake_all_back, wake_all_runs}
use Rattle.gr_model_calls.proofs.joins.Growing.{AheadOf, growing}
use Rattle.gr_model_calls.proofs.joins.SameCalls.{same_calls}
use Rattle.gr_model_calls.proofs.joins.OneRun.{IsNet-with}
use Rattle.gr_model_theorems.specs.Spelled.{IsInLimits, IsSpelled}
use Rattle.gr_model_theorems.specs.Served.{IsOfBytes, IsHonestAt, IsHonest, steps_at}
use Rattle.gr_model_theorems.proofs.server.Arriving.{number_is}
use Rattle.gr_model_theorems.proofs.server.Serving.{AreBrokers, all_brokers, LeftIn, left_in, Ready, each_of, honest_same, turn}

-- Carried back

module _ (m : Net) (see : View → Net) (last : ℕ → Joins) where
  abbrev ahead : World → Type 0
  ahead = AheadOf m last

  first_back : (left : List Request) → Back ahead (λ w. answered_first_by see m w left)
  first_back [] w b = b
  first_back (asks_publish p number e ∷ left) w b = (growing m see last).published p number e w b
  first_back (asks_join s p ∷ left) w b = (growing m see last).joined s p w b

  wakes_back : (hosted : List ℕ) → Back ahead (in_turn (wake_all_by see m) hosted)
  wakes_back hosted = in_turn_back ahead (wake_all_by see m) (λ b. wake_all_back m see ahead (growing m see last) b) hosted

  pub comes_back : (hosted : List ℕ) (left : List Request) (a : Arrival) → Back ahead (λ w. comes_by see m hosted w left a)
  unfolding comes_by quieted_by notes_by receives_by takes_by
  comes_back hosted left (quiet moment) w b = first_back left (at_moment w moment) (wakes_back hosted (answered_first_by see m (at_moment w moment) left).world b)
  comes_back hosted left (datagram c bytes moment) w x = go (begins_note bytes) x
    where
      u : World
      u = at_moment w moment

      submitted : (p k : ℕ) (e : Event) (q : Bool) → (let o : Option Publish = if q then Some (p, (k, e)) else None in let t : Transition = elim o [ Some x ↦ publish_now_by see m u x.0 x.1.0 x.1.1 | None ↦ unchanged u (line.DroppedStrayNote c p ∷ []) ] in ahead t.world) → ahead u
      submitted p k e true y = (growing m see last).published p k e u y
      submitted p k e false y = y

      noted : (r : Result Note NoteFault) → ahead (notes_by see m u c r).world → ahead u
      noted (Err fault) y = y
      noted (Ok (Submit p k e)) y = submitted p k e (takes_notes m c p) y
      noted (Ok (Next p k)) y = y
      noted (Ok (Spent p)) y = y

      clashed : (f : Frame) (o : Option ℕ) → (let t : Transition = elim o [ Some t ↦ unchanged u (clash_line c (view_of u c f.head.publisher).know f t ∷ []) | None ↦ deliver_frame_by see m u f ] in ahead t.world) → ahead u
      clashed f (Some t) y = y
      clashed f None y = (growing m see last).delivered f u y

      split : (f : Frame) (o : Option Split) → (let t : Transition = elim o [ Some x ↦ unchanged u (split_line c x ∷ []) | None ↦ elim (least_clash (view_of u c f.head.publisher).know f) [ Some t ↦ unchanged u (clash_line c (view_of u c f.head.publisher).know f t ∷ []) | None ↦ deliver_frame_by see m u f ] ] in ahead t.world) → ahead u
      split f (Some z) y = y
      split f None y = clashed f (least_clash (view_of u c f.head.publisher).know f) y

      fitted : (f : Frame) (q : Bool) → (let t : Transition = elim q [ false ↦ unchanged u (line.DroppedStray c f.head.from f.head.to f.head.publisher ∷ []) | true ↦ takes_by see m u c f ] in ahead t.world) → ahead u
      fitted f false y = y
      fitted f true y = split f (first_split 0 (view_of u c f.head.publisher).joins (joins_in f)) y

      framed : (r : Result Frame FrameFault) → ahead (receives_by see m u c r).world → ahead u
      framed (Err fault) y = y
      framed (Ok f) y = fitted f (fits_broker m c f) y

      go : (q : Bool) → (let t : Transition = elim q [ true ↦ notes_by see m u c (note_decoded bytes) | false ↦ receives_by see m u c (frame_decoded bytes) ] in ahead t.world) → ahead u
      go true y = noted (note_decoded bytes) y
      go false y = framed (frame_decoded bytes) y

  pub arrived_back : (hosted : List ℕ) (arrivals : List Arrival) (left : List Request) (w : World) → ahead (arrived_by see m hosted w left arrivals) → ahead w
  unfolding arrived_by
  arrived_back hosted [] left w b = b
  arrived_back hosted (a ∷ arrivals) left w b = comes_back hosted left a w (arrived_back hosted arrivals (left_after left a) (comes_by see m hosted w left a).world b)

-- One arrival

each_broker : (g : Net) (bs : List ℕ) → AreBrokers g bs → Each (λ b. b < g.brokers) bs
each_broker g [] a = tt
each_broker g (b ∷ bs) a = (a.0, each_broker g bs a.1)

-- what a datagram says, if it is a frame, is true
abbrev pub IsTold : Net → World → Arrival → Type 0
IsTold g w (datagram b bytes moment) = (f : Frame) → frame_decoded bytes ≡ Ok f → FrameTrue g w f
IsTold g w (quiet moment) = Unit {0}

module _ (net : Net) (last : ℕ → Joins) (n : IsNet net) where
  abbrev wants : ℕ → ℕ → ℕ → Event → Bool
  wants = λ p s t e. wants_with net (last p) p s t e

  abbrev g : Net
  g = with_wants net wants

  tree : IsNet g
  tree = IsNet-with net wants n

  abbrev B : World → Type 0
  B = AheadOf net last

  first_runs : (w : World) (left : List Request) → WorldFits g w → LeftIn net left → Runs B (answered_first_by (seen net) net w left) (one.answered_first g w left)
  first_runs w [] f l = Runs-same B (unchanged w [])
  first_runs w (asks_publish p number e ∷ left) f l = (same_calls net last tree).published w p number e f l.0.0
  first_runs w (asks_join s p ∷ left) f l = (same_calls net last tree).joined w s p f l.0.1

  first_fits : (w : World) (left : List Request) → WorldFits g w → LeftIn net left → WorldFits g (one.answered_first g w left).world
  first_fits w [] f l = f
  first_fits w (asks_publish p number e ∷ left) f l = (publish_kept g w p number e tree f l.0.0).fits
  first_fits w (asks_join s p ∷ left) f l = (join_kept g w s p tree f l.0.0 l.0.1).fits

  wakes_runs : (hosted : List ℕ) (w : World) → AreBrokers net hosted → WorldFits g w → Runs B (in_turn (wake_all_by (seen net) net) hosted w) (in_turn (one.wake_all g) hosted w)
  wakes_runs hosted w k f =
      in_turn_runs g B (λ u b. b < net.brokers) (wake_all_by (seen net) net) (one.wake_all g) (λ b. wake_all_back net (seen net) B (growing net (seen net) last) b) (λ b. wake_all_back g (λ _. g) B (growing g (λ _. g) last) b) (λ v u b l h. h) (λ u b x h. wake_all_kept g u b tree x h)
      (λ u b x h. wake_all_runs net wants (seen net) B tree (growing net (seen net) last) (growing g (λ _. g) last) (same_calls net last tree) u b x h) hosted w f (each_broker net hosted k)

  pub comes_runs : (hosted : List ℕ) (w : World) (left : List Request) (a : Arrival) → AreBrokers net hosted → WorldFits g w → LeftIn net left → IsTold g w a → Runs B (comes_by (seen net) net hosted w left a) (one.comes g hosted w left a)
  unfolding comes_by quieted_by notes_by receives_by takes_by
  comes_runs hosted w left (quiet moment) k f l told =
      let u = at_moment w moment in
      let now : WorldFits g u = clocked_fits g w u.clock u.most f in
      Runs-after B (answered_first_by (seen net) net u left) (one.answered_first g u left) (in_turn (wake_all_by (seen net) net) hosted) (in_turn (one.wake_all g) hosted) (wakes_back net (seen net) last hosted) (wakes_back g (λ _. g) last hosted)
      (first_runs u left now l) (wakes_runs hosted (one.answered_first g u left).world k (first_fits u left now l))
  comes_runs hosted w left (datagram b bytes moment) k f l told = go (begins_note bytes)
    where
      u : World
      u = at_moment w moment

      now : WorldFits g u
      now = clocked_fits g w u.clock u.most f

      true_now : (x : Frame) → FrameTrue g w x → FrameTrue g u x
      true_now x t = record { publisher_in = t.publisher_in; fits = t.fits; told = t.told }

      submitted : (p k : ℕ) (e : Event) (q : Bool) → takes_notes net b p ≡ q → (let o : Option Publish = if q then Some (p, (k, e)) else None in
          Runs B (elim o [ Some x ↦ publish_now_by (seen net) net u x.0 x.1.0 x.1.1 | None ↦ unchanged u (line.DroppedStrayNote b p ∷ []) ]) (elim o [ Some x ↦ one.publish_now g u x.0 x.1.0 x.1.1 | None ↦ unchanged u (line.DroppedStrayNote b p ∷ []) ]))
      submitted p k e true h = (same_calls net last tree).published u p k e now (ltb-true p net.publishers (and_parts (nat_lt p net.publishers) (net.client p && nat_eq (net.host p) b) h).0)
      submitted p k e false h = Runs-same B (unchanged u (line.DroppedStrayNote b p ∷ []))

      noted : (r : Result Note NoteFault) → Runs B (notes_by (seen net) net u b r) (one.notes g u b r)
      noted (Err fault) = Runs-same B (unchanged u (line.DroppedBadNote b (note.fault_number fault.kind) fault.at ∷ []))
      noted (Ok (Submit p k e)) = submitted p k e (takes_notes net b p) refl
      noted (Ok (Next p k)) = Runs-same B (unchanged u (line.DroppedStrayNote b p ∷ []))
      noted (Ok (Spent p)) = Runs-same B (unchanged u (line.DroppedStrayNote b p ∷ []))

      clashed : (x : Frame) (o : Option ℕ) → FrameTrue g w x → Runs B (elim o [ Some t ↦ unchanged u (clash_line b (view_of u b x.head.publisher).know x t ∷ []) | None ↦ deliver_frame_by (seen net) net u x ]) (elim o [ Some t ↦ unchanged u (clash_line b (view_of u b x.head.publisher).know x t ∷ []) | None ↦ one.deliver_frame g u x ])
      clashed x (Some t) y = Runs-same B (unchanged u (clash_line b (view_of u b x.head.publisher).know x t ∷ []))
      clashed x None y = (same_calls net last tree).delivered u x now (true_now x y)

      split : (x : Frame) (o : Option Split) → FrameTrue g w x → (let c : (Transition → Transition) = λ t. elim o [ Some z ↦ unchanged u (split_line b z ∷ []) | None ↦ elim (least_clash (view_of u b x.head.publisher).know x) [ Some k ↦ unchanged u (clash_line b (view_of u b x.head.publisher).know x k ∷ []) | None ↦ t ] ] in
          Runs B (c (deliver_frame_by (seen net) net u x)) (c (one.deliver_frame g u x)))
      split x (Some z) y = Runs-same B (unchanged u (split_line b z ∷ []))
      split x None y = clashed x (least_clash (view_of u b x.head.publisher).know x) y

      fitted : (x : Frame) (q : Bool) → FrameTrue g w x → Runs B (elim q [ false ↦ unchanged u (line.DroppedStray b x.head.from x.head.to x.head.publisher ∷ []) | true ↦ takes_by (seen net) net u b x ]) (elim q [ false ↦ unchanged u (line.DroppedStray b x.head.from x.head.to x.head.publisher ∷ []) | true ↦ one.takes g u b x ])
      fitted x false y = Runs-same B (unchanged u (line.DroppedStray b x.head.from x.head.to x.head.publisher ∷ []))
      fitted x true y = split x (first_split 0 (view_of u b x.head.publisher).joins (joins_in x)) y

      framed : (r : Result Frame FrameFault) → frame_decoded bytes ≡ r → Runs B (receives_by (seen net) net u b r) (one.receives g u b r)
      framed (Err fault) d = Runs-same B (unchanged u (line.DroppedNotFrame b (fault_number fault.kind) fault.at ∷ []))
      framed (Ok x) d = fitted x (fits_broker net b x) (told x d)

      go : (c : Bool) → Runs B (elim c [ true ↦ notes_by (seen net) net u b (note_decoded bytes) | false ↦ receives_by (seen net) net u b (frame_decoded bytes) ]) (elim c [ true ↦ one.notes g u b (note_decoded bytes) | false ↦ one.receives g u b (frame_decoded bytes) ])
      go true = noted (note_decoded bytes)
      go false = framed (frame_decoded bytes) refl

-- what is honest is true
pub honest_told : (m : Net) (P : World → Type 0) (w : World) (h : History) (a : Arrival) → ((u : World) → P u → AllByRecursion IsSpelled u.frames) → ((f : Frame) → IsSpelled f → frame_decoded (frame_bytes f) ≡ Ok f) → Ready m P w h → IsHonestAt h.lines a → IsTold m w a
honest_told m P w h (quiet moment) spelled decodes r x = tt
honest_told m P w h (datagram b bytes moment) spelled decodes r x = λ f d. ⊎_elim
    (λ z. absurd (fault_not_frame z.0 f (sym z.1 ∙ d)))
    (λ z.
    let s = number_is w z.0 b bytes h.lines r.whole.stands.sent z.1 in
    let whole : IsSpelled s.frame = frame_at_ready IsSpelled w z.0 s.frame (each_of IsSpelled w.frames (spelled w r.limits)) s.there in
    let e : frame_decoded bytes ≡ Ok s.frame = subst (λ bs. frame_decoded bs ≡ Ok s.frame) s.same (decodes s.frame whole) in
    subst (λ (y : Frame). FrameTrue m w y) (same_frame s.frame f (sym e ∙ d)) (frame_at_true m w z.0 s.frame r.whole.stands.fits s.there))
    x
  where
    fault_not_frame : (fault : FrameFault) (f : Frame) → Err fault ≡ Ok f → ⊥
    fault_not_frame fault f e = cc

    same_frame : (f k : Frame) → (let r : Result Frame FrameFault = Ok f in r ≡ Ok k) → f ≡ k
    same_frame f k e = cc

-- A journal

shown_same : (net : Net) (f : ℕ → ℕ → ℕ → Event → Bool) (hosted : List ℕ) (w : World) → show_hosted (with_wants net f) hosted w ≡ show_hosted net hosted w
unfolding show_hosted
shown_same net f hosted w = refl

module _ (net : Net) (last : ℕ → Joins) (n : IsNet net) (on : 1 ≤ net.quiet) (retry : 1 ≤ net.retry) (P : World → Type 0) (keeps : (u : World) (l : Line) → (let g = with_wants net (λ p s t e. wants_with net (last p) p s t e) in WorldFits g u → StepIn g l.step → IsInLimits l.step → P u → P (one.next g u l).world)) (spelled : (u : World) → P u → AllByRecursion IsSpelled u.frames) (decodes : (f : Frame) → IsSpelled f → frame_decoded (frame_bytes f) ≡ Ok f) where
  abbrev last_wants : ℕ → ℕ → ℕ → Event → Bool
  last_wants = λ p s t e. wants_with net (last p) p s t e

  abbrev m : Net
  m = with_wants net last_wants

  n-of-last : IsNet m
  n-of-last = IsNet-with net last_wants n

  abbrev all : List ℕ
  all = numbers net.brokers

  -- from where all stands on, what an honest journal leads to is the same
  pub served_are : (arrivals : List Arrival) (w : World) (h : History) (left : List Request) → Ready m P w h → LeftIn net left → AllByRecursion IsOfBytes arrivals → IsHonest h.lines arrivals (served_from_by (seen net) net all w left arrivals) → AheadOf net last (arrived_by (seen net) net all w left arrivals)
      → (served_from_by (seen net) net all w left arrivals ≡ one.served_from m all w left arrivals) × (arrived_by (seen net) net all w left arrivals ≡ one.arrived m all w left arrivals)
  unfolding served_from_by arrived_by
  served_are [] w h left r l f x b = (ap (λ (ls : List Report). ls ∷ []) (sym (shown_same net last_wants all w)), refl)
  served_are (a ∷ arrivals) w h left r l f x b =
      let t : Transition = comes_by (seen net) net all w left a in
      let u : Transition = one.comes m all w left a in
      let steps : List Line = steps_at m all h.lines left a in
      let v : World = (one.run_all m w steps).world in
      let g : History = history m h steps (one.run_from m w steps) in
      let e : t ≡ u = (comes_runs net last n all w left a (all_brokers net) r.whole.stands.fits l (honest_told m P w h a spelled decodes r x.0)).on (inl (arrived_back net (seen net) last all arrivals (left_after left a) t.world b)) in
      let y = turn m n-of-last on retry P keeps spelled decodes all w h left a (all_brokers m) r l f.0 x.0 in
      let to_v : t.world ≡ v = ap (λ (z : Transition). z.world) e ∙ y.does.world in
      let honest : IsHonest g.lines arrivals (served_from_by (seen net) net all v (left_after left a) arrivals) = subst (λ (z : World). IsHonest g.lines arrivals (served_from_by (seen net) net all z (left_after left a) arrivals)) to_v
      (honest_same (h.lines ++ t.lines) g.lines arrivals (served_from_by (seen net) net all t.world (left_after left a) arrivals) (ap (λ (z : Transition). filter is_sent (h.lines ++ z.lines)) e ∙ y.same) x.1) in
      let rest = served_are arrivals v g (left_after left a) y.ready (left_in net left a l) f.1 honest (subst (λ (z : World). AheadOf net last (arrived_by (seen net) net all z (left_after left a) arrivals)) to_v b) in
      let back : v ≡ u.world = sym y.does.world in (
        ap (λ (z : Transition). z.lines ∷ served_from_by (seen net) net all z.world (left_after left a) arrivals) e
            ∙ ap (λ (rs : List (List Report)). u.lines ∷ rs) (subst (λ (z : World). served_from_by (seen net) net all z (left_after left a) arrivals ≡ one.served_from m all z (left_after left a) arrivals) back rest.0),
        ap (λ (z : Transition). arrived_by (seen net) net all z.world (left_after left a) arrivals) e
            ∙ subst (λ (z : World). arrived_by (seen net) net all z (left_after left a) arrivals ≡ one.arrived m all z (left_after left a) arrivals) back rest.1,
      )
