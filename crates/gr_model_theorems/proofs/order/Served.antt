-- What each list over all publishers says at a server: an arrival's lines are those of its steps, but for the line of a datagram that is dropped, which no list hears
use Rattle.std.proofs.Common.{◌≡◌, ℕ, ◌≤◌, ◌<◌, Bool, true, false, List, [], ◌∷◌, ◌++◌, refl, sym, ap, ◌∙◌, subst, Option, Some, None, Result, Ok, Err, append-nil, append_assoc}
use Rattle.std.specs.Prelude.{nat_eq}
use Rattle.std.specs.List.{AllByRecursion, list_any}
use Rattle.gr_frame.specs.declared.Frame.{Frame}
use Rattle.gr_frame.specs.declared.fault.FrameFault.{FrameFault}
use Rattle.gr_frame.specs.Bytes.{frame_bytes}
use Rattle.gr_frame.specs.Decode.{frame_decoded}
use Rattle.gr_frame.proofs.Spelled.{spelled_decodes}
use Rattle.gr_note.specs.declared.note.Note.{Note}
use Rattle.gr_note.specs.declared.fault.NoteFault.{NoteFault}
use Rattle.gr_note.specs.Bytes.{begins_note}
use Rattle.gr_note.specs.Decode.{note_decoded}
use Rattle.gr_sched.specs.declared.step.Line.{Line}
use Rattle.gr_model.specs.declared.report.Report.{Report}
use Rattle.gr_model.specs.Net.{Net, numbers}
use Rattle.gr_model.specs.Tree.{IsNet, IsSubscriber, IsDistinct}
use Rattle.gr_model.specs.Broker.{Log}
use Rattle.gr_model.specs.World.{World, Transition}
use Rattle.gr_model_calls.specs.OneNet.{next, run_all, run_from, comes, served_from, served}
use Rattle.gr_model.specs.Opening.{begin_over}
use Rattle.gr_model.specs.Headline.{History, history}
use Rattle.gr_model.specs.Arrivals.{Arrival, datagram, quiet, Publish, publisher_of, submitted_in, requests_of, left_after, show_hosted, served_from_by, served_by, Request}
use Rattle.gr_model.specs.Orders.{Order, fed, ordered, without_ordered, orders_over, ordered_steps}
use Rattle.gr_model_calls.specs.Fits.{WorldFits, StepIn, StepsIn}
use Rattle.gr_model_theorems.specs.Found.{AreReopened}
use Rattle.gr_model_theorems.specs.Spelled.{IsInLimits, NumbersIn, IsSpelled, WorldIn}
use Rattle.gr_model_theorems.specs.Served.{IsOfBytes, IsHonest, IsHonestRun, steps_of_arrival, dropped_as, unsubmitted_as, note_dropped_as, dropped_line}
use Rattle.gr_model_theorems.specs.Statements.{opened_over}
use Rattle.gr_model_theorems.specs.OrderedServed.{told_in_order, OrderedServed_from, TotallyOrderedServed}
use Rattle.gr_model_theorems.proofs.limits.Spelled.{IsSmall, next_in}
use Rattle.gr_model_theorems.proofs.records.Recorded.{runs}
use Rattle.gr_model_theorems.proofs.server.Serving.{LeftIn, left_in, requests_are_in, all_brokers, Ready, turn, still_honest, arrival_holds}
use Rattle.gr_model_theorems.proofs.server.ServedOver.{opened_ready, begun_lines}
use Rattle.gr_model_theorems.proofs.order.Hearing.{joined}
use Rattle.gr_model_theorems.proofs.order.Always.{Come, goes_on, is_ordered, begins}
use Rattle.gr_model_theorems.proofs.order.OneOrder.{AtEnd}
use Rattle.gr_model_theorems.proofs.order.Unheard.{AreUnheard, fed_unheard, fed_append, shown_unheard, rested_ready}

-- no list hears that a datagram was dropped
dropped_unheard : (net : Net) (a : Arrival) → AreUnheard (dropped_line net a)
dropped_unheard net (quiet moment) = tt
dropped_unheard net (datagram b bytes moment) = go (begins_note bytes)
  where
    unsubmitted : (p : ℕ) (x : Option Publish) → AreUnheard (unsubmitted_as b p x)
    unsubmitted p None = (refl, tt)
    unsubmitted p (Some x) = tt

    noted : (r : Result Note NoteFault) → AreUnheard (note_dropped_as net b r)
    noted (Ok n) = unsubmitted (publisher_of n) (submitted_in net b n)
    noted (Err fault) = (refl, tt)

    framed : (r : Result Frame FrameFault) → AreUnheard (dropped_as b r)
    framed (Ok f) = tt
    framed (Err fault) = (refl, tt)

    go : (c : Bool) → AreUnheard (elim c [ true ↦ note_dropped_as net b (note_decoded bytes) | false ↦ dropped_as b (frame_decoded bytes) ])
    go true = noted (note_decoded bytes)
    go false = framed (frame_decoded bytes)

module _ (net : Net) (n : IsNet net) (on : 1 ≤ net.quiet) (retry : 1 ≤ net.retry) (P : World → Type 0) (keeps : (u : World) (l : Line) → WorldFits net u → StepIn net l.step → IsInLimits l.step → P u → P (next net u l).world) (spelled : (u : World) → P u → AllByRecursion IsSpelled u.frames) (decodes : (f : Frame) → IsSpelled f → frame_decoded (frame_bytes f) ≡ Ok f) (totals : List ℕ) (apart : IsDistinct totals) (there : (s : ℕ) → list_any (λ x. nat_eq x s) totals ≡ true → IsSubscriber net s) where
  -- from where all stands on, of what an honest journal leads to
  pub ordered_from : (arrivals : List Arrival) (w : World) (h : History) (left : List Request) (told : List Report) (os : List Order) (rs : List (List Report)) → Ready net P w h → LeftIn net left → AllByRecursion IsOfBytes arrivals
      → IsHonest h.lines arrivals (served_from net (numbers net.brokers) w left arrivals) → Come net totals h told os rs → ordered os ≡ []
      → OrderedServed_from net totals h told left arrivals (served_from net (numbers net.brokers) w left arrivals) (ordered_steps os (served_from net (numbers net.brokers) w left arrivals))
  unfolding served_from_by ordered_steps
  ordered_from [] w h left told os rs r l f x c none = (
    is_ordered net totals w h told os rs apart there r.whole.stands c,
    ap ordered (fed_unheard os (show_hosted net (numbers net.brokers) w) (shown_unheard net (numbers net.brokers) w)) ∙ none,
  )
  ordered_from (a ∷ arrivals) w h left told os rs r l f x c none =
      let all : List ℕ = numbers net.brokers in
      let steps : List Line = steps_of_arrival net h.lines left a in
      let lines : List Report = (run_all net w steps).lines in
      let t : Transition = comes net all w left a in
      let y = turn net n on retry P keeps spelled decodes all w h left a (all_brokers net) r l f.0 x.0 in
      let g : History = history net h steps (run_from net w steps) in
      let next : List Order = fed os t.lines in
      let heard : next ≡ fed os lines = ap (fed os) y.does.lines ∙ (fed_append os lines (dropped_line net a) ∙ fed_unheard (fed os lines) (dropped_line net a) (dropped_unheard net a)) in
      let more : g.lines ≡ h.lines ++ lines = (runs net w h steps n on r.whole.stands.fits r.whole.stands.records y.are_in.steps).lines in
      let come : Come net totals g (told ++ ordered next) (without_ordered next) (rs ++ lines ∷ []) =
      subst (λ (ns : List Order). Come net totals g (told ++ ordered ns) (without_ordered ns) (rs ++ lines ∷ [])) (sym heard) (goes_on net totals h g told os rs lines more c) in (
        is_ordered net totals w h told os rs apart there r.whole.stands c,
        arrival_holds net n on retry P keeps spelled decodes all
            (λ k. OrderedServed_from net totals k (told ++ ordered next) (left_after left a) arrivals (served_from net all t.world (left_after left a) arrivals) (ordered_steps (without_ordered next) (served_from net all t.world (left_after left a) arrivals)))
            w h left a r y
            (subst (λ (u : World). OrderedServed_from net totals g (told ++ ordered next) (left_after left a) arrivals (served_from net all u (left_after left a) arrivals) (ordered_steps (without_ordered next) (served_from net all u (left_after left a) arrivals))) (sym y.does.world)
            (ordered_from arrivals (run_all net w steps).world g (left_after left a) (told ++ ordered next) (without_ordered next) (rs ++ lines ∷ []) y.ready (left_in net left a l) f.1
            (still_honest net n on retry P keeps spelled decodes w h left a arrivals y x) come (rested_ready next))),
      )

-- over logs that were found
pub ordered_served : (net : Net) (totals : List ℕ) (logs : List Log) (steps : List Line) (arrivals : List Arrival) → IsNet net → IsSmall net → 1 ≤ net.quiet → 1 ≤ net.retry → AreReopened net logs → StepsIn net steps → NumbersIn steps → AllByRecursion IsOfBytes arrivals
    → IsDistinct totals → ((s : ℕ) → list_any (λ x. nat_eq x s) totals ≡ true → s < net.subscribers) → IsHonestRun arrivals (served net (numbers net.brokers) logs steps arrivals)
    → TotallyOrderedServed net totals logs steps arrivals (served net (numbers net.brokers) logs steps arrivals) (told_in_order net totals (served net (numbers net.brokers) logs steps arrivals))
unfolding served_by begin_over ordered_steps
ordered_served net totals logs steps arrivals n z on retry a i m fits apart below honest =
    let o : Transition = opened_over net logs in
    let h : History = begin_over net logs o.lines in
    let next : List Order = fed (orders_over net.publishers totals) o.lines in
    ordered_from net n on retry (WorldIn net.late) (λ u l f j k x. next_in net u l n z f j k x) (λ u x. x.frames) (λ f x. spelled_decodes (frame_bytes f) f x) totals apart (λ s here. n.subscriber s (below s here))
    arrivals o.world h (requests_of net (numbers net.brokers) steps) (ordered next) (without_ordered next) (o.lines ∷ []) (opened_ready net logs n z a) (requests_are_in net (numbers net.brokers) steps i m) fits honest
    (begins net totals h o.lines (begun_lines net logs o.lines)) (rested_ready next)

-- ---- one order

last_arrival : (net : Net) (totals : List ℕ) (h : History) (told : List Report) (left : List Request) (arrivals : List Arrival) (rs os : List (List Report)) → OrderedServed_from net totals h told left arrivals rs os → AtEnd net totals (told ++ joined os)
last_arrival net totals h told left [] (r ∷ []) (o ∷ []) k =
    let a : AtEnd net totals told = record { now = h; ordered = k.0 } in
    subst (λ (xs : List Report). AtEnd net totals (told ++ (xs ++ []))) (sym k.1) (subst (λ (xs : List Report). AtEnd net totals xs) (sym (append-nil told)) a)
last_arrival net totals h told left (a ∷ arrivals) (r ∷ rs) (o ∷ os) k =
    subst (λ (xs : List Report). AtEnd net totals xs) (append_assoc told o (joined os)) (last_arrival net totals (history net h (steps_of_arrival net h.lines left a) k.1.parts) (told ++ o) (left_after left a) arrivals rs os k.1.rest)
last_arrival net totals h told left [] [] os k = absurd k
last_arrival net totals h told left [] (r ∷ []) [] k = absurd k
last_arrival net totals h told left [] (r ∷ []) (o ∷ (p ∷ os)) k = absurd k
last_arrival net totals h told left [] (r ∷ (q ∷ rs)) os k = absurd k
last_arrival net totals h told left (a ∷ arrivals) [] os k = absurd k
last_arrival net totals h told left (a ∷ arrivals) (r ∷ rs) [] k = absurd k

pub at_end : (net : Net) (totals : List ℕ) (logs : List Log) (steps : List Line) (arrivals : List Arrival) (rs told : List (List Report)) → TotallyOrderedServed net totals logs steps arrivals rs told → AtEnd net totals (joined told)
at_end net totals logs steps arrivals [] told k = absurd k
at_end net totals logs steps arrivals (r ∷ rs) [] k = absurd k
at_end net totals logs steps arrivals (r ∷ rs) (o ∷ os) k = last_arrival net totals (begin_over net logs r) o (requests_of net (numbers net.brokers) steps) arrivals rs os k
