-- The headline of a server, said by the joins that are recorded
use Rattle.std.proofs.Common.{◌≡◌, ℕ, ◌≤◌, Bool, List, [], ◌∷◌, ◌++◌, sym, ap, ◌∙◌, subst, Ok}
use Rattle.std.specs.List.{AllByRecursion}
use Rattle.gr_event.specs.declared.event.Event.{Event}
use Rattle.gr_event.specs.Joins.{Joins}
use Rattle.gr_frame.specs.declared.Frame.{Frame}
use Rattle.gr_frame.specs.Bytes.{frame_bytes}
use Rattle.gr_frame.specs.Decode.{frame_decoded}
use Rattle.gr_sched.specs.declared.step.Step.TheVariants as step
use Rattle.gr_sched.specs.declared.step.Line.{Line}
use Rattle.gr_model.specs.declared.report.Report.{Report}
use Rattle.gr_model.specs.Net.{Net, with_wants, wants_with, numbers}
use Rattle.gr_model.specs.Tree.{IsNet}
use Rattle.gr_model.specs.World.{World, Transition, log_of, show, next_by, run_from_by}
use Rattle.gr_model.specs.Headline.{Recorded, History, history, history_after, records_after, record_of, recorded_net}
use Rattle.gr_model.specs.Arrivals.{Arrival, Request, left_after, served_from_by, arrived_by}
use Rattle.gr_model_calls.specs.OneNet as one
use Rattle.gr_model_calls.specs.Truth.{Grows}
use Rattle.gr_model_calls.specs.Fits.{WorldFits, StepIn}
use Rattle.gr_model_calls.proofs.calls.Held.{grows_not}
use Rattle.gr_model_calls.proofs.runs.Schedules.{report_lines}
use Rattle.gr_model_calls.proofs.joins.OneRun.{IsNet-with}
use Rattle.gr_model_theorems.specs.Spelled.{IsInLimits, IsSpelled}
use Rattle.gr_model_theorems.specs.Served.{IsOfBytes, IsHonest, steps_at, as_line, dropped_line, ShowHolds_by, HoldsServed_by}
use Rattle.gr_model_theorems.proofs.records.Recorded.{record_core}
use Rattle.gr_model_theorems.proofs.headline.AfterSweeps.{holds_where_sweeps_reach}
use Rattle.gr_model_theorems.proofs.headline.SecondReaches.{sweeps_reach}
use Rattle.gr_model_theorems.proofs.server.Serving.{all_brokers, LeftIn, left_in, Ready, turn, still_honest, arrival_told, shown, shown_parts}
use Rattle.gr_model_theorems.proofs.joins.Owing.{RecordedAhead, RecordsUpto, ahead_from, holds_before}
use Rattle.gr_model_theorems.proofs.joins.AsOne.{history_same}
use Rattle.gr_model_theorems.proofs.joins.Always.{upto_after}

pub upto_run : (net : Net) (h : History) (ls : List Line) (rs : List (List Report)) → RecordsUpto h.records → RecordsUpto (history net h ls rs).records
upto_run net h [] rs u = u
upto_run net h (l ∷ ls) [] u = u
upto_run net h (l ∷ ls) (r ∷ rs) u = upto_run net (history_after net h l r) ls rs (upto_after net h l r u)

module _ (net : Net) (last : ℕ → Joins) (n : IsNet net) (on : 1 ≤ net.quiet) (retry : 1 ≤ net.retry) (P : World → Type 0) (keeps : (u : World) (l : Line) → (let g = with_wants net (λ p s t e. wants_with net (last p) p s t e) in WorldFits g u → StepIn g l.step → IsInLimits l.step → P u → P (one.next g u l).world)) (spelled : (u : World) → P u → AllByRecursion IsSpelled u.frames) (decodes : (f : Frame) → IsSpelled f → frame_decoded (frame_bytes f) ≡ Ok f) where
  abbrev wants : ℕ → ℕ → ℕ → Event → Bool
  wants = λ p s t e. wants_with net (last p) p s t e

  abbrev m : Net
  m = with_wants net wants

  tree : IsNet m
  tree = IsNet-with net wants n

  abbrev all : List ℕ
  all = numbers net.brokers

  -- at the end nothing is to be joined any more, so what is to come is ahead of each history before it
  pub served_holds : (arrivals : List Arrival) (w : World) (h : History) (left : List Request) → Ready m P w h → LeftIn net left → AllByRecursion IsOfBytes arrivals → IsHonest h.lines arrivals (one.served_from m all w left arrivals) → RecordsUpto h.records → ((p : ℕ) → (log_of (one.arrived m all w left arrivals) p).joins ≡ last p)
      → RecordedAhead last h × HoldsServed_by (recorded_net net) net h left arrivals (one.served_from m all w left arrivals)
  unfolding served_from_by arrived_by next_by run_from_by history_after records_after
  served_holds [] w h left r l f x u ends =
      let ahead : RecordedAhead last h = λ p. subst (λ (js : Joins). Grows (record_of h p).joined js (record_of h p).settled) (ap (λ (c : Recorded). c.joined) (record_core m w h p r.whole.stands.records) ∙ ends p) (grows_not (record_of h p).joined (record_of h p).settled) in (
        ahead,
        subst (λ (z : List Report). ShowHolds_by (recorded_net net) net h z) (sym (shown m w tree)) (record {
          shown = shown_parts m w;
          steps = holds_before net last h (as_line step.Show ∷ []) (show m w ∷ []) ahead u (holds_where_sweeps_reach m w h (as_line step.Show ∷ []) tree (sweeps_reach m tree on retry) on (tt, tt) r.whole r.unknown);
        }),
      )
  served_holds (a ∷ arrivals) w h left r l f x u ends =
      let t : Transition = one.comes m all w left a in
      let steps : List Line = steps_at m all h.lines left a in
      let parts : List (List Report) = one.run_from m w steps in
      let v : World = (one.run_all m w steps).world in
      let g : History = history m h steps parts in
      let y = turn m tree on retry P keeps spelled decodes all w h left a (all_brokers m) r l f.0 x.0 in
      let g_same : g ≡ history net h steps parts = history_same net last h steps parts in
      let rest = served_holds arrivals v g (left_after left a) y.ready (left_in net left a l) f.1 (still_honest m tree on retry P keeps spelled decodes w h left a arrivals y x) (subst (λ (k : History). RecordsUpto k.records) (sym g_same) (upto_run net h steps parts u))
      (subst (λ (z : World). (p : ℕ) → (log_of (one.arrived m all z (left_after left a) arrivals) p).joins ≡ last p) y.does.world ends) in
      let ahead : RecordedAhead last (history net h steps parts) = subst (RecordedAhead last) g_same rest.0 in
      let told = arrival_told m tree on retry P keeps spelled decodes all w h left a r y in (
        ahead_from net last h steps parts ahead,
        record {
          told = record { dropped = told.dropped; unreplied = told.unreplied; numbered = told.numbered };
          parts = parts;
          lines = y.does.lines ∙ ap (λ (z : List Report). z ++ dropped_line m a) (sym (report_lines m w steps));
          steps = holds_before net last h steps parts ahead u (holds_where_sweeps_reach m w h steps tree (sweeps_reach m tree on retry) on y.are_in.steps r.whole r.unknown);
          rest = subst (λ (k : History). HoldsServed_by (recorded_net net) net k (left_after left a) arrivals (one.served_from m all t.world (left_after left a) arrivals)) g_same
              (subst (λ (z : World). HoldsServed_by (recorded_net net) net g (left_after left a) arrivals (one.served_from m all z (left_after left a) arrivals)) (sym y.does.world) rest.1);
        },
      )
