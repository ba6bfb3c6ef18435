-- The headline holds whole over each schedule whose steps keep what was heard
use Rattle.std.proofs.Common.{◌≡◌, ℕ, ◌≤◌, ◌<◌, true, false, List, [], ◌∷◌, length, get_or, replicate, sym, ap, ◌∙◌, subst}
use Rattle.std.proofs.lemmas.Bool.{or_left}
use Rattle.std.proofs.lemmas.List.{get_or-replicate, length-replicate}
use Rattle.gr_know.specs.Values.{Known}
use Rattle.gr_sched.specs.declared.step.Line.{Line}
use Rattle.gr_model.specs.declared.report.Report.TheVariants as line
use Rattle.gr_model.specs.Net.{Net, keeps_horizon, not_empty, is_empty}
use Rattle.gr_model.specs.Broker.{empty_log}
use Rattle.gr_model.specs.World.{World, view_of, start, run_from_by}
use Rattle.gr_model_calls.specs.OneNet.{next, run_from, run_all, Holds_from}
use Rattle.gr_model.specs.Headline.{heard_after, history, History, history_after, begin, is_heard, IsDoubt, Delivered, StepReports}
use Rattle.gr_model.specs.Tree.{IsNet}
use Rattle.gr_model_calls.specs.Fits.{StepIn, StepsIn, WorldFits}
use Rattle.gr_model_theorems.proofs.records.RecordSteps.{step_records}
use Rattle.gr_model_theorems.proofs.records.Stored.{kept_where_stored, next_reclaims}
use Rattle.gr_model_theorems.proofs.records.Doubtlines.{doubts_stand}
use Rattle.gr_model_theorems.proofs.records.NamedLines.{Named, IsShown, step_named}
use Rattle.gr_model_theorems.proofs.heard.Heard.{HeardFits}
use Rattle.gr_model_theorems.proofs.headline.SoFar.{doubt_at, Stands, gets_now, in_order, next_stands, start_stands, sent_count_is, split_from, named_doubt}
use Rattle.gr_model_theorems.proofs.heard.HeardCalls.{started_heard}
use Rattle.gr_model_theorems.proofs.heard.HeardSteps.{Hears, HeardLong, heard_in}
use Rattle.gr_model_calls.proofs.runs.Worlds.{reached_here}
use Rattle.gr_model_theorems.proofs.cuts.Orders.{has_one}
use Rattle.gr_model_calls.proofs.runs.Schedules.{start_is}

-- what stands, with what was heard
pub record Whole (net : Net) (w : World) (h : History) : Type 0 where
  pub stands : Stands net w h
  pub hears : Hears net w h.heard

-- a kept horizon is the doubt horizon
doubt_is : (net : Net) (w : World) (h : History) (b p : ℕ) → Whole net w h → b < net.brokers → p < net.publishers → keeps_horizon net p b ≡ true → IsDoubt net h b p (view_of w b p).horizon
doubt_is net w h b p k i j keeps = record {
  at_host = λ x. doubt_at net w h b p k.stands j keeps x;
  below = λ x t a c. (k.hears.fits b p i j x keeps).below t a c;
  ends = λ x. (k.hears.fits b p i j x keeps).stops;
}

delivered_exactly : (net : Net) (w : World) (h : History) → IsNet net → Whole net w h → Delivered net h
delivered_exactly net w h n k = record {
  got = λ s p i j. (gets_now net w h s p k.stands j (n.subscriber s i)).got;
  doubt = λ s p i j.
      let y = n.subscriber s i in
      let keeps : keeps_horizon net p (net.at s) ≡ true = or_left (not_empty (net.subscribers_at (net.at s))) (is_empty (net.children p (net.at s))) (has_one (net.subscribers_at (net.at s)) s y.here) in
      subst (IsDoubt net h (net.at s) p) (sym (k.stands.lines.horizon p s j y ∙ reached_here net w p s y)) (doubt_is net w h (net.at s) p k y.at_in j keeps);
}

step_told : (net : Net) (w : World) (h : History) (l : Line) → IsNet net → 1 ≤ net.quiet → StepIn net l.step → Whole net w h → StepReports net h l (next net w l).lines
step_told net w h l n z i k = record {
  records = step_records net w h l n z k.stands.fits k.stands.records (sent_count_is net w h k.stands) k.stands.ordered.last i;
  kept = λ p number stop e at free due. kept_where_stored net w h l p number stop e k.stands.fits k.stands.records k.stands.stored i at free due;
  reclaims = next_reclaims net w h l n z k.stands.fits k.stands.records i k.stands.stored;
  doubts_stand = doubts_stand net w l n k.stands.fits i;
  doubts_true = λ b p t c.
      let s = split_from (next net w l).lines (line.Doubt b p t) c.0 c.1 c.2 in
      let d : IsShown net w b p t = named_doubt net (IsShown net w) b p t s.front s.back (subst (Named net (IsShown net w)) s.is (step_named net w l n k.stands.fits i)) in
      subst (IsDoubt net h b p) (sym d.tick) (doubt_is net w h b p k d.broker d.publisher d.keeps);
}

next_whole : (net : Net) (w : World) (h : History) (l : Line) → IsNet net → 1 ≤ net.quiet → StepIn net l.step → Hears net (next net w l).world (heard_after net h l (next net w l).lines) → Whole net w h → Whole net (next net w l).world (history_after net h l (next net w l).lines)
unfolding history_after
next_whole net w h l n z i y k = record { stands = next_stands net w h l n z i k.stands; hears = record { long = y.long; fits = y.fits } }

-- the headline from here on, where each step keeps a property of worlds, and what was heard
pub holds_from : (net : Net) (P : World → Type 0) (w : World) (h : History) (ls : List Line) → IsNet net → 1 ≤ net.quiet → ((u : World) (l : Line) → StepIn net l.step → WorldFits net u → P u → P (next net u l).world) →
    ((u : World) (g : History) (l : Line) → StepIn net l.step → Whole net u g → P u → Hears net (next net u l).world (heard_after net g l (next net u l).lines)) → StepsIn net ls → Whole net w h → P w → Holds_from net h ls (run_from net w ls)
unfolding run_from_by
holds_from net P w h [] n z on keep i k x = (delivered_exactly net w h n k, in_order net w h n k.stands)
holds_from net P w h (l ∷ ls) n z on keep i k x = (
  delivered_exactly net w h n k,
  in_order net w h n k.stands,
  step_told net w h l n z i.0 k,
  holds_from net P (next net w l).world (history_after net h l (next net w l).lines) ls n z on keep i.1 (next_whole net w h l n z i.0 (keep w h l i.0 k x) k) (on w l i.0 k.stands.fits x),
)

-- what stands after steps, where each keeps a property of worlds, and what was heard
pub whole_run : (net : Net) (P : World → Type 0) (w : World) (h : History) (ls : List Line) → IsNet net → 1 ≤ net.quiet → ((u : World) (l : Line) → StepIn net l.step → WorldFits net u → P u → P (next net u l).world) →
    ((u : World) (g : History) (l : Line) → StepIn net l.step → Whole net u g → P u → Hears net (next net u l).world (heard_after net g l (next net u l).lines)) → StepsIn net ls → Whole net w h → P w → Whole net (run_all net w ls).world (history net h ls (run_from net w ls))
unfolding run_from_by
whole_run net P w h [] n z on keep i k x = k
whole_run net P w h (l ∷ ls) n z on keep i k x = whole_run net P (next net w l).world (history_after net h l (next net w l).lines) ls n z on keep i.1 (next_whole net w h l n z i.0 (keep w h l i.0 k x) k) (on w l i.0 k.stands.fits x)

-- where nothing was heard yet
pub nothing_heard : (net : Net) (b p t : ℕ) → b < net.brokers → p < net.publishers → heard_in (replicate net.brokers (replicate net.publishers [])) b p t ≡ false
nothing_heard net b p t i j = ap (λ (row : List (List Known)). is_heard (get_or row p []) t) (get_or-replicate net.brokers b (replicate net.publishers []) [] i) ∙ ap (λ (pieces : List Known). is_heard pieces t) (get_or-replicate net.publishers p [] [] j)

-- that nothing was heard has a list for each broker and publisher
pub nothing_long : (net : Net) → HeardLong net (replicate net.brokers (replicate net.publishers []))
nothing_long net = record {
  long = length-replicate net.brokers (replicate net.publishers []);
  rows = λ b i. ap length (get_or-replicate net.brokers b (replicate net.publishers []) [] i) ∙ length-replicate net.publishers [];
}

start_hears : (net : Net) → Hears net (start net) (begin net).heard
unfolding begin
start_hears net = record {
  long = nothing_long net;
  fits = λ b p i j host keeps. subst (λ v. HeardFits v (heard_in (begin net).heard b p)) (sym (start_is net b p i j)) (started_heard net p b empty_log (heard_in (begin net).heard b p) host (λ t. nothing_heard net b p t i j));
}

-- at the start all stands, and nothing was heard
pub start_whole : (net : Net) → IsNet net → Whole net (start net) (begin net)
start_whole net n = record { stands = start_stands net n; hears = start_hears net }
