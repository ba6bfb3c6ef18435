-- A run with joins beside the run on the net of its last joins: they tell and leave the same
use Rattle.std.proofs.Common.{◌≡◌, inl, ℕ, Bool, List, [], ◌∷◌, refl, sym, ap, ◌∙◌, subst}
use Rattle.gr_event.specs.declared.event.Event.{Event}
use Rattle.gr_event.specs.Joins.{Joins}
use Rattle.gr_sched.specs.declared.step.Line.{Line}
use Rattle.gr_model.specs.declared.report.Report.{Report}
use Rattle.gr_model.specs.Net.{Net, with_wants, wants_with}
use Rattle.gr_model.specs.Tree.{IsNet, IsSubscriber}
use Rattle.gr_model.specs.Broker.{started}
use Rattle.gr_model.specs.World.{World, log_of, start, start_by, run_all, run_from, report_of}
use Rattle.gr_model.specs.Headline.{History, history, history_after, begin}
use Rattle.gr_model_calls.specs.OneNet as one
use Rattle.gr_model_calls.specs.OneNet.{last_net}
use Rattle.gr_model_calls.specs.Fits.{WorldFits, StepsIn, history_of}
use Rattle.gr_model_calls.proofs.runs.Schedules.{start_fits}
use Rattle.gr_model_calls.proofs.joins.OneRun.{IsNet-with, run_is, lines_are, report_is}
use Rattle.gr_model_theorems.specs.Spelled.{LateIn}
use Rattle.gr_model_theorems.specs.Statements.{world_after, joined_net}
use Rattle.gr_model_theorems.proofs.joins.Owing.{after_same}

-- who wants what is no matter of a subscriber that is there
pub subscriber_in : (net : Net) (f : ℕ → ℕ → ℕ → Event → Bool) (s : ℕ) → IsSubscriber net s → IsSubscriber (with_wants net f) s
subscriber_in net f s y = record { at_in = y.at_in; here = y.here }

-- nor of the history
pub history_same : (net : Net) (last : ℕ → Joins) (h : History) (ls : List Line) (rs : List (List Report)) → history (with_wants net (λ p s t e. wants_with net (last p) p s t e)) h ls rs ≡ history net h ls rs
history_same net last h [] rs = refl
history_same net last h (l ∷ ls) [] = refl
history_same net last h (l ∷ ls) (r ∷ rs) = ap (λ (g : History). history (with_wants net (λ p s t e. wants_with net (last p) p s t e)) g ls rs) (after_same net last h l r) ∙ history_same net last (history_after net h l r) ls rs

pub start_same : (net : Net) (f : ℕ → ℕ → ℕ → Event → Bool) → start (with_wants net f) ≡ start net
unfolding start_by started
start_same net f = refl

begin_same : (net : Net) (f : ℕ → ℕ → ℕ → Event → Bool) → begin (with_wants net f) ≡ begin net
unfolding begin
begin_same net f = refl

-- on from a world
pub record OnAsOne (net : Net) (w : World) (ls : List Line) : Type 0 where
  pub run : run_all net w ls ≡ one.run_all (last_net net (run_all net w ls).world) w ls
  pub lines : run_from net w ls ≡ one.run_from (last_net net (run_all net w ls).world) w ls

pub on_as_one : (net : Net) (w : World) (ls : List Line) → IsNet net → WorldFits (last_net net (run_all net w ls).world) w → StepsIn net ls → OnAsOne net w ls
on_as_one net w ls n f i =
    let last : ℕ → Joins = λ p. (log_of (run_all net w ls).world p).joins in
    record {
      run = run_is net last ls n i w f (inl (λ p j. refl));
      lines = lines_are net last ls n i w f (inl (λ p j. refl));
    }

-- from the start
pub record AsOne (net : Net) (steps : List Line) : Type 0 where
  pub tree : IsNet (joined_net net steps)
  pub steps_in : StepsIn (joined_net net steps) steps
  pub run : run_all net (start net) steps ≡ one.run_all (joined_net net steps) (start (joined_net net steps)) steps
  pub report : report_of net steps ≡ one.report_of (joined_net net steps) steps
  pub history : history_of net steps ≡ one.history_of (joined_net net steps) steps

pub as_one : (net : Net) (steps : List Line) → IsNet net → StepsIn net steps → AsOne net steps
as_one net steps n i =
    let last : ℕ → Joins = λ p. (log_of (world_after net steps) p).joins in
    let wants : ℕ → ℕ → ℕ → Event → Bool = λ p s t e. wants_with net (last p) p s t e in
    let x = on_as_one net (start net) steps n (subst (λ (w : World). WorldFits (joined_net net steps) w) (start_same net wants) (start_fits (joined_net net steps) (IsNet-with net wants n))) i in
    record {
      tree = IsNet-with net wants n;
      steps_in = i;
      run = x.run ∙ ap (λ (w : World). one.run_all (joined_net net steps) w steps) (sym (start_same net wants));
      report = report_is net steps n i;
      history =
          ap (λ (rs : List (List Report)). history net (begin net) steps rs) (x.lines ∙ ap (λ (w : World). one.run_from (joined_net net steps) w steps) (sym (start_same net wants)))
          ∙ ap (λ (h : History). history net h steps (one.run_from (joined_net net steps) (start (joined_net net steps)) steps)) (sym (begin_same net wants))
          ∙ sym (history_same net last (begin (joined_net net steps)) steps (one.run_from (joined_net net steps) (start (joined_net net steps)) steps));
    }

pub late_in : (net : Net) (f : ℕ → ℕ → ℕ → Event → Bool) → LateIn net → LateIn (with_wants net f)
late_in net f l = record { few = l.few; numbers = l.numbers }
