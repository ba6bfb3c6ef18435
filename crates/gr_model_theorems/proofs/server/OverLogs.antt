-- From a start over old logs the headline holds of every schedule
use Rattle.std.proofs.Common.{◌≡◌, inl, inr, ℕ, ◌≤◌, ◌<◌, true, false, not, ◌&&◌, List, [], ◌∷◌, map, replicate, refl, sym, ap, ap₂, ◌∙◌, subst, arith}
use Rattle.std.specs.Prelude.{if◌then◌else◌, filter}
use Rattle.std.proofs.lemmas.Bool.{cases_Bool, eq-eqb}
use Rattle.std.proofs.lemmas.List.{get_or-replicate, length-replicate}
use Rattle.gr_frame.specs.declared.Frame.{Frame}
use Rattle.gr_sched.specs.declared.step.Line.{Line}
use Rattle.gr_model.specs.declared.report.Report.{Report}
use Rattle.gr_model.specs.Net.{Net, is_host, not_empty, numbers}
use Rattle.gr_model.specs.Broker.{Log}
use Rattle.gr_model.specs.World.{Transition, view_of, log_of, sent_lines}
use Rattle.gr_model_calls.specs.OneNet.{run_from, opening, Holds_from}
use Rattle.gr_model.specs.Opening.{reopened_log, over_logs, publishers_at, recorded_of, begin_over, opening_by}
use Rattle.gr_model_theorems.specs.Found.{AreReopened}
use Rattle.gr_model.specs.Headline.{reopened_cut, Recorded}
use Rattle.gr_model.specs.Tree.{IsNet}
use Rattle.gr_model_calls.specs.Fits.{StepsIn}
use Rattle.gr_model_calls.proofs.runs.Worlds.{Each, numbers_below}
use Rattle.gr_model_calls.proofs.runs.Schedules.{get_numbers}
use Rattle.gr_model_theorems.proofs.records.Stored.{over_stored}
use Rattle.gr_model_theorems.proofs.records.Records.{HasLine, has_filter, has_flat, has_number, core}
use Rattle.gr_model_calls.proofs.runs.Closed.{Each-kept}
use Rattle.gr_model_calls.proofs.asks.AskMoments.{AsksUpto, ExpectFits, Each-on}
use Rattle.gr_model_theorems.proofs.cuts.Cutlines.{CutFree-last, CutFree-have}
use Rattle.gr_model_theorems.proofs.cuts.Orders.{CutFits}
use Rattle.gr_model_theorems.proofs.heard.HeardCalls.{heard_as}
use Rattle.gr_model_theorems.proofs.heard.HeardSteps.{Hears, heard_in}
use Rattle.gr_model_theorems.proofs.headline.SoFar.{Stands}
use Rattle.gr_model_theorems.proofs.headline.WithoutSweeps.{Whole, nothing_heard, nothing_long}
use Rattle.gr_model_theorems.proofs.headline.AfterSweeps.{holds_where_sweeps_reach}
use Rattle.gr_model_theorems.proofs.headline.SecondReaches.{sweeps_reach}
use Rattle.gr_model_theorems.proofs.server.Opening.{Opening, MeetsAt, opening_turns, turns_meet, over_opening, opened_logs}

-- Every publisher has its turn

-- the publishers at some brokers are publishers of the topology
pub publishers_below : (net : Net) (bs : List ℕ) → Each (λ p. p < net.publishers) (publishers_at net bs)
publishers_below net [] = tt
publishers_below net (b ∷ bs) = Each-on (λ p. p < net.publishers) (filter (λ p. is_host net p b) (numbers net.publishers)) (publishers_at net bs) (Each-kept (λ p. p < net.publishers) (λ p. is_host net p b) (numbers net.publishers) (numbers_below 0 net.publishers net.publishers (omega arith))) (publishers_below net bs)

has_turn : (net : Net) (q : ℕ) → IsNet net → q < net.publishers → HasLine q (publishers_at net (numbers net.brokers))
has_turn net q n j =
    has_flat (λ b. filter (λ p. is_host net p b) (numbers net.publishers)) (net.host q) q (numbers net.brokers)
    (has_number 0 net.brokers (net.host q) (omega arith) (omega (arith, n.host_in q j)))
    (has_filter (λ p. is_host net p (net.host q)) q (numbers net.publishers) (eq-eqb (net.host q) (net.host q) refl) (has_number 0 net.publishers q (omega arith) (omega (arith, j))))

-- all brokers
abbrev pub all_opened : Net → List Log → Transition
all_opened net logs = opening net (numbers net.brokers) logs

-- after the opening each log is the reopened one, the world fits, and nothing was sent, asked, cut or heard
pub opened : (net : Net) (logs : List Log) → IsNet net → AreReopened net logs → Opening net logs (all_opened net logs).world (all_opened net logs).lines
unfolding opening_by
opened net logs n a = opening_turns net logs (over_logs net logs) [] (publishers_at net (numbers net.brokers)) n (publishers_below net (numbers net.brokers)) (over_opening net logs n a)

all_meet : (net : Net) (logs : List Log) (q : ℕ) → IsNet net → AreReopened net logs → q < net.publishers → not_empty (net.subscribers_at (net.host q)) ≡ true → MeetsAt net (all_opened net logs).world q
unfolding opening_by
all_meet net logs q n a j some = turns_meet net logs (over_logs net logs) [] (publishers_at net (numbers net.brokers)) q n (publishers_below net (numbers net.brokers)) (over_opening net logs n a) some (has_turn net q n j)

-- What stands

fused : (g : ℕ → Log) (ps : List ℕ) → map (λ p. recorded_of (g p)) ps ≡ map core (map g ps)
fused g [] = refl
fused g (p ∷ ps) = ap (λ (z : List Recorded). recorded_of (g p) ∷ z) (fused g ps)

over_found : (net : Net) (logs : List Log) (told : List Report) (q : ℕ) → q < net.publishers → reopened_cut (begin_over net logs told) q ≡ (reopened_log logs q).cut
unfolding begin_over
over_found net logs told q j = get_numbers (λ p. (let log = reopened_log logs p in log.cut)) 0 net.publishers q 0 j ∙ ap (λ p. (let log = reopened_log logs p in log.cut)) (omega arith)

opened_stands : (net : Net) (logs : List Log) → IsNet net → AreReopened net logs → Stands net (all_opened net logs).world (begin_over net logs (all_opened net logs).lines)
unfolding begin_over
opened_stands net logs n a =
    let w = (all_opened net logs).world in
    let ls = (all_opened net logs).lines in
    let o = opened net logs n a in
    let log : (q : ℕ) → q < net.publishers → log_of w q ≡ reopened_log logs q = λ q j. opened_logs net logs w ls q j o in
    record {
      fits = o.fits;
      records = record { clock = sym o.clock; most = sym o.most; records = fused (reopened_log logs) (numbers net.publishers) ∙ ap (map core) (sym o.logs_are) };
      lines = o.lines;
      ordered = record {
        meets = λ q j some. all_meet net logs q n a j some;
        last = λ q j. CutFree-last q _ ls (o.free q) ∙ (over_found net logs ls q j ∙ ap (λ l. l.cut) (sym (log q j)));
        each = λ q j. CutFree-have (CutFits net _ w q) q [] ls (o.free q);
      };
      sent = o.unsent ∙ ap (sent_lines 1) (sym o.frames);
      named = o.named;
      unlogged = record {
        long = length-replicate net.publishers true;
        fits = λ p j keeps. elim (cases_Bool (not_empty (net.subscribers_at (net.host p)))) [
          | inl e ↦ all_meet net logs p n a j e ∙ sym (ap₂ (λ c d. if c && not d then 0 else (log_of w p).settled) (get_or-replicate net.publishers p true true j) e)
          | inr e ↦ o.unlogged p j e ∙ sym (ap₂ (λ c d. if c && not d then 0 else (log_of w p).settled) (get_or-replicate net.publishers p true true j) e)
        ];
      };
      asks = record {
        clock = omega (arith, o.clock, o.most);
        upto = λ p b j i. subst (λ z. AsksUpto w.most z) (sym (o.asks b p i j)) tt;
        host = λ p j. o.asks (net.host p) p (n.host_in p j) j;
        sent = subst (λ (z : List Frame). Each (ExpectFits net) z) (sym o.frames) tt;
      };
      stored = over_stored net w logs ls log;
    }

opened_hears : (net : Net) (logs : List Log) → IsNet net → AreReopened net logs → Hears net (all_opened net logs).world (begin_over net logs (all_opened net logs).lines).heard
unfolding begin_over
opened_hears net logs n a =
    let o = opened net logs n a in
    record {
      long = nothing_long net;
      fits = λ b p i j host keeps. heard_as (view_of (all_opened net logs).world b p) (λ t. false) (heard_in (replicate net.brokers (replicate net.publishers [])) b p) (λ t. nothing_heard net b p t i j) (o.heard b p i j host keeps);
    }

-- after the opening all stands, with the history of the reopened logs
pub opened_whole : (net : Net) (logs : List Log) → IsNet net → AreReopened net logs → Whole net (all_opened net logs).world (begin_over net logs (all_opened net logs).lines)
opened_whole net logs n a = record { stands = opened_stands net logs n a; hears = opened_hears net logs n a }

-- over old logs, whatever the schedule
pub headline_over_logs : (net : Net) (logs : List Log) (steps : List Line) → IsNet net → 1 ≤ net.quiet → 1 ≤ net.retry → AreReopened net logs → StepsIn net steps → Holds_from net (begin_over net logs (all_opened net logs).lines) steps (run_from net (all_opened net logs).world steps)
headline_over_logs net logs steps n z r a i = holds_where_sweeps_reach net (all_opened net logs).world (begin_over net logs (all_opened net logs).lines) steps n (sweeps_reach net n z r) z i (opened_whole net logs n a) (opened net logs n a).unknown
