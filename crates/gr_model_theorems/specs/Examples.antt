-- Worked examples: small schedules, and the whole report of each
use Rattle.std.specs.Prelude.{◌≡◌, ℕ, suc, Bool, true, false, List, [], ◌∷◌, filter, flat_map, if◌then◌else◌, pos, Some}
use Rattle.std.specs.Prelude.{None, get_or, ◌-◌}
use Rattle.gr_event.specs.declared.value.Value.TheVariants as value
use Rattle.gr_event.specs.declared.event.Event.{Event}
use Rattle.gr_know.specs.declared.values.K.{K}
use Rattle.gr_know.specs.declared.values.K.TheVariants.{S, D, F}
use Rattle.gr_curio.specs.declared.values.Q3.{Q3}
use Rattle.gr_curio.specs.declared.values.Q3.TheVariants.{C, A}
use Rattle.gr_tick.specs.declared.run.Run.{Run}
use Rattle.gr_sched.specs.declared.step.Step.{Step}
use Rattle.gr_sched.specs.declared.step.Step.TheVariants as step
use Rattle.gr_sched.specs.declared.step.Line.{Line}
use Rattle.gr_model.specs.declared.report.Report.{Report}
use Rattle.gr_model.specs.declared.report.Report.TheVariants as line
use Rattle.gr_model.specs.Net.{Net, numbers}
use Rattle.gr_model.specs.Broker.{is_kept}
use Rattle.gr_model.specs.World.{report_of, run_all, start}
use Rattle.gr_model_theorems.specs.Settles.{Call, wakes, delivers, sweep_calls}
use Rattle.gr_model.specs.Headline.{is_heard}
use Rattle.gr_model_calls.specs.Fits.{history_of}
use Rattle.gr_event.specs.Event.{same_bool}
use Rattle.gr_event.specs.Joins.{Joins}
use Rattle.gr_know.specs.Values.{Known}
use Rattle.gr_tick.specs.Runs.{tabulate, points, first_bottom_from}
use Rattle.gr_model.specs.Blank.{net0}
use Rattle.gr_model_theorems.specs.SmallNets.{net1, net1_both, net1_late, net2, net2_forgetful, net3, net4, net5}
use Rattle.gr_model_theorems.specs.SmallNets.{inner_net, filtered_net, price, net0_reclaiming}

-- Short words

-- an event with one name and integer; the event {"n": v}
abbrev pub int_event : List ℕ → ℕ → Event
int_event name v = (name, value.Int (pos v)) ∷ []

abbrev pub n_is : ℕ → Event
n_is v = int_event (110 ∷ []) v

abbrev pub clock : ℕ → Step
clock n = step.Clock n

abbrev pub publishing : ℕ → Event → Step
publishing n e = step.Publish 0 n None e

abbrev pub deliver : ℕ → Step
deliver k = step.Deliver k

abbrev pub waking : ℕ → Step
waking b = step.Wake b

abbrev run : {V : Type 0} → V → ℕ → ℕ → Run V
run v first last = record { first = first; last = last; value = v }

abbrev pub silent : ℕ → ℕ → Run K
silent first last = run S first last

abbrev pub event : Event → ℕ → ℕ → Run K
event e first last = run (D e) first last

abbrev pub final : ℕ → ℕ → Run K
final first last = run F first last

abbrev pub sent_know : ℕ → ℕ → ℕ → ℕ → Known → Report
sent_know n from to p runs = line.SentKnow n from to p runs []

-- T is late subscriber 1; a frame that brings its join
abbrev pub joining : Step
joining = step.Join 1 0

abbrev pub its_join : ℕ → Joins
its_join tick = record { subscriber = 1; tick = tick } ∷ []

abbrev pub asked : ℕ → ℕ → Run Q3
asked first last = run C first last

abbrev pub acknowledging : ℕ → ℕ → Run Q3
acknowledging first last = run A first last

-- steps with the numbers of their lines, from n on
abbrev pub lined : ℕ → List Step → List Line
lined n [] = []
lined n (s ∷ ss) = record { number = n; step = s } ∷ lined (suc n) ss

-- all lines of the report
unfoldable pub report : Net → List Step → List Report
report net steps = flat_map (λ x. x) (report_of net (lined 1 steps))

-- the lines that tell how far all has come
abbrev pub is_end : Report → Bool
is_end (line.LogOf p last settled cut kept) = true
is_end (line.Doubt b p t) = true
is_end (line.Horizon s p t) = true
is_end (line.Swept m) = true
is_end _ = false

-- a publish that stops within, then the same publish
unfoldable pub stopped_then_again : ℕ → ℕ → List Step
stopped_then_again call pick = clock 1000 ∷ step.Publish 0 1 (Some (record {
  call = call;
  pick = pick;
})) (n_is 1) ∷ publishing 1 (n_is 1) ∷ []

unfoldable pub lost_lines : List Report
lost_lines =
    line.Crashed 0 ∷ line.Lost 0 1 1000 ∷ line.Logged 0 1 1000 ∷
    sent_know 1 0 1 0 (silent 1 999 ∷ event (n_is 1) 1000 1000 ∷ []) ∷ []

unfoldable pub kept_lines : List Report
kept_lines = line.Crashed 0 ∷ line.Kept 0 1 1000 ∷ line.Opened 0 1 1000 0 ∷ line.Already 0 1 ∷ []

-- lost frames, two crashes, a sweep and a show
unfoldable pub losses_then_sweep : List Step
losses_then_sweep =
    clock 1000 ∷ publishing 1 (n_is 1) ∷ clock 2000 ∷ publishing 2 (n_is 2) ∷ clock 3000 ∷ publishing 3 (n_is 3) ∷
    deliver 3 ∷ deliver 2 ∷ waking 0 ∷ clock 3100 ∷ waking 2 ∷ step.Crash 4 ∷ step.Crash 3 ∷ step.Sweep ∷ step.Show ∷ []

-- a crash of a whole branch and of the host, a sweep and a show
unfoldable pub crashes_then_sweep : List Step
crashes_then_sweep =
    clock 1000 ∷ publishing 1 (int_event price 90) ∷ publishing 2 (int_event price 7) ∷ deliver 1 ∷ deliver 3 ∷
    deliver 5 ∷ deliver 6 ∷ deliver 7 ∷ waking 3 ∷ deliver 8 ∷ waking 2 ∷ waking 1 ∷ step.Crash 3 ∷ step.Crash 0 ∷
    step.Crash 2 ∷ step.Sweep ∷ step.Show ∷ []

-- a branch of two brokers crashes with what it has heard, and asks again
unfoldable pub branch_crashes : List Step
branch_crashes =
    clock 1000 ∷ publishing 1 (n_is 1) ∷ deliver 1 ∷ deliver 2 ∷ waking 2 ∷ step.Crash 2 ∷ step.Crash 1 ∷ deliver 3 ∷
    clock 2100 ∷ waking 2 ∷ deliver 4 ∷ deliver 5 ∷ []

-- the calls of a sweep after some steps
unfoldable pub calls_after : Net → List Step → List Call
calls_after net steps = sweep_calls net (run_all net (start net) (lined 1 steps)).world

-- the greatest tick up to which a broker has heard all, by the history of the steps
unfoldable pub heard_upto : Net → List Step → ℕ → ℕ
heard_upto net steps b =
    let pieces : List Known = get_or (get_or (history_of net (lined 1 steps)).heard b []) 0 [] in
    first_bottom_from (tabulate false same_bool (is_heard pieces) (flat_map points pieces)) 1 - 1

-- The examples

pub record WorkedExamples : Type 0 where
  -- A published event and the silence before it reach the subscriber in one frame
  pub published_is_got : report net0 (clock 1000 ∷ publishing 1 (n_is 82) ∷ deliver 1 ∷ []) ≡
      line.Logged 0 1 1000 ∷
      sent_know 1 0 1 0 (silent 1 999 ∷ event (n_is 82) 1000 1000 ∷ []) ∷
      line.Got 0 0 1000 (n_is 82) ∷
      line.Horizon 0 0 1000 ∷ []
  -- A schedule without steps tells nothing
  pub nothing_tells_nothing : report net0 [] ≡ []
  -- Two publishes at one moment get two ticks
  pub each_tick_once : report net0 (clock 1000 ∷ publishing 1 (n_is 1) ∷ publishing 2 (n_is 2) ∷ []) ≡
      line.Logged 0 1 1000 ∷
      sent_know 1 0 1 0 (silent 1 999 ∷ event (n_is 1) 1000 1000 ∷ []) ∷
      line.Logged 0 2 1001 ∷
      sent_know 2 0 1 0 (event (n_is 2) 1001 1001 ∷ []) ∷ []
  -- The clock may go back: ticks still rise
  pub clock_may_go_back : report net0 (clock 1000 ∷ publishing 1 (n_is 1) ∷ clock 10 ∷ publishing 2 (n_is 2) ∷ [])
      ≡ report net0 (clock 1000 ∷ publishing 1 (n_is 1) ∷ publishing 2 (n_is 2) ∷ [])
  -- A lost frame is asked for, once while that ask is outstanding, and then both events are got in order
  pub lost_is_asked : report net0 (clock 1000 ∷ publishing 1 (n_is 1) ∷ clock 2000 ∷ publishing 2 (n_is 2) ∷ deliver 2 ∷
      waking 1 ∷ waking 1 ∷ deliver 3 ∷ deliver 4 ∷ []) ≡
      line.Logged 0 1 1000 ∷
      sent_know 1 0 1 0 (silent 1 999 ∷ event (n_is 1) 1000 1000 ∷ []) ∷
      line.Logged 0 2 2000 ∷
      sent_know 2 0 1 0 (silent 1001 1999 ∷ event (n_is 2) 2000 2000 ∷ []) ∷
      line.SentWant 3 1 0 0 (asked 1 1000 ∷ []) ∷
      sent_know 4 0 1 0 (silent 1 999 ∷ event (n_is 1) 1000 1000 ∷ []) ∷
      line.Got 0 0 1000 (n_is 1) ∷
      line.Got 0 0 2000 (n_is 2) ∷
      line.Horizon 0 0 2000 ∷ []
  -- Frames may come out of order and twice: each event is got once, in order
  pub repeats_are_got_once : report net0 (clock 1000 ∷ publishing 1 (n_is 1) ∷ clock 2000 ∷ publishing 2 (n_is 2) ∷
      deliver 2 ∷ deliver 1 ∷ deliver 2 ∷ deliver 1 ∷ []) ≡
      line.Logged 0 1 1000 ∷
      sent_know 1 0 1 0 (silent 1 999 ∷ event (n_is 1) 1000 1000 ∷ []) ∷
      line.Logged 0 2 2000 ∷
      sent_know 2 0 1 0 (silent 1001 1999 ∷ event (n_is 2) 2000 2000 ∷ []) ∷
      line.Got 0 0 1000 (n_is 1) ∷
      line.Got 0 0 2000 (n_is 2) ∷
      line.Horizon 0 0 2000 ∷ []
  -- Where the horizon moves on, an event below it that a child has not acknowledged yet is not got again
  pub each_is_got_once : report inner_net (clock 1000 ∷ publishing 1 (n_is 1) ∷ deliver 1 ∷ publishing 2 (n_is 2) ∷
      deliver 4 ∷ []) ≡
      line.Logged 0 1 1000 ∷
      sent_know 1 0 1 0 (silent 1 999 ∷ event (n_is 1) 1000 1000 ∷ []) ∷
      line.Got 0 0 1000 (n_is 1) ∷
      line.Horizon 0 0 1000 ∷
      sent_know 2 1 2 0 (silent 1 999 ∷ event (n_is 1) 1000 1000 ∷ []) ∷
      sent_know 3 1 3 0 (silent 1 1000 ∷ []) ∷
      line.Logged 0 2 1001 ∷
      sent_know 4 0 1 0 (event (n_is 2) 1001 1001 ∷ []) ∷
      line.Got 0 0 1001 (n_is 2) ∷
      line.Horizon 0 0 1001 ∷
      sent_know 5 1 2 0 (event (n_is 2) 1001 1001 ∷ []) ∷
      sent_know 6 1 3 0 (silent 1001 1001 ∷ []) ∷ []
  -- An event that no subscriber beyond an edge wants passes it as silence
  pub unwanted_is_silence : report net1 (clock 1000 ∷ publishing 1 (int_event price 70) ∷ deliver 1 ∷ []) ≡
      line.Logged 0 1 1000 ∷
      sent_know 1 0 1 0 (silent 1 1000 ∷ []) ∷
      line.Horizon 0 0 1000 ∷ []
  -- Neither a filter nor its negation is true of an event without the name
  pub no_filter_on_missing : report net1_both (clock 1000 ∷ publishing 1 (int_event (113 ∷ 116 ∷ 121 ∷ []) 5) ∷
      deliver 1 ∷ []) ≡
      line.Logged 0 1 1000 ∷
      sent_know 1 0 1 0 (silent 1 1000 ∷ []) ∷
      line.Horizon 0 0 1000 ∷
      line.Horizon 1 0 1000 ∷ []
  -- A crashed broker has forgotten all, and passes the ask and the answer on
  pub crashed_broker_asks_on : report net2 (clock 1000 ∷ publishing 1 (n_is 1) ∷ deliver 1 ∷ step.Crash 1 ∷ clock 2100 ∷
      waking 2 ∷ deliver 3 ∷ deliver 4 ∷ deliver 5 ∷ deliver 6 ∷ deliver 2 ∷ []) ≡
      line.Logged 0 1 1000 ∷
      sent_know 1 0 1 0 (silent 1 999 ∷ event (n_is 1) 1000 1000 ∷ []) ∷
      sent_know 2 1 2 0 (silent 1 999 ∷ event (n_is 1) 1000 1000 ∷ []) ∷
      line.Crashed 1 ∷
      line.SentWant 3 2 1 0 (asked 1 1100 ∷ []) ∷
      line.SentWant 4 1 0 0 (asked 1 1100 ∷ []) ∷
      sent_know 5 0 1 0 (silent 1 999 ∷ event (n_is 1) 1000 1000 ∷ []) ∷
      sent_know 6 1 2 0 (silent 1 999 ∷ event (n_is 1) 1000 1000 ∷ []) ∷
      line.Got 0 0 1000 (n_is 1) ∷
      line.Horizon 0 0 1000 ∷ []
  -- After a crash the host remembers how far it told silence, although the clock went back
  pub mark_outlives_crash : report net0 (clock 5000 ∷ waking 0 ∷ step.Crash 0 ∷ clock 3000 ∷ publishing 1 (n_is 1) ∷
      deliver 3 ∷ deliver 1 ∷ []) ≡
      line.Mark 0 5000 ∷
      sent_know 1 0 1 0 (silent 1 5000 ∷ []) ∷
      line.SentExpect 2 0 1 0 5000 ∷
      line.Crashed 0 ∷
      line.Opened 0 0 5000 0 ∷
      line.Logged 0 1 5001 ∷
      sent_know 3 0 1 0 (event (n_is 1) 5001 5001 ∷ []) ∷
      line.Got 0 0 5001 (n_is 1) ∷
      line.Horizon 0 0 5001 ∷ []
  -- Two children ask for the same ticks: the broker between asks once and answers both
  pub two_asks_go_up_once : report net3 (clock 1000 ∷ publishing 1 (n_is 1) ∷ clock 2100 ∷ waking 2 ∷ waking 3 ∷
      deliver 2 ∷ deliver 3 ∷ deliver 4 ∷ deliver 5 ∷ deliver 6 ∷ deliver 7 ∷ []) ≡
      line.Logged 0 1 1000 ∷
      sent_know 1 0 1 0 (silent 1 999 ∷ event (n_is 1) 1000 1000 ∷ []) ∷
      line.SentWant 2 2 1 0 (asked 1 1100 ∷ []) ∷
      line.SentWant 3 3 1 0 (asked 1 1100 ∷ []) ∷
      line.SentWant 4 1 0 0 (asked 1 1100 ∷ []) ∷
      sent_know 5 0 1 0 (silent 1 999 ∷ event (n_is 1) 1000 1000 ∷ []) ∷
      sent_know 6 1 2 0 (silent 1 999 ∷ event (n_is 1) 1000 1000 ∷ []) ∷
      sent_know 7 1 3 0 (silent 1 999 ∷ event (n_is 1) 1000 1000 ∷ []) ∷
      line.Got 0 0 1000 (n_is 1) ∷
      line.Horizon 0 0 1000 ∷
      line.Got 1 0 1000 (n_is 1) ∷
      line.Horizon 1 0 1000 ∷ []
  -- The log is cut where every child has acknowledged, and the host tells the others what to expect
  pub cut_when_all_have_acknowledged : report net4 (clock 1000 ∷ publishing 1 (n_is 1) ∷ deliver 1 ∷ deliver 2 ∷
      waking 1 ∷ deliver 3 ∷ waking 0 ∷ waking 2 ∷ deliver 5 ∷ waking 0 ∷ step.Show ∷ step.Bytes 4 ∷ []) ≡
      line.Logged 0 1 1000 ∷
      sent_know 1 0 1 0 (silent 1 999 ∷ event (n_is 1) 1000 1000 ∷ []) ∷
      sent_know 2 0 2 0 (silent 1 999 ∷ event (n_is 1) 1000 1000 ∷ []) ∷
      line.Got 0 0 1000 (n_is 1) ∷
      line.Horizon 0 0 1000 ∷
      line.Got 1 0 1000 (n_is 1) ∷
      line.Horizon 1 0 1000 ∷
      line.SentWant 3 1 0 0 (acknowledging 1 1000 ∷ []) ∷
      line.SentExpect 4 0 2 0 1000 ∷
      line.SentWant 5 2 0 0 (acknowledging 1 1000 ∷ []) ∷
      line.Cut 0 1000 ∷
      line.Frames 5 ∷
      line.LogOf 0 1 1000 1000 0 ∷
      line.Doubt 1 0 1000 ∷
      line.Doubt 2 0 1000 ∷
      line.BytesOf 4 (0x47 ∷ 0x4b ∷ 1 ∷ 3 ∷ 0 ∷ 0 ∷ 0 ∷ 2 ∷ 0 ∷ 0 ∷ 0 ∷ 1 ∷ 0 ∷ 0 ∷ 0 ∷ 0 ∷ 0 ∷ 0 ∷ 0x03 ∷ 0xe8 ∷ []) ∷
      []
  -- After crashes of a whole branch a sweep brings all to its moment
  pub sweep_settles : report net5 (clock 1000 ∷ publishing 1 (n_is 1) ∷ deliver 1 ∷ deliver 2 ∷ waking 2 ∷
      step.Crash 2 ∷ step.Crash 1 ∷ deliver 3 ∷ clock 2100 ∷ waking 2 ∷ deliver 4 ∷ deliver 5 ∷ step.Sweep ∷ step.Show ∷
      []) ≡
      line.Logged 0 1 1000 ∷
      sent_know 1 0 1 0 (silent 1 1000 ∷ []) ∷
      sent_know 2 1 2 0 (silent 1 1000 ∷ []) ∷
      line.SentWant 3 2 1 0 (acknowledging 1 1000 ∷ []) ∷
      line.Crashed 2 ∷
      line.Crashed 1 ∷
      line.SentWant 4 2 1 0 (asked 1 1100 ∷ []) ∷
      sent_know 5 1 2 0 (final 1 1000 ∷ []) ∷
      line.SentWant 6 1 0 0 (asked 1001 1100 ∷ []) ∷
      line.SentWant 7 2 1 0 (acknowledging 1 1000 ∷ asked 1001 3801 ∷ []) ∷
      line.SentWant 8 1 0 0 (asked 1001 3801 ∷ []) ∷
      line.SentWant 9 1 0 0 (acknowledging 1 1000 ∷ []) ∷
      line.Mark 0 4801 ∷
      line.Cut 0 1000 ∷
      sent_know 10 0 1 0 (silent 1001 4801 ∷ []) ∷
      line.SentExpect 11 0 1 0 4801 ∷
      sent_know 12 1 2 0 (silent 1001 4801 ∷ []) ∷
      line.SentWant 13 2 1 0 (acknowledging 1 4801 ∷ []) ∷
      line.SentWant 14 1 0 0 (acknowledging 1 4801 ∷ []) ∷
      line.Cut 0 4801 ∷
      line.Swept 4801 ∷
      line.Frames 14 ∷
      line.LogOf 0 1 4801 4801 0 ∷
      line.Doubt 2 0 4801 ∷ []
  -- A repeated number is told as such, and so is a skipped one
  pub numbers_stand_once : report net0 (clock 1000 ∷ publishing 1 (n_is 1) ∷ publishing 1 (n_is 1) ∷
      publishing 5 (n_is 5) ∷ []) ≡
      line.Logged 0 1 1000 ∷
      sent_know 1 0 1 0 (silent 1 999 ∷ event (n_is 1) 1000 1000 ∷ []) ∷
      line.Already 0 1 ∷
      line.Gap 0 5 2 ∷ []
  -- A publish that stops within is kept exactly where the log has its record, whatever image of the disk is left. At an
  -- even place no pick above 1 keeps it, at an odd one there is one
  pub stopped_is_kept_or_lost : (call pick : ℕ) → report net0 (stopped_then_again call pick)
      ≡ (if is_kept 32 call pick then kept_lines else lost_lines)
  pub kept_picks : (filter (is_kept 32 1) (numbers 256) ≡ []) × (filter (is_kept 32 2) (numbers 256) ≡ [])
      × (filter (is_kept 32 3) (numbers 256) ≡ 1 ∷ []) × (filter (is_kept 32 4) (numbers 256) ≡ 1 ∷ [])
      × (filter (is_kept 67 3) (numbers 256) ≡ 1 ∷ 107 ∷ [])
  -- What the host says to expect is asked for at once
  pub expected_is_asked : report net0 (clock 1000 ∷ publishing 1 (n_is 1) ∷ waking 0 ∷ deliver 2 ∷ deliver 3 ∷
      deliver 4 ∷ []) ≡
      line.Logged 0 1 1000 ∷
      sent_know 1 0 1 0 (silent 1 999 ∷ event (n_is 1) 1000 1000 ∷ []) ∷
      line.SentExpect 2 0 1 0 1000 ∷
      line.SentWant 3 1 0 0 (asked 1 1000 ∷ []) ∷
      sent_know 4 0 1 0 (silent 1 999 ∷ event (n_is 1) 1000 1000 ∷ []) ∷
      line.Got 0 0 1000 (n_is 1) ∷
      line.Horizon 0 0 1000 ∷ []
  -- A broker that keeps one event asks upstream for the one that it has forgotten
  pub forgotten_is_asked_on : report net2_forgetful (clock 1000 ∷ publishing 1 (n_is 1) ∷ clock 2000 ∷
      publishing 2 (n_is 2) ∷ deliver 1 ∷ deliver 2 ∷ clock 3100 ∷ waking 2 ∷ deliver 5 ∷ deliver 7 ∷ deliver 8 ∷
      deliver 6 ∷ deliver 9 ∷ []) ≡
      line.Logged 0 1 1000 ∷
      sent_know 1 0 1 0 (silent 1 999 ∷ event (n_is 1) 1000 1000 ∷ []) ∷
      line.Logged 0 2 2000 ∷
      sent_know 2 0 1 0 (silent 1001 1999 ∷ event (n_is 2) 2000 2000 ∷ []) ∷
      sent_know 3 1 2 0 (silent 1 999 ∷ event (n_is 1) 1000 1000 ∷ []) ∷
      sent_know 4 1 2 0 (silent 1001 1999 ∷ event (n_is 2) 2000 2000 ∷ []) ∷
      line.SentWant 5 2 1 0 (asked 1 2100 ∷ []) ∷
      sent_know 6 1 2 0 (silent 1 999 ∷ silent 1001 1999 ∷ event (n_is 2) 2000 2000 ∷ []) ∷
      line.SentWant 7 1 0 0 (asked 1000 1000 ∷ asked 2001 2100 ∷ []) ∷
      sent_know 8 0 1 0 (event (n_is 1) 1000 1000 ∷ []) ∷
      sent_know 9 1 2 0 (event (n_is 1) 1000 1000 ∷ []) ∷
      line.Horizon 0 0 999 ∷
      line.Got 0 0 1000 (n_is 1) ∷
      line.Got 0 0 2000 (n_is 2) ∷
      line.Horizon 0 0 2000 ∷ []
  -- Past the last tick nothing is published and no sweep is made
  pub last_tick : report net0 (clock 4611686018427387904 ∷ publishing 1 (n_is 1) ∷ publishing 2 (n_is 2) ∷ step.Sweep ∷
      []) ≡
      line.Logged 0 1 4611686018427387904 ∷
      sent_know 1 0 1 0 (silent 1 4611686018427387903 ∷ event (n_is 1) 4611686018427387904 4611686018427387904 ∷
      []) ∷
      line.Exhausted 0 2 ∷
      line.RefusedClock 4 4611686018427390605 ∷ []
  -- A broker with a subscriber does not crash, a frame must have been sent, and a stopped publish at the first disk
  -- call is lost
  pub refusals : report net0 (step.Crash 1 ∷ deliver 9 ∷ step.Publish 0 1 (Some (record {
    call = 1;
    pick = 0;
  })) (n_is 1) ∷ []) ≡
      line.RefusedHosts 1 1 ∷
      line.RefusedFrame 2 9 0 ∷
      line.Crashed 0 ∷
      line.Lost 0 1 1 ∷ []
  -- A late subscriber gets the events that its filter wants past its join, whichever frame brings the join
  pub late_gets_what_is_past : report net1_late (clock 1000 ∷ publishing 1 (n_is 5) ∷ deliver 1 ∷ clock 2000 ∷ joining ∷
      publishing 2 (n_is 6) ∷ deliver 3 ∷ deliver 2 ∷ joining ∷ []) ≡
      line.Logged 0 1 1000 ∷
      sent_know 1 0 1 0 (silent 1 999 ∷ event (n_is 5) 1000 1000 ∷ []) ∷
      line.Got 0 0 1000 (n_is 5) ∷
      line.Horizon 0 0 1000 ∷
      line.Horizon 1 0 1000 ∷
      line.Joined 1 0 2000 ∷
      line.SentKnow 2 0 1 0 (silent 1001 2000 ∷ []) (its_join 2000) ∷
      line.Logged 0 2 2001 ∷
      line.SentKnow 3 0 1 0 (event (n_is 6) 2001 2001 ∷ []) (its_join 2000) ∷
      line.Got 0 0 2001 (n_is 6) ∷
      line.Horizon 0 0 2001 ∷
      line.Got 1 0 2001 (n_is 6) ∷
      line.Horizon 1 0 2001 ∷
      line.AlreadyJoined 1 0 ∷ []
  -- After a crash the host still has the join
  pub join_outlives_crash : report net1_late (clock 1000 ∷ joining ∷ step.Crash 0 ∷ publishing 1 (n_is 6) ∷ deliver 2 ∷
      deliver 1 ∷ []) ≡
      line.Joined 1 0 1000 ∷
      line.SentKnow 1 0 1 0 (silent 1 1000 ∷ []) (its_join 1000) ∷
      line.Crashed 0 ∷
      line.Opened 0 0 1000 0 ∷
      line.Logged 0 1 1001 ∷
      line.SentKnow 2 0 1 0 (event (n_is 6) 1001 1001 ∷ []) (its_join 1000) ∷
      line.Got 0 0 1001 (n_is 6) ∷
      line.Horizon 0 0 1001 ∷
      line.Got 1 0 1001 (n_is 6) ∷
      line.Horizon 1 0 1001 ∷ []
  -- Where frames from before the join come behind it, a late subscriber gets nothing of theirs
  pub overtaken_join : report net1_late (clock 1000 ∷ publishing 1 (n_is 5) ∷ clock 2000 ∷ joining ∷
      publishing 2 (n_is 6) ∷ deliver 3 ∷ deliver 1 ∷ deliver 2 ∷ []) ≡
      line.Logged 0 1 1000 ∷
      sent_know 1 0 1 0 (silent 1 999 ∷ event (n_is 5) 1000 1000 ∷ []) ∷
      line.Joined 1 0 2000 ∷
      line.SentKnow 2 0 1 0 (silent 1001 2000 ∷ []) (its_join 2000) ∷
      line.Logged 0 2 2001 ∷
      line.SentKnow 3 0 1 0 (event (n_is 6) 2001 2001 ∷ []) (its_join 2000) ∷
      line.Got 0 0 1000 (n_is 5) ∷
      line.Horizon 0 0 1000 ∷
      line.Horizon 1 0 1000 ∷
      line.Got 0 0 2001 (n_is 6) ∷
      line.Horizon 0 0 2001 ∷
      line.Got 1 0 2001 (n_is 6) ∷
      line.Horizon 1 0 2001 ∷ []
  -- One frame may bring a join, and events from before it and past it
  pub join_comes_with_events : report net1_late (clock 1000 ∷ publishing 1 (n_is 5) ∷ clock 2000 ∷ joining ∷
      publishing 2 (n_is 6) ∷ clock 3100 ∷ waking 1 ∷ deliver 4 ∷ deliver 5 ∷ []) ≡
      line.Logged 0 1 1000 ∷
      sent_know 1 0 1 0 (silent 1 999 ∷ event (n_is 5) 1000 1000 ∷ []) ∷
      line.Joined 1 0 2000 ∷
      line.SentKnow 2 0 1 0 (silent 1001 2000 ∷ []) (its_join 2000) ∷
      line.Logged 0 2 2001 ∷
      line.SentKnow 3 0 1 0 (event (n_is 6) 2001 2001 ∷ []) (its_join 2000) ∷
      line.SentWant 4 1 0 0 (asked 1 2100 ∷ []) ∷
      line.SentKnow 5 0 1 0
      (silent 1 999 ∷ event (n_is 5) 1000 1000 ∷ silent 1001 2000 ∷ event (n_is 6) 2001 2001 ∷ []) (its_join 2000) ∷
      line.Got 0 0 1000 (n_is 5) ∷
      line.Got 0 0 2001 (n_is 6) ∷
      line.Horizon 0 0 2001 ∷
      line.Got 1 0 2001 (n_is 6) ∷
      line.Horizon 1 0 2001 ∷ []
  -- A cut writes a log anew whose text has `reclaim` bytes: 33, and 34 of the event
  pub cut_writes_anew : report net0_reclaiming (clock 1000 ∷ publishing 1 (n_is 1) ∷ deliver 1 ∷ waking 1 ∷ deliver 2 ∷
      waking 0 ∷ step.Crash 0 ∷ []) ≡
      line.Logged 0 1 1000 ∷
      sent_know 1 0 1 0 (silent 1 999 ∷ event (n_is 1) 1000 1000 ∷ []) ∷
      line.Got 0 0 1000 (n_is 1) ∷
      line.Horizon 0 0 1000 ∷
      line.SentWant 2 1 0 0 (acknowledging 1 1000 ∷ []) ∷
      line.Cut 0 1000 ∷
      line.Reclaimed 0 2 ∷
      line.Crashed 0 ∷
      line.Opened 0 1 1000 1000 ∷ []
  -- A wake marks, cuts, and writes anew what is past the cut: 33 bytes and those of a mark, so the next cut is a record
  pub written_anew_with_mark : report net0_reclaiming (clock 1000 ∷ publishing 1 (n_is 1) ∷ deliver 1 ∷ waking 1 ∷
      deliver 2 ∷ clock 3000 ∷ waking 0 ∷ deliver 3 ∷ waking 1 ∷ deliver 5 ∷ waking 0 ∷ []) ≡
      line.Logged 0 1 1000 ∷
      sent_know 1 0 1 0 (silent 1 999 ∷ event (n_is 1) 1000 1000 ∷ []) ∷
      line.Got 0 0 1000 (n_is 1) ∷
      line.Horizon 0 0 1000 ∷
      line.SentWant 2 1 0 0 (acknowledging 1 1000 ∷ []) ∷
      line.Mark 0 3000 ∷
      line.Cut 0 1000 ∷
      line.Reclaimed 0 2 ∷
      sent_know 3 0 1 0 (silent 1001 3000 ∷ []) ∷
      line.SentExpect 4 0 1 0 3000 ∷
      line.Horizon 0 0 3000 ∷
      line.SentWant 5 1 0 0 (acknowledging 1 3000 ∷ []) ∷
      line.Cut 0 3000 ∷ []
  -- Equal events at ticks in a row are one run, and are got one by one
  pub equal_events_are_one_run : report net0 (clock 1000 ∷ publishing 1 (n_is 7) ∷ publishing 2 (n_is 7) ∷ clock 2100 ∷
      waking 1 ∷ deliver 3 ∷ deliver 4 ∷ []) ≡
      line.Logged 0 1 1000 ∷
      sent_know 1 0 1 0 (silent 1 999 ∷ event (n_is 7) 1000 1000 ∷ []) ∷
      line.Logged 0 2 1001 ∷
      sent_know 2 0 1 0 (event (n_is 7) 1001 1001 ∷ []) ∷
      line.SentWant 3 1 0 0 (asked 1 1100 ∷ []) ∷
      sent_know 4 0 1 0 (silent 1 999 ∷ event (n_is 7) 1000 1001 ∷ []) ∷
      line.Got 0 0 1000 (n_is 7) ∷
      line.Got 0 0 1001 (n_is 7) ∷
      line.Horizon 0 0 1001 ∷ []
  -- After lost frames, crashes and forgetting, with subscribers at inner brokers, a sweep brings every horizon to its
  -- moment and cuts the log there
  pub sweep_after_losses : filter is_end (report inner_net losses_then_sweep) ≡
      line.Horizon 0 0 3000 ∷ line.Horizon 0 0 5801 ∷ line.Horizon 1 0 3000 ∷ line.Horizon 1 0 5801 ∷ line.Swept 5801 ∷
      line.LogOf 0 3 5801 5801 0 ∷ line.Doubt 1 0 5801 ∷ line.Doubt 2 0 5801 ∷ line.Doubt 4 0 5801 ∷ []
  -- The same where a whole branch and the host have crashed and a filter stands before the only subscriber
  pub sweep_after_crashes : filter is_end (report filtered_net crashes_then_sweep) ≡
      line.Horizon 0 0 1001 ∷ line.Horizon 0 0 3702 ∷ line.Swept 3702 ∷
      line.LogOf 0 2 3702 3702 0 ∷ line.Doubt 3 0 3702 ∷ line.Doubt 4 0 3702 ∷ []
  -- In both, each broker with a horizon has heard all up to the sweep's moment and not the tick after it
  pub sweep_is_heard : (heard_upto inner_net losses_then_sweep 1 ≡ 5801)
      × (heard_upto inner_net losses_then_sweep 2 ≡ 5801) × (heard_upto inner_net losses_then_sweep 4 ≡ 5801)
  pub crashes_are_heard : (heard_upto filtered_net crashes_then_sweep 3 ≡ 3702)
      × (heard_upto filtered_net crashes_then_sweep 4 ≡ 3702)
  -- After the crashes of the branch, frames 1 to 6 sent: the sweep wakes L, whose questions 7 and 8 go up at once, M
  -- with 9, and the host; the mark 10 goes down to M, and as 12 to L; each wakes again and acknowledges, 13 and 14. The
  -- Expect 11 is not delivered
  pub sweep_in_order : calls_after net5 branch_crashes ≡
      wakes 2 0 ∷ delivers 7 ∷ delivers 8 ∷ wakes 1 0 ∷ delivers 9 ∷ wakes 0 0 ∷
      delivers 10 ∷ delivers 12 ∷
      wakes 2 0 ∷ delivers 13 ∷ wakes 1 0 ∷ delivers 14 ∷ wakes 0 0 ∷ []
