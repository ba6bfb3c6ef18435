-- Each worked example has the report that it shows, by computation
use Rattle.std.proofs.Common.{◌≡◌, ◌∙◌, ℕ, Bool, true, false, List, [], ◌∷◌, ◌++◌, set, refl}
use Rattle.std.specs.Prelude.{if◌then◌else◌}
use Rattle.gr_model.specs.declared.report.Report.TheVariants as line
use Rattle.gr_model.specs.Broker.{Log, with_event, is_kept}
use Rattle.gr_model.specs.World.{World, Transition, log_of}
use Rattle.gr_model.specs.Headline as headline
use Rattle.gr_model_theorems.specs.SmallNets.{net5, inner_net, filtered_net}
use Rattle.gr_model.specs.Blank.{net0}
use Rattle.gr_sched.specs.declared.step.Step.{Step}
use Rattle.gr_model.specs.declared.report.Report.{Report}
use Rattle.gr_frame.specs.Bytes as frames
use Rattle.gr_model.specs.Net.{Net}
use Rattle.gr_model.specs.Broker as broker
use Rattle.gr_model.specs.World as world
use Rattle.gr_model_theorems.specs.Settles as settles
use Rattle.gr_model_theorems.specs.Settles.{wakes, delivers}
use Rattle.gr_model_theorems.specs.Examples.{branch_crashes, calls_after, heard_upto, losses_then_sweep, crashes_then_sweep, WorkedExamples, report, stopped_then_again, kept_lines, lost_lines, publishing, n_is}

-- with this one open the whole machine computes
unfoldable machine : Net → List Step → List Report
unfolding report world.report_of_by world.run_from_by world.next_by world.start_by frames.frame_bytes world.show world.sweep_by world.sweep_for_by world.hand_down_by world.wake_up_by world.deliver_up_by world.sweep_moment world.publish_stopped_by world.crash world.restarted world.opened_lines world.publish_now_by world.join_now_by world.deliver_frame_by world.wake_all_by world.wake_for_by world.absorbed world.sent_line broker.receive broker.drops broker.clashes broker.started broker.wake broker.wake_host broker.marking broker.quieted broker.cutting broker.size_filled broker.done_upto broker.publish broker.published broker.joining broker.joined_at broker.silence broker.log_know broker.expect broker.wake_below broker.asking broker.curiosity broker.stored broker.answers broker.acknowledged broker.upward broker.noted broker.due broker.learn broker.still_wanted broker.passed broker.forward broker.new_ticks broker.delivery_lines broker.data_ticks broker.horizon_after broker.kept_view broker.open_asks broker.forgotten broker.lower_data broker.finished broker.consolidated frames.cut_frames frames.cut_from
machine net steps = report net steps

-- Example of the stopped publish: the step with the answer of the disk as a parameter

-- the world after the clock's step
clocked_world : World
clocked_world = record { clock = 1000; most = 1000; frames = []; views = (world.start net0).views; logs = (world.start net0).logs }

-- the publish that stops within, with the event kept or lost
unfoldable stopped_as : Bool → Transition
stopped_as kept =
    let logs : List Log = if kept then set clocked_world.logs 0 (with_event (log_of clocked_world 0) 1000 (n_is 1)) else clocked_world.logs in
    let u : World = record { clock = 1000; most = 1000; frames = []; views = clocked_world.views; logs = logs } in
    record {
      world = world.restarted net0 u 0;
      lines = line.Crashed 0 ∷ ((if kept then line.Kept 0 1 1000 else line.Lost 0 1 1000) ∷ world.opened_lines net0 logs 0);
    }

unfoldable report_as : Bool → List Report
report_as kept = let s = stopped_as kept in s.lines ++ ((world.next net0 s.world (record { number = 3; step = publishing 1 (n_is 1) })).lines ++ [])

report_is : (call pick : ℕ) → report net0 (stopped_then_again call pick) ≡ report_as (is_kept 32 call pick)
unfolding machine stopped_then_again report_as stopped_as clocked_world
report_is call pick = refl

report_tells : (kept : Bool) → report_as kept ≡ (if kept then kept_lines else lost_lines)
unfolding machine report_as stopped_as clocked_world kept_lines lost_lines
report_tells true = refl
report_tells false = refl

inner_heard : (heard_upto inner_net losses_then_sweep 1 ≡ 5801) × (heard_upto inner_net losses_then_sweep 2 ≡ 5801) × (heard_upto inner_net losses_then_sweep 4 ≡ 5801)
unfolding machine heard_upto losses_then_sweep headline.begin headline.history_after headline.records_after headline.clock_after headline.most_after headline.heard_after headline.unlogged_after
inner_heard = (refl, refl, refl)

filtered_heard : (heard_upto filtered_net crashes_then_sweep 3 ≡ 3702) × (heard_upto filtered_net crashes_then_sweep 4 ≡ 3702)
unfolding machine heard_upto crashes_then_sweep headline.begin headline.history_after headline.records_after headline.clock_after headline.most_after headline.heard_after headline.unlogged_after
filtered_heard = (refl, refl)

calls_in_order : calls_after net5 branch_crashes ≡ wakes 2 0 ∷ delivers 7 ∷ delivers 8 ∷ wakes 1 0 ∷ delivers 9 ∷ wakes 0 0 ∷ delivers 10 ∷ delivers 12 ∷ wakes 2 0 ∷ delivers 13 ∷ wakes 1 0 ∷ delivers 14 ∷ wakes 0 0 ∷ []
unfolding machine calls_after branch_crashes settles.sweep_calls settles.sweep_calls_for settles.wake_calls settles.down_calls settles.up_calls
calls_in_order = refl

-- each worked example has the report that it shows
pub examples : WorkedExamples
unfolding machine losses_then_sweep crashes_then_sweep
examples = record {
  published_is_got = refl;
  nothing_tells_nothing = refl;
  each_tick_once = refl;
  clock_may_go_back = refl;
  lost_is_asked = refl;
  repeats_are_got_once = refl;
  each_is_got_once = refl;
  unwanted_is_silence = refl;
  no_filter_on_missing = refl;
  crashed_broker_asks_on = refl;
  mark_outlives_crash = refl;
  two_asks_go_up_once = refl;
  cut_when_all_have_acknowledged = refl;
  sweep_settles = refl;
  numbers_stand_once = refl;
  stopped_is_kept_or_lost = λ call pick. report_is call pick ∙ report_tells (is_kept 32 call pick);
  kept_picks = (refl, refl, refl, refl, refl);
  expected_is_asked = refl;
  forgotten_is_asked_on = refl;
  last_tick = refl;
  refusals = refl;
  late_gets_what_is_past = refl;
  join_outlives_crash = refl;
  overtaken_join = refl;
  join_comes_with_events = refl;
  cut_writes_anew = refl;
  written_anew_with_mark = refl;
  equal_events_are_one_run = refl;
  sweep_after_losses = refl;
  sweep_after_crashes = refl;
  sweep_is_heard = inner_heard;
  crashes_are_heard = filtered_heard;
  sweep_in_order = calls_in_order;
}
