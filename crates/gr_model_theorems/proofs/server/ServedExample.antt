-- Each worked example of a server has the report that it shows, by computation
use Rattle.std.proofs.Common.{inl, inr, refl}
use Rattle.gr_frame.specs.declared.fault.FrameKind.TheVariants as fault
use lib.Utf8 as utf8
use Rattle.std.specs.Str as text
use Rattle.gr_event.specs.Decode as events
use Rattle.gr_frame.specs.Bytes as frames
use Rattle.gr_frame.specs.Decode as decode
use Rattle.gr_model.specs.Broker as broker
use Rattle.gr_model.specs.World as world
use Rattle.gr_model.specs.Opening as opened
use Rattle.gr_model.specs.Arrivals as arrivals
use Rattle.gr_model_theorems.specs.ServedExample.{ServedExamples, publishes_price, first_frame, three_arrivals, false_datagrams, old_log}

-- each worked example of a server has the report that it shows
pub served_examples : ServedExamples
unfolding false_datagrams utf8.encode text.is_utf8 text.chars events.event_decoded events.pairs_at events.name_at events.name_of_length events.value_at events.value_of_kind events.integer_at publishes_price first_frame three_arrivals old_log opened.over_logs opened.opened_for_by opened.opening_by arrivals.takes_by arrivals.receives_by arrivals.quieted_by arrivals.comes_by arrivals.show_hosted arrivals.served_from_by arrivals.served_by decode.tick_at decode.event_at decode.known_of_kind decode.known_value_at decode.wanted_value_at decode.run_with_ticks decode.run_at decode.runs_at decode.kind_at decode.head_at decode.count_at decode.expect_at decode.body_at decode.fields_of decode.frame_decoded frames.frame_bytes world.publish_now_by world.deliver_frame_by world.wake_all_by world.wake_for_by world.absorbed world.sent_line broker.receive broker.drops broker.clashes broker.started broker.wake broker.wake_host broker.marking broker.quieted broker.cutting broker.done_upto broker.publish broker.published broker.silence broker.log_know broker.expect broker.wake_below broker.asking broker.curiosity broker.stored broker.answers broker.acknowledged broker.upward broker.noted broker.due broker.learn broker.still_wanted broker.passed broker.forward broker.new_ticks broker.delivery_lines broker.data_ticks broker.horizon_after broker.kept_view broker.open_asks broker.forgotten broker.lower_data broker.finished broker.consolidated frames.cut_frames frames.cut_from
served_examples = record {
  a_run = refl;
  a_run_is_honest = (tt, (inr (1, refl), (inl (record { kind = fault.Short; at = 1 }, refl), tt)));
  dropped_by_cause = refl;
  one_is_hosted = refl;
  past_the_last_tick = refl;
  at_one_broker = refl;
}
