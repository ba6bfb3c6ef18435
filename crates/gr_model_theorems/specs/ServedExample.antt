-- Worked examples of a server: a whole run, and a start over an old log
use Rattle.std.specs.Prelude.{◌≡◌, ◌-◌, ◌^◌, false, List, [], ◌∷◌, set, None}
use Rattle.gr_frame.specs.declared.Body.TheVariants as body
use Rattle.gr_frame.specs.declared.Frame.{Frame}
use Rattle.gr_frame.specs.Bytes.{frame_bytes}
use Rattle.gr_sched.specs.declared.step.Step.TheVariants as step
use Rattle.gr_sched.specs.declared.step.Line.{Line}
use Rattle.gr_model.specs.declared.report.Report.TheVariants as line
use Rattle.gr_model.specs.Net.{Net}
use Rattle.gr_model.specs.Broker.{Log, head}
use Rattle.gr_model.specs.Arrivals.{Arrival, datagram, quiet, served}
use Rattle.gr_model_theorems.specs.Examples.{event, int_event, n_is, sent_know, silent}
use Rattle.gr_model_theorems.specs.SmallNets.{net1, price, tree, all_events}
use Rattle.gr_model.specs.Opening.{opening}
use Rattle.gr_model_theorems.specs.Served.{IsHonestRun}
use Rattle.gr_know.specs.declared.values.K.TheVariants.{S, D}

-- publish P 1 {"price":82}
unfoldable pub publishes_price : List Line
publishes_price = record { number = 1; step = step.Publish 0 1 None (int_event price 82) } ∷ []

-- the frame with silence up to 999 and the event at 1000
unfoldable pub first_frame : Frame
first_frame =
    record { head = head 0 1 0; body = body.Knowledge (silent 1 999 ∷ event (int_event price 82) 1000 1000 ∷ []) [] }

-- a quiet moment; then the first frame arrives; then a byte that is no frame
unfoldable pub three_arrivals : List Arrival
three_arrivals = quiet 1000 ∷ datagram 1 (frame_bytes first_frame) 1000 ∷ datagram 1 (72 ∷ []) 1000 ∷ []

-- a log of two events, at ticks 10 and 20, that is cut at 10 and settled up to 30
unfoldable pub old_log : Log
old_log = record {
  last = 2;
  settled = 30;
  cut = 10;
  events = (20, n_is 2) ∷ [];
  joins = [];
  generation = 1;
  size = 121;
  forgets = false;
}

-- one broker, with the publisher and a subscriber
abbrev pub one_broker : Net
one_broker = tree (None ∷ []) (0 ∷ []) all_events 1024

-- datagrams of a journal that is not honest: no bytes, another version, a frame at its sender, a tick to expect from a
-- child, a publisher that there is not, an event alone, and silence where the event was
unfoldable pub false_datagrams : List Arrival
false_datagrams =
    datagram 1 [] 1000 ∷
    datagram 1 (set (frame_bytes first_frame) 2 9) 1000 ∷
    datagram 0 (frame_bytes first_frame) 1000 ∷
    datagram 0 (frame_bytes (record { head = head 1 0 0; body = body.Expect 5 })) 1000 ∷
    datagram 1 (frame_bytes (record { head = head 0 1 7; body = body.Expect 5 })) 1000 ∷
    datagram 1 (frame_bytes (record {
      head = head 0 1 0;
      body = body.Knowledge (event (int_event price 82) 2000 2000 ∷ []) [];
    })) 1000 ∷
    datagram 1 (frame_bytes (record { head = head 0 1 0; body = body.Knowledge (silent 2000 2000 ∷ []) [] })) 1000 ∷ []

pub record ServedExamples : Type 0 where
  -- The event is published at the quiet moment, which also wakes the brokers; the datagram brings it to the subscriber;
  -- the last datagram is dropped
  pub a_run : served net1 (0 ∷ 1 ∷ []) [] publishes_price three_arrivals ≡
      [] ∷
      (line.Logged 0 1 1000 ∷ sent_know 1 0 1 0 (silent 1 999 ∷ event (int_event price 82) 1000 1000 ∷ []) ∷
      line.SentExpect 2 0 1 0 1000 ∷ []) ∷
      (line.Got 0 0 1000 (int_event price 82) ∷ line.Horizon 0 0 1000 ∷ []) ∷
      (line.DroppedNotFrame 1 1 1 ∷ []) ∷
      (line.Frames 2 ∷ line.LogOf 0 1 1000 0 1 ∷ line.Doubt 1 0 1000 ∷ []) ∷ []
  -- Its journal is honest
  pub a_run_is_honest : IsHonestRun three_arrivals (served net1 (0 ∷ 1 ∷ []) [] publishes_price three_arrivals)
  -- What does not fit is a stray; only what fits can clash
  pub dropped_by_cause : served net1 (0 ∷ 1 ∷ []) [] [] false_datagrams ≡
      [] ∷
      (line.DroppedNotFrame 1 1 0 ∷ []) ∷
      (line.DroppedNotFrame 1 3 2 ∷ []) ∷
      (line.DroppedStray 0 0 1 0 ∷ []) ∷
      (line.DroppedStray 0 1 0 0 ∷ []) ∷
      (line.DroppedStray 1 0 1 7 ∷ []) ∷
      [] ∷
      (line.DroppedClash 1 2000 (D (int_event price 82)) S ∷ []) ∷
      (line.Frames 0 ∷ line.LogOf 0 0 0 0 0 ∷ line.Doubt 1 0 0 ∷ []) ∷ []
  -- Where only B is hosted, P is not published, and only what B has is shown
  pub one_is_hosted : served net1 (1 ∷ []) [] publishes_price (quiet 1000 ∷ [])
      ≡ [] ∷ ([] ∷ ((line.Frames 0 ∷ line.Doubt 1 0 0 ∷ []) ∷ []))
  -- A moment past the last tick is taken as the last tick
  pub past_the_last_tick : served net1 (0 ∷ []) [] publishes_price (quiet (2 ^ 63) ∷ []) ≡
      [] ∷
      (line.Logged 0 1 (2 ^ 62) ∷ sent_know 1 0 1 0 (silent 1 (2 ^ 62 - 1) ∷
      event (int_event price 82) (2 ^ 62) (2 ^ 62) ∷ []) ∷ line.SentExpect 2 0 1 0 (2 ^ 62) ∷ []) ∷
      (line.Frames 2 ∷ line.LogOf 0 1 (2 ^ 62) 0 1 ∷ []) ∷ []
  -- Where all is at one broker, the subscriber gets what the log has past its cut, at once
  pub at_one_broker : (opening one_broker (0 ∷ []) (old_log ∷ [])).lines
      ≡ line.Opened 0 2 30 10 ∷ line.Got 0 0 20 (n_is 2) ∷ line.Horizon 0 0 30 ∷ []
