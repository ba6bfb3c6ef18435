-- A broker by itself: what each of its calls does, whatever its peers send
use Rattle.std.specs.Prelude.{◌≡◌, ℕ, ◌<◌, true, false, List, get_or, Ok}
use Rattle.gr_event.specs.declared.event.Event.{Event}
use Rattle.gr_know.specs.declared.values.K.TheVariants.{Q}
use Rattle.gr_frame.specs.declared.Body.{Body}
use Rattle.gr_frame.specs.declared.Frame.{Frame}
use Rattle.gr_frame.specs.Decode.{frame_decoded}
use Rattle.gr_sched.specs.declared.step.Line.{Line}
use Rattle.gr_tick.specs.Runs.{AreRuns}
use Rattle.gr_know.specs.Values.{Known}
use Rattle.gr_model.specs.Net.{Net}
use Rattle.gr_model.specs.Broker.{View, Log, Outcome, head, seen, taking, view_joined, learn, receive, wake, publish}
use Rattle.gr_model.specs.Broker.{joining}
use Rattle.gr_model.specs.World.{view_of}
use Rattle.gr_model.specs.Opening.{opening}
use Rattle.gr_model.specs.Arrivals.{Arrival, requests_of, fits_broker, arrived}
use Rattle.gr_model_calls.specs.Rules.{IsView, MayCome, is_dropped, unmoved}
use Rattle.gr_model_calls.specs.Rules.{NewTicks, Comes, Wakes, Publishes, TakesJoin}

-- the outcome of a call: it is by the rule, no other is, and of the view that it leaves the next call may be made
pub record IsOnly (net : Net) (p b : ℕ) (Rule : Outcome → Type 0) (o : Outcome) : Type 0 where
  pub rule : Rule o
  pub only : (u : Outcome) → Rule u → u ≡ o
  pub view : IsView net p b o.view

-- a frame to broker b, of publisher p
abbrev pub frame_to : ℕ → ℕ → ℕ → Body → Frame
frame_to from b p y = record { head = head from b p; body = y }

-- Each call of broker b for publisher p at this moment, of this view and this log, on the net that the view shows
pub record ObeysAlone (net : Net) (p b now : ℕ) (v : View) (log : Log) : Type 0 where
  -- a frame, from whomever: one that is not dropped does what its rule says, and one that is dropped does nothing
  pub comes : (from : ℕ) (y : Body) → MayCome net p from b y → is_dropped v y ≡ false
      → (let f = frame_to from b p y in IsOnly net p b (Comes (seen net (taking v f)) p from b now y v log)
      (receive (seen net (taking v f)) now f v log))
  pub drops : (from : ℕ) (y : Body) → is_dropped v y ≡ true
      → (let f = frame_to from b p y in receive (seen net (taking v f)) now f v log ≡ unmoved v log)
  pub wakes : IsOnly net p b (Wakes (seen net v) p b now v log) (wake (seen net v) p b now v log)
  -- at the host: what is learned at a start, a publish and a join
  pub learns : (piece : Known) → AreRuns Q piece
      → IsOnly net p b (NewTicks (seen net v) p b piece v log) (learn (seen net v) p b piece v log)
  pub publishes : (number : ℕ) (e : Event) → IsOnly net p b (Publishes (seen net v) p b now number e v log)
      (publish (seen net v) p b now number e v log)
  pub joins : (s : ℕ) → IsOnly net p b (TakesJoin (seen net (view_joined log s now v)) p b now s v log)
      (joining (seen net (view_joined log s now v)) p b now s v log)

-- a frame that is read of the bytes of a datagram, and that fits the broker, may come to it
abbrev pub ReadsWhatMayCome : Net → ℕ → List ℕ → Frame → Type 0
ReadsWhatMayCome net b bytes f = ((i : ℕ) → get_or bytes i 0 < 256) → frame_decoded bytes ≡ Ok f
    → fits_broker net b f ≡ true → MayCome net f.head.publisher f.head.from b f.body

-- at a server each view is one that its broker may have, after whatever came
abbrev pub ServesViews : Net → List ℕ → List Log → List Line → List Arrival → Type 0
ServesViews net hosted logs steps arrivals = (p b : ℕ) → p < net.publishers → b < net.brokers → IsView net p b
    (view_of (arrived net hosted (opening net hosted logs).world (requests_of net hosted steps) arrivals) b p)
