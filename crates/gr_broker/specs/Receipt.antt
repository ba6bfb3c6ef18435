-- What a datagram is answered
use Rattle.std.specs.Prelude.{◌≡◌, ◌≢◌, ℕ, Bool, true, false, nat_eq, List, Result, Ok, Err, Option, Some, None}
use Rattle.std.specs.List.{list_any}
use Rattle.gr_event.specs.Joins.{Joins, first_split, longer}
use Rattle.gr_event.specs.declared.join.Split.{Split}
use Rattle.gr_frame.specs.declared.fault.FrameFault.{FrameFault}
use Rattle.gr_frame.specs.declared.fault.FrameKind.TheVariants as kind
use Rattle.gr_frame.specs.declared.Head.{Head}
use Rattle.gr_frame.specs.declared.Body.TheVariants as body
use Rattle.gr_frame.specs.declared.Frame.{Frame}
use Rattle.gr_know.specs.declared.values.K.{K}
use Rattle.gr_know.specs.declared.values.K.TheVariants.{Q}
use Rattle.gr_know.specs.Values.{Known, known_at}
use Rattle.gr_model.specs.Net.{Net}
use Rattle.gr_model.specs.Broker.{View, Outcome as MachineOutcome, empty_log, learn, receive, seen, taking}
use Rattle.gr_model.specs.Broker.{with_joins}
use Rattle.gr_model.specs.Arrivals.{fits_broker, joins_in, clash_runs, first_of, least_clash}
use Rattle.gr_broker_relay.specs.declared.outcome.Outcome.{Outcome}
use Rattle.gr_broker_relay.specs.Told.{Tells}
use Rattle.gr_broker.specs.declared.outcome.Dropped.{Dropped}
use Rattle.gr_broker.specs.declared.outcome.Received.{Received}
use Rattle.gr_broker.specs.declared.outcome.Received.TheVariants as answer
use Rattle.gr_broker.specs.declared.outcome.Dropped.TheVariants as dropped
use Rattle.gr_broker.specs.Seen.{BrokerView, view_in, with_view}

-- it is no frame, or it does not fit, or its joins split from those that are held, or it clashes at a tick with what is
-- kept there; or it is taken
pub data Receipt : Type 0 where
  no_frame : FrameFault → Receipt
  stray : Head → Receipt
  split : Split → Receipt
  clash : ℕ → K → K → Receipt
  taken : MachineOutcome → Receipt

-- a frame comes over an edge: curiosity from a child, all else from the next broker towards the host
abbrev pub comes_over : Option ℕ → List ℕ → Frame → Bool
comes_over up children f = elim f.body [
  | body.Curiosity runs ↦ list_any (λ x. nat_eq x f.head.from) children
  | _ ↦ elim up [ Some u ↦ nat_eq u f.head.from | None ↦ false ]
]

-- what a frame says of a tick
abbrev pub came_at : Frame → ℕ → K
came_at f t = elim f.body [ body.Knowledge runs js ↦ known_at runs t | _ ↦ Q ]

-- a frame that fits and whose joins do not split clashes with what is kept, or is taken: the machine's call, at the net
-- that its longer list of joins shows, by which the log passes untouched
abbrev pub receipt_of_joined : Net → ℕ → View → Frame → Receipt
receipt_of_joined net now v f =
    elim (least_clash v.know f) [
      | Some t ↦ clash t (known_at v.know t) (came_at f t)
      | None ↦ taken (receive (seen net (taking v f)) now f v empty_log)
    ]

-- the same of what is known of a frame from upstream, with the joins that it brings
abbrev pub receipt_of_piece : Net → ℕ → ℕ → View → Known → Joins → Receipt
receipt_of_piece net p b v piece js =
    let x : View = with_joins v (longer v.joins js) in
    elim (first_of (clash_runs v.know piece)) [
      | Some t ↦ clash t (known_at v.know t) (known_at piece t)
      | None ↦ taken (learn (seen net x) p b piece x empty_log)
    ]

-- a frame that fits splits from the joins that are held, or it is answered so
unfoldable pub receipt_of_fit : Net → ℕ → View → Frame → Receipt
receipt_of_fit net now v f =
    elim (first_split 0 v.joins (joins_in f)) [ Some x ↦ split x | None ↦ receipt_of_joined net now v f ]

-- first decode, then fit, then split, then clash
unfoldable pub receipt : Net → ℕ → BrokerView → Result Frame FrameFault → Receipt
receipt net now b (Err fault) = no_frame fault
receipt net now b (Ok f) =
    elim (fits_broker net b.number f) [
      | false ↦ stray f.head
      | true ↦ receipt_of_fit net now (view_in b f.head.publisher) f
    ]

-- what is kept of the publisher after it
abbrev pub view_after : Receipt → View → View
view_after (taken o) v = o.view
view_after _ v = v

-- the broker after it
abbrev pub after_receipt : Result Frame FrameFault → Receipt → BrokerView → BrokerView
after_receipt (Ok f) (taken o) b = with_view b f.head.publisher o.view
after_receipt _ _ b = b

-- the answer is this receipt. That memory was refused is no fault of a datagram
abbrev pub Answers : Received → Receipt → Type 0
Answers (answer.Taken told) (taken o) = Tells o told
Answers (answer.Dropped (dropped.NotFrame fault)) (no_frame f) = (fault ≡ f) × (fault.kind ≢ kind.Memory)
Answers (answer.Dropped (dropped.Stray head)) (stray h) = head ≡ h
Answers (answer.Dropped (dropped.Split at kept came)) (split x) = (at ≡ x.at) × (kept ≡ x.kept) × (came ≡ x.came)
Answers (answer.Dropped (dropped.Clash c)) (clash t kept came) = (c.tick ≡ t) × (c.kept ≡ kept) × (c.came ≡ came)
Answers _ _ = ⊥

-- the same where what a frame that is taken tells stands by itself
abbrev pub AnswersInto : Outcome → Option Dropped → Receipt → Type 0
AnswersInto told None r = Answers (answer.Taken told) r
AnswersInto told (Some d) r = Answers (answer.Dropped d) r
