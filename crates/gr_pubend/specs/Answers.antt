-- What a publish, a time of silence and a join are answered, the record that each logs, and what was planned
use Rattle.std.specs.Prelude.{◌≡◌, ℕ, suc, ◌+◌, ◌-◌, max, true, false, nat_le, nat_lt, [], ◌∷◌, Option, Some, None}
use Rattle.gr_event.specs.declared.event.Event.{Event}
use Rattle.gr_event.specs.Joins.{has_joined}
use Rattle.gr_know.specs.declared.values.K.TheVariants.{D}
use Rattle.gr_know.specs.Values.{Known}
use Rattle.gr_publog.specs.declared.record.Record.{Record}
use Rattle.gr_publog.specs.declared.record.Record.TheVariants as entry
use Rattle.gr_publog.specs.State.{LogState, max_tick, may_follow}
use Rattle.gr_pubend.specs.declared.answers.Published.{Published}
use Rattle.gr_pubend.specs.declared.answers.Published.TheVariants.{Logged, Already, Gap, Exhausted}
use Rattle.gr_pubend.specs.declared.answers.Quieted.{Quieted}
use Rattle.gr_pubend.specs.declared.answers.Quieted.TheVariants.{NotYet, Marked}
use Rattle.gr_pubend.specs.declared.answers.Joined.{Joined}
use Rattle.gr_pubend.specs.declared.answers.Joined.TheVariants as joins
use Rattle.gr_pubend.specs.Log.{Log, silence}

-- a publish: said already, out of turn, past the last tick, or logged at its tick, with the silence before it
unfoldable pub published : Log → ℕ → Event → ℕ → Published
published log number e now =
    let tick = max (suc log.settled) now in
    elim (nat_le number log.last) [
      | true ↦ Already
      | false ↦ elim (nat_lt (suc log.last) number) [
        | true ↦ Gap (suc log.last)
        | false ↦ elim (nat_lt max_tick tick) [
          | true ↦ Exhausted
          | false ↦ Logged tick (silence (suc log.settled) (tick - 1) (record {
            first = tick;
            last = tick;
            value = D e;
          } ∷ []))
        ]
      ]
    ]

-- a log that was silent for long is marked
unfoldable pub quieted : Log → ℕ → ℕ → Quieted
quieted log now quiet =
    elim (nat_le (log.settled + quiet) now) [
      | true ↦ Marked now (silence (suc log.settled) now [])
      | false ↦ NotYet
    ]

-- a join: said already, past the last tick, or logged at its tick with the silence up to it
unfoldable pub joined_at : Log → ℕ → ℕ → Joined
joined_at log s now =
    let tick = max (suc log.settled) now in
    elim (has_joined log.joins s) [
      | true ↦ joins.Already
      | false ↦ elim (nat_lt max_tick tick) [
        | true ↦ joins.Exhausted
        | false ↦ joins.Logged tick (silence (suc log.settled) tick [])
      ]
    ]

-- the record that is logged with an answer
abbrev pub event_of : Published → ℕ → Event → Option Record
event_of (Logged tick fresh) number e = Some (entry.Event tick number e)
event_of _ number e = None

abbrev pub mark_of : Quieted → Option Record
mark_of (Marked tick fresh) = Some (entry.Mark tick)
mark_of _ = None

abbrev pub join_of : Joined → ℕ → Option Record
join_of (joins.Logged tick fresh) s = Some (entry.Join tick s)
join_of _ s = None

-- the record that a publish logs, the one that a time of silence logs, and the one that a join logs
abbrev pub publish_logs : Log → ℕ → Event → ℕ → Option Record
publish_logs log number e now = event_of (published log number e now) number e

abbrev pub quiet_logs : Log → ℕ → ℕ → Option Record
quiet_logs log now quiet = mark_of (quieted log now quiet)

abbrev pub join_logs : Log → ℕ → ℕ → Option Record
join_logs log s now = join_of (joined_at log s now) s

-- What is new with a record that may follow on a state: of an event the silence before it and itself, of a mark and of
-- a join the silence up to it. A cut brings nothing new.
abbrev pub IsNews : LogState → Record → Known → Type 0
IsNews state (entry.Event tick number e) fresh =
    (may_follow state (entry.Event tick number e) ≡ true)
    × (fresh ≡ silence (suc state.settled) (tick - 1) (record { first = tick; last = tick; value = D e } ∷ []))
IsNews state (entry.Mark tick) fresh =
    (may_follow state (entry.Mark tick) ≡ true) × (fresh ≡ silence (suc state.settled) tick [])
IsNews state (entry.Cut tick) fresh = ⊥
IsNews state (entry.Join tick s) fresh =
    (may_follow state (entry.Join tick s) ≡ true) × (fresh ≡ silence (suc state.settled) tick [])

-- an answer that was planned on a state: the event may follow, and what is new is so; the same of a mark and of a join
abbrev pub IsPlanned : LogState → ℕ → Event → Published → Type 0
IsPlanned state number e (Logged tick fresh) = IsNews state (entry.Event tick number e) fresh
IsPlanned state number e _ = Unit {0}

abbrev pub IsPlannedMark : LogState → Quieted → Type 0
IsPlannedMark state (Marked tick fresh) = IsNews state (entry.Mark tick) fresh
IsPlannedMark state _ = Unit {0}

abbrev pub IsPlannedJoin : LogState → ℕ → Joined → Type 0
IsPlannedJoin state s (joins.Logged tick fresh) = IsNews state (entry.Join tick s) fresh
IsPlannedJoin state s _ = Unit {0}
