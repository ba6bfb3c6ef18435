-- A log that is kept in two lanes: its order, and how what is said of it goes on with a record and with a cut
use Rattle.std.specs.Prelude.{◌≡◌, ℕ, ◌≤◌, ◌<◌, true, List, [], ◌∷◌}
use Rattle.std.specs.List.{AllByRecursion}
use Rattle.gr_event.specs.declared.event.Event.{Event}
use Rattle.gr_event.specs.Limits.{IsEvent}
use Rattle.gr_publog.specs.declared.record.Record.{Record}
use Rattle.gr_publog.specs.State.{IsState, may_follow, max_tick}
use Rattle.gr_publog.specs.Views.{LogView, appended, reclaimed}
use Rattle.gr_pubend.specs.Log.{Log, said, with_entry, with_cut, filled_log, cut_log_at}
use Rattle.gr_pubend.specs.Cuts.{cut_view}

-- the ticks rise strictly from above a tick on
abbrev pub PairsRise : ℕ → List (ℕ × Event) → Type 0
PairsRise from [] = Unit {0}
PairsRise from (x ∷ xs) = (from < x.0) × PairsRise x.0 xs

-- an event past a cut, not past what is settled, and within an event's limits
pub record IsLive (cut settled : ℕ) (x : ℕ × Event) : Type 0 where
  pub past : cut < x.0
  pub upto : x.0 ≤ settled
  pub event : IsEvent x.1

-- A log whose events rise from its cut up to what is settled, and which stands within the limits.
pub record IsSettled (log : Log) : Type 0 where
  pub rise : PairsRise log.cut log.events
  pub live : AllByRecursion (IsLive log.cut log.settled) log.events
  pub cut : log.cut ≤ log.settled
  pub settled : log.settled ≤ max_tick

-- The laws, for each log that is in order

-- it is settled
abbrev pub SaidIsSettled : Type 0
SaidIsSettled = (l : LogView) → IsState l.state → IsSettled (said l)

-- it goes on record by record, and by cuts
pub record SaidGoesOn : Type 0 where
  pub appended : (l : LogView) (r : Record) → may_follow l.state r ≡ true
      → said (appended r l) ≡ with_entry (said l) r
  pub reclaimed : (l : LogView) (tick : ℕ) → IsState l.state
      → said (reclaimed tick l) ≡ filled_log (with_cut (said l) tick)
  pub cut : (reclaim : ℕ) (l : LogView) (tick : ℕ) → IsState l.state
      → said (cut_view reclaim tick l) ≡ cut_log_at reclaim (said l) tick
