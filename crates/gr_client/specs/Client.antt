-- What a client of a publisher is, what it offers, and how it goes on
use Rattle.std.specs.Prelude.{ℕ, ◌+◌, ◌-◌, ◌==◌, ◌≤◌, nat_le, if◌then◌else◌, List, length, Option, None, option_map}
use Rattle.std.specs.Prelude.{slice_get}
use Rattle.gr_event.specs.declared.event.Event.{Event}
use Rattle.gr_client.specs.declared.client.Progress.{Progress}
use Rattle.gr_client.specs.declared.client.Progress.TheVariants as progress
use Rattle.gr_note.specs.declared.note.Note.{Note}
use Rattle.gr_note.specs.declared.note.Note.TheVariants as note

-- whose events it has, which they are, the first of them having the number 1, and how far it is
pub record ClientView : Type 0 where
  pub publisher : ℕ
  pub events : List Event
  pub progress : Progress

-- of m events the one that is submitted next is among them
abbrev pub IsAmong : ℕ → Progress → Type 0
IsAmong m (progress.Running next) = (1 ≤ next) × (next ≤ m)
IsAmong m _ = Unit {0}

-- a client of m events begins with the first of them
abbrev pub begun_with : ℕ → Progress
begun_with m = if m == 0 then progress.Done else progress.Running 1

abbrev pub client_begun : ℕ → List Event → ClientView
client_begun publisher events = record { publisher = publisher; events = events; progress = begun_with (length events) }

-- how far a client of m events is that is told which number comes next
abbrev pub told_next : ℕ → ℕ → Progress
told_next m n = if nat_le n m then progress.Running n else (if n == m + 1 then progress.Done else progress.Ahead n)

-- a running client goes on where a greater number than its own comes next
abbrev pub after_next : ℕ → Progress → ℕ → Progress
after_next m (progress.Running next) n = if nat_le n next then progress.Running next else told_next m n
after_next m p n = p

-- a running client ends where the publisher is spent
abbrev pub after_spent : Progress → Progress
after_spent (progress.Running next) = progress.Spent
after_spent p = p

-- a client of a publisher with m events hears the notes of that publisher alone
abbrev pub after_note : ℕ → ℕ → Progress → Note → Progress
after_note publisher m p (note.Submit other number event) = p
after_note publisher m p (note.Next other next) = if other == publisher then after_next m p next else p
after_note publisher m p (note.Spent other) = if other == publisher then after_spent p else p

-- the client once it has heard a note
unfoldable pub heard_by : ClientView → Note → ClientView
heard_by c n = record {
  publisher = c.publisher;
  events = c.events;
  progress = after_note c.publisher (length c.events) c.progress n;
}

-- what a client offers: its next event while it runs
unfoldable pub offered : ClientView → Option Note
offered c =
    elim c.progress [
      | progress.Running next ↦ option_map (note.Submit c.publisher next) (slice_get c.events (next - 1))
      | _ ↦ None
    ]
