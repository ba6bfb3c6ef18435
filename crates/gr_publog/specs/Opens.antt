-- What an opening does to two lanes
use Rattle.std.specs.Prelude.{◌≡◌, ◌⊎◌, ℕ, ◌==◌, nat_le, Bool, true, false, if◌then◌else◌, List, ◌∷◌, length, get_or, Result, Ok, Err, OnOk}
use Rattle.std.specs.Prelude.{◌||◌, IfOk}
use Rattle.gr_out.specs.declared.disk.Stop.TheVariants.{Unset}
use Rattle.gr_out.specs.Lane.{Call, Sync, content, has_stopped, LeavesOnly}
use Rattle.gr_publog.specs.declared.record.LogFault.{LogFault}
use Rattle.gr_publog.specs.declared.record.LogFault.TheVariants as fault
use Rattle.gr_publog.specs.declared.steps.Aside.{Aside}
use Rattle.gr_publog.specs.declared.steps.Aside.TheVariants.{Short, Opened, Closed}
use Rattle.gr_publog.specs.declared.opening.Heads.{Heads}
use Rattle.gr_publog.specs.declared.head.Standing.{Standing}
use Rattle.gr_publog.specs.declared.head.Standing.TheVariants.{Shut, Old, New}
use Rattle.gr_publog.specs.declared.head.Present.{Present}
use Rattle.gr_publog.specs.declared.head.Present.TheVariants.{First, Second}
use Rattle.gr_publog.specs.Text.{standing_of}
use Rattle.gr_publog.specs.Lanes.{Found, lanes_text, state_in}
use Rattle.gr_publog.specs.Filled.{filled_size, body_of}
use Rattle.gr_publog.specs.Steps.{rewriting_calls, GoesOn}
use Rattle.gr_publog.specs.Views.{LogView, Lanes, LeftPair, MayLeavePair, Stands}

-- how a lane stands that is to be filled anew
abbrev pub aside_of : List ℕ → Aside
aside_of bytes = if nat_le (length bytes) 6 then Short else (if get_or bytes 5 0 == 1 then Opened else Closed)

-- by its bytes and how it stands
abbrev pub aside_by : ℕ → Standing → Aside
aside_by size Shut = if nat_le size 6 then Short else Closed
aside_by size Old = if nat_le size 6 then Short else Opened
aside_by size (New g) = if nat_le size 6 then Short else Opened

-- how two lanes of these bytes stand
pub record AreHeads (h : Heads) (a b : List ℕ) : Type 0 where
  pub first : standing_of true a ≡ Ok h.first
  pub second : standing_of false b ≡ Ok h.second
  pub first_size : h.first_size ≡ length a
  pub second_size : h.second_size ≡ length b

-- the first or the second of two lanes is present, and stands so
abbrev pub present_as : Bool → Standing → Present
present_as second x = if second then Second x else First x

-- a crash leaves of two lanes what they read, and nothing else
abbrev pub AreSole : Lanes → Type 0
AreSole ls = LeavesOnly ls.first (content ls.first) × LeavesOnly ls.second (content ls.second)

-- one of two lanes was stopped
abbrev pub EitherStopped : Lanes → Type 0
EitherStopped ls = (has_stopped ls.first.stop ≡ true) ⊎ (has_stopped ls.second.stop ≡ true)

-- whether it was
abbrev pub either_stopped : Lanes → Bool
either_stopped ls = has_stopped ls.first.stop || has_stopped ls.second.stop

-- a log as it is opened, of what its two lanes stand for: as it was found, or in the lane that was filled
abbrev pub view_of : ℕ → List ℕ → List ℕ → Found → LogView
view_of lane a b f =
    if f.version == 2 then record {
      lane = lane;
      state = f.state;
      broken = false;
      second = f.second;
      generation = f.generation;
      size = f.size;
      aside = aside_of (if f.second then a else b);
    } else record {
      lane = lane;
      state = f.state;
      broken = false;
      second = f.version == 1;
      generation = 1;
      size = filled_size f.state;
      aside = if f.version == 1 then Opened else aside_of b;
    }

-- a log in which these subscribers may join is opened as what its lanes stand for, or the place of the first fault is
-- told
abbrev pub OpensAs : List ℕ → ℕ → List ℕ → List ℕ → Result LogView LogFault → Type 0
OpensAs late lane a b (Ok l) = (f : Found) × (lanes_text late a b ≡ Ok f) × (l ≡ view_of lane a b f)
OpensAs late lane a b (Err fault.Memory) = Unit {0}
OpensAs late lane a b (Err fault.Disk) = Unit {0}
OpensAs late lane a b (Err (fault.Damaged at)) = lanes_text late a b ≡ Err at
OpensAs late lane a b (Err fault.Reopen) = ⊥

-- What the syncs of both lanes do, whatever comes of them.
pub record Surveys {T : Type 0} (before after : Lanes) (result : Result T LogFault) : Type 0 where
  pub first : content after.first ≡ content before.first
  pub second : content after.second ≡ content before.second
  pub on_first : GoesOn before.first after.first
  pub on_second : GoesOn before.second after.second
  pub only : OnOk result (LeavesOnly after.first (content after.first) × LeavesOnly after.second (content after.second))
  -- until both are synced a crash leaves what it might have left before
  pub any_moment : (a b : List ℕ) → LeftPair before after a b → MayLeavePair before a b
  pub calls : OnOk result ((after.first.calls ≡ Sync ∷ before.first.calls)
      × (after.second.calls ≡ Sync ∷ before.second.calls))
  pub reserved : OnOk result ((after.first.reserved ≡ true) × (after.second.reserved ≡ true))
  pub unset_first : before.first.stop ≡ Unset → after.first.stop ≡ Unset
  pub unset_second : before.second.stop ≡ Unset → after.second.stop ≡ Unset

-- the calls on each lane behind the sync: the empty state is written into the first lane, and what a first lane of the
-- first version holds into the second one
abbrev pub first_calls : List ℕ → Found → List Call → List Call
first_calls a f calls = if f.version == 0 then rewriting_calls (aside_of a) (body_of f.state 1) calls else calls

abbrev pub second_calls : List ℕ → Found → List Call → List Call
second_calls b f calls = if f.version == 1 then rewriting_calls (aside_of b) (body_of f.state 1) calls else calls

-- What an opening does behind these syncs.
pub record Settles (late : List ℕ) (lane : ℕ) (before after : Lanes) (result : Result LogView LogFault)
    : Type 0 where
  pub gives : OpensAs late lane (content before.first) (content before.second) result
  pub stands : IfOk result (λ l. Stands after l)
  pub on_first : GoesOn before.first after.first
  pub on_second : GoesOn before.second after.second
  -- at every moment each pair of images holds what the two held
  pub any_moment : (a b : List ℕ) → LeftPair before after a b
      → state_in late a b ≡ state_in late (content before.first) (content before.second)
  pub calls : (f : Found) → lanes_text late (content before.first) (content before.second) ≡ Ok f
      → OnOk result ((after.first.calls ≡ first_calls (content before.first) f before.first.calls)
      × (after.second.calls ≡ second_calls (content before.second) f before.second.calls))
  pub reserved_first : before.first.reserved ≡ true → after.first.reserved ≡ true
  pub reserved_second : before.second.reserved ≡ true → after.second.reserved ≡ true
  pub unset_first : before.first.stop ≡ Unset → after.first.stop ≡ Unset
  pub unset_second : before.second.stop ≡ Unset → after.second.stop ≡ Unset

-- What an opening does: both syncs, and the rest where these came through.
pub record Opens (late : List ℕ) (lane : ℕ) (before after : Lanes) (result : Result LogView LogFault)
    : Type 0 where
  -- it answers what the lanes stand for, or the place of the first fault; then a crash leaves nothing else
  pub gives : OpensAs late lane (content before.first) (content before.second) result
  pub stands : IfOk result (λ l. Stands after l)
  -- once both are synced they read as before, and at every moment from then on each pair of images holds what they held
  pub synced : Lanes
  pub answer : Result (Unit {0}) LogFault
  pub syncs : Surveys before synced answer
  pub stops : (e : LogFault) → answer ≡ Err e → (after ≡ synced) × (result ≡ Err e)
  pub settles : OnOk answer (Settles late lane synced after result)
