-- What a log is seen as, and two lanes that hold one
use Rattle.std.specs.Prelude.{◌≡◌, ◌≢◌, ◌⊎◌, ℕ, suc, ◌+◌, ◌<◌, ◌≤◌, Bool, true, false, not, if◌then◌else◌, List, ◌++◌, length, get_or}
use Rattle.std.specs.Prelude.{Ok}
use Rattle.gr_out.specs.Lane.{Lane, content, moment, MayLeave, LeftSince, LeavesOnly}
use Rattle.gr_publog.specs.declared.record.Record.{Record}
use Rattle.gr_publog.specs.declared.record.Record.TheVariants.{Cut}
use Rattle.gr_publog.specs.declared.record.Base.{Base}
use Rattle.gr_publog.specs.declared.steps.Aside.{Aside}
use Rattle.gr_publog.specs.declared.steps.Aside.TheVariants.{Short, Opened, Closed}
use Rattle.gr_publog.specs.declared.head.Standing.TheVariants.{Old, New}
use Rattle.gr_publog.specs.State.{LogState, after_record, state_from}
use Rattle.gr_publog.specs.Text.{record_size, blocks, front_of, begun, IsText, standing_of}
use Rattle.gr_publog.specs.Lanes.{Found, state_in, lanes_text}
use Rattle.gr_publog.specs.Filled.{filled_size}

-- What a log is seen as.
pub record LogView : Type 0 where
  pub lane : ℕ  -- the first of its two lanes
  pub state : LogState
  pub broken : Bool  -- the disk has failed it
  pub second : Bool  -- the present lane is the second one
  pub generation : ℕ  -- of the present lane
  pub size : ℕ  -- of the present lane's text, with its closed gate
  pub aside : Aside  -- how the other lane stands

-- with one more record
abbrev pub appended : Record → LogView → LogView
appended r l = record {
  lane = l.lane;
  state = after_record l.state r;
  broken = l.broken;
  second = l.second;
  generation = l.generation;
  size = l.size + 1 + record_size r;
  aside = l.aside;
}

-- cut at a tick, and written into the other lane
abbrev pub reclaimed : ℕ → LogView → LogView
reclaimed tick l = record {
  lane = l.lane;
  state = after_record l.state (Cut tick);
  broken = l.broken;
  second = not l.second;
  generation = suc l.generation;
  size = filled_size (after_record l.state (Cut tick));
  aside = Opened;
}

-- no more to be used
abbrev pub failed : LogView → LogView
failed l = record {
  lane = l.lane;
  state = l.state;
  broken = true;
  second = l.second;
  generation = l.generation;
  size = l.size;
  aside = l.aside;
}

-- Two lanes

pub record Lanes : Type 0 where
  pub first : Lane
  pub second : Lane

abbrev pub lanes_at : (ℕ → Lane) → ℕ → Lanes
lanes_at lane_of n = record { first = lane_of n; second = lane_of (suc n) }

-- the number of the first or of the second of the two from this one on
abbrev pub number_of : ℕ → Bool → ℕ
number_of lane second = if second then suc lane else lane

-- the one that is present, and the other one
abbrev pub present : LogView → Lanes → Lane
present l ls = if l.second then ls.second else ls.first

abbrev pub other : LogView → Lanes → Lane
other l ls = if l.second then ls.first else ls.second

-- a lane that is none of the two from this one on
abbrev pub AwayFrom : ℕ → ℕ → Type 0
AwayFrom lane n = (n ≢ lane) × (n ≢ suc lane)

-- a crash now may leave this pair of images
abbrev pub MayLeavePair : Lanes → List ℕ → List ℕ → Type 0
MayLeavePair ls a b = MayLeave ls.first a × MayLeave ls.second b

-- a crash at some moment since an earlier time may have left it
abbrev pub LeftPair : Lanes → Lanes → List ℕ → List ℕ → Type 0
LeftPair before after a b = LeftSince after.first (moment before.first) a
    × LeftSince after.second (moment before.second) b

-- a pair of images holds this, where the same subscribers may join
abbrev pub ReadsAs : LogState → List ℕ → List ℕ → Type 0
ReadsAs s a b = state_in s.late a b ≡ Ok s

-- what two lanes stand for in which a log stands
abbrev pub found_of : LogView → Found
found_of l = record { version = 2; second = l.second; generation = l.generation; size = l.size; state = l.state }

-- a pair of images stands for a log, where the same subscribers may join: it holds what the log holds, in the same
-- lane, with the same generation and size
abbrev pub FoundAs : LogView → List ℕ → List ℕ → Type 0
FoundAs l a b = lanes_text l.state.late a b ≡ Ok (found_of l)

-- how the lane stands that is not present, the first one of the two or the second, beside one of a generation
abbrev pub IsAside : Aside → Bool → ℕ → List ℕ → Type 0
IsAside Short first g bytes = length bytes ≤ 6
IsAside Opened first g bytes = (6 < length bytes) × (get_or bytes 5 0 ≡ 1)
    × ((standing_of first bytes ≡ Ok Old) ⊎ ((h : ℕ) × (h < g) × (standing_of first bytes ≡ Ok (New h))))
IsAside Closed first g bytes = (6 < length bytes) × (get_or bytes 5 0 ≢ 1)

-- Two lanes hold a log, and a crash leaves nothing else.
pub record Stands (ls : Lanes) (l : LogView) : Type 0 where
  pub base : Base
  pub records : List Record
  pub text : IsText l.state.late (content (present l ls)) base records
  pub state : state_from (begun l.state.late base) records ≡ l.state
  pub generation : base.generation ≡ l.generation
  pub size : length (front_of base ++ blocks records) + 1 ≡ l.size
  pub aside : IsAside l.aside l.second l.generation (content (other l ls))
  pub only : LeavesOnly (present l ls) (content (present l ls))
  pub only_aside : LeavesOnly (other l ls) (content (other l ls))

-- a log that is not broken stands in its lanes
abbrev pub IsReady : LogView → Lanes → Type 0
IsReady l ls = l.broken ≡ false → Stands ls l

-- The laws: each pair that a crash may leave of them holds what the log holds, and stands for the log

abbrev pub StandsRead : Type 0
StandsRead = (ls : Lanes) (l : LogView) (a b : List ℕ) → Stands ls l → MayLeavePair ls a b → ReadsAs l.state a b

abbrev pub StandsFound : Type 0
StandsFound = (ls : Lanes) (l : LogView) (a b : List ℕ) → Stands ls l → MayLeavePair ls a b → FoundAs l a b
