-- Two lanes: which of them is present, and what they stand for
use Rattle.std.specs.Prelude.{◌≡◌, ℕ, ◌+◌, Bool, true, false, ◌==◌, nat_lt, if◌then◌else◌, List, Result, Ok, Err}
use Rattle.gr_publog.specs.declared.head.Standing.{Standing}
use Rattle.gr_publog.specs.declared.head.Standing.TheVariants.{Shut, Old, New}
use Rattle.gr_publog.specs.declared.head.Present.{Present}
use Rattle.gr_publog.specs.declared.head.Present.TheVariants.{Neither, First, Second}
use Rattle.gr_publog.specs.State.{LogState, empty_state}
use Rattle.gr_publog.specs.Text.{◌>>=◌, standing_of, text_in, placed_in}

-- which lane is present: the second version goes before the first one, and the greater generation before the lower one
abbrev pub chosen : Standing → Standing → Result Present ℕ
chosen Shut Shut = Ok Neither
chosen Shut Old = Ok (Second Old)
chosen Shut (New h) = Ok (Second (New h))
chosen Old Shut = Ok (First Old)
chosen Old Old = Ok (Second Old)
chosen Old (New h) = Ok (Second (New h))
chosen (New g) Shut = Ok (First (New g))
chosen (New g) Old = Ok (First (New g))
chosen (New g) (New h) = if g == h then Err 6 else (if nat_lt h g then Ok (First (New g)) else Ok (Second (New h)))

-- the heads are tested first, that of the first lane before that of the second one
unfoldable pub present_of : List ℕ → List ℕ → Result Present ℕ
present_of a b = standing_of true a >>= λ x. standing_of false b >>= λ y. chosen x y

-- what two lanes stand for, by what the text of a present lane does
abbrev pub read_by : {X : Type 0} → X → (Standing → List ℕ → Result X ℕ) → List ℕ → List ℕ → Present → Result X ℕ
read_by empty text a b Neither = Ok empty
read_by empty text a b (First x) = text x a
read_by empty text a b (Second y) = text y b

unfoldable pub pair_in : {X : Type 0} → X → (Standing → List ℕ → Result X ℕ) → List ℕ → List ℕ → Result X ℕ
pair_in empty text a b = present_of a b >>= read_by empty text a b

-- what a lane that is read holds, where these subscribers may join
abbrev pub state_text : List ℕ → Standing → List ℕ → Result LogState ℕ
state_text late x bytes = text_in late x bytes >>= λ r. Ok r.0

-- what two lanes hold
abbrev pub state_in : List ℕ → List ℕ → List ℕ → Result LogState ℕ
state_in late a b = pair_in (empty_state late) (state_text late) a b

-- What two lanes stand for.
pub record Found : Type 0 where
  pub version : ℕ  -- 0 where none is open
  pub second : Bool  -- the present lane is the second one
  pub generation : ℕ  -- of the second version, else 0
  pub size : ℕ  -- of the present lane's text, with its closed gate
  pub state : LogState

abbrev pub version_of : Standing → ℕ
version_of Shut = 0
version_of Old = 1
version_of (New g) = 2

abbrev pub generation_of : Standing → ℕ
generation_of Shut = 0
generation_of Old = 0
generation_of (New g) = g

abbrev pub found_as : Standing → Bool → LogState × ℕ → Found
found_as x second r = record {
  version = version_of x;
  second = second;
  generation = generation_of x;
  size = r.1 + 1;
  state = r.0;
}

abbrev pub found_none : List ℕ → Found
found_none late = record { version = 0; second = false; generation = 0; size = 0; state = empty_state late }

abbrev pub found_by : List ℕ → List ℕ → List ℕ → Present → Result Found ℕ
found_by late a b Neither = Ok (found_none late)
found_by late a b (First x) = placed_in late x a >>= λ r. Ok (found_as x false r)
found_by late a b (Second y) = placed_in late y b >>= λ r. Ok (found_as y true r)

-- what two lanes stand for, where these subscribers may join, or the place of the first field that breaks it: of the
-- heads, that of the first lane before that of the second one, and then of the rest of the present lane
unfoldable pub lanes_text : List ℕ → List ℕ → List ℕ → Result Found ℕ
lanes_text late a b = present_of a b >>= found_by late a b

-- The law: what two lanes hold is what they stand for

abbrev pub HoldsWhatIsFound : Type 0
HoldsWhatIsFound = (late a b : List ℕ) → state_in late a b ≡ (lanes_text late a b >>= λ f. Ok f.state)
