-- What holds of every event: its names rise, and all is within the limits of the format
use Rattle.std.specs.Prelude.{ℕ, ◌<◌, ◌≤◌, List, length, map, FitsSigned, IsUtf8, String, string_bytes}
use Rattle.std.specs.declared.alloc.Global.{Global}
use Rattle.std.specs.Int.{w64}
use Rattle.std.specs.List.{AllByRecursion}
use Rattle.std.specs.List.Sorted.{IsStrictlySortedBy}
use Rattle.std.specs.Ordering.{nat_cmp}
use Rattle.std.specs.Cmp.Lexicographic.{slice_cmp}
use Rattle.gr_event.specs.declared.limits.TheConstants.{MAX_PAIRS, MAX_NAME, MAX_TEXT, MAX_EVENT_BYTES}
use Rattle.gr_event.specs.declared.value.Value.{Value}
use Rattle.gr_event.specs.declared.value.Value.TheVariants.{Int, Text, Bool as Truth}
use Rattle.gr_event.specs.declared.event.Event.{Event}
use Rattle.gr_event.specs.Event.{event_size}

-- the names in their order
abbrev pub names : Event → List (List ℕ)
names e = map (λ p. p.0) e

-- the keys of a map as their bytes
abbrev pub key_texts : {X : Type 0} → List (String Global × X) → List (List ℕ)
key_texts es = map (λ m. string_bytes m.0) es

-- each name is below those after it, in byte order
abbrev pub Rise : List (List ℕ) → Type 0
Rise = IsStrictlySortedBy (slice_cmp nat_cmp)

-- a name has 1 to 64 bytes of UTF-8
abbrev pub IsName : List ℕ → Type 0
IsName n = (0 < length n) × (length n ≤ MAX_NAME) × IsUtf8 n

-- an integer has 64 bits, a text at most 1,024 bytes of UTF-8
abbrev pub IsValue : Value → Type 0
IsValue (Int z) = FitsSigned w64 z
IsValue (Text t) = (length t ≤ MAX_TEXT) × IsUtf8 t
IsValue (Truth b) = Unit {0}

abbrev pub IsPair : List ℕ × Value → Type 0
IsPair p = IsName p.0 × IsValue p.1

-- pairs that make an event, if their form in bytes is not too long
pub record ArePairs (e : Event) : Type 0 where
  pub rise : Rise (names e)
  pub few : length e ≤ MAX_PAIRS
  pub each : AllByRecursion IsPair e

-- what holds of every event
pub record IsEvent (e : Event) : Type 0 where
  pub pairs : ArePairs e
  pub short : event_size e ≤ MAX_EVENT_BYTES
