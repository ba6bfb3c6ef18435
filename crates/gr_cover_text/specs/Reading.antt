-- The filters that bytes are, or why they are none
use Rattle.std.specs.Prelude.{ℕ, nat_lt, if◌then◌else◌, List, [], ◌∷◌, ◌++◌, length, codes, Option, Some, None}
use Rattle.std.specs.Fmt.{decimal}
use Rattle.gr_sched.specs.Text.{pieces_of, before_separator, after_separator}
use Rattle.gr_match_text.specs.declared.asked.Asked.{Asked as AskedOfMatchText}
use Rattle.gr_match_text.specs.declared.asked.Asked.TheVariants as match_text
use Rattle.gr_match_text.specs.Matching.{NamedFilter}
use Rattle.gr_match_text.specs.Reading.{event_lines, asked_by as match_text_by}
use Rattle.gr_cover_text.specs.declared.asked.Asked.{Asked}
use Rattle.gr_cover_text.specs.declared.asked.Asked.TheVariants.{TooManyBytes, TooManyLines, Refused, Covering}
use Rattle.gr_cover_text.specs.declared.reading.TheConstants.{MAX_COMPARED}

-- the line that refuses an event
abbrev pub event_refusal : ℕ → List ℕ
event_refusal line = codes "cover 2 event line " ++ decimal line

-- the number of the first of these lines
abbrev pub first_number : List (ℕ × List ℕ) → Option ℕ
first_number [] = None
first_number (counted ∷ more) = Some counted.0

abbrev pub asked_of_number : List NamedFilter → Option ℕ → Asked
asked_of_number filters None = Covering filters
asked_of_number filters (Some line) = Refused (event_refusal line)

-- what filters ask, with these counted lines behind the separator
abbrev pub asked_of_filters : List NamedFilter → List (ℕ × List ℕ) → Asked
asked_of_filters filters lines =
    if nat_lt MAX_COMPARED (length filters) then Refused (codes "cover 1 too-many")
    else asked_of_number filters (first_number lines)

abbrev pub asked_of_match_text : AskedOfMatchText → List (ℕ × List ℕ) → Asked
asked_of_match_text match_text.TooManyBytes lines = TooManyBytes
asked_of_match_text match_text.TooManyLines lines = TooManyLines
asked_of_match_text (match_text.Refused line) lines = Refused line
asked_of_match_text (match_text.Matching filters events) lines = asked_of_filters filters lines

-- what the bytes ask: what refuses them as a match text comes first, then that there are too many filters, and then the
-- first counted line behind the separator
abbrev pub asked_by : List ℕ → Asked
asked_by bytes = asked_of_match_text (match_text_by bytes)
    (event_lines (before_separator (pieces_of bytes)) (after_separator (pieces_of bytes)))

-- a size is why the bytes are refused
abbrev pub IsTooLarge : Asked → Type 0
IsTooLarge TooManyBytes = Unit {0}
IsTooLarge TooManyLines = Unit {0}
IsTooLarge (Refused line) = ⊥
IsTooLarge (Covering filters) = ⊥
