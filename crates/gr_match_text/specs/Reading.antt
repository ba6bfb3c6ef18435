-- The match text that bytes are, or why they are none
use Rattle.std.specs.Prelude.{ℕ, ◌+◌, nat_lt, nat_le, not, if◌then◌else◌, List, [], ◌∷◌, ◌++◌, length, bytes_eq, Result}
use Rattle.std.specs.Prelude.{Ok, Err}
use Rattle.std.specs.List.{list_any}
use Rattle.gr_event.specs.declared.event.Event.{Event}
use Rattle.gr_event.specs.declared.event.EventFault.{EventFault}
use Rattle.gr_event.specs.Json.{event_text}
use Rattle.gr_filter.specs.declared.fault.FilterFault.{FilterFault}
use Rattle.gr_filter.specs.Grammar.{filter_text}
use Rattle.gr_filter.specs.Tree.{Tree}
use Rattle.gr_sched.specs.declared.step.TheConstants.{MAX_INPUT_BYTES, MAX_STEPS}
use Rattle.gr_sched.specs.Text.{pieces_of, before_separator, after_separator, counted_after, counted_lines}
use Rattle.gr_sched.specs.Words.{trimmed, first_word, after_word}
use Rattle.gr_topo.specs.Names.{is_name}
use Rattle.gr_match_text.specs.declared.asked.Asked.{Asked}
use Rattle.gr_match_text.specs.declared.asked.Asked.TheVariants.{TooManyBytes, TooManyLines, Refused, Matching}
use Rattle.gr_match_text.specs.declared.fault.MatchFault.{MatchFault}
use Rattle.gr_match_text.specs.declared.fault.MatchFault.TheVariants.{BadFilter, BadEvent, TooMany, BadName, Twice}
use Rattle.gr_match_text.specs.declared.filter_list.TheConstants.{MAX_FILTERS}
use Rattle.gr_match_text.specs.Gives.{◌>>=◌}
use Rattle.gr_match_text.specs.Matching.{NamedFilter, filter_names}
use Rattle.gr_match_text.specs.Refusals.{match_line}

-- Filters

abbrev pub filter_or_fault : ℕ → Result Tree FilterFault → Result Tree MatchFault
filter_or_fault n (Ok tree) = Ok tree
filter_or_fault n (Err why) = Err (BadFilter n why)

-- the filter of line n, or its fault
abbrev pub filter_of : ℕ → List ℕ → Result Tree MatchFault
filter_of n text = filter_or_fault n (filter_text text)

-- the filters so far with that of a counted line, a name and what follows it, or its first fault: there are as many as
-- there may be; no name; the name of a filter before it; no filter
abbrev pub with_filter : List NamedFilter → ℕ → List ℕ → Result (List NamedFilter) MatchFault
with_filter found n line =
    let name = first_word (trimmed line) in
    if nat_le MAX_FILTERS (length found) then Err (TooMany n)
    else if not (is_name name) then Err (BadName n)
    else if list_any (bytes_eq name) (filter_names found) then Err (Twice n)
    else (filter_of n (after_word (trimmed line)) >>= λ tree. Ok (found ++ (name, tree) ∷ []))

-- the filters so far and those of counted lines, or the first fault
abbrev pub filters_of : List NamedFilter → List (ℕ × List ℕ) → Result (List NamedFilter) MatchFault
filters_of found [] = Ok found
filters_of found (counted ∷ more) = with_filter found counted.0 counted.1 >>= λ next. filters_of next more

-- Events

abbrev pub event_or_fault : ℕ → Result Event EventFault → Result Event MatchFault
event_or_fault n (Ok event) = Ok event
event_or_fault n (Err why) = Err (BadEvent n why)

-- the event of line n, or its fault
abbrev pub event_of : ℕ → List ℕ → Result Event MatchFault
event_of n line = event_or_fault n (event_text line)

-- the events so far and those of counted lines, or the first fault
abbrev pub events_of : List Event → List (ℕ × List ℕ) → Result (List Event) MatchFault
events_of found [] = Ok found
events_of found (counted ∷ more) = event_of counted.0 counted.1 >>= λ event. events_of (found ++ event ∷ []) more

-- What is asked

-- the events that were read behind filters, or their first fault
abbrev pub asked_of_events : List NamedFilter → Result (List Event) MatchFault → Asked
asked_of_events filters (Ok events) = Matching filters events
asked_of_events filters (Err why) = Refused (match_line why)

-- the filters that were read and then the events of these lines, or the first fault
abbrev pub asked_of_filters : Result (List NamedFilter) MatchFault → List (ℕ × List ℕ) → Asked
asked_of_filters (Ok filters) lines = asked_of_events filters (events_of [] lines)
asked_of_filters (Err why) lines = Refused (match_line why)

-- the counted lines behind the separator, which is a line too. Lines count from the first line of the whole text
abbrev pub event_lines : List ℕ → List ℕ → List (ℕ × List ℕ)
event_lines front back = counted_after (length (pieces_of front) + 1) (pieces_of back)

-- what the part before the separator and the part behind it ask
abbrev pub asked_of_parts : List ℕ → List ℕ → Asked
asked_of_parts front back = asked_of_filters (filters_of [] (counted_lines front)) (event_lines front back)

-- what the bytes ask: they are too many, or their counted lines behind the separator are; else the part before the
-- separator is filters with their names, and the part behind it events
abbrev pub asked_by : List ℕ → Asked
asked_by bytes =
    if nat_lt MAX_INPUT_BYTES (length bytes) then TooManyBytes
    else if nat_lt MAX_STEPS (length (counted_lines (after_separator (pieces_of bytes)))) then TooManyLines
    else asked_of_parts (before_separator (pieces_of bytes)) (after_separator (pieces_of bytes))

-- a size is why the bytes are refused
abbrev pub IsTooLarge : Asked → Type 0
IsTooLarge TooManyBytes = Unit {0}
IsTooLarge TooManyLines = Unit {0}
IsTooLarge (Refused line) = ⊥
IsTooLarge (Matching filters events) = ⊥
