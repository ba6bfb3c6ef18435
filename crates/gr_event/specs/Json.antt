-- Events as JSON, by the meaning that `serde_json` gives to bytes
use Rattle.std.specs.Prelude.{ℕ, ℤ, ◌||◌, ◌==◌, nat_lt, if◌then◌else◌, List, [], ◌∷◌, length, Option, Some, None}
use Rattle.std.specs.Prelude.{Result, Ok, Err}
use Rattle.std.specs.Str.{is_utf8}
use Rattle.std.specs.Fmt.{signed_decimal}
use Rattle.json.specs.Token as token
use Rattle.json.specs.Token.{Token}
use Rattle.serde_json.specs.Data.{Data, null, boolean, number, string, array, object, Members, no_members, member}
use Rattle.serde_json.specs.Read.{read}
use Rattle.serde_json.specs.Find.{as_i64, of_integer}
use Rattle.serde_json.specs.Events.{members_len}
use Rattle.serde_json.specs.Written.{compact_text}
use Rattle.gr_event.specs.declared.limits.TheConstants.{MAX_PAIRS, MAX_NAME, MAX_TEXT, MAX_EVENT_BYTES}
use Rattle.gr_event.specs.declared.value.Value.{Value}
use Rattle.gr_event.specs.declared.value.Value.TheVariants.{Int, Text, Bool as Truth}
use Rattle.gr_event.specs.declared.event.Event.{Event}
use Rattle.gr_event.specs.declared.event.EventFault.{EventFault}
use Rattle.gr_event.specs.declared.event.EventFault.TheVariants as fault
use Rattle.gr_event.specs.Event.{event_size}
use Rattle.gr_event.specs.Gives.{◌>>=◌}

-- Writing

abbrev pub data_of : Value → Data
data_of (Int z) = number (of_integer z)
data_of (Text t) = string t
data_of (Truth b) = boolean b

abbrev pub members_of : Event → Members
members_of [] = no_members
members_of (p ∷ ps) = member p.0 (data_of p.1) (members_of ps)

-- the object that an event is
abbrev pub json_of : Event → Data
json_of e = object (members_of e)

-- the compact text of an event: its object without spaces
unfoldable pub json_text : Event → List ℕ
json_text e = compact_text (json_of e)

-- the one token that is a value
abbrev pub value_token : Value → Token
value_token (Int z) = token.number (signed_decimal z)
value_token (Text t) = token.string t
value_token (Truth b) = token.boolean b

-- the tokens of the members, with the closing bracket
abbrev pub members_tokens_of : Event → List Token
members_tokens_of [] = token.end_object ∷ []
members_tokens_of (p ∷ ps) = token.key p.0 ∷ value_token p.1 ∷ members_tokens_of ps

-- the tokens of the object that an event is
abbrev pub event_tokens : Event → List Token
event_tokens e = token.begin_object ∷ members_tokens_of e

-- Reading, with the first fault: too many names, then name by name in byte order, last the size in bytes

-- an integer within 64 bits signed
abbrev pub integer_from : Option ℤ → Result Value EventFault
integer_from None = Err fault.BadValue
integer_from (Some z) = Ok (Int z)

abbrev pub text_from : List ℕ → Result Value EventFault
text_from s = if nat_lt MAX_TEXT (length s) then Err fault.TooLong else Ok (Text s)

abbrev pub value_from : Data → Result Value EventFault
value_from null = Err fault.BadValue
value_from (boolean b) = Ok (Truth b)
value_from (number n) = integer_from (as_i64 n)
value_from (string s) = text_from s
value_from (array ds) = Err fault.BadValue
value_from (object ms) = Err fault.BadValue

abbrev pub name_from : List ℕ → Result (List ℕ) EventFault
name_from k = if length k == 0 || nat_lt MAX_NAME (length k) then Err fault.BadName else Ok k

abbrev pub pair_from : List ℕ → Data → Result (List ℕ × Value) EventFault
pair_from k d = do
  name ← name_from k
  value ← value_from d
  Ok (name, value)

unfoldable pub pairs_from : Members → Result Event EventFault
pairs_from no_members = Ok []
pairs_from (member k d ms) = do
  pair ← pair_from k d
  rest ← pairs_from ms
  Ok (pair ∷ rest)

-- the form in bytes has at most 8,192
abbrev pub short_event : Event → Result Event EventFault
short_event e = if nat_lt MAX_EVENT_BYTES (event_size e) then Err fault.TooLong else Ok e

-- the event that a JSON value is
unfoldable pub event_from : Data → Result Event EventFault
event_from (object ms) = if nat_lt MAX_PAIRS (members_len ms) then Err fault.TooMany
    else (pairs_from ms >>= short_event)
event_from _ = Err fault.NotObject

abbrev pub event_of_read : Option Data → Result Event EventFault
event_of_read None = Err fault.NotJson
event_of_read (Some d) = event_from d

-- the JSON value that the bytes are, if they are one
abbrev pub json_read : List ℕ → Option Data
json_read bytes = if is_utf8 bytes then read bytes else None

-- the event that the bytes stand for, or the first fault
unfoldable pub event_text : List ℕ → Result Event EventFault
event_text bytes = event_of_read (json_read bytes)
