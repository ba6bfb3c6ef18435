-- The candidates: for each name of two filters the values that tell its literals apart, and the events of such values
use Rattle.std.specs.Prelude.{ℕ, zero, suc, ◌+◌, ◌-◌, ◌*◌, ◌^◌, min, nat_le, ℤ, pos, negsuc, ◌+ℤ◌, ◌-ℤ◌, Bool, true}
use Rattle.std.specs.Prelude.{false, if◌then◌else◌, List, [], ◌∷◌, ◌++◌, length, map, Option, Some, None, bytes_eq}
use Rattle.std.specs.Prelude.{filter, int_lt}
use Rattle.std.specs.List.{flat_map, list_any}
use Rattle.std.specs.Option.{is_some}
use Rattle.std.specs.Ordering.{bool_cmp, nat_cmp, int_cmp}
use Rattle.std.specs.declared.cmp.Ordering.{Ordering}
use Rattle.std.specs.declared.cmp.Ordering.TheVariants.{Less, Equal, Greater}
use Rattle.std.specs.Cmp.Lexicographic.{slice_cmp}
use Rattle.gr_event.specs.declared.event.Event.{Event}
use Rattle.gr_event.specs.declared.limits.TheConstants.{MAX_NAME, MAX_TEXT}
use Rattle.gr_event.specs.declared.value.Value.{Value}
use Rattle.gr_event.specs.declared.value.Value.TheVariants.{Int, Text, Bool as Truth}
use Rattle.gr_event.specs.Event.{same_value}
use Rattle.gr_cover.specs.declared.mention.Mention.{Mention}
use Rattle.gr_cover.specs.declared.attribute.Attribute.{Attribute}

-- Rising lists

-- truth values, then integers, then texts, each in their own order
abbrev pub value_cmp : Value → Value → Ordering
value_cmp (Truth a) (Truth b) = bool_cmp a b
value_cmp (Int a) (Int b) = int_cmp a b
value_cmp (Text a) (Text b) = slice_cmp nat_cmp a b
value_cmp (Truth a) _ = Less
value_cmp (Int a) (Text b) = Less
value_cmp _ _ = Greater

-- x in its place in a rising list, once
abbrev pub inserted : {X : Type 0} → (X → X → Ordering) → X → List X → List X
inserted cmp x [] = x ∷ []
inserted cmp x (y ∷ ys) =
    elim (cmp x y) [ Less ↦ x ∷ y ∷ ys | Equal ↦ y ∷ ys | Greater ↦ y ∷ inserted cmp x ys ]

-- all of the second list put into the first
abbrev pub with_all : {X : Type 0} → (X → X → Ordering) → List X → List X → List X
with_all cmp ys [] = ys
with_all cmp ys (x ∷ xs) = with_all cmp (inserted cmp x ys) xs

-- The candidates of a name

abbrev pub least_integer : ℤ
least_integer = negsuc 9223372036854775807

abbrev pub greatest_integer : ℤ
greatest_integer = pos 9223372036854775807

-- the integer before k and the one behind it, within 64 bits
abbrev pub before : ℤ → List Value
before k = if int_lt least_integer k then Int (k -ℤ pos 1) ∷ [] else []

abbrev pub behind : ℤ → List Value
behind k = if int_lt k greatest_integer then Int (k +ℤ pos 1) ∷ [] else []

-- an integer and its neighbours
abbrev pub near : ℤ → List Value
near k = before k ++ Int k ∷ behind k

-- what a literal gives: an integer and its neighbours, or a text that an event can have
abbrev pub values_near : Option Value → List Value
values_near (Some (Int k)) = near k
values_near (Some (Text t)) = if nat_le (length t) MAX_TEXT then Text t ∷ [] else []
values_near _ = []

abbrev pub values_at : List ℕ → Mention → List Value
values_at n m = if bytes_eq m.name n then values_near m.literal else []

-- the truth values, and what the literals give that the name is compared with
abbrev pub known : List Mention → List ℕ → List Value
known ms n = with_all value_cmp (Truth false ∷ Truth true ∷ []) (flat_map (values_at n) ms)

abbrev pub is_integer : Value → Bool
is_integer (Int z) = true
is_integer _ = false

-- 0 where there is no integer
abbrev pub with_zero : List Value → List Value
with_zero vs = if list_any is_integer vs then vs else inserted value_cmp (Int (pos 0)) vs

-- the first that is no value, of so many texts: t, and t with one letter x and more behind it
unfoldable pub spare_from : ℕ → List ℕ → List Value → Option (List ℕ)
spare_from zero t vs = None
spare_from (suc n) t vs = if list_any (same_value (Text t)) vs then spare_from n (t ++ 120 ∷ []) vs else Some t

-- the shortest text of 1 to 1,024 letters x that is no value
unfoldable pub spare : List Value → Option (List ℕ)
spare vs = spare_from MAX_TEXT (120 ∷ []) vs

abbrev pub with_text : Option (List ℕ) → List Value → List Value
with_text None vs = vs
with_text (Some t) vs = inserted value_cmp (Text t) vs

-- a name with its candidates besides absence, and whether there is a text among them that is no literal
abbrev pub attribute : List Mention → List ℕ → Attribute
attribute ms n =
    let vs = known ms n in
    record { name = n; values = with_text (spare vs) (with_zero vs); has_spare = is_some (spare vs) }

-- a name that an event can have
abbrev pub is_short : List ℕ → Bool
is_short n = nat_le (length n) MAX_NAME

abbrev pub short_names : List Mention → List (List ℕ)
short_names ms = filter is_short (map (λ (m : Mention). m.name) ms)

-- the names that an event can have, rising, each once
abbrev pub names_of : List Mention → List (List ℕ)
names_of ms = with_all (slice_cmp nat_cmp) [] (short_names ms)

-- the names with their candidates; a longer name is absent from every event
abbrev pub attributes : List Mention → List Attribute
attributes ms = map (attribute ms) (names_of ms)

-- The events

-- in how many ways a name is tried: it is absent or has one of its values. Without a text that is no literal these do
-- not tell, and it counts as the greatest number of 64 bits. No filter that is read from a text has such a name: its
-- 1,024 literals of letters x would be too long
abbrev pub choices : Attribute → ℕ
choices a = if a.has_spare then 1 + length a.values else 2 ^ 64 - 1

-- how many events there are: each name is tried in each way
abbrev pub events_count : List Attribute → ℕ
events_count [] = 1
events_count (a ∷ rest) = choices a * events_count rest

-- that number, up to the greatest of 64 bits
abbrev pub parts : List Attribute → ℕ
parts names = min (events_count names) (2 ^ 64 - 1)

-- the events that go on from some pairs by the names: first without a name, then with each of its values
abbrev pub events_from : Event → List Attribute → List Event
events_from ps [] = ps ∷ []
events_from ps (a ∷ rest) =
    events_from ps rest ++ flat_map (λ v. events_from (ps ++ (a.name, v) ∷ []) rest) a.values

-- the candidates, the last name changing fastest
abbrev pub candidates : List Attribute → List Event
candidates names = events_from [] names
