-- The groups of a journal as they are noted: what came and what was offered then, in turn, each datagram by its number
use Rattle.std.specs.Prelude.{ℕ, ◌+◌, ◌<◌, Bool, true, false, if◌then◌else◌, List, [], ◌∷◌, ◌++◌, get_or, set, map}
use Rattle.std.specs.Prelude.{drop, Option, Some, None, option_map, IfSome, Vec}
use Rattle.std.specs.List.{position_or_len}
use Rattle.std.specs.declared.alloc.Global.{Global}
use Rattle.gr_audit.specs.declared.mark.Mark.{Mark}
use Rattle.gr_audit.specs.declared.mark.Mark.TheVariants.{Arrives, Offers}
use Rattle.gr_audit.specs.Joint.{Key, same_key, has, Link, lesser_line}

-- Datagrams by their numbers

abbrev pub keys_seen : List (ℕ × Vec ℕ Global) → List Key
keys_seen keys = map (λ k. (k.0, k.1.items)) keys

-- with one more at the end, if it is new
abbrev pub with_key : List Key → Key → List Key
with_key keys k = if has keys k then keys else keys ++ k ∷ []

-- the number of a datagram: its place, or the next one
abbrev pub key_number : List Key → Key → ℕ
key_number keys k = position_or_len (same_key k) keys

abbrev pub key_at : List Key → ℕ → Key
key_at keys n = get_or keys n (0, [])

-- Groups

-- what is offered before the next arrival
abbrev pub offers_of : List Key → List Mark → List Key
offers_of keys [] = []
offers_of keys (Arrives line needs ∷ marks) = []
offers_of keys (Offers key ∷ marks) = key_at keys key ∷ offers_of keys marks

-- an arrival begins a group, and an offer belongs to the last one
abbrev pub links_in : List Key → List Mark → List Link
links_in keys [] = []
links_in keys (Arrives line needs ∷ marks) =
    record { line = line; needs = option_map (key_at keys) needs; gives = offers_of keys marks } ∷ links_in keys marks
links_in keys (Offers key ∷ marks) = links_in keys marks

-- a mark names no datagram past so many
abbrev pub IsBelow : ℕ → Mark → Type 0
IsBelow n (Arrives line needs) = IfSome needs (λ key. key < n)
IsBelow n (Offers key) = key < n

-- By numbers alone, with a flag for each datagram that was offered

-- the group that begins here can go
abbrev pub ready_at : List Bool → List Mark → Bool
ready_at flags [] = false
ready_at flags (Arrives line None ∷ marks) = true
ready_at flags (Arrives line (Some key) ∷ marks) = get_or flags key false
ready_at flags (Offers key ∷ marks) = false

-- the first journal whose group can go, where the first of these is journal k
abbrev pub ready_from : ℕ → List Bool → List (List Mark) → Option ℕ
ready_from k flags [] = None
ready_from k flags (rest ∷ rests) = if ready_at flags rest then Some k else ready_from (k + 1) flags rests

-- what is offered before the next arrival is offered from now on
abbrev pub with_offers : List Bool → List Mark → List Bool
with_offers flags [] = flags
with_offers flags (Arrives line needs ∷ marks) = flags
with_offers flags (Offers key ∷ marks) = with_offers (set flags key true) marks

-- from the next arrival on
abbrev pub behind_offers : List Mark → List Mark
behind_offers [] = []
behind_offers (Arrives line needs ∷ marks) = Arrives line needs ∷ marks
behind_offers (Offers key ∷ marks) = behind_offers marks

-- what is left of journals behind these places
abbrev pub rests_of : List (List Mark) → List ℕ → List (List Mark)
rests_of [] places = []
rests_of (marks ∷ journals) [] = []
rests_of (marks ∷ journals) (place ∷ places) = drop place marks ∷ rests_of journals places

-- the line of the group that begins here
abbrev pub first_line : List Mark → Option ℕ
first_line [] = None
first_line (Arrives line needs ∷ marks) = Some line
first_line (Offers key ∷ marks) = None

abbrev pub next_line_of : List (List Mark) → Option ℕ
next_line_of [] = None
next_line_of (rest ∷ rests) = lesser_line (first_line rest) (next_line_of rests)
