-- The scenario of a soak, as a text: a tree of seven brokers with twelve filters, and n turns of steps over it
use Rattle.std.specs.Prelude.{ℕ, ◌+◌, ◌*◌, ◌/◌, ◌%◌, ◌^◌, zero, suc, nat_eq, if◌then◌else◌, List, [], ◌∷◌, ◌++◌, map}
use Rattle.std.specs.Prelude.{get_or, flat_map, codes}
use Rattle.std.specs.List.{join_by}
use Rattle.std.specs.Fmt.{decimal}
use Rattle.gr_model.specs.Net.{numbers}

-- The topology

abbrev pub brokers : List (List ℕ)
brokers = codes "B0" ∷ codes "B1" ∷ codes "B2" ∷ codes "B3" ∷ codes "B4" ∷ codes "B5" ∷ codes "B6" ∷ []

-- each broker has two below it
abbrev pub links : List (List (List ℕ))
links =
    (codes "B0" ∷ codes "B1" ∷ [])
    ∷ (codes "B0" ∷ codes "B2" ∷ [])
    ∷ (codes "B1" ∷ codes "B3" ∷ [])
    ∷ (codes "B1" ∷ codes "B4" ∷ [])
    ∷ (codes "B2" ∷ codes "B5" ∷ [])
    ∷ (codes "B2" ∷ codes "B6" ∷ [])
    ∷ []

-- in square brackets, with a comma between each two
abbrev pub array_text : List (List ℕ) → List ℕ
array_text items = codes "[" ++ (join_by (λ item. item) (codes ", ") items ++ codes "]")

-- names in quotes, as an array
abbrev pub names_text : List (List ℕ) → List ℕ
names_text names = array_text (map (λ name. codes "\"" ++ name ++ codes "\"") names)

abbrev pub tree_text : List ℕ
tree_text =
    codes "brokers = " ++ (names_text brokers ++ (codes "\nlinks = " ++ (array_text (map names_text links)
    ++ codes "\n")))

-- a publisher at a broker
abbrev pub publisher_text : List ℕ → List ℕ → List ℕ
publisher_text name broker =
    codes "[[publisher]]\nname = \"" ++ (name ++ (codes "\"\nat = \"" ++ (broker ++ codes "\"\n")))

-- the words that events have and filters ask for, by number from 0
abbrev pub words : List (List ℕ)
words = codes "IBM" ∷ codes "ACME" ∷ codes "ORCA" ∷ codes "PINE" ∷ []

unfoldable pub word : ℕ → List ℕ
word w = get_or words w []

-- subscriber i, at one of the four leaves
unfoldable pub name_text : ℕ → List ℕ
name_text i = codes "name = \"S" ++ (decimal i ++ codes "\"\n")

unfoldable pub leaf_text : ℕ → List ℕ
leaf_text i = codes "at = \"B" ++ (decimal (3 + i % 4) ++ codes "\"\n")

unfoldable pub sym_text : ℕ → List ℕ
sym_text i = codes "sym = '" ++ (word (i % 4) ++ codes "'")

unfoldable pub price_text : ℕ → List ℕ
price_text i = codes " AND price > " ++ (decimal (15 * i) ++ codes "\"\n")

unfoldable pub subscriber_text : ℕ → List ℕ
subscriber_text i =
    codes "[[subscriber]]\n" ++ (name_text i ++ (leaf_text i ++ (codes "filter = \"" ++ (sym_text i ++ price_text i))))

abbrev pub topology_text : List ℕ
topology_text =
    tree_text ++ (publisher_text (codes "P") (codes "B0") ++ (publisher_text (codes "Q") (codes "B1")
    ++ flat_map subscriber_text (numbers 12)))

-- The draws

-- x after a draw, and after so many draws
unfoldable pub stirred : ℕ → ℕ
stirred x = (x * 6364136223846793005 + 1442695040888963407) % 2 ^ 64

unfoldable pub after : ℕ → ℕ → ℕ
after x zero = x
after x (suc d) = stirred (after x d)

-- what draw d from x on gives below k, d from 1
abbrev pub drawn : ℕ → ℕ → ℕ → ℕ
drawn x d k = (after x d / 2 ^ 33) % k

-- The steps

unfoldable pub clock_text : ℕ → List ℕ
clock_text i = codes "clock " ++ (decimal (100 * i) ++ codes "\n")

-- publish i of all, by P and Q in turn
unfoldable pub publisher_at : ℕ → List ℕ
publisher_at i = if nat_eq (i % 2) 1 then codes "P" else codes "Q"

unfoldable pub publish_text : ℕ → ℕ → ℕ → ℕ → List ℕ
publish_text i price qty w =
    codes "publish " ++ (publisher_at i ++ (codes " " ++ (decimal ((i + 1) / 2) ++ (codes " {\"price\":"
    ++ (decimal price ++ (codes ",\"qty\":" ++ (decimal qty ++ (codes ",\"sym\":\"" ++ (word w
    ++ codes "\"}\n")))))))))

-- eight of the frames that may have been sent by turn i, each drawn from x on
unfoldable pub deliver_text : ℕ → List ℕ
deliver_text frame = codes "deliver " ++ (decimal frame ++ codes "\n")

abbrev pub delivers_text : ℕ → ℕ → List ℕ
delivers_text i x = flat_map (λ d. deliver_text (1 + drawn x (d + 1) (6 * i))) (numbers 8)

-- the leaves are woken at each tenth turn
abbrev pub wakes_text : ℕ → List ℕ
wakes_text i = if nat_eq (i % 10) 0 then codes "wake B3\nwake B4\nwake B5\nwake B6\n" else []

-- one crash a third of the way, and one at two thirds
abbrev pub first_crash_text : ℕ → ℕ → List ℕ
first_crash_text n i = if nat_eq i (n / 3) then codes "crash B1\n" else []

abbrev pub second_crash_text : ℕ → ℕ → List ℕ
second_crash_text n i = if nat_eq i (2 * n / 3) then codes "crash B0\n" else []

-- turn i of n, with x as it stands before its draws: three for the event, and then one for each frame
unfoldable pub turn_text : ℕ → ℕ → ℕ → List ℕ
turn_text n i x =
    clock_text i ++ (publish_text i (drawn x 1 200) (drawn x 2 1000) (drawn x 3 4) ++ (delivers_text i (after x 3)
    ++ (wakes_text i ++ (first_crash_text n i ++ second_crash_text n i))))

-- turn i is the one with i - 1 before it, and each makes eleven draws, from n on
abbrev pub turns_text : ℕ → List ℕ
turns_text n = flat_map (λ k. turn_text n (k + 1) (after n (11 * k))) (numbers n)

-- The scenario

unfoldable pub soak_text : ℕ → List ℕ
soak_text n = topology_text ++ (codes "---\n" ++ (turns_text n ++ codes "sweep\nshow\n"))
