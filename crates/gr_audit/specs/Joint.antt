-- The joint order of journals: a group can go once the datagram that began it was offered
use Rattle.std.specs.Prelude.{◌≡◌, ◌↔◌, ◌≤◌, ℕ, zero, suc, ◌+◌, ◌&&◌, min, Bool, true, false, nat_eq, if◌then◌else◌}
use Rattle.std.specs.Prelude.{List, [], ◌∷◌, ◌++◌, length, get_or, set, Option, Some, None, option_map, bytes_eq}
use Rattle.std.specs.List.{list_any}

-- a datagram as it is offered: the broker that it goes to, and its bytes
abbrev pub Key : Type 0
Key = ℕ × List ℕ

abbrev pub same_key : Key → Key → Bool
same_key a b = nat_eq a.0 b.0 && bytes_eq a.1 b.1

-- a group: the line of its arrival, the datagram that has to be offered first, and the datagrams that it offers
pub record Link : Type 0 where
  pub line : ℕ
  pub needs : Option Key
  pub gives : List Key

-- what was offered so far, and the groups of each journal that have not gone
pub record State : Type 0 where
  pub offered : List Key
  pub left : List (List Link)

-- before any group goes
abbrev pub begun : List (List Link) → State
begun journals = record { offered = []; left = journals }

abbrev pub has : List Key → Key → Bool
has keys k = list_any (same_key k) keys

-- nothing is needed, or it was offered
abbrev pub can_go : List Key → Link → Bool
can_go offered l = elim l.needs [ None ↦ true | Some k ↦ has offered k ]

abbrev pub head_goes : List Key → List Link → Bool
head_goes offered [] = false
head_goes offered (l ∷ ls) = can_go offered l

-- the first journal whose next group can go
abbrev pub first_ready : List Key → List (List Link) → Option ℕ
first_ready offered [] = None
first_ready offered (j ∷ js) =
    if head_goes offered j then Some 0 else option_map (λ n. suc n) (first_ready offered js)

abbrev pub go_by : State → ℕ → List Link → State
go_by s i [] = s
go_by s i (l ∷ ls) = record { offered = l.gives ++ s.offered; left = set s.left i ls }

-- the next group of this journal goes
abbrev pub go_at : State → ℕ → State
go_at s i = go_by s i (get_or s.left i [])

-- how many groups have not gone
abbrev pub total : List (List Link) → ℕ
total [] = 0
total (j ∷ js) = length j + total js

-- The joint order

-- at each turn the next group of the first journal whose next group can go, for so many turns at most
unfoldable pub joint_end : ℕ → State → State
joint_end zero s = s
joint_end (suc turns) s = elim (first_ready s.offered s.left) [ None ↦ s | Some i ↦ joint_end turns (go_at s i) ]

-- the journal of each turn
unfoldable pub joint_order : ℕ → State → List ℕ
joint_order zero s = []
joint_order (suc turns) s =
    elim (first_ready s.offered s.left) [ None ↦ [] | Some i ↦ i ∷ joint_order turns (go_at s i) ]

-- the lesser of two lines that may be there
abbrev pub lesser_line : Option ℕ → Option ℕ → Option ℕ
lesser_line None other = other
lesser_line (Some line) None = Some line
lesser_line (Some line) (Some least) = Some (min line least)

abbrev pub head_line : List Link → Option ℕ
head_line [] = None
head_line (l ∷ ls) = Some l.line

-- the least line among the next groups of journals
abbrev pub next_line : List (List Link) → Option ℕ
next_line [] = None
next_line (j ∷ js) = lesser_line (head_line j) (next_line js)

-- where every group that can go has gone: the least line of an arrival that stays
abbrev pub stays : List (List Link) → Option ℕ
stays journals = next_line (joint_end (total journals) (begun journals)).left

-- Any order

-- groups go in this order of their journals, each where it can
abbrev pub MayGo : State → List ℕ → Type 0
MayGo s [] = Unit {0}
MayGo s (i ∷ order) = (head_goes s.offered (get_or s.left i []) ≡ true) × MayGo (go_at s i) order

abbrev pub after : State → List ℕ → State
after s [] = s
after s (i ∷ order) = after (go_at s i) order

-- all groups have gone
abbrev pub AllGone : State → Type 0
AllGone s = (i : ℕ) → get_or s.left i [] ≡ []

-- some order lets all groups go
pub record HasOrder (s : State) : Type 0 where
  pub order : List ℕ
  pub may : MayGo s order
  pub gone : AllGone (after s order)

-- the first has gone at least as far as the second in every journal
pub record IsAhead (e s : State) : Type 0 where
  pub front : ℕ → List Link
  pub is : (i : ℕ) → get_or s.left i [] ≡ front i ++ get_or e.left i []

-- no order goes further than the joint order, in any journal
abbrev pub GoesFurthest : Type 0
GoesFurthest = (turns : ℕ) (s : State) (order : List ℕ) → total s.left ≤ turns → MayGo s order
    → IsAhead (joint_end turns s) (after s order)

-- the joint order is one in which each group can go, and all go in it exactly where they do in some order
abbrev pub JointIsExact : Type 0
JointIsExact = (turns : ℕ) (s : State) → total s.left ≤ turns → MayGo s (joint_order turns s)
    × (after s (joint_order turns s) ≡ joint_end turns s) × (AllGone (joint_end turns s) ↔ HasOrder s)

-- no arrival stays exactly where some order lets all groups go
abbrev pub StaysIsExact : Type 0
StaysIsExact = (journals : List (List Link)) → (stays journals ≡ None) ↔ HasOrder (begun journals)
