-- Links between numbered nodes, walks over them, and where each node stands, seen from a root
use Rattle.std.specs.Prelude.{◌≡◌, ◌⊎◌, ℕ, zero, suc, ◌+◌, ◌-◌, ◌<◌, Bool, true, false, ◌&&◌, ◌||◌, nat_eq, nat_lt}
use Rattle.std.specs.Prelude.{if◌then◌else◌, List, [], ◌∷◌, length, map, Option, Some, None}
use Rattle.std.specs.List.{list_any, list_all}
use Rattle.gr_tree.specs.declared.link.Link.{Link}
use Rattle.gr_tree.specs.declared.link.Place.{Place}

-- so many numbers in a row, from the first on
abbrev pub numbers_from : ℕ → ℕ → List ℕ
numbers_from n zero = []
numbers_from n (suc k) = n ∷ numbers_from (suc n) k

-- 0, 1, .. below a number
abbrev pub numbers : ℕ → List ℕ
numbers n = numbers_from 0 n

-- the first number that passes a test, of so many in a row
abbrev pub first_number : (ℕ → Bool) → ℕ → ℕ → Option ℕ
first_number test from zero = None
first_number test from (suc more) = if test from then Some from else first_number test (suc from) more

-- the least number that passes a test, or the end of the row
abbrev pub least_number : (ℕ → Bool) → ℕ → ℕ → ℕ
least_number test from zero = from
least_number test from (suc more) = if test from then from else least_number test (suc from) more

-- ---- walks

-- the link joins a and b, in either order
abbrev pub joins : ℕ → ℕ → Link → Bool
joins a b l = (nat_eq l.one a && nat_eq l.other b) || (nat_eq l.one b && nat_eq l.other a)

-- some link joins a and b
abbrev pub is_linked : List Link → ℕ → ℕ → Bool
is_linked links a b = list_any (joins a b) links

-- links join nodes below n
abbrev pub IsWithin : ℕ → List Link → Type 0
IsWithin n links = (a b : ℕ) → is_linked links a b ≡ true → (a < n) × (b < n)

-- no number stands twice
abbrev pub IsDistinct : List ℕ → Type 0
IsDistinct [] = Unit {0}
IsDistinct (x ∷ xs) = (list_any (λ y. nat_eq y x) xs ≡ false) × IsDistinct xs

-- a walk from a over links, through these nodes after it, that ends at b
abbrev pub IsWalk : List Link → ℕ → List ℕ → ℕ → Type 0
IsWalk links a [] b = a ≡ b
IsWalk links a (c ∷ cs) b = (is_linked links a c ≡ true) × IsWalk links c cs b

-- the one walk from a to b without a repeat
pub record IsOnlyPath (links : List Link) (a : ℕ) (nodes : List ℕ) (b : ℕ) : Type 0 where
  pub walk : IsWalk links a nodes b
  pub distinct : IsDistinct (a ∷ nodes)
  pub only : (others : List ℕ) → IsWalk links a others b → IsDistinct (a ∷ others) → others ≡ nodes

-- a walk of at most k links leads from a to b
unfoldable pub is_reached : ℕ → List Link → ℕ → ℕ → ℕ → Bool
is_reached n links zero a b = nat_eq a b
is_reached n links (suc k) a b = is_reached n links k a b
    || list_any (λ c. is_reached n links k a c && is_linked links c b) (numbers n)

-- there is a node, there is one link fewer than nodes, and every node is reached from the first
unfoldable pub is_tree : ℕ → List Link → Bool
is_tree n links = nat_lt 0 n && (nat_eq (length links + 1) n
    && list_all (λ b. is_reached n links (n - 1) 0 b) (numbers n))

-- ---- places

-- how many links lie between two nodes
unfoldable pub distance : ℕ → List Link → ℕ → ℕ → ℕ
distance n links a b = least_number (λ k. is_reached n links k a b) 0 n

-- the next node from b towards the root: a neighbour that is one link nearer
unfoldable pub up_of : ℕ → List Link → ℕ → ℕ → Option ℕ
up_of n links root b = first_number (λ c. is_linked links b c
    && nat_eq (suc (distance n links root c)) (distance n links root b)) 0 n

abbrev pub place_of : ℕ → List Link → ℕ → ℕ → Place
place_of n links root b = record { up = up_of n links root b; depth = distance n links root b }

-- the places of all nodes, seen from a root
abbrev pub places_of : ℕ → List Link → ℕ → List Place
places_of n links root = map (place_of n links root) (numbers n)

-- the next node and all that follow it
abbrev pub onward : Option ℕ → (ℕ → List ℕ) → List ℕ
onward None more = []
onward (Some u) more = u ∷ more u

-- so many steps up, from a node
abbrev pub steps_up : (ℕ → Option ℕ) → ℕ → ℕ → List ℕ
steps_up up zero b = []
steps_up up (suc k) b = onward (up b) (steps_up up k)

-- the nodes after b on the path from b to the root, the root included
unfoldable pub path_of : ℕ → List Link → ℕ → ℕ → List ℕ
path_of n links root b = steps_up (up_of n links root) (distance n links root b) b

-- a tree, seen from a root
pub record IsRooted (n : ℕ) (links : List Link) (root : ℕ) : Type 0 where
  pub root_in : root < n
  pub no_up : up_of n links root root ≡ None
  pub top : distance n links root root ≡ 0
  pub up_in : (b u : ℕ) → b < n → up_of n links root b ≡ Some u → (u < n) × (is_linked links b u ≡ true)
      × (distance n links root b ≡ suc (distance n links root u))
  pub up_some : (b : ℕ) → b < n → (b ≡ root → ⊥) → (u : ℕ) × (up_of n links root b ≡ Some u)
  pub link_up : (a b : ℕ) → is_linked links a b ≡ true → (up_of n links root a ≡ Some b)
      ⊎ (up_of n links root b ≡ Some a)
  pub depth_in : (b : ℕ) → b < n → distance n links root b < n

-- from each node there is one walk to the root without a repeat: its path
abbrev pub HasOnlyPaths : ℕ → List Link → ℕ → Type 0
HasOnlyPaths n links root = (b : ℕ) → b < n → IsOnlyPath links b (path_of n links root b) root
