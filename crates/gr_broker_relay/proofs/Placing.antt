-- Where a broker stands does not change while edges are put at the end of those that it has.
use Rattle.std.proofs.Common.{◌≡◌, ℕ, zero, suc, ◌+◌, ◌<◌, ◌≤◌, Bool, true, false, List, [], ◌∷◌, ◌++◌, length, cond, get_or, map, take, refl, sym, ap, ap₂, ◌∙◌, subst, arith}
use Rattle.std.specs.List.{AllByRecursion, filter}
use Rattle.std.proofs.lemmas.List.{map_push, get_or-map, length-map, take_more}
use Rattle.gr_edge.specs.Pass.{Wanting}
use Rattle.gr_tree.specs.Walks.{numbers_from}
use Rattle.gr_model.specs.Net.{numbers, numbers_from as count_from}
use Rattle.gr_topo.specs.Topology.{TopologyView, children_of, below_of, size, is_child_at, passes_by, home_of}
use Rattle.gr_broker_relay.specs.Branch.{branch_of, wanting_of, wantings_below, Branch}
use Rattle.gr_broker_relay.specs.declared.place.Child.{Child}
use Rattle.gr_broker_relay.specs.declared.place.Position.{Position}
use Rattle.gr_broker_relay.specs.Held.{seen_branch, HasEdges}
use Rattle.gr_broker_relay.specs.Positions.{Keeps}
use Rattle.gr_model_calls.proofs.runs.Schedules.{get_numbers, length_numbers}

-- one more of which it holds
pub all_push : {X : Type 0} (P : X → Type 0) (xs : List X) (x : X) → AllByRecursion P xs → P x → AllByRecursion P (xs ++ x ∷ [])
all_push P [] x all h = (h, tt)
all_push P (y ∷ ys) x all h = (all.0, all_push P ys x all.1 h)

-- Numbers that pass a test

-- they are no more than all
filtered_many : (test : ℕ → Bool) (a n : ℕ) → length (filter test (numbers_from a n)) ≤ n
filtered_many test a zero = omega arith
filtered_many test a (suc n) = go (test a) (filter test (numbers_from (suc a) n)) (filtered_many test (suc a) n)
  where
    go : (c : Bool) (xs : List ℕ) → length xs ≤ n → length (cond c (a ∷ xs) xs) ≤ suc n
    go true xs h = omega (arith, h)
    go false xs h = omega (arith, h)

-- each is below the end
filtered_below : (test : ℕ → Bool) (a n i : ℕ) → i < length (filter test (numbers_from a n)) → get_or (filter test (numbers_from a n)) i 0 < a + n
filtered_below test a zero i j = absurd (omega (arith, j))
filtered_below test a (suc n) i j = go (test a) (filter test (numbers_from (suc a) n)) (λ k h. filtered_below test (suc a) n k h) i j
  where
    go : (c : Bool) (xs : List ℕ) → ((k : ℕ) → k < length xs → get_or xs k 0 < suc a + n) → (i : ℕ) → i < length (cond c (a ∷ xs) xs) → get_or (cond c (a ∷ xs) xs) i 0 < a + suc n
    go true xs h zero j = omega arith
    go true xs h (suc i) j = let k = h i (omega (arith, j)) in omega (arith, k)
    go false xs h i j = let k = h i j in omega (arith, k)

-- Edges

module _ (before after : List (List Wanting)) (k : Keeps before after) where
  -- each child still has its edge
  pub bounds_stay : (cs : List Child) → AllByRecursion (λ c. c.edge < length before) cs → AllByRecursion (λ c. c.edge < length after) cs
  bounds_stay [] all = tt
  bounds_stay (c ∷ cs) all = (omega (arith, all.0, k.no_fewer), bounds_stay cs all.1)

  -- and it is the same
  edges_stay : (cs : List Child) → AllByRecursion (λ c. c.edge < length before) cs → map (λ c. get_or after c.edge []) cs ≡ map (λ c. get_or before c.edge []) cs
  edges_stay [] all = refl
  edges_stay (c ∷ cs) all = ap₂ (λ x xs. x ∷ xs) (k.same c.edge all.0) (edges_stay cs all.1)

  branch_stays : (place : Position) → HasEdges before place → seen_branch after place ≡ seen_branch before place
  branch_stays place has =
      ap (λ (es : List (List Wanting)). let b : Branch = record { host = place.host; up = place.up; keeps = place.keeps; children = map (λ c. c.number) place.children.items; edges = es } in b)
      (edges_stay place.children.items has)

  -- so each publisher's place stays
  pub positions_stay : (places : List Position) → AllByRecursion (HasEdges before) places → AllByRecursion (HasEdges after) places
  positions_stay [] all = tt
  positions_stay (place ∷ places) all = (bounds_stay place.children.items all.0, positions_stay places all.1)

  branches_stay : (places : List Position) → AllByRecursion (HasEdges before) places → map (seen_branch after) places ≡ map (seen_branch before) places
  branches_stay [] all = refl
  branches_stay (place ∷ places) all = ap₂ (λ x xs. x ∷ xs) (branch_stays place all.0) (branches_stay places all.1)

-- edges that are there still are so once more are put at the end
pub keeps_on : (xs ys zs : List (List Wanting)) → Keeps xs ys → Keeps ys zs → Keeps xs zs
keeps_on xs ys zs a b = record { no_fewer = omega (arith, a.no_fewer, b.no_fewer); same = λ i j. b.same i (omega (arith, j, a.no_fewer)) ∙ a.same i j }

numbers_on : (a n : ℕ) → count_from a (suc n) ≡ count_from a n ++ (a + n) ∷ []
numbers_on a zero = ap (λ k. k ∷ []) (let e : a ≡ a + 0 = omega arith in e)
numbers_on a (suc n) = ap (λ ks. a ∷ ks) (numbers_on (suc a) n ∙ ap (λ k. count_from (suc a) n ++ k ∷ []) (let e : suc a + n ≡ a + suc n = omega arith in e))

-- the numbers below one more
pub numbers_more : (n : ℕ) → numbers (n + 1) ≡ numbers n ++ n ∷ []
numbers_more n = ap numbers (let e : n + 1 ≡ suc n = omega arith in e) ∙ numbers_on 0 n ∙ ap (λ m. numbers n ++ m ∷ []) (let z : 0 + n ≡ n = omega arith in z)

-- one publisher more
pub placed_more : (t : TopologyView) (b n : ℕ) (before after : List (List Wanting)) → Keeps before after → (places : List Position) (place : Position)
    → map (seen_branch before) places ≡ map (branch_of t b) (numbers n) → AllByRecursion (HasEdges before) places → seen_branch after place ≡ branch_of t b n
    → map (seen_branch after) (places ++ place ∷ []) ≡ map (branch_of t b) (numbers (n + 1))
placed_more t b n before after k places place sofar has one =
    map_push (seen_branch after) places place
    ∙ ap₂ (λ xs x. xs ++ x ∷ []) (branches_stay before after k places has ∙ sofar) one
    ∙ sym (ap (map (branch_of t b)) (numbers_more n) ∙ map_push (branch_of t b) (numbers n) n)

-- Children

-- each child is a broker
pub child_in : (t : TopologyView) (p b : ℕ) (found : List ℕ) (i : ℕ) → found ≡ children_of t p b → i < length found → get_or found i 0 < length t.brokers
child_in t p b found i e j =
    let k = filtered_below (is_child_at t p b) 0 (size t) i (let n : i < length (children_of t p b) = omega (arith, j, ap length e) in n) in
    let same : get_or found i 0 ≡ get_or (children_of t p b) i 0 = ap (λ xs. get_or xs i 0) e in
    omega (arith, k, same)

-- each of the subscribers beyond a broker is one, and they are no more than all
pub known_below : (t : TopologyView) (p c : ℕ) (found : List ℕ) → found ≡ below_of t p c → (i : ℕ) → i < length found → get_or found i 0 < length t.subscribers
known_below t p c found e i j =
    let k = filtered_below (λ s. passes_by t p c (home_of t s)) 0 (length t.subscribers) i (let n : i < length (below_of t p c) = omega (arith, j, ap length e) in n) in
    let same : get_or found i 0 ≡ get_or (below_of t p c) i 0 = ap (λ xs. get_or xs i 0) e in
    omega (arith, k, same)

pub few_below : (t : TopologyView) (p c : ℕ) (found : List ℕ) → found ≡ below_of t p c → length found ≤ length t.subscribers
few_below t p c found e =
    let k = filtered_many (λ s. passes_by t p c (home_of t s)) 0 (length t.subscribers) in
    let same : length found ≡ length (below_of t p c) = ap length e in
    omega (arith, k, same)

-- the edge that has the same subscribers behind it
pub edge_there : (t : TopologyView) (edges : List (List Wanting)) (behind : List (List ℕ)) (i : ℕ) (found wanted : List ℕ) → edges ≡ map (map (wanting_of t)) behind → i < length behind
    → found ≡ get_or behind i found → found ≡ wanted → get_or edges i [] ≡ map (wanting_of t) wanted
edge_there t edges behind i found wanted e j read same =
    ap (λ es. get_or es i []) e ∙ get_or-map (map (wanting_of t)) behind i found [] j ∙ ap (map (wanting_of t)) (sym read ∙ same)

-- one child more
module _ (t : TopologyView) (p b i : ℕ) (before after : List (List Wanting)) (k : Keeps before after) (cs : List Child) (c : Child) (numbers : List ℕ) where
  -- its number
  pub numbers_more_of : i < length numbers → map (λ (x : Child). x.number) cs ≡ take i numbers → c.number ≡ get_or numbers i 0 → map (λ (x : Child). x.number) (cs ++ c ∷ []) ≡ take (i + 1) numbers
  numbers_more_of j sofar one = map_push (λ (x : Child). x.number) cs c ∙ ap₂ (λ xs x. xs ++ x ∷ []) sofar one ∙ sym (take_more numbers i 0 j)

  -- what is wanted behind it
  pub behind_more : i < length numbers → AllByRecursion (λ (x : Child). x.edge < length before) cs → map (λ (x : Child). get_or before x.edge []) cs ≡ map (wantings_below t p) (take i numbers)
      → get_or after c.edge [] ≡ wantings_below t p (get_or numbers i 0) → map (λ (x : Child). get_or after x.edge []) (cs ++ c ∷ []) ≡ map (wantings_below t p) (take (i + 1) numbers)
  behind_more j has sofar one =
      map_push (λ (x : Child). get_or after x.edge []) cs c
      ∙ ap₂ (λ xs x. xs ++ x ∷ []) (edges_stay before after k cs has ∙ sofar) one
      ∙ sym (ap (map (wantings_below t p)) (take_more numbers i 0 j) ∙ map_push (wantings_below t p) (take i numbers) (get_or numbers i 0))

-- The place of one publisher

all_at : {X : Type 0} (P : X → Type 0) (xs : List X) (i : ℕ) (x : X) → AllByRecursion P xs → i < length xs → x ≡ get_or xs i x → P x
all_at P [] i x all j e = absurd (omega (arith, j))
all_at P (y ∷ ys) zero x all j e = subst P (sym e) all.0
all_at P (y ∷ ys) (suc i) x all j e = all_at P ys i x all.1 (omega (arith, j)) e

module _ (t : TopologyView) (b n : ℕ) (edges : List (List Wanting)) (places : List Position) (branches : map (seen_branch edges) places ≡ map (branch_of t b) (numbers n)) where
  -- there are as many places as publishers
  pub as_many_places : length places ≡ n
  as_many_places = sym (length-map places (seen_branch edges)) ∙ ap length branches ∙ length_numbers (branch_of t b) 0 n

  -- the place of a publisher
  pub branch_at : (p : ℕ) (place : Position) → p < n → place ≡ get_or places p place → seen_branch edges place ≡ branch_of t b p
  branch_at p place j e =
      ap (seen_branch edges) e
      ∙ sym (get_or-map (seen_branch edges) places p place (seen_branch edges place) (omega (arith, j, as_many_places)))
      ∙ ap (λ bs. get_or bs p (seen_branch edges place)) branches
      ∙ get_numbers (branch_of t b) 0 n p (seen_branch edges place) j
      ∙ ap (branch_of t b) (let z : 0 + p ≡ p = omega arith in z)

  -- and it has its edges
  pub edges_at : (p : ℕ) (place : Position) → p < n → place ≡ get_or places p place → AllByRecursion (HasEdges edges) places → HasEdges edges place
  edges_at p place j e all = all_at (HasEdges edges) places p place all (omega (arith, j, as_many_places)) e
