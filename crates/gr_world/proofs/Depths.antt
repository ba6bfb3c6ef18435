-- Brokers collected depth by depth: what is left are the numbers from one on, or those below one, and of each depth those that stand there
use Rattle.std.proofs.Common.{◌≡◌, ℕ, zero, suc, ◌+◌, ◌-◌, ◌<◌, Bool, true, false, cond, nat_eq, List, [], ◌∷◌, ◌++◌, sym, ap, ◌∙◌, arith, append_assoc}
use Rattle.std.specs.List.{filter, flat_map, AllByRecursion}
use Rattle.gr_model.specs.Net.{Net, numbers, numbers_from}
use Rattle.gr_model.specs.World.{at_depth, numbers_down, inwards}
use Rattle.gr_report.proofs.Along.{numbers_left}

-- Those that pass a test

-- the test's choice at the next number
choice : (test : ℕ → Bool) (i n : ℕ) (b : Bool) → i < n → test i ≡ b → filter test (numbers_from i (n - i)) ≡ cond b (i ∷ filter test (numbers_from (i + 1) (n - (i + 1)))) (filter test (numbers_from (i + 1) (n - (i + 1))))
choice test i n b h t =
    ap (filter test) (numbers_left i n h)
    ∙ ap (λ c. cond c (i ∷ filter test (numbers_from (i + 1) (n - (i + 1)))) (filter test (numbers_from (i + 1) (n - (i + 1))))) t

-- one that passes is put behind those that were found
pub takes : (test : ℕ → Bool) (found next all : List ℕ) (i n : ℕ) → i < n → test i ≡ true → next ≡ found ++ i ∷ [] → found ++ filter test (numbers_from i (n - i)) ≡ all → next ++ filter test (numbers_from (i + 1) (n - (i + 1))) ≡ all
takes test found next all i n h t e inv =
    let rest = filter test (numbers_from (i + 1) (n - (i + 1))) in
    ap (λ (l : List ℕ). l ++ rest) e ∙ append_assoc found (i ∷ []) rest ∙ ap (λ (l : List ℕ). found ++ l) (sym (choice test i n true h t)) ∙ inv

-- one that does not pass is not
pub leaves : (test : ℕ → Bool) (found next all : List ℕ) (i n : ℕ) → i < n → test i ≡ false → next ≡ found → found ++ filter test (numbers_from i (n - i)) ≡ all → next ++ filter test (numbers_from (i + 1) (n - (i + 1))) ≡ all
leaves test found next all i n h t e inv =
    let rest = filter test (numbers_from (i + 1) (n - (i + 1))) in
    ap (λ (l : List ℕ). l ++ rest) e ∙ ap (λ (l : List ℕ). found ++ l) (sym (choice test i n false h t)) ∙ inv

-- Depth by depth

-- the next depth outwards
pub outwards_more : (f : ℕ → List ℕ) (found next all : List ℕ) (i n : ℕ) → i < n → next ≡ found ++ f i → found ++ flat_map f (numbers_from i (n - i)) ≡ all → next ++ flat_map f (numbers_from (i + 1) (n - (i + 1))) ≡ all
outwards_more f found next all i n h e inv =
    let rest = flat_map f (numbers_from (i + 1) (n - (i + 1))) in
    ap (λ (l : List ℕ). l ++ rest) e ∙ append_assoc found (f i) rest ∙ ap (λ (l : List ℕ). found ++ flat_map f l) (sym (numbers_left i n h)) ∙ inv

-- the next depth inwards
pub inwards_more : (f : ℕ → List ℕ) (found next all : List ℕ) (i : ℕ) → next ≡ found ++ f i → found ++ flat_map f (numbers_down (suc i)) ≡ all → next ++ flat_map f (numbers_down i) ≡ all
inwards_more f found next all i e inv =
    ap (λ (l : List ℕ). l ++ flat_map f (numbers_down i)) e ∙ append_assoc found (f i) (flat_map f (numbers_down i)) ∙ inv

-- All that are collected are brokers

all_numbers : (P : ℕ → Type 0) (a n : ℕ) → ((k : ℕ) → k < a + n → P k) → AllByRecursion P (numbers_from a n)
all_numbers P a zero h = tt
all_numbers P a (suc n) h = (h a (omega arith), all_numbers P (suc a) n (λ k i. h k (omega arith)))

all_choice : (P : ℕ → Type 0) (x : ℕ) (xs : List ℕ) (b : Bool) → P x → AllByRecursion P xs → AllByRecursion P (cond b (x ∷ xs) xs)
all_choice P x xs true h a = (h, a)
all_choice P x xs false h a = a

all_filter : (P : ℕ → Type 0) (test : ℕ → Bool) (xs : List ℕ) → AllByRecursion P xs → AllByRecursion P (filter test xs)
all_filter P test [] a = tt
all_filter P test (x ∷ xs) a = all_choice P x (filter test xs) (test x) a.0 (all_filter P test xs a.1)

all_append : (P : ℕ → Type 0) (xs ys : List ℕ) → AllByRecursion P xs → AllByRecursion P ys → AllByRecursion P (xs ++ ys)
all_append P [] ys a b = b
all_append P (x ∷ xs) ys a b = (a.0, all_append P xs ys a.1 b)

all_flat : (P : ℕ → Type 0) (f : ℕ → List ℕ) (xs : List ℕ) → ((x : ℕ) → AllByRecursion P (f x)) → AllByRecursion P (flat_map f xs)
all_flat P f [] h = tt
all_flat P f (x ∷ xs) h = all_append P (f x) (flat_map f xs) (h x) (all_flat P f xs h)

-- all brokers by falling depth are brokers
pub inwards_in : (net : Net) (p : ℕ) → AllByRecursion (λ b. b < net.brokers) (inwards net p)
inwards_in net p =
    all_flat (λ b. b < net.brokers) (at_depth net p) (numbers_down net.brokers)
    (λ d. all_filter (λ b. b < net.brokers) (λ b. nat_eq (net.depth p b) d) (numbers net.brokers) (all_numbers (λ b. b < net.brokers) 0 net.brokers (λ k i. omega arith)))
