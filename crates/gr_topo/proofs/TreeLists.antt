-- Lists of numbers that pass a test, a turn at a time
use Rattle.std.proofs.Common.{◌≡◌, ℕ, suc, ◌+◌, ◌-◌, ◌<◌, ◌≤◌, Bool, true, false, cond, List, [], ◌∷◌, ◌++◌, sym, ap, ◌∙◌, arith}
use Rattle.std.proofs.lemmas.List.{append_assoc, append-nil}
use Rattle.std.specs.List.{filter}
use Rattle.gr_tree.specs.Walks.{numbers_from, numbers}
use Rattle.gr_topo.specs.Topology.{not_empty}

-- the numbers from one on begin with it
pub numbers_next : (i n : ℕ) → i < n → numbers_from i (n - i) ≡ i ∷ numbers_from (i + 1) (n - (i + 1))
numbers_next i n h = let a : n - i ≡ suc (n - (i + 1)) = omega arith in let b : suc i ≡ i + 1 = omega arith in ap (numbers_from i) a ∙ ap (λ k. i ∷ numbers_from k (n - (i + 1))) b

pub numbers_done : (i n : ℕ) → n ≤ i → numbers_from i (n - i) ≡ []
numbers_done i n h = let a : n - i ≡ 0 = omega arith in ap (numbers_from i) a

-- one number more that passes, or does not
pub passes_here : (test : ℕ → Bool) (found : List ℕ) (i n : ℕ) → i < n → test i ≡ true → found ++ filter test (numbers_from i (n - i)) ≡ (found ++ i ∷ []) ++ filter test (numbers_from (i + 1) (n - (i + 1)))
passes_here test found i n h t =
    ap (λ xs. found ++ filter test xs) (numbers_next i n h) ∙ ap (λ b. found ++ cond b (i ∷ filter test (numbers_from (i + 1) (n - (i + 1)))) (filter test (numbers_from (i + 1) (n - (i + 1))))) t
    ∙ sym (append_assoc found (i ∷ []) (filter test (numbers_from (i + 1) (n - (i + 1)))))

pub fails_here : (test : ℕ → Bool) (found : List ℕ) (i n : ℕ) → i < n → test i ≡ false → found ++ filter test (numbers_from i (n - i)) ≡ found ++ filter test (numbers_from (i + 1) (n - (i + 1)))
fails_here test found i n h t =
    ap (λ xs. found ++ filter test xs) (numbers_next i n h) ∙ ap (λ b. found ++ cond b (i ∷ filter test (numbers_from (i + 1) (n - (i + 1)))) (filter test (numbers_from (i + 1) (n - (i + 1))))) t

pub all_passed : (test : ℕ → Bool) (found : List ℕ) (i n : ℕ) → n ≤ i → found ++ filter test (numbers_from i (n - i)) ≡ found
all_passed test found i n h = ap (λ xs. found ++ filter test xs) (numbers_done i n h) ∙ append-nil found

pub numbers_all : (n : ℕ) → numbers_from 0 (n - 0) ≡ numbers n
numbers_all n = let a : n - 0 ≡ n = omega arith in ap (numbers_from 0) a

-- ---- whether any passes

pub some_passes : (test : ℕ → Bool) (xs : List ℕ) (i n : ℕ) → filter test (numbers_from i (n - i)) ≡ xs → i < n → test i ≡ true → true ≡ not_empty xs
some_passes test xs i n inv h t = sym (ap not_empty (sym inv ∙ passes_here test [] i n h t))

pub none_passes : (test : ℕ → Bool) (xs : List ℕ) (i n : ℕ) → filter test (numbers_from i (n - i)) ≡ xs → n ≤ i → false ≡ not_empty xs
none_passes test xs i n inv h = sym (ap not_empty (sym inv ∙ ap (filter test) (numbers_done i n h)))

pub skips_here : (test : ℕ → Bool) (xs : List ℕ) (i n : ℕ) → filter test (numbers_from i (n - i)) ≡ xs → i < n → test i ≡ false → filter test (numbers_from (i + 1) (n - (i + 1))) ≡ xs
skips_here test xs i n inv h t = sym (fails_here test [] i n h t) ∙ inv

-- ---- what is collected

pub starts : (test : ℕ → Bool) (found : List ℕ) (n : ℕ) → found ≡ [] → found ++ filter test (numbers_from 0 (n - 0)) ≡ filter test (numbers n)
starts test found n e = ap (λ l. l ++ filter test (numbers_from 0 (n - 0))) e ∙ ap (filter test) (numbers_all n)

pub takes_it : (test : ℕ → Bool) (found next xs : List ℕ) (i n : ℕ) → found ++ filter test (numbers_from i (n - i)) ≡ xs → i < n → test i ≡ true → next ≡ found ++ i ∷ [] → next ++ filter test (numbers_from (i + 1) (n - (i + 1))) ≡ xs
takes_it test found next xs i n inv h t e = ap (λ l. l ++ filter test (numbers_from (i + 1) (n - (i + 1)))) e ∙ sym (passes_here test found i n h t) ∙ inv

pub leaves_it : (test : ℕ → Bool) (found next xs : List ℕ) (i n : ℕ) → found ++ filter test (numbers_from i (n - i)) ≡ xs → i < n → test i ≡ false → next ≡ found → next ++ filter test (numbers_from (i + 1) (n - (i + 1))) ≡ xs
leaves_it test found next xs i n inv h t e = ap (λ l. l ++ filter test (numbers_from (i + 1) (n - (i + 1)))) e ∙ sym (fails_here test found i n h t) ∙ inv

pub collected : (test : ℕ → Bool) (found xs : List ℕ) (i n : ℕ) → found ++ filter test (numbers_from i (n - i)) ≡ xs → n ≤ i → found ≡ xs
collected test found xs i n inv h = sym (all_passed test found i n h) ∙ inv
