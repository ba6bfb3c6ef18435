-- The names of brokers in rising order, a broker at a time
use Rattle.std.proofs.Common.{◌≡◌, ℕ, ◌+◌, ◌-◌, ◌<◌, ◌≤◌, ◌&&◌, Bool, true, false, cond, List, [], ◌∷◌, ◌++◌, refl, sym, ap, ◌∙◌}
use Rattle.std.specs.Prelude.{if◌then◌else◌}
use Rattle.std.specs.List.{filter, flat_map, list_all}
use Rattle.std.proofs.lemmas.List.{append_assoc, append-nil}
use Rattle.gr_tree.specs.Walks.{numbers_from, numbers}
use Rattle.gr_topo.proofs.TreeLists.{numbers_next, numbers_done, numbers_all}

-- what is made of those that pass
passing : (p : ℕ → Bool) (f : ℕ → List ℕ) (b : Bool) (x : ℕ) (xs ys : List ℕ) → flat_map f xs ≡ ys → flat_map f (cond b (x ∷ xs) xs) ≡ (if b then f x else []) ++ ys
passing p f true x xs ys e = ap (λ z. f x ++ z) e
passing p f false x xs ys e = e

only_these : (p : ℕ → Bool) (f : ℕ → List ℕ) (xs : List ℕ) → flat_map f (filter p xs) ≡ flat_map (λ b. if p b then f b else []) xs
only_these p f [] = refl
only_these p f (x ∷ xs) = passing p f (p x) x (filter p xs) (flat_map (λ b. if p b then f b else []) xs) (only_these p f xs)

pub text_start : (p : ℕ → Bool) (f : ℕ → List ℕ) (text : List ℕ) (n : ℕ) → text ++ flat_map (λ b. if p b then f b else []) (numbers_from 0 (n - 0)) ≡ text ++ flat_map f (filter p (numbers n))
text_start p f text n =
    ap (λ xs. text ++ flat_map (λ b. if p b then f b else []) xs) (numbers_all n) ∙ ap (λ z. text ++ z) (sym (only_these p f (numbers n)))

pub text_more : (g : ℕ → List ℕ) (text more all : List ℕ) (i n : ℕ) → i < n → text ++ flat_map g (numbers_from i (n - i)) ≡ all → more ≡ text ++ g i → more ++ flat_map g (numbers_from (i + 1) (n - (i + 1))) ≡ all
text_more g text more all i n lt inv e =
    ap (λ z. z ++ flat_map g (numbers_from (i + 1) (n - (i + 1)))) e
    ∙ (append_assoc text (g i) (flat_map g (numbers_from (i + 1) (n - (i + 1))))
    ∙ (ap (λ xs. text ++ flat_map g xs) (sym (numbers_next i n lt)) ∙ inv))

pub text_end : (g : ℕ → List ℕ) (text all : List ℕ) (i n : ℕ) → n ≤ i → text ++ flat_map g (numbers_from i (n - i)) ≡ all → text ≡ all
text_end g text all i n h inv = sym (append-nil text) ∙ (ap (λ xs. text ++ flat_map g xs) (sym (numbers_done i n h)) ∙ inv)

-- Whether all pass

pub all_start : (p : ℕ → Bool) (n : ℕ) → list_all p (numbers_from 0 (n - 0)) ≡ list_all p (numbers n)
all_start p n = ap (list_all p) (numbers_all n)

all_step : (p : ℕ → Bool) (x : ℕ) (xs : List ℕ) (b r : Bool) → p x ≡ b → list_all p (x ∷ xs) ≡ r → (b && list_all p xs) ≡ r
all_step p x xs b r e inv = ap (λ v. v && list_all p xs) (sym e) ∙ inv

pub one_passes : (p : ℕ → Bool) (i n : ℕ) (r : Bool) → i < n → p i ≡ true → list_all p (numbers_from i (n - i)) ≡ r → list_all p (numbers_from (i + 1) (n - (i + 1))) ≡ r
one_passes p i n r lt e inv = all_step p i (numbers_from (i + 1) (n - (i + 1))) true r e (ap (list_all p) (sym (numbers_next i n lt)) ∙ inv)

pub one_fails : (p : ℕ → Bool) (i n : ℕ) (r : Bool) → i < n → p i ≡ false → list_all p (numbers_from i (n - i)) ≡ r → false ≡ r
one_fails p i n r lt e inv = all_step p i (numbers_from (i + 1) (n - (i + 1))) false r e (ap (list_all p) (sym (numbers_next i n lt)) ∙ inv)

pub none_left : (p : ℕ → Bool) (i n : ℕ) (r : Bool) → n ≤ i → list_all p (numbers_from i (n - i)) ≡ r → true ≡ r
none_left p i n r h inv = ap (list_all p) (sym (numbers_done i n h)) ∙ inv
