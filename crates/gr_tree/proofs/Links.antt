-- Links and their ends, and what is left of links when one is taken out
use Rattle.std.proofs.Common.{◌≡◌, ◌⊎◌, ℕ, zero, suc, true, ◌&&◌, nat_eq, List, [], ◌∷◌, get_or, sym, ◌∙◌, inl, inr, ⊎_elim, eq-eqb}
use Rattle.std.specs.List.{remove}
use Rattle.std.proofs.lemmas.Bool.{false≢true, or_cases, or_left, or_right, and_parts, and_from, eqb-true}
use Rattle.gr_tree.specs.declared.link.Link.{Link}
use Rattle.gr_tree.specs.Walks.{joins, is_linked}

-- the ends of a link that joins a and b
abbrev pub Ends : ℕ → ℕ → Link → Type 0
Ends a b l = ((l.one ≡ a) × (l.other ≡ b)) ⊎ ((l.one ≡ b) × (l.other ≡ a))

pub ends : (a b : ℕ) (l : Link) → joins a b l ≡ true → Ends a b l
ends a b l h =
    ⊎_elim
    (λ e. let p = and_parts (nat_eq l.one a) (nat_eq l.other b) e in inl (eqb-true l.one a p.0, eqb-true l.other b p.1))
    (λ e. let p = and_parts (nat_eq l.one b) (nat_eq l.other a) e in inr (eqb-true l.one b p.0, eqb-true l.other a p.1))
    (or_cases (nat_eq l.one a && nat_eq l.other b) (nat_eq l.one b && nat_eq l.other a) h)

pub joins_one : (a b : ℕ) (l : Link) → l.one ≡ a → l.other ≡ b → joins a b l ≡ true
joins_one a b l e f =
    or_left (nat_eq l.one a && nat_eq l.other b) (nat_eq l.one b && nat_eq l.other a)
    (and_from (nat_eq l.one a) (nat_eq l.other b) (eq-eqb l.one a e) (eq-eqb l.other b f))

pub joins_other : (a b : ℕ) (l : Link) → l.one ≡ b → l.other ≡ a → joins a b l ≡ true
joins_other a b l e f =
    or_right (nat_eq l.one a && nat_eq l.other b) (nat_eq l.one b && nat_eq l.other a)
    (and_from (nat_eq l.one b) (nat_eq l.other a) (eq-eqb l.one b e) (eq-eqb l.other a f))

pub joins_swap : (a b : ℕ) (l : Link) → joins a b l ≡ true → joins b a l ≡ true
joins_swap a b l h = ⊎_elim (λ e. joins_other b a l e.0 e.1) (λ e. joins_one b a l e.0 e.1) (ends a b l h)

pub linked_swap : (ls : List Link) (a b : ℕ) → is_linked ls a b ≡ true → is_linked ls b a ≡ true
linked_swap [] a b h = absurd (false≢true h)
linked_swap (l ∷ ls) a b h =
    ⊎_elim (λ e. or_left (joins b a l) (is_linked ls b a) (joins_swap a b l e)) (λ e. or_right (joins b a l) (is_linked ls b a) (linked_swap ls a b e))
    (or_cases (joins a b l) (is_linked ls a b) h)

-- one link joins two pairs: they are the same
pub joins_same : (a b c d : ℕ) (l : Link) → joins a b l ≡ true → joins c d l ≡ true → ((a ≡ c) × (b ≡ d)) ⊎ ((a ≡ d) × (b ≡ c))
joins_same a b c d l h k =
    ⊎_elim
    (λ e. ⊎_elim (λ f. inl (sym e.0 ∙ f.0, sym e.1 ∙ f.1)) (λ f. inr (sym e.0 ∙ f.0, sym e.1 ∙ f.1)) (ends c d l k))
    (λ e. ⊎_elim (λ f. inr (sym e.1 ∙ f.1, sym e.0 ∙ f.0)) (λ f. inl (sym e.1 ∙ f.1, sym e.0 ∙ f.0)) (ends c d l k))
    (ends a b l h)

-- a link is left, or it is the one that was taken out
pub linked_kept : (ls : List Link) (k : ℕ) (d : Link) (a b : ℕ) → is_linked ls a b ≡ true → (is_linked (remove ls k) a b ≡ true) ⊎ (joins a b (get_or ls k d) ≡ true)
linked_kept [] k d a b h = absurd (false≢true h)
linked_kept (x ∷ xs) zero d a b h = ⊎_elim (λ e. inr e) (λ e. inl e) (or_cases (joins a b x) (is_linked xs a b) h)
linked_kept (x ∷ xs) (suc k) d a b h =
    ⊎_elim
    (λ e. inl (or_left (joins a b x) (is_linked (remove xs k) a b) e))
    (λ e. ⊎_elim (λ f. inl (or_right (joins a b x) (is_linked (remove xs k) a b) f)) (λ f. inr f) (linked_kept xs k d a b e))
    (or_cases (joins a b x) (is_linked xs a b) h)

pub linked_back : (ls : List Link) (k : ℕ) (a b : ℕ) → is_linked (remove ls k) a b ≡ true → is_linked ls a b ≡ true
linked_back [] zero a b h = absurd (false≢true h)
linked_back [] (suc k) a b h = absurd (false≢true h)
linked_back (x ∷ xs) zero a b h = or_right (joins a b x) (is_linked xs a b) h
linked_back (x ∷ xs) (suc k) a b h =
    ⊎_elim (λ e. or_left (joins a b x) (is_linked xs a b) e) (λ e. or_right (joins a b x) (is_linked xs a b) (linked_back xs k a b e))
    (or_cases (joins a b x) (is_linked (remove xs k) a b) h)
