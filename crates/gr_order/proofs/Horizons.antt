-- The least of the horizons: at most each of them, one of them, and no less after one of them has moved on.
use Rattle.std.proofs.Common.{◌≡◌, ◌≢◌, ℕ, ◌<◌, ◌≤◌, zero, suc, min, nat_le, Bool, true, false, List, [], ◌∷◌, length, get_or, set, replicate, ◌⊎◌, inl, inr, ap, sym, ◌∙◌, refl, arith}
use Rattle.std.specs.List.{All, fold}
use Rattle.std.proofs.lemmas.Bool.Decides.{nat_tests}
use Rattle.std.proofs.lemmas.List.{length-set, length-replicate, get_or-set_other}
use Rattle.std.proofs.lemmas.List.Elements.{All-cons, All-head, All-tail, All-nil, All-set, All-get_or}
use Rattle.gr_order.specs.Merge.{least_of}

fold_first : (h : ℕ) (ks : List ℕ) → fold min h ks ≤ h
fold_first h [] = omega arith
fold_first h (k ∷ ks) = omega (arith, fold_first (min h k) ks)

fold_each : (h : ℕ) (ks : List ℕ) → All (λ k. fold min h ks ≤ k) ks
fold_each h [] = All-nil _
fold_each h (k ∷ ks) = All-cons (λ j. fold min (min h k) ks ≤ j) k ks (omega (arith, fold_first (min h k) ks)) (fold_each (min h k) ks)

-- the least is at most each
least_each : (hs : List ℕ) → All (λ k. least_of hs ≤ k) hs
least_each [] = All-nil _
least_each (h ∷ ks) = All-cons (λ j. fold min h ks ≤ j) h ks (fold_first h ks) (fold_each h ks)

-- what is at most each is at most the least
fold_greatest : (x h : ℕ) (ks : List ℕ) → x ≤ h → All (λ k. x ≤ k) ks → x ≤ fold min h ks
fold_greatest x h [] le all = le
fold_greatest x h (k ∷ ks) le all =
    let first : x ≤ k = All-head (λ k. x ≤ k) k ks all in
    fold_greatest x (min h k) ks (omega arith) (All-tail (λ k. x ≤ k) k ks all)

least_greatest : (x : ℕ) (hs : List ℕ) → 1 ≤ length hs → All (λ k. x ≤ k) hs → x ≤ least_of hs
least_greatest x [] some all = absurd (omega arith)
least_greatest x (h ∷ ks) some all = fold_greatest x h ks (All-head (λ k. x ≤ k) h ks all) (All-tail (λ k. x ≤ k) h ks all)

-- the less of two is one of them
one_of : (a b : ℕ) → (min a b ≡ a) ⊎ (min a b ≡ b)
one_of a b = by (nat_le a b) refl
  where
    by : (t : Bool) → nat_le a b ≡ t → (min a b ≡ a) ⊎ (min a b ≡ b)
    by true e = inl (grind (arith, nat_tests))
    by false e = inr (grind (arith, nat_tests))

-- the least stands at some place
fold_place : (h : ℕ) (ks : List ℕ) → (i : ℕ) × (i < length (h ∷ ks)) × (get_or (h ∷ ks) i 0 ≡ fold min h ks)
fold_place h [] = (0, omega arith, refl)
fold_place h (k ∷ ks) = at (fold_place (min h k) ks)
  where
    at : (i : ℕ) × (i < length (min h k ∷ ks)) × (get_or (min h k ∷ ks) i 0 ≡ fold min (min h k) ks) → (i : ℕ) × (i < length (h ∷ k ∷ ks)) × (get_or (h ∷ k ∷ ks) i 0 ≡ fold min (min h k) ks)
    at (zero, inside, e) = elim (one_of h k) [ inl f ↦ (0, omega arith, sym f ∙ e) | inr f ↦ (1, omega arith, sym f ∙ e) ]
    at (suc i, inside, e) = (suc (suc i), omega arith, e)

least_place : (hs : List ℕ) → 1 ≤ length hs → (i : ℕ) × (i < length hs) × (get_or hs i 0 ≡ least_of hs)
least_place [] some = absurd (omega arith)
least_place (h ∷ ks) some = fold_place h ks

-- at most the horizon of each publisher
pub least_at : (hs : List ℕ) (i : ℕ) → i < length hs → least_of hs ≤ get_or hs i 0
least_at hs i inside = All-get_or (λ k. least_of hs ≤ k) hs i 0 inside (least_each hs)

-- after one has moved on, the least is no less
pub least_forward : (hs : List ℕ) (i x : ℕ) → i < length hs → get_or hs i 0 ≤ x → least_of hs ≤ least_of (set hs i x)
least_forward hs i x inside le =
    let low : least_of hs ≤ get_or hs i 0 = least_at hs i inside in
    let long : length (set hs i x) ≡ length hs = length-set hs i x in
    least_greatest (least_of hs) (set hs i x) (omega arith) (All-set (λ k. least_of hs ≤ k) hs i x (omega arith) (least_each hs))

-- where it was not the least, the least stays
least_stays : (hs : List ℕ) (i x : ℕ) → i < length hs → get_or hs i 0 ≤ x → get_or hs i 0 ≢ least_of hs → least_of (set hs i x) ≡ least_of hs
least_stays hs i x inside le apart =
    let place = least_place hs (omega arith) in
    let other : place.0 ≢ i = λ e. apart (ap (λ j. get_or hs j 0) (sym e) ∙ place.2) in
    let kept : get_or (set hs i x) place.0 0 ≡ get_or hs place.0 0 = get_or-set_other hs i place.0 x 0 other in
    let long : length (set hs i x) ≡ length hs = length-set hs i x in
    let upto : least_of (set hs i x) ≤ get_or (set hs i x) place.0 0 = least_at (set hs i x) place.0 (omega (arith, place.1)) in
    let from : least_of hs ≤ least_of (set hs i x) = least_forward hs i x inside le in
    omega (arith, place.2)

least_of_none : (n : ℕ) → least_of (replicate n 0) ≡ 0
least_of_none zero = refl
least_of_none (suc n) = omega (arith, fold_first 0 (replicate n 0))

-- the least of new horizons is 0
pub least_new : (n : ℕ) (hs : List ℕ) → 1 ≤ n → hs ≡ replicate n 0 → (1 ≤ length hs) × (0 ≡ least_of hs)
least_new n hs some e =
    let long : length hs ≡ n = ap length e ∙ length-replicate n 0 in
    (omega arith, sym (ap least_of e ∙ least_of_none n))

-- the least of the horizons stays known where another moves on
pub least_kept : (hs : List ℕ) (i x least : ℕ) → i < length hs → get_or hs i 0 ≤ x → get_or hs i 0 ≢ least → least ≡ least_of hs → (1 ≤ length (set hs i x)) × (least ≡ least_of (set hs i x))
least_kept hs i x least inside le apart is =
    let long : length (set hs i x) ≡ length hs = length-set hs i x in
    (omega arith, is ∙ sym (least_stays hs i x inside le (λ e. apart (e ∙ sym is))))
