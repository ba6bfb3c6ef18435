-- What is ready in each list is taken out, list by list
use Rattle.std.proofs.Common.{◌≡◌, ℕ, zero, suc, ◌+◌, ◌<◌, ◌≤◌, List, [], ◌∷◌, ◌++◌, length, map, get_or, set, take, drop, refl, sym, ap, ap₂, ◌∙◌, subst, arith, append_assoc, append-nil}
use Rattle.std.specs.Prelude.{flat_map}
use Rattle.gr_model.specs.declared.report.Report.{Report}
use Rattle.gr_model.specs.Orders.{Order, ordered_in, ordered, rested, without_ordered}
use Rattle.gr_order_lists.specs.Places.{ArePlaced}
use Rattle.gr_order_lists.proofs.PlacedLists.{placed_set}

-- the lists so far, and what is told so far: with what is left they come to the whole
pub record Going (old : List Order) (before : List Report) (i : ℕ) (now : List Order) (lines : List Report) : Type 0 where
  pub lists : take i now ++ without_ordered (drop i now) ≡ without_ordered old
  pub told : lines ++ ordered (drop i now) ≡ before ++ ordered old
  pub placed : (places : List ℕ) → ArePlaced 0 old places → ArePlaced 0 now places

pub begins : (old : List Order) (before : List Report) → Going old before 0 old before
begins old before = record { lists = refl; told = refl; placed = λ places a. a }

front_next : (f : Order → Order) (xs : List Order) (i : ℕ) (x new d : Order) → i < length xs → x ≡ get_or xs i d → new ≡ f x
    → take (suc i) (set xs i new) ++ map f (drop (suc i) (set xs i new)) ≡ take i xs ++ map f (drop i xs)
front_next f [] i x new d lt e n = absurd (omega (arith, lt))
front_next f (y ∷ xs) zero x new d lt e n = ap (λ z. z ∷ map f xs) (n ∙ ap f e)
front_next f (y ∷ xs) (suc i) x new d lt e n = ap (λ zs. y ∷ zs) (front_next f xs i x new d (omega (arith, lt)) e n)

front_and_rest : (f : Order → Order) (xs : List Order) (i : ℕ) (x new d : Order) → i < length xs → x ≡ get_or xs i d → new ≡ f x
    → take (i + 1) (set xs i new) ++ map f (drop (i + 1) (set xs i new)) ≡ take i xs ++ map f (drop i xs)
front_and_rest f xs i x new d lt e n =
    let k : suc i ≡ i + 1 = omega arith in
    subst (λ m. take m (set xs i new) ++ map f (drop m (set xs i new)) ≡ take i xs ++ map f (drop i xs)) k (front_next f xs i x new d lt e n)

told_next : (xs : List Order) (i : ℕ) (x new d : Order) → i < length xs → x ≡ get_or xs i d → ordered_in x ++ ordered (drop (suc i) (set xs i new)) ≡ ordered (drop i xs)
told_next [] i x new d lt e = absurd (omega (arith, lt))
told_next (y ∷ xs) zero x new d lt e = ap (λ z. ordered_in z ++ ordered xs) e
told_next (y ∷ xs) (suc i) x new d lt e = told_next xs i x new d (omega (arith, lt)) e

told_and_rest : (xs : List Order) (i : ℕ) (x new d : Order) → i < length xs → x ≡ get_or xs i d → ordered_in x ++ ordered (drop (i + 1) (set xs i new)) ≡ ordered (drop i xs)
told_and_rest xs i x new d lt e =
    let k : suc i ≡ i + 1 = omega arith in
    subst (λ m. ordered_in x ++ ordered (drop m (set xs i new)) ≡ ordered (drop i xs)) k (told_next xs i x new d lt e)

-- as many lists as at the start
long_as : (f : Order → Order) (i : ℕ) (xs : List Order) → length (take i xs ++ map f (drop i xs)) ≡ length xs
long_as f zero [] = refl
long_as f zero (x ∷ xs) = ap suc (long_as f zero xs)
long_as f (suc i) [] = refl
long_as f (suc i) (x ∷ xs) = ap suc (long_as f i xs)

pub as_many : (old now : List Order) (before lines : List Report) (i : ℕ) → Going old before i now lines → length now ≡ length old
as_many old now before lines i g = sym (long_as rested i now) ∙ ap length g.lists ∙ long_as rested 0 old

pub goes_on : (old now : List Order) (before lines lines' : List Report) (i : ℕ) (x new : Order) → Going old before i now lines → i < length now → x ≡ get_or now i x → new ≡ rested x → lines' ≡ lines ++ ordered_in x
    → Going old before (i + 1) (set now i new) lines'
goes_on old now before lines lines' i x new g lt e n l = record {
  lists = front_and_rest rested now i x new x lt e n ∙ g.lists;
  told = ap (λ zs. zs ++ ordered (drop (i + 1) (set now i new))) l ∙ append_assoc lines (ordered_in x) (ordered (drop (i + 1) (set now i new)))
      ∙ ap (λ zs. lines ++ zs) (told_and_rest now i x new x lt e) ∙ g.told;
  placed = λ places a. placed_set 0 i now places new x (g.placed places a) (ap (λ (o : Order). o.subscriber) n ∙ ap (λ (o : Order). o.subscriber) e);
}

take_all : (xs : List Order) (i : ℕ) → length xs ≤ i → take i xs ≡ xs
take_all [] zero h = refl
take_all [] (suc i) h = refl
take_all (x ∷ xs) zero h = absurd (omega (arith, h))
take_all (x ∷ xs) (suc i) h = ap (λ zs. x ∷ zs) (take_all xs i (omega (arith, h)))

drop_all : (xs : List Order) (i : ℕ) → length xs ≤ i → drop i xs ≡ []
drop_all [] zero h = refl
drop_all [] (suc i) h = refl
drop_all (x ∷ xs) zero h = absurd (omega (arith, h))
drop_all (x ∷ xs) (suc i) h = drop_all xs i (omega (arith, h))

pub all_rested : (old now : List Order) (before lines : List Report) (i : ℕ) → Going old before i now lines → length now ≤ i → now ≡ without_ordered old
all_rested old now before lines i g h =
    sym (ap₂ (λ xs ys. xs ++ without_ordered ys) (take_all now i h) (drop_all now i h) ∙ append-nil now) ∙ g.lists

pub all_told : (old now : List Order) (before lines : List Report) (i : ℕ) → Going old before i now lines → length now ≤ i → lines ≡ before ++ ordered old
all_told old now before lines i g h = sym (ap (λ xs. lines ++ ordered xs) (drop_all now i h) ∙ append-nil lines) ∙ g.told
