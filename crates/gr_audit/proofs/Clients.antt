-- Whether some publisher has a client, one publisher at a time
use Rattle.std.proofs.Common.{◌≡◌, ℕ, zero, suc, ◌+◌, ◌<◌, ◌≤◌, ◌||◌, Bool, true, false, List, [], ◌∷◌, length, get_or, drop, Option, Some, None, option_map, is_some, refl, sym, ap, ◌∙◌, arith}
use Rattle.std.specs.List.{list_any}

pub drop_here : {X : Type 0} (xs : List X) (i : ℕ) (d : X) → i < length xs → drop i xs ≡ get_or xs i d ∷ drop (suc i) xs
drop_here [] i d lt = absurd (omega (arith, lt))
drop_here (x ∷ xs) zero d lt = refl
drop_here (x ∷ xs) (suc i) d lt = drop_here xs i d (omega (arith, lt))

drop_end : {X : Type 0} (xs : List X) (i : ℕ) → length xs ≤ i → drop i xs ≡ []
drop_end [] zero h = refl
drop_end [] (suc i) h = refl
drop_end (x ∷ xs) zero h = absurd (omega (arith, h))
drop_end (x ∷ xs) (suc i) h = drop_end xs i (omega (arith, h))

at_client : (xs : List (Option (List ℕ))) (i : ℕ) (b r : Bool) → i < length xs → is_some (get_or xs i None) ≡ b → list_any is_some (drop i xs) ≡ r → b || list_any is_some (drop (suc i) xs) ≡ r
at_client xs i b r lt h inv = ap (λ v. v || list_any is_some (drop (suc i) xs)) (sym h) ∙ (ap (list_any is_some) (sym (drop_here xs i None lt)) ∙ inv)

pub some_here : (xs : List (Option (List ℕ))) (i : ℕ) (r : Bool) → i < length xs → is_some (get_or xs i None) ≡ true → list_any is_some (drop i xs) ≡ r → true ≡ r
some_here xs i r lt h inv = at_client xs i true r lt h inv

pub none_here : (xs : List (Option (List ℕ))) (i : ℕ) (r : Bool) → i < length xs → is_some (get_or xs i None) ≡ false → list_any is_some (drop i xs) ≡ r → list_any is_some (drop (i + 1) xs) ≡ r
none_here xs i r lt h inv = let k : i + 1 ≡ suc i = omega arith in ap (λ n. list_any is_some (drop n xs)) k ∙ at_client xs i false r lt h inv

pub none_left : (xs : List (Option (List ℕ))) (i : ℕ) (r : Bool) → length xs ≤ i → list_any is_some (drop i xs) ≡ r → false ≡ r
none_left xs i r h inv = ap (list_any is_some) (sym (drop_end xs i h)) ∙ inv

pub same_some : {X Y : Type 0} (f : X → Y) (o : Option X) (p : Option Y) (b c : Bool) → option_map f o ≡ p → b ≡ is_some o → b ≡ c → is_some p ≡ c
same_some f None p b c e is h = ap is_some (sym e) ∙ (sym is ∙ h)
same_some f (Some x) p b c e is h = ap is_some (sym e) ∙ (sym is ∙ h)
