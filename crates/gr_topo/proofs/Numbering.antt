-- The names that a set has seen, in the order of their first appearance
use Rattle.std.proofs.Common.{◌≡◌, ℕ, List, [], ◌∷◌, ◌++◌, map, Bool, true, false, Vec, Global, refl, ap, nat_eq, ◌||◌, if◌then◌else◌}
use Rattle.std.specs.List.{list_any}
use Rattle.std.specs.Str.{bytes_eq}
use Rattle.std.specs.Cmp.Lexicographic.{pointwise}
use Rattle.indexmap.specs.IndexSet.{insert_key}

abbrev Key : Type 0
Key = Vec ℕ Global

abbrev pub texts : List Key → List (List ℕ)
texts ks = map (λ k. k.items) ks

pub any_of_texts : (name : List ℕ) (ks : List Key) → list_any (λ k. pointwise nat_eq name k.items) ks ≡ list_any (bytes_eq name) (texts ks)
any_of_texts name [] = refl
any_of_texts name (k ∷ ks) = ap (λ b. pointwise nat_eq name k.items || b) (any_of_texts name ks)

texts_end : (ks : List Key) (k : Key) → texts (ks ++ k ∷ []) ≡ texts ks ++ k.items ∷ []
texts_end [] k = refl
texts_end (x ∷ ks) k = ap (λ l. x.items ∷ l) (texts_end ks k)

by_any : (b : Bool) (ks : List Key) (k : Key) → b ≡ false → texts (if b then ks else ks ++ k ∷ []) ≡ texts ks ++ k.items ∷ []
by_any true ks k h = cc
by_any false ks k h = texts_end ks k

-- a name that was not there stands at the end
pub texts-insert_key : (ks : List Key) (k : Key) → list_any (λ x. pointwise nat_eq k.items x.items) ks ≡ false → texts (insert_key (λ x y. pointwise nat_eq x.items y.items) ks k) ≡ texts ks ++ k.items ∷ []
texts-insert_key ks k h = by_any _ ks k h
