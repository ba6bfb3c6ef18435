-- A set of datagrams, seen as pairs: one more in the set is one more among the pairs, at the same place
use Rattle.std.proofs.Common.{◌≡◌, ℕ, ◌+◌, ◌||◌, ◌&&◌, Bool, true, false, not, List, [], ◌∷◌, ◌++◌, Vec, Global, refl, ap, ap₂, ◌∙◌, cond, nat_eq}
use Rattle.std.specs.Prelude.{if◌then◌else◌}
use Rattle.std.specs.List.{list_any, position_or_len, AllByRecursion, IsDistinct}
use Rattle.std.specs.Cmp.Lexicographic.{pointwise}
use Rattle.indexmap.specs.IndexSet.{insert_key}
use Rattle.gr_audit.specs.Joint.{Key, same_key, has}
use Rattle.gr_audit.specs.Links.{keys_seen, with_key, key_number}

abbrev Held : Type 0
Held = ℕ × Vec ℕ Global

abbrev same_held : Held → Held → Bool
same_held x y = nat_eq x.0 y.0 && pointwise nat_eq x.1.items y.1.items

abbrev seen : Held → Key
seen k = (k.0, k.1.items)

all_seen : (k : Held) (ks : List Held) → AllByRecursion (λ y. same_held k y ≡ false) ks → AllByRecursion (λ y. same_key (seen k) y ≡ false) (keys_seen ks)
all_seen k [] h = tt
all_seen k (x ∷ ks) h = (h.0, all_seen k ks h.1)

pub distinct_seen : (ks : List Held) → IsDistinct same_held ks → IsDistinct same_key (keys_seen ks)
unfolding IsDistinct
distinct_seen [] h = tt
distinct_seen (k ∷ ks) h = (all_seen k ks h.0, distinct_seen ks h.1)

any_seen : (k : Held) (ks : List Held) → list_any (same_held k) ks ≡ has (keys_seen ks) (seen k)
any_seen k [] = refl
any_seen k (x ∷ ks) = ap (λ b. same_held k x || b) (any_seen k ks)

place_seen : (k : Held) (ks : List Held) → position_or_len (same_held k) ks ≡ key_number (keys_seen ks) (seen k)
place_seen k [] = refl
place_seen k (x ∷ ks) = ap (λ n. cond (not (same_held k x)) (1 + n) 0) (place_seen k ks)

seen_end : (ks : List Held) (k : Held) → keys_seen (ks ++ k ∷ []) ≡ keys_seen ks ++ seen k ∷ []
seen_end [] k = refl
seen_end (x ∷ ks) k = ap (λ l. seen x ∷ l) (seen_end ks k)

inserted_by : (a b : Bool) (ks : List Held) (k : Held) → a ≡ b → keys_seen (if a then ks else ks ++ k ∷ []) ≡ (if b then keys_seen ks else keys_seen ks ++ seen k ∷ [])
inserted_by true true ks k e = refl
inserted_by false false ks k e = seen_end ks k
inserted_by true false ks k e = absurd (cc)
inserted_by false true ks k e = absurd (cc)

pub key_inserted : (ks more : List Held) (now : List Key) (to : ℕ) (copy : Vec ℕ Global) (bytes : List ℕ) → keys_seen ks ≡ now → copy.items ≡ bytes → more ≡ insert_key same_held ks (to, copy)
    → keys_seen more ≡ with_key now (to, bytes)
key_inserted ks more now to copy bytes view same e =
    ap keys_seen e
    ∙ (inserted_by (list_any (same_held (to, copy)) ks) (has (keys_seen ks) (to, copy.items)) ks (to, copy) (any_seen (to, copy) ks)
    ∙ ap₂ (λ l b. with_key l (to, b)) view same)

pub key_placed : (ks : List Held) (now : List Key) (to : ℕ) (copy : Vec ℕ Global) (bytes : List ℕ) (n : ℕ) → keys_seen ks ≡ now → copy.items ≡ bytes → n ≡ position_or_len (same_held (to, copy)) ks
    → n ≡ key_number now (to, bytes)
key_placed ks now to copy bytes n view same e = e ∙ (place_seen (to, copy) ks ∙ ap₂ (λ l b. key_number l (to, b)) view same)
