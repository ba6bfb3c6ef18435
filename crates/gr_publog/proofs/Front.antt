-- The head of a lane is told by its first 14 bytes
use Rattle.std.proofs.Common.{◌≡◌, ℕ, zero, suc, ◌-◌, ◌<◌, ◌≤◌, min, Bool, true, false, nat_le, if◌then◌else◌, List, [], ◌∷◌, take, drop, get_or, Result, Ok, Err, refl, ap, ◌∙◌, arith}
use Rattle.std.proofs.lemmas.Bool.{leb-true}
use Rattle.std.proofs.lemmas.List.{drop-take, get_or-take}
use Rattle.std.specs.Int.{from_be_bytes, w64}
use Rattle.gr_publog.specs.declared.head.Standing.{Standing}
use Rattle.gr_publog.specs.declared.head.Standing.TheVariants.{New}
use Rattle.gr_publog.specs.Text.{glog, is_generation, header_fault, generation_in, head_in}

-- GLOG is four bytes
header_front : (k : ℕ) (bytes : List ℕ) → header_fault 0 glog (take (suc (suc (suc (suc k)))) bytes) ≡ header_fault 0 glog bytes
header_front k [] = refl
header_front k (a ∷ []) = refl
header_front k (a ∷ (b ∷ [])) = refl
header_front k (a ∷ (b ∷ (c ∷ []))) = refl
header_front k (a ∷ (b ∷ (c ∷ (d ∷ rest)))) = refl

-- what is looked at of two lists is the same
same_head : (first : Bool) (total : ℕ) (x y : List ℕ) → get_or x 5 0 ≡ get_or y 5 0 → get_or x 4 0 ≡ get_or y 4 0 → header_fault 0 glog x ≡ header_fault 0 glog y → generation_in total x ≡ generation_in total y
    → head_in first total x ≡ head_in first total y
unfolding head_in
same_head first total x y five four header generation = rw (five, four, header, generation) refl

abbrev value : List ℕ → Result Standing ℕ
value l = if is_generation (from_be_bytes w64 l) then Ok (New (from_be_bytes w64 l)) else Err 6

same_generation : (total : ℕ) (x y : List ℕ) → (14 ≤ total → take 8 (drop 6 x) ≡ take 8 (drop 6 y)) → generation_in total x ≡ generation_in total y
same_generation total x y same = go (nat_le 14 total) refl
  where
    go : (b : Bool) → nat_le 14 total ≡ b → (if b then value (take 8 (drop 6 x)) else Err total) ≡ (if b then value (take 8 (drop 6 y)) else Err total)
    go true e = ap value (same (leb-true 14 total e))
    go false e = refl

take_twice : (k : ℕ) (l : List ℕ) → take k (take k l) ≡ take k l
take_twice zero l = refl
take_twice (suc k) [] = refl
take_twice (suc k) (x ∷ l) = ap (λ (t : List ℕ). x ∷ t) (take_twice k l)

-- the first ones of a lane of more than 6 bytes, 14 or all that it has
pub head_front : (first : Bool) (total : ℕ) (bytes : List ℕ) (n : ℕ) → 6 < total → n ≡ min total 14 → head_in first total (take n bytes) ≡ head_in first total bytes
head_front first total bytes n long is =
    let seven : 7 ≤ n = omega (arith, is, long) in
    let more : 14 ≤ total → n ≡ 14 = λ l. omega (arith, is, l) in
    let split : n ≡ suc (suc (suc (suc (n - 4)))) = omega (arith, seven) in
    same_head first total (take n bytes) bytes (get_or-take n bytes 5 0 (omega (arith, seven))) (get_or-take n bytes 4 0 (omega (arith, seven)))
    (ap (λ (k : ℕ). header_fault 0 glog (take k bytes)) split ∙ header_front (n - 4) bytes)
    (same_generation total (take n bytes) bytes (λ l. ap (λ (k : ℕ). take 8 (drop 6 (take k bytes))) (more l) ∙ (ap (λ (l : List ℕ). take 8 l) (drop-take 6 8 bytes) ∙ take_twice 8 (drop 6 bytes))))
