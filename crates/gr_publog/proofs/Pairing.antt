-- Each pair of images opens as before or as after
use Rattle.std.proofs.Common.{◌≡◌, inl, inr, ℕ, suc, ◌+◌, true, false, List, ◌∷◌, ◌++◌, length, drop, sym, ap, ◌∙◌, subst, arith, Result, Ok, append_assoc, length-append}
use Rattle.std.specs.Int.{to_be_bytes, w64}
use Rattle.gr_publog.specs.declared.head.Standing.{Standing}
use Rattle.gr_publog.specs.declared.head.Standing.TheVariants.{Shut, Old, New}
use Rattle.gr_publog.specs.declared.head.Present.{Present}
use Rattle.gr_publog.specs.declared.head.Present.TheVariants.{Neither, First, Second}
use Rattle.gr_publog.specs.Text.{◌>>=◌, stamp, head_in, standing_of}
use Rattle.gr_publog.specs.Lanes.{present_of, read_by, pair_in}
use Rattle.gr_publog.specs.Rewrite.{IsShut, filled, IsBeside, Reclaiming, ShutIs, FilledIs, TwoAre, LowerIs}
use Rattle.gr_publog.proofs.Reading.{front_stands}

-- a filled lane stands open
pub filled_stands : FilledIs
filled_stands first g rest before low high =
    let behind : List ℕ = drop (6 + length (to_be_bytes w64 g ++ rest)) before in
    let bytes : List ℕ = filled (to_be_bytes w64 g ++ rest) before in
    let split : bytes ≡ stamp ++ 1 ∷ (to_be_bytes w64 g ++ (rest ++ behind)) = ap (λ (l : List ℕ). 71 ∷ (76 ∷ (79 ∷ (71 ∷ (2 ∷ (1 ∷ l)))))) (append_assoc (to_be_bytes w64 g) rest behind) in
    ap (head_in first (length bytes)) split ∙ front_stands first (length bytes) g (rest ++ behind) (omega (arith, ap length split, length-append (to_be_bytes w64 g) (rest ++ behind))) low high

module _ (shut_is : ShutIs) (filled_is : FilledIs) (two : TwoAre) (lower : LowerIs) {X : Type 0} (empty : X) (text : Standing → List ℕ → Result X ℕ) where
  at : (a b : List ℕ) (p : Present) → present_of a b ≡ Ok p → pair_in empty text a b ≡ read_by empty text a b p
  unfolding pair_in
  at a b p e = ap (λ (r : Result Present ℕ). r >>= read_by empty text a b) e

  -- a lane beside the second version leaves it present
  beside_first : (g : ℕ) (a b : List ℕ) → standing_of true a ≡ Ok (New g) → IsBeside false g b → present_of a b ≡ Ok (First (New g))
  beside_first g a b s (inl h) = two a b (New g) Shut s (shut_is false b h)
  beside_first g a b s (inr (inl h)) = two a b (New g) Old s h
  beside_first g a b s (inr (inr h)) = two a b (New g) (New h.0) s h.2 ∙ (lower g h.0 h.1).0

  beside_second : (g : ℕ) (a b : List ℕ) → standing_of false b ≡ Ok (New g) → IsBeside true g a → present_of a b ≡ Ok (Second (New g))
  beside_second g a b s (inl h) = two a b Shut (New g) (shut_is true a h) s
  beside_second g a b s (inr (inl h)) = two a b Old (New g) h s
  beside_second g a b s (inr (inr h)) = two a b (New h.0) (New g) h.2 s ∙ (lower g h.0 h.1).1

  pub reclaiming : Reclaiming empty text
  reclaiming = record {
    second_lane = λ g a b rest image l u s beside o. elim o [
      | inl e ↦ inl (at a image (First (New g)) (beside_first g a image s (subst (λ (x : List ℕ). IsBeside false g x) (sym e) beside)))
      | inr (inl h) ↦ inl (at a image (First (New g)) (beside_first g a image s (inl h)))
      | inr (inr e) ↦
          let b' : List ℕ = filled (to_be_bytes w64 (suc g) ++ rest) b in
          inr (ap (λ (x : List ℕ). pair_in empty text a x) e ∙ at a b' (Second (New (suc g)))
          (two a b' (New g) (New (suc g)) s (filled_is false (suc g) rest b (omega arith) u) ∙ (lower (suc g) g (omega arith)).1))
    ];
    first_lane = λ g a b rest image l u s beside o. elim o [
      | inl e ↦ inl (at image b (Second (New g)) (beside_second g image b s (subst (λ (x : List ℕ). IsBeside true g x) (sym e) beside)))
      | inr (inl h) ↦ inl (at image b (Second (New g)) (beside_second g image b s (inl h)))
      | inr (inr e) ↦
          let a' : List ℕ = filled (to_be_bytes w64 (suc g) ++ rest) a in
          inr (ap (λ (x : List ℕ). pair_in empty text x b) e ∙ at a' b (First (New (suc g)))
          (two a' b (New (suc g)) (New g) (filled_is true (suc g) rest a (omega arith) u) s ∙ (lower (suc g) g (omega arith)).0))
    ];
    migrating = λ a b rest image s sh o. elim o [
      | inl e ↦ inl (at a image (First Old) (two a image Old Shut s (shut_is false image (subst IsShut (sym e) sh))))
      | inr (inl h) ↦ inl (at a image (First Old) (two a image Old Shut s (shut_is false image h)))
      | inr (inr e) ↦
          let b' : List ℕ = filled (to_be_bytes w64 1 ++ rest) b in
          inr (ap (λ (x : List ℕ). pair_in empty text a x) e ∙ at a b' (Second (New 1)) (two a b' Old (New 1) s (filled_is false 1 rest b (omega arith) (omega arith))))
    ];
    beginning = λ a b rest image sa sb o. elim o [
      | inl e ↦ inl (at image b Neither (two image b Shut Shut (shut_is true image (subst IsShut (sym e) sa)) (shut_is false b sb)))
      | inr (inl h) ↦ inl (at image b Neither (two image b Shut Shut (shut_is true image h) (shut_is false b sb)))
      | inr (inr e) ↦
          let a' : List ℕ = filled (to_be_bytes w64 1 ++ rest) a in
          inr (ap (λ (x : List ℕ). pair_in empty text x b) e ∙ at a' b (First (New 1)) (two a' b (New 1) Shut (filled_is true 1 rest a (omega arith) (omega arith)) (shut_is false b sb)))
    ];
  }
