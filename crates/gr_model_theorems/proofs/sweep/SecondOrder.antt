-- What each broker's turn keeps holds once all brokers have had their
-- turn by rising depth, since every depth is gone through in order
use Rattle.std.proofs.Common.{◌≡◌, ◌≢◌, ◌⊎◌, inl, inr, ℕ, suc, zero, ◌+◌, ◌<◌, sym, subst, arith}
use Rattle.std.specs.Prelude.{nat_eq, filter, flat_map}
use Rattle.std.proofs.lemmas.Bool.{cases_eq, eq-eqb, ne_eqb}
use Rattle.gr_model.specs.Net.{Net, numbers_from}
use Rattle.gr_model.specs.World.{World, Transition, in_turn, at_depth, outwards}
use Rattle.gr_model_calls.proofs.runs.Chains.{in_turn_append}

-- a broker has had its turn, where those of depth d have it from 0 on and a is next
abbrev pub Had : Net → ℕ → ℕ → ℕ → ℕ → Type 0
Had net p d a b = (net.depth p b < d) ⊎ ((net.depth p b ≡ d) × (b < a))

-- what each turn keeps, and each broker of another depth, and the next depth
pub record IsTurnByTurn (net : Net) (p : ℕ) (f : World → ℕ → Transition) (P : ℕ → ℕ → World → Type 0) : Type 0 where
  pub turn : (d a : ℕ) (w : World) → a < net.brokers → net.depth p a ≡ d → P d a w → P d (suc a) (f w a).world
  pub skip : (d a : ℕ) (w : World) → a < net.brokers → net.depth p a ≢ d → P d a w → P d (suc a) w
  pub deeper : (d : ℕ) (w : World) → P d net.brokers w → P (suc d) 0 w

one_depth : (net : Net) (p : ℕ) (f : World → ℕ → Transition) (P : ℕ → ℕ → World → Type 0) → IsTurnByTurn net p f P → (d a k : ℕ) (w : World) → a + k ≡ net.brokers → P d a w → P d net.brokers (in_turn f (filter (λ b. nat_eq (net.depth p b) d) (numbers_from a k)) w).world
one_depth net p f P c d a zero w e h = subst (λ z. P d z w) (omega (arith, e)) h
one_depth net p f P c d a (suc k) w e h =
    elim (cases_eq (net.depth p a) d) [
      | inl g ↦ rw (eq-eqb (net.depth p a) d g) (one_depth net p f P c d (suc a) k (f w a).world (omega (arith, e)) (c.turn d a w (omega (arith, e)) g h))
      | inr g ↦ rw (ne_eqb (net.depth p a) d g) (one_depth net p f P c d (suc a) k w (omega (arith, e)) (c.skip d a w (omega (arith, e)) g h))
    ]

all_depths : (net : Net) (p : ℕ) (f : World → ℕ → Transition) (P : ℕ → ℕ → World → Type 0) → IsTurnByTurn net p f P → (d k : ℕ) (w : World) → P d 0 w → P (d + k) 0 (in_turn f (flat_map (at_depth net p) (numbers_from d k)) w).world
all_depths net p f P c d zero w h = subst (λ z. P z 0 w) (omega arith) h
all_depths net p f P c d (suc k) w h =
    let u = (in_turn f (at_depth net p d) w).world in
    let i = all_depths net p f P c (suc d) k u (c.deeper d u (one_depth net p f P c d 0 net.brokers w (omega arith) h)) in
    subst (λ z. P (d + suc k) 0 z) (sym (in_turn_append f (at_depth net p d) (flat_map (at_depth net p) (numbers_from (suc d) k)) w)) (subst (λ z. P z 0 (in_turn f (flat_map (at_depth net p) (numbers_from (suc d) k)) u).world) (omega arith) i)

-- after all turns
pub outwards_in_turn : (net : Net) (p : ℕ) (f : World → ℕ → Transition) (P : ℕ → ℕ → World → Type 0) → IsTurnByTurn net p f P → (w : World) → P 0 0 w → P net.brokers 0 (in_turn f (outwards net p) w).world
outwards_in_turn net p f P c w h = subst (λ z. P z 0 (in_turn f (outwards net p) w).world) (omega arith) (all_depths net p f P c 0 net.brokers w h)
