-- The two lanes of a publisher, and those of another
use Rattle.std.proofs.Common.{◌≡◌, ◌≢◌, ℕ, suc, ap₂, arith}
use Rattle.gr_out.specs.Lane.{Lane}
use Rattle.gr_publog.specs.Views.{Lanes, lanes_at, AwayFrom}
use Rattle.gr_broker.specs.Lanes.{log_lane}

pub lanes_same : (f g : ℕ → Lane) (n : ℕ) → g n ≡ f n → g (suc n) ≡ f (suc n) → lanes_at g n ≡ lanes_at f n
lanes_same f g n a b = ap₂ (λ (x y : Lane). let ls : Lanes = record { first = x; second = y } in ls) a b

-- those of another publisher
pub away : (p q : ℕ) → q ≢ p → AwayFrom (log_lane p) (log_lane q) × AwayFrom (log_lane p) (suc (log_lane q))
away p q ne = (((λ e. ne (omega (arith, e))), (λ e. omega (arith, e))), ((λ e. omega (arith, e)), (λ e. ne (omega (arith, e)))))

-- stay where none is touched but those of this one
pub others_same : (f g : ℕ → Lane) (p q : ℕ) → q ≢ p → ((n : ℕ) → AwayFrom (log_lane p) n → g n ≡ f n) → lanes_at g (log_lane q) ≡ lanes_at f (log_lane q)
others_same f g p q ne others =
    let a = away p q ne in lanes_same f g (log_lane q) (others (log_lane q) a.0) (others (suc (log_lane q)) a.1)
