-- Room for digits.
use Rattle.std.proofs.Common.{ℕ, ◌+◌, ◌*◌, ◌^◌, ◌<◌, ◌≤◌, arith}
use Rattle.std.proofs.Math.Nat.{pow-le-pow_right}

-- there is room for one more digit
pub room : (i n value : ℕ) → n ≤ 19 → i < n → value < 10 ^ i → value * 10 + 9 < 2 ^ 64
room i n value short here small =
    let most : 10 ^ i ≤ 10 ^ 18 = pow-le-pow_right (let k : 1 ≤ 10 = omega arith in k) (let k : i ≤ 18 = omega arith in k) in
    omega (arith, most)
