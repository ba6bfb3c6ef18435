-- How a text begins
use Rattle.std.proofs.Common.{◌≡◌, ◌≢◌, ℕ, ◌+◌, suc, List, [], ◌∷◌, Bool, true, false, cond, refl, ap, ◌∙◌, take, get_or, arith}
use Rattle.std.specs.Prelude.{◌==◌, ◌&&◌, not, bytes_eq, codes}
use Rattle.std.specs.List.{position_or_len}
use Rattle.std.proofs.lemmas.Bool.Decides.{nat_tests}
use Rattle.gr_sched.specs.Text.{is_gap}
use Rattle.gr_sched.specs.Words.{first_word}

apart : (a b : ℕ) → a ≢ b → (a == b) ≡ false
apart a b h = grind (arith, nat_tests)

-- a text whose first byte is no `s` has another first word than `stop`
pub begins_otherwise : (text : List ℕ) → get_or text 0 0 ≢ 115 → bytes_eq (first_word text) (codes "stop") ≡ false
begins_otherwise [] h = refl
begins_otherwise (b ∷ bs) h = step (is_gap b) (position_or_len is_gap bs)
  where
    step : (v : Bool) (k : ℕ) → bytes_eq (take (cond (not v) (1 + k) 0) (b ∷ bs)) (codes "stop") ≡ false
    step true k = refl
    step false k = let one : 1 + k ≡ suc k = omega arith in
        ap (λ n. bytes_eq (take n (b ∷ bs)) (codes "stop")) one ∙ ap (λ e. e && bytes_eq (take k bs) (codes "top")) (apart b 115 h)
