-- What stands behind a base gives what the lane holds
use Rattle.std.proofs.Common.{◌≡◌, ℕ, ◌+◌, List, [], length, drop, Result, Ok, refl, sym, subst}
use Rattle.std.specs.Prelude.{MatchResult}
use Rattle.gr_publog.specs.declared.record.Base.{Base}
use Rattle.gr_publog.specs.declared.record.LogFault.{LogFault}
use Rattle.gr_publog.specs.declared.head.Standing.TheVariants.{New}
use Rattle.gr_publog.specs.Gives.{Fails}
use Rattle.gr_publog.specs.State.{LogState, Footing, held_by}
use Rattle.gr_publog.specs.Text.{begun, base_in, records_in, text_in, placed, placed_in}

pub new_gives : {X : Type 0} (v : X → LogState × ℕ) (r : Result X LogFault) (late : List ℕ) (g : ℕ) (bytes : List ℕ) (b : Base) (left : List ℕ) (f : Footing) → base_in (length bytes) late (drop 6 bytes) ≡ Ok (b, left) → held_by f [] ≡ begun late b
    → MatchResult r (λ x. placed (length bytes) (records_in (length bytes + 1) (length bytes) (held_by f []) left) ≡ Ok (v x)) (λ e. Fails e (placed (length bytes) (records_in (length bytes + 1) (length bytes) (held_by f []) left)))
    → MatchResult r (λ x. placed_in late (New g) bytes ≡ Ok (v x)) (λ e. Fails e (placed_in late (New g) bytes))
unfolding text_in
new_gives v r late g bytes b left f read is h =
    let all : text_in late (New g) bytes ≡ records_in (length bytes + 1) (length bytes) (held_by f []) left = rw (text_in, read, is) refl in
    subst (λ (a : Result (LogState × List ℕ) ℕ). MatchResult r (λ x. placed (length bytes) a ≡ Ok (v x)) (λ e. Fails e (placed (length bytes) a))) (sym all) h
