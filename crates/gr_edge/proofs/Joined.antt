-- From which tick on a late subscriber wants an event
use Rattle.std.proofs.Common.{◌≡◌, ℕ, ◌≤◌, ◌+◌, Bool, true, false, ◌&&◌, ◌||◌, [], ◌∷◌, Option, Some, None, arith, refl, sym, ap, ◌∙◌}
use Rattle.std.specs.Prelude.{nat_eq, nat_lt, nat_le, if◌then◌else◌}
use Rattle.std.proofs.lemmas.Bool.{or_parts, or_from, and_right, lt-leb, eqb-true}
use Rattle.std.proofs.lemmas.Bool.Decides.{nat_tests}
use Rattle.gr_event.specs.declared.limits.TheConstants.{MAX_JOIN_TICK}
use Rattle.gr_event.specs.declared.join.Join.{Join}
use Rattle.gr_event.specs.Joins.{Joins, joined_below, has_joined, tick_of, JoinsRise, JoinOnce}

-- ---- the one join of a subscriber

-- a tick is past the one given, if any
abbrev is_past : Option ℕ → ℕ → Bool
is_past None t = false
is_past (Some u) t = nat_lt u t

none_below : (js : Joins) (s t : ℕ) → has_joined js s ≡ false → joined_below js s t ≡ false
none_below [] s t h = refl
none_below (j ∷ js) s t h =
    let parts = or_parts (nat_eq j.subscriber s) (has_joined js s) h in
    or_from (nat_eq j.subscriber s && nat_lt j.tick t) (joined_below js s t) (ap (λ b. b && nat_lt j.tick t) parts.0) (none_below js s t parts.1)

alone : (b rest : Bool) → rest ≡ false → (b || rest) ≡ b
alone true rest e = refl
alone false rest e = e

joined_first : (j : Join) (js : Joins) (s t : ℕ) → has_joined js j.subscriber ≡ false → joined_below js s t ≡ is_past (tick_of js s) t
    → (b : Bool) → nat_eq j.subscriber s ≡ b → ((b && nat_lt j.tick t) || joined_below js s t) ≡ is_past (if b then Some j.tick else tick_of js s) t
joined_first j js s t once rest true e = alone (nat_lt j.tick t) (joined_below js s t) (none_below js s t (ap (has_joined js) (sym (eqb-true j.subscriber s e)) ∙ once))
joined_first j js s t once rest false e = rest

pub joined_is : (js : Joins) (s t : ℕ) → JoinOnce js → joined_below js s t ≡ is_past (tick_of js s) t
joined_is [] s t h = refl
joined_is (j ∷ js) s t h = joined_first j js s t h.0 (joined_is js s t h.1) (nat_eq j.subscriber s) refl

tick_first : (j : Join) (js : Joins) (s u : ℕ) → j.tick ≤ MAX_JOIN_TICK → (tick_of js s ≡ Some u → u ≤ MAX_JOIN_TICK)
    → (b : Bool) → (if b then Some j.tick else tick_of js s) ≡ Some u → u ≤ MAX_JOIN_TICK
tick_first j js s u small rest true e = let same : j.tick ≡ u = cc in omega (arith, small, same)
tick_first j js s u small rest false e = rest e

pub tick_small : (from : ℕ) (js : Joins) (s u : ℕ) → JoinsRise from js → tick_of js s ≡ Some u → u ≤ MAX_JOIN_TICK
tick_small from [] s u h e = absurd (cc)
tick_small from (j ∷ js) s u h e = tick_first j js s u h.1 (tick_small j.tick js s u h.3) (nat_eq j.subscriber s) e

-- ---- what one late subscriber wants

-- it has not joined
pub never_joined : (js : Joins) (s t : ℕ) (b : Bool) → JoinOnce js → tick_of js s ≡ None → (b && joined_below js s t) ≡ false
never_joined js s t b once e = and_right b (joined_below js s t) (joined_is js s t once ∙ ap (λ o. is_past o t) e)

-- it wants the event past its join
pub past_join : (js : Joins) (s t u : ℕ) (b : Bool) → JoinOnce js → tick_of js s ≡ Some u → b ≡ true → (b && joined_below js s t) ≡ nat_le (u + 1) t
past_join js s t u b once e fits = ap (λ x. x && joined_below js s t) fits ∙ joined_is js s t once ∙ ap (λ o. is_past o t) e ∙ behind u t
  where
    behind : (n m : ℕ) → nat_lt n m ≡ nat_le (n + 1) m
    behind n m = grind (arith, nat_tests)

-- no tick comes behind the last one
pub past_all : (t most : ℕ) → t ≤ most → nat_le (most + 1) t ≡ false
past_all t most h = lt-leb (most + 1) t (omega (arith, h))
