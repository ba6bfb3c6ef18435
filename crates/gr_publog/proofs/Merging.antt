-- Joins below a tick and past it, in their order
use Rattle.std.proofs.Common.{◌≡◌, ℕ, ◌≤◌, ◌<◌, max, Bool, true, false, nat_lt, nat_le, if◌then◌else◌, List, [], ◌∷◌, ◌++◌, refl, sym, ap, ◌∙◌, arith}
use Rattle.std.specs.List.{filter}
use Rattle.std.proofs.lemmas.Bool.{ltb-true, ltb-false, lt-ltb, le-ltb, leb-true, leb-false, le-leb, lt-leb}
use Rattle.gr_event.specs.Joins.{Joins, JoinsRise, last_tick_from}
use Rattle.gr_publog.specs.declared.record.Entry.{Entry}
use Rattle.gr_publog.specs.State.{ApartFrom, Apart, JoinsUpto, AreLate}
use Rattle.gr_publog.specs.Filled.{joins_upto, joins_past, joins_below, joins_from}

-- ---- some of them

rise_lower : (m n : ℕ) (js : Joins) → m ≤ n → JoinsRise n js → JoinsRise m js
rise_lower m n [] l r = tt
rise_lower m n (j ∷ js) l r = (omega (arith, l, r.0), r.1, r.2, r.3)

-- those that pass a test of their ticks rise too, from where the first of them is past
pub rise_in : (q : ℕ → Bool) (at low : ℕ) (js : Joins) → JoinsRise low js → ((t : ℕ) → q t ≡ true → low < t → at < t) → JoinsRise at (filter (λ j. q j.tick) js)
rise_in q at low [] r h = tt
rise_in q at low (j ∷ js) r h =
    go (q j.tick) refl (rise_in q j.tick j.tick js r.3 (λ t e l. l)) (rise_in q at j.tick js r.3 (λ t e l. h t e (omega (arith, l, r.0))))
  where
    go : (b : Bool) → q j.tick ≡ b → JoinsRise j.tick (filter (λ k. q k.tick) js) → JoinsRise at (filter (λ k. q k.tick) js) → JoinsRise at (if b then j ∷ filter (λ k. q k.tick) js else filter (λ k. q k.tick) js)
    go true e x y = (h j.tick e r.0, r.1, r.2, x)
    go false e x y = y

pub rise_past : (t low : ℕ) (js : Joins) → JoinsRise low js → JoinsRise t (joins_past t js)
rise_past t low js r = rise_in (λ k. nat_lt t k) t low js r (λ k e l. ltb-true t k e)

pub rise_below : (t low : ℕ) (js : Joins) → JoinsRise low js → JoinsRise low (joins_below t js)
rise_below t low js r = rise_in (λ k. nat_lt k t) low low js r (λ k e l. l)

pub rise_upto : (t low : ℕ) (js : Joins) → JoinsRise low js → JoinsRise low (joins_upto t js)
rise_upto t low js r = rise_in (λ k. nat_le k t) low low js r (λ k e l. l)

pub upto_in : (q : ℕ → Bool) (top : ℕ) (js : Joins) → JoinsUpto top js → JoinsUpto top (filter (λ j. q j.tick) js)
upto_in q top [] u = tt
upto_in q top (j ∷ js) u = go (q j.tick) (upto_in q top js u.1)
  where
    go : (b : Bool) → JoinsUpto top (filter (λ k. q k.tick) js) → JoinsUpto top (if b then j ∷ filter (λ k. q k.tick) js else filter (λ k. q k.tick) js)
    go true x = (u.0, x)
    go false x = x

pub late_in : (q : ℕ → Bool) (late : List ℕ) (js : Joins) → AreLate late js → AreLate late (filter (λ j. q j.tick) js)
late_in q late [] a = tt
late_in q late (j ∷ js) a = go (q j.tick) (late_in q late js a.1)
  where
    go : (b : Bool) → AreLate late (filter (λ k. q k.tick) js) → AreLate late (if b then j ∷ filter (λ k. q k.tick) js else filter (λ k. q k.tick) js)
    go true x = (a.0, x)
    go false x = x

from_in : (q : ℕ → Bool) (t : ℕ) (js : Joins) → ApartFrom t js → ApartFrom t (filter (λ j. q j.tick) js)
from_in q t [] a = tt
from_in q t (j ∷ js) a = go (q j.tick) (from_in q t js a.1)
  where
    go : (b : Bool) → ApartFrom t (filter (λ k. q k.tick) js) → ApartFrom t (if b then j ∷ filter (λ k. q k.tick) js else filter (λ k. q k.tick) js)
    go true x = (a.0, x)
    go false x = x

pub apart_in : (q : ℕ → Bool) (es : List Entry) (js : Joins) → Apart es js → Apart es (filter (λ j. q j.tick) js)
apart_in q [] js a = tt
apart_in q (e ∷ es) js a = (from_in q e.tick js a.0, apart_in q es js a.1)

-- those up to a tick are
pub up_to : (t : ℕ) (js : Joins) → JoinsUpto t (joins_upto t js)
up_to t [] = tt
up_to t (j ∷ js) = go (nat_le j.tick t) refl (up_to t js)
  where
    go : (b : Bool) → nat_le j.tick t ≡ b → JoinsUpto t (joins_upto t js) → JoinsUpto t (if b then j ∷ joins_upto t js else joins_upto t js)
    go true e x = (leb-true j.tick t e, x)
    go false e x = x

-- ---- all of them are those before and those behind

-- where all are past a tick, none is up to it or below it, and each is past it
pub none_upto : (t low : ℕ) (js : Joins) → t ≤ low → JoinsRise low js → joins_upto t js ≡ []
none_upto t low [] l r = refl
none_upto t low (j ∷ js) l r = rw (lt-leb j.tick t (omega (arith, l, r.0))) (none_upto t j.tick js (omega (arith, l, r.0)) r.3)

pub none_below : (t low : ℕ) (js : Joins) → t ≤ low → JoinsRise low js → joins_below t js ≡ []
none_below t low [] l r = refl
none_below t low (j ∷ js) l r = rw (le-ltb j.tick t (omega (arith, l, r.0))) (none_below t j.tick js (omega (arith, l, r.0)) r.3)

pub all_past : (t low : ℕ) (js : Joins) → t ≤ low → JoinsRise low js → joins_past t js ≡ js
all_past t low [] l r = refl
all_past t low (j ∷ js) l r = rw (lt-ltb t j.tick (omega (arith, l, r.0))) (ap (λ (k : Joins). j ∷ k) (all_past t j.tick js (omega (arith, l, r.0)) r.3))

pub all_from : (t low : ℕ) (js : Joins) → t ≤ low → JoinsRise low js → joins_from t js ≡ js
all_from t low [] l r = refl
all_from t low (j ∷ js) l r = rw (le-leb t j.tick (omega (arith, l, r.0))) (ap (λ (k : Joins). j ∷ k) (all_from t j.tick js (omega (arith, l, r.0)) r.3))

pub upto_and_past : (t low : ℕ) (js : Joins) → JoinsRise low js → joins_upto t js ++ joins_past t js ≡ js
upto_and_past t low [] r = refl
upto_and_past t low (j ∷ js) r = go (upto_and_past t j.tick js r.3) (nat_le j.tick t) (nat_lt t j.tick) refl refl
  where
    go : joins_upto t js ++ joins_past t js ≡ js → (x y : Bool) → nat_le j.tick t ≡ x → nat_lt t j.tick ≡ y
        → (if x then j ∷ joins_upto t js else joins_upto t js) ++ (if y then j ∷ joins_past t js else joins_past t js) ≡ j ∷ js
    go on true true ex ey = absurd (omega (arith, leb-true j.tick t ex, ltb-true t j.tick ey))
    go on true false ex ey = ap (λ (l : Joins). j ∷ l) on
    go on false true ex ey =
        let none : joins_upto t js ≡ [] = none_upto t j.tick js (omega (arith, ltb-true t j.tick ey)) r.3 in
        ap (λ (l : Joins). l ++ j ∷ joins_past t js) none ∙ ap (λ (l : Joins). j ∷ l) (sym (ap (λ (l : Joins). l ++ joins_past t js) none) ∙ on)
    go on false false ex ey = absurd (omega (arith, leb-false j.tick t ex, ltb-false t j.tick ey))

pub below_and_past : (t low : ℕ) (js : Joins) → JoinsRise low js → ApartFrom t js → joins_below t js ++ joins_past t js ≡ js
below_and_past t low [] r a = refl
below_and_past t low (j ∷ js) r a = go (below_and_past t j.tick js r.3 a.1) (nat_lt j.tick t) (nat_lt t j.tick) refl refl
  where
    go : joins_below t js ++ joins_past t js ≡ js → (x y : Bool) → nat_lt j.tick t ≡ x → nat_lt t j.tick ≡ y
        → (if x then j ∷ joins_below t js else joins_below t js) ++ (if y then j ∷ joins_past t js else joins_past t js) ≡ j ∷ js
    go on true true ex ey = absurd (omega (arith, ltb-true j.tick t ex, ltb-true t j.tick ey))
    go on true false ex ey = ap (λ (l : Joins). j ∷ l) on
    go on false true ex ey =
        let none : joins_below t js ≡ [] = none_below t j.tick js (omega (arith, ltb-true t j.tick ey)) r.3 in
        ap (λ (l : Joins). l ++ j ∷ joins_past t js) none ∙ ap (λ (l : Joins). j ∷ l) (sym (ap (λ (l : Joins). l ++ joins_past t js) none) ∙ on)
    go on false false ex ey = absurd (a.0 (omega (arith, ltb-false j.tick t ex, ltb-false t j.tick ey)))

-- those from a tick on that none has are those past it
pub from_is_past : (t : ℕ) (js : Joins) → ApartFrom t js → joins_from t js ≡ joins_past t js
from_is_past t [] a = refl
from_is_past t (j ∷ js) a = go (from_is_past t js a.1) (nat_le t j.tick) (nat_lt t j.tick) refl refl
  where
    go : joins_from t js ≡ joins_past t js → (x y : Bool) → nat_le t j.tick ≡ x → nat_lt t j.tick ≡ y → (if x then j ∷ joins_from t js else joins_from t js) ≡ (if y then j ∷ joins_past t js else joins_past t js)
    go on true true ex ey = ap (λ (l : Joins). j ∷ l) on
    go on true false ex ey = absurd (a.0 (omega (arith, leb-true t j.tick ex, ltb-false t j.tick ey)))
    go on false true ex ey = absurd (omega (arith, leb-false t j.tick ex, ltb-true t j.tick ey))
    go on false false ex ey = on

past_twice : (s t low : ℕ) (js : Joins) → s ≤ t → JoinsRise low js → joins_past t (joins_past s js) ≡ joins_past t js
past_twice s t low [] l r = refl
past_twice s t low (j ∷ js) l r = go (past_twice s t j.tick js l r.3) (nat_lt s j.tick) (nat_lt t j.tick) refl refl
  where
    go : joins_past t (joins_past s js) ≡ joins_past t js → (x y : Bool) → nat_lt s j.tick ≡ x → nat_lt t j.tick ≡ y
        → joins_past t (if x then j ∷ joins_past s js else joins_past s js) ≡ (if y then j ∷ joins_past t js else joins_past t js)
    go on true true ex ey = rw ey (ap (λ (l : Joins). j ∷ l) on)
    go on true false ex ey = rw ey on
    go on false true ex ey = absurd (omega (arith, l, ltb-false s j.tick ex, ltb-true t j.tick ey))
    go on false false ex ey = on

pub past_later : (s t low : ℕ) (js : Joins) → s ≤ t → JoinsRise low js → joins_past t (joins_past s js) ≡ joins_past t js
past_later s t low js l r = past_twice s t low js l r

-- ---- the greatest tick

last_above : (low : ℕ) (js : Joins) → JoinsRise low js → low ≤ last_tick_from low js
last_above low [] r = omega arith
last_above low (j ∷ js) r = omega (arith, r.0, last_above j.tick js r.3)

pub last_past : (lo low : ℕ) (js : Joins) → low ≤ lo → JoinsRise low js → last_tick_from lo (joins_past lo js) ≡ max lo (last_tick_from low js)
last_past lo low [] l r = omega (arith, l)
last_past lo low (j ∷ js) l r = go (nat_lt lo j.tick) refl (λ m. all_past lo j.tick js m r.3) (λ m. last_past lo j.tick js m r.3) (last_above j.tick js r.3)
  where
    go : (b : Bool) → nat_lt lo j.tick ≡ b → (lo ≤ j.tick → joins_past lo js ≡ js) → (j.tick ≤ lo → last_tick_from lo (joins_past lo js) ≡ max lo (last_tick_from j.tick js)) → j.tick ≤ last_tick_from j.tick js
        → last_tick_from lo (if b then j ∷ joins_past lo js else joins_past lo js) ≡ max lo (last_tick_from j.tick js)
    go true e f g u = ap (last_tick_from j.tick) (f (omega (arith, ltb-true lo j.tick e))) ∙ omega (arith, ltb-true lo j.tick e, u)
    go false e f g u = g (omega (arith, ltb-false lo j.tick e))

pub last_below : (t at : ℕ) (js : Joins) → at < t → last_tick_from at (joins_below t js) < t
last_below t at [] l = l
last_below t at (j ∷ js) l = go (nat_lt j.tick t) refl (last_below t at js l) (λ m. last_below t j.tick js m)
  where
    go : (b : Bool) → nat_lt j.tick t ≡ b → last_tick_from at (joins_below t js) < t → (j.tick < t → last_tick_from j.tick (joins_below t js) < t)
        → last_tick_from at (if b then j ∷ joins_below t js else joins_below t js) < t
    go true e a b = b (ltb-true j.tick t e)
    go false e a b = a
