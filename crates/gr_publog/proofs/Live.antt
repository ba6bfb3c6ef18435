-- Entries whose ticks rise, and those of them that a cut leaves
use Rattle.std.proofs.Common.{◌≡◌, le_refl, drop, ℕ, ◌<◌, ◌≤◌, true, false, nat_lt, List, [], ◌∷◌, length, refl, ap, sym, arith, lt-ltb, le-ltb}
use Rattle.std.specs.List.{filter}
use Rattle.std.proofs.lemmas.Bool.{leb-true, leb-false}
use Rattle.gr_publog.specs.declared.record.Entry.{Entry}
use Rattle.gr_publog.specs.State.{EntriesRise, first_upto}

-- Entries whose ticks rise

rise_lower : (m n : ℕ) (es : List Entry) → m ≤ n → EntriesRise n es → EntriesRise m es
rise_lower m n [] h r = tt
rise_lower m n (e ∷ es) h r = (omega (arith, h, r.0), r.1)

pub rise_drop : (from : ℕ) (es : List Entry) → EntriesRise from es → EntriesRise from (drop 1 es)
rise_drop from [] r = tt
rise_drop from (e ∷ es) r = rise_lower from e.tick es (omega (arith, r.0)) r.1

all_stay : (tick from : ℕ) (es : List Entry) → tick ≤ from → EntriesRise from es → filter (λ (e : Entry). nat_lt tick e.tick) es ≡ es
all_stay tick from [] h r = refl
all_stay tick from (e ∷ es) h r =
    let above : nat_lt tick e.tick ≡ true = lt-ltb tick e.tick (omega (arith, h, r.0)) in
    rw above (ap (λ (l : List Entry). e ∷ l) (all_stay tick e.tick es (omega (arith, h, r.0)) r.1))

-- where the first of them is past a tick, all are
pub none_cut : (tick from : ℕ) (es : List Entry) → EntriesRise from es → first_upto tick es ≡ false → filter (λ (e : Entry). nat_lt tick e.tick) es ≡ es
none_cut tick from [] r f = refl
none_cut tick from (e ∷ es) r f =
    let past : tick < e.tick = omega (arith, leb-false e.tick tick f) in
    all_stay tick tick (e ∷ es) (le_refl tick) (past, r.1)

-- one that is not leaves those that stay as they are
pub first_cut : (tick : ℕ) (es : List Entry) → first_upto tick es ≡ true
    → filter (λ (e : Entry). nat_lt tick e.tick) (drop 1 es) ≡ filter (λ (e : Entry). nat_lt tick e.tick) es
first_cut tick [] f = refl
first_cut tick (e ∷ es) f =
    let low : nat_lt tick e.tick ≡ false = le-ltb tick e.tick (leb-true e.tick tick f) in
    sym (rw low refl)

pub first_some : (tick : ℕ) (es : List Entry) → first_upto tick es ≡ true → length (drop 1 es) < length es
first_some tick [] f = absurd (cc f)
first_some tick (e ∷ es) f = omega arith
