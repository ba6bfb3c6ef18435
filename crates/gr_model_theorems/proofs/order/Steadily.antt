-- Steady lines are all heard
use Rattle.std.proofs.Common.{◌≡◌, inl, inr, ℕ, ◌<◌, ◌≤◌, Bool, true, false, ◌&&◌, if◌then◌else◌, List, [], ◌∷◌, ◌++◌, length, get_or, set, refl, sym, ap, ap₂, ◌∙◌, subst, arith, eq-eqb, length-set}
use Rattle.std.specs.Prelude.{nat_eq, nat_lt, nat_le, IsTrue}
use Rattle.std.proofs.lemmas.Bool.{and_from, cases_lt, lt-ltb, le-leb, eqb-true, true≢false}
use Rattle.std.proofs.lemmas.List.{get_or-set_same, get_or-set_other, get_or-replicate, length-replicate}
use Rattle.gr_event.specs.declared.event.Event.{Event}
use Rattle.gr_order.specs.Merge.{with_item, with_horizon}
use Rattle.gr_model.specs.declared.report.Report.{Report}
use Rattle.gr_model.specs.declared.report.Report.TheVariants as line
use Rattle.gr_model.specs.Orders.{Held, event_of, horizon_of, said_of, got, moved, said}
use Rattle.gr_model_calls.specs.Steady.{Steady}
use Rattle.gr_model_theorems.proofs.order.Told.{is_past, is_next, said_all, rested, begun, item}
use Rattle.gr_model_theorems.proofs.order.Hearing.{IsHeard, AllHeard, NonePassed, joined}

-- lines that are steady of each publisher, from where a subscriber's list stands
record Ready (s n : ℕ) (x : Held) (ls : List Report) : Type 0 where
  count : length x.1 ≡ n
  heard : ℕ → ℕ
  steady : (p : ℕ) → p < n → Steady s p (heard p) (get_or x.1 p 0) ls
  nowhere : (p m : ℕ) → n ≤ p → Steady s p m m ls

never_less : (t : ℕ) → t < t → ⊥
never_less t h = omega (arith, h)

own : (s k q : ℕ) → nat_eq q s ≡ true → IsTrue (nat_eq q s && nat_eq k k)
own s k q e = ap₂ (λ a b. a && b) e (eq-eqb k k refl)

-- what was reached of each publisher once a tick of one is set
set_at : (reached : List ℕ) (k p t : ℕ) → k < length reached → get_or (set reached k t) p 0 ≡ (if nat_eq k p then t else get_or reached p 0)
set_at reached k p t lt = go (nat_eq k p) refl
  where
    go : (c : Bool) → nat_eq k p ≡ c → get_or (set reached k t) p 0 ≡ (if c then t else get_or reached p 0)
    go true e = subst (λ z. get_or (set reached k t) z 0 ≡ t) (eqb-true k p e) (get_or-set_same reached k t 0 lt)
    go false e = get_or-set_other reached k p t 0 (λ z. true≢false (sym (eq-eqb k p (sym z)) ∙ e))

-- one event
got_one : (s n : ℕ) (x : Held) (q k t : ℕ) (e : Event) (ls : List Report) → Ready s n x (line.Got q k t e ∷ ls) → IsHeard s x (event_of q k t e) × Ready s n (said s x (event_of q k t e)) ls
got_one s n x q k t e ls r = (heard, by_own (nat_eq q s) refl)
  where
    heard : nat_eq q s ≡ true → is_past x k t ≡ true
    heard y = elim (cases_lt k n) [
      | inl lt ↦ let c = r.count in let past : get_or x.1 k 0 < t = (r.steady k lt).0 (own s k q y) in
          and_from (nat_lt k (length x.1)) (nat_lt (get_or x.1 k 0) t) (lt-ltb k (length x.1) (omega (arith, c, lt))) (lt-ltb (get_or x.1 k 0) t past)
      | inr ge ↦ absurd (never_less t ((r.nowhere k t ge).0 (own s k q y)))
    ]

    there : nat_eq q s ≡ true → k < length x.1
    there y = elim (cases_lt k n) [
      | inl lt ↦ let c = r.count in omega (arith, c, lt)
      | inr ge ↦ absurd (never_less t ((r.nowhere k t ge).0 (own s k q y)))
    ]

    none : (p m : ℕ) → n ≤ p → Steady s p m m ls
    none p m ge = go (nat_eq q s && nat_eq k p) refl ((r.nowhere p t ge).0) ((r.nowhere p m ge).1)
      where
        go : (c : Bool) → (nat_eq q s && nat_eq k p) ≡ c → (IsTrue c → t < t) → Steady s p m (if c then t else m) ls → Steady s p m m ls
        go true y no_more more = absurd (never_less t (no_more refl))
        go false y no_more more = more

    by_own : (c : Bool) → nat_eq q s ≡ c → Ready s n (if c then got x.0 x.1 k t e else x) ls
    by_own true y = by_past (is_past x k t) (heard y) (there y)
      where
        by_past : (d : Bool) → d ≡ true → k < length x.1 → Ready s n (if d then (with_item x.0 (item k t e), set x.1 k t) else x) ls
        by_past true z lt = record {
          count = length-set x.1 k t ∙ r.count;
          heard = r.heard;
          steady = λ p l. subst (λ v. Steady s p (r.heard p) v ls) (ap (λ c. if c && nat_eq k p then t else get_or x.1 p 0) y ∙ sym (set_at x.1 k p t lt)) ((r.steady p l).1);
          nowhere = none;
        }
        by_past false z lt = absurd (true≢false (sym z))
    by_own false y = record {
      count = r.count;
      heard = r.heard;
      steady = λ p l. subst (λ c. Steady s p (r.heard p) (if c && nat_eq k p then t else get_or x.1 p 0) ls) y ((r.steady p l).1);
      nowhere = none;
    }

-- one horizon
moved_one : (s n : ℕ) (x : Held) (q k t : ℕ) (ls : List Report) → Ready s n x (line.Horizon q k t ∷ ls) → IsHeard s x (horizon_of q k t) × Ready s n (said s x (horizon_of q k t)) ls
moved_one s n x q k t ls r = (heard, by_own (nat_eq q s) refl)
  where
    next : ℕ → ℕ
    next p = if nat_eq q s && nat_eq k p then t else r.heard p

    heard : nat_eq q s ≡ true → is_next x k t ≡ true
    heard y = elim (cases_lt k n) [
      | inl lt ↦ let c = r.count in let upto : get_or x.1 k 0 ≤ t = ((r.steady k lt).0 (own s k q y)).1 in
          and_from (nat_lt k (length x.1)) (nat_le (get_or x.1 k 0) t) (lt-ltb k (length x.1) (omega (arith, c, lt))) (le-leb (get_or x.1 k 0) t upto)
      | inr ge ↦ absurd (never_less t ((r.nowhere k t ge).0 (own s k q y)).0)
    ]

    there : nat_eq q s ≡ true → k < length x.1
    there y = elim (cases_lt k n) [
      | inl lt ↦ let c = r.count in omega (arith, c, lt)
      | inr ge ↦ absurd (never_less t ((r.nowhere k t ge).0 (own s k q y)).0)
    ]

    none : (p m : ℕ) → n ≤ p → Steady s p m m ls
    none p m ge = go (nat_eq q s && nat_eq k p) refl ((r.nowhere p t ge).0) ((r.nowhere p m ge).1)
      where
        go : (c : Bool) → (nat_eq q s && nat_eq k p) ≡ c → (IsTrue c → (t < t) × (t ≤ t)) → Steady s p (if c then t else m) (if c then t else m) ls → Steady s p m m ls
        go true y no_more more = absurd (never_less t (no_more refl).0)
        go false y no_more more = more

    by_own : (c : Bool) → nat_eq q s ≡ c → Ready s n (if c then moved x.0 x.1 k t else x) ls
    by_own true y = by_next (is_next x k t) (heard y) (there y)
      where
        by_next : (d : Bool) → d ≡ true → k < length x.1 → Ready s n (if d then (with_horizon x.0 k t, set x.1 k t) else x) ls
        by_next true z lt = record {
          count = length-set x.1 k t ∙ r.count;
          heard = next;
          steady = λ p l. subst (λ v. Steady s p (next p) v ls) (ap (λ c. if c && nat_eq k p then t else get_or x.1 p 0) y ∙ sym (set_at x.1 k p t lt)) ((r.steady p l).1);
          nowhere = none;
        }
        by_next false z lt = absurd (true≢false (sym z))
    by_own false y = record {
      count = r.count;
      heard = next;
      steady = λ p l. subst (λ c. Steady s p (next p) (if c && nat_eq k p then t else get_or x.1 p 0) ls) y ((r.steady p l).1);
      nowhere = none;
    }

-- one line
ready_one : (s n : ℕ) (x : Held) (l : Report) (ls : List Report) → Ready s n x (l ∷ ls) → IsHeard s x (said_of l) × Ready s n (said s x (said_of l)) ls
ready_one s n x (line.Got q k t e) ls r = got_one s n x q k t e ls r
ready_one s n x (line.Horizon q k t) ls r = moved_one s n x q k t ls r
ready_one s n x _ ls r = (tt, record { count = r.count; heard = r.heard; steady = r.steady; nowhere = r.nowhere })

record AllReady (s n : ℕ) (x : Held) (ls ms : List Report) : Type 0 where
  heard : AllHeard s x ls
  left : Ready s n (said_all s x ls) ms

ready_all : (s n : ℕ) (x : Held) (ls ms : List Report) → Ready s n x (ls ++ ms) → AllReady s n x ls ms
ready_all s n x [] ms r = record { heard = tt; left = r }
ready_all s n x (l ∷ ls) ms r =
    let one = ready_one s n x l (ls ++ ms) r in
    let more = ready_all s n (said s x (said_of l)) ls ms one.1 in
    record { heard = (one.0, more.heard); left = more.left }

ready_steps : (s n : ℕ) (x : Held) (rs : List (List Report)) → Ready s n x (joined rs) → NonePassed s x rs
ready_steps s n x [] r = tt
ready_steps s n x (ls ∷ rs) r =
    let a = ready_all s n x ls (joined rs) r in
    (a.heard, ready_steps s n (rested (said_all s x ls)) rs (record { count = a.left.count; heard = a.left.heard; steady = a.left.steady; nowhere = a.left.nowhere }))

-- no line of a subscriber is passed over where the lines are steady of each publisher
pub none_passed : (s n : ℕ) (rs : List (List Report)) → ((p : ℕ) → p < n → Steady s p 0 0 (joined rs)) → ((p m : ℕ) → n ≤ p → Steady s p m m (joined rs)) → NonePassed s (begun n) rs
none_passed s n rs a b = ready_steps s n (begun n) rs (record {
  count = length-replicate n 0;
  heard = λ p. 0;
  steady = λ p lt. subst (λ v. Steady s p 0 v (joined rs)) (sym (get_or-replicate n p 0 0 lt)) (a p lt);
  nowhere = b;
})
