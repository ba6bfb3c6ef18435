-- Which ticks are told by the first runs of a list, and that a join with what is told already changes nothing.
use Rattle.std.proofs.Common.{◌≡◌, ℕ, ◌+◌, ◌<◌, ◌≤◌, ◌⊎◌, inl, inr, Bool, true, false, ◌||◌, cond, leb, min, List, [], ◌∷◌, ◌++◌, length, take, drop, get_or, refl, sym, ap, ◌∙◌, arith}
use Rattle.std.proofs.lemmas.Bool.{leb-true, and_parts, cases_Bool, cases_lt, cond-true, cond-false}
use Rattle.gr_tick.specs.declared.run.Run.{Run}
use Rattle.gr_tick.specs.Laws.{LatticeLaws}
use Rattle.gr_tick.specs.Runs.{is_in, value_at}
use Rattle.gr_tick.specs.Stored.{is_told, within, room, growth, AreTickRuns, EndBefore, BeginAfter}
use Rattle.gr_tick.proofs.EditLemmas.{split_read}
use Rattle.gr_tick.proofs.RunsLemmas.{room-append, room_past, room_moved, AreTickRuns-back, AreTickRuns-upto, BeginAfter-back, BeginAfter-earlier, EndBefore-front, EndBefore-later}
use Rattle.gr_tick.proofs.StepLemmas.{take_at_read, run_value, growth_in, growth_most, growth_end}

in_turn : (a b c : Bool) → (a || (b || c)) ≡ ((a || b) || c)
in_turn true b c = refl
in_turn false b c = refl

module _ {V : Type 0} where
  -- the ticks of two lists
  is_told-append : (xs ys : List (Run V)) (t : ℕ) → is_told (xs ++ ys) t ≡ (is_told xs t || is_told ys t)
  is_told-append [] ys t = refl
  is_told-append (x ∷ xs) ys t = ap (λ b. is_in t x || b) (is_told-append xs ys t) ∙ in_turn (is_in t x) (is_told xs t) (is_told ys t)

  -- lowered at the ticks that were told and at those of one run more
  pub told_more : (least : V) (os : List (Run V)) (i t : ℕ) (o : Run V) (x y z : V) → i < length os → o ≡ get_or os i o → y ≡ cond (is_told (take i os) t) least x → z ≡ cond (within o.first o.last t) least y → z ≡ cond (is_told (take (i + 1) os) t) least x
  told_more least os i t o x y z lt e ey ez =
      ez ∙ ap (λ w. cond (is_in t o) least w) ey ∙ by_cases (is_told (take i os) t) (is_in t o)
      ∙ ap (λ b. cond b least x) (sym (ap (λ zs. is_told zs t) (take_at_read os i o lt e) ∙ is_told-append (take i os) (o ∷ []) t))
    where
      by_cases : (b d : Bool) → cond d least (cond b least x) ≡ cond (b || (d || false)) least x
      by_cases true true = refl
      by_cases true false = refl
      by_cases false true = refl
      by_cases false false = refl

  -- a join with a value that is at most the kept one
  pub join_below : (least : V) (join_of : V → V → V) (is_at_most : V → V → Bool) (x v : V) → LatticeLaws least join_of is_at_most → is_at_most v x ≡ true → x ≡ join_of x v
  join_below least join_of is_at_most x v laws le =
      laws.antisymmetric x (join_of x v) (laws.above_left x v) (laws.least_above x v x (laws.reflexive x) le)

  module _ (least : V) (old : List (Run V)) (i a : ℕ) (r : Run V) (lt : i < length old) (e : r ≡ get_or old i r) (h : AreTickRuns least old) (fa : r.first ≤ a) (al : a ≤ r.last) where
    split : old ≡ take i old ++ r ∷ drop (i + 1) old
    split = split_read old i r lt e

    runs : AreTickRuns least (take i old ++ r ∷ drop (i + 1) old)
    runs = rw split at h

    front : EndBefore (take i old) r.first
    front = EndBefore-front least (take i old) r (AreTickRuns-upto least (take i old) r (drop (i + 1) old) runs)

    after : BeginAfter (drop (i + 1) old) r.last
    after = BeginAfter-back least r (drop (i + 1) old) (AreTickRuns-back least (take i old) (r ∷ drop (i + 1) old) runs)

    -- nothing changes within the run
    pub unjoined_values : (join_of : V → V → V) (is_at_most : V → V → Bool) (v : V) (b t : ℕ) → LatticeLaws least join_of is_at_most → is_at_most v r.value ≡ true → b ≤ r.last → value_at least old t ≡ cond (within a b t) (join_of (value_at least old t) v) (value_at least old t)
    unjoined_values join_of is_at_most v b t laws le br = by_cases (cases_Bool (within a b t))
      where
        by_cases : (within a b t ≡ true) ⊎ (within a b t ≡ false) → value_at least old t ≡ cond (within a b t) (join_of (value_at least old t) v) (value_at least old t)
        by_cases (inl c) =
            let parts = and_parts (leb a t) (leb t b) c in
            let here : value_at least old t ≡ r.value = ap (λ ys. value_at least ys t) split ∙ run_value least (take i old) r (drop (i + 1) old) t runs (omega (arith, fa, leb-true a t parts.0)) (omega (arith, br, leb-true t b parts.1)) in
            here ∙ join_below least join_of is_at_most r.value v laws le ∙ ap (λ x. join_of x v) (sym here)
            ∙ sym (cond-true (within a b t) (join_of (value_at least old t) v) (value_at least old t) c)
        by_cases (inr c) = sym (cond-false (within a b t) (join_of (value_at least old t) v) (value_at least old t) c)

    -- past the run, a join needs no more room than from within it
    pub room_past_run : (l : ℕ) → room (r.last + 1) l old ≤ room a l old
    room_past_run l =
        omega (
          arith,
          ap (room (r.last + 1) l) split,
          ap (room a l) split,
          room-append (r.last + 1) l (take i old) (r ∷ drop (i + 1) old),
          room-append a l (take i old) (r ∷ drop (i + 1) old),
          room_past (r.last + 1) l (take i old) (EndBefore-later (take i old) r.first (r.last + 1) front (omega (arith, fa, al))),
          room-append (r.last + 1) l (r ∷ []) (drop (i + 1) old),
          room-append a l (r ∷ []) (drop (i + 1) old),
          room_past (r.last + 1) l (r ∷ []) (omega arith, tt),
          room_moved a (r.last + 1) l (drop (i + 1) old) (BeginAfter-earlier (drop (i + 1) old) r.last a after al) (omega (arith, al)),
        )

    -- so a join that changes nothing within the run leaves room enough
    pub unjoined_growth : (b l n : ℕ) → a ≤ l → b ≡ min l r.last → growth (b + 1) l old + n ≤ growth a l old + n
    unjoined_growth b l n le eb = by_place (cases_lt r.last l)
      where
        by_place : (r.last < l) ⊎ (l ≤ r.last) → growth (b + 1) l old + n ≤ growth a l old + n
        by_place (inl lo) =
            let here : b ≡ r.last = omega (arith, eb, lo) in
            omega (arith, ap (λ k. growth (k + 1) l old) here, growth_most (r.last + 1) l old, room_past_run l, growth_in a l old le)
        by_place (inr hi) = growth_end a b l old old n n le (omega (arith, eb, hi)) (omega arith)
