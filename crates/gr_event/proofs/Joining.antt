-- One join more, and the last of a list
use Rattle.std.proofs.Common.{◌≡◌, ℕ, zero, suc, ◌<◌, ◌≤◌, ◌^◌, Bool, true, false, [], ◌∷◌, ◌++◌, length, drop, None, arith, refl, sym, ap, ◌∙◌}
use Rattle.std.specs.Prelude.{not, ◌&&◌, nat_eq, nat_lt, nat_le, slice_index_or}
use Rattle.std.proofs.lemmas.List.{drop_all, length_push}
use Rattle.std.proofs.lemmas.Bool.{and_parts, or_parts, or_from, ltb-true, leb-true, eqb-false, ne_eqb}
use Rattle.gr_event.specs.declared.limits.TheConstants.{MAX_JOINS, MAX_JOIN_TICK}
use Rattle.gr_event.specs.Joins.{Join, Joins, has_joined, first_split, JoinsRise, JoinOnce, AreJoins, last_tick_from, last_join_tick, may_join}

pub last_is : (t : ℕ) (js : Joins) (d : Join) (n : ℕ) → suc n ≡ length js → (slice_index_or js n d).tick ≡ last_tick_from t js
last_is t [] d n h = absurd (omega (arith, h))
last_is t (j ∷ []) d zero h = refl
last_is t (j ∷ []) d (suc n) h = absurd (omega (arith, h))
last_is t (j ∷ k ∷ js) d zero h = absurd (omega (arith, h))
last_is t (j ∷ k ∷ js) d (suc n) h = last_is j.tick (k ∷ js) d n (omega (arith, h))

-- ---- one more

rise_with : (from : ℕ) (js : Joins) (j : Join) → JoinsRise from js → last_tick_from from js < j.tick → j.tick ≤ MAX_JOIN_TICK → j.subscriber < 2 ^ 16 → JoinsRise from (js ++ j ∷ [])
rise_with from [] j h past most small = (past, most, small, tt)
rise_with from (k ∷ js) j h past most small = (h.0, h.1, h.2, rise_with k.tick js j h.3 past most small)

-- what has no join of s has none with one of another behind it
other_with : (js : Joins) (j : Join) (s : ℕ) → has_joined js s ≡ false → nat_eq j.subscriber s ≡ false → has_joined (js ++ j ∷ []) s ≡ false
other_with [] j s h e = or_from (nat_eq j.subscriber s) false e refl
other_with (k ∷ js) j s h e =
    let parts = or_parts (nat_eq k.subscriber s) (has_joined js s) h in
    or_from (nat_eq k.subscriber s) (has_joined (js ++ j ∷ []) s) parts.0 (other_with js j s parts.1 e)

turned : (a b : ℕ) → nat_eq a b ≡ false → nat_eq b a ≡ false
turned a b h = ne_eqb b a (λ e. eqb-false a b h (sym e))

pub once_with : (js : Joins) (j : Join) → JoinOnce js → has_joined js j.subscriber ≡ false → JoinOnce (js ++ j ∷ [])
once_with [] j h e = (refl, tt)
once_with (k ∷ js) j h e =
    let parts = or_parts (nat_eq k.subscriber j.subscriber) (has_joined js j.subscriber) e in
    (other_with js j k.subscriber h.0 (turned k.subscriber j.subscriber parts.0), once_with js j h.1 parts.1)

off : (v : Bool) → not v ≡ true → v ≡ false
off false e = refl
off true e = absurd (cc)

-- a join that may stand behind a list makes a list again
pub joins_with : (js : Joins) (j : Join) → AreJoins js → may_join js j ≡ true → j.subscriber < 2 ^ 16 → AreJoins (js ++ j ∷ [])
joins_with js j are may small =
    let room = nat_lt (length js) MAX_JOINS in
    let first = not (has_joined js j.subscriber) in
    let past = nat_lt (last_join_tick js) j.tick in
    let all = and_parts (room && first && past) (nat_le j.tick MAX_JOIN_TICK) may in
    let three = and_parts (room && first) past all.0 in
    let two = and_parts room first three.0 in
    record {
      few = omega (arith, length_push js j, ltb-true (length js) MAX_JOINS two.0);
      rise = rise_with 0 js j are.rise (ltb-true (last_join_tick js) j.tick three.1) (leb-true j.tick MAX_JOIN_TICK all.1) small;
      once = once_with js j are.once (off (has_joined js j.subscriber) two.1);
    }

-- ---- two lists

no_more : (n : ℕ) (js ks : Joins) → ks ≡ [] → first_split n js ks ≡ None
no_more n [] ks e = refl
no_more n (j ∷ js) ks e = ap (λ x. first_split n (j ∷ js) x) e

-- where the list that came ends there is no split
pub no_split : (at : ℕ) (kept came js ks : Joins) → kept ≡ js → came ≡ ks → length came ≤ at → first_split at (drop at kept) (drop at came) ≡ first_split 0 kept came → None ≡ first_split 0 js ks
no_split at kept came js ks e f past same =
    sym (no_more at (drop at kept) (drop at came) (drop_all at came past)) ∙ same ∙ ap (λ x. first_split 0 x came) e ∙ ap (λ x. first_split 0 js x) f
