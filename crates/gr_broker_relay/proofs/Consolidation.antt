-- How far all is consolidated, and so how far a log is cut
use Rattle.std.proofs.Common.{◌≡◌, ◌≢◌, ◌⊎◌, inl, inr, ℕ, ◌+◌, ◌-◌, ◌<◌, ◌≤◌, min, Bool, true, false, ◌||◌, List, [], ◌∷◌, length, Option, Some, None, refl, sym, ap, ◌∙◌, subst, arith}
use Rattle.std.specs.Prelude.{nat_lt, if◌then◌else◌}
use Rattle.std.proofs.lemmas.Bool.{cases_lt, true≢false}
use Rattle.gr_tick.specs.Runs.{first_bottom_from}
use Rattle.gr_tick.proofs.RunLaws.{IsFirstBottom, first_bottom_from-is}
use Rattle.gr_curio.specs.declared.values.Q3.TheVariants.{N, A}
use Rattle.gr_curio.specs.Values.{Wanted, wanted_at}
use Rattle.gr_model.specs.Net.{Net, keeps_horizon, is_empty, not_empty}
use Rattle.gr_model.specs.Broker.{View, Log, horizon_if, is_consolidated, is_consolidated_by, consolidated, done_upto}
use Rattle.gr_model_calls.proofs.calls.Pieces.{consolidated-is}
use Rattle.gr_broker_relay.specs.Cuts.{tick_cut}

if_A : (q : Bool) → q ≡ true → (if q then A else N) ≢ N
if_A true e = λ h. cc
if_A false e = absurd (true≢false (sym e))

if_N : (q : Bool) → q ≡ false → (if q then A else N) ≡ N
if_N true e = absurd (true≢false e)
if_N false e = refl

-- the greatest tick within a limit up to which all is consolidated is the machine's
pub upto_is : (keeps : Bool) (h settled a : ℕ) (ws : List Wanted) → (keeps || not_empty ws) ≡ true → a ≤ settled →
    ((t : ℕ) → 1 ≤ t → t ≤ a → is_consolidated_by keeps h ws t ≡ true) → (a < settled → is_consolidated_by keeps h ws (a + 1) ≡ false) →
    a ≡ done_upto (consolidated keeps h ws) settled
unfolding done_upto
upto_is keeps h settled a ws k within each stops = by_place (cases_lt a settled) (cases_lt u (a + 1)) (cases_lt (a + 1) u)
  where
    done : Wanted
    done = consolidated keeps h ws

    u : ℕ
    u = first_bottom_from done 1

    i : IsFirstBottom N done 1 u
    i = first_bottom_from-is N 1 done 1 (consolidated-is keeps h ws k).runs

    at : (t : ℕ) → wanted_at done t ≡ (if is_consolidated_by keeps h ws t then A else N)
    at = (consolidated-is keeps h ws k).same_at

    by_place : (a < settled) ⊎ (settled ≤ a) → (u < a + 1) ⊎ (a + 1 ≤ u) → (a + 1 < u) ⊎ (u ≤ a + 1) → a ≡ min settled (u - 1)
    by_place _ (inl lt) _ = absurd (if_A (is_consolidated_by keeps h ws u) (each u i.reached (omega arith)) (sym (at u) ∙ i.stops))
    by_place (inl below) (inr ge) (inl gt) = absurd (i.known (a + 1) (omega arith) gt (at (a + 1) ∙ if_N (is_consolidated_by keeps h ws (a + 1)) (stops below)))
    by_place (inl below) (inr ge) (inr le) = omega arith
    by_place (inr full) (inr ge) _ = omega arith

-- where no horizon is kept there is a child, and so its curiosity
pub some_want : (net : Net) (p b : ℕ) (ws : List Wanted) → length ws ≡ length (net.children p b) → keeps_horizon net p b ≡ false → 0 < length ws
some_want net p b ws many none = go (net.children p b) ws many (or_right_false (not_empty (net.subscribers_at b)) (is_empty (net.children p b)) none)
  where
    or_right_false : (x y : Bool) → (x || y) ≡ false → y ≡ false
    or_right_false true y e = absurd (true≢false e)
    or_right_false false y e = e

    go : (cs : List ℕ) (vs : List Wanted) → length vs ≡ length cs → is_empty cs ≡ false → 0 < length vs
    go [] vs m e = absurd (true≢false e)
    go (c ∷ cs) vs m e = omega (arith, m)

keeps_or_some : (net : Net) (p b : ℕ) (ws : List Wanted) → length ws ≡ length (net.children p b) → (keeps_horizon net p b || not_empty ws) ≡ true
keeps_or_some net p b ws many = go (keeps_horizon net p b) refl
  where
    from_length : (vs : List Wanted) → 0 < length vs → not_empty vs ≡ true
    from_length [] lt = absurd (omega (arith, lt))
    from_length (w ∷ vs) lt = refl

    go : (q : Bool) → keeps_horizon net p b ≡ q → (q || not_empty ws) ≡ true
    go true e = refl
    go false e = from_length ws (some_want net p b ws many e)

-- so far is cut, by the tick up to which all is consolidated
pub due_is : (net : Net) (p b upto : ℕ) (v : View) (log : Log) (horizon : Option ℕ) → length v.wants ≡ length (net.children p b) → horizon ≡ horizon_if (keeps_horizon net p b) v.horizon →
    upto ≤ log.settled → ((t : ℕ) → 1 ≤ t → t ≤ upto → is_consolidated horizon v.wants t ≡ true) → (upto < log.settled → is_consolidated horizon v.wants (upto + 1) ≡ false) →
    (if nat_lt log.cut upto then Some upto else None) ≡ tick_cut net p b v log
due_is net p b upto v log horizon many is within each stops =
    ap (λ tick. if nat_lt log.cut tick then Some tick else None)
    (upto_is (keeps_horizon net p b) v.horizon log.settled upto v.wants (keeps_or_some net p b v.wants many) within
    (λ t x y. subst (λ h. is_consolidated h v.wants t ≡ true) is (each t x y))
    (λ x. subst (λ h. is_consolidated h v.wants (upto + 1) ≡ false) is (stops x)))
