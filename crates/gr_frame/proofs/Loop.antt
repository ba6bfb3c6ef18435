-- Reading run by run: what was read so far, before what is left, is what all gives
use Rattle.std.proofs.Common.{◌≡◌, ◌≢◌, ◌+◌, ◌<◌, ◌≤◌, ◌^◌, ◌==◌, suc, zero, ℕ, Bool, true, false, cond, if◌then◌else◌, nat_lt, List, [], ◌∷◌, ◌++◌, length, take, drop, get_or, Option, Some, Result, Ok, Err, ap, refl, sym, subst, ◌∙◌, arith, rules, append_assoc, append-nil}
use Rattle.std.specs.Prelude.{slice_get}
use Rattle.std.proofs.Math.Seq.{split_at}
use Rattle.std.proofs.lemmas.List.{drop_all}
use Rattle.std.proofs.lemmas.Option.{slice_get_within, get_or_from_slice_get}
use Rattle.gr_tick.specs.declared.run.Run.{Run}
use Rattle.gr_tick.specs.Runs.{value_at, is_in, AreRuns, Decides_same}
use Rattle.gr_tick.specs.Stored.{IsRun, AreTickRuns, EndBefore, RunsGive}
use Rattle.gr_tick.proofs.Canonical.{given_runs, AreRuns-in_range, AreTickRuns-canonical}
use Rattle.gr_tick.proofs.RunsLemmas.{value_at-append, value_at_past, AreTickRuns-push_past}
use Rattle.gr_frame.specs.declared.fault.FrameKind.{FrameKind}
use Rattle.gr_frame.specs.declared.fault.FrameKind.TheVariants as kind
use Rattle.gr_frame.specs.declared.fault.FrameFault.{FrameFault}
use Rattle.gr_frame.specs.Form.{Form}
use Rattle.gr_frame.specs.Gives.{fault, Fails, FailsAs, ◌>>=◌}
use Rattle.gr_frame.specs.Decode.{last_run, is_above, goes_on, run_size, run_at, runs_at}

-- Faults

-- a fault of a part that is a fault of all
pub fails_on : {A B : Type 0} (k : FrameKind) (at : ℕ) (part : Result A FrameFault) (all : Result B FrameFault)
    → ((e : FrameFault) → part ≡ Err e → all ≡ Err e) → FailsAs k at part → FailsAs k at all
fails_on kind.Memory at part all f h = h
fails_on k at part all f h = f _ h

-- the fault of a first step is that of all steps
pub fails_bind : {A B : Type 0} (f : FrameFault) (r : Result A FrameFault) (g : A → Result B FrameFault) → Fails f r → Fails f (r >>= g)
fails_bind f r g h = fails_on f.kind f.at r (r >>= g) (λ e a. rw a refl) h

one_bool : (b : Bool) (P : Type 0) → (b ≡ true → P) × (P → b ≡ true) → (c : Bool) → (c ≡ true → P) → (P → c ≡ true) → b ≡ c
one_bool true P h true f g = refl
one_bool true P h false f g = sym (g (h.0 refl))
one_bool false P h true f g = h.1 (f refl)
one_bool false P h false f g = refl

same_place : (a b : ℕ) → a ≡ b → (a == b) ≡ true
same_place a b h = grind (arith, rules)

other_place : (a b : ℕ) → a < b → (a == b) ≡ false
other_place a b h = grind (arith, rules)

module _ {V : Type 0} where
  -- The last run

  pub last_run-push : (rs : List (Run V)) (r : Run V) → last_run (rs ++ r ∷ []) ≡ Some r
  last_run-push [] r = refl
  last_run-push (s ∷ []) r = refl
  last_run-push (s ∷ t ∷ rs) r = last_run-push (t ∷ rs) r

  pub last_run-at : (rs : List (Run V)) (i : ℕ) (r : Run V) → slice_get rs i ≡ Some r → i + 1 ≡ length rs → last_run rs ≡ Some r
  last_run-at rs i r h n =
      let inside : i < length rs = slice_get_within rs i r h in
      let is : get_or rs i r ≡ r = get_or_from_slice_get rs i r r h in
      let none : drop (suc i) rs ≡ [] = drop_all (suc i) rs (omega arith) in
      let whole : rs ≡ take i rs ++ r ∷ [] =
      split_at rs i r inside ∙ ap (λ x. take i rs ++ x ∷ drop (suc i) rs) is ∙ ap (λ l. take i rs ++ r ∷ l) none in
      ap last_run whole ∙ last_run-push (take i rs) r

  -- runs below a tick
  pub below_first : (least : V) (rs : List (Run V)) (first : ℕ) → AreTickRuns least rs → is_above (last_run rs) first ≡ true → EndBefore rs first
  below_first least [] first a h = tt
  below_first least (r ∷ []) first a h = (grind (arith, rules), tt)
  below_first least (r ∷ s ∷ ss) first a h =
      let rest : EndBefore (s ∷ ss) first = below_first least (s ∷ ss) first a.2 h in
      (omega (arith, a.1.later, a.2.0.ordered, rest.0), rest)

  touched : (same : V → V → Bool) (p : Run V) (first : ℕ) (v : V) → Decides_same same → p.last + 1 ≡ first → goes_on same (Some p) first v ≡ false → p.value ≢ v
  touched same p first v d e h =
      let one : (suc p.last == first) ≡ true = grind (arith, rules) in
      let two : same p.value v ≡ false = rw one at h in
      (d p.value v).1 two

  -- a run above them that does not go on with the last of them
  pub joins : (least : V) (same : V → V → Bool) (rs : List (Run V)) (r : Run V) → Decides_same same → AreTickRuns least rs → IsRun least r
      → is_above (last_run rs) r.first ≡ true → goes_on same (last_run rs) r.first r.value ≡ false → AreTickRuns least (rs ++ r ∷ [])
  joins least same rs r d a is above apart =
      AreTickRuns-push_past least rs r a is (below_first least rs r.first a above)
      (λ p ps e touch. touched same p r.first r.value d touch (subst (λ o. goes_on same o r.first r.value ≡ false) (ap last_run e ∙ last_run-push ps p) apart))

  on_top : (least : V) (rs : List (Run V)) (r : Run V) (t : ℕ) (b : Bool) → EndBefore rs r.first → is_in t r ≡ b → (b ≡ true → r.first ≤ t)
      → value_at least (rs ++ r ∷ []) t ≡ cond b r.value (value_at least rs t)
  on_top least rs r t true e is le = value_at-append least rs (r ∷ []) t ∙ rw is (value_at_past r.value rs r.first t e (le refl))
  on_top least rs r t false e is le = value_at-append least rs (r ∷ []) t ∙ rw is refl

  starts : (r : Run V) (t : ℕ) → is_in t r ≡ true → r.first ≤ t
  starts r t h = grind (arith, rules)

  -- what a run was pushed onto is one run longer
  pub pushed : (least : V) (rs more : List (Run V)) (r : Run V) → AreTickRuns least (rs ++ r ∷ []) → EndBefore rs r.first
      → RunsGive least more (λ t. if is_in t r then r.value else value_at least rs t) → more ≡ rs ++ r ∷ []
  pushed least rs more r a e h =
      given_runs least more (rs ++ r ∷ []) (λ t. if is_in t r then r.value else value_at least rs t) h (AreRuns-in_range least (rs ++ r ∷ []) a)
      (λ t. on_top least rs r t (is_in t r) e refl (starts r t))

  -- runs of a piece are runs in range
  pub in_range : (least : V) (rs : List (Run V)) → AreRuns least rs → EndBefore rs (2 ^ 62 + 1) → AreTickRuns least rs
  in_range least rs a b = AreTickRuns-canonical least rs a b

  pub above_last : (rs : List (Run V)) (i first : ℕ) (r : Run V) → slice_get rs i ≡ Some r → i + 1 ≡ length rs → nat_lt r.last first ≡ is_above (last_run rs) first
  above_last rs i first r h n = rw (last_run-at rs i r h n) refl

  goes_by : (same : V → V → Bool) (r : Run V) (first : ℕ) (v : V) (b : Bool) → Decides_same same → r.last + 1 ≡ first → (b ≡ true → r.value ≡ v) → (r.value ≡ v → b ≡ true) → b ≡ goes_on same (Some r) first v
  goes_by same r first v b d e f g =
      let one : (suc r.last == first) ≡ true = grind (arith, rules) in
      rw one (one_bool b (r.value ≡ v) (f, g) (same r.value v) (λ h. (d r.value v).0 h) (λ h. tested (same r.value v) refl h))
    where
      tested : (c : Bool) → same r.value v ≡ c → r.value ≡ v → c ≡ true
      tested true q h = refl
      tested false q h = absurd ((d r.value v).1 q h)

  -- the test whether a run goes on with the last of them
  pub goes_on_last : (same : V → V → Bool) (rs : List (Run V)) (i first : ℕ) (r : Run V) (v : V) (b : Bool) → Decides_same same → slice_get rs i ≡ Some r → i + 1 ≡ length rs
      → r.last + 1 ≡ first → (b ≡ true → r.value ≡ v) → (r.value ≡ v → b ≡ true) → b ≡ goes_on same (last_run rs) first v
  goes_on_last same rs i first r v b d h n e f g = goes_by same r first v b d e f g ∙ ap (λ o. goes_on same o first v) (sym (last_run-at rs i r h n))

  pub apart_last : (same : V → V → Bool) (rs : List (Run V)) (i first : ℕ) (r : Run V) (v : V) → slice_get rs i ≡ Some r → i + 1 ≡ length rs
      → (r.last + 1 ≡ first → ⊥) → (r.last + 1 == first) ≡ goes_on same (last_run rs) first v
  apart_last same rs i first r v h n e =
      let one : (r.last + 1 == first) ≡ false = grind (arith, rules) in
      let two : (suc r.last == first) ≡ false = grind (arith, rules) in
      rw (last_run-at rs i r h n, two) one

  -- Run by run

  -- what was read, behind a front
  abbrev pub with_front : List (Run V) → Result (List (Run V)) FrameFault → Result (List (Run V)) FrameFault
  with_front front read = read >>= λ rest. Ok (front ++ rest)

  -- nothing was read yet
  pub no_front : (r : Result (List (Run V)) FrameFault) → with_front [] r ≡ r
  no_front (Ok x) = refl
  no_front (Err e) = refl

  after : (front : List (Run V)) (r : Run V) (read : Result (List (Run V)) FrameFault)
      → with_front front (read >>= λ rest. Ok (r ∷ rest)) ≡ with_front (front ++ r ∷ []) read
  after front r (Ok rest) = ap (λ l. Ok l) (sym (append_assoc front (r ∷ []) rest))
  after front r (Err e) = refl

  -- a run that was read goes behind the front
  pub run_read : (form : Form V) (found more : List (Run V)) (bytes : List ℕ) (m n at next : ℕ) (r : Run V) (all : Result (List (Run V)) FrameFault)
      → more ≡ found ++ r ∷ [] → m ≡ suc n → next ≡ at + run_size form r → run_at form bytes at (last_run found) ≡ Ok r
      → with_front found (runs_at form bytes m at (last_run found)) ≡ all → with_front more (runs_at form bytes n next (last_run more)) ≡ all
  unfolding runs_at
  run_read form found more bytes m n at next r all l d e a so_far =
      ap (λ f. with_front f (runs_at form bytes n next (last_run f))) l
      ∙ ap (λ o. with_front (found ++ r ∷ []) (runs_at form bytes n next o)) (last_run-push found r)
      ∙ ap (λ k. with_front (found ++ r ∷ []) (runs_at form bytes n k (Some r))) e
      ∙ sym (after found r (runs_at form bytes n (at + run_size form r) (Some r))) ∙ (rw (d, a) at so_far)

  refused : (form : Form V) (found : List (Run V)) (bytes : List ℕ) (m n at : ℕ) (e : FrameFault) → m ≡ suc n → run_at form bytes at (last_run found) ≡ Err e
      → with_front found (runs_at form bytes m at (last_run found)) ≡ Err e
  unfolding runs_at
  refused form found bytes m n at e d a = rw (d, a) refl

  -- a run that was refused refuses all
  pub run_refused : (form : Form V) (found : List (Run V)) (bytes : List ℕ) (m n at : ℕ) (f : FrameFault) (all : Result (List (Run V)) FrameFault)
      → m ≡ suc n → Fails f (run_at form bytes at (last_run found))
      → with_front found (runs_at form bytes m at (last_run found)) ≡ all → Fails f all
  run_refused form found bytes m n at f all d h so_far =
      fails_on f.kind f.at (run_at form bytes at (last_run found)) all (λ e a. sym so_far ∙ refused form found bytes m n at e d a) h

  at_end : (form : Form V) (found : List (Run V)) (bytes : List ℕ) (at : ℕ) (before : Option (Run V)) (b : Bool) → (at == length bytes) ≡ b
      → with_front found (runs_at form bytes zero at before) ≡ (if b then Ok found else Err (fault kind.Trailing at))
  unfolding runs_at
  at_end form found bytes at before true e = rw e (ap (λ l. Ok l) (append-nil found))
  at_end form found bytes at before false e = rw e refl

  -- after the last run
  pub ends : (form : Form V) (found : List (Run V)) (bytes : List ℕ) (n at : ℕ) (before : Option (Run V)) (all : Result (List (Run V)) FrameFault) → n ≡ 0 → at ≡ length bytes
      → with_front found (runs_at form bytes n at before) ≡ all → all ≡ Ok found
  ends form found bytes n at before all z e so_far =
      sym so_far ∙ ap (λ k. with_front found (runs_at form bytes k at before)) z ∙ at_end form found bytes at before true (same_place at (length bytes) e)

  pub trails : (form : Form V) (found : List (Run V)) (bytes : List ℕ) (n at : ℕ) (before : Option (Run V)) (all : Result (List (Run V)) FrameFault) → n ≡ 0 → at < length bytes
      → with_front found (runs_at form bytes n at before) ≡ all → all ≡ Err (fault kind.Trailing at)
  trails form found bytes n at before all z e so_far =
      sym so_far ∙ ap (λ k. with_front found (runs_at form bytes k at before)) z ∙ at_end form found bytes at before false (other_place at (length bytes) e)
