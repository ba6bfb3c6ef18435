-- Walks by place over the runs of what is known: the runs before a place end before a tick, and those from there on do not.
use Rattle.std.proofs.Common.{◌≡◌, ◌≢◌, ℕ, ◌+◌, ◌-◌, ◌<◌, ◌≤◌, ◌⊎◌, inl, inr, Bool, true, false, cond, leb, max, ◌∷◌, length, take, drop, get_or, refl, sym, ap, ap₂, ◌∙◌, subst, arith}
use Rattle.std.specs.Prelude.{nat_le, if◌then◌else◌}
use Rattle.std.proofs.lemmas.Bool.{cases_Bool, cases_lt, leb-true, le-leb, and_parts, and_from, cond-true, cond-false}
use Rattle.std.proofs.lemmas.Bool.Decides.{nat_tests}
use Rattle.std.proofs.lemmas.List.{take-append-drop}
use Rattle.gr_tick.specs.declared.run.Run.{Run}
use Rattle.gr_tick.specs.Runs.{is_in, value_at}
use Rattle.gr_tick.specs.Stored.{within, between, IsRun, AreTickRuns, BeginAfter}
use Rattle.gr_tick.proofs.EditLemmas.{drop_read, AreTickRuns-drop}
use Rattle.gr_tick.proofs.RunsLemmas.{value_at-append, value_at_ahead}
use Rattle.gr_tick.proofs.StepLemmas.{ahead_at, read_values}
use Rattle.gr_tick.proofs.SeekLemmas.{run_at}
use Rattle.gr_tick.proofs.WalkLemmas.{walk_start}
use Rattle.gr_know.specs.declared.values.K.{K}
use Rattle.gr_know.specs.declared.values.K.TheVariants.{Q, S, D, F}
use Rattle.gr_event.specs.Event.{same_event}
use Rattle.gr_know.specs.Values.{Known, known_at, join_K, new_K, clash_K}
use Rattle.gr_know.specs.Clash.{IsLeastClash, IsLeastClashIn}

-- the next run ends past the end of one
pub next_here : (xs : Known) (i : ℕ) (r : Run K) → i < length xs → r ≡ get_or xs i r → AreTickRuns Q xs → (s : Run K) (rest : Known) → drop (i + 1) xs ≡ s ∷ rest → r.last + 1 ≤ s.last
next_here xs i r lt e h s rest d =
    let k : AreTickRuns Q (r ∷ s ∷ rest) = subst (λ (zs : Known). AreTickRuns Q zs) (drop_read xs i r lt e ∙ ap (λ (zs : Known). r ∷ zs) d) (AreTickRuns-drop Q xs i h) in
    omega (arith, k.1.later, k.2.0.ordered)

-- what begins after a tick does not count at it
pub front_value : (xs : Known) (i a t : ℕ) → BeginAfter (drop i xs) a → t ≤ a → known_at xs t ≡ known_at (take i xs) t
front_value xs i a t h le =
    ap (λ (ys : Known). known_at ys t) (sym (take-append-drop i xs)) ∙ value_at-append Q (take i xs) (drop i xs) t
    ∙ ap (λ v. value_at v (take i xs) t) (value_at_ahead Q (drop i xs) a t h le)

-- a tick of a run
pub in_run : (r : Run K) (t : ℕ) → is_in t r ≡ true → (r.first ≤ t) × (t ≤ r.last)
in_run r t h = let p = and_parts (nat_le r.first t) (nat_le t r.last) h in (leb-true r.first t p.0, leb-true t r.last p.1)

pub at_run : (r : Run K) (t : ℕ) → r.first ≤ t → t ≤ r.last → is_in t r ≡ true
at_run r t a b = and_from (nat_le r.first t) (nat_le t r.last) (le-leb r.first t a) (le-leb t r.last b)

-- What is new

-- where something is known nothing is new
known_old : (k v : K) → k ≢ Q → new_K k v ≡ Q
known_old Q v n = absurd (n refl)
known_old S v n = refl
known_old (D e) v n = refl
known_old F v n = refl

-- what a walk has put at a tick of a run, up to the next tick
pub record HasNews (known : ℕ → K) (r : Run K) (old new : ℕ → K) (next : ℕ) : Type 0 where
  pub at : (t : ℕ) → new t ≡ cond (between r.first next t) (cond (is_in t r) (new_K (known t) r.value) (old t)) (old t)

put_between : (f a b l t : ℕ) (w h old mid new : K) → f ≤ a → a ≤ b → mid ≡ cond (between f a t) h old → new ≡ cond (within a l t) w mid → l + 1 ≡ b → (a ≤ t → t ≤ l → w ≡ h) → new ≡ cond (between f b t) h old
put_between f a b l t w h old mid new fa ab em en el eh = by_cases (cases_Bool (within a l t))
  where
    here : within a l t ≡ true → w ≡ cond (between f b t) w old
    here y = grind (arith, nat_tests)

    other : within a l t ≡ false → cond (between f a t) h old ≡ cond (between f b t) h old
    other n = grind (arith, nat_tests)

    by_cases : (within a l t ≡ true) ⊎ (within a l t ≡ false) → new ≡ cond (between f b t) h old
    by_cases (inl y) =
        let p = and_parts (leb a t) (leb t l) y in
        en ∙ cond-true (within a l t) w mid y ∙ here y ∙ ap (λ v. cond (between f b t) v old) (eh (leb-true a t p.0) (leb-true t l p.1))
    by_cases (inr n) = en ∙ cond-false (within a l t) w mid n ∙ em ∙ other n

skip_between : (f a b t : ℕ) (h old : K) → a ≤ b → (a ≤ t → t < b → old ≡ h) → cond (between f a t) h old ≡ cond (between f b t) h old
skip_between f a b t h old ab eh = by_place (cases_lt t a) (cases_lt t b)
  where
    before : t < a → cond (between f a t) h old ≡ cond (between f b t) h old
    before lt = grind (arith, nat_tests)

    after : b ≤ t → cond (between f a t) h old ≡ cond (between f b t) h old
    after le = grind (arith, nat_tests)

    both : (c d : Bool) → old ≡ h → cond c h old ≡ cond d h old
    both true true e = refl
    both true false e = sym e
    both false true e = e
    both false false e = refl

    by_place : (t < a) ⊎ (a ≤ t) → (t < b) ⊎ (b ≤ t) → cond (between f a t) h old ≡ cond (between f b t) h old
    by_place (inl lt) q = before lt
    by_place (inr ge) (inl lt) = both (between f a t) (between f b t) (eh ge lt)
    by_place (inr ge) (inr le) = after le

-- nothing was put before the first tick
pub news_start : (known : ℕ → K) (r : Run K) (old : ℕ → K) → HasNews known r old old r.first
news_start known r old = record { at = λ t. walk_start r.first t (cond (is_in t r) (new_K (known t) r.value) (old t)) (old t) }

-- the run's value put on a range where nothing is known
pub news_put : (known : ℕ → K) (r : Run K) (old mid new : ℕ → K) (a l : ℕ) → r.first ≤ a → l ≤ r.last → HasNews known r old mid a → ((t : ℕ) → new t ≡ cond (within a l t) r.value (mid t)) → ((t : ℕ) → a ≤ t → t ≤ l → Q ≡ known t) → HasNews known r old new (max a (l + 1))
news_put known r old mid new a l fa lr n put none = by_size (cases_lt l a)
  where
    empty : (t : ℕ) → l < a → cond (within a l t) r.value (mid t) ≡ mid t
    empty t lt = grind (arith, nat_tests)

    by_size : (l < a) ⊎ (a ≤ l) → HasNews known r old new (max a (l + 1))
    by_size (inl lt) =
        let same : a ≡ max a (l + 1) = omega (arith, lt) in
        subst (HasNews known r old new) same (record { at = λ t. put t ∙ empty t lt ∙ n.at t })
    by_size (inr le) =
        let next : l + 1 ≡ max a (l + 1) = omega (arith, le) in
        subst (HasNews known r old new) next (record {
          at = λ t. put_between r.first a (l + 1) l t r.value (cond (is_in t r) (new_K (known t) r.value) (old t)) (old t) (mid t) (new t) fa (omega (arith, le)) (n.at t) (put t) refl
              (λ lo hi. ap (λ k. new_K k r.value) (none t lo hi) ∙ sym (cond-true (is_in t r) (new_K (known t) r.value) (old t) (at_run r t (omega (arith, fa, lo)) (omega (arith, lr, hi)))));
        })

-- nothing put where something is known
pub news_skip : (known : ℕ → K) (r : Run K) (old new : ℕ → K) (a b : ℕ) → a ≤ b → HasNews known r old new a → ((t : ℕ) → a ≤ t → t < b → known t ≢ Q) → ((t : ℕ) → r.first ≤ t → old t ≡ Q) → HasNews known r old new b
news_skip known r old new a b ab n some none = record {
  at = λ t. n.at t ∙ skip_between r.first a b t (cond (is_in t r) (new_K (known t) r.value) (old t)) (old t) ab (λ lo hi. skipped t lo hi (cases_Bool (is_in t r)));
}
  where
    skipped : (t : ℕ) → a ≤ t → t < b → (is_in t r ≡ true) ⊎ (is_in t r ≡ false) → old t ≡ cond (is_in t r) (new_K (known t) r.value) (old t)
    skipped t lo hi (inl y) = none t (in_run r t y).0 ∙ sym (cond-true (is_in t r) (new_K (known t) r.value) (old t) y ∙ known_old (known t) r.value (some t lo hi))
    skipped t lo hi (inr y) = sym (cond-false (is_in t r) (new_K (known t) r.value) (old t) y)

-- past the run all is put
pub news_all : (known : ℕ → K) (r : Run K) (old new : ℕ → K) (b t : ℕ) → HasNews known r old new b → r.last < b → new t ≡ cond (is_in t r) (new_K (known t) r.value) (old t)
news_all known r old new b t n lt = n.at t ∙ all r.first r.last b t (new_K (known t) r.value) (old t) lt
  where
    all : (f l b t : ℕ) (x y : K) → l < b → cond (between f b t) (cond (within f l t) x y) y ≡ cond (within f l t) x y
    all f l b t x y lt = grind (arith, nat_tests)

-- one run of a piece more
new_put : (b : Bool) (k v w : K) → cond b (new_K k v) (new_K k w) ≡ new_K k (cond b v w)
new_put true k v w = refl
new_put false k v w = refl

pub news_more : (piece : Known) (i t : ℕ) (r : Run K) (k old new : K) → i < length piece → r ≡ get_or piece i r → AreTickRuns Q piece → old ≡ new_K k (known_at (take i piece) t) → new ≡ cond (is_in t r) (new_K k r.value) old → new ≡ new_K k (known_at (take (i + 1) piece) t)
news_more piece i t r k old new lt e h eo en =
    en ∙ ap (cond (is_in t r) (new_K k r.value)) eo ∙ new_put (is_in t r) k r.value (known_at (take i piece) t) ∙ ap (new_K k) (sym (read_values Q piece i t r lt e h))

-- Clashes

clash_put : (b : Bool) (k v w : K) → cond b (clash_K k v) (clash_K k w) ≡ clash_K k (cond b v w)
clash_put true k v w = refl
clash_put false k v w = refl

clash_known : (b : Bool) (k l v : K) → cond b (clash_K k v) (clash_K l v) ≡ clash_K (cond b k l) v
clash_known true k l v = refl
clash_known false k l v = refl

both_false : (b : Bool) (x y : Bool) → (b ≡ true → x ≡ false) → y ≡ false → cond b x y ≡ false
both_false true x y h k = h refl
both_false false x y h k = k

-- one run of a piece more does not clash
pub no_clash_more : (piece : Known) (i t : ℕ) (r : Run K) (k : K) → i < length piece → r ≡ get_or piece i r → AreTickRuns Q piece → (is_in t r ≡ true → clash_K k r.value ≡ false) → clash_K k (known_at (take i piece) t) ≡ false → clash_K k (known_at (take (i + 1) piece) t) ≡ false
no_clash_more piece i t r k lt e h here before =
    ap (clash_K k) (read_values Q piece i t r lt e h) ∙ sym (clash_put (is_in t r) k r.value (known_at (take i piece) t)) ∙ both_false (is_in t r) _ _ here before

-- one run of what is known more does not clash
pub no_clash_known : (xs : Known) (i t : ℕ) (r : Run K) (v : K) → i < length xs → r ≡ get_or xs i r → AreTickRuns Q xs → clash_K r.value v ≡ false → clash_K (known_at (take i xs) t) v ≡ false → clash_K (known_at (take (i + 1) xs) t) v ≡ false
no_clash_known xs i t r v lt e h here before =
    ap (λ k. clash_K k v) (read_values Q xs i t r lt e h) ∙ sym (clash_known (is_in t r) r.value (known_at (take i xs) t) v) ∙ both_false (is_in t r) _ _ (λ y. here) before

-- the first run of what is known that clashes with a run does so at the first tick that both have
pub clash_found : (xs : Known) (i : ℕ) (r s : Run K) (tick : ℕ) (x y : K) → i < length xs → r ≡ get_or xs i r → AreTickRuns Q xs → r.first ≤ s.last → s.first ≤ s.last → r.first ≤ r.last → s.first ≤ r.last → tick ≡ max r.first s.first → x ≡ r.value → y ≡ s.value → clash_K r.value s.value ≡ true
    → ((t : ℕ) → is_in t s ≡ true → clash_K (known_at (take i xs) t) s.value ≡ false) → IsLeastClashIn (known_at xs) s tick x y
clash_found xs i r s tick x y lt e h rs so ro sr et ex ey clash none = record {
  inside = at_run s tick (omega (arith, et)) (omega (arith, et, rs, so));
  kept_is = ex ∙ there;
  came_is = ey;
  clash = ap (λ k. clash_K k s.value) (sym there) ∙ clash;
  least = λ t y lo.
      let p = in_run s t y in
      let before : t < r.first = omega (arith, et, lo, p.0) in
      ap (λ k. clash_K k s.value) (front_value xs i t t (ahead_at Q xs i t r lt e h before) (omega arith)) ∙ none t y;
}
  where
    there : r.value ≡ known_at xs tick
    there = run_at Q xs i tick r lt e h (omega (arith, et)) (omega (arith, et, ro, sr))

-- the first run of a piece that clashes does so at the least tick of all
pub clash_first : (kept : ℕ → K) (piece : Known) (i : ℕ) (r : Run K) (tick : ℕ) (x y : K) → i < length piece → r ≡ get_or piece i r → AreTickRuns Q piece → IsRun Q r → IsLeastClashIn kept r tick x y → ((t : ℕ) → clash_K (kept t) (known_at (take i piece) t) ≡ false) → IsLeastClash kept (known_at piece) tick x y
clash_first kept piece i r tick x y lt e h is c none = record {
  from_one = omega (arith, is.from_one, p.0);
  kept_is = c.kept_is;
  came_is = c.came_is ∙ there;
  clash = ap (clash_K (kept tick)) (sym there) ∙ c.clash;
  least = λ t one lo. by_place t lo (cases_lt t r.first);
}
  where
    p : (r.first ≤ tick) × (tick ≤ r.last)
    p = in_run r tick c.inside

    there : r.value ≡ known_at piece tick
    there = run_at Q piece i tick r lt e h p.0 p.1

    by_place : (t : ℕ) → t < tick → (t < r.first) ⊎ (r.first ≤ t) → clash_K (kept t) (known_at piece t) ≡ false
    by_place t lo (inl b) = ap (clash_K (kept t)) (front_value piece i t t (ahead_at Q piece i t r lt e h b) (omega arith)) ∙ none t
    by_place t lo (inr b) =
        let upto : t ≤ r.last = omega (arith, lo, p.1) in
        ap (clash_K (kept t)) (sym (run_at Q piece i t r lt e h b upto)) ∙ c.least t (at_run r t b upto) lo

-- Once a piece is joined

-- a join is unknown where both are, and nowhere else
pub join_known_left : (k v : K) → k ≢ Q → join_K k v ≢ Q
join_known_left Q v n = λ e. n refl
join_known_left S Q n = λ e. cc
join_known_left S S n = λ e. cc
join_known_left S (D e) n = λ z. cc
join_known_left S F n = λ e. cc
join_known_left (D e) Q n = λ z. cc
join_known_left (D e) S n = λ z. cc
join_known_left (D e) (D f) n = by_cases (same_event e f)
  where
    by_cases : (b : Bool) → (if b then D e else F) ≢ Q
    by_cases true = λ z. cc
    by_cases false = λ z. cc
join_known_left (D e) F n = λ z. cc
join_known_left F v n = λ z. cc

pub join_known_right : (k v : K) → v ≢ Q → join_K k v ≢ Q
join_known_right Q v n = n
join_known_right S v n = join_known_left S v (λ e. cc)
join_known_right (D e) v n = join_known_left (D e) v (λ z. cc)
join_known_right F v n = join_known_left F v (λ e. cc)

pub join_both : (k v : K) → k ≡ Q → v ≡ Q → join_K k v ≡ Q
join_both k v a b = ap₂ join_K a b

-- known ticks, then ticks that came, then known ticks
pub join_on : (known came : ℕ → K) (h a b c : ℕ) → ((t : ℕ) → h < t → t ≤ a → join_K (known t) (came t) ≢ Q) → ((t : ℕ) → a + 1 ≤ t → t ≤ b → came t ≢ Q) → ((t : ℕ) → b + 1 ≤ t → t < c → known t ≢ Q) → (t : ℕ) → h < t → t ≤ c - 1 → join_K (known t) (came t) ≢ Q
join_on known came h a b c before middle after t lo hi = by_place (cases_lt a t) (cases_lt b t)
  where
    by_place : (a < t) ⊎ (t ≤ a) → (b < t) ⊎ (t ≤ b) → join_K (known t) (came t) ≢ Q
    by_place (inr p) q = before t lo p
    by_place (inl p) (inr q) = join_known_right (known t) (came t) (middle t (omega (arith, p)) q)
    by_place (inl p) (inl q) = join_known_left (known t) (came t) (after t (omega (arith, q)) (omega (arith, hi, lo)))

-- a piece cut from two that are joined one after the other
pub joined_at : (b : Bool) (k v x y z w : K) → x ≡ (if b then k else Q) → y ≡ join_K Q x → z ≡ join_K y v → w ≡ (if b then z else Q) → w ≡ (if b then join_K k v else Q)
joined_at true k v x y z w ex ey ez ew = ew ∙ ez ∙ ap (λ q. join_K q v) (ey ∙ ex)
joined_at false k v x y z w ex ey ez ew = ew

-- the tick after the one before a tick is that tick
pub next_unknown : (xs : Known) (n : ℕ) → 1 ≤ n → known_at xs n ≡ Q → known_at xs (n - 1 + 1) ≡ Q
next_unknown xs n le e = let same : n - 1 + 1 ≡ n = omega (arith, le) in ap (known_at xs) same ∙ e
