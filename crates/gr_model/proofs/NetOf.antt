-- Every topology that was read is a tree, seen from the host of each publisher
use Rattle.std.proofs.Common.{◌≡◌, ◌⊎◌, ℕ, zero, suc, ◌+◌, ◌<◌, ◌≤◌, Bool, true, false, cond, nat_eq, List, ◌∷◌, length, Option, Some, None, refl, sym, ap, ◌∙◌, subst, inl, inr, ⊎_elim, arith, eq-eqb}
use Rattle.std.specs.List.{list_any, filter}
use Rattle.std.proofs.lemmas.Bool.{false≢true, true≢false, or_cases, or_left, or_right, cases_eq, eqb-true, false_from_ne_true}
use Rattle.gr_tree.specs.Walks.{numbers_from, numbers}
use Rattle.gr_topo.specs.Topology.{TopologyView, size, host_of, home_of, up_at, depth_at, is_child_at, subscribers_of, passes_by, IsTopology}
use Rattle.gr_topo.proofs.Children.{child_up, up_child}
use Rattle.gr_topo.proofs.Routes.{next_in, passes_on, passes_not}
use Rattle.gr_model.specs.Tree.{IsNet, IsPlace, IsDistinct}
use Rattle.gr_model.specs.NetOf.{net_of, IsRising, IsOrderly}

-- ---- numbers that pass a test

any_cond : (b : Bool) (x : ℕ) (xs : List ℕ) (c : ℕ) → list_any (λ y. nat_eq y c) (cond b (x ∷ xs) xs) ≡ true → ((b ≡ true) × (x ≡ c)) ⊎ (list_any (λ y. nat_eq y c) xs ≡ true)
any_cond true x xs c h = ⊎_elim (λ e. inl (refl, eqb-true x c e)) (λ e. inr e) (or_cases (nat_eq x c) (list_any (λ y. nat_eq y c) xs) h)
any_cond false x xs c h = inr h

cond_here : (b : Bool) (x : ℕ) (xs : List ℕ) (c : ℕ) → b ≡ true → x ≡ c → list_any (λ y. nat_eq y c) (cond b (x ∷ xs) xs) ≡ true
cond_here true x xs c h e = or_left (nat_eq x c) (list_any (λ y. nat_eq y c) xs) (eq-eqb x c e)
cond_here false x xs c h e = absurd (false≢true h)

cond_later : (b : Bool) (x : ℕ) (xs : List ℕ) (c : ℕ) → list_any (λ y. nat_eq y c) xs ≡ true → list_any (λ y. nat_eq y c) (cond b (x ∷ xs) xs) ≡ true
cond_later true x xs c h = or_right (nat_eq x c) (list_any (λ y. nat_eq y c) xs) h
cond_later false x xs c h = h

in_from : (test : ℕ → Bool) (from k c : ℕ) → list_any (λ y. nat_eq y c) (filter test (numbers_from from k)) ≡ true → (test c ≡ true) × (from ≤ c) × (c < from + k)
in_from test from zero c h = absurd (false≢true h)
in_from test from (suc k) c h =
    ⊎_elim
    (λ e. (subst (λ z. test z ≡ true) e.1 e.0, omega (arith, e.1), omega (arith, e.1)))
    (λ e. let r = in_from test (suc from) k c e in (r.0, omega (arith, r.1), omega (arith, r.2)))
    (any_cond (test from) from (filter test (numbers_from (suc from) k)) c h)

from_in : (test : ℕ → Bool) (from k c : ℕ) → from ≤ c → c < from + k → test c ≡ true → list_any (λ y. nat_eq y c) (filter test (numbers_from from k)) ≡ true
from_in test from zero c low high h = absurd (omega arith)
from_in test from (suc k) c low high h =
    elim (cases_eq from c) [
      | inl e ↦ cond_here (test from) from (filter test (numbers_from (suc from) k)) c (subst (λ z. test z ≡ true) (sym e) h) e
      | inr e ↦ cond_later (test from) from (filter test (numbers_from (suc from) k)) c (from_in test (suc from) k c (omega arith) (omega arith) h)
    ]

-- a number is among those below n that pass, exactly where it passes
pub among : (test : ℕ → Bool) (n c : ℕ) → list_any (λ y. nat_eq y c) (filter test (numbers n)) ≡ true → (test c ≡ true) × (c < n)
among test n c h = let r = in_from test 0 n c h in (r.0, omega (arith, r.2))

pub put_among : (test : ℕ → Bool) (n c : ℕ) → c < n → test c ≡ true → list_any (λ y. nat_eq y c) (filter test (numbers n)) ≡ true
put_among test n c lt h = from_in test 0 n c (omega arith) (omega arith) h

distinct_cond : (b : Bool) (x : ℕ) (xs : List ℕ) → list_any (λ y. nat_eq y x) xs ≡ false → IsDistinct xs → IsDistinct (cond b (x ∷ xs) xs)
distinct_cond true x xs h d = (h, d)
distinct_cond false x xs h d = d

-- of consecutive numbers, those that pass a test are distinct
pub distinct_from : (test : ℕ → Bool) (from k : ℕ) → IsDistinct (filter test (numbers_from from k))
distinct_from test from zero = tt
distinct_from test from (suc k) =
    distinct_cond (test from) from (filter test (numbers_from (suc from) k))
    (false_from_ne_true _ (λ h. let r = in_from test (suc from) k from h in absurd (omega (arith, r.1))))
    (distinct_from test (suc from) k)

rising_cond : (b : Bool) (x : ℕ) (xs : List ℕ) → ((y : ℕ) → list_any (λ z. nat_eq z y) xs ≡ true → x < y) → IsRising xs → IsRising (cond b (x ∷ xs) xs)
rising_cond true x xs h r = (h, r)
rising_cond false x xs h r = r

pub rising_from : (test : ℕ → Bool) (from k : ℕ) → IsRising (filter test (numbers_from from k))
rising_from test from zero = tt
rising_from test from (suc k) =
    rising_cond (test from) from (filter test (numbers_from (suc from) k))
    (λ y h. let r = in_from test (suc from) k y h in omega (arith, r.1))
    (rising_from test (suc from) k)

-- ---- paths to the host

some_or_none : (o : Option ℕ) → (o ≡ None) ⊎ ((u : ℕ) × (o ≡ Some u))
some_or_none None = inl refl
some_or_none (Some u) = inr (u, refl)

none_some : (u : ℕ) → None ≡ Some u → ⊥
none_some u e = cc

passes_here : (t : TopologyView) (p b : ℕ) → passes_by t p b b ≡ true
passes_here t p b = or_left (nat_eq b b) _ (eq-eqb b b refl)

-- a step up is one link nearer
nearer : (t : TopologyView) (p x u : ℕ) → IsTopology t → p < length t.publishers → x < length t.brokers → up_at t p x ≡ Some u → depth_at t p x ≡ suc (depth_at t p u)
nearer t p x u is lt within e = ((is.rooted p lt).up_in x u within e).2

-- each path ends at the host
passes_host : (t : TopologyView) (p : ℕ) → IsTopology t → p < length t.publishers → (k x : ℕ) → x < length t.brokers → depth_at t p x ≡ k → passes_by t p (host_of t p) x ≡ true
passes_host t p is lt zero x within d =
    elim (cases_eq x (host_of t p)) [
      | inl e ↦ subst (λ z. passes_by t p (host_of t p) z ≡ true) (sym e) (passes_here t p (host_of t p))
      | inr other ↦ let u = (is.rooted p lt).up_some x within other in absurd (omega (arith, nearer t p x u.0 is lt within u.1, d))
    ]
passes_host t p is lt (suc k) x within d =
    elim (cases_eq x (host_of t p)) [
      | inl e ↦ subst (λ z. passes_by t p (host_of t p) z ≡ true) (sym e) (passes_here t p (host_of t p))
      | inr other ↦
          let u = (is.rooted p lt).up_some x within other in
          let next = next_in t p x u.0 is lt within u.1 in
          sym (passes_on t p (host_of t p) x u.0 is lt within other u.1) ∙ passes_host t p is lt k u.0 next.0 (omega (arith, nearer t p x u.0 is lt within u.1, d))
    ]

-- a path that passes a broker passes the next one too
above_step : (t : TopologyView) (p : ℕ) → IsTopology t → p < length t.publishers → (b c x : ℕ) → up_at t p c ≡ Some b → x < length t.brokers → passes_by t p c x ≡ true
    → ((u : ℕ) → up_at t p x ≡ Some u → passes_by t p c u ≡ true → passes_by t p b u ≡ true) → passes_by t p b x ≡ true
above_step t p is lt b c x up within h before =
    elim (cases_eq x b) [
      | inl e ↦ subst (λ z. passes_by t p b z ≡ true) (sym e) (passes_here t p b)
      | inr off ↦ elim (cases_eq x c) [
        | inl e ↦ sym (passes_on t p b x b is lt within off (ap (up_at t p) e ∙ up)) ∙ passes_here t p b
        | inr apart ↦ elim (some_or_none (up_at t p x)) [
          | inl none ↦ absurd (true≢false (sym h ∙ passes_not t p c x apart none))
          | inr w ↦ sym (passes_on t p b x w.0 is lt within off w.1) ∙ before w.0 w.1 (passes_on t p c x w.0 is lt within apart w.1 ∙ h)
        ]
      ]
    ]

passes_above : (t : TopologyView) (p : ℕ) → IsTopology t → p < length t.publishers → (b c : ℕ) → up_at t p c ≡ Some b → (k x : ℕ) → x < length t.brokers → depth_at t p x ≡ k → passes_by t p c x ≡ true → passes_by t p b x ≡ true
passes_above t p is lt b c up zero x within d h = above_step t p is lt b c x up within h (λ u e g. absurd (omega (arith, nearer t p x u is lt within e, d)))
passes_above t p is lt b c up (suc k) x within d h =
    above_step t p is lt b c x up within h (λ u e g. passes_above t p is lt b c up k u (next_in t p x u is lt within e).0 (omega (arith, nearer t p x u is lt within e, d)) g)

-- a path that passes a broker, and begins at another, passes a child of it
abbrev Passed : TopologyView → ℕ → ℕ → ℕ → Type 0
Passed t p b x = (c : ℕ) × (c < length t.brokers) × (up_at t p c ≡ Some b) × (passes_by t p c x ≡ true)

child_step : (t : TopologyView) (p : ℕ) → IsTopology t → p < length t.publishers → (b x : ℕ) → x < length t.brokers → passes_by t p b x ≡ true → (x ≡ b → ⊥)
    → ((u : ℕ) → up_at t p x ≡ Some u → passes_by t p b u ≡ true → (u ≡ b → ⊥) → Passed t p b u) → Passed t p b x
child_step t p is lt b x within h off before =
    elim (some_or_none (up_at t p x)) [
      | inl none ↦ absurd (true≢false (sym h ∙ passes_not t p b x off none))
      | inr w ↦ elim (cases_eq w.0 b) [
        | inl same ↦ (x, within, w.1 ∙ ap Some same, passes_here t p x)
        | inr other ↦
            let r = before w.0 w.1 (passes_on t p b x w.0 is lt within off w.1 ∙ h) other in
            let along : passes_by t p r.0 x ≡ true = elim (cases_eq x r.0) [
              | inl e ↦ subst (λ z. passes_by t p z x ≡ true) e (passes_here t p x)
              | inr apart ↦ sym (passes_on t p r.0 x w.0 is lt within apart w.1) ∙ r.3
            ] in
            (r.0, r.1, r.2, along)
      ]
    ]

passes_child : (t : TopologyView) (p : ℕ) → IsTopology t → p < length t.publishers → (b k x : ℕ) → x < length t.brokers → depth_at t p x ≡ k → passes_by t p b x ≡ true → (x ≡ b → ⊥) → Passed t p b x
passes_child t p is lt b zero x within d h off = child_step t p is lt b x within h off (λ u e g o. absurd (omega (arith, nearer t p x u is lt within e, d)))
passes_child t p is lt b (suc k) x within d h off =
    child_step t p is lt b x within h off (λ u e g o. passes_child t p is lt b k u (next_in t p x u is lt within e).0 (omega (arith, nearer t p x u is lt within e, d)) g o)

-- ---- the parts of a topology

not_here : (t : TopologyView) (s b : ℕ) → s < length t.subscribers → list_any (λ x. nat_eq x s) (subscribers_of t b) ≡ false → home_of t s ≡ b → ⊥
not_here t s b lt out e = true≢false (sym (put_among (λ z. nat_eq (home_of t z) b) (length t.subscribers) s lt (eq-eqb (home_of t s) b e)) ∙ out)

place_in_net : (t : TopologyView) (p b : ℕ) → IsTopology t → p < length t.publishers → b < length t.brokers → IsPlace (net_of t) p b
place_in_net t p b is lt within = record {
  child_below = λ c s m k.
      let child = among (is_child_at t p b) (size t) c m in
      let below = among (λ z. passes_by t p c (home_of t z)) (length t.subscribers) s k in
      put_among (λ z. passes_by t p b (home_of t z)) (length t.subscribers) s below.1
      (passes_above t p is lt b c (child_up t p b c is lt child.0) (depth_at t p (home_of t s)) (home_of t s) (is.sound.home_in s below.1) refl below.0);
  child_not_host = λ c m. false_from_ne_true (nat_eq (host_of t p) c) (λ e.
      let up = child_up t p b c is lt (among (is_child_at t p b) (size t) c m).0 in
      none_some b (sym (is.rooted p lt).no_up ∙ ap (up_at t p) (eqb-true (host_of t p) c e) ∙ up));
  split = λ s k out.
      let below = among (λ z. passes_by t p b (home_of t z)) (length t.subscribers) s k in
      let r = passes_child t p is lt b (depth_at t p (home_of t s)) (home_of t s) (is.sound.home_in s below.1) refl below.0 (not_here t s b below.1 out) in
      (r.0, put_among (is_child_at t p b) (size t) r.0 r.1 (up_child t p b r.0 is lt r.1 r.2), put_among (λ z. passes_by t p r.0 (home_of t z)) (length t.subscribers) s below.1 r.3);
}

-- the net of each topology that was read is a tree
pub net_is : (t : TopologyView) → IsTopology t → IsNet (net_of t)
net_is t is = record {
  place = λ p b i j. place_in_net t p b is i j;
  depth_in = λ p b i j. (is.rooted p i).depth_in b j;
  host_in = λ p i. is.sound.host_in p i;
  child_in = λ p b c i j m. (among (is_child_at t p b) (size t) c m).1;
  up_in = λ p b u i j e. let next = next_in t p b u is i j e in (next.0, put_among (is_child_at t p u) (size t) b j (up_child t p u b is i j e));
  distinct = λ b j. distinct_from (λ s. nat_eq (home_of t s) b) 0 (length t.subscribers);
  here_below = λ p b s i j m.
      let here = among (λ z. nat_eq (home_of t z) b) (length t.subscribers) s m in
      put_among (λ z. passes_by t p b (home_of t z)) (length t.subscribers) s here.1 (subst (λ z. passes_by t p b z ≡ true) (sym (eqb-true (home_of t s) b here.0)) (passes_here t p b));
  all_below = λ p s i j m.
      let here = among (λ z. nat_eq (home_of t z) (home_of t s)) (length t.subscribers) s m in
      put_among (λ z. passes_by t p (host_of t p) (home_of t z)) (length t.subscribers) s here.1 (passes_host t p is i (depth_at t p (home_of t s)) (home_of t s) j refl);
  here_at = λ b s j m. eqb-true (home_of t s) b (among (λ z. nat_eq (home_of t z) b) (length t.subscribers) s m).0;
  depth_up = λ p b u i j e. nearer t p b u is i j e;
  children_once = λ p b i j. distinct_from (is_child_at t p b) 0 (size t);
  subscriber = λ s i. record { at_in = is.sound.home_in s i; here = put_among (λ z. nat_eq (home_of t z) (home_of t s)) (length t.subscribers) s i (eq-eqb (home_of t s) (home_of t s) refl) };
  up_below = λ p b i j e. (is.rooted p i).up_some b j (λ same. true≢false (sym (eq-eqb (host_of t p) b (sym same)) ∙ e));
  child_up = λ p b c i j m. child_up t p b c is i (among (is_child_at t p b) (size t) c m).0;
}

-- a host is on top, and the lists of children and subscribers rise and name what is in the topology
pub net_is_orderly : (t : TopologyView) → IsTopology t → IsOrderly (net_of t)
net_is_orderly t is = record {
  host_up = λ p i. (is.rooted p i).no_up;
  host_depth = λ p i. (is.rooted p i).top;
  children_distinct = λ p b. distinct_from (is_child_at t p b) 0 (size t);
  children_rising = λ p b. rising_from (is_child_at t p b) 0 (size t);
  subscribers_rising = λ b. rising_from (λ s. nat_eq (home_of t s) b) 0 (length t.subscribers);
  subscribers_in = λ b s m. (among (λ z. nat_eq (home_of t z) b) (length t.subscribers) s m).1;
  below_distinct = λ p b. distinct_from (λ s. passes_by t p b (home_of t s)) 0 (length t.subscribers);
  below_rising = λ p b. rising_from (λ s. passes_by t p b (home_of t s)) 0 (length t.subscribers);
  below_in = λ p b s m. (among (λ z. passes_by t p b (home_of t z)) (length t.subscribers) s m).1;
  gap = is.sound.settings.gap.0;
  idle = is.sound.settings.idle.0;
  retry = is.sound.settings.retry.0;
  quiet = is.sound.settings.quiet.0;
  cache = is.sound.settings.cache.0;
}
