-- Of journals that are hosted: each broker is in one process and in no other
use Rattle.std.proofs.Common.{◌≡◌, ◌⊎◌, inl, inr, ℕ, zero, suc, ◌+◌, ◌≤◌, ◌<◌, Bool, true, false, ◌||◌, cond, List, [], ◌∷◌, ◌++◌, Option, Some, None, length, get_or, map, refl, sym, ap, ◌∙◌, subst, arith}
use Rattle.std.specs.Prelude.{nat_eq, if◌then◌else◌, is_some, slice_index_or, filter}
use Rattle.std.specs.List.{list_any, list_all, AllByRecursion}
use Rattle.std.proofs.lemmas.Bool.{cases_Bool, cases_eq, and_parts, eqb-true, eq-eqb, true≢false}
use Rattle.gr_tree.specs.Walks.{numbers_from, numbers}
use Rattle.gr_topo.specs.Topology.{TopologyView}
use Rattle.gr_model.specs.NetOf.{net_of}
use Rattle.gr_model_theorems.specs.Joint.{brokers_of}
use Rattle.gr_journal.specs.declared.journal.Journal.{Journal}
use Rattle.gr_journal.specs.Hosting.{with_brokers, unhosted_from, unhosted}
use Rattle.gr_journal.specs.Lines.{is_among, rising}
use Rattle.gr_audit.specs.Audited.{has_clients}
use Rattle.gr_audit_theorems.specs.OneRun.{processes_of, ArePartsOf}
use Rattle.gr_audit_theorems.proofs.Coming.{Unheard, all_of}
use Rattle.gr_audit_theorems.proofs.Running.{AllApart}

or_split : (a b : Bool) → (a || b) ≡ true → (a ≡ true) ⊎ (b ≡ true)
or_split true b h = inl refl
or_split false b h = inr h

or_right : (a b : Bool) → b ≡ true → (a || b) ≡ true
or_right true b h = refl
or_right false b h = h

-- Rising brokers

among_append : (xs ys : List ℕ) (b : ℕ) → is_among (xs ++ ys) b ≡ (is_among xs b || is_among ys b)
among_append [] ys b = refl
among_append (x ∷ xs) ys b = ap (λ c. nat_eq x b || c) (among_append xs ys b) ∙ again (nat_eq x b) (is_among xs b) (is_among ys b)
  where
    again : (a c d : Bool) → (a || (c || d)) ≡ ((a || c) || d)
    again true c d = refl
    again false c d = refl

among_filter : (p : ℕ → Bool) (xs : List ℕ) (b : ℕ) → is_among (filter p xs) b ≡ true → (p b ≡ true) × (is_among xs b ≡ true)
among_filter p [] b h = absurd (true≢false (sym h))
among_filter p (x ∷ xs) b h = go (p x) refl h (λ q. among_filter p xs b q)
  where
    Rest : Type 0
    Rest = is_among (filter p xs) b ≡ true → (p b ≡ true) × (is_among xs b ≡ true)

    found : (p x ≡ true) → Rest → (nat_eq x b ≡ true) ⊎ (is_among (filter p xs) b ≡ true) → (p b ≡ true) × ((nat_eq x b || is_among xs b) ≡ true)
    found e more (inl q) = (ap p (sym (eqb-true x b q)) ∙ e, ap (λ c. c || is_among xs b) q)
    found e more (inr q) = let k = more q in (k.0, or_right (nat_eq x b) (is_among xs b) k.1)

    go : (c : Bool) → p x ≡ c → is_among (cond c (x ∷ filter p xs) (filter p xs)) b ≡ true → Rest → (p b ≡ true) × ((nat_eq x b || is_among xs b) ≡ true)
    go true e q more = found e more (or_split (nat_eq x b) (is_among (filter p xs) b) q)
    go false e q more = let k = more q in (k.0, or_right (nat_eq x b) (is_among xs b) k.1)

filter_among : (p : ℕ → Bool) (xs : List ℕ) (b : ℕ) → p b ≡ true → is_among xs b ≡ true → is_among (filter p xs) b ≡ true
filter_among p [] b h m = m
filter_among p (x ∷ xs) b h m = go (p x) refl (or_split (nat_eq x b) (is_among xs b) m) (λ q. filter_among p xs b h q)
  where
    go : (c : Bool) → p x ≡ c → (nat_eq x b ≡ true) ⊎ (is_among xs b ≡ true) → (is_among xs b ≡ true → is_among (filter p xs) b ≡ true) → is_among (cond c (x ∷ filter p xs) (filter p xs)) b ≡ true
    go true e (inl q) more = ap (λ c. c || is_among (filter p xs) b) q
    go true e (inr q) more = or_right (nat_eq x b) (is_among (filter p xs) b) (more q)
    go false e (inl q) more = absurd (true≢false (sym h ∙ (ap p (sym (eqb-true x b q)) ∙ e)))
    go false e (inr q) more = more q

among_from : (b i k : ℕ) → i ≤ b → b < i + k → is_among (numbers_from i k) b ≡ true
among_from b i zero le lt = absurd (omega (arith, le, lt))
among_from b i (suc k) le lt = elim (cases_eq i b) [
  | inl e ↦ ap (λ c. c || is_among (numbers_from (suc i) k) b) (eq-eqb i b e)
  | inr ne ↦ or_right (nat_eq i b) (is_among (numbers_from (suc i) k) b) (among_from b (suc i) k (omega (arith, le, ne)) (omega (arith, lt)))
]

from_among : (b i k : ℕ) → is_among (numbers_from i k) b ≡ true → b < i + k
from_among b i zero h = absurd (true≢false (sym h))
from_among b i (suc k) h = go (or_split (nat_eq i b) (is_among (numbers_from (suc i) k) b) h) (λ q. from_among b (suc i) k q)
  where
    go : (nat_eq i b ≡ true) ⊎ (is_among (numbers_from (suc i) k) b ≡ true) → (is_among (numbers_from (suc i) k) b ≡ true → b < suc i + k) → b < i + suc k
    go (inl q) more = let e = eqb-true i b q in omega (arith, e)
    go (inr q) more = let e = more q in omega (arith, e)

all_from : (p : ℕ → Bool) (i k b : ℕ) → list_all p (numbers_from i k) ≡ true → i ≤ b → b < i + k → p b ≡ true
all_from p i zero b h le lt = absurd (omega (arith, le, lt))
all_from p i (suc k) b h le lt = elim (cases_eq i b) [
  | inl e ↦ ap p (sym e) ∙ (and_parts (p i) _ h).0
  | inr ne ↦ all_from p (suc i) k b (and_parts (p i) _ h).1 (omega (arith, le, ne)) (omega (arith, lt))
]

-- Brokers that are named

named_is : (named brokers next : List ℕ) → with_brokers named brokers ≡ Some next → next ≡ named ++ brokers
named_is named [] next e = sym (some named next e) ∙ nothing named
  where
    some : (x y : List ℕ) → ◌≡◌ {A = Option (List ℕ)} (Some x) (Some y) → x ≡ y
    some x y q = ap (λ o. elim o [ Some z ↦ z | None ↦ x ]) q

    nothing : (xs : List ℕ) → xs ≡ xs ++ []
    nothing [] = refl
    nothing (x ∷ xs) = ap (λ (z : List ℕ). x ∷ z) (nothing xs)
named_is named (b ∷ brokers) next e = go (is_among named b) e (λ q. named_is (named ++ b ∷ []) brokers next q)
  where
    behind : (xs ys : List ℕ) → (xs ++ b ∷ []) ++ ys ≡ xs ++ b ∷ ys
    behind [] ys = refl
    behind (x ∷ xs) ys = ap (λ (z : List ℕ). x ∷ z) (behind xs ys)

    go : (c : Bool) → (if c then None else with_brokers (named ++ b ∷ []) brokers) ≡ Some next → (with_brokers (named ++ b ∷ []) brokers ≡ Some next → next ≡ (named ++ b ∷ []) ++ brokers) → next ≡ named ++ b ∷ brokers
    go true q more = absurd (cc)
    go false q more = more q ∙ behind named brokers

-- none of them was named before
named_once : (named brokers next : List ℕ) (b : ℕ) → with_brokers named brokers ≡ Some next → is_among named b ≡ true → is_among brokers b ≡ true → ⊥
named_once named [] next b e h m = true≢false (sym m)
named_once named (x ∷ brokers) next b e h m = go (is_among named x) refl e (λ q n r. named_once (named ++ x ∷ []) brokers next b q n r)
  where
    Rest : Type 0
    Rest = with_brokers (named ++ x ∷ []) brokers ≡ Some next → is_among (named ++ x ∷ []) b ≡ true → is_among brokers b ≡ true → ⊥

    go : (c : Bool) → is_among named x ≡ c → (if c then None else with_brokers (named ++ x ∷ []) brokers) ≡ Some next → Rest → ⊥
    go true k q more = absurd (cc)
    go false k q more = by (or_split (nat_eq x b) (is_among brokers b) m)
      where
        by : (nat_eq x b ≡ true) ⊎ (is_among brokers b ≡ true) → ⊥
        by (inl r) = true≢false (sym h ∙ (ap (is_among named) (sym (eqb-true x b r)) ∙ k))
        by (inr r) = more q (among_append named (x ∷ []) b ∙ ap (λ c. c || is_among (x ∷ []) b) h) r

abbrev named_by : List Journal → ℕ → List ℕ
named_by js k = get_or (map (λ (j : Journal). j.brokers) js) k []

next_by : (t : TopologyView) (j : Journal) (js : List Journal) (named : List ℕ) → unhosted_from t named (j ∷ js) ≡ None → (next : List ℕ) × ((with_brokers named j.brokers ≡ Some next) × (unhosted_from t next js ≡ None))
next_by t j js named h = go (with_brokers named j.brokers) refl h
  where
    go : (o : Option (List ℕ)) → with_brokers named j.brokers ≡ o → ◌≡◌ {A = Option ℕ} (elim o [ None ↦ Some j.first | Some next ↦ unhosted_from t next js ]) None → (next : List ℕ) × ((with_brokers named j.brokers ≡ Some next) × (unhosted_from t next js ≡ None))
    go None e q = absurd (cc)
    go (Some next) e q = (next, (e, q))

not_again : (t : TopologyView) (js : List Journal) (named : List ℕ) (b k : ℕ) → unhosted_from t named js ≡ None → is_among named b ≡ true → is_among (named_by js k) b ≡ true → ⊥
not_again t [] named b k h m q = true≢false (sym q)
not_again t (j ∷ js) named b zero h m q = let n = next_by t j js named h in named_once named j.brokers n.0 b n.1.0 m q
not_again t (j ∷ js) named b (suc k) h m q =
    let n = next_by t j js named h in
    not_again t js n.0 b k n.1.1 (ap (λ z. is_among z b) (named_is named j.brokers n.0 n.1.0) ∙ (among_append named j.brokers b ∙ ap (λ c. c || is_among j.brokers b) m)) q

named_next : (named brokers next : List ℕ) (b : ℕ) → with_brokers named brokers ≡ Some next → is_among brokers b ≡ true → is_among next b ≡ true
named_next named brokers next b e m = ap (λ z. is_among z b) (named_is named brokers next e) ∙ (among_append named brokers b ∙ or_right (is_among named b) (is_among brokers b) m)

in_one : (t : TopologyView) (js : List Journal) (named : List ℕ) (b i k : ℕ) → unhosted_from t named js ≡ None → is_among (named_by js i) b ≡ true → is_among (named_by js k) b ≡ true → i ≡ k
in_one t [] named b i k h p q = absurd (true≢false (sym q))
in_one t (j ∷ js) named b zero zero h p q = refl
in_one t (j ∷ js) named b zero (suc k) h p q = let n = next_by t j js named h in absurd (not_again t js n.0 b k n.1.1 (named_next named j.brokers n.0 b n.1.0 p) q)
in_one t (j ∷ js) named b (suc i) zero h p q = let n = next_by t j js named h in absurd (not_again t js n.0 b i n.1.1 (named_next named j.brokers n.0 b n.1.0 q) p)
in_one t (j ∷ js) named b (suc i) (suc k) h p q = let n = next_by t j js named h in ap (λ m. suc m) (in_one t js n.0 b i k n.1.1 p q)

in_some : (t : TopologyView) (js : List Journal) (named : List ℕ) (b : ℕ) → unhosted_from t named js ≡ None → b < length t.brokers → (is_among named b ≡ true) ⊎ ((k : ℕ) × ((k < length js) × (is_among (named_by js k) b ≡ true)))
in_some t [] named b h lt = inl (go (list_all (is_among named) (numbers (length t.brokers))) refl h)
  where
    go : (c : Bool) → list_all (is_among named) (numbers (length t.brokers)) ≡ c → ◌≡◌ {A = Option ℕ} (if c then None else Some 0) None → is_among named b ≡ true
    go true e q = all_from (is_among named) 0 (length t.brokers) b e (omega arith) (omega (arith, lt))
    go false e q = absurd (cc)
in_some t (j ∷ js) named b h lt =
    let n = next_by t j js named h in
    go n.0 n.1.0 (in_some t js n.0 b n.1.1 lt)
  where
    here : (is_among named b ≡ true) ⊎ (is_among j.brokers b ≡ true) → (is_among named b ≡ true) ⊎ ((k : ℕ) × ((k < length (j ∷ js)) × (is_among (named_by (j ∷ js) k) b ≡ true)))
    here (inl q) = inl q
    here (inr q) = inr (0, (omega arith, q))

    go : (next : List ℕ) → with_brokers named j.brokers ≡ Some next → (is_among next b ≡ true) ⊎ ((k : ℕ) × ((k < length js) × (is_among (named_by js k) b ≡ true)))
        → (is_among named b ≡ true) ⊎ ((k : ℕ) × ((k < length (j ∷ js)) × (is_among (named_by (j ∷ js) k) b ≡ true)))
    go next e (inl q) = here (or_split (is_among named b) (is_among j.brokers b) (sym (among_append named j.brokers b) ∙ (ap (λ z. is_among z b) (sym (named_is named j.brokers next e)) ∙ q)))
    go next e (inr q) = inr (suc q.0, (let lt = q.1.0 in omega (arith, lt), q.1.1))

-- Their processes

rising_named : (t : TopologyView) (js : List Journal) (b k : ℕ) → is_among (get_or (processes_of t js) k []) b ≡ true → (is_among (named_by js k) b ≡ true) × (b < length t.brokers)
rising_named t [] b k h = absurd (true≢false (sym h))
rising_named t (j ∷ js) b zero h =
    let p = among_filter (is_among j.brokers) (numbers (length t.brokers)) b h in
    (p.0, let lt = from_among b 0 (length t.brokers) p.1 in omega (arith, lt))
rising_named t (j ∷ js) b (suc k) h = rising_named t js b k h

named_rising : (t : TopologyView) (js : List Journal) (b k : ℕ) → b < length t.brokers → is_among (named_by js k) b ≡ true → is_among (get_or (processes_of t js) k []) b ≡ true
named_rising t [] b k lt h = h
named_rising t (j ∷ js) b zero lt h = filter_among (is_among j.brokers) (numbers (length t.brokers)) b h (among_from b 0 (length t.brokers) (omega arith) (omega (arith, lt)))
named_rising t (j ∷ js) b (suc k) lt h = named_rising t js b k lt h

many : (t : TopologyView) (js : List Journal) → length (processes_of t js) ≡ length js
many t [] = refl
many t (j ∷ js) = ap (λ n. suc n) (many t js)

pub are_parts : (t : TopologyView) (js : List Journal) → unhosted t js ≡ None → ArePartsOf (net_of t) (processes_of t js)
are_parts t js h = record {
  each = λ b lt. in_process b lt (in_some t js [] b h lt);
  one = λ b i k p q. in_one t js [] b i k h (rising_named t js b i p).0 (rising_named t js b k q).0;
}
  where
    in_process : (b : ℕ) → b < length t.brokers → (is_among [] b ≡ true) ⊎ ((k : ℕ) × ((k < length js) × (is_among (named_by js k) b ≡ true)))
        → (k : ℕ) × ((k < length (processes_of t js)) × (is_among (get_or (processes_of t js) k []) b ≡ true))
    in_process b lt (inl q) = absurd (true≢false (sym q))
    in_process b lt (inr q) = (q.0, (subst (λ n. q.0 < n) (sym (many t js)) q.1.0, named_rising t js b q.0 lt q.1.1))

pub parts_apart : (t : TopologyView) (js : List Journal) → ArePartsOf (net_of t) (processes_of t js) → AllApart (processes_of t js)
parts_apart t js parts i k ne b h = elim (cases_Bool (is_among (brokers_of (processes_of t js) k) b)) [
  | inl q ↦ absurd (ne (parts.one b i k h q))
  | inr q ↦ q
]

below : (t : TopologyView) (j : Journal) → AllByRecursion (λ b. b < length t.brokers) (rising t j.brokers)
below t j = all_of (λ b. b < length t.brokers) (rising t j.brokers) (λ b m. (let lt = from_among b 0 (length t.brokers) (among_filter (is_among j.brokers) (numbers (length t.brokers)) b m).1 in omega (arith, lt)))

pub all_below : (t : TopologyView) (js : List Journal) → AllByRecursion (AllByRecursion (λ b. b < length t.brokers)) (processes_of t js)
all_below t [] = tt
all_below t (j ∷ js) = (below t j, all_below t js)

-- No clients

none_some : (xs : List (Option (List ℕ))) (p : ℕ) → list_any is_some xs ≡ false → is_some (slice_index_or xs p None) ≡ false
none_some [] p h = refl
none_some (x ∷ xs) p h = go (is_some x) (list_any is_some xs) refl refl h p (λ n q. none_some xs n q)
  where
    go : (a b : Bool) → is_some x ≡ a → list_any is_some xs ≡ b → (a || b) ≡ false → (p : ℕ) → ((n : ℕ) → list_any is_some xs ≡ false → is_some (slice_index_or xs n None) ≡ false) → is_some (slice_index_or (x ∷ xs) p None) ≡ false
    go true b e f q p more = absurd (true≢false q)
    go false b e f q zero more = e
    go false b e f q (suc p) more = more p (f ∙ q)

pub unheard_of : (t : TopologyView) → has_clients t ≡ false → Unheard (net_of t)
unheard_of t h p = none_some t.clients p h
