-- The brokers of processes, journal by journal and broker by broker
use Rattle.std.proofs.Common.{◌≡◌, ℕ, zero, suc, ◌+◌, ◌<◌, ◌≤◌, Bool, true, false, List, [], ◌∷◌, ◌++◌, length, get_or, drop, Option, Some, None, refl, sym, ap, ◌∙◌, arith}
use Rattle.std.specs.Prelude.{if◌then◌else◌}
use Rattle.gr_topo.specs.Topology.{TopologyView}
use Rattle.gr_journal.specs.declared.journal.Journal.{Journal}
use Rattle.gr_journal.specs.Lines.{is_among}
use Rattle.gr_journal.specs.Hosting.{with_brokers, unhosted_from, unhosted}

drop_step : {X : Type 0} (xs : List X) (i : ℕ) (d : X) → i < length xs → drop i xs ≡ get_or xs i d ∷ drop (suc i) xs
drop_step [] i d lt = absurd (omega (arith, lt))
drop_step (x ∷ xs) zero d lt = refl
drop_step (x ∷ xs) (suc i) d lt = drop_step xs i d (omega (arith, lt))

drop_here : {X : Type 0} (xs : List X) (i : ℕ) (x : X) → i < length xs → x ≡ get_or xs i x → drop i xs ≡ x ∷ drop (i + 1) xs
drop_here xs i x lt is =
    let k : suc i ≡ i + 1 = omega arith in
    drop_step xs i x lt ∙ (ap (λ z. z ∷ drop (suc i) xs) (sym is) ∙ ap (λ n. x ∷ drop n xs) k)

drop_end : {X : Type 0} (xs : List X) (i : ℕ) → length xs ≤ i → drop i xs ≡ []
drop_end [] zero h = refl
drop_end [] (suc i) h = refl
drop_end (x ∷ xs) zero h = absurd (omega (arith, h))
drop_end (x ∷ xs) (suc i) h = drop_end xs i (omega (arith, h))

-- A journal

abbrev next_by : TopologyView → ℕ → List Journal → Option (List ℕ) → Option ℕ
next_by t first js o = elim o [ None ↦ Some first | Some next ↦ unhosted_from t next js ]

at_journal : (t : TopologyView) (js : List Journal) (i : ℕ) (j : Journal) (named brokers : List ℕ) (o : Option (List ℕ)) → unhosted_from t named (drop i js) ≡ unhosted t js → i < length js → j ≡ get_or js i j
    → brokers ≡ j.brokers → with_brokers named brokers ≡ o → next_by t j.first (drop (i + 1) js) o ≡ unhosted t js
at_journal t js i j named brokers o inv lt is same e =
    ap (next_by t j.first (drop (i + 1) js)) (sym e ∙ ap (with_brokers named) same)
    ∙ (ap (unhosted_from t named) (sym (drop_here js i j lt is)) ∙ inv)

pub named_twice : (t : TopologyView) (js : List Journal) (i : ℕ) (j : Journal) (named next brokers : List ℕ) (fine : Bool) → unhosted_from t named (drop i js) ≡ unhosted t js → i < length js → j ≡ get_or js i j
    → brokers ≡ j.brokers → with_brokers named brokers ≡ (if fine then Some next else None) → fine ≡ false → Some j.first ≡ unhosted t js
named_twice t js i j named next brokers fine inv lt is same e h =
    at_journal t js i j named brokers None inv lt is same (e ∙ ap (λ b. if b then Some next else None) h)

pub named_once : (t : TopologyView) (js : List Journal) (i : ℕ) (j : Journal) (named next brokers : List ℕ) (fine : Bool) → unhosted_from t named (drop i js) ≡ unhosted t js → i < length js → j ≡ get_or js i j
    → brokers ≡ j.brokers → with_brokers named brokers ≡ (if fine then Some next else None) → fine ≡ true → unhosted_from t next (drop (i + 1) js) ≡ unhosted t js
named_once t js i j named next brokers fine inv lt is same e h =
    at_journal t js i j named brokers (Some next) inv lt is same (e ∙ ap (λ b. if b then Some next else None) h)

pub all_read : (t : TopologyView) (js : List Journal) (i : ℕ) (named : List ℕ) → unhosted_from t named (drop i js) ≡ unhosted t js → length js ≤ i → unhosted_from t named [] ≡ unhosted t js
all_read t js i named inv h = ap (unhosted_from t named) (sym (drop_end js i h)) ∙ inv

-- A broker

pub at_broker : (named bs : List ℕ) (i b : ℕ) (r : Option (List ℕ)) (c : Bool) → with_brokers named (drop i bs) ≡ r → i < length bs → b ≡ get_or bs i b → is_among named b ≡ c
    → (if c then None else with_brokers (named ++ b ∷ []) (drop (i + 1) bs)) ≡ r
at_broker named bs i b r c inv lt is e =
    ap (λ v. if v then None else with_brokers (named ++ b ∷ []) (drop (i + 1) bs)) (sym e) ∙ (ap (with_brokers named) (sym (drop_here bs i b lt is)) ∙ inv)
