-- The brokers that words name are brokers of the topology, in rising order; and where a search finds no broker without an address,
-- each has one
use Rattle.std.proofs.Common.{◌≡◌, ℕ, zero, suc, ◌+◌, ◌-◌, ◌<◌, ◌≤◌, Bool, true, false, not, cond, nat_eq, List, ◌∷◌, length, get_or, drop, ◌||◌, filter, find, option_map, Option, Some, None, is_some, IsSome, refl, ap, ◌∙◌, subst, arith}
use Rattle.std.proofs.lemmas.Bool.{eqb-true, eqb-false}
use Rattle.std.proofs.lemmas.List.{at_drop_more}
use Rattle.std.specs.Borrow.{Bor}
use Rattle.std.specs.List.{AllByRecursion, list_any}
use Rattle.gr_tree.specs.Walks.{numbers_from, numbers}
use Rattle.gr_topo.specs.Topology.{TopologyView, address_of}
use Rattle.gr_topo.proofs.TreeLists.{numbers_next, numbers_done, numbers_all}
use Rattle.gr_model.proofs.NetOf.{rising_from}
use Rattle.gr_node.specs.Of.{AreHosted, AreAddressed}
use Rattle.gr_top.specs.Words.{texts_of}
use Rattle.gr_top.specs.Hosting.{is_named, named_brokers, is_unaddressed}

-- Searching numbers in turn

-- before the first number all are left
pub find_starts : (test : ℕ → Bool) (n : ℕ) → find test (numbers_from 0 (n - 0)) ≡ find test (numbers n)
find_starts test n = ap (find test) (numbers_all n)

-- a number that passes is the first, and one that does not is passed over
pub find_here : (test : ℕ → Bool) (i n : ℕ) → i < n → test i ≡ true → find test (numbers_from i (n - i)) ≡ Some i
find_here test i n h t =
    ap (find test) (numbers_next i n h) ∙ ap (λ b. cond b (Some i) (find test (numbers_from (i + 1) (n - (i + 1))))) t

pub find_later : (test : ℕ → Bool) (i n : ℕ) → i < n → test i ≡ false
    → find test (numbers_from i (n - i)) ≡ find test (numbers_from (i + 1) (n - (i + 1)))
find_later test i n h t =
    ap (find test) (numbers_next i n h) ∙ ap (λ b. cond b (Some i) (find test (numbers_from (i + 1) (n - (i + 1))))) t

-- where none is left, none is found
pub find_none : (test : ℕ → Bool) (i n : ℕ) → n ≤ i → find test (numbers_from i (n - i)) ≡ None
find_none test i n h = ap (find test) (numbers_done i n h)

-- where none is found, none passes
none_found : (test : ℕ → Bool) (from k c : ℕ) → find test (numbers_from from k) ≡ None → from ≤ c → c < from + k → test c ≡ false
none_found test from zero c e low high = absurd (omega arith)
none_found test from (suc k) c e low high =
    go (test from) refl e (λ none other. none_found test (suc from) k c none (omega (arith, eqb-false from c other)) (omega arith))
  where
    go : (b : Bool) → test from ≡ b → cond (test from) (Some from) (find test (numbers_from (suc from) k)) ≡ None
        → (find test (numbers_from (suc from) k) ≡ None → nat_eq from c ≡ false → test c ≡ false) → test c ≡ false
    go true t none next = let bad : Some from ≡ None = rw t at none in cc
    go false t none next =
        elim (nat_eq from c) as (λ b. nat_eq from c ≡ b → test c ≡ false) [
          | true ↦ λ same. subst (λ i. test i ≡ false) (eqb-true from c same) t
          | false ↦ λ other. next (rw t at none) other
        ] refl

-- what is read of a broker is what is there
pub addressed : {X Y : Type 0} (read : X → Y) (o : Option X) (a : Option Y) (none : Bool) → option_map read o ≡ a → is_some o ≡ not none → none ≡ false
    → not (is_some a) ≡ false
addressed read None a none e some t = let bad : false ≡ true = some ∙ ap not t in cc
addressed read (Some x) a none e some t = rw (← e) refl

-- Searching words in turn

-- a word that passes decides, and one that does not is passed over
pub any_here : (test : List ℕ → Bool) (words : List (Bor (List ℕ))) (i : ℕ) (d : Bor (List ℕ)) → i < length words
    → test (get_or words i d).now ≡ true → list_any test (texts_of (drop i words)) ≡ true
any_here test words i d h t =
    at_drop_more (λ l. list_any test (texts_of l)) words i d h ∙ ap (λ b. b || list_any test (texts_of (drop (i + 1) words))) t

pub any_later : (test : List ℕ → Bool) (words : List (Bor (List ℕ))) (i : ℕ) (d : Bor (List ℕ)) → i < length words
    → test (get_or words i d).now ≡ false → list_any test (texts_of (drop i words)) ≡ list_any test (texts_of (drop (i + 1) words))
any_later test words i d h t =
    at_drop_more (λ l. list_any test (texts_of l)) words i d h ∙ ap (λ b. b || list_any test (texts_of (drop (i + 1) words))) t

-- What is ready

-- consecutive numbers are below where they end
within : (t : TopologyView) (test : ℕ → Bool) (from k : ℕ) → from + k ≤ length t.brokers → AllByRecursion (λ b. b < length t.brokers) (filter test (numbers_from from k))
within t test from zero h = tt
within t test from (suc k) h = go (test from) (within t test (suc from) k (omega arith))
  where
    go : (b : Bool) → AllByRecursion (λ c. c < length t.brokers) (filter test (numbers_from (suc from) k))
        → AllByRecursion (λ c. c < length t.brokers) (cond b (from ∷ filter test (numbers_from (suc from) k)) (filter test (numbers_from (suc from) k)))
    go true rest = (omega arith, rest)
    go false rest = rest

-- what is not missing is there
some_there : (o : Option (List ℕ)) → not (is_some o) ≡ false → IsSome o
some_there (Some a) e = refl
some_there None e = let bad : true ≡ false = e in cc

-- where none is found without an address, each broker has one
pub all_addressed : (t : TopologyView) → find (is_unaddressed t) (numbers (length t.brokers)) ≡ None → AreAddressed t
all_addressed t none = λ b lt. some_there (address_of t b) (none_found (is_unaddressed t) 0 (length t.brokers) b none (omega arith) (omega arith))

-- the named brokers are ready to serve, where none is without an address
pub ready : (t : TopologyView) (words : List (List ℕ)) (brokers : List ℕ) → brokers ≡ named_brokers t words
    → find (is_unaddressed t) (numbers (length t.brokers)) ≡ None → AreHosted t brokers × AreAddressed t
ready t words brokers e none =
    let hosted : AreHosted t (named_brokers t words) = record {
      rising = rising_from (is_named t words) 0 (length t.brokers);
      brokers = within t (is_named t words) 0 (length t.brokers) (omega arith);
    } in (rw e hosted, all_addressed t none)
