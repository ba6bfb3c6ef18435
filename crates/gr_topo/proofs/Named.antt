-- What passes the tests of names: each is a name, and each is found back under its number; and addresses that pass are addresses
use Rattle.std.proofs.Common.{◌≡◌, ℕ, zero, suc, ◌+◌, ◌<◌, Bool, true, false, not, ◌||◌, List, [], ◌∷◌, ◌++◌, length, get_or, Option, Some, None, Ok, refl, sym, ap, ◌∙◌, subst, ⊎_elim, arith, cond, append_assoc, length-append}
use Rattle.std.specs.Prelude.{codes, bytes_eq, nat_lt}
use Rattle.std.specs.List.{AllByRecursion, list_any, position_or_len}
use Rattle.std.proofs.lemmas.Bool.{false≢true, cases_Bool, cond-true, cond-false, lt-ltb, not_from_false, not_from_true, not-true}
use Rattle.std.proofs.lemmas.List.{length_push}
use Rattle.std.proofs.lemmas.Slice.Eq.{bytes_eq-Decides}
use Rattle.gr_topo.specs.declared.fault.TopoFault.{TopoFault}
use Rattle.gr_topo.specs.declared.fault.TopoFault.TheVariants.{BadName, BadAddress, Twice}
use Rattle.gr_topo.specs.declared.limits.TheConstants.{MAX_BROKERS, MAX_PUBLISHERS, MAX_SUBSCRIBERS, MAX_LATE}
use Rattle.gr_topo.specs.Draft.{AddressLists}
use Rattle.gr_topo.specs.Gives.{walk, one_more}
use Rattle.gr_topo.specs.Names.{is_name, is_address}
use Rattle.gr_topo.specs.Checks.{passes, few, good_name, good_names, seen_once, apart, good_address, address_in, addresses_of}
use Rattle.gr_topo.specs.Read.{names_checked}
use Rattle.gr_topo.specs.Topology.{name_at, number_of, AreNames, IsAddressed}
use Rattle.gr_topo.proofs.Steps.{first_gave, ok_same, walk_keeps}

passed : (b : Bool) (fault : TopoFault) (x : Unit {0}) → passes b fault ≡ Ok x → b ≡ true
passed true fault x h = refl
passed false fault x h = cc

-- ---- each is a name

all_from : (u x : Unit {0}) (names : List (List ℕ)) → walk good_name u names ≡ Ok x → AllByRecursion (λ name. is_name name ≡ true) names
unfolding walk
all_from u x [] h = tt
all_from u x (n ∷ ns) h = let w = first_gave (good_name u n) (λ v. walk good_name v ns) x h in (passed (is_name n) (BadName n) w.0 w.1, all_from w.0 x ns w.2)

-- ---- each is found back

or_false : (a b : Bool) → (a || b) ≡ false → (a ≡ false) × (b ≡ false)
or_false true b h = cc
or_false false b h = (refl, h)

flip : (a b : List ℕ) → bytes_eq a b ≡ false → bytes_eq b a ≡ false
flip a b h = ⊎_elim (λ t. absurd (false≢true (sym h ∙ (bytes_eq-Decides a b).1 (sym ((bytes_eq-Decides b a).0 t))))) (λ f. f) (cases_Bool (bytes_eq b a))

-- a name that none before it is, stands first at its place
first_place : (name : List ℕ) (front rest : List (List ℕ)) → list_any (bytes_eq name) front ≡ false → position_or_len (λ known. bytes_eq known name) (front ++ name ∷ rest) ≡ length front
first_place name [] rest h =
    cond-false (not (bytes_eq name name)) (1 + position_or_len (λ known. bytes_eq known name) rest) 0 (not_from_true (bytes_eq name name) ((bytes_eq-Decides name name).1 refl))
first_place name (f ∷ fs) rest h =
    let parts = or_false (bytes_eq name f) (list_any (bytes_eq name) fs) h in
    let one : 1 + length fs ≡ suc (length fs) = omega arith in
    cond-true (not (bytes_eq f name)) (1 + position_or_len (λ known. bytes_eq known name) (fs ++ name ∷ rest)) 0 (not_from_false (bytes_eq f name) (flip name f parts.0))
    ∙ ap (λ n. 1 + n) (first_place name fs rest parts.1) ∙ one

found_at : (name : List ℕ) (front rest : List (List ℕ)) → list_any (bytes_eq name) front ≡ false → number_of (front ++ name ∷ rest) name ≡ Some (length front)
found_at name front rest h =
    ap (λ n. cond (nat_lt n (length (front ++ name ∷ rest))) (Some n) None) (first_place name front rest h)
    ∙ cond-true (nat_lt (length front) (length (front ++ name ∷ rest))) (Some (length front)) None (lt-ltb (length front) (length (front ++ name ∷ rest)) (omega (arith, length-append front (name ∷ rest))))

found_from : (names seen r : List (List ℕ)) → walk seen_once seen names ≡ Ok r → (i : ℕ) → i < length names → number_of (seen ++ names) (get_or names i []) ≡ Some (length seen + i)
unfolding walk
found_from [] seen r h i lt = absurd (omega arith)
found_from (x ∷ xs) seen r h zero lt =
    let w = first_gave (seen_once seen x) (λ n. walk seen_once n xs) r h in
    let v = first_gave (passes (not (list_any (bytes_eq x) seen)) (Twice x)) (λ u. Ok (seen ++ x ∷ [])) w.0 w.1 in
    let none : length seen ≡ length seen + 0 = omega arith in
    found_at x seen xs (not-true _ (passed _ (Twice x) v.0 v.1)) ∙ ap Some none
found_from (x ∷ xs) seen r h (suc i) lt =
    let w = first_gave (seen_once seen x) (λ n. walk seen_once n xs) r h in
    let v = first_gave (passes (not (list_any (bytes_eq x) seen)) (Twice x)) (λ u. Ok (seen ++ x ∷ [])) w.0 w.1 in
    let grown : seen ++ x ∷ [] ≡ w.0 = ok_same _ _ v.2 in
    let regrouped : w.0 ++ xs ≡ seen ++ x ∷ xs = ap (λ l. l ++ xs) (sym grown) ∙ append_assoc seen (x ∷ []) xs in
    let place : length w.0 + i ≡ length seen + suc i = omega (arith, ap length grown, length_push seen x) in
    ap (λ l. number_of l (get_or xs i [])) (sym regrouped) ∙ found_from xs w.0 r w.2 i (omega arith) ∙ ap Some place

found_back : (names : List (List ℕ)) (x : Unit {0}) → apart names ≡ Ok x → (i : ℕ) → i < length names → number_of names (name_at names i) ≡ Some i
found_back names x h i lt =
    let w = first_gave (walk seen_once [] names) (λ r. Ok tt) x h in
    let place : 0 + i ≡ i = omega arith in
    found_from names [] w.0 w.1 i lt ∙ ap Some place

-- names that pass
pub names_named : (brokers publishers subscribers : List (List ℕ)) (late : ℕ) (x : Unit {0}) → names_checked brokers publishers subscribers late ≡ Ok x → AreNames brokers × AreNames publishers × AreNames subscribers
unfolding names_checked
names_named bs ps ss late x h =
    let one = first_gave (few MAX_BROKERS (codes "brokers") (length bs)) _ x h in
    let two = first_gave (few MAX_PUBLISHERS (codes "publisher") (length ps)) _ x one.2 in
    let three = first_gave (few MAX_SUBSCRIBERS (codes "subscriber") (length ss)) _ x two.2 in
    let four = first_gave (few MAX_LATE (codes "late") late) _ x three.2 in
    let b = first_gave (good_names bs) _ x four.2 in
    let p = first_gave (good_names ps) _ x b.2 in
    let s = first_gave (good_names ss) _ x p.2 in
    let bb = first_gave (apart bs) _ x s.2 in
    let pp = first_gave (apart ps) _ x bb.2 in
    let qq = first_gave (apart ss) _ x pp.2 in (
      record { each = all_from tt b.0 bs b.1; found = found_back bs bb.0 bb.1 },
      record { each = all_from tt p.0 ps p.1; found = found_back ps pp.0 pp.1 },
      record { each = all_from tt s.0 ss s.1; found = found_back ss qq.0 qq.1 },
    )

-- ---- addresses

right : (name : List ℕ) (o a : Option (List ℕ)) → good_address name o ≡ Ok a → IsAddressed a
right name None a h = subst IsAddressed (ok_same None a h) tt
right name (Some text) a h =
    let w = first_gave (passes (is_address text) (BadAddress name)) (λ u. Ok (Some text)) a h in
    subst IsAddressed (ok_same (Some text) a w.2) (passed (is_address text) (BadAddress name) w.0 w.1)

all_push : (as_read : List (Option (List ℕ))) (a : Option (List ℕ)) → AllByRecursion IsAddressed as_read → IsAddressed a → AllByRecursion IsAddressed (as_read ++ a ∷ [])
all_push [] a h k = (k, tt)
all_push (x ∷ xs) a h k = (h.0, all_push xs a h.1 k)

-- addresses that pass
pub addresses_addressed : (lists : AddressLists) (brokers : List (List ℕ)) (found : List (Option (List ℕ))) → addresses_of lists brokers ≡ Ok found → AllByRecursion IsAddressed found
addresses_addressed lists brokers found h =
    walk_keeps (AllByRecursion IsAddressed) (one_more (address_in lists))
    (λ s x next p k.
    let w = first_gave (address_in lists x) (λ y. Ok (s ++ y ∷ [])) next k in
    subst (AllByRecursion IsAddressed) (ok_same _ _ w.2) (all_push s w.0 p (right x _ w.0 w.1)))
    brokers [] found tt h
