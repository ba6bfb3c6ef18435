-- The index after a filter was added
use Rattle.std.proofs.Common.{◌≡◌, ◌≢◌, inl, inr, ℕ, zero, suc, ◌+◌, ◌<◌, ◌≤◌, Bool, true, false, cond, List, [], ◌∷◌, ◌++◌, length, Option, Some, None, refl, sym, ap, ap₂, ◌∙◌, subst, arith, nat_eq, nat_lt, length-append, get_or, take, drop, set, add-one}
use Rattle.std.specs.Prelude.{option_and_then}
use Rattle.std.specs.List.{AllByRecursion, slice_get}
use Rattle.std.proofs.lemmas.Bool.{and_from, false≢true, eqb-true, eq-eqb, ne_eqb, lt-ltb, le-ltb, cases_order, cases_Bool}
use Rattle.std.proofs.lemmas.Bool.Decides.{nat_tests}
use Rattle.gr_filter.specs.declared.filter.Filter.{Filter}
use Rattle.gr_filter.specs.Tree.{Tree, tree_of}
use Rattle.gr_match.specs.Needed.{Pair, needed, is_pair}
use Rattle.gr_match.specs.declared.bucket.Bucket.{Bucket}
use Rattle.gr_match.specs.Index.{trees, rest_with, row_of, row_with, bucket_pair, put, all_places, needed_at, NeedsAt, EachNeeds, IsIndex, times}
use Rattle.std.proofs.lemmas.List.{drop_more, set_split, get_or_default, map-append}
use Rattle.gr_event.proofs.SameEvent.{event_equal}
use Rattle.gr_match.proofs.Times.{times-append}

head_same : (p q : Pair) → p ∷ [] ≡ q ∷ [] → p ≡ q
head_same p q h = cc

pub pair_equal : (p q : Pair) → is_pair p q ≡ true → p ≡ q
pair_equal p q h = head_same p q (event_equal (p ∷ []) (q ∷ []) (and_from (is_pair p q) true h refl))

-- ---- one place more in a bucket

needs_more : (fs : List Tree) (p : Pair) (n : ℕ) (ns : List ℕ) → AllByRecursion (NeedsAt fs p) ns → NeedsAt fs p n → AllByRecursion (NeedsAt fs p) (ns ++ n ∷ [])
needs_more fs p n [] h k = (k, tt)
needs_more fs p n (m ∷ ms) h k = (h.0, needs_more fs p n ms h.1 k)

put_first : (fs : List Tree) (p : Pair) (n : ℕ) (b : Bucket) (bs : List Bucket) (is : Bool) → is_pair p (bucket_pair b) ≡ is → AllByRecursion (NeedsAt fs (bucket_pair b)) b.places → EachNeeds fs bs → NeedsAt fs p n → EachNeeds fs (put p n bs)
    → EachNeeds fs (cond is (record b { places = b.places ++ n ∷ [] } ∷ bs) (b ∷ put p n bs))
put_first fs p n b bs true q h hs k ks = (needs_more fs (bucket_pair b) n b.places h (subst (λ r. NeedsAt fs r n) (pair_equal p (bucket_pair b) q) k), hs)
put_first fs p n b bs false q h hs k ks = (h, ks)

put_needs : (fs : List Tree) (p : Pair) (n : ℕ) (bs : List Bucket) → EachNeeds fs bs → NeedsAt fs p n → EachNeeds fs (put p n bs)
put_needs fs p n [] h k = ((k, tt), tt)
put_needs fs p n (b ∷ bs) h k = put_first fs p n b bs (is_pair p (bucket_pair b)) refl h.0 h.1 k (put_needs fs p n bs h.1 k)

put_first_times : (p : Pair) (n m : ℕ) (b : Bucket) (bs : List Bucket) (is : Bool) → times m (all_places (put p n bs)) ≡ cond (nat_eq n m) 1 0 + times m (all_places bs)
    → times m (all_places (cond is (record b { places = b.places ++ n ∷ [] } ∷ bs) (b ∷ put p n bs))) ≡ cond (nat_eq n m) 1 0 + times m (b.places ++ all_places bs)
put_first_times p n m b bs true h =
    omega (arith, times-append m (b.places ++ n ∷ []) (all_places bs), times-append m b.places (n ∷ []), times-append m b.places (all_places bs))
put_first_times p n m b bs false h =
    omega (arith, h, times-append m b.places (all_places (put p n bs)), times-append m b.places (all_places bs))

put_times : (p : Pair) (n m : ℕ) (bs : List Bucket) → times m (all_places (put p n bs)) ≡ cond (nat_eq n m) 1 0 + times m (all_places bs)
put_times p n m [] = refl
put_times p n m (b ∷ bs) = put_first_times p n m b bs (is_pair p (bucket_pair b)) (put_times p n m bs)

-- ---- one filter more

get_front : (o : Option Tree) (fs : List Tree) (f : Tree) (n : ℕ) (p : Pair) → slice_get fs n ≡ o → option_and_then needed o ≡ Some p → NeedsAt (fs ++ f ∷ []) p n
get_front o [] f n p q h = cc
get_front o (g ∷ fs) f zero p q h = ap (option_and_then needed) q ∙ h
get_front o (g ∷ fs) f (suc n) p q h = get_front o fs f n p q h

get_last : (fs : List Tree) (f : Tree) → slice_get (fs ++ f ∷ []) (length fs) ≡ Some f
get_last [] f = refl
get_last (g ∷ fs) f = get_last fs f

front_needs : (fs : List Tree) (f : Tree) (p : Pair) (ns : List ℕ) → AllByRecursion (NeedsAt fs p) ns → AllByRecursion (NeedsAt (fs ++ f ∷ []) p) ns
front_needs fs f p [] h = tt
front_needs fs f p (n ∷ ns) h = (get_front _ fs f n p refl h.0, front_needs fs f p ns h.1)

each_front : (fs : List Tree) (f : Tree) (bs : List Bucket) → EachNeeds fs bs → EachNeeds (fs ++ f ∷ []) bs
each_front fs f [] h = tt
each_front fs f (b ∷ bs) h = (front_needs fs f (bucket_pair b) b.places h.0, each_front fs f bs h.1)

-- a place whose filter needs no pair stands in no bucket
absent_in : (fs : List Tree) (m : ℕ) (p : Pair) (ns : List ℕ) → AllByRecursion (NeedsAt fs p) ns → needed_at fs m ≡ None → times m ns ≡ 0
absent_in fs m p [] h k = refl
absent_in fs m p (n ∷ ns) h k =
    elim (cases_Bool (nat_eq n m)) [
      | inl e ↦ absurd (clash (needed_at fs m) k (ap (needed_at fs) (sym (eqb-true n m e)) ∙ h.0))
      | inr d ↦ rw d (omega (arith, absent_in fs m p ns h.1 k))
    ]
  where
    clash : (o : Option Pair) → o ≡ None → o ≡ Some p → ⊥
    clash o a b = cc

absent : (fs : List Tree) (m : ℕ) (bs : List Bucket) → EachNeeds fs bs → needed_at fs m ≡ None → times m (all_places bs) ≡ 0
absent fs m [] h k = refl
absent fs m (b ∷ bs) h k = omega (arith, times-append m b.places (all_places bs), absent_in fs m (bucket_pair b) b.places h.0 k, absent fs m bs h.1 k)

-- ---- the pair that a filter needs, once a filter was added

front_pair : (fs : List Tree) (f : Tree) (n : ℕ) → n < length fs → needed_at (fs ++ f ∷ []) n ≡ needed_at fs n
front_pair [] f n l = absurd (omega (arith, l))
front_pair (g ∷ fs) f zero l = refl
front_pair (g ∷ fs) f (suc n) l = front_pair fs f n (omega (arith, l))

past_pair : (fs : List Tree) (f : Tree) (n : ℕ) → length fs < n → needed_at (fs ++ f ∷ []) n ≡ None
past_pair [] f zero l = absurd (omega (arith, l))
past_pair [] f (suc n) l = refl
past_pair (g ∷ fs) f zero l = absurd (omega (arith, l))
past_pair (g ∷ fs) f (suc n) l = past_pair fs f n (omega (arith, l))

no_pair : (fs : List Tree) (n : ℕ) → length fs ≤ n → needed_at fs n ≡ None
no_pair [] n l = refl
no_pair (g ∷ fs) zero l = absurd (omega (arith, l))
no_pair (g ∷ fs) (suc n) l = no_pair fs n (omega (arith, l))

last_pair : (fs : List Tree) (f : Tree) → needed_at (fs ++ f ∷ []) (length fs) ≡ needed f
last_pair fs f = ap (option_and_then needed) (get_last fs f)

-- what was needed before is needed still, and what is needed at the new place is what the new filter needs
pair_before : (fs : List Tree) (f : Tree) (m : ℕ) (o : Option Pair) → needed_at (fs ++ f ∷ []) m ≡ o → m ≢ length fs → needed_at fs m ≡ o
pair_before fs f m o q d =
    elim (cases_order m (length fs)) [
      | inl e ↦ absurd (d e)
      | inr (inl l) ↦ sym (front_pair fs f m l) ∙ q
      | inr (inr l) ↦ no_pair fs m (omega (arith, l)) ∙ sym (past_pair fs f m l) ∙ q
    ]

pair_there : (fs : List Tree) (f : Tree) (m : ℕ) (o : Option Pair) → needed_at (fs ++ f ∷ []) m ≡ o → m ≡ length fs → needed f ≡ o
pair_there fs f m o q e = sym (last_pair fs f) ∙ ap (needed_at (fs ++ f ∷ [])) (sym e) ∙ q

one_more : (n m k l : ℕ) → n ≡ k → l ≡ n + 1 → m ≢ n → ◌≡◌ {A = ℕ} (cond (nat_lt m k) 1 0) (cond (nat_lt m l) 1 0)
one_more n m k l e q d = grind (arith, nat_tests)

times_end : (n m : ℕ) (ns : List ℕ) → times m (ns ++ n ∷ []) ≡ times m ns + cond (nat_eq n m) 1 0
times_end n m ns = omega (arith, times-append m ns (n ∷ []))

some_none : {A : Type 0} (x : A) → Some x ≡ None → ⊥
some_none x h = cc

some_same : {A : Type 0} (x y : A) → Some x ≡ Some y → x ≡ y
some_same x y h = cc

-- the new filter needs no pair, and stands in the rest
added_to_rest : (fs : List Tree) (f : Tree) (rest : List ℕ) (row : ℕ → List Bucket) (n : ℕ) → IsIndex fs rest row → length fs < 65536 → n ≡ length fs → needed f ≡ None → IsIndex (fs ++ f ∷ []) (rest ++ n ∷ []) row
added_to_rest fs f rest row n h l e q =
    let long : length (fs ++ f ∷ []) ≡ n + 1 = omega (arith, length-append fs (f ∷ [])) in
    record {
      few = omega arith;
      in_rest = λ m k. in_rest long m k (nat_eq n m) refl;
      not_in_rest = λ m p k. not_in_rest m p k;
      in_row = λ m p k. h.in_row m p (pair_before fs f m (Some p) k (λ z. some_none p (sym (pair_there fs f m (Some p) k z) ∙ q)));
      needs = λ i. each_front fs f (row i) (h.needs i);
    }
  where
    in_rest : length (fs ++ f ∷ []) ≡ n + 1 → (m : ℕ) → needed_at (fs ++ f ∷ []) m ≡ None → (b : Bool) → nat_eq n m ≡ b → times m (rest ++ n ∷ []) ≡ cond (nat_lt m (length (fs ++ f ∷ []))) 1 0
    in_rest long m k true b =
        let is : m ≡ n = sym (eqb-true n m b) in
        let none : times m rest ≡ 0 = h.in_rest m (no_pair fs m (omega (arith, is, e))) ∙ ap {B = ℕ} (λ x. cond x 1 0) (le-ltb m (length fs) (omega (arith, is, e))) in
        let now : cond (nat_eq n m) 1 0 ≡ 1 = ap {B = ℕ} (λ x. cond x 1 0) b in
        let there : cond (nat_lt m (length (fs ++ f ∷ []))) 1 0 ≡ 1 = ap {B = ℕ} (λ x. cond x 1 0) (lt-ltb m (length (fs ++ f ∷ [])) (omega (arith, is, long))) in
        omega (arith, times_end n m rest, none, now, there)
    in_rest long m k false b =
        let before : times m rest ≡ cond (nat_lt m (length fs)) 1 0 = h.in_rest m (pair_before fs f m None k (λ z. apart z b)) in
        let now : cond (nat_eq n m) 1 0 ≡ 0 = ap {B = ℕ} (λ x. cond x 1 0) b in
        omega (arith, times_end n m rest, before, now, one_more n m (length fs) (length (fs ++ f ∷ [])) e long (λ z. apart (z ∙ e) b))
      where
        apart : m ≡ length fs → nat_eq n m ≡ false → ⊥
        apart z x = false≢true (sym x ∙ eq-eqb n m (e ∙ sym z))

    not_in_rest : (m : ℕ) (p : Pair) → needed_at (fs ++ f ∷ []) m ≡ Some p → times m (rest ++ n ∷ []) ≡ 0
    not_in_rest m p k =
        let d : m ≢ length fs = λ z. some_none p (sym (pair_there fs f m (Some p) k z) ∙ q) in
        let now : cond (nat_eq n m) 1 0 ≡ 0 = ap {B = ℕ} (λ x. cond x 1 0) (ne_eqb n m (λ z. d (sym z ∙ e))) in
        omega (arith, times_end n m rest, h.not_in_rest m p (pair_before fs f m (Some p) k d), now)

-- the new filter needs a pair, and stands in its row
added_to_row : (fs : List Tree) (f : Tree) (p : Pair) (rest : List ℕ) (row : ℕ → List Bucket) (n : ℕ) → IsIndex fs rest row → length fs < 65536 → n ≡ length fs → needed f ≡ Some p → IsIndex (fs ++ f ∷ []) rest (row_with (Some p) n row)
added_to_row fs f p rest row n h l e q =
    let long : length (fs ++ f ∷ []) ≡ n + 1 = omega (arith, length-append fs (f ∷ [])) in
    record {
      few = omega arith;
      in_rest = λ m k. in_rest long m k;
      not_in_rest = λ m r k. not_in_rest m r k (nat_eq n m) refl;
      in_row = λ m r k. in_row m r k (nat_eq (row_of r) (row_of p)) refl (nat_eq n m) refl;
      needs = λ i. needs i (nat_eq i (row_of p));
    }
  where
    in_rest : length (fs ++ f ∷ []) ≡ n + 1 → (m : ℕ) → needed_at (fs ++ f ∷ []) m ≡ None → times m rest ≡ cond (nat_lt m (length (fs ++ f ∷ []))) 1 0
    in_rest long m k =
        let d : m ≢ length fs = λ z. some_none p (sym q ∙ pair_there fs f m None k z) in
        h.in_rest m (pair_before fs f m None k d) ∙ one_more n m (length fs) (length (fs ++ f ∷ [])) e long (λ z. d (z ∙ e))

    not_in_rest : (m : ℕ) (r : Pair) → needed_at (fs ++ f ∷ []) m ≡ Some r → (b : Bool) → nat_eq n m ≡ b → times m rest ≡ 0
    not_in_rest m r k true b =
        let is : m ≡ n = sym (eqb-true n m b) in
        h.in_rest m (no_pair fs m (omega (arith, is, e))) ∙ ap {B = ℕ} (λ x. cond x 1 0) (le-ltb m (length fs) (omega (arith, is, e)))
    not_in_rest m r k false b = h.not_in_rest m r (pair_before fs f m (Some r) k (λ z. false≢true (sym b ∙ eq-eqb n m (e ∙ sym z))))

    in_row : (m : ℕ) (r : Pair) → needed_at (fs ++ f ∷ []) m ≡ Some r → (same : Bool) → nat_eq (row_of r) (row_of p) ≡ same → (b : Bool) → nat_eq n m ≡ b → times m (all_places (cond same (put p n (row (row_of r))) (row (row_of r)))) ≡ 1
    in_row m r k same s true b = here same s
      where
        is : m ≡ length fs
        is = sym (eqb-true n m b) ∙ e

        pair : p ≡ r
        pair = some_same _ _ (sym q ∙ pair_there fs f m (Some r) k is)

        here : (same : Bool) → nat_eq (row_of r) (row_of p) ≡ same → times m (all_places (cond same (put p n (row (row_of r))) (row (row_of r)))) ≡ 1
        here true s =
            let now : cond (nat_eq n m) 1 0 ≡ 1 = ap {B = ℕ} (λ x. cond x 1 0) b in
            omega (arith, put_times p n m (row (row_of r)), now, absent fs m (row (row_of r)) (h.needs (row_of r)) (no_pair fs m (omega (arith, is))))
        here false s = absurd (false≢true (sym s ∙ eq-eqb (row_of r) (row_of p) (ap row_of (sym pair))))
    in_row m r k same s false b =
        let d : m ≢ length fs = λ z. false≢true (sym b ∙ eq-eqb n m (e ∙ sym z)) in
        there same (h.in_row m r (pair_before fs f m (Some r) k d))
      where
        there : (same : Bool) → times m (all_places (row (row_of r))) ≡ 1 → times m (all_places (cond same (put p n (row (row_of r))) (row (row_of r)))) ≡ 1
        there true w =
            let now : cond (nat_eq n m) 1 0 ≡ 0 = ap {B = ℕ} (λ x. cond x 1 0) b in
            omega (arith, put_times p n m (row (row_of r)), now, w)
        there false w = w

    needs : (i : ℕ) (b : Bool) → EachNeeds (fs ++ f ∷ []) (cond b (put p n (row i)) (row i))
    needs i true = put_needs (fs ++ f ∷ []) p n (row i) (each_front fs f (row i) (h.needs i)) (ap (needed_at (fs ++ f ∷ [])) e ∙ last_pair fs f ∙ q)
    needs i false = each_front fs f (row i) (h.needs i)

same_read : {X : Type 0} (xs : List X) (i : ℕ) (x y : X) → i < length xs → x ≡ get_or xs i x → y ≡ get_or xs i y → x ≡ y
same_read xs i x y l h k = h ∙ get_or_default xs i x y l ∙ sym k

-- the bucket at a place, read twice, is that of the pair, and none before it is
pub put_here : (p : Pair) (n i : ℕ) (bs all : List Bucket) (a b : Bucket) (ns : List ℕ) → i < length bs → a ≡ get_or bs i a → b ≡ get_or bs i b → is_pair p (bucket_pair a) ≡ true → ns ≡ b.places ++ n ∷ [] → take i bs ++ put p n (drop i bs) ≡ all → set bs i (record b { places = ns }) ≡ all
put_here p n i bs all a b ns l first read is e h =
    let c : Bucket = record b { places = b.places ++ n ∷ [] } in
    let here : is_pair p (bucket_pair b) ≡ true = ap (λ x. is_pair p (bucket_pair x)) (same_read bs i b a l read first) ∙ is in
    let rest : drop i bs ≡ b ∷ drop (suc i) bs = drop_more bs i b l ∙ ap₂ (λ x xs. x ∷ xs) (sym read) (ap (λ k. drop k bs) (add-one i)) in
    ap (λ ms. set bs i (record b { places = ms })) e
    ∙ set_split bs i c l
    ∙ ap (λ xs. take i bs ++ xs) (ap (λ t. cond t (c ∷ drop (suc i) bs) (b ∷ put p n (drop (suc i) bs))) (sym here) ∙ ap (put p n) (sym rest))
    ∙ h

entered : (fs : List Tree) (f : Tree) (o : Option Pair) (rest : List ℕ) (row : ℕ → List Bucket) (n : ℕ) → IsIndex fs rest row → length fs < 65536 → n ≡ length fs → needed f ≡ o → IsIndex (fs ++ f ∷ []) (rest_with o n rest) (row_with o n row)
entered fs f None rest row n h l e q = added_to_rest fs f rest row n h l e q
entered fs f (Some p) rest row n h l e q = added_to_row fs f p rest row n h l e q

-- an index whose rows have the same buckets
pub same_rows : (fs : List Tree) (rest : List ℕ) (row row2 : ℕ → List Bucket) → ((i : ℕ) → row2 i ≡ row i) → IsIndex fs rest row → IsIndex fs rest row2
same_rows fs rest row row2 s h = record {
  few = h.few;
  in_rest = h.in_rest;
  not_in_rest = h.not_in_rest;
  in_row = λ n p k. ap (λ bs. times n (all_places bs)) (s (row_of p)) ∙ h.in_row n p k;
  needs = λ i. subst (EachNeeds fs) (sym (s i)) (h.needs i);
}

-- one filter more, with an equal tree
pub added : (old new : List Filter) (g : Filter) (f : Tree) (n : ℕ) (rest rest2 : List ℕ) (row row2 : ℕ → List Bucket) → IsIndex (trees old) rest row → length (trees old) < 65536 → n ≡ length (trees old) → new ≡ old ++ g ∷ [] → tree_of g ≡ f
    → rest2 ≡ rest_with (needed f) n rest → ((i : ℕ) → row2 i ≡ row_with (needed f) n row i) → IsIndex (trees new) rest2 row2
added old new g f n rest rest2 row row2 h l e more same er eb =
    let all : trees new ≡ trees old ++ f ∷ [] = ap trees more ∙ map-append (λ x. tree_of x) old (g ∷ []) ∙ ap (λ t. trees old ++ t ∷ []) same in
    subst (λ fs. IsIndex fs rest2 row2) (sym all)
    (subst (λ ns. IsIndex (trees old ++ f ∷ []) ns row2) (sym er)
    (same_rows (trees old ++ f ∷ []) (rest_with (needed f) n rest) (row_with (needed f) n row) row2 eb (entered (trees old) f (needed f) rest row n h l e refl)))
