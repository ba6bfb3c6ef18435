-- What is not marked stands in no bucket, and stays so as marks are set and places are put
use Rattle.std.proofs.Common.{◌≡◌, ℕ, ◌*◌, ◌%◌, ◌<◌, ◌^◌, Bool, true, false, cond, List, [], ◌∷◌, ◌++◌, Some, Result, Ok, Err, OnOk, OnErr, bit_or, nat_eq, refl, sym, ap, ap₂, ◌∙◌, subst, arith}
use Rattle.std.specs.Int.{bit_at}
use Rattle.std.specs.List.{AllByRecursion, flat_map}
use Rattle.std.proofs.lemmas.Bool.{false≢true, eq-eqb, eqb-true}
use Rattle.std.proofs.lemmas.Nat.{one_shl}
use Rattle.std.proofs.lemmas.Nat.Bits.{bit_at_or, bit_at-pow_same, bit_at-lt}
use Rattle.gr_match.specs.declared.bucket.Bucket.{Bucket}
use Rattle.gr_match.specs.declared.marks.Marks.{Marks}
use Rattle.gr_match.specs.Needed.{Pair, is_pair}
use Rattle.gr_match.specs.Index.{bucket_pair, put, places_for, row_of, row_with}
use Rattle.gr_match.specs.Marked.{is_marked, AreMarked}
use Rattle.gr_match.proofs.Adding.{pair_equal}

-- ---- bits

-- the bit of number k is set by what the code ors in
pub bit_set : (a m k i : ℕ) → m ≡ 1 * 2 ^ k % 2 ^ 64 → k < 64 → k ≡ i → nat_eq (bit_at (bit_or a m) i) 1 ≡ true
bit_set a m k i e l q =
    let one : bit_at m i ≡ 1 = ap₂ bit_at (e ∙ one_shl k 64 l) (sym q) ∙ bit_at-pow_same k in
    eq-eqb _ 1 (bit_at_or a m i ∙ omega (arith, one, bit_at-lt a i))

pub bit_kept : (a b i : ℕ) → nat_eq (bit_at a i) 1 ≡ true → nat_eq (bit_at (bit_or a b) i) 1 ≡ true
bit_kept a b i h =
    eq-eqb _ 1 (bit_at_or a b i ∙ omega (arith, eqb-true (bit_at a i) 1 h, bit_at-lt b i))

-- ---- buckets

abbrev pub EachMarked : Marks → List Bucket → Type 0
EachMarked m bs = AllByRecursion (λ b. is_marked m (bucket_pair b) ≡ true) bs

first_unmarked : (m : Marks) (p : Pair) (b : Bucket) (ns : List ℕ) (x : Bool) → is_pair p (bucket_pair b) ≡ x → is_marked m (bucket_pair b) ≡ true → is_marked m p ≡ false → [] ≡ ns → [] ≡ cond x b.places [] ++ ns
first_unmarked m p b ns true e h k r = absurd (false≢true (sym k ∙ ap (is_marked m) (pair_equal p (bucket_pair b) e) ∙ h))
first_unmarked m p b ns false e h k r = r

-- a pair that is not marked has no bucket among those of marked pairs
pub unmarked : (m : Marks) (p : Pair) (bs : List Bucket) → EachMarked m bs → is_marked m p ≡ false → [] ≡ flat_map (places_for p) bs
unmarked m p [] h k = refl
unmarked m p (b ∷ bs) h k = first_unmarked m p b (flat_map (places_for p) bs) (is_pair p (bucket_pair b)) refl h.0 k (unmarked m p bs h.1 k)

more_marked : (m l : Marks) (bs : List Bucket) → ((q : Pair) → is_marked m q ≡ true → is_marked l q ≡ true) → EachMarked m bs → EachMarked l bs
more_marked m l [] s h = tt
more_marked m l (b ∷ bs) s h = (s (bucket_pair b) h.0, more_marked m l bs s h.1)

first_put : (m : Marks) (p : Pair) (n : ℕ) (b : Bucket) (bs : List Bucket) (x : Bool) → EachMarked m (b ∷ bs) → EachMarked m (put p n bs) → EachMarked m (cond x (record b { places = b.places ++ n ∷ [] } ∷ bs) (b ∷ put p n bs))
first_put m p n b bs true h r = h
first_put m p n b bs false h r = (h.0, r)

put_marked : (m : Marks) (p : Pair) (n : ℕ) (bs : List Bucket) → is_marked m p ≡ true → EachMarked m bs → EachMarked m (put p n bs)
put_marked m p n [] k h = (k, tt)
put_marked m p n (b ∷ bs) k h = first_put m p n b bs (is_pair p (bucket_pair b)) h (put_marked m p n bs k h.1)

-- ---- rows

-- rows with the same buckets, where no mark was taken away
same_marked : (m l : Marks) (row row2 : ℕ → List Bucket) → ((q : Pair) → is_marked m q ≡ true → is_marked l q ≡ true) → ((i : ℕ) → row2 i ≡ row i) → AreMarked m row → AreMarked l row2
same_marked m l row row2 s e h i = subst (EachMarked l) (sym (e i)) (more_marked m l (row i) s (h i))

-- a place was put into the bucket of its pair, which was marked
placed_marked : (m l : Marks) (p : Pair) (n : ℕ) (row row2 : ℕ → List Bucket) → is_marked l p ≡ true → ((q : Pair) → is_marked m q ≡ true → is_marked l q ≡ true) → ((i : ℕ) → row2 i ≡ row_with (Some p) n row i) → AreMarked m row → AreMarked l row2
placed_marked m l p n row row2 k s e h i = subst (EachMarked l) (sym (e i)) (there (nat_eq i (row_of p)))
  where
    before : EachMarked l (row i)
    before = more_marked m l (row i) s (h i)

    there : (b : Bool) → EachMarked l (cond b (put p n (row i)) (row i))
    there true = put_marked l p n (row i) k before
    there false = before

-- a place was to be put into the bucket of its pair, which was marked
pub after_put : {T E : Type 0} (m l : Marks) (p : Pair) (n : ℕ) (row row2 : ℕ → List Bucket) (r : Result T E) → is_marked l p ≡ true → ((q : Pair) → is_marked m q ≡ true → is_marked l q ≡ true) → AreMarked m row
    → OnOk r ((i : ℕ) → row2 i ≡ row_with (Some p) n row i) → OnErr r ((i : ℕ) → row2 i ≡ row i) → AreMarked l row2
after_put m l p n row row2 (Ok x) k s h e f = placed_marked m l p n row row2 k s e h
after_put m l p n row row2 (Err x) k s h e f = same_marked m l row row2 s f h
