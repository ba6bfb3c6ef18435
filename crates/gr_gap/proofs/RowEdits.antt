-- What an edit in one block makes of all values, and of the row.
use Rattle.std.proofs.Common.{subst, ◌≡◌, ℕ, zero, suc, ◌+◌, ◌-◌, ◌*◌, ◌<◌, ◌≤◌, List, [], ◌∷◌, ◌++◌, length, set, get_or, remove, refl, sym, ap, ◌∙◌, arith, length-append, append_assoc}
use Rattle.std.specs.List.{insert}
use Rattle.std.proofs.lemmas.List.{get_or_append_left, get_or-append_right, set-append_left, set-append_right}
use Rattle.std.proofs.lemmas.List.Edits.{insert-append_left, insert-append_right, remove-append_left, remove-append_right}
use Rattle.std_alloc.specs.declared.vec.deque.VecDeque.{VecDeque}
use Rattle.gr_gap.specs.Blocks.{changed_from, values_of, held, before, IsRow}

module _ {X Z : Type 0} where
  -- the value at i of all stands at o of its block
  pub value_at : (k o i : ℕ) (bs : List (VecDeque X Z)) (d : VecDeque X Z) (x : X) → i ≡ before k bs + o → o < held k bs →
      get_or (values_of bs) i x ≡ get_or (get_or bs k d).items o x
  value_at k o i [] d x e lt = absurd (omega (arith, lt))
  value_at zero o i (b ∷ bs) d x e lt =
      let same : i ≡ o = omega (arith, e) in
      get_or_append_left b.items (values_of bs) x i (omega (arith, same, lt)) ∙ ap (λ j. get_or b.items j x) same
  value_at (suc k) o i (b ∷ bs) d x e lt =
      get_or-append_right b.items (values_of bs) (length b.items) i x refl (omega (arith, e))
      ∙ value_at k o (i - length b.items) bs d x (omega (arith, e)) lt

  -- a value exchanged, put in and taken out
  pub exchanged : (k o i : ℕ) (bs : List (VecDeque X Z)) (d b : VecDeque X Z) (x : X) → i ≡ before k bs + o → o < held k bs →
      b.items ≡ set (get_or bs k d).items o x → values_of (set bs k b) ≡ set (values_of bs) i x
  exchanged k o i [] d b x e lt f = absurd (omega (arith, lt))
  exchanged zero o i (a ∷ bs) d b x e lt f =
      let same : o ≡ i = omega (arith, e) in
      ap (λ l. l ++ values_of bs) f ∙ sym (set-append_left a.items (values_of bs) o x lt)
      ∙ ap (λ j. set (a.items ++ values_of bs) j x) same
  exchanged (suc k) o i (a ∷ bs) d b x e lt f =
      ap (λ l. a.items ++ l) (exchanged k o (i - length a.items) bs d b x (omega (arith, e)) lt f)
      ∙ sym (set-append_right a.items (values_of bs) (length a.items) i x refl (omega (arith, e)))

  pub put_in : (k o i : ℕ) (bs : List (VecDeque X Z)) (d b : VecDeque X Z) (x : X) → k < length bs → i ≡ before k bs + o →
      o ≤ held k bs → b.items ≡ insert (get_or bs k d).items o x → values_of (set bs k b) ≡ insert (values_of bs) i x
  put_in k o i [] d b x lt e le f = absurd (omega (arith, lt))
  put_in zero o i (a ∷ bs) d b x lt e le f =
      let same : o ≡ i = omega (arith, e) in
      ap (λ l. l ++ values_of bs) f ∙ sym (insert-append_left a.items (values_of bs) o x le)
      ∙ ap (λ j. insert (a.items ++ values_of bs) j x) same
  put_in (suc k) o i (a ∷ bs) d b x lt e le f =
      ap (λ l. a.items ++ l) (put_in k o (i - length a.items) bs d b x (omega (arith, lt)) (omega (arith, e)) le f)
      ∙ sym (insert-append_right a.items (values_of bs) (length a.items) i x refl (omega (arith, e)))

  pub taken_out : (k o i : ℕ) (bs : List (VecDeque X Z)) (d b : VecDeque X Z) → i ≡ before k bs + o → o < held k bs →
      b.items ≡ remove (get_or bs k d).items o → values_of (set bs k b) ≡ remove (values_of bs) i
  taken_out k o i [] d b e lt f = absurd (omega (arith, lt))
  taken_out zero o i (a ∷ bs) d b e lt f =
      let same : o ≡ i = omega (arith, e) in
      ap (λ l. l ++ values_of bs) f ∙ sym (remove-append_left a.items (values_of bs) o lt)
      ∙ ap (λ j. remove (a.items ++ values_of bs) j) same
  taken_out (suc k) o i (a ∷ bs) d b e lt f =
      ap (λ l. a.items ++ l) (taken_out k o (i - length a.items) bs d b (omega (arith, e)) lt f)
      ∙ sym (remove-append_right a.items (values_of bs) (length a.items) i refl (omega (arith, e)))

  -- two neighbours that have in all what two had
  pub passed : (k : ℕ) (bs : List (VecDeque X Z)) (d b c : VecDeque X Z) → suc k < length bs →
      (get_or bs k d).items ++ (get_or bs (suc k) d).items ≡ b.items ++ c.items →
      values_of (set (set bs k b) (suc k) c) ≡ values_of bs
  passed k [] d b c lt e = absurd (omega (arith, lt))
  passed zero (a ∷ []) d b c lt e = absurd (omega (arith, lt))
  passed zero (a ∷ z ∷ bs) d b c lt e =
      sym (append_assoc b.items c.items (values_of bs)) ∙ ap (λ l. l ++ values_of bs) (sym e) ∙ append_assoc a.items z.items (values_of bs)
  passed (suc k) (a ∷ bs) d b c lt e = ap (λ l. a.items ++ l) (passed k bs d b c (omega (arith, lt)) e)

  -- a block with other values, as many as before
  pub same_row : (k n : ℕ) (ss : List ℕ) (bs : List (VecDeque X Z)) (b : VecDeque X Z) → IsRow 512 n ss bs → k < length bs →
      length b.items ≡ held k bs → 512 ≤ b.cap → IsRow 512 n ss (set bs k b)
  same_row k n ss [] b h lt e cap = absurd (omega (arith, lt))
  same_row zero n [] (a ∷ bs) b h lt e cap = (omega (arith, h.0, e), (cap, h.1.1))
  same_row (suc k) n [] (a ∷ bs) b h lt e cap = (h.0, (h.1.0, same_row k n [] bs b h.1.1 (omega (arith, lt)) e cap))
  same_row zero n (s ∷ ss) (a ∷ bs) b h lt e cap =
      let same : n + length a.items ≡ n + length b.items = omega (arith, e) in
      (h.0, (omega (arith, e, h.1.0), (cap, subst (λ m. IsRow 512 m ss bs) same h.1.1.1)))
  same_row (suc k) n (s ∷ ss) (a ∷ bs) b h lt e cap =
      (h.0, (h.1.0, (h.1.1.0, same_row k (n + length a.items) ss bs b h.1.1.1 (omega (arith, lt)) e cap)))

  -- the same row behind more values, or fewer
  pub raised_row : (n by : ℕ) (ss : List ℕ) (bs : List (VecDeque X Z)) → IsRow 512 n ss bs →
      IsRow 512 (n + by) (changed_from (λ s. s + by) 0 ss) bs
  raised_row n by [] [] h = tt
  raised_row n by (s ∷ ss) [] h = absurd h
  raised_row n by [] (b ∷ bs) h = (h.0, (h.1.0, raised_row n by [] bs h.1.1))
  raised_row n by (s ∷ ss) (b ∷ bs) h =
      let more : n + length b.items + by ≡ n + by + length b.items = omega arith in (
        ap (λ m. m + by) h.0,
        (
          h.1.0,
          (
            h.1.1.0,
            subst (λ m. IsRow 512 m (changed_from (λ s. s + by) 0 ss) bs) more
                (raised_row (n + length b.items) by ss bs h.1.1.1),
          ),
        ),
      )

  pub lowered_row : (n m by : ℕ) (ss : List ℕ) (bs : List (VecDeque X Z)) → m ≡ n + by → IsRow 512 m ss bs →
      IsRow 512 n (changed_from (λ s. s - by) 0 ss) bs
  lowered_row n m by [] [] e h = tt
  lowered_row n m by (s ∷ ss) [] e h = absurd h
  lowered_row n m by [] (b ∷ bs) e h = (h.0, (h.1.0, lowered_row n m by [] bs e h.1.1))
  lowered_row n m by (s ∷ ss) (b ∷ bs) e h =
      (omega (arith, h.0, e), (h.1.0, (h.1.1.0, lowered_row (n + length b.items) (m + length b.items) by ss bs (omega (arith, e)) h.1.1.1)))

  -- a block with one value more, and with one less
  grown : (k n : ℕ) (ss : List ℕ) (bs : List (VecDeque X Z)) (b : VecDeque X Z) → IsRow 512 n ss bs → k < length ss →
      length b.items ≡ held k bs + 1 → length b.items ≤ 512 → 512 ≤ b.cap →
      IsRow 512 n (changed_from (λ s. s + 1) (suc k) ss) (set bs k b)
  grown k n [] bs b h lt e le cap = absurd (omega (arith, lt))
  grown k n (s ∷ ss) [] b h lt e le cap = absurd h
  grown zero n (s ∷ ss) (a ∷ bs) b h lt e le cap =
      let more : n + length a.items + 1 ≡ n + length b.items = omega (arith, e) in (
        h.0,
        (
          le,
          (
            cap,
            subst (λ m. IsRow 512 m (changed_from (λ s. s + 1) 0 ss) bs) more
                (raised_row (n + length a.items) 1 ss bs h.1.1.1),
          ),
        ),
      )
  grown (suc k) n (s ∷ ss) (a ∷ bs) b h lt e le cap =
      (h.0, (h.1.0, (h.1.1.0, grown k (n + length a.items) ss bs b h.1.1.1 (omega (arith, lt)) e le cap)))

  pub grown_row : (k : ℕ) (ss : List ℕ) (bs : List (VecDeque X Z)) (b : VecDeque X Z) → IsRow 512 0 ss bs → k < length ss →
      length b.items ≡ held k bs + 1 → length b.items ≤ 512 → 512 ≤ b.cap →
      IsRow 512 0 (changed_from (λ s. s + 1) (k + 1) ss) (set bs k b)
  grown_row k ss bs b h lt e le cap =
      let step : suc k ≡ k + 1 = omega arith in
      subst (λ j. IsRow 512 0 (changed_from (λ s. s + 1) j ss) (set bs k b)) step (grown k 0 ss bs b h lt e le cap)

  shrunk : (k n : ℕ) (ss : List ℕ) (bs : List (VecDeque X Z)) (b : VecDeque X Z) → IsRow 512 n ss bs → k < length ss →
      length b.items + 1 ≡ held k bs → 512 ≤ b.cap →
      IsRow 512 n (changed_from (λ s. s - 1) (suc k) ss) (set bs k b)
  shrunk k n [] bs b h lt e cap = absurd (omega (arith, lt))
  shrunk k n (s ∷ ss) [] b h lt e cap = absurd h
  shrunk zero n (s ∷ ss) (a ∷ bs) b h lt e cap =
      (h.0, (omega (arith, e, h.1.0), (cap, lowered_row (n + length b.items) (n + length a.items) 1 ss bs (omega (arith, e)) h.1.1.1)))
  shrunk (suc k) n (s ∷ ss) (a ∷ bs) b h lt e cap =
      (h.0, (h.1.0, (h.1.1.0, shrunk k (n + length a.items) ss bs b h.1.1.1 (omega (arith, lt)) e cap)))

  pub shrunk_row : (k : ℕ) (ss : List ℕ) (bs : List (VecDeque X Z)) (b : VecDeque X Z) → IsRow 512 0 ss bs → k < length ss →
      length b.items + 1 ≡ held k bs → 512 ≤ b.cap →
      IsRow 512 0 (changed_from (λ s. s - 1) (k + 1) ss) (set bs k b)
  shrunk_row k ss bs b h lt e cap =
      let step : suc k ≡ k + 1 = omega arith in
      subst (λ j. IsRow 512 0 (changed_from (λ s. s - 1) j ss) (set bs k b)) step (shrunk k 0 ss bs b h lt e cap)

  -- two neighbours that share their values otherwise
  pub shared_row : (k n x : ℕ) (ss : List ℕ) (bs : List (VecDeque X Z)) (b c : VecDeque X Z) → IsRow 512 n ss bs →
      suc k < length ss → x ≡ n + before k bs + length b.items → length b.items + length c.items ≡ held k bs + held (suc k) bs →
      length b.items ≤ 512 → length c.items ≤ 512 → 512 ≤ b.cap → 512 ≤ c.cap →
      IsRow 512 n (set ss (suc k) x) (set (set bs k b) (suc k) c)
  shared_row k n x [] bs b c h lt at e le more wide far = absurd (omega (arith, lt))
  shared_row k n x (s ∷ ss) [] b c h lt at e le more wide far = absurd h
  shared_row zero n x (s ∷ []) (a ∷ bs) b c h lt at e le more wide far = absurd (omega (arith, lt))
  shared_row zero n x (s ∷ t ∷ ss) (a ∷ []) b c h lt at e le more wide far = absurd h.1.1.1
  shared_row zero n x (s ∷ t ∷ ss) (a ∷ z ∷ bs) b c h lt at e le more wide far =
      let same : n + length a.items + length z.items ≡ n + length b.items + length c.items = omega (arith, e) in
      (h.0, (le, (wide, (omega (arith, at), (more, (far, subst (λ m. IsRow 512 m ss bs) same h.1.1.1.1.1.1))))))
  shared_row (suc k) n x (s ∷ ss) (a ∷ bs) b c h lt at e le more wide far =
      (h.0, (h.1.0, (h.1.1.0, shared_row k (n + length a.items) x ss bs b c h.1.1.1 (omega (arith, lt)) (omega (arith, at)) e le more wide far)))

  -- a free block behind all
  pub behind_row : (n : ℕ) (ss : List ℕ) (bs : List (VecDeque X Z)) (e : VecDeque X Z) → IsRow 512 n ss bs →
      length e.items ≡ 0 → 512 ≤ e.cap → IsRow 512 n ss (bs ++ e ∷ [])
  behind_row n [] [] e h none wide = (none, (wide, tt))
  behind_row n (s ∷ ss) [] e h none wide = absurd h
  behind_row n [] (b ∷ bs) e h none wide = (h.0, (h.1.0, behind_row n [] bs e h.1.1 none wide))
  behind_row n (s ∷ ss) (b ∷ bs) e h none wide =
      (h.0, (h.1.0, (h.1.1.0, behind_row (n + length b.items) ss bs e h.1.1.1 none wide)))

  pub behind_values : (bs : List (VecDeque X Z)) (e : VecDeque X Z) → e.items ≡ [] → values_of (bs ++ e ∷ []) ≡ values_of bs
  behind_values [] e none = ap (λ l. l ++ []) none
  behind_values (b ∷ bs) e none = ap (λ l. b.items ++ l) (behind_values bs e none)

  -- the last block, where it is free
  pub last_free : (n : ℕ) (ss : List ℕ) (bs : List (VecDeque X Z)) (e : VecDeque X Z) → IsRow 512 n ss (bs ++ e ∷ []) →
      length ss ≤ length bs → IsRow 512 n ss bs × (length e.items ≡ 0) × (512 ≤ e.cap)
  last_free n [] [] e h le = (tt, h.0, h.1.0)
  last_free n (s ∷ ss) [] e h le = absurd (omega (arith, le))
  last_free n [] (b ∷ bs) e h le =
      let on = last_free n [] bs e h.1.1 (omega arith) in ((h.0, (h.1.0, on.0)), on.1, on.2)
  last_free n (s ∷ ss) (b ∷ bs) e h le =
      let on = last_free (n + length b.items) ss bs e h.1.1.1 (omega (arith, le)) in
      ((h.0, (h.1.0, (h.1.1.0, on.0))), on.1, on.2)

  -- an empty block put among those in use
  pub opened_row : (at n s : ℕ) (ss : List ℕ) (bs : List (VecDeque X Z)) (e : VecDeque X Z) → IsRow 512 n ss bs →
      at ≤ length ss → s ≡ n + before at bs → length e.items ≡ 0 → 512 ≤ e.cap →
      IsRow 512 n (insert ss at s) (insert bs at e)
  opened_row zero n s ss bs e h le at none wide =
      let same : n ≡ n + length e.items = omega (arith, none) in
      (omega (arith, at), (omega (arith, none), (wide, subst (λ m. IsRow 512 m ss bs) same h)))
  opened_row (suc k) n s [] bs e h le at none wide = absurd (omega (arith, le))
  opened_row (suc k) n s (t ∷ ss) [] e h le at none wide = absurd h
  opened_row (suc k) n s (t ∷ ss) (b ∷ bs) e h le at none wide =
      (h.0, (h.1.0, (h.1.1.0, opened_row k (n + length b.items) s ss bs e h.1.1.1 (omega (arith, le)) (omega (arith, at)) none wide)))

  pub opened_values : (at : ℕ) (bs : List (VecDeque X Z)) (e : VecDeque X Z) → e.items ≡ [] → at ≤ length bs →
      values_of (insert bs at e) ≡ values_of bs
  opened_values zero bs e none le = ap (λ l. l ++ values_of bs) none
  opened_values (suc k) [] e none le = absurd (omega (arith, le))
  opened_values (suc k) (b ∷ bs) e none le = ap (λ l. b.items ++ l) (opened_values k bs e none (omega (arith, le)))

  pub held_opened : (at : ℕ) (bs : List (VecDeque X Z)) (e : VecDeque X Z) → at ≤ length bs →
      held at (insert bs at e) ≡ length e.items
  held_opened zero bs e le = refl
  held_opened (suc k) [] e le = absurd (omega (arith, le))
  held_opened (suc k) (b ∷ bs) e le = held_opened k bs e (omega (arith, le))

  pub held_below : (j at : ℕ) (bs : List (VecDeque X Z)) (e : VecDeque X Z) → at ≤ length bs → j < at →
      held j (insert bs at e) ≡ held j bs
  held_below j zero bs e le lt = absurd (omega (arith, lt))
  held_below j (suc k) [] e le lt = absurd (omega (arith, le))
  held_below zero (suc k) (b ∷ bs) e le lt = refl
  held_below (suc j) (suc k) (b ∷ bs) e le lt = held_below j k bs e (omega (arith, le)) (omega (arith, lt))

  -- and an empty one taken from among them
  pub closed_row : (k n : ℕ) (ss : List ℕ) (bs : List (VecDeque X Z)) → IsRow 512 n ss bs → k < length ss → held k bs ≡ 0 →
      IsRow 512 n (remove ss k) (remove bs k)
  closed_row k n [] bs h lt none = absurd (omega (arith, lt))
  closed_row k n (s ∷ ss) [] h lt none = absurd h
  closed_row zero n (s ∷ ss) (b ∷ bs) h lt none =
      let same : n + length b.items ≡ n = omega (arith, none) in subst (λ m. IsRow 512 m ss bs) same h.1.1.1
  closed_row (suc k) n (s ∷ ss) (b ∷ bs) h lt none =
      (h.0, (h.1.0, (h.1.1.0, closed_row k (n + length b.items) ss bs h.1.1.1 (omega (arith, lt)) none)))

  pub closed_values : (k : ℕ) (bs : List (VecDeque X Z)) (d : VecDeque X Z) → k < length bs → (get_or bs k d).items ≡ [] →
      values_of (remove bs k) ≡ values_of bs
  closed_values k [] d lt none = absurd (omega (arith, lt))
  closed_values zero (b ∷ bs) d lt none = ap (λ l. l ++ values_of bs) (sym none)
  closed_values (suc k) (b ∷ bs) d lt none = ap (λ l. b.items ++ l) (closed_values k bs d (omega (arith, lt)) none)

  -- all blocks full: so many values
  pub all_full : (bs : List (VecDeque X Z)) → ((k : ℕ) → k < length bs → 512 ≤ held k bs) →
      length bs * 512 ≤ length (values_of bs)
  all_full [] h = omega arith
  all_full (b ∷ bs) h =
      let first : 512 ≤ length b.items = h 0 (omega arith) in
      let on = all_full bs (λ k lt. h (suc k) (omega (arith, lt))) in
      omega (arith, first, on, length-append b.items (values_of bs))
