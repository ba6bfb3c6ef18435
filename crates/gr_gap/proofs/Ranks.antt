-- Values whose ranks do not fall: which of them have a rank below another, in two lists and in blocks.
use Rattle.std.proofs.Common.{◌⊎◌, inl, inr, ◌≡◌, ℕ, zero, suc, ◌+◌, ◌-◌, ◌<◌, ◌≤◌, List, ◌++◌, length, get_or, refl, sym, ap, subst, ◌∙◌, arith, length-append}
use Rattle.std.proofs.lemmas.List.{get_or_default, get_or_append_left, get_or-append_right}
use Rattle.std.specs.List.Sorted.{IsNonDecreasingBy, IsPartitionPoint}
use Rattle.std_alloc.specs.declared.vec.deque.VecDeque.{VecDeque}
use Rattle.gr_gap.specs.Blocks.{values_of, held, before}
use Rattle.gr_gap.proofs.Rows.{before_all, held_is}
use Rattle.gr_gap.proofs.RowEdits.{value_at}

-- one number is less than another, or not
less_or : (k n : ℕ) → (k < n) ⊎ (n ≤ k)
less_or k zero = inr (omega arith)
less_or zero (suc n) = inl (omega arith)
less_or (suc k) (suc n) = elim (less_or k n) [ inl h ↦ inl (omega (arith, h)) | inr h ↦ inr (omega (arith, h)) ]

module _ {X : Type 0} where
  at_right : (xs ys : List X) (i : ℕ) (d : X) → get_or (xs ++ ys) (length xs + i) d ≡ get_or ys i d
  at_right xs ys i d =
      let past : length xs + i - length xs ≡ i = omega arith in
      get_or-append_right xs ys (length xs) (length xs + i) d refl (omega arith) ∙ ap (λ j. get_or ys j d) past

  module _ (r : X → ℕ) (n : ℕ) where
    -- all up to one below the rank are below it, and all from one on that is not are not
    pub up_to : (vs : List X) (s : ℕ) (x : X) → IsNonDecreasingBy r vs → s < length vs → x ≡ get_or vs s x → r x < n →
        (k : ℕ) (d : X) → k ≤ s → r (get_or vs k d) < n
    up_to vs s x up lt e low k d le =
        let at : get_or vs s d ≡ x = get_or_default vs s d x lt ∙ sym e in
        let here : r (get_or vs s d) < n = subst (λ y. r y < n) (sym at) low in
        omega (arith, here, up k s d le lt)

    pub from_on : (vs : List X) (s : ℕ) (x : X) → IsNonDecreasingBy r vs → s < length vs → x ≡ get_or vs s x → n ≤ r x →
        (k : ℕ) (d : X) → s ≤ k → k < length vs → n ≤ r (get_or vs k d)
    from_on vs s x up lt e high k d le there =
        let at : get_or vs s d ≡ x = get_or_default vs s d x lt ∙ sym e in
        let here : n ≤ r (get_or vs s d) = subst (λ y. n ≤ r y) (sym at) high in
        omega (arith, here, up s k d le there)

    -- the ranks of two lists, one behind the other
    pub left_up : (xs ys : List X) → IsNonDecreasingBy r (xs ++ ys) → IsNonDecreasingBy r xs
    left_up xs ys up i j d le lt =
        let longer = length-append xs ys in
        let a = get_or_append_left xs ys d i (omega (arith, le, lt)) in
        let b = get_or_append_left xs ys d j lt in
        let most = up i j d le (omega (arith, longer, lt)) in
        subst (λ y. r y ≤ r (get_or xs j d)) a (subst (λ y. r (get_or (xs ++ ys) i d) ≤ r y) b most)

    pub right_up : (xs ys : List X) → IsNonDecreasingBy r (xs ++ ys) → IsNonDecreasingBy r ys
    right_up xs ys up i j d le lt =
        let longer = length-append xs ys in
        let most = up (length xs + i) (length xs + j) d (omega (arith, le)) (omega (arith, longer, lt)) in
        subst (λ y. r y ≤ r (get_or ys j d)) (at_right xs ys i d)
        (subst (λ y. r (get_or (xs ++ ys) (length xs + i) d) ≤ r y) (at_right xs ys j d) most)

    -- where the first list ends with one that is not below the rank
    pub point_left : (xs ys : List X) (p : ℕ) (x : X) → IsNonDecreasingBy r (xs ++ ys) → 0 < length xs →
        x ≡ get_or xs (length xs - 1) x → n ≤ r x → p ≤ length xs →
        IsPartitionPoint (λ v. r v < n) (λ v. n ≤ r v) xs p → IsPartitionPoint (λ v. r v < n) (λ v. n ≤ r v) (xs ++ ys) p
    point_left xs ys p x up some e high le point = (
      λ k d from lt. subst (λ y. r y < n) (sym (get_or_append_left xs ys d k (omega (arith, le, lt)))) (point.0 k d from lt),
      λ k d from lt. elim (less_or k (length xs)) [
        | inl h ↦ subst (λ y. n ≤ r y) (sym (get_or_append_left xs ys d k h)) (point.1 k d from h)
        | inr h ↦ from_on (xs ++ ys) (length xs - 1) x up (omega (arith, some, length-append xs ys))
            (e ∙ sym (get_or_append_left xs ys x (length xs - 1) (omega (arith, some)))) high k d (omega (arith, h)) lt
      ],
    )

    -- and where all of it are below
    pub point_right : (xs ys : List X) (p : ℕ) → ((k : ℕ) (d : X) → k < length xs → r (get_or xs k d) < n) →
        IsPartitionPoint (λ v. r v < n) (λ v. n ≤ r v) ys p →
        IsPartitionPoint (λ v. r v < n) (λ v. n ≤ r v) (xs ++ ys) (length xs + p)
    point_right xs ys p all point = (
      λ k d from lt. elim (less_or k (length xs)) [
        | inl h ↦ subst (λ y. r y < n) (sym (get_or_append_left xs ys d k h)) (all k d h)
        | inr h ↦ subst (λ y. r y < n) (sym (behind k d h)) (point.0 (k - length xs) d (omega arith) (omega (arith, h, lt)))
      ],
      λ k d from lt. subst (λ y. n ≤ r y) (sym (behind k d (omega (arith, from))))
          (point.1 (k - length xs) d (omega (arith, from)) (omega (arith, from, lt, length-append xs ys))),
    )
      where
        behind : (k : ℕ) (d : X) → length xs ≤ k → get_or (xs ++ ys) k d ≡ get_or ys (k - length xs) d
        behind k d h = get_or-append_right xs ys (length xs) k d refl h

module _ {X Z : Type 0} (r : X → ℕ) (n : ℕ) where
  -- the values of one block
  pub block_up : (k : ℕ) (bs : List (VecDeque X Z)) (b : VecDeque X Z) → k < length bs → b ≡ get_or bs k b →
      IsNonDecreasingBy r (values_of bs) → IsNonDecreasingBy r b.items
  block_up k bs b there e up i j d le lt =
      let many : held k bs ≡ length b.items = held_is k bs b there ∙ ap (λ q. length q.items) (sym e) in
      let same : (o : ℕ) → o < length b.items → get_or (values_of bs) (before k bs + o) d ≡ get_or b.items o d =
      λ o h. value_at k o (before k bs + o) bs b d refl (omega (arith, h, many)) ∙ ap (λ q. get_or q.items o d) (sym e) in
      let most = up (before k bs + i) (before k bs + j) d (omega (arith, le)) (omega (arith, before_all k bs, lt, many)) in
      subst (λ y. r y ≤ r (get_or b.items j d)) (same i (omega (arith, le, lt)))
      (subst (λ y. r (get_or (values_of bs) (before k bs + i) d) ≤ r y) (same j lt) most)

  -- the value at the start of a block: the first of the block, where it has one
  pub first_at : (k s : ℕ) (bs : List (VecDeque X Z)) (b : VecDeque X Z) (x : X) → k < length bs → b ≡ get_or bs k b →
      0 < length b.items → s ≡ before k bs → x ≡ get_or b.items 0 x →
      (s < length (values_of bs)) × (x ≡ get_or (values_of bs) s x)
  first_at k s bs b x there e some at is =
      let many : held k bs ≡ length b.items = held_is k bs b there ∙ ap (λ q. length q.items) (sym e) in (
        omega (arith, before_all k bs, many, some, at),
        is ∙ ap (λ q. get_or q.items 0 x) e ∙ sym (value_at k 0 s bs b x (omega (arith, at)) (omega (arith, many, some))),
      )

  -- the place in a block is the one in all values, where those up to the block's start have a rank below and those from
  -- its end on have not
  pub block_point : (k s p : ℕ) (bs : List (VecDeque X Z)) (b : VecDeque X Z) → k < length bs → b ≡ get_or bs k b →
      s ≡ before k bs → p ≤ length b.items →
      ((i : ℕ) (d : X) → i ≤ s → i < length (values_of bs) → r (get_or (values_of bs) i d) < n) →
      ((i : ℕ) (d : X) → s + held k bs ≤ i → i < length (values_of bs) → n ≤ r (get_or (values_of bs) i d)) →
      IsPartitionPoint (λ v. r v < n) (λ v. n ≤ r v) b.items p →
      IsPartitionPoint (λ v. r v < n) (λ v. n ≤ r v) (values_of bs) (s + p)
  block_point k s p bs b there e at le below behind point = (
    λ i d from lt. elim (less_or i s) [
      | inl h ↦ below i d (omega (arith, h)) (omega (arith, h, at, before_all k bs))
      | inr h ↦ subst (λ y. r y < n) (sym (inside i d h (omega (arith, lt, h, le, many)))) (point.0 (i - s) d (omega arith) (omega (arith, lt, h)))
    ],
    λ i d from lt. elim (less_or i (s + held k bs)) [
      | inl h ↦ subst (λ y. n ≤ r y) (sym (inside i d (omega (arith, from)) (omega (arith, h, from)))) (point.1 (i - s) d (omega (arith, from)) (omega (arith, from, h, many)))
      | inr h ↦ behind i d h lt
    ],
  )
    where
      many : held k bs ≡ length b.items
      many = held_is k bs b there ∙ ap (λ q. length q.items) (sym e)

      inside : (i : ℕ) (d : X) → s ≤ i → i - s < held k bs → get_or (values_of bs) i d ≡ get_or b.items (i - s) d
      inside i d h lt = value_at k (i - s) i bs b d (omega (arith, h, at)) lt ∙ ap (λ q. get_or q.items (i - s) d) (sym e)
