-- Each look at a block's first value moves one of the two places on; the place is then looked for in the last block that
-- begins below the rank.
use Rattle.std.proofs.Common.{◌⊎◌, inl, inr, ltb-true, ltb-false, ℕ, ◌≡◌, ◌+◌, ◌-◌, ◌/◌, ◌<◌, ◌≤◌, length, get_or, refl, ap, sym, ◌∙◌, subst, arith}
use Rattle.std.specs.List.Sorted.{IsNonDecreasingBy, IsPartitionPoint}
use Rattle.gr_gap.specs.Blocks.{values_of, held, before}
use Rattle.gr_gap.proofs.Changes.{read_is}
use Rattle.gr_gap.proofs.Rows.{in_row, start_is, before_all, held_at, next_start, last_end, last_or, some_start, fits}
use Rattle.gr_gap.proofs.Ranks.{up_to, from_on, block_up, first_at, block_point}
use Rattle.gr_gap.proofs.blocks.Blocks.count_below.Goals as goal
use Rattle.gr_gap.proofs.blocks.Blocks.count_below.Goals.{in-Some, in-None+then-start-self, in-None+else-start-self}

pub index-requires : goal.index-requires
index-requires g c =
    let s = c.self.inside in
    omega (arith, c.loop-low-test.true, c.loop-low.invariant.within, in_row 0 s.starts.items s.blocks.items c.self.invariant.0, s.blocks.ok.0)

pub loop-low-preserved-then-is_below : goal.loop-low-preserved-then-is_below
loop-low-preserved-then-is_below g c =
    let s = c.self.inside in let r = g.T.Ranked.rank_of in let n = c.args.rank in
    let vs = values_of s.blocks.items in let at = c.index-start.result.now in
    let k = c.loop-low.low + (c.loop-low.high - c.loop-low.low) / 2 in
    let seen = ap (λ v. v.items) c.self.view_is in
    let up = subst (IsNonDecreasingBy r) (sym seen) c.requires in
    let there : k < length s.starts.items = omega (arith, c.loop-low-test.true, c.loop-low.invariant.within) in
    let inside : k < length s.blocks.items = omega (arith, there, in_row 0 s.starts.items s.blocks.items c.self.invariant.0) in
    let begin = read_is k s.starts.items at there c.index-start.ensures in
    let start : at ≡ before k s.blocks.items =
    let begins = start_is k 0 s.starts.items s.blocks.items c.self.invariant.0 there in omega (arith, begin, begins) in
    let found : (x : g.row.T.Denot) × (at < length vs) × (x ≡ get_or vs at x) × (r x < n) =
    elim c.match-front.branch [
      | in-Some w ↦
          let first = first_at r n k at s.blocks.items c.index.result.now w.in-Some.first.now inside c.index.ensures
          (omega (arith, w.in-Some.ensures.variant.0 refl, c.index.result.now.ok.0)) start w.in-Some.ensures.lookup in
          (w.in-Some.first.now, first.0, first.1, omega (arith, ltb-true _ _ (sym w.is_below-is ∙ c.if-is_below.true), w.rank.ensures))
      | in-None+then-start-self w ↦ (
        w.get.result.now,
        omega (arith, w.if-start-self.true, c.self.invariant.1),
        w.get.ensures ∙ ap (λ l. get_or l at w.get.result.now) (sym seen),
        omega (arith, ltb-true _ _ (sym w.is_below-is ∙ c.if-is_below.true), w.rank-then-start-self.ensures),
      )
      | in-None+else-start-self w ↦ absurd (omega (arith, ltb-true _ _ (sym w.is_below-is ∙ c.if-is_below.true), w.if-start-self.false))
    ] in
    let back : k + 1 - 1 ≡ k = omega arith in
    record {
      ordered = omega (arith, c.loop-low-test.true);
      within = c.loop-low.invariant.within;
      below = λ j d some le lt. up_to r n vs at found.0 up found.1 found.2 found.3 j d
          (omega (arith, begin, le, ap (λ i. get_or s.starts.items i 0) back));
      behind = c.loop-low.invariant.behind;
    }

pub loop-low-preserved : goal.loop-low-preserved
loop-low-preserved g c =
    let s = c.self.inside in let r = g.T.Ranked.rank_of in let n = c.args.rank in
    let vs = values_of s.blocks.items in let at = c.index-start.result.now in
    let k = c.loop-low.low + (c.loop-low.high - c.loop-low.low) / 2 in
    let seen = ap (λ v. v.items) c.self.view_is in
    let up = subst (IsNonDecreasingBy r) (sym seen) c.requires in
    let there : k < length s.starts.items = omega (arith, c.loop-low-test.true, c.loop-low.invariant.within) in
    let inside : k < length s.blocks.items = omega (arith, there, in_row 0 s.starts.items s.blocks.items c.self.invariant.0) in
    let begin = read_is k s.starts.items at there c.index-start.ensures in
    let start : at ≡ before k s.blocks.items =
    let begins = start_is k 0 s.starts.items s.blocks.items c.self.invariant.0 there in omega (arith, begin, begins) in
    let found : (length vs ≤ at) ⊎ ((x : g.row.T.Denot) × (at < length vs) × (x ≡ get_or vs at x) × (n ≤ r x)) =
    elim c.match-front.branch [
      | in-Some w ↦
          let first = first_at r n k at s.blocks.items c.index.result.now w.in-Some.first.now inside c.index.ensures
          (omega (arith, w.in-Some.ensures.variant.0 refl, c.index.result.now.ok.0)) start w.in-Some.ensures.lookup in
          inr (w.in-Some.first.now, first.0, first.1, omega (arith, ltb-false _ _ (sym w.is_below-is ∙ c.if-is_below.false), w.rank.ensures))
      | in-None+then-start-self w ↦ inr (
        w.get.result.now,
        omega (arith, w.if-start-self.true, c.self.invariant.1),
        w.get.ensures ∙ ap (λ l. get_or l at w.get.result.now) (sym seen),
        omega (arith, ltb-false _ _ (sym w.is_below-is ∙ c.if-is_below.false), w.rank-then-start-self.ensures),
      )
      | in-None+else-start-self w ↦ inl (omega (arith, w.if-start-self.false, c.self.invariant.1))
    ] in
    record {
      ordered = omega arith;
      within = omega (arith, there);
      below = c.loop-low.invariant.below;
      behind = λ j d some le lt. elim found [
        | inl past ↦ absurd (omega (arith, past, begin, le, lt))
        | inr f ↦ from_on r n vs at f.0 up f.1 f.2 f.3 j d (omega (arith, begin, le)) lt
      ];
    }

pub returns-then-low-eq0-clause-point : goal.returns-then-low-eq0-clause-point
returns-then-low-eq0-clause-point g c =
    let s = c.self.inside in let r = g.T.Ranked.rank_of in let n = c.args.rank in
    let seen = ap (λ v. v.items) c.self.view_is in
    let none : c.loop-low.high ≡ 0 = omega (arith, c.if-low-eq0.true, c.loop-low-test.false) in
    subst (λ l. IsPartitionPoint (λ v. r v < n) (λ v. n ≤ r v) l 0) seen (
      λ k d from lt. absurd (omega (arith, lt)),
      λ k d from lt.
          let some : 0 < length s.starts.items = some_start s.starts.items s.blocks.items c.self.invariant.0 (omega (arith, lt)) in
          let first : get_or s.starts.items 0 0 ≡ 0 = start_is 0 0 s.starts.items s.blocks.items c.self.invariant.0 some in
          let at : get_or s.starts.items c.loop-low.high 0 ≡ 0 = ap (λ j. get_or s.starts.items j 0) none ∙ first in
          c.loop-low.invariant.behind k d (omega (arith, none, some)) (omega (arith, at)) lt,
    )

pub index-requires-3 : goal.index-requires-3
index-requires-3 g c =
    let s = c.self.inside in
    omega (arith, c.loop-low.invariant.ordered, c.loop-low.invariant.within, in_row 0 s.starts.items s.blocks.items c.self.invariant.0, s.blocks.ok.0)

pub count_in-requires : goal.count_in-requires
count_in-requires g c =
    let s = c.self.inside in let r = g.T.Ranked.rank_of in
    let inside : c.loop-low.low - 1 < length s.blocks.items = omega (
      arith,
      c.loop-low.invariant.ordered,
      c.loop-low.invariant.within,
      c.if-low-eq0.false,
      in_row 0 s.starts.items s.blocks.items c.self.invariant.0,
    ) in
    block_up r c.args.rank (c.loop-low.low - 1) s.blocks.items c.index-3.result.now inside c.index-3.ensures
    (subst (IsNonDecreasingBy r) (sym (ap (λ v. v.items) c.self.view_is)) c.requires)

pub overflow_add-result : goal.overflow_add-result
overflow_add-result g c =
    let s = c.self.inside in let r = g.T.Ranked.rank_of in let n = c.args.rank in
    let vs = values_of s.blocks.items in let k = c.loop-low.low - 1 in let b = c.index-3.result.now in
    let at = c.index-2.result.now in let p = c.count_in.result in
    let row = c.self.invariant.0 in let seen = ap (λ v. v.items) c.self.view_is in
    let there : k < length s.starts.items = omega (arith, c.loop-low.invariant.ordered, c.loop-low.invariant.within, c.if-low-eq0.false) in
    let inside : k < length s.blocks.items = omega (arith, there, in_row 0 s.starts.items s.blocks.items row) in
    let begin = read_is k s.starts.items at there c.index-2.ensures in
    let begins = start_is k 0 s.starts.items s.blocks.items row there in
    let start : at ≡ before k s.blocks.items = omega (arith, begin, begins) in
    let long = fits 0 s.starts.items s.blocks.items row in
    let many = held_at k s.blocks.items b inside c.index-3.ensures in
    omega (arith, start, c.count_in.ensures.within, many, before_all k s.blocks.items, long, in_row 0 s.starts.items s.blocks.items row, c.self.invariant.3)

pub returns-clause-within : goal.returns-clause-within
returns-clause-within g c =
    let s = c.self.inside in let r = g.T.Ranked.rank_of in let n = c.args.rank in
    let vs = values_of s.blocks.items in let k = c.loop-low.low - 1 in let b = c.index-3.result.now in
    let at = c.index-2.result.now in let p = c.count_in.result in
    let row = c.self.invariant.0 in let seen = ap (λ v. v.items) c.self.view_is in
    let there : k < length s.starts.items = omega (arith, c.loop-low.invariant.ordered, c.loop-low.invariant.within, c.if-low-eq0.false) in
    let inside : k < length s.blocks.items = omega (arith, there, in_row 0 s.starts.items s.blocks.items row) in
    let begin = read_is k s.starts.items at there c.index-2.ensures in
    let begins = start_is k 0 s.starts.items s.blocks.items row there in
    let start : at ≡ before k s.blocks.items = omega (arith, begin, begins) in
    let many = held_at k s.blocks.items b inside c.index-3.ensures in
    let all : length vs ≡ length c.args.self.now.items = ap length seen in
    omega (arith, start, c.count_in.ensures.within, many, before_all k s.blocks.items, all)

pub returns-clause-point : goal.returns-clause-point
returns-clause-point g c =
    let s = c.self.inside in let r = g.T.Ranked.rank_of in let n = c.args.rank in
    let vs = values_of s.blocks.items in let k = c.loop-low.low - 1 in let b = c.index-3.result.now in
    let at = c.index-2.result.now in let p = c.count_in.result in
    let row = c.self.invariant.0 in let seen = ap (λ v. v.items) c.self.view_is in
    let there : k < length s.starts.items = omega (arith, c.loop-low.invariant.ordered, c.loop-low.invariant.within, c.if-low-eq0.false) in
    let inside : k < length s.blocks.items = omega (arith, there, in_row 0 s.starts.items s.blocks.items row) in
    let begin = read_is k s.starts.items at there c.index-2.ensures in
    let begins = start_is k 0 s.starts.items s.blocks.items row there in
    let start : at ≡ before k s.blocks.items = omega (arith, begin, begins) in
    let inv = c.loop-low.invariant in
    let same : k + 1 ≡ c.loop-low.high = omega (arith, inv.ordered, c.loop-low-test.false, c.if-low-eq0.false) in
    let below : (i : ℕ) (d : g.row.T.Denot) → i ≤ at → i < length vs → r (get_or vs i d) < n =
    λ i d le lt. inv.below i d (omega (arith, c.if-low-eq0.false)) (omega (arith, begin, le)) lt in
    let behind : (i : ℕ) (d : g.row.T.Denot) → at + held k s.blocks.items ≤ i → i < length vs → n ≤ r (get_or vs i d) =
    λ i d from lt. elim (last_or k (length s.starts.items) there) [
      | inl more ↦
          let next = next_start k s.starts.items s.blocks.items row more in
          let end : get_or s.starts.items (k + 1) 0 ≡ get_or s.starts.items c.loop-low.high 0 = ap (λ j. get_or s.starts.items j 0) same in
          inv.behind i d (omega (arith, same, more)) (omega (arith, next, end, begin, from)) lt
      | inr e ↦ absurd (omega (arith, last_end k 0 s.starts.items s.blocks.items row e, start, from, lt))
    ] in
    subst (λ l. IsPartitionPoint (λ v. r v < n) (λ v. n ≤ r v) l (at + p)) seen
    (block_point r n k at p s.blocks.items b inside c.index-3.ensures start c.count_in.ensures.within below behind c.count_in.ensures.point)
