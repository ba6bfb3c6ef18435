-- The place is one in the first block where that ends with no rank below, and else one behind it.
use Rattle.std.proofs.Common.{ℕ, ◌≡◌, ◌+◌, ◌-◌, ◌<◌, ◌≤◌, length, get_or, refl, ap, sym, ◌∙◌, subst, arith}
use Rattle.std.proofs.lemmas.Bool.{false≢true}
use Rattle.std.specs.List.Sorted.{IsNonDecreasingBy, IsPartitionPoint}
use Rattle.gr_gap.proofs.Ranks.{left_up, right_up, point_left, point_right, up_to}
use Rattle.gr_gap.proofs.gap.Gap.count_below.Goals as goal
use Rattle.gr_gap.proofs.gap.Gap.count_below.Goals.{in-Some+else-rank, in_default}

pub count_in-requires : goal.count_in-requires
count_in-requires g c =
    let s = c.self.inside in let r = g.T.Ranked.rank_of in
    let all = ap (λ v. v.items) c.self.view_is in
    left_up r c.args.rank s.head.items s.rest.items (subst (IsNonDecreasingBy r) (sym all) c.requires)

pub returns-then-rank-clause-point : goal.returns-then-rank-clause-point
returns-then-rank-clause-point g c =
    let s = c.self.inside in let r = g.T.Ranked.rank_of in let n = c.args.rank in let p = c.count_in.result in
    let all = ap (λ v. v.items) c.self.view_is in
    let last = c.in-Some.last.now in
    let some : 0 < length s.head.items = omega (arith, c.in-Some.ensures.variant.0 refl, s.head.ok.0) in
    let place : last ≡ get_or s.head.items (length s.head.items - 1) last = c.in-Some.ensures.lookup ∙ ap (λ k. get_or s.head.items (k - 1) last) (omega (arith, s.head.ok.0)) in
    subst (λ l. IsPartitionPoint (λ v. r v < n) (λ v. n ≤ r v) l p) all
    (point_left r n s.head.items s.rest.items p last (subst (IsNonDecreasingBy r) (sym all) c.requires) some place
    (omega (arith, c.if-rank.true, c.rank.ensures)) c.count_in.ensures.within c.count_in.ensures.point)

pub count_below-requires : goal.count_below-requires
count_below-requires g c =
    let s = c.self.inside in let r = g.T.Ranked.rank_of in
    let all = ap (λ v. v.items) c.self.view_is in
    right_up r c.args.rank s.head.items s.rest.items (subst (IsNonDecreasingBy r) (sym all) c.requires)

pub returns-clause-point : goal.returns-clause-point
returns-clause-point g c =
    let s = c.self.inside in let r = g.T.Ranked.rank_of in let n = c.args.rank in let p = c.count_below.result in
    let all = ap (λ v. v.items) c.self.view_is in
    let up = left_up r n s.head.items s.rest.items (subst (IsNonDecreasingBy r) (sym all) c.requires) in
    let low : (k : ℕ) (d : g.row.T.Denot) → k < length s.head.items → r (get_or s.head.items k d) < n =
    elim c.match-back.branch [
      | in-Some+else-rank w ↦ λ k d lt. up_to r n s.head.items (length s.head.items - 1) w.in-Some.last.now up (omega (arith, lt))
          (w.in-Some.ensures.lookup ∙ ap (λ j. get_or s.head.items (j - 1) w.in-Some.last.now) (omega (arith, s.head.ok.0)))
          (omega (arith, w.if-rank.false, w.rank.ensures)) k d (omega (arith, lt))
      | in_default w ↦ λ k d lt. absurd (false≢true (w.in_default.ensures.variant.1 (omega (arith, lt, s.head.ok.0))))
    ] in
    let long : length s.head.items + p ≡ c.len.result + p = omega (arith, c.len.ensures, s.head.ok.0) in
    subst (λ j. IsPartitionPoint (λ v. r v < n) (λ v. n ≤ r v) c.args.self.now.items j) long
    (subst (λ l. IsPartitionPoint (λ v. r v < n) (λ v. n ≤ r v) l (length s.head.items + p)) all
    (point_right r n s.head.items s.rest.items p low c.count_below.ensures.point))
