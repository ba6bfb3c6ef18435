use Rattle.std.proofs.Common.{◌≡◌, ◌+◌, ◌-◌, ◌<◌, ◌++◌, ◌&&◌, true, take, drop, get_or, nat_le, refl, sym, ap, ◌∙◌, subst, arith}
use Rattle.std.proofs.lemmas.Bool.{and_parts}
use Rattle.std.proofs.lemmas.Option.{get_or_from_slice_get}
use Rattle.gr_tick.specs.Stored.{part}
use Rattle.gr_know.specs.Values.{is_D}
use Rattle.gr_know.proofs.ForgetLemmas.{kept_run, gone_run, cut_run, gone_length, cut_length, gone_count, cut_count, front_is, front_gone, front_cut}
use Rattle.gr_know.proofs.forgetting.lower_run.Goals as goal

pub returns-then-not-may_lower-clause-lowered : goal.returns-then-not-may_lower-clause-lowered
returns-then-not-may_lower-clause-lowered c =
    kept_run c.args.stream.now.runs c.args.i c.args.left c.args.upto c.run-run.result.now c.requires.within
    (sym (get_or_from_slice_get c.args.stream.now.runs c.args.i c.run-run.result.now c.run-run.result.now c.run-run.ensures.run))
    (sym c.may_lower.ensures ∙ c.if-not-may_lower.true)

pub lower_front-requires-clause-holds : goal.lower_front-requires-clause-holds
lower_front-requires-clause-holds c = λ d.
    let r = c.run-run.result.now in
    let read : r ≡ get_or c.args.stream.now.runs c.args.i r = sym (get_or_from_slice_get c.args.stream.now.runs c.args.i r r c.run-run.ensures.run) in
    let test : (is_D r.value && nat_le r.first c.args.upto) ≡ true = sym c.may_lower.ensures ∙ c.if-not-may_lower.false in
    let k = front_is r c.args.left c.args.upto c.min.result c.min-ticks.result c.run-run.ensures.alone.ordered test c.requires.some c.min.ensures c.min-ticks.ensures in
    let same : get_or c.args.stream.now.runs c.args.i d ≡ r = get_or_from_slice_get c.args.stream.now.runs c.args.i r d c.run-run.ensures.run in
    (omega (arith, ap (λ z. z.first) same), omega (arith, ap (λ z. z.last) same, k.inside))

pub returns-then-end-last-clause-within : goal.returns-then-end-last-clause-within
returns-then-end-last-clause-within c =
    let r = c.run-run.result.now in
    let read : r ≡ get_or c.args.stream.now.runs c.args.i r = sym (get_or_from_slice_get c.args.stream.now.runs c.args.i r r c.run-run.ensures.run) in
    let test : (is_D r.value && nat_le r.first c.args.upto) ≡ true = sym c.may_lower.ensures ∙ c.if-not-may_lower.false in
    let k = front_is r c.args.left c.args.upto c.min.result c.min-ticks.result c.run-run.ensures.alone.ordered test c.requires.some c.min.ensures c.min-ticks.ensures in
    let left_over : c.lower_front.new.self.runs ≡ take c.args.i c.args.stream.now.runs ++ (part (r.first + (c.min-ticks.result - 1) + 1) r.last r.value ++ drop (c.args.i + 1) c.args.stream.now.runs) =
    subst (λ z. c.lower_front.new.self.runs ≡ take c.args.i c.args.stream.now.runs ++ (part (r.first + (c.min-ticks.result - 1) + 1) z.last z.value ++ drop (c.args.i + 1) c.args.stream.now.runs)) (sym read) (c.lower_front.ensures r) in
    let gone = front_gone c.args.stream.now.runs c.lower_front.new.self.runs c.args.i (r.first + (c.min-ticks.result - 1)) r left_over c.if-end-last.true in
    omega (arith, gone_length c.args.stream.now.runs c.lower_front.new.self.runs c.args.i c.requires.within gone, c.requires.within)

pub returns-then-end-last-clause-smaller : goal.returns-then-end-last-clause-smaller
returns-then-end-last-clause-smaller c =
    let r = c.run-run.result.now in
    let read : r ≡ get_or c.args.stream.now.runs c.args.i r = sym (get_or_from_slice_get c.args.stream.now.runs c.args.i r r c.run-run.ensures.run) in
    let test : (is_D r.value && nat_le r.first c.args.upto) ≡ true = sym c.may_lower.ensures ∙ c.if-not-may_lower.false in
    let k = front_is r c.args.left c.args.upto c.min.result c.min-ticks.result c.run-run.ensures.alone.ordered test c.requires.some c.min.ensures c.min-ticks.ensures in
    let left_over : c.lower_front.new.self.runs ≡ take c.args.i c.args.stream.now.runs ++ (part (r.first + (c.min-ticks.result - 1) + 1) r.last r.value ++ drop (c.args.i + 1) c.args.stream.now.runs) =
    subst (λ z. c.lower_front.new.self.runs ≡ take c.args.i c.args.stream.now.runs ++ (part (r.first + (c.min-ticks.result - 1) + 1) z.last z.value ++ drop (c.args.i + 1) c.args.stream.now.runs)) (sym read) (c.lower_front.ensures r) in
    let gone = front_gone c.args.stream.now.runs c.lower_front.new.self.runs c.args.i (r.first + (c.min-ticks.result - 1)) r left_over c.if-end-last.true in
    omega (arith, gone_length c.args.stream.now.runs c.lower_front.new.self.runs c.args.i c.requires.within gone, c.requires.within)

pub returns-then-end-last-clause-lowered : goal.returns-then-end-last-clause-lowered
returns-then-end-last-clause-lowered c =
    let r = c.run-run.result.now in
    let read : r ≡ get_or c.args.stream.now.runs c.args.i r = sym (get_or_from_slice_get c.args.stream.now.runs c.args.i r r c.run-run.ensures.run) in
    let test : (is_D r.value && nat_le r.first c.args.upto) ≡ true = sym c.may_lower.ensures ∙ c.if-not-may_lower.false in
    let k = front_is r c.args.left c.args.upto c.min.result c.min-ticks.result c.run-run.ensures.alone.ordered test c.requires.some c.min.ensures c.min-ticks.ensures in
    let left_over : c.lower_front.new.self.runs ≡ take c.args.i c.args.stream.now.runs ++ (part (r.first + (c.min-ticks.result - 1) + 1) r.last r.value ++ drop (c.args.i + 1) c.args.stream.now.runs) =
    subst (λ z. c.lower_front.new.self.runs ≡ take c.args.i c.args.stream.now.runs ++ (part (r.first + (c.min-ticks.result - 1) + 1) z.last z.value ++ drop (c.args.i + 1) c.args.stream.now.runs)) (sym read) (c.lower_front.ensures r) in
    let gone = front_gone c.args.stream.now.runs c.lower_front.new.self.runs c.args.i (r.first + (c.min-ticks.result - 1)) r left_over c.if-end-last.true in
    gone_run c.args.stream.now.runs c.lower_front.new.self.runs c.args.i c.args.left c.args.upto c.min-ticks.result r c.requires.within read test k.many (omega (arith, c.if-end-last.true, k.some)) gone

pub returns-clause-within : goal.returns-clause-within
returns-clause-within c =
    let r = c.run-run.result.now in
    let read : r ≡ get_or c.args.stream.now.runs c.args.i r = sym (get_or_from_slice_get c.args.stream.now.runs c.args.i r r c.run-run.ensures.run) in
    let test : (is_D r.value && nat_le r.first c.args.upto) ≡ true = sym c.may_lower.ensures ∙ c.if-not-may_lower.false in
    let k = front_is r c.args.left c.args.upto c.min.result c.min-ticks.result c.run-run.ensures.alone.ordered test c.requires.some c.min.ensures c.min-ticks.ensures in
    let left_over : c.lower_front.new.self.runs ≡ take c.args.i c.args.stream.now.runs ++ (part (r.first + (c.min-ticks.result - 1) + 1) r.last r.value ++ drop (c.args.i + 1) c.args.stream.now.runs) =
    subst (λ z. c.lower_front.new.self.runs ≡ take c.args.i c.args.stream.now.runs ++ (part (r.first + (c.min-ticks.result - 1) + 1) z.last z.value ++ drop (c.args.i + 1) c.args.stream.now.runs)) (sym read) (c.lower_front.ensures r) in
    let end_in : r.first + (c.min-ticks.result - 1) < r.last = omega (arith, k.inside, c.if-end-last.false) in
    let cut = front_cut c.args.stream.now.runs c.lower_front.new.self.runs c.args.i (r.first + (c.min-ticks.result - 1)) r left_over end_in in
    omega (arith, cut_length c.args.stream.now.runs c.lower_front.new.self.runs c.args.i _ c.requires.within cut, c.requires.within)

pub returns-clause-smaller : goal.returns-clause-smaller
returns-clause-smaller c =
    let r = c.run-run.result.now in
    let read : r ≡ get_or c.args.stream.now.runs c.args.i r = sym (get_or_from_slice_get c.args.stream.now.runs c.args.i r r c.run-run.ensures.run) in
    let test : (is_D r.value && nat_le r.first c.args.upto) ≡ true = sym c.may_lower.ensures ∙ c.if-not-may_lower.false in
    let k = front_is r c.args.left c.args.upto c.min.result c.min-ticks.result c.run-run.ensures.alone.ordered test c.requires.some c.min.ensures c.min-ticks.ensures in
    let left_over : c.lower_front.new.self.runs ≡ take c.args.i c.args.stream.now.runs ++ (part (r.first + (c.min-ticks.result - 1) + 1) r.last r.value ++ drop (c.args.i + 1) c.args.stream.now.runs) =
    subst (λ z. c.lower_front.new.self.runs ≡ take c.args.i c.args.stream.now.runs ++ (part (r.first + (c.min-ticks.result - 1) + 1) z.last z.value ++ drop (c.args.i + 1) c.args.stream.now.runs)) (sym read) (c.lower_front.ensures r) in
    let end_in : r.first + (c.min-ticks.result - 1) < r.last = omega (arith, k.inside, c.if-end-last.false) in
    let cut = front_cut c.args.stream.now.runs c.lower_front.new.self.runs c.args.i (r.first + (c.min-ticks.result - 1)) r left_over end_in in
    omega (arith, cut_length c.args.stream.now.runs c.lower_front.new.self.runs c.args.i _ c.requires.within cut, c.requires.within)

pub returns-clause-lowered : goal.returns-clause-lowered
returns-clause-lowered c =
    let r = c.run-run.result.now in
    let read : r ≡ get_or c.args.stream.now.runs c.args.i r = sym (get_or_from_slice_get c.args.stream.now.runs c.args.i r r c.run-run.ensures.run) in
    let test : (is_D r.value && nat_le r.first c.args.upto) ≡ true = sym c.may_lower.ensures ∙ c.if-not-may_lower.false in
    let k = front_is r c.args.left c.args.upto c.min.result c.min-ticks.result c.run-run.ensures.alone.ordered test c.requires.some c.min.ensures c.min-ticks.ensures in
    let left_over : c.lower_front.new.self.runs ≡ take c.args.i c.args.stream.now.runs ++ (part (r.first + (c.min-ticks.result - 1) + 1) r.last r.value ++ drop (c.args.i + 1) c.args.stream.now.runs) =
    subst (λ z. c.lower_front.new.self.runs ≡ take c.args.i c.args.stream.now.runs ++ (part (r.first + (c.min-ticks.result - 1) + 1) z.last z.value ++ drop (c.args.i + 1) c.args.stream.now.runs)) (sym read) (c.lower_front.ensures r) in
    let end_in : r.first + (c.min-ticks.result - 1) < r.last = omega (arith, k.inside, c.if-end-last.false) in
    let cut = front_cut c.args.stream.now.runs c.lower_front.new.self.runs c.args.i (r.first + (c.min-ticks.result - 1)) r left_over end_in in
    let next : r.first + (c.min-ticks.result - 1) + 1 ≡ r.first + c.min-ticks.result = omega (arith, k.some) in
    cut_run c.args.stream.now.runs c.lower_front.new.self.runs c.args.i c.args.left c.args.upto c.min-ticks.result r (record { first = r.first + (c.min-ticks.result - 1) + 1; last = r.last; value = r.value }) c.requires.within read test k.many (omega (arith, end_in, k.some))
    (ap (λ n. record { first = n; last = r.last; value = r.value }) next) cut

pub returns-then-end-last-clause-counted : goal.returns-then-end-last-clause-counted
returns-then-end-last-clause-counted c =
    let r = c.run-run.result.now in
    let read : r ≡ get_or c.args.stream.now.runs c.args.i r = sym (get_or_from_slice_get c.args.stream.now.runs c.args.i r r c.run-run.ensures.run) in
    let test : (is_D r.value && nat_le r.first c.args.upto) ≡ true = sym c.may_lower.ensures ∙ c.if-not-may_lower.false in
    let k = front_is r c.args.left c.args.upto c.min.result c.min-ticks.result c.run-run.ensures.alone.ordered test c.requires.some c.min.ensures c.min-ticks.ensures in
    let left_over : c.lower_front.new.self.runs ≡ take c.args.i c.args.stream.now.runs ++ (part (r.first + (c.min-ticks.result - 1) + 1) r.last r.value ++ drop (c.args.i + 1) c.args.stream.now.runs) =
    subst (λ z. c.lower_front.new.self.runs ≡ take c.args.i c.args.stream.now.runs ++ (part (r.first + (c.min-ticks.result - 1) + 1) z.last z.value ++ drop (c.args.i + 1) c.args.stream.now.runs)) (sym read) (c.lower_front.ensures r) in
    let gone = front_gone c.args.stream.now.runs c.lower_front.new.self.runs c.args.i (r.first + (c.min-ticks.result - 1)) r left_over c.if-end-last.true in
    let fewer = gone_count c.args.stream.now.runs c.lower_front.new.self.runs c.args.i c.min-ticks.result r c.requires.within read (and_parts (is_D r.value) (nat_le r.first c.args.upto) test).0 k.some c.if-end-last.true gone in
    omega (arith, fewer, k.many)

pub returns-clause-counted : goal.returns-clause-counted
returns-clause-counted c =
    let r = c.run-run.result.now in
    let read : r ≡ get_or c.args.stream.now.runs c.args.i r = sym (get_or_from_slice_get c.args.stream.now.runs c.args.i r r c.run-run.ensures.run) in
    let test : (is_D r.value && nat_le r.first c.args.upto) ≡ true = sym c.may_lower.ensures ∙ c.if-not-may_lower.false in
    let k = front_is r c.args.left c.args.upto c.min.result c.min-ticks.result c.run-run.ensures.alone.ordered test c.requires.some c.min.ensures c.min-ticks.ensures in
    let left_over : c.lower_front.new.self.runs ≡ take c.args.i c.args.stream.now.runs ++ (part (r.first + (c.min-ticks.result - 1) + 1) r.last r.value ++ drop (c.args.i + 1) c.args.stream.now.runs) =
    subst (λ z. c.lower_front.new.self.runs ≡ take c.args.i c.args.stream.now.runs ++ (part (r.first + (c.min-ticks.result - 1) + 1) z.last z.value ++ drop (c.args.i + 1) c.args.stream.now.runs)) (sym read) (c.lower_front.ensures r) in
    let end_in : r.first + (c.min-ticks.result - 1) < r.last = omega (arith, k.inside, c.if-end-last.false) in
    let cut = front_cut c.args.stream.now.runs c.lower_front.new.self.runs c.args.i (r.first + (c.min-ticks.result - 1)) r left_over end_in in
    let fewer = cut_count c.args.stream.now.runs c.lower_front.new.self.runs c.args.i c.min-ticks.result r _ c.requires.within read (and_parts (is_D r.value) (nat_le r.first c.args.upto) test).0 k.some end_in refl cut in
    omega (arith, fewer, k.many)
