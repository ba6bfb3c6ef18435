-- What was read so far, before what is left, is what all gives; a join that was read goes behind it
use Rattle.std.proofs.Common.{◌≡◌, ◌<◌, ◌-◌, ◌+◌, length, Ok, arith, ap, ap₂, sym, subst, ◌∙◌}
use Rattle.std.proofs.lemmas.Result.{err_from_is_err_and}
use Rattle.std.proofs.lemmas.List.{length_push}
use Rattle.gr_event.specs.Joins.{Joins, AreJoins}
use Rattle.gr_frame.specs.Gives.{Fails}
use Rattle.gr_frame.specs.Decode.{join_at, joins_at}
use Rattle.gr_frame.proofs.Lists.{none_are, join_told, more_are, join_refused, join_read, joins_end}
use Rattle.gr_frame.proofs.list.joins_at.Goals as goal

pub loop-init : goal.loop-init
loop-init c = record {
  place = omega arith;
  inside = c.requires.inside;
  many = ap length c.new-found.ensures.items;
  are = subst AreJoins (sym c.new-found.ensures.items) none_are;
  read = let all : c.args.count - 0 ≡ c.args.count = omega arith in ap₂ (λ n l. joins_at c.args.bytes.now n 14 l) all c.new-found.ensures.items;
}

pub returns-in_err-join-clause-gives : goal.returns-in_err-join-clause-gives
returns-in_err-join-clause-gives c =
    let p = err_from_is_err_and c.from_residual.result c.from_residual.ensures.1 in
    let there = subst (λ (l : Joins). Fails c.in_err-join.field-0.0 (join_at c.args.bytes.now c.loop.at l)) c.as_slice.ensures c.in_err-join.ensures.gives in
    rw (p.1, p.2) (join_refused c.args.bytes.now (c.args.count - c.loop.counter) (c.args.count - (c.loop.counter + 1)) c.loop.at c.loop.found.items c.in_err-join.field-0.0 _ (omega arith) there c.loop.invariant.read)

pub loop-preserved : goal.loop-preserved
loop-preserved c =
    let bytes = c.args.bytes.now in
    let found = c.loop.found.items in
    let j = c.in_ok-join.join in
    let read : join_at bytes c.loop.at found ≡ Ok j = ap (join_at bytes c.loop.at) (sym c.as_slice.ensures) ∙ c.in_ok-join.ensures.gives in
    let told = join_told bytes c.loop.at found j (λ i. (c.type_inv.bytes i).fits) read in
    let room : length found < 64 = omega (arith, c.loop.invariant.many, c.requires.few) in
    let pushed = c.in_ok-push.ensures.ok in
    record {
      place = omega (arith, c.loop.invariant.place);
      inside = c.in_ok-join.ensures.within;
      many = ap length pushed ∙ omega (arith, length_push found j, c.loop.invariant.many);
      are = subst AreJoins (sym pushed) (more_are bytes c.loop.at found j told c.loop.invariant.are room);
      read = ap (joins_at bytes (c.args.count - (c.loop.counter + 1)) (c.loop.at + 10)) pushed
          ∙ join_read bytes (c.args.count - c.loop.counter) (c.args.count - (c.loop.counter + 1)) c.loop.at found j _ (omega arith) read c.loop.invariant.read;
    }

pub of-requires : goal.of-requires
of-requires c = subst AreJoins (sym c.as_slice-2.ensures) c.loop.invariant.are

pub returns-clause-gives : goal.returns-clause-gives
returns-clause-gives c =
    joins_end c.args.bytes.now (c.args.count - c.loop.counter) c.loop.at c.loop.found.items _ (omega arith) c.loop.invariant.read
    ∙ ap (λ js. Ok js) (sym (c.in_ok-joins.ensures ∙ c.as_slice-2.ensures))

pub returns-clause-within : goal.returns-clause-within
returns-clause-within c =
    omega (arith, ap length (c.in_ok-joins.ensures ∙ c.as_slice-2.ensures), c.loop.invariant.many, c.loop.invariant.place, c.loop.invariant.inside)
