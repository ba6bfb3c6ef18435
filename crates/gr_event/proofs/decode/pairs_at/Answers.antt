-- What was read so far, before what is left, is what all gives; a pair of whole fields goes behind it
use Rattle.std.proofs.Common.{◌≡◌, ◌-◌, ◌+◌, ◌++◌, ◌∷◌, [], arith, refl, ap, ◌∙◌}
use Rattle.std.specs.List.Sorted.{IsStrictlySortedBy}
use Rattle.std.proofs.lemmas.List.{length_push}
use Rattle.std.proofs.lemmas.Result.{err_from_is_err_and}
use Rattle.gr_event.specs.Decode.{pairs_at}
use Rattle.gr_event.specs.Get.{part_value}
use Rattle.gr_event.proofs.Reading.{no_front, each_one_more}
use Rattle.gr_event.proofs.Decoding.{pair_read, name_refused, value_refused, ends, trails, names_more, names_rise, size_more}
use Rattle.gr_event.proofs.decode.pairs_at.Goals as goal

pub loop-init : goal.loop-init
unfolding IsStrictlySortedBy
loop-init c =
    let all : c.args.count - 0 ≡ c.args.count = omega arith in (
      [],
      record {
        place = refl;
        inside = c.requires.some;
        read = no_front _ ∙ ap (λ n. pairs_at c.args.bytes.now n 1 []) all;
        each = tt;
        many = refl;
        rise = tt;
        above = λ n h. (tt, tt);
      },
    )

pub returns-in_err-name : goal.returns-in_err-name
returns-in_err-name c =
    let p = err_from_is_err_and c.from_residual.result c.from_residual.ensures.1 in
    rw (p.1, p.2) (name_refused c.loop.invariant.0 c.args.bytes.now c.loop.before.now (c.args.count - c.loop.counter) (c.args.count - (c.loop.counter + 1)) c.loop.at c.in_err-name.field-0.0 _ (omega arith) c.in_err-name.ensures.gives c.loop.invariant.1.read)

pub returns-in_err-part : goal.returns-in_err-part
returns-in_err-part c =
    let p = err_from_is_err_and c.from_residual-in_err-part.result c.from_residual-in_err-part.ensures.1 in
    rw (p.1, p.2) (value_refused c.loop.invariant.0 c.args.bytes.now c.loop.before.now c.in_ok-name.name.now (c.args.count - c.loop.counter) (c.args.count - (c.loop.counter + 1)) c.loop.at c.in_err-part.field-0.0 _ (omega arith) c.in_ok-name.ensures.gives c.in_err-part.ensures.gives c.loop.invariant.1.read)

pub loop-preserved : goal.loop-preserved
loop-preserved c =
    let name = c.in_ok-name.name.now in
    let value = part_value c.in_ok-part.part in
    let found = c.loop.invariant.0 in
    let so_far = c.loop.invariant.1 in
    let more = found ++ (name, value) ∷ [] in (
      more,
      record {
        place = omega (arith, so_far.place, size_more found more (name, value) refl, c.size_of_part.ensures.size);
        inside = omega (arith, c.in_ok-part.ensures.within, c.size_of_part.ensures.size);
        read = pair_read found more c.args.bytes.now c.loop.before.now name value (c.args.count - c.loop.counter) (c.args.count - (c.loop.counter + 1)) c.loop.at _ _ refl (omega arith) (omega (arith, c.size_of_part.ensures.size)) c.in_ok-name.ensures.gives c.in_ok-part.ensures.gives so_far.read;
        each = each_one_more found (name, value) so_far.each (c.in_ok-name.ensures.name, c.in_ok-part.ensures.value);
        many = length_push found (name, value) ∙ ap (λ k. k + 1) so_far.many;
        rise = names_rise found more (name, value) refl (so_far.above name c.in_ok-name.ensures.above);
        above = λ n h. names_more found more (name, value) n refl (so_far.above name c.in_ok-name.ensures.above) h;
      },
    )

pub returns-then-at-bytes : goal.returns-then-at-bytes
returns-then-at-bytes c = trails c.loop.invariant.0 c.args.bytes.now c.loop.before.now (c.args.count - c.loop.counter) c.loop.at _ (omega arith) c.if-at-bytes.true c.loop.invariant.1.read

pub returns : goal.returns
returns c =
    let so_far = c.loop.invariant.1 in (
      c.loop.invariant.0,
      ends c.loop.invariant.0 c.args.bytes.now c.loop.before.now (c.args.count - c.loop.counter) c.loop.at _ (omega arith) (omega (arith, so_far.inside)) so_far.read,
      record {
        pairs = record { rise = so_far.rise; few = omega (arith, so_far.many, c.requires.few); each = so_far.each };
        short = omega (arith, so_far.place, so_far.inside, c.requires.short);
      },
    )
