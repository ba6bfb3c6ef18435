use Rattle.std.proofs.Common.{arith, length, ◌≡◌, ◌+◌, ◌-◌, ◌*◌, ◌<◌, ◌∙◌, get_or}
use Rattle.std.proofs.lemmas.List.{take_rest}
use Rattle.gr_sched.proofs.Digits.{room}
use Rattle.gr_sched.proofs.PlainLines.{number_found, digit_from, digits_grow, value_grows, power_grows}
use Rattle.gr_sched.proofs.plain.number_before.Goals as goal

pub overflow_mul-number : goal.overflow_mul-number
overflow_mul-number c = let r = room c.digits.end 19 c.digits.number (omega arith) (omega arith) c.digits.invariant.small in omega (arith, r)

pub overflow_add-number : goal.overflow_add-number
overflow_add-number c = let r = room c.digits.end 19 c.digits.number (omega arith) (omega arith) c.digits.invariant.small in grind (arith, r)

pub returns-then-end-gt0 : goal.returns-then-end-gt0
returns-then-end-gt0 c =
    number_found c.args.stop c.args.text.now c.digits.end c.digits.number _ (omega arith) (omega arith) (omega arith) (omega arith) (take_rest c.args.text.now (c.digits.end + 1))
    c.digits.invariant.digits c.digits.invariant.value c.digits.invariant.small

pub digits-preserved : goal.digits-preserved
digits-preserved c =
    let within : c.digits.end < length c.args.text.now = omega arith in
    let digit = digit_from (get_or c.args.text.now c.digits.end 0) c.if-not-is_ascii_digit.ensures.cases in
    let sum : c.digits.number * 10 + (get_or c.args.text.now c.digits.end 0 - 48) ≡ c.digits.number * 10 + c.from.result = omega arith in
    record {
      few = omega arith;
      digits = digits_grow c.args.text.now c.digits.end within c.digits.invariant.digits digit;
      value = value_grows c.args.text.now c.digits.end c.digits.number within c.digits.invariant.value ∙ sum;
      small = power_grows c.digits.end c.digits.number c.from.result c.digits.invariant.small (omega (arith, c.if-not-is_ascii_digit.ensures.cases));
    }
