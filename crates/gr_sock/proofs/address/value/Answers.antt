use Rattle.std.proofs.Common.{arith, length}
use Rattle.gr_sock.proofs.Digits.{more, room}
use Rattle.gr_sock.proofs.address.value.Goals as goal

pub overflow_mul-value : goal.overflow_mul-value
overflow_mul-value c = let r = room c.loop-digit.digit-index (length c.args.digits.now) c.loop-digit.value c.requires.short (omega arith) c.loop-digit.invariant.small in omega (arith, r)

pub overflow_add-value : goal.overflow_add-value
overflow_add-value c = let r = (more c.args.digits.now c.loop-digit.digit-index c.loop-digit.value c.from.result c.requires.short c.requires.digits (omega arith) c.loop-digit.invariant.value c.loop-digit.invariant.small c.from.ensures).0 in omega (arith, r)

pub loop-digit-preserved : goal.loop-digit-preserved
loop-digit-preserved c = let r = more c.args.digits.now c.loop-digit.digit-index c.loop-digit.value c.from.result c.requires.short c.requires.digits (omega arith) c.loop-digit.invariant.value c.loop-digit.invariant.small c.from.ensures in record { value = r.1; small = r.2 }
