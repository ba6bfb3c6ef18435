-- Each word, from the length and the bytes that were tested
use Rattle.std.proofs.Common.{refl, arith}
use Rattle.std.specs.Prelude.{codes}
use Rattle.gr_sched.proofs.Spelled.{spelled}
use Rattle.gr_sched.proofs.verb.verb_of.Goals as goal

pub returns-in-clock : goal.returns-in-clock
returns-in-clock c = rw (spelled c.args.word.now (codes "clock") (omega arith) (omega arith, (omega arith, (omega arith, (omega arith, (omega arith, tt)))))) refl

pub returns-in-publish : goal.returns-in-publish
returns-in-publish c = rw (spelled c.args.word.now (codes "publish") (omega arith) (omega arith, (omega arith, (omega arith, (omega arith, (omega arith, (omega arith, (omega arith, tt)))))))) refl

pub returns-in-wake : goal.returns-in-wake
returns-in-wake c = rw (spelled c.args.word.now (codes "wake") (omega arith) (omega arith, (omega arith, (omega arith, (omega arith, tt))))) refl

pub returns-in-deliver : goal.returns-in-deliver
returns-in-deliver c = rw (spelled c.args.word.now (codes "deliver") (omega arith) (omega arith, (omega arith, (omega arith, (omega arith, (omega arith, (omega arith, (omega arith, tt)))))))) refl

pub returns-in-crash : goal.returns-in-crash
returns-in-crash c = rw (spelled c.args.word.now (codes "crash") (omega arith) (omega arith, (omega arith, (omega arith, (omega arith, (omega arith, tt)))))) refl

pub returns-in-sweep : goal.returns-in-sweep
returns-in-sweep c = rw (spelled c.args.word.now (codes "sweep") (omega arith) (omega arith, (omega arith, (omega arith, (omega arith, (omega arith, tt)))))) refl

pub returns-in-show : goal.returns-in-show
returns-in-show c = rw (spelled c.args.word.now (codes "show") (omega arith) (omega arith, (omega arith, (omega arith, (omega arith, tt))))) refl

pub returns-in-bytes : goal.returns-in-bytes
returns-in-bytes c = rw (spelled c.args.word.now (codes "bytes") (omega arith) (omega arith, (omega arith, (omega arith, (omega arith, (omega arith, tt)))))) refl

pub returns-in-join : goal.returns-in-join
returns-in-join c = rw (spelled c.args.word.now (codes "join") (omega arith) (omega arith, (omega arith, (omega arith, (omega arith, tt))))) refl
