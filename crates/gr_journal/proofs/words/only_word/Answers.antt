use Rattle.gr_journal.proofs.Wording.{more_than_one}
use Rattle.gr_journal.proofs.words.only_word.Goals as goal

pub returns-in-Some-behind : goal.returns-in-Some-behind
returns-in-Some-behind c =
    more_than_one (λ t. t.now) c.args.text c.in-Some.text c.cut.result.0.now c.cut.result.1 c.in-Some-behind.field-0 c.in-Some.is c.cut.ensures.words c.in-Some-behind.is
