use Rattle.std.proofs.Common.{length, [], ◌≡◌}
use Rattle.gr_journal.specs.Words.{words_of}
use Rattle.gr_journal.specs.Lines.{brokers_named}
use Rattle.gr_journal.proofs.form.brokers_named.Given as goal

abbrev pub invariant-words : goal.invariant-words
invariant-words l = brokers_named l.fn.topo l.brokers (words_of l.rest) ≡ brokers_named l.fn.topo [] (words_of l.fn.text)

abbrev pub decreases-words : goal.decreases-words
decreases-words l = length l.rest
