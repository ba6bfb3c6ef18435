use Rattle.std.proofs.Common.{◌≡◌, drop}
use Rattle.std.specs.List.{list_any}
use Rattle.gr_top.specs.Words.{texts_of}
use Rattle.gr_top.specs.Hosting.{names_broker, is_named}
use Rattle.gr_top.proofs.hosting.is_named.Given as goal

-- what is left decides
abbrev pub invariant-words : goal.invariant-words
invariant-words l = list_any (names_broker l.topo l.b) (texts_of (drop l.word-index l.words)) ≡ is_named l.topo (texts_of l.words) l.b
