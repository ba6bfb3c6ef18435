use Rattle.std.proofs.Common.{◌≡◌, drop, find}
use Rattle.gr_top.specs.Words.{texts_of}
use Rattle.gr_top.specs.Hosting.{is_unknown}
use Rattle.gr_top.proofs.hosting.unknown_in.Given as goal

-- the first unknown word is among those that are left
abbrev pub invariant-words : goal.invariant-words
invariant-words l = find (is_unknown l.topo) (texts_of (drop l.word-index l.words)) ≡ find (is_unknown l.topo) (texts_of l.words)
