use Rattle.std.proofs.Common.{◌≡◌, ◌++◌, flat_map}
use Rattle.gr_model.specs.Net.{numbers}
use Rattle.gr_soak.specs.Text.{subscriber_text}
use Rattle.gr_soak.proofs.text.put_topology.Given as goal

-- the subscribers so far stand in the text
abbrev pub invariant-subscribers : goal.invariant-subscribers
invariant-subscribers l = l.text ≡ l.initial.text ++ flat_map subscriber_text (numbers l.i)
