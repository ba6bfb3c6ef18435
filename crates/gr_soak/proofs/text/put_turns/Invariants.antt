use Rattle.std.proofs.Common.{◌≡◌, ◌+◌, ◌*◌, ◌++◌, flat_map}
use Rattle.gr_model.specs.Net.{numbers}
use Rattle.gr_soak.specs.Text.{after, turn_text}
use Rattle.gr_soak.proofs.text.put_turns.Given as goal

-- the turns so far stand in the text, and each has made its draws
abbrev pub invariant-turns : goal.invariant-turns
invariant-turns l = record {
  text : l.text ≡ l.initial.text ++ flat_map (λ k. turn_text l.n (k + 1) (after l.n (11 * k))) (numbers l.k);
  state : l.x ≡ after l.n (11 * l.k);
}
