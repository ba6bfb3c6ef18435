use Rattle.std.proofs.Common.{◌≡◌, ◌+◌, ◌*◌, ◌++◌, flat_map}
use Rattle.gr_model.specs.Net.{numbers}
use Rattle.gr_soak.specs.Text.{after, drawn, deliver_text}
use Rattle.gr_soak.proofs.text.put_delivers.Given as goal

-- the deliveries so far stand in the text, each drawn after those before it
abbrev pub invariant-delivers : goal.invariant-delivers
invariant-delivers l = record {
  text : l.text ≡ l.initial.text ++ flat_map (λ d. deliver_text (1 + drawn l.initial.x (d + 1) (6 * l.i))) (numbers l.counter);
  state : l.x ≡ after l.initial.x l.counter;
}
