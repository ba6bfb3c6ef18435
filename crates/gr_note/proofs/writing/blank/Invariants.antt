use Rattle.std.proofs.Common.{◌≡◌, vec_len, vec_capacity}
use Rattle.gr_note.proofs.writing.blank.Given as goal

-- so many bytes are there, and room for all
abbrev pub invariant-loop : goal.invariant-loop
invariant-loop l = record {
  so_far : vec_len l.bytes ≡ l.counter;
  exact : vec_capacity l.bytes ≡ l.size;
}
