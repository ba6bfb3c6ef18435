-- Marks of pairs: a pair without them stands in no bucket
use Rattle.std.specs.Prelude.{◌≡◌, ℕ, ◌+◌, ◌-◌, ◌*◌, ◌/◌, ◌%◌, Bool, true, ◌&&◌, nat_eq, if◌then◌else◌, List}
use Rattle.std.specs.Prelude.{length, get_or}
use Rattle.std.specs.List.{AllByRecursion}
use Rattle.std.specs.Int.{bit_at, cast_unsigned, w64}
use Rattle.gr_event.specs.declared.value.Value.{Value}
use Rattle.gr_event.specs.declared.value.Value.TheVariants as value
use Rattle.gr_match.specs.Needed.{Pair}
use Rattle.gr_match.specs.declared.bucket.Bucket.{Bucket}
use Rattle.gr_match.specs.declared.marks.Marks.{Marks}

-- the number of the mark of a name or a text, by its length, the byte in its middle and its last one
abbrev pub mark_of : List ℕ → ℕ
mark_of bs = (length bs + 11 * get_or bs (length bs / 2) 0 + get_or bs (length bs - 1) 0) % 64

-- the number of the mark of a value
abbrev pub value_mark : Value → ℕ
value_mark (value.Int z) = cast_unsigned w64 z % 64
value_mark (value.Text t) = mark_of t
value_mark (value.Bool b) = if b then 1 else 0

-- the marks of a pair are set
abbrev pub is_marked : Marks → Pair → Bool
is_marked m p = nat_eq (bit_at m.names (mark_of p.0)) 1 && nat_eq (bit_at m.values (value_mark p.1)) 1

-- the pairs of all buckets of the rows are marked
abbrev pub AreMarked : Marks → (ℕ → List Bucket) → Type 0
AreMarked m row = (i : ℕ) → AllByRecursion (λ b. is_marked m (b.name, b.value) ≡ true) (row i)
