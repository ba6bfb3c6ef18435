-- Entries that were put behind others, the first of those that are told of
use Rattle.std.proofs.Common.{◌≡◌, List, [], ◌++◌, refl, sym, ap, ◌∙◌, append_assoc, append-nil}
use Rattle.gr_out.specs.Entry.{Entry}
use Rattle.gr_client.specs.Moves.{Begins}

-- nothing was put
pub begins_nothing : (old new sent : List Entry) → new ≡ old → Begins old new sent
begins_nothing old new sent e = record { part = []; rest = sent; whole = refl; are = e ∙ sym (append-nil old) }

-- all was put
pub begins_all : (old new sent : List Entry) → new ≡ old ++ sent → Begins old new sent
begins_all old new sent e = record { part = sent; rest = []; whole = sym (append-nil sent); are = e }

-- more entries follow those that were put
pub begins_later : (old middle new first more : List Entry) → middle ≡ old ++ first → Begins middle new more → Begins old new (first ++ more)
begins_later old middle new first more e b = record {
  part = first ++ b.part;
  rest = b.rest;
  whole = ap (λ xs. first ++ xs) b.whole ∙ sym (append_assoc first b.part b.rest);
  are = b.are ∙ ap (λ xs. xs ++ b.part) e ∙ append_assoc old first b.part;
}

-- all that was put, and then more
pub put_later : (old middle new first more : List Entry) → middle ≡ old ++ first → new ≡ middle ++ more → new ≡ old ++ (first ++ more)
put_later old middle new first more e later = later ∙ ap (λ xs. xs ++ more) e ∙ append_assoc old first more
