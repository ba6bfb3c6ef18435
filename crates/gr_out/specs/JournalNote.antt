-- What one call of a post adds to its journal
use Rattle.std.specs.Prelude.{List, ◌++◌}
use Rattle.gr_out.specs.declared.journal.Note.{Note}
use Rattle.gr_out.specs.declared.journal.Note.TheVariants as note
use Rattle.gr_out.specs.Entry.{Entry}
use Rattle.gr_out.specs.Journal.{bind_entries, next_entries, offer_entries}

abbrev pub with_note : List Entry → Note → List Entry
with_note journal (note.Bound broker address here answer) = journal ++ bind_entries broker address.now here answer
with_note journal (note.Came piece answer) = journal ++ next_entries piece.now answer
with_note journal (note.Offered from to bytes answer) = journal ++ offer_entries from to bytes.now answer
