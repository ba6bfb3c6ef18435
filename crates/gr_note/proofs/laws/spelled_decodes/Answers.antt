use Rattle.std.proofs.Common.{refl}
use Rattle.gr_note.specs.Bytes.{note_bytes}
use Rattle.gr_note.proofs.Spelled.{decodes}
use Rattle.gr_note.proofs.laws.spelled_decodes.Goals as goal

pub returns : goal.returns
returns c = λ n is. decodes n (note_bytes n) is refl
