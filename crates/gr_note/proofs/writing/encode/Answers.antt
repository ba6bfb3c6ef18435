use Rattle.std.proofs.Common.{◌∙◌}
use Rattle.gr_note.proofs.Spelled.{decodes}
use Rattle.gr_note.proofs.writing.encode.Goals as goal

pub returns-clause-decodes_back : goal.returns-clause-decodes_back
returns-clause-decodes_back c =
    decodes c.args.note.now c.from_vec.result (record { range = c.requires; parts = c.in_ok-bytes.ensures.parts })
    (c.from_vec.ensures ∙ c.in_ok-bytes.ensures.bytes)
