-- What was written decodes to the event
use Rattle.std.proofs.Common.{ap, ◌∙◌, sym}
use Rattle.gr_event.specs.Decode.{event_decoded}
use Rattle.gr_event.proofs.Spelled.{decodes_back}
use Rattle.gr_event.proofs.Walking.{length_of_event}
use Rattle.gr_event.proofs.event.Event.encode_into.Goals as goal

pub copy_from_slice-requires : goal.copy_from_slice-requires
copy_from_slice-requires c = c.requires ∙ sym (length_of_event c.bytes.result.now c.args.self.now c.bytes.ensures.bytes)

pub returns-clause-decodes_back : goal.returns-clause-decodes_back
returns-clause-decodes_back c =
    ap event_decoded (c.copy_from_slice.ensures.after ∙ c.bytes.ensures.bytes) ∙ decodes_back c.args.self.now c.bytes.ensures.event
