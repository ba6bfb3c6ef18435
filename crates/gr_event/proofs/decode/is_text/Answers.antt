-- Bytes of ASCII are UTF-8, and reading bytes as text succeeds exactly at UTF-8
use Rattle.std.proofs.Common.{◌∙◌, sym}
use Rattle.std.proofs.lemmas.Str.{is_utf8-from_IsUtf8, IsUtf8-from_ascii}
use Rattle.gr_event.proofs.Decoding.{text_test}
use Rattle.gr_event.proofs.decode.is_text.Goals as goal

pub returns-then-is_ascii : goal.returns-then-is_ascii
returns-then-is_ascii c = sym (is_utf8-from_IsUtf8 c.args.bytes.now (IsUtf8-from_ascii c.args.bytes.now c.if-is_ascii.ensures.cases))

pub returns : goal.returns
returns c = c.is_ok.ensures.value ∙ text_test _ _ c.args.bytes.now c.from_utf8.result c.from_utf8.ensures.cases
