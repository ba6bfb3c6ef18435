use Rattle.std.proofs.Common.{◌≡◌, ◌&&◌, drop}
use Rattle.std.specs.List.{list_all}
use Rattle.json.specs.Run.{is_plain}
use Rattle.gr_event.proofs.print.are_all_plain.Given as goal

-- with the bytes that are left it is the whole
abbrev pub invariant-bytes : goal.invariant-bytes
invariant-bytes l = (l.plain && list_all is_plain (drop l.byte-index l.text)) ≡ list_all is_plain l.fn.text
