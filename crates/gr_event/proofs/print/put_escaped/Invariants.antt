use Rattle.std.proofs.Common.{◌≡◌, ◌++◌, drop}
use Rattle.json.specs.Print.{escape}
use Rattle.gr_event.specs.Grows.{Grows}
use Rattle.gr_event.proofs.print.put_escaped.Given as goal

-- with what stands for the bytes that are left it is the whole
abbrev pub invariant-bytes : goal.invariant-bytes
invariant-bytes l = record {
  left : l.into ++ escape (drop l.byte-index l.text) ≡ l.fn.into ++ escape l.text;
  grows : Grows l.fn.into l.into;
}
