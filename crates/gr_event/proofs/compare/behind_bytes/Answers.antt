use Rattle.std.proofs.lemmas.Slice.Eq.{strip_prefix_is}
use Rattle.std.proofs.lemmas.Bool.Decides.{Decides-eqb}
use Rattle.gr_event.proofs.Found.{found_front}
use Rattle.gr_event.proofs.compare.behind_bytes.Goals as goal

pub returns : goal.returns
returns c =
    let text = c.args.text.now in
    let bytes = c.args.bytes.now in
    found_front text bytes c.strip_prefix.result (strip_prefix_is Decides-eqb text bytes c.strip_prefix.result c.strip_prefix.ensures.cases)
