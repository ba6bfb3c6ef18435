use Rattle.std.proofs.Common.{ap, ◌+◌, ◌≡◌, ◌-◌, length, take, drop, arith, ◌∙◌, length-drop, length-take}
use Rattle.std.proofs.lemmas.List.{places}
use Rattle.std.proofs.Common.{rules}
use borrow.Rule.Slice.PartMut.{put_mid}
use Rattle.gr_sock.specs.Folder.{FileView}
use Rattle.gr_sock.proofs.Pieces.{read_more}
use Rattle.gr_sock.proofs.file_disk.read_whole.Goals as goal

pub pieces-preserved : goal.pieces-preserved
pieces-preserved g c =
    let into = c.pieces.into in
    let done = c.pieces.done in
    let rest : length c.read_some.new.into ≡ length into - done =
    c.in-Ok.ensures.len ∙ omega (arith, length-take (length into - done) (drop done into), length-drop done into) in
    let all : length (put_mid done (length into - done) into c.read_some.new.into) ≡ length into = search (rules, places) in
    record {
      within = omega (arith, all, rest, c.in-Ok.ensures.count);
      len = all ∙ c.pieces.invariant.len;
      bytes = λ t. read_more c.args.at done c.in-Ok.n into c.read_some.new.into _ c.pieces.invariant.within rest c.in-Ok.ensures.count (c.pieces.invariant.bytes t)
          (c.in-Ok.ensures.bytes t ∙ ap (λ (f : FileView). take c.in-Ok.n (drop (c.args.at + done) f.bytes)) (c.pieces.invariant.same t c.args.lane));
      same = λ t n. c.read_some.ensures.same t n ∙ c.pieces.invariant.same t n;
    }
