use Rattle.std.proofs.Common.{◌≤◌, length, drop, arith, ◌∙◌, length-drop}
use Rattle.std.proofs.lemmas.List.{take_rest}
use Rattle.gr_sock.proofs.Pieces.{write_more}
use Rattle.gr_sock.proofs.file_disk.write_whole.Goals as goal

pub pieces-preserved : goal.pieces-preserved
pieces-preserved g c =
    let bytes = c.args.bytes.now in
    let few : c.in-Ok.n ≤ length (drop c.pieces.done bytes) = rw (take_rest bytes c.pieces.done) at c.in-Ok.ensures.count in
    let more = λ (t : g.D.Folder.tells). write_more c.args.at c.pieces.done c.in-Ok.n bytes (g.D.Folder.file_of c.args.folder.now c.args.lane)
    (g.D.Folder.file_of c.pieces.folder c.args.lane) (g.D.Folder.file_of c.write_some.new.self c.args.lane) in
    record {
      within = omega (arith, few, length-drop c.pieces.done bytes);
      written = λ t h. (more t h c.pieces.invariant.within c.in-Ok.ensures.count (c.pieces.invariant.written t h) (c.in-Ok.ensures.ok t));
      named = λ t. c.in-Ok.ensures.named t ∙ c.pieces.invariant.named t;
      others = λ t n d. c.in-Ok.ensures.others t n d ∙ c.pieces.invariant.others t n d;
    }
