use Rattle.gr_sock.proofs.Pieces.{no_front, on_err}
use Rattle.gr_sock.proofs.file_disk.FileDiskDisk.write_at.Goals as goal

pub returns-in_err-open-clause-err : goal.returns-in_err-open-clause-err
returns-in_err-open-clause-err g c = λ t h. on_err c.from_residual.result _ (no_front c.args.at c.args.bytes.now _ _ (c.in_err-open.ensures.remains t c.args.lane).bytes)
