use Rattle.std.proofs.Common.{◌++◌, [], ap, ◌∙◌, codes}
use Rattle.gr_soak.specs.Report.{row_text, summary_text}
use Rattle.gr_soak.proofs.Pieces.{both}
use Rattle.gr_soak.proofs.summary.summary_text.Goals as goal

pub returns : goal.returns
unfolding summary_text
returns c =
    let s = c.args.summary.now in
    let t9 = c.put_row-9.new.text in
    both [] c.put_row.new.text t9 (row_text (codes "soak") c.args.n) (row_text (codes "brokers") 7 ++ (row_text (codes "publishers") 2 ++ (row_text (codes "subscribers") 12 ++ (row_text (codes "logged") s.logged ++ (row_text (codes "frames") s.frames ++ (row_text (codes "got") s.got ++ (row_text (codes "behind") s.behind ++ (row_text (codes "kept") s.kept)))))))) (c.in_ok-put_row.ensures ∙ ap (λ t. t ++ row_text (codes "soak") c.from.result) c.new-text.ensures ∙ ap (row_text (codes "soak")) c.from.ensures)
    (both c.put_row.new.text c.put_row-2.new.text t9 (row_text (codes "brokers") 7) (row_text (codes "publishers") 2 ++ (row_text (codes "subscribers") 12 ++ (row_text (codes "logged") s.logged ++ (row_text (codes "frames") s.frames ++ (row_text (codes "got") s.got ++ (row_text (codes "behind") s.behind ++ (row_text (codes "kept") s.kept))))))) c.in_ok-put_row-2.ensures
    (both c.put_row-2.new.text c.put_row-3.new.text t9 (row_text (codes "publishers") 2) (row_text (codes "subscribers") 12 ++ (row_text (codes "logged") s.logged ++ (row_text (codes "frames") s.frames ++ (row_text (codes "got") s.got ++ (row_text (codes "behind") s.behind ++ (row_text (codes "kept") s.kept)))))) c.in_ok-put_row-3.ensures
    (both c.put_row-3.new.text c.put_row-4.new.text t9 (row_text (codes "subscribers") 12) (row_text (codes "logged") s.logged ++ (row_text (codes "frames") s.frames ++ (row_text (codes "got") s.got ++ (row_text (codes "behind") s.behind ++ (row_text (codes "kept") s.kept))))) c.in_ok-put_row-4.ensures
    (both c.put_row-4.new.text c.put_row-5.new.text t9 (row_text (codes "logged") s.logged) (row_text (codes "frames") s.frames ++ (row_text (codes "got") s.got ++ (row_text (codes "behind") s.behind ++ (row_text (codes "kept") s.kept)))) c.in_ok-put_row-5.ensures
    (both c.put_row-5.new.text c.put_row-6.new.text t9 (row_text (codes "frames") s.frames) (row_text (codes "got") s.got ++ (row_text (codes "behind") s.behind ++ (row_text (codes "kept") s.kept))) c.in_ok-put_row-6.ensures
    (both c.put_row-6.new.text c.put_row-7.new.text t9 (row_text (codes "got") s.got) (row_text (codes "behind") s.behind ++ (row_text (codes "kept") s.kept)) c.in_ok-put_row-7.ensures
    (both c.put_row-7.new.text c.put_row-8.new.text t9 (row_text (codes "behind") s.behind) (row_text (codes "kept") s.kept) c.in_ok-put_row-8.ensures c.in_ok-put_row-9.ensures)))))))
