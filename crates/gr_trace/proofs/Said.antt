-- Lines of a report that stand one after another are cut at their ends: each stands behind its words then
use Rattle.std.proofs.Common.{◌≡◌, ℕ, Bool, true, false, nat_eq, List, [], ◌∷◌, ◌++◌, codes, refl, sym, ap, ◌∙◌, append_assoc}
use Rattle.gr_topo.specs.Topology.{TopologyView, IsTopology}
use Rattle.gr_model.specs.declared.report.Report.{Report}
use Rattle.gr_model.specs.Text.{labels_of, line_text, whole_line}
use Rattle.gr_journal.specs.Groups.{say_text, said_text}
use Rattle.gr_node.specs.Seen.{text_of}
use Rattle.gr_trace.specs.Traced.{said_lines}
use Rattle.gr_trace.proofs.OneLine.{IsLine, names_are_lines, report_line}

-- within a line nothing is put
within : (line rest : List ℕ) → IsLine line → said_text false (line ++ 10 ∷ rest) ≡ line ++ 10 ∷ said_text true rest
within [] rest h = refl
within (b ∷ line) rest h =
    ap (λ (c : Bool). b ∷ said_text c (line ++ 10 ∷ rest)) h.0 ∙ ap (λ xs. b ∷ xs) (within line rest h.1)

-- a line, and what follows it
one_said : (line rest : List ℕ) → IsLine line → said_text true ((line ++ 10 ∷ []) ++ rest) ≡ say_text (line ++ 10 ∷ []) ++ said_text true rest
one_said [] rest h = refl
one_said (b ∷ line) rest h =
    ap (λ xs. codes "say " ++ b ∷ said_text (nat_eq b 10) xs) (append_assoc line (10 ∷ []) rest)
    ∙ (ap (λ (c : Bool). codes "say " ++ b ∷ said_text c (line ++ 10 ∷ rest)) h.0
    ∙ ap (λ xs. codes "say " ++ b ∷ xs) (within line rest h.1 ∙ sym (append_assoc line (10 ∷ []) (said_text true rest))))

-- all lines
pub report_said : (t : TopologyView) (lines : List Report) → IsTopology t → said_text true (text_of t lines) ≡ said_lines t lines
report_said t [] h = refl
report_said t (l ∷ lines) h =
    one_said (line_text (labels_of t) l) (text_of t lines) (report_line (labels_of t) (names_are_lines t h) l)
    ∙ ap (λ xs. say_text (whole_line (labels_of t) l) ++ xs) (report_said t lines h)
