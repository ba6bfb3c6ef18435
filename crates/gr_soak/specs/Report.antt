-- What a soak prints
use Rattle.std.specs.Prelude.{ℕ, List, ◌++◌, codes}
use Rattle.std.specs.Fmt.{decimal}
use Rattle.gr_model.specs.NetOf.{net_of}
use Rattle.gr_model.specs.World.{report_of}
use Rattle.gr_soak.specs.declared.summary.Summary.{Summary}
use Rattle.gr_soak.specs.Summary.{summary_of}
use Rattle.gr_soak.specs.Steps.{soak_topology, soak_steps}

-- a word and a number, as a line
unfoldable pub row_text : List ℕ → ℕ → List ℕ
row_text word number = word ++ (codes " " ++ (decimal number ++ codes "\n"))

-- the lines of a summary, in a soak of n turns
unfoldable pub summary_text : ℕ → Summary → List ℕ
summary_text n s =
    row_text (codes "soak") n
    ++ (row_text (codes "brokers") 7
    ++ (row_text (codes "publishers") 2
    ++ (row_text (codes "subscribers") 12
    ++ (row_text (codes "logged") s.logged
    ++ (row_text (codes "frames") s.frames
    ++ (row_text (codes "got") s.got
    ++ (row_text (codes "behind") s.behind
    ++ row_text (codes "kept") s.kept)))))))

-- the summary of the report of the soak's scenario
unfoldable pub soak_report : ℕ → List ℕ
soak_report n = summary_text n (summary_of (report_of (net_of soak_topology) (soak_steps n)))
