-- The text of a soak reads as its scenario
use Rattle.std.proofs.Common.{◌≡◌, ℕ, ◌+◌, ◌≤◌, nat_lt, if◌then◌else◌, List, [], ◌∷◌, ◌++◌, length, refl, ap, ap₂, ◌∙◌, leb-true, le-ltb, arith}
use Rattle.std.specs.Prelude.{codes}
use Rattle.std.specs.Fmt.{digits}
use Rattle.std.proofs.lemmas.Bool.{cond-false}
use Rattle.std.proofs.lemmas.List.{length-append}
use Rattle.gr_model.specs.NetOf.{net_of}
use Rattle.gr_model.specs.World.{report_of}
use Rattle.gr_sched.specs.declared.step.TheConstants.{MAX_INPUT_BYTES, MAX_STEPS}
use Rattle.gr_sched.specs.declared.step.Step.TheVariants.{Sweep, Show}
use Rattle.gr_sched.specs.Text.{pieces_of, before_separator, after_separator, counted_lines}
use Rattle.gr_sched.specs.Grammar.{lines_of}
use Rattle.gr_sched.proofs.InRange.{within_limit}
use Rattle.gr_sched.proofs.Pieces.{joined_pieces}
use Rattle.gr_topo.specs.Read.{topology_text as topology_read}
use Rattle.gr_topo.specs.Topology.{naming_of}
use Rattle.gr_scenario.specs.declared.asked.Asked.{Asked}
use Rattle.gr_scenario.specs.declared.asked.Asked.TheVariants.{TooManyBytes, TooManySteps, Scenario}
use Rattle.gr_scenario.specs.Scenario.{asked_of_steps, asked_of_parts, asked_by}
use Rattle.gr_soak.specs.Report.{summary_text}
use Rattle.gr_soak.specs.Summary.{summary_of}
use Rattle.gr_soak.specs.Text.{topology_text, subscriber_text, word, name_text, leaf_text, sym_text, price_text, turns_text, soak_text}
use Rattle.gr_soak.specs.Steps.{soak_topology, turns_steps, soak_steps}
use Rattle.gr_soak.proofs.LinesRead.{whole_reads, whole_counted}
use Rattle.gr_soak.proofs.TopologyRead.{topology_is, front_is, back_is}
use Rattle.gr_soak.proofs.TurnsRead.{turns_read}

-- the topology's text is short
topology_short : length topology_text ≤ 2000
unfolding digits subscriber_text word name_text leaf_text sym_text price_text
topology_short = leb-true (length topology_text) 2000 refl

-- it is not too long, has not too many steps, and both of its parts are read
pub soak_is : (n : ℕ) → n ≤ 2000 → asked_by (soak_text n) ≡ Scenario soak_topology (soak_steps n)
unfolding soak_text soak_steps
soak_is n few =
    let names = naming_of soak_topology in
    let steps = turns_text n ++ codes "sweep\nshow\n" in
    let all = turns_steps n ++ Sweep ∷ Show ∷ [] in
    let text = topology_text ++ (codes "---\n" ++ steps) in
    let read = turns_read n few in
    let front = front_is steps in
    let back : after_separator (pieces_of text) ≡ steps = back_is steps ∙ joined_pieces steps in
    let parts = asked_of_parts (topology_read (before_separator (pieces_of text))) (after_separator (pieces_of text)) in
    let long : length text ≡ length topology_text + length (codes "---\n" ++ steps) = length-append topology_text (codes "---\n" ++ steps) in
    let size = read.short in
    let counted : length (counted_lines steps) ≤ MAX_STEPS = let most = whole_counted names steps all 32002 840011 read in omega (arith, most) in
    cond-false (nat_lt MAX_INPUT_BYTES (length text)) TooManyBytes (if nat_lt MAX_STEPS (length (counted_lines (after_separator (pieces_of text)))) then TooManySteps else parts)
    (le-ltb MAX_INPUT_BYTES (length text) (let short = topology_short in omega (arith, long, size, short)))
    ∙ cond-false (nat_lt MAX_STEPS (length (counted_lines (after_separator (pieces_of text))))) TooManySteps parts
    (ap (λ t. nat_lt MAX_STEPS (length (counted_lines t))) back ∙ le-ltb MAX_STEPS (length (counted_lines steps)) counted)
    ∙ ap₂ (λ t b. asked_of_parts (topology_read t) b) front back
    ∙ ap (λ r. asked_of_parts r steps) topology_is
    ∙ ap (asked_of_steps soak_topology) (within_limit (counted_lines steps) MAX_STEPS (lines_of names (counted_lines steps)) counted ∙ whole_reads names steps all 32002 840011 read)

-- the summary over what is asked
abbrev pub summary_over : ℕ → Asked → List ℕ
summary_over n (Scenario t lines) = summary_text n (summary_of (report_of (net_of t) lines))
summary_over n _ = []
