-- Each line that the opening of a world tells is named, and lanes that read nothing hold an empty log
use Rattle.std.proofs.Common.{◌≡◌, ◌<◌, arith, ℕ, List, [], sym, ap₂, subst, ◌∙◌, length, Result, Ok, Err}
use Rattle.std.specs.Prelude.{flat_map}
use Rattle.gr_out.specs.Lane.{Lane}
use Rattle.gr_publog.specs.Lanes.{Found, found_none, lanes_text}
use Rattle.gr_topo.specs.Topology.{TopologyView}
use Rattle.gr_model.specs.declared.report.Report.{Report}
use Rattle.gr_model.specs.Net.{numbers}
use Rattle.gr_model.specs.NetOf.{net_of, IsOrderly}
use Rattle.gr_model.specs.Text.{IsNamed}
use Rattle.gr_model_calls.proofs.runs.Worlds.{Each, numbers_below}
use Rattle.gr_broker.specs.Seen.{machine_log}
use Rattle.gr_broker.specs.Opened.{opened_at, IsDamagedAt}
use Rattle.gr_report.specs.Named.{AllNamed}
use Rattle.gr_report.proofs.Named.{names_of, all_of}
use Rattle.gr_report.proofs.OpenedNamed.{start_named, each_flat}
use Rattle.gr_report.proofs.Readable.{nothing_found}
use Rattle.gr_world.specs.Seen.{WorldView, broker_in}
use Rattle.gr_world.specs.Opened.{IsOpened, AreEmpty}

-- each line that the opening told is named
pub opened_named : (t : TopologyView) (w : WorldView) → IsOrderly (net_of t) → IsOpened t w → AllNamed t w.told
opened_named t w o h = all_of (IsNamed t) w.told (subst (Each (IsNamed t)) (sym h.told)
    (each_flat (IsNamed t) (λ b. b < brokers) here (λ b i. at_broker b) (numbers brokers) (numbers_below 0 brokers brokers (omega arith))))
  where
    brokers : ℕ
    brokers = length t.brokers

    publishers : ℕ
    publishers = length t.publishers

    told : ℕ → ℕ → List Report
    told b p = (opened_at (net_of t) p b (machine_log (broker_in w b) p)).lines

    here : ℕ → List Report
    here b = flat_map (told b) (numbers publishers)

    at_broker : (b : ℕ) → Each (IsNamed t) (here b)
    at_broker b = each_flat (IsNamed t) (λ p. p < publishers) (told b) (λ p j. start_named (net_of t) (IsNamed t) p b (machine_log (broker_in w b) p) (names_of t) o j) (numbers publishers) (numbers_below 0 publishers publishers (omega arith))

-- of the world's own topology too
pub named_here : (t : TopologyView) (w : WorldView) → IsOrderly (net_of t) → IsOpened t w → AllNamed w.topo w.told
named_here t w o h = subst (λ x. AllNamed x w.told) (sym h.topo) (opened_named t w o h)

-- lanes that read nothing are not damaged
pub empty_is_whole : (t : TopologyView) (lanes : ℕ → Lane) (b p at : ℕ) → AreEmpty t lanes → IsDamagedAt t b p at lanes → ⊥
empty_is_whole t lanes b p at e d =
    let nothing = e p d.publisher in
    let read : lanes_text t.late [] [] ≡ Err at = ap₂ (lanes_text t.late) (sym nothing.0) (sym nothing.1) ∙ d.fault in
    let differ : ◌≡◌ {A = Result Found ℕ} (Ok (found_none t.late)) (Err at) = sym (nothing_found t.late) ∙ read in
    cc
