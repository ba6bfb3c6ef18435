-- What is shown, line by line: a publisher's log by its numbers and how many events it has past its cut, and a broker's horizon as it is kept
use Rattle.std.proofs.Common.{◌≡◌, ℕ, ◌+◌, ◌<◌, List, [], ◌∷◌, ◌++◌, length, map, get_or, flat_map, Option, Some, sym, ap, ◌∙◌, subst, arith}
use Rattle.std.proofs.lemmas.List.{get_or_read, length-map}
use Rattle.gr_publog.specs.State.{IsState}
use Rattle.gr_publog.specs.Views.{LogView}
use Rattle.gr_topo.specs.Topology.{host_of}
use Rattle.gr_model.specs.declared.report.Report.{Report}
use Rattle.gr_model.specs.declared.report.Report.TheVariants as line
use Rattle.gr_model.specs.Net.{numbers}
use Rattle.gr_model.specs.Broker.{Log, empty_log}
use Rattle.gr_model.specs.World.{log_of, kept_events, show}
use Rattle.gr_broker.specs.Seen.{BrokerView, log_in, log_said}
use Rattle.gr_report.proofs.Along.{at_number}
use Rattle.gr_report.proofs.Shown.{line_of_log}
use Rattle.gr_world.specs.Seen.{WorldView, no_broker, broker_in, log_at, net_in, world_of, frame_said}
use Rattle.gr_world.specs.Of.{IsWorld}
use Rattle.gr_world.specs.Shown.{log_shown, horizons_shown}

-- Logs

-- the machine's log of a publisher is the one at its host
pub log_found : (w : WorldView) (p : ℕ) → p < length w.topo.publishers → log_of (world_of w) p ≡ log_said (log_at w p)
log_found w p h =
    let e : 0 + p ≡ p = omega arith in
    at_number (λ q. log_said (log_at w q)) 0 (length w.topo.publishers) p empty_log h ∙ ap (λ q. log_said (log_at w q)) e

-- its line says its numbers, and how many events it has past its cut
pub log_line : (w : WorldView) (p last settled cut kept : ℕ) (l : LogView) → p < length w.topo.publishers → log_at w p ≡ Some l → IsState l.state → last ≡ l.state.last → settled ≡ l.state.settled → cut ≡ l.state.cut
    → kept ≡ length l.state.events
    → line.LogOf p last settled cut kept ≡ log_shown (world_of w) p
log_line w p last settled cut kept l h at f e1 e2 e3 e4 =
    line_of_log p last settled cut kept l f e1 e2 e3 e4
    ∙ sym (ap (λ (m : Log). line.LogOf p m.last m.settled m.cut (kept_events m)) (log_found w p h ∙ ap log_said at))

-- the log at the broker that was read at the host's place
pub log_hosted : (v w : WorldView) (b : BrokerView) (p h : ℕ) (o : Option LogView) → v ≡ w → IsWorld w → h ≡ host_of v.topo p → h < length v.topo.brokers
    → b ≡ get_or v.brokers h b → log_in b p ≡ o → log_at w p ≡ o
log_hosted v w b p h o same fits host lt read at =
    let f = subst IsWorld (sym same) fits in
    let there : b ≡ broker_in v h = get_or_read v.brokers h b (omega (arith, f.count, lt)) read no_broker in
    let here : log_at v p ≡ o = ap (λ k. log_in (broker_in v k) p) (sym host) ∙ (ap (λ x. log_in x p) (sym there) ∙ at) in
    subst (λ x. log_at x p ≡ o) same here

-- All that is shown

-- the count of frames, then all logs, then all horizons
pub shown : (w : WorldView) (count : ℕ) (none first logs all : List Report) → count ≡ length w.frames → none ≡ [] → first ≡ none ++ line.Frames count ∷ []
    → logs ≡ first ++ map (log_shown (world_of w)) (numbers (length w.topo.publishers))
    → all ≡ logs ++ flat_map (horizons_shown (net_in w) (world_of w)) (numbers (length w.topo.brokers)) → all ≡ show (net_in w) (world_of w)
unfolding show
shown w count none first logs all many e0 e1 e2 e3 =
    let horizons = flat_map (horizons_shown (net_in w) (world_of w)) (numbers (length w.topo.brokers)) in
    let begun : first ≡ line.Frames count ∷ [] = rw e0 at e1 in
    e3 ∙ (ap (λ xs. xs ++ horizons) (e2 ∙ ap (λ xs. xs ++ map (log_shown (world_of w)) (numbers (length w.topo.publishers))) begun)
    ∙ ap (λ n. line.Frames n ∷ (map (log_shown (world_of w)) (numbers (length w.topo.publishers)) ++ horizons)) (many ∙ sym (length-map w.frames frame_said)))
