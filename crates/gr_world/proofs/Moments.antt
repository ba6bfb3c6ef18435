-- The moment of a sweep: the greatest of all moments and settled ticks, publisher by publisher, and the settings on top, which stay far below the last number of 64 bits
use Rattle.std.proofs.Common.{◌≡◌, ℕ, suc, ◌+◌, ◌-◌, ◌^◌, ◌<◌, ◌≤◌, max, List, ◌∷◌, length, map, get_or, Some, sym, ap, ap₂, ◌∙◌, arith, add-one}
use Rattle.std.proofs.lemmas.List.{get_or_read}
use Rattle.gr_publog.specs.State.{IsState}
use Rattle.gr_publog.specs.Views.{LogView}
use Rattle.gr_pubend.specs.Log.{Log, empty_log, said}
use Rattle.gr_topo.specs.Topology.{TopologyView, host_of}
use Rattle.gr_model.specs.Net.{numbers, numbers_from}
use Rattle.gr_model.specs.World.{greatest_settled, log_of, sweep_moment}
use Rattle.gr_model_calls.proofs.runs.Schedules.{get_numbers}
use Rattle.gr_broker.specs.Seen.{BrokerView, log_in, log_said}
use Rattle.gr_world.specs.Seen.{WorldView, no_broker, log_at, net_in, world_of}

-- The log of a publisher

-- the log that is found at a publisher's host
pub log_found : (w : WorldView) (bs : List BrokerView) (t : TopologyView) (p h : ℕ) (b : BrokerView) (l : LogView) → bs ≡ w.brokers → t ≡ w.topo → length w.brokers ≡ length w.topo.brokers
    → h ≡ host_of t p → h < length t.brokers → b ≡ get_or bs h b → log_in b p ≡ Some l → log_at w p ≡ Some l
log_found w bs t p h b l same topo many at j e is =
    let k : h < length bs = omega (arith, ap length same, many, ap (λ (s : TopologyView). length s.brokers) topo) in
    let here : b ≡ get_or bs h no_broker = get_or_read bs h b k e no_broker in
    ap (λ (x : BrokerView). log_in x p) (ap₂ (λ (xs : List BrokerView) n. get_or xs n no_broker) (sym same) (sym (at ∙ ap (λ (s : TopologyView). host_of s p) topo)) ∙ sym here) ∙ is

log_here : (w : WorldView) (p : ℕ) → p < length w.topo.publishers → log_of (world_of w) p ≡ log_said (log_at w p)
log_here w p i =
    let z : 0 + p ≡ p = omega arith in
    get_numbers (λ q. log_said (log_at w q)) 0 (length w.topo.publishers) p empty_log i ∙ ap (λ q. log_said (log_at w q)) z

-- the machine's log of a publisher is the one at its host
pub log_is : (w : WorldView) (p : ℕ) (l : LogView) → p < length w.topo.publishers → log_at w p ≡ Some l → log_of (world_of w) p ≡ said l
log_is w p l i e = log_here w p i ∙ ap (λ o. log_said o) e

-- what it has settled is what the code's log has
pub settled_is : (w : WorldView) (p n : ℕ) (l : LogView) → p < length w.topo.publishers → log_at w p ≡ Some l → IsState l.state → n ≡ l.state.settled → (n ≡ (log_of (world_of w) p).settled) × (n ≤ 2 ^ 62)
settled_is w p n l i e state is = (is ∙ sym (ap (λ (k : Log). k.settled) (log_is w p l i e)), omega (arith, is, state.settled))

-- Over all publishers

-- the greatest of what is settled in the logs of the publishers that are left
abbrev pub settled_left : WorldView → ℕ → ℕ
settled_left w i = greatest_settled (map (λ (l : Log). l.settled) (map (λ p. log_said (log_at w p)) (numbers_from i (length w.topo.publishers - i))))

-- the greatest of what is settled in all logs
abbrev pub settled_most : WorldView → ℕ
settled_most w = greatest_settled (map (λ (l : Log). l.settled) (map (λ p. log_said (log_at w p)) (numbers (length w.topo.publishers))))

-- before the first publisher all are left
pub greatest_all : (w : WorldView) (n : ℕ) → n ≡ w.most → max n (settled_left w 0) ≡ max w.most (settled_most w)
greatest_all w n e =
    let z : length w.topo.publishers - 0 ≡ length w.topo.publishers = omega arith in
    ap (λ k. max k (settled_left w 0)) e ∙ ap (λ k. max w.most (greatest_settled (map (λ (l : Log). l.settled) (map (λ p. log_said (log_at w p)) (numbers_from 0 k))))) z

-- one more publisher
pub greatest_more : (w : WorldView) (i n s : ℕ) → i < length w.topo.publishers → s ≡ (log_of (world_of w) i).settled → max n (settled_left w i) ≡ max (max n s) (settled_left w (i + 1))
greatest_more w i n s h is =
    let many = length w.topo.publishers in
    let e : many - i ≡ suc (many - (i + 1)) = omega arith in
    let next : numbers_from i (many - i) ≡ i ∷ numbers_from (i + 1) (many - (i + 1)) = ap (numbers_from i) e ∙ ap (λ k. i ∷ numbers_from k (many - (i + 1))) (sym (add-one i)) in
    let left : settled_left w i ≡ max (log_said (log_at w i)).settled (settled_left w (i + 1)) = ap (λ ps. greatest_settled (map (λ (l : Log). l.settled) (map (λ p. log_said (log_at w p)) ps))) next in
    let here : s ≡ (log_said (log_at w i)).settled = is ∙ ap (λ (k : Log). k.settled) (log_here w i h) in
    omega (arith, left, here)

-- all of them
pub greatest_none : (w : WorldView) (i n : ℕ) → length w.topo.publishers ≤ i → max n (settled_left w i) ≡ n
greatest_none w i n h =
    let e : length w.topo.publishers - i ≡ 0 = omega arith in
    let none : settled_left w i ≡ 0 = ap (λ k. greatest_settled (map (λ (l : Log). l.settled) (map (λ p. log_said (log_at w p)) (numbers_from i k)))) e in
    omega (arith, none)

-- the moment
pub moment_is : (w : WorldView) (i n : ℕ) → length w.topo.publishers ≤ i → max n (settled_left w i) ≡ max w.most (settled_most w)
    → n + w.topo.settings.gap + w.topo.settings.idle + w.topo.settings.retry + w.topo.settings.quiet + 1 ≡ sweep_moment (net_in w) (world_of w)
unfolding sweep_moment
moment_is w i n h inv = ap (λ g. g + w.topo.settings.gap + w.topo.settings.idle + w.topo.settings.retry + w.topo.settings.quiet + 1) (sym (greatest_none w i n h) ∙ inv)
