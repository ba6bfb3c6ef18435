-- Each publisher's log stands at its host: a broker that has started has the logs of its publishers and no others. So
-- what is done to the lanes of one broker's publishers leaves those of all others alone.
use Rattle.std.proofs.Common.{◌≡◌, ◌≢◌, inl, inr, ℕ, suc, ◌*◌, ◌<◌, true, false, List, length, get_or, Option, Some, None, refl, sym, ap, ◌∙◌, arith}
use Rattle.std.specs.Prelude.{is_some}
use Rattle.std.proofs.lemmas.Bool.{cases_lt, false≢true, eqb-true, eq-eqb}
use Rattle.std.proofs.lemmas.List.{get_or_past}
use Rattle.gr_publog.specs.Views.{LogView, AwayFrom}
use Rattle.gr_topo.specs.Topology.{TopologyView, host_of}
use Rattle.gr_model.specs.Net.{is_host}
use Rattle.gr_model.specs.NetOf.{net_of}
use Rattle.gr_broker.specs.Lanes.{log_lane}
use Rattle.gr_broker.specs.Seen.{BrokerView, log_in}
use Rattle.gr_broker.specs.Of.{IsBrokerOf}

-- no log is not one
pub none_some : (l : LogView) → None ≡ Some l → ⊥
none_some l h = cc

-- a log that is there has a place among the logs
place_of_log : (logs : List (Option LogView)) (p : ℕ) (l : LogView) → get_or logs p None ≡ Some l → p < length logs
place_of_log logs p l e = elim (cases_lt p (length logs)) [
  | inl k ↦ k
  | inr k ↦ absurd (none_some l (sym (get_or_past logs p None k) ∙ e))
]

-- what is there is some
pub some_of : {X : Type 0} (o : Option X) → is_some o ≡ true → (x : X) × (o ≡ Some x)
some_of None e = absurd (false≢true e)
some_of (Some x) e = (x, refl)

-- a publisher that is at a broker has it as its host
pub host_is : (t : TopologyView) (p b : ℕ) → is_host (net_of t) p b ≡ true → host_of t p ≡ b
host_is t p b e = eqb-true (host_of t p) b e

-- and the other way round
pub is_host_at : (t : TopologyView) (p b : ℕ) → host_of t p ≡ b → is_host (net_of t) p b ≡ true
is_host_at t p b e = eq-eqb (host_of t p) b e

module _ (t : TopologyView) (b : ℕ) (v : BrokerView) (fits : IsBrokerOf t v) (number : v.number ≡ b) where
  -- each log of a broker is that of a publisher which is there
  pub log_hosted : (p : ℕ) (l : LogView) → log_in v p ≡ Some l → (p < length t.publishers) × (host_of t p ≡ b)
  log_hosted p l e =
      let k : p < length t.publishers = omega (arith, place_of_log v.logs p l e, fits.logs) in
      let here : true ≡ is_host (net_of t) p v.number = ap (λ (o : Option LogView). is_some o) (sym e) ∙ fits.hosted p k in
      (k, host_is t p v.number (sym here) ∙ number)

  -- and each publisher that is there has one
  pub hosted_log : (p : ℕ) → p < length t.publishers → host_of t p ≡ b → (l : LogView) × (log_in v p ≡ Some l)
  hosted_log p k e = some_of (log_in v p) (fits.hosted p k ∙ is_host_at t p v.number (e ∙ sym number))

  -- the log of a publisher that is elsewhere is not there
  pub no_log : (p : ℕ) → host_of t p ≢ b → log_in v p ≡ None
  no_log p n = go (log_in v p) refl
    where
      go : (o : Option LogView) → log_in v p ≡ o → o ≡ None
      go None e = refl
      go (Some l) e = absurd (n (log_hosted p l e).1)

-- publishers have lanes of their own: the first of the one's two, and the second of them, are none of the other's
pub own_lanes : (p q : ℕ) → p ≢ q → AwayFrom (log_lane q) (log_lane p) × AwayFrom (log_lane q) (suc (log_lane p))
own_lanes p q apart = (
  (λ e. apart (omega (arith, e)), λ e. absurd (omega (arith, e))),
  (λ e. absurd (omega (arith, e)), λ e. apart (omega (arith, e))),
)

-- so have publishers at two brokers
pub lanes_apart : (t : TopologyView) (p q b c : ℕ) → host_of t p ≡ b → host_of t q ≡ c → b ≢ c
    → AwayFrom (log_lane q) (log_lane p) × AwayFrom (log_lane q) (suc (log_lane p))
lanes_apart t p q b c at there apart =
    let same : p ≢ q = λ e. apart (sym at ∙ ap (host_of t) e ∙ there) in
    own_lanes p q same
