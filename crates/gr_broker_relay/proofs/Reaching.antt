-- Where the code's horizon comes to is where the machine's does.
use Rattle.std.proofs.Common.{◌≡◌, ◌≢◌, ℕ, ◌+◌, ◌^◌, ◌<◌, ◌≤◌, Bool, true, false, refl, sym, ap, ◌∙◌}
use Rattle.gr_tick.specs.Runs.{AreRuns}
use Rattle.gr_tick.specs.Stored.{EndBefore}
use Rattle.gr_know.specs.declared.values.K.TheVariants.{Q}
use Rattle.gr_know.specs.Values.{Known, known_at, join_K}
use Rattle.gr_subend.proofs.Handing.{moves_with}
use Rattle.gr_model.specs.Net.{Net, keeps_horizon}
use Rattle.gr_model.specs.Broker.{View, horizon_after}
use Rattle.gr_broker_relay.specs.Changes.{learned, reached}
use Rattle.gr_broker_relay.proofs.Learned.{joined_gives}

-- one that is not kept stays
pub stays : (keeps : Bool) (h : ℕ) (know : Known) → keeps ≡ false → h ≡ horizon_after keeps h know
unfolding horizon_after
stays keeps h know e = rw e refl

-- so it is where it was once a piece is joined
pub reached_stays : (net : Net) (p b i : ℕ) (v : View) (piece : Known) → i ≡ v.horizon → keeps_horizon net p b ≡ false → i ≡ reached net p b v piece
reached_stays net p b i v piece e k = e ∙ stays (keeps_horizon net p b) v.horizon (learned v.know piece) k

-- one that is kept moves on to before the next unknown tick
pub reached_moves : (net : Net) (p b i to : ℕ) (v : View) (piece : Known) → i ≡ v.horizon → keeps_horizon net p b ≡ true → AreRuns Q v.know → EndBefore v.know (2 ^ 62 + 1) → AreRuns Q piece → EndBefore piece (2 ^ 62 + 1)
    → i ≤ to → ((t : ℕ) → i < t → t ≤ to → join_K (known_at v.know t) (known_at piece t) ≢ Q) → join_K (known_at v.know (to + 1)) (known_at piece (to + 1)) ≡ Q → to ≡ reached net p b v piece
reached_moves net p b i to v piece e k a u c w le known next =
    moves_with i to (learned v.know piece) (λ t. join_K (known_at v.know t) (known_at piece t)) (joined_gives v.know piece a u c w) le known next
    ∙ ap (λ h. horizon_after true h (learned v.know piece)) e
    ∙ ap (λ q. horizon_after q v.horizon (learned v.know piece)) (sym k)
