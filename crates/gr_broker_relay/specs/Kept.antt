-- What each call needs of what is kept, and leaves so
use Rattle.std.specs.Prelude.{◌≡◌, ℕ, true, false, [], length}
use Rattle.gr_know.specs.declared.values.K.TheVariants.{F}
use Rattle.gr_know.specs.Values.{known_at}
use Rattle.gr_curio.specs.declared.asks.Moment.TheVariants.{Never}
use Rattle.gr_curio.specs.Values.{asked_at}
use Rattle.gr_model.specs.Net.{Net, is_host, keeps_horizon, all_late}
use Rattle.gr_model.specs.Broker.{View, is_consolidated_by}

pub record IsKept (net : Net) (p b : ℕ) (v : View) : Type 0 where
  -- one curiosity for each child
  pub wants : length v.wants ≡ length (net.children p b)
  -- all is final that is consolidated, so a call makes final only what it consolidates
  pub final : (t : ℕ) → is_consolidated_by (keeps_horizon net p b) v.horizon v.wants t ≡ true → known_at v.know t ≡ F
  -- below the host no moment is kept of a final tick, so a call drops only those of ticks that it makes final
  pub dropped : is_host net p b ≡ false → (t : ℕ) → known_at v.know t ≡ F → asked_at v.asks t ≡ Never
  pub asks_nobody : is_host net p b ≡ true → v.asks ≡ []
  -- a horizon that is not kept is 0
  pub none_kept : keeps_horizon net p b ≡ false → v.horizon ≡ 0
  -- only late subscribers join
  pub joins : all_late net v.joins ≡ true
