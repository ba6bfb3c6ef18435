-- The edits of a planned learning leave the machine's view, and what every call needs of it.
use Rattle.std.proofs.Common.{◌≡◌, ℕ, ◌+◌, ◌^◌, ◌≤◌, Bool, true, false, ◌&&◌, ◌||◌, nat_lt, nat_le, List, [], ◌∷◌, length, refl, sym, ap, ◌∙◌, subst, ◌⊎◌, inl, inr, arith}
use Rattle.std.specs.Prelude.{if◌then◌else◌}
use Rattle.std.proofs.lemmas.Bool.{false≢true, or_right}
use Rattle.gr_tick.specs.Runs.{AreRuns, zip_runs}
use Rattle.gr_tick.specs.Stored.{EndBefore, RunsGive}
use Rattle.gr_know.specs.declared.values.K.TheVariants.{Q, F}
use Rattle.gr_know.specs.Values.{Known, known_at, same_K, join_K, clash_K}
use Rattle.gr_curio.specs.declared.values.Q3.TheVariants.{N, A}
use Rattle.gr_curio.specs.declared.asks.Moment.TheVariants.{Never}
use Rattle.gr_curio.specs.Values.{Wanted, Asked, wanted_at, asked_at, is_A}
use Rattle.gr_curio.specs.Wants.{all_A}
use Rattle.gr_model.specs.Net.{Net, keeps_horizon, is_host, is_empty, not_empty, wants_with}
use Rattle.gr_model.specs.NetOf.{net_of}
use Rattle.gr_model.specs.Broker.{View, Log, seen, is_F, is_consolidated_by, consolidated, finished, forgotten, max_tick, horizon_after, new_ticks, forward_wants, learn}
use Rattle.gr_broker_relay.specs.declared.learning.Changes.{Changes}
use Rattle.gr_broker_relay.specs.declared.site.Site.{Site}
use Rattle.gr_broker_relay.specs.Branch.{Branch}
use Rattle.gr_broker_relay.specs.Held.{IsSite}
use Rattle.gr_broker_relay.specs.Kept.{IsKept}
use Rattle.gr_broker_relay.specs.Changes.{AreChanges, AreTaken, learned, reached}
use Rattle.gr_broker_relay.proofs.Shown.{kept_shown}
use Rattle.gr_broker_relay.proofs.Learned.{Completes, joined_is, joined_gives, finished_on, final_on, final_in, asks_kept, dropped_on, is_F-only, learned_host, learned_below}
use Rattle.gr_broker_relay.proofs.Forwarding.{new_runs, taken_forwarded, taken_acknowledged}
use Rattle.gr_broker_relay.proofs.Reaching.{stays}

-- what the edits of all brokers leave of each part
pub record Edits (net : Net) (p b : ℕ) (piece : Known) (v : View) (c : Changes) (joined left : Known) (wants : List Wanted) (to : ℕ) : Type 0 where
  pub kept : IsKept net p b v
  pub changes : AreChanges net p b v piece c
  pub know_runs : AreRuns Q v.know
  pub piece_runs : AreRuns Q piece
  pub joins : RunsGive Q joined (λ t. join_K (known_at v.know t) (known_at piece t))
  pub moves : to ≡ horizon_after (keeps_horizon net p b) v.horizon joined
  pub forward : v.horizon ≤ to
  pub taken : AreTaken v.wants c.quenched.items wants
  pub finishes : RunsGive Q left (λ t. if is_A (wanted_at c.completed t) then F else known_at joined t)

-- the same, of what a site says
pub edits_at : (s : Site) (piece : Known) (v : View) (c : Changes) (left : Known) (wants pieces : List Wanted) (to : ℕ) → IsSite s → IsKept (net_of s.topo.now) s.publisher s.broker v → AreChanges (seen (net_of s.topo.now) v) s.publisher s.broker v piece c → AreRuns Q v.know → EndBefore v.know (2 ^ 62 + 1) → AreRuns Q piece
    → EndBefore piece (2 ^ 62 + 1) → to ≡ c.to → pieces ≡ c.quenched.items → AreTaken v.wants pieces wants → RunsGive Q left (λ t. if is_A (wanted_at c.completed t) then F else join_K (known_at v.know t) (known_at piece t)) → Edits (seen (net_of s.topo.now) v) s.publisher s.broker piece v c (learned v.know piece) left wants to
edits_at s piece v c left wants pieces to site kept changes a u b w there same taken finishes =
    let g : RunsGive Q (learned v.know piece) (λ t. join_K (known_at v.know t) (known_at piece t)) = joined_gives v.know piece a u b w in
    record {
      kept = kept_shown (net_of s.topo.now) (wants_with (net_of s.topo.now) v.joins) s.publisher s.broker v kept;
      changes = changes;
      know_runs = a;
      piece_runs = b;
      joins = g;
      moves = there ∙ changes.moves;
      forward = subst (λ (n : ℕ). v.horizon ≤ n) (sym there) changes.onward;
      taken = subst (λ (ps : List Wanted). AreTaken v.wants ps wants) same taken;
      finishes = record {
        canonical = finishes.canonical;
        in_range = finishes.in_range;
        values = λ t. finishes.values t ∙ ap (λ x. if is_A (wanted_at c.completed t) then F else x) (sym (g.values t));
      };
    }

-- the host, and that a broker is below it, by its site
pub host_there : (s : Site) (h : Bool) → IsSite s → s.position.now.host ≡ h → is_host (net_of s.topo.now) s.publisher s.broker ≡ h
host_there s h site e = sym (ap (λ (x : Branch). x.host) site.branch) ∙ e

-- below it a piece does not clash
pub goes_below : (net : Net) (p b : ℕ) (P : Type 0) → is_host net p b ≡ false → (is_host net p b ≡ true) ⊎ P → P
goes_below net p b P below (inl host) = absurd (false≢true (sym below ∙ host))
goes_below net p b P below (inr x) = x

-- a broker has a horizon, or a child that may acknowledge
some_there : (subs cs : List ℕ) (ws : List Wanted) → length ws ≡ length cs → ((not_empty subs || is_empty cs) || not_empty ws) ≡ true
some_there subs [] ws e = by_test (not_empty subs)
  where
    by_test : (b : Bool) → ((b || true) || not_empty ws) ≡ true
    by_test true = refl
    by_test false = refl
some_there subs (c ∷ cs) [] e = absurd (omega (arith, e))
some_there subs (c ∷ cs) (w ∷ ws) e = or_right (not_empty subs || false) true refl

module _ (net : Net) (p b : ℕ) (piece : Known) (v : View) (c : Changes) (joined left : Known) (wants : List Wanted) (to : ℕ) (e : Edits net p b piece v c joined left wants to) where
  joined_there : joined ≡ zip_runs Q Q Q same_K join_K v.know piece
  joined_there = joined_is v.know piece joined e.know_runs e.piece_runs e.joins

  reached_there : to ≡ reached net p b v piece
  reached_there = e.moves ∙ ap (horizon_after (keeps_horizon net p b) v.horizon) joined_there

  wants_there : wants ≡ forward_wants net p (new_ticks v.know piece) (net.children p b) v.wants
  wants_there = taken_forwarded net p (new_ticks v.know piece) (net.children p b) v.wants c.quenched.items wants e.kept.wants (new_runs v.know piece e.know_runs e.piece_runs) e.changes.each e.taken

  completes : Completes (keeps_horizon net p b) v.horizon to v.wants wants v.know piece joined c.completed
  completes = record {
    forward = e.forward;
    stays = λ k. e.moves ∙ sym (stays (keeps_horizon net p b) v.horizon joined k);
    acknowledged = taken_acknowledged net p (new_ticks v.know piece) (net.children p b) v.wants c.quenched.items wants e.changes.each e.taken;
    final = e.kept.final;
    joins = e.joins.values;
    completes = λ t. e.changes.completed.values t ∙ ap (λ x. if nat_lt v.horizon t && nat_le t x && all_A v.wants t then A else N) (sym reached_there);
  }

  left_there : left ≡ finished joined (consolidated (keeps_horizon net p b) to wants)
  left_there =
      finished_on (keeps_horizon net p b) v.horizon to v.wants wants v.know piece joined c.completed left completes
      (some_there (net.subscribers_at b) (net.children p b) wants (e.taken.many ∙ e.kept.wants)) e.joins.canonical e.finishes

  final_there : (t : ℕ) → is_consolidated_by (keeps_horizon net p b) to wants t ≡ true → known_at left t ≡ F
  final_there t h = final_on (keeps_horizon net p b) v.horizon to v.wants wants v.know piece joined c.completed left completes t e.finishes.values h

  none_there : keeps_horizon net p b ≡ false → to ≡ 0
  none_there k = e.moves ∙ sym (stays (keeps_horizon net p b) v.horizon joined k) ∙ e.kept.none_kept k

  -- at the host
  module _ (asks : Asked) (host : is_host net p b ≡ true) (same : asks ≡ v.asks) where
    -- the view is the machine's
    pub host_view : (log : Log) → ◌≡◌ {A = View} (record { know = left; wants = wants; asks = asks; horizon = to; joins = v.joins }) (learn net p b piece v log).view
    host_view log = learned_host net p b piece v log joined left wants to joined_there e.moves wants_there left_there asks host same

    -- and what every call needs of it holds on
    pub host_kept : IsKept net p b (record { know = left; wants = wants; asks = asks; horizon = to; joins = v.joins })
    host_kept = record {
      wants = e.taken.many ∙ e.kept.wants;
      final = final_there;
      dropped = λ below. absurd (false≢true (sym below ∙ host));
      asks_nobody = λ h. same ∙ e.kept.asks_nobody h;
      none_kept = none_there;
      joins = e.kept.joins;
    }

  -- below it
  module _ (below : is_host net p b ≡ false) (goes : (t : ℕ) → clash_K (known_at v.know t) (known_at piece t) ≡ false) (mid asks : Asked) (kept : Known) (asks_runs : AreRuns Never v.asks) (dropped : RunsGive Never mid (λ t. if is_F (known_at piece t) then Never else asked_at v.asks t)) (undone : RunsGive Never asks (λ t. if is_A (wanted_at c.completed t) then Never else asked_at mid t)) (forgets : kept ≡ forgotten net.cache (if keeps_horizon net p b then to else max_tick) left) (finals : (t : ℕ) → is_F (known_at kept t) ≡ is_F (known_at left t)) (kept_runs : AreRuns Q kept) where
    asks_at : (t : ℕ) → asked_at asks t ≡ (if is_A (wanted_at c.completed t) then Never else (if is_F (known_at piece t) then Never else asked_at v.asks t))
    asks_at t = undone.values t ∙ ap (λ m. if is_A (wanted_at c.completed t) then Never else m) (dropped.values t)

    finals_in : (t : ℕ) → is_F (known_at kept t) ≡ (is_A (wanted_at c.completed t) || (is_F (known_at v.know t) || is_F (known_at piece t)))
    finals_in t = finals t ∙ final_in (keeps_horizon net p b) v.horizon to v.wants wants v.know piece joined c.completed left completes t e.finishes.values (goes t)

    -- the view is the machine's
    pub below_view : (log : Log) → ◌≡◌ {A = View} (record { know = kept; wants = wants; asks = asks; horizon = to; joins = v.joins }) (learn net p b piece v log).view
    below_view log =
        learned_below net p b piece v log joined left wants to joined_there e.moves wants_there left_there kept asks below forgets
        (asks_kept v.know piece kept c.completed v.asks asks finals_in (e.kept.dropped below) asks_runs kept_runs (record { canonical = undone.canonical; in_range = undone.in_range; values = asks_at }))

    -- and what every call needs of it holds on
    pub below_kept : IsKept net p b (record { know = kept; wants = wants; asks = asks; horizon = to; joins = v.joins })
    below_kept = record {
      wants = e.taken.many ∙ e.kept.wants;
      final = λ t h. is_F-only (known_at kept t) (finals t ∙ ap is_F (final_there t h));
      dropped = λ _ t h. dropped_on v.know piece kept c.completed v.asks asks finals_in (e.kept.dropped below) t (asks_at t) h;
      asks_nobody = λ host. absurd (false≢true (sym below ∙ host));
      none_kept = none_there;
      joins = e.kept.joins;
    }
