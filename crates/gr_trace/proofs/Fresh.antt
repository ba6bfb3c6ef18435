-- What a publisher's start leaves and tells where no subscriber is at the broker, and over an empty log: then it is the machine's
-- start, since over an empty log a host learns nothing by which its horizon could move.
use Rattle.std.proofs.Common.{◌≡◌, ℕ, Bool, true, false, ◌&&◌, List, [], ◌∷◌, ◌++◌, map, refl, sym, ap, ap₂, ◌∙◌}
use Rattle.std.specs.Prelude.{if◌then◌else◌, flat_map}
use Rattle.gr_event.specs.declared.event.Event.{Event}
use Rattle.gr_curio.specs.declared.values.Q3.TheVariants.{N, A}
use Rattle.gr_curio.specs.Values.{Wanted, wanteds}
use Rattle.gr_pubend.specs.Log.{Log, fresh_log, log_know}
use Rattle.gr_model.specs.declared.report.Report.{Report}
use Rattle.gr_model.specs.Net.{Net, is_host, keeps_horizon, not_empty}
use Rattle.gr_model.specs.Broker.{View, Outcome, all_points, is_consolidated_by, consolidated, finished, kept_view, delivery_lines, new_ticks, passed, forward, still_wanted, forward_wants, learn, seen, started, horizon_after, data_ticks}
use Rattle.gr_model.specs.Opening.{reopened_line}
use Rattle.gr_broker.specs.Opened.{opened_at}

module _ (net : Net) (p b : ℕ) (log : Log) where
  abbrev opened_if : Bool → Bool → Outcome
  opened_if here some =
      let v : View = started net p b log in
      let o : Outcome = learn (seen net v) p b [] v log in
      elim (here && some) [
        | true ↦ record { view = o.view; log = log; lines = reopened_line log p ++ o.lines; frames = o.frames }
        | false ↦ record { view = v; log = log; lines = if here then reopened_line log p else []; frames = [] }
      ]

  opened_by : (here some : Bool) → is_host net p b ≡ here → not_empty (net.subscribers_at b) ≡ some → opened_at net p b log ≡ opened_if here some
  unfolding opened_at
  opened_by here some h s = ap (λ x. opened_if x (not_empty (net.subscribers_at b))) h ∙ ap (opened_if here) s

  -- Without a subscriber at the broker

  -- it is left with what the log says
  pub view_alone : not_empty (net.subscribers_at b) ≡ false → (opened_at net p b log).view ≡ started net p b log
  view_alone none = ap (λ (o : Outcome). o.view) (opened_by (is_host net p b) false refl none) ∙ go (is_host net p b)
    where
      go : (here : Bool) → (opened_if here false).view ≡ started net p b log
      go true = refl
      go false = refl

  -- and its host tells the line of the log
  pub lines_alone : not_empty (net.subscribers_at b) ≡ false → (opened_at net p b log).lines ≡ (if is_host net p b then reopened_line log p else [])
  lines_alone none = ap (λ (o : Outcome). o.lines) (opened_by (is_host net p b) false refl none) ∙ go (is_host net p b)
    where
      go : (here : Bool) → (opened_if here false).lines ≡ (if here then reopened_line log p else [])
      go true = refl
      go false = refl

-- what a broker starts with, below the host, does not look at a log
pub started_below : (net : Net) (p b : ℕ) (log other : Log) → is_host net p b ≡ false → started net p b log ≡ started net p b other
unfolding started
started_below net p b log other below =
    let made : Bool → Log → View = λ here l. record { know = if here then log_know l else []; wants = map (λ _. []) (net.children p b); asks = []; horizon = 0; joins = if here then l.joins else [] } in
    ap (λ here. made here log) below ∙ sym (ap (λ here. made here other) below)

-- Over an empty log

module _ (net : Net) (p b : ℕ) (forgets : Bool) where
  -- no child has asked
  abbrev nobody : List Wanted
  nobody = map (λ _. []) (net.children p b)

  abbrev blank : View
  blank = record { know = []; wants = nobody; asks = []; horizon = 0; joins = [] }

  -- nothing is known
  starts_blank : started net p b (fresh_log forgets) ≡ blank
  unfolding started log_know
  starts_blank = go (is_host net p b)
    where
      go : (here : Bool) → ◌≡◌ {A = View} (record { know = if here then log_know (fresh_log forgets) else []; wants = nobody; asks = []; horizon = 0; joins = if here then (fresh_log forgets).joins else [] }) blank
      go true = refl
      go false = refl

  -- nothing is forwarded, so no child's curiosity changes
  none_wanted : (cs : List ℕ) → forward_wants net p [] cs (map (λ _. []) cs) ≡ map (λ _. []) cs
  unfolding passed forward still_wanted
  none_wanted [] = refl
  none_wanted (c ∷ cs) = ap (λ (ws : List Wanted). [] ∷ ws) (none_wanted cs)

  no_points : (cs : List ℕ) → all_points (map (λ _. []) cs) ≡ []
  no_points [] = refl
  no_points (c ∷ cs) = no_points cs

  -- nothing is consolidated
  none_done : (keeps : Bool) → consolidated keeps 0 nobody ≡ []
  unfolding consolidated
  none_done keeps = done_at (all_points nobody) (no_points (net.children p b))
    where
      done_at : (ps : List ℕ) → ps ≡ [] → ◌≡◌ {A = Wanted} (wanteds (λ t. if is_consolidated_by keeps 0 nobody t then A else N) (1 ∷ (1 ∷ ps))) []
      done_at ps e = ap (λ (qs : List ℕ). wanteds (λ t. if is_consolidated_by keeps 0 nobody t then A else N) (1 ∷ (1 ∷ qs))) e

  -- the horizon stays
  stays_zero : (keeps : Bool) → horizon_after keeps 0 [] ≡ 0
  unfolding horizon_after
  stays_zero true = refl
  stays_zero false = refl

  abbrev learned : Bool → ℕ → List Wanted → View
  learned keeps h ws = kept_view net p b (record { know = finished [] (consolidated keeps h ws); wants = ws; asks = []; horizon = h; joins = [] })

  learned_blank : (keeps : Bool) (h : ℕ) (ws : List Wanted) → is_host net p b ≡ true → h ≡ 0 → ws ≡ nobody → learned keeps h ws ≡ blank
  unfolding kept_view finished
  learned_blank keeps h ws here still none =
      ap (λ (n : ℕ). learned keeps n ws) still
      ∙ ap (λ (xs : List Wanted). learned keeps 0 xs) none
      ∙ ap (λ (done : Wanted). kept_view net p b (record { know = finished [] done; wants = nobody; asks = []; horizon = 0; joins = [] })) (none_done keeps)
      ∙ rw (kept_view, here) refl

  nothing_told : (h : ℕ) (items : List (ℕ × Event)) (ss : List ℕ) → h ≡ 0 → flat_map (delivery_lines net p 0 h items) ss ≡ []
  unfolding delivery_lines
  nothing_told h items [] e = refl
  nothing_told h items (s ∷ ss) e = ap₂ (λ (xs ys : List Report). xs ++ ys) (ap (λ n. delivery_lines net p 0 n items s) e) (nothing_told h items ss e)

  -- a host learns nothing
  learned_view : is_host net p b ≡ true → (learn net p b [] blank (fresh_log forgets)).view ≡ blank
  unfolding learn new_ticks
  learned_view here =
      learned_blank (keeps_horizon net p b) (horizon_after (keeps_horizon net p b) 0 []) (forward_wants net p [] (net.children p b) nobody) here
      (stays_zero (keeps_horizon net p b)) (none_wanted (net.children p b))

  -- and tells nothing
  learned_lines : (learn net p b [] blank (fresh_log forgets)).lines ≡ []
  unfolding learn
  learned_lines =
      let h = horizon_after (keeps_horizon net p b) 0 [] in
      nothing_told h (data_ticks 0 h []) (net.subscribers_at b) (stays_zero (keeps_horizon net p b))

module _ (net : Net) (p b : ℕ) (forgets : Bool) where
  -- the net that such a broker's view shows: no one has joined
  abbrev shown : Net
  shown = seen net (blank net p b forgets)

  -- a start over an empty log is the machine's
  pub fresh_view : (opened_at net p b (fresh_log forgets)).view ≡ started net p b (fresh_log forgets)
  fresh_view = ap (λ (o : Outcome). o.view) (opened_by net p b (fresh_log forgets) (is_host net p b) (not_empty (net.subscribers_at b)) refl refl) ∙ go (is_host net p b) (not_empty (net.subscribers_at b)) refl
    where
      go : (here some : Bool) → is_host net p b ≡ here → (opened_if net p b (fresh_log forgets) here some).view ≡ started net p b (fresh_log forgets)
      go true true here = ap (λ (v : View). let o : Outcome = learn (seen net v) p b [] v (fresh_log forgets) in o.view) (starts_blank net p b forgets) ∙ learned_view shown p b forgets here ∙ sym (starts_blank net p b forgets)
      go true false here = refl
      go false some here = refl

  -- it tells nothing
  pub fresh_lines : (opened_at net p b (fresh_log forgets)).lines ≡ []
  fresh_lines = ap (λ (o : Outcome). o.lines) (opened_by net p b (fresh_log forgets) (is_host net p b) (not_empty (net.subscribers_at b)) refl refl) ∙ go (is_host net p b) (not_empty (net.subscribers_at b))
    where
      go : (here some : Bool) → (opened_if net p b (fresh_log forgets) here some).lines ≡ []
      go true true = ap (λ (v : View). let o : Outcome = learn (seen net v) p b [] v (fresh_log forgets) in o.lines) (starts_blank net p b forgets) ∙ learned_lines shown p b forgets
      go true false = refl
      go false some = refl

-- whether the log forgets or not
pub fresh_same : (net : Net) (p b : ℕ) (forgets other : Bool) → started net p b (fresh_log forgets) ≡ started net p b (fresh_log other)
fresh_same net p b forgets other = starts_blank net p b forgets ∙ sym (starts_blank net p b other)
