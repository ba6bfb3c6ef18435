-- What the net that a view shows says of a topology that was read: a late subscriber wants what is past its join, as the view's
-- joins say, and all else is as the topology has it.
use Rattle.std.proofs.Common.{◌≡◌, ℕ, ◌+◌, Bool, true, false, ◌&&◌, ◌||◌, List, [], ◌∷◌, map, Option, Some, None, arith, refl, sym, ap, ap₂, ◌∙◌}
use Rattle.std.specs.Prelude.{nat_le, nat_lt, if◌then◌else◌, filter}
use Rattle.std.specs.List.{list_any}
use Rattle.std.proofs.lemmas.Bool.Decides.{nat_tests}
use Rattle.gr_event.specs.declared.event.Event.{Event}
use Rattle.gr_event.specs.Joins.{Joins, joined_below, tick_of, JoinOnce}
use Rattle.gr_filter.specs.Tree.{Tree}
use Rattle.gr_know.specs.declared.values.K.{K}
use Rattle.gr_edge.specs.Pass as edge
use Rattle.gr_edge.proofs.Joined.{never_joined, past_join}
use Rattle.gr_topo.specs.Topology.{TopologyView, filter_of, passes_filter, wants, below_of, late_of}
use Rattle.gr_model.specs.Net.{Net, with_wants, wants_with, pass}
use Rattle.gr_model.specs.NetOf.{net_of}
use Rattle.gr_model.specs.Broker.{View, seen, got_line}
use Rattle.gr_model.proofs.NetWords.{filter_passes, pass_is}
use Rattle.gr_broker_relay.specs.Branch.{wanting_of, wantings_below}
use Rattle.gr_broker_relay.specs.Handed.{got_lines, got_by, got_in_time, got_late}
use Rattle.gr_broker_relay.specs.Kept.{IsKept}

-- What each call needs is said of all but what is wanted

pub kept_shown : (net : Net) (f : ℕ → ℕ → ℕ → Event → Bool) (p b : ℕ) (v : View) → IsKept net p b v → IsKept (with_wants net f) p b v
kept_shown net f p b v k = record {
  wants = k.wants;
  final = k.final;
  dropped = k.dropped;
  asks_nobody = k.asks_nobody;
  none_kept = k.none_kept;
  joins = k.joins;
}

pub kept_plain : (net : Net) (f : ℕ → ℕ → ℕ → Event → Bool) (p b : ℕ) (v : View) → IsKept (with_wants net f) p b v → IsKept net p b v
kept_plain net f p b v k = record {
  wants = k.wants;
  final = k.final;
  dropped = k.dropped;
  asks_nobody = k.asks_nobody;
  none_kept = k.none_kept;
  joins = k.joins;
}

-- Edges

filter_is : (f : Option Tree) (e : Event) → passes_filter f e ≡ edge.wants f e
filter_is None e = refl
filter_is (Some tree) e = refl

-- a subscriber wants an event of a tick exactly where it wants it at an edge
wanted_by : (t : TopologyView) (js : Joins) (s u : ℕ) (e : Event) (late : Bool) → (elim late [ true ↦ wants t s e && joined_below js s u | false ↦ wants t s e ]) ≡ (edge.wants (filter_of t s) e && edge.is_in_time (if late then Some s else None) js u)
wanted_by t js s u e true = ap (λ x. x && joined_below js s u) (filter_is (filter_of t s) e)
wanted_by t js s u e false = filter_passes (filter_of t s) e

any_wants : (t : TopologyView) (js : Joins) (p u : ℕ) (e : Event) (ss : List ℕ) → list_any (λ s. wants_with (net_of t) js p s u e) ss ≡ edge.wanted (map (wanting_of t) ss) js u e
any_wants t js p u e [] = refl
any_wants t js p u e (s ∷ ss) = ap₂ (λ x y. x || y) (wanted_by t js s u e (late_of t s)) (any_wants t js p u e ss)

-- so what passes the edge to a child is what the subscribers there let pass by the joins
pub pass_shown : (t : TopologyView) (v : View) (p c u : ℕ) (k : K) → pass (seen (net_of t) v) p c u k ≡ edge.pass (wantings_below t p c) v.joins u k
pass_shown t v p c u k = pass_is (seen (net_of t) v) (wantings_below t p c) v.joins p c u (λ e. any_wants t v.joins p u e (below_of t p c)) k

-- What a subscriber gets

filter_same : {X : Type 0} (f g : X → Bool) (xs : List X) → ((x : X) → f x ≡ g x) → filter f xs ≡ filter g xs
filter_same f g [] h = refl
filter_same f g (x ∷ xs) h = ap₂ (λ b rest. if b then x ∷ rest else rest) (h x) (filter_same f g xs h)

filter_none : {X : Type 0} (f : X → Bool) (xs : List X) → ((x : X) → f x ≡ false) → filter f xs ≡ []
filter_none f [] h = refl
filter_none f (x ∷ xs) h = ap₂ (λ b rest. if b then x ∷ rest else rest) (h x) (filter_none f xs h)

-- who wants what where a subscriber is late, or is not
abbrev wanted_if : TopologyView → Joins → ℕ → Bool → ℕ × Event → Bool
wanted_if t js s late x = elim late [ true ↦ wants t s x.1 && joined_below js s x.0 | false ↦ wants t s x.1 ]

-- one in time gets what its filter passes
pub gets_in_time : (t : TopologyView) (js : Joins) (p s : ℕ) (passed : List (ℕ × Event)) → late_of t s ≡ false → got_in_time t p passed s ≡ got_by t js p passed s
gets_in_time t js p s passed e = ap (λ late. got_lines (wanted_if t js s late) p passed s) (sym e)

-- a late one what is past its join
pub gets_late : (t : TopologyView) (js : Joins) (p s : ℕ) (passed : List (ℕ × Event)) → late_of t s ≡ true → got_late t js p passed s ≡ got_by t js p passed s
gets_late t js p s passed e = ap (λ late. got_lines (wanted_if t js s late) p passed s) (sym e)

-- which is nothing where it has not joined
pub late_none : (t : TopologyView) (js : Joins) (p s : ℕ) (passed : List (ℕ × Event)) → JoinOnce js → tick_of js s ≡ None → got_late t js p passed s ≡ []
late_none t js p s passed once none = ap (map (got_line s p)) (filter_none (λ x. wants t s x.1 && joined_below js s x.0) passed (λ x. never_joined js s x.0 (wants t s x.1) once none))

-- and else what is past that tick
pub late_some : (t : TopologyView) (js : Joins) (p s join : ℕ) (passed : List (ℕ × Event)) → JoinOnce js → tick_of js s ≡ Some join → got_lines (λ x. nat_lt join x.0 && wants t s x.1) p passed s ≡ got_late t js p passed s
late_some t js p s join passed once some = ap (map (got_line s p)) (filter_same (λ x. nat_lt join x.0 && wants t s x.1) (λ x. wants t s x.1 && joined_below js s x.0) passed (λ x. same x.0 (wants t s x.1)))
  where
    behind : (n m : ℕ) → nat_lt n m ≡ nat_le (n + 1) m
    behind n m = grind (arith, nat_tests)

    and_true : (b : Bool) → (b && true) ≡ b
    and_true true = refl
    and_true false = refl

    and_false : (b : Bool) → (b && false) ≡ false
    and_false true = refl
    and_false false = refl

    same : (u : ℕ) (w : Bool) → (nat_lt join u && w) ≡ (w && joined_below js s u)
    same u true = and_true (nat_lt join u) ∙ behind join u ∙ sym (past_join js s u join true once some refl)
    same u false = and_false (nat_lt join u)
