-- What a subscriber is told in its one list, where no line of it is passed over, is all that it is to have of every publisher up to where it has heard them all
use Rattle.std.proofs.Common.{◌≡◌, ◌↔◌, inl, inr, ℕ, zero, suc, ◌+◌, ◌<◌, ◌≤◌, Bool, true, false, ◌&&◌, cond, List, [], ◌∷◌, length, map, get_or, refl, sym, ap, ◌∙◌, subst, arith}
use Rattle.std.specs.Prelude.{nat_eq, nat_le}
use Rattle.std.specs.List.{Contains, filter, list_any}
use Rattle.std.proofs.lemmas.Bool.{and_parts, and_from, leb-true, le-leb, true≢false}
use Rattle.gr_event.specs.declared.event.Event.{Event}
use Rattle.gr_order.specs.declared.item.Item.{Item}
use Rattle.gr_order.specs.Merge.{least_horizon}
use Rattle.gr_order.specs.Law.{IsMerged}
use Rattle.gr_order.proofs.Horizons.{least_at}
use Rattle.gr_model.specs.declared.report.Report.{Report}
use Rattle.gr_model.specs.Net.{Net, numbers, numbers_from}
use Rattle.gr_model.specs.Headline.{History, expected, last_horizon, delivered_events, record_of}
use Rattle.gr_model.specs.Tree.{IsDistinct}
use Rattle.gr_model.specs.Orders.{fresh_order, ordered_steps}
use Rattle.gr_model.specs.Ordered.{IsMergedOf, heard_upto, items_told}
use Rattle.gr_model_theorems.proofs.order.Told.{end, heard_in, begun, each_is_merged}
use Rattle.gr_model_theorems.proofs.order.Hearing.{NonePassed, joined, got_items, has_head, has_tail, has_none, has_cases, heard_is_got, got_delivered, heard_in_range, least_is}

-- what a filter keeps
pub kept : {X : Type 0} (test : X → Bool) (xs : List X) (x : X) → Contains (filter test xs) x ↔ (Contains xs x × (test x ≡ true))
kept test [] x = (λ h. absurd (has_none x h), λ h. absurd (has_none x h.0))
kept test (y ∷ xs) x = go (test y) refl (kept test xs x)
  where
    go : (c : Bool) → test y ≡ c → Contains (filter test xs) x ↔ (Contains xs x × (test x ≡ true)) → Contains (cond c (y ∷ filter test xs) (filter test xs)) x ↔ (Contains (y ∷ xs) x × (test x ≡ true))
    go true e more = (
      λ h. elim (has_cases y x (filter test xs) h) [
        | inl a ↦ (subst (λ z. Contains (y ∷ xs) z) a (has_head y xs), ap test (sym a) ∙ e)
        | inr a ↦ let b = more.0 a in (has_tail y x xs b.0, b.1)
      ],
      λ h. elim (has_cases y x xs h.0) [
        | inl a ↦ subst (λ z. Contains (y ∷ filter test xs) z) a (has_head y (filter test xs))
        | inr a ↦ has_tail y x (filter test xs) (more.1 (a, h.1))
      ],
    )
    go false e more = (
      λ h. let b = more.0 h in (has_tail y x xs b.0, b.1),
      λ h. elim (has_cases y x xs h.0) [
        | inl a ↦ absurd (true≢false (sym h.1 ∙ (ap test (sym a) ∙ e)))
        | inr a ↦ more.1 (a, h.1)
      ],
    )

-- what is expected up to a tick is what is expected up to a later one, as far as that tick
pub cut_off : (net : Net) (h : History) (s p m n : ℕ) (x : ℕ × Event) → m ≤ n → Contains (expected net h s p m) x ↔ (Contains (expected net h s p n) x × (x.0 ≤ m))
cut_off net h s p m n x le = (there, back)
  where
    there : Contains (expected net h s p m) x → Contains (expected net h s p n) x × (x.0 ≤ m)
    there c =
        let a = (kept (λ y. nat_le y.0 m && net.wants p s y.0 y.1) (record_of h p).events x).0 c in
        let b = and_parts (nat_le x.0 m) (net.wants p s x.0 x.1) a.1 in
        let low : x.0 ≤ m = leb-true x.0 m b.0 in
        ((kept (λ y. nat_le y.0 n && net.wants p s y.0 y.1) (record_of h p).events x).1 (a.0, and_from (nat_le x.0 n) (net.wants p s x.0 x.1) (le-leb x.0 n (omega (arith, low, le))) b.1), low)

    back : Contains (expected net h s p n) x × (x.0 ≤ m) → Contains (expected net h s p m) x
    back c =
        let a = (kept (λ y. nat_le y.0 n && net.wants p s y.0 y.1) (record_of h p).events x).0 c.0 in
        let b = and_parts (nat_le x.0 n) (net.wants p s x.0 x.1) a.1 in
        (kept (λ y. nat_le y.0 m && net.wants p s y.0 y.1) (record_of h p).events x).1 (a.0, and_from (nat_le x.0 m) (net.wants p s x.0 x.1) (le-leb x.0 m c.1) b.1)

mapped_at : (f : ℕ → ℕ) (i n p : ℕ) → p < n → get_or (map f (numbers_from i n)) p 0 ≡ f (i + p)
mapped_at f i zero p lt = absurd (omega (arith, lt))
mapped_at f i (suc n) zero lt = let k : i ≡ i + 0 = omega arith in ap f k
mapped_at f i (suc n) (suc p) lt = mapped_at f (suc i) n p (omega (arith, lt)) ∙ (let k : suc i + p ≡ i + suc p = omega arith in ap f k)

mapped_long : (f : ℕ → ℕ) (i n : ℕ) → length (map f (numbers_from i n)) ≡ n
mapped_long f i zero = refl
mapped_long f i (suc n) = ap suc (mapped_long f (suc i) n)

-- a subscriber has heard each publisher at least up to where it has heard them all
upto_each : (net : Net) (ls : List Report) (s p : ℕ) → p < net.publishers → heard_upto net ls s ≤ last_horizon s p 0 ls
upto_each net ls s p lt =
    let long = mapped_long (λ q. last_horizon s q 0 ls) 0 net.publishers in
    let low = least_at (map (λ q. last_horizon s q 0 ls) (numbers net.publishers)) p (omega (arith, long, lt)) in
    let here = mapped_at (λ q. last_horizon s q 0 ls) 0 net.publishers p lt in
    let k : 0 + p ≡ p = omega arith in
    let same = ap (λ q. last_horizon s q 0 ls) k in
    omega (arith, low, here, same)

pub told_is_expected : (net : Net) (h : History) (s : ℕ) (totals : List ℕ) (rs : List (List Report)) → IsDistinct totals → list_any (λ x. nat_eq x s) totals ≡ true
    → h.lines ≡ joined rs → ((p : ℕ) → p < net.publishers → delivered_events s p h.lines ≡ expected net h s p (last_horizon s p 0 h.lines))
    → NonePassed s (begun net.publishers) rs
    → IsMergedOf net h s (heard_upto net h.lines s) (items_told s (ordered_steps (map (fresh_order net.publishers) totals) rs))
told_is_expected net h s totals rs apart here lines got none = record { each = λ i. (there i, back i); rises = m.rises }
  where
    n : ℕ
    n = net.publishers

    m : IsMerged (heard_in s (begun n) rs) (least_horizon (end s (begun n) rs).0) (items_told s (ordered_steps (map (fresh_order n) totals) rs))
    m = each_is_merged n s totals rs apart here

    least : least_horizon (end s (begun n) rs).0 ≡ heard_upto net h.lines s
    least = least_is s n rs none ∙ ap (λ ls. heard_upto net ls s) (sym lines)

    heard_got : heard_in s (begun n) rs ≡ got_items s h.lines
    heard_got = heard_is_got s (begun n) rs none ∙ ap (got_items s) (sym lines)

    there : (i : Item) → Contains (items_told s (ordered_steps (map (fresh_order n) totals) rs)) i → (i.publisher < n) × Contains (expected net h s i.publisher (heard_upto net h.lines s)) (i.tick, i.event)
    there i c =
        let a = (m.each i).0 c in
        let lt : i.publisher < n = heard_in_range s n rs i a.0 in
        let all : Contains (expected net h s i.publisher (last_horizon s i.publisher 0 h.lines)) (i.tick, i.event) =
        subst (λ (xs : List (ℕ × Event)). Contains xs (i.tick, i.event)) (got i.publisher lt) ((got_delivered s h.lines i).0 (subst (λ (xs : List Item). Contains xs i) heard_got a.0)) in (
          lt,
          (cut_off net h s i.publisher (heard_upto net h.lines s) (last_horizon s i.publisher 0 h.lines) (i.tick, i.event) (upto_each net h.lines s i.publisher lt)).1
              (all, (let low = a.1 in omega (arith, low, least))),
        )

    back : (i : Item) → (i.publisher < n) × Contains (expected net h s i.publisher (heard_upto net h.lines s)) (i.tick, i.event) → Contains (items_told s (ordered_steps (map (fresh_order n) totals) rs)) i
    back i c =
        let a = (cut_off net h s i.publisher (heard_upto net h.lines s) (last_horizon s i.publisher 0 h.lines) (i.tick, i.event) (upto_each net h.lines s i.publisher c.0)).0 c.1 in
        let all : Contains (got_items s h.lines) i = (got_delivered s h.lines i).1 (subst (λ (xs : List (ℕ × Event)). Contains xs (i.tick, i.event)) (sym (got i.publisher c.0)) a.0) in
        (m.each i).1 (subst (λ (xs : List Item). Contains xs i) (sym heard_got) all, (let low = a.1 in omega (arith, low, least)))
