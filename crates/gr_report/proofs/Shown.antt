-- What is shown, line by line: a publisher's log by its numbers and how many events it has past its cut, and a line or
-- some lines more for each number in turn
use Rattle.std.proofs.Common.{◌≡◌, ℕ, ◌+◌, ◌-◌, ◌<◌, ◌≤◌, Bool, true, false, nat_lt, if◌then◌else◌, List, [], ◌∷◌, ◌++◌, length, map, flat_map, refl, sym, ap, ◌∙◌, arith, append_assoc}
use Rattle.std.proofs.lemmas.Bool.{lt-ltb, false≢true}
use Rattle.std.proofs.lemmas.List.{length-map}
use Rattle.gr_event.specs.declared.event.Event.{Event}
use Rattle.gr_publog.specs.State.{EventsRise, IsState}
use Rattle.gr_publog.specs.Views.{LogView}
use Rattle.gr_publog.specs.declared.record.Entry.{Entry}
use Rattle.gr_pubend.specs.Log.{past, pairs, said}
use Rattle.gr_model.specs.declared.report.Report.{Report}
use Rattle.gr_model.specs.declared.report.Report.TheVariants as line
use Rattle.gr_model.specs.Net.{numbers_from}
use Rattle.gr_model.specs.Broker.{Log}
use Rattle.gr_model.specs.World.{kept_events}
use Rattle.gr_report.proofs.Along.{numbers_left}

-- A log

-- lines of a log with the same numbers
pub same_line : (p : ℕ) {a b c d a' b' c' d' : ℕ} → a ≡ a' → b ≡ b' → c ≡ c' → d ≡ d' → line.LogOf p a b c d ≡ line.LogOf p a' b' c' d'
same_line p e1 e2 e3 e4 = cc

-- the events of a log are past its cut
all_past : (from n cut : ℕ) (es : List Entry) → cut ≤ from → EventsRise from n es → past cut (pairs es) ≡ pairs es
all_past from n cut [] le r = refl
all_past from n cut (e ∷ es) le r = go (nat_lt cut e.tick) (lt-ltb cut e.tick (omega (arith, le, r.0))) (all_past e.tick e.number cut es (omega (arith, le, r.0)) r.1.1)
  where
    go : (b : Bool) → b ≡ true → past cut (pairs es) ≡ pairs es → (if b then (e.tick, e.event) ∷ past cut (pairs es) else past cut (pairs es)) ≡ (e.tick, e.event) ∷ pairs es
    go true h same = ap (λ (xs : List (ℕ × Event)). (e.tick, e.event) ∷ xs) same
    go false h same = absurd (false≢true h)

-- so many events are kept
pub kept_is : (l : LogView) → IsState l.state → kept_events (said l) ≡ length l.state.events
kept_is l i =
    ap (λ (xs : List (ℕ × Event)). length xs) (all_past l.state.cut (l.state.last - length l.state.events) l.state.cut l.state.events (omega arith) i.rise)
    ∙ length-map l.state.events (λ (e : Entry). (e.tick, e.event))

-- the line with the numbers that a log holds, and how many events, is that of what is said of it
pub line_of_log : (p last settled cut kept : ℕ) (l : LogView) → IsState l.state → last ≡ l.state.last → settled ≡ l.state.settled → cut ≡ l.state.cut → kept ≡ length l.state.events
    → line.LogOf p last settled cut kept ≡ (let m : Log = said l in line.LogOf p m.last m.settled m.cut (kept_events m))
line_of_log p last settled cut kept l i e1 e2 e3 e4 = same_line p e1 e2 e3 (e4 ∙ sym (kept_is l i))

-- For each number in turn

-- a line more is told, and those of the numbers behind are left
pub mapped_next : (f : ℕ → Report) (xs : List Report) (i n : ℕ) → i < n
    → (xs ++ f i ∷ []) ++ map f (numbers_from (i + 1) (n - (i + 1))) ≡ xs ++ map f (numbers_from i (n - i))
mapped_next f xs i n h =
    append_assoc xs (f i ∷ []) (map f (numbers_from (i + 1) (n - (i + 1)))) ∙ sym (ap (λ ns. xs ++ map f ns) (numbers_left i n h))

-- some lines more are told, and those of the numbers behind are left
pub joined_next : (f : ℕ → List Report) (xs : List Report) (i n : ℕ) → i < n
    → (xs ++ f i) ++ flat_map f (numbers_from (i + 1) (n - (i + 1))) ≡ xs ++ flat_map f (numbers_from i (n - i))
joined_next f xs i n h =
    append_assoc xs (f i) (flat_map f (numbers_from (i + 1) (n - (i + 1)))) ∙ sym (ap (λ ns. xs ++ flat_map f ns) (numbers_left i n h))
