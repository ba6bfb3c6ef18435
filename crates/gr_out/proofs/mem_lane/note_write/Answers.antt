-- What is kept of a write says the same of what was synced, and of each byte that is written that it is fresh
use Rattle.std.proofs.Common.{◌≡◌, ℕ, ◌-◌, ◌++◌, true, [], length, take, drop, replicate, ap, sym, ◌∙◌, arith, rules}
use Rattle.std.proofs.lemmas.List.{nil_from_length}
use Rattle.gr_out.specs.Lane.{over}
use Rattle.gr_out.specs.Kept.{fresh_of}
use Rattle.gr_out.proofs.Lanes.{synced_of_first, fresh_of_first, synced_of_next, fresh_of_next}
use Rattle.gr_out.proofs.mem_lane.note_write.Goals as goal

pub returns-then-is_empty-2-clause-synced : goal.returns-then-is_empty-2-clause-synced
returns-then-is_empty-2-clause-synced c new e =
    let none : c.args.synced.now.items ≡ [] = nil_from_length _ (search rules) in
    let unmarked : c.args.fresh.now.items ≡ [] = nil_from_length _ (search rules) in
    let long : length c.resize.new.self.items ≡ length new = search rules in
    synced_of_first c.args.first c.args.at c.args.bytes.now new _ _ _ _ none unmarked c.requires.place
    (c.keep_overwritten.ensures.items ∙ ap (λ (k : ℕ). c.args.synced.now.items ++ take k (drop c.args.at c.args.bytes.now)) (sym e)) long

pub returns-then-is_empty-2-clause-fresh : goal.returns-then-is_empty-2-clause-fresh
returns-then-is_empty-2-clause-fresh c new e =
    let unmarked : c.args.fresh.now.items ≡ [] = nil_from_length _ (search rules) in
    let marks : c.resize.new.self.items ≡ replicate c.args.len true = search rules in
    fresh_of_first c.args.first c.args.at c.args.bytes.now new _ _ unmarked (omega (arith, c.requires.within)) c.requires.place (marks ∙ ap (λ (k : ℕ). replicate k true) (sym e))
    ∙ ap (λ (k : ℕ). over c.args.at (replicate k true) (fresh_of c.args.bytes.now c.args.fresh.now.items c.args.first)) e

pub returns-clause-synced : goal.returns-clause-synced
returns-clause-synced c new e =
    let k = c.keep_from-first.ensures in
    synced_of_next c.keep_from-first.result c.args.at _ _ _ _ c.args.bytes.now new (omega (arith, k.first)) c.requires.place k.marked
    (c.mark.ensures.items ∙ ap (λ (n : ℕ). over (c.args.at - c.keep_from-first.result) (replicate n true) c.keep_from-first.new.fresh.items) (sym e)) k.synced

pub returns-clause-fresh : goal.returns-clause-fresh
returns-clause-fresh c new e =
    let k = c.keep_from-first.ensures in
    fresh_of_next c.keep_from-first.result c.args.at _ _ _ c.args.bytes.now new (omega (arith, k.first)) c.requires.place k.marked
    (c.mark.ensures.items ∙ ap (λ (n : ℕ). over (c.args.at - c.keep_from-first.result) (replicate n true) c.keep_from-first.new.fresh.items) (sym e)) k.fresh
    ∙ ap (λ (n : ℕ). over c.args.at (replicate n true) (fresh_of c.args.bytes.now c.args.fresh.now.items c.args.first)) e
