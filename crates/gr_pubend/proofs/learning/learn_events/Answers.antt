use Rattle.std.proofs.Common.{◌≡◌, ℕ, ◌<◌, ◌+◌, List, [], length, take, refl, sym, ap, ap₂, ◌∙◌, subst, arith}
use Rattle.gr_tick.specs.Kept.{Kept}
use Rattle.gr_tick.specs.Stored.{EndBefore}
use Rattle.gr_know.specs.declared.values.K.{K}
use Rattle.gr_know.specs.Values.{Known, known_at, join_K}
use Rattle.gr_publog.specs.declared.record.Entry.{Entry}
use Rattle.gr_pubend.specs.Log.{log_at}
use Rattle.gr_pubend.specs.Opening.{seen}
use Rattle.gr_pubend.proofs.Opening.{IsSeen, seen_none, seen_more, seen_gathered, seen_learned, nothing_gathered, none_ends, last_up, next_entry}
use Rattle.gr_pubend.proofs.learning.learn_events.Goals as goal
use Rattle.gr_pubend.proofs.learning.learn_events.Goals.{then-len-ge-GATHERED+in_ok-take_in, else-len-ge-GATHERED}

pub entries-init : goal.entries-init
entries-init c = record {
  stays = seen_none c.args.cut (omega (arith, c.requires.upto, last_up c.args.cut c.args.events.now c.requires.rise));
  says = nothing_gathered c.args.know.now.runs c.new-piece.result (seen c.args.cut []) c.new-piece.ensures c.requires.known;
  ends = none_ends c.new-piece.result (c.args.cut + 1) c.new-piece.ensures;
  rise = c.requires.rise;
  whole = refl;
}

pub put_event-requires-clause-upto : goal.put_event-requires-clause-upto
put_event-requires-clause-upto c =
    let i = c.entries.invariant in
    let lt : c.entries.i < length c.args.events.now = omega arith in
    let n = next_entry c.entries.last c.args.cut c.entries.i c.args.events.now c.get-entry.result.now lt c.get-entry.ensures i.rise i.whole in
    omega (arith, n.within, c.requires.upto)

pub entries-preserved : goal.entries-preserved
entries-preserved c =
    let i = c.entries.invariant in
    let e = c.get-entry.result.now in
    let lt : c.entries.i < length c.args.events.now = omega arith in
    let n = next_entry c.entries.last c.args.cut c.entries.i c.args.events.now e lt c.get-entry.ensures i.rise i.whole in
    let says : (t : ℕ) → join_K (known_at c.entries.know.runs t) (known_at c.put_event.new.piece t) ≡ log_at (seen c.args.cut (take (c.entries.i + 1) c.args.events.now)) t =
    λ t.
    seen_gathered c.args.cut c.entries.last (take c.entries.i c.args.events.now) e c.entries.know.runs c.entries.piece c.put_event.new.piece i.stays i.says n.past c.in_ok-put_event.ensures.values t
    ∙ ap (λ (es : List Entry). log_at (seen c.args.cut es) t) (sym n.taken) in
    record {
      stays = subst (λ (es : List Entry). IsSeen c.args.cut e.tick es) (sym n.taken) (seen_more c.args.cut c.entries.last (take c.entries.i c.args.events.now) e i.stays n.past (omega (arith, n.within, c.requires.upto)));
      says = elim c.if-len-ge-GATHERED.branch [
        | then-len-ge-GATHERED+in_ok-take_in w ↦
            λ t.
            ap₂ (λ (k : Kept K) (p : Known). join_K (known_at k.runs t) (known_at p t)) w.know-is w.piece-is
            ∙ nothing_gathered w.take_in.new.know.runs w.new-piece-then-len-ge-GATHERED.result (seen c.args.cut (take (c.entries.i + 1) c.args.events.now)) w.new-piece-then-len-ge-GATHERED.ensures
            (seen_learned c.entries.know.runs c.put_event.new.piece w.take_in.new.know.runs (seen c.args.cut (take (c.entries.i + 1) c.args.events.now)) w.in_ok-take_in.ensures says) t
        | else-len-ge-GATHERED w ↦ λ t. ap₂ (λ (k : Kept K) (p : Known). join_K (known_at k.runs t) (known_at p t)) w.know-is w.piece-is ∙ says t
      ];
      ends = elim c.if-len-ge-GATHERED.branch [
        | then-len-ge-GATHERED+in_ok-take_in w ↦ none_ends c.if-len-ge-GATHERED.piece (e.tick + 1) (w.piece-is ∙ w.new-piece-then-len-ge-GATHERED.ensures)
        | else-len-ge-GATHERED w ↦ subst (λ (p : Known). EndBefore p (e.tick + 1)) (sym w.piece-is) c.in_ok-put_event.ensures.past
      ];
      rise = n.rise;
      whole = n.whole;
    }
