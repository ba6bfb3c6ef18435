use Rattle.std.proofs.Common.{◌≡◌, cond, ap, ◌∙◌, subst}
use Rattle.std.proofs.lemmas.Result.{IfOk-weaker}
use Rattle.gr_tick.specs.Kept.{Kept}
use Rattle.gr_tick.specs.Stored.{within}
use Rattle.gr_know.specs.Values.{known_at, join_K}
use Rattle.gr_know.specs.declared.values.K.{K}
use Rattle.gr_know.specs.declared.values.K.TheVariants.{Q}
use Rattle.gr_know.proofs.Walks.{joined_at}
use Rattle.gr_know.proofs.knowledge.Know.piece_with.Goals as goal

pub returns : goal.returns
returns c = IfOk-weaker c.piece-2.result _ _
    (λ joined given. record {
      canonical = given.canonical;
      in_range = given.in_range;
      values = λ t.
          subst (λ (kept : Kept K). known_at joined t ≡ cond (within c.args.first c.args.last t) (join_K (known_at kept.runs t) (known_at c.args.piece.now t)) Q) c.self.view_is
          (joined_at (within c.args.first c.args.last t) (known_at c.self.inside.stream.runs t) (known_at c.args.piece.now t) _ _ _ (known_at joined t)
          (c.in_ok-known.ensures.values t)
          (c.in_ok-join_piece.ensures.joined.values t ∙ ap (λ rs. join_K (known_at rs t) (known_at c.in_ok-known.known t)) c.new-joined.ensures.runs)
          (c.in_ok-join_piece-2.ensures.joined.values t) (given.values t));
    })
    c.piece-2.ensures
