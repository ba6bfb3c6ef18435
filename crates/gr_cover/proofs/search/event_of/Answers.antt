-- What is spelled are the bytes of an event, and those decode to it
use Rattle.std.proofs.Common.{◌≡◌, ◌∷◌, [], ◌++◌, length, Ok, ap, sym, ◌∙◌}
use Rattle.std.specs.Prelude.{Result}
use Rattle.gr_event.specs.declared.event.Event.{Event}
use Rattle.gr_event.specs.declared.event.EventFault.{EventFault}
use Rattle.gr_event.specs.Event.{pairs_bytes}
use Rattle.gr_event.specs.Decode.{event_decoded}
use Rattle.gr_event.proofs.Spelled.{decodes_back}
use Rattle.gr_cover.proofs.search.event_of.Goals as goal

ok_same : (x y : Event) → ◌≡◌ {A = Result Event EventFault} (Ok x) (Ok y) → x ≡ y
ok_same x y h = cc

pub returns-in-Ok : goal.returns-in-Ok
returns-in-Ok c =
    let pairs = c.args.pairs.now in
    let count = c.in_ok-push.ensures.items ∙ ap (λ b. b ++ length pairs ∷ []) c.new-bytes.ensures.items in
    let bytes = c.deref.ensures.value ∙ (c.in_ok-put_pairs.ensures ∙ ap (λ b. b ++ pairs_bytes pairs) count) in
    ok_same c.in-Ok.event pairs (sym c.in-Ok.ensures.gives ∙ (ap event_decoded bytes ∙ decodes_back pairs c.requires))
