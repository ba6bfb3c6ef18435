-- The bytes read as a value, or as none
use Rattle.std.proofs.Common.{rules, subst, Result}
use Rattle.serde_json.specs.View.{view}
use Rattle.serde_json.specs.Errors.{IsMemory}
use Rattle.gr_event.specs.Gives.{Gives}
use Rattle.gr_event.specs.declared.event.Event.{Event}
use Rattle.gr_event.specs.declared.event.EventFault.{EventFault}
use Rattle.gr_event.proofs.Reading.{read_as, unread}
use Rattle.gr_event.proofs.event.Event.from_text.Goals as goal

pub returns-in-Ok : goal.returns-in-Ok
returns-in-Ok c =
    let same = read_as c.args.bytes.now (view c.in-Ok.value) c.in-Ok.ensures.ok.0 c.in-Ok.ensures.ok.1 in
    subst (λ (r : Result Event EventFault). Gives c.from_json.result r) same c.from_json.ensures

pub returns-else-is_memory : goal.returns-else-is_memory
returns-else-is_memory c =
    let other : IsMemory c.in-Err.error → ⊥ = search rules in
    unread c.args.bytes.now (c.in-Err.ensures.err other)
