use Rattle.std.proofs.Common.{◌≡◌, ◌++◌, OnOk, sym, subst}
use Rattle.gr_journal.specs.Lines.{arrival_text}
use Rattle.gr_journal.specs.declared.arrival.Arrival.{Arrival}
use Rattle.gr_journal.proofs.spelling.push_arrival.Goals as goal

-- What is said of any topology holds of this one.

pub returns-in-Quiet : goal.returns-in-Quiet
returns-in-Quiet c =
    subst (λ (a : Arrival). OnOk c.push_quiet.result (c.push_quiet.new.text ≡ c.args.text.now ++ arrival_text c.args.topo.now a)) (sym c.in-Quiet.is)
    (c.push_quiet.ensures c.args.topo.now)
