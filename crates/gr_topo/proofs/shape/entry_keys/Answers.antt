use Rattle.std.proofs.Common.{◌∙◌, sym, string_bytes}
use Rattle.std.specs.Map.Iter.{deref_pair}
use Rattle.std.proofs.lemmas.Map.Iter.{rest_more, rest_all}
use Rattle.toml.specs.View.{view}
use Rattle.gr_topo.specs.Shape.{entry_key}
use Rattle.gr_topo.proofs.Faults.{fails_as}
use Rattle.gr_topo.proofs.Walked.{members_more, members_refused, members_end}
use Rattle.gr_topo.proofs.shape.entry_keys.Goals as goal

pub loop-name-preserved : goal.loop-name-preserved
loop-name-preserved c =
    let here = rest_more deref_pair c.loop-name.name-iterator c.next.new.self c.next.result (c.in-Some.name, c.in-Some.value) c.in-Some.is c.next.ensures.steps in
    let read = rw c.as_str.ensures.value at c.in-Ok.ensures in
    let step = members_more (entry_key c.args.filters) c.loop-name.found c.in-Ok.next c.loop-name.name-iterator c.next.new.self c.in-Some.name.now c.in-Some.value.now here read in
    (tt, tt, sym step ∙ c.loop-name.invariant.2)

pub returns-in-Err : goal.returns-in-Err
returns-in-Err c =
    let here = rest_more deref_pair c.loop-name.name-iterator c.next.new.self c.next.result (c.in-Some.name, c.in-Some.value) c.in-Some.is c.next.ensures.steps in
    let read = rw c.as_str.ensures.value at c.in-Err.ensures in
    fails_as c.in-Err.fault ((entry_key c.args.filters) c.loop-name.found (string_bytes c.in-Some.name.now, view c.in-Some.value.now)) _
    (λ x e. sym c.loop-name.invariant.2 ∙ members_refused (entry_key c.args.filters) c.loop-name.found x c.loop-name.name-iterator c.next.new.self c.in-Some.name.now c.in-Some.value.now here e) read

pub returns : goal.returns
returns c =
    let all = rest_all deref_pair c.loop-name.name-iterator c.next.new.self c.next.result c.in-None.is c.next.ensures.steps in
    sym c.loop-name.invariant.2 ∙ members_end (entry_key c.args.filters) c.loop-name.found c.loop-name.name-iterator all
