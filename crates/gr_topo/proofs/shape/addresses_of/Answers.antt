use Rattle.std.proofs.Common.{◌∙◌, ◌≡◌, ◌++◌, ◌∷◌, [], sym, ap, string_bytes}
use Rattle.std.specs.Map.Iter.{deref_pair}
use Rattle.std.proofs.lemmas.Map.Iter.{rest_more, rest_all}
use Rattle.toml.specs.View.{view}
use Rattle.gr_topo.specs.Gives.{walk}
use Rattle.gr_topo.specs.Seen.{seen_members}
use Rattle.gr_topo.specs.Draft.{AddressLists, with_address}
use Rattle.gr_topo.specs.Shape.{text_in, one_address}
use Rattle.gr_topo.proofs.Faults.{fails_as}
use Rattle.gr_topo.proofs.Walked.{members_more, members_refused, members_end, one_address_ok, one_address_err, address_pushed}
use Rattle.gr_topo.proofs.shape.addresses_of.Goals as goal

pub loop-name-preserved : goal.loop-name-preserved
loop-name-preserved c =
    let found : AddressLists = record { names = c.loop-name.names.items; texts = c.loop-name.texts.items } in
    let here = rest_more deref_pair c.loop-name.name-iterator c.next.new.self c.next.result (c.in-Some.name, c.in-Some.value) c.in-Some.is c.next.ensures.steps in
    let read = rw c.as_str.ensures.value at c.in-Ok.ensures in
    let step = members_more one_address found (with_address found (string_bytes c.in-Some.name.now) c.in-Ok.text) c.loop-name.name-iterator c.next.new.self c.in-Some.name.now c.in-Some.value.now here
    (one_address_ok found (string_bytes c.in-Some.name.now) (view c.in-Some.value.now) c.in-Ok.text read) in
    let name : c.in_ok-from_slice-in-Ok.field-0 ≡ string_bytes c.in-Some.name.now = c.in_ok-from_slice-in-Ok.ensures ∙ c.as_bytes.ensures.value ∙ c.as_str-in-Ok.ensures.value in
    let made = address_pushed c.loop-name.names.items c.loop-name.texts.items (string_bytes c.in-Some.name.now) c.in-Ok.text c.push.new.self.items c.push-in-Ok.new.self.items
    (c.in_ok-push-in-Ok.ensures.items ∙ ap (λ n. c.loop-name.names.items ++ n ∷ []) name) c.in_ok-push-in-Ok-2.ensures.items in
    (tt, tt, ap (λ l. walk one_address l (seen_members c.next.new.self)) made ∙ sym step ∙ c.loop-name.invariant.2)

pub returns-in-Err : goal.returns-in-Err
returns-in-Err c =
    let found : AddressLists = record { names = c.loop-name.names.items; texts = c.loop-name.texts.items } in
    let here = rest_more deref_pair c.loop-name.name-iterator c.next.new.self c.next.result (c.in-Some.name, c.in-Some.value) c.in-Some.is c.next.ensures.steps in
    let read = rw c.as_str.ensures.value at c.in-Err.ensures in
    fails_as c.in-Err.fault (text_in (string_bytes c.in-Some.name.now) (view c.in-Some.value.now)) _
    (λ x e. sym c.loop-name.invariant.2 ∙ members_refused one_address found x c.loop-name.name-iterator c.next.new.self c.in-Some.name.now c.in-Some.value.now here (one_address_err found (string_bytes c.in-Some.name.now) (view c.in-Some.value.now) x e)) read

pub returns : goal.returns
returns c =
    let found : AddressLists = record { names = c.loop-name.names.items; texts = c.loop-name.texts.items } in
    let all = rest_all deref_pair c.loop-name.name-iterator c.next.new.self c.next.result c.in-None.is c.next.ensures.steps in
    sym c.loop-name.invariant.2 ∙ members_end one_address found c.loop-name.name-iterator all
