use Rattle.std.proofs.Common.{◌∙◌, ◌++◌, ◌∷◌, [], sym, ap, map, option_map}
use Rattle.std.specs.List.{zip}
use Rattle.std.specs.Slice.Iter.{iter_rest}
use Rattle.std.specs.Iterator.Adapters.{zip_first, zip_second}
use Rattle.std.proofs.lemmas.Slice.Zip.{Zip-more, either_empty_from_Zip}
use Rattle.std.proofs.lemmas.List.{map-append}
use Rattle.gr_filter.specs.Tree.{tree_of as filter_tree}
use Rattle.gr_topo.specs.Gives.{walk, one_more}
use Rattle.gr_topo.specs.Checks.{filter_beside}
use Rattle.gr_topo.proofs.Faults.{fails_as}
use Rattle.gr_topo.proofs.Walked.{pairs_more, pairs_refused, pairs_end, one_ok, one_err}
use Rattle.gr_topo.proofs.check.filters_in.Goals as goal

pub loop-name-preserved : goal.loop-name-preserved
loop-name-preserved c =
    let s = c.loop-name.name-iterator in
    let t = c.next.new.self in
    let here = Zip-more s t c.next.result (c.in-Some.name, c.in-Some.text) c.in-Some.is c.next.ensures.steps in
    let found = map (option_map filter_tree) c.loop-name.filters.items in
    let step = pairs_more (one_more filter_beside) found (found ++ option_map filter_tree c.in-Ok.filter ∷ []) (iter_rest (zip_first s)) (iter_rest (zip_first t)) (iter_rest (zip_second s)) (iter_rest (zip_second t)) c.in-Some.name.now c.in-Some.text.now here.0 here.1
    (one_ok filter_beside found (c.in-Some.name.now, c.in-Some.text.now) (option_map filter_tree c.in-Ok.filter) c.in-Ok.ensures) in
    let made = ap (map (option_map filter_tree)) c.in_ok-push-in-Ok.ensures.items ∙ map-append (option_map filter_tree) c.loop-name.filters.items (c.in-Ok.filter ∷ []) in
    ((tt, tt), tt, ap (λ l. walk (one_more filter_beside) l (zip (iter_rest (zip_first t)) (iter_rest (zip_second t)))) made ∙ sym step ∙ c.loop-name.invariant.2)

pub returns-in-Err : goal.returns-in-Err
returns-in-Err c =
    let s = c.loop-name.name-iterator in
    let t = c.next.new.self in
    let here = Zip-more s t c.next.result (c.in-Some.name, c.in-Some.text) c.in-Some.is c.next.ensures.steps in
    let found = map (option_map filter_tree) c.loop-name.filters.items in
    fails_as c.in-Err.fault (filter_beside (c.in-Some.name.now, c.in-Some.text.now)) _
    (λ x e. sym c.loop-name.invariant.2 ∙ pairs_refused (one_more filter_beside) found x (iter_rest (zip_first s)) (iter_rest (zip_first t)) (iter_rest (zip_second s)) (iter_rest (zip_second t)) c.in-Some.name.now c.in-Some.text.now here.0 here.1
    (one_err filter_beside found (c.in-Some.name.now, c.in-Some.text.now) x e))
    c.in-Err.ensures

pub returns : goal.returns
returns c =
    let s = c.loop-name.name-iterator in
    let t = c.next.new.self in
    let none = either_empty_from_Zip s t c.next.result c.in-None.is c.next.ensures.steps in
    sym c.loop-name.invariant.2 ∙ pairs_end (one_more filter_beside) (map (option_map filter_tree) c.loop-name.filters.items) (iter_rest (zip_first s)) (iter_rest (zip_second s)) none
