-- The values of the first name are tried in turn, and those that are left decide
use Rattle.std.proofs.Common.{rules, sym, ◌∙◌, arith}
use Rattle.gr_filter.specs.Tree.{tree_of}
use Rattle.gr_cover.specs.Candidates.{events_from}
use Rattle.gr_cover.specs.Answer.{differs}
use Rattle.gr_cover.proofs.Searching.{split, without, found_without, none_without, events_next, found_next, none_next, none_left}
use Rattle.gr_cover.proofs.search.+first_from.Goals as goal

pub first_from-requires : goal.first_from-requires
first_from-requires t c = (
  search rules,
  without c.args.pairs.now c.args.attributes.now c.first-item.result _ (split c.args.attributes.now c.first-item.result (omega arith) c.first-item.is) c.requires,
)

pub returns-then-is_some : goal.returns-then-is_some
returns-then-is_some t c =
    found_without (differs (tree_of c.args.wide.now) (tree_of c.args.narrow.now)) c.args.pairs.now c.args.attributes.now c.first-item.result _ c.in_ok-found-in-len1-up.found
    (split c.args.attributes.now c.first-item.result (omega arith) c.first-item.is) (sym c.is_some.ensures ∙ c.if-is_some.true) c.in_ok-found-in-len1-up.ensures

pub values-init : goal.values-init
values-init t c =
    none_without (differs (tree_of c.args.wide.now) (tree_of c.args.narrow.now)) c.args.pairs.now c.args.attributes.now c.first-item.result _ c.as_slice-value-items.result.now c.in_ok-found-in-len1-up.found
    (split c.args.attributes.now c.first-item.result (omega arith) c.first-item.is) c.as_slice-value-items.ensures (sym c.is_some.ensures ∙ c.if-is_some.false) c.in_ok-found-in-len1-up.ensures c.requires

pub first_from-requires-in-values : goal.first_from-requires-in-values
first_from-requires-in-values t c = (
  search rules,
  events_next (differs (tree_of c.args.wide.now) (tree_of c.args.narrow.now)) c.args.pairs.now c.first-item.result.name _ c.as_slice-value-items.result.now (events_from c.args.pairs.now c.args.attributes.now)
      c.values.value-index c.value-item.result c.deref.result.now (omega arith) c.value-item.is (c.deref.ensures.value ∙ c.in_ok-longer-in-len1-up.ensures) c.values.invariant,
)

pub returns-then-is_some-2 : goal.returns-then-is_some-2
returns-then-is_some-2 t c =
    found_next (differs (tree_of c.args.wide.now) (tree_of c.args.narrow.now)) c.args.pairs.now c.first-item.result.name _ c.as_slice-value-items.result.now (events_from c.args.pairs.now c.args.attributes.now)
    c.values.value-index c.value-item.result c.deref.result.now c.in_ok-found-in-len1-up-2.found (omega arith) c.value-item.is (c.deref.ensures.value ∙ c.in_ok-longer-in-len1-up.ensures)
    (sym c.is_some-in-values.ensures ∙ c.if-is_some-2.true) c.in_ok-found-in-len1-up-2.ensures c.values.invariant

pub values-preserved : goal.values-preserved
values-preserved t c =
    none_next (differs (tree_of c.args.wide.now) (tree_of c.args.narrow.now)) c.args.pairs.now c.first-item.result.name _ c.as_slice-value-items.result.now (events_from c.args.pairs.now c.args.attributes.now)
    c.values.value-index c.value-item.result c.deref.result.now c.in_ok-found-in-len1-up-2.found (omega arith) c.value-item.is (c.deref.ensures.value ∙ c.in_ok-longer-in-len1-up.ensures)
    (sym c.is_some-in-values.ensures ∙ c.if-is_some-2.false) c.in_ok-found-in-len1-up-2.ensures c.values.invariant

pub returns-after-values : goal.returns-after-values
returns-after-values t c =
    none_left (differs (tree_of c.args.wide.now) (tree_of c.args.narrow.now)) c.args.pairs.now c.first-item.result.name _ c.as_slice-value-items.result.now (events_from c.args.pairs.now c.args.attributes.now)
    c.values.value-index (omega arith) c.values.invariant
