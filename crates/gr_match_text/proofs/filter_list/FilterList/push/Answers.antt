use Rattle.std.proofs.Common.{◌≡◌, ◌++◌, ◌∷◌, [], length, arith, refl}
use Rattle.std.proofs.lemmas.List.{length-map}
use Rattle.gr_filter.specs.Tree.{tree_of}
use Rattle.gr_match_text.specs.Keys.{key_texts}
use Rattle.gr_match_text.proofs.Filters.{how_many, key_more, lengths_more, filter_more}
use Rattle.gr_match_text.proofs.filter_list.FilterList.push.Goals as goal

pub add-requires : goal.add-requires
add-requires c =
    let t = c.self.inside in
    let count : length t.names.keys ≡ length c.args.self.now = how_many t.names.keys t.tree c.args.self.now (length t.names.keys) c.self.invariant c.self.view_is refl in
    omega (arith, count, c.self.invariant, length-map t.names.keys (λ k. k.items), c.requires.few)

pub invariant_of-self-2 : goal.invariant_of-self-2
invariant_of-self-2 c =
    let t = c.self.inside in
    let names : key_texts c.insert_full.new.self.keys ≡ key_texts t.names.keys ++ c.args.name.now ∷ [] = key_more t.names.keys c.reserve.new.self.keys c.insert_full.new.self.keys c.in_ok-copy.copy t.tree c.args.self.now c.args.name.now c.self.invariant c.self.view_is c.requires.new c.in_ok-copy.ensures.items c.reserve.ensures.keys c.in_ok-insert_full.ensures.keys in
    lengths_more (key_texts t.names.keys) (key_texts c.insert_full.new.self.keys) t.tree c.add.new.self c.args.name.now (tree_of c.args.filter.now) c.self.invariant names c.in_ok-add.ensures.ok

pub returns-clause-ok : goal.returns-clause-ok
returns-clause-ok c =
    let t = c.self.inside in
    let names : key_texts c.insert_full.new.self.keys ≡ key_texts t.names.keys ++ c.args.name.now ∷ [] = key_more t.names.keys c.reserve.new.self.keys c.insert_full.new.self.keys c.in_ok-copy.copy t.tree c.args.self.now c.args.name.now c.self.invariant c.self.view_is c.requires.new c.in_ok-copy.ensures.items c.reserve.ensures.keys c.in_ok-insert_full.ensures.keys in
    filter_more (key_texts t.names.keys) (key_texts c.insert_full.new.self.keys) t.tree c.add.new.self c.args.self.now c.args.name.now (tree_of c.args.filter.now) c.self.invariant c.self.view_is names c.in_ok-add.ensures.ok
