-- From bytes to a topology: the document, its draft, and the brokers that a draft names
use Rattle.std.proofs.Common.{◌≡◌, ℕ, Bool, true, false, List, Option, Some, None, Err, refl, ap}
use Rattle.std.specs.Prelude.{IsUtf8, codes, if◌then◌else◌}
use Rattle.std.specs.Str.{is_utf8}
use Rattle.std.proofs.lemmas.Str.{is_utf8-from_IsUtf8, IsUtf8-from_is_utf8}
use Rattle.toml.specs.Data.{Members}
use Rattle.toml.specs.Parse.{parse_document}
use Rattle.gr_topo.specs.declared.fault.TopoFault.TheVariants.{NotToml, Missing}
use Rattle.gr_topo.specs.Draft.{DraftLists}
use Rattle.gr_topo.specs.Gives.{◌>>=◌}
use Rattle.gr_topo.specs.Shape.{required}
use Rattle.gr_topo.specs.Read.{resolved_in, topology_of, draft_topology, table_topology, document, document_topology}

-- what a draft says of its brokers by itself is read no more, once they are known
pub without_brokers : (bs : List (List ℕ)) (d : DraftLists) (o : Option (List (List ℕ))) → topology_of bs (record d { brokers = o }) ≡ topology_of bs d
unfolding topology_of resolved_in
without_brokers bs d o = refl

pub named : (d : DraftLists) (bs : List (List ℕ)) → d.brokers ≡ Some bs → draft_topology d ≡ topology_of bs d
unfolding draft_topology
named d bs e = ap (λ o. required (codes "brokers") o >>= λ b. topology_of b d) e

pub unnamed : (d : DraftLists) → d.brokers ≡ None → draft_topology d ≡ Err (Missing (codes "brokers"))
unfolding draft_topology
unnamed d e = ap (λ o. required (codes "brokers") o >>= λ b. topology_of b d) e

pub is_document : (bytes : List ℕ) (root : Members) → IsUtf8 bytes → parse_document bytes ≡ Some root → document_topology (document bytes) ≡ table_topology root
is_document bytes root u e = rw (is_utf8-from_IsUtf8 bytes u, e) refl

not_read : (b : Bool) (bytes : List ℕ) → is_utf8 bytes ≡ b → (IsUtf8 bytes → parse_document bytes ≡ None) → document_topology (if b then parse_document bytes else None) ≡ Err NotToml
not_read true bytes e h = ap document_topology (h (IsUtf8-from_is_utf8 bytes e))
not_read false bytes e h = refl

pub no_document : (bytes : List ℕ) → (IsUtf8 bytes → parse_document bytes ≡ None) → document_topology (document bytes) ≡ Err NotToml
no_document bytes h = not_read (is_utf8 bytes) bytes refl h
