-- The topology of a soak is read, and its text is cut off at the separator: all by computing, since the text has no variable
use lib.Utf8.{encode}
use Rattle.std.proofs.Common.{◌≡◌, ℕ, List, ◌++◌, refl}
use Rattle.std.specs.Prelude.{Ok, codes}
use Rattle.std.specs.Fmt.{digits}
use Rattle.std.specs.Str.{is_utf8, chars}
use Rattle.toml.specs.Tables.{define, along_header, along_dots, at_key}
use Rattle.toml.specs.Parse.{line, lines, skip_bom, val, items, expression, key_equals, header_key, atom, after_element, parse_document}
use Rattle.toml_parser.specs.Lexical.{skip_ws, skip_from}
use Rattle.toml_parser.specs.Strings.{key_after, simple_key, quoted, one_line, body, special}
use Rattle.gr_filter.specs.Grammar.{literal_at, operand_at, tail_at, test_at, and_more, and_at, or_more, or_at, not_at, filter_text}
use Rattle.gr_filter.specs.Token.{word_token, number_token, token_of, lexeme}
use Rattle.gr_tree.specs.Walks.{is_tree, is_reached}
use Rattle.gr_sched.specs.Text.{pieces_of, before_separator, after_separator, joined}
use Rattle.gr_topo.specs.Gives.{walk}
use Rattle.gr_topo.specs.Checks.{settings_of}
use Rattle.gr_topo.specs.Shape.{entry_key, root_key}
use Rattle.gr_topo.specs.Read.{names_checked, resolved_in, topology_of, draft_topology, table_topology, topology_text as topology_read}
use Rattle.gr_soak.specs.Steps.{soak_topology, filter_at}
use Rattle.gr_soak.specs.Text.{topology_text, subscriber_text, word, name_text, leaf_text, sym_text, price_text}

-- the topology's text reads as the topology
pub topology_is : topology_read topology_text ≡ Ok soak_topology
unfolding soak_topology filter_at topology_read names_checked resolved_in topology_of draft_topology table_topology entry_key root_key settings_of walk is_tree is_reached literal_at operand_at tail_at test_at and_more and_at or_more or_at not_at filter_text word_token number_token token_of lexeme is_utf8 chars encode digits subscriber_text word name_text leaf_text sym_text price_text parse_document lines line skip_ws skip_from skip_bom val items expression key_equals header_key atom key_after simple_key quoted one_line body special after_element define along_header along_dots at_key
topology_is = refl

-- the topology stands before the separator
pub front_is : (rest : List ℕ) → before_separator (pieces_of (topology_text ++ (codes "---\n" ++ rest))) ≡ topology_text
unfolding digits subscriber_text word name_text leaf_text sym_text price_text
front_is rest = refl

-- and whatever follows stands behind it
pub back_is : (rest : List ℕ) → after_separator (pieces_of (topology_text ++ (codes "---\n" ++ rest))) ≡ joined (pieces_of rest)
unfolding digits subscriber_text word name_text leaf_text sym_text price_text
back_is rest = refl
