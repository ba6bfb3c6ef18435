use Rattle.gr_tests_texts.proofs.Links.{all_within}
use Rattle.gr_tests_texts.proofs.trees.put_places.Goals as goal

-- src/trees.rt: the links join nodes, since that was tested
pub places-requires-clause-links : goal.places-requires-clause-links
places-requires-clause-links c = all_within c.args.nodes c.args.links.now cc
