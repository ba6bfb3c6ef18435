-- The token of what is left behind the spaces
use Rattle.gr_filter.proofs.Parsing.{lexeme_is}
use Rattle.gr_filter.proofs.token.next_token.Goals as goal

pub returns-clause-is : goal.returns-clause-is
returns-clause-is c = lexeme_is c.args.bytes.now c.args.at c.spaces.result c.token_of-token.result c.spaces.ensures.is c.token_of-token.ensures.is
