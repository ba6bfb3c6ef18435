use Rattle.std.proofs.Common.{◌≡◌, length}
use Rattle.gr_filter.specs.Like.{after_character}
use Rattle.gr_filter.proofs.like.after_character.Given as goal

-- what is left goes on as the whole
abbrev pub invariant-bytes : goal.invariant-bytes
invariant-bytes l = after_character l.left ≡ after_character l.text

abbrev pub decreases-bytes : goal.decreases-bytes
decreases-bytes l = length l.left
