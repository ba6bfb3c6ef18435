-- What is seen of a frame without its body
use Rattle.std.specs.Prelude.{ℕ, ◌==◌, if◌then◌else◌}
use Rattle.gr_frame.specs.declared.Body.{Body}
use Rattle.gr_frame.specs.declared.Body.TheVariants as body
use Rattle.gr_frame.specs.declared.Frame.{Frame}
use Rattle.gr_frame.specs.declared.peek.Kind.{Kind}
use Rattle.gr_frame.specs.declared.peek.Kind.TheVariants.{Knowledge, Curiosity, Expect}
use Rattle.gr_frame.specs.declared.peek.Peek.{Peek}

-- what a body is
abbrev pub kind_of_body : Body → Kind
kind_of_body (body.Knowledge runs js) = Knowledge
kind_of_body (body.Curiosity runs) = Curiosity
kind_of_body (body.Expect tick) = Expect

-- and by the number that stands for it
abbrev pub kind_by_number : ℕ → Kind
kind_by_number n = if n == 1 then Knowledge else (if n == 2 then Curiosity else Expect)

-- what a frame carries, to whom and of which publisher
abbrev pub peeked : Frame → Peek
peeked f = record { kind = kind_of_body f.body; to = f.head.to; publisher = f.head.publisher }
