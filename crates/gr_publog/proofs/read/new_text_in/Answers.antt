-- What a base stands for is in order
use Rattle.std.proofs.Common.{◌≡◌, ℕ, List, length, drop, Ok, refl, ap, sym, ◌∙◌}
use Rattle.std.proofs.lemmas.List.{take_rest}
use Rattle.gr_publog.specs.declared.read.Held.{Held}
use Rattle.gr_publog.specs.State.{held_by}
use Rattle.gr_publog.specs.Text.{base_in}
use Rattle.gr_publog.proofs.Beginning.{new_gives}
use Rattle.gr_publog.proofs.Kept.{begun_is}
use Rattle.gr_publog.proofs.Told.{base_told}
use Rattle.gr_publog.proofs.read.new_text_in.Goals as goal

pub new-requires : goal.new-requires
new-requires c =
    let b = base_told _ _ _ _ c.requires.late c.are_bytes.ensures c.in_ok-base.ensures.gives in
    rw (c.share.ensures, c.numbers.ensures) b.base.held

pub records_in-requires-clause-state : goal.records_in-requires-clause-state
records_in-requires-clause-state c =
    let b = base_told _ _ _ _ c.requires.late c.are_bytes.ensures c.in_ok-base.ensures.gives in
    rw (c.in_ok-footing.ensures, c.share.ensures, c.numbers.ensures) (begun_is _ _ b.base)

pub returns-clause-gives : goal.returns-clause-gives
returns-clause-gives c =
    let bytes = c.args.bytes.now in
    let read : base_in (length bytes) c.args.late.now (drop 6 bytes) ≡ Ok (c.in_ok-base.base, c.in_ok-base.left.now) = ap (λ (l : List ℕ). base_in (length bytes) c.args.late.now l) (sym (take_rest bytes 6)) ∙ c.in_ok-base.ensures.gives in
    new_gives (λ (x : Held). (held_by x.footing x.events, x.gate)) c.records_in.result c.args.late.now c.args.generation bytes c.in_ok-base.base c.in_ok-base.left.now c.in_ok-footing.footing read
    (rw (c.in_ok-footing.ensures, c.share.ensures, c.numbers.ensures) refl) c.records_in.ensures.gives
