-- A `&` to a `Shared` holds a share of its token, or of the token that is borrowed for ever.
use denote.RattleType.{RattleType}
use denote.RawPtr.{block_of, count_of}
use denote.Param.Laws.{Laws}
use denote.Param.Shared.{copy_shared}
use denote.Struct.Field.{RawPtr-field}
use denote.Struct.Laws.{RawPtr-copy}
use denote.Struct.Lending.{lent_at, lent_at_shr_laws, of_Lends}
use Rattle.gr_gap.specs.contracts.owner.Owner as C
use Rattle.gr_gap.specs.Ownership.{counter, value_at, whole}
use Rattle.gr_gap.proofs.StickyLaws.{lends_shared, shared_shr_laws}
use Rattle.gr_gap.proofs.owner.Owner.TheLaw.Statement.{statement}

pub shares : (T : RattleType) (L : Laws T) → statement T L
shares T L = of_Lends (C.struct T) (C.the_codes T.Denot T.coded) (C.the_heap T) (C.the_lent T)
    (λ d p. shared_shr_laws 64 (block_of d.block, count_of d.block) (counter T d.block d.value) (whole T d.block d.value) (lent_at T (value_at T d.block d.value) d.value) (lent_at_shr_laws T L.shr_laws (value_at T d.block d.value) d.value))
    (copy_shared RawPtr-field RawPtr-copy, tt)
    (λ M 𝓤 𝓛 d p. lends_shared 64 (block_of d.block, count_of d.block) (counter T d.block d.value) (whole T d.block d.value) 𝓛 (lent_at T (value_at T d.block d.value) d.value) (lent_at_shr_laws T L.shr_laws (value_at T d.block d.value) d.value) (C.the_row T).lives)
