-- What a `Shared` owns, and what a `&` to one holds. p points to the block of a `Counted`: the count, and the value x
-- of the row R.
use Prim.Native.Nat.{ℕ}
use mathlib.Core.List.{[]}
use base.Fraction.{full_share}
use base.Fml.{Lft, Fml, ffalse, fsep, fleft}
use mir.Raw.{raw}
use mir.Syntax.{Ty, Tys, w64, ty_int, ty_struct, tcons, tnil}
use prog.Memory.{align, up}
use denote.RattleType.{RattleType}
use denote.Memory.{lone}
use denote.RawPtr.{Ptr, block_ptr, null_ptr, block_of, count_of, lies_at, ◌+ₚ◌}
use denote.Struct.Lending.{lent_at}
use denote.Builtin.{u64}
use Rattle.libc.specs.Heap.{chunk}
use Rattle.gr_gap.specs.Sticky as s

module _ (R : RattleType) where
  -- the type of `Counted`, as the machine sees it, and where its value lies: after the 8 bytes of the count
  abbrev pub counted_fields : Tys
  counted_fields = tcons (ty_int w64) (tcons (raw (lone R.mir)) tnil)

  abbrev pub counted_type : Ty
  counted_type = ty_struct [] counted_fields

  abbrev pub value_offset : ℕ
  value_offset = up (align (lone R.mir)) 8

  -- what the block has beside its fields
  abbrev pub beside_fields : Ptr → Fml
  beside_fields (block_ptr b o) = fleft full_share counted_type counted_fields b o
  beside_fields null_ptr = ffalse

module _ (R : RattleType) (p : Ptr) (x : R.Denot) where
  abbrev pub counter : ℕ → Fml
  counter n = lies_at u64 full_share (p +ₚ 0) n

  abbrev pub value_at : Ptr
  value_at = p +ₚ value_offset R

  -- the value, what the block has beside its fields, and what frees it
  abbrev pub whole : Fml
  whole = fsep (lies_at R full_share value_at x) (fsep (beside_fields R p) (chunk (counted_type R) p))

  abbrev pub shared_owns : Fml
  shared_owns = s.shared_owns 64 (block_of p, count_of p) counter whole (lent_at R value_at x)

  abbrev pub shared_shares : Lft → Fml
  shared_shares = s.shared_lends 64 (block_of p, count_of p) counter whole (lent_at R value_at x)
