-- What the walks of a counted owner share: its pointer as a machine value, the block's memory cut and joined again, and the heap's handle. Assumes `Logic`.
use mathlib.Core.Path.{◌≡◌, refl, sym, ap, ◌∙◌, subst}
use mathlib.Core.Bool.{Bool, true, false, ◌&&◌}
use Prim.Native.Nat.{ℕ, ◌+◌, ◌^◌}
use lib.Dec.{T}
use mathlib.Core.List.{List, [], ◌∷◌, ◌++◌}
use seplogic.Ra.Ura.{Ura}
use mir.Syntax.{Ty, impl, ty_ptr, ty_int, w64, ty_struct, tcons, tnil, dnil}
use mir.Val.{Val, vint, vcons, vnil, vstruct, of_list, has_ty, WT}
use mir.Raw.{raw}
use prog.Memory.{align, up}
use prog.RawLaws.{align-raw}
use base.Fraction.{full_share}
use base.Fml.{Fml, ftrue, fat}
use base.Logic.{ent, sep, emp}
use types.Logic.{Logic, sem}
use types.Kit.{Item, Goal, Seq, Step, step, ‵, ◌⊛◌, some, given, learn, ◌$◌, ◌∵◌, !, qed, by, move, keep, drop, use1, use2, pick, split, split3, group, frame, rewrite, fsplit, fjoin, fpick, fpack, feq_i, feq_l, flt_i, flt_l, done}
use types.Match.{live}
use denote.RattleType.{RattleType, Valss, owns}
use denote.RawPtr.{Ptr, RawPtr, block_ptr, ptr_val, lies_at, ◌+ₚ◌}
use denote.Builtin.{u64}
use denote.Laws.{Is}
use denote.Memory.{lone, part_at}
use denote.Param.{param, layout}
use denote.Param.Laws.{Laws}
use denote.Plain.{uint_in, uint_out}
use denote.Shadow.{makes_shadow}
use denote.Steps.{nothing, only, owned}
use denote.Struct.Struct.{Shape, Struct, within, as_fields}
use denote.Struct.Laws as LL
use denote.Enum.Enum.{in_a_row, form_of}
use denote.Enum.Row.{tagged_with}
use denote.Enum.Declared.{shape as enum_shape}
use borrow.Table.OneValue.{part_in, part_out}
use Rattle.core.proofs.alloc.Calls.{Al, handle_tells}
use Rattle.core.specs.contracts.option.Option as Opt
use Rattle.core.specs.declared.option.Option.TheVariants.{None, Some}
use Rattle.libc.proofs.Handle.{leave_is, leave_val}
use Rattle.std_heap.specs.contracts.Global as heap
use Rattle.std_heap.proofs.Global.TheLaws as heap_laws
use Rattle.std_heap.proofs.Handle.{handle, heap_val}
use Rattle.gr_gap.specs.Ownership.{counted_fields, counted_type, value_offset, beside_fields}
use Rattle.gr_gap.proofs.Words.{Ptr-Good}
use Rattle.gr_gap.specs.contracts.owner.Counted as counted
use Rattle.gr_gap.specs.contracts.owner.Owner as owner

module _ (R : RattleType) where
  abbrev pub pointers : Shape
  pointers = record { name = (owner.the_type R).name; args = []; types = R ∷ []; fields = RawPtr ∷ [] }

  abbrev pub Word : RattleType
  Word = Struct pointers

  abbrev pub word_ty : Ty
  word_ty = ty_struct (owner.the_type R).name (tcons ty_ptr tnil)

  module _ (p : Ptr) where
    abbrev pub word : Val
    word = vstruct (vcons (ptr_val p) vnil)

    pub word-Good : T (has_ty word_ty word) × WT word
    word-Good = as_fields (ty_ptr ∷ []) (ptr_val p ∷ []) (Ptr-Good p, tt)

    module _ {M : Type 1} {𝓤 : Ura M} {𝓛 : Logic 𝓤} {K : Type 0} {Γ : List (Item 𝓤)} {G : Goal 𝓤 𝓛.H} where
      pub word_made : K → Step K 𝓛 (‵ (Word.own_val (p, tt) (word ∷ [])) ∷ Γ) G Γ G
      word_made k = step (λ next. nothing k $ feq_i k (List Val) (ptr_val p ∷ []) (ptr_val p ∷ []) refl $ fjoin k $
          feq_i k (List Val) (word ∷ []) (word ∷ []) refl $ fjoin k $ fpack k (Valss (RawPtr ∷ [])) (within pointers (p, tt) (word ∷ [])) (ptr_val p ∷ [], tt) $ next)

      pub word_had : K → (vs : List Val) → (vs ≡ word ∷ [] → Seq K 𝓛 Γ G) → Seq K 𝓛 (‵ (Word.own_val (p, tt) vs) ∷ Γ) G
      word_had k vs next = fpick k (λ vss. fsplit k $ feq_l k (λ ev. fsplit k $ feq_l k (λ e. drop k $ next (subst (λ (ws : List Val). vs ≡ vstruct (of_list (ws ++ [])) ∷ []) e ev))))

-- the block lies as its count, its value, and what it has beside them
module _ (Y : RattleType) (L : Laws Y) where
  abbrev R : RattleType
  R = param 0 Y

  abbrev pub Block : RattleType
  Block = counted.the_row R

  abbrev τ : Ty
  τ = counted_type R

  abbrev fields : Shape
  fields = record { name = []; args = []; types = []; fields = u64 ∷ R ∷ [] }

  abbrev block : ℕ → Val → Val
  block n w = vstruct (vcons (vint w64 n) (vcons w vnil))

  abbrev teller : Al
  teller = record { row = Y; laws = L; g = record { dealloc_token = λ a σ p. ftrue }; d = impl [] tnil dnil; drops = impl [] tnil dnil }

  module _ {M : Type 1} {𝓤 : Ura M} (𝓛 : Logic 𝓤) (b o : ℕ) (d : Block.Denot) where
    open 𝓛 use {H}

    abbrev at : ℕ
    at = o + value_offset R

    abbrev Count : Fml
    Count = lies_at u64 full_share (block_ptr b o +ₚ 0) d.count

    abbrev Value : Fml
    Value = lies_at R full_share (block_ptr b o +ₚ value_offset R) d.value

    abbrev Beside : Fml
    Beside = beside_fields R (block_ptr b o)

    pub apart : ent 𝓤 (sem 𝓛 (lies_at Block full_share (block_ptr b o) d)) (sep 𝓤 (sem 𝓛 Count) (sep 𝓤 (sem 𝓛 Value) (sem 𝓛 Beside)))
    apart =
        qed 𝓛 (‵ (part_at Block full_share d b o) ∷ []) ∵
        use1 𝓛 (some (λ (v : Val). ‵ (fat full_share (lone Block.mir) b o v) ⊛ ‵ (Block.own_val d (v ∷ [])))) (part_out 𝓛 Block refl full_share d b o) $ pick ! (λ v. split ! $
        use1 𝓛 (‵ (fat full_share τ b o v)) (𝓛.laws.at_raw full_share (lone Block.mir) b o v) $ move ! (1 ∷ []) $
        fpick ! (λ vss. fsplit ! $ feq_l ! (λ ev. fsplit ! $ fsplit ! $ feq_l ! (λ e0. flt_l ! (λ fits. fsplit ! $ handle_tells teller ! d.value vss.1.0 (λ w e1 good.
        let v_is : v ≡ block d.count w = ap only (ev ∙ (λ i. vstruct (of_list (e0 i ++ (e1 i ++ []))) ∷ [])) in
        -- [what the value owns; nothing; the cell]
        move ! (2 ∷ []) $ rewrite ! 0 (λ (u : Val). ‵ (fat full_share τ b o u)) v_is refl $
        use1 𝓛 ((‵ (fat full_share (ty_int w64) b (o + 0) (vint w64 d.count)) ⊛ ‵ (fat full_share (raw (layout Y)) b (o + up (align (raw (layout Y))) 8) w) ⊛ ‵ ftrue) ⊛ ‵ Beside) (𝓛.laws.struct_apart full_share [] (counted_fields R) b o (vcons (vint w64 d.count) (vcons w vnil))) $
        split ! $ split3 ! $ use1 𝓛 (‵ Count) (uint_in 𝓛 full_share w64 d.count b (o + 0)) $ frame ! $
        -- [the value's cell; nothing; what is beside; what the value owns; nothing]
        rewrite ! 0 (λ (a : ℕ). ‵ (fat full_share (raw (layout Y)) b (o + up a 8) w)) (align-raw (layout Y)) refl $ use1 𝓛 (‵ (fat full_share (layout Y) b at w)) (𝓛.laws.raw_at full_share (layout Y) b at w) $
        move ! (0 ∷ 3 ∷ []) $ use2 𝓛 (‵ (part_at R full_share d.value b at)) (part_in 𝓛 R refl full_share d.value b at w) $ frame ! $ keep ! (1 ∷ []) $ done !))))))

    pub together : ent 𝓤 (sep 𝓤 (sem 𝓛 Count) (sep 𝓤 (sem 𝓛 Value) (sem 𝓛 Beside))) (sem 𝓛 (lies_at Block full_share (block_ptr b o) d))
    together =
        qed 𝓛 (‵ Count ∷ ‵ Value ∷ ‵ Beside ∷ []) ∵
        use1 𝓛 (‵ (fat full_share (ty_int w64) b (o + 0) (vint w64 d.count))) (uint_out 𝓛 full_share w64 d.count b (o + 0)) $
        use1 𝓛 (given (T (has_ty (ty_int w64) (vint w64 d.count)) × WT (vint w64 d.count)) (‵ (fat full_share (ty_int w64) b (o + 0) (vint w64 d.count)))) (𝓛.laws.at_wt full_share (ty_int w64) b (o + 0) (vint w64 d.count)) $ learn ! (λ ok.
        move ! (1 ∷ []) $ use1 𝓛 (some (λ (w : Val). ‵ (fat full_share (layout Y) b at w) ⊛ ‵ (R.own_val d.value (w ∷ [])))) (part_out 𝓛 R refl full_share d.value b at) $ pick ! (λ w. split ! $
        -- [the value's cell; what the value owns; the count; what is beside]
        use1 𝓛 (‵ (fat full_share (raw (layout Y)) b at w)) (𝓛.laws.at_raw full_share (layout Y) b at w) $ rewrite ! 0 (λ (a : ℕ). ‵ (fat full_share (raw (layout Y)) b (o + up a 8) w)) (sym (align-raw (layout Y))) refl $
        nothing ! $ move ! (4 ∷ 3 ∷ 1 ∷ 0 ∷ []) $ group ! 4 $
        use1 𝓛 (‵ (fat full_share τ b o (block d.count w))) (𝓛.laws.struct_back full_share [] (counted_fields R) b o (vcons (vint w64 d.count) (vcons w vnil))) $
        nothing ! $ move ! (2 ∷ 0 ∷ []) $ fjoin ! $ flt_i ! d.count (2 ^ 64) ok.1.fits $ feq_i ! (List Val) (vint w64 d.count ∷ []) (vint w64 d.count ∷ []) refl $ fjoin ! $ fjoin ! $
        feq_i ! (List Val) (block d.count w ∷ []) (block d.count w ∷ []) refl $ fjoin ! $
        fpack ! (Valss (u64 ∷ R ∷ [])) (within fields (d.count, (d.value, tt)) (block d.count w ∷ [])) (vint w64 d.count ∷ [], (w ∷ [], tt)) $
        move ! (1 ∷ []) $ use1 𝓛 (‵ (fat full_share (lone Block.mir) b o (block d.count w))) (𝓛.laws.raw_at full_share (lone Block.mir) b o (block d.count w)) $ by ! (part_in 𝓛 Block refl full_share d b o (block d.count w))))

-- the heap's handle owns nothing, and is one machine value
pub heap_is : Is heap.the_row handle (heap_val ∷ [])
heap_is = ((leave_val ∷ [], tt), (refl, (leave_is, tt)))

pub heap_own : {M : Type 1} {𝓤 : Ura M} (𝓛 : Logic 𝓤) → ent 𝓤 (emp 𝓤) (sem 𝓛 (heap.the_row.own_val handle (heap_val ∷ [])))
heap_own 𝓛 = qed 𝓛 [] ∵ owned ! heap.the_row (Is heap.the_row) (LL.makes heap.the_type heap_laws.the_plain 𝓛) handle (heap_val ∷ []) heap_is $ done !

pub heap_Good : T (has_ty heap_laws.mir heap_val) × WT heap_val
heap_Good = (tt, ((tt, tt), tt))

-- an `Option` is made
pub also_tt : (y : Bool) → T y → T (y && true)
also_tt true h = tt
also_tt false h = absurd h

module _ {M : Type 1} {𝓤 : Ura M} (𝓛 : Logic 𝓤) (G : RattleType) where
  pub Some-of : (x : G.Denot) (v : Val) → ent 𝓤 (sem 𝓛 (G.own_val x (v ∷ []))) (sem 𝓛 ((Opt.the_row G).own_val (Some x) (live 1 (vcons v vnil) ∷ [])))
  Some-of x v =
      qed 𝓛 (‵ (G.own_val x (v ∷ [])) ∷ []) ∵ nothing ! $ move ! (1 ∷ 0 ∷ []) $ fjoin ! $ feq_i ! (List Val) (v ∷ []) (v ∷ []) refl $ fjoin ! $
      fpack ! (Valss (G ∷ [])) (in_a_row (G ∷ []) (owns (G ∷ []) (x, tt)) (v ∷ [])) (v ∷ [], tt) $
      feq_i ! (List Val) (live 1 (vcons v vnil) ∷ []) (live 1 (vcons v vnil) ∷ []) refl $ fjoin ! $
      fpack ! (List Val) (tagged_with (form_of (enum_shape (Opt.the_type G))) (form_of (enum_shape (Opt.the_type G))).payload ((Opt.the_type G).to (Some x)) (live 1 (vcons v vnil) ∷ [])) (v ∷ []) $ done !

  pub none_of : ent 𝓤 (emp 𝓤) (sem 𝓛 ((Opt.the_row G).own_val None (live 0 vnil ∷ [])))
  none_of = makes_shadow 𝓛 ((Opt.the_row G).own_val None (live 0 vnil ∷ [])) (λ us. (tt, (λ vss. (tt, tt)))) ([], (refl, (tt, (refl, tt))))
