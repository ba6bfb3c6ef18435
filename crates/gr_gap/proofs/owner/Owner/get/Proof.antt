-- `get` reads the value through a `&`.
use mathlib.Core.Path.{refl, sym, subst}
use mathlib.Core.Bool.{Bool}
use Prim.Native.Nat.{ℕ, ◌+◌}
use mir.Syntax.{Fn, Args, Ty, a_type, ty_ptr}
use mir.Val.{Val, vptr, vcons, vnil, vstruct}
use mir.Raw.{raw as bare}
use base.Logic.{SProp, ent, via, fst∗, snd∗, id⊢}
use base.Fml.{Lft, Share, Fml, ftrue, flft, fhide, fat}
use prog.Wp.{Env, Calls, Loops, WpFn, Tables}
use types.Kit.{Item, ‵, raw, ◌⊛◌, at_ret, ◌$◌, ◌∵◌, !, qed, move, keep, drop, rewrite, use1, split, join, fsplit, fjoin, feq_i, suffices, done}
use types.Run.{hop, stop, fld, of_opd, addr, first, blocks, exec, returns, enter}
use types.Part.{look_in, sub, whole}
use types.ByLocal.{sets_last, alloc_all, pass_all, free_all, look_at, get, through, sets, env}
use denote.RattleType.{RattleType, RowLaws, owns}
use denote.RawPtr.{coded_ptr, ptr_own, rawptr_pure, Ptr, RawPtr, ptr_val, block_of, count_of, in_a_block, ◌+ₚ◌}
use denote.Builtin.{RefOf}
use denote.Steps.{nothing, looks, shuts}
use denote.Copied.{Copied, plain_Copied, Struct-Copied}
use denote.Struct.Laws.{RawPtr-laws}
use denote.Memory.{cell_at}
use denote.Triple.Walked.{says, Stays, stay_dropped, walk_of, ends_at, Goes-dropped, walk_Meets}
use mathlib.Core.List.{List, [], ◌∷◌, ◌++◌}
use seplogic.Ra.Ura.{Ura}
use mir.MapTy.{inst_fn}
use prog.Memory.{Memory}
use prog.Routine.{Routine}
use types.Logic.{Logic, sem}
use sound.WpLaws.{WpFn-mono}
use denote.Exit.{yes}
use denote.Param.{layouts}
use denote.Param.Laws.{param_laws}
use denote.Sharing.{ShrLaws}
use Rattle.std.proofs.VecSteps.Shapes.{after}
use denote.Signature.{types_at, plain}
use denote.Triple.Clauses.{Clauses, Ended, closing}
use denote.Triple.Spec.{Meets, triple_of}
use denote.Triple.Table.{entered}
use contract.Monad.{Fun, fact_use}
use denote.Laws.{Are, Ises, owns_show, showss}
use denote.Memory.{hidden_shr}
use denote.Opens.{unhide, hide}
use denote.Memory.{shared_of}
use contract.Running.{tables}
use base.Logic.{never}
use denote.Struct.Lending.{lent_at, lent_at_shr_laws}
use denote.Triple.Entry.{on_entry, alive}
use contract.Running.{tables_of}
use Rattle.gr_gap.specs.Sticky as s
use Rattle.gr_gap.specs.Sticky.{Id, ι}
use Rattle.gr_gap.specs.Ownership as o
use Rattle.gr_gap.proofs.StickyLaws as laws
use Rattle.gr_gap.proofs.OwnerSteps as steps
use Rattle.gr_gap.specs.contracts.owner.Owner as RC
use Rattle.gr_gap.specs.contracts.owner.Owner.get as F
use Rattle.gr_gap.specs.contracts.owner.Owner.get.Key.{name as #self}
use Rattle.gr_gap.proofs.owner.Owner.get.Statement as stated
use Rattle.gr_gap.proofs.owner.Owner.get.Code as code
use Rattle.gr_gap.proofs.owner.Owner.get.Code.{code}

module _ (Y : RattleType) where
  abbrev args : Args
  args = layouts (a_type ∷ []) (Y, tt)

  abbrev fn' : Fn
  fn' = inst_fn args code.function

  abbrev ended : Ended
  ended = F.ended Y

  abbrev stayed : Stays ended.signature.params ended.kept
  stayed = (stay_dropped (RefOf (0 ∷ []) tt (plain (λ _. RC.the_row (F.T-row Y))) (λ _. tt)) yes, tt)

module _ (Y : RattleType) (Yl : RowLaws (F.T-row Y)) {M : Type 1} {𝓤 : Ura M} (𝓛 : Logic 𝓤) (at_mem : Memory → SProp 𝓤) (run : Routine → Fun 𝓤) where
  open 𝓛 use {H, A}

  abbrev held : Clauses 𝓤 (ended Y)
  held = F.clauses Y 𝓛 at_mem run

  module _ (C : Calls 𝓤 H) (Λ : Loops 𝓤 H) (z : (walk_of 𝓛 (ended Y) (stayed Y) held).Ghost) where
    abbrev At : List Val → (walk_of 𝓛 (ended Y) (stayed Y) held).Ghost
    At us = ((z.0.0, z.0.1, z.0.2, z.0.3, (us, tt)), z.1)

    abbrev Post : List Val → Val → SProp 𝓤
    Post us = (walk_of 𝓛 (ended Y) (stayed Y) held).post (At us)

    abbrev Goes : List Val → Type 1
    Goes us = ent 𝓤 ((walk_of 𝓛 (ended Y) (stayed Y) held).pre (At us)) (WpFn 𝓤 H C Λ (fn' Y) (us ++ []) (Post us))

    abbrev p : Ptr
    p = z.0.3.0.now.block

    abbrev x : Y.Denot
    x = z.0.3.0.now.value

    abbrev R : RattleType
    R = F.T-row Y

    abbrev off : ℕ
    off = o.value_offset R

    abbrev kk : ℕ × ℕ
    kk = (block_of p, count_of p)

    abbrev S : ℕ → Fml
    S = o.counter R p x

    abbrev P : Fml
    P = o.whole R p x

    abbrev t : Lft → Fml
    t = lent_at R (o.value_at R p x) x

    abbrev Word : RattleType
    Word = steps.Word R

    abbrev lent : Lft → Fml
    lent = s.shared_lends 64 kk S P t

    abbrev box : Id → Fml
    box = s.box 64 kk S P

    abbrev live : Id → Bool → ℕ → Fml
    live = s.live 64 kk S P

    abbrev word : Ptr → Val
    word r = vstruct (vcons (ptr_val r) vnil)

    abbrev wty : Ty
    wty = steps.word_ty R

    abbrev tlaws : ShrLaws t
    tlaws = lent_at_shr_laws R Yl (o.value_at R p x) x

    abbrev asked : Item 𝓤
    asked = raw ((F.clauses Y 𝓛 at_mem run z.0.0 z.0.3).requires z.1)

    abbrev us : List Val
    us = vptr z.0.3.0.ref_ptr.0 z.0.3.0.ref_ptr.1 ∷ []

    abbrev κ : Lft
    κ = z.0.0.0

    abbrev q : Share
    q = z.0.1.0

    abbrev others : Item 𝓤
    others = ‵ (flft z.0.0.1.0 z.0.1.1.0) ⊛ ‵ ftrue

    walks : Goes us
    walks =
        qed 𝓛 (((‵ (flft κ q) ⊛ others) ⊛ ‵ (owns (types_at (ended Y).signature.params z.0.0) z.0.3 (us, tt))) ∷ asked ∷ []) ∵
        split ! $ split ! $ move ! (2 ∷ []) $ fsplit ! $ fsplit ! $ keep ! (1 ∷ 3 ∷ 4 ∷ []) $
        let b = z.0.3.0.ref_ptr.0 in let o' = z.0.3.0.ref_ptr.1 in
        use1 𝓛 (‵ (hidden_shr Word κ (p, tt) b o') ⊛ ‵ (fhide (lent κ))) (id⊢ 𝓤 _) $ split ! $ move ! (1 ∷ []) $ unhide ! $
        use1 𝓛 (‵ (t κ)) (laws.sees 64 kk S P 𝓛 t tlaws κ) $
        in_a_block ! p (λ r. lent_at R (r +ₚ off) x κ) (fst∗ 𝓤 (never 𝓤) (sem 𝓛 (shared_of R x 0 0 κ))) (λ cb co e. fsplit ! $ drop ! $ hide ! $
        enter ! C Λ (fn' Y) us _ $ alloc_all ! (λ l. pass_all ! refl ((tt, tt), tt) $
        let En : Env 𝓤 H = env (fn' Y).locals l in
        let at : Val = vptr cb (co + off) in
        let raw_copied : Copied 𝓛 RawPtr = plain_Copied 𝓛 Ptr coded_ptr (ty_ptr ∷ []) ptr_own rawptr_pure ptr_val RawPtr-laws.tells in
        let copied : Copied 𝓛 Word = Struct-Copied 𝓛 (steps.pointers R) (refl, tt) (raw_copied, tt) in
        move ! (1 ∷ 2 ∷ []) $
        looks ! tt Word copied.opens (p, tt) b o' (λ q' vs. move ! (3 ∷ []) $ drop ! $ move ! (1 ∷ []) $
        steps.word_had R p ! vs (λ word_is.
        rewrite ! 0 (λ (ws : List Val). ‵ (cell_at q' (wty ∷ []) ws b o')) word_is refl $ use1 𝓛 (‵ (fat q' wty b o' (word p))) (𝓛.laws.raw_at q' wty b o' (word p)) $
        rewrite ! 0 (λ (r : Ptr). ‵ (fat q' wty b o' (word r))) e refl $ first ! $ blocks ! $
        sets_last ! (addr ! (through ! refl (fld ! refl (hop ! (look_in ! 0 (sub ! 0 refl (whole !))) (fld ! refl (stop !)))))) refl (tt, tt) $
        exec ! C Λ En (after 1 (fn' Y).body) (at_ret En (Post us)) $ sets ! (of_opd ! (get ! refl)) refl (tt, tt) $
        rewrite ! 0 (λ (r : Ptr). ‵ (fat q' wty b o' (word r))) (sym e) refl $
        use1 𝓛 (‵ (fat q' (bare wty) b o' (word p))) (𝓛.laws.at_raw q' wty b o' (word p)) $ steps.word_made R p ! $ move ! (1 ∷ 0 ∷ []) $ shuts ! tt Word q' (p, tt) (word p ∷ []) b o' $
        move ! (1 ∷ []) $ feq_i ! (List Val) (at ∷ []) (at ∷ []) refl $ fjoin ! $ returns ! (look_at ! 0 refl) $ free_all ! refl $ keep ! (0 ∷ 1 ∷ 2 ∷ []) $
        suffices ! _ (ends_at 𝓛 (ended Y) (stayed Y) held (At us) at (record { ref_ptr = (cb, co + off); now = x }) (tt, tt) (tt, tt)) $
        says ! refl $ nothing ! $ nothing ! $ fjoin ! $ join ! $ move ! (1 ∷ 2 ∷ []) $ join ! $ join ! $ done !))))

  meets : (𝓣 : Tables 𝓤 H) → Meets 𝓛 (ended Y).signature (WpFn 𝓤 H 𝓣.C 𝓣.Λ (fn' Y)) (closing 𝓛 (ended Y) held)
  meets 𝓣 =
      walk_Meets 𝓛 (ended Y) (stayed Y) (Goes-dropped 𝓛 2 (RefOf (0 ∷ []) tt (plain (λ _. RC.the_row (F.T-row Y))) (λ _. tt)) yes (λ κs x f. refl), tt) held
      (WpFn 𝓤 H 𝓣.C 𝓣.Λ (fn' Y)) (WpFn-mono 𝓤 H 𝓛.laws 𝓣 (fn' Y))
      (λ z. let a = z.0.3 in let vss = z.0.4 in let Rs : List RattleType = types_at (ended Y).signature.params z.0.0 in
      let On : SProp 𝓤 = on_entry 𝓛 (ended Y).signature z.0.0 z.0.1 a vss in
      fact_use 𝓤 (Are Rs (Ises Rs) a vss) (via 𝓤 (sem 𝓛 (owns Rs a vss)) (via 𝓤 On (fst∗ 𝓤 On ((held z.0.0 a).requires z.1)) (snd∗ 𝓤 (alive 𝓛 (ended Y).signature z.0.0 z.0.1) (sem 𝓛 (owns Rs a vss))))
      (owns_show 𝓛 Rs (Ises Rs) (showss 𝓛 Rs) a vss)) (λ are. subst (Goes 𝓣.C 𝓣.Λ z) (sym are.0.0) (walks 𝓣.C 𝓣.Λ z)))

pub get_spec : {M : Type 1} → stated.statement M
unfolding tables_of
get_spec 𝓤 𝓛 𝓜 𝓡 wired Y L =
    let 𝓣 : Tables 𝓤 𝓛.H = tables_of 𝓤 𝓛.H 𝓜 (tables 𝓤 𝓛.H 𝓜 𝓡 𝓡.env) in
    let k = #self (args Y) in
    entered 𝓤 𝓛.H (triple_of 𝓛 (ended Y).signature (F.spec Y 𝓛 𝓜.mem 𝓡.returns)) 𝓣.C 𝓣.Λ k (fn' Y)
    (code.unfolded 𝓤 𝓛.H 𝓜 𝓡 wired (Y, tt)) (meets Y (param_laws 0 Y L).shr_laws 𝓛 𝓜.mem 𝓡.returns 𝓣)
