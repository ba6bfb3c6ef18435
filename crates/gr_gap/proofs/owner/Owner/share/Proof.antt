-- `share` makes one more owner, and leaves a full count as it is.
use mathlib.Core.Path.{refl, sym, subst, ap}
use mathlib.Core.Bool.{Bool, false}
use Prim.Native.Nat.{ℕ, ◌+◌, ◌-◌, ◌<◌, ◌^◌}
use native.Mathlib.Omega.{arith}
use lib.Dec.{lit<}
use base.Fraction.{full_share}
use mir.Syntax.{Fn, Args, Ty, a_type, ty_ptr, ty_int, w64}
use mir.Val.{Val, vptr, vint, vcons, vnil, vstruct}
use mir.Raw.{raw as bare}
use base.Logic.{SProp, ent, via, fst∗, snd∗, id⊢}
use base.Fml.{Lft, Share, Fml, ftrue, flft, fhide, ftok, fat}
use prog.Wp.{Env, Calls, Loops, WpFn, Tables}
use types.Kit.{Item, ‵, raw, some, later, ◌⊛◌, at_ret, ◌$◌, ◌∵◌, !, qed, move, keep, drop, group, await, pick, rewrite, use1, use2, use3, split, split3, join, fsplit, fsplit3, fjoin, fpick, suffices, frame, done}
use types.Run.{look, store, stop, fld, load, lit, neg_lit, bin, of_opd, and_then, no_more, assigns_last, first, blocks, skips, branches, exec, returns, enter, well_typed}
use types.Part.{look_in, sub, whole, agg}
use types.Tokens.{shr_bor-open, obor_close}
use types.Within.{tokens_halve}
use types.Na.{na_inv_dup}
use types.ByLocal.{alloc_all, pass_all, free_all, look_at, get, through, sets, is, env}
use denote.RattleType.{RattleType, RowLaws, owns}
use denote.RawPtr.{coded_ptr, ptr_own, rawptr_pure, Ptr, RawPtr, ptr_val, block_ptr, block_of, count_of, in_a_block, lies_at, ◌+ₚ◌}
use denote.Plain.{uint_in, uint_out}
use denote.Builtin.{RefOf, u64}
use denote.Steps.{nothing, looks, shuts}
use denote.Copied.{Copied, plain_Copied, Struct-Copied}
use denote.Struct.Laws.{RawPtr-laws}
use denote.Memory.{cell_at}
use base.Share
use denote.Triple.Walked.{says, Stays, stay_dropped, walk_of, ends_at, Goes-dropped, walk_Meets}
use mathlib.Core.List.{List, [], ◌∷◌, ◌++◌}
use seplogic.Ra.Ura.{Ura}
use mir.MapTy.{inst_fn}
use prog.Memory.{Memory}
use prog.Routine.{Routine}
use types.Logic.{Logic, sem}
use sound.WpLaws.{WpFn-mono}
use denote.Exit.{yes}
use denote.Param.{layouts}
use denote.Param.Laws.{param_laws}
use denote.Sharing.{ShrLaws}
use Rattle.gr_gap.proofs.Words.{is_not, is_so}
use Rattle.std.proofs.VecSteps.Shapes.{after}
use denote.Signature.{types_at, plain}
use denote.Triple.Clauses.{Clauses, Ended, closing}
use denote.Triple.Spec.{Meets, triple_of}
use denote.Triple.Table.{entered}
use contract.Monad.{Fun, fact_use}
use denote.Laws.{Are, Ises, owns_show, showss}
use denote.Memory.{hidden_shr}
use denote.Opens.{unhide}
use denote.Struct.Lending.{lent_at, lent_at_shr_laws}
use denote.Triple.Entry.{on_entry, alive}
use base.Mask.{every}
use contract.Beside.{Carries}
use contract.Named.{bare_unfolds}
use contract.Running.{tables_of, bare_tables}
use denote.Triple.Handed.{holding, hands}
use Rattle.gr_gap.specs.Sticky as s
use Rattle.gr_gap.specs.Sticky.{Id, ι}
use Rattle.gr_gap.specs.Ownership as o
use Rattle.gr_gap.proofs.StickyLaws as laws
use Rattle.gr_gap.proofs.OwnerSteps as steps
use Rattle.gr_gap.specs.contracts.owner.Owner as RC
use Rattle.gr_gap.specs.contracts.owner.Owner.share as F
use Rattle.gr_gap.specs.contracts.owner.Owner.share.Key.{name as #self}
use Rattle.gr_gap.proofs.owner.Owner.share.Statement as stated
use Rattle.gr_gap.proofs.owner.Owner.share.Code as code
use Rattle.gr_gap.proofs.owner.Owner.share.Code.{code}

module _ (Y : RattleType) where
  abbrev args : Args
  args = layouts (a_type ∷ []) (Y, tt)

  abbrev fn' : Fn
  fn' = inst_fn args code.function

  abbrev ended : Ended
  ended = F.ended Y

  abbrev stayed : Stays ended.signature.params ended.kept
  stayed = (stay_dropped (RefOf (0 ∷ []) tt (plain (λ _. RC.the_row (F.T-row Y))) (λ _. tt)) yes, tt)

module _ (Y : RattleType) (Yl : RowLaws (F.T-row Y)) {M : Type 1} {𝓤 : Ura M} (𝓛 : Logic 𝓤) (at_mem : Memory → SProp 𝓤) (run : Routine → Fun 𝓤) where
  open 𝓛 use {H, A}

  abbrev held : Clauses 𝓤 (ended Y)
  held = holding 𝓤 (ended Y) (A.tok every) (F.clauses Y 𝓛 at_mem run)

  module _ (C : Calls 𝓤 H) (Λ : Loops 𝓤 H) (z : (walk_of 𝓛 (ended Y) (stayed Y) held).Ghost) where
    abbrev At : List Val → (walk_of 𝓛 (ended Y) (stayed Y) held).Ghost
    At us = ((z.0.0, z.0.1, z.0.2, z.0.3, (us, tt)), z.1)

    abbrev Post : List Val → Val → SProp 𝓤
    Post us = (walk_of 𝓛 (ended Y) (stayed Y) held).post (At us)

    abbrev Goes : List Val → Type 1
    Goes us = ent 𝓤 ((walk_of 𝓛 (ended Y) (stayed Y) held).pre (At us)) (WpFn 𝓤 H C Λ (fn' Y) (us ++ []) (Post us))

    abbrev p : Ptr
    p = z.0.3.0.now.block

    abbrev x : Y.Denot
    x = z.0.3.0.now.value

    abbrev R : RattleType
    R = F.T-row Y

    abbrev kk : ℕ × ℕ
    kk = (block_of p, count_of p)

    abbrev S : ℕ → Fml
    S = o.counter R p x

    abbrev P : Fml
    P = o.whole R p x

    abbrev t : Lft → Fml
    t = lent_at R (o.value_at R p x) x

    abbrev Word : RattleType
    Word = steps.Word R

    abbrev lent : Lft → Fml
    lent = s.shared_lends 64 kk S P t

    abbrev box : Id → Fml
    box = s.box 64 kk S P

    abbrev live : Id → Bool → ℕ → Fml
    live = s.live 64 kk S P

    abbrev word : Ptr → Val
    word r = vstruct (vcons (ptr_val r) vnil)

    abbrev wty : Ty
    wty = steps.word_ty R

    abbrev tlaws : ShrLaws t
    tlaws = lent_at_shr_laws R Yl (o.value_at R p x) x

    abbrev asked : Item 𝓤
    asked = raw ((F.clauses Y 𝓛 at_mem run z.0.0 z.0.3).requires z.1)

    abbrev us : List Val
    us = vptr z.0.3.0.ref_ptr.0 z.0.3.0.ref_ptr.1 ∷ []

    abbrev κ : Lft
    κ = z.0.0.0

    abbrev q : Share
    q = z.0.1.0

    abbrev others : Item 𝓤
    others = ‵ (flft z.0.0.1.0 z.0.1.1.0) ⊛ ‵ ftrue

    walks : Goes us
    walks =
        qed 𝓛 (((‵ (flft κ q) ⊛ others) ⊛ ‵ (owns (types_at (ended Y).signature.params z.0.0) z.0.3 (us, tt))) ∷ (‵ (ftok every) ⊛ asked) ∷ []) ∵
        split ! $ split ! $ move ! (3 ∷ []) $ split ! $ move ! (4 ∷ []) $ fsplit ! $ fsplit ! $ keep ! (1 ∷ 5 ∷ 3 ∷ 6 ∷ []) $
        let b = z.0.3.0.ref_ptr.0 in let o' = z.0.3.0.ref_ptr.1 in
        use1 𝓛 (‵ (hidden_shr Word κ (p, tt) b o') ⊛ ‵ (fhide (lent κ))) (id⊢ 𝓤 _) $ split ! $
        enter ! C Λ (fn' Y) us _ $ alloc_all ! (λ l. pass_all ! refl ((tt, tt), tt) $
        let En : Env 𝓤 H = env (fn' Y).locals l in
        -- [the word; what is lent; the token of κ; the thread's; others; the locals]
        move ! (2 ∷ []) $ use1 𝓛 (‵ (flft κ (Share.left q)) ⊛ ‵ (flft κ (Share.right q))) (𝓛.lfts.lft_split κ q) $ split ! $ move ! (2 ∷ 1 ∷ []) $
        let raw_copied : Copied 𝓛 RawPtr = plain_Copied 𝓛 Ptr coded_ptr (ty_ptr ∷ []) ptr_own rawptr_pure ptr_val RawPtr-laws.tells in
        let copied : Copied 𝓛 Word = Struct-Copied 𝓛 (steps.pointers R) (refl, tt) (raw_copied, tt) in
        looks ! tt Word copied.opens (p, tt) b o' (λ q' vs. move ! (3 ∷ []) $ drop ! $ move ! (1 ∷ []) $
        steps.word_had R p ! vs (λ word_is.
        rewrite ! 0 (λ (ws : List Val). ‵ (cell_at q' (wty ∷ []) ws b o')) word_is refl $ use1 𝓛 (‵ (fat q' wty b o' (word p))) (𝓛.laws.raw_at q' wty b o' (word p)) $
        -- [the word; what shuts it; the other half; what is lent; the thread's token; others; the locals]
        move ! (3 ∷ []) $ unhide ! $ fpick ! (λ a. fsplit3 ! $ move ! (0 ∷ 5 ∷ []) $ shr_bor-open ! tt (tokens_halve 𝓛 (ι a)) (λ sh.
        move ! (2 ∷ []) $ use1 𝓛 (‵ (box a) ⊛ ‵ (box a)) (na_inv_dup 𝓛 kk (s.Inv 64 kk S P a)) $ split ! $ move ! (0 ∷ 3 ∷ 7 ∷ []) $
        use3 𝓛 (later (some (λ (u : Bool × ℕ). ‵ (S u.1) ⊛ ‵ (live a u.0 u.1) ⊛ ‵ (flft (ι a) sh) ⊛ raw (laws.Shut 64 kk S P 𝓛 a every)))) (laws.opens 64 kk S P 𝓛 a every refl sh) $ await ! tt $ pick ! (λ u.
        let n = u.1 in split3 ! $ move ! (2 ∷ []) $ split ! $ move ! (2 ∷ []) $
        in_a_block ! p (λ r. lies_at u64 full_share (r +ₚ 0) n) (id⊢ 𝓤 _) (λ cb co e. use1 𝓛 (‵ (fat full_share (ty_int w64) cb (co + 0) (vint w64 n))) (uint_out 𝓛 full_share w64 n cb (co + 0)) $ well_typed ! (λ ok.
        -- [the count; the share; what shuts; the state; the invariant; the open borrow; the view; the word; what shuts it; others; the locals]
        sets ! (is ! (of_opd ! (load ! (through ! refl (fld ! refl (stop !))) (look_in ! 7 (sub ! 0 refl (whole !))))) (ap ptr_val e)) refl (tt, tt) $ first ! $ blocks ! $
        sets ! (of_opd ! (load ! (through ! refl (fld ! refl (stop !))) (look ! 0 refl))) refl ok $
        sets ! (bin ! (get ! refl) (neg_lit ! tt) tt) refl (tt, tt) $ branches ! (get ! refl)
        (λ room. let nf = is_not n (2 ^ 64 - 1) room in let f₁ : n + 1 < 2 ^ 64 = omega (arith, ok.1.fits, nf) in
        sets ! (bin ! (get ! refl) (lit ! tt) (record { fits = f₁ })) refl (tt, record { fits = f₁ }) $ assigns_last ! (of_opd ! (get ! refl)) (through ! refl (fld ! refl (stop !))) (store ! 0 refl (tt, record { fits = f₁ })) $
        exec ! C Λ En (after 2 (fn' Y).body) (at_ret En (Post us)) $
        move ! (3 ∷ []) $ use1 𝓛 (later (some (λ (w : Bool). ‵ (live a w (n + 1)) ⊛ ‵ (s.owner 64 a w)))) (laws.more 64 kk S P 𝓛 a u.0 n nf) $ await ! tt $ pick ! (λ w. split ! $
        move ! (2 ∷ 0 ∷ 4 ∷ 1 ∷ []) $
        use1 𝓛 (‵ (lies_at u64 full_share (block_ptr cb co +ₚ 0) (n + 1))) (uint_in 𝓛 full_share w64 (n + 1) cb (co + 0)) $ rewrite ! 0 (λ (r : Ptr). ‵ (lies_at u64 full_share (r +ₚ 0) (n + 1))) (sym e) refl $ group ! 3 $
        use1 𝓛 (later (‵ (ftok every))) (laws.shut 64 kk S P 𝓛 a every w (n + 1)) $ await ! tt $
        sets ! (is ! (agg ! (and_then ! (get ! refl) (no_more !))) (ap word (sym e))) refl (steps.word-Good R p) $
        move ! (4 ∷ 2 ∷ []) $ obor_close ! tt $ drop ! $ move ! (5 ∷ 6 ∷ []) $
        use1 𝓛 (‵ (fat q' (bare wty) b o' (word p))) (𝓛.laws.at_raw q' wty b o' (word p)) $ steps.word_made R p ! $ move ! (1 ∷ 0 ∷ []) $ shuts ! tt Word q' (p, tt) (word p ∷ []) b o' $
        move ! (1 ∷ 0 ∷ []) $ use2 𝓛 (‵ (flft κ q)) (𝓛.lfts.lft_join κ q) $ move ! (2 ∷ 3 ∷ 4 ∷ []) $ group ! 3 $ use1 𝓛 (‵ (s.shared_owns 64 kk S P t)) (laws.packed 64 kk S P 𝓛 t tlaws a w) $ steps.word_made R p ! $ fjoin ! $
        returns ! (look_at ! 0 refl) $ free_all ! refl $ keep ! (0 ∷ 1 ∷ 3 ∷ 2 ∷ []) $
        suffices ! _ (ends_at 𝓛 (ended Y) (stayed Y) held (At us) (word p) (record { block = p; value = x }) (tt, tt) (tt, tt)) $ nothing ! $ nothing ! $ fjoin ! $ join ! $ move ! (1 ∷ 2 ∷ []) $ join ! $ join ! $ frame ! $ says ! refl $ done !)
        )
        (λ full. let en = is_so n (2 ^ 64 - 1) full in skips ! $ exec ! C Λ En (after 2 (fn' Y).body) (at_ret En (Post us)) $
        move ! (3 ∷ []) $ use1 𝓛 (‵ (live a false n)) (laws.is_stuck 64 kk S P 𝓛 a u.0 n en (lit< tt)) $ use1 𝓛 (‵ (live a false n) ⊛ ‵ (s.owner 64 a false)) (laws.again 64 kk S P 𝓛 a n) $ split ! $
        move ! (2 ∷ 0 ∷ 4 ∷ 1 ∷ []) $
        use1 𝓛 (‵ (lies_at u64 full_share (block_ptr cb co +ₚ 0) n)) (uint_in 𝓛 full_share w64 n cb (co + 0)) $ rewrite ! 0 (λ (r : Ptr). ‵ (lies_at u64 full_share (r +ₚ 0) n)) (sym e) refl $ group ! 3 $
        use1 𝓛 (later (‵ (ftok every))) (laws.shut 64 kk S P 𝓛 a every false n) $ await ! tt $
        sets ! (is ! (agg ! (and_then ! (get ! refl) (no_more !))) (ap word (sym e))) refl (steps.word-Good R p) $
        move ! (4 ∷ 2 ∷ []) $ obor_close ! tt $ drop ! $ move ! (5 ∷ 6 ∷ []) $
        use1 𝓛 (‵ (fat q' (bare wty) b o' (word p))) (𝓛.laws.at_raw q' wty b o' (word p)) $ steps.word_made R p ! $ move ! (1 ∷ 0 ∷ []) $ shuts ! tt Word q' (p, tt) (word p ∷ []) b o' $
        move ! (1 ∷ 0 ∷ []) $ use2 𝓛 (‵ (flft κ q)) (𝓛.lfts.lft_join κ q) $ move ! (2 ∷ 3 ∷ 4 ∷ []) $ group ! 3 $ use1 𝓛 (‵ (s.shared_owns 64 kk S P t)) (laws.packed 64 kk S P 𝓛 t tlaws a false) $ steps.word_made R p ! $ fjoin ! $
        returns ! (look_at ! 0 refl) $ free_all ! refl $ keep ! (0 ∷ 1 ∷ 3 ∷ 2 ∷ []) $
        suffices ! _ (ends_at 𝓛 (ended Y) (stayed Y) held (At us) (word p) (record { block = p; value = x }) (tt, tt) (tt, tt)) $ nothing ! $ nothing ! $ fjoin ! $ join ! $ move ! (1 ∷ 2 ∷ []) $ join ! $ join ! $ frame ! $ says ! refl $ done !
        )))))))))

  meets : (𝓣 : Tables 𝓤 H) → Meets 𝓛 (ended Y).signature (WpFn 𝓤 H 𝓣.C 𝓣.Λ (fn' Y)) (closing 𝓛 (ended Y) held)
  meets 𝓣 =
      walk_Meets 𝓛 (ended Y) (stayed Y) (Goes-dropped 𝓛 2 (RefOf (0 ∷ []) tt (plain (λ _. RC.the_row (F.T-row Y))) (λ _. tt)) yes (λ κs x f. refl), tt) held
      (WpFn 𝓤 H 𝓣.C 𝓣.Λ (fn' Y)) (WpFn-mono 𝓤 H 𝓛.laws 𝓣 (fn' Y))
      (λ z. let a = z.0.3 in let vss = z.0.4 in let Rs : List RattleType = types_at (ended Y).signature.params z.0.0 in
      let On : SProp 𝓤 = on_entry 𝓛 (ended Y).signature z.0.0 z.0.1 a vss in
      fact_use 𝓤 (Are Rs (Ises Rs) a vss) (via 𝓤 (sem 𝓛 (owns Rs a vss)) (via 𝓤 On (fst∗ 𝓤 On ((held z.0.0 a).requires z.1)) (snd∗ 𝓤 (alive 𝓛 (ended Y).signature z.0.0 z.0.1) (sem 𝓛 (owns Rs a vss))))
      (owns_show 𝓛 Rs (Ises Rs) (showss 𝓛 Rs) a vss)) (λ are. subst (Goes 𝓣.C 𝓣.Λ z) (sym are.0.0) (walks 𝓣.C 𝓣.Λ z)))

pub share_spec : {M : Type 1} → stated.statement M
unfolding tables_of code
share_spec 𝓤 𝓛 𝓜 𝓡 wired Y L =
    let A = 𝓛.A in
    let c = F.clauses Y 𝓛 𝓜.mem 𝓡.returns in
    let 𝓒 : Carries 𝓤 𝓛.H 𝓜 (A.tok every) = subst (Carries 𝓤 𝓛.H 𝓜) 𝓛.turn_is 𝓡.carries in
    let 𝓣 : Tables 𝓤 𝓛.H = tables_of 𝓤 𝓛.H 𝓒.inner (bare_tables 𝓤 𝓛.H 𝓒.inner 𝓡.allowed 𝓡.how 𝓡.env) in
    let k = #self (args Y) in
    hands 𝓛 (ended Y) (A.tok every) c 𝓜 𝓒 𝓡 (𝓡.env k)
    (entered 𝓤 𝓛.H (triple_of 𝓛 (ended Y).signature (closing 𝓛 (ended Y) (holding 𝓤 (ended Y) (A.tok every) c))) 𝓣.C 𝓣.Λ k (fn' Y)
    (bare_unfolds 𝓤 𝓛.H 𝓒.inner 𝓡.allowed 𝓡.how 𝓡.env k (fn' Y) (wired.0.0 k refl))
    (meets Y (param_laws 0 Y L).shr_laws 𝓛 𝓜.mem 𝓡.returns 𝓣))
