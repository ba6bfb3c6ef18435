-- `step_down` gives an owner up. At a count of 1 it is the last, and has the block; a full count stands still; any other is lowered by one.
use Rattle.std.proofs.Common.{ℕ, ◌+◌, ◌-◌, ◌<◌, ◌^◌, List, [], ◌∷◌, ◌++◌, refl, sym, ap, subst, lit<, arith}
use mathlib.Core.Bool.{Bool, true}
use lib.Dec.{T, eqb→eq}
use seplogic.Ra.Ura.{Ura}
use base.Fraction.{full_share}
use base.Logic.{SProp, ent, wand, id⊢, via, fst∗, snd∗, apply∗}
use base.Fml.{Lft, Share, Fml, ftrue, fat, flft, ftok}
use base.Mask.{every}
use contract.Beside.{Carries}
use contract.Monad.{Fun, fact_use}
use contract.Named.{bare_unfolds}
use contract.Running.{tables_of, bare_tables}
use mir.MapTy.{inst_fn}
use mir.Syntax.{Args, Fn, a_type, w64, ty_int}
use mir.Val.{Val, vptr, vint, vcons, vnil, has_ty, WT}
use prog.Memory.{Memory}
use prog.Routine.{Routine}
use prog.Wp.{Env, Calls, Loops, WpFn, Tables}
use sound.WpLaws.{WpFn-mono}
use types.Kit.{Item, ‵, raw, ◌⊛◌, some, later, given, learn, at_ret, ◌$◌, ◌∵◌, !, qed, move, keep, drop, split, split3, join, fsplit, fsplit3, fjoin, fpick, pick, suffices, use0, use1, use2, use3, await, rewrite, group, frame, done}
use types.Logic.{Logic, sem}
use types.Match.{live}
use types.Run.{look, store, stop, fld, load, lit, neg_lit, bin, of_opd, no_more, and_then, first, blocks, branches, skips, exec, assigns_last, returns, returns_within, enter, well_typed}
use types.ByLocal.{alloc_all, pass_all, free_all, look_at, get, get_in, through, sets, sets_last, is, env}
use types.Part.{agg, sub, whole}
use denote.Builtin.{u64}
use denote.Exit.{yes, no}
use denote.Laws.{Are, Ises, Is, owns_show, showss}
use denote.Param.{layout, layouts}
use denote.Param.Laws.{Laws}
use denote.Plain.{uint_in, uint_out}
use denote.RattleType.{RattleType, owns}
use denote.RawPtr.{Ptr, block_ptr, block_of, count_of, lies_at, in_a_block, ptr_val, ◌+ₚ◌}
use denote.Signature.{types_at, plain}
use denote.Steps.{nothing}
use denote.Struct.Lending.{lent_at}
use denote.Triple.Clauses.{Clauses, Ended, closing}
use denote.Triple.Entry.{on_entry, alive}
use denote.Triple.Handed.{holding, hands}
use denote.Triple.Spec.{Meets, triple_of}
use denote.Triple.Table.{entered}
use denote.Triple.Walked.{says, Stays, stay_dropped, walk_of, ends_at, Goes-dropped, walk_Meets}
use Rattle.core.specs.contracts.option.Option as Opt
use Rattle.core.specs.declared.option.Option.TheVariants.{None, Some}
use Rattle.libc.specs.Heap.{chunk}
use Rattle.std.proofs.VecSteps.Shapes.{after}
use Rattle.std_heap.specs.contracts.Global as heap
use Rattle.std_heap.specs.contracts.GlobalAllocator.TheImpl.{ghosts}
use Rattle.std_heap.proofs.Global.TheLaws as heap_laws
use Rattle.std_heap.proofs.Handle.{handle, heap_val, heap_Tells}
use Rattle.gr_gap.specs.Sticky as s
use Rattle.gr_gap.specs.Sticky.{Id, ι}
use Rattle.gr_gap.specs.Ownership as own
use Rattle.gr_gap.proofs.StickyLaws as laws
use Rattle.gr_gap.proofs.LooseValues.{Loose, both, loose_good, loose_in}
use Rattle.gr_gap.proofs.OwnerSteps.{Block, together, word, word-Good, word_had, heap_own, heap_Good, also_tt, Some-of, none_of}
use Rattle.gr_gap.proofs.Words.{is_not}
use Rattle.gr_gap.specs.contracts.owner.Owner as RC
use Rattle.gr_gap.specs.contracts.owner.Owner.step_down as F
use Rattle.gr_gap.specs.contracts.owner.Owner.step_down.Key.{name as #self}
use Rattle.gr_gap.proofs.owner.Owner.step_down.Statement.{statement}
use Rattle.gr_gap.proofs.owner.Owner.step_down.Code as code
use Rattle.gr_gap.proofs.owner.Owner.step_down.Code.{code}

module _ (Y : RattleType) where
  abbrev args : Args
  args = layouts (a_type ∷ []) (Y, tt)

  abbrev fn' : Fn
  fn' = inst_fn args code.function

  abbrev ended : Ended
  ended = F.ended Y

  abbrev stayed : Stays ended.signature.params ended.kept
  stayed = (stay_dropped (plain (λ _. RC.the_row (F.T-row Y))) no, (stay_dropped (plain (λ _. heap.the_row)) yes, tt))

module _ (Y : RattleType) (L : Laws Y) {M : Type 1} {𝓤 : Ura M} (𝓛 : Logic 𝓤) (at_mem : Memory → SProp 𝓤) (run : Routine → Fun 𝓤) where
  open 𝓛 use {H, A}

  abbrev held : Clauses 𝓤 (ended Y)
  held = holding 𝓤 (ended Y) (A.tok every) (F.clauses Y 𝓛 at_mem run)

  module _ (C : Calls 𝓤 H) (Λ : Loops 𝓤 H) (z : (walk_of 𝓛 (ended Y) (stayed Y) held).Ghost) where
    abbrev Post : Val → SProp 𝓤
    Post = (walk_of 𝓛 (ended Y) (stayed Y) held).post z

    abbrev Run : List Val → SProp 𝓤
    Run vs = WpFn 𝓤 H C Λ (fn' Y) vs Post

    abbrev R : RattleType
    R = F.T-row Y

    abbrev p : Ptr
    p = z.0.3.0.block

    abbrev x : Y.Denot
    x = z.0.3.0.value

    abbrev kk : ℕ × ℕ
    kk = (block_of p, count_of p)

    abbrev S : ℕ → Fml
    S = own.counter R p x

    abbrev P : Fml
    P = own.whole R p x

    abbrev t : Lft → Fml
    t = lent_at R (own.value_at R p x) x

    abbrev state : Id → Bool → ℕ → Fml
    state = s.live 64 kk S P

    abbrev B : RattleType
    B = Block Y L

    abbrev G : RattleType
    G = Loose B heap.the_row heap_laws.the_row_laws ghosts

    abbrev toks : Item 𝓤
    toks = ‵ (flft z.0.0.0 z.0.1.0) ⊛ ‵ ftrue

    abbrev asked : Item 𝓤
    asked = raw ((F.clauses Y 𝓛 at_mem run z.0.0 z.0.3).requires z.1)

    walks : Is heap.the_row z.0.3.1.0 z.0.4.1.0 → ent 𝓤 ((walk_of 𝓛 (ended Y) (stayed Y) held).pre z) (Run (z.0.4.0 ++ (z.0.4.1.0 ++ [])))
    walks his =
        let hs = heap_Tells z.0.3.1.0 z.0.4.1.0 his in let w : Val = word R p in
        qed 𝓛 ((toks ⊛ ‵ (owns (types_at (ended Y).signature.params z.0.0) z.0.3 z.0.4)) ∷ (‵ (ftok every) ⊛ asked) ∷ []) ∵
        split ! $ move ! (1 ∷ []) $ fsplit ! $ move ! (1 ∷ []) $ fsplit ! $ drop ! $ drop ! $ fsplit ! $ word_had R p ! z.0.4.0 (λ ws.
        use1 𝓛 (‵ (s.shared_owns 64 kk S P t)) (id⊢ 𝓤 _) $
        suffices ! (Run (w ∷ heap_val ∷ [])) (subst (λ (us : List Val). ent 𝓤 (Run (w ∷ heap_val ∷ [])) (Run us)) (sym (λ i. ws i ++ (hs i ++ []))) (id⊢ 𝓤 (Run (w ∷ heap_val ∷ [])))) $
        enter ! C Λ (fn' Y) (w ∷ heap_val ∷ []) Post $ alloc_all ! (λ l. pass_all ! refl (word-Good R p, (heap_Good, tt)) $
        let En : Env 𝓤 H = env (fn' Y).locals l in
        fpick ! (λ a. fpick ! (λ y. fsplit3 ! $
        use1 𝓛 (later (some (λ (q : Share). ‵ (flft (ι a) q) ⊛ raw (wand 𝓤 (A.lft (ι a) q) (sem 𝓛 (s.owner 64 a y)))))) (laws.holds 64 kk S P 𝓛 a y) $ await ! tt $ pick ! (λ sh. split ! $
        -- [a share; the way back to the owner; the invariant; the view; the token; the thread's, with the `requires`]
        move ! (5 ∷ []) $ split ! $ move ! (4 ∷ 2 ∷ 0 ∷ []) $
        use3 𝓛 (later (some (λ (u : Bool × ℕ). ‵ (S u.1) ⊛ ‵ (state a u.0 u.1) ⊛ ‵ (flft (ι a) sh) ⊛ raw (laws.Shut 64 kk S P 𝓛 a every)))) (laws.opens 64 kk S P 𝓛 a every refl sh) $ await ! tt $ pick ! (λ u.
        let n = u.1 in split3 ! $ move ! (2 ∷ []) $ split ! $ move ! (2 ∷ []) $
        in_a_block ! p (λ r. lies_at u64 full_share (r +ₚ 0) n) (id⊢ 𝓤 _) (λ cb co e. use1 𝓛 (‵ (fat full_share (ty_int w64) cb (co + 0) (vint w64 n))) (uint_out 𝓛 full_share w64 n cb (co + 0)) $ well_typed ! (λ ok.
        -- [the count; the share; what shuts; the state; the `requires`; the way back; the view; the token]
        move ! (3 ∷ []) $ use1 𝓛 (given (0 < n) (‵ (state a u.0 n))) (laws.some_owner 64 kk S P 𝓛 a (lit< tt) u.0 n) $ learn ! (λ owned.
        move ! (2 ∷ 5 ∷ []) $ use2 𝓛 (‵ (s.owner 64 a y)) (apply∗ 𝓤 (A.lft (ι a) sh) (sem 𝓛 (s.owner 64 a y))) $ move ! (2 ∷ []) $
        -- [the count; the owner; the state; what shuts; the `requires`; the view; the token]
        sets ! (is ! (of_opd ! (get_in ! (fld ! refl (stop !)) (sub ! 0 refl (whole !)))) (ap ptr_val e)) refl (tt, tt) $
        first ! $ blocks ! $ sets_last ! (of_opd ! (load ! (through ! refl (fld ! refl (stop !))) (look ! 0 refl))) refl ok $ exec ! C Λ En (after 2 (fn' Y).body) (at_ret En Post) $
        sets ! (of_opd ! (get ! refl)) refl ok $ sets ! (bin ! (get ! refl) (lit ! tt) tt) refl (tt, tt) $ first ! $ branches ! (get ! refl)
        (λ last. let one = eqb→eq n 1 last in
        move ! (2 ∷ 1 ∷ []) $ use2 𝓛 (‵ (state a true n) ⊛ ‵ (s.owner 64 a true)) (laws.still 64 kk S P 𝓛 a u.0 y n (omega arith)) $ split ! $ rewrite ! 0 (λ (m : ℕ). ‵ (state a true m)) one refl $
        use2 𝓛 (later (‵ P ⊛ ‵ (s.Inv 64 kk S P a))) (laws.last 64 kk S P 𝓛 a) $ await ! tt $ split ! $
        -- [the value, with what frees the block; the invariant's content; the count; what shuts; the `requires`; the view; the token]
        move ! (1 ∷ 3 ∷ []) $ use2 𝓛 (later (‵ (ftok every))) (apply∗ 𝓤 (sem 𝓛 (s.Inv 64 kk S P a)) (H.⇛ (A.tok every))) $ await ! tt $ move ! (1 ∷ []) $ fsplit3 ! $
        -- [the value; what is beside; what frees the block; the thread's token; the count; the `requires`; the view; the token]
        let p' : Ptr = block_ptr cb co in let d : B.Denot = record { count = 1; value = x } in
        rewrite ! 0 (λ (r : Ptr). ‵ (lies_at R full_share (own.value_at R r x) x)) e refl $ rewrite ! 1 (λ (r : Ptr). ‵ (own.beside_fields R r)) e refl $ rewrite ! 2 (λ (r : Ptr). ‵ (chunk (own.counted_type R) r)) e refl $
        move ! (4 ∷ []) $ use1 𝓛 (‵ (lies_at u64 full_share (p' +ₚ 0) n)) (uint_in 𝓛 full_share w64 n cb (co + 0)) $ rewrite ! 0 (λ (m : ℕ). ‵ (lies_at u64 full_share (p' +ₚ 0) m)) one refl $
        group ! 3 $ use1 𝓛 (‵ (lies_at B full_share p' d)) (together Y L 𝓛 cb co d) $ fjoin ! $
        -- [the box; the thread's token; the `requires`; the view; the token]
        let v : Val = both (vptr cb co) heap_val in let good : T (has_ty (layout G) v) × WT v = loose_good B heap.the_row heap_laws.the_row_laws ghosts cb co heap_val heap_Good in
        sets ! (agg ! (and_then ! (get ! refl) (and_then ! (get ! refl) (no_more !)))) refl good $
        sets ! (agg ! (and_then ! (lit ! tt) (and_then ! (get ! refl) (no_more !)))) refl (also_tt (has_ty (layout G) v) good.0, (record { fits = lit< tt }, (good.1, tt))) $
        use0 𝓛 (‵ (heap.the_row.own_val handle (heap_val ∷ []))) (heap_own 𝓛) $ move ! (1 ∷ 0 ∷ []) $ loose_in B heap.the_row heap_laws.the_row_laws ghosts ! cb co heap_val handle d $
        let last_one : G.Denot = record { at = p'; alloc = handle; value = d } in
        use1 𝓛 (‵ ((Opt.the_row G).own_val (Some last_one) (live 1 (vcons v vnil) ∷ []))) (Some-of 𝓛 G last_one v) $
        returns_within ! Post refl (look_at ! 0 refl) $ free_all ! refl $ keep ! (0 ∷ 4 ∷ 1 ∷ []) $
        suffices ! _ (ends_at 𝓛 (ended Y) (stayed Y) held z (live 1 (vcons v vnil)) (Some last_one) (tt, (tt, tt)) (tt, (tt, tt))) $ nothing ! $ nothing ! $ fjoin ! $ nothing ! $ fjoin ! $ join ! $ move ! (1 ∷ 0 ∷ []) $ join ! $ frame ! $ says ! (refl, refl) $ done !)
        (λ more. let two = is_not n 1 more in skips ! $ exec ! C Λ En (after 5 (fn' Y).body) (at_ret En Post) $
        sets ! (bin ! (get ! refl) (neg_lit ! tt) tt) refl (tt, tt) $ first ! $ branches ! (get ! refl)
        (λ room. let nf = is_not n (2 ^ 64 - 1) room in let many : 1 < n = omega (arith, owned, two) in let f₁ : n - 1 < 2 ^ 64 = omega (arith, ok.1.fits) in
        blocks ! $ sets ! (bin ! (get ! refl) (lit ! tt) owned) refl (tt, record { fits = f₁ }) $ assigns_last ! (of_opd ! (get ! refl)) (through ! refl (fld ! refl (stop !))) (store ! 0 refl (tt, record { fits = f₁ })) $
        exec ! C Λ En (after 7 (fn' Y).body) (at_ret En Post) $
        move ! (2 ∷ 1 ∷ []) $ use2 𝓛 (‵ (state a true n) ⊛ ‵ (s.owner 64 a true)) (laws.still 64 kk S P 𝓛 a u.0 y n (omega (arith, ok.1.fits, nf))) $ split ! $ use2 𝓛 (‵ (state a true (n - 1))) (laws.less 64 kk S P 𝓛 a n many) $
        move ! (1 ∷ []) $ use1 𝓛 (‵ (lies_at u64 full_share (block_ptr cb co +ₚ 0) (n - 1))) (uint_in 𝓛 full_share w64 (n - 1) cb (co + 0)) $ rewrite ! 0 (λ (r : Ptr). ‵ (lies_at u64 full_share (r +ₚ 0) (n - 1))) (sym e) refl $ group ! 3 $
        use1 𝓛 (later (‵ (ftok every))) (laws.shut 64 kk S P 𝓛 a every true (n - 1)) $ await ! tt $
        sets ! (agg ! (and_then ! (lit ! tt) (no_more !))) refl (tt, (record { fits = lit< tt }, tt)) $ use0 𝓛 (‵ ((Opt.the_row G).own_val None (live 0 vnil ∷ []))) (none_of 𝓛 G) $
        returns ! (look_at ! 0 refl) $ free_all ! refl $ keep ! (0 ∷ 4 ∷ 1 ∷ []) $
        suffices ! _ (ends_at 𝓛 (ended Y) (stayed Y) held z (live 0 vnil) None (tt, (tt, tt)) (tt, (tt, tt))) $ nothing ! $ nothing ! $ fjoin ! $ nothing ! $ fjoin ! $ join ! $ move ! (1 ∷ 0 ∷ []) $ join ! $ frame ! $ says ! tt $ done !)
        (λ full. skips ! $ exec ! C Λ En (after 7 (fn' Y).body) (at_ret En Post) $
        use1 𝓛 (‵ (lies_at u64 full_share (block_ptr cb co +ₚ 0) n)) (uint_in 𝓛 full_share w64 n cb (co + 0)) $ rewrite ! 0 (λ (r : Ptr). ‵ (lies_at u64 full_share (r +ₚ 0) n)) (sym e) refl $ move ! (0 ∷ 2 ∷ 3 ∷ []) $ group ! 3 $
        use1 𝓛 (later (‵ (ftok every))) (laws.shut 64 kk S P 𝓛 a every u.0 n) $ await ! tt $ move ! (1 ∷ []) $ drop ! $
        sets ! (agg ! (and_then ! (lit ! tt) (no_more !))) refl (tt, (record { fits = lit< tt }, tt)) $ use0 𝓛 (‵ ((Opt.the_row G).own_val None (live 0 vnil ∷ []))) (none_of 𝓛 G) $
        returns ! (look_at ! 0 refl) $ free_all ! refl $ keep ! (0 ∷ 4 ∷ 1 ∷ []) $
        suffices ! _ (ends_at 𝓛 (ended Y) (stayed Y) held z (live 0 vnil) None (tt, (tt, tt)) (tt, (tt, tt))) $ nothing ! $ nothing ! $ fjoin ! $ nothing ! $ fjoin ! $ join ! $ move ! (1 ∷ 0 ∷ []) $ join ! $ frame ! $ says ! tt $ done !)))))))))))

  meets : (𝓣 : Tables 𝓤 H) → Meets 𝓛 (ended Y).signature (WpFn 𝓤 H 𝓣.C 𝓣.Λ (fn' Y)) (closing 𝓛 (ended Y) held)
  meets 𝓣 =
      walk_Meets 𝓛 (ended Y) (stayed Y) (Goes-dropped 𝓛 1 (plain (λ _. RC.the_row (F.T-row Y))) no (λ κs x f. refl), (Goes-dropped 𝓛 1 (plain (λ _. heap.the_row)) yes (λ κs x f. refl), tt)) held
      (WpFn 𝓤 H 𝓣.C 𝓣.Λ (fn' Y)) (WpFn-mono 𝓤 H 𝓛.laws 𝓣 (fn' Y))
      (λ z. let a = z.0.3 in let vss = z.0.4 in let Rs : List RattleType = types_at (ended Y).signature.params z.0.0 in
      let On : SProp 𝓤 = on_entry 𝓛 (ended Y).signature z.0.0 z.0.1 a vss in
      fact_use 𝓤 (Are Rs (Ises Rs) a vss) (via 𝓤 (sem 𝓛 (owns Rs a vss)) (via 𝓤 On (fst∗ 𝓤 On ((held z.0.0 a).requires z.1)) (snd∗ 𝓤 (alive 𝓛 (ended Y).signature z.0.0 z.0.1) (sem 𝓛 (owns Rs a vss))))
      (owns_show 𝓛 Rs (Ises Rs) (showss 𝓛 Rs) a vss)) (λ are. walks 𝓣.C 𝓣.Λ z are.1.0))

pub step_down_spec : {M : Type 1} → statement M
unfolding tables_of code
step_down_spec 𝓤 𝓛 𝓜 𝓡 wired Y L =
    let A = 𝓛.A in
    let c = F.clauses Y 𝓛 𝓜.mem 𝓡.returns in
    let 𝓒 : Carries 𝓤 𝓛.H 𝓜 (A.tok every) = subst (Carries 𝓤 𝓛.H 𝓜) 𝓛.turn_is 𝓡.carries in
    let 𝓣 : Tables 𝓤 𝓛.H = tables_of 𝓤 𝓛.H 𝓒.inner (bare_tables 𝓤 𝓛.H 𝓒.inner 𝓡.allowed 𝓡.how 𝓡.env) in
    let k = #self (args Y) in
    hands 𝓛 (ended Y) (A.tok every) c 𝓜 𝓒 𝓡 (𝓡.env k)
    (entered 𝓤 𝓛.H (triple_of 𝓛 (ended Y).signature (closing 𝓛 (ended Y) (holding 𝓤 (ended Y) (A.tok every) c))) 𝓣.C 𝓣.Λ k (fn' Y)
    (bare_unfolds 𝓤 𝓛.H 𝓒.inner 𝓡.allowed 𝓡.how 𝓡.env k (fn' Y) (wired.0.0 k refl))
    (meets Y L 𝓛 𝓜.mem 𝓡.returns 𝓣))
