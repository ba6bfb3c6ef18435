-- `of` makes the first owner: the value is lent for as long as there are owners, and the count begins at 1.
use Rattle.std.proofs.Common.{◌≡◌, ℕ, List, [], ◌∷◌, ◌++◌, refl, sym, subst, lit<}
use base.Fraction.{full_share}
use base.Logic.{SProp, ent, id⊢, emp}
use base.Fml.{Incl-refl, Lft, Fml, ftrue, fsep, flft}
use contract.BorrowLft.{◌⊑◌}
use contract.Monad.{fact, fact_i}
use contract.Running.{tables}
use mir.MapTy.{inst_fn}
use mir.Syntax.{Args, Fn, a_type}
use mir.Val.{Val, vptr}
use prog.Wp.{WpFn}
use types.Kit.{‵, raw, ◌⊛◌, later, ◌$◌, ◌∵◌, !, qed, by, move, keep, drop, split, split3, join, fsplit, fjoin, fjoin3, suffices, use0, use1, use3, await, rewrite}
use types.Run.{stop, fld, of_opd, no_more, and_then, returns, enter}
use types.ByLocal.{alloc_all, pass_all, free_all, look_at, get, get_in, sets}
use types.Part.{agg, sub, whole}
use denote.Builtin.{u64}
use denote.Exit.{no}
use denote.Param.{layouts}
use denote.Param.Laws.{param_laws}
use denote.RattleType.{RattleType, owns}
use denote.RawPtr.{Ptr, block_ptr, lies_at, ◌+ₚ◌}
use denote.Shares.{Shares-less}
use denote.Signature.{types_at, plain}
use denote.Steps.{nothing, heard}
use denote.Struct.Lending.{Lends, Lends-lies, Lends-first, lent_at, lent_at_shr_laws}
use denote.Triple.Walked.{Stays, stay_dropped, walk_of, Goes-dropped}
use Rattle.libc.specs.Heap.{chunk}
use Rattle.std.proofs.raw_atomic.Walks.{proved_at, leaves}
use Rattle.std_heap.specs.contracts.Global as heap
use Rattle.std_heap.specs.contracts.GlobalAllocator.TheImpl.{ghosts}
use Rattle.std_heap.proofs.Global.TheLaws as heap_laws
use Rattle.gr_gap.specs.Sticky as s
use Rattle.gr_gap.specs.Ownership as own
use Rattle.gr_gap.proofs.StickyLaws as laws
use Rattle.gr_gap.proofs.LooseValues.{Loose, both, loose_good, loose_out}
use Rattle.gr_gap.proofs.OwnerSteps.{Block, apart, word, word-Good, word_made}
use Rattle.gr_gap.specs.contracts.owner.Owner.of as F
use Rattle.gr_gap.specs.contracts.owner.Owner.of.Key.{name as #self}
use Rattle.gr_gap.proofs.owner.Owner.of.Statement.{statement}
use Rattle.gr_gap.proofs.owner.Owner.of.Code as code

pub of_spec : {M : Type 1} → statement M
of_spec 𝓤 𝓛 𝓜 𝓡 wired Y L =
    let H = 𝓛.H in let 𝓣 = tables 𝓤 H 𝓜 𝓡 𝓡.env in let En = F.ended Y in let C = F.clauses Y 𝓛 𝓜.mem 𝓡.returns in let R : RattleType = F.T-row Y in let LR = param_laws 0 Y L in
    let args : Args = layouts (a_type ∷ []) (Y, tt) in let fn : Fn = inst_fn args code.function in let LZ = heap_laws.the_row_laws in
    let B : RattleType = Block Y L in let V : RattleType = Loose B heap.the_row LZ ghosts in let off = own.value_offset R in
    let hs : Stays En.signature.params En.kept = (stay_dropped (plain (λ _. V)) no, tt) in
    proved_at 𝓛 En hs C 𝓜 𝓡 (Goes-dropped 𝓛 1 (plain (λ _. V)) no (λ κs x f. refl), tt) (#self args) fn (code.unfolded 𝓤 H 𝓜 𝓡 wired (Y, tt)) (λ z are.
    let κs = z.0.0 in let qs = z.0.1 in let v = z.0.3.0 in let x = v.value.value in let Post : Val → SProp 𝓤 = (walk_of 𝓛 En hs C).post z in let Run : List Val → SProp 𝓤 = λ ws. WpFn 𝓤 H 𝓣.C 𝓣.Λ fn ws Post in
    qed 𝓛 (((‵ (flft κs.0 qs.0) ⊛ ‵ ftrue) ⊛ ‵ (owns (types_at En.signature.params κs) z.0.3 z.0.4)) ∷ (raw (fact 𝓤 (κs.0 ⊑ Y.lives)) ⊛ raw (fact 𝓤 (v.value.count ≡ 1))) ∷ []) ∵
    split ! $ move ! (2 ∷ []) $ split ! $ heard ! _ (λ lives. heard ! _ (λ one. move ! (1 ∷ []) $ fsplit ! $ move ! (1 ∷ []) $ drop ! $
    loose_out B heap.the_row LZ ghosts ! v z.0.4.0 (λ b o h e ws fits.
    -- [the box; its handle; the token]
    move ! (1 ∷ []) $ drop ! $ fsplit ! $
    let p : Ptr = block_ptr b o in let at : Ptr = own.value_at R p x in let S = own.counter R p x in let P : Fml = own.whole R p x in let t : Lft → Fml = lent_at R at x in let w : Val = both (vptr b o) h in
    let lends : Lends 𝓛 P t Y.lives = Lends-first 𝓛 (lies_at R full_share at x) (fsep (own.beside_fields R p) (chunk (own.counted_type R) p)) t Y.lives (Lends-lies 𝓛 R Y.lives at x (Shares-less 𝓛 R R.lives Y.lives (Incl-refl Y.lives) (LR.shares 𝓛) x)) in
    use1 𝓛 (‵ (lies_at u64 full_share (p +ₚ 0) v.value.count) ⊛ ‵ (lies_at R full_share at x) ⊛ ‵ (own.beside_fields R p)) (apart Y L 𝓛 b o v.value) $ split3 ! $
    rewrite ! 0 (λ (n : ℕ). ‵ (lies_at u64 full_share (p +ₚ 0) n)) one refl $
    -- [the count; the value; what is beside; what frees the block; the token]
    move ! (1 ∷ 2 ∷ 3 ∷ []) $ fjoin3 ! $ use1 𝓛 (‵ P) (id⊢ 𝓤 _) $ move ! (2 ∷ []) $ split ! $ move ! (3 ∷ 2 ∷ 0 ∷ []) $
    -- [the count; the value, with what frees the block; the token; nothing]
    suffices ! (Run (w ∷ [])) (subst (λ (us : List Val). ent 𝓤 (Run (w ∷ [])) (Run us)) (sym (λ i. ws i ++ [])) (id⊢ 𝓤 (Run (w ∷ [])))) $
    enter ! 𝓣.C 𝓣.Λ fn (w ∷ []) Post $ alloc_all ! (λ l. pass_all ! refl (loose_good B heap.the_row LZ ghosts b o h fits, tt) $
    use3 𝓛 (later (‵ (s.shared_owns 64 (b, o) S P t) ⊛ ‵ (flft κs.0 qs.0))) (laws.first 64 (b, o) S P 𝓛 t (lent_at_shr_laws R LR.shr_laws at x) (lit< tt) Y.lives lends κs.0 qs.0 lives) $ await ! tt $ split ! $
    sets ! (of_opd ! (get_in ! (fld ! refl (stop !)) (sub ! 0 refl (whole !)))) refl (tt, tt) $
    sets ! (agg ! (and_then ! (get ! refl) (no_more !))) refl (word-Good R p) $ word_made R p ! $ fjoin ! $ move ! (1 ∷ 2 ∷ []) $ join ! $
    nothing ! $ nothing ! $ fjoin ! $ use0 𝓛 (raw (fact 𝓤 (x ≡ x))) (fact_i 𝓤 (x ≡ x) (emp 𝓤) refl) $
    returns ! (look_at ! 0 refl) $ free_all ! refl $ keep ! (2 ∷ 1 ∷ 3 ∷ 0 ∷ []) $
    by ! (leaves 𝓛 En hs C z (word R p) (record { block = p; value = x }) (tt, tt) (tt, tt)))))))
