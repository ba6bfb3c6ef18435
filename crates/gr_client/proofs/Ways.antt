-- What holds however a call ended, and what its cause says of the counts
use Rattle.std.proofs.Common.{◌≡◌, ℕ, List, [], Option, Result, Ok, Err, OnOk, OnErr, IfErr, IsOkUnless, sym, ◌∙◌, subst, arith, append-nil}
use Rattle.gr_out.specs.declared.fault.RunFault.{RunFault}
use Rattle.gr_out.specs.declared.fault.RunFault.TheVariants as run
use Rattle.gr_out.specs.Bytes.{with_more}
use Rattle.gr_out.specs.Faults.{Rose}
use Rattle.gr_out.specs.Page.{TakesFront}
use Rattle.gr_client.specs.Moves.{SinkMoves, PostMoves}
use Rattle.gr_client.specs.Ran.{IsPutFault, IsPostFault, IsClientFault}

pub on_ok : {T P : Type 0} (r : Result T RunFault) → P → OnOk r P
on_ok (Ok x) h = h
on_ok (Err e) h = tt

pub on_err : {T P : Type 0} (r : Result T RunFault) → P → OnErr r P
on_err (Ok x) h = tt
on_err (Err e) h = h

-- a text that was taken whole is a front of itself
pub front_whole : (old new : Option (List ℕ)) (text : List ℕ) → new ≡ with_more old text → TakesFront old new text
front_whole old new text e = record { part = text; rest = []; whole = sym (append-nil text); taken = e }

-- Causes

-- want of memory is a fault of what writes
pub memory_put : {T : Type 0} (r : Result T RunFault) → IsOkUnless r run.Memory → IfErr r IsPutFault
memory_put (Ok x) only = tt
memory_put (Err e) only = subst IsPutFault (sym only) tt

put_client_fault : (e : RunFault) → IsPutFault e → IsClientFault e
put_client_fault run.Memory why = tt
put_client_fault run.Write why = tt
put_client_fault run.Disk why = why
put_client_fault (run.Damaged p at) why = why
put_client_fault run.Post why = tt

-- a fault of what writes is one of a run
pub put_client : {T : Type 0} (r : Result T RunFault) → IfErr r IsPutFault → IfErr r IsClientFault
put_client (Ok x) why = tt
put_client (Err e) why = put_client_fault e why

-- so is one of what binds
pub post_client : (e : RunFault) → IsPostFault e → IsClientFault e
post_client run.Memory why = tt
post_client run.Write why = tt
post_client run.Disk why = why
post_client (run.Damaged p at) why = why
post_client run.Post why = tt

-- Counts

-- where only memory may be refused, or what binds failed, the sink's count stays
pub memory_stays : {T : Type 0} (before after : ℕ) (r : Result T RunFault) → after ≡ before → IsOkUnless r run.Memory → SinkMoves {T = T} before after r
memory_stays before after (Ok x) e only = record { rose = λ h. cc; same = λ h. e }
memory_stays {T} before after (Err f) e only =
    subst (λ (g : RunFault). SinkMoves {T = T} before after (Err g)) (sym only) (record { rose = λ h. cc; same = λ h. e })

pub post_stays : {T : Type 0} (before after : ℕ) (f : RunFault) → after ≡ before → IsPostFault f → SinkMoves {T = T} before after (Err f)
post_stays before after run.Memory e why = record { rose = λ h. cc; same = λ h. e }
post_stays before after run.Write e why = absurd why
post_stays before after run.Disk e why = absurd why
post_stays before after (run.Damaged p at) e why = absurd why
post_stays before after run.Post e why = record { rose = λ h. cc; same = λ h. e }

-- and where what writes failed the post's stays
pub put_moves : {T : Type 0} (before after : ℕ) (r : Result T RunFault) → after ≡ before → IfErr r IsPutFault → PostMoves {T = T} before after r
put_moves before after (Ok x) e why = record { never_falls = omega (arith, e); same = λ n. e; rose = λ h. cc }
put_moves before after (Err run.Memory) e why = record { never_falls = omega (arith, e); same = λ n. e; rose = λ h. cc }
put_moves before after (Err run.Write) e why = record { never_falls = omega (arith, e); same = λ n. e; rose = λ h. cc }
put_moves before after (Err run.Disk) e why = absurd why
put_moves before after (Err (run.Damaged p at)) e why = absurd why
put_moves before after (Err run.Post) e why = absurd why

-- what stayed, and then as it moves
pub moves_later : {T : Type 0} (before middle after : ℕ) (r : Result T RunFault) → middle ≡ before → PostMoves {T = T} middle after r → PostMoves {T = T} before after r
moves_later {T} before middle after r e m = record {
  never_falls = omega (arith, e, m.never_falls);
  same = λ h. m.same h ∙ e;
  rose = λ h. subst (λ (n : ℕ). Rose n after) e (m.rose h);
}

pub sink_later : {T : Type 0} (before middle after : ℕ) (r : Result T RunFault) → middle ≡ before → SinkMoves {T = T} middle after r → SinkMoves {T = T} before after r
sink_later {T} before middle after r e m = record {
  rose = λ h. subst (λ (n : ℕ). Rose n after) e (m.rose h);
  same = λ h. m.same h ∙ e;
}
