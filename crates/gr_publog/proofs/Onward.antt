-- No call on a lane takes an earlier one back
use Rattle.std.proofs.Common.{◌≡◌, ℕ, Bool, List, [], ◌∷◌, ◌++◌, length, refl, ap, sym, ◌∙◌, append_assoc}
use Rattle.gr_out.specs.declared.disk.Fate.{Fate}
use Rattle.gr_out.specs.declared.disk.Fate.TheVariants.{Done, Failed, Broken, Lost}
use Rattle.gr_out.specs.Lane.{Lane, Call, Write, Sync, FailedWrite, fate_of, with_call, after_call, with_room}
use Rattle.gr_publog.specs.Steps.{GoesOn}

-- a lane that is as it was
pub goes_on_same : (l l' : Lane) → l' ≡ l → GoesOn l l'
goes_on_same l l' e = record { start = ap (λ (x : Lane). x.start) e; more = []; calls = ap (λ (x : Lane). x.calls) e }

-- one for which room was made
pub goes_on_room : (n : ℕ) (l l' : Lane) → l' ≡ with_room n l → GoesOn l l'
goes_on_room n l l' e = record { start = ap (λ (x : Lane). x.start) e; more = []; calls = ap (λ (x : Lane). x.calls) e }

-- one after a further call, whatever became of it
module _ (fails : Bool) (l l' : Lane) where
  pub goes_on_write : (at : ℕ) (bytes : List ℕ) → l' ≡ after_call (Write at bytes) fails l → GoesOn l l'
  goes_on_write at bytes e =
      let m = grows (fate_of fails l.stop) in
      record { start = ap (λ (x : Lane). x.start) e; more = m.0; calls = ap (λ (x : Lane). x.calls) e ∙ m.1 }
    where
      grows : (fate : Fate) → (more : List Call) × (with_call fate (Write at bytes) l.calls ≡ more ++ l.calls)
      grows Done = (Write at bytes ∷ [], refl)
      grows Failed = (FailedWrite at (length bytes) ∷ [], refl)
      grows Broken = (Write at bytes ∷ [], refl)
      grows Lost = ([], refl)

  pub goes_on_sync : l' ≡ after_call Sync fails l → GoesOn l l'
  goes_on_sync e =
      let m = grows (fate_of fails l.stop) in
      record { start = ap (λ (x : Lane). x.start) e; more = m.0; calls = ap (λ (x : Lane). x.calls) e ∙ m.1 }
    where
      grows : (fate : Fate) → (more : List Call) × (with_call fate Sync l.calls ≡ more ++ l.calls)
      grows Done = (Sync ∷ [], refl)
      grows Failed = ([], refl)
      grows Broken = ([], refl)
      grows Lost = ([], refl)

-- one after another
pub goes_on_then : (a b c : Lane) → GoesOn a b → GoesOn b c → GoesOn a c
goes_on_then a b c x y = record {
  start = y.start ∙ x.start;
  more = y.more ++ x.more;
  calls = y.calls ∙ ap (λ (cs : List Call). y.more ++ cs) x.calls ∙ sym (append_assoc y.more x.more a.calls);
}
