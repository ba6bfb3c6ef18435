-- The calls of the format on a lane, and how the other one of two lanes stands
use Rattle.std.specs.Prelude.{◌≡◌, ◌≢◌, ◌⊎◌, ℕ, ◌+◌, ◌<◌, ◌≤◌, true, List, [], ◌∷◌, ◌++◌, length, get_or, Result, OnOk}
use Rattle.std.specs.Prelude.{IsErr, IsErrOf}
use Rattle.gr_out.specs.declared.disk.Stop.TheVariants.{Unset, After}
use Rattle.gr_out.specs.Lane.{Lane, Call, Write, Sync, content, moment, crash_image, LeavesOnly}
use Rattle.gr_out.specs.Lane.{LeftSince}
use Rattle.gr_publog.specs.declared.record.LogFault.{LogFault}
use Rattle.gr_publog.specs.declared.record.LogFault.TheVariants as fault
use Rattle.gr_publog.specs.declared.steps.Aside.{Aside}
use Rattle.gr_publog.specs.declared.steps.Aside.TheVariants.{Short, Opened, Closed}
use Rattle.gr_publog.specs.Text.{stamp}
use Rattle.gr_publog.specs.Rewrite.{IsShut, filled}
use Rattle.gr_publog.specs.Crash.{behind_gate, opened_gate, IsBetween, Broke, StoppedImage}

-- how a lane stands that is to be rewritten
abbrev pub StandsAs : Aside → List ℕ → Type 0
StandsAs Short bytes = length bytes ≤ 6
StandsAs Opened bytes = (6 < length bytes) × (get_or bytes 5 0 ≡ 1)
StandsAs Closed bytes = (6 < length bytes) × (get_or bytes 5 0 ≢ 1)

-- The calls, the latest first

-- those that put bytes over a lane
abbrev pub put_calls : ℕ → List ℕ → List Call → List Call
put_calls at bytes calls = Sync ∷ (Write at bytes ∷ calls)

-- those that put bytes behind a gate, and then open it
abbrev pub append_calls : ℕ → List ℕ → List Call → List Call
append_calls gate bytes calls = put_calls gate (1 ∷ []) (put_calls (gate + 1) bytes calls)

-- those that shut a lane and stamp it
abbrev pub closing_calls : Aside → List Call → List Call
closing_calls Short calls = put_calls 0 (stamp ++ 0 ∷ []) calls
closing_calls Opened calls = put_calls 0 stamp (put_calls 5 (0 ∷ []) calls)
closing_calls Closed calls = put_calls 0 stamp calls

-- those that close a lane and fill it
abbrev pub rewriting_calls : Aside → List ℕ → List Call → List Call
rewriting_calls aside body calls = append_calls 5 body (closing_calls aside calls)

-- What was called on a lane stays called: it read the same at first, and of its calls those before are the earliest.
pub record GoesOn (before after : Lane) : Type 0 where
  pub start : after.start ≡ before.start
  pub more : List Call
  pub calls : after.calls ≡ more ++ before.calls

-- What filling a lane anew with a body does to it, whatever comes of it.
pub record Refills {T : Type 0} (aside : Aside) (body : List ℕ) (before after : Lane) (result : Result T LogFault)
    : Type 0 where
  -- after `Ok` it reads as the body behind its head, and a crash leaves nothing else; no call was made but those of the
  -- format
  pub written : OnOk result (content after ≡ filled body (content before))
  pub only : OnOk result (LeavesOnly after (content after))
  pub calls : OnOk result (after.calls ≡ rewriting_calls aside body before.calls)
  pub on : GoesOn before after
  -- at every moment of the call a crash leaves the bytes before, a shut lane, or the filled one
  pub any_moment : (image : List ℕ) → LeftSince after (moment before) image
      → (image ≡ content before) ⊎ (IsShut image ⊎ (image ≡ filled body (content before)))
  -- want of memory comes before the first call, and the disk fails at one of at most eight
  pub untouched : IsErrOf result fault.Memory → after ≡ before
  pub few : IsErrOf result fault.Disk → 8 ≤ after.left
  pub reserved : before.reserved ≡ true → after.reserved ≡ true
  pub ready : OnOk result (after.reserved ≡ true)
  pub unset : before.stop ≡ Unset → after.stop ≡ Unset

-- What putting bytes behind a closed gate and opening that does to a lane, whatever comes of it.
pub record Extends {T : Type 0} (gate : ℕ) (bytes : List ℕ) (before after : Lane) (result : Result T LogFault)
    : Type 0 where
  -- after `Ok` they stand behind the open gate, and a crash leaves nothing else; no call was made but those of the
  -- format
  pub written : OnOk result (content after ≡ opened_gate gate (behind_gate gate bytes (content before)))
  pub only : OnOk result (LeavesOnly after (content after))
  pub calls : OnOk result (after.calls ≡ append_calls gate bytes before.calls)
  pub on : GoesOn before after
  -- at every moment of the call a crash leaves the bytes before, the closed gate, or the bytes whole behind a gate
  pub any_moment : (image : List ℕ) → LeftSince after (moment before) image
      → (image ≡ content before) ⊎ IsBetween gate bytes (content before) image
  -- an ordered stop at one of its calls lets no `Ok` through, and the call and the pick tell what is left
  pub breaks : (call pick : ℕ) → before.stop ≡ After call pick → call ≤ 4 → IsErr result
  pub picked : (call pick : ℕ) → Broke before after call pick
      → StoppedImage gate bytes (content before) call pick (crash_image after)
  -- want of memory comes before the first call, and the disk fails at one of the four
  pub untouched : IsErrOf result fault.Memory → after ≡ before
  pub few : IsErrOf result fault.Disk → 12 ≤ after.left
  pub reserved : before.reserved ≡ true → after.reserved ≡ true
  pub unset : before.stop ≡ Unset → after.stop ≡ Unset
