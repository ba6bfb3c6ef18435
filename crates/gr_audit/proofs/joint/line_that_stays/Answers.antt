-- Each turn is one of the joint order; where no group can go, it has ended.
use Rattle.std.proofs.Common.{◌≡◌, false, Some, None, length, get_or, ap, sym, subst, ◌∙◌, arith}
use Rattle.std.specs.List.{AllByRecursion}
use Rattle.std.proofs.lemmas.List.{get_or-replicate}
use Rattle.gr_audit.specs.Links.{IsBelow, ready_from, next_line_of, rests_of}
use Rattle.gr_audit.proofs.Numbered.{begins, goes_on, ends_with}
use Rattle.gr_audit.proofs.Turns.{first_is, is_ready, next_is_there, room_falls}
use Rattle.gr_audit.proofs.joint.line_that_stays.Goals as goal

pub turns-init : goal.turns-init
turns-init c =
    let flags : length c.in_ok-offered.offered.items ≡ length c.args.keys.now = omega (arith, c.in_ok-offered.ensures.len, c.len.ensures.count) in
    record {
      count = c.in_ok-places.ensures.count;
      flags = flags;
      reaches = begins c.args.keys.now c.args.journals.now (rests_of c.args.journals.now c.in_ok-places.places.items) c.in_ok-offered.offered.items c.requires c.in_ok-places.ensures.rests flags
          (λ n lt. ap (λ xs. get_or xs n false) (c.in_ok-offered.ensures.items_if_clones_equal (λ y same. same))
          ∙ get_or-replicate c.len.result n false false (omega (arith, lt, c.len.ensures.count)));
    }

pub first_ready-requires-clause-numbered : goal.first_ready-requires-clause-numbered
first_ready-requires-clause-numbered c =
    subst (λ n. AllByRecursion (AllByRecursion (IsBelow n)) c.args.journals.now) (sym (ap length c.deref-in-turns.ensures.value ∙ c.turns.invariant.flags)) c.requires

pub go-requires-clause-some : goal.go-requires-clause-some
go-requires-clause-some c =
    next_is_there c.args.journals.now c.turns.places.items c.turns.offered.items c.in-Some.journal c.turns.invariant.count c.in-Some.ensures.within
    (first_is c.args.journals.now c.turns.places.items _ c.turns.offered.items _ (Some c.in-Some.journal) c.deref.ensures.value c.deref-in-turns.ensures.value c.in-Some.ensures.first)

pub go-requires-clause-numbered : goal.go-requires-clause-numbered
go-requires-clause-numbered c = subst (λ n. AllByRecursion (AllByRecursion (IsBelow n)) c.args.journals.now) (sym c.turns.invariant.flags) c.requires

pub turns-smaller : goal.turns-smaller
turns-smaller c =
    let rests = rests_of c.args.journals.now c.turns.places.items in
    let first : ready_from 0 c.turns.offered.items rests ≡ Some c.in-Some.journal =
    first_is c.args.journals.now c.turns.places.items _ c.turns.offered.items _ (Some c.in-Some.journal) c.deref.ensures.value c.deref-in-turns.ensures.value c.in-Some.ensures.first in
    room_falls c.turns.offered.items rests (rests_of c.args.journals.now c.go.new.places.items) c.in-Some.journal (is_ready c.turns.offered.items rests c.in-Some.journal first) c.go.ensures.rests

pub turns-preserved : goal.turns-preserved
turns-preserved c =
    let rests = rests_of c.args.journals.now c.turns.places.items in
    let first : ready_from 0 c.turns.offered.items rests ≡ Some c.in-Some.journal =
    first_is c.args.journals.now c.turns.places.items _ c.turns.offered.items _ (Some c.in-Some.journal) c.deref.ensures.value c.deref-in-turns.ensures.value c.in-Some.ensures.first in
    record {
      count = c.go.ensures.count;
      flags = c.go.ensures.flags ∙ c.turns.invariant.flags;
      reaches = goes_on c.args.keys.now c.args.journals.now rests (rests_of c.args.journals.now c.go.new.places.items) c.turns.offered.items c.go.new.offered.items c.in-Some.journal
          c.len.ensures.apart c.turns.invariant.reaches first (is_ready c.turns.offered.items rests c.in-Some.journal first) c.go.ensures.rests c.go.ensures.offered;
    }

pub returns-in-None : goal.returns-in-None
returns-in-None c =
    let rests = rests_of c.args.journals.now c.turns.places.items in
    let first : ready_from 0 c.turns.offered.items rests ≡ None =
    first_is c.args.journals.now c.turns.places.items _ c.turns.offered.items _ None c.deref.ensures.value c.deref-in-turns.ensures.value c.in-None.ensures.first in
    c.least_line.ensures
    ∙ (ap (λ ps. next_line_of (rests_of c.args.journals.now ps)) c.deref-in-None.ensures.value
    ∙ ends_with c.args.keys.now c.args.journals.now rests c.turns.offered.items c.turns.invariant.reaches first)
