use Rattle.std.proofs.Common.{◌+◌, refl, sym, ap, ◌∙◌, take, arith}
use Rattle.gr_model.specs.World.{Transition, run_from_by, run_from}
use Rattle.gr_world.specs.Seen.{net_in, world_of}
use Rattle.std.specs.List.{count_by}
use Rattle.gr_replay.proofs.RunTexts.{leads_step}
use Rattle.gr_soak.specs.Summary.{is_logged, is_got}
use Rattle.gr_soak.proofs.Runs.{told_more, count_more, last_more}
use Rattle.gr_soak.proofs.running.carry_out.Goals as goal

pub steps-init : goal.steps-init
unfolding run_from_by
steps-init g c = record {
  going = c.requires.going;
  topology = refl;
  lanes = c.requires.lanes;
  faultless = c.requires.faultless;
  leads = refl;
  logged = refl;
  got = refl;
  shown = c.new-shown.ensures;
  logged_small = omega arith;
  got_small = omega arith;
}

pub steps-preserved : goal.steps-preserved
steps-preserved g c =
    let i = c.steps.invariant in
    let first = c.args.world.now in
    let w = c.steps.world in
    let new = c.step.new.world in
    let steps = c.args.steps.now in
    let at = c.steps.line-index in
    let l = c.line-item.result in
    let told = c.in-Ok.told in
    let before = run_from (net_in first) (world_of first) (take at steps) in
    let after = run_from (net_in first) (world_of first) (take (at + 1) steps) in
    record {
      going = c.in-Ok.ensures.going;
      topology = c.step.ensures.topology ∙ i.topology;
      lanes = c.step.ensures.lanes;
      faultless = c.step.ensures.faultless.stays i.faultless;
      leads = leads_step first w steps at l (world_of new) c.steps-test.true c.line-item.is i.topology i.leads (ap (λ (x : Transition). x.world) (sym c.in-Ok.ensures.tells));
      logged = count_more is_logged after before told c.steps.logged c.logged_in-logged.result
          (told_more first w new steps at l told c.steps-test.true c.line-item.is i.topology i.leads c.in-Ok.ensures.tells) i.logged (c.logged_in-logged.ensures.count ∙ ap (count_by is_logged) c.as_slice.ensures);
      got = count_more is_got after before told c.steps.got c.got_in-got.result
          (told_more first w new steps at l told c.steps-test.true c.line-item.is i.topology i.leads c.in-Ok.ensures.tells) i.got (c.got_in-got.ensures.count ∙ ap (count_by is_got) c.as_slice-in-steps.ensures);
      shown = last_more after before told
          (told_more first w new steps at l told c.steps-test.true c.line-item.is i.topology i.leads c.in-Ok.ensures.tells);
      logged_small = omega (arith, i.logged_small, c.logged_in-logged.ensures.small);
      got_small = omega (arith, i.got_small, c.got_in-got.ensures.small);
    }
