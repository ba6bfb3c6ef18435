-- Call by call: what a crash may leave since the first of them
use Rattle.std.proofs.Common.{ℕ, ◌+◌, false, List, [], ◌∷◌, ap, subst, ◌∙◌}
use Rattle.gr_out.specs.Lane.{LeavesOnly}
use Rattle.gr_publog.specs.Crash.{opened_gate}
use Rattle.gr_publog.proofs.Moments.{wrote, synced, synced_only}
use Rattle.gr_publog.proofs.Stopping.{first_broke, second_broke, third_broke, fourth_broke}
use Rattle.gr_publog.proofs.Appending.{not_due, after_write, after_sync, after_gate, after_all}
use Rattle.gr_publog.proofs.Keeping.{keeps_write, keeps_sync, keeps_then}
use Rattle.gr_publog.proofs.steps.append_behind.Goals as goal

pub returns-in_err-write_at-clause-any_moment : goal.returns-in_err-write_at-clause-any_moment
returns-in_err-write_at-clause-any_moment g c = λ t.
    let l = g.D.Disk.lane_of c.args.disk.now c.args.lane in
    after_write l c.args.gate c.args.bytes.now (c.requires.within t) (c.requires.only t) _ _ (c.write_at.ensures.after t)

pub returns-in_err-sync-clause-any_moment : goal.returns-in_err-sync-clause-any_moment
returns-in_err-sync-clause-any_moment g c = λ t.
    let l = g.D.Disk.lane_of c.args.disk.now c.args.lane in
    let l1 = g.D.Disk.lane_of c.write_at.new.self c.args.lane in
    let c1 = wrote l l1 _ _ (c.in_ok-write_at.ensures.after t) (not_due _ c.in_ok-write_at.ensures.cause.breaks) in
    after_sync l c.args.gate c.args.bytes.now (c.requires.within t) (c.requires.only t) l1 _ _ (c.in_ok-write_at.ensures.after t) c1 (c.sync.ensures.after t)

pub returns-in_err-write_at-2-clause-any_moment : goal.returns-in_err-write_at-2-clause-any_moment
returns-in_err-write_at-2-clause-any_moment g c = λ t.
    let l = g.D.Disk.lane_of c.args.disk.now c.args.lane in
    let l1 = g.D.Disk.lane_of c.write_at.new.self c.args.lane in
    let l2 = g.D.Disk.lane_of c.sync.new.self c.args.lane in
    let c1 = wrote l l1 _ _ (c.in_ok-write_at.ensures.after t) (not_due _ c.in_ok-write_at.ensures.cause.breaks) in
    let o2 = subst (λ (x : List ℕ). LeavesOnly l2 x) c1 (synced_only l1 l2 (c.in_ok-sync.ensures.after t) (not_due _ c.in_ok-sync.ensures.cause.breaks)) in
    after_gate l c.args.gate c.args.bytes.now (c.requires.within t) (c.requires.only t) l1 l2 _ _ (c.in_ok-write_at.ensures.after t) c1 (c.in_ok-sync.ensures.after t) o2 (c.write_at-2.ensures.after t)

pub returns-clause-any_moment : goal.returns-clause-any_moment
returns-clause-any_moment g c = λ t.
    let l = g.D.Disk.lane_of c.args.disk.now c.args.lane in
    let l1 = g.D.Disk.lane_of c.write_at.new.self c.args.lane in
    let l2 = g.D.Disk.lane_of c.sync.new.self c.args.lane in
    let l3 = g.D.Disk.lane_of c.write_at-2.new.self c.args.lane in
    let c1 = wrote l l1 _ _ (c.in_ok-write_at.ensures.after t) (not_due _ c.in_ok-write_at.ensures.cause.breaks) in
    let c2 = synced l1 l2 (c.in_ok-sync.ensures.after t) (not_due _ c.in_ok-sync.ensures.cause.breaks) in
    let o2 = subst (λ (x : List ℕ). LeavesOnly l2 x) c1 (synced_only l1 l2 (c.in_ok-sync.ensures.after t) (not_due _ c.in_ok-sync.ensures.cause.breaks)) in
    let c3 = wrote l2 l3 _ _ (c.in_ok-write_at-2.ensures.after t) (not_due _ c.in_ok-write_at-2.ensures.cause.breaks) in
    after_all l c.args.gate c.args.bytes.now (c.requires.within t) (c.requires.only t) l1 l2 l3 _ _ (c.in_ok-write_at.ensures.after t) c1 (c.in_ok-sync.ensures.after t) o2 (c.in_ok-write_at-2.ensures.after t) (c3 ∙ ap (λ (x : List ℕ). opened_gate c.args.gate x) (c2 ∙ c1)) (c.sync-2.ensures.after t)

-- What is picked where the stop broke that call

pub returns-in_err-write_at-clause-picked : goal.returns-in_err-write_at-clause-picked
returns-in_err-write_at-clause-picked g c = λ t call pick b.
    let l = g.D.Disk.lane_of c.args.disk.now c.args.lane in
    let l1 = g.D.Disk.lane_of c.write_at.new.self c.args.lane in
    first_broke l c.args.gate c.args.bytes.now (c.requires.within t) (c.requires.only t) call pick l1 _ (c.write_at.ensures.after t) b

pub returns-in_err-sync-clause-picked : goal.returns-in_err-sync-clause-picked
returns-in_err-sync-clause-picked g c = λ t call pick b.
    let l = g.D.Disk.lane_of c.args.disk.now c.args.lane in
    let l1 = g.D.Disk.lane_of c.write_at.new.self c.args.lane in
    let l2 = g.D.Disk.lane_of c.sync.new.self c.args.lane in
    second_broke l c.args.gate c.args.bytes.now (c.requires.within t) (c.requires.only t) call pick l1 l2 _ (c.in_ok-write_at.ensures.after t) (not_due _ c.in_ok-write_at.ensures.cause.breaks) (c.sync.ensures.after t) b

pub returns-in_err-write_at-2-clause-picked : goal.returns-in_err-write_at-2-clause-picked
returns-in_err-write_at-2-clause-picked g c = λ t call pick b.
    let l = g.D.Disk.lane_of c.args.disk.now c.args.lane in
    let l1 = g.D.Disk.lane_of c.write_at.new.self c.args.lane in
    let l2 = g.D.Disk.lane_of c.sync.new.self c.args.lane in
    let l3 = g.D.Disk.lane_of c.write_at-2.new.self c.args.lane in
    let c1 = wrote l l1 _ _ (c.in_ok-write_at.ensures.after t) (not_due _ c.in_ok-write_at.ensures.cause.breaks) in
    third_broke l c.args.gate c.args.bytes.now (c.requires.within t) (c.requires.only t) call pick l1 l2 l3 _ (c.in_ok-write_at.ensures.after t) (not_due _ c.in_ok-write_at.ensures.cause.breaks) c1 (c.in_ok-sync.ensures.after t) (not_due _ c.in_ok-sync.ensures.cause.breaks) (c.write_at-2.ensures.after t) b

pub returns-clause-picked : goal.returns-clause-picked
returns-clause-picked g c = λ t call pick b.
    let l = g.D.Disk.lane_of c.args.disk.now c.args.lane in
    let l1 = g.D.Disk.lane_of c.write_at.new.self c.args.lane in
    let l2 = g.D.Disk.lane_of c.sync.new.self c.args.lane in
    let l3 = g.D.Disk.lane_of c.write_at-2.new.self c.args.lane in
    let l4 = g.D.Disk.lane_of c.sync-2.new.self c.args.lane in
    let c1 = wrote l l1 _ _ (c.in_ok-write_at.ensures.after t) (not_due _ c.in_ok-write_at.ensures.cause.breaks) in
    fourth_broke l c.args.gate c.args.bytes.now (c.requires.within t) (c.requires.only t) call pick l1 l2 l3 l4 _ (c.in_ok-write_at.ensures.after t) (not_due _ c.in_ok-write_at.ensures.cause.breaks) c1 (c.in_ok-sync.ensures.after t) (not_due _ c.in_ok-sync.ensures.cause.breaks) (c.in_ok-write_at-2.ensures.after t) (not_due _ c.in_ok-write_at-2.ensures.cause.breaks) (c.sync-2.ensures.after t) b

-- No call takes one back

pub returns-in_err-write_at-clause-keeps : goal.returns-in_err-write_at-clause-keeps
returns-in_err-write_at-clause-keeps g c = λ t. keeps_write _ _ _ _ _ (c.write_at.ensures.after t)

pub returns-in_err-sync-clause-keeps : goal.returns-in_err-sync-clause-keeps
returns-in_err-sync-clause-keeps g c = λ t.
    let l1 = g.D.Disk.lane_of c.write_at.new.self c.args.lane in
    keeps_then _ l1 _ (keeps_write false _ l1 (c.args.gate + 1) c.args.bytes.now (c.in_ok-write_at.ensures.after t)) (keeps_sync _ _ _ (c.sync.ensures.after t))

pub returns-in_err-write_at-2-clause-keeps : goal.returns-in_err-write_at-2-clause-keeps
returns-in_err-write_at-2-clause-keeps g c = λ t.
    let l1 = g.D.Disk.lane_of c.write_at.new.self c.args.lane in
    let l2 = g.D.Disk.lane_of c.sync.new.self c.args.lane in
    keeps_then _ l1 _ (keeps_write false _ l1 (c.args.gate + 1) c.args.bytes.now (c.in_ok-write_at.ensures.after t))
    (keeps_then l1 l2 _ (keeps_sync false l1 l2 (c.in_ok-sync.ensures.after t)) (keeps_write _ _ _ _ _ (c.write_at-2.ensures.after t)))

pub returns-clause-keeps : goal.returns-clause-keeps
returns-clause-keeps g c = λ t.
    let l1 = g.D.Disk.lane_of c.write_at.new.self c.args.lane in
    let l2 = g.D.Disk.lane_of c.sync.new.self c.args.lane in
    let l3 = g.D.Disk.lane_of c.write_at-2.new.self c.args.lane in
    keeps_then _ l1 _ (keeps_write false _ l1 (c.args.gate + 1) c.args.bytes.now (c.in_ok-write_at.ensures.after t))
    (keeps_then l1 l2 _ (keeps_sync false l1 l2 (c.in_ok-sync.ensures.after t))
    (keeps_then l2 l3 _ (keeps_write false l2 l3 c.args.gate (1 ∷ []) (c.in_ok-write_at-2.ensures.after t)) (keeps_sync _ _ _ (c.sync-2.ensures.after t))))
