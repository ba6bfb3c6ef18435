-- What is left is what the log's call left; where memory is refused no call was made
use Rattle.std.proofs.Common.{Some, Ok, Err, refl}
use Rattle.gr_publog.specs.Views.{appended}
use Rattle.gr_publog.proofs.Passing.{appends_unmade}
use Rattle.gr_broker.proofs.Using.{appends_both, log_uses}
use Rattle.gr_broker.proofs.hosting.log_and_learn.Goals as goal

pub returns-in-Err-clause-lane : goal.returns-in-Err-clause-lane
returns-in-Err-clause-lane g c = λ t. appends_unmade c.stands_read.ensures c.args.log.now _ _ (c.requires.stands t) refl (Some c.args.entry.now)

pub returns-in-Err-reserve_learning-clause-lane : goal.returns-in-Err-reserve_learning-clause-lane
returns-in-Err-reserve_learning-clause-lane g c = λ t. appends_unmade c.stands_read.ensures c.args.log.now _ _ (c.requires.stands t) refl (Some c.args.entry.now)

pub returns-in-Ok-append-clause-uses : goal.returns-in-Ok-append-clause-uses
returns-in-Ok-append-clause-uses g c =
    let l = c.args.log.now in
    let k = c.in-Ok-append.ensures in
    log_uses c.args.disk.now c.append.new.disk l c.append.new.self (appended c.args.entry.now l) l.second (Ok c.in-Ok-append.field-0) c.requires.stands k.log refl refl k.disk
    (λ t. appends_both l _ _ _ _ (k.lanes t)) (λ t. (k.lanes t).stands) (λ t. (k.lanes t).untouched)

pub returns-in-Err-append-clause-uses : goal.returns-in-Err-append-clause-uses
returns-in-Err-append-clause-uses g c =
    let l = c.args.log.now in
    let k = c.in-Err-append.ensures in
    log_uses c.args.disk.now c.append.new.disk l c.append.new.self (appended c.args.entry.now l) l.second (Err c.in-Err-append.fault) c.requires.stands k.log refl refl k.disk
    (λ t. appends_both l _ _ _ _ (k.lanes t)) (λ t. (k.lanes t).stands) (λ t. (k.lanes t).untouched)
