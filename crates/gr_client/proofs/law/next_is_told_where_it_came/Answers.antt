use Rattle.gr_client.proofs.Heard.{told_where_it_came}
use Rattle.gr_client.proofs.ToldLines.{prints_what_came}
use Rattle.gr_client.proofs.law.next_is_told_where_it_came.Goals as goal

pub returns-clause-told : goal.returns-clause-told
returns-clause-told c = told_where_it_came

pub returns-clause-printed : goal.returns-clause-printed
returns-clause-printed c = prints_what_came
