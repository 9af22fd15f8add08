use Rattle.sections.proofs.Written.{lists_written}
use Rattle.sections.proofs.file.list.Goals as goal

pub returns-then-page_length-eq0-clause-written : goal.returns-then-page_length-eq0-clause-written
returns-then-page_length-eq0-clause-written c = lists_written

pub returns-then-not-contains-clause-written : goal.returns-then-not-contains-clause-written
returns-then-not-contains-clause-written c = lists_written

pub returns-in_default-clause-written : goal.returns-in_default-clause-written
returns-in_default-clause-written c = lists_written

pub returns-clause-written : goal.returns-clause-written
returns-clause-written c = lists_written
