use Rattle.st_held_steps.proofs.HeldHistories.{all_kept, all_wait, few_wait, in_order}
use Rattle.st_held_steps.proofs.law.nothing_is_given_before_it_is_kept.Goals as goal

pub returns-clause-order : goal.returns-clause-order
returns-clause-order g c = λ limit es. in_order limit es

pub returns-clause-kept : goal.returns-clause-kept
returns-clause-kept g c = λ limit es. all_kept limit es

pub returns-clause-waits : goal.returns-clause-waits
returns-clause-waits g c = λ limit es m ms e lt. all_wait limit es m ms e lt

pub returns-clause-few : goal.returns-clause-few
returns-clause-few g c = λ limit es. few_wait limit es
