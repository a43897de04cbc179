use Rattle.st_protocol.proofs.World.{invariant}
use Rattle.st_laws_leases.proofs.Order.Below.{all_moves, one_move}
use Rattle.st_laws_leases.proofs.Order.Changes.{changed, cut}
use Rattle.st_laws_leases.proofs.locks_stay_in_order.Goals as goal

pub returns-clause-moves : goal.returns-clause-moves
returns-clause-moves c = λ k H w d b ok r o m. one_move k H (invariant k w ok r d) m o

pub returns-clause-lists : goal.returns-clause-lists
returns-clause-lists c = λ k H w d b ok r o m. all_moves k H ok (invariant k w ok r d) m o

pub returns-clause-changes : goal.returns-clause-changes
returns-clause-changes c = λ k H w d i ok r o al two low. changed k ok w r d i al two H o low

pub returns-clause-cuts : goal.returns-clause-cuts
returns-clause-cuts c = λ k H w d i ok r o two single low. cut k ok w r d i two H o single low
