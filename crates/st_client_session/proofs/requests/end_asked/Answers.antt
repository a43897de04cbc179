use Rattle.st_client_session.proofs.Ended.{match_own, no_other}
use Rattle.st_client_session.proofs.requests.end_asked.Goals as goal

pub unreachable-requires : goal.unreachable-requires
unreachable-requires c = no_other c.args.requests.now _ c.in-Some.number c.in-Some.field-0-1.now c.in-Some.ensures c.in-Other.ensures

pub returns-clause-body : goal.returns-clause-body
returns-clause-body c = (match_own c.args.requests.now c.reply.new.self c.in-Some.number c.in-Some.field-0-1.now c.in-Match.body c.in-Some.ensures c.in-Match.ensures).0

pub returns-clause-left : goal.returns-clause-left
returns-clause-left c = (match_own c.args.requests.now c.reply.new.self c.in-Some.number c.in-Some.field-0-1.now c.in-Match.body c.in-Some.ensures c.in-Match.ensures).1
