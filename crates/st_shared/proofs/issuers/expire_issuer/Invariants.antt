use Rattle.st_lemmas.proofs.Words
use Words.{◌≡◌, ◌++◌, drop, take, map}
use Rattle.st_shared.specs.Shared.{expire_issuer}
use Rattle.st_shared.proofs.issuers.expire_issuer.Given as goal

abbrev pub invariant-loop-issuer : goal.invariant-loop-issuer
invariant-loop-issuer l = take l.issuer-index l.issuers ++ map (expire_issuer l.client) (drop l.issuer-index l.issuers) ≡ map (expire_issuer l.client) l.initial.issuers
