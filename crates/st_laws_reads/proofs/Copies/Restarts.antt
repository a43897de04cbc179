-- A client that crashes has nothing cached, and starts in lives that no entry of it reached.
use Rattle.st_lemmas.proofs.Words
use Words.{ℕ, ◌<◌, List, [], ◌∷◌, Option, refl, arith, map, ClientId, ServerId, Stamp, Ask, LogEntry}
use Words.Client as cl
use Words.ClientPages.{empty_store}
use Words.ClientState.{Association, ClientState}
use Rattle.st_laws_reads.specs.Copies.Law.{Apart, Differs, AllLived, EachStands, AllWhile, ClientStands, ClientCopies}
use Rattle.st_laws_reads.specs.Copies.World.{ClientRests, RestartsKeepCopies}
use Rattle.st_laws_reads.proofs.Copies.Caches.{nothing_ok}
use Rattle.st_laws_reads.proofs.Copies.Losing.{unlived_fates, lived_on}

crashed_differs : (sv : ServerId) (xs : List Association) → Differs sv xs → Differs sv (map cl.crashed_association xs)
crashed_differs sv [] d = record {}
crashed_differs sv (a ∷ xs) d = record { one = d.one; rest = crashed_differs sv xs d.rest }

crashed_apart : (xs : List Association) → Apart xs → Apart (map cl.crashed_association xs)
crashed_apart [] d = record {}
crashed_apart (a ∷ xs) d = record { one = crashed_differs a.server xs d.one; rest = crashed_apart xs d.rest }

started_differs : (sv : ServerId) (xs : List Association) → Differs sv xs → Differs sv (map cl.started_association xs)
started_differs sv [] d = record {}
started_differs sv (a ∷ xs) d = record { one = d.one; rest = started_differs sv xs d.rest }

started_apart : (xs : List Association) → Apart xs → Apart (map cl.started_association xs)
started_apart [] d = record {}
started_apart (a ∷ xs) d = record { one = started_differs a.server xs d.one; rest = started_apart xs d.rest }

module _ (asked_as : ℕ → Option Ask) (c : ClientId) (es : List LogEntry) where
  crashed_lived : (lease now : ℕ) (xs : List Association) → AllWhile lease now c es xs → AllLived c es (map cl.crashed_association xs)
  crashed_lived lease now [] r = record {}
  crashed_lived lease now (a ∷ xs) r = record { one = r.one.lived; rest = crashed_lived lease now xs r.rest }

  started_stand : (xs : List Association) → AllLived c es xs → EachStands c es (map cl.started_association xs)
  started_stand [] r = record {}
  started_stand (a ∷ xs) r =
      record {
        one = record {
          pages = λ ino p. nothing_ok 0 _ empty_store ino p (record { dirty = refl; clean = refl; known = refl; reading = refl });
          fates = unlived_fates c a.server a.life (cl.next_life a.life) empty_store es next r.one;
          lived = lived_on asked_as c (λ s. a.life) es a.server a.life (cl.next_life a.life) es (omega (arith, next)) r.one;
        };
        rest = started_stand xs r.rest;
      }
    where
      next : a.life.0 < (cl.next_life a.life).0
      next = omega arith

  crashes : (now : Stamp) (s : ClientState) → ClientCopies asked_as c es now s → ClientRests c es (cl.crash s)
  unfolding cl.crash
  crashes now s h = record { apart = crashed_apart s.associations h.apart; lived = crashed_lived s.config.lease now.0 s.associations h.copies }

  starts : (s : ClientState) → ClientRests c es s → ClientStands asked_as c es (cl.start s)
  unfolding cl.start
  starts s h = record { apart = started_apart s.associations h.apart; copies = started_stand s.associations h.lived; asked = record {} }

pub restarts_keep_copies : RestartsKeepCopies
restarts_keep_copies asked_as c es now s = record { crashes = crashes asked_as c es now s; starts = starts asked_as c es s }
