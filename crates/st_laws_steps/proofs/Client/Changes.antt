-- A client's rules as lists of changes: how lists are put together.
use Rattle.st_lemmas.proofs.Words
use Words.{◌≡◌, ◌≤◌, List, ◌∷◌, ◌++◌, refl, ap, sym, ◌∙◌, inl, arith, if◌then◌else◌, Stamp, KnownExtent}
use Words.ClientPages.{Store}
use Words.ClientState.{ClientSession, Requests, Turn, keep}
use Rattle.st_laws_steps.specs.Client.Client.{Asks, GoesOn, Change, Changes, Still, Then, map_asked}
use Rattle.st_laws_steps.specs.Client.Session.{AsksNothing, Keeps, LocksStay}

pub one : {now : Stamp} {t u : Turn} → Change now t u → Changes now t u
one {now} {t} {u} c = Then t u u c (Still u)

both_of : (now : Stamp) (t u v : Turn) → Changes now t u → Changes now u v → Changes now t v
both_of now _ _ v (Still x) c = c
both_of now _ _ v (Then t x u a b) c = Then t x v a (both_of now x u v b c)

pub both : {now : Stamp} {t u v : Turn} → Changes now t u → Changes now u v → Changes now t v
both {now} {t} {u} {v} a c = both_of now t u v a c

-- a session as it is asks nothing
pub alike_stay : (xs : List KnownExtent) (s : ClientSession) → AsksNothing xs s s
alike_stay xs s = record { epoch = refl; requests = refl; cutting = refl; due = refl; date = refl; locks = LocksStay s.locks }

-- a session that asks nothing goes on
pub keeps_date : (xs : List KnownExtent) (s u : ClientSession) → AsksNothing xs s u → s.lease.date.0 ≤ u.lease.date.0
keeps_date xs s u a = let z = ap (λ (x : Stamp). x.0) a.date in omega (arith, z)

pub keeps_asks : (st : Store) (s u : ClientSession) → AsksNothing st.extents s u → Asks st s.requests.asked u.requests.asked
keeps_asks st s u a = λ x e. inl (ap (λ (r : Requests). map_asked r.asked) (sym a.requests) ∙ e)

abbrev pub goes_keeps : (st : Store) (s u : ClientSession) → AsksNothing st.extents s u → GoesOn st s u
goes_keeps st s u a = record { how = Keeps s u a; date = keeps_date st.extents s u a; asks = keeps_asks st s u a }
