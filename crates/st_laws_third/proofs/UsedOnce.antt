-- Grants and reductions of a client of the third form are lists of changes.
use Rattle.st_lemmas.proofs.Words
use Words.{◌≡◌, ◌⊎◌, ℕ, Bool, true, false, List, [], ◌∷◌, Option, Some, None, find, not, refl, sym, subst, inl, inr, if◌then◌else◌, eqb-true}
use Words.{DemandedFile, GrantNo, HeldLock, Mode, Stamp}
use Words.bodies
use Words.ClientLocks as locks
use Words.ClientPages as pages
use Words.ClientPasses as passes
use Words.ClientReplies as replies
use Words.ClientState.{Association, ClientSession, forget_wait, is_busy}
use Words.Lists.{Has}
use Words.Tables.{and_true, found_at}
use Rattle.st_laws_steps.proofs.Client.Replying.{granted_alike}
use Rattle.st_third.specs.State.{ThirdTurn, plainly, session}
use Rattle.st_third.specs.UsedOnce as used
use Rattle.st_lemmas.proofs.Puts.{has_put}
use Rattle.st_laws_third.specs.Changes.{ThirdChanges, GoesOnBy, Heard, Hears, IsBeside, IsGranted, LockFrom, Reduces, SameEpoch, SameRun, Still, WasHeld}
use Rattle.st_laws_third.proofs.Chains.{both, either, follows, one, same_locks}

-- the lock that is installed was granted, and the others were there
pub has_granted : {got : Heard} (a : Association) (s : ClientSession) (epoch ino : ℕ) (g : GrantNo) (mode : Mode) → Hears got a epoch (bodies.Granted ino g mode) →
    GoesOnBy got a (Some s) (replies.grant (forget_wait ino s) ino g mode)
unfolding replies.grant replies.grant_new replies.accept_grant replies.decline locks.installed locks.observe
has_granted {got} a s epoch ino g mode h = by (locks.is_above_seen s.locks ino g) (locks.has_place s.locks ino)
  where
    z : ClientSession
    z = forget_wait ino s

    put_in : (l : HeldLock) → (l ≡ locks.held_lock ino g mode) ⊎ Has l s.locks.rows → LockFrom got a s.locks.rows l
    put_in l (inl e) = subst (LockFrom got a s.locks.rows) (sym e) (IsGranted epoch mode h)
    put_in l (inr i) = WasHeld l i refl refl

    by : (b d : Bool) → GoesOnBy got a (Some s) (if b then (if d then replies.accept_grant z ino g mode else replies.decline z ino g) else z)
    by false d = same_locks a s z refl refl
    by true false = same_locks a s (replies.decline z ino g) refl refl
    by true true =
        record {
          locks = λ l i. put_in l (has_put (locks.is_lock_on ino) (locks.held_lock ino g mode) s.locks.rows l i);
          epoch = SameEpoch s refl refl;
        }

module _ {got : Heard} {now : Stamp} where
  owes : (t : ThirdTurn) (ino : ℕ) (mode : Mode) → ThirdChanges got now t (used.owe t ino mode)
  unfolding used.owe
  owes t ino mode = one (IsBeside t _ (SameRun refl))

  pub grants : (t : ThirdTurn) (s : ClientSession) (epoch ino : ℕ) (g : GrantNo) (mode : Mode) → session t ≡ Some s →
      Hears got t.plain.here epoch (bodies.Granted ino g mode) →
      ThirdChanges got now t (used.granted t s ino g mode)
  unfolding used.granted used.grant
  grants t s epoch ino g mode e h =
      let z : ClientSession = forget_wait ino s in
      let taken : ThirdChanges got now t (used.take_grant t z ino g mode) =
      follows t s (replies.grant z ino g mode) e (granted_alike t.plain.here.store.extents s ino g mode)
      (has_granted t.plain.here s epoch ino g mode h) in
      either (used.is_installed z ino g) t _ _ (λ q. both taken (owes (used.take_grant t z ino g mode) ino mode)) (λ q. taken)

  -- Reductions.

  reduces : (ds : List DemandedFile) (t : ThirdTurn) (s : ClientSession) (ino : ℕ) → session t ≡ Some s → (d : Option DemandedFile) →
      find (locks.is_demand_on ino) ds ≡ d → pages.is_idle t.plain.here.store ino ≡ true → ThirdChanges got now t (plainly (used.reduced s d ino) t)
  unfolding plainly passes.reduce_by passes.reduce_given locks.reduce_at
  reduces ds t s ino e None q i = Still t
  reduces ds t s ino e (Some d) q i = one (Reduces t s d ino e (eqb-true d.ino ino (found_at (locks.is_demand_on ino) ds d q).0) i)

  reduces_file : (ds : List DemandedFile) (t : ThirdTurn) (ino : ℕ) (x : Option ClientSession) → session t ≡ x →
      ThirdChanges got now t (used.reduce t ino (find (locks.is_demand_on ino) ds) x)
  unfolding used.reduce used.reduce_idle
  reduces_file ds t ino None e = Still t
  reduces_file ds t ino (Some s) e =
      either (used.may_reduce t s ino) t _ _
      (λ m. reduces ds t s ino e (find (locks.is_demand_on ino) ds) refl
      (and_true (pages.is_idle t.plain.here.store ino) (not (is_busy t.plain.operations t.plain.here.server s ino))
      (and_true (passes.may_reduce t.plain s ino) _ m).0).0)
      (λ m. Still t)

  pub reduces_each : (ds : List DemandedFile) (inos : List ℕ) (t : ThirdTurn) → ThirdChanges got now t (used.reduce_each ds inos t)
  unfolding used.reduce_each
  reduces_each ds [] t = Still t
  reduces_each ds (ino ∷ inos) t = both (reduces_file ds t ino (session t) refl) (reduces_each ds inos _)
