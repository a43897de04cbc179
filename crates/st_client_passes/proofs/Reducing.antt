-- Reductions, by what is given up.
use Rattle.std.proofs.Common.{◌≡◌, ℕ, true, Option, Some, None, refl, sym, ap, ◌∙◌}
use Rattle.st_base.specs.declared.ids.GrantNo.{GrantNo}
use Rattle.st_base.specs.declared.mode.Mode.{Mode}
use Rattle.st_rules.specs.declared.client.DemandedFile.{DemandedFile}
use Rattle.st_rules.specs.declared.client.HeldLock.{HeldLock}
use Rattle.st_rules.specs.ClientLocks as locks
use Rattle.st_rules.specs.ClientLocks.{LockCache, reduce_at, reduce_lock}
use Rattle.st_rules.specs.ClientPasses.{reduce_by, reduce_given, reduce_to}
use Rattle.st_rules.specs.ClientState.{Turn, with_cache, with_session}
use Rattle.st_client_association.specs.Turns.{has_session, session_of}
use Rattle.st_client_passes.proofs.Sessions.{session_is}

-- if nothing is given up, the locks stay
kept_lock : (c : LockCache) (d : DemandedFile) (l : Option HeldLock) → (reduce_lock c d l).given ≡ None → (reduce_lock c d l).locks ≡ c
unfolding reduce_lock
kept_lock c d None e = refl
kept_lock c d (Some l) e = cc

kept_at : (c : LockCache) (d : Option DemandedFile) → (reduce_at c d).given ≡ None → (reduce_at c d).locks ≡ c
unfolding reduce_at
kept_at c None e = refl
kept_at c (Some d) e = kept_lock c d (locks.lock_of c d.ino) e

kept_locks : (c : LockCache) (ino : ℕ) → (locks.reduce c ino).given ≡ None → (locks.reduce c ino).locks ≡ c
unfolding locks.reduce
kept_locks c ino e = kept_at c (locks.demand_of c ino) e

module _ (t u : Turn) (ino : ℕ) (is : u ≡ with_session (with_cache (locks.reduce (session_of t).locks ino).locks (session_of t)) t) where
  -- nothing is given up
  pub reduced_none : has_session t ≡ true → None ≡ (locks.reduce (session_of t).locks ino).given → u ≡ reduce_by t (session_of t) ino (locks.reduce (session_of t).locks ino)
  unfolding reduce_by reduce_given
  reduced_none h e =
      is
      ∙ (λ i. with_session (with_cache (kept_locks (session_of t).locks ino (sym e) i) (session_of t)) t)
      ∙ (λ i. record t { here = record t.here { session = sym (session_is t h) i } })
      ∙ ap (reduce_given t (with_cache (locks.reduce (session_of t).locks ino).locks (session_of t)) ino) e

  -- a lock is given up
  pub reduced_some : (g : GrantNo) (to : Mode) → Some (g, to) ≡ (locks.reduce (session_of t).locks ino).given → reduce_to u (session_of u) ino g to ≡ reduce_by t (session_of t) ino (locks.reduce (session_of t).locks ino)
  unfolding reduce_by reduce_given reduce_to
  reduced_some g to e =
      ap (λ v. reduce_to v (session_of v) ino g to) is
      ∙ ap (reduce_given t (with_cache (locks.reduce (session_of t).locks ino).locks (session_of t)) ino) e
