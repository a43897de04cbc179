-- The files of a client's locks are among those of which a fact is known: what the rules of a client leave of that.
use Rattle.st_lemmas.proofs.Words
use Words.{◌≡◌, ◌⊎◌, ℕ, ◌+◌, ◌≤◌, ◌<◌, arith, Bool, true, false, not, ◌&&◌, ◌||◌, ◌==◌, List, [], ◌∷◌, ◌++◌, Option, Some, None, refl, sym, ap, ◌∙◌, subst, inl, inr, if◌then◌else◌}
use Words.{append-nil, append_assoc, eq-eqb, eqb-true, filter, is_some, le-leb, leb-true, map, nat_le, Ask, Body, ClientId, Config, FileId, GrantNo, Header, HeldLock, KnownExtent, Message, Mode, Operation, PageCommand, PageNo, Request, ServerId, Stage, Stamp, Tag, Why}
use Words.answers
use Words.asks
use Words.bodies
use Words.io
use Words.modes
use Words.phases
use Words.stages
use Words.Client as cl
use Words.ClientLease as lease
use Words.ClientLocks as locks
use Words.ClientLocks.{LockCache}
use Words.ClientPages as pages
use Words.ClientPages.{Store}
use Words.ClientPasses as cp
use Words.ClientReplies as cr
use Words.ClientState as cs
use Words.ClientState.{Association, ClientSession, Requests, Turn, only_at, server_of, with_operations}
use Words.Keys.{put, same_page, same_server}
use Words.Leases as leases
use Words.Lists.{Has}
use Words.Tables.{found_at, has_filter}
use Rattle.st_lemmas.proofs.Puts.{has_put}
use Rattle.st_trace.specs.Client.Messages as trace
use Rattle.st_trace.specs.Client.Messages.{Effect, Grants, Heard, Receives, Refusal, Renews}

module _ (Known : ServerId → ℕ → Type 0) where
  -- the files of locks are known
  abbrev pub LocksKnown : ServerId → LockCache → Type 0
  LocksKnown s z = (l : HeldLock) → Has l z.rows → Known s l.ino

  pub locked_file : (s : ServerId) (z : LockCache) (ino : ℕ) (l : HeldLock) → LocksKnown s z → locks.lock_of z ino ≡ Some l → Known s ino
  locked_file s z ino l h e = let y = found_at (locks.is_lock_on ino) z.rows l e in subst (Known s) (eqb-true l.ino ino y.0) (h l y.1)

  pub mode_known : (s : ServerId) (z : LockCache) (ino : ℕ) (mode : Mode) → (mode ≡ modes.None → ⊥) → LocksKnown s z →
      Rattle.st_base.specs.Mode.covers (locks.mode_of z ino) mode ≡ true → Known s ino
  mode_known s z ino mode some h e = go (locks.lock_of z ino) refl e
    where
      none : (m : Mode) → (m ≡ modes.None → ⊥) → Rattle.st_base.specs.Mode.covers modes.None m ≡ true → ⊥
      none modes.None f q = f refl
      none modes.S f q = cc q
      none modes.X f q = cc q

      go : (o : Option HeldLock) → locks.lock_of z ino ≡ o → Rattle.st_base.specs.Mode.covers (locks.mode_at o) mode ≡ true → Known s ino
      go (Some l) q y = locked_file s z ino l h q
      go None q y = absurd (none mode some y)

  put_known : (s : ServerId) (l : HeldLock) (rows : List HeldLock) → Known s l.ino → ((x : HeldLock) → Has x rows → Known s x.ino) →
      (x : HeldLock) → Has x (locks.with_lock l rows) → Known s x.ino
  put_known s l rows n h x i = go (has_put (locks.is_lock_on l.ino) l rows x i)
    where
      go : (x ≡ l) ⊎ Has x rows → Known s x.ino
      go (inl e) = subst (λ (y : HeldLock). Known s y.ino) (sym e) n
      go (inr j) = h x j

  pub granted_locks : (s : ServerId) (x : ClientSession) (ino : ℕ) (g : GrantNo) (mode : Mode) (v : ClientSession) → Grants x ino g mode v → Known s ino →
      LocksKnown s x.locks → LocksKnown s v.locks
  unfolding locks.installed locks.observe
  granted_locks s x ino g mode _ (trace.Installs a b) n h = put_known s (locks.held_lock ino g mode) x.locks.rows n h
  granted_locks s x ino g mode _ (trace.Declines a b) n h = h
  granted_locks s x ino g mode _ (trace.IsOld a) n h = h

  pub demanded_locks : (s : ServerId) (z : LockCache) (ino : ℕ) (g : GrantNo) (to : Mode) → LocksKnown s z → LocksKnown s (locks.demand z ino g to).locks
  unfolding locks.demand locks.demand_at locks.demand_unheld locks.demand_held locks.demand_lock locks.demand_stale locks.observe
  demanded_locks s z ino g to h = at (locks.lock_of z ino) refl
    where
      held : (l : HeldLock) → locks.lock_of z ino ≡ Some l → (b : Bool) →
          LocksKnown s (if b then locks.demand_lock z ino g to l else locks.demand_stale z).locks
      held l e true = put_known s (locks.held_lock ino g l.mode) z.rows (locked_file s z ino l h e) h
      held l e false = h

      at : (o : Option HeldLock) → locks.lock_of z ino ≡ o → LocksKnown s (locks.demand_at z ino g to o).locks
      at None e = h
      at (Some l) e = held l e (nat_le l.g.0 g.0)

  pub dropped_locks : (s : ServerId) (z : LockCache) (ino : ℕ) → LocksKnown s z → LocksKnown s (locks.drop_lock z ino)
  unfolding locks.drop_lock
  dropped_locks s z ino h l i = h l (has_filter (λ r. not (locks.is_lock_on ino r)) z.rows l i).0

  pub reduced_locks : (s : ServerId) (z : LockCache) (ino : ℕ) → LocksKnown s z → LocksKnown s (locks.reduce z ino).locks
  unfolding locks.reduce locks.reduce_at locks.reduce_lock locks.lower
  reduced_locks s z ino h = demand (locks.demand_of z ino)
    where
      lowered : (i : ℕ) (l : HeldLock) (to : Mode) → locks.lock_of z i ≡ Some l → (x : HeldLock) → Has x (locks.lowered_rows z.rows i l to) → Known s x.ino
      lowered i l modes.None e x j = h x (has_filter (λ r. not (locks.is_lock_on i r)) z.rows x j).0
      lowered i l modes.S e x j = put_known s (locks.held_lock i l.g modes.S) z.rows (locked_file s z i l h e) h x j
      lowered i l modes.X e x j = put_known s (locks.held_lock i l.g modes.S) z.rows (locked_file s z i l h e) h x j

      lock : (d : Words.DemandedFile) (o : Option HeldLock) → locks.lock_of z d.ino ≡ o → LocksKnown s (locks.reduce_lock z d o).locks
      lock d None e = h
      lock d (Some l) e = lowered d.ino l d.to e

      demand : (o : Option Words.DemandedFile) → LocksKnown s (locks.reduce_at z o).locks
      demand None = h
      demand (Some d) = lock d (locks.lock_of z d.ino) refl
