-- What every change of the lock table keeps, a whole step keeps.
use Rattle.st_lemmas.proofs.Words
use Words.{◌≡◌, Bool, ℕ, ◌≤◌, ◌⊎◌, false, List, refl, inl, inr, None, list_any, ClientId, GrantNo, Life, Stamp, Mode, ServerInput, LockRow, RowDemand, Waiter}
use Words.Locks as locks
use Words.Locks.{Locks, stands_against, grant, queue, release_to, first_conflict, with_rows, with_demand}
use Words.Server.{ServerState, ServerTurn, sender, life_in, reply, tell, steal_from, suspect_client, keep_and_reply, server_step}
use Words.Lists.{Has}
use Rattle.st_base.specs.Mode.{number_of}
use Rattle.st_laws_refine.specs.Server.Edits.{AllSome, WishInput, Acquired, AtOnce, InTurn, Edit, TakesTimers, Steals, Suspects, Begins, DropsWaits, Keeps}
use Rattle.st_laws_refine.specs.Server.Edits.{Reasserts, Sees, Acquires, Releases, DropsFile, Grants, Demands, NamesChange, ExtentsChange, Cuts, Replies}
use Rattle.st_laws_refine.specs.Server.Edits.{Repeats, Refuses, TellsGrant, TellsDemand}
use Rattle.st_laws_refine.proofs.Server.Walk.{walk}

-- a mode that is asked for now, or that a waiter asked for
abbrev pub Wanted : Locks → Mode → Type 0
Wanted l mode = (1 ≤ number_of mode) ⊎ ((w : Waiter) × Has w l.waiters × (w.mode ≡ mode))

-- what each change of the table keeps
pub record Closed (P : Locks → Type 0) : Type 0 where
  pub forget : (l : Locks) (c : ClientId) → P l → P (locks.forget l c)
  pub drop : (l : Locks) (c : ClientId) → P l → P (locks.drop_waits l c)
  pub drop_file : (l : Locks) (ino : ℕ) → P l → P (locks.drop_file_waits l ino)
  pub seen : (l : Locks) (c : ClientId) (ino : ℕ) (g : GrantNo) → P l → P (locks.demand_seen l c ino g)
  pub install : (l : Locks) (c : ClientId) (life : Life) (rs : List (ℕ × GrantNo × Mode)) → AllSome rs → first_conflict l c rs ≡ None → P l → P (with_rows l c life rs)
  pub granted : (l : Locks) (c : ClientId) (life : Life) (ino : ℕ) (mode : Mode) → Wanted l mode → list_any (stands_against c ino mode) l.rows ≡ false → P l → P (grant l c life ino mode)
  pub queued : (l : Locks) (c : ClientId) (life : Life) (ino : ℕ) (mode : Mode) → 1 ≤ number_of mode → P l → P (queue l c life ino mode)
  pub released : (l : Locks) (c : ClientId) (ino : ℕ) (to : Mode) → P l → P (release_to l c ino to)
  pub demanded : (l : Locks) (r : LockRow) (x : RowDemand) → P l → P (with_demand r x l)

module _ (P : Locks → Type 0) (k : Closed P) where
  acquired : (g : Bool) (l : Locks) (c : ClientId) (life : Life) (ino : ℕ) (mode : Mode) (v : Locks) → Acquired g l c life ino mode v → P l → P v
  acquired g l c life ino mode v (AtOnce off w f nobody) p = k.granted l c life ino mode (inl w) f p
  acquired g l c life ino mode v (InTurn w) p = k.queued l c life ino mode w p

  pub table_edit : (n : ServerState) (now : Stamp) (i : ServerInput) (t u : ServerTurn) → Edit n now i t u → P t.state.locks → P u.state.locks
  unfolding steal_from suspect_client keep_and_reply reply tell
  table_edit n now i t u (TakesTimers _ first) p = p
  table_edit n now i t u (Steals _ c s h e) p = k.forget t.state.locks c p
  table_edit n now i t u (Suspects _ c q f z) p = k.drop t.state.locks c p
  table_edit n now i t u (Begins _ c life) p = p
  table_edit n now i t u (DropsWaits _ m s is b e lower) p = k.drop t.state.locks (sender m.header) p
  table_edit n now i t u (Keeps _ c number b e) p = p
  table_edit n now i t u (Reasserts _ m rows is w g f) p = k.install t.state.locks (sender m.header) (life_in m.header) rows w f p
  table_edit n now i t u (Sees _ m ino g is fi b) p = k.seen t.state.locks (sender m.header) ino g p
  table_edit n now i t u (Acquires _ m ino mode l b s is fi eb es el ok kb a) p = acquired _ t.state.locks (sender m.header) (life_in m.header) ino mode l a p
  table_edit n now i t u (Releases _ m ino g to r is fi b er eu) p = k.released t.state.locks (sender m.header) ino to p
  table_edit n now i t u (DropsFile _ m dir name g ino is b e) p = k.drop_file t.state.locks ino p
  table_edit n now i t u (Grants _ w off h first f) p = k.granted t.state.locks w.client w.life w.ino w.mode (inr (w, h, refl)) f p
  table_edit n now i t u (Demands _ r x to er ed) p = k.demanded t.state.locks r x p
  table_edit n now i t u (NamesChange _ v) p = p
  table_edit n now i t u (ExtentsChange _ v) p = p
  table_edit n now i t u (Cuts _ f q) p = p
  table_edit n now i t u (Replies _ m b is ok) p = p
  table_edit n now i t u (Repeats _ m s last b is r f e g) p = p
  table_edit n now i t u (Refuses _ m rows r is f q e) p = p
  table_edit n now i t u (TellsGrant _ c life ino g mode) p = p
  table_edit n now i t u (TellsDemand _ c life ino g mode) p = p

  -- the whole step
  pub step_locks : (n : ServerState) (now : Stamp) (i : ServerInput) → WishInput i → P n.locks → P (server_step n now i).state.locks
  step_locks n now i w p = walk n now i (λ t. P t.state.locks) (table_edit n now i) w p
