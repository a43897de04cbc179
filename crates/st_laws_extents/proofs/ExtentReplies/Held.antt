-- The lock under which extents were asked has a mode; and extents of a file that stay are reported the same.
use Rattle.st_lemmas.proofs.Words
use Words.{◌≡◌, ℕ, ◌≤◌, true, List, [], ◌∷◌, Option, Some, None, refl, sym, ap, ◌∙◌, subst, inl, inr, arith, filter_map, FileId, PageNo, ExtentRow, Body}
use Words.{HeldLock}
use Words.bodies
use Words.ClientLocks as locks
use Words.ClientReplies.{is_current, is_grant}
use Words.ClientState.{Association, ClientSession}
use Words.Extents as extents
use Words.Extents.{Extents}
use Words.Keys.{client}
use Words.Server.{ServerNode}
use Words.World.{World, WorldClient, node_of, server, site_of}
use Words.Lists.{Has}
use Words.Tables.{found_at}
use Words.Truth.{clash}
use Rattle.st_base.specs.Mode.{number_of}
use Rattle.st_protocol.specs.Assoc.{Config}
use Rattle.st_laws_refine.specs.Views.Halves.{held_at, held_in}
use Rattle.st_laws_refine.specs.Client.Invariants.{HaveModes, Kept}
use Rattle.st_laws_leases.specs.Sides.Invariants.{Standing}
use Rattle.st_laws_leases.specs.Sides.World.{AllStand, ServerStands}
use Rattle.st_laws_leases.proofs.Sides.Pairs.{only_here}
use Rattle.st_laws_extents.specs.ExtentReplies.Steps.{AsksExtents, TellsRows, file_of}

pub lock_mode : (ls : List HeldLock) (l : HeldLock) → HaveModes ls → Has l ls → 1 ≤ number_of l.mode
lock_mode [] l m i = elim i [ ]
lock_mode (x ∷ ls) l m (inl e) = subst (λ (y : HeldLock). 1 ≤ number_of y.mode) (sym e) m.one
lock_mode (x ∷ ls) l m (inr i) = lock_mode ls l m.rest i

-- the lock that a request for extents names
current_lock : (b : Body) (c : locks.LockCache) (ino : ℕ) (p : PageNo) (n : ℕ) → AsksExtents b ino p n → is_current c b ≡ true → (l : HeldLock) × (locks.lock_of c ino ≡ Some l)
current_lock b c ino p n a e = go b a e
  where
    at : (g : Rattle.st_base.specs.declared.ids.GrantNo.GrantNo) (o : Option HeldLock) → is_grant g o ≡ true → (l : HeldLock) × (o ≡ Some l)
    at g None e = clash e refl
    at g (Some l) e = (l, refl)

    go : (b : Body) → AsksExtents b ino p n → is_current c b ≡ true → (l : HeldLock) × (locks.lock_of c ino ≡ Some l)
    go (bodies.Map i g q) a e = subst (λ j. (l : HeldLock) × (locks.lock_of c j ≡ Some l)) a.0 (at g (locks.lock_of c i) e)
    go (bodies.Allocate i g q k) a e = subst (λ j. (l : HeldLock) × (locks.lock_of c j ≡ Some l)) a.0 (at g (locks.lock_of c i) e)
    go b a e = clash e refl

-- it has a mode, at a server that is there
pub current_mode : (k : Config) (count : ℕ) (w : World) → AllStand k count w → (s : ℕ) (node : ServerNode) → node_of w (server s) ≡ Some node → (d : ℕ) (site : WorldClient) → site_of w (client d) ≡ Some site → (a : Association) → Has a site.node.state.associations →
    a.server ≡ server s → (x : ClientSession) → a.session ≡ Some x → (b : Body) (ino : ℕ) (p : PageNo) (n : ℕ) → AsksExtents b ino p n → is_current x.locks b ≡ true → 1 ≤ (held_in a.session ino).mode
current_mode k count w all s node is d site at a i e x f b ino p n asks cur =
    subst (λ o. 1 ≤ (held_in o ino).mode) (sym f)
    (subst (λ o. 1 ≤ (held_at o).mode) (sym lock.1) (lock_mode x.locks.rows lock.0 modes (found_at (locks.is_lock_on ino) x.locks.rows lock.0 lock.1).1))
  where
    z : ServerStands k w s node
    z = all.servers s node is

    q : Standing k s d site w.ended (z.ghosts d).net
    q = z.both.clients d site at

    lock : (l : HeldLock) × (locks.lock_of x.locks ino ≡ Some l)
    lock = current_lock b x.locks ino p n asks cur

    modes : HaveModes x.locks.rows
    modes =
        (subst (λ o. Kept a.life.0 a.store o (z.ghosts d).net) f
        (subst (λ (y : Association). Kept y.life.0 y.store y.session (z.ghosts d).net) (sym (only_here s site.node.state.associations q.association q.sim.place a i (ap Rattle.st_rules.specs.Keys.server_node e))) q.sim.kept)).modes

-- one more row, if there is one
with_row : {B : Type 0} → Option B → List B → List B
with_row None ys = ys
with_row (Some y) ys = y ∷ ys

filter_step : {A B : Type 0} (f : A → Option B) (x : A) (xs : List A) → filter_map f (x ∷ xs) ≡ with_row (f x) (filter_map f xs)
unfolding with_row
filter_step {A} {B} f x xs = go (f x) refl
  where
    go : (o : Option B) → f x ≡ o → filter_map f (x ∷ xs) ≡ with_row o (filter_map f xs)
    go None e = grind (arith, e)
    go (Some y) e = grind (arith, e)

filter_same : {A B : Type 0} (f g : A → Option B) → ((x : A) → f x ≡ g x) → (xs : List A) → filter_map f xs ≡ filter_map g xs
filter_same f g e [] = refl
filter_same f g e (x ∷ xs) = filter_step f x xs ∙ ap (λ o. with_row o (filter_map f xs)) (e x) ∙ ap (with_row (g x)) (filter_same f g e xs) ∙ sym (filter_step g x xs)

-- rows are reported the same if the extents of the file are the same
pub rows_same : (x y : Extents) (f : FileId) → ((p : PageNo) → extents.extent_of y f p ≡ extents.extent_of x f p) → (p : PageNo) (n : ℕ) → extents.extent_rows y f p n ≡ extents.extent_rows x f p n
unfolding extents.extent_rows
rows_same x y f e p n = filter_same (extents.extent_row_at y f) (extents.extent_row_at x f) (λ q. ap (Rattle.std.specs.Prelude.option_map extents.extent_row) (e q)) (extents.pages_from p n)

pub tells_same : (s : Rattle.st_base.specs.declared.ids.ServerId.ServerId) (x y : Extents) (b : Body) (ino : ℕ) (rows : List ExtentRow) → ((p : PageNo) → extents.extent_of y (file_of s ino) p ≡ extents.extent_of x (file_of s ino) p) → TellsRows s x b ino rows → TellsRows s y b ino rows
tells_same s x y b ino rows e t = record { page = t.page; count = t.count; asks = t.asks; are = t.are ∙ sym (rows_same x y (file_of s ino) e t.page t.count) }
