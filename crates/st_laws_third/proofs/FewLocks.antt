-- In every run of the third form, no client has more locks of a server than it may.
use Rattle.st_lemmas.proofs.Words
use Words.{◌≡◌, ◌≤◌, ℕ, Bool, true, false, ◌||◌, not, List, [], ◌∷◌, length, find, Option, Some, None, is_some, nat_lt, refl, sym, ap, ◌∙◌, subst, arith, if◌then◌else◌, le-leb, ltb-true}
use Words.{ClientId, Config, DemandedFile, GrantNo, HeldLock, KnownExtent, Mode, Stamp}
use Words.modes
use Words.Client as plain
use Words.ClientLocks as locks
use Words.ClientLocks.{LockCache}
use Words.ClientPages as pages
use Words.ClientPages.{Store}
use Words.ClientPasses as passes
use Words.ClientReplies as replies
use Words.ClientState.{Association, ClientSession, Turn}
use Words.Keys.{put}
use Words.Lists.{Has}
use Words.World.{WorldClient, all_clients, site_of}
use Rattle.st_lemmas.proofs.Puts.{length_put}
use Rattle.st_lemmas.proofs.Tests.{filtered_no_longer}
use Rattle.st_laws_steps.specs.Client.Client as client
use Rattle.st_laws_steps.specs.Client.Losses.{Ends, Unknown, Passes, Hardens, Fails}
use Rattle.st_laws_steps.specs.Client.Session.{LocksStep, LocksStay, LocksReduced, LocksGranted, LocksDemanded}
use Rattle.st_laws_steps.specs.Client.Session.{SessionChange, Keeps, DropsLock, IsReasserted, EndsRequest, NewEpoch, AsksNew, AsksAgain}
use Rattle.st_third.specs.declared.event.ThirdEvent.{ThirdEvent}
use Rattle.st_third.specs.declared.limits.Limits.{Limits}
use Rattle.st_third.specs.declared.output.ThirdOutput.{ThirdOutput}
use Rattle.st_third.specs.Events as every
use Rattle.st_third.specs.Events.{third_counted}
use Rattle.st_third.specs.Limits.{limited_association}
use Rattle.st_third.specs.State.{Beside, ThirdTurn, session}
use Rattle.st_third.specs.Promises.{associations_at}
use Rattle.st_third.specs.Steps as steps
use Rattle.st_third.specs.Steps.{ThirdStep, ThirdTraced}
use Rattle.st_third.specs.UsedOnce.{reduced}
use Rattle.st_third.specs.World as worlds
use Rattle.st_third.specs.World.{ThirdWorld, third_world}
use Rattle.st_laws_third.specs.Changes.{Bounds, Continues, Heard, ThirdChange, Plainly, Says, Leaves, IsBeside, WaitsForRoom, Begins, GivesBack, Reduces, bounds}
use Rattle.st_laws_third.specs.FewLocks.{EveryClientHasFewLocks, LocksAreFew, has_few_locks, has_few_locks_at}
use Rattle.st_laws_third.proofs.AllClients.{AllGood, good_after, good_first}
use Rattle.st_laws_third.proofs.Folds as folds
use Rattle.st_laws_third.proofs.Folds.{Both}
use Rattle.st_laws_third.proofs.Moves.{Moved}
use Rattle.st_laws_third.proofs.ShortRuns.{all_true}
use Rattle.st_laws_third.proofs.Sound.{Sound, kept_throughout_with, sound_after, sound_first}

-- How many rows there are after a change of a table.

-- a row that is put in the place of another one
pub length_put_own : {A : Type 0} (p : A → Bool) (x y : A) (xs : List A) → find p xs ≡ Some y → length (put p x xs) ≤ length xs
unfolding put
length_put_own p x y [] e = cc e
length_put_own {A} p x y (z ∷ zs) e = go (p z) e (length_put_own p x y zs)
  where
    go : (b : Bool) → (if b then Some z else find p zs) ≡ Some y → (find p zs ≡ Some y → length (put p x zs) ≤ length zs) →
        length (if b then x ∷ zs else z ∷ put p x zs) ≤ length (z ∷ zs)
    go true q h = omega arith
    go false q h = let l = h q in omega (arith, l)

-- The limit of locks stays, and if there were no more locks than it says, there are no more.
record Stays (c d : LockCache) : Type 0 where
  limit : d.limit ≡ c.limit
  few : length c.rows ≤ c.limit → length d.rows ≤ d.limit

stays_same : (c d : LockCache) → d.limit ≡ c.limit → length d.rows ≤ length c.rows → Stays c d
stays_same c d e l = record { limit = e; few = λ f. omega (arith, e, l, f) }

lowered : (c : LockCache) (ino : ℕ) (l : HeldLock) (to : Mode) → locks.lock_of c ino ≡ Some l → Stays c (locks.lower c ino l to)
unfolding locks.lower
lowered c ino l modes.None e = stays_same c _ refl (filtered_no_longer _ c.rows)
lowered c ino l modes.S e = stays_same c _ refl (length_put_own (locks.is_lock_on ino) _ l c.rows e)
lowered c ino l modes.X e = stays_same c _ refl (length_put_own (locks.is_lock_on ino) _ l c.rows e)

reduced_by : (c : LockCache) (d : DemandedFile) (o : Option HeldLock) → locks.lock_of c d.ino ≡ o → Stays c (locks.reduce_lock c d o).locks
unfolding locks.reduce_lock
reduced_by c d None e = stays_same c c refl (omega arith)
reduced_by c d (Some l) e = lowered c d.ino l d.to e

reduces : (c : LockCache) (ino : ℕ) → Stays c (locks.reduce c ino).locks
unfolding locks.reduce locks.reduce_at
reduces c ino = go (locks.demand_of c ino)
  where
    go : (d : Option DemandedFile) → Stays c (locks.reduce_at c d).locks
    go None = stays_same c c refl (omega arith)
    go (Some d) = reduced_by c d (locks.lock_of c d.ino) refl

demands : (c : LockCache) (ino : ℕ) (g : GrantNo) (to : Mode) → Stays c (locks.demand c ino g to).locks
unfolding locks.demand locks.demand_at locks.demand_unheld locks.demand_held locks.demand_lock locks.demand_stale locks.observe
demands c ino g to = go (locks.lock_of c ino) refl
  where
    held : (l : HeldLock) → locks.lock_of c ino ≡ Some l → (b : Bool) → Stays c (if b then locks.demand_lock c ino g to l else locks.demand_stale c).locks
    held l e true = stays_same c _ refl (length_put_own (locks.is_lock_on ino) _ l c.rows e)
    held l e false = stays_same c c refl (omega arith)

    go : (o : Option HeldLock) → locks.lock_of c ino ≡ o → Stays c (locks.demand_at c ino g to o).locks
    go None e = stays_same c _ refl (omega arith)
    go (Some l) e = held l e (Words.nat_le l.g.0 g.0)

grants : (z : ClientSession) (ino : ℕ) (g : GrantNo) (mode : Mode) → Stays z.locks (replies.grant z ino g mode).locks
unfolding replies.grant replies.grant_new replies.accept_grant replies.decline locks.installed locks.observe
grants z ino g mode = go (locks.is_above_seen z.locks ino g) (locks.has_place z.locks ino) refl
  where
    c : LockCache
    c = z.locks

    place : locks.has_place c ino ≡ true → length c.rows ≤ c.limit → length (locks.with_lock (locks.held_lock ino g mode) c.rows) ≤ c.limit
    place e f = at (locks.lock_of c ino) refl e
      where
        at : (o : Option HeldLock) → locks.lock_of c ino ≡ o → (is_some o || nat_lt (length c.rows) c.limit) ≡ true →
            length (locks.with_lock (locks.held_lock ino g mode) c.rows) ≤ c.limit
        at (Some l) q r = let x = length_put_own (locks.is_lock_on ino) (locks.held_lock ino g mode) l c.rows q in omega (arith, x, f)
        at None q r =
            let x = length_put (locks.is_lock_on ino) (locks.held_lock ino g mode) c.rows in
            let y = ltb-true (length c.rows) c.limit r in omega (arith, x, y)

    go : (above p : Bool) → locks.has_place c ino ≡ p →
        Stays c (if above then (if p then replies.accept_grant z ino g mode else replies.decline z ino g) else z).locks
    go true true e = record { limit = refl; few = place e }
    go true false e = stays_same c _ refl (omega arith)
    go false p e = stays_same c c refl (omega arith)

locks_step : (xs : List KnownExtent) (c d : LockCache) → LocksStep xs c d → Stays c d
locks_step xs c _ (LocksStay _) = stays_same c c refl (omega arith)
locks_step xs c _ (LocksReduced _ ino g to e f) = reduces c ino
locks_step xs _ _ (LocksGranted z ino g mode) = grants z ino g mode
locks_step xs c _ (LocksDemanded _ ino g to) = demands c ino g to

-- At one server.

-- a session has the limit of its world, and no more locks
abbrev pub FewIn : Limits → Option ClientSession → Type 0
FewIn m None = Unit {0}
FewIn m (Some s) = (s.locks.limit ≡ m.locks) × (length s.locks.rows ≤ s.locks.limit)

few_then : (m : Limits) (s u : ClientSession) → Stays s.locks u.locks → FewIn m (Some s) → FewIn m (Some u)
few_then m s u x f = (x.limit ∙ f.0, x.few f.1)

pub change_few : (m : Limits) (st : Store) (s u : ClientSession) → SessionChange st s u → FewIn m (Some s) → FewIn m (Some u)
unfolding locks.drop_lock locks.forget_demands
change_few m st s u (Keeps _ _ a) f = few_then m s u (locks_step st.extents s.locks u.locks a.locks) f
change_few m st s _ (DropsLock _ ino l) f =
    let x = filtered_no_longer (λ r. not (locks.is_lock_on ino r)) s.locks.rows in let y = f.1 in (f.0, omega (arith, x, y))
change_few m st s _ (IsReasserted _) f = f
change_few m st s _ (EndsRequest _ stamp) f = f
change_few m st s _ (NewEpoch _ epoch n) f = f
change_few m st s _ (AsksNew _ r now body cutting a c i) f = few_then m s r (locks_step st.extents s.locks r.locks a.locks) f
change_few m st s _ (AsksAgain _ now q e) f = f

plain_few : (m : Limits) (within : Bounds) (now : Stamp) (t u : Turn) (c : client.Change now t u) → Continues within now t u c → FewIn m t.here.session → FewIn m u.here.session
unfolding passes.submit_read passes.submit_write passes.submit_command
plain_few m within now t _ (client.Says _ o p) n f = f
plain_few m within now t _ (client.Operates _ os) n f = f
plain_few m within now t _ (client.Answers _ os ops a) n f = f
plain_few m within now t _ (client.Greets _ g) n f = f
plain_few m within now t _ (client.TellsLost _ lost) n f = f
plain_few m within now t _ (client.Begins _ s a b c) n f = absurd n
plain_few m within now t _ (client.Follows _ s u e g) n f = change_few m t.here.store s u g.how (subst (FewIn m) e f)
plain_few m within now t _ (client.Learns _ e u h) n f = f
plain_few m within now t _ (client.Forgets _ ino p i) n f = f
plain_few m within now t _ (client.Caches _ clean) n f = f
plain_few m within now t _ (client.Writes _ s g p bytes x sv own y h i) n f = f
plain_few m within now t _ (client.Reads _ ino p b i clean) n f = f
plain_few m within now t _ (client.Submits _ s ino p d b e i k w) n f = f

pub reduced_few : (m : Limits) (t : ThirdTurn) (s : ClientSession) (d : DemandedFile) (ino : ℕ) → session t ≡ Some s → FewIn m (session t) →
    FewIn m (reduced s (Some d) ino t.plain).here.session
unfolding passes.reduce_by passes.reduce_given passes.reduce_to locks.reduce_at locks.reduce_lock
reduced_few m t s d ino e f = held (locks.lock_of s.locks d.ino) refl
  where
    held : (l : Option HeldLock) → locks.lock_of s.locks d.ino ≡ l → FewIn m (passes.reduce_by t.plain s ino (locks.reduce_lock s.locks d l)).here.session
    held None q = f
    held (Some l) q = few_then m s (record s { locks = locks.lower s.locks d.ino l d.to }) (lowered s.locks d.ino l d.to q) (subst (FewIn m) e f)

-- the session of an association
abbrev Few : Config → Limits → Association → Beside → Type 0
Few k m a b = FewIn m a.session

turn_few : {got : Heard} (now : Stamp) (m : Limits) (t u : ThirdTurn) → ThirdChange got now t u → t.limits ≡ m → FewIn m (session t) → FewIn m (session u)
unfolding Rattle.st_third.specs.State.say Rattle.st_third.specs.State.plainly
turn_few {got} now m t _ (Plainly _ u c p) l f = plain_few m (bounds got t) now t.plain u c p f
turn_few {got} now m t _ (Says _ o w) l f = f
turn_few {got} now m t _ (Leaves _ ls k) l f = f
turn_few {got} now m t _ (IsBeside _ b x) l f = f
turn_few {got} now m t _ (WaitsForRoom _ n) l f = f
turn_few {got} now m t _ (Begins _ epoch stamp e x w) l f = (ap (λ (z : Limits). z.locks) l, omega arith)
turn_few {got} now m t _ (GivesBack _ s x e h) l f = subst (FewIn m) e f
turn_few {got} now m t _ (Reduces _ s d ino e q i) l f = reduced_few m t s d ino e f

ends_few : (m : Limits) (t : Turn) (number : ℕ) (ok : Bool) (v : Turn) → Ends number ok t v → FewIn m t.here.session → FewIn m v.here.session
unfolding plain.hardened
ends_few m t number ok _ Unknown f = f
ends_few m t number ok _ (Passes x e o) f = f
ends_few m t number ok _ (Hardens x v e o w q) f = f
ends_few m t number ok _ (Fails x v e o w q) f = f

-- any word
abbrev pub Any : Limits → ThirdOutput → Type 0
Any m o = Unit {0}

few_law : (k : Config) (m : Limits) (now : Stamp) → folds.Keeps k m now (Few k m) (Any m)
few_law k m now =
    record {
      change = λ t u c e l i f. turn_few now m t u c l f;
      word = λ t f o r. tt;
      ends = λ t b number ok v x f. ends_few m t number ok v x f;
      noted = λ t b f. f;
      emptied = λ a. tt;
      lost = λ s life. tt;
      ended = λ s life end. tt;
      at_once = λ op a. tt;
    }

few_begun : (k : Config) (m : Limits) (a : Association) → a.session ≡ None → a.store ≡ pages.empty_store → FewIn m (limited_association m a).session
few_begun k m a n e = subst (FewIn m) (sym n) tt

-- In a run.

abbrev AllFew : ThirdWorld → Type 0
AllFew w = AllGood Few Any few_law few_begun w

session_few : (m : Limits) (o : Option ClientSession) → FewIn m o → length (Rattle.st_third.specs.Promises.cache_at o).rows ≤ m.locks
session_few m None f = omega arith
session_few m (Some s) f = let a = f.0 in let b = f.1 in omega (arith, a, b)

both_few : (k : Config) (m : Limits) (as_ : List Association) (bs : List Beside) → Both (Few k m) as_ bs → (a : Association) → Has a as_ → has_few_locks_at m a ≡ true
both_few k m [] bs p a h = absurd h
both_few k m (x ∷ xs) [] p a h = absurd p
both_few k m (x ∷ xs) (b ∷ bs) p a (Words.inl e) =
    subst (λ y. has_few_locks_at m y ≡ true) (sym e) (le-leb _ m.locks (session_few m x.session p.one))
both_few k m (x ∷ xs) (b ∷ bs) p a (Words.inr h) = both_few k m xs bs p.rest a h

world_few : (w : ThirdWorld) → Sound w → AllFew w → (c : ClientId) → has_few_locks w c ≡ true
world_few w so f c = go (site_of w.world c) refl
  where
    go : (o : Option WorldClient) → site_of w.world c ≡ o → Words.list_all (has_few_locks_at w.limits) (associations_at o) ≡ true
    go None e = refl
    go (Some site) e =
        let b = so.fits.there c.0 site e in
        all_true (has_few_locks_at w.limits) site.node.state.associations
        (both_few w.world.config w.limits site.node.state.associations b.0.besides (f c.0 site b.0 e b.1))

step_few : (past : List ThirdStep) (t : ThirdTraced) (e : ThirdEvent) → Sound t.third → AllFew t.third → worlds.refusal t.third e ≡ None →
    Moved t.third (every.happens (third_counted t.third) e).third → AllFew (every.happens (third_counted t.third) e).third →
    LocksAreFew past (steps.third_step t e (every.happens (third_counted t.third) e))
step_few past t e so f q mv fv =
    let v : ThirdWorld = (every.happens (third_counted t.third) e).third in
    all_true (has_few_locks v) (all_clients v.world) (λ c h. world_few v (sound_after t.third v so mv) fv c)

pub every_client_has_few_locks : EveryClientHasFewLocks
every_client_has_few_locks k m clients servers disks blocks es =
    kept_throughout_with AllFew (λ w v so f mv. good_after Few Any few_law few_begun w v so f mv) LocksAreFew
    step_few es [] (steps.third_traced (third_world k m clients servers disks blocks 3))
    (sound_first k m clients servers disks blocks) (good_first Few Any few_law few_begun k m clients servers disks blocks)
