-- In every run of the third form, no client has more dirty pages of a server than it may, nor more clean ones.
use Rattle.st_lemmas.proofs.Words
use Words.{◌≡◌, ◌≤◌, ℕ, Bool, true, false, not, List, [], ◌∷◌, length, find, filter, Option, Some, None, refl, sym, ap, subst, inl, inr, arith, if◌then◌else◌, le-leb, leb-false, length-map, list_all}
use Words.{CleanPage, ClientId, Config, DemandedFile, DirtyPage, HeldLock, Mode, PageNo, Stamp}
use Words.modes
use Words.Client as plain
use Words.ClientLocks as locks
use Words.ClientPages as pages
use Words.ClientPages.{Pages}
use Words.ClientPasses as passes
use Words.ClientState.{Association, ClientSession, Turn}
use Words.Keys.{page_no, put}
use Words.Lists.{Has}
use Words.World.{WorldClient, all_clients, site_of}
use Rattle.st_lemmas.proofs.Puts.{length_put}
use Rattle.st_lemmas.proofs.Tests.{filtered_no_longer}
use Rattle.st_laws_steps.specs.Client.Client as client
use Rattle.st_laws_steps.specs.Client.Losses.{Ends, Unknown, Passes, Hardens, Fails}
use Rattle.st_third.specs.declared.event.ThirdEvent.{ThirdEvent}
use Rattle.st_third.specs.declared.limits.Limits.{Limits}
use Rattle.st_third.specs.Events as every
use Rattle.st_third.specs.Events.{third_counted}
use Rattle.st_third.specs.Limits.{is_dirty_full, limited_association}
use Rattle.st_third.specs.Promises.{ThirdPromise, Throughout, associations_at}
use Rattle.st_third.specs.State.{Beside, ThirdTurn, fresh_beside}
use Rattle.st_third.specs.Steps as steps
use Rattle.st_third.specs.Steps.{ThirdStep, ThirdTraced}
use Rattle.st_third.specs.UsedOnce.{reduced}
use Rattle.st_third.specs.World as worlds
use Rattle.st_third.specs.World.{ThirdWorld, third_world}
use Rattle.st_laws_third.specs.Changes.{Bounds, Continues, Heard, ThirdChange, Plainly, Says, Leaves, IsBeside, WaitsForRoom, Begins, GivesBack, Reduces, bounds}
use Rattle.st_laws_third.specs.FewPages.{EveryClientHasFewCleanPages, EveryClientHasFewDirtyPages, has_few_clean_at, has_few_dirty_at}
use Rattle.st_laws_third.proofs.AllClients.{AllGood, good_after, good_first}
use Rattle.st_laws_third.proofs.Chains.{newest_few}
use Rattle.st_laws_third.proofs.FewLocks.{Any, length_put_own}
use Rattle.st_laws_third.proofs.Folds as folds
use Rattle.st_laws_third.proofs.Folds.{Both}
use Rattle.st_laws_third.proofs.Moves.{Moved}
use Rattle.st_laws_third.proofs.ShortRuns.{all_true}
use Rattle.st_laws_third.proofs.Sound.{Sound, kept_throughout_with, sound_after, sound_first}

-- A page that is changed if there is room for it.

-- of pages of which none is this one, all are others
all_others : (p : DirtyPage → Bool) (xs : List DirtyPage) → find p xs ≡ None → length xs ≤ length (filter (λ x. not (p x)) xs)
all_others p [] e = omega arith
all_others p (x ∷ xs) e = go (p x) e (all_others p xs)
  where
    go : (b : Bool) → (if b then Some x else find p xs) ≡ None → (find p xs ≡ None → length xs ≤ length (filter (λ x. not (p x)) xs)) →
        length (x ∷ xs) ≤ length (if not b then x ∷ filter (λ x. not (p x)) xs else filter (λ x. not (p x)) xs)
    go true q h = cc q
    go false q h = let l = h q in omega (arith, l)

pub written_few : (n : ℕ) (ps : Pages) (ino : ℕ) (p : PageNo) (d : DirtyPage) → length ps.dirty ≤ n → is_dirty_full n ps ino p ≡ false →
    length (put (pages.is_dirty_of ino p) d ps.dirty) ≤ n
written_few n ps ino p d l e = go (find (pages.is_dirty_of ino p) ps.dirty) refl
  where
    go : (o : Option DirtyPage) → find (pages.is_dirty_of ino p) ps.dirty ≡ o → length (put (pages.is_dirty_of ino p) d ps.dirty) ≤ n
    go (Some y) q = let a = length_put_own (pages.is_dirty_of ino p) d y ps.dirty q in omega (arith, a, l)
    go None q =
        let a = length_put (pages.is_dirty_of ino p) d ps.dirty in
        let b = all_others (pages.is_dirty_of ino p) ps.dirty q in
        let x = leb-false n (length (pages.without_dirty ino p ps.dirty)) e in omega (arith, a, b, x)

-- At one server.

-- the limit of clean pages is the world's, and there are no more of either
record FewAt (m : Limits) (ps : Pages) : Type 0 where
  dirty : length ps.dirty ≤ m.dirty
  most : ps.most_clean ≡ m.clean
  clean : length ps.clean ≤ m.clean

-- fewer clean pages, and the same dirty ones
fewer_clean : (m : Limits) (ps : Pages) (p : CleanPage → Bool) → FewAt m ps → FewAt m (record ps { clean = filter p ps.clean })
fewer_clean m ps p f =
    let a = filtered_no_longer p ps.clean in let b = f.clean in record { dirty = f.dirty; most = f.most; clean = omega (arith, a, b) }

plain_few : (m : Limits) (within : Bounds) → within.limits.dirty ≡ m.dirty → (now : Stamp) (t u : Turn) (c : client.Change now t u) → Continues within now t u c →
    FewAt m t.here.store.pages → FewAt m u.here.store.pages
unfolding passes.submit_read passes.submit_write passes.submit_command pages.written pages.forget_from pages.drop_from
plain_few m within b now t _ (client.Says _ o p) k f = f
plain_few m within b now t _ (client.Operates _ os) k f = f
plain_few m within b now t _ (client.Answers _ os ops a) k f = f
plain_few m within b now t _ (client.Greets _ g) k f = f
plain_few m within b now t _ (client.TellsLost _ lost) k f = f
plain_few m within b now t _ (client.Begins _ s a c d) k f = absurd k
plain_few m within b now t _ (client.Follows _ s u e g) k f = f
plain_few m within b now t _ (client.Learns _ e u h) k f = f
plain_few m within b now t _ (client.Forgets _ ino p i) k f = fewer_clean m t.here.store.pages (λ x. not (pages.is_clean_behind ino p x)) f
plain_few m within b now t _ (client.Caches _ clean) k f = let e = f.most in record { dirty = f.dirty; most = f.most; clean = omega (arith, k, e) }
plain_few m within b now t _ (client.Writes _ s g p bytes x sv own y h i) k f =
    let z = fewer_clean m t.here.store.pages (λ x. not (pages.is_clean_of g.ino p x)) f in
    record {
      dirty = written_few m.dirty t.here.store.pages g.ino p _ f.dirty (subst (λ z. is_dirty_full z t.here.store.pages g.ino p ≡ false) b k);
      most = f.most;
      clean = z.clean;
    }
plain_few m within b now t _ (client.Reads _ ino p d i clean) k f = f
plain_few m within b now t _ (client.Submits _ s ino p d x e i w z) k f = f

reduced_few : (m : Limits) (t : ThirdTurn) (s : ClientSession) (d : DemandedFile) (ino : ℕ) → FewAt m t.plain.here.store.pages →
    FewAt m (reduced s (Some d) ino t.plain).here.store.pages
unfolding passes.reduce_by passes.reduce_given passes.reduce_to locks.reduce_at locks.reduce_lock pages.forget_from pages.drop_from
reduced_few m t s d ino f = held (locks.lock_of s.locks d.ino) d.to
  where
    held : (l : Option HeldLock) (to : Mode) →
        FewAt m (passes.reduce_by t.plain s ino (locks.reduce_lock s.locks (record d { to = to }) l)).here.store.pages
    held None to = f
    held (Some l) modes.None = fewer_clean m t.plain.here.store.pages (λ x. not (pages.is_clean_behind ino (page_no 0) x)) f
    held (Some l) modes.S = f
    held (Some l) modes.X = f

turn_few : {got : Heard} (now : Stamp) (m : Limits) (t u : ThirdTurn) → ThirdChange got now t u → t.limits ≡ m → FewAt m t.plain.here.store.pages →
    FewAt m u.plain.here.store.pages
unfolding Rattle.st_third.specs.State.say Rattle.st_third.specs.State.plainly
turn_few {got} now m t _ (Plainly _ u c p) l f = plain_few m (bounds got t) (ap (λ (z : Limits). z.dirty) l) now t.plain u c p f
turn_few {got} now m t _ (Says _ o w) l f = f
turn_few {got} now m t _ (Leaves _ ls k) l f = f
turn_few {got} now m t _ (IsBeside _ b x) l f = f
turn_few {got} now m t _ (WaitsForRoom _ k) l f = f
turn_few {got} now m t _ (Begins _ epoch stamp e x w) l f = f
turn_few {got} now m t _ (GivesBack _ s x e h) l f = f
turn_few {got} now m t _ (Reduces _ s d ino e q i) l f = reduced_few m t s d ino f

ends_few : (m : Limits) (t : Turn) (number : ℕ) (ok : Bool) (v : Turn) → Ends number ok t v → FewAt m t.here.store.pages → FewAt m v.here.store.pages
unfolding plain.hardened pages.harden pages.harden_at pages.harden_page pages.fail
ends_few m t number ok _ Unknown f = f
ends_few m t number ok _ (Passes x e o) f = f
ends_few m t number ok _ (Hardens x v e o w q) f = go (pages.dirty_of t.here.store.pages x.ino x.page)
  where
    go : (d : Option DirtyPage) → FewAt m (pages.harden_at t.here.store.pages d)
    go None = f
    go (Some d) =
        let a = filtered_no_longer (λ y. not (pages.is_dirty_of d.ino d.page y)) t.here.store.pages.dirty in
        let b = newest_few t.here.store.pages.most_clean (pages.clean_page d.ino d.page d.bytes) t.here.store.pages.clean in
        let x = f.dirty in let e = f.most in record { dirty = omega (arith, a, x); most = f.most; clean = omega (arith, b, e) }
ends_few m t number ok _ (Fails x v e o w q) f =
    let a = length-map t.here.store.pages.dirty (pages.fail_of x.ino x.page x.number) in
    let b = f.dirty in record { dirty = omega (arith, a, b); most = f.most; clean = f.clean }

abbrev Few : Config → Limits → Association → Beside → Type 0
Few k m a b = FewAt m a.store.pages

few_law : (k : Config) (m : Limits) (now : Stamp) → folds.Keeps k m now (Few k m) (Any m)
few_law k m now =
    record {
      change = λ t u c e l i f. turn_few now m t u c l f;
      word = λ t f o r. tt;
      ends = λ t b number ok v x f. ends_few m t number ok v x f;
      noted = λ t b f. f;
      emptied = λ a. record { dirty = omega arith; most = refl; clean = omega arith };
      lost = λ s life. tt;
      ended = λ s life end. tt;
      at_once = λ op a. tt;
    }

few_begun : (k : Config) (m : Limits) (a : Association) → a.session ≡ None → a.store ≡ pages.empty_store → Few k m (limited_association m a) fresh_beside
few_begun k m a n e =
    let x : length a.store.pages.dirty ≡ 0 = ap (λ st. length st.pages.dirty) e in
    let y : length a.store.pages.clean ≡ 0 = ap (λ st. length st.pages.clean) e in
    record { dirty = omega (arith, x); most = refl; clean = omega (arith, y) }

-- In a run.

abbrev AllFew : ThirdWorld → Type 0
AllFew w = AllGood Few Any few_law few_begun w

-- what follows at each server
module _ (test : Limits → Association → Bool) (one : (m : Limits) (a : Association) → FewAt m a.store.pages → test m a ≡ true) where
  both_few : (k : Config) (m : Limits) (as_ : List Association) (bs : List Beside) → Both (Few k m) as_ bs → (a : Association) → Has a as_ → test m a ≡ true
  both_few k m [] bs p a h = absurd h
  both_few k m (x ∷ xs) [] p a h = absurd p
  both_few k m (x ∷ xs) (b ∷ bs) p a (inl e) = subst (λ y. test m y ≡ true) (sym e) (one m x p.one)
  both_few k m (x ∷ xs) (b ∷ bs) p a (inr h) = both_few k m xs bs p.rest a h

  world_few : (w : ThirdWorld) → Sound w → AllFew w → (c : ClientId) → list_all (test w.limits) (associations_at (site_of w.world c)) ≡ true
  world_few w so f c = go (site_of w.world c) refl
    where
      go : (o : Option WorldClient) → site_of w.world c ≡ o → list_all (test w.limits) (associations_at o) ≡ true
      go None e = refl
      go (Some site) e =
          let b = so.fits.there c.0 site e in
          all_true (test w.limits) site.node.state.associations
          (both_few w.world.config w.limits site.node.state.associations b.0.besides (f c.0 site b.0 e b.1))

  abbrev AreFew : ThirdPromise
  AreFew past x = list_all (λ c. list_all (test x.after.third.limits) (associations_at (site_of x.after.third.world c))) (all_clients x.after.third.world) ≡ true

  step_few : (past : List ThirdStep) (t : ThirdTraced) (e : ThirdEvent) → Sound t.third → AllFew t.third → worlds.refusal t.third e ≡ None →
      Moved t.third (every.happens (third_counted t.third) e).third → AllFew (every.happens (third_counted t.third) e).third →
      AreFew past (steps.third_step t e (every.happens (third_counted t.third) e))
  step_few past t e so f q mv fv =
      let v : ThirdWorld = (every.happens (third_counted t.third) e).third in
      all_true (λ c. list_all (test v.limits) (associations_at (site_of v.world c))) (all_clients v.world)
      (λ c h. world_few v (sound_after t.third v so mv) fv c)

  few_throughout : (k : Config) (m : Limits) (clients servers disks blocks : ℕ) (es : List ThirdEvent) →
      Throughout AreFew [] (steps.steps es (steps.third_traced (third_world k m clients servers disks blocks 3)))
  few_throughout k m clients servers disks blocks es =
      kept_throughout_with AllFew (λ w v so f mv. good_after Few Any few_law few_begun w v so f mv) AreFew
      step_few es []
      (steps.third_traced (third_world k m clients servers disks blocks 3)) (sound_first k m clients servers disks blocks)
      (good_first Few Any few_law few_begun k m clients servers disks blocks)

pub every_client_has_few_dirty_pages : EveryClientHasFewDirtyPages
every_client_has_few_dirty_pages = few_throughout has_few_dirty_at (λ m a f. le-leb _ m.dirty f.dirty)

pub every_client_has_few_clean_pages : EveryClientHasFewCleanPages
every_client_has_few_clean_pages = few_throughout has_few_clean_at (λ m a f. le-leb _ m.clean f.clean)
