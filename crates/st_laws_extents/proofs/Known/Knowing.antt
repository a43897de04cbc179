-- The rules of a client: what is known of where pages lie stays known of files that are locked, and writes go there.
use Rattle.st_lemmas.proofs.Words
use Words.{◌≡◌, ◌⊎◌, ℕ, Bool, true, false, ◌==◌, List, [], ◌∷◌, ◌++◌, Option, Some, None, refl, sym, ◌∙◌, subst, inl, inr, if◌then◌else◌, map, eqb-true, Tag}
use Words.{GrantNo, PageNo, ServerId, Stamp, Mode, AppAnswer, Ask, Note, Output, Asked, KnownExtent, MappedBlock, Operation}
use Words.modes
use Words.outputs
use Words.Client as cl
use Words.ClientLease as lease
use Words.ClientLocks as locks
use Words.ClientPages as pages
use Words.ClientPages.{Store}
use Words.ClientPasses as cp
use Words.ClientReplies as cr
use Words.ClientState as state
use Words.ClientState.{ClientSession, Turn, answer_each, only_at, send, with_session}
use Words.Lists.{Has}
use Words.Tables.{and_true, found_at, has_append, has_filter, has_map}
use Words.Truth.{false_not_true}
use Rattle.st_rules.specs.declared.client.Asked.TheVariants.{Reduce, NotHeld, Stale}
use Rattle.st_laws_steps.specs.Client.Client as client
use Rattle.st_laws_steps.specs.Client.Client.{Change, Plain}
use Rattle.st_laws_steps.specs.Client.Losses.{Ends, Unknown, Passes, Hardens, Fails}
use Rattle.st_laws_steps.specs.Client.Session.{LocksStep, LocksStay, LocksReduced, LocksGranted, LocksDemanded, SessionChange, Keeps, DropsLock, IsReasserted}
use Rattle.st_laws_steps.specs.Client.Session.{EndsRequest, NewEpoch, AsksNew, AsksAgain}
use Rattle.st_laws_steps.proofs.Client.Asking.{passes_keep_or_ask}
use Rattle.st_laws_steps.proofs.Client.Calm.{IsCalm}
use Rattle.st_laws_steps.proofs.Client.Losing.{Finished, changes_by_end_each, calm_only, finish_is, is_done}
use Rattle.st_laws_steps.proofs.Client.Only.{Only, Goes}
use Rattle.st_laws_steps.proofs.Client.Only as only
use Rattle.st_laws_steps.proofs.Client.Passing.{FollowsBy, IsPassing, KeepsOrAsks, Part}
use Rattle.st_laws_extents.specs.Known.Known.{Fact, HasLock, KnownAs, Locked, OutputAs, OutputsAs}
use Rattle.st_laws_extents.proofs.Known.Locks.{demand_keeps, put_keeps, reduce_keeps}

-- a grant leaves the locks of all files
granted_keeps : (z : ClientSession) (ino : ℕ) (g : GrantNo) (mode : Mode) (j : ℕ) → HasLock z.locks.rows j → HasLock (cr.grant z ino g mode).locks.rows j
unfolding cr.grant cr.grant_new cr.accept_grant cr.decline locks.installed locks.observe
granted_keeps z ino g mode j h = go (locks.is_above_seen z.locks ino g) (locks.has_place z.locks ino)
  where
    new : Bool → ClientSession
    new place = if place then cr.accept_grant z ino g mode else cr.decline z ino g

    go : (above place : Bool) → HasLock (if above then new place else z).locks.rows j
    go true true = put_keeps (locks.held_lock ino g mode) z.locks.rows j h
    go true false = h
    go false place = h

-- The locks of the files of which something is known stay if a session asks nothing.
step_keeps : (xs : List KnownExtent) (c d : locks.LockCache) → LocksStep xs c d → (x : KnownExtent) → Has x xs → HasLock c.rows x.ino → HasLock d.rows x.ino
step_keeps xs c _ (LocksStay _) x i h = h
step_keeps xs c _ (LocksReduced _ ino g to e n) x i h = go (reduce_keeps c ino x.ino h (g, to) e)
  where
    go : ((to ≡ modes.None) × (x.ino ≡ ino)) ⊎ HasLock (locks.reduce c ino).locks.rows x.ino → HasLock (locks.reduce c ino).locks.rows x.ino
    go (inl z) = absurd (n z.0 x i z.1)
    go (inr z) = z
step_keeps xs _ _ (LocksGranted z ino g mode) x i h = granted_keeps z ino g mode x.ino h
step_keeps xs c _ (LocksDemanded _ ino g to) x i h = demand_keeps c ino g to x.ino h

-- and in a pass
follows_keeps : (asks : Part) (st : Store) (s u : ClientSession) (c : SessionChange st s u) → FollowsBy asks st s u c → (x : KnownExtent) → Has x st.extents →
    HasLock s.locks.rows x.ino → HasLock u.locks.rows x.ino
follows_keeps asks st s u (Keeps _ _ a) q x i h = step_keeps st.extents s.locks u.locks a.locks x i h
follows_keeps asks st s _ (DropsLock _ ino l) q x i h = absurd q
follows_keeps asks st s _ (IsReasserted _) q x i h = absurd q
follows_keeps asks st s _ (EndsRequest _ stamp) q x i h = absurd q
follows_keeps asks st s _ (NewEpoch _ epoch n) q x i h = absurd q
follows_keeps asks st s _ (AsksNew _ r now body cutting a c k) q x i h = step_keeps st.extents s.locks r.locks a.locks x i h
follows_keeps asks st s _ (AsksAgain _ now r e) q x i h = h

module _ (R : Fact) where
  -- what holds within a step
  pub record Fine (server : ServerId) (o : Option ClientSession) (xs : List KnownExtent) (out : List Output) : Type 0 where
    pub known : (e : KnownExtent) → Has e xs → KnownAs R server o e
    pub said : OutputsAs R out

  abbrev pub At : Turn → Type 0
  At t = Fine t.here.server t.here.session t.here.store.extents t.out

  abbrev pub K : Turn → Turn → Type 0
  K t u = At t → At u

  pub kept_by_nothing : (t : Turn) → K t t
  kept_by_nothing t h = h

  pub kept_by_choice : (t : Turn) (b : Bool) (u v : Turn) → K t u → K t v → K t (if b then u else v)
  kept_by_choice t true u v f g = f
  kept_by_choice t false u v f g = g

  -- more is said
  pub fine_with_more_output : (server : ServerId) (o : Option ClientSession) (xs : List KnownExtent) (out os : List Output) → OutputsAs R os →
      Fine server o xs out →
      Fine server o xs (out ++ os)
  fine_with_more_output server o xs out os f h = record { known = h.known; said = λ y i. go y (has_append out os y i) }
    where
      go : (y : Output) → Has y out ⊎ Has y os → OutputAs R y
      go y (inl i) = h.said y i
      go y (inr i) = f y i

  pub say1 : (server : ServerId) (o : Option ClientSession) (xs : List KnownExtent) (out : List Output) (y : Output) → OutputAs R y → Fine server o xs out →
      Fine server o xs (out ++ y ∷ [])
  say1 server o xs out y f = fine_with_more_output server o xs out (y ∷ []) one
    where
      one : OutputsAs R (y ∷ [])
      one z (inl e) = subst (OutputAs R) (sym e) f
      one z (inr i) = absurd i

  answers_as : (ops : List Operation) (a : AppAnswer) → OutputsAs R (map (state.answer_to a) ops)
  answers_as ops a y i = let z = has_map (state.answer_to a) ops y i in subst (OutputAs R) (sym z.2) tt

  pub kept_by_answers : (t : Turn) (picked : Operation → Bool) (a : AppAnswer) → K t (answer_each picked a t)
  unfolding answer_each
  kept_by_answers t picked a = fine_with_more_output t.here.server t.here.session t.here.store.extents t.out _
      (answers_as (Rattle.std.specs.Prelude.filter picked t.operations) a)

  pub kept_by_note : (t : Turn) (n : Note) → K t (state.note t n)
  kept_by_note t n = say1 t.here.server t.here.session t.here.store.extents t.out _ tt

  -- another session, with the locks of the files of which something is known
  pub locked_on : (server : ServerId) (o p : Option ClientSession) (xs : List KnownExtent) (out : List Output) →
      ((e : KnownExtent) → Has e xs → Locked o e.ino → Locked p e.ino) → Fine server o xs out → Fine server p xs out
  locked_on server o p xs out f h = record { known = λ e i. let z = h.known e i in record { locked = f e i z.locked; is = z.is }; said = h.said }

  pub kept_by_session : (t : Turn) (s r : ClientSession) → t.here.session ≡ Some s → ((ino : ℕ) → HasLock s.locks.rows ino → HasLock r.locks.rows ino) →
      K t (with_session r t)
  kept_by_session t s r e f = locked_on t.here.server t.here.session (Some r) t.here.store.extents t.out (λ x i l. f x.ino (subst (λ o. Locked o x.ino) e l))

  -- less is known
  pub fine_with_fewer_known : (server : ServerId) (o : Option ClientSession) (xs ys : List KnownExtent) (out : List Output) →
      ((e : KnownExtent) → Has e ys → Has e xs) →
      Fine server o xs out → Fine server o ys out
  fine_with_fewer_known server o xs ys out f h = record { known = λ e i. h.known e (f e i); said = h.said }

  pub forgets : (server : ServerId) (o : Option ClientSession) (x : Store) (ino : ℕ) (p : PageNo) (out : List Output) → Fine server o x.extents out →
      Fine server o (pages.forget_from x ino p).extents out
  unfolding pages.forget_from
  forgets server o x ino p out = fine_with_fewer_known server o x.extents _ out (λ e i. (has_filter _ x.extents e i).0)

  -- where the page is known to lie
  lies : (t : Turn) (ino : ℕ) (p : PageNo) (m : MappedBlock) → pages.mapping_of t.here.store.extents ino p ≡ Some m → At t → R t.here.server ino p m
  lies t ino p m e h = go (pages.known_of t.here.store.extents ino p) refl e
    where
      go : (o : Option KnownExtent) → pages.known_of t.here.store.extents ino p ≡ o → pages.mapping_at o ≡ Some m → R t.here.server ino p m
      go None q z = absurd (no z)
        where
          no : ◌≡◌ {A = Option MappedBlock} None (Some m) → ⊥
          no z = cc
      go (Some x) q z =
          let f = found_at (pages.is_known_of ino p) t.here.store.extents x q in
          let k = and_true (x.ino == ino) (x.page.0 == p.0) f.0 in
          subst (λ (n : ℕ). R t.here.server ino (record { 0 = n }) m) (eqb-true x.page.0 p.0 k.1)
          (subst (λ n. R t.here.server n x.page m) (eqb-true x.ino ino k.0) ((h.known x f.1).is m z))

  -- Each change of a pass, and such changes.
  plain_as : (o : Output) → Plain o → OutputAs R o
  plain_as (outputs.Send m) p = tt
  plain_as (outputs.Submit number at what) p = absurd p
  plain_as (outputs.Answer op a) p = tt
  plain_as (outputs.Note n) p = tt

  change_passing : (syncs : List Operation) (asks : Part) (now : Stamp) (t u : Turn) (c : Change now t u) → IsPassing syncs asks now t u c → K t u
  unfolding cp.submit_read cp.submit_write cp.submit_command
  change_passing syncs asks now t _ (client.Says _ o p) q h = say1 t.here.server t.here.session t.here.store.extents t.out o (plain_as o p) h
  change_passing syncs asks now t _ (client.Operates _ os) q h = h
  change_passing syncs asks now t _ (client.Answers _ os ops a) q h = absurd q
  change_passing syncs asks now t _ (client.Greets _ g) q h = h
  change_passing syncs asks now t _ (client.TellsLost _ lost) q h = absurd q
  change_passing syncs asks now t _ (client.Begins _ s a b c) q h = absurd q
  change_passing syncs asks now t _ (client.Follows _ s u e g) q h =
      locked_on t.here.server t.here.session (Some u) t.here.store.extents t.out
      (λ x i l. follows_keeps asks t.here.store s u g.how q x i (subst (λ o. Locked o x.ino) e l)) h
  change_passing syncs asks now t _ (client.Learns _ e a b) q h = absurd q
  change_passing syncs asks now t _ (client.Forgets _ ino p i) q h = forgets t.here.server t.here.session t.here.store ino p t.out h
  change_passing syncs asks now t _ (client.Caches _ clean) q h = h
  change_passing syncs asks now t _ (client.Writes _ s f p bytes n se sv own m x) q h =
      say1 t.here.server t.here.session t.here.store.extents t.out (outputs.Note n) tt h
  change_passing syncs asks now t _ (client.Reads _ ino p m i clean) q h = say1 t.here.server t.here.session t.here.store.extents t.out _ tt h
  change_passing syncs asks now t _ (client.Submits _ s ino p d m se e i w) q h =
      say1 t.here.server t.here.session t.here.store.extents t.out _ (lies t d.ino d.page m i h) h

  changes_passing : (syncs : List Operation) (asks : Part) (now : Stamp) (t u : Turn) → Only (IsPassing syncs asks) now t u → K t u
  changes_passing syncs asks now t _ (only.Ends _) h = h
  changes_passing syncs asks now t v (Goes _ u _ c q r) h = changes_passing syncs asks now u v r (change_passing syncs asks now t u c q h)

  pub kept_by_passes : (now : Stamp) (tick : Bool) (t : Turn) → K t (cp.passes now tick t)
  kept_by_passes now tick t = changes_passing t.operations KeepsOrAsks now t (cp.passes now tick t) (passes_keep_or_ask now tick t)

  -- Each change when no message is received, and such changes: what is known stays, and no write is submitted.
  abbrev Same : Turn → Turn → Type 0
  Same t u = ((o : Option ClientSession) (xs : List KnownExtent) → Fine t.here.server o xs t.out → Fine u.here.server o xs u.out) ×
      (t.here.session ≡ u.here.session) × (t.here.store.extents ≡ u.here.store.extents)

  change_idle : (now : Stamp) (t u : Turn) (c : Change now t u) → IsCalm false now t u c → Same t u
  change_idle now t _ (client.Says _ o p) q = (λ s xs h. say1 t.here.server s xs t.out o (plain_as o p) h, refl, refl)
  change_idle now t _ (client.Operates _ os) q = (λ s xs h. h, refl, refl)
  change_idle now t _ (client.Answers _ os ops a) q = (λ s xs h. fine_with_more_output t.here.server s xs t.out _ (answers_as ops a) h, refl, refl)
  change_idle now t _ (client.Greets _ g) q = (λ s xs h. h, refl, refl)
  change_idle now t _ (client.TellsLost _ lost) q = (λ s xs h. h, refl, refl)
  change_idle now t _ (client.Begins _ s a b c) q = false_not_true q
  change_idle now t _ (client.Follows _ s u e g) q = false_not_true q
  change_idle now t _ (client.Learns _ e a b) q = false_not_true q
  change_idle now t _ (client.Forgets _ ino p i) q = absurd q
  change_idle now t _ (client.Caches _ clean) q = (λ s xs h. h, refl, refl)
  change_idle now t _ (client.Writes _ s f p bytes n se sv own m x) q = absurd q
  change_idle now t _ (client.Reads _ ino p m i clean) q = absurd q
  change_idle now t _ (client.Submits _ s ino p d m se e i w) q = absurd q

  same_then : (t u v : Turn) → Same t u → Same u v → Same t v
  same_then t u v a b = (λ s xs h. b.0 s xs (a.0 s xs h), a.1 ∙ b.1, a.2 ∙ b.2)

  changes_idle : (now : Stamp) (t u : Turn) → Only (IsCalm false) now t u → Same t u
  changes_idle now t _ (only.Ends _) = (λ s xs h. h, refl, refl)
  changes_idle now t v (Goes _ u _ c q r) = same_then t u v (change_idle now t u c q) (changes_idle now u v r)

  at_same : (t u : Turn) → Same t u → K t u
  at_same t u a h = subst (λ xs. Fine u.here.server u.here.session xs u.out) a.2
      (subst (λ o. Fine u.here.server o t.here.store.extents u.out) a.1 (a.0 t.here.session t.here.store.extents h))

  -- the end of a command
  ends_fine : (number : ℕ) (ok : Bool) (t u : Turn) → Ends number ok t u → K t u
  unfolding cl.hardened
  ends_fine number ok t _ Unknown h = h
  ends_fine number ok t _ (Passes c e o) h = h
  ends_fine number ok t _ (Hardens c v e o k w) h = h
  ends_fine number ok t _ (Fails c v e o k w) h = h

  finished_fine : (now : Stamp) (number : ℕ) (ok : Bool) (t u : Turn) → Finished now number ok t u → K t u
  finished_fine now number ok t u f h = at_same f.mid u (changes_idle now f.mid u f.calm) (ends_fine number ok t f.mid f.ends h)

  pub kept_by_finish : (number : ℕ) (r : Option (Option (Tag × List ℕ))) (t : Turn) → K t (cl.finish number r t)
  kept_by_finish number r t = finished_fine (record { 0 = 0 }) number (is_done r) t (cl.finish number r t) (finish_is (record { 0 = 0 }) number r t)

  -- an ask
  pub kept_by_take : (s : ServerId) (op : ℕ) (ask : Ask) (t : Turn) → K t (only_at s (cl.take_ask op ask) t)
  kept_by_take s op ask t = at_same t (only_at s (cl.take_ask op ask) t)
      (changes_idle (record { 0 = 0 }) t (only_at s (cl.take_ask op ask) t) (calm_only (record { 0 = 0 }) s op ask t))

  -- what is lost says no write
  pub said_each : (now : Stamp) (s : ClientSession) (os : List Operation) (t : Turn) → OutputsAs R t.out → OutputsAs R (cl.end_each s os t).out
  said_each now s os t h =
      ((changes_idle now t (cl.end_each s os t) (changes_by_end_each now s os t)).0 None [] (record { known = λ e i. absurd i; said = h })).said

  pub kept_by_lose : (now : Stamp) (t : Turn) → K t (cl.lose now t)
  unfolding cl.lose cl.lose_by cl.lose_over cl.lose_session cl.end_operations
  kept_by_lose now t = go t.here.session
    where
      go : (o : Option ClientSession) → K t (cl.lose_by t now o)
      go None = kept_by_nothing t
      go (Some s) = kept_by_choice t (cl.is_over t s now) _ t (λ h. record { known = λ e i. absurd i; said = said_each now s _ _ (kept_by_note t _ h).said })
          (kept_by_nothing t)

  -- Grants and demands.
  pub kept_by_granted : (t : Turn) (s : ClientSession) (ino : ℕ) (g : GrantNo) (mode : Mode) → t.here.session ≡ Some s → K t (cr.granted t s ino g mode)
  unfolding cr.granted
  kept_by_granted t s ino g mode e = kept_by_session t s (cr.grant (state.forget_wait ino s) ino g mode) e
      (λ j h. granted_keeps (state.forget_wait ino s) ino g mode j h)

  pub kept_by_demand : (t : Turn) (s : ClientSession) (ino : ℕ) (g : GrantNo) (to : Mode) → t.here.session ≡ Some s → K t (cr.demand t s ino g to)
  unfolding cr.demand cr.demand_by cr.demand_as cr.observe_demand cr.release_unheld send
  kept_by_demand t s ino g to e = by (locks.demand s.locks ino g to).asked
    where
      r : ClientSession
      r = state.with_cache (locks.demand s.locks ino g to).locks s

      kept : (j : ℕ) → HasLock s.locks.rows j → HasLock r.locks.rows j
      kept = demand_keeps s.locks ino g to

      unheld : (b : Bool) → K t (with_session (if b then r else state.with_release ino g modes.None r) t)
      unheld true = kept_by_session t s r e kept
      unheld false = kept_by_session t s (state.with_release ino g modes.None r) e kept

      by : (a : Asked) → K t (cr.demand_as t r ino g a)
      by Reduce h = say1 t.here.server (Some r) t.here.store.extents t.out _ tt (kept_by_session t s r e kept h)
      by NotHeld h = unheld (cr.has_release r ino g) h
      by Stale h = h

  pub kept_by_condemn : (t : Turn) (s : ClientSession) → t.here.session ≡ Some s → K t (cr.condemn t s)
  unfolding cr.condemn
  kept_by_condemn t s e = kept_by_session t s (state.with_lease (lease.condemned s.lease) s) e (λ ino x. x)
