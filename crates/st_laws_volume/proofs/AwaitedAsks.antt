-- A rule of a client at a server: while a request for a lock or a block is outstanding, an
-- operation waits for which it was sent, or the lease doesn't serve, or a lock of the file was held.
-- A request that names a grant was sent under a lock of its file.
use Rattle.st_lemmas.proofs.Words
use Words.{◌≡◌, ◌⊎◌, ℕ, ◌≤◌, arith, Bool, true, false, not, ◌&&◌, ◌==◌, List, [], ◌∷◌, ◌++◌, Option, Some, None, refl, sym, ap, ◌∙◌, subst, inl, inr}
use Words.{append-nil, append_assoc, eq-eqb, eqb-true, filter, map, Ask, Body, ClientId, Config, FileId, GrantNo, Header, KnownExtent, Message, Mode, Operation, PageCommand, PageNo, Request, ServerId, Stamp, Tag, Why}
use Words.asks
use Words.bodies
use Words.io
use Words.modes
use Words.Client as cl
use Words.ClientLease as lease
use Words.ClientLocks as locks
use Words.ClientPages as pages
use Words.ClientPages.{Store}
use Words.ClientPasses as cp
use Words.ClientReplies as cr
use Words.ClientState as cs
use Words.ClientState.{Association, ClientSession, Requests, Turn, only_at, server_of, with_operations}
use Words.Keys.{same_page, same_server}
use Words.Lists.{Has}
use Words.Lookups.{some_is}
use Words.Members.{has_left, has_right}
use Words.Tables.{and_both, and_true, found_at, has_append, has_filter, has_filter_in, not_true}
use Words.Truth.{clash}
use Rattle.st_trace.specs.Client.Commands as ends
use Rattle.st_trace.specs.Client.Commands.{Finishes, Takes}
use Rattle.st_trace.specs.Client.Losses as losing
use Rattle.st_trace.specs.Client.Losses.{Ended, Loses}
use Rattle.st_trace.specs.Client.Messages as trace
use Rattle.st_trace.specs.Client.Messages.{Effect, Grants, Heard, Receives, Refusal, Renews}
use Rattle.st_trace.specs.Client.Operations as pass
use Rattle.st_trace.specs.Client.Operations.{Changed, Needs, Operated}
use Rattle.st_trace.specs.Client.Passes.{IsReduced, IsWritten, Reduced, StaysDirty, StaysHeld, WritesOut, places_of}
use Rattle.st_trace.specs.Client.Requests as asking
use Rattle.st_trace.specs.Client.Requests.{Greets, Requests as Asks, Wants}
use Rattle.st_trace.proofs.Client.Finishing.{at_server, finishes, takes}
use Rattle.st_trace.proofs.Client.Losing.{loses}
use Rattle.st_trace.proofs.Client.Receiving.{receives}
use Rattle.st_trace.proofs.Client.Walk.{each_lasts, passes}
use Rattle.st_laws_requests.specs.Cuts.Cuts.{Between, Counts, Keyed, Placed, view}
use Rattle.st_laws_extents.specs.DiskReads.OutstandingReads.{ReadsClean}
use Rattle.st_laws_volume.proofs.AwaitedKinds.{condemned_rests, unmapped_before, works, works_here, writes, writes_works}
use Rattle.st_laws_volume.proofs.KnownLocks as keeping
use Rattle.st_laws_volume.proofs.AwaitedReplies.{IsWaiting, WaitsFor}

module _ (M : List Message) (c : ClientId) (Before : ServerId → ℕ → ℕ → ℕ → ℕ → Type 0)
    (fresh : (s : ServerId) (life epoch number op : ℕ) → ((m : Message) → Has m M → Keyed c s life epoch number m → ⊥) → Before s life epoch number op)
    (Known : ServerId → ℕ → Type 0) (now : Stamp) (k : Config) where
  abbrev pub Rests : ClientSession → Type 0
  Rests x = cs.is_serving k x now ≡ false

  -- what waits for the reply to a request
  abbrev pub Waits : ServerId → ℕ → ClientSession → List KnownExtent → List Operation → ℕ → Body → Type 0
  Waits s life x xs os n b = WaitsFor Before Known Rests s life x xs os n b

  abbrev pub OfRequest : ServerId → ℕ → ClientSession → List KnownExtent → List Operation → Option Request → Type 0
  OfRequest s life x xs os None = Unit {0}
  OfRequest s life x xs os (Some q) = Waits s life x xs os q.number q.body

  abbrev pub OfSession : ServerId → ℕ → List KnownExtent → List Operation → Option ClientSession → Type 0
  OfSession s life xs os None = Unit {0}
  OfSession s life xs os (Some x) = OfRequest s life x xs os x.requests.asked

  abbrev pub OfLocks : ServerId → Option ClientSession → Type 0
  OfLocks s None = Unit {0}
  OfLocks s (Some x) = keeping.LocksKnown Known s x.locks

  -- what was sent before the step has numbers that were given
  pub record Numbered (s : ServerId) (life : ℕ) (v : Option (ℕ × Requests)) : Type 0 where
    pub lives : (m : Message) → Has m M → Between c s m → m.header.life ≤ life
    pub placed : (m : Message) → Has m M → Between c s m → Placed life v m
    pub counts : Counts v

  -- of an association, with the pending operations
  pub record Ok (a : Association) (os : List Operation) : Type 0 where
    pub numbered : Numbered a.server a.life.0 (view a.session)
    pub locked : OfLocks a.server a.session
    pub reads : (x : PageCommand) → Has x a.store.commands → x.kind ≡ io.Read → Known a.server x.ino
    pub waits : OfSession a.server a.life.0 a.store.extents os a.session

  -- Why an operation doesn't matter any longer: its file is known, and a page that it changes is mapped.
  abbrev Gone : ServerId → List KnownExtent → Operation → Type 0
  Gone s xs o = (ino : ℕ) → works s ino o ≡ true → Known s ino × ((p : PageNo) → writes s ino p o ≡ true → pages.is_mapped xs ino p ≡ true)

  abbrev Stays : ServerId → ClientSession → List KnownExtent → List Operation → List Operation → Type 0
  Stays s x xs os ps = (o : Operation) → Has o os → Has o ps ⊎ (Rests x ⊎ Gone s xs o)

  -- What waits goes on.
  waits_on : (s : ServerId) (life : ℕ) (x y : ClientSession) (xs ys : List KnownExtent) (os ps : List Operation) (n : ℕ) (b : Body) → y.epoch ≡ x.epoch →
      (Rests x → Rests y) → ((ino : ℕ) (p : PageNo) → pages.is_mapped xs ino p ≡ false → pages.is_mapped ys ino p ≡ false) → Stays s x xs os ps →
      Waits s life x xs os n b → Waits s life y ys ps n b
  waits_on s life x y xs ys os ps n b e r u f = go b
    where
      still : (test : Operation → Bool) → IsWaiting Before test s life x.epoch.0 n os → (z : IsWaiting Before test s life x.epoch.0 n os) → Has z.o ps →
          IsWaiting Before test s life y.epoch.0 n ps
      still test w z i =
          record {
            o = z.o;
            there = i;
            picked = z.picked;
            before = subst (λ (d : Rattle.st_base.specs.declared.ids.Epoch.Epoch). Before s life d.0 n z.o.op) (sym e) z.before;
          }

      go : (b : Body) → Waits s life x xs os n b → Waits s life y ys ps n b
      go (bodies.Allocate ino g p count) (m, (inr q, d)) = (u ino p m, (inr (r q), d))
      go (bodies.Allocate ino g p count) (m, (inl w, d)) = (u ino p m, (by (f w.o w.there), d))
        where
          by : Has w.o ps ⊎ (Rests x ⊎ Gone s xs w.o) → IsWaiting Before (writes s ino p) s life y.epoch.0 n ps ⊎ Rests y
          by (inl i) = inl (still (writes s ino p) w w i)
          by (inr (inl q)) = inr (r q)
          by (inr (inr z)) = clash ((z ino (writes_works s ino p w.o w.picked)).1 p w.picked) m
      go (bodies.Acquire ino mode) (inr q) = inr q
      go (bodies.Acquire ino mode) (inl (inr q)) = inl (inr (r q))
      go (bodies.Acquire ino mode) (inl (inl w)) = by (f w.o w.there)
        where
          by : Has w.o ps ⊎ (Rests x ⊎ Gone s xs w.o) → (IsWaiting Before (works s ino) s life y.epoch.0 n ps ⊎ Rests y) ⊎ Known s ino
          by (inl i) = inl (inl (still (works s ino) w w i))
          by (inr (inl q)) = inl (inr (r q))
          by (inr (inr z)) = inr (z ino w.picked).0
      go (bodies.Map ino g p) d = d
      go (bodies.Cut ino g p) d = d
      go b h = tt

  request_on : (s : ServerId) (life : ℕ) (x y : ClientSession) (xs ys : List KnownExtent) (os ps : List Operation) (r : Option Request) → y.epoch ≡ x.epoch →
      (Rests x → Rests y) → ((ino : ℕ) (p : PageNo) → pages.is_mapped xs ino p ≡ false → pages.is_mapped ys ino p ≡ false) → Stays s x xs os ps →
      OfRequest s life x xs os r → OfRequest s life y ys ps r
  request_on s life x y xs ys os ps None e r u f h = tt
  request_on s life x y xs ys os ps (Some q) e r u f h = waits_on s life x y xs ys os ps q.number q.body e r u f h

  none_asked : (s : ServerId) (life : ℕ) (x : ClientSession) (xs : List KnownExtent) (os : List Operation) (r : Option Request) → r ≡ None →
      OfRequest s life x xs os r
  none_asked s life x xs os r e = subst (OfRequest s life x xs os) (sym e) tt

  -- Operations and the store change.
  abbrev Clear : List KnownExtent → List KnownExtent → Type 0
  Clear xs ys = (ino : ℕ) (p : PageNo) → pages.is_mapped xs ino p ≡ false → pages.is_mapped ys ino p ≡ false

  session_on : (s : ServerId) (life : ℕ) (v : Option ClientSession) (xs ys : List KnownExtent) (os ps : List Operation) → Clear xs ys →
      ((x : ClientSession) → v ≡ Some x → Stays s x xs os ps) → OfSession s life xs os v → OfSession s life ys ps v
  session_on s life None xs ys os ps u f h = tt
  session_on s life (Some x) xs ys os ps u f h = request_on s life x x xs ys os ps x.requests.asked refl (λ q. q) u (f x refl) h

  abbrev AllKnown : ServerId → List PageCommand → Type 0
  AllKnown s xs = (x : PageCommand) → Has x xs → x.kind ≡ io.Read → Known s x.ino

  stored : (a : Association) (st : Store) (os ps : List Operation) → Clear a.store.extents st.extents → AllKnown a.server st.commands →
      ((x : ClientSession) → a.session ≡ Some x → Stays a.server x a.store.extents os ps) → Ok a os → Ok (record a { store = st }) ps
  stored a st os ps u r f h =
      record {
        numbered = h.numbered;
        locked = h.locked;
        reads = r;
        waits = session_on a.server a.life.0 a.session a.store.extents st.extents os ps u f h.waits;
      }

  still_all : (a : Association) (os ps : List Operation) → ((o : Operation) → Has o os → Has o ps) → (x : ClientSession) → a.session ≡ Some x →
      Stays a.server x a.store.extents os ps
  still_all a os ps f x e o i = inl (f o i)

  more_operations : (a : Association) (os ps : List Operation) → ((o : Operation) → Has o os → Has o ps) → Ok a os → Ok a ps
  more_operations a os ps f h = stored a a.store os ps (λ ino p e. e) h.reads (still_all a os ps f) h

  -- operations of other servers change
  pub elsewhere : (a : Association) (os ps : List Operation) → ((o : Operation) → Has o os → cs.is_of a.server o ≡ true → Has o ps) → Ok a os → Ok a ps
  elsewhere a os ps f h = stored a a.store os ps (λ ino p e. e) h.reads (λ x e o i. by x o i (cs.is_of a.server o) refl) h
    where
      by : (x : ClientSession) (o : Operation) → Has o os → (b : Bool) → cs.is_of a.server o ≡ b →
          Has o ps ⊎ (Rests x ⊎ Gone a.server a.store.extents o)
      by x o i true e = inl (f o i e)
      by x o i false e = inr (inr (λ ino w. clash (works_here a.server ino o w) e))

  -- The session changes, and asks nothing.
  record Kept (x y : ClientSession) : Type 0 where
    epoch : y.epoch ≡ x.epoch
    requests : y.requests ≡ x.requests
    rests : Rests x → Rests y

  within : (a : Association) (os : List Operation) (x y : ClientSession) → a.session ≡ Some x → Kept x y → keeping.LocksKnown Known a.server y.locks → Ok a os →
      Ok (record a { session = Some y }) os
  within a os x y e z l h =
      record {
        numbered = subst (Numbered a.server a.life.0) (sym same) (subst (λ v. Numbered a.server a.life.0 (view v)) e h.numbered);
        locked = l;
        reads = h.reads;
        waits =
            request_on a.server a.life.0 x y a.store.extents a.store.extents os os y.requests.asked z.epoch z.rests (λ ino p q. q) (λ o i. inl i)
            (subst (λ (r : Requests). OfRequest a.server a.life.0 x a.store.extents os r.asked) (sym z.requests)
            (subst (OfSession a.server a.life.0 a.store.extents os) e h.waits));
      }
    where
      same : view (Some y) ≡ view (Some x)
      same = ap (λ (d : Rattle.st_base.specs.declared.ids.Epoch.Epoch). Some (d.0, y.requests)) z.epoch ∙ ap (λ r. Some (x.epoch.0, r)) z.requests

  locks_of : (a : Association) (os : List Operation) (x : ClientSession) → a.session ≡ Some x → Ok a os → keeping.LocksKnown Known a.server x.locks
  locks_of a os x e h = subst (OfLocks a.server) e h.locked

  granted_kept : (x : ClientSession) (ino : ℕ) (g : GrantNo) (mode : Mode) (v : ClientSession) → Grants x ino g mode v → Kept x v
  granted_kept x ino g mode _ (trace.Installs a b) = record { epoch = refl; requests = refl; rests = λ q. q }
  granted_kept x ino g mode _ (trace.Declines a b) = record { epoch = refl; requests = refl; rests = λ q. q }
  granted_kept x ino g mode _ (trace.IsOld a) = record { epoch = refl; requests = refl; rests = λ q. q }

  abbrev pub OkAt : Turn → Type 0
  OkAt t = Ok t.here t.operations

  -- An ask is taken.
  pub took : (op : ℕ) (ask : Ask) (t : Turn) → OkAt t → OkAt (only_at (server_of ask) (cl.take_ask op ask) t)
  took op ask t h = at_server OkAt (server_of ask) (cl.take_ask op ask) t (λ e. go (cl.take_ask op ask t) (takes op ask t)) (λ e. h)
    where
      more : Ok t.here (t.operations ++ cs.new_operation op ask ∷ [])
      more = more_operations t.here t.operations (t.operations ++ cs.new_operation op ask ∷ []) (λ o i. has_left t.operations _ o i) h

      go : (u : Turn) → Takes op ask t u → OkAt u
      go _ (ends.TellsLost f e l) = record { numbered = h.numbered; locked = h.locked; reads = h.reads; waits = h.waits }
      go _ (ends.WaitsForSync f e l) = more
      go _ (ends.Waits e) = more

  -- A command ends.
  picked_or : (f : Operation → Bool) (os : List Operation) (o : Operation) → Has o os → (f o ≡ true) ⊎ Has o (filter (λ x. not (f x)) os)
  picked_or f os o i = go (f o) refl
    where
      go : (b : Bool) → f o ≡ b → (f o ≡ true) ⊎ Has o (filter (λ x. not (f x)) os)
      go true e = inl e
      go false e = inr (has_filter_in (λ x. not (f x)) os o i (ap not e))

  -- a sync doesn't matter
  sync_gone : (s : ServerId) (xs : List KnownExtent) (o : Operation) → cs.is_sync o.ask ≡ true → Gone s xs o
  sync_gone s xs o e ino w = clash e (not_true (cs.is_sync o.ask) (and_true (cs.is_on s ino o) (not (cs.is_sync o.ask)) w).1)

  -- an operation that waits for the read of a page, which is mapped
  read_gone : (s : ServerId) (xs : List KnownExtent) (i : ℕ) (r : PageNo) (o : Operation) → cs.reads_page s i r o.ask ≡ true → Known s i →
      pages.is_mapped xs i r ≡ true → Gone s xs o
  read_gone s xs i r o e n m ino w = by o.ask e w
    where
      file : (a b d : Bool) → (a && (b && d)) ≡ true → (b ≡ true) × (d ≡ true)
      file a b d q = and_true b d (and_true a (b && d) q).1

      parts : (a b : Bool) → ((a && b) && true) ≡ true → b ≡ true
      parts a b q = (and_true a b (and_true (a && b) true q).0).1

      known : (j : ℕ) → j ≡ i → j ≡ ino → Known s ino
      known j p q = subst (Known s) (sym p ∙ q) n

      mapped : (j : ℕ) (t : PageNo) → j ≡ i → j ≡ ino → (t.0 == r.0) ≡ true → (p : PageNo) → (t.0 == p.0) ≡ true → pages.is_mapped xs ino p ≡ true
      mapped j t a b q p y =
          subst (λ z. pages.is_mapped xs z p ≡ true) (sym a ∙ b)
          (subst (λ (z : PageNo). pages.is_mapped xs i z ≡ true) (ap (λ z. record { 0 = z }) (sym (eqb-true t.0 r.0 q) ∙ eqb-true t.0 p.0 y)) m)

      by : (a : Ask) → cs.reads_page s i r a ≡ true →
          ((same_server (server_of a) s && cs.is_file ino (cs.file_of a)) && not (cs.is_sync a)) ≡ true →
          Known s ino × ((p : PageNo) → cs.changes_page s ino p a ≡ true → pages.is_mapped xs ino p ≡ true)
      by (asks.Read f q) e w =
          let z = file (same_server f.server s) (f.ino == i) (same_page q r) e in
          let y = parts (same_server f.server s) (f.ino == ino) w in
          (known f.ino (eqb-true f.ino i z.0) (eqb-true f.ino ino y), λ p v. cc v)
      by (asks.Patch f q at bytes) e w =
          let z = file (same_server f.server s) (f.ino == i) (same_page q r) e in
          let y = parts (same_server f.server s) (f.ino == ino) w in (
            known f.ino (eqb-true f.ino i z.0) (eqb-true f.ino ino y),
            λ p v. mapped f.ino q (eqb-true f.ino i z.0) (eqb-true f.ino ino y) z.1 p (file (same_server f.server s) (f.ino == ino) (same_page q p) v).1,
          )
      by (asks.Write f q bytes) e w = cc e
      by (asks.Sync f) e w = cc e
      by (asks.Cut f q) e w = cc e
      by (asks.Name v ask) e w = cc e

  fewer : (t : Turn) (x : PageCommand) → AllKnown t.here.server t.here.store.commands → AllKnown t.here.server (ends.without x t).here.store.commands
  fewer t x h y i e = h y (has_filter (λ z. not (pages.is_numbered x.number z)) t.here.store.commands y i).0 e

  pub ended : (number : ℕ) (r : Option (Option (Tag × List ℕ))) (t : Turn) → ReadsClean t.here.store → OkAt t → OkAt (cl.finish number r t)
  unfolding cs.answer_each
  ended number r t clean h = go (cl.finish number r t) (finishes number r t)
    where
      on : (st : Store) → st.extents ≡ t.here.store.extents → (x : PageCommand) → st.commands ≡ pages.without_command x.number t.here.store.commands →
          (ps : List Operation) → ((y : ClientSession) → t.here.session ≡ Some y → Stays t.here.server y t.here.store.extents t.operations ps) →
          Ok (record t.here { store = st }) ps
      on st e x f ps s =
          stored t.here st t.operations ps (λ ino p q. ap (λ xs. pages.is_mapped xs ino p) e ∙ q)
          (subst (AllKnown t.here.server) (sym f) (fewer t x h.reads)) s h

      same : (y : ClientSession) → t.here.session ≡ Some y → Stays t.here.server y t.here.store.extents t.operations t.operations
      same y e o i = inl i

      sync : (x : PageCommand) (y : ClientSession) → t.here.session ≡ Some y →
          Stays t.here.server y t.here.store.extents t.operations (filter (λ o. not (cl.waits_for_write t x o)) t.operations)
      sync x y e o i = by (picked_or (cl.waits_for_write t x) t.operations o i)
        where
          by : (cl.waits_for_write t x o ≡ true) ⊎ Has o (filter (λ z. not (cl.waits_for_write t x z)) t.operations) →
              Has o (filter (λ z. not (cl.waits_for_write t x z)) t.operations) ⊎ (Rests y ⊎ Gone t.here.server t.here.store.extents o)
          by (inr j) = inl j
          by (inl q) = inr (inr (sync_gone t.here.server t.here.store.extents o (and_true (cs.is_on t.here.server x.ino o) (cs.is_sync o.ask) q).1))

      read : (x : PageCommand) → Has x t.here.store.commands → x.kind ≡ io.Read → (y : ClientSession) → t.here.session ≡ Some y →
          Stays t.here.server y t.here.store.extents t.operations (filter (λ o. not (cl.waits_for_read t x o)) t.operations)
      read x j f y e o i = by (picked_or (cl.waits_for_read t x) t.operations o i)
        where
          by : (cl.waits_for_read t x o ≡ true) ⊎ Has o (filter (λ z. not (cl.waits_for_read t x z)) t.operations) →
              Has o (filter (λ z. not (cl.waits_for_read t x z)) t.operations) ⊎ (Rests y ⊎ Gone t.here.server t.here.store.extents o)
          by (inr z) = inl z
          by (inl q) = inr (inr (read_gone t.here.server t.here.store.extents x.ino x.page o q (h.reads x j f) (clean x j f).1))

      go : (u : Turn) → Finishes number r t u → OkAt u
      go _ (ends.IsUnknown e) = h
      go _ (ends.IsOfOtherKind x block o e f) = h
      go _ (ends.Fills x block o f e) = on _ refl x refl t.operations same
      go _ (ends.Hardens x v o f e j) = on _ refl x refl t.operations same
      go _ (ends.WroteOlder x v o f e j) = on _ refl x refl t.operations same
      go _ (ends.FailsToRead x o f e) = on _ refl x refl _ (read x (found_at (pages.is_numbered number) t.here.store.commands x o.there).1 f)
      go _ (ends.FailsToWrite x v o f e j) = on _ refl x refl _ (sync x)
      go _ (ends.FailsToWriteOlder x v o f e j) = on _ refl x refl _ (sync x)

  -- A session is lost.
  record SameLife (t v : Turn) : Type 0 where
    server : v.here.server ≡ t.here.server
    life : v.here.life ≡ t.here.life

  pub lost : (t : Turn) → OkAt t → OkAt (cl.lose now t)
  lost t h = go (cl.lose now t) (loses now t)
    where
      ended_one : (x : ClientSession) (o : Operation) (v w : Turn) → Ended x o v w → SameLife t v → SameLife t w
      ended_one x o v _ (losing.IsElsewhere e) s = record { server = s.server; life = s.life }
      ended_one x o v _ (losing.IsUncertain e f) s = record { server = s.server; life = s.life }
      ended_one x o v _ (losing.IsToldLost f e q a l) s = record { server = s.server; life = s.life }
      ended_one x o v _ (losing.LostNothing f e q a l) s = record { server = s.server; life = s.life }
      ended_one x o v _ (losing.IsQuiesced e q a) s = record { server = s.server; life = s.life }

      emptied : (u : Turn) → SameLife t u → Ok (cl.emptied u.here) u.operations
      emptied u s =
          record {
            numbered = record {
              lives = λ m i b. let l = h.numbered.lives m i (between m b) in let z = life in omega (arith, l, z);
              placed = λ m i b e. let l = h.numbered.lives m i (between m b) in let z = life in absurd (omega (arith, l, z, e));
              counts = tt;
            };
            locked = tt;
            reads = λ x i. absurd i;
            waits = tt;
          }
        where
          life : u.here.life.0 ≡ t.here.life.0
          life = ap (λ (l : Words.Life). l.0) s.life

          between : (m : Message) → Between c u.here.server m → Between c t.here.server m
          between m b = subst (λ d. Between c d m) s.server b

      go : (u : Turn) → Loses now t u → OkAt u
      go _ (losing.HasNoSession e) = h
      go _ (losing.Lasts s e o) = h
      go _ (losing.IsLost s u e o p) =
          emptied u
          (each_lasts (Ended s) (λ os v. SameLife t v) (λ y os v w q z. ended_one s y v w q z) t.operations (with_operations [] (losing.loss_noted t)) u p
          (record { server = refl; life = refl }))

  -- A message comes. A reply ends the outstanding request.
  abbrev Settled : Association → Type 0
  Settled a = (y : ClientSession) → a.session ≡ Some y → y.requests.asked ≡ None

  settle : (a : Association) (st : Store) (os ps : List Operation) → Settled a → AllKnown a.server st.commands → Ok a os → Ok (record a { store = st }) ps
  settle a st os ps f r h = record { numbered = h.numbered; locked = h.locked; reads = r; waits = go a.session f }
    where
      go : (v : Option ClientSession) → ((y : ClientSession) → v ≡ Some y → y.requests.asked ≡ None) → OfSession a.server a.life.0 st.extents ps v
      go None f = tt
      go (Some y) f = none_asked a.server a.life.0 y st.extents ps y.requests.asked (f y refl)

  ended_numbers : (s : ServerId) (life epoch : ℕ) (r : Requests) → Numbered s life (Some (epoch, r)) → Numbered s life (Some (epoch, cs.request_ended r))
  ended_numbers s life epoch r h =
      record {
        lives = h.lives;
        placed = λ m i b l n. let z = h.placed m i b l n in record { up_to = z.up_to; below = z.below; same = λ e. tt };
        counts = (h.counts.0, tt);
      }

  -- no request is outstanding after it
  ended_ok : (a : Association) (os ps : List Operation) (x : ClientSession) (stamp : Stamp) → a.session ≡ Some x → Ok a os →
      Ok (record a { session = Some (cr.ended_by stamp x) }) ps
  ended_ok a os ps x stamp e h =
      record {
        numbered =
            ended_numbers a.server a.life.0 x.epoch.0 x.requests (subst (λ v. Numbered a.server a.life.0 (view v)) e h.numbered);
        locked = locks_of a os x e h;
        reads = h.reads;
        waits = tt;
      }

  -- a reply of extents leaves the commands
  learned_commands : (ino : ℕ) (rows : List Words.ExtentRow) (b : Body) (st : Store) → (cr.learned ino rows b st).commands ≡ st.commands
  learned_commands ino [] (bodies.Map i g p) st = refl
  learned_commands ino (r ∷ rs) (bodies.Map i g p) st = refl
  learned_commands ino rows b st = refl

  refused_ok : (t : Turn) (file : Option ℕ) (asked : Body) (w : Why) (a b : ℕ) (u : Turn) → Refusal t file asked w a b u → u.here ≡ t.here
  unfolding cs.answer_each
  refused_ok t file asked _ a b _ (trace.NoFile _ _ ino f) = refl
  refused_ok t file asked _ a b _ (trace.TooManyLocks _ _ ino f) = refl
  refused_ok t file asked _ a b _ (trace.NoSpace _ _ ino p f g) = refl
  refused_ok t file asked _ a b _ (trace.NotHolder _ _ f) = refl
  refused_ok t file asked w a b _ (trace.AnswersNone _ _ _) = refl

  IsTold : Body → ServerId → Type 0
  IsTold b s = (ino : ℕ) (g : GrantNo) (mode : Mode) → b ≡ bodies.Granted ino g mode → Known s ino

  has_effect : (t : Turn) (x : ClientSession) (file : Option ℕ) (asked b : Body) (u : Turn) → Effect now t x file asked b u → t.here.session ≡ Some x →
      x.requests.asked ≡ None → IsTold b t.here.server → OkAt t → OkAt u
  unfolding cs.answer_each IsTold
  has_effect t x file asked b u f e none told h = go b u f told
    where
      settled : Settled t.here
      settled y q = ap (λ (z : ClientSession). z.requests.asked) (some_is (sym q ∙ e)) ∙ none

      others : (ps : List Operation) → Ok t.here ps
      others ps = settle t.here t.here.store t.operations ps settled h.reads h

      own : keeping.LocksKnown Known t.here.server x.locks
      own = locks_of t.here t.operations x e h

      go : (b : Body) (u : Turn) → Effect now t x file asked b u → IsTold b t.here.server → OkAt u
      go _ _ (trace.IsGranted ino g mode v y) told =
          let z = granted_kept (cs.forget_wait ino x) ino g mode v y in
          within t.here t.operations x v e (record { epoch = z.epoch; requests = z.requests; rests = z.rests })
          (keeping.granted_locks Known t.here.server (cs.forget_wait ino x) ino g mode v y (told ino g mode refl) own) h
      go _ _ (trace.IsQueued ino mode y) told = within t.here t.operations x _ e (record { epoch = refl; requests = refl; rests = λ q. q }) own h
      go _ _ (trace.HoldsAlready ino mode y) told = within t.here t.operations x x e (record { epoch = refl; requests = refl; rests = λ q. q }) own h
      go _ _ (trace.IsToldExtents ino rows y) told =
          settle t.here (cr.learned ino rows asked t.here.store) t.operations t.operations settled
          (subst (AllKnown t.here.server) (sym (learned_commands ino rows asked t.here.store)) h.reads) h
      go _ _ (trace.IsToldLate ino rows y) told = h
      go _ _ trace.IsAcknowledged told = others _
      go _ _ (trace.IsNamed r d) told = others _
      go _ _ (trace.IsRemoved ino removed l q y) told =
          within t.here _ x _ e (record { epoch = refl; requests = refl; rests = λ z. z }) (keeping.dropped_locks Known t.here.server x.locks removed own) (others _)
      go _ _ trace.IsReasserted told = within t.here t.operations x _ e (record { epoch = refl; requests = refl; rests = λ q. q }) own h
      go _ _ (trace.Effect.IsRefused w a d v y) told =
          subst (λ z. Ok z (map (cr.stuck v) v.operations)) (sym (refused_ok t file asked w a d v y)) (others _)

  renewed_here : (t : Turn) (x : ClientSession) (stamp : Stamp) (u : Turn) → Renews t x stamp u → u.here ≡ t.here
  renewed_here t x stamp _ (trace.IsLater e) = refl
  renewed_here t x stamp _ (trace.IsNoLater e) = refl

  -- what a grant that is heard tells
  abbrev pub Tells : Header → Turn → Body → Type 0
  Tells m t b = (x : ClientSession) → Heard now m t x → (ino : ℕ) (g : GrantNo) (mode : Mode) → b ≡ bodies.Granted ino g mode → Known t.here.server ino

  pub received : (m : Header) (b : Body) (t : Turn) → t.config ≡ k → Tells m t b → OkAt t → OkAt (cr.receive_at now m b t)
  unfolding cs.send cs.answer_each IsTold locks.forget_demands lease.condemned
  received m b t config tells h = go b (cr.receive_at now m b t) (receives now m t b) tells
    where
      same : (x y : ClientSession) → t.here.session ≡ Some x → Kept x y → keeping.LocksKnown Known t.here.server y.locks → Ok (record t.here { session = Some y }) t.operations
      same x y e z l = within t.here t.operations x y e z l h

      own : (x : ClientSession) → t.here.session ≡ Some x → keeping.LocksKnown Known t.here.server x.locks
      own x e = locks_of t.here t.operations x e h

      seen : (x : ClientSession) (ino : ℕ) (g : GrantNo) (to : Mode) → t.here.session ≡ Some x → keeping.LocksKnown Known t.here.server (locks.demand x.locks ino g to).locks
      seen x ino g to e = keeping.demanded_locks Known t.here.server x.locks ino g to (own x e)

      begun : t.here.session ≡ None → Numbered t.here.server t.here.life.0 (view (Some (cr.new_session (trace.epoch_of m) (trace.stamp_of m))))
      begun e =
          let z = subst (λ v. Numbered t.here.server t.here.life.0 (view v)) e h.numbered in
          record {
            lives = z.lives;
            placed = λ y i d l n. let q = z.placed y i d l in absurd (omega (arith, n, q));
            counts = (omega arith, tt);
          }

      later : (x : ClientSession) → t.here.session ≡ Some x → cr.is_newer x (trace.epoch_of m) ≡ true →
          Numbered t.here.server t.here.life.0 (view (Some (cr.in_epoch (trace.epoch_of m) x)))
      later x e f =
          let z = subst (λ v. Numbered t.here.server t.here.life.0 (view v)) e h.numbered in
          let lt = Words.ltb-true x.epoch.0 m.epoch (and_true (Words.nat_lt x.epoch.0 m.epoch) (not x.lease.condemned) f).0 in
          record {
            lives = z.lives;
            placed =
                λ y i d l n. let q = (z.placed y i d l n).up_to in
                record { up_to = omega (arith, q, lt); below = λ w. absurd (omega (arith, q, lt, w)); same = λ w. tt };
            counts = (omega arith, tt);
          }

      go : (b : Body) (u : Turn) → Receives now m t b u → Tells m t b → OkAt u
      go _ _ (trace.PassesOver b) told = h
      go _ _ (trace.Begins r e i) told = record { numbered = begun e; locked = λ l j. absurd j; reads = h.reads; waits = tt }
      go _ _ (trace.FollowsEpoch x a d n f) told =
          record { numbered = later x n.session f; locked = own x n.session; reads = h.reads; waits = tt }
      go _ _ (trace.IsCondemned b x n f) told =
          same x _ n.session
          (record { epoch = refl; requests = refl; rests = λ q. condemned_rests k (lease.condemned x.lease) now refl }) (own x n.session)
      go _ _ (trace.IsGrantedLater ino g mode x v n e y) told =
          let z = granted_kept (cs.forget_wait ino x) ino g mode v y in
          same x v n.session (record { epoch = z.epoch; requests = z.requests; rests = z.rests })
          (keeping.granted_locks Known t.here.server (cs.forget_wait ino x) ino g mode v y (told x n ino g mode refl) (own x n.session))
      go _ _ (trace.SeesDemand ino g to x n e) told =
          same x _ n.session (record { epoch = refl; requests = refl; rests = λ q. q }) (seen x ino g to n.session)
      go _ _ (trace.GivesUp ino g to x n e f) told =
          same x _ n.session (record { epoch = refl; requests = refl; rests = λ q. q }) (seen x ino g to n.session)
      go _ _ (trace.HasGivenUp ino g to x n e f) told =
          same x _ n.session (record { epoch = refl; requests = refl; rests = λ q. q }) (seen x ino g to n.session)
      go _ u (trace.IsAnswered b x q v _ r n f) told =
          has_effect (cs.with_session (cr.ended_by (trace.stamp_of m) x) v) (cr.ended_by (trace.stamp_of m) x) (cs.file_asked x.cutting q.body) q.body b u f
          refl refl
          (λ ino g mode e. subst (λ (a : Association). Known a.server ino) (sym here) (told x r.heard ino g mode e))
          (subst (λ a. Ok (record a { session = Some (cr.ended_by (trace.stamp_of m) x) }) v.operations) (sym here)
          (ended_ok t.here t.operations v.operations x (trace.stamp_of m) r.heard.session h))
        where
          here : v.here ≡ t.here
          here = renewed_here t x (trace.stamp_of m) v n

  -- The passes. Operations so far, and those to come.
  record Passing (os : List Operation) (t : Turn) : Type 0 where
    config : t.config ≡ k
    ok : Ok t.here (t.operations ++ os)

  kept_on : (o : Operation) (os : List Operation) (t u : Turn) → u.config ≡ t.config → u.operations ≡ t.operations ++ o ∷ [] →
      Ok u.here (t.operations ++ o ∷ os) → Passing (o ∷ os) t → Passing os u
  kept_on o os t u f e h z =
      record { config = f ∙ z.config; ok = subst (Ok u.here) (sym (ap (λ ps. ps ++ os) e ∙ append_assoc t.operations (o ∷ []) os)) h }

  -- an operation of these, or another one
  this_or : (o : Operation) (os ps : List Operation) (x : Operation) → Has x (ps ++ o ∷ os) → (x ≡ o) ⊎ Has x (ps ++ os)
  this_or o os ps x i = go (has_append ps (o ∷ os) x i)
    where
      go : Has x ps ⊎ Has x (o ∷ os) → (x ≡ o) ⊎ Has x (ps ++ os)
      go (inl j) = inr (has_left ps os x j)
      go (inr (inl e)) = inl e
      go (inr (inr j)) = inr (has_right ps os x j)

  -- it is answered
  gone_on : (o : Operation) (os : List Operation) (t u : Turn) (st : Store) → u.config ≡ t.config → u.operations ≡ t.operations →
      u.here ≡ record t.here { store = st } → Clear t.here.store.extents st.extents → AllKnown t.here.server st.commands →
      ((x : ClientSession) → t.here.session ≡ Some x → Rests x ⊎ Gone t.here.server t.here.store.extents o) → Passing (o ∷ os) t → Passing os u
  gone_on o os t u st f e same clear reads why z =
      record {
        config = f ∙ z.config;
        ok =
            subst (λ ps. Ok u.here (ps ++ os)) (sym e)
            (subst (λ a. Ok a (t.operations ++ os)) (sym same)
            (stored t.here st (t.operations ++ o ∷ os) (t.operations ++ os) clear reads (λ x q y i. by x q y (this_or o os t.operations y i)) z.ok));
      }
    where
      by : (x : ClientSession) → t.here.session ≡ Some x → (y : Operation) → (y ≡ o) ⊎ Has y (t.operations ++ os) →
          Has y (t.operations ++ os) ⊎ (Rests x ⊎ Gone t.here.server t.here.store.extents y)
      by x q y (inr i) = inl i
      by x q y (inl w) = inr (subst (λ v. Rests x ⊎ Gone t.here.server t.here.store.extents v) (sym w) (why x q))

  -- an operation of one file, and its page
  file_gone : (s : ServerId) (xs : List KnownExtent) (o : Operation) (f : FileId) (p : PageNo) → o.ask ≡ asks.Read f p → Known s f.ino → Gone s xs o
  file_gone s xs o f p e n ino w = (
    subst (Known s) (eqb-true f.ino ino (and_true (same_server f.server s) (f.ino == ino) (and_true (same_server f.server s && (f.ino == ino)) true v).0).1) n,
    λ q y. absurd (no (ap (cs.changes_page s ino q) (sym e) ∙ y)),
  )
    where
      v : ((same_server f.server s && (f.ino == ino)) && true) ≡ true
      v = ap (λ a. (same_server (server_of a) s && cs.is_file ino (cs.file_of a)) && not (cs.is_sync a)) (sym e) ∙ w

      no : false ≡ true → ⊥
      no q = cc q

  change_gone : (s : ServerId) (t : Turn) (o : Operation) (f : FileId) (p : PageNo) (bytes : List ℕ) (n : Words.Note) → Changed o.ask t f p bytes n →
      Known s f.ino → pages.is_mapped t.here.store.extents f.ino p ≡ true → Gone s t.here.store.extents o
  change_gone s t o f p bytes n c known m ino w = by f p bytes n c known m
    where
      xs : List KnownExtent
      xs = t.here.store.extents

      file : (g : FileId) → ((same_server g.server s && (g.ino == ino)) && true) ≡ true → g.ino ≡ ino
      file g v = eqb-true g.ino ino (and_true (same_server g.server s) (g.ino == ino) (and_true (same_server g.server s && (g.ino == ino)) true v).0).1

      page : (g : FileId) (q r : PageNo) → (same_server g.server s && ((g.ino == ino) && same_page q r)) ≡ true → q ≡ r
      page g q r v =
          ap (λ z. record { 0 = z })
          (eqb-true q.0 r.0 (and_true (g.ino == ino) (same_page q r) (and_true (same_server g.server s) ((g.ino == ino) && same_page q r) v).1).1)

      both : (g : FileId) (q : PageNo) → g.ino ≡ ino → Known s g.ino → pages.is_mapped xs g.ino q ≡ true →
          ((r : PageNo) → writes s ino r o ≡ true → q ≡ r) → Known s ino × ((r : PageNo) → writes s ino r o ≡ true → pages.is_mapped xs ino r ≡ true)
      both g q e h k r = (
        subst (Known s) e h,
        λ y v. subst (λ z. pages.is_mapped xs ino z ≡ true) (r y v) (subst (λ z. pages.is_mapped xs z q ≡ true) e k),
      )

      at : (a : Ask) → o.ask ≡ a → ((same_server (server_of a) s && cs.is_file ino (cs.file_of a)) && not (cs.is_sync a)) ≡ true
      at a e = ap (λ a. (same_server (server_of a) s && cs.is_file ino (cs.file_of a)) && not (cs.is_sync a)) (sym e) ∙ w

      by : (f : FileId) (p : PageNo) (bytes : List ℕ) (n : Words.Note) → Changed o.ask t f p bytes n → Known s f.ino → pages.is_mapped xs f.ino p ≡ true →
          Known s ino × ((r : PageNo) → writes s ino r o ≡ true → pages.is_mapped xs ino r ≡ true)
      by _ _ _ _ (pass.IsWritten f p bytes e) known m =
          both f p (file f (at (asks.Write f p bytes) e)) known m (λ r v. page f p r (ap (cs.changes_page s ino r) (sym e) ∙ v))
      by _ _ _ _ (pass.IsPatched f p place bytes old e q) known m =
          both f p (file f (at (asks.Patch f p place bytes) e)) known m (λ r v. page f p r (ap (cs.changes_page s ino r) (sym e) ∙ v))

  operated : (all : List Operation) (o : Operation) (os : List Operation) (t u : Turn) → Operated now all o t u → Passing (o ∷ os) t → Passing os u
  unfolding pages.forget_read pages.begin_command
  operated all o os t _ pass.Waits z = kept_on o os t (cs.keep o t) refl refl z.ok z
  operated all o os t _ (pass.IsHard f own e d) z =
      gone_on o os t _ t.here.store refl refl refl (λ ino p q. q) z.ok.reads
      (λ x q. inr (sync_gone t.here.server t.here.store.extents o (ap cs.is_sync e))) z
  operated all o os t _ (pass.IsQuiesced x own n there none unsent) z =
      gone_on o os t _ t.here.store refl refl refl (λ ino p q. q) z.ok.reads
      (λ y q. inl (ap (λ (v : ClientSession). cs.is_serving k v now) (some_is (sym q ∙ there)) ∙ (ap (λ d. cs.is_serving d x now) (sym z.config) ∙ none))) z
  operated all o os t _ (pass.ChangesPage x f p bytes n v c m e) z =
      gone_on o os t _ _ refl refl refl (λ ino p q. q)
      (λ y i r. z.ok.reads y (has_filter (λ d. not (pages.is_read_of f.ino p d)) t.here.store.commands y i).0 r)
      (λ y q. inr (change_gone t.here.server t o f p bytes n c (held x v.session f p m z.ok) (and_true (cp.holds x modes.X f) _ m).1)) z
    where
      held : (x : ClientSession) → t.here.session ≡ Some x → (f : FileId) (p : PageNo) → cp.may_write t x f p ≡ true → Ok t.here (t.operations ++ o ∷ os) →
          Known t.here.server f.ino
      held x e f p m h =
          keeping.mode_known Known t.here.server x.locks f.ino modes.X (λ q. cc q) (locks_of t.here (t.operations ++ o ∷ os) x e h)
          (and_true (cp.holds x modes.X f) (pages.is_mapped t.here.store.extents f.ino p) m).0
  operated all o os t _ (pass.IsDirtyFull x f p bytes n v c m e) z =
      gone_on o os t _ t.here.store refl refl refl (λ ino p q. q) z.ok.reads
      (λ y q. inr (change_gone t.here.server t o f p bytes n c
      (keeping.mode_known Known t.here.server x.locks f.ino modes.X (λ q. cc q) (locks_of t.here (t.operations ++ o ∷ os) x v.session z.ok)
      (and_true (cp.holds x modes.X f) _ m).0) (and_true (cp.holds x modes.X f) _ m).1)) z
  operated all o os t _ (pass.Fetches x f p m v n c e r) z =
      kept_on o os t _ refl refl
      (stored t.here (record t.here.store { commands = pages.begin_command t.here.store.commands t.next_command f.ino p io.Read }) (t.operations ++ o ∷ os)
      (t.operations ++ o ∷ os) (λ ino p q. q) reads (λ y q w i. inl i) z.ok) z
    where
      own : keeping.LocksKnown Known t.here.server x.locks
      own = locks_of t.here (t.operations ++ o ∷ os) x v.session z.ok

      needs : (g : FileId) (q : PageNo) → Needs o.ask t x g q → Known t.here.server g.ino
      needs _ _ (pass.ToRead g q i h) = keeping.mode_known Known t.here.server x.locks g.ino modes.S (λ q. cc q) own h
      needs _ _ (pass.ToPatch g q at bytes i h) =
          keeping.mode_known Known t.here.server x.locks g.ino modes.X (λ q. cc q) own (and_true (cp.holds x modes.X g) (pages.is_mapped t.here.store.extents g.ino q) h).0

      reads : AllKnown t.here.server (pages.begin_command t.here.store.commands t.next_command f.ino p io.Read)
      reads y i q = go (has_append t.here.store.commands (pages.page_command t.next_command f.ino p io.Read ∷ []) y i)
        where
          go : Has y t.here.store.commands ⊎ Has y (pages.page_command t.next_command f.ino p io.Read ∷ []) → Known t.here.server y.ino
          go (inl j) = z.ok.reads y j q
          go (inr (inl w)) = subst (λ (d : PageCommand). Known t.here.server d.ino) (sym w) (needs f p n)
          go (inr (inr j)) = absurd j
  operated all o os t _ (pass.ReadsCached x f p bytes v e h q) z =
      gone_on o os t _ _ refl refl refl (λ ino p q. q) z.ok.reads
      (λ y w. inr (file_gone t.here.server t.here.store.extents o f p e
      (keeping.mode_known Known t.here.server x.locks f.ino modes.S (λ q. cc q) (locks_of t.here (t.operations ++ o ∷ os) x v.session z.ok) h))) z
  operated all o os t _ (pass.ReadsZeros x f p d v e h q j m) z =
      gone_on o os t _ t.here.store refl refl refl (λ ino p q. q) z.ok.reads
      (λ y w. inr (file_gone t.here.server t.here.store.extents o f p e
      (keeping.mode_known Known t.here.server x.locks f.ino modes.S (λ q. cc q) (locks_of t.here (t.operations ++ o ∷ os) x v.session z.ok) h))) z

  -- Reductions, writes and a greeting.
  record Here (t : Turn) : Type 0 where
    config : t.config ≡ k
    ok : OkAt t

  reduced : (ino : ℕ) (t u : Turn) → Reduced ino t u → Here t → Here u
  unfolding pages.forget_from
  reduced ino t _ StaysHeld z = z
  reduced ino t _ (IsReduced x g to e m q) z =
      record {
        config = z.config;
        ok =
            stored (record t.here { session = Some y }) (cp.forgotten_at ino to t.here.store) t.operations t.operations (clear to) (reads to) (λ x q o i. inl i)
            (within t.here t.operations x y e (record { epoch = refl; requests = refl; rests = λ q. q })
            (keeping.reduced_locks Known t.here.server x.locks ino (locks_of t.here t.operations x e z.ok)) z.ok);
      }
    where
      y : ClientSession
      y = cp.released (cs.with_cache (locks.reduce x.locks ino).locks x) ino g to

      clear : (to : Mode) → Clear t.here.store.extents (cp.forgotten_at ino to t.here.store).extents
      clear modes.None i p q = unmapped_before ino (Words.Keys.page_no 0) t.here.store.extents i p q
      clear modes.S i p q = q
      clear modes.X i p q = q

      reads : (to : Mode) → AllKnown t.here.server (cp.forgotten_at ino to t.here.store).commands
      reads modes.None = z.ok.reads
      reads modes.S = z.ok.reads
      reads modes.X = z.ok.reads

  wrote : (tick : Bool) (x : ℕ × PageNo) (t u : Turn) → WritesOut now tick x t u → Here t → Here u
  unfolding pages.begin_command
  wrote tick x t _ StaysDirty z = z
  wrote tick x t _ (IsWritten s d m e q i j) z =
      record {
        config = z.config;
        ok = stored t.here _ t.operations t.operations (λ ino p q. q) reads (λ x q o i. inl i) z.ok;
      }
    where
      new : PageCommand
      new = pages.page_command t.next_command d.ino d.page (io.Write d.version)

      no : io.Write d.version ≡ io.Read → ⊥
      no q = cc q

      reads : AllKnown t.here.server (t.here.store.commands ++ new ∷ [])
      reads y i r = go (has_append t.here.store.commands (new ∷ []) y i)
        where
          go : Has y t.here.store.commands ⊎ Has y (new ∷ []) → Known t.here.server y.ino
          go (inl j) = z.ok.reads y j r
          go (inr (inl w)) = absurd (no (ap (λ (d : PageCommand). d.kind) (sym w) ∙ r))
          go (inr (inr j)) = absurd j

  greeted : (tick : Bool) (t u : Turn) → Greets now tick t u → Here t → Here u
  unfolding cs.send
  greeted tick t _ asking.IsSilent z = z
  greeted tick t _ (asking.SaysHello e m) z =
      record { config = z.config; ok = record { numbered = z.ok.numbered; locked = z.ok.locked; reads = z.ok.reads; waits = z.ok.waits } }

  -- A request is sent.
  asked_numbers : (s : ServerId) (life epoch : ℕ) (r : Requests) (body : Body) → Numbered s life (Some (epoch, r)) →
      Numbered s life (Some (epoch, cs.asking r body now))
  unfolding cs.asking
  asked_numbers s life epoch r body h =
      record {
        lives = h.lives;
        placed =
            λ m i b l n. let z = h.placed m i b l n in
            record {
              up_to = z.up_to;
              below = λ e. let q = z.below e in omega (arith, q);
              same = λ e w. let q = z.below e in absurd (omega (arith, q, w));
            };
        counts = let z = h.counts.0 in (omega arith, (z, omega arith));
      }

  numbers_of : (a : Association) (os : List Operation) (x : ClientSession) → a.session ≡ Some x → Ok a os →
      Numbered a.server a.life.0 (Some (x.epoch.0, x.requests))
  numbers_of a os x e h = subst (λ v. Numbered a.server a.life.0 (view v)) e h.numbered

  -- nothing was sent under the next number
  new_before : (a : Association) (os : List Operation) (x : ClientSession) → a.session ≡ Some x → Ok a os → (op : ℕ) →
      Before a.server a.life.0 x.epoch.0 x.requests.next op
  new_before a os x e h op = fresh a.server a.life.0 x.epoch.0 x.requests.next op none
    where
      z : Numbered a.server a.life.0 (Some (x.epoch.0, x.requests))
      z = numbers_of a os x e h

      none : (m : Message) → Has m M → Keyed c a.server a.life.0 x.epoch.0 x.requests.next m → ⊥
      none m i q =
          let n = q.under in
          let l = z.counts.0 in
          let y = (z.placed m i q.between q.of_life (omega (arith, n, l))).below q.of_epoch in
          omega (arith, n, y)

  asks_ok : (a : Association) (os : List Operation) (x : ClientSession) (body : Body) (cutting : Option ℕ) → a.session ≡ Some x →
      Waits a.server a.life.0 (cp.asking_session x now body cutting) a.store.extents os x.requests.next body → Ok a os →
      Ok (record a { session = Some (cp.asking_session x now body cutting) }) os
  unfolding cs.asking
  asks_ok a os x body cutting e w h =
      record {
        numbered = asked_numbers a.server a.life.0 x.epoch.0 x.requests body (numbers_of a os x e h);
        locked = locks_of a os x e h;
        reads = h.reads;
        waits = w;
      }

  page_self : (p : PageNo) → same_page p p ≡ true
  page_self p = eq-eqb p.0 p.0 refl

  wanted : (t : Turn) (x y : ClientSession) (o : Operation) (w : cp.Wanted) (os : List Operation) → cs.is_of t.here.server o ≡ true →
      ((op : ℕ) → Before t.here.server t.here.life.0 y.epoch.0 x.requests.next op) → keeping.LocksKnown Known t.here.server x.locks →
      Has (cp.sent_if w.own o) os → Wants t x now o.ask w →
      Waits t.here.server t.here.life.0 y (cp.cut_store w.cut t.here.store).extents os x.requests.next w.body
  wanted t x y o _ os own new known i (asking.ForLock ino e n d f) =
      inl
      (inl
      (record {
        o = o;
        there = i;
        picked =
            and_both (cs.is_on t.here.server ino o) (not (cs.is_sync o.ask))
            (and_both (cs.is_of t.here.server o) (cs.is_file ino (cs.file_of o.ask)) own (ap (cs.is_file ino) e ∙ eq-eqb ino ino refl)) (ap not n);
        before = new o.op;
      }))
  wanted t x y o _ os own new known i (asking.ForPlace f p l e q d m) = keeping.locked_file Known t.here.server x.locks f.ino l known q
  wanted t x y o _ os own new known i (asking.ToWrite f p bytes l e q d m) = (
    m,
    (
      inl
          (record {
            o = o;
            there = i;
            picked =
                ap (cs.changes_page t.here.server f.ino p) e
                ∙ and_both (same_server f.server t.here.server) ((f.ino == f.ino) && same_page p p)
                (ap (λ a. same_server (server_of a) t.here.server) (sym e) ∙ own)
                (and_both (f.ino == f.ino) (same_page p p) (eq-eqb f.ino f.ino refl) (page_self p));
            before = new o.op;
          }),
      keeping.locked_file Known t.here.server x.locks f.ino l known q,
    ),
  )
  wanted t x y o _ os own new known i (asking.ToPatch f p at bytes l e q d m) = (
    m,
    (
      inl
          (record {
            o = o;
            there = i;
            picked =
                ap (cs.changes_page t.here.server f.ino p) e
                ∙ and_both (same_server f.server t.here.server) ((f.ino == f.ino) && same_page p p)
                (ap (λ a. same_server (server_of a) t.here.server) (sym e) ∙ own)
                (and_both (f.ino == f.ino) (same_page p p) (eq-eqb f.ino f.ino refl) (page_self p));
            before = new o.op;
          }),
      keeping.locked_file Known t.here.server x.locks f.ino l known q,
    ),
  )
  wanted t x y o _ os own new known i (asking.ToCut f p l e q d m) = keeping.locked_file Known t.here.server x.locks f.ino l known q
  wanted t x y o _ os own new known i (asking.ToRemove server n ino l e f q d m) = tt
  wanted t x y o _ os own new known i (asking.ToName server n e f) = tt

  again_ok : (a : Association) (os : List Operation) (x : ClientSession) (q : Request) → a.session ≡ Some x → x.requests.asked ≡ Some q → Ok a os →
      Ok (record a { session = Some (cp.again_session x now q) }) os
  again_ok a os x q e f h =
      record {
        numbered = record {
          lives = z.lives;
          placed =
              λ m i b l n. let y = z.placed m i b l n in
              record { up_to = y.up_to; below = y.below; same = λ w. subst (λ r. Rattle.st_laws_requests.specs.Cuts.Cuts.SameBody r m) f (y.same w) };
          counts = (z.counts.0, subst (Rattle.st_laws_requests.specs.Cuts.Cuts.Given x.requests.next) f z.counts.1);
        };
        locked = locks_of a os x e h;
        reads = h.reads;
        waits =
            subst (OfRequest a.server a.life.0 x a.store.extents os) f (subst (OfSession a.server a.life.0 a.store.extents os) e h.waits);
      }
    where
      z : Numbered a.server a.life.0 (Some (x.epoch.0, x.requests))
      z = numbers_of a os x e h

  requested : (tick : Bool) (t u : Turn) → Asks now tick t u → Here t → Here u
  unfolding cs.send pages.forget_from
  requested tick t _ asking.AsksNothing z = z
  requested tick t _ (asking.AsksAgain x q e n f o) z = record { config = z.config; ok = again_ok t.here t.operations x q e f z.ok }
  requested tick t _ (asking.Reasserts x m d) z =
      record { config = z.config; ok = asks_ok t.here t.operations x (bodies.Reassert (locks.all_locks x.locks)) None m.session tt z.ok }
  requested tick t _ (asking.Releases x r rs m d e) z =
      record {
        config = z.config;
        ok =
            asks_ok (record t.here { session = Some y }) t.operations y (bodies.Released r.ino r.g r.to) None refl tt
            (within t.here t.operations x y m.session (record { epoch = refl; requests = refl; rests = λ q. q })
            (locks_of t.here t.operations x m.session z.ok) z.ok);
      }
    where
      y : ClientSession
      y = record x { releases = rs }
  requested tick t _ (asking.KeepsAlive x f e) z =
      record { config = z.config; ok = asks_ok t.here t.operations x bodies.KeepAlive None f.may.session tt z.ok }
  requested tick t _ (asking.AsksFor x xs o ys w f e first) z =
      record {
        config = z.config;
        ok =
            asks_ok (record t.here { store = st }) os x w.body (cp.file_cut w.cut) f.may.session
            (wanted t x (cp.asking_session x now w.body (cp.file_cut w.cut)) o w os
            (and_true (cs.is_of t.here.server o) _ first.may).0 (λ op. new_before t.here t.operations x f.may.session z.ok op)
            (locks_of t.here t.operations x f.may.session z.ok) (has_right xs (cp.sent_if w.own o ∷ ys) (cp.sent_if w.own o) (inl refl)) first.wants)
            (settle t.here st t.operations os settled (reads w.cut) z.ok);
      }
    where
      st : Store
      st = cp.cut_store w.cut t.here.store

      os : List Operation
      os = xs ++ cp.sent_if w.own o ∷ ys

      settled : Settled t.here
      settled y q = ap (λ (v : ClientSession). v.requests.asked) (some_is (sym q ∙ f.may.session)) ∙ f.may.none

      reads : (cut : Option (ℕ × PageNo)) → AllKnown t.here.server (cp.cut_store cut t.here.store).commands
      reads None = z.ok.reads
      reads (Some y) = z.ok.reads

  pub passed : (tick : Bool) (t : Turn) → t.config ≡ k → OkAt t → OkAt (cp.passes now tick t)
  passed tick t e h =
      let r = passes now tick t in
      (requested tick r.greeted (cp.passes now tick t) r.requests
      (greeted tick r.written r.greeted r.greeting
      (each_lasts (WritesOut now tick) (λ xs v. Here v) (λ x xs v y o p. wrote tick x v y o p)
      (places_of r.reduced.here.session r.reduced.here.store.pages) r.reduced r.written r.writes
      (each_lasts Reduced (λ xs v. Here v) (λ x xs v y o p. reduced x v y o p) (cp.files_demanded r.operated.here.session) r.operated r.reduced
      r.reductions (done r.operated
      (each_lasts (Operated now t.operations) (λ os v. Passing os v) (λ o os v x y z. operated t.operations o os v x y z) t.operations
      (with_operations [] t) r.operated r.operations (record { config = e; ok = h }))))))).ok
    where
      done : (u : Turn) → Passing [] u → Here u
      done u z = record { config = z.config; ok = subst (Ok u.here) (append-nil u.operations) z.ok }
