-- A client's passes at a server, walked whole; and folds over a pass.
use Rattle.st_lemmas.proofs.Words
use Words.{◌≡◌, ℕ, Bool, true, List, [], ◌∷◌, Option, Some, None, refl, ◌∙◌, GrantNo, PageNo, Stamp, Mode, DirtyPage, MappedBlock}
use Words.ClientLocks as locks
use Words.ClientPages as pages
use Words.ClientPasses as cp
use Words.ClientState.{ClientSession, Turn, with_cache}
use Words.Tables.{cond_either}
use Rattle.st_trace.specs.Client.Each.{Each, Ends, Next}
use Rattle.st_trace.specs.Client.Passes.{Reduced, StaysHeld, IsReduced, WritesOut, StaysDirty, IsWritten, places_of, Passed}
use Rattle.st_trace.proofs.Client.Operating.{operations}
use Rattle.st_trace.proofs.Client.Requesting.{greets, requests}

-- What lasts through each member of a pass, lasts through the pass. The fact may concern members that the pass has not reached yet.
pub each_lasts : {A : Type 0} (One : A → Turn → Turn → Type 0) (P : List A → Turn → Type 0) →
    ((x : A) (xs : List A) (t u : Turn) → One x t u → P (x ∷ xs) t → P xs u) →
    (xs : List A) (t u : Turn) → Each One xs t u → P xs t → P [] u
each_lasts One P step _ _ _ (Ends t) p = p
each_lasts One P step _ _ _ (Next x xs t u v o rest) p = each_lasts One P step xs u v rest (step x xs t u o p)

-- Reductions
reduces : (ino : ℕ) (t : Turn) → Reduced ino t (cp.reduce t ino t.here.session)
unfolding cp.reduce cp.reduce_idle cp.reduce_by cp.reduce_given cp.reduce_to
reduces ino t = go t.here.session refl
  where
    given : (s : ClientSession) → t.here.session ≡ Some s → cp.may_reduce t s ino ≡ true → (x : Option (GrantNo × Mode)) →
        (locks.reduce s.locks ino).given ≡ x →
        Reduced ino t (cp.reduce_given t (with_cache (locks.reduce s.locks ino).locks s) ino x)
    given s e m None q = StaysHeld
    given s e m (Some x) q = IsReduced s x.0 x.1 e m q

    go : (x : Option ClientSession) → t.here.session ≡ x → Reduced ino t (cp.reduce t ino x)
    go None e = StaysHeld
    go (Some s) e = cond_either (Reduced ino t) (cp.may_reduce t s ino) _ t (λ m. given s e m (locks.reduce s.locks ino).given refl) (λ m. StaysHeld)

reduces_each : (inos : List ℕ) (t : Turn) → Each Reduced inos t (cp.reduce_each inos t)
unfolding cp.reduce_each
reduces_each [] t = Ends t
reduces_each (ino ∷ inos) t = let u = cp.reduce t ino t.here.session in Next ino inos t u (cp.reduce_each inos u) (reduces ino t) (reduces_each inos u)

pub reductions : (t : Turn) → Each Reduced (cp.files_demanded t.here.session) t (cp.reductions t)
unfolding cp.reductions
reductions t = reduces_each (cp.files_demanded t.here.session) t

-- Writes
writes_page : (now : Stamp) (tick : Bool) (s : ClientSession) (x : ℕ × PageNo) (t : Turn) → t.here.session ≡ Some s →
    WritesOut now tick x t (cp.write_page t s now tick (pages.dirty_of t.here.store.pages x.0 x.1))
unfolding cp.write_page cp.write_due cp.write_out cp.write_out_at cp.submit_write cp.submit_command
writes_page now tick s x t e = go (pages.dirty_of t.here.store.pages x.0 x.1) refl
  where
    at : (d : DirtyPage) → pages.dirty_of t.here.store.pages x.0 x.1 ≡ Some d → cp.is_writable t s now tick d ≡ true →
        (m : Option MappedBlock) → pages.mapping_of t.here.store.extents d.ino d.page ≡ m → WritesOut now tick x t (cp.write_out_at t d m)
    at d q w None i = StaysDirty
    at d q w (Some m) i = IsWritten s d m e q w i

    go : (o : Option DirtyPage) → pages.dirty_of t.here.store.pages x.0 x.1 ≡ o → WritesOut now tick x t (cp.write_page t s now tick o)
    go None q = StaysDirty
    go (Some d) q = cond_either (WritesOut now tick x t) (cp.is_writable t s now tick d) _ t
        (λ w. at d q w (pages.mapping_of t.here.store.extents d.ino d.page) refl) (λ w. StaysDirty)

-- a write out leaves the session
session_stays : (now : Stamp) (tick : Bool) (x : ℕ × PageNo) (t u : Turn) → WritesOut now tick x t u → u.here.session ≡ t.here.session
session_stays now tick x t _ StaysDirty = refl
session_stays now tick x t _ (IsWritten s d m e q w i) = refl

writes_each : (now : Stamp) (tick : Bool) (s : ClientSession) (xs : List (ℕ × PageNo)) (t : Turn) → t.here.session ≡ Some s → Each (WritesOut now tick) xs t
    (cp.write_each s now tick xs t)
unfolding cp.write_each
writes_each now tick s [] t e = Ends t
writes_each now tick s (x ∷ xs) t e =
    let u = cp.write_page t s now tick (pages.dirty_of t.here.store.pages x.0 x.1) in let w = writes_page now tick s x t e in
    Next x xs t u (cp.write_each s now tick xs u) w (writes_each now tick s xs u (session_stays now tick x t u w ∙ e))

pub writes : (now : Stamp) (tick : Bool) (t : Turn) → Each (WritesOut now tick) (places_of t.here.session t.here.store.pages) t (cp.writes now tick t)
unfolding cp.writes cp.writes_by
writes now tick t = go t.here.session refl
  where
    go : (x : Option ClientSession) → t.here.session ≡ x → Each (WritesOut now tick) (places_of x t.here.store.pages) t (cp.writes_by t now tick x)
    go None e = Ends t
    go (Some s) e = writes_each now tick s (pages.dirty_places t.here.store.pages) t e

-- All passes
pub passes : (now : Stamp) (tick : Bool) (t : Turn) → Passed now tick t (cp.passes now tick t)
unfolding cp.passes
passes now tick t =
    let a = cp.operations now t in
    let b = cp.reductions a in
    let c = cp.writes now tick b in
    let d = cp.greeting now tick c in
    record {
      operated = a;
      reduced = b;
      written = c;
      greeted = d;
      operations = operations now t;
      reductions = reductions a;
      writes = writes now tick b;
      greeting = greets now tick c;
      requests = requests now tick d;
    }
