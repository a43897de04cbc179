-- A client's step, walked for its answers `dirtyfull`. At each, 64 pages are dirty beside the asked
-- one. They stay so in the step. Each was dirty before the step, or the outputs before the answer
-- changed it; and none of them answers a sync of its file hard since.
use Rattle.st_lemmas.proofs.Words
use Words.{◌≡◌, ◌⊎◌, ℕ, Bool, true, false, List, [], ◌∷◌, ◌++◌, Option, Some, None, refl, sym, ap, ◌∙◌, subst, inl, inr}
use Words.{append-nil, append_assoc, eqb-true, find, length, list_any, map, nat_le, AppAnswer, Ask, CleanPage, ClientInput, DirtyPage, FileId, Mode, Note}
use Words.{Operation, Output, PageNo, ServerId, Stamp}
use Words.answers
use Words.asks
use Words.modes
use Words.outputs
use Words.Client as cl
use Words.ClientPages as pages
use Words.ClientPasses as cp
use Words.ClientState as cs
use Words.ClientState.{Association, ClientState, ClientTurn, Turn, at_each, at_these, client_turn, enter, leave, note, server_of, with_associations, with_operations}
use Words.Lists.{Has}
use Words.Members.{has_left, has_right}
use Rattle.st_lemmas.proofs.Contents.{Place_is}
use Rattle.st_trace.specs.Client.Operations as pass
use Rattle.st_trace.specs.Client.Operations.{Operated}
use Rattle.st_trace.specs.Client.Passes.{Reduced, StaysHeld, IsReduced, WritesOut, StaysDirty, IsWritten, places_of}
use Rattle.st_trace.specs.Client.Requests as asking
use Rattle.st_trace.specs.Client.Requests.{Greets, Requests}
use Rattle.st_trace.proofs.Client.Walk.{each_lasts, passes}
use Rattle.st_laws_steps.specs.Client.Client.{ChangesPage}
use Rattle.st_laws_steps.specs.Client.Losses.{Fit}
use Rattle.st_laws_steps.specs.Lives.Lives.{Once, server_number}
use Rattle.st_laws_steps.proofs.Client.Asking.{changes_by_passes, passes_keep_or_ask}
use Rattle.st_laws_steps.proofs.Client.Nexts.{changes_next, dirty_put}
use Rattle.st_laws_steps.proofs.Client.Only.{Only}
use Rattle.st_laws_steps.proofs.Client.Passing.{IsPassing, KeepsOrAsks}
use Rattle.st_laws_pages.proofs.Causes.Placed.{EachOut, Since}
use Rattle.st_laws_pages.proofs.Flush.Adding.{Grows}
use Rattle.st_laws_pages.proofs.Lives.Among.{numbers_kept, others_apart}
use Rattle.st_laws_volume.specs.LossMarks.{IsOnce}
use Rattle.st_laws_volume.proofs.ClientAnswers.{Tells}
use Rattle.st_laws_volume.proofs.DirtyAfterHard.{AllAsked, CleanOf, after_all, after_output, hard_here, note_quiet, one_more, passes_known, passes_other, told_clean, told_known, told_once, written_clean}
use Rattle.st_laws_volume.proofs.DirtyBefore.{Begun, From, from_more, fewer, says_change, told_from}
use Rattle.st_laws_volume.proofs.DirtyBefore as changing
use Rattle.st_laws_volume.proofs.DirtyOnce as once
use Rattle.st_laws_volume.proofs.FullInPasses.{Early, Unfull, UnfullAnswer, early_before, early_unfull}
use Rattle.st_laws_volume.proofs.OwedLines.{once_found}
use Rattle.st_volume.specs.Pages.{place_of}

-- A fact of each answer `dirtyfull`, by the outputs before it.
abbrev pub AtAnswer : Type 0 → AppAnswer → Type 0
AtAnswer fact answers.DirtyFull = fact
AtAnswer fact a = Unit {0}

abbrev pub AtOutput : (List Output → ℕ → Type 0) → List Output → Output → Type 0
AtOutput F done (outputs.Answer op a) = AtAnswer (F done op) a
AtOutput F done o = Unit {0}

abbrev pub AllFull : (List Output → ℕ → Type 0) → List Output → List Output → Type 0
AllFull F done [] = Unit {0}
AllFull F done (o ∷ os) = AtOutput F done o × AllFull F (done ++ o ∷ []) os

full_last : (F : List Output → ℕ → Type 0) (done os : List Output) (o : Output) →
    AllFull F done os → AtOutput F (done ++ os) o →
    AllFull F done (os ++ o ∷ [])
full_last F done [] o h k = (subst (λ xs. AtOutput F xs o) (append-nil done) k, tt)
full_last F done (x ∷ os) o h k = (
  h.0,
  full_last F (done ++ x ∷ []) os o h.1
      (subst (λ xs. AtOutput F xs o) (sym (append_assoc done (x ∷ []) os)) k),
)

at_more : (F G : List Output → ℕ → Type 0) →
    ((done : List Output) (op : ℕ) → F done op → G done op) → (done : List Output) (o : Output) →
    AtOutput F done o → AtOutput G done o
at_more F G f done (outputs.Answer op a) h = by a h
  where
    by : (a : AppAnswer) → AtAnswer (F done op) a → AtAnswer (G done op) a
    by answers.DirtyFull k = f done op k
    by a k = tt
at_more F G f done o h = tt

full_more : (F G : List Output → ℕ → Type 0) →
    ((done : List Output) (op : ℕ) → F done op → G done op) → (done os : List Output) →
    AllFull F done os →
    AllFull G done os
full_more F G f done [] h = tt
full_more F G f done (o ∷ os) h =
    (at_more F G f done o h.0, full_more F G f (done ++ o ∷ []) os h.1)

-- outputs without such an answer
at_unfull : (F : List Output → ℕ → Type 0) (done : List Output) (o : Output) → Unfull o →
    AtOutput F done o
at_unfull F done (outputs.Answer op a) q = by a q
  where
    by : (a : AppAnswer) → UnfullAnswer a → AtAnswer (F done op) a
    by answers.DirtyFull k = absurd k
    by a k = tt
at_unfull F done o q = tt

none_full : (F : List Output → ℕ → Type 0) (done os : List Output) → EachOut Unfull os →
    AllFull F done os
none_full F done [] q = tt
none_full F done (o ∷ os) q = (at_unfull F done o q.one, none_full F (done ++ o ∷ []) os q.rest)

-- an output that is neither such an answer nor an answer `hard`
abbrev QuietAnswer : AppAnswer → Type 0
QuietAnswer answers.Hard = ⊥
QuietAnswer a = UnfullAnswer a

abbrev Quiet : Output → Type 0
Quiet (outputs.Answer op a) = QuietAnswer a
Quiet o = Unit {0}

quiet_unfull : (o : Output) → Quiet o → Unfull o
quiet_unfull (outputs.Answer op a) q = by a q
  where
    by : (a : AppAnswer) → QuietAnswer a → UnfullAnswer a
    by answers.Hard k = tt
    by a k = k
quiet_unfull o q = tt

-- Files and places of what is changed.
changed_place : (ask : Ask) (t : Turn) (f : FileId) (p : PageNo) (bytes : List ℕ) (n : Note) →
    pass.Changed ask t f p bytes n →
    (place_of ask ≡ Some (f, p)) × ChangesPage f p n
changed_place ask t _ _ _ _ (pass.IsWritten f p bytes e) = (ap place_of e, (refl, refl))
changed_place ask t _ _ _ _ (pass.IsPatched f p at bytes old e c) = (ap place_of e, (refl, refl))

changed_server : (ask : Ask) (t : Turn) (f : FileId) (p : PageNo) (bytes : List ℕ) (n : Note) →
    pass.Changed ask t f p bytes n → f.server ≡ server_of ask
changed_server ask t _ _ _ _ (pass.IsWritten f p bytes e) = sym (ap server_of e)
changed_server ask t _ _ _ _ (pass.IsPatched f p at bytes old e c) = sym (ap server_of e)

own_server : (s : ServerId) (o : Operation) → cs.is_of s o ≡ true → server_of o.ask ≡ s
own_server s o q = ap (λ n. record { 0 = n }) (eqb-true (server_of o.ask).0 s.0 q)

-- Clean pages that are used.
used_dirty : (ps : pages.Pages) (ino : ℕ) (p : PageNo) → (pages.use_page ps ino p).dirty ≡ ps.dirty
unfolding pages.use_page pages.use_clean pages.use_at
used_dirty ps ino p = go (pages.dirty_of ps ino p)
  where
    clean : (o : Option CleanPage) → (pages.use_at ps o).dirty ≡ ps.dirty
    clean None = refl
    clean (Some c) = refl

    go : (o : Option DirtyPage) → (pages.use_clean ps ino p o).dirty ≡ ps.dirty
    go None = clean (pages.clean_of ps ino p)
    go (Some d) = refl

-- A step.
module _ (asked : ℕ → Option Ask) (now : Stamp) (s : ClientState) where
  -- A page that is dirty; it was so before the step, or these outputs changed it; and none of them
  -- answers a sync of its file hard since.
  pub record IsKept (done : List Output) (b : Association) (ino : ℕ) (p : PageNo) : Type 0 where
    pub page : DirtyPage
    pub dirty : pages.dirty_of b.store.pages ino p ≡ Some page
    pub clean : after_all asked b.server ino p false done ≡ false
    pub was : Begun now s b.server ino p ⊎ (list_any (says_change b.server ino p) done ≡ true)

  -- An ask that is answered so.
  pub record IsFullAt (done : List Output) (op : ℕ) (b : Association) : Type 0 where
    pub ask : Ask
    pub known : asked op ≡ Some ask
    pub f : FileId
    pub p : PageNo
    pub place : place_of ask ≡ Some (f, p)
    pub own : f.server ≡ b.server
    pub ds : List DirtyPage
    pub alone : IsOnce ds
    pub many : nat_le 64 (length (pages.without_dirty f.ino p ds)) ≡ true
    pub each : (d : DirtyPage) → Has d ds → IsKept done b d.ino d.page

  -- what was dirty stays dirty
  record Stays (a b : Association) : Type 0 where
    server : b.server ≡ a.server
    dirty : (ino : ℕ) (p : PageNo) (d : DirtyPage) → pages.dirty_of a.store.pages ino p ≡ Some d →
        (x : DirtyPage) × (pages.dirty_of b.store.pages ino p ≡ Some x)

  stays_kept : (a b : Association) → Stays a b → (done : List Output) (ino : ℕ) (p : PageNo) →
      IsKept done a ino p → IsKept done b ino p
  stays_kept a b k done ino p h =
      let z = k.dirty ino p h.page h.dirty in
      record {
        page = z.0;
        dirty = z.1;
        clean = ap (λ v. after_all asked v ino p false done) k.server ∙ h.clean;
        was = subst (λ v. Begun now s v ino p ⊎ (list_any (says_change v ino p) done ≡ true))
            (sym k.server) h.was;
      }

  stays_full : (a b : Association) → Stays a b → (done : List Output) (op : ℕ) →
      IsFullAt done op a → IsFullAt done op b
  stays_full a b k done op h =
      record {
        ask = h.ask;
        known = h.known;
        f = h.f;
        p = h.p;
        place = h.place;
        own = h.own ∙ sym k.server;
        ds = h.ds;
        alone = h.alone;
        many = h.many;
        each = λ d i. stays_kept a b k done d.ino d.page (h.each d i);
      }

  -- A pass, after what was answered at other servers.
  module _ (Before : List Output → ℕ → Type 0) where
    abbrev At : Association → List Output → ℕ → Type 0
    At b done op = Before done op ⊎ IsFullAt done op b

    stays_at : (a b : Association) → Stays a b → (done : List Output) (op : ℕ) → At a done op →
        At b done op
    stays_at a b k done op (inl h) = inl h
    stays_at a b k done op (inr h) = inr (stays_full a b k done op h)

    -- what holds of an association and the outputs so far
    record Good (b : Association) (out : List Output) : Type 0 where
      alone : IsOnce b.store.pages.dirty
      clean : CleanOf asked b out
      from : From now s b out
      full : AllFull (At b) [] out

    -- an association with the same dirty pages
    same_stays : (a b : Association) → b.server ≡ a.server →
        b.store.pages.dirty ≡ a.store.pages.dirty → Stays a b
    same_stays a b q e =
        record { server = q; dirty = λ ino p d h. (d, ap (find (pages.is_dirty_of ino p)) e ∙ h) }

    good_same : (a b : Association) (out : List Output) → b.server ≡ a.server →
        b.store.pages.dirty ≡ a.store.pages.dirty → Good a out → Good b out
    good_same a b out q e h =
        record {
          alone = subst IsOnce (sym e) h.alone;
          clean = λ ino p d i. ap (λ v. after_all asked v ino p false out) q ∙
              h.clean ino p d (ap (find (pages.is_dirty_of ino p)) (sym e) ∙ i);
          from = fewer now s a b out q
              (λ ino p d i. (d, ap (find (pages.is_dirty_of ino p)) (sym e) ∙ i)) h.from;
          full = full_more (At a) (At b) (stays_at a b (same_stays a b q e)) [] out h.full;
        }

    -- one more output
    grown : (out : List Output) (o : Output) → Grows out (out ++ o ∷ [])
    grown out o = record { more = o ∷ []; out = refl }

    quiet_after : (v : ServerId) (ino : ℕ) (p : PageNo) (o : Output) → Quiet o →
        after_output asked v ino p false o ≡ false
    quiet_after v ino p (outputs.Answer op a) q = by a q
      where
        by : (a : AppAnswer) → QuietAnswer a →
            after_output asked v ino p false (outputs.Answer op a) ≡ false
        by answers.Hard k = absurd k
        by a k = refl
    quiet_after v ino p (outputs.Note n) q = note_quiet asked v ino p n
    quiet_after v ino p (outputs.Send m) q = refl
    quiet_after v ino p (outputs.Submit number at what) q = refl

    full_quiet : (b : Association) (out : List Output) (o : Output) → Quiet o →
        AllFull (At b) [] out → AllFull (At b) [] (out ++ o ∷ [])
    full_quiet b out o q h = full_last (At b) [] out o h (at_unfull (At b) out o (quiet_unfull o q))

    good_more : (b : Association) (out : List Output) (o : Output) → Quiet o → Good b out →
        Good b (out ++ o ∷ [])
    good_more b out o q h =
        record {
          alone = h.alone;
          clean = one_more asked b out o (λ ino p d i. quiet_after b.server ino p o q) h.clean;
          from = from_more now s b out (out ++ o ∷ []) (grown out o) h.from;
          full = full_quiet b out o q h.full;
        }

    -- a sync whose file is hard
    good_hard : (o : Operation) (t : Turn) (f : FileId) → asked o.op ≡ Some o.ask →
        cs.is_of t.here.server o ≡ true → o.ask ≡ asks.Sync f →
        pages.is_hard t.here.store f.ino ≡ true → Good t.here t.out →
        Good t.here (t.out ++ outputs.Answer o.op answers.Hard ∷ [])
    good_hard o t f k own e hard h =
        record {
          alone = h.alone;
          clean =
              hard_here asked (o ∷ []) t o.op all
              (record {
                operation = o;
                has = inl refl;
                op_is = refl;
                file = f;
                was_asked = e;
                own = sym (ap server_of e) ∙ own_server t.here.server o own;
                hard = hard;
              })
              h.clean;
          from = from_more now s t.here t.out (t.out ++ outputs.Answer o.op answers.Hard ∷ [])
              (grown t.out _) h.from;
          full = full_last (At t.here) [] t.out (outputs.Answer o.op answers.Hard) h.full tt;
        }
      where
        all : AllAsked asked (o ∷ [])
        all x (inl q) = subst (λ (y : Operation). asked y.op ≡ Some y.ask) (sym q) k
        all x (inr i) = absurd i

    -- a page that is changed
    module _ (t : Turn) (f : FileId) (p : PageNo) (bytes : List ℕ) (n : Note) where
      abbrev new : DirtyPage
      new = pages.new_dirty t.here.store.pages f.ino p bytes

      abbrev later : Turn
      later = cp.with_pages_changed (pages.written t.here.store.pages f.ino p bytes) f.ino p
          (note t n)

      written_stays : Stays t.here later.here
      unfolding pages.written
      written_stays =
          record { server = refl; dirty = λ ino q d i. go ino q d i (Place_is f.ino p ino q) refl }
        where
          go : (ino : ℕ) (q : PageNo) (d : DirtyPage) →
              pages.dirty_of t.here.store.pages ino q ≡ Some d → (b : Bool) →
              Place_is f.ino p ino q ≡ b →
              (x : DirtyPage) × (pages.dirty_of later.here.store.pages ino q ≡ Some x)
          go ino q d i true z = (new, dirty_put new t.here.store.pages.dirty ino q true z)
          go ino q d i false z = (d, dirty_put new t.here.store.pages.dirty ino q false z ∙ i)

      good_written : f.server ≡ t.here.server → ChangesPage f p n → Good t.here t.out →
          Good later.here (t.out ++ outputs.Note n ∷ [])
      unfolding pages.written
      good_written own c h =
          record {
            alone = once.put_once f.ino p new refl refl t.here.store.pages.dirty h.alone;
            clean = written_clean asked t f p bytes n own c h.clean;
            from = changing.written now s t f p bytes n own c h.from;
            full =
                full_quiet later.here t.out (outputs.Note n) tt
                (full_more (At t.here) (At later.here) (stays_at t.here later.here written_stays) []
                t.out h.full);
          }

    -- an ask that is answered `dirtyfull`
    good_full : (o : Operation) (t : Turn) (f : FileId) (p : PageNo) → asked o.op ≡ Some o.ask →
        place_of o.ask ≡ Some (f, p) → f.server ≡ t.here.server →
        pages.is_full_for t.here.store.pages f.ino p ≡ true → Good t.here t.out →
        Good t.here (t.out ++ outputs.Answer o.op answers.DirtyFull ∷ [])
    good_full o t f p k place own many h =
        record {
          alone = h.alone;
          clean = one_more asked t.here t.out (outputs.Answer o.op answers.DirtyFull)
              (λ ino p d i. refl) h.clean;
          from = from_more now s t.here t.out (t.out ++ outputs.Answer o.op answers.DirtyFull ∷ [])
              (grown t.out _) h.from;
          full = full_last (At t.here) [] t.out (outputs.Answer o.op answers.DirtyFull) h.full
              (inr full);
        }
      where
        each : (d : DirtyPage) → Has d t.here.store.pages.dirty → IsKept t.out t.here d.ino d.page
        each d i =
            let q = once_found t.here.store.pages.dirty h.alone d i in
            record {
              page = d;
              dirty = q;
              clean = h.clean d.ino d.page d q;
              was =
                  h.from d.ino d.page d q;
            }

        full : IsFullAt t.out o.op t.here
        full =
            record {
              ask = o.ask;
              known = k;
              f = f;
              p = p;
              place = place;
              own = own;
              ds = t.here.store.pages.dirty;
              alone = h.alone;
              many = many;
              each = each;
            }

    -- One operation.
    operated : (all : List Operation) (o : Operation) (t u : Turn) → asked o.op ≡ Some o.ask →
        Operated now all o t u → Good t.here t.out →
        Good u.here u.out
    operated all o t _ k pass.Waits h = h
    operated all o t _ k (pass.IsHard f e q d) h = good_hard o t f k e q d h
    operated all o t _ k (pass.IsQuiesced v own n there none unsent) h =
        good_more t.here t.out _ tt h
    operated all o t _ k (pass.ChangesPage v f p bytes n y c m e) h =
        good_more (later t f p bytes n).here (t.out ++ outputs.Note n ∷ [])
        (outputs.Answer o.op answers.Written) tt
        (good_written t f p bytes n
        (changed_server o.ask t f p bytes n c ∙ own_server t.here.server o y.own)
        (changed_place o.ask t f p bytes n c).1 h)
    operated all o t _ k (pass.IsDirtyFull v f p bytes n y c m e) h =
        good_full o t f p k (changed_place o.ask t f p bytes n c).0
        (changed_server o.ask t f p bytes n c ∙ own_server t.here.server o y.own) e h
    operated all o t _ k (pass.Fetches v f p m y n c e r) h =
        good_more _ t.out _ tt (good_same t.here _ t.out refl refl h)
    operated all o t _ k (pass.ReadsCached v f p bytes y e d q) h =
        good_more _ t.out _ tt
        (good_same t.here _ t.out refl (used_dirty t.here.store.pages f.ino p) h)
    operated all o t _ k (pass.ReadsZeros v f p e y a d q j m) h = good_more t.here t.out _ tt h

    -- What comes after them leaves the dirty pages.
    abbrev Left : Turn → Type 0
    Left t = AllFull (At t.here) [] t.out

    left_same : (t u : Turn) → u.here.server ≡ t.here.server →
        u.here.store.pages.dirty ≡ t.here.store.pages.dirty → Left t →
        AllFull (At u.here) [] t.out
    left_same t u q e h = full_more (At t.here) (At u.here)
        (stays_at t.here u.here (same_stays t.here u.here q e)) [] t.out h

    forgotten : (ino : ℕ) (to : Mode) (st : pages.Store) →
        (cp.forgotten_at ino to st).pages.dirty ≡ st.pages.dirty
    unfolding pages.forget_from pages.drop_from
    forgotten ino modes.None st = refl
    forgotten ino modes.S st = refl
    forgotten ino modes.X st = refl

    cut_left : (cut : Option (ℕ × PageNo)) (st : pages.Store) →
        (cp.cut_store cut st).pages.dirty ≡ st.pages.dirty
    unfolding pages.forget_from pages.drop_from
    cut_left None st = refl
    cut_left (Some x) st = refl

    reduced : (ino : ℕ) (t u : Turn) → Reduced ino t u → Left t → Left u
    reduced ino t _ StaysHeld h = h
    reduced ino t u (IsReduced v g to e m q) h =
        left_same t u refl (forgotten ino to t.here.store) h

    wrote : (tick : Bool) (x : ℕ × PageNo) (t u : Turn) → WritesOut now tick x t u → Left t → Left u
    wrote tick x t _ StaysDirty h = h
    wrote tick x t u (IsWritten v d m e q i j) h =
        full_quiet u.here t.out _ tt (left_same t u refl refl h)

    greeted : (tick : Bool) (t u : Turn) → Greets now tick t u → Left t → Left u
    unfolding cs.send
    greeted tick t _ asking.IsSilent h = h
    greeted tick t u (asking.SaysHello e m) h =
        full_quiet u.here t.out _ tt (left_same t u refl refl h)

    requested : (tick : Bool) (t u : Turn) → Requests now tick t u → Left t → Left u
    unfolding cs.send
    requested tick t _ asking.AsksNothing h = h
    requested tick t u (asking.AsksAgain v q e c n o) h =
        full_quiet u.here t.out _ tt (left_same t u refl refl h)
    requested tick t u (asking.Reasserts v m d) h =
        full_quiet u.here t.out _ tt (left_same t u refl refl h)
    requested tick t u (asking.Releases v r rs m d e) h =
        full_quiet u.here t.out _ tt (left_same t u refl refl h)
    requested tick t u (asking.AsksFor v xs o ys x f e first) h =
        full_quiet u.here t.out _ tt (left_same t u refl (cut_left x.cut t.here.store) h)
    requested tick t u (asking.KeepsAlive v f e) h =
        full_quiet u.here t.out _ tt (left_same t u refl refl h)

    passed : (tick : Bool) (t : Turn) → AllAsked asked t.operations → Good t.here t.out →
        Left (cp.passes now tick t)
    passed tick t known h =
        let r = passes now tick t in
        let z : AllAsked asked [] × Good r.operated.here r.operated.out =
        each_lasts (Operated now t.operations) (λ os v. AllAsked asked os × Good v.here v.out)
        (λ o os v x y k.
        ((λ a i. k.0 a (inr i)), operated t.operations o v x (k.0 o (inl refl)) y k.1))
        t.operations (with_operations [] t) r.operated
        r.operations (known, h) in
        requested tick r.greeted (cp.passes now tick t) r.requests
        (greeted tick r.written r.greeted r.greeting
        (each_lasts (WritesOut now tick) (λ xs v. Left v) (λ x xs v y o p. wrote tick x v y o p)
        (places_of r.reduced.here.session r.reduced.here.store.pages)
        r.reduced r.written r.writes
        (each_lasts Reduced (λ xs v. Left v) (λ x xs v y o p. reduced x v y o p)
        (cp.files_demanded r.operated.here.session) r.operated r.reduced r.reductions
        z.1.full)))

  -- Each server in turn.
  abbrev pub FullOf : List Association → List Output → ℕ → Type 0
  FullOf al done op = (b : Association) × Has b al × IsFullAt done op b

  record AllGood (t : ClientTurn) (al : List Association) : Type 0 where
    known : AllAsked asked t.state.operations
    apart : Once (map server_number (t.state.associations ++ al))
    clean : (b : Association) → Has b al → CleanOf asked b t.out
    from : (b : Association) → Has b al → From now s b t.out
    alone : (b : Association) → Has b al → IsOnce b.store.pages.dirty
    full : AllFull (FullOf t.state.associations) [] t.out

  these_full : (tick : Bool) (al : List Association) (t : ClientTurn) → AllGood t al →
      AllFull (FullOf (at_these (cp.passes now tick) al t).state.associations) []
      (at_these (cp.passes now tick) al t).out
  unfolding at_these
  these_full tick [] t h = h.full
  these_full tick (a ∷ rest) t h =
      these_full tick rest (leave t u)
      (record {
        known = passes_known asked now tick (enter t a) h.known;
        apart = subst Once (sym (numbers_kept t.state.associations rest a u.here (sym server)))
            h.apart;
        clean = λ b i.
            passes_other asked t.state.operations now b h.known (enter t a) u c
            (others_apart t.state.associations rest a h.apart b
            (has_right t.state.associations rest b i)) (h.clean b (inr i));
        from = λ b i. from_more now s b t.out u.out grows (h.from b (inr i));
        alone = λ b i. h.alone b (inr i);
        full = full_more (At (FullOf t.state.associations) u.here)
            (FullOf (t.state.associations ++ u.here ∷ [])) left [] u.out passed_full;
      })
    where
      u : Turn
      u = cp.passes now tick (enter t a)

      c : Only (IsPassing t.state.operations KeepsOrAsks) now (enter t a) u
      c = passes_keep_or_ask now tick (enter t a)

      server : a.server ≡ u.here.server
      server = (changes_next now (enter t a) u (changes_by_passes now tick (enter t a))).server

      grows : Grows t.out u.out
      grows = changing.next_grows now s (enter t a) u
          (changes_next now (enter t a) u (changes_by_passes now tick (enter t a)))

      passed_full : AllFull (At (FullOf t.state.associations) u.here) [] u.out
      passed_full =
          passed (FullOf t.state.associations) tick (enter t a) h.known
          (record {
            alone = h.alone a (inl refl);
            clean = h.clean a (inl refl);
            from = h.from a (inl refl);
            full = full_more (FullOf t.state.associations) (At (FullOf t.state.associations) a)
                (λ done op k. inl k) [] t.out h.full;
          })

      left : (done : List Output) (op : ℕ) → At (FullOf t.state.associations) u.here done op →
          FullOf (t.state.associations ++ u.here ∷ []) done op
      left done op (inl (b, i, k)) = (b, has_left t.state.associations (u.here ∷ []) b i, k)
      left done op (inr k) =
          (u.here, has_right t.state.associations (u.here ∷ []) u.here (inl refl), k)

  -- The whole step.
  pub step_full : (input : ClientInput) → ((a : Association) → Has a s.associations → Fit a) →
      Once (map server_number s.associations) →
      ((a : Association) → Has a s.associations → IsOnce a.store.pages.dirty) →
      AllAsked asked s.operations →
      Tells (λ op ask. asked op ≡ Some ask) (λ v n. Unit {0}) input →
      AllFull (FullOf (cl.client_step s now input).state.associations) []
      (cl.client_step s now input).out
  unfolding cl.client_step cl.work at_each
  step_full input fit apart alone known tells =
      these_full (cl.is_tick input) told.state.associations (with_associations [] told)
      (record {
        known = told_known asked now s.id s input fit apart known tells;
        apart = told_once asked now s.id s input fit apart known tells;
        clean = told_clean asked now s.id s input fit apart known tells;
        from = told_from now s s.id input fit;
        alone = once.told_once s.id s now input fit alone;
        full = none_full (FullOf []) [] told.out (subst (EachOut Unfull) (sym none.out) (early_unfull none.more none.each));
      })
    where
      told : ClientTurn
      told = cl.take_input (cl.losses (client_turn s []) now) now input

      none : Since Early [] told.out
      none = early_before now s input
