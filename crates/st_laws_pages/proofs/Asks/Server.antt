-- A server's pages lie on its own disks, and it tells nothing else, also when it repeats a reply.
use Rattle.st_lemmas.proofs.Words
use Words.{◌≡◌, ℕ, ◌+◌, ◌%◌, Bool, true, false, List, [], ◌∷◌, ◌++◌, refl, sym, ap, ◌∙◌, subst, inl, inr, arith, if◌then◌else◌, ◌⊎◌, Option, Some, None, Ok}
use Words.{filter, option_map, pred, suc, eqb-true, BlockAt, ClientId, ServerId, FileId, Life, PageNo, Stamp, Mode, ExtentRow, Header}
use Words.{Message, Body, Note, Output, ServerInput, AcceptRefusal, Extent, Verdict, Session, SessionState}
use Words.notes
use Words.outputs
use Words.verdicts
use Words.states
use Words.Extents as extents
use Words.Extents.{Extents}
use Words.Sessions as sessions
use Words.Keys.{server_node}
use Words.Server as sv
use Words.Server.{ServerState, ServerTurn, turn, with_sessions, with_names, sender, life_in, note, reply, tell, steal_from, suspect_client, keep_and_reply}
use Words.Server.{server_step}
use Words.Lists.{Has}
use Words.Lookups.{some_is}
use Words.Tables.{found_at, has_append, has_filter, has_map}
use Words.Members.{filter_map_of}
use Rattle.std.specs.Prelude.{flat_map}
use Rattle.st_rules.specs.declared.authority.AcceptRefusal.TheVariants as refusals
use Rattle.st_lemmas.proofs.Puts.{has_put}
use Rattle.st_laws_pages.proofs.Asks.Places.{On, OwnBody, OwnRows}
use Rattle.st_trace.specs.Server.Edits.{Phase, Told, IsAlive, IsHeld, HasTooMany, HasNoRow, IsMapped, IsNoFile, HoldsNot, HasNoSpace, IsNamed, AreListed}
use Rattle.st_trace.specs.Server.Edits.{IsRefused, RemovesNot, Ruled, Tells, Acquires, Releases, Allocates, Cuts, Creates, MakesDir, Renames, RemovesDir}
use Rattle.st_trace.specs.Server.Edits.{RemovesFile, Refused, IsSuspect, GreetsInGrace, OfOtherEpoch, HasNoSession, IsRefusedRows, Edit, TakesTimers, Steals}
use Rattle.st_trace.specs.Server.Edits.{Welcomes, Begins, Replaces, PutsOff, Sees, Reasserts, Serves, Repeats, Refuses, Suspects, Grants, Demands}
use Rattle.st_trace.proofs.Server.Allocating.{allocated_pages_are_placed}
use Rattle.st_trace.proofs.Server.Walk.{walk}

-- the reply that a state keeps
abbrev pub reply_in : SessionState → Option Body
reply_in (states.Live last r) = r
reply_in states.Ended = None

-- the reply that a session keeps tells of the server's own disks
abbrev pub Kept : ℕ → ServerId → Session → Type 0
Kept n s x = (b : Body) → reply_in x.state ≡ Some b → OwnBody n s b

-- the extents of a server lie on its own disks
pub record ExtentsOwn (n : ℕ) (s : ServerId) (x : Extents) : Type 0 where
  pub server : x.server ≡ s
  pub servers : x.servers ≡ n
  pub rows : (e : Extent) → Has e x.rows → On n s e.at

-- what is sent comes from this server, and tells of its own disks
abbrev pub SentOwn : ℕ → ServerId → Output → Type 0
SentOwn n s (outputs.Send m) = (m.header.from ≡ server_node s) × OwnBody n s m.body
SentOwn n s o = Unit {0}

-- What holds of a server's turn.
pub record Own (n : ℕ) (s : ServerId) (t : ServerTurn) : Type 0 where
  pub id : t.state.id ≡ s
  pub extents : ExtentsOwn n s t.state.stable.extents
  pub kept : (x : Session) → Has x t.state.sessions.rows → Kept n s x
  pub sent : (o : Output) → Has o t.out → SentOwn n s o

-- Blocks.
free_own : (n : ℕ) (s : ServerId) (x : Extents) → x.server ≡ s → x.servers ≡ n → (b : BlockAt) → Has b (extents.free_blocks x) → On n s b
unfolding extents.free_blocks extents.own_blocks
free_own n s x e m b h = go (extents.numbers 0 x.disks) (has_filter (extents.is_free x) _ b h).0
  where
    on : (a : ℕ) → extents.is_own_disk x a ≡ true → (z : ℕ) × Has z (extents.numbers 0 x.blocks) × (b ≡ extents.block_at a z) → On n s b
    on a i z =
        ap (λ (y : BlockAt). pred y.disk.0 % n + 1) z.2
        ∙ ap (λ y. pred y % n + 1) (let w : a + 1 ≡ suc a = omega arith in w)
        ∙ ap (λ y. a % y + 1) (sym m) ∙ eqb-true (a % x.servers + 1) x.server.0 i ∙ ap (λ (y : ServerId). y.0) e

    go : (ds : List ℕ) → Has b (flat_map (extents.blocks_of x) (filter (extents.is_own_disk x) ds)) → On n s b
    go [] h = absurd h
    go (d ∷ ds) h = at (extents.is_own_disk x d) refl h (λ h. go ds h)
      where
        both : extents.is_own_disk x d ≡ true →
            Has b (extents.blocks_of x d) ⊎ Has b (flat_map (extents.blocks_of x) (filter (extents.is_own_disk x) ds)) →
            (Has b (flat_map (extents.blocks_of x) (filter (extents.is_own_disk x) ds)) → On n s b) → On n s b
        both i (inl q) r = on d i (has_map (extents.block_at d) (extents.numbers 0 x.blocks) b q)
        both i (inr q) r = r q

        at : (z : Bool) → extents.is_own_disk x d ≡ z →
            Has b (flat_map (extents.blocks_of x) (if z then d ∷ filter (extents.is_own_disk x) ds else filter (extents.is_own_disk x) ds)) →
            (Has b (flat_map (extents.blocks_of x) (filter (extents.is_own_disk x) ds)) → On n s b) → On n s b
        at true i h r = both i (has_append (extents.blocks_of x d) _ b h) r
        at false i h r = r h

place_own : (n : ℕ) (s : ServerId) (f : FileId) (ps : List PageNo) (x : Extents) → ExtentsOwn n s x → ExtentsOwn n s (extents.place_pages f ps x)
unfolding extents.place_pages extents.place_on
place_own n s f [] x o = o
place_own n s f (p ∷ ps) x o = place_own n s f ps _ (go (extents.free_blocks x) (free_own n s x o.server o.servers))
  where
    go : (bs : List BlockAt) → ((b : BlockAt) → Has b bs → On n s b) → ExtentsOwn n s (extents.place_on x f p bs)
    go [] g = o
    go (b ∷ bs) g = record { server = o.server; servers = o.servers; rows = λ e h. at e (has_append x.rows (extents.new_extent x f p b ∷ []) e h) }
      where
        at : (e : Extent) → Has e x.rows ⊎ Has e (extents.new_extent x f p b ∷ []) → On n s e.at
        at e (inl h) = o.rows e h
        at e (inr (inl h)) = subst (λ (z : Extent). On n s z.at) (sym h) (g b (inl refl))
        at e (inr (inr h)) = absurd h

release_own : (n : ℕ) (s : ServerId) (x : Extents) (f : FileId) (p : PageNo) → ExtentsOwn n s x → ExtentsOwn n s (extents.release_from x f p)
unfolding extents.release_from
release_own n s x f p o = record { server = o.server; servers = o.servers; rows = λ e h. o.rows e (has_filter _ x.rows e h).0 }

told_own : (n : ℕ) (s : ServerId) (x : Extents) (f : FileId) (p : PageNo) (count : ℕ) → ExtentsOwn n s x → OwnRows n s (extents.extent_rows x f p count)
unfolding extents.extent_rows
told_own n s x f p count o r h = go (filter_map_of (extents.extent_row_at x f) (extents.pages_from p count) r h)
  where
    at : (q : PageNo) (e : Option Extent) → extents.extent_of x f q ≡ e → option_map extents.extent_row e ≡ Some r → On n s r.at
    at q None i z = cc
    at q (Some e) i z = subst (λ (y : ExtentRow). On n s y.at) (some_is z) (o.rows e (found_at (extents.is_extent_of f q) x.rows e i).1)

    go : (q : PageNo) × (extents.extent_row_at x f q ≡ Some r) → On n s r.at
    go (q, z) = at q (extents.extent_of x f q) refl z

module _ (n : ℕ) (s : ServerId) where
  abbrev Keeps : sessions.Sessions → Type 0
  Keeps t = (x : Session) → Has x t.rows → Kept n s x

  -- Sessions.
  kept_new : (t : sessions.Sessions) (x : Session) → Kept n s x → Keeps t → Keeps (sessions.with_session x t)
  kept_new t x k o y h = go (has_put (sessions.is_session_of x.client) x t.rows y h)
    where
      go : (y ≡ x) ⊎ Has y t.rows → Kept n s y
      go (inl e) = subst (Kept n s) (sym e) k
      go (inr i) = o y i

  kept_fresh : (c : ClientId) (life : Life) → Kept n s (sessions.new_session c life)
  kept_fresh c life b e = cc

  kept_stored : (t : sessions.Sessions) (c : ClientId) (number : ℕ) (b : Body) → OwnBody n s b → Keeps t → Keeps (sessions.store t c number b)
  unfolding sessions.store sessions.keep_reply
  kept_stored t c number b w o y h = go (has_map (sessions.keep_of c number b) t.rows y h)
    where
      kept : (x : Session) (z : SessionState) → x.state ≡ z → Has x t.rows → (d : Body) → reply_in (sessions.kept_state number b z) ≡ Some d → OwnBody n s d
      kept x (states.Live last r) e i d q = subst (OwnBody n s) (some_is q) w
      kept x states.Ended e i d q = cc

      own : (x : Session) → Has x t.rows → (z : Bool) → Kept n s (if z then sessions.keep_reply number b x else x)
      own x i true = λ d q. kept x x.state refl i d q
      own x i false = o x i

      go : (x : Session) × Has x t.rows × (y ≡ sessions.keep_of c number b x) → Kept n s y
      go (x, i, e) = subst (Kept n s) (sym e) (own x i (sessions.is_session_of c x))

  kept_ended : (t : sessions.Sessions) (c : ClientId) → Keeps t → Keeps (sessions.end t c)
  unfolding sessions.end sessions.ended
  kept_ended t c o y h = go (has_map (sessions.end_of c) t.rows y h)
    where
      own : (x : Session) → Has x t.rows → (z : Bool) → Kept n s (if z then sessions.ended x else x)
      own x i true = λ d q. cc q
      own x i false = o x i

      go : (x : Session) × Has x t.rows × (y ≡ sessions.end_of c x) → Kept n s y
      go (x, i, e) = subst (Kept n s) (sym e) (own x i (sessions.is_session_of c x))

  kept_reasserted : (t : sessions.Sessions) (c : ClientId) (life : Life) → Keeps t → Keeps (sessions.reasserted t c life)
  unfolding sessions.reasserted
  kept_reasserted t c life o = kept_new t (sessions.reasserted_session c life) (λ b e. subst (OwnBody n s) (some_is e) tt) o

  -- Turns.
  abbrev O : ServerTurn → Type 0
  O t = Own n s t

  own_after_state : (t : ServerTurn) (x : ServerState) → x.id ≡ t.state.id → x.stable.extents ≡ t.state.stable.extents → x.sessions ≡ t.state.sessions → O t →
      O (record t { state = x })
  own_after_state t x i e y o =
      record { id = i ∙ o.id; extents = subst (ExtentsOwn n s) (sym e) o.extents; kept = subst Keeps (sym y) o.kept; sent = o.sent }

  own_after_sessions : (t : ServerTurn) (x : sessions.Sessions) → Keeps x → O t → O (with_sessions x t)
  own_after_sessions t x k o = record { id = o.id; extents = o.extents; kept = k; sent = o.sent }

  own_after_extents : (t : ServerTurn) (x : Extents) → ExtentsOwn n s x → O t → O (sv.with_extents x t)
  own_after_extents t x k o = record { id = o.id; extents = k; kept = o.kept; sent = o.sent }

  sent_more : (os : List Output) (o : Output) → SentOwn n s o → ((x : Output) → Has x os → SentOwn n s x) → (x : Output) → Has x (os ++ o ∷ []) → SentOwn n s x
  sent_more os o k f x h = go (has_append os (o ∷ []) x h)
    where
      go : Has x os ⊎ Has x (o ∷ []) → SentOwn n s x
      go (inl i) = f x i
      go (inr (inl e)) = subst (SentOwn n s) (sym e) k
      go (inr (inr i)) = absurd i

  own_after_note : (t : ServerTurn) (x : Note) → O t → O (note t x)
  own_after_note t x o = record { id = o.id; extents = o.extents; kept = o.kept; sent = sent_more t.out (outputs.Note x) tt o.sent }

  own_after_reply : (t : ServerTurn) (h : Header) (b : Body) → OwnBody n s b → O t → O (reply t h b)
  unfolding reply
  own_after_reply t h b w o = record { id = o.id; extents = o.extents; kept = o.kept; sent = sent_more t.out _ (ap server_node o.id, w) o.sent }

  own_after_tell : (t : ServerTurn) (c : ClientId) (life : Life) (b : Body) → OwnBody n s b → O t → O (tell t c life b)
  unfolding tell
  own_after_tell t c life b w o = record { id = o.id; extents = o.extents; kept = o.kept; sent = sent_more t.out _ (ap server_node o.id, w) o.sent }

  refused_own : (r : AcceptRefusal) → OwnBody n s (sv.refused_reassertion r)
  refused_own (refusals.GraceOver a b) = tt
  refused_own (refusals.Conflict a b) = tt
  refused_own (refusals.NotHolder a b) = tt

  verdict_own : (ino : ℕ) (mode : Mode) (v : Verdict) → OwnBody n s (sv.verdict_body ino mode v)
  verdict_own ino mode (verdicts.Granted g held) = tt
  verdict_own ino mode (verdicts.Queued cs) = tt

  told_reply : (t : ServerTurn) (h : Header) (m b : Body) → Told t h m b → O t → OwnBody n s b
  told_reply t h m b IsAlive o = tt
  told_reply t h m b (IsHeld ino mode r f e q) o = tt
  told_reply t h m b (HasTooMany ino mode f e q) o = tt
  told_reply t h m b (HasNoRow ino g to e) o = tt
  told_reply t h m b (IsMapped ino g p f e) o = told_own n s t.state.stable.extents (sv.file t ino) p 1 o.extents
  told_reply t h m b (IsNoFile _ ino e f) o = tt
  told_reply t h m b (HoldsNot _ ino g mode e f q) o = tt
  told_reply t h m b (HasNoSpace ino g p k a c f q e) o = tt
  told_reply t h m b (IsNamed dir x ino e) o = tt
  told_reply t h m b (AreListed dir x rows e) o = tt
  told_reply t h m b (IsRefused op r e) o = tt
  told_reply t h m b (RemovesNot dir x g ino e f q) o = tt

  own_after_cut : (t : ServerTurn) (ino : ℕ) (page : PageNo) → O t → O (sv.cut_pages t ino page)
  unfolding sv.cut_pages
  own_after_cut t ino page o = own_after_note _ _ (own_after_extents t _ (release_own n s t.state.stable.extents (sv.file t ino) page o.extents) o)

  allocated : (t : ServerTurn) (ino : ℕ) (page : PageNo) (count : ℕ) (x : Extents) →
      extents.allocate t.state.stable.extents (sv.file t ino) page count ≡ Ok x → O t → O (sv.with_extents x t)
  allocated t ino page count x e o =
      own_after_extents t x (subst (ExtentsOwn n s) (allocated_pages_are_placed t.state.stable.extents (sv.file t ino) page count x e)
      (place_own n s (sv.file t ino) (extents.unmapped t.state.stable.extents (sv.file t ino) page count) t.state.stable.extents o.extents)) o

  -- the rule of a request: what it leaves, and its reply
  ruled : (now : Stamp) (t : ServerTurn) (h : Header) (m : Body) (u : ServerTurn) (b : Body) → Ruled now t h m u b → O t → O u × OwnBody n s b
  unfolding sv.cut_whole
  ruled now t h m u b (Tells _ _ r) o = (o, told_reply t h m b r o)
  ruled now t h m u b (Acquires ino mode a f k g) o = (own_after_state t _ refl refl refl o, verdict_own ino mode a.verdict)
  ruled now t h m u b (Releases ino g to r e f) o = (own_after_state t _ refl refl refl o, tt)
  ruled now t h m u b (Allocates ino g p count x f q e) o =
      let z = allocated t ino p count x e o in (z, told_own n s x (sv.file t ino) p count z.extents)
  ruled now t h m u b (Cuts ino g p f q) o = (own_after_cut t ino p o, tt)
  ruled now t h m u b (Creates dir x d e) o = (own_after_state t _ refl refl refl o, tt)
  ruled now t h m u b (MakesDir dir x d e) o = (own_after_state t _ refl refl refl o, tt)
  ruled now t h m u b (Renames dir x dir2 x2 d e) o = (own_after_state t _ refl refl refl o, tt)
  ruled now t h m u b (RemovesDir dir x g ino d l f z e q) o = (own_after_state t _ refl refl refl o, tt)
  ruled now t h m u b (RemovesFile dir x g ino d l f z e q) o =
      (own_after_cut _ d.ino _ (own_after_state (with_names d.names t) _ refl refl refl (own_after_state t _ refl refl refl o)), tt)

  module _ (x : ServerState) (now : Stamp) (i : ServerInput) where
    refused_reply : (t : ServerTurn) (m : Message) (b : Body) → Refused x now i t m b → OwnBody n s b
    refused_reply t m b (IsSuspect start c r e) = tt
    refused_reply t m b (GreetsInGrace h e g) = tt
    refused_reply t m b (OfOtherEpoch h e) = tt
    refused_reply t m b (HasNoSession a e) = tt
    refused_reply t m b (IsRefusedRows rows r a e) = refused_own r

    begins : (t : ServerTurn) (c : ClientId) (life : Life) → O t → O (with_sessions (sessions.with_new_session c life t.state.sessions) t)
    begins t c life o = own_after_sessions t _ (kept_new t.state.sessions (sessions.new_session c life) (kept_fresh c life) o.kept) o

    own_edit : (a : Phase) (t u : ServerTurn) → Edit x now i a t u → O t → O u
    unfolding steal_from suspect_client keep_and_reply
    own_edit a t u (TakesTimers _ e) o = own_after_state t _ refl refl refl o
    own_edit a t u (Steals _ c y h e) o =
        own_after_sessions _ _ (kept_ended t.state.sessions c o.kept) (own_after_state (note t (notes.Stolen c y.life)) _ refl refl refl (own_after_note t _ o))
    own_edit a t u (Welcomes _ m y g e k f) o = own_after_reply t m.header _ tt o
    own_edit a t u (Begins _ m g f) o = own_after_reply _ m.header _ tt (begins t (sender m.header) (life_in m.header) o)
    own_edit a t u (Replaces _ m y g e k f r) o =
        own_after_reply _ m.header _ tt
        (own_after_state (with_sessions (sessions.with_new_session (sender m.header) (life_in m.header) t.state.sessions) t) _ refl refl refl
        (begins t (sender m.header) (life_in m.header) o))
    own_edit a t u (PutsOff _ m y g e k f r) o =
        own_after_reply _ m.header _ tt (own_after_state (note t (notes.Suspected (sender m.header) now)) _ refl refl refl (own_after_note t _ o))
    own_edit a t u (Sees _ m ino g h k e) o = own_after_state t _ refl refl refl o
    own_edit a t u (Reasserts _ m rows r on f) o =
        own_after_reply _ m.header _ tt
        (own_after_sessions _ _ (kept_reasserted t.state.sessions (sender m.header) (life_in m.header) o.kept) (own_after_state t _ refl refl refl o))
    own_edit a t u (Serves _ m v b y e r) o =
        let z = ruled now t m.header m.body v b r o in
        own_after_reply _ m.header b z.1 (own_after_sessions v _ (kept_stored v.state.sessions (sender m.header) m.header.number b z.1 z.0.kept) z.0)
    own_edit a t u (Repeats _ m y b k e f g q) o =
        own_after_reply t m.header b (o.kept y (found_at (sessions.is_session_of (sender m.header)) t.state.sessions.rows y f).1 b (ap reply_in q)) o
    own_edit a t u (Refuses _ m b r) o = own_after_reply t m.header b (refused_reply t m b r) o
    own_edit a t u (Suspects _ c r is q f h e k) o = own_after_state (note t (notes.Suspected c now)) _ refl refl refl (own_after_note t _ o)
    own_edit a t u (Grants _ w off h e f) o = own_after_tell _ w.client w.life _ tt (own_after_state t _ refl refl refl o)
    own_edit a t u (Demands _ w r y e k f q d) o = own_after_tell _ r.client r.life _ tt (own_after_state t _ refl refl refl o)

-- The whole step.
pub served : (n : ℕ) (s : ServerId) (x : ServerState) (now : Stamp) (i : ServerInput) → Own n s (turn x []) → Own n s (server_step x now i)
served n s x now i o = walk x now i (Own n s) (own_edit n s x now i) o
