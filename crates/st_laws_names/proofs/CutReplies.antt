-- In a step that notes a cut the request is served, and the reply that says so is kept.
use Rattle.st_lemmas.proofs.Words
use Words.{◌≡◌, ℕ, ◌⊎◌, Bool, true, false, List, [], ◌∷◌, ◌++◌, ◌==◌, Some, refl, sym, ap, ◌∙◌, subst, inl, inr, if◌then◌else◌, option_map, ClientId, FileId}
use Words.{PageNo, Stamp, Header, Message, Body, Output, Session, SessionState}
use Words.bodies as bd
use Words.replies
use Words.notes
use Words.outputs
use Words.serving.{Control}
use Words.states
use Words.Sessions as sessions
use Words.Server as sv
use Words.Server.{ServerState, ServerTurn, sender, reply, tell, steal_from, suspect_client, keep_and_reply, server_step}
use Words.Lists.{Has}
use Words.Tables.{find_map, found_at, has_append}
use Rattle.st_laws_requests.proofs.Clients.{keep_client}
use Rattle.st_laws_requests.proofs.Rules as rules
use Rattle.st_laws_cuts.proofs.Acknowledged.{Uncut, uncut_more}
use Rattle.st_trace.specs.Server.Edits as edits
use Rattle.st_trace.specs.Server.Edits.{AtThefts, AtInput, AtSuspicion, AtGrants, AtDemands, Served, Ruled, Edit, TakesTimers, Steals, Welcomes, Begins}
use Rattle.st_trace.specs.Server.Edits.{Replaces, PutsOff, Sees, Reasserts, Serves, Repeats, Refuses, Suspects, Grants, Demands}
use Rattle.st_trace.proofs.Server.Taking.{FreshState}
use Rattle.st_trace.proofs.Server.Walk.{walk_in_two}

-- a reply to a request by which a file was cut
abbrev pub CutsBy : Body → FileId → Body → Type 0
CutsBy (bd.Cut ino g p) f bd.Ack = Unit {0}
CutsBy (bd.Name op) f (bd.Named (replies.Ino n)) = n ≡ f.ino
CutsBy asked f b = ⊥

-- The rule of a request notes a cut, and replies that it was done.
record CutNoted (t u : ServerTurn) (asked b : Body) : Type 0 where
  pub file : FileId
  pub page : PageNo
  pub out : u.out ≡ t.out ++ outputs.Note (notes.CutDone file page) ∷ []
  pub cuts : CutsBy asked file b

ruled : (now : Stamp) (t : ServerTurn) (h : Header) (m : Body) (u : ServerTurn) (b : Body) → Ruled now t h m u b → (u.out ≡ t.out) ⊎ CutNoted t u m b
unfolding sv.cut_pages sv.cut_whole
ruled now t h m u b (edits.Tells _ _ r) = inl refl
ruled now t h m u b (edits.Acquires ino mode a f k g) = inl refl
ruled now t h m u b (edits.Releases ino g to r e f) = inl refl
ruled now t h m u b (edits.Allocates ino g p count x f q e) = inl refl
ruled now t h m u b (edits.Cuts ino g p f q) = inr (record { file = _; page = _; out = refl; cuts = tt })
ruled now t h m u b (edits.Creates dir x d e) = inl refl
ruled now t h m u b (edits.MakesDir dir x d e) = inl refl
ruled now t h m u b (edits.Renames dir x dir2 x2 d e) = inl refl
ruled now t h m u b (edits.RemovesDir dir x g ino d l f z e q) = inl refl
ruled now t h m u b (edits.RemovesFile dir x g ino d l f z e q) = inr (record { file = _; page = _; out = refl; cuts = refl })

-- The session of a client keeps this reply, to the last request.
pub record Keeps (t : ServerTurn) (h : Header) (b : Body) : Type 0 where
  pub session : Session
  pub is : sessions.session_of t.state.sessions (sender h) ≡ Some session
  pub of_life : session.life.0 ≡ h.life
  pub kept : session.state ≡ states.Live h.number (Some b)

-- each cut that was noted is by a request to which this is replied
abbrev pub AllCutBy : Body → ServerTurn → Body → Type 0
AllCutBy asked t b = (f : FileId) (p : PageNo) → Has (outputs.Note (notes.CutDone f p)) t.out → CutsBy asked f b

-- a cut was noted: the request is served, and its reply is kept
pub record CutKept (h : Header) (asked : Body) (t : ServerTurn) : Type 0 where
  pub reply : Body
  pub keeps : Keeps t h reply
  pub cuts : AllCutBy asked t reply

abbrev Fine : Header → Body → ServerTurn → Type 0
Fine h asked t = Uncut t.out ⊎ CutKept h asked t

-- one more output that isn't a cut
note_back : (out : List Output) (o : Output) → ((f : FileId) (p : PageNo) → outputs.Note (notes.CutDone f p) ≡ o → ⊥) → (f : FileId) (p : PageNo) →
    Has (outputs.Note (notes.CutDone f p)) (out ++ o ∷ []) → Has (outputs.Note (notes.CutDone f p)) out
note_back out o n f p i = go (has_append out (o ∷ []) (outputs.Note (notes.CutDone f p)) i)
  where
    go : Has (outputs.Note (notes.CutDone f p)) out ⊎ Has (outputs.Note (notes.CutDone f p)) (o ∷ []) → Has (outputs.Note (notes.CutDone f p)) out
    go (inl j) = j
    go (inr (inl e)) = absurd (n f p e)
    go (inr (inr j)) = absurd j

-- what leaves the sessions, and says something that isn't a cut
fine_more : (h : Header) (asked : Body) (t : ServerTurn) (y : ServerState) (o : Output) → y.sessions ≡ t.state.sessions →
    ((f : FileId) (p : PageNo) → outputs.Note (notes.CutDone f p) ≡ o → ⊥) → Fine h asked t → Fine h asked (record { state = y; out = t.out ++ o ∷ [] })
fine_more h asked t y o e n (inl u) = inl (uncut_more t.out o n u)
fine_more h asked t y o e n (inr k) =
    inr (record {
      reply = k.reply;
      keeps = record {
        session = k.keeps.session;
        is = ap (λ z. sessions.session_of z (sender h)) e ∙ k.keeps.is;
        of_life = k.keeps.of_life;
        kept = k.keeps.kept;
      };
      cuts = λ f p i. k.cuts f p (note_back t.out o n f p i);
    })

-- a session whose reply is kept
stored : (t : sessions.Sessions) (c : ClientId) (number : ℕ) (b : Body) (x : Session) → sessions.session_of t c ≡ Some x → FreshState number x.state →
    (y : Session) × (sessions.session_of (sessions.store t c number b) c ≡ Some y) × (y.life.0 ≡ x.life.0) × (y.state ≡ states.Live number (Some b))
unfolding sessions.store sessions.keep_reply
stored t c number b x e f =
    go (sessions.is_session_of c x) (found_at (sessions.is_session_of c) t.rows x e).0 (find_map (sessions.is_session_of c)
    (sessions.keep_of c number b) (λ x. ap (λ (z : ClientId). z.0 == c.0) (keep_client c number b x)) t.rows
    ∙ ap (option_map (sessions.keep_of c number b)) e)
  where
    is : (y : SessionState) → FreshState number y → sessions.kept_state number b y ≡ states.Live number (Some b)
    is (states.Live last r) f = refl
    is states.Ended f = cc (f.is)

    go : (z : Bool) → z ≡ true → sessions.session_of (sessions.store t c number b) c ≡ Some (if z then sessions.keep_reply number b x else x) →
        (y : Session) × (sessions.session_of (sessions.store t c number b) c ≡ Some y) × (y.life.0 ≡ x.life.0) × (y.state ≡ states.Live number (Some b))
    go true q r = (sessions.keep_reply number b x, r, refl, is x.state f)
    go false q r = cc q

module _ (x : ServerState) (now : Stamp) (m : Message) where
  steals : (t u : ServerTurn) → Edit x now (Control m) AtThefts t u → Uncut t.out → Uncut u.out
  unfolding steal_from
  steals t u (TakesTimers _ e) n = n
  steals t u (Steals _ c y h e) n = uncut_more t.out _ (λ f p e. cc e) n

  -- the request that is served is the one that came
  serves : (t u : ServerTurn) (k : Message) (b : Body) → Served x now (Control m) t k → Ruled now t k.header k.body u b → Uncut t.out →
      Fine k.header k.body (keep_and_reply u k.header b)
  unfolding keep_and_reply reply
  serves t u k b s r n = go (ruled now t k.header k.body u b r)
    where
      kept_sessions : u.state.sessions ≡ t.state.sessions
      kept_sessions = (rules.ruled (λ t. Unit {0}) (λ t x a b c o. tt) (λ t x o. tt) now t k.header k.body u b r tt).1

      y : (y : Session) × (sessions.session_of (sessions.store u.state.sessions (sender k.header) k.header.number b) (sender k.header) ≡ Some y)
          × (y.life.0 ≡ s.in_life.session.life.0) × (y.state ≡ states.Live k.header.number (Some b))
      y =
          stored u.state.sessions (sender k.header) k.header.number b s.in_life.session (ap
          (λ z. sessions.session_of z (sender k.header)) kept_sessions ∙ s.in_life.is)
          (record { last = s.in_life.last; reply = s.in_life.old; is = s.in_life.state; next = s.next })

      same : (f g : FileId) (p q : PageNo) → ◌≡◌ {A = Output} (outputs.Note (notes.CutDone f p)) (outputs.Note (notes.CutDone g q)) → f ≡ g
      same f g p q e = cc e

      cut_by : (z : CutNoted t u k.body b) (f : FileId) (p : PageNo) →
          Has (outputs.Note (notes.CutDone f p)) (t.out ++ outputs.Note (notes.CutDone z.file z.page) ∷ []) →
          CutsBy k.body f b
      cut_by z f p i = at (has_append t.out (outputs.Note (notes.CutDone z.file z.page) ∷ []) _ i)
        where
          at : Has (outputs.Note (notes.CutDone f p)) t.out ⊎ Has (outputs.Note (notes.CutDone f p))
              (outputs.Note (notes.CutDone z.file z.page) ∷ []) → CutsBy k.body f b
          at (inl j) = absurd (n f p j)
          at (inr (inl e)) = subst (λ g. CutsBy k.body g b) (sym (same f z.file p z.page e)) z.cuts
          at (inr (inr j)) = absurd j

      go : (u.out ≡ t.out) ⊎ CutNoted t u k.body b → Fine k.header k.body (keep_and_reply u k.header b)
      go (inl e) = inl (uncut_more u.out _ (λ f p e. cc e) (subst Uncut (sym e) n))
      go (inr z) =
          inr (record {
            reply = b;
            keeps = record { session = y.0; is = y.1; of_life = y.2 ∙ s.in_life.of_life; kept = y.3 };
            cuts = λ f p i. cut_by z f p (subst (Has (outputs.Note (notes.CutDone f p))) z.out (note_back u.out _ (λ f p e. cc e) f p i));
          })

  came : (k : Message) → Control m ≡ Control k → k ≡ m
  came k e = cc

  takes : (t u : ServerTurn) → Edit x now (Control m) AtInput t u → Uncut t.out → Fine m.header m.body u
  unfolding reply suspect_client
  takes t u (Welcomes _ k y g e a f) n = inl (uncut_more t.out _ (λ f p e. cc e) n)
  takes t u (Begins _ k g f) n = inl (uncut_more t.out _ (λ f p e. cc e) n)
  takes t u (Replaces _ k y g e a f r) n = inl (uncut_more t.out _ (λ f p e. cc e) n)
  takes t u (PutsOff _ k y g e a f r) n = inl (uncut_more _ _ (λ f p e. cc e) (uncut_more t.out _ (λ f p e. cc e) n))
  takes t u (Sees _ k ino g h b e) n = inl n
  takes t u (Reasserts _ k rows r on f) n = inl (uncut_more t.out _ (λ f p e. cc e) n)
  takes t u (Serves _ k v b s e r) n = subst (λ (z : Message). Fine z.header z.body (keep_and_reply v k.header b)) (came k s.asked.heard.came.is)
      (serves t v k b s r n)
  takes t u (Repeats _ k y b a e f g z) n = inl (uncut_more t.out _ (λ f p e. cc e) n)
  takes t u (Refuses _ k b r) n = inl (uncut_more t.out _ (λ f p e. cc e) n)

  suspects : (t u : ServerTurn) → Edit x now (Control m) AtSuspicion t u → Fine m.header m.body t → Fine m.header m.body u
  unfolding suspect_client
  suspects t u (Suspects _ c r is q f h e o) k = fine_more m.header m.body t _ _ refl (λ f p e. cc e) k

  grants : (t u : ServerTurn) → Edit x now (Control m) AtGrants t u → Fine m.header m.body t → Fine m.header m.body u
  unfolding tell
  grants t u (Grants _ w off h e f) k = fine_more m.header m.body t _ _ refl (λ f p e. cc e) k

  demands : (t u : ServerTurn) → Edit x now (Control m) AtDemands t u → Fine m.header m.body t → Fine m.header m.body u
  unfolding tell
  demands t u (Demands _ w r y e h f o d) k = fine_more m.header m.body t _ _ refl (λ f p e. cc e) k

  stepped : Fine m.header m.body (server_step x now (Control m))
  stepped = walk_in_two x now (Control m) (λ t. Uncut t.out) (Fine m.header m.body) steals (λ t n. inl n) takes suspects grants demands (λ f p h. absurd h)

-- In a step that notes a cut the request is served, and the reply that says so is kept.
pub cut_kept : (x : ServerState) (now : Stamp) (m : Message) (f : FileId) (p : PageNo) →
    Has (outputs.Note (notes.CutDone f p)) (server_step x now (Control m)).out → CutKept m.header m.body (server_step x now (Control m))
cut_kept x now m f p i = go (stepped x now m)
  where
    go : Fine m.header m.body (server_step x now (Control m)) → CutKept m.header m.body (server_step x now (Control m))
    go (inl n) = absurd (n f p i)
    go (inr k) = k
