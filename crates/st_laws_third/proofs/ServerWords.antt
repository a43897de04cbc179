-- What a server says: replies, grants, and demands, which have stamp 0; and no requests. The replies that it keeps are replies.
use Rattle.st_lemmas.proofs.Words
use Words.{◌≡◌, ◌⊎◌, ℕ, Bool, true, false, List, [], ◌∷◌, Some, None, refl, sym, subst, inl, inr, if◌then◌else◌}
use Words.{AcceptRefusal, Body, ClientId, Header, Life, Message, Output, ServerInput, Session, SessionState, Stamp}
use Words.bodies
use Words.outputs
use Words.Keys.{put}
use Words.Lists.{Has}
use Words.Server as sv
use Words.Server.{ServerState, ServerTurn}
use Words.Sessions as sessions
use Words.Sessions.{Sessions}
use Words.Tables.{found_at, has_append, has_map}
use Rattle.st_rules.specs.declared.authority.AcceptRefusal.TheVariants as refusals
use Rattle.st_rules.specs.declared.input.ServerInput.TheVariants as inputs
use Rattle.st_rules.specs.declared.locks.Verdict.{Verdict}
use Rattle.st_rules.specs.declared.locks.Verdict.TheVariants as verdicts
use Rattle.st_rules.specs.declared.sessions.SessionState.TheVariants as states
use Rattle.st_third.specs.Limits.{is_client_node}
use Rattle.st_third.specs.Server as every
use Rattle.st_trace.specs.Server.Edits.{EditOf, Phase, RefusedOf, Ruled, Told}
use Rattle.st_trace.specs.Server.Edits as edits
use Rattle.st_trace.specs.Server.Steps.{step_of}
use Rattle.st_trace.proofs.Server.Walk.{walk_of}

-- Words.

-- a body that no server starts but in answer, or as a grant
abbrev pub IsReply : Body → Type 0
IsReply (bodies.Demand ino g to) = ⊥
IsReply (bodies.Allocate ino g p count) = ⊥
IsReply (bodies.Reassert rows) = ⊥
IsReply b = Unit {0}

-- a demand has stamp 0
abbrev pub Stamped : ℕ → Body → Type 0
Stamped stamp (bodies.Demand ino g to) = stamp ≡ 0
Stamped stamp b = Unit {0}

-- neither blocks are requested nor locks reasserted
abbrev pub NoRun : Body → Type 0
NoRun (bodies.Allocate ino g p count) = ⊥
NoRun (bodies.Reassert rows) = ⊥
NoRun b = Unit {0}

reply_stamped : (n : ℕ) (b : Body) → IsReply b → (Stamped n b) × (NoRun b)
reply_stamped n (bodies.Demand ino g to) r = absurd r
reply_stamped n (bodies.Allocate ino g p count) r = absurd r
reply_stamped n (bodies.Reassert rows) r = absurd r
reply_stamped n b r = (tt, tt)

abbrev pub WordFine : Output → Type 0
WordFine (outputs.Send m) = (Stamped m.header.stamp m.body) × (NoRun m.body)
WordFine o = Unit {0}

-- Kept replies.

abbrev pub StateFine : SessionState → Type 0
StateFine (states.Live last (Some b)) = IsReply b
StateFine (states.Live last None) = Unit {0}
StateFine states.Ended = Unit {0}

abbrev pub KeptFine : Sessions → Type 0
KeptFine t = (s : Session) → Has s t.rows → StateFine s.state

has_put : {A : Type 0} (p : A → Bool) (x : A) (xs : List A) (y : A) → Has y (put p x xs) → Has y (x ∷ xs)
unfolding put
has_put p x [] y h = h
has_put {A} p x (z ∷ zs) y h = go (p z) h (has_put p x zs y)
  where
    go : (b : Bool) → Has y (if b then x ∷ zs else z ∷ put p x zs) → (Has y (put p x zs) → Has y (x ∷ zs)) → Has y (x ∷ z ∷ zs)
    go true (inl e) r = inl e
    go true (inr i) r = inr (inr i)
    go false (inl e) r = inr (inl e)
    go false (inr i) r = at (r i)
      where
        at : Has y (x ∷ zs) → Has y (x ∷ z ∷ zs)
        at (inl e) = inl e
        at (inr j) = inr (inr j)

with_session_fine : (s : Session) (t : Sessions) → StateFine s.state → KeptFine t → KeptFine (sessions.with_session s t)
with_session_fine s t f k y h = go (has_put (sessions.is_session_of s.client) s t.rows y h)
  where
    go : Has y (s ∷ t.rows) → StateFine y.state
    go (inl e) = subst (λ (z : Session). StateFine z.state) (sym e) f
    go (inr i) = k y i

store_fine : (t : Sessions) (c : ClientId) (number : ℕ) (b : Body) → IsReply b → KeptFine t → KeptFine (sessions.store t c number b)
unfolding sessions.store sessions.keep_reply
store_fine t c number b r k y h = let z = has_map (sessions.keep_of c number b) t.rows y h in
    subst (λ (x : Session). StateFine x.state) (sym z.2) (one z.0 (sessions.is_session_of c z.0) (k z.0 z.1))
  where
    state : (x : SessionState) → StateFine x → StateFine (sessions.kept_state number b x)
    state (states.Live last old) f = r
    state states.Ended f = tt

    one : (x : Session) (q : Bool) → StateFine x.state → StateFine (if q then sessions.keep_reply number b x else x).state
    one x true f = state x.state f
    one x false f = f

end_fine : (t : Sessions) (c : ClientId) → KeptFine t → KeptFine (sessions.end t c)
unfolding sessions.end sessions.ended
end_fine t c k y h = let z = has_map (sessions.end_of c) t.rows y h in
    subst (λ (x : Session). StateFine x.state) (sym z.2) (one z.0 (sessions.is_session_of c z.0) (k z.0 z.1))
  where
    one : (x : Session) (q : Bool) → StateFine x.state → StateFine (if q then sessions.ended x else x).state
    one x true f = tt
    one x false f = f

-- A step so far.
pub record Fine (t : ServerTurn) : Type 0 where
  pub kept : KeptFine t.state.sessions
  pub said : (o : Output) → Has o t.out → WordFine o

says_fine : (t : ServerTurn) (o : Output) → WordFine o → Fine t → Fine (sv.say t o)
says_fine t o w f =
    record {
      kept = f.kept;
      said = λ x h. go x (has_append t.out (o ∷ []) x h);
    }
  where
    go : (x : Output) → (Has x t.out) ⊎ (Has x (o ∷ [])) → WordFine x
    go x (inl i) = f.said x i
    go x (inr (inl e)) = subst WordFine (sym e) w
    go x (inr (inr i)) = absurd i

reply_fine : (t : ServerTurn) (h : Header) (b : Body) → IsReply b → Fine t → Fine (sv.reply t h b)
unfolding sv.reply
reply_fine t h b r f = says_fine t _ (reply_stamped h.stamp b r) f

tell_fine : (t : ServerTurn) (c : ClientId) (life : Life) (b : Body) → NoRun b → Fine t → Fine (sv.tell t c life b)
unfolding sv.tell
tell_fine t c life b r f = says_fine t _ (stamped b, r) f
  where
    stamped : (b : Body) → Stamped 0 b
    stamped (bodies.Demand ino g to) = refl
    stamped b = tt

sessions_fine : (v : Sessions) (t : ServerTurn) → KeptFine v → Fine t → Fine (sv.with_sessions v t)
sessions_fine v t k f = record { kept = k; said = f.said }

-- another part changes
moved_fine : (t u : ServerTurn) → u.state.sessions ≡ t.state.sessions → u.out ≡ t.out → Fine t → Fine u
moved_fine t u p q f = record { kept = subst KeptFine (sym p) f.kept; said = λ o h. f.said o (subst (Has o) q h) }

-- What each change says.

cuts_fine : (u : ServerTurn) (ino : ℕ) (p : Words.PageNo) → Fine u → Fine (sv.cut_pages u ino p)
unfolding sv.cut_pages
cuts_fine u ino p g = says_fine _ (outputs.Note _) tt (moved_fine u _ refl refl g)

suspect_fine : (t : ServerTurn) (now : Stamp) (c : ClientId) → Fine t → Fine (sv.suspect_client t now c)
unfolding sv.suspect_client
suspect_fine t now c f = let g = says_fine t (outputs.Note _) tt f in record { kept = f.kept; said = g.said }

-- an answer that changes nothing is a reply
told_reply : (t : ServerTurn) (h : Header) (b r : Body) → Told t h b r → IsReply r
told_reply t h _ _ edits.IsAlive = tt
told_reply t h _ _ (edits.IsHeld ino mode r f q c) = tt
told_reply t h _ _ (edits.HasTooMany ino mode f q p) = tt
told_reply t h _ _ (edits.HasNoRow ino g to n) = tt
told_reply t h _ _ (edits.IsMapped ino g p f q) = tt
told_reply t h _ _ (edits.IsNoFile b ino e f) = tt
told_reply t h _ _ (edits.HoldsNot b ino g mode e f q) = tt
told_reply t h _ _ (edits.HasNoSpace ino g p count free wanted f q e) = tt
told_reply t h _ _ (edits.IsNamed dir x ino e) = tt
told_reply t h _ _ (edits.AreListed dir after rows e) = tt
told_reply t h _ _ (edits.IsRefused op r e) = tt
told_reply t h _ _ (edits.RemovesNot dir x g ino l f q) = tt

-- so is that of a rule that changes something
ruled_fine : (now : Stamp) (t : ServerTurn) (h : Header) (b : Body) (u : ServerTurn) (r : Body) → Ruled now t h b u r → Fine t → (Fine u) × (IsReply r)
unfolding sv.cut_whole
ruled_fine now t h _ _ _ (edits.Tells b r x) f = (f, told_reply t h b r x)
ruled_fine now t h _ _ _ (edits.Acquires ino mode a q k g) f = (moved_fine t _ refl refl f, verdict a.verdict)
  where
    verdict : (v : Verdict) → IsReply (sv.verdict_body ino mode v)
    verdict (verdicts.Granted g held) = tt
    verdict (verdicts.Queued clients) = tt
ruled_fine now t h _ _ _ (edits.Releases ino g to r e q) f = (moved_fine t _ refl refl f, tt)
ruled_fine now t h _ _ _ (edits.Allocates ino g p count x q k e) f = (moved_fine t _ refl refl f, tt)
ruled_fine now t h _ _ _ (edits.Cuts ino g p q k) f = (cuts_fine t ino p f, tt)
ruled_fine now t h _ _ _ (edits.Creates dir x d e) f = (moved_fine t _ refl refl f, tt)
ruled_fine now t h _ _ _ (edits.MakesDir dir x d e) f = (moved_fine t _ refl refl f, tt)
ruled_fine now t h _ _ _ (edits.Renames dir x dir2 x2 d e) f = (moved_fine t _ refl refl f, tt)
ruled_fine now t h _ _ _ (edits.RemovesDir dir x g ino d l q z e i) f = (moved_fine t _ refl refl f, tt)
ruled_fine now t h _ _ _ (edits.RemovesFile dir x g ino d l q k e i) f = (cuts_fine _ d.ino _ (moved_fine t _ refl refl f), tt)

module _ (clients : ℕ → Bool) (n : ServerState) (now : Stamp) (i : ServerInput) where
  refused_reply : (t : ServerTurn) (m : Message) (b : Body) → RefusedOf clients n now i t m b → IsReply b
  refused_reply t m _ (edits.IsSuspect start c q s) = tt
  refused_reply t m _ (edits.GreetsInGrace h a g) = tt
  refused_reply t m _ (edits.OfOtherEpoch h r) = tt
  refused_reply t m _ (edits.HasNoSession a e) = tt
  refused_reply t m _ (edits.IsRefusedRows rows r x e) = reason r
    where
      reason : (r : AcceptRefusal) → IsReply (sv.refused_reassertion r)
      reason (refusals.GraceOver start x) = tt
      reason (refusals.Conflict ino holder) = tt
      reason (refusals.NotHolder ino g) = tt

  edit_fine : (a : Phase) (t u : ServerTurn) → EditOf clients n now i a t u → Fine t → Fine u
  unfolding sv.steal_from sv.keep_and_reply sessions.reasserted
  edit_fine _ _ _ (edits.TakesTimers t e) f = moved_fine t _ refl refl f
  edit_fine _ _ _ (edits.Steals t c s h e) f =
      let g = says_fine t (outputs.Note _) tt f in record { kept = end_fine t.state.sessions c f.kept; said = g.said }
  edit_fine _ _ _ (edits.Welcomes t m s g e l q) f = reply_fine t m.header _ tt f
  edit_fine _ _ _ (edits.Begins t m g q) f =
      reply_fine _ m.header _ tt
      (sessions_fine _ t (with_session_fine (sessions.new_session (sv.sender m.header) (sv.life_in m.header)) t.state.sessions tt f.kept) f)
  edit_fine _ _ _ (edits.Replaces t m s g e l b r) f =
      let x = sessions_fine _ t (with_session_fine (sessions.new_session (sv.sender m.header) (sv.life_in m.header)) t.state.sessions tt f.kept) f in
      reply_fine _ m.header _ tt (moved_fine _ _ refl refl x)
  edit_fine _ _ _ (edits.PutsOff t m s g e l b r) f = reply_fine _ m.header _ tt (suspect_fine t now (sv.sender m.header) f)
  edit_fine _ _ _ (edits.Sees t m ino g h b s) f = moved_fine t _ refl refl f
  edit_fine _ _ _ (edits.Reasserts t m rows r g c) f =
      let x = with_session_fine (sessions.reasserted_session (sv.sender m.header) (sv.life_in m.header)) t.state.sessions tt f.kept in
      reply_fine _ m.header _ tt (record { kept = x; said = f.said })
  edit_fine _ _ _ (edits.Serves t m u b s e r) f =
      let z = ruled_fine now t m.header m.body u b r f in
      reply_fine _ m.header b z.1 (sessions_fine _ u (store_fine u.state.sessions (sv.sender m.header) m.header.number b z.1 z.0.kept) z.0)
  edit_fine _ _ _ (edits.Repeats t m s b a k e l q) f =
      reply_fine t m.header b (subst StateFine q (f.kept s (found_at (sessions.is_session_of (sv.sender m.header)) t.state.sessions.rows s e).1)) f
  edit_fine _ _ _ (edits.Refuses t m b r) f = reply_fine t m.header b (refused_reply t m b r) f
  edit_fine _ _ _ (edits.Suspects t c r e q a h o l) f = suspect_fine t now c f
  edit_fine _ _ _ (edits.Grants t w g h e s) f = tell_fine _ w.client w.life _ tt (moved_fine t _ refl refl f)
  edit_fine _ _ _ (edits.Demands t w r x e h o q d) f = tell_fine _ r.client r.life _ tt (moved_fine t _ refl refl f)

-- a step of the third form is one that hears the clients of its form
same_step : (form : ℕ) (s : ServerState) (now : Stamp) (i : ServerInput) → every.server_step form s now i ≡ step_of (is_client_node form) s now i
unfolding every.server_step every.take_input every.receive
same_step form s now inputs.Tick = refl
same_step form s now (inputs.Control m) = refl

pub server_fine : (form : ℕ) (s : ServerState) (now : Stamp) (i : ServerInput) → KeptFine s.sessions → Fine (every.server_step form s now i)
server_fine form s now i k =
    subst Fine (sym (same_step form s now i))
    (walk_of (is_client_node form) s now i Fine (edit_fine (is_client_node form) s now i) (record { kept = k; said = λ o h. absurd h }))
