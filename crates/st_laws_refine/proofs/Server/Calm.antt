-- A client has one row on a file, and no reply is a conflict: what a whole step keeps.
use Rattle.st_lemmas.proofs.Words
use Words.{◌≡◌, ℕ, ◌⊎◌, true, false, List, [], ◌∷◌, ◌++◌, refl, sym, subst, inl, inr, Some, None, Err, ClientId, GrantNo, ServerId, Stamp, Mode, Message, Body}
use Words.{Output, AcceptRefusal, ServerInput, Session, SessionState}
use Words.outputs
use Words.serving.{Control}
use Words.states.{Live, Ended}
use Words.Locks.{row_of}
use Words.ServerInvariants.{are_once, same_row}
use Words.Sessions as sessions
use Words.Sessions.{Sessions}
use Words.Grace as grace
use Words.Server.{ServerState, ServerTurn, sender, life_in, reply, tell, steal_from, suspect_client, keep_and_reply, refused_reassertion, server_step, crash}
use Words.Server.{start, begin_epoch, fresh_server}
use Words.Safety.{is_conflict}
use Words.Lists.{Has}
use Words.Tables.{cond_either, found_at, has_map}
use Rattle.st_base.specs.declared.config.Config as base
use Rattle.st_laws_refine.specs.Views.Messages.{on_same_file}
use Rattle.st_lemmas.proofs.Once.{once_none}
use Rattle.st_lemmas.proofs.Puts.{has_put}
use Rattle.st_laws_refine.specs.Server.Invariants.{CalmState, Calm}
use Rattle.st_laws_refine.specs.Server.Edits.{WishInput, InGrace, Edit, TakesTimers, Steals, Suspects, Begins, DropsWaits, Keeps, Reasserts, Sees, Acquires}
use Rattle.st_laws_refine.specs.Server.Edits.{Releases, DropsFile, Grants, Demands, NamesChange, ExtentsChange, Cuts, Replies, Repeats, Refuses, TellsGrant}
use Rattle.st_laws_refine.specs.Server.Edits.{TellsDemand}
use Rattle.st_laws_refine.proofs.Server.Walk.{kept_calm, walk}
use Rattle.st_laws_refine.proofs.Server.OneRow.{OnceEach, forget_once, drop_once, file_once, seen_once, demanded_once, released_once, granted_once}
use Rattle.st_laws_refine.proofs.Server.OneRow.{acquired_once, installed_once}

-- No conflict is put out, and none is kept.
abbrev pub AllCalm : List Output → Type 0
AllCalm [] = Unit {0}
AllCalm (outputs.Send m ∷ os) = record { one : is_conflict m.body ≡ false; rest : AllCalm os }
AllCalm (o ∷ os) = AllCalm os

calm_append : (os : List Output) (o : Output) → AllCalm os → AllCalm (o ∷ []) → AllCalm (os ++ o ∷ [])
calm_append [] o a b = b
calm_append (outputs.Send m ∷ os) o a b = record { one = a.one; rest = calm_append os o a.rest b }
calm_append (outputs.Note x ∷ os) o a b = calm_append os o a b
calm_append (outputs.Answer x y ∷ os) o a b = calm_append os o a b
calm_append (outputs.Submit x y z ∷ os) o a b = calm_append os o a b

abbrev KeptCalm : Sessions → Type 0
KeptCalm t = (s : Session) → Has s t.rows → CalmState s.state

kept_put : (t : Sessions) (s : Session) → CalmState s.state → KeptCalm t → KeptCalm (sessions.with_session s t)
kept_put t s c k x h = go (has_put (sessions.is_session_of s.client) s t.rows x h)
  where
    go : (x ≡ s) ⊎ Has x t.rows → CalmState x.state
    go (inl e) = subst (λ (y : Session). CalmState y.state) (sym e) c
    go (inr i) = k x i

kept_store : (t : Sessions) (c : ClientId) (number : ℕ) (b : Body) → is_conflict b ≡ false → KeptCalm t → KeptCalm (sessions.store t c number b)
unfolding sessions.store sessions.keep_reply
kept_store t c number b e k x h =
    let m = has_map (sessions.keep_of c number b) t.rows x h in
    subst (λ (y : Session). CalmState y.state) (sym m.2) (cond_either (λ (y : Session). CalmState y.state) (sessions.is_session_of c m.0) (sessions.keep_reply number b m.0) m.0 (λ f. now m.0.state) (λ f. k m.0 m.1))
  where
    now : (s : SessionState) → CalmState (sessions.kept_state number b s)
    now (Live last old) = e
    now Ended = tt

kept_end : (t : Sessions) (c : ClientId) → KeptCalm t → KeptCalm (sessions.end t c)
unfolding sessions.end sessions.ended
kept_end t c k x h =
    let m = has_map (sessions.end_of c) t.rows x h in
    subst (λ (y : Session). CalmState y.state) (sym m.2) (cond_either (λ (y : Session). CalmState y.state) (sessions.is_session_of c m.0) (sessions.ended m.0) m.0 (λ f. tt) (λ f. k m.0 m.1))

-- the reply that a session keeps isn't a conflict
kept_found : (t : Sessions) (c : ClientId) (s : Session) (last : ℕ) (b : Body) → KeptCalm t → sessions.session_of t c ≡ Some s → s.state ≡ Live last (Some b) → is_conflict b ≡ false
kept_found t c s last b k e f = subst (λ st. CalmState st) f (k s (found_at (sessions.is_session_of c) t.rows s e).1)

-- what is owed of a reassertion in grace: its files differ, its client has no row, and it is refused for no conflict
pub record Reassertions (n : ServerState) (now : Stamp) (i : ServerInput) : Type 0 where
  pub differ : (t : ServerTurn) (m : Message) (rows : List (ℕ × GrantNo × Mode)) → i ≡ Control m → InGrace n now t m rows → are_once on_same_file rows ≡ true
  pub none : (t : ServerTurn) (m : Message) (rows : List (ℕ × GrantNo × Mode)) → i ≡ Control m → InGrace n now t m rows → (ino : ℕ) → row_of t.state.locks (sender m.header) ino ≡ None
  pub calm : (t : ServerTurn) (m : Message) (rows : List (ℕ × GrantNo × Mode)) (r : AcceptRefusal) → i ≡ Control m → InGrace n now t m rows → OnceEach t.state.locks →
      grace.accept t.state.grace now (sender m.header) (life_in m.header) rows t.state.locks t.state.sessions ≡ Err r → is_conflict (refused_reassertion r) ≡ false

pub record CalmTurn (n : ServerState) (now : Stamp) (t : ServerTurn) : Type 0 where
  pub same : t.state.grace ≡ n.grace
  pub once : OnceEach t.state.locks
  pub kept : (s : Session) → Has s t.state.sessions.rows → CalmState s.state
  pub calm : AllCalm t.out

calm_edit : (n : ServerState) (now : Stamp) (i : ServerInput) → Reassertions n now i → (t u : ServerTurn) → Edit n now i t u → CalmTurn n now t → CalmTurn n now u
unfolding steal_from suspect_client keep_and_reply reply tell sessions.reasserted
calm_edit n now i q t u (TakesTimers _ first) o = record { same = o.same; once = o.once; kept = o.kept; calm = o.calm }
calm_edit n now i q t u (Steals _ c s h e) o = record { same = o.same; once = forget_once t.state.locks c o.once; kept = kept_end t.state.sessions c o.kept; calm = calm_append t.out _ o.calm tt }
calm_edit n now i q t u (Suspects _ c s f z) o = record { same = o.same; once = drop_once t.state.locks c o.once; kept = o.kept; calm = calm_append t.out _ o.calm tt }
calm_edit n now i q t u (Begins _ c life) o = record { same = o.same; once = o.once; kept = kept_put t.state.sessions (sessions.new_session c life) tt o.kept; calm = o.calm }
calm_edit n now i q t u (DropsWaits _ m s is b e lower) o = record { same = o.same; once = drop_once t.state.locks (sender m.header) o.once; kept = o.kept; calm = o.calm }
calm_edit n now i q t u (Keeps _ c number b e) o = record { same = o.same; once = o.once; kept = kept_store t.state.sessions c number b (kept_calm b e) o.kept; calm = o.calm }
calm_edit n now i q t u (Reasserts _ m rows is w g f) o =
    record {
      same = o.same;
      once = installed_once t.state.locks (sender m.header) (life_in m.header) rows (q.none t m rows is g) (q.differ t m rows is g) o.once;
      kept = kept_put t.state.sessions (sessions.reasserted_session (sender m.header) (life_in m.header)) refl o.kept;
      calm = o.calm;
    }
calm_edit n now i q t u (Sees _ m ino g is fi b) o = record { same = o.same; once = seen_once t.state.locks (sender m.header) ino g o.once; kept = o.kept; calm = o.calm }
calm_edit n now i q t u (Acquires _ m ino mode l b s is fi eb es el ok k a) o =
    record {
      same = o.same;
      once = acquired_once _ t.state.locks (sender m.header) (life_in m.header) ino mode l a o.once;
      kept = kept_store t.state.sessions (sender m.header) m.header.number b ok.calm o.kept;
      calm = calm_append t.out _ o.calm (record { one = ok.calm; rest = tt });
    }
calm_edit n now i q t u (Releases _ m ino g to r is fi b er eu) o = record { same = o.same; once = released_once t.state.locks (sender m.header) ino to o.once; kept = o.kept; calm = o.calm }
calm_edit n now i q t u (DropsFile _ m dir name g ino is b e) o = record { same = o.same; once = file_once t.state.locks ino o.once; kept = o.kept; calm = o.calm }
calm_edit n now i q t u (Grants _ w off h first f) o = record { same = o.same; once = granted_once t.state.locks w.client w.life w.ino w.mode o.once; kept = o.kept; calm = o.calm }
calm_edit n now i q t u (Demands _ r x to er ed) o = record { same = o.same; once = demanded_once t.state.locks r x o.once; kept = o.kept; calm = o.calm }
calm_edit n now i q t u (NamesChange _ v) o = record { same = o.same; once = o.once; kept = o.kept; calm = o.calm }
calm_edit n now i q t u (ExtentsChange _ v) o = record { same = o.same; once = o.once; kept = o.kept; calm = o.calm }
calm_edit n now i q t u (Cuts _ f p) o = record { same = o.same; once = o.once; kept = o.kept; calm = calm_append t.out _ o.calm tt }
calm_edit n now i q t u (Replies _ m b is ok) o = record { same = o.same; once = o.once; kept = o.kept; calm = calm_append t.out _ o.calm (record { one = ok.calm; rest = tt }) }
calm_edit n now i q t u (Repeats _ m s last b is r f e g) o =
    record { same = o.same; once = o.once; kept = o.kept; calm = calm_append t.out _ o.calm (record { one = kept_found t.state.sessions (sender m.header) s last b o.kept e g; rest = tt }) }
calm_edit n now i q t u (Refuses _ m rows r is f g e) o =
    record {
      same = o.same;
      once = o.once;
      kept = o.kept;
      calm = calm_append t.out _ o.calm (record { one = q.calm t m rows r is g o.once e; rest = tt });
    }
calm_edit n now i q t u (TellsGrant _ c life ino g mode) o = record { same = o.same; once = o.once; kept = o.kept; calm = calm_append t.out _ o.calm (record { one = refl; rest = tt }) }
calm_edit n now i q t u (TellsDemand _ c life ino g mode) o = record { same = o.same; once = o.once; kept = o.kept; calm = calm_append t.out _ o.calm (record { one = refl; rest = tt }) }

-- a whole step
pub calm_step : (n : ServerState) (now : Stamp) (i : ServerInput) → Reassertions n now i → WishInput i → Calm n → CalmTurn n now (server_step n now i)
calm_step n now i q w o = walk n now i (CalmTurn n now) (calm_edit n now i q) w (record { same = refl; once = o.once; kept = o.kept; calm = tt })

-- a crash and a start leave it so, and a fresh server begins so
pub calm_crash : (n : ServerState) → Calm (crash n)
unfolding crash
calm_crash n = record { once = once_none same_row; kept = λ s h. elim h [ ] }

pub calm_start : (n : ServerState) (begun : Stamp) → Calm (start n begun)
unfolding start begin_epoch
calm_start n begun = record { once = once_none same_row; kept = λ s h. elim h [ ] }

pub calm_fresh : (id : ServerId) (kb : base.Config) (servers disks blocks : ℕ) → Calm (fresh_server id kb servers disks blocks)
unfolding fresh_server
calm_fresh id kb servers disks blocks = record { once = once_none same_row; kept = λ s h. elim h [ ] }
