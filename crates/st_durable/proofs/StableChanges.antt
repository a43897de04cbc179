-- A step leaves a server's stable part as it was, or changes it by the change that its input asks for.
use Rattle.st_lemmas.proofs.Words
use Words.{◌≡◌, ℕ, ◌⊎◌, Option, Some, None, refl, sym, ap, subst, ◌∙◌, inl, inr, Result, Ok, FileId, Stamp, Body, Header, ServerInput, ServerId, Config}
use Words.Extents as extents
use Words.Keys.{page_no}
use Words.Names as names
use Words.Server as server
use Words.Server.{ServerState, Stable, ServerTurn, crash}
use Words.Tables.{cond_true, cond_false}
use Rattle.st_journal.specs.Stable as journal
use Rattle.st_journal.specs.declared.change.Change.{Change}
use Rattle.st_journal.specs.declared.stable.ChangeRefusal.{ChangeRefusal}
use Rattle.st_durable.specs.Durable.{IsOwn, asked, asked_of}
use Rattle.st_trace.specs.Server.Edits.{Ruled, Tells, Acquires, Releases, Allocates, Cuts, Creates, MakesDir, Renames, RemovesDir, RemovesFile, Phase, Edit}
use Rattle.st_trace.specs.Server.Edits.{TakesTimers, Steals, Welcomes, Begins, Replaces, PutsOff, Sees, Reasserts, Serves, Repeats, Refuses, Suspects, Grants}
use Rattle.st_trace.specs.Server.Edits.{Demands}
use Rattle.st_trace.proofs.Server.Walk.{walk}

-- What a crash leaves is the stable part, and whose it is.
pub kept_stable : (t u : ServerState) → crash u ≡ crash t → u.stable ≡ t.stable
unfolding crash
kept_stable t u e = ap (λ (s : ServerState). s.stable) e

pub kept_id : (t u : ServerState) → crash u ≡ crash t → u.id ≡ t.id
unfolding crash
kept_id t u e = ap (λ (s : ServerState). s.id) e

-- This change was applied.
pub record Applied (t u : ServerState) (x : Change) : Type 0 where
  pub id : u.id ≡ t.id
  pub applied : journal.apply t.stable x ≡ Ok u.stable

-- The stable part is as it was, or this change was applied.
abbrev pub Follows : Option Change → ServerState → ServerState → Type 0
Follows None t u = crash u ≡ crash t
Follows (Some x) t u = (crash u ≡ crash t) ⊎ Applied t u x

abbrev done : Stable → Result Stable ChangeRefusal
done t = Ok t

pub still : (o : Option Change) (t u : ServerState) → crash u ≡ crash t → Follows o t u
still None t u e = e
still (Some x) t u e = inl e

pub follows_then : (o : Option Change) (t u v : ServerState) → Follows o t u → crash v ≡ crash u → Follows o t v
follows_then None t u v e k = k ∙ e
follows_then (Some x) t u v (inl e) k = inl (k ∙ e)
follows_then (Some x) t u v (inr a) k = inr (record { id = kept_id u v k ∙ a.id; applied = a.applied ∙ ap done (sym (kept_stable u v k)) })

pub follows_after : (o : Option Change) (t u v : ServerState) → crash u ≡ crash t → Follows o u v → Follows o t v
follows_after None t u v k e = e ∙ k
follows_after (Some x) t u v k (inl e) = inl (e ∙ k)
follows_after (Some x) t u v k (inr a) =
    inr (record { id = a.id ∙ kept_id t u k; applied = ap (λ (s : Stable). journal.apply s x) (sym (kept_stable t u k)) ∙ a.applied })

-- what a crash makes of a server depends only on its number, its settings and its stable part
crashed : (s t : ServerState) → t.id ≡ s.id → t.config ≡ s.config → t.stable ≡ s.stable → crash t ≡ crash s
unfolding crash
crashed s t a b c = ap (λ x. of x t.config t.stable) a ∙ ap (λ x. of s.id x t.stable) b ∙ ap (λ (x : Stable). of s.id s.config x) c
  where
    of : ServerId → Config → Stable → ServerState
    of id k x = crash (record s { id = id; config = k; stable = x })

-- Rules that may change it.
module _ (now : Stamp) (t : ServerTurn) (h : Header) (own : IsOwn t.state) where
  -- one file, to the server and to its journal
  own_file : (ino : ℕ) → journal.file t.state.stable ino ≡ server.file t ino
  own_file ino = λ j. record { server = own j; ino = ino }

  quiet : (b : Body) (u : ServerTurn) → crash u.state ≡ crash t.state → Follows (asked_of b) t.state u.state
  quiet b u e = still (asked_of b) t.state u.state e

  rule_follows : (b : Body) (u : ServerTurn) (r : Body) → Ruled now t h b u r → Follows (asked_of b) t.state u.state
  unfolding crash server.cut_whole server.cut_pages journal.apply journal.allocate journal.cut journal.removed journal.named
  rule_follows b u r (Tells _ _ x) = quiet b t refl
  rule_follows b u r (Acquires ino mode a f k g) = refl
  rule_follows b u r (Releases ino g to x e f) = refl
  rule_follows b u r (Allocates ino g p count x f q e) =
      inr (record {
        id = refl;
        applied = cond_true (names.is_file t.state.stable.names ino) _ _ f
            ∙ ap (λ (file : FileId). journal.mapped t.state.stable (extents.allocate t.state.stable.extents file p count)) (own_file ino)
            ∙ ap (journal.mapped t.state.stable) e;
      })
  rule_follows b u r (Cuts ino g p f q) =
      inr (record {
        id = refl;
        applied = cond_true (names.is_file t.state.stable.names ino) _ _ f
            ∙ ap (λ (file : FileId). done (record t.state.stable { extents = extents.release_from t.state.stable.extents file p })) (own_file ino);
      })
  rule_follows b u r (Creates dir x d e) = inr (record { id = refl; applied = ap (journal.named t.state.stable) e })
  rule_follows b u r (MakesDir dir x d e) = inr (record { id = refl; applied = ap (journal.named t.state.stable) e })
  rule_follows b u r (Renames dir x dir2 x2 d e) = inr (record { id = refl; applied = ap (journal.named t.state.stable) e })
  rule_follows b u r (RemovesDir dir x g ino d l f z e s) =
      inr (record {
        id = refl;
        applied = ap (journal.removed t.state.stable) e
            ∙ ap done (cond_false (names.is_file t.state.stable.names d.ino) _ _ (ap (names.is_file t.state.stable.names) s ∙ f));
      })
  rule_follows b u r (RemovesFile dir x g ino d l f q e s) =
      inr (record {
        id = refl;
        applied = ap (journal.removed t.state.stable) e
            ∙ ap done (cond_true (names.is_file t.state.stable.names d.ino) _ _ (ap (names.is_file t.state.stable.names) s ∙ f))
            ∙ ap (λ (file : FileId). done (record t.state.stable {
              names = d.names;
              extents =
                  extents.release_from t.state.stable.extents file (page_no 0);
            })) (own_file d.ino);
      })

module _ (n : ServerState) (now : Stamp) (i : ServerInput) (own : IsOwn n) where
  abbrev F : ServerTurn → Type 0
  F t = Follows (asked i) n t.state

  same : (t u : ServerTurn) → crash u.state ≡ crash t.state → F t → F u
  same t u e p = follows_then (asked i) n t.state u.state p e

  edit_follows : (a : Phase) (t u : ServerTurn) → Edit n now i a t u → F t → F u
  unfolding crash server.steal_from server.suspect_client server.keep_and_reply server.reply server.tell
  edit_follows a t u (TakesTimers _ e) p = same t u refl p
  edit_follows a t u (Steals _ c s h e) p = same t u refl p
  edit_follows a t u (Welcomes _ m s g e x f) p = same t u refl p
  edit_follows a t u (Begins _ m g f) p = same t u refl p
  edit_follows a t u (Replaces _ m s g e x f r) p = same t u refl p
  edit_follows a t u (PutsOff _ m s g e x f r) p = same t u refl p
  edit_follows a t u (Sees _ m ino g h b e) p = same t u refl p
  edit_follows a t u (Reasserts _ m rows r on f) p = same t u refl p
  edit_follows a t u (Serves _ m v b s e r) p =
      let z = s.asked.heard.came.begun in
      let mine : IsOwn t.state = ap (λ (x : Stable). x.extents.server) z.stable ∙ own ∙ sym z.id in
      let asks = ap asked (sym s.asked.heard.came.is) in
      same v (server.keep_and_reply v m.header b) refl
      (subst (λ o. Follows o n v.state) asks
      (follows_after (asked_of m.body) n t.state v.state (crashed n t.state z.id z.config z.stable) (rule_follows now t m.header mine m.body v b r)))
  edit_follows a t u (Repeats _ m s b x e f g k) p = same t u refl p
  edit_follows a t u (Refuses _ m b r) p = same t u refl p
  edit_follows a t u (Suspects _ c r is q f h e o) p = same t u refl p
  edit_follows a t u (Grants _ w off h e f) p = same t u refl p
  edit_follows a t u (Demands _ w r x e h o f d) p = same t u refl p

-- The whole step.
pub step_follows : (s : ServerState) (now : Stamp) (i : ServerInput) → IsOwn s → Follows (asked i) s (server.server_step s now i).state
step_follows s now i own = walk s now i (F s now i own) (edit_follows s now i own) (still (asked i) s s refl)
