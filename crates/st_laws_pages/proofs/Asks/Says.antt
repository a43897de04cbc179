-- What the outputs of a node do to the world: its messages, and what is observed.
use Rattle.st_lemmas.proofs.Words
use Words.{◌≡◌, ℕ, ◌+◌, ◌%◌, Bool, true, false, ◌&&◌, ◌||◌, List, [], ◌∷◌, ◌++◌, ◌==◌, Option, Some, None, refl, sym, ap, ◌∙◌, subst, inl, inr, append_assoc}
use Words.{◌⊎◌, is_some, length, not, pred, list_any, eqb-true, eq-eqb, BlockAt, Command, ClientId, ServerId, AppAnswer, Ask, Note, Output, Observation}
use Words.{SentMessage, append-nil}
use Words.answers
use Words.notes
use Words.outputs
use Words.seen
use Words.ClientState.{ClientState}
use Words.Keys.{same_client, same_server}
use Words.World as world
use Words.World.{World, WorldClient, site_of}
use Words.Events as ev
use Words.Events.{WorldTurn, client_says, client_says_all, client_notes, server_says, server_says_all}
use Words.Safety as safety
use Words.Safety.{Step, ask_of, all_answered_once, all_followed, answers_in, begins_written, block_of, is_answer_to, is_answered_once, is_followed, uses_server}
use Words.Lists.{Has}
use Words.Tables.{and_both, and_true, has_append}
use Words.Worlds.{says_both}
use Rattle.st_laws_pages.specs.Asks.Law.{IsWrittenLogged, AreWrittenLogged}
use Rattle.st_laws_pages.proofs.Asks.Places.{On}
use Rattle.st_laws_pages.proofs.Asks.Client.{Neutral, PlainNote, NotesChange}
use Rattle.st_laws_pages.proofs.Asks.Asks.{Said, Nothing, Other, Submits, Answers, Changes, Unused, Unwritten, answers_op}
use Rattle.std.proofs.lemmas.List.Folds.{list_any-append}

-- What outputs leave of a world.
pub record Leaves (os : List Output) (v u : World) : Type 0 where
  pub clients : u.clients ≡ v.clients
  pub servers : u.servers ≡ v.servers
  pub messages : (m : SentMessage) → Has m u.net.messages → Has m v.net.messages ⊎ Has (outputs.Send m.message) os

still : (os : List Output) (v u : World) → u.clients ≡ v.clients → u.servers ≡ v.servers → u.net.messages ≡ v.net.messages → Leaves os v u
still os v u c s e = record { clients = c; servers = s; messages = λ m h. inl (subst (Has m) e h) }

sends_one : (os : List Output) (m : _) (sc : WorldTurn) → Leaves (outputs.Send m ∷ os) sc.world (ev.sends sc m).world
unfolding ev.sends
sends_one os m sc = record { clients = refl; servers = refl; messages = λ x h. go x (has_append sc.world.net.messages (record { message = m; lost = false } ∷ []) x h) }
  where
    go : (x : SentMessage) → Has x sc.world.net.messages ⊎ Has x (record { message = m; lost = false } ∷ []) → Has x sc.world.net.messages ⊎ Has (outputs.Send x.message) (outputs.Send m ∷ os)
    go x (inl h) = inl h
    go x (inr (inl e)) = inr (inl (ap (λ (z : SentMessage). outputs.Send z.message) e))
    go x (inr (inr h)) = absurd h

client_one : (c : ClientId) (before : ClientState) (o : Output) (sc : WorldTurn) → Leaves (o ∷ []) sc.world (client_says sc c before o).world
unfolding client_says ev.submits ev.answers_with client_notes ev.accepts ev.patches ev.loses
client_one c before (outputs.Send m) sc = sends_one [] m sc
client_one c before (outputs.Answer op a) sc = still _ sc.world _ refl refl refl
client_one c before (outputs.Submit x at what) sc = go (site_of sc.world c)
  where
    go : (o : Option WorldClient) → Leaves (outputs.Submit x at what ∷ []) sc.world (ev.submits sc c o x at what).world
    go None = still _ sc.world _ refl refl refl
    go (Some s) = still _ sc.world _ refl refl refl
client_one c before (outputs.Note x) sc = note x
  where
    note : (x : Note) → Leaves (outputs.Note x ∷ []) sc.world (client_notes sc c before x).world
    note (notes.Accepted f p bytes) = still _ sc.world _ refl refl refl
    note (notes.Patched f p at bytes) = still _ sc.world _ refl refl refl
    note (notes.Lost s l) = still _ sc.world _ refl refl refl
    note (notes.Leased s e) = still _ sc.world _ refl refl refl
    note x = still _ sc.world _ refl refl refl

leaves_then : (o : Output) (os : List Output) (u v w : World) → Leaves (o ∷ []) u v → Leaves os v w → Leaves (o ∷ os) u w
leaves_then o os u v w a b = record { clients = b.clients ∙ a.clients; servers = b.servers ∙ a.servers; messages = λ m h. go m (b.messages m h) }
  where
    one : (m : SentMessage) → Has m u.net.messages ⊎ Has (outputs.Send m.message) (o ∷ []) → Has m u.net.messages ⊎ Has (outputs.Send m.message) (o ∷ os)
    one m (inl h) = inl h
    one m (inr (inl e)) = inr (inl e)
    one m (inr (inr h)) = absurd h

    go : (m : SentMessage) → Has m v.net.messages ⊎ Has (outputs.Send m.message) os → Has m u.net.messages ⊎ Has (outputs.Send m.message) (o ∷ os)
    go m (inl h) = one m (a.messages m h)
    go m (inr h) = inr (inr h)

pub client_leaves : (c : ClientId) (before : ClientState) (os : List Output) (sc : WorldTurn) → Leaves os sc.world (client_says_all c before os sc).world
unfolding client_says_all
client_leaves c before [] sc = still [] sc.world sc.world refl refl refl
client_leaves c before (o ∷ os) sc = leaves_then o os sc.world (client_says sc c before o).world _ (client_one c before o sc) (client_leaves c before os (client_says sc c before o))

server_one : (s : ServerId) (o : Output) (sc : WorldTurn) → Leaves (o ∷ []) sc.world (server_says sc s o).world
unfolding server_says ev.server_notes ev.cuts
server_one s (outputs.Send m) sc = sends_one [] m sc
server_one s (outputs.Note x) sc = note x
  where
    note : (x : Note) → Leaves (outputs.Note x ∷ []) sc.world (ev.server_notes sc s x).world
    note (notes.Suspected c t) = still _ sc.world _ refl refl refl
    note (notes.Stolen c l) = still _ sc.world _ refl refl refl
    note (notes.CutDone f p) = still _ sc.world _ refl refl refl
    note x = still _ sc.world _ refl refl refl
server_one s o sc = still _ sc.world _ refl refl refl

pub server_leaves : (s : ServerId) (os : List Output) (sc : WorldTurn) → Leaves os sc.world (server_says_all s os sc).world
unfolding server_says_all
server_leaves s [] sc = still [] sc.world sc.world refl refl refl
server_leaves s (o ∷ os) sc = leaves_then o os sc.world (server_says sc s o).world _ (server_one s o sc) (server_leaves s os (server_says sc s o))

-- An observation that is neither an answer nor a change of a page.
abbrev pub Dull : Observation → Type 0
Dull (seen.Answered c op a) = ⊥
Dull (seen.Wrote i c f p bytes) = ⊥
Dull (seen.Patched i c f p at bytes) = ⊥
Dull o = Unit {0}

abbrev pub AllDull : List Observation → Type 0
AllDull [] = Unit {0}
AllDull (o ∷ os) = record { one : Dull o; rest : AllDull os }

-- What observations owe: their answers are first ones, their changes are answered, `written` follows its change.
pub record Owed (past : List Step) (x : Step) (os : List Observation) : Type 0 where
  pub once : all_answered_once past x [] os ≡ true
  pub followed : all_followed os ≡ true
  pub written : AreWrittenLogged past x None os

once_more : (past : List Step) (x : Step) (lines os : List Observation) (o : Observation) → all_answered_once past x lines os ≡ true → is_answered_once past x (lines ++ os) o ≡ true → all_answered_once past x lines (os ++ o ∷ []) ≡ true
unfolding all_answered_once
once_more past x lines [] o a b = and_both _ _ (subst (λ z. is_answered_once past x z o ≡ true) (append-nil lines) b) refl
once_more past x lines (p ∷ os) o a b =
    let z = and_true (is_answered_once past x lines p) _ a in
    and_both _ _ z.0 (once_more past x (lines ++ p ∷ []) os o z.1 (subst (λ y. is_answered_once past x y o ≡ true) (sym (append_assoc lines (p ∷ []) os)) b))

followed_more : (os ps : List Observation) → all_followed os ≡ true → all_followed ps ≡ true → all_followed (os ++ ps) ≡ true
unfolding all_followed
followed_more [] ps a b = b
followed_more (o ∷ os) ps a b = let z = and_true (is_followed o os) (all_followed os) a in and_both _ _ (longer o z.0) (followed_more os ps z.1 b)
  where
    begins : (c : ClientId) (xs : List Observation) → begins_written c xs ≡ true → begins_written c (xs ++ ps) ≡ true
    begins c [] e = cc
    begins c (y ∷ xs) e = e

    longer : (o : Observation) → is_followed o os ≡ true → is_followed o (os ++ ps) ≡ true
    longer (seen.Wrote i c f p bytes) e = begins c os e
    longer (seen.Patched i c f p at bytes) e = begins c os e
    longer o e = refl

-- the last line so far
last_line : Option Observation → List Observation → Option Observation
last_line line [] = line
last_line line (o ∷ os) = last_line (Some o) os

written_more : (past : List Step) (x : Step) (line : Option Observation) (os ps : List Observation) → AreWrittenLogged past x line os → AreWrittenLogged past x (last_line line os) ps → AreWrittenLogged past x line (os ++ ps)
unfolding last_line
written_more past x line [] ps a b = b
written_more past x line (o ∷ os) ps a b = record { one = a.one; rest = written_more past x (Some o) os ps a.rest b }

owed_dull : (past : List Step) (x : Step) (os : List Observation) (o : Observation) → Dull o → Owed past x os → Owed past x (os ++ o ∷ [])
unfolding all_followed
owed_dull past x os o d h =
    record {
      once = once_more past x [] os o h.once (once o d);
      followed = followed_more os (o ∷ []) h.followed (and_both _ _ (followed o d) refl);
      written = written_more past x None os (o ∷ []) h.written (record { one = written (last_line None os) o d; rest = record {} });
    }
  where
    once : (o : Observation) → Dull o → is_answered_once past x os o ≡ true
    once (seen.Answered c op a) d = absurd d
    once o d = refl

    followed : (o : Observation) → Dull o → is_followed o [] ≡ true
    followed (seen.Wrote i c f p bytes) d = absurd d
    followed (seen.Patched i c f p at bytes) d = absurd d
    followed o d = refl

    written : (line : Option Observation) (o : Observation) → Dull o → IsWrittenLogged past x line o
    written line (seen.Answered c op a) d = absurd d
    written line o d = tt

pub dull_owed : (past : List Step) (x : Step) (os : List Observation) → AllDull os → Owed past x os
unfolding all_answered_once all_followed
dull_owed past x os d = go [] os (record { once = refl; followed = refl; written = record {} }) d
  where
    go : (xs os : List Observation) → Owed past x xs → AllDull os → Owed past x (xs ++ os)
    go xs [] h d = subst (Owed past x) (sym (append-nil xs)) h
    go xs (o ∷ os) h d = subst (Owed past x) (append_assoc xs (o ∷ []) os) (go (xs ++ o ∷ []) os (owed_dull past x xs o d.one h) d.rest)

pub dull_unanswered : (c : ClientId) (op : ℕ) (os : List Observation) → AllDull os → list_any (is_answer_to c op) os ≡ false
dull_unanswered c op [] d = refl
dull_unanswered c op (o ∷ os) d = one o d.one (dull_unanswered c op os d.rest)
  where
    one : (o : Observation) → Dull o → list_any (is_answer_to c op) os ≡ false → (is_answer_to c op o || list_any (is_answer_to c op) os) ≡ false
    one (seen.Answered d n a) e r = absurd e
    one o e r = r

-- What is observed of a client's outputs.
pub record Seen (past : List Step) (x : Step) (c : ClientId) (out : List Output) (os : List Observation) : Type 0 where
  pub owed : Owed past x os
  pub own : (op : ℕ) → list_any (is_answer_to c op) os ≡ list_any (answers_op op) out
  pub others : (d : ClientId) (op : ℕ) → (c.0 == d.0) ≡ false → list_any (is_answer_to d op) os ≡ false

quiet_more : (a b : Bool) → b ≡ false → (a || (b || false)) ≡ a
quiet_more true b e = refl
quiet_more false true e = cc
quiet_more false false e = refl

seen_dull : (past : List Step) (x : Step) (c : ClientId) (out : List Output) (y : Output) (os : List Observation) (o : Observation) → Dull o → ((op : ℕ) → answers_op op y ≡ false) → Seen past x c out os → Seen past x c (out ++ y ∷ []) (os ++ o ∷ [])
seen_dull past x c out y os o d n h =
    record {
      owed = owed_dull past x os o d h.owed;
      own = λ op. list_any-append (is_answer_to c op) os (o ∷ []) ∙ quiet_more (list_any (is_answer_to c op) os) _ (none c op o d) ∙ h.own op ∙
          sym (list_any-append (answers_op op) out (y ∷ []) ∙ quiet_more (list_any (answers_op op) out) _ (n op));
      others = λ e op q. list_any-append (is_answer_to e op) os (o ∷ []) ∙ quiet_more (list_any (is_answer_to e op) os) _ (none e op o d) ∙ h.others e op q;
    }
  where
    none : (e : ClientId) (op : ℕ) (o : Observation) → Dull o → is_answer_to e op o ≡ false
    none e op (seen.Answered a b z) d = absurd d
    none e op o d = refl

seen_still : (past : List Step) (x : Step) (c : ClientId) (out : List Output) (y : Output) (os : List Observation) → ((op : ℕ) → answers_op op y ≡ false) → Seen past x c out os → Seen past x c (out ++ y ∷ []) os
seen_still past x c out y os n h =
    record {
      owed = h.owed;
      own = λ op. h.own op ∙ sym (list_any-append (answers_op op) out (y ∷ []) ∙ quiet_more (list_any (answers_op op) out) _ (n op));
      others = h.others;
    }

module _ (past : List Step) (x : Step) (c : ClientId) (before : ClientState) where
  abbrev asked : ℕ → Option Ask
  asked = ask_of past x c

  abbrev old : ℕ → Bool
  old op = list_any (answers_in c op) past

  abbrev Z : List Output → WorldTurn → Type 0
  Z out sc = Seen past x c out sc.seen

  neutral_seen : (out : List Output) (o : Output) (sc : WorldTurn) → Neutral c o → Z out sc → Z (out ++ o ∷ []) (client_says sc c before o)
  unfolding client_says ev.sends client_notes ev.loses
  neutral_seen out (outputs.Send m) sc d h = seen_dull past x c out _ sc.seen _ tt (λ op. refl) h
  neutral_seen out (outputs.Answer op a) sc d h = absurd d
  neutral_seen out (outputs.Submit z at what) sc d h = absurd d
  neutral_seen out (outputs.Note y) sc d h = note y d
    where
      note : (y : Note) → PlainNote y → Z (out ++ outputs.Note y ∷ []) (client_notes sc c before y)
      note (notes.Accepted f p bytes) d = absurd d
      note (notes.Patched f p at bytes) d = absurd d
      note (notes.Leased s e) d = seen_dull past x c out _ sc.seen _ tt (λ op. refl) h
      note (notes.Lost s l) d = seen_dull past x c out _ sc.seen _ tt (λ op. refl) h
      note y d = seen_still past x c out _ sc.seen (λ op. refl) h

  submit_seen : (out : List Output) (z : ℕ) (at : BlockAt) (what : Command) (sc : WorldTurn) → Z out sc → Z (out ++ outputs.Submit z at what ∷ []) (client_says sc c before (outputs.Submit z at what))
  unfolding client_says ev.submits
  submit_seen out z at what sc h = go (site_of sc.world c)
    where
      go : (o : Option WorldClient) → Z (out ++ outputs.Submit z at what ∷ []) (ev.submits sc c o z at what)
      go None = seen_still past x c out _ sc.seen (λ op. refl) h
      go (Some s) = seen_dull past x c out _ sc.seen _ tt (λ op. refl) h

  same_self : same_client c c ≡ true
  same_self = eq-eqb c.0 c.0 refl

  first_is : (out : List Output) (op : ℕ) (ask : Ask) (os lines : List Observation) → asked op ≡ Some ask → old op ≡ false → list_any (is_answer_to c op) lines ≡ false → safety.is_first_answer past x lines c op ≡ true
  first_is out op ask os lines a o l = and_both _ _ (ap is_some a) (go (old op) (list_any (is_answer_to c op) lines) o l)
    where
      go : (y z : Bool) → y ≡ false → z ≡ false → not (y || z) ≡ true
      go true z e f = cc
      go false true e f = cc
      go false false e f = refl

  answer_own : (op n : ℕ) (a : AppAnswer) (os : List Observation) (out : List Output) → list_any (is_answer_to c op) os ≡ list_any (answers_op op) out → list_any (is_answer_to c op) (os ++ seen.Answered c n a ∷ []) ≡ list_any (answers_op op) (out ++ outputs.Answer n a ∷ [])
  answer_own op n a os out e =
      list_any-append (is_answer_to c op) os (seen.Answered c n a ∷ [])
      ∙ ap (λ z. z || ((same_client c c && (n == op)) || false)) e
      ∙ ap (λ z. list_any (answers_op op) out || ((z && (n == op)) || false)) same_self
      ∙ sym (list_any-append (answers_op op) out (outputs.Answer n a ∷ []))

  answer_others : (d : ClientId) (op n : ℕ) (a : AppAnswer) (os : List Observation) → (c.0 == d.0) ≡ false → list_any (is_answer_to d op) os ≡ false → list_any (is_answer_to d op) (os ++ seen.Answered c n a ∷ []) ≡ false
  answer_others d op n a os q e = list_any-append (is_answer_to d op) os (seen.Answered c n a ∷ []) ∙
      quiet_more (list_any (is_answer_to d op) os) _ (ap (λ z. z && (n == op)) q) ∙ e

  answer_seen : (out : List Output) (op : ℕ) (ask : Ask) (a : AppAnswer) (sc : WorldTurn) → asked op ≡ Some ask → old op ≡ false → list_any (answers_op op) out ≡ false → Unwritten a → Z out sc → Z (out ++ outputs.Answer op a ∷ []) (client_says sc c before (outputs.Answer op a))
  unfolding client_says ev.answers_with all_followed
  answer_seen out op ask a sc e o l w h =
      record {
        owed = record {
          once = once_more past x [] sc.seen (seen.Answered c op a) h.owed.once (first_is out op ask sc.seen sc.seen e o (h.own op ∙ l));
          followed = followed_more sc.seen (seen.Answered c op a ∷ []) h.owed.followed refl;
          written = written_more past x None sc.seen (seen.Answered c op a ∷ []) h.owed.written (record { one = plain (last_line None sc.seen) a w; rest = record {} });
        };
        own = λ n. answer_own n op a sc.seen out (h.own n);
        others = λ d n q. answer_others d n op a sc.seen q (h.others d n q);
      }
    where
      plain : (line : Option Observation) (a : AppAnswer) → Unwritten a → IsWrittenLogged past x line (seen.Answered c op a)
      plain line answers.Written w = absurd w
      plain line a w = tt

  -- a change, and its answer: two lines
  record Two (out : List Output) (op : ℕ) (y : Note) (sc new : WorldTurn) : Type 0 where
    pub line : Observation
    pub is : new.seen ≡ (sc.seen ++ line ∷ []) ++ seen.Answered c op answers.Written ∷ []
    pub follows : is_followed line (seen.Answered c op answers.Written ∷ []) ≡ true
    pub unanswered : (d : ClientId) (n : ℕ) → is_answer_to d n line ≡ false
    pub once : (lines : List Observation) → is_answered_once past x lines line ≡ true
    pub dull : (l : Option Observation) → IsWrittenLogged past x l line
    pub logged : safety.IsLoggedAfter c (asked op) (Some line)

  change_two : (out : List Output) (op : ℕ) (ask : Ask) (y : Note) (sc : WorldTurn) → asked op ≡ Some ask → NotesChange y ask → Two out op y sc (client_says (client_says sc c before (outputs.Note y)) c before (outputs.Answer op answers.Written))
  unfolding client_says ev.answers_with client_notes ev.accepts ev.patches
  change_two out op ask (notes.Accepted f p bytes) sc e m =
      record {
        line = seen.Wrote (length sc.world.log + 1) c f p bytes;
        is = refl;
        follows = same_self;
        unanswered = λ d n. refl;
        once = λ lines. refl;
        dull = λ l. tt;
        logged = subst (λ z. safety.IsLoggedAfter c z (Some (seen.Wrote (length sc.world.log + 1) c f p bytes))) (sym (e ∙ ap (λ z. Some z) m)) refl;
      }
  change_two out op ask (notes.Patched f p at bytes) sc e m =
      record {
        line = seen.Patched (length sc.world.log + 1) c f p at bytes;
        is = refl;
        follows = same_self;
        unanswered = λ d n. refl;
        once = λ lines. refl;
        dull = λ l. tt;
        logged = subst (λ z. safety.IsLoggedAfter c z (Some (seen.Patched (length sc.world.log + 1) c f p at bytes))) (sym (e ∙ ap (λ z. Some z) m)) refl;
      }
  change_two out op ask y sc e m = elim m [ ]

  change_seen : (out : List Output) (op : ℕ) (ask : Ask) (y : Note) (sc : WorldTurn) → asked op ≡ Some ask → old op ≡ false → list_any (answers_op op) out ≡ false → NotesChange y ask → Z out sc →
      Z ((out ++ outputs.Note y ∷ []) ++ outputs.Answer op answers.Written ∷ []) (client_says (client_says sc c before (outputs.Note y)) c before (outputs.Answer op answers.Written))
  unfolding all_followed
  change_seen out op ask y sc e o l m h = go (change_two out op ask y sc e m)
    where
      new : WorldTurn
      new = client_says (client_says sc c before (outputs.Note y)) c before (outputs.Answer op answers.Written)

      last : Observation
      last = seen.Answered c op answers.Written

      go : Two out op y sc new → Z ((out ++ outputs.Note y ∷ []) ++ outputs.Answer op answers.Written ∷ []) new
      go t =
          subst (Seen past x c ((out ++ outputs.Note y ∷ []) ++ outputs.Answer op answers.Written ∷ [])) (sym t.is)
          (record {
            owed = record {
              once = once_more past x [] (sc.seen ++ t.line ∷ []) last (once_more past x [] sc.seen t.line h.owed.once (t.once sc.seen)) (first_is out op ask sc.seen (sc.seen ++ t.line ∷ []) e o (noted c op ∙ h.own op ∙ l));
              followed = subst (λ z. all_followed z ≡ true) (sym (append_assoc sc.seen (t.line ∷ []) (last ∷ []))) (followed_more sc.seen (t.line ∷ last ∷ []) h.owed.followed (and_both _ _ t.follows refl));
              written = subst (AreWrittenLogged past x None) (sym (append_assoc sc.seen (t.line ∷ []) (last ∷ [])))
                  (written_more past x None sc.seen (t.line ∷ last ∷ []) h.owed.written (record { one = t.dull (last_line None sc.seen); rest = record { one = t.logged; rest = record {} } }));
            };
            own = λ n. answer_own n op answers.Written (sc.seen ++ t.line ∷ []) (out ++ outputs.Note y ∷ [])
                (noted c n ∙ h.own n ∙ sym (list_any-append (answers_op n) out (outputs.Note y ∷ []) ∙ quiet_more (list_any (answers_op n) out) false refl));
            others = λ d n q. answer_others d n op answers.Written (sc.seen ++ t.line ∷ []) q (noted d n ∙ h.others d n q);
          })
        where
          noted : (d : ClientId) (n : ℕ) → list_any (is_answer_to d n) (sc.seen ++ t.line ∷ []) ≡ list_any (is_answer_to d n) sc.seen
          noted d n = list_any-append (is_answer_to d n) sc.seen (t.line ∷ []) ∙ quiet_more (list_any (is_answer_to d n) sc.seen) _ (t.unanswered d n)

  pub said_seen : (out : List Output) (v : World) → Said c asked old out → Z out (client_says_all c before out (ev.quiet v))
  unfolding client_says_all all_answered_once all_followed
  said_seen _ v Nothing = record { owed = record { once = refl; followed = refl; written = record {} }; own = λ op. refl; others = λ d op q. refl }
  said_seen _ v (Other out o d s) = subst (Z (out ++ o ∷ [])) (sym (says_both c before out (o ∷ []) (ev.quiet v))) (neutral_seen out o _ d (said_seen out v s))
  said_seen _ v (Submits out z at what s) = subst (Z (out ++ outputs.Submit z at what ∷ [])) (sym (says_both c before out (outputs.Submit z at what ∷ []) (ev.quiet v))) (submit_seen out z at what _ (said_seen out v s))
  said_seen _ v (Answers out op ask a e o l w s) = subst (Z (out ++ outputs.Answer op a ∷ [])) (sym (says_both c before out (outputs.Answer op a ∷ []) (ev.quiet v))) (answer_seen out op ask a _ e o l w (said_seen out v s))
  said_seen _ v (Changes out op ask y e o l m s) =
      subst (Z ((out ++ outputs.Note y ∷ []) ++ outputs.Answer op answers.Written ∷ []))
      (sym (says_both c before (out ++ outputs.Note y ∷ []) (outputs.Answer op answers.Written ∷ []) (ev.quiet v)
      ∙ ap (λ z. client_says_all c before (outputs.Answer op answers.Written ∷ []) z) (says_both c before out (outputs.Note y ∷ []) (ev.quiet v))))
      (change_seen out op ask y _ e o l m (said_seen out v s))

  -- nothing is used of a server
  unused_one : (n : ℕ) (s : ServerId) (o : Output) (sc : WorldTurn) → length x.after.world.servers ≡ n → Unused n asked s o → list_any (uses_server past x s) sc.seen ≡ false → list_any (uses_server past x s) (client_says sc c before o).seen ≡ false
  unfolding client_says ev.sends ev.submits ev.answers_with client_notes ev.accepts ev.patches ev.loses
  unused_one n s o sc e u h = go o u
    where
      more : (z : Observation) → uses_server past x s z ≡ false → list_any (uses_server past x s) (sc.seen ++ z ∷ []) ≡ false
      more z q = list_any-append (uses_server past x s) sc.seen (z ∷ []) ∙ quiet_more (list_any (uses_server past x s) sc.seen) _ q ∙ h

      note : (y : Note) → list_any (uses_server past x s) (client_notes sc c before y).seen ≡ false
      note (notes.Accepted f p bytes) = more _ refl
      note (notes.Patched f p at bytes) = more _ refl
      note (notes.Leased a b) = more _ refl
      note (notes.Lost a b) = more _ refl
      note y = h

      elsewhere : (at : BlockAt) → (On n s at → ⊥) → same_server (world.server_of_disk x.after.world at) s ≡ false
      elsewhere at f = pick (same_server (world.server_of_disk x.after.world at) s) refl
        where
          pick : (b : Bool) → same_server (world.server_of_disk x.after.world at) s ≡ b → b ≡ false
          pick true q = absurd (f (ap (λ z. pred at.disk.0 % z + 1) (sym e) ∙ eqb-true (pred at.disk.0 % length x.after.world.servers + 1) s.0 q))
          pick false q = refl

      submitted : (z : ℕ) (at : BlockAt) (what : Command) → (On n s (block_of what) → ⊥) → (o : Option WorldClient) → list_any (uses_server past x s) (ev.submits sc c o z at what).seen ≡ false
      submitted z at what f None = h
      submitted z at what f (Some site) = more _ (elsewhere (block_of what) f)

      go : (o : Output) → Unused n asked s o → list_any (uses_server past x s) (client_says sc c before o).seen ≡ false
      go (outputs.Send m) u = more _ refl
      go (outputs.Answer op a) u = more _ u
      go (outputs.Submit z at what) u = submitted z at what u (site_of sc.world c)
      go (outputs.Note y) u = note y

  pub unused_all : (n : ℕ) (s : ServerId) (os : List Output) (sc : WorldTurn) → length x.after.world.servers ≡ n → ((o : Output) → Has o os → Unused n asked s o) → list_any (uses_server past x s) sc.seen ≡ false →
      list_any (uses_server past x s) (client_says_all c before os sc).seen ≡ false
  unfolding client_says_all
  unused_all n s [] sc e u h = h
  unused_all n s (o ∷ os) sc e u h = unused_all n s os (client_says sc c before o) e (λ p i. u p (inr i)) (unused_one n s o sc e (u o (inl refl)) h)

-- what is observed of a server's outputs is dull
dull_more : (os : List Observation) (o : Observation) → Dull o → AllDull os → AllDull (os ++ o ∷ [])
dull_more [] o d h = record { one = d; rest = record {} }
dull_more (x ∷ os) o d h = record { one = h.one; rest = dull_more os o d h.rest }

server_dull_one : (s : ServerId) (o : Output) (sc : WorldTurn) → AllDull sc.seen → AllDull (server_says sc s o).seen
unfolding server_says ev.sends ev.server_notes ev.cuts
server_dull_one s (outputs.Send m) sc h = dull_more sc.seen _ tt h
server_dull_one s (outputs.Note x) sc h = note x
  where
    note : (x : Note) → AllDull (ev.server_notes sc s x).seen
    note (notes.Suspected c t) = dull_more sc.seen _ tt h
    note (notes.Stolen c l) = dull_more sc.seen _ tt h
    note (notes.CutDone f p) = dull_more sc.seen _ tt h
    note x = h
server_dull_one s o sc h = h

pub server_dull : (s : ServerId) (os : List Output) (sc : WorldTurn) → AllDull sc.seen → AllDull (server_says_all s os sc).seen
unfolding server_says_all
server_dull s [] sc h = h
server_dull s (o ∷ os) sc h = server_dull s os (server_says sc s o) (server_dull_one s o sc h)
