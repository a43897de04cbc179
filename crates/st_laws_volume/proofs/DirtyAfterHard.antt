-- A page that is dirty after a step of a client in which a sync of its file was answered hard was changed after that answer: by the client's outputs.
use Rattle.st_lemmas.proofs.Words
use Words.{◌≡◌, ℕ, ◌⊎◌, Bool, true, false, not, ◌&&◌, ◌||◌, ◌==◌, List, [], ◌∷◌, ◌++◌, Option, Some, None, refl, sym, ap, ◌∙◌, subst, inl, inr, if◌then◌else◌}
use Words.{append_assoc, eq-eqb, eqb-true, find, is_some, list_any, map, ClientId, DirtyPage, FileId, PageNo, ServerId, Stamp, AppAnswer, Ask, Note, Output, ClientInput, Operation}
use Words.answers
use Words.asks
use Words.inputs
use Words.notes
use Words.outputs
use Words.Client as cl
use Words.ClientPages as pages
use Words.ClientPasses as cp
use Words.ClientReplies as cr
use Words.ClientState.{Association, ClientSession, ClientState, ClientTurn, Turn, at_each, at_these, client_turn, enter, leave, note, only_at, server_of, with_associations}
use Words.Keys.{put}
use Words.Lists.{Has}
use Words.Lookups.{if_true, or_right}
use Words.Tables.{and_both, and_true, found_at, none_has, some_passes}
use Words.Truth.{clash}
use Rattle.st_lemmas.proofs.Puts.{has_put}
use Rattle.st_laws_steps.specs.Client.Client as client
use Rattle.st_laws_steps.specs.Client.Client.{Change, ChangesPage, Unhard}
use Rattle.st_laws_steps.specs.Client.Inputs as taking
use Rattle.st_laws_steps.specs.Client.Inputs.{Taken}
use Rattle.st_laws_steps.specs.Client.Losses.{Fit}
use Rattle.st_laws_steps.specs.Lives.Lives.{Once, Pairwise, server_number}
use Rattle.st_laws_steps.proofs.Client.Asking.{changes_by_passes, passes_keep_or_ask}
use Rattle.st_laws_steps.proofs.Client.Only.{Goes, Only}
use Rattle.st_laws_steps.proofs.Client.Only as only
use Rattle.st_laws_steps.proofs.Client.Nexts.{change_next, changes_next}
use Rattle.st_laws_steps.proofs.Client.Passing.{AnswersRight, IsHardSync, IsPassing, KeepsOrAsks, SaysRight}
use Rattle.st_laws_steps.proofs.Client.Stepping as stepping
use Rattle.st_laws_steps.proofs.Client.Stepping.{Phased, phased}
use Rattle.st_laws_steps.proofs.Client.Taking.{taken}
use Rattle.st_laws_pages.proofs.Causes.Placed.{EachOut, Since, since_none, since_one, since_then}
use Rattle.st_laws_pages.proofs.Causes.Unhard.{unhard_kept_by_ask, unhard_kept_by_finish, unhard_kept_by_receive}
use Rattle.st_laws_pages.proofs.Lives.Among.{has_mid, has_others, has_split, numbers_kept, others_apart}
use Rattle.st_laws_volume.specs.HardFiles.{is_page_at, is_sync_at}
use Rattle.st_laws_volume.proofs.ClientAnswers.{AllHold, Holds, Keeps, KeepsLosses, SessionIn, Tells, input_taken, lost_all, passed}
use Rattle.st_laws_volume.proofs.LossShapes.{losses_unhard}

-- What outputs say of a page: a sync of its file was answered hard, and the page was not changed since.
module _ (asked : ℕ → Option Ask) where
  abbrev after_note : ServerId → ℕ → PageNo → Bool → Note → Bool
  after_note s ino p b (notes.Accepted f q bytes) = if is_page_at s ino p f q then false else b
  after_note s ino p b (notes.Patched f q at bytes) = if is_page_at s ino p f q then false else b
  after_note s ino p b n = b

  abbrev pub after_answer : ServerId → ℕ → Bool → ℕ → AppAnswer → Bool
  after_answer s ino b op answers.Hard = is_sync_at s ino (asked op) || b
  after_answer s ino b op a = b

  abbrev pub after_output : ServerId → ℕ → PageNo → Bool → Output → Bool
  after_output s ino p b (outputs.Answer op a) = after_answer s ino b op a
  after_output s ino p b (outputs.Note n) = after_note s ino p b n
  after_output s ino p b (outputs.Send m) = b
  after_output s ino p b (outputs.Submit number at what) = b

  abbrev pub after_all : ServerId → ℕ → PageNo → Bool → List Output → Bool
  after_all s ino p b [] = b
  after_all s ino p b (o ∷ os) = after_all s ino p (after_output s ino p b o) os

  pub after_last : (s : ServerId) (ino : ℕ) (p : PageNo) (b : Bool) (os : List Output) (o : Output) →
      after_all s ino p b (os ++ o ∷ []) ≡ after_output s ino p (after_all s ino p b os) o
  after_last s ino p b [] o = refl
  after_last s ino p b (x ∷ os) o = after_last s ino p (after_output s ino p b x) os o

  -- each dirty page of an association was changed after such an answer
  abbrev pub CleanOf : Association → List Output → Type 0
  CleanOf a out = (ino : ℕ) (p : PageNo) (d : DirtyPage) → pages.dirty_of a.store.pages ino p ≡ Some d → after_all a.server ino p false out ≡ false

  -- one more output that is no such answer
  pub one_more : (a : Association) (out : List Output) (o : Output) →
      ((ino : ℕ) (p : PageNo) (d : DirtyPage) → pages.dirty_of a.store.pages ino p ≡ Some d → after_output a.server ino p false o ≡ false) →
      CleanOf a out → CleanOf a (out ++ o ∷ [])
  one_more a out o g h ino p d e =
      after_last a.server ino p false out o ∙ (ap (λ b. after_output a.server ino p b o) (h ino p d e) ∙ g ino p d e)

  -- a note never is
  pub note_quiet : (s : ServerId) (ino : ℕ) (p : PageNo) (n : Note) → after_note s ino p false n ≡ false
  note_quiet s ino p (notes.Accepted f q bytes) = go (is_page_at s ino p f q)
    where
      go : (b : Bool) → (if b then false else false) ≡ false
      go true = refl
      go false = refl
  note_quiet s ino p (notes.Patched f q at bytes) = go (is_page_at s ino p f q)
    where
      go : (b : Bool) → (if b then false else false) ≡ false
      go true = refl
      go false = refl
  note_quiet s ino p n = refl

  abbrev pub AllAsked : List Operation → Type 0
  AllAsked os = (o : Operation) → Has o os → asked o.op ≡ Some o.ask

  -- a sync that is answered hard is the one that was asked
  sync_asked : (syncs : List Operation) (t : Turn) (op : ℕ) → AllAsked syncs → (q : IsHardSync syncs t op) → asked op ≡ Some (asks.Sync q.file)
  sync_asked syncs t op f q = ap asked (sym q.op_is) ∙ (f q.operation q.has ∙ ap (λ z. Some z) q.was_asked)

  -- its file has no dirty page
  pub hard_here : (syncs : List Operation) (t : Turn) (op : ℕ) → AllAsked syncs → IsHardSync syncs t op → CleanOf t.here t.out →
      CleanOf t.here (t.out ++ outputs.Answer op answers.Hard ∷ [])
  hard_here syncs t op f q h = one_more t.here t.out (outputs.Answer op answers.Hard) none h
    where
      dirty : (ino : ℕ) (p : PageNo) (d : DirtyPage) → pages.dirty_of t.here.store.pages ino p ≡ Some d → q.file.ino ≡ ino → ⊥
      dirty ino p d e same =
          let z = found_at (pages.is_dirty_of ino p) t.here.store.pages.dirty d e in
          clash q.hard
          (ap (λ b. not b && not (pages.has_write_on t.here.store.commands q.file.ino))
          (some_passes (pages.is_dirty_on q.file.ino) t.here.store.pages.dirty d z.1
          (ap (λ n. d.ino == n) same ∙ (and_true (d.ino == ino) _ z.0).0)))

      none : (ino : ℕ) (p : PageNo) (d : DirtyPage) → pages.dirty_of t.here.store.pages ino p ≡ Some d →
          after_output t.here.server ino p false (outputs.Answer op answers.Hard) ≡ false
      none ino p d e =
          ap (λ o. is_sync_at t.here.server ino o || false) (sync_asked syncs t op f q)
          ∙ go (q.file.server.0 == t.here.server.0) (q.file.ino == ino) refl
        where
          go : (x y : Bool) → (q.file.ino == ino) ≡ y → ((x && y) || false) ≡ false
          go false y i = refl
          go true false i = refl
          go true true i = absurd (dirty ino p d e (eqb-true q.file.ino ino i))

  said_here : (syncs : List Operation) (now : Stamp) (t : Turn) (o : Output) → AllAsked syncs → SaysRight syncs now t o → CleanOf t.here t.out →
      CleanOf t.here (t.out ++ o ∷ [])
  said_here syncs now t (outputs.Send m) f q h = one_more t.here t.out (outputs.Send m) (λ ino p d e. refl) h
  said_here syncs now t (outputs.Submit number at what) f q h = absurd q
  said_here syncs now t (outputs.Note n) f q h = absurd q
  said_here syncs now t (outputs.Answer op a) f q h = by a q
    where
      by : (a : AppAnswer) → AnswersRight syncs t op a → CleanOf t.here (t.out ++ outputs.Answer op a ∷ [])
      by answers.Hard z = hard_here syncs t op f z h
      by a z = one_more t.here t.out (outputs.Answer op a) (λ ino p d e. refl) h

  -- at another server
  said_other : (syncs : List Operation) (now : Stamp) (t : Turn) (o : Output) (b : Association) → (b.server.0 ≡ t.here.server.0 → ⊥) → AllAsked syncs →
      SaysRight syncs now t o → CleanOf b t.out → CleanOf b (t.out ++ o ∷ [])
  said_other syncs now t (outputs.Send m) b n f q h = one_more b t.out (outputs.Send m) (λ ino p d e. refl) h
  said_other syncs now t (outputs.Submit number at what) b n f q h = absurd q
  said_other syncs now t (outputs.Note m) b n f q h = absurd q
  said_other syncs now t (outputs.Answer op a) b n f q h = by a q
    where
      by : (a : AppAnswer) → AnswersRight syncs t op a → CleanOf b (t.out ++ outputs.Answer op a ∷ [])
      by answers.Hard z =
          one_more b t.out (outputs.Answer op answers.Hard)
          (λ ino p d e. ap (λ o. is_sync_at b.server ino o || false) (sync_asked syncs t op f z)
          ∙ go (z.file.server.0 == b.server.0) refl (z.file.ino == ino)) h
        where
          go : (x : Bool) → (z.file.server.0 == b.server.0) ≡ x → (y : Bool) → ((x && y) || false) ≡ false
          go false i y = refl
          go true i y = absurd (n (sym (eqb-true z.file.server.0 b.server.0 i) ∙ ap (λ (s : ServerId). s.0) z.own))
      by a z = one_more b t.out (outputs.Answer op a) (λ ino p d e. refl) h

  -- A page that was just changed.
  find_there : (test : DirtyPage → Bool) (xs : List DirtyPage) (x : DirtyPage) → Has x xs → test x ≡ true → (y : DirtyPage) × (find test xs ≡ Some y)
  find_there test xs x i e = go (find test xs) refl
    where
      go : (o : Option DirtyPage) → find test xs ≡ o → (y : DirtyPage) × (find test xs ≡ Some y)
      go (Some y) q = (y, q)
      go None q = clash e (none_has test xs q x i)

  pub written_clean : (t : Turn) (f : FileId) (p : PageNo) (bytes : List ℕ) (n : Note) → f.server ≡ t.here.server → ChangesPage f p n → CleanOf t.here t.out →
      CleanOf (cp.with_pages_changed (pages.written t.here.store.pages f.ino p bytes) f.ino p (note t n)).here (t.out ++ outputs.Note n ∷ [])
  unfolding pages.written
  written_clean t f p bytes n own x h ino q d e =
      after_last t.here.server ino q false t.out (outputs.Note n) ∙ go (is_page_at t.here.server ino q f p) refl
    where
      before : Bool
      before = after_all t.here.server ino q false t.out

      -- of this page
      resets : (m : Note) → ChangesPage f p m → is_page_at t.here.server ino q f p ≡ true → after_note t.here.server ino q before m ≡ false
      resets (notes.Accepted g r bytes) y i =
          if_true (is_page_at t.here.server ino q g r) false before
          (ap (λ z. is_page_at t.here.server ino q z r) (sym y.0) ∙ (ap (is_page_at t.here.server ino q f) (sym y.1) ∙ i))
      resets (notes.Patched g r at bytes) y i =
          if_true (is_page_at t.here.server ino q g r) false before
          (ap (λ z. is_page_at t.here.server ino q z r) (sym y.0) ∙ (ap (is_page_at t.here.server ino q f) (sym y.1) ∙ i))
      resets m y i = absurd y

      -- of another page
      found : (pages.is_dirty_of ino q d ≡ true) × Has d
          (put (pages.is_dirty_of f.ino p) (pages.new_dirty t.here.store.pages f.ino p bytes) t.here.store.pages.dirty)
      found =
          found_at (pages.is_dirty_of ino q) (put (pages.is_dirty_of f.ino p) (pages.new_dirty t.here.store.pages f.ino p bytes) t.here.store.pages.dirty) d e

      stays : is_page_at t.here.server ino q f p ≡ false → before ≡ false
      stays i = by (has_put (pages.is_dirty_of f.ino p) (pages.new_dirty t.here.store.pages f.ino p bytes) t.here.store.pages.dirty d found.1)
        where
          by : (d ≡ pages.new_dirty t.here.store.pages f.ino p bytes) ⊎ Has d t.here.store.pages.dirty → before ≡ false
          by (inr j) = let z = find_there (pages.is_dirty_of ino q) t.here.store.pages.dirty d j found.0 in h ino q z.0 z.1
          by (inl j) =
              let z = and_true (f.ino == ino) (p.0 == q.0) (ap (pages.is_dirty_of ino q) (sym j) ∙ found.0) in
              clash
              (and_both ((f.server.0 == t.here.server.0) && (f.ino == ino)) (p.0 == q.0)
              (and_both (f.server.0 == t.here.server.0) (f.ino == ino) (eq-eqb f.server.0 t.here.server.0 (ap (λ (s : ServerId). s.0) own)) z.0) z.1)
              i

      go : (b : Bool) → is_page_at t.here.server ino q f p ≡ b → after_note t.here.server ino q before n ≡ false
      go true i = resets n x i
      go false i = ap (λ b. after_note t.here.server ino q b n) (stays i) ∙ note_quiet t.here.server ino q n

  -- One change of a pass.
  change_here : (syncs : List Operation) (now : Stamp) → AllAsked syncs → (t u : Turn) (ch : Change now t u) → IsPassing syncs KeepsOrAsks now t u ch →
      CleanOf t.here t.out → CleanOf u.here u.out
  unfolding cp.submit_read cp.submit_write cp.submit_command pages.forget_from pages.drop_from
  change_here syncs now f t _ (client.Says _ o p) q h = said_here syncs now t o f q h
  change_here syncs now f t _ (client.Operates _ os) q h = h
  change_here syncs now f t _ (client.Answers _ os ops a) q h = absurd q
  change_here syncs now f t _ (client.Greets _ g) q h = h
  change_here syncs now f t _ (client.TellsLost _ lost) q h = absurd q
  change_here syncs now f t _ (client.Begins _ s a b x) q h = absurd q
  change_here syncs now f t _ (client.Follows _ s v e g) q h = h
  change_here syncs now f t _ (client.Learns _ e a b) q h = absurd q
  change_here syncs now f t _ (client.Forgets _ ino p i) q h = h
  change_here syncs now f t _ (client.Caches _ clean) q h = h
  change_here syncs now f t _ (client.Writes _ s g p bytes n se sv own m x) q h = written_clean t g p bytes n own x h
  change_here syncs now f t _ (client.Reads _ ino p m i clean) q h = one_more t.here t.out _ (λ ino p d e. refl) h
  change_here syncs now f t _ (client.Submits _ s ino p d m se e i w) q h = one_more t.here t.out _ (λ ino p d e. refl) h

  change_other : (syncs : List Operation) (now : Stamp) (b : Association) → AllAsked syncs → (t u : Turn) (ch : Change now t u) →
      IsPassing syncs KeepsOrAsks now t u ch → (b.server.0 ≡ t.here.server.0 → ⊥) → CleanOf b t.out → CleanOf b u.out
  unfolding cp.submit_read cp.submit_write cp.submit_command
  change_other syncs now b f t _ (client.Says _ o p) q n h = said_other syncs now t o b n f q h
  change_other syncs now b f t _ (client.Operates _ os) q n h = h
  change_other syncs now b f t _ (client.Answers _ os ops a) q n h = absurd q
  change_other syncs now b f t _ (client.Greets _ g) q n h = h
  change_other syncs now b f t _ (client.TellsLost _ lost) q n h = absurd q
  change_other syncs now b f t _ (client.Begins _ s a c x) q n h = absurd q
  change_other syncs now b f t _ (client.Follows _ s v e g) q n h = h
  change_other syncs now b f t _ (client.Learns _ e a c) q n h = absurd q
  change_other syncs now b f t _ (client.Forgets _ ino p i) q n h = h
  change_other syncs now b f t _ (client.Caches _ clean) q n h = h
  change_other syncs now b f t _ (client.Writes _ s g p bytes m se sv own k x) q n h =
      one_more b t.out (outputs.Note m) (λ ino p d e. note_quiet b.server ino p m) h
  change_other syncs now b f t _ (client.Reads _ ino p m i clean) q n h = one_more b t.out _ (λ ino p d e. refl) h
  change_other syncs now b f t _ (client.Submits _ s ino p d m se e i w) q n h = one_more b t.out _ (λ ino p d e. refl) h

  passes_here : (syncs : List Operation) (now : Stamp) → AllAsked syncs → (t v : Turn) → Only (IsPassing syncs KeepsOrAsks) now t v → CleanOf t.here t.out →
      CleanOf v.here v.out
  passes_here syncs now f t _ (only.Ends _) h = h
  passes_here syncs now f t v (Goes _ u _ ch q rest) h = passes_here syncs now f u v rest (change_here syncs now f t u ch q h)

  pub passes_other : (syncs : List Operation) (now : Stamp) (b : Association) → AllAsked syncs → (t v : Turn) → Only (IsPassing syncs KeepsOrAsks) now t v →
      (b.server.0 ≡ t.here.server.0 → ⊥) → CleanOf b t.out → CleanOf b v.out
  passes_other syncs now b f t _ (only.Ends _) n h = h
  passes_other syncs now b f t v (Goes _ u _ ch q rest) n h =
      passes_other syncs now b f u v rest (λ e. n (e ∙ sym (ap (λ (s : ServerId). s.0) (change_next now t u ch).server)))
      (change_other syncs now b f t u ch q n h)

  -- Each server in turn.
  module _ (now : Stamp) where
    abbrev Known : ℕ → Ask → Type 0
    Known op ask = asked op ≡ Some ask

    abbrev Free : ℕ → Type 0
    Free op = Unit {0}

    abbrev AnyCut : Ask → Type 0
    AnyCut a = Unit {0}

    abbrev AnyEpoch : ServerId → ℕ → Type 0
    AnyEpoch v n = Unit {0}

    abbrev Any : Association → Type 0
    Any a = Unit {0}

    abbrev Always : List Output → Type 0
    Always out = Unit {0}

    in_losses : KeepsLosses Known Free AnyCut (λ a e. tt) AnyEpoch Any Always now
    in_losses =
        record {
          silent = λ out o e h. tt;
          plain = λ out op a e h. tt;
          uncertain = λ out v o n k a d f h. tt;
          quiesced = λ out o k u h. tt;
        }

    keeps : (input : ClientInput) (lost : ClientTurn) → Keeps Known Free AnyCut (λ a e. tt) AnyEpoch Any Always now input lost
    keeps input lost =
        record {
          comes = λ op ask i. tt;
          silent = λ out o e h. tt;
          plain = λ out op a e h. tt;
          quiesced = λ out o k u n h. tt;
          newer = λ out v o n m k a d f g l h. tt;
          full = λ op ask i f h. tt;
          unknown = λ op ask i f h. tt;
          refused = λ out v z q m o w a b answer i y r e k u h. tt;
          failed = λ out v number x o i y z k u h. tt;
        }

    any_session : (a : Association) → SessionIn AnyEpoch a.server a.session
    any_session a = go a.session
      where
        go : (o : Option ClientSession) → SessionIn AnyEpoch a.server o
        go None = tt
        go (Some v) = tt

    record AllClean (t : ClientTurn) (al : List Association) : Type 0 where
      known : AllAsked t.state.operations
      once : Once (map server_number al)
      clean : (b : Association) → Has b al → CleanOf b t.out

    pub passes_known : (tick : Bool) (t : Turn) → AllAsked t.operations → AllAsked (cp.passes now tick t).operations
    passes_known tick t f =
        let z : Holds Known Free AnyCut (λ a e. tt) AnyEpoch Any Always now (cp.passes now tick t) =
        passed Known Free AnyCut (λ a e. tt) AnyEpoch Any Always now inputs.Tick (client_turn_of t) (keeps inputs.Tick (client_turn_of t)) tick t
        (record { kept = tt; operations = λ o i. (f o i, record { sent = λ e. tt; unsent = λ e. tt }); session = any_session t.here }) in
        λ o i. (z.operations o i).0
      where
        client_turn_of : Turn → ClientTurn
        client_turn_of t =
            client_turn
            (record { id = t.id; config = t.config; associations = []; operations = t.operations; next_command = t.next_command }) t.out

    none_more : (al : List Association) → al ++ [] ≡ al
    none_more [] = refl
    none_more (x ∷ al) = ap (λ z. x ∷ z) (none_more al)

    these_clean : (tick : Bool) (al : List Association) (t : ClientTurn) → AllClean t (t.state.associations ++ al) →
        (b : Association) → Has b (at_these (cp.passes now tick) al t).state.associations → CleanOf b (at_these (cp.passes now tick) al t).out
    unfolding at_these
    these_clean tick [] t h b i = h.clean b (subst (Has b) (sym (none_more t.state.associations)) i)
    these_clean tick (a ∷ rest) t h b i =
        these_clean tick rest (leave t u)
        (record {
          known = passes_known tick (enter t a) h.known;
          once = subst Once (sym (numbers_kept t.state.associations rest a u.here (sym server))) h.once;
          clean = λ y j. each y (has_split t.state.associations rest u.here y j);
        }) b i
      where
        u : Turn
        u = cp.passes now tick (enter t a)

        c : Only (IsPassing t.state.operations KeepsOrAsks) now (enter t a) u
        c = passes_keep_or_ask now tick (enter t a)

        server : a.server ≡ u.here.server
        server = (changes_next now (enter t a) u (changes_by_passes now tick (enter t a))).server

        each : (y : Association) → Has y (t.state.associations ++ rest) ⊎ (y ≡ u.here) → CleanOf y u.out
        each y (inl j) =
            passes_other t.state.operations now y h.known (enter t a) u c (others_apart t.state.associations rest a h.once y j)
            (h.clean y (has_others t.state.associations rest a y j))
        each y (inr e) =
            subst (λ z. CleanOf z u.out) (sym e)
            (passes_here t.state.operations now h.known (enter t a) u c (h.clean a (has_mid t.state.associations rest a)))

    -- What comes before the passes answers no sync hard.
    unhard_clean : (s : ServerId) (ino : ℕ) (p : PageNo) (os : List Output) → EachOut Unhard os → after_all s ino p false os ≡ false
    unhard_clean s ino p [] u = refl
    unhard_clean s ino p (o ∷ os) u =
        ap (λ b. after_all s ino p b os) (one o u.one) ∙ unhard_clean s ino p os u.rest
      where
        answer : (op : ℕ) (a : AppAnswer) → Unhard (outputs.Answer op a) → after_answer s ino false op a ≡ false
        answer op answers.Hard v = absurd v
        answer op a v = refl

        one : (o : Output) → Unhard o → after_output s ino p false o ≡ false
        one (outputs.Answer op a) v = answer op a v
        one (outputs.Note n) v = note_quiet s ino p n
        one (outputs.Send m) v = refl
        one (outputs.Submit number at what) v = refl

    each_unhard : (rule : Turn → Turn) → ((t : Turn) → Fit t.here → Since Unhard t.out (rule t).out) → (al : List Association) (t : ClientTurn) →
        ((b : Association) → Has b al → Fit b) → Since Unhard t.out (at_these rule al t).out
    unfolding at_these
    each_unhard rule one [] t f = since_none Unhard t.out
    each_unhard rule one (a ∷ al) t f =
        since_then Unhard t.out (rule (enter t a)).out (at_these rule al (leave t (rule (enter t a)))).out (one (enter t a) (f a (inl refl)))
        (each_unhard rule one al (leave t (rule (enter t a))) (λ b i. f b (inr i)))

    input_unhard : (input : ClientInput) (t u : ClientTurn) → Taken t now input u → ((a : Association) → Has a t.state.associations → Fit a) →
        Since Unhard t.out u.out
    unfolding at_each
    input_unhard _ t _ (taking.Nothing i) f = since_none Unhard t.out
    input_unhard _ t _ (taking.Full op ask e) f = since_one Unhard t.out _ tt
    input_unhard _ t _ (taking.Unknown op ask e g) f = since_one Unhard t.out _ tt
    input_unhard _ t _ (taking.Takes op ask e g) f =
        each_unhard (only_at (server_of ask) (cl.take_ask op ask)) (λ u p. unhard_kept_by_ask (server_of ask) op ask u) t.state.associations
        (with_associations [] t) f
    input_unhard _ t _ (taking.Receives m e) f =
        each_unhard (cr.receive_at now m.header m.body) (λ u p. unhard_kept_by_receive now m.header m.body u p.fresh) t.state.associations
        (with_associations [] t) f
    input_unhard _ t _ (taking.Finishes number result) f =
        each_unhard (cl.finish number result) (λ u p. unhard_kept_by_finish number result u) t.state.associations (with_associations [] t) f

    servers_same : (R : Association → Association → Type 0) → ((a b : Association) → R a b → a.server ≡ b.server) → (xs ys : List Association) →
        Pairwise R xs ys → map server_number xs ≡ map server_number ys
    servers_same R s [] [] h = refl
    servers_same R s [] (y ∷ ys) h = absurd h
    servers_same R s (x ∷ xs) [] h = absurd h
    servers_same R s (x ∷ xs) (y ∷ ys) h =
        ap (λ (z : ServerId). z.0 ∷ map server_number xs) (s x y h.one) ∙ ap (λ ns. server_number y ∷ ns) (servers_same R s xs ys h.rest)

    -- The whole step.
    module _ (c : ClientId) (s : ClientState) (input : ClientInput) (fit : (a : Association) → Has a s.associations → Fit a)
        (once : Once (map server_number s.associations)) (known : AllAsked s.operations) (tells : Tells Known AnyEpoch input) where
      abbrev pub lost : ClientTurn
      lost = cl.losses (client_turn s []) now

      abbrev pub told : ClientTurn
      told = cl.take_input lost now input

      p : Phased c s now lost told (cl.work told now input)
      p = phased c s now input fit

      out_unhard : Since Unhard [] told.out
      out_unhard =
          since_then Unhard [] lost.out told.out (record { more = lost.out; out = refl; each = losses_unhard now s })
          (input_unhard input lost told (taken lost now input) p.fit)

      pub told_known : AllAsked told.state.operations
      told_known =
          let z =
          lost_all Known Free AnyCut (λ a e. tt) AnyEpoch Any Always now in_losses (λ a. tt) s
          (record {
            kept = tt;
            operations = λ o i. (known o i, record { sent = λ e. tt; unsent = λ e. tt });
            each = λ a i. (any_session a, tt);
          }) in
          let y =
          input_taken Known Free AnyCut (λ a e. tt) AnyEpoch Any Always now input lost (keeps input lost) input refl tells
          (record { kept = tt; operations = z.operations; each = z.each }) in
          λ o i. (y.operations o i).0

      pub told_once : Once (map server_number told.state.associations)
      told_once =
          subst Once
          (servers_same (stepping.LostOrNot s.config now) (λ a b r. r.server) s.associations lost.state.associations p.lost.pairs
          ∙ servers_same (stepping.Goes lost.state.config now) (λ a b r. r.server) lost.state.associations told.state.associations p.received.pairs)
          once

      pub told_clean : (b : Association) → Has b told.state.associations → CleanOf b told.out
      told_clean b i ino q d e =
          subst (λ os. after_all b.server ino q false os ≡ false) (sym out_unhard.out) (unhard_clean b.server ino q out_unhard.more out_unhard.each)

      pub step_clean : (b : Association) → Has b (cl.client_step s now input).state.associations → CleanOf b (cl.client_step s now input).out
      unfolding cl.client_step cl.work at_each
      step_clean b i =
          these_clean (cl.is_tick input) told.state.associations (with_associations [] told)
          (record {
            known = told_known;
            once = told_once;
            clean = told_clean;
          }) b i
