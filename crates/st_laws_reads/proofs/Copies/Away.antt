-- What the pass of the operations at one server leaves of the others: only entries of its own files join the log.
use Rattle.st_lemmas.proofs.Words
use Words.{◌≡◌, ℕ, Bool, true, false, ◌&&◌, List, [], ◌∷◌, ◌++◌, ◌==◌, Option, Some, None, Ok, Err, refl, sym, ap, ◌∙◌, subst, if◌then◌else◌, append_assoc}
use Words.{Result, eqb-true, ClientId, ServerId, Life, FileId, PageNo, Stamp, Ask, AppAnswer, Note, Output, KnownExtent, MappedBlock, WriteRefusal, Operation}
use Words.{LogEntry, append-nil}
use Words.Page.{filled}
use Words.modes
use Words.asks
use Words.answers
use Words.notes
use Words.outputs
use Words.changes
use Words.Keys.{same_server}
use Words.FlatLog as log
use Words.FlatLog.{content, after, is_of_life}
use Words.ClientPages as pages
use Words.ClientPages.{Store}
use Words.ClientState as st
use Words.ClientState.{ClientSession, Turn, is_of, is_open_file, file_of, server_of, keep}
use Words.ClientPasses as cp
use Words.Lookups.{if_false}
use Words.Truth.{not_both}
use Rattle.st_laws_refine.specs.Client.World.{logged, logged_note}
use Rattle.st_laws_reads.specs.Copies.Copies.{FatesOk, AllOf, Joined, Away, AwayOf, Keeps}
use Rattle.st_lemmas.proofs.Contents.{content_last}
use Rattle.st_laws_reads.proofs.Copies.Logs.{logged_both, still, away_then, away_out, away_entry}
use Rattle.st_laws_reads.proofs.Copies.Copies.{operations_keep}

content_apart : (l : List LogEntry) (e : LogEntry) (f : FileId) (p : PageNo) → same_server e.of.file.server f.server ≡ false → content (l ++ e ∷ []) f p ≡ content l f p
unfolding content after
content_apart l e f p h =
    content_last (filled 0) f p l e ∙ if_false (log.matters f p e) _ _ (ap (λ b. ((b && (e.of.file.ino == f.ino)) && log.reaches e.change e.of.page p) && log.counts e.fate) h)

fates_apart : (c : ClientId) (life : Life) (x : ServerId) (y : Store) (l : List LogEntry) (e : LogEntry) → same_server e.of.file.server x ≡ false → FatesOk c life x y l → FatesOk c life x y (l ++ e ∷ [])
fates_apart c life x y [] e h r = record { one = λ q. absurd (not_both (is_of_life c x life e.of) q (never (log.is_of_client c e.of) h)); rest = record {} }
  where
    never : (a : Bool) → same_server e.of.file.server x ≡ false → (a && (same_server e.of.file.server x && (e.of.life.0 == life.0))) ≡ false
    never true h = ap (λ b. b && (e.of.life.0 == life.0)) h
    never false h = refl
fates_apart c life x y (z ∷ l) e h r = record { one = r.one; rest = fates_apart c life x y l e h r.rest }

-- what isn't of this server holds in a log that goes on by its entries
content_joins : (sv : ServerId) (l more : List LogEntry) (f : FileId) (p : PageNo) → AllOf sv more → same_server sv f.server ≡ false → content (l ++ more) f p ≡ content l f p
content_joins sv l [] f p a h = ap (λ x. content x f p) (append-nil l)
content_joins sv l (e ∷ more) f p a h =
    ap (λ x. content x f p) (sym (append_assoc l (e ∷ []) more)) ∙ content_joins sv (l ++ e ∷ []) more f p a.rest h ∙ content_apart l e f p (ap (λ s. same_server s f.server) a.one ∙ h)

pub joined_content : (sv : ServerId) (l m : List LogEntry) (f : FileId) (p : PageNo) → Joined sv l m → same_server sv f.server ≡ false → content m f p ≡ content l f p
joined_content sv l m f p j h = ap (λ x. content x f p) j.is ∙ content_joins sv l j.more f p j.own h

fates_join : (c : ClientId) (life : Life) (x : ServerId) (y : Store) (sv : ServerId) (l more : List LogEntry) → AllOf sv more → same_server sv x ≡ false → FatesOk c life x y l → FatesOk c life x y (l ++ more)
fates_join c life x y sv l [] a h r = subst (λ m. FatesOk c life x y m) (sym (append-nil l)) r
fates_join c life x y sv l (e ∷ more) a h r =
    subst (λ m. FatesOk c life x y m) (append_assoc l (e ∷ []) more)
    (fates_join c life x y sv (l ++ e ∷ []) more a.rest h (fates_apart c life x y l e (ap (λ s. same_server s x) a.one ∙ h) r))

pub joined_fates : (c : ClientId) (life : Life) (x : ServerId) (y : Store) (sv : ServerId) (l m : List LogEntry) → Joined sv l m → same_server sv x ≡ false → FatesOk c life x y l → FatesOk c life x y m
joined_fates c life x y sv l m j h r = subst (λ z. FatesOk c life x y z) (sym j.is) (fates_join c life x y sv l j.more j.own h r)

-- the pass of the operations, at one server
module _ (c : ClientId) (lives : ServerId → Life) (es : List LogEntry) where
  away_same : (t : Turn) → AwayOf c lives es t t
  away_same t = still t.here.server t.here.life (logged c lives t.out es)

  away_if : (t : Turn) (b : Bool) (u v : Turn) → (b ≡ true → AwayOf c lives es t u) → (b ≡ false → AwayOf c lives es t v) → AwayOf c lives es t (if b then u else v)
  away_if t true u v p q = p refl
  away_if t false u v p q = q refl

  away_next : (t u v : Turn) → AwayOf c lives es t u → AwayOf c lives es u v → AwayOf c lives es t v
  away_next t u v p q = away_then _ _ _ _ _ _ _ _ _ p q

  away_says : (t : Turn) (ps : List Output) → ((x : List LogEntry) → logged c lives ps x ≡ x) → Away t.here.server t.here.server t.here.life t.here.life (logged c lives t.out es) (logged c lives (t.out ++ ps) es)
  away_says t ps q = away_out c lives es t.here.server t.here.life t.out ps q

  away_answer : (t : Turn) (o : Operation) (a : AppAnswer) → AwayOf c lives es t (cp.answer o a t)
  away_answer t o a = away_says t _ (λ x. refl)

  away_note : (t : Turn) (n : Note) (e : LogEntry) → logged_note c lives n (logged c lives t.out es) ≡ logged c lives t.out es ++ e ∷ [] → e.of.file.server ≡ t.here.server → AwayOf c lives es t (st.note t n)
  away_note t n e joins sv = away_entry t.here.server t.here.life (logged c lives t.out es) _ e (logged_both c lives t.out (outputs.Note n ∷ []) es ∙ joins) sv

  away_change : (t : Turn) (o : Operation) (f : FileId) (p : PageNo) (bytes : List ℕ) (n : Note) (e : LogEntry) → logged_note c lives n (logged c lives t.out es) ≡ logged c lives t.out es ++ e ∷ [] → e.of.file.server ≡ t.here.server → AwayOf c lives es t (cp.change_page t o f p bytes n)
  unfolding cp.change_page cp.change_by cp.change
  away_change t o f p bytes n e joins sv = go (pages.write t.here.store.pages f.ino p bytes)
    where
      go : (r : Result pages.Pages WriteRefusal) → AwayOf c lives es t (cp.change_by t o f p n r)
      go (Ok ps) = away_next t (st.note t n) (cp.answer o answers.Written (cp.with_pages_changed ps f.ino p (st.note t n))) (away_note t n e joins sv) (away_answer (cp.with_pages_changed ps f.ino p (st.note t n)) o answers.Written)
      go (Err r) = away_answer t o answers.DirtyFull

  away_fetch : (t : Turn) (o : Operation) (f : FileId) (p : PageNo) → AwayOf c lives es t (cp.fetch t o f p)
  unfolding cp.fetch cp.fetch_at cp.fetch_mapped cp.submit_read cp.submit_command
  away_fetch t o f p = go (pages.mapping_of t.here.store.extents f.ino p)
    where
      mapped : (m : MappedBlock) (b : Bool) → AwayOf c lives es t (keep o (if b then t else cp.submit_read t f.ino p m))
      mapped m true = away_same t
      mapped m false = away_says t _ (λ x. refl)

      go : (m : Option MappedBlock) → AwayOf c lives es t (keep o (cp.fetch_at t f p m))
      go None = away_same t
      go (Some m) = mapped m (pages.is_being_read t.here.store.commands f.ino p)

  away_read : (t : Turn) (o : Operation) (f : FileId) (p : PageNo) (q : Option (List ℕ)) → AwayOf c lives es t (cp.read_at t o f p q)
  unfolding cp.read_at cp.read_cached cp.read_uncached cp.read_known
  away_read t o f p (Some bytes) = away_says t _ (λ x. refl)
  away_read t o f p None = known (pages.known_of t.here.store.extents f.ino p)
    where
      mapped : (x : KnownExtent) (m : Option MappedBlock) → AwayOf c lives es t (cp.read_known t o f p x m)
      mapped x None = away_answer t o _
      mapped x (Some m) = away_fetch t o f p

      known : (x : Option KnownExtent) → AwayOf c lives es t (cp.read_uncached t o f p x)
      known None = away_same t
      known (Some x) = mapped x x.mapping

  away_keep : (t : Turn) (o : Operation) → AwayOf c lives es t (keep o t)
  away_keep t o = away_same t

  away_open : (t : Turn) (s : ClientSession) (o : Operation) (a : Ask) → server_of a ≡ t.here.server → AwayOf c lives es t (cp.serve_open t s o a)
  unfolding cp.serve_open cp.write cp.patch cp.patch_at cp.patch_bytes cp.read log.accept log.patch
  away_open t s o (asks.Write f p bytes) sv = away_if t (cp.may_write t s f p) _ _ (λ h. away_change t o f p bytes (notes.Accepted f p bytes) (log.pending (log.owner c (lives f.server) f p) (changes.Write bytes)) refl sv) (λ h. away_keep t o)
  away_open t s o (asks.Patch f p at bytes) sv = away_if t (cp.may_write t s f p) _ _ (λ h. go (pages.cached t.here.store.pages f.ino p)) (λ h. away_keep t o)
    where
      go : (q : Option (List ℕ)) → AwayOf c lives es t (cp.patch_at t o f p at bytes q)
      go None = away_fetch t o f p
      go (Some old) = away_change t o f p _ (notes.Patched f p at bytes) (log.pending (log.owner c (lives f.server) f p) (changes.Patch at bytes)) refl sv
  away_open t s o (asks.Read f p) sv = away_if t (cp.holds s modes.S f) _ _ (λ h. away_read t o f p (pages.cached t.here.store.pages f.ino p)) (λ h. away_keep t o)
  away_open t s o a sv = away_keep t o

  away_on : (t : Turn) (n : Stamp) (o : Operation) (all : List Operation) (a : Ask) → o.ask ≡ a → server_of o.ask ≡ t.here.server → AwayOf c lives es t (cp.operate_on all t n o a)
  unfolding cp.operate_on cp.sync cp.operate_by cp.operate_under cp.serve cp.quiesce
  away_on t n o all (asks.Sync f) is sv = away_if t (pages.is_hard t.here.store f.ino) _ _ (λ h. away_answer t o _) (λ h. away_keep t o)
  away_on t n o all a is sv = go t.here.session
    where
      go : (q : Option ClientSession) → AwayOf c lives es t (cp.operate_by all t n o q)
      go None = away_keep t o
      go (Some s) =
          away_if t (st.is_serving t.config s n) _ _ (λ h. away_if t (is_open_file all t.here.server s (file_of o.ask)) _ _ (λ g. away_open t s o o.ask sv) (λ g. away_keep t o))
          (λ h. away_if t (st.is_sent o) _ _ (λ g. away_keep t o) (λ g. away_answer t o _))

  away_operate : (t : Turn) (n : Stamp) (o : Operation) (all : List Operation) → AwayOf c lives es t (cp.operate all t n o)
  unfolding cp.operate
  away_operate t n o all = away_if t (is_of t.here.server o) _ _ (λ h. away_on t n o all o.ask refl (ap (λ m. record { 0 = m }) (eqb-true _ _ h))) (λ h. away_keep t o)

  away_each : (n : Stamp) (all os : List Operation) (t : Turn) → AwayOf c lives es t (cp.operate_each all n os t)
  unfolding cp.operate_each
  away_each n all [] t = away_same t
  away_each n all (o ∷ os) t = let u : Turn = cp.operate all t n o in away_next t u (cp.operate_each all n os u) (away_operate t n o all) (away_each n all os u)

  pub away_operations : (n : Stamp) (t : Turn) → AwayOf c lives es t (cp.operations n t)
  unfolding cp.operations
  away_operations n t = away_each n t.operations t.operations (st.with_operations [] t)

-- the pass of the operations keeps the copies, and leaves those at other servers
pub copies_kept_by_operations : (ask_of : ℕ → Option Ask) (c : ClientId) (lives : ServerId → Life) (es : List LogEntry) (n : Stamp) (t : Turn) → Keeps ask_of c lives es t (cp.operations n t)
copies_kept_by_operations ask_of c lives es n t = record { keep = operations_keep ask_of c lives es n t; away = away_operations c lives es n t }
