-- The rules of a client keep what it asks to cut or to remove clear.
use Rattle.st_lemmas.proofs.Words
use Words.{◌≡◌, ◌⊎◌, ℕ, ◌≤◌, Bool, true, false, not, ◌==◌, List, [], ◌∷◌, Option, Some, None, refl, sym, ap, ◌∙◌, subst, inl, inr, if◌then◌else◌, eq-eqb}
use Words.{le-leb, Tag, FileId, PageNo, ServerId, Stamp, Ask, Body, Header, CleanPage, Ended, IoKind, Operation, PageCommand, Request, DirtyPage}
use Words.answers
use Words.asks
use Words.ends
use Words.io
use Words.Client as cl
use Words.ClientPages as pages
use Words.ClientPages.{Store}
use Words.ClientPasses as cp
use Words.ClientReplies as cr
use Words.ClientState.{Association, ClientSession, Requests, Turn, answer_each, asking, is_at, only_at, with_session, with_store}
use Words.Lists.{Has}
use Words.Lookups.{some_is}
use Words.Tables.{and_both, and_true, found_at, has_append, has_filter, has_map, none_passes, not_true}
use Words.Members.{has_take}
use Words.Truth.{none_not_some, not_both}
use Rattle.st_lemmas.proofs.Puts.{has_put}
use Rattle.st_laws_steps.specs.Client.Client as client
use Rattle.st_laws_steps.specs.Client.Client.{Change}
use Rattle.st_laws_steps.specs.Client.Losses.{Fit}
use Rattle.st_laws_steps.specs.Client.Session.{SessionChange, Keeps, DropsLock, IsReasserted, EndsRequest, NewEpoch, AsksNew, AsksAgain, cuts_from}
use Rattle.st_laws_steps.proofs.Client.Asking.{passes_keep_or_ask}
use Rattle.st_laws_steps.proofs.Client.Calm.{IsCalm}
use Rattle.st_laws_steps.proofs.Client.Only.{Only, Goes}
use Rattle.st_laws_steps.proofs.Client.Only as only
use Rattle.st_laws_steps.proofs.Client.Passing.{IsPassing, KeepsOrAsks, Part, Uncut}
use Rattle.st_laws_steps.proofs.Client.Replying.{calm_receive}
use Rattle.st_laws_reads.specs.AllClients.CutFiles.{Clear, Cleared, Cuts}

abbrev pub K : Turn → Turn → Type 0
K t u = Cleared t.here → Cleared u.here

clearing_kept_by_choice : (t : Turn) (b : Bool) (u v : Turn) → K t u → K t v → K t (if b then u else v)
clearing_kept_by_choice t true u v f g = f
clearing_kept_by_choice t false u v f g = g

-- Sessions.
like : (s r : ClientSession) (ino : ℕ) (p : PageNo) → r.requests.asked ≡ s.requests.asked → r.cutting ≡ s.cutting → Cuts (Some r) ino p → Cuts (Some s) ino p
like s r ino p a q c =
    let e : r ≡ c.session = some_is c.is in
    record { session = s; is = refl; request = c.request; asked = sym a ∙ ap (λ (z : ClientSession). z.requests.asked) e ∙ c.asked; from = c.from; cutting = sym q ∙ ap (λ (z : ClientSession). z.cutting) e ∙ c.cutting }

-- nothing is asked
abbrev Unasked : Association → Type 0
Unasked a = (s : ClientSession) → a.session ≡ Some s → s.requests.asked ≡ None

unasked : (a : Association) → Unasked a → Cleared a
unasked a f ino p c = absurd (none_not_some c.request (sym (f c.session c.is) ∙ c.asked))

-- Stores.
-- a page of another file becomes clean
filled_clear : (x : Store) (ino : ℕ) (p : PageNo) (f : ℕ) (q : PageNo) (bytes : List ℕ) → (f ≡ ino → ⊥) → Clear x ino p → Clear (record x { pages = pages.fill x.pages f q bytes }) ino p
unfolding pages.fill
filled_clear x ino p f q bytes n h =
    record { dirty = h.dirty; commands = h.commands; clean = λ y i. go y (has_take x.pages.most_clean (pages.clean_page f q bytes ∷ pages.without_clean f q x.pages.clean) y i); known = h.known }
  where
    go : (y : CleanPage) → Has y (pages.clean_page f q bytes ∷ pages.without_clean f q x.pages.clean) → y.ino ≡ ino → p.0 ≤ y.page.0 → ⊥
    go y (inl e) k l = n (ap (λ (z : CleanPage). z.ino) (sym e) ∙ k)
    go y (inr i) k l = h.clean y (has_filter _ x.pages.clean y i).0 k l

-- the clean pages are fewer
fewer_clean : (x : Store) (ino : ℕ) (p : PageNo) (clean : List CleanPage) → ((y : CleanPage) → Has y clean → Has y x.pages.clean) → Clear x ino p → Clear (record x { pages = record x.pages { clean = clean } }) ino p
fewer_clean x ino p clean f h = record { dirty = h.dirty; commands = h.commands; clean = λ y i. h.clean y (f y i); known = h.known }

-- a page that is hardened
hardened_clear : (x : Store) (ino : ℕ) (p : PageNo) (f : ℕ) (q : PageNo) → Clear x ino p → Clear (record x { pages = pages.harden x.pages f q }) ino p
unfolding pages.harden pages.harden_at pages.harden_page
hardened_clear x ino p f q h = at (pages.dirty_of x.pages f q) refl
  where
    newest : (d : DirtyPage) → Has d x.pages.dirty → (y : CleanPage) → Has y (pages.clean_page d.ino d.page d.bytes ∷ pages.without_clean d.ino d.page x.pages.clean) → y.ino ≡ ino → p.0 ≤ y.page.0 → ⊥
    newest d j y (inl e) k l = h.dirty d j (ap (λ (z : CleanPage). z.ino) (sym e) ∙ k)
    newest d j y (inr i) k l = h.clean y (has_filter _ x.pages.clean y i).0 k l

    at : (o : Option DirtyPage) → pages.dirty_of x.pages f q ≡ o → Clear (record x { pages = pages.harden_at x.pages o }) ino p
    at None e = h
    at (Some d) e =
        record {
          dirty = λ z i. h.dirty z (has_filter _ x.pages.dirty z i).0;
          commands = h.commands;
          clean = λ y i. newest d (found_at (pages.is_dirty_of f q) x.pages.dirty d e).1 y (has_take x.pages.most_clean (pages.clean_page d.ino d.page d.bytes ∷ pages.without_clean d.ino d.page x.pages.clean) y i);
          known = h.known;
        }

-- a page that failed
failed_clear : (x : Store) (ino : ℕ) (p : PageNo) (f : ℕ) (q : PageNo) (n : ℕ) → Clear x ino p → Clear (record x { pages = pages.fail x.pages f q n }) ino p
unfolding pages.fail pages.failed_by
failed_clear x ino p f q n h =
    record { dirty = λ z i. let m = has_map (pages.fail_of f q n) x.pages.dirty z i in λ k. h.dirty m.0 m.1 (sym (same m.0 (pages.is_dirty_of f q m.0)) ∙ ap (λ (y : DirtyPage). y.ino) (sym m.2) ∙ k); commands = h.commands; clean = h.clean; known = h.known }
  where
    same : (d : DirtyPage) (b : Bool) → (if b then pages.failed_by n d else d).ino ≡ d.ino
    same d true = refl
    same d false = refl

-- a file is forgotten from a page on
forgotten_clear : (x : Store) (ino : ℕ) (p : PageNo) (f : ℕ) (q : PageNo) → Clear x ino p → Clear (pages.forget_from x f q) ino p
unfolding pages.forget_from pages.drop_from
forgotten_clear x ino p f q h = record { dirty = h.dirty; commands = h.commands; clean = λ y i. h.clean y (has_filter _ x.pages.clean y i).0; known = λ e i. h.known e (has_filter _ x.extents e i).0 }

-- one more command, of another file
command_clear : (x : Store) (ino : ℕ) (p : PageNo) (n f : ℕ) (q : PageNo) (k : IoKind) → (f ≡ ino → ⊥) → Clear x ino p → Clear (record x { commands = pages.begin_command x.commands n f q k }) ino p
unfolding pages.begin_command
command_clear x ino p n f q k m h = record { dirty = h.dirty; commands = λ c i. go c (has_append x.commands (pages.page_command n f q k ∷ []) c i); clean = h.clean; known = h.known }
  where
    go : (c : PageCommand) → Has c x.commands ⊎ Has c (pages.page_command n f q k ∷ []) → c.ino ≡ ino → ⊥
    go c (inl i) e = h.commands c i e
    go c (inr (inl z)) e = m (ap (λ (y : PageCommand). y.ino) (sym z) ∙ e)
    go c (inr (inr z)) e = absurd z

-- a page of another file is written
written_clear : (x : Store) (ino : ℕ) (p : PageNo) (f : ℕ) (q : PageNo) (bytes : List ℕ) → (f ≡ ino → ⊥) → Clear x ino p → Clear (record x { pages = pages.written x.pages f q bytes; commands = pages.forget_read x.commands f q }) ino p
unfolding pages.written pages.forget_read
written_clear x ino p f q bytes n h =
    record {
      dirty = λ d i. go d (has_put (pages.is_dirty_of f q) (pages.new_dirty x.pages f q bytes) x.pages.dirty d i);
      commands = λ c i. h.commands c (has_filter _ x.commands c i).0;
      clean = λ y i. h.clean y (has_filter _ x.pages.clean y i).0;
      known = h.known;
    }
  where
    go : (d : DirtyPage) → (d ≡ pages.new_dirty x.pages f q bytes) ⊎ Has d x.pages.dirty → d.ino ≡ ino → ⊥
    go d (inl e) k = n (ap (λ (z : DirtyPage). z.ino) (sym e) ∙ k)
    go d (inr i) k = h.dirty d i k

-- a file that is idle is clear from the page on from which it is forgotten
idle_clear : (x : Store) (ino : ℕ) (p : PageNo) → pages.is_idle x ino ≡ true → Clear (pages.forget_from x ino p) ino p
unfolding pages.forget_from pages.drop_from
idle_clear x ino p h =
    record {
      dirty = λ d i e. not_both (d.ino == ino) (eq-eqb d.ino ino e) (none_passes (pages.is_dirty_on ino) x.pages.dirty (not_true _ z.0) d i);
      commands = λ c i e. not_both (c.ino == ino) (eq-eqb c.ino ino e) (none_passes (pages.is_command_on ino) x.commands (not_true _ z.1) c i);
      clean = λ y i e l. not_both (pages.is_clean_behind ino p y) (and_both _ _ (eq-eqb y.ino ino e) (le-leb p.0 y.page.0 l)) (not_true _ (has_filter (λ c. not (pages.is_clean_behind ino p c)) x.pages.clean y i).1);
      known = λ y i e l. not_both (pages.is_known_behind ino p y) (and_both _ _ (eq-eqb y.ino ino e) (le-leb p.0 y.page.0 l)) (not_true _ (has_filter (λ c. not (pages.is_known_behind ino p c)) x.extents y i).1);
    }
  where
    z : (not (pages.has_dirty x.pages ino) ≡ true) × (not (pages.is_outstanding x.commands ino) ≡ true)
    z = and_true (not (pages.has_dirty x.pages ino)) (not (pages.is_outstanding x.commands ino)) h

-- Changes of the session: what is cut stays what it was, is nothing, or was forgotten.
follows_clear : (a : Association) (s u : ClientSession) → SessionChange a.store s u → ((ino : ℕ) (p : PageNo) → Cuts (Some s) ino p → Clear a.store ino p) → (ino : ℕ) (p : PageNo) → Cuts (Some u) ino p → Clear a.store ino p
unfolding asking
follows_clear a s u (Keeps _ _ k) h ino p c = h ino p (like s u ino p (ap (λ (r : Requests). r.asked) k.requests) k.cutting c)
follows_clear a s _ (DropsLock _ i l) h ino p c = h ino p (like s _ ino p refl refl c)
follows_clear a s _ (IsReasserted _) h ino p c = h ino p (like s _ ino p refl refl c)
follows_clear a s _ (EndsRequest _ stamp) h ino p c = absurd (none_not_some c.request (ap (λ (z : ClientSession). z.requests.asked) (some_is c.is) ∙ c.asked))
follows_clear a s _ (NewEpoch _ epoch n) h ino p c = absurd (none_not_some c.request (ap (λ (z : ClientSession). z.requests.asked) (some_is c.is) ∙ c.asked))
follows_clear a s _ (AsksNew _ r now body cutting k f i) h ino p c =
    let n = some_is c.is in
    let q : body ≡ c.request.body = ap (λ (z : Request). z.body) (some_is (ap (λ (z : ClientSession). z.requests.asked) n ∙ c.asked)) in
    let y = f ino p (ap (λ (z : ClientSession). z.cutting) n ∙ c.cutting) (ap cuts_from q ∙ c.from) in
    subst (λ x. Clear x ino p) (sym y.is) (idle_clear y.store ino p y.idle)
follows_clear a s _ (AsksAgain _ now q e) h ino p c =
    let n = some_is c.is in
    h ino p (record { session = s; is = refl; request = q; asked = e; from = ap (λ (z : Request). cuts_from z.body) (some_is (ap (λ (z : ClientSession). z.requests.asked) n ∙ c.asked)) ∙ c.from; cutting = ap (λ (z : ClientSession). z.cutting) n ∙ c.cutting })

clearing_kept_by_follows : (t : Turn) (s u : ClientSession) → t.here.session ≡ Some s → SessionChange t.here.store s u → K t (with_session u t)
clearing_kept_by_follows t s u e c h = follows_clear t.here s u c (λ ino p k. h ino p (subst (λ o. Cuts o ino p) (sym e) k))

-- a file that is not cut differs from one that is
apart : (t : Turn) (f ino : ℕ) (p : PageNo) → Uncut t f → Cuts t.here.session ino p → f ≡ ino → ⊥
apart t f ino p u c i = u c.session c.is (c.cutting ∙ ap (λ n. Some n) (sym i))

-- Each change of a pass, and such changes.
change_passing : (syncs : List Operation) (asks : Part) (now : Stamp) (t u : Turn) (c : Change now t u) → IsPassing syncs asks now t u c → K t u
unfolding cp.submit_read cp.submit_write cp.submit_command
change_passing syncs asks now t _ (client.Says _ o p) q h = h
change_passing syncs asks now t _ (client.Operates _ os) q h = h
change_passing syncs asks now t _ (client.Answers _ os ops a) q h = absurd q
change_passing syncs asks now t _ (client.Greets _ g) q h = h
change_passing syncs asks now t _ (client.TellsLost _ lost) q h = absurd q
change_passing syncs asks now t _ (client.Begins _ s a b c) q h = absurd q
change_passing syncs asks now t _ (client.Follows _ s u e g) q h = clearing_kept_by_follows t s u e g.how h
change_passing syncs asks now t _ (client.Learns _ e a b) q h = absurd q
change_passing syncs asks now t _ (client.Forgets _ f r i) q h = λ ino p c. forgotten_clear t.here.store ino p f r (h ino p c)
change_passing syncs asks now t _ (client.Caches _ clean) q h = λ ino p c. fewer_clean t.here.store ino p clean q (h ino p c)
change_passing syncs asks now t _ (client.Writes _ s f r bytes n se sv own m x) q h = λ ino p c. written_clear t.here.store ino p f.ino r bytes (apart t f.ino ino p q c) (h ino p c)
change_passing syncs asks now t _ (client.Reads _ f r m i clean) q h = λ ino p c. command_clear t.here.store ino p t.next_command f r io.Read (apart t f ino p q c) (h ino p c)
change_passing syncs asks now t _ (client.Submits _ s f r d m se e i w) q h =
    λ ino p c. command_clear t.here.store ino p t.next_command d.ino d.page (io.Write d.version) ((h ino p c).dirty d (found_at (pages.is_dirty_of f r) t.here.store.pages.dirty d e).1) (h ino p c)

changes_passing : (syncs : List Operation) (asks : Part) (now : Stamp) (t u : Turn) → Only (IsPassing syncs asks) now t u → K t u
changes_passing syncs asks now t _ (only.Ends _) h = h
changes_passing syncs asks now t v (Goes _ u _ c q r) h = changes_passing syncs asks now u v r (change_passing syncs asks now t u c q h)

pub clearing_kept_by_passes : (now : Stamp) (tick : Bool) (t : Turn) → K t (cp.passes now tick t)
clearing_kept_by_passes now tick t = changes_passing t.operations KeepsOrAsks now t (cp.passes now tick t) (passes_keep_or_ask now tick t)

-- Each change if a message is received, and such changes.
change_received : (now : Stamp) (t u : Turn) (c : Change now t u) → IsCalm true now t u c → K t u
change_received now t _ (client.Says _ o p) q h = h
change_received now t _ (client.Operates _ os) q h = h
change_received now t _ (client.Answers _ os ops a) q h = h
change_received now t _ (client.Greets _ g) q h = h
change_received now t _ (client.TellsLost _ lost) q h = h
change_received now t _ (client.Begins _ s a b n) q h = unasked (with_session s t).here (λ r e. ap (λ (z : ClientSession). z.requests.asked) (some_is (sym e)) ∙ ap (λ (z : ClientSession). z.requests.asked) n.2)
change_received now t _ (client.Follows _ s u e g) q h = clearing_kept_by_follows t s u e g.how h
change_received now t _ (client.Learns _ e a b) q h = unasked (with_store (record t.here.store { extents = pages.with_known e t.here.store.extents }) t).here (λ s i. subst client.Unasked i a)
change_received now t _ (client.Forgets _ ino p i) q h = absurd q
change_received now t _ (client.Caches _ clean) q h = absurd (no q)
  where
    no : true ≡ false → ⊥
    no z = cc
change_received now t _ (client.Writes _ s f p bytes n se sv own m x) q h = absurd q
change_received now t _ (client.Reads _ ino p m i clean) q h = absurd q
change_received now t _ (client.Submits _ s ino p d m se e i w) q h = absurd q

changes_received : (now : Stamp) (t u : Turn) → Only (IsCalm true) now t u → K t u
changes_received now t _ (only.Ends _) h = h
changes_received now t v (Goes _ u _ c q r) h = changes_received now u v r (change_received now t u c q h)

pub clearing_kept_by_receive : (now : Stamp) (h : Header) (b : Body) (t : Turn) → Fit t.here → K t (cr.receive_at now h b t)
clearing_kept_by_receive now h b t f = changes_received now t (cr.receive_at now h b t) (calm_receive now h b t f.fresh)

-- The end of a command.
fewer_clear : (x : Store) (ino : ℕ) (p : PageNo) (n : ℕ) → Clear x ino p → Clear (record x { commands = pages.without_command n x.commands }) ino p
fewer_clear x ino p n h = record { dirty = h.dirty; commands = λ c i. h.commands c (has_filter _ x.commands c i).0; clean = h.clean; known = h.known }

pub clearing_kept_by_finish : (number : ℕ) (r : Option (Option (Tag × List ℕ))) (t : Turn) → K t (cl.finish number r t)
unfolding cl.finish cl.finish_at cl.finish_by cl.done_by cl.finish_command cl.ended_by cl.finish_as cl.failed_as cl.filled_by cl.hardened cl.mark_failed answer_each pages.end_command pages.end_at
clearing_kept_by_finish number r t = at (pages.command_of t.here.store.commands number) refl
  where
    without : (c : PageCommand) → Turn
    without c = cl.with_commands (pages.without_command c.number t.here.store.commands) t

    fewer : (c : PageCommand) → K t (without c)
    fewer c h = λ ino p q. fewer_clear t.here.store ino p c.number (h ino p q)

    filled : (c : PageCommand) → Has c t.here.store.commands → (block : Option (Tag × List ℕ)) → K t (cl.filled_by (without c) c block)
    filled c i None h = fewer c h
    filled c i (Some b) h = λ ino p q. filled_clear (without c).here.store ino p c.ino c.page _ ((h ino p q).commands c i) (fewer c h ino p q)

    marked : (c : PageCommand) (v : ℕ) (b : Bool) → K t (answer_each (cl.waits_for_write (without c) c) (answers.DiskFault c.number) (if b then cl.with_failed c (without c) else without c))
    marked c v true h = λ ino p q. failed_clear (without c).here.store ino p c.ino c.page c.number (fewer c h ino p q)
    marked c v false h = fewer c h

    failed : (c : PageCommand) (k : IoKind) → K t (cl.failed_as (without c) c k)
    failed c io.Read h = fewer c h
    failed c (io.Write v) h = marked c v (cl.is_present (without c) c v) h

    ended : (c : PageCommand) → Has c t.here.store.commands → (block : Option (Tag × List ℕ)) (e : Ended) → K t (cl.finish_as (without c) c block e)
    ended c i block ends.Unknown h = fewer c h
    ended c i block ends.Filled h = filled c i block h
    ended c i block ends.Hard h = λ ino p q. hardened_clear (without c).here.store ino p c.ino c.page (fewer c h ino p q)
    ended c i block ends.Redirty h = fewer c h
    ended c i block ends.Failed h = failed c c.kind h

    command : (c : PageCommand) → Has c t.here.store.commands → (ok : Bool) (block : Option (Tag × List ℕ)) → K t (cl.finish_command t c ok block)
    command c i ok block = by (pages.command_of t.here.store.commands c.number)
      where
        by : (o : Option PageCommand) → K t (cl.ended_by t c block (pages.end_at t.here.store.commands c.number ok (pages.version_of t.here.store.pages c.ino c.page) o))
        by None = λ h. h
        by (Some d) = ended c i block (pages.ended_as d ok (pages.version_of t.here.store.pages c.ino c.page))

    which : (c : PageCommand) → Has c t.here.store.commands → (r : Option (Option (Tag × List ℕ))) → K t (cl.finish_by t c r)
    which c i None = command c i false None
    which c i (Some block) = clearing_kept_by_choice t (cl.is_result_of c.kind block) _ t (command c i true block) (λ h. h)

    at : (o : Option PageCommand) → pages.command_of t.here.store.commands number ≡ o → K t (cl.finish_at t o r)
    at None e = λ h. h
    at (Some c) e = which c (found_at (pages.is_numbered number) t.here.store.commands c e).1 r

-- An ask, and losses.
pub clearing_kept_by_take : (s : ServerId) (op : ℕ) (ask : Ask) (t : Turn) → K t (only_at s (cl.take_ask op ask) t)
unfolding only_at cl.take_ask cl.take_by cl.take_sync cl.enqueue cl.tell_lost
clearing_kept_by_take s op ask t = clearing_kept_by_choice t (is_at s t.here) _ t (by ask) (λ h. h)
  where
    lost : (g : FileId) (b : Bool) → K t (if b then cl.tell_lost t op g.ino else cl.enqueue t op ask)
    lost g true h = h
    lost g false h = h

    by : (a : Ask) → K t (cl.take_by t op ask a)
    by (asks.Sync g) = lost g (pages.has_lost t.here.lost g.ino)
    by a = λ h. h

pub clearing_kept_by_lose : (now : Stamp) (t : Turn) → K t (cl.lose now t)
unfolding cl.lose cl.lose_by cl.lose_over cl.lose_session
clearing_kept_by_lose now t = go t.here.session
  where
    empty : (a : Association) → a.session ≡ None → Cleared a
    empty a e ino p c = absurd (none_not_some c.session (sym e ∙ c.is))

    go : (o : Option ClientSession) → K t (cl.lose_by t now o)
    go None = λ h. h
    go (Some s) = clearing_kept_by_choice t (cl.is_over t s now) _ t (λ h. empty (cl.lose_session t s).here refl) (λ h. h)
