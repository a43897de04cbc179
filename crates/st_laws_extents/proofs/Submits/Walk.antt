-- All associations of a client, through changes at one of its servers, in the world after the outputs so far: the latest entries of dirty pages, and what each
-- write that was submitted carries.
use Rattle.st_lemmas.proofs.Words
use Words.{◌≡◌, ℕ, ◌+◌, ◌%◌, ◌⊎◌, Bool, true, List, [], ◌∷◌, ◌++◌, Option, Some, None, refl, sym, ap, ◌∙◌, subst, inl, inr, length, map, pred, slice_get}
use Words.{BlockAt, Command, Tag, ClientId, FileId, PageNo, ServerId, Stamp, AppAnswer, Note, Output, Operation, LogEntry}
use Words.commands
use Words.notes
use Words.outputs
use Words.Client as cl
use Words.ClientPages as pages
use Words.ClientPasses as cp
use Words.ClientState.{Association, ClientState, ClientTurn, Turn, answer_to, enter, leave, at_these, at_each, with_associations}
use Words.Events as ev
use Words.Events.{WorldTurn, client_notes, client_says, client_says_all}
use Words.FlatLog as log
use Words.World as world
use Words.World.{World, WorldClient, life_with, server_of_disk, site_of}
use Words.Lists.{Has}
use Words.Lookups.{some_is}
use Words.Numbers.{get_last}
use Words.Members.{has_last}
use Words.Worlds.{says_both}
use Rattle.st_laws_steps.specs.Client.Client.{Change, Changes, ChangesPage, Plain, Still, Then, Says, Operates, Answers, Greets, TellsLost, Begins, Follows}
use Rattle.st_laws_steps.specs.Client.Client.{Learns, Forgets, Caches, Writes, Reads, Submits}
use Rattle.st_laws_steps.specs.Lives.Lives.{Once, server_number}
use Rattle.st_laws_steps.specs.Client.Losses.{Fit, Ends, Unknown, Passes, Hardens, Fails}
use Rattle.st_laws_pages.proofs.Flush.Adding.{Grows, After, grows_none, grows_then}
use Rattle.st_laws_pages.proofs.Flush.Growing.{Adds}
use Rattle.st_laws_pages.proofs.Flush.Keeping.{OfOthers}
use Rattle.st_laws_steps.proofs.Client.Losing.{Finished, rest_of}
use Rattle.st_laws_steps.proofs.Client.Nexts.{Next, change_next, changes_next, dirty_on}
use Rattle.st_laws_pages.specs.Causes.Invariants.{LatestOwn}
use Rattle.st_laws_pages.proofs.Causes.Latest.{change_apart as latest_elsewhere, change_latest, ends_latest}
use Rattle.st_laws_pages.proofs.Causes.Placed.{Placed}
use Rattle.st_laws_pages.proofs.Causes.Saying.{change_adds, placed_grown, site_there}
use Rattle.st_laws_pages.proofs.Writes.Joining.{placed_at}
use Rattle.st_laws_pages.proofs.Writes.Listing.{write_said}
use Rattle.st_laws_reads.proofs.OpenWrites.Growing.{grows_all}
use Rattle.st_laws_extents.specs.Submits.Submits.{EachFine, FineOne, FineSubmit, LatestLast}
use Rattle.st_laws_extents.proofs.Submits.Last.{Logs, change_apart as last_elsewhere, change_last, ends_last}
use Rattle.st_laws_pages.proofs.Lives.Among.{has_mid, has_others, has_split, numbers_kept, others_apart}

-- More outputs.
pub fine_last : (c : ClientId) (before : ClientState) (os : List Output) (o : Output) (sc : WorldTurn) → EachFine c before sc os → FineOne (After c before sc os).world c o → EachFine c before sc (os ++ o ∷ [])
unfolding client_says_all
fine_last c before [] o sc h q = record { one = q; rest = record {} }
fine_last c before (x ∷ os) o sc h q = record { one = h.one; rest = fine_last c before os o (client_says sc c before x) h.rest q }

pub fine_both : (c : ClientId) (before : ClientState) (os ps : List Output) (sc : WorldTurn) → EachFine c before sc os → EachFine c before (After c before sc os) ps → EachFine c before sc (os ++ ps)
unfolding client_says_all
fine_both c before [] ps sc h q = q
fine_both c before (x ∷ os) ps sc h q = record { one = h.one; rest = fine_both c before os ps (client_says sc c before x) h.rest q }

-- outputs that submit nothing
plain_fine : (w : World) (c : ClientId) (o : Output) → Plain o → FineOne w c o
plain_fine w c (outputs.Send m) p = tt
plain_fine w c (outputs.Submit n at what) p = absurd p
plain_fine w c (outputs.Answer op a) p = tt
plain_fine w c (outputs.Note n) p = tt

answers_fine : (c : ClientId) (before : ClientState) (a : AppAnswer) (os : List Operation) (sc : WorldTurn) → EachFine c before sc (map (answer_to a) os)
answers_fine c before a [] sc = record {}
answers_fine c before a (o ∷ os) sc = record { one = tt; rest = answers_fine c before a os (client_says sc c before (answer_to a o)) }

read_fine : (w : World) (c : ClientId) (o : Option WorldClient) (at to : BlockAt) → FineSubmit w c o at (commands.Read to)
read_fine w c None at to = tt
read_fine w c (Some site) at to = tt

same_change : (es : List LogEntry) (x y : LogEntry) (gs : List LogEntry) → gs ≡ es ++ x ∷ [] → gs ≡ es ++ y ∷ [] → x.change ≡ y.change
same_change es x y gs a b = ap (λ (e : LogEntry). e.change) (some_is (sym (get_last es x) ∙ ap (λ z. slice_get z (length es)) (sym a ∙ b) ∙ get_last es y))

-- In the world after the outputs.
module _ (size : ℕ) (c : ClientId) (before : ClientState) (sc : WorldTurn) (site : WorldClient) (there : site_of sc.world c ≡ Some site) (count : length sc.world.servers ≡ size) (now : Stamp) where
  abbrev pub es : List Output → List LogEntry
  es os = (After c before sc os).world.log

  -- what holds of an association
  pub record PageFine (ls : List LogEntry) (a : Association) : Type 0 where
    pub latest : LatestOwn c ls a
    pub last : LatestLast c ls a

  -- what holds in the middle of a step
  pub record In (t : Turn) (others : List Association) : Type 0 where
    pub here : PageFine (es t.out) t.here
    pub apart : (b : Association) → Has b others → PageFine (es t.out) b
    pub said : EachFine c before sc t.out

  abbrev pub RightLife : Association → Type 0
  RightLife a = life_with site.node.state a.server ≡ a.life

  right_next : (a b : Association) → a.server ≡ b.server → a.life ≡ b.life → RightLife a → RightLife b
  right_next a b s l h = ap (life_with site.node.state) (sym s) ∙ h ∙ l

  others_next : (s t : ServerId) (others : List Association) → s ≡ t → OfOthers s others → OfOthers t others
  others_next s t others e h b i z = h b i (z ∙ ap (λ (x : ServerId). x.0) (sym e))

  -- the log after one more output
  log_one : (os : List Output) (o : Output) → es (os ++ o ∷ []) ≡ (client_says (After c before sc os) c before o).world.log
  unfolding client_says_all
  log_one os o = ap (λ (s : WorldTurn). s.world.log) (says_both c before os (o ∷ []) sc)

  -- a page is changed by a write or a patch
  entry_kind : (t : Turn) (f : FileId) (p : PageNo) (n : Note) → ChangesPage f p n → (z : LogEntry) → es (t.out ++ outputs.Note n ∷ []) ≡ es t.out ++ z ∷ [] → ev.changes_page z.change ≡ true
  unfolding client_says client_notes ev.accepts ev.patches log.accept log.patch
  entry_kind t f p (notes.Accepted g q bytes) h z e =
      ap ev.changes_page (same_change (es t.out) z _ (es (t.out ++ outputs.Note (notes.Accepted g q bytes) ∷ [])) e (log_one t.out (outputs.Note (notes.Accepted g q bytes))))
  entry_kind t f p (notes.Patched g q at bytes) h z e =
      ap ev.changes_page (same_change (es t.out) z _ (es (t.out ++ outputs.Note (notes.Patched g q at bytes) ∷ [])) e (log_one t.out (outputs.Note (notes.Patched g q at bytes))))
  entry_kind t f p n h z e = absurd h

  logs : (t u : Turn) (ch : Change now t u) → Adds c now t u ch (After c before sc t.out).world.commands (After c before sc u.out).world.commands (es t.out) (es u.out) → Logs c now t u ch (es t.out) (es u.out)
  unfolding cp.submit_read cp.submit_write cp.submit_command
  logs t _ (Says _ o p) z = z.log
  logs t _ (Operates _ os) z = z.log
  logs t _ (Answers _ os ops a) z = z.log
  logs t _ (Greets _ g) z = z.log
  logs t _ (TellsLost _ lost) z = z.log
  logs t _ (Begins _ s e b n) z = z.log
  logs t _ (Follows _ s v e g) z = z.log
  logs t _ (Learns _ e v n) z = z.log
  logs t _ (Forgets _ ino p i) z = z.log
  logs t _ (Caches _ clean) z = z.log
  logs t _ (Writes _ s f p bytes n e sv own m x) z = record { change = z.change; kind = entry_kind t f p n x (log.pending (log.owner c t.here.life f p) z.change) z.log; log = z.log }
  logs t _ (Reads _ ino p m i clean) z = z.log
  logs t _ (Submits _ s ino p d m e i k w) z = z.log

  -- what is said
  change_said : (t u : Turn) (ch : Change now t u) → RightLife t.here → Placed size u.out → PageFine (es t.out) t.here → EachFine c before sc t.out → EachFine c before sc u.out
  unfolding cp.submit_read cp.submit_write cp.submit_command
  change_said t _ (Says _ o p) live h g r = fine_last c before t.out o sc r (plain_fine (After c before sc t.out).world c o p)
  change_said t _ (Operates _ os) live h g r = r
  change_said t _ (Answers _ os ops a) live h g r = fine_both c before t.out (map (answer_to a) ops) sc r (answers_fine c before a ops (After c before sc t.out))
  change_said t _ (Greets _ x) live h g r = r
  change_said t _ (TellsLost _ lost) live h g r = r
  change_said t _ (Begins _ s e b n) live h g r = r
  change_said t _ (Follows _ s v e x) live h g r = r
  change_said t _ (Learns _ e v n) live h g r = r
  change_said t _ (Forgets _ ino p i) live h g r = r
  change_said t _ (Caches _ clean) live h g r = r
  change_said t _ (Writes _ s f p bytes n e sv own m x) live h g r = fine_last c before t.out (outputs.Note n) sc r tt
  change_said t _ (Reads _ ino p m i clean) live h g r =
      fine_last c before t.out (outputs.Submit t.next_command m.at (commands.Read m.at)) sc r (read_fine (After c before sc t.out).world c (site_of (After c before sc t.out).world c) m.at m.at)
  change_said t _ (Submits _ s ino p d m e i k w) live h g r =
      fine_last c before t.out (outputs.Submit t.next_command m.at what) sc r
      (subst (λ o. FineSubmit w1 c o m.at what) (sym (site_there size c before sc site there count t.out))
      (record {
        place = refl;
        of = subst (λ l. Rattle.st_laws_pages.specs.Disks.Folds.owner_at w1.log (Rattle.st_rules.specs.Events.latest w1.log c tag.file tag.page) ≡ Some (log.owner c l tag.file tag.page)) (sym life) (g.latest d.ino d.page d found);
        last = g.last d.ino d.page d found;
      }))
    where
      w1 : World
      w1 = (After c before sc t.out).world

      tag : Tag
      tag = record { file = cp.file t d.ino; page = d.page; birth = m.birth }

      what : Command
      what = commands.Write m.at tag d.bytes

      found : pages.dirty_of t.here.store.pages d.ino d.page ≡ Some d
      found = let o = dirty_on t.here.store.pages ino p d i in ap (λ j. pages.dirty_of t.here.store.pages j d.page) o.0 ∙ ap (λ q. pages.dirty_of t.here.store.pages ino q) o.1 ∙ i

      server : server_of_disk w1 m.at ≡ t.here.server
      server =
          ap (λ n. world.server (pred m.at.disk.0 % n + 1)) (ap (λ (xs : List Rattle.st_rules.specs.Server.ServerNode). length xs) (grows_all c before t.out sc).servers ∙ count)
          ∙ ap (λ n. world.server n) (placed_at size (t.out ++ write_said t.next_command m.at m.at tag d.bytes ∷ []) h t.next_command m.at m.at tag d.bytes (has_last t.out (write_said t.next_command m.at m.at tag d.bytes)))

      life : life_with site.node.state (server_of_disk w1 m.at) ≡ t.here.life
      life = ap (life_with site.node.state) server ∙ live

  pub changes_in : (t u : Turn) → Changes now t u → (others : List Association) → OfOthers t.here.server others → RightLife t.here → Placed size u.out → In t others → In u others
  changes_in t _ (Still _) others n live h r = r
  changes_in t _ (Then _ u v ch rest) others n live h r =
      changes_in u v rest others (others_next t.here.server u.here.server others x.server n) (right_next t.here u.here x.server x.life live) h
      (record {
        here = record { latest = change_latest c now t u ch (After c before sc t.out).world.commands (After c before sc u.out).world.commands (es t.out) (es u.out) z r.here.latest; last = change_last c now t u ch (es t.out) (es u.out) l r.here.last };
        apart = λ b i. record { latest = latest_elsewhere c now t u ch (After c before sc t.out).world.commands (After c before sc u.out).world.commands (es t.out) (es u.out) b (n b i) z (r.apart b i).latest; last = last_elsewhere c now t u ch (es t.out) (es u.out) b (n b i) l (r.apart b i).last };
        said = change_said t u ch live placed r.here r.said;
      })
    where
      x : Next now t u
      x = change_next now t u ch

      y : Next now u v
      y = changes_next now u v rest

      placed : Placed size u.out
      placed = placed_grown size u.out v.out (record { more = y.more; out = y.out }) h

      z : Adds c now t u ch (After c before sc t.out).world.commands (After c before sc u.out).world.commands (es t.out) (es u.out)
      z = change_adds size c before sc site there count now t u ch live placed

      l : Logs c now t u ch (es t.out) (es u.out)
      l = logs t u ch z

  -- the end of a command
  silent : (number : ℕ) (ok : Bool) (t u : Turn) → Ends number ok t u → (u.out ≡ t.out) × (u.here.server ≡ t.here.server) × (u.here.life ≡ t.here.life)
  unfolding cl.hardened
  silent number ok t _ Unknown = (refl, refl, refl)
  silent number ok t _ (Passes pc e o) = (refl, refl, refl)
  silent number ok t _ (Hardens pc v e o k w) = (refl, refl, refl)
  silent number ok t _ (Fails pc v e o k w) = (refl, refl, refl)

  ends_in : (number : ℕ) (ok : Bool) (t u : Turn) → Ends number ok t u → (others : List Association) → In t others → In u others
  ends_in number ok t u e others r =
      let s = (silent number ok t u e).0 in
      record {
        here = subst (λ os. PageFine (es os) u.here) (sym s) (record { latest = ends_latest c number ok t u e (es t.out) r.here.latest; last = ends_last c number ok t u e (es t.out) r.here.last });
        apart = λ b i. subst (λ os. PageFine (es os) b) (sym s) (r.apart b i);
        said = subst (EachFine c before sc) (sym s) r.said;
      }

  pub finished_in : (number : ℕ) (ok : Bool) (t u : Turn) → Finished now number ok t u → (others : List Association) → OfOthers t.here.server others → RightLife t.here → Placed size u.out → In t others → In u others
  finished_in number ok t u f others n live h r =
      let s = silent number ok t f.mid f.ends in
      changes_in f.mid u (rest_of f) others (others_next t.here.server f.mid.here.server others (sym s.1) n) (right_next t.here f.mid.here (sym s.1) (sym s.2) live) h (ends_in number ok t f.mid f.ends others r)

  -- A rule at each server in turn.
  pub record All (t : ClientTurn) (al : List Association) : Type 0 where
    pub right : (b : Association) → Has b al → RightLife b
    pub once : Once (map server_number al)
    pub fit : (b : Association) → Has b al → Fit b
    pub fine : (b : Association) → Has b al → PageFine (es t.out) b
    pub said : EachFine c before sc t.out

  all_left : (t : ClientTurn) (a : Association) (rest : List Association) (u : Turn) → Next now (enter t a) u → In u (t.state.associations ++ rest) → All t (t.state.associations ++ a ∷ rest) → All (leave t u) ((t.state.associations ++ u.here ∷ []) ++ rest)
  all_left t a rest u x r h =
      record {
        right = λ b i. each b RightLife (right_next a u.here x.server x.life (h.right a (has_mid t.state.associations rest a))) (λ j. h.right b (has_others t.state.associations rest a b j)) (has_split t.state.associations rest u.here b i);
        once = subst Once (sym (numbers_kept t.state.associations rest a u.here (sym x.server))) h.once;
        fit = λ b i. each b Fit (x.fit (h.fit a (has_mid t.state.associations rest a))) (λ j. h.fit b (has_others t.state.associations rest a b j)) (has_split t.state.associations rest u.here b i);
        fine = λ b i. each b (PageFine (es u.out)) r.here (r.apart b) (has_split t.state.associations rest u.here b i);
        said = r.said;
      }
    where
      each : (b : Association) (P : Association → Type 0) → P u.here → (Has b (t.state.associations ++ rest) → P b) → Has b (t.state.associations ++ rest) ⊎ (b ≡ u.here) → P b
      each b P p f (inl j) = f j
      each b P p f (inr e) = subst P (sym e) p

  these_grow : (rule : Turn → Turn) → ((t : Turn) → Fit t.here → Next now t (rule t)) → (al : List Association) (t : ClientTurn) → ((b : Association) → Has b al → Fit b) → Grows t.out (at_these rule al t).out
  unfolding at_these
  these_grow rule next [] t f = grows_none t.out
  these_grow rule next (a ∷ rest) t f =
      let x = next (enter t a) (f a (inl refl)) in
      grows_then t.out (rule (enter t a)).out (at_these rule rest (leave t (rule (enter t a)))).out (record { more = x.more; out = x.out }) (these_grow rule next rest (leave t (rule (enter t a))) (λ b i. f b (inr i)))

  these_all : (rule : Turn → Turn) → ((t : Turn) → Fit t.here → Next now t (rule t)) →
      ((t : Turn) → Fit t.here → (others : List Association) → OfOthers t.here.server others → RightLife t.here → Placed size (rule t).out → In t others → In (rule t) others) →
      (al : List Association) (t : ClientTurn) → Placed size (at_these rule al t).out → All t (t.state.associations ++ al) → All (at_these rule al t) (at_these rule al t).state.associations
  unfolding at_these
  these_all rule next step [] t o h = subst (All t) (none t.state.associations) h
    where
      none : (xs : List Association) → xs ++ [] ≡ xs
      none [] = refl
      none (x ∷ xs) = ap (λ z. x ∷ z) (none xs)
  these_all rule next step (a ∷ rest) t o h =
      these_all rule next step rest (leave t u) o
      (all_left t a rest u x
      (step (enter t a) fit (t.state.associations ++ rest) (others_apart t.state.associations rest a h.once) (h.right a (has_mid t.state.associations rest a)) (placed_grown size u.out (at_these rule rest (leave t u)).out grown o)
      (record { here = h.fine a (has_mid t.state.associations rest a); apart = λ b i. h.fine b (has_others t.state.associations rest a b i); said = h.said })) h)
    where
      u : Turn
      u = rule (enter t a)

      fit : Fit a
      fit = h.fit a (has_mid t.state.associations rest a)

      x : Next now (enter t a) u
      x = next (enter t a) fit

      behind : (done : List Association) (b : Association) → Has b rest → Has b (done ++ a ∷ rest)
      behind [] b i = inr i
      behind (d ∷ done) b i = inr (behind done b i)

      grown : Grows u.out (at_these rule rest (leave t u)).out
      grown = these_grow rule next rest (leave t u) (λ b i. h.fit b (behind t.state.associations b i))

  pub each_all : (rule : Turn → Turn) → ((t : Turn) → Fit t.here → Next now t (rule t)) →
      ((t : Turn) → Fit t.here → (others : List Association) → OfOthers t.here.server others → RightLife t.here → Placed size (rule t).out → In t others → In (rule t) others) →
      (t : ClientTurn) → Placed size (at_each rule t).out → All t t.state.associations → All (at_each rule t) (at_each rule t).state.associations
  unfolding at_each
  each_all rule next step t o h = these_all rule next step t.state.associations (with_associations [] t) o (record { right = h.right; once = h.once; fit = h.fit; fine = h.fine; said = h.said })

  pub each_grows : (rule : Turn → Turn) → ((t : Turn) → Fit t.here → Next now t (rule t)) → (t : ClientTurn) → ((b : Association) → Has b t.state.associations → Fit b) → Grows t.out (at_each rule t).out
  unfolding at_each
  each_grows rule next t f = these_grow rule next t.state.associations (with_associations [] t) f
