-- What the outputs of a client's step add to the commands and the log of the world, by each change, if its writes are placed.
use Rattle.st_lemmas.proofs.Words
use Words.{◌≡◌, ℕ, List, [], ◌∷◌, ◌++◌, Some, refl, sym, ap, ◌∙◌, subst, map, length, pred, ◌%◌, ◌+◌, BlockAt, Command, Tag, ClientId, FileId, PageNo, ServerId}
use Words.{Life, Stamp, AppAnswer, Note, Output, Operation, LogEntry, IssuedCommand}
use Words.commands
use Words.notes
use Words.outputs
use Words.changes
use Words.FlatLog as log
use Words.ClientPasses as cp
use Words.ClientState.{ClientState, Turn, answer_to}
use Words.World.{WorldClient, numbered, site_of, life_with, server_of_disk}
use Words.Events as ev
use Words.Events.{WorldTurn, client_says, client_says_all, client_notes}
use Words.Worlds.{says_both}
use Rattle.st_laws_steps.specs.Client.Client.{Plain, PlainNote, ChangesPage, Change, Says, Operates, Answers, Greets, TellsLost, Begins, Follows, Learns}
use Rattle.st_laws_steps.specs.Client.Client.{Forgets, Caches, Writes, Reads, Submits}
use Rattle.st_laws_pages.proofs.Flush.Growing.{Adds, AddsNothing}
use Rattle.st_laws_pages.proofs.Flush.Adding.{After, AllStill, Grows, after_clients, more_still}
use Rattle.st_laws_pages.proofs.Asks.Says.{client_leaves}
use Rattle.st_laws_pages.proofs.Causes.Placed.{Placed, PlacedOne}

after_one : (c : ClientId) (before : ClientState) (sc : WorldTurn) (os : List Output) (o : Output) → After c before sc (os ++ o ∷ []) ≡ client_says (After c before sc os) c before o
unfolding client_says_all
after_one c before sc os o = says_both c before os (o ∷ []) sc

-- the fact of the last one, and of those in front
placed_last : (n : ℕ) (os : List Output) (o : Output) → Placed n (os ++ o ∷ []) → PlacedOne n o
placed_last n [] o h = h.one
placed_last n (x ∷ os) o h = placed_last n os o h.rest

placed_front : (n : ℕ) (os ps : List Output) → Placed n (os ++ ps) → Placed n os
placed_front n [] ps h = tt
placed_front n (o ∷ os) ps h = record { one = h.one; rest = placed_front n os ps h.rest }

pub placed_grown : (n : ℕ) (os ps : List Output) → Grows os ps → Placed n ps → Placed n os
placed_grown n os ps g h = placed_front n os g.more (subst (Placed n) g.out h)

-- An output that adds nothing, and outputs that do not.
plain_adds : (c : ClientId) (before : ClientState) (sc : WorldTurn) (o : Output) → Plain o → AddsNothing sc.world.commands (client_says sc c before o).world.commands sc.world.log (client_says sc c before o).world.log
unfolding client_says ev.sends ev.answers_with client_notes
plain_adds c before sc (outputs.Send m) p = record { commands = refl; log = refl }
plain_adds c before sc (outputs.Submit n at what) p = absurd p
plain_adds c before sc (outputs.Answer op a) p = record { commands = refl; log = refl }
plain_adds c before sc (outputs.Note n) p = go n p
  where
    go : (n : Note) → PlainNote n → AddsNothing sc.world.commands (client_notes sc c before n).world.commands sc.world.log (client_notes sc c before n).world.log
    go (notes.Lost s life) p = absurd p
    go (notes.Accepted f q bytes) p = absurd p
    go (notes.Patched f q at bytes) p = absurd p
    go n p = record { commands = refl; log = refl }

answers_still : (a : AppAnswer) (os : List Operation) → AllStill (map (answer_to a) os)
answers_still a [] = record {}
answers_still a (o ∷ os) = record { one = tt; rest = answers_still a os }

-- What each change adds, in the world after the outputs so far: pages are changed and written in the present life.
module _ (size : ℕ) (c : ClientId) (before : ClientState) (sc : WorldTurn) (site : WorldClient) (there : site_of sc.world c ≡ Some site) (count : length sc.world.servers ≡ size) where
  abbrev pub cs : List Output → List IssuedCommand
  cs os = (After c before sc os).world.commands

  abbrev pub es : List Output → List LogEntry
  es os = (After c before sc os).world.log

  -- the client is as it was
  pub site_there : (os : List Output) → site_of (After c before sc os).world c ≡ Some site
  site_there os = ap (λ xs. numbered xs c.0) (after_clients c before os sc) ∙ there

  life_there : (os : List Output) (s : ServerId) → ev.present_life (After c before sc os).world c s ≡ life_with site.node.state s
  life_there os s = ap (ev.life_of_site s) (site_there os)

  abbrev pub Nothing : List Output → List Output → Type 0
  Nothing os ps = AddsNothing (cs os) (cs ps) (es os) (es ps)

  nothing : (os : List Output) → Nothing os os
  nothing os = record { commands = refl; log = refl }

  one_entry : (os : List Output) (o : Output) (ch : Rattle.st_rules.specs.declared.log.Change.Change) (l : Life) (f : FileId) (p : PageNo) → (client_says (After c before sc os) c before o).world.commands ≡ cs os →
      (client_says (After c before sc os) c before o).world.log ≡ es os ++ log.pending (log.owner c l f p) ch ∷ [] →
      record { commands : cs (os ++ o ∷ []) ≡ cs os; log : es (os ++ o ∷ []) ≡ es os ++ log.pending (log.owner c l f p) ch ∷ [] }
  one_entry os o ch l f p a b = record { commands = ap (λ (s : WorldTurn). s.world.commands) (after_one c before sc os o) ∙ a; log = ap (λ (s : WorldTurn). s.world.log) (after_one c before sc os o) ∙ b }

  change_entry : (t : Turn) (f : FileId) (p : PageNo) (n : Note) → ChangesPage f p n → f.server ≡ t.here.server → life_with site.node.state t.here.server ≡ t.here.life →
      Rattle.st_laws_pages.proofs.Flush.Growing.AddsEntry c t f p (cs t.out) (cs (t.out ++ outputs.Note n ∷ [])) (es t.out) (es (t.out ++ outputs.Note n ∷ []))
  unfolding client_says client_notes ev.accepts ev.patches log.accept log.patch
  change_entry t f p n h own live = go n h
    where
      life : ev.present_life (After c before sc t.out).world c f.server ≡ t.here.life
      life = life_there t.out f.server ∙ ap (life_with site.node.state) own ∙ live

      owner_is : (g : FileId) (q : PageNo) → f ≡ g → p ≡ q → log.owner c (ev.present_life (After c before sc t.out).world c g.server) g q ≡ log.owner c t.here.life f p
      owner_is g q a b =
          ap (λ (x : FileId). log.owner c (ev.present_life (After c before sc t.out).world c x.server) x q) (sym a) ∙ ap (λ x. log.owner c (ev.present_life (After c before sc t.out).world c f.server) f x) (sym b) ∙ ap (λ l. log.owner c l f p) life

      go : (n : Note) → ChangesPage f p n → Rattle.st_laws_pages.proofs.Flush.Growing.AddsEntry c t f p (cs t.out) (cs (t.out ++ outputs.Note n ∷ [])) (es t.out) (es (t.out ++ outputs.Note n ∷ []))
      go (notes.Accepted g q bytes) h =
          let z = one_entry t.out (outputs.Note (notes.Accepted g q bytes)) (changes.Write bytes) (ev.present_life (After c before sc t.out).world c g.server) g q refl refl in
          record { change = changes.Write bytes; commands = z.commands; log = z.log ∙ ap (λ o. es t.out ++ log.pending o (changes.Write bytes) ∷ []) (owner_is g q h.0 h.1) }
      go (notes.Patched g q at bytes) h =
          let z = one_entry t.out (outputs.Note (notes.Patched g q at bytes)) (changes.Patch at bytes) (ev.present_life (After c before sc t.out).world c g.server) g q refl refl in
          record { change = changes.Patch at bytes; commands = z.commands; log = z.log ∙ ap (λ o. es t.out ++ log.pending o (changes.Patch at bytes) ∷ []) (owner_is g q h.0 h.1) }
      go n h = absurd h

  -- what a submission adds
  one_command : (os : List Output) (number : ℕ) (at : BlockAt) (what : Command) →
      record { commands : cs (os ++ outputs.Submit number at what ∷ []) ≡ cs os ++ ev.issued (After c before sc os).world c site number at what ∷ []; log : es (os ++ outputs.Submit number at what ∷ []) ≡ es os }
  unfolding client_says ev.submits
  one_command os number at what =
      record {
        commands = ap (λ (s : WorldTurn). s.world.commands) (after_one c before sc os (outputs.Submit number at what)) ∙ ap (λ o. (ev.submits (After c before sc os) c o number at what).world.commands) (site_there os);
        log = ap (λ (s : WorldTurn). s.world.log) (after_one c before sc os (outputs.Submit number at what)) ∙ ap (λ o. (ev.submits (After c before sc os) c o number at what).world.log) (site_there os);
      }

  -- a write that is placed goes to a disk of its file's server
  write_server : (os : List Output) (number : ℕ) (at to : BlockAt) (tag : Tag) (bytes : List ℕ) → Placed size (os ++ outputs.Submit number at (commands.Write to tag bytes) ∷ []) → server_of_disk (After c before sc os).world at ≡ tag.file.server
  write_server os number at to tag bytes h =
      ap (λ m. record { 0 = pred at.disk.0 % m + 1 }) (ap (λ xs. length xs) (client_leaves c before os sc).servers ∙ count) ∙ ap (λ m. record { 0 = m }) (placed_last size os (outputs.Submit number at (commands.Write to tag bytes)) h)

  -- Each change.
  pub change_adds : (now : Stamp) (t u : Turn) (ch : Change now t u) → life_with site.node.state t.here.server ≡ t.here.life → Placed size u.out → Adds c now t u ch (cs t.out) (cs u.out) (es t.out) (es u.out)
  unfolding cp.submit_read cp.submit_write cp.submit_command
  change_adds now t _ (Says _ o p) live h =
      let a = plain_adds c before (After c before sc t.out) o p in
      record { commands = ap (λ (s : WorldTurn). s.world.commands) (after_one c before sc t.out o) ∙ a.commands; log = ap (λ (s : WorldTurn). s.world.log) (after_one c before sc t.out o) ∙ a.log }
  change_adds now t _ (Operates _ os) live h = nothing t.out
  change_adds now t _ (Answers _ os ops a) live h = more_still c before sc t.out (map (answer_to a) ops) (answers_still a ops)
  change_adds now t _ (Greets _ g) live h = nothing t.out
  change_adds now t _ (TellsLost _ lost) live h = nothing t.out
  change_adds now t _ (Begins _ s e b n) live h = nothing t.out
  change_adds now t _ (Follows _ s v e g) live h = nothing t.out
  change_adds now t _ (Learns _ e v n) live h = nothing t.out
  change_adds now t _ (Forgets _ ino p i) live h = nothing t.out
  change_adds now t _ (Caches _ clean) live h = nothing t.out
  change_adds now t _ (Writes _ s f p bytes n e sv own m x) live h = change_entry t f p n x own live
  change_adds now t _ (Reads _ ino p m i clean) live h =
      let z = one_command t.out t.next_command m.at (commands.Read m.at) in
      record { command = ev.issued (After c before sc t.out).world c site t.next_command m.at (commands.Read m.at); commands = z.commands; log = z.log; number = refl; carries = refl }
  change_adds now t _ (Submits _ s ino p d m e i k w) live h =
      record {
        command = ev.issued (After c before sc t.out).world c site t.next_command m.at what;
        commands = z.commands;
        log = z.log;
        number = refl;
        client = refl;
        life = ap (life_with site.node.state) (write_server t.out t.next_command m.at m.at tag d.bytes h) ∙ live;
        carries = refl;
      }
    where
      tag : Tag
      tag = record { file = cp.file t d.ino; page = d.page; birth = m.birth }

      what : Command
      what = commands.Write m.at tag d.bytes

      z : record { commands : cs (t.out ++ outputs.Submit t.next_command m.at what ∷ []) ≡ cs t.out ++ ev.issued (After c before sc t.out).world c site t.next_command m.at what ∷ []; log : es (t.out ++ outputs.Submit t.next_command m.at what ∷ []) ≡ es t.out }
      z = one_command t.out t.next_command m.at what
