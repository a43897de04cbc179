-- All associations of a client, through changes at one of its servers: what holds of each, in the world after the outputs so far.
use Rattle.st_lemmas.proofs.Words
use Words.{◌≡◌, ℕ, ◌+◌, ◌<◌, ◌⊎◌, Bool, true, false, ◌&&◌, List, [], ◌∷◌, ◌++◌, ◌==◌, Some, refl, sym, ap, ◌∙◌, subst, inl, inr, arith, list_any, ne_eqb}
use Words.{ClientId, FileId, PageNo, ServerId, Stamp, DiskCommand, LogEntry, IssuedCommand}
use Words.Keys.{same_client, same_server}
use Words.FlatLog as log
use Words.Disks as disks
use Words.ClientPasses as cp
use Words.ClientState.{Association, Turn}
use Words.World.{numbered}
use Words.Events as ev
use Words.Events.{WorldTurn}
use Words.Safety.{Step, reports_failure}
use Words.Lists.{Has}
use Words.Tables.{has_append}
use Rattle.st_laws_steps.specs.Client.Client.{Change, Says, Operates, Answers, Greets, TellsLost, Begins, Follows, Learns, Forgets, Caches, Writes, Reads}
use Rattle.st_laws_steps.specs.Client.Client.{Submits}
use Rattle.st_laws_pages.specs.Flush.Flush.{file_at, owner_at_page, IsIts, Cared, NumbersBelow, NumbersApart}
use Rattle.st_laws_pages.proofs.Flush.Caring.{entry_elsewhere, command_elsewhere}
use Rattle.st_laws_pages.proofs.Flush.Growing.{Adds, AddsNothing, AddsEntry, change_cared, change_apart}

-- What holds of all associations of a client in the middle of a step: of the one where it is, and of the others.
pub record Around (past : List Step) (cs : List IssuedCommand) (es : List LogEntry) (c : ClientId) (starts : ℕ) (t : Turn) (others : List Association) : Type 0 where
  pub here : Cared past cs es c starts t.next_command t.here
  pub cared : (b : Association) → Has b others → Cared past cs es c starts t.next_command b
  pub apart : NumbersApart t.here.store.commands
  pub aparts : (b : Association) → Has b others → NumbersApart b.store.commands
  pub numbers : NumbersBelow cs c starts t.next_command

-- the others are of other servers
abbrev pub OfOthers : ServerId → List Association → Type 0
OfOthers s others = (b : Association) → Has b others → b.server.0 ≡ s.0 → ⊥

-- by equations of the world's lists
cared_in : (past : List Step) (cs ds : List IssuedCommand) (es gs : List LogEntry) (c : ClientId) (starts next : ℕ) (b : Association) → ds ≡ cs → gs ≡ es → Cared past cs es c starts next b → Cared past ds gs c starts next b
cared_in past cs ds es gs c starts next b p q h = subst (λ x. Cared past x gs c starts next b) (sym p) (subst (λ x. Cared past cs x c starts next b) (sym q) h)

-- One more entry or command of the association where the client is, for another one.
entry_apart : (past : List Step) (cs ds : List IssuedCommand) (es gs : List LogEntry) (c : ClientId) (starts : ℕ) (t : Turn) (f : FileId) (p : PageNo) (next : ℕ) (b : Association) → f.server ≡ t.here.server → (b.server.0 ≡ t.here.server.0 → ⊥) → AddsEntry c t f p cs ds es gs →
    Cared past cs es c starts next b → Cared past ds gs c starts next b
entry_apart past cs ds es gs c starts t f p next b own n z h =
    cared_in past cs ds _ gs c starts next b z.commands z.log (entry_elsewhere past cs es c starts next b (log.pending (log.owner c t.here.life f p) z.change) (λ q u v w. absurd (n (ap (λ (s : ServerId). s.0) (sym v ∙ own)))) none h)
  where
    none : (ino : ℕ) (q : PageNo) → ev.is_entry_of c (file_at b ino) q (log.pending (log.owner c t.here.life f p) z.change) ≡ false
    none ino q = go (same_client c c) (same_server f.server b.server) (f.ino == ino) (Rattle.st_rules.specs.Keys.same_page p q) (ne_eqb f.server.0 b.server.0 (λ e. n (sym e ∙ ap (λ (s : ServerId). s.0) own)))
      where
        go : (x y u v : Bool) → y ≡ false → (x && ((y && u) && v)) ≡ false
        go true false u v e = refl
        go true true u v e = cc
        go false y u v e = refl

command_apart : (past : List Step) (cs ds : List IssuedCommand) (es gs : List LogEntry) (c : ClientId) (starts next : ℕ) (b : Association) (x : IssuedCommand) → x.number ≡ next → ds ≡ cs ++ x ∷ [] → gs ≡ es → ((ino : ℕ) (p : PageNo) → ev.carries_for (owner_at_page c b ino p) x x.carries ≡ false) →
    Cared past cs es c starts next b → Cared past ds gs c starts (next + 1) b
command_apart past cs ds es gs c starts next b x num p q n h = cared_in past _ ds es gs c starts (next + 1) b p q (command_elsewhere past cs es c starts next b x num n h)

write_apart : (c : ClientId) (t : Turn) (ino : ℕ) (p : PageNo) (index : ℕ) (x : IssuedCommand) (b : Association) → x.carries ≡ Some (record { file = file_at t.here ino; page = p; index = index }) → (b.server.0 ≡ t.here.server.0 → ⊥) → (i : ℕ) (q : PageNo) →
    ev.carries_for (owner_at_page c b i q) x x.carries ≡ false
write_apart c t ino p index x b e n i q = ap (ev.carries_for (owner_at_page c b i q) x) e ∙ go (same_client x.client c && (x.life.0 == b.life.0)) (same_server t.here.server b.server) (ino == i) (Rattle.st_rules.specs.Keys.same_page p q) (ne_eqb t.here.server.0 b.server.0 (λ z. n (sym z)))
  where
    go : (x y u v : Bool) → y ≡ false → (x && ((y && u) && v)) ≡ false
    go true false u v e = refl
    go true true u v e = cc
    go false y u v e = refl

-- numbers of commands, as one more is submitted
below_more : (cs ds : List IssuedCommand) (c : ClientId) (starts next : ℕ) (x : IssuedCommand) → ds ≡ cs ++ x ∷ [] → x.number ≡ next → NumbersBelow cs c starts next → NumbersBelow ds c starts (next + 1)
below_more cs ds c starts next x e num h = subst (λ zs. NumbersBelow zs c starts (next + 1)) (sym e) (λ y i u v. go y (has_append cs (x ∷ []) y i) u v)
  where
    go : (y : IssuedCommand) → Has y cs ⊎ Has y (x ∷ []) → y.client ≡ c → y.starts ≡ starts → y.number < next + 1
    go y (inl i) u v = let z = h y i u v in omega (arith, z)
    go y (inr (inl q)) u v = let z = ap (λ (w : IssuedCommand). w.number) q in omega (arith, z, num)
    go y (inr (inr q)) u v = absurd q

below_same : (cs ds : List IssuedCommand) (c : ClientId) (starts next : ℕ) → ds ≡ cs → NumbersBelow cs c starts next → NumbersBelow ds c starts next
below_same cs ds c starts next e h = subst (λ zs. NumbersBelow zs c starts next) (sym e) h

-- A change, with what it adds.
module _ (past : List Step) (c : ClientId) (starts : ℕ) (now : Stamp) where
  still_around : (t u : Turn) (others : List Association) (cs ds : List IssuedCommand) (es gs : List LogEntry) → t.next_command ≡ u.next_command → AddsNothing cs ds es gs → Cared past ds gs c starts u.next_command u.here → NumbersApart u.here.store.commands →
      Around past cs es c starts t others → Around past ds gs c starts u others
  still_around t u others cs ds es gs n z h a r =
      record {
        here = h;
        cared = λ b i. subst (λ m. Cared past ds gs c starts m b) n (cared_in past cs ds es gs c starts t.next_command b z.commands z.log (r.cared b i));
        apart = a;
        aparts = r.aparts;
        numbers = subst (λ m. NumbersBelow ds c starts m) n (below_same cs ds c starts t.next_command z.commands r.numbers);
      }

  pub change_around : (t u : Turn) (ch : Change now t u) (others : List Association) → OfOthers t.here.server others → (cs ds : List IssuedCommand) (es gs : List LogEntry) → Adds c now t u ch cs ds es gs → Around past cs es c starts t others → Around past ds gs c starts u others
  unfolding cp.submit_read cp.submit_write cp.submit_command
  change_around t u ch others n cs ds es gs z r = go u ch z (change_cared past c starts now t u ch cs ds es gs z r.numbers r.here) (change_apart now t u ch r.here.below r.apart)
    where
      go : (u : Turn) (ch : Change now t u) → Adds c now t u ch cs ds es gs → Cared past ds gs c starts u.next_command u.here → NumbersApart u.here.store.commands → Around past ds gs c starts u others
      go _ (Says _ o p) z h a = still_around t _ others cs ds es gs refl z h a r
      go _ (Operates _ os) z h a = still_around t _ others cs ds es gs refl z h a r
      go _ (Answers _ os ops w) z h a = still_around t _ others cs ds es gs refl z h a r
      go _ (Greets _ g) z h a = still_around t _ others cs ds es gs refl z h a r
      go _ (TellsLost _ lost) z h a = still_around t _ others cs ds es gs refl z h a r
      go _ (Begins _ s e b m) z h a = still_around t _ others cs ds es gs refl z h a r
      go _ (Follows _ s v e g) z h a = still_around t _ others cs ds es gs refl z h a r
      go _ (Learns _ e v m) z h a = still_around t _ others cs ds es gs refl z h a r
      go _ (Forgets _ ino p i) z h a = still_around t _ others cs ds es gs refl z h a r
      go _ (Caches _ clean) z h a = still_around t _ others cs ds es gs refl z h a r
      go _ (Writes _ s f p bytes m e sv own k x) z h a =
          record {
            here = h;
            cared = λ b i. entry_apart past cs ds es gs c starts t f p t.next_command b own (n b i) z (r.cared b i);
            apart = a;
            aparts = r.aparts;
            numbers = below_same cs ds c starts t.next_command z.commands r.numbers;
          }
      go _ (Reads _ ino p m i clean) z h a =
          record {
            here = h;
            cared = λ b j. command_apart past cs ds es gs c starts t.next_command b z.command z.number z.commands z.log (λ k q. ap (ev.carries_for (owner_at_page c b k q) z.command) z.carries) (r.cared b j);
            apart = a;
            aparts = r.aparts;
            numbers = below_more cs ds c starts t.next_command z.command z.commands z.number r.numbers;
          }
      go _ (Submits _ s ino p d m e i k w) z h a =
          record {
            here = h;
            cared = λ b j. command_apart past cs ds es gs c starts t.next_command b z.command z.number z.commands z.log (write_apart c t d.ino d.page _ z.command b z.carries (n b j)) (r.cared b j);
            apart = a;
            aparts = r.aparts;
            numbers = below_more cs ds c starts t.next_command z.command z.commands z.number r.numbers;
          }

-- What is known of the command that ends: it is the client's, by this instance; as it failed, that was reported; as it is done, it had
-- its effect.
pub record Told (past : List Step) (sc : WorldTurn) (c : ClientId) (starts number : ℕ) (ok : Bool) : Type 0 where
  pub k : ℕ
  pub command : IssuedCommand
  pub is : numbered sc.world.commands k ≡ Some command
  pub its : IsIts c starts number command
  pub failed : ok ≡ false → list_any (reports_failure k) past ≡ true
  pub done : ok ≡ true → (d : DiskCommand) × (disks.command_at sc.world.disks.commands k ≡ Some d) × (d.effected ≡ true)
