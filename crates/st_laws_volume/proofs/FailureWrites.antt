-- A write that is not reported and that carried a pending entry is the last write of its page by the entry's life, and of the instance that runs.
use Rattle.st_lemmas.proofs.Words
use Words.{◌≡◌, ◌≤◌, ◌<◌, ◌⊎◌, ℕ, zero, suc, ◌+◌, ◌&&◌, ◌==◌, Bool, true, false, List, [], ◌∷◌, Option, Some, None, refl, sym, ap, ◌∙◌, subst, inl, inr, arith}
use Words.{if◌then◌else◌, find, option_map, slice_get, eq-eqb, eqb-true, Command, ClientId, FileId, Life, DiskCommand, LogEntry, LogOwner, Carried, IssuedCommand}
use Words.commands
use Words.fates
use Words.reports
use Words.ClientState.{is_at}
use Words.Disks as disks
use Words.Events as ev
use Words.Events.{is_change, is_same_instance, last_write}
use Words.FlatLog as log
use Words.Keys.{same_client, same_file, same_page}
use Words.Lookups.{some_is}
use Words.Numbers.{get_has, numbered_below}
use Words.Tables.{and_both, and_true, has_map_in}
use Words.Truth.{file_is, none_not_some}
use Words.World as world
use Words.World.{World, WorldClient, numbered, site_of}
use Rattle.st_lemmas.proofs.Marks.{of_entry}
use Rattle.st_rules.specs.History.{Traced}
use Rattle.st_rules.specs.Safety.{Step}
use Rattle.st_laws_steps.specs.Lives.Lives.{owner_of}
use Rattle.st_laws_pages.specs.Disks.Folds.{owner_at}
use Rattle.st_laws_pages.specs.Flush.Flush.{Cared, Sent, file_at, owner_at_page}
use Rattle.st_laws_pages.specs.Writes.Writes.{ListedSince, OpenHold}
use Rattle.st_laws_pages.proofs.Causes.Law.{Stand}
use Rattle.st_laws_volume.proofs.CarriedEntries.{EntriesCarried}
use Rattle.st_laws_volume.proofs.FailedWrites.{changed}
use Rattle.st_laws_volume.proofs.FailureLives.{Ordered, PresentOf, life_upto}

-- The last write of an owner carries an entry of it.
low : (o : LogOwner) (n before : ℕ) (cs : List IssuedCommand) →
    (ev.last_write_from n before o cs ≡ before) ⊎ (n ≤ ev.last_write_from n before o cs)
unfolding ev.last_write_from ev.last_write_at
low o n before [] = inl refl
low o n before (c ∷ cs) = go (ev.carries_for o c c.carries) (low o (n + 1) n cs) (low o (n + 1) before cs)
  where
    go : (b : Bool) → (ev.last_write_from (n + 1) n o cs ≡ n) ⊎ (n + 1 ≤ ev.last_write_from (n + 1) n o cs) →
        (ev.last_write_from (n + 1) before o cs ≡ before) ⊎ (n + 1 ≤ ev.last_write_from (n + 1) before o cs) →
        (ev.last_write_from (n + 1) (if b then n else before) o cs ≡ before) ⊎ (n ≤ ev.last_write_from (n + 1) (if b then n else before) o cs)
    go true (inl q) r = inr (omega (arith, q))
    go true (inr l) r = inr (omega (arith, l))
    go false l (inl q) = inl q
    go false l (inr r) = inr (omega (arith, r))

carried_by : (o : LogOwner) (n before : ℕ) (cs : List IssuedCommand) (m : ℕ) (x : IssuedCommand) → slice_get cs m ≡ Some x → before < n →
    ev.last_write_from n before o cs ≡ n + m → ev.carries_for o x x.carries ≡ true
unfolding ev.last_write_from ev.last_write_at
carried_by o n before [] m x i l q = cc i
carried_by o n before (c ∷ cs) zero x i l q = go (ev.carries_for o c c.carries) refl q
  where
    none : (ev.last_write_from (n + 1) before o cs ≡ before) ⊎ (n + 1 ≤ ev.last_write_from (n + 1) before o cs) →
        ev.last_write_from (n + 1) before o cs ≡ n + 0 → ⊥
    none (inl e) z = omega (arith, l, e, z)
    none (inr e) z = omega (arith, e, z)

    go : (b : Bool) → ev.carries_for o c c.carries ≡ b → ev.last_write_from (n + 1) (if b then n else before) o cs ≡ n + 0 → ev.carries_for o x x.carries ≡ true
    go true e z = ap (λ (y : IssuedCommand). ev.carries_for o y y.carries) (sym (some_is i)) ∙ e
    go false e z = absurd (none (low o (n + 1) before cs) z)
carried_by o n before (c ∷ cs) (suc m) x i l q =
    carried_by o (n + 1) (ev.last_write_at o n before c) cs m x i (below (ev.carries_for o c c.carries))
    (q ∙ (let z : n + suc m ≡ (n + 1) + m = omega arith in z))
  where
    below : (b : Bool) → (if b then n else before) < n + 1
    below true = omega arith
    below false = omega (arith, l)

pub last_carries : (o : LogOwner) (cs : List IssuedCommand) (k : ℕ) (x : IssuedCommand) → numbered cs k ≡ Some x → last_write cs o ≡ k →
    ev.carries_for o x x.carries ≡ true
unfolding last_write
last_carries o cs zero x i q = cc i
last_carries o cs (suc m) x i q = carried_by o 1 0 cs m x i (omega arith) (q ∙ (let z : suc m ≡ 1 + m = omega arith in z))

-- A write is of an owner's page and life.
pub record IsOf (x : IssuedCommand) (y : Carried) (o : LogOwner) : Type 0 where
  pub client : x.client ≡ o.client
  pub life : x.life ≡ o.life
  pub file : y.file ≡ o.file
  pub page : y.page ≡ o.page

pub parts_of : (x : IssuedCommand) (y : Carried) (o : LogOwner) → log.same_owner (world.owner_carried x y) o ≡ true → IsOf x y o
parts_of x y o q =
    let a = and_true (same_client x.client o.client && (x.life.0 == o.life.0)) (same_file y.file o.file && same_page y.page o.page) q in
    let b = and_true (same_client x.client o.client) (x.life.0 == o.life.0) a.0 in
    let c = and_true (same_file y.file o.file) (same_page y.page o.page) a.1 in
    record {
      client = ap (λ n. record { 0 = n }) (eqb-true x.client.0 o.client.0 b.0);
      life = ap (λ n. record { 0 = n }) (eqb-true x.life.0 o.life.0 b.1);
      file = file_is y.file o.file c.0;
      page = ap (λ n. record { 0 = n }) (eqb-true y.page.0 o.page.0 c.1);
    }

pub last_of : (o : LogOwner) (cs : List IssuedCommand) (k : ℕ) (x : IssuedCommand) (y : Carried) → numbered cs k ≡ Some x → x.carries ≡ Some y →
    last_write cs o ≡ k → IsOf x y o
last_of o cs k x y i c q = parts_of x y o (sym (ap (ev.carries_for o x) c) ∙ last_carries o cs k x i q)

-- It is the last write of the owner, and of the instance that runs.
pub record LastOf (cs : List IssuedCommand) (k : ℕ) (x : IssuedCommand) (o : LogOwner) (site : WorldClient) : Type 0 where
  pub last : last_write cs o ≡ k
  pub same : is_same_instance x site ≡ true

module _ (past : List Step) (t : Traced) (s : Stand past t) (opens : OpenHold t.world) (carry : EntriesCarried t.world) (ordered : Ordered t.world.log)
    (k : ℕ) (x : IssuedCommand) (d : DiskCommand) (y : Carried) (issued : numbered t.world.commands k ≡ Some x)
    (is : disks.command_at t.world.disks.commands k ≡ Some d) (unreported : d.report ≡ reports.Open) (carries : x.carries ≡ Some y) where
  abbrev w : World
  w = t.world

  -- what a write of the present life is
  pub listed : (o : LogOwner) (p : PresentOf w o) → IsOf x y o → LastOf w.commands k x o p.site
  listed o p z = by d.what refl
    where
      by : (what : Command) → d.what ≡ what → LastOf w.commands k x o p.site
      by (commands.Read at) e = absurd (none_not_some y (sym (s.both.writes.commands.reads k x d at issued is e) ∙ carries))
      by (commands.Write at tag bytes) e = record { last = ap (last_write w.commands) (sym owner_is) ∙ sent.last; same = same }
        where
          server : x.server ≡ p.a.server
          server = sym (carry.owned k x issued y carries).1 ∙ (ap (λ (f : FileId). f.server) z.file ∙ sym p.server)

          l : ListedSince p.site.starts p.a x tag
          l = opens o.client p.site p.there p.runs p.a p.has k x d at tag bytes issued is e unreported z.client server (z.life ∙ sym p.life)

          cared : Cared past w.commands w.log o.client p.site.starts p.site.node.state.next_command p.a
          cared = (s.both.flush.sites o.client p.site p.there p.runs).cared p.a p.has

          sent : Sent w.commands w.log o.client p.a l.listed.command l.listed.version k x
          sent =
              (cared.writes l.listed.command l.listed.here l.listed.version l.listed.kind).world k x issued
              (record { client = z.client; instance_ = l.since; number_is = sym l.listed.number_is })

          carried_is : y ≡ record { file = file_at p.a l.listed.command.ino; page = l.listed.command.page; index = sent.index }
          carried_is = some_is (sym carries ∙ sent.carries)

          owner_is : owner_at_page o.client p.a l.listed.command.ino l.listed.command.page ≡ o
          owner_is =
              ap (λ g. log.owner o.client g (file_at p.a l.listed.command.ino) l.listed.command.page) p.life
              ∙ (ap (λ g. log.owner o.client o.life g l.listed.command.page) (ap (λ (c : Carried). c.file) (sym carried_is) ∙ z.file)
              ∙ ap (λ g. log.owner o.client o.life o.file g) (ap (λ (c : Carried). c.page) (sym carried_is) ∙ z.page))

          same : is_same_instance x p.site ≡ true
          same = and_both p.site.node.running (p.site.starts == x.starts) p.runs (eq-eqb p.site.starts x.starts (sym l.since))

  -- an entry of the page up to the one that it carries is of its life
  pub touched : (n : ℕ) (e : LogEntry) → slice_get w.log n ≡ Some e → is_change e ≡ true → PresentOf w e.of → n < y.index → x.client ≡ e.of.client →
      y.file ≡ e.of.file → y.page ≡ e.of.page → IsOf x y e.of
  touched n e at change p l client file page =
      record { client = client; life = ap (λ m. record { 0 = m }) (go y.index refl (carry.owned k x issued y carries).0); file = file; page = page }
    where
      entry : (m : ℕ) (f : LogEntry) → y.index ≡ suc m → slice_get w.log m ≡ Some f → f.of ≡ world.owner_carried x y → x.life.0 ≡ e.of.life.0
      entry m f q i own = omega (arith, rises, up, a, b)
        where
          f_client : f.of.client ≡ e.of.client
          f_client = ap (λ (z : LogOwner). z.client) own ∙ client

          f_server : f.of.file.server ≡ e.of.file.server
          f_server = ap (λ (z : LogOwner). z.file.server) own ∙ ap (λ (z : FileId). z.server) file

          born : 1 ≤ f.of.client.0
          born = subst (λ (c : ClientId). 1 ≤ c.0) (sym f_client) (numbered_below w.clients e.of.client.0 p.site p.there).0

          rises : e.of.life.0 ≤ f.of.life.0
          rises =
              ordered n m e f at i (omega (arith, l, q)) change (changed w.log m f carry.cuts i born (is_change f) refl) (sym f_client) (sym f_server)

          up : f.of.life.0 ≤ p.a.life.0
          up =
              life_upto w s.fates.lives f.of (has_map_in owner_of w.log f (get_has w.log m f i)) p.site (ap (site_of w) f_client ∙ p.there) p.a
              (ap (λ v. find (is_at v) p.site.node.state.associations) f_server ∙ p.place)

          a : p.a.life.0 ≡ e.of.life.0
          a = ap (λ (z : Life). z.0) p.life

          b : f.of.life.0 ≡ x.life.0
          b = ap (λ (z : LogOwner). z.life.0) own

      at_index : (m : ℕ) (o : Option LogEntry) → y.index ≡ suc m → slice_get w.log m ≡ o → option_map of_entry o ≡ Some (world.owner_carried x y) →
          x.life.0 ≡ e.of.life.0
      at_index m None q i h = cc h
      at_index m (Some f) q i h = entry m f q i (some_is h)

      go : (i : ℕ) → y.index ≡ i → owner_at w.log i ≡ Some (world.owner_carried x y) → x.life.0 ≡ e.of.life.0
      go zero q h = cc h
      go (suc m) q h = at_index m (slice_get w.log m) q refl h
