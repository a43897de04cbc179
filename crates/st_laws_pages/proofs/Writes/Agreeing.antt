-- A running client lists a write of a server exactly if the world has one there, of its present instance and life, that is not reported.
use Rattle.st_lemmas.proofs.Words
use Words.{◌≡◌, ℕ, zero, suc, ◌⊎◌, Bool, true, false, ◌&&◌, ◌==◌, List, [], ◌∷◌, Option, Some, None, refl, sym, ap, ◌∙◌, inl, inr, find, slice_get}
use Words.{list_any, is_some, eq-eqb, eqb-true, or_cases, BlockAt, Command, Tag, ClientId, Life, ServerId, DiskCommand, IoKind, IssuedCommand, PageCommand, Report}
use Words.commands
use Words.io
use Words.reports
use Words.Admissible.{has_write_out, is_open, is_open_write, is_command_of, is_write_out}
use Words.Client as cl
use Words.ClientPages as pages
use Words.ClientState.{Association, is_at}
use Words.Disks as disks
use Words.Keys.{same_client, same_server}
use Words.Lists.{Has}
use Words.Members.{some_member_passes}
use Words.Tables.{and_both, and_true, some_passes}
use Words.Truth.{clash}
use Words.World.{World, WorldClient, life_at, life_with, numbered, site_of}
use Rattle.std.specs.List.{zip}
use Rattle.st_laws_steps.specs.Lives.Lives.{LivesHold, Once, server_number}
use Rattle.st_laws_steps.proofs.Lives.Associations.{own_found}
use Rattle.st_laws_pages.proofs.Disks.Moves.{any_zip}
use Rattle.st_laws_pages.specs.Causes.Invariants.{CommandsStand}
use Rattle.st_laws_pages.specs.Writes.Writes.{IsOut, ListedHold, ListsAgree, OpenHold, has_write_with}

-- a place at which two lists have a pair that passes
record PassesAt {A B : Type 0} (p : A × B → Bool) (xs : List A) (ys : List B) : Type 0 where
  place : ℕ
  first : A
  second : B
  first_is : slice_get xs place ≡ Some first
  second_is : slice_get ys place ≡ Some second
  passes : p (first, second) ≡ true

passes_later : {A B : Type 0} (p : A × B → Bool) (x : A) (xs : List A) (y : B) (ys : List B) → PassesAt p xs ys → PassesAt p (x ∷ xs) (y ∷ ys)
passes_later p x xs y ys z =
    record { place = suc z.place; first = z.first; second = z.second; first_is = z.first_is; second_is = z.second_is; passes = z.passes }

passes_at : {A B : Type 0} (p : A × B → Bool) (xs : List A) (ys : List B) → list_any p (zip xs ys) ≡ true → PassesAt p xs ys
passes_at p [] ys e = cc
passes_at p (x ∷ xs) [] e = cc
passes_at {A} {B} p (x ∷ xs) (y ∷ ys) e = go (or_cases (p (x, y)) (list_any p (zip xs ys)) e) (passes_at p xs ys)
  where
    go : (p (x, y) ≡ true) ⊎ (list_any p (zip xs ys) ≡ true) → (list_any p (zip xs ys) ≡ true → PassesAt p xs ys) → PassesAt p (x ∷ xs) (y ∷ ys)
    go (inl q) f = record { place = zero; first = x; second = y; first_is = refl; second_is = refl; passes = q }
    go (inr q) f = passes_later p x xs y ys (f q)

-- two tests of which each passes if the other does
same_truth : (a b : Bool) → (a ≡ true → b ≡ true) → (b ≡ true → a ≡ true) → a ≡ b
same_truth true b f g = sym (f refl)
same_truth false true f g = g refl
same_truth false false f g = refl

open_is : (r : Report) → is_open r ≡ true → r ≡ reports.Open
open_is reports.Open e = refl
open_is reports.Succeeded e = cc
open_is reports.Failed e = cc

version_of : (k : IoKind) → pages.is_write k ≡ true → (v : ℕ) × (k ≡ io.Write v)
version_of io.Read e = cc
version_of (io.Write v) e = (v, refl)

-- An association of a client.
module _ (w : World) (c : ClientId) (site : WorldClient) (there : site_of w c ≡ Some site) (runs : site.node.running ≡ true) (a : Association)
    (has : Has a site.node.state.associations) (once : Once (Words.map server_number site.node.state.associations)) where
  found : find (is_at a.server) site.node.state.associations ≡ Some a
  found = own_found site.node.state.associations once a has

  store_is : cl.store_at (cl.association_with site.node.state a.server) ≡ a.store
  store_is = ap cl.store_at found

  life_is : life_with site.node.state a.server ≡ a.life
  life_is = ap life_at found

  -- a listed write is out
  out_if_listed : ListedHold w → has_write_with site.node.state a.server ≡ true → has_write_out w c a.server site ≡ true
  out_if_listed h e = go (some_member_passes pages.is_any_write a.store.commands (ap (λ (s : pages.Store). list_any pages.is_any_write s.commands) (sym store_is) ∙ e))
    where
      out : (n : ℕ) (pc : PageCommand) (o : IsOut w.commands w.disks.commands c site.starts a pc.number) → o.place ≡ n → has_write_out w c a.server site ≡ true
      out zero pc o q = absurd (none o.command (ap (numbered w.commands) (sym q) ∙ o.there))
        where
          none : (x : IssuedCommand) → ◌≡◌ {A = Option IssuedCommand} None (Some x) → ⊥
          none x z = cc
      out (suc n) pc o q =
          any_zip (is_write_out c a.server site.starts (life_with site.node.state a.server)) w.commands w.disks.commands n o.command o.disk
          (ap (numbered w.commands) (sym q) ∙ o.there) (ap (disks.command_at w.disks.commands) (sym q) ∙ o.on_disk)
          (and_both (is_command_of c a.server site.starts (life_with site.node.state a.server) o.command) (is_open_write o.command o.disk)
          (and_both (same_client o.command.client c && (o.command.starts == site.starts))
          (same_server o.command.server a.server && (o.command.life.0 == (life_with site.node.state a.server).0))
          (and_both (same_client o.command.client c) (o.command.starts == site.starts)
          (eq-eqb o.command.client.0 c.0 (ap (λ (x : ClientId). x.0) o.client)) (eq-eqb o.command.starts site.starts o.since))
          (and_both (same_server o.command.server a.server) (o.command.life.0 == (life_with site.node.state a.server).0)
          (eq-eqb o.command.server.0 a.server.0 (ap (λ (x : ServerId). x.0) o.server))
          (eq-eqb o.command.life.0 (life_with site.node.state a.server).0 (ap (λ (x : Life). x.0) (o.life ∙ sym life_is)))))
          (and_both (is_some o.command.carries) (is_open o.disk.report) o.carries (ap is_open o.unreported)))

      go : (pc : PageCommand) × Has pc a.store.commands × (pages.is_any_write pc ≡ true) → has_write_out w c a.server site ≡ true
      go (pc, i, k) =
          let v = version_of pc.kind k in
          let o : IsOut w.commands w.disks.commands c site.starts a pc.number = h c site there runs a has pc v.0 i v.1 in out o.place pc o refl

  -- a write that is out is listed
  listed_if_out : OpenHold w → CommandsStand w.log w.commands w.disks.commands → has_write_out w c a.server site ≡ true →
      has_write_with site.node.state a.server ≡ true
  listed_if_out h stand e = at (passes_at (is_write_out c a.server site.starts (life_with site.node.state a.server)) w.commands w.disks.commands e)
    where
      at : PassesAt (is_write_out c a.server site.starts (life_with site.node.state a.server)) w.commands w.disks.commands → has_write_with site.node.state a.server ≡ true
      at z = what d.what refl
        where
          x : IssuedCommand
          x = z.first

          d : DiskCommand
          d = z.second

          both : (is_command_of c a.server site.starts (life_with site.node.state a.server) x ≡ true) × (is_open_write x d ≡ true)
          both = and_true (is_command_of c a.server site.starts (life_with site.node.state a.server) x) (is_open_write x d) z.passes

          present : ((same_client x.client c && (x.starts == site.starts)) ≡ true) ×
              ((same_server x.server a.server && (x.life.0 == (life_with site.node.state a.server).0)) ≡ true)
          present = and_true (same_client x.client c && (x.starts == site.starts))
              (same_server x.server a.server && (x.life.0 == (life_with site.node.state a.server).0)) both.0

          own : (same_client x.client c ≡ true) × ((x.starts == site.starts) ≡ true)
          own = and_true (same_client x.client c) (x.starts == site.starts) present.0

          place : (same_server x.server a.server ≡ true) × ((x.life.0 == (life_with site.node.state a.server).0) ≡ true)
          place = and_true (same_server x.server a.server) (x.life.0 == (life_with site.node.state a.server).0) present.1

          open_write : (is_some x.carries ≡ true) × (is_open d.report ≡ true)
          open_write = and_true (is_some x.carries) (is_open d.report) both.1

          what : (k : Command) → d.what ≡ k → has_write_with site.node.state a.server ≡ true
          what (commands.Read b) q = clash open_write.0 (ap is_some (stand.reads (suc z.place) x d b z.first_is z.second_is q))
          what (commands.Write b tag bytes) q =
              let l =
              h c site there runs a has (suc z.place) x d b tag bytes z.first_is z.second_is q (open_is d.report open_write.1)
              (ap (λ n. record { 0 = n }) (eqb-true x.client.0 c.0 own.0)) (ap (λ n. record { 0 = n }) (eqb-true x.server.0 a.server.0 place.0))
              (ap (λ n. record { 0 = n }) (eqb-true x.life.0 (life_with site.node.state a.server).0 place.1) ∙ life_is) in
              ap (λ (s : pages.Store). list_any pages.is_any_write s.commands) store_is ∙
              some_passes pages.is_any_write a.store.commands l.listed.command l.listed.here (ap pages.is_write l.listed.kind)

  agrees : ListedHold w → OpenHold w → CommandsStand w.log w.commands w.disks.commands →
      has_write_with site.node.state a.server ≡ has_write_out w c a.server site
  agrees h o stand = same_truth (has_write_with site.node.state a.server) (has_write_out w c a.server site) (out_if_listed h) (listed_if_out o stand)

pub lists_agree : (w : World) → LivesHold w → ListedHold w → OpenHold w → CommandsStand w.log w.commands w.disks.commands → ListsAgree w
lists_agree w l h o stand c site there runs a has = agrees w c site there runs a has (l.lives.sites c site there).once h o stand
