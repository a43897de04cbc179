-- In every run an outstanding read of a client is of a page that is known as mapped, and isn't dirty.
use Rattle.st_lemmas.proofs.Words
use Words.{◌≡◌, ℕ, Bool, true, false, not, List, [], Option, Some, None, Ok, refl, sym, ap, ◌∙◌, subst, Ask, Body, ClientId, Config, DirtyPage, Event, Header, PageNo, ServerId, Stamp, Tag}
use Words.{PageCommand, filter, find, map}
use Words.io
use Words.Client as cl
use Words.ClientPages as pages
use Words.ClientPages.{Pages, Store, empty_store}
use Words.ClientPasses as cp
use Words.ClientReplies as cr
use Words.ClientState as cs
use Words.ClientState.{Association, Turn, only_at}
use Words.Events.{WorldTurn, world_step}
use Words.Lists.{Has}
use Words.Tables.{has_filter}
use Words.World.{World, WorldClient, fresh_world, site_of}
use Rattle.st_trace.specs.Client.Commands as ends
use Rattle.st_trace.specs.Client.Commands.{Finishes}
use Rattle.st_trace.specs.Client.Losses as losing
use Rattle.st_trace.specs.Client.Losses.{Loses}
use Rattle.st_trace.proofs.Client.Finishing.{finishes}
use Rattle.st_trace.proofs.Client.Losing.{loses}
use Rattle.st_laws_steps.specs.Client.Losses.{Fit}
use Rattle.st_laws_steps.proofs.Client.Asking.{changes_by_passes}
use Rattle.st_laws_steps.proofs.Client.Losing.{changes_by_only}
use Rattle.st_laws_steps.proofs.Client.Nexts.{failed_found, found_fewer}
use Rattle.st_laws_steps.proofs.Client.Replying.{changes_by_receive}
use Rattle.st_laws_pages.proofs.Lives.Associated as associated
use Rattle.st_laws_extents.specs.DiskReads.OutstandingReads.{ReadsClean}
use Rattle.st_laws_extents.proofs.DiskReads.Rules.{changes_kept}

abbrev Clean : Association → Type 0
Clean a = ReadsClean a.store

no_store : (a : Association) → a.store ≡ empty_store → Clean a
no_store a e pc i k = absurd (subst (λ (st : Store). Has pc st.commands) e i)

-- What isn't dirty doesn't become so as a command ends.
abbrev StaysClean : Pages → Pages → Type 0
StaysClean ps qs = (ino : ℕ) (p : PageNo) → pages.dirty_of ps ino p ≡ None → pages.dirty_of qs ino p ≡ None

none_of : (o : Option DirtyPage) → ((d : DirtyPage) → o ≡ Some d → ⊥) → o ≡ None
none_of None f = refl
none_of (Some d) f = absurd (f d refl)

no_some : (o : Option DirtyPage) → o ≡ None → (d : DirtyPage) → o ≡ Some d → ⊥
no_some o e d q = Words.Truth.none_not_some d (sym e ∙ q)

hardened : (ps : Pages) (i : ℕ) (q : PageNo) → StaysClean ps (pages.harden ps i q)
unfolding pages.harden pages.harden_at pages.harden_page
hardened ps i q ino p e = at (pages.dirty_of ps i q)
  where
    at : (o : Option DirtyPage) → pages.dirty_of (pages.harden_at ps o) ino p ≡ None
    at None = e
    at (Some d) =
        none_of _
        (λ x y.
        let z = found_fewer (pages.is_dirty_of ino p) (λ v. not (pages.is_dirty_of d.ino d.page v)) ps.dirty x y in
        no_some (pages.dirty_of ps ino p) e z.0 z.1)

failed : (ps : Pages) (i : ℕ) (q : PageNo) (n : ℕ) → StaysClean ps (pages.fail ps i q n)
unfolding pages.fail
failed ps i q n ino p e =
    none_of _ (λ x y. let z = failed_found i q n ino p ps.dirty x y in no_some (pages.dirty_of ps ino p) e z.0 z.1)

finished : (number : ℕ) (r : Option (Option (Tag × List ℕ))) (t : Turn) → Clean t.here → Clean (cl.finish number r t).here
unfolding cs.answer_each pages.fill
finished number r t h = go (cl.finish number r t) (finishes number r t)
  where
    fewer : (x : PageCommand) (ps : Pages) → StaysClean t.here.store.pages ps →
        ReadsClean (record t.here.store { pages = ps; commands = pages.without_command x.number t.here.store.commands })
    fewer x ps g pc i k =
        let z = h pc (has_filter (λ y. not (pages.is_numbered x.number y)) t.here.store.commands pc i).0 k in (g pc.ino pc.page z.0, z.1)

    go : (u : Turn) → Finishes number r t u → Clean u.here
    go _ (ends.IsUnknown e) = h
    go _ (ends.IsOfOtherKind x block o e f) = h
    go _ (ends.Fills x block o f e) =
        fewer x
        (pages.fill t.here.store.pages x.ino x.page (pages.found t.here.store.extents (cl.file_of_command t x) x.page block.0 block.1)) (λ ino p q. q)
    go _ (ends.Hardens x v o f e j) = fewer x (pages.harden t.here.store.pages x.ino x.page) (hardened t.here.store.pages x.ino x.page)
    go _ (ends.WroteOlder x v o f e j) = fewer x t.here.store.pages (λ ino p q. q)
    go _ (ends.FailsToRead x o f e) = fewer x t.here.store.pages (λ ino p q. q)
    go _ (ends.FailsToWrite x v o f e j) =
        fewer x (pages.fail t.here.store.pages x.ino x.page x.number) (failed t.here.store.pages x.ino x.page x.number)
    go _ (ends.FailsToWriteOlder x v o f e j) = fewer x t.here.store.pages (λ ino p q. q)

lost : (now : Stamp) (t : Turn) → Clean t.here → Clean (cl.lose now t).here
lost now t h = go (cl.lose now t) (loses now t)
  where
    go : (u : Turn) → Loses now t u → Clean u.here
    go _ (losing.HasNoSession e) = h
    go _ (losing.Lasts s e o) = h
    go _ (losing.IsLost s u e o p) = λ pc i k. absurd i

took : (s : ServerId) (op : ℕ) (ask : Ask) (t : Turn) → Clean t.here → Clean (only_at s (cl.take_ask op ask) t).here
took s op ask t h = let now : Stamp = record { 0 = 0 } in (changes_kept now t _ (changes_by_only now s op ask t)).clean h

received : (now : Stamp) (m : Header) (b : Body) (t : Turn) → Fit t.here → Clean t.here → Clean (cr.receive_at now m b t).here
received now m b t fit h = (changes_kept now t _ (changes_by_receive now m b t fit.fresh)).clean h

passed : (now : Stamp) (tick : Bool) (t : Turn) → Clean t.here → Clean (cp.passes now tick t).here
passed now tick t h = (changes_kept now t _ (changes_by_passes now tick t)).clean h

abbrev pub AllClean : World → Type 0
AllClean w = (c : ClientId) (site : WorldClient) → site_of w c ≡ Some site → (a : Association) → Has a site.node.state.associations → Clean a

pub clean_on : (w : World) (e : Event) (sc : WorldTurn) → world_step w e ≡ Ok sc →
    ((c : ClientId) (site : WorldClient) → site_of w c ≡ Some site → (a : Association) → Has a site.node.state.associations → Fit a) → AllClean w →
    AllClean sc.world
clean_on = associated.event_keeps Clean (λ a e f. no_store a f) took received finished lost passed

pub clean_begins : (k : Config) (clients servers disks blocks form : ℕ) → AllClean (fresh_world k clients servers disks blocks form)
clean_begins = associated.fresh_all Clean (λ a e f. no_store a f) took received finished lost passed
