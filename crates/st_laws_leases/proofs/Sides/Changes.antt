-- Changes are locked: a page that a client's step changed is dirty after it, under a lease that lasts, so under an exclusive lock.
use Rattle.st_lemmas.proofs.Words
use Words.{◌≡◌, ℕ, ◌≤◌, Bool, true, ◌==◌, List, [], ◌∷◌, ◌++◌, Option, Some, None, refl, sym, ap, ◌∙◌, subst, arith, find, length}
use Words.{unwrap_or, list_all, list_any, eqb-true, ClientId, FileId, PageNo, ServerId, Stamp, Note, Output, ClientInput, HeldLock}
use Words.{Observation, le-leb, lt-ltb}
use Words.nodes
use Words.modes
use Words.notes
use Words.outputs
use Words.seen
use Words.Client as cl
use Words.ClientLease.{end_at, end_of}
use Words.ClientLocks.{is_lock_on, lock_of}
use Words.ClientPages.{is_dirty_of}
use Words.ClientState.{Association, ClientSession, ClientState, is_at}
use Words.Events as ev
use Words.Events.{WorldTurn}
use Words.History.{association_at, association_of, is_exclusive_on, locks_of_session}
use Words.Safety.{changes_alone, has_dirty_page, has_exclusive, is_before, lasts, lasts_at}
use Words.Server.{ServerNode}
use Words.World.{World, WorldClient, clock_of, node_of, numbered, site_of, stamp}
use Words.Lists.{Has}
use Words.Lookups.{some_is}
use Words.Numbers.{numbered_own}
use Words.Tables.{and_both, and_true, found_at, some_passes}
use Words.Lengths.{numbered_there}
use Rattle.st_base.specs.Mode.{covers, number_of}
use Rattle.st_protocol.specs.Assoc as net
use Rattle.st_protocol.specs.Assoc.{Config}
use Rattle.st_laws_refine.specs.Views.Halves.{held_at, held_in}
use Rattle.st_laws_refine.specs.Client.World.{site_left, stepped, world_left}
use Rattle.st_laws_refine.proofs.Client.Sim.{world_is}
use Rattle.st_laws_steps.specs.Lives.Lives.{LivesHold}
use Rattle.st_laws_steps.specs.Client.Losses.{Fit}
use Rattle.st_laws_steps.specs.Client.Notes.{NoteAt, NotesAll, IsChanged, IsChangedAt}
use Rattle.st_laws_steps.proofs.Lives.Associations.{own_found}
use Rattle.st_laws_steps.proofs.Client.Noting.{step_notes}
use Rattle.st_laws_steps.proofs.Client.Stepping.{step_lives}
use Rattle.st_laws_steps.proofs.Client.Dirtying.{notes_map}
use Rattle.st_laws_leases.specs.Sides.World.{AllStand}
use Rattle.st_laws_leases.proofs.Sides.Known.{Known, step_known}
use Rattle.st_laws_leases.proofs.Sides.DirtyPages.{Lasting, dirty_mode, lasting}

-- a line of a write or a patch has its page locked
abbrev pub is_write_locked : World → Observation → Bool
is_write_locked w (seen.Wrote index c f p bytes) = changes_alone w c f p
is_write_locked w (seen.Patched index c f p at bytes) = changes_alone w c f p
is_write_locked w o = true

-- an exclusive lock is listed
pub exclusive_listed : (o : Option ClientSession) (ino : ℕ) → 2 ≤ (held_in o ino).mode → list_any (is_exclusive_on ino) (locks_of_session o) ≡ true
exclusive_listed None ino h = absurd (omega (arith, h))
exclusive_listed (Some s) ino h = go (lock_of s.locks ino) refl h
  where
    go : (l : Option HeldLock) → lock_of s.locks ino ≡ l → 2 ≤ (held_at l).mode → list_any (is_exclusive_on ino) s.locks.rows ≡ true
    go None e h = absurd (omega (arith, h))
    go (Some l) e h =
        let z = found_at (is_lock_on ino) s.locks.rows l e in
        some_passes (is_exclusive_on ino) s.locks.rows l z.1 (and_both (is_lock_on ino l) (covers l.mode modes.X) z.0 (le-leb 2 (number_of l.mode) h))

-- A page that is changed, at a client of a world in which everything holds.
module _ (k : Config) (count : ℕ) (w : World) (a : AllStand k count w) (c : ClientId) (site : WorldClient) (there : site_of w c ≡ Some site) (runs : site.node.running ≡ true) where
  abbrev Now : Stamp
  Now = clock_of w (nodes.Client c)

  at_page : (f : FileId) (p : PageNo) (x : Association) → Has x site.node.state.associations → IsChanged site.node.state.config Now x f p → (node : ServerNode) → node_of w f.server ≡ Some node → changes_alone w c f p ≡ true
  at_page f p x h z node at =
      and_both (lasts w c f.server) _ last
      (and_both (has_exclusive f.ino (association_of w c f.server)) _ (ap (has_exclusive f.ino) here ∙ exclusive_listed x.session f.ino mode)
      (ap (has_dirty_page f.ino p) here ∙ some_passes (is_dirty_of f.ino p) x.store.pages.dirty z.page page.1 page.0))
    where
      is : cl.association_with site.node.state f.server ≡ Some x
      is = ap (λ v. find (is_at v) site.node.state.associations) z.server ∙ own_found site.node.state.associations (a.fates.lives.lives.sites c site there).once x h

      here : association_of w c f.server ≡ Some x
      here = ap (association_at f.server) there ∙ is

      last : lasts w c f.server ≡ true
      last =
          ap (lasts_at Now f.server) there
          ∙ and_both site.node.running _ runs
          (ap (λ o. is_before Now (end_at site.node.state.config (cl.lease_at o))) is ∙ ap (λ (o : Option ClientSession). is_before Now (end_at site.node.state.config (cl.lease_at (Some (record x { session = o }))))) z.is
          ∙ lt-ltb Now.0 (end_of site.node.state.config z.session.lease).0 z.before)

      page : (is_dirty_of f.ino p z.page ≡ true) × Has z.page x.store.pages.dirty
      page = found_at (is_dirty_of f.ino p) x.store.pages.dirty z.page z.dirty

      l : Lasting k count w a f.server.0 node at c.0
      l = lasting k count w a f.server.0 node at c.0 last

      same : l.association ≡ x
      same = some_is (sym l.found ∙ here)

      mode : 2 ≤ (held_in x.session f.ino).mode
      mode =
          subst (λ (y : Association). 2 ≤ (held_in y.session f.ino).mode) same
          (subst (λ i. 2 ≤ (held_in l.association.session i).mode) (eqb-true z.page.ino f.ino (and_true (z.page.ino == f.ino) _ page.0).0)
          (subst (λ (y : net.Client). 2 ≤ (y.held z.page.ino).mode) l.seen
          (dirty_mode k count w a f.server.0 node at c.0 l z.page (subst (λ (y : Association). Has z.page y.store.pages.dirty) (sym same) page.1))))

-- one more line
all_more : (w : World) (os : List Observation) (o : Observation) → list_all (is_write_locked w) os ≡ true → is_write_locked w o ≡ true → list_all (is_write_locked w) (os ++ o ∷ []) ≡ true
all_more w [] o h e = and_both (is_write_locked w o) true e refl
all_more w (x ∷ os) o h e = let z = and_true (is_write_locked w x) (list_all (is_write_locked w) os) h in and_both (is_write_locked w x) _ z.0 (all_more w os o z.1 e)

-- the lines of a client's outputs, if each page that they note as changed is locked
says_one : (w : World) (c : ClientId) (before : ClientState) (o : Output) (sc : WorldTurn) → list_all (is_write_locked w) sc.seen ≡ true → NoteAt (λ f p. changes_alone w c f p ≡ true) o →
    list_all (is_write_locked w) (ev.client_says sc c before o).seen ≡ true
unfolding ev.client_says ev.sends ev.submits ev.answers_with ev.client_notes ev.accepts ev.patches ev.loses
says_one w c before (outputs.Send m) sc h n = all_more w sc.seen _ h refl
says_one w c before (outputs.Answer op x) sc h n = all_more w sc.seen _ h refl
says_one w c before (outputs.Submit number at what) sc h n = go (site_of sc.world c)
  where
    go : (o : Option WorldClient) → list_all (is_write_locked w) (ev.submits sc c o number at what).seen ≡ true
    go None = h
    go (Some site) = all_more w sc.seen _ h refl
says_one w c before (outputs.Note x) sc h n = note x n
  where
    note : (x : Note) → NoteAt (λ f p. changes_alone w c f p ≡ true) (outputs.Note x) → list_all (is_write_locked w) (ev.client_notes sc c before x).seen ≡ true
    note (notes.Leased s end) n = all_more w sc.seen _ h refl
    note (notes.Lost s life) n = all_more w sc.seen _ h refl
    note (notes.Accepted f p bytes) n = all_more w sc.seen _ h n
    note (notes.Patched f p at bytes) n = all_more w sc.seen _ h n
    note x n = h

says_locked : (w : World) (c : ClientId) (before : ClientState) (os : List Output) (sc : WorldTurn) → list_all (is_write_locked w) sc.seen ≡ true → NotesAll (λ f p. changes_alone w c f p ≡ true) os →
    list_all (is_write_locked w) (ev.client_says_all c before os sc).seen ≡ true
unfolding ev.client_says_all
says_locked w c before [] sc h n = h
says_locked w c before (o ∷ os) sc h n = says_locked w c before os (ev.client_says sc c before o) (says_one w c before o sc h n.one) n.rest

-- A client's step: its changes are locked in the world that it leaves.
pub took : (k : Config) (count : ℕ) (w : World) (c : ClientId) (old site : WorldClient) (input : ClientInput) → site_of w c ≡ Some old → old.node ≡ site.node → site.node.running ≡ true → LivesHold w →
    Known (length w.servers) w.clients → AllStand k count (world_left w c site input) →
    list_all (is_write_locked (world_left w c site input)) (ev.client_says_all c site.node.state (stepped w c site input).out (ev.quiet (ev.with_site c (site_left w c site input) w))).seen ≡ true
took k count w c old site input there same runs h known all = says_locked v c site.node.state (stepped w c site input).out _ refl (notes_map (IsChangedAt s.config now al) (λ f p. changes_alone v c f p ≡ true) one (stepped w c site input).out (step_notes c s now input fit))
  where
    v : World
    v = world_left w c site input

    s : ClientState
    s = site.node.state

    now : Stamp
    now = clock_of w (nodes.Client c)

    al : List Association
    al = (stepped w c site input).state.associations

    fit : (a : Association) → Has a s.associations → Fit a
    fit = subst (λ (n : cl.ClientNode). (a : Association) → Has a n.state.associations → Fit a) same (h.lives.sites c old there).fit

    here : site_of v c ≡ Some (site_left w c site input)
    here = ap (λ xs. numbered xs c.0) (world_is w c site input).clients ∙ numbered_own w.clients c.0 (site_left w c site input) old there

    clock : clock_of v (nodes.Client c) ≡ now
    clock = ap (λ ts. unwrap_or (numbered ts c.0) (stamp 0)) (world_is w c site input).clocks

    config : s.config ≡ (site_left w c site input).node.state.config
    config = (step_lives c s now input fit).config

    one : (f : FileId) (p : PageNo) → IsChangedAt s.config now al f p → changes_alone v c f p ≡ true
    one f p (x, i, z) =
        let r = step_known (length w.servers) w c old site input there same h known c.0 (site_left w c site input) here x i in
        let e = ap (λ (y : ServerId). y.0) z.server in
        let l = r.0 in
        let u = r.1 in
        let n = numbered_there w.servers f.server.0 (omega (arith, e, l)) (omega (arith, e, u)) in
        at_page k count v all c (site_left w c site input) here runs f p x i
        (subst (λ (t : Stamp). IsChanged (site_left w c site input).node.state.config t x f p) (sym clock) (subst (λ q. IsChanged q now x f p) config z)) n.0
        (ap (λ xs. numbered xs f.server.0) (world_is w c site input).servers ∙ n.1)
