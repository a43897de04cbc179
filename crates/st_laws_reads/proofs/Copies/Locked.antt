-- In the world the changes of a client's step are locked after it.
use Rattle.st_lemmas.proofs.Words
use Words.{◌≡◌, ℕ, ◌≤◌, true, false, List, [], ◌∷◌, ◌++◌, Option, Some, None, refl, sym, ap, ◌∙◌, subst, inl, inr, arith, append_assoc}
use Words.{if◌then◌else◌, find, is_some, option_map, list_all, list_any, eq-eqb, ClientId, FileId, PageNo, ServerId}
use Words.{Stamp, Note, Output, Observation, DirtyPage, lt-ltb, append-nil}
use Words.nodes
use Words.notes
use Words.outputs
use Words.Keys.{same_server}
use Words.Client as cl
use Words.ClientLease.{end_at}
use Words.ClientPages.{is_dirty_of}
use Words.ClientState.{Association, ClientSession, ClientState, is_at}
use Words.World.{World, WorldClient, clock_of, site_of}
use Words.Events as ev
use Words.Events.{WorldTurn, client_notes, client_says, client_says_all}
use Words.History.{association_of}
use Words.Safety as safety
use Words.Lists.{Has}
use Words.Tables.{and_both}
use Words.Tests.{found_passes}
use Rattle.st_laws_refine.specs.Views.Halves.{held_in}
use Rattle.st_laws_refine.specs.Client.Invariants.{Lasts}
use Rattle.st_laws_refine.proofs.Client.Work.{any_found}
use Rattle.st_laws_reads.specs.Copies.Law.{AllHeld, AllLast, Apart, ChangesLieUnderLocks, Differs, HeldPage, NoteHeld}
use Rattle.st_laws_leases.proofs.Sides.Changes.{exclusive_listed}

-- an association is found by its server
differs_from : (sv : ServerId) (xs : List Association) (a : Association) → Differs sv xs → Has a xs → same_server sv a.server ≡ false
differs_from sv [] a d h = elim h [ ]
differs_from sv (x ∷ xs) a d (inl e) = ap (λ (y : Association). same_server sv y.server) e ∙ d.one
differs_from sv (x ∷ xs) a d (inr h) = differs_from sv xs a d.rest h

pub found_there : (xs : List Association) (a : Association) → Apart xs → Has a xs → find (is_at a.server) xs ≡ Some a
found_there [] a d h = elim h [ ]
found_there (x ∷ xs) a d (inl e) = ap (λ b. if b then Some x else find (is_at a.server) xs) (eq-eqb x.server.0 a.server.0 (ap (λ (y : Association). y.server.0) (sym e))) ∙ ap (λ y. Some y) (sym e)
found_there (x ∷ xs) a d (inr h) = ap (λ b. if b then Some x else find (is_at a.server) xs) (differs_from x.server xs a d.one h) ∙ found_there xs a d.rest h

lasting : (lease now : ℕ) (xs : List Association) (a : Association) → AllLast lease now xs → Has a xs → Lasts lease now a.session
lasting lease now [] a l h = elim h [ ]
lasting lease now (x ∷ xs) a l (inl e) = subst (λ (y : Association). Lasts lease now y.session) (sym e) l.one
lasting lease now (x ∷ xs) a l (inr h) = lasting lease now xs a l.rest h

dirty_listed : (ds : List DirtyPage) (ino : ℕ) (p : PageNo) → is_some (find (is_dirty_of ino p) ds) ≡ true → list_any (is_dirty_of ino p) ds ≡ true
dirty_listed ds ino p h = go (find (is_dirty_of ino p) ds) refl h
  where
    go : (o : Option DirtyPage) → find (is_dirty_of ino p) ds ≡ o → is_some o ≡ true → list_any (is_dirty_of ino p) ds ≡ true
    go None e h = cc
    go (Some d) e h = any_found (is_dirty_of ino p) (is_dirty_of ino p) d ds e (found_passes (is_dirty_of ino p) ds d e)

module _ (w : World) (c : ClientId) (site : WorldClient) (there : site_of w c ≡ Some site) (runs : site.node.running ≡ true) (apart : Apart site.node.state.associations)
    (last : AllLast site.node.state.config.lease (clock_of w (nodes.Client c)).0 site.node.state.associations) where
  abbrev Now : Stamp
  Now = clock_of w (nodes.Client c)

  -- a page that is held is changed under a lock
  locked : (f : FileId) (p : PageNo) → HeldPage f p site.node.state.associations → safety.changes_alone w c f p ≡ true
  locked f p h =
      and_both (safety.lasts w c f.server) _ (ap (λ o. safety.lasts_at Now f.server o) there ∙ and_both site.node.running _ runs (before a.session h.exclusive lasts is))
      (and_both (safety.has_exclusive f.ino (association_of w c f.server)) _ (ap (λ o. safety.has_exclusive f.ino o) at ∙ exclusive_listed a.session f.ino h.exclusive)
      (ap (λ o. safety.has_dirty_page f.ino p o) at ∙ dirty_listed a.store.pages.dirty f.ino p h.dirty))
    where
      a : Association
      a = h.association

      is : cl.association_with site.node.state f.server ≡ Some a
      is = ap (λ v. find (is_at v) site.node.state.associations) (sym h.there) ∙ found_there site.node.state.associations a apart h.listed

      at : association_of w c f.server ≡ Some a
      at = ap (λ o. safety_at o) there ∙ is
        where
          safety_at : Option WorldClient → Option Association
          safety_at None = None
          safety_at (Some z) = cl.association_with z.node.state f.server

      lasts : Lasts site.node.state.config.lease Now.0 a.session
      lasts = lasting site.node.state.config.lease Now.0 site.node.state.associations a last h.listed

      before : (o : Option ClientSession) → 2 ≤ (held_in o f.ino).mode → Lasts site.node.state.config.lease Now.0 o → cl.association_with site.node.state f.server ≡ Some a → safety.is_before Now (cl.lease_end_with site.node.state f.server) ≡ true
      before o m l e = ap (λ x. safety.is_before Now (end_at site.node.state.config (cl.lease_at x))) e ∙ by a.session h.exclusive lasts
        where
          by : (o : Option ClientSession) → 2 ≤ (held_in o f.ino).mode → Lasts site.node.state.config.lease Now.0 o → safety.is_before Now (end_at site.node.state.config (option_map cl.lease_of_session o)) ≡ true
          by None m l = absurd (omega (arith, m))
          by (Some s) m l = lt-ltb Now.0 _ l

  record LockedSeen (old new : List Observation) : Type 0 where
    pub more : List Observation
    pub is : new ≡ old ++ more
    pub right : list_all (safety.is_change_locked w) more ≡ true

  line_then : (old : List Observation) (o : Observation) (new : List Observation) → safety.is_change_locked w o ≡ true → LockedSeen (old ++ o ∷ []) new → LockedSeen old new
  line_then old o new h r = record { more = o ∷ r.more; is = r.is ∙ append_assoc old (o ∷ []) r.more; right = and_both (safety.is_change_locked w o) _ h r.right }

  locked_all : (before : ClientState) (os : List Output) (sc : WorldTurn) → AllHeld site.node.state.associations os → LockedSeen sc.seen (client_says_all c before os sc).seen
  unfolding client_says_all client_says ev.sends ev.submits ev.answers_with client_notes ev.accepts ev.patches ev.loses
  locked_all before [] sc r = record { more = []; is = sym (append-nil sc.seen); right = refl }
  locked_all before (outputs.Send m ∷ os) sc r = line_then sc.seen _ _ refl (locked_all before os (client_says sc c before (outputs.Send m)) r.rest)
  locked_all before (outputs.Answer op a ∷ os) sc r = line_then sc.seen _ _ refl (locked_all before os (client_says sc c before (outputs.Answer op a)) r.rest)
  locked_all before (outputs.Submit n at what ∷ os) sc r = go (site_of sc.world c) (λ sc. locked_all before os sc r.rest)
    where
      go : (o : Option WorldClient) → ((sc : WorldTurn) → LockedSeen sc.seen (client_says_all c before os sc).seen) → LockedSeen sc.seen (client_says_all c before os (ev.submits sc c o n at what)).seen
      go None f = f sc
      go (Some z) f = line_then sc.seen _ _ refl (f (ev.submits sc c (Some z) n at what))
  locked_all before (outputs.Note n ∷ os) sc r = note n r.one (λ sc. locked_all before os sc r.rest)
    where
      note : (n : Note) → NoteHeld site.node.state.associations (outputs.Note n) → ((sc : WorldTurn) → LockedSeen sc.seen (client_says_all c before os sc).seen) → LockedSeen sc.seen (client_says_all c before os (client_notes sc c before n)).seen
      note (notes.Leased s end) h f = line_then sc.seen _ _ refl (f (client_notes sc c before (notes.Leased s end)))
      note (notes.Lost s life) h f = line_then sc.seen _ _ refl (f (client_notes sc c before (notes.Lost s life)))
      note (notes.Accepted g p bytes) h f = line_then sc.seen _ _ (locked g p h) (f (client_notes sc c before (notes.Accepted g p bytes)))
      note (notes.Patched g p at bytes) h f = line_then sc.seen _ _ (locked g p h) (f (client_notes sc c before (notes.Patched g p at bytes)))
      note n h f = f sc

pub changes_lie_under_locks : ChangesLieUnderLocks
changes_lie_under_locks w v c site before os there runs apart last held =
    let q = locked_all w c site there runs apart last before os (ev.quiet v) held in
    ap (λ ys. list_all (safety.is_change_locked w) ys) q.is ∙ q.right
