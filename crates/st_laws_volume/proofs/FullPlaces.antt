-- Take 64 dirty pages of a server, other than the one that an ask writes or patches. If each has an
-- entry of which the client may still be told, the volume lets this ask be answered `dirtyfull`.
use Rattle.st_lemmas.proofs.Words
use Words.{◌≡◌, ℕ, Bool, true, false, not, ◌&&◌, ◌==◌, List, [], ◌∷◌, ◌++◌, Option, Some, None, refl, sym, ap, ◌∙◌, subst, inl, inr, arith}
use Words.{cond, eq-eqb, filter, filter_map, is_some, leb-true, length, list_any, lt-ltb, map, nat_le, nat_lt, ClientId, FileId, PageNo, ServerId, Ask, DirtyPage}
use Words.{◌||◌, slice_get, Change, LogEntry, LogOwner}
use Words.asks
use Words.changes
use Words.ClientPages as pages
use Words.ClientState.{Association}
use Words.Events.{changes_page, is_change}
use Words.Lists.{Has}
use Words.Lookups.{some_is}
use Words.Members.{has_filter_map, has_left, some_member_passes}
use Words.Numbers.{get_has}
use Words.Tables.{and_both, and_true, has_filter, has_filter_in, has_map, has_map_in, not_true, some_passes}
use Words.Truth.{clash}
use Rattle.std.proofs.lemmas.List.{length-map}
use Rattle.st_laws_pages.specs.Flush.Flush.{file_at, owner_at_page}
use Rattle.st_laws_volume.specs.Logs.{IsSame, ask_of}
use Rattle.st_laws_volume.specs.LossMarks.{IsOnce}
use Rattle.st_laws_volume.proofs.PlaceCounts.{AllApart, apart_few, distinct_has, place_is}
use Rattle.st_volume.specs.Pages.{Entry, is_any, is_at as is_place, is_by, is_by_at, is_dropped, place_of, same_place}
use Rattle.st_volume.specs.Volume as volume
use Rattle.st_volume.specs.Volume.{Pending, Volume, may_be_dirty, places_at, with_places}

-- Places of asks.
place_at : (ask : Ask) (x : FileId × PageNo) → is_place x ask ≡ true → place_of ask ≡ Some x
place_at ask x q = go (place_of ask) q
  where
    go : (o : Option (FileId × PageNo)) → is_any (same_place x) o ≡ true → o ≡ Some x
    go None z = cc z
    go (Some y) z = ap (λ k. Some k) (sym (place_is x y z))

server_at : (ask : Ask) (x : FileId × PageNo) → place_of ask ≡ Some x →
    volume.server_of ask ≡ x.0.server
server_at (asks.Write f p bytes) x q = ap (λ (y : FileId × PageNo). y.0.server) (some_is q)
server_at (asks.Patch f p at bytes) x q = ap (λ (y : FileId × PageNo). y.0.server) (some_is q)
server_at (asks.Sync f) x q = cc q
server_at (asks.Read f p) x q = cc q
server_at (asks.Cut f p) x q = cc q
server_at (asks.Name s ask) x q = cc q

-- Dirty pages that are kept.
once_filter : (test : DirtyPage → Bool) (ds : List DirtyPage) → IsOnce ds → IsOnce (filter test ds)
once_filter test [] o = tt
once_filter test (d ∷ ds) o = go (test d) (once_filter test ds o.1)
  where
    go : (b : Bool) → IsOnce (filter test ds) →
        IsOnce (cond b (d ∷ filter test ds) (filter test ds))
    go true r = (λ x i. o.0 x (has_filter test ds x i).0, r)
    go false r = r

abbrev pub file_of : ServerId → ℕ → FileId
file_of s ino = record { server = s; ino = ino }

-- a page has an entry of the client, which hasn't crashed since and wasn't told of it, and the
-- entry wasn't dropped
abbrev pub HasEntry : Volume → ClientId → ServerId → ℕ → PageNo → Type 0
HasEntry v c s ino p = list_any (λ e. is_by_at c (file_of s ino, p) e && may_be_dirty c e) v.log ≡
    true

-- The entry of the log that is a page's latest.
module _ (v : Volume) (c : ClientId) (b : Association) (ino : ℕ) (p : PageNo) (n : ℕ) (o : LogEntry)
    (f : Entry) (at : slice_get v.log n ≡ Some f)
    (same : IsSame o f) (change : is_change o ≡ true) (own : o.of ≡ owner_at_page c b ino p)
    (untold : f.told ≡ false) (uncrashed : f.crashed ≡ false)
    (kept : is_dropped f.fate ≡ false) where
  its_client : is_by c f ≡ true
  its_client = eq-eqb c.0 f.client.0
      (ap (λ (k : ClientId). k.0) (sym (same.client change ∙ ap (λ (k : LogOwner). k.client) own)))

  its_place : is_by_at c (file_at b ino, p) f ≡ true
  its_place =
      and_both (is_by c f) (is_place (file_at b ino, p) f.what) its_client
      (ap (is_place (file_at b ino, p)) same.what ∙ at_change o.change change)
    where
      matches : same_place (file_at b ino, p) (o.of.file, o.of.page) ≡ true
      matches =
          subst (λ (k : LogOwner). same_place (file_at b ino, p) (k.file, k.page) ≡ true) (sym own)
          (and_both ((b.server.0 == b.server.0) && (ino == ino)) (p.0 == p.0)
          (and_both (b.server.0 == b.server.0) (ino == ino) (eq-eqb b.server.0 b.server.0 refl)
          (eq-eqb ino ino refl))
          (eq-eqb p.0 p.0 refl))

      at_change : (ch : Change) → changes_page ch ≡ true →
          is_place (file_at b ino, p) (ask_of o.of.file o.of.page ch) ≡ true
      at_change (changes.Write bytes) z = matches
      at_change (changes.Patch at bytes) z = matches
      at_change changes.Cut z = cc z

  pub entry_has : HasEntry v c b.server ino p
  entry_has =
      some_passes (λ (e : Entry). is_by_at c (file_at b ino, p) e && may_be_dirty c e) v.log f
      (get_has v.log n f at)
      (and_both (is_by_at c (file_at b ino, p) f) (may_be_dirty c f) its_place
      (and_both (is_by c f) (not (f.crashed || (f.told || is_dropped f.fate))) its_client
      (ap (λ k. not (k || (f.told || is_dropped f.fate))) uncrashed
      ∙ (ap (λ k. not (false || (k || is_dropped f.fate))) untold ∙ ap not kept))))

-- Dirty pages of a server, each once.
module _ (v : Volume) (c : ClientId) (s : ServerId) (ds : List DirtyPage) (once : IsOnce ds)
    (have : (d : DirtyPage) → Has d ds → HasEntry v c s d.ino d.page) (q : Pending)
    (client : q.client ≡ c) (f : FileId) (p : PageNo)
    (at : place_of q.ask ≡ Some (f, p)) (own : f.server ≡ s)
    (full : nat_le 64 (length (pages.without_dirty f.ino p ds)) ≡ true) where
  abbrev place_dirty : DirtyPage → FileId × PageNo
  place_dirty d = (file_of s d.ino, d.page)

  abbrev others : List DirtyPage
  others = pages.without_dirty f.ino p ds

  abbrev mine : List (FileId × PageNo)
  mine = (f, p) ∷ map place_dirty others

  abbrev whats : List Ask
  whats = q.ask ∷ map (λ (e : Entry). e.what) (filter (may_be_dirty q.client) v.log)

  abbrev theirs : List (FileId × PageNo)
  theirs = places_at (volume.server_of q.ask) (with_places whats [])

  in_theirs : (x : FileId × PageNo) → Has x (filter_map place_of whats) → x.0.server.0 ≡ s.0 →
      Has x theirs
  in_theirs x i k =
      has_filter_in (λ (y : FileId × PageNo). y.0.server.0 == (volume.server_of q.ask).0)
      (with_places whats []) x
      (distinct_has (filter_map place_of whats ++ []) x
      (has_left (filter_map place_of whats) [] x i))
      (eq-eqb x.0.server.0 (volume.server_of q.ask).0
      (k ∙ ap (λ (y : ServerId). y.0) (sym (server_at q.ask (f, p) at ∙ own))))

  each : (x : FileId × PageNo) → Has x mine → Has x theirs
  each x (inl e) =
      in_theirs x (has_filter_map place_of whats q.ask x (inl refl) (at ∙ ap (λ k. Some k) (sym e)))
      (ap (λ (y : FileId × PageNo). y.0.server.0) e ∙ ap (λ (k : ServerId). k.0) own)
  each x (inr i) = dirty_there m.0 m.1 m.2
    where
      m : (d : DirtyPage) × Has d others × (x ≡ place_dirty d)
      m = has_map place_dirty others x i

      dirty_there : (d : DirtyPage) → Has d others → x ≡ place_dirty d → Has x theirs
      dirty_there d j same =
          in_theirs x
          (has_filter_map place_of whats e.0.what x
          (inr (has_map_in (λ (e : Entry). e.what) (filter (may_be_dirty q.client) v.log) e.0
          (has_filter_in (may_be_dirty q.client) v.log e.0 e.1
          (subst (λ k. may_be_dirty k e.0 ≡ true) (sym client) k.1))))
          (place_at e.0.what (place_dirty d)
          (and_true (is_by c e.0) (is_place (place_dirty d) e.0.what) k.0).1 ∙
          ap (λ y. Some y) (sym same)))
          (ap (λ (y : FileId × PageNo). y.0.server.0) same)
        where
          g : Has d ds × (not (pages.is_dirty_of f.ino p d) ≡ true)
          g = has_filter (λ (y : DirtyPage). not (pages.is_dirty_of f.ino p y)) ds d j

          e : (e : Entry) × Has e v.log ×
              ((is_by_at c (place_dirty d) e && may_be_dirty c e) ≡ true)
          e =
              some_member_passes (λ (y : Entry). is_by_at c (place_dirty d) y && may_be_dirty c y)
              v.log
              (have d g.0)

          k : (is_by_at c (place_dirty d) e.0 ≡ true) × (may_be_dirty c e.0 ≡ true)
          k = and_true (is_by_at c (place_dirty d) e.0) (may_be_dirty c e.0) e.2

  same_dirty : (ino : ℕ) (r : PageNo) (d : DirtyPage) → place_dirty d ≡ (file_of s ino, r) →
      pages.is_dirty_of ino r d ≡ true
  same_dirty ino r d e =
      and_both (d.ino == ino) (d.page.0 == r.0)
      (eq-eqb d.ino ino (ap (λ (y : FileId × PageNo). y.0.ino) e))
      (eq-eqb d.page.0 r.0 (ap (λ (y : FileId × PageNo). y.1.0) e))

  apart_map : (ds : List DirtyPage) → IsOnce ds → AllApart (map place_dirty ds)
  apart_map [] o = tt
  apart_map (d ∷ ds) o = (
    λ z i e. let m = has_map place_dirty ds z i in
        clash (same_dirty d.ino d.page m.0 (sym m.2 ∙ e)) (o.0 m.0 m.1),
    apart_map ds o.1,
  )

  apart : AllApart mine
  apart = (
    first,
    apart_map others
        (once_filter (λ (y : DirtyPage). not (pages.is_dirty_of f.ino p y)) ds once),
  )
    where
      first : (z : FileId × PageNo) → Has z (map place_dirty others) → z ≡ (f, p) → ⊥
      first z i e =
          let m = has_map place_dirty others z i in
          let g = has_filter (λ (y : DirtyPage). not (pages.is_dirty_of f.ino p y)) ds m.0 m.1 in
          clash
          (and_both (m.0.ino == f.ino) (m.0.page.0 == p.0)
          (eq-eqb m.0.ino f.ino (ap (λ (y : FileId × PageNo). y.0.ino) (sym m.2 ∙ e)))
          (eq-eqb m.0.page.0 p.0 (ap (λ (y : FileId × PageNo). y.1.0) (sym m.2 ∙ e))))
          (not_true (pages.is_dirty_of f.ino p m.0) g.1)

  pub is_full : volume.is_dirty_full v q ≡ true
  is_full =
      and_both (is_some (place_of q.ask)) (nat_lt 64 (length theirs)) (ap is_some at)
      (lt-ltb 64 (length theirs)
      (let few = apart_few mine theirs apart each in
      let n = length-map others place_dirty in
      let m = leb-true 64 (length others) full in omega (arith, few, n, m)))
