-- A client sends the request of a cut or of an ask for a name only if no earlier operation must take effect before it, but for asks that need no file.
use Rattle.st_lemmas.proofs.Words
use Words.{◌≡◌, ℕ, Bool, true, false, not, ◌&&◌, ◌||◌, ◌==◌, List, [], ◌∷◌, Option, Some, None, refl, sym, ap, ◌∙◌, subst, inl, inr, if◌then◌else◌}
use Words.{eq-eqb, eqb-true, is_some, list_any, Ask, Body, FileId, HeldLock, Operation, PageNo, ServerId, Stamp}
use Words.asks
use Words.bodies
use Words.modes
use Words.ClientLocks as locks
use Words.ClientPages as pages
use Words.ClientPasses as cp
use Words.ClientState as cs
use Words.ClientState.{ClientSession, Turn, is_of, is_open_file, is_sent, is_serving}
use Words.Lists.{Has}
use Words.Lookups.{some_is}
use Words.Members.{has_left}
use Words.Tables.{and_both, and_true, some_passes}
use Words.Truth.{clash}
use Rattle.st_base.specs.declared.names.NameAsk.TheVariants as names
use Rattle.st_base.specs.Mode.{covers}
use Rattle.st_trace.specs.Client.Requests as asking
use Rattle.st_trace.specs.Client.Requests.{AsksFirst, Wants}
use Rattle.st_laws_volume.specs.SentOrder.{Fine}
use Rattle.st_laws_volume.proofs.WaitingChanges.{Changes}
use Rattle.st_volume.specs.Pages.{is_at, place_of, same_file}
use Rattle.st_volume.specs.Volume as volume
use Rattle.st_volume.specs.Volume.{cuts_file, is_cut_or_name, is_sooner}

-- What must take effect sooner is of the same file, and changes it, cuts it or is for a name.
pub record Sooner (a b : Ask) : Type 0 where
  pub file : same_file (volume.file_of a) (volume.file_of b) ≡ true
  pub kind : (is_some (place_of a) || is_cut_or_name a) ≡ true

pub sooner_is : (a b : Ask) → is_cut_or_name b ≡ true → is_sooner a b ≡ true → Sooner a b
sooner_is (asks.Write f p bytes) b k q =
    record { file = (and_true (is_cut_or_name b) (same_file f (volume.file_of b)) (sym (none b k) ∙ q)).1; kind = refl }
  where
    none : (b : Ask) → is_cut_or_name b ≡ true → (is_at (f, p) b || cuts_file f b) ≡ cuts_file f b
    none (asks.Cut g r) k = refl
    none (asks.Name s ask) k = refl
    none (asks.Write g r c) k = cc k
    none (asks.Patch g r at c) k = cc k
    none (asks.Read g r) k = cc k
    none (asks.Sync g) k = cc k
sooner_is (asks.Patch f p at bytes) b k q = record { file = (and_true (is_cut_or_name b) (same_file f (volume.file_of b)) q).1; kind = refl }
sooner_is (asks.Cut f p) b k q = record { file = (and_true (is_cut_or_name b) (same_file f (volume.file_of b)) q).1; kind = refl }
sooner_is (asks.Name s ask) b k q =
    record { file = (and_true (is_cut_or_name b) (same_file (volume.file_of (asks.Name s ask)) (volume.file_of b)) q).1; kind = refl }
sooner_is (asks.Read f p) b k q = cc q
sooner_is (asks.Sync f) b k q = cc q

-- The file of an ask, in the client's words.
pub server_is : (a : Ask) → volume.server_of a ≡ cs.server_of a
server_is (asks.Write f p bytes) = refl
server_is (asks.Patch f p at bytes) = refl
server_is (asks.Read f p) = refl
server_is (asks.Sync f) = refl
server_is (asks.Cut f p) = refl
server_is (asks.Name s (names.Remove dir name ino)) = refl
server_is (asks.Name s (names.Lookup dir name)) = refl
server_is (asks.Name s (names.Create dir name)) = refl
server_is (asks.Name s (names.Mkdir dir name)) = refl
server_is (asks.Name s (names.Rename dir name dir2 name2)) = refl
server_is (asks.Name s (names.List dir after)) = refl

file_there : (a : Ask) → ((volume.file_of a).ino ≡ 0 → ⊥) → cs.file_of a ≡ Some (volume.file_of a).ino
unfolding cs.meant
file_there (asks.Write f p bytes) n = refl
file_there (asks.Patch f p at bytes) n = refl
file_there (asks.Read f p) n = refl
file_there (asks.Sync f) n = refl
file_there (asks.Cut f p) n = refl
file_there (asks.Name s (names.Remove dir name ino)) n = go (ino == 0) refl
  where
    go : (b : Bool) → (ino == 0) ≡ b → ◌≡◌ {A = Option ℕ} (if b then None else Some ino) (Some ino)
    go true q = absurd (n (eqb-true ino 0 q))
    go false q = refl
file_there (asks.Name s (names.Lookup dir name)) n = absurd (n refl)
file_there (asks.Name s (names.Create dir name)) n = absurd (n refl)
file_there (asks.Name s (names.Mkdir dir name)) n = absurd (n refl)
file_there (asks.Name s (names.Rename dir name dir2 name2)) n = absurd (n refl)
file_there (asks.Name s (names.List dir after)) n = absurd (n refl)

-- Changes that could be served don't wait while their file is idle.
abbrev pub NoneWaits : Stamp → Turn → Type 0
NoneWaits now t =
    (s : ClientSession) → t.here.session ≡ Some s → s.releases ≡ [] → (j : Operation) → Has j t.operations → (f : FileId) (p : PageNo) → Changes j.ask f p →
    is_of t.here.server j ≡ true → is_serving t.config s now ≡ true → is_open_file t.operations t.here.server s (Some f.ino) ≡ true →
    cp.may_write t s f p ≡ true → pages.is_idle t.here.store f.ino ≡ true → ⊥

module _ (now : Stamp) (t : Turn) (stays : NoneWaits now t) (s : ClientSession) (session : t.here.session ≡ Some s) (released : s.releases ≡ [])
    (serving : is_serving t.config s now ≡ true) (xs : List Operation) (o : Operation) (ys : List Operation) (w : cp.Wanted)
    (first : AsksFirst t s now xs o ys w t.operations) (own : w.own ≡ true) where
  -- what it holds, if it names a file
  record Holds (i : ℕ) : Type 0 where
    lock : HeldLock
    is : locks.lock_of s.locks i ≡ Some lock
    exclusive : covers lock.mode modes.X ≡ true
    idle : pages.is_idle t.here.store i ≡ true

  pub kind_of : (a : Ask) (v : cp.Wanted) → v.own ≡ true → Wants t s now a v → is_cut_or_name a ≡ true
  kind_of a _ mine (asking.ForLock ino e q c d) = cc mine
  kind_of a _ mine (asking.ForPlace f p l e q c d) = cc mine
  kind_of a _ mine (asking.ToWrite f p bytes l e q c d) = cc mine
  kind_of a _ mine (asking.ToPatch f p at bytes l e q c d) = cc mine
  kind_of a _ mine (asking.ToCut f p l e q c d) = ap is_cut_or_name e
  kind_of a _ mine (asking.ToRemove server n ino l e f q c d) = ap is_cut_or_name e
  kind_of a _ mine (asking.ToName server n e f) = ap is_cut_or_name e

  holds : (i : ℕ) → cs.file_of o.ask ≡ Some i → (a : Ask) → o.ask ≡ a → (v : cp.Wanted) → v.own ≡ true → Wants t s now a v → Holds i
  holds i g a z _ mine (asking.ForLock ino e q c d) = cc mine
  holds i g a z _ mine (asking.ForPlace f p l e q c d) = cc mine
  holds i g a z _ mine (asking.ToWrite f p bytes l e q c d) = cc mine
  holds i g a z _ mine (asking.ToPatch f p at bytes l e q c d) = cc mine
  holds i g a z _ mine (asking.ToCut f p l e q c d) =
      subst Holds (some_is (sym (ap cs.file_of (z ∙ e)) ∙ g)) (record { lock = l; is = q; exclusive = c; idle = d })
  holds i g a z _ mine (asking.ToRemove server n ino l e f q c d) =
      subst Holds (some_is (sym f ∙ (sym (ap cs.file_of (z ∙ e)) ∙ g))) (record { lock = l; is = q; exclusive = c; idle = d })
  holds i g a z _ mine (asking.ToName server n e f) = absurd (no (sym f ∙ (sym (ap cs.file_of (z ∙ e)) ∙ g)))
    where
      no : ◌≡◌ {A = Option ℕ} None (Some i) → ⊥
      no q = cc q

  may : (is_of t.here.server o ≡ true) × (is_open_file t.operations t.here.server s (cs.file_of o.ask) ≡ true)
  may =
      let a = and_true (is_of t.here.server o) (not (is_sent o) && is_open_file t.operations t.here.server s (cs.file_of o.ask)) first.may in
      (a.0, (and_true (not (is_sent o)) (is_open_file t.operations t.here.server s (cs.file_of o.ask)) a.1).1)

  module _ (j : Operation) (i : Has j xs) where
    listed : Has j t.operations
    listed = subst (Has j) (sym first.there) (has_left xs (o ∷ ys) j i)

    -- of the same server
    same_server : same_file (volume.file_of j.ask) (volume.file_of o.ask) ≡ true → is_of t.here.server j ≡ true
    same_server q =
        let a = and_true ((volume.file_of j.ask).server.0 == (volume.file_of o.ask).server.0) ((volume.file_of j.ask).ino == (volume.file_of o.ask).ino) q in
        ap (λ (r : ServerId). r.0 == t.here.server.0)
        (sym (server_is j.ask) ∙ (ap (λ n. record { 0 = n }) (eqb-true (volume.file_of j.ask).server.0 (volume.file_of o.ask).server.0 a.0) ∙ server_is o.ask))
        ∙ may.0

    -- it asks nothing, if it may ask
    asks_nothing : is_of t.here.server j ≡ true → is_sent j ≡ false → is_open_file t.operations t.here.server s (cs.file_of j.ask) ≡ true →
        cp.want t s now j.ask ≡ None
    unfolding cp.asked_by
    asks_nothing own_ unsent open_ =
        sym (ap (λ b. if b then cp.want t s now j.ask else None)
        (and_both (is_of t.here.server j) (not (is_sent j) && is_open_file t.operations t.here.server s (cs.file_of j.ask)) own_
        (and_both (not (is_sent j)) (is_open_file t.operations t.here.server s (cs.file_of j.ask)) (ap not unsent) open_)))
        ∙ first.before j i

    none_some : {A : Type 0} (x : A) → ◌≡◌ {A = Option A} (Some x) None → ⊥
    none_some x q = cc q

    -- an ask for a name that needs no file
    no_name : (a : Ask) → cs.file_of a ≡ None → cp.want t s now a ≡ None → ⊥
    unfolding cp.want cp.want_at cp.want_name
    no_name (asks.Name sv n) f q = none_some _ (sym (ap (λ z. cp.want_at t s now (asks.Name sv n) z) f) ∙ q)
    no_name (asks.Write f p bytes) e q = cc e
    no_name (asks.Patch f p at bytes) e q = cc e
    no_name (asks.Read f p) e q = cc e
    no_name (asks.Cut f p) e q = cc e
    no_name (asks.Sync f) e q = cc e

    -- on the file
    module _ (k : ℕ) (h : Holds k) (mine : is_of t.here.server j ≡ true) (free : is_open_file t.operations t.here.server s (Some k) ≡ true) where
      held : (a : Ask) → cp.need a ≡ modes.X → cp.want_on t s now a k ≡ cp.want_held t a k h.lock.g
      unfolding cp.want_on cp.want_by cp.want_under
      held a n =
          ap (cp.want_by t s now a k) h.is
          ∙ ap (λ b. if b then cp.want_held t a k h.lock.g else cp.want_lock t s now k (cp.need a)) (ap (covers h.lock.mode) n ∙ h.exclusive)

      cuts : (b : Body) (p : PageNo) → cp.want_cut t k b p ≡ None → ⊥
      unfolding cp.want_cut
      cuts b p q = none_some _ (sym (ap (λ z. if z then cp.wanted_cut b k p else None) h.idle) ∙ q)

      mapped : (p : PageNo) → cp.want_block t k h.lock.g p ≡ None → pages.is_mapped t.here.store.extents k p ≡ true
      unfolding cp.want_block
      mapped p q = go (pages.is_mapped t.here.store.extents k p) refl q
        where
          go : (b : Bool) → pages.is_mapped t.here.store.extents k p ≡ b →
              ◌≡◌ {A = Option cp.Wanted} (if b then None else cp.wanted (bodies.Allocate k h.lock.g p 1)) None →
              pages.is_mapped t.here.store.extents k p ≡ true
          go true e z = e
          go false e z = absurd (none_some _ z)

      changed : (f : FileId) (p : PageNo) → f.ino ≡ k → Changes j.ask f p → cp.want_block t k h.lock.g p ≡ None → ⊥
      changed f p e c q =
          stays s session released j listed f p c mine serving (ap (λ n. is_open_file t.operations t.here.server s (Some n)) e ∙ free)
          (and_both (cp.holds s modes.X f) (pages.is_mapped t.here.store.extents f.ino p)
          (ap (λ n. covers (locks.mode_of s.locks n) modes.X) e ∙ (ap (λ o. covers (locks.mode_at o) modes.X) h.is ∙ h.exclusive))
          (ap (λ n. pages.is_mapped t.here.store.extents n p) e ∙ mapped p q))
          (ap (pages.is_idle t.here.store) e ∙ h.idle)

      on_file : (a : Ask) → j.ask ≡ a → cs.file_of a ≡ Some k → (is_some (place_of a) || is_cut_or_name a) ≡ true → cp.want t s now a ≡ None → ⊥
      unfolding cp.want cp.want_at cp.want_held cp.want_name
      on_file (asks.Write f p bytes) e g n q =
          let z = some_is g in
          changed f p z (subst (λ a. Changes a f p) (sym e) (refl, refl))
          (sym (held (asks.Write f p bytes) refl) ∙ (ap (cp.want_on t s now (asks.Write f p bytes)) (sym z) ∙ q))
      on_file (asks.Patch f p at bytes) e g n q =
          let z = some_is g in
          changed f p z (subst (λ a. Changes a f p) (sym e) (refl, refl))
          (sym (held (asks.Patch f p at bytes) refl) ∙ (ap (cp.want_on t s now (asks.Patch f p at bytes)) (sym z) ∙ q))
      on_file (asks.Cut f p) e g n q =
          let z = some_is g in cuts _ p (sym (held (asks.Cut f p) refl) ∙ (ap (cp.want_on t s now (asks.Cut f p)) (sym z) ∙ q))
      on_file (asks.Name sv ask) e g n q =
          cuts _ _ (sym (held (asks.Name sv ask) refl) ∙ (sym (ap (λ z. cp.want_at t s now (asks.Name sv ask) z) g) ∙ q))
      on_file (asks.Read f p) e g n q = cc n
      on_file (asks.Sync f) e g n q = cc n

      -- it isn't sent, since the file isn't busy
      unsent : cs.file_of j.ask ≡ Some k → is_sent j ≡ true → ⊥
      unsent g q =
          clash
          (some_passes (cs.is_sent_on t.here.server k) t.operations j listed
          (and_both (is_sent j) (cs.is_on t.here.server k j) q
          (and_both (is_of t.here.server j) (cs.is_file k (cs.file_of j.ask)) mine (ap (cs.is_file k) g ∙ eq-eqb k k refl))))
          (not_busy (and_true (not (locks.is_demanded s.locks k)) (not (cs.is_busy t.operations t.here.server s k)) free).1)
        where
          not_busy : not (cs.is_busy t.operations t.here.server s k) ≡ true → list_any (cs.is_sent_on t.here.server k) t.operations ≡ false
          not_busy = go (cs.is_file k s.cutting) (list_any (cs.is_sent_on t.here.server k) t.operations)
            where
              go : (a b : Bool) → not (a || b) ≡ true → b ≡ false
              go true b q = cc q
              go false true q = cc q
              go false false q = refl

    pub fine : Fine j o.ask
    fine = go (is_sooner j.ask o.ask) refl
      where
        its_kind : is_cut_or_name o.ask ≡ true
        its_kind = kind_of o.ask w own first.wants

        by : is_sooner j.ask o.ask ≡ true → Fine j o.ask
        by q = at_ino ((volume.file_of o.ask).ino == 0) refl
          where
            z : Sooner j.ask o.ask
            z = sooner_is j.ask o.ask its_kind q

            mine : is_of t.here.server j ≡ true
            mine = same_server z.file

            ino : (volume.file_of j.ask).ino ≡ (volume.file_of o.ask).ino
            ino = eqb-true (volume.file_of j.ask).ino (volume.file_of o.ask).ino
                (and_true ((volume.file_of j.ask).server.0 == (volume.file_of o.ask).server.0) _ z.file).1

            -- both name no file
            none : (volume.file_of o.ask).ino ≡ 0 → (b : Bool) → is_sent j ≡ b → (f : Option ℕ) → cs.file_of j.ask ≡ f → Fine j o.ask
            none e true k f g = inr (e, inl k)
            none e false k (Some x) g = inr (e, inr (ap is_some g))
            none e false k None g =
                absurd (no_name j.ask g (asks_nothing mine k (ap (is_open_file t.operations t.here.server s) g)))

            -- both name this one
            some : ((volume.file_of o.ask).ino ≡ 0 → ⊥) → Fine j o.ask
            some n = sent (is_sent j) refl
              where
                k : ℕ
                k = (volume.file_of o.ask).ino

                its : cs.file_of o.ask ≡ Some k
                its = file_there o.ask n

                j_file : cs.file_of j.ask ≡ Some k
                j_file = file_there j.ask (λ e. n (sym ino ∙ e)) ∙ ap (λ x. Some x) ino

                h : Holds k
                h = holds k its o.ask refl w own first.wants

                free : is_open_file t.operations t.here.server s (Some k) ≡ true
                free = ap (is_open_file t.operations t.here.server s) (sym its) ∙ may.1

                sent : (b : Bool) → is_sent j ≡ b → Fine j o.ask
                sent true e = absurd (unsent k h mine free j_file e)
                sent false e =
                    absurd (on_file k h mine free j.ask refl j_file z.kind
                    (asks_nothing mine e (ap (is_open_file t.operations t.here.server s) j_file ∙ free)))

            at_ino : (b : Bool) → ((volume.file_of o.ask).ino == 0) ≡ b → Fine j o.ask
            at_ino true e = none (eqb-true (volume.file_of o.ask).ino 0 e) (is_sent j) refl (cs.file_of j.ask) refl
            at_ino false e = some (λ y. clash (eq-eqb (volume.file_of o.ask).ino 0 y) e)

        go : (b : Bool) → is_sooner j.ask o.ask ≡ b → Fine j o.ask
        go false q = inl q
        go true q = by q
