-- Writes of one dirty page.
use Rattle.std.proofs.Common.{◌≡◌, ℕ, zero, suc, ◌+◌, ◌<◌, length, drop, get_or, subst, arith, add-one, Bool, true, false, ◌==◌, not, cond, if◌then◌else◌, List, [], ◌∷◌, Option, Some, None, refl, sym, ap, ◌∙◌, true≢false}
use Rattle.std.specs.Prelude.{find}
use Rattle.std.specs.Option.{option_map_or}
use Rattle.std.proofs.lemmas.Bool.{and_parts, eqb-true, not-true}
use Rattle.st_base.specs.declared.ids.PageNo.{PageNo}
use Rattle.st_base.specs.declared.ids.Stamp.{Stamp}
use Rattle.st_rules.specs.Keys.{same_page}
use Rattle.st_rules.specs.declared.client.MappedBlock.{MappedBlock}
use Rattle.st_rules.specs.declared.pages.DirtyPage.{DirtyPage}
use Rattle.st_rules.specs.ClientPages as pages
use Rattle.st_rules.specs.ClientPages.{is_dirty_of}
use Rattle.st_rules.specs.ClientPasses as passes
use Rattle.st_rules.specs.ClientPasses.{is_writable, submit_command, submit_write, write_out, write_out_at, write_due, write_each, write_page}
use Rattle.st_rules.specs.ClientState.{ClientSession, Turn}
use Rattle.st_client_association.specs.Turns.{session_of}
use Rattle.st_client_passes.specs.PassConditions.{SameSession}

-- what is found at a place is of that place
found_place : (ino : ℕ) (p : PageNo) (d : DirtyPage) (ds : List DirtyPage) → find (is_dirty_of ino p) ds ≡ Some d → (d.ino ≡ ino) × (d.page ≡ p)
found_place ino p d [] e = cc
found_place ino p d (y ∷ ys) e = go (is_dirty_of ino p y) refl e (found_place ino p d ys)
  where
    go : (b : Bool) → is_dirty_of ino p y ≡ b → cond b (Some y) (find (is_dirty_of ino p) ys) ≡ Some d → (find (is_dirty_of ino p) ys ≡ Some d → (d.ino ≡ ino) × (d.page ≡ p)) → (d.ino ≡ ino) × (d.page ≡ p)
    go true f e r =
        let same : y ≡ d = cc in
        let q = and_parts (y.ino == ino) (same_page y.page p) f in
        let i : y.ino ≡ ino = eqb-true _ _ q.0 in
        let n : y.page.0 ≡ p.0 = eqb-true _ _ q.1 in
        let g : y.page ≡ p = λ k. record { 0 = n k } in
        (ap (λ z. z.ino) (sym same) ∙ i, ap (λ z. z.page) (sym same) ∙ g)
    go false f e r = r e

-- a page goes out by what is known of its place
pub out_at : (t : Turn) (ino : ℕ) (p : PageNo) (d : DirtyPage) → pages.dirty_of t.here.store.pages ino p ≡ Some d → write_out t d ≡ write_out_at t d (pages.mapping_of t.here.store.extents ino p)
unfolding write_out
out_at t ino p d e = let f = found_place ino p d t.here.store.pages.dirty e in λ i. write_out_at t d (pages.mapping_of t.here.store.extents (f.0 i) (f.1 i))

pub out_none : (t : Turn) (ino : ℕ) (p : PageNo) (d : DirtyPage) → pages.dirty_of t.here.store.pages ino p ≡ Some d → None ≡ pages.mapping_of t.here.store.extents ino p → t ≡ write_out t d
unfolding write_out_at
out_none t ino p d e m = ap (write_out_at t d) m ∙ sym (out_at t ino p d e)

pub out_some : (t : Turn) (ino : ℕ) (p : PageNo) (d : DirtyPage) (n : MappedBlock) → pages.dirty_of t.here.store.pages ino p ≡ Some d → Some n ≡ pages.mapping_of t.here.store.extents ino p → submit_write t d n ≡ write_out t d
unfolding write_out_at
out_some t ino p d n e m = ap (write_out_at t d) m ∙ sym (out_at t ino p d e)

module _ (t : Turn) (s : ClientSession) (now : Stamp) (tick : Bool) where
  -- a page that is due is not being written
  pub due_free : (ino : ℕ) (p : PageNo) → option_map_or (is_writable t s now tick) (pages.dirty_of t.here.store.pages ino p) false ≡ true → pages.is_being_written t.here.store.commands ino p ≡ false
  due_free ino p h = by (pages.dirty_of t.here.store.pages ino p) refl h
    where
      by : (o : Option DirtyPage) → pages.dirty_of t.here.store.pages ino p ≡ o → option_map_or (is_writable t s now tick) o false ≡ true → pages.is_being_written t.here.store.commands ino p ≡ false
      by None e h = absurd (true≢false (sym h))
      by (Some d) e h =
          let f = found_place ino p d t.here.store.pages.dirty e in
          (λ i. pages.is_being_written t.here.store.commands (sym f.0 i) (sym f.1 i))
          ∙ not-true _ (and_parts (not (pages.is_being_written t.here.store.commands d.ino d.page)) (passes.is_due t s now tick d) h).0

  pub due_out : (u : Turn) (o : Option DirtyPage) → option_map_or (is_writable t s now tick) o false ≡ true → ((d : DirtyPage) → o ≡ Some d → u ≡ write_out t d) → u ≡ write_page t s now tick o
  unfolding write_page write_due
  due_out u None h f = absurd (true≢false (sym h))
  due_out u (Some d) h f = f d refl ∙ sym (ap (λ (b : Bool). if b then write_out t d else t) h)

  pub not_due : (o : Option DirtyPage) → option_map_or (is_writable t s now tick) o false ≡ false → t ≡ write_page t s now tick o
  unfolding write_page write_due
  not_due None h = refl
  not_due (Some d) h = sym (ap (λ (b : Bool). if b then write_out t d else t) h)

  -- a write leaves the settings and the session
  out_keeps : (d : DirtyPage) (m : Option MappedBlock) → SameSession t (write_out_at t d m)
  unfolding write_out_at submit_write submit_command
  out_keeps d None = record { config = refl; session = refl }
  out_keeps d (Some m) = record { config = refl; session = refl }

  due_keeps : (d : DirtyPage) (b : Bool) → SameSession t (if b then write_out t d else t)
  unfolding write_out
  due_keeps d true = out_keeps d (pages.mapping_of t.here.store.extents d.ino d.page)
  due_keeps d false = record { config = refl; session = refl }

  pub page_keeps : (o : Option DirtyPage) → SameSession t (write_page t s now tick o)
  unfolding write_page write_due
  page_keeps None = record { config = refl; session = refl }
  page_keeps (Some d) = due_keeps d (is_writable t s now tick d)

-- the session is the same one
pub session_stays : (t u : Turn) → SameSession t u → session_of u ≡ session_of t
session_stays t u k = λ i. session_of (record u { here = record u.here { session = k.session i } })

pub stays_on : (t u v : Turn) → SameSession t u → SameSession u v → SameSession t v
stays_on t u v k l = record { config = l.config ∙ k.config; session = l.session ∙ k.session }

-- one more page of a list
written_parts : (xs : List (ℕ × PageNo)) (i : ℕ) (d : ℕ × PageNo) → i < length xs → drop i xs ≡ get_or xs i d ∷ drop (i + 1) xs
written_parts xs i d l = rw (add-one i) (go xs i l)
  where
    go : (xs : List (ℕ × PageNo)) (i : ℕ) → i < length xs → drop i xs ≡ get_or xs i d ∷ drop (suc i) xs
    go [] i l = absurd (omega arith)
    go (x ∷ xs) zero l = refl
    go (x ∷ xs) (suc i) l = go xs i (omega arith)

module _ (t0 t u : Turn) (now : Stamp) (tick : Bool) (k : SameSession t0 t) where
  pub written_more : (xs : List (ℕ × PageNo)) (i : ℕ) (d : ℕ × PageNo) → i < length xs → u ≡ write_page t (session_of t) now tick (pages.dirty_of t.here.store.pages (get_or xs i d).0 (get_or xs i d).1) →
      write_each (session_of t0) now tick (drop (i + 1) xs) u ≡ write_each (session_of t0) now tick (drop i xs) t
  unfolding write_each
  written_more xs i d l e =
      ap (write_each (session_of t0) now tick (drop (i + 1) xs)) (e ∙ ap (λ s. write_page t s now tick (pages.dirty_of t.here.store.pages (get_or xs i d).0 (get_or xs i d).1)) (session_stays t0 t k))
      ∙ ap (λ ys. write_each (session_of t0) now tick ys t) (sym (written_parts xs i d l))

  pub same_more : (o : Option DirtyPage) → u ≡ write_page t (session_of t) now tick o → SameSession t0 u
  same_more o e = stays_on t0 t u k (subst (SameSession t) (sym e) (page_keeps t (session_of t) now tick o))
