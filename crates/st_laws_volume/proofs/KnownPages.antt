-- Each page that a client has of a server, clean, dirty or being read, is one of which it knows where it lies; and what it knows is of files with some fact.
use Rattle.st_lemmas.proofs.Words
use Words.{◌≡◌, ◌⊎◌, ℕ, Bool, true, false, not, ◌&&◌, ◌==◌, List, [], ◌∷◌, Option, Some, None, refl, sym, ap, ◌∙◌, subst, inl, inr, if◌then◌else◌}
use Words.{eqb-true, is_some, nat_le, Body, CleanPage, DirtyPage, ExtentRow, IoKind, KnownExtent, PageCommand, PageNo}
use Words.bodies
use Words.ClientPages as pages
use Words.ClientPages.{Store}
use Words.ClientReplies as cr
use Words.Keys.{same_page}
use Words.Lists.{Has}
use Words.Members.{has_take}
use Words.Tables.{and_true, found_at, has_append, has_filter, has_filter_in, has_map, none_passes, not_true}
use Rattle.st_rules.specs.declared.client.IoKind.TheVariants as io
use Rattle.st_lemmas.proofs.Puts.{has_put, has_put_other, has_put_self}

-- something is known of a page
pub record IsKnown (xs : List KnownExtent) (ino : ℕ) (p : PageNo) : Type 0 where
  pub extent : KnownExtent
  pub has : Has extent xs
  pub file : extent.ino ≡ ino
  pub page : extent.page ≡ p

page_same : (p q : PageNo) → same_page p q ≡ true → p ≡ q
page_same p q e = ap (λ n. record { 0 = n }) (eqb-true p.0 q.0 e)

pub known_there : (xs : List KnownExtent) (ino : ℕ) (p : PageNo) (e : KnownExtent) → pages.known_of xs ino p ≡ Some e → IsKnown xs ino p
known_there xs ino p e q =
    let z = found_at (pages.is_known_of ino p) xs e q in
    let b = and_true (e.ino == ino) (same_page e.page p) z.0 in
    record { extent = e; has = z.1; file = eqb-true e.ino ino b.0; page = page_same e.page p b.1 }

pub mapped_known : (xs : List KnownExtent) (ino : ℕ) (p : PageNo) → pages.is_mapped xs ino p ≡ true → IsKnown xs ino p
mapped_known xs ino p m = go (pages.known_of xs ino p) refl m
  where
    go : (o : Option KnownExtent) → pages.known_of xs ino p ≡ o → is_some (pages.mapping_at o) ≡ true → IsKnown xs ino p
    go None q m = cc m
    go (Some e) q m = known_there xs ino p e q

-- What is known is of files of which this holds, and each page lies where it is known.
pub record Stored (R : ℕ → Type 0) (x : Store) : Type 0 where
  pub known : (e : KnownExtent) → Has e x.extents → R e.ino
  pub clean : (y : CleanPage) → Has y x.pages.clean → IsKnown x.extents y.ino y.page
  pub dirty : (d : DirtyPage) → Has d x.pages.dirty → IsKnown x.extents d.ino d.page
  pub reads : (c : PageCommand) → Has c x.commands → c.kind ≡ io.Read → IsKnown x.extents c.ino c.page

module _ (R : ℕ → Type 0) where
  abbrev S : Store → Type 0
  S = Stored R

  pub empty_stored : S pages.empty_store
  empty_stored = record { known = λ e i. absurd i; clean = λ y i. absurd i; dirty = λ d i. absurd i; reads = λ c i k. absurd i }

  -- a page whose bytes are cached
  pub cached_known : (x : Store) → S x → (ino : ℕ) (p : PageNo) (bytes : List ℕ) → pages.cached x.pages ino p ≡ Some bytes → IsKnown x.extents ino p
  cached_known x s ino p bytes q = go (pages.dirty_of x.pages ino p) refl (pages.clean_of x.pages ino p) refl q
    where
      placed : (i : ℕ) (r : PageNo) → i ≡ ino → r ≡ p → IsKnown x.extents i r → IsKnown x.extents ino p
      placed i r a b k = record { extent = k.extent; has = k.has; file = k.file ∙ a; page = k.page ∙ b }

      go : (a : Option DirtyPage) → pages.dirty_of x.pages ino p ≡ a → (b : Option CleanPage) → pages.clean_of x.pages ino p ≡ b →
          pages.cached_at a b ≡ Some bytes → IsKnown x.extents ino p
      go (Some d) f b g q =
          let z = found_at (pages.is_dirty_of ino p) x.pages.dirty d f in
          let k = and_true (d.ino == ino) (same_page d.page p) z.0 in
          placed d.ino d.page (eqb-true d.ino ino k.0) (page_same d.page p k.1) (s.dirty d z.1)
      go None f (Some y) g q =
          let z = found_at (pages.is_clean_of ino p) x.pages.clean y g in
          let k = and_true (y.ino == ino) (same_page y.page p) z.0 in
          placed y.ino y.page (eqb-true y.ino ino k.0) (page_same y.page p k.1) (s.clean y z.1)
      go None f None g q = cc q

  -- Forgetting an idle file from a page on.
  pub forgotten_stored : (x : Store) (ino : ℕ) (p : PageNo) → pages.is_idle x ino ≡ true → S x → S (pages.forget_from x ino p)
  unfolding pages.forget_from pages.drop_from
  forgotten_stored x ino p idle s =
      record {
        known = λ e i. s.known e (has_filter (λ z. not (pages.is_known_behind ino p z)) x.extents e i).0;
        clean = λ y i. clean y (has_filter (λ z. not (pages.is_clean_behind ino p z)) x.pages.clean y i);
        dirty = λ d i. other d.ino d.page (s.dirty d i) (none_passes (pages.is_dirty_on ino) x.pages.dirty none.0 d i);
        reads = λ c i k. other c.ino c.page (s.reads c i k) (none_passes (pages.is_command_on ino) x.commands none.1 c i);
      }
    where
      none : (pages.has_dirty x.pages ino ≡ false) × (pages.is_outstanding x.commands ino ≡ false)
      none =
          let b = and_true (not (pages.has_dirty x.pages ino)) (not (pages.is_outstanding x.commands ino)) idle in
          (not_true (pages.has_dirty x.pages ino) b.0, not_true (pages.is_outstanding x.commands ino) b.1)

      stays : (i : ℕ) (r : PageNo) (k : IsKnown x.extents i r) → ((i == ino) && nat_le p.0 r.0) ≡ false → IsKnown (pages.known_before ino p x.extents) i r
      stays i r k n =
          record {
            extent = k.extent;
            has =
                has_filter_in (λ z. not (pages.is_known_behind ino p z)) x.extents k.extent k.has
                (ap not (ap (λ j. (j == ino) && nat_le p.0 k.extent.page.0) k.file ∙ (ap (λ (q : PageNo). (i == ino) && nat_le p.0 q.0) k.page ∙ n)));
            file = k.file;
            page = k.page;
          }

      clean : (y : CleanPage) → Has y x.pages.clean × (not (pages.is_clean_behind ino p y) ≡ true) → IsKnown (pages.known_before ino p x.extents) y.ino y.page
      clean y z = stays y.ino y.page (s.clean y z.0) (not_true (pages.is_clean_behind ino p y) z.1)

      other : (i : ℕ) (r : PageNo) → IsKnown x.extents i r → (i == ino) ≡ false → IsKnown (pages.known_before ino p x.extents) i r
      other i r k n = stays i r k (ap (λ b. b && nat_le p.0 r.0) n)

  -- Learning where a page lies.
  learned_known : (e : KnownExtent) (xs : List KnownExtent) (ino : ℕ) (p : PageNo) → IsKnown xs ino p → IsKnown (pages.with_known e xs) ino p
  learned_known e xs ino p k = go (pages.is_known_of e.ino e.page k.extent) refl
    where
      go : (b : Bool) → pages.is_known_of e.ino e.page k.extent ≡ b → IsKnown (pages.with_known e xs) ino p
      go false q = record { extent = k.extent; has = has_put_other (pages.is_known_of e.ino e.page) e xs k.extent k.has q; file = k.file; page = k.page }
      go true q =
          let b = and_true (k.extent.ino == e.ino) (same_page k.extent.page e.page) q in
          record {
            extent = e;
            has = has_put_self (pages.is_known_of e.ino e.page) e xs;
            file = sym (eqb-true k.extent.ino e.ino b.0) ∙ k.file;
            page = sym (page_same k.extent.page e.page b.1) ∙ k.page;
          }

  with_known_stored : (e : KnownExtent) (x : Store) → R e.ino → S x → S (record x { extents = pages.with_known e x.extents })
  with_known_stored e x r s =
      record {
        known = λ y i. go y (has_put (pages.is_known_of e.ino e.page) e x.extents y i);
        clean = λ y i. learned_known e x.extents y.ino y.page (s.clean y i);
        dirty = λ d i. learned_known e x.extents d.ino d.page (s.dirty d i);
        reads = λ c i k. learned_known e x.extents c.ino c.page (s.reads c i k);
      }
    where
      go : (y : KnownExtent) → (y ≡ e) ⊎ Has y x.extents → R y.ino
      go y (inl q) = subst (λ (z : KnownExtent). R z.ino) (sym q) r
      go y (inr i) = s.known y i

  with_rows_stored : (ino : ℕ) (rows : List ExtentRow) (x : Store) → R ino → S x → S (record x { extents = pages.with_known_rows ino rows x.extents })
  unfolding pages.with_known_rows
  with_rows_stored ino [] x r s = s
  with_rows_stored ino (y ∷ rows) x r s =
      with_rows_stored ino rows (record x { extents = pages.with_known (pages.known_row ino y) x.extents }) r
      (with_known_stored (pages.known_row ino y) x r s)

  pub learned_stored : (ino : ℕ) (rows : List ExtentRow) (asked : Body) (x : Store) → R ino → S x → S (cr.learned ino rows asked x)
  learned_stored ino rows (bodies.Map i g p) x r s = by rows
    where
      by : (rows : List ExtentRow) → S (cr.learn_map ino p rows x)
      by [] = with_known_stored (pages.known_unmapped ino p) x r s
      by (y ∷ ys) = with_rows_stored ino (y ∷ ys) x r s
  learned_stored ino rows asked x r s = with_rows_stored ino rows x r s

  -- The clean pages, with one more that is the newest.
  newest : (x : Store) (n : ℕ) (c : CleanPage) → IsKnown x.extents c.ino c.page → S x → (y : CleanPage) → Has y (pages.with_newest n c x.pages.clean) →
      IsKnown x.extents y.ino y.page
  newest x n c k s y i = go (has_take n (c ∷ pages.without_clean c.ino c.page x.pages.clean) y i)
    where
      go : (y ≡ c) ⊎ Has y (pages.without_clean c.ino c.page x.pages.clean) → IsKnown x.extents y.ino y.page
      go (inl q) = subst (λ (z : CleanPage). IsKnown x.extents z.ino z.page) (sym q) k
      go (inr j) = s.clean y (has_filter (λ z. not (pages.is_clean_of c.ino c.page z)) x.pages.clean y j).0

  pub filled_stored : (x : Store) (ino : ℕ) (p : PageNo) (bytes : List ℕ) → IsKnown x.extents ino p → S x →
      S (record x { pages = pages.fill x.pages ino p bytes })
  unfolding pages.fill
  filled_stored x ino p bytes k s =
      record { known = s.known; clean = newest x x.pages.most_clean (pages.clean_page ino p bytes) k s; dirty = s.dirty; reads = s.reads }

  pub used_stored : (x : Store) (ino : ℕ) (p : PageNo) → S x → S (record x { pages = pages.use_page x.pages ino p })
  unfolding pages.use_page pages.use_clean pages.use_at
  used_stored x ino p s = go (pages.dirty_of x.pages ino p) (pages.clean_of x.pages ino p) refl
    where
      go : (o : Option DirtyPage) (b : Option CleanPage) → pages.clean_of x.pages ino p ≡ b → S (record x { pages = pages.use_clean x.pages ino p o })
      go (Some d) b q = s
      go None b q = subst (λ z. S (record x { pages = pages.use_at x.pages z })) (sym q) (at b q)
        where
          at : (b : Option CleanPage) → pages.clean_of x.pages ino p ≡ b → S (record x { pages = pages.use_at x.pages b })
          at None q = s
          at (Some c) q =
              record {
                known = s.known;
                clean = newest x x.pages.most_clean c (s.clean c (found_at (pages.is_clean_of ino p) x.pages.clean c q).1) s;
                dirty = s.dirty;
                reads = s.reads;
              }

  pub hardened_stored : (x : Store) (ino : ℕ) (p : PageNo) → S x → S (record x { pages = pages.harden x.pages ino p })
  unfolding pages.harden pages.harden_at pages.harden_page
  hardened_stored x ino p s = go (pages.dirty_of x.pages ino p) refl
    where
      go : (o : Option DirtyPage) → pages.dirty_of x.pages ino p ≡ o → S (record x { pages = pages.harden_at x.pages o })
      go None q = s
      go (Some d) q =
          record {
            known = s.known;
            clean =
                newest x x.pages.most_clean (pages.clean_page d.ino d.page d.bytes)
                (s.dirty d (found_at (pages.is_dirty_of ino p) x.pages.dirty d q).1) s;
            dirty = λ y i. s.dirty y (has_filter (λ z. not (pages.is_dirty_of d.ino d.page z)) x.pages.dirty y i).0;
            reads = s.reads;
          }

  pub failed_stored : (x : Store) (ino : ℕ) (p : PageNo) (n : ℕ) → S x → S (record x { pages = pages.fail x.pages ino p n })
  unfolding pages.fail pages.failed_by
  failed_stored x ino p n s =
      record {
        known = s.known;
        clean = s.clean;
        dirty = λ d i. let z = has_map (pages.fail_of ino p n) x.pages.dirty d i in
            subst (λ (y : DirtyPage). IsKnown x.extents y.ino y.page) (sym z.2) (one z.0 (pages.is_dirty_of ino p z.0) (s.dirty z.0 z.1));
        reads = s.reads;
      }
    where
      one : (d : DirtyPage) (b : Bool) → IsKnown x.extents d.ino d.page →
          IsKnown x.extents (if b then pages.failed_by n d else d).ino (if b then pages.failed_by n d else d).page
      one d true k = k
      one d false k = k

  -- A page is written, and an outstanding read of it is forgotten.
  pub written_stored : (x : Store) (ino : ℕ) (p : PageNo) (bytes : List ℕ) → IsKnown x.extents ino p → S x →
      S (record x { pages = pages.written x.pages ino p bytes; commands = pages.forget_read x.commands ino p })
  unfolding pages.written pages.forget_read
  written_stored x ino p bytes k s =
      record {
        known = s.known;
        clean = λ y i. s.clean y (has_filter (λ z. not (pages.is_clean_of ino p z)) x.pages.clean y i).0;
        dirty = λ d i. go d (has_put (pages.is_dirty_of ino p) (pages.new_dirty x.pages ino p bytes) x.pages.dirty d i);
        reads = λ c i q. s.reads c (has_filter (λ z. not (pages.is_read_of ino p z)) x.commands c i).0 q;
      }
    where
      go : (d : DirtyPage) → (d ≡ pages.new_dirty x.pages ino p bytes) ⊎ Has d x.pages.dirty → IsKnown x.extents d.ino d.page
      go d (inl q) = subst (λ (y : DirtyPage). IsKnown x.extents y.ino y.page) (sym q) k
      go d (inr i) = s.dirty d i

  -- Commands begin and end.
  pub begun_stored : (x : Store) (number ino : ℕ) (p : PageNo) (kind : IoKind) → (kind ≡ io.Read → IsKnown x.extents ino p) → S x →
      S (record x { commands = pages.begin_command x.commands number ino p kind })
  unfolding pages.begin_command
  begun_stored x number ino p kind k s =
      record {
        known = s.known;
        clean = s.clean;
        dirty = s.dirty;
        reads =
            λ c i q. go c q (has_append x.commands (pages.page_command number ino p kind ∷ []) c i);
      }
    where
      go : (c : PageCommand) → c.kind ≡ io.Read → Has c x.commands ⊎ Has c (pages.page_command number ino p kind ∷ []) → IsKnown x.extents c.ino c.page
      go c q (inl i) = s.reads c i q
      go c q (inr (inl e)) =
          subst (λ (y : PageCommand). IsKnown x.extents y.ino y.page) (sym e) (k (ap (λ (y : PageCommand). y.kind) (sym e) ∙ q))
      go c q (inr (inr i)) = absurd i

  pub ended_stored : (x : Store) (number : ℕ) → S x → S (record x { commands = pages.without_command number x.commands })
  ended_stored x number s =
      record {
        known = s.known;
        clean = s.clean;
        dirty = s.dirty;
        reads = λ c i q. s.reads c (has_filter (λ z. not (pages.is_numbered number z)) x.commands c i).0 q;
      }
