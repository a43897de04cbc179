-- The law under each change of the log, the extents, the blocks and the commands.
use Rattle.st_lemmas.proofs.Words
use Words.{◌≡◌, ◌≢◌, ℕ, ◌+◌, ◌≤◌, ◌⊎◌, Bool, true, false, ◌&&◌, List, [], ◌∷◌, ◌++◌, ◌==◌, Option, Some, None, refl, sym, ap, ◌∙◌, subst, inl, inr, arith}
use Words.{if◌then◌else◌, length, map, suc, zero, slice_get, option_map, eqb-true, eq-eqb, ServerId, FileId, PageNo, BlockAt, Tag, Cause, LogEntry, LogOwner}
use Words.{Block, Extent, IssuedCommand}
use Words.Page.{filled}
use Words.changes
use Words.fates
use Words.Keys.{same_file, same_page, same_block}
use Words.FlatLog as log
use Words.FlatLog.{touches, owner, hard_cut}
use Words.ClientPages.{found_under, is_tag_of}
use Words.Events.{is_hard_fate}
use Words.Lookups.{if_true, if_false, some_is}
use Words.Numbers.{length_more, get_map}
use Words.Tables.{and_true, and_both}
use Words.Truth.{block_is, block_self, eqb_self, file_is, file_self, not_both}
use Rattle.st_laws_pages.specs.Disks.Folds.{hard_content, of_entry, owner_at}
use Rattle.st_laws_pages.specs.Disks.Pages.{ExtentsOf, LivingOf, same_place, mapping_of, standing, CarriedRight, PagesAreKept}
use Rattle.st_laws_pages.proofs.Disks.Folds.{hard_last, upto_last, carry_last, cuts_last, alike_hard, alike_upto, alike_carry, alike_harden, carry_drop}
use Rattle.st_laws_pages.proofs.Disks.Folds.{upto_drop, Spares, dropped_is, cuts_drop, cuts_harden, hardened_is}
use Rattle.st_lemmas.proofs.Marks.{owners_harden, owners_drop}

pub same_place_is : (f g : FileId) (p q : PageNo) → same_place f p g q ≡ true → (f ≡ g) × (p ≡ q)
same_place_is f g p q e =
    let h = and_true _ _ e in
    let s = and_true _ _ h.0 in
    (file (eqb-true _ _ s.0) (eqb-true _ _ s.1), ap (λ n. record { 0 = n }) (eqb-true _ _ h.1))
  where
    mk : ℕ → ℕ → FileId
    mk s i = record { server = record { 0 = s }; ino = i }

    file : f.server.0 ≡ g.server.0 → f.ino ≡ g.ino → f ≡ g
    file a b = ap (λ z. mk z f.ino) a ∙ ap (λ z. mk g.server.0 z) b

pub self_place : (f : FileId) (p : PageNo) → same_place f p f p ≡ true
self_place f p = and_both _ _ (file_self f) (eqb_self p.0)

pub turn_place : (f g : FileId) (p q : PageNo) → same_place f p g q ≡ true → same_place g q f p ≡ true
turn_place f g p q e = let h = same_place_is f g p q e in subst (λ x. same_place x q f p ≡ true) h.0 (subst (λ y. same_place f y f p ≡ true) h.1 (self_place f p))

-- Owners by number.
got_more : (es : List LogEntry) (e : LogEntry) (n : ℕ) (o : LogOwner) → option_map of_entry (slice_get es n) ≡ Some o → option_map of_entry (slice_get (es ++ e ∷ []) n) ≡ Some o
got_more [] e n o h = cc
got_more (x ∷ es) e zero o h = h
got_more (x ∷ es) e (suc n) o h = got_more es e n o h

pub owner_more : (es : List LogEntry) (e : LogEntry) (i : ℕ) (o : LogOwner) → owner_at es i ≡ Some o → owner_at (es ++ e ∷ []) i ≡ Some o
owner_more es e zero o h = cc
owner_more es e (suc n) o h = got_more es e n o h

pub owner_same : (es fs : List LogEntry) (i : ℕ) → map of_entry fs ≡ map of_entry es → owner_at fs i ≡ owner_at es i
owner_same es fs zero e = refl
owner_same es fs (suc n) e = sym (get_map of_entry fs n) ∙ ap (λ l. slice_get l n) e ∙ get_map of_entry es n

map_length : (es : List LogEntry) → length (map of_entry es) ≡ length es
map_length [] = refl
map_length (x ∷ es) = ap suc (map_length es)

pub length_same : (es fs : List LogEntry) → map of_entry fs ≡ map of_entry es → length fs ≡ length es
length_same es fs e = sym (map_length fs) ∙ ap length e ∙ map_length es

-- One more entry.
pub carried_more : (es : List LogEntry) (e : LogEntry) (m : Option Extent) (x : IssuedCommand) (at : BlockAt) (tag : Tag) (bytes : List ℕ) → (touches tag.file tag.page e ≡ true → is_hard_fate e.fate ≡ false) →
    CarriedRight es m x at tag bytes → CarriedRight (es ++ e ∷ []) m x at tag bytes
carried_more es e m x at tag bytes g c =
    record {
      index = c.index;
      carries = c.carries;
      high = let z = c.high in subst (λ n. c.index ≤ n) (sym (length_more es e)) (omega (arith, z));
      of = owner_more es e c.index _ c.of;
      server = c.server;
      are = c.are ∙ sym (upto_last 1 c.index (filled 0) tag.file tag.page es e (let z = c.high in omega (arith, z)));
      carry = carry_last 1 c.index _ tag.file tag.page es e (let z = c.high in omega (arith, z)) g c.carry;
      extent = c.extent;
      is = c.is;
      lies = c.lies;
      born = c.born;
    }

pub more_pending : (es : List LogEntry) (m : ExtentsOf) (b : BlockAt → Block) (n : ServerId → ℕ) (L : LivingOf) (e : LogEntry) → e.fate ≡ fates.Pending → (e.change ≡ changes.Cut → ⊥) → PagesAreKept es m b n L → PagesAreKept (es ++ e ∷ []) m b n L
more_pending es m b n L e w nc h =
    record {
      stands = λ f p. h.stands f p ∙ sym (hard_last (filled 0) f p es e ∙ if_false (touches f p e && is_hard_fate e.fate) _ _ (cold (touches f p e)));
      carry = λ k x at tag bytes l. carried_more es e _ x at tag bytes (λ t. ap is_hard_fate w) (h.carry k x at tag bytes l);
      one = h.one;
      apart = h.apart;
      below = h.below;
      tags = h.tags;
      cuts = cuts_last es e (λ c. absurd (nc c)) h.cuts;
    }
  where
    cold : (t : Bool) → (t && is_hard_fate e.fate) ≡ false
    cold true = ap is_hard_fate w
    cold false = refl

-- A cut: the extents from its page on go, and no command of these pages can take effect.
pub more_cut : (es : List LogEntry) (m v : ExtentsOf) (b : BlockAt → Block) (n : ServerId → ℕ) (L : LivingOf) (f : FileId) (p : PageNo) →
    ((g : FileId) (q : PageNo) → touches g q (hard_cut f p) ≡ true → v g q ≡ None) → ((g : FileId) (q : PageNo) → touches g q (hard_cut f p) ≡ false → v g q ≡ m g q) →
    ((k : ℕ) (x : IssuedCommand) (at : BlockAt) (tag : Tag) (bytes : List ℕ) → L k x at tag bytes → touches tag.file tag.page (hard_cut f p) ≡ false) →
    PagesAreKept es m b n L → PagesAreKept (es ++ hard_cut f p ∷ []) v b n L
more_cut es m v b n L f p gone same quiet h =
    record {
      stands = λ g q. now g q (touches g q (hard_cut f p)) refl;
      carry = λ k x at tag bytes l. let z = quiet k x at tag bytes l in
          subst (λ o. CarriedRight (es ++ hard_cut f p ∷ []) o x at tag bytes) (sym (same tag.file tag.page z)) (carried_more es (hard_cut f p) _ x at tag bytes (λ t. absurd (not_both _ t z)) (h.carry k x at tag bytes l));
      one = h.one;
      apart = λ g k q r d e u w. h.apart g k q r d e (was g q d u) (was k r e w);
      below = λ g q e u. h.below g q e (was g q e u);
      tags = h.tags;
      cuts = cuts_last es (hard_cut f p) (λ c. refl) h.cuts;
    }
  where
    hard : List LogEntry
    hard = es ++ hard_cut f p ∷ []

    now : (g : FileId) (q : PageNo) (t : Bool) → touches g q (hard_cut f p) ≡ t → standing g q b (v g q) ≡ hard_content hard g q
    now g q true t = ap (standing g q b) (gone g q t) ∙ sym (hard_last (filled 0) g q es (hard_cut f p) ∙ if_true (touches g q (hard_cut f p) && true) _ _ (ap (λ z. z && true) t))
    now g q false t = ap (standing g q b) (same g q t) ∙ h.stands g q ∙ sym (hard_last (filled 0) g q es (hard_cut f p) ∙ if_false (touches g q (hard_cut f p) && true) _ _ (ap (λ z. z && true) t))

    was : (g : FileId) (q : PageNo) (e : Extent) → v g q ≡ Some e → m g q ≡ Some e
    was g q e u = go (touches g q (hard_cut f p)) refl
      where
        go : (t : Bool) → touches g q (hard_cut f p) ≡ t → m g q ≡ Some e
        go true t = absurd (none (sym (gone g q t) ∙ u))
          where
            none : ◌≡◌ {A = Option Extent} None (Some e) → ⊥
            none z = cc
        go false t = sym (same g q t) ∙ u

-- Fewer commands can take effect.
pub kept_with_fewer_living : (es : List LogEntry) (m : ExtentsOf) (b : BlockAt → Block) (n : ServerId → ℕ) (L M : LivingOf) →
    ((k : ℕ) (x : IssuedCommand) (at : BlockAt) (tag : Tag) (bytes : List ℕ) → M k x at tag bytes → L k x at tag bytes) →
    PagesAreKept es m b n L → PagesAreKept es m b n M
kept_with_fewer_living es m b n L M w h =
    record {
      stands = h.stands;
      carry = λ k x at tag bytes l. h.carry k x at tag bytes (w k x at tag bytes l);
      one = λ j k x y a c s t bs ct l r. h.one j k x y a c s t bs ct (w j x a s bs l) (w k y c t ct r);
      apart = h.apart;
      below = h.below;
      tags = h.tags;
      cuts = h.cuts;
    }

-- One more command can take effect.
pub record NewRight (es : List LogEntry) (m : ExtentsOf) (L : LivingOf) (at_number k : ℕ) (x : IssuedCommand) (at : BlockAt) (tag : Tag) (bytes : List ℕ) : Type 0 where
  pub number : k ≡ at_number
  pub right : CarriedRight es (m tag.file tag.page) x at tag bytes
  pub alone : (j : ℕ) (y : IssuedCommand) (a : BlockAt) (t : Tag) (ct : List ℕ) → L j y a t ct → same_place t.file t.page tag.file tag.page ≡ true → ⊥

pub submitted : (es : List LogEntry) (m : ExtentsOf) (b : BlockAt → Block) (n : ServerId → ℕ) (L M : LivingOf) (i : ℕ) →
    ((k : ℕ) (x : IssuedCommand) (at : BlockAt) (tag : Tag) (bytes : List ℕ) → M k x at tag bytes → L k x at tag bytes ⊎ NewRight es m L i k x at tag bytes) → PagesAreKept es m b n L → PagesAreKept es m b n M
submitted es m b n L M i w h =
    record {
      stands = h.stands;
      carry = λ k x at tag bytes l. one_right k x at tag bytes (w k x at tag bytes l);
      one = λ j k x y a c s t bs ct l r e. both j k x y a c s t bs ct e (w j x a s bs l) (w k y c t ct r);
      apart = h.apart;
      below = h.below;
      tags = h.tags;
      cuts = h.cuts;
    }
  where
    one_right : (k : ℕ) (x : IssuedCommand) (at : BlockAt) (tag : Tag) (bytes : List ℕ) → L k x at tag bytes ⊎ NewRight es m L i k x at tag bytes → CarriedRight es (m tag.file tag.page) x at tag bytes
    one_right k x at tag bytes (inl l) = h.carry k x at tag bytes l
    one_right k x at tag bytes (inr r) = r.right

    both : (j k : ℕ) (x y : IssuedCommand) (a c : BlockAt) (s t : Tag) (bs ct : List ℕ) → same_place s.file s.page t.file t.page ≡ true → L j x a s bs ⊎ NewRight es m L i j x a s bs → L k y c t ct ⊎ NewRight es m L i k y c t ct → j ≡ k
    both j k x y a c s t bs ct e (inl l) (inl r) = h.one j k x y a c s t bs ct l r e
    both j k x y a c s t bs ct e (inl l) (inr r) = absurd (r.alone j x a s bs l e)
    both j k x y a c s t bs ct e (inr l) (inl r) = absurd (l.alone k y c t ct r (turn_place s.file t.file s.page t.page e))
    both j k x y a c s t bs ct e (inr l) (inr r) = l.number ∙ sym r.number

-- A drop spares what the commands that can still take effect carry.
pub dropped : (es : List LogEntry) (m : ExtentsOf) (b : BlockAt → Block) (n : ServerId → ℕ) (L M : LivingOf) (picked : ℕ → LogOwner → Bool) (cause : FileId → PageNo → Cause) →
    ((k : ℕ) (x : IssuedCommand) (at : BlockAt) (tag : Tag) (bytes : List ℕ) → M k x at tag bytes → L k x at tag bytes) →
    ((k : ℕ) (x : IssuedCommand) (at : BlockAt) (tag : Tag) (bytes : List ℕ) (i : ℕ) → M k x at tag bytes → x.carries ≡ Some (record { file = tag.file; page = tag.page; index = i }) → Spares i (owner x.client x.life tag.file tag.page) picked) →
    PagesAreKept es m b n L → PagesAreKept (log.drop_from 1 picked cause es) m b n M
dropped es m b n L M picked cause w s h =
    record {
      stands = λ f p. h.stands f p ∙ sym (dropped_is f p 1 picked cause (filled 0) es);
      carry = λ k x at tag bytes l. right k x at tag bytes l (h.carry k x at tag bytes (w k x at tag bytes l));
      one = λ j k x y a c s t bs ct l r. h.one j k x y a c s t bs ct (w j x a s bs l) (w k y c t ct r);
      apart = h.apart;
      below = h.below;
      tags = h.tags;
      cuts = cuts_drop 1 picked cause es h.cuts;
    }
  where
    right : (k : ℕ) (x : IssuedCommand) (at : BlockAt) (tag : Tag) (bytes : List ℕ) → M k x at tag bytes → CarriedRight es (m tag.file tag.page) x at tag bytes → CarriedRight (log.drop_from 1 picked cause es) (m tag.file tag.page) x at tag bytes
    right k x at tag bytes l c =
        record {
          index = c.index;
          carries = c.carries;
          high = subst (λ n. c.index ≤ n) (sym (length_same es _ (owners_drop 1 picked cause es))) c.high;
          of = owner_same es _ c.index (owners_drop 1 picked cause es) ∙ c.of;
          server = c.server;
          are = c.are ∙ sym (upto_drop 1 c.index (filled 0) _ tag.file tag.page picked cause es (s k x at tag bytes c.index l c.carries) c.carry);
          carry = carry_drop 1 c.index _ tag.file tag.page picked cause es c.carry;
          extent = c.extent;
          is = c.is;
          lies = c.lies;
          born = c.born;
        }

-- A write has its effect.
pub hardened : (es : List LogEntry) (m : ExtentsOf) (b d : BlockAt → Block) (n : ServerId → ℕ) (L M : LivingOf) (k : ℕ) (x : IssuedCommand) (at : BlockAt) (tag : Tag) (bytes : List ℕ) → L k x at tag bytes →
    d at ≡ record { at = at; tag = tag; bytes = bytes } → ((to : BlockAt) → same_block at to ≡ false → d to ≡ b to) →
    ((j : ℕ) (y : IssuedCommand) (a : BlockAt) (t : Tag) (ct : List ℕ) → M j y a t ct → L j y a t ct × (j ≢ k)) → (c : CarriedRight es (m tag.file tag.page) x at tag bytes) →
    PagesAreKept es m b n L → PagesAreKept (log.harden_from 1 c.index (owner x.client x.life tag.file tag.page) es) m d n M
unfolding found_under
hardened es m b d n L M k x at tag bytes l own far w c h =
    record {
      stands = λ f p. now f p (same_place tag.file tag.page f p) refl (m f p) refl;
      carry = λ j y a t ct r. right j y a t ct (w j y a t ct r);
      one = λ i j x y a c s t bs ct l r. h.one i j x y a c s t bs ct (w i x a s bs l).0 (w j y c t ct r).0;
      apart = h.apart;
      below = h.below;
      tags = λ to. tagged to (same_block at to) refl;
      cuts = cuts_harden 1 c.index o es h.cuts;
    }
  where
    o : LogOwner
    o = owner x.client x.life tag.file tag.page

    fs : List LogEntry
    fs = log.harden_from 1 c.index o es

    fits : is_tag_of tag.file tag.page tag (mapping_of c.extent) ≡ true
    fits = and_both _ _ (file_self tag.file) (and_both _ _ (eqb_self tag.page.0) (eq-eqb tag.birth c.extent.birth (sym c.born)))

    here : standing tag.file tag.page d (m tag.file tag.page) ≡ hard_content fs tag.file tag.page
    here =
        ap (standing tag.file tag.page d) c.is
        ∙ ap (λ z. found_under tag.file tag.page (d z).tag (d z).bytes (mapping_of c.extent)) c.lies
        ∙ ap (λ (z : Block). found_under tag.file tag.page z.tag z.bytes (mapping_of c.extent)) own
        ∙ if_true (is_tag_of tag.file tag.page tag (mapping_of c.extent)) bytes (filled 0) fits
        ∙ c.are ∙ sym (hardened_is tag.file tag.page 1 c.index o (filled 0) es c.carry)

    there : (f : FileId) (p : PageNo) → same_place tag.file tag.page f p ≡ false → (e : Option Extent) → m f p ≡ e → standing f p d e ≡ standing f p b e
    there f p q None e = refl
    there f p q (Some a) e = go (same_block at a.at) refl
      where
        go : (z : Bool) → same_block at a.at ≡ z → standing f p d (Some a) ≡ standing f p b (Some a)
        go true z = absurd (not_both _ (h.apart tag.file f tag.page p c.extent a c.is e (ap (λ y. same_block y a.at) c.lies ∙ z)) q)
        go false z = ap (λ (y : Block). found_under f p y.tag y.bytes (mapping_of a)) (far a.at z)

    now : (f : FileId) (p : PageNo) (z : Bool) → same_place tag.file tag.page f p ≡ z → (e : Option Extent) → m f p ≡ e → standing f p d (m f p) ≡ hard_content fs f p
    now f p true q e u = let y = same_place_is tag.file f tag.page p q in subst (λ g. standing g p d (m g p) ≡ hard_content fs g p) y.0 (subst (λ r. standing tag.file r d (m tag.file r) ≡ hard_content fs tag.file r) y.1 here)
    now f p false q e u = ap (standing f p d) u ∙ there f p q e u ∙ ap (standing f p b) (sym u) ∙ h.stands f p ∙ sym (alike_hard (filled 0) f p es fs (alike_harden 1 c.index o f p es h.cuts q))

    tagged : (to : BlockAt) (z : Bool) → same_block at to ≡ z → (d to).tag.birth ≤ n (d to).tag.file.server
    tagged to true z =
        let y : d to ≡ record { at = at; tag = tag; bytes = bytes } = ap d (sym (block_is at to z)) ∙ own in
        subst (λ (g : Block). g.tag.birth ≤ n g.tag.file.server) (sym y) (subst (λ v. v ≤ n tag.file.server) c.born (h.below tag.file tag.page c.extent c.is))
    tagged to false z = subst (λ (g : Block). g.tag.birth ≤ n g.tag.file.server) (sym (far to z)) (h.tags to)

    right : (j : ℕ) (y : IssuedCommand) (a : BlockAt) (t : Tag) (ct : List ℕ) → L j y a t ct × (j ≢ k) → CarriedRight fs (m t.file t.page) y a t ct
    right j y a t ct r = go (same_place tag.file tag.page t.file t.page) refl (h.carry j y a t ct r.0)
      where
        go : (z : Bool) → same_place tag.file tag.page t.file t.page ≡ z → CarriedRight es (m t.file t.page) y a t ct → CarriedRight fs (m t.file t.page) y a t ct
        go true z v = absurd (r.1 (sym (h.one k j x y at a tag t bytes ct l r.0 z)))
        go false z v =
            let s = alike_harden 1 c.index o t.file t.page es h.cuts z in
            record {
              index = v.index;
              carries = v.carries;
              high = subst (λ n. v.index ≤ n) (sym (length_same es fs (owners_harden 1 c.index o es))) v.high;
              of = owner_same es fs v.index (owners_harden 1 c.index o es) ∙ v.of;
              server = v.server;
              are = v.are ∙ sym (alike_upto 1 v.index (filled 0) t.file t.page es fs s);
              carry = alike_carry 1 v.index _ t.file t.page es fs s v.carry;
              extent = v.extent;
              is = v.is;
              lies = v.lies;
              born = v.born;
            }

-- A page is mapped to a block that no page has, under a birth that was never given.
pub placed : (es : List LogEntry) (m v : ExtentsOf) (b : BlockAt → Block) (n u : ServerId → ℕ) (L : LivingOf) (f : FileId) (p : PageNo) (a : Extent) → m f p ≡ None → v f p ≡ Some a → a.birth ≡ n f.server + 1 → a.birth ≤ u f.server →
    ((g : FileId) (q : PageNo) → same_place g q f p ≡ false → v g q ≡ m g q) → ((s : ServerId) → n s ≤ u s) → ((g : FileId) (q : PageNo) (e : Extent) → m g q ≡ Some e → same_block e.at a.at ≡ false) →
    PagesAreKept es m b n L → PagesAreKept es v b u L
unfolding found_under
placed es m v b n u L f p a none new birth most same rise free h =
    record {
      stands = λ g q. now g q (same_place g q f p) refl;
      carry = λ k x at tag bytes l. let c = h.carry k x at tag bytes l in subst (λ o. CarriedRight es o x at tag bytes) (sym (other tag.file tag.page c.extent c.is)) c;
      one = h.one;
      apart = λ g k q r d e s t z. two g k q r d e (same_place g q f p) (same_place k r f p) refl refl s t z;
      below = λ g q e s. low g q e (same_place g q f p) refl s;
      tags = λ at. let y = h.tags at in let z = rise (b at).tag.file.server in omega (arith, y, z);
      cuts = h.cuts;
    }
  where
    no : (e : Extent) → ◌≡◌ {A = Option Extent} None (Some e) → ⊥
    no e z = cc

    mapped_else : (g : FileId) (q : PageNo) (e : Extent) → m g q ≡ Some e → same_place g q f p ≡ true → ⊥
    mapped_else g q e s z = let y = same_place_is g f q p z in no e (sym none ∙ sym (ap (λ x. m x q) y.0 ∙ ap (λ x. m f x) y.1) ∙ s)

    other : (g : FileId) (q : PageNo) (e : Extent) → m g q ≡ Some e → v g q ≡ m g q
    other g q e s = go (same_place g q f p) refl
      where
        go : (z : Bool) → same_place g q f p ≡ z → v g q ≡ m g q
        go true z = absurd (mapped_else g q e s z)
        go false z = same g q z

    stale : is_tag_of f p (b a.at).tag (mapping_of a) ≡ true → ⊥
    stale z =
        let y = and_true (same_file (b a.at).tag.file f) (same_page (b a.at).tag.page p && ((b a.at).tag.birth == a.birth)) z in
        let t = h.tags a.at in
        let g = ap (λ (x : FileId). n x.server) (file_is (b a.at).tag.file f y.0) in
        let c : (b a.at).tag.birth ≡ a.birth = eqb-true (b a.at).tag.birth a.birth (and_true (same_page (b a.at).tag.page p) ((b a.at).tag.birth == a.birth) y.1).1 in
        let w = birth in
        absurd (omega (arith, t, g, c, w))

    here : standing f p b (v f p) ≡ hard_content es f p
    here = ap (standing f p b) new ∙ go (is_tag_of f p (b a.at).tag (mapping_of a)) refl ∙ ap (standing f p b) (sym none) ∙ h.stands f p
      where
        go : (z : Bool) → is_tag_of f p (b a.at).tag (mapping_of a) ≡ z → (if is_tag_of f p (b a.at).tag (mapping_of a) then (b a.at).bytes else filled 0) ≡ filled 0
        go true z = absurd (stale z)
        go false z = if_false (is_tag_of f p (b a.at).tag (mapping_of a)) (b a.at).bytes (filled 0) z

    now : (g : FileId) (q : PageNo) (z : Bool) → same_place g q f p ≡ z → standing g q b (v g q) ≡ hard_content es g q
    now g q true z = let y = same_place_is g f q p z in subst (λ x. standing x q b (v x q) ≡ hard_content es x q) (sym y.0) (subst (λ x. standing f x b (v f x) ≡ hard_content es f x) (sym y.1) here)
    now g q false z = ap (standing g q b) (same g q z) ∙ h.stands g q

    at_new : (g : FileId) (q : PageNo) (e : Extent) → same_place g q f p ≡ true → v g q ≡ Some e → e ≡ a
    at_new g q e z s = let y = same_place_is g f q p z in some_is (sym s ∙ ap (λ x. v x q) y.0 ∙ ap (λ x. v f x) y.1 ∙ new)

    two : (g k : FileId) (q r : PageNo) (d e : Extent) (y z : Bool) → same_place g q f p ≡ y → same_place k r f p ≡ z → v g q ≡ Some d → v k r ≡ Some e → same_block d.at e.at ≡ true → same_place g q k r ≡ true
    two g k q r d e true true y z s t w = let i = same_place_is g f q p y in subst (λ x. same_place x q k r ≡ true) (sym i.0) (subst (λ x. same_place f x k r ≡ true) (sym i.1) (turn_place k f r p z))
    two g k q r d e true false y z s t w = absurd (not_both _ (turn d.at e.at w) (ap (λ x. same_block e.at x) (ap (λ (x : Extent). x.at) (at_new g q d y s)) ∙ free k r e (sym (same k r z) ∙ t)))
      where
        turn : (a b : BlockAt) → same_block a b ≡ true → same_block b a ≡ true
        turn a b x = subst (λ c. same_block c a ≡ true) (block_is a b x) (block_self a)
    two g k q r d e false true y z s t w = absurd (not_both _ w (ap (λ x. same_block d.at x) (ap (λ (x : Extent). x.at) (at_new k r e z t)) ∙ free g q d (sym (same g q y) ∙ s)))
    two g k q r d e false false y z s t w = h.apart g k q r d e (sym (same g q y) ∙ s) (sym (same k r z) ∙ t) w

    low : (g : FileId) (q : PageNo) (e : Extent) (y : Bool) → same_place g q f p ≡ y → v g q ≡ Some e → e.birth ≤ u g.server
    low g q e true y s = let i = same_place_is g f q p y in subst (λ x. e.birth ≤ u x.server) (sym i.0) (subst (λ x. x.birth ≤ u f.server) (sym (at_new g q e y s)) most)
    low g q e false y s = let i = h.below g q e (sym (same g q y) ∙ s) in let j = rise g.server in omega (arith, i, j)
