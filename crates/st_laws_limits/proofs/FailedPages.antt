-- Dirty pages whose write failed and that aren't being written: where they come from when pages and commands change.
use Rattle.st_lemmas.proofs.Words
use Words.{◌≡◌, ◌≤◌, ◌<◌, ◌⊎◌, ◌+◌, ◌==◌, ◌&&◌, ◌||◌, [], ◌∷◌, ◌++◌, ◌∙◌, if◌then◌else◌}
use Words.{ℕ, Bool, true, false, not, List, Option, Some, None, refl, sym, ap, subst, inl, inr, arith}
use Words.{eq-eqb, eqb-true, filter, find, length, map, DirtyPage, IoKind, PageCommand, PageNo}
use Words.io
use Words.ClientPages as pages
use Words.ClientPasses.{is_unfailed}
use Words.Keys.{put, same_page}
use Words.Lists.{Has}
use Words.Lookups.{some_is}
use Words.Members.{has_left, some_member_passes}
use Words.Tables.{and_both, and_true, found_at, has_append, has_filter, has_filter_in, has_map, some_passes}
use Words.Truth.{not_both}
use Rattle.st_lemmas.proofs.Puts.{has_put, has_put_self}
use Rattle.st_lemmas.proofs.Tests.{filtered_no_longer}
use Rattle.st_third.specs.Room.{is_hopeful}

-- Pages that are dirty once.

abbrev pub IsOnce : List DirtyPage → Type 0
IsOnce [] = Unit {0}
IsOnce (d ∷ ds) = ((x : DirtyPage) → Has x ds → pages.is_dirty_of d.ino d.page x ≡ false) × IsOnce ds

is_at_page : (ino : ℕ) (p : PageNo) (y : DirtyPage) → pages.is_dirty_of ino p y ≡ true → (y.ino ≡ ino) × (y.page ≡ p)
is_at_page ino p y e =
    let z = and_true (y.ino == ino) (y.page.0 == p.0) e in (eqb-true y.ino ino z.0, ap (λ n. record { 0 = n }) (eqb-true y.page.0 p.0 z.1))

at_page : (ino : ℕ) (p : PageNo) (y : DirtyPage) → y.ino ≡ ino → y.page ≡ p → pages.is_dirty_of ino p y ≡ true
at_page ino p y i e = and_both (y.ino == ino) (y.page.0 == p.0) (eq-eqb y.ino ino i) (eq-eqb y.page.0 p.0 (ap (λ (n : PageNo). n.0) e))

once_found : (ds : List DirtyPage) → IsOnce ds → (d : DirtyPage) → Has d ds → find (pages.is_dirty_of d.ino d.page) ds ≡ Some d
once_found [] o d h = absurd h
once_found (x ∷ ds) o d (inl e) = go (pages.is_dirty_of d.ino d.page x)
    (at_page d.ino d.page x (ap (λ (y : DirtyPage). y.ino) (sym e)) (ap (λ (y : DirtyPage). y.page) (sym e)))
  where
    go : (b : Bool) → b ≡ true → (if b then Some x else find (pages.is_dirty_of d.ino d.page) ds) ≡ Some d
    go true q = ap (λ y. Some y) (sym e)
    go false q = absurd (no q)
      where
        no : false ≡ true → ⊥
        no z = cc
once_found (x ∷ ds) o d (inr i) = go (pages.is_dirty_of d.ino d.page x) refl (once_found ds o.1 d i)
  where
    go : (b : Bool) → pages.is_dirty_of d.ino d.page x ≡ b → find (pages.is_dirty_of d.ino d.page) ds ≡ Some d →
        (if b then Some x else find (pages.is_dirty_of d.ino d.page) ds) ≡ Some d
    go false q r = r
    go true q r =
        let z = is_at_page d.ino d.page x q in
        absurd (not_both (pages.is_dirty_of x.ino x.page d) (at_page x.ino x.page d (sym z.0) (sym z.1)) (o.0 d i))

-- a page with another one of its place is that one
same_place : (ds : List DirtyPage) → IsOnce ds → (d e : DirtyPage) → Has d ds → find (pages.is_dirty_of e.ino e.page) ds ≡ Some e → d.ino ≡ e.ino →
    d.page ≡ e.page → d ≡ e
same_place ds o d e h f i p =
    some_is (sym (once_found ds o d h) ∙ ap (λ n. find (pages.is_dirty_of n d.page) ds) i ∙ ap (λ n. find (pages.is_dirty_of e.ino n) ds) p ∙ f)

put_once : (ino : ℕ) (p : PageNo) (new : DirtyPage) → new.ino ≡ ino → new.page ≡ p → (ds : List DirtyPage) → IsOnce ds →
    IsOnce (put (pages.is_dirty_of ino p) new ds)
unfolding put
put_once ino p new i q [] h = (λ x j. absurd j, tt)
put_once ino p new i q (y ∷ ys) h = go (pages.is_dirty_of ino p y) refl (put_once ino p new i q ys h.1)
  where
    same : pages.is_dirty_of ino p y ≡ true → (x : DirtyPage) → Has x ys → pages.is_dirty_of new.ino new.page x ≡ false
    same e x j =
        let z = is_at_page ino p y e in
        ap (λ n. pages.is_dirty_of n new.page x) (i ∙ sym z.0) ∙ (ap (λ n. pages.is_dirty_of y.ino n x) (q ∙ sym z.1) ∙ h.0 x j)

    other : (b : Bool) → pages.is_dirty_of y.ino y.page new ≡ b → pages.is_dirty_of ino p y ≡ false → b ≡ false
    other false k e = refl
    other true k e =
        let z = is_at_page y.ino y.page new k in absurd (not_both (pages.is_dirty_of ino p y) (at_page ino p y (sym z.0 ∙ i) (sym z.1 ∙ q)) e)

    later : pages.is_dirty_of ino p y ≡ false → (x : DirtyPage) → (x ≡ new) ⊎ Has x ys → pages.is_dirty_of y.ino y.page x ≡ false
    later e x (inl k) = ap (pages.is_dirty_of y.ino y.page) k ∙ other (pages.is_dirty_of y.ino y.page new) refl e
    later e x (inr j) = h.0 x j

    go : (b : Bool) → pages.is_dirty_of ino p y ≡ b → IsOnce (put (pages.is_dirty_of ino p) new ys) →
        IsOnce (if b then new ∷ ys else y ∷ put (pages.is_dirty_of ino p) new ys)
    go true e r = (same e, h.1)
    go false e r = (λ x j. later e x (has_put (pages.is_dirty_of ino p) new ys x j), r)

filter_once : (keeps : DirtyPage → Bool) (ds : List DirtyPage) → IsOnce ds → IsOnce (filter keeps ds)
filter_once keeps [] h = tt
filter_once keeps (d ∷ ds) h = go (keeps d) (filter_once keeps ds h.1)
  where
    go : (b : Bool) → IsOnce (filter keeps ds) → IsOnce (if b then d ∷ filter keeps ds else filter keeps ds)
    go true r = (λ x j. h.0 x (has_filter keeps ds x j).0, r)
    go false r = r

failed_once : (ino : ℕ) (p : PageNo) (n : ℕ) (ds : List DirtyPage) → IsOnce ds → IsOnce (map (pages.fail_of ino p n) ds)
unfolding pages.failed_by
failed_once ino p n [] h = tt
failed_once ino p n (d ∷ ds) h = (
  λ x j. let z = has_map (pages.fail_of ino p n) ds x j in
      ap (pages.is_dirty_of (pages.fail_of ino p n d).ino (pages.fail_of ino p n d).page) z.2
      ∙ (same (pages.is_dirty_of ino p d) (pages.is_dirty_of ino p z.0) z.0 ∙ h.0 z.0 z.1),
  failed_once ino p n ds h.1,
)
  where
    same : (b c : Bool) (x : DirtyPage) →
        pages.is_dirty_of (if b then pages.failed_by n d else d).ino (if b then pages.failed_by n d else d).page (if c then pages.failed_by n x else x)
        ≡ pages.is_dirty_of d.ino d.page x
    same true true x = refl
    same true false x = refl
    same false true x = refl
    same false false x = refl

-- What always holds of the dirty pages and the commands of an association. Pages are dirty once. The
-- numbers of commands are different ones, below that of the next command. A page has one write, and
-- after a failure this is a write of the page as it is.
pub record PagesFit (next : ℕ) (ds : List DirtyPage) (cs : List PageCommand) : Type 0 where
  pub once : IsOnce ds
  pub below : (c : PageCommand) → Has c cs → c.number < next
  pub own : (c e : PageCommand) → Has c cs → Has e cs → c.number ≡ e.number → c ≡ e
  pub one : (c e : PageCommand) → Has c cs → Has e cs → (ino : ℕ) (p : PageNo) → pages.is_write_of ino p c ≡ true → pages.is_write_of ino p e ≡ true → c ≡ e
  pub present : (d : DirtyPage) → Has d ds → is_unfailed d ≡ false → (c : PageCommand) → Has c cs → pages.is_write_of d.ino d.page c ≡ true →
      c.kind ≡ io.Write d.version

-- no page, and no command
pub none_fit : (next : ℕ) → PagesFit next [] []
none_fit next =
    record {
      once = tt;
      below = λ c h. absurd h;
      own = λ c e h i q. absurd h;
      one = λ c e h i ino p q r. absurd h;
      present = λ d h f c i w. absurd h;
    }

-- with a later number of the next command
pub fit_later : (n o : ℕ) → n ≤ o → (ds : List DirtyPage) (cs : List PageCommand) → PagesFit n ds cs → PagesFit o ds cs
fit_later n o l ds cs f =
    record { once = f.once; below = λ c h. let z = f.below c h in omega (arith, z, l); own = f.own; one = f.one; present = f.present }

-- fewer commands
fit_fewer : (next : ℕ) (ds es : List DirtyPage) (cs fs : List PageCommand) → PagesFit next ds cs → IsOnce es → ((d : DirtyPage) → Has d es → Has d ds) →
    ((c : PageCommand) → Has c fs → Has c cs) → PagesFit next es fs
fit_fewer next ds es cs fs f o less fewer =
    record {
      once = o;
      below = λ c h. f.below c (fewer c h);
      own = λ c e h i q. f.own c e (fewer c h) (fewer e i) q;
      one = λ c e h i ino p q r. f.one c e (fewer c h) (fewer e i) ino p q r;
      present = λ d h q c i w. f.present d (less d h) q c (fewer c i) w;
    }

-- the place of a write
write_place : (ino : ℕ) (p : PageNo) (c : PageCommand) → pages.is_write_of ino p c ≡ true → (c.ino ≡ ino) × (c.page ≡ p)
write_place ino p c w =
    let z = and_true (c.ino == ino) (c.page.0 == p.0) (and_true (pages.is_write c.kind) _ w).1 in
    (eqb-true c.ino ino z.0, ap (λ n. record { 0 = n }) (eqb-true c.page.0 p.0 z.1))

-- one more command
module _ (next : ℕ) (ds : List DirtyPage) (cs : List PageCommand) (f : PagesFit next ds cs) (k : PageCommand) (number : k.number ≡ next) where
  more_below : (c : PageCommand) → Has c cs ⊎ Has c (k ∷ []) → c.number < next + 1
  more_below c (inl i) = let z = f.below c i in omega (arith, z)
  more_below c (inr (inl e)) = let z = ap (λ (x : PageCommand). x.number) e in omega (arith, z, number)
  more_below c (inr (inr i)) = absurd i

  more_own : (c e : PageCommand) → Has c cs ⊎ Has c (k ∷ []) → Has e cs ⊎ Has e (k ∷ []) → c.number ≡ e.number → c ≡ e
  more_own c e (inl i) (inl j) q = f.own c e i j q
  more_own c e (inl i) (inr (inl r)) q =
      let z = f.below c i in let y = ap (λ (x : PageCommand). x.number) r in absurd (omega (arith, z, y, q, number))
  more_own c e (inr (inl r)) (inl j) q =
      let z = f.below e j in let y = ap (λ (x : PageCommand). x.number) r in absurd (omega (arith, z, y, q, number))
  more_own c e (inr (inl r)) (inr (inl s)) q = r ∙ sym s
  more_own c e (inl i) (inr (inr j)) q = absurd j
  more_own c e (inr (inl r)) (inr (inr j)) q = absurd j
  more_own c e (inr (inr i)) j q = absurd i

  more_fit : ((c : PageCommand) → Has c cs → (ino : ℕ) (p : PageNo) → pages.is_write_of ino p c ≡ true → pages.is_write_of ino p k ≡ true → ⊥) →
      ((d : DirtyPage) → Has d ds → is_unfailed d ≡ false → pages.is_write_of d.ino d.page k ≡ true → k.kind ≡ io.Write d.version) →
      PagesFit (next + 1) ds (cs ++ k ∷ [])
  more_fit alone now =
      record {
        once = f.once;
        below = λ c h. more_below c (has_append cs (k ∷ []) c h);
        own = λ c e h i q. more_own c e (has_append cs (k ∷ []) c h) (has_append cs (k ∷ []) e i) q;
        one = λ c e h i ino p q r. one c e (has_append cs (k ∷ []) c h) (has_append cs (k ∷ []) e i) ino p q r;
        present = λ d h q c i w. present d h q c (has_append cs (k ∷ []) c i) w;
      }
    where
      one : (c e : PageCommand) → Has c cs ⊎ Has c (k ∷ []) → Has e cs ⊎ Has e (k ∷ []) → (ino : ℕ) (p : PageNo) → pages.is_write_of ino p c ≡ true →
          pages.is_write_of ino p e ≡ true → c ≡ e
      one c e (inl i) (inl j) ino p q r = f.one c e i j ino p q r
      one c e (inl i) (inr (inl s)) ino p q r = absurd (alone c i ino p q (sym (ap (pages.is_write_of ino p) s) ∙ r))
      one c e (inr (inl s)) (inl j) ino p q r = absurd (alone e j ino p r (sym (ap (pages.is_write_of ino p) s) ∙ q))
      one c e (inr (inl s)) (inr (inl u)) ino p q r = s ∙ sym u
      one c e (inl i) (inr (inr j)) ino p q r = absurd j
      one c e (inr (inl s)) (inr (inr j)) ino p q r = absurd j
      one c e (inr (inr i)) j ino p q r = absurd i

      present : (d : DirtyPage) → Has d ds → is_unfailed d ≡ false → (c : PageCommand) → Has c cs ⊎ Has c (k ∷ []) → pages.is_write_of d.ino d.page c ≡ true →
          c.kind ≡ io.Write d.version
      present d h q c (inl i) w = f.present d h q c i w
      present d h q c (inr (inl s)) w =
          ap (λ (x : PageCommand). x.kind) s ∙ now d h q (sym (ap (pages.is_write_of d.ino d.page) s) ∙ w)
      present d h q c (inr (inr i)) w = absurd i

-- a read of a page
pub fit_read : (next : ℕ) (ds : List DirtyPage) (cs : List PageCommand) → PagesFit next ds cs → (ino : ℕ) (p : PageNo) →
    PagesFit (next + 1) ds (pages.begin_command cs next ino p io.Read)
unfolding pages.begin_command
fit_read next ds cs f ino p =
    more_fit next ds cs f (pages.page_command next ino p io.Read) refl (λ c h i q r w. no w) (λ d h q w. absurd (no w))
  where
    no : false ≡ true → ⊥
    no z = cc

-- a write of a dirty page that isn't being written
pub fit_write : (next : ℕ) (ds : List DirtyPage) (cs : List PageCommand) → PagesFit next ds cs → (ino : ℕ) (p : PageNo) (d : DirtyPage) →
    find (pages.is_dirty_of ino p) ds ≡ Some d → pages.is_being_written cs d.ino d.page ≡ false →
    PagesFit (next + 1) ds (pages.begin_command cs next d.ino d.page (io.Write d.version))
unfolding pages.begin_command
fit_write next ds cs f ino p d e w =
    more_fit next ds cs f k refl
    (λ c h i q r s. let z = write_place i q k s in
    not_both (pages.is_being_written cs d.ino d.page)
    (some_passes (pages.is_write_of d.ino d.page) cs c h
    (subst (λ n. pages.is_write_of n d.page c ≡ true) (sym z.0) (subst (λ n. pages.is_write_of i n c ≡ true) (sym z.1) r))) w)
    (λ x h q s. let z = write_place x.ino x.page k s in
    ap (λ (y : DirtyPage). io.Write y.version) (sym (same_place ds f.once x d h found (sym z.0) (sym z.1))))
  where
    k : PageCommand
    k = pages.page_command next d.ino d.page (io.Write d.version)

    place : (d.ino ≡ ino) × (d.page ≡ p)
    place = is_at_page ino p d (found_at (pages.is_dirty_of ino p) ds d e).0

    found : find (pages.is_dirty_of d.ino d.page) ds ≡ Some d
    found = ap (λ n. find (pages.is_dirty_of n d.page) ds) place.0 ∙ ap (λ n. find (pages.is_dirty_of ino n) ds) place.1 ∙ e

-- a page is changed
pub fit_written : (next : ℕ) (ds : List DirtyPage) (cs : List PageCommand) → PagesFit next ds cs → (ino : ℕ) (p : PageNo) (new : DirtyPage) → new.ino ≡ ino →
    new.page ≡ p → is_unfailed new ≡ true → PagesFit next (put (pages.is_dirty_of ino p) new ds) (pages.forget_read cs ino p)
unfolding pages.forget_read
fit_written next ds cs f ino p new i q u =
    record {
      once = put_once ino p new i q ds f.once;
      below = λ c h. f.below c (fewer c h);
      own = λ c e h j r. f.own c e (fewer c h) (fewer e j) r;
      one = λ c e h j n o r s. f.one c e (fewer c h) (fewer e j) n o r s;
      present = λ d h r c j w. by d (has_put (pages.is_dirty_of ino p) new ds d h) r c (fewer c j) w;
    }
  where
    fewer : (c : PageCommand) → Has c (filter (λ x. not (pages.is_read_of ino p x)) cs) → Has c cs
    fewer c h = (has_filter (λ x. not (pages.is_read_of ino p x)) cs c h).0

    by : (d : DirtyPage) → (d ≡ new) ⊎ Has d ds → is_unfailed d ≡ false → (c : PageCommand) → Has c cs → pages.is_write_of d.ino d.page c ≡ true →
        c.kind ≡ io.Write d.version
    by d (inl e) r c j w = absurd (not_both (is_unfailed d) (ap is_unfailed e ∙ u) r)
    by d (inr h) r c j w = f.present d h r c j w

-- a command ends, and leaves pages or takes some away
pub fit_without : (next : ℕ) (ds : List DirtyPage) (cs : List PageCommand) → PagesFit next ds cs → (number : ℕ) →
    PagesFit next ds (pages.without_command number cs)
fit_without next ds cs f number =
    fit_fewer next ds ds cs (pages.without_command number cs) f f.once (λ d h. h) (λ c h. (has_filter (λ x. not (pages.is_numbered number x)) cs c h).0)

pub fit_filtered : (next : ℕ) (ds : List DirtyPage) (cs : List PageCommand) → PagesFit next ds cs → (keeps : DirtyPage → Bool) →
    PagesFit next (filter keeps ds) cs
fit_filtered next ds cs f keeps = fit_fewer next ds (filter keeps ds) cs cs f (filter_once keeps ds f.once) (λ d h. (has_filter keeps ds d h).0) (λ c h. h)

-- the command of a number, and no other one
its_command : (next : ℕ) (ds : List DirtyPage) (cs : List PageCommand) → PagesFit next ds cs → (number : ℕ) (k : PageCommand) →
    pages.command_of cs number ≡ Some k → (c : PageCommand) → Has c cs → (c ≡ k) ⊎ Has c (pages.without_command number cs)
its_command next ds cs f number k e c h = go (pages.is_numbered number c) refl
  where
    found : (k.number ≡ number) × Has k cs
    found = let z = found_at (pages.is_numbered number) cs k e in (eqb-true k.number number z.0, z.1)

    go : (b : Bool) → pages.is_numbered number c ≡ b → (c ≡ k) ⊎ Has c (pages.without_command number cs)
    go true q = inl (f.own c k h found.1 (eqb-true c.number number q ∙ sym found.0))
    go false q = inr (has_filter_in (λ x. not (pages.is_numbered number x)) cs c h (ap not q))

-- a write of a page failed
pub fit_failed : (next : ℕ) (ds : List DirtyPage) (cs : List PageCommand) → PagesFit next ds cs → (number : ℕ) (k : PageCommand) →
    pages.command_of cs number ≡ Some k → pages.is_write k.kind ≡ true →
    PagesFit next (map (pages.fail_of k.ino k.page k.number) ds) (pages.without_command number cs)
unfolding pages.failed_by
fit_failed next ds cs f number k e write =
    record {
      once = failed_once k.ino k.page k.number ds f.once;
      below = λ c h. f.below c (fewer c h).0;
      own = λ c x h j r. f.own c x (fewer c h).0 (fewer x j).0 r;
      one = λ c x h j n o r s. f.one c x (fewer c h).0 (fewer x j).0 n o r s;
      present =
          λ d h r c j w. let z = has_map (pages.fail_of k.ino k.page k.number) ds d h in
          by d z.0 z.1 z.2 (pages.is_dirty_of k.ino k.page z.0) refl r c (fewer c j) w;
    }
  where
    fewer : (c : PageCommand) → Has c (pages.without_command number cs) → Has c cs × (not (pages.is_numbered number c) ≡ true)
    fewer c h = has_filter (λ x. not (pages.is_numbered number x)) cs c h

    found : (pages.is_numbered number k ≡ true) × Has k cs
    found = found_at (pages.is_numbered number) cs k e

    by : (d x : DirtyPage) → Has x ds → d ≡ pages.fail_of k.ino k.page k.number x → (b : Bool) → pages.is_dirty_of k.ino k.page x ≡ b →
        is_unfailed d ≡ false →
        (c : PageCommand) → Has c cs × (not (pages.is_numbered number c) ≡ true) → pages.is_write_of d.ino d.page c ≡ true → c.kind ≡ io.Write d.version
    by d x h i false q r c j w =
        let y : d ≡ x = i ∙ ap (λ b. if b then pages.failed_by k.number x else x) q in
        subst (λ (v : DirtyPage). c.kind ≡ io.Write v.version) (sym y)
        (f.present x h (sym (ap is_unfailed y) ∙ r) c j.0 (subst (λ (v : DirtyPage). pages.is_write_of v.ino v.page c ≡ true) y w))
    by d x h i true q r c j w =
        let y : d ≡ pages.failed_by k.number x = i ∙ ap (λ b. if b then pages.failed_by k.number x else x) q in
        let z = is_at_page k.ino k.page x q in
        let its : pages.is_write_of k.ino k.page c ≡ true =
        subst (λ n. pages.is_write_of n k.page c ≡ true) (ap (λ (v : DirtyPage). v.ino) y ∙ z.0)
        (subst (λ n. pages.is_write_of d.ino n c ≡ true) (ap (λ (v : DirtyPage). v.page) y ∙ z.1) w) in
        let own : pages.is_write_of k.ino k.page k ≡ true =
        and_both (pages.is_write k.kind) _ write
        (and_both (k.ino == k.ino) (k.page.0 == k.page.0) (eq-eqb k.ino k.ino refl) (eq-eqb k.page.0 k.page.0 refl)) in
        let same : c ≡ k = f.one c k j.0 found.1 k.ino k.page its own in
        absurd (not_both (pages.is_numbered number c) (ap (pages.is_numbered number) same ∙ found.0) (Words.Tables.not_true (pages.is_numbered number c) j.1))

-- Where failed pages come from: those that aren't being written were there and so before; and if there
-- are as many pages as may be, none of which makes room, it was so before.
pub record Comes (n : ℕ) (ds : List DirtyPage) (cs : List PageCommand) (es : List DirtyPage) (fs : List PageCommand) : Type 0 where
  pub back : (d : DirtyPage) → Has d es → is_hopeful fs d ≡ false → Has d ds × (is_hopeful cs d ≡ false)
  pub all : length ds ≤ n → n ≤ length es → ((d : DirtyPage) → Has d es → is_hopeful fs d ≡ false) → (n ≤ length ds) × ((d : DirtyPage) → Has d ds → Has d es)

pub comes_same : (n : ℕ) (ds : List DirtyPage) (cs : List PageCommand) → Comes n ds cs ds cs
comes_same n ds cs = record { back = λ d h e. (h, e); all = λ l m f. (m, λ d h. h) }

both_false : (a b : Bool) → (a || b) ≡ false → (a ≡ false) × (b ≡ false)
both_false true b e = cc e
both_false false b e = (refl, e)

-- a page isn't written by fewer commands, if its writes are among them
hopeful_less : (cs fs : List PageCommand) (d : DirtyPage) →
    (is_unfailed d ≡ false → (c : PageCommand) → Has c cs → pages.is_write_of d.ino d.page c ≡ true → Has c fs) → is_hopeful fs d ≡ false →
    is_hopeful cs d ≡ false
hopeful_less cs fs d f e = ap (λ b. b || pages.is_being_written cs d.ino d.page) z.0 ∙ go (pages.is_being_written cs d.ino d.page) refl
  where
    z : (is_unfailed d ≡ false) × (pages.is_being_written fs d.ino d.page ≡ false)
    z = both_false (is_unfailed d) (pages.is_being_written fs d.ino d.page) e

    go : (b : Bool) → pages.is_being_written cs d.ino d.page ≡ b → b ≡ false
    go false q = refl
    go true q =
        let m = some_member_passes (pages.is_write_of d.ino d.page) cs q in
        absurd
        (not_both (pages.is_being_written fs d.ino d.page)
        (some_passes (pages.is_write_of d.ino d.page) fs m.0 (f z.0 m.0 m.1 m.2) m.2) z.1)

-- one more command
pub comes_more : (n : ℕ) (ds : List DirtyPage) (cs : List PageCommand) (number ino : ℕ) (p : PageNo) (kind : IoKind) →
    Comes n ds cs ds (pages.begin_command cs number ino p kind)
unfolding pages.begin_command
comes_more n ds cs number ino p kind =
    record {
      back = λ d h e. (h, hopeful_less cs _ d (λ q c i w. has_left cs (pages.page_command number ino p kind ∷ []) c i) e);
      all = λ l m f. (m, λ d h. h);
    }

-- a page is changed
pub comes_written : (n : ℕ) (ds : List DirtyPage) (cs : List PageCommand) (ino : ℕ) (p : PageNo) (new : DirtyPage) → is_unfailed new ≡ true →
    Comes n ds cs (put (pages.is_dirty_of ino p) new ds) (pages.forget_read cs ino p)
unfolding pages.forget_read
comes_written n ds cs ino p new u =
    record {
      back = λ d h e. by d (has_put (pages.is_dirty_of ino p) new ds d h) e;
      all = λ l m f. absurd (hopeless new refl (f new (has_put_self (pages.is_dirty_of ino p) new ds)));
    }
  where
    fs : List PageCommand
    fs = filter (λ x. not (pages.is_read_of ino p x)) cs

    hopeless : (d : DirtyPage) → d ≡ new → is_hopeful fs d ≡ false → ⊥
    hopeless d e q = not_both (is_unfailed d) (ap is_unfailed e ∙ u) (both_false (is_unfailed d) (pages.is_being_written fs d.ino d.page) q).0

    stays : (i : ℕ) (q : PageNo) (c : PageCommand) → pages.is_write_of i q c ≡ true → not (pages.is_read_of ino p c) ≡ true
    stays i q c w = ap (λ b. not (not b && ((c.ino == ino) && same_page c.page p))) (and_true (pages.is_write c.kind) _ w).0

    by : (d : DirtyPage) → (d ≡ new) ⊎ Has d ds → is_hopeful fs d ≡ false → Has d ds × (is_hopeful cs d ≡ false)
    by d (inl e) q = absurd (hopeless d e q)
    by d (inr h) q =
        (h, hopeful_less cs fs d (λ r c i w. has_filter_in (λ x. not (pages.is_read_of ino p x)) cs c i (stays d.ino d.page c w)) q)

-- a command ends that wrote no page as it is
pub comes_without : (n next : ℕ) (ds : List DirtyPage) (cs : List PageCommand) → PagesFit next ds cs → (number : ℕ) (k : PageCommand) →
    pages.command_of cs number ≡ Some k →
    ((v : ℕ) (d : DirtyPage) → k.kind ≡ io.Write v → find (pages.is_dirty_of k.ino k.page) ds ≡ Some d → d.version ≡ v → ⊥) →
    Comes n ds cs ds (pages.without_command number cs)
comes_without n next ds cs f number k e old =
    record { back = λ d h q. (h, hopeful_less cs _ d (λ r c i w. by d h r c i w (its_command next ds cs f number k e c i)) q); all = λ l m g. (m, λ d h. h) }
  where
    by : (d : DirtyPage) → Has d ds → is_unfailed d ≡ false → (c : PageCommand) → Has c cs → pages.is_write_of d.ino d.page c ≡ true →
        (c ≡ k) ⊎ Has c (pages.without_command number cs) → Has c (pages.without_command number cs)
    by d h r c i w (inr j) = j
    by d h r c i w (inl s) =
        let z = write_place d.ino d.page c w in
        let kind : k.kind ≡ io.Write d.version = sym (ap (λ (x : PageCommand). x.kind) s) ∙ f.present d h r c i w in
        let found : find (pages.is_dirty_of k.ino k.page) ds ≡ Some d =
        ap (λ x. find (pages.is_dirty_of x k.page) ds) (sym (ap (λ (x : PageCommand). x.ino) s) ∙ z.0)
        ∙ ap (λ x. find (pages.is_dirty_of d.ino x) ds) (sym (ap (λ (x : PageCommand). x.page) s) ∙ z.1)
        ∙ once_found ds f.once d h in
        absurd (old d.version d kind found refl)

-- as many are left as there were
filter_whole : {A : Type 0} (p : A → Bool) (xs : List A) → length xs ≤ length (filter p xs) → (x : A) → Has x xs → Has x (filter p xs)
filter_whole p [] l x h = absurd h
filter_whole {A} p (y ∷ xs) l x h = go (p y) refl l h (λ k. filter_whole p xs k x)
  where
    go : (b : Bool) → p y ≡ b → length (y ∷ xs) ≤ length (if b then y ∷ filter p xs else filter p xs) → (x ≡ y) ⊎ Has x xs →
        (length xs ≤ length (filter p xs) → Has x xs → Has x (filter p xs)) → Has x (if b then y ∷ filter p xs else filter p xs)
    go true q l (inl e) r = inl e
    go true q l (inr i) r = inr (r (omega (arith, l)) i)
    go false q l h r = let z = filtered_no_longer p xs in absurd (omega (arith, l, z))

-- a write of a page is done
pub comes_hardened : (n next : ℕ) (ds : List DirtyPage) (cs : List PageCommand) → PagesFit next ds cs → (number : ℕ) (k : PageCommand) →
    pages.command_of cs number ≡ Some k → (d : DirtyPage) → find (pages.is_dirty_of k.ino k.page) ds ≡ Some d →
    Comes n ds cs (pages.without_dirty d.ino d.page ds) (pages.without_command number cs)
comes_hardened n next ds cs f number k e d at =
    record {
      back =
          λ x h q. let z = has_filter gone ds x h in
          (z.0, hopeful_less cs _ x (λ r c i w. by x z.1 c w (its_command next ds cs f number k e c i)) q);
      all =
          λ l m g. let z = filtered_no_longer gone ds in
          (omega (arith, m, z), λ x h. filter_whole gone ds (omega (arith, l, m)) x h);
    }
  where
    gone : DirtyPage → Bool
    gone x = not (pages.is_dirty_of d.ino d.page x)

    place : (d.ino ≡ k.ino) × (d.page ≡ k.page)
    place = is_at_page k.ino k.page d (found_at (pages.is_dirty_of k.ino k.page) ds d at).0

    by : (x : DirtyPage) → gone x ≡ true → (c : PageCommand) → pages.is_write_of x.ino x.page c ≡ true →
        (c ≡ k) ⊎ Has c (pages.without_command number cs) → Has c (pages.without_command number cs)
    by x g c w (inr j) = j
    by x g c w (inl s) =
        let z = write_place x.ino x.page c w in
        absurd
        (not_both (pages.is_dirty_of d.ino d.page x)
        (at_page d.ino d.page x (sym z.0 ∙ ap (λ (y : PageCommand). y.ino) s ∙ sym place.0) (sym z.1 ∙ ap (λ (y : PageCommand). y.page) s ∙ sym place.1))
        (Words.Tables.not_true (pages.is_dirty_of d.ino d.page x) g))

-- nothing of the page was dirty
pub comes_unfound : (n next : ℕ) (ds : List DirtyPage) (cs : List PageCommand) → PagesFit next ds cs → (number : ℕ) (k : PageCommand) →
    pages.command_of cs number ≡ Some k → find (pages.is_dirty_of k.ino k.page) ds ≡ None → Comes n ds cs ds (pages.without_command number cs)
comes_unfound n next ds cs f number k e none = comes_without n next ds cs f number k e (λ v d q r s. no (sym none ∙ r))
  where
    no : {d : DirtyPage} → ◌≡◌ {A = Option DirtyPage} None (Some d) → ⊥
    no z = cc
