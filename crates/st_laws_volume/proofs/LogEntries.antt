-- The first entries of the volume's log are those of the world's; the others have just joined it.
use Rattle.std.proofs.Common.{◌≡◌, ℕ, zero, suc, ◌+◌, Bool, true, false, ◌&&◌, ◌==◌, List, [], ◌∷◌, ◌++◌, length, map, Option, Some, None, refl, sym, ap, ◌∙◌, subst, ◌||◌, if◌then◌else◌}
use Rattle.std.specs.Prelude.{slice_get, set, bytes_eq}
use Rattle.std.proofs.lemmas.Bool.{eqb-true}
use Rattle.std.proofs.lemmas.Slice.Eq.{bytes_eq-Decides}
use Rattle.st_base.specs.declared.ids.ClientId.{ClientId}
use Rattle.st_base.specs.declared.ids.FileId.{FileId}
use Rattle.st_base.specs.declared.ids.PageNo.{PageNo}
use Rattle.st_messages.specs.declared.ask.Ask.{Ask}
use Rattle.st_messages.specs.declared.ask.Ask.TheVariants as asks
use Rattle.st_rules.specs.declared.log.LogEntry.{LogEntry}
use Rattle.st_lemmas.proofs.Tables.{and_true}
use Rattle.st_laws_volume.specs.Logs.{AreSame, IsSame}
use Rattle.st_volume.specs.declared.step.Fate.{Fate}
use Rattle.st_volume.specs.declared.step.Fate.TheVariants as fates
use Rattle.st_volume.specs.Pages.{Entry, failed_up_to, failure_of, is_by_at, is_open, same_file, same_place}
use Rattle.st_volume.specs.Volume.{same_change}

-- the fate with which an entry joins the log
abbrev pub new_fate : Ask → Fate
new_fate (asks.Cut f p) = fates.Hard
new_fate ask = fates.Open

abbrev pub AreNew : List Entry → Type 0
AreNew [] = Unit {0}
AreNew (e ∷ es) = (e.fate ≡ new_fate e.what) × AreNew es

abbrev pub AreFirst : List LogEntry → List Entry → Type 0
AreFirst [] es = AreNew es
AreFirst (o ∷ os) [] = ⊥
AreFirst (o ∷ os) (e ∷ es) = IsSame o e × AreFirst os es

-- More entries join the log.
pub new_more : (es more : List Entry) → AreNew es → AreNew more → AreNew (es ++ more)
new_more [] more h m = m
new_more (e ∷ es) more h m = (h.0, new_more es more h.1 m)

pub first_more : (os : List LogEntry) (es more : List Entry) → AreFirst os es → AreNew more → AreFirst os (es ++ more)
first_more [] es more h m = new_more es more h m
first_more (o ∷ os) [] more h m = absurd h
first_more (o ∷ os) (e ∷ es) more h m = (h.0, first_more os es more h.1 m)

-- Marks change neither what an entry is nor its fate.
pub record IsLike (e f : Entry) : Type 0 where
  pub what : f.what ≡ e.what
  pub client : f.client ≡ e.client
  pub fate : f.fate ≡ e.fate

abbrev pub AreLike : List Entry → List Entry → Type 0
AreLike [] [] = Unit {0}
AreLike [] (f ∷ fs) = ⊥
AreLike (e ∷ es) [] = ⊥
AreLike (e ∷ es) (f ∷ fs) = IsLike e f × AreLike es fs

pub like_self : (e : Entry) → IsLike e e
like_self e = record { what = refl; client = refl; fate = refl }

pub all_like : (es : List Entry) → AreLike es es
all_like [] = tt
all_like (e ∷ es) = (like_self e, all_like es)

pub like_map : (f : Entry → Entry) → ((e : Entry) → IsLike e (f e)) → (es : List Entry) → AreLike es (map f es)
like_map f h [] = tt
like_map f h (e ∷ es) = (h e, like_map f h es)

like_failure : (c : ClientId) (number : ℕ) (x : FileId × PageNo) (carried : Bool) (e : Entry) → IsLike e (failure_of c number x carried e)
like_failure c number x carried e = go (is_by_at c x e && (carried || is_open e.fate))
  where
    go : (b : Bool) → IsLike e (if b then record e { failed = number } else e)
    go true = record { what = refl; client = refl; fate = refl }
    go false = like_self e

pub like_failed : (n : ℕ) (c : ClientId) (number : ℕ) (x : FileId × PageNo) (es : List Entry) → AreLike es (failed_up_to n c number x es)
unfolding failed_up_to
like_failed zero c number x es = all_like es
like_failed (suc n) c number x [] = tt
like_failed (suc n) c number x (e ∷ es) = (like_failure c number x (n == 0) e, like_failed n c number x es)

pub new_like : (es fs : List Entry) → AreNew es → AreLike es fs → AreNew fs
new_like [] [] h l = tt
new_like [] (f ∷ fs) h l = absurd l
new_like (e ∷ es) [] h l = absurd l
new_like (e ∷ es) (f ∷ fs) h l = (l.0.fate ∙ (h.0 ∙ ap new_fate (sym l.0.what)), new_like es fs h.1 l.1)

pub same_like : (o : LogEntry) (e f : Entry) → IsSame o e → IsLike e f → IsSame o f
same_like o e f h l = record { what = l.what ∙ h.what; client = λ c. l.client ∙ h.client c; fate = l.fate ∙ h.fate; change = h.change }

pub first_like : (os : List LogEntry) (es fs : List Entry) → AreFirst os es → AreLike es fs → AreFirst os fs
first_like [] es fs h l = new_like es fs h l
first_like (o ∷ os) [] fs h l = absurd h
first_like (o ∷ os) (e ∷ es) [] h l = absurd l
first_like (o ∷ os) (e ∷ es) (f ∷ fs) h l = (same_like o e f h.0 l.0, first_like os es fs h.1 l.1)

-- If there are as many, they are the same.
pub first_all : (os : List LogEntry) (es : List Entry) → length es ≡ length os → AreFirst os es → AreSame os es
first_all [] [] n h = tt
first_all [] (e ∷ es) n h = cc
first_all (o ∷ os) [] n h = cc
first_all (o ∷ os) (e ∷ es) n h = (h.0, first_all os es (one_less (length es) (length os) n) h.1)
  where
    one_less : (a b : ℕ) → suc a ≡ suc b → a ≡ b
    one_less a b e = cc

pub same_first : (os : List LogEntry) (es : List Entry) → AreSame os es → AreFirst os es
same_first [] [] h = tt
same_first [] (e ∷ es) h = absurd h
same_first (o ∷ os) [] h = absurd h
same_first (o ∷ os) (e ∷ es) h = (h.0, same_first os es h.1)

pub same_length : (os : List LogEntry) (es : List Entry) → AreSame os es → length es ≡ length os
same_length [] [] h = refl
same_length [] (e ∷ es) h = absurd h
same_length (o ∷ os) [] h = absurd h
same_length (o ∷ os) (e ∷ es) h = ap suc (same_length os es h.1)

-- At one place there is the same entry, and it may change in both.
abbrev pub AtBoth : Option LogEntry → Option Entry → Type 0
AtBoth None None = Unit {0}
AtBoth None (Some e) = ⊥
AtBoth (Some o) None = ⊥
AtBoth (Some o) (Some e) = IsSame o e

pub same_at : (os : List LogEntry) (es : List Entry) (n : ℕ) → AreSame os es → AtBoth (slice_get os n) (slice_get es n)
same_at [] [] n h = tt
same_at [] (e ∷ es) n h = absurd h
same_at (o ∷ os) [] n h = absurd h
same_at (o ∷ os) (e ∷ es) zero h = h.0
same_at (o ∷ os) (e ∷ es) (suc n) h = same_at os es n h.1

pub same_set : (os : List LogEntry) (es : List Entry) (n : ℕ) (o : LogEntry) (e : Entry) → AreSame os es → IsSame o e → AreSame (set os n o) (set es n e)
same_set [] [] n o e h s = tt
same_set [] (y ∷ es) n o e h s = absurd h
same_set (x ∷ os) [] n o e h s = absurd h
same_set (x ∷ os) (y ∷ es) zero o e h s = (s, h.1)
same_set (x ∷ os) (y ∷ es) (suc n) o e h s = (h.0, same_set os es n o e h.1 s)

-- The next entry has its line.
pub first_next : (os : List LogEntry) (es : List Entry) (o : LogEntry) (e : Entry) → AreFirst os es → slice_get es (length os) ≡ Some e →
    (e.fate ≡ new_fate e.what → IsSame o e) → AreFirst (os ++ o ∷ []) es
first_next [] [] o e h q s = cc
first_next [] (x ∷ es) o e h q s = go (found x e q)
  where
    found : (x e : Entry) → Some x ≡ Some e → e ≡ x
    found x e q = cc

    go : e ≡ x → IsSame o x × AreNew es
    go i = (subst (IsSame o) i (s (subst (λ (y : Entry). y.fate ≡ new_fate y.what) (sym i) h.0)), h.1)
first_next (x ∷ os) [] o e h q s = absurd h
first_next (x ∷ os) (y ∷ es) o e h q s = (h.0, first_next os es o e h.1 q s)

-- The line of an entry tells all of it.
file_is : (f g : FileId) → same_file f g ≡ true → f ≡ g
file_is f g h =
    let b = and_true (f.server.0 == g.server.0) (f.ino == g.ino) h in
    let s = eqb-true _ _ b.0 in
    let i = eqb-true _ _ b.1 in
    ap (λ (n : ℕ). record { server = record { 0 = n }; ino = f.ino }) s ∙ ap (λ (n : ℕ). record { server = g.server; ino = n }) i

page_is : (p q : PageNo) → (p.0 == q.0) ≡ true → p ≡ q
page_is p q h = ap (λ (n : ℕ). record { 0 = n }) (eqb-true _ _ h)

place_is : (f g : FileId) (p q : PageNo) → same_place (f, p) (g, q) ≡ true → (f ≡ g) × (p ≡ q)
place_is f g p q h = let b = and_true (same_file f g) (p.0 == q.0) h in (file_is f g b.0, page_is p q b.1)

pub change_is : (a b : Ask) → same_change a b ≡ true → a ≡ b
change_is (asks.Write f p a) (asks.Write g q b) h =
    let x = and_true (same_place (f, p) (g, q)) (bytes_eq a b) h in
    let y = place_is f g p q x.0 in
    let z = (bytes_eq-Decides a b).0 x.1 in
    ap (λ k. asks.Write k p a) y.0 ∙ (ap (λ k. asks.Write g k a) y.1 ∙ ap (λ k. asks.Write g q k) z)
change_is (asks.Patch f p i a) (asks.Patch g q j b) h =
    let x = and_true (same_place (f, p) (g, q)) ((i == j) && bytes_eq a b) h in
    let y = place_is f g p q x.0 in
    let u = and_true (i == j) (bytes_eq a b) x.1 in
    let v = eqb-true _ _ u.0 in
    let z = (bytes_eq-Decides a b).0 u.1 in
    ap (λ k. asks.Patch k p i a) y.0 ∙ (ap (λ k. asks.Patch g k i a) y.1 ∙ (ap (λ k. asks.Patch g q k a) v ∙ ap (λ k. asks.Patch g q j k) z))
change_is (asks.Cut f p) (asks.Cut g q) h =
    let y = place_is f g p q h in
    ap (λ k. asks.Cut k p) y.0 ∙ ap (λ k. asks.Cut g k) y.1
change_is (asks.Write f p a) (asks.Patch g q j b) h = cc
change_is (asks.Write f p a) (asks.Read g q) h = cc
change_is (asks.Write f p a) (asks.Sync g) h = cc
change_is (asks.Write f p a) (asks.Cut g q) h = cc
change_is (asks.Write f p a) (asks.Name s n) h = cc
change_is (asks.Patch f p i a) (asks.Write g q b) h = cc
change_is (asks.Patch f p i a) (asks.Read g q) h = cc
change_is (asks.Patch f p i a) (asks.Sync g) h = cc
change_is (asks.Patch f p i a) (asks.Cut g q) h = cc
change_is (asks.Patch f p i a) (asks.Name s n) h = cc
change_is (asks.Cut f p) (asks.Write g q b) h = cc
change_is (asks.Cut f p) (asks.Patch g q j b) h = cc
change_is (asks.Cut f p) (asks.Read g q) h = cc
change_is (asks.Cut f p) (asks.Sync g) h = cc
change_is (asks.Cut f p) (asks.Name s n) h = cc
change_is (asks.Read f p) b h = cc
change_is (asks.Sync f) b h = cc
change_is (asks.Name s n) b h = cc
