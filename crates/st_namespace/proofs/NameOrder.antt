-- The order of names stays: when an entry is added, when one goes, and when one moves.
use Rattle.std.proofs.Common.{◌≡◌, ℕ, ◌+◌, ◌<◌, ◌≤◌, Bool, true, false, List, [], ◌∷◌, ◌++◌, length, arith, rules, refl, sym, ap, ◌∙◌, ⊎_elim, true≢false, map}
use Rattle.std.specs.Prelude.{◌&&◌, not, ◌==◌, find, filter, is_some, bytes_eq}
use Rattle.std.specs.List.{IsDistinct, AllByRecursion, list_any}
use Rattle.std.specs.Cmp.{IsEquivalence, both_ways}
use Rattle.std.proofs.lemmas.Slice.Eq.{bytes_eq-Decides}
use Rattle.std.proofs.lemmas.Bool.{cases_Bool, and_parts, or_parts}
use Rattle.std.proofs.lemmas.Map.Keys.{IsDistinct-head, IsDistinct-tail, IsDistinct-cons, IsDistinct-push}
use Rattle.std.proofs.lemmas.List.Folds.{list_any_none}
use Rattle.std.proofs.lemmas.List.Elements.{All-from_recursion, recursion_from_All, All-push, All-filter, All-weaker, All-map}
use Rattle.std.proofs.lemmas.List.{length_push, length-map}
use Rattle.st_rules.specs.declared.names.NameEntry.{NameEntry}
use Rattle.st_rules.specs.Names as names
use Rattle.st_namespace.specs.Order.{IsInOrder, IsRising, of_one_name, of_one_inode}

-- Lists.
pub every_filter : {K : Type 0} (P : K → Type 0) (p : K → Bool) (xs : List K) → AllByRecursion P xs → AllByRecursion P (filter p xs)
every_filter P p [] a = a
every_filter P p (x ∷ xs) a = ⊎_elim
    (λ t. rw t (a.0, every_filter P p xs a.1))
    (λ f. rw f (every_filter P p xs a.1))
    (cases_Bool (p x))

distinct_filter : {K : Type 0} (E : K → K → Bool) (p : K → Bool) (xs : List K) → IsDistinct E xs → IsDistinct E (filter p xs)
distinct_filter E p [] d = d
distinct_filter E p (x ∷ xs) d =
    let rest = distinct_filter E p xs (IsDistinct-tail E x xs d) in
    ⊎_elim
    (λ t. rw t (IsDistinct-cons E x (filter p xs) (every_filter (λ y. E x y ≡ false) p xs (IsDistinct-head E x xs d)) rest))
    (λ f. rw f rest)
    (cases_Bool (p x))

filtered_no_longer : {K : Type 0} (p : K → Bool) (xs : List K) → length (filter p xs) ≤ length xs
filtered_no_longer p [] = omega arith
filtered_no_longer p (x ∷ xs) = ⊎_elim
    (λ t. rw t (omega (arith, filtered_no_longer p xs)))
    (λ f. rw f (omega (arith, filtered_no_longer p xs)))
    (cases_Bool (p x))

pub found_is_any : {K : Type 0} (p : K → Bool) (xs : List K) → is_some (find p xs) ≡ list_any p xs
found_is_any p [] = refl
found_is_any p (x ∷ xs) = ⊎_elim (λ t. rw t refl) (λ f. rw f (found_is_any p xs)) (cases_Bool (p x))

-- Equivalences.
number_equiv : {K : Type 0} (f : K → ℕ) → IsEquivalence (λ a b. f b == f a)
number_equiv f = record {
  refl = λ x. search rules;
  symm = λ x y. grind arith;
  congr = λ x y z e. grind arith;
}

bytes_equiv : {K : Type 0} (f : K → List ℕ) → IsEquivalence (λ a b. bytes_eq (f b) (f a))
bytes_equiv f = record {
  refl = λ x. (bytes_eq-Decides (f x) (f x)).1 refl;
  symm = λ x y. both_ways (bytes_eq (f y) (f x)) (bytes_eq (f x) (f y))
      (λ e. (bytes_eq-Decides (f x) (f y)).1 (sym ((bytes_eq-Decides (f y) (f x)).0 e)))
      (λ e. (bytes_eq-Decides (f y) (f x)).1 (sym ((bytes_eq-Decides (f x) (f y)).0 e)));
  congr = λ x y z e. ap (λ l. bytes_eq (f z) l) (sym ((bytes_eq-Decides (f y) (f x)).0 e));
}

both_equiv : {K : Type 0} (E F : K → K → Bool) → IsEquivalence E → IsEquivalence F → IsEquivalence (λ a b. E a b && F a b)
both_equiv E F e f = record {
  refl = λ x. rw (e.refl x, f.refl x) refl;
  symm = λ x y. rw (e.symm x y, f.symm x y) refl;
  congr = λ x y z s. rw (e.congr x y z (and_parts (E x y) (F x y) s).0, f.congr x y z (and_parts (E x y) (F x y) s).1) refl;
}

pub names_equiv : IsEquivalence of_one_name
names_equiv = both_equiv _ _ (number_equiv (λ (e : NameEntry). e.dir)) (bytes_equiv (λ (e : NameEntry). e.name))

inodes_equiv : IsEquivalence of_one_inode
inodes_equiv = number_equiv (λ (e : NameEntry). e.ino)

-- A fresh server.
pub fresh_in_order : IsInOrder names.fresh_names
unfolding names.fresh_names IsDistinct
fresh_in_order = record {
  names = ((refl, (refl, (refl, (refl, (refl, (refl, (refl, tt))))))), ((refl, (refl, (refl, (refl, (refl, (refl, tt)))))), ((refl, (refl, (refl, (refl, (refl, tt))))), ((refl, (refl, (refl, (refl, tt)))), ((refl, (refl, (refl, tt))), ((refl, (refl, tt)), ((refl, tt), (tt, tt))))))));
  inodes = ((refl, (refl, (refl, (refl, (refl, (refl, (refl, tt))))))), ((refl, (refl, (refl, (refl, (refl, (refl, tt)))))), ((refl, (refl, (refl, (refl, (refl, tt))))), ((refl, (refl, (refl, (refl, tt)))), ((refl, (refl, (refl, tt))), ((refl, (refl, tt)), ((refl, tt), (tt, tt))))))));
  rising = ((omega arith, (omega arith, (omega arith, (omega arith, (omega arith, (omega arith, (omega arith, tt))))))), ((omega arith, (omega arith, (omega arith, (omega arith, (omega arith, (omega arith, tt)))))), ((omega arith, (omega arith, (omega arith, (omega arith, (omega arith, tt))))), ((omega arith, (omega arith, (omega arith, (omega arith, tt)))), ((omega arith, (omega arith, (omega arith, tt))), ((omega arith, (omega arith, tt)), ((omega arith, tt), (tt, tt))))))));
  used = All-from_recursion (λ (e : NameEntry). e.ino < 10) names.fresh_names.entries (omega arith, (omega arith, (omega arith, (omega arith, (omega arith, (omega arith, (omega arith, (omega arith, tt))))))));
  few = omega arith;
}

-- Entries by rising inode.
pub rising_push : (es : List NameEntry) (e : NameEntry) → IsRising es → AllByRecursion (λ (d : NameEntry). d.ino < e.ino) es → IsRising (es ++ e ∷ [])
rising_push [] e r a = (tt, tt)
rising_push (d ∷ es) e r a = (every_push (λ (x : NameEntry). d.ino < x.ino) es e r.0 a.0, rising_push es e r.1 a.1)
  where
    every_push : (P : NameEntry → Type 0) (es : List NameEntry) (e : NameEntry) → AllByRecursion P es → P e → AllByRecursion P (es ++ e ∷ [])
    every_push P [] e a p = (p, tt)
    every_push P (x ∷ es) e a p = (a.0, every_push P es e a.1 p)

pub rising_filter : (p : NameEntry → Bool) (es : List NameEntry) → IsRising es → IsRising (filter p es)
rising_filter p [] r = r
rising_filter p (e ∷ es) r =
    let rest = rising_filter p es r.1 in
    ⊎_elim
    (λ t. rw t (every_filter (λ (d : NameEntry). e.ino < d.ino) p es r.0, rest))
    (λ f. rw f rest)
    (cases_Bool (p e))

-- An entry is added.
pub added_in_order : (n : names.Names) (dir : ℕ) (name : List ℕ) (directory : Bool) → IsInOrder n → is_some (names.entry_at n dir name) ≡ false → names.live_inodes n < n.limit → IsInOrder (names.added n dir name directory).names
unfolding names.added
added_in_order n dir name directory o new few =
    let e = names.new_entry n dir name directory in
    record {
      names = IsDistinct-push names_equiv n.entries e o.names (sym (found_is_any (names.is_entry_at dir name) n.entries) ∙ new);
      inodes = IsDistinct-push inodes_equiv n.entries e o.inodes (list_any_none (of_one_inode e) n.entries (All-weaker (λ (d : NameEntry). d.ino < n.next) (λ (d : NameEntry). of_one_inode e d ≡ false) (λ d l. grind arith) n.entries o.used));
      rising = rising_push n.entries e o.rising (recursion_from_All (λ (d : NameEntry). d.ino < n.next) n.entries o.used);
      used = All-push (λ (d : NameEntry). d.ino < n.next + 1) n.entries e (All-weaker (λ (d : NameEntry). d.ino < n.next) (λ (d : NameEntry). d.ino < n.next + 1) (λ d l. omega (arith, l)) n.entries o.used) (omega arith);
      few = rw (length_push n.entries e) (omega arith);
    }

-- An entry goes.
pub gone_in_order : (n : names.Names) (dir : ℕ) (name : List ℕ) → IsInOrder n → IsInOrder (record { entries = filter (λ d. not (names.is_entry_at dir name d)) n.entries; next = n.next; limit = n.limit })
gone_in_order n dir name o =
    let keep = λ (d : NameEntry). not (names.is_entry_at dir name d) in
    record {
      names = distinct_filter of_one_name keep n.entries o.names;
      inodes = distinct_filter of_one_inode keep n.entries o.inodes;
      rising = rising_filter keep n.entries o.rising;
      used = All-filter keep (λ (d : NameEntry). d.ino < n.next) n.entries o.used;
      few = omega (arith, filtered_no_longer keep n.entries, o.few);
    }

-- An entry moves.
module _ (dir : ℕ) (name : List ℕ) (dir2 : ℕ) (name2 : List ℕ) where
  abbrev is_old : NameEntry → Bool
  is_old e = names.is_entry_at dir name e

  abbrev is_new : NameEntry → Bool
  is_new e = names.is_entry_at dir2 name2 e

  abbrev move : NameEntry → NameEntry
  move e = names.move_entry dir name dir2 name2 e

  -- an entry of that name, to compare with
  abbrev old_one : NameEntry
  old_one = record { dir = dir; name = name; ino = 0; directory = false }

  abbrev new_one : NameEntry
  new_one = record { dir = dir2; name = name2; ino = 0; directory = false }

  stays : (es : List NameEntry) → list_any (names.is_entry_at dir name) es ≡ false → map (names.move_entry dir name dir2 name2) es ≡ es
  stays [] h = refl
  stays (e ∷ es) h =
      let p = or_parts (is_old e) (list_any is_old es) h in
      rw p.0 (ap (λ l. e ∷ l) (stays es p.1))

  pub move_old : (e : NameEntry) → is_old e ≡ true → move e ≡ names.moved dir2 name2 e
  move_old e t = rw t refl

  pub move_other : (e : NameEntry) → is_old e ≡ false → move e ≡ e
  move_other e t = rw t refl

  pub ino_stays : (e : NameEntry) → (move e).ino ≡ e.ino
  unfolding names.moved
  ino_stays e = ⊎_elim (λ t. rw (move_old e t) refl) (λ t. rw (move_other e t) refl) (cases_Bool (is_old e))

  apart_after : (x y : NameEntry) → of_one_name x y ≡ false → is_new x ≡ false → is_new y ≡ false → of_one_name (move x) (move y) ≡ false
  unfolding names.moved
  apart_after x y a nx ny = ⊎_elim
      (λ s. ⊎_elim
      (λ t. absurd (true≢false (sym t ∙ names_equiv.congr old_one x y s ∙ a)))
      (λ t. rw (move_old x s, move_other y t) ny)
      (cases_Bool (is_old y)))
      (λ s. ⊎_elim
      (λ t. rw (move_other x s, move_old y t) (names_equiv.symm x new_one ∙ nx))
      (λ t. rw (move_other x s, move_other y t) a)
      (cases_Bool (is_old y)))
      (cases_Bool (is_old x))

  all_after : (x : NameEntry) (es : List NameEntry) → is_new x ≡ false → AllByRecursion (λ y. of_one_name x y ≡ false) es → list_any is_new es ≡ false → AllByRecursion (λ y. of_one_name (move x) y ≡ false) (map move es)
  all_after x [] nx a n = tt
  all_after x (e ∷ es) nx a n =
      let p = or_parts (is_new e) (list_any is_new es) n in
      (apart_after x e a.0 nx p.0, all_after x es nx a.1 p.1)

  names_after : (es : List NameEntry) → IsDistinct of_one_name es → list_any is_new es ≡ false → IsDistinct of_one_name (map move es)
  names_after [] d n = d
  names_after (e ∷ es) d n =
      let p = or_parts (is_new e) (list_any is_new es) n in
      IsDistinct-cons of_one_name (move e) (map move es) (all_after e es p.0 (IsDistinct-head of_one_name e es d) p.1) (names_after es (IsDistinct-tail of_one_name e es d) p.1)

  inodes_apart : (x : NameEntry) (es : List NameEntry) → AllByRecursion (λ y. of_one_inode x y ≡ false) es → AllByRecursion (λ y. of_one_inode (move x) y ≡ false) (map move es)
  inodes_apart x [] a = tt
  inodes_apart x (e ∷ es) a = (rw (ino_stays x, ino_stays e) a.0, inodes_apart x es a.1)

  inodes_after : (es : List NameEntry) → IsDistinct of_one_inode es → IsDistinct of_one_inode (map move es)
  inodes_after [] d = d
  inodes_after (e ∷ es) d = IsDistinct-cons of_one_inode (move e) (map move es) (inodes_apart e es (IsDistinct-head of_one_inode e es d)) (inodes_after es (IsDistinct-tail of_one_inode e es d))

  above_after : (x : NameEntry) (es : List NameEntry) → AllByRecursion (λ (y : NameEntry). x.ino < y.ino) es → AllByRecursion (λ (y : NameEntry). (move x).ino < y.ino) (map move es)
  above_after x [] a = tt
  above_after x (e ∷ es) a = (rw (ino_stays x, ino_stays e) a.0, above_after x es a.1)

  pub rising_after : (es : List NameEntry) → IsRising es → IsRising (map move es)
  rising_after [] r = r
  rising_after (e ∷ es) r = (above_after e es r.0, rising_after es r.1)

  pub renamed_in_order : (n : names.Names) → IsInOrder n → is_some (names.entry_at n dir2 name2) ≡ false → IsInOrder (record { entries = map (names.move_entry dir name dir2 name2) n.entries; next = n.next; limit = n.limit })
  renamed_in_order n o new = record {
    names = names_after n.entries o.names (sym (found_is_any is_new n.entries) ∙ new);
    inodes = inodes_after n.entries o.inodes;
    rising = rising_after n.entries o.rising;
    used = All-map (λ (e : NameEntry). e.ino < n.next) move n.entries (All-weaker (λ (e : NameEntry). e.ino < n.next) (λ (e : NameEntry). (move e).ino < n.next) (λ e l. rw (ino_stays e) l) n.entries o.used);
    few = rw (length-map n.entries move) o.few;
  }
