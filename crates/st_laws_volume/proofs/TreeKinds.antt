-- What a tree says of an inode, a place and a name is what the names say of them.
use Rattle.std.proofs.Common.{◌≡◌, ℕ, zero, suc, arith, Bool, true, false, not, ◌&&◌, ◌||◌, ◌==◌, List, [], ◌∷◌, length, map, Option, Some, None, refl, sym, ap, ◌∙◌, inl, inr, if◌then◌else◌}
use Rattle.std.specs.Prelude.{cond, filter, find, option_map, unwrap_or}
use Rattle.std.specs.List.{list_all, list_any}
use Rattle.std.specs.Option.{option_or}
use Rattle.std.proofs.lemmas.Bool.{eq-eqb, eqb-true, ne_eqb}
use Rattle.st_rules.specs.declared.names.EntryRefusal.{EntryRefusal}
use Rattle.st_rules.specs.declared.names.EntryRefusal.TheVariants as refusals
use Rattle.st_rules.specs.declared.names.NameEntry.{NameEntry}
use Rattle.st_rules.specs.Names as names
use Rattle.st_rules.specs.Names.{Names}
use Rattle.st_lemmas.specs.Lists.{Has}
use Rattle.st_lemmas.proofs.Lookups.{if_false, if_true}
use Rattle.st_lemmas.proofs.Once.{none_any}
use Rattle.st_lemmas.proofs.Tables.{and_both, and_left, and_right, found_at, none_has, some_passes}
use Rattle.st_lemmas.proofs.Truth.{clash}
use Rattle.st_laws_volume.specs.TreeNames.{IsDirectory, IsSound, entry_of, tree_of}
use Rattle.st_volume.specs.Pages.{is_any}
use Rattle.st_volume.specs.Trees as trees
use Rattle.st_volume.specs.Trees.{DirEntry, Made, Tree}

-- Lists of other values.
pub find_as : {A B : Type 0} (p : B → Bool) (f : A → B) (xs : List A) → find p (map f xs) ≡ option_map f (find (λ x. p (f x)) xs)
find_as p f [] = refl
find_as {A} p f (x ∷ xs) = go (p (f x)) (find_as p f xs)
  where
    go : (b : Bool) → find p (map f xs) ≡ option_map f (find (λ x. p (f x)) xs) →
        cond b (Some (f x)) (find p (map f xs)) ≡ option_map f (cond b (Some x) (find (λ x. p (f x)) xs))
    go true h = refl
    go false h = h

pub any_as : {A B : Type 0} (p : B → Bool) (f : A → B) (xs : List A) → list_any p (map f xs) ≡ list_any (λ x. p (f x)) xs
any_as p f [] = refl
any_as p f (x ∷ xs) = ap (λ b. p (f x) || b) (any_as p f xs)

pub filter_as : {A B : Type 0} (p : B → Bool) (f : A → B) (xs : List A) → filter p (map f xs) ≡ map f (filter (λ x. p (f x)) xs)
filter_as p f [] = refl
filter_as {A} p f (x ∷ xs) = go (p (f x)) (filter_as p f xs)
  where
    go : (b : Bool) → filter p (map f xs) ≡ map f (filter (λ x. p (f x)) xs) →
        cond b (f x ∷ filter p (map f xs)) (filter p (map f xs)) ≡ map f (cond b (x ∷ filter (λ x. p (f x)) xs) (filter (λ x. p (f x)) xs))
    go true h = ap (λ ys. f x ∷ ys) h
    go false h = h

all_same : {A : Type 0} (p q : A → Bool) → ((x : A) → p x ≡ q x) → (xs : List A) → list_all p xs ≡ list_all q xs
all_same p q h [] = refl
all_same p q h (x ∷ xs) = ap (λ b. b && list_all p xs) (h x) ∙ ap (λ b. q x && b) (all_same p q h xs)

abbrev file_in : ℕ → NameEntry → Bool
file_in ino e = (e.ino == ino) && not e.directory

abbrev dir_in : ℕ → NameEntry → Bool
dir_in ino e = (e.ino == ino) && e.directory

abbrev mark_of : Option NameEntry → Option Bool
mark_of o = option_map names.directory_mark o

abbrev AreOnce : List NameEntry → Type 0
AreOnce es = (e f : NameEntry) → Has e es → Has f es → e.ino ≡ f.ino → e ≡ f

-- the entries of one inode are the same
one_of : (es : List NameEntry) → AreOnce es → (ino : ℕ) (d x : NameEntry) → names.is_of_ino ino d ≡ true → Has d es → Has x es → (x.ino == ino) ≡ true → x ≡ d
one_of es once ino d x p h i q = once x d i h (eqb-true x.ino ino q ∙ sym (eqb-true d.ino ino p))

files_in : (es : List NameEntry) → AreOnce es → (ino : ℕ) → list_any (file_in ino) es ≡ not (unwrap_or (mark_of (find (names.is_of_ino ino) es)) true)
files_in es once ino = go (find (names.is_of_ino ino) es) refl
  where
    marked : (d : NameEntry) → names.is_of_ino ino d ≡ true → Has d es → (b : Bool) → d.directory ≡ b → list_any (file_in ino) es ≡ not b
    marked d p h false m = some_passes (file_in ino) es d h (and_both (d.ino == ino) (not d.directory) p (ap not m))
    marked d p h true m = none_any (file_in ino) es (λ x i. other x i (x.ino == ino) refl)
      where
        other : (x : NameEntry) → Has x es → (b : Bool) → (x.ino == ino) ≡ b → file_in ino x ≡ false
        other x i false q = and_left (x.ino == ino) (not x.directory) q
        other x i true q =
            and_right (x.ino == ino) (not x.directory) (ap (λ (y : NameEntry). not y.directory) (one_of es once ino d x p h i q) ∙ ap not m)

    go : (o : Option NameEntry) → find (names.is_of_ino ino) es ≡ o → list_any (file_in ino) es ≡ not (unwrap_or (mark_of o) true)
    go None q = none_any (file_in ino) es (λ x i. and_left (x.ino == ino) (not x.directory) (none_has (names.is_of_ino ino) es q x i))
    go (Some d) q = let z = found_at (names.is_of_ino ino) es d q in marked d z.0 z.1 d.directory refl

dirs_in : (es : List NameEntry) → AreOnce es → (ino : ℕ) → list_any (dir_in ino) es ≡ unwrap_or (mark_of (find (names.is_of_ino ino) es)) false
dirs_in es once ino = go (find (names.is_of_ino ino) es) refl
  where
    marked : (d : NameEntry) → names.is_of_ino ino d ≡ true → Has d es → (b : Bool) → d.directory ≡ b → list_any (dir_in ino) es ≡ b
    marked d p h true m = some_passes (dir_in ino) es d h (and_both (d.ino == ino) d.directory p m)
    marked d p h false m = none_any (dir_in ino) es (λ x i. other x i (x.ino == ino) refl)
      where
        other : (x : NameEntry) → Has x es → (b : Bool) → (x.ino == ino) ≡ b → dir_in ino x ≡ false
        other x i false q = and_left (x.ino == ino) x.directory q
        other x i true q = and_right (x.ino == ino) x.directory (ap (λ (y : NameEntry). y.directory) (one_of es once ino d x p h i q) ∙ m)

    go : (o : Option NameEntry) → find (names.is_of_ino ino) es ≡ o → list_any (dir_in ino) es ≡ unwrap_or (mark_of o) false
    go None q = none_any (dir_in ino) es (λ x i. and_left (x.ino == ino) x.directory (none_has (names.is_of_ino ino) es q x i))
    go (Some d) q = let z = found_at (names.is_of_ino ino) es d q in marked d z.0 z.1 d.directory refl

-- no entry has the root's inode
no_root : (n : Names) → IsSound n → (x : NameEntry) → Has x n.entries → (x.ino == names.ROOT) ≡ false
no_root n s x i = let l = (s.numbers x i).0 in ne_eqb x.ino names.ROOT (λ q. omega (arith, l, q))

pub record IsKind (t : Tree) (ino : ℕ) (kind : Option Bool) : Type 0 where
  pub dir : trees.is_dir ino t ≡ unwrap_or kind false
  pub file : trees.is_file ino t ≡ not (unwrap_or kind true)

pub kind_is : (n : Names) → IsSound n → (ino : ℕ) → IsKind (tree_of n) ino (names.kind_of n ino)
kind_is n s ino = go (ino == names.ROOT) refl
  where
    go : (b : Bool) → (ino == names.ROOT) ≡ b → IsKind (tree_of n) ino (if b then Some true else mark_of (names.entry_of_ino n ino))
    go true q =
        record {
          dir = ap (λ b. b || list_any (trees.is_dir_of ino) (map entry_of n.entries)) q;
          file =
              any_as (λ e. (e.ino == ino) && not e.directory) entry_of n.entries
              ∙ none_any (file_in ino) n.entries (λ x i. and_left (x.ino == ino) (not x.directory)
              (ap (λ m. x.ino == m) (eqb-true ino names.ROOT q) ∙ no_root n s x i));
        }
    go false q =
        record {
          dir =
              ap (λ b. b || list_any (trees.is_dir_of ino) (map entry_of n.entries)) q
              ∙ (any_as (trees.is_dir_of ino) entry_of n.entries ∙ dirs_in n.entries s.inodes ino);
          file = any_as (λ e. (e.ino == ino) && not e.directory) entry_of n.entries ∙ files_in n.entries s.inodes ino;
        }

-- an entry's own kind
pub kind_at : (n : Names) → IsSound n → (e : NameEntry) → Has e n.entries → names.kind_of n e.ino ≡ Some e.directory
kind_at n s e h = if_false (e.ino == names.ROOT) (Some true) (mark_of (names.entry_of_ino n e.ino)) (no_root n s e h) ∙ go (names.entry_of_ino n e.ino) refl
  where
    go : (o : Option NameEntry) → names.entry_of_ino n e.ino ≡ o → mark_of o ≡ Some e.directory
    go None q = clash (eq-eqb e.ino e.ino refl) (none_has (names.is_of_ino e.ino) n.entries q e h)
    go (Some d) q =
        let z = found_at (names.is_of_ino e.ino) n.entries d q in
        ap (λ (y : NameEntry). Some y.directory) (s.inodes d e z.1 h (eqb-true d.ino e.ino z.0))

pub file_at : (n : Names) → IsSound n → (e : NameEntry) → Has e n.entries → names.is_file n e.ino ≡ not e.directory
file_at n s e h = ap (λ k. not (unwrap_or k true)) (kind_at n s e h)

-- a directory lies in the root or has an entry
pub directory_is : (n : Names) (ino : ℕ) → names.kind_of n ino ≡ Some true → IsDirectory n.entries ino
directory_is n ino k = go (ino == names.ROOT) refl k
  where
    marked : (o : Option NameEntry) → names.entry_of_ino n ino ≡ o → mark_of o ≡ Some true → IsDirectory n.entries ino
    marked None q m = cc
    marked (Some d) q m = let z = found_at (names.is_of_ino ino) n.entries d q in inr (d, z.1, eqb-true d.ino ino z.0, is m)
      where
        is : Some d.directory ≡ Some true → d.directory ≡ true
        is m = cc

    go : (b : Bool) → (ino == names.ROOT) ≡ b → (if b then Some true else mark_of (names.entry_of_ino n ino)) ≡ Some true → IsDirectory n.entries ino
    go true q m = inl (eqb-true ino names.ROOT q)
    go false q m = marked (names.entry_of_ino n ino) refl m

-- Refusals.
abbrev pub code_or_0 : Option EntryRefusal → ℕ
code_or_0 None = 0
code_or_0 (Some r) = names.code_of r

pub dir_fault : (t : Tree) (ino : ℕ) (kind : Option Bool) → IsKind t ino kind → trees.fault_of_dir t ino ≡ code_or_0 (names.kind_refusal kind)
dir_fault t ino None k =
    if_false (trees.is_dir ino t) 0 (if trees.is_file ino t then 3 else 1) k.dir ∙ if_false (trees.is_file ino t) 3 1 k.file
dir_fault t ino (Some false) k =
    if_false (trees.is_dir ino t) 0 (if trees.is_file ino t then 3 else 1) k.dir ∙ if_true (trees.is_file ino t) 3 1 k.file
dir_fault t ino (Some true) k = if_true (trees.is_dir ino t) 0 (if trees.is_file ino t then 3 else 1) k.dir

byte_same : (b : ℕ) → trees.is_name_byte b ≡ names.is_name_byte b
byte_same b = go (names.is_between 97 122 b)
  where
    go : (x : Bool) →
        ((x || names.is_between 65 90 b) || (names.is_between 48 57 b || ((b == 46) || ((b == 95) || (b == 45)))))
        ≡ (x || (names.is_between 65 90 b || (names.is_between 48 57 b || ((b == 46) || ((b == 95) || (b == 45))))))
    go true = refl
    go false = refl

good_same : (name : List ℕ) → trees.is_good name ≡ names.is_good name
unfolding names.is_good
good_same name =
    ap (λ b. names.is_between 1 64 (length name) && (b && not (names.is_dots name)))
    (all_same trees.is_name_byte names.is_name_byte byte_same name)

pub place_fault : (n : Names) → IsSound n → (dir : ℕ) (name : List ℕ) →
    trees.fault_of (tree_of n) dir name ≡ code_or_0 (names.place_refusal n dir name)
unfolding names.place_refusal
place_fault n s dir name = go (names.kind_of n dir) (kind_is n s dir)
  where
    rest : (k : Option Bool) → IsKind (tree_of n) dir k → (b : Bool) → trees.is_good name ≡ b → (x : Bool) → trees.is_dir dir (tree_of n) ≡ x →
        trees.fault_of (tree_of n) dir name ≡ (if x && not b then 7 else trees.fault_of_dir (tree_of n) dir)
    rest k h b g x d =
        ap (λ y. if y && not (trees.is_good name) then 7 else trees.fault_of_dir (tree_of n) dir) d
        ∙ ap (λ y. if x && not y then 7 else trees.fault_of_dir (tree_of n) dir) g

    named : (b : Bool) → (if not b then 7 else 0) ≡ code_or_0 (if b then None else Some refusals.BadName)
    named true = refl
    named false = refl

    go : (k : Option Bool) → IsKind (tree_of n) dir k →
        trees.fault_of (tree_of n) dir name ≡ code_or_0 (option_or (names.kind_refusal k) (names.name_refusal name))
    go None h = rest None h (names.is_good name) (good_same name) false h.dir ∙ dir_fault (tree_of n) dir None h
    go (Some false) h = rest (Some false) h (names.is_good name) (good_same name) false h.dir ∙ dir_fault (tree_of n) dir (Some false) h
    go (Some true) h =
        rest (Some true) h (names.is_good name) (good_same name) true h.dir
        ∙ (ap (λ m. if not (names.is_good name) then 7 else m) (dir_fault (tree_of n) dir (Some true) h) ∙ named (names.is_good name))

-- a place that isn't refused is in a directory
pub place_is : (n : Names) (dir : ℕ) (name : List ℕ) → names.place_refusal n dir name ≡ None → IsDirectory n.entries dir
unfolding names.place_refusal
place_is n dir name q = directory_is n dir (go (names.kind_of n dir) q)
  where
    go : (k : Option Bool) → option_or (names.kind_refusal k) (names.name_refusal name) ≡ None → k ≡ Some true
    go None q = cc
    go (Some false) q = cc
    go (Some true) q = refl

pub is_refused : (t : Tree) (r : EntryRefusal) (made : Option Made) → trees.unless t (names.code_of r) made ≡ trees.refuses t (names.code_of r)
is_refused t refusals.NoEntry made = refl
is_refused t refusals.Exists made = refl
is_refused t refusals.NotDir made = refl
is_refused t refusals.IsDir made = refl
is_refused t refusals.NotEmpty made = refl
is_refused t refusals.Cycle made = refl
is_refused t refusals.BadName made = refl
is_refused t refusals.TooMany made = refl

-- the entry at a place
pub entry_same : (n : Names) (dir : ℕ) (name : List ℕ) → trees.entry_at (tree_of n) dir name ≡ option_map entry_of (names.entry_at n dir name)
entry_same n dir name = find_as (trees.is_named dir name) entry_of n.entries

-- Directories that lie in others.
only_directories : (ino : ℕ) (es : List NameEntry) → ((x : NameEntry) → Has x es → (x.ino == ino) ≡ true → x.directory ≡ true) →
    find (dir_in ino) es ≡ find (names.is_of_ino ino) es
only_directories ino [] h = refl
only_directories ino (x ∷ xs) h = go (x.ino == ino) refl (only_directories ino xs (λ y i. h y (inr i)))
  where
    go : (b : Bool) → (x.ino == ino) ≡ b → find (dir_in ino) xs ≡ find (names.is_of_ino ino) xs →
        cond (dir_in ino x) (Some x) (find (dir_in ino) xs) ≡ cond b (Some x) (find (names.is_of_ino ino) xs)
    go true q i = ap (λ b. cond b (Some x) (find (dir_in ino) xs)) (and_both (x.ino == ino) x.directory q (h x (inl refl) q))
    go false q i = ap (λ b. cond b (Some x) (find (dir_in ino) xs)) (and_left (x.ino == ino) x.directory q) ∙ i

directories : (n : Names) → IsSound n → (ino : ℕ) → IsDirectory n.entries ino → (x : NameEntry) → Has x n.entries → (x.ino == ino) ≡ true → x.directory ≡ true
directories n s ino (inl r) x i q = clash q (ap (λ m. x.ino == m) r ∙ no_root n s x i)
directories n s ino (inr d) x i q = ap (λ (y : NameEntry). y.directory) (s.inodes x d.0 i d.1 (eqb-true x.ino ino q ∙ sym d.2)) ∙ d.3

pub lies_same : (n : Names) → IsSound n → (top depth dir : ℕ) → IsDirectory n.entries dir →
    trees.lies_in (tree_of n) top depth dir ≡ names.is_under_in n top depth dir
unfolding trees.lies_in names.is_under_in
lies_same n s top zero dir d = refl
lies_same n s top (suc depth) dir d =
    ap (λ b. (dir == top) || b)
    (ap (is_any (λ e. trees.lies_in (tree_of n) top depth e.dir))
    (find_as (trees.is_dir_of dir) entry_of n.entries ∙ ap (option_map entry_of) (only_directories dir n.entries (directories n s dir d)))
    ∙ go (names.entry_of_ino n dir) refl (λ x i. lies_same n s top depth x i))
  where
    go : (o : Option NameEntry) → names.entry_of_ino n dir ≡ o →
        ((x : ℕ) → IsDirectory n.entries x → trees.lies_in (tree_of n) top depth x ≡ names.is_under_in n top depth x) →
        is_any (λ e. trees.lies_in (tree_of n) top depth e.dir) (option_map entry_of o) ≡ names.climb (names.is_under_in n top depth) o
    go None q h = refl
    go (Some e) q h = h e.dir (s.within e (found_at (names.is_of_ino dir) n.entries e q).1)
