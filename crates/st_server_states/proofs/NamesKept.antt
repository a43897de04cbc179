-- Names: what always holds of a server's names stays after each change.
use Rattle.st_lemmas.proofs.Words
use Words.{◌≡◌, ℕ, ◌-◌, ◌^◌, ◌<◌, Bool, true, false, not, List, [], ◌∷◌, ◌++◌, length, Option, Some, None, arith, nat_lt, is_some, Result, Ok, Err, ltb-true, map, NameEntry, EntryRefusal, AllByRecursion}
use Words.Names as names
use Words.Names.{Names, Changed}
use Words.Tables.{cond_either}
use Rattle.std.specs.Option.{option_or}
use Rattle.st_extents.proofs.Owned.{every_filter}
use Rattle.st_namespace.specs.Order.{IsInOrder}
use Rattle.st_namespace.proofs.NameOrder.{added_in_order, gone_in_order, renamed_in_order}
use Rattle.st_rules.specs.declared.names.EntryRefusal.TheVariants.{Cycle, Exists, NoEntry, NotEmpty, TooMany}
use Rattle.st_server.proofs.NameChanges as told
use Rattle.st_server.specs.Invariants.{AreNamed}
use Rattle.st_snapshot.specs.Snapshots.{EntryFits}

pub each_last : {A : Type 0} (P : A → Type 0) (xs : List A) (x : A) → AllByRecursion P xs → P x → AllByRecursion P (xs ++ x ∷ [])
each_last P [] x a p = (p, tt)
each_last P (y ∷ xs) x a p = (a.0, each_last P xs x a.1 p)

-- names that are in order and whose numbers have their widths
pub record HaveOrder (n : Names) : Type 0 where
  pub order : IsInOrder n
  pub next : n.next < 2 ^ 32
  pub limit : n.limit < 2 ^ 32
  pub entries : AllByRecursion EntryFits n.entries

-- after a change of names, if it is not refused
abbrev pub OrderBy : Result Changed EntryRefusal → Type 0
OrderBy (Ok d) = HaveOrder d.names
OrderBy (Err r) = Unit {0}

-- a name that can be spelled in a snapshot
abbrev pub IsBrief : List ℕ → Type 0
IsBrief name = length name < 2 ^ 64

module _ (n : Names) (o : HaveOrder n) where
  -- An entry is added.
  added_order : (dir : ℕ) (name : List ℕ) (directory : Bool) → n.next < 2 ^ 32 - 1 → dir < 2 ^ 32 → IsBrief name → is_some (names.entry_at n dir name) ≡ false →
      names.live_inodes n < n.limit →
      HaveOrder (names.added n dir name directory).names
  unfolding names.added
  added_order dir name directory b d l new few = record {
    order = added_in_order n dir name directory o.order new few;
    next = omega (arith, b);
    limit = o.limit;
    entries = each_last EntryFits n.entries (names.new_entry n dir name directory) o.entries (record { dir = d; ino = omega (arith, b); name = l });
  }

  add_at_order : (dir : ℕ) (name : List ℕ) (directory : Bool) (p : Option EntryRefusal) → n.next < 2 ^ 32 - 1 → dir < 2 ^ 32 → IsBrief name →
      OrderBy (names.add_at n dir name directory p)
  unfolding names.add_at names.add_beside names.add_new
  add_at_order dir name directory (Some r) b d l = tt
  add_at_order dir name directory None b d l =
      cond_either OrderBy (is_some (names.entry_at n dir name)) (Err Exists) (names.add_new n dir name directory) (λ q. tt)
      (λ q. cond_either OrderBy (nat_lt (names.live_inodes n) n.limit) (Ok (names.added n dir name directory)) (Err TooMany)
      (λ r. added_order dir name directory b d l q (ltb-true (names.live_inodes n) n.limit r)) (λ r. tt))

  pub create_order : (dir : ℕ) (name : List ℕ) → n.next < 2 ^ 32 - 1 → dir < 2 ^ 32 → IsBrief name → OrderBy (names.create n dir name)
  unfolding names.create names.add
  create_order dir name b d l = add_at_order dir name false (names.place_refusal n dir name) b d l

  pub mkdir_order : (dir : ℕ) (name : List ℕ) → n.next < 2 ^ 32 - 1 → dir < 2 ^ 32 → IsBrief name → OrderBy (names.mkdir n dir name)
  unfolding names.mkdir names.add
  mkdir_order dir name b d l = add_at_order dir name true (names.place_refusal n dir name) b d l

  -- An entry goes.
  found_order : (dir : ℕ) (name : List ℕ) (p : Option NameEntry) → OrderBy (names.remove_found n dir name p)
  unfolding names.remove_found names.remove_entry names.without
  found_order dir name None = tt
  found_order dir name (Some e) =
      cond_either OrderBy (names.is_full n e) (Err NotEmpty) (Ok (names.without n dir name e)) (λ q. tt)
      (λ q. record {
        order = gone_in_order n dir name o.order;
        next = o.next;
        limit = o.limit;
        entries = every_filter EntryFits (λ d. not (names.is_entry_at dir name d)) n.entries o.entries;
      })

  remove_at_order : (dir : ℕ) (name : List ℕ) (p : Option EntryRefusal) → OrderBy (names.remove_at n dir name p)
  unfolding names.remove_at
  remove_at_order dir name (Some r) = tt
  remove_at_order dir name None = found_order dir name (names.entry_at n dir name)

  pub remove_order : (dir : ℕ) (name : List ℕ) → OrderBy (names.remove n dir name)
  unfolding names.remove
  remove_order dir name = remove_at_order dir name (names.place_refusal n dir name)

  -- An entry moves.
  module _ (dir : ℕ) (name : List ℕ) (dir2 : ℕ) (name2 : List ℕ) (d : dir2 < 2 ^ 32) (l : IsBrief name2) where
    moved_fits : (e : NameEntry) → EntryFits e → EntryFits (names.move_entry dir name dir2 name2 e)
    unfolding names.moved
    moved_fits e f =
        cond_either EntryFits (names.is_entry_at dir name e) (names.moved dir2 name2 e) e (λ q. record { dir = d; ino = f.ino; name = l }) (λ q. f)

    all_moved : (es : List NameEntry) → AllByRecursion EntryFits es → AllByRecursion EntryFits (map (names.move_entry dir name dir2 name2) es)
    all_moved [] a = tt
    all_moved (e ∷ es) a = (moved_fits e a.0, all_moved es a.1)

    free_order : (e : NameEntry) → is_some (names.entry_at n dir2 name2) ≡ false → OrderBy (names.rename_free n dir name dir2 name2 e)
    unfolding names.rename_free names.renamed
    free_order e free =
        cond_either OrderBy (names.comes_under_itself n dir2 e) (Err Cycle) (Ok (names.renamed n dir name dir2 name2 e)) (λ q. tt)
        (λ q. record {
          order = renamed_in_order dir name dir2 name2 n o.order free;
          next = o.next;
          limit = o.limit;
          entries = all_moved n.entries o.entries;
        })

    entry_order : (p : Option NameEntry) → OrderBy (names.rename_found n dir name dir2 name2 p)
    unfolding names.rename_found names.rename_entry
    entry_order None = tt
    entry_order (Some e) =
        cond_either OrderBy (is_some (names.entry_at n dir2 name2)) (Err Exists) (names.rename_free n dir name dir2 name2 e) (λ q. tt) (λ q. free_order e q)

    rename_at_order : (p : Option EntryRefusal) → OrderBy (names.rename_at n dir name dir2 name2 p)
    unfolding names.rename_at
    rename_at_order (Some r) = tt
    rename_at_order None = entry_order (names.entry_at n dir name)

    pub rename_order : OrderBy (names.rename n dir name dir2 name2)
    unfolding names.rename
    rename_order = rename_at_order (option_or (names.place_refusal n dir name) (names.place_refusal n dir2 name2))

-- what always holds of names
pub record NamesMayBe (n : Names) : Type 0 where
  pub order : HaveOrder n
  pub named : AreNamed n

abbrev pub MayBeBy : Result Changed EntryRefusal → Type 0
MayBeBy (Ok d) = NamesMayBe d.names
MayBeBy (Err r) = Unit {0}

pub both : (n : Names) (h : AreNamed n) (r : Result Changed EntryRefusal) → OrderBy r → told.ChangesBy n h r → MayBeBy r
both n h (Ok d) o c = record { order = o; named = c.named }
both n h (Err r) o c = tt
